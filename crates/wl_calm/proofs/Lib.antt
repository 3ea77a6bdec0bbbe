mod Modes
mod Driving
mod Pausing
