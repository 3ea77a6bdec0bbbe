mod Queues
mod Nodes
mod Lines
mod Fitting
mod Calm
