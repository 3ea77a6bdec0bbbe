mod Edges
mod Ranging
mod Refusing
mod Rows
mod Spiking
