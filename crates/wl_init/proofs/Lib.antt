mod Chains
mod Rows
