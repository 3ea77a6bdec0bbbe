mod Rows
pub mod Greatest
pub mod Grown
pub mod Harder
pub mod Lengths
pub mod Lone
pub mod Clocks
pub mod Nodes
pub mod Sound
pub mod WayRows
pub mod RoomsLemmas
pub mod FieldsLemmas
