pub mod Shapes
pub mod Numbers
pub mod Json
pub mod Csv
pub mod Ranks
pub mod Aligned
pub mod Formats
