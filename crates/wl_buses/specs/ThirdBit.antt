pub mod ThirdFrames
pub mod ThirdNodes
pub mod ThirdStarts
