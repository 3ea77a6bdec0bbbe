pub mod PlanFrames
pub mod Clean
