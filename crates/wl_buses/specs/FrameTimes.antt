pub mod BusTimes
pub mod PlanTimes
pub mod Times
