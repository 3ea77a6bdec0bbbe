mod BothProofs
mod OneSender
mod OneFrame
mod FirstFrame
mod FrameEnd
mod NextFrames
mod ThirdBit
mod PassedFrames
mod SentFrames
mod TakesPart
mod FamilyPlans
mod CleanPlans
mod CleanLines
mod FrameTimes
mod OneListener
mod BoundedWaits
mod HeardFrames
pub mod Callers
