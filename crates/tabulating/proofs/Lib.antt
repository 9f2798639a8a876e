pub mod MadeArrays
pub mod PlaneBits
pub mod PlaneTurns
pub mod UntouchedPlanes
pub mod ShownPlanes
