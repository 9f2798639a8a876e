pub mod CardRows
pub mod Refusals
pub mod Worth
pub mod Lent
