pub mod Points
pub mod Examples
