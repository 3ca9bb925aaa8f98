pub mod CornerRows
pub mod RunCorners
