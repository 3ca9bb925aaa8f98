pub mod Accepted
pub mod MirroredTrial
