pub mod Places
pub mod Splices
pub mod SpliceLaws
