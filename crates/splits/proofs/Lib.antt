pub mod Backward
pub mod Effects
pub mod Greedy
pub mod LatestRuns
pub mod Limited
pub mod Segments
