pub mod Promises
pub mod ReadPromiseLaws
pub mod WritingAnswers
pub mod BothWays
pub mod Refusals
pub mod Addresses
pub mod Services
pub mod Readings
