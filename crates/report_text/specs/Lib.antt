pub mod Lines
pub mod RowLaws
pub mod Short
pub mod SegmentText
pub mod ReadTraces
pub mod ReportPromise
pub mod ReportPromiseLaws
pub mod Refusals
