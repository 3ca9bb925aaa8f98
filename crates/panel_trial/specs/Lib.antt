pub mod Chains
pub mod Found
pub mod Decisions
pub mod DecisionLaws
pub mod PassedRanges
