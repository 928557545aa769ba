pub mod Rows
pub mod RingSteps
pub mod Kept
pub mod Refused
pub mod RuleLaws
