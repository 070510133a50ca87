pub mod Halves
pub mod Coding
pub mod Runs
pub mod SureRows
pub mod SureArms
pub mod SureRuns
pub mod Examples
pub mod Unique
