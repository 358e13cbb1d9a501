pub mod Validity
pub mod Findings
pub mod Collected
pub mod Certified
pub mod Answers
pub mod Judging
pub mod Relisting
pub mod Checked
