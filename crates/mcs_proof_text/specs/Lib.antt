pub mod Lines
pub mod EvidenceLines
pub mod Shapes
pub mod Kinds
pub mod Answers
pub mod Reports
pub mod Proofs
