pub mod ClauseLists
pub mod Denials
pub mod Growing
pub mod Meaning
pub mod Entailments
pub mod Classical
pub mod Laws
pub mod OneProof
