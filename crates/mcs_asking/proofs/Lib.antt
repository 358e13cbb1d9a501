pub mod AskingLemmas
pub mod KindItems
pub mod CoverLemmas
pub mod KindLemmas
pub mod AnswerLemmas
