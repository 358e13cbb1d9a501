pub mod SupplyLemmas
pub mod RuleLemmas
pub mod StepLemmas
pub mod QuietLemmas
pub mod DoneLemmas
pub mod AlikeLemmas
pub mod TotalLemmas
pub mod GreatestLemmas
pub mod EventLemmas
pub mod WorkedLemmas
pub mod UnsoundLemmas
pub mod ExampleLemmas
pub mod ExistenceLemmas
pub mod ReplayLemmas
pub mod RunLemmas
pub mod PlayingLemmas
pub mod PlayedLemmas
mod AskingLemmas
mod AnswerLemmas
pub mod HandlingLemmas
mod BeginLemmas
mod GrantLemmas
mod KeptRuleLemmas
mod TakingLemmas
mod SendingLemmas
mod LocalRowLemmas
mod GrantedLemmas
