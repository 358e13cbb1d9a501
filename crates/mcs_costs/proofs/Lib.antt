pub mod CostLemmas
pub mod CheapestLemmas
pub mod StopLemmas
pub mod ExistLemmas
pub mod WorkedCosts
