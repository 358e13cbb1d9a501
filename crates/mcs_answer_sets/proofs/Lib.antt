pub mod ModelLemmas
