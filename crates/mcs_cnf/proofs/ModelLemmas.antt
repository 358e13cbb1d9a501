-- A model that is known from one entailment to the next.
use Rattle.std.proofs.Common.{ℕ, List, Option, IfSome}
use Rattle.mcs_system.specs.Plain.{Name, Formula}
use Rattle.mcs_cnf.specs.Entailments.{Entailment, Yes, No, IsModelAt, IsAcceptedEntailment, model_after}

pub model-kept : (names : List Name) (fs : List Formula) (g : Formula) (model : Option ℕ) (e : Entailment) → IfSome model (IsModelAt names fs) → IsAcceptedEntailment names fs g e → IfSome (model_after model e) (IsModelAt names fs)
model-kept names fs g model (Yes steps) known accepted = known
model-kept names fs g model (No places) known refuted = refuted.model
