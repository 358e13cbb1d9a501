-- What is known of a context, and what its oracle was asked for it.
use Rattle.std.specs.Prelude.{◌≡◌, ℕ, ◌++◌, ◌<◌, nat_eq, Bool, true, false, cond, ◌⊎◌, List, [], ◌∷◌, map, drop, Option, Some, None}
use Rattle.std.specs.List.{AllByRecursion}
use Rattle.mcs_sets.specs.Orders.{StateBefore}
use Rattle.mcs_base.specs.Listings.{IsAmong, IsAscending, IsInventory, IsListing}
use Rattle.mcs_system.specs.Plain.{System}
use Rattle.mcs_system.specs.Systems.{IsAcceptedPart}
use Rattle.mcs_system.specs.Levels.{MaySupply}
use Rattle.mcs_rows.specs.Local.{Answered, AreAnswered}
use Rattle.mcs_rows.specs.Answers.{answered_of}
use Rattle.mcs_states.specs.Oracles.{OracleState, Lacks, with_journal}
use Rattle.mcs_states.specs.declared.halt.Halt.{Halt}
use Rattle.mcs_states.specs.declared.halt.Halt.TheVariants.{Spent, Missing, Memory}
use Rattle.mcs_states.specs.declared.stop.OracleStop.{OracleStop}
use Rattle.mcs_states.specs.declared.stop.OracleStop.TheVariants as stops
use Rattle.mcs_node.specs.declared.known.Known as code

-- what is known of a context: its answers, and what it may supply
pub record Knowledge : Type 0 where
  pub answers : List Answered
  pub supplies : List ℕ

abbrev pub knowledge_of : code.Known → Knowledge
knowledge_of k = record { answers = map answered_of k.answers.items; supplies = k.supplies.items }

abbrev pub questions_in : List Answered → List ℕ
questions_in answers = map (λ (a : Answered). a.question) answers

-- ---- answers
-- the answer has what context i accepts with the question
abbrev pub IsRight : System → ℕ → Answered → Type 0
IsRight m i a = IsListing (IsAcceptedPart m i a.question) StateBefore a.parts

-- each of the answers has
abbrev pub AreRight : System → ℕ → List Answered → Type 0
AreRight m i answers = AllByRecursion (IsRight m i) answers

-- the oracle is one of context i of the system, and was asked just these questions, none of which it lacks
pub record HasAsked (m : System) (i : ℕ) (o : OracleState) (answers : List Answered) : Type 0 where
  pub system : o.system ≡ m
  pub context : o.context ≡ i
  pub journal : IsInventory (λ x. IsAmong x (questions_in answers)) o.journal
  pub held : (x : ℕ) → IsAmong x (questions_in answers) → ¬ Lacks o x

-- all questions of the level were answered, and what may be supplied is known
pub record IsKnown (m : System) (level i : ℕ) (k : Knowledge) : Type 0 where
  pub answered : AreAnswered m level i k.answers
  pub supplies : IsListing (MaySupply m level i) StateBefore k.supplies

-- what is known once the greatest level done is this one: nothing where no level was done
abbrev pub IsKnownAt : System → Option ℕ → ℕ → Knowledge → Type 0
IsKnownAt m None i k = k.answers ≡ []
IsKnownAt m (Some level) i k = IsKnown m level i k

-- ---- asking
-- the oracle was asked these questions, one after the other, and the answers are those to them, in order
pub record HasAskedAll (before after : OracleState) (asked : List ℕ) (answers : List Answered) : Type 0 where
  pub questions : questions_in answers ≡ asked
  pub right : AreRight before.system before.context answers
  pub held : (x : ℕ) → IsAmong x asked → ¬ Lacks before x
  pub journal : after ≡ with_journal (before.journal ++ asked) before

-- why the questions to context i stopped: the oracle lacks one of them, or memory ran out
abbrev pub HasAskingCause : ℕ → OracleState → List ℕ → Halt → Type 0
HasAskingCause i o asked (Spent level drawn) = ⊥
HasAskingCause i o asked (Missing context x) = (context ≡ i) × IsAmong x asked × Lacks o x
HasAskingCause i o asked Memory = Unit {0}

-- the halt for an oracle that stopped
abbrev pub halt_from_stop : ℕ → OracleStop → Halt
halt_from_stop context (stops.Missing x) = Missing context x
halt_from_stop context stops.Memory = Memory

-- ---- what was asked before
-- the first of the questions is x
abbrev pub first_is : ℕ → List ℕ → Bool
first_is x [] = false
first_is x (y ∷ ys) = nat_eq y x

-- of the questions asked those that were not asked before, where both ascend, and what was asked before is among them
abbrev pub new_of : List ℕ → List ℕ → List ℕ
new_of before [] = []
new_of before (x ∷ xs) = cond (first_is x before) (new_of (drop 1 before) xs) (x ∷ new_of before xs)

-- what was asked before ascends, as what is asked does, and is among it
pub record IsAmongAsked (before asked : List ℕ) : Type 0 where
  pub before_ascending : IsAscending (λ a b. a < b) before
  pub ascending : IsAscending (λ a b. a < b) asked
  pub among : (x : ℕ) → IsAmong x before → IsAmong x asked

-- a is taken from the front of those given before, where that is to the question x, else from the front of the new ones
abbrev pub IsTaken : ℕ → Answered → List Answered → List Answered → List Answered → List Answered → Type 0
IsTaken x a before before' new new' =
    ((first_is x (questions_in before) ≡ true) × (before ≡ a ∷ before') × (new ≡ new'))
    ⊎ ((first_is x (questions_in before) ≡ false) × (before ≡ before') × (new ≡ a ∷ new'))
