-- What a letter is seen as, and when it is true.
use Rattle.std.specs.Prelude.{◌≡◌, ℕ, Bool, true, false, List, Vec, ◌⊎◌, refl}
use Rattle.std.specs.Coded.{Coded, code_by, coded×, coded⊎, coded_ℕ, coded_list}
use Rattle.std.proofs.Common.{inl, inr}
use Rattle.std.specs.Arc.{arc_value}
use Rattle.std.specs.declared.alloc.Global.{Global}
use Rattle.std.specs.declared.sync.Arc.{Arc}
use Rattle.mcs_base.specs.Listings.{IsListing}
use Rattle.mcs_sets.specs.Orders.{StateBefore}
use Rattle.mcs_system.specs.Plain.{System}
use Rattle.mcs_system.specs.Codes.{coded_system}
use Rattle.mcs_system.specs.Levels.{IsQuestionAt, MaySupply}
use Rattle.mcs_states.specs.Codes.{coded_halt}
use Rattle.mcs_states.specs.declared.halt.Halt.{Halt}
use Rattle.mcs_states.specs.declared.halt.Halt.TheVariants.{Spent, Missing, Memory}
use Rattle.mcs_node.specs.Rounds.{Supplies, Stamp, stamp}
use Rattle.mcs_node.specs.declared.content.Content as code

-- what the sender may supply, or that it stopped, and why
pub data ContentData : Type 0 where
  Supply : (states : List ℕ) → ContentData
  Stop : (halt : Halt) → ContentData

pub record LetterData : Type 0 where
  -- the system of its plan
  pub plan : System
  pub level : ℕ
  pub from : ℕ
  pub to : ℕ
  pub content : ContentData

-- the states of a list that is shared
abbrev pub shared_states : Arc (Vec ℕ Global) Global → List ℕ
shared_states list = (arc_value list).items

abbrev pub content_of : code.Content → ContentData
content_of (code.TheVariants.Supply states) = Supply (shared_states states)
content_of (code.TheVariants.Stop halt) = Stop halt

abbrev pub is_stop : ContentData → Bool
is_stop (Supply states) = false
is_stop (Stop halt) = true

abbrev pub stamp_of : LetterData → Stamp
stamp_of l = stamp l.level l.from l.to (is_stop l.content)

-- ---- truth
-- a halt that a round of the level may tell
abbrev pub IsTrueHalt : System → ℕ → Halt → Type 0
IsTrueHalt m level (Spent at drawn) = at ≡ level
IsTrueHalt m level (Missing context x) = IsQuestionAt m level context x
IsTrueHalt m level Memory = Unit {0}

-- a supply is the listing of what the sender may supply, and a stop tells such a halt
abbrev pub IsTrueContent : System → ℕ → ℕ → ContentData → Type 0
IsTrueContent m level from (Supply states) = IsListing (MaySupply m level from) StateBefore states
IsTrueContent m level from (Stop halt) = IsTrueHalt m level halt

pub record IsTrueLetter (l : LetterData) : Type 0 where
  pub fits : Supplies l.plan l.from l.to
  pub says : IsTrueContent l.plan l.level l.from l.content

-- ---- by what a proof tells letters apart
abbrev pub content_parts : ContentData → List ℕ ⊎ Halt
content_parts (Supply states) = inl states
content_parts (Stop halt) = inr halt

abbrev pub content_from : List ℕ ⊎ Halt → ContentData
content_from (inl states) = Supply states
content_from (inr halt) = Stop halt

pub content-again : (c : ContentData) → content_from (content_parts c) ≡ c
content-again (Supply states) = refl
content-again (Stop halt) = refl

abbrev pub coded_content : Coded ContentData
coded_content = code_by (List ℕ ⊎ Halt) (coded⊎ (coded_list coded_ℕ) coded_halt) content_parts content_from content-again

abbrev pub coded_letter : Coded LetterData
coded_letter = code_by (System × (ℕ × (ℕ × (ℕ × ContentData)))) (coded× coded_system (coded× coded_ℕ (coded× coded_ℕ (coded× coded_ℕ coded_content))))
    (λ l. (l.plan, (l.level, (l.from, (l.to, l.content))))) (λ t. record { plan = t.0; level = t.1.0; from = t.1.1.0; to = t.1.1.1.0; content = t.1.1.1.1 }) (λ _. refl)
