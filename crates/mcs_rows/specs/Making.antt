-- Rows of a context, as they are made of a state at its inputs and of an answer.
use Rattle.std.specs.Prelude.{◌≡◌, ℕ, Bool, ◌&&◌, not, List, [], cond, map, filter, nat_eq, nat_le}
use Rattle.std.specs.List.{flat_map, list_any}
use Rattle.mcs_sets.specs.Sets.{common, union, size}
use Rattle.mcs_base.specs.Antichains.{lies_within}
use Rattle.mcs_base.specs.Listings.{IsAmong}
use Rattle.mcs_system.specs.Imports.{marks_at}
use Rattle.mcs_system.specs.Plain.{System}
use Rattle.mcs_system.specs.Repairs.{allowed_marks}
use Rattle.mcs_system.specs.Rows.{inputs_of, local_of}
use Rattle.mcs_system.specs.Systems.{variables_of}
use Rattle.mcs_table.specs.declared.row.Row.{Row}
use Rattle.mcs_rows.specs.Changed.{acting_into}
use Rattle.mcs_rows.specs.declared.answer.Answer as code

-- whether the part and the state say the same of the inputs of i that are its own variables
abbrev pub agrees : System → ℕ → ℕ → ℕ → Bool
agrees m i state part = nat_eq (common part (inputs_of m i)) (common state (variables_of m i))

-- what the part and the state say of the local variables of i, with these marks
abbrev pub row_with : System → ℕ → ℕ → ℕ → ℕ → Row
row_with m i state marks part = record { state = record { mask = local_of m i; values = common (union part state) (local_of m i) }; marks = marks }

-- whether one of the sets lies within the marks
abbrev pub holds_some : List ℕ → ℕ → Bool
holds_some sets marks = list_any (λ s. lies_within s marks) sets

-- whether few changes, each of them allowed, make x of the rules into i that apply in the state, and hold none of the known sets
abbrev pub is_in_reach : System → ℕ → ℕ → List ℕ → ℕ → ℕ → Bool
is_in_reach m i level known state x = (nat_le (size (marks_at m i state x)) level && nat_eq (common (marks_at m i state x) (allowed_marks m)) (marks_at m i state x)) && not (holds_some known (marks_at m i state x))

-- the rows of the state with an answer: none where what was asked is not in reach of what applies
abbrev pub rows_with : System → ℕ → ℕ → List ℕ → ℕ → code.Answer → List Row
rows_with m i level known state a = cond (is_in_reach m i level known state a.active) (map (row_with m i state (marks_at m i state a.active)) (filter (agrees m i state) a.parts.items)) []

-- the rows of the state with all of the answers
abbrev pub rows_of : System → ℕ → ℕ → List ℕ → List code.Answer → ℕ → List Row
rows_of m i level known answers state = flat_map (rows_with m i level known state) answers

-- a row of the state with the answer to the rules that the pair makes of those that apply
pub record IsChangedRow (m : System) (i pair : ℕ) (answers : List code.Answer) (state : ℕ) (r : Row) : Type 0 where
  pub answer : code.Answer
  pub among : IsAmong answer answers
  pub active : answer.active ≡ acting_into m i pair state
  pub row : IsAmong r (map (row_with m i state (marks_at m i state answer.active)) (filter (agrees m i state) answer.parts.items))
