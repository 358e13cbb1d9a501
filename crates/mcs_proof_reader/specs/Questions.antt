-- How the questions and the states of a report are read, as functions by which the code is told.
use Rattle.std.specs.Prelude.{ℕ, ◌+◌, bit_xor, zero, suc, nat_eq, nat_lt, Bool, true, false, ◌&&◌, ◌||◌, cond, List, [], ◌∷◌, map, take, drop, codes, Option, Some, None}
use Rattle.std.specs.Fmt.{decimal}
use Rattle.std.specs.Option.{option_and_then, option_map_or}
use Rattle.std.specs.Str.{bytes_eq}
use Rattle.mcs_sets.specs.Sets.{has, members, minus}
use Rattle.mcs_system.specs.Plain.{Bridge, Context, System}
use Rattle.mcs_system.specs.Imports.{rules_into}
use Rattle.mcs_system.specs.Systems.{variables}
use Rattle.mcs_system.specs.Texts.{belief_text}
use Rattle.mcs_spelling.specs.Words.{after_prefix, place_of_byte, set_of, guarded, ◌>>=◌}
use Rattle.mcs_proof_lines.specs.Walks.{At, everything}

-- ---- the texts of rules and variables, and of the numbers from k on
abbrev pub rule_names : System → List (List ℕ)
rule_names m = map (λ (b : Bridge). b.name) m.bridges

abbrev pub variable_texts : System → List (List ℕ)
variable_texts m = map (belief_text m) (variables m)

abbrev pub decimals : ℕ → ℕ → List (List ℕ)
decimals k zero = []
decimals k (suc n) = decimal k ∷ decimals (k + 1) n

-- the numbers that a default may have
abbrev pub ten : List (List ℕ)
ten = decimals 1 10

-- ---- a question: a context, and rules into it
-- the number of the context of this name, of those from number k on
abbrev pub context_from : List ℕ → ℕ → List Context → Option ℕ
context_from name k [] = None
context_from name k (c ∷ cs) = cond (bytes_eq c.name name) (Some k) (context_from name (k + 1) cs)

abbrev pub rules_of_text : System → List ℕ → ℕ → Option (ℕ × ℕ)
rules_of_text m text i = option_and_then (λ x. guarded (nat_eq (minus x (rules_into m i)) 0) (i, x)) (set_of (rule_names m) everything text)

unfoldable pub question_of : System → List ℕ → Option (ℕ × ℕ)
question_of m line = do
  rest ← after_prefix (codes "answer ") line
  space ← place_of_byte 32 rest
  context ← context_from (take space rest) 0 m.contexts
  rules_of_text m (drop (space + 1) rest) context

-- by context, and then by rule set
abbrev pub comes_after : Option (ℕ × ℕ) → ℕ × ℕ → Bool
comes_after last q = option_map_or (λ (b : ℕ × ℕ). nat_lt b.0 q.0 || (nat_eq b.0 q.0 && nat_lt b.1 q.1)) last true

-- one that comes after the last
unfoldable pub next_question : System → Option (ℕ × ℕ) → List ℕ → Option (ℕ × ℕ)
next_question m last line = option_and_then (λ q. guarded (comes_after last q) q) (question_of m line)

-- ---- states
abbrev pub first_of : List ℕ → Option ℕ
first_of [] = None
first_of (k ∷ ks) = Some k

-- whether one state comes before the other: it has the least variable in which they differ
unfoldable pub is_state_before : ℕ → ℕ → Bool
is_state_before a b = option_map_or (has a) (first_of (members (bit_xor a b))) false

abbrev pub state_after : Option ℕ → ℕ → Bool
state_after last σ = option_map_or (λ before. is_state_before before σ) last true

-- one that comes after the last, of the variables that are allowed
unfoldable pub state_in_words : System → ℕ → Option ℕ → List ℕ → Option ℕ
state_in_words m allowed last line = option_and_then (λ σ. guarded (state_after last σ) σ) (option_and_then (set_of (variable_texts m) allowed) (after_prefix (codes "state ") line))

-- the states that are next, and where the reader is then
abbrev pub with_state : Option ℕ → (ℕ → (List ℕ × At)) → At → (List ℕ × At)
with_state None later here = ([], here)
with_state (Some σ) later here = (σ ∷ (later σ).0, (later σ).1)

abbrev pub states_from : System → ℕ → Option ℕ → ℕ → List (List ℕ) → List ℕ → (List ℕ × At)
states_from m allowed last n [] tail = ([], record { taken = n; rest = []; tail = tail })
states_from m allowed last n (line ∷ rest) tail =
    with_state (state_in_words m allowed last line) (λ σ. states_from m allowed (Some σ) (n + 1) rest tail) (record { taken = n; rest = line ∷ rest; tail = tail })

unfoldable pub states_at : System → ℕ → Option ℕ → At → (List ℕ × At)
states_at m allowed last at = states_from m allowed last at.taken at.rest at.tail
