-- How the parts of lines are spelled: sets of atoms and of defaults, numbers, literals and steps of resolution.
use Rattle.std.specs.Prelude.{◌≡◌, ℕ, ◌+◌, ◌^◌, ◌<◌, IsTrue, cond, length, List, [], ◌∷◌, ◌++◌, map, codes, Option, Some, None, slice_get, ℤ, pos, negsuc}
use Rattle.std.specs.List.{AllByRecursion, flat_map}
use Rattle.std.specs.Fmt.{decimal}
use Rattle.std.specs.Int.RustNames.{unsigned_abs}
use Rattle.mcs_sets.specs.Sets.{has, members}
use Rattle.mcs_base.specs.Listings.{AreApart}
use Rattle.mcs_system.specs.Plain.{Name}
use Rattle.mcs_text.specs.Separated.{braced}
use Rattle.mcs_trace.specs.Clauses.{IsClause}
use Rattle.mcs_trace.specs.Traces.{Inference}

abbrev pub text_of_name : Option Name → Name
text_of_name None = []
text_of_name (Some n) = n

-- the atom at this place
abbrev pub atom_text : List Name → ℕ → List ℕ
atom_text names k = text_of_name (slice_get names k)

-- the atoms at the places of a set
abbrev pub atoms_text : List Name → ℕ → List ℕ
atoms_text names places = braced (map (atom_text names) (members places))

-- the defaults at the places of a set, by their numbers from 1
abbrev pub default_places_text : ℕ → List ℕ
default_places_text k = decimal (k + 1)

abbrev pub defaults_text : ℕ → List ℕ
defaults_text set = braced (map default_places_text (members set))

-- a literal: its size, with a sign before it where it is negative
abbrev pub literal_sign : ℤ → List ℕ
literal_sign (pos n) = []
literal_sign (negsuc n) = codes "-"

abbrev pub literal_text : ℤ → List ℕ
literal_text l = literal_sign l ++ decimal (unsigned_abs l)

-- each after a space
abbrev pub spaced : List (List ℕ) → List ℕ
spaced texts = flat_map (λ t. codes " " ++ t) texts

-- step LITERALS by CHAIN
unfoldable pub step_text : Inference → List ℕ
step_text s = codes "step" ++ (spaced (map literal_text s.clause) ++ (codes " by" ++ spaced (map decimal s.chain)))

-- ---- what may be spelled
-- the number of a clause, or of a default
abbrev pub IsSmallNumber : ℕ → Type 0
IsSmallNumber n = (0 < n) × (n < 2 ^ 63)

-- a set of literals, and one number of a clause or more
pub record IsTraceStep (s : Inference) : Type 0 where
  pub clause : IsClause s.clause
  pub some : ¬ (s.chain ≡ [])
  pub numbers : AllByRecursion IsSmallNumber s.chain

-- the bytes spell the number; none where it is said that there is none
abbrev pub SpellsNumber : List ℕ → Option ℕ → Type 0
SpellsNumber bytes None = (n : ℕ) → IsSmallNumber n → ¬ (bytes ≡ decimal n)
SpellsNumber bytes (Some n) = IsSmallNumber n × (bytes ≡ decimal n)

-- the line spells the step; none where it is said that there is none
abbrev pub SpellsStep : List ℕ → Option Inference → Type 0
SpellsStep line None = (s : Inference) → IsTraceStep s → ¬ (line ≡ step_text s)
SpellsStep line (Some s) = IsTraceStep s × (line ≡ step_text s)

-- ---- sets, of which these are the texts of the numbers from k on
abbrev pub chosen : ℕ → ℕ → List (List ℕ) → List (List ℕ)
chosen s k [] = []
chosen s k (t ∷ ts) = cond (has s k) (t ∷ chosen s (k + 1) ts) (chosen s (k + 1) ts)

abbrev pub set_text : List (List ℕ) → ℕ → List ℕ
set_text texts s = braced (chosen s 0 texts)

-- each member has a text, and is allowed
abbrev pub AreMembersAllowed : ℕ → ℕ → ℕ → Type 0
AreMembersAllowed allowed count s = (k : ℕ) → IsTrue (has s k) → (k < count) × IsTrue (has allowed k)

-- a text that ends where a comma or a closing brace stands
abbrev pub IsTellable : List ℕ → Type 0
IsTellable t = (¬ (t ≡ [])) × AllByRecursion (λ b. (¬ (b ≡ 44)) × (¬ (b ≡ 125))) t

-- texts that can be told apart
pub record AreTellable (texts : List (List ℕ)) : Type 0 where
  pub each : AllByRecursion IsTellable texts
  pub apart : AreApart texts

-- the bytes spell the set; none where it is said that there is none
abbrev pub SpellsSet : List (List ℕ) → ℕ → List ℕ → Option ℕ → Type 0
SpellsSet texts allowed bytes None = (s : ℕ) → AreMembersAllowed allowed (length texts) s → ¬ (bytes ≡ set_text texts s)
SpellsSet texts allowed bytes (Some s) = AreMembersAllowed allowed (length texts) s × (bytes ≡ set_text texts s)
