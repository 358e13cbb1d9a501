-- Rules and beliefs by the places of their atoms among the names, and what is tested of sets of places.
use Rattle.std.specs.Prelude.{◌≡◌, ℕ, ◌<◌, Bool, nat_eq, not, ◌&&◌, ◌||◌, List, get_or, length}
use Rattle.std.specs.List.{AllZip, list_any, list_all}
use Rattle.mcs_sets.specs.Sets.{has, common, such_that}
use Rattle.mcs_system.specs.Plain.{Name, ProgramRule}
use Rattle.mcs_system.specs.Logic.{is_in, true_names}
use Rattle.mcs_program.specs.declared.placing.PlacedRule.{PlacedRule}
use Rattle.mcs_program.specs.declared.placing.Placing.{Placing}

-- ---- tests of sets of places
-- each of the first is in the second
abbrev pub places_within : ℕ → ℕ → Bool
places_within a b = nat_eq (common a b) a

-- some place is in both
abbrev pub do_meet : ℕ → ℕ → Bool
do_meet a b = not (nat_eq (common a b) 0)

-- the rule holds where exactly the atoms at these places are true
abbrev pub placed_holds : ℕ → PlacedRule → Bool
placed_holds s r = not (places_within r.pos s) || (do_meet r.neg s || do_meet r.head s)

-- the places of the second set have a negative atom of the rule, if those of the first break it
abbrev pub placed_blocked : ℕ → ℕ → PlacedRule → Bool
placed_blocked less s r = not (places_within r.pos less) || (do_meet r.head less || do_meet r.neg s)

-- the first set is less than the second, and satisfies the reduct by it
abbrev pub lies_beside : List PlacedRule → ℕ → ℕ → Bool
lies_beside rules s less = places_within less s && (not (places_within s less) && list_all (placed_blocked less s) rules)

-- the numbers of the beliefs whose places are in the set
unfoldable pub view_at : List ℕ → ℕ → ℕ
view_at beliefs s = such_that (length beliefs) (λ k. has s (get_or beliefs k 0))

-- the view is none of these
abbrev pub is_other : List ℕ → ℕ → Bool
is_other views view = list_all (λ v. not (nat_eq v view)) views

-- all that is known holds where exactly the atoms at these places are true
abbrev pub may_be_model : Placing → List ℕ → List ℕ → ℕ → Bool
may_be_model p smaller views s = list_all (placed_holds s) p.rules.items && (is_other views (view_at p.beliefs.items s) && list_all (λ less. not (lies_beside p.rules.items s less)) smaller)

-- ---- what the places stand for
-- the name is true exactly where its place is in the set
pub record IsPlaceOf (names : List Name) (n : Name) (k : ℕ) : Type 0 where
  pub below : k < length names
  pub tells : (s : ℕ) → is_in n (true_names 0 names s) ≡ has s k

-- these are the places of the names
pub record ArePlaces (names these : List Name) (places : ℕ) : Type 0 where
  pub all : (s : ℕ) → places_within places s ≡ list_all (λ n. is_in n (true_names 0 names s)) these
  pub some : (s : ℕ) → do_meet places s ≡ list_any (λ n. is_in n (true_names 0 names s)) these

pub record IsPlacedRule (names : List Name) (r : ProgramRule) (p : PlacedRule) : Type 0 where
  pub head : ArePlaces names r.head p.head
  pub positive : ArePlaces names r.pos p.pos
  pub negative : ArePlaces names r.neg p.neg

pub record IsPlacing (names : List Name) (rules : List ProgramRule) (beliefs : List Name) (p : Placing) : Type 0 where
  pub placed_rules : AllZip (IsPlacedRule names) rules p.rules.items
  pub placed_beliefs : AllZip (IsPlaceOf names) beliefs p.beliefs.items
