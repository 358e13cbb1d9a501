-- What stands in a default theory: its facts, its defaults, and what a set of these generates.
use Rattle.std.proofs.Common.{◌≡◌, ℕ, zero, suc, ◌+◌, Bool, true, false, cond, List, [], ◌∷◌, map, Some, None, slice_get, refl, sym, ap, ◌∙◌, inl, inr, arith}
use Rattle.std.specs.List.{AllByRecursion}
use Rattle.mcs_sets.specs.Sets.{has}
use Rattle.mcs_base.specs.Listings.{IsAmong}
use Rattle.mcs_base.proofs.Among.{among_right, among_map}
use Rattle.mcs_base.proofs.Each.{all_from_among, all_append, all_left, all_map}
use Rattle.mcs_system.specs.Plain.{Formula, Default, Item, Fact, Rule}
use Rattle.mcs_system.specs.Logic.{Entails}
use Rattle.mcs_evidence.specs.Defaults.{facts_of, defaults_of, defaults_at, defaults_in, generated}
use Rattle.mcs_evidence.specs.Theories.{IsDefaultAt}
use Rattle.mcs_system.proofs.Consequence.{member_follows, follow_themselves}

-- ---- items, as facts and defaults
pub by_kind : (R : Item → Type 0) (items : List Item) → AllByRecursion R items → AllByRecursion (λ p. R (Fact p)) (facts_of items) × AllByRecursion (λ d. R (Rule d)) (defaults_of items)
by_kind R [] all = (tt, tt)
by_kind R (Fact p ∷ items) all = let rest = by_kind R items all.1 in ((all.0, rest.0), rest.1)
by_kind R (Rule d ∷ items) all = let rest = by_kind R items all.1 in (rest.0, (all.0, rest.1))

pub from_kinds : (R : Item → Type 0) (items : List Item) → AllByRecursion (λ p. R (Fact p)) (facts_of items) → AllByRecursion (λ d. R (Rule d)) (defaults_of items) → AllByRecursion R items
from_kinds R [] facts defaults = tt
from_kinds R (Fact p ∷ items) facts defaults = (facts.0, from_kinds R items facts.1 defaults)
from_kinds R (Rule d ∷ items) facts defaults = (defaults.0, from_kinds R items facts defaults.1)

-- ---- the defaults of a set
in_defaults_at : (k j : ℕ) (ds : List Default) (set : ℕ) (d : Default) → slice_get ds j ≡ Some d → has set (k + j) ≡ true → IsAmong d (defaults_at k ds set)
in_defaults_at k j [] set d is member = absurd (let none : None ≡ Some d = is in cc)
in_defaults_at k zero (c ∷ ds) set d is member =
    let here : has set k ≡ true = ap (has set) (omega arith) ∙ member in
    let same : d ≡ c = cc in
    rw here (inl same)
in_defaults_at k (suc j) (c ∷ ds) set d is member = at (has set k) (in_defaults_at (k + 1) j ds set d is (ap (has set) (omega arith) ∙ member))
  where
    at : (b : Bool) → IsAmong d (defaults_at (k + 1) ds set) → IsAmong d (cond b (c ∷ defaults_at (k + 1) ds set) (defaults_at (k + 1) ds set))
    at true rest = inr rest
    at false rest = rest

from_defaults_at : (k : ℕ) (ds : List Default) (set : ℕ) (d : Default) → IsAmong d (defaults_at k ds set) → (j : ℕ) × (slice_get ds j ≡ Some d) × (has set (k + j) ≡ true)
from_defaults_at k [] set d among = absurd among
from_defaults_at k (c ∷ ds) set d among = at (has set k) refl among (from_defaults_at (k + 1) ds set d)
  where
    later : (j : ℕ) × (slice_get ds j ≡ Some d) × (has set (k + 1 + j) ≡ true) → (j : ℕ) × (slice_get (c ∷ ds) j ≡ Some d) × (has set (k + j) ≡ true)
    later (j, is, member) = (suc j, is, ap (has set) (omega arith) ∙ member)

    at : (b : Bool) → has set k ≡ b → IsAmong d (cond b (c ∷ defaults_at (k + 1) ds set) (defaults_at (k + 1) ds set))
        → (IsAmong d (defaults_at (k + 1) ds set) → (j : ℕ) × (slice_get ds j ≡ Some d) × (has set (k + 1 + j) ≡ true)) → (j : ℕ) × (slice_get (c ∷ ds) j ≡ Some d) × (has set (k + j) ≡ true)
    at true e (inl same) rest = (0, ap (λ x. Some x) (sym same), ap (has set) (omega arith) ∙ e)
    at true e (inr there) rest = later (rest there)
    at false e there rest = later (rest there)

module _ (items : List Item) (set : ℕ) where
  pub in_defaults : (k : ℕ) (d : Default) → IsDefaultAt items k d → has set k ≡ true → IsAmong d (defaults_in items set)
  in_defaults k d is member = in_defaults_at 0 k (defaults_of items) set d is (ap (has set) (omega arith) ∙ member)

  from_defaults : (d : Default) → IsAmong d (defaults_in items set) → (k : ℕ) × IsDefaultAt items k d × (has set k ≡ true)
  from_defaults d among = let (k, is, member) = from_defaults_at 0 (defaults_of items) set d among in (k, is, ap (has set) (omega arith) ∙ member)

  -- ---- what is generated
  pub generated_each : (P : Formula → Type 0) → AllByRecursion P (facts_of items) → ((k : ℕ) (d : Default) → IsDefaultAt items k d → has set k ≡ true → P d.conclusion) → AllByRecursion P (generated items set)
  generated_each P facts each =
      all_append P (facts_of items) (map (λ (d : Default). d.conclusion) (defaults_in items set)) facts
      (all_map (λ (d : Default). d.conclusion) (λ d. P d.conclusion) P (λ d p. p) (defaults_in items set) (all_from_among (λ d. P d.conclusion) (defaults_in items set) (λ d among. let (k, is, member) = from_defaults d among in each k d is member)))

  pub facts_follow : AllByRecursion (Entails (generated items set)) (facts_of items)
  facts_follow = all_left (Entails (generated items set)) (facts_of items) (map (λ (d : Default). d.conclusion) (defaults_in items set)) (follow_themselves (generated items set))

  pub conclusion_follows : (k : ℕ) (d : Default) → IsDefaultAt items k d → has set k ≡ true → Entails (generated items set) d.conclusion
  conclusion_follows k d is member = member_follows (generated items set) d.conclusion
      (among_right d.conclusion (facts_of items) (map (λ (c : Default). c.conclusion) (defaults_in items set)) (among_map (λ (c : Default). c.conclusion) d (defaults_in items set) (in_defaults k d is member)))
