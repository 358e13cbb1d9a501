-- In a valid system there are few items, and formulas and program rules are small.
use Rattle.std.proofs.Common.{◌≡◌, ℕ, ◌+◌, ◌≤◌, Bool, true, false, ap, ◌&&◌, nat_lt, nat_eq, cond, List, [], ◌∷◌, length, Option, Some, None, slice_get, inl, inr, refl, arith}
use Rattle.std.proofs.lemmas.Bool.{or_parts, ltb-false}
use Rattle.std.specs.List.{list_any, range_with_len, AllByRecursion}
use Rattle.mcs_sets.specs.Sets.{has, members}
use Rattle.mcs_base.specs.Listings.{IsAmong}
use Rattle.mcs_base.proofs.Among.{among_get, filter_among, flat_map_among, none_any, none_get, map_among}
use Rattle.mcs_base.proofs.Each.{all_from_among, all_from_no_any}
use Rattle.mcs_system.specs.Plain.{Formula, Kb, OfKind, Context, Read, Bridge, System}
use Rattle.mcs_system.specs.Kinds.{is_large_in}
use Rattle.mcs_system.specs.Seen.{formula_size}
use Rattle.mcs_system.specs.Systems.{context_variables, variables, occurrences, heads_from, heads_into}
use Rattle.mcs_system.specs.Views.{belief_of, belief_at, beliefs_at}
use Rattle.mcs_system.specs.declared.limit.Limit.TheVariants.{ItemsPerContext, FormulaSize}
use Rattle.mcs_system.specs.Faults.{reads_of, item_count, is_large, has_large_item, has_large_part, exceeds, IsValid}
pub use Rattle.mcs_system.proofs.KindItems.{IsSmall, IsSmallDefault, IsSmallItem, IsSmallRule, IsSmallIn}
use Rattle.mcs_system.proofs.KindItems.{small, small_in}
use Rattle.mcs_system.proofs.ValidLemmas.{limit_kept, few_bridges}
use Rattle.mcs_system.proofs.VariableLemmas.{firsts_among}

-- ---- items
abbrev pub IsSmallKb : Kb → Type 0
IsSmallKb (OfKind k items) = AllByRecursion (IsSmallIn k) items

small_kb_by : (kb : Kb) → has_large_item kb ≡ false → IsSmallKb kb
small_kb_by (OfKind k items) e = all_from_no_any (IsSmallIn k) (is_large_in k) (small_in k) items e

-- ---- heads of rules
heads_from_each : (P : Formula → Type 0) (k : ℕ) (bs : List Bridge) (i x : ℕ) → AllByRecursion (λ (b : Bridge). P b.head) bs
    → AllByRecursion P (heads_from k bs i x)
heads_from_each P k [] i x all = tt
heads_from_each P k (b ∷ bs) i x all = at (has x k && nat_eq b.target i) (heads_from_each P (k + 1) bs i x all.1)
  where
    at : (here : Bool) → AllByRecursion P (heads_from (k + 1) bs i x)
        → AllByRecursion P (cond here (b.head ∷ heads_from (k + 1) bs i x) (heads_from (k + 1) bs i x))
    at true rest = (all.0, rest)
    at false rest = rest

few_heads_from : (k : ℕ) (bs : List Bridge) (i x : ℕ) → length (heads_from k bs i x) ≤ length bs
few_heads_from k [] i x = omega arith
few_heads_from k (b ∷ bs) i x = at (has x k && nat_eq b.target i) (few_heads_from (k + 1) bs i x)
  where
    at : (here : Bool) → length (heads_from (k + 1) bs i x) ≤ length bs
        → length (cond here (b.head ∷ heads_from (k + 1) bs i x) (heads_from (k + 1) bs i x)) ≤ length (b ∷ bs)
    at true rest = omega arith
    at false rest = omega arith

-- ---- of a valid system
module _ (m : System) (valid : IsValid m) where
  pub few_items : (i : ℕ) (c : Context) → slice_get m.contexts i ≡ Some c → item_count c.kb ≤ 4096
  unfolding exceeds
  few_items i c at =
      let kept = limit_kept m valid ItemsPerContext (inr (inr (inr (inr (inr (inr (inr (inl refl)))))))) in
      ltb-false 4096 _ (none_get (λ (d : Context). nat_lt 4096 (item_count d.kb)) m.contexts i c kept at)

  none_large : (list_any (λ (c : Context). has_large_item c.kb) m.contexts ≡ false) × (list_any has_large_part m.bridges ≡ false)
  unfolding exceeds
  none_large =
      let kept = limit_kept m valid FormulaSize (inr (inr (inr (inr (inr (inr (inr (inr (inr (inl refl)))))))))) in
      or_parts (list_any (λ (c : Context). has_large_item c.kb) m.contexts) (list_any has_large_part m.bridges) kept

  pub small_kb : (i : ℕ) (c : Context) → slice_get m.contexts i ≡ Some c → IsSmallKb c.kb
  small_kb i c at = small_kb_by c.kb (none_get (λ (c : Context). has_large_item c.kb) m.contexts i c none_large.0 at)

  -- heads
  pub few_heads : (i x : ℕ) → length (heads_into m i x) ≤ 64
  few_heads i x = omega (arith, few_heads_from 0 m.bridges i x, few_bridges m valid)

  pub small_heads : (i x : ℕ) → AllByRecursion IsSmall (heads_into m i x)
  small_heads i x = heads_from_each IsSmall 0 m.bridges i x (all_from_no_any (λ (b : Bridge). IsSmall b.head) has_large_part
      (λ b e. small b.head (or_parts (is_large b.head) (list_any (λ (r : Read). is_large r.belief) (reads_of b)) e).0) m.bridges none_large.1)

  -- beliefs
  small_read : (r : Read) → IsAmong r (occurrences m) → IsSmall r.belief
  small_read r among =
      let (b, known, here) = flat_map_among reads_of r m.bridges among in
      let parts = or_parts (is_large b.head) (list_any (λ (r : Read). is_large r.belief) (reads_of b)) (none_any has_large_part m.bridges b none_large.1 known) in
      small r.belief (none_any (λ (r : Read). is_large r.belief) (reads_of b) r parts.1 here)

  small_variable : (r : Read) → IsAmong r (variables m) → IsSmall r.belief
  unfolding variables
  small_variable r among =
      let (j, in_range, here) = flat_map_among (context_variables m) r (range_with_len 0 (length m.contexts)) among in
      small_read r (filter_among (λ (q : Read). nat_eq q.context j) r (occurrences m) (firsts_among r _ here)).0

  small_belief : (v : ℕ) → IsSmall (belief_at m v)
  small_belief v = at (slice_get (variables m) v) refl
    where
      at : (o : Option Read) → slice_get (variables m) v ≡ o → IsSmall (belief_of o)
      at None e = omega arith
      at (Some r) e = small_variable r (among_get r (variables m) v e)

  pub small_beliefs : (set : ℕ) → AllByRecursion IsSmall (beliefs_at m set)
  small_beliefs set =
      all_from_among IsSmall (beliefs_at m set) (λ f among.
      let (v, inside, is) = map_among (belief_at m) f (members set) among in
      omega (arith, ap formula_size is, small_belief v))
