-- A state and its projection: the rules that apply in the one apply in the other; and what the reduct by the state accepts.
use Rattle.std.proofs.Common.{◌≡◌, ℕ, ◌<◌, true, List, length, Some, ◌⊎◌, inl, inr, ◌↔◌, arith, sym, ap, ◌∙◌, subst, true≢false, slice_get, IsTrue}
use Rattle.std.proofs.lemmas.Option.{slice_get_within}
use Rattle.std.specs.List.{AllByRecursion}
use Rattle.mcs_sets.specs.Sets.{has, common, Within}
use Rattle.mcs_sets.proofs.SetLemmas.{has-empty, common_where_within}
use Rattle.mcs_sets.proofs.Lattice.{union-none}
use Rattle.mcs_base.proofs.Lists.{slice_get_below, slice_get-map_some}
use Rattle.mcs_system.specs.Plain.{Formula, Context, Bridge, System}
use Rattle.mcs_system.specs.Logic.{BeliefSet, Believes, Accepts, with_heads}
use Rattle.mcs_system.specs.Systems.{applicable, heads_into, AcceptsWith, Applies, BelievesIn, all_rules, acting_at}
use Rattle.mcs_system.proofs.MarkLemmas.{applicable_within}
use Rattle.mcs_reduct.specs.Plain.{IsPlain}
use Rattle.mcs_reduct.specs.Reducts.{names_believed, positive_part, reduced_system, AreUnblocked, IsReductEquilibrium}
use Rattle.mcs_reduct.specs.Grounded.{LiesWithin, IsWithin}
use Rattle.mcs_reduct.proofs.Reduced.{rule_at, reduct_accepts, accepts_again, reduced_long, rule_known}
use Rattle.mcs_reduct.proofs.Heads.{HasMoreInto, heads_more, within_more, heads_same}
use Rattle.mcs_reduct.proofs.Accepted.{lies_within, believes_more}
use Rattle.mcs_reduct.specs.Shown.{IsShownBy, DoAct}
use Rattle.std.specs.Cmp.{both_ways}
use Rattle.mcs_laws.proofs.Projections.{acting_at-is}

-- ---- the rules that apply in the projection are those that apply in the state
pub acting_all : (m : System) (σ : ℕ) → acting_at m σ (all_rules m) 0 ≡ applicable m σ
acting_all m σ = union-none (common (applicable m σ) (all_rules m)) ∙ common_where_within (applicable m σ) (all_rules m) (applicable_within m σ)

pub applies_is : (m : System) (σ : ℕ) (s : List BeliefSet) → IsShownBy m σ s → (k : ℕ) (b : Bridge) → slice_get m.bridges k ≡ Some b → IsTrue (has (applicable m σ) k) ↔ Applies b s
applies_is m σ s shown k b is = (
  λ h. elim (iff.0 (ap (λ (x : ℕ). has x k) (acting_all m σ) ∙ h)) [ inl both ↦ both.1 | inr none ↦ absurd (true≢false (sym none ∙ has-empty k)) ],
  λ h. sym (ap (λ (x : ℕ). has x k) (acting_all m σ)) ∙ iff.1 (inl (known, h)),
)
  where
    iff : IsTrue (has (acting_at m σ (all_rules m) 0) k) ↔ ((IsTrue (has (all_rules m) k) × Applies b s) ⊎ IsTrue (has 0 k))
    iff = acting_at-is m (all_rules m) 0 s σ shown.balanced.one_each shown.projection k b is

    known : has (all_rules m) k ≡ true
    known = rule_known m k b is

-- and they are those that act in it
pub acts_is : (m : System) (σ : ℕ) (s : List BeliefSet) (shown : IsShownBy m σ s) (k : ℕ) (b : Bridge) → slice_get m.bridges k ≡ Some b → has shown.balanced.acting k ≡ has (applicable m σ) k
acts_is m σ s shown k b is = both_ways _ _
    (λ h. elim ((shown.balanced.acting_is k b is).0 h) [ inl both ↦ (applies_is m σ s shown k b is).1 both.1 | inr none ↦ absurd (true≢false (sym none ∙ has-empty k)) ])
    (λ h. (shown.balanced.acting_is k b is).1 (inl (rule_known m k b is, (applies_is m σ s shown k b is).0 h)))

-- ---- a state and its reduct
module _ (m : System) (plain : IsPlain m) (σ : ℕ) (s : List BeliefSet) (shown : IsShownBy m σ s) where
  pub context_at : (i : ℕ) → i < length m.contexts → (c : Context) × (slice_get m.contexts i ≡ Some c) × (b : BeliefSet) × (slice_get s i ≡ Some b)
  context_at i less = let (c, is) = slice_get_below m.contexts i less in let (b, own) = slice_get_below s i (omega (arith, less, shown.balanced.one_each)) in (c, is, b, own)

  -- each context of the reduct accepts its belief set with the rules that apply
  pub state_accepted : (i : ℕ) (b : BeliefSet) → slice_get s i ≡ Some b → AcceptsWith (reduced_system m s) i (applicable m σ) b
  state_accepted i b own = (accepts_again m s i (applicable m σ) b own).1 (
      let (c, is, accepts) = shown.balanced.accepted i b own in
      (c, is, subst (λ (hs : List Formula). Accepts (with_heads c.kb hs) b) (heads_same m i shown.balanced.acting (applicable m σ) (λ k d there. acts_is m σ s shown k d there)) accepts))

  -- with more rules more is believed
  pub more_believed : (i x y : ℕ) (c : Context) (b e f : BeliefSet) → slice_get m.contexts i ≡ Some c → slice_get s i ≡ Some b → HasMoreInto m i x y
      → AcceptsWith (reduced_system m s) i x e → AcceptsWith (reduced_system m s) i y f → (p : Formula) → Believes e p → Believes f p
  more_believed i x y c b e f is own more of_e of_f p h = believes_more (names_believed b) c.kb (heads_into m i x) (heads_into m i y) (heads_more m i x y more) (plain i c is) e f
      ((reduct_accepts m s i x c b e is own).0 of_e) ((reduct_accepts m s i y c b f is own).0 of_f) p h

  pub lies_within_more : (i x y : ℕ) (c : Context) (b e f : BeliefSet) → slice_get m.contexts i ≡ Some c → slice_get s i ≡ Some b → HasMoreInto m i x y
      → AcceptsWith (reduced_system m s) i x e → AcceptsWith (reduced_system m s) i y f → LiesWithin e f
  lies_within_more i x y c b e f is own more of_e of_f = lies_within (names_believed b) c.kb (heads_into m i x) (heads_into m i y) (heads_more m i x y more) (plain i c is) e f
      ((reduct_accepts m s i x c b e is own).0 of_e) ((reduct_accepts m s i y c b f is own).0 of_f)

  -- a rule that applies in σ is unblocked
  pub unblocked_there : (rules k : ℕ) (b : Bridge) → AreUnblocked m s rules → slice_get m.bridges k ≡ Some b → has (applicable m σ) k ≡ true → has rules k ≡ true
  unblocked_there rules k b unblocked is member = (unblocked.exactly k b is).1 (((applies_is m σ s shown k b is).0 member).none_believed)

  -- and one that is unblocked, and whose positive reads are believed in s, applies
  pub applies_there : (rules k : ℕ) (b : Bridge) → AreUnblocked m s rules → slice_get m.bridges k ≡ Some b → has rules k ≡ true → AllByRecursion (BelievesIn s) b.pos → has (applicable m σ) k ≡ true
  applies_there rules k b unblocked is member pos = (applies_is m σ s shown k b is).1 (record { all_believed = pos; none_believed = (unblocked.exactly k b is).0 member })

  -- ---- equilibria of the reduct
  module _ (t : List BeliefSet) (e : IsReductEquilibrium m s t) where
    pub belief_in : (i : ℕ) → i < length m.contexts → (f : BeliefSet) × (slice_get t i ≡ Some f) × AcceptsWith (reduced_system m s) i e.balanced.acting f
    belief_in i less = let (f, own) = slice_get_below t i (omega (arith, less, e.balanced.one_each, reduced_long m.contexts s)) in (f, own, e.balanced.accepted i f own)

    -- rules that apply in σ and whose positive reads are believed in t act in t
    pub act_in : (x : ℕ) → Within x (applicable m σ) → DoAct m t x → Within x e.balanced.acting
    act_in x within acts k member =
        let (b, is) = rule_at m (applicable m σ) k (applicable_within m σ) (within k member) in
        (e.balanced.acting_is k (positive_part b) (slice_get-map_some positive_part m.bridges k b is)).1
        (inl (unblocked_there e.rules k b e.unblocked is (within k member), record { all_believed = acts k b member is; none_believed = tt }))

    -- where all of them act, s lies within t
    pub within_where_all : Within (applicable m σ) e.balanced.acting → IsWithin s t
    within_where_all all i b f own own' =
        let (c, is, b', own'') = context_at i (omega (arith, slice_get_within s i b own, shown.balanced.one_each)) in
        lies_within_more i (applicable m σ) e.balanced.acting c b b f is own (within_more m i (applicable m σ) e.balanced.acting all) (state_accepted i b own) (e.balanced.accepted i f own')
