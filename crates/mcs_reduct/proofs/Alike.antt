-- States whose contexts believe the same have the same reducts, and are grounded alike.
use Rattle.std.proofs.Common.{◌≡◌, ℕ, zero, suc, Bool, true, false, not, cond, List, [], ◌∷◌, map, filter, Some, ◌↔◌, arith, refl, ap, ◌∙◌, subst, slice_get}
use Rattle.std.specs.Cmp.{both_ways}
use Rattle.mcs_base.proofs.Each.{all_among, all_from_among}
use Rattle.mcs_system.specs.Plain.{Name, Truth, Atom, Formula, ProgramRule, Kb, Program, Context, Read, System}
use Rattle.mcs_system.specs.Logic.{is_in, BeliefSet, Theory, Atoms, Believes, without_negation, reduct}
use Rattle.mcs_system.specs.Systems.{applicable, heads_into, BelievesIn, IsEquilibrium, IsProjection}
use Rattle.mcs_system.proofs.Consequence.{member_follows}
use Rattle.mcs_system.proofs.NameLemmas.{is_in-among}
use Rattle.mcs_evidence.proofs.Models.{any_in}
use Rattle.mcs_reduct.specs.Plain.{IsPlain}
use Rattle.mcs_reduct.specs.Reducts.{names_believed, kb_reduct, reduced_contexts, positive_part, reduced_system, AreUnblocked, IsReductEquilibrium}
use Rattle.mcs_reduct.specs.Shown.{IsShownBy}
use Rattle.mcs_reduct.specs.Grounded.{LiesWithin, IsGrounded}
use Rattle.mcs_reduct.proofs.Accepted.{within_believes}
use Rattle.mcs_reduct.proofs.Beliefs.{are_unblocked, unblocked_rules}
use Rattle.mcs_reduct.proofs.Reduced.{reduct_accepts, reduct_of_equilibrium}
use Rattle.mcs_reduct.proofs.Shown.{context_at, state_accepted}
use Rattle.std.proofs.lemmas.Option.{slice_get_within}

-- ---- belief sets
abbrev pub Alike : BeliefSet → BeliefSet → Type 0
Alike b c = (p : Formula) → Believes b p ↔ Believes c p

pub alike_itself : (b : BeliefSet) → Alike b b
alike_itself b p = (λ h. h, λ h. h)

alike_back : (b c : BeliefSet) → Alike b c → Alike c b
alike_back b c alike p = ((alike p).1, (alike p).0)

-- they have the same atoms
same_names : (b c : BeliefSet) → Alike b c → (n : Name) → is_in n (names_believed b) ≡ is_in n (names_believed c)
same_names (Theory e) (Theory f) alike n = refl
same_names (Theory e) (Atoms d) alike n = absurd ((alike Truth).0 (λ a h. refl))
same_names (Atoms a) (Theory f) alike n = absurd ((alike Truth).1 (λ a h. refl))
same_names (Atoms a) (Atoms d) alike n = both_ways (is_in n a) (is_in n d) (alike (Atom n)).0 (alike (Atom n)).1

pub lies_from : (b c : BeliefSet) → ((p : Formula) → Believes b p → Believes c p) → LiesWithin b c
lies_from (Theory e) c more = all_from_among (Believes c) e (λ f among. more f (member_follows e f among))
lies_from (Atoms a) c more = all_from_among (λ n. Believes c (Atom n)) a (λ n among. more (Atom n) ((is_in-among n a).1 among))

-- ---- so they reduce programs alike
any_same : (a d ns : List Name) → ((n : Name) → is_in n a ≡ is_in n d) → any_in a ns ≡ any_in d ns
any_same a d [] same = refl
any_same a d (n ∷ ns) same = rw (same n, any_same a d ns same) refl

reduct_same : (a d : List Name) (rules : List ProgramRule) → ((n : Name) → is_in n a ≡ is_in n d) → reduct a rules ≡ reduct d rules
reduct_same a d [] same = refl
reduct_same a d (r ∷ rules) same =
    ap (λ (u : Bool). map without_negation (cond (not u) (r ∷ filter (λ (r : ProgramRule). not (any_in a r.neg)) rules) (filter (λ (r : ProgramRule). not (any_in a r.neg)) rules))) (any_same a d r.neg same)
    ∙ at (any_in d r.neg) (reduct_same a d rules same)
  where
    at : (v : Bool) → reduct a rules ≡ reduct d rules
        → map without_negation (cond (not v) (r ∷ filter (λ (r : ProgramRule). not (any_in a r.neg)) rules) (filter (λ (r : ProgramRule). not (any_in a r.neg)) rules))
        ≡ map without_negation (cond (not v) (r ∷ filter (λ (r : ProgramRule). not (any_in d r.neg)) rules) (filter (λ (r : ProgramRule). not (any_in d r.neg)) rules))
    at true rest = rest
    at false rest = ap (λ (rs : List ProgramRule). without_negation r ∷ rs) rest

kb_same : (kb : Kb) (b c : BeliefSet) → Alike b c → kb_reduct (names_believed b) kb ≡ kb_reduct (names_believed c) kb
kb_same (Program rules) b c alike = ap Program (reduct_same (names_believed b) (names_believed c) rules (same_names b c alike))
kb_same kb b c alike = refl

-- ---- states
abbrev pub AreAlike : List BeliefSet → List BeliefSet → Type 0
AreAlike [] [] = Unit {0}
AreAlike [] (c ∷ t) = ⊥
AreAlike (b ∷ s) [] = ⊥
AreAlike (b ∷ s) (c ∷ t) = Alike b c × AreAlike s t

pub are_alike_themselves : (s : List BeliefSet) → AreAlike s s
are_alike_themselves [] = tt
are_alike_themselves (b ∷ s) = (alike_itself b, are_alike_themselves s)

pub are_alike_back : (s t : List BeliefSet) → AreAlike s t → AreAlike t s
are_alike_back [] [] alike = tt
are_alike_back [] (c ∷ t) alike = absurd alike
are_alike_back (b ∷ s) [] alike = absurd alike
are_alike_back (b ∷ s) (c ∷ t) alike = (alike_back b c alike.0, are_alike_back s t alike.1)

alike_at : (s t : List BeliefSet) → AreAlike s t → (i : ℕ) (b : BeliefSet) → slice_get s i ≡ Some b → (c : BeliefSet) × (slice_get t i ≡ Some c) × Alike b c
alike_at [] [] alike i b is = cc
alike_at [] (c ∷ t) alike i b is = absurd alike
alike_at (d ∷ s) [] alike i b is = absurd alike
alike_at (d ∷ s) (c ∷ t) alike zero b is = (c, refl, (let same : d ≡ b = cc in subst (λ (x : BeliefSet). Alike x c) same alike.0))
alike_at (d ∷ s) (c ∷ t) alike (suc i) b is = alike_at s t alike.1 i b is

believed_alike : (s t : List BeliefSet) → AreAlike s t → (r : Read) → BelievesIn s r → BelievesIn t r
believed_alike s t alike r (b, own, h) = let (c, own', same) = alike_at s t alike r.context b own in (c, own', (same r.belief).0 h)

pub projection_alike : (m : System) (s t : List BeliefSet) (σ : ℕ) → AreAlike s t → IsProjection m s σ → IsProjection m t σ
projection_alike m s t σ alike projection v = (
  λ h. (let (r, var, believed) = (projection v).0 h in (r, var, believed_alike s t alike r believed)),
  λ (r, var, believed). (projection v).1 (r, var, believed_alike t s (are_alike_back s t alike) r believed),
)

-- ---- reducts by them
unblocked_alike : (m : System) (s t : List BeliefSet) (x : ℕ) → AreAlike s t → AreUnblocked m s x → AreUnblocked m t x
unblocked_alike m s t x alike unblocked = record {
  of_rules = unblocked.of_rules;
  exactly = λ k b is. (
    λ h. all_from_among (λ r. ¬ BelievesIn t r) b.neg (λ r among believed. all_among (λ r. ¬ BelievesIn s r) b.neg r ((unblocked.exactly k b is).0 h) among (believed_alike t s (are_alike_back s t alike) r believed)),
    λ none. (unblocked.exactly k b is).1 (all_from_among (λ r. ¬ BelievesIn s r) b.neg (λ r among believed. all_among (λ r. ¬ BelievesIn t r) b.neg r none among (believed_alike s t alike r believed))),
  );
}

contexts_alike : (cs : List Context) (s t : List BeliefSet) → AreAlike s t → reduced_contexts cs s ≡ reduced_contexts cs t
contexts_alike [] s t alike = refl
contexts_alike (c ∷ cs) [] [] alike = refl
contexts_alike (c ∷ cs) [] (d ∷ t) alike = absurd alike
contexts_alike (c ∷ cs) (b ∷ s) [] alike = absurd alike
contexts_alike (c ∷ cs) (b ∷ s) (d ∷ t) alike = rw (kb_same c.kb b d alike.0, contexts_alike cs s t alike.1) refl

system_alike : (m : System) (s t : List BeliefSet) → AreAlike s t → reduced_system m s ≡ reduced_system m t
system_alike m s t alike = ap (λ (cs : List Context). record { contexts = cs; bridges = map positive_part m.bridges }) (contexts_alike m.contexts s t alike)

reduct_alike : (m : System) (s t u : List BeliefSet) → AreAlike s t → IsReductEquilibrium m s u → IsReductEquilibrium m t u
reduct_alike m s t u alike e = record { rules = e.rules; unblocked = unblocked_alike m s t e.rules alike e.unblocked; balanced = subst (λ (x : System). IsEquilibrium x e.rules 0 u) (system_alike m s t alike) e.balanced }

-- ---- a state that is alike a grounded one, with the same projection, is grounded
module _ (m : System) (plain : IsPlain m) (σ : ℕ) (s t : List BeliefSet) (alike : AreAlike s t) (shown : IsShownBy m σ s) (shown' : IsShownBy m σ t) where
  -- what a belief set of t believes is believed in each equilibrium of the reduct
  all_believed : IsGrounded m s → (u : List BeliefSet) → IsReductEquilibrium m s u → (i : ℕ) (b c : BeliefSet) → slice_get t i ≡ Some b → slice_get u i ≡ Some c → (p : Formula) → Believes b p → Believes c p
  all_believed grounded u e i b c own own' p h =
      let (d, own_s, same) = alike_at t s (are_alike_back s t alike) i b own in
      let (x, is, d', own_d) = context_at m plain σ s shown i (omega (arith, slice_get_within s i d own_s, shown.balanced.one_each)) in
      within_believes (names_believed d) x.kb (heads_into m i (applicable m σ)) (heads_into m i e.balanced.acting) d c (plain i x is)
      ((reduct_accepts m s i (applicable m σ) x d d is own_s).0 (state_accepted m plain σ s shown i d own_s)) ((reduct_accepts m s i e.balanced.acting x d c is own_s).0 (e.balanced.accepted i c own'))
      (grounded.least u e i d c own_s own') p ((same p).0 h)

  pub grounded_alike : IsGrounded m s → IsGrounded m t
  grounded_alike grounded = record {
    balanced = reduct_of_equilibrium m t (unblocked_rules m t) (are_unblocked m t) shown'.balanced;
    least = λ u e i b c own own'. lies_from b c (all_believed grounded u (reduct_alike m t s u (are_alike_back s t alike) e) i b c own own');
  }
