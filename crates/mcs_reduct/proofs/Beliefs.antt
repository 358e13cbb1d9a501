-- What a belief state believes is decided, so each reduct has its rules.
use Rattle.std.proofs.Common.{◌≡◌, ℕ, Bool, true, false, not, List, length, Option, Some, None, ◌⊎◌, inl, inr, refl, sym, ap, ◌∙◌, subst, true≢false, ltb, slice_get}
use Rattle.std.proofs.lemmas.Bool.{and_parts, and_from, lt-ltb}
use Rattle.std.proofs.lemmas.Option.{slice_get_within}
use Rattle.std.specs.List.{AllByRecursion}
use Rattle.mcs_sets.specs.Sets.{has, such_that}
use Rattle.mcs_sets.proofs.SetLemmas.{has-such_that}
use Rattle.mcs_base.proofs.Booleans.{test_of, test_of-tells}
use Rattle.mcs_base.proofs.Deciding.{cases_all, cases_not}
use Rattle.mcs_system.specs.Plain.{Formula, Atom, Read, Bridge, System}
use Rattle.mcs_system.specs.Logic.{is_in, BeliefSet, Theory, Atoms, Believes}
use Rattle.mcs_system.specs.Systems.{all_rules, BelievesIn}
use Rattle.mcs_system.proofs.Consequence.{cases_entails}
use Rattle.mcs_system.proofs.MarkLemmas.{has-all_rules}
use Rattle.mcs_reduct.specs.Reducts.{AreUnblocked}

-- ---- whether something is believed is decided
pub decided : (b : BeliefSet) (p : Formula) → Believes b p ⊎ (¬ Believes b p)
decided (Theory fs) p = cases_entails fs p
decided (Atoms names) (Atom n) = at (is_in n names)
  where
    at : (v : Bool) → (v ≡ true) ⊎ (¬ (v ≡ true))
    at true = inl refl
    at false = inr (λ e. true≢false (sym e))
decided (Atoms names) p = inr (λ h. h)

pub decided_in : (s : List BeliefSet) (r : Read) → BelievesIn s r ⊎ (¬ BelievesIn s r)
decided_in s r = at (slice_get s r.context) refl
  where
    at : (o : Option BeliefSet) → slice_get s r.context ≡ o → BelievesIn s r ⊎ (¬ BelievesIn s r)
    at None e = inr (λ h. let no : None ≡ Some h.0 = sym e ∙ h.1 in cc)
    at (Some b) e = elim (decided b r.belief) [
      | inl h ↦ inl (b, e, h)
      | inr not ↦ inr (λ h. let same : h.0 ≡ b = cc in not (subst (λ (c : BeliefSet). Believes c r.belief) same h.2))
    ]

-- so there is the set of the rules of which no negative read is believed
none_believed_in : (s : List BeliefSet) (b : Bridge) → AllByRecursion (λ r. ¬ BelievesIn s r) b.neg ⊎ (¬ AllByRecursion (λ r. ¬ BelievesIn s r) b.neg)
none_believed_in s b = cases_all (λ r. ¬ BelievesIn s r) b.neg (λ r. cases_not (decided_in s r))

is_unblocked : List BeliefSet → Option Bridge → Bool
is_unblocked s None = false
is_unblocked s (Some b) = test_of (none_believed_in s b)

pub unblocked_rules : System → List BeliefSet → ℕ
unblocked_rules m s = such_that (length m.bridges) (λ k. is_unblocked s (slice_get m.bridges k))

pub are_unblocked : (m : System) (s : List BeliefSet) → AreUnblocked m s (unblocked_rules m s)
unfolding unblocked_rules is_unblocked
are_unblocked m s = record { of_rules = of_rules; exactly = λ k b is. (to k b is, from k b is) }
  where
    test : ℕ → Bool
    test k = is_unblocked s (slice_get m.bridges k)

    of_rules : (k : ℕ) → has (such_that (length m.bridges) (λ k. is_unblocked s (slice_get m.bridges k))) k ≡ true → has (all_rules m) k ≡ true
    of_rules k h = has-all_rules m k ∙ (and_parts (ltb k (length m.bridges)) (is_unblocked s (slice_get m.bridges k)) (sym (has-such_that (length m.bridges) (λ k. is_unblocked s (slice_get m.bridges k)) k) ∙ h)).0

    to : (k : ℕ) (b : Bridge) → slice_get m.bridges k ≡ Some b → has (such_that (length m.bridges) (λ k. is_unblocked s (slice_get m.bridges k))) k ≡ true → AllByRecursion (λ r. ¬ BelievesIn s r) b.neg
    to k b is h = (test_of-tells (none_believed_in s b)).0 (sym (ap (is_unblocked s) is)
        ∙ (and_parts (ltb k (length m.bridges)) (is_unblocked s (slice_get m.bridges k)) (sym (has-such_that (length m.bridges) (λ k. is_unblocked s (slice_get m.bridges k)) k) ∙ h)).1)

    from : (k : ℕ) (b : Bridge) → slice_get m.bridges k ≡ Some b → AllByRecursion (λ r. ¬ BelievesIn s r) b.neg → has (such_that (length m.bridges) (λ k. is_unblocked s (slice_get m.bridges k))) k ≡ true
    from k b is none = has-such_that (length m.bridges) (λ k. is_unblocked s (slice_get m.bridges k)) k
        ∙ and_from (ltb k (length m.bridges)) (is_unblocked s (slice_get m.bridges k)) (lt-ltb k (length m.bridges) (slice_get_within m.bridges k b is)) (ap (is_unblocked s) is ∙ (test_of-tells (none_believed_in s b)).1 none)
