-- What a system without equilibria needs, by a worked case.
use Rattle.std.proofs.Common.{◌≡◌, ℕ, ◌<◌, ◌≤◌, zero, suc, Bool, true, false, cond, List, [], ◌∷◌, ◌++◌, length, Some, refl, sym, ap, ◌∙◌, subst, inl, inr, arith, true≢false, slice_get}
use Rattle.std.specs.List.{list_all}
use Rattle.mcs_sets.specs.Sets.{has, common, union, minus, single, such_that, size, Within}
use Rattle.mcs_sets.proofs.SetLemmas.{Within-le}
use Rattle.mcs_sets.proofs.Lattice.{none_within, size-none, size-single}
use Rattle.mcs_base.specs.Listings.{IsAmong, IsListing}
use Rattle.mcs_system.specs.Plain.{Atom, ProgramRule, Context, System}
use Rattle.mcs_system.specs.Logic.{is_in, BeliefSet, Theory, Atoms, Accepts, with_heads, satisfies, reduct, IsAnswerSet}
use Rattle.mcs_system.specs.Systems.{variables, all_rules, heads_into, AcceptsWith, acting_at, applicable, IsConsistent}
use Rattle.mcs_system.specs.Repairs.{marks_of}
use Rattle.mcs_system.specs.Imports.{IsImportOrder, Reaches, rules_into, marks_at}
use Rattle.mcs_system.specs.Levels.{IsQuestionAt, AreQuestions}
use Rattle.mcs_system.proofs.MarkLemmas.{marks_known}
use Rattle.mcs_laws.specs.Laws.{NeedIsOfAllRules}
use Rattle.mcs_laws.specs.Examples.{name_a, name_b, a_unless_a, paradox, told_paradox}
use Rattle.mcs_laws.proofs.Free.{all_allowed}
use Rattle.mcs_laws.proofs.Projections.{parts_of}
use Rattle.mcs_laws.proofs.Tiny.{has-1}
use Rattle.mcs_base.proofs.Deciding.{only_test}
use Rattle.mcs_laws.proofs.Worked.{needed, in_one, fact_a}
use Rattle.mcs_base.proofs.Ranges.{zero_or_one}

-- ---- a :- not a. b.
abbrev fact_b : ProgramRule
fact_b = record { head = name_b ∷ []; pos = []; neg = [] }

reduced : (names : List (List ℕ)) (v : Bool) → is_in name_a names ≡ v → reduct names (a_unless_a ++ fact_b ∷ []) ≡ cond v (fact_b ∷ []) (fact_a ∷ fact_b ∷ [])
reduced names true e = rw e refl
reduced names false e = rw e refl

no_answer_set : (names : List (List ℕ)) → IsAnswerSet (a_unless_a ++ fact_b ∷ []) names → ⊥
no_answer_set names h = at (is_in name_a names) refl
  where
    at : (v : Bool) → is_in name_a names ≡ v → ⊥
    at true e =
        let has_b : is_in name_b names ≡ true = only_test (is_in name_b names) (sym (ap (list_all (satisfies names)) (reduced names true e)) ∙ h.model) in
        true≢false (sym (needed _ names (name_b ∷ []) h (λ n inside. ap (λ z. is_in z names) (in_one n name_b inside) ∙ has_b) (ap (list_all (satisfies (name_b ∷ []))) (reduced names true e)) name_a e))
    at false e = true≢false (sym (sym (ap (list_all (satisfies names)) (reduced names false e)) ∙ h.model) ∙ rw e refl)

-- ---- what the definitions compute to
rules_into-paradox : rules_into told_paradox 0 ≡ 1
unfolding rules_into such_that union single
rules_into-paradox = refl

acting-paradox : (σ : ℕ) → acting_at told_paradox σ (all_rules told_paradox) 0 ≡ 1
unfolding applicable variables such_that union single common has
acting-paradox σ = refl

heads-paradox : heads_into told_paradox 0 1 ≡ Atom name_b ∷ []
heads-paradox = rw has-1 refl

marks-with : (σ : ℕ) → marks_at told_paradox 0 σ 1 ≡ 0
unfolding applicable rules_into variables marks_of such_that union single common minus has
marks-with σ = refl

marks-without : (σ : ℕ) → size (marks_at told_paradox 0 σ 0) ≡ 1
unfolding applicable rules_into variables marks_of such_that union single common minus has
marks-without σ = size-single 0

-- ---- no equilibrium
rejects : (b : BeliefSet) → AcceptsWith told_paradox 0 1 b → ⊥
rejects (Theory e) (c, is, accepts) = let same : c ≡ paradox = cc in subst (λ (d : Context). Accepts (with_heads d.kb (heads_into told_paradox 0 1)) (Theory e)) same accepts
rejects (Atoms names) (c, is, accepts) = let same : c ≡ paradox = cc in
    no_answer_set names (rw heads-paradox at (subst (λ (d : Context). Accepts (with_heads d.kb (heads_into told_paradox 0 1)) (Atoms names)) same accepts))

inconsistent : ¬ IsConsistent told_paradox
inconsistent c =
    let part = (parts_of told_paradox _ 0 c.equilibrium c.balanced).1 0 (omega arith) in
    let acts = rw acting-paradox at part in
    rejects acts.belief acts.accepted

-- ---- the questions
-- the one context is the whole order
pub alone_first : (m : System) → length m.contexts ≡ 1 → IsImportOrder m (0 ∷ [])
alone_first m one = (
  record {
    ready = record {
      in_range = omega arith;
      untaken = λ h. h;
      back = λ j less untaken reaches. (let only : j ≡ 0 = omega arith in subst (λ k. Reaches m k 0) (sym only) (subst (λ k. Reaches m 0 k) only reaches));
    };
    lowest = λ j ready. omega arith;
  },
  λ i less. inl (omega arith),
)

asked : (level x : ℕ) → Within x 1 → size (marks_at told_paradox 0 0 x) ≤ level → IsQuestionAt told_paradox level 0 x
asked level x within few = (
  0 ∷ [],
  alone_first told_paradox refl,
  record {
    of_rules = rw rules_into-paradox within;
    state = 0;
    of_variables = none_within _;
    supplies = λ j nothing. absurd nothing;
    allowed = rw (all_allowed told_paradox ((refl, refl), tt)) (marks_known told_paradox _ _);
    near = few;
  },
)

of_one : (x : ℕ) → Within x (rules_into told_paradox 0) → IsAmong x (1 ∷ 0 ∷ [])
of_one x within = zero_or_one x (rw rules_into-paradox at (Within-le x _ within))

with_rule : (level : ℕ) → IsQuestionAt told_paradox level 0 1
with_rule level = asked level 1 (λ k h. h) (let e = ap size (marks-with 0) ∙ size-none in omega arith)

counted : (level : ℕ) (xs : List ℕ) → IsListing (IsQuestionAt told_paradox level 0) (λ a b. a < b) xs → AreQuestions told_paradox level (xs ∷ [])
counted level xs listing = record { one_each = refl; listed = at }
  where
    at : (i : ℕ) (ys : List ℕ) → slice_get (xs ∷ []) i ≡ Some ys → IsListing (IsQuestionAt told_paradox level i) (λ a b. a < b) ys
    at zero ys is = let same : xs ≡ ys = cc in subst (IsListing (IsQuestionAt told_paradox level 0) (λ a b. a < b)) same listing
    at (suc i) ys is = cc

pub need_of_all_rules : NeedIsOfAllRules
need_of_all_rules = (
  inr (inconsistent, ((0 ∷ 1 ∷ []) ∷ [], counted 1 (0 ∷ 1 ∷ []) both, refl)),
  ((1 ∷ []) ∷ [], counted 0 (1 ∷ []) one, refl),
)
  where
    both : IsListing (IsQuestionAt told_paradox 1 0) (λ a b. a < b) (0 ∷ 1 ∷ [])
    both = record {
      exactly = λ x. (
        λ among. elim among [
          | inl e ↦ rw e (asked 1 0 (none_within 1) (let many = marks-without 0 in omega arith))
          | inr rest ↦ elim rest [ inl e ↦ rw e (with_rule 1) | inr nothing ↦ absurd nothing ]
        ],
        λ (order, is, question). elim (of_one x question.of_rules) [
          | inl e ↦ inr (inl e)
          | inr rest ↦ elim rest [ inl e ↦ inl e | inr nothing ↦ absurd nothing ]
        ],
      );
      ascending = ((omega arith, tt), (tt, tt));
    }

    one : IsListing (IsQuestionAt told_paradox 0 0) (λ a b. a < b) (1 ∷ [])
    one = record {
      exactly = λ x. (
        λ among. elim among [ inl e ↦ rw e (with_rule 0) | inr nothing ↦ absurd nothing ],
        λ (order, is, question). elim (of_one x question.of_rules) [
          | inl e ↦ inl e
          | inr rest ↦ elim rest [ inl e ↦ absurd (let many = marks-without question.state in let near = subst (λ y. size (marks_at told_paradox 0 question.state y) ≤ 0) e question.near in omega arith) | inr nothing ↦ absurd nothing ]
        ],
      );
      ascending = (tt, tt);
    }
