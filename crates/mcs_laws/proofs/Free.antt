-- In a system without kept and closed rules each mark of a rule is allowed, so each notion of repairs says what it says where no rule is barred.
use Rattle.std.proofs.Common.{◌≡◌, ℕ, ◌+◌, ◌*◌, zero, suc, false, List, [], ◌∷◌, reverse, slice_get, refl, sym, ap, ◌∙◌, inl, inr, ◌⊎◌, arith, true≢false}
use Rattle.std.proofs.lemmas.Bool.Decides.{nat_tests}
use Rattle.std.specs.List.{AllByRecursion}
use Rattle.mcs_sets.specs.Sets.{has, Within}
use Rattle.mcs_sets.proofs.SetLemmas.{same_set}
use Rattle.mcs_system.specs.Plain.{Bridge, System}
use Rattle.mcs_system.specs.Repairs.{all_marks, allowed_marks, kept_rules, closed_rules, is_kept, is_closed, IsChange}
use Rattle.mcs_system.specs.Systems.{all_rules}
use Rattle.mcs_system.specs.Imports.{before_in, IsQuestionAfter, IsPossibleFrom}
use Rattle.mcs_system.proofs.MarkLemmas.{has-all_rules, has-all_marks, has-kept_rules, has-closed_rules, allowed-even, allowed-odd, by_parity, marks_known, allowed_known}
use Rattle.mcs_laws.specs.Free.{IsUnbarred, IsFreeQuestionAfter, IsFreePossibleFrom}
use Rattle.mcs_laws.specs.Laws.{AllMarksAreAllowed, FreeDiagnoses, FreeExplanations, FreeChoices, FreeQuestions, FreeRows}

-- ---- each mark is allowed
unbarred_at : (bs : List Bridge) → AllByRecursion (λ (b : Bridge). (b.keep ≡ false) × (b.closed ≡ false)) bs → (r : ℕ) → (is_kept (slice_get bs r) ≡ false) × (is_closed (slice_get bs r) ≡ false)
unbarred_at [] all r = (refl, refl)
unbarred_at (b ∷ bs) all zero = all.0
unbarred_at (b ∷ bs) all (suc r) = unbarred_at bs all.1 r

module _ (m : System) (free : IsUnbarred m) where
  none_kept : (r : ℕ) → has (kept_rules m) r ≡ false
  none_kept r = let e = has-kept_rules m r in let no = (unbarred_at m.bridges free r).0 in grind (arith, nat_tests)

  none_closed : (r : ℕ) → has (closed_rules m) r ≡ false
  none_closed r = let e = has-closed_rules m r in let no = (unbarred_at m.bridges free r).1 in grind (arith, nat_tests)

  even : (r : ℕ) → has (allowed_marks m) (2 * r) ≡ has (all_marks m) (2 * r)
  even r = let e1 = allowed-even m r in let e2 = none_kept r in let e3 = has-all_rules m r in let e4 = has-all_marks m (2 * r) in grind (arith, nat_tests)

  odd : (r : ℕ) → has (allowed_marks m) (2 * r + 1) ≡ has (all_marks m) (2 * r + 1)
  odd r = let e1 = allowed-odd m r in let e2 = none_closed r in let e3 = has-all_rules m r in let e4 = has-all_marks m (2 * r + 1) in grind (arith, nat_tests)

  same_marks : allowed_marks m ≡ all_marks m
  same_marks = same_set _ _ (λ k. at k (by_parity k))
    where
      at : (k : ℕ) → (r : ℕ) × ((k ≡ 2 * r) ⊎ (k ≡ 2 * r + 1)) → has (allowed_marks m) k ≡ has (all_marks m) k
      at k (r, inl e) = ap (has (allowed_marks m)) e ∙ even r ∙ ap (has (all_marks m)) (sym e)
      at k (r, inr e) = ap (has (allowed_marks m)) e ∙ odd r ∙ ap (has (all_marks m)) (sym e)

  allows : (marks : ℕ) → Within marks (all_marks m) → Within marks (allowed_marks m)
  allows marks within = rw same_marks within

  changes : (r1 r2 : ℕ) → Within r1 (all_rules m) → Within r2 (all_rules m) → IsChange m r1 r2
  changes r1 r2 w1 w2 = record {
    of_rules = w1;
    forced_of_rules = w2;
    kept = λ r is. absurd (true≢false (sym is ∙ none_kept r));
    none_closed = λ meets. true≢false (sym meets.in_second ∙ none_closed meets.member);
  }

  -- ---- questions
  free_question : (level : ℕ) (cs : List ℕ) (P Q : ℕ → ℕ → Type 0) (i x : ℕ) → ((j τ : ℕ) → P j τ → Q j τ) → IsQuestionAfter m level cs P i x → IsFreeQuestionAfter m level cs Q i x
  free_question level cs P Q i x same h = record { of_rules = h.of_rules; believed = h.state; of_variables = h.of_variables; supplies = λ j among imported. same j _ (h.supplies j among imported); near = h.near }

  question_free : (level : ℕ) (cs : List ℕ) (P Q : ℕ → ℕ → Type 0) (i x : ℕ) → ((j τ : ℕ) → P j τ → Q j τ) → IsFreeQuestionAfter m level cs P i x → IsQuestionAfter m level cs Q i x
  question_free level cs P Q i x same h = record {
    of_rules = h.of_rules;
    state = h.believed;
    of_variables = h.of_variables;
    supplies = λ j among imported. same j _ (h.supplies j among imported);
    allowed = allows _ (marks_known m _ _);
    near = h.near;
  }

  free_possible : (level : ℕ) (cs : List ℕ) (j τ : ℕ) → IsPossibleFrom m level cs j τ → IsFreePossibleFrom m level cs j τ
  free_possible level [] j τ h = absurd h
  free_possible level (c ∷ cs) j τ (inl (e, (x, question, part))) = inl (e, (x, free_question level cs _ _ j x (free_possible level cs) question, part))
  free_possible level (c ∷ cs) j τ (inr (other, h)) = inr (other, free_possible level cs j τ h)

  possible_free : (level : ℕ) (cs : List ℕ) (j τ : ℕ) → IsFreePossibleFrom m level cs j τ → IsPossibleFrom m level cs j τ
  possible_free level [] j τ h = absurd h
  possible_free level (c ∷ cs) j τ (inl (e, (x, question, part))) = inl (e, (x, question_free level cs _ _ j x (possible_free level cs) question, part))
  possible_free level (c ∷ cs) j τ (inr (other, h)) = inr (other, possible_free level cs j τ h)

-- ---- the laws
pub all_allowed : AllMarksAreAllowed
all_allowed m free = same_marks m free

pub free_diagnoses : FreeDiagnoses
free_diagnoses m pair free = (
  λ d. (allowed_known m pair d.allowed, (d.equilibrium, d.balanced)),
  λ d. (let (of_rules, (σ, balanced)) = d in record { allowed = allows m free pair of_rules; equilibrium = σ; balanced = balanced }),
)

pub free_explanations : FreeExplanations
free_explanations m pair free = (
  λ e. record { of_rules = e.of_rules; none = λ r1 r2 all w1 w2 apart σ at. e.none r1 r2 (changes m free r1 r2 w1 w2) all apart σ at },
  λ e. record { of_rules = e.of_rules; none = λ r1 r2 change all apart σ at. e.none r1 r2 all change.of_rules change.forced_of_rules apart σ at },
)

pub free_choices : FreeChoices
free_choices m σ x free = (
  λ c. (c.of_rules, (c.of_variables, c.accepted)),
  λ c. (let (of_rules, (of_variables, accepted)) = c in record { of_rules = of_rules; of_variables = of_variables; allowed = allows m free _ (marks_known m _ _); accepted = accepted }),
)

pub free_questions : FreeQuestions
free_questions m order level i x free = (
  free_question m free level (reverse (before_in order i)) _ _ i x (free_possible m free level (reverse (before_in order i))),
  question_free m free level (reverse (before_in order i)) _ _ i x (possible_free m free level (reverse (before_in order i))),
)

pub free_rows : FreeRows
free_rows m order level i state marks free = (
  λ r. record {
    whole = r.whole;
    of_variables = r.of_variables;
    asked = r.rules;
    of_rules = r.of_rules;
    accepted = r.accepted;
    supplies = λ j among imported. (let (x, question, part) = r.supplies j among imported in (x, (free_questions m order level j x free).0 question, part));
    state_is = r.state_is;
    marks_is = r.marks_is;
    few = r.few;
  },
  λ r. record {
    whole = r.whole;
    of_variables = r.of_variables;
    rules = r.asked;
    of_rules = r.of_rules;
    accepted = r.accepted;
    supplies = λ j among imported. (let (x, question, part) = r.supplies j among imported in (x, (free_questions m order level j x free).1 question, part));
    state_is = r.state_is;
    marks_is = r.marks_is;
    allowed = allows m free marks (rw (← r.marks_is) (marks_known m _ _));
    few = r.few;
  },
)
