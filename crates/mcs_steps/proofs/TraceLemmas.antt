-- Traces, judged step by step.
use Rattle.std.proofs.Common.{◌≡◌, ◌+◌, ◌-◌, ◌↔◌, ◌==◌, Bool, true, false, IsTrue, List, [], ◌∷◌, ◌++◌, length, slice_get, Some, None, Ok, Err, ℤ, cond, refl, sym, ap, ◌∙◌, subst, arith, append_assoc, append-nil, length-append, true≢false}
use Rattle.std.proofs.lemmas.List.{map_push}
use Rattle.std.proofs.lemmas.Option.{same_Some}
use Rattle.std.specs.List.{AllByRecursion}
use Rattle.mcs_base.proofs.Each.{all_push}
use Rattle.mcs_base.proofs.Lists.{slice_get-append_right}
use Rattle.mcs_trace.specs.Clauses.{IsClause}
use Rattle.mcs_trace.specs.Traces.{Inference, IsChainResolvent, AreRightSteps, EndsEmpty, IsAcceptedTrace}
use Rattle.mcs_spelling.specs.Lines.{is_empty}
use Rattle.mcs_spelling.specs.Words.{step_of}
use Rattle.mcs_proof_lines.specs.Walks.{At, Reading, line_at, advanced, steps_at, trace_at, one_or_more, fault_at}
use Rattle.mcs_proof_lines.proofs.WalkLemmas.{steps_push, steps_end, steps_some, steps_none}
use Rattle.mcs_steps.specs.Lines.{Spells}
use Rattle.mcs_steps.specs.Judging.{IsJudged, IsPassed, IsStepJudged, IsJudgedOn, AreStepsJudged, clauses_in}
use Rattle.mcs_steps.specs.declared.line.StepLine as code
use Rattle.mcs_steps.specs.declared.trace.Judged as judged
use Rattle.mcs_steps.proofs.ChainLemmas.{none_spelled, nothing_left, no_bytes}

-- ---- one step more
right_more : (known : List (List ℤ)) (steps : List Inference) (s : Inference) → AreRightSteps known (steps ++ s ∷ []) ↔ (AreRightSteps known steps × IsChainResolvent (known ++ clauses_in steps) s.chain s.clause)
right_more known [] s =
    let same : known ++ [] ≡ known = append-nil known in (
      λ h. (tt, subst (λ (ks : List (List ℤ)). IsChainResolvent ks s.chain s.clause) (sym same) h.0),
      λ h. (subst (λ (ks : List (List ℤ)). IsChainResolvent ks s.chain s.clause) same h.1, tt),
    )
right_more known (t ∷ steps) s =
    let again = right_more (known ++ t.clause ∷ []) steps s in
    let same : (known ++ t.clause ∷ []) ++ clauses_in steps ≡ known ++ (t.clause ∷ clauses_in steps) = append_assoc known (t.clause ∷ []) (clauses_in steps) in (
      λ h. (let both = again.0 h.1 in ((h.0, both.0), subst (λ (ks : List (List ℤ)). IsChainResolvent ks s.chain s.clause) same both.1)),
      λ h. (h.0.0, again.1 (h.0.1, subst (λ (ks : List (List ℤ)). IsChainResolvent ks s.chain s.clause) (sym same) h.1)),
    )

ends_more : (steps : List Inference) (s : Inference) → EndsEmpty (steps ++ s ∷ []) ↔ (s.clause ≡ [])
ends_more steps s = (
  λ (t, is, empty). ap (λ (x : Inference). x.clause) (same_Some s t (sym at ∙ is)) ∙ empty,
  λ empty. (s, at, empty),
)
  where
    at : slice_get (steps ++ s ∷ []) (length (steps ++ s ∷ []) - 1) ≡ Some s
    at =
        let long = length-append steps (s ∷ []) in
        let place : length (steps ++ s ∷ []) - 1 ≡ length steps + 0 = omega (arith, long) in
        ap (slice_get (steps ++ s ∷ [])) place ∙ slice_get-append_right steps (s ∷ []) 0

none_ends : ¬ EndsEmpty []
none_ends (s, is, empty) = (let wrong : ⊥ = cc in wrong)

-- no literals are spelled by no bytes
pub spelled_empty : (part : code.StepLine) (s : Inference) → Spells part s → (v : Bool) → v ≡ (length part.literals.now == 0) → IsTrue v ↔ (s.clause ≡ [])
spelled_empty part s h v e = (
  λ yes. none_spelled part.literals.now s.clause (no_bytes part.literals.now (sym e ∙ yes)) h.literals,
  λ empty. e ∙ nothing_left part.literals.now (h.literals ∙ ap (λ (ls : List ℤ). Some ls) empty),
)

-- ---- so far
pub record IsJudging (clauses : List (List ℤ)) (start at : At) (j : judged.Judged) (derived : List (List ℤ)) : Type 0 where
  pub steps : List Inference
  pub read : ◌≡◌ {A = List Inference × At} (steps_at start) (steps ++ (steps_at at).0, (steps_at at).1)
  pub right : IsTrue j.are_right ↔ AreRightSteps clauses steps
  pub ends : IsTrue j.ends_empty ↔ EndsEmpty steps
  pub known : IsTrue j.are_right → derived ≡ clauses_in steps
  pub derived_clauses : AllByRecursion IsClause derived

pub judging_first : (clauses : List (List ℤ)) (start : At) (j : judged.Judged) (derived : List (List ℤ)) → j.are_right ≡ true → j.ends_empty ≡ false → derived ≡ [] → IsJudging clauses start start j derived
judging_first clauses start j derived right ends none = record {
  steps = [];
  read = refl;
  right = (λ h. tt, λ h. right);
  ends = (λ h. absurd (true≢false (sym h ∙ ends)), λ h. absurd (none_ends h));
  known = λ h. none;
  derived_clauses = subst (AllByRecursion IsClause) (sym none) tt;
}

module _ (clauses : List (List ℤ)) (start at now : At) (before after : judged.Judged) (old new : List (List ℤ)) (h : IsJudging clauses start at before old) where
  pub judging_more : (s : Inference) → line_at step_of at ≡ Some s → now ≡ advanced at → IsJudgedOn clauses old new s before after → IsJudging clauses start now after new
  judging_more s there moved on = record {
    steps = h.steps ++ s ∷ [];
    read = h.read ∙ sym (steps_push h.steps at s there) ∙ ap (λ (a : At). (let r : List Inference × At = ((h.steps ++ s ∷ []) ++ (steps_at a).0, (steps_at a).1) in r)) (sym moved);
    right = (
      λ yes. (let both = on.right.0 yes in (right_more clauses h.steps s).1 (h.right.0 both.0, subst (λ (ks : List (List ℤ)). IsChainResolvent (clauses ++ ks) s.chain s.clause) (h.known both.0) both.1)),
      λ right. (let both = (right_more clauses h.steps s).0 right in let yes = h.right.1 both.0 in on.right.1 (yes, subst (λ (ks : List (List ℤ)). IsChainResolvent (clauses ++ ks) s.chain s.clause) (sym (h.known yes)) both.1)),
    );
    ends = (λ yes. (ends_more h.steps s).1 (on.ends.0 yes), λ ends. on.ends.1 ((ends_more h.steps s).0 ends));
    known = λ yes. on.more yes ∙ ap (λ (ks : List (List ℤ)). ks ++ s.clause ∷ []) (h.known (on.right.0 yes).0) ∙ sym (map_push (λ (t : Inference). t.clause) h.steps s);
    derived_clauses = on.clauses_still;
  }

  pub judging_end : line_at step_of at ≡ None → AreStepsJudged clauses start at before
  judging_end none = record {
    steps = h.steps;
    read = h.read ∙ steps_end h.steps at none;
    right = h.right;
    ends = h.ends;
  }

-- ---- a step that is judged, where those before it are right or not
module _ (clauses old new : List (List ℤ)) (s : Inference) (before after : judged.Judged) (ends : IsTrue after.ends_empty ↔ (s.clause ≡ [])) (all : AllByRecursion IsClause old) where
  pub on_wrong : before.are_right ≡ false → after.are_right ≡ false → new ≡ old → IsJudgedOn clauses old new s before after
  on_wrong e e' same = record {
    right = (λ h. absurd (true≢false (sym h ∙ e')), λ h. absurd (true≢false (sym h.0 ∙ e)));
    ends = ends;
    more = λ h. absurd (true≢false (sym h ∙ e'));
    clauses_still = subst (AllByRecursion IsClause) (sym same) all;
  }

  pub on_judged : before.are_right ≡ true → IsClause s.clause → IsStepJudged clauses old new s after.are_right → IsJudgedOn clauses old new s before after
  on_judged e clause h = record {
    right = (λ yes. (e, h.right.0 yes), λ both. h.right.1 both.1);
    ends = ends;
    more = h.more;
    clauses_still = still after.are_right refl;
  }
    where
      still : (v : Bool) → after.are_right ≡ v → AllByRecursion IsClause new
      still true is = subst (AllByRecursion IsClause) (sym (h.more is)) (all_push IsClause old s.clause all clause)
      still false is = subst (AllByRecursion IsClause) (sym (h.less is)) all

-- ---- traces
some_first : (at : At) (s : Inference) → line_at step_of at ≡ Some s → is_empty (steps_at at).0 ≡ false
some_first at s e = ap (λ (r : List Inference × At). is_empty r.0) (steps_some at s e)

some_steps : (at now : At) (s : Inference) (steps : List Inference) → line_at step_of at ≡ Some s → steps_at at ≡ (steps, now) → trace_at at ≡ Ok (steps, now)
unfolding trace_at
some_steps at now s steps there e =
    ap one_or_more e ∙ ap (λ (v : Bool). (let r : Reading (List Inference) = cond v (fault_at now) (Ok (steps, now)) in r)) (sym (ap (λ (r : List Inference × At). is_empty r.0) e) ∙ some_first at s there)

pub no_trace : (at : At) → line_at step_of at ≡ None → trace_at at ≡ Err (at.taken + 1)
unfolding trace_at
no_trace at e = ap one_or_more (steps_none at e)

-- whether it is accepted
pub trace_told : (clauses : List (List ℤ)) (at now : At) (s : Inference) (j : judged.Judged) (told : Bool) → line_at step_of at ≡ Some s → AreStepsJudged clauses at now j → (IsTrue told ↔ (IsTrue j.are_right × IsTrue j.ends_empty))
    → IsJudged (IsAcceptedTrace clauses) told now (trace_at at)
trace_told clauses at now s j told there h both = record {
  value = h.steps;
  is = some_steps at now s h.steps there h.read;
  right = (λ yes. (let parts = both.0 yes in (h.right.0 parts.0, h.ends.0 parts.1)), λ accepted. both.1 (h.right.1 accepted.0, h.ends.1 accepted.1));
}

-- ---- steps that are passed
pub record ArePassed (start at : At) : Type 0 where
  pub steps : List Inference
  pub read : ◌≡◌ {A = List Inference × At} (steps_at start) (steps ++ (steps_at at).0, (steps_at at).1)

pub passed_first : (start : At) → ArePassed start start
passed_first start = record { steps = []; read = refl }

pub passed_more : (start at now : At) (s : Inference) → line_at step_of at ≡ Some s → now ≡ advanced at → ArePassed start at → ArePassed start now
passed_more start at now s there moved h = record {
  steps = h.steps ++ s ∷ [];
  read = h.read ∙ sym (steps_push h.steps at s there) ∙ ap (λ (a : At). (let r : List Inference × At = ((h.steps ++ s ∷ []) ++ (steps_at a).0, (steps_at a).1) in r)) (sym moved);
}

pub trace_passed : (start at : At) (s : Inference) → line_at step_of start ≡ Some s → line_at step_of at ≡ None → ArePassed start at → IsPassed at (trace_at start)
trace_passed start at s there none h = record { value = h.steps; is = some_steps start at s h.steps there (h.read ∙ steps_end h.steps at none) }
