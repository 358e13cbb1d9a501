-- Accepted traces and entailments are in shape, where formulas are not too large and there are not too many steps.
use Rattle.std.proofs.Common.{◌≡◌, ◌+◌, ◌^◌, ◌<◌, ◌≤◌, List, [], ◌∷◌, length, length-append, refl, sym, arith, true≢false}
use Rattle.std.proofs.lemmas.List.{length-map}
use Rattle.std.specs.List.{AllByRecursion}
use Rattle.mcs_base.proofs.Among.{among_zip}
use Rattle.mcs_base.proofs.Each.{all_from_among, all_weaker}
use Rattle.mcs_base.proofs.Lists.{length_zip}
use Rattle.mcs_system.specs.Plain.{Name, Formula, Not}
use Rattle.mcs_system.specs.Seen.{formula_size}
use Rattle.mcs_system.proofs.SizeLemmas.{IsSmall}
use Rattle.mcs_trace.specs.Traces.{Inference, IsAcceptedTrace}
use Rattle.mcs_trace.proofs.StepLemmas.{IsUpTo, IsToldStep, told_steps, some_steps}
use Rattle.mcs_spelling.specs.Parts.{IsSmallNumber, IsTraceStep}
use Rattle.mcs_cnf.specs.ClauseLists.{clause_list}
use Rattle.mcs_cnf.specs.Entailments.{Entailment, Yes, No, with_negated, IsAcceptedEntailment}
use Rattle.mcs_cnf.specs.Classical.{AreAcceptedEntailments}
use Rattle.mcs_cnf.proofs.SizeLemmas.{sizes, sizes_push, few_in_list, list_is_clauses}
use Rattle.mcs_evidence.specs.Defaults.{IsEntailmentShown, IsDenied, AreDenied}
use Rattle.mcs_proof_text.specs.Lines.{StepLine}
use Rattle.mcs_proof_text.specs.Answers.{trace_lines, entailment_lines, all_entailment_lines}
use Rattle.mcs_proof_text.specs.Shapes.{IsTrace, IsYes, IsNo, IsEither, AreMany}

-- ---- lines
-- the first line, and one for each step
pub some_lines : (e : Entailment) → 0 < length (entailment_lines e)
some_lines (Yes steps) = omega arith
some_lines (No places) = omega arith

pub lines_of_more : (e : Entailment) (es : List Entailment)
    → length (all_entailment_lines (e ∷ es)) ≡ length (entailment_lines e) + length (all_entailment_lines es)
lines_of_more e es = length-append (entailment_lines e) (all_entailment_lines es)

pub lines_of_steps : (steps : List Inference) → length (trace_lines steps) ≡ length steps
lines_of_steps steps = length-map steps StepLine

-- ---- traces
small_step : (s : Inference) → IsToldStep (2 ^ 62) s → IsTraceStep s
small_step s told =
    let small = all_weaker (IsUpTo (2 ^ 62)) IsSmallNumber (λ n is. (is.0, omega (arith, is.1))) s.chain told.numbers in
    record { clause = told.clause; some = told.some; numbers = small }

module _ (names : List Name) (few : length names ≤ 64) where
  pub trace_shape : (fs : List Formula) (steps : List Inference) → sizes fs ≤ 2 ^ 59 → length steps ≤ 2 ^ 28
      → IsAcceptedTrace (clause_list names fs).clauses steps → IsTrace steps
  trace_shape fs steps small short (right, ends) = (
    some_steps steps ends,
    all_weaker (IsToldStep (2 ^ 62)) IsTraceStep small_step steps
        (told_steps (clause_list names fs).clauses (2 ^ 62) steps (list_is_clauses names fs (omega arith)) (omega (arith, few_in_list names fs)) right),
  )

  -- ---- entailments
  negated_trace : (fs : List Formula) (g : Formula) (steps : List Inference) → sizes fs ≤ 2 ^ 58 → formula_size g ≤ 1000
      → length (entailment_lines (Yes steps)) ≤ 2 ^ 28 → IsAcceptedEntailment names fs g (Yes steps) → IsTrace steps
  negated_trace fs g steps small small' short accepted =
      trace_shape (with_negated fs g) steps (omega (arith, sizes_push fs (Not g))) (omega (arith, lines_of_steps steps)) accepted

  pub yes_shape : (fs : List Formula) (g : Formula) (e : Entailment) → sizes fs ≤ 2 ^ 58 → formula_size g ≤ 1000 → length (entailment_lines e) ≤ 2 ^ 28
      → IsEntailmentShown names fs g e → IsYes e
  yes_shape fs g (Yes steps) small small' short shown = negated_trace fs g steps small small' short shown.0
  yes_shape fs g (No places) small small' short shown = absurd (true≢false (sym shown.1))

  pub no_shape : (fs : List Formula) (g : Formula) (e : Entailment) → IsDenied names fs g e → IsNo names e
  no_shape fs g (Yes steps) denied = absurd (true≢false denied.1)
  no_shape fs g (No places) denied = denied.0.model.in_range

  either_shape : (fs : List Formula) (g : Formula) (e : Entailment) → sizes fs ≤ 2 ^ 58 → formula_size g ≤ 1000 → length (entailment_lines e) ≤ 2 ^ 28
      → IsAcceptedEntailment names fs g e → IsEither names e
  either_shape fs g (Yes steps) small small' short accepted = negated_trace fs g steps small small' short accepted
  either_shape fs g (No places) small small' short refuted = refuted.model.in_range

  -- ---- lists of them
  pub no_shapes : (fs goals : List Formula) (es : List Entailment) → AreDenied names fs goals es → AreMany (IsNo names) (length goals) es
  no_shapes fs goals es denied = record {
    many = sym (length_zip (IsDenied names fs) goals es denied);
    each = all_from_among (IsNo names) es (λ e among. let (g, asked, h) = among_zip (IsDenied names fs) goals es denied e among in no_shape fs g e h);
  }

  pub either_shapes : (fs gs : List Formula) (es : List Entailment) → sizes fs ≤ 2 ^ 58 → AllByRecursion IsSmall gs
      → length (all_entailment_lines es) ≤ 2 ^ 28 → AreAcceptedEntailments names fs gs es → AreMany (IsEither names) (length gs) es
  either_shapes fs [] [] small small' short accepted = record { many = refl; each = tt }
  either_shapes fs [] (e ∷ es) small small' short accepted = absurd accepted
  either_shapes fs (g ∷ gs) [] small small' short accepted = absurd accepted
  either_shapes fs (g ∷ gs) (e ∷ es) small small' short accepted =
      let lines = lines_of_more e es in
      let rest = either_shapes fs gs es small small'.1 (omega arith) accepted.1 in
      let here : formula_size g ≤ 512 = small'.0 in
      record { many = omega (arith, rest.many); each = (either_shape fs g e small (omega arith) (omega arith) accepted.0, rest.each) }
