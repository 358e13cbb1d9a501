-- Traces, read.
use Rattle.std.proofs.Common.{◌≡◌, ℕ, ◌+◌, List, [], ◌∷◌, ◌++◌, map, length, Option, Some, None, Ok, Err, refl, sym, ap, ◌∙◌, subst, arith, lit<}
use Rattle.std.proofs.lemmas.List.{length-map}
use Rattle.std.specs.List.{AllByRecursion}
use Rattle.std.specs.Option.{option_and_then}
use Rattle.mcs_trace.specs.Traces.{Inference}
use Rattle.mcs_spelling.specs.Parts.{IsTraceStep, step_text, SpellsStep}
use Rattle.mcs_spelling.specs.Words.{step_of}
use Rattle.mcs_spelling.proofs.LiteralTexts.{step_told, step_read, shape_from}
use Rattle.mcs_proof_lines.specs.Walks.{At, Reading, with_step, steps_from, steps_at, one_or_more, trace_at}
use Rattle.mcs_proof_lines.specs.Readings.{here, Stops, AreLinesRead, ReadsLines}
use Rattle.mcs_proof_lines.proofs.Readings.{stuck_first_line, same_reading, same_head}

-- what is read of a line
step_exact : (line : List ℕ) (s : Inference) → step_of line ≡ Some s → IsTraceStep s × (line ≡ step_text s)
step_exact line s e = subst (SpellsStep line) e (step_told line (step_of line) refl)

spelled_step : (s : Inference) → IsTraceStep s → step_of (step_text s) ≡ Some s
spelled_step s h = step_read s (shape_from s s.chain refl h.clause h.some h.numbers)

pub record AreStepsOf (n : ℕ) (rest : List (List ℕ)) (tail : List ℕ) (r : List Inference × At) : Type 0 where
  pub steps : AllByRecursion IsTraceStep r.0
  pub rest_is : rest ≡ map step_text r.0 ++ r.1.rest
  pub taken : r.1.taken ≡ n + length r.0
  pub tail_is : r.1.tail ≡ tail
  pub stops : Stops r.1.rest

steps_sound : (n : ℕ) (rest : List (List ℕ)) (tail : List ℕ) → AreStepsOf n rest tail (steps_from n rest tail)
steps_sound n [] tail = record { steps = tt; rest_is = refl; taken = omega arith; tail_is = refl; stops = refl }
steps_sound n (line ∷ rest) tail = at (step_of line) refl (steps_sound (n + 1) rest tail)
  where
    at : (o : Option Inference) → step_of line ≡ o → AreStepsOf (n + 1) rest tail (steps_from (n + 1) rest tail)
        → AreStepsOf n (line ∷ rest) tail (with_step o (steps_from (n + 1) rest tail) (here n (line ∷ rest) tail))
    at None e h = record { steps = tt; rest_is = refl; taken = omega arith; tail_is = refl; stops = e }
    at (Some s) e h =
        let (is, spelled) = step_exact line s e in
        record {
          steps = (is, h.steps);
          rest_is = ap (λ (l : List ℕ). l ∷ rest) spelled ∙ ap (λ (ls : List (List ℕ)). step_text s ∷ ls) h.rest_is;
          taken = (let t = h.taken in omega (arith, t));
          tail_is = h.tail_is;
          stops = h.stops;
        }

none_from : (n : ℕ) (rest : List (List ℕ)) (tail : List ℕ) → Stops rest → steps_from n rest tail ≡ ([], here n rest tail)
none_from n [] tail stops = refl
none_from n (line ∷ rest) tail stops = ap (λ (o : Option Inference). with_step o (steps_from (n + 1) rest tail) (here n (line ∷ rest) tail)) stops

steps_complete : (xs : List Inference) (n : ℕ) (more : List (List ℕ)) (tail : List ℕ) → AllByRecursion IsTraceStep xs → Stops more → steps_from n (map step_text xs ++ more) tail ≡ (xs, here (n + length xs) more tail)
steps_complete [] n more tail is stops = none_from n more tail stops ∙ (let same : n ≡ n + length {A = Inference} [] = omega arith in ap (λ (m : ℕ). (let r : List Inference × At = ([], here m more tail) in r)) same)
steps_complete (x ∷ xs) n more tail is stops =
    let again = steps_complete xs (n + 1) more tail is.1 stops in
    let count : n + 1 + length xs ≡ n + length (x ∷ xs) = omega arith in
    ap (λ (o : Option Inference). with_step o (steps_from (n + 1) (map step_text xs ++ more) tail) (here n (step_text x ∷ (map step_text xs ++ more)) tail)) (spelled_step x is.0)
    ∙ ap (λ (r : List Inference × At). (let s : List Inference × At = (x ∷ r.0, r.1) in s)) again
    ∙ ap (λ (m : ℕ). (let s : List Inference × At = (x ∷ xs, here m more tail) in s)) count

-- ---- a trace: one step or more
abbrev pub IsTrace : List Inference → Type 0
IsTrace steps = (¬ (steps ≡ [])) × AllByRecursion IsTraceStep steps

abbrev one_step : Inference
one_step = record { clause = []; chain = 1 ∷ [] }

pub some_trace : (steps : List Inference) × IsTrace steps
some_trace = (one_step ∷ [], is_one_step)
  where
    is_one_step : IsTrace (one_step ∷ [])
    is_one_step = ((λ none. (cc)), (record { clause = (tt, tt); some = (λ none. (cc)); numbers = ((omega arith, lit< tt), tt) }, tt))

some_ok : (r : List Inference × At) (xs : List Inference) (now : At) → one_or_more r ≡ Ok (xs, now) → (r ≡ (xs, now)) × (¬ (r.0 ≡ []))
some_ok ([], a) xs now e = absurd (cc)
some_ok (y ∷ ys, a) xs now e = let parts = same_reading (y ∷ ys) xs a now e in (ap (λ (zs : List Inference). (let r : List Inference × At = (zs, a) in r)) parts.0 ∙ ap (λ (b : At). (let r : List Inference × At = (xs, b) in r)) parts.1, λ none. (cc))

some_err : (r : List Inference × At) (n : ℕ) → one_or_more r ≡ Err n → (r.0 ≡ []) × (n ≡ r.1.taken + 1)
some_err ([], a) n e = (refl, (let same : a.taken + 1 ≡ n = cc in sym same))
some_err (y ∷ ys, a) n e = absurd (cc)

some_read : (xs : List Inference) (now : At) → ¬ (xs ≡ []) → one_or_more (xs, now) ≡ Ok (xs, now)
some_read [] now some = absurd (some refl)
some_read (x ∷ xs) now some = refl

long : (xs : List Inference) → length (map step_text xs) ≡ length xs
long xs = length-map xs step_text

trace_sound : (at now : At) (xs : List Inference) → trace_at at ≡ Ok (xs, now) → AreLinesRead IsTrace (map step_text) at now xs × Stops now.rest
unfolding trace_at steps_at
trace_sound at now xs e =
    let (same, some) = some_ok (steps_from at.taken at.rest at.tail) xs now e in
    let h : AreStepsOf at.taken at.rest at.tail (xs, now) = subst (AreStepsOf at.taken at.rest at.tail) same (steps_sound at.taken at.rest at.tail) in
    let items : (steps_from at.taken at.rest at.tail).0 ≡ xs = ap (λ (r : List Inference × At). r.0) same in
    (record { is = ((λ none. some (items ∙ none)), h.steps); rest = h.rest_is; taken = (let t = h.taken in omega (arith, t, long xs)); tail = h.tail_is }, h.stops)

trace_complete : (xs : List Inference) (n : ℕ) (more : List (List ℕ)) (tail : List ℕ) → IsTrace xs → Stops more → trace_at (here n (map step_text xs ++ more) tail) ≡ Ok (xs, here (n + length (map step_text xs)) more tail)
unfolding trace_at steps_at
trace_complete xs n more tail is stops =
    let count : n + length xs ≡ n + length (map step_text xs) = omega (arith, long xs) in
    ap one_or_more (steps_complete xs n more tail is.1 stops) ∙ some_read xs (here (n + length xs) more tail) is.0 ∙ ap (λ (m : ℕ). (let r : Reading (List Inference) = Ok (xs, here m more tail) in r)) count

trace_failed : (at : At) (n : ℕ) → trace_at at ≡ Err n → (n ≡ at.taken + 0 + 1) × Stops at.rest
unfolding trace_at steps_at
trace_failed at n e =
    let (none, number) = some_err (steps_from at.taken at.rest at.tail) n e in
    let h = steps_sound at.taken at.rest at.tail in
    let rest : at.rest ≡ (steps_from at.taken at.rest at.tail).1.rest = h.rest_is ∙ ap (λ (xs : List Inference). map step_text xs ++ (steps_from at.taken at.rest at.tail).1.rest) none in
    let count : length (steps_from at.taken at.rest at.tail).0 ≡ 0 = ap length none in
    ((let t = h.taken in omega (arith, number, t, count)), subst Stops (sym rest) h.stops)

trace_stopped : (n : ℕ) (rest : List (List ℕ)) (tail : List ℕ) → Stops rest → trace_at (here n rest tail) ≡ Err (n + 1)
unfolding trace_at steps_at
trace_stopped n rest tail stops = ap one_or_more (none_from n rest tail stops)

pub reads_trace : ReadsLines IsTrace (map step_text) Stops trace_at
reads_trace = record {
  sound = λ at now xs e. (trace_sound at now xs e).0;
  complete = trace_complete;
  fault = λ at n e. (0, stuck_first_line IsTrace (map step_text) at n (trace_failed at n e).0);
  local = λ at k rest tail e less front. (
      let (number, stops) = trace_failed at (at.taken + k + 1) e in
      let first : k ≡ 0 = omega (arith, number) in
      let one : at.taken + 1 ≡ at.taken + k + 1 = omega (arith, first) in
      trace_stopped at.taken rest tail (ap (option_and_then step_of) (same_head k rest at.rest front) ∙ stops) ∙ ap (λ (m : ℕ). (let r : Reading (List Inference) = Err m in r)) one);
  stable = λ at now xs rest tail e next. (
      let (r, stops) = trace_sound at now xs e in
      trace_complete xs at.taken rest tail r.is (ap (option_and_then step_of) next ∙ stops) ∙ ap (λ (m : ℕ). (let s : Reading (List Inference) = Ok (xs, here m rest tail) in s)) (sym r.taken));
}
