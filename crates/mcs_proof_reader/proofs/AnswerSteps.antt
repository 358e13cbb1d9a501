-- An answer, read part by part as the code reads it.
use Rattle.std.proofs.Common.{◌≡◌, ℕ, ◌+◌, codes, slice_get, List, Option, Some, None, Result, Ok, Err, MatchResult, sym, ap, ◌∙◌, subst, arith, ◌<◌, length, length-append}
use Rattle.std.specs.Option.{option_and_then}
use Rattle.std.specs.Result.{IsErrAnd}
use Rattle.mcs_sets.specs.Sets.{Within}
use Rattle.mcs_base.proofs.Lists.{slice_get_below}
use Rattle.mcs_system.specs.Plain.{Context, System}
use Rattle.mcs_system.specs.Naming.{IsSystemNamed}
use Rattle.mcs_system.specs.Faults.{IsValid}
use Rattle.mcs_system.specs.Imports.{rules_into}
use Rattle.mcs_proof_text.specs.Answers.{Answer, answer_lines}
use Rattle.mcs_proof_lines.specs.declared.fault.ReportFault.{ReportFault}
use Rattle.mcs_proof_lines.specs.declared.fault.ReportFault.TheVariants as faults
use Rattle.mcs_proof_lines.specs.Walks.{At, Reading, ◌>>=◌, ReturnsReading, advanced, next_line, line_at, taken_at, expect_at}
use Rattle.mcs_proof_reader.specs.Questions.{next_question}
use Rattle.mcs_proof_reader.specs.Answers.{Shown, shown_at, shown_of, answer_at}
use Rattle.mcs_proof_reader.specs.Keeping.{TakesAndKeeps}
use Rattle.mcs_proof_reader.proofs.AnswerReadings.{reads_answer}
use Rattle.mcs_proof_reader.proofs.QuestionReadings.{next_line as question_line}

module _ (m : System) (last : Option (ℕ × ℕ)) (at : At) where
  -- no question is next
  pub not_asked : line_at (next_question m last) at ≡ None → answer_at m last at ≡ Err (at.taken + 1)
  unfolding answer_at
  not_asked e = ap (λ (o : Option (ℕ × ℕ)). taken_at at o >>= λ question. shown_of m question.0.0 (slice_get m.contexts question.0.0) question.1 >>= λ shown. expect_at (codes "done") shown.1
      >>= λ next. (let r : Reading Answer = Ok (record { context = question.0.0; active = question.0.1; outputs = shown.0.0; cert = shown.0.1 }, next) in r)) e

  module _ (q : ℕ × ℕ) (c : Context) (asked : line_at (next_question m last) at ≡ Some q) (is : slice_get m.contexts q.0 ≡ Some c) (first : At) (moved : first ≡ advanced at) where
    abbrev finish : Shown × At → Reading Answer
    finish shown = expect_at (codes "done") shown.1 >>= λ next. Ok (record { context = q.0; active = q.1; outputs = shown.0.0; cert = shown.0.1 }, next)

    to_shown : answer_at m last at ≡ (shown_at m q.0 c.kb first >>= finish)
    unfolding answer_at
    to_shown =
        ap (λ (o : Option (ℕ × ℕ)). taken_at at o >>= λ question. shown_of m question.0.0 (slice_get m.contexts question.0.0) question.1 >>= λ shown. expect_at (codes "done") shown.1
        >>= λ next. (let r : Reading Answer = Ok (record { context = question.0.0; active = question.0.1; outputs = shown.0.0; cert = shown.0.1 }, next) in r)) asked
        ∙ (ap (λ (o : Option Context). shown_of m q.0 o (advanced at) >>= finish) is ∙ ap (λ (a : At). shown_at m q.0 c.kb a >>= finish) (sym moved))

    -- what is put out is wrong
    pub shown_failed : (fault : ReportFault) → ReturnsReading fault (shown_at m q.0 c.kb first) → ReturnsReading fault (answer_at m last at)
    shown_failed faults.Memory told = tt
    shown_failed (faults.Grammar k) told = to_shown ∙ ap (λ (r : Reading Shown). r >>= finish) told

    module _ (shown : Shown) (mid : At) (read : shown_at m q.0 c.kb first ≡ Ok (shown, mid)) where
      -- the line that ends the answer is wrong
      pub end_failed : (fault : ReportFault) → ReturnsReading fault (expect_at (codes "done") mid) → ReturnsReading fault (answer_at m last at)
      end_failed faults.Memory told = tt
      end_failed (faults.Grammar k) told = to_shown ∙ (ap (λ (r : Reading Shown). r >>= finish) read
          ∙ ap (λ (r : Result At ℕ). r >>= λ next. (let s : Reading Answer = Ok (record { context = q.0; active = q.1; outputs = shown.0; cert = shown.1 }, next) in s)) told)

      pub answered : (now : At) → expect_at (codes "done") mid ≡ Ok now → answer_at m last at ≡ Ok (record { context = q.0; active = q.1; outputs = shown.0; cert = shown.1 }, now)
      answered now told = to_shown ∙ (ap (λ (r : Reading Shown). r >>= finish) read
          ∙ ap (λ (r : Result At ℕ). r >>= λ next. (let s : Reading Answer = Ok (record { context = q.0; active = q.1; outputs = shown.0; cert = shown.1 }, next) in s)) told)

-- ---- a fault that is handed on
pub taken_err : {K : Type 0} (keeps : System → Answer → ℕ → K → Type 0) (m : System) (q : ℕ × ℕ) (line : ℕ) (r : Result K ReportFault) (now : At) (read : Reading Shown) (e : ReportFault) → IsErrAnd r (λ d. d ≡ e) → ReturnsReading e read
    → TakesAndKeeps keeps m q line r now read
taken_err keeps m q line (Ok k) now read e h told = absurd h
taken_err keeps m q line (Err d) now read e h told = subst (λ (f : ReportFault). ReturnsReading f read) (sym h) told

-- of what the context of the question shows
pub shown_err : {K : Type 0} (keeps : System → Answer → ℕ → K → Type 0) (m : System) (q : ℕ × ℕ) (line : ℕ) (c : Context) → slice_get m.contexts q.0 ≡ Some c → (r : Result K ReportFault) (now at : At) (e : ReportFault) → IsErrAnd r (λ d. d ≡ e)
    → ReturnsReading e (shown_at m q.0 c.kb at) → TakesAndKeeps keeps m q line r now (shown_of m q.0 (slice_get m.contexts q.0) at)
shown_err keeps m q line c is r now at e h told = taken_err keeps m q line r now (shown_of m q.0 (slice_get m.contexts q.0) at) e h (subst (λ (o : Option Context). ReturnsReading e (shown_of m q.0 o at)) (sym is) told)

pub next_err : {X A : Type 0} (P : X → Type 0) (r : Result X ReportFault) (read : Reading A) (e : ReportFault) → IsErrAnd r (λ d. d ≡ e) → ReturnsReading e read → MatchResult r P (λ fault. ReturnsReading fault read)
next_err P (Ok x) read e h told = absurd h
next_err P (Err d) read e h told = subst (λ (f : ReportFault). ReturnsReading f read) (sym h) told

-- what is read where the context is known
pub kept_fault : (m : System) (i : ℕ) (c : Context) → slice_get m.contexts i ≡ Some c → (at : At) (e : ReportFault) → ReturnsReading e (shown_of m i (slice_get m.contexts i) at) → ReturnsReading e (shown_at m i c.kb at)
kept_fault m i c is at e told = subst (λ (o : Option Context). ReturnsReading e (shown_of m i o at)) is told

pub kept_reading : (m : System) (i : ℕ) (c : Context) → slice_get m.contexts i ≡ Some c → (at now : At) (s : Shown) → shown_of m i (slice_get m.contexts i) at ≡ Ok (s, now) → shown_at m i c.kb at ≡ Ok (s, now)
kept_reading m i c is at now s told = sym (ap (λ (o : Option Context). shown_of m i o at) is) ∙ told

-- ---- questions
pub shown_there : (m : System) (i : ℕ) → i < length m.contexts → (c : Context) × (slice_get m.contexts i ≡ Some c)
shown_there m i less = slice_get_below m.contexts i less

-- the rules that a question names go into its context
pub asked_within : (m : System) → IsValid m → IsSystemNamed m → (last : Option (ℕ × ℕ)) (at : At) (q : ℕ × ℕ) → line_at (next_question m last) at ≡ Some q → Within q.1 (rules_into m q.0)
asked_within m valid named last at q e = by (next_line at) e
  where
    by : (o : Option (List ℕ)) → option_and_then (next_question m last) o ≡ Some q → Within q.1 (rules_into m q.0)
    by None e = absurd (cc)
    by (Some line) e = ((question_line m valid named last).sound line q e).0.0.1

-- an answer takes a line or more
pub answer_shorter : (m : System) → IsValid m → IsSystemNamed m → (last : Option (ℕ × ℕ)) (at now : At) (a : Answer) → answer_at m last at ≡ Ok (a, now) → length now.rest < length at.rest
answer_shorter m valid named last at now a e =
    let r = (reads_answer m valid named last).sound at now a e in
    let long : length at.rest ≡ length (answer_lines m a) + length now.rest = ap length r.rest ∙ length-append (answer_lines m a) now.rest in
    omega (arith, long)
