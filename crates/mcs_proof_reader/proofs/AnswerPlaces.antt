-- What is kept of the answers of a report, one after the other.
use Rattle.std.proofs.Common.{◌≡◌, ℕ, ◌+◌, ◌-◌, ◌<◌, ◌≤◌, false, List, [], ◌∷◌, ◌++◌, map, length, codes, Option, Some, None, Ok, Err, refl, sym, ap, ◌∙◌, subst, arith, length-append}
use Rattle.std.proofs.lemmas.List.{length-map}
use Rattle.std.specs.List.{flat_map}
use Rattle.mcs_system.specs.Plain.{System}
use Rattle.mcs_system.specs.Naming.{IsSystemNamed}
use Rattle.mcs_system.specs.Faults.{IsValid}
use Rattle.mcs_proof_text.specs.Answers.{Answer, answer_lines}
use Rattle.mcs_proof_text.specs.Reports.{SpellsReport, report_lines}
use Rattle.mcs_proof_lines.specs.declared.fault.ReportFault.{ReportFault}
use Rattle.mcs_proof_lines.specs.declared.fault.ReportFault.TheVariants as faults
use Rattle.mcs_proof_lines.specs.Walks.{At, is_next, after_front}
use Rattle.mcs_proof_reader.specs.Answers.{answer_at, answers_at, question_in}
use Rattle.mcs_proof_reader.specs.Readers.{answer_in_report}
use Rattle.mcs_proof_reader.specs.Whole.{listing_of, first_lines_from, IsReportOf, IsReportRead}
use Rattle.mcs_proof_reader.specs.Keeping.{IsWholeAnswer, EachIsKept, IsKeptReport, IsReportFault}
use Rattle.mcs_proof_reader.specs.declared.answer.ReportAnswer as code
use Rattle.mcs_proof_reader.specs.declared.report.Report as reports
use Rattle.mcs_proof_reader.proofs.AnswerReadings.{reads_answer}
use Rattle.mcs_proof_reader.proofs.StepLemmas.{answers_begin, answers_go_on}

-- of the answers so far, which were read from the first place on, this is kept; where the reader is then, and those after the last one
pub record IsKeptSoFar {K : Type 0} (keeps : System → Answer → ℕ → K → Type 0) (m : System) (start : At) (held : List K) (last : Option (ℕ × ℕ)) (at : At) : Type 0 where
  pub answers : List Answer
  -- each has taken a line or more
  pub few : length at.rest + length answers ≤ length start.rest
  pub taken : at.taken ≡ start.taken + length (flat_map (answer_lines m) answers)
  pub read : (n : ℕ) → length start.rest ≤ n → after_front answers (answers_at m (n - length answers) last at) ≡ answers_at m n None start
  pub kept : EachIsKept keeps m (start.taken + 1) answers held

module _ {K : Type 0} (keeps : System → Answer → ℕ → K → Type 0) (m : System) where
  abbrev all_lines : List Answer → List (List ℕ)
  all_lines = flat_map (answer_lines m)

  kept_more : (n : ℕ) (answers : List Answer) (kept : List K) (a : Answer) (k : K) → EachIsKept keeps m n answers kept → keeps m a (n + length (all_lines answers)) k → EachIsKept keeps m n (answers ++ a ∷ []) (kept ++ k ∷ [])
  kept_more n [] [] a k are h = let e : n + 0 ≡ n = omega arith in (subst (λ (j : ℕ). keeps m a j k) e h, tt)
  kept_more n [] (x ∷ kept) a k are h = absurd are
  kept_more n (b ∷ answers) [] a k are h = absurd are
  kept_more n (b ∷ answers) (x ∷ kept) a k are h =
      let long = length-append (answer_lines m b) (all_lines answers) in
      let e : n + length (all_lines (b ∷ answers)) ≡ n + length (answer_lines m b) + length (all_lines answers) = omega (arith, long) in
      (are.0, kept_more (n + length (answer_lines m b)) answers kept a k are.1 (subst (λ (j : ℕ). keeps m a j k) e h))

  count_more : (xs : List Answer) (y : Answer) → length (all_lines (xs ++ y ∷ [])) ≡ length (all_lines xs) + length (answer_lines m y)
  count_more [] y = let e = length-append (answer_lines m y) [] in omega (arith, e)
  count_more (x ∷ xs) y =
      let whole = length-append (answer_lines m x) (all_lines (xs ++ y ∷ [])) in
      let less = length-append (answer_lines m x) (all_lines xs) in
      let more = count_more xs y in
      omega (arith, whole, less, more)

  -- none so far
  pub kept_first : (none : List K) (at : At) → none ≡ [] → IsKeptSoFar keeps m at none None at
  kept_first none at is = record {
    answers = [];
    few = omega arith;
    taken = omega arith;
    read = λ n enough. answers_begin m n at;
    kept = subst (λ (ks : List K). EachIsKept keeps m (at.taken + 1) [] ks) (sym is) tt;
  }

  -- one more
  pub kept_next : IsValid m → IsSystemNamed m → (start at now : At) (old new : List K) (k : K) (last : Option (ℕ × ℕ)) (a : Answer) (line : ℕ) → IsKeptSoFar keeps m start old last at → is_next (codes "end of proof") at ≡ false
      → answer_at m last at ≡ Ok (a, now) → length now.rest < length at.rest → new ≡ old ++ k ∷ [] → line ≡ at.taken + 1 → keeps m a line k → IsKeptSoFar keeps m start new (Some (question_in a)) now
  kept_next valid named start at now old new k last a line h test e shorter items begins keeps_it =
      let r = ((reads_answer m valid named last).sound at now a e).taken in
      let long = length-append h.answers (a ∷ []) in
      let count = count_more h.answers a in
      let few = h.few in
      let taken = h.taken in
      let number : line ≡ start.taken + 1 + length (all_lines h.answers) = omega (arith, begins, taken) in
      record {
        answers = h.answers ++ a ∷ [];
        few = omega (arith, few, shorter, long);
        taken = omega (arith, r, taken, count);
        read = λ n enough. answers_go_on m h.answers (h.answers ++ a ∷ []) a n last at now (answers_at m n None start) test refl (omega (arith, few, shorter, enough)) e (h.read n enough);
        kept = subst (λ (ks : List K). EachIsKept keeps m (start.taken + 1) (h.answers ++ a ∷ []) ks) (sym items)
            (kept_more (start.taken + 1) h.answers old a k h.kept (subst (λ (j : ℕ). keeps m a j k) number keeps_it));
      }

-- answers that are kept as they are
pub all_whole : (m : System) (n : ℕ) (answers : List Answer) (kept : List code.ReportAnswer) → EachIsKept (λ m. IsWholeAnswer) m n answers kept → (map answer_in_report kept ≡ answers) × (map (λ (a : code.ReportAnswer). a.line) kept ≡ first_lines_from m n answers)
all_whole m n [] [] are = (refl, refl)
all_whole m n [] (k ∷ kept) are = absurd are
all_whole m n (a ∷ answers) [] are = absurd are
all_whole m n (a ∷ answers) (k ∷ kept) are =
    let rest = all_whole m (n + length (answer_lines m a)) answers kept are.1 in
    (ap (λ (x : Answer). x ∷ map answer_in_report kept) are.0.answer ∙ ap (λ (xs : List Answer). a ∷ xs) rest.0, ap (λ (j : ℕ). j ∷ map (λ (x : code.ReportAnswer). x.line) kept) are.0.begins ∙ ap (λ (js : List ℕ). n ∷ js) rest.1)

-- so they are those of a report that is read whole
pub whole_report : (m : System) (bytes : List ℕ) (r : reports.Report) → IsKeptReport (λ m. IsWholeAnswer) m bytes (listing_of r) r.answers.items r.last_line → IsReportOf m bytes r
whole_report m bytes r h =
    let (same, lines) = all_whole m (length (listing_of r) + 2) h.answers r.answers.items h.kept in
    record {
      spelled = subst (SpellsReport m bytes (listing_of r)) (sym same) h.spelled;
      begins = lines ∙ (ap (λ (k : ℕ). first_lines_from m (k + 2) h.answers) (length-map r.listing.items (λ l. l.items)) ∙ ap (first_lines_from m (length r.listing.items + 2)) (sym same));
      ends = h.ends ∙ ap (λ (as' : List Answer). length (report_lines m (listing_of r) as')) (sym same);
    }

pub whole_fault : (m : System) (bytes : List ℕ) (fault : ReportFault) → IsReportFault m bytes fault → IsReportRead m bytes (Err fault)
whole_fault m bytes faults.Memory h = tt
whole_fault m bytes (faults.Grammar line) h = h
