-- At which line an answer begins, and what the judged ones tell of them.
use Rattle.std.proofs.Common.{◌≡◌, ℕ, ◌+◌, zero, suc, List, [], ◌∷◌, length, take, slice_get, Some, IsTrue, refl, sym, ◌∙◌, subst, arith}
use Rattle.std.proofs.lemmas.List.{length-append}
use Rattle.std.proofs.lemmas.Option.{same_Some}
use Rattle.std.specs.List.{AllByRecursion, flat_map}
use Rattle.mcs_system.specs.Plain.{System}
use Rattle.mcs_proof_text.specs.Answers.{Answer, answer_lines}
use Rattle.mcs_proof_text.specs.Proofs.{HasAcceptedCertificate}
use Rattle.mcs_proof_reader.specs.Keeping.{IsKeptReport}
use Rattle.mcs_check.specs.Judging.{IsAnswerJudged, AreJudged, IsFirstWrong}
use Rattle.mcs_check.specs.Validity.{HasWrongAnswer}
use Rattle.mcs_check.specs.declared.judging.Judged as code

module _ (m : System) where
  -- the answer that one of them stands for, and where it begins
  judged_at : (n : ℕ) (answers : List Answer) (judged : List code.Judged) (k : ℕ) (j : code.Judged) → AreJudged m n answers judged → slice_get judged k ≡ Some j
      → (a : Answer) × (slice_get answers k ≡ Some a) × IsAnswerJudged m a (n + length (flat_map (answer_lines m) (take k answers))) j
  judged_at n [] [] k j are is = absurd (cc)
  judged_at n [] (x ∷ judged) k j are is = absurd are
  judged_at n (a ∷ answers) [] k j are is = absurd are
  judged_at n (a ∷ answers) (x ∷ judged) zero j are is =
      let e : n ≡ n + 0 = omega arith in
      (a, refl, subst (λ (i : ℕ). IsAnswerJudged m a i j) e (subst (IsAnswerJudged m a n) (same_Some x j is) are.0))
  judged_at n (a ∷ answers) (x ∷ judged) (suc k) j are is =
      let (b, there, h) = judged_at (n + length (answer_lines m a)) answers judged k j are.1 is in
      let long = length-append (answer_lines m a) (flat_map (answer_lines m) (take k answers)) in
      let e : n + length (answer_lines m a) + length (flat_map (answer_lines m) (take k answers)) ≡ n + length (flat_map (answer_lines m) (take (suc k) (a ∷ answers))) = omega (arith, long) in
      (b, there, subst (λ (i : ℕ). IsAnswerJudged m b i j) e h)

  right_before : (n : ℕ) (answers : List Answer) (judged : List code.Judged) (k : ℕ) → AreJudged m n answers judged → AllByRecursion (λ (j : code.Judged). IsTrue j.is_right) (take k judged) → AllByRecursion (HasAcceptedCertificate m) (take k answers)
  right_before n answers judged zero are right = tt
  right_before n [] judged (suc k) are right = tt
  right_before n (a ∷ answers) [] (suc k) are right = absurd are
  right_before n (a ∷ answers) (x ∷ judged) (suc k) are right = (are.0.right.0 right.0, right_before (n + length (answer_lines m a)) answers judged k are.1 right.1)

  pub all_right : (n : ℕ) (answers : List Answer) (judged : List code.Judged) → AreJudged m n answers judged → AllByRecursion (λ (j : code.Judged). IsTrue j.is_right) judged → AllByRecursion (HasAcceptedCertificate m) answers
  all_right n [] judged are right = tt
  all_right n (a ∷ answers) [] are right = absurd are
  all_right n (a ∷ answers) (x ∷ judged) are right = (are.0.right.0 right.0, all_right (n + length (answer_lines m a)) answers judged are.1 right.1)

  pub wrong_found : (bytes : List ℕ) (listing : List (List ℕ)) (judged : List code.Judged) (last line : ℕ) → IsKeptReport IsAnswerJudged m bytes listing judged last → IsFirstWrong judged line → HasWrongAnswer m bytes line
  wrong_found bytes listing judged last line report first =
      let (a, there, h) = judged_at (length listing + 2) report.answers judged first.number first.answer report.kept first.is_it in
      record {
        listing = listing;
        answers = report.answers;
        spelled = report.spelled;
        number = first.number;
        answer = a;
        is_it = there;
        wrong = λ right. first.wrong (h.right.1 right);
        before = right_before (length listing + 2) report.answers judged first.number report.kept first.before;
        line_is = counted line (length listing) (length (flat_map (answer_lines m) (take first.number report.answers))) (sym first.begins ∙ h.begins);
      }
    where
      counted : (line n j : ℕ) → line ≡ n + 2 + j → line ≡ n + 1 + j + 1
      counted line n j is = omega arith
