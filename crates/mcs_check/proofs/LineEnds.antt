-- A whole listing ends with a line feed, so that it is its lines.
use Rattle.std.proofs.Common.{◌≡◌, ℕ, Bool, true, false, cond, nat_eq, List, [], ◌∷◌, ◌++◌, codes, refl, sym, ap, ◌∙◌, append_assoc}
use Rattle.std.proofs.lemmas.List.{append-nil}
use Rattle.std.specs.Fmt.{decimal}
use Rattle.mcs_system.specs.Plain.{System}
use Rattle.mcs_spelling.specs.Lines.{is_empty, line_onto, complete_lines, incomplete}
use Rattle.mcs_report.specs.Repairs.{end_line}
use Rattle.mcs_report.specs.Solutions.{IsWholeListing, listing_front, explanation_lines}
use Rattle.mcs_diagnosis.specs.Diagnoses.{pairs_of}
use Rattle.mcs_proof_text.specs.Lines.{text_of_lines}
use Rattle.mcs_proof_reader.proofs.TextLines.{lines_text}

abbrev pub EndsFed : List ℕ → Type 0
EndsFed text = (front : List ℕ) × (text ≡ front ++ codes "\n")

fed_after : (before text : List ℕ) → EndsFed text → EndsFed (before ++ text)
fed_after before text (front, e) = (before ++ front, ap (λ (t : List ℕ). before ++ t) e ∙ sym (append_assoc before front (codes "\n")))

some_onto : (b : ℕ) (ls : List (List ℕ)) → is_empty ls ≡ false → is_empty (line_onto b ls) ≡ false
some_onto b [] e = e
some_onto b (l ∷ ls) e = refl

all_complete : (front : List ℕ) → (incomplete (front ++ codes "\n") ≡ []) × (is_empty (complete_lines (front ++ codes "\n")) ≡ false)
all_complete [] = (refl, refl)
all_complete (b ∷ front) = at (nat_eq b 10) (all_complete front)
  where
    at : (v : Bool) → (incomplete (front ++ codes "\n") ≡ []) × (is_empty (complete_lines (front ++ codes "\n")) ≡ false)
        → (cond v (incomplete (front ++ codes "\n")) (cond (is_empty (complete_lines (front ++ codes "\n"))) (b ∷ (front ++ codes "\n")) (incomplete (front ++ codes "\n"))) ≡ [])
        × (is_empty (cond v ([] ∷ complete_lines (front ++ codes "\n")) (line_onto b (complete_lines (front ++ codes "\n")))) ≡ false)
    at true (none, some) = (none, refl)
    at false (none, some) = (
      ap (λ (u : Bool). cond u (b ∷ (front ++ codes "\n")) (incomplete (front ++ codes "\n"))) some ∙ none,
      some_onto b (complete_lines (front ++ codes "\n")) some,
    )

fed_lines : (text : List ℕ) → EndsFed text → text_of_lines (complete_lines text) ≡ text
fed_lines text (front, e) =
    sym (lines_text text ∙ ap (λ (t : List ℕ). text_of_lines (complete_lines text) ++ t) (ap incomplete e ∙ (all_complete front).0) ∙ append-nil (text_of_lines (complete_lines text)))

end_line_fed : (equilibria diagnoses explanations need : ℕ) → EndsFed (end_line equilibria diagnoses explanations need)
unfolding end_line
end_line_fed equilibria diagnoses explanations need =
    fed_after (codes "end: ") _ (fed_after (decimal equilibria) _ (fed_after (codes " equilibria, ") _ (fed_after (decimal diagnoses) _ (fed_after (codes " diagnoses, ") _
    (fed_after (decimal explanations) _ (fed_after (codes " explanations, need ") _ (fed_after (decimal need) (codes "\n") ([], refl))))))))

listing_fed : (m : System) (text : List ℕ) → IsWholeListing m text → EndsFed text
listing_fed m text w =
    let (front, e) = fed_after (listing_front m w.states w.diagnoses) _ (fed_after (explanation_lines m 1 (pairs_of w.diagnoses) w.explanations) _ (end_line_fed _ _ _ _)) in
    (front, w.text_is ∙ e)

pub listing_lines : (m : System) (text : List ℕ) → IsWholeListing m text → text_of_lines (complete_lines text) ≡ text
listing_lines m text w = fed_lines text (listing_fed m text w)

pub listing_whole : (m : System) (text : List ℕ) → IsWholeListing m text → incomplete text ≡ []
listing_whole m text w = let (front, e) = listing_fed m text w in ap incomplete e ∙ (all_complete front).0
