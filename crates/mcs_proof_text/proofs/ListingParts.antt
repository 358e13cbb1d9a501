-- The whole listing of a system whose names are names is the text of a listing part.
use Rattle.std.proofs.Common.{◌≡◌, ℕ, ◌+◌, nat_lt, List, [], ◌∷◌, ◌++◌, length, inl, inr, refl, sym, ap, ◌∙◌, subst, append_assoc}
use Rattle.std.proofs.lemmas.List.{append-nil}
use Rattle.mcs_system.specs.Plain.{System}
use Rattle.mcs_system.specs.Naming.{IsSystemNamed}
use Rattle.mcs_diagnosis.specs.declared.diagnosis.Diagnosis as code
use Rattle.mcs_diagnosis.specs.Diagnoses.{pairs_of}
use Rattle.mcs_report.specs.Listing.{heading, equilibrium_line, equilibrium_lines, verdict_line}
use Rattle.mcs_report.specs.Repairs.{diagnosis_line, explanation_line, end_line}
use Rattle.mcs_report.specs.Solutions.{diagnosis_lines, explanation_lines}
use Rattle.mcs_proof_text.specs.Lines.{with_feed, text_of_lines}
use Rattle.mcs_proof_text.specs.Reports.{IsListingPart, WholeListingsAreListingParts}
use Rattle.mcs_proof_text.proofs.ListingLines.{IsInnerLine, IsLastLine, verdict_inner, end_last, heading_inner, equilibrium_inner, diagnosis_inner, explanation_inner}

-- the text of the end of a listing
abbrev IsPart : List ℕ → Type 0
IsPart text = (lines : List (List ℕ)) × IsListingPart lines × (text ≡ text_of_lines lines)

last_part : (text : List ℕ) → IsLastLine text → IsPart text
last_part text h = (h.line ∷ [], (h.free, inl (h.last, refl)), h.is ∙ sym (append-nil (with_feed h.line)))

-- a line in front of it
more_part : (text rest : List ℕ) → IsInnerLine text → IsPart rest → IsPart (text ++ rest)
more_part text rest h (lines, part, is) = (h.line ∷ lines, (h.free, inr (h.inner, part)), ap (λ (v : List ℕ). v ++ rest) h.is ∙ ap (λ (v : List ℕ). with_feed h.line ++ v) is)

more_parts : (text texts rest : List ℕ) → IsInnerLine text → IsPart (texts ++ rest) → IsPart ((text ++ texts) ++ rest)
more_parts text texts rest h part = subst IsPart (sym (append_assoc text texts rest)) (more_part text (texts ++ rest) h part)

module _ (m : System) (named : IsSystemNamed m) (rest : List ℕ) (part : IsPart rest) where
  after_equilibria : (k : ℕ) (states : List ℕ) → IsPart (equilibrium_lines m k states ++ rest)
  after_equilibria k [] = part
  after_equilibria k (σ ∷ states) = more_parts (equilibrium_line m k σ) (equilibrium_lines m (k + 1) states) rest (equilibrium_inner m named k σ) (after_equilibria (k + 1) states)

  after_diagnoses : (k : ℕ) (ds : List code.Diagnosis) → IsPart (diagnosis_lines m k ds ++ rest)
  after_diagnoses k [] = part
  after_diagnoses k (d ∷ ds) = more_parts (diagnosis_line m k d) (diagnosis_lines m (k + 1) ds) rest (diagnosis_inner m named k d) (after_diagnoses (k + 1) ds)

  after_explanations : (k : ℕ) (pairs ts : List ℕ) → IsPart (explanation_lines m k pairs ts ++ rest)
  after_explanations k pairs [] = part
  after_explanations k pairs (t ∷ ts) = more_parts (explanation_line m k pairs t) (explanation_lines m (k + 1) pairs ts) rest (explanation_inner m named k pairs t) (after_explanations (k + 1) pairs ts)

regrouped : (heading equilibria verdict diagnoses explanations end : List ℕ)
    → (heading ++ ((equilibria ++ verdict) ++ diagnoses)) ++ (explanations ++ end) ≡ heading ++ (equilibria ++ (verdict ++ (diagnoses ++ (explanations ++ end))))
regrouped heading equilibria verdict diagnoses explanations end = simp append_assoc

pub listing_parts : WholeListingsAreListingParts
listing_parts m text named w =
    let ds = w.diagnoses in
    let ts = w.explanations in
    let end = end_line (length w.states) (length ds) (length ts) w.need in
    let by_end : IsPart end = last_part end (end_last (length w.states) (length ds) (length ts) w.need) in
    let explanations = explanation_lines m 1 (pairs_of ds) ts in
    let by_explanations : IsPart (explanations ++ end) = after_explanations m named end by_end 1 (pairs_of ds) ts in
    let diagnoses = diagnosis_lines m 1 ds in
    let by_diagnoses : IsPart (diagnoses ++ (explanations ++ end)) = after_diagnoses m named (explanations ++ end) by_explanations 1 ds in
    let verdict = verdict_line (nat_lt 0 (length w.states)) in
    let by_verdict : IsPart (verdict ++ (diagnoses ++ (explanations ++ end))) = more_part verdict (diagnoses ++ (explanations ++ end)) (verdict_inner (nat_lt 0 (length w.states))) by_diagnoses in
    let equilibria = equilibrium_lines m 1 w.states in
    let by_equilibria : IsPart (equilibria ++ (verdict ++ (diagnoses ++ (explanations ++ end)))) = after_equilibria m named (verdict ++ (diagnoses ++ (explanations ++ end))) by_verdict 1 w.states in
    subst IsPart (sym (w.text_is ∙ regrouped (heading m) equilibria verdict diagnoses explanations end)) (more_part (heading m) (equilibria ++ (verdict ++ (diagnoses ++ (explanations ++ end)))) (heading_inner m) by_equilibria)
