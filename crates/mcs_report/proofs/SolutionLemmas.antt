-- The lines of diagnoses and of explanations: of two lists, one after the other, and one line more.
use Rattle.std.proofs.Common.{◌≡◌, ℕ, suc, ◌+◌, ◌<◌, List, [], ◌∷◌, ◌++◌, length, get_or, drop, sym, ap, ◌∙◌, append_assoc, arith}
use Rattle.std.proofs.lemmas.List.{drop_more}
use Rattle.mcs_system.specs.Plain.{System}
use Rattle.mcs_diagnosis.specs.declared.diagnosis.Diagnosis as code
use Rattle.mcs_report.specs.Repairs.{diagnosis_line, explanation_line}
use Rattle.mcs_report.specs.Solutions.{diagnosis_lines, explanation_lines}

pub diagnosis_lines-append : (m : System) (k : ℕ) (ds es : List code.Diagnosis) → diagnosis_lines m k (ds ++ es) ≡ diagnosis_lines m k ds ++ diagnosis_lines m (k + length ds) es
diagnosis_lines-append m k [] es = ap (λ (n : ℕ). diagnosis_lines m n es) (let e : k ≡ k + 0 = omega arith in e)
diagnosis_lines-append m k (d ∷ ds) es =
    let e : k + 1 + length ds ≡ k + suc (length ds) = omega arith in
    ap (λ rest. diagnosis_line m k d ++ rest) (diagnosis_lines-append m (k + 1) ds es ∙ ap (λ (n : ℕ). diagnosis_lines m (k + 1) ds ++ diagnosis_lines m n es) e)
    ∙ sym (append_assoc (diagnosis_line m k d) (diagnosis_lines m (k + 1) ds) _)

pub diagnosis_lines-more : (m : System) (n : ℕ) (ds : List code.Diagnosis) (i : ℕ) (d : code.Diagnosis) → i < length ds → d ≡ get_or ds i d → diagnosis_lines m n (drop i ds) ≡ diagnosis_line m n d ++ diagnosis_lines m (n + 1) (drop (i + 1) ds)
diagnosis_lines-more m n ds i d less is = ap (diagnosis_lines m n) (drop_more ds i d less) ∙ ap (λ e. diagnosis_line m n e ++ diagnosis_lines m (n + 1) (drop (i + 1) ds)) (sym is)

pub explanation_lines-more : (m : System) (n : ℕ) (pairs ts : List ℕ) (i t : ℕ) → i < length ts → t ≡ get_or ts i t → explanation_lines m n pairs (drop i ts) ≡ explanation_line m n pairs t ++ explanation_lines m (n + 1) pairs (drop (i + 1) ts)
explanation_lines-more m n pairs ts i t less is = ap (explanation_lines m n pairs) (drop_more ts i t less) ∙ ap (λ e. explanation_line m n pairs e ++ explanation_lines m (n + 1) pairs (drop (i + 1) ts)) (sym is)
