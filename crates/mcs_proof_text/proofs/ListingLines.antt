-- The lines of a whole listing: each is a line with its line feed, and only the last one ends it.
use Rattle.std.proofs.Common.{◌≡◌, ℕ, ◌/◌, ◌%◌, Bool, true, false, cond, nat_eq, List, [], ◌∷◌, ◌++◌, length, codes, slice_get, get_or, refl, sym, ap, ◌∙◌, arith, append_assoc}
use Rattle.std.specs.Fmt.{decimal}
use Rattle.std.specs.List.{AllByRecursion}
use Rattle.mcs_sets.specs.Sets.{members}
use Rattle.mcs_system.specs.Plain.{System}
use Rattle.mcs_system.specs.Naming.{IsSystemNamed}
use Rattle.mcs_system.specs.Systems.{variables, applicable}
use Rattle.mcs_diagnosis.specs.declared.diagnosis.Diagnosis as code
use Rattle.mcs_report.specs.Listing.{heading, state_line, equilibrium_line, verdict_line}
use Rattle.mcs_report.specs.Members.{name_of_rule, state_text, rules_text}
use Rattle.mcs_report.specs.Repairs.{mark_text, marks_text, diagnosis_line, first_alone, reason_text, reasons_text, explanation_line, end_line}
use Rattle.mcs_proof_text.specs.Lines.{with_feed}
use Rattle.mcs_proof_text.specs.Reports.{IsLineFeedFree, IsEndLine}
use Rattle.mcs_proof_text.proofs.FreeTexts.{append_free, told_free, decimal_free, all_braced, rule_free, rules_free, state_free}

-- ---- lines of which the parts have no line feed
-- the parts, one after the other, before what ends them
abbrev glued : List (List ℕ) → List ℕ → List ℕ
glued [] end = end
glued (part ∷ parts) end = part ++ glued parts end

glued_feed : (parts : List (List ℕ)) → glued parts (codes "\n") ≡ with_feed (glued parts [])
glued_feed [] = refl
glued_feed (part ∷ parts) = ap (λ (v : List ℕ). part ++ v) (glued_feed parts) ∙ sym (append_assoc part (glued parts []) (codes "\n"))

glued_free : (parts : List (List ℕ)) → AllByRecursion IsLineFeedFree parts → IsLineFeedFree (glued parts [])
glued_free [] all = tt
glued_free (part ∷ parts) all = append_free part (glued parts []) all.0 (glued_free parts all.1)

-- a line with its line feed that does not end a listing
pub record IsInnerLine (text : List ℕ) : Type 0 where
  pub line : List ℕ
  pub is : text ≡ with_feed line
  pub free : IsLineFeedFree line
  pub inner : ¬ IsEndLine line

-- and one that does
pub record IsLastLine (text : List ℕ) : Type 0 where
  pub line : List ℕ
  pub is : text ≡ with_feed line
  pub free : IsLineFeedFree line
  pub last : IsEndLine line

-- what ends a listing begins with `en`
inner_line : (parts : List (List ℕ)) → AllByRecursion IsLineFeedFree parts → ¬ ((get_or (glued parts []) 0 0 ≡ 101) × (get_or (glued parts []) 1 0 ≡ 110)) → IsInnerLine (glued parts (codes "\n"))
inner_line parts all apart = record {
  line = glued parts [];
  is = glued_feed parts;
  free = glued_free parts all;
  inner = λ end. apart (ap (λ (l : List ℕ). get_or l 0 0) end.1, ap (λ (l : List ℕ). get_or l 1 0) end.1);
}

-- ---- the lines
pub verdict_inner : (consistent : Bool) → IsInnerLine (verdict_line consistent)
verdict_inner true = inner_line (codes "consistent" ∷ []) (told_free (codes "consistent") refl, tt) (λ e. omega (arith, e.0))
verdict_inner false = inner_line (codes "inconsistent" ∷ []) (told_free (codes "inconsistent") refl, tt) (λ e. omega (arith, e.0))

pub end_last : (equilibria diagnoses explanations need : ℕ) → IsLastLine (end_line equilibria diagnoses explanations need)
unfolding end_line
end_last equilibria diagnoses explanations need =
    let tail = decimal equilibria ∷ codes " equilibria, " ∷ decimal diagnoses ∷ codes " diagnoses, " ∷ decimal explanations ∷ codes " explanations, need " ∷ decimal need ∷ [] in
    let parts : List (List ℕ) = codes "end: " ∷ tail in
    record {
      line = glued parts [];
      is = glued_feed parts;
      free = glued_free parts (
        told_free (codes "end: ") refl,
        (decimal_free equilibria, (told_free (codes " equilibria, ") refl, (decimal_free diagnoses, (told_free (codes " diagnoses, ") refl, (decimal_free explanations, (told_free (codes " explanations, need ") refl, (decimal_free need, tt))))))),
      );
      last = (glued tail [], refl);
    }

pub heading_inner : (m : System) → IsInnerLine (heading m)
unfolding heading
heading_inner m =
    inner_line (codes "mcs 1: " ∷ decimal (length m.contexts) ∷ codes " contexts, " ∷ decimal (length m.bridges) ∷ codes " rules, " ∷ decimal (length (variables m)) ∷ codes " variables" ∷ [])
    (told_free (codes "mcs 1: ") refl, (decimal_free (length m.contexts), (told_free (codes " contexts, ") refl, (decimal_free (length m.bridges), (told_free (codes " rules, ") refl, (decimal_free (length (variables m)), (told_free (codes " variables") refl, tt)))))))
    (λ e. omega (arith, e.0))

module _ (m : System) (named : IsSystemNamed m) where
  pub equilibrium_inner : (k σ : ℕ) → IsInnerLine (equilibrium_line m k σ)
  unfolding state_line
  equilibrium_inner k σ =
      inner_line (codes "equilibrium " ∷ decimal k ∷ codes ": " ∷ state_text m σ ∷ codes " applicable " ∷ rules_text m (applicable m σ) ∷ [])
      (told_free (codes "equilibrium ") refl, (decimal_free k, (told_free (codes ": ") refl, (state_free m named σ, (told_free (codes " applicable ") refl, (rules_free m named (applicable m σ), tt))))))
      (λ e. omega (arith, e.1))

  mark_free : (k : ℕ) → IsLineFeedFree (mark_text m k)
  mark_free k = append_free (cond (nat_eq (k % 2) 0) (codes "-") (codes "+")) (name_of_rule (slice_get m.bridges (k / 2))) (by (nat_eq (k % 2) 0)) (rule_free m named (k / 2))
    where
      by : (removed : Bool) → IsLineFeedFree (cond removed (codes "-") (codes "+"))
      by true = told_free (codes "-") refl
      by false = told_free (codes "+") refl

  marks_free : (marks : ℕ) → IsLineFeedFree (marks_text m marks)
  marks_free marks = all_braced (mark_text m) mark_free (members marks)

  pub diagnosis_inner : (k : ℕ) (d : code.Diagnosis) → IsInnerLine (diagnosis_line m k d)
  unfolding diagnosis_line
  diagnosis_inner k d =
      inner_line (codes "diagnosis " ∷ decimal k ∷ codes ": " ∷ marks_text m d.pair ∷ codes " state " ∷ state_text m d.state ∷ codes " active " ∷ rules_text m d.active ∷ [])
      (told_free (codes "diagnosis ") refl, (decimal_free k, (told_free (codes ": ") refl, (marks_free d.pair, (told_free (codes " state ") refl, (state_free m named d.state, (told_free (codes " active ") refl, (rules_free m named d.active, tt))))))))
      (λ e. omega (arith, e.0))

  reason_free : (edges : List ℕ) (t k : ℕ) → IsLineFeedFree (reason_text m edges t k)
  reason_free edges t k = append_free (mark_text m k) (codes " by " ++ decimal (first_alone edges t k)) (mark_free k) (append_free (codes " by ") (decimal (first_alone edges t k)) (told_free (codes " by ") refl) (decimal_free (first_alone edges t k)))

  pub explanation_inner : (k : ℕ) (edges : List ℕ) (t : ℕ) → IsInnerLine (explanation_line m k edges t)
  unfolding explanation_line
  explanation_inner k edges t =
      inner_line (codes "explanation " ∷ decimal k ∷ codes ": " ∷ reasons_text m edges t ∷ [])
      (told_free (codes "explanation ") refl, (decimal_free k, (told_free (codes ": ") refl, (all_braced (reason_text m edges t) (reason_free edges t) (members t), tt))))
      (λ e. omega (arith, e.1))
