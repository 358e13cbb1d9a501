-- The lines of a report of diagnoses and explanations, each with its line feed.
use Rattle.std.specs.Prelude.{◌≡◌, ℕ, ◌+◌, ◌<◌, ◌/◌, ◌%◌, ◌↔◌, length, cond, nat_eq, List, ◌++◌, map, codes, slice_get}
use Rattle.std.specs.Fmt.{decimal}
use Rattle.std.specs.List.{position_or_len}
use Rattle.mcs_sets.specs.Sets.{members, single, common, Within}
use Rattle.mcs_system.specs.Plain.{System}
use Rattle.mcs_system.specs.Repairs.{all_marks}
use Rattle.mcs_system.specs.Systems.{all_rules, all_variables}
use Rattle.mcs_diagnosis.specs.declared.diagnosis.Diagnosis as code
use Rattle.mcs_transversal.specs.Transversals.{IsFirstCritical}
use Rattle.mcs_text.specs.Separated.{braced}
use Rattle.mcs_report.specs.Members.{name_of_rule, state_text, rules_text}

-- mark 2r is -NAME, the rule of that name is removed; mark 2r + 1 is +NAME, it is forced
abbrev pub mark_text : System → ℕ → List ℕ
mark_text m k = cond (nat_eq (k % 2) 0) (codes "-") (codes "+") ++ name_of_rule (slice_get m.bridges (k / 2))

-- a set of marks
abbrev pub marks_text : System → ℕ → List ℕ
marks_text m marks = braced (map (mark_text m) (members marks))

-- the marks, the variables and the rules of a diagnosis are of the system
pub record IsOfSystem (m : System) (d : code.Diagnosis) : Type 0 where
  pub marks : Within d.pair (all_marks m)
  pub state : Within d.state (all_variables m)
  pub active : Within d.active (all_rules m)

-- the end of a line that shows a diagnosis: state STATE active RULES
abbrev pub shown_text : System → code.Diagnosis → List ℕ
shown_text m d = codes " state " ++ (state_text m d.state ++ (codes " active " ++ (rules_text m d.active ++ codes "\n")))

-- diagnosis K: MARKS state STATE active RULES
unfoldable pub diagnosis_line : System → ℕ → code.Diagnosis → List ℕ
diagnosis_line m k d = codes "diagnosis " ++ (decimal k ++ (codes ": " ++ (marks_text m d.pair ++ shown_text m d)))

-- the number, from 1, of the first edge that the set meets in this mark alone
abbrev pub first_alone : List ℕ → ℕ → ℕ → ℕ
first_alone edges t k = position_or_len (λ e. nat_eq (common e t) (single k)) edges + 1

-- MARK by J
abbrev pub reason_text : System → List ℕ → ℕ → ℕ → List ℕ
reason_text m edges t k = mark_text m k ++ (codes " by " ++ decimal (first_alone edges t k))

-- an explanation, each mark of it with the number of the first diagnosis that it meets in this mark alone
abbrev pub reasons_text : System → List ℕ → ℕ → List ℕ
reasons_text m edges t = braced (map (reason_text m edges t) (members t))

-- explanation K: {MARK by J}
unfoldable pub explanation_line : System → ℕ → List ℕ → ℕ → List ℕ
explanation_line m k edges t = codes "explanation " ++ (decimal k ++ (codes ": " ++ (reasons_text m edges t ++ codes "\n")))

-- end: E equilibria, D diagnoses, X explanations, need Q
unfoldable pub end_line : ℕ → ℕ → ℕ → ℕ → List ℕ
end_line equilibria diagnoses explanations need =
    codes "end: " ++ (decimal equilibria ++ (codes " equilibria, " ++ (decimal diagnoses ++ (codes " diagnoses, "
    ++ (decimal explanations ++ (codes " explanations, need " ++ (decimal need ++ codes "\n")))))))

-- ---- laws
-- the number is one more than the index of the first edge that the set meets in this mark alone
abbrev pub ReasonsAreNumbered : Type 0
ReasonsAreNumbered = (edges : List ℕ) (t k i : ℕ) → IsFirstCritical edges t k i ↔ ((i < length edges) × (first_alone edges t k ≡ i + 1))
