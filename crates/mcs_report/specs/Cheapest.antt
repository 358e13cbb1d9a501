-- The lines of a listing of cheapest diagnoses, each with its line feed.
use Rattle.std.specs.Prelude.{ℕ, List, [], ◌++◌, Option, Some, None, codes}
use Rattle.std.specs.Fmt.{decimal}
use Rattle.mcs_system.specs.Plain.{System}
use Rattle.mcs_diagnosis.specs.declared.diagnosis.Diagnosis as code
use Rattle.mcs_report.specs.Repairs.{marks_text, shown_text}

-- cheapest K: MARKS cost C state STATE active RULES
unfoldable pub cheapest_line : System → ℕ → ℕ → code.Diagnosis → List ℕ
cheapest_line m k price d = codes "cheapest " ++ (decimal k ++ (codes ": " ++ (marks_text m d.pair ++ (codes " cost " ++ (decimal price ++ shown_text m d)))))

-- a comma and the cost, where there is one
abbrev pub told_cost : Option ℕ → List ℕ
told_cost None = []
told_cost (Some price) = codes ", cost " ++ decimal price

-- end: G cheapest, cost C, need Q
unfoldable pub cheapest_end_line : ℕ → Option ℕ → ℕ → List ℕ
cheapest_end_line count price need = codes "end: " ++ (decimal count ++ (codes " cheapest" ++ (told_cost price ++ (codes ", need " ++ (decimal need ++ codes "\n")))))
