-- The lines that are printed, and that what is printed is of the system.
use Rattle.std.specs.Prelude.{ℕ, List, codes}
use Rattle.mcs_sets.specs.Sets.{Within}
use Rattle.mcs_system.specs.Plain.{System}
use Rattle.mcs_system.specs.Repairs.{all_marks}
use Rattle.mcs_system.specs.Systems.{all_variables}
use Rattle.mcs_transversal.specs.Transversals.{IsCritical}
use Rattle.mcs_report.specs.Listing.{heading, state_line, verdict_line, short_end_line, grounded_end_line}
use Rattle.mcs_report.specs.Cheapest.{cheapest_line, cheapest_end_line}
use Rattle.mcs_report.specs.Repairs.{diagnosis_line, explanation_line, end_line, IsOfSystem}
use Rattle.mcs_work.specs.declared.line.Line.{Line}
use Rattle.mcs_work.specs.declared.line.Line.TheVariants.{Heading, State, Verdict, ShortEnd, GroundedEnd, Diagnosis, Explanation, End, CheapestDiagnosis, CheapestEnd}
use Rattle.mcs_work.specs.declared.line.Sort.{Sort}
use Rattle.mcs_work.specs.declared.line.Sort.TheVariants as sorts

-- an explanation by these pairs: each of its marks, which are of the rules, is the only one in which it meets one of them
pub record IsCauseOf (m : System) (pairs : List ℕ) (t : ℕ) : Type 0 where
  pub marks : Within t (all_marks m)
  pub critical : IsCritical pairs t

-- the first word of the line of a state
abbrev pub sort_word : Sort → List ℕ
sort_word sorts.Equilibrium = codes "equilibrium "
sort_word sorts.Grounded = codes "grounded "

-- what a line tells is of the system
abbrev pub IsLineOf : System → Line → Type 0
IsLineOf m Heading = Unit {0}
IsLineOf m (State sort k σ) = Within σ (all_variables m)
IsLineOf m (Verdict consistent) = Unit {0}
IsLineOf m (ShortEnd equilibria need) = Unit {0}
IsLineOf m (GroundedEnd grounded equilibria need) = Unit {0}
IsLineOf m (Diagnosis k d) = IsOfSystem m d.now
IsLineOf m (Explanation k pairs t) = IsCauseOf m pairs.now t
IsLineOf m (End equilibria diagnoses explanations need) = Unit {0}
IsLineOf m (CheapestDiagnosis k price d) = IsOfSystem m d.now
IsLineOf m (CheapestEnd count price need) = Unit {0}

-- its text, with its line feed
abbrev pub line_text : System → Line → List ℕ
line_text m Heading = heading m
line_text m (State sort k σ) = state_line (sort_word sort) m k σ
line_text m (Verdict consistent) = verdict_line consistent
line_text m (ShortEnd equilibria need) = short_end_line equilibria need
line_text m (GroundedEnd grounded equilibria need) = grounded_end_line grounded equilibria need
line_text m (Diagnosis k d) = diagnosis_line m k d.now
line_text m (Explanation k pairs t) = explanation_line m k pairs.now t
line_text m (End equilibria diagnoses explanations need) = end_line equilibria diagnoses explanations need
line_text m (CheapestDiagnosis k price d) = cheapest_line m k price d.now
line_text m (CheapestEnd count price need) = cheapest_end_line count price need
