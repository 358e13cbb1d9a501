-- What the code of a reader holds, as plain data.
use Rattle.std.specs.Prelude.{◌≡◌, ◌≤◌, length}
use Rattle.mcs_system.specs.Plain.{System}
use Rattle.mcs_system.specs.Naming.{IsSystemNamed}
use Rattle.mcs_system.specs.Faults.{IsValid}
use Rattle.mcs_asking.specs.Certificates.{plain_of}
use Rattle.mcs_proof_text.specs.Answers.{Answer}
use Rattle.mcs_proof_reader.specs.Questions.{rule_names, variable_texts, ten}
use Rattle.mcs_proof_reader.specs.Answers.{Shown}
use Rattle.mcs_proof_reader.specs.declared.answer.ReportAnswer as code
use Rattle.mcs_proof_reader.specs.declared.answer.Shown as code_shown
use Rattle.mcs_proof_reader.specs.declared.texts.Texts as code_texts

-- the texts of the system, which keeps what all systems keep
pub record AreTexts (m : System) (t : code_texts.Texts) : Type 0 where
  pub variables : t.variables.items ≡ variable_texts m
  pub rules : t.rules.items ≡ rule_names m
  pub numbers : t.numbers.items ≡ ten
  pub few_variables : length t.variables.items ≤ 64
  pub few_rules : length t.rules.items ≤ 64
  pub valid : IsValid m
  pub named : IsSystemNamed m

abbrev pub shown_of_code : code_shown.Shown → Shown
shown_of_code s = (s.outputs.items, plain_of s.cert)

abbrev pub answer_in_report : code.ReportAnswer → Answer
answer_in_report a = record { context = a.context; active = a.active; outputs = a.outputs.items; cert = plain_of a.cert }
