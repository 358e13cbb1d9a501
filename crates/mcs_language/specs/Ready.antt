-- When a reader may read a bridge rule by itself.
use Rattle.std.specs.Prelude.{◌≡◌, ◌≤◌, true, List, map, length}
use Rattle.mcs_syntax.specs.Prompt.{are_prompt}
use Rattle.mcs_system.specs.Plain.{Name}
use Rattle.mcs_productions.specs.Productions.{grammar}
use Rattle.mcs_account.specs.declared.reader.TextReader.{TextReader}
use Rattle.mcs_account.specs.Account.{greatest_number, bare_context}
use Rattle.mcs_account.specs.Images.{account_of}
use Rattle.mcs_account.specs.Taken.{context_names}

-- ready for a rule of a system whose contexts have these names
pub record IsReadyFor (names : List Name) (r : TextReader) : Type 0 where
  pub prompt : are_prompt grammar r.reader.0 (length r.reader.0) ≡ true
  pub names_are : context_names r.account ≡ names
  pub bare : (account_of r.account).contexts ≡ map bare_context names
  pub few : length names ≤ greatest_number
