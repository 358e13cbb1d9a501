-- The lines of an edit session around its listings, each with its line feed.
use Rattle.std.specs.Prelude.{ℕ, List, ◌++◌, length, codes}
use Rattle.std.specs.Fmt.{decimal}
use Rattle.mcs_system.specs.Plain.{System}

-- list K: R rules
unfoldable pub list_line : System → ℕ → List ℕ
list_line m k = codes "list " ++ (decimal k ++ (codes ": " ++ (decimal (length m.bridges) ++ codes " rules\n")))

-- answers: A new, B kept
unfoldable pub answers_line : ℕ → ℕ → List ℕ
answers_line new kept = codes "answers: " ++ (decimal new ++ (codes " new, " ++ (decimal kept ++ codes " kept\n")))

-- end of session: L lists, J answers
unfoldable pub session_end_line : ℕ → ℕ → List ℕ
session_end_line lists answers = codes "end of session: " ++ (decimal lists ++ (codes " lists, " ++ (decimal answers ++ codes " answers\n")))
