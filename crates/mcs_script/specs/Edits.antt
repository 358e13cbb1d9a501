-- Edits of a system, and what is written of them.
--
--   script = { edit }
--   edit   = "add" bridge | "drop" name "." | "list" "."
--
-- A bridge rule may have marks and a weight. The words `add`, `drop` and `list` are not reserved.
use Rattle.std.specs.Prelude.{◌≡◌, List, [], ◌∷◌, map, codes}
use Rattle.mcs_base.specs.Listings.{IsAmong}
use Rattle.mcs_system.specs.Plain as plain
use Rattle.mcs_system.specs.Plain.{Name, System}
use Rattle.mcs_system.specs.Edits.{with_rule, without_rule}
use Rattle.mcs_system.specs.Faults.{IsValid}
use Rattle.mcs_grammar.specs.Written.{IsNameWord, WrittenBridge, IsWrittenBridge}
use Rattle.mcs_grammar.specs.Entries.{Entry, entry, bridge_entries}
use Rattle.mcs_grammar.specs.Saying.{SaysBridge}

-- ---- as plain data
pub data Edit : Type 0 where
  -- a rule more
  Added : (rule : plain.Bridge) → Edit
  -- the rule of this name goes
  Dropped : (rule : Name) → Edit
  -- a listing is asked for
  Listed : Edit

abbrev pub context_names : System → List Name
context_names m = map (λ (c : plain.Context). c.name) m.contexts

abbrev pub rule_names : System → List Name
rule_names m = map (λ (b : plain.Bridge). b.name) m.bridges

-- a new rule comes last, those after a dropped one move up, and the contexts stay
abbrev pub edited : System → Edit → System
edited m (Added b) = with_rule m b
edited m (Dropped n) = without_rule m n
edited m Listed = m

-- the system after all of them; that after the first e is `system_after m (take e edits)`
abbrev pub system_after : System → List Edit → System
system_after m [] = m
system_after m (e ∷ es) = system_after (edited m e) es

-- a rule that is dropped is there
abbrev pub IsThere : System → Edit → Type 0
IsThere m (Dropped n) = IsAmong n (rule_names m)
IsThere m e = Unit {0}

-- each edit makes a system of the one before it, and a rule that is dropped is there
abbrev pub AreAllowed : System → List Edit → Type 0
AreAllowed m [] = Unit {0}
AreAllowed m (e ∷ es) = IsThere m e × IsValid (edited m e) × AreAllowed (edited m e) es

-- ---- as they are written
pub data WrittenEdit : Type 0 where
  Adds : (rule : WrittenBridge) → WrittenEdit
  Drops : (rule : Name) → WrittenEdit
  Lists : WrittenEdit

abbrev pub IsWrittenEdit : WrittenEdit → Type 0
IsWrittenEdit (Adds b) = IsWrittenBridge b
IsWrittenEdit (Drops n) = IsNameWord n
IsWrittenEdit Lists = Unit {0}

abbrev pub edit_entries : WrittenEdit → List Entry
edit_entries (Adds b) = entry (codes "add") [] ∷ bridge_entries b
edit_entries (Drops n) = entry (codes "drop") [] ∷ entry n [] ∷ entry (codes ".") [] ∷ []
edit_entries Lists = entry (codes "list") [] ∷ entry (codes ".") [] ∷ []

-- what is said of a system whose contexts have these names
abbrev pub SaysEdit : List Name → WrittenEdit → Edit → Type 0
SaysEdit names (Adds w) (Added b) = SaysBridge names w b
SaysEdit names (Drops n) (Dropped k) = k ≡ n
SaysEdit names Lists Listed = Unit {0}
SaysEdit names w e = ⊥
