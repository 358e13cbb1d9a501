-- What holds of the items of each kind of context, and of the word that says the kind, in canonical texts: a line a kind. All
-- else is proved of all kinds at once.
use Rattle.std.proofs.Common.{◌≡◌, ℕ, ◌≤◌, false, IsTrue, List, length, refl, arith}
use Rattle.std.specs.List.{AllByRecursion}
use Rattle.mcs_base.specs.Words.{is_word, most_name_bytes}
use Rattle.mcs_base.proofs.Each.{all_from_among, all_from_no_any}
use Rattle.mcs_base.proofs.WordLemmas.{EndsWord}
use Rattle.mcs_system.specs.Plain.{Name, Kind, ClassicalKind, DefaultKind, ProgramKind, ItemOf}
use Rattle.mcs_system.specs.Plain as plain
use Rattle.mcs_system.specs.Kinds.{IsNamedIn}
use Rattle.mcs_system.specs.Faults.{is_unjustified, has_unjustified}
use Rattle.mcs_grammar.specs.Written.{WrittenOf, IsWrittenIn}
use Rattle.mcs_grammar.specs.Entries.{entries_in, kind_word}
use Rattle.mcs_grammar.specs.Saying.{said_in}
use Rattle.mcs_grammar.proofs.Spelled.{IsSpelled}
use Rattle.mcs_writer.specs.Canonical.{text_in}
use Rattle.mcs_writer.proofs.ItemsWritten.{formula_written, item_written, rule_written, formula-right, item-right, rule-right, formula-said, item-said, rule-said}
use Rattle.mcs_writer.proofs.SpelledItems.{alone, item-spelled, rule-spelled}

pub word-spelled : (k : Kind) → IsTrue (is_word (kind_word k)) × (length (kind_word k) ≤ most_name_bytes)
word-spelled ClassicalKind = (refl, omega arith)
word-spelled DefaultKind = (refl, omega arith)
word-spelled ProgramKind = (refl, omega arith)

abbrev pub written_in : (k : Kind) → ItemOf k → WrittenOf k
written_in ClassicalKind = formula_written
written_in DefaultKind = item_written
written_in ProgramKind = rule_written

pub right-in : (k : Kind) (i : ItemOf k) → IsNamedIn k i → IsWrittenIn k (written_in k i)
right-in ClassicalKind f h = formula-right f h
right-in DefaultKind i h = item-right i h
right-in ProgramKind r h = rule-right r h

-- a default has a justification
abbrev pub IsFitIn : (k : Kind) → ItemOf k → Type 0
IsFitIn DefaultKind i = is_unjustified i ≡ false
IsFitIn k i = Unit {0}

pub fit-items : (k : Kind) (items : List (ItemOf k)) → has_unjustified (plain.OfKind k items) ≡ false → AllByRecursion (IsFitIn k) items
fit-items DefaultKind items h = all_from_no_any (λ i. is_unjustified i ≡ false) is_unjustified (λ i e. e) items h
fit-items k items h = all_from_among (IsFitIn k) items (λ i here. tt)

pub said-back : (k : Kind) (i : ItemOf k) → IsFitIn k i → said_in k (written_in k i) ≡ i
said-back ClassicalKind f h = formula-said f
said-back DefaultKind i h = item-said i h
said-back ProgramKind r h = rule-said r

pub spelled-in : (k : Kind) (c : Name) (i : ItemOf k) (next : List ℕ) → IsNamedIn k i → IsFitIn k i → EndsWord next → IsSpelled (text_in k i) (entries_in k c (written_in k i)) next
spelled-in ClassicalKind c f next h fit ends = alone c f next h ends
spelled-in DefaultKind c i next h fit ends = item-spelled c i next h fit ends
spelled-in ProgramKind c r next h fit ends = rule-spelled c r next h ends
