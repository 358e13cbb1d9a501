-- The canonical text of a system, as what is written: parentheses around what has two parts, where a primary has to stand.
use Rattle.std.proofs.Common.{ℕ, Bool, true, false, nat_eq, cond, List, ◌++◌, map, Option, Some, None, slice_get}
use Rattle.std.specs.Fmt.{decimal}
use Rattle.std.specs.List.{list_any}
use Rattle.mcs_system.specs.Plain.{Kb, Context, Read, Bridge, System}
use Rattle.mcs_system.specs.Plain as plain
use Rattle.mcs_system.specs.Texts.{name_of_context}
use Rattle.mcs_writer.specs.Canonical.{head_place, is_marked}
use Rattle.mcs_grammar.specs.Written.{OfKind, WrittenKb, WrittenContext, WrittenPlace, WrittenRead, WrittenMarks, WrittenBridge, WrittenText}
pub use Rattle.mcs_writer.proofs.ItemsWritten.{primary_written, formula_written, with_justs, item_written, literal_written, body_written, has_sign, rule_written}
use Rattle.mcs_writer.proofs.KindItems.{written_in}

-- ---- contexts
abbrev pub kb_written : Kb → WrittenKb
kb_written (plain.OfKind k items) = OfKind k (map (written_in k) items)

abbrev pub context_written : Context → WrittenContext
context_written c = record { name = c.name; kb = kb_written c.kb }

-- ---- bridge rules
abbrev pub place_written : System → Read → WrittenPlace
place_written m r = record { context = name_of_context (slice_get m.contexts r.context); belief = primary_written r.belief }

abbrev pub read_written : System → Bool → Read → WrittenRead
read_written m denied r = record { denied = denied; place = place_written m r }

abbrev pub reads_written : System → List Read → List Read → List WrittenRead
reads_written m pos neg = map (read_written m false) pos ++ map (read_written m true) neg

abbrev pub weight_written : ℕ → Option (List ℕ)
weight_written weight = cond (nat_eq weight 1) None (Some (decimal weight))

abbrev pub marks_written : Bridge → WrittenMarks
marks_written b = record { keep = b.keep; closed = b.closed; weight = weight_written b.weight }

abbrev pub bridge_written : System → Bridge → WrittenBridge
bridge_written m b = record { name = b.name; marks = marks_written b; head = place_written m (head_place b); reads = reads_written m b.pos b.neg }

-- ---- the whole text
abbrev pub canonical_written : System → WrittenText
canonical_written m = record { has_version = list_any is_marked m.bridges; contexts = map context_written m.contexts; bridges = map (bridge_written m) m.bridges }
