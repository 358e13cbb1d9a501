use Rattle.std.proofs.Common.{◌≡◌, ◌++◌, ◌<◌, length, codes, map, drop}
use Rattle.std.specs.List.{AllByRecursion}
use Rattle.mcs_system.specs.Plain as plain
use Rattle.mcs_system.specs.Seen.{read_of}
use Rattle.mcs_system.specs.Texts.{belief_text}
use Rattle.mcs_writer.specs.Canonical.{joined_by}
use Rattle.mcs_writer.proofs.writer.push_reads.Given as goal

abbrev pub invariant-loop-read : goal.invariant-loop-read
invariant-loop-read l = record {
  written : l.text ++ joined_by (codes ", ") l.is_first (map (λ r. l.word ++ belief_text l.system r) (map read_of (drop l.read-index l.reads))) ≡ l.fn.text ++ joined_by (codes ", ") l.fn.is_first (map (λ r. l.word ++ belief_text l.system r) (map read_of l.reads));
  known : AllByRecursion (λ (r : plain.Read). r.context < length l.system.contexts) (map read_of (drop l.read-index l.reads));
}
