use Rattle.std.proofs.Common.{◌<◌, map, drop}
use Rattle.std.specs.List.{AllByRecursion}
use Rattle.mcs_system.specs.Seen.{bridge_of}
use Rattle.mcs_session.specs.Tables.{texts_in, KeepsApart}
use Rattle.mcs_session.proofs.HeadLemmas.{AreHeadsSoFar}
use Rattle.mcs_session.proofs.words.heads_of.Given as goal

abbrev pub invariant-loop-rule : goal.invariant-loop-rule
invariant-loop-rule l = record {
  rules : AllByRecursion (λ h. h.rule < 64) l.heads.items;
  numbered : AreHeadsSoFar (texts_in l.table.keys) l.system.bridges l.context l.heads.items l.rule (map bridge_of (drop l.rule l.bridge-items));
  grown : KeepsApart (texts_in l.initial.table.keys) (texts_in l.table.keys);
}
