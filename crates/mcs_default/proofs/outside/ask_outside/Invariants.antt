use Rattle.std.proofs.Common.{◌≡◌, ◌≤◌, List, length, map}
use Rattle.std.specs.List.{AllZip}
use Rattle.mcs_sets.specs.Sets.{members_from, minus}
use Rattle.mcs_system.specs.Plain.{Formula}
use Rattle.mcs_system.specs.Seen.{default_of}
use Rattle.mcs_evidence.specs.Defaults.{absence_of}
use Rattle.mcs_grounding.specs.Theories.{AreClausesOf}
use Rattle.mcs_evidence.specs.Theories.{all_of}
use Rattle.mcs_default.specs.Told.{IsAbsentAt}
use Rattle.mcs_default.proofs.outside.ask_outside.Given as goal

abbrev pub invariant-loop-index : goal.invariant-loop-index
invariant-loop-index l = record {
  kept : l.known ≡ l.fn.known;
  bound : l.index ≤ length l.theory.defaults.now;
  absent : (fs : List Formula) → AreClausesOf l.theory.asked.now.atoms.now fs l.fn.known
      → AllZip (IsAbsentAt l.theory.asked.now.atoms.now fs (map (λ d. default_of d.now) l.theory.defaults.now)) (members_from 0 l.index (minus (all_of (map (λ d. default_of d.now) l.theory.defaults.now)) l.set)) (map absence_of l.absent.items);
}
