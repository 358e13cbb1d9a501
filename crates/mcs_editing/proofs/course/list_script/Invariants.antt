use Rattle.std.proofs.Common.{◌≡◌, ◌*◌, ◌≤◌, map}
use Rattle.mcs_script.specs.Seen.{edit_of}
use Rattle.mcs_editing.specs.Listed.{listed_systems}
use Rattle.mcs_editing.specs.Course.{most_new}
use Rattle.mcs_editing.proofs.LoopLemmas.{WaitsAt}
use Rattle.mcs_editing.proofs.course.list_script.Given as goal

abbrev pub invariant-loop-place : goal.invariant-loop-place
invariant-loop-place g l = record {
  waits : WaitsAt l.budget (listed_systems l.fn.system (map edit_of l.edits)) l.edits l.start l.place l.session l.lists l.answers (g.K.Sink.device l.fn.sink).written (g.K.Sink.device l.sink).written;
  past : l.start ≤ l.place;
  notes : (g.K.Sink.device l.sink).notes ≡ (g.K.Sink.device l.fn.sink).notes;
  faults : (g.K.Sink.device l.sink).faults ≡ (g.K.Sink.device l.fn.sink).faults;
  few_lists : l.lists ≤ l.place;
  few_answers : l.answers ≤ l.lists * most_new;
}
