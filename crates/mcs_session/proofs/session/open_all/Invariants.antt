use Rattle.std.proofs.Common.{◌≡◌, ◌<◌, ℕ, length, Some, slice_get}
use Rattle.std.specs.Arc.{arc_value}
use Rattle.std.specs.Global.{Vec}
use Rattle.mcs_session.specs.Asked.{all_keys, IsOpen}
use Rattle.mcs_session.specs.declared.asked.Asked.{Asked}
use Rattle.mcs_session.proofs.session.open_all.Given as goal

abbrev pub invariant-loop-context : goal.invariant-loop-context
invariant-loop-context l = record {
  long : length l.asked ≡ length (arc_value l.system).contexts;
  same : all_keys l.asked ≡ all_keys l.initial.asked;
  open_now : (i : ℕ) (own : Vec Asked) → i < l.context → slice_get l.asked i ≡ Some own → IsOpen (arc_value l.system) i own.items;
}
