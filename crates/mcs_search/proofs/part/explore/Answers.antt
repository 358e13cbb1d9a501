use Rattle.std.proofs.Common.{subst}
use Rattle.mcs_search.specs.declared.searching.Turn.TheVariants as turn
use Rattle.mcs_search.specs.Searches.{IsTurned}
use Rattle.mcs_engine.proofs.StoreLemmas.{later-then}
use Rattle.mcs_search.proofs.part.explore.Goals as goal

pub returns-in_err-found-2 : goal.returns-in_err-found-2
returns-in_err-found-2 c = later-then c.args.state.now c.loop.state c.begin_anew.new.state c.loop.invariant.later c.begin_anew.ensures.later

pub loop-preserved-then-is_due : goal.loop-preserved-then-is_due
loop-preserved-then-is_due c = record {
  later = later-then c.args.state.now c.loop.state c.begin_anew.new.state c.loop.invariant.later c.begin_anew.ensures.later;
  run = c.in_ok-found-2.ensures.run;
}

pub returns-in_err-next : goal.returns-in_err-next
returns-in_err-next c = later-then c.args.state.now c.loop.state c.take_turn.new.state c.loop.invariant.later c.take_turn.ensures.later

pub returns-in-Satisfied : goal.returns-in-Satisfied
returns-in-Satisfied c = later-then c.args.state.now c.loop.state c.take_turn.new.state c.loop.invariant.later c.take_turn.ensures.later

pub loop-preserved : goal.loop-preserved
loop-preserved c =
    let turn : IsTurned c.loop.state c.take_turn.new.state (turn.Goes c.in-Goes.next) = subst (IsTurned c.loop.state c.take_turn.new.state) c.in-Goes.is c.in_ok-next.ensures.turn in
    record {
      later = later-then c.args.state.now c.loop.state c.take_turn.new.state c.loop.invariant.later c.take_turn.ensures.later;
      run = turn.0;
    }
