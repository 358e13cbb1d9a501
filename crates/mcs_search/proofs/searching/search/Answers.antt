use Rattle.std.proofs.Common.{◌^◌, ◌*◌, ◌+◌, ◌-◌, ℕ, ◌<◌, ◌∙◌, arith, length, subst, sym}
use Rattle.mcs_search.specs.declared.searching.Turn.TheVariants as turn
use Rattle.mcs_search.specs.Searches.{IsTurned, work_left, work_of}
use Rattle.mcs_base.proofs.NumberCases.{rounds_fall}
use Rattle.mcs_search.proofs.WorkLemmas.{work_left-bound}
use Rattle.mcs_search.proofs.SearchLemmas.{search-base, search-run}
use Rattle.mcs_engine.proofs.StoreLemmas.{later-same, later-then}
use Rattle.mcs_search.proofs.searching.search.Goals as goal

pub loop-left-init : goal.loop-left-init
loop-left-init c =
    let a = c.attach.ensures.same.same in
    let r = c.in_ok-found.ensures in
    record {
      later = later-then c.args.state.now c.attach.new.state c.run.new.state (later-same c.args.state.now c.attach.new.state a.same) (later-same c.attach.new.state c.run.new.state r.same.same);
      run = record {
        search = search-run c.attach.new.state c.run.new.state (search-base c.attach.new.state a.same.state c.in_ok-attach.ensures.full (a.levels ∙ c.requires.base)) r.same r.grows;
        run = r.run;
      };
    }

pub loop-left-smaller-then-is_due : goal.loop-left-smaller-then-is_due
loop-left-smaller-then-is_due c =
    let s = c.loop-left.state in
    let n : ℕ = length s.trail.positions.items in
    let es = c.renew.new.state.trail.entries.items in
    let left : ℕ = c.loop-left.left in
    subst (λ (m : ℕ). (left - 1) * 3 ^ m + work_left m es < left * 3 ^ n + work_of s) (sym c.renew.ensures.later.positions)
    (rounds_fall left (work_of s) (work_left n es) (3 ^ n) (let some = c.if-left-gt0.true in omega arith) (work_left-bound n es))

pub returns-in_err-found-2-clause-later : goal.returns-in_err-found-2-clause-later
returns-in_err-found-2-clause-later c = later-then c.args.state.now c.loop-left.state c.renew.new.state c.loop-left.invariant.later c.renew.ensures.later

pub loop-left-preserved-then-is_due : goal.loop-left-preserved-then-is_due
loop-left-preserved-then-is_due c = record {
  later = later-then c.args.state.now c.loop-left.state c.renew.new.state c.loop-left.invariant.later c.renew.ensures.later;
  run = c.in_ok-found-2.ensures.run;
}

pub returns-in_err-next-clause-later : goal.returns-in_err-next-clause-later
returns-in_err-next-clause-later c = later-then c.args.state.now c.loop-left.state c.take_turn.new.state c.loop-left.invariant.later c.take_turn.ensures.later

pub returns-in-Satisfied-clause-later : goal.returns-in-Satisfied-clause-later
returns-in-Satisfied-clause-later c = later-then c.args.state.now c.loop-left.state c.take_turn.new.state c.loop-left.invariant.later c.take_turn.ensures.later

pub returns-in-Refuted-clause-later : goal.returns-in-Refuted-clause-later
returns-in-Refuted-clause-later c = later-then c.args.state.now c.loop-left.state c.take_turn.new.state c.loop-left.invariant.later c.take_turn.ensures.later

pub loop-left-preserved : goal.loop-left-preserved
loop-left-preserved c =
    let turn : IsTurned c.loop-left.state c.take_turn.new.state (turn.Goes c.in-Goes.next) = subst (IsTurned c.loop-left.state c.take_turn.new.state) c.in-Goes.is c.in_ok-next.ensures.turn in
    record {
      later = later-then c.args.state.now c.loop-left.state c.take_turn.new.state c.loop-left.invariant.later c.take_turn.ensures.later;
      run = turn.0;
    }
