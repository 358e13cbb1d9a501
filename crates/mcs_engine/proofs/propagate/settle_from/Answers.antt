use Rattle.std.proofs.Common.{arith}
use Rattle.std.proofs.lemmas.Option.{slice_get-get_or}
use Rattle.std.proofs.lemmas.Bool.Decides.{when_false}
use Rattle.mcs_engine.specs.Extending.{Extends}
use Rattle.mcs_engine.specs.Watching.{AreSettled}
use Rattle.mcs_engine.proofs.GrowLemmas.{settled-grown, settled-more, settled-none}
use Rattle.mcs_engine.proofs.Keeping.{extends-none, extends-then}
use Rattle.mcs_engine.proofs.propagate.settle_from.Goals as goal
use Rattle.mcs_engine.proofs.propagate.settle_from.Goals.{After-settle}

extends : (c : After-settle) → Extends c.args.clauses.now c.args.level c.args.trail.now c.settle.new.trail
extends c = extends-then c.args.clauses.now c.args.level c.args.trail.now c.loop-from.trail c.settle.new.trail c.loop-from.invariant.trail c.settle.ensures.extends

settled : (c : After-settle) → AreSettled c.args.clauses.now c.args.indices.now c.settle.new.trail.entries.items c.args.from.now c.loop-from.from
settled c = settled-grown c.args.clauses.now c.args.indices.now c.args.level c.loop-from.trail.entries.items c.settle.new.trail.entries.items c.args.from.now c.loop-from.from c.settle.ensures.extends.grows c.loop-from.invariant.settled

pub loop-from-init : goal.loop-from-init
loop-from-init c = record {
  trail = extends-none c.args.clauses.now c.args.level c.args.trail.now c.requires.trail;
  bound = λ low. low;
  settled = settled-none c.args.clauses.now c.args.indices.now c.args.trail.now.entries.items c.args.from.now;
}

pub settle-requires : goal.settle-requires
settle-requires c = record { trail = c.loop-from.invariant.trail.trail }

pub returns-in_err-settle-clause-extends : goal.returns-in_err-settle-clause-extends
returns-in_err-settle-clause-extends c = extends (goal.at.returns-in_err-settle-clause-extends c).After-settle

pub returns-in_err-settle-clause-settled : goal.returns-in_err-settle-clause-settled
returns-in_err-settle-clause-settled c = settled (goal.at.returns-in_err-settle-clause-settled c).After-settle

pub returns-then-branch-clause-extends : goal.returns-then-branch-clause-extends
returns-then-branch-clause-extends c = extends (goal.at.returns-then-branch-clause-extends c).After-settle

pub returns-then-branch-clause-settled : goal.returns-then-branch-clause-settled
returns-then-branch-clause-settled c = settled (goal.at.returns-then-branch-clause-settled c).After-settle

pub loop-from-smaller : goal.loop-from-smaller
loop-from-smaller c = omega arith

pub loop-from-preserved : goal.loop-from-preserved
loop-from-preserved c = record {
  trail = extends (goal.at.loop-from-preserved c).After-settle;
  bound = λ low. (let less = c.loop-from-test.true in omega arith);
  settled = settled-more c.args.clauses.now c.args.indices.now c.settle.new.trail.entries.items c.args.from.now c.loop-from.from _
      (slice_get-get_or c.args.indices.now c.loop-from.from 0 c.loop-from-test.true)
      (when_false _ _ c.if-branch.false c.in_ok-settle.ensures.found)
      (settled (goal.at.loop-from-preserved c).After-settle);
}

pub returns-clause-extends : goal.returns-clause-extends
returns-clause-extends c = c.loop-from.invariant.trail

pub returns-clause-settled : goal.returns-clause-settled
returns-clause-settled c = c.loop-from.invariant.settled
