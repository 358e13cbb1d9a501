use Rattle.std.proofs.Common.{◌≡◌, w64, to_z, of_z, sym, subst}
use Rattle.mcs_trace.proofs.OrderLemmas.{read_literal}
use Rattle.mcs_engine.specs.Trails.{IsFree, IsLiteralOver}
use Rattle.mcs_engine.proofs.FindingLemmas.{open-short}
use Rattle.mcs_engine.proofs.GrowLemmas.{over_at, over_of}
use Rattle.mcs_engine.proofs.Keeping.{extends-none, extends-push, extends-same}
use Rattle.mcs_engine.proofs.propagate.settle.Goals.{In-Forced}
use Rattle.mcs_engine.proofs.propagate.settle.Goals as goal

-- the literal that is forced
forced : (c : In-Forced) → IsLiteralOver c.args.trail.now.positions.items c.in-Forced.literal
forced c = over_of c.args.clauses.now c.args.trail.now c.args.index c.row.result.now c.in-Forced.literal c.requires.trail c.row.ensures c.in-Forced.ensures.0.0

read : (c : In-Forced) → to_z w64 (of_z w64 c.in-Forced.literal) ≡ c.in-Forced.literal
read c = read_literal c.in-Forced.literal (forced c).0

pub examine-requires : goal.examine-requires
examine-requires c = over_at c.args.clauses.now c.args.trail.now c.args.index c.row.result.now c.requires.trail c.row.ensures

pub push-requires : goal.push-requires
push-requires c =
    let at = (goal.at.push-requires c).In-Forced in
    let over = forced at in
    subst (IsFree c.args.trail.now.entries.items c.args.trail.now.positions.items) (sym (read at)) (over.0, over.1, c.in-Forced.ensures.1)

pub returns-in_err-push-in-Forced-clause-extends : goal.returns-in_err-push-in-Forced-clause-extends
returns-in_err-push-in-Forced-clause-extends c = extends-same c.args.clauses.now c.args.level c.args.trail.now c.push.new.self c.requires.trail c.push.ensures.positions c.in_err-push-in-Forced.ensures.err

pub returns-in_ok-push-in-Forced-clause-extends : goal.returns-in_ok-push-in-Forced-clause-extends
returns-in_ok-push-in-Forced-clause-extends c =
    let at = (goal.at.returns-in_ok-push-in-Forced-clause-extends c).In-Forced in
    extends-push c.args.clauses.now c.args.level c.args.trail.now c.push.new.self c.requires.trail c.push.ensures.positions c.args.index c.row.result.now c.in-Forced.literal _ c.row.ensures c.in-Forced.ensures.0.0 c.in-Forced.ensures.0.1 (read at) c.in_ok-push-in-Forced.ensures.entries

pub returns-in-Open-clause-found : goal.returns-in-Open-clause-found
returns-in-Open-clause-found c = λ d is short. open-short c.args.clauses.now c.args.trail.now.entries.items c.args.index c.row.result.now d c.row.ensures c.in-Open.ensures is short

pub returns-in-Conflict-clause-found : goal.returns-in-Conflict-clause-found
returns-in-Conflict-clause-found c = (c.row.result.now, c.row.ensures, c.in-Conflict.ensures)

-- ---- what stays as it is
pub returns-in-Conflict-clause-extends : goal.returns-in-Conflict-clause-extends
returns-in-Conflict-clause-extends c = extends-none c.args.clauses.now c.args.level c.args.trail.now c.requires.trail

pub returns-in-Open-clause-extends : goal.returns-in-Open-clause-extends
returns-in-Open-clause-extends c = extends-none c.args.clauses.now c.args.level c.args.trail.now c.requires.trail

pub returns-then-index-len-clause-extends : goal.returns-then-index-len-clause-extends
returns-then-index-len-clause-extends c = extends-none c.args.clauses.now c.args.level c.args.trail.now c.requires.trail
