use Rattle.std.proofs.Common.{sym, subst}
use Rattle.mcs_base.specs.Listings.{IsAmong}
use Rattle.mcs_base.proofs.Among.{among_at}
use Rattle.mcs_transversal.proofs.BergeLemmas.{comes-more, comes-end}
use Rattle.mcs_transversal.proofs.berge.extend_each.Goals as goal

pub extend-requires-clause-among : goal.extend-requires-clause-among
extend-requires-clause-among c = subst (λ x. IsAmong x c.args.ts.now) (sym c.t-item.is) (among_at c.args.ts.now c.loop-t.t-index c.t-item.result c.loop-t-test.true)

pub loop-t-preserved : goal.loop-t-preserved
loop-t-preserved c x =
    let before = c.loop-t.invariant x in
    let more = comes-more c.args.edges.now c.loop-t.out.items c.extend.new.out.items c.args.edge c.args.ts.now c.loop-t.t-index c.t-item.result c.loop-t-test.true c.t-item.is c.in_ok-extend.ensures x in
    (λ h. more.0 (before.0 h), λ h. before.1 (more.1 h))

pub returns : goal.returns
returns c x =
    let before = c.loop-t.invariant x in
    let end = comes-end c.args.edges.now c.loop-t.out.items c.args.edge c.args.ts.now c.loop-t.t-index x c.loop-t-test.false in
    (λ a. before.1 (end.1 a), λ one. end.0 (before.0 one))
