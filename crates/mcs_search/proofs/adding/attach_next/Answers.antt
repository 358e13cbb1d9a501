use Rattle.std.proofs.Common.{◌≡◌, ◌∙◌, Some, slice_get, ap, sym, arith, length, refl}
use Rattle.mcs_engine.proofs.GrowLemmas.{over_at}
use Rattle.mcs_engine.proofs.StateLemmas.{fits-literals, fresh-base, literals-watched, state-attached, state-same}
use Rattle.mcs_search.proofs.adding.attach_next.Goals as goal

pub push-requires-clause-literals : goal.push-requires-clause-literals
push-requires-clause-literals c = fits-literals c.row-literals.result.now c.beginning_of-beginning.result.pair (over_at c.args.state.now.clauses c.args.state.now.trail _ c.row-literals.result.now c.requires.ground.state.trail c.row-literals.ensures).0 c.beginning_of-beginning.ensures.fits

pub returns-in_err-push-clause-same : goal.returns-in_err-push-clause-same
returns-in_err-push-clause-same c =
    let s = c.args.state.now in
    let e = c.in_err-push.ensures.err in
    literals-watched s c.push.new.self s.visited s.kept (state-same s _ c.requires.ground.state refl refl refl refl c.push.ensures.kept e.pairs e.short refl refl refl refl) (λ full. ap length e.pairs ∙ full)

pub returns-clause-same : goal.returns-clause-same
returns-clause-same c =
    let s = c.args.state.now in
    let b = c.beginning_of-beginning.ensures in
    let o = c.beginning_of-beginning.result.pair in
    let next = c.requires.next in
    let here : slice_get s.clauses (length s.watches.pairs) ≡ Some c.row-literals.result.now = ap (slice_get s.clauses) (sym c.len.ensures) ∙ c.row-literals.ensures in
    literals-watched s c.push.new.self c.beginning_of-beginning.result.visited s.kept
    (state-attached s c.push.new.self c.row-literals.result.now o c.beginning_of-beginning.result.visited c.requires.ground.state here c.push.ensures.kept c.in_ok-push.ensures.pushed b.fits b.low b.fresh
    (fresh-base s.trail.entries.items s.levels.items o c.requires.ground.base)) (λ full. absurd (omega arith))
