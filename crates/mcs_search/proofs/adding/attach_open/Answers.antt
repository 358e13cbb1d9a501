use Rattle.std.proofs.Common.{◌≡◌, ◌∙◌, Some, slice_get, ap, sym, arith, length, refl}
use Rattle.mcs_engine.specs.declared.watches.Watches.{Watches}
use Rattle.mcs_engine.proofs.StateLemmas.{literals-watched, state-spared}
use Rattle.mcs_search.proofs.adding.attach_open.Goals as goal

pub returns-in_ok-push_none-clause-same : goal.returns-in_ok-push_none-clause-same
returns-in_ok-push_none-clause-same c =
    let s = c.args.state.now in
    let here : slice_get s.clauses (length s.watches.pairs) ≡ Some c.row.result.now = ap (slice_get s.clauses) (sym c.len-index.ensures) ∙ c.row.ensures in
    let spared = c.is_spared.ensures c.if-is_spared.true in
    let next = c.requires.next in
    let w : Watches = record { pairs = c.push_none.new.self; lists = s.watches.lists; short = s.watches.short } in
    literals-watched s w s.visited s.kept (state-spared s w c.row.result.now c.requires.ground.state here c.in_ok-push_none.ensures.ok refl refl spared.0 spared.1 c.requires.all) (λ full. absurd (omega arith))
