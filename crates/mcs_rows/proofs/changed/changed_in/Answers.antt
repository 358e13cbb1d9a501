use Rattle.std.proofs.Common.{◌≡◌, ◌↔◌, ℕ, List, subst}
use Rattle.std.proofs.lemmas.List.{take_all}
use Rattle.mcs_base.specs.Listings.{IsAmong}
use Rattle.mcs_sets.specs.Sets.{common}
use Rattle.mcs_base.specs.Pairs.{forced_of}
use Rattle.mcs_system.specs.Imports.{rules_into}
use Rattle.mcs_rows.specs.Making.{IsChangedRow}
use Rattle.mcs_rows.proofs.ChangedLemmas.{changed_more}
use Rattle.mcs_rows.proofs.changed.changed_in.Goals as goal

pub loop-state-preserved : goal.loop-state-preserved
loop-state-preserved c =
    changed_more c.args.system.now c.args.i c.args.pair c.args.answers.now c.args.states.now c.loop-state.state-index c.state-item.result c.loop-state-test.true c.state-item.is c.loop-state.all.items c.add_changed.new.all.items c.loop-state.invariant (c.in_ok-add_changed.ensures c.args.pair c.removed-removed.ensures (let e : c.common-forced.result ≡ common (forced_of c.args.pair) (rules_into c.args.system.now c.args.i) = cc in e))

pub returns : goal.returns
returns c r =
    subst (λ (states : List ℕ). IsAmong r c.loop-state.all.items ↔ ((s : ℕ) × IsAmong s states × IsChangedRow c.args.system.now c.args.i c.args.pair c.args.answers.now s r)) (take_all c.loop-state.state-index c.args.states.now c.loop-state-test.false) (c.loop-state.invariant r)
