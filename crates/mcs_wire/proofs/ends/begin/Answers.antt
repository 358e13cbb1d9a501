use Rattle.std.proofs.Common.{sym, subst, [], arith}
use Rattle.crossbeam_channel.specs.Fifo.{Forks}
use Rattle.mcs_wire.specs.Wires.{address_view, inbox_view}
use Rattle.mcs_wire.specs.Steps.{KeepsWireRule}
use Rattle.mcs_wire.proofs.Steps.{name_allowed}
use Rattle.mcs_wire.proofs.ends.begin.Goals as goal

pub another-requires-clause-rule : goal.another-requires-clause-rule
another-requires-clause-rule g c =
    subst (λ v. Forks KeepsWireRule c.args.pass.now.id v (inbox_view g.N.Terms.plan g.N.Terms.addresses []) (address_view g.N.Terms.plan g.N.Terms.addresses g.N.Terms.addresses [])) (sym c.requires.unnamed)
    (name_allowed c.args.pass.now.id g.N.Terms.plan g.N.Terms.addresses (omega (arith, c.requires.picked.1, c.ranges.addresses.fits)))
