use Rattle.std.proofs.Common.{map}
use Rattle.mcs_system.specs.Seen.{formula_of, default_of, item_of}
use Rattle.mcs_default.proofs.SaidLemmas.{lower_said}
use Rattle.mcs_default.proofs.said.lower_of_said.Goals as goal

pub returns : goal.returns
returns c =
    lower_said (map item_of c.args.items.now) (map (λ f. formula_of f.now) c.args.added.now) (map (λ d. default_of d.now) c.in_ok-defaults.defaults.items)
    (record { set = c.empty.result; supported = c.with_said_pre-supported.result; blocked = c.empty-2.result }) c.in_ok-defaults.ensures c.empty-2.ensures (rw (← c.deref.ensures.value) c.with_said_pre-supported.ensures)
