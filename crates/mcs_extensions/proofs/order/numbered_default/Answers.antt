use Rattle.mcs_system.specs.Seen.{default_of}
use Rattle.mcs_extensions.proofs.OrderLemmas.{numbered_read}
use Rattle.mcs_extensions.proofs.order.numbered_default.Goals as goal

pub returns : goal.returns
returns c = numbered_read (λ d. default_of d.now) c.args.defaults.now c.args.number c.index-defaults-number.result c.if-number-eq0.false c.if-number-defaults.false c.index-defaults-number.is
