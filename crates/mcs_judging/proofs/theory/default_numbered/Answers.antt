use Rattle.std.proofs.Common.{◌-◌, ◌<◌, length, arith}
use Rattle.mcs_system.specs.Seen.{default_of}
use Rattle.mcs_extensions.proofs.OrderLemmas.{numbered_read}
use Rattle.mcs_judging.proofs.Places.{as_long}
use Rattle.mcs_judging.proofs.theory.default_numbered.Goals as goal

pub bounds-defaults-number : goal.bounds-defaults-number
bounds-defaults-number c =
    let long = as_long c.args.reading.now in
    omega (arith, long, c.requires.0, c.requires.1)

pub returns : goal.returns
returns c =
    let long = as_long c.args.reading.now in
    let less : c.args.number - 1 < length c.args.reading.now.theory.now.defaults.now = omega (arith, long, c.requires.0, c.requires.1) in
    numbered_read (λ d. default_of d.now) c.args.reading.now.theory.now.defaults.now c.args.number c.index-defaults-number.result (λ none. omega (arith, none, c.requires.0)) less c.index-defaults-number.is
