use Rattle.mcs_system.specs.Seen.{formula_of}
use Rattle.mcs_extensions.proofs.OrderLemmas.{numbered_read}
use Rattle.mcs_extensions.proofs.absence.numbered_formula.Goals as goal

pub returns : goal.returns
returns c = numbered_read formula_of c.args.formulas.now c.args.number c.index-formulas-number.result c.if-number-eq0.false c.if-number-formulas.false c.index-formulas-number.is
