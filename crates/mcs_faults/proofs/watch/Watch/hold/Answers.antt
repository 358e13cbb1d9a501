use Rattle.std.proofs.Common.{refl, arith}
use Rattle.mcs_account.specs.Images.{named_read_of}
use Rattle.mcs_faults.proofs.ReadLemmas.{held-now, held-already}
use Rattle.mcs_faults.proofs.watch.Watch.hold.Goals as goal

pub returns-in_ok-push-clause-held : goal.returns-in_ok-push-clause-held
returns-in_ok-push-clause-held c = held-now c.args.self.now.variables.items c.push.new.self.items c.in_ok-copy_read.field-0 (named_read_of c.args.read.now) c.variable_number-number.result c.len.result (c.variable_number-number.ensures.some c.args.read.now refl) (omega (arith, c.args.self.now.variables.ok.0)) c.if-number-len.true c.in_ok-push.ensures.items c.in_ok-copy_read.ensures

pub returns-else-number-len-clause-held : goal.returns-else-number-len-clause-held
returns-else-number-len-clause-held c = held-already c.args.self.now.variables.items (named_read_of c.args.read.now) c.variable_number-number.result c.len.result (c.variable_number-number.ensures.some c.args.read.now refl) (omega (arith, c.args.self.now.variables.ok.0)) c.if-number-len.false
