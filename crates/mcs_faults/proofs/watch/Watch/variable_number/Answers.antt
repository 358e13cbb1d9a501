use Rattle.std.proofs.Common.{ap, length, map, arith}
use Rattle.std.proofs.lemmas.Bool.Decides.{not_from_Decides}
use Rattle.mcs_base.proofs.Among.{no_image_more}
use Rattle.mcs_grammar.specs.Faults.{NamedRead}
use Rattle.mcs_account.specs.Images.{named_read_of}
use Rattle.mcs_faults.specs.Watching.{IsNumberOf}
use Rattle.mcs_faults.proofs.NumberLemmas.{number-here, number-none}
use Rattle.mcs_faults.proofs.ReadLemmas.{read-copied}
use Rattle.mcs_faults.proofs.watch.Watch.variable_number.Goals as goal

pub loop-number-preserved : goal.loop-number-preserved
loop-number-preserved c =
    no_image_more named_read_of c.args.self.now.variables.items c.loop-number.number c.variable-item.result (named_read_of c.in-Some.read.now) (omega (arith, ap length c.deref-variable-items.ensures.value)) (rw c.deref-variable-items.ensures.value at c.variable-item.is) (not_from_Decides c.same_read.result c.same_read.ensures c.if-same_read.false) c.loop-number.invariant

pub returns-then-same_read-clause-some : goal.returns-then-same_read-clause-some
returns-then-same_read-clause-some c =
    read-copied c.args.read c.in-Some.read (λ (q : NamedRead). IsNumberOf (map named_read_of c.args.self.now.variables.items) q c.loop-number.number) c.in-Some.is
    (number-here named_read_of c.args.self.now.variables.items c.loop-number.number c.variable-item.result (named_read_of c.in-Some.read.now) (omega (arith, ap length c.deref-variable-items.ensures.value)) (rw c.deref-variable-items.ensures.value at c.variable-item.is) (c.same_read.ensures.0 c.if-same_read.true))

pub returns-clause-some : goal.returns-clause-some
returns-clause-some c =
    read-copied c.args.read c.in-Some.read (λ (q : NamedRead). IsNumberOf (map named_read_of c.args.self.now.variables.items) q c.len-2.result) c.in-Some.is
    (number-none named_read_of c.args.self.now.variables.items c.loop-number.number c.len-2.result (named_read_of c.in-Some.read.now) (omega (arith, ap length c.deref-variable-items.ensures.value)) (omega (arith, c.args.self.now.variables.ok.0)) c.loop-number.invariant)
