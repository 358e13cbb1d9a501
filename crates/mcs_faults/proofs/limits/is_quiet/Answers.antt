use Rattle.std.proofs.Common.{◌≡◌, sym, ap, ◌∙◌, arith}
use Rattle.mcs_account.specs.declared.place.Role.TheVariants as roles
use Rattle.mcs_faults.proofs.QuietTokens.{is_plain_role, quiet}
use Rattle.mcs_faults.proofs.limits.is_quiet.Goals as goal

pub returns-in-Nothing : goal.returns-in-Nothing
returns-in-Nothing c = λ w before m a asked yes'. quiet w before m a c.args.said.now asked c.if-begins_item.false c.if-begins_belief.false c.if-ends_read.false (omega (arith, c.if-said-most.false, c.most.ensures)) (ap is_plain_role c.in-Nothing.is)
    (λ e. let clash : roles.Nothing ≡ roles.Counted 513 = sym c.in-Nothing.is ∙ e in cc)

pub returns-else-number-most : goal.returns-else-number-most
returns-else-number-most c = λ w before m a asked yes'. quiet w before m a c.args.said.now asked c.if-begins_item.false c.if-begins_belief.false c.if-ends_read.false (omega (arith, c.if-said-most.false, c.most.ensures)) (ap is_plain_role c.in-Counted.is)
    (λ e. let clash : roles.Counted c.in-Counted.number ≡ roles.Counted 513 = sym c.in-Counted.is ∙ e in let same : c.in-Counted.number ≡ 513 = cc in omega (arith, same, c.if-number-most.false, c.most-in-Counted.ensures))
