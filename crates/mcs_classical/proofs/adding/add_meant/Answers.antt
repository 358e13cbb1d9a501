use Rattle.std.proofs.Common.{arith, subst}
use Rattle.std.proofs.lemmas.Result.{on_ok_weaker}
use Rattle.mcs_system.specs.Seen.{formula_of}
use Rattle.mcs_meant.specs.Meanings.{AreClausesFor}
use Rattle.mcs_meant.proofs.MeaningLemmas.{adds_for}
use Rattle.mcs_classical.proofs.adding.add_meant.Goals as goal

pub append-added-requires : goal.append-added-requires
append-added-requires c = omega (arith, c.in_ok-more.ensures.grows, c.vars.ensures.value)

pub returns-clause-ok : goal.returns-clause-ok
returns-clause-ok c =
    let said : AreClausesFor c.args.atoms.now (formula_of c.args.formula.now) c.args.known.now.vars c.in_ok-more.more = subst (λ n. AreClausesFor c.args.atoms.now (formula_of c.args.formula.now) n c.in_ok-more.more) c.vars.ensures.value c.in_ok-more.ensures in
    on_ok_weaker c.append-added.result (λ e. adds_for c.args.atoms.now (formula_of c.args.formula.now) c.args.known.now c.in_ok-more.more c.append-added.new.self c.vars.ensures.kept said e) c.append-added.ensures.ok
