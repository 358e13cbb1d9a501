use Rattle.std.proofs.Common.{◌∙◌, sym, subst}
use Rattle.std.proofs.lemmas.Bool.{eqb-true}
use Rattle.std.specs.List.{AllByRecursion}
use Rattle.mcs_program.specs.Asked.{program_names, program_rules}
use Rattle.mcs_program.proofs.TightLemmas.{RestsOn, more_based, none_based, all_based}
use Rattle.mcs_program.proofs.tight.is_tight.Goals as goal

pub loop-init : goal.loop-init
loop-init c = none_based c.args.placed.now.placing.rules.items c.empty-set.result c.empty-set.ensures

pub loop-preserved : goal.loop-preserved
loop-preserved c =
    more_based c.args.placed.now.placing.rules.items c.loop.set c.based_on-more.result (subst (AllByRecursion (RestsOn c.loop.set c.based_on-more.result)) c.deref.ensures.value c.based_on-more.ensures) c.loop.invariant

pub returns-then-eq : goal.returns-then-eq
returns-then-eq c h n known =
    let p = c.args.placed.now.program.now in
    all_based c.args.placed.now.placing.rules.items c.loop.set (program_names p) (program_rules p) p.different (eqb-true c.loop.set c.all_places-all.result (sym c.eq-then-eq.ensures ∙ h) ∙ c.all_places-all.ensures) c.loop.invariant
    c.args.placed.now.right.placed_rules n known

pub returns : goal.returns
returns c h n known =
    let p = c.args.placed.now.program.now in
    all_based c.args.placed.now.placing.rules.items c.loop.set (program_names p) (program_rules p) p.different (eqb-true c.loop.set c.all_places-all.result (sym c.eq-2.ensures ∙ h) ∙ c.all_places-all.ensures) c.loop.invariant
    c.args.placed.now.right.placed_rules n known
