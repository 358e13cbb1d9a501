use Rattle.std.proofs.Common.{◌∙◌, map, ap, subst}
use Rattle.mcs_system.specs.Seen.{rule_of}
use Rattle.mcs_system.specs.Logic.{true_names, holds}
use Rattle.mcs_cnf.specs.Entailments.{IsModelAt}
use Rattle.mcs_classical.specs.Models.{IsSatisfiedAnswer}
use Rattle.mcs_evidence.specs.Programs.{smaller_formulas}
use Rattle.mcs_evidence.proofs.Models.{answer_set_from_model}
use Rattle.mcs_program.specs.Listings.{place_formula}
use Rattle.mcs_program.proofs.ListingLemmas.{left_unfounded}
use Rattle.mcs_program.proofs.listing.unfounded_in.Goals as goal

pub returns-in-Model : goal.returns-in-Model
returns-in-Model c =
    let names = c.args.program.now.atoms.now in
    let rules = map rule_of c.args.program.now.rules.now in
    let fs = smaller_formulas names rules c.args.model in
    let below : IsModelAt names fs c.in-Model.less = subst (IsSatisfiedAnswer names fs) c.in-Model.is c.in_ok-less.ensures in
    ap (λ set. holds (true_names 0 names c.args.model) (place_formula rules names set)) c.minus.ensures ∙ left_unfounded names rules c.args.model c.in-Model.less c.args.program.now.different below

pub returns-in-Refuted : goal.returns-in-Refuted
returns-in-Refuted c =
    let names = c.args.program.now.atoms.now in
    let rules = map rule_of c.args.program.now.rules.now in
    let fs = smaller_formulas names rules c.args.model in
    answer_set_from_model names rules c.args.model c.args.program.now.different c.requires.formulas
    (subst (IsSatisfiedAnswer names fs) c.in-Refuted.is c.in_ok-less.ensures).1
