use Rattle.std.proofs.Common.{◌∙◌, ◌++◌, List, length, None, Some, map, ap, sym, subst}
use Rattle.mcs_base.proofs.Each.{all_append}
use Rattle.mcs_system.specs.Plain.{Formula}
use Rattle.mcs_system.specs.Seen.{formula_of}
use Rattle.mcs_cnf.specs.ClauseLists.{clause_list, IsOver, AreOver}
use Rattle.mcs_proof_lines.specs.Walks.{entailment_at, many_at}
use Rattle.mcs_judging.specs.Judging.{IsTold, ArePlacesShown}
use Rattle.mcs_judging.proofs.Readings.{view_told, view_refused}
use Rattle.mcs_judging.proofs.classical.judge_classical.Goals as goal

pub clauses_of-requires : goal.clauses_of-requires
clauses_of-requires c =
    let asked = c.args.named.now.asked.now in
    subst (AreOver asked.atoms.now) (sym (ap (map (λ f. formula_of f.now)) c.deref.ensures.value ∙ c.in_ok-premises.ensures))
    (all_append (IsOver asked.atoms.now) (map formula_of c.args.formulas.now) (map (λ f. formula_of f.now) c.args.heads.now) c.requires.formulas c.requires.heads)

pub judge_places-requires : goal.judge_places-requires
judge_places-requires c = record { made = c.in_ok-known.ensures ∙ ap (λ fs. clause_list c.args.named.now.asked.now.atoms.now (map (λ f. formula_of f.now) fs)) (c.deref.ensures.value ∙ sym c.deref-2.ensures.value) }

pub returns-in_default : goal.returns-in_default
returns-in_default c =
    let asked = c.args.named.now.asked.now in
    let beliefs : List Formula = map (λ f. formula_of f.now) asked.beliefs.now in
    let premises = ap (map (λ f. formula_of f.now)) c.deref-2.ensures.value ∙ c.in_ok-premises.ensures in
    let told = rw c.in_default.is at c.in_ok-shown.ensures.exact in
    view_refused asked.atoms.now (map formula_of c.args.formulas.now ++ map (λ f. formula_of f.now) c.args.heads.now) beliefs c.judge_places.new.lines _
    (subst (λ (gs : List Formula). IsTold (ArePlacesShown asked.atoms.now gs beliefs) None c.judge_places.new.lines (many_at (entailment_at c.args.named.now.texts.now) (length asked.beliefs.now) c.args.lines.now)) premises told)

pub returns : goal.returns
returns c =
    let asked = c.args.named.now.asked.now in
    let beliefs : List Formula = map (λ f. formula_of f.now) asked.beliefs.now in
    let premises = ap (map (λ f. formula_of f.now)) c.deref-2.ensures.value ∙ c.in_ok-premises.ensures in
    let told = rw c.in-Some.is at c.in_ok-shown.ensures.exact in
    view_told asked.atoms.now (map formula_of c.args.formulas.now ++ map (λ f. formula_of f.now) c.args.heads.now) beliefs c.judge_places.new.lines _ c.in-Some.view c.in_ok-views.views c.in_ok-views.ensures
    (subst (λ (gs : List Formula). IsTold (ArePlacesShown asked.atoms.now gs beliefs) (Some c.in-Some.view) c.judge_places.new.lines (many_at (entailment_at c.args.named.now.texts.now) (length asked.beliefs.now) c.args.lines.now)) premises told)
