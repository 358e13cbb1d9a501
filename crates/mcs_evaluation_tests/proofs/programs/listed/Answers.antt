use Rattle.std.proofs.Common.{◌≡◌, ◌∙◌, Ok, map, ap, sym, subst}
use Rattle.std.proofs.lemmas.Iterator.{YieldsList-from_slice}
use Rattle.std.proofs.lemmas.Iterator.Consumers.{map_from_collect}
use Rattle.mcs_evidence.specs.Pushing.{AreNamesOf}
use Rattle.mcs_evaluation_tests.proofs.NameLemmas.{own_names}
use Rattle.mcs_evaluation_tests.proofs.programs.listed.Goals as goal

pub list_answer_sets-requires-clause-beliefs : goal.list_answer_sets-requires-clause-beliefs
list_answer_sets-requires-clause-beliefs c =
    let beliefs : map (λ b. b.now) c.deref.result.now ≡ c.args.atoms.now = ap (map (λ b. b.now)) c.deref.ensures.value ∙ map_from_collect {E = Unit {0}} (Ok c.in_ok-beliefs.beliefs) c.in_ok-beliefs.ensures.ran (YieldsList-from_slice c.args.atoms.now c.iter.ensures.rest) in
    subst (AreNamesOf c.args.atoms.now) (sym beliefs) (own_names c.args.atoms.now)
