use Rattle.std.proofs.Common.{List, map, sym, subst}
use Rattle.std.proofs.lemmas.List.{length-map}
use Rattle.std.specs.List.{AllByRecursion}
use Rattle.mcs_system.specs.Seen.{formula_of}
use Rattle.mcs_classical.specs.Consequences.{with_assumed, IsLowerConsequence, IsUpperConsequence}
use Rattle.mcs_classical.specs.declared.bounds.Lower.{Lower}
use Rattle.mcs_classical.specs.declared.bounds.Upper.{Upper}
use Rattle.mcs_classical.proofs.ConsequenceLemmas.{possible_all, told_first}
use Rattle.mcs_classical.proofs.consequences.Consequences.told.Goals as goal

pub returns : goal.returns
returns c fs xs are =
    let beliefs = c.args.asked.now.beliefs.now in
    let goals = map (λ g. formula_of g.now) beliefs in
    let gs = with_assumed fs xs c.args.set in
    told_first gs goals c.possible_with-possible.result (record { entailed = c.entailed_with-entailed.result; left = c.minus.result })
    (c.entailed_with-entailed.ensures fs xs goals (subst (λ (ls : List Lower). AllByRecursion (IsLowerConsequence fs xs goals) ls) (sym c.deref.ensures.value) are.lower))
    (c.possible_with-possible.ensures fs xs goals (possible_all gs goals _ c.places_of-all.result (length-map beliefs (λ g. formula_of g.now)) c.places_of-all.ensures)
    (subst (λ (us : List Upper). AllByRecursion (IsUpperConsequence fs xs goals) us) (sym c.deref-2.ensures.value) are.upper))
    c.minus.ensures
