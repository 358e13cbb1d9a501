use Rattle.std.proofs.Common.{List, map, sym, subst}
use Rattle.std.proofs.lemmas.List.{length-map}
use Rattle.std.specs.List.{AllByRecursion}
use Rattle.mcs_base.proofs.Each.{all_push}
use Rattle.mcs_system.specs.Seen.{formula_of}
use Rattle.mcs_classical.specs.Assumptions.{assumed}
use Rattle.mcs_classical.specs.Consequences.{IsLowerConsequence}
use Rattle.mcs_classical.specs.declared.bounds.Lower.{Lower}
use Rattle.mcs_classical.proofs.ConsequenceLemmas.{standing_follow}
use Rattle.mcs_classical.proofs.consequences.Consequences.of.Goals as goal

pub returns : goal.returns
returns c = λ xs.
    let fs = map formula_of c.args.formulas.now in
    let gs = map (λ g. formula_of g.now) c.args.asked.now.beliefs.now in
    let none = c.new-found.ensures fs xs gs in
    let l : Lower = record { assumed = c.empty.result; entailed = c.goals_among-entailed.result } in
    record {
      lower = subst (λ (ls : List Lower). AllByRecursion (IsLowerConsequence fs xs gs) ls) (sym c.in_ok-push.ensures.items)
          (all_push (IsLowerConsequence fs xs gs) c.new-found.result.lower.items l none.lower (standing_follow fs (assumed c.empty.result xs) gs c.goals_among-entailed.result (rw (length-map c.args.asked.now.beliefs.now (λ g. formula_of g.now)) c.goals_among-entailed.ensures)));
      upper = none.upper;
    }
