use Rattle.std.proofs.Common.{◌≤◌, nat_le, unsigned_abs, ◌∙◌, sym, arith, rules, tests}
use Rattle.std.proofs.lemmas.Bool.Decides.{nat_tests}
use Rattle.std.proofs.lemmas.Iterator.{YieldsList-from_slice}
use Rattle.std.proofs.lemmas.Iterator.Search.{all_from_yields_List}
use Rattle.mcs_base.proofs.Each.{all_by_test}
use Rattle.mcs_trace.proofs.cnf.Cnf.can_push.Goals as goal

pub returns : goal.returns
returns c =
    let all = all_from_yields_List (λ l. nat_le (unsigned_abs l) c.args.self.now.vars) _ _ c.all.result c.all.ensures.ran (YieldsList-from_slice c.literals.result.now c.iter.ensures.rest) (λ x b q k. search (rules, tests)) in
    let both = all_by_test (λ l. unsigned_abs l ≤ c.args.self.now.vars) (λ l. nat_le (unsigned_abs l) c.args.self.now.vars) c.literals.result.now (λ x among. (λ h. grind (arith, nat_tests), λ h. grind (arith, nat_tests))) in
    rw (← c.literals.ensures.value) (λ h. both.1 (sym all ∙ h), λ h. all ∙ both.0 h)
