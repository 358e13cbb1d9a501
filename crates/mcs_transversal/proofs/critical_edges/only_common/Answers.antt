use Rattle.std.proofs.Common.{◌≡◌, ◌∙◌, false, sym, arith}
use Rattle.std.proofs.lemmas.Bool.Decides.{nat_tests}
use Rattle.mcs_sets.specs.Sets.{single, common, IsLeast}
use Rattle.mcs_transversal.proofs.CriticalLemmas.{alone-not_empty, alone-least}
use Rattle.mcs_transversal.proofs.critical_edges.only_common.Goals as goal

pub returns-in_default-clause-value : goal.returns-in_default-clause-value
returns-in_default-clause-value c = λ k. alone-not_empty _ _ k (sym c.common-both.ensures ∙ c.in_default.ensures.empty)

pub returns-else-eq-clause-value : goal.returns-else-eq-clause-value
returns-else-eq-clause-value c =
    let both : c.common-both.result ≡ common c.args.a c.args.b = c.common-both.ensures in
    let one : c.one.result ≡ single c.in-Some.first = c.one.ensures in
    let least : IsLeast (common c.args.a c.args.b) c.in-Some.first = rw both at c.in-Some.ensures.least in
    let unlike : c.eq.result ≡ false = c.if-eq.false in
    λ k. alone-least _ _ _ k least (λ same. let equal : c.common-both.result ≡ c.one.result = both ∙ same ∙ sym one in grind (arith, nat_tests))
