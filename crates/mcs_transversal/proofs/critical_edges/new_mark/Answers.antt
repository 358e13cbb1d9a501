use Rattle.std.proofs.Common.{◌≡◌, ◌∙◌, sym, subst, IsTrue, true≢false}
use Rattle.mcs_sets.specs.Sets.{has}
use Rattle.mcs_transversal.proofs.CriticalLemmas.{alone-same}
use Rattle.mcs_transversal.proofs.critical_edges.new_mark.Goals as goal

pub returns-else-has-clause-value : goal.returns-else-has-clause-value
returns-else-has-clause-value c = λ k is_left alone.
    let same : k ≡ c.in-Some.mark = alone-same _ _ _ _ alone c.in-Some.ensures.value in
    true≢false (sym (subst (λ (j : _). IsTrue (has c.args.left j)) same is_left) ∙ sym c.has.ensures.value ∙ c.if-has.false)
