use Rattle.std.proofs.Common.{◌≡◌, ◌∙◌, ◌++◌, ℕ, List, [], ◌∷◌, ap, map, sym, subst}
use Rattle.mcs_trace.specs.declared.certificate.Entail.{Entail}
use Rattle.mcs_cnf.specs.Classical.{IsAcceptedClassical}
use Rattle.mcs_cnf.specs.Entailments.{entailment_of}
use Rattle.mcs_solver.proofs.ViewLemmas.{view_of_none, none_shown}
use Rattle.mcs_solver.proofs.views.view_of_nothing.Goals as goal

pub returns-then-not-certify-clause-exact : goal.returns-then-not-certify-clause-exact
returns-then-not-certify-clause-exact c = λ fs. view_of_none fs c.push.new.self.items (c.in_ok-push.ensures.items ∙ ap (λ (xs : List ℕ). xs ++ c.empty.result ∷ []) c.new-views.ensures.items ∙ ap (λ (n : ℕ). n ∷ []) c.empty.ensures)

pub returns-clause-exact : goal.returns-clause-exact
returns-clause-exact c = λ fs. view_of_none fs c.push.new.self.items (c.in_ok-push.ensures.items ∙ ap (λ (xs : List ℕ). xs ++ c.empty.result ∷ []) c.new-views.ensures.items ∙ ap (λ (n : ℕ). n ∷ []) c.empty.ensures)

pub returns-clause-certified : goal.returns-clause-certified
returns-clause-certified c =
    let items : c.push.new.self.items ≡ 0 ∷ [] = c.in_ok-push.ensures.items ∙ ap (λ (xs : List ℕ). xs ++ c.empty.result ∷ []) c.new-views.ensures.items ∙ ap (λ (n : ℕ). n ∷ []) c.empty.ensures in
    λ names fs. (
      c.if-not-certify.false,
      subst (λ (es : List Entail). IsAcceptedClassical names fs [] c.push.new.self.items (map entailment_of es)) (sym c.new.ensures.items) (none_shown names fs c.push.new.self.items items),
    )
