use Rattle.std.proofs.Common.{◌∙◌, ℕ, List, [], ◌∷◌, ◌++◌, sym, ap, subst, arith}
use Rattle.std.proofs.lemmas.Grind.{common_steps}
use Rattle.std.specs.Arc.{arc_value}
use Rattle.mcs_sets.specs.Orders.{StateBefore}
use Rattle.mcs_base.specs.Listings.{IsListing}
use Rattle.mcs_system.specs.Plain.{System}
use Rattle.mcs_system.specs.Systems.{IsAcceptedPart}
use Rattle.mcs_asking.specs.Certificates.{IsAccepted}
use Rattle.mcs_keeping.specs.Certified.{IsCertified}
use Rattle.mcs_solver.specs.Kinds.{IsMadeOfContext}
use Rattle.mcs_keeping.specs.Keeping.{AreAnswersKept, HasKept}
use Rattle.mcs_keeping.proofs.KeepingLemmas.{kept_more}
use Rattle.mcs_solver.proofs.solver.LocalSolverOracle.ask.Goals as goal

pub returns-clause-journal : goal.returns-clause-journal
returns-clause-journal c = grind (arith, common_steps)

pub invariant_of-self-2 : goal.invariant_of-self-2
invariant_of-self-2 c =
    let m : System = arc_value c.self.inside.system in
    let i = c.self.inside.context in
    let keep = c.self.inside.keep in
    let x = c.args.active in
    let parts : List ℕ = c.in_ok-parts.parts.items in
    let has = subst (λ (xs : List ℕ). HasKept x xs c.in_ok-parts.cert c.self.inside.kept c.keep_answer.new.kept) c.deref-3.ensures.value c.in_ok-keep_answer.ensures.ok in
    let shown = subst (λ (n : System). IsCertified keep (IsAccepted n i x parts) c.in_ok-parts.cert) c.deref.ensures c.in_ok-parts.ensures.certified in
    let listing = subst (λ (n : System). IsListing (IsAcceptedPart n i x) StateBefore parts) c.deref.ensures c.in_ok-parts.ensures.exact in
    let made = subst (λ (n : System). IsMadeOfContext n i c.parts_with.new.known) (c.deref.ensures ∙ sym c.deref-2.ensures) c.in_ok-parts.ensures.made in
    let journal = c.in_ok-push.ensures.items ∙ ap (λ (xs : List ℕ). xs ++ x ∷ []) c.in_ok-reserve.ensures.items in (
      c.self.invariant.0,
      subst (λ (n : System). IsMadeOfContext n i c.forget_whole.new.known) c.deref-2.ensures (c.forget_whole.ensures made),
      subst (λ (xs : List ℕ). AreAnswersKept m i keep xs c.keep_answer.new.kept) (sym journal) (kept_more m i keep c.self.inside.journal.items x parts c.in_ok-parts.cert c.self.inside.kept c.keep_answer.new.kept has shown listing c.self.invariant.2),
      c.self.invariant.3,
    )
