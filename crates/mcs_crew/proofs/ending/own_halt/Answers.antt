use Rattle.std.proofs.Common.{◌≡◌, ◌∙◌, false, IfNone, Option, subst, sym}
use Rattle.mcs_states.specs.declared.halt.Halt.{Halt}
use Rattle.mcs_crew.proofs.RoundLemmas.{halt_of_own}
use Rattle.mcs_crew.proofs.ending.own_halt.Goals as goal

pub returns-clause-none : goal.returns-clause-none
returns-clause-none g c =
    let d = c.args.node.now in
    let (halt, is) = halt_of_own d c.known.ensures.node (sym c.by_itself.ensures ∙ c.if-not-by_itself.false) in
    subst (λ (o : Option Halt). IfNone o (d.state.by_itself ≡ false)) (sym (c.stopped.ensures ∙ is)) tt
