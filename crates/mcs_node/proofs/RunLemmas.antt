-- Runs of events, with one event more at the end.
use Rattle.std.proofs.Common.{◌≡◌, List, [], ◌∷◌, ◌++◌, refl, subst}
use Rattle.mcs_node.specs.declared.event.Event.{Event}
use Rattle.mcs_node.specs.Rounds.{Round}
use Rattle.mcs_node.specs.Configurations.{Configuration}
use Rattle.mcs_node.specs.Steps.{Outcome, Step, Runs}

pub runs_more : (r : Round) (es : List Event) (os : List Outcome) (c d next : Configuration) (e : Event) (o : Outcome) → Runs r c es os d → Step r d e o next → Runs r c (es ++ e ∷ []) (os ++ o ∷ []) next
runs_more r [] [] c d next e o run step = (next, subst (λ (b : Configuration). Step r b e o next) run step, refl)
runs_more r [] (p ∷ os) c d next e o run step = absurd run
runs_more r (f ∷ es) [] c d next e o run step = absurd run
runs_more r (f ∷ es) (p ∷ os) c d next e o (between, first, rest) step = (between, first, runs_more r es os between d next e o rest step)
