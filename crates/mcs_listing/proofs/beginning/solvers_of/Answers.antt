use Rattle.std.proofs.Common.{◌++◌, [], ◌∷◌, map, sym, ap, ◌∙◌, arith}
use Rattle.std.proofs.lemmas.List.FromFn.{map-range_with_len_more}
use Rattle.std.specs.Arc.{arc_value}
use Rattle.std.specs.List.{range_with_len}
use Rattle.mcs_solver.specs.Solvers.{solver_with}
use Rattle.mcs_listing.proofs.beginning.solvers_of.Goals as goal

pub loop-context-preserved : goal.loop-context-preserved
loop-context-preserved c =
    c.in_ok-push.ensures.items ∙ ap (λ ss. ss ++ c.new.result ∷ []) c.loop-context.invariant
    ∙ ap (λ s. map (λ i. solver_with c.args.keep (arc_value c.args.system.now) i []) (range_with_len 0 c.loop-context.context) ++ s ∷ [])
    (c.new.ensures ∙ ap (λ m. solver_with c.args.keep m c.loop-context.context []) c.in_ok-clone.ensures.cases)
    ∙ sym (map-range_with_len_more (λ i. solver_with c.args.keep (arc_value c.args.system.now) i []) 0 c.loop-context.context c.loop-context.context (omega arith))
