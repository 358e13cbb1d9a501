use Rattle.std.proofs.Common.{List, sym, subst}
use Rattle.std.specs.Prelude.{Option, is_ok}
use Rattle.mcs_solver.specs.Kinds.{AreMadeOfContext, IsMadeOfContext}
use Rattle.mcs_solver.specs.declared.known.Known.{Known}
use Rattle.mcs_solver.proofs.KindLemmas.{more_made}
use Rattle.mcs_solver.proofs.solver.with_known.Goals as goal

pub returns : goal.returns
returns c m i found known =
    let one = subst (λ (k : Option Known). IsMadeOfContext m i k) c.in-Some.is known in
    subst (λ (xs : List Known). AreMadeOfContext m i xs) (sym c.push.ensures.items) (more_made m i (is_ok c.push.result) c.args.found.items c.in-Some.known found one)
