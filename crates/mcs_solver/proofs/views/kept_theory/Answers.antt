use Rattle.std.proofs.lemmas.Result.{IfOk-weaker}
use Rattle.mcs_solver.proofs.views.kept_theory.Goals as goal

pub returns-in_default-clause-made : goal.returns-in_default-clause-made
returns-in_default-clause-made c = IfOk-weaker c.new.result _ _ (λ base found. λ heads beliefs made assumptions same. found assumptions) c.new.ensures
