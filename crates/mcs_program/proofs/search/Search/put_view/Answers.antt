use Rattle.std.proofs.Common.{refl}
use Rattle.std.proofs.lemmas.Result.{IfOk-weaker}
use Rattle.mcs_program.proofs.search.Search.put_view.Goals as goal

pub returns : goal.returns
returns c = IfOk-weaker c.put_view.result _ _ (λ place e. record {
  viewed = e;
  smaller = refl;
  models = refl;
}) c.put_view.ensures
