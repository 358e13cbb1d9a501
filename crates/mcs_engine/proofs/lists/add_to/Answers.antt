use Rattle.std.proofs.Common.{◌≡◌, ◌<◌, ◌∙◌, ◌++◌, ◌∷◌, [], ℕ, List, length, ap, sym}
use Rattle.std.proofs.lemmas.Result.{on_err_weaker, on_ok_weaker}
use Rattle.mcs_engine.specs.Lists.{row_at}
use Rattle.mcs_engine.proofs.ListsLemmas.{row-read, row-set_like, row-set_other, row-set_same}
use Rattle.mcs_engine.proofs.lists.add_to.Goals.{After-index_mut}
use Rattle.mcs_engine.proofs.lists.add_to.Goals as goal

within : (c : After-index_mut) → c.args.at < length c.make_rows.new.rows.items
within c = c.in_ok-make_rows.ensures.within

row_is : (c : After-index_mut) → row_at c.make_rows.new.rows.items c.args.at ≡ c.index_mut.result.now.items
row_is c = row-read c.make_rows.new.rows.items c.args.at c.index_mut.result.now (within c) c.index_mut.ensures.value

pub returns-clause-ok : goal.returns-clause-ok
returns-clause-ok c =
    let at = (goal.at.returns-clause-ok c).After-index_mut in
    on_ok_weaker c.add_index.result
    (λ pushed. record {
      here = row-set_same c.make_rows.new.rows.items c.args.at c.add_index.new.indices (within at) ∙ pushed ∙ ap (λ (row : List ℕ). row ++ c.args.index ∷ []) (sym (row_is at) ∙ c.make_rows.ensures.same c.args.at);
      others = λ p differ. row-set_other c.make_rows.new.rows.items c.args.at p c.add_index.new.indices differ ∙ c.make_rows.ensures.same p;
    })
    c.add_index.ensures.ok

pub returns-clause-err : goal.returns-clause-err
returns-clause-err c =
    let at = (goal.at.returns-clause-err c).After-index_mut in
    on_err_weaker c.add_index.result
    (λ same p. row-set_like c.make_rows.new.rows.items c.args.at p c.add_index.new.indices (within at) (same ∙ sym (row_is at)) ∙ c.make_rows.ensures.same p)
    c.add_index.ensures.err
