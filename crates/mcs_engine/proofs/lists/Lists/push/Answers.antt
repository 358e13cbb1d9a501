use Rattle.std.proofs.Common.{◌≡◌, ◌/◌, ◌%◌, ◌<◌, ◌∙◌, ◌++◌, ◌∷◌, [], ℕ, List, Vec, OnErr, Ok, Err, length, ap, sym, refl}
use Rattle.std.specs.declared.alloc.Global.{Global}
use Rattle.std.proofs.lemmas.Result.{on_err_weaker, on_ok_weaker}
use Rattle.mcs_engine.specs.declared.lists.Lists.{Lists}
use Rattle.mcs_engine.specs.Lists.{list_at, row_at}
use Rattle.mcs_engine.proofs.ListsLemmas.{list-is, list-same, list-set_like, list-set_other, list-set_same, row-read}
use Rattle.mcs_engine.proofs.lists.Lists.push.Goals.{After-index_mut}
use Rattle.mcs_engine.proofs.lists.Lists.push.Goals as goal

-- ---- with the block of the place
within : (c : After-index_mut) → c.args.place / 512 < length c.make_rows.new.rows.items
within c = c.in_ok-make_rows.ensures.within

block_is : (c : After-index_mut) → row_at c.make_rows.new.rows.items (c.args.place / 512) ≡ c.index_mut.result.now.items
block_is c = row-read c.make_rows.new.rows.items (c.args.place / 512) c.index_mut.result.now (within c) c.index_mut.ensures.value

pub returns-in_err-make_rows-clause-err : goal.returns-in_err-make_rows-clause-err
returns-in_err-make_rows-clause-err c =
    elim c.from_residual.result as (λ r. OnErr r ((p : ℕ) → list_at (record { blocks = c.make_rows.new.rows }) p ≡ list_at c.args.self.now p)) [
      | Ok none ↦ tt
      | Err error ↦ list-same c.args.self.now _ c.make_rows.ensures.same
    ]

pub returns-clause-ok : goal.returns-clause-ok
returns-clause-ok c =
    let at = (goal.at.returns-clause-ok c).After-index_mut in
    let before : Lists = record { blocks = c.make_rows.new.rows } in
    on_ok_weaker c.add_to.result
    (λ pushed. record {
      here = list-set_same before _ c.args.place c.add_to.new.block (within at) refl ∙ pushed.here ∙ ap (λ (list : List ℕ). list ++ c.args.index ∷ [])
          (ap (λ (rows : List (Vec ℕ Global)). row_at rows (c.args.place % 512)) (sym (block_is at)) ∙ list-is before c.args.place ∙ list-same c.args.self.now before c.make_rows.ensures.same c.args.place);
      others = λ p differ. list-set_other before _ c.args.place c.add_to.new.block (within at) refl
          (λ j apart. pushed.others j apart ∙ ap (λ (rows : List (Vec ℕ Global)). row_at rows j) (sym (block_is at))) p differ
          ∙ list-same c.args.self.now before c.make_rows.ensures.same p;
    })
    c.add_to.ensures.ok

pub returns-clause-err : goal.returns-clause-err
returns-clause-err c =
    let at = (goal.at.returns-clause-err c).After-index_mut in
    let before : Lists = record { blocks = c.make_rows.new.rows } in
    on_err_weaker c.add_to.result
    (λ same p. list-set_like before _ c.args.place c.add_to.new.block (within at) refl (λ j. same j ∙ ap (λ (rows : List (Vec ℕ Global)). row_at rows j) (sym (block_is at))) p
    ∙ list-same c.args.self.now before c.make_rows.ensures.same p)
    c.add_to.ensures.err
