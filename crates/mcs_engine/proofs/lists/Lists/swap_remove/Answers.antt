use Rattle.std.proofs.Common.{◌≡◌, ◌/◌, ◌%◌, ◌<◌, ◌∙◌, ℕ, List, Vec, slice_get, swap_remove, length, ap, sym, subst, refl, arith}
use Rattle.std.specs.declared.alloc.Global.{Global}
use Rattle.std.proofs.lemmas.Option.{slice_get_read}
use Rattle.mcs_engine.specs.Lists.{row_at}
use Rattle.mcs_engine.proofs.ListsLemmas.{list-read, list-set_other, list-set_same, list-within, row-read, row-set_other, row-set_same}
use Rattle.mcs_engine.proofs.lists.Lists.swap_remove.Goals.{After-index_mut}
use Rattle.mcs_engine.proofs.lists.Lists.swap_remove.Goals as goal

pub index_mut-requires : goal.index_mut-requires
index_mut-requires c = let ok = c.args.self.now.blocks.ok.0 in let within = (list-within c.args.self.now c.args.place c.args.at c.requires).0 in omega arith

-- ---- the block of the place
block_within : (c : After-index_mut) → c.args.place / 512 < length c.args.self.now.blocks.items
block_within c = (list-within c.args.self.now c.args.place c.args.at c.requires).0

block_at : (c : After-index_mut) → row_at c.args.self.now.blocks.items (c.args.place / 512) ≡ c.index_mut.result.now.items
block_at c = row-read c.args.self.now.blocks.items (c.args.place / 512) c.index_mut.result.now (block_within c) c.index_mut.ensures.value

list_within : (c : After-index_mut) → c.args.place % 512 < length c.index_mut.result.now.items
list_within c = subst (λ (rows : List (Vec ℕ Global)). c.args.place % 512 < length rows) (block_at c) (list-within c.args.self.now c.args.place c.args.at c.requires).1

pub index_mut-requires-2 : goal.index_mut-requires-2
index_mut-requires-2 c = let ok = c.index_mut.result.now.ok.0 in let within = list_within (goal.at.index_mut-requires-2 c).After-index_mut in omega arith

-- ---- its list
pub swap_remove-requires : goal.swap_remove-requires
swap_remove-requires c =
    let at = (goal.at.swap_remove-requires c).After-index_mut in
    let list : Vec ℕ Global = c.index_mut-2.result.now in
    let is = list-read c.args.self.now c.args.place c.index_mut.result.now list (block_at at) (list_within at) c.index_mut-2.ensures.value in
    let less : c.args.at < length list.items = subst (λ (xs : List ℕ). c.args.at < length xs) is c.requires in
    let ok = list.ok.0 in
    omega arith

pub returns-clause-value : goal.returns-clause-value
returns-clause-value c =
    let at = (goal.at.returns-clause-value c).After-index_mut in
    let list : Vec ℕ Global = c.index_mut-2.result.now in
    let is = list-read c.args.self.now c.args.place c.index_mut.result.now list (block_at at) (list_within at) c.index_mut-2.ensures.value in
    let less : c.args.at < length list.items = subst (λ (xs : List ℕ). c.args.at < length xs) is c.requires in
    ap (λ (xs : List ℕ). slice_get xs c.args.at) is ∙ slice_get_read list.items (length list.items) c.args.at c.swap_remove.result refl less c.swap_remove.ensures.value

pub returns-clause-list : goal.returns-clause-list
returns-clause-list c =
    let at = (goal.at.returns-clause-list c).After-index_mut in
    let is = list-read c.args.self.now c.args.place c.index_mut.result.now c.index_mut-2.result.now (block_at at) (list_within at) c.index_mut-2.ensures.value in
    record {
      here = list-set_same c.args.self.now _ c.args.place _ (block_within at) refl
          ∙ row-set_same c.index_mut.result.now.items (c.args.place % 512) c.swap_remove.new.self (list_within at)
          ∙ c.swap_remove.ensures.items
          ∙ ap (λ (xs : List ℕ). swap_remove xs c.args.at c.swap_remove.result) (sym is);
      others = λ p differ. list-set_other c.args.self.now _ c.args.place _ (block_within at) refl
          (λ j apart. row-set_other c.index_mut.result.now.items (c.args.place % 512) j c.swap_remove.new.self apart ∙ ap (λ (rows : List (Vec ℕ Global)). row_at rows j) (sym (block_at at))) p differ;
    }
