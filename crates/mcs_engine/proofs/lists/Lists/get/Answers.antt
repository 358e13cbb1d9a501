use Rattle.std.proofs.Common.{◌≡◌, ◌%◌, sym, ◌∙◌}
use Rattle.mcs_base.proofs.Lists.{slice_get_past_as, slice_get_read_as}
use Rattle.mcs_engine.specs.Lists.{list_at, row_at}
use Rattle.mcs_engine.proofs.ListsLemmas.{list-past, list-some, row-none, row-some}
use Rattle.mcs_engine.proofs.lists.Lists.get.Goals.{In-Some}
use Rattle.mcs_engine.proofs.lists.Lists.get.Goals as goal

pub returns-in_default : goal.returns-in_default
returns-in_default c = sym (list-past c.args.self.now c.args.place c.deref.result.now c.deref.ensures.value c.in_default.ensures.lookup.3)

in_block : (c : In-Some) → list_at c.args.self.now c.args.place ≡ row_at c.in-Some.block.now.items (c.args.place % 512)
in_block c = list-some c.args.self.now c.args.place c.deref.result.now c.in-Some.block.now c.deref.ensures.value c.in-Some.ensures.lookup.3.0 c.in-Some.ensures.lookup.1

pub returns-in-Some-get : goal.returns-in-Some-get
returns-in-Some-get c =
    let at = (goal.at.returns-in-Some-get c).In-Some in
    let list = slice_get_read_as c.in-Some.block.now.items c.deref-2.result.now (c.args.place % 512) c.in-Some-get.list.now c.deref-2.ensures.value c.in-Some-get.ensures.lookup.3.0 c.in-Some-get.ensures.lookup.1 in
    c.deref-in-Some-get.ensures.value ∙ sym (in_block at ∙ row-some c.in-Some.block.now.items (c.args.place % 512) c.in-Some-get.list.now list)

pub returns-in-None : goal.returns-in-None
returns-in-None c =
    let at = (goal.at.returns-in-None c).In-Some in
    let none = slice_get_past_as c.in-Some.block.now.items c.deref-2.result.now (c.args.place % 512) c.deref-2.ensures.value c.in-None.ensures.lookup.3 in
    sym (in_block at ∙ row-none c.in-Some.block.now.items (c.args.place % 512) none)
