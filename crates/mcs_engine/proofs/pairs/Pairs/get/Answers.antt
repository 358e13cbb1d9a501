use Rattle.std.proofs.Common.{◌-◌, List, ◌∙◌, ap, sym, refl, arith, length, slice_get}
use Rattle.std.proofs.lemmas.Option.{slice_get_read}
use Rattle.mcs_engine.specs.declared.watches.Pair.{Pair}
use Rattle.mcs_engine.proofs.PairsLemmas.{none-at, rest-at, size-pairs}
use Rattle.mcs_engine.proofs.pairs.Pairs.get.Goals as goal

pub index-requires : goal.index-requires
index-requires c = omega (arith, size-pairs c.self.inside.none c.self.inside.rest.items, ap length c.self.view_is)

pub returns-then-index-self : goal.returns-then-index-self
returns-then-index-self c = ap (λ (ps : List Pair). slice_get ps c.args.index) (sym c.self.view_is) ∙ none-at c.self.inside.none c.self.inside.rest.items c.args.index c.if-index-self.true

pub returns-else-index-self : goal.returns-else-index-self
returns-else-index-self c =
    let past = c.if-index-self.false in
    ap (λ (ps : List Pair). slice_get ps c.args.index) (sym c.self.view_is)
    ∙ rest-at c.self.inside.none c.self.inside.rest.items c.args.index (omega arith)
    ∙ slice_get_read c.self.inside.rest.items (length c.self.inside.rest.items) (c.args.index - c.self.inside.none) c.index.result.now refl (omega (arith, size-pairs c.self.inside.none c.self.inside.rest.items, ap length c.self.view_is)) c.index.ensures
