use Rattle.std.proofs.Common.{List, ◌∙◌, ap, sym, subst, ◌≢◌, arith, length, set, slice_get, Some}
use Rattle.std.proofs.lemmas.List.{set-append_right}
use Rattle.mcs_engine.specs.declared.watches.Pair.{Pair}
use Rattle.mcs_engine.specs.Pairs.{no_pair, no_pairs}
use Rattle.mcs_engine.proofs.PairsLemmas.{length-no_pairs, size-pairs, some-past}
use Rattle.mcs_engine.proofs.pairs.Pairs.set.Goals as goal

pub overflow_sub-at : goal.overflow_sub-at
overflow_sub-at c = some-past c.self.inside.none c.self.inside.rest.items c.args.index (subst (λ (ps : List Pair). slice_get ps c.args.index ≢ Some no_pair) (sym c.self.view_is) c.requires.some)

pub index_mut-requires : goal.index_mut-requires
index_mut-requires c =
    let low = some-past c.self.inside.none c.self.inside.rest.items c.args.index (subst (λ (ps : List Pair). slice_get ps c.args.index ≢ Some no_pair) (sym c.self.view_is) c.requires.some) in
    let within = c.requires.within in
    omega (arith, size-pairs c.self.inside.none c.self.inside.rest.items, ap length c.self.view_is)

pub returns : goal.returns
returns c =
    sym (set-append_right (no_pairs c.self.inside.none) c.self.inside.rest.items c.self.inside.none c.args.index c.args.pair (length-no_pairs c.self.inside.none)
    (some-past c.self.inside.none c.self.inside.rest.items c.args.index (subst (λ (ps : List Pair). slice_get ps c.args.index ≢ Some no_pair) (sym c.self.view_is) c.requires.some)))
    ∙ ap (λ (ps : List Pair). set ps c.args.index c.args.pair) c.self.view_is
