use Rattle.std.proofs.Common.{◌≡◌, ◌∙◌, ◌+◌, ◌++◌, [], ◌∷◌, ℕ, List, take, sym, ap}
use Rattle.std.proofs.lemmas.List.{take_more, take_all}
use Rattle.mcs_transversal.proofs.BergeLemmas.{berge, none_before}
use Rattle.mcs_transversal.proofs.berge.minimal_transversals.Goals as goal

pub loop-index-init : goal.loop-index-init
loop-index-init c = rw (c.in_ok-push.ensures.items, c.new-current.ensures.items, c.empty.ensures) none_before

pub extend_each-requires : goal.extend_each-requires
extend_each-requires c =
    let edges : List ℕ = c.args.edges.now in
    let e : ℕ = c.index-edges-index.result in (
      take c.loop-index.index edges,
      take_more edges c.loop-index.index e c.loop-index-test.true ∙ ap (λ (x : ℕ). take c.loop-index.index edges ++ x ∷ []) (sym c.index-edges-index.is),
      rw c.deref.ensures.value c.loop-index.invariant,
    )

pub loop-index-preserved : goal.loop-index-preserved
loop-index-preserved c =
    let edges : List ℕ = c.args.edges.now in
    let e : ℕ = c.index-edges-index.result in
    let front : take (c.loop-index.index + 1) edges ≡ take c.loop-index.index edges ++ e ∷ [] = take_more edges c.loop-index.index e c.loop-index-test.true ∙ ap (λ (x : ℕ). take c.loop-index.index edges ++ x ∷ []) (sym c.index-edges-index.is) in
    let comes = rw (front, c.deref.ensures.value) at c.in_ok-extend_each.ensures in
    rw (c.swap.ensures.x_after, front) (berge (take c.loop-index.index edges) e c.loop-index.current.items c.extend_each.new.out.items c.loop-index.invariant comes)

pub returns : goal.returns
returns c =
    let all = rw (take_all c.loop-index.index c.args.edges.now c.loop-index-test.false) at c.loop-index.invariant in
    record {
      exactly = λ x. (λ among. (all x).0 ((c.list_pairs.ensures.exactly x).0 among), λ minimal. (c.list_pairs.ensures.exactly x).1 ((all x).1 minimal));
      ascending = c.list_pairs.ensures.ascending;
    }
