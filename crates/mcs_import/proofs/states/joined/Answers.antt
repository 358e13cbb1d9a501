use Rattle.std.proofs.Common.{ℕ, [], ◌++◌, ◌∷◌, map, take, sym, ap, ◌∙◌}
use Rattle.std.proofs.lemmas.List.{flat_map_more, take_all, take_more}
use Rattle.std.specs.List.{flat_map}
use Rattle.mcs_sets.specs.Sets.{union}
use Rattle.mcs_import.proofs.states.joined.Goals as goal

pub loop-state-preserved : goal.loop-state-preserved
loop-state-preserved c =
    let others = c.args.others.now in
    let states = c.args.states.now in
    let i = c.loop-state.state-index in
    let s = c.state-item.result in
    let each = λ (s : ℕ). map (union s) others in
    c.in_ok-add_unions.ensures ∙ ap (λ xs. xs ++ each s) c.loop-state.invariant
    ∙ flat_map_more each [] (take i states) s
    ∙ ap (flat_map each) (ap (λ x. take i states ++ x ∷ []) c.state-item.is ∙ sym (take_more states i s c.loop-state-test.true))

pub returns : goal.returns
returns c = c.loop-state.invariant ∙ ap (flat_map (λ s. map (union s) c.args.others.now)) (take_all c.loop-state.state-index c.args.states.now c.loop-state-test.false)
