use Rattle.std.proofs.lemmas.List.{map_more}
use Rattle.std.proofs.Common.{arith, ℕ, [], ◌∷◌, ◌++◌, map, take, sym, ap, ◌∙◌}
use Rattle.mcs_sets.specs.Sets.{common}
use Rattle.mcs_sets.specs.Orders.{StateBefore}
use Rattle.mcs_base.proofs.Numbered.{listed_map}
use Rattle.mcs_import.proofs.states.restricted.Goals as goal

pub returns : goal.returns
returns c = listed_map (λ s. common s c.args.mask) c.args.states.now c.loop-state.parts.items c.list_states.new.states.items c.loop-state.state-index StateBefore c.loop-state.invariant (omega arith) c.list_states.ensures

pub loop-state-preserved : goal.loop-state-preserved
loop-state-preserved c =
    let states = c.args.states.now in
    let i = c.loop-state.state-index in
    let one = λ (s : ℕ). common s c.args.mask in
    c.in_ok-push.ensures.items ∙ ap (λ xs. xs ++ c.common.result ∷ []) c.loop-state.invariant
    ∙ ap (λ x. map one (take i states) ++ x ∷ []) (c.common.ensures ∙ ap one c.state-item.is) ∙ sym (map_more one states i c.state-item.result c.loop-state-test.true)
