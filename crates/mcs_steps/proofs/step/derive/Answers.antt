use Rattle.std.proofs.Common.{◌≡◌, ◌++◌, ℤ, List, ap, ◌∙◌}
use Rattle.mcs_steps.proofs.ChainLemmas.{first_missing, first_told}
use Rattle.mcs_steps.proofs.step.derive.Goals as goal

pub returns-in_default-numbered : goal.returns-in_default-numbered
returns-in_default-numbered c =
    first_missing (c.args.clauses.now ++ c.args.derived.now) c.args.chain.now c.in-Some.number c.in-Some.rest.now c.in-Some.ensures.read c.args.current.now.items c.in_default-numbered.ensures.value

pub returns : goal.returns
returns c =
    let first : List ℤ = c.in-Some-numbered.first.now in
    let copied : c.extend_from_slice.new.self.items ≡ first = c.in_ok-extend_from_slice.ensures.items ∙ ap (λ xs. xs ++ first) c.clear.ensures.items in
    first_told (c.args.clauses.now ++ c.args.derived.now) c.args.chain.now c.in-Some.number c.in-Some.rest.now c.in-Some.ensures.read first c.extend_from_slice.new.self.items c.in-Some-numbered.ensures.value copied
    c.resolve_all.result c.resolve_all.new.current.items c.resolve_all.ensures
