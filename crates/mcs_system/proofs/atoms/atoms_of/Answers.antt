use Rattle.std.proofs.Common.{map, refl, sym, ap, ◌∙◌, arith}
use Rattle.std.proofs.lemmas.List.{map-id}
use Rattle.mcs_system.specs.Seen.{read_of}
use Rattle.mcs_system.proofs.AtomLemmas.{atoms_of-found, found_few, own_many_places}
use Rattle.mcs_system.proofs.GatherLemmas.{gathers_then, gathers_cut, due_from_found, all_from_found, stops_with}
use Rattle.mcs_system.proofs.atoms.atoms_of.Goals as goal

pub index-requires : goal.index-requires
index-requires c = omega (arith, own_many_places c.args.contexts.now c.requires.own c.args.context c.requires.in_range, c.args.contexts.now.atoms.ok)

pub returns-in_err-add_heads-clause-many : goal.returns-in_err-add_heads-clause-many
returns-in_err-add_heads-clause-many c =
    let found = sym (map-id _) ∙ c.in_ok-found.ensures ∙ map-id _ ∙ c.deref.ensures.value ∙ ap (λ v. v.items) c.index.ensures in
    let all = atoms_of-found c.args.contexts.now c.requires.own c.args.context c.requires.in_range c.args.bridges.now (map read_of c.args.known.now) _ _ found c.requires.variables in
    due_from_found _ _ _ _ _ _ _ all (gathers_cut _ _ _ _ _ _ _ _ _ refl c.from_residual-in_err-add_heads.ensures.1 c.in_err-add_heads.ensures)

pub returns-in_err-add_beliefs-clause-many : goal.returns-in_err-add_beliefs-clause-many
returns-in_err-add_beliefs-clause-many c =
    let found = sym (map-id _) ∙ c.in_ok-found.ensures ∙ map-id _ ∙ c.deref.ensures.value ∙ ap (λ v. v.items) c.index.ensures in
    let all = atoms_of-found c.args.contexts.now c.requires.own c.args.context c.requires.in_range c.args.bridges.now (map read_of c.args.known.now) _ _ found c.requires.variables in
    due_from_found _ _ _ _ _ _ _ all (gathers_then _ _ _ _ _ _ _ _ _ _ refl c.in_ok-add_heads.ensures (stops_with _ _ _ _ _ _ _ c.from_residual-in_err-add_beliefs.ensures.1 c.in_err-add_beliefs.ensures))

pub returns-clause-atoms : goal.returns-clause-atoms
returns-clause-atoms c =
    let found = sym (map-id _) ∙ c.in_ok-found.ensures ∙ map-id _ ∙ c.deref.ensures.value ∙ ap (λ v. v.items) c.index.ensures in
    let all = atoms_of-found c.args.contexts.now c.requires.own c.args.context c.requires.in_range c.args.bridges.now (map read_of c.args.known.now) _ _ found c.requires.variables in
    all_from_found _ _ _ _ _ _ _ all (gathers_then _ _ _ _ _ _ _ _ _ _ refl c.in_ok-add_heads.ensures c.in_ok-add_beliefs.ensures)

pub returns-clause-few : goal.returns-clause-few
returns-clause-few c =
    let found = sym (map-id _) ∙ c.in_ok-found.ensures ∙ map-id _ ∙ c.deref.ensures.value ∙ ap (λ v. v.items) c.index.ensures in
    c.in_ok-add_beliefs.ensures.within (c.in_ok-add_heads.ensures.within (found_few c.args.contexts.now c.requires.own c.args.context c.requires.in_range _ _ found))
