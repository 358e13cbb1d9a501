use Rattle.std.proofs.Common.{◌≡◌, ℕ, true, List, map, sym, subst}
use Rattle.mcs_system.specs.Plain.{Name, Atom}
use Rattle.mcs_system.specs.Seen.{rule_of}
use Rattle.mcs_system.specs.Logic.{holds_all}
use Rattle.mcs_evidence.specs.Programs.{rest_formulas}
use Rattle.mcs_program.proofs.outputs.certified.Goals as goal

pub parts-requires : goal.parts-requires
parts-requires c =
    let names = c.args.program.now.atoms.now in
    let rules = map rule_of c.args.program.now.rules.now in
    let beliefs = map Atom (map (λ b. b.now) c.args.program.now.beliefs.now) in
    subst (λ (xs : List ℕ). (a : List Name) → ¬ (holds_all a (rest_formulas names rules beliefs xs c.deref-2.result.now) ≡ true)) (sym c.deref.ensures.value)
    (subst (λ (xs : List ℕ). (a : List Name) → ¬ (holds_all a (rest_formulas names rules beliefs c.args.search.smaller.items xs) ≡ true)) (sym c.deref-2.ensures.value) c.requires.all)
