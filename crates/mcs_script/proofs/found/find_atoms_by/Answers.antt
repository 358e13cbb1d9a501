use Rattle.std.proofs.Common.{map, refl}
use Rattle.std.proofs.lemmas.Grind.{flat_map-append}
use Rattle.std.proofs.lemmas.Result.{on_ok_weaker}
use Rattle.mcs_system.specs.Gathered.{belief_atoms}
use Rattle.mcs_system.specs.Seen.{read_of}
use Rattle.mcs_script.proofs.FoundLemmas.{finds_then}
use Rattle.mcs_script.proofs.found.find_atoms_by.Goals as goal

pub returns : goal.returns
returns c =
    let parts = flat_map-append (belief_atoms c.args.context) (map read_of c.args.rule.now.pos.items) (map read_of c.args.rule.now.neg.items) in
    on_ok_weaker c.find_beliefs-2.result (λ more. finds_then _ _ _ _ _ _ refl c.in_ok-find_head.ensures (finds_then _ _ _ _ _ _ parts (rw c.deref.ensures.value at c.in_ok-find_beliefs.ensures) more)) (rw c.deref-2.ensures.value at c.find_beliefs-2.ensures)
