use Rattle.std.proofs.Common.{◌≡◌, ◌∙◌, ℕ, List, Some, slice_get, length, refl, sym, ap, subst, arith}
use Rattle.std.proofs.lemmas.List.{length-map}
use Rattle.std.proofs.lemmas.Option.{same_Some, slice_get_within}
use Rattle.mcs_base.proofs.Mapped.{slice_get-map_read}
use Rattle.mcs_base.proofs.Written.{length-slice_set}
use Rattle.mcs_system.specs.Plain.{Name, Bridge}
use Rattle.mcs_system.specs.Atoms.{atoms_of}
use Rattle.mcs_system.specs.Faults.{has_twins}
use Rattle.mcs_system.specs.Seen.{bridge_of}
use Rattle.mcs_system.proofs.ValidLemmas.{target_in_range}
use Rattle.mcs_cnf.specs.ClauseLists.{IsOver}
use Rattle.mcs_cnf.proofs.OverLemmas.{context_atoms}
use Rattle.mcs_grounded.specs.Parts.{IsPlaced}
use Rattle.mcs_grounded.proofs.Gathering.{head_over}
use Rattle.mcs_grounded.proofs.Loops.{put_each}
use Rattle.mcs_grounded.proofs.places.heads_placed.Goals as goal

pub loop-number-init : goal.loop-number-init
loop-number-init c = record { long = refl; before = λ k b less. absurd (omega (arith, less)) }

pub atoms_of-requires : goal.atoms_of-requires
atoms_of-requires c =
    let m = c.args.system.now in
    let there : slice_get m.bridges c.loop-number.number ≡ Some (bridge_of c.rule-item.result) = ap (λ (xs : List Bridge). slice_get xs c.loop-number.number) (sym c.bridges-rule-items.ensures.value) ∙ slice_get-map_read bridge_of c.bridges-rule-items.result.now c.loop-number.number c.rule-item.result c.loop-number-test.true c.rule-item.is in
    target_in_range m c.bridges-rule-items.ensures.valid c.loop-number.number (bridge_of c.rule-item.result) there

pub place-requires-clause-names : goal.place-requires-clause-names
place-requires-clause-names c = record { few = c.atoms_of.ensures.few; different = ap has_twins c.atoms_of.ensures.value ∙ (context_atoms c.args.system.now c.rule-item.result.target).0 }

pub place-requires-clause-over : goal.place-requires-clause-over
place-requires-clause-over c =
    let m = c.args.system.now in
    let there : slice_get m.bridges c.loop-number.number ≡ Some (bridge_of c.rule-item.result) = ap (λ (xs : List Bridge). slice_get xs c.loop-number.number) (sym c.bridges-rule-items.ensures.value) ∙ slice_get-map_read bridge_of c.bridges-rule-items.result.now c.loop-number.number c.rule-item.result c.loop-number-test.true c.rule-item.is in
    subst (λ (ns : List Name). IsOver ns (bridge_of c.rule-item.result).head) (sym c.atoms_of.ensures.value) (head_over m c.rule-item.result.target c.loop-number.number (bridge_of c.rule-item.result) there refl)

pub loop-number-preserved : goal.loop-number-preserved
loop-number-preserved c =
    let m = c.args.system.now in
    let n = c.loop-number.number in
    let there : slice_get m.bridges n ≡ Some (bridge_of c.rule-item.result) = ap (λ (xs : List Bridge). slice_get xs n) (sym c.bridges-rule-items.ensures.value) ∙ slice_get-map_read bridge_of c.bridges-rule-items.result.now n c.rule-item.result c.loop-number-test.true c.rule-item.is in
    let here = subst (λ (ns : List Name). IsPlaced ns (bridge_of c.rule-item.result).head c.place.result) c.atoms_of.ensures.value c.place.ensures in
    record {
      long = length-slice_set c.loop-number.heads n c.place.result ∙ c.loop-number.invariant.long;
      before = λ k b less is. put_each (λ (k x : ℕ). (b : Bridge) → slice_get m.bridges k ≡ Some b → IsPlaced (atoms_of m b.target) b.head x) c.loop-number.heads n c.place.result
          (omega (arith, c.loop-number-test.true, c.bridges-rule-items.ensures.few, c.loop-number.invariant.long))
          (λ k less b is. c.loop-number.invariant.before k b less is)
          (λ b is. subst (λ (d : Bridge). IsPlaced (atoms_of m d.target) d.head c.place.result) (same_Some (bridge_of c.rule-item.result) b (sym there ∙ is)) here) k less b is;
    }

pub returns-clause-placed : goal.returns-clause-placed
returns-clause-placed c k b is =
    let m = c.args.system.now in
    let long : length m.bridges ≡ length c.bridges-rule-items.result.now = sym (ap length c.bridges-rule-items.ensures.value) ∙ length-map c.bridges-rule-items.result.now bridge_of in
    c.loop-number.invariant.before k b (omega (arith, slice_get_within m.bridges k b is, long, c.loop-number-test.false)) is
