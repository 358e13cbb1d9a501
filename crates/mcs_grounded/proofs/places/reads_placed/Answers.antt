use Rattle.std.proofs.Common.{◌≡◌, ◌∙◌, ℕ, List, Some, slice_get, length, refl, sym, ap, subst, arith}
use Rattle.std.proofs.lemmas.List.{length-map}
use Rattle.std.proofs.lemmas.Option.{same_Some, slice_get_within}
use Rattle.mcs_base.proofs.Mapped.{slice_get-map_read}
use Rattle.mcs_base.proofs.Written.{length-slice_set}
use Rattle.mcs_system.specs.Plain.{Name, Read}
use Rattle.mcs_system.specs.Atoms.{atoms_of}
use Rattle.mcs_system.specs.Faults.{has_twins}
use Rattle.mcs_system.specs.Seen.{read_of}
use Rattle.mcs_system.specs.Systems.{variables}
use Rattle.mcs_system.proofs.VariableLemmas.{variable_in_range}
use Rattle.mcs_cnf.specs.ClauseLists.{IsOver}
use Rattle.mcs_cnf.proofs.OverLemmas.{context_atoms}
use Rattle.mcs_grounded.specs.Parts.{IsPlaced}
use Rattle.mcs_grounded.proofs.Gathering.{belief_over}
use Rattle.mcs_grounded.proofs.Loops.{put_each}
use Rattle.mcs_grounded.proofs.places.reads_placed.Goals as goal

pub loop-number-init : goal.loop-number-init
loop-number-init c = record { long = refl; before = λ k b less. absurd (omega (arith, less)) }

pub atoms_of-requires : goal.atoms_of-requires
atoms_of-requires c =
    let m = c.args.system.now in
    let there : slice_get (variables m) c.loop-number.number ≡ Some (read_of c.read-item.result) = ap (λ (xs : List Read). slice_get xs c.loop-number.number) (sym c.variables-read-items.ensures.value) ∙ slice_get-map_read read_of c.variables-read-items.result.now c.loop-number.number c.read-item.result c.loop-number-test.true c.read-item.is in
    variable_in_range m c.loop-number.number (read_of c.read-item.result) there

pub place-requires-clause-names : goal.place-requires-clause-names
place-requires-clause-names c = record { few = c.atoms_of.ensures.few; different = ap has_twins c.atoms_of.ensures.value ∙ (context_atoms c.args.system.now c.read-item.result.context).0 }

pub place-requires-clause-over : goal.place-requires-clause-over
place-requires-clause-over c =
    let m = c.args.system.now in
    let there : slice_get (variables m) c.loop-number.number ≡ Some (read_of c.read-item.result) = ap (λ (xs : List Read). slice_get xs c.loop-number.number) (sym c.variables-read-items.ensures.value) ∙ slice_get-map_read read_of c.variables-read-items.result.now c.loop-number.number c.read-item.result c.loop-number-test.true c.read-item.is in
    subst (λ (ns : List Name). IsOver ns (read_of c.read-item.result).belief) (sym c.atoms_of.ensures.value) (belief_over m c.read-item.result.context c.loop-number.number (read_of c.read-item.result) there refl)

pub loop-number-preserved : goal.loop-number-preserved
loop-number-preserved c =
    let m = c.args.system.now in
    let n = c.loop-number.number in
    let there : slice_get (variables m) n ≡ Some (read_of c.read-item.result) = ap (λ (xs : List Read). slice_get xs n) (sym c.variables-read-items.ensures.value) ∙ slice_get-map_read read_of c.variables-read-items.result.now n c.read-item.result c.loop-number-test.true c.read-item.is in
    let here = subst (λ (ns : List Name). IsPlaced ns (read_of c.read-item.result).belief c.place.result) c.atoms_of.ensures.value c.place.ensures in
    record {
      long = length-slice_set c.loop-number.reads n c.place.result ∙ c.loop-number.invariant.long;
      before = λ k b less is. put_each (λ (k x : ℕ). (b : Read) → slice_get (variables m) k ≡ Some b → IsPlaced (atoms_of m b.context) b.belief x) c.loop-number.reads n c.place.result
          (omega (arith, c.loop-number-test.true, c.variables-read-items.ensures.few, c.loop-number.invariant.long))
          (λ k less b is. c.loop-number.invariant.before k b less is)
          (λ b is. subst (λ (d : Read). IsPlaced (atoms_of m d.context) d.belief c.place.result) (same_Some (read_of c.read-item.result) b (sym there ∙ is)) here) k less b is;
    }

pub returns : goal.returns
returns c v r is =
    let m = c.args.system.now in
    let long : length (variables m) ≡ length c.variables-read-items.result.now = sym (ap length c.variables-read-items.ensures.value) ∙ length-map c.variables-read-items.result.now read_of in
    c.loop-number.invariant.before v r (omega (arith, slice_get_within (variables m) v r is, long, c.loop-number-test.false)) is
