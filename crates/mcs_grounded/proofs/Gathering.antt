-- The heads of rules into a context with a program, and the beliefs of its variables.
use Rattle.std.proofs.Common.{◌≡◌, ℕ, ◌+◌, true, false, List, [], ◌∷◌, get_or, Some, slice_get, inl, inr, arith, refl, sym, ap, ◌∙◌, subst, true≢false, IsTrue}
use Rattle.std.proofs.lemmas.Bool.{and_from, eq-eqb}
use Rattle.mcs_sets.specs.Sets.{has, single, common, members}
use Rattle.mcs_sets.proofs.SetLemmas.{has-empty, has-common}
use Rattle.mcs_sets.proofs.Lattice.{has-single_itself, in_common}
use Rattle.mcs_base.specs.Listings.{IsAmong}
use Rattle.mcs_base.proofs.Among.{among_map}
use Rattle.mcs_base.proofs.Each.{all_among}
use Rattle.mcs_base.proofs.ListingLemmas.{members_listing}
use Rattle.mcs_system.specs.Plain.{Name, Formula, Truth, Atom, Kb, Read, Bridge, System}
use Rattle.mcs_system.specs.Atoms.{atoms_of}
use Rattle.mcs_system.specs.Faults.{IsValid, has_twins, is_atom}
use Rattle.mcs_system.specs.Imports.{rules_into}
use Rattle.mcs_system.specs.Logic.{is_in}
use Rattle.mcs_system.specs.Systems.{variables_of, heads_into, IsVariable}
use Rattle.mcs_system.specs.Views.{belief_of, belief_at, beliefs_at}
use Rattle.mcs_system.proofs.ContextSets.{rule_there}
use Rattle.mcs_system.proofs.VariableLemmas.{has-rules_into, has-variables_of}
use Rattle.mcs_cnf.specs.ClauseLists.{IsOver}
use Rattle.mcs_asking.specs.Kinds.{AreOfKind}
use Rattle.mcs_asking.proofs.CoverLemmas.{heads_over, beliefs_over}
use Rattle.mcs_asking.proofs.KindLemmas.{heads_of_kind, beliefs_of_kind}
use Rattle.mcs_program.specs.Placing.{IsPlaceOf, ArePlaces}
use Rattle.mcs_grounded.specs.Parts.{IsProgramContext, AreHeadsPlaced, places_at}
use Rattle.mcs_grounded.proofs.Cones.{head_among_from, head_from}
use Rattle.mcs_grounded.proofs.AtPlaces.{AreOfHeads, AreAtomsRead, place_from, place_in, places_from, places_to}

atom_is : (f : Formula) → is_atom f ≡ true → (n : Name) × (f ≡ Atom n)
atom_is (Atom n) e = (n, refl)
atom_is Truth e = absurd (true≢false (sym e))
atom_is f e = absurd (true≢false (sym e))

module _ (m : System) (i : ℕ) where
  -- ---- heads
  head_among : (k : ℕ) (b : Bridge) → slice_get m.bridges k ≡ Some b → b.target ≡ i → IsAmong b.head (heads_into m i (single k))
  head_among k b is own = head_among_from 0 m.bridges i (single k) k b is own (ap (has (single k)) (let z : 0 + k ≡ k = omega arith in z) ∙ has-single_itself k)

  pub head_atom : IsValid m → IsProgramContext m i → (k : ℕ) (b : Bridge) → slice_get m.bridges k ≡ Some b → b.target ≡ i → is_atom b.head ≡ true
  head_atom valid (rules, (c, there, kb)) k b is own =
      all_among (λ (f : Formula). IsTrue (is_atom f)) (heads_into m i (single k)) b.head (subst (λ (x : Kb). AreOfKind x (heads_into m i (single k))) kb (heads_of_kind m valid i (single k) c there)) (head_among k b is own)

  pub head_over : (k : ℕ) (b : Bridge) → slice_get m.bridges k ≡ Some b → b.target ≡ i → IsOver (atoms_of m i) b.head
  head_over k b is own = all_among (IsOver (atoms_of m i)) (heads_into m i (single k)) b.head (heads_over m i (single k)) (head_among k b is own)

  pub head_known : (k : ℕ) (b : Bridge) (n : Name) → slice_get m.bridges k ≡ Some b → b.target ≡ i → b.head ≡ Atom n → is_in n (atoms_of m i) ≡ true
  head_known k b n is own atom = subst (IsOver (atoms_of m i)) atom (head_over k b is own)

  -- ---- beliefs
  belief_among : (v : ℕ) (r : Read) → IsVariable m v r → r.context ≡ i → IsAmong r.belief (beliefs_at m (variables_of m i))
  belief_among v r var own =
      let inside : IsAmong v (members (variables_of m i)) = ((members_listing (variables_of m i)).exactly v).1 (has-variables_of m i v r var ∙ eq-eqb r.context i own) in
      subst (λ (f : Formula). IsAmong f (beliefs_at m (variables_of m i))) (ap belief_of var) (among_map (belief_at m) v (members (variables_of m i)) inside)

  pub belief_atom : IsValid m → IsProgramContext m i → (v : ℕ) (r : Read) → IsVariable m v r → r.context ≡ i → is_atom r.belief ≡ true
  belief_atom valid (rules, (c, there, kb)) v r var own =
      all_among (λ (f : Formula). IsTrue (is_atom f)) (beliefs_at m (variables_of m i)) r.belief (subst (λ (x : Kb). AreOfKind x (beliefs_at m (variables_of m i))) kb (beliefs_of_kind m valid i c there)) (belief_among v r var own)

  pub belief_over : (v : ℕ) (r : Read) → IsVariable m v r → r.context ≡ i → IsOver (atoms_of m i) r.belief
  belief_over v r var own = all_among (IsOver (atoms_of m i)) (beliefs_at m (variables_of m i)) r.belief (beliefs_over m i) (belief_among v r var own)

  pub reads_are_atoms : IsValid m → IsProgramContext m i → AreAtomsRead m i
  reads_are_atoms valid program v r var own = atom_is r.belief (belief_atom valid program v r var own)

  -- ---- the places of the heads of rules
  pub heads_placed : (heads : List ℕ) → AreHeadsPlaced m heads → IsValid m → IsProgramContext m i → has_twins (atoms_of m i) ≡ false → (x : ℕ) → AreOfHeads (atoms_of m i) (heads_into m i x) (places_at heads 0 (members (common x (rules_into m i))))
  heads_placed heads placed valid program apart x = record { each = each; all = all }
    where
      here : (j : ℕ) (b : Bridge) (n : Name) → slice_get m.bridges j ≡ Some b → b.target ≡ i → b.head ≡ Atom n → ArePlaces (atoms_of m i) (n ∷ []) (get_or heads j 0)
      here j b n is own atom = subst (λ (t : ℕ). ArePlaces (atoms_of m t) (n ∷ []) (get_or heads j 0)) own (placed j b is n atom)

      each : (k : ℕ) → has (places_at heads 0 (members (common x (rules_into m i)))) k ≡ true → (n : Name) × IsAmong (Atom n) (heads_into m i x) × IsPlaceOf (atoms_of m i) n k
      each k member = elim (places_to heads (members (common x (rules_into m i))) 0 k member) [
        | inl none ↦ absurd (true≢false (sym none ∙ has-empty k))
        | inr of_rule ↦ (
            let (j, among, h) = of_rule in
            let both = in_common x (rules_into m i) j (((members_listing (common x (rules_into m i))).exactly j).0 among) in
            let (b, is, own) = rule_there m i j both.1 in
            let (n, atom) = atom_is b.head (head_atom valid program j b is own) in (
              n,
              subst (λ (f : Formula). IsAmong f (heads_into m i x)) atom (head_among_from 0 m.bridges i x j b is own (ap (has x) (let z : 0 + j ≡ j = omega arith in z) ∙ both.0)),
              place_from (atoms_of m i) n (get_or heads j 0) (here j b n is own atom) apart k h,
            ))
      ]

      all : (n : Name) → IsAmong (Atom n) (heads_into m i x) → (k : ℕ) × (has (places_at heads 0 (members (common x (rules_into m i)))) k ≡ true) × IsPlaceOf (atoms_of m i) n k
      all n among =
          let r = head_from 0 m.bridges i x (Atom n) among in
          let (k, h, place) = place_in (atoms_of m i) n (get_or heads r.place 0) (here r.place r.rule n r.is_its r.own (sym r.head_is)) apart (head_known r.place r.rule n r.is_its r.own (sym r.head_is)) in
          let inside : has (common x (rules_into m i)) r.place ≡ true = has-common x (rules_into m i) r.place
          ∙ and_from (has x r.place) (has (rules_into m i) r.place) (ap (has x) (let z : r.place ≡ 0 + r.place = omega arith in z) ∙ r.member) (has-rules_into m i r.place r.rule r.is_its ∙ eq-eqb r.rule.target i r.own) in
          (k, places_from heads (members (common x (rules_into m i))) 0 k (inr (r.place, ((members_listing (common x (rules_into m i))).exactly r.place).1 inside, h)), place)
