-- The atoms of a context are what a walk over its parts gathers.
use Rattle.std.proofs.Common.{◌≡◌, ℕ, ◌<◌, ◌≤◌, Vec, Bool, true, false, cond, eqb, ltb, arith, get_or, List, [], ◌∷◌, ◌++◌, map, filter, length, refl, sym, ap, ◌∙◌, slice_get}
use Rattle.std.proofs.lemmas.List.{length-map, get_or_default}
use Rattle.std.proofs.lemmas.Bool.Decides.{nat_tests}
use Rattle.std.proofs.lemmas.Option.{slice_get_within, get_or_from_slice_get}
use Rattle.std.specs.List.{flat_map, range_with_len}
use Rattle.mcs_base.proofs.Among.{among_any, among_range}
use Rattle.mcs_base.proofs.Each.{all_read}
use Rattle.mcs_base.proofs.Lists.{slice_get-map_at, slice_get_below, slice_get-map_some, same_image_at, length_same_images}
use Rattle.std.specs.declared.alloc.Global.{Global}
use Rattle.mcs_system.specs.declared.knowledge.Context as code
use Rattle.mcs_system.specs.declared.bridge.Bridge as code'
use Rattle.mcs_system.specs.Plain.{Name, Read, Bridge}
use Rattle.mcs_system.specs.Seen.{context_of, kb_of, bridge_of, system_of}
use Rattle.mcs_system.specs.Logic.{same_name, atoms}
use Rattle.mcs_system.specs.Systems.{context_variables, variables}
use Rattle.mcs_system.specs.declared.known.KnownContexts.{KnownContexts}
use Rattle.mcs_system.specs.declared.limit.Limit.TheVariants.{AtomsPerContext}
use Rattle.mcs_system.specs.Atoms.{kb_atoms, own_atoms, atom_occurrences, first_names, atoms_of}
use Rattle.mcs_system.specs.Built.{AreOwnAtoms, HasManyOwnAtoms, made_of}
use Rattle.mcs_system.specs.Faults.{exceeds}
use Rattle.mcs_system.specs.Gathered.{gathered, head_atoms, belief_atoms}
use Rattle.mcs_system.proofs.GatherLemmas.{first_names-gathered, gathered-append, gathered-grows}
use Rattle.mcs_system.proofs.VariableLemmas.{variables_own}

heads-parts : (i : ℕ) (bs : List Bridge) → flat_map atoms (map (λ (b : Bridge). b.head) (filter (λ (b : Bridge). eqb b.target i) bs)) ≡ flat_map (head_atoms i) bs
heads-parts i [] = refl
heads-parts i (b ∷ bs) = at (eqb b.target i) (heads-parts i bs)
  where
    at : (v : Bool) → flat_map atoms (map (λ (b : Bridge). b.head) (filter (λ (b : Bridge). eqb b.target i) bs)) ≡ flat_map (head_atoms i) bs
        → flat_map atoms (map (λ (b : Bridge). b.head) (cond v (b ∷ filter (λ (b : Bridge). eqb b.target i) bs) (filter (λ (b : Bridge). eqb b.target i) bs))) ≡ cond v (atoms b.head) [] ++ flat_map (head_atoms i) bs
    at true rest = ap (λ ns. atoms b.head ++ ns) rest
    at false rest = rest

beliefs-parts : (i : ℕ) (rs : List Read) → flat_map (λ (r : Read). atoms r.belief) (filter (λ (r : Read). eqb r.context i) rs) ≡ flat_map (belief_atoms i) rs
beliefs-parts i [] = refl
beliefs-parts i (r ∷ rs) = at (eqb r.context i) (beliefs-parts i rs)
  where
    at : (v : Bool) → flat_map (λ (r : Read). atoms r.belief) (filter (λ (r : Read). eqb r.context i) rs) ≡ flat_map (belief_atoms i) rs
        → flat_map (λ (r : Read). atoms r.belief) (cond v (r ∷ filter (λ (r : Read). eqb r.context i) rs) (filter (λ (r : Read). eqb r.context i) rs)) ≡ cond v (atoms r.belief) [] ++ flat_map (belief_atoms i) rs
    at true rest = ap (λ ns. atoms r.belief ++ ns) rest
    at false rest = rest

own-kb : (cs : List code.Context) (i : ℕ) (d : code.Context) → i < length cs → own_atoms (slice_get (map context_of cs) i) ≡ kb_atoms (kb_of (get_or cs i d).kb)
own-kb cs i d less = ap own_atoms (slice_get-map_at context_of cs i d less)

pub atoms_of-gathered : (cs : List code.Context) (bs : List code'.Bridge) (vs : List Read) (i : ℕ) (d : code.Context) → i < length cs → vs ≡ variables (system_of cs bs)
    → atoms_of (system_of cs bs) i ≡ gathered same_name [] (kb_atoms (kb_of (get_or cs i d).kb) ++ (flat_map (head_atoms i) (map bridge_of bs) ++ flat_map (belief_atoms i) vs))
unfolding atoms_of
atoms_of-gathered cs bs vs i d less all = first_names-gathered (atom_occurrences (system_of cs bs) i) ∙ ap (gathered same_name []) parts
  where
    beliefs : flat_map (λ (r : Read). atoms r.belief) (context_variables (system_of cs bs) i) ≡ flat_map (belief_atoms i) vs
    beliefs = ap (flat_map (λ (r : Read). atoms r.belief)) (sym (variables_own (system_of cs bs) i (rw (length-map cs context_of) less))) ∙ beliefs-parts i (variables (system_of cs bs)) ∙ ap (flat_map (belief_atoms i)) (sym all)

    parts : atom_occurrences (system_of cs bs) i ≡ kb_atoms (kb_of (get_or cs i d).kb) ++ (flat_map (head_atoms i) (map bridge_of bs) ++ flat_map (belief_atoms i) vs)
    parts = rw (own-kb cs i d less, heads-parts i (map bridge_of bs), beliefs) refl

-- ---- from the atoms of its items on
module _ (k : KnownContexts) (own : AreOwnAtoms k.items.items k.atoms.items) (i : ℕ) (less : i < length k.items.items) where
  pub own_at : (d : Vec Name Global) → (get_or k.atoms.items i d).items ≡ first_names (own_atoms (slice_get (map context_of k.items.items) i))
  own_at d =
      let (c, at) = slice_get_below k.items.items i less in
      same_image_at (λ (v : Vec Name Global). v.items) (λ (c : code.Context). first_names (kb_atoms (kb_of c.kb))) k.atoms.items k.items.items i d c own.names_are at
      ∙ ap (λ o. first_names (own_atoms o)) (sym (slice_get-map_some context_of k.items.items i c at))

  pub own_many_places : i < length k.atoms.items
  own_many_places = let long = length_same_images (λ (v : Vec Name Global). v.items) (λ (c : code.Context). first_names (kb_atoms (kb_of c.kb))) k.atoms.items k.items.items own.names_are in omega (arith, long, less)

  pub own_few : (d : Vec Name Global) → length (get_or k.atoms.items i d).items ≤ 64
  own_few d =
      let long = length_same_images (λ (v : Vec Name Global). v.items) (λ (c : code.Context). first_names (kb_atoms (kb_of c.kb))) k.atoms.items k.items.items own.names_are in
      all_read (λ (v : Vec Name Global). length v.items ≤ 64) k.atoms.items i (get_or k.atoms.items i d) (omega (arith, long, less)) (get_or_default k.atoms.items i d (get_or k.atoms.items i d) (omega (arith, long, less))) own.few

  pub found_few : (found : List Name) (d : Vec Name Global) → found ≡ (get_or k.atoms.items i d).items → length found ≤ 64
  found_few found d is = rw is (own_few d)

  pub atoms_of-found : (bs : List code'.Bridge) (vs : List Read) (found : List Name) (d : Vec Name Global) → found ≡ (get_or k.atoms.items i d).items → vs ≡ variables (made_of k bs)
      → atoms_of (made_of k bs) i ≡ gathered same_name found (flat_map (head_atoms i) (map bridge_of bs) ++ flat_map (belief_atoms i) vs)
  atoms_of-found bs vs found d is all =
      let (c, at) = slice_get_below k.items.items i less in
      atoms_of-gathered k.items.items bs vs i c less all
      ∙ gathered-append same_name [] (kb_atoms (kb_of (get_or k.items.items i c).kb)) (flat_map (head_atoms i) (map bridge_of bs) ++ flat_map (belief_atoms i) vs)
      ∙ ap (λ f. gathered same_name f (flat_map (head_atoms i) (map bridge_of bs) ++ flat_map (belief_atoms i) vs))
      (sym (is ∙ own_at d ∙ first_names-gathered (own_atoms (slice_get (map context_of k.items.items) i)) ∙ ap (gathered same_name []) (own-kb k.items.items i c less)))

-- too many atoms in the items are too many in all
pub own_exceed : (cs : List code.Context) (bs : List code'.Bridge) → HasManyOwnAtoms cs → exceeds (system_of cs bs) AtomsPerContext ≡ true
unfolding exceeds
own_exceed cs bs has =
    let less = slice_get_within cs has.place has.context has.here in
    let vs = variables (system_of cs bs) in
    let rest = flat_map (head_atoms has.place) (map bridge_of bs) ++ flat_map (belief_atoms has.place) vs in
    let own = kb_atoms (kb_of has.context.kb) in
    let same : get_or cs has.place has.context ≡ has.context = get_or_from_slice_get cs has.place has.context has.context has.here in
    let all : atoms_of (system_of cs bs) has.place ≡ gathered same_name (gathered same_name [] own) rest =
    atoms_of-gathered cs bs vs has.place has.context less refl ∙ ap (λ (c : code.Context). gathered same_name [] (kb_atoms (kb_of c.kb) ++ rest)) same ∙ gathered-append same_name [] own rest in
    let grows = gathered-grows same_name (gathered same_name [] own) rest in
    let first : length (gathered same_name [] own) ≡ length (first_names own) = ap length (sym (first_names-gathered own)) in
    let long : length (atoms_of (system_of cs bs) has.place) ≡ length (gathered same_name (gathered same_name [] own) rest) = ap length all in
    let many : 64 < length (atoms_of (system_of cs bs) has.place) = omega (arith, has.many, grows, first, long) in
    among_any (λ j. ltb 64 (length (atoms_of (system_of cs bs) j))) (range_with_len 0 (length (map context_of cs))) has.place
    (among_range has.place 0 (length (map context_of cs)) (omega arith) (omega (arith, less, length-map cs context_of)))
    (grind (arith, nat_tests))
