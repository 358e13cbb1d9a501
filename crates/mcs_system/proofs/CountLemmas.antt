-- With fewer rules a system has no more variables, inputs and atoms.
use Rattle.std.proofs.Common.{◌≡◌, ℕ, ◌≤◌, Bool, true, ◌&&◌, nat_eq, ltb, eqb, List, ◌++◌, map, filter, length, Option, Some, slice_get, sym, ap, ◌∙◌, subst, inl, inr, arith}
use Rattle.std.proofs.lemmas.Bool.Decides.{nat_tests}
use Rattle.std.proofs.lemmas.Bool.{and_parts, and_from}
use Rattle.std.proofs.lemmas.List.{length-map}
use Rattle.std.proofs.lemmas.Option.{slice_get_within}
use Rattle.std.specs.List.{list_any, range_with_len, flat_map}
use Rattle.mcs_sets.specs.Sets.{has, members, size, such_that}
use Rattle.mcs_sets.proofs.SetLemmas.{has-such_that}
use Rattle.mcs_base.specs.Listings.{IsAmong, AreApart}
use Rattle.mcs_base.proofs.Among.{among_left, among_right, among_either, among_get, get_among, filter_among, among_filter, flat_map_among, among_flat_map, map_among, among_map, any_get, among_any}
use Rattle.mcs_base.proofs.ListingLemmas.{members_listing}
use Rattle.mcs_base.proofs.Lists.{slice_get_below}
use Rattle.mcs_base.proofs.Distinct.{distinct_fits, distinct_map, distinct_from_places, distinct_filter, ascending_distinct, one_place}
use Rattle.mcs_system.specs.Plain.{Name, Formula, Context, Read, Bridge, System}
use Rattle.mcs_system.specs.Logic.{atoms}
use Rattle.mcs_system.specs.Systems.{same_read, occurrences, context_variables, variables}
use Rattle.mcs_system.specs.Rows.{inputs_of, is_read_into}
use Rattle.mcs_system.specs.Atoms.{own_atoms, all_heads_into, atom_occurrences, first_names, atoms_of}
use Rattle.mcs_system.specs.Faults.{reads_of}
use Rattle.mcs_system.proofs.VariableLemmas.{firsts_among, among_firsts}
use Rattle.mcs_system.proofs.NameLemmas.{first_names-among, first_names-distinct}
use Rattle.mcs_system.proofs.Distinct.{one_number}

abbrev pub AreAmong : {A : Type 0} → List A → List A → Type 0
AreAmong {A = A} xs ys = (x : A) → IsAmong x xs → IsAmong x ys

-- ---- the variables
pub variables_apart : (m : System) → AreApart (variables m)
variables_apart m = distinct_from_places (variables m) (λ v w r at at'. one_number m v w r at at')

-- ---- the inputs of a context
-- a set of places, by a list that has all values there
module _ {A : Type 0} (vs found : List A) (p : ℕ → Bool) (apart : AreApart vs) where
  abbrev s : ℕ
  s = such_that (length vs) p

  there : (k : ℕ) → IsAmong k (members s) → (ltb k (length vs) ≡ true) × (p k ≡ true)
  there k h = and_parts (ltb k (length vs)) (p k) (sym (has-such_that (length vs) p k) ∙ ((members_listing s).exactly k).0 h)

  value : (k : ℕ) → IsAmong k (members s) → (x : A) × (slice_get vs k ≡ Some x)
  value k h = let low = (there k h).0 in slice_get_below vs k (grind (arith, nat_tests))

  one_each : (j k : ℕ) → IsAmong j (members s) → IsAmong k (members s) → slice_get vs j ≡ slice_get vs k → j ≡ k
  one_each j k in_j in_k e = let (x, at) = value j in_j in one_place vs apart j k x at (sym e ∙ at)

  pub set_fits : ((k : ℕ) (x : A) → p k ≡ true → slice_get vs k ≡ Some x → IsAmong x found) → size s ≤ length found
  set_fits all =
      let fits = distinct_fits (map (λ (k : ℕ). slice_get vs k) (members s)) (map (λ (x : A). Some x) found)
      (distinct_map (λ (k : ℕ). slice_get vs k) (members s) one_each (ascending_distinct (members s) (members_listing s).ascending))
      (λ o h. let (k, in_k, is) = map_among (λ (k : ℕ). slice_get vs k) o (members s) h in
      let (x, at) = value k in_k in
      subst (λ (y : Option A). IsAmong y (map (λ (x : A). Some x) found)) (sym (is ∙ at)) (among_map (λ (x : A). Some x) x found (all k x (there k in_k).1 at))) in
      omega (arith, fits, length-map (members s) (λ (k : ℕ). slice_get vs k), length-map found (λ (x : A). Some x))

  pub fits_set : AreApart found → ((x : A) → IsAmong x found → (k : ℕ) × (p k ≡ true) × (slice_get vs k ≡ Some x)) → length found ≤ size s
  fits_set single all =
      let fits = distinct_fits (map (λ (x : A). Some x) found) (map (λ (k : ℕ). slice_get vs k) (members s))
      (distinct_map (λ (x : A). Some x) found (λ x y _ _ e. cc) single)
      (λ o h. let (x, in_x, is) = map_among (λ (x : A). Some x) o found h in
      let (k, passes, at) = all x in_x in
      let member : has s k ≡ true = has-such_that (length vs) p k ∙ and_from (ltb k (length vs)) (p k) (let less = slice_get_within vs k x at in grind (arith, nat_tests)) passes in
      subst (λ (y : Option A). IsAmong y (map (λ (k : ℕ). slice_get vs k) (members s))) (at ∙ sym is) (among_map (λ (k : ℕ). slice_get vs k) k (members s) (((members_listing s).exactly k).1 member))) in
      omega (arith, fits, length-map (members s) (λ (k : ℕ). slice_get vs k), length-map found (λ (x : A). Some x))

pub few_inputs_among : (m : System) (i : ℕ) (found : List Read) → ((r : Read) → IsAmong r (variables m) → is_read_into m i (Some r) ≡ true → IsAmong r found) → size (inputs_of m i) ≤ length found
unfolding inputs_of
few_inputs_among m i found all = set_fits (variables m) found (λ v. is_read_into m i (slice_get (variables m) v)) (variables_apart m)
    (λ k r passes at. all r (among_get r (variables m) k at) (ap (is_read_into m i) (sym at) ∙ passes))

-- the inputs as a list
abbrev inputs_list : System → ℕ → List Read
inputs_list m i = filter (λ (r : Read). is_read_into m i (Some r)) (variables m)

inputs_listed : (m : System) (i : ℕ) → length (inputs_list m i) ≤ size (inputs_of m i)
unfolding inputs_of
inputs_listed m i = fits_set (variables m) (inputs_list m i) (λ v. is_read_into m i (slice_get (variables m) v)) (variables_apart m) (distinct_filter _ (variables m) (variables_apart m))
    (λ r h. let (here, passes) = filter_among (λ (r : Read). is_read_into m i (Some r)) r (variables m) h in
    let (k, at) = get_among r (variables m) here in (k, ap (is_read_into m i) at ∙ passes, at))

-- ---- the atoms of a context
-- where an atom comes from
pub head_there : (m : System) (i : ℕ) (n : Name) → IsAmong n (flat_map atoms (all_heads_into m i)) → (b : Bridge) × IsAmong b m.bridges × (nat_eq b.target i ≡ true) × IsAmong n (atoms b.head)
head_there m i n h =
    let (f, there, here) = flat_map_among atoms n (all_heads_into m i) h in
    let (b, kept, is) = map_among (λ (b : Bridge). b.head) f (filter (λ (b : Bridge). nat_eq b.target i) m.bridges) there in
    let (among, goes) = filter_among (λ (b : Bridge). nat_eq b.target i) b m.bridges kept in
    (b, among, goes, subst (λ (g : Formula). IsAmong n (atoms g)) is here)

there_head : (m : System) (i : ℕ) (n : Name) (b : Bridge) → IsAmong b m.bridges → nat_eq b.target i ≡ true → IsAmong n (atoms b.head) → IsAmong n (flat_map atoms (all_heads_into m i))
there_head m i n b among goes here = among_flat_map atoms b.head n (all_heads_into m i)
    (among_map (λ (c : Bridge). c.head) b (filter (λ (c : Bridge). nat_eq c.target i) m.bridges) (among_filter (λ (c : Bridge). nat_eq c.target i) b m.bridges among goes)) here

-- a variable of context i is what a rule reads there
pub own_read : (m : System) (i : ℕ) (r : Read) → IsAmong r (context_variables m i) → IsAmong r (occurrences m) × (nat_eq r.context i ≡ true)
own_read m i r h = filter_among (λ q. eqb q.context i) r (occurrences m) (firsts_among r _ h)

read_own : (m : System) (i : ℕ) (r : Read) → IsAmong r (occurrences m) → nat_eq r.context i ≡ true → IsAmong r (context_variables m i)
read_own m i r h e = among_firsts r _ (among_filter (λ q. eqb q.context i) r (occurrences m) h e)

pub few_occurrences : (m : System) (i : ℕ) (found : List Name) → AreAmong (atom_occurrences m i) found → length (atoms_of m i) ≤ length found
unfolding atoms_of
few_occurrences m i found all = distinct_fits (first_names (atom_occurrences m i)) found (first_names-distinct (atom_occurrences m i)) (λ n h. all n ((first_names-among n (atom_occurrences m i)).0 h))

pub occurring : (m : System) (i : ℕ) → AreAmong (atom_occurrences m i) (atoms_of m i)
unfolding atoms_of
occurring m i n h = (first_names-among n (atom_occurrences m i)).1 h

-- ---- with fewer rules there are no more
module _ (m m' : System) (same : m'.contexts ≡ m.contexts) (fewer : AreAmong m'.bridges m.bridges) where
  fewer_reads : AreAmong (occurrences m') (occurrences m)
  fewer_reads r h = let (b, among, here) = flat_map_among reads_of r m'.bridges h in among_flat_map reads_of b r m.bridges (fewer b among) here

  fewer_own : (i : ℕ) → AreAmong (context_variables m' i) (context_variables m i)
  fewer_own i r h = let (read, own) = own_read m' i r h in read_own m i r (fewer_reads r read) own

  fewer_variables_among : AreAmong (variables m') (variables m)
  unfolding variables
  fewer_variables_among r h =
      let (i, there, here) = flat_map_among (context_variables m') r (range_with_len 0 (length m'.contexts)) h in
      among_flat_map (context_variables m) i r (range_with_len 0 (length m.contexts)) (subst (λ (cs : List Context). IsAmong i (range_with_len 0 (length cs))) same there) (fewer_own i r here)

  pub fewer_variables : length (variables m') ≤ length (variables m)
  fewer_variables = distinct_fits (variables m') (variables m) (variables_apart m') fewer_variables_among

  into_too : (i : ℕ) (r : Read) → is_read_into m' i (Some r) ≡ true → is_read_into m i (Some r) ≡ true
  into_too i r e =
      let p : Bridge → Bool = λ b. nat_eq b.target i && list_any (λ (q : Read). same_read r q) (b.pos ++ b.neg) in
      let (k, b, at, passes) = any_get p m'.bridges e in
      among_any p m.bridges b (fewer b (among_get b m'.bridges k at)) passes

  pub fewer_inputs : (i : ℕ) → size (inputs_of m' i) ≤ size (inputs_of m i)
  fewer_inputs i = omega (arith, inputs_listed m i, few_inputs_among m' i (inputs_list m i) (λ r var e. among_filter (λ (q : Read). is_read_into m i (Some q)) r (variables m) (fewer_variables_among r var) (into_too i r e)))

  fewer_occurrences : (i : ℕ) → AreAmong (atom_occurrences m' i) (atom_occurrences m i)
  fewer_occurrences i n h = elim (among_either n (own_atoms (slice_get m'.contexts i)) _ h) [
    | inl own ↦ among_left n (own_atoms (slice_get m.contexts i)) _ (subst (λ (cs : List Context). IsAmong n (own_atoms (slice_get cs i))) same own)
    | inr more ↦ among_right n (own_atoms (slice_get m.contexts i)) _ (elim (among_either n (flat_map atoms (all_heads_into m' i)) _ more) [
      | inl head ↦ let (b, among, goes, here) = head_there m' i n head in among_left n (flat_map atoms (all_heads_into m i)) _ (there_head m i n b (fewer b among) goes here)
      | inr belief ↦ let (r, there, here) = flat_map_among (λ (r : Read). atoms r.belief) n (context_variables m' i) belief in
          among_right n (flat_map atoms (all_heads_into m i)) _ (among_flat_map (λ (r : Read). atoms r.belief) r n (context_variables m i) (fewer_own i r there) here)
    ])
  ]

  pub fewer_atoms : (i : ℕ) → length (atoms_of m' i) ≤ length (atoms_of m i)
  fewer_atoms i = few_occurrences m' i (atoms_of m i) (λ n h. occurring m i n (fewer_occurrences i n h))
