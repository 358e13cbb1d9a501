-- How many variables, inputs and atoms a system has, by lists that have them all.
use Rattle.std.proofs.Common.{◌≡◌, ℕ, ◌≤◌, Bool, true, ◌&&◌, nat_eq, List, [], ◌++◌, length, cond, Some, slice_get, sym, ap, ◌∙◌, subst, inl, inr, eqb}
use Rattle.std.proofs.lemmas.Bool.{and_parts}
use Rattle.std.specs.List.{list_any, range_with_len, flat_map}
use Rattle.mcs_sets.specs.Sets.{size}
use Rattle.mcs_base.specs.Listings.{IsAmong}
use Rattle.mcs_base.proofs.Among.{among_left, among_right, among_either, among_get, filter_among, flat_map_among, among_flat_map, any_get}
use Rattle.mcs_base.proofs.Distinct.{distinct_fits}
use Rattle.mcs_system.specs.Plain.{Name, Read, Bridge, System}
use Rattle.mcs_system.specs.Logic.{atoms}
use Rattle.mcs_system.specs.Systems.{same_read, occurrences, context_variables, variables}
use Rattle.mcs_system.specs.Rows.{inputs_of, is_read_into}
use Rattle.mcs_system.specs.Atoms.{own_atoms, all_heads_into, atom_occurrences, atoms_of}
use Rattle.mcs_system.specs.Faults.{reads_of}
use Rattle.mcs_system.specs.Gathered.{head_atoms, belief_atoms}
use Rattle.mcs_system.proofs.CountLemmas.{variables_apart, few_inputs_among, few_occurrences, head_there, own_read}
use Rattle.mcs_system.proofs.VariableLemmas.{firsts_among}
use Rattle.mcs_system.proofs.Sameness.{same_read-is}
use Rattle.mcs_script.specs.Found.{AreAmong, inputs_by, atoms_by}

-- ---- the variables
variable_read : (m : System) (r : Read) → IsAmong r (variables m) → IsAmong r (occurrences m)
unfolding variables
variable_read m r h =
    let (i, there, here) = flat_map_among (context_variables m) r (range_with_len 0 (length m.contexts)) h in
    (filter_among (λ q. eqb q.context i) r (occurrences m) (firsts_among r _ here)).0

pub few_variables : (m : System) (found : List Read) → AreAmong (occurrences m) found → length (variables m) ≤ length found
few_variables m found all = distinct_fits (variables m) found (variables_apart m) (λ r h. all r (variable_read m r h))

-- ---- the inputs of a context
-- what rules into i read
read_into_by : (m : System) (i : ℕ) (r : Read) → is_read_into m i (Some r) ≡ true → IsAmong r (flat_map (inputs_by i) m.bridges)
read_into_by m i r e =
    let (k, b, at, both) = any_get (λ (b : Bridge). nat_eq b.target i && list_any (λ (q : Read). same_read r q) (b.pos ++ b.neg)) m.bridges e in
    let (there, among) = and_parts (nat_eq b.target i) (list_any (λ (q : Read). same_read r q) (b.pos ++ b.neg)) both in
    let (j, q, at', same) = any_get (λ (q : Read). same_read r q) (b.pos ++ b.neg) among in
    let here : IsAmong r (reads_of b) = among_get r (reads_of b) j (at' ∙ ap (λ (x : Read). Some x) (sym (same_read-is r q same))) in
    among_flat_map (inputs_by i) b r m.bridges (among_get b m.bridges k at) (subst (λ (v : Bool). IsAmong r (cond v (reads_of b) [])) (sym there) here)

pub few_inputs : (m : System) (i : ℕ) (found : List Read) → AreAmong (flat_map (inputs_by i) m.bridges) found → size (inputs_of m i) ≤ length found
few_inputs m i found all = few_inputs_among m i found (λ r _ e. all r (read_into_by m i r e))

-- ---- the atoms of a context
found_atom : (m : System) (i : ℕ) (n : Name) → IsAmong n (atom_occurrences m i) → IsAmong n (own_atoms (slice_get m.contexts i) ++ flat_map (atoms_by i) m.bridges)
found_atom m i n h = elim (among_either n (own_atoms (slice_get m.contexts i)) _ h) [
  | inl own ↦ among_left n (own_atoms (slice_get m.contexts i)) _ own
  | inr more ↦ among_right n (own_atoms (slice_get m.contexts i)) _ (elim (among_either n (flat_map atoms (all_heads_into m i)) _ more) [
    | inl head ↦ let (b, among, goes, here) = head_there m i n head in
        among_flat_map (atoms_by i) b n m.bridges among (among_left n (head_atoms i b) _ (subst (λ (v : Bool). IsAmong n (cond v (atoms b.head) [])) (sym goes) here))
    | inr belief ↦ let (r, there, here) = flat_map_among (λ (r : Read). atoms r.belief) n (context_variables m i) belief in
        let (read, own) = own_read m i r there in
        let (b, among, of_b) = flat_map_among reads_of r m.bridges read in
        among_flat_map (atoms_by i) b n m.bridges among (among_right n (head_atoms i b) _
        (among_flat_map (belief_atoms i) r n (reads_of b) of_b (subst (λ (v : Bool). IsAmong n (cond v (atoms r.belief) [])) (sym own) here)))
  ])
]

pub few_atoms : (m : System) (i : ℕ) (found : List Name) → AreAmong (own_atoms (slice_get m.contexts i) ++ flat_map (atoms_by i) m.bridges) found → length (atoms_of m i) ≤ length found
few_atoms m i found all = few_occurrences m i found (λ n h. all n (found_atom m i n h))
