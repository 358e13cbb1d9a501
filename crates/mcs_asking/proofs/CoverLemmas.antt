-- What a context is asked is over its atoms.
use Rattle.std.proofs.Common.{◌≡◌, IsTrue, ℕ, ◌+◌, ◌≤◌, Bool, true, false, ◌&&◌, cond, eqb, List, [], ◌∷◌, filter, map, length, Some, slice_get, sym, ap, ◌∙◌, subst, inl, inr, arith}
use Rattle.std.proofs.lemmas.Bool.Decides.{nat_tests}
use Rattle.std.proofs.lemmas.List.{length-map}
use Rattle.std.specs.List.{flat_map, range_with_len}
use Rattle.mcs_sets.specs.Sets.{has, members}
use Rattle.mcs_sets.proofs.SetLemmas.{size-below}
use Rattle.mcs_base.specs.Listings.{IsAmong}
use Rattle.mcs_base.proofs.ListingLemmas.{members_listing}
use Rattle.mcs_base.proofs.Among.{among_get, map_among, filter_among, flat_map_among}
use Rattle.mcs_base.proofs.Each.{all_from_among}
use Rattle.mcs_system.specs.Plain.{Name, Formula, Kb, OfKind, Context, Read, Bridge, System}
use Rattle.mcs_system.specs.Kinds.{atoms_in}
use Rattle.mcs_system.specs.Logic.{is_in, atoms}
use Rattle.mcs_system.specs.Systems.{context_variables, variables, variables_of, occurrences, heads_from, heads_into, IsVariable}
use Rattle.mcs_system.specs.Atoms.{kb_atoms, own_atoms, all_heads_into, atom_occurrences, atoms_of}
use Rattle.mcs_system.specs.Views.{belief_of, belief_at, beliefs_at}
use Rattle.mcs_system.proofs.NameLemmas.{is_in_left, is_in_right, is_in_flat_map, is_in-first_names}
use Rattle.mcs_system.proofs.VariableLemmas.{firsts_among}
use Rattle.mcs_system.proofs.ContextSets.{variable_there, variables_of-lt}
use Rattle.mcs_cnf.specs.ClauseLists.{IsOver, AreOver}
use Rattle.mcs_cnf.proofs.OverLemmas.{context_atoms}
use Rattle.mcs_asking.specs.Kinds.{IsOverIn, IsOverKb}
use Rattle.mcs_asking.proofs.KindItems.{over_in}

-- ---- what is built of known names is over them
over_kb : (names : List Name) (kb : Kb) → ((n : Name) → is_in n (kb_atoms kb) ≡ true → is_in n names ≡ true) → IsOverKb names kb
over_kb names (OfKind k items) h = all_from_among (IsOverIn k names) items (λ x among. over_in k names x (λ n here. h n (is_in_flat_map (atoms_in k) n x items among here)))

-- the knowledge base of a context
pub own_over : (m : System) (i : ℕ) (c : Context) → slice_get m.contexts i ≡ Some c → IsOverKb (atoms_of m i) c.kb
unfolding atoms_of
own_over m i c is = over_kb (atoms_of m i) c.kb (λ n h. is_in-first_names n (atom_occurrences m i) (is_in_left n (own_atoms (slice_get m.contexts i)) _ (ap (λ o. is_in n (own_atoms o)) is ∙ h)))

-- a head of some rules into the context is one of all of them
pub head_among : (k : ℕ) (bs : List Bridge) (i x : ℕ) (f : Formula) → IsAmong f (heads_from k bs i x) → IsAmong f (map (λ (b : Bridge). b.head) (filter (λ (b : Bridge). eqb b.target i) bs))
head_among k [] i x f h = h
head_among k (b ∷ bs) i x f h = at (has x k) (eqb b.target i) h (head_among (k + 1) bs i x f)
  where
    at : (u v : Bool) → IsAmong f (cond (u && v) (b.head ∷ heads_from (k + 1) bs i x) (heads_from (k + 1) bs i x)) → (IsAmong f (heads_from (k + 1) bs i x) → IsAmong f (map (λ (b : Bridge). b.head) (filter (λ (b : Bridge). eqb b.target i) bs)))
        → IsAmong f (map (λ (b : Bridge). b.head) (cond v (b ∷ filter (λ (b : Bridge). eqb b.target i) bs) (filter (λ (b : Bridge). eqb b.target i) bs)))
    at true true (inl same) rest = inl same
    at true true (inr later) rest = inr (rest later)
    at true false h rest = rest h
    at false true h rest = inr (rest h)
    at false false h rest = rest h

pub heads_over : (m : System) (i x : ℕ) → AreOver (atoms_of m i) (heads_into m i x)
heads_over m i x = all_from_among (IsOver (atoms_of m i)) (heads_into m i x) (λ f among. (context_atoms m i).1 f (λ n h.
    is_in_right n (own_atoms (slice_get m.contexts i)) _ (is_in_left n (flat_map atoms (all_heads_into m i)) _ (is_in_flat_map atoms n f (all_heads_into m i) (head_among 0 m.bridges i x f among) h))))

-- a variable of a context is among the context's own
pub own_variable : (m : System) (i v : ℕ) (r : Read) → IsVariable m v r → r.context ≡ i → IsAmong r (context_variables m i)
unfolding variables
own_variable m i v r is own =
    let (j, in_range, here) = flat_map_among (context_variables m) r (range_with_len 0 (length m.contexts)) (among_get r _ v is) in
    let mine : eqb r.context j ≡ true = (filter_among (λ q. eqb q.context j) r (occurrences m) (firsts_among r _ here)).1 in
    let same : j ≡ i = grind (arith, nat_tests) in
    subst (λ (k : ℕ). IsAmong r (context_variables m k)) same here

pub beliefs_over : (m : System) (i : ℕ) → AreOver (atoms_of m i) (beliefs_at m (variables_of m i))
beliefs_over m i = all_from_among (IsOver (atoms_of m i)) (beliefs_at m (variables_of m i)) (λ f among.
    let (v, inside, is) = map_among (belief_at m) f (members (variables_of m i)) among in
    let (r, var, own) = variable_there m i v (((members_listing (variables_of m i)).exactly v).0 inside) in
    (context_atoms m i).1 f (λ n h.
    is_in_right n (own_atoms (slice_get m.contexts i)) _ (is_in_right n (flat_map atoms (all_heads_into m i)) _
    (is_in_flat_map (λ (q : Read). atoms q.belief) n r (context_variables m i) (own_variable m i v r var own) (ap (λ (g : Formula). is_in n (atoms g)) (sym (is ∙ ap belief_of var)) ∙ h)))))

-- there are no more beliefs than variables
pub few_beliefs : (m : System) (i : ℕ) → length (beliefs_at m (variables_of m i)) ≤ length (variables m)
few_beliefs m i = omega (arith, length-map (members (variables_of m i)) (belief_at m), size-below (variables_of m i) (length (variables m)) (variables_of-lt m i))
