-- The system that a text without faults says keeps the limit on atoms.
use Rattle.std.proofs.Common.{◌≡◌, ℕ, true, false, nat_lt, nat_eq, List, ◌++◌, filter, length, Some, refl, ap, ◌∙◌, inl, inr, ◌⊎◌, subst, arith}
use Rattle.std.specs.Prelude.{slice_get}
use Rattle.std.specs.List.{flat_map}
use Rattle.std.proofs.lemmas.Bool.Decides.{nat_tests}
use Rattle.std.proofs.lemmas.Bool.{le-ltb}
use Rattle.mcs_base.specs.Listings.{IsAmong}
use Rattle.mcs_base.proofs.Among.{map_among, among_either, filter_among, flat_map_among}
use Rattle.mcs_system.specs.Plain.{Name, Formula, Read, Bridge, System}
use Rattle.mcs_system.specs.Logic.{atoms}
use Rattle.mcs_system.specs.Systems.{occurrences, context_variables}
use Rattle.mcs_system.specs.Atoms.{own_atoms, all_heads_into, atom_occurrences, atoms_of}
use Rattle.mcs_system.specs.declared.limit.Limit.TheVariants.{AtomsPerContext}
use Rattle.mcs_system.specs.Faults.{exceeds}
use Rattle.mcs_system.proofs.VariableLemmas.{firsts_among}
use Rattle.mcs_system.proofs.NameLemmas.{first_names-among, first_names-distinct}
use Rattle.mcs_grammar.specs.Written.{WrittenContext, WrittenPlace, WrittenText}
use Rattle.mcs_grammar.specs.Saying.{SaysPlace, SaysSystem, names_of}
use Rattle.mcs_grammar.specs.Faults.{WasAtom}
use Rattle.mcs_faults.proofs.UsesLemmas.{text_uses, IsPlaceOf, OfHead, OfRead, atoms-there}
use Rattle.mcs_faults.proofs.Within.{IsWithin}
use Rattle.mcs_grammar.proofs.SaidSystem.{read-written, as-many-contexts, bridge-written, IsContextAt, context-below}
use Rattle.mcs_faults.proofs.SaidReads.{name-same, occurs-in}
use Rattle.mcs_faults.proofs.ValidCounts.{no-context}

module _ (t : WrittenText) (m : System) (says : SaysSystem t m) where
  -- of a place at the context
  place-atom : (i : ℕ) (x : WrittenContext) (a : Name) (p : WrittenPlace) (r : Read) → IsContextAt t m i x.name x → IsPlaceOf t p → SaysPlace (names_of t.contexts) p r → r.context ≡ i → IsAmong a (atoms r.belief) → WasAtom (text_uses t) x.name a
  place-atom i x a p r at place s here h = (atoms-there t x.name a).1
      (inr (p, place, name-same t m i x p.context at (s.number ∙ ap (λ (k : ℕ). Some k) here), subst (λ (f : Formula). IsAmong a (atoms f)) s.belief h))

  own-atom : (i : ℕ) (x : WrittenContext) (a : Name) → IsContextAt t m i x.name x → IsAmong a (own_atoms (slice_get m.contexts i)) → WasAtom (text_uses t) x.name a
  own-atom i x a at h = (atoms-there t x.name a).1 (inl (x, at.there, refl, subst (IsAmong a) (ap own_atoms at.said_at) h))

  head-atom : (i : ℕ) (x : WrittenContext) (a : Name) → IsContextAt t m i x.name x → IsAmong a (flat_map atoms (all_heads_into m i)) → WasAtom (text_uses t) x.name a
  head-atom i x a at h =
      let (f, in_heads, in_f) = flat_map_among atoms a (all_heads_into m i) h in
      let (b, in_rules, is) = map_among (λ (c : Bridge). c.head) f (filter (λ (c : Bridge). nat_eq c.target i) m.bridges) in_heads in
      let both = filter_among (λ (c : Bridge). nat_eq c.target i) b m.bridges in_rules in
      let into : b.target ≡ i = let test : nat_eq b.target i ≡ true = both.1 in grind (arith, nat_tests) in
      let (w, there, s) = bridge-written t m says b both.0 in
      place-atom i x a w.head (record { context = b.target; belief = b.head }) at (OfHead w there refl) s.head into (subst (λ (g : Formula). IsAmong a (atoms g)) is in_f)

  read-atom : (i : ℕ) (x : WrittenContext) (a : Name) → IsContextAt t m i x.name x → IsAmong a (flat_map (λ (r : Read). atoms r.belief) (context_variables m i)) → WasAtom (text_uses t) x.name a
  read-atom i x a at h =
      let (r, in_vars, in_r) = flat_map_among (λ (q : Read). atoms q.belief) a (context_variables m i) h in
      let both = filter_among (λ (q : Read). nat_eq q.context i) r (occurrences m) (firsts_among r _ in_vars) in
      let of : r.context ≡ i = let test : nat_eq r.context i ≡ true = both.1 in grind (arith, nat_tests) in
      let (b, in_rules, in_reads) = occurs-in t m says r both.0 in
      let (w, there, s) = bridge-written t m says b in_rules in
      let (q, in_written, place) = read-written (names_of t.contexts) w b r s in_reads in
      place-atom i x a q.place r at (OfRead w there q in_written refl) place of in_r

  atom-occurs : (i : ℕ) (x : WrittenContext) (a : Name) → IsContextAt t m i x.name x → IsAmong a (atom_occurrences m i) → WasAtom (text_uses t) x.name a
  atom-occurs i x a at h = first (among_either a (own_atoms (slice_get m.contexts i)) (heads ++ reads) h)
    where
      heads : List Name
      heads = flat_map atoms (all_heads_into m i)

      reads : List Name
      reads = flat_map (λ (r : Read). atoms r.belief) (context_variables m i)

      first : IsAmong a (own_atoms (slice_get m.contexts i)) ⊎ IsAmong a (flat_map atoms (all_heads_into m i) ++ flat_map (λ (r : Read). atoms r.belief) (context_variables m i)) → WasAtom (text_uses t) x.name a
      first (inl own) = own-atom i x a at own
      first (inr later) = elim (among_either a (flat_map atoms (all_heads_into m i)) (flat_map (λ (r : Read). atoms r.belief) (context_variables m i)) later) [
        | inl in_head ↦ head-atom i x a at in_head
        | inr in_read ↦ read-atom i x a at in_read
      ]

  pub few-atoms : IsWithin (text_uses t) → exceeds m AtomsPerContext ≡ false
  unfolding exceeds atoms_of
  few-atoms within = no-context m (λ i. nat_lt 64 (length (atoms_of m i))) (λ i less.
      let many = as-many-contexts t m says in
      let (x, at) = context-below t m says i (omega arith) in
      let few = within.atoms x.name (atoms_of m i) (first_names-distinct (atom_occurrences m i)) (λ a h. atom-occurs i x a at ((first_names-among a (atom_occurrences m i)).0 h)) in
      le-ltb 64 (length (atoms_of m i)) few)
