-- A text that says a valid system keeps the limit on atoms.
use Rattle.std.proofs.Common.{◌≡◌, ℕ, ◌+◌, Bool, true, false, not, nat_eq, List, [], ◌∷◌, ◌++◌, filter, take, Option, Some, refl, sym, ap, subst, ◌∙◌, inl, inr, arith, slice_get}
use Rattle.std.specs.List.{position, position_from, flat_map}
use Rattle.std.proofs.lemmas.Iterator.Adapters.{position_from-zero}
use Rattle.std.proofs.lemmas.Bool.{eq-eqb}
use Rattle.std.proofs.lemmas.Option.{same_Some}
use Rattle.mcs_base.specs.Listings.{IsAmong}
use Rattle.mcs_base.proofs.Among.{among_map, among_left, among_right, among_filter, among_flat_map}
use Rattle.mcs_system.specs.Plain.{Name}
use Rattle.mcs_system.specs.Plain as plain
use Rattle.mcs_system.specs.Logic.{same_name, atoms}
use Rattle.mcs_system.specs.Systems.{occurrences, context_variables}
use Rattle.mcs_system.specs.Atoms.{kb_atoms, own_atoms, all_heads_into, atom_occurrences, first_names, atoms_of}
use Rattle.mcs_system.specs.Faults.{IsValid}
use Rattle.mcs_system.specs.declared.limit.Limit.TheVariants.{AtomsPerContext}
use Rattle.mcs_system.proofs.Sameness.{same_name-is, same_name-itself}
use Rattle.mcs_system.proofs.VariableLemmas.{among_firsts}
use Rattle.mcs_system.proofs.ValidLemmas.{few_atoms}
use Rattle.mcs_grammar.specs.Written.{WrittenContext, WrittenText}
use Rattle.mcs_grammar.specs.Entries.{Use, AtomOf, Entry, formula_in, text_entries, uses_of}
use Rattle.mcs_grammar.specs.Saying.{context_in, names_of, SaysSystem}
use Rattle.mcs_grammar.specs.Faults.{WasAtom, ExceedsLimit}
use Rattle.mcs_grammar.proofs.TextSplits.{IsSplit, uses-split, among-before, among-here}
use Rattle.mcs_faults.proofs.SaidParts.{in-range, only-context, SaidOf, AsHead, AsRead, said-place}
use Rattle.mcs_faults.proofs.FaultlessReads.{one-more}
use Rattle.mcs_faults.proofs.UsesLemmas.{text_uses, IsAtomOf, atoms-there}

-- ---- a name that is among names has a number
number-from : (c : Name) (k : ℕ) (names : List Name) → IsAmong c names → (i : ℕ) × (position_from (same_name c) k names ≡ Some i)
number-from c k [] h = absurd h
number-from c k (n ∷ ns) (inl e) = let same : same_name c n ≡ true = ap (same_name c) (sym e) ∙ same_name-itself c in (k, rw same refl)
number-from c k (n ∷ ns) (inr h) = go (same_name c n) refl (number-from c (k + 1) ns h)
  where
    go : (b : Bool) → same_name c n ≡ b → ((i : ℕ) × (position_from (same_name c) (k + 1) ns ≡ Some i)) → (i : ℕ) × (position_from (same_name c) k (n ∷ ns) ≡ Some i)
    go true e rest = (k, rw e refl)
    go false e rest = (rest.0, rw e rest.1)

number-there : (c : Name) (names : List Name) → IsAmong c names → (i : ℕ) × (position (same_name c) names ≡ Some i)
number-there c names h = let (i, is) = number-from c 0 names h in (i, position_from-zero (same_name c) names ∙ is)

-- ---- each name at its first occurrence
among-first-names : (a : Name) (xs : List Name) → IsAmong a xs → IsAmong a (first_names xs)
among-first-names a [] h = absurd h
among-first-names a (x ∷ xs) (inl e) = inl e
among-first-names a (x ∷ xs) (inr h) = go (same_name x a) refl (among-first-names a xs h)
  where
    go : (b : Bool) → same_name x a ≡ b → IsAmong a (first_names xs) → IsAmong a (first_names (x ∷ xs))
    go true e rest = inl (sym (same_name-is x a e))
    go false e rest = inr (among_filter (λ y. not (same_name x y)) a (first_names xs) rest (ap not e))

-- ---- the atoms of a context
module _ (m : plain.System) (i : ℕ) (a : Name) where
  heads : List Name
  heads = flat_map atoms (all_heads_into m i)

  beliefs : List Name
  beliefs = flat_map (λ (r : plain.Read). atoms r.belief) (context_variables m i)

  own-atom : (c : plain.Context) → slice_get m.contexts i ≡ Some c → IsAmong a (kb_atoms c.kb) → IsAmong a (atom_occurrences m i)
  unfolding heads beliefs
  own-atom c at h = among_left a (own_atoms (slice_get m.contexts i)) (heads ++ beliefs) (subst (λ (o : Option plain.Context). IsAmong a (own_atoms o)) (sym at) h)

  said-atom : (f : plain.Formula) → SaidOf m i f → IsAmong a (atoms f) → IsAmong a (atom_occurrences m i)
  unfolding heads beliefs
  said-atom f (AsHead b there into is) h =
      let kept = among_filter (λ (x : plain.Bridge). nat_eq x.target i) b m.bridges there (eq-eqb b.target i into) in
      let head = among_map (λ (x : plain.Bridge). x.head) b (filter (λ (x : plain.Bridge). nat_eq x.target i) m.bridges) kept in
      among_right a (own_atoms (slice_get m.contexts i)) (heads ++ beliefs) (among_left a heads beliefs (among_flat_map atoms b.head a (all_heads_into m i) head (subst (λ (g : plain.Formula). IsAmong a (atoms g)) (sym is) h)))
  said-atom f (AsRead b there r read of is) h =
      let occurs = among_flat_map (λ (x : plain.Bridge). x.pos ++ x.neg) b r m.bridges there read in
      let variable = among_firsts r (filter (λ (q : plain.Read). nat_eq q.context i) (occurrences m)) (among_filter (λ (q : plain.Read). nat_eq q.context i) r (occurrences m) occurs (eq-eqb r.context i of)) in
      among_right a (own_atoms (slice_get m.contexts i)) (heads ++ beliefs) (among_right a heads beliefs (among_flat_map (λ (q : plain.Read). atoms q.belief) r a (context_variables m i) variable (subst (λ (g : plain.Formula). IsAmong a (atoms g)) (sym is) h)))

among-atoms : (m : plain.System) (i : ℕ) (a : Name) → IsAmong a (atom_occurrences m i) → IsAmong a (atoms_of m i)
unfolding atoms_of
among-atoms m i a h = among-first-names a (atom_occurrences m i) h

module _ (t : WrittenText) (m : plain.System) (says : SaysSystem t m) (valid : IsValid m) where
  -- the context of an atom has a number
  atom-number : (c a : Name) → IsAtomOf t c a → (i : ℕ) × (position (same_name c) (names_of t.contexts) ≡ Some i)
  atom-number c a (inl (x, there, named, h)) = number-there c (names_of t.contexts) (subst (λ (n : Name). IsAmong n (names_of t.contexts)) named (among_map (λ (y : WrittenContext). y.name) x t.contexts there))
  atom-number c a (inr (p, of, context, h)) = let said = said-place t m says p of in (said.number, ap (λ (n : Name). position (same_name n) (names_of t.contexts)) (sym context) ∙ said.is_number)

  atom-there : (c : Name) (i : ℕ) → position (same_name c) (names_of t.contexts) ≡ Some i → (a : Name) → IsAtomOf t c a → IsAmong a (atoms_of m i)
  atom-there c i is a (inl (x, there, named, h)) = among-atoms m i a (own-atom m i a (context_in x) (only-context t m says valid c i x is there named) h)
  atom-there c i is a (inr (p, of, context, h)) =
      let said = said-place t m says p of in
      let same : said.number ≡ i = same_Some _ _ (sym said.is_number ∙ (ap (λ (n : Name). position (same_name n) (names_of t.contexts)) context ∙ is)) in
      among-atoms m i a (said-atom m i a (formula_in p.belief) (subst (λ (j : ℕ). SaidOf m j (formula_in p.belief)) same said.said) h)

  module _ (k : ℕ) (here : Entry) (is : slice_get (text_entries t) k ≡ Some here) where
    abbrev before : List Use
    before = uses_of (take k (text_entries t))

    split : IsSplit (text_uses t) before here.uses
    split = uses-split (text_entries t) k here is

    pub few-atoms : ¬ ExceedsLimit AtomsPerContext before here
    few-atoms (c, (a, h, full)) =
        let now : WasAtom (text_uses t) c a = among-here (text_uses t) before here.uses (AtomOf c a) split h in
        let (i, at) = atom-number c a ((atoms-there t c a).0 now) in
        let over = one-more 64 (WasAtom before c) (WasAtom (text_uses t) c) a (atoms_of m i) full (λ y g. among-before (text_uses t) before here.uses (AtomOf c y) split g) now (λ y g. atom-there c i at y ((atoms-there t c y).0 g)) in
        let most = few_atoms m valid i (in-range t m says c i at) in
        omega arith
