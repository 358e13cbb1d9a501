-- The atoms of a context are names that can be told apart.
use Rattle.std.proofs.Common.{◌≡◌, ℕ, Bool, not, nat_eq, List, [], ◌∷◌, ◌++◌, map, filter, slice_get, Option, Some, None, refl}
use Rattle.std.specs.List.{AllByRecursion, flat_map}
use Rattle.mcs_base.specs.Listings.{IsAmong, firsts}
use Rattle.mcs_base.proofs.Each.{all_append, all_filter, all_among, all_get, all_from_among}
use Rattle.mcs_base.proofs.Among.{filter_among, flat_map_among}
use Rattle.mcs_system.specs.Plain.{Name, Kb, OfKind, Context, Read, Bridge, System}
use Rattle.mcs_system.specs.Kinds.{atoms_in, IsNamedIn}
use Rattle.mcs_system.specs.Logic.{same_name, atoms}
use Rattle.mcs_system.specs.Naming.{IsName, AreNames, IsNamedFormula, IsNamedKb, IsNamedContext, IsNamedBridge, IsSystemNamed}
use Rattle.mcs_system.specs.Systems.{occurrences, context_variables}
use Rattle.mcs_system.specs.Atoms.{kb_atoms, own_atoms, all_heads_into, atom_occurrences, atoms_of}
use Rattle.mcs_system.proofs.VariableLemmas.{firsts_among}
use Rattle.mcs_cnf.proofs.OverLemmas.{context_atoms}
use Rattle.mcs_asking.proofs.KindItems.{formula_names, all_flat, formulas_names, names_in}
use Rattle.mcs_spelling.specs.Parts.{AreTellable}
use Rattle.mcs_proof_reader.proofs.SystemTexts.{names_tell}

kb_names : (kb : Kb) → IsNamedKb kb → AreNames (kb_atoms kb)
kb_names (OfKind k items) named = all_flat (IsNamedIn k) (atoms_in k) (names_in k) items named

all_firsts : (same : Name → Name → Bool) (ns : List Name) → AreNames ns → AreNames (firsts same ns)
all_firsts same [] all = tt
all_firsts same (n ∷ ns) all = (all.0, all_filter IsName (λ (k : Name). not (same n k)) (firsts same ns) (all_firsts same ns all.1))

module _ (m : System) (named : IsSystemNamed m) (i : ℕ) where
  own_names : (o : Option Context) → slice_get m.contexts i ≡ o → AreNames (own_atoms o)
  own_names None e = tt
  own_names (Some c) e = kb_names c.kb (all_get IsNamedContext m.contexts i c named.contexts e).kb

  head_names : AreNames (flat_map atoms (all_heads_into m i))
  head_names = formulas_names (all_heads_into m i) (go (filter (λ (b : Bridge). nat_eq b.target i) m.bridges) (all_filter IsNamedBridge (λ (b : Bridge). nat_eq b.target i) m.bridges named.bridges))
    where
      go : (bs : List Bridge) → AllByRecursion IsNamedBridge bs → AllByRecursion IsNamedFormula (map (λ (b : Bridge). b.head) bs)
      go [] all = tt
      go (b ∷ bs) all = (all.0.head, go bs all.1)

  read_named : (r : Read) → IsAmong r (context_variables m i) → IsNamedFormula r.belief
  read_named r among =
      let read : IsAmong r (occurrences m) = (filter_among (λ (q : Read). nat_eq q.context i) r (occurrences m) (firsts_among r (filter (λ (q : Read). nat_eq q.context i) (occurrences m)) among)).0 in
      let (b, of_rule, of_read) = flat_map_among (λ (b : Bridge). b.pos ++ b.neg) r m.bridges read in
      let bridge = all_among IsNamedBridge m.bridges b named.bridges of_rule in
      all_among (λ (q : Read). IsNamedFormula q.belief) (b.pos ++ b.neg) r (all_append (λ (q : Read). IsNamedFormula q.belief) b.pos b.neg bridge.pos bridge.neg) of_read

  variable_names : AreNames (flat_map (λ (r : Read). atoms r.belief) (context_variables m i))
  variable_names = all_flat (λ (r : Read). IsNamedFormula r.belief) (λ (r : Read). atoms r.belief) (λ r is. formula_names r.belief is) (context_variables m i) (all_from_among (λ (r : Read). IsNamedFormula r.belief) (context_variables m i) read_named)

  pub atom_names : AreNames (atoms_of m i)
  unfolding atoms_of
  atom_names = all_firsts same_name (atom_occurrences m i)
      (all_append IsName (own_atoms (slice_get m.contexts i)) (flat_map atoms (all_heads_into m i) ++ flat_map (λ (r : Read). atoms r.belief) (context_variables m i)) (own_names (slice_get m.contexts i) refl)
      (all_append IsName (flat_map atoms (all_heads_into m i)) (flat_map (λ (r : Read). atoms r.belief) (context_variables m i)) head_names variable_names))

  pub atoms_tell : AreTellable (atoms_of m i)
  atoms_tell = names_tell (atoms_of m i) atom_names (context_atoms m i).0
