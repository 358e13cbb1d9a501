-- The parts of the system that a text says, and the parts of the text that say them.
use Rattle.std.proofs.Common.{◌≡◌, ℕ, ◌<◌, Bool, not, List, map, filter, length, Some, option_map, refl, sym, ap, ◌∙◌, inl, inr, ◌⊎◌, subst, arith}
use Rattle.std.specs.Prelude.{slice_get}
use Rattle.std.specs.List.{position}
use Rattle.std.proofs.lemmas.List.{length-map}
use Rattle.std.proofs.lemmas.Option.{slice_get-map, same_Some}
use Rattle.mcs_base.specs.Listings.{IsAmong}
use Rattle.mcs_base.proofs.Among.{map_among, among_zip, among_either, filter_among, among_get}
use Rattle.mcs_base.proofs.Lists.{length_zip, slice_get_below}
use Rattle.mcs_system.specs.Plain.{Name, Context, Read, Bridge, System}
use Rattle.mcs_system.specs.Logic.{same_name}
use Rattle.mcs_system.specs.Faults.{reads_of}
use Rattle.mcs_system.proofs.NameLemmas.{position-there, position-below}
use Rattle.mcs_grammar.specs.Written.{WrittenContext, WrittenPlace, WrittenRead, WrittenBridge, WrittenText}
use Rattle.mcs_grammar.specs.Saying.{context_in, SaysPlace, SaysBridge, SaysSystem, positive_places, negative_places, names_of}

-- ---- reads
abbrev place_of : WrittenRead → WrittenPlace
place_of r = r.place

-- of one sign
of-sign : (q : WrittenRead → Bool) (rs : List WrittenRead) (p : WrittenPlace) → IsAmong p (map place_of (filter q rs)) → (r : WrittenRead) × IsAmong r rs × (r.place ≡ p)
of-sign q rs p h = let (r, there, is) = map_among place_of p (filter q rs) h in (r, (filter_among q r rs there).0, sym is)

abbrev IsReadWritten : List Name → WrittenBridge → Read → Type 0
IsReadWritten names w r = (q : WrittenRead) × IsAmong q w.reads × SaysPlace names q.place r

-- a read of a rule that is said is written
pub read-written : (names : List Name) (w : WrittenBridge) (b : Bridge) (r : Read) → SaysBridge names w b → IsAmong r (reads_of b) → (q : WrittenRead) × IsAmong q w.reads × SaysPlace names q.place r
read-written names w b r says h = at (among_either r b.pos b.neg h)
  where
    found : (q : WrittenRead → Bool) → ((p : WrittenPlace) × IsAmong p (map place_of (filter q w.reads)) × SaysPlace names p r) → IsReadWritten names w r
    found q (p, there, says') = let (x, in_reads, is) = of-sign q w.reads p there in (x, in_reads, subst (λ (z : WrittenPlace). SaysPlace names z r) (sym is) says')

    at : IsAmong r b.pos ⊎ IsAmong r b.neg → IsReadWritten names w r
    at (inl p) = found (λ (x : WrittenRead). not x.denied) (among_zip (SaysPlace names) (positive_places w.reads) b.pos says.pos r p)
    at (inr n) = found (λ (x : WrittenRead). x.denied) (among_zip (SaysPlace names) (negative_places w.reads) b.neg says.neg r n)

-- ---- of a text and the system that it says
-- the context of a number
pub record IsContextAt (t : WrittenText) (m : System) (k : ℕ) (n : Name) (x : WrittenContext) : Type 0 where
  pub there : IsAmong x t.contexts
  pub named : x.name ≡ n
  pub written_at : slice_get t.contexts k ≡ Some x
  pub said_at : slice_get m.contexts k ≡ Some (context_in x)
  pub name_at : slice_get (names_of t.contexts) k ≡ Some n

module _ (t : WrittenText) (m : System) (says : SaysSystem t m) where
  pub as-many-contexts : length m.contexts ≡ length t.contexts
  as-many-contexts = ap length says.contexts ∙ length-map t.contexts context_in

  pub as-many-names : length (names_of t.contexts) ≡ length t.contexts
  as-many-names = length-map t.contexts (λ (c : WrittenContext). c.name)

  pub as-many-bridges : length t.bridges ≡ length m.bridges
  as-many-bridges = length_zip (SaysBridge (names_of t.contexts)) t.bridges m.bridges says.bridges

  pub context-written : (c : Context) → IsAmong c m.contexts → (x : WrittenContext) × IsAmong x t.contexts × (c ≡ context_in x)
  context-written c h = map_among context_in c t.contexts (subst (IsAmong c) says.contexts h)

  pub bridge-written : (b : Bridge) → IsAmong b m.bridges → (w : WrittenBridge) × IsAmong w t.bridges × SaysBridge (names_of t.contexts) w b
  bridge-written b h = among_zip (SaysBridge (names_of t.contexts)) t.bridges m.bridges says.bridges b h

  pub context-below : (k : ℕ) → k < length t.contexts → (x : WrittenContext) × IsContextAt t m k x.name x
  context-below k less =
      let (x, at) = slice_get_below t.contexts k less in (
        x,
        record {
          there = among_get x t.contexts k at;
          named = refl;
          written_at = at;
          said_at = ap (λ (cs : List Context). slice_get cs k) says.contexts ∙ slice_get-map context_in t.contexts k ∙ ap (option_map context_in) at;
          name_at = slice_get-map (λ (c : WrittenContext). c.name) t.contexts k ∙ ap (option_map (λ (c : WrittenContext). c.name)) at;
        },
      )

  -- the context that a place names
  pub context-at : (k : ℕ) (n : Name) → position (same_name n) (names_of t.contexts) ≡ Some k → (x : WrittenContext) × IsContextAt t m k n x
  context-at k n is =
      let below = position-below n (names_of t.contexts) k is in
      let many = as-many-names in
      let (x, at) = context-below k (omega arith) in
      let same : x.name ≡ n = same_Some _ _ (sym at.name_at ∙ position-there n (names_of t.contexts) k is) in
      (x, subst (λ (y : Name). IsContextAt t m k y x) same at)
