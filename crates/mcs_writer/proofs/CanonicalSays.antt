-- What is written of a valid system says that system.
use Rattle.std.proofs.Common.{◌≡◌, ℕ, ◌≤◌, zero, suc, Bool, true, false, nat_eq, nat_lt, cond, List, [], ◌∷◌, map, length, Some, None, slice_get, option_map, refl, sym, ap, ◌∙◌, true≢false, arith}
use Rattle.std.proofs.lemmas.Bool.Decides.{nat_tests}
use Rattle.std.proofs.lemmas.Option.{slice_get-map, slice_get_within}
use Rattle.std.proofs.lemmas.Slice.Eq.{bytes_eq-Decides}
use Rattle.std.specs.List.{AllByRecursion, list_any, position, position_or_len}
use Rattle.std.proofs.lemmas.Bool.{or_parts, eqb-true}
use Rattle.std.specs.Fmt.{decimal}
use Rattle.mcs_base.proofs.Among.{map_back, none_get}
use Rattle.mcs_base.proofs.Each.{all_among, all_from_no_any}
use Rattle.mcs_base.proofs.Lists.{slice_get_below}
use Rattle.mcs_system.specs.Faults.{has_twins, has_unjustified, has_misfit, IsValid}
use Rattle.mcs_system.specs.Logic.{is_in, same_name}
use Rattle.mcs_system.specs.Plain.{Name, Formula, Kb, Context, Read, Bridge, System}
use Rattle.mcs_system.specs.Plain as plain
use Rattle.mcs_system.specs.Texts.{name_of_context}
use Rattle.mcs_system.proofs.ValidLemmas.{tests_pass}
use Rattle.mcs_grammar.specs.Saying.{said_in, kb_in, context_in, SaysPlace, Each, positive_places, negative_places, weight_said, SaysBridge, names_of, SaysSystem}
use Rattle.mcs_tokens.proofs.Numbers.{decimal_is}
use Rattle.mcs_system.specs.Naming.{IsSystemNamed}
use Rattle.mcs_writer.proofs.CanonicalWritten.{kb_written, context_written, place_written, reads_written, weight_written, bridge_written, canonical_written}
use Rattle.mcs_writer.proofs.CanonicalGrammar.{IsPlaced, IsPlacedBridge, all-placed}
pub use Rattle.mcs_writer.proofs.ItemsWritten.{primary-said, formula-said}
use Rattle.mcs_writer.proofs.KindItems.{written_in, IsFitIn, fit-items, said-back}

-- ---- lists
each-map : {W X : Type 0} (says : W → X → Type 0) (f : X → W) (P : X → Type 0) → ((x : X) → P x → says (f x) x) → (xs : List X) → AllByRecursion P xs → Each says (map f xs) xs
each-map says f P each [] h = tt
each-map says f P each (x ∷ xs) h = (each x h.0, each-map says f P each xs h.1)

-- ---- contexts
kb-said : (kb : Kb) → has_unjustified kb ≡ false → kb_in (kb_written kb) ≡ kb
kb-said (plain.OfKind k items) h = ap (λ is'. plain.OfKind k is') (map_back (written_in k) (said_in k) items (λ x here. said-back k x (all_among (IsFitIn k) items x (fit-items k items h) here)))

context : Name → Kb → Context
context name kb = record { name = name; kb = kb }

context-said : (c : Context) → has_unjustified c.kb ≡ false → context_in (context_written c) ≡ c
unfolding context
context-said c h = ap (λ kb. context c.name kb) (kb-said c.kb h)

-- ---- bridge rules
abbrev name_in : Context → Name
name_in c = c.name

names-written : (cs : List Context) → names_of (map context_written cs) ≡ map name_in cs
names-written [] = refl
names-written (c ∷ cs) = ap (λ l. c.name ∷ l) (names-written cs)

-- the first place of a name is its only one
same-itself : (n : Name) → same_name n n ≡ true
same-itself n = (bytes_eq-Decides n n).1 refl

apart : (b : Bool) (x n : Name) (ns : List Name) (k : ℕ) → b ≡ same_name n x → is_in x ns ≡ false → slice_get ns k ≡ Some n → b ≡ false
apart false x n ns k is none at = refl
apart true x n ns k is none at =
    let same : n ≡ x = (bytes_eq-Decides n x).0 (sym is) in
    absurd (true≢false (sym (same-itself x) ∙ none_get (same_name x) ns k x none (at ∙ ap Some same)))

place-of : (ns : List Name) → has_twins ns ≡ false → (k : ℕ) (n : Name) → slice_get ns k ≡ Some n → position_or_len (same_name n) ns ≡ k
place-of [] none k n at = absurd (let e : None ≡ Some n = at in cc)
place-of (x ∷ xs) none zero n at = let same : x ≡ n = cc at in rw (ap (same_name n) same ∙ same-itself n) refl
place-of (x ∷ xs) none (suc k) n at =
    let both = or_parts (is_in x xs) (has_twins xs) none in
    rw (apart (same_name n x) x n xs k refl both.0 at) (let rest = place-of xs both.1 k n at in omega arith)

position-of : (ns : List Name) → has_twins ns ≡ false → (k : ℕ) (n : Name) → slice_get ns k ≡ Some n → position (same_name n) ns ≡ Some k
position-of ns none k n at =
    let less : nat_lt k (length ns) ≡ true = (let h = slice_get_within ns k n at in grind (arith, nat_tests)) in
    rw (place-of ns none k n at, less) refl

no-twins : (m : System) → IsValid m → has_twins (map name_in m.contexts) ≡ false
no-twins m valid = (or_parts (has_twins (map name_in m.contexts)) (has_twins (map (λ (b : Bridge). b.name) m.bridges)) (tests_pass m valid).apart).0

place-said : (m : System) → IsValid m → (r : Read) → IsPlaced m r → SaysPlace (names_of (map context_written m.contexts)) (place_written m r) r
place-said m valid r h =
    let (c, is) = slice_get_below m.contexts r.context h.0 in
    let named : name_of_context (slice_get m.contexts r.context) ≡ c.name = ap name_of_context is in
    record {
      number = rw (named, names-written m.contexts) (position-of (map name_in m.contexts) (no-twins m valid) r.context c.name (slice_get-map name_in m.contexts r.context ∙ ap (option_map name_in) is));
      belief = sym (primary-said r.belief);
    }

positive-places : (m : System) (pos neg : List Read) → positive_places (reads_written m pos neg) ≡ map (place_written m) pos
positive-places m [] [] = refl
positive-places m [] (n ∷ ns) = positive-places m [] ns
positive-places m (p ∷ ps) neg = ap (λ l. place_written m p ∷ l) (positive-places m ps neg)

negative-places : (m : System) (pos neg : List Read) → negative_places (reads_written m pos neg) ≡ map (place_written m) neg
negative-places m [] [] = refl
negative-places m [] (n ∷ ns) = ap (λ l. place_written m n ∷ l) (negative-places m [] ns)
negative-places m (p ∷ ps) neg = negative-places m ps neg

weight-said : (w : ℕ) → w ≤ 1000000 → w ≡ weight_said (weight_written w)
weight-said w few = at (nat_eq w 1) refl
  where
    at : (v : Bool) → nat_eq w 1 ≡ v → w ≡ weight_said (cond v None (Some (decimal w)))
    at true is = eqb-true w 1 is
    at false is = sym ((decimal_is w (omega (arith, few))).value)

bridge-said : (m : System) → IsValid m → (b : Bridge) → IsPlacedBridge m b → SaysBridge (names_of (map context_written m.contexts)) (bridge_written m b) b
bridge-said m valid b h =
    let names = names_of (map context_written m.contexts) in
    record {
      named = refl;
      head = place-said m valid (record { context = b.target; belief = b.head }) h.head;
      pos = rw (positive-places m b.pos b.neg) (each-map (SaysPlace names) (place_written m) (IsPlaced m) (place-said m valid) b.pos h.pos);
      neg = rw (negative-places m b.pos b.neg) (each-map (SaysPlace names) (place_written m) (IsPlaced m) (place-said m valid) b.neg h.neg);
      keep = refl;
      closed = refl;
      weight = weight-said b.weight h.weight.1;
    }

-- ---- the whole text
pub canonical-says : (m : System) → IsSystemNamed m → IsValid m → SaysSystem (canonical_written m) m
canonical-says m named valid =
    let justified = or_parts (list_any (λ (c : Context). has_unjustified c.kb) m.contexts) (list_any (has_misfit m.contexts) m.bridges) (tests_pass m valid).fitting in
    let Fits : Context → Type 0 = λ c. has_unjustified c.kb ≡ false in
    record {
      contexts = sym (map_back context_written context_in m.contexts (λ x h. context-said x (all_among (Fits) m.contexts x (all_from_no_any Fits (λ (c : Context). has_unjustified c.kb) (λ c e. e) m.contexts justified.0) h)));
      bridges = each-map (SaysBridge (names_of (map context_written m.contexts))) (bridge_written m) (IsPlacedBridge m) (bridge-said m valid) m.bridges (all-placed m named valid);
    }
