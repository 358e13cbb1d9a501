-- What a text says, part by part: its contexts by their numbers, its rules, and the beliefs at their places.
use Rattle.std.proofs.Common.{◌≡◌, ℕ, ◌<◌, Bool, true, false, not, List, ◌++◌, filter, length, option_map, Some, refl, sym, ap, subst, ◌∙◌, arith, slice_get}
use Rattle.std.specs.List.{position}
use Rattle.std.proofs.lemmas.List.{length-map}
use Rattle.std.proofs.lemmas.List.Quantifiers.{position-Some}
use Rattle.std.proofs.lemmas.Option.{slice_get-map}
use Rattle.mcs_base.specs.Listings.{IsAmong}
use Rattle.mcs_base.proofs.Among.{among_map, zip_among, among_left, among_right, among_filter, get_among}
use Rattle.mcs_base.proofs.Lists.{option_map_some, length_zip}
use Rattle.mcs_system.specs.Plain.{Name}
use Rattle.mcs_system.specs.Plain as plain
use Rattle.mcs_system.specs.Logic.{same_name}
use Rattle.mcs_system.specs.Faults.{IsValid}
use Rattle.mcs_system.proofs.ValidLemmas.{context_names_differ}
use Rattle.mcs_system.proofs.NameLemmas.{position-there}
use Rattle.mcs_grammar.specs.Written.{WrittenContext, WrittenPlace, WrittenRead, WrittenBridge, WrittenText}
use Rattle.mcs_grammar.specs.Entries.{formula_in}
use Rattle.mcs_grammar.specs.Saying.{context_in, SaysPlace, positive_places, negative_places, SaysBridge, names_of, SaysSystem}
use Rattle.mcs_faults.proofs.UsesLemmas.{IsPlaceOf, OfHead, OfRead}

-- ---- contexts
name_in : plain.Context → Name
name_in c = c.name

module _ (t : WrittenText) (m : plain.System) (says : SaysSystem t m) where
  pub context-count-same : length m.contexts ≡ length t.contexts
  context-count-same = ap (λ (cs : List plain.Context). length cs) says.contexts ∙ length-map t.contexts context_in

  pub bridge-count-same : length t.bridges ≡ length m.bridges
  bridge-count-same = length_zip (SaysBridge (names_of t.contexts)) t.bridges m.bridges says.bridges

  pub context-at : (i : ℕ) (x : WrittenContext) → slice_get t.contexts i ≡ Some x → slice_get m.contexts i ≡ Some (context_in x)
  context-at i x is = ap (λ (cs : List plain.Context). slice_get cs i) says.contexts ∙ slice_get-map context_in t.contexts i ∙ ap (option_map context_in) is

  pub in-range : (c : Name) (i : ℕ) → position (same_name c) (names_of t.contexts) ≡ Some i → i < length m.contexts
  in-range c i is =
      let found = position-Some (same_name c) (names_of t.contexts) i c is in
      let names = length-map t.contexts (λ (x : WrittenContext). x.name) in
      omega (arith, found.0, names, context-count-same)

  -- the context of a number is the only one of its name
  pub only-context : IsValid m → (c : Name) (i : ℕ) (x : WrittenContext) → position (same_name c) (names_of t.contexts) ≡ Some i → IsAmong x t.contexts → x.name ≡ c → slice_get m.contexts i ≡ Some (context_in x)
  only-context valid c i x is there named =
      let (j, at_j) = get_among x t.contexts there in
      let first = option_map_some (λ (y : WrittenContext). y.name) (slice_get t.contexts i) c (sym (slice_get-map (λ (y : WrittenContext). y.name) t.contexts i) ∙ position-there c (names_of t.contexts) i is) in
      let same : j ≡ i = context_names_differ m valid j i (context_in x) (context_in first.0) (context-at j x at_j) (context-at i first.0 first.1) (named ∙ sym first.2) in
      context-at i x (ap (slice_get t.contexts) (sym same) ∙ at_j)

-- ---- beliefs
-- a head into, or a belief of, the context of this number
pub data SaidOf (m : plain.System) (i : ℕ) (f : plain.Formula) : Type 0 where
  AsHead : (b : plain.Bridge) (there : IsAmong b m.bridges) (into : b.target ≡ i) (is : b.head ≡ f) → SaidOf m i f
  AsRead : (b : plain.Bridge) (there : IsAmong b m.bridges) (r : plain.Read) (read : IsAmong r (b.pos ++ b.neg)) (of : r.context ≡ i) (is : r.belief ≡ f) → SaidOf m i f

pub record SaidPlace (t : WrittenText) (m : plain.System) (p : WrittenPlace) : Type 0 where
  pub number : ℕ
  pub is_number : position (same_name p.context) (names_of t.contexts) ≡ Some number
  pub said : SaidOf m number (formula_in p.belief)

pub said-read : (names : List Name) (w : WrittenBridge) (b : plain.Bridge) → SaysBridge names w b → (r : WrittenRead) → IsAmong r w.reads → (q : plain.Read) × IsAmong q (b.pos ++ b.neg) × SaysPlace names r.place q
said-read names w b says r there = go r.denied refl
  where
    go : (d : Bool) → r.denied ≡ d → (q : plain.Read) × IsAmong q (b.pos ++ b.neg) × SaysPlace names r.place q
    go true is =
        let kept = among_filter (λ (x : WrittenRead). x.denied) r w.reads there is in
        let found = zip_among (SaysPlace names) (negative_places w.reads) b.neg says.neg r.place (among_map (λ (x : WrittenRead). x.place) r (filter (λ (x : WrittenRead). x.denied) w.reads) kept) in
        (found.0, among_right found.0 b.pos b.neg found.1, found.2)
    go false is =
        let kept = among_filter (λ (x : WrittenRead). not x.denied) r w.reads there (ap not is) in
        let found = zip_among (SaysPlace names) (positive_places w.reads) b.pos says.pos r.place (among_map (λ (x : WrittenRead). x.place) r (filter (λ (x : WrittenRead). not x.denied) w.reads) kept) in
        (found.0, among_left found.0 b.pos b.neg found.1, found.2)

module _ (t : WrittenText) (m : plain.System) (says : SaysSystem t m) where
  pub said-bridge : (w : WrittenBridge) → IsAmong w t.bridges → (b : plain.Bridge) × IsAmong b m.bridges × SaysBridge (names_of t.contexts) w b
  said-bridge w there = zip_among (SaysBridge (names_of t.contexts)) t.bridges m.bridges says.bridges w there

  pub said-place : (p : WrittenPlace) → IsPlaceOf t p → SaidPlace t m p
  said-place p (OfHead w there is) =
      let (b, inside, said) = said-bridge w there in
      subst (SaidPlace t m) is (record { number = b.target; is_number = said.head.number; said = AsHead b inside refl said.head.belief })
  said-place p (OfRead w there r read is) =
      let (b, inside, said) = said-bridge w there in
      let (q, among, place) = said-read (names_of t.contexts) w b said r read in
      subst (SaidPlace t m) is (record { number = q.context; is_number = place.number; said = AsRead b inside q among refl place.belief })
