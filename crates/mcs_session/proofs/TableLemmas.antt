-- Texts in a table are found by what they say, and numbers stand for texts.
use Rattle.std.proofs.Common.{◌≡◌, ℕ, ◌+◌, zero, suc, Bool, true, false, nat_eq, ◌||◌, cond, List, [], ◌∷◌, ◌++◌, Option, Some, None, slice_get, inl, inr, refl, sym, ap, ap₂, subst, ◌∙◌, arith, true≢false, append_assoc, append-nil}
use Rattle.std.specs.Prelude.{IsTrue, ◌↔◌, if◌then◌else◌, MatchOption}
use Rattle.std.specs.Cmp.Lexicographic.{pointwise, same_text, other_text}
use Rattle.std.specs.Global.{Vec}
use Rattle.std.specs.List.{list_any, position, position_from}
use Rattle.std.proofs.lemmas.Iterator.Adapters.{position_from-zero}
use Rattle.std.proofs.lemmas.List.{map-append}
use Rattle.mcs_base.specs.Listings.{IsAmong, AreApart}
use Rattle.mcs_base.proofs.Distinct.{distinct_push, one_place}
use Rattle.mcs_base.proofs.Lists.{slice_get-map_some}
use Rattle.mcs_session.specs.Tables.{texts_in, HasGrown, KeepsApart, AreNumbersOf}

abbrev is_text : List ℕ → Vec ℕ → Bool
is_text n v = pointwise nat_eq n v.items

-- ---- where a text stands
-- from the text on that has number i
abbrev IsPlaceFrom : ℕ → List ℕ → List (Vec ℕ) → Option ℕ → Type 0
IsPlaceFrom i n keys place = MatchOption place (¬ IsAmong n (texts_in keys)) (λ k. (j : ℕ) × (k ≡ i + j) × (slice_get (texts_in keys) j ≡ Some n))

located : (n : List ℕ) (keys : List (Vec ℕ)) (i : ℕ) → IsPlaceFrom i n keys (position_from (is_text n) i keys)
located n [] i = λ none. none
located n (v ∷ vs) i = at (is_text n v) refl (position_from (is_text n) (i + 1) vs) (located n vs (i + 1))
  where
    at : (b : Bool) → is_text n v ≡ b → (o : Option ℕ) → IsPlaceFrom (i + 1) n vs o → IsPlaceFrom i n (v ∷ vs) (cond b (Some i) o)
    at true e o more = (0, omega arith, ap (λ (t : List ℕ). Some t) (sym (same_text n v.items (sym e))))
    at false e None more = λ h. elim h [ inl same ↦ other_text n v.items (sym e) same | inr later ↦ more later ]
    at false e (Some k) (j, is, there) = (suc j, omega (arith, is), there)

pub place : (n : List ℕ) (keys : List (Vec ℕ)) → MatchOption (position (is_text n) keys) (¬ IsAmong n (texts_in keys)) (λ k. slice_get (texts_in keys) k ≡ Some n)
place n keys = subst (λ (o : Option ℕ). MatchOption o (¬ IsAmong n (texts_in keys)) (λ k. slice_get (texts_in keys) k ≡ Some n)) (sym (position_from-zero (is_text n) keys)) (by (position_from (is_text n) 0 keys) (located n keys 0))
  where
    by : (o : Option ℕ) → IsPlaceFrom 0 n keys o → MatchOption o (¬ IsAmong n (texts_in keys)) (λ k. slice_get (texts_in keys) k ≡ Some n)
    by None none = none
    by (Some k) (j, is, there) = let same : j ≡ k = omega (arith, is) in subst (λ (l : ℕ). slice_get (texts_in keys) l ≡ Some n) same there

-- ---- whether it is there
abbrev is_found : List ℕ → List (Vec ℕ) → Bool
is_found n keys = list_any (is_text n) keys

pub found : (n : List ℕ) (keys : List (Vec ℕ)) → IsTrue (is_found n keys) ↔ IsAmong n (texts_in keys)
found n [] = (λ e. absurd (true≢false (sym e)), λ none. absurd none)
found n (v ∷ vs) = at (is_text n v) refl (found n vs)
  where
    at : (b : Bool) → is_text n v ≡ b → (IsTrue (is_found n vs) ↔ IsAmong n (texts_in vs)) → IsTrue (is_text n v || is_found n vs) ↔ IsAmong n (texts_in (v ∷ vs))
    at true e more = (λ _. inl (same_text n v.items (sym e)), λ _. ap (λ (b : Bool). b || is_found n vs) e)
    at false e more = (
      λ h. inr (more.0 (sym (ap (λ (b : Bool). b || is_found n vs) e) ∙ h)),
      λ h. elim h [ inl same ↦ absurd (other_text n v.items (sym e) same) | inr more' ↦ ap (λ (b : Bool). b || is_found n vs) e ∙ more.1 more' ],
    )

abbrev inserted : Vec ℕ → List (Vec ℕ) → List (Vec ℕ)
inserted v keys = if is_found v.items keys then keys else (keys ++ v ∷ [])

pub added : (v : Vec ℕ) (keys : List (Vec ℕ)) → ¬ IsAmong v.items (texts_in keys) → texts_in (inserted v keys) ≡ texts_in keys ++ v.items ∷ []
added v keys new = at (is_found v.items keys) refl
  where
    at : (b : Bool) → is_found v.items keys ≡ b → texts_in (inserted v keys) ≡ texts_in keys ++ v.items ∷ []
    at true e = absurd (new ((found v.items keys).0 e))
    at false e = ap (λ (b : Bool). texts_in (if b then keys else (keys ++ v ∷ []))) e ∙ map-append (λ (w : Vec ℕ). w.items) keys (v ∷ [])

pub still_apart : (v : Vec ℕ) (keys : List (Vec ℕ)) → AreApart (texts_in keys) → AreApart (texts_in (inserted v keys))
still_apart v keys apart = at (is_found v.items keys) refl
  where
    at : (b : Bool) → is_found v.items keys ≡ b → AreApart (texts_in (if b then keys else (keys ++ v ∷ [])))
    at true e = apart
    at false e = subst (λ (ts : List (List ℕ)). AreApart ts) (sym (map-append (λ (w : Vec ℕ). w.items) keys (v ∷ [])))
        (distinct_push (texts_in keys) v.items apart (λ h. true≢false (sym ((found v.items keys).1 h) ∙ e)))

-- the text that is stored there says the same
pub stored : (v w : Vec ℕ) (keys : List (Vec ℕ)) (k : ℕ) → slice_get keys k ≡ Some w → pointwise nat_eq v.items w.items ≡ true → slice_get (texts_in keys) k ≡ Some v.items
stored v w keys k is same = slice_get-map_some (λ (u : Vec ℕ). u.items) keys k w is ∙ ap (λ (t : List ℕ). Some t) (sym (same_text v.items w.items (sym same)))

-- ---- numbers
-- a text keeps its number
get_left : (xs ys : List (List ℕ)) (k : ℕ) (t : List ℕ) → slice_get xs k ≡ Some t → slice_get (xs ++ ys) k ≡ Some t
get_left [] ys k t is = let no : None ≡ Some t = is in absurd (cc)
get_left (x ∷ xs) ys zero t is = is
get_left (x ∷ xs) ys (suc k) t is = get_left xs ys k t is

pub still_there : (old new : List (List ℕ)) (k : ℕ) (t : List ℕ) → HasGrown old new → slice_get old k ≡ Some t → slice_get new k ≡ Some t
still_there old new k t grown is = ap (λ (ts : List (List ℕ)). slice_get ts k) grown.is ∙ get_left old grown.more k t is

pub still_numbers : (old new : List (List ℕ)) → HasGrown old new → (ts : List (List ℕ)) (ns : List ℕ) → AreNumbersOf old ts ns → AreNumbersOf new ts ns
still_numbers old new grown [] [] h = tt
still_numbers old new grown (t ∷ ts) (n ∷ ns) h = (still_there old new n t grown h.0, still_numbers old new grown ts ns h.1)
still_numbers old new grown [] (n ∷ ns) h = absurd h
still_numbers old new grown (t ∷ ts) [] h = absurd h

-- numbers are those of one list of texts
pub one_text_each : (table ts us : List (List ℕ)) (ns : List ℕ) → AreNumbersOf table ts ns → AreNumbersOf table us ns → ts ≡ us
one_text_each table [] [] [] h g = refl
one_text_each table (t ∷ ts) (u ∷ us) (n ∷ ns) h g = ap₂ (λ x xs. x ∷ xs) (let e : Some t ≡ Some u = sym h.0 ∙ g.0 in cc) (one_text_each table ts us ns h.1 g.1)
one_text_each table [] (u ∷ us) [] h g = absurd g
one_text_each table (t ∷ ts) us [] h g = absurd h
one_text_each table [] us (n ∷ ns) h g = absurd h
one_text_each table (t ∷ ts) [] (n ∷ ns) h g = absurd g

-- and texts have one list of numbers
pub one_number_each : (table : List (List ℕ)) → AreApart table → (ts : List (List ℕ)) (ns ms : List ℕ) → AreNumbersOf table ts ns → AreNumbersOf table ts ms → ns ≡ ms
one_number_each table apart [] [] [] h g = refl
one_number_each table apart (t ∷ ts) (n ∷ ns) (m ∷ ms) h g = ap₂ (λ x xs. x ∷ xs) (one_place table apart n m t h.0 g.0) (one_number_each table apart ts ns ms h.1 g.1)
one_number_each table apart [] (n ∷ ns) ms h g = absurd h
one_number_each table apart [] [] (m ∷ ms) h g = absurd g
one_number_each table apart (t ∷ ts) [] ms h g = absurd h
one_number_each table apart (t ∷ ts) (n ∷ ns) [] h g = absurd g

-- ---- growing
pub as_before : (table : List (List ℕ)) → HasGrown table table
as_before table = record { more = []; is = sym (append-nil table) }

pub grown_twice : (a b c : List (List ℕ)) → HasGrown a b → HasGrown b c → HasGrown a c
grown_twice a b c h g = record { more = h.more ++ g.more; is = g.is ∙ ap (λ ts. ts ++ g.more) h.is ∙ append_assoc a h.more g.more }

pub grown_insert : (v : Vec ℕ) (keys : List (Vec ℕ)) → HasGrown (texts_in keys) (texts_in (inserted v keys))
grown_insert v keys = by (is_found v.items keys)
  where
    by : (b : Bool) → HasGrown (texts_in keys) (texts_in (if b then keys else (keys ++ v ∷ [])))
    by true = as_before (texts_in keys)
    by false = record { more = v.items ∷ []; is = map-append (λ (w : Vec ℕ). w.items) keys (v ∷ []) }

pub keeps_apart : (v : Vec ℕ) (keys : List (Vec ℕ)) → KeepsApart (texts_in keys) (texts_in (inserted v keys))
keeps_apart v keys = record { grown = grown_insert v keys; apart = still_apart v keys }

pub apart_as_before : (table : List (List ℕ)) → KeepsApart table table
apart_as_before table = record { grown = as_before table; apart = λ a. a }

pub apart_twice : (a b c : List (List ℕ)) → KeepsApart a b → KeepsApart b c → KeepsApart a c
apart_twice a b c h g = record { grown = grown_twice a b c h.grown g.grown; apart = λ x. g.apart (h.apart x) }
