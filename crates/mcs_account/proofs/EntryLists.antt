-- The uses of entries that stand one after another, and how often a use is among them.
use Rattle.std.proofs.Common.{◌≡◌, ℕ, List, [], ◌∷◌, ◌++◌, sym, ap, ◌∙◌, inl, inr, ◌⊎◌, subst, append_assoc, append-nil}
use Rattle.std.specs.List.{flat_map}
use Rattle.std.proofs.lemmas.Grind.{flat_map-append}
use Rattle.mcs_base.specs.Listings.{IsAmong}
use Rattle.mcs_base.proofs.Lists.{flat_map-flat_map}
use Rattle.mcs_base.proofs.Among.{among_left, among_right, among_either, among_flat_map, flat_map_among}
use Rattle.mcs_system.specs.Plain.{Name}
use Rattle.mcs_grammar.specs.Written.{Written, True', False', Named, Prefixed, Grouped, Joins}
use Rattle.mcs_grammar.specs.Entries.{Use, Entry, with_first, with_last, formula_entries, uses_of}
use Rattle.mcs_account.specs.Reading.{HasSome}

-- ---- lists with something in them
pub some-append : {A : Type 0} (xs ys : List A) → HasSome xs → HasSome (xs ++ ys)
some-append [] ys h = absurd h
some-append (x ∷ xs) ys h = tt

pub formula-some : (c : Name) (n o : ℕ) (w : Written) → HasSome (formula_entries c n o w)
formula-some c n o True' = tt
formula-some c n o False' = tt
formula-some c n o (Named name) = tt
formula-some c n o (Prefixed p f) = tt
formula-some c n o (Grouped f) = tt
formula-some c n o (Joins j f g) = some-append (formula_entries c n o f) _ (formula-some c n o f)

-- ---- uses
abbrev uses_in_entry : Entry → List Use
uses_in_entry m = m.uses

pub uses-append : (xs ys : List Entry) → uses_of (xs ++ ys) ≡ uses_of xs ++ uses_of ys
uses-append xs ys = flat_map-append uses_in_entry xs ys

pub uses-flat_map : {A : Type 0} (f : A → List Entry) (xs : List A) → uses_of (flat_map f xs) ≡ flat_map (λ x. uses_of (f x)) xs
uses-flat_map f xs = flat_map-flat_map uses_in_entry f xs

-- a entry without uses
pub uses-end : (xs : List Entry) (m : Entry) → m.uses ≡ [] → uses_of (xs ++ m ∷ []) ≡ uses_of xs
uses-end xs m none = uses-append xs (m ∷ []) ∙ ap (λ us. uses_of xs ++ (us ++ [])) none ∙ append-nil (uses_of xs)

pub uses-first : (us : List Use) (ms : List Entry) → HasSome ms → uses_of (with_first us ms) ≡ us ++ uses_of ms
uses-first us [] h = absurd h
uses-first us (m ∷ ms) h = append_assoc us m.uses (uses_of ms)

-- the uses of all but the last entry, and those of the last
pub record SplitUses (us : List Use) (ms : List Entry) : Type 0 where
  pub front : List Use
  pub back : List Use
  pub without : uses_of ms ≡ front ++ back
  pub with_them : uses_of (with_last us ms) ≡ front ++ (us ++ back)

pub split-last : (us : List Use) (ms : List Entry) → HasSome ms → SplitUses us ms
split-last us [] h = absurd h
split-last us (m ∷ []) h = record { front = []; back = m.uses; without = append-nil m.uses; with_them = append-nil (us ++ m.uses) }
split-last us (m ∷ n ∷ ms) h =
    let rest = split-last us (n ∷ ms) tt in
    record {
      front = m.uses ++ rest.front;
      back = rest.back;
      without = ap (λ (xs : List Use). m.uses ++ xs) rest.without ∙ sym (append_assoc m.uses rest.front rest.back);
      with_them = ap (λ (xs : List Use). m.uses ++ xs) rest.with_them ∙ sym (append_assoc m.uses rest.front (us ++ rest.back));
    }

-- ---- a use among them
module _ (u : Use) where
  pub among-first : (us : List Use) (ms : List Entry) → IsAmong u (uses_of (with_first us ms)) → IsAmong u us ⊎ IsAmong u (uses_of ms)
  among-first us [] h = absurd h
  among-first us (m ∷ ms) h = among_either u us (uses_of (m ∷ ms)) (subst (IsAmong u) (uses-first us (m ∷ ms) tt) h)

  pub first-among : (us : List Use) (ms : List Entry) → IsAmong u (uses_of ms) → IsAmong u (uses_of (with_first us ms))
  first-among us [] h = absurd h
  first-among us (m ∷ ms) h = subst (IsAmong u) (sym (uses-first us (m ∷ ms) tt)) (among_right u us (uses_of (m ∷ ms)) h)

  pub among-last : (us : List Use) (ms : List Entry) → IsAmong u (uses_of (with_last us ms)) → IsAmong u us ⊎ IsAmong u (uses_of ms)
  among-last us [] h = absurd h
  among-last us (m ∷ ms) h = let s = split-last us (m ∷ ms) tt in
      elim (among_either u s.front (us ++ s.back) (subst (IsAmong u) s.with_them h)) [
        | inl a ↦ inr (subst (IsAmong u) (sym s.without) (among_left u s.front s.back a))
        | inr b ↦ elim (among_either u us s.back b) [
          | inl c ↦ inl c
          | inr d ↦ inr (subst (IsAmong u) (sym s.without) (among_right u s.front s.back d))
        ]
      ]

  pub last-among : (us : List Use) (ms : List Entry) → HasSome ms → IsAmong u us ⊎ IsAmong u (uses_of ms) → IsAmong u (uses_of (with_last us ms))
  last-among us ms h (inl a) = let s = split-last us ms h in subst (IsAmong u) (sym s.with_them) (among_right u s.front (us ++ s.back) (among_left u us s.back a))
  last-among us ms h (inr b) = let s = split-last us ms h in
      elim (among_either u s.front s.back (subst (IsAmong u) s.without b)) [
        | inl a ↦ subst (IsAmong u) (sym s.with_them) (among_left u s.front (us ++ s.back) a)
        | inr c ↦ subst (IsAmong u) (sym s.with_them) (among_right u s.front (us ++ s.back) (among_right u us s.back c))
      ]

  pub among-append : (xs ys : List Entry) → IsAmong u (uses_of (xs ++ ys)) → IsAmong u (uses_of xs) ⊎ IsAmong u (uses_of ys)
  among-append xs ys h = among_either u (uses_of xs) (uses_of ys) (subst (IsAmong u) (uses-append xs ys) h)

  pub append-left : (xs ys : List Entry) → IsAmong u (uses_of xs) → IsAmong u (uses_of (xs ++ ys))
  append-left xs ys h = subst (IsAmong u) (sym (uses-append xs ys)) (among_left u (uses_of xs) (uses_of ys) h)

  pub append-right : (xs ys : List Entry) → IsAmong u (uses_of ys) → IsAmong u (uses_of (xs ++ ys))
  append-right xs ys h = subst (IsAmong u) (sym (uses-append xs ys)) (among_right u (uses_of xs) (uses_of ys) h)

  pub among-parts : {A : Type 0} (f : A → List Entry) (xs : List A) → IsAmong u (uses_of (flat_map f xs)) → (x : A) × IsAmong x xs × IsAmong u (uses_of (f x))
  among-parts f xs h = flat_map_among (λ x. uses_of (f x)) u xs (subst (IsAmong u) (uses-flat_map f xs) h)

  pub parts-among : {A : Type 0} (f : A → List Entry) (xs : List A) (x : A) → IsAmong x xs → IsAmong u (uses_of (f x)) → IsAmong u (uses_of (flat_map f xs))
  parts-among f xs x here h = subst (IsAmong u) (sym (uses-flat_map f xs)) (among_flat_map (λ y. uses_of (f y)) x u xs here h)
