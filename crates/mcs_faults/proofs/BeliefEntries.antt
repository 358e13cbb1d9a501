-- Which tokens of a text begin a belief: the first ones of the beliefs at its places, and no others.
use Rattle.std.proofs.Common.{◌≡◌, Bool, true, false, Option, Some, None, List, [], ◌∷◌, ◌++◌, refl, sym, ap, subst, inl, inr, ◌⊎◌}
use Rattle.std.specs.Prelude.{codes}
use Rattle.std.specs.List.{flat_map, list_all}
use Rattle.mcs_base.specs.Listings.{IsAmong}
use Rattle.mcs_base.specs.Numbers.{value_of_digits}
use Rattle.mcs_base.proofs.Among.{among_either, flat_map_among}
use Rattle.mcs_system.specs.Plain.{Name}
use Rattle.mcs_grammar.specs.Written.{WrittenKb, OfKind, WrittenContext, WrittenPlace, WrittenRead, WrittenMarks, WrittenBridge, WrittenText}
use Rattle.mcs_grammar.specs.Entries.{Token, Use, BeginsContext, BeginsBridge, NamesContext, NamesBridge, Weighs, BeginsItem, NamesTarget, NamesSource, BeginsBelief, EndsRead, Entry, entry, with_first, with_last, formula_in, whole_entries, optional, ended, kind_word, kind_uses, entries_in, kb_entries, context_entries, place_entries, read_entries, further_read, reads_entries, bridge_entries, text_entries, weight_entries, mark_entries, version_entries}
use Rattle.mcs_faults.proofs.UsesLemmas.{IsPlaceOf, OfHead, OfRead}
use Rattle.mcs_faults.proofs.ItemBegins.{is_other, not-among, BeginNone, none-cons, none-nil, none-append, none-flat_map, none-first, none-formula, none-optional}
use Rattle.mcs_faults.proofs.KindItems.{word-other, none-in}

-- ---- contexts
none-ended : (c : Name) (ms : List Entry) → BeginNone ms → BeginNone (ended c ms)
none-ended c ms none = none-append _ _ (none-first (BeginsItem c ∷ []) refl ms none) (none-cons _ [] refl none-nil)

none-braces : (kind : Entry) (items : List Entry) → list_all is_other kind.uses ≡ true → BeginNone items → BeginNone (kind ∷ entry (codes "{") [] ∷ (items ++ entry (codes "}") [] ∷ []))
none-braces kind items e none =
    let last : List Entry = entry (codes "}") [] ∷ [] in
    none-cons kind (entry (codes "{") [] ∷ (items ++ last)) e (none-cons (entry (codes "{") []) (items ++ last) refl (none-append items last none (none-cons (entry (codes "}") []) [] refl none-nil)))

none-kb : (c : Name) (kb : WrittenKb) → BeginNone (kb_entries c kb)
none-kb c (OfKind k items) = none-braces (entry (kind_word k) (kind_uses k c)) _ (word-other k c) (none-flat_map (λ i. ended c (entries_in k c i)) (λ i. none-ended c (entries_in k c i) (none-in k c i)) items)

none-context : (c : WrittenContext) → BeginNone (context_entries c)
none-context c = none-cons (entry (codes "context") (BeginsContext ∷ [])) (entry c.name (NamesContext c.name ∷ []) ∷ kb_entries c.name c.kb) refl (none-cons (entry c.name (NamesContext c.name ∷ [])) (kb_entries c.name c.kb) refl (none-kb c.name c.kb))

pub none-contexts : (cs : List WrittenContext) → BeginNone (flat_map context_entries cs)
none-contexts cs = none-flat_map context_entries none-context cs

-- ---- places
-- the token is the first of the belief at the place
pub record IsFirstOf (p : WrittenPlace) (c : Name) (token : Token) : Type 0 where
  pub context : p.context ≡ c
  pub first : Entry
  pub rest : List Entry
  pub entries : whole_entries p.context p.belief ≡ first ∷ rest
  pub is_token : first.token ≡ token

first-of : (p : WrittenPlace) (ms : List Entry) → whole_entries p.context p.belief ≡ ms → (m : Entry) → IsAmong m (with_first (BeginsBelief p.context ∷ []) ms) → (c : Name) → IsAmong (BeginsBelief c) m.uses → IsFirstOf p c m.token
first-of p [] e m there c h = absurd there
first-of p (x ∷ xs) e m (inr there) c h = absurd (none-formula p.context 0 0 p.belief m (subst (IsAmong m) (sym e) (inr there)) c h)
first-of p (x ∷ xs) e m (inl same) c h = go (subst (λ (y : Entry). IsAmong (BeginsBelief c) y.uses) same h)
  where
    go : (BeginsBelief c ≡ BeginsBelief p.context) ⊎ IsAmong (BeginsBelief c) x.uses → IsFirstOf p c m.token
    go (inl alike) = record { context = cc; first = x; rest = xs; entries = e; is_token = ap (λ (y : Entry). y.token) (sym same) }
    go (inr later) = absurd (none-formula p.context 0 0 p.belief x (subst (IsAmong x) (sym e) (inl refl)) c later)

place-begins : (role : Use) (p : WrittenPlace) → list_all is_other (role ∷ []) ≡ true → (m : Entry) → IsAmong m (place_entries role p) → (c : Name) → IsAmong (BeginsBelief c) m.uses → IsFirstOf p c m.token
place-begins role p other m (inl same) c h = absurd (not-among (role ∷ []) other c (subst (λ (y : Entry). IsAmong (BeginsBelief c) y.uses) same h))
place-begins role p other m (inr (inl same)) c h = absurd (subst (λ (y : Entry). IsAmong (BeginsBelief c) y.uses) same h)
place-begins role p other m (inr (inr there)) c h = first-of p (whole_entries p.context p.belief) refl m there c h

-- one of the entries, with or without more uses
last-among : (us : List Use) (ms : List Entry) (m : Entry) → IsAmong m (with_last us ms) → (x : Entry) × IsAmong x ms × (x.token ≡ m.token) × ((m.uses ≡ us ++ x.uses) ⊎ (m ≡ x))
last-among us [] m there = absurd there
last-among us (x ∷ []) m (inl same) = (x, inl refl, ap (λ (y : Entry). y.token) (sym same), inl (ap (λ (y : Entry). y.uses) same))
last-among us (x ∷ []) m (inr there) = absurd there
last-among us (x ∷ y ∷ ms) m (inl same) = (x, inl refl, ap (λ (z : Entry). z.token) (sym same), inr same)
last-among us (x ∷ y ∷ ms) m (inr there) = let rest = last-among us (y ∷ ms) m there in (rest.0, inr rest.1, rest.2, rest.3)

read-begins : (target : Name) (r : WrittenRead) (m : Entry) → IsAmong m (read_entries target r) → (c : Name) → IsAmong (BeginsBelief c) m.uses → IsFirstOf r.place c m.token
read-begins target r m there c h = elim (among_either m (optional r.denied (codes "not")) _ there) [
  | inl here ↦ absurd (none-optional r.denied (codes "not") m here c h)
  | inr later ↦ within later
]
  where
    us : List Use
    us = EndsRead target (r.place).context (formula_in (r.place).belief) ∷ []

    ms : List Entry
    ms = place_entries (NamesSource (r.place).context) r.place

    without-last : (x : Entry) → (m.uses ≡ us ++ x.uses) ⊎ (m ≡ x) → IsAmong (BeginsBelief c) x.uses
    without-last x (inl same) = elim (among_either (BeginsBelief c) us x.uses (subst (IsAmong (BeginsBelief c)) same h)) [ inl here ↦ absurd (not-among us refl c here) | inr later ↦ later ]
    without-last x (inr same) = subst (λ (y : Entry). IsAmong (BeginsBelief c) y.uses) same h

    within : IsAmong m (with_last us ms) → IsFirstOf r.place c m.token
    within later =
        let (x, inside, token, uses) = last-among us ms m later in
        subst (IsFirstOf r.place c) token (place-begins (NamesSource (r.place).context) r.place refl x inside c (without-last x uses))

reads-begin : (target : Name) (rs : List WrittenRead) (m : Entry) → IsAmong m (reads_entries target rs) → (c : Name) → IsAmong (BeginsBelief c) m.uses → (r : WrittenRead) × IsAmong r rs × IsFirstOf r.place c m.token
reads-begin target [] m there c h = absurd there
reads-begin target (r ∷ rs) m (inl same) c h = absurd (subst (λ (y : Entry). IsAmong (BeginsBelief c) y.uses) same h)
reads-begin target (r ∷ rs) m (inr there) c h = elim (among_either m (read_entries target r) (flat_map (further_read target) rs) there) [
  | inl here ↦ (r, inl refl, read-begins target r m here c h)
  | inr later ↦ let (q, inside, found) = flat_map_among (further_read target) m rs later in further q inside found
]
  where
    further : (q : WrittenRead) → IsAmong q rs → IsAmong m (further_read target q) → (r' : WrittenRead) × IsAmong r' (r ∷ rs) × IsFirstOf r'.place c m.token
    further q inside (inl same) = absurd (subst (λ (y : Entry). IsAmong (BeginsBelief c) y.uses) same h)
    further q inside (inr there) = (q, inr inside, read-begins target q m there c h)

-- the token begins a belief at a place of the text
pub record BeginsAt (t : WrittenText) (c : Name) (token : Token) : Type 0 where
  pub place : WrittenPlace
  pub of_text : IsPlaceOf t place
  pub is_first : IsFirstOf place c token

none-weight : (w : Option Token) → BeginNone (weight_entries w)
none-weight None = none-nil
none-weight (Some digits) = none-cons (entry (codes "weight") []) (entry digits (Weighs (value_of_digits digits) ∷ []) ∷ []) refl (none-cons (entry digits (Weighs (value_of_digits digits) ∷ [])) [] refl none-nil)

none-marks : (m : WrittenMarks) → BeginNone (mark_entries m)
none-marks m = none-append (optional m.keep (codes "keep")) _ (none-optional m.keep (codes "keep")) (none-append (optional m.closed (codes "closed")) (weight_entries m.weight) (none-optional m.closed (codes "closed")) (none-weight m.weight))

none-version : (v : Bool) → BeginNone (version_entries v)
none-version true =
    none-cons (entry (codes "version") []) (entry (codes "2") [] ∷ entry (codes ".") [] ∷ []) refl
    (none-cons (entry (codes "2") []) (entry (codes ".") [] ∷ []) refl (none-cons (entry (codes ".") []) [] refl none-nil))
none-version false = none-nil

bridge-begins : (t : WrittenText) (b : WrittenBridge) → IsAmong b t.bridges → (m : Entry) → IsAmong m (bridge_entries b) → (c : Name) → IsAmong (BeginsBelief c) m.uses → BeginsAt t c m.token
bridge-begins t b inside m (inl same) c h = absurd (not-among (BeginsBridge ∷ []) refl c (subst (λ (y : Entry). IsAmong (BeginsBelief c) y.uses) same h))
bridge-begins t b inside m (inr (inl same)) c h = absurd (not-among (NamesBridge b.name ∷ []) refl c (subst (λ (y : Entry). IsAmong (BeginsBelief c) y.uses) same h))
bridge-begins t b inside m (inr (inr there)) c h = elim (among_either m (mark_entries b.marks) _ there) [ inl mark ↦ absurd (none-marks b.marks m mark c h) | inr later ↦ tail later ]
  where
    places : IsAmong m (place_entries (NamesTarget (b.head).context) b.head ++ (reads_entries (b.head).context b.reads ++ entry (codes ".") [] ∷ [])) → BeginsAt t c m.token
    places later = elim (among_either m (place_entries (NamesTarget (b.head).context) b.head) _ later) [
      | inl here ↦ record { place = b.head; of_text = OfHead b inside refl; is_first = place-begins (NamesTarget (b.head).context) b.head refl m here c h }
      | inr reads ↦ elim (among_either m (reads_entries (b.head).context b.reads) (entry (codes ".") [] ∷ []) reads) [
        | inl read ↦ let (r, among, first) = reads-begin (b.head).context b.reads m read c h in record { place = r.place; of_text = OfRead b inside r among refl; is_first = first }
        | inr last ↦ absurd (none-cons (entry (codes ".") []) [] refl none-nil m last c h)
      ]
    ]

    tail : IsAmong m (entry (codes ":") [] ∷ (place_entries (NamesTarget (b.head).context) b.head ++ (reads_entries (b.head).context b.reads ++ entry (codes ".") [] ∷ []))) → BeginsAt t c m.token
    tail (inl same) = absurd (subst (λ (y : Entry). IsAmong (BeginsBelief c) y.uses) same h)
    tail (inr later) = places later

pub text-begins : (t : WrittenText) (m : Entry) → IsAmong m (text_entries t) → (c : Name) → IsAmong (BeginsBelief c) m.uses → BeginsAt t c m.token
text-begins t m there c h = elim (among_either m (version_entries t.has_version) _ there) [
  | inl first ↦ absurd (none-version t.has_version m first c h)
  | inr parts ↦ elim (among_either m (flat_map context_entries t.contexts) (flat_map bridge_entries t.bridges) parts) [
    | inl here ↦ absurd (none-contexts t.contexts m here c h)
    | inr later ↦ let (b, inside, found) = flat_map_among bridge_entries m t.bridges later in bridge-begins t b inside m found c h
  ]
]
