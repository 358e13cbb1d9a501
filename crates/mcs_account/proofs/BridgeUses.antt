-- What the tokens of a bridge rule are there for.
use Rattle.std.proofs.Common.{◌≡◌, Bool, true, codes, Option, Some, None, List, [], ◌∷◌, ◌++◌, refl, sym, ap, ◌∙◌, inl, inr, ◌⊎◌, subst}
use Rattle.std.specs.List.{flat_map}
use Rattle.mcs_base.specs.Listings.{IsAmong}
use Rattle.mcs_base.specs.Numbers.{value_of_digits}
use Rattle.mcs_base.proofs.Among.{among_left, among_right, among_either}
use Rattle.mcs_system.specs.Plain.{Name}
use Rattle.mcs_grammar.specs.Written.{WrittenPlace, WrittenRead, WrittenMarks, WrittenBridge}
use Rattle.mcs_grammar.specs.Entries.{Token, Use, BeginsBridge, NamesBridge, Weighs, NamesTarget, NamesSource, BeginsBelief, EndsRead, Entry, entry, with_last, formula_in, whole_entries, place_entries, read_entries, further_read, reads_entries, optional, weight_entries, mark_entries, bridge_entries, uses_of}
use Rattle.mcs_account.proofs.EntryLists.{formula-some, uses-append, uses-first, uses-end, among-last, last-among, among-append, append-left, append-right, among-parts, parts-among}
use Rattle.mcs_account.proofs.RuleUses.{optional-uses}
use Rattle.mcs_account.proofs.ContextUses.{formula_uses, in_formula, formula-in}

-- ---- places
place-all : (role : Use) (p : WrittenPlace) → uses_of (place_entries role p) ≡ role ∷ BeginsBelief p.context ∷ formula_uses p.context p.belief
place-all role p = ap (λ (us : List Use). role ∷ us) (uses-first (BeginsBelief p.context ∷ []) (whole_entries p.context p.belief) (formula-some p.context 0 0 p.belief))

-- a use of a place
abbrev pub IsPlaceUse : Use → WrittenPlace → Use → Type 0
IsPlaceUse role p u = (u ≡ role) ⊎ ((u ≡ BeginsBelief p.context) ⊎ IsAmong u (formula_uses p.context p.belief))

place-uses : (role : Use) (p : WrittenPlace) (u : Use) → IsAmong u (uses_of (place_entries role p)) → IsPlaceUse role p u
place-uses role p u h = subst (IsAmong u) (place-all role p) h

uses-place : (role : Use) (p : WrittenPlace) (u : Use) → IsPlaceUse role p u → IsAmong u (uses_of (place_entries role p))
uses-place role p u h = subst (IsAmong u) (sym (place-all role p)) h

-- ---- reads
abbrev pub read_end : Name → WrittenRead → Use
read_end target r = EndsRead target (r.place).context (formula_in (r.place).belief)

abbrev pub IsReadUse : Name → WrittenRead → Use → Type 0
IsReadUse target r u = (u ≡ read_end target r) ⊎ IsPlaceUse (NamesSource (r.place).context) r.place u

abbrev read_places : Name → WrittenRead → List Entry
read_places target r = with_last (read_end target r ∷ []) (place_entries (NamesSource (r.place).context) r.place)

read-all : (target : Name) (r : WrittenRead) → uses_of (read_entries target r) ≡ uses_of (read_places target r)
read-all target r = optional-uses r.denied (codes "not") (read_places target r)

read-uses : (target : Name) (r : WrittenRead) (u : Use) → IsAmong u (uses_of (read_entries target r)) → IsReadUse target r u
read-uses target r u h = at (among-last u (read_end target r ∷ []) (place_entries (NamesSource (r.place).context) r.place) (subst (IsAmong u) (read-all target r) h))
  where
    at : IsAmong u (read_end target r ∷ []) ⊎ IsAmong u (uses_of (place_entries (NamesSource (r.place).context) r.place)) → IsReadUse target r u
    at (inl (inl e)) = inl e
    at (inl (inr none)) = absurd none
    at (inr b) = inr (place-uses (NamesSource (r.place).context) r.place u b)

uses-read : (target : Name) (r : WrittenRead) (u : Use) → IsReadUse target r u → IsAmong u (uses_of (read_entries target r))
uses-read target r u h = subst (IsAmong u) (sym (read-all target r)) (last-among u (read_end target r ∷ []) (place_entries (NamesSource (r.place).context) r.place) tt (at h))
  where
    at : IsReadUse target r u → IsAmong u (read_end target r ∷ []) ⊎ IsAmong u (uses_of (place_entries (NamesSource (r.place).context) r.place))
    at (inl e) = inl (inl e)
    at (inr b) = inr (uses-place (NamesSource (r.place).context) r.place u b)

abbrev IsReadsUse : Name → List WrittenRead → Use → Type 0
IsReadsUse target rs u = (r : WrittenRead) × IsAmong r rs × IsReadUse target r u

reads-uses : (target : Name) (rs : List WrittenRead) (u : Use) → IsAmong u (uses_of (reads_entries target rs)) → IsReadsUse target rs u
reads-uses target [] u h = absurd h
reads-uses target (r ∷ rs) u h = at (among-append u (read_entries target r) (flat_map (further_read target) rs) h)
  where
    at : IsAmong u (uses_of (read_entries target r)) ⊎ IsAmong u (uses_of (flat_map (further_read target) rs)) → IsReadsUse target (r ∷ rs) u
    at (inl a) = (r, inl refl, read-uses target r u a)
    at (inr b) = let (q, there, here) = among-parts u (further_read target) rs b in (q, inr there, read-uses target q u here)

uses-reads : (target : Name) (rs : List WrittenRead) (u : Use) (r : WrittenRead) → IsAmong r rs → IsReadUse target r u → IsAmong u (uses_of (reads_entries target rs))
uses-reads target [] u r there h = absurd there
uses-reads target (q ∷ rs) u r (inl e) h = append-left u (read_entries target q) (flat_map (further_read target) rs) (uses-read target q u (subst (λ (x : WrittenRead). IsReadUse target x u) e h))
uses-reads target (q ∷ rs) u r (inr there) h = append-right u (read_entries target q) (flat_map (further_read target) rs) (parts-among u (further_read target) rs r there (uses-read target r u h))

-- ---- bridge rules
pub data BridgeUse (b : WrittenBridge) (u : Use) : Type 0 where
  OfBridge : (is : u ≡ BeginsBridge) → BridgeUse b u
  OfName : (is : u ≡ NamesBridge b.name) → BridgeUse b u
  OfWeight : (digits : Token) (said : b.marks.weight ≡ Some digits) (is : u ≡ Weighs (value_of_digits digits)) → BridgeUse b u
  OfHead : (here : IsPlaceUse (NamesTarget (b.head).context) b.head u) → BridgeUse b u
  OfRead : (r : WrittenRead) (there : IsAmong r b.reads) (here : IsReadUse (b.head).context r u) → BridgeUse b u

abbrev head_part : WrittenBridge → List Entry
head_part b = place_entries (NamesTarget (b.head).context) b.head

abbrev pub reads_part : WrittenBridge → List Entry
reads_part b = reads_entries (b.head).context b.reads

-- the use of the number of a weight
abbrev pub weight_uses : Option Token → List Use
weight_uses None = []
weight_uses (Some digits) = Weighs (value_of_digits digits) ∷ []

mark-all : (m : WrittenMarks) (es : List Entry) → uses_of (mark_entries m ++ es) ≡ weight_uses m.weight ++ uses_of es
mark-all m es = uses-append (mark_entries m) es ∙ ap (λ (us : List Use). us ++ uses_of es)
    (optional-uses m.keep (codes "keep") (optional m.closed (codes "closed") ++ weight_entries m.weight) ∙ optional-uses m.closed (codes "closed") (weight_entries m.weight) ∙ at m.weight)
  where
    at : (w : Option Token) → uses_of (weight_entries w) ≡ weight_uses w
    at None = refl
    at (Some digits) = refl

pub bridge-all : (b : WrittenBridge) → uses_of (bridge_entries b) ≡ BeginsBridge ∷ NamesBridge b.name ∷ (weight_uses b.marks.weight ++ (uses_of (head_part b) ++ uses_of (reads_part b)))
bridge-all b = ap (λ (us : List Use). BeginsBridge ∷ NamesBridge b.name ∷ us)
    (mark-all b.marks (entry (codes ":") [] ∷ (head_part b ++ (reads_part b ++ entry (codes ".") [] ∷ [])))
    ∙ ap (λ (us : List Use). weight_uses b.marks.weight ++ us)
    (uses-append (head_part b) (reads_part b ++ entry (codes ".") [] ∷ []) ∙ ap (λ (us : List Use). uses_of (head_part b) ++ us) (uses-end (reads_part b) (entry (codes ".") []) refl)))

-- what comes after the name of the head's context
abbrev pub later_uses : WrittenBridge → List Use
later_uses b = BeginsBelief (b.head).context ∷ (formula_uses (b.head).context (b.head).belief ++ uses_of (reads_part b))

pub bridge-front : (b : WrittenBridge) → uses_of (bridge_entries b) ≡ BeginsBridge ∷ NamesBridge b.name ∷ (weight_uses b.marks.weight ++ NamesTarget (b.head).context ∷ later_uses b)
bridge-front b = bridge-all b ∙ ap (λ (us : List Use). BeginsBridge ∷ NamesBridge b.name ∷ (weight_uses b.marks.weight ++ (us ++ uses_of (reads_part b)))) (place-all (NamesTarget (b.head).context) b.head)

weight-said : (b : WrittenBridge) (u : Use) (w : Option Token) → b.marks.weight ≡ w → IsAmong u (weight_uses w) → BridgeUse b u
weight-said b u None is h = absurd h
weight-said b u (Some digits) is (inl e) = OfWeight digits is e
weight-said b u (Some digits) is (inr none) = absurd none

pub bridge-uses : (b : WrittenBridge) (u : Use) → IsAmong u (uses_of (bridge_entries b)) → BridgeUse b u
bridge-uses b u h = at (subst (IsAmong u) (bridge-all b) h)
  where
    rest : IsAmong u (uses_of (head_part b)) ⊎ IsAmong u (uses_of (reads_part b)) → BridgeUse b u
    rest (inl a) = OfHead (place-uses (NamesTarget (b.head).context) b.head u a)
    rest (inr c) = let (r, there, here) = reads-uses (b.head).context b.reads u c in OfRead r there here

    later : IsAmong u (weight_uses b.marks.weight) ⊎ IsAmong u (uses_of (head_part b) ++ uses_of (reads_part b)) → BridgeUse b u
    later (inl a) = weight-said b u b.marks.weight refl a
    later (inr c) = rest (among_either u (uses_of (head_part b)) (uses_of (reads_part b)) c)

    at : (u ≡ BeginsBridge) ⊎ ((u ≡ NamesBridge b.name) ⊎ IsAmong u (weight_uses b.marks.weight ++ (uses_of (head_part b) ++ uses_of (reads_part b)))) → BridgeUse b u
    at (inl e) = OfBridge e
    at (inr (inl e)) = OfName e
    at (inr (inr h)) = later (among_either u (weight_uses b.marks.weight) (uses_of (head_part b) ++ uses_of (reads_part b)) h)

pub uses-bridge : (b : WrittenBridge) (u : Use) → BridgeUse b u → IsAmong u (uses_of (bridge_entries b))
uses-bridge b u h = subst (IsAmong u) (sym (bridge-all b)) (at h)
  where
    after : IsAmong u (uses_of (head_part b) ++ uses_of (reads_part b)) → IsAmong u (weight_uses b.marks.weight ++ (uses_of (head_part b) ++ uses_of (reads_part b)))
    after h = among_right u (weight_uses b.marks.weight) (uses_of (head_part b) ++ uses_of (reads_part b)) h

    at : BridgeUse b u → (u ≡ BeginsBridge) ⊎ ((u ≡ NamesBridge b.name) ⊎ IsAmong u (weight_uses b.marks.weight ++ (uses_of (head_part b) ++ uses_of (reads_part b))))
    at (OfBridge is) = inl is
    at (OfName is) = inr (inl is)
    at (OfWeight digits said is) = inr (inr (among_left u (weight_uses b.marks.weight) (uses_of (head_part b) ++ uses_of (reads_part b)) (subst (λ (w : Option Token). IsAmong u (weight_uses w)) (sym said) (inl is))))
    at (OfHead here) = inr (inr (after (among_left u (uses_of (head_part b)) (uses_of (reads_part b)) (uses-place (NamesTarget (b.head).context) b.head u here))))
    at (OfRead r there here) = inr (inr (after (among_right u (uses_of (head_part b)) (uses_of (reads_part b)) (uses-reads (b.head).context b.reads u r there here))))

-- ---- of which kind they are
abbrev pub in_place : Use → Bool
in_place (BeginsBelief c) = true
in_place u = in_formula u

abbrev pub in_read : Use → Bool
in_read (EndsRead t c f) = true
in_read (NamesSource c) = true
in_read u = in_place u

abbrev pub in_bridge : Use → Bool
in_bridge BeginsBridge = true
in_bridge (NamesBridge b) = true
in_bridge (Weighs w) = true
in_bridge (NamesTarget c) = true
in_bridge u = in_read u

place-more : (u : Use) → in_formula u ≡ true → in_place u ≡ true
place-more (BeginsBelief c) h = refl
place-more u h = h

read-more : (u : Use) → in_place u ≡ true → in_read u ≡ true
read-more (EndsRead t c f) h = refl
read-more (NamesSource c) h = refl
read-more u h = h

bridge-more : (u : Use) → in_read u ≡ true → in_bridge u ≡ true
bridge-more BeginsBridge h = refl
bridge-more (NamesBridge b) h = refl
bridge-more (Weighs w) h = refl
bridge-more (NamesTarget c) h = refl
bridge-more u h = h

pub place-in : (p : WrittenPlace) (u : Use) → (u ≡ BeginsBelief p.context) ⊎ IsAmong u (formula_uses p.context p.belief) → in_place u ≡ true
place-in p u (inl e) = ap in_place e
place-in p u (inr here) = place-more u (formula-in p.context p.belief u here)

pub read-in : (target : Name) (r : WrittenRead) (u : Use) → IsReadUse target r u → in_read u ≡ true
read-in target r u (inl e) = ap in_read e
read-in target r u (inr (inl e)) = ap in_read e
read-in target r u (inr (inr h)) = read-more u (place-in r.place u h)

pub later-in : (b : WrittenBridge) (u : Use) → IsAmong u (later_uses b) → in_read u ≡ true
later-in b u (inl e) = ap in_read e
later-in b u (inr later) = at (among_either u (formula_uses (b.head).context (b.head).belief) (uses_of (reads_part b)) later)
  where
    at : IsAmong u (formula_uses (b.head).context (b.head).belief) ⊎ IsAmong u (uses_of (reads_part b)) → in_read u ≡ true
    at (inl a) = read-more u (place-in b.head u (inr a))
    at (inr c) = let (r, there, here) = reads-uses (b.head).context b.reads u c in read-in (b.head).context r u here

pub bridge-in : (b : WrittenBridge) (u : Use) → BridgeUse b u → in_bridge u ≡ true
bridge-in b u (OfBridge is) = ap in_bridge is
bridge-in b u (OfName is) = ap in_bridge is
bridge-in b u (OfWeight digits said is) = ap in_bridge is
bridge-in b u (OfHead (inl e)) = ap in_bridge e
bridge-in b u (OfHead (inr h)) = bridge-more u (read-more u (place-in b.head u h))
bridge-in b u (OfRead r there here) = bridge-more u (read-in (b.head).context r u here)
