-- The period of a rule or an edit by itself is its last token, so nothing whole goes on.
use Rattle.std.proofs.Common.{◌≡◌, ℕ, ◌+◌, Bool, true, false, List, [], ◌∷◌, ◌++◌, codes, Option, Some, None, refl, sym, ap, subst, eqb, true≢false}
use Rattle.std.specs.Prelude.{slice_index, IsTrue}
use Rattle.std.specs.List.{AllByRecursion, flat_map}
use Rattle.std.proofs.lemmas.Bool.{eqb-false}
use Rattle.mcs_base.proofs.Each.{all_append}
use Rattle.mcs_system.specs.Plain.{Name}
use Rattle.mcs_tokens.specs.Tokens.{is_number}
use Rattle.mcs_grammar.specs.Written.{Written, True', False', Named, Prefixed, Grouped, Joins, HasNames, IsNameWord, IsPlace, IsWeight, WrittenPlace, WrittenRead, WrittenMarks, WrittenBridge, IsWrittenBridge}
use Rattle.mcs_grammar.specs.Entries.{Token, prefix_sign, joint_sign, Use, BeginsBridge, NamesBridge, NamesTarget, NamesSource, EndsRead, BeginsBelief, Entry, entry, with_first, with_last, optional, size_of, formula_entries, whole_entries, formula_in, place_entries, read_entries, further_read, reads_entries, weight_entries, mark_entries, bridge_entries, tokens_of}
use Rattle.mcs_account.proofs.Signs.{prefix-no-period, joint-no-period}
use Rattle.mcs_script.specs.Edits.{WrittenEdit, Adds, Drops, Lists, IsWrittenEdit, edit_entries}

abbrev period : Token
period = codes "."

-- ---- tokens that are no periods
abbrev NoPeriod : Token → Type 0
NoPeriod t = ¬ (t ≡ period)

abbrev Plain : List Entry → Type 0
Plain es = AllByRecursion (λ (m : Entry). NoPeriod m.token) es

word : (t : Token) → eqb (slice_index t 0) 46 ≡ false → NoPeriod t
word t other e = eqb-false (slice_index t 0) 46 other (ap (λ (u : Token). slice_index u 0) e)

name : (n : Name) → IsNameWord n → NoPeriod n
name n is e = let no : IsNameWord period = subst IsNameWord e is in true≢false (sym no)

digits : (t : Token) → IsTrue (is_number t) → NoPeriod t
digits t is e = let no : IsTrue (is_number period) = subst (λ (u : Token). IsTrue (is_number u)) e is in true≢false (sym no)

first-plain : (uses : List Use) (es : List Entry) → Plain es → Plain (with_first uses es)
first-plain uses [] h = tt
first-plain uses (m ∷ ms) h = h

last-plain : (uses : List Use) (es : List Entry) → Plain es → Plain (with_last uses es)
last-plain uses [] h = tt
last-plain uses (m ∷ []) h = h
last-plain uses (m ∷ n ∷ ms) h = (h.0, last-plain uses (n ∷ ms) h.1)

optional-plain : (b : Bool) (t : Token) → NoPeriod t → Plain (optional b t)
optional-plain true t h = (h, tt)
optional-plain false t h = tt

formula-plain : (c : Name) (n opened : ℕ) (f : Written) → HasNames f → Plain (formula_entries c n opened f)
formula-plain c n opened True' h = (word (codes "true") refl, tt)
formula-plain c n opened False' h = (word (codes "false") refl, tt)
formula-plain c n opened (Named a) h = (name a h, tt)
formula-plain c n opened (Prefixed p f) h = (word (prefix_sign p) (prefix-no-period p), formula-plain c (n + 1) opened f h)
formula-plain c n opened (Grouped f) h = (word (codes "(") refl, all_append _ (formula_entries c n (opened + 1) f) (entry (codes ")") [] ∷ []) (formula-plain c n (opened + 1) f h) (word (codes ")") refl, tt))
formula-plain c n opened (Joins j f g) h = all_append _ (formula_entries c n opened f) _ (formula-plain c n opened f h.0) (word (joint_sign j) (joint-no-period j), formula-plain c (n + size_of f + 1) opened g h.1)

place-plain : (role : Use) (p : WrittenPlace) → IsPlace p → Plain (place_entries role p)
place-plain role p h = (name p.context h.0, (word (codes ":") refl, first-plain (BeginsBelief p.context ∷ []) (whole_entries p.context p.belief) (formula-plain p.context 0 0 p.belief h.1.1)))

read-plain : (t : Name) (r : WrittenRead) → IsPlace r.place → Plain (read_entries t r)
read-plain t r h = all_append _ (optional r.denied (codes "not")) _ (optional-plain r.denied (codes "not") (word (codes "not") refl))
    (last-plain (EndsRead t r.place.context (formula_in r.place.belief) ∷ []) (place_entries (NamesSource r.place.context) r.place) (place-plain (NamesSource r.place.context) r.place h))

further-plain : (t : Name) (rs : List WrittenRead) → AllByRecursion (λ (r : WrittenRead). IsPlace r.place) rs → Plain (flat_map (further_read t) rs)
further-plain t [] h = tt
further-plain t (r ∷ rs) h = all_append _ (further_read t r) (flat_map (further_read t) rs) (word (codes ",") refl, read-plain t r h.0) (further-plain t rs h.1)

reads-plain : (t : Name) (rs : List WrittenRead) → AllByRecursion (λ (r : WrittenRead). IsPlace r.place) rs → Plain (reads_entries t rs)
reads-plain t [] h = tt
reads-plain t (r ∷ rs) h = (word (codes "if") refl, all_append _ (read_entries t r) (flat_map (further_read t) rs) (read-plain t r h.0) (further-plain t rs h.1))

weight-plain : (w : Option Token) → IsWeight w → Plain (weight_entries w)
weight-plain None h = tt
weight-plain (Some t) h = (word (codes "weight") refl, (digits t h.0, tt))

marks-plain : (m : WrittenMarks) → IsWeight m.weight → Plain (mark_entries m)
marks-plain m h = all_append _ (optional m.keep (codes "keep")) _ (optional-plain m.keep (codes "keep") (word (codes "keep") refl))
    (all_append _ (optional m.closed (codes "closed")) _ (optional-plain m.closed (codes "closed") (word (codes "closed") refl)) (weight-plain m.weight h))

-- ---- the last token alone is one
abbrev EndsOnce : List Token → Type 0
EndsOnce [] = ⊥
EndsOnce (t ∷ []) = t ≡ period
EndsOnce (t ∷ u ∷ ts) = NoPeriod t × EndsOnce (u ∷ ts)

one-before : (t : Token) (ts : List Token) → NoPeriod t → EndsOnce ts → EndsOnce (t ∷ ts)
one-before t [] h ends = absurd ends
one-before t (u ∷ ts) h ends = (h, ends)

plain-before : (es ds : List Entry) → Plain es → EndsOnce (tokens_of ds) → EndsOnce (tokens_of (es ++ ds))
plain-before [] ds h ends = ends
plain-before (e ∷ es) ds h ends = one-before e.token (tokens_of (es ++ ds)) h.0 (plain-before es ds h.1 ends)

-- so nothing follows it
ended-alone : (ts ws us : List Token) → EndsOnce ts → EndsOnce ws → ws ≡ ts ++ us → us ≡ []
ended-alone [] ws us ends ends' e = absurd ends
ended-alone (t ∷ []) ws us ends ends' e = at us (subst EndsOnce e ends')
  where
    at : (vs : List Token) → EndsOnce (t ∷ vs) → vs ≡ []
    at [] h = refl
    at (v ∷ vs) h = absurd (h.0 ends)
ended-alone (t ∷ u ∷ ts) ws us ends ends' e = ended-alone (u ∷ ts) (u ∷ (ts ++ us)) us ends.1 (subst EndsOnce e ends').1 refl

bridge-ends : (b : WrittenBridge) → IsWrittenBridge b → EndsOnce (tokens_of (bridge_entries b))
bridge-ends b g =
    let t : Name = b.head.context in
    let end : List Entry = entry period [] ∷ [] in
    let place : List Entry = place_entries (NamesTarget t) b.head in
    let reads : List Entry = reads_entries t b.reads in
    plain-before (entry (codes "bridge") (BeginsBridge ∷ []) ∷ entry b.name (NamesBridge b.name ∷ []) ∷ []) (mark_entries b.marks ++ entry (codes ":") [] ∷ (place ++ (reads ++ end))) (word (codes "bridge") refl, (name b.name g.0, tt))
    (plain-before (mark_entries b.marks) (entry (codes ":") [] ∷ (place ++ (reads ++ end))) (marks-plain b.marks g.3)
    (plain-before (entry (codes ":") [] ∷ []) (place ++ (reads ++ end)) (word (codes ":") refl, tt)
    (plain-before place (reads ++ end) (place-plain (NamesTarget t) b.head g.1) (plain-before reads end (reads-plain t b.reads g.2) refl))))

pub alone-rule : (v w : WrittenBridge) → IsWrittenBridge v → IsWrittenBridge w → (us : List Token) → tokens_of (bridge_entries w) ≡ tokens_of (bridge_entries v) ++ us → us ≡ []
alone-rule v w g h us e = ended-alone (tokens_of (bridge_entries v)) (tokens_of (bridge_entries w)) us (bridge-ends v g) (bridge-ends w h) e

edit-ends : (w : WrittenEdit) → IsWrittenEdit w → EndsOnce (tokens_of (edit_entries w))
edit-ends (Adds b) g = one-before (codes "add") (tokens_of (bridge_entries b)) (word (codes "add") refl) (bridge-ends b g)
edit-ends (Drops n) g = (word (codes "drop") refl, (name n g, refl))
edit-ends Lists g = (word (codes "list") refl, refl)

pub alone-edit : (v w : WrittenEdit) → IsWrittenEdit v → IsWrittenEdit w → (us : List Token) → tokens_of (edit_entries w) ≡ tokens_of (edit_entries v) ++ us → us ≡ []
alone-edit v w g h us e = ended-alone (tokens_of (edit_entries v)) (tokens_of (edit_entries w)) us (edit-ends v g) (edit-ends w h) e
