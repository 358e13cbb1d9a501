-- A text's entries, split at one of them; and how long lists without repeats can be.
use Rattle.std.proofs.Common.{◌≡◌, ℕ, zero, suc, ◌<◌, Bool, true, List, [], ◌∷◌, ◌++◌, take, Some, sym, ap, subst, ◌∙◌, arith, slice_get}
use Rattle.std.specs.Prelude.{count_by}
use Rattle.std.proofs.lemmas.Grind.{flat_map-append}
use Rattle.std.proofs.lemmas.Option.{same_Some}
use Rattle.mcs_base.specs.Listings.{IsAmong}
use Rattle.mcs_base.proofs.Sums.{count_some, count_by-append}
use Rattle.mcs_base.proofs.Among.{among_left, among_right}
use Rattle.mcs_grammar.specs.Entries.{Use, Entry, uses_of}

-- ---- what the entries before one are there for, what it is there for itself, and what comes after
pub record IsSplit (uses before here : List Use) : Type 0 where
  pub after : List Use
  pub whole : uses ≡ before ++ (here ++ after)

pub record IsSplitAt (entries : List Entry) (k : ℕ) (m : Entry) : Type 0 where
  pub after : List Entry
  pub whole : entries ≡ take k entries ++ m ∷ after

pub split-at : (entries : List Entry) (k : ℕ) (m : Entry) → slice_get entries k ≡ Some m → IsSplitAt entries k m
split-at [] k m is = cc
split-at (x ∷ xs) zero m is = record { after = xs; whole = ap (λ (y : Entry). y ∷ xs) (same_Some _ _ is) }
split-at (x ∷ xs) (suc k) m is = let rest = split-at xs k m is in record { after = rest.after; whole = ap (λ (ys : List Entry). x ∷ ys) rest.whole }

pub uses-split : (entries : List Entry) (k : ℕ) (m : Entry) → slice_get entries k ≡ Some m → IsSplit (uses_of entries) (uses_of (take k entries)) m.uses
uses-split entries k m is =
    let d = split-at entries k m is in
    record { after = uses_of d.after; whole = ap uses_of d.whole ∙ flat_map-append (λ (x : Entry). x.uses) (take k entries) (m ∷ d.after) }

pub among-before : (uses before here : List Use) (u : Use) → IsSplit uses before here → IsAmong u before → IsAmong u uses
among-before uses before here u s h = subst (IsAmong u) (sym s.whole) (among_left u before (here ++ s.after) h)

pub among-here : (uses before here : List Use) (u : Use) → IsSplit uses before here → IsAmong u here → IsAmong u uses
among-here uses before here u s h = subst (IsAmong u) (sym s.whole) (among_right u before (here ++ s.after) (among_left u here s.after h))

-- ---- counts
-- there is one more than before
pub count-more : (p : Use → Bool) (uses before here : List Use) (u : Use) → IsSplit uses before here → IsAmong u here → p u ≡ true → count_by p before < count_by p uses
count-more p uses before here u s h passes =
    let all = ap (count_by p) s.whole in
    let parts = count_by-append p before (here ++ s.after) in
    let rest = count_by-append p here s.after in
    let one = count_some p u here h passes in
    omega arith
