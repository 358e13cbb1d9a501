-- Each text of a grammar has a parse tree.
use Rattle.std.proofs.Common.{◌≡◌, List, [], ◌∷◌, ◌++◌, Some, None, inl, inr, refl, sym, ap, subst, ◌∙◌}
use Rattle.mcs_syntax.specs.Grammar.{Expr, Many, Means, takes, says, by_rule, nothing, both, left, right, without, with_it, no_more, one_more}
use Rattle.mcs_syntax.specs.declared.part.Event.{Event}
use Rattle.mcs_syntax.specs.declared.part.Event.TheVariants.{Took, Told}
use Rattle.mcs_account.specs.Mark.{Mark, Seen, Said, event_of, events_of, IsFilled, AreFilled}
use Rattle.std.specs.List.{AllByRecursion}
use Rattle.mcs_account.proofs.Trees.{Tree, flat}

pub all-parts : {B : Type 0} (P : B → Type 0) (xs ys : List B) → AllByRecursion P (xs ++ ys) → AllByRecursion P xs × AllByRecursion P ys
all-parts P [] ys h = (tt, h)
all-parts P (x ∷ xs) ys h = let r = all-parts P xs ys h.1 in ((h.0, r.0), r.1)

module _ {C A X : Type 0} where
  -- marks whose events are those of two parts
  pub record Split (ms : List (Mark C A X)) (xs ys : List (Event C A)) : Type 0 where
    pub front : List (Mark C A X)
    pub rest : List (Mark C A X)
    pub whole : front ++ rest ≡ ms
    pub first : events_of front ≡ xs
    pub later : events_of rest ≡ ys

  pub split : (ms : List (Mark C A X)) (xs ys : List (Event C A)) → events_of ms ≡ xs ++ ys → Split ms xs ys
  split ms [] ys e = record { front = []; rest = ms; whole = refl; first = refl; later = e }
  split [] (x ∷ xs) ys e = absurd (cc)
  split (m ∷ ms) (x ∷ xs) ys e =
      let one : event_of m ≡ x = cc in
      let more : events_of ms ≡ xs ++ ys = cc in
      let s = split ms xs ys more in
      record { front = m ∷ s.front; rest = s.rest; whole = ap (λ (l : List (Mark C A X)). m ∷ l) s.whole; first = ap (λ (l : List (Event C A)). event_of m ∷ l) s.first ∙ ap (λ (x' : Event C A). x' ∷ xs) one; later = s.later }

  front-none : (ms : List (Mark C A X)) → events_of ms ≡ [] → ms ≡ []
  front-none [] e = refl
  front-none (m ∷ ms) e = absurd (cc)

  one-taken : (ms : List (Mark C A X)) (c : C) → events_of ms ≡ Took c ∷ [] → (t : X) × (ms ≡ Seen c t ∷ [])
  one-taken [] c e = absurd (cc)
  one-taken (m ∷ ms) c e =
      let one : event_of m ≡ Took c = cc in
      let none : events_of ms ≡ [] = cc in
      let h = at m one in
      (h.0, ap (λ (l : List (Mark C A X)). m ∷ l) (front-none ms none) ∙ ap (λ (m' : Mark C A X). m' ∷ []) h.1)
    where
      at : (m : Mark C A X) → event_of m ≡ Took c → (t : X) × (m ≡ Seen c t)
      at (Seen d t) e = let same : d ≡ c = cc in (t, ap (λ (x : C). Seen x t) same)
      at (Said a) e = absurd (cc)

  one-told : (ms : List (Mark C A X)) (a : A) → events_of ms ≡ Told a ∷ [] → ms ≡ Said a ∷ []
  one-told [] a e = absurd (cc)
  one-told (m ∷ ms) a e =
      let one : event_of m ≡ Told a = cc in
      let none : events_of ms ≡ [] = cc in
      ap (λ (l : List (Mark C A X)). m ∷ l) (front-none ms none) ∙ ap (λ (m' : Mark C A X). m' ∷ []) (at m one)
    where
      at : (m : Mark C A X) → event_of m ≡ Told a → m ≡ Said a
      at (Seen d t) e = absurd (cc)
      at (Said b) e = let same : b ≡ a = cc in ap Said same

module _ {C A N X : Type 0} (rules : N → Expr C A N) (Fill : C → Type 0) (token : (c : C) → Fill c → X) (Value : N → Type 0) (marks : (n : N) → Value n → List (Mark C A X)) where
  abbrev pub HasTree : Expr C A N → List (Mark C A X) → Type 0
  HasTree e ms = (t : Tree Fill token Value marks e) × (flat Fill token Value marks e t ≡ ms)

  -- what the parts of a production say is what it says
  abbrev pub AreMade : Type 0
  AreMade = (n : N) (t : Tree Fill token Value marks (rules n)) → (v : Value n) × (marks n v ≡ flat Fill token Value marks (rules n) t)

  pub tree-of : AreMade → (e : Expr C A N) (xs : List (Event C A)) → Means C A N rules e xs → (ms : List (Mark C A X)) → events_of ms ≡ xs → AreFilled Fill token ms → HasTree e ms
  tree-of make e xs (takes c) ms is filled =
      let h = one-taken ms c is in
      let f = (subst (AreFilled Fill token) h.1 filled).0 in
      (f.0, ap (λ (t : X). Seen c t ∷ []) f.1 ∙ sym h.1)
  tree-of make e xs (says a) ms is filled = (tt, sym (one-told ms a is))
  tree-of make e zs (by_rule n xs m) ms is filled =
      let r = tree-of make (rules n) xs m ms is filled in
      let v = make n r.0 in
      (v.0, v.1 ∙ r.1)
  tree-of make e xs nothing ms is filled = (tt, sym (front-none ms is))
  tree-of make e zs (both a b xs ys m n) ms is filled =
      let s = split ms xs ys is in
      let f = all-parts (IsFilled Fill token) s.front s.rest (subst (AreFilled Fill token) (sym s.whole) filled) in
      let l = tree-of make a xs m s.front s.first f.0 in
      let r = tree-of make b ys n s.rest s.later f.1 in
      ((l.0, r.0), ap (λ (u : List (Mark C A X)). u ++ flat Fill token Value marks b r.0) l.1 ∙ ap (λ (u : List (Mark C A X)). s.front ++ u) r.1 ∙ s.whole)
  tree-of make e zs (left a b xs m) ms is filled = let l = tree-of make a xs m ms is filled in (inl l.0, l.1)
  tree-of make e zs (right a b xs m) ms is filled = let r = tree-of make b xs m ms is filled in (inr r.0, r.1)
  tree-of make e xs (without a) ms is filled = (None, sym (front-none ms is))
  tree-of make e zs (with_it a xs m) ms is filled = let l = tree-of make a xs m ms is filled in (Some l.0, l.1)
  tree-of make e xs (no_more a) ms is filled = ([], sym (front-none ms is))
  tree-of make e zs (one_more a xs ys m n) ms is filled =
      let s = split ms xs ys is in
      let f = all-parts (IsFilled Fill token) s.front s.rest (subst (AreFilled Fill token) (sym s.whole) filled) in
      let l = tree-of make a xs m s.front s.first f.0 in
      let r = tree-of make (Many a) ys n s.rest s.later f.1 in
      (l.0 ∷ r.0, ap (λ (u : List (Mark C A X)). u ++ flat Fill token Value marks (Many a) r.0) l.1 ∙ ap (λ (u : List (Mark C A X)). s.front ++ u) r.1 ∙ s.whole)
