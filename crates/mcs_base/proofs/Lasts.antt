-- Lists of lists: what is put before the first of them, and after the last.
use Rattle.std.proofs.Common.{◌≡◌, Bool, true, false, cond, List, [], ◌∷◌, ◌++◌, refl, ap, ◌∙◌}
use Rattle.std.specs.List.{flat_map}

-- put before the items of the first
abbrev pub onto_first : {A : Type 0} → A → List (List A) → List (List A)
onto_first x [] = []
onto_first x (xs ∷ rest) = (x ∷ xs) ∷ rest

-- the items are put after those of the last
abbrev pub AddsLast : {A : Type 0} → List (List A) → List A → List (List A) → Type 0
AddsLast {A} old items new = (before : List (List A)) × (last : List A) × (old ≡ before ++ last ∷ []) × (new ≡ before ++ (last ++ items) ∷ [])

module _ {A : Type 0} where
  pub adds-after : (xs : List A) (old new : List (List A)) (items : List A) → AddsLast old items new → AddsLast (xs ∷ old) items (xs ∷ new)
  adds-after xs old new items (before, last, e, e') = (xs ∷ before, last, ap (λ (rest : List (List A)). xs ∷ rest) e, ap (λ (rest : List (List A)). xs ∷ rest) e')

  pub adds-onto : (x : A) (old new : List (List A)) (items : List A) → AddsLast old items new → AddsLast (onto_first x old) items (onto_first x new)
  adds-onto x old new items ([], last, e, e') = ([], x ∷ last, ap (onto_first x) e, ap (onto_first x) e')
  adds-onto x old new items (xs ∷ before, last, e, e') = ((x ∷ xs) ∷ before, last, ap (onto_first x) e, ap (onto_first x) e')

  pub adds-as : (old old' new new' : List (List A)) (items : List A) → old' ≡ old → new' ≡ new → AddsLast old items new → AddsLast old' items new'
  adds-as old old' new new' items e e' (before, last, is, is') = (before, last, e ∙ is, e' ∙ is')

  -- an item begins the first of the lists, or a list of its own
  pub flat_begun : (b : Bool) (x : A) (xs : List A) (rest : List (List A)) → flat_map (λ (ys : List A). ys) (cond b [] (x ∷ xs) ∷ cond b ((x ∷ xs) ∷ rest) rest) ≡ x ∷ (xs ++ flat_map (λ (ys : List A). ys) rest)
  flat_begun true x xs rest = refl
  flat_begun false x xs rest = refl
