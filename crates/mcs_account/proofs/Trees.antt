-- Parse trees of a grammar: what a text of it says, part by part, where each production has values of its own.
--
-- `Value n` are the values of a production, and `marks` how each is written.
use Rattle.std.proofs.Common.{List, [], ◌∷◌, ◌++◌, Option, Some, None, ◌⊎◌, inl, inr}
use Rattle.std.specs.List.{flat_map}
use Rattle.mcs_syntax.specs.Grammar.{Expr, Take, Say, Rule, Nothing, Then, Or, Maybe, Many}
use Rattle.mcs_account.specs.Mark.{Mark, Seen, Said}

abbrev pub if_some : {S M : Type 0} → (S → List M) → Option S → List M
if_some f None = []
if_some f (Some x) = f x

abbrev pub either : {S T M : Type 0} → (S → List M) → (T → List M) → S ⊎ T → List M
either f h (inl x) = f x
either f h (inr y) = h y

module _ {C A N X : Type 0} (Fill : C → Type 0) (token : (c : C) → Fill c → X) (Value : N → Type 0) (marks : (n : N) → Value n → List (Mark C A X)) where
  abbrev pub Tree : Expr C A N → Type 0
  Tree (Take c) = Fill c
  Tree (Say a) = Unit {0}
  Tree (Rule n) = Value n
  Tree Nothing = Unit {0}
  Tree (Then e f) = Tree e × Tree f
  Tree (Or e f) = Tree e ⊎ Tree f
  Tree (Maybe e) = Option (Tree e)
  Tree (Many e) = List (Tree e)

  -- how it is written
  abbrev pub flat : (e : Expr C A N) → Tree e → List (Mark C A X)
  flat (Take c) x = Seen c (token c x) ∷ []
  flat (Say a) x = Said a ∷ []
  flat (Rule n) v = marks n v
  flat Nothing x = []
  flat (Then e f) x = flat e x.0 ++ flat f x.1
  flat (Or e f) x = either (flat e) (flat f) x
  flat (Maybe e) x = if_some (flat e) x
  flat (Many e) xs = flat_map (flat e) xs
