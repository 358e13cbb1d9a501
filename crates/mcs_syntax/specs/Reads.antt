-- What is promised of the reader of a grammar.
use Rattle.std.specs.Prelude.{◌≡◌, ℕ, Bool, true, false, not, ◌&&◌, ◌||◌, List, ◌++◌, [], ◌∷◌, Option, Some, None}
use Rattle.mcs_sets.specs.Sets.{has}
use Rattle.mcs_syntax.specs.declared.front.Front.{Front}
use Rattle.mcs_syntax.specs.declared.part.Event.{Event}
use Rattle.mcs_syntax.specs.Grammar.{Expr, Take, Say, Rule, Nothing, Then, Or, Maybe, Many, Means, Grammar, tokens}

-- nothing is left of the expression but the empty text
abbrev pub is_done : {C A N : Type 0} → Expr C A N → Bool
is_done (Take c) = false
is_done (Say a) = false
is_done (Rule n) = false
is_done Nothing = true
is_done (Then e f) = is_done e && is_done f
is_done (Or e f) = false
is_done (Maybe e) = false
is_done (Many e) = false

-- an action stands next: no rule, choice or token comes before it
abbrev pub says_next : {C A N : Type 0} → Expr C A N → Bool
says_next (Take c) = false
says_next (Say a) = true
says_next (Rule n) = false
says_next Nothing = false
says_next (Then e f) = says_next e || (is_done e && says_next f)
says_next (Or e f) = false
says_next (Maybe e) = false
says_next (Many e) = false

-- the first token, if there is one
abbrev pub head_of : List ℕ → Option ℕ
head_of [] = None
head_of (d ∷ ds) = Some d

-- a text has this first token, or none
abbrev pub starts : Option ℕ → Front → Bool
starts None p = p.is_null
starts (Some d) p = has p.first d

-- a text that has a token has this first one
abbrev pub begun : Option ℕ → Front → Bool
begun None p = false
begun (Some d) p = has p.first d

-- of two expressions that are apart the first one is read
abbrev pub chooses : Option ℕ → Front → Front → Bool
chooses k p q = begun k p || (p.is_null && not (begun k q))

module _ {C A N : Type 0} (g : Grammar C A N) where
  -- the events are a text of the expression, with tokens of these kinds
  abbrev pub IsRead : Expr C A N → List ℕ → List (Event C A) → Type 0
  IsRead e ds xs = Means C A N g.rules e xs × (tokens g xs ≡ ds)

  -- tokens of these kinds begin a text of the expression
  abbrev pub Begins : Expr C A N → List ℕ → Type 0
  Begins e ds = (rest : List ℕ) × ((xs : List (Event C A)) × IsRead e (ds ++ rest) xs)

  -- a text of the expression has this first token, or none
  abbrev pub Leads : Expr C A N → Option ℕ → Type 0
  Leads e k = (xs : List (Event C A)) × Means C A N g.rules e xs × (head_of (tokens g xs) ≡ k)

-- the texts of the expression that begin with tokens of these kinds are those of the rest, after these events
pub record HasRead {C A N : Type 0} (g : Grammar C A N) (e : Expr C A N) (ds : List ℕ) (xs : List (Event C A)) (rest : Expr C A N) : Type 0 where
  pub tokens_are : tokens g xs ≡ ds
  pub goes_on : (ys : List (Event C A)) → Means C A N g.rules rest ys → Means C A N g.rules e (xs ++ ys)
  pub holds_all : (zs : List (Event C A)) (more : List ℕ) → IsRead g e (ds ++ more) zs → (ys : List (Event C A)) × (zs ≡ xs ++ ys) × Means C A N g.rules rest ys

-- the same for the texts of the expression with this first token, or with none, where the events have no token
pub record Turns {C A N : Type 0} (g : Grammar C A N) (k : Option ℕ) (e : Expr C A N) (xs : List (Event C A)) (rest : Expr C A N) : Type 0 where
  pub silent : tokens g xs ≡ []
  pub goes_on : (ys : List (Event C A)) → Means C A N g.rules rest ys → Means C A N g.rules e (xs ++ ys)
  pub holds_all : (zs : List (Event C A)) → Means C A N g.rules e zs → head_of (tokens g zs) ≡ k → (ys : List (Event C A)) × (zs ≡ xs ++ ys) × Means C A N g.rules rest ys

-- what a reader is in: events are added, of which the tokens are of these kinds, and no action is left for later that
-- stands next
abbrev pub Goes : {C A N : Type 0} (g : Grammar C A N) → Expr C A N → List ℕ → Expr C A N → (old new : List (Event C A)) → Type 0
Goes {C = C} {A = A} g e ds rest old new = (xs : List (Event C A)) × (new ≡ old ++ xs) × HasRead g e ds xs rest × (says_next rest ≡ false)

-- the token is taken, or no text goes on with it and nothing has changed
abbrev pub IsTaken : {C A N : Type 0} (g : Grammar C A N) → Bool → ℕ → (rest left : Expr C A N) → (old new : List (Event C A)) → Type 0
IsTaken g taken d rest left old new =
    (taken ≡ true → Begins g rest (d ∷ []) × Goes g rest (d ∷ []) left old new) × (taken ≡ false → ((Begins g rest (d ∷ []) → ⊥) × (left ≡ rest) × (new ≡ old)))

-- the text ends here, or there is no text that ends here and nothing has changed
abbrev pub IsEnded : {C A N : Type 0} (g : Grammar C A N) → Bool → (rest left : Expr C A N) → (old new : List (Event C A)) → Type 0
IsEnded {C = C} {A = A} g ended rest left old new =
    (ended ≡ true → (xs : List (Event C A)) × (new ≡ old ++ xs) × IsRead g rest [] xs) × (ended ≡ false → (((xs : List (Event C A)) → IsRead g rest [] xs → ⊥) × (left ≡ rest) × (new ≡ old)))
