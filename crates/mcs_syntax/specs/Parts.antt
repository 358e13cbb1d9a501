-- A grammar as a flat list of parts, and what is still to come as a stack of places in it, the next one last.
use Rattle.std.specs.Prelude.{◌≡◌, ℕ, zero, suc, ◌+◌, ◌<◌, Bool, true, false, cond, ltb, ◌&&◌, List, [], ◌∷◌, ◌++◌, length, map, reverse, slice_get, Option, Some, None}
use Rattle.mcs_syntax.specs.declared.part.Event.{Event}
use Rattle.mcs_syntax.specs.declared.part.Part.{Part}
use Rattle.mcs_syntax.specs.declared.part.Part.TheVariants as part
use Rattle.mcs_syntax.specs.declared.step.Onward.{Onward}
use Rattle.mcs_syntax.specs.declared.step.Onward.TheVariants.{Stop, To, Down}
use Rattle.mcs_syntax.specs.Grammar.{Expr, Take, Say, Rule, Nothing, Then, Or, Maybe, Many, Grammar, front, fits, cost}
use Rattle.mcs_syntax.specs.Reads.{IsRead, HasRead, Turns, is_done, says_next}

-- the expression of a part, where its own parts stand for these
abbrev pub made_of : {C A N : Type 0} → (ℕ → Expr C A N) → Option (Part C A N) → Expr C A N
made_of at None = Nothing
made_of at (Some (part.Take c)) = Take c
made_of at (Some (part.Say a)) = Say a
made_of at (Some (part.Rule n)) = Rule n
made_of at (Some part.Nothing) = Nothing
made_of at (Some (part.Then i j)) = Then (at i) (at j)
made_of at (Some (part.Or i j)) = Or (at i) (at j)
made_of at (Some (part.Maybe i)) = Maybe (at i)
made_of at (Some (part.Many i)) = Many (at i)

abbrev pub decoded : {C A N : Type 0} → ℕ → List (Part C A N) → ℕ → Expr C A N
decoded zero parts k = Nothing
decoded (suc f) parts k = made_of (decoded f parts) (slice_get parts k)

-- the expression at a place
unfoldable pub expr_at : {C A N : Type 0} → List (Part C A N) → ℕ → Expr C A N
expr_at parts k = decoded (length parts) parts k

-- its own parts come after the part, within the list
abbrev pub is_later : {C A N : Type 0} → ℕ → ℕ → Part C A N → Bool
is_later k n (part.Take c) = true
is_later k n (part.Say a) = true
is_later k n (part.Rule m) = true
is_later k n part.Nothing = true
is_later k n (part.Then i j) = (ltb k i && ltb i n) && (ltb k j && ltb j n)
is_later k n (part.Or i j) = (ltb k i && ltb i n) && (ltb k j && ltb j n)
is_later k n (part.Maybe i) = ltb k i && ltb i n
is_later k n (part.Many i) = ltb k i && ltb i n

abbrev pub are_later : {C A N : Type 0} → ℕ → ℕ → List (Part C A N) → Bool
are_later k n [] = true
are_later k n (p ∷ ps) = is_later k n p && are_later (suc k) n ps

-- the list holds the rules of the grammar, each from its root on; for given ones each is a computation
pub record IsTable {C A N : Type 0} (g : Grammar C A N) (root : N → ℕ) (parts : List (Part C A N)) : Type 0 where
  pub later : are_later 0 (length parts) parts ≡ true
  pub inside : (n : N) → root n < length parts
  pub rules : (n : N) → expr_at parts (root n) ≡ g.rules n

-- ---- stacks
abbrev pub state : {C A N : Type 0} → List (Expr C A N) → Expr C A N
state [] = Nothing
state (e ∷ es) = Then e (state es)

-- the expressions at the places of a stack, that of the last place first
abbrev pub tops : {C A N : Type 0} → List (Part C A N) → List ℕ → List (Expr C A N)
tops parts places = map (expr_at parts) (reverse places)

-- what is still to come
abbrev pub coming : {C A N : Type 0} → List (Part C A N) → List ℕ → Expr C A N
coming parts places = state (tops parts places)

-- the same, from the parts and the stack of a reader
abbrev pub rest : {C A N : Type 0} → List (Part C A N) × List ℕ → Expr C A N
rest r = coming r.0 r.1

-- each place is one of the list
abbrev pub AreInside : ℕ → List ℕ → Type 0
AreInside n [] = Unit {0}
AreInside n (k ∷ ks) = (k < n) × AreInside n ks

-- a stack of a reader
abbrev pub IsStack : {C A N : Type 0} → Grammar C A N → List (Part C A N) → List ℕ → Type 0
IsStack g parts places = AreInside (length parts) places × (fits g 0 (coming parts places) ≡ true)

-- the place above the stack
abbrev pub above : {C A N : Type 0} → List (Part C A N) → ℕ → List ℕ → Expr C A N
above parts k places = Then (expr_at parts k) (coming parts places)

abbrev pub IsTop : {C A N : Type 0} → Grammar C A N → List (Part C A N) → ℕ → List ℕ → Type 0
IsTop g parts k places = (k < length parts) × AreInside (length parts) places × (fits g 0 (above parts k places) ≡ true)

-- how often what stands next is taken apart before a token is taken
abbrev pub due : {C A N : Type 0} → Grammar C A N → List (Expr C A N) → ℕ
due g [] = 0
due g (e ∷ es) = cost g e + cond (front g e).is_null (due g es) 0

-- what is taken apart before any token: an action, nothing or a sequence
abbrev pub is_plain : {C A N : Type 0} → Expr C A N → Bool
is_plain (Take c) = false
is_plain (Say a) = true
is_plain (Rule n) = false
is_plain Nothing = true
is_plain (Then e f) = true
is_plain (Or e f) = false
is_plain (Maybe e) = false
is_plain (Many e) = false

-- ---- the place that stands next, above the stack
abbrev pub with_next : Option ℕ → List ℕ → List ℕ
with_next None places = places
with_next (Some k) places = places ++ k ∷ []

abbrev pub moves : Onward → Bool
moves Stop = false
moves (To k) = true
moves Down = true

-- what is still to come then
abbrev pub left_by : Onward → List ℕ → List ℕ
left_by Stop places = places
left_by (To k) places = places ++ k ∷ []
left_by Down places = places

-- ---- what is promised of one step
-- what is plain is taken apart, and nothing else
abbrev pub IsTakenApart : {C A N : Type 0} (g : Grammar C A N) → List (Part C A N) → ℕ → Bool → (old new : List ℕ) → (said all : List (Event C A)) → Type 0
IsTakenApart {C = C} {A = A} g parts k taken old new said all =
    (taken ≡ true → (xs : List (Event C A)) × (all ≡ said ++ xs) × HasRead g (above parts k old) [] xs (coming parts new) × IsStack g parts new × (due g (tops parts new) < due g (expr_at parts k ∷ tops parts old)))
    × (taken ≡ false → (is_plain (expr_at parts k) ≡ false) × (is_done (expr_at parts k) ≡ false) × (says_next (expr_at parts k) ≡ false) × (new ≡ old) × (all ≡ said))

-- the actions that stand next are told
abbrev pub IsSettled : {C A N : Type 0} (g : Grammar C A N) → List (Part C A N) → (old new : List ℕ) → (said all : List (Event C A)) → Type 0
IsSettled {C = C} {A = A} g parts old new said all =
    (xs : List (Event C A)) × (all ≡ said ++ xs) × HasRead g (coming parts old) [] xs (coming parts new) × (says_next (coming parts new) ≡ false) × IsStack g parts new

-- the token is taken, or what stands next is taken apart as the token tells
abbrev pub IsTurned : {C A N : Type 0} (g : Grammar C A N) → List (Part C A N) → Option ℕ → ℕ → Bool → (old new : List ℕ) → (said all : List (Event C A)) → Type 0
IsTurned {C = C} {A = A} g parts kind k more old new said all =
    (xs : List (Event C A)) × (all ≡ said ++ xs) × IsStack g parts new × (more ≡ true → Turns g kind (above parts k old) xs (coming parts new) × (due g (tops parts new) < due g (expr_at parts k ∷ tops parts old)))
    × (more ≡ false → (d : ℕ) × (kind ≡ Some d) × HasRead g (above parts k old) (d ∷ []) xs (coming parts new))

-- the token is taken, or the text has ended
abbrev pub IsGone : {C A N : Type 0} (g : Grammar C A N) → List (Part C A N) → Option ℕ → (old new : List ℕ) → (said all : List (Event C A)) → Type 0
IsGone {C = C} {A = A} g parts kind old new said all =
    (xs : List (Event C A)) × (all ≡ said ++ xs) × IsStack g parts new × (kind ≡ None → IsRead g (coming parts old) [] xs) × ((d : ℕ) → kind ≡ Some d → HasRead g (coming parts old) (d ∷ []) xs (coming parts new))
