-- What holds of each grammar that is read.
use Rattle.std.specs.Prelude.{◌≡◌, ◌↔◌, ℕ, ◌+◌, true, List, [], ◌++◌, Option, Some, is_some}
use Rattle.mcs_syntax.specs.declared.part.Event.{Event}
use Rattle.mcs_syntax.specs.Grammar.{Expr, Rule, Grammar, front}
use Rattle.mcs_syntax.specs.Reads.{Begins, HasRead, IsRead, Leads, starts}
use Rattle.mcs_syntax.specs.Operands.{Operands, IsBalanced, held}

-- the tokens of a text of a rule tell its events
abbrev pub TextsAreReadInOneWay : {C A N : Type 0} → Grammar C A N → Type 0
TextsAreReadInOneWay {C = C} {A = A} {N = N} g = (n : N) (ds : List ℕ) (xs ys : List (Event C A)) → IsRead g (Rule n) ds xs → IsRead g (Rule n) ds ys → xs ≡ ys

-- FIRST is exact: it has the kinds of the first tokens of the texts, and tells whether one has none
abbrev pub FirstsAreExact : {C A N : Type 0} → Grammar C A N → Type 0
FirstsAreExact {C = C} {A = A} {N = N} g = (e : Expr C A N) (k : Option ℕ) → (starts k (front g e) ≡ true) ↔ Leads g e k

-- what is read token by token is read in one
abbrev pub ReadsAreJoined : {C A N : Type 0} → Grammar C A N → Type 0
ReadsAreJoined {C = C} {A = A} {N = N} g =
    (e : Expr C A N) (ds vs : List ℕ) (xs ys : List (Event C A)) (s t : Expr C A N) → HasRead g e ds xs s → HasRead g s vs ys t → HasRead g e (ds ++ vs) (xs ++ ys) t

-- tokens go on after those that were read exactly where they begin a text of what is left
abbrev pub BeginningsAreJoined : {C A N : Type 0} → Grammar C A N → Type 0
BeginningsAreJoined {C = C} {A = A} {N = N} g =
    (e : Expr C A N) (ds vs : List ℕ) (xs : List (Event C A)) (s : Expr C A N) → HasRead g e ds xs s → (Begins g s vs → Begins g e (ds ++ vs)) × (Begins g e (ds ++ vs) → Begins g s vs)

-- the text is at its end where what is left is
abbrev pub EndsAreJoined : {C A N : Type 0} → Grammar C A N → Type 0
EndsAreJoined {C = C} {A = A} {N = N} g = (e : Expr C A N) (ds : List ℕ) (xs ys : List (Event C A)) (s : Expr C A N) → HasRead g e ds xs s → IsRead g s [] ys → IsRead g e ds (xs ++ ys)

-- each expression has a text
abbrev pub EachHasAText : {C A N : Type 0} → Grammar C A N → Type 0
EachHasAText {C = C} {A = A} {N = N} g = (e : Expr C A N) → (ds : List ℕ) × ((xs : List (Event C A)) × IsRead g e ds xs)

-- along a text of a rule no event meets fewer operands than it takes
abbrev pub OperandsAreThere : {C A N : Type 0} → Grammar C A N → Type 0
OperandsAreThere {C = C} {A = A} {N = N} g =
    (o : Operands C A N) → IsBalanced g o → (n : N) (ds : List ℕ) (xs : List (Event C A)) (s : Expr C A N) → HasRead g (Rule n) ds xs s → (k : ℕ) → is_some (held o xs (o.finds n + k)) ≡ true

-- and a whole one leaves what is said of the rule
abbrev pub TextsLeaveOperands : {C A N : Type 0} → Grammar C A N → Type 0
TextsLeaveOperands {C = C} {A = A} {N = N} g =
    (o : Operands C A N) → IsBalanced g o → (n : N) (ds : List ℕ) (xs : List (Event C A)) → IsRead g (Rule n) ds xs → (k : ℕ) → held o xs (o.finds n + k) ≡ Some (o.makes n + k)
