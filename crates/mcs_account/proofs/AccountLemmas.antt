-- What the code of the account does to what it holds.
use Rattle.std.proofs.Common.{◌≡◌, ℕ, zero, suc, ◌+◌, ◌-◌, ◌<◌, Bool, true, false, drop, List, [], ◌∷◌, ◌++◌, map, reverse, length, get_or, set, refl, sym, ap, ◌∙◌, arith, append_assoc, append-nil, true≢false}
use Rattle.std.specs.Prelude.{min}
use Rattle.std.specs.List.{position_or_len, remove}
use Rattle.std.specs.Str.{bytes_eq}
use Rattle.std.proofs.lemmas.Slice.Eq.{bytes_eq-Decides}
use Rattle.std.proofs.Math.Seq.{drop-length}
use Rattle.std.proofs.lemmas.List.{map-append, reverse-append, reverse-reverse, nil_from_length}
use Rattle.mcs_system.specs.Plain.{Name}
use Rattle.mcs_system.specs.Plain as plain
use Rattle.mcs_system.specs.Logic.{same_name}
use Rattle.mcs_system.specs.Seen.{context_of, formula_of}
use Rattle.mcs_system.specs.declared.knowledge.Context as code_context
use Rattle.mcs_system.specs.declared.formula.Formula as code_formula
use Rattle.mcs_productions.specs.declared.class.Class.TheVariants as class
use Rattle.mcs_account.specs.Account.{Account, in_last, item_of, with_head, took, greatest_number, number_of}
use Rattle.mcs_account.specs.Images.{operands_of}

-- ---- formulas that wait
pub pushed-image : (fs : List code_formula.Formula) (f : code_formula.Formula) → operands_of (fs ++ f ∷ []) ≡ formula_of f ∷ operands_of fs
pushed-image fs f = ap reverse (map-append formula_of fs (f ∷ [])) ∙ reverse-append (map formula_of fs) (formula_of f ∷ [])

pub popped-image : (old fs : List code_formula.Formula) (f : code_formula.Formula) → old ≡ fs ++ f ∷ [] → operands_of old ≡ formula_of f ∷ operands_of fs
popped-image old fs f e = ap operands_of e ∙ pushed-image fs f

pub none-image : (old : List code_formula.Formula) → length old ≡ 0 → operands_of old ≡ []
none-image old e = ap operands_of (nil_from_length old e)

-- ---- the last one of a list changed
module _ {A B : Type 0} (g : A → B) (f : B → B) where
  last-at : (xs : List A) (n : ℕ) (x y : A) → n + 1 ≡ length xs → x ≡ get_or xs n x → g y ≡ f (g x) → map g (set xs n y) ≡ in_last f (map g xs)
  last-at [] n x y e is h = absurd (omega arith)
  last-at (a ∷ []) zero x y e is h = ap (λ (b : B). b ∷ []) (h ∙ ap (λ (z : A). f (g z)) is)
  last-at (a ∷ []) (suc n) x y e is h = absurd (omega arith)
  last-at (a ∷ b ∷ xs) zero x y e is h = absurd (omega arith)
  last-at (a ∷ b ∷ xs) (suc n) x y e is h = ap (λ (l : List B). g a ∷ l) (last-at (b ∷ xs) n x y (omega arith) is h)

  pub last-image : (xs : List A) (n : ℕ) (x y : A) → n ≡ length xs → 0 < n → x ≡ get_or xs (n - 1) x → g y ≡ f (g x) → map g (set xs (n - 1) y) ≡ in_last f (map g xs)
  last-image xs n x y many some is h = last-at xs (n - 1) x y (omega arith) is h

-- ---- items
abbrev default_of : plain.Formula → List plain.Formula → plain.Formula → plain.Item
default_of p js c = plain.Rule (record { pre = p; justs = js; conclusion = c })

one-more : (c p f : plain.Formula) (fs justs : List plain.Formula) → item_of c (f ∷ (fs ++ p ∷ [])) justs ≡ item_of c (fs ++ p ∷ []) (f ∷ justs)
one-more c p f [] justs = refl
one-more c p f (g ∷ gs) justs = refl

item-rest : (c p : plain.Formula) (fs justs : List plain.Formula) → item_of c (fs ++ p ∷ []) justs ≡ default_of p (reverse fs ++ justs) c
item-rest c p [] justs = refl
item-rest c p (f ∷ fs) justs =
    one-more c p f fs justs ∙ item-rest c p fs (f ∷ justs)
    ∙ ap (λ (l : List plain.Formula). default_of p l c) (sym (append_assoc (reverse fs) (f ∷ []) justs) ∙ ap (λ (l : List plain.Formula). l ++ justs) (sym (reverse-append (f ∷ []) fs)))

-- the last formula is the conclusion, the first the prerequisite
pub item-image : (pre : code_formula.Formula) (justs : List code_formula.Formula) (c : plain.Formula)
    → item_of c (operands_of (pre ∷ justs)) [] ≡ default_of (formula_of pre) (map formula_of justs) c
item-image pre justs c =
    ap (λ (l : List plain.Formula). item_of c l []) (reverse-append (formula_of pre ∷ []) (map formula_of justs)) ∙ item-rest c (formula_of pre) (operands_of justs) []
    ∙ ap (λ (l : List plain.Formula). default_of (formula_of pre) l c) (append-nil (reverse (operands_of justs)) ∙ reverse-reverse (map formula_of justs))

-- ---- the number of a context
abbrev pub names_of_code : List code_context.Context → List Name
names_of_code cs = map (λ (c : code_context.Context). c.name) cs

pub code-names : (cs : List code_context.Context) → map (λ (c : plain.Context). c.name) (map context_of cs) ≡ names_of_code cs
code-names [] = refl
code-names (c ∷ cs) = ap (λ (ns : List Name). c.name ∷ ns) (code-names cs)

-- the name of the context at a place, and those after it
pub name-here : (cs : List code_context.Context) (i j : ℕ) (c : code_context.Context) → j ≡ i + 1 → i < length cs → c ≡ get_or cs i c → drop i (names_of_code cs) ≡ c.name ∷ drop j (names_of_code cs)
name-here [] i j c e less is = absurd (omega arith)
name-here (d ∷ cs) i zero c e less is = absurd (omega arith)
name-here (d ∷ cs) zero (suc j) c e less is =
    let none : j ≡ 0 = omega arith in
    ap (λ (x : code_context.Context). x.name ∷ names_of_code cs) (sym is) ∙ ap (λ (k : ℕ). c.name ∷ drop k (names_of_code cs)) (sym none)
name-here (d ∷ cs) (suc i) (suc j) c e less is = name-here cs i j c (omega arith) (omega arith) is

-- looking for the first name that passes
module _ (p : Name → Bool) (names : List Name) (i : ℕ) (h : position_or_len p names ≡ i + position_or_len p (drop i names)) where
  pub found-here : (n : Name) (rest : List Name) → drop i names ≡ n ∷ rest → p n ≡ true → position_or_len p names ≡ i
  found-here n rest at is =
      let none : position_or_len p (n ∷ rest) ≡ 0 = rw is refl in
      let same : position_or_len p (drop i names) ≡ position_or_len p (n ∷ rest) = ap (position_or_len p) at in
      omega arith

  pub not-here : (n : Name) → drop i names ≡ n ∷ drop (i + 1) names → p n ≡ false → position_or_len p names ≡ (i + 1) + position_or_len p (drop (i + 1) names)
  not-here n at is =
      let one : position_or_len p (n ∷ drop (i + 1) names) ≡ 1 + position_or_len p (drop (i + 1) names) = rw is refl in
      let same : position_or_len p (drop i names) ≡ position_or_len p (n ∷ drop (i + 1) names) = ap (position_or_len p) at in
      omega arith

  pub nowhere : i ≡ length names → position_or_len p names ≡ i
  nowhere e =
      let none : drop i names ≡ [] = ap (λ (k : ℕ). drop k names) e ∙ drop-length names in
      let same : position_or_len p (drop i names) ≡ 0 = ap (position_or_len p) none in
      omega arith

-- so the number is that of the account
pub number-image : (cs : List code_context.Context) (name : Name) (i number : ℕ) → number ≡ min i greatest_number → position_or_len (same_name name) (names_of_code cs) ≡ i → number ≡ number_of (map context_of cs) name
number-image cs name i number e at = e ∙ ap (λ (k : ℕ). min k greatest_number) (sym at ∙ ap (position_or_len (same_name name)) (sym (code-names cs)))

-- a test of bytes the other way round
pub other-way : (x n m : Name) (e b : Bool) → m ≡ x → e ≡ bytes_eq m n → e ≡ b → same_name n x ≡ b
other-way x n m e b is test out = at (bytes_eq m n) (bytes_eq n x) refl refl
  where
    at : (p q : Bool) → bytes_eq m n ≡ p → bytes_eq n x ≡ q → q ≡ b
    at true true h k = sym h ∙ sym test ∙ out
    at false false h k = sym h ∙ sym test ∙ out
    at true false h k = let same : n ≡ x = sym ((bytes_eq-Decides m n).0 h) ∙ is in absurd (true≢false (sym ((bytes_eq-Decides n x).1 same) ∙ k))
    at false true h k = let same : m ≡ n = is ∙ sym ((bytes_eq-Decides n x).0 k) in absurd (true≢false (sym ((bytes_eq-Decides m n).1 same) ∙ h))

-- ---- the first one taken away
pub first-and-rest : {A : Type 0} (old new : List A) (x : A) → 0 < length old → x ≡ get_or old 0 x → new ≡ remove old 0 → old ≡ x ∷ new
first-and-rest [] new x some is rest = absurd (omega arith)
first-and-rest (y ∷ ys) new x some is rest = ap (λ z. z ∷ ys) (sym is) ∙ ap (λ l. x ∷ l) (sym rest)

-- ---- the end of a rule
last-same : {A : Type 0} (f : A → A) → ((x : A) → f x ≡ x) → (xs : List A) → in_last f xs ≡ xs
last-same f h [] = refl
last-same f h (x ∷ []) = ap (λ y. y ∷ []) (h x)
last-same f h (x ∷ y ∷ xs) = ap (λ l. x ∷ l) (last-same f h (y ∷ xs))

pub no-head : (a : Account) → a.operands ≡ [] → record a { operands = [] } ≡ took a class.EndsBridge []
no-head a none = ap (λ (l : List plain.Bridge). record a { bridges = l; operands = [] }) (sym (ap (λ (fs : List plain.Formula). in_last (with_head fs) a.bridges) none ∙ last-same (with_head []) (λ b. refl) a.bridges))
