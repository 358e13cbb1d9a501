-- Tests and what they choose, beyond std's lemmas.
use Rattle.std.proofs.Common.{◌≡◌, ℕ, ◌<◌, zero, suc, Bool, true, false, not, ◌&&◌, ◌||◌, cond, Option, Some, None, IsTrue, refl, sym, subst, inl, inr, ◌⊎◌, ◌↔◌, arith, true≢false, ◌∙◌}
use Rattle.std.proofs.lemmas.Bool.{cases_eq, or_parts}
use Rattle.std.specs.Option.{IfNone, is_some}
use Rattle.std.proofs.lemmas.Option.{same_Some, none-some}
use Rattle.std.specs.Bool.{Decides}

-- ---- equations
pub or_swap : (a b c : Bool) → (a || (b || c)) ≡ (b || (a || c))
or_swap a b c = grind arith

pub or_across : (a b c d : Bool) → ((a || b) || (c || d)) ≡ ((a || c) || (b || d))
or_across a b c d = grind arith

pub or_last : (a b c : Bool) → (a || (b || c)) ≡ ((b || a) || c)
or_last a b c = grind arith

pub cond-cond : (a b : Bool) (n : ℕ) → cond a (cond b n 0) 0 ≡ cond b (cond a n 0) 0
cond-cond a b n = grind arith

-- ---- what a test tells
pub implied : (a b : Bool) → (a && not b) ≡ false → a ≡ true → b ≡ true
implied a b e is = grind arith

pub not_refuted : (a b : Bool) → (a ≡ true → b ≡ true) → (a && not b) ≡ false
not_refuted a b implies = grind arith

pub false_tells : {P : Type 0} → ¬ P → IsTrue false ↔ P
false_tells never = (λ h. absurd (true≢false (sym h)), λ p. absurd (never p))

pub decides_both : {P Q R : Type 0} (b : Bool) → P ↔ (Q × R) → Q → Decides b R → IsTrue b ↔ P
decides_both b is q tells = (λ h. is.1 (q, tells.0 h), λ p. tells.1 (is.0 p).1)

pub decides_false : {P : Type 0} (b : Bool) → b ≡ false → (P → b ≡ true) → IsTrue b ↔ P
decides_false b e needs = (λ h. absurd (true≢false (sym h ∙ e)), needs)

-- the test of what is decided
pub test_of : {P : Type 0} → P ⊎ (¬ P) → Bool
test_of (inl h) = true
test_of (inr h) = false

pub test_of-tells : {P : Type 0} (d : P ⊎ (¬ P)) → (test_of d ≡ true) ↔ P
unfolding test_of
test_of-tells (inl h) = (λ _. h, λ _. refl)
test_of-tells (inr h) = (λ e. absurd (true≢false (sym e)), λ p. absurd (h p))

pub cases_all_below : (P : ℕ → Type 0) (n : ℕ) → ((i : ℕ) → i < n → P i ⊎ (¬ P i)) → ((i : ℕ) → i < n → P i) ⊎ (¬ ((i : ℕ) → i < n → P i))
cases_all_below P zero each = inl (λ i less. absurd (omega arith))
cases_all_below P (suc n) each = elim (cases_all_below P n (λ i less. each i (omega arith))) [
  | inr not ↦ inr (λ all. not (λ i less. all i (omega arith)))
  | inl below ↦ elim (each n (omega arith)) [
    | inr not ↦ inr (λ all. not (all n (omega arith)))
    | inl last ↦ inl (λ i less. elim (cases_eq n i) [ inl same ↦ subst P same last | inr differ ↦ below i (omega arith) ])
  ]
]

-- ---- what is chosen
pub cond-same : {A : Type 0} (b : Bool) (x : A) → cond b x x ≡ x
cond-same true x = refl
cond-same false x = refl

pub cond_none : {A : Type 0} (b : Bool) (x : A) (rest : Option A) → b ≡ false → rest ≡ None → cond b (Some x) rest ≡ None
cond_none b x rest e none = rw (e, none) refl

pub cond_none_parts : {A : Type 0} (b : Bool) (x : A) (rest : Option A) → cond b (Some x) rest ≡ None → (b ≡ false) × (rest ≡ None)
cond_none_parts true x rest e = cc
cond_none_parts false x rest e = (refl, e)

pub by_cond : {A P : Type 0} (b : Bool) (x y z : A) → cond b x y ≡ z → (b ≡ true → x ≡ z → P) → (b ≡ false → y ≡ z → P) → P
by_cond true x y z e first second = first refl e
by_cond false x y z e first second = second refl e

-- ---- the first of four or five that is chosen
pub first_of_four : {A : Type 0} (a b c d : Bool) (v w x y : A) (z : Option A) → (a || (b || (c || d))) ≡ true → (r : A) × (cond a (Some v) (cond b (Some w) (cond c (Some x) (cond d (Some y) z))) ≡ Some r)
first_of_four true b c d v w x y z h = (v, refl)
first_of_four false true c d v w x y z h = (w, refl)
first_of_four false false true d v w x y z h = (x, refl)
first_of_four false false false true v w x y z h = (y, refl)
first_of_four false false false false v w x y z h = absurd (true≢false (sym h))

pub none_of_five : {A : Type 0} (a b c d e : Bool) (v w x y z : Option A) → a ≡ false → b ≡ false → c ≡ false → d ≡ false → e ≡ false → cond a v (cond b w (cond c x (cond d y (cond e z None)))) ≡ None
none_of_five a b c d e v w x y z ea eb ec ed ee = rw (ea, eb, ec, ed, ee) refl

pub fifth_of_five : {A : Type 0} (a b c d e : Bool) (v w x y z u : A) → a ≡ false → b ≡ false → c ≡ false → d ≡ false → e ≡ true → cond a v (cond b w (cond c x (cond d y (cond e z u)))) ≡ z
fifth_of_five a b c d e v w x y z u ea eb ec ed ee = rw (ea, eb, ec, ed, ee) refl

pub past_four : {A : Type 0} (a b c d e : Bool) (v w x y : A) (z : Option A) → (a || (b || (c || d))) ≡ false → z ≡ None → cond a (Some v) (cond b (Some w) (cond c (Some x) (cond d (Some y) (cond e z None)))) ≡ None
past_four {A} a b c d e v w x y z h none =
    let (ea, h') = or_parts a _ h in let (eb, h'') = or_parts b _ h' in let (ec, ed) = or_parts c d h'' in
    rw (ea, eb, ec, ed, none) (cond-same {A = Option A} e None)

pub by_five : {A : Type 0} (Q : A → Type 0) (a b c d e : Bool) (v w x y : A) (z : Option A) (r : A) → cond a (Some v) (cond b (Some w) (cond c (Some x) (cond d (Some y) (cond e z None)))) ≡ Some r
    → (a ≡ true → Q v) → (b ≡ true → Q w) → (c ≡ true → Q x) → (d ≡ true → Q y) → (e ≡ true → z ≡ Some r → Q r) → Q r
by_five Q true b c d e v w x y z r h qa qb qc qd qe = subst Q (same_Some v r h) (qa refl)
by_five Q false true c d e v w x y z r h qa qb qc qd qe = subst Q (same_Some w r h) (qb refl)
by_five Q false false true d e v w x y z r h qa qb qc qd qe = subst Q (same_Some x r h) (qc refl)
by_five Q false false false true e v w x y z r h qa qb qc qd qe = subst Q (same_Some y r h) (qd refl)
by_five Q false false false false true v w x y z r h qa qb qc qd qe = qe refl h
by_five Q false false false false false v w x y z r h qa qb qc qd qe = absurd (none-some r h)

-- ---- where there is none
pub none_from_not_some : {A : Type 0} (o : Option A) → is_some o ≡ false → o ≡ None
none_from_not_some None e = refl
none_from_not_some (Some x) e = cc

pub if_none : {A : Type 0} (P : Type 0) (o : Option A) → is_some o ≡ false → IfNone o P → P
if_none P None e h = h
if_none P (Some x) e h = cc

pub if_some : {A : Type 0} (P : Type 0) (o : Option A) → is_some o ≡ true → IfNone o P
if_some P None e = cc
if_some P (Some x) e = tt

-- ---- what is the same as what
pub true_tells : {P : Type 0} → P → IsTrue true ↔ P
true_tells p = (λ _. p, λ _. refl)

pub iff_trans : {P Q R : Type 0} → P ↔ Q → Q ↔ R → P ↔ R
iff_trans f g = (λ p. g.0 (f.0 p), λ r. f.1 (g.1 r))

-- an option that is taken where a test holds
pub cond_option : {A : Type 0} (b : Bool) (o : Option A) (x : A) → cond b o None ≡ Some x → (b ≡ true) × (o ≡ Some x)
cond_option true o x e = (refl, e)
cond_option false o x e = absurd (none-some x e)

pub cases_same : (a b : Bool) → (a ≡ b) ⊎ (¬ (a ≡ b))
cases_same true true = inl refl
cases_same true false = inr true≢false
cases_same false true = inr (λ e. true≢false (sym e))
cases_same false false = inl refl
