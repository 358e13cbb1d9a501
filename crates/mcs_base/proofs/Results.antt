-- Results and options, beyond std's lemmas.
use Rattle.std.proofs.Common.{◌≡◌, ◌↔◌, Option, Some, None, Result, Ok, Err, IfOk, refl, sym, subst, ◌⊎◌, inl, inr, IfNone, OnOk, ◌∙◌, true, true≢false}
use Rattle.std.proofs.lemmas.Option.{none-some, same_Some}
use Rattle.std.specs.Result.{IfErr, IsErrAnd}
use Rattle.std.specs.Option.{is_some}

pub IfOk-both : {T E : Type 0} (P Q R : T → Type 0) → ((x : T) → P x → Q x → R x) → (r : Result T E) → IfOk r P → IfOk r Q → IfOk r R
IfOk-both P Q R f (Ok x) p q = f x p q
IfOk-both P Q R f (Err e) p q = tt

pub IfOk-from_ok : {T E : Type 0} (P : T → Type 0) (r : Result T E) (x : T) → r ≡ Ok x → P x → IfOk r P
IfOk-from_ok P r x is holds = subst (λ q. IfOk q P) (sym is) holds

pub IfOk-from_is_err : {T E : Type 0} (P : T → Type 0) (r : Result T E) (e : E) → r ≡ Err e → IfOk r P
IfOk-from_is_err P r e is = subst (λ q. IfOk q P) (sym is) tt

-- none is the view of what never holds
pub none_is_never : {A : Type 0} {P : A → Type 0} → ((x : A) → ¬ P x) → (x : A) → P x ↔ (None ≡ Some x)
none_is_never never x = (λ h. absurd (never x h), λ e. absurd (none-some x e))

pub none_where_never : {A : Type 0} (o : Option A) → ((x : A) → ¬ (o ≡ Some x)) → o ≡ None
none_where_never None never = refl
none_where_never (Some x) never = absurd (never x refl)

-- what holds of an error holds of the result that tells it
pub err_told : {T E : Type 0} (P : E → Type 0) (e : E) (r : Result T E) → IsErrAnd r (λ f. f ≡ e) → P e → IfErr r P
err_told P e (Ok x) is h = absurd is
err_told P e (Err f) is h = subst P (sym is) h

-- what always holds
pub on_ok : {T E P : Type 0} (r : Result T E) → P → OnOk r P
on_ok (Ok x) p = p
on_ok (Err e) p = tt

-- ---- options
pub option_cases : {A : Type 0} (o : Option A) → (o ≡ None) ⊎ ((a : A) × (o ≡ Some a))
option_cases None = inl refl
option_cases (Some a) = inr (a, refl)

pub some_same : {A : Type 0} (o : Option A) (a b : A) → o ≡ Some a → o ≡ Some b → a ≡ b
some_same o a b is is' = same_Some a b (sym is ∙ is')

pub no_none : {A : Type 0} (o : Option A) (a : A) → o ≡ None → o ≡ Some a → ⊥
no_none o a is is' = none-some a (sym is ∙ is')

pub none_weaker : {A P Q : Type 0} (o : Option A) → (P → Q) → IfNone o P → IfNone o Q
none_weaker None f p = f p
none_weaker (Some x) f p = tt

pub some_of : {A : Type 0} (o : Option A) → is_some o ≡ true → (x : A) × (o ≡ Some x)
some_of None e = absurd (true≢false (sym e))
some_of (Some x) e = (x, refl)
