-- What a word is, by the function and by the definitions.
use Rattle.std.proofs.Common.{◌≡◌, Bool, true, false, nat_eq, cond, not, ◌&&◌, [], ◌∷◌, ◌++◌, Option, Some, None, is_some, codes, refl, sym, ap, ◌∙◌, true≢false, arith}
use Rattle.std.specs.Option.{option_map_or}
use Rattle.std.specs.Str.{bytes_eq}
use Rattle.std.proofs.lemmas.Bool.Decides.{Decides-eqb}
use Rattle.std.proofs.lemmas.Slice.Eq.{bytes_eq-Decides}
use Rattle.mcs_words.specs.Commands.{Word, name_of, begins_with_dash, IsPlain}
use Rattle.mcs_words.specs.Reading.{WordKind, dashes, name, joined, flag, plain, unknown, rest_after, other_kind, joined_kind, kind}
use Rattle.mcs_words.specs.declared.setting.Setting.{Setting}
use Rattle.mcs_words.specs.declared.setting.Setting.TheVariants.{Budget, Workers}

-- ---- what follows a front
pub after_front : (front rest : Word) → rest_after front (front ++ rest) ≡ Some rest
after_front [] rest = refl
after_front (f ∷ front) rest = let same : nat_eq f f ≡ true = (Decides-eqb f f).1 refl in rw same (after_front front rest)

pub after_is : (front word rest : Word) → rest_after front word ≡ Some rest → word ≡ front ++ rest
after_is [] word rest e = cc
after_is (f ∷ front) [] rest e = let no : None ≡ Some rest = e in cc
after_is (f ∷ front) (b ∷ word) rest e =
    elim (nat_eq b f) as (λ t. nat_eq b f ≡ t → cond t (rest_after front word) None ≡ Some rest → b ∷ word ≡ (f ∷ front) ++ rest) [
      | true ↦ λ same e'. let here : b ≡ f = (Decides-eqb b f).0 same in let there : word ≡ front ++ rest = after_is front word rest e' in cc
      | false ↦ λ same e'. let no : None ≡ Some rest = e' in cc
    ] refl e

-- a test of the front finds whether something follows it
pub front_is : (front word tail : Word) (r : Bool) → (r ≡ true → word ≡ front ++ tail) → ((rest : Word) → word ≡ front ++ rest → r ≡ true) → r ≡ is_some (rest_after front word)
front_is front word tail true begins has = sym (ap is_some (ap (rest_after front) (begins refl) ∙ after_front front tail))
front_is front word tail false begins has = at (rest_after front word) refl
  where
    at : (o : Option Word) → rest_after front word ≡ o → false ≡ is_some o
    at None e = refl
    at (Some rest) e = has rest (after_is front word rest e)

-- ---- kinds
abbrev pub IsKind : Word → WordKind → Type 0
IsKind word dashes = word ≡ codes "--"
IsKind word (name s) = word ≡ name_of s
IsKind word (joined s value) = word ≡ name_of s ++ 61 ∷ value
IsKind word flag = word ≡ codes "--proof"
IsKind word plain = IsPlain word
IsKind word unknown = Unit {0}

by_test : (word : Word) (b : Bool) (x y : WordKind) → (b ≡ true → IsKind word x) → (b ≡ false → IsKind word y) → IsKind word (cond b x y)
by_test word true x y h k = h refl
by_test word false x y h k = k refl

by_text : (word text : Word) (x y : WordKind) → (word ≡ text → IsKind word x) → IsKind word y → IsKind word (cond (bytes_eq word text) x y)
by_text word text x y h k = by_test word (bytes_eq word text) x y (λ e. h ((bytes_eq-Decides word text).0 e)) (λ e. k)

by_front : (word : Word) (s : Setting) (o : Option Word) (y : WordKind) → ((value : Word) → o ≡ Some value → word ≡ name_of s ++ 61 ∷ value) → IsKind word y → IsKind word (option_map_or (joined s) o y)
by_front word s None y h k = k
by_front word s (Some value) y h k = h value refl

other_is : (word : Word) → IsKind word (other_kind word)
other_is word = by_test word (begins_with_dash word && not (bytes_eq word (codes "-"))) unknown plain (λ e. tt)
    (λ e dash. (bytes_eq-Decides word (codes "-")).0 (grind arith))

-- the function finds what the word is
pub kind_is : (word : Word) → IsKind word (kind word)
unfolding kind
kind_is word =
    by_text word (codes "--") _ _ (λ e. e)
    (by_text word (codes "--budget") _ _ (λ e. e)
    (by_text word (codes "--workers") _ _ (λ e. e)
    (by_text word (codes "--proof") _ _ (λ e. e)
    (by_front word Budget (rest_after (codes "--budget=") word) _ (λ value e. after_is (codes "--budget=") word value e)
    (by_front word Workers (rest_after (codes "--workers=") word) _ (λ value e. after_is (codes "--workers=") word value e)
    (other_is word))))))

pub plain_kind : (word : Word) → IsPlain word → kind word ≡ plain
unfolding kind
plain_kind [] p = refl
plain_kind (b ∷ bs) p = dash (nat_eq b 45) refl
  where
    dash : (t : Bool) → nat_eq b 45 ≡ t → kind (b ∷ bs) ≡ plain
    dash true e = ap kind (p e)
    dash false e = rw e refl

pub joined_is : (s : Setting) (value : Word) → kind (name_of s ++ 61 ∷ value) ≡ joined s value
unfolding kind
joined_is Budget value = refl
joined_is Workers value = refl

pub name_is : (s : Setting) → kind (name_of s) ≡ name s
unfolding kind
name_is Budget = refl
name_is Workers = refl

pub flag_is : kind (codes "--proof") ≡ flag
unfolding kind
flag_is = refl

pub dashes_is : kind (codes "--") ≡ dashes
unfolding kind
dashes_is = refl

-- the code's tests find the option that is joined to its value
found : (o : Option Word) → is_some o ≡ true → (value : Word) × (o ≡ Some value)
found None some = absurd (true≢false (sym some))
found (Some value) some = (value, refl)

not_found : (o : Option Word) → is_some o ≡ false → o ≡ None
not_found None none = refl
not_found (Some value) none = absurd (true≢false none)

abbrev budget_or : Word → Option Word → WordKind
budget_or word o = option_map_or (joined Budget) o (option_map_or (joined Workers) (rest_after (codes "--workers=") word) (other_kind word))

abbrev workers_or : Word → Option Word → WordKind
workers_or word o = option_map_or (joined Workers) o (other_kind word)

module _ (word : Word) (no_dashes : bytes_eq word (codes "--") ≡ false) (no_budget : bytes_eq word (codes "--budget") ≡ false) (no_workers : bytes_eq word (codes "--workers") ≡ false) (no_flag : bytes_eq word (codes "--proof") ≡ false) where
  kind_at : kind word ≡ joined_kind word
  unfolding kind
  kind_at = rw (no_dashes, no_budget, no_workers, no_flag) refl

  pub budget_seen : is_some (rest_after (codes "--budget=") word) ≡ true → (value : Word) × (kind word ≡ joined Budget value)
  budget_seen some =
      let value = found (rest_after (codes "--budget=") word) some in
      (value.0, kind_at ∙ ap (budget_or word) value.1)

  pub workers_seen : is_some (rest_after (codes "--budget=") word) ≡ false → is_some (rest_after (codes "--workers=") word) ≡ true → (value : Word) × (kind word ≡ joined Workers value)
  workers_seen none some =
      let value = found (rest_after (codes "--workers=") word) some in
      (value.0, kind_at ∙ (ap (budget_or word) (not_found (rest_after (codes "--budget=") word) none) ∙ ap (workers_or word) value.1))
