-- Numbers are read as they are spelled, and nothing else is.
use Rattle.std.proofs.Common.{◌≡◌, ℕ, ◌+◌, ◌*◌, ◌-◌, ◌/◌, ◌%◌, ◌<◌, ◌≤◌, ◌^◌, Bool, true, false, cond, ◌&&◌, nat_eq, nat_lt, nat_le, List, [], ◌∷◌, ◌++◌, map, codes, decimal, Option, Some, None, refl, sym, ap, ◌∙◌, subst, arith, append_assoc, inl, inr}
use Rattle.std.proofs.lemmas.Bool.{and_parts, cases_lt, eqb-false, eqb-true, leb-true, ltb-true, ne_eqb}
use Rattle.std.proofs.lemmas.Bool.Decides.{nat_tests}
use Rattle.std.proofs.lemmas.Fmt.{decimal_digit, decimal_step, decimal_by_steps}
use Rattle.std.proofs.lemmas.List.{append-nil, map_push}
use Rattle.std.proofs.lemmas.Option.{cond_some, none-some, option_and_then_some}
use Rattle.std.specs.List.{AllByRecursion}
use Rattle.std.specs.Option.{option_and_then}
use Rattle.mcs_base.proofs.Booleans.{cond_option}
use Rattle.mcs_base.proofs.Each.{all_push}
use Rattle.mcs_base.proofs.Lists.{flat_map_push}
use Rattle.mcs_spelling.specs.Parts.{spaced, IsSmallNumber, SpellsNumber}
use Rattle.mcs_spelling.specs.Words.{with_digit, whole, number_from, number_of_bytes, numbers_from, numbers_of}
use Rattle.mcs_spelling.specs.Spelled.{begun}

pub begun-is : (n : ℕ) → 0 < n → begun n ≡ decimal n
begun-is n h = ap (λ (v : Bool). cond v [] (decimal n)) (ne_eqb n 0 (λ e. omega (arith, e)))

-- ---- one digit more
pub record IsMore (n b m : ℕ) : Type 0 where
  pub low : 48 ≤ b
  pub high : b ≤ 57
  pub value : m ≡ n * 10 + (b - 48)
  pub readable : IsSmallNumber m

pub more_of : (n b m : ℕ) → with_digit n b ≡ Some m → IsMore n b m
unfolding with_digit
more_of n b m e =
    let v = n * 10 + (b - 48) in
    let outer = cond_option (nat_le 48 b && nat_le b 57) (cond (nat_lt 0 v && nat_lt v (2 ^ 63)) (Some v) None) m e in
    let digit = and_parts (nat_le 48 b) (nat_le b 57) outer.0 in
    let inner = cond_some (nat_lt 0 v && nat_lt v (2 ^ 63)) v m outer.1 in
    let fits = and_parts (nat_lt 0 v) (nat_lt v (2 ^ 63)) inner.0 in
    record {
      low = leb-true 48 b digit.0;
      high = leb-true b 57 digit.1;
      value = sym inner.1;
      readable = subst IsSmallNumber inner.1 (ltb-true 0 v fits.0, ltb-true v (2 ^ 63) fits.1);
    }

pub of_more : (n b m : ℕ) → IsMore n b m → with_digit n b ≡ Some m
unfolding with_digit
of_more n b m h =
    let low = h.low in let high = h.high in let value = h.value in let positive = h.readable.0 in let few = h.readable.1 in
    let a : (nat_le 48 b && nat_le b 57) ≡ true = grind (arith, nat_tests) in
    let c : (nat_lt 0 (n * 10 + (b - 48)) && nat_lt (n * 10 + (b - 48)) (2 ^ 63)) ≡ true = rw (← value) (grind (arith, nat_tests)) in
    rw (a, c) (ap Some (sym value))

pub begun_more : (n b m : ℕ) → IsMore n b m → begun m ≡ begun n ++ b ∷ []
begun_more n b m h = begun-is m h.readable.0 ∙ elim (cases_lt 0 n) [ inl some ↦ longer some | inr none ↦ first none ]
  where
    first : n ≤ 0 → decimal m ≡ begun n ++ b ∷ []
    first none =
        let zero_is : n ≡ 0 = omega arith in
        let low = h.low in let high = h.high in let value = h.value in
        let digit : 48 + m ≡ b = omega (arith, low, high, value, zero_is) in
        rw zero_is (decimal_digit m (omega (arith, low, high, value, zero_is)) ∙ ap (λ x. x ∷ []) digit)

    longer : 0 < n → decimal m ≡ begun n ++ b ∷ []
    longer some =
        let low = h.low in let high = h.high in let value = h.value in let few = h.readable.1 in
        let front : m / 10 ≡ n = omega (arith, low, high, value) in
        let last : 48 + m % 10 ≡ b = omega (arith, low, high, value) in
        decimal_step m (omega (arith, low, high, value)) (omega (arith, few)) ∙ (rw (front, last) (ap (λ ds. ds ++ b ∷ []) (sym (begun-is n some))))

-- ---- whatever goes digit by digit reads a number that is spelled
module _ {X : Type 0} (F : ℕ → List ℕ → X) (goes : (n b m : ℕ) (rest : List ℕ) → IsMore n b m → F n (b ∷ rest) ≡ F m rest) where
  pub spelled_read : (m : ℕ) (rest : List ℕ) → IsSmallNumber m → F 0 (decimal m ++ rest) ≡ F m rest
  spelled_read m rest h = decimal_by_steps P one more m (let few = h.1 in omega (arith, few)) h rest
    where
      P : ℕ → List ℕ → Type 0
      P k ds = IsSmallNumber k → (ys : List ℕ) → F 0 (ds ++ ys) ≡ F k ys

      one : (n : ℕ) → n < 10 → P n ((48 + n) ∷ [])
      one n less readable ys = goes 0 (48 + n) n ys (record { low = omega arith; high = omega arith; value = omega arith; readable = readable })

      more : (n : ℕ) (ds : List ℕ) → 10 ≤ n → P (n / 10) ds → P n (ds ++ (48 + n % 10) ∷ [])
      more n ds many before readable ys =
          let few = readable.1 in
          ap (F 0) (append_assoc ds ((48 + n % 10) ∷ []) ys)
          ∙ (before (omega (arith, many), omega (arith, few)) ((48 + n % 10) ∷ ys)
          ∙ goes (n / 10) (48 + n % 10) n ys (record { low = omega arith; high = omega arith; value = omega arith; readable = readable }))

-- ---- one number
bind_more : {A : Type 0} (f : ℕ → Option A) (n b m : ℕ) → IsMore n b m → option_and_then f (with_digit n b) ≡ f m
bind_more f n b m h = ap (option_and_then f) (of_more n b m h)

pub number_read : (m : ℕ) → IsSmallNumber m → number_of_bytes (decimal m) ≡ Some m
unfolding number_of_bytes
number_read m h =
    ap (number_from 0) (sym (append-nil (decimal m))) ∙ (spelled_read number_from (λ n b k rest more. bind_more (λ next. number_from next rest) n b k more) m [] h
    ∙ ap (λ (v : Bool). cond v None (Some m)) (ne_eqb m 0 (λ e. let p = h.0 in omega (arith, e))))

-- what was read first, and then
pub bound : {A B : Type 0} (f : A → Option B) (o : Option A) (y : B) → option_and_then f o ≡ Some y → (x : A) × (o ≡ Some x) × (f x ≡ Some y)
bound f o y e = option_and_then_some f o y e (λ x first later. (x, first, later))

whole_parts : (n m : ℕ) → whole n ≡ Some m → (0 < n) × (n ≡ m)
whole_parts n m e = at (nat_eq n 0) refl
  where
    at : (v : Bool) → nat_eq n 0 ≡ v → (0 < n) × (n ≡ m)
    at true v = absurd (let e' : None ≡ Some m = sym (rw v refl) ∙ e in cc)
    at false v = (omega (arith, eqb-false n 0 v), let e' : Some n ≡ Some m = sym (rw v refl) ∙ e in cc)

number_sound : (n m : ℕ) (bytes : List ℕ) → n < 2 ^ 63 → number_from n bytes ≡ Some m → IsSmallNumber m × (decimal m ≡ begun n ++ bytes)
number_sound n m [] few e =
    let h = whole_parts n m e in
    (subst IsSmallNumber h.1 (h.0, few), ap decimal (sym h.1) ∙ (sym (begun-is n h.0) ∙ sym (append-nil (begun n))))
number_sound n m (b ∷ bytes) few e =
    let (next, step, rest) = bound (λ k. number_from k bytes) (with_digit n b) m e in
    let more = more_of n b next step in
    let h = number_sound next m bytes more.readable.1 rest in
    (h.0, h.1 ∙ (ap (λ xs. xs ++ bytes) (begun_more n b next more) ∙ append_assoc (begun n) (b ∷ []) bytes))

-- what is read as a number is spelled as it
pub number_spelled : (m : ℕ) (bytes : List ℕ) → number_of_bytes bytes ≡ Some m → IsSmallNumber m × (bytes ≡ decimal m)
unfolding number_of_bytes
number_spelled m bytes e = let h = number_sound 0 m bytes (omega arith) e in (h.0, sym h.1)

pub number_told : (bytes : List ℕ) (o : Option ℕ) → o ≡ number_of_bytes bytes → SpellsNumber bytes o
number_told bytes None e = λ n h is. none-some n (e ∙ (ap number_of_bytes is ∙ number_read n h))
number_told bytes (Some n) e = number_spelled n bytes (sym e)

-- ---- numbers with a space between them
spaced_push : (ns : List ℕ) (n : ℕ) → spaced (map decimal (ns ++ n ∷ [])) ≡ spaced (map decimal ns) ++ (codes " " ++ decimal n)
spaced_push ns n = ap spaced (map_push decimal ns n) ∙ flat_map_push (λ t. codes " " ++ t) (map decimal ns) (decimal n)

pub record AreSpelled (taken : List ℕ) (n : ℕ) (bytes r : List ℕ) : Type 0 where
  pub readable : AllByRecursion IsSmallNumber r
  pub text : spaced (map decimal r) ≡ spaced (map decimal taken) ++ (codes " " ++ (begun n ++ bytes))

module _ (r : List ℕ) where
  -- at the end
  ended : (taken : List ℕ) (n : ℕ) → AllByRecursion IsSmallNumber taken → n < 2 ^ 63 → (v : Bool) → nat_eq n 0 ≡ v → cond v None (Some (taken ++ n ∷ [])) ≡ Some r → AreSpelled taken n [] r
  ended taken n all few true v e = absurd (cc)
  ended taken n all few false v e =
      let some : 0 < n = omega (arith, eqb-false n 0 v) in
      let is : taken ++ n ∷ [] ≡ r = cc in
      record {
        readable = subst (AllByRecursion IsSmallNumber) is (all_push IsSmallNumber taken n all (some, few));
        text = ap (λ xs. spaced (map decimal xs)) (sym is) ∙ (spaced_push taken n ∙ ap (λ t. spaced (map decimal taken) ++ (codes " " ++ t)) (sym (begun-is n some) ∙ sym (append-nil (begun n))));
      }

  module _ (bytes : List ℕ) (again : (taken : List ℕ) (n : ℕ) → AllByRecursion IsSmallNumber taken → n < 2 ^ 63 → numbers_from taken n bytes ≡ Some r → AreSpelled taken n bytes r) where
    digit : (taken : List ℕ) (n b : ℕ) → AllByRecursion IsSmallNumber taken → option_and_then (λ next. numbers_from taken next bytes) (with_digit n b) ≡ Some r → AreSpelled taken n (b ∷ bytes) r
    digit taken n b all e =
        let (next, step, rest) = bound (λ k. numbers_from taken k bytes) (with_digit n b) r e in
        let more = more_of n b next step in
        let h = again taken next all more.readable.1 rest in
        record {
          readable = h.readable;
          text = h.text ∙ ap (λ t. spaced (map decimal taken) ++ (codes " " ++ t)) (ap (λ xs. xs ++ bytes) (begun_more n b next more) ∙ append_assoc (begun n) (b ∷ []) bytes);
        }

    space : (taken : List ℕ) (n b : ℕ) → AllByRecursion IsSmallNumber taken → n < 2 ^ 63 → b ≡ 32 → (u : Bool) → nat_eq n 0 ≡ u → cond u None (numbers_from (taken ++ n ∷ []) 0 bytes) ≡ Some r → AreSpelled taken n (b ∷ bytes) r
    space taken n b all few blank true u e = absurd (cc)
    space taken n b all few blank false u e =
        let some : 0 < n = omega (arith, eqb-false n 0 u) in
        let h = again (taken ++ n ∷ []) 0 (all_push IsSmallNumber taken n all (some, few)) (omega arith) e in
        record {
          readable = h.readable;
          text = h.text ∙ (ap (λ t. t ++ (codes " " ++ bytes)) (spaced_push taken n) ∙ (append_assoc (spaced (map decimal taken)) (codes " " ++ decimal n) (codes " " ++ bytes)
              ∙ ap (λ t. spaced (map decimal taken) ++ (codes " " ++ t)) (ap (λ c. decimal n ++ c ∷ bytes) (sym blank) ∙ ap (λ t. t ++ b ∷ bytes) (sym (begun-is n some)))));
        }

    either : (taken : List ℕ) (n b : ℕ) → AllByRecursion IsSmallNumber taken → n < 2 ^ 63 → (v : Bool) → nat_eq b 32 ≡ v
        → cond v (cond (nat_eq n 0) None (numbers_from (taken ++ n ∷ []) 0 bytes)) (option_and_then (λ next. numbers_from taken next bytes) (with_digit n b)) ≡ Some r → AreSpelled taken n (b ∷ bytes) r
    either taken n b all few true v e = space taken n b all few (eqb-true b 32 v) (nat_eq n 0) refl e
    either taken n b all few false v e = digit taken n b all e

numbers_sound : (taken : List ℕ) (n : ℕ) (bytes r : List ℕ) → AllByRecursion IsSmallNumber taken → n < 2 ^ 63 → numbers_from taken n bytes ≡ Some r → AreSpelled taken n bytes r
numbers_sound taken n [] r all few e = ended r taken n all few (nat_eq n 0) refl e
numbers_sound taken n (b ∷ bytes) r all few e = either r bytes (λ taken' n' all' few' e'. numbers_sound taken' n' bytes r all' few' e') taken n b all few (nat_eq b 32) refl e

-- what is read as numbers is spelled as they
pub numbers_spelled : (bytes r : List ℕ) → numbers_of bytes ≡ Some r → AllByRecursion IsSmallNumber r × (spaced (map decimal r) ≡ codes " " ++ bytes)
unfolding numbers_of
numbers_spelled bytes r e = let h = numbers_sound [] 0 bytes r tt (omega arith) e in (h.readable, h.text)

numbers_goes : (taken : List ℕ) (n b m : ℕ) (rest : List ℕ) → IsMore n b m → numbers_from taken n (b ∷ rest) ≡ numbers_from taken m rest
numbers_goes taken n b m rest h =
    let digit : nat_eq b 32 ≡ false = ne_eqb b 32 (λ e. let low = h.low in omega (arith, e)) in
    rw (digit, of_more n b m h) refl

numbers_complete : (taken : List ℕ) (n : ℕ) (ns : List ℕ) → IsSmallNumber n → AllByRecursion IsSmallNumber ns → numbers_from taken 0 (decimal n ++ spaced (map decimal ns)) ≡ Some (taken ++ n ∷ ns)
numbers_complete taken n [] h all =
    spelled_read (numbers_from taken) (numbers_goes taken) n [] h ∙ ap (λ (v : Bool). cond v None (Some (taken ++ n ∷ []))) (ne_eqb n 0 (λ e. let p = h.0 in omega (arith, e)))
numbers_complete taken n (k ∷ ns) h all =
    spelled_read (numbers_from taken) (numbers_goes taken) n (spaced (map decimal (k ∷ ns))) h
    ∙ (ap (λ (v : Bool). cond v None (numbers_from (taken ++ n ∷ []) 0 (decimal k ++ spaced (map decimal ns)))) (ne_eqb n 0 (λ e. let p = h.0 in omega (arith, e)))
    ∙ (numbers_complete (taken ++ n ∷ []) k ns all.0 all.1 ∙ ap Some (append_assoc taken (n ∷ []) (k ∷ ns))))

-- numbers that are spelled are read
pub numbers_read : (n : ℕ) (ns : List ℕ) → IsSmallNumber n → AllByRecursion IsSmallNumber ns → numbers_of (decimal n ++ spaced (map decimal ns)) ≡ Some (n ∷ ns)
unfolding numbers_of
numbers_read n ns h all = numbers_complete [] n ns h all
