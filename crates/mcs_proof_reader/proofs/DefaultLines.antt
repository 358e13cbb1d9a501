-- Sets and orders of defaults in lines, read.
use Rattle.std.proofs.Common.{◌≡◌, ℕ, ◌+◌, ◌-◌, ◌<◌, ◌≤◌, ◌^◌, ◌%◌, zero, suc, Bool, true, false, cond, nat_le, nat_lt, nat_eq, ltb, IsTrue, List, [], ◌∷◌, ◌++◌, map, length, codes, slice_get, Option, Some, None, refl, sym, ap, ◌∙◌, subst, arith, append_assoc, append-nil, inl, inr, ◌⊎◌, true≢false}
use Rattle.std.proofs.lemmas.Bool.{and_parts}
use Rattle.std.proofs.lemmas.Bool.Decides.{nat_tests}
use Rattle.std.proofs.lemmas.Fmt.{decimal_by_steps}
use Rattle.std.proofs.lemmas.Nat.Bits.{bit_at_ones, bit_at_ones_above}
use Rattle.std.proofs.lemmas.Option.{same_Some}
use Rattle.std.specs.Fmt.{decimal}
use Rattle.std.specs.List.{AllByRecursion}
use Rattle.std.specs.Option.{option_and_then}
use Rattle.mcs_sets.specs.Sets.{has, Within}
use Rattle.mcs_sets.proofs.SetLemmas.{members-width, has-such_that}
use Rattle.mcs_sets.proofs.Lattice.{below_from_members}
use Rattle.mcs_base.specs.Listings.{IsAmong, AreApart}
use Rattle.mcs_base.proofs.Each.{all_append}
use Rattle.mcs_system.specs.Plain.{Item}
use Rattle.mcs_text.specs.Separated.{braced}
use Rattle.mcs_evidence.specs.Defaults.{defaults_of, all_defaults}
use Rattle.mcs_spelling.specs.Lines.{is_empty}
use Rattle.mcs_spelling.specs.Parts.{IsSmallNumber, IsTellable, AreTellable, set_text, default_places_text, defaults_text, spaced}
use Rattle.mcs_spelling.specs.Words.{after_prefix, number_of_bytes, numbers_of, set_of, guarded}
use Rattle.mcs_spelling.proofs.NumberTexts.{bound, number_read, numbers_read, numbers_spelled}
use Rattle.mcs_spelling.proofs.LiteralTexts.{after_front, after_is}
use Rattle.mcs_spelling.proofs.SetTexts.{set_spelled, set_read}
use Rattle.mcs_proof_lines.specs.Verdicts.{Terms, defaults_of_line, within_from, some_order, order_of}
use Rattle.mcs_proof_reader.specs.Questions.{decimals, ten}
use Rattle.mcs_proof_lines.specs.Readings.{ReadsLine, IsAtMost}
use Rattle.mcs_proof_lines.proofs.WordReadings.{after_line}
use Rattle.mcs_proof_lines.proofs.NumberReadings.{guarded_line}
use Rattle.mcs_proof_reader.proofs.EvidenceReadings.{chosen_are}

-- the same values by other words
pub line_same : {A : Type 0} (Is Is' : A → Type 0) (text text' : A → List ℕ) (f : List ℕ → Option A) → ReadsLine Is text f → ((x : A) → Is x → Is' x) → ((x : A) → Is' x → Is x) → ((x : A) → Is x → text x ≡ text' x) → ReadsLine Is' text' f
line_same Is Is' text text' f h to from same = record {
  sound = λ line x e. (let (is, spelled) = h.sound line x e in (to x is, spelled ∙ same x is));
  complete = λ x is. ap f (sym (same x (from x is))) ∙ h.complete x (from x is);
}

-- ---- the numbers from k on, as texts
long_decimals : (k n : ℕ) → length (decimals k n) ≡ n
long_decimals k zero = refl
long_decimals k (suc n) = (let e = long_decimals (k + 1) n in omega (arith, e))

decimal_at : (k n j : ℕ) (t : List ℕ) → slice_get (decimals k n) j ≡ Some t → decimal (k + j) ≡ t
decimal_at k zero j t e = absurd (cc)
decimal_at k (suc n) zero t e = (let here : k + 0 ≡ k = omega arith in ap decimal here ∙ same_Some (decimal k) t e)
decimal_at k (suc n) (suc j) t e = (let next : k + suc j ≡ k + 1 + j = omega arith in ap decimal next ∙ decimal_at (k + 1) n j t e)

decimal_tells : (n : ℕ) → n < 2 ^ 64 → IsTellable (decimal n)
decimal_tells n few = decimal_by_steps (λ n ds. IsTellable ds) (λ n less. ((λ e. (cc)), (digit_plain n less, tt))) (λ n ds many before. more n ds before) n few
  where
    digit_plain : (d : ℕ) → d < 10 → (¬ (48 + d ≡ 44)) × (¬ (48 + d ≡ 125))
    digit_plain d less = ((λ e. absurd (omega (arith, e))), (λ e. absurd (omega (arith, e))))

    some : (ds : List ℕ) (d : ℕ) → ¬ (ds ++ d ∷ [] ≡ [])
    some [] d = λ e. (cc)
    some (x ∷ xs) d = λ e. (cc)

    more : (n : ℕ) (ds : List ℕ) → IsTellable ds → IsTellable (ds ++ (48 + n % 10) ∷ [])
    more n ds before = (some ds (48 + n % 10), all_append (λ b. (¬ (b ≡ 44)) × (¬ (b ≡ 125))) ds ((48 + n % 10) ∷ []) before.1 (digit_plain (n % 10) (omega arith), tt))

decimals_tell : (k n : ℕ) → k + n < 2 ^ 63 → AllByRecursion IsTellable (decimals k n)
decimals_tell k zero few = tt
decimals_tell k (suc n) few = (decimal_tells k (omega (arith, few)), decimals_tell (k + 1) n (omega (arith, few)))

same_decimal : (a b : ℕ) → IsSmallNumber a → IsSmallNumber b → decimal a ≡ decimal b → a ≡ b
same_decimal a b small small' e = same_Some a b (sym (number_read a small) ∙ ap number_of_bytes e ∙ number_read b small')

not_later : (a k n : ℕ) → 0 < a → a < k → k + n < 2 ^ 63 → ¬ IsAmong (decimal a) (decimals k n)
not_later a k zero some less few = λ h. h
not_later a k (suc n) some less few = λ h. cases (not_later a (k + 1) n some (omega (arith, less)) (omega (arith, few))) h
  where
    cases : ¬ IsAmong (decimal a) (decimals (k + 1) n) → (decimal a ≡ decimal k) ⊎ IsAmong (decimal a) (decimals (k + 1) n) → ⊥
    cases again (inl e) = let same : a ≡ k = same_decimal a k (some, omega (arith, less, few)) (omega (arith, less), omega (arith, few)) e in absurd (omega (arith, same, less))
    cases again (inr h) = again h

decimals_apart : (k n : ℕ) → 0 < k → k + n < 2 ^ 63 → AreApart (decimals k n)
decimals_apart k zero some few = tt
decimals_apart k (suc n) some few = (not_later k (k + 1) n some (omega arith) (omega (arith, few)), decimals_apart (k + 1) n (omega arith) (omega (arith, few)))

ten_tell : AreTellable ten
ten_tell = record { each = decimals_tell 1 10 (omega arith); apart = decimals_apart 1 10 (omega arith) (omega arith) }

-- ---- sets of defaults
module _ (items : List Item) (justs : List ℕ) (count : length justs ≡ length (defaults_of items)) (few : length justs ≤ 10) where
  pub in_all : (k : ℕ) → IsTrue (has (2 ^ length justs - 1) k) → k < length justs
  unfolding has
  in_all k member = by (nat_lt k (length justs)) refl
    where
      by : (b : Bool) → nat_lt k (length justs) ≡ b → k < length justs
      by true e = grind (arith, nat_tests)
      by false e =
          let above : length justs ≤ k = grind (arith, nat_tests) in
          absurd (true≢false (sym member ∙ ap (λ (b : ℕ). nat_eq b 1) (bit_at_ones_above (length justs) k above)))

  pub all_in : (k : ℕ) → k < length justs → IsTrue (has (2 ^ length justs - 1) k)
  unfolding has
  all_in k less = ap (λ (b : ℕ). nat_eq b 1) (bit_at_ones (length justs) k less)

  pub outside_all : (k : ℕ) → length justs ≤ k → has (2 ^ length justs - 1) k ≡ false
  unfolding has
  outside_all k above = ap (λ (b : ℕ). nat_eq b 1) (bit_at_ones_above (length justs) k above)

  pub set_below : (s : ℕ) → Within s (all_defaults items) → (k : ℕ) → IsTrue (has s k) → k < length justs
  set_below s within k member =
      let inside : has (all_defaults items) k ≡ true = within k member in
      let parts = and_parts (ltb k (length (defaults_of items))) true (sym (has-such_that (length (defaults_of items)) (λ j. true) k) ∙ inside) in
      let less : ltb k (length (defaults_of items)) ≡ true = parts.0 in
      let below : k < length (defaults_of items) = grind (arith, nat_tests) in
      omega (arith, below, count)

  pub set_within : (s : ℕ) → ((k : ℕ) → IsTrue (has s k) → k < length justs) → Within s (all_defaults items)
  set_within s below = λ k member.
      let b = below k member in
      let less : k < length (defaults_of items) = omega (arith, b, count) in
      let test : ltb k (length (defaults_of items)) ≡ true = grind (arith, nat_tests) in
      has-such_that (length (defaults_of items)) (λ j. true) k ∙ rw test refl

  set_told : (s : ℕ) → Within s (all_defaults items) → set_text ten s ≡ defaults_text s
  set_told s within =
      let small : s < 2 ^ 10 = below_from_members 10 s (λ k member. (let b = set_below s within k member in omega (arith, b, few))) in
      ap braced (chosen_are s default_places_text 0 ten (λ j t e. (let shift : 0 + j + 1 ≡ 1 + j = omega arith in ap decimal shift ∙ decimal_at 1 10 j t e)) ∙ ap (map default_places_text) (sym (members-width s 10 small)))

  set_line : ReadsLine (λ s. Within s (all_defaults items)) defaults_text (set_of ten (2 ^ length justs - 1))
  set_line = record {
    sound = λ line s e. (
        let (is, spelled) = set_spelled ten (2 ^ length justs - 1) line s e in
        let within : Within s (all_defaults items) = set_within s (λ k member. in_all k (is k member).1) in
        (within, spelled ∙ set_told s within));
    complete = λ s within. ap (set_of ten (2 ^ length justs - 1)) (sym (set_told s within)) ∙ set_read ten (2 ^ length justs - 1) s ten_tell (λ k member. (let b = set_below s within k member in (omega (arith, b, few), all_in k b)));
  }

  -- a set after a word
  module _ (t : Terms) (numbers_are : t.numbers ≡ ten) (justs_are : t.justs ≡ justs) (word : List ℕ) where
    fits : (s : ℕ) → Within s (all_defaults items) → nat_lt s (2 ^ 32) ≡ true
    fits s within = let small : s < 2 ^ 10 = below_from_members 10 s (λ k member. (let b = set_below s within k member in omega (arith, b, few))) in grind (arith, nat_tests)

    plain_line : ReadsLine (λ s. Within s (all_defaults items)) (λ s. word ++ defaults_text s) (λ line. option_and_then (λ s. guarded (nat_lt s (2 ^ 32)) s) (option_and_then (set_of ten (2 ^ length justs - 1)) (after_prefix word line)))
    plain_line =
        let line = after_line word (λ s. Within s (all_defaults items)) defaults_text (set_of ten (2 ^ length justs - 1)) set_line in
        let small = guarded_line (λ s. Within s (all_defaults items)) (λ s. word ++ defaults_text s) (λ line. option_and_then (set_of ten (2 ^ length justs - 1)) (after_prefix word line)) line (λ s. nat_lt s (2 ^ 32)) in
        line_same _ (λ s. Within s (all_defaults items)) _ (λ s. word ++ defaults_text s) _ small (λ s is. is.0) (λ s is. (is, fits s is)) (λ s is. refl)

    pub defaults_line : ReadsLine (λ s. Within s (all_defaults items)) (λ s. word ++ defaults_text s) (defaults_of_line word t)
    unfolding defaults_of_line
    defaults_line =
        let P : List (List ℕ) → List ℕ → Type 0 = λ ns js. ReadsLine (λ s. Within s (all_defaults items)) (λ s. word ++ defaults_text s) (λ line. option_and_then (λ s. guarded (nat_lt s (2 ^ 32)) s) (option_and_then (set_of ns (2 ^ length js - 1)) (after_prefix word line))) in
        subst (λ (js : List ℕ). P t.numbers js) (sym justs_are) (subst (λ (ns : List (List ℕ)). P ns justs) (sym numbers_are) plain_line)

-- ---- orders of defaults
within_told : (most : ℕ) (taken ns r : List ℕ) → within_from most taken ns ≡ Some r → (r ≡ taken ++ ns) × AllByRecursion (λ n. nat_le n most ≡ true) ns
within_told most taken [] r e = (sym (same_Some taken r e) ∙ sym (append-nil taken), tt)
within_told most taken (n ∷ ns) r e = at (nat_le n most) refl e (λ e'. within_told most (taken ++ n ∷ []) ns r e')
  where
    at : (b : Bool) → nat_le n most ≡ b → cond b (within_from most (taken ++ n ∷ []) ns) None ≡ Some r
        → (within_from most (taken ++ n ∷ []) ns ≡ Some r → (r ≡ (taken ++ n ∷ []) ++ ns) × AllByRecursion (λ n. nat_le n most ≡ true) ns) → (r ≡ taken ++ n ∷ ns) × AllByRecursion (λ n. nat_le n most ≡ true) (n ∷ ns)
    at true test e again = let (is, all) = again e in (is ∙ append_assoc taken (n ∷ []) ns, (test, all))
    at false test e again = absurd (cc)

within_read : (most : ℕ) (taken ns : List ℕ) → AllByRecursion (λ n. nat_le n most ≡ true) ns → within_from most taken ns ≡ Some (taken ++ ns)
within_read most taken [] all = ap (λ (xs : List ℕ). Some xs) (sym (append-nil taken))
within_read most taken (n ∷ ns) all = ap (λ (b : Bool). cond b (within_from most (taken ++ n ∷ []) ns) None) all.0 ∙ (within_read most (taken ++ n ∷ []) ns all.1 ∙ ap (λ (xs : List ℕ). Some xs) (append_assoc taken (n ∷ []) ns))

joined : (most : ℕ) (ns : List ℕ) → AllByRecursion IsSmallNumber ns → AllByRecursion (λ n. nat_le n most ≡ true) ns → AllByRecursion (IsAtMost most) ns
joined most [] small all = tt
joined most (n ∷ ns) small all = ((small.0, all.0), joined most ns small.1 all.1)

smalls : (most : ℕ) (ns : List ℕ) → AllByRecursion (IsAtMost most) ns → AllByRecursion IsSmallNumber ns
smalls most [] all = tt
smalls most (n ∷ ns) all = (all.0.0, smalls most ns all.1)

lows : (most : ℕ) (ns : List ℕ) → AllByRecursion (IsAtMost most) ns → AllByRecursion (λ n. nat_le n most ≡ true) ns
lows most [] all = tt
lows most (n ∷ ns) all = (all.0.1, lows most ns all.1)

order_sound : (most : ℕ) (rest order : List ℕ) → cond (is_empty rest) (Some []) (some_order most rest) ≡ Some order → AllByRecursion (IsAtMost most) order × (rest ≡ spaced (map decimal order))
order_sound most [] order e = let none : [] ≡ order = same_Some [] order e in (subst (AllByRecursion (IsAtMost most)) none tt, ap (λ (order : List ℕ). spaced (map decimal order)) none)
order_sound most (b ∷ rest) order e =
    let (ns, first, within) = bound (within_from most []) (option_and_then numbers_of (after_prefix (codes " ") (b ∷ rest))) order e in
    let (bytes, front, numbers) = bound numbers_of (after_prefix (codes " ") (b ∷ rest)) ns first in
    let (small, spelled) = numbers_spelled bytes ns numbers in
    let (is, low) = within_told most [] ns order within in
    (subst (AllByRecursion (IsAtMost most)) (sym is) (joined most ns small low), after_is (codes " ") (b ∷ rest) bytes front ∙ (sym spelled ∙ ap (λ (order : List ℕ). spaced (map decimal order)) (sym is)))

order_complete : (most : ℕ) (order : List ℕ) → AllByRecursion (IsAtMost most) order → cond (is_empty (spaced (map decimal order))) (Some []) (some_order most (spaced (map decimal order))) ≡ Some order
order_complete most [] all = refl
order_complete most (n ∷ ns) all =
    let bytes = decimal n ++ spaced (map decimal ns) in
    let front : after_prefix (codes " ") (codes " " ++ bytes) ≡ Some bytes = after_front (codes " ") bytes in
    let numbers : numbers_of bytes ≡ Some (n ∷ ns) = numbers_read n ns (smalls most (n ∷ ns) all).0 (smalls most (n ∷ ns) all).1 in
    ap (λ (o : Option (List ℕ)). option_and_then (within_from most []) (option_and_then numbers_of o)) front
    ∙ (ap (option_and_then (within_from most [])) numbers ∙ within_read most [] (n ∷ ns) (lows most (n ∷ ns) all))

pub order_line : (most : ℕ) → ReadsLine (AllByRecursion (IsAtMost most)) (λ order. codes "extension" ++ spaced (map decimal order)) (order_of most)
unfolding order_of
order_line most = after_line (codes "extension") (AllByRecursion (IsAtMost most)) (λ order. spaced (map decimal order)) (λ rest. cond (is_empty rest) (Some []) (some_order most rest)) (record { sound = order_sound most; complete = order_complete most })
