-- Several readings of one kind, one after the other.
use Rattle.std.proofs.Common.{◌≡◌, ℕ, ◌+◌, zero, suc, List, [], ◌∷◌, ◌++◌, length, Ok, Err, refl, sym, ap, ◌∙◌, subst, arith, append_assoc}
use Rattle.std.specs.List.{AllByRecursion, AllZip, flat_map}
use Rattle.mcs_proof_lines.specs.Walks.{At, Reading, ◌>>=◌, mapped_reading, many_at, each_at}
use Rattle.mcs_proof_lines.specs.Readings.{here, Stops, AreLinesRead, ReadsLines, Image, AreBoth, AllStop, Begin, prepended, IsMany, each_lines}
use Rattle.mcs_proof_lines.proofs.Readings.{reads_same, same_reading}
use Rattle.mcs_proof_lines.proofs.ReadingSequences.{both, paired, reads_made, reads_both}

-- ---- one more at the front
abbrev pub read_onto : {A : Type 0} → Reading A → (At → Reading (List A)) → Reading (List A)
read_onto r q = r >>= λ first. q first.1 >>= λ others. Ok (first.0 ∷ others.0, others.1)

module _ {A : Type 0} (q : At → Reading (List A)) where
  second_same : (x : A) (s : Reading (List A)) → mapped_reading prepended (paired x s) ≡ (s >>= λ others. (let r : Reading (List A) = Ok (x ∷ others.0, others.1) in r))
  second_same x (Ok s) = refl
  second_same x (Err n) = refl

  pub onto_same : (r : Reading A) → mapped_reading prepended (both (λ x. q) r) ≡ read_onto r q
  onto_same (Ok r) = second_same r.0 (q r.1)
  onto_same (Err n) = refl

-- ---- none
module _ {A : Type 0} (Is : List A → Type 0) (lines : List A → List (List ℕ)) (End : List (List ℕ) → Type 0) (is : Is []) (none : lines [] ≡ []) (only : (xs : List A) → Is xs → xs ≡ []) where
  abbrev nothing_at : At → Reading (List A)
  nothing_at at = Ok ([], at)

  none_sound : (at now : At) (xs : List A) → nothing_at at ≡ Ok (xs, now) → AreLinesRead Is lines at now xs
  none_sound at now xs e =
      let parts = same_reading [] xs at now e in
      let ls : lines xs ≡ [] = ap lines (sym parts.0) ∙ none in
      record {
        is = subst Is parts.0 is;
        rest = ap (λ (a : At). a.rest) parts.1 ∙ ap (λ (l : List (List ℕ)). l ++ now.rest) (sym ls);
        taken = ap (λ (a : At). a.taken) (sym parts.1) ∙ (let long : length (lines xs) ≡ 0 = ap length ls in omega (arith, long));
        tail = ap (λ (a : At). a.tail) (sym parts.1);
      }

  none_complete : (xs : List A) (n : ℕ) (more : List (List ℕ)) (tail : List ℕ) → Is xs → nothing_at (here n (lines xs ++ more) tail) ≡ Ok (xs, here (n + length (lines xs)) more tail)
  none_complete xs n more tail known =
      let empty = only xs known in
      let ls : lines xs ≡ [] = ap lines empty ∙ none in
      let long : n ≡ n + length (lines xs) = (let l : length (lines xs) ≡ 0 = ap length ls in omega (arith, l)) in
      ap (λ (l : List (List ℕ)). nothing_at (here n (l ++ more) tail)) ls ∙ ap (λ (ys : List A). (let r : Reading (List A) = Ok (ys, here n more tail) in r)) (sym empty) ∙ ap (λ (m : ℕ). (let r : Reading (List A) = Ok (xs, here m more tail) in r)) long

  none_stable : (at now : At) (xs : List A) (rest : List (List ℕ)) (tail : List ℕ) → nothing_at at ≡ Ok (xs, now) → nothing_at (here at.taken (lines xs ++ rest) tail) ≡ Ok (xs, here now.taken rest tail)
  none_stable at now xs rest tail e =
      let r = none_sound at now xs e in
      none_complete xs at.taken rest tail r.is ∙ ap (λ (m : ℕ). (let s : Reading (List A) = Ok (xs, here m rest tail) in s)) (sym r.taken)

  pub reads_none : ReadsLines Is lines End (λ at. nothing_at at)
  reads_none = record {
    sound = none_sound;
    complete = λ xs n more tail known end. none_complete xs n more tail known;
    fault = λ at n e. absurd (cc);
    local = λ at k rest tail e less front. absurd (cc);
    stable = λ at now xs rest tail e next. none_stable at now xs rest tail e;
  }

-- ---- so many of one kind
module _ {A : Type 0} (Is : A → Type 0) (lines : A → List (List ℕ)) (p : At → Reading A) (h : ReadsLines Is lines Stops p) (begin : Begin Is lines) (some : (x : A) × Is x) where
  some_many : (n : ℕ) → (xs : List A) × IsMany Is n xs
  some_many zero = ([], (refl, tt))
  some_many (suc n) = let (xs, is) = some_many n in (some.0 ∷ xs, ((let e = is.0 in omega (arith, e)), (some.1, is.1)))

  no_more : (xs : List A) → IsMany Is 0 xs → xs ≡ []
  no_more [] is = refl
  no_more (x ∷ xs) is = absurd (let e = is.0 in omega (arith, e))

  all_begin : (xs : List A) (more : List (List ℕ)) → AllByRecursion Is xs → Stops more → Stops (flat_map lines xs ++ more)
  all_begin [] more is end = end
  all_begin (x ∷ xs) more is end = subst Stops (sym (append_assoc (lines x) (flat_map lines xs) more)) (begin x (flat_map lines xs ++ more) is.0)

  to_more : (n : ℕ) (xs : List A) → Image prepended (AreBoth Is (λ x. IsMany Is n)) xs → IsMany Is (suc n) xs
  to_more n xs (ys, is, known) = subst (IsMany Is (suc n)) (sym is) ((let e = known.1.0 in omega (arith, e)), (known.0, known.1.1))

  from_more : (n : ℕ) (xs : List A) → IsMany Is (suc n) xs → Image prepended (AreBoth Is (λ x. IsMany Is n)) xs
  from_more n [] is = absurd (let e = is.0 in omega (arith, e))
  from_more n (x ∷ xs) is = ((x, xs), refl, (is.1.0, ((let e = is.0 in omega (arith, e)), is.1.1)))

  pub many_stop : (n : ℕ) → AllStop (IsMany Is n) (flat_map lines)
  many_stop n xs more is end = all_begin xs more is.1 end

  pub reads_many : (n : ℕ) → ReadsLines (IsMany Is n) (flat_map lines) Stops (many_at p n)
  reads_many zero = reads_none (IsMany Is 0) (flat_map lines) Stops (refl, tt) refl no_more
  reads_many (suc n) =
      let pair = reads_both Is lines Stops p (λ x. IsMany Is n) (λ x. flat_map lines) Stops (λ x. many_at p n) h (λ x known. reads_many n) (λ x known. some_many n) (λ x ys more is known end. all_begin ys more known.1 end) in
      let made_of = reads_made _ _ Stops _ prepended (flat_map lines) pair (λ xs is. refl) in
      reads_same _ (IsMany Is (suc n)) _ (flat_map lines) Stops _ (many_at p (suc n)) made_of (to_more n) (from_more n) (λ xs is. refl) (λ at. onto_same (many_at p n) (p at))

-- ---- one for each of some keys
module _ {A : Type 0} (Is : ℕ → A → Type 0) (lines : ℕ → A → List (List ℕ)) (p : ℕ → At → Reading A) (Known : ℕ → Type 0)
    (h : (k : ℕ) → Known k → ReadsLines (Is k) (lines k) Stops (p k)) (begin : (k : ℕ) → Begin (Is k) (lines k)) (some : (k : ℕ) → Known k → (x : A) × Is k x) where
  no_others : (xs : List A) → AllZip Is [] xs → xs ≡ []
  no_others [] is = refl
  no_others (x ∷ xs) is = absurd is

  some_each : (ks : List ℕ) → AllByRecursion Known ks → (xs : List A) × AllZip Is ks xs
  some_each [] known = ([], tt)
  some_each (k ∷ ks) known = let (x, is) = some k known.0 in let (xs, are) = some_each ks known.1 in (x ∷ xs, (is, are))

  each_begins : (ks : List ℕ) (xs : List A) (more : List (List ℕ)) → AllZip Is ks xs → Stops more → Stops (each_lines lines ks xs ++ more)
  each_begins [] [] more is end = end
  each_begins [] (x ∷ xs) more is end = absurd is
  each_begins (k ∷ ks) [] more is end = absurd is
  each_begins (k ∷ ks) (x ∷ xs) more is end = subst Stops (sym (append_assoc (lines k x) (each_lines lines ks xs) more)) (begin k x (each_lines lines ks xs ++ more) is.0)

  pub each_stop : (ks : List ℕ) → AllStop (AllZip Is ks) (each_lines lines ks)
  each_stop ks xs more is end = each_begins ks xs more is end

  to_each : (k : ℕ) (ks : List ℕ) (xs : List A) → Image prepended (AreBoth (Is k) (λ x. AllZip Is ks)) xs → AllZip Is (k ∷ ks) xs
  to_each k ks xs (ys, is, known) = subst (AllZip Is (k ∷ ks)) (sym is) (known.0, known.1)

  from_each : (k : ℕ) (ks : List ℕ) (xs : List A) → AllZip Is (k ∷ ks) xs → Image prepended (AreBoth (Is k) (λ x. AllZip Is ks)) xs
  from_each k ks [] is = absurd is
  from_each k ks (x ∷ xs) is = ((x, xs), refl, (is.0, is.1))

  pub reads_each : (ks : List ℕ) → AllByRecursion Known ks → ReadsLines (AllZip Is ks) (each_lines lines ks) Stops (each_at p ks)
  reads_each [] known = reads_none (AllZip Is []) (each_lines lines []) Stops tt refl no_others
  reads_each (k ∷ ks) known =
      let pair = reads_both (Is k) (lines k) Stops (p k) (λ x. AllZip Is ks) (λ x. each_lines lines ks) Stops (λ x. each_at p ks) (h k known.0) (λ x is. reads_each ks known.1) (λ x is. some_each ks known.1) (λ x ys more is are end. each_begins ks ys more are end) in
      let made_of = reads_made _ _ Stops _ prepended (each_lines lines (k ∷ ks)) pair (λ xs is. refl) in
      reads_same _ (AllZip Is (k ∷ ks)) _ (each_lines lines (k ∷ ks)) Stops _ (each_at p (k ∷ ks)) made_of (to_each k ks) (from_each k ks) (λ xs is. refl) (λ at. onto_same (each_at p ks) (p k at))
