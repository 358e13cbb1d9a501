-- Lines of one kind, as many as there are, read.
use Rattle.std.proofs.Common.{◌≡◌, ℕ, ◌+◌, List, [], ◌∷◌, ◌++◌, map, length, Option, Some, None, Ok, refl, sym, ap, ◌∙◌, subst, arith}
use Rattle.std.proofs.lemmas.List.{length-map}
use Rattle.std.specs.List.{AllByRecursion}
use Rattle.std.specs.Option.{option_and_then}
use Rattle.mcs_proof_lines.specs.Walks.{At, Reading}
use Rattle.mcs_proof_lines.specs.Readings.{here, AreLinesRead, ReadsLine, ReadsLines, IsLineOfOtherKind}

-- the values of the lines that are next, and where the reader is then
abbrev pub with_one : {A : Type 0} → Option A → (List A × At) → At → (List A × At)
with_one None later at = ([], at)
with_one (Some x) later at = (x ∷ later.0, later.1)

abbrev pub run_from : {A : Type 0} → (List ℕ → Option A) → ℕ → List (List ℕ) → List ℕ → (List A × At)
run_from f n [] tail = ([], here n [] tail)
run_from f n (line ∷ rest) tail = with_one (f line) (run_from f (n + 1) rest tail) (here n (line ∷ rest) tail)

abbrev pub run_at : {A : Type 0} → (List ℕ → Option A) → At → Reading (List A)
run_at f at = Ok (run_from f at.taken at.rest at.tail)

module _ {A : Type 0} (Is : A → Type 0) (text : A → List ℕ) (f : List ℕ → Option A) (h : ReadsLine Is text f) where
  record IsRun (n : ℕ) (rest : List (List ℕ)) (tail : List ℕ) (r : List A × At) : Type 0 where
    pub values : AllByRecursion Is r.0
    pub rest_is : rest ≡ map text r.0 ++ r.1.rest
    pub taken : r.1.taken ≡ n + length r.0
    pub tail_is : r.1.tail ≡ tail
    pub other : IsLineOfOtherKind f r.1.rest

  run_sound : (n : ℕ) (rest : List (List ℕ)) (tail : List ℕ) → IsRun n rest tail (run_from f n rest tail)
  run_sound n [] tail = record { values = tt; rest_is = refl; taken = omega arith; tail_is = refl; other = refl }
  run_sound n (line ∷ rest) tail = by (f line) refl (run_sound (n + 1) rest tail)
    where
      by : (o : Option A) → f line ≡ o → IsRun (n + 1) rest tail (run_from f (n + 1) rest tail) → IsRun n (line ∷ rest) tail (with_one o (run_from f (n + 1) rest tail) (here n (line ∷ rest) tail))
      by None e r = record { values = tt; rest_is = refl; taken = omega arith; tail_is = refl; other = e }
      by (Some x) e r =
          let (is, spelled) = h.sound line x e in
          record {
            values = (is, r.values);
            rest_is = ap (λ (l : List ℕ). l ∷ rest) spelled ∙ ap (λ (ls : List (List ℕ)). text x ∷ ls) r.rest_is;
            taken = (let t = r.taken in omega (arith, t));
            tail_is = r.tail_is;
            other = r.other;
          }

  run_none : (n : ℕ) (rest : List (List ℕ)) (tail : List ℕ) → IsLineOfOtherKind f rest → run_from f n rest tail ≡ ([], here n rest tail)
  run_none n [] tail other = refl
  run_none n (line ∷ rest) tail other = ap (λ (o : Option A). with_one o (run_from f (n + 1) rest tail) (here n (line ∷ rest) tail)) other

  run_complete : (xs : List A) (n : ℕ) (more : List (List ℕ)) (tail : List ℕ) → AllByRecursion Is xs → IsLineOfOtherKind f more → run_from f n (map text xs ++ more) tail ≡ (xs, here (n + length xs) more tail)
  run_complete [] n more tail is other = run_none n more tail other ∙ (let same : n ≡ n + length {A = A} [] = omega arith in ap (λ (m : ℕ). (let r : List A × At = ([], here m more tail) in r)) same)
  run_complete (x ∷ xs) n more tail is other =
      let again = run_complete xs (n + 1) more tail is.1 other in
      let count : n + 1 + length xs ≡ n + length (x ∷ xs) = omega arith in
      ap (λ (o : Option A). with_one o (run_from f (n + 1) (map text xs ++ more) tail) (here n (text x ∷ (map text xs ++ more)) tail)) (h.complete x is.0)
      ∙ ap (λ (r : List A × At). (let s : List A × At = (x ∷ r.0, r.1) in s)) again
      ∙ ap (λ (m : ℕ). (let s : List A × At = (x ∷ xs, here m more tail) in s)) count

  long : (xs : List A) → length (map text xs) ≡ length xs
  long xs = length-map xs text

  read_sound : (at now : At) (xs : List A) → run_at f at ≡ Ok (xs, now) → AreLinesRead (AllByRecursion Is) (map text) at now xs × IsLineOfOtherKind f now.rest
  read_sound at now xs e =
      let same : ◌≡◌ {A = List A × At} (run_from f at.taken at.rest at.tail) (xs, now) = cc in
      let r : IsRun at.taken at.rest at.tail (xs, now) = subst (IsRun at.taken at.rest at.tail) same (run_sound at.taken at.rest at.tail) in
      (record { is = r.values; rest = r.rest_is; taken = (let t = r.taken in omega (arith, t, long xs)); tail = r.tail_is }, r.other)

  read_complete : (xs : List A) (n : ℕ) (more : List (List ℕ)) (tail : List ℕ) → AllByRecursion Is xs → IsLineOfOtherKind f more → run_at f (here n (map text xs ++ more) tail) ≡ Ok (xs, here (n + length (map text xs)) more tail)
  read_complete xs n more tail is other =
      let count : n + length xs ≡ n + length (map text xs) = omega (arith, long xs) in
      ap (λ (r : List A × At). (let s : Reading (List A) = Ok r in s)) (run_complete xs n more tail is other) ∙ ap (λ (m : ℕ). (let s : Reading (List A) = Ok (xs, here m more tail) in s)) count

  pub reads_run : ReadsLines (AllByRecursion Is) (map text) (IsLineOfOtherKind f) (run_at f)
  reads_run = record {
    sound = λ at now xs e. (read_sound at now xs e).0;
    complete = read_complete;
    fault = λ at n e. absurd (cc);
    local = λ at k rest tail e less front. absurd (cc);
    stable = λ at now xs rest tail e next. (
        let (r, other) = read_sound at now xs e in
        read_complete xs at.taken rest tail r.is (ap (option_and_then f) next ∙ other) ∙ ap (λ (m : ℕ). (let s : Reading (List A) = Ok (xs, here m rest tail) in s)) (sym r.taken));
  }
