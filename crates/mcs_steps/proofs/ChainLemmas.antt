-- Chains of resolvents, number by number.
use Rattle.std.proofs.Common.{◌≡◌, ℕ, ◌+◌, ◌-◌, ◌<◌, ◌≤◌, ◌==◌, ◌↔◌, Bool, true, false, IfOk, Result, Ok, Err, List, [], ◌∷◌, ◌++◌, length, take, drop, slice_get, Option, Some, None, ℤ, refl, sym, ap, ◌∙◌, subst, arith, true≢false}
use Rattle.std.proofs.lemmas.Bool.Decides.{nat_tests}
use Rattle.std.proofs.lemmas.List.{take_all}
use Rattle.std.proofs.lemmas.Option.{none-some, same_Some, slice_get_past}
use Rattle.mcs_base.specs.declared.memory.Memory.{Memory}
use Rattle.mcs_base.proofs.Lists.{slice_get-append_left, slice_get-append_right}
use Rattle.mcs_trace.specs.Resolution.{IsResolvent}
use Rattle.mcs_trace.specs.Traces.{Inference, numbered_clause, ResolvesTo, IsChainResolvent}
use Rattle.mcs_trace.proofs.ResolventLemmas.{same_resolvent}
use Rattle.mcs_trace.proofs.TraceLemmas.{numbered-pred}
use Rattle.mcs_spelling.specs.Words.{literals_of_bytes, numbers_of}
use Rattle.mcs_spelling.proofs.LiteralTexts.{literals_spelled}
use Rattle.mcs_steps.specs.Words.{spaced_numbers, with_front}
use Rattle.mcs_steps.specs.Judging.{IsResolved, IsDerived, IsStepJudged}

-- ---- numbered clauses
module _ (clauses derived : List (List ℤ)) (n : ℕ) (some : 0 < n) where
  pub numbered_given : (c : List ℤ) → n - 1 < length clauses → slice_get clauses (n - 1) ≡ Some c → Some c ≡ numbered_clause (clauses ++ derived) n
  numbered_given c less e = sym (numbered-pred (clauses ++ derived) n some ∙ slice_get-append_left clauses derived (n - 1) less ∙ e)

  later : length clauses ≤ n - 1 → numbered_clause (clauses ++ derived) n ≡ slice_get derived (n - 1 - length clauses)
  later past =
      let at : n - 1 ≡ length clauses + (n - 1 - length clauses) = omega arith in
      numbered-pred (clauses ++ derived) n some ∙ ap (slice_get (clauses ++ derived)) at ∙ slice_get-append_right clauses derived (n - 1 - length clauses)

  pub numbered_derived : (c : List ℤ) → length clauses ≤ n - 1 → slice_get derived (n - 1 - length clauses) ≡ Some c → Some c ≡ numbered_clause (clauses ++ derived) n
  numbered_derived c past e = sym (later past ∙ e)

  pub numbered_none : length clauses ≤ n - 1 → length derived ≤ n - 1 - length clauses → None ≡ numbered_clause (clauses ++ derived) n
  numbered_none past past' = sym (later past ∙ slice_get_past derived (n - 1 - length clauses) past')

-- ---- one number more
module _ (known : List (List ℤ)) (c : List ℤ) (n : ℕ) (ns : List ℕ) (last : List ℤ) where
  chain_missing : None ≡ numbered_clause known n → ResolvesTo known c (n ∷ ns) last → ⊥
  chain_missing none (d, e, rest) = none-some d (none ∙ e)

  chain_stuck : (d : List ℤ) → Some d ≡ numbered_clause known n → ((e : List ℤ) → ¬ IsResolvent c d e) → ResolvesTo known c (n ∷ ns) last → ⊥
  chain_stuck d is not (d', e, (m, r, rest)) = not m (subst (λ (x : List ℤ). IsResolvent c x m) (same_Some d' d (sym e ∙ sym is)) r)

  chain_more : (d m : List ℤ) → Some d ≡ numbered_clause known n → IsResolvent c d m → ResolvesTo known c (n ∷ ns) last ↔ ResolvesTo known m ns last
  chain_more d m is r = (
    λ (d', e, (m', r', rest)). (
        let r'' : IsResolvent c d m' = subst (λ (x : List ℤ). IsResolvent c x m') (same_Some d' d (sym e ∙ sym is)) r' in
        subst (λ (x : List ℤ). ResolvesTo known x ns last) (same_resolvent c d m' m r'' r) rest),
    λ rest. (d, sym is, (m, r, rest)),
  )

-- what is left of numbers after their first one
pub with_front_some : (n : ℕ) (o : Option (List ℕ)) (ns : List ℕ) → with_front n o ≡ Some ns → (rest : List ℕ) × (o ≡ Some rest) × (ns ≡ n ∷ rest)
with_front_some n None ns e = absurd (cc)
with_front_some n (Some rest) ns e = (rest, refl, (let same : n ∷ rest ≡ ns = cc in sym same))

-- the first byte of some, and the others
pub some_bytes : (left : List ℕ) → (length left == 0) ≡ false → (b : ℕ) × (left ≡ b ∷ take (length left - 1) (drop 1 left))
some_bytes [] e = absurd (true≢false e)
some_bytes (b ∷ left) e =
    let n : length (b ∷ left) - 1 ≡ length left = omega arith in
    (b, ap (λ (xs : List ℕ). b ∷ xs) (sym (take_all (length (b ∷ left) - 1) left (omega (arith, n)))))

pub no_bytes : (left : List ℕ) → (length left == 0) ≡ true → left ≡ []
no_bytes [] e = refl
no_bytes (b ∷ left) e = let long : (length (b ∷ left) == 0) ≡ false = grind (arith, nat_tests) in absurd (true≢false (sym e ∙ long))

-- ---- as the code goes on: the numbers that are left resolve the clause at hand as all of them resolve the first one
pub record StillTo (known : List (List ℤ)) (first : List ℤ) (ns : List ℕ) (left : List ℕ) (now : List ℤ) : Type 0 where
  pub numbers : List ℕ
  pub are : spaced_numbers left ≡ Some numbers
  pub same : (c : List ℤ) → ResolvesTo known first ns c ↔ ResolvesTo known now numbers c

abbrev pub GoesOn : List (List ℤ) → List ℕ → List ℤ → List ℕ → List ℤ → Type 0
GoesOn known bytes first left now = (ns : List ℕ) → spaced_numbers bytes ≡ Some ns → StillTo known first ns left now

module _ (known : List (List ℤ)) (bytes : List ℕ) (first : List ℤ) where
  pub begins_on : GoesOn known bytes first bytes first
  begins_on ns is = record { numbers = ns; are = is; same = λ c. (λ r. r, λ r. r) }

  module _ (left : List ℕ) (now : List ℤ) (on : GoesOn known bytes first left now) where
    -- the first of the numbers that are left
    next_of : (b n : ℕ) (tail rest : List ℕ) (ns : List ℕ) (s : StillTo known first ns left now) → left ≡ b ∷ tail → numbers_of tail ≡ with_front n (spaced_numbers rest) → (ms : List ℕ) × (spaced_numbers rest ≡ Some ms) × (s.numbers ≡ n ∷ ms)
    next_of b n tail rest ns s is e = with_front_some n (spaced_numbers rest) s.numbers (sym e ∙ ap spaced_numbers (sym is) ∙ s.are)

    pub no_number : (b : ℕ) (tail : List ℕ) → left ≡ b ∷ tail → numbers_of tail ≡ None → (ns : List ℕ) → spaced_numbers bytes ≡ Some ns → IsResolved known first ns false now
    no_number b tail is e ns are = let s = on ns are in absurd (none-some s.numbers (sym e ∙ ap spaced_numbers (sym is) ∙ s.are))

    module _ (b n : ℕ) (tail rest : List ℕ) (is : left ≡ b ∷ tail) (e : numbers_of tail ≡ with_front n (spaced_numbers rest)) where
      refused : (last : List ℤ) → ((ms : List ℕ) (c : List ℤ) → ResolvesTo known now (n ∷ ms) c → ⊥) → (ns : List ℕ) → spaced_numbers bytes ≡ Some ns → IsResolved known first ns false last
      refused last not ns are c =
          let s = on ns are in
          let (ms, left_are, numbers) = next_of b n tail rest ns s is e in (
            λ r. absurd (not ms c (subst (λ (xs : List ℕ). ResolvesTo known now xs c) numbers ((s.same c).0 r))),
            λ h. absurd (true≢false (sym h.0)),
          )

      pub no_clause_there : (last : List ℤ) → None ≡ numbered_clause known n → (ns : List ℕ) → spaced_numbers bytes ≡ Some ns → IsResolved known first ns false last
      no_clause_there last none = refused last (λ ms c. chain_missing known now n ms c none)

      pub no_resolvent : (last d : List ℤ) → Some d ≡ numbered_clause known n → ((x : List ℤ) → ¬ IsResolvent now d x) → (ns : List ℕ) → spaced_numbers bytes ≡ Some ns → IsResolved known first ns false last
      no_resolvent last d there not = refused last (λ ms c. chain_stuck known now n ms c d there not)

      pub goes_on : (d m : List ℤ) → Some d ≡ numbered_clause known n → IsResolvent now d m → GoesOn known bytes first rest m
      goes_on d m there r ns are =
          let s = on ns are in
          let (ms, left_are, numbers) = next_of b n tail rest ns s is e in
          record {
            numbers = ms;
            are = left_are;
            same = λ c. (let more = chain_more known now n ms c d m there r in (
              λ h. more.0 (subst (λ (xs : List ℕ). ResolvesTo known now xs c) numbers ((s.same c).0 h)),
              λ h. (s.same c).1 (subst (λ (xs : List ℕ). ResolvesTo known now xs c) (sym numbers) (more.1 h)),
            ));
          }

    pub ends_on : left ≡ [] → (ns : List ℕ) → spaced_numbers bytes ≡ Some ns → IsResolved known first ns true now
    ends_on none ns are c =
        let s = on ns are in
        let numbers : s.numbers ≡ [] = same_Some s.numbers [] (sym s.are ∙ ap spaced_numbers none) in (
          λ h. (refl, subst (λ (xs : List ℕ). ResolvesTo known now xs c) numbers ((s.same c).0 h)),
          λ h. (s.same c).1 (subst (λ (xs : List ℕ). ResolvesTo known now xs c) (sym numbers) h.1),
        )

-- ---- from the first number on
module _ (known : List (List ℤ)) (chain : List ℕ) where
  pub no_first : numbers_of chain ≡ None → (last : List ℤ) (ns : List ℕ) → numbers_of chain ≡ Some ns → IsDerived known ns false last
  no_first none last ns are = absurd (none-some ns (sym none ∙ are))

  module _ (n : ℕ) (rest : List ℕ) (e : numbers_of chain ≡ with_front n (spaced_numbers rest)) where
    pub first_missing : (last : List ℤ) → None ≡ numbered_clause known n → (ns : List ℕ) → numbers_of chain ≡ Some ns → IsDerived known ns false last
    first_missing last none ns are c =
        let (ms, left_are, numbers) = with_front_some n (spaced_numbers rest) ns (sym e ∙ are) in (
          λ h. absurd (let (d, there, later) = subst (λ (xs : List ℕ). IsChainResolvent known xs c) numbers h in none-some d (none ∙ there)),
          λ h. absurd (true≢false (sym h.0)),
        )

    pub first_there : (first : List ℤ) → Some first ≡ numbered_clause known n → (told : Bool) (last : List ℤ) → ((ms : List ℕ) → spaced_numbers rest ≡ Some ms → IsResolved known first ms told last) → (ns : List ℕ) → numbers_of chain ≡ Some ns → IsDerived known ns told last
    first_there first there told last resolved ns are c =
        let (ms, left_are, numbers) = with_front_some n (spaced_numbers rest) ns (sym e ∙ are) in
        let same = resolved ms left_are c in (
          λ h. (let (d, there', later) = subst (λ (xs : List ℕ). IsChainResolvent known xs c) numbers h in same.0 (subst (λ (x : List ℤ). ResolvesTo known x ms c) (same_Some d first (sym there' ∙ sym there)) later)),
          λ h. subst (λ (xs : List ℕ). IsChainResolvent known xs c) (sym numbers) (first, sym there, same.1 h),
        )

    -- as it was told
    pub first_told : (first copy : List ℤ) → Some first ≡ numbered_clause known n → copy ≡ first → (r : Result Bool Memory) (last : List ℤ) → IfOk r (λ told. (ms : List ℕ) → spaced_numbers rest ≡ Some ms → IsResolved known copy ms told last)
        → IfOk r (λ told. (ns : List ℕ) → numbers_of chain ≡ Some ns → IsDerived known ns told last)
    first_told first copy there same (Ok told) last resolved = first_there first there told last (λ ms are. subst (λ (x : List ℤ). IsResolved known x ms told last) same (resolved ms are))
    first_told first copy there same (Err fault) last resolved = tt

-- ---- a step
module _ (clauses old : List (List ℤ)) (s : Inference) (told : Bool) (last : List ℤ) where
  pub step_wrong : told ≡ false → IsDerived (clauses ++ old) s.chain told last → IsStepJudged clauses old old s false
  step_wrong e derived = record {
    right = (λ h. absurd (true≢false (sym h)), λ h. absurd (true≢false (sym ((derived s.clause).0 h).0 ∙ e)));
    more = λ h. absurd (true≢false (sym h));
    less = λ e. refl;
  }

  pub step_other : IsDerived (clauses ++ old) s.chain told last → ¬ (last ≡ s.clause) → IsStepJudged clauses old old s false
  step_other derived other = record {
    right = (λ h. absurd (true≢false (sym h)), λ h. absurd (other ((derived s.clause).0 h).1));
    more = λ h. absurd (true≢false (sym h));
    less = λ e. refl;
  }

pub step_right : (clauses old new : List (List ℤ)) (s : Inference) (told : Bool) (last : List ℤ) → told ≡ true → IsDerived (clauses ++ old) s.chain told last → last ≡ s.clause → new ≡ old ++ last ∷ [] → IsStepJudged clauses old new s true
step_right clauses old new s told last e derived same pushed = record {
  right = (λ h. (derived s.clause).1 (e, same), λ h. refl);
  more = λ h. pushed ∙ ap (λ (x : List ℤ). old ++ x ∷ []) same;
  less = λ h. absurd (true≢false h);
}

-- ---- literals that are told
pub none_spelled : (left : List ℕ) (rest : List ℤ) → left ≡ [] → literals_of_bytes left ≡ Some rest → rest ≡ []
unfolding literals_of_bytes
none_spelled left rest none e = sym (same_Some [] rest (ap literals_of_bytes (sym none) ∙ e))

pub spells_none : (left : List ℕ) → left ≡ [] → literals_of_bytes left ≡ Some []
unfolding literals_of_bytes
spells_none left none = ap literals_of_bytes none

pub nothing_left : (left : List ℕ) → literals_of_bytes left ≡ Some [] → (length left == 0) ≡ true
nothing_left left e = ap (λ (xs : List ℕ). length xs == 0) (literals_spelled left [] e)
