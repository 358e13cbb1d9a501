-- What is read of the lines that are next, step by step.
use Rattle.std.proofs.Common.{◌≡◌, ℕ, ◌+◌, ◌-◌, ◌<◌, zero, suc, List, [], ◌∷◌, ◌++◌, map, length, Option, Some, None, Ok, Err, refl, sym, ap, ◌∙◌, arith, append_assoc}
use Rattle.std.proofs.lemmas.List.{append-nil, map-append}
use Rattle.std.specs.Option.{option_and_then}
use Rattle.mcs_trace.specs.Traces.{Inference, inference_of}
use Rattle.mcs_trace.specs.declared.trace.Step.{Step}
use Rattle.mcs_spelling.specs.Words.{step_of}
use Rattle.mcs_proof_lines.specs.Walks.{At, Reading, ◌>>=◌, head_line, advanced, advanced_by, line_at, with_step, steps_from, steps_at, many_at, each_at, after_front}

-- ---- steps
none_from : (n : ℕ) (rest : List (List ℕ)) (tail : List ℕ) → option_and_then step_of (head_line rest) ≡ None → steps_from n rest tail ≡ ([], record { taken = n; rest = rest; tail = tail })
none_from n [] tail e = refl
none_from n (line ∷ lines) tail e = ap (λ (o : Option Inference). with_step o (steps_from (n + 1) lines tail) (record { taken = n; rest = line ∷ lines; tail = tail })) e

pub steps_none : (at : At) → line_at step_of at ≡ None → steps_at at ≡ ([], at)
unfolding steps_at
steps_none at e = none_from at.taken at.rest at.tail e

some_from : (n : ℕ) (rest : List (List ℕ)) (tail : List ℕ) (s : Inference) → option_and_then step_of (head_line rest) ≡ Some s
    → let next = advanced_by n rest tail in let later = steps_from next.taken next.rest next.tail in steps_from n rest tail ≡ (s ∷ later.0, later.1)
some_from n [] tail s e = absurd (cc)
some_from n (line ∷ lines) tail s e = ap (λ (o : Option Inference). with_step o (steps_from (n + 1) lines tail) (record { taken = n; rest = line ∷ lines; tail = tail })) e

pub steps_some : (at : At) (s : Inference) → line_at step_of at ≡ Some s → steps_at at ≡ (s ∷ (steps_at (advanced at)).0, (steps_at (advanced at)).1)
unfolding steps_at advanced
steps_some at s e = some_from at.taken at.rest at.tail s e

less_from : (A : Type 0) (f : List ℕ → Option A) (n : ℕ) (rest : List (List ℕ)) (tail : List ℕ) (x : A) → option_and_then f (head_line rest) ≡ Some x → length (advanced_by n rest tail).rest < length rest
less_from A f n [] tail x e = absurd (cc)
less_from A f n (line ∷ lines) tail x e = omega arith

-- a line that was read is taken
pub fewer_lines : {A : Type 0} (f : List ℕ → Option A) (at : At) (x : A) → line_at f at ≡ Some x → length (advanced at).rest < length at.rest
unfolding advanced
fewer_lines {A = A} f at x e = less_from A f at.taken at.rest at.tail x e

-- some steps taken, and those that are next
pub steps_push : (front : List Inference) (at : At) (s : Inference) → line_at step_of at ≡ Some s
    → ◌≡◌ {A = List Inference × At} ((front ++ s ∷ []) ++ (steps_at (advanced at)).0, (steps_at (advanced at)).1) (front ++ (steps_at at).0, (steps_at at).1)
steps_push front at s e = ap (λ (xs : List Inference). (xs, (steps_at (advanced at)).1)) (append_assoc front (s ∷ []) (steps_at (advanced at)).0) ∙ ap (λ (r : List Inference × At). (front ++ r.0, r.1)) (sym (steps_some at s e))

pub steps_end : (front : List Inference) (at : At) → line_at step_of at ≡ None → ◌≡◌ {A = List Inference × At} (front ++ (steps_at at).0, (steps_at at).1) (front, at)
steps_end front at e = ap (λ (r : List Inference × At). (front ++ r.0, r.1)) (steps_none at e) ∙ ap (λ (xs : List Inference). (xs, at)) (append-nil front)

-- ---- so many of one kind
pub pushed_front : {A : Type 0} (front : List A) (x : A) (r : Reading (List A)) → after_front (front ++ x ∷ []) r ≡ after_front front (r >>= λ others. Ok (x ∷ others.0, others.1))
pushed_front {A = A} front x (Ok r) = ap (λ (xs : List A). Ok (xs, r.1)) (append_assoc front (x ∷ []) r.0)
pushed_front front x (Err k) = refl

pub front_none : {A : Type 0} (r : Reading (List A)) → after_front [] r ≡ r
front_none (Ok r) = refl
front_none (Err k) = refl

module _ {A : Type 0} (p : At → Reading A) where
  pub many_ok : (front : List A) (n : ℕ) (at : At) (x : A) (now : At) → 0 < n → p at ≡ Ok (x, now) → after_front (front ++ x ∷ []) (many_at p (n - 1) now) ≡ after_front front (many_at p n at)
  many_ok front zero at x now h e = absurd (omega arith)
  many_ok front (suc n) at x now h e =
      let less : suc n - 1 ≡ n = omega arith in
      rw less (pushed_front front x (many_at p n now) ∙ ap (λ (r : Reading A). after_front front (r >>= λ first. many_at p n first.1 >>= λ others. Ok (first.0 ∷ others.0, others.1))) (sym e))

  pub many_err : (front : List A) (n : ℕ) (at : At) (k : ℕ) → 0 < n → p at ≡ Err k → after_front front (many_at p n at) ≡ Err k
  many_err front zero at k h e = absurd (omega arith)
  many_err front (suc n) at k h e = ap (λ (r : Reading A). after_front front (r >>= λ first. many_at p n first.1 >>= λ others. Ok (first.0 ∷ others.0, others.1))) e

  pub many_end : (front : List A) (at : At) → after_front front (many_at p 0 at) ≡ Ok (front, at)
  many_end front at = ap (λ (xs : List A). Ok (xs, at)) (append-nil front)

-- ---- as the code collects them
pub steps_pushed : (old new : List Step) (y : Step) (at now : At) (goal : List Inference × At) → new ≡ old ++ y ∷ [] → now ≡ advanced at → line_at step_of at ≡ Some (inference_of y)
    → ◌≡◌ {A = List Inference × At} (map inference_of old ++ (steps_at at).0, (steps_at at).1) goal → ◌≡◌ {A = List Inference × At} (map inference_of new ++ (steps_at now).0, (steps_at now).1) goal
steps_pushed old new y at now goal items moved e known =
    let pushed : map inference_of new ≡ map inference_of old ++ inference_of y ∷ [] = ap (map inference_of) items ∙ map-append inference_of old (y ∷ []) in
    ap (λ (xs : List Inference). (xs ++ (steps_at now).0, (steps_at now).1)) pushed ∙ (ap (λ (a : At). ((map inference_of old ++ inference_of y ∷ []) ++ (steps_at a).0, (steps_at a).1)) moved
    ∙ (steps_push (map inference_of old) at (inference_of y) e ∙ known))

pub many_pushed : {A X : Type 0} (p : At → Reading A) (f : X → A) (old new : List X) (y : X) (n : ℕ) (at now : At) (goal : Reading (List A)) → new ≡ old ++ y ∷ [] → 0 < n → p at ≡ Ok (f y, now)
    → after_front (map f old) (many_at p n at) ≡ goal → after_front (map f new) (many_at p (n - 1) now) ≡ goal
many_pushed {A = A} p f old new y n at now goal items some e known =
    let pushed : map f new ≡ map f old ++ f y ∷ [] = ap (map f) items ∙ map-append f old (y ∷ []) in
    ap (λ (xs : List A). after_front xs (many_at p (n - 1) now)) pushed ∙ (many_ok p (map f old) n at (f y) now some e ∙ known)

-- ---- one for each number
module _ {A : Type 0} (p : ℕ → At → Reading A) where
  pub each_pushed : {X : Type 0} (f : X → A) (old new : List X) (y : X) (k : ℕ) (ks : List ℕ) (at now : At) (goal : Reading (List A)) → new ≡ old ++ y ∷ [] → p k at ≡ Ok (f y, now)
      → after_front (map f old) (each_at p (k ∷ ks) at) ≡ goal → after_front (map f new) (each_at p ks now) ≡ goal
  each_pushed f old new y k ks at now goal items e known =
      let pushed : map f new ≡ map f old ++ f y ∷ [] = ap (map f) items ∙ map-append f old (y ∷ []) in
      ap (λ (xs : List A). after_front xs (each_at p ks now)) pushed ∙ (pushed_front (map f old) (f y) (each_at p ks now)
      ∙ (ap (λ (r : Reading A). after_front (map f old) (r >>= λ first. each_at p ks first.1 >>= λ others. Ok (first.0 ∷ others.0, others.1))) (sym e) ∙ known))

  pub each_err : (front : List A) (k : ℕ) (ks : List ℕ) (at : At) (n : ℕ) (goal : Reading (List A)) → p k at ≡ Err n → after_front front (each_at p (k ∷ ks) at) ≡ goal → goal ≡ Err n
  each_err front k ks at n goal e known = sym known ∙ ap (λ (r : Reading A). after_front front (r >>= λ first. each_at p ks first.1 >>= λ others. Ok (first.0 ∷ others.0, others.1))) e
