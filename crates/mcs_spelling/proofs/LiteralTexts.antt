-- Literals and steps are read as they are spelled, and nothing else is.
use Rattle.std.proofs.Common.{◌≡◌, ℕ, ◌<◌, ◌^◌, zero, suc, Bool, true, false, not, ◌&&◌, cond, nat_eq, List, [], ◌∷◌, ◌++◌, map, length, take, drop, codes, decimal, ℤ, pos, negsuc, Option, Some, None, refl, sym, ap, ◌∙◌, subst, arith, append_assoc}
use Rattle.std.proofs.lemmas.Bool.{and_parts, eqb-false, eqb-true, ne_eqb, not-true}
use Rattle.std.proofs.lemmas.List.{append-nil, take-append-drop}
use Rattle.std.proofs.lemmas.Option.{cond_some, none-some, same_Some}
use Rattle.std.proofs.Math.Seq.{take-append_seam, drop-append_seam}
use Rattle.mcs_base.proofs.Each.{all_append, all_push}
use Rattle.mcs_base.proofs.Lists.{flat_map_push}
use Rattle.mcs_base.proofs.Numbers.{zero-minus}
use Rattle.std.proofs.lemmas.Slice.Eq.{bytes_eq-Decides}
use Rattle.std.specs.List.{AllByRecursion}
use Rattle.std.specs.Option.{option_and_then}
use Rattle.std.specs.Str.{bytes_eq}
use Rattle.mcs_trace.specs.Clauses.{IsLiteral, IsClause}
use Rattle.mcs_trace.specs.Traces.{Inference}
use Rattle.mcs_spelling.specs.Parts.{IsSmallNumber, literal_text, spaced, step_text, SpellsStep}
use Rattle.mcs_spelling.specs.Words.{after_prefix, place_of_byte, with_digit, signed, literals_before, literals_of_bytes, numbers_of, ascend_from, guarded, step_of}
use Rattle.mcs_spelling.proofs.ClauseTests.{ascends, is_clause}
use Rattle.mcs_spelling.proofs.NumberTexts.{IsMore, more_of, of_more, begun_more, spelled_read, numbers_read, numbers_spelled, begun-is, bound}
use Rattle.mcs_spelling.proofs.PlaceTexts.{place_is, decimal_without}
use Rattle.mcs_spelling.specs.Spelled.{begun, signs, trailed}

negative : (n : ℕ) → signed (suc n) true ≡ negsuc n
negative n = zero-minus (pos (suc n))

signed-text : (n : ℕ) (neg : Bool) → 0 < n → n < 2 ^ 63 → IsLiteral (signed n neg) × (literal_text (signed n neg) ≡ signs neg ++ decimal n)
signed-text zero neg some few = absurd (omega arith)
signed-text (suc n) true some few = subst (λ (l : ℤ). IsLiteral l × (literal_text l ≡ signs true ++ decimal (suc n))) (sym (negative n)) ((omega arith, few), refl)
signed-text (suc n) false some few = ((omega arith, few), refl)

pub record AreSpelled (taken : List ℤ) (n : ℕ) (neg : Bool) (bytes : List ℕ) (r : List ℤ) : Type 0 where
  pub literals : AllByRecursion IsLiteral r
  pub text : trailed r ≡ trailed taken ++ (signs neg ++ (begun n ++ bytes))

module _ (r : List ℤ) where
  ended : (taken : List ℤ) (n : ℕ) (neg : Bool) → AllByRecursion IsLiteral taken → (v : Bool) → (nat_eq n 0 && not neg) ≡ v → cond v (Some taken) None ≡ Some r → AreSpelled taken n neg [] r
  ended taken n neg all false v e = absurd (cc)
  ended taken n neg all true v e =
      let h = and_parts (nat_eq n 0) (not neg) v in
      let zero_is = eqb-true n 0 h.0 in
      let plain = not-true neg h.1 in
      let is : taken ≡ r = cc in
      record { literals = subst (AllByRecursion IsLiteral) is all; text = ap trailed (sym is) ∙ rw (zero_is, plain) (sym (append-nil (trailed taken))) }

  module _ (bytes : List ℕ) (again : (taken : List ℤ) (n : ℕ) (neg : Bool) → AllByRecursion IsLiteral taken → n < 2 ^ 63 → literals_before taken n neg bytes ≡ Some r → AreSpelled taken n neg bytes r) where
    digit : (taken : List ℤ) (n : ℕ) (neg : Bool) (b : ℕ) → AllByRecursion IsLiteral taken → option_and_then (λ next. literals_before taken next neg bytes) (with_digit n b) ≡ Some r → AreSpelled taken n neg (b ∷ bytes) r
    digit taken n neg b all e =
        let (next, step, rest) = bound (λ k. literals_before taken k neg bytes) (with_digit n b) r e in
        let more = more_of n b next step in
        let h = again taken next neg all more.readable.1 rest in
        record {
          literals = h.literals;
          text = h.text ∙ ap (λ t. trailed taken ++ (signs neg ++ t)) (ap (λ xs. xs ++ bytes) (begun_more n b next more) ∙ append_assoc (begun n) (b ∷ []) bytes);
        }

    minus : (taken : List ℤ) (n : ℕ) (neg : Bool) (b : ℕ) → AllByRecursion IsLiteral taken → b ≡ 45 → (u : Bool) → (nat_eq n 0 && not neg) ≡ u → cond u (literals_before taken 0 true bytes) None ≡ Some r → AreSpelled taken n neg (b ∷ bytes) r
    minus taken n neg b all dash false u e = absurd (cc)
    minus taken n neg b all dash true u e =
        let h = and_parts (nat_eq n 0) (not neg) u in
        let zero_is = eqb-true n 0 h.0 in
        let plain = not-true neg h.1 in
        let rest = again taken 0 true all (omega arith) e in
        record { literals = rest.literals; text = rest.text ∙ rw (zero_is, plain, dash) refl }

    space : (taken : List ℤ) (n : ℕ) (neg : Bool) (b : ℕ) → AllByRecursion IsLiteral taken → n < 2 ^ 63 → b ≡ 32 → (u : Bool) → nat_eq n 0 ≡ u
        → cond u None (literals_before (taken ++ signed n neg ∷ []) 0 false bytes) ≡ Some r → AreSpelled taken n neg (b ∷ bytes) r
    space taken n neg b all few blank true u e = absurd (cc)
    space taken n neg b all few blank false u e =
        let some : 0 < n = omega (arith, eqb-false n 0 u) in
        let l = signed-text n neg some few in
        let h = again (taken ++ signed n neg ∷ []) 0 false (all_push IsLiteral taken (signed n neg) all l.0) (omega arith) e in
        record {
          literals = h.literals;
          text = h.text ∙ (ap (λ t. t ++ bytes) (flat_map_push (λ l. literal_text l ++ codes " ") taken (signed n neg)) ∙ (append_assoc (trailed taken) (literal_text (signed n neg) ++ codes " ") bytes
              ∙ ap (λ t. trailed taken ++ t) (ap (λ t. (t ++ codes " ") ++ bytes) l.1 ∙ (append_assoc (signs neg ++ decimal n) (codes " ") bytes ∙ (append_assoc (signs neg) (decimal n) (codes " " ++ bytes)
              ∙ ap (λ t. signs neg ++ t) (ap (λ c. decimal n ++ c ∷ bytes) (sym blank) ∙ ap (λ t. t ++ b ∷ bytes) (sym (begun-is n some))))))));
        }

    either : (taken : List ℤ) (n : ℕ) (neg : Bool) (b : ℕ) → AllByRecursion IsLiteral taken → n < 2 ^ 63 → (v : Bool) → nat_eq b 32 ≡ v → (w : Bool) → nat_eq b 45 ≡ w
        → cond v (cond (nat_eq n 0) None (literals_before (taken ++ signed n neg ∷ []) 0 false bytes))
        (cond w (cond (nat_eq n 0 && not neg) (literals_before taken 0 true bytes) None) (option_and_then (λ next. literals_before taken next neg bytes) (with_digit n b))) ≡ Some r
        → AreSpelled taken n neg (b ∷ bytes) r
    either taken n neg b all few true v w w' e = space taken n neg b all few (eqb-true b 32 v) (nat_eq n 0) refl e
    either taken n neg b all few false v true w e = minus taken n neg b all (eqb-true b 45 w) (nat_eq n 0 && not neg) refl e
    either taken n neg b all few false v false w e = digit taken n neg b all e

literals_sound : (taken : List ℤ) (n : ℕ) (neg : Bool) (bytes : List ℕ) (r : List ℤ) → AllByRecursion IsLiteral taken → n < 2 ^ 63 → literals_before taken n neg bytes ≡ Some r → AreSpelled taken n neg bytes r
literals_sound taken n neg [] r all few e = ended r taken n neg all (nat_eq n 0 && not neg) refl e
literals_sound taken n neg (b ∷ bytes) r all few e =
    either r bytes (λ taken' n' neg' all' few' e'. literals_sound taken' n' neg' bytes r all' few' e') taken n neg b all few (nat_eq b 32) refl (nat_eq b 45) refl e

-- what is read as literals is spelled as they
pub literals_spelled : (bytes : List ℕ) (r : List ℤ) → literals_of_bytes bytes ≡ Some r → bytes ≡ trailed r
unfolding literals_of_bytes
literals_spelled bytes r e = sym ((literals_sound [] 0 false bytes r tt (omega arith) e).text)

literals_goes : (taken : List ℤ) (neg : Bool) (n b m : ℕ) (rest : List ℕ) → IsMore n b m → literals_before taken n neg (b ∷ rest) ≡ literals_before taken m neg rest
literals_goes taken neg n b m rest h =
    let space : nat_eq b 32 ≡ false = ne_eqb b 32 (λ e. let low = h.low in omega (arith, e)) in
    let dash : nat_eq b 45 ≡ false = ne_eqb b 45 (λ e. let low = h.low in omega (arith, e)) in
    rw (space, dash, of_more n b m h) refl

one_read : (taken : List ℤ) (neg : Bool) (n : ℕ) (rest : List ℕ) → IsSmallNumber n → literals_before taken 0 neg (decimal n ++ (codes " " ++ rest)) ≡ literals_before (taken ++ signed n neg ∷ []) 0 false rest
one_read taken neg n rest h =
    spelled_read (λ k bytes. literals_before taken k neg bytes) (λ k b m ys. literals_goes taken neg k b m ys) n (codes " " ++ rest) h
    ∙ ap (λ (v : Bool). cond v None (literals_before (taken ++ signed n neg ∷ []) 0 false rest)) (ne_eqb n 0 (λ e. let p = h.0 in omega (arith, e)))

literals_complete : (taken ls : List ℤ) → AllByRecursion IsLiteral ls → literals_before taken 0 false (trailed ls) ≡ Some (taken ++ ls)
literals_complete taken [] all = ap Some (sym (append-nil taken))
literals_complete taken (pos n ∷ ls) all =
    ap (literals_before taken 0 false) (append_assoc (decimal n) (codes " ") (trailed ls)) ∙ (one_read taken false n (trailed ls) all.0
    ∙ (literals_complete (taken ++ pos n ∷ []) ls all.1 ∙ ap Some (append_assoc taken (pos n ∷ []) ls)))
literals_complete taken (negsuc n ∷ ls) all =
    ap (literals_before taken 0 true) (append_assoc (decimal (suc n)) (codes " ") (trailed ls)) ∙ (one_read taken true (suc n) (trailed ls) all.0
    ∙ (ap (λ (l : ℤ). literals_before (taken ++ l ∷ []) 0 false (trailed ls)) (negative n) ∙ literals_complete (taken ++ negsuc n ∷ []) ls all.1 ∙ ap Some (append_assoc taken (negsuc n ∷ []) ls)))

pub literals_read : (ls : List ℤ) → AllByRecursion IsLiteral ls → literals_of_bytes (trailed ls) ≡ Some ls
unfolding literals_of_bytes
literals_read ls all = literals_complete [] ls all

-- ---- fronts
pub after_front : (front rest : List ℕ) → after_prefix front (front ++ rest) ≡ Some rest
unfolding after_prefix
after_front front rest = rw (take-append_seam front rest, (bytes_eq-Decides front front).1 refl) (ap Some (drop-append_seam front rest))

pub after_is : (front bytes rest : List ℕ) → after_prefix front bytes ≡ Some rest → bytes ≡ front ++ rest
unfolding after_prefix
after_is front bytes rest e =
    let h = cond_some (bytes_eq (take (length front) bytes) front) (drop (length front) bytes) rest e in
    let t : take (length front) bytes ≡ front = (bytes_eq-Decides (take (length front) bytes) front).0 h.0 in
    sym (take-append-drop (length front) bytes) ∙ (ap (λ xs. xs ++ drop (length front) bytes) t ∙ ap (λ xs. front ++ xs) h.1)

-- ---- where the literals of a step end
trailed_notb : (ls : List ℤ) → AllByRecursion IsLiteral ls → AllByRecursion (λ b. nat_eq b 98 ≡ false) (trailed ls)
trailed_notb [] all = tt
trailed_notb (pos n ∷ ls) all = all_append (λ b. nat_eq b 98 ≡ false) (decimal n ++ codes " ") (trailed ls) (all_append (λ b. nat_eq b 98 ≡ false) (decimal n) (codes " ") (decimal_without 98 (λ d less e. omega (arith, less, e)) n (let h : n < 2 ^ 63 = all.0.1 in omega arith)) (refl, tt)) (trailed_notb ls all.1)
trailed_notb (negsuc n ∷ ls) all = (refl, all_append (λ b. nat_eq b 98 ≡ false) (decimal (suc n) ++ codes " ") (trailed ls) (all_append (λ b. nat_eq b 98 ≡ false) (decimal (suc n)) (codes " ") (decimal_without 98 (λ d less e. omega (arith, less, e)) (suc n) (let h : suc n < 2 ^ 63 = all.0.1 in omega arith)) (refl, tt)) (trailed_notb ls all.1))

-- ---- steps
trail : (ls : List ℤ) → spaced (map literal_text ls) ++ codes " " ≡ codes " " ++ trailed ls
trail [] = refl
trail (l ∷ ls) =
    append_assoc (codes " " ++ literal_text l) (spaced (map literal_text ls)) (codes " ")
    ∙ (ap (λ t. (codes " " ++ literal_text l) ++ t) (trail ls) ∙ ap (λ t. codes " " ++ t) (sym (append_assoc (literal_text l) (codes " ") (trailed ls))))

step_line : (s : Inference) → step_text s ≡ codes "step " ++ (trailed s.clause ++ (codes "by" ++ spaced (map decimal s.chain)))
unfolding step_text
step_line s =
    ap (λ t. codes "step" ++ t) (sym (append_assoc (spaced (map literal_text s.clause)) (codes " ") (codes "by" ++ spaced (map decimal s.chain)))
    ∙ ap (λ t. t ++ (codes "by" ++ spaced (map decimal s.chain))) (trail s.clause))

pub record IsStepShape (s : Inference) : Type 0 where
  pub clause : IsClause s.clause
  pub first : ℕ
  pub others : List ℕ
  pub chain : s.chain ≡ first ∷ others
  pub readable : IsSmallNumber first
  pub others_readable : AllByRecursion IsSmallNumber others

chained : (s : Inference) (rest numbers : List ℕ) (by : ℕ) → after_prefix (codes "step ") (codes "step " ++ rest) ≡ Some rest → place_of_byte 98 rest ≡ Some by
    → after_prefix (codes "by ") (drop by rest) ≡ Some numbers → literals_of_bytes (take by rest) ≡ Some s.clause → ascend_from 0 s.clause ≡ true → numbers_of numbers ≡ Some s.chain
    → step_of (codes "step " ++ rest) ≡ Some s
unfolding step_of
chained s rest numbers by a b d f g k = rw (a, b, d, f, g, k) refl

pub step_read : (s : Inference) → IsStepShape s → step_of (step_text s) ≡ Some s
unfolding step_of
step_read s h =
    let numbers = decimal h.first ++ spaced (map decimal h.others) in
    let rest = trailed s.clause ++ (codes "by " ++ numbers) in
    let line : step_text s ≡ codes "step " ++ rest = step_line s ∙ ap (λ (c : List ℕ). codes "step " ++ (trailed s.clause ++ (codes "by" ++ spaced (map decimal c)))) h.chain in
    let a : after_prefix (codes "step ") (codes "step " ++ rest) ≡ Some rest = after_front (codes "step ") rest in
    let b : place_of_byte 98 rest ≡ Some (length (trailed s.clause)) = place_is 98 (trailed s.clause) (121 ∷ 32 ∷ numbers) (trailed_notb s.clause h.clause.0) in
    let c : drop (length (trailed s.clause)) rest ≡ codes "by " ++ numbers = drop-append_seam (trailed s.clause) (codes "by " ++ numbers) in
    let d : after_prefix (codes "by ") (codes "by " ++ numbers) ≡ Some numbers = after_front (codes "by ") numbers in
    let e : take (length (trailed s.clause)) rest ≡ trailed s.clause = take-append_seam (trailed s.clause) (codes "by " ++ numbers) in
    let f : literals_of_bytes (trailed s.clause) ≡ Some s.clause = literals_read s.clause h.clause.0 in
    let g : ascend_from 0 s.clause ≡ true = ascends s.clause h.clause in
    let k : numbers_of numbers ≡ Some s.chain = numbers_read h.first h.others h.readable h.others_readable ∙ ap Some (sym h.chain) in
    ap step_of line ∙ chained s rest numbers (length (trailed s.clause)) a b (ap (after_prefix (codes "by ")) c ∙ d) (ap literals_of_bytes e ∙ f) g k

-- what is read as a step is spelled as it
pub record IsStepRead (line : List ℕ) (s : Inference) : Type 0 where
  pub clause : IsClause s.clause
  pub first : ℕ
  pub others : List ℕ
  pub chain : s.chain ≡ first ∷ others
  pub readable : AllByRecursion IsSmallNumber s.chain
  pub text : line ≡ step_text s

-- one number or more
first_of : (ns bytes : List ℕ) → spaced (map decimal ns) ≡ codes " " ++ bytes → (first : ℕ) × (others : List ℕ) × (ns ≡ first ∷ others)
first_of [] bytes e = absurd (cc)
first_of (n ∷ ns) bytes e = (n, ns, refl)

read : (line rest numbers : List ℕ) (by : ℕ) (literals clause : List ℤ) (chain : List ℕ) (s : Inference) → after_prefix (codes "step ") line ≡ Some rest → after_prefix (codes "by ") (drop by rest) ≡ Some numbers
    → literals_of_bytes (take by rest) ≡ Some literals → guarded (ascend_from 0 literals) literals ≡ Some clause → numbers_of numbers ≡ Some chain → record { clause = clause; chain = chain } ≡ s → IsStepRead line s
read line rest numbers by literals clause chain s a c d f g is =
    let h = cond_some (ascend_from 0 literals) literals clause f in
    let ns = numbers_spelled numbers chain g in
    let (first, others, chain_is) = first_of chain numbers ns.1 in
    let t : Inference = record { clause = clause; chain = chain } in
    let whole : line ≡ step_text t =
    after_is (codes "step ") line rest a
    ∙ (ap (λ r. codes "step " ++ r) (sym (take-append-drop by rest) ∙ (ap (λ r. r ++ drop by rest) (literals_spelled (take by rest) literals d ∙ ap trailed h.1)
    ∙ ap (λ r. trailed clause ++ r) (after_is (codes "by ") (drop by rest) numbers c ∙ ap (λ r. codes "by" ++ r) (sym ns.1))))
    ∙ sym (step_line t)) in
    subst (IsStepRead line) is (record {
      clause = subst IsClause h.1 (is_clause literals h.0);
      first = first;
      others = others;
      chain = chain_is;
      readable = ns.0;
      text = whole;
    })

pub step_spelled : (line : List ℕ) (s : Inference) → step_of line ≡ Some s → IsStepRead line s
unfolding step_of
step_spelled line s e =
    let (rest, a, e1) = bound _ (after_prefix (codes "step ") line) s e in
    let (by, b, e2) = bound _ (place_of_byte 98 rest) s e1 in
    let (numbers, c, e3) = bound _ (after_prefix (codes "by ") (drop by rest)) s e2 in
    let (literals, d, e4) = bound _ (literals_of_bytes (take by rest)) s e3 in
    let (clause, f, e5) = bound _ (guarded (ascend_from 0 literals) literals) s e4 in
    let (chain, g, e6) = bound _ (numbers_of numbers) s e5 in
    let is : record { clause = clause; chain = chain } ≡ s = same_Some {A = Inference} _ _ e6 in
    read line rest numbers by literals clause chain s a c d f g is

-- ---- as it is told
pub shape_from : (s : Inference) (chain : List ℕ) → s.chain ≡ chain → IsClause s.clause → ¬ (chain ≡ []) → AllByRecursion IsSmallNumber chain → IsStepShape s
shape_from s [] is clause some numbers = absurd (some refl)
shape_from s (n ∷ ns) is clause some numbers = record { clause = clause; first = n; others = ns; chain = is; readable = numbers.0; others_readable = numbers.1 }

pub step_told : (line : List ℕ) (o : Option Inference) → o ≡ step_of line → SpellsStep line o
step_told line None e = λ s h is. none-some s (e ∙ (ap step_of is ∙ step_read s (shape_from s s.chain refl h.clause h.some h.numbers)))
step_told line (Some s) e =
    let h = step_spelled line s (sym e) in
    (record { clause = h.clause; some = (λ none. let e : h.first ∷ h.others ≡ [] = sym h.chain ∙ none in cc); numbers = h.readable }, h.text)
