-- Lines of steps, told by their bytes.
use Rattle.std.proofs.Common.{◌≡◌, ℕ, ◌==◌, Bool, true, false, List, [], ◌∷◌, length, take, drop, codes, is_some, Option, Some, None, ℤ, refl, sym, ap, ◌∙◌, arith, true≢false}
use Rattle.std.proofs.lemmas.Bool.Decides.{nat_tests}
use Rattle.std.specs.Option.{option_and_then}
use Rattle.mcs_trace.specs.Traces.{Inference}
use Rattle.mcs_spelling.specs.Words.{after_prefix, place_of_byte, literals_of_bytes, numbers_of, ascend_from, guarded, step_of}
use Rattle.mcs_spelling.proofs.ClauseTests.{is_clause}
use Rattle.mcs_steps.specs.Lines.{clause_from, IsStepLine}
use Rattle.mcs_steps.specs.declared.line.StepLine as code

-- nothing is left of the literals
pub clause_end : (last : ℕ) (left : List ℕ) → (length left == 0) ≡ true → is_some (clause_from last left) ≡ true
unfolding literals_of_bytes
clause_end last [] e = refl
clause_end last (b ∷ left) e = let long : (length (b ∷ left) == 0) ≡ false = grind (arith, nat_tests) in absurd (true≢false (sym e ∙ long))

-- ---- the parts of a line
abbrev step_with : List ℤ → List ℕ → Option Inference
step_with clause chain = Some (record { clause = clause; chain = chain })

abbrev then_chain : Option (List ℕ) → List ℤ → Option Inference
then_chain chain clause = option_and_then (step_with clause) chain

abbrev step_by : Option (List ℤ) → Option (List ℕ) → Option Inference
step_by literals chain = option_and_then (λ ls. option_and_then (then_chain chain) (guarded (ascend_from 0 ls) ls)) literals

pub no_front : (line : List ℕ) → None ≡ after_prefix (codes "step ") line → step_of line ≡ None
unfolding step_of
no_front line e = rw (← e) refl

module _ (line rest : List ℕ) (front : Some rest ≡ after_prefix (codes "step ") line) where
  pub no_by : None ≡ place_of_byte 98 rest → step_of line ≡ None
  unfolding step_of
  no_by e = rw (← front, ← e) refl

  module _ (by : ℕ) (at : Some by ≡ place_of_byte 98 rest) where
    pub no_chain : None ≡ after_prefix (codes "by ") (drop by rest) → step_of line ≡ None
    unfolding step_of
    no_chain e = rw (← front, ← at, ← e) refl

    module _ (chain : List ℕ) (after : Some chain ≡ after_prefix (codes "by ") (drop by rest)) where
      by_parts : step_of line ≡ step_by (literals_of_bytes (take by rest)) (numbers_of chain)
      unfolding step_of
      by_parts = rw (← front, ← at, ← after) refl

      pub no_clause : is_some (clause_from 0 (take by rest)) ≡ false → step_of line ≡ None
      no_clause e = by_parts ∙ go (literals_of_bytes (take by rest)) e
        where
          clause : (ls : List ℤ) (v : Bool) → is_some (guarded {A = List ℤ} v ls) ≡ false → option_and_then (then_chain (numbers_of chain)) (guarded v ls) ≡ None
          clause ls true e = absurd (true≢false e)
          clause ls false e = refl

          go : (o : Option (List ℤ)) → is_some (option_and_then (λ ls. guarded (ascend_from 0 ls) ls) o) ≡ false → step_by o (numbers_of chain) ≡ None
          go None e = refl
          go (Some ls) e = clause ls (ascend_from 0 ls) e

      pub no_numbers : is_some (numbers_of chain) ≡ false → step_of line ≡ None
      no_numbers e = by_parts ∙ go (literals_of_bytes (take by rest)) (numbers_of chain) e
        where
          clause : (ls : List ℤ) (v : Bool) → option_and_then (then_chain None) (guarded v ls) ≡ None
          clause ls true = refl
          clause ls false = refl

          go : (o : Option (List ℤ)) (p : Option (List ℕ)) → is_some p ≡ false → step_by o p ≡ None
          go None p e = refl
          go (Some ls) None e = clause ls (ascend_from 0 ls)
          go (Some ls) (Some ns) e = absurd (true≢false e)

      pub parted : is_some (clause_from 0 (take by rest)) ≡ true → is_some (numbers_of chain) ≡ true → (part : code.StepLine) → part.literals.now ≡ take by rest → part.chain.now ≡ chain → IsStepLine line part
      parted test test' part same same' = go (literals_of_bytes (take by rest)) refl (numbers_of chain) refl test test'
        where
          ascending : (ls : List ℤ) (v : Bool) → ascend_from 0 ls ≡ v → is_some (guarded {A = List ℤ} v ls) ≡ true → ascend_from 0 ls ≡ true
          ascending ls true is e = is
          ascending ls false is e = absurd (true≢false (sym e))

          go : (o : Option (List ℤ)) → literals_of_bytes (take by rest) ≡ o → (p : Option (List ℕ)) → numbers_of chain ≡ p → is_some (option_and_then (λ ls. guarded (ascend_from 0 ls) ls) o) ≡ true → is_some p ≡ true → IsStepLine line part
          go None is p is' e e' = absurd (true≢false (sym e))
          go (Some ls) is None is' e e' = absurd (true≢false (sym e'))
          go (Some ls) is (Some ns) is' e e' =
              let up : ascend_from 0 ls ≡ true = ascending ls (ascend_from 0 ls) refl e in
              let s : Inference = record { clause = ls; chain = ns } in
              let whole : step_by (Some ls) (Some ns) ≡ Some s = ap (λ (v : Bool). option_and_then (then_chain (Some ns)) (guarded v ls)) up in
              record {
                step = s;
                is = by_parts ∙ ap (λ (o : Option (List ℤ)). step_by o (numbers_of chain)) is ∙ ap (step_by (Some ls)) is' ∙ whole;
                spells = record { literals = ap literals_of_bytes same ∙ is; clause = is_clause ls up; chain = ap numbers_of same' ∙ is' };
              }
