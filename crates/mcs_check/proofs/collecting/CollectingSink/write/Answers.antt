use Rattle.std.proofs.Common.{refl, rules, ◌≡◌, ℕ, ◌+◌, ◌-◌, ◌++◌, List, length, take, drop, Some, sym, ap, ◌∙◌, arith, length-drop}
use Rattle.std.proofs.lemmas.List.{take_all}
use Rattle.mcs_check.specs.Collected.{Collected, met}
use Rattle.mcs_check.proofs.Differences.{text_more}
use Rattle.mcs_check.proofs.collecting.CollectingSink.write.Goals as goal

-- how many bytes are as expected
met_is : (expected : List ℕ) (same : ℕ) (other shown bytes : List ℕ) (n : ℕ) → shown ≡ other → n ≡ met (take (length expected - same) (drop same expected)) shown bytes → n ≡ met (drop same expected) other bytes
met_is expected same other shown bytes n same_other e =
    let rest : take (length expected - same) (drop same expected) ≡ drop same expected = take_all _ _ (omega (arith, length-drop same expected)) in
    e ∙ ap (λ (xs : List ℕ). met xs shown bytes) rest ∙ ap (λ (xs : List ℕ). met (drop same expected) xs bytes) same_other

pub returns-in-Ok : goal.returns-in-Ok
returns-in-Ok c =
    let expected = c.self.inside.expected.now in
    let same = c.self.inside.same in
    let other = c.self.inside.other in
    let bytes = c.args.bytes.now in
    let n = c.met-met.result in
    let is = met_is expected same other c.bytes.result.now bytes n c.bytes.ensures c.met-met.ensures.value in
    let after : take (length bytes - n) (drop n bytes) ≡ drop n bytes = take_all _ _ (omega (arith, length-drop n bytes)) in
    let kept : c.push.new.self ≡ other ++ drop n bytes = c.in-Ok.ensures.ok ∙ ap (λ (xs : List ℕ). other ++ xs) after in
    let whole : take (length bytes) bytes ≡ bytes = take_all _ _ (omega arith) in
    let before : take same expected ++ other ≡ c.args.self.now.text = ap (λ (v : Collected). v.text) c.self.view_is in
    record {
      cause = search rules;
      quiet = search rules;
      bound = search rules;
      progress = search rules;
      written = ap (λ (xs : List ℕ). Some xs) (
          ap (λ (xs : List ℕ). take (same + n) expected ++ xs) kept
          ∙ ap (λ (k : ℕ). take (same + k) expected ++ (other ++ drop k bytes)) is
          ∙ sym (text_more expected same other bytes)
          ∙ ap (λ (xs : List ℕ). xs ++ bytes) before
          ∙ ap (λ (xs : List ℕ). c.args.self.now.text ++ xs) (sym whole)
          );
      unwritten = tt;
      notes = refl;
    }
