-- The weights that a text gives its rules, and the rules of a text without the version.
use Rattle.std.proofs.Common.{◌≡◌, ℕ, ◌+◌, ◌<◌, ◌≤◌, Bool, false, [], ◌∷◌, codes, length, take, Option, Some, None, refl, sym, ap, ap₂, ◌∙◌, subst, inl, inr, arith, slice_get, nat_eq, nat_lt}
use Rattle.std.proofs.lemmas.Bool.{cases_lt, or_parts, eqb-false, ltb-false}
use Rattle.std.proofs.lemmas.List.{length-map}
use Rattle.std.proofs.lemmas.Option.{slice_get_within}
use Rattle.std.specs.List.{flat_map, list_any, AllByRecursion}
use Rattle.mcs_base.specs.Listings.{IsAmong}
use Rattle.mcs_base.specs.Numbers.{value_of_digits}
use Rattle.mcs_base.proofs.Among.{among_left, among_right, among_flat_map, get_among}
use Rattle.mcs_base.proofs.Each.{all_among, all_both, all_from_among, all_from_no_any}
use Rattle.mcs_system.specs.Plain.{Context, Bridge, System}
use Rattle.mcs_system.specs.Faults.{has_misfit, has_unjustified, exceeds, IsValid}
use Rattle.mcs_system.proofs.ValidLemmas.{tests_pass, limit_kept}
use Rattle.mcs_system.specs.Unmarked.{IsPlainRule}
use Rattle.mcs_system.specs.declared.limit.Limit.TheVariants.{Weight}
use Rattle.mcs_tokens.proofs.Numbers.{some_value}
use Rattle.mcs_grammar.specs.Written.{WrittenMarks, WrittenBridge, WrittenText, IsWeight, no_marks, IsWrittenBridge}
use Rattle.mcs_grammar.specs.Entries.{Token, Weighs, Entry, entry, optional, weight_entries, mark_entries, context_entries, bridge_entries, version_entries, text_entries, uses_of}
use Rattle.mcs_grammar.specs.Saying.{weight_said}
use Rattle.mcs_grammar.specs.Faults.{Exceeds, ExceedsLimit}
use Rattle.mcs_grammar.specs.Laws.{UnversionedRulesAreUnmarked, SpelledWeightsAreInRange}
use Rattle.mcs_grammar.proofs.SaidSystem.{bridge-written}

-- ---- what is written of a weight
abbrev pub weight_entry : Token → Entry
weight_entry digits = entry digits (Weighs (value_of_digits digits) ∷ [])

weight-there : (digits : Token) (w : Option Token) → w ≡ Some digits → IsAmong (weight_entry digits) (weight_entries w)
weight-there digits w is = subst (λ v. IsAmong (weight_entry digits) (weight_entries v)) (sym is) (inr (inl refl))

pub weight-among : (t : WrittenText) (b : WrittenBridge) (digits : Token) → IsAmong b t.bridges → b.marks.weight ≡ Some digits → IsAmong (weight_entry digits) (text_entries t)
weight-among t b digits there is =
    let e = weight_entry digits in
    let marks = b.marks in
    let own : IsAmong e (mark_entries marks) = among_right e (optional marks.keep (codes "keep")) _ (among_right e (optional marks.closed (codes "closed")) (weight_entries marks.weight) (weight-there digits marks.weight is)) in
    let rule : IsAmong e (bridge_entries b) = inr (inr (among_left e (mark_entries marks) _ own)) in
    among_right e (version_entries t.has_version) _ (among_right e (flat_map context_entries t.contexts) (flat_map bridge_entries t.bridges) (among_flat_map bridge_entries b e t.bridges there rule))

pub written-some : (w : Option Token) → IsWeight w → 1 ≤ weight_said w
written-some None h = omega arith
written-some (Some digits) h = some_value digits h.0 h.1

-- ---- a text none of whose tokens exceeds the limit
module _ (t : WrittenText) (light : (k : ℕ) (e : Entry) → slice_get (text_entries t) k ≡ Some e → ¬ ExceedsLimit Weight (uses_of (take k (text_entries t))) e) where
  weight-few : (b : WrittenBridge) → IsAmong b t.bridges → (w : Option Token) → b.marks.weight ≡ w → weight_said w ≤ 1000000
  weight-few b there None is = omega arith
  weight-few b there (Some digits) is = elim (cases_lt 1000000 (value_of_digits digits)) [ inl less ↦ absurd (heavy less) | inr past ↦ past ]
    where
      heavy : 1000000 < value_of_digits digits → ⊥
      heavy less = let (k, at) = get_among (weight_entry digits) (text_entries t) (weight-among t b digits there is) in light k (weight_entry digits) at (value_of_digits digits, inl refl, less)

  pub written-few : (b : WrittenBridge) → IsAmong b t.bridges → weight_said b.marks.weight ≤ 1000000
  written-few b there = weight-few b there b.marks.weight refl

pub spelled-weights : SpelledWeightsAreInRange
spelled-weights bytes m h = all_from_among (λ (b : Bridge). (1 ≤ b.weight) × (b.weight ≤ 1000000)) m.bridges (λ b there.
    let (w, written, says) = bridge-written h.text m h.says b there in
    let parts : IsWrittenBridge w = all_among IsWrittenBridge h.text.bridges w h.grammar.1 written in
    (subst (λ (n : ℕ). 1 ≤ n) (sym says.weight) (written-some w.marks.weight parts.3), subst (λ (n : ℕ). n ≤ 1000000) (sym says.weight) (written-few h.text light w written)))
  where
    light : (k : ℕ) (e : Entry) → slice_get (text_entries h.text) k ≡ Some e → ¬ ExceedsLimit Weight (uses_of (take k (text_entries h.text))) e
    light k e at exceeds =
        let within = slice_get_within (text_entries h.text) k e at in
        let many = length-map (text_entries h.text) (λ (x : Entry). x.token) in
        h.no_fault k (Exceeds Weight) (
          omega (arith, within, many, ap length h.written),
          record { text = h.text; grammar = h.grammar; same = ap (take (k + 1)) (sym h.written); here = e; is_here = at; has = exceeds },
        )

-- ---- a text without the version
plain-rule : (b : Bridge) → b.keep ≡ false → b.closed ≡ false → b.weight ≡ 1 → IsPlainRule b
plain-rule b keep closed weight =
    ap₂ (λ (k c : Bool). (let r : Bridge = record { name = b.name; target = b.target; head = b.head; pos = b.pos; neg = b.neg; keep = k; closed = c; weight = b.weight } in r)) keep closed
    ∙ ap (λ (w : ℕ). (let r : Bridge = record { name = b.name; target = b.target; head = b.head; pos = b.pos; neg = b.neg; keep = false; closed = false; weight = w } in r)) weight

pub unversioned-unmarked : UnversionedRulesAreUnmarked
unversioned-unmarked t m grammar none says = all_from_among IsPlainRule m.bridges (λ b there.
    let (w, written, s) = bridge-written t m says b there in
    let marks : w.marks ≡ no_marks = all_among (λ (x : WrittenBridge). x.marks ≡ no_marks) t.bridges w (grammar.2 none) written in
    plain-rule b (s.keep ∙ ap (λ (k : WrittenMarks). k.keep) marks) (s.closed ∙ ap (λ (k : WrittenMarks). k.closed) marks) (s.weight ∙ ap (λ (k : WrittenMarks). weight_said k.weight) marks))

-- ---- a valid system
pub weights_in_range : (m : System) → IsValid m → AllByRecursion (λ (b : Bridge). (1 ≤ b.weight) × (b.weight ≤ 1000000)) m.bridges
unfolding exceeds
weights_in_range m valid = all_both (λ (b : Bridge). 1 ≤ b.weight) (λ (b : Bridge). b.weight ≤ 1000000) m.bridges
    (all_from_no_any (λ (b : Bridge). 1 ≤ b.weight) (has_misfit m.contexts) (λ b e. omega (arith, eqb-false b.weight 0 (or_parts (nat_eq b.weight 0) _ e).0)) m.bridges
    (or_parts (list_any (λ (c : Context). has_unjustified c.kb) m.contexts) (list_any (has_misfit m.contexts) m.bridges) (tests_pass m valid).fitting).1)
    (all_from_no_any (λ (b : Bridge). b.weight ≤ 1000000) (λ (b : Bridge). nat_lt 1000000 b.weight) (λ b e. ltb-false 1000000 b.weight e) m.bridges
    (limit_kept m valid Weight (inr (inr (inr (inr (inr (inr (inr (inr (inl refl)))))))))))
