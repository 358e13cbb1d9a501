-- The rows whose marks are those that a pair makes of their state.
use Rattle.std.proofs.Common.{◌≡◌, ℕ, ◌+◌, ◌*◌, ◌<◌, true, not, ◌&&◌, ◌||◌, List, ◌++◌, map, filter, take, length, get_or, refl, sym, ap, ◌∙◌, subst, ◌⊎◌, inl, inr, ◌↔◌, arith}
use Rattle.std.proofs.lemmas.Bool.Decides.{nat_tests}
use Rattle.mcs_sets.specs.Sets.{has, common, union, minus, Within}
use Rattle.mcs_sets.proofs.SetLemmas.{same_set, sets, has-minus, has-union, has-common}
use Rattle.mcs_sets.proofs.Lattice.{minus_within, common_within_right}
use Rattle.mcs_base.specs.Listings.{IsAmong}
use Rattle.mcs_base.proofs.Among.{among_append, among_map, among_take_more}
use Rattle.mcs_base.specs.Pairs.{removed_of, forced_of}
use Rattle.mcs_base.proofs.PairLemmas.{has-removed_of, has-forced_of}
use Rattle.mcs_base.proofs.Ranges.{by_parity}
use Rattle.mcs_base.proofs.SetParts.{same_from_minus}
use Rattle.mcs_system.specs.Plain.{System}
use Rattle.mcs_system.specs.Systems.{all_rules, applicable, variables_of}
use Rattle.mcs_system.specs.Imports.{rules_into, marks_at}
use Rattle.mcs_system.specs.Rows.{inputs_of, local_of}
use Rattle.mcs_system.proofs.ContextSets.{rules_into_known}
use Rattle.mcs_system.proofs.MarkLemmas.{removed-marks_of, forced-marks_of}
use Rattle.mcs_import.proofs.QuestionLemmas.{same_applicable}
use Rattle.mcs_table.specs.declared.row.Row.{Row}
use Rattle.mcs_rows.specs.Changed.{applicable_into, acting_into, HasMarksOf}
use Rattle.mcs_rows.specs.Finding.{asked_in, IsAnswerTo}
use Rattle.mcs_rows.specs.Making.{agrees, row_with, IsChangedRow}
use Rattle.mcs_rows.specs.declared.answer.Answer.{Answer}

-- a row that has the marks of a pair has no others
pub marks_inside : (m : System) (i pair : ℕ) (r : Row) → HasMarksOf m i pair r → Within r.marks pair
marks_inside m i pair r h k is = let (n, half) = by_parity k in elim half [ inl e ↦ ap (has pair) e ∙ even n (ap (has r.marks) (sym e) ∙ is) | inr e ↦ ap (has pair) e ∙ odd n (ap (has r.marks) (sym e) ∙ is) ]
  where
    a : ℕ
    a = applicable_into m i r.state.values

    x : ℕ
    x = acting_into m i pair r.state.values

    in_x : (n : ℕ) → has x n ≡ ((has a n && not (has (removed_of pair) n)) || (has (forced_of pair) n && has (rules_into m i) n))
    in_x n = rw (has-union, has-minus, has-common (forced_of pair) (rules_into m i) n) refl

    even : (n : ℕ) → has r.marks (2 * n) ≡ true → has pair (2 * n) ≡ true
    even n e = let e1 = has-removed_of r.marks n in let e2 : has (removed_of r.marks) n ≡ has (minus a x) n = ap (λ s. has s n) h.removed in let e3 = has-minus a x n in let e4 = in_x n in
        let e5 = has-removed_of pair n in grind (arith, nat_tests)

    odd : (n : ℕ) → has r.marks (2 * n + 1) ≡ true → has pair (2 * n + 1) ≡ true
    odd n e = let e1 = has-forced_of r.marks n in let e2 : has (forced_of r.marks) n ≡ has (minus x a) n = ap (λ s. has s n) h.forced in let e3 = has-minus x a n in let e4 = in_x n in
        let e5 = has-forced_of pair n in grind (arith, nat_tests)

-- a row says of the inputs what the state at them does, where its part agrees with the state
pub seen_inputs : (m : System) (i s τ : ℕ) → common τ (inputs_of m i) ≡ common s (variables_of m i) → common (common (union τ s) (local_of m i)) (inputs_of m i) ≡ common s (inputs_of m i)
seen_inputs m i s τ agree = same_set _ _ each
  where
    each : (v : ℕ) → has (common (common (union τ s) (local_of m i)) (inputs_of m i)) v ≡ has (common s (inputs_of m i)) v
    each v = let e : has (common τ (inputs_of m i)) v ≡ has (common s (variables_of m i)) v = ap (λ z. has z v) agree in grind (arith, sets)

module _ (m : System) (i pair s x : ℕ) (of_rules : Within x (rules_into m i)) where
  applies_known : Within (minus (applicable_into m i s) x) (all_rules m)
  applies_known k h = rules_into_known m i k (common_within_right (applicable m s) (rules_into m i) k (minus_within (applicable_into m i s) x k h))

  asked_known : Within (minus x (applicable_into m i s)) (all_rules m)
  asked_known k h = rules_into_known m i k (of_rules k (minus_within x (applicable_into m i s) k h))

  -- the marks of the set x in a state are those of the pair where x is what the pair makes of what applies
  pub marks_tell : (r : Row) → common r.state.values (inputs_of m i) ≡ common s (inputs_of m i) → r.marks ≡ marks_at m i s x → HasMarksOf m i pair r ↔ (x ≡ acting_into m i pair s)
  marks_tell r seen is = (
    λ h. same_from_minus (applicable_into m i s) x (acting_into m i pair s)
        (sym removed ∙ h.removed ∙ ap (λ a. minus a (acting_into m i pair r.state.values)) applies ∙ ap (minus (applicable_into m i s)) acts)
        (sym forced ∙ h.forced ∙ ap (minus (acting_into m i pair r.state.values)) applies ∙ ap (λ y. minus y (applicable_into m i s)) acts),
    λ e. record {
      removed = removed ∙ (ap (minus (applicable_into m i s)) (e ∙ sym acts) ∙ ap (λ a. minus a (acting_into m i pair r.state.values)) (sym applies));
      forced = forced ∙ (ap (λ y. minus y (applicable_into m i s)) (e ∙ sym acts) ∙ ap (minus (acting_into m i pair r.state.values)) (sym applies));
    },
  )
    where
      applies : applicable_into m i r.state.values ≡ applicable_into m i s
      applies = same_applicable m i r.state.values s seen

      acts : acting_into m i pair r.state.values ≡ acting_into m i pair s
      acts = ap (λ a. union (minus a (removed_of pair)) (common (forced_of pair) (rules_into m i))) applies

      removed : removed_of r.marks ≡ minus (applicable_into m i s) x
      removed = ap removed_of is ∙ removed-marks_of m _ _ applies_known

      forced : forced_of r.marks ≡ minus x (applicable_into m i s)
      forced = ap forced_of is ∙ forced-marks_of m _ _ asked_known

-- ---- the rows of a state with the answer to what the pair makes of the rules that apply
pub acting_inside : (m : System) (i pair s x : ℕ) → x ≡ acting_into m i pair s → Within x (rules_into m i)
acting_inside m i pair s x is k h = inside (subst (λ (z : ℕ). has z k ≡ true) is h)
  where
    inside : has (acting_into m i pair s) k ≡ true → has (rules_into m i) k ≡ true
    inside e = grind (arith, sets)

module _ (m : System) (i pair s x : ℕ) (answers : List Answer) where
  pub changed_added : (a : Answer) → x ≡ acting_into m i pair s → IsAnswerTo answers x a → (old new : List Row) → new ≡ old ++ map (row_with m i s (marks_at m i s x)) (filter (agrees m i s) a.parts.items) → (r : Row) → IsAmong r new ↔ (IsAmong r old ⊎ IsChangedRow m i pair answers s r)
  changed_added a acts found old new is r = (
    λ h. elim ((among_append r old _).0 (subst (λ (rows : List Row). IsAmong r rows) is h)) [
      | inl before ↦ inl before
      | inr added ↦ inr (record { answer = a; among = found.among; active = found.active ∙ acts; row = subst (λ (z : ℕ). IsAmong r (map (row_with m i s (marks_at m i s z)) (filter (agrees m i s) a.parts.items))) (sym found.active) added })
    ],
    λ h. subst (λ (rows : List Row). IsAmong r rows) (sym is) ((among_append r old _).1 (elim h [
      | inl before ↦ inl before
      | inr c ↦
          let same : c.answer ≡ a = found.one c.answer c.among (c.active ∙ sym acts) in
          inr (subst (λ (z : ℕ). IsAmong r (map (row_with m i s (marks_at m i s z)) (filter (agrees m i s) a.parts.items))) found.active
          (subst (λ (b : Answer). IsAmong r (map (row_with m i s (marks_at m i s b.active)) (filter (agrees m i s) b.parts.items))) same c.row))
    ])),
  )

  pub changed_none : x ≡ acting_into m i pair s → ¬ IsAmong x (asked_in answers) → (old : List Row) (r : Row) → IsAmong r old ↔ (IsAmong r old ⊎ IsChangedRow m i pair answers s r)
  changed_none acts none old r = (
    λ h. inl h,
    λ h. elim h [
      | inl before ↦ before
      | inr c ↦ absurd (none (subst (λ (z : ℕ). IsAmong z (asked_in answers)) (c.active ∙ sym acts) (among_map (λ (a : Answer). a.active) c.answer answers c.among)))
    ],
  )

-- ---- state after state
pub changed_more : (m : System) (i pair : ℕ) (answers : List Answer) (states : List ℕ) (k s : ℕ) → k < length states → s ≡ get_or states k s → (old new : List Row) → ((r : Row) → IsAmong r old ↔ ((z : ℕ) × IsAmong z (take k states) × IsChangedRow m i pair answers z r)) → ((r : Row) → IsAmong r new ↔ (IsAmong r old ⊎ IsChangedRow m i pair answers s r))
    → (r : Row) → IsAmong r new ↔ ((z : ℕ) × IsAmong z (take (k + 1) states) × IsChangedRow m i pair answers z r)
changed_more m i pair answers states k s less here old new so_far step r =
    let more = among_take_more states k s less here in (
      λ h. elim ((step r).0 h) [
        | inl before ↦ let (z, among, c) = (so_far r).0 before in (z, (more z).1 (inl among), c)
        | inr c ↦ (s, (more s).1 (inr refl), c)
      ],
      λ (z, among, c). (step r).1 (elim ((more z).0 among) [
        | inl before ↦ inl ((so_far r).1 (z, before, c))
        | inr e ↦ inr (subst (λ (y : ℕ). IsChangedRow m i pair answers y r) e c)
      ]),
    )
