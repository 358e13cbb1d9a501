-- Accepted verdicts on sets of defaults are in shape. They are accepted of a theory that may have more facts than the one of the shape, and the same defaults.
use Rattle.std.proofs.Common.{◌≡◌, ℕ, zero, suc, ◌+◌, ◌*◌, ◌^◌, ◌<◌, ◌≤◌, true, ltb, List, [], ◌∷◌, ◌++◌, map, length, length-append, Some, slice_get, refl, sym, ap, ◌∙◌, subst, arith}
use Rattle.std.proofs.lemmas.Bool.Decides.{nat_tests}
use Rattle.std.proofs.lemmas.List.{length-map}
use Rattle.std.proofs.lemmas.Option.{slice_get_within}
use Rattle.std.specs.List.{AllByRecursion, AllZip, flat_map}
use Rattle.mcs_sets.specs.Sets.{minus, such_that, members, size, Within}
use Rattle.mcs_sets.proofs.SetLemmas.{has-such_that, members_below}
use Rattle.mcs_sets.proofs.Lattice.{minus-lt}
use Rattle.mcs_base.specs.Listings.{IsAmong}
use Rattle.mcs_base.proofs.Among.{among_get}
use Rattle.mcs_base.proofs.Each.{all_among, all_get}
use Rattle.mcs_system.specs.Plain.{Name, Formula, Not, Default, Item, Rule}
use Rattle.mcs_system.specs.Seen.{formula_size}
use Rattle.mcs_system.specs.Justifications.{IsJustifiedUpTo}
use Rattle.mcs_system.proofs.SizeLemmas.{IsSmall, IsSmallDefault, IsSmallItem}
use Rattle.mcs_cnf.specs.Entailments.{Entailment}
use Rattle.mcs_cnf.proofs.SizeLemmas.{sizes, sizes_push}
use Rattle.mcs_evidence.specs.Defaults.{facts_of, defaults_of, numbered_default, numbered_formula, defaults_at, defaults_in, generated, all_defaults, Absence, Unsupported, Blocked, negated_justs, IsAbsent, AreGrounded, Verdict, Fails, Applied, Ungrounded, Extension, HasApplied, IsUngrounded, IsGenerating, IsAcceptedVerdict, IsAcceptedDefault}
use Rattle.mcs_evidence.proofs.DefaultLemmas.{by_kind}
use Rattle.mcs_evidence.proofs.TheorySizes.{as_many, facts_size, generated_size}
use Rattle.mcs_proof_text.specs.Answers.{entailment_lines, all_entailment_lines, absence_lines, verdict_lines, set_lines}
use Rattle.mcs_proof_text.specs.Shapes.{IsYes, IsNo, AreMany, IsDefaultNumber, IsJustNumber, IsAbsence, number_of_absence, IsAbsenceOf, IsAppliedShape, IsUngroundedShape, IsExtensionShape, IsDefaultVerdict, AreVerdicts}
use Rattle.mcs_proof_text.proofs.TraceShapes.{some_lines, lines_of_more, yes_shape, no_shape, no_shapes, either_shapes}

-- the lines of a verdict are among those of all
lines_of_verdict : (k : ℕ) (vs : List Verdict) (i : ℕ) (v : Verdict) → slice_get vs i ≡ Some v → length (verdict_lines v) ≤ length (set_lines k vs)
lines_of_verdict k [] i v is = absurd (cc)
lines_of_verdict k (w ∷ vs) zero v is =
    let same : w ≡ v = cc in
    omega (arith, ap (λ (x : Verdict). length (verdict_lines x)) same, length-append (verdict_lines w) (set_lines (k + 1) vs))
lines_of_verdict k (w ∷ vs) (suc i) v is = omega (arith, lines_of_verdict (k + 1) vs i v is, length-append (verdict_lines w) (set_lines (k + 1) vs))

numbered_place : (fs : List Formula) (j : ℕ) (f : Formula) → numbered_formula fs j ≡ Some f → (0 < j) × (j ≤ length fs) × IsAmong f fs
numbered_place fs zero f is = absurd (cc)
numbered_place fs (suc k) f is = (omega arith, omega (arith, slice_get_within fs k f is), among_get f fs k is)

module _ (names : List Name) (few : length names ≤ 64) (told items : List Item) (same : defaults_of told ≡ defaults_of items)
    (few_told : length told ≤ 4160) (small : AllByRecursion IsSmallItem told)
    (most : ℕ) (least : most < 2 ^ 32) (justified : AllByRecursion (IsJustifiedUpTo most) told) where
  -- ---- a default that has a number
  record IsKnown (n : ℕ) (d : Default) : Type 0 where
    is_it : numbered_default items n ≡ Some d
    number : IsDefaultNumber items n
    small_parts : IsSmallDefault d
    few_justs : length d.justs ≤ most

  known : (n : ℕ) (d : Default) → numbered_default told n ≡ Some d → IsKnown n d
  known zero d is = absurd (cc)
  known (suc k) d is = let there : slice_get (defaults_of items) k ≡ Some d = ap (λ (ds : List Default). slice_get ds k) (sym same) ∙ is in record {
    is_it = there;
    number = (omega arith, omega (arith, slice_get_within (defaults_of items) k d there));
    small_parts = all_get (λ d. IsSmallItem (Rule d)) (defaults_of told) k d (by_kind IsSmallItem told small).1 is;
    few_justs = all_get (λ d. IsJustifiedUpTo most (Rule d)) (defaults_of told) k d (by_kind (IsJustifiedUpTo most) told justified).1 is;
  }

  small_generated : (set : ℕ) → sizes (generated told set) ≤ 2 ^ 58
  small_generated set = omega (arith, generated_size told small set)

  -- ---- absences
  absence_shape : (fs : List Formula) (k : ℕ) (absence : Absence) → sizes fs ≤ 2 ^ 58 → length (absence_lines absence) ≤ 2 ^ 28
      → IsAbsent names told fs k absence → (number_of_absence absence ≡ k) × IsAbsence names items absence
  absence_shape fs k (Unsupported n e) small_fs short (number, (d, is, denied)) = (number, ((known n d is).number, no_shape names few fs d.pre e denied))
  absence_shape fs k (Blocked n j e) small_fs short (number, (d, is, (f, at, shown))) =
      let default = known n d is in
      let (some, within, among) = numbered_place d.justs j f at in
      let small_f : formula_size f ≤ 512 = all_among IsSmall d.justs f default.small_parts.justs among in
      let just : IsJustNumber items n j = (d, default.is_it, some, within, omega (arith, default.few_justs)) in
      (number, (just, yes_shape names few fs (Not f) e small_fs (omega arith) (omega arith) shown))

  absence_shapes : (fs : List Formula) (ks : List ℕ) (absences : List Absence) → sizes fs ≤ 2 ^ 58 → length (flat_map absence_lines absences) ≤ 2 ^ 28
      → AllZip (λ k absence. IsAbsent names told fs (k + 1) absence) ks absences → AllZip (IsAbsenceOf names items) ks absences
  absence_shapes fs [] [] small_fs short all = tt
  absence_shapes fs [] (a ∷ absences) small_fs short all = absurd all
  absence_shapes fs (k ∷ ks) [] small_fs short all = absurd all
  absence_shapes fs (k ∷ ks) (a ∷ absences) small_fs short all =
      let lines = length-append (absence_lines a) (flat_map absence_lines absences) in
      (absence_shape fs (k + 1) a small_fs (omega arith) all.0, absence_shapes fs ks absences small_fs (omega arith) all.1)

  -- ---- an order, in which each default adds a formula; there is a line for each
  grounded_shape : (fs : List Formula) (order : List ℕ) (pres : List Entailment) → sizes fs + 512 * length (all_entailment_lines pres) ≤ 2 ^ 58
      → length (all_entailment_lines pres) ≤ 2 ^ 28
      → AreGrounded names told fs order pres → AllByRecursion (IsDefaultNumber items) order × AreMany IsYes (length order) pres
  grounded_shape fs [] [] room short grounded = (tt, record { many = refl; each = tt })
  grounded_shape fs [] (e ∷ es) room short grounded = absurd grounded
  grounded_shape fs (n ∷ ns) [] room short grounded = absurd grounded
  grounded_shape fs (n ∷ ns) (e ∷ es) room short (d, is, shown, rest) =
      let default = known n d is in
      let lines = lines_of_more e es in
      let some = some_lines e in
      let small_pre : formula_size d.pre ≤ 512 = default.small_parts.pre in
      let small_conclusion : formula_size d.conclusion ≤ 512 = default.small_parts.conclusion in
      let (numbers, shown_each) = grounded_shape (fs ++ d.conclusion ∷ []) ns es (omega (arith, sizes_push fs d.conclusion)) (omega arith) rest in
      let here = yes_shape names few fs d.pre e (omega arith) (omega arith) (omega arith) shown in
      ((default.number, numbers), record { many = omega (arith, shown_each.many); each = (here, shown_each.each) })

  -- ---- verdicts
  module _ (beliefs : List Formula) (small_beliefs : AllByRecursion IsSmall beliefs) (set : ℕ) (low : set < 2 ^ length (defaults_of told)) where
    inside : Within set (all_defaults items)
    inside k member =
        let less : k < length (defaults_of told) = members_below set (length (defaults_of told)) k low member in
        let count = ap (λ (ds : List Default). length ds) same in
        let is : ltb k (length (defaults_of items)) ≡ true = grind (arith, nat_tests) in
        has-such_that (length (defaults_of items)) (λ j. true) k ∙ grind (arith, nat_tests)

    applied_shape : (number : ℕ) (pre : Entailment) (justs : List Entailment) → length (verdict_lines (Applied number pre justs)) ≤ 2 ^ 28
        → HasApplied names told set number pre justs → IsAppliedShape names items number pre justs
    applied_shape number pre justs short h =
        let default = known number h.default h.is_it in
        let small_pre : formula_size h.default.pre ≤ 512 = default.small_parts.pre in
        let lines = length-append (entailment_lines pre) (all_entailment_lines justs) in
        let count : length (negated_justs (h.default ∷ [])) ≡ length h.default.justs =
        omega (arith, length-append (map Not h.default.justs) [], length-map h.default.justs Not) in
        let denied = no_shapes names few (generated told set) (negated_justs (h.default ∷ [])) justs h.allowed in record {
          default = h.default;
          is_it = default.is_it;
          supported = yes_shape names few (generated told set) h.default.pre pre (small_generated set) (omega arith) (omega arith) h.supported;
          allowed = subst (λ (n : ℕ). AreMany (IsNo names) n justs) count denied;
        }

    ungrounded_shape : (closed : ℕ) (pres : List Entailment) → IsUngrounded names told set closed pres → IsUngroundedShape names items set closed pres
    ungrounded_shape closed pres h =
        let others : List Default = defaults_in told (minus set closed) in
        let count : length (map (λ (d : Default). d.pre) others) ≡ size (minus set closed) =
        length-map others (λ (d : Default). d.pre) ∙ as_many told (minus set closed) (minus-lt (length (defaults_of told)) set closed low) in
        let denied = no_shapes names few (generated told closed) (map (λ (d : Default). d.pre) others) pres h.unsupported in record {
          part = λ k member. inside k (h.part k member);
          unsupported = subst (λ (n : ℕ). AreMany (IsNo names) n pres) count denied;
        }

    extension_shape : (order : List ℕ) (pres justs : List Entailment) (outside : List Absence) (outputs : List Entailment) (places : ℕ)
        → length (verdict_lines (Extension order pres justs outside outputs)) ≤ 2 ^ 28
        → IsGenerating names told beliefs set order pres justs outside outputs places → IsExtensionShape names items (length beliefs) set order pres justs outside outputs
    extension_shape order pres justs outside outputs places short h =
        let rest = flat_map absence_lines outside ++ all_entailment_lines outputs in
        let lines = length-append (all_entailment_lines pres) (all_entailment_lines justs ++ rest) in
        let lines' = length-append (all_entailment_lines justs) rest in
        let lines'' = length-append (flat_map absence_lines outside) (all_entailment_lines outputs) in
        let denied = no_shapes names few (generated told set) (negated_justs (defaults_in told set)) justs h.allowed in
        let every : all_defaults told ≡ all_defaults items = ap (λ (ds : List Default). such_that (length ds) (λ k. true)) same in
        let (numbers, shown_each) = grounded_shape (facts_of told) order pres (omega (arith, facts_size told small)) (omega arith) h.grounded in record {
          numbers = numbers;
          grounded = shown_each;
          allowed = subst (λ (ds : List Default). AreMany (IsNo names) (length (negated_justs (defaults_at 0 ds set))) justs) same denied;
          complete = subst (λ (s : ℕ). AllZip (IsAbsenceOf names items) (members (minus s set)) outside) every
              (absence_shapes (generated told set) (members (minus (all_defaults told) set)) outside (small_generated set) (omega arith) h.complete);
          shown = either_shapes names few (generated told set) beliefs outputs (small_generated set) small_beliefs (omega arith) h.shown.entailments;
        }

    verdict_shape : (v : Verdict) → length (verdict_lines v) ≤ 2 ^ 28 → IsAcceptedVerdict names told beliefs set v
        → IsDefaultVerdict names items (length beliefs) set v
    verdict_shape (Fails absence) short (k, member, absent) = (absence_shape (generated told set) (k + 1) absence (small_generated set) short absent).1
    verdict_shape (Applied number pre justs) short h = applied_shape number pre justs short h
    verdict_shape (Ungrounded closed pres) short h = ungrounded_shape closed pres h
    verdict_shape (Extension order pres justs outside outputs) short (places, h) = extension_shape order pres justs outside outputs places short h

  pub verdicts_shape : (beliefs : List Formula) (views : List ℕ) (vs : List Verdict) → AllByRecursion IsSmall beliefs → length (set_lines 0 vs) ≤ 2 ^ 28
      → IsAcceptedDefault names told beliefs views vs → AreVerdicts names items (length beliefs) vs
  verdicts_shape beliefs views vs small_beliefs short accepted = record {
    one_each = accepted.one_each ∙ ap (λ (ds : List Default). 2 ^ length ds) same;
    each = λ set v is. (let low = subst (λ (n : ℕ). set < n) accepted.one_each (slice_get_within vs set v is) in
        verdict_shape beliefs small_beliefs set low v (omega (arith, lines_of_verdict 0 vs set v is)) (accepted.accepted set v is));
  }
