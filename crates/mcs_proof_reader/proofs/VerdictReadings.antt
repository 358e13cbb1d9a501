-- Verdicts on sets of defaults, read.
use Rattle.std.proofs.Common.{◌≡◌, ℕ, ◌+◌, ◌-◌, ◌<◌, ◌≤◌, ◌^◌, zero, suc, Bool, true, false, cond, not, nat_le, nat_lt, nat_eq, ltb, is_some, List, [], ◌∷◌, ◌++◌, map, length, codes, slice_get, slice_index, Option, Some, None, Ok, Err, refl, sym, ap, ◌∙◌, subst, arith, inl, inr, append_assoc}
use Rattle.std.proofs.lemmas.Bool.{and_parts}
use Rattle.std.proofs.lemmas.Bool.Decides.{nat_tests}
use Rattle.std.proofs.lemmas.List.{map-append}
use Rattle.std.proofs.lemmas.Option.{cond_some, same_Some, slice_get_within}
use Rattle.std.specs.Fmt.{decimal}
use Rattle.std.specs.List.{AllByRecursion, AllZip, flat_map, range_with_len}
use Rattle.std.specs.Option.{option_and_then, option_map_or}
use Rattle.mcs_sets.specs.Sets.{has, members, minus, size, Within}
use Rattle.mcs_sets.proofs.SetLemmas.{has-minus, has-such_that, members_below, same_set}
use Rattle.mcs_sets.proofs.Lattice.{below_from_members}
use Rattle.mcs_base.proofs.ListingLemmas.{members_all_below}
use Rattle.mcs_base.proofs.Lists.{slice_get_below}
use Rattle.mcs_base.proofs.Each.{all_weaker, all_from_among}
use Rattle.mcs_system.specs.Plain.{Name, Default, Item}
use Rattle.mcs_cnf.specs.Entailments.{Entailment}
use Rattle.mcs_evidence.specs.Defaults.{Absence, Unsupported, Blocked, Verdict, Fails, Applied, Ungrounded, Extension, defaults_of, numbered_default, all_defaults}
use Rattle.mcs_spelling.specs.Parts.{AreTellable, defaults_text, spaced}
use Rattle.mcs_spelling.specs.Words.{after_prefix, step_of, guarded}
use Rattle.mcs_spelling.proofs.NumberTexts.{bound}
use Rattle.mcs_proof_text.specs.Lines.{Line, SetLine, line_text}
use Rattle.mcs_proof_text.specs.Answers.{entailment_lines, all_entailment_lines, absence_lines, verdict_lines, set_lines}
use Rattle.mcs_proof_text.specs.Shapes.{IsYes, IsNo, IsEither, AreMany, IsDefaultNumber, IsAbsenceOf, just_count, IsAppliedShape, IsExtensionShape, IsDefaultVerdict, AreVerdicts}
use Rattle.mcs_proof_lines.specs.Walks.{At, Reading, ◌>>=◌, head_line, line_at, taken_at, advanced, fault_at, mapped_reading, many_at, each_at, number_after, no_at, yes_at, entailment_at, absence_at, absence_of_place}
use Rattle.mcs_proof_lines.specs.Verdicts.{Terms, all_places, defaults_of_line, order_of, just_total, extension_at, applied_at, ungrounded_at, or_extension, or_ungrounded, or_applied, verdict_at, set_at, sets_from, verdicts_at}
use Rattle.mcs_proof_lines.specs.Readings.{here, Stops, Anything, ReadsLines, ReadsLine, one_line, Image, AreBoth, both_lines, AllStop, IsEitherOf, Begin, each_lines, IsAtMost}
use Rattle.mcs_proof_lines.proofs.Readings.{picked, reads_line, reads_same}
use Rattle.mcs_proof_lines.proofs.ReadingSequences.{both, paired, reads_made, reads_both, both_stop, chosen_at, reads_chosen}
use Rattle.mcs_proof_lines.proofs.ReadingLists.{read_onto, each_stop, reads_each}
use Rattle.mcs_proof_lines.proofs.NumberReadings.{number_after_line}
use Rattle.mcs_proof_lines.proofs.Justs.{justs_in, just_at, total_justs}
use Rattle.mcs_proof_reader.proofs.EvidenceReadings.{told, told_all, reads_no, reads_yes, reads_either, some_no, some_yes, some_either, yes_begins, no_begins, either_begins, reads_several}
use Rattle.mcs_proof_reader.proofs.AbsenceReadings.{numbered, made_paired, IsAbsenceFor, reads_absence, absence_begins, counted_justs}
use Rattle.mcs_proof_reader.specs.Questions.{ten}
use Rattle.mcs_proof_reader.proofs.DefaultLines.{set_below, set_within, in_all, all_in, outside_all, defaults_line, order_line}
use Rattle.mcs_base.proofs.Among.{range_among}

-- ---- several that may be none
all_stop : (names : List Name) (Is : Entailment → Type 0) (begin : Begin Is (told names entailment_lines)) (n : ℕ) → AllStop (AreMany Is n) (told names all_entailment_lines)
all_stop names Is begin n es more are end = subst (λ (ls : List (List ℕ)). Stops (ls ++ more)) (told_all names entailment_lines es) (go es are.each)
  where
    go : (es : List Entailment) → AllByRecursion Is es → Stops (flat_map (told names entailment_lines) es ++ more)
    go [] all = end
    go (e ∷ es) all = subst Stops (sym (append_assoc (told names entailment_lines e) (flat_map (told names entailment_lines) es) more)) (begin e (flat_map (told names entailment_lines) es ++ more) all.0)

pub some_many : (Is : Entailment → Type 0) → (e : Entailment) × Is e → (n : ℕ) → (es : List Entailment) × AreMany Is n es
some_many Is some zero = ([], record { many = refl; each = tt })
some_many Is some (suc n) = let (es, are) = some_many Is some n in (some.0 ∷ es, record { many = (let e = are.many in omega (arith, e)); each = (some.1, are.each) })

-- ---- where the atoms have these names, and the defaults these numbers of justifications
module _ (names : List Name) (few : length names ≤ 64) (tells : AreTellable names) (items : List Item) (justs : List ℕ) (justs_are : justs ≡ map justs_in (defaults_of items)) (few_defaults : length justs ≤ 10) (beliefs : ℕ) where
  abbrev terms : Terms
  terms = record { atoms = names; numbers = ten; justs = justs; beliefs = beliefs }

  abbrev no_lines : List Entailment → List (List ℕ)
  no_lines = told names all_entailment_lines

  several_no : (n : ℕ) → ReadsLines (AreMany (IsNo names) n) no_lines Stops (many_at (no_at names) n)
  several_no n = reads_several names few tells (IsNo names) (no_at names) (reads_no names few tells) (no_begins names few tells) (some_no names few tells) n

  several_yes : (n : ℕ) → ReadsLines (AreMany IsYes n) no_lines Stops (many_at yes_at n)
  several_yes n = reads_several names few tells IsYes yes_at (reads_yes names few tells) (yes_begins names few tells) (some_yes names few tells) n

  several_either : (n : ℕ) → ReadsLines (AreMany (IsEither names) n) no_lines Stops (many_at (entailment_at names) n)
  several_either n = reads_several names few tells (IsEither names) (entailment_at names) (reads_either names few tells) (either_begins names few tells) (some_either names few tells) n

  -- ---- a default that applies
  abbrev IsPre : Entailment × List Entailment → Type 0
  IsPre pj = IsYes pj.0

  applied_rest : (n : ℕ) → ReadsLines (AreBoth IsYes (λ pre. AreMany (IsNo names) (slice_index justs (n - 1)))) (both_lines (told names entailment_lines) (λ pre. no_lines)) Stops (λ at. both (λ pre. many_at (no_at names) (slice_index justs (n - 1))) (yes_at at))
  applied_rest n = reads_both IsYes _ Stops yes_at (λ pre. AreMany (IsNo names) (slice_index justs (n - 1))) (λ pre. no_lines) Stops (λ pre. many_at (no_at names) (slice_index justs (n - 1)))
      (reads_yes names few tells) (λ pre is. several_no (slice_index justs (n - 1))) (λ pre is. some_many (IsNo names) (some_no names few tells) (slice_index justs (n - 1)))
      (λ pre es more is are end. all_stop names (IsNo names) (no_begins names few tells) (slice_index justs (n - 1)) es more are end)

  abbrev as_applied : ℕ × (Entailment × List Entailment) → Verdict
  as_applied npj = Applied npj.0 npj.1.0 npj.1.1

  abbrev IsAppliedParts : Verdict → Type 0
  IsAppliedParts = Image as_applied (AreBoth (IsAtMost (length justs)) (λ n. AreBoth IsYes (λ pre. AreMany (IsNo names) (slice_index justs (n - 1)))))

  abbrev read_applied : At → Reading Verdict
  read_applied at = mapped_reading as_applied (both (λ n mid. both (λ pre. many_at (no_at names) (slice_index justs (n - 1))) (yes_at mid)) (picked (number_after (codes "applied ") (length justs)) at))

  applied_told : (npj : ℕ × (Entailment × List Entailment)) → both_lines (one_line (λ n. codes "applied " ++ decimal n)) (λ n. both_lines (told names entailment_lines) (λ pre. no_lines)) npj ≡ told names verdict_lines (as_applied npj)
  unfolding line_text
  applied_told npj = ap (λ (ls : List (List ℕ)). (codes "applied " ++ decimal npj.0) ∷ ls) (sym (map-append (line_text names) (entailment_lines npj.1.0) (all_entailment_lines npj.1.1)))

  reads_applied : ReadsLines IsAppliedParts (told names verdict_lines) Stops read_applied
  reads_applied =
      let line = reads_line (IsAtMost (length justs)) (λ n. codes "applied " ++ decimal n) (number_after (codes "applied ") (length justs)) (number_after_line (codes "applied ") (length justs)) in
      let pair = reads_both (IsAtMost (length justs)) _ Anything (picked (number_after (codes "applied ") (length justs))) (λ n. AreBoth IsYes (λ pre. AreMany (IsNo names) (slice_index justs (n - 1)))) (λ n. both_lines (told names entailment_lines) (λ pre. no_lines)) Stops
      (λ n mid. both (λ pre. many_at (no_at names) (slice_index justs (n - 1))) (yes_at mid)) line (λ n is. applied_rest n)
      (λ n is. (((some_yes names few tells).0, (some_many (IsNo names) (some_no names few tells) (slice_index justs (n - 1))).0), ((some_yes names few tells).1, (some_many (IsNo names) (some_no names few tells) (slice_index justs (n - 1))).1))) (λ n pj more is known end. tt) in
      reads_made _ _ Stops _ as_applied (told names verdict_lines) pair (λ npj is. applied_told npj)

  -- ---- a part of the set by which none of the others is supported
  module _ (set : ℕ) where
    abbrev as_ungrounded : ℕ × List Entailment → Verdict
    as_ungrounded ce = Ungrounded ce.0 ce.1

    abbrev ungrounded_of : List ℕ → Option ℕ
    ungrounded_of = defaults_of_line (codes "ungrounded ") terms

    abbrev IsUngroundedParts : Verdict → Type 0
    IsUngroundedParts = Image as_ungrounded (AreBoth (λ closed. Within closed (all_defaults items)) (λ closed. AreMany (IsNo names) (size (minus set closed))))

    abbrev read_ungrounded : At → Reading Verdict
    read_ungrounded at = mapped_reading as_ungrounded (both (λ closed. many_at (no_at names) (size (minus set closed))) (picked ungrounded_of at))

    ungrounded_line : ReadsLine (λ closed. Within closed (all_defaults items)) (λ closed. codes "ungrounded " ++ defaults_text closed) ungrounded_of
    ungrounded_line = defaults_line items justs (counted_justs items justs justs_are) few_defaults terms refl refl (codes "ungrounded ")

    ungrounded_told : (ce : ℕ × List Entailment) → both_lines (one_line (λ closed. codes "ungrounded " ++ defaults_text closed)) (λ closed. no_lines) ce ≡ told names verdict_lines (as_ungrounded ce)
    unfolding line_text
    ungrounded_told ce = refl

    reads_ungrounded : ReadsLines IsUngroundedParts (told names verdict_lines) Stops read_ungrounded
    reads_ungrounded =
        let line = reads_line (λ closed. Within closed (all_defaults items)) (λ closed. codes "ungrounded " ++ defaults_text closed) ungrounded_of ungrounded_line in
        let pair = reads_both (λ closed. Within closed (all_defaults items)) _ Anything (picked ungrounded_of) (λ closed. AreMany (IsNo names) (size (minus set closed))) (λ closed. no_lines) Stops (λ closed. many_at (no_at names) (size (minus set closed)))
        line (λ closed is. several_no (size (minus set closed))) (λ closed is. some_many (IsNo names) (some_no names few tells) (size (minus set closed))) (λ closed es more is known end. tt) in
        reads_made _ _ Stops _ as_ungrounded (told names verdict_lines) pair (λ ce is. ungrounded_told ce)

    -- ---- an extension
    abbrev outside_places : List ℕ
    outside_places = members (minus (all_places terms) set)

    abbrev IsOutside : ℕ → Absence → Type 0
    IsOutside k = IsAbsenceFor names few tells items justs justs_are few_defaults (Some (k + 1))

    abbrev Tail : Type 0
    Tail = List Entailment × (List Entailment × (List Absence × List Entailment))

    abbrev as_extension : List ℕ × Tail → Verdict
    as_extension ot = Extension ot.0 ot.1.0 ot.1.1.0 ot.1.1.1.0 ot.1.1.1.1

    some_outside : (k : ℕ) → k < length justs → (a : Absence) × IsOutside k a
    some_outside k less =
        let (e, is) = some_no names few tells in
        (Unsupported (k + 1) e, (((omega arith, (let c = counted_justs items justs justs_are in omega (arith, less, c))), is), (grind (arith, nat_tests))))

    places_below : minus (all_places terms) set < 2 ^ length justs
    places_below = below_from_members (length justs) (minus (all_places terms) set) (λ k member. in_all items justs (counted_justs items justs justs_are) few_defaults k (first_part k member))
      where
        first_part : (k : ℕ) → has (minus (all_places terms) set) k ≡ true → has (all_places terms) k ≡ true
        first_part k member = (and_parts (has (all_places terms) k) (not (has set k)) (sym (has-minus (all_places terms) set k) ∙ member)).0

    outside_known : AllByRecursion (λ k. k < length justs) outside_places
    outside_known = members_all_below (minus (all_places terms) set) (length justs) places_below

    reads_outside : ReadsLines (AllZip IsOutside outside_places) (each_lines (λ k. told names absence_lines) outside_places) Stops (each_at (absence_of_place names justs) outside_places)
    reads_outside = reads_each IsOutside (λ k. told names absence_lines) (absence_of_place names justs) (λ k. k < length justs)
        (λ k known. reads_absence names few tells items justs justs_are few_defaults (Some (k + 1))) (λ k. absence_begins names (IsOutside k)) some_outside outside_places outside_known

    outside_stop : AllStop (AllZip IsOutside outside_places) (each_lines (λ k. told names absence_lines) outside_places)
    outside_stop = each_stop IsOutside (λ k. told names absence_lines) (absence_of_place names justs) (λ k. k < length justs)
        (λ k known. reads_absence names few tells items justs justs_are few_defaults (Some (k + 1))) (λ k. absence_begins names (IsOutside k)) some_outside outside_places

    some_outsides : (as' : List Absence) × AllZip IsOutside outside_places as'
    some_outsides = go outside_places outside_known
      where
        go : (ks : List ℕ) → AllByRecursion (λ k. k < length justs) ks → (as' : List Absence) × AllZip IsOutside ks as'
        go [] all = ([], tt)
        go (k ∷ ks) all = let (a, is) = some_outside k all.0 in let (others, are) = go ks all.1 in (a ∷ others, (is, are))

    abbrev outside_lines : List Absence → List (List ℕ)
    outside_lines = each_lines (λ k. told names absence_lines) outside_places

    abbrev AreOthers : List Absence × List Entailment → Type 0
    AreOthers = AreBoth (AllZip IsOutside outside_places) (λ out. AreMany (IsEither names) beliefs)

    abbrev other_lines : List Absence × List Entailment → List (List ℕ)
    other_lines = both_lines outside_lines (λ out. no_lines)

    others_stop : AllStop AreOthers other_lines
    others_stop = both_stop (AllZip IsOutside outside_places) (λ out. AreMany (IsEither names) beliefs) outside_lines (λ out. no_lines) outside_stop (λ out. all_stop names (IsEither names) (either_begins names few tells) beliefs)

    some_shown : (es : List Entailment) × AreMany (IsEither names) beliefs es
    some_shown = some_many (IsEither names) (some_either names few tells) beliefs

    reads_others : ReadsLines AreOthers other_lines Stops (λ at. both (λ out. many_at (entailment_at names) beliefs) (each_at (absence_of_place names justs) outside_places at))
    reads_others = reads_both (AllZip IsOutside outside_places) outside_lines Stops (each_at (absence_of_place names justs) outside_places) (λ out. AreMany (IsEither names) beliefs) (λ out. no_lines) Stops (λ out. many_at (entailment_at names) beliefs)
        reads_outside (λ out is. several_either beliefs) (λ out is. some_shown) (λ out es more is are end. all_stop names (IsEither names) (either_begins names few tells) beliefs es more are end)

    abbrev total : ℕ
    total = just_total justs (members set)

    abbrev AreJusts : List Entailment × (List Absence × List Entailment) → Type 0
    AreJusts = AreBoth (AreMany (IsNo names) total) (λ js. AreOthers)

    abbrev just_lines : List Entailment × (List Absence × List Entailment) → List (List ℕ)
    just_lines = both_lines no_lines (λ js. other_lines)

    abbrev read_justs : At → Reading (List Entailment × (List Absence × List Entailment))
    read_justs at = both (λ js mid. both (λ out. many_at (entailment_at names) beliefs) (each_at (absence_of_place names justs) outside_places mid)) (many_at (no_at names) total at)

    some_others : (x : List Absence × List Entailment) × AreOthers x
    some_others = ((some_outsides.0, some_shown.0), (some_outsides.1, some_shown.1))

    reads_justs : ReadsLines AreJusts just_lines Stops read_justs
    reads_justs = reads_both (AreMany (IsNo names) total) no_lines Stops (many_at (no_at names) total) (λ js. AreOthers) (λ js. other_lines) Stops (λ js mid. both (λ out. many_at (entailment_at names) beliefs) (each_at (absence_of_place names justs) outside_places mid))
        (several_no total) (λ js is. reads_others) (λ js is. some_others) (λ js x more is are end. others_stop x more are end)

    justs_stop : AllStop AreJusts just_lines
    justs_stop = both_stop (AreMany (IsNo names) total) (λ js. AreOthers) no_lines (λ js. other_lines) (all_stop names (IsNo names) (no_begins names few tells) total) (λ js. others_stop)

    some_justs : (x : List Entailment × (List Absence × List Entailment)) × AreJusts x
    some_justs = let (js, are) = some_many (IsNo names) (some_no names few tells) total in ((js, some_others.0), (are, some_others.1))

    abbrev ArePres : List ℕ → Tail → Type 0
    ArePres order = AreBoth (AreMany IsYes (length order)) (λ pres. AreJusts)

    abbrev pre_lines : List ℕ → Tail → List (List ℕ)
    pre_lines order = both_lines no_lines (λ pres. just_lines)

    abbrev read_pres : List ℕ → At → Reading Tail
    read_pres order at = both (λ pres. read_justs) (many_at yes_at (length order) at)

    reads_pres : (order : List ℕ) → ReadsLines (ArePres order) (pre_lines order) Stops (read_pres order)
    reads_pres order = reads_both (AreMany IsYes (length order)) no_lines Stops (many_at yes_at (length order)) (λ pres. AreJusts) (λ pres. just_lines) Stops (λ pres. read_justs)
        (several_yes (length order)) (λ pres is. reads_justs) (λ pres is. some_justs) (λ pres x more is are end. justs_stop x more are end)

    some_pres : (order : List ℕ) → (x : Tail) × ArePres order x
    some_pres order = let (pres, are) = some_many IsYes (some_yes names few tells) (length order) in ((pres, some_justs.0), (are, some_justs.1))

    abbrev extension_of : List ℕ → Option (List ℕ)
    extension_of = order_of (length justs)

    abbrev IsExtensionParts : Verdict → Type 0
    IsExtensionParts = Image as_extension (AreBoth (AllByRecursion (IsAtMost (length justs))) ArePres)

    abbrev read_extension : At → Reading Verdict
    read_extension at = mapped_reading as_extension (both read_pres (picked extension_of at))

    out_told : (ks : List ℕ) (as' : List Absence) → AllZip IsOutside ks as' → each_lines (λ k. told names absence_lines) ks as' ≡ told names (flat_map absence_lines) as'
    out_told [] [] are = refl
    out_told [] (a ∷ as') are = absurd are
    out_told (k ∷ ks) [] are = absurd are
    out_told (k ∷ ks) (a ∷ as') are = ap (λ (ls : List (List ℕ)). told names absence_lines a ++ ls) (out_told ks as' are.1) ∙ sym (map-append (line_text names) (absence_lines a) (flat_map absence_lines as'))

    extension_told : (ot : List ℕ × Tail) → AreBoth (AllByRecursion (IsAtMost (length justs))) ArePres ot
        → both_lines (one_line (λ order. codes "extension" ++ spaced (map decimal order))) pre_lines ot ≡ told names verdict_lines (as_extension ot)
    unfolding line_text
    extension_told (order, (pres, (js, (out, shown)))) is =
        let lt = line_text names in
        let all = all_entailment_lines in
        let e4 : outside_lines out ++ no_lines shown ≡ map lt (flat_map absence_lines out ++ all shown) = ap (λ (ls : List (List ℕ)). ls ++ no_lines shown) (out_told outside_places out is.1.1.1.0) ∙ sym (map-append lt (flat_map absence_lines out) (all shown)) in
        let e3 : no_lines js ++ (outside_lines out ++ no_lines shown) ≡ map lt (all js ++ (flat_map absence_lines out ++ all shown)) = ap (λ (ls : List (List ℕ)). no_lines js ++ ls) e4 ∙ sym (map-append lt (all js) (flat_map absence_lines out ++ all shown)) in
        let e2 : no_lines pres ++ (no_lines js ++ (outside_lines out ++ no_lines shown)) ≡ map lt (all pres ++ (all js ++ (flat_map absence_lines out ++ all shown))) = ap (λ (ls : List (List ℕ)). no_lines pres ++ ls) e3 ∙ sym (map-append lt (all pres) (all js ++ (flat_map absence_lines out ++ all shown))) in
        ap (λ (ls : List (List ℕ)). (codes "extension" ++ spaced (map decimal order)) ∷ ls) e2

    reads_extension : ReadsLines IsExtensionParts (told names verdict_lines) Stops read_extension
    reads_extension =
        let line = reads_line (AllByRecursion (IsAtMost (length justs))) (λ order. codes "extension" ++ spaced (map decimal order)) extension_of (order_line (length justs)) in
        let pair = reads_both (AllByRecursion (IsAtMost (length justs))) _ Anything (picked extension_of) ArePres pre_lines Stops read_pres line (λ order is. reads_pres order) (λ order is. some_pres order) (λ order x more is are end. tt) in
        reads_made _ _ Stops _ as_extension (told names verdict_lines) pair extension_told

    -- ---- a default that does not apply
    abbrev IsFailing : Verdict → Type 0
    IsFailing = Image Fails (IsAbsenceFor names few tells items justs justs_are few_defaults None)

    abbrev read_failing : At → Reading Verdict
    read_failing at = mapped_reading Fails (absence_at names justs None at)

    reads_failing : ReadsLines IsFailing (told names verdict_lines) Stops read_failing
    reads_failing = reads_made _ (told names absence_lines) Stops (absence_at names justs None) Fails (told names verdict_lines) (reads_absence names few tells items justs justs_are few_defaults None) (λ a is. refl)

    -- ---- which of these the line asks for
    abbrev test_applied : Option (List ℕ) → Bool
    test_applied o = is_some (option_and_then (number_after (codes "applied ") (length justs)) o)

    abbrev test_ungrounded : Option (List ℕ) → Bool
    test_ungrounded o = is_some (option_and_then ungrounded_of o)

    abbrev test_extension : Option (List ℕ) → Bool
    test_extension o = is_some (option_and_then extension_of o)

    first_line : (test : Option (List ℕ) → Bool) (v w : Verdict) (rest : List (List ℕ)) → v ≡ w → test (head_line (told names verdict_lines v ++ rest)) ≡ test (head_line (told names verdict_lines w ++ rest))
    first_line test v w rest is = ap (λ (u : Verdict). test (head_line (told names verdict_lines u ++ rest))) is

    says_applied : (v : Verdict) (rest : List (List ℕ)) → IsAppliedParts v → test_applied (head_line (told names verdict_lines v ++ rest)) ≡ true
    unfolding line_text
    says_applied v rest (npj, is, known) = first_line test_applied v (as_applied npj) rest is ∙ ap is_some ((number_after_line (codes "applied ") (length justs)).complete npj.0 known.0)

    says_ungrounded : (v : Verdict) (rest : List (List ℕ)) → IsUngroundedParts v → test_ungrounded (head_line (told names verdict_lines v ++ rest)) ≡ true
    unfolding line_text
    says_ungrounded v rest (ce, is, known) = first_line test_ungrounded v (as_ungrounded ce) rest is ∙ ap is_some (ungrounded_line.complete ce.0 known.0)

    says_extension : (v : Verdict) (rest : List (List ℕ)) → IsExtensionParts v → test_extension (head_line (told names verdict_lines v ++ rest)) ≡ true
    unfolding line_text
    says_extension v rest (ot, is, known) = first_line test_extension v (as_extension ot) rest is ∙ ap is_some ((order_line (length justs)).complete ot.0 known.0)

    fails_extension : (a : Absence) (rest : List (List ℕ)) → test_extension (head_line (told names verdict_lines (Fails a) ++ rest)) ≡ false
    unfolding line_text order_of after_prefix
    fails_extension (Unsupported n e) rest = refl
    fails_extension (Blocked n j e) rest = refl

    no_extension : (v : Verdict) (rest : List (List ℕ)) → IsFailing v → test_extension (head_line (told names verdict_lines v ++ rest)) ≡ false
    no_extension v rest (a, is, known) = first_line test_extension v (Fails a) rest is ∙ fails_extension a rest

    fails_ungrounded : (a : Absence) (rest : List (List ℕ)) → test_ungrounded (head_line (told names verdict_lines (Fails a) ++ rest)) ≡ false
    unfolding line_text defaults_of_line after_prefix
    fails_ungrounded (Unsupported n e) rest = refl
    fails_ungrounded (Blocked n j e) rest = refl

    extension_ungrounded : (ot : List ℕ × Tail) (rest : List (List ℕ)) → test_ungrounded (head_line (told names verdict_lines (as_extension ot) ++ rest)) ≡ false
    unfolding line_text defaults_of_line after_prefix
    extension_ungrounded ot rest = refl

    no_ungrounded : (v : Verdict) (rest : List (List ℕ)) → IsEitherOf IsExtensionParts IsFailing v → test_ungrounded (head_line (told names verdict_lines v ++ rest)) ≡ false
    no_ungrounded v rest (inl (ot, is, known)) = first_line test_ungrounded v (as_extension ot) rest is ∙ extension_ungrounded ot rest
    no_ungrounded v rest (inr (a, is, known)) = first_line test_ungrounded v (Fails a) rest is ∙ fails_ungrounded a rest

    fails_applied : (a : Absence) (rest : List (List ℕ)) → test_applied (head_line (told names verdict_lines (Fails a) ++ rest)) ≡ false
    unfolding line_text number_after after_prefix
    fails_applied (Unsupported n e) rest = refl
    fails_applied (Blocked n j e) rest = refl

    extension_applied : (ot : List ℕ × Tail) (rest : List (List ℕ)) → test_applied (head_line (told names verdict_lines (as_extension ot) ++ rest)) ≡ false
    unfolding line_text number_after after_prefix
    extension_applied ot rest = refl

    ungrounded_applied : (ce : ℕ × List Entailment) (rest : List (List ℕ)) → test_applied (head_line (told names verdict_lines (as_ungrounded ce) ++ rest)) ≡ false
    unfolding line_text number_after after_prefix
    ungrounded_applied ce rest = refl

    no_applied : (v : Verdict) (rest : List (List ℕ)) → IsEitherOf IsUngroundedParts (IsEitherOf IsExtensionParts IsFailing) v → test_applied (head_line (told names verdict_lines v ++ rest)) ≡ false
    no_applied v rest (inl (ce, is, known)) = first_line test_applied v (as_ungrounded ce) rest is ∙ ungrounded_applied ce rest
    no_applied v rest (inr (inl (ot, is, known))) = first_line test_applied v (as_extension ot) rest is ∙ extension_applied ot rest
    no_applied v rest (inr (inr (a, is, known))) = first_line test_applied v (Fails a) rest is ∙ fails_applied a rest

    -- ---- all of these
    abbrev or_failing : At → Reading Verdict
    or_failing = chosen_at test_extension read_extension read_failing

    abbrev or_others : At → Reading Verdict
    or_others = chosen_at test_ungrounded read_ungrounded or_failing

    abbrev any_verdict : At → Reading Verdict
    any_verdict = chosen_at test_applied read_applied or_others

    reads_any : ReadsLines (IsEitherOf IsAppliedParts (IsEitherOf IsUngroundedParts (IsEitherOf IsExtensionParts IsFailing))) (told names verdict_lines) Stops any_verdict
    reads_any =
        let failing = reads_chosen IsExtensionParts IsFailing (told names verdict_lines) Stops read_extension read_failing test_extension reads_extension reads_failing says_extension no_extension in
        let others = reads_chosen IsUngroundedParts (IsEitherOf IsExtensionParts IsFailing) (told names verdict_lines) Stops read_ungrounded or_failing test_ungrounded reads_ungrounded failing says_ungrounded no_ungrounded in
        reads_chosen IsAppliedParts (IsEitherOf IsUngroundedParts (IsEitherOf IsExtensionParts IsFailing)) (told names verdict_lines) Stops read_applied or_others test_applied reads_applied others says_applied no_applied

    -- as the code is told
    chained : {A B C : Type 0} (f : A × B → C) (q : At → Reading B) (r : Reading A) → mapped_reading f (both (λ x. q) r) ≡ (r >>= λ x. mapped_reading (λ y. f (x.0, y)) (q x.1))
    chained f q (Ok x) = made_paired f x.0 (q x.1)
    chained f q (Err n) = refl

    applied_same : (n : ℕ) (mid : At) → mapped_reading as_applied (paired n (both (λ pre. many_at (no_at names) (slice_index justs (n - 1))) (yes_at mid))) ≡ applied_at terms n mid
    unfolding applied_at
    applied_same n mid = made_paired as_applied n (both (λ pre. many_at (no_at names) (slice_index justs (n - 1))) (yes_at mid))
        ∙ chained (λ pj. Applied n pj.0 pj.1) (many_at (no_at names) (slice_index justs (n - 1))) (yes_at mid)

    ungrounded_same : (closed : ℕ) (mid : At) → mapped_reading as_ungrounded (paired closed (many_at (no_at names) (size (minus set closed)) mid)) ≡ ungrounded_at terms set closed mid
    unfolding ungrounded_at
    ungrounded_same closed mid = made_paired as_ungrounded closed (many_at (no_at names) (size (minus set closed)) mid)

    extension_same : (order : List ℕ) (mid : At) → mapped_reading as_extension (paired order (read_pres order mid)) ≡ extension_at terms set order mid
    unfolding extension_at
    extension_same order mid = made_paired as_extension order (read_pres order mid) ∙ by1 (many_at yes_at (length order) mid)
      where
        ext : Tail → Verdict
        ext t = Extension order t.0 t.1.0 t.1.1.0 t.1.1.1

        by3 : (pres js : List Entailment) (r : Reading (List Absence)) → mapped_reading (λ y. Extension order pres js y.0 y.1) (both (λ out. many_at (entailment_at names) beliefs) r)
            ≡ (r >>= λ outside. many_at (entailment_at names) beliefs outside.1 >>= λ outputs. Ok (Extension order pres js outside.0 outputs.0, outputs.1))
        by3 pres js r = chained (λ y. Extension order pres js y.0 y.1) (many_at (entailment_at names) beliefs) r

        by2 : (pres : List Entailment) (r : Reading (List Entailment)) → mapped_reading (λ y. Extension order pres y.0 y.1.0 y.1.1) (both (λ js mid. both (λ out. many_at (entailment_at names) beliefs) (each_at (absence_of_place names justs) outside_places mid)) r)
            ≡ (r >>= λ js. each_at (absence_of_place names justs) outside_places js.1 >>= λ outside. many_at (entailment_at names) beliefs outside.1 >>= λ outputs. Ok (Extension order pres js.0 outside.0 outputs.0, outputs.1))
        by2 pres (Ok x) = made_paired (λ y. Extension order pres y.0 y.1.0 y.1.1) x.0 (both (λ out. many_at (entailment_at names) beliefs) (each_at (absence_of_place names justs) outside_places x.1)) ∙ by3 pres x.0 (each_at (absence_of_place names justs) outside_places x.1)
        by2 pres (Err n) = refl

        by1 : (r : Reading (List Entailment)) → mapped_reading (λ t. as_extension (order, t)) (both (λ pres. read_justs) r)
            ≡ (r >>= λ pres. many_at (no_at names) total pres.1 >>= λ js. each_at (absence_of_place names justs) outside_places js.1 >>= λ outside. many_at (entailment_at names) beliefs outside.1 >>= λ outputs. Ok (Extension order pres.0 js.0 outside.0 outputs.0, outputs.1))
        by1 (Ok x) = made_paired (λ t. as_extension (order, t)) x.0 (read_justs x.1) ∙ by2 x.0 (many_at (no_at names) total x.1)
        by1 (Err n) = refl

    by_extension : (at : At) (o : Option (List ℕ)) → cond (is_some o) (mapped_reading as_extension (both read_pres (taken_at at o))) (read_failing at) ≡ or_extension terms set at o
    by_extension at None = refl
    by_extension at (Some order) = extension_same order (advanced at)

    by_ungrounded : (at : At) (o : Option ℕ) → cond (is_some o) (mapped_reading as_ungrounded (both (λ closed. many_at (no_at names) (size (minus set closed))) (taken_at at o))) (or_failing at) ≡ or_ungrounded terms set at o
    by_ungrounded at None = by_extension at (line_at extension_of at)
    by_ungrounded at (Some closed) = ungrounded_same closed (advanced at)

    by_applied : (at : At) (o : Option ℕ) → cond (is_some o) (mapped_reading as_applied (both (λ n mid. both (λ pre. many_at (no_at names) (slice_index justs (n - 1))) (yes_at mid)) (taken_at at o))) (or_others at) ≡ or_applied terms set at o
    by_applied at None = by_ungrounded at (line_at ungrounded_of at)
    by_applied at (Some n) = applied_same n (advanced at)

    verdict_same : (at : At) → any_verdict at ≡ verdict_at terms set at
    unfolding verdict_at
    verdict_same at = by_applied at (line_at (number_after (codes "applied ") (length justs)) at)

    -- in its words
    to_applied : (n : ℕ) (pre : Entailment) (js : List Entailment) → IsAtMost (length justs) n → IsYes pre → AreMany (IsNo names) (slice_index justs (n - 1)) js → IsAppliedShape names items n pre js
    to_applied n pre js (small, low) follows are =
        let some = small.0 in
        let c = counted_justs items justs justs_are in
        let most : n ≤ length justs = grind (arith, nat_tests) in
        let (d, there) = slice_get_below (defaults_of items) (n - 1) (omega (arith, some, most, c)) in
        record { default = d; is_it = numbered items n some ∙ there; supported = follows; allowed = subst (λ (m : ℕ). AreMany (IsNo names) m js) (just_at (defaults_of items) justs justs_are (n - 1) d there) are }

    from_applied : (n : ℕ) (pre : Entailment) (js : List Entailment) → IsAppliedShape names items n pre js → IsAtMost (length justs) n × (IsYes pre × AreMany (IsNo names) (slice_index justs (n - 1)) js)
    from_applied n pre js h =
        let some : 0 < n = from_some n h.default h.is_it in
        let there : slice_get (defaults_of items) (n - 1) ≡ Some h.default = sym (numbered items n some) ∙ h.is_it in
        let within = slice_get_within (defaults_of items) (n - 1) h.default there in
        let c = counted_justs items justs justs_are in
        let most : n ≤ length justs = omega (arith, some, within, c) in
        let test : nat_le n (length justs) ≡ true = grind (arith, nat_tests) in
        ((((some, omega (arith, most, few_defaults)), test)), (h.supported, subst (λ (m : ℕ). AreMany (IsNo names) m js) (sym (just_at (defaults_of items) justs justs_are (n - 1) h.default there)) h.allowed))
      where
        from_some : (n : ℕ) (d : Default) → numbered_default items n ≡ Some d → 0 < n
        from_some zero d e = absurd (cc)
        from_some (suc n) d e = omega arith

    all_same : all_places terms ≡ all_defaults items
    all_same = same_set (all_places terms) (all_defaults items) (λ k. by k (nat_lt k (length justs)) refl)
      where
        by : (k : ℕ) (b : Bool) → nat_lt k (length justs) ≡ b → has (all_places terms) k ≡ has (all_defaults items) k
        by k true e =
            let less : k < length justs = grind (arith, nat_tests) in
            let c = counted_justs items justs justs_are in
            let below : k < length (defaults_of items) = omega (arith, less, c) in
            let test : ltb k (length (defaults_of items)) ≡ true = grind (arith, nat_tests) in
            all_in items justs (counted_justs items justs justs_are) few_defaults k less ∙ sym (has-such_that (length (defaults_of items)) (λ j. true) k ∙ rw test refl)
        by k false e =
            let past : length justs ≤ k = grind (arith, nat_tests) in
            let c = counted_justs items justs justs_are in
            let above : length (defaults_of items) ≤ k = omega (arith, past, c) in
            let test : ltb k (length (defaults_of items)) ≡ false = grind (arith, nat_tests) in
            outside_all items justs (counted_justs items justs justs_are) few_defaults k past ∙ sym (has-such_that (length (defaults_of items)) (λ j. true) k ∙ rw test refl)

    module _ (within : Within set (all_defaults items)) where
      total_same : total ≡ just_count items set
      total_same =
          let c = counted_justs items justs justs_are in
          let small : set < 2 ^ length (defaults_of items) = below_from_members (length (defaults_of items)) set (λ k member. (let b = set_below items justs (counted_justs items justs justs_are) few_defaults set within k member in omega (arith, b, c))) in
          sym (total_justs (defaults_of items) justs justs_are set (subst (λ (n : ℕ). set < 2 ^ n) (sym c) small))

      to_number : (n : ℕ) → IsAtMost (length justs) n → IsDefaultNumber items n
      to_number n (small, low) = let c = counted_justs items justs justs_are in let most : n ≤ length justs = grind (arith, nat_tests) in (small.0, omega (arith, most, c))

      from_number : (n : ℕ) → IsDefaultNumber items n → IsAtMost (length justs) n
      from_number n (some, most) = let c = counted_justs items justs justs_are in let low : n ≤ length justs = omega (arith, most, c) in ((some, omega (arith, low, few_defaults)), (grind (arith, nat_tests)))

      to_outside : (k : ℕ) (a : Absence) → IsOutside k a → IsAbsenceOf names items k a
      to_outside k a (is, named) = ((grind (arith, nat_tests)), is)

      from_outside : (k : ℕ) (a : Absence) → IsAbsenceOf names items k a → IsOutside k a
      from_outside k a (number, is) = (is, (grind (arith, nat_tests)))

      to_outsides : (ks : List ℕ) (as' : List Absence) → AllZip IsOutside ks as' → AllZip (IsAbsenceOf names items) ks as'
      to_outsides [] [] are = tt
      to_outsides [] (a ∷ as') are = absurd are
      to_outsides (k ∷ ks) [] are = absurd are
      to_outsides (k ∷ ks) (a ∷ as') are = (to_outside k a are.0, to_outsides ks as' are.1)

      from_outsides : (ks : List ℕ) (as' : List Absence) → AllZip (IsAbsenceOf names items) ks as' → AllZip IsOutside ks as'
      from_outsides [] [] are = tt
      from_outsides [] (a ∷ as') are = absurd are
      from_outsides (k ∷ ks) [] are = absurd are
      from_outsides (k ∷ ks) (a ∷ as') are = (from_outside k a are.0, from_outsides ks as' are.1)

      to_extension : (order : List ℕ) (t : Tail) → AllByRecursion (IsAtMost (length justs)) order → ArePres order t → IsExtensionShape names items beliefs set order t.0 t.1.0 t.1.1.0 t.1.1.1
      to_extension order t numbers are = record {
        numbers = all_weaker (IsAtMost (length justs)) (IsDefaultNumber items) to_number order numbers;
        grounded = are.0;
        allowed = subst (λ (m : ℕ). AreMany (IsNo names) m t.1.0) total_same are.1.0;
        complete = subst (λ (s : ℕ). AllZip (IsAbsenceOf names items) (members (minus s set)) t.1.1.0) all_same (to_outsides outside_places t.1.1.0 are.1.1.0);
        shown = are.1.1.1;
      }

      from_extension : (order : List ℕ) (pres js : List Entailment) (out : List Absence) (shown : List Entailment) → IsExtensionShape names items beliefs set order pres js out shown
          → AllByRecursion (IsAtMost (length justs)) order × ArePres order (pres, (js, (out, shown)))
      from_extension order pres js out shown h =
          let complete : AllZip (IsAbsenceOf names items) outside_places out = subst (λ (s : ℕ). AllZip (IsAbsenceOf names items) (members (minus s set)) out) (sym all_same) h.complete in
          (all_weaker (IsDefaultNumber items) (IsAtMost (length justs)) from_number order h.numbers, (h.grounded, (subst (λ (m : ℕ). AreMany (IsNo names) m js) (sym total_same) h.allowed, (from_outsides outside_places out complete, h.shown))))

      abbrev Parts : Verdict → Type 0
      Parts = IsEitherOf IsAppliedParts (IsEitherOf IsUngroundedParts (IsEitherOf IsExtensionParts IsFailing))

      abbrev Kind : Verdict → Type 0
      Kind = IsDefaultVerdict names items beliefs set

      to_verdict : (v : Verdict) → Parts v → Kind v
      to_verdict v (inl (npj, is, known)) = subst Kind (sym is) (to_applied npj.0 npj.1.0 npj.1.1 known.0 known.1.0 known.1.1)
      to_verdict v (inr (inl (ce, is, known))) = subst Kind (sym is) (record { part = known.0; unsupported = known.1 })
      to_verdict v (inr (inr (inl (ot, is, known)))) = subst Kind (sym is) (to_extension ot.0 ot.1 known.0 known.1)
      to_verdict v (inr (inr (inr (a, is, known)))) = subst Kind (sym is) known.0

      from_verdict : (v : Verdict) → Kind v → Parts v
      from_verdict (Fails a) is = inr (inr (inr (a, refl, (is, refl))))
      from_verdict (Applied n pre js) is = inl ((n, (pre, js)), refl, from_applied n pre js is)
      from_verdict (Ungrounded closed pres) is = inr (inl ((closed, pres), refl, (is.part, is.unsupported)))
      from_verdict (Extension order pres js out shown) is = inr (inr (inl ((order, (pres, (js, (out, shown)))), refl, from_extension order pres js out shown is)))

      reads_verdict : ReadsLines Kind (told names verdict_lines) Stops (verdict_at terms set)
      reads_verdict = reads_same Parts Kind _ (told names verdict_lines) Stops any_verdict (verdict_at terms set) reads_any to_verdict from_verdict (λ v is. refl) verdict_same

      some_verdict : (v : Verdict) × Kind v
      some_verdict = let (t, are) = some_pres [] in (as_extension ([], t), to_extension [] t tt are)

      -- ---- a line that names the set, and the verdict on it
      abbrev set_of_line : List ℕ → Option ℕ
      set_of_line = defaults_of_line (codes "set ") terms

      abbrev mark : List ℕ → Option (Unit {0})
      mark line = option_and_then (λ s. guarded (nat_eq set s) tt) (set_of_line line)

      mark_line : ReadsLine (λ u. Unit {0}) (λ u. codes "set " ++ defaults_text set) mark
      mark_line =
          let line = defaults_line items justs (counted_justs items justs justs_are) few_defaults terms refl refl (codes "set ") in
          record {
            sound = λ l u e. (
                let (s, was, e1) = bound (λ s. guarded (nat_eq set s) tt) (set_of_line l) u e in
                let (passes, same_unit) = cond_some (nat_eq set s) tt u e1 in
                let same : s ≡ set = grind (arith, nat_tests) in
                (tt, (line.sound l s was).1 ∙ ap (λ (x : ℕ). codes "set " ++ defaults_text x) same));
            complete = λ u is. ap (option_and_then (λ s. guarded (nat_eq set s) tt)) (line.complete set within) ∙ (let same : nat_eq set set ≡ true = grind (arith, nat_tests) in ap (λ (b : Bool). guarded b tt) same);
          }

      abbrev one_set_lines : Verdict → List Line
      one_set_lines v = SetLine set ∷ verdict_lines v

      abbrev as_second : Unit {0} × Verdict → Verdict
      as_second uv = uv.1

      set_told : (uv : Unit {0} × Verdict) → both_lines (one_line (λ u. codes "set " ++ defaults_text set)) (λ u. told names verdict_lines) uv ≡ told names one_set_lines (as_second uv)
      unfolding line_text
      set_told uv = refl

      second_same : (r : Reading Verdict) → mapped_reading as_second (paired tt r) ≡ r
      second_same (Ok r) = refl
      second_same (Err n) = refl

      by_same : (at : At) (b : Bool) → mapped_reading as_second (both (λ u. verdict_at terms set) (taken_at at (guarded b tt))) ≡ cond b (verdict_at terms set (advanced at)) (fault_at at)
      by_same at true = second_same (verdict_at terms set (advanced at))
      by_same at false = refl

      by_named : (at : At) (o : Option ℕ) → mapped_reading as_second (both (λ u. verdict_at terms set) (taken_at at (option_and_then (λ s. guarded (nat_eq set s) tt) o))) ≡ cond (option_map_or (nat_eq set) o false) (verdict_at terms set (advanced at)) (fault_at at)
      by_named at None = refl
      by_named at (Some s) = by_same at (nat_eq set s)

      set_same : (n : ℕ) (rest : List (List ℕ)) (tail : List ℕ) → mapped_reading as_second (both (λ u. verdict_at terms set) (picked mark (here n rest tail))) ≡ set_at terms set (here n rest tail)
      unfolding set_at
      set_same n [] tail = refl
      set_same n (line ∷ rest) tail = by_named (here n (line ∷ rest) tail) (set_of_line line)

      pub reads_set : ReadsLines Kind (told names one_set_lines) Stops (set_at terms set)
      reads_set =
          let pair = reads_both (λ u. Unit {0}) _ Anything (picked mark) (λ u. Kind) (λ u. told names verdict_lines) Stops (λ u. verdict_at terms set) (reads_line (λ u. Unit {0}) (λ u. codes "set " ++ defaults_text set) mark mark_line)
          (λ u is. reads_verdict) (λ u is. some_verdict) (λ u v more is known end. tt) in
          let made_of = reads_made _ _ Stops _ as_second (told names one_set_lines) pair (λ uv is. set_told uv) in
          reads_same _ Kind _ (told names one_set_lines) Stops _ (set_at terms set) made_of (λ v is. subst Kind (sym is.1) is.2.1) (λ v is. ((tt, v), refl, (tt, is))) (λ v is. refl) (λ at. set_same at.taken at.rest at.tail)

  -- ---- all sets of defaults
  below_within : (set : ℕ) → set < 2 ^ length justs → Within set (all_defaults items)
  below_within set small = set_within items justs (counted_justs items justs justs_are) few_defaults set (λ k member. members_below set (length justs) k small member)

  set_begins : (k : ℕ) → Begin (IsDefaultVerdict names items beliefs k) (told names (λ v. SetLine k ∷ verdict_lines v))
  unfolding line_text step_of after_prefix
  set_begins k v rest is = refl

  zip_to : (R : ℕ → Verdict → Type 0) (k n : ℕ) (vs : List Verdict) → AllZip R (range_with_len k n) vs → (length vs ≡ n) × ((j : ℕ) (v : Verdict) → slice_get vs j ≡ Some v → R (k + j) v)
  zip_to R k zero [] are = (refl, λ j v e. absurd (cc))
  zip_to R k zero (v ∷ vs) are = absurd are
  zip_to R k (suc n) [] are = absurd are
  zip_to R k (suc n) (v ∷ vs) are = let (long, each) = zip_to R (k + 1) n vs are.1 in (omega (arith, long), λ j w e. at j w e each)
    where
      at : (j : ℕ) (w : Verdict) → slice_get (v ∷ vs) j ≡ Some w → ((j : ℕ) (v : Verdict) → slice_get vs j ≡ Some v → R (k + 1 + j) v) → R (k + j) w
      at zero w e each = let here_is : k ≡ k + 0 = omega arith in let same : v ≡ w = same_Some v w e in subst (λ (i : ℕ). R i w) here_is (subst (R k) same are.0)
      at (suc j) w e each = let next : k + 1 + j ≡ k + suc j = omega arith in subst (λ (i : ℕ). R i w) next (each j w e)

  zip_from : (R : ℕ → Verdict → Type 0) (k n : ℕ) (vs : List Verdict) → length vs ≡ n → ((j : ℕ) (v : Verdict) → slice_get vs j ≡ Some v → R (k + j) v) → AllZip R (range_with_len k n) vs
  zip_from R k zero [] long each = tt
  zip_from R k zero (v ∷ vs) long each = absurd (omega (arith, long))
  zip_from R k (suc n) [] long each = absurd (omega (arith, long))
  zip_from R k (suc n) (v ∷ vs) long each = (
    (let here_is : k + 0 ≡ k = omega arith in subst (λ (i : ℕ). R i v) here_is (each 0 v refl)),
    zip_from R (k + 1) n vs (omega (arith, long)) (λ j w e. (let next : k + suc j ≡ k + 1 + j = omega arith in subst (λ (i : ℕ). R i w) next (each (suc j) w e))),
  )

  abbrev IsOf : ℕ → Verdict → Type 0
  IsOf = IsDefaultVerdict names items beliefs

  abbrev each_set : ℕ → Verdict → List (List ℕ)
  each_set k = told names (λ v. SetLine k ∷ verdict_lines v)

  sets_told : (k n : ℕ) (vs : List Verdict) → AllZip IsOf (range_with_len k n) vs → each_lines each_set (range_with_len k n) vs ≡ told names (set_lines k) vs
  sets_told k zero [] are = refl
  sets_told k zero (v ∷ vs) are = absurd are
  sets_told k (suc n) [] are = absurd are
  sets_told k (suc n) (v ∷ vs) are =
      ap (λ (ls : List (List ℕ)). each_set k v ++ ls) (sets_told (k + 1) n vs are.1) ∙ ap (λ (ls : List (List ℕ)). line_text names (SetLine k) ∷ ls) (sym (map-append (line_text names) (verdict_lines v) (set_lines (k + 1) vs)))

  sets_same : (k n : ℕ) (at : At) → each_at (set_at terms) (range_with_len k n) at ≡ sets_from terms k n at
  sets_same k zero at = refl
  sets_same k (suc n) at = by (set_at terms k at) (sets_same (k + 1) n)
    where
      by : (r : Reading Verdict) → ((mid : At) → each_at (set_at terms) (range_with_len (k + 1) n) mid ≡ sets_from terms (k + 1) n mid)
          → read_onto r (each_at (set_at terms) (range_with_len (k + 1) n)) ≡ read_onto r (sets_from terms (k + 1) n)
      by (Ok r) again = ap (λ (s : Reading (List Verdict)). s >>= λ others. Ok (r.0 ∷ others.0, others.1)) (again r.1)
      by (Err m) again = refl

  to_verdicts : (vs : List Verdict) → AllZip IsOf (range_with_len 0 (2 ^ length justs)) vs → AreVerdicts names items beliefs vs
  to_verdicts vs are =
      let (long, each) = zip_to IsOf 0 (2 ^ length justs) vs are in
      record { one_each = long ∙ ap (λ (n : ℕ). 2 ^ n) (counted_justs items justs justs_are); each = λ set v e. (let here_is : 0 + set ≡ set = omega arith in subst (λ (i : ℕ). IsOf i v) here_is (each set v e)) }

  from_verdicts : (vs : List Verdict) → AreVerdicts names items beliefs vs → AllZip IsOf (range_with_len 0 (2 ^ length justs)) vs
  from_verdicts vs h = zip_from IsOf 0 (2 ^ length justs) vs (h.one_each ∙ ap (λ (n : ℕ). 2 ^ n) (sym (counted_justs items justs justs_are))) (λ j v e. (let here_is : j ≡ 0 + j = omega arith in subst (λ (i : ℕ). IsOf i v) here_is (h.each j v e)))

  all_below : AllByRecursion (λ j. j < 2 ^ length justs) (range_with_len 0 (2 ^ length justs))
  all_below = all_from_among (λ j. j < 2 ^ length justs) (range_with_len 0 (2 ^ length justs)) (λ j among. (let less = (range_among j 0 (2 ^ length justs) among).1 in omega (arith, less)))

  pub some_verdicts : (vs : List Verdict) × AreVerdicts names items beliefs vs
  some_verdicts = let (vs, are) = go (range_with_len 0 (2 ^ length justs)) all_below in (vs, to_verdicts vs are)
    where
      go : (ks : List ℕ) → AllByRecursion (λ j. j < 2 ^ length justs) ks → (vs : List Verdict) × AllZip IsOf ks vs
      go [] all = ([], tt)
      go (k ∷ ks) all = let (v, is) = some_verdict k (below_within k all.0) in let (vs, are) = go ks all.1 in (v ∷ vs, (is, are))

  pub verdicts_stop : AllStop (AreVerdicts names items beliefs) (told names (set_lines 0))
  verdicts_stop vs more are end =
      subst (λ (ls : List (List ℕ)). Stops (ls ++ more)) (sets_told 0 (2 ^ length justs) vs (from_verdicts vs are))
      (each_stop IsOf each_set (set_at terms) (λ j. j < 2 ^ length justs) (λ k known. reads_set k (below_within k known)) set_begins (λ k known. some_verdict k (below_within k known)) (range_with_len 0 (2 ^ length justs)) vs more (from_verdicts vs are) end)

  pub reads_verdicts : ReadsLines (AreVerdicts names items beliefs) (told names (set_lines 0)) Stops (verdicts_at terms)
  unfolding verdicts_at
  reads_verdicts = reads_same (AllZip IsOf (range_with_len 0 (2 ^ length justs))) (AreVerdicts names items beliefs) _ (told names (set_lines 0)) Stops (each_at (set_at terms) (range_with_len 0 (2 ^ length justs))) (verdicts_at terms)
      (reads_each IsOf each_set (set_at terms) (λ j. j < 2 ^ length justs) (λ k known. reads_set k (below_within k known)) set_begins (λ k known. some_verdict k (below_within k known)) (range_with_len 0 (2 ^ length justs)) all_below)
      to_verdicts from_verdicts (λ vs are. sets_told 0 (2 ^ length justs) vs are) (sets_same 0 (2 ^ length justs))
