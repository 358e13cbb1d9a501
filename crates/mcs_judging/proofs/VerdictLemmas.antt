-- Verdicts on sets of defaults, judged as they are read.
use Rattle.std.proofs.Common.{◌≡◌, ℕ, ◌+◌, ◌-◌, ◌<◌, ◌^◌, Bool, true, false, cond, IsTrue, List, [], ◌∷◌, ◌++◌, map, length, slice_get, slice_index, Option, Some, None, Ok, Err, Result, Vec, codes, ◌↔◌, refl, sym, ap, ◌∙◌, subst, arith, length-append, append-nil, true≢false}
use Rattle.std.specs.declared.alloc.Global.{Global}
use Rattle.std.proofs.lemmas.Option.{same_Some}
use Rattle.std.proofs.lemmas.List.{length-map}
use Rattle.mcs_sets.specs.Sets.{minus, members, size, Within}
use Rattle.mcs_sets.specs.Orders.{StateBefore}
use Rattle.mcs_base.specs.Listings.{IsAmong, IsListing}
use Rattle.mcs_base.proofs.Lists.{slice_get_kept, slice_get_seam}
use Rattle.mcs_system.specs.Plain.{Name, Formula, Default, Item}
use Rattle.mcs_cnf.specs.Entailments.{Entailment}
use Rattle.mcs_evidence.specs.Defaults.{Absence, Verdict, Fails, Applied, Ungrounded, Extension, defaults_of, facts_of, defaults_in, all_defaults, generated, negated_justs, IsEntailmentShown, AreDenied, AreGrounded, IsAcceptedVerdict, IsAcceptedDefault}
use Rattle.mcs_extensions.specs.Checks.{at_number, judged_by, judged_as, IsNumberIn, AreNumbersOf, AreAbsent, IsVerdictJudged}
use Rattle.mcs_extensions.specs.declared.verdict.Judged.{Judged}
use Rattle.mcs_extensions.specs.declared.verdict.Judged.TheVariants as variants
use Rattle.mcs_extensions.proofs.JudgingLemmas.{AreJudged, judged_none, judged_passed, judged_shows, all_judged, one_refused}
use Rattle.mcs_extensions.proofs.OrderLemmas.{numbered_same}
use Rattle.mcs_extensions.proofs.VerdictLemmas.{complete_view, judged_view, judged_test, ready, applied_inside, applied_iff}
use Rattle.mcs_proof_lines.specs.declared.fault.ReportFault.{ReportFault}
use Rattle.mcs_proof_lines.specs.declared.fault.ReportFault.TheVariants as faults
use Rattle.mcs_proof_lines.specs.Walks.{At, Reading, ◌>>=◌, ReturnsReading, line_at, yes_at, no_at, entailment_at, many_at, each_at, absence_at, absence_of_place, number_after, mapped_reading, advanced, fault_at, after_front}
use Rattle.mcs_proof_lines.specs.Verdicts.{Terms, all_places, just_total, extension_at, applied_at, ungrounded_at, or_absence, or_extension, or_ungrounded, or_applied, order_of, defaults_of_line, verdict_at, names_set, set_at, sets_from, verdicts_at}
use Rattle.mcs_proof_lines.proofs.WalkLemmas.{pushed_front, front_none}
use Rattle.mcs_steps.specs.Judging.{Judges}
use Rattle.mcs_judging.specs.Judging.{IsTold, Tells, AreViewsOf, ArePlacesShown}
use Rattle.mcs_judging.specs.Theories.{TellsAbsence, Completion, complete_at, TellsCompletion, shown_if, TellsVerdict, IsNoted}
use Rattle.mcs_judging.proofs.Ways.{fault_first, fault_same, sets_next, sets_failed}
use Rattle.mcs_judging.proofs.AbsenceLemmas.{fails_told}

-- ---- what is told of each verdict
module _ (names : List Name) (items : List Item) (beliefs : List Formula) (set : ℕ) where
  pub fails_judged : (told : Option ℕ) (a : Absence) (b : Bool) → TellsAbsence names items (generated items set) told a → (IsTrue b ↔ ((n : ℕ) × (told ≡ Some n) × IsNumberIn set n)) → TellsVerdict names items beliefs set (judged_by b) (Fails a)
  fails_judged told a b tells is = judged_test names items beliefs set (Fails a) b (λ places h. h) (fails_told names items set told a b tells is)

  pub applied_judged : (ds : List Default) → ds ≡ defaults_of items → (number : ℕ) (d : Default) → at_number ds number ≡ Some d → (pre : Entailment) (justs : List Entailment) (inside shown allowed b : Bool)
      → (IsTrue inside ↔ IsNumberIn set number) → (IsTrue shown ↔ IsEntailmentShown names (generated items set) d.pre pre) → (IsTrue allowed ↔ AreDenied names (generated items set) (negated_justs (d ∷ [])) justs)
      → (IsTrue b ↔ ((¬ IsTrue inside) × IsTrue shown × IsTrue allowed)) → TellsVerdict names items beliefs set (judged_by b) (Applied number pre justs)
  applied_judged ds same number d at pre justs inside shown allowed b is_in is_shown is_allowed all =
      judged_test names items beliefs set (Applied number pre justs) b (λ places h. h) (
        λ t. (let (out, s, a) = all.0 t in
            (applied_iff names items set ds same number pre justs d at (λ there. out (is_in.1 there)) (is_shown.0 s)).0 (is_allowed.0 a)),
        λ h. (
            let one : h.default ≡ d = same_Some h.default d (sym h.is_it ∙ (numbered_same items ds number same ∙ at)) in
            all.1 (
              (λ t. applied_inside names items set ds same number pre justs (is_in.0 t) h),
              is_shown.1 (subst (λ (x : Default). IsEntailmentShown names (generated items set) x.pre pre) one h.supported),
              is_allowed.1 (subst (λ (x : Default). AreDenied names (generated items set) (negated_justs (x ∷ [])) justs) one h.allowed),
            )),
      )

  pub ungrounded_judged : (part : ℕ) (es : List Entailment) (denied b : Bool) → (IsTrue denied ↔ AreDenied names (generated items part) (map (λ (d : Default). d.pre) (defaults_in items (minus set part))) es)
      → (IsTrue b ↔ (Within part set × (¬ (part ≡ set)) × IsTrue denied)) → TellsVerdict names items beliefs set (judged_by b) (Ungrounded part es)
  ungrounded_judged part es denied b is all =
      judged_test names items beliefs set (Ungrounded part es) b (λ places h. h) (
        λ t. (let (within, less, none) = all.0 t in record { part = within; less = less; unsupported = is.0 none }),
        λ u. all.1 (u.part, u.less, is.1 u.unsupported),
      )

  pub extension_judged : (order : List ℕ) (pres : List Entailment) (c : Completion) (grounded : Bool) (view : Option ℕ) → (IsTrue grounded ↔ (AreNumbersOf set order × AreGrounded names items (facts_of items) order pres))
      → TellsCompletion names items (generated items set) beliefs set view c → TellsVerdict names items beliefs set (judged_as (shown_if grounded view)) (Extension order pres c.0 c.1 c.2)
  extension_judged order pres c true view is told = judged_view names items beliefs set order pres c.0 c.1 c.2 view (is.0 refl) told
  extension_judged order pres c false view is told = λ (places, g). true≢false (sym (is.1 (ready names items beliefs set order pres c.0 c.1 c.2 places g)))

  pub completion_told : (fs : List Formula) (c : Completion) (allowed absent : Bool) (view : Option ℕ) → (IsTrue allowed ↔ AreDenied names fs (negated_justs (defaults_in items set)) c.0)
      → (IsTrue absent ↔ AreAbsent names items fs (members (minus (all_defaults items) set)) c.1) → ArePlacesShown names fs beliefs view c.2 → TellsCompletion names items fs beliefs set (shown_if allowed (shown_if absent view)) c
  completion_told fs c true true view is is' told = complete_view names items fs beliefs set c.0 c.1 c.2 view (is.0 refl) (is'.0 refl) told
  completion_told fs c true false view is is' told = λ places h. true≢false (sym (is'.1 h.complete))
  completion_told fs c false absent view is is' told = λ places h. true≢false (sym (is.1 h.allowed))

-- ---- as they are read
module _ (t : Terms) (names : List Name) (items : List Item) (beliefs : List Formula) (set : ℕ) where
  -- a default that applies
  module _ (number : ℕ) (at : At) where
    abbrev applied_then : Reading Entailment → Reading Verdict
    applied_then r = r >>= λ pre. many_at (no_at t.atoms) (slice_index t.justs (number - 1)) pre.1 >>= λ justs. Ok (Applied number pre.0 justs.0, justs.1)

    pub applied_unread : (fault : ReportFault) → ReturnsReading fault (yes_at at) → ReturnsReading fault (applied_at t number at)
    unfolding applied_at
    applied_unread fault told = fault_first fault (yes_at at) (λ pre. many_at (no_at t.atoms) (slice_index t.justs (number - 1)) pre.1 >>= λ justs. Ok (Applied number pre.0 justs.0, justs.1)) told

    module _ (n : ℕ) (many : n ≡ slice_index t.justs (number - 1)) (pre : Entailment) (mid : At) (read : yes_at at ≡ Ok (pre, mid)) where
      to_justs : applied_at t number at ≡ (many_at (no_at t.atoms) n mid >>= λ justs. Ok (Applied number pre justs.0, justs.1))
      unfolding applied_at
      to_justs = ap applied_then read ∙ ap (λ (m : ℕ). many_at (no_at t.atoms) m mid >>= λ justs. Ok (Applied number pre justs.0, justs.1)) (sym many)

      pub justs_unread : (fault : ReportFault) → ReturnsReading fault (many_at (no_at t.atoms) n mid) → ReturnsReading fault (applied_at t number at)
      justs_unread fault told = fault_same fault (applied_at t number at) (many_at (no_at t.atoms) n mid >>= λ justs. Ok (Applied number pre justs.0, justs.1)) to_justs
          (fault_first fault (many_at (no_at t.atoms) n mid) (λ justs. Ok (Applied number pre justs.0, justs.1)) told)

      pub applied_told : (j : Judged) (now : At) (justs : List Entailment) → many_at (no_at t.atoms) n mid ≡ Ok (justs, now) → TellsVerdict names items beliefs set j (Applied number pre justs) → IsTold (TellsVerdict names items beliefs set) j now (applied_at t number at)
      applied_told j now justs e fits = record {
        value = Applied number pre justs;
        is = to_justs ∙ ap (λ (r : Reading (List Entailment)). r >>= λ justs. Ok (Applied number pre justs.0, justs.1)) e;
        fits = fits;
      }

  -- a part that supports nothing more
  module _ (part : ℕ) (at : At) (n : ℕ) (many : n ≡ size (minus set part)) where
    to_pres : ungrounded_at t set part at ≡ (many_at (no_at t.atoms) n at >>= λ pres. Ok (Ungrounded part pres.0, pres.1))
    unfolding ungrounded_at
    to_pres = ap (λ (m : ℕ). many_at (no_at t.atoms) m at >>= λ pres. Ok (Ungrounded part pres.0, pres.1)) (sym many)

    pub ungrounded_unread : (fault : ReportFault) → ReturnsReading fault (many_at (no_at t.atoms) n at) → ReturnsReading fault (ungrounded_at t set part at)
    ungrounded_unread fault told = fault_same fault (ungrounded_at t set part at) (many_at (no_at t.atoms) n at >>= λ pres. Ok (Ungrounded part pres.0, pres.1)) to_pres
        (fault_first fault (many_at (no_at t.atoms) n at) (λ pres. Ok (Ungrounded part pres.0, pres.1)) told)

    pub ungrounded_told : (j : Judged) (now : At) (pres : List Entailment) → many_at (no_at t.atoms) n at ≡ Ok (pres, now) → TellsVerdict names items beliefs set j (Ungrounded part pres) → IsTold (TellsVerdict names items beliefs set) j now (ungrounded_at t set part at)
    ungrounded_told j now pres e fits = record {
      value = Ungrounded part pres;
      is = to_pres ∙ ap (λ (r : Reading (List Entailment)). r >>= λ pres. Ok (Ungrounded part pres.0, pres.1)) e;
      fits = fits;
    }

  -- a default that fails
  module _ (at : At) where
    pub fails_unread : (fault : ReportFault) → ReturnsReading fault (absence_at t.atoms t.justs None at) → ReturnsReading fault (or_absence t at)
    fails_unread fault told = fault_first fault (absence_at t.atoms t.justs None at) (λ x. Ok (Fails x.0, x.1)) told

    pub fails_read : (j : Judged) (now : At) (a : Absence) → absence_at t.atoms t.justs None at ≡ Ok (a, now) → TellsVerdict names items beliefs set j (Fails a) → IsTold (TellsVerdict names items beliefs set) j now (or_absence t at)
    fails_read j now a e fits = record { value = Fails a; is = ap (mapped_reading Fails) e; fits = fits }

  -- ---- an extension: after the order, in three parts
  module _ (at : At) (n : ℕ) (many : n ≡ just_total t.justs (members set)) (ks : List ℕ) (places : ks ≡ members (minus (all_places t) set)) (m : ℕ) (count : m ≡ t.beliefs) where
    abbrev outputs_then : List Entailment → List Absence → At → Reading Completion
    outputs_then justs outside mid = many_at (entailment_at t.atoms) m mid >>= λ outputs. Ok ((justs, outside, outputs.0), outputs.1)

    abbrev outside_then : List Entailment → At → Reading Completion
    outside_then justs mid = each_at (absence_of_place t.atoms t.justs) ks mid >>= λ outside. outputs_then justs outside.0 outside.1

    abbrev justs_then : Reading Completion
    justs_then = many_at (no_at t.atoms) n at >>= λ justs. outside_then justs.0 justs.1

    complete_is : complete_at t set at ≡ justs_then
    unfolding complete_at
    complete_is = rw (many, places, count) refl

    pub completion_first : (fault : ReportFault) → ReturnsReading fault (many_at (no_at t.atoms) n at) → ReturnsReading fault (complete_at t set at)
    completion_first fault told = fault_same fault (complete_at t set at) justs_then complete_is (fault_first fault (many_at (no_at t.atoms) n at) (λ justs. outside_then justs.0 justs.1) told)

    module _ (justs : List Entailment) (mid : At) (read : many_at (no_at t.atoms) n at ≡ Ok (justs, mid)) where
      after_justs : complete_at t set at ≡ outside_then justs mid
      after_justs = complete_is ∙ ap (λ (r : Reading (List Entailment)). r >>= λ justs. outside_then justs.0 justs.1) read

      pub completion_second : (fault : ReportFault) → ReturnsReading fault (each_at (absence_of_place t.atoms t.justs) ks mid) → ReturnsReading fault (complete_at t set at)
      completion_second fault told = fault_same fault (complete_at t set at) (outside_then justs mid) after_justs (fault_first fault (each_at (absence_of_place t.atoms t.justs) ks mid) (λ outside. outputs_then justs outside.0 outside.1) told)

      module _ (outside : List Absence) (next : At) (read' : each_at (absence_of_place t.atoms t.justs) ks mid ≡ Ok (outside, next)) where
        after_outside : complete_at t set at ≡ outputs_then justs outside next
        after_outside = after_justs ∙ ap (λ (r : Reading (List Absence)). r >>= λ outside. outputs_then justs outside.0 outside.1) read'

        pub completion_third : (fault : ReportFault) → ReturnsReading fault (many_at (entailment_at t.atoms) m next) → ReturnsReading fault (complete_at t set at)
        completion_third fault told = fault_same fault (complete_at t set at) (outputs_then justs outside next) after_outside
            (fault_first fault (many_at (entailment_at t.atoms) m next) (λ outputs. Ok ((justs, outside, outputs.0), outputs.1)) told)

        pub completion_read : (fs : List Formula) (told : Option ℕ) (now : At) (outputs : List Entailment) → many_at (entailment_at t.atoms) m next ≡ Ok (outputs, now) → TellsCompletion names items fs beliefs set told (justs, outside, outputs)
            → IsTold (TellsCompletion names items fs beliefs set) told now (complete_at t set at)
        completion_read fs told now outputs e fits = record {
          value = (justs, outside, outputs);
          is = after_outside ∙ ap (λ (r : Reading (List Entailment)). (let s : Reading Completion = r >>= λ outputs. Ok ((justs, outside, outputs.0), outputs.1) in s)) e;
          fits = fits;
        }

  module _ (order : List ℕ) (at : At) where
    abbrev extension_of : List Entailment → Completion × At → Reading Verdict
    extension_of pres c = Ok (Extension order pres c.0.0 c.0.1 c.0.2, c.1)

    abbrev completion_then : List Entailment × At → Reading Verdict
    completion_then pres = complete_at t set pres.1 >>= extension_of pres.0

    abbrev outputs_of : List Entailment → List Entailment → List Absence × At → Reading Verdict
    outputs_of pres justs outside = many_at (entailment_at t.atoms) t.beliefs outside.1 >>= λ outputs. Ok (Extension order pres justs outside.0 outputs.0, outputs.1)

    abbrev outputs_in : List Entailment → List Absence × At → Reading Completion
    outputs_in justs outside = many_at (entailment_at t.atoms) t.beliefs outside.1 >>= λ outputs. Ok ((justs, outside.0, outputs.0), outputs.1)

    by_outputs : (pres justs : List Entailment) (outside : List Absence) (r : Reading (List Entailment)) → (r >>= λ outputs. Ok (Extension order pres justs outside outputs.0, outputs.1)) ≡ ((r >>= λ outputs. (let c : Reading Completion = Ok ((justs, outside, outputs.0), outputs.1) in c)) >>= extension_of pres)
    by_outputs pres justs outside (Ok r) = refl
    by_outputs pres justs outside (Err k) = refl

    by_outside : (pres justs : List Entailment) (r : Reading (List Absence)) → (r >>= outputs_of pres justs) ≡ ((r >>= outputs_in justs) >>= extension_of pres)
    by_outside pres justs (Ok r) = by_outputs pres justs r.0 (many_at (entailment_at t.atoms) t.beliefs r.1)
    by_outside pres justs (Err k) = refl

    abbrev outside_of : List Entailment → List Entailment × At → Reading Verdict
    outside_of pres justs = each_at (absence_of_place t.atoms t.justs) (members (minus (all_places t) set)) justs.1 >>= outputs_of pres justs.0

    abbrev outside_in : List Entailment × At → Reading Completion
    outside_in justs = each_at (absence_of_place t.atoms t.justs) (members (minus (all_places t) set)) justs.1 >>= outputs_in justs.0

    by_justs : (pres : List Entailment) (r : Reading (List Entailment)) → (r >>= outside_of pres) ≡ ((r >>= outside_in) >>= extension_of pres)
    by_justs pres (Ok r) = by_outside pres r.0 (each_at (absence_of_place t.atoms t.justs) (members (minus (all_places t) set)) r.1)
    by_justs pres (Err k) = refl

    abbrev justs_of : List Entailment × At → Reading Verdict
    justs_of pres = many_at (no_at t.atoms) (just_total t.justs (members set)) pres.1 >>= outside_of pres.0

    abbrev justs_in : List Entailment × At → Reading Verdict
    justs_in pres = (many_at (no_at t.atoms) (just_total t.justs (members set)) pres.1 >>= outside_in) >>= extension_of pres.0

    by_pres : (r : Reading (List Entailment)) → (r >>= justs_of) ≡ (r >>= justs_in)
    by_pres (Ok r) = by_justs r.0 (many_at (no_at t.atoms) (just_total t.justs (members set)) r.1)
    by_pres (Err k) = refl

    extension_is : extension_at t set order at ≡ (many_at yes_at (length order) at >>= completion_then)
    unfolding extension_at complete_at
    extension_is = by_pres (many_at yes_at (length order) at)

    pub extension_first : (fault : ReportFault) → ReturnsReading fault (many_at yes_at (length order) at) → ReturnsReading fault (extension_at t set order at)
    extension_first fault told = fault_same fault (extension_at t set order at) (many_at yes_at (length order) at >>= completion_then) extension_is (fault_first fault (many_at yes_at (length order) at) completion_then told)

    module _ (pres : List Entailment) (mid : At) (read : many_at yes_at (length order) at ≡ Ok (pres, mid)) where
      after_pres : extension_at t set order at ≡ (complete_at t set mid >>= extension_of pres)
      after_pres = extension_is ∙ ap (λ (r : Reading (List Entailment)). r >>= completion_then) read

      pub extension_later : (fault : ReportFault) → ReturnsReading fault (complete_at t set mid) → ReturnsReading fault (extension_at t set order at)
      extension_later fault told = fault_same fault (extension_at t set order at) (complete_at t set mid >>= extension_of pres) after_pres (fault_first fault (complete_at t set mid) (extension_of pres) told)

      pub extension_told : (j : Judged) (now : At) (c : Completion) → complete_at t set mid ≡ Ok (c, now) → TellsVerdict names items beliefs set j (Extension order pres c.0 c.1 c.2) → IsTold (TellsVerdict names items beliefs set) j now (extension_at t set order at)
      extension_told j now c e fits = record {
        value = Extension order pres c.0 c.1 c.2;
        is = after_pres ∙ ap (λ (r : Reading Completion). r >>= extension_of pres) e;
        fits = fits;
      }

  -- ---- which verdict the next line begins
  module _ (at : At) where
    pub by_applied : (number : ℕ) → Some number ≡ line_at (number_after (codes "applied ") (length t.justs)) at → verdict_at t set at ≡ applied_at t number (advanced at)
    unfolding verdict_at
    by_applied number e = ap (or_applied t set at) (sym e)

    module _ (none : None ≡ line_at (number_after (codes "applied ") (length t.justs)) at) where
      not_applied : verdict_at t set at ≡ or_ungrounded t set at (line_at (defaults_of_line (codes "ungrounded ") t) at)
      unfolding verdict_at
      not_applied = ap (or_applied t set at) (sym none)

      pub by_ungrounded : (part : ℕ) → Some part ≡ line_at (defaults_of_line (codes "ungrounded ") t) at → verdict_at t set at ≡ ungrounded_at t set part (advanced at)
      by_ungrounded part e = not_applied ∙ ap (or_ungrounded t set at) (sym e)

      module _ (none' : None ≡ line_at (defaults_of_line (codes "ungrounded ") t) at) where
        not_ungrounded : verdict_at t set at ≡ or_extension t set at (line_at (order_of (length t.justs)) at)
        not_ungrounded = not_applied ∙ ap (or_ungrounded t set at) (sym none')

        pub by_extension : (order : List ℕ) → line_at (order_of (length t.justs)) at ≡ Some order → verdict_at t set at ≡ extension_at t set order (advanced at)
        by_extension order e = not_ungrounded ∙ ap (or_extension t set at) e

        pub by_failing : line_at (order_of (length t.justs)) at ≡ None → verdict_at t set at ≡ or_absence t at
        by_failing e = not_ungrounded ∙ ap (or_extension t set at) e

    -- the line of the set before it
    pub set_named : names_set t set at ≡ true → set_at t set at ≡ verdict_at t set (advanced at)
    unfolding set_at
    set_named e = ap (λ (b : Bool). cond b (verdict_at t set (advanced at)) (fault_at at)) e

    pub set_missing : names_set t set at ≡ false → set_at t set at ≡ fault_at at
    unfolding set_at
    set_missing e = ap (λ (b : Bool). cond b (verdict_at t set (advanced at)) (fault_at at)) e

-- ---- the same goals by other words
pub goals_as : {X : Type 0} (f : X → Formula) (xs : List X) (gs : List Formula) (n : ℕ) → map f xs ≡ gs → length gs ≡ n → (p : At → Reading Entailment) (names : List Name) (fs : List Formula) (r : Result Bool ReportFault) (now at : At)
    → Judges (AreDenied names fs (map f xs)) r now (many_at p (length xs) at) → Judges (AreDenied names fs gs) r now (many_at p n at)
goals_as f xs gs n are many p names fs r now at h =
    let long : length xs ≡ n = sym (length-map xs f) ∙ ap length are ∙ many in
    subst (λ (m : ℕ). Judges (AreDenied names fs gs) r now (many_at p m at)) long (subst (λ (hs : List Formula). Judges (AreDenied names fs hs) r now (many_at p (length xs) at)) are h)

-- what is told of a reading by other words
pub told_same : {X A : Type 0} (Fits : X → A → Type 0) (r : Result X ReportFault) (now : At) (read read' : Reading A) → read ≡ read' → Tells Fits r now read' → Tells Fits r now read
told_same {A = A} Fits r now read read' e h = subst (λ (x : Reading A). Tells Fits r now x) (sym e) h

-- ---- the sets, one after the other
module _ (names : List Name) (items : List Item) (beliefs : List Formula) where
  -- the verdicts so far are accepted, and these are the views that they show; or one of them is refused
  pub record AreNoted (told : Bool) (views : List ℕ) (front : List Verdict) : Type 0 where
    pub judged : IsTrue told → AreJudged names items beliefs views front
    pub refused : told ≡ false → (set : ℕ) × (v : Verdict) × (slice_get front set ≡ Some v) × ¬ IsAcceptedVerdict names items beliefs set v

  pub none_noted : (told : Bool) → told ≡ true → AreNoted told [] []
  none_noted told is = record { judged = λ t. judged_none names items beliefs; refused = λ e. absurd (true≢false (sym is ∙ e)) }

  module _ (told : Bool) (views : List ℕ) (front : List Verdict) (before : AreNoted told views front) (n : ℕ) (many : length front ≡ n) (v : Verdict) where
    refused_more : told ≡ false → (set : ℕ) × (w : Verdict) × (slice_get (front ++ v ∷ []) set ≡ Some w) × ¬ IsAcceptedVerdict names items beliefs set w
    refused_more e = let (set, w, at, wrong) = before.refused e in (set, w, slice_get_kept front (v ∷ []) set w at, wrong)

    pub one_noted : (j : Judged) (told' : Bool) (views' : List ℕ) → IsVerdictJudged names items beliefs n v j → IsNoted j told views told' views' → AreNoted told' views' (front ++ v ∷ [])
    one_noted variants.Refused told' views' wrong noted = record {
      judged = λ t. absurd (true≢false (sym t ∙ noted.0));
      refused = λ e. (n, v, slice_get_seam front v [] n (sym many), wrong);
    }
    one_noted variants.Passed told' views' fine noted = record {
      judged = λ t. subst (λ (vs : List ℕ). AreJudged names items beliefs vs (front ++ v ∷ [])) (sym noted.1) (judged_passed names items beliefs views front (before.judged (sym noted.0 ∙ t)) n many v fine);
      refused = λ e. refused_more (sym noted.0 ∙ e);
    }
    one_noted (variants.Shows view) told' views' shown noted = record {
      judged = λ t. judged_shows names items beliefs views front (before.judged (sym noted.0 ∙ t)) n many v views' view noted.1 shown;
      refused = λ e. refused_more (sym noted.0 ∙ e);
    }

  -- so far, as they are read
  pub record AreSetsJudged (t : Terms) (start at : At) (set left : ℕ) (told : Bool) (views : List ℕ) : Type 0 where
    pub front : List Verdict
    pub many : length front ≡ set
    pub read : after_front front (sets_from t set left at) ≡ verdicts_at t start
    pub noted : AreNoted told views front

  module _ (t : Terms) (start : At) where
    pub sets_begin : (left : ℕ) (told : Bool) (views : List ℕ) → left ≡ 2 ^ length t.justs → told ≡ true → views ≡ [] → AreSetsJudged t start start 0 left told views
    unfolding verdicts_at
    sets_begin left told views all is none = record {
      front = [];
      many = refl;
      read = front_none (sets_from t 0 left start) ∙ ap (λ (n : ℕ). sets_from t 0 n start) all;
      noted = subst (λ (vs : List ℕ). AreNoted told vs []) (sym none) (none_noted told is);
    }

    module _ (at : At) (set left : ℕ) (told : Bool) (views : List ℕ) (h : AreSetsJudged t start at set left told views) where
      pub sets_on : (now : At) (j : Judged) (told' : Bool) (views' : List ℕ) → 0 < left → IsTold (TellsVerdict names items beliefs set) j now (set_at t set at) → IsNoted j told views told' views' → AreSetsJudged t start now (set + 1) (left - 1) told' views'
      sets_on now j told' views' some judged noted = record {
        front = h.front ++ judged.value ∷ [];
        many = (let long = length-append h.front (judged.value ∷ []) in let many = h.many in omega (arith, long, many));
        read = pushed_front h.front judged.value (sets_from t (set + 1) (left - 1) now) ∙ ap (after_front h.front) (sym (sets_next t set left at now judged.value some judged.is)) ∙ h.read;
        noted = one_noted told views h.front h.noted set h.many judged.value j told' views' judged.fits noted;
      }

      pub sets_fail : (fault : ReportFault) → 0 < left → ReturnsReading fault (set_at t set at) → ReturnsReading fault (verdicts_at t start)
      sets_fail fault some failed = go fault (sets_failed t set left at fault some failed)
        where
          go : (fault : ReportFault) → ReturnsReading fault (sets_from t set left at) → ReturnsReading fault (verdicts_at t start)
          go faults.Memory e = tt
          go (faults.Grammar line) e = sym h.read ∙ ap (after_front h.front) e

      module _ (none : left ≡ 0) where
        all_read : verdicts_at t start ≡ Ok (h.front, at)
        all_read = sym h.read ∙ ap (λ (n : ℕ). after_front h.front (sets_from t set n at)) none ∙ ap (λ (vs : List Verdict). (let r : Reading (List Verdict) = Ok (vs, at) in r)) (append-nil h.front)

        pub sets_refused : told ≡ false → IsTold (AreViewsOf (IsAcceptedDefault names items beliefs)) None at (verdicts_at t start)
        sets_refused is_wrong = record {
          value = h.front;
          is = all_read;
          fits = λ views' accepted. (let (set', v, there, wrong) = h.noted.refused is_wrong in one_refused names items beliefs views' h.front set' v there wrong accepted);
        }

        pub sets_accepted : (shown : Vec ℕ Global) → told ≡ true → set ≡ 2 ^ length (defaults_of items) → IsListing (λ s. IsAmong s views) StateBefore shown.items
            → IsTold (AreViewsOf (IsAcceptedDefault names items beliefs)) (Some shown) at (verdicts_at t start)
        sets_accepted shown right all listing = record {
          value = h.front;
          is = all_read;
          fits = all_judged names items beliefs views shown.items h.front (h.noted.judged right) (h.many ∙ all) listing;
        }
