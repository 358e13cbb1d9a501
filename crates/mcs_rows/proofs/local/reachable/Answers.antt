use Rattle.std.proofs.Common.{◌≡◌, ℕ, sym, subst, refl, ◌∙◌, arith, true≢false}
use Rattle.std.proofs.lemmas.Bool.{false_from_ne_true}
use Rattle.mcs_sets.specs.Sets.{common, Within}
use Rattle.mcs_base.specs.Antichains.{HasOneWithin}
use Rattle.mcs_system.specs.Imports.{marks_at, rules_into}
use Rattle.mcs_system.specs.Repairs.{allowed_marks}
use Rattle.mcs_system.specs.Systems.{applicable}
use Rattle.mcs_rows.specs.Making.{is_in_reach}
use Rattle.mcs_rows.proofs.MakingLemmas.{in_reach, marks_counted, marks_are_at}
use Rattle.mcs_rows.proofs.local.reachable.Goals.{then-not-within-via-then-not-within, then-not-within-via-else-not-within+then-hold_known}
use Rattle.mcs_rows.proofs.local.reachable.Goals as goal

pub returns-then-count-reach : goal.returns-then-count-reach
returns-then-count-reach c m i state x comes allowed =
    let count = marks_counted m i state x (common (applicable m state) (rules_into m i)) c.args.removed c.args.forced refl comes.of_rules comes.removes comes.forces in
    false_from_ne_true (is_in_reach m i c.args.reach.now.level c.args.reach.now.known.now state x) (λ e.
    let (few, within, none) = (in_reach m i c.args.reach.now.level c.args.reach.now.known.now state x).0 e in
    absurd (omega (arith, few, c.if-count-reach.true, c.count.ensures.number, c.count-2.ensures.number, count)))

pub returns-then-not-within : goal.returns-then-not-within
returns-then-not-within c m i state x comes allowed =
    let marks : c.marks_of-marks.result ≡ marks_at m i state x =
    marks_are_at m i state x (common (applicable m state) (rules_into m i)) c.args.removed c.args.forced c.marks_of-marks.result refl comes.of_rules comes.removes comes.forces (c.marks_of-marks.ensures m) in
    false_from_ne_true (is_in_reach m i c.args.reach.now.level c.args.reach.now.known.now state x) (λ e.
    let (few, within, none) = (in_reach m i c.args.reach.now.level c.args.reach.now.known.now state x).0 e in
    elim c.then-not-within.branch [
      | then-not-within-via-then-not-within w ↦ true≢false (sym (c.within.ensures.1 (subst (λ (s : ℕ). Within s c.args.reach.now.allowed) (sym marks) (subst (λ (s : ℕ). Within (marks_at m i state x) s) (sym allowed) within))) ∙ w.if-not-within.true)
      | then-not-within-via-else-not-within+then-hold_known w ↦ none (subst (HasOneWithin c.args.reach.now.known.now) marks (w.hold_known.ensures.0 w.if-hold_known.true))
    ])

pub returns : goal.returns
returns c m i state x comes allowed =
    let marks : c.marks_of-marks.result ≡ marks_at m i state x =
    marks_are_at m i state x (common (applicable m state) (rules_into m i)) c.args.removed c.args.forced c.marks_of-marks.result refl comes.of_rules comes.removes comes.forces (c.marks_of-marks.ensures m) in
    let count = marks_counted m i state x (common (applicable m state) (rules_into m i)) c.args.removed c.args.forced refl comes.of_rules comes.removes comes.forces in (
      marks,
      (in_reach m i c.args.reach.now.level c.args.reach.now.known.now state x).1 (
        omega (arith, c.if-count-reach.false, c.count.ensures.number, c.count-2.ensures.number, count),
        subst (λ (s : ℕ). Within s (allowed_marks m)) marks (subst (λ (s : ℕ). Within c.marks_of-marks.result s) allowed (c.within.ensures.0 c.if-not-within.false)),
        (λ held. true≢false (sym (c.hold_known.ensures.1 (subst (HasOneWithin c.args.reach.now.known.now) (sym marks) held)) ∙ c.if-hold_known.false)),
      ),
    )
