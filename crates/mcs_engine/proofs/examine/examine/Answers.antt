use Rattle.std.proofs.Common.{◌≡◌, ◌+◌, ℤ, pos, neg_ℤ, unsigned_abs, get_or, Some, sym, ap, ◌∙◌, subst, inl, inr, w64, to_z, of_z, to_z-of_z}
use Rattle.std.proofs.lemmas.Bool.Decides.{when_true, when_false}
use Rattle.mcs_base.proofs.ListingLemmas.{all_among}
use Rattle.mcs_base.proofs.Among.{among_at}
use Rattle.mcs_base.proofs.Booleans.{none_from_not_some}
use Rattle.mcs_trace.specs.Clauses.{IsLiteral}
use Rattle.mcs_trace.proofs.OrderLemmas.{literal_at, fits_literal}
use Rattle.mcs_engine.specs.declared.examine.Finding.TheVariants.{Forced}
use Rattle.mcs_engine.specs.Trails.{IsOn, StandsNowhere, IsClauseFinding}
use Rattle.mcs_engine.proofs.FindingLemmas.{FoundSoFar, found-false, found-free, found-conflict, found-forced, found-two}
use Rattle.mcs_engine.proofs.examine.examine.Goals.{in-Some-false, in-None+else-is_some}
use Rattle.mcs_engine.proofs.examine.examine.Goals as goal

pub returns-in-Some-true : goal.returns-in-Some-true
returns-in-Some-true c =
    let x : ℤ = get_or c.args.literals.now c.loop-literal.literal-index (pos 0) in
    let read : to_z w64 (of_z w64 x) ≡ x = to_z-of_z (fits_literal x (literal_at c.args.literals.now c.loop-literal.literal-index c.requires.0 c.loop-literal-test.true)) in
    inl (x, among_at c.args.literals.now c.loop-literal.literal-index (pos 0) c.loop-literal-test.true, subst (IsOn c.args.trail.now.entries.items) read (when_true _ _ c.in-Some-true.field-0-test c.in-Some-true.ensures))

pub returns-then-is_some : goal.returns-then-is_some
returns-then-is_some c =
    let x : ℤ = get_or c.args.literals.now c.loop-literal.literal-index (pos 0) in
    let read : to_z w64 (of_z w64 x) ≡ x = to_z-of_z (fits_literal x (literal_at c.args.literals.now c.loop-literal.literal-index c.requires.0 c.loop-literal-test.true)) in
    inr (found-two c.args.trail.now.entries.items c.args.literals.now c.loop-literal.literal-index c.loop-literal.free c.loop-literal-test.true (sym c.is_some.ensures ∙ c.if-is_some.true)
    (subst (λ (k : ℤ). StandsNowhere c.args.trail.now.entries.items (unsigned_abs k)) read c.in-None.ensures) c.loop-literal.invariant)

pub loop-literal-preserved : goal.loop-literal-preserved
loop-literal-preserved c =
    let entries = c.args.trail.now.entries.items in
    let lits = c.args.literals.now in
    let i = c.loop-literal.literal-index in
    let x : ℤ = get_or lits i (pos 0) in
    let read : to_z w64 (of_z w64 x) ≡ x = to_z-of_z (fits_literal x (literal_at lits i c.requires.0 c.loop-literal-test.true)) in
    elim c.match-value.branch [
      | in-Some-false w ↦ subst (FoundSoFar entries lits (i + 1)) (sym w.free-is)
          (found-false entries lits i c.loop-literal.free c.loop-literal-test.true (subst (λ (k : ℤ). IsOn entries (neg_ℤ k)) read (when_false _ _ w.in-Some-false.field-0-test w.in-Some-false.ensures)) c.loop-literal.invariant)
      | in-None+else-is_some w ↦ subst (FoundSoFar entries lits (i + 1)) (sym (w.free-is ∙ ap Some read))
          (found-free entries lits i c.loop-literal.free c.requires.0 c.loop-literal-test.true (none_from_not_some c.loop-literal.free (sym w.is_some.ensures ∙ w.if-is_some.false)) (subst (λ (k : ℤ). StandsNowhere entries (unsigned_abs k)) read w.in-None.ensures) c.loop-literal.invariant)
    ]

pub returns-in-Some : goal.returns-in-Some
returns-in-Some c =
    let l : ℤ = c.in-Some.literal in
    let found : IsClauseFinding c.args.trail.now.entries.items c.args.literals.now (Forced l) =
    found-forced c.args.trail.now.entries.items c.args.literals.now c.loop-literal.literal-index c.loop-literal.free l c.loop-literal-test.false c.in-Some.is c.loop-literal.invariant in
    let is : IsLiteral l = all_among IsLiteral c.args.literals.now l c.requires.0.0 found.0.0 in
    subst (λ (k : ℤ). IsClauseFinding c.args.trail.now.entries.items c.args.literals.now (Forced k)) (sym (to_z-of_z (fits_literal l is))) found

pub returns-in-None-free : goal.returns-in-None-free
returns-in-None-free c =
    found-conflict c.args.trail.now.entries.items c.args.literals.now c.loop-literal.literal-index c.loop-literal.free c.loop-literal-test.false c.in-None-free.is c.loop-literal.invariant
