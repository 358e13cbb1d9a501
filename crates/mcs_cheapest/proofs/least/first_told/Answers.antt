use Rattle.std.proofs.Common.{◌≡◌, ◌+◌, ◌≤◌, length, sym, subst, arith}
use Rattle.std.specs.List.{AllByRecursion}
use Rattle.mcs_system.specs.Faults.{IsValid}
use Rattle.mcs_system.specs.Plain.{System}
use Rattle.mcs_states.proofs.Causes.{rest_kept}
use Rattle.mcs_diagnosis.specs.Diagnoses.{ShowsFirstState}
use Rattle.mcs_costs.specs.Settling.{AreDiagnosesUpTo, IsSettling}
use Rattle.mcs_cheapest.proofs.LeastLemmas.{all_looked, known_shown, last_counted, look_begins, look_breaks_off, look_ends, looks_on, none_before}
use Rattle.mcs_cheapest.proofs.SearchLemmas.{searches_cut}
use Rattle.mcs_cheapest.proofs.least.first_told.Goals as goal

pub loop-level-init : goal.loop-level-init
loop-level-init g c = record {
  looking = look_begins c.args.system.now (g.E.Evaluator.stands c.args.evaluator.now) c.requires;
  shown = rw c.new-shown.ensures.items tt;
}

pub reach-requires : goal.reach-requires
reach-requires g c = c.loop-level.invariant.looking.asking.going

pub returns-in_err-reach : goal.returns-in_err-reach
returns-in_err-reach g c =
    let first = g.E.Evaluator.stands c.args.evaluator.now in
    let valid = subst IsValid (sym c.requires.same) c.bridges.ensures.valid in
    let low : c.loop-level.level ≤ length first.system.bridges = omega (arith, last_counted first.system c.args.system.now c.bridges.result.now c.requires.same c.bridges.ensures.value) in
    searches_cut _ _ _ _ _ c.from_residual.ensures.1
    (look_breaks_off first (g.E.Evaluator.stands c.loop-level.evaluator) _ c.loop-level.level c.loop-level.candidate valid low c.loop-level.invariant.looking c.in_err-reach.ensures.rest _ c.in_err-reach.ensures.halt)
    (rest_kept _ _ _ c.loop-level.invariant.looking.asking.rest c.in_err-reach.ensures.rest)

pub loop-level-preserved-then-level-candidate : goal.loop-level-preserved-then-level-candidate
loop-level-preserved-then-level-candidate g c =
    let first = g.E.Evaluator.stands c.args.evaluator.now in
    let valid = subst IsValid (sym c.requires.same) c.bridges.ensures.valid in
    let low : c.loop-level.level ≤ length first.system.bridges = omega (arith, last_counted first.system c.args.system.now c.bridges.result.now c.requires.same c.bridges.ensures.value) in
    record {
      looking = looks_on first (g.E.Evaluator.stands c.loop-level.evaluator) _ c.loop-level.level c.loop-level.candidate valid low c.loop-level.invariant.looking c.in_ok-reach.ensures.rest c.in_ok-reach.ensures.done
          c.loop-level.candidate (omega (arith, c.if-level-candidate.true)) c.loop-level.invariant.looking.not_yet;
      shown = c.loop-level.invariant.shown;
    }

pub cheapest-requires : goal.cheapest-requires
cheapest-requires g c = c.loop-level.invariant.looking.asking.going

pub returns-in_err-pairs : goal.returns-in_err-pairs
returns-in_err-pairs g c =
    let first = g.E.Evaluator.stands c.args.evaluator.now in
    let valid = subst IsValid (sym c.requires.same) c.bridges.ensures.valid in
    let low : c.loop-level.level ≤ length first.system.bridges = omega (arith, last_counted first.system c.args.system.now c.bridges.result.now c.requires.same c.bridges.ensures.value) in
    searches_cut _ _ _ _ _ c.from_residual-in_err-pairs.ensures.1
    (look_breaks_off first (g.E.Evaluator.stands c.loop-level.evaluator) _ c.loop-level.level c.loop-level.candidate valid low c.loop-level.invariant.looking c.in_err-pairs.ensures.rest _ c.in_err-pairs.ensures.halt)
    (rest_kept _ _ _ c.loop-level.invariant.looking.asking.rest c.in_err-pairs.ensures.rest)

pub returns-in-Settled : goal.returns-in-Settled
returns-in-Settled g c =
    let first = g.E.Evaluator.stands c.args.evaluator.now in
    let e = g.E.Evaluator.stands c.loop-level.evaluator in
    let valid = subst IsValid (sym c.requires.same) c.bridges.ensures.valid in
    let low : c.loop-level.level ≤ length first.system.bridges = omega (arith, last_counted first.system c.args.system.now c.bridges.result.now c.requires.same c.bridges.ensures.value) in
    let rest = c.loop-level.invariant.looking.asking.rest in
    let listed = rw c.in-Settled.is at (subst (λ (m : System). IsSettling m c.loop-level.level c.in_ok-pairs.field-0) rest.system c.in_ok-pairs.ensures.told) in
    let shown_there = subst (λ (m : System). AllByRecursion (ShowsFirstState m) c.loop-level.shown.items) (sym c.requires.same) c.loop-level.invariant.shown in
    record {
      found = (look_ends first e _ c.loop-level.level c.loop-level.candidate valid low c.loop-level.invariant.looking c.in_ok-pairs.ensures.rest c.in_ok-pairs.ensures.done c.in-Settled.pairs.items listed, shown_there);
      stop = tt;
      rest = rest_kept _ _ _ rest c.in_ok-pairs.ensures.rest;
    }

pub show_each-requires : goal.show_each-requires
show_each-requires g c =
    let first = g.E.Evaluator.stands c.args.evaluator.now in
    let valid = subst IsValid (sym c.requires.same) c.bridges.ensures.valid in
    let low : c.loop-level.level ≤ length first.system.bridges = omega (arith, last_counted first.system c.args.system.now c.bridges.result.now c.requires.same c.bridges.ensures.value) in
    let none = rw c.in-NoneUpTo.is at (subst (λ (m : System). IsSettling m c.loop-level.level c.in_ok-pairs.field-0) c.loop-level.invariant.looking.asking.rest.system c.in_ok-pairs.ensures.told) in
    let looking = looks_on first (g.E.Evaluator.stands c.loop-level.evaluator) _ c.loop-level.level c.loop-level.candidate valid low c.loop-level.invariant.looking c.in_ok-pairs.ensures.rest c.in_ok-pairs.ensures.done
    c.saturating_add-candidate.result (omega (arith, c.saturating_add-candidate.ensures, none.0)) (none_before first.system c.in-NoneUpTo.bound c.saturating_add-candidate.result (omega (arith, c.saturating_add-candidate.ensures)) none.1) in
    let known = subst (λ (m : System). AreDiagnosesUpTo m c.loop-level.level c.in-NoneUpTo.so_far.items) c.requires.same none.2 in
    rw c.deref.ensures.value (rw c.deref-in-NoneUpTo.ensures.value (known_shown first _ c.loop-level.level _ c.in-NoneUpTo.so_far.items c.loop-level.shown.items c.args.system.now c.requires.same looking.asking known c.loop-level.invariant.shown))

pub returns-in_err-shown-in-NoneUpTo : goal.returns-in_err-shown-in-NoneUpTo
returns-in_err-shown-in-NoneUpTo g c =
    let first = g.E.Evaluator.stands c.args.evaluator.now in
    let valid = subst IsValid (sym c.requires.same) c.bridges.ensures.valid in
    let low : c.loop-level.level ≤ length first.system.bridges = omega (arith, last_counted first.system c.args.system.now c.bridges.result.now c.requires.same c.bridges.ensures.value) in
    let none = rw c.in-NoneUpTo.is at (subst (λ (m : System). IsSettling m c.loop-level.level c.in_ok-pairs.field-0) c.loop-level.invariant.looking.asking.rest.system c.in_ok-pairs.ensures.told) in
    let looking = looks_on first (g.E.Evaluator.stands c.loop-level.evaluator) _ c.loop-level.level c.loop-level.candidate valid low c.loop-level.invariant.looking c.in_ok-pairs.ensures.rest c.in_ok-pairs.ensures.done
    c.saturating_add-candidate.result (omega (arith, c.saturating_add-candidate.ensures, none.0)) (none_before first.system c.in-NoneUpTo.bound c.saturating_add-candidate.result (omega (arith, c.saturating_add-candidate.ensures)) none.1) in
    let known = subst (λ (m : System). AreDiagnosesUpTo m c.loop-level.level c.in-NoneUpTo.so_far.items) c.requires.same none.2 in
    let few : AreDiagnosesUpTo c.args.system.now c.loop-level.level c.deref.result.now = rw c.deref.ensures.value known in
    let taken = c.in_err-shown-in-NoneUpTo.ensures first c.loop-level.level looking.asking few in
    searches_cut _ _ _ _ _ c.from_residual-in_err-shown-in-NoneUpTo.ensures.1 taken.stop taken.rest

pub loop-level-preserved : goal.loop-level-preserved
loop-level-preserved g c =
    let first = g.E.Evaluator.stands c.args.evaluator.now in
    let valid = subst IsValid (sym c.requires.same) c.bridges.ensures.valid in
    let low : c.loop-level.level ≤ length first.system.bridges = omega (arith, last_counted first.system c.args.system.now c.bridges.result.now c.requires.same c.bridges.ensures.value) in
    let none = rw c.in-NoneUpTo.is at (subst (λ (m : System). IsSettling m c.loop-level.level c.in_ok-pairs.field-0) c.loop-level.invariant.looking.asking.rest.system c.in_ok-pairs.ensures.told) in
    let looking = looks_on first (g.E.Evaluator.stands c.loop-level.evaluator) _ c.loop-level.level c.loop-level.candidate valid low c.loop-level.invariant.looking c.in_ok-pairs.ensures.rest c.in_ok-pairs.ensures.done
    c.saturating_add-candidate.result (omega (arith, c.saturating_add-candidate.ensures, none.0)) (none_before first.system c.in-NoneUpTo.bound c.saturating_add-candidate.result (omega (arith, c.saturating_add-candidate.ensures)) none.1) in
    let known = subst (λ (m : System). AreDiagnosesUpTo m c.loop-level.level c.in-NoneUpTo.so_far.items) c.requires.same none.2 in
    let few : AreDiagnosesUpTo c.args.system.now c.loop-level.level c.deref.result.now = rw c.deref.ensures.value known in
    let shown = (c.in_ok-shown-in-NoneUpTo.ensures first c.loop-level.level looking.asking few).found in
    record {
      looking = record { asking = shown.1; ahead = looking.ahead; not_yet = looking.not_yet };
      shown = shown.0.shown;
    }

pub returns : goal.returns
returns g c =
    let first = g.E.Evaluator.stands c.args.evaluator.now in
    let valid = subst IsValid (sym c.requires.same) c.bridges.ensures.valid in
    let all = last_counted first.system c.args.system.now c.bridges.result.now c.requires.same c.bridges.ensures.value in
    let past : c.loop-level.level ≡ length c.bridges.result.now + 1 = omega (arith, c.loop-level-test.false) in
    let shown_there = subst (λ (m : System). AllByRecursion (ShowsFirstState m) c.loop-level.shown.items) (sym c.requires.same) c.loop-level.invariant.shown in
    record {
      found = (all_looked first (g.E.Evaluator.stands c.loop-level.evaluator) c.loop-level.level c.loop-level.candidate (length c.bridges.result.now) c.new.result.items valid all past c.new.ensures.items c.loop-level.invariant.looking, shown_there);
      stop = tt;
      rest = c.loop-level.invariant.looking.asking.rest;
    }
