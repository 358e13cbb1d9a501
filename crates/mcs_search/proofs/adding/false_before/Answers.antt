use Rattle.std.proofs.Common.{◌≡◌, ℤ, List, neg_ℤ, unsigned_abs, ap, ◌∙◌, sym, subst, arith, w64, to_z, of_z, to_z-of_z}
use Rattle.mcs_engine.specs.declared.trail.Entry.{Entry}
use Rattle.mcs_engine.specs.Trails.{IsOn}
use Rattle.mcs_engine.proofs.KeptLemmas.{open-not_below, past-not_below}
use Rattle.mcs_search.proofs.adding.false_before.Goals.{then-variable-eq0-via-then-variable-eq0, then-variable-eq0-via-else-variable-eq0+then-variable-len, then-variable-eq0-via-else-variable-eq0+else-variable-len+then-not-is_false}
use Rattle.mcs_search.proofs.adding.false_before.Goals as goal

pub returns-then-variable-eq0-clause-fresh : goal.returns-then-variable-eq0-clause-fresh
returns-then-variable-eq0-clause-fresh c = λ literal.
    let es : List Entry = c.args.trail.now.entries.items in
    let read : to_z w64 (of_z w64 c.args.literal) ≡ c.args.literal = to_z-of_z c.ranges.literal in
    let size : c.unsigned_abs-variable.result ≡ unsigned_abs c.args.literal = c.unsigned_abs-variable.ensures.value ∙ ap unsigned_abs read in
    elim c.then-variable-eq0.branch [
      | then-variable-eq0-via-then-variable-eq0 w ↦ λ below. let some = literal.0 in omega (arith, size)
      | then-variable-eq0-via-else-variable-eq0+then-variable-len w ↦ past-not_below es c.args.trail.now.positions.items c.args.place c.args.literal c.args.trail.now.placed literal (let ok = c.args.trail.now.positions.ok.0 in omega (arith, size))
      | then-variable-eq0-via-else-variable-eq0+else-variable-len+then-not-is_false w ↦ open-not_below es c.args.place c.args.literal literal (λ on.
          let is = w.is_false.ensures.1 (subst (λ (l : ℤ). IsOn es (neg_ℤ l)) (sym read) on) in
          let none = w.if-not-is_false.true in
          grind arith)
    ]
