use Rattle.std.proofs.Common.{◌≡◌, ◌≢◌, ◌-◌, ◌<◌, ◌∙◌, ℕ, List, Err, Ok, ap, arith, get_or, length, slice_get, subst, sym}
use Rattle.std.proofs.lemmas.List.Sorted.{searched}
use Rattle.mcs_engine.specs.Chains.{AreSpaced, spread}
use Rattle.mcs_engine.proofs.ChainLemmas.{learnt-sized, learnt-spaced, length-spread, off-between, spaced-rise, spread-at, spread-off}
use Rattle.mcs_engine.proofs.chains.Chains.row.Goals as goal

pub row-requires : goal.row-requires
row-requires c =
    let s = c.self.inside in
    let xs = c.deref.result.now in
    let spaced : AreSpaced xs = subst AreSpaced (sym c.deref.ensures.value) (learnt-spaced 0 s.count s.learnt.items s.rows c.self.invariant.1) in
    let (within, is) = searched xs c.args.index (Ok c.in-Ok.place) c.in-Ok.ensures.position (spaced-rise xs spaced) in
    omega (arith, learnt-sized 0 s.count s.learnt.items s.rows c.self.invariant.1, ap length c.deref.ensures.value)

pub returns-in-Ok : goal.returns-in-Ok
returns-in-Ok c =
    let s = c.self.inside in
    let xs = c.deref.result.now in
    let spaced : AreSpaced xs = subst AreSpaced (sym c.deref.ensures.value) (learnt-spaced 0 s.count s.learnt.items s.rows c.self.invariant.1) in
    let (within, is) = searched xs c.args.index (Ok c.in-Ok.place) c.in-Ok.ensures.position (spaced-rise xs spaced) in
    let place : c.args.index ≡ get_or s.learnt.items c.in-Ok.place 0 - 0 = omega (arith, ap (λ (ys : List ℕ). get_or ys c.in-Ok.place 0) c.deref.ensures.value) in
    ap (λ rows. slice_get rows c.args.index) (sym c.self.view_is) ∙ ap (slice_get (spread 0 s.count s.learnt.items s.rows)) place
    ∙ spread-at 0 s.count s.learnt.items s.rows c.in-Ok.place c.row.result.now c.self.invariant.1 c.row.ensures

pub returns-in-Err : goal.returns-in-Err
returns-in-Err c =
    let s = c.self.inside in
    let xs = c.deref.result.now in
    let spaced : AreSpaced xs = subst AreSpaced (sym c.deref.ensures.value) (learnt-spaced 0 s.count s.learnt.items s.rows c.self.invariant.1) in
    let (within, before, after) = searched xs c.args.index (Err c.in-Err.field-0) c.in-Err.ensures.position (spaced-rise xs spaced) in
    let off = subst (λ (ys : List ℕ). (j : ℕ) → j < length ys → get_or ys j 0 ≢ c.args.index) c.deref.ensures.value (off-between xs c.in-Err.field-0 c.args.index before after) in
    let whole : c.args.index ≡ c.args.index - 0 = omega arith in
    ap (λ rows. slice_get rows c.args.index) (sym c.self.view_is) ∙ ap (slice_get (spread 0 s.count s.learnt.items s.rows)) whole
    ∙ spread-off 0 s.count s.learnt.items s.rows c.args.index c.self.invariant.1 (omega arith) (omega (arith, c.requires, length-spread 0 s.count s.learnt.items s.rows c.self.invariant.1, ap length c.self.view_is)) off
