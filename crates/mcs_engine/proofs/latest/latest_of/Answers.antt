use Rattle.std.proofs.Common.{◌≡◌, ℕ, ℤ, pos, List, length, get_or, ◌<◌, unsigned_abs, sym, subst, w64, to_z, of_z}
use Rattle.mcs_base.proofs.ListingLemmas.{all_among}
use Rattle.mcs_base.proofs.Among.{among_at}
use Rattle.mcs_trace.proofs.OrderLemmas.{read_literal}
use Rattle.mcs_engine.specs.declared.trail.Entry.{Entry}
use Rattle.mcs_engine.specs.declared.trail.Trail.{Trail}
use Rattle.mcs_engine.specs.Trails.{IsFalse, StandsAt, StandsNowhere}
use Rattle.mcs_engine.proofs.LatestLemmas.{covered-false, false-somewhere, latest-joined, latest-end}
use Rattle.mcs_engine.proofs.TrailLemmas.{off-literal}
use Rattle.mcs_engine.proofs.latest.latest_of.Goals as goal

-- a literal that is false, as it is read
read : (t : Trail) (c : List ℤ) (i : ℕ) → IsFalse t.entries.items c → i < length c → to_z w64 (of_z w64 (get_or c i (pos 0))) ≡ get_or c i (pos 0)
read t c i off less = read_literal (get_or c i (pos 0)) (off-literal t.entries.items t.positions.items (get_or c i (pos 0)) t.placed (off (get_or c i (pos 0)) (among_at c i (pos 0) less)))

pub position-requires : goal.position-requires
position-requires c =
    let lits : List ℤ = c.args.literals.now in
    let x : ℤ = get_or lits c.loop-literal.literal-index (pos 0) in
    let as_read : to_z w64 (of_z w64 x) ≡ x = read c.args.trail.now lits c.loop-literal.literal-index c.requires c.loop-literal-test.true in
    subst (λ (k : ℤ). unsigned_abs k < length c.args.trail.now.positions.items) (sym as_read)
    (all_among (λ (k : ℤ). unsigned_abs k < length c.args.trail.now.positions.items) lits x (covered-false c.args.trail.now.entries.items c.args.trail.now.positions.items lits c.args.trail.now.placed c.requires) (among_at lits c.loop-literal.literal-index (pos 0) c.loop-literal-test.true))

pub unreachable-requires : goal.unreachable-requires
unreachable-requires c =
    let lits : List ℤ = c.args.literals.now in
    let x : ℤ = get_or lits c.loop-literal.literal-index (pos 0) in
    let as_read : to_z w64 (of_z w64 x) ≡ x = read c.args.trail.now lits c.loop-literal.literal-index c.requires c.loop-literal-test.true in
    false-somewhere c.args.trail.now.entries.items x (c.requires x (among_at lits c.loop-literal.literal-index (pos 0) c.loop-literal-test.true))
    (subst (λ (k : ℤ). StandsNowhere c.args.trail.now.entries.items (unsigned_abs k)) as_read c.in_default.ensures)

pub loop-literal-preserved : goal.loop-literal-preserved
loop-literal-preserved c =
    let lits : List ℤ = c.args.literals.now in
    let es : List Entry = c.args.trail.now.entries.items in
    let ps : List ℕ = c.args.trail.now.positions.items in
    let i : ℕ = c.loop-literal.literal-index in
    let x : ℤ = get_or lits i (pos 0) in
    let as_read : to_z w64 (of_z w64 x) ≡ x = read c.args.trail.now lits i c.requires c.loop-literal-test.true in
    let stands : StandsAt es (unsigned_abs x) c.in-Some.place = subst (λ (k : ℤ). StandsAt es (unsigned_abs k) c.in-Some.place) as_read c.in-Some.ensures in
    latest-joined es ps lits i c.in-Some.place c.args.trail.now.placed c.requires c.loop-literal-test.true stands c.loop-literal.found c.joined.result c.joined.ensures c.loop-literal.invariant

pub returns : goal.returns
returns c = latest-end c.args.trail.now.entries.items c.args.literals.now c.loop-literal.literal-index c.loop-literal.found c.loop-literal-test.false c.loop-literal.invariant
