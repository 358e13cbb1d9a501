use Rattle.std.proofs.Common.{◌≡◌, ◌-◌, ◌+◌, ◌∙◌, ℕ, arith, length, subst, sym}
use Rattle.mcs_search.specs.Numbering.{AreChainsMarked, NameBelow}
use Rattle.mcs_search.proofs.NumberingLemmas.{mark-read, marked-kept, named-marked, named-off}
use Rattle.mcs_search.proofs.trace.needed_for.Goals as goal

pub mark-requires : goal.mark-requires
mark-requires c =
    let size : length c.in_ok-needed.needed.items ≡ length c.args.chains.now = (let ok = c.in_ok-needed.needed.ok.0 in omega (arith, c.in_ok-needed.ensures.len, c.len.ensures)) in
    subst (λ (k : ℕ). NameBelow k c.args.last.now) (sym size) c.requires.last

pub loop-index-preserved-then-index : goal.loop-index-preserved-then-index
loop-index-preserved-then-index c =
    let before = c.loop-index.invariant in
    let m = c.mark-then-index.ensures in
    let i : ℕ = c.loop-index.index - 1 in
    let back : c.loop-index.index ≡ i + 1 = omega arith in
    record {
      sized = m.sized ∙ before.sized;
      within = (let w = before.within in omega arith);
      last = marked-kept c.loop-index.needed.items c.mark-then-index.new.needed.items c.args.last.now m.kept before.last;
      closed = named-marked c.args.chains.now c.loop-index.needed.items c.mark-then-index.new.needed.items i c.row.result.now c.requires.chains c.row.ensures m.kept m.only m.marked
          (subst (AreChainsMarked c.args.chains.now c.loop-index.needed.items) back before.closed);
    }

pub loop-index-preserved : goal.loop-index-preserved
loop-index-preserved c =
    let before = c.loop-index.invariant in
    let i : ℕ = c.loop-index.index - 1 in
    let back : c.loop-index.index ≡ i + 1 = omega arith in
    let within = before.within in
    let sized = before.sized in
    record {
      sized = sized;
      within = omega arith;
      last = before.last;
      closed = named-off c.args.chains.now c.loop-index.needed.items i (mark-read c.loop-index.needed.items i c.index.result.now (omega arith) c.index.ensures ∙ c.if-index.false)
          (subst (AreChainsMarked c.args.chains.now c.loop-index.needed.items) back before.closed);
    }

pub returns : goal.returns
returns c =
    let end : c.loop-index.index ≡ 0 = omega arith in
    record {
      sized = c.loop-index.invariant.sized;
      named = c.loop-index.invariant.last;
      closed = subst (AreChainsMarked c.args.chains.now c.loop-index.needed.items) end c.loop-index.invariant.closed;
    }
