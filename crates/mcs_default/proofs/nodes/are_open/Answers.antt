use borrow.Author.Count.{below_more}
use Rattle.std.proofs.Common.{rules, ◌∙◌, sym, arith}
use Rattle.mcs_system.specs.Seen.{default_of}
use Rattle.mcs_default.specs.Searches.{IsOpenAt}
use Rattle.std.proofs.lemmas.Bool.{iff_false}
use Rattle.mcs_base.proofs.Booleans.{true_tells, false_tells}
use Rattle.mcs_default.proofs.SearchLemmas.{there_is}
use Rattle.mcs_default.proofs.SameLemmas.{same_items, same_on}
use Rattle.mcs_default.proofs.nodes.are_open.Goals.{else-not-has-via-then-not-has+in_ok-is_open+else-not-branch, else-not-has-via-else-not-has}
use Rattle.mcs_default.proofs.nodes.are_open.Goals as goal

pub loop-index-preserved : goal.loop-index-preserved
loop-index-preserved c =
    let i = c.loop-index.index in
    let before = c.loop-index.invariant in
    elim c.else-not-has.branch [
      | else-not-has-via-then-not-has+in_ok-is_open+else-not-branch w ↦ rw w.search-is (record {
        kept = same_on w.in_ok-is_open.ensures.kept before.kept;
        each_open = λ items parts.
            (let now = same_items items before.kept parts in
            below_more (IsOpenAt items c.args.node.taken.set c.args.node.all.set) i (before.each_open items parts) ((w.in_ok-is_open.ensures.exact items now).0 w.if-not-branch.false));
      })
      | else-not-has-via-else-not-has w ↦ rw w.search-is (record {
        kept = before.kept;
        each_open = λ items parts. below_more (IsOpenAt items c.args.node.taken.set c.args.node.all.set) i (before.each_open items parts)
            (c.known_open-open.ensures items (c.requires.taken items parts) (c.requires.all items parts) i (sym c.has.ensures.value ∙ w.if-not-has.false));
      })
    ]

pub returns-then-has_below : goal.returns-then-has_below
returns-then-has_below c = record {
  kept = search rules;
  exact = λ items parts. (let found = c.has_below.ensures c.if-has_below.true in
      let there = there_is items (λ x. default_of x.now) c.args.search.now.theory.now.defaults.now found.0 found.1 parts.0 in
      false_tells (λ stays. c.known_closed.ensures items (c.requires.taken items parts) (c.requires.all items parts) found.0 found.2 there.0 there.1 (stays found.0 found.1)));
}

pub returns-then-not-branch : goal.returns-then-not-branch
returns-then-not-branch c = record {
  kept = search rules;
  exact = λ items parts. (let now = same_items items c.loop-index.invariant.kept parts in
      false_tells (λ stays. iff_false (c.in_ok-is_open.ensures.exact items now) c.if-not-branch.true (stays c.loop-index.index c.loop-index-test.true)));
}

pub returns : goal.returns
returns c = record {
  kept = search rules;
  exact = λ items parts. (true_tells (λ k less. c.loop-index.invariant.each_open items parts k (omega arith)));
}
