use borrow.Author.Count.{below_more}
use Rattle.std.proofs.Common.{◌≡◌, ◌∙◌, ℕ, true, sym, arith, true≢false}
use Rattle.mcs_sets.specs.Sets.{has}
use Rattle.mcs_system.specs.Seen.{default_of}
use Rattle.mcs_default.specs.Searches.{IsUnsupportedAt}
use Rattle.mcs_default.proofs.SearchLemmas.{place_read}
use Rattle.std.proofs.lemmas.Bool.{iff_false}
use Rattle.mcs_default.proofs.SameLemmas.{same_items, same_on}
use Rattle.mcs_default.proofs.nodes.next_supported.Goals.{else-has-via-then-has+in_ok-supports+else-branch, else-has-via-else-has}
use Rattle.mcs_default.proofs.nodes.next_supported.Goals as goal

pub loop-index-preserved : goal.loop-index-preserved
loop-index-preserved c =
    let i = c.loop-index.index in
    let before = c.loop-index.invariant in
    elim c.else-has.branch [
      | else-has-via-then-has+in_ok-supports+else-branch w ↦ rw w.search-is (record {
        kept = same_on w.in_ok-supports.ensures.kept before.kept;
        none = λ items parts.
            (let now = same_items items before.kept parts in
            below_more (λ (k : ℕ). has c.args.left k ≡ true → IsUnsupportedAt items c.args.set k) i (before.none items parts) (λ member d at. iff_false (w.in_ok-supports.ensures.exact items now d at) w.if-branch.false));
      })
      | else-has-via-else-has w ↦ rw w.search-is (record {
        kept = before.kept;
        none = λ items parts. below_more (λ (k : ℕ). has c.args.left k ≡ true → IsUnsupportedAt items c.args.set k) i (before.none items parts) (λ member. absurd (true≢false (sym member ∙ sym c.has.ensures.value ∙ w.if-has.false)));
      })
    ]

pub returns-clause-exact : goal.returns-clause-exact
returns-clause-exact c items parts k member d at =
    let less = place_read items (λ x. default_of x.now) c.args.search.now.theory.now.defaults.now k d parts.0 at in
    c.loop-index.invariant.none items parts k (omega arith) member d at
