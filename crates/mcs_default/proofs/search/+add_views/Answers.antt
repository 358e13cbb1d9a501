use Rattle.std.proofs.Common.{◌≡◌, ◌∙◌, ◌<◌, ℕ, true, length, map, sym, ap, subst, arith, IfNone, IfSome, Option, Some}
use Rattle.std.specs.Borrow.{Bor}
use Rattle.std.proofs.lemmas.Result.{on_ok_weaker}
use Rattle.mcs_base.proofs.Results.{none_where_never}
use Rattle.mcs_sets.specs.Sets.{has, minus, single, size, Within, IsLeast}
use Rattle.mcs_sets.proofs.Lattice.{in_minus, minus_within, with_within, nothing_missing, within_without}
use Rattle.mcs_system.specs.Seen.{formula_of}
use Rattle.mcs_evidence.specs.Theories.{all_of}
use Rattle.mcs_grounding.specs.Asked.{theory_beliefs, theory_defaults}
use Rattle.mcs_grounding.specs.declared.asked.Theory as theory
use Rattle.mcs_default.specs.Searches.{IsOpenAt}
use Rattle.mcs_default.proofs.SearchLemmas.{open_above, AreAdded, none_added, both_added, left_smaller, left_smaller_out}
use Rattle.std.proofs.lemmas.Bool.{iff_false}
use Rattle.mcs_default.proofs.SameLemmas.{same_items, same_before, same_on, inside_kept}
use Rattle.mcs_default.proofs.search.+add_views.Goals as goal

pub returns-then-not-branch-clause-listed : goal.returns-then-not-branch-clause-listed
returns-then-not-branch-clause-listed t c items parts =
    none_added items (map (λ b. formula_of b.now) c.args.search.now.theory.now.asked.now.beliefs.now) c.args.node.taken.set c.args.node.all.set c.args.views.now.items (λ set below generates.
    iff_false (c.in_ok-are_open.ensures.exact items parts) c.if-not-branch.true (λ k less. open_above items c.args.node.taken.set c.args.node.all.set set below generates k))

pub returns-in_default-clause-listed : goal.returns-in_default-clause-listed
returns-in_default-clause-listed t c =
    let taken = c.args.node.taken.set in
    let kept = c.in_ok-are_open.ensures.kept in
    let none : c.minus.result ≡ 0 = subst (λ (o : Option ℕ). IfNone o (c.minus.result ≡ 0)) (none_where_never c.first.result c.in_default.not-Some) c.first.ensures.empty in
    let same : taken ≡ c.args.node.all.set = nothing_missing taken c.args.node.all.set c.requires.within (sym c.minus.ensures ∙ none) in
    on_ok_weaker c.add_view.result (λ listed items parts.
    (let stays = subst (λ (s : ℕ). (k : ℕ) → k < length c.args.search.now.theory.now.defaults.now → IsOpenAt items taken s k) (sym same) ((c.in_ok-are_open.ensures.exact items parts).0 c.if-not-branch.false) in
    let now = subst (λ (b : Bor theory.Theory). Within taken (all_of (theory_defaults b.now)) → ((k : ℕ) → k < length b.now.defaults.now → IsOpenAt items taken taken k) → AreAdded items (theory_beliefs b.now) taken taken c.args.views.now.items c.add_view.new.views.items) kept.0
    (listed items (same_items items kept parts)) in
    subst (λ (s : ℕ). AreAdded items (theory_beliefs c.args.search.now.theory.now) taken s c.args.views.now.items c.add_view.new.views.items) same
    (now (λ k member. c.requires.inside k (c.requires.within k member)) stays))) c.add_view.ensures.listed

-- the default that is decided next is in all, and not taken
next : (taken all k : ℕ) (rest : ℕ) (o : Option ℕ) → rest ≡ minus all taken → o ≡ Some k → IfSome o (IsLeast rest) → has (minus all taken) k ≡ true
next taken all k rest o is found least = sym (ap (λ (s : ℕ). has s k) is) ∙ (subst (λ (p : Option ℕ). IfSome p (IsLeast rest)) found least).in_set

pub add_views-requires : goal.add_views-requires
add_views-requires t c =
    let taken = c.args.node.taken.set in
    let all = c.args.node.all.set in
    let k = c.in-Some.index in
    let kept = c.in_ok-are_open.ensures.kept in
    let left = next taken all k c.minus.result c.first.result c.minus.ensures c.in-Some.is c.first.ensures.least in
    let is = c.known_of-fewer.ensures.set ∙ c.without.ensures in
    let fewer : size (minus c.known_of-fewer.result.set taken) < size (minus all taken) = subst (λ (s : ℕ). size (minus s taken) < size (minus all taken)) (sym is) (left_smaller_out all taken k left) in (
      omega (arith, fewer, c.decreases),
      record {
        within = subst (λ (s : ℕ). Within taken s) (sym is) (within_without taken all k c.requires.within (in_minus all taken k left).1);
        inside = inside_kept kept c.known_of-fewer.result.set (λ j member. c.requires.inside j (minus_within all (single k) j (sym (ap (λ (s : ℕ). has s j) is) ∙ member)));
        taken = λ items parts. c.requires.taken items (same_before items kept parts);
        all = c.known_of-fewer.ensures.right;
      },
    )

pub add_views-requires-2 : goal.add_views-requires-2
add_views-requires-2 t c =
    let taken = c.args.node.taken.set in
    let all = c.args.node.all.set in
    let k = c.in-Some.index in
    let kept = same_on c.in_ok-add_views.ensures.kept c.in_ok-are_open.ensures.kept in
    let left = next taken all k c.minus.result c.first.result c.minus.ensures c.in-Some.is c.first.ensures.least in
    let is = c.known_of-more.ensures.set ∙ c.with.ensures in
    let fewer : size (minus all c.known_of-more.result.set) < size (minus all taken) = subst (λ (s : ℕ). size (minus all s) < size (minus all taken)) (sym is) (left_smaller all taken k left) in (
      omega (arith, fewer, c.decreases),
      record {
        within = subst (λ (s : ℕ). Within s all) (sym is) (with_within taken k all c.requires.within (in_minus all taken k left).0);
        inside = inside_kept kept all c.requires.inside;
        taken = c.known_of-more.ensures.right;
        all = λ items parts. c.requires.all items (same_before items kept parts);
      },
    )

pub returns-clause-listed : goal.returns-clause-listed
returns-clause-listed t c =
    let taken = c.args.node.taken.set in
    let all = c.args.node.all.set in
    let k = c.in-Some.index in
    let opened = c.in_ok-are_open.ensures.kept in
    let after = same_on c.in_ok-add_views.ensures.kept opened in
    on_ok_weaker c.add_views-2.result (λ listed items parts.
    (both_added items (theory_beliefs c.args.search.now.theory.now) taken all k c.args.views.now.items c.add_views.new.views.items c.add_views-2.new.views.items
    (subst (λ (s : ℕ). AreAdded items (theory_beliefs c.args.search.now.theory.now) taken s c.args.views.now.items c.add_views.new.views.items) (c.known_of-fewer.ensures.set ∙ c.without.ensures)
    (subst (λ (b : Bor theory.Theory). AreAdded items (theory_beliefs b.now) taken c.known_of-fewer.result.set c.args.views.now.items c.add_views.new.views.items) opened.0 (c.in_ok-add_views.ensures.listed items (same_items items opened parts))))
    (subst (λ (s : ℕ). AreAdded items (theory_beliefs c.args.search.now.theory.now) s all c.add_views.new.views.items c.add_views-2.new.views.items) (c.known_of-more.ensures.set ∙ c.with.ensures)
    (subst (λ (b : Bor theory.Theory). AreAdded items (theory_beliefs b.now) c.known_of-more.result.set all c.add_views.new.views.items c.add_views-2.new.views.items) after.0 (listed items (same_items items after parts)))))) c.add_views-2.ensures.listed
