use Rattle.std.proofs.Common.{◌≡◌, ◌∙◌, ◌<◌, ◌^◌, List, length, sym, ap, subst, arith}
use Rattle.std.specs.Borrow.{Bor}
use Rattle.std.proofs.lemmas.List.{length-map}
use Rattle.mcs_sets.proofs.Lattice.{below_from_within}
use Rattle.mcs_system.specs.Plain.{Formula, Default}
use Rattle.mcs_system.specs.Logic.{Theory}
use Rattle.mcs_system.specs.Views.{Shows}
use Rattle.mcs_system.specs.Seen.{default_of}
use Rattle.mcs_evidence.specs.Defaults.{defaults_of, generated}
use Rattle.mcs_grounding.specs.Asked.{theory_beliefs, theory_defaults}
use Rattle.mcs_grounding.specs.declared.asked.Theory as theory
use Rattle.mcs_default.proofs.SearchLemmas.{leaf_generates, none_added, one_added, only_itself}
use Rattle.std.proofs.lemmas.Bool.{iff_false}
use Rattle.mcs_default.proofs.SameLemmas.{same_items}
use Rattle.mcs_default.proofs.search.add_view.Goals as goal

pub returns-in_ok-push-clause-listed : goal.returns-in_ok-push-clause-listed
returns-in_ok-push-clause-listed c items parts within stays =
    let ds : List Default = theory_defaults c.args.search.now.theory.now in
    let beliefs : List Formula = theory_beliefs c.args.search.now.theory.now in
    let set = c.args.set in
    let kept = c.in_ok-is_grounded.ensures.kept in
    let small : set < 2 ^ length (defaults_of items) = subst (λ (xs : List Default). set < 2 ^ length xs) parts.0 (below_from_within set (length ds) within) in
    let few : length (defaults_of items) ≡ length c.args.search.now.theory.now.defaults.now = sym (ap length parts.0) ∙ length-map c.args.search.now.theory.now.defaults.now (λ d. default_of d.now) in
    let generates = leaf_generates items set small (λ k less. stays k (omega arith)) ((c.in_ok-is_grounded.ensures.exact items parts).0 c.if-branch.true) in
    let shown = subst (λ (b : Bor theory.Theory). Shows (Theory (generated items set)) (theory_beliefs b.now) c.in_ok-view_of.field-0) kept.0 (c.in_ok-view_of.ensures.shown items (same_items items kept parts)) in
    one_added items beliefs set c.in_ok-view_of.field-0 c.args.views.now.items c.push.new.self.items generates shown c.in_ok-push.ensures.items

pub returns-else-branch-clause-listed : goal.returns-else-branch-clause-listed
returns-else-branch-clause-listed c items parts within stays =
    let set = c.args.set in
    let never = iff_false (c.in_ok-is_grounded.ensures.exact items parts) c.if-branch.false in
    none_added items (theory_beliefs c.args.search.now.theory.now) set set c.args.views.now.items (λ other below generates. never (only_itself items set other below generates).grounded)
