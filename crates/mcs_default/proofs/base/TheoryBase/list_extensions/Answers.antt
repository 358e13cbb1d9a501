use Rattle.std.proofs.Common.{◌≡◌, ◌∙◌, ◌++◌, List, map, sym, ap, subst}
use Rattle.mcs_sets.specs.Orders.{StateBefore}
use Rattle.mcs_base.specs.Listings.{IsListing}
use Rattle.mcs_system.specs.Plain.{Formula, Item, Fact, DefaultTheory}
use Rattle.mcs_system.specs.Logic.{with_heads}
use Rattle.mcs_system.specs.Views.{IsAcceptedView}
use Rattle.mcs_system.specs.Seen.{formula_of, item_of}
use Rattle.mcs_cnf.specs.ClauseLists.{AreOver}
use Rattle.mcs_classical.specs.Assumptions.{assumed}
use Rattle.mcs_default.specs.Searches.{AreRightFindings, IsLower}
use Rattle.mcs_classical.proofs.ConsequenceLemmas.{assumed_over}
use Rattle.mcs_default.proofs.KeptLemmas.{base_same}
use Rattle.mcs_default.proofs.base.TheoryBase.list_extensions.Goals as goal

pub list_with-requires-clause-added : goal.list_with-requires-clause-added
list_with-requires-clause-added c =
    let heads : map (λ f. formula_of f.now) c.deref-2.result.now ≡ assumed c.args.set c.args.given.now.assumptions.now = ap (map (λ f. formula_of f.now)) c.deref-2.ensures.value ∙ c.in_ok-heads.ensures in
    subst (AreOver c.args.given.now.asked.now.atoms.now) (sym heads) (assumed_over c.args.given.now.asked.now.atoms.now c.args.set c.args.given.now.assumptions.now c.args.given.now.over)

pub list_with-requires-clause-facts : goal.list_with-requires-clause-facts
list_with-requires-clause-facts c = c.select.ensures.facts ∙ c.requires.base.facts

pub list_with-requires-clause-right : goal.list_with-requires-clause-right
list_with-requires-clause-right c =
    let items : List Item = map item_of c.args.items.now in
    let heads : map (λ f. formula_of f.now) c.deref-2.result.now ≡ assumed c.args.set c.args.given.now.assumptions.now = ap (map (λ f. formula_of f.now)) c.deref-2.ensures.value ∙ c.in_ok-heads.ensures in
    subst (λ (hs : List Formula). AreRightFindings c.args.given.now.asked.now.atoms.now (items ++ map Fact hs) c.select.new.self.findings) (sym heads)
    (c.in_ok-selected.ensures.right c.args.given.now.asked.now.atoms.now items c.args.given.now.assumptions.now c.requires.base
    (subst (λ (hs : List Formula). IsLower (items ++ map Fact hs) c.in_ok-said.said) (ap (map (λ f. formula_of f.now)) c.deref.ensures.value ∙ c.in_ok-heads.ensures) c.in_ok-said.ensures))

pub returns-in_err-selected-clause-base : goal.returns-in_err-selected-clause-base
returns-in_err-selected-clause-base c =
    base_same c.args.given.now.asked.now.atoms.now (map item_of c.args.items.now) c.args.given.now.assumptions.now c.args.self.now c.select.new.self c.select.ensures.facts c.select.ensures.lower c.select.ensures.upper c.select.ensures.conflicts c.requires.base

pub returns-in_err-views-clause-base : goal.returns-in_err-views-clause-base
returns-in_err-views-clause-base c =
    let b = c.select.new.self in
    base_same c.args.given.now.asked.now.atoms.now (map item_of c.args.items.now) c.args.given.now.assumptions.now c.args.self.now (record { findings = c.list_with.new.findings; lower = b.lower; upper = b.upper; conflicts = b.conflicts })
    (c.list_with.ensures.kept ∙ c.select.ensures.facts) c.select.ensures.lower c.select.ensures.upper c.select.ensures.conflicts c.requires.base

pub returns-in_err-keep-clause-base : goal.returns-in_err-keep-clause-base
returns-in_err-keep-clause-base c =
    let b = c.select.new.self in
    let items : List Item = map item_of c.args.items.now in
    let heads : map (λ f. formula_of f.now) c.deref-2.result.now ≡ assumed c.args.set c.args.given.now.assumptions.now = ap (map (λ f. formula_of f.now)) c.deref-2.ensures.value ∙ c.in_ok-heads.ensures in
    c.keep.ensures items
    (base_same c.args.given.now.asked.now.atoms.now items c.args.given.now.assumptions.now c.args.self.now (record { findings = c.list_with.new.findings; lower = b.lower; upper = b.upper; conflicts = b.conflicts })
    (c.list_with.ensures.kept ∙ c.select.ensures.facts) c.select.ensures.lower c.select.ensures.upper c.select.ensures.conflicts c.requires.base)
    (subst (λ (hs : List Formula). AreRightFindings c.args.given.now.asked.now.atoms.now (items ++ map Fact hs) c.list_with.new.findings) heads c.in_ok-views.ensures.right)

pub returns-clause-base : goal.returns-clause-base
returns-clause-base c =
    let b = c.select.new.self in
    let items : List Item = map item_of c.args.items.now in
    let heads : map (λ f. formula_of f.now) c.deref-2.result.now ≡ assumed c.args.set c.args.given.now.assumptions.now = ap (map (λ f. formula_of f.now)) c.deref-2.ensures.value ∙ c.in_ok-heads.ensures in
    c.keep.ensures items
    (base_same c.args.given.now.asked.now.atoms.now items c.args.given.now.assumptions.now c.args.self.now (record { findings = c.list_with.new.findings; lower = b.lower; upper = b.upper; conflicts = b.conflicts })
    (c.list_with.ensures.kept ∙ c.select.ensures.facts) c.select.ensures.lower c.select.ensures.upper c.select.ensures.conflicts c.requires.base)
    (subst (λ (hs : List Formula). AreRightFindings c.args.given.now.asked.now.atoms.now (items ++ map Fact hs) c.list_with.new.findings) heads c.in_ok-views.ensures.right)

pub returns-clause-exact : goal.returns-clause-exact
returns-clause-exact c =
    let items : List Item = map item_of c.args.items.now in
    let beliefs : List Formula = map (λ b. formula_of b.now) c.args.given.now.asked.now.beliefs.now in
    let heads : map (λ f. formula_of f.now) c.deref-2.result.now ≡ assumed c.args.set c.args.given.now.assumptions.now = ap (map (λ f. formula_of f.now)) c.deref-2.ensures.value ∙ c.in_ok-heads.ensures in
    subst (λ (hs : List Formula). IsListing (IsAcceptedView (with_heads (DefaultTheory items) hs) beliefs) StateBefore c.in_ok-views.views.items) heads c.in_ok-views.ensures.exact
