use Rattle.std.proofs.Common.{◌≡◌, ◌∙◌, ◌++◌, ℕ, List, length, map, take, refl, sym, ap, subst, arith}
use Rattle.std.proofs.lemmas.Result.{IfOk-weaker}
use Rattle.std.proofs.lemmas.List.{length-map}
use Rattle.std.specs.List.{AllByRecursion}
use Rattle.mcs_base.proofs.Results.{on_ok}
use Rattle.mcs_system.specs.Plain.{Default, Formula, Item, Fact}
use Rattle.mcs_system.specs.Seen.{default_of, formula_of, item_of}
use Rattle.mcs_trace.specs.Clauses.{ClauseList, IsWithin}
use Rattle.mcs_cnf.proofs.GrowingLemmas.{room_known, cut_fewer, cut_within, cut_back, list_of}
use Rattle.mcs_evidence.specs.Defaults.{facts_of, defaults_of}
use Rattle.mcs_evidence.specs.Theories.{AreOverDefaults}
use Rattle.mcs_evidence.proofs.TheoryLemmas.{over_defaults}
use Rattle.mcs_grounding.specs.Theories.{AreParts}
use Rattle.mcs_default.proofs.KeptLemmas.{parts_with, ready_from}
use Rattle.mcs_default.proofs.listing.list_with.Goals as goal

pub add_formulas-requires-clause-room : goal.add_formulas-requires-clause-room
add_formulas-requires-clause-room c = room_known c.args.given.now.asked.now.atoms.now c.args.findings.now.facts (facts_of (map item_of c.args.items.now)) c.requires.facts

pub invariant_of-theory : goal.invariant_of-theory
invariant_of-theory c = record {
  different = c.args.given.now.different;
  few_defaults = omega (arith, ap length c.deref.ensures.value, length-map c.in_ok-defaults.defaults.items (λ d. default_of d.now), ap length c.in_ok-defaults.ensures, c.requires.few_defaults);
  over = subst (AreOverDefaults c.args.given.now.asked.now.atoms.now) (sym (ap (map (λ d. default_of d.now)) c.deref.ensures.value ∙ c.in_ok-defaults.ensures)) (over_defaults c.args.given.now.asked.now.atoms.now (map item_of c.args.items.now) c.requires.items);
}

pub list_lent-views-requires : goal.list_lent-views-requires
list_lent-views-requires c =
    let names = c.args.given.now.asked.now.atoms.now in
    let items : List Item = map item_of c.args.items.now in
    let fs : List Formula = map (λ f. formula_of f.now) c.args.added.now in
    let ds : List Default = map (λ d. default_of d.now) c.deref.result.now in
    let f = c.args.findings.now in
    let new : ClauseList = c.add_formulas.new.known in
    let same : ds ≡ defaults_of items = ap (map (λ d. default_of d.now)) c.deref.ensures.value ∙ c.in_ok-defaults.ensures in
    let parts = parts_with names items fs ds f.facts new c.requires.items c.requires.added same c.requires.facts c.in_ok-add_formulas.ensures.ok in
    record {
      ready = ready_from names ds (record { facts = new; lower = f.lower; upper = f.upper; conflicts = f.conflicts }) (items ++ map Fact fs)
          (room_known names new (facts_of (items ++ map Fact fs)) parts.1.0) parts c.requires.right;
    }

pub cut-requires-clause-fewer : goal.cut-requires-clause-fewer
cut-requires-clause-fewer c =
    cut_fewer c.args.given.now.asked.now.atoms.now c.args.findings.now.facts c.add_formulas.new.known (map (λ f. formula_of f.now) c.args.added.now, c.in_ok-add_formulas.ensures.ok) c.list_lent-views.new.findings.facts c.vars-vars.result c.vars-vars.ensures.value c.list_lent-views.ensures.kept

pub cut-requires-clause-within : goal.cut-requires-clause-within
cut-requires-clause-within c =
    let known : ClauseList = c.args.findings.now.facts in
    subst (λ (k : ℕ). AllByRecursion (IsWithin c.vars-vars.result) (take k c.list_lent-views.new.findings.facts.clauses)) (sym c.count-count.ensures)
    (cut_within c.args.given.now.asked.now.atoms.now known c.add_formulas.new.known (map (λ f. formula_of f.now) c.args.added.now, c.in_ok-add_formulas.ensures.ok) c.list_lent-views.new.findings.facts c.vars-vars.result known.clauses c.vars-vars.ensures.value refl c.vars-vars.ensures.kept c.list_lent-views.ensures.kept)

pub returns-clause-kept : goal.returns-clause-kept
returns-clause-kept c =
    let known : ClauseList = c.args.findings.now.facts in
    let asked : ClauseList = c.list_lent-views.new.findings.facts in
    cut_back c.args.given.now.asked.now.atoms.now known c.add_formulas.new.known (map (λ f. formula_of f.now) c.args.added.now, c.in_ok-add_formulas.ensures.ok) asked c.cut.new.self c.vars-vars.result known.clauses c.vars-vars.ensures.value refl c.list_lent-views.ensures.kept
    (c.cut.ensures ∙ ap (λ (k : ℕ). list_of c.vars-vars.result (take k asked.clauses)) c.count-count.ensures)

pub returns-clause-right : goal.returns-clause-right
returns-clause-right c =
    let names = c.args.given.now.asked.now.atoms.now in
    let items : List Item = map item_of c.args.items.now in
    let fs : List Formula = map (λ f. formula_of f.now) c.args.added.now in
    let ds : List Default = map (λ d. default_of d.now) c.deref.result.now in
    let same : ds ≡ defaults_of items = ap (map (λ d. default_of d.now)) c.deref.ensures.value ∙ c.in_ok-defaults.ensures in
    let parts = parts_with names items fs ds c.args.findings.now.facts c.add_formulas.new.known c.requires.items c.requires.added same c.requires.facts c.in_ok-add_formulas.ensures.ok in
    on_ok c.list_lent-views.result (c.list_lent-views.ensures.ready.right (items ++ map Fact fs) (subst (AreParts names (items ++ map Fact fs) ds) (sym c.list_lent-views.ensures.kept) parts))

pub returns-clause-exact : goal.returns-clause-exact
returns-clause-exact c =
    let names = c.args.given.now.asked.now.atoms.now in
    let items : List Item = map item_of c.args.items.now in
    let fs : List Formula = map (λ f. formula_of f.now) c.args.added.now in
    let ds : List Default = map (λ d. default_of d.now) c.deref.result.now in
    let same : ds ≡ defaults_of items = ap (map (λ d. default_of d.now)) c.deref.ensures.value ∙ c.in_ok-defaults.ensures in
    let parts = parts_with names items fs ds c.args.findings.now.facts c.add_formulas.new.known c.requires.items c.requires.added same c.requires.facts c.in_ok-add_formulas.ensures.ok in
    IfOk-weaker c.list_lent-views.result _ _ (λ views listed. listed (items ++ map Fact fs) parts) c.list_lent-views.ensures.exact
