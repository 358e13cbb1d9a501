use Rattle.std.proofs.Common.{◌≡◌, ◌∙◌, Bor, List, map, sym, ap, subst, IsTrue}
use Rattle.std.proofs.lemmas.Option.{slice_get_within}
use Rattle.std.proofs.lemmas.Result.{IfOk-weaker}
use Rattle.std.specs.List.{AllByRecursion}
use Rattle.mcs_sets.specs.Orders.{StateBefore}
use Rattle.mcs_base.specs.Listings.{IsListing}
use Rattle.mcs_base.proofs.Mapped.{all_from_map}
use Rattle.mcs_system.specs.Plain.{Name, Formula, Atom, Kb, Program}
use Rattle.mcs_system.specs.Atoms.{atoms_of}
use Rattle.mcs_system.specs.Faults.{is_atom, has_twins}
use Rattle.mcs_system.specs.Logic.{is_in, with_heads}
use Rattle.mcs_system.specs.Seen.{formula_of, rule_of}
use Rattle.mcs_system.specs.Systems.{applicable, heads_into}
use Rattle.mcs_system.specs.Views.{IsAcceptedView}
use Rattle.mcs_cnf.specs.ClauseLists.{AreOver}
use Rattle.mcs_cnf.proofs.OverLemmas.{context_atoms}
use Rattle.mcs_evidence.specs.Programs.{AreOverRules, IsInRange}
use Rattle.mcs_asking.specs.Kinds.{AreOfKind, IsOverKb}
use Rattle.mcs_asking.proofs.AnswerLemmas.{names_over}
use Rattle.mcs_asking.proofs.CoverLemmas.{own_over, heads_over}
use Rattle.mcs_asking.proofs.KindLemmas.{heads_of_kind}
use Rattle.mcs_grounded.specs.Views.{names_there}
use Rattle.mcs_grounded.proofs.Viewing.{names_known, sets_of_views}
use Rattle.mcs_grounded.proofs.views.answer_views.Goals as goal

pub atoms_of-atoms-requires : goal.atoms_of-atoms-requires
atoms_of-atoms-requires c = let (d, is, kb) = c.requires.program in slice_get_within c.args.derivation.now.system.now.contexts c.args.context d is

pub names_of-requires : goal.names_of-requires
names_of-requires c =
    let m = c.args.derivation.now.system.now in
    let (d, is, kb) = c.requires.program in
    all_from_map (λ (f : Formula). IsTrue (is_atom f)) (λ f. formula_of f.now) c.deref.result.now
    (subst (AllByRecursion (λ (f : Formula). IsTrue (is_atom f))) (sym (ap (map (λ f. formula_of f.now)) c.deref.ensures.value ∙ c.in_ok-heads.ensures))
    (subst (λ (x : Kb). AreOfKind x (heads_into m c.args.context c.args.derivation.now.goal)) kb (heads_of_kind m c.requires.set_up.cones.valid c.args.context c.args.derivation.now.goal d is)))

pub names_at-requires : goal.names_at-requires
names_at-requires c = subst (λ (ns : List Name). IsInRange ns c.args.cone.now.places) (sym c.atoms_of-atoms.ensures.value) c.requires.cone.in_range

pub list_answer_sets-requires-clause-different : goal.list_answer_sets-requires-clause-different
list_answer_sets-requires-clause-different c = ap has_twins c.atoms_of-atoms.ensures.value ∙ (context_atoms c.args.derivation.now.system.now c.args.context).0

pub list_answer_sets-requires-clause-rules : goal.list_answer_sets-requires-clause-rules
list_answer_sets-requires-clause-rules c =
    let m = c.args.derivation.now.system.now in
    let (d, is, kb) = c.requires.program in
    subst (λ (ns : List Name). AreOverRules ns (map rule_of c.args.rules.now)) (sym c.atoms_of-atoms.ensures.value) (subst (λ (x : Kb). IsOverKb (atoms_of m c.args.context) x) kb (own_over m c.args.context d is))

pub list_answer_sets-requires-clause-added : goal.list_answer_sets-requires-clause-added
list_answer_sets-requires-clause-added c =
    let m = c.args.derivation.now.system.now in
    names_over c.atoms_of-atoms.result.now (map (λ b. b.now) c.deref-2.result.now) (heads_into m c.args.context c.args.derivation.now.goal)
    (ap (λ (ns : List (Bor Name)). map Atom (map (λ b. b.now) ns)) c.deref-2.ensures.value ∙ c.in_ok-facts.ensures ∙ (ap (map (λ f. formula_of f.now)) c.deref.ensures.value ∙ c.in_ok-heads.ensures))
    (subst (λ (ns : List Name). AreOver ns (heads_into m c.args.context c.args.derivation.now.goal)) (sym c.atoms_of-atoms.ensures.value) (heads_over m c.args.context c.args.derivation.now.goal))

pub list_answer_sets-requires-clause-beliefs : goal.list_answer_sets-requires-clause-beliefs
list_answer_sets-requires-clause-beliefs c =
    let all : map (λ b. b.now) c.deref-3.result.now ≡ names_there c.atoms_of-atoms.result.now c.args.cone.now.places = ap (map (λ b. b.now)) c.deref-3.ensures.value ∙ c.in_ok-asked.ensures.names in
    subst (AllByRecursion (λ n. IsTrue (is_in n c.atoms_of-atoms.result.now))) (sym all)
    (names_known c.atoms_of-atoms.result.now c.args.cone.now.places (subst (λ (ns : List Name). IsInRange ns c.args.cone.now.places) (sym c.atoms_of-atoms.ensures.value) c.requires.cone.in_range))

pub returns : goal.returns
returns c =
    let m = c.args.derivation.now.system.now in
    let σ = c.args.derivation.now.state in
    let i = c.args.context in
    let rules = map rule_of c.args.rules.now in
    let cone = c.args.cone.now.places in
    let told : map Atom (map (λ b. b.now) c.deref-2.result.now) ≡ heads_into m i (applicable m σ) =
    ap (λ (ns : List (Bor Name)). map Atom (map (λ b. b.now) ns)) c.deref-2.ensures.value ∙ c.in_ok-facts.ensures ∙ (ap (map (λ f. formula_of f.now)) c.deref.ensures.value ∙ c.in_ok-heads.ensures)
    ∙ ap (heads_into m i) c.args.derivation.now.right in
    let asked : map (λ b. b.now) c.deref-3.result.now ≡ names_there (atoms_of m i) cone = ap (map (λ b. b.now)) c.deref-3.ensures.value ∙ c.in_ok-asked.ensures.names ∙ ap (λ (ns : List Name). names_there ns cone) c.atoms_of-atoms.ensures.value in
    IfOk-weaker c.list_answer_sets.result _ _ (λ views exact. sets_of_views m σ i rules cone views.items
    (subst (λ (ns : List Name). IsListing (IsAcceptedView (with_heads (Program rules) (heads_into m i (applicable m σ))) (map Atom ns)) StateBefore views.items) asked
    (subst (λ (hs : List Formula). IsListing (IsAcceptedView (with_heads (Program rules) hs) (map Atom (map (λ b. b.now) c.deref-3.result.now))) StateBefore views.items) told exact))) c.list_answer_sets.ensures.exact
