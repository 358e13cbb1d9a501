use Rattle.std.proofs.Common.{◌≡◌, ◌∙◌, ◌<◌, ℕ, List, get_or, map, length, sym, ap, subst, arith, Some, slice_get}
use Rattle.std.proofs.lemmas.List.{length-map}
use Rattle.std.proofs.lemmas.Option.{same_Some, slice_get_within, get_or_from_slice_get, slice_get-get_or}
use Rattle.std.proofs.lemmas.Result.{IfOk-weaker}
use Rattle.mcs_base.proofs.Lists.{slice_get-map_some}
use Rattle.mcs_system.specs.Plain.{Program, Context}
use Rattle.mcs_system.specs.Seen.{context_of, kb_of, rule_of}
use Rattle.mcs_system.specs.declared.knowledge.ProgRule as code
use Rattle.mcs_system.specs.Views.{at_places}
use Rattle.mcs_cnf.proofs.OverLemmas.{context_atoms}
use Rattle.mcs_asking.proofs.AskingLemmas.{context_there}
use Rattle.mcs_grounded.specs.Parts.{cones_of, IsProgramAt}
use Rattle.mcs_grounded.proofs.Derivers.{no_program}
use Rattle.mcs_grounded.specs.Views.{AreViewsOf, AreShown}
use Rattle.mcs_grounded.specs.declared.cone.Cone.{Cone}
use Rattle.mcs_grounded.proofs.Gathering.{reads_are_atoms}
use Rattle.mcs_grounded.proofs.Viewing.{are_views}
use Rattle.mcs_grounded.proofs.views.cone_views.Goals as goal

pub shown-requires : goal.shown-requires
shown-requires c = let (rules, at) = c.requires.program in let (e, is, kb) = at in slice_get_within c.args.derivation.now.system.now.contexts c.args.context e is

pub bounds-contexts-context : goal.bounds-contexts-context
bounds-contexts-context c = let (rules, (e, is, kb)) = c.requires.program in
    omega (arith, slice_get_within c.args.derivation.now.system.now.contexts c.args.context e is, ap length c.contexts.ensures.value, length-map c.contexts.result.now context_of)

pub unreachable-requires : goal.unreachable-requires
unreachable-requires c = let (rules, (e, is, kb)) = c.requires.program in
    no_program _ c.in_default.not-Program rules (ap (λ (x : Context). x.kb) (same_Some _ e (sym (context_there c.args.derivation.now.system.now c.contexts.result.now c.args.context c.index-contexts-context.result c.contexts.ensures.value (slice_get_within c.args.derivation.now.system.now.contexts c.args.context e is)) ∙ is)) ∙ kb)

pub answer_views-requires-clause-program : goal.answer_views-requires-clause-program
answer_views-requires-clause-program c = let (rules, (e, is, kb)) = c.requires.program in (_, context_there c.args.derivation.now.system.now c.contexts.result.now c.args.context c.index-contexts-context.result c.contexts.ensures.value (slice_get_within c.args.derivation.now.system.now.contexts c.args.context e is), ap kb_of c.in-Program.is ∙ ap (λ (rs : List code.ProgRule). Program (map rule_of rs)) (sym c.deref.ensures.value))

pub answer_views-requires-clause-cone : goal.answer_views-requires-clause-cone
answer_views-requires-clause-cone c =
    let d = c.args.derivation.now in
    let i = c.args.context in
    let (rules, at) = c.requires.program in
    let (e, is, kb) = at in
    let of_rules : IsProgramAt d.system.now i (map rule_of c.deref.result.now) = (_, context_there c.args.derivation.now.system.now c.contexts.result.now c.args.context c.index-contexts-context.result c.contexts.ensures.value (slice_get_within c.args.derivation.now.system.now.contexts c.args.context e is), ap kb_of c.in-Program.is ∙ ap (λ (rs : List code.ProgRule). Program (map rule_of rs)) (sym c.deref.ensures.value)) in
    let less : i < length d.cones.now = omega (arith, slice_get_within d.system.now.contexts i e is, c.requires.set_up.cones.one_each) in
    (c.requires.set_up.cones.own i _ (slice_get-get_or d.cones.now i c.index-derivation-context.result less)).of_program _ of_rules

pub returns : goal.returns
returns c =
    let d = c.args.derivation.now in
    let m = d.system.now in
    let i = c.args.context in
    let (known, at) = c.requires.program in
    let (e, is, kb) = at in
    let of_rules : IsProgramAt m i (map rule_of c.deref.result.now) = (_, context_there c.args.derivation.now.system.now c.contexts.result.now c.args.context c.index-contexts-context.result c.contexts.ensures.value (slice_get_within c.args.derivation.now.system.now.contexts c.args.context e is), ap kb_of c.in-Program.is ∙ ap (λ (rs : List code.ProgRule). Program (map rule_of rs)) (sym c.deref.ensures.value)) in
    let less : i < length d.cones.now = omega (arith, slice_get_within m.contexts i e is, c.requires.set_up.cones.one_each) in
    let cone : Cone = get_or d.cones.now i c.index-derivation-context.result in
    let own : slice_get d.cones.now i ≡ Some cone = slice_get-get_or d.cones.now i c.index-derivation-context.result less in
    let rules = map rule_of c.deref.result.now in
    let places : get_or (cones_of d.cones.now) i 0 ≡ cone.places = get_or_from_slice_get (cones_of d.cones.now) i cone.places 0 (slice_get-map_some (λ (c : Cone). c.places) d.cones.now i cone own) in
    IfOk-weaker c.shown.result _ _ (λ found h. subst (λ (z : ℕ). AreViewsOf m d.state i z found.items) (sym places)
    (are_views m i rules (context_atoms m i).0 cone ((c.requires.set_up.cones.own i cone own).of_program rules of_rules) d.places.now.reads c.requires.set_up.places.reads (reads_are_atoms m i c.requires.set_up.places.valid c.requires.program)
    d.state of_rules (map (at_places cone.places) c.in_ok-views.views.items) found.items c.in_ok-views.ensures
    (subst (λ (views : List ℕ). AreShown d i (map (at_places cone.places) views) found.items) c.deref-2.ensures.value h))) c.shown.ensures
