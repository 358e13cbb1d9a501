use Rattle.std.proofs.Common.{◌≡◌, ◌∙◌, ◌<◌, ℕ, List, length, get_or, slice_get, Some, inl, inr, refl, sym, ap, subst, arith, true≢false}
use Rattle.std.proofs.lemmas.Result.{IfOk-weaker}
use Rattle.std.proofs.lemmas.List.{length-map}
use Rattle.std.proofs.lemmas.Option.{get_or_from_slice_get, slice_get-get_or}
use Rattle.mcs_sets.specs.Sets.{common, members, Within}
use Rattle.mcs_base.proofs.Lists.{slice_get_read_as, slice_get-map_some}
use Rattle.mcs_system.specs.Plain.{Program}
use Rattle.mcs_system.specs.Atoms.{atoms_of}
use Rattle.mcs_system.specs.Imports.{rules_into}
use Rattle.mcs_system.specs.Logic.{true_names}
use Rattle.mcs_system.specs.Seen.{kb_of, context_of}
use Rattle.mcs_system.specs.Systems.{variables_of, heads_into}
use Rattle.mcs_cnf.proofs.OverLemmas.{context_atoms}
use Rattle.mcs_asking.proofs.AskingLemmas.{context_there}
use Rattle.mcs_grounded.specs.Derivations.{Derives, atoms_at}
use Rattle.mcs_grounded.specs.Parts.{cones_of, IsLeastModel, IsProgramContext, numbers_at, places_at}
use Rattle.mcs_grounded.specs.declared.cone.Cone.{Cone}
use Rattle.mcs_grounded.specs.declared.placed.NormalRule.{NormalRule}
use Rattle.mcs_grounded.proofs.Cones.{cone_derives}
use Rattle.mcs_grounded.proofs.Gathering.{heads_placed, reads_are_atoms}
use Rattle.mcs_grounded.proofs.AtPlaces.{AreOfHeads}
use Rattle.mcs_grounded.proofs.Derivers.{classical_derives, program_derives, not_plain, all_found_set}
use Rattle.mcs_grounded.proofs.Telling.{own_is}
use Rattle.mcs_grounded.proofs.derivation.told.Goals as goal

pub bounds-contexts-place : goal.bounds-contexts-place
bounds-contexts-place c = omega (arith, c.requires.context, ap length c.contexts.ensures.value, length-map c.contexts.result.now context_of)

pub bounds-found-place : goal.bounds-found-place
bounds-found-place c = omega (arith, c.requires.context, c.requires.derivation.found.one_each)

-- it is whole
pub returns-then-within-clause-told : goal.returns-then-within-clause-told
returns-then-within-clause-told c = inl (
  subst (λ (x : ℕ). Within x c.args.rules) (own_is c.args.derivation.now c.args.context c.common.result c.rules_of-into.result c.common.ensures c.rules_of-into.ensures) (c.within.ensures.0 c.if-within.true),
  c.common-then-within.ensures ∙ ap (common c.args.derivation.now.state) c.vars_of-variables.ensures,
)

-- or it is not: a classical context tells what follows
pub ask-requires : goal.ask-requires
ask-requires c =
    let m = c.args.derivation.now.system.now in
    let i = c.args.context in
    record {
      classical = (_, context_there m c.contexts.result.now i c.index-contexts-place.result c.contexts.ensures.value c.requires.context, rw c.deref.ensures.value (ap kb_of c.in-Classical.is));
      known = c.requires.derivation.found.own i _ (slice_get-get_or c.args.found.now i c.index-found-place.result (omega (arith, c.requires.context, c.requires.derivation.found.one_each)));
    }

pub returns-in-Classical-clause-found : goal.returns-in-Classical-clause-found
returns-in-Classical-clause-found c = all_found_set c.args.derivation.now.system.now c.args.found.now c.args.context c.ask.new.solver c.requires.derivation.found c.ask.ensures.found

pub returns-in-Classical-clause-told : goal.returns-in-Classical-clause-told
returns-in-Classical-clause-told c =
    let d = c.args.derivation.now in
    let m = d.system.now in
    let i = c.args.context in
    IfOk-weaker c.ask.result _ _ (λ τ h. inr (
      λ whole. true≢false (sym (c.within.ensures.1 (subst (λ (x : ℕ). Within x c.args.rules) (sym (own_is c.args.derivation.now c.args.context c.common.result c.rules_of-into.result c.common.ensures c.rules_of-into.ensures)) whole)) ∙ c.if-within.false),
      λ e is. classical_derives m i c.args.rules τ (get_or (cones_of d.cones.now) i 0) (get_or c.args.against.now i 0) _
          (_, context_there m c.contexts.result.now i c.index-contexts-place.result c.contexts.ensures.value c.requires.context, ap kb_of c.in-Classical.is) h e is,
    )) c.ask.ensures.told

pub unreachable-requires : goal.unreachable-requires
unreachable-requires c =
    let m = c.args.derivation.now.system.now in
    let i = c.args.context in
    true≢false (sym (c.requires.derivation.set_up.plain i _ (context_there m c.contexts.result.now i c.index-contexts-place.result c.contexts.ensures.value c.requires.context)) ∙ not_plain _ c.in_default.not-Classical c.in_default.not-Program)

-- and a program what is in the least model of its cone
pub returns-in-Program-clause-found : goal.returns-in-Program-clause-found
returns-in-Program-clause-found c = c.requires.derivation.found

pub returns-in-Program-clause-told : goal.returns-in-Program-clause-told
returns-in-Program-clause-told c =
    let d = c.args.derivation.now in
    let m = d.system.now in
    let i = c.args.context in
    let x = c.args.rules in
    let program : IsProgramContext m i = (_, (_, context_there m c.contexts.result.now i c.index-contexts-place.result c.contexts.ensures.value c.requires.context, ap kb_of c.in-Program.is)) in
    let (rules, at) = program in
    let less : i < length d.cones.now = omega (arith, c.requires.context, c.requires.derivation.set_up.cones.one_each) in
    let cone : Cone = get_or d.cones.now i c.index-derivation-place.result in
    let own : slice_get d.cones.now i ≡ Some cone = slice_get-get_or d.cones.now i c.index-derivation-place.result less in
    let places : get_or (cones_of d.cones.now) i 0 ≡ cone.places = get_or_from_slice_get (cones_of d.cones.now) i cone.places 0 (slice_get-map_some (λ (c : Cone). c.places) d.cones.now i cone own) in
    let start : c.places_at-start.result ≡ places_at d.places.now.heads 0 (members (common x (rules_into m i))) =
    c.places_at-start.ensures ∙ ap (places_at d.places.now.heads 0) (c.members.ensures.list ∙ ap members (c.common-in-Program.ensures ∙ ap (common x) c.rules_of-into.ensures)) in
    let told : c.numbers_at.result ≡ numbers_at d.places.now.reads c.least_model-atoms.result 0 (members (variables_of m i)) =
    c.numbers_at.ensures ∙ ap (numbers_at d.places.now.reads c.least_model-atoms.result 0) (c.members-in-Program.ensures.list ∙ ap members c.vars_of-variables.ensures) in
    let heads : AreOfHeads (atoms_of m i) (heads_into m i x) c.places_at-start.result =
    subst (AreOfHeads (atoms_of m i) (heads_into m i x)) (sym start) (heads_placed m i d.places.now.heads c.requires.derivation.set_up.places.heads c.requires.derivation.set_up.places.valid program (context_atoms m i).0 x) in
    let derives : Derives m i (true_names 0 (atoms_of m i) (get_or (cones_of d.cones.now) i 0)) (true_names 0 (atoms_of m i) c.index-against-place.result) (Program rules) x c.numbers_at.result =
    subst (λ (z : ℕ). Derives m i (true_names 0 (atoms_of m i) z) (true_names 0 (atoms_of m i) c.index-against-place.result) (Program rules) x c.numbers_at.result) (sym places)
    (subst (λ (τ : ℕ). Derives m i (true_names 0 (atoms_of m i) cone.places) (true_names 0 (atoms_of m i) c.index-against-place.result) (Program rules) x τ) (sym told)
    (cone_derives m i rules (context_atoms m i).0 d.places.now.reads c.requires.derivation.set_up.places.reads (reads_are_atoms m i c.requires.derivation.set_up.places.valid program) cone ((c.requires.derivation.set_up.cones.own i cone own).of_program rules at)
    c.index-against-place.result x c.places_at-start.result c.least_model-atoms.result heads
    (subst (λ (ns : List NormalRule). IsLeastModel ns c.index-against-place.result c.places_at-start.result c.least_model-atoms.result) c.deref-in-Program.ensures.value c.least_model-atoms.ensures))) in
    inr (
      λ whole. true≢false (sym (c.within.ensures.1 (subst (λ (x : ℕ). Within x c.args.rules) (sym (own_is d i c.common.result c.rules_of-into.result c.common.ensures c.rules_of-into.ensures)) whole)) ∙ c.if-within.false),
      λ e is. subst (λ (x : ℕ). Derives m i (atoms_at m (cones_of d.cones.now) i) (true_names 0 (atoms_of m i) x) e.kb c.args.rules c.numbers_at.result)
          (sym (get_or_from_slice_get c.args.against.now i c.index-against-place.result 0 (slice_get_read_as c.args.against.now c.args.against.now i c.index-against-place.result refl (omega (arith, c.requires.context, c.requires.against)) c.index-against-place.is)))
          (program_derives m i c.args.rules c.numbers_at.result c.index-against-place.result (get_or (cones_of d.cones.now) i 0) rules at derives e is),
    )
