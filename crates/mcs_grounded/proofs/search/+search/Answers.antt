use Rattle.std.proofs.Common.{◌<◌, ℕ, List, not, sym, ap, subst, ◌∙◌, ◌∷◌, [], inl, inr, take, arith, true≢false}
use Rattle.std.specs.Prelude.{IfNone, IfSome, Option}
use Rattle.std.proofs.lemmas.Bool.{eqb-true, eq-eqb}
use Rattle.std.proofs.lemmas.List.{take_all}
use Rattle.mcs_base.specs.Listings.{IsAmong}
use Rattle.mcs_base.proofs.Among.{among_either}
use Rattle.mcs_grounded.specs.Parts.{cones_of}
use Rattle.mcs_base.proofs.Results.{none_where_never}
use Rattle.mcs_system.proofs.ValidLemmas.{few_contexts}
use Rattle.mcs_grounded.specs.Searches.{IsAnswer, IsOpen, IsToldAt, NoneIsGrounded, NoneIsOpen, open_contexts}
use Rattle.mcs_grounded.specs.declared.bounds.Bounds.{Bounds}
use Rattle.mcs_grounded.proofs.Loops.{next_of, own_of}
use Rattle.mcs_grounded.proofs.Candidates.{have_cones, settled_yes, settled_known, settled_no, told_bounds, told_candidates, fewer_open, none_of_views}
use Rattle.mcs_grounded.proofs.search.+search.Goals as goal

pub cone_views-requires-clause-set_up : goal.cone_views-requires-clause-set_up
cone_views-requires-clause-set_up t c = c.requires.derivation.set_up

pub cone_views-requires-clause-program : goal.cone_views-requires-clause-program
cone_views-requires-clause-program t c =
    let d = c.args.derivation.now in
    c.requires.bounds.bounds_of.of_programs c.in-Some.context (subst (λ (o : Option ℕ). IfSome o (IsOpen d.system.now d.state c.args.bounds.now c.in_ok-surely.surely)) c.in-Some.is c.next_open.ensures.some).not_known

-- ---- one view is told
pub told-told-requires : goal.told-told-requires
told-told-requires t c =
    let d = c.args.derivation.now in
    let open_yet = subst (λ (o : Option ℕ). IfSome o (IsOpen d.system.now d.state c.args.bounds.now c.in_ok-surely.surely)) c.in-Some.is c.next_open.ensures.some in
    omega (arith, open_yet.in_range, few_contexts d.system.now c.requires.derivation.set_up.cones.valid)

pub search-requires : goal.search-requires
search-requires t c =
    let d = c.args.derivation.now in
    let open_yet = subst (λ (o : Option ℕ). IfSome o (IsOpen d.system.now d.state c.args.bounds.now c.in_ok-surely.surely)) c.in-Some.is c.next_open.ensures.some in
    let program = c.requires.bounds.bounds_of.of_programs c.in-Some.context open_yet.not_known in
    let of_views = subst (IsAmong c.view-item.result) c.deref-view-items.ensures.value (own_of c.deref-view-items.result.now c.loop-view.view-index c.view-item.result c.loop-view-test.true c.view-item.is) in
    let fewer : open_contexts c.told-told.result < open_contexts c.args.bounds.now =
    fewer_open d.system.now d.state (cones_of d.cones.now) c.args.bounds.now c.told-told.result c.in-Some.context c.view-item.result c.told-told.ensures c.requires.bounds.bounds_of open_yet.in_range program open_yet.not_known in (
      omega (arith, fewer, c.decreases),
      (
        record { set_up = c.requires.derivation.set_up; found = c.loop-view.invariant.found },
        record {
          state = c.requires.bounds.state;
          bounds_of = told_bounds d.system.now d.state (cones_of d.cones.now) c.args.bounds.now c.told-told.result c.in-Some.context c.view-item.result c.told-told.ensures c.requires.bounds.bounds_of open_yet.in_range program;
          candidates = told_candidates d.system.now d.state (cones_of d.cones.now) c.args.bounds.now c.told-told.result c.in-Some.context c.view-item.result c.told-told.ensures c.requires.bounds.bounds_of open_yet.in_range program
              (c.in_ok-views.ensures.each c.view-item.result of_views) c.requires.bounds.candidates;
        },
      ),
    )

pub loop-view-init : goal.loop-view-init
loop-view-init t c = record { found = c.derive-2.ensures.found; none = λ places among. absurd among }

-- the search with this view found none
pub loop-view-preserved : goal.loop-view-preserved
loop-view-preserved t c =
    let d = c.args.derivation.now in
    let views = c.deref-view-items.result.now in
    let before = c.loop-view.invariant in
    let answer : NoneIsGrounded d.system.now d.state (cones_of d.cones.now) c.told-told.result = subst (IsAnswer d.system.now d.state (cones_of d.cones.now) c.told-told.result) c.if-branch.false c.in_ok-search.ensures.answer in
    record {
      found = c.search.ensures.found;
      none = next_of (λ (vs : List ℕ). (places : ℕ) → IsAmong places vs → (told : Bounds) × IsToldAt c.args.bounds.now c.in-Some.context places told × NoneIsGrounded d.system.now d.state (cones_of d.cones.now) told)
          views c.loop-view.view-index c.view-item.result c.loop-view-test.true c.view-item.is (λ places among. elim (among_either places (take c.loop-view.view-index views) (c.view-item.result ∷ []) among) [
            | inl old ↦ before.none places old
            | inr last ↦ elim last [
              | inl is ↦ (c.told-told.result, subst (λ (x : ℕ). IsToldAt c.args.bounds.now c.in-Some.context x c.told-told.result) (sym is) c.told-told.ensures, answer)
              | inr none ↦ absurd none
            ]
          ]);
    }

-- ---- none of the views leads to a grounded state
pub returns-clause-answer : goal.returns-clause-answer
returns-clause-answer t c =
    let d = c.args.derivation.now in
    let views = c.in_ok-views.views.items in
    let open_yet = subst (λ (o : Option ℕ). IfSome o (IsOpen d.system.now d.state c.args.bounds.now c.in_ok-surely.surely)) c.in-Some.is c.next_open.ensures.some in
    none_of_views d.system.now d.state (cones_of d.cones.now) c.args.bounds.now c.in-Some.context views c.in_ok-views.ensures c.requires.bounds.bounds_of open_yet.in_range
    (c.requires.bounds.bounds_of.of_programs c.in-Some.context open_yet.not_known)
    (λ places among. c.loop-view.invariant.none places
    (subst (IsAmong places) (sym (take_all c.loop-view.view-index c.deref-view-items.result.now c.loop-view-test.false ∙ c.deref-view-items.ensures.value)) among))

-- ---- all is derived by what is possible
pub derive-requires-clause-against : goal.derive-requires-clause-against
derive-requires-clause-against t c = c.requires.bounds.bounds_of.possible

pub derive-requires-2-clause-against : goal.derive-requires-2-clause-against
derive-requires-2-clause-against t c = c.requires.bounds.bounds_of.certain

pub returns-then-eq-clause-answer : goal.returns-then-eq-clause-answer
returns-then-eq-clause-answer t c =
    let d = c.args.derivation.now in
    settled_yes d.system.now d.state (cones_of d.cones.now) c.requires.derivation.set_up.plain (have_cones d.system.now d.cones.now c.requires.derivation.set_up.cones) c.args.bounds.now c.requires.bounds.state c.requires.bounds.candidates
    c.in_ok-surely.surely c.in_ok-surely.ensures.derived
    (eqb-true c.in_ok-surely.surely d.goal (sym c.eq.ensures ∙ c.if-eq.true) ∙ d.right)

-- less is, and nothing is open
pub returns-in_default-clause-answer : goal.returns-in_default-clause-answer
returns-in_default-clause-answer t c =
    let d = c.args.derivation.now in
    settled_known d.system.now d.state (cones_of d.cones.now) c.requires.derivation.set_up.plain (have_cones d.system.now d.cones.now c.requires.derivation.set_up.cones) c.args.bounds.now
    c.in_ok-surely.surely c.in_ok-surely.ensures.derived
    (λ e. true≢false (sym (eq-eqb c.in_ok-surely.surely d.goal (e ∙ sym d.right)) ∙ (sym c.eq.ensures ∙ c.if-eq.false)))
    (subst (λ (o : Option ℕ). IfNone o (NoneIsOpen d.system.now d.state c.args.bounds.now c.in_ok-surely.surely)) (none_where_never c.next_open.result c.in_default.not-Some) c.next_open.ensures.none)

-- it is not by what is certain
pub returns-then-ne-clause-answer : goal.returns-then-ne-clause-answer
returns-then-ne-clause-answer t c =
    let d = c.args.derivation.now in
    settled_no d.system.now d.state (cones_of d.cones.now) c.requires.derivation.set_up.plain (have_cones d.system.now d.cones.now c.requires.derivation.set_up.cones) c.args.bounds.now c.in_ok-perhaps.perhaps
    c.in_ok-perhaps.ensures.derived
    (λ e. true≢false (sym c.if-ne.true ∙ c.ne.ensures ∙ ap not (eq-eqb c.in_ok-perhaps.perhaps d.goal (e ∙ sym d.right))))

-- ---- what was found
pub derive-requires-clause-derivation : goal.derive-requires-clause-derivation
derive-requires-clause-derivation t c = c.requires.derivation

pub derive-requires-2-clause-derivation : goal.derive-requires-2-clause-derivation
derive-requires-2-clause-derivation t c = record { set_up = c.requires.derivation.set_up; found = c.derive.ensures.found }

pub next_open-requires : goal.next_open-requires
next_open-requires t c = c.requires.bounds.bounds_of

pub bounds-view-items-view-index : goal.bounds-view-items-view-index
bounds-view-items-view-index t c = c.loop-view-test.true

pub returns-then-branch-clause-answer : goal.returns-then-branch-clause-answer
returns-then-branch-clause-answer t c = subst (IsAnswer c.args.derivation.now.system.now c.args.derivation.now.state (cones_of c.args.derivation.now.cones.now) c.told-told.result) c.if-branch.true c.in_ok-search.ensures.answer
