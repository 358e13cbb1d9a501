use Rattle.std.proofs.Common.{◌≡◌, ◌∙◌, ◌<◌, ℕ, true, List, length, map, refl, sym, ap, subst, arith}
use Rattle.std.specs.List.{AllByRecursion}
use Rattle.std.proofs.lemmas.List.{length-map}
use Rattle.std.proofs.lemmas.Option.{slice_get_within}
use Rattle.mcs_sets.specs.Sets.{common, such_that}
use Rattle.mcs_system.specs.Plain.{Name, System}
use Rattle.mcs_system.specs.Atoms.{atoms_of}
use Rattle.mcs_system.specs.Faults.{has_twins}
use Rattle.mcs_system.specs.Seen.{formula_of}
use Rattle.mcs_system.specs.Systems.{variables_of, IsAcceptedPart}
use Rattle.mcs_system.specs.Views.{at_places, beliefs_at}
use Rattle.mcs_system.proofs.ValidLemmas.{few_variables}
use Rattle.mcs_cnf.specs.ClauseLists.{AreOver, IsOver}
use Rattle.mcs_cnf.proofs.OverLemmas.{context_atoms}
use Rattle.mcs_classical.specs.Assumptions.{AreHeads}
use Rattle.mcs_classical.specs.declared.assumptions.Assumption.{Assumption}
use Rattle.mcs_classical.proofs.AssumptionLemmas.{each_of_all}
use Rattle.mcs_asking.proofs.CoverLemmas.{heads_over, beliefs_over, few_beliefs}
use Rattle.mcs_grounded.specs.Parts.{IsSolverOf}
use Rattle.mcs_grounded.proofs.Derivers.{part_with, told_more, told_still}
use Rattle.mcs_grounded.proofs.Solving.{clauses_meant, found_right, solver_still, part_shown}
use Rattle.mcs_grounded.proofs.found.Solver.tell.Goals as goal

pub beliefs_of-requires : goal.beliefs_of-requires
beliefs_of-requires c = let (d, is, kb) = c.requires.classical in slice_get_within c.args.system.now.contexts c.args.context d is

pub atoms_of-requires : goal.atoms_of-requires
atoms_of-requires c = let (d, is, kb) = c.requires.classical in slice_get_within c.args.system.now.contexts c.args.context d is

pub vars_of-requires : goal.vars_of-requires
vars_of-requires c = let (d, is, kb) = c.requires.classical in slice_get_within c.args.system.now.contexts c.args.context d is

pub invariant_of-asked : goal.invariant_of-asked
invariant_of-asked c =
    let m : System = c.args.system.now in
    let i = c.args.context in
    let asked : map (λ f. formula_of f.now) c.deref.result.now ≡ beliefs_at m (variables_of m i) = ap (map (λ f. formula_of f.now)) c.deref.ensures.value ∙ c.in_ok-beliefs.ensures in
    record {
      few = c.atoms_of.ensures.few;
      few_beliefs = omega (arith, ap length asked, length-map c.deref.result.now (λ f. formula_of f.now), few_beliefs m i, few_variables m c.in_ok-heads.ensures.valid);
      over = subst (λ (ns : List Name). AreOver ns (map (λ f. formula_of f.now) c.deref.result.now)) (sym c.atoms_of.ensures.value) (subst (AreOver (atoms_of m i)) (sym asked) (beliefs_over m i));
    }

pub invariant_of-given : goal.invariant_of-given
invariant_of-given c =
    let m : System = c.args.system.now in
    let i = c.args.context in
    let every = such_that 64 (λ k. true) in
    let over = subst (AreOver (atoms_of m i)) (sym (c.in_ok-heads.ensures.of_rules every)) (heads_over m i every) in
    let each : AreOver (atoms_of m i) (map (λ (a : Assumption). formula_of a.formula.now) c.in_ok-heads.heads.items) = each_of_all (IsOver (atoms_of m i)) c.in_ok-heads.heads.items c.in_ok-heads.ensures.numbers over in
    record {
      different = ap has_twins c.atoms_of.ensures.value ∙ (context_atoms m i).0;
      numbers = subst (AllByRecursion (λ (a : Assumption). a.number < 64)) (sym c.deref-2.ensures.value) c.in_ok-heads.ensures.numbers;
      over = subst (λ (ns : List Name). AreOver ns (map (λ (a : Assumption). formula_of a.formula.now) c.deref-2.result.now)) (sym c.atoms_of.ensures.value)
          (subst (λ (xs : List Assumption). AreOver (atoms_of m i) (map (λ (a : Assumption). formula_of a.formula.now) xs)) (sym c.deref-2.ensures.value) each);
    }

pub following-requires : goal.following-requires
following-requires c =
    let m : System = c.args.system.now in
    let i = c.args.context in
    let heads = subst (AreHeads m i) (sym c.deref-2.ensures.value) c.in_ok-heads.ensures in
    let asked = ap (map (λ f. formula_of f.now)) c.deref.ensures.value ∙ c.in_ok-beliefs.ensures in
    (clauses_meant m i c.requires.formulas c.requires.classical c.atoms_of.result.now c.deref-2.result.now (map (λ f. formula_of f.now) c.deref.result.now) c.atoms_of.ensures.value heads asked c.args.self.now c.requires.own).room

pub returns-in_err-view-clause-own : goal.returns-in_err-view-clause-own
returns-in_err-view-clause-own c =
    let m : System = c.args.system.now in
    let i = c.args.context in
    let heads = subst (AreHeads m i) (sym c.deref-2.ensures.value) c.in_ok-heads.ensures in
    let asked = ap (map (λ f. formula_of f.now)) c.deref.ensures.value ∙ c.in_ok-beliefs.ensures in
    solver_still m i c.requires.formulas c.requires.classical c.atoms_of.result.now c.deref-2.result.now (map (λ f. formula_of f.now) c.deref.result.now) c.atoms_of.ensures.value heads asked
    c.args.self.now (record { clauses = c.following.new.known; found = c.following.new.self; told = c.args.self.now.told }) c.requires.own c.following.ensures.kept refl
    (c.following.ensures.right c.requires.formulas (clauses_meant m i c.requires.formulas c.requires.classical c.atoms_of.result.now c.deref-2.result.now (map (λ f. formula_of f.now) c.deref.result.now) c.atoms_of.ensures.value heads asked c.args.self.now c.requires.own) (found_right m i c.requires.formulas c.requires.classical c.atoms_of.result.now c.deref-2.result.now (map (λ f. formula_of f.now) c.deref.result.now) c.atoms_of.ensures.value heads asked c.args.self.now c.requires.own))

pub returns-in_err-insert-clause-own : goal.returns-in_err-insert-clause-own
returns-in_err-insert-clause-own c =
    let m : System = c.args.system.now in
    let i = c.args.context in
    let heads = subst (AreHeads m i) (sym c.deref-2.ensures.value) c.in_ok-heads.ensures in
    let asked = ap (map (λ f. formula_of f.now)) c.deref.ensures.value ∙ c.in_ok-beliefs.ensures in
    let still : IsSolverOf m i (record { clauses = c.following.new.known; found = c.following.new.self; told = c.args.self.now.told }) = solver_still m i c.requires.formulas c.requires.classical c.atoms_of.result.now c.deref-2.result.now (map (λ f. formula_of f.now) c.deref.result.now) c.atoms_of.ensures.value heads asked
    c.args.self.now (record { clauses = c.following.new.known; found = c.following.new.self; told = c.args.self.now.told }) c.requires.own c.following.ensures.kept refl
    (c.following.ensures.right c.requires.formulas (clauses_meant m i c.requires.formulas c.requires.classical c.atoms_of.result.now c.deref-2.result.now (map (λ f. formula_of f.now) c.deref.result.now) c.atoms_of.ensures.value heads asked c.args.self.now c.requires.own) (found_right m i c.requires.formulas c.requires.classical c.atoms_of.result.now c.deref-2.result.now (map (λ f. formula_of f.now) c.deref.result.now) c.atoms_of.ensures.value heads asked c.args.self.now c.requires.own)) in record {
      meant = still.meant;
      right = still.right;
      told = told_still m i c.args.self.now.told c.insert.new.self c.in_err-insert.ensures.err c.requires.own.told;
    }

-- it is kept
pub returns-clause-own : goal.returns-clause-own
returns-clause-own c =
    let m : System = c.args.system.now in
    let i = c.args.context in
    let heads = subst (AreHeads m i) (sym c.deref-2.ensures.value) c.in_ok-heads.ensures in
    let asked = ap (map (λ f. formula_of f.now)) c.deref.ensures.value ∙ c.in_ok-beliefs.ensures in
    let part : IsAcceptedPart m i c.common-own.result c.at_places-told.result = subst (IsAcceptedPart m i c.common-own.result) (sym (c.at_places-told.ensures ∙ ap (λ (s : ℕ). at_places s c.in_ok-view.view) c.vars_of.ensures)) (part_shown m i c.requires.formulas c.requires.classical c.atoms_of.result.now c.deref-2.result.now (map (λ f. formula_of f.now) c.deref.result.now) c.atoms_of.ensures.value heads asked c.common-own.result c.in_ok-view.view (c.in_ok-view.ensures.exact c.requires.formulas (clauses_meant m i c.requires.formulas c.requires.classical c.atoms_of.result.now c.deref-2.result.now (map (λ f. formula_of f.now) c.deref.result.now) c.atoms_of.ensures.value heads asked c.args.self.now c.requires.own) (found_right m i c.requires.formulas c.requires.classical c.atoms_of.result.now c.deref-2.result.now (map (λ f. formula_of f.now) c.deref.result.now) c.atoms_of.ensures.value heads asked c.args.self.now c.requires.own))) in
    let still : IsSolverOf m i (record { clauses = c.following.new.known; found = c.following.new.self; told = c.args.self.now.told }) = solver_still m i c.requires.formulas c.requires.classical c.atoms_of.result.now c.deref-2.result.now (map (λ f. formula_of f.now) c.deref.result.now) c.atoms_of.ensures.value heads asked
    c.args.self.now (record { clauses = c.following.new.known; found = c.following.new.self; told = c.args.self.now.told }) c.requires.own c.following.ensures.kept refl
    (c.following.ensures.right c.requires.formulas (clauses_meant m i c.requires.formulas c.requires.classical c.atoms_of.result.now c.deref-2.result.now (map (λ f. formula_of f.now) c.deref.result.now) c.atoms_of.ensures.value heads asked c.args.self.now c.requires.own) (found_right m i c.requires.formulas c.requires.classical c.atoms_of.result.now c.deref-2.result.now (map (λ f. formula_of f.now) c.deref.result.now) c.atoms_of.ensures.value heads asked c.args.self.now c.requires.own)) in record {
      meant = still.meant;
      right = still.right;
      told = told_more m i c.common-own.result c.at_places-told.result c.args.self.now.told c.insert.new.self c.in_ok-insert.ensures.updates.1 c.in_ok-insert.ensures.updates.2 part c.requires.own.told;
    }

pub returns-clause-told : goal.returns-clause-told
returns-clause-told c =
    let m : System = c.args.system.now in
    let i = c.args.context in
    let heads = subst (AreHeads m i) (sym c.deref-2.ensures.value) c.in_ok-heads.ensures in
    let asked = ap (map (λ f. formula_of f.now)) c.deref.ensures.value ∙ c.in_ok-beliefs.ensures in
    let part : IsAcceptedPart m i c.common-own.result c.at_places-told.result = subst (IsAcceptedPart m i c.common-own.result) (sym (c.at_places-told.ensures ∙ ap (λ (s : ℕ). at_places s c.in_ok-view.view) c.vars_of.ensures)) (part_shown m i c.requires.formulas c.requires.classical c.atoms_of.result.now c.deref-2.result.now (map (λ f. formula_of f.now) c.deref.result.now) c.atoms_of.ensures.value heads asked c.common-own.result c.in_ok-view.view (c.in_ok-view.ensures.exact c.requires.formulas (clauses_meant m i c.requires.formulas c.requires.classical c.atoms_of.result.now c.deref-2.result.now (map (λ f. formula_of f.now) c.deref.result.now) c.atoms_of.ensures.value heads asked c.args.self.now c.requires.own) (found_right m i c.requires.formulas c.requires.classical c.atoms_of.result.now c.deref-2.result.now (map (λ f. formula_of f.now) c.deref.result.now) c.atoms_of.ensures.value heads asked c.args.self.now c.requires.own))) in
    part_with m i c.args.rules c.at_places-told.result (subst (λ (x : ℕ). IsAcceptedPart m i x c.at_places-told.result) (c.common-own.ensures ∙ ap (common c.args.rules) c.rules_of.ensures) part)

-- ---- it was found before
pub rules_of-requires : goal.rules_of-requires
rules_of-requires c = let (d, is, kb) = c.requires.classical in slice_get_within c.args.system.now.contexts c.args.context d is

pub returns-in-Some-clause-own : goal.returns-in-Some-clause-own
returns-in-Some-clause-own c = c.requires.own

pub returns-in-Some-clause-told : goal.returns-in-Some-clause-told
returns-in-Some-clause-told c =
    part_with c.args.system.now c.args.context c.args.rules c.in-Some.told.now
    (subst (λ (x : ℕ). IsAcceptedPart c.args.system.now c.args.context x c.in-Some.told.now) (c.common-own.ensures ∙ ap (common c.args.rules) c.rules_of.ensures) (c.requires.own.told c.common-own.result c.in-Some.told.now (sym c.in-Some.ensures.value)))
