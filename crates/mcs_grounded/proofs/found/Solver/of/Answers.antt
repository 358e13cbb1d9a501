use Rattle.std.proofs.Common.{◌∙◌, List, map, sym, subst}
use Rattle.std.proofs.lemmas.Option.{slice_get_within}
use Rattle.mcs_system.specs.Plain.{Name}
use Rattle.mcs_system.specs.Seen.{formula_of}
use Rattle.mcs_cnf.specs.ClauseLists.{AreOver}
use Rattle.mcs_grounded.proofs.Solving.{formulas_over, solver_made}
use Rattle.mcs_grounded.proofs.found.Solver.of.Goals as goal

pub atoms_of-requires : goal.atoms_of-requires
atoms_of-requires c = let (d, is, kb) = c.requires in slice_get_within c.args.system.now.contexts c.args.context d is

pub clauses-requires : goal.clauses-requires
clauses-requires c =
    subst (λ (ns : List Name). AreOver ns (map formula_of c.args.formulas.now)) (sym c.atoms_of.ensures.value) (formulas_over c.args.system.now c.args.context (map formula_of c.args.formulas.now) c.requires)

pub returns : goal.returns
returns c = solver_made c.args.system.now c.args.context (map formula_of c.args.formulas.now) c.requires (record { clauses = c.in_ok-clauses.clauses; found = c.new.result; told = c.new-2.result }) c.atoms_of.result.now c.atoms_of.ensures.value
    (c.in_ok-clauses.ensures ∙ c.in_ok-list.ensures) c.new.ensures c.new-2.ensures.empty
