use Rattle.std.proofs.Common.{◌<◌, ◌≤◌, IfSome, take, subst, sym, List, ℕ}
use Rattle.std.specs.List.{AllByRecursion}
use Rattle.mcs_sets.specs.Sets.{size}
use Rattle.mcs_base.specs.Minimal.{IsMinimal}
use Rattle.mcs_base.proofs.Each.{all_take}
use Rattle.mcs_system.specs.Plain.{System}
use Rattle.mcs_system.specs.Repairs.{IsDiagnosis}
use Rattle.mcs_table.specs.Tables.{TableData}
use Rattle.mcs_rows.specs.Local.{AreFittingTables}
use Rattle.mcs_mesh.specs.Rounds.{HasFewRules}
use Rattle.mcs_mesh.proofs.FoundLemmas.{found_known}
use Rattle.mcs_mesh.proofs.LastingLemmas.{tables_ahead}
use Rattle.mcs_states.specs.Evaluators.{AreRepairs}
use Rattle.mcs_mesh.proofs.found.Found.find_few.Goals.{in-Some, in-None}
use Rattle.mcs_mesh.proofs.found.Found.find_few.Goals as goal

pub few_repairs_in-requires-clause-tables : goal.few_repairs_in-requires-clause-tables
few_repairs_in-requires-clause-tables g c =
    let known = take c.min.result c.deref.result.now in
    let given = subst (λ (ts : List TableData). AreFittingTables c.args.plan.now c.args.done known ts) (sym c.deref-2.ensures.value) c.in_ok-tables.ensures in
    let above = subst (λ (m : System). c.args.level < c.level_ahead-ahead.result → HasFewRules m c.args.level) c.system.ensures c.level_ahead-ahead.ensures.above in
    tables_ahead c.args.plan.now c.args.level c.level_ahead-ahead.result c.args.done known c.deref-2.result.now c.level_ahead-ahead.ensures.no_less above c.requires.within given

pub few_repairs_in-requires-clause-known : goal.few_repairs_in-requires-clause-known
few_repairs_in-requires-clause-known g c =
    let P = λ (p : ℕ). IsMinimal (IsDiagnosis c.args.plan.now) p × (size p ≤ c.level_ahead-ahead.result) in
    let all : AllByRecursion P c.args.self.now.pairs.items = found_known c.args.plan.now c.args.level c.level_ahead-ahead.result c.args.self.now.level c.args.self.now.pairs.items c.requires.before c.requires.lower c.level_ahead-ahead.ensures.no_less in
    all_take P c.min.result c.deref.result.now (subst (λ (xs : List ℕ). AllByRecursion P xs) (sym c.deref.ensures.value) all)

pub returns : goal.returns
returns g c = elim c.match-branch-3.branch [
  | in-Some w ↦ rw w.self-is (subst (λ told. IfSome told (λ pairs. AreRepairs c.args.plan.now c.level_ahead-ahead.result pairs.items)) w.in-Some.is c.in_ok-pairs.ensures)
  | in-None w ↦ rw w.self-is c.requires.before
]
