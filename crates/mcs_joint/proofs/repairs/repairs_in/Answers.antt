use Rattle.std.proofs.Common.{◌≡◌, ◌∙◌, ap, sym, subst, length, min}
use Rattle.std.proofs.lemmas.List.{length-map}
use Rattle.std.specs.List.{AllByRecursion}
use Rattle.mcs_system.specs.Faults.{IsValid}
use Rattle.mcs_system.specs.Plain.{System}
use Rattle.mcs_system.specs.Seen.{bridge_of}
use Rattle.mcs_table.specs.Tables.{IsTable}
use Rattle.mcs_table.specs.Elimination.{EliminatesTo}
use Rattle.mcs_joint.specs.Apart.{EachApart}
use Rattle.mcs_joint.proofs.Covering.{apart_few, few_are_tables}
use Rattle.mcs_joint.proofs.Repaired.{fitting_apart, repairs_listed}
use Rattle.mcs_joint.proofs.repairs.repairs_in.Goals as goal

pub reduced-requires : goal.reduced-requires
reduced-requires c = let (k, high, given) = c.requires.tables in apart_few c.min-most.result c.args.tables.now c.in_ok-few.few.items c.in_ok-few.ensures (fitting_apart c.args.plan.now k c.args.known.now c.args.tables.now given)

pub eliminate-requires-clause-tables : goal.eliminate-requires-clause-tables
eliminate-requires-clause-tables c = subst (AllByRecursion IsTable) (sym c.deref.ensures.value) (c.in_ok-fewer.ensures.tables (few_are_tables c.min-most.result c.args.tables.now c.in_ok-few.few.items c.in_ok-few.ensures))

pub eliminate-requires-clause-apart : goal.eliminate-requires-clause-apart
eliminate-requires-clause-apart c = subst EachApart (sym c.deref.ensures.value) c.in_ok-fewer.ensures.apart

pub returns : goal.returns
returns c =
    let m = c.args.plan.now in
    let level = c.args.level in
    let sets = c.args.known.now in
    let (k, high, given) = c.requires.tables in
    let valid : IsValid m = subst IsValid c.system.ensures c.bridges.ensures.valid in
    let most : c.min-most.result ≡ min level (length m.bridges) = c.min-most.ensures ∙ ap (min level) (sym (length-map c.bridges.result.now bridge_of) ∙ ap length (c.bridges.ensures.value ∙ ap (λ (s : System). s.bridges) c.system.ensures)) in
    let (whole, eliminates, less) = c.in_ok-left.ensures in
    let whole_left = subst (λ ts. EliminatesTo c.min-most.result 0 ts whole) c.deref.ensures.value eliminates in
    repairs_listed m valid k level c.min-most.result most high sets c.args.tables.now c.in_ok-few.few.items c.in_ok-fewer.fewer.items given c.in_ok-few.ensures c.in_ok-fewer.ensures whole c.in_ok-left.left c.in_ok-pairs.pairs.items whole_left less c.requires.known c.in_ok-pairs.ensures
