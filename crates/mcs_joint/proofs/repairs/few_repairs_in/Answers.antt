use Rattle.std.proofs.Common.{◌≡◌, ◌∙◌, ap, sym, subst, length, min, Option, IfSome}
use Rattle.std.proofs.lemmas.List.{length-map}
use Rattle.std.specs.List.{AllByRecursion}
use Rattle.mcs_system.specs.Faults.{IsValid}
use Rattle.mcs_system.specs.Plain.{System}
use Rattle.mcs_system.specs.Seen.{bridge_of}
use Rattle.mcs_table.specs.Tables.{TableData, IsTable}
use Rattle.mcs_table.specs.Elimination.{EliminatesTo}
use Rattle.mcs_table.specs.Without.{IsWithout}
use Rattle.mcs_joint.specs.Apart.{EachApart}
use Rattle.mcs_joint.proofs.Covering.{apart_few, few_are_tables}
use Rattle.mcs_joint.proofs.Repaired.{fitting_apart, repairs_listed}
use Rattle.mcs_joint.proofs.repairs.few_repairs_in.Goals as goal

pub reduced-requires : goal.reduced-requires
reduced-requires c = let (k, high, given) = c.requires.tables in apart_few c.min-most.result c.args.tables.now c.in_ok-few.few.items c.in_ok-few.ensures (fitting_apart c.args.plan.now k c.args.known.now c.args.tables.now given)

pub eliminate_few-requires-clause-tables : goal.eliminate_few-requires-clause-tables
eliminate_few-requires-clause-tables c = subst (AllByRecursion IsTable) (sym c.deref.ensures.value) (c.in_ok-fewer.ensures.tables (few_are_tables c.min-most.result c.args.tables.now c.in_ok-few.few.items c.in_ok-few.ensures))

pub eliminate_few-requires-clause-apart : goal.eliminate_few-requires-clause-apart
eliminate_few-requires-clause-apart c = subst EachApart (sym c.deref.ensures.value) c.in_ok-fewer.ensures.apart

pub returns : goal.returns
returns c =
    let m = c.args.plan.now in
    let level = c.args.level in
    let sets = c.args.known.now in
    let (k, high, given) = c.requires.tables in
    let valid : IsValid m = subst IsValid c.system.ensures c.bridges.ensures.valid in
    let most : c.min-most.result ≡ min level (length m.bridges) = c.min-most.ensures ∙ ap (min level) (sym (length-map c.bridges.result.now bridge_of) ∙ ap length (c.bridges.ensures.value ∙ ap (λ (s : System). s.bridges) c.system.ensures)) in
    let (whole, eliminates, less) = subst (λ (told : Option TableData). IfSome told (λ t. (whole : TableData) × EliminatesTo c.min-most.result 0 c.deref.result.now whole × IsWithout sets whole t)) c.in-Some.is c.in_ok-left.ensures in
    let whole_left = subst (λ ts. EliminatesTo c.min-most.result 0 ts whole) c.deref.ensures.value eliminates in
    repairs_listed m valid k level c.min-most.result most high sets c.args.tables.now c.in_ok-few.few.items c.in_ok-fewer.fewer.items given c.in_ok-few.ensures c.in_ok-fewer.ensures whole c.in-Some.left c.in_ok-pairs.pairs.items whole_left less c.requires.known c.in_ok-pairs.ensures
