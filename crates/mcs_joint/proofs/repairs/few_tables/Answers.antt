use Rattle.std.proofs.Common.{sym, subst, take}
use Rattle.std.specs.List.{AllZip}
use Rattle.mcs_base.proofs.Lists.{zip_push}
use Rattle.mcs_base.proofs.Written.{take_read}
use Rattle.mcs_joint.specs.Reduced.{HasFewMarks}
use Rattle.mcs_joint.proofs.repairs.few_tables.Goals as goal

pub loop-table-preserved : goal.loop-table-preserved
loop-table-preserved c =
    let more = zip_push (HasFewMarks c.args.level) (take c.loop-table.table-index c.args.tables.now) c.loop-table.found.items c.table-item.result c.in_ok-few.few c.loop-table.invariant c.in_ok-few.ensures in
    subst (λ ts. AllZip (HasFewMarks c.args.level) ts c.push.new.self.items) (sym (take_read c.args.tables.now c.loop-table.table-index c.table-item.result c.loop-table-test.true c.table-item.is)) (rw c.in_ok-push.ensures.items more)
