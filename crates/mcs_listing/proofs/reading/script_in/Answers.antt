use Rattle.std.proofs.Common.{refl, rules}
use Rattle.mcs_listing.proofs.JobLemmas.{fault_of_one}
use Rattle.mcs_listing.proofs.reading.script_in.Goals as goal

pub returns-in-Err-Fault-clause-stop : goal.returns-in-Err-Fault-clause-stop
returns-in-Err-Fault-clause-stop g c =
    let told = rw c.in-Err-Fault.field-0-is at c.in-Err-Fault.ensures in
    (told.fault refl, fault_of_one (g.H.Shelf.held c.args.shelf.now) c.args.file.now _ _ refl told.failure)

pub returns-in-Err-Memory-clause-stop : goal.returns-in-Err-Memory-clause-stop
returns-in-Err-Memory-clause-stop g c = search rules
