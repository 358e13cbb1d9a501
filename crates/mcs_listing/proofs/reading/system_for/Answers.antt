use Rattle.std.proofs.Common.{[], ◌∷◌, IfSome, IfOk, IfErr}
use Rattle.mcs_ports.specs.Causes.{Rose}
use Rattle.mcs_work.specs.Tasks.{IsDefinedFor}
use Rattle.mcs_listing.specs.Jobs.{told_all, OfOneFile}
use Rattle.mcs_listing.specs.Texts.{IsTextFor, IsRefusedTask, StopsReading}
use Rattle.mcs_listing.proofs.PlainLemmas.{for_others, always_ok}
use Rattle.mcs_listing.proofs.reading.system_for.Goals as goal

pub returns-in-Equilibria : goal.returns-in-Equilibria
returns-in-Equilibria g c =
    let files = told_all (g.H.Shelf.held c.args.shelf.now) (c.args.file.now ∷ []) in
    let rose = Rose (g.H.Shelf.faults c.args.shelf.now) (g.H.Shelf.faults c.system_in.new.shelf) in
    let failed = Rose (g.H.Shelf.failures c.args.shelf.now) (g.H.Shelf.failures c.system_in.new.shelf) in
    let s = c.system_in.ensures in
    let any = always_ok c.system_in.result in
    record {
      later = s.later;
      system = for_others c.args.task c.in-Equilibria.is (λ t. IfOk c.system_in.result (λ m. IfSome files (OfOneFile (IsTextFor t m)))) s.system s.system s.system s.system;
      defined = for_others c.args.task c.in-Equilibria.is (λ t. IfOk c.system_in.result (IsDefinedFor t)) any any any any;
      stop = for_others c.args.task c.in-Equilibria.is (λ t. IfErr c.system_in.result (λ stop. StopsReading (IsRefusedTask t) stop rose failed files)) s.stop s.stop s.stop s.stop;
    }

pub returns-in-Grounded-clause-system : goal.returns-in-Grounded-clause-system
returns-in-Grounded-clause-system g c = rw c.in-Grounded.is c.plain_system_in.ensures.system
