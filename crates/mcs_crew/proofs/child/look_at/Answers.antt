use Rattle.std.proofs.Common.{subst}
use Rattle.mcs_crew.specs.Calls.{load_of}
use Rattle.mcs_crew.specs.Children.{ComesBack}
use Rattle.mcs_crew.specs.declared.child.Child.{Child}
use Rattle.mcs_crew.proofs.LoadSteps.{worked_on}
use Rattle.mcs_crew.proofs.child.look_at.Goals as goal

pub returns-in-Here : goal.returns-in-Here
returns-in-Here g c = λ was given back.
    worked_on (load_of was) (load_of c.in-Here.load) (load_of c.work_load-worked.new.load) (subst (λ (child : Child _). ComesBack was child) c.in-Here.is back) c.work_load-worked.ensures
