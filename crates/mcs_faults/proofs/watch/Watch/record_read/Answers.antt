use Rattle.std.proofs.Common.{◌≡◌, List, map, refl, ap, slice_set}
use Rattle.mcs_base.specs.declared.kinds.Variable.{Variable}
use Rattle.mcs_base.specs.declared.set.Set.{Set}
use Rattle.mcs_base.proofs.Lists.{slice_get_read_as, slice_get_past_as}
use Rattle.mcs_faults.specs.declared.watch.Watch.{Watch}
use Rattle.mcs_faults.specs.declared.watch.ContextSeen.{ContextSeen}
use Rattle.mcs_account.specs.Images.{named_read_of}
use Rattle.mcs_faults.proofs.ReadSteps.{number-below, with_inputs, step-ends_read}
use Rattle.mcs_faults.proofs.WatchFacts.{seen-none}
use Rattle.mcs_faults.proofs.watch.Watch.record_read.Goals as goal

pub returns-in-Some : goal.returns-in-Some
returns-in-Some c = λ before t watch number spoken allowed.
    let rest : c.hold.new.self ≡ record c.args.self.now { variables = c.hold.new.self.variables } = c.in_ok-number.ensures.rest in
    let contexts = ap (λ (w : Watch). w.contexts.items) rest in
    let here = slice_get_read_as c.args.self.now.contexts.items c.hold.new.self.contexts.items c.args.target c.in-Some.context.now contexts c.in-Some.ensures.item.3.0 c.in-Some.ensures.value in
    let now = map named_read_of c.hold.new.self.variables.items in
    let j = c.in_ok-number.number in
    let held = c.in_ok-number.ensures.held in
    let below = number-below c.args.self.now before watch t (named_read_of c.args.read.now) spoken allowed c.args.target number c.in-Some.context.now here now j held in
    step-ends_read c.args.self.now before watch t (named_read_of c.args.read.now) spoken allowed c.args.target number c.in-Some.context.now here now j held _
    (ap (λ (s : Set Variable). with_inputs c.in-Some.context.now s) (c.with_input-context.ensures below)) _
    (ap (λ (w : Watch). w.contexts_begun) rest) (ap (λ (w : Watch). w.bridges_begun) rest) (ap (λ (w : Watch). w.bridges) rest) refl
    (ap (λ (cs : List ContextSeen). slice_set cs c.args.target (with_inputs c.in-Some.context.now c.with_input-context.result)) contexts)

pub returns-in_default : goal.returns-in_default
returns-in_default c = λ before t watch number spoken allowed.
    let rest : c.hold.new.self ≡ record c.args.self.now { variables = c.hold.new.self.variables } = c.in_ok-number.ensures.rest in
    absurd (seen-none c.args.self.now before watch t c.args.target number (slice_get_past_as c.args.self.now.contexts.items c.hold.new.self.contexts.items c.args.target (ap (λ (w : Watch). w.contexts.items) rest) c.in_default.ensures.item.3) spoken.0)
