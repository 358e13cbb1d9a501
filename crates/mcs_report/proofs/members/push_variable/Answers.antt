use Rattle.std.proofs.Common.{◌≡◌, ◌<◌, ◌++◌, Some, length, slice_get, sym, ap, ◌∙◌, arith}
use Rattle.std.proofs.lemmas.List.{length-map}
use Rattle.std.proofs.lemmas.Result.{on_ok_weaker}
use Rattle.mcs_system.specs.Seen.{read_of}
use Rattle.mcs_system.specs.Systems.{variables}
use Rattle.mcs_report.specs.Members.{text_of_variable}
use Rattle.mcs_system.proofs.SeenLemmas.{slice_get-map}
use Rattle.mcs_system.proofs.VariableLemmas.{variable_in_range}
use Rattle.mcs_report.proofs.members.push_variable.Goals as goal

pub push_read-requires : goal.push_read-requires
push_read-requires c =
    let less : c.args.v < length c.variables.result.now = omega (arith, c.requires, ap length c.variables.ensures.value, length-map c.variables.result.now read_of) in
    let is : slice_get (variables c.args.system.now) c.args.v ≡ Some (read_of c.index-variables-v.result) =
    ap (λ rs. slice_get rs c.args.v) (sym c.variables.ensures.value) ∙ slice_get-map read_of c.variables.result.now c.args.v c.index-variables-v.result less ∙ ap (λ r. Some (read_of r)) (sym c.index-variables-v.is) in
    variable_in_range c.args.system.now c.args.v (read_of c.index-variables-v.result) is

pub returns : goal.returns
returns c =
    let less : c.args.v < length c.variables.result.now = omega (arith, c.requires, ap length c.variables.ensures.value, length-map c.variables.result.now read_of) in
    let is : slice_get (variables c.args.system.now) c.args.v ≡ Some (read_of c.index-variables-v.result) =
    ap (λ rs. slice_get rs c.args.v) (sym c.variables.ensures.value) ∙ slice_get-map read_of c.variables.result.now c.args.v c.index-variables-v.result less ∙ ap (λ r. Some (read_of r)) (sym c.index-variables-v.is) in
    on_ok_weaker c.push_read.result (λ e. e ∙ ap (λ o. c.args.text.now ++ text_of_variable c.args.system.now o) (sym is)) c.push_read.ensures.ok
