use Rattle.std.proofs.Common.{◌≡◌, List, length, Some, slice_get, sym, ap, ◌∙◌, arith}
use Rattle.std.proofs.lemmas.List.{length-map}
use Rattle.mcs_system.specs.Plain.{Bridge}
use Rattle.mcs_system.specs.Seen.{bridge_of}
use Rattle.mcs_system.proofs.SeenLemmas.{slice_get-map}
use Rattle.mcs_system.proofs.MarkLemmas.{allowed_none, allowed_next, allowed_all}
use Rattle.mcs_system.proofs.system.System.allowed.Goals as goal

pub loop-rule-init : goal.loop-rule-init
loop-rule-init c = c.empty-marks.ensures ∙ allowed_none c.args.self.now

pub loop-rule-preserved : goal.loop-rule-preserved
loop-rule-preserved c =
    let m = c.args.self.now in
    let r = c.loop-rule.rule in
    let bridges = c.bridges-bridge-items.result.now in
    let b = c.bridge-item.result in
    let is : slice_get m.bridges r ≡ Some (bridge_of b) =
    ap (λ (bs : List Bridge). slice_get bs r) (sym c.bridges-bridge-items.ensures.value) ∙ slice_get-map bridge_of bridges r b c.loop-rule-test.true ∙ ap (λ x. Some (bridge_of x)) (sym c.bridge-item.is) in
    allowed_next m r c.loop-rule.marks c.with_unless-marks.result c.with_unless-marks-in-loop-rule.result (bridge_of b) is c.loop-rule.invariant c.with_unless-marks.ensures c.with_unless-marks-in-loop-rule.ensures

pub returns : goal.returns
returns c =
    let all = length-map c.bridges-bridge-items.result.now bridge_of in
    let same = ap length c.bridges-bridge-items.ensures.value in
    c.loop-rule.invariant ∙ allowed_all c.args.self.now c.loop-rule.rule (omega (arith, all, same))
