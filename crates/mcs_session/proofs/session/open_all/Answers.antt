use Rattle.std.proofs.Common.{◌≡◌, ◌∙◌, length, get_or, slice_get, Some, sym, ap, arith}
use Rattle.std.proofs.lemmas.List.{length-map}
use Rattle.std.proofs.lemmas.Option.{slice_get-get_or, slice_get_within}
use Rattle.std.specs.Arc.{arc_value}
use Rattle.std.specs.Global.{Vec}
use Rattle.mcs_base.proofs.Written.{length-slice_set}
use Rattle.mcs_system.specs.Plain.{System}
use Rattle.mcs_system.specs.Seen.{context_of}
use Rattle.mcs_session.proofs.AskedLemmas.{one_more_open, same_throughout}
use Rattle.mcs_session.proofs.session.open_all.Goals as goal

pub returns-in_err-open-clause-same : goal.returns-in_err-open-clause-same
returns-in_err-open-clause-same c =
    let lists = c.loop-context.asked in
    let i = c.loop-context.context in
    let own : Vec _ = get_or lists i c.index-asked-context.result in
    let many : length c.contexts-context-end.result.now ≡ length (arc_value c.args.system.now).contexts =
    sym (length-map c.contexts-context-end.result.now context_of) ∙ ap length c.contexts-context-end.ensures.value ∙ ap (λ (m : System). length m.contexts) c.deref.ensures in
    let there : slice_get lists i ≡ Some own = slice_get-get_or lists i c.index-asked-context.result (let t = c.loop-context-test.true in let l = c.loop-context.invariant.long in omega (arith, t, l, many)) in
    same_throughout lists i own c.open.new.asked there c.in_err-open.ensures.same ∙ c.loop-context.invariant.same

pub loop-context-preserved : goal.loop-context-preserved
loop-context-preserved c =
    let lists = c.loop-context.asked in
    let i = c.loop-context.context in
    let own : Vec _ = get_or lists i c.index-asked-context.result in
    let many : length c.contexts-context-end.result.now ≡ length (arc_value c.args.system.now).contexts =
    sym (length-map c.contexts-context-end.result.now context_of) ∙ ap length c.contexts-context-end.ensures.value ∙ ap (λ (m : System). length m.contexts) c.deref.ensures in
    let there : slice_get lists i ≡ Some own = slice_get-get_or lists i c.index-asked-context.result (let t = c.loop-context-test.true in let l = c.loop-context.invariant.long in omega (arith, t, l, many)) in
    record {
      long = length-slice_set lists i c.open.new.asked ∙ c.loop-context.invariant.long;
      same = same_throughout lists i own c.open.new.asked there c.in_ok-open.ensures.same ∙ c.loop-context.invariant.same;
      open_now = one_more_open (arc_value c.args.system.now) lists i c.open.new.asked c.loop-context.invariant.open_now c.in_ok-open.ensures.open;
    }

pub returns-clause-open : goal.returns-clause-open
returns-clause-open c = λ i own at.
    let many : length c.contexts-context-end.result.now ≡ length (arc_value c.args.system.now).contexts =
    sym (length-map c.contexts-context-end.result.now context_of) ∙ ap length c.contexts-context-end.ensures.value ∙ ap (λ (m : System). length m.contexts) c.deref.ensures in
    let within = slice_get_within c.loop-context.asked i own at in
    c.loop-context.invariant.open_now i own (let t = c.loop-context-test.false in let l = c.loop-context.invariant.long in omega (arith, t, l, many, within)) at
