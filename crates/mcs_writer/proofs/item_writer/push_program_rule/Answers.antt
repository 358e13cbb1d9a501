use Rattle.std.proofs.Common.{◌≡◌, ◌∙◌, ◌++◌, length, vec_len, sym, ap}
use Rattle.std.proofs.lemmas.Result.{on_ok_weaker}
use Rattle.mcs_writer.specs.Canonical.{rule_sign}
use Rattle.mcs_writer.proofs.WriterLemmas.{rule_written}
use Rattle.mcs_writer.proofs.item_writer.push_program_rule.Goals as goal

pub returns : goal.returns
returns c =
    let r = c.args.rule.now in
    let len : vec_len r.pos ≡ length r.pos.items = sym c.deref-2.ensures.len ∙ ap length c.deref-2.ensures.value in
    on_ok_weaker c.push_literals-2.result
    (λ e. e ∙ rw (c.in_ok-push_literals.ensures, c.in_ok-push.ensures.ok, c.in_ok-push_head.ensures, c.rule_sign.ensures, c.is_empty.ensures, len, c.deref.ensures.value, c.deref-2.ensures.value, c.deref-3.ensures.value)
    (rule_written c.args.text.now (rule_sign r.head.items (r.pos.items ++ r.neg.items)) r.head.items r.pos.items r.neg.items))
    c.push_literals-2.ensures
