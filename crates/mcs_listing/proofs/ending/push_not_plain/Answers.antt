use Rattle.std.proofs.Common.{◌∙◌, append_assoc}
use Rattle.std.proofs.lemmas.Result.{on_ok_weaker}
use Rattle.mcs_listing.specs.Endings.{not_plain_line}
use Rattle.mcs_listing.proofs.ending.push_not_plain.Goals as goal

pub returns : goal.returns
unfolding not_plain_line
returns c = on_ok_weaker c.push-3.result (λ e. e ∙ rw (c.in_ok-push-2.ensures.ok, c.bytes.ensures.value, c.in_ok-push.ensures.ok) (simp append_assoc)) c.push-3.ensures.ok
