use Rattle.std.proofs.Common.{rules}
use Rattle.std.proofs.lemmas.Result.{IfOk-weaker}
use Rattle.std.proofs.lemmas.Bool.{iff_false}
use Rattle.mcs_base.proofs.Booleans.{false_tells}
use Rattle.mcs_default.proofs.SameLemmas.{same_items}
use Rattle.mcs_default.proofs.nodes.applies.Goals as goal

pub returns-then-branch : goal.returns-then-branch
returns-then-branch c = record {
  kept = search rules;
  exact = (IfOk-weaker c.allows.result _ _ (λ b h items parts d at.
      (let allowed = h items (same_items items c.in_ok-supports.ensures.kept parts) d at in
      let supported = (c.in_ok-supports.ensures.exact items parts d at).0 c.if-branch.true in
      (λ holds. (supported, allowed.0 holds), λ both. allowed.1 both.1))) c.allows.ensures.exact);
}

pub returns : goal.returns
returns c = record {
  kept = search rules;
  exact = λ items parts d at. (false_tells (λ both. iff_false (c.in_ok-supports.ensures.exact items parts d at) c.if-branch.false both.0));
}
