use Rattle.std.proofs.Common.{sym, subst}
use Rattle.std.specs.List.{AllByRecursion}
use Rattle.mcs_base.proofs.Each.{all_push}
use Rattle.mcs_default.specs.Searches.{IsLower}
use Rattle.mcs_default.specs.Keeping.{items_with}
use Rattle.mcs_default.proofs.base.TheoryBase.select.Goals as goal

pub returns-clause-right : goal.returns-clause-right
returns-clause-right c names items given base said = (
  subst (AllByRecursion (IsLower (items_with items given c.args.set))) (sym c.in_ok-push.ensures.items)
      (all_push (IsLower (items_with items given c.args.set)) c.select_lower.new.lower.items c.args.said (c.in_ok-select_lower.ensures items given (rw c.deref.ensures.value base.lower)) said),
  c.in_ok-select_upper.ensures names items given (rw c.deref-2.ensures.value base.upper),
  c.in_ok-select_conflicts.ensures items given (rw c.deref-3.ensures.value base.conflicts),
)
