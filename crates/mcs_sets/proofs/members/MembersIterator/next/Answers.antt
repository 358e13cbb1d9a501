use Rattle.std.proofs.Common.{◌≡◌, [], ap, ◌∙◌, sym, rules}
use Rattle.mcs_sets.specs.Sets.{members}
use Rattle.mcs_sets.proofs.SetLemmas.{members-empty, members-least}
use Rattle.mcs_sets.proofs.members.MembersIterator.next.Goals as goal

pub returns-in_err-least-clause-steps : goal.returns-in_err-least-clause-steps
returns-in_err-least-clause-steps c =
    let none : c.args.self.now ≡ [] = sym c.self.view_is ∙ ap members c.in_err-least.ensures.empty ∙ members-empty in
    rw c.from_residual.ensures (none, none)

pub returns-clause-steps : goal.returns-clause-steps
returns-clause-steps c = rw (← c.self.view_is, c.without-self-inside.ensures) (members-least _ _ c.in_ok-least.ensures.least)

pub returns-clause-goes : goal.returns-clause-goes
returns-clause-goes c = rw (← c.self.view_is, c.without-self-inside.ensures, members-least _ _ c.in_ok-least.ensures.least) (search rules)
