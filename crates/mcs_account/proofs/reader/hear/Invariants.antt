use Rattle.std.proofs.Common.{◌≡◌, Bool, false, ◌||◌, drop}
use Rattle.mcs_grammar.specs.Entries.{Token}
use Rattle.mcs_productions.specs.declared.class.Class.TheVariants as class
use Rattle.mcs_account.specs.declared.reader.Heard.{Heard}
use Rattle.mcs_account.specs.Account.{Account}
use Rattle.mcs_account.specs.Images.{account_of}
use Rattle.mcs_account.specs.Reading.{Events, class_in, ends_in, heard}
use Rattle.mcs_account.proofs.reader.hear.Given as goal

-- what was heard of all events, where this was heard and these are left
pub record AreHeard (all rest : Events) (t : Token) (said : Heard) (from now : Account) (long : Bool) : Type 0 where
  pub class_is : class_in said.class rest ≡ class_in class.IsAtom all
  pub ends_is : (said.ends_read || ends_in rest) ≡ ends_in all
  pub account : long ≡ false → heard now t rest ≡ heard from t all

abbrev pub invariant-loop-event : goal.invariant-loop-event
invariant-loop-event l = AreHeard l.events (drop l.event-index l.events) l.token l.said (account_of l.initial.account) (account_of l.account) l.is_long
