use Rattle.std.proofs.Common.{sym, subst}
use Rattle.mcs_session.specs.Tables.{texts_in, KeepsApart}
use Rattle.mcs_session.proofs.TableLemmas.{stored, keeps_apart}
use Rattle.mcs_session.proofs.table.number_of.Goals as goal

pub returns-in-Ok-clause-number : goal.returns-in-Ok-clause-number
returns-in-Ok-clause-number c = let (w, is, same) = c.in_ok-number.ensures.stored in rw (c.in-Ok.ensures.1) (stored c.args.text w c.insert_full.new.self.keys c.in_ok-number.number is same)

pub returns-in-Ok-clause-grown : goal.returns-in-Ok-clause-grown
returns-in-Ok-clause-grown c = subst (λ ks. KeepsApart (texts_in c.args.table.now.keys) (texts_in ks)) (sym c.in_ok-number.ensures.keys) (keeps_apart c.args.text c.args.table.now.keys)

pub returns-in-Err-clause-grown : goal.returns-in-Err-clause-grown
returns-in-Err-clause-grown c = subst (λ ks. KeepsApart (texts_in c.args.table.now.keys) (texts_in ks)) (sym c.in_ok-number.ensures.keys) (keeps_apart c.args.text c.args.table.now.keys)
