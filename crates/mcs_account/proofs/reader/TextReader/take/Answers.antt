use Rattle.std.proofs.Common.{◌≡◌, Bool, ◌&&◌, not, map, sym, ap, subst, refl, ◌∙◌}
use Rattle.mcs_productions.specs.Terminals.{number}
use Rattle.mcs_account.specs.declared.reader.TextReader.{TextReader}
use Rattle.mcs_account.specs.Account.{uses_with}
use Rattle.mcs_account.specs.Images.{IsPlace, about_place, capped, uses_in}
use Rattle.mcs_account.specs.Taken.{IsEnd, is_long}
use Rattle.mcs_account.proofs.ReaderSteps.{has-read, names-are-short, taken-with}
use Rattle.mcs_account.proofs.reader.TextReader.take.Goals as goal

pub hear-requires : goal.hear-requires
hear-requires c =
    let read = has-read _ _ _ _ _ _ c.deref.result.now (c.number.ensures.number ∙ ap number c.of.ensures) c.clear.ensures.items c.deref.ensures.value (c.in_ok-take.ensures.taken.0 c.if-not-branch.false).1 in
    record { names = λ short. names-are-short c.kind_of-kind.result c.args.token.now c.deref.result.now c.kind_of-kind.ensures (sym c.is_long_name-is_long.ensures ∙ short) read.0.tokens_are }

pub returns : goal.returns
returns c =
    let mid : TextReader = record { reader = c.take.new.self; events = c.take.new.events; account = c.hear.new.account; place = c.args.self.now.place; ended = c.args.self.now.ended } in
    let now : TextReader = c.end_read.new.self in
    let others : now ≡ record mid { account = now.account; ended = now.ended } = c.in_ok-end_read.ensures.rest in
    let read = has-read _ _ _ _ _ _ c.deref.result.now (c.number.ensures.number ∙ ap number c.of.ensures) c.clear.ensures.items c.deref.ensures.value (c.in_ok-take.ensures.taken.0 c.if-not-branch.false).1 in
    let said = c.in_ok-said.ensures in
    let long = c.is_long_name-is_long.ensures in (
      c.kind_of-kind.result,
      (
        c.deref.result.now,
        taken-with c.args.self.now mid now c.args.token.now (record { class = c.in_ok-said.said.class; uses = c.uses.result }) c.kind_of-kind.result c.deref.result.now c.kind_of-kind.ensures read.0 read.1
            (c.in_ok-take.ensures.parts) refl others said.class (c.uses.ensures.ends ∙ said.ends)
            (λ p f place. subst (λ (b : Bool). map capped (uses_with b p c.in_ok-said.said.class c.args.token.now f) ≡ uses_in (about_place p f) c.args.token.now c.uses.result) said.ends
            (c.uses.ensures.uses p f c.args.token.now (subst (λ (r : TextReader). IsPlace r.place p) (sym others) place)))
            c.uses.ensures.names (λ short. said.account (long ∙ short))
            (subst (λ (b : Bool). IsEnd (b && not (is_long c.kind_of-kind.result)) mid now) said.ends (subst (λ (l : Bool). IsEnd (c.in_ok-said.said.ends_read && not l) mid now) long c.in_ok-end_read.ensures.read)),
      ),
    )
