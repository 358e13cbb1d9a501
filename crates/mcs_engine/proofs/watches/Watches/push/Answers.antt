use Rattle.std.proofs.Common.{ℤ, Option, IfSome, refl, sym, subst}
use Rattle.mcs_trace.specs.Clauses.{IsLiteral}
use Rattle.mcs_trace.proofs.OrderLemmas.{read_literal}
use Rattle.mcs_engine.specs.declared.watches.Pair.{Pair}
use Rattle.mcs_engine.specs.Lists.{IsInList}
use Rattle.mcs_engine.specs.Watching.{IsPushed}
use Rattle.mcs_engine.proofs.watches.Watches.push.Goals as goal

pub returns-in_err-add-in-Some-2-clause-kept : goal.returns-in_err-add-in-Some-2-clause-kept
returns-in_err-add-in-Some-2-clause-kept c = record { listed = λ l i listed. c.add-in-Some.ensures.kept.listed l i (c.add.ensures.kept.listed l i listed) }

pub returns-in_err-push-in-Some-clause-kept : goal.returns-in_err-push-in-Some-clause-kept
returns-in_err-push-in-Some-clause-kept c = record { listed = λ l i listed. c.add-in-Some.ensures.kept.listed l i (c.add.ensures.kept.listed l i listed) }

pub returns-in_ok-push-in-Some-clause-kept : goal.returns-in_ok-push-in-Some-clause-kept
returns-in_ok-push-in-Some-clause-kept c = record { listed = λ l i listed. c.add-in-Some.ensures.kept.listed l i (c.add.ensures.kept.listed l i listed) }

-- ---- what stays as it is
pub returns-in_err-add-in-Some-clause-kept : goal.returns-in_err-add-in-Some-clause-kept
returns-in_err-add-in-Some-clause-kept c = c.add.ensures.kept

pub returns-in-Err-clause-kept : goal.returns-in-Err-clause-kept
returns-in-Err-clause-kept c = record { listed = λ l i listed. listed }

pub returns-in_default-clause-kept : goal.returns-in_default-clause-kept
returns-in_default-clause-kept c = record { listed = λ l i listed. listed }

pub returns-in_err-push-in-None-clause-kept : goal.returns-in_err-push-in-None-clause-kept
returns-in_err-push-in-None-clause-kept c = record { listed = λ l i listed. listed }

pub returns-in_ok-push-in-Some-clause-pushed : goal.returns-in_ok-push-in-Some-clause-pushed
returns-in_ok-push-in-Some-clause-pushed c =
    let old = c.args.self.now in
    let p : Pair = c.in-Some.pair in
    let last = c.len-index.ensures in
    let literals = subst (λ (o : Option Pair). IfSome o (λ q. IsLiteral q.first × IsLiteral q.second)) c.in-Some.is c.requires.literals in
    let first : IsInList c.add.new.self p.first c.len-index.result = subst (λ (l : ℤ). IsInList c.add.new.self l c.len-index.result) (read_literal p.first literals.0) c.in_ok-add-in-Some.ensures.listed in
    let second : IsInList c.add-in-Some.new.self p.second c.len-index.result = subst (λ (l : ℤ). IsInList c.add-in-Some.new.self l c.len-index.result) (read_literal p.second literals.1) c.in_ok-add-in-Some-2.ensures.listed in
    subst (IsPushed old (record { pairs = c.push.new.self; lists = c.add-in-Some.new.self; short = old.short })) (sym c.in-Some.is) (
      c.in_ok-push-in-Some.ensures.ok,
      refl,
      subst (IsInList c.add-in-Some.new.self p.first) last (c.add-in-Some.ensures.kept.listed p.first c.len-index.result first),
      subst (IsInList c.add-in-Some.new.self p.second) last second,
    )
