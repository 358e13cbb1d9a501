use Rattle.std.proofs.Common.{true≢false, sym, refl, ◌∙◌}
use Rattle.std.proofs.lemmas.Bool.{false_from_ne_true}
use Rattle.std.proofs.lemmas.Bool.Decides.{not_from_Decides}
use Rattle.mcs_system.specs.declared.limit.Limit.TheVariants.{Weight, OpenParentheses, NameBytes}
use Rattle.mcs_grammar.specs.Faults.{NoContext, Exceeds, Has}
use Rattle.mcs_grammar.specs.Alone.{contexts_said}
use Rattle.mcs_faults.proofs.ToldFaults.{unknown-is, heavy-is, deep-is, long-is, lowest-unknown, lowest-heavy, lowest-deep, lowest-long, none-told}
use Rattle.mcs_faults.proofs.told.told_fault.Goals as goal

pub returns-then-names_no_context : goal.returns-then-names_no_context
returns-then-names_no_context c = λ names m a token are is.
    let h = c.names_no_context.ensures.0 c.if-names_no_context.true in
    (refl, (unknown-is names m a c.args.token.now c.args.uses token are).1 (h.0, λ there. true≢false (sym ((is h.0).1 there) ∙ h.1)), lowest-unknown names m)

pub returns-then-is_heavy : goal.returns-then-is_heavy
returns-then-is_heavy c = λ names m a token are is.
    let known : ¬ Has NoContext (contexts_said names) m = λ h. let u = (unknown-is names m a c.args.token.now c.args.uses token are).0 h in not_from_Decides c.names_no_context.result c.names_no_context.ensures c.if-names_no_context.false (u.0, false_from_ne_true c.args.is_context (λ e. u.1 ((is u.0).0 e))) in
    (refl, (heavy-is names m a c.args.token.now c.args.uses token are).1 (c.is_heavy.ensures.0 c.if-is_heavy.true), lowest-heavy names m known)

pub returns-then-is_deep : goal.returns-then-is_deep
returns-then-is_deep c = λ names m a token are is.
    let known : ¬ Has NoContext (contexts_said names) m = λ h. let u = (unknown-is names m a c.args.token.now c.args.uses token are).0 h in not_from_Decides c.names_no_context.result c.names_no_context.ensures c.if-names_no_context.false (u.0, false_from_ne_true c.args.is_context (λ e. u.1 ((is u.0).0 e))) in
    let light : ¬ Has (Exceeds Weight) (contexts_said names) m = λ h. not_from_Decides c.is_heavy.result c.is_heavy.ensures c.if-is_heavy.false ((heavy-is names m a c.args.token.now c.args.uses token are).0 h) in
    (refl, (deep-is names m a c.args.token.now c.args.uses token are).1 (c.is_deep.ensures.0 c.if-is_deep.true), lowest-deep names m known light)

pub returns-then-is_long : goal.returns-then-is_long
returns-then-is_long c = λ names m a token are is.
    let known : ¬ Has NoContext (contexts_said names) m = λ h. let u = (unknown-is names m a c.args.token.now c.args.uses token are).0 h in not_from_Decides c.names_no_context.result c.names_no_context.ensures c.if-names_no_context.false (u.0, false_from_ne_true c.args.is_context (λ e. u.1 ((is u.0).0 e))) in
    let light : ¬ Has (Exceeds Weight) (contexts_said names) m = λ h. not_from_Decides c.is_heavy.result c.is_heavy.ensures c.if-is_heavy.false ((heavy-is names m a c.args.token.now c.args.uses token are).0 h) in
    let flat : ¬ Has (Exceeds OpenParentheses) (contexts_said names) m = λ h. not_from_Decides c.is_deep.result c.is_deep.ensures c.if-is_deep.false ((deep-is names m a c.args.token.now c.args.uses token are).0 h) in
    (refl, (long-is names m a c.args.token.now c.args.uses token are).1 (c.is_long.ensures.0 c.if-is_long.true), lowest-long names m known light flat)

pub returns : goal.returns
returns c = λ names m a token are is.
    let known : ¬ Has NoContext (contexts_said names) m = λ h. let u = (unknown-is names m a c.args.token.now c.args.uses token are).0 h in not_from_Decides c.names_no_context.result c.names_no_context.ensures c.if-names_no_context.false (u.0, false_from_ne_true c.args.is_context (λ e. u.1 ((is u.0).0 e))) in
    let light : ¬ Has (Exceeds Weight) (contexts_said names) m = λ h. not_from_Decides c.is_heavy.result c.is_heavy.ensures c.if-is_heavy.false ((heavy-is names m a c.args.token.now c.args.uses token are).0 h) in
    let flat : ¬ Has (Exceeds OpenParentheses) (contexts_said names) m = λ h. not_from_Decides c.is_deep.result c.is_deep.ensures c.if-is_deep.false ((deep-is names m a c.args.token.now c.args.uses token are).0 h) in
    let short : ¬ Has (Exceeds NameBytes) (contexts_said names) m = λ h. not_from_Decides c.is_long.result c.is_long.ensures c.if-is_long.false ((long-is names m a c.args.token.now c.args.uses token are).0 h) in
    none-told names m known light flat short
