use Rattle.std.proofs.Common.{◌≡◌, ◌++◌, [], ◌∷◌, refl, sym, subst, inl, inr, IfOk}
use Rattle.std.proofs.lemmas.List.{append-nil, append_assoc}
use Rattle.std.proofs.lemmas.Result.{IfOk-weaker}
use Rattle.mcs_base.specs.Numbers.{value_of_digits}
use Rattle.mcs_account.specs.declared.place.Role.{Role}
use Rattle.mcs_account.specs.declared.place.Role.TheVariants as roles
use Rattle.mcs_grammar.specs.Entries.{BeginsContext, BeginsBridge, NamesContext, NamesBridge, SaysProgram, BeginsDefault, NamesTarget, AtomOf, IsNumber}
use Rattle.mcs_account.specs.Images.{role_uses}
use Rattle.mcs_faults.specs.Watching.{HaveNoFault, IsWatch}
use Rattle.mcs_account.specs.Images.{IsNaming}
use Rattle.mcs_faults.proofs.PlainSteps.{more-context, more-bridge, step-begins_context, step-begins_bridge, step-names_source, step-weighs, step-number, step-opens}
use Rattle.mcs_faults.proofs.watch.Watch.record_role.Goals as goal

pub returns-in-NamesContext : goal.returns-in-NamesContext
returns-in-NamesContext c = λ before a watch number word free.
    let free' = subst (λ (r : Role). HaveNoFault before (role_uses a c.args.said.now.token.now r)) c.in-NamesContext.is free in
    subst (λ (r : Role). IfOk c.name_context.result (λ _. IsWatch c.name_context.new.self (before ++ role_uses a c.args.said.now.token.now r))) (sym c.in-NamesContext.is)
    (c.name_context.ensures before watch (word (subst IsNaming (sym c.in-NamesContext.is) tt)) (free' (NamesContext c.args.said.now.token.now) (inl refl)).1)

pub returns-in-NamesBridge : goal.returns-in-NamesBridge
returns-in-NamesBridge c = λ before a watch number word free.
    let free' = subst (λ (r : Role). HaveNoFault before (role_uses a c.args.said.now.token.now r)) c.in-NamesBridge.is free in
    subst (λ (r : Role). IfOk c.name_bridge.result (λ _. IsWatch c.name_bridge.new.self (before ++ role_uses a c.args.said.now.token.now r))) (sym c.in-NamesBridge.is)
    (c.name_bridge.ensures before watch (word (subst IsNaming (sym c.in-NamesBridge.is) tt)) (free' (NamesBridge c.args.said.now.token.now) (inl refl)).1)

pub returns-in-Atom : goal.returns-in-Atom
returns-in-Atom c = λ before a watch number word free.
    let free' = subst (λ (r : Role). HaveNoFault before (role_uses a c.args.said.now.token.now r)) c.in-Atom.is free in
    subst (λ (r : Role). IfOk c.add_atom.result (λ _. IsWatch c.add_atom.new.self (before ++ role_uses a c.args.said.now.token.now r))) (sym c.in-Atom.is)
    (let u = AtomOf a.subject.context c.args.said.now.token.now in
    let f = free' u (inl refl) in
    IfOk-weaker c.add_atom.result (λ _. IsWatch c.add_atom.new.self (before ++ u ∷ [])) (λ _. IsWatch c.add_atom.new.self (before ++ u ∷ IsNumber c.in-Atom.number ∷ []))
    (λ _ w. subst (IsWatch c.add_atom.new.self) (append_assoc before (u ∷ []) (IsNumber c.in-Atom.number ∷ [])) (step-number c.add_atom.new.self (before ++ u ∷ []) w c.in-Atom.number))
    (c.add_atom.ensures before a.subject.context watch number (word (subst IsNaming (sym c.in-Atom.is) tt)) f.0 f.1))

pub returns-in-BeginsContext : goal.returns-in-BeginsContext
returns-in-BeginsContext c = λ before a watch number word free.
    let free' = subst (λ (r : Role). HaveNoFault before (role_uses a c.args.said.now.token.now r)) c.in-BeginsContext.is free in
    subst (λ (r : Role). IsWatch (record { contexts = c.args.self.now.contexts; bridges = c.args.self.now.bridges; variables = c.args.self.now.variables; contexts_begun = c.saturating_add-self.result; bridges_begun = c.args.self.now.bridges_begun }) (before ++ role_uses a c.args.said.now.token.now r)) (sym c.in-BeginsContext.is)
    (step-begins_context c.args.self.now before watch _ refl refl (free' BeginsContext (inl refl)).1 (more-context c.args.self.now before watch c.saturating_add-self.result c.saturating_add-self.ensures) refl refl)

pub returns-in-BeginsBridge : goal.returns-in-BeginsBridge
returns-in-BeginsBridge c = λ before a watch number word free.
    let free' = subst (λ (r : Role). HaveNoFault before (role_uses a c.args.said.now.token.now r)) c.in-BeginsBridge.is free in
    subst (λ (r : Role). IsWatch (record { contexts = c.args.self.now.contexts; bridges = c.args.self.now.bridges; variables = c.args.self.now.variables; contexts_begun = c.args.self.now.contexts_begun; bridges_begun = c.saturating_add-self-in-BeginsBridge.result }) (before ++ role_uses a c.args.said.now.token.now r)) (sym c.in-BeginsBridge.is)
    (step-begins_bridge c.args.self.now before watch _ refl refl (free' BeginsBridge (inl refl)).1 refl (more-bridge c.args.self.now before watch c.saturating_add-self-in-BeginsBridge.result c.saturating_add-self-in-BeginsBridge.ensures) refl)

pub returns-in-SaysProgram : goal.returns-in-SaysProgram
returns-in-SaysProgram c = λ before a watch number word free.
    let free' = subst (λ (r : Role). HaveNoFault before (role_uses a c.args.said.now.token.now r)) c.in-SaysProgram.is free in
    subst (λ (r : Role). IsWatch c.say_program.new.self (before ++ role_uses a c.args.said.now.token.now r)) (sym c.in-SaysProgram.is)
    (c.say_program.ensures before a.subject.context watch number (free' (SaysProgram a.subject.context) (inl refl)).0)

pub returns-in-BeginsDefault : goal.returns-in-BeginsDefault
returns-in-BeginsDefault c = λ before a watch number word free.
    let free' = subst (λ (r : Role). HaveNoFault before (role_uses a c.args.said.now.token.now r)) c.in-BeginsDefault.is free in
    subst (λ (r : Role). IsWatch c.count_default.new.self (before ++ role_uses a c.args.said.now.token.now r)) (sym c.in-BeginsDefault.is)
    (let f = free' (BeginsDefault a.subject.context) (inl refl) in c.count_default.ensures before a.subject.context watch number f.0 f.1)

pub returns-in-NamesTarget : goal.returns-in-NamesTarget
returns-in-NamesTarget c = λ before a watch number word free.
    let free' = subst (λ (r : Role). HaveNoFault before (role_uses a c.args.said.now.token.now r)) c.in-NamesTarget.is free in
    subst (λ (r : Role). IsWatch c.count_rule.new.self (before ++ role_uses a c.args.said.now.token.now r)) (sym c.in-NamesTarget.is)
    (c.count_rule.ensures before c.args.said.now.token.now watch c.number_of.ensures (free' (NamesTarget c.args.said.now.token.now) (inl refl)).1)

pub returns-in-Nothing : goal.returns-in-Nothing
returns-in-Nothing c = λ before a watch number word free.
    let at : (r : Role) → IsWatch c.args.self.now (before ++ role_uses a c.args.said.now.token.now r) → c.args.said.now.uses.role ≡ r → IsWatch c.args.self.now (before ++ role_uses a c.args.said.now.token.now c.args.said.now.uses.role) =
    λ r w is. subst (λ (r : Role). IsWatch c.args.self.now (before ++ role_uses a c.args.said.now.token.now r)) (sym is) w in
    elim c.in-Nothing.is [
      | inl is ↦ at roles.Nothing (subst (IsWatch c.args.self.now) (sym (append-nil before)) watch) is
      | inr (inl is) ↦ at roles.NamesSource (step-names_source c.args.self.now before watch c.args.said.now.token.now) is
      | inr (inr (inl is)) ↦ at roles.Weighs (step-weighs c.args.self.now before watch (value_of_digits c.args.said.now.token.now)) is
      | inr (inr (inr (inl (n, is)))) ↦ at (roles.Counted n) (step-number c.args.self.now before watch n) is
      | inr (inr (inr (inr (n, is)))) ↦ at (roles.Opens n) (step-opens c.args.self.now before watch n) is
    ]
