-- The watch goes on with a use that says nothing of a context.
use Rattle.std.proofs.Common.{◌≡◌, ℕ, ◌+◌, List, [], ◌∷◌, ◌++◌, refl, sym, ◌∙◌, arith}
use Rattle.std.specs.Prelude.{min, ◌-◌, ◌^◌}
use Rattle.std.proofs.lemmas.List.{append-nil}
use Rattle.mcs_system.specs.Plain.{Name}
use Rattle.mcs_faults.specs.declared.watch.Watch.{Watch}
use Rattle.mcs_grammar.specs.Entries.{Use, BeginsContext, BeginsBridge, NamesBridge, Weighs, NamesSource, BeginsBelief, IsNumber, OpensWithin}
use Rattle.mcs_faults.specs.Watching.{IsWatch, IsUseAllowed}
use Rattle.mcs_account.specs.Images.{IsSpokenOf}
use Rattle.mcs_faults.proofs.ApartLemmas.{apart-begins_context, apart-begins_bridge, apart-names_bridge, apart-names_source, apart-weighs, apart-begins_belief, apart-number, apart-opens}
use Rattle.mcs_faults.proofs.StepWatch.{plain-step}

module _ (w : Watch) (before : List Use) (watch : IsWatch w before) where
  -- one more, as it is counted
  pub more-context : (n : ℕ) → n ≡ min (w.contexts_begun + 1) (2 ^ 64 - 1) → n ≡ w.contexts_begun + 1
  more-context n is = let few = watch.few.0 in omega arith

  pub more-bridge : (n : ℕ) → n ≡ min (w.bridges_begun + 1) (2 ^ 64 - 1) → n ≡ w.bridges_begun + 1
  more-bridge n is = let few = watch.few.1 in omega arith

  module _ (w' : Watch) (contexts : w'.contexts.items ≡ w.contexts.items) (variables : w'.variables.items ≡ w.variables.items) where
    pub step-begins_context : IsUseAllowed before BeginsContext → w'.contexts_begun ≡ w.contexts_begun + 1 → w'.bridges_begun ≡ w.bridges_begun → w'.bridges ≡ w.bridges → IsWatch w' (before ++ BeginsContext ∷ [])
    step-begins_context allowed begun bridges_begun bridges =
        plain-step w before watch BeginsContext tt allowed (λ t c f e. cc) apart-begins_context w' begun (omega arith) (bridges ∙ sym (append-nil w.bridges)) variables contexts refl

    pub step-begins_bridge : IsUseAllowed before BeginsBridge → w'.contexts_begun ≡ w.contexts_begun → w'.bridges_begun ≡ w.bridges_begun + 1 → w'.bridges ≡ w.bridges → IsWatch w' (before ++ BeginsBridge ∷ [])
    step-begins_bridge allowed begun bridges_begun bridges =
        plain-step w before watch BeginsBridge tt allowed (λ t c f e. cc) apart-begins_bridge w' (omega arith) bridges_begun (bridges ∙ sym (append-nil w.bridges)) variables contexts refl

    pub step-names_bridge : (b : Name) → IsUseAllowed before (NamesBridge b) → w'.contexts_begun ≡ w.contexts_begun → w'.bridges_begun ≡ w.bridges_begun → w'.bridges ≡ w.bridges ++ b ∷ [] → IsWatch w' (before ++ NamesBridge b ∷ [])
    step-names_bridge b allowed begun bridges_begun bridges =
        plain-step w before watch (NamesBridge b) tt allowed (λ t c f e. cc) (apart-names_bridge b) w' (omega arith) (omega arith) bridges variables contexts refl

  -- ---- the watch stays as it was
  pub step-names_source : (c : Name) → IsWatch w (before ++ NamesSource c ∷ [])
  step-names_source c = plain-step w before watch (NamesSource c) tt tt (λ t c f e. cc) (apart-names_source c) w (omega arith) (omega arith) (sym (append-nil w.bridges)) refl refl refl

  pub step-begins_belief : (c : Name) → IsSpokenOf before (BeginsBelief c) → IsWatch w (before ++ BeginsBelief c ∷ [])
  step-begins_belief c spoken = plain-step w before watch (BeginsBelief c) spoken tt (λ t c f e. cc) (apart-begins_belief c) w (omega arith) (omega arith) (sym (append-nil w.bridges)) refl refl refl

  pub step-weighs : (n : ℕ) → IsWatch w (before ++ Weighs n ∷ [])
  step-weighs n = plain-step w before watch (Weighs n) tt tt (λ t c f e. cc) (apart-weighs n) w (omega arith) (omega arith) (sym (append-nil w.bridges)) refl refl refl

  pub step-number : (k : ℕ) → IsWatch w (before ++ IsNumber k ∷ [])
  step-number k = plain-step w before watch (IsNumber k) tt tt (λ t c f e. cc) (apart-number k) w (omega arith) (omega arith) (sym (append-nil w.bridges)) refl refl refl

  pub step-opens : (k : ℕ) → IsWatch w (before ++ OpensWithin k ∷ [])
  step-opens k = plain-step w before watch (OpensWithin k) tt tt (λ t c f e. cc) (apart-opens k) w (omega arith) (omega arith) (sym (append-nil w.bridges)) refl refl refl
