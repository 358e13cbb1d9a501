-- What one node comes to when it begins a round, is granted its need, or has a supply.
use Rattle.std.proofs.Common.{◌≡◌, ℕ, ◌+◌, ◌<◌, true, false, true≢false, [], Option, Some, None, refl, sym, ap, ◌∙◌, subst, inl, inr, ◌⊎◌}
use Rattle.std.proofs.lemmas.Option.{none-some}
use Rattle.mcs_states.specs.Oracles.{OracleState, with_journal}
use Rattle.mcs_states.specs.declared.halt.Halt.{Halt}
use Rattle.mcs_states.specs.declared.halt.Halt.TheVariants.{Spent, Missing, Memory}
use Rattle.mcs_node.specs.Letters.{ContentData, LetterData, Stop, Supply, is_stop}
use Rattle.mcs_node.specs.Nodes.{HasFailed, HasFinished, HasTaken, IsGranted, IsGrantHalt, IsNeed, NodeData, stopped_with, with_content, with_grant, with_had}
use Rattle.mcs_mesh.specs.Players.{FinishesOn, HasGrantCause, as_new}
use Rattle.mcs_base.proofs.Results.{some_same}

-- ---- the grant
module _ (asked need total level : ℕ) (d e : NodeData) (is_need : IsNeed d need) (adds : total ≡ asked + need) (at : d.level ≡ Some level) where
  going : d.state.halt ≡ None
  going = is_need.waits.2.halt

  finished_going : HasFinished total level d e → e.state.halt ≡ None
  finished_going f = ap (λ (z : NodeData). z.state.halt) f.rest ∙ going

  failed_halt : (f : HasFailed total level d e) → e.state.halt ≡ Some f.halt
  failed_halt f = ap (λ (z : NodeData). z.state.halt) f.rest

  -- the halt that it tells
  cause_of : (halt : Halt) → IsGrantHalt d level halt → HasGrantCause asked d halt
  cause_of (Spent l drawn) none = absurd none
  cause_of (Missing c x) h = (level, at, h)
  cause_of Memory h = tt

  pub stopped_by_grant : (halt : Halt) → ((d.budget < total) × (e ≡ stopped_with level (Spent level total) true (with_grant total d))) ⊎ (HasFinished total level d e ⊎ HasFailed total level d e) → e.state.halt ≡ Some halt → HasGrantCause asked d halt
  stopped_by_grant halt (inl (over, is)) told =
      let same : Spent level total ≡ halt = some_same e.state.halt (Spent level total) halt (ap (λ (z : NodeData). z.state.halt) is) told in
      subst (λ h. HasGrantCause asked d h) same (at, over, need, is_need, adds)
  stopped_by_grant halt (inr (inl f)) told = absurd (none-some halt (sym (finished_going f) ∙ told))
  stopped_by_grant halt (inr (inr f)) told = subst (λ h. HasGrantCause asked d h) (some_same e.state.halt f.halt halt (failed_halt f) told) (cause_of f.halt f.cause)

  pub finished_by_grant : ((d.budget < total) × (e ≡ stopped_with level (Spent level total) true (with_grant total d))) ⊎ (HasFinished total level d e ⊎ HasFailed total level d e) → e.state.halt ≡ None → FinishesOn asked total d e
  finished_by_grant (inl (over, is)) none = absurd (none-some (Spent level total) (sym none ∙ ap (λ (z : NodeData). z.state.halt) is))
  finished_by_grant (inr (inl f)) none = record { need = need; is_need = is_need; adds = adds; level = level; level_is = at; finished = f }
  finished_by_grant (inr (inr f)) none = absurd (none-some f.halt (sym none ∙ failed_halt f))

-- whatever comes of a grant, the node is as new as it was
pub granted_same : (total : ℕ) (d e : NodeData) → IsGranted total d e → as_new e ≡ as_new d
granted_same total d e (level, at, inl (over, is)) = ap as_new is
granted_same total d e (level, at, inr (inl f)) =
    ap as_new f.rest ∙ ap (λ (o : OracleState). record (as_new d) { oracle = o }) (ap (with_journal []) f.journal)
granted_same total d e (level, at, inr (inr f)) = ap as_new f.rest ∙ ap (λ (o : OracleState). record (as_new d) { oracle = o }) f.oracle

-- ---- a supply
pub content_kept : (l : LetterData) (content : ContentData) (halt : Option Halt) (d : NodeData) → is_stop content ≡ false → with_content l content halt d ≡ with_had l d
content_kept l (Supply states) halt d is = refl
content_kept l (Stop h) halt d is = absurd (true≢false is)

module _ (l : LetterData) (d e : NodeData) (supply : is_stop l.content ≡ false) (going : d.state.halt ≡ None) where
  pub had_it : HasTaken l d e → e.state.halt ≡ None → e ≡ with_had l d
  had_it (inl is) none = is ∙ content_kept l l.content d.state.halt d supply
  had_it (inr (states, content, was, is)) none = absurd (none-some Memory (sym none ∙ ap (λ (z : NodeData). z.state.halt) is))

  pub want_of_memory : HasTaken l d e → (halt : Halt) → e.state.halt ≡ Some halt → halt ≡ Memory
  want_of_memory (inl is) halt told = absurd (none-some halt (sym (ap (λ (z : NodeData). z.state.halt) (is ∙ content_kept l l.content d.state.halt d supply) ∙ going) ∙ told))
  want_of_memory (inr (states, content, was, is)) halt told = some_same e.state.halt halt Memory told (ap (λ (z : NodeData). z.state.halt) is)

  pub taken_same : HasTaken l d e → as_new e ≡ as_new d
  taken_same (inl is) = ap as_new (is ∙ content_kept l l.content d.state.halt d supply)
  taken_same (inr (states, content, was, is)) = ap as_new is
