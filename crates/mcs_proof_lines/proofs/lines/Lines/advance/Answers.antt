use Rattle.std.proofs.Common.{◌≡◌, ℕ, ◌+◌, ◌-◌, List, length, take, drop, sym, ap, ◌∙◌, subst, arith, length-drop}
use Rattle.std.proofs.lemmas.List.{take_all}
use Rattle.mcs_spelling.specs.Lines.{complete_lines, incomplete}
use Rattle.mcs_proof_lines.specs.Walks.{At, advanced}
use Rattle.mcs_proof_lines.proofs.LineLemmas.{one_taken, none_taken}
use Rattle.mcs_proof_lines.proofs.lines.Lines.advance.Goals as goal

pub returns-in_default : goal.returns-in_default
unfolding advanced
returns-in_default c =
    subst (λ (at : At). at ≡ advanced at) c.self.view_is (none_taken c.self.inside.taken c.self.inside.left.now (sym c.in_default.is ∙ c.self.invariant.1))

pub returns : goal.returns
unfolding advanced
returns c =
    let bytes = c.self.inside.left.now in
    let place = c.in-Some.feed in
    let after : take (length bytes - (place + 1)) (drop (place + 1) bytes) ≡ drop (place + 1) bytes = take_all _ _ (omega (arith, length-drop (place + 1) bytes)) in
    let moved : List ℕ → At = λ xs. record { taken = c.self.inside.taken + 1; rest = complete_lines xs; tail = incomplete xs } in
    ap moved after ∙ one_taken c.self.inside.taken place bytes (sym c.in-Some.is ∙ c.self.invariant.1) ∙ ap (λ (at : At). advanced at) c.self.view_is
