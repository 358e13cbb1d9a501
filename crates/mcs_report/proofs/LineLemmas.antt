-- The lines of equilibria, one more.
use Rattle.std.proofs.Common.{◌≡◌, ℕ, ◌+◌, ◌<◌, List, ◌++◌, sym, ap, ◌∙◌, length, get_or, drop}
use Rattle.std.proofs.lemmas.List.{drop_more}
use Rattle.mcs_system.specs.Plain.{System}
use Rattle.mcs_report.specs.Listing.{state_line, state_lines}

pub lines_more : (word : List ℕ) (m : System) (xs : List ℕ) (k x : ℕ) → k < length xs → x ≡ get_or xs k x → state_lines word m (k + 1) (drop k xs) ≡ state_line word m (k + 1) x ++ state_lines word m (k + 1 + 1) (drop (k + 1) xs)
lines_more word m xs k x less is = ap (state_lines word m (k + 1)) (drop_more xs k x less) ∙ ap (λ y. state_line word m (k + 1) y ++ state_lines word m (k + 1 + 1) (drop (k + 1) xs)) (sym is)
