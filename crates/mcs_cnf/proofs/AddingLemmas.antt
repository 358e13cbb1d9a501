-- Clauses of formulas that are added one by one.
use Rattle.std.proofs.Common.{◌≡◌, ℕ, ◌+◌, ◌<◌, map, length, get_or, take, List, [], ◌∷◌, ◌++◌, Some, sym, ap, ◌∙◌}
use Rattle.std.proofs.lemmas.List.{map_more}
use Rattle.mcs_base.proofs.Each.{all_get}
use Rattle.mcs_base.proofs.Lists.{slice_get-map_at}
use Rattle.mcs_system.specs.Plain.{Name, Formula}
use Rattle.mcs_trace.specs.Clauses.{ClauseList}
use Rattle.mcs_cnf.specs.ClauseLists.{with_formulas, IsOver, AreOver}
use Rattle.mcs_cnf.proofs.ListLemmas.{with_append}
use Rattle.mcs_cnf.proofs.GrowingLemmas.{none-with}

module _ {A : Type 0} (seen : A → Formula) where
  pub over_at : (names : List Name) (fs : List A) (i : ℕ) (f : A) → i < length fs → f ≡ get_or fs i f → AreOver names (map seen fs) → IsOver names (seen f)
  over_at names fs i f less is over = all_get (IsOver names) (map seen fs) i (seen f) over (slice_get-map_at seen fs i f less ∙ ap (λ (g : A). Some (seen g)) (sym is))

  pub pushed_more : (names : List Name) (c0 c c' : ClauseList) (fs : List A) (i : ℕ) (f : A) → i < length fs → f ≡ get_or fs i f → c ≡ with_formulas names c0 (map seen (take i fs))
      → c' ≡ with_formulas names c (seen f ∷ []) → c' ≡ with_formulas names c0 (map seen (take (i + 1) fs))
  pushed_more names c0 c c' fs i f less is so_far pushed =
      let more : map seen (take (i + 1) fs) ≡ map seen (take i fs) ++ seen f ∷ [] = rw is (map_more seen fs i f less) in
      pushed ∙ ap (λ (x : ClauseList). with_formulas names x (seen f ∷ [])) so_far ∙ with_append names c0 (map seen (take i fs)) (seen f ∷ []) ∙ ap (with_formulas names c0) (sym more)

pub pushed_none : (names : List Name) (c : ClauseList) → c ≡ with_formulas names c []
pushed_none names c = sym (none-with names c)
