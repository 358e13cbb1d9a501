-- Of lists, clause lists and the defaults of a set.
use Rattle.std.proofs.Common.{◌≡◌, ℕ, ◌+◌, ◌<◌, ◌≤◌, true, false, List, [], ◌∷◌, ◌++◌, map, length, get_or, take, sym, ap, ◌∙◌}
use Rattle.std.proofs.lemmas.List.{map_push, append-nil}
use Rattle.mcs_sets.specs.Sets.{has}
use Rattle.mcs_base.proofs.Each.{all_append}
use Rattle.mcs_base.proofs.Lists.{flat_map_push}
use Rattle.mcs_system.specs.Plain.{Name, Formula, Not, Default}
use Rattle.mcs_trace.specs.Clauses.{ClauseList}
use Rattle.mcs_cnf.specs.ClauseLists.{with_formulas, IsOver}
use Rattle.mcs_cnf.proofs.ListLemmas.{with_append}
use Rattle.mcs_cnf.proofs.GrowingLemmas.{grown_clauses}
use Rattle.mcs_evidence.specs.Defaults.{defaults_at, negated_justs}
use Rattle.mcs_evidence.proofs.TheoryLemmas.{consequents_over}
use Rattle.mcs_grounding.specs.Theories.{AreClausesOf, consequents}
use Rattle.mcs_evidence.specs.Theories.{AreOverDefaults}
use Rattle.mcs_evidence.proofs.Picked.{picked_in, picked_out, picked_all}

-- ---- the defaults of a set, one after the other
module _ {A : Type 0} (view : A → Default) where
  -- ---- the code's loop over the consequents
  pub consequents_in : (names : List Name) (xs : List A) (set i : ℕ) (x : A) (c0 c c' : ClauseList) → i < length xs → x ≡ get_or xs i x → has set i ≡ true
      → c ≡ with_formulas names c0 (consequents (map view (take i xs)) set) → c' ≡ with_formulas names c ((view x).conclusion ∷ [])
      → c' ≡ with_formulas names c0 (consequents (map view (take (i + 1) xs)) set)
  consequents_in names xs set i x c0 c c' less is member before pushed =
      pushed ∙ ap (λ (y : ClauseList). with_formulas names y ((view x).conclusion ∷ [])) before
      ∙ with_append names c0 (consequents (map view (take i xs)) set) ((view x).conclusion ∷ [])
      ∙ ap (with_formulas names c0) (sym (ap (map (λ (d : Default). d.conclusion)) (picked_in view xs set i x less is member) ∙ map_push (λ (d : Default). d.conclusion) (defaults_at 0 (map view (take i xs)) set) (view x)))

  pub consequents_out : (names : List Name) (xs : List A) (set i : ℕ) (x : A) (c0 c : ClauseList) → i < length xs → x ≡ get_or xs i x → has set i ≡ false
      → c ≡ with_formulas names c0 (consequents (map view (take i xs)) set) → c ≡ with_formulas names c0 (consequents (map view (take (i + 1) xs)) set)
  consequents_out names xs set i x c0 c less is member before =
      before ∙ ap (λ (ds : List Default). with_formulas names c0 (map (λ (d : Default). d.conclusion) ds)) (sym (picked_out view xs set i x less is member))

  pub consequents_all : (names : List Name) (xs : List A) (set i : ℕ) (c0 c : ClauseList) → length xs ≤ i
      → c ≡ with_formulas names c0 (consequents (map view (take i xs)) set) → c ≡ with_formulas names c0 (consequents (map view xs) set)
  consequents_all names xs set i c0 c past before =
      before ∙ ap (λ (ds : List Default). with_formulas names c0 (map (λ (d : Default). d.conclusion) ds)) (picked_all view xs set i past)

pub negated_push : (ds : List Default) (d : Default) → negated_justs (ds ++ d ∷ []) ≡ negated_justs ds ++ map Not d.justs
negated_push ds d = flat_map_push (λ (d : Default). map Not d.justs) ds d

pub negated_one : (d : Default) → negated_justs (d ∷ []) ≡ map Not d.justs
negated_one d = append-nil (map Not d.justs)

-- the clauses of the facts and the consequents of a set
pub generated_clauses : (names : List Name) (fs : List Formula) (ds : List Default) (set : ℕ) (known new : ClauseList) → AreOverDefaults names ds → new ≡ with_formulas names known (consequents ds set) → AreClausesOf names fs known → AreClausesOf names (fs ++ consequents ds set) new
generated_clauses names fs ds set known new over grown (is, over') = (
  grown_clauses names known new (consequents ds set, grown) fs is,
  all_append (IsOver names) fs (consequents ds set) over' (consequents_over names 0 ds set over),
)
