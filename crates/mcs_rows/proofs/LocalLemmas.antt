-- The local rows of a context, by what the supplies and guesses make of its inputs and by what it accepts.
use Rattle.std.proofs.Common.{◌≡◌, ℕ, ◌<◌, ◌≤◌, ◌^◌, true, length, arith, List, refl, sym, ap, ◌∙◌, subst, ◌↔◌}
use Rattle.std.proofs.Math.Pow.{pow_mono}
use Rattle.std.specs.List.{AllByRecursion}
use Rattle.mcs_sets.specs.Sets.{has, size, common, union, Within}
use Rattle.mcs_sets.proofs.Lattice.{common-common, common_within_right}
use Rattle.mcs_sets.proofs.SetLemmas.{such_that-lt, union-lt}
use Rattle.mcs_base.specs.Listings.{IsAmong}
use Rattle.mcs_base.proofs.Among.{filter_among, among_filter, get_among}
use Rattle.mcs_base.proofs.Each.{all_from_among}
use Rattle.mcs_system.specs.Plain.{System}
use Rattle.mcs_system.specs.Faults.{IsValid}
use Rattle.mcs_system.proofs.ContextSets.{variables_of-lt}
use Rattle.mcs_system.proofs.ValidLemmas.{few_variables}
use Rattle.mcs_system.specs.Systems.{variables, variables_of, all_variables, IsAcceptedPart}
use Rattle.mcs_system.specs.Repairs.{allowed_marks}
use Rattle.mcs_system.specs.Rows.{inputs_of, local_of, IsRow}
use Rattle.mcs_system.specs.Imports.{imports, before_in, supplied, marks_at, IsImportOrder, IsQuestion, IsPossible}
use Rattle.mcs_import.specs.Plans.{guessed, AreSupplies}
use Rattle.mcs_import.specs.States.{Joins}
use Rattle.mcs_import.proofs.QuestionLemmas.{question_by_state, IsAllowed, same_marks, one_context, accepted_within, context_known, state_for, parts_of}
use Rattle.mcs_base.proofs.SetParts.{union_of_commons, commons_agree}
use Rattle.mcs_table.specs.Tables.{TableData, IsTable, IsRowOn}
use Rattle.mcs_rows.specs.Local.{IsLocalTable, AreLocalTables}
use Rattle.mcs_rows.proofs.General.{not_before, replaced, replaced-own, replaced-elsewhere, replaced-inputs, replaced-known}

-- ---- a row, by what it is made of: a state at the inputs, a question that few changes, each of them allowed, make
-- of what applies in it, and a part that is accepted with it and agrees with the state
pub record IsMade (m : System) (order : List ℕ) (level i : ℕ) (xss : List (List ℕ)) (state marks : ℕ) : Type 0 where
  pub joined : ℕ
  pub is_joined : Joins (inputs_of m i) xss 0 joined
  pub guess : ℕ
  pub of_guesses : Within guess (guessed m order i)
  pub question : ℕ
  pub asked : IsQuestion m order level i question
  pub allowed : Within (marks_at m i (union joined guess) question) (allowed_marks m)
  pub near : size (marks_at m i (union joined guess) question) ≤ level
  pub part : ℕ
  pub accepted : IsAcceptedPart m i question part
  pub agree : common part (inputs_of m i) ≡ common (union joined guess) (variables_of m i)
  pub state_is : common (union part (union joined guess)) (local_of m i) ≡ state
  pub marks_is : marks_at m i (union joined guess) question ≡ marks

module _ (m : System) (order : List ℕ) (ordered : IsImportOrder m order) (level i : ℕ) (xss : List (List ℕ)) (supplies : AreSupplies m level (supplied m order i) xss) (state marks : ℕ) where
  made_is_row : IsMade m order level i xss state marks → IsRow m order level i state marks
  made_is_row h =
      let (σ, possible, seen) = state_for m order ordered level i xss supplies h.joined h.guess h.is_joined h.of_guesses in
      made h (accepted_within m i h.question h.part h.accepted) σ possible seen
    where
      made : (h : IsMade m order level i xss state marks) → Within h.part (variables_of m i) → (σ : ℕ) → IsAllowed m order level i σ → common σ (inputs_of m i) ≡ union h.joined h.guess → IsRow m order level i state marks
      made h inside σ possible seen =
          let s : ℕ = union h.joined h.guess in
          let w : ℕ = replaced (variables_of m i) σ h.part inside in
          let own : common w (variables_of m i) ≡ h.part = replaced-own (variables_of m i) σ h.part inside in
          let seen' : common w (inputs_of m i) ≡ s = replaced-inputs (variables_of m i) σ h.part inside (inputs_of m i) s seen h.agree in
          let same : common s (inputs_of m i) ≡ common w (inputs_of m i) = ap (λ z. common z (inputs_of m i)) (sym seen') ∙ common-common w (inputs_of m i) in
          let of_rules = ((question_by_state m order ordered level i h.question).0 h.asked).0 in
          record {
            whole = w;
            of_variables = replaced-known (variables_of m i) σ h.part inside (all_variables m) possible.of_variables (context_known m i);
            rules = h.question;
            of_rules = of_rules;
            accepted = subst (IsAcceptedPart m i h.question) (sym own) h.accepted;
            supplies = λ j before imported. (
                let other : ¬ (j ≡ i) = λ e. not_before order i (subst (λ (n : ℕ). IsAmong n (before_in order i)) e before) in
                subst (IsPossible m order level j) (sym (replaced-elsewhere (variables_of m i) σ h.part inside (variables_of m j) (λ v e e'. other (one_context m j i v e e'))))
                (possible.supplies j (among_filter (imports m i) j (before_in order i) before imported)));
            state_is = sym (union_of_commons (variables_of m i) (inputs_of m i) w h.part s own seen') ∙ h.state_is;
            marks_is = sym (same_marks m i s w h.question same) ∙ h.marks_is;
            allowed = subst (λ (z : ℕ). Within z (allowed_marks m)) h.marks_is h.allowed;
            few = subst (λ (z : ℕ). size z ≤ level) h.marks_is h.near;
          }

  row_is_made : IsRow m order level i state marks → IsMade m order level i xss state marks
  row_is_made r =
      let possible : IsAllowed m order level i r.whole = record {
        of_variables = r.of_variables;
        supplies = λ j among. let (before, imported) = filter_among (imports m i) j (before_in order i) among in r.supplies j before imported;
      } in
      let (p, g, joins, within, seen) = parts_of m order ordered level i xss supplies r.whole possible in
      let same : common r.whole (inputs_of m i) ≡ common (union p g) (inputs_of m i) = sym (common-common r.whole (inputs_of m i)) ∙ ap (λ z. common z (inputs_of m i)) seen in
      let allowed : Within (marks_at m i r.whole r.rules) (allowed_marks m) = subst (λ (z : ℕ). Within z (allowed_marks m)) (sym r.marks_is) r.allowed in
      let near : size (marks_at m i r.whole r.rules) ≤ level = subst (λ (z : ℕ). size z ≤ level) (sym r.marks_is) r.few in
      record {
        joined = p;
        is_joined = joins;
        guess = g;
        of_guesses = within;
        question = r.rules;
        asked = (question_by_state m order ordered level i r.rules).1 (r.of_rules, (r.whole, possible, allowed, near));
        allowed = subst (λ (z : ℕ). Within z (allowed_marks m)) (same_marks m i r.whole (union p g) r.rules same) allowed;
        near = subst (λ (z : ℕ). size z ≤ level) (same_marks m i r.whole (union p g) r.rules same) near;
        part = common r.whole (variables_of m i);
        accepted = r.accepted;
        agree = commons_agree (variables_of m i) (inputs_of m i) r.whole (union p g) seen;
        state_is = union_of_commons (variables_of m i) (inputs_of m i) r.whole (common r.whole (variables_of m i)) (union p g) refl seen ∙ r.state_is;
        marks_is = sym (same_marks m i r.whole (union p g) r.rules same) ∙ r.marks_is;
      }

  pub rows_are_made : IsMade m order level i xss state marks ↔ IsRow m order level i state marks
  rows_are_made = (made_is_row, row_is_made)

-- ---- tables of local rows are tables
local_small : (m : System) → IsValid m → (i : ℕ) → local_of m i < 2 ^ 64
unfolding inputs_of
local_small m valid i =
    let most = pow_mono {i = length (variables m)} {j = 64} (few_variables m valid) in
    let own = variables_of-lt m i in
    let read : inputs_of m i < 2 ^ length (variables m) = such_that-lt (length (variables m)) _ in
    let both = union-lt (length (variables m)) (variables_of m i) (inputs_of m i) own read in
    omega arith

pub local_is_table : (m : System) → IsValid m → (level i : ℕ) (t : TableData) → IsLocalTable m level i t → IsTable t
local_is_table m valid level i t local = record {
  on_scope = all_from_among (IsRowOn t.scope) t.rows (λ r among.
      let of_i = (local.rows.exactly r).0 among in
      let (order, ordered, row) = of_i.local in record {
        mask = of_i.mask ∙ sym local.scope;
        partial = record {
          of_mask = λ v h. subst (λ (s : ℕ). has s v ≡ true) (sym of_i.mask) (common_within_right row.whole (local_of m i) v (subst (λ (s : ℕ). has s v ≡ true) (sym row.state_is) h));
          small = subst (λ (s : ℕ). s < 2 ^ 64) (sym of_i.mask) (local_small m valid i);
        };
      });
  ascending = local.rows.ascending;
}

pub local_are_tables : (m : System) → IsValid m → (level : ℕ) (tables : List TableData) → AreLocalTables m level tables → AllByRecursion IsTable tables
local_are_tables m valid level tables local = all_from_among IsTable tables (λ t among. let (i, is) = get_among t tables among in local_is_table m valid level i t (local.local i t is))
