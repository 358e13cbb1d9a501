-- Solvers of classical contexts: what is made of their formulas, and what is asked with heads.
use Rattle.std.proofs.Common.{◌≡◌, ℕ, List, ◌++◌, refl, sym, ap, ◌∙◌, subst}
use Rattle.std.proofs.lemmas.Option.{same_Some}
use Rattle.std.specs.BTreeMap.{IsEmpty}
use Rattle.mcs_system.specs.Plain.{Name, Formula, ClassicalKind, Kb, Classical, Context, System}
use Rattle.mcs_system.specs.Codes.{same_items}
use Rattle.mcs_system.specs.Atoms.{atoms_of}
use Rattle.mcs_system.specs.Logic.{Theory, with_heads}
use Rattle.mcs_system.specs.Systems.{variables_of, heads_into, IsAcceptedPart}
use Rattle.mcs_system.specs.Views.{Shows, IsAcceptedView, at_places, beliefs_at}
use Rattle.mcs_cnf.specs.ClauseLists.{clause_list, AreOver}
use Rattle.mcs_meant.specs.Meanings.{AreMeantBy}
use Rattle.mcs_meant.proofs.MeaningLemmas.{list_meant}
use Rattle.mcs_classical.specs.Assumptions.{AreHeads}
use Rattle.mcs_classical.specs.Consequences.{with_assumed, AreConsequences}
use Rattle.mcs_classical.specs.declared.assumptions.Assumption.{Assumption}
use Rattle.mcs_classical.proofs.ConsequenceLemmas.{same_found}
use Rattle.mcs_laws.proofs.Views.{parts_are_views}
use Rattle.mcs_asking.specs.Kinds.{IsOverKb}
use Rattle.mcs_asking.proofs.CoverLemmas.{own_over}
use Rattle.mcs_grounded.specs.Parts.{IsClassicalAt, IsSolverOf, AreToldOf}
use Rattle.mcs_grounded.specs.declared.found.Solver.{Solver}
use Rattle.mcs_grounded.proofs.Derivers.{none_told}

module _ (m : System) (i : ℕ) (fs : List Formula) (classical : IsClassicalAt m i fs) where
  pub formulas_over : AreOver (atoms_of m i) fs
  formulas_over = let (c, is, kb) = classical in subst (IsOverKb (atoms_of m i)) kb (own_over m i c is)

  -- a context has one list of formulas
  same_formulas : (gs : List Formula) → IsClassicalAt m i gs → fs ≡ gs
  same_formulas gs (d, there, kb') = let (c, is, kb) = classical in
      let same : c ≡ d = same_Some c d (sym is ∙ there) in
      same_items ClassicalKind fs gs (sym kb ∙ ap (λ (e : Context). e.kb) same ∙ kb')

  -- the clauses of the formulas, and nothing found
  pub solver_made : (s : Solver) (names : List Name) → names ≡ atoms_of m i → s.clauses ≡ clause_list names fs
      → ((gs : List Formula) (heads : List Assumption) (goals : List Formula) → AreConsequences gs heads goals s.found) → IsEmpty s.told → IsSolverOf m i s
  solver_made s names own list none empty = record {
    meant = λ gs there. subst (λ (hs : List Formula). AreMeantBy (atoms_of m i) hs s.clauses) (same_formulas gs there)
        (list_meant (atoms_of m i) fs s.clauses formulas_over (subst (λ (ns : List Name). s.clauses ≡ clause_list ns fs) own list));
    right = λ gs there heads are. none gs heads (beliefs_at m (variables_of m i));
    told = none_told m i s.told empty;
  }

  -- ---- what it is asked with, told otherwise
  module _ (names : List Name) (heads : List Assumption) (beliefs : List Formula) (own : names ≡ atoms_of m i) (are : AreHeads m i heads) (asked : beliefs ≡ beliefs_at m (variables_of m i)) where
    pub clauses_meant : (s : Solver) → IsSolverOf m i s → AreMeantBy names fs s.clauses
    clauses_meant s of = subst (λ (ns : List Name). AreMeantBy ns fs s.clauses) (sym own) (of.meant fs classical)

    pub found_right : (s : Solver) → IsSolverOf m i s → AreConsequences fs heads beliefs s.found
    found_right s of = subst (λ (bs : List Formula). AreConsequences fs heads bs s.found) (sym asked) (of.right fs classical heads are)

    pub solver_still : (s t : Solver) → IsSolverOf m i s → t.clauses ≡ s.clauses → t.told ≡ s.told → AreConsequences fs heads beliefs t.found → IsSolverOf m i t
    solver_still s t of kept told right = record {
      meant = λ gs there. subst (AreMeantBy (atoms_of m i) gs) (sym kept) (of.meant gs there);
      right = λ gs there others are'. subst (λ (hs : List Formula). AreConsequences hs others (beliefs_at m (variables_of m i)) t.found) (same_formulas gs there)
          (same_found fs (beliefs_at m (variables_of m i)) heads others t.found (λ set. are'.of_rules set ∙ sym (are.of_rules set)) (subst (λ (bs : List Formula). AreConsequences fs heads bs t.found) asked right));
      told = subst (AreToldOf m i) (sym told) of.told;
    }

    pub part_shown : (x view : ℕ) → Shows (Theory (with_assumed fs heads x)) beliefs view → IsAcceptedPart m i x (at_places (variables_of m i) view)
    part_shown x view shows =
        let (c, is, kb) = classical in
        let told : Shows (Theory (fs ++ heads_into m i x)) (beliefs_at m (variables_of m i)) view = subst (λ (hs : List Formula). Shows (Theory (fs ++ hs)) (beliefs_at m (variables_of m i)) view) (are.of_rules x)
        (subst (λ (bs : List Formula). Shows (Theory (with_assumed fs heads x)) bs view) asked shows) in
        let of_formulas : IsAcceptedView (with_heads (Classical fs) (heads_into m i x)) (beliefs_at m (variables_of m i)) view = record { belief_set = Theory (fs ++ heads_into m i x); accepted = λ a. refl; shown = told } in
        (parts_are_views m i x (at_places (variables_of m i) view) c is).1
        (view, subst (λ (k : Kb). IsAcceptedView (with_heads k (heads_into m i x)) (beliefs_at m (variables_of m i)) view) (sym kb) of_formulas, refl)
