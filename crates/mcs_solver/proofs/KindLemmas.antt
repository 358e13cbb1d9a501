-- Heads of rules as assumptions, and what is kept of a context.
use Rattle.std.proofs.Common.{◌≡◌, ℕ, ◌+◌, Bool, true, false, cond, List, [], ◌∷◌, ◌++◌, map, Some, None, slice_get, refl, sym, ◌∙◌, subst}
use Rattle.std.specs.Prelude.{Option, option_to_list}
use Rattle.mcs_base.proofs.Each.{all_left, all_push, all_right, all_weaker}
use Rattle.mcs_system.specs.Plain.{Name, Formula, Item, Fact, ClassicalKind, DefaultKind, Kb, OfKind, Context, System}
use Rattle.mcs_system.specs.Atoms.{atoms_of}
use Rattle.mcs_system.specs.Systems.{variables_of, heads_into}
use Rattle.mcs_system.specs.Views.{beliefs_at}
use Rattle.mcs_trace.specs.Clauses.{ClauseList}
use Rattle.mcs_meant.specs.Meanings.{AreMeantBy}
use Rattle.mcs_classical.specs.Assumptions.{assumed}
use Rattle.mcs_classical.specs.Consequences.{AreConsequences}
use Rattle.mcs_classical.specs.declared.assumptions.Assumption.{Assumption}
use Rattle.mcs_classical.specs.declared.consequences.Consequences.{Consequences}
use Rattle.mcs_classical.proofs.ConsequenceLemmas.{same_found}
use Rattle.mcs_default.specs.Searches.{IsLower as IsLowerOfItems, IsUpper as IsUpperOfItems, IsConflict}
use Rattle.mcs_default.specs.Keeping.{IsKeptLower, IsKeptUpper, IsKeptConflict, IsTheoryBase}
use Rattle.mcs_default.specs.declared.kept.KeptLower.{KeptLower}
use Rattle.mcs_default.specs.declared.kept.KeptUpper.{KeptUpper}
use Rattle.mcs_default.specs.declared.kept.KeptConflict.{KeptConflict}
use Rattle.mcs_default.specs.declared.base.TheoryBase.{TheoryBase}
use Rattle.mcs_solver.specs.Kinds.{AreMadeOfContext, AreRightConsequences, IsMadeOfFormulas, IsMadeOfItems, IsMadeOf, IsMadeOfContext}
use Rattle.mcs_solver.specs.declared.known.Known.{Known}
use Rattle.mcs_solver.specs.declared.known.Known.TheVariants as variants

-- ---- what was found
-- what is right of these assumptions is right of all with the same heads
pub found_of : (fs goals : List Formula) (xs : List Assumption) (found : Consequences) → AreConsequences fs xs goals found → AreRightConsequences fs (λ set. assumed set xs) goals found
found_of fs goals xs found are ys same = same_found fs goals xs ys found same are

-- where the clauses are as they were, and what is found is still right
pub still_made : (names : List Name) (fs goals : List Formula) (xs : List Assumption) (clauses' clauses : ClauseList) (found' found : Consequences) → clauses' ≡ clauses
    → (AreMeantBy names fs clauses → AreConsequences fs xs goals found → AreConsequences fs xs goals found') → IsMadeOfFormulas names fs (λ set. assumed set xs) goals clauses found → IsMadeOfFormulas names fs (λ set. assumed set xs) goals clauses' found'
still_made names fs goals xs clauses' clauses found' found kept right made = (subst (AreMeantBy names fs) (sym kept) made.0, found_of fs goals xs found' (right made.0 (made.1 xs (λ set. refl))))

-- ---- what was found of a default theory
same_base : (names : List Name) (items : List Item) (xs ys : List Assumption) (base : TheoryBase) → ((set : ℕ) → assumed set ys ≡ assumed set xs) → IsTheoryBase names items xs base → IsTheoryBase names items ys base
same_base names items xs ys base same is = record {
  facts = is.facts;
  lower = all_weaker (IsKeptLower items xs) (IsKeptLower items ys) (λ (k : KeptLower) h. subst (λ (hs : List Formula). IsLowerOfItems (items ++ map Fact hs) k.lower) (sym (same k.assumed)) h) base.lower.items is.lower;
  upper = all_weaker (IsKeptUpper names items xs) (IsKeptUpper names items ys) (λ (k : KeptUpper) h. subst (λ (hs : List Formula). IsUpperOfItems names (items ++ map Fact hs) k.upper) (sym (same k.assumed)) h) base.upper.items is.upper;
  conflicts = all_weaker (IsKeptConflict items xs) (IsKeptConflict items ys) (λ (k : KeptConflict) h. subst (λ (hs : List Formula). IsConflict (items ++ map Fact hs) k.set) (sym (same k.assumed)) h) base.conflicts.items is.conflicts;
}

-- what was found with these assumptions was found with all that have the same heads
pub base_of : (names : List Name) (items : List Item) (xs : List Assumption) (base : TheoryBase) → IsTheoryBase names items xs base → IsMadeOfItems names items (λ set. assumed set xs) base
base_of names items xs base is ys same = same_base names items xs ys base same is

-- ---- what is kept
module _ (names : List Name) (heads heads' : ℕ → List Formula) (beliefs : List Formula) (same : (set : ℕ) → heads set ≡ heads' set) where
  pub made_for : (kb : Kb) (known : Option Known) → IsMadeOf names kb heads beliefs known → IsMadeOf names kb heads' beliefs known
  made_for (OfKind ClassicalKind fs) (Some (variants.Classical clauses found)) made = (made.0, λ xs is. made.1 xs (λ set. is set ∙ sym (same set)))
  made_for (OfKind ClassicalKind fs) (Some (variants.Certified clauses)) made = made
  made_for (OfKind DefaultKind items) (Some (variants.Theory base)) made = λ xs is. made xs (λ set. is set ∙ sym (same set))
  made_for kb known made = tt

pub made_there : (m : System) (i : ℕ) (d : Context) (known : Option Known) → slice_get m.contexts i ≡ Some d → IsMadeOf (atoms_of m i) d.kb (heads_into m i) (beliefs_at m (variables_of m i)) known → IsMadeOfContext m i known
made_there m i d known is made c is' =
    let same : d ≡ c = (let e : Some d ≡ Some c = sym is ∙ is' in cc) in
    subst (λ (x : Context). IsMadeOf (atoms_of m i) x.kb (heads_into m i) (beliefs_at m (variables_of m i)) known) same made

-- the same where the names, the heads and the beliefs are told otherwise
module _ (m : System) (i : ℕ) (d : Context) (names : List Name) (xs : List Assumption) (beliefs : List Formula) (there : slice_get m.contexts i ≡ Some d)
    (own : names ≡ atoms_of m i) (told : (rules : ℕ) → assumed rules xs ≡ heads_into m i rules) (asked : beliefs ≡ beliefs_at m (variables_of m i)) where
  pub made_asked : (known : Option Known) → IsMadeOfContext m i known → IsMadeOf names d.kb (λ rules. assumed rules xs) beliefs known
  made_asked known made = subst (λ (ns : List Name). IsMadeOf ns d.kb (λ rules. assumed rules xs) beliefs known) (sym own) (subst (λ (bs : List Formula). IsMadeOf (atoms_of m i) d.kb (λ rules. assumed rules xs) bs known) (sym asked)
      (made_for (atoms_of m i) (heads_into m i) (λ rules. assumed rules xs) (beliefs_at m (variables_of m i)) (λ rules. sym (told rules)) d.kb known (made d there)))

  pub asked_made : (known : Option Known) → IsMadeOf names d.kb (λ rules. assumed rules xs) beliefs known → IsMadeOfContext m i known
  asked_made known made = made_there m i d known there (made_for (atoms_of m i) (λ rules. assumed rules xs) (heads_into m i) (beliefs_at m (variables_of m i)) told d.kb known
      (subst (λ (ns : List Name). IsMadeOf ns d.kb (λ rules. assumed rules xs) (beliefs_at m (variables_of m i)) known) own (subst (λ (bs : List Formula). IsMadeOf names d.kb (λ rules. assumed rules xs) bs known) asked made)))

-- ---- what others have found
none_made : (names : List Name) (kb : Kb) (heads : ℕ → List Formula) (beliefs : List Formula) → IsMadeOf names kb heads beliefs None
none_made names (OfKind ClassicalKind fs) heads beliefs = tt
none_made names kb heads beliefs = tt

module _ (m : System) (i : ℕ) where
  -- nothing is right of every context
  pub nothing_made : IsMadeOfContext m i None
  nothing_made = λ c there. none_made (atoms_of m i) c.kb (heads_into m i) (beliefs_at m (variables_of m i))

  -- the last of it, if there is one, is taken off
  pub last_made : (found rest : List Known) (last : Option Known) → found ≡ rest ++ option_to_list last → AreMadeOfContext m i found → IsMadeOfContext m i last
  last_made found rest None is made = nothing_made
  last_made found rest (Some known) is made = (all_right (λ (k : Known). IsMadeOfContext m i (Some k)) rest (known ∷ []) (subst (AreMadeOfContext m i) is made)).0

  pub rest_made : (found rest : List Known) (last : Option Known) → found ≡ rest ++ option_to_list last → AreMadeOfContext m i found → AreMadeOfContext m i rest
  rest_made found rest last is made = all_left (λ (k : Known). IsMadeOfContext m i (Some k)) rest (option_to_list last) (subst (AreMadeOfContext m i) is made)

  -- one more is put behind it, if there is memory
  pub more_made : (room : Bool) (found : List Known) (known : Known) → AreMadeOfContext m i found → IsMadeOfContext m i (Some known) → AreMadeOfContext m i (cond room (found ++ known ∷ []) found)
  more_made true found known made one = all_push (λ (k : Known). IsMadeOfContext m i (Some k)) found known made one
  more_made false found known made one = made
