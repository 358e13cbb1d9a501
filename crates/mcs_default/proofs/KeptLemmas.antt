-- What was found with one set of assumptions tells of others.
use Rattle.std.proofs.Common.{◌≡◌, ℕ, ◌≤◌, Bool, true, false, cond, List, [], ◌∷◌, ◌++◌, map, filter, length, refl, sym, ap, ◌∙◌, subst, ◌↔◌, Some, slice_get, IsTrue, true≢false}
use Rattle.std.proofs.lemmas.Bool.{and_parts, and_from}
use Rattle.std.proofs.lemmas.List.Folds.{list_all-append}
use Rattle.std.specs.List.{AllByRecursion}
use Rattle.mcs_sets.specs.Sets.{has, Within}
use Rattle.mcs_base.proofs.Each.{all_append, all_left, all_right, all_weaker}
use Rattle.mcs_system.specs.Plain.{Name, Formula, Falsity, Not, Default, Item, Fact}
use Rattle.mcs_system.specs.Logic.{holds, holds_all, true_names, Entails}
use Rattle.mcs_system.specs.Seen.{formula_of}
use Rattle.mcs_system.proofs.Consequence.{each_holds}
use Rattle.mcs_trace.specs.Clauses.{ClauseList, all_hold}
use Rattle.mcs_cnf.specs.ClauseLists.{with_formulas, clause_list, AreOver}
use Rattle.mcs_cnf.proofs.GrowingLemmas.{grown_clauses}
use Rattle.mcs_cnf.proofs.MeaningLemmas.{extended, satisfied}
use Rattle.mcs_classical.specs.Assumptions.{assumed, HoldsAt}
use Rattle.mcs_classical.specs.declared.assumptions.Assumption.{Assumption}
use Rattle.mcs_evidence.specs.Defaults.{AreOverItems, facts_of, defaults_of, generated}
use Rattle.mcs_evidence.specs.Theories.{IsDefaultAt}
use Rattle.mcs_evidence.proofs.TheoryLemmas.{facts_with, defaults_with, over_with_facts, over_facts}
use Rattle.mcs_grounding.specs.Theories.{AreClausesOf, AreParts, consequents}
use Rattle.mcs_default.specs.Assignments.{with_part}
use Rattle.mcs_default.specs.Searches.{IsLower, IsUpper, IsConflict, AreRightFindings, CanBeAsked}
use Rattle.mcs_default.specs.Keeping.{items_with, IsTheoryBase}
use Rattle.mcs_default.specs.declared.base.TheoryBase as base
use Rattle.mcs_default.specs.declared.models.Part.TheVariants as parts
use Rattle.mcs_default.specs.declared.findings.Lower as lower
use Rattle.mcs_default.specs.declared.findings.Upper as upper
use Rattle.mcs_default.specs.declared.findings.Findings as findings

-- ---- facts that say more
module _ (items items' : List Item) (same : defaults_of items ≡ defaults_of items') (more : (a : List Name) → IsTrue (holds_all a (facts_of items')) → IsTrue (holds_all a (facts_of items))) where
  generated_more : (set : ℕ) (a : List Name) → IsTrue (holds_all a (generated items' set)) → IsTrue (holds_all a (generated items set))
  generated_more set a h =
      let all : AllByRecursion (λ p. IsTrue (holds a p)) (generated items' set) = (each_holds a (generated items' set)).1 h in
      let facts : AllByRecursion (λ p. IsTrue (holds a p)) (facts_of items') = all_left (λ p. IsTrue (holds a p)) (facts_of items') (consequents (defaults_of items') set) all in
      let rest : AllByRecursion (λ p. IsTrue (holds a p)) (consequents (defaults_of items') set) = all_right (λ p. IsTrue (holds a p)) (facts_of items') (consequents (defaults_of items') set) all in
      (each_holds a (generated items set)).0 (all_append (λ p. IsTrue (holds a p)) (facts_of items) (consequents (defaults_of items) set)
      ((each_holds a (facts_of items)).1 (more a ((each_holds a (facts_of items')).0 facts)))
      (subst (λ (ds : List Default). AllByRecursion (λ p. IsTrue (holds a p)) (consequents ds set)) (sym same) rest))

  follows_lifted : (set : ℕ) (p : Formula) → Entails (generated items set) p → Entails (generated items' set) p
  follows_lifted set p follows a h = follows a (generated_more set a h)

  there : (k : ℕ) (d : Default) → IsDefaultAt items' k d → IsDefaultAt items k d
  there k d at = subst (λ (ds : List Default). slice_get ds k ≡ Some d) (sym same) at

  pub lower_lifted : (e : lower.Lower) → IsLower items e → IsLower items' e
  lower_lifted e found = record {
    supported = λ k member d at. follows_lifted e.set d.pre (found.supported k member d (there k d at));
    blocked = λ k member d at allowed. found.blocked k member d (there k d at)
        (all_weaker (λ j. ¬ Entails (generated items' e.set) (Not j)) (λ j. ¬ Entails (generated items e.set) (Not j)) (λ j never follows. never (follows_lifted e.set (Not j) follows)) d.justs allowed);
  }

  pub conflict_lifted : (set : ℕ) → IsConflict items set → IsConflict items' set
  conflict_lifted set conflict = follows_lifted set Falsity conflict

pub upper_moved : (names : List Name) (items items' : List Item) (e : upper.Upper) → defaults_of items ≡ defaults_of items' → IsTrue (holds_all (true_names 0 names e.values) (facts_of items')) → IsUpper names items e → IsUpper names items' e
upper_moved names items items' e same model found = record {
  model = model;
  set = found.set ∙ ap (with_part (true_names 0 names e.values) parts.Consequent) same;
  supported = found.supported ∙ ap (with_part (true_names 0 names e.values) parts.Prerequisite) same;
  allowed = found.allowed ∙ ap (with_part (true_names 0 names e.values) parts.Justifications) same;
}

-- ---- formulas with the same clauses
same_facts : (names : List Name) (known : ClauseList) (fs gs : List Formula) → AreClausesOf names fs known → AreClausesOf names gs known → (a : List Name) → IsTrue (holds_all a fs) → IsTrue (holds_all a gs)
same_facts names known fs gs is is' a h =
    let v = extended fs names a is.1 h in
    satisfied gs names a v.0 is'.1 v.1 (ap (λ (x : ClauseList). all_hold v.0 x.clauses) (sym is'.0 ∙ is.0) ∙ v.2)

pub ready_from : (names : List Name) (ds : List Default) (f : findings.Findings) (items : List Item) → length names ≤ f.facts.vars
    → AreParts names items ds f.facts → AreRightFindings names items f → CanBeAsked names ds f
ready_from names ds f items room parts right = record {
  room = room;
  right = λ items' parts'.
      (let same : defaults_of items ≡ defaults_of items' = sym parts.0 ∙ parts'.0 in
      let more : (a : List Name) → IsTrue (holds_all a (facts_of items')) → IsTrue (holds_all a (facts_of items)) = same_facts names f.facts (facts_of items') (facts_of items) parts'.1 parts.1 in
      let less : (a : List Name) → IsTrue (holds_all a (facts_of items)) → IsTrue (holds_all a (facts_of items')) = same_facts names f.facts (facts_of items) (facts_of items') parts.1 parts'.1 in (
        all_weaker (IsLower items) (IsLower items') (lower_lifted items items' same more) f.lower.items right.0,
        all_weaker (IsUpper names items) (IsUpper names items') (λ e found. upper_moved names items items' e same (less (true_names 0 names e.values) found.model) found) f.upper.items right.1,
        all_weaker (IsConflict items) (IsConflict items') (conflict_lifted items items' same more) f.conflicts.items right.2,
      ));
}

-- ---- assumptions
module _ (v : List Name) (a b : ℕ) (within : Within a b) where
  fewer_hold : (xs : List Assumption) → IsTrue (holds_all v (assumed b xs)) → IsTrue (holds_all v (assumed a xs))
  fewer_hold [] h = h
  fewer_hold (x ∷ xs) h = at (has a x.number) (has b x.number) (within x.number) (fewer_hold xs) h
    where
      at : (p q : Bool) → (p ≡ true → q ≡ true) → (IsTrue (holds_all v (assumed b xs)) → IsTrue (holds_all v (assumed a xs)))
          → IsTrue (holds_all v (map (λ (y : Assumption). formula_of y.formula.now) (cond q (x ∷ filter (λ (y : Assumption). has b y.number) xs) (filter (λ (y : Assumption). has b y.number) xs))))
          → IsTrue (holds_all v (map (λ (y : Assumption). formula_of y.formula.now) (cond p (x ∷ filter (λ (y : Assumption). has a y.number) xs) (filter (λ (y : Assumption). has a y.number) xs))))
      at true true more rest h =
          let both = and_parts (holds v (formula_of x.formula.now)) (holds_all v (assumed b xs)) h in
          and_from (holds v (formula_of x.formula.now)) (holds_all v (assumed a xs)) both.0 (rest both.1)
      at true false more rest h = absurd (true≢false (sym (more refl)))
      at false true more rest h = rest ((and_parts (holds v (formula_of x.formula.now)) (holds_all v (assumed b xs)) h).1)
      at false false more rest h = rest h

held_all : (names : List Name) (values set : ℕ) (xs : List Assumption) → AllByRecursion (λ (x : Assumption). IsTrue (has set x.number) → HoldsAt names values x) xs → IsTrue (holds_all (true_names 0 names values) (assumed set xs))
held_all names values set [] all = refl
held_all names values set (x ∷ xs) (first, rest) = at (has set x.number) first (held_all names values set xs rest)
  where
    v : List Name
    v = true_names 0 names values

    at : (p : Bool) → (IsTrue p → IsTrue (holds v (formula_of x.formula.now))) → IsTrue (holds_all v (assumed set xs))
        → IsTrue (holds_all v (map (λ (y : Assumption). formula_of y.formula.now) (cond p (x ∷ filter (λ (y : Assumption). has set y.number) xs) (filter (λ (y : Assumption). has set y.number) xs))))
    at true first rest = and_from (holds v (formula_of x.formula.now)) (holds_all v (assumed set xs)) (first refl) rest
    at false first rest = rest

facts_split : (items : List Item) (fs : List Formula) (v : List Name) → IsTrue (holds_all v (facts_of (items ++ map Fact fs))) ↔ (IsTrue (holds_all v (facts_of items)) × IsTrue (holds_all v fs))
facts_split items fs v = (
  λ h. and_parts (holds_all v (facts_of items)) (holds_all v fs) (sym (list_all-append (holds v) (facts_of items) fs) ∙ sym (ap (holds_all v) (facts_with items fs)) ∙ h),
  λ both. ap (holds_all v) (facts_with items fs) ∙ list_all-append (holds v) (facts_of items) fs ∙ and_from (holds_all v (facts_of items)) (holds_all v fs) both.0 both.1,
)

module _ (items : List Item) (given : List Assumption) where
  with_fewer : (a b : ℕ) → Within a b → (v : List Name) → IsTrue (holds_all v (facts_of (items_with items given b))) → IsTrue (holds_all v (facts_of (items_with items given a)))
  with_fewer a b within v h =
      let both = (facts_split items (assumed b given) v).0 h in
      (facts_split items (assumed a given) v).1 (both.0, fewer_hold v a b within given both.1)

  same_with : (a b : ℕ) → defaults_of (items_with items given a) ≡ defaults_of (items_with items given b)
  same_with a b = defaults_with items (assumed a given) ∙ sym (defaults_with items (assumed b given))

  module _ (a b : ℕ) (within : Within a b) where
    pub lower_larger : (e : lower.Lower) → IsLower (items_with items given a) e → IsLower (items_with items given b) e
    lower_larger e found = lower_lifted (items_with items given a) (items_with items given b) (same_with a b) (with_fewer a b within) e found

    pub conflict_larger : (set : ℕ) → IsConflict (items_with items given a) set → IsConflict (items_with items given b) set
    conflict_larger set found = conflict_lifted (items_with items given a) (items_with items given b) (same_with a b) (with_fewer a b within) set found

    pub upper_smaller : (names : List Name) (e : upper.Upper) → IsUpper names (items_with items given b) e → IsUpper names (items_with items given a) e
    upper_smaller names e found = upper_moved names (items_with items given b) (items_with items given a) e (same_with b a) (with_fewer a b within (true_names 0 names e.values) found.model) found

  pub upper_held : (names : List Name) (set held : ℕ) (e : upper.Upper) → AllByRecursion (λ (x : Assumption). IsTrue (has held x.number) → HoldsAt names e.values x) given
      → IsUpper names (items_with items given set) e → IsUpper names (items_with items given held) e
  upper_held names set held e all found =
      let v : List Name = true_names 0 names e.values in
      upper_moved names (items_with items given set) (items_with items given held) e (same_with set held)
      ((facts_split items (assumed held given) v).1 (((facts_split items (assumed set given) v).0 found.model).0, held_all names e.values held given all)) found

-- the parts of a theory with added facts
pub parts_with : (names : List Name) (items : List Item) (fs : List Formula) (ds : List Default) (known new : ClauseList) → AreOverItems names items → AreOver names fs → ds ≡ defaults_of items
    → known ≡ clause_list names (facts_of items) → new ≡ with_formulas names known fs → AreParts names (items ++ map Fact fs) ds new
parts_with names items fs ds known new over over' same facts grown = (
  same ∙ sym (defaults_with items fs),
  (
    grown_clauses names known new (fs, grown) (facts_of items) facts ∙ ap (clause_list names) (sym (facts_with items fs)),
    over_facts names (items ++ map Fact fs) (over_with_facts names items fs over over'),
  ),
)

-- ---- what is kept
pub base_same : (names : List Name) (items : List Item) (given : List Assumption) (b b' : base.TheoryBase) → b'.findings.facts ≡ b.findings.facts → b'.lower ≡ b.lower → b'.upper ≡ b.upper → b'.conflicts ≡ b.conflicts
    → IsTheoryBase names items given b → IsTheoryBase names items given b'
base_same names items given b b' facts lows ups conflicts is = record {
  facts = facts ∙ is.facts;
  lower = rw lows is.lower;
  upper = rw ups is.upper;
  conflicts = rw conflicts is.conflicts;
}
