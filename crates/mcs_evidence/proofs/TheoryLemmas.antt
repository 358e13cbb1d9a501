-- The items of a theory with added facts, and the defaults of a set.
use Rattle.std.proofs.Common.{◌≡◌, ℕ, ◌+◌, ◌<◌, Bool, true, false, cond, ltb, not, ◌&&◌, List, [], ◌∷◌, ◌++◌, map, length, arith, refl, ap, ◌∙◌}
use Rattle.std.proofs.lemmas.Bool.Decides.{nat_tests}
use Rattle.mcs_sets.specs.Sets.{has, minus}
use Rattle.mcs_sets.proofs.SetLemmas.{has-minus, has-such_that}
use Rattle.mcs_base.proofs.Each.{all_append, all_map}
use Rattle.mcs_system.specs.Plain.{Name, Formula, Default, Item, Fact, Rule}
use Rattle.mcs_cnf.specs.ClauseLists.{IsOver, AreOver}
use Rattle.mcs_evidence.specs.Defaults.{AreOverItems, IsOverItem, facts_of, defaults_of, defaults_at}
use Rattle.mcs_evidence.specs.Theories.{AreOverDefaults, all_of}
use Rattle.mcs_evidence.proofs.DefaultLemmas.{by_kind}

-- ---- added facts
facts_only : (fs : List Formula) → facts_of (map Fact fs) ≡ fs
facts_only [] = refl
facts_only (f ∷ fs) = ap (λ (gs : List Formula). f ∷ gs) (facts_only fs)

no_defaults : (fs : List Formula) → defaults_of (map Fact fs) ≡ []
no_defaults [] = refl
no_defaults (f ∷ fs) = no_defaults fs

pub facts_with : (items : List Item) (fs : List Formula) → facts_of (items ++ map Fact fs) ≡ facts_of items ++ fs
facts_with [] fs = facts_only fs
facts_with (Fact f ∷ items) fs = ap (λ (gs : List Formula). f ∷ gs) (facts_with items fs)
facts_with (Rule d ∷ items) fs = facts_with items fs

pub defaults_with : (items : List Item) (fs : List Formula) → defaults_of (items ++ map Fact fs) ≡ defaults_of items
defaults_with [] fs = no_defaults fs
defaults_with (Fact f ∷ items) fs = defaults_with items fs
defaults_with (Rule d ∷ items) fs = ap (λ (ds : List Default). d ∷ ds) (defaults_with items fs)

-- ---- what is over the names
pub over_with_facts : (names : List Name) (items : List Item) (fs : List Formula) → AreOverItems names items → AreOver names fs → AreOverItems names (items ++ map Fact fs)
over_with_facts names items fs over over' = all_append (IsOverItem names) items (map Fact fs) over (all_map Fact (IsOver names) (IsOverItem names) (λ f h. h) fs over')

pub over_facts : (names : List Name) (items : List Item) → AreOverItems names items → AreOver names (facts_of items)
over_facts names items over = (by_kind (IsOverItem names) items over).0

pub over_defaults : (names : List Name) (items : List Item) → AreOverItems names items → AreOverDefaults names (defaults_of items)
over_defaults names items over = (by_kind (IsOverItem names) items over).1

pub consequents_over : (names : List Name) (j : ℕ) (ds : List Default) (set : ℕ) → AreOverDefaults names ds → AreOver names (map (λ (d : Default). d.conclusion) (defaults_at j ds set))
consequents_over names j [] set over = tt
consequents_over names j (d ∷ ds) set over = at (has set j) (consequents_over names (j + 1) ds set over.1)
  where
    at : (b : Bool) → AreOver names (map (λ (d : Default). d.conclusion) (defaults_at (j + 1) ds set)) → AreOver names (map (λ (d : Default). d.conclusion) (cond b (d ∷ defaults_at (j + 1) ds set) (defaults_at (j + 1) ds set)))
    at true rest = (over.0.2, rest)
    at false rest = rest

-- ---- the defaults outside a set
abbrev pub others : List Default → ℕ → ℕ
others ds set = minus (all_of ds) set

pub has-others : (ds : List Default) (set i : ℕ) (b : Bool) → i < length ds → has set i ≡ b → has (others ds set) i ≡ not b
has-others ds set i b less is =
    let below : ltb i (length ds) ≡ true = grind (arith, nat_tests) in
    has-minus (all_of ds) set i ∙ ap (λ c. c && not (has set i)) (has-such_that (length ds) (λ k. true) i ∙ ap (λ c. c && true) below) ∙ ap not is
