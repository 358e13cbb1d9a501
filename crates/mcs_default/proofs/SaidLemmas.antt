-- What added facts say word for word follows from them, whatever set of defaults is taken.
use Rattle.std.proofs.Common.{◌≡◌, ◌∙◌, ℕ, true, List, ◌++◌, map, sym, ap, subst, Some, slice_get, IsTrue}
use Rattle.std.specs.List.{AllByRecursion}
use Rattle.mcs_sets.specs.Sets.{has}
use Rattle.mcs_sets.proofs.Lattice.{no_member_of_none}
use Rattle.mcs_base.proofs.Each.{all_among, all_from_among, all_left, all_right}
use Rattle.mcs_system.specs.Plain.{Formula, Default, Item, Fact}
use Rattle.mcs_system.specs.Logic.{holds, Entails}
use Rattle.mcs_system.proofs.Consequence.{each_holds}
use Rattle.mcs_evidence.specs.Defaults.{facts_of, defaults_of, generated}
use Rattle.mcs_evidence.proofs.TheoryLemmas.{facts_with, defaults_with}
use Rattle.mcs_grounding.specs.Theories.{consequents}
use Rattle.mcs_default.specs.Searches.{IsLower}
use Rattle.mcs_default.specs.declared.findings.Lower as lower

module _ (items : List Item) (fs : List Formula) (set : ℕ) where
  said_each : AllByRecursion (Entails (generated (items ++ map Fact fs) set)) fs
  said_each = all_from_among (Entails (generated (items ++ map Fact fs) set)) fs (λ p among a h.
      (let all : AllByRecursion (λ q. IsTrue (holds a q)) (generated (items ++ map Fact fs) set) = (each_holds a (generated (items ++ map Fact fs) set)).1 h in
      let facts : AllByRecursion (λ q. IsTrue (holds a q)) (facts_of (items ++ map Fact fs)) = all_left (λ q. IsTrue (holds a q)) (facts_of (items ++ map Fact fs)) (consequents (defaults_of (items ++ map Fact fs)) set) all in
      let both : AllByRecursion (λ q. IsTrue (holds a q)) (facts_of items ++ fs) = subst (AllByRecursion (λ q. IsTrue (holds a q))) (facts_with items fs) facts in
      all_among (λ q. IsTrue (holds a q)) fs p (all_right (λ q. IsTrue (holds a q)) (facts_of items) fs both) among))

-- defaults whose prerequisites are entailed wherever the added facts are
pub lower_said : (items : List Item) (fs : List Formula) (ds : List Default) (e : lower.Lower) → ds ≡ defaults_of items → e.blocked ≡ 0
    → ((gs : List Formula) → AllByRecursion (Entails gs) fs → (k : ℕ) → has e.supported k ≡ true → (d : Default) → slice_get ds k ≡ Some d → Entails gs d.pre)
    → IsLower (items ++ map Fact fs) e
lower_said items fs ds e same none each = record {
  supported = λ k member d at. each (generated (items ++ map Fact fs) e.set) (said_each items fs e.set) k member d (ap (λ (xs : List Default). slice_get xs k) (same ∙ sym (defaults_with items fs)) ∙ at);
  blocked = λ k member. absurd (no_member_of_none e.blocked none k member);
}

-- one place has one default
pub same_there : (ds : List Default) (i k : ℕ) (e d : Default) → k ≡ i → slice_get ds i ≡ Some e → slice_get ds k ≡ Some d → e ≡ d
same_there ds i k e d same first second = cc
