-- What follows from formulas, that it is decided, and what a belief set shows of it.
use Rattle.std.proofs.Common.{◌≡◌, ℕ, List, IsTrue, sym, ◌∙◌, inl, inr, ◌⊎◌, ◌↔◌, true≢false}
use Rattle.std.specs.List.{AllByRecursion}
use Rattle.std.specs.Cmp.{both_ways}
use Rattle.mcs_sets.specs.Sets.{has}
use Rattle.mcs_sets.proofs.SetLemmas.{same_set}
use Rattle.mcs_base.specs.Listings.{IsAmong}
use Rattle.mcs_base.proofs.Each.{all_among, all_from_among, all_weaker, all_by_test}
use Rattle.mcs_system.specs.Plain.{Name, Formula}
use Rattle.mcs_system.specs.Logic.{BeliefSet, holds, holds_all, Entails}
use Rattle.mcs_system.specs.Views.{Shows}
use Rattle.mcs_system.proofs.Deciding.{decide}

pub each_holds : (a : List Name) (fs : List Formula) → AllByRecursion (λ p. IsTrue (holds a p)) fs ↔ IsTrue (holds_all a fs)
each_holds a fs = all_by_test (λ p. IsTrue (holds a p)) (holds a) fs (λ p _. (λ e. e, λ e. e))

pub member_follows : (fs : List Formula) (p : Formula) → IsAmong p fs → Entails fs p
member_follows fs p among a h = all_among (λ q. IsTrue (holds a q)) fs p ((each_holds a fs).1 h) among

pub follow_themselves : (fs : List Formula) → AllByRecursion (Entails fs) fs
follow_themselves fs = all_from_among (Entails fs) fs (member_follows fs)

-- what follows from consequences is a consequence
pub follows_through : (fs gs : List Formula) (p : Formula) → AllByRecursion (Entails fs) gs → Entails gs p → Entails fs p
follows_through fs gs p all follows a h = follows a ((each_holds a gs).0 (all_weaker (Entails fs) (λ q. IsTrue (holds a q)) (λ q f. f a h) gs all))

pub cases_entails : (fs : List Formula) (p : Formula) → Entails fs p ⊎ (¬ Entails fs p)
cases_entails fs p = elim (decide fs p) [ inl follows ↦ inl follows | inr other ↦ inr (λ follows. true≢false (sym (follows other.0 other.1) ∙ other.2)) ]

-- the places that a belief set shows are one set
pub one_set : (b : BeliefSet) (beliefs : List Formula) (places others : ℕ) → Shows b beliefs places → Shows b beliefs others → places ≡ others
one_set b beliefs places others shown shown' = same_set places others (λ k. both_ways (has places k) (has others k) (λ h. (shown' k).1 ((shown k).0 h)) (λ h. (shown k).1 ((shown' k).0 h)))
