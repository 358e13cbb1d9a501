-- That places are those of rules and beliefs has at most one proof.
use Rattle.std.specs.Prelude.{ℕ, List}
use Rattle.std.specs.List.{list_any, list_all}
use Rattle.std.specs.Coded.{Π_prop, le_prop, Coded-set, coded_bool}
use Rattle.mcs_sets.specs.Sets.{has}
use Rattle.mcs_base.specs.OneProof.{AllZip-prop}
use Rattle.mcs_system.specs.Plain.{Name, ProgramRule}
use Rattle.mcs_system.specs.Logic.{is_in, true_names}
use Rattle.mcs_program.specs.declared.placing.PlacedRule.{PlacedRule}
use Rattle.mcs_program.specs.declared.placing.Placing.{Placing}
use Rattle.mcs_program.specs.Placing.{places_within, do_meet, IsPlaceOf, ArePlaces, IsPlacedRule, IsPlacing}

IsPlaceOf-prop : (names : List Name) (n : Name) (k : ℕ) → IsProp (IsPlaceOf names n k)
IsPlaceOf-prop names n k x y = λ i. record {
  below = le_prop x.below y.below i;
  tells = Π_prop (λ s. Coded-set coded_bool (is_in n (true_names 0 names s)) (has s k)) x.tells y.tells i;
}

ArePlaces-prop : (names these : List Name) (places : ℕ) → IsProp (ArePlaces names these places)
ArePlaces-prop names these places x y = λ i. record {
  all = Π_prop (λ s. Coded-set coded_bool (places_within places s) (list_all (λ n. is_in n (true_names 0 names s)) these)) x.all y.all i;
  some = Π_prop (λ s. Coded-set coded_bool (do_meet places s) (list_any (λ n. is_in n (true_names 0 names s)) these)) x.some y.some i;
}

IsPlacedRule-prop : (names : List Name) (r : ProgramRule) (p : PlacedRule) → IsProp (IsPlacedRule names r p)
IsPlacedRule-prop names r p x y = λ i. record {
  head = ArePlaces-prop names r.head p.head x.head y.head i;
  positive = ArePlaces-prop names r.pos p.pos x.positive y.positive i;
  negative = ArePlaces-prop names r.neg p.neg x.negative y.negative i;
}

pub IsPlacing-prop : (names : List Name) (rules : List ProgramRule) (beliefs : List Name) (p : Placing) → IsProp (IsPlacing names rules beliefs p)
IsPlacing-prop names rules beliefs p x y = λ i. record {
  placed_rules = AllZip-prop (IsPlacedRule names) (IsPlacedRule-prop names) rules p.rules.items x.placed_rules y.placed_rules i;
  placed_beliefs = AllZip-prop (IsPlaceOf names) (IsPlaceOf-prop names) beliefs p.beliefs.items x.placed_beliefs y.placed_beliefs i;
}
