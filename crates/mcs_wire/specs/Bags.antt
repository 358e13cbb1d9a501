-- Lists as bags. Two bags are the same if they weigh the same, whatever the values weigh: with the weight 1 for one value and 0 for the others, a bag weighs how often it has the value.
use Rattle.std.specs.Prelude.{◌≡◌, ℕ, ◌+◌, List}
use Rattle.std.specs.List.{sum_by}

-- as bags, the first two lists together are the third
abbrev pub AreTogether : {A : Type 0} → List A → List A → List A → Type 0
AreTogether {A} one other whole = (weight : A → ℕ) → sum_by weight whole ≡ sum_by weight one + sum_by weight other
