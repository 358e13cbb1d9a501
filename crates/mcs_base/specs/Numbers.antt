-- Numbers, as digits spell them.
use Rattle.std.specs.Prelude.{◌≡◌, ℕ, ◌+◌, ◌*◌, ◌-◌, ◌≤◌, List, [], fold}
use Rattle.std.specs.List.{AllByRecursion}

abbrev pub IsDigit : ℕ → Type 0
IsDigit b = (48 ≤ b) × (b ≤ 57)

-- the number that the digits spell, read from left to right
abbrev pub value_of_digits : List ℕ → ℕ
value_of_digits digits = fold (λ n digit. n * 10 + (digit - 48)) 0 digits

-- the bytes are one or more digits, leading zeros among them, and their value lies within the bounds
abbrev pub IsNumber : ℕ → ℕ → List ℕ → ℕ → Type 0
IsNumber least most bytes n = ¬ (bytes ≡ []) × AllByRecursion IsDigit bytes × (value_of_digits bytes ≡ n) × (least ≤ n) × (n ≤ most)
