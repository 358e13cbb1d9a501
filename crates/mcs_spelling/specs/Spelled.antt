-- What of a part of a line is spelled so far: words of the proofs that what is read is spelled.
use Rattle.std.specs.Prelude.{ℕ, nat_eq, Bool, true, false, cond, List, [], ◌++◌, codes, ℤ}
use Rattle.std.specs.List.{flat_map}
use Rattle.std.specs.Fmt.{decimal}
use Rattle.mcs_spelling.specs.Parts.{literal_text}

-- of a number
abbrev pub begun : ℕ → List ℕ
begun n = cond (nat_eq n 0) [] (decimal n)

-- of a literal: its sign
abbrev pub signs : Bool → List ℕ
signs true = codes "-"
signs false = []

-- of literals: each with a space after it
abbrev pub trailed : List ℤ → List ℕ
trailed ls = flat_map (λ l. literal_text l ++ codes " ") ls

-- before a member of a set, which may be the first
abbrev pub sep : Bool → List ℕ
sep true = []
sep false = codes ", "
