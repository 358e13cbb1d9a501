-- The files that a job reads, and what a shelf tells of them.
use Rattle.std.specs.Prelude.{ℕ, List, [], ◌∷◌, map, Option, Some, None}
use Rattle.std.specs.Option.{option_map}
use Rattle.mcs_words.specs.Commands.{Word}

-- what a shelf tells of a name: the bytes of the file, or that there is none
abbrev pub File : Type 0
File = Option (List ℕ)

-- what a shelf tells of these names; of no name it tells always
abbrev pub told_all : Option (Word → File) → List Word → Option (List File)
told_all held [] = Some []
told_all held (name ∷ names) = option_map (λ files. map files (name ∷ names)) held

-- one file is named, it is there, and this holds of its bytes
abbrev pub OfOneFile : (List ℕ → Type 0) → List File → Type 0
OfOneFile P [] = ⊥
OfOneFile P (None ∷ files) = ⊥
OfOneFile P (Some bytes ∷ []) = P bytes
OfOneFile P (Some bytes ∷ (file ∷ files)) = ⊥

-- one file or more is named, the first is there, and this holds of its bytes
abbrev pub OfFirstFile : (List ℕ → Type 0) → List File → Type 0
OfFirstFile P [] = ⊥
OfFirstFile P (None ∷ files) = ⊥
OfFirstFile P (Some bytes ∷ files) = P bytes

-- two files are named, both are there, and this holds of their bytes
abbrev pub OfTwoFiles : (List ℕ → List ℕ → Type 0) → List File → Type 0
OfTwoFiles P [] = ⊥
OfTwoFiles P (None ∷ files) = ⊥
OfTwoFiles P (Some bytes ∷ []) = ⊥
OfTwoFiles P (Some bytes ∷ (None ∷ files)) = ⊥
OfTwoFiles P (Some bytes ∷ (Some more ∷ [])) = P bytes more
OfTwoFiles P (Some bytes ∷ (Some more ∷ (file ∷ files))) = ⊥

-- two files are named, and one is not there: the first, or the second where this holds of the bytes of the first
abbrev pub LacksOneOfTwo : (List ℕ → Type 0) → List File → Type 0
LacksOneOfTwo P [] = ⊥
LacksOneOfTwo P (None ∷ files) = Unit {0}
LacksOneOfTwo P (Some bytes ∷ []) = ⊥
LacksOneOfTwo P (Some bytes ∷ (None ∷ [])) = P bytes
LacksOneOfTwo P (Some bytes ∷ (None ∷ (file ∷ files))) = ⊥
LacksOneOfTwo P (Some bytes ∷ (Some more ∷ files)) = ⊥
