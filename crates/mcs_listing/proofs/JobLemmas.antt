-- What a shelf tells of the files of a job.
use Rattle.std.proofs.Common.{◌≡◌, ◌⊎◌, ℕ, List, [], ◌∷◌, Option, Some, None, IfSome, IsSome, refl, inl, inr}
use Rattle.mcs_words.specs.Commands.{Word}
use Rattle.mcs_listing.specs.Jobs.{File, told_all, OfOneFile, OfFirstFile, OfTwoFiles, LacksOneOfTwo}

-- what holds of one file
pub told_one : (held : Option (Word → File)) (name : Word) (P : List File → Type 0) → IfSome held (λ files. P (files name ∷ [])) → IfSome (told_all held (name ∷ [])) P
told_one None name P h = tt
told_one (Some files) name P h = h

pub told_also : (told : Option (List File)) (P Q : List File → Type 0) → ((files : List File) → P files → Q files) → IfSome told P → IfSome told Q
told_also None P Q f h = tt
told_also (Some files) P Q f h = f files h

pub of_file : (P Q : List ℕ → Type 0) → ((bytes : List ℕ) → P bytes → Q bytes) → (files : List File) → OfOneFile P files → OfOneFile Q files
of_file P Q f [] h = absurd h
of_file P Q f (None ∷ files) h = absurd h
of_file P Q f (Some bytes ∷ []) h = f bytes h
of_file P Q f (Some bytes ∷ (file ∷ files)) h = absurd h

pub apart_of_file : (P Q : List ℕ → Type 0) → ((bytes : List ℕ) → P bytes → Q bytes → ⊥) → (files : List File) → OfOneFile P files → OfOneFile Q files → ⊥
apart_of_file P Q f [] h k = h
apart_of_file P Q f (None ∷ files) h k = h
apart_of_file P Q f (Some bytes ∷ []) h k = f bytes h k
apart_of_file P Q f (Some bytes ∷ (file ∷ files)) h k = h

-- ---- what holds of two files
first_there : (P : List ℕ → Type 0) (file : File) (files : List File) → OfOneFile P (file ∷ []) → OfFirstFile P (file ∷ files)
first_there P None files h = h
first_there P (Some bytes) files h = h

pub told_first : (held : Option (Word → File)) (name other : Word) (P : List ℕ → Type 0) → IfSome (told_all held (name ∷ [])) (OfOneFile P) → IfSome (told_all held (name ∷ other ∷ [])) (OfFirstFile P)
told_first None name other P h = tt
told_first (Some files) name other P h = first_there P (files name) (files other ∷ []) h

two_there : (P Q : List ℕ → Type 0) (file other : File) → OfOneFile P (file ∷ []) → OfOneFile Q (other ∷ []) → OfTwoFiles (λ bytes more. P bytes × Q more) (file ∷ (other ∷ []))
two_there P Q None other h k = h
two_there P Q (Some bytes) None h k = k
two_there P Q (Some bytes) (Some more) h k = (h, k)

pub told_two : (held : Option (Word → File)) (name other : Word) (P Q : List ℕ → Type 0) → IfSome (told_all held (name ∷ [])) (OfOneFile P) → IfSome (told_all held (other ∷ [])) (OfOneFile Q)
    → IfSome (told_all held (name ∷ other ∷ [])) (OfTwoFiles (λ bytes more. P bytes × Q more))
told_two None name other P Q h k = tt
told_two (Some files) name other P Q h k = two_there P Q (files name) (files other) h k

pub of_two : (P Q : List ℕ → List ℕ → Type 0) → ((bytes more : List ℕ) → P bytes more → Q bytes more) → (files : List File) → OfTwoFiles P files → OfTwoFiles Q files
of_two P Q f [] h = h
of_two P Q f (None ∷ files) h = h
of_two P Q f (Some bytes ∷ []) h = h
of_two P Q f (Some bytes ∷ (None ∷ files)) h = h
of_two P Q f (Some bytes ∷ (Some more ∷ [])) h = f bytes more h
of_two P Q f (Some bytes ∷ (Some more ∷ (file ∷ files))) h = h

pub apart_of_two : (P Q : List ℕ → List ℕ → Type 0) → ((bytes more : List ℕ) → P bytes more → Q bytes more → ⊥) → (files : List File) → OfTwoFiles P files → OfTwoFiles Q files → ⊥
apart_of_two P Q f [] h k = h
apart_of_two P Q f (None ∷ files) h k = h
apart_of_two P Q f (Some bytes ∷ []) h k = h
apart_of_two P Q f (Some bytes ∷ (None ∷ files)) h k = h
apart_of_two P Q f (Some bytes ∷ (Some more ∷ [])) h k = f bytes more h k
apart_of_two P Q f (Some bytes ∷ (Some more ∷ (file ∷ files))) h k = h

pub apart_of_first : (P : List ℕ → List ℕ → Type 0) (Q : List ℕ → Type 0) → ((bytes more : List ℕ) → P bytes more → Q bytes → ⊥) → (files : List File) → OfTwoFiles P files → OfFirstFile Q files → ⊥
apart_of_first P Q f [] h k = h
apart_of_first P Q f (None ∷ files) h k = h
apart_of_first P Q f (Some bytes ∷ []) h k = h
apart_of_first P Q f (Some bytes ∷ (None ∷ files)) h k = h
apart_of_first P Q f (Some bytes ∷ (Some more ∷ [])) h k = f bytes more h k
apart_of_first P Q f (Some bytes ∷ (Some more ∷ (file ∷ files))) h k = h

-- the first file is not there
first_absent : (P : List ℕ → Type 0) (file : File) (files : List File) → file ∷ [] ≡ None ∷ [] → LacksOneOfTwo P (file ∷ files)
first_absent P None files is = tt
first_absent P (Some bytes) files is = absurd (cc)

pub lacks_first : (held : Option (Word → File)) (name other : Word) (P : List ℕ → Type 0) (failed : Type 0) → IfSome (told_all held (name ∷ [])) (λ fs. (fs ≡ None ∷ []) ⊎ failed)
    → IfSome (told_all held (name ∷ other ∷ [])) (λ fs. LacksOneOfTwo P fs ⊎ failed)
lacks_first None name other P failed h = tt
lacks_first (Some files) name other P failed (inl absent) = inl (first_absent P (files name) (files other ∷ []) absent)
lacks_first (Some files) name other P failed (inr broken) = inr broken

-- the first file is there, and the second is not
second_absent : (P Q : List ℕ → Type 0) → ((bytes : List ℕ) → P bytes → Q bytes) → (file other : File) → OfOneFile P (file ∷ []) → other ∷ [] ≡ None ∷ [] → LacksOneOfTwo Q (file ∷ (other ∷ []))
second_absent P Q f None other h is = tt
second_absent P Q f (Some bytes) None h is = f bytes h
second_absent P Q f (Some bytes) (Some more) h is = absurd (cc)

pub lacks_second : (held : Option (Word → File)) (name other : Word) (P Q : List ℕ → Type 0) (failed broke : Type 0) → ((bytes : List ℕ) → P bytes → Q bytes) → (broke → failed) → IfSome (told_all held (name ∷ [])) (OfOneFile P)
    → IfSome (told_all held (other ∷ [])) (λ fs. (fs ≡ None ∷ []) ⊎ broke) → IfSome (told_all held (name ∷ other ∷ [])) (λ fs. LacksOneOfTwo Q fs ⊎ failed)
lacks_second None name other P Q failed broke f up h k = tt
lacks_second (Some files) name other P Q failed broke f up h (inl absent) = inl (second_absent P Q f (files name) (files other) h absent)
lacks_second (Some files) name other P Q failed broke f up h (inr broken) = inr (up broken)

-- ---- a file that could not be read
-- a call on it failed, unless it is not there
pub fault_of_one : (held : Option (Word → File)) (name : Word) (told failed : Type 0) → told → IfSome held (λ files. IsSome (files name) → told → failed) → IfSome (told_all held (name ∷ [])) (λ fs. (fs ≡ None ∷ []) ⊎ failed)
fault_of_one None name told failed is h = tt
fault_of_one (Some files) name told failed is h = at (files name) h
  where
    at : (file : File) → (IsSome file → told → failed) → (file ∷ [] ≡ None ∷ []) ⊎ failed
    at None broke = inl refl
    at (Some bytes) broke = inr (broke refl is)
