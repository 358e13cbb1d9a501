-- Readings that are exact: what is read is spelled, what is spelled is read, and a reading that fails names the first line that is out of place.
use Rattle.std.specs.Prelude.{◌≡◌, ℕ, ◌+◌, ◌<◌, ◌≤◌, nat_le, Bool, true, false, ◌&&◌, List, [], ◌∷◌, ◌++◌, length, take, drop, codes, Option, Some, None, Ok, Err, is_some, ◌⊎◌}
use Rattle.std.specs.Fmt.{decimal}
use Rattle.std.specs.List.{AllByRecursion}
use Rattle.std.specs.Option.{option_and_then, option_map_or}
use Rattle.std.specs.Str.{bytes_eq}
use Rattle.mcs_spelling.specs.Parts.{IsSmallNumber}
use Rattle.mcs_spelling.specs.Words.{place_of_byte, number_of_bytes, guarded, step_of}
use Rattle.mcs_proof_lines.specs.Walks.{At, Reading, head_line, may_be_named, is_just}

-- so many lines taken, and these to come
abbrev pub here : ℕ → List (List ℕ) → List ℕ → At
here n rest tail = record { taken = n; rest = rest; tail = tail }

-- ---- what is read
-- the lines of the value were read
pub record AreLinesRead {A : Type 0} (Is : A → Type 0) (lines : A → List (List ℕ)) (at now : At) (x : A) : Type 0 where
  pub is : Is x
  pub rest : at.rest ≡ lines x ++ now.rest
  pub taken : now.taken ≡ at.taken + length (lines x)
  pub tail : now.tail ≡ at.tail

-- the lines begin those of a value
pub record BeginsLines {A : Type 0} (Is : A → Type 0) (lines : A → List (List ℕ)) (front : List (List ℕ)) : Type 0 where
  pub value : A
  pub is : Is value
  pub more : List (List ℕ)
  pub lines_are : lines value ≡ front ++ more

-- the first k lines, if they are any, begin those of a value, and the line after them has this number
pub record IsStuckAt {A : Type 0} (Is : A → Type 0) (lines : A → List (List ℕ)) (at : At) (n k : ℕ) : Type 0 where
  pub number : n ≡ at.taken + k + 1
  pub within : k ≤ length at.rest
  pub begun : 0 < k → BeginsLines Is lines (take k at.rest)

-- the reading reads the lines of just these values, where what follows is as it has to be
pub record ReadsLines {A : Type 0} (Is : A → Type 0) (lines : A → List (List ℕ)) (End : List (List ℕ) → Type 0) (p : At → Reading A) : Type 0 where
  pub sound : (at now : At) (x : A) → p at ≡ Ok (x, now) → AreLinesRead Is lines at now x
  pub complete : (x : A) (n : ℕ) (more : List (List ℕ)) (tail : List ℕ) → Is x → End more → p (here n (lines x ++ more) tail) ≡ Ok (x, here (n + length (lines x)) more tail)
  pub fault : (at : At) (n : ℕ) → p at ≡ Err n → (k : ℕ) × IsStuckAt Is lines at n k
  -- only the lines up to the one out of place matter
  pub local : (at : At) (k : ℕ) (rest : List (List ℕ)) (tail : List ℕ) → p at ≡ Err (at.taken + k + 1) → k < length at.rest → take (k + 1) rest ≡ take (k + 1) at.rest → p (here at.taken rest tail) ≡ Err (at.taken + k + 1)
  -- only the lines that are read, and the next one, matter
  pub stable : (at now : At) (x : A) (rest : List (List ℕ)) (tail : List ℕ) → p at ≡ Ok (x, now) → head_line rest ≡ head_line now.rest → p (here at.taken (lines x ++ rest) tail) ≡ Ok (x, here now.taken rest tail)

-- the function reads the lines of just these values
pub record ReadsLine {A : Type 0} (Is : A → Type 0) (text : A → List ℕ) (f : List ℕ → Option A) : Type 0 where
  pub sound : (line : List ℕ) (x : A) → f line ≡ Some x → Is x × (line ≡ text x)
  pub complete : (x : A) → Is x → f (text x) ≡ Some x

-- ---- what may follow
abbrev pub Anything : List (List ℕ) → Type 0
Anything more = Unit {0}

-- the next line, if there is one, is of another kind
abbrev pub IsLineOfOtherKind : {A : Type 0} → (List ℕ → Option A) → List (List ℕ) → Type 0
IsLineOfOtherKind f rest = option_and_then f (head_line rest) ≡ None

-- the next line, if there is one, is no step
abbrev pub Stops : List (List ℕ) → Type 0
Stops rest = option_and_then step_of (head_line rest) ≡ None

-- the lines of each begin with one that is no step
abbrev pub Begin : {A : Type 0} → (A → Type 0) → (A → List (List ℕ)) → Type 0
Begin {A = A} Is lines = (x : A) (rest : List (List ℕ)) → Is x → Stops (lines x ++ rest)

-- where what follows is no step, neither is what the lines of each begin with
abbrev pub AllStop : {A : Type 0} → (A → Type 0) → (A → List (List ℕ)) → Type 0
AllStop {A = A} Is lines = (x : A) (more : List (List ℕ)) → Is x → Stops more → Stops (lines x ++ more)

-- ---- what the next line is, if there is one: this one; one that the function reads
abbrev pub is_line : List ℕ → Option (List ℕ) → Bool
is_line line next = option_map_or (λ next. bytes_eq next line) next false

abbrev pub is_read : {A : Type 0} → (List ℕ → Option A) → Option (List ℕ) → Bool
is_read f next = is_some (option_and_then f next)

-- this line is the next one
abbrev pub ComesNext : List ℕ → List (List ℕ) → Type 0
ComesNext line rest = is_line line (head_line rest) ≡ true

-- ---- which values
-- made of one that is read
abbrev pub Image : {A C : Type 0} → (A → C) → (A → Type 0) → C → Type 0
Image {A = A} f Is c = (x : A) × (c ≡ f x) × Is x

-- a pair, of which the second may depend on the first
abbrev pub AreBoth : {A B : Type 0} → (A → Type 0) → (A → B → Type 0) → A × B → Type 0
AreBoth IsA IsB xy = IsA xy.0 × IsB xy.0 xy.1

abbrev pub IsEitherOf : {A : Type 0} → (A → Type 0) → (A → Type 0) → A → Type 0
IsEitherOf Is1 Is2 x = Is1 x ⊎ Is2 x

-- let pass by a test
abbrev pub IsPassing : {A : Type 0} → (A → Type 0) → (A → Bool) → A → Type 0
IsPassing Is test x = Is x × (test x ≡ true)

-- so many of one kind
abbrev pub IsMany : {A : Type 0} → (A → Type 0) → ℕ → List A → Type 0
IsMany Is n xs = (length xs ≡ n) × AllByRecursion Is xs

-- a value that tells nothing
abbrev pub Nothing : Unit {0} → Type 0
Nothing u = Unit {0}

-- a number, at most this; two numbers
abbrev pub IsAtMost : ℕ → ℕ → Type 0
IsAtMost most n = IsSmallNumber n × (nat_le n most ≡ true)

abbrev pub AreSmall : ℕ × ℕ → Type 0
AreSmall nj = IsSmallNumber nj.0 × IsSmallNumber nj.1

-- a default that may be named, and a justification of it
abbrev pub IsBlockOf : List ℕ → Option ℕ → ℕ × ℕ → Type 0
IsBlockOf justs only = IsPassing AreSmall (λ nj. is_just justs nj.0 nj.1 && may_be_named only nj.0)

-- ---- the lines of a value: those that it is; one; those of both parts
abbrev pub itself : List (List ℕ) → List (List ℕ)
itself ls = ls

abbrev pub one_line : {A : Type 0} → (A → List ℕ) → A → List (List ℕ)
one_line text x = text x ∷ []

abbrev pub both_lines : {A B : Type 0} → (A → List (List ℕ)) → (A → B → List (List ℕ)) → A × B → List (List ℕ)
both_lines linesA linesB xy = linesA xy.0 ++ linesB xy.0 xy.1

-- of one for each of some keys
abbrev pub each_lines : {A : Type 0} → (ℕ → A → List (List ℕ)) → List ℕ → List A → List (List ℕ)
each_lines lines [] xs = []
each_lines lines (k ∷ ks) [] = []
each_lines lines (k ∷ ks) (x ∷ xs) = lines k x ++ each_lines lines ks xs

-- ---- what is made of two that were read
abbrev pub prepended : {A : Type 0} → A × List A → List A
prepended xs = xs.0 ∷ xs.1

abbrev pub second : {A : Type 0} → Unit {0} × A → A
second ux = ux.1

-- ---- lines that are a word, or have two numbers with a space between them
abbrev pub word_of : List ℕ → List ℕ → Option (Unit {0})
word_of word line = guarded (bytes_eq line word) tt

abbrev pub two_text : ℕ × ℕ → List ℕ
two_text nj = decimal nj.0 ++ (codes " " ++ decimal nj.1)

abbrev pub two_of : {A : Type 0} → (ℕ → ℕ → Option A) → List ℕ → Option A
two_of f rest = option_and_then (λ space. option_and_then (λ n. option_and_then (λ j. f n j) (number_of_bytes (drop (space + 1) rest))) (number_of_bytes (take space rest))) (place_of_byte 32 rest)
