-- The rows of a parse, where each argument is used once at most.
use Rattle.std.proofs.Common.{◌≡◌, ℕ, nat_eq, Bool, true, false, cond, ◌||◌, List, [], ◌∷◌, ◌++◌, Option, Some, None, option_map, codes, refl, sym, ap, ◌∙◌, subst, append-nil}
use Rattle.std.specs.Prelude.{if◌then◌else◌, find, slice_get, option_and_then}
use Rattle.std.specs.Str.{bytes_eq}
use Rattle.std.proofs.lemmas.Slice.Eq.{bytes_eq-Decides}
use Rattle.clap.specs.Walk.{Row, at_row, first_of, one_of, row_text, has_row, with_values, without, more_values}
use Rattle.clap.specs.declared.builder.value_parser.Reading.TheVariants as reading
use Rattle.clap.specs.declared.parser.matches.ValueSource.TheVariants.{CommandLine, DefaultValue}
use Rattle.mcs_words.specs.Commands.{Word, Command}

-- ---- the arguments
pub data Slot : Type 0 where
  job : Slot
  file : Slot
  report : Slot
  budget : Slot
  workers : Slot
  proof : Slot

abbrev pub id_of : Slot → Word
id_of job = codes "job"
id_of file = codes "file"
id_of report = codes "report"
id_of budget = codes "budget"
id_of workers = codes "workers"
id_of proof = codes "proof"

-- the arguments that take a text
abbrev pub TakesText : Slot → Type 0
TakesText proof = ⊥
TakesText _ = Unit {0}

-- what a flag has that stands so often
abbrev pub flag_value : ℕ → Option Word
flag_value times = cond (nat_eq times 0) None (Some (codes "true"))

abbrev pub value_at : Slot → Command → Option Word
value_at job c = slice_get c.plain 0
value_at file c = slice_get c.plain 1
value_at report c = slice_get c.plain 2
value_at budget c = slice_get c.budgets 0
value_at workers c = slice_get c.workers 0
value_at proof c = flag_value c.proofs

abbrev pub row_for : Word → Word → Row
row_for id value = record { id = id; values = value ∷ []; count = None; source = Some CommandLine; reading = reading.AsWritten }

abbrev pub is_for : Word → Row → Bool
is_for id r = bytes_eq r.id id

-- each argument that is given has the row of its value
abbrev pub HasRows : Command → List Row → Type 0
HasRows c rows = (x : Slot) → find (is_for (id_of x)) rows ≡ option_map (row_for (id_of x)) (value_at x c)

-- ---- one row more
abbrev pub added : Word → Word → List Row → List Row
added id value rows = with_values id reading.AsWritten CommandLine (value ∷ []) (without id rows)

or_last : (p : Row → Bool) (rows : List Row) (r : Row) → p r ≡ false → find p (rows ++ r ∷ []) ≡ find p rows
or_last p [] r e = rw e refl
or_last p (x ∷ rows) r e = ap (λ o. cond (p x) (Some x) o) (or_last p rows r e)

at_last : (p : Row → Bool) (rows : List Row) (r : Row) → find p rows ≡ None → p r ≡ true → find p (rows ++ r ∷ []) ≡ Some r
at_last p [] r none e = rw e refl
at_last p (x ∷ rows) r none e = elim (p x) as (λ b. cond b (Some x) (find p rows) ≡ None → cond b (Some x) (find p (rows ++ r ∷ [])) ≡ Some r) [
  | true ↦ λ some. let never : Some x ≡ None = some in cc
  | false ↦ λ rest. at_last p rows r rest e
] none

pub none_has : (id : Word) (rows : List Row) → find (is_for id) rows ≡ None → has_row id rows ≡ false
none_has id [] e = refl
none_has id (x ∷ rows) e = elim (bytes_eq x.id id) as (λ b. cond b (Some x) (find (is_for id) rows) ≡ None → (b || has_row id rows) ≡ false) [
  | true ↦ λ some. let never : Some x ≡ None = some in cc
  | false ↦ λ rest. none_has id rows rest
] e

past_rows : (id : Word) (change : Row → List Row) (missing rows : List Row) → find (is_for id) rows ≡ None → at_row id change missing rows ≡ rows ++ missing
past_rows id change missing [] e = refl
past_rows id change missing (x ∷ rows) e = elim (bytes_eq x.id id) as (λ b. cond b (Some x) (find (is_for id) rows) ≡ None
    → cond b (change x ++ rows) (x ∷ at_row id change missing rows) ≡ (x ∷ rows) ++ missing) [
      | true ↦ λ some. let never : Some x ≡ None = some in cc
      | false ↦ λ rest. ap (λ (rs : List Row). x ∷ rs) (past_rows id change missing rows rest)
    ] e

added_is : (id value : Word) (rows : List Row) → find (is_for id) rows ≡ None → added id value rows ≡ rows ++ row_for id value ∷ []
added_is id value rows e =
    let kept : without id rows ≡ rows = past_rows id (λ _. []) [] rows e ∙ append-nil rows in
    ap (λ (rs : List Row). with_values id reading.AsWritten CommandLine (value ∷ []) rs) kept ∙ past_rows id (more_values CommandLine (value ∷ [])) (row_for id value ∷ []) rows e

pub added_rows : (x : Slot) (value : Word) (c d : Command) (rows : List Row) → HasRows c rows → value_at x c ≡ None
    → ((y : Slot) → value_at y d ≡ cond (bytes_eq (id_of x) (id_of y)) (Some value) (value_at y c)) → HasRows d (added (id_of x) value rows)
added_rows x value c d rows has none more y =
    let fresh : find (is_for (id_of x)) rows ≡ None = has x ∙ ap (option_map (row_for (id_of x))) none in
    let now : find (is_for (id_of y)) (added (id_of x) value rows) ≡ find (is_for (id_of y)) (rows ++ row_for (id_of x) value ∷ []) = ap (find (is_for (id_of y))) (added_is (id_of x) value rows fresh) in
    now ∙ same (bytes_eq (id_of x) (id_of y)) refl fresh ∙ ap (option_map (row_for (id_of y))) (sym (more y))
  where
    same : (b : Bool) → bytes_eq (id_of x) (id_of y) ≡ b → find (is_for (id_of x)) rows ≡ None
        → find (is_for (id_of y)) (rows ++ row_for (id_of x) value ∷ []) ≡ option_map (row_for (id_of y)) (cond b (Some value) (value_at y c))
    same true e fresh =
        let ids : id_of x ≡ id_of y = (bytes_eq-Decides (id_of x) (id_of y)).0 e in
        let fresh' : find (is_for (id_of y)) rows ≡ None = subst (λ (id : Word). find (is_for id) rows ≡ None) ids fresh in
        at_last (is_for (id_of y)) rows (row_for (id_of x) value) fresh' e ∙ ap (λ (id : Word). Some (row_for id value)) ids
    same false e fresh = or_last (is_for (id_of y)) rows (row_for (id_of x) value) e ∙ has y

-- ---- the rows after the walk, with the default of the flag

-- the row of a flag that is not given
abbrev pub default_row : Row
default_row = record (row_for (codes "proof") (codes "false")) { source = Some DefaultValue }

abbrev pub with_flag : List Row → List Row
with_flag rows = if has_row (codes "proof") rows then rows
    else with_values (codes "proof") reading.AsWritten DefaultValue (codes "false" ∷ []) rows

-- the row of the flag, given or not
abbrev pub flag_row : ℕ → Row
flag_row times = cond (nat_eq times 0) default_row (row_for (codes "proof") (codes "true"))

pub some_has : (id : Word) (rows : List Row) (r : Row) → find (is_for id) rows ≡ Some r → has_row id rows ≡ true
some_has id [] r e = let never : None ≡ Some r = e in cc
some_has id (x ∷ rows) r e = elim (bytes_eq x.id id) as (λ b. cond b (Some x) (find (is_for id) rows) ≡ Some r → (b || has_row id rows) ≡ true) [
  | true ↦ λ some. refl
  | false ↦ λ rest. some_has id rows r rest
] e

-- what the rows have for the flag decides what is added
module _ (c : Command) (rows : List Row) (has : HasRows c rows) where
  no_flag : nat_eq c.proofs 0 ≡ true → find (is_for (codes "proof")) rows ≡ None
  no_flag e = has proof ∙ rw e refl

  one_flag : nat_eq c.proofs 0 ≡ false → find (is_for (codes "proof")) rows ≡ Some (row_for (codes "proof") (codes "true"))
  one_flag e = has proof ∙ rw e refl

  unflagged : nat_eq c.proofs 0 ≡ true → with_flag rows ≡ rows ++ default_row ∷ []
  unflagged e = rw (none_has (codes "proof") rows (no_flag e))
      (past_rows (codes "proof") (more_values DefaultValue (codes "false" ∷ [])) (default_row ∷ []) rows (no_flag e))

  flagged : nat_eq c.proofs 0 ≡ false → with_flag rows ≡ rows
  flagged e = rw (some_has (codes "proof") rows (row_for (codes "proof") (codes "true")) (one_flag e)) refl

  -- the other arguments keep what they have
  text_kept : (x : Slot) → TakesText x → find (is_for (id_of x)) (with_flag rows) ≡ find (is_for (id_of x)) rows
  text_kept x text = at (nat_eq c.proofs 0) refl
    where
      other : (y : Slot) → TakesText y → is_for (id_of y) default_row ≡ false
      other job t = refl
      other file t = refl
      other report t = refl
      other budget t = refl
      other workers t = refl
      other proof t = absurd t

      at : (b : Bool) → nat_eq c.proofs 0 ≡ b → find (is_for (id_of x)) (with_flag rows) ≡ find (is_for (id_of x)) rows
      at true e = ap (find (is_for (id_of x))) (unflagged e) ∙ or_last (is_for (id_of x)) rows default_row (other x text)
      at false e = ap (find (is_for (id_of x))) (flagged e)

  pub text_row : (x : Slot) → TakesText x → find (is_for (id_of x)) (with_flag rows) ≡ option_map (row_for (id_of x)) (value_at x c)
  text_row x text = text_kept x text ∙ has x

  pub flag_found : find (is_for (codes "proof")) (with_flag rows) ≡ Some (flag_row c.proofs)
  flag_found = at (nat_eq c.proofs 0) refl
    where
      at : (b : Bool) → nat_eq c.proofs 0 ≡ b → find (is_for (codes "proof")) (with_flag rows) ≡ Some (cond b default_row (row_for (codes "proof") (codes "true")))
      at true e = ap (find (is_for (codes "proof"))) (unflagged e) ∙ at_last (is_for (codes "proof")) rows default_row (no_flag e) refl
      at false e = ap (find (is_for (codes "proof"))) (flagged e) ∙ one_flag e

  pub first_at : (x : Slot) → TakesText x → first_of (id_of x) (with_flag rows) ≡ value_at x c
  first_at x text = ap (option_and_then (λ (r : Row). slice_get r.values 0)) (text_row x text) ∙ first (value_at x c)
    where
      first : (o : Option Word) → option_and_then (λ (r : Row). slice_get r.values 0) (option_map (row_for (id_of x)) o) ≡ o
      first None = refl
      first (Some value) = refl

  pub flag_at : one_of (codes "proof") (with_flag rows) ≡ Some (cond (nat_eq c.proofs 0) (codes "false") (codes "true"))
  flag_at = ap (option_and_then row_text) flag_found ∙ text (nat_eq c.proofs 0)
    where
      text : (b : Bool) → row_text (cond b default_row (row_for (codes "proof") (codes "true"))) ≡ Some (cond b (codes "false") (codes "true"))
      text true = refl
      text false = refl
