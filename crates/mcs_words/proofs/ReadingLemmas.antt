-- The function reads what the definitions say, and nothing else.
use Rattle.std.proofs.Common.{◌≡◌, ◌⊎◌, inl, inr, ◌<◌, ◌≤◌, ◌+◌, length, drop, get_or, string_bytes, String, Global, arith, add-zero, zero-add, ℕ, Bool, true, false, cond, List, [], ◌∷◌, ◌++◌, Option, Some, None, option_map, codes, refl, sym, ap, ◌∙◌, subst, true≢false}
use Rattle.std.proofs.lemmas.List.{at_drop_more, at_drop_all}
use Rattle.std.proofs.lemmas.Bool.{false_from_ne_true}
use Rattle.mcs_words.specs.Commands.{Word, Command, ReadsCommand, ends, dashes, plain_word, joined, apart, flag, Request, AsksFor, IsJobOf, name_of, nothing, only_plain, with_plain, with_value, with_proof, begins_with_dash}
use Rattle.mcs_words.specs.Reading as reading
use Rattle.mcs_words.specs.Reading.{WordKind, kind, open_step, step, read, texts_of, at_end, counted_command, tally_of, total_of, no_tally, more_plain, more_values, more_proofs}
use Rattle.mcs_words.specs.declared.reading.Place.{Place}
use Rattle.mcs_words.specs.declared.reading.Place.TheVariants.{Open, Value, Closed}
use Rattle.mcs_words.specs.declared.tally.Tally.{Tally}
use Rattle.mcs_words.specs.declared.setting.Setting.{Setting}
use Rattle.mcs_words.specs.declared.setting.Setting.TheVariants.{Budget, Workers}
use Rattle.mcs_words.proofs.KindLemmas.{IsKind, kind_is, plain_kind, joined_is, name_is, flag_is, dashes_is}

-- ---- what the definitions read, the function reads
pub closed_reads : (words : List Word) → read words Closed ≡ Some (only_plain words)
unfolding read
closed_reads [] = refl
closed_reads (word ∷ words) = ap (option_map (with_plain word)) (closed_reads words)

pub reads_read : {words : List Word} {c : Command} → ReadsCommand words c → read words Open ≡ Some c
unfolding read
reads_read ends = refl
reads_read (dashes words) = ap (λ k. open_step k (codes "--") (read words)) dashes_is ∙ closed_reads words
reads_read (plain_word word words c plain r) = ap (λ k. open_step k word (read words)) (plain_kind word plain) ∙ ap (option_map (with_plain word)) (reads_read r)
reads_read (joined s value words c r) = ap (λ k. open_step k (name_of s ++ 61 ∷ value) (read words)) (joined_is s value) ∙ ap (option_map (with_value s value)) (reads_read r)
reads_read (apart s value words c without r) = ap (λ k. open_step k (name_of s) (read (value ∷ words))) (name_is s)
    ∙ (ap (λ b. cond b None (option_map (with_value s value) (read words Open))) (false_from_ne_true (begins_with_dash value) without) ∙ ap (option_map (with_value s value)) (reads_read r))
reads_read (flag words c r) = ap (λ k. open_step k (codes "--proof") (read words)) flag_is ∙ ap (option_map with_proof) (reads_read r)

-- ---- what the function reads, the definitions read

-- the words, with the word before them that leads to the place
abbrev placed : Place → List Word → List Word
placed Open words = words
placed (Value s) words = name_of s ∷ words
placed Closed words = codes "--" ∷ words

pub mapped : (f : Command → Command) (o : Option Command) (c : Command) → option_map f o ≡ Some c → (d : Command) × (o ≡ Some d) × (f d ≡ c)
mapped f None c e = let no : None ≡ Some c = e in cc
mapped f (Some d) c e = let e' : Some (f d) ≡ Some c = e in (d, refl, cc)

open_reads : (word : Word) (words : List Word) (c : Command) (k : WordKind) → IsKind word k → ((place : Place) (d : Command) → read words place ≡ Some d → ReadsCommand (placed place words) d)
    → open_step k word (read words) ≡ Some c → ReadsCommand (word ∷ words) c
open_reads word words c reading.dashes is rest e = subst (λ (w : Word). ReadsCommand (w ∷ words) c) (sym is) (rest Closed c e)
open_reads word words c (reading.name s) is rest e = subst (λ (w : Word). ReadsCommand (w ∷ words) c) (sym is) (rest (Value s) c e)
open_reads word words c (reading.joined s value) is rest e =
    let found = mapped (with_value s value) (read words Open) c e in
    subst (λ (w : Word). ReadsCommand (w ∷ words) c) (sym is) (subst (λ (d : Command). ReadsCommand ((name_of s ++ 61 ∷ value) ∷ words) d) found.2 (joined s value words found.0 (rest Open found.0 found.1)))
open_reads word words c reading.flag is rest e =
    let found = mapped with_proof (read words Open) c e in
    subst (λ (w : Word). ReadsCommand (w ∷ words) c) (sym is) (subst (λ (d : Command). ReadsCommand (codes "--proof" ∷ words) d) found.2 (flag words found.0 (rest Open found.0 found.1)))
open_reads word words c reading.plain is rest e =
    let found = mapped (with_plain word) (read words Open) c e in
    subst (λ (d : Command). ReadsCommand (word ∷ words) d) found.2 (plain_word word words found.0 is (rest Open found.0 found.1))
open_reads word words c reading.unknown is rest e = let no : None ≡ Some c = e in cc

value_reads : (s : Setting) (word : Word) (words : List Word) (c : Command) (b : Bool) → begins_with_dash word ≡ b → ((d : Command) → read words Open ≡ Some d → ReadsCommand words d)
    → cond b None (option_map (with_value s word) (read words Open)) ≡ Some c → ReadsCommand (name_of s ∷ word ∷ words) c
value_reads s word words c true is rest e = let no : None ≡ Some c = e in cc
value_reads s word words c false is rest e =
    let found = mapped (with_value s word) (read words Open) c e in
    subst (λ (d : Command). ReadsCommand (name_of s ∷ word ∷ words) d) found.2 (apart s word words found.0 (λ dash. true≢false (sym dash ∙ is)) (rest found.0 found.1))

pub placed_reads : (words : List Word) (place : Place) (c : Command) → read words place ≡ Some c → ReadsCommand (placed place words) c
unfolding read
placed_reads [] Open c e = let same : nothing ≡ c = cc in subst (λ (d : Command). ReadsCommand [] d) same ends
placed_reads [] (Value s) c e = let no : None ≡ Some c = e in cc
placed_reads [] Closed c e = let same : only_plain [] ≡ c = cc in subst (λ (d : Command). ReadsCommand (codes "--" ∷ []) d) same (dashes [])
placed_reads (word ∷ words) Open c e = open_reads word words c (kind word) (kind_is word) (placed_reads words) e
placed_reads (word ∷ words) (Value s) c e = value_reads s word words c (begins_with_dash word) refl (placed_reads words Open) e
placed_reads (word ∷ words) Closed c e =
    let whole : Some (only_plain (word ∷ words)) ≡ Some c = sym (closed_reads (word ∷ words)) ∙ e in
    let same : only_plain (word ∷ words) ≡ c = cc in
    subst (λ (d : Command). ReadsCommand (codes "--" ∷ word ∷ words) d) same (dashes (word ∷ words))

pub read_reads : (words : List Word) (c : Command) → read words Open ≡ Some c → ReadsCommand words c
read_reads words c e = placed_reads words Open c e

-- ---- jobs
pub read_once : (words : List Word) (c d : Command) → read words Open ≡ Some c → ReadsCommand words d → d ≡ c
read_once words c d e r = let e' : Some d ≡ Some c = sym (reads_read r) ∙ e in cc

pub job_read : (words : List Word) (c : Command) (request : Request) → read words Open ≡ Some c → AsksFor c request → IsJobOf words request
job_read words c request e asks = (c, read_reads words c e, asks)

pub job_asked : (words : List Word) (c : Command) (request : Request) → read words Open ≡ Some c → IsJobOf words request → AsksFor c request
job_asked words c request e job = subst (λ (d : Command). AsksFor d request) (read_once words c job.0 e job.1) job.2

-- ---- steps of the code
counted_plain : (t : Tally) (word : Word) (o : Option Command) → option_map (counted_command (more_plain t)) o ≡ option_map (counted_command t) (option_map (with_plain word) o)
counted_plain t word None = refl
counted_plain t word (Some c) = let e : (t.plain + 1) + length c.plain ≡ t.plain + length (word ∷ c.plain) = omega arith in ap (λ n. Some (record (counted_command t c) { plain = n })) e

counted_value : (s : Setting) (t : Tally) (value : Word) (o : Option Command) → option_map (counted_command (more_values s t)) o ≡ option_map (counted_command t) (option_map (with_value s value) o)
counted_value Budget t value None = refl
counted_value Workers t value None = refl
counted_value Budget t value (Some c) = let e : (t.budgets + 1) + length c.budgets ≡ t.budgets + length (value ∷ c.budgets) = omega arith in ap (λ n. Some (record (counted_command t c) { budgets = n })) e
counted_value Workers t value (Some c) = let e : (t.workers + 1) + length c.workers ≡ t.workers + length (value ∷ c.workers) = omega arith in ap (λ n. Some (record (counted_command t c) { workers = n })) e

counted_proof : (t : Tally) (o : Option Command) → option_map (counted_command (more_proofs t)) o ≡ option_map (counted_command t) (option_map with_proof o)
counted_proof t None = refl
counted_proof t (Some c) = let e : (t.proofs + 1) + c.proofs ≡ t.proofs + (c.proofs + 1) = omega arith in ap (λ n. Some (record (counted_command t c) { proofs = n })) e

module _ (a b : Tally) (word : Word) (rest : Place → Option Command) where
  pub value_step : (place : Place) (s : Setting) → place ≡ Value s → b ≡ more_values s a → begins_with_dash word ≡ false → option_map (counted_command b) (rest Open) ≡ option_map (counted_command a) (step place word rest)
  value_step place s at more undashed = rw (at, undashed, more) (counted_value s a word (rest Open))

  pub closed_step : (place : Place) → place ≡ Closed → b ≡ more_plain a → option_map (counted_command b) (rest Closed) ≡ option_map (counted_command a) (step place word rest)
  closed_step place at more = rw (at, more) (counted_plain a word (rest Closed))

  pub joined_step : (k : WordKind) (s : Setting) (value : Word) → k ≡ reading.joined s value → b ≡ more_values s a → option_map (counted_command b) (rest Open) ≡ option_map (counted_command a) (open_step k word rest)
  joined_step k s value at more = rw (at, more) (counted_value s a value (rest Open))

  pub flag_step : (k : WordKind) → k ≡ reading.flag → b ≡ more_proofs a → option_map (counted_command b) (rest Open) ≡ option_map (counted_command a) (open_step k word rest)
  flag_step k at more = rw (at, more) (counted_proof a (rest Open))

  pub plain_step : (k : WordKind) → k ≡ reading.plain → b ≡ more_plain a → option_map (counted_command b) (rest Open) ≡ option_map (counted_command a) (open_step k word rest)
  plain_step k at more = rw (at, more) (counted_plain a word (rest Open))

-- ---- the loop of the code
module _ (all : Option Tally) (a : Tally) (words : List (String Global)) (i : ℕ) (p : Place) (known : option_map (counted_command a) (read (texts_of (drop i words)) p) ≡ all) where
  here : (w : String Global) (text : Word) → i < length words → w ≡ get_or words i w → text ≡ string_bytes w → option_map (counted_command a) (step p text (read (texts_of (drop (i + 1) words)))) ≡ all
  unfolding read
  here w text lt w_is text_is =
      let first : option_map (counted_command a) (read (texts_of (drop i words)) p) ≡ option_map (counted_command a) (step p (string_bytes (get_or words i w)) (read (texts_of (drop (i + 1) words)))) =
      at_drop_more (λ (ws : List (String Global)). option_map (counted_command a) (read (texts_of ws) p)) words i w lt in
      ap (λ (t : Word). option_map (counted_command a) (step p t (read (texts_of (drop (i + 1) words))))) (text_is ∙ ap (λ (v : String Global). string_bytes v) w_is) ∙ (sym first ∙ known)

  pub next_read : (b : Tally) (q : Place) (w : String Global) (text : Word) → i < length words → w ≡ get_or words i w → text ≡ string_bytes w
      → ((rest : Place → Option Command) → option_map (counted_command b) (rest q) ≡ option_map (counted_command a) (step p text rest)) → option_map (counted_command b) (read (texts_of (drop (i + 1) words)) q) ≡ all
  next_read b q w text lt w_is text_is more = more (read (texts_of (drop (i + 1) words))) ∙ here w text lt w_is text_is

  pub stop_read : (w : String Global) (text : Word) → i < length words → w ≡ get_or words i w → text ≡ string_bytes w → ((rest : Place → Option Command) → step p text rest ≡ None) → all ≡ None
  stop_read w text lt w_is text_is none = sym (here w text lt w_is text_is) ∙ ap (option_map (counted_command a)) (none (read (texts_of (drop (i + 1) words))))

  pub end_read : length words ≤ i → all ≡ option_map (counted_command a) (at_end p)
  unfolding read
  end_read past = sym known ∙ at_drop_all (λ (ws : List (String Global)). option_map (counted_command a) (read (texts_of ws) p)) words i past

counted_nothing : (a : Tally) → counted_command a nothing ≡ a
counted_nothing a = rw (add-zero a.plain, add-zero a.budgets, add-zero a.workers, add-zero a.proofs) refl

pub counted_none : (o : Option Command) → option_map (counted_command no_tally) o ≡ option_map tally_of o
counted_none None = refl
counted_none (Some c) = rw (zero-add (length c.plain), zero-add (length c.budgets), zero-add (length c.workers), zero-add c.proofs) refl

pub ended : (all : Option Tally) (a : Tally) (p : Place) → (p ≡ Open) ⊎ (p ≡ Closed) → all ≡ option_map (counted_command a) (at_end p) → all ≡ Some a
ended all a p (inl e) h = (rw e at h) ∙ ap (λ (t : Tally). Some t) (counted_nothing a)
ended all a p (inr e) h = (rw e at h) ∙ ap (λ (t : Tally). Some t) (counted_nothing a)

pub total_plain : (a b : Tally) → b ≡ more_plain a → total_of b ≤ total_of a + 1
total_plain a b e = let less : total_of (more_plain a) ≤ total_of a + 1 = omega arith in subst (λ (t : Tally). total_of t ≤ total_of a + 1) (sym e) less

pub total_proof : (a b : Tally) → b ≡ more_proofs a → total_of b ≤ total_of a + 1
total_proof a b e = let less : total_of (more_proofs a) ≤ total_of a + 1 = omega arith in subst (λ (t : Tally). total_of t ≤ total_of a + 1) (sym e) less

pub total_value : (s : Setting) (a b : Tally) → b ≡ more_values s a → total_of b ≤ total_of a + 1
total_value Budget a b e = let less : total_of (more_values Budget a) ≤ total_of a + 1 = omega arith in subst (λ (t : Tally). total_of t ≤ total_of a + 1) (sym e) less
total_value Workers a b e = let less : total_of (more_values Workers a) ≤ total_of a + 1 = omega arith in subst (λ (t : Tally). total_of t ≤ total_of a + 1) (sym e) less
