-- What clap makes of words that the definitions read: it takes them, and each argument has its word.
use Rattle.std.proofs.Common.{◌≡◌, ◌≤◌, ◌+◌, ℕ, Bool, true, false, cond, ◌&&◌, List, [], ◌∷◌, ◌++◌, fold, length, Option, Some, None, Bor, option_map, codes, refl, sym, ap, ap₂, ◌∙◌, subst, arith, append-nil, append_assoc, add-zero, zero-add, zero, suc, nat_eq, length-append, ◌<◌}
use Rattle.std.specs.Prelude.{if◌then◌else◌, find, min, slice_get}
use Rattle.std.specs.List.{list_all}
use Rattle.std.specs.Str.{bytes_eq}
use Rattle.clap.specs.Lexer.{long_of, short_of, usize_max}
use Rattle.clap.specs.Walk as walk
use Rattle.clap.specs.Walk.{Held, Row, Rule, Text, Waiting, Walk, arg_by_id, arg_by_index, arg_by_long, first_of, one_of, finished, has_row, is_pending, nothing_held, positional_held, pushed, reacted, rows_after, settled, used, walked, with_default}
use Rattle.clap.specs.Simple.{App, Shape, built, is_simple, matches_of, names_of}
use Rattle.clap.specs.Words.{HasMatchesOf, first_value, one_text, found_of}
use Rattle.clap.specs.declared.parser.matches.ArgMatches.{ArgMatches}
use Rattle.clap.proofs.WalkLemmas.{first_value-rows, one_text-rows}
use Rattle.clap.specs.Takes.{built_takes, default_passes, is_given, is_valid, level_passes, settle_passes, takes, turn_passes, use_passes, walk_passes}
use Rattle.clap.proofs.TakesLemmas.{leaf_takes}
use Rattle.clap.specs.declared.builder.action.ArgAction.TheVariants.{Set, SetTrue}
use Rattle.clap.specs.declared.builder.value_parser.ValueParser.TheVariants as vp
use Rattle.std.proofs.Math.Bool.{and-false, or-true}
use Rattle.mcs_base.proofs.Booleans.{cond-same}
use Rattle.mcs_words.specs.Commands.{Word, Command, IsPlain, name_of, nothing, with_plain, with_value, with_proof, begins_with_dash}
use Rattle.mcs_words.specs.Reading.{at_end, tally_of, IsWholeTally, value_list, times, kind, open_step, step, read}
use Rattle.mcs_words.specs.Reading as reading
use Rattle.mcs_words.specs.Line.{line}
use Rattle.mcs_words.specs.declared.reading.Place.{Place}
use Rattle.mcs_words.specs.declared.reading.Place.TheVariants.{Open, Value, Closed}
use Rattle.mcs_words.specs.declared.setting.Setting.{Setting}
use Rattle.mcs_words.specs.declared.setting.Setting.TheVariants.{Budget, Workers}
use Rattle.mcs_words.proofs.KindLemmas.{IsKind, kind_is}
use Rattle.mcs_words.proofs.RowLemmas.{Slot, job, file, report, budget, workers, proof, id_of, TakesText, value_at, row_for, is_for, HasRows, added, none_has, added_rows, with_flag, text_row, first_at, flag_at}
use Rattle.mcs_words.proofs.ReadingLemmas.{mapped}

-- ---- commands
-- one after the other
abbrev both : Command → Command → Command
both a b = record { plain = a.plain ++ b.plain; budgets = a.budgets ++ b.budgets; workers = a.workers ++ b.workers; proofs = a.proofs + b.proofs }

both_end : (a : Command) → both a nothing ≡ a
both_end a = rw (append-nil a.plain, append-nil a.budgets, append-nil a.workers, add-zero a.proofs) refl

nothing_both : (c : Command) → both nothing c ≡ c
nothing_both c = rw (zero-add c.proofs) refl

-- the command with a value after its others
abbrev added_value : Setting → Command → Word → Command
added_value Budget c value = record c { budgets = c.budgets ++ value ∷ [] }
added_value Workers c value = record c { workers = c.workers ++ value ∷ [] }

-- ---- the line, built
abbrev base_rule : Text → Rule
base_rule id = record {
  id = id;
  long = None;
  aliases = [];
  short = None;
  short_aliases = [];
  index = None;
  action = Some Set;
  range = Some (record { start_inclusive = 1; end_inclusive = 1 });
  value_names = 0;
  defaults = [];
  missing = [];
  trailing_var_arg = false;
  parser = Some vp.String;
  ignore_case = false;
  required = false;
  is_simple = true;
  is_free = true;
}

abbrev rule : Slot → Rule
rule job = record (base_rule (codes "job")) { index = Some 1; required = true }
rule file = record (base_rule (codes "file")) { index = Some 2; required = true }
rule report = record (base_rule (codes "report")) { index = Some 3 }
rule budget = record (base_rule (codes "budget")) { long = Some (codes "budget") }
rule workers = record (base_rule (codes "workers")) { long = Some (codes "workers") }
rule proof = record (base_rule (codes "proof")) {
  long = Some (codes "proof");
  action = Some SetTrue;
  range = Some (record { start_inclusive = 0; end_inclusive = 0 });
  defaults = codes "false" ∷ [];
  missing = codes "true" ∷ [];
  parser = Some vp.Bool;
}

unfoldable all_rules : List Rule
all_rules = rule job ∷ rule file ∷ rule report ∷ rule budget ∷ rule workers ∷ rule proof ∷ []

abbrev shape : Shape
shape = record {
  name = codes "mcs";
  aliases = [];
  rules = all_rules;
  is_plain = true;
  is_leaf = true;
  no_binary_name = true;
  disable_help_flag = true;
  disable_help_subcommand = true;
  disable_version_flag = false;
  propagate_version = false;
  has_version = false;
  has_long_version = false;
  args_override_self = false;
  arg_required_else_help = false;
  subcommand_required = false;
  subcommand_negates_reqs = false;
  is_built = true;
}

built_is : built line ≡ record { top = shape; subs = [] }
unfolding all_rules
built_is = refl

pub simple_is : is_simple line ≡ true
simple_is = refl

abbrev slot_of : Setting → Slot
slot_of Budget = budget
slot_of Workers = workers

by_long : (s : Setting) → arg_by_long all_rules (id_of (slot_of s)) ≡ Some (rule (slot_of s))
unfolding all_rules
by_long Budget = refl
by_long Workers = refl

by_flag : arg_by_long all_rules (codes "proof") ≡ Some (rule proof)
unfolding all_rules
by_flag = refl

by_id : (x : Slot) → arg_by_id all_rules (id_of x) ≡ Some (rule x)
unfolding all_rules
by_id job = refl
by_id file = refl
by_id report = refl
by_id budget = refl
by_id workers = refl
by_id proof = refl

by_first : arg_by_index all_rules 1 ≡ Some (rule job)
unfolding all_rules
by_first = refl

by_second : arg_by_index all_rules 2 ≡ Some (rule file)
unfolding all_rules
by_second = refl

by_third : arg_by_index all_rules 3 ≡ Some (rule report)
unfolding all_rules
by_third = refl

-- ---- one use
use_is : (x : Slot) (value : Word) (rows : List Row) → used (rule x) (value ∷ []) rows ≡ added (id_of x) value rows
use_is job value rows = refl
use_is file value rows = refl
use_is report value rows = refl
use_is budget value rows = refl
use_is workers value rows = refl
use_is proof value rows = refl

pass_is : (x : Slot) (value : Word) (rows : List Row) → TakesText x → has_row (id_of x) rows ≡ false → use_passes false (rule x) (value ∷ []) rows ≡ true
pass_is job value rows text e = rw e refl
pass_is file value rows text e = rw e refl
pass_is report value rows text e = rw e refl
pass_is budget value rows text e = rw e refl
pass_is workers value rows text e = rw e refl
pass_is proof value rows text e = absurd text

flag_use_is : (rows : List Row) → used (rule proof) [] rows ≡ added (codes "proof") (codes "true") rows
flag_use_is rows = refl

-- ---- the walk
abbrev waits : Place → Waiting
waits Open = walk.idle
waits Closed = walk.idle
waits (Value s) = walk.option (id_of (slot_of s))

abbrev closed : Place → Bool
closed Open = false
closed Closed = true
closed (Value s) = false

abbrev stands : ℕ → Place → Held → Walk
stands n p h = record { held = h; waiting = waits p; position = n; is_trailing = closed p; stopped = None }

abbrev settle : Held → Bool
settle h = settle_passes all_rules false h

-- the word is no flag
record IsNoFlag (word : Word) : Type 0 where
  dashes : bytes_eq word (45 ∷ 45 ∷ []) ≡ false
  long : long_of word ≡ None
  short : short_of word ≡ None

undashed : (word : Word) → begins_with_dash word ≡ false → IsNoFlag word
undashed [] e = record { dashes = refl; long = refl; short = refl }
undashed (b ∷ bs) e = record { dashes = rw e refl; long = rw e refl; short = rw e refl }

plain_no_flag : (word : Word) → IsPlain word → IsNoFlag word
plain_no_flag word plain = go (begins_with_dash word) refl
  where
    go : (b : Bool) → begins_with_dash word ≡ b → IsNoFlag word
    go true e = subst IsNoFlag (sym (plain e)) (record { dashes = refl; long = refl; short = refl })
    go false e = undashed word e

dashes_walk : (n : ℕ) (h : Held) → walked all_rules [] (stands n Open h) (codes "--") ≡ stands n Closed h
unfolding walked
dashes_walk n h = refl

joined_walk : (s : Setting) (value : Word) (n : ℕ) (h : Held) → walked all_rules [] (stands n Open h) (name_of s ++ 61 ∷ value) ≡ stands n Open (reacted all_rules (rule (slot_of s)) (value ∷ []) h)
unfolding walked
joined_walk Budget value n h = rw (by_long Budget) refl
joined_walk Workers value n h = rw (by_long Workers) refl

joined_passes : (s : Setting) (value : Word) (n : ℕ) (h : Held) → settle h ≡ true → has_row (id_of (slot_of s)) (settled all_rules h).rows ≡ false
    → turn_passes shape [] (stands n Open h) (name_of s ++ 61 ∷ value) ≡ true
joined_passes Budget value n h settles fresh = rw (by_long Budget, settles, fresh) refl
joined_passes Workers value n h settles fresh = rw (by_long Workers, settles, fresh) refl

abbrev asked : Setting → Held → Held
asked s h = record (settled all_rules h) { pending = Some (id_of (slot_of s), []) }

name_walk : (s : Setting) (n : ℕ) (h : Held) → walked all_rules [] (stands n Open h) (name_of s) ≡ stands n (Value s) (asked s h)
unfolding walked
name_walk Budget n h = rw (by_long Budget) refl
name_walk Workers n h = rw (by_long Workers) refl

name_passes : (s : Setting) (n : ℕ) (h : Held) → settle h ≡ true → turn_passes shape [] (stands n Open h) (name_of s) ≡ true
name_passes Budget n h settles = rw (by_long Budget, settles) refl
name_passes Workers n h settles = rw (by_long Workers, settles) refl

flag_walk : (n : ℕ) (h : Held) → walked all_rules [] (stands n Open h) (codes "--proof") ≡ stands n Open (reacted all_rules (rule proof) [] h)
unfolding walked
flag_walk n h = rw by_flag refl

flag_passes : (n : ℕ) (h : Held) → settle h ≡ true → has_row (codes "proof") (settled all_rules h).rows ≡ false → turn_passes shape [] (stands n Open h) (codes "--proof") ≡ true
flag_passes n h settles fresh = rw (by_flag, settles, fresh) refl

abbrev waiting_held : Slot → List Row → List Word → ℕ → Held
waiting_held x rows values skip = record { rows = rows; pending = Some (id_of x, values); skip = skip }

value_walk : (s : Setting) (word : Word) (n : ℕ) (rows : List Row) (skip : ℕ) → IsNoFlag word
    → walked all_rules [] (stands n (Value s) (waiting_held (slot_of s) rows [] skip)) word ≡ stands n Open (waiting_held (slot_of s) rows (word ∷ []) skip)
unfolding walked
value_walk Budget word n rows skip flag = rw (flag.dashes, flag.long, flag.short, by_id budget) refl
value_walk Workers word n rows skip flag = rw (flag.dashes, flag.long, flag.short, by_id workers) refl

value_passes : (s : Setting) (word : Word) (n : ℕ) (h : Held) → IsNoFlag word → turn_passes shape [] (stands n (Value s) h) word ≡ true
value_passes s word n h flag = rw (flag.dashes, flag.long, flag.short) refl

abbrev taken_held : Slot → Word → Held → Held
taken_held x word h = record (settled all_rules h) { pending = Some (id_of x, word ∷ []) }

abbrev pushed_where : Slot → Word → Held → Bool → Held
pushed_where x word h b = pushed (id_of x) word (if b then h else settled all_rules h)

taken_is : (x : Slot) (word : Word) (h : Held) → positional_held all_rules (rule x) word h ≡ taken_held x word h
taken_is job word h = ap (pushed_where job word h) (and-false (is_pending (rule job) h.pending))
taken_is file word h = ap (pushed_where file word h) (and-false (is_pending (rule file) h.pending))
taken_is report word h = ap (pushed_where report word h) (and-false (is_pending (rule report) h.pending))
taken_is budget word h = ap (pushed_where budget word h) (and-false (is_pending (rule budget) h.pending))
taken_is workers word h = ap (pushed_where workers word h) (and-false (is_pending (rule workers) h.pending))
taken_is proof word h = ap (pushed_where proof word h) (and-false (is_pending (rule proof) h.pending))

-- the places where a plain word may stand
record IsTurn (n : ℕ) (x : Slot) (m : ℕ) : Type 0 where
  found : arg_by_index all_rules n ≡ Some (rule x)
  later : min (n + 1) usize_max ≡ m

first_turn : IsTurn 1 job 2
first_turn = record { found = by_first; later = refl }

second_turn : IsTurn 2 file 3
second_turn = record { found = by_second; later = refl }

third_turn : IsTurn 3 report 4
third_turn = record { found = by_third; later = refl }

open_walk : (x : Slot) (n m : ℕ) (word : Word) (h : Held) → IsTurn n x m → IsNoFlag word → walked all_rules [] (stands n Open h) word ≡ stands m Open (taken_held x word h)
unfolding walked
open_walk job n m word h turn flag = rw (flag.dashes, flag.long, flag.short, turn.found, turn.later) (ap (stands m Open) (taken_is job word h))
open_walk file n m word h turn flag = rw (flag.dashes, flag.long, flag.short, turn.found, turn.later) (ap (stands m Open) (taken_is file word h))
open_walk report n m word h turn flag = rw (flag.dashes, flag.long, flag.short, turn.found, turn.later) (ap (stands m Open) (taken_is report word h))
open_walk budget n m word h turn flag = rw (flag.dashes, flag.long, flag.short, turn.found, turn.later) (ap (stands m Open) (taken_is budget word h))
open_walk workers n m word h turn flag = rw (flag.dashes, flag.long, flag.short, turn.found, turn.later) (ap (stands m Open) (taken_is workers word h))
open_walk proof n m word h turn flag = rw (flag.dashes, flag.long, flag.short, turn.found, turn.later) (ap (stands m Open) (taken_is proof word h))

closed_walk : (x : Slot) (n m : ℕ) (word : Word) (h : Held) → IsTurn n x m → walked all_rules [] (stands n Closed h) word ≡ stands m Closed (taken_held x word h)
unfolding walked
closed_walk job n m word h turn = rw (turn.found, turn.later) (ap (stands m Closed) (taken_is job word h))
closed_walk file n m word h turn = rw (turn.found, turn.later) (ap (stands m Closed) (taken_is file word h))
closed_walk report n m word h turn = rw (turn.found, turn.later) (ap (stands m Closed) (taken_is report word h))
closed_walk budget n m word h turn = rw (turn.found, turn.later) (ap (stands m Closed) (taken_is budget word h))
closed_walk workers n m word h turn = rw (turn.found, turn.later) (ap (stands m Closed) (taken_is workers word h))
closed_walk proof n m word h turn = rw (turn.found, turn.later) (ap (stands m Closed) (taken_is proof word h))

open_passes : (x : Slot) (n m : ℕ) (word : Word) (h : Held) → IsTurn n x m → IsNoFlag word → settle h ≡ true → turn_passes shape [] (stands n Open h) word ≡ true
open_passes x n m word h turn flag settles = rw (flag.dashes, flag.long, flag.short, turn.found, settles) (or-true (is_pending (rule x) h.pending && walk.takes_several (rule x)))

closed_passes : (x : Slot) (n m : ℕ) (word : Word) (h : Held) → IsTurn n x m → settle h ≡ true → turn_passes shape [] (stands n Closed h) word ≡ true
closed_passes x n m word h turn settles = rw (turn.found, settles) (or-true (is_pending (rule x) h.pending && walk.takes_several (rule x)))

-- ---- what is held
settled_is : (x : Slot) (word : Word) (rows : List Row) (skip : ℕ) → (settled all_rules (waiting_held x rows (word ∷ []) skip)).rows ≡ added (id_of x) word rows
settled_is x word rows skip = ap (λ o. walk.used_by_id o (word ∷ []) rows) (by_id x) ∙ use_is x word rows

settles_is : (x : Slot) (word : Word) (rows : List Row) (skip : ℕ) → TakesText x → has_row (id_of x) rows ≡ false → settle (waiting_held x rows (word ∷ []) skip) ≡ true
settles_is x word rows skip text fresh = rw (by_id x) (pass_is x word rows text fresh)

record IsHeld (c : Command) (h : Held) : Type 0 where
  settles : settle h ≡ true
  rows : HasRows c (settled all_rules h).rows

-- the rows and the value that waits, before an option's value
abbrev Holds : Place → Command → Held → Type 0
Holds Open c h = IsHeld c h
Holds Closed c h = IsHeld c h
Holds (Value s) c h = (rows : List Row) × (skip : ℕ) × (h ≡ waiting_held (slot_of s) rows [] skip) × HasRows c rows

fresh_at : (x : Slot) (c : Command) (rows : List Row) → HasRows c rows → value_at x c ≡ None → has_row (id_of x) rows ≡ false
fresh_at x c rows has none = none_has (id_of x) rows (has x ∙ ap (option_map (row_for (id_of x))) none)

-- the command d has one value more than c, at x
abbrev Gains : Slot → Word → Command → Command → Type 0
Gains x word c d = (y : Slot) → value_at y d ≡ cond (bytes_eq (id_of x) (id_of y)) (Some word) (value_at y c)

taken_holds : (x : Slot) (word : Word) (c d : Command) (rows : List Row) (skip : ℕ) → TakesText x → HasRows c rows → value_at x c ≡ None → Gains x word c d → IsHeld d (waiting_held x rows (word ∷ []) skip)
taken_holds x word c d rows skip text has none gains = record {
  settles = settles_is x word rows skip text (fresh_at x c rows has none);
  rows = subst (HasRows d) (sym (settled_is x word rows skip)) (added_rows x word c d rows has none gains);
}

reacted_holds : (x : Slot) (word : Word) (c d : Command) (h : Held) → HasRows c (settled all_rules h).rows → value_at x c ≡ None → Gains x word c d → IsHeld d (reacted all_rules (rule x) (word ∷ []) h)
reacted_holds x word c d h has none gains = record {
  settles = refl;
  rows = subst (HasRows d) (sym (use_is x word (settled all_rules h).rows)) (added_rows x word c d (settled all_rules h).rows has none gains);
}

flag_holds : (c d : Command) (h : Held) → HasRows c (settled all_rules h).rows → value_at proof c ≡ None → Gains proof (codes "true") c d → IsHeld d (reacted all_rules (rule proof) [] h)
flag_holds c d h has none gains = record {
  settles = refl;
  rows = subst (HasRows d) (sym (flag_use_is (settled all_rules h).rows)) (added_rows proof (codes "true") c d (settled all_rules h).rows has none gains);
}

first_of_more : (word : Word) (ws : List Word) → slice_get ws 0 ≡ None → slice_get (ws ++ word ∷ []) 0 ≡ Some word
first_of_more word [] e = refl
first_of_more word (w ∷ ws) e = let never : Some w ≡ None = e in cc

gains_value : (s : Setting) (word : Word) (c : Command) → value_at (slot_of s) c ≡ None → Gains (slot_of s) word c (added_value s c word)
gains_value Budget word c none budget = first_of_more word c.budgets none
gains_value Budget word c none _ = refl
gains_value Workers word c none workers = first_of_more word c.workers none
gains_value Workers word c none _ = refl

takes_text : (s : Setting) → TakesText (slot_of s)
takes_text Budget = tt
takes_text Workers = tt

abbrev command : List Word → List Word → List Word → ℕ → Command
command plain budgets workers' proofs = record { plain = plain; budgets = budgets; workers = workers'; proofs = proofs }

gains_job : (word : Word) (bs ws : List Word) (n : ℕ) → Gains job word (command [] bs ws n) (command (word ∷ []) bs ws n)
gains_job word bs ws n job = refl
gains_job word bs ws n _ = refl

gains_file : (a word : Word) (bs ws : List Word) (n : ℕ) → Gains file word (command (a ∷ []) bs ws n) (command (a ∷ word ∷ []) bs ws n)
gains_file a word bs ws n file = refl
gains_file a word bs ws n _ = refl

gains_report : (a b word : Word) (bs ws : List Word) (n : ℕ) → Gains report word (command (a ∷ b ∷ []) bs ws n) (command (a ∷ b ∷ word ∷ []) bs ws n)
gains_report a b word bs ws n report = refl
gains_report a b word bs ws n _ = refl

gains_flag : (c : Command) → c.proofs ≡ 0 → Gains proof (codes "true") c (record c { proofs = c.proofs + 1 })
gains_flag c none proof = rw none refl
gains_flag c none _ = refl

-- ---- the whole walk
pub record IsFew (c : Command) : Type 0 where
  pub plain : length c.plain ≤ 3
  pub budgets : length c.budgets ≤ 1
  pub workers : length c.workers ≤ 1
  pub proofs : c.proofs ≤ 1

abbrev place_after : List Word → ℕ
place_after [] = 1
place_after (a ∷ []) = 2
place_after (a ∷ (b ∷ [])) = 3
place_after (a ∷ (b ∷ (c ∷ ws))) = 4

record Walks (c : Command) (words : List Word) (w : Walk) : Type 0 where
  passes : walk_passes shape [] w words ≡ true
  over : (fold (walked all_rules []) w words).stopped ≡ None
  held : IsHeld c (fold (walked all_rules []) w words).held

advance : (c : Command) (word : Word) (words : List Word) (w v : Walk) → turn_passes shape [] w word ≡ true → walked all_rules [] w word ≡ v → Walks c words v → Walks c (word ∷ words) w
unfolding walk_passes
advance c word words w v pass step rest = record {
  passes = ap₂ (λ a b. a && b) pass (ap (λ (u : Walk). walk_passes shape [] u words) step ∙ rest.passes);
  over = ap (λ (u : Walk). (fold (walked all_rules []) u words).stopped) step ∙ rest.over;
  held = subst (λ (u : Walk). IsHeld c (fold (walked all_rules []) u words).held) (sym step) rest.held;
}

abbrev Rest : List Word → Type 0
Rest words = (p : Place) (c : Command) (h : Held) (d : Command) → read words p ≡ Some d → IsFew (both c d) → Holds p c h → Walks (both c d) words (stands (place_after c.plain) p h)

too_many : (n : ℕ) (ws rest : List Word) (word : Word) → length (ws ++ word ∷ rest) ≤ n → length ws < n
too_many n ws rest word few = let lengths : length (ws ++ word ∷ rest) ≡ length ws + length (word ∷ rest) = length-append ws (word ∷ rest) in omega (arith, few, lengths)

none_before : (ws rest : List Word) (word : Word) → length (ws ++ word ∷ rest) ≤ 1 → slice_get ws 0 ≡ None
none_before [] rest word few = refl
none_before (w ∷ ws) rest word few = let less = too_many 1 (w ∷ ws) rest word few in absurd (omega (arith, less))

open_plain : (word : Word) (words plain bs ws : List Word) (n : ℕ) (h : Held) (d : Command) → IsNoFlag word → Rest words → read words Open ≡ Some d → IsFew (both (command plain bs ws n) (with_plain word d)) → IsHeld (command plain bs ws n) h
    → Walks (both (command plain bs ws n) (with_plain word d)) (word ∷ words) (stands (place_after plain) Open h)
open_plain word words [] bs ws n h d flag rest e few held =
    advance _ word words _ _ (open_passes job 1 2 word h first_turn flag held.settles) (open_walk job 1 2 word h first_turn flag)
    (rest Open (command (word ∷ []) bs ws n) (taken_held job word h) d e few
    (taken_holds job word (command [] bs ws n) (command (word ∷ []) bs ws n) (settled all_rules h).rows h.skip tt held.rows refl (gains_job word bs ws n)))
open_plain word words (a ∷ []) bs ws n h d flag rest e few held =
    advance _ word words _ _ (open_passes file 2 3 word h second_turn flag held.settles) (open_walk file 2 3 word h second_turn flag)
    (rest Open (command (a ∷ word ∷ []) bs ws n) (taken_held file word h) d e few
    (taken_holds file word (command (a ∷ []) bs ws n) (command (a ∷ word ∷ []) bs ws n) (settled all_rules h).rows h.skip tt held.rows refl (gains_file a word bs ws n)))
open_plain word words (a ∷ (b ∷ [])) bs ws n h d flag rest e few held =
    advance _ word words _ _ (open_passes report 3 4 word h third_turn flag held.settles) (open_walk report 3 4 word h third_turn flag)
    (rest Open (command (a ∷ b ∷ word ∷ []) bs ws n) (taken_held report word h) d e few
    (taken_holds report word (command (a ∷ b ∷ []) bs ws n) (command (a ∷ b ∷ word ∷ []) bs ws n) (settled all_rules h).rows h.skip tt held.rows refl (gains_report a b word bs ws n)))
open_plain word words (a ∷ (b ∷ (c ∷ plain))) bs ws n h d flag rest e few held =
    let less = too_many 3 (a ∷ b ∷ c ∷ plain) d.plain word few.plain in absurd (omega (arith, less))

closed_plain : (word : Word) (words plain bs ws : List Word) (n : ℕ) (h : Held) (d : Command) → Rest words → read words Closed ≡ Some d → IsFew (both (command plain bs ws n) (with_plain word d)) → IsHeld (command plain bs ws n) h
    → Walks (both (command plain bs ws n) (with_plain word d)) (word ∷ words) (stands (place_after plain) Closed h)
closed_plain word words [] bs ws n h d rest e few held =
    advance _ word words _ _ (closed_passes job 1 2 word h first_turn held.settles) (closed_walk job 1 2 word h first_turn)
    (rest Closed (command (word ∷ []) bs ws n) (taken_held job word h) d e few
    (taken_holds job word (command [] bs ws n) (command (word ∷ []) bs ws n) (settled all_rules h).rows h.skip tt held.rows refl (gains_job word bs ws n)))
closed_plain word words (a ∷ []) bs ws n h d rest e few held =
    advance _ word words _ _ (closed_passes file 2 3 word h second_turn held.settles) (closed_walk file 2 3 word h second_turn)
    (rest Closed (command (a ∷ word ∷ []) bs ws n) (taken_held file word h) d e few
    (taken_holds file word (command (a ∷ []) bs ws n) (command (a ∷ word ∷ []) bs ws n) (settled all_rules h).rows h.skip tt held.rows refl (gains_file a word bs ws n)))
closed_plain word words (a ∷ (b ∷ [])) bs ws n h d rest e few held =
    advance _ word words _ _ (closed_passes report 3 4 word h third_turn held.settles) (closed_walk report 3 4 word h third_turn)
    (rest Closed (command (a ∷ b ∷ word ∷ []) bs ws n) (taken_held report word h) d e few
    (taken_holds report word (command (a ∷ b ∷ []) bs ws n) (command (a ∷ b ∷ word ∷ []) bs ws n) (settled all_rules h).rows h.skip tt held.rows refl (gains_report a b word bs ws n)))
closed_plain word words (a ∷ (b ∷ (c ∷ plain))) bs ws n h d rest e few held =
    let less = too_many 3 (a ∷ b ∷ c ∷ plain) d.plain word few.plain in absurd (omega (arith, less))

value_first : (s : Setting) (c d : Command) (value : Word) → IsFew (both c (with_value s value d)) → value_at (slot_of s) c ≡ None
value_first Budget c d value few = none_before c.budgets d.budgets value few.budgets
value_first Workers c d value few = none_before c.workers d.workers value few.workers

value_more : (s : Setting) (c d : Command) (value : Word) → both (added_value s c value) d ≡ both c (with_value s value d)
value_more Budget c d value = ap (λ (ws : List Word). record (both c d) { budgets = ws }) (append_assoc c.budgets (value ∷ []) d.budgets)
value_more Workers c d value = ap (λ (ws : List Word). record (both c d) { workers = ws }) (append_assoc c.workers (value ∷ []) d.workers)

plain_kept : (s : Setting) (c : Command) (value : Word) → (added_value s c value).plain ≡ c.plain
plain_kept Budget c value = refl
plain_kept Workers c value = refl

proof_first : (c d : Command) → IsFew (both c (with_proof d)) → c.proofs ≡ 0
proof_first c d few = let less = few.proofs in omega (arith, less)

proof_more : (c d : Command) → both (record c { proofs = c.proofs + 1 }) d ≡ both c (with_proof d)
proof_more c d = let e : (c.proofs + 1) + d.proofs ≡ c.proofs + (d.proofs + 1) = omega arith in ap (λ n. record (both c d) { proofs = n }) e

-- the rest of the walk after an option has its value
value_rest : (s : Setting) (value : Word) (words : List Word) (c d : Command) (h : Held) → Rest words → read words Open ≡ Some d → IsFew (both c (with_value s value d)) → IsHeld (added_value s c value) h
    → Walks (both c (with_value s value d)) words (stands (place_after c.plain) Open h)
value_rest s value words c d h rest e few held =
    let after = rest Open (added_value s c value) h d e (subst IsFew (sym (value_more s c d value)) few) held in
    let moved = subst (λ (ws : List Word). Walks (both (added_value s c value) d) words (stands (place_after ws) Open h)) (plain_kept s c value) after in
    subst (λ (t : Command). Walks t words (stands (place_after c.plain) Open h)) (value_more s c d value) moved

open_walks : (word : Word) (words : List Word) (c : Command) (h : Held) (d : Command) (k : reading.WordKind) → IsKind word k → Rest words → open_step k word (read words) ≡ Some d → IsFew (both c d) → IsHeld c h
    → Walks (both c d) (word ∷ words) (stands (place_after c.plain) Open h)
open_walks word words c h d reading.dashes is rest e few held =
    subst (λ (w : Word). Walks (both c d) (w ∷ words) (stands (place_after c.plain) Open h)) (sym is)
    (advance _ (codes "--") words _ _ refl (dashes_walk (place_after c.plain) h) (rest Closed c h d e few held))
open_walks word words c h d (reading.name s) is rest e few held =
    subst (λ (w : Word). Walks (both c d) (w ∷ words) (stands (place_after c.plain) Open h)) (sym is)
    (advance _ (name_of s) words _ _ (name_passes s (place_after c.plain) h held.settles) (name_walk s (place_after c.plain) h)
    (rest (Value s) c (asked s h) d e few ((settled all_rules h).rows, h.skip, refl, held.rows)))
open_walks word words c h d (reading.joined s value) is rest e few held =
    let found = mapped (with_value s value) (read words Open) d e in
    let few' : IsFew (both c (with_value s value found.0)) = subst (λ (t : Command). IsFew (both c t)) (sym found.2) few in
    let none = value_first s c found.0 value few' in
    subst (λ (w : Word). Walks (both c d) (w ∷ words) (stands (place_after c.plain) Open h)) (sym is)
    (advance _ (name_of s ++ 61 ∷ value) words _ _ (joined_passes s value (place_after c.plain) h held.settles (fresh_at (slot_of s) c (settled all_rules h).rows held.rows none)) (joined_walk s value (place_after c.plain) h)
    (subst (λ (t : Command). Walks (both c t) words (stands (place_after c.plain) Open (reacted all_rules (rule (slot_of s)) (value ∷ []) h))) found.2
    (value_rest s value words c found.0 (reacted all_rules (rule (slot_of s)) (value ∷ []) h) rest found.1 few' (reacted_holds (slot_of s) value c (added_value s c value) h held.rows none (gains_value s value c none)))))
open_walks word words c h d reading.flag is rest e few held =
    let found = mapped with_proof (read words Open) d e in
    let few' : IsFew (both c (with_proof found.0)) = subst (λ (t : Command). IsFew (both c t)) (sym found.2) few in
    let zero : c.proofs ≡ 0 = proof_first c found.0 few' in
    let none : value_at proof c ≡ None = rw zero refl in
    let after = rest Open (record c { proofs = c.proofs + 1 }) (reacted all_rules (rule proof) [] h) found.0 found.1 (subst IsFew (sym (proof_more c found.0)) few')
    (flag_holds c (record c { proofs = c.proofs + 1 }) h held.rows none (gains_flag c zero)) in
    subst (λ (w : Word). Walks (both c d) (w ∷ words) (stands (place_after c.plain) Open h)) (sym is)
    (advance _ (codes "--proof") words _ _ (flag_passes (place_after c.plain) h held.settles (fresh_at proof c (settled all_rules h).rows held.rows none)) (flag_walk (place_after c.plain) h)
    (subst (λ (t : Command). Walks (both c t) words (stands (place_after c.plain) Open (reacted all_rules (rule proof) [] h))) found.2
    (subst (λ (t : Command). Walks t words (stands (place_after c.plain) Open (reacted all_rules (rule proof) [] h))) (proof_more c found.0) after)))
open_walks word words c h d reading.plain is rest e few held =
    let found = mapped (with_plain word) (read words Open) d e in
    subst (λ (t : Command). Walks (both c t) (word ∷ words) (stands (place_after c.plain) Open h)) found.2
    (open_plain word words c.plain c.budgets c.workers c.proofs h found.0 (plain_no_flag word is) rest found.1 (subst (λ (t : Command). IsFew (both c t)) (sym found.2) few) held)
open_walks word words c h d reading.unknown is rest e few held = let never : None ≡ Some d = e in cc

value_walks : (s : Setting) (word : Word) (words : List Word) (c : Command) (h : Held) (d : Command) (b : Bool) → begins_with_dash word ≡ b → Rest words → cond b None (option_map (with_value s word) (read words Open)) ≡ Some d → IsFew (both c d)
    → Holds (Value s) c h → Walks (both c d) (word ∷ words) (stands (place_after c.plain) (Value s) h)
value_walks s word words c h d true is rest e few holds = let never : None ≡ Some d = e in cc
value_walks s word words c h d false is rest e few holds =
    let found = mapped (with_value s word) (read words Open) d e in
    let few' : IsFew (both c (with_value s word found.0)) = subst (λ (t : Command). IsFew (both c t)) (sym found.2) few in
    let none = value_first s c found.0 word few' in
    let flag = undashed word is in
    let rows = holds.0 in
    let skip = holds.1 in
    subst (λ (k : Held). Walks (both c d) (word ∷ words) (stands (place_after c.plain) (Value s) k)) (sym holds.2)
    (advance _ word words _ _ (value_passes s word (place_after c.plain) (waiting_held (slot_of s) rows [] skip) flag) (value_walk s word (place_after c.plain) rows skip flag)
    (subst (λ (t : Command). Walks (both c t) words (stands (place_after c.plain) Open (waiting_held (slot_of s) rows (word ∷ []) skip))) found.2
    (value_rest s word words c found.0 (waiting_held (slot_of s) rows (word ∷ []) skip) rest found.1 few' (taken_holds (slot_of s) word c (added_value s c word) rows skip (takes_text s) holds.3 none (gains_value s word c none)))))

closed_walks : (word : Word) (words : List Word) (c : Command) (h : Held) (d : Command) → Rest words → option_map (with_plain word) (read words Closed) ≡ Some d → IsFew (both c d) → IsHeld c h → Walks (both c d) (word ∷ words) (stands (place_after c.plain) Closed h)
closed_walks word words c h d rest e few held =
    let found = mapped (with_plain word) (read words Closed) d e in
    subst (λ (t : Command). Walks (both c t) (word ∷ words) (stands (place_after c.plain) Closed h)) found.2
    (closed_plain word words c.plain c.budgets c.workers c.proofs h found.0 rest found.1 (subst (λ (t : Command). IsFew (both c t)) (sym found.2) few) held)

end_walks : (p : Place) (c : Command) (h : Held) (d : Command) → at_end p ≡ Some d → Holds p c h → Walks (both c d) [] (stands (place_after c.plain) p h)
unfolding walk_passes
end_walks Open c h d e held = let same : nothing ≡ d = cc in
    subst (λ (t : Command). Walks (both c t) [] (stands (place_after c.plain) Open h)) same
    (subst (λ (t : Command). Walks t [] (stands (place_after c.plain) Open h)) (sym (both_end c)) (record { passes = refl; over = refl; held = held }))
end_walks (Value s) c h d e held = let never : None ≡ Some d = e in cc
end_walks Closed c h d e held = let same : nothing ≡ d = cc in
    subst (λ (t : Command). Walks (both c t) [] (stands (place_after c.plain) Closed h)) same
    (subst (λ (t : Command). Walks t [] (stands (place_after c.plain) Closed h)) (sym (both_end c)) (record { passes = refl; over = refl; held = held }))

walks : (words : List Word) → Rest words
unfolding read
walks [] p c h d e few holds = end_walks p c h d e holds
walks (word ∷ words) Open c h d e few holds = open_walks word words c h d (kind word) (kind_is word) (walks words) e few holds
walks (word ∷ words) (Value s) c h d e few holds = value_walks s word words c h d (begins_with_dash word) refl (walks words) e few holds
walks (word ∷ words) Closed c h d e few holds = closed_walks word words c h d (walks words) e few holds

-- ---- the whole parse
default_is : (x : Slot) (rows : List Row) → TakesText x → with_default rows (rule x) ≡ rows
default_is job rows text = cond-same (has_row (codes "job") rows) rows
default_is file rows text = cond-same (has_row (codes "file") rows) rows
default_is report rows text = cond-same (has_row (codes "report") rows) rows
default_is budget rows text = cond-same (has_row (codes "budget") rows) rows
default_is workers rows text = cond-same (has_row (codes "workers") rows) rows
default_is proof rows text = absurd text

flag_default_is : (rows : List Row) → with_default rows (rule proof) ≡ with_flag rows
flag_default_is rows = refl

finished_is : (h : Held) → finished all_rules h ≡ with_flag (settled all_rules h).rows
unfolding all_rules
finished_is h =
    let rows = (settled all_rules h).rows in
    ap (λ (rs : List Row). fold with_default rs (rule file ∷ rule report ∷ rule budget ∷ rule workers ∷ rule proof ∷ [])) (default_is job rows tt)
    ∙ (ap (λ (rs : List Row). fold with_default rs (rule report ∷ rule budget ∷ rule workers ∷ rule proof ∷ [])) (default_is file rows tt)
    ∙ (ap (λ (rs : List Row). fold with_default rs (rule budget ∷ rule workers ∷ rule proof ∷ [])) (default_is report rows tt)
    ∙ (ap (λ (rs : List Row). fold with_default rs (rule workers ∷ rule proof ∷ [])) (default_is budget rows tt)
    ∙ (ap (λ (rs : List Row). fold with_default rs (rule proof ∷ [])) (default_is workers rows tt) ∙ flag_default_is rows))))

defaults_pass : list_all default_passes all_rules ≡ true
unfolding all_rules
defaults_pass = refl

given_is : (id value : Word) (rows : List Row) → find (is_for id) rows ≡ Some (row_for id value) → is_given id rows ≡ true
given_is id value rows e = rw e refl

valid_is : (rows : List Row) → is_given (codes "job") rows ≡ true → is_given (codes "file") rows ≡ true → is_valid shape rows false ≡ true
unfolding all_rules
valid_is rows e e' = rw (e, e') refl

-- the first two of the words
two : (ws : List Word) → 2 ≤ length ws → (a : Word) × (b : Word) × (rest : List Word) × (ws ≡ a ∷ b ∷ rest)
two [] few = absurd (omega (arith, few))
two (a ∷ []) few = absurd (omega (arith, few))
two (a ∷ (b ∷ rest)) few = (a, b, rest, refl)

pub record IsTaken (words : List Word) (c : Command) : Type 0 where
  pub takes : takes line words ≡ true
  pub first : (x : Slot) → TakesText x → first_of (id_of x) (matches_of line words) ≡ value_at x c
  pub flag : one_of (codes "proof") (matches_of line words) ≡ Some (cond (nat_eq c.proofs 0) (codes "false") (codes "true"))

nothing_has : HasRows nothing []
nothing_has job = refl
nothing_has _ = refl

pub taken : (words : List Word) (c : Command) → read words Open ≡ Some c → IsWholeTally (tally_of c) → IsTaken words c
taken words c e whole =
    let walked' = walks words Open nothing nothing_held c e (record { plain = whole.most; budgets = whole.budgets; workers = whole.workers; proofs = omega (arith, whole.proofs) }) (record { settles = refl; rows = nothing_has }) in
    let last = (fold (walked all_rules []) (stands 1 Open nothing_held) words).held in
    let rows = (settled all_rules last).rows in
    let rows_are : finished all_rules last ≡ with_flag rows = finished_is last in
    let has : HasRows c rows = subst (λ (d : Command). HasRows d rows) (nothing_both c) walked'.held.rows in
    let words_are = two c.plain whole.least in
    let job_is : value_at job c ≡ Some words_are.0 = ap (λ (ws : List Word). slice_get ws 0) words_are.3 in
    let file_is : value_at file c ≡ Some words_are.1 = ap (λ (ws : List Word). slice_get ws 1) words_are.3 in
    let job_given = given_is (codes "job") words_are.0 (with_flag rows) (text_row c rows has job tt ∙ ap (option_map (row_for (codes "job"))) job_is) in
    let file_given = given_is (codes "file") words_are.1 (with_flag rows) (text_row c rows has file tt ∙ ap (option_map (row_for (codes "file"))) file_is) in
    let valid : is_valid shape (finished all_rules last) false ≡ true = subst (λ (rs : List Row). is_valid shape rs false ≡ true) (sym rows_are) (valid_is (with_flag rows) job_given file_given) in
    let level : level_passes shape [] nothing_held words false ≡ true =
    ap₂ (λ a b. a && b) walked'.passes (ap₂ (λ a b. a && b) walked'.held.settles (ap₂ (λ a b. a && b) defaults_pass valid)) in
    let matches_are : matches_of line words ≡ with_flag rows = ap (λ (a : App). rows_after a.top.rules (names_of a) words) built_is ∙ rows_are in
    record {
      takes = ap₂ (λ a b. a && b) simple_is (ap (λ (a : App). built_takes a nothing_held words) built_is ∙ leaf_takes (record { top = shape; subs = [] }) nothing_held words refl level);
      first = λ x text. ap (first_of (id_of x)) matches_are ∙ first_at c rows has x text;
      flag = ap (one_of (codes "proof")) matches_are ∙ flag_at c rows has;
    }

one_at_most : (ws : List Word) (r : Option (Bor Word)) → length ws ≤ 1 → slice_get ws 0 ≡ option_map (λ v. v.now) r → ws ≡ value_list r
one_at_most [] None few e = refl
one_at_most [] (Some value) few e = let never : None ≡ Some value.now = e in cc
one_at_most (w ∷ []) None few e = let never : Some w ≡ None = e in cc
one_at_most (w ∷ []) (Some value) few e = let same : Some w ≡ Some value.now = e in cc
one_at_most (w ∷ (second ∷ ws)) r few e = absurd (omega (arith, few))

-- the plain words by those that are told
plain_is : (ws : List Word) (job' file' : Word) (r : Option (Bor Word)) → 2 ≤ length ws → length ws ≤ 3
    → Some job' ≡ slice_get ws 0 → Some file' ≡ slice_get ws 1 → option_map (λ v. v.now) r ≡ slice_get ws 2 → ws ≡ job' ∷ file' ∷ value_list r
plain_is [] job' file' r least most j f third = absurd (omega (arith, least))
plain_is (a ∷ []) job' file' r least most j f third = absurd (omega (arith, least))
plain_is (a ∷ (b ∷ ws)) job' file' r least most j f third =
    let j' : Some job' ≡ Some a = j in
    let f' : Some file' ≡ Some b = f in
    let rest : ws ≡ value_list r = one_at_most ws r (omega (arith, most)) (sym third) in cc

-- the flag by whether it is told
flag_is_told : (n : ℕ) (flag : Bool) → n ≤ 1 → (nat_eq n 0 ≡ true → flag ≡ false) → (nat_eq n 0 ≡ false → flag ≡ true) → n ≡ times flag
flag_is_told zero flag few none one = rw (none refl) refl
flag_is_told (suc zero) flag few none one = rw (one refl) refl
flag_is_told (suc (suc n)) flag few none one = absurd (omega (arith, few))

-- a whole command by what is told of it
pub command_is : (c : Command) (job' file' : Word) (r b w : Option (Bor Word)) (flag : Bool) → IsWholeTally (tally_of c) → Some job' ≡ value_at job c → Some file' ≡ value_at file c
    → option_map (λ v. v.now) r ≡ value_at report c → option_map (λ v. v.now) b ≡ value_at budget c → option_map (λ v. v.now) w ≡ value_at workers c
    → c.proofs ≡ times flag → c ≡ record { plain = job' ∷ file' ∷ value_list r; budgets = value_list b; workers = value_list w; proofs = times flag }
command_is c job' file' r b w flag whole j f r_is b_is w_is proof_is =
    let plain_are : c.plain ≡ job' ∷ file' ∷ value_list r = plain_is c.plain job' file' r whole.least whole.most j f r_is in
    let budgets_are : c.budgets ≡ value_list b = one_at_most c.budgets b whole.budgets (sym b_is) in
    let workers_are : c.workers ≡ value_list w = one_at_most c.workers w whole.workers (sym w_is) in
    ap (λ (ws : List Word). command ws c.budgets c.workers c.proofs) plain_are
    ∙ (ap (λ (ws : List Word). command (job' ∷ file' ∷ value_list r) ws c.workers c.proofs) budgets_are
    ∙ (ap (λ (ws : List Word). command (job' ∷ file' ∷ value_list r) (value_list b) ws c.proofs) workers_are
    ∙ ap (command (job' ∷ file' ∷ value_list r) (value_list b) (value_list w)) proof_is))

pub job_there : (c : Command) (r : Option (Bor Word)) → IsWholeTally (tally_of c) → option_map (λ v. v.now) r ≡ value_at job c → ¬ (r ≡ None)
job_there c r whole e none =
    let words_are = two c.plain whole.least in
    let never : None ≡ Some words_are.0 = sym (ap (option_map (λ (v : Bor Word). v.now)) none) ∙ (e ∙ ap (λ (ws : List Word). slice_get ws 0) words_are.3) in cc

pub file_there : (c : Command) (r : Option (Bor Word)) → IsWholeTally (tally_of c) → option_map (λ v. v.now) r ≡ value_at file c → ¬ (r ≡ None)
file_there c r whole e none =
    let words_are = two c.plain whole.least in
    let never : None ≡ Some words_are.1 = sym (ap (option_map (λ (v : Bor Word). v.now)) none) ∙ (e ∙ ap (λ (ws : List Word). slice_get ws 1) words_are.3) in cc

-- what the getter of an argument tells
pub text_is : (x : Slot) (words : List Word) (c : Command) (m : ArgMatches) (r : Option (Bor Word)) → TakesText x → HasMatchesOf line words m → IsTaken words c
    → option_map (λ v. v.now) r ≡ first_value (found_of m) (id_of x) → option_map (λ v. v.now) r ≡ value_at x c
text_is x words c m r text matches known e = e ∙ (first_value-rows (found_of m) (id_of x) ∙ (ap (first_of (id_of x)) (matches simple_is).0 ∙ known.first x text))

-- what the getter of the flag tells
pub flag_told : (words : List Word) (c : Command) (m : ArgMatches) (flag : Bool) → IsWholeTally (tally_of c) → HasMatchesOf line words m → IsTaken words c
    → (one_text (found_of m) (codes "proof") ≡ Some (codes "true") → flag ≡ true) → (one_text (found_of m) (codes "proof") ≡ Some (codes "false") → flag ≡ false)
    → c.proofs ≡ times flag
flag_told words c m flag whole matches known given missing =
    let told : one_text (found_of m) (codes "proof") ≡ Some (cond (nat_eq c.proofs 0) (codes "false") (codes "true")) =
    one_text-rows (found_of m) (codes "proof") ∙ (ap (one_of (codes "proof")) (matches simple_is).0 ∙ known.flag) in
    flag_is_told c.proofs flag whole.proofs (λ none. missing (told ∙ ap (λ b. Some (cond b (codes "false") (codes "true"))) none)) (λ one. given (told ∙ ap (λ b. Some (cond b (codes "false") (codes "true"))) one))
