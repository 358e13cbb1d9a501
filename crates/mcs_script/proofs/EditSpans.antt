-- Edits by themselves in the bytes of a script.
use Rattle.std.proofs.Common.{◌≡◌, ℕ, zero, suc, ◌<◌, ◌≤◌, List, [], ◌∷◌, ◌++◌, codes, length, Option, Some, None, refl, sym, ap, subst, ◌∙◌, arith, Bool, true, false}
use Rattle.std.specs.Prelude.{slice_range, ◌≢◌, IsTrue, not, ◌&&◌, Result, Ok, Err, IfOk, IfErr}
use Rattle.std.proofs.lemmas.Bool.{and_from}
use Rattle.mcs_base.specs.Words.{is_name, is_word, is_reserved}
use Rattle.mcs_base.proofs.WordLemmas.{name_is_short}
use Rattle.mcs_tokens.proofs.Gaps.{ended_there}
use Rattle.mcs_system.specs.declared.limit.Limit.TheVariants.{NameBytes}
use Rattle.mcs_system.specs.Plain.{Name}
use Rattle.mcs_system.specs.Seen.{bridge_of}
use Rattle.mcs_system.specs.declared.limit.Limit.{Limit}
use Rattle.mcs_tokens.specs.Tokens.{IsNextToken}
use Rattle.mcs_tokens.specs.declared.scan.Span.{Span}
use Rattle.mcs_grammar.specs.Written.{IsNameWord, IsWrittenBridge}
use Rattle.mcs_grammar.specs.Entries.{Token, bridge_entries}
use Rattle.mcs_grammar.specs.Faults.{TextFault, NoGrammar, rank, fault_number, limit_of}
use Rattle.mcs_grammar.specs.Texts.{token_texts}
use Rattle.mcs_grammar.specs.Alone.{AreFirstTokens, IsNextAt, AreFree, SpellsOne, HasFirstFault, RuleHasFault}
use Rattle.mcs_faults.specs.declared.fault.Fault as code_fault
use Rattle.mcs_faults.specs.declared.fault.Fault.TheVariants as faults
use Rattle.mcs_faults.specs.declared.fault.TextFault as code_text
use Rattle.mcs_faults.specs.declared.fault.TextFault.TheVariants as texts
use Rattle.mcs_faults.specs.Watching.{fault_for}
use Rattle.mcs_language.specs.declared.rules.ReadRule.{ReadRule}
use Rattle.mcs_language.specs.Rules.{IsRuleOf, IsToldOfRule}
use Rattle.mcs_script.specs.declared.reading.ReadEdit.{ReadEdit}
use Rattle.mcs_script.specs.Edits.{Added, Adds, Drops, Lists, IsWrittenEdit, edit_entries, SaysEdit}
use Rattle.mcs_script.specs.Seen.{edit_of}
use Rattle.mcs_script.specs.Worked.{written_rule}
use Rattle.mcs_script.proofs.WorkedEdits.{edits-written}
use Rattle.mcs_script.specs.Reading.{IsTokenTo, IsOtherAt, IsNameFault, IsEditOf, IsDrop, IsToldOfEdit, IsReadOrTold}
use Rattle.mcs_script.proofs.EditTokens.{add, drop, list, period, none-whole, other-word, drop-free, drop-open, drop-unnamed, drop-named, long-name, long-lowest, drop-going, drop-other, drop-ended, EditBegins, EditIsWhole, EditFault, lowest-of-all, list-free, list-open, list-other, list-ended, added-fault, fault-added, added-free, added-whole}

abbrev EditFree : List Name → List Token → Type 0
EditFree names ts = AreFree IsWrittenEdit edit_entries names ts

free-one : (names : List Name) (a : Token) → ((f : TextFault) → ¬ EditFault names [] (Some a) f) → EditFree names (a ∷ [])
free-one names a one zero f below h = one f h
free-one names a one (suc j) f below h = absurd (omega (arith, below))

free-two : (names : List Name) (a b : Token) → ((f : TextFault) → ¬ EditFault names [] (Some a) f) → ((f : TextFault) → ¬ EditFault names (a ∷ []) (Some b) f) → EditFree names (a ∷ b ∷ [])
free-two names a b one two zero f below h = one f h
free-two names a b one two (suc zero) f below h = two f h
free-two names a b one two (suc (suc j)) f below h = absurd (omega (arith, below))

free-three : (names : List Name) (a b c : Token) → ((f : TextFault) → ¬ EditFault names [] (Some a) f) → ((f : TextFault) → ¬ EditFault names (a ∷ []) (Some b) f) → ((f : TextFault) → ¬ EditFault names (a ∷ b ∷ []) (Some c) f) → EditFree names (a ∷ b ∷ c ∷ [])
free-three names a b c one two three zero f below h = one f h
free-three names a b c one two three (suc zero) f below h = two f h
free-three names a b c one two three (suc (suc zero)) f below h = three f h
free-three names a b c one two three (suc (suc (suc j))) f below h = absurd (omega (arith, below))

both_true : (a b : Bool) → (a && b) ≡ true → (a ≡ true) × (b ≡ true)
both_true true b e = (refl, e)
both_true false b e = absurd (cc)

-- a token that is no period, where one has to come
other-next : (names : List Name) (ts : List Token) (next : Option Token) → next ≢ Some period → ¬ EditIsWhole ts → ((t : Token) → t ≢ period → ¬ EditBegins (ts ++ t ∷ [])) → EditFault names ts next NoGrammar
other-next names ts None other whole none = whole
other-next names ts (Some t) other whole none = none t (λ e. other (ap (λ (x : Token). Some x) e))

module _ (names : List Name) (bytes : List ℕ) (at : ℕ) where
  -- the fault that is told
  edit-told : (spans : List Span) (end : ℕ) (ts : List Token) → AreFirstTokens bytes at spans end → token_texts bytes spans ≡ ts → EditFree names ts → ¬ EditIsWhole ts → (next : Option Token) (offset : ℕ) → IsNextAt bytes end next offset → (f : code_fault.Fault) → EditFault names ts next (fault_for f)
      → ((g : TextFault) → EditFault names ts next g → rank (fault_for f) ≤ rank g) → (told : code_text.TextFault) → told ≡ texts.Fault (fault_number (fault_for f)) offset (limit_of (fault_for f)) → IsToldOfEdit names bytes at told
  edit-told spans end ts tokens are free whole next offset is-next f holds low told is =
      let here : HasFirstFault IsWrittenEdit edit_entries names bytes at (fault_number (fault_for f)) (limit_of (fault_for f)) offset = record {
        spans = spans;
        end = end;
        tokens = tokens;
        no_fault = subst (EditFree names) (sym are) free;
        unfinished = subst (λ (us : List Token). ¬ EditIsWhole us) (sym are) whole;
        next = next;
        is_next = is-next;
        fault = fault_for f;
        holds = subst (λ (us : List Token). EditFault names us next (fault_for f)) (sym are) holds;
        lowest = λ g h. low g (subst (λ (us : List Token). EditFault names us next g) are h);
        number_is = refl;
        limit_is = refl;
      } in
      subst (IsToldOfEdit names bytes at) (sym is) here

  -- ---- a listing
  module _ (to : ℕ) (word : IsTokenTo (codes "list") bytes at to) where
    abbrev one : Span
    one = record { from = word.0; to = to }

    pub listed-told : (offset : ℕ) → IsOtherAt bytes to offset → (told : code_text.TextFault) → told ≡ texts.Fault (fault_number NoGrammar) offset (limit_of NoGrammar) → IsToldOfEdit names bytes at told
    listed-told offset (next, is-next, other) told is =
        edit-told (one ∷ []) to (list ∷ []) (word.1, word.2, refl) (ap (λ (t : Token). t ∷ []) word.3) (free-one names list (list-free names)) list-open next offset is-next faults.NoGrammar
        (other-next names (list ∷ []) next other list-open list-other) (λ g _. lowest-of-all g) told is

    pub listed-spelled : (end : ℕ) → IsTokenTo (codes ".") bytes to end → SpellsOne IsWrittenEdit edit_entries names bytes at Lists end
    listed-spelled end stop =
        let are : token_texts bytes (one ∷ record { from = stop.0; to = end } ∷ []) ≡ list ∷ period ∷ [] = ap (λ (t : Token). t ∷ slice_range bytes stop.0 end ∷ []) word.3 ∙ ap (λ (t : Token). list ∷ t ∷ []) stop.3 in
        record {
          spans = one ∷ record { from = stop.0; to = end } ∷ [];
          tokens = (word.1, word.2, (stop.1, stop.2, refl));
          grammar = tt;
          written = are;
          no_fault = subst (EditFree names) (sym are) (free-two names list period (list-free names) (list-ended names));
        }

  -- ---- an added rule
  module _ (to : ℕ) (word : IsTokenTo (codes "add") bytes at to) where
    abbrev first : Span
    first = record { from = word.0; to = to }

    texts-are : (spans : List Span) → token_texts bytes (first ∷ spans) ≡ add ∷ token_texts bytes spans
    texts-are spans = ap (λ (t : Token). t ∷ token_texts bytes spans) word.3

    still-free : (spans : List Span) → AreFree IsWrittenBridge bridge_entries names (token_texts bytes spans) → EditFree names (token_texts bytes (first ∷ spans))
    still-free spans free = subst (EditFree names) (sym (texts-are spans)) (added-free names (token_texts bytes spans) written_rule edits-written.adds free)

    rule-told : (number : ℕ) (limit : Option Limit) (offset : ℕ) → RuleHasFault names bytes to number limit offset → HasFirstFault IsWrittenEdit edit_entries names bytes at number limit offset
    rule-told number limit offset h =
        let us : List Token = token_texts bytes h.spans in
        record {
          spans = first ∷ h.spans;
          end = h.end;
          tokens = (word.1, word.2, h.tokens);
          no_fault = still-free h.spans h.no_fault;
          unfinished = subst (λ (ts : List Token). ¬ EditIsWhole ts) (sym (texts-are h.spans)) (λ w. h.unfinished (added-whole us w));
          next = h.next;
          is_next = h.is_next;
          fault = h.fault;
          holds = subst (λ (ts : List Token). EditFault names ts h.next h.fault) (sym (texts-are h.spans)) (added-fault names us h.next h.fault h.holds);
          lowest = λ g k. h.lowest g (fault-added names us h.next g (subst (λ (ts : List Token). EditFault names ts h.next g) (texts-are h.spans) k));
          number_is = h.number_is;
          limit_is = h.limit_is;
        }

    pub added-told : (told : code_text.TextFault) → IsToldOfRule names bytes to told → IsToldOfEdit names bytes at told
    added-told texts.Memory h = tt
    added-told (texts.Fault number offset limit) h = rule-told number limit offset h

    pub added-spelled : (r : ReadRule) → IsRuleOf names bytes to r → (result : ReadEdit) → result.rules ≡ r.reader → result.end ≡ r.end → edit_of result.edit ≡ Added (bridge_of r.bridge) → IsEditOf names bytes at result
    added-spelled r h result rules ends is =
        let s = h.spells in
        let spelled : SpellsOne IsWrittenEdit edit_entries names bytes at (Adds s.rule) r.end = record {
          spans = first ∷ s.spelled.spans;
          tokens = (word.1, word.2, s.spelled.tokens);
          grammar = s.spelled.grammar;
          written = texts-are s.spelled.spans ∙ ap (λ (ts : List Token). add ∷ ts) s.spelled.written;
          no_fault = still-free s.spelled.spans s.spelled.no_fault;
        } in
        record {
          rules = rules ∙ h.reader;
          written = Adds s.rule;
          spelled = subst (SpellsOne IsWrittenEdit edit_entries names bytes at (Adds s.rule)) (sym ends) spelled;
          says = subst (SaysEdit names (Adds s.rule)) (sym is) s.says;
        }

  -- ---- a drop
  module _ (to : ℕ) (word : IsTokenTo (codes "drop") bytes at to) where
    abbrev verb : Span
    verb = record { from = word.0; to = to }

    verb-text : token_texts bytes (verb ∷ []) ≡ drop ∷ []
    verb-text = ap (λ (t : Token). t ∷ []) word.3

    pub dropped-cut : (from end : ℕ) → IsNextToken bytes to from end → from ≡ length bytes → (told : code_text.TextFault) → told ≡ texts.Fault (fault_number NoGrammar) from (limit_of NoGrammar) → IsToldOfEdit names bytes at told
    dropped-cut from end next ended told is =
        edit-told (verb ∷ []) to (drop ∷ []) (word.1, word.2, refl) verb-text (free-one names drop (drop-free names)) drop-open None from (subst (λ (i : ℕ). IsNextToken bytes to i i) (sym ended) (ended_there bytes to from end next ended), ended) faults.NoGrammar drop-open (λ g _. lowest-of-all g) told is

    module _ (from end : ℕ) (next : IsNextToken bytes to from end) (more : from < length bytes) (n : Token) (text : n ≡ slice_range bytes from end) where
      name-told : (f : code_fault.Fault) → EditFault names (drop ∷ []) (Some n) (fault_for f) → ((g : TextFault) → EditFault names (drop ∷ []) (Some n) g → rank (fault_for f) ≤ rank g) → (told : code_text.TextFault) → told ≡ texts.Fault (fault_number (fault_for f)) from (limit_of (fault_for f)) → IsToldOfEdit names bytes at told
      name-told f holds low told is = edit-told (verb ∷ []) to (drop ∷ []) (word.1, word.2, refl) verb-text (free-one names drop (drop-free names)) drop-open (Some n) from (end, next, more, text) f holds low told is

      pub dropped-name : (f : code_fault.Fault) → IsNameFault (Some f) n → (told : code_text.TextFault) → told ≡ texts.Fault (fault_number (fault_for f)) from (limit_of (fault_for f)) → IsToldOfEdit names bytes at told
      dropped-name faults.NoGrammar h told is = name-told faults.NoGrammar (drop-unnamed n h) (λ g _. lowest-of-all g) told is
      dropped-name (faults.Exceeds NameBytes) h told is = name-told (faults.Exceeds NameBytes) (long-name names n h.0 h.1) (long-lowest names n h.0) told is
      dropped-name f h told is = absurd h

      -- a name that may stand there
      module _ (named : IsTrue (is_name n)) where
        word-is : IsNameWord n
        word-is = let a = both_true (is_word n) _ named in let b = both_true (not (is_reserved n)) _ a.1 in and_from (is_word n) (not (is_reserved n)) a.0 b.0

        two-texts : token_texts bytes (verb ∷ record { from = from; to = end } ∷ []) ≡ drop ∷ n ∷ []
        two-texts = ap (λ (t : Token). t ∷ slice_range bytes from end ∷ []) word.3 ∙ ap (λ (t : Token). drop ∷ t ∷ []) (sym text)

        free-so-far : EditFree names (drop ∷ n ∷ [])
        free-so-far = free-two names drop n (drop-free names) (drop-named names n word-is (name_is_short n named))

        pub dropped-open : (offset : ℕ) → IsOtherAt bytes end offset → (told : code_text.TextFault) → told ≡ texts.Fault (fault_number NoGrammar) offset (limit_of NoGrammar) → IsToldOfEdit names bytes at told
        dropped-open offset (after, is-next, other) told is =
            edit-told (verb ∷ record { from = from; to = end } ∷ []) end (drop ∷ n ∷ []) (word.1, word.2, (next, more, refl)) two-texts free-so-far (drop-going n) after offset is-next faults.NoGrammar
            (other-next names (drop ∷ n ∷ []) after other (drop-going n) (drop-other n)) (λ g _. lowest-of-all g) told is

        pub dropped-spelled : (stop : ℕ) → IsTokenTo (codes ".") bytes end stop → (result : ReadEdit) → IsDrop names n stop result → IsEditOf names bytes at result
        dropped-spelled stop p result is =
            let spans : List Span = verb ∷ record { from = from; to = end } ∷ record { from = p.0; to = stop } ∷ [] in
            let are : token_texts bytes spans ≡ drop ∷ n ∷ period ∷ [] = ap (λ (t : Token). t ∷ slice_range bytes from end ∷ slice_range bytes p.0 stop ∷ []) word.3 ∙ ap (λ (t : Token). drop ∷ t ∷ slice_range bytes p.0 stop ∷ []) (sym text) ∙ ap (λ (t : Token). drop ∷ n ∷ t ∷ []) p.3 in
            let spelled : SpellsOne IsWrittenEdit edit_entries names bytes at (Drops n) stop = record {
              spans = spans;
              tokens = (word.1, word.2, (next, more, (p.1, p.2, refl)));
              grammar = word-is;
              written = are;
              no_fault = subst (EditFree names) (sym are) (free-three names drop n period (drop-free names) (drop-named names n word-is (name_is_short n named)) (drop-ended names n word-is));
            } in
            record { rules = is.rules; written = Drops n; spelled = subst (SpellsOne IsWrittenEdit edit_entries names bytes at (Drops n)) (sym is.end_is) spelled; says = subst (SaysEdit names (Drops n)) (sym is.edit) refl }

        pub dropped-answer : (stop : ℕ) → IsTokenTo (codes ".") bytes end stop → (result : Result ReadEdit code_text.TextFault) → IfOk result (IsDrop names n stop) → IfErr result (λ e. e ≡ texts.Memory) → IsReadOrTold names bytes at result
        dropped-answer stop p (Ok r) is e = (dropped-spelled stop p r is, tt)
        dropped-answer stop p (Err f) is e = (tt, subst (IsToldOfEdit names bytes at) (sym e) tt)

  -- ---- another word
  pub other-told : (from to : ℕ) → IsNextToken bytes at from to → from < length bytes → (t : Token) → t ≡ slice_range bytes from to → t ≢ add → t ≢ drop → t ≢ list → (told : code_text.TextFault) → told ≡ texts.Fault (fault_number NoGrammar) from (limit_of NoGrammar) → IsToldOfEdit names bytes at told
  other-told from to next more t text a d l told is =
      edit-told [] at [] refl refl (λ j f below. absurd (omega (arith, below))) none-whole (Some t) from (to, next, more, text) faults.NoGrammar (other-word t a d l) (λ g _. lowest-of-all g) told is

-- a word that was told by its bytes
pub word-to : (bytes : List ℕ) (start from to : ℕ) → IsNextToken bytes start from to → (from < to) × (to ≤ length bytes) → (word spelling : Token) → word ≡ slice_range bytes from to → spelling ≡ word → IsTokenTo spelling bytes start to
word-to bytes start from to next inside word spelling text is = (from, next, omega (arith, inside), sym text ∙ sym is)
