-- The first tokens of a bridge rule by itself, and the faults of the token after them.
use Rattle.std.proofs.Common.{◌≡◌, ℕ, suc, ◌+◌, ◌≤◌, true, false, List, [], ◌∷◌, ◌++◌, codes, take, drop, length, Some, refl, sym, ap, subst, ◌∙◌, arith, append_assoc, append-nil, length-append}
use Rattle.std.specs.Prelude.{slice_get}
use Rattle.std.proofs.lemmas.List.{map-append, take-append-drop, nil_from_length}
use Rattle.std.proofs.lemmas.Option.{same_Some}
use Rattle.std.proofs.Math.Seq.{take-append_seam}
use Rattle.mcs_base.proofs.Lists.{slice_get_kept, slice_get_seam}
use Rattle.mcs_base.specs.Words.{reserved_words}
use Rattle.mcs_syntax.specs.declared.part.Part.{Part}
use Rattle.mcs_syntax.specs.declared.part.Event.TheVariants.{Took, Told}
use Rattle.mcs_syntax.specs.Grammar.{Rule, Means, tokens}
use Rattle.mcs_syntax.specs.Reads.{IsRead, Begins, HasRead, Goes}
use Rattle.mcs_syntax.specs.Prompt.{are_prompt}
use Rattle.mcs_syntax.specs.Parts.{rest}
use Rattle.mcs_system.specs.Plain.{Name}
use Rattle.mcs_tokens.specs.declared.kind.TokenKind.{TokenKind}
use Rattle.mcs_tokens.specs.Kinds.{IsKind}
use Rattle.mcs_grammar.specs.Written.{True', WrittenBridge, IsWrittenBridge, no_marks}
use Rattle.mcs_grammar.specs.Entries.{Token, Entry, bridge_entries, tokens_of}
use Rattle.mcs_grammar.specs.Faults.{TextFault, Has}
use Rattle.mcs_grammar.specs.Alone as alone
use Rattle.mcs_grammar.specs.Alone.{contexts_said, IsEnteredNext}
use Rattle.mcs_productions.specs.Productions.{rules, grammar}
use Rattle.mcs_productions.specs.Terminals.{terminal_of, number}
use Rattle.mcs_productions.specs.declared.class.Class.{Class}
use Rattle.mcs_productions.specs.declared.class.Class.TheVariants as class
use Rattle.mcs_productions.specs.declared.production.Action.{Action}
use Rattle.mcs_productions.specs.declared.production.Action.TheVariants as action
use Rattle.mcs_productions.specs.declared.production.Production.{Production}
use Rattle.mcs_productions.specs.declared.production.Production.TheVariants as name
use Rattle.mcs_account.specs.Mark.{Seen, Said, events_of, tokens_in}
use Rattle.mcs_account.specs.Marks.{Marked, marks_for, bridge_marks}
use Rattle.mcs_account.specs.Account.{Account, Course, account_in, accounted, told, took, entries_in}
use Rattle.mcs_account.specs.Reading.{Events, AreReadFrom}
use Rattle.mcs_account.specs.Turns.{Turn}
use Rattle.mcs_account.proofs.Values.{Value}
use Rattle.mcs_account.proofs.Forward.{marked-of, events-append}
use Rattle.mcs_account.proofs.Forward as forward
use Rattle.mcs_account.proofs.Tokens.{bridge-filled}
use Rattle.mcs_account.proofs.ReadEnds.{bridge-passed}
use Rattle.mcs_account.proofs.Courses.{bridge-follows}
use Rattle.mcs_account.proofs.Accounts.{accounted-append, names_in, bridge-accounts}
use Rattle.mcs_account.proofs.Numbers.{introduced, took-names, ended-names}
use Rattle.mcs_account.proofs.FaultTheory.{none-for, events-for}
use Rattle.mcs_account.proofs.ReaderSteps.{reader-stops}
use Rattle.mcs_account.proofs.Fronts.{IsStart, some-value, value-on, goes-after, entries-kept, next-kind, tokens-of-both, same-tail, entries-tokens}

pub rule-start : IsStart name.MarkedBridge
rule-start = record { of = λ v. marked-of v.0 v.1; filled = λ v. bridge-filled v.0 v.1; passed = λ v. ap (λ (s : Turn). s.phase) (bridge-passed false v.0 v.1) }

pub rule-entries : (b : WrittenBridge) → entries_in (bridge_marks b) ≡ bridge_entries b
rule-entries b = ap (λ (s : Course). s.entries) (bridge-follows [] [] 0 [] b).course

pub rule-tokens : (b : WrittenBridge) → tokens_of (bridge_entries b) ≡ tokens_in (bridge_marks b)
rule-tokens b = ap tokens_of (sym (rule-entries b)) ∙ entries-tokens (bridge_marks b)

-- ---- before the first token
some_rule : Value name.MarkedBridge
unfolding reserved_words
some_rule = (record { name = codes "r"; marks = no_marks; head = record { context = codes "c"; belief = True' }; reads = [] }, (refl, (refl, (tt, tt), refl), tt, tt))

silent-front : (c : Class) (xs ys zs : Events) → tokens grammar xs ≡ [] → Took c ∷ zs ≡ xs ++ ys → xs ≡ []
silent-front c [] ys zs e h = refl
silent-front c (Took d ∷ xs) ys zs e h = absurd (cc)
silent-front c (Told a ∷ xs) ys zs e h = absurd (cc)

begins-so : (v : Value name.MarkedBridge) → (zs : Events) × (events_of (bridge_marks v.0) ≡ Took class.BeginsBridge ∷ zs)
begins-so v = (_, refl)

pub first-rule-read : (r : List (Part Class Action Production) × List ℕ) (old new : Events) → are_prompt grammar r.0 (length r.0) ≡ true → Goes grammar (Rule name.MarkedBridge) [] (rest r) old new → AreReadFrom name.MarkedBridge [] [] (rest r)
first-rule-read r old new all goes =
    let zs : Events = events_of (bridge_marks some_rule.0) in
    let p = goes.2.holds_all zs (tokens grammar zs) (marked-of some_rule.0 some_rule.1, refl) in
    let b = begins-so some_rule in
    let none : goes.0 ≡ [] = silent-front class.BeginsBridge goes.0 p.0 b.0 goes.2.tokens_are (sym b.1 ∙ p.1) in
    record { tokens_are = refl; filled = tt; read = subst (λ (xs : Events). HasRead grammar (Rule name.MarkedBridge) [] xs (rest r)) none goes.2; stops = reader-stops r all goes.3 }

-- ---- the names of the contexts stay
pub bare-names : (names : List Name) → names_in (account_in names).contexts ≡ names
bare-names [] = refl
bare-names (n ∷ names) = ap (λ (ns : List Name). n ∷ ns) (bare-names names)

told-names : (a : Account) (b : Action) → names_in (told a b).contexts ≡ names_in a.contexts
told-names a action.EndsRead = ended-names true a
told-names a b = refl

names-grow : (a : Account) (ms : Marked) → length (names_in a.contexts) ≤ length (names_in (accounted a ms).contexts)
names-grow a [] = omega arith
names-grow a (Seen c t ∷ ms) = let longer = length-append (names_in a.contexts) (introduced c t) in let one = ap (λ (ns : List Name). length ns) (took-names a c t) in let more = names-grow (took a c t) ms in omega arith
names-grow a (Said b ∷ ms) = let one = ap (λ (ns : List Name). length ns) (told-names a b) in let more = names-grow (told a b) ms in omega arith

module _ (ts : List Token) (ms : Marked) (left : forward.Part) (h : AreReadFrom name.MarkedBridge ts ms left) where
  few-names : (names : List Name) → length (names_in (accounted (account_in names) ms).contexts) ≤ length names
  few-names names =
      let s = some-value name.MarkedBridge rule-start ts ms left h in
      let b : WrittenBridge = s.goes.value.0 in
      let q = bridge-accounts (account_in names) 0 b in
      let all : accounted (account_in names) (bridge_marks b) ≡ accounted (accounted (account_in names) ms) s.marks = ap (accounted (account_in names)) s.goes.marks ∙ accounted-append (account_in names) ms s.marks in
      let same : length (names_in (accounted (accounted (account_in names) ms) s.marks).contexts) ≡ length names = ap (λ (a : Account). length (names_in a.contexts)) (sym all ∙ q.1) ∙ ap (λ (ns : List Name). length ns) (bare-names names) in
      let more = names-grow (accounted (account_in names) ms) s.marks in
      omega arith

  -- so no token of a rule introduces one
  pub none-introduced : (names more : List Name) → names_in (accounted (account_in names) ms).contexts ≡ names ++ more → more ≡ []
  none-introduced names more e =
      let few = few-names names in
      let long : length (names_in (accounted (account_in names) ms).contexts) ≡ length names + length more = ap (λ (ns : List Name). length ns) e ∙ length-append names more in
      nil_from_length more (omega arith)

  -- ---- the grammar
  pub rule-begins : alone.Begins IsWrittenBridge bridge_entries ts
  rule-begins =
      let s = some-value name.MarkedBridge rule-start ts ms left h in
      let b = s.goes.value in
      let us : List Token = tokens_in s.marks in
      let tokens' : tokens_of (bridge_entries b.0) ≡ ts ++ us = rule-tokens b.0 ∙ ap (λ (l : Marked). tokens_in l) s.goes.marks ∙ tokens-of-both ms s.marks ∙ ap (λ (l : List Token). l ++ us) h.tokens_are in
      (b.0, b.1, ap (take (length ts)) tokens' ∙ take-append_seam ts us)

  after-tokens : (us : List Token) (b : WrittenBridge) → take (length us) (tokens_of (bridge_entries b)) ≡ us → tokens_of (bridge_entries b) ≡ us ++ drop (length us) (tokens_of (bridge_entries b))
  after-tokens us b first = let all : List Token = tokens_of (bridge_entries b) in sym (take-append-drop (length us) all) ∙ ap (λ (l : List Token). l ++ drop (length us) all) first

  pub rule-stops : (k : TokenKind) (t : Token) → IsKind k t → (Begins grammar left (number (terminal_of k) ∷ []) → ⊥) → ¬ alone.Begins IsWrittenBridge bridge_entries (ts ++ t ∷ [])
  rule-stops k t is none (b, g, first) =
      let us : List Token = drop (length (ts ++ t ∷ [])) (tokens_of (bridge_entries b)) in
      let tokens' : tokens_in (bridge_marks b) ≡ ts ++ t ∷ us = sym (rule-tokens b) ∙ after-tokens (ts ++ t ∷ []) b first ∙ append_assoc ts (t ∷ []) us in
      let c = goes-after name.MarkedBridge rule-start ts ms left h (b, g) (t ∷ us) tokens' in
      none (next-kind name.MarkedBridge rule-start ts ms left h k t us (b, g) c.more c.marks c.means is tokens')

  pub rule-unfinished : ((xs : Events) → IsRead grammar left [] xs → ⊥) → ¬ alone.IsWhole IsWrittenBridge bridge_entries ts
  rule-unfinished none (b, g, e) =
      let tokens' : tokens_in (bridge_marks b) ≡ ts ++ [] = sym (rule-tokens b) ∙ e ∙ sym (append-nil ts) in
      let c = goes-after name.MarkedBridge rule-start ts ms left h (b, g) [] tokens' in
      let more : tokens_in c.more ≡ [] = same-tail ts (tokens_in c.more) [] (ap (λ (l : List Token). l ++ tokens_in c.more) (sym h.tokens_are) ∙ sym (tokens-of-both ms c.more) ∙ ap (λ (l : Marked). tokens_in l) (sym c.marks) ∙ tokens') in
      none (events_of c.more) (c.means, no-tokens c.more more)
    where
      no-tokens : (ns : Marked) → tokens_in ns ≡ [] → tokens grammar (events_of ns) ≡ []
      no-tokens [] e = refl
      no-tokens (Seen c t ∷ ns) e = absurd (cc)
      no-tokens (Said a ∷ ns) e = no-tokens ns e

  -- the rule may end: it is one, whose marks are those that were read and the last actions
  pub record WholeRule (xs : Events) : Type 0 where
    pub rule : WrittenBridge
    pub grammar : IsWrittenBridge rule
    pub marks : bridge_marks rule ≡ ms ++ marks_for [] xs
    pub entries : bridge_entries rule ≡ entries_in ms
    pub tokens_are : tokens_of (bridge_entries rule) ≡ ts

  pub whole-rule : (xs : Events) → IsRead grammar left [] xs → WholeRule xs
  whole-rule xs r =
      let none = none-for [] xs r.1 in
      let more : Marked = marks_for [] xs in
      let m : forward.Of left more = subst (Means Class Action Production rules left) (sym (events-for [] xs)) r.0 in
      let g = value-on name.MarkedBridge rule-start ts ms left h more none.1 m in
      let all : tokens_of (bridge_entries g.value.0) ≡ ts = rule-tokens g.value.0 ∙ ap (λ (l : Marked). tokens_in l) g.marks ∙ tokens-of-both ms more ∙ ap (λ (l : List Token). tokens_in ms ++ l) none.0 ∙ append-nil (tokens_in ms) ∙ h.tokens_are in
      let k = entries-kept name.MarkedBridge rule-start ts ms left h g.value more g.marks m in
      let kept : bridge_entries g.value.0 ≡ entries_in ms ++ k.0 = sym (rule-entries g.value.0) ∙ k.1 in
      record {
        rule = g.value.0;
        grammar = g.value.1;
        marks = g.marks;
        entries = kept ∙ ap (λ (l : List Entry). entries_in ms ++ l) (no-entries (tokens_of (entries_in ms)) k.0 (sym (map-append (λ (x : Entry). x.token) (entries_in ms) k.0) ∙ ap tokens_of (sym kept) ∙ all ∙ sym h.tokens_are ∙ sym (entries-tokens ms))) ∙ append-nil (entries_in ms);
        tokens_are = all;
      }
    where
      no-entries : (us : List Token) (es : List Entry) → us ++ tokens_of es ≡ us → es ≡ []
      no-entries us [] e = refl
      no-entries us (x ∷ es) e = absurd (cc (same-tail us (tokens_of (x ∷ es)) [] (e ∙ sym (append-nil us))))

-- ---- the entry of a token, after those of the tokens before it
tokens-length : (ms : List Entry) → length (tokens_of ms) ≡ length ms
tokens-length [] = refl
tokens-length (m ∷ ms) = ap suc (tokens-length ms)

module _ (names : List Name) (ts : List Token) (t : Token) (ms ns : Marked) (left : forward.Part) (m : Entry) (h : AreReadFrom name.MarkedBridge (ts ++ t ∷ []) (ms ++ ns) left) (before : tokens_in ms ≡ ts) (entry_is : entries_in (ms ++ ns) ≡ entries_in ms ++ m ∷ []) where
  count : length (entries_in ms) ≡ length ts
  count = sym (tokens-length (entries_in ms)) ∙ ap (λ (us : List Token). length us) (entries-tokens ms ∙ before)

  -- it is that of each rule that begins so
  there : (es xs : List Entry) → es ≡ (entries_in ms ++ m ∷ []) ++ xs → slice_get es (length ts) ≡ Some m
  there es xs e = ap (λ (l : List Entry). slice_get l (length ts)) e ∙ ap (slice_get ((entries_in ms ++ m ∷ []) ++ xs)) (sym count) ∙ slice_get_kept (entries_in ms ++ m ∷ []) xs (length (entries_in ms)) m (slice_get_seam (entries_in ms) m [] (length (entries_in ms)) refl)

  pub entered-has : (f : TextFault) → IsEnteredNext IsWrittenBridge bridge_entries names ts t f → Has f (contexts_said names) m
  entered-has f e =
      let b : WrittenBridge = e.written in
      let all : List Token = tokens_of (bridge_entries b) in
      let begun : all ≡ (ts ++ t ∷ []) ++ drop (length ts + 1) all = sym (take-append-drop (length ts + 1) all) ∙ ap (λ (l : List Token). l ++ drop (length ts + 1) all) e.first in
      let c = goes-after name.MarkedBridge rule-start (ts ++ t ∷ []) (ms ++ ns) left h (b, e.grammar) (drop (length ts + 1) all) (sym (rule-tokens b) ∙ begun) in
      let k = entries-kept name.MarkedBridge rule-start (ts ++ t ∷ []) (ms ++ ns) left h (b, e.grammar) c.more c.marks c.means in
      let entries : bridge_entries b ≡ (entries_in ms ++ m ∷ []) ++ k.0 = sym (rule-entries b) ∙ k.1 ∙ ap (λ (l : List Entry). l ++ k.0) entry_is in
      subst (Has f (contexts_said names)) (sym (same_Some _ _ (sym (there (bridge_entries b) k.0 entries) ∙ e.is_here))) e.has

  pub has-entered : (f : TextFault) → Has f (contexts_said names) m → IsEnteredNext IsWrittenBridge bridge_entries names ts t f
  has-entered f has =
      let s = some-value name.MarkedBridge rule-start (ts ++ t ∷ []) (ms ++ ns) left h in
      let b = s.goes.value in
      let k = entries-kept name.MarkedBridge rule-start (ts ++ t ∷ []) (ms ++ ns) left h b s.marks s.goes.marks s.means in
      let entries : bridge_entries b.0 ≡ (entries_in ms ++ m ∷ []) ++ k.0 = sym (rule-entries b.0) ∙ k.1 ∙ ap (λ (l : List Entry). l ++ k.0) entry_is in
      let tokens' : tokens_of (bridge_entries b.0) ≡ (ts ++ t ∷ []) ++ tokens_in s.marks = rule-tokens b.0 ∙ ap (λ (l : Marked). tokens_in l) s.goes.marks ∙ tokens-of-both (ms ++ ns) s.marks ∙ ap (λ (l : List Token). l ++ tokens_in s.marks) h.tokens_are in
      let long : length (ts ++ t ∷ []) ≡ length ts + 1 = length-append ts (t ∷ []) in
      record {
        written = b.0;
        grammar = b.1;
        first = ap (take (length ts + 1)) tokens' ∙ ap (λ (n : ℕ). take n ((ts ++ t ∷ []) ++ tokens_in s.marks)) (sym long) ∙ take-append_seam (ts ++ t ∷ []) (tokens_in s.marks);
        here = m;
        is_here = there (bridge_entries b.0) k.0 entries;
        has = has;
      }
