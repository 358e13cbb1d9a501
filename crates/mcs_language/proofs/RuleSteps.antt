-- One token more was read of a bridge rule by itself, or it has the first fault.
use Rattle.std.proofs.Common.{◌≡◌, ℕ, ◌+◌, ◌<◌, ◌≤◌, Bool, true, false, List, [], ◌∷◌, ◌++◌, map, take, length, Option, Some, None, refl, sym, ap, subst, ◌∙◌, inl, inr, ◌⊎◌, ◌↔◌, arith, length-append, append-nil}
use Rattle.std.specs.Prelude.{slice_get, ◌≢◌, IsTrue, nat_lt}
use Rattle.std.proofs.Math.Seq.{take-append_seam}
use Rattle.std.proofs.Math.Nat.{eq-or-lt_of_le}
use Rattle.std.proofs.lemmas.Option.{slice_get_within}
use Rattle.std.proofs.lemmas.List.{take-append-le, length-map}
use Rattle.mcs_base.specs.Listings.{IsAmong}
use Rattle.mcs_base.proofs.Among.{among_right, among_either}
use Rattle.mcs_base.proofs.Lists.{slice_get_seam, slice_get-append_left}
use Rattle.mcs_syntax.specs.Reads.{Begins}
use Rattle.mcs_syntax.specs.Parts.{rest}
use Rattle.mcs_system.specs.Plain.{Name}
use Rattle.mcs_system.specs.Plain as plain
use Rattle.mcs_system.specs.Limits.{most}
use Rattle.mcs_system.specs.declared.limit.Limit.TheVariants.{NameBytes, OpenParentheses}
use Rattle.mcs_tokens.specs.declared.kind.TokenKind.{TokenKind}
use Rattle.mcs_tokens.specs.Kinds.{IsKind}
use Rattle.mcs_productions.specs.Productions.{grammar}
use Rattle.mcs_productions.specs.Terminals.{terminal_of, number}
use Rattle.mcs_productions.specs.declared.class.Class.{Class}
use Rattle.mcs_productions.specs.declared.class.Class.TheVariants as class
use Rattle.mcs_productions.specs.declared.production.Production.TheVariants as name
use Rattle.mcs_grammar.specs.Written.{IsWrittenBridge}
use Rattle.mcs_grammar.specs.Entries.{Token, Use, NamesTarget, NamesSource, EndsRead, Entry, bridge_entries}
use Rattle.mcs_grammar.specs.Faults.{TextFault, NoGrammar, NoContext, Exceeds, rank, Has}
use Rattle.mcs_grammar.specs.Alone.{is_told, contexts_said, AreFree, IsEnteredNext, IsRuleFaultNext}
use Rattle.mcs_account.specs.declared.reader.TextReader.{TextReader}
use Rattle.mcs_account.specs.declared.reader.Taken as code_taken
use Rattle.mcs_account.specs.Marks.{Marked, marks_for}
use Rattle.mcs_account.specs.Account.{Account, Place, place_after, when, uses_with, account_in, accounted, followed, first_course, entries_in}
use Rattle.mcs_account.specs.Images.{About, IsPlace, about_place, account_of, capped, uses_in, context_chosen}
use Rattle.mcs_account.specs.Reading.{AreReadFrom, Events, ends_in, heard, top_of}
use Rattle.mcs_account.specs.Taken.{context_names, is_long, ended_with, IsTakenWith}
use Rattle.mcs_account.proofs.AccountLemmas.{code-names}
use Rattle.mcs_system.specs.declared.knowledge.Context as code_context
use Rattle.mcs_faults.proofs.TellLemmas.{told-there}
use Rattle.mcs_account.specs.Turns.{comes, named_after}
use Rattle.mcs_account.specs.Known.{is_named, names_in}
use Rattle.mcs_account.proofs.ReadEnds.{EndsBelief}
use Rattle.mcs_account.proofs.Numbers.{introduced, ended-names}
use Rattle.mcs_account.proofs.TokenMarks.{TokenBringsFrom}
use Rattle.mcs_account.proofs.ReaderSteps.{read-next-from, next-brings-from, entry_from, passed-from}
use Rattle.mcs_account.proofs.RuleFronts.{rule-start, none-introduced, rule-begins, rule-stops, entered-has, has-entered}
use Rattle.mcs_account.proofs.UseLemmas.{entry-in}
use Rattle.mcs_faults.specs.declared.fault.Fault as code_fault
use Rattle.mcs_faults.specs.Watching.{IsNumberOf, fault_for}
use Rattle.mcs_faults.specs.Told.{IsLowestTold}
use Rattle.mcs_faults.proofs.ToldFaults.{unknown-is}
use Rattle.mcs_faults.proofs.SaidLemmas.{long-word}
use Rattle.mcs_language.specs.Rules.{IsNamingContext, IsRuleRead, IsFirstNext}
use Rattle.mcs_language.proofs.ProgressLemmas.{opened-after}

-- a belief that ends is one of a context that was named
belief-named : (n : Bool) (c : Class) → EndsBelief c → comes c n ≡ true → n ≡ true
belief-named n class.IsTrue w e = e
belief-named n class.IsFalse w e = e
belief-named n class.IsAtom w e = e
belief-named n class.ClosesParenthesis w e = e
belief-named n c w e = absurd (cc (w.2))

-- ---- faults
lowest-of-all : (f : TextFault) → 1 ≤ rank f
lowest-of-all NoGrammar = omega arith
lowest-of-all f = omega arith

fault-next : (names : List Name) (ts : List Token) (t : Token) (f : TextFault) → f ≢ NoGrammar → IsTrue (is_told f) → IsEnteredNext IsWrittenBridge bridge_entries names ts t f → IsRuleFaultNext names ts (Some t) f
fault-next names ts t NoGrammar other told h = absurd (other refl)
fault-next names ts t f other told h = (told, h)

-- the number of the name of a context
IsFound : List Name → Token → ℕ → Class → Type 0
IsFound names t k class.NamesTarget = slice_get names k ≡ Some t
IsFound names t k class.NamesSource = slice_get names k ≡ Some t
IsFound names t k c = Unit {0}

numbered-after : (names : List Name) (n : Bool) (p : Place) (t : Token) (old now k : ℕ) → (n ≡ true → slice_get names old ≡ Some p.context) → (c : Class) → introduced c t ≡ [] → IsFound names t k c → now ≡ context_chosen c k old → named_after c n ≡ true
    → slice_get names now ≡ Some (place_after p c t).context
unfolding IsFound
numbered-after names n p t old now k h class.NamesContext none is x y = absurd (cc)
numbered-after names n p t old now k h class.NamesTarget none is x y = ap (slice_get names) x ∙ is
numbered-after names n p t old now k h class.NamesSource none is x y = ap (slice_get names) x ∙ is
numbered-after names n p t old now k h c none is x y = ap (slice_get names) x ∙ h y

-- ---- a token that is taken
module _ (names : List Name) (old : TextReader) (ts : List Token) (t : Token) (h : IsRuleRead names old ts) (now : TextReader) (taken : code_taken.Taken) (kind : TokenKind) (xs : Events) (w : IsTakenWith taken old now t kind xs) where
  abbrev ms : Marked
  ms = h.marks

  abbrev p : Place
  p = (followed first_course ms).place

  abbrev a0 : Account
  a0 = account_in names

  abbrev f : plain.Formula
  f = top_of (heard (accounted a0 ms) t xs).operands

  abbrev a : About
  a = about_place p f

  abbrev pub rule_here : Entry
  rule_here = entry_from name.MarkedBridge rule-start a0 refl old now ts ms t taken kind xs h.reader w

  brings : TokenBringsFrom a0 ms t xs taken.class
  brings = next-brings-from name.MarkedBridge rule-start a0 refl old now ts ms t taken kind xs h.reader w

  is-read : AreReadFrom name.MarkedBridge (ts ++ t ∷ []) (ms ++ marks_for t xs) (rest now.reader)
  is-read = read-next-from name.MarkedBridge rule-start a0 refl old now ts ms t taken kind xs h.reader w

  -- what the lookup of the token says
  pub rule-number : (k : ℕ) → IsNumberOf (context_names old.account) t k → IsNumberOf names t k
  rule-number k is = subst (λ (ns : List Name). IsNumberOf ns t k) (sym (code-names old.account.contexts.items) ∙ ap (λ (b : Account). names_in b) h.reader.account ∙ h.names_are) is

  pub rule-context : (k n : ℕ) → IsNumberOf (context_names old.account) t k → n ≡ length old.account.contexts.items → IsTrue (nat_lt k n) ↔ IsAmong t names
  rule-context k n is many =
      let same : context_names old.account ≡ names = sym (code-names old.account.contexts.items) ∙ ap (λ (b : Account). names_in b) h.reader.account ∙ h.names_are in
      told-there names t k n (rule-number k is) (many ∙ sym (length-map old.account.contexts.items (λ (c : code_context.Context). c.name)) ∙ ap (λ (ns : List Name). length ns) same)

  pub rule-said : map capped rule_here.uses ≡ uses_in a t taken.uses
  rule-said = w.uses_are p f h.reader.place

  -- what the fault of the entry says of the token
  has-fault : (g : TextFault) → Has g (contexts_said names) rule_here → IsEnteredNext IsWrittenBridge bridge_entries names ts t g
  has-fault = has-entered names ts t ms (marks_for t xs) (rest now.reader) rule_here is-read h.reader.read.tokens_are brings.entry_is

  fault-has : (g : TextFault) → IsRuleFaultNext names ts (Some t) g → IsTrue (is_told g) × Has g (contexts_said names) rule_here
  fault-has NoGrammar k = absurd (k (rule-begins (ts ++ t ∷ []) (ms ++ marks_for t xs) (rest now.reader) is-read))
  fault-has g k = (k.0, entered-has names ts t ms (marks_for t xs) (rest now.reader) rule_here is-read h.reader.read.tokens_are brings.entry_is g k.1)

  pub rule-fault : (g : code_fault.Fault) → IsLowestTold (Some g) names rule_here → IsFirstNext names ts (Some t) (fault_for g)
  rule-fault g told = (
    fault-next names ts t (fault_for g) (λ e. subst (λ (x : TextFault). Has x (contexts_said names) rule_here) e told.1) told.0 (has-fault (fault_for g) told.1),
    λ e k. let x = fault-has e k in told.2 e x.0 x.1,
  )

  -- no fault
  module _ (none : IsLowestTold None names rule_here) where
    fits : is_long kind ≡ false
    fits = at (is_long kind) refl
      where
        at : (b : Bool) → is_long kind ≡ b → b ≡ false
        at false e = refl
        at true e = absurd (none (Exceeds NameBytes) refl (long-word kind t w.kind e))

    among-own : (u : Use) → rule_here.uses ≡ when (ends_in xs) (EndsRead p.target p.context f) ++ (p.begins ++ u ∷ []) → IsAmong u rule_here.uses
    among-own u e = rw e (among_right u (when (ends_in xs) (EndsRead p.target p.context f)) _ (among_right u p.begins (u ∷ []) (inl refl)))

    -- a name of a context is found
    module _ (k : ℕ) (number-is : IsNumberOf names t k) where
      found : IsNamingContext taken.uses.role → slice_get names k ≡ Some t
      found role = elim number-is [ inl there ↦ there | inr (e, missing) ↦ absurd (none NoContext refl ((unknown-is names rule_here a t taken.uses refl rule-said).1 (role, missing))) ]

      role-of : (c : Class) → rule_here.uses ≡ uses_with (ends_in xs) p c t f → IsFound names t k c
      unfolding IsFound
      role-of class.NamesTarget e = found (inl (entry-in a t taken.uses rule_here.uses rule-said (NamesTarget t) refl (among-own (NamesTarget t) e)).0)
      role-of class.NamesSource e = found (inr (entry-in a t taken.uses rule_here.uses rule-said (NamesSource t) refl (among-own (NamesSource t) e)).0)
      role-of c e = tt

      names-more : names_in (accounted a0 (ms ++ marks_for t xs)) ≡ names ++ introduced taken.class t
      names-more = ap names_in brings.account ∙ ended-names (ends_in xs) (heard (accounted a0 ms) t xs) ∙ brings.names ∙ ap (λ (ns : List Name). ns ++ introduced taken.class t) h.names_are

      none-new : introduced taken.class t ≡ []
      none-new = none-introduced (ts ++ t ∷ []) (ms ++ marks_for t xs) (rest now.reader) is-read names (introduced taken.class t) names-more

      -- the context of a read that ends
      known : ends_in xs ≡ true → old.place.context < length (heard (accounted a0 ms) t xs).contexts
      known e =
          let named : is_named ms ≡ true = belief-named (is_named ms) taken.class (brings.ends e) brings.comes_is in
          let less = slice_get_within names old.place.context p.context (h.numbered named) in
          let all : names_in (heard (accounted a0 ms) t xs) ≡ names ++ introduced taken.class t = brings.names ∙ ap (λ (ns : List Name). ns ++ introduced taken.class t) h.names_are in
          let long : length (names_in (heard (accounted a0 ms) t xs)) ≡ length names + length (introduced taken.class t) = ap (λ (ns : List Name). length ns) all ∙ length-append names (introduced taken.class t) in
          let many : length (names_in (heard (accounted a0 ms) t xs)) ≡ length (heard (accounted a0 ms) t xs).contexts = length-map (heard (accounted a0 ms) t xs).contexts (λ (c : plain.Context). c.name) in
          omega arith

      free-more : AreFree IsWrittenBridge bridge_entries names (ts ++ t ∷ [])
      free-more j g below k = go (eq-or-lt_of_le (omega (arith, length-append ts (t ∷ []))))
        where
          go : (j ≡ length ts) ⊎ (j < length ts) → ⊥
          go (inl last) =
              let before : take j (ts ++ t ∷ []) ≡ ts = ap (λ (i : ℕ). take i (ts ++ t ∷ [])) last ∙ take-append_seam ts (t ∷ []) in
              let here : slice_get (ts ++ t ∷ []) j ≡ Some t = ap (slice_get (ts ++ t ∷ [])) last ∙ slice_get_seam ts t [] (length ts) refl in
              let x = fault-has g (subst (λ (o : Option Token). IsRuleFaultNext names ts o g) here (subst (λ (us : List Token). IsRuleFaultNext names us (slice_get (ts ++ t ∷ []) j) g) before k)) in
              none g x.0 x.1
          go (inr less) =
              let before : take j (ts ++ t ∷ []) ≡ take j ts = take-append-le j ts (t ∷ []) (omega arith) in
              let here : slice_get (ts ++ t ∷ []) j ≡ slice_get ts j = slice_get-append_left ts (t ∷ []) j less in
              h.free j g less (subst (λ (o : Option Token). IsRuleFaultNext names (take j ts) o g) here (subst (λ (us : List Token). IsRuleFaultNext names us (slice_get (ts ++ t ∷ []) j) g) before k))

      pub rule-more : (after : TextReader) → after.reader ≡ now.reader → account_of after.account ≡ ended_with now.ended (account_of now.account) → ((q : Place) (u : Token) → IsPlace now.place q → q.opened ≤ most OpenParentheses → IsPlace after.place (place_after q taken.class u))
          → after.place.context ≡ context_chosen taken.class k now.place.context → IsRuleRead names after (ts ++ t ∷ [])
      rule-more after same account place context = record {
        few = h.few;
        marks = ms ++ marks_for t xs;
        reader = passed-from name.MarkedBridge rule-start a0 refl old now ts ms t taken kind xs h.reader w after same account fits known (place p t (subst (λ q. IsPlace q p) (sym w.place) h.reader.place) h.opened);
        opened = subst (λ (q : Place). q.opened ≤ most OpenParentheses) (sym brings.place_is) (opened-after p taken.class t (ends_in xs) f h.opened (λ there. none (Exceeds OpenParentheses) refl there));
        names_are = names-more ∙ ap (λ (ns : List Name). names ++ ns) none-new ∙ append-nil names;
        numbered = λ e. subst (λ (q : Place). slice_get names after.place.context ≡ Some q.context) (sym brings.place_is)
            (numbered-after names (is_named ms) p t old.place.context after.place.context k h.numbered taken.class none-new (role-of taken.class refl) (context ∙ ap (λ q. context_chosen taken.class k q.context) w.place) (sym brings.named_is ∙ e));
        faultless = λ m there g told has. elim (among_either m (entries_in ms) (rule_here ∷ []) (subst (IsAmong m) brings.entry_is there)) [
          | inl before ↦ h.faultless m before g told has
          | inr (inl e) ↦ none g told (subst (Has g (contexts_said names)) e has)
          | inr (inr n) ↦ absurd n
        ];
        free = free-more;
      }

-- ---- a token that is not taken
pub rule-untaken : (names : List Name) (old : TextReader) (ts : List Token) (t : Token) (h : IsRuleRead names old ts) (kind : TokenKind) → IsKind kind t → (Begins grammar (rest old.reader) (number (terminal_of kind) ∷ []) → ⊥) → IsFirstNext names ts (Some t) NoGrammar
rule-untaken names old ts t h kind is none = (rule-stops ts h.marks (rest old.reader) h.reader.read kind t is none, λ g _. lowest-of-all g)
