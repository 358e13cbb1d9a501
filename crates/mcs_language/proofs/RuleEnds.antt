-- A bridge rule by itself of which all tokens were read: what it says.
use Rattle.std.proofs.Common.{◌≡◌, ℕ, ◌<◌, ◌≤◌, true, false, List, [], ◌∷◌, ◌++◌, map, codes, length, Option, Some, None, refl, sym, ap, subst, ◌∙◌, inl, inr, ◌⊎◌, arith, length-append}
use Rattle.std.specs.Prelude.{IsTrue}
use Rattle.std.specs.List.{flat_map, AllByRecursion}
use Rattle.std.specs.Str.{bytes_eq}
use Rattle.std.proofs.lemmas.Slice.Eq.{bytes_eq-Decides}
use Rattle.std.proofs.lemmas.List.{length-map}
use Rattle.mcs_base.specs.Listings.{IsAmong}
use Rattle.mcs_base.specs.Numbers.{value_of_digits}
use Rattle.mcs_base.proofs.Among.{among_left, among_right}
use Rattle.mcs_syntax.specs.Grammar.{Means}
use Rattle.mcs_syntax.specs.Parts.{rest}
use Rattle.mcs_system.specs.Plain.{Name}
use Rattle.mcs_system.specs.Plain as plain
use Rattle.mcs_system.specs.Seen.{bridge_of, context_of}
use Rattle.mcs_system.specs.declared.knowledge.Context as code_context
use Rattle.mcs_syntax.specs.Prompt.{are_prompt}
use Rattle.mcs_system.specs.declared.limit.Limit.TheVariants.{Weight}
use Rattle.mcs_productions.specs.Productions.{rules, grammar}
use Rattle.mcs_productions.specs.declared.class.Class.{Class}
use Rattle.mcs_productions.specs.declared.production.Action.{Action}
use Rattle.mcs_productions.specs.declared.production.Production.{Production}
use Rattle.mcs_productions.specs.declared.production.Production.TheVariants as name
use Rattle.mcs_grammar.specs.Written.{WrittenPlace, WrittenRead, WrittenBridge}
use Rattle.mcs_grammar.specs.Entries.{Token, NamesTarget, NamesSource, Weighs, Entry, entry, optional, weight_entries, mark_entries, place_entries, read_entries, further_read, reads_entries, bridge_entries}
use Rattle.mcs_grammar.specs.Saying.{weight_said, SaysBridge, positive_places, negative_places}
use Rattle.mcs_grammar.specs.Faults.{TextFault, NoContext, Exceeds, Has}
use Rattle.mcs_grammar.specs.Alone.{is_told, contexts_said}
use Rattle.mcs_account.specs.declared.reader.TextReader.{TextReader}
use Rattle.mcs_account.specs.Marks.{Marked, marks_for, bridge_marks}
use Rattle.mcs_account.specs.Account.{Account, greatest_number, bare_context, account_in, accounted}
use Rattle.mcs_account.specs.Images.{account_of}
use Rattle.mcs_account.specs.Taken.{context_names, IsRuleReaderAt}
use Rattle.mcs_account.proofs.Accounts.{accounted-append, bridge_said, names_in, bridge-accounts, bridge-says}
use Rattle.mcs_account.proofs.AccountLemmas.{code-names}
use Rattle.mcs_account.proofs.FaultTheory.{none-for, events-for}
use Rattle.mcs_account.proofs.Fronts.{none-late}
use Rattle.mcs_account.proofs.WholeTexts.{silent-same}
use Rattle.mcs_account.proofs.ReadEnds.{ends_late}
use Rattle.mcs_account.proofs.RuleFronts.{rule-start, bare-names, WholeRule, whole-rule}
use Rattle.mcs_faults.proofs.ToldFaults.{said-there}
use Rattle.mcs_language.specs.Ready.{IsReadyFor}
use Rattle.mcs_language.specs.declared.rules.ReadRule.{ReadRule}
use Rattle.mcs_language.specs.Rules.{IsRuleRead, IsWholeRead, IsRuleSaid}
use Rattle.mcs_language.proofs.EndLemmas.{OfReads, places-of}

-- ---- entries of a rule
target-entry : (b : WrittenBridge) → IsAmong (entry b.head.context (NamesTarget b.head.context ∷ [])) (bridge_entries b)
target-entry b = inr (inr (among_right _ (mark_entries b.marks) _ (inr (inl refl))))

read-entry : (t : Name) (r : WrittenRead) → IsAmong (entry r.place.context (NamesSource r.place.context ∷ [])) (read_entries t r)
read-entry t r = among_right _ (optional r.denied (codes "not")) _ (inl refl)

abbrev AreEntered : List Entry → List WrittenRead → Type 0
AreEntered es rs = AllByRecursion (λ (r : WrittenRead). IsAmong (entry r.place.context (NamesSource r.place.context ∷ [])) es) rs

later-entered : (es ds : List Entry) (rs : List WrittenRead) → AreEntered ds rs → AreEntered (es ++ ds) rs
later-entered es ds [] h = tt
later-entered es ds (r ∷ rs) h = (among_right _ es ds h.0, later-entered es ds rs h.1)

further-entered : (t : Name) (rs : List WrittenRead) → AreEntered (flat_map (further_read t) rs) rs
further-entered t [] = tt
further-entered t (r ∷ rs) = (among_left _ (further_read t r) (flat_map (further_read t) rs) (inr (read-entry t r)), later-entered (further_read t r) (flat_map (further_read t) rs) rs (further-entered t rs))

reads-entered : (t : Name) (rs : List WrittenRead) → AreEntered (reads_entries t rs) rs
reads-entered t [] = tt
reads-entered t (r ∷ rs) = (inr (among_left _ (read_entries t r) (flat_map (further_read t) rs) (read-entry t r)), later-entered (entry (codes "if") [] ∷ read_entries t r) (flat_map (further_read t) rs) rs (further-entered t rs))

before-period : (es ds : List Entry) (rs : List WrittenRead) → AreEntered es rs → AreEntered (es ++ ds) rs
before-period es ds [] h = tt
before-period es ds (r ∷ rs) h = (among_left _ es ds h.0, before-period es ds rs h.1)

source-entries : (b : WrittenBridge) → AreEntered (bridge_entries b) b.reads
source-entries b =
    let period : List Entry = entry (codes ".") [] ∷ [] in
    let reads : List Entry = reads_entries b.head.context b.reads in
    later-entered (entry (codes "bridge") _ ∷ entry b.name _ ∷ mark_entries b.marks) (entry (codes ":") [] ∷ (place_entries (NamesTarget b.head.context) b.head ++ (reads ++ period))) b.reads
    (later-entered (entry (codes ":") [] ∷ place_entries (NamesTarget b.head.context) b.head) (reads ++ period) b.reads (before-period reads period b.reads (reads-entered b.head.context b.reads)))

weight-entry : (b : WrittenBridge) (digits : Token) → b.marks.weight ≡ Some digits → IsAmong (entry digits (Weighs (value_of_digits digits) ∷ [])) (bridge_entries b)
weight-entry b digits is =
    let here : IsAmong (entry digits (Weighs (value_of_digits digits) ∷ [])) (weight_entries b.marks.weight) = rw is (inr (inl refl)) in
    let marks : IsAmong (entry digits (Weighs (value_of_digits digits) ∷ [])) (mark_entries b.marks) = among_right _ (optional b.marks.keep (codes "keep")) _ (among_right _ (optional b.marks.closed (codes "closed")) _ here) in
    inr (inr (among_left _ (mark_entries b.marks) _ marks))

-- ---- what no fault says of them
named-or-not : (n : Name) (names : List Name) → IsAmong n names ⊎ (¬ IsAmong n names)
named-or-not n [] = inr (λ h. h)
named-or-not n (m ∷ names) = go (bytes_eq n m) refl (named-or-not n names)
  where
    go : (b : _) → bytes_eq n m ≡ b → IsAmong n names ⊎ (¬ IsAmong n names) → IsAmong n (m ∷ names) ⊎ (¬ IsAmong n (m ∷ names))
    go true e more = inl (inl ((bytes_eq-Decides n m).0 e))
    go false e (inl there) = inl (inr there)
    go false e (inr none) = inr (λ h. elim h [ inl same ↦ (let yes' : bytes_eq n m ≡ true = (bytes_eq-Decides n m).1 same in absurd (cc)) | inr there ↦ none there ])

module _ (names : List Name) (b : WrittenBridge) (faultless : (m : Entry) → IsAmong m (bridge_entries b) → (f : TextFault) → IsTrue (is_told f) → ¬ Has f (contexts_said names) m) where
  known-unless : (n : Name) → ¬ ¬ IsAmong n names → IsAmong n names
  known-unless n h = elim (named-or-not n names) [ inl there ↦ there | inr none ↦ absurd (h none) ]

  target-known : IsAmong b.head.context names
  target-known = known-unless b.head.context (λ none. faultless _ (target-entry b) NoContext refl (b.head.context, inl (inl refl), λ said. none ((said-there names b.head.context).0 said)))

  sources-known : OfReads (λ (p : WrittenPlace). IsAmong p.context names) b.reads
  sources-known = go b.reads (source-entries b)
    where
      go : (rs : List WrittenRead) → AreEntered (bridge_entries b) rs → OfReads (λ (p : WrittenPlace). IsAmong p.context names) rs
      go [] h = tt
      go (r ∷ rs) h = (known-unless r.place.context (λ none. faultless _ h.0 NoContext refl (r.place.context, inr (inl refl), λ said. none ((said-there names r.place.context).0 said))), go rs h.1)

  light : weight_said b.marks.weight ≤ 1000000
  light = go b.marks.weight refl
    where
      go : (w : Option Token) → b.marks.weight ≡ w → weight_said w ≤ 1000000
      go None is = omega arith
      go (Some digits) is =
          let no : ¬ (1000000 < value_of_digits digits) = λ heavy. faultless _ (weight-entry b digits is) (Exceeds Weight) refl (value_of_digits digits, inl refl, heavy) in
          omega (arith, no)

-- ---- the whole rule
module _ (names : List Name) (r : TextReader) (ts : List Token) (h : IsWholeRead names r ts) where
  abbrev ms : Marked
  ms = h.read.marks

  abbrev a0 : Account
  a0 = account_in names

  pub whole : WholeRule ts ms (rest r.reader) h.read.reader.read h.events
  whole = whole-rule ts ms (rest r.reader) h.read.reader.read h.events h.ends

  abbrev b : WrittenBridge
  b = whole.rule

  said : ((accounted a0 ms).contexts ≡ a0.contexts) × ((accounted a0 ms).bridges ≡ bridge_said a0.contexts b ∷ [])
  said =
      let late : ends_late h.events ≡ false = ap ends_late (sym (events-for [] h.events)) ∙ none-late name.MarkedBridge rule-start ts ms (rest r.reader) h.read.reader.read (marks_for [] h.events) (none-for [] h.events h.ends.1).1 (subst (Means Class Action Production rules (rest r.reader)) (sym (events-for [] h.events)) h.ends.0) in
      let same = silent-same (accounted a0 ms) [] h.events h.ends.1 late in
      let all : accounted a0 (bridge_marks b) ≡ accounted (accounted a0 ms) (marks_for [] h.events) = ap (accounted a0) whole.marks ∙ accounted-append a0 ms (marks_for [] h.events) in
      let q = bridge-accounts a0 0 b in
      (sym same.0 ∙ ap (λ (a : Account). a.contexts) (sym all ∙ q.1), sym same.1 ∙ ap (λ (a : Account). a.bridges) (sym all ∙ q.1))

  pub rule-bridges : map bridge_of r.account.bridges.items ≡ bridge_said a0.contexts b ∷ []
  rule-bridges = ap (λ (a : Account). a.bridges) h.read.reader.account ∙ said.1

  pub rule-contexts : (account_of r.account).contexts ≡ map bare_context names
  rule-contexts = ap (λ (a : Account). a.contexts) h.read.reader.account ∙ said.0

  pub rule-names : context_names r.account ≡ names
  rule-names = sym (code-names r.account.contexts.items) ∙ ap names_in rule-contexts ∙ bare-names names

  pub rule-says : SaysBridge names b (bridge_said a0.contexts b)
  rule-says =
      let faultless : (m : Entry) → IsAmong m (bridge_entries b) → (f : TextFault) → IsTrue (is_told f) → ¬ Has f (contexts_said names) m = λ m there. h.read.faultless m (subst (IsAmong m) whole.entries there) in
      let many : length (map bare_context names) ≡ length names = length-map names bare_context in
      let are : names_in (map bare_context names) ≡ names = bare-names names in
      let places = places-of (λ (p : WrittenPlace). IsAmong p.context names) b.reads (sources-known names b faultless) in
      let few = h.read.few in
      subst (λ (ns : List Name). SaysBridge ns b (bridge_said a0.contexts b)) are
      (bridge-says (map bare_context names) b (omega arith) (light names b faultless)
      (subst (IsAmong b.head.context) (sym are) (target-known names b faultless))
      (subst (λ (ns : List Name). AllByRecursion (λ (p : WrittenPlace). IsAmong p.context ns) (positive_places b.reads)) (sym are) places.0)
      (subst (λ (ns : List Name). AllByRecursion (λ (p : WrittenPlace). IsAmong p.context ns) (negative_places b.reads)) (sym are) places.1))

  -- the rule is there to hand out
  pub rule-there : 0 < length r.account.bridges.items
  rule-there =
      let one = ap (λ (l : List plain.Bridge). length l) rule-bridges in
      let many : length (map bridge_of r.account.bridges.items) ≡ length r.account.bridges.items = length-map r.account.bridges.items bridge_of in
      omega arith

  -- the reader without it is ready for the next one
  pub ready-again : (after : TextReader) → after.reader ≡ r.reader → after.account.contexts ≡ r.account.contexts → IsReadyFor names after
  ready-again after same contexts = record {
    prompt = subst (λ x. are_prompt grammar x.0 (length x.0) ≡ true) (sym same) h.read.reader.parts;
    names_are = ap (λ cs. map (λ (c : code_context.Context). c.name) cs.items) contexts ∙ rule-names;
    bare = ap (λ cs. map context_of cs.items) contexts ∙ rule-contexts;
    few = h.read.few;
  }

  pub said-of : (result : ReadRule) (end : ℕ) → result.reader ≡ names → result.end ≡ end → bridge_of result.bridge ≡ bridge_said a0.contexts b → IsRuleSaid names ts end result
  said-of result end reader ends is = record { reader = reader; end_is = ends; rule = b; grammar = whole.grammar; written = whole.tokens_are; says = subst (SaysBridge names b) (sym is) rule-says }

-- the one that was handed out of one
pub only-one : {A B : Type 0} (f : A → B) (all xs : List A) (x : A) (y : B) → map f all ≡ y ∷ [] → all ≡ xs ++ x ∷ [] → f x ≡ y
only-one f all [] x y e is = cc (ap (map f) (sym is) ∙ e)
only-one f all (z ∷ xs) x y e is =
    let long = ap (λ l. length l) (ap (map f) (sym is) ∙ e) in
    let many = length-map (z ∷ (xs ++ x ∷ [])) f in
    let more = length-append xs (x ∷ []) in
    absurd (omega arith)

-- ---- before the first token
pub own-ready : (names : List Name) (r : TextReader) → IsReadyFor names r → IsReadyFor (context_names r.account) r
own-ready names r h = subst (λ (ns : List Name). IsReadyFor ns r) (sym h.names_are) h

module _ (names : List Name) (r : TextReader) (h : IsRuleReaderAt names r [] []) (few : length names ≤ greatest_number) where
  bare-account : (account_of r.account).contexts ≡ map bare_context names
  bare-account = ap (λ (a : Account). a.contexts) h.account

  pub first-ready : IsReadyFor names r
  first-ready = record { prompt = h.parts; names_are = sym (code-names r.account.contexts.items) ∙ ap names_in bare-account ∙ bare-names names; bare = bare-account; few = few }

  pub rule-begun : IsRuleRead names r []
  rule-begun = record {
    few = few;
    marks = [];
    reader = h;
    opened = omega arith;
    names_are = bare-names names;
    numbered = λ e. absurd (cc);
    faultless = λ m there. absurd there;
    free = λ j f below. absurd (omega (arith, below));
  }
