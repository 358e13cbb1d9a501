-- A text of which all tokens were read, where it may end: the system that it spells.
use Rattle.std.proofs.Common.{◌≡◌, ℕ, ◌≤◌, Bool, true, false, List, [], ◌∷◌, map, take, length, refl, sym, subst, ◌∙◌, arith}
use Rattle.std.specs.List.{AllByRecursion}
use Rattle.std.proofs.lemmas.List.{length-map, take_all}
use Rattle.mcs_base.specs.Listings.{IsAmong}
use Rattle.mcs_base.proofs.Each.{all_from_among}
use Rattle.mcs_syntax.specs.Reads.{IsRead}
use Rattle.mcs_syntax.specs.Parts.{rest}
use Rattle.mcs_system.specs.Plain.{Name}
use Rattle.mcs_system.specs.Plain as plain
use Rattle.mcs_system.specs.Seen.{context_of, bridge_of, system_of}
use Rattle.mcs_system.specs.Faults.{IsValid}
use Rattle.mcs_system.specs.declared.knowledge.Context as code_context
use Rattle.mcs_system.specs.declared.bridge.Bridge as code_bridge
use Rattle.mcs_tokens.specs.Tokens.{AreTokens}
use Rattle.mcs_tokens.specs.declared.scan.Span.{Span}
use Rattle.mcs_productions.specs.Productions.{grammar}
use Rattle.mcs_grammar.specs.Written.{WrittenPlace, WrittenRead, WrittenBridge, WrittenText}
use Rattle.mcs_grammar.specs.Entries.{Token, NamesContext, EndsRead, Entry, text_entries, uses_of}
use Rattle.mcs_grammar.specs.Saying.{context_in, names_of, Each, SaysBridge, SaysSystem, positive_places, negative_places}
use Rattle.mcs_grammar.specs.Faults.{Exceeds}
use Rattle.mcs_grammar.specs.Texts.{token_texts, Spells}
use Rattle.mcs_grammar.proofs.Weights.{written-few}
use Rattle.mcs_system.specs.declared.limit.Limit.TheVariants.{Weight}
use Rattle.mcs_account.specs.Account.{no_account, accounted, entries_in}
use Rattle.mcs_account.specs.Reading.{AreRead, Events}
use Rattle.mcs_account.proofs.Accounts.{bridge_said, names_in, bridge-says}
use Rattle.mcs_account.proofs.FaultTheory.{free-whole}
use Rattle.mcs_account.proofs.WholeTexts.{SaysAll, says-all}
use Rattle.mcs_account.proofs.TextUses.{targets-there, reads-there}
use Rattle.mcs_account.specs.Images.{read_in}
use Rattle.mcs_faults.proofs.BeforeRules.{among-named}
use Rattle.mcs_faults.proofs.Unambiguous.{written-names}
use Rattle.mcs_faults.proofs.Within.{IsWithin, NoFaults}
use Rattle.mcs_faults.proofs.UsesCounts.{context-count, names-there}
use Rattle.mcs_faults.proofs.ValidTexts.{valid-text}
use Rattle.mcs_faults.proofs.WatchWithin.{within}
use Rattle.mcs_faults.specs.Watching.{IsWatch}
use Rattle.mcs_language.specs.declared.reading.Reading.{Reading}
use Rattle.mcs_language.specs.Progress.{AreReadUpTo}
use Rattle.mcs_language.proofs.ToldLemmas.{tokens-many}

-- the places of the reads that are denied, and of those that are not
module _ (P : WrittenPlace → Type 0) where
  abbrev pub OfReads : List WrittenRead → Type 0
  OfReads rs = AllByRecursion (λ (r : WrittenRead). P r.place) rs

  pub places-of : (rs : List WrittenRead) → OfReads rs → AllByRecursion P (positive_places rs) × AllByRecursion P (negative_places rs)
  places-of [] h = (tt, tt)
  places-of (r ∷ rs) h = at r.denied refl (places-of rs h.1)
    where
      at : (b : Bool) → r.denied ≡ b → AllByRecursion P (positive_places rs) × AllByRecursion P (negative_places rs) → AllByRecursion P (positive_places (r ∷ rs)) × AllByRecursion P (negative_places (r ∷ rs))
      at true e more = rw e (more.0, (h.0, more.1))
      at false e more = rw e ((h.0, more.0), more.1)

each-says : (cs : List plain.Context) (bs : List WrittenBridge) → AllByRecursion (λ (b : WrittenBridge). SaysBridge (names_in cs) b (bridge_said cs b)) bs → Each (SaysBridge (names_in cs)) bs (map (bridge_said cs) bs)
each-says cs [] h = tt
each-says cs (b ∷ bs) h = (h.0, each-says cs bs h.1)

-- ---- the whole text
module _ (bytes : List ℕ) (spans : List Span) (r : Reading) (tokens : AreTokens bytes 0 spans) (h : AreReadUpTo r (token_texts bytes spans) (length spans)) (xs : Events) (ends : IsRead grammar (rest r.reader.reader) [] xs) where
  abbrev ts : List Token
  ts = token_texts bytes spans

  all-taken : take (length spans) ts ≡ ts
  all-taken = take_all (length spans) ts (let e = tokens-many bytes spans in omega arith)

  is-read : AreRead ts h.marks (rest r.reader.reader)
  is-read = subst (λ (us : List Token). AreRead us h.marks (rest r.reader.reader)) all-taken h.reader.reader.read

  said : SaysAll ts h.marks xs
  said = says-all ts h.marks (rest r.reader.reader) xs is-read ends

  abbrev t : WrittenText
  t = said.whole.text

  is-within : IsWithin (uses_of (text_entries t))
  is-within = subst (λ (ms : List Entry). IsWithin (uses_of ms)) (sym said.whole.entries) (within r.watch (uses_of (entries_in h.marks)) h.watch)

  seen : IsWatch r.watch (uses_of (text_entries t))
  seen = subst (λ (ms : List Entry). IsWatch r.watch (uses_of ms)) (sym said.whole.entries) h.watch

  abbrev cs : List plain.Context
  cs = map context_in t.contexts

  few : length cs ≤ 64
  few = let many : length cs ≡ length t.contexts = length-map t.contexts context_in in omega (arith, context-count t, is-within.contexts)

  -- a context that was named is one of the text's
  is-known : (c : Name) → IsAmong (NamesContext c) (uses_of (text_entries t)) → IsAmong c (names_in cs)
  is-known c there = subst (IsAmong c) (names-there t ∙ sym (written-names t.contexts)) (among-named (uses_of (text_entries t)) c there)

  known-target : (b : WrittenBridge) → IsAmong b t.bridges → IsAmong b.head.context (names_in cs)
  known-target b there = is-known b.head.context (seen.targets b.head.context ((targets-there t b.head.context).1 (b, there, refl)))

  known-read : (b : WrittenBridge) → IsAmong b t.bridges → (q : WrittenRead) → IsAmong q b.reads → IsAmong q.place.context (names_in cs)
  known-read b there q here =
      let ended : IsAmong (EndsRead b.head.context (read_in q.place).context (read_in q.place).belief) (uses_of (text_entries t)) = (reads-there t b.head.context (read_in q.place)).1 (record { bridge = b; is_there = there; into = refl; read = q; is_read = here; says = refl }) in
      is-known q.place.context (seen.spoken (EndsRead b.head.context (read_in q.place).context (read_in q.place).belief) ended).1

  none : NoFaults (text_entries t)
  none = subst NoFaults (sym said.whole.entries) h.faultless

  bridge-is-said : (b : WrittenBridge) → IsAmong b t.bridges → SaysBridge (names_in cs) b (bridge_said cs b)
  bridge-is-said b there =
      let places = places-of (λ (p : WrittenPlace). IsAmong p.context (names_in cs)) b.reads (all_from_among (λ (q : WrittenRead). IsAmong q.place.context (names_in cs)) b.reads (known-read b there)) in
      bridge-says cs b (omega (arith, few)) (written-few t (λ k e at heavy. none k e (Exceeds Weight) at heavy) b there) (known-target b there) places.0 places.1

  module _ (contexts : List code_context.Context) (bridges : List code_bridge.Bridge) (contexts-are : map context_of contexts ≡ (accounted no_account h.marks).contexts) (bridges-are : map bridge_of bridges ≡ (accounted no_account h.marks).bridges) where
    says : SaysSystem t (system_of contexts bridges)
    says = record {
      contexts = contexts-are ∙ said.contexts;
      bridges = subst (Each (SaysBridge (names_of t.contexts)) t.bridges) (sym (bridges-are ∙ said.bridges)) (subst (λ (ns : List Name). Each (SaysBridge ns) t.bridges (map (bridge_said cs) t.bridges)) (written-names t.contexts) (each-says cs t.bridges (all_from_among (λ (b : WrittenBridge). SaysBridge (names_in cs) b (bridge_said cs b)) t.bridges bridge-is-said)));
    }

    pub is-valid : IsValid (system_of contexts bridges)
    is-valid = valid-text t (system_of contexts bridges) said.whole.grammar says is-within none

    pub spells-system : Spells bytes (system_of contexts bridges)
    spells-system = record {
      spans = spans;
      tokens = tokens;
      text = t;
      grammar = said.whole.grammar;
      written = sym said.whole.tokens_are;
      says = says;
      no_fault = free-whole ts (length spans) (tokens-many bytes spans) (t, said.whole.grammar, said.whole.tokens_are) h.free;
    }
