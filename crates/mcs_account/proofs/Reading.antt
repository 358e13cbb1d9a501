-- The first tokens of a text: what they are there for is the same in each text that begins with them.
use Rattle.std.proofs.Common.{◌≡◌, false, List, [], ◌∷◌, ◌++◌, sym, ap, ◌∙◌}
use Rattle.mcs_syntax.specs.Reads.{Begins}
use Rattle.mcs_grammar.specs.Written.{WrittenText, IsText}
use Rattle.mcs_grammar.specs.Entries.{Token, text_entries, tokens_of}
use Rattle.mcs_productions.specs.Productions.{grammar}
use Rattle.mcs_productions.specs.Terminals.{terminal_of, number}
use Rattle.mcs_productions.specs.declared.production.Production.TheVariants as name
use Rattle.mcs_account.specs.Mark.{events_of, tokens_in}
use Rattle.mcs_account.specs.Marks.{Marked, Filled, text_marks}
use Rattle.mcs_account.specs.Account.{Course, entries_in}
use Rattle.mcs_account.specs.Reading.{AreRead}
use Rattle.mcs_account.proofs.Forward.{Part, Of, text-of}
use Rattle.mcs_account.proofs.ContextCourses.{text-follows}
use Rattle.mcs_account.proofs.Tokens.{text-tokens, text-filled}
use Rattle.mcs_tokens.specs.declared.kind.TokenKind.{TokenKind}
use Rattle.mcs_tokens.specs.Kinds.{IsKind}
use Rattle.mcs_account.proofs.ReadEnds.{text-passed, ends_late}
use Rattle.mcs_account.proofs.Fronts.{IsStart, ValueOn, value-on, some-value, goes-after, none-late, entries-kept, next-kind, Keeps}
pub use Rattle.mcs_account.proofs.Fronts.{same-kinds, same-marks, tokens-of-both, Sample, same-tail, entries-tokens}

pub text-start : IsStart name.Text
text-start = record { of = λ v. text-of v.0 v.1; filled = λ v. text-filled v.0 v.1; passed = λ v. text-passed v.0 v.1 }

-- the text that goes on with these marks
pub record GoesOn (ms ns : Marked) : Type 0 where
  pub text : WrittenText
  pub grammar : IsText text
  pub marks : text_marks text ≡ ms ++ ns

text-on : (ms ns : Marked) → ValueOn name.Text ms ns → GoesOn ms ns
text-on ms ns g = record { text = g.value.0; grammar = g.value.1; marks = g.marks }

pub record SomeText (ms : Marked) (rest : Part) : Type 0 where
  pub marks : Marked
  pub filled : Filled marks
  pub means : Of rest marks
  pub goes : GoesOn ms marks

module _ (ts : List Token) (ms : Marked) (rest : Part) (h : AreRead ts ms rest) where
  pub goes-on : (ns : Marked) → Filled ns → Of rest ns → GoesOn ms ns
  goes-on ns filled m = text-on ms ns (value-on name.Text text-start ts ms rest h ns filled m)

  -- some text begins with the tokens
  pub some-text : SomeText ms rest
  some-text = let s = some-value name.Text text-start ts ms rest h in record { marks = s.marks; filled = s.filled; means = s.means; goes = text-on ms s.marks s.goes }

  -- and each text that does goes on after the marks
  pub record Continues (t : WrittenText) : Type 0 where
    pub more : Marked
    pub marks : text_marks t ≡ ms ++ more
    pub means : Of rest more

  pub continues : (t : WrittenText) (us : List Token) → IsText t → tokens_of (text_entries t) ≡ ts ++ us → Continues t
  continues t us g first = let c = goes-after name.Text text-start ts ms rest h (t, g) us (sym (text-tokens t g) ∙ first) in record { more = c.more; marks = c.marks; means = c.means }

  -- no read of the front ends late
  pub no-late : (ns : Marked) → Filled ns → Of rest ns → ends_late (events_of ns) ≡ false
  no-late = none-late name.Text text-start ts ms rest h

  -- the entries of a text that begins with the tokens begin with theirs
  pub front-entries : (t : WrittenText) (ns : Marked) → IsText t → text_marks t ≡ ms ++ ns → Of rest ns → Keeps (entries_in ms) (text_entries t)
  front-entries t ns g marks m =
      let k = entries-kept name.Text text-start ts ms rest h (t, g) ns marks m in
      (k.0, sym (ap (λ (s : Course). s.entries) (text-follows t g).course) ∙ k.1)

-- the tokens of what a text goes on with
pub more-tokens : (ts : List Token) (ms ns : Marked) (us : List Token) (t : WrittenText) → IsText t → tokens_in ms ≡ ts → text_marks t ≡ ms ++ ns → tokens_of (text_entries t) ≡ ts ++ us → tokens_in ns ≡ us
more-tokens ts ms ns us t g same marks tokens' =
    same-tail ts (tokens_in ns) us (ap (λ (l : List Token). l ++ tokens_in ns) (sym same) ∙ sym (tokens-of-both ms ns) ∙ ap (λ (l : Marked). tokens_in l) (sym marks) ∙ sym (text-tokens t g) ∙ tokens')

pub front-token : (ts : List Token) (ms : Marked) (rest : Part) → AreRead ts ms rest → (k : TokenKind) (t : Token) (us : List Token) (text : WrittenText) (more : Marked) → IsText text → text_marks text ≡ ms ++ more → Of rest more → IsKind k t
    → tokens_of (text_entries text) ≡ ts ++ t ∷ us → Begins grammar rest (number (terminal_of k) ∷ [])
front-token ts ms rest h k t us text more g marks m is tokens' = next-kind name.Text text-start ts ms rest h k t us (text, g) more marks m is (sym (text-tokens text g) ∙ tokens')
