-- The first tokens of a written text are read, so what they are there for is the same in each text that begins with them.
use Rattle.std.proofs.Common.{◌≡◌, ℕ, zero, suc, List, [], ◌∷◌, ◌++◌, take, drop, length, refl, sym, ap, subst, ◌∙◌, arith}
use Rattle.std.proofs.lemmas.List.{take-append-drop}
use Rattle.mcs_syntax.specs.Grammar.{Rule, tokens}
use Rattle.mcs_syntax.specs.Reads.{HasRead}
use Rattle.mcs_syntax.proofs.Fronts.{tokens-append}
use Rattle.mcs_syntax.proofs.Advance.{front-read}
use Rattle.mcs_grammar.specs.Written.{WrittenText, IsText}
use Rattle.mcs_grammar.specs.Entries.{Token, Entry, text_entries, tokens_of}
use Rattle.mcs_productions.specs.Productions.{grammar}
use Rattle.mcs_productions.specs.Readable.{reads, prompt}
use Rattle.mcs_productions.specs.declared.production.Production.TheVariants as name
use Rattle.mcs_account.specs.Mark.{Seen, Said, events_of, tokens_in}
use Rattle.mcs_account.specs.Marks.{Marked, Filled, text_marks}
use Rattle.mcs_account.specs.Account.{entries_in}
use Rattle.mcs_account.specs.Reading.{AreRead, Events}
use Rattle.mcs_account.proofs.TreeLemmas.{all-parts, split}
use Rattle.mcs_account.proofs.Forward.{Part, events-append, text-of}
use Rattle.mcs_account.proofs.Tokens.{text-tokens, text-filled}
use Rattle.mcs_account.proofs.Reading.{tokens-of-both, entries-tokens, continues, front-entries}

-- the first n tokens, with what they are there for and what is said among them
first-marks : ℕ → Marked → Marked
first-marks zero ms = []
first-marks (suc n) [] = []
first-marks (suc n) (Said a ∷ ms) = Said a ∷ first-marks (suc n) ms
first-marks (suc n) (Seen c t ∷ ms) = Seen c t ∷ first-marks n ms

record IsFront (n : ℕ) (ms : Marked) (front : Marked) : Type 0 where
  rest : Marked
  whole : front ++ rest ≡ ms
  tokens_are : tokens_in front ≡ take n (tokens_in ms)

is-front : (n : ℕ) (ms : Marked) → IsFront n ms (first-marks n ms)
unfolding first-marks
is-front zero ms = record { rest = ms; whole = refl; tokens_are = refl }
is-front (suc n) [] = record { rest = []; whole = refl; tokens_are = refl }
is-front (suc n) (Said a ∷ ms) = let f = is-front (suc n) ms in record { rest = f.rest; whole = ap (λ (l : Marked). Said a ∷ l) f.whole; tokens_are = f.tokens_are }
is-front (suc n) (Seen c t ∷ ms) = let f = is-front n ms in record { rest = f.rest; whole = ap (λ (l : Marked). Seen c t ∷ l) f.whole; tokens_are = ap (λ (l : List Token). t ∷ l) f.tokens_are }

-- marks of as many tokens
same-count : (ms ns : Marked) → tokens grammar (events_of ms) ≡ tokens grammar (events_of ns) → length (tokens_in ms) ≡ length (tokens_in ns)
same-count [] [] e = refl
same-count (Said a ∷ ms) ns e = same-count ms ns e
same-count [] (Said a ∷ ns) e = same-count [] ns e
same-count [] (Seen c t ∷ ns) e = absurd (cc)
same-count (Seen c t ∷ ms) [] e = absurd (cc)
same-count (Seen c t ∷ ms) (Said a ∷ ns) e = same-count (Seen c t ∷ ms) ns e
same-count (Seen c t ∷ ms) (Seen d u ∷ ns) e = let more : tokens grammar (events_of ms) ≡ tokens grammar (events_of ns) = cc in ap suc (same-count ms ns more)

same-first : (us vs ws xs : List Token) → us ++ vs ≡ ws ++ xs → length us ≡ length ws → us ≡ ws
same-first [] vs [] xs e h = refl
same-first [] vs (w ∷ ws) xs e h = absurd (omega arith)
same-first (u ∷ us) vs [] xs e h = absurd (omega arith)
same-first (u ∷ us) vs (w ∷ ws) xs e h =
    let one : u ≡ w = cc in
    let more : us ++ vs ≡ ws ++ xs = cc in
    ap (λ (x : Token). x ∷ us) one ∙ ap (λ (l : List Token). w ∷ l) (same-first us vs ws xs more (omega arith))

module _ (t : WrittenText) (g : IsText t) where
  abbrev ts : List Token
  ts = tokens_of (text_entries t)

  abbrev all : Marked
  all = text_marks t

  -- the first tokens are read
  pub record Front (n : ℕ) : Type 0 where
    pub marks : Marked
    pub rest : Part
    pub are : AreRead (take n ts) marks rest

  pub text-front : (n : ℕ) → Front n
  text-front n =
      let f = is-front n all in
      let front : Marked = first-marks n all in
      let kinds : tokens grammar (events_of all) ≡ tokens grammar (events_of front) ++ tokens grammar (events_of f.rest) = ap (λ (l : Marked). tokens grammar (events_of l)) (sym f.whole) ∙ ap (tokens grammar) (events-append front f.rest) ∙ tokens-append grammar (events_of front) (events_of f.rest) in
      let r = front-read grammar reads prompt name.Text (events_of all) (tokens grammar (events_of front)) (tokens grammar (events_of f.rest)) (text-of t g, kinds) in
      let p = (r.2).holds_all (events_of all) (tokens grammar (events_of f.rest)) (text-of t g, kinds) in
      let s = split all r.0 p.0 p.1 in
      let same-kinds : tokens grammar (events_of s.front) ≡ tokens grammar (events_of front) = ap (tokens grammar) s.first ∙ (r.2).tokens_are in
      let same : tokens_in s.front ≡ tokens_in front = same-first (tokens_in s.front) (tokens_in s.rest) (tokens_in front) (tokens_in f.rest) (sym (tokens-of-both s.front s.rest) ∙ ap (λ (l : Marked). tokens_in l) (s.whole ∙ sym f.whole) ∙ tokens-of-both front f.rest) (same-count s.front front same-kinds) in
      record {
        marks = s.front;
        rest = r.1;
        are = record {
          tokens_are = same ∙ f.tokens_are ∙ ap (take n) (sym (text-tokens t g));
          filled = (all-parts _ s.front s.rest (subst Filled (sym s.whole) (text-filled t g))).0;
          read = subst (λ (xs : Events). HasRead grammar (Rule name.Text) (tokens grammar xs) xs r.1) (sym s.first) (subst (λ (ds : List ℕ). HasRead grammar (Rule name.Text) ds r.0 r.1) (sym (r.2).tokens_are) r.2);
          stops = r.3;
        };
      }

  -- entries that begin with the same, those of the first n tokens
  pub record SameFront (n : ℕ) (ms us : List Entry) : Type 0 where
    pub es : List Entry
    pub more : List Entry
    pub others : List Entry
    pub here : ms ≡ es ++ more
    pub there : us ≡ es ++ others
    pub tokens_are : tokens_of es ≡ take n ts

  -- the entries of another text that begins with the same tokens begin with the same
  pub same-entries : (u : WrittenText) → IsText u → (n : ℕ) → take n (tokens_of (text_entries u)) ≡ take n ts → SameFront n (text_entries t) (text_entries u)
  same-entries u i n same =
      let f = text-front n in
      let c = continues (take n ts) f.marks f.rest f.are t (drop n ts) g (sym (take-append-drop n ts)) in
      let us : List Token = tokens_of (text_entries u) in
      let d = continues (take n ts) f.marks f.rest f.are u (drop n us) i (sym (take-append-drop n us) ∙ ap (λ (l : List Token). l ++ drop n us) same) in
      let x = front-entries (take n ts) f.marks f.rest f.are t c.more g c.marks c.means in
      let y = front-entries (take n ts) f.marks f.rest f.are u d.more i d.marks d.means in
      record { es = entries_in f.marks; more = x.0; others = y.0; here = x.1; there = y.1; tokens_are = entries-tokens f.marks ∙ f.are.tokens_are }
