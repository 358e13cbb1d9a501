-- What a token may be there for is told by its kind, and its kind by its bytes.
use Rattle.std.proofs.Common.{◌≡◌, Bool, true, false, not, codes, List, [], ◌∷◌, Some, refl, sym, ap, subst, ◌∙◌, arith, length, leb}
use Rattle.std.specs.Prelude.{slice_get, slice_index, IsTrue}
use Rattle.std.proofs.lemmas.Bool.Decides.{nat_tests}
use Rattle.std.proofs.lemmas.Bool.{and_parts, and_from, not-true, false_from_ne_true}
use Rattle.std.proofs.lemmas.Option.{same_Some}
use Rattle.mcs_base.specs.declared.keyword.Keyword.TheVariants as word
use Rattle.mcs_base.specs.Words.{is_word, is_reserved, is_name, reserved_words, most_name_bytes}
use Rattle.mcs_tokens.specs.declared.sign.Sign.TheVariants as sign
use Rattle.mcs_tokens.specs.declared.kind.TokenKind.{TokenKind}
use Rattle.mcs_tokens.specs.declared.kind.TokenKind.TheVariants as kinds
use Rattle.mcs_tokens.specs.Kinds.{IsKind}
use Rattle.mcs_tokens.proofs.KindLemmas.{one_kind}
use Rattle.mcs_grammar.specs.Entries.{Token}
use Rattle.mcs_grammar.specs.Written.{IsNameWord}
use Rattle.mcs_productions.specs.declared.terminal.Terminal.{Terminal}
use Rattle.mcs_productions.specs.declared.terminal.Terminal.TheVariants as terminal
use Rattle.mcs_productions.specs.Terminals.{terminal_of, number}
use Rattle.mcs_productions.specs.Productions.{wanted}
use Rattle.mcs_productions.specs.declared.class.Class.{Class}
use Rattle.mcs_productions.specs.declared.class.Class.TheVariants as class
use Rattle.mcs_account.specs.Marks.{Content, spelled, Fill, bytes_for}

-- ---- the number of a terminal tells it
terminals : List Terminal
terminals = terminal.Keyword word.Context ∷ terminal.Keyword word.Bridge ∷ terminal.Keyword word.Classical ∷ terminal.Keyword word.Default ∷ terminal.Keyword word.Program ∷ terminal.Keyword word.Not ∷ terminal.Keyword word.If
    ∷ terminal.Keyword word.True ∷ terminal.Keyword word.False ∷ terminal.Keyword word.Version ∷ terminal.Keyword word.Keep ∷ terminal.Keyword word.Closed ∷ terminal.Keyword word.Weight ∷ terminal.Keyword word.Autoepistemic ∷ terminal.Keyword word.Know
    ∷ terminal.Sign sign.OpenBrace ∷ terminal.Sign sign.CloseBrace ∷ terminal.Sign sign.Period ∷ terminal.Sign sign.Comma ∷ terminal.Sign sign.Colon ∷ terminal.Sign sign.If ∷ terminal.Sign sign.Slash ∷ terminal.Sign sign.Bar
    ∷ terminal.Sign sign.Ampersand ∷ terminal.Sign sign.Tilde ∷ terminal.Sign sign.Arrow ∷ terminal.Sign sign.DoubleArrow ∷ terminal.Sign sign.OpenParenthesis ∷ terminal.Sign sign.CloseParenthesis ∷ terminal.Name ∷ terminal.Two ∷ terminal.Number ∷ terminal.ZeroNumber ∷ terminal.Stray ∷ []

numbered : (d : Terminal) → slice_get terminals (number d) ≡ Some d
unfolding terminals
numbered (terminal.Keyword word.Context) = refl
numbered (terminal.Sign sign.OpenBrace) = refl
numbered d = refl

pub one-terminal : (d e : Terminal) → number d ≡ number e → d ≡ e
one-terminal d e same = same_Some d e (sym (numbered d) ∙ ap (slice_get terminals) same ∙ numbered e)

-- ---- tokens that may be there for what they are there for
-- no class wants a token of no kind, nor a number that begins with `0`
abbrev is_stray : Terminal → Bool
is_stray terminal.Stray = true
is_stray terminal.ZeroNumber = true
is_stray d = false

never-stray : (c : Class) → is_stray (wanted c) ≡ false
never-stray class.BeginsContext = refl
never-stray c = refl

long-name : (t : Token) → IsTrue (is_word t) → ¬ IsTrue (is_reserved t) → IsNameWord t
long-name t w r = and_from (is_word t) (not (is_reserved t)) w (ap not (false_from_ne_true (is_reserved t) r))

short-name : (t : Token) → IsTrue (is_name t) → IsNameWord t
short-name t h = let p = and_parts (is_word t) _ h in let q = and_parts (not (is_reserved t)) _ p.1 in and_from (is_word t) (not (is_reserved t)) p.0 q.0

content : (k : TokenKind) (d : Terminal) (t : Token) → IsKind k t → terminal_of k ≡ d → is_stray d ≡ false → (x : Content d) × (spelled d x ≡ t)
content (kinds.Keyword k) d t h e s = subst (λ (d' : Terminal). (x : Content d') × (spelled d' x ≡ t)) e (tt, sym h)
content kinds.Name d t h e s = subst (λ (d' : Terminal). (x : Content d') × (spelled d' x ≡ t)) e ((t, short-name t h), refl)
content kinds.LongName d t h e s = subst (λ (d' : Terminal). (x : Content d') × (spelled d' x ≡ t)) e ((t, long-name t h.0 h.1), refl)
content (kinds.Sign k) d t h e s = subst (λ (d' : Terminal). (x : Content d') × (spelled d' x ≡ t)) e (tt, sym h)
content kinds.Two d t h e s = subst (λ (d' : Terminal). (x : Content d') × (spelled d' x ≡ t)) e (tt, sym h)
content kinds.Number d t h e s = subst (λ (d' : Terminal). (x : Content d') × (spelled d' x ≡ t)) e ((t, h.0, h.1, h.2), refl)
content kinds.ZeroNumber d t h e s = absurd (cc (ap is_stray e))
content kinds.Stray d t h e s = absurd (cc (ap is_stray e))

-- a token of a kind that the class wants
pub fill-for : (k : TokenKind) (c : Class) (t : Token) → IsKind k t → terminal_of k ≡ wanted c → (x : Fill c) × (bytes_for c x ≡ t)
fill-for k c t h e = content k (wanted c) t h e (never-stray c)

-- and the other way round
name-kind : (t : Token) → IsNameWord t → (k : TokenKind) × IsKind k t × (terminal_of k ≡ terminal.Name)
name-kind t h = go (leb (length t) most_name_bytes) refl
  where
    p : IsTrue (is_word t) × IsTrue (not (is_reserved t))
    p = and_parts (is_word t) (not (is_reserved t)) h

    go : (b : Bool) → leb (length t) most_name_bytes ≡ b → (k : TokenKind) × IsKind k t × (terminal_of k ≡ terminal.Name)
    go true l = (kinds.Name, and_from (is_word t) _ p.0 (and_from (not (is_reserved t)) _ p.1 l), refl)
    go false l = (kinds.LongName, (p.0, (λ r. absurd (cc (not-true (is_reserved t) p.1))), grind (arith, nat_tests)), refl)

pub kind-for : (d : Terminal) (x : Content d) → (k : TokenKind) × IsKind k (spelled d x) × (terminal_of k ≡ d)
kind-for terminal.Name x = name-kind x.0 x.1
kind-for (terminal.Keyword k) x = (kinds.Keyword k, refl, refl)
kind-for (terminal.Sign s) x = (kinds.Sign s, refl, refl)
kind-for terminal.Two x = (kinds.Two, refl, refl)
kind-for terminal.Number x = (kinds.Number, (x.1, x.2, x.3), refl)
kind-for terminal.ZeroNumber x = absurd x
kind-for terminal.Stray x = absurd x

-- the token tells what it may be there for
pub wanted-kind : (k : TokenKind) (c : Class) (t : Token) → IsKind k t → (x : Fill c) → bytes_for c x ≡ t → terminal_of k ≡ wanted c
wanted-kind k c t h x e =
    let w = kind-for (wanted c) x in
    ap terminal_of (one_kind t k w.0 h (subst (IsKind w.0) e w.1)) ∙ w.2

pub same-wanted : (c d : Class) (t : Token) (x : Fill c) (y : Fill d) → bytes_for c x ≡ t → bytes_for d y ≡ t → wanted c ≡ wanted d
same-wanted c d t x y e h = let w = kind-for (wanted d) y in sym (wanted-kind w.0 c t (subst (IsKind w.0) h w.1) x e) ∙ w.2

-- ---- each class has a token
sample : (d : Terminal) → is_stray d ≡ false → Content d
unfolding reserved_words
sample terminal.Name s = (codes "a", refl)
sample (terminal.Keyword k) s = tt
sample (terminal.Sign k) s = tt
sample terminal.Two s = tt
sample terminal.Number s = (codes "1", refl, λ e. absurd (omega (arith, e)), λ e. absurd (omega (arith, ap (λ (t : Token). slice_index t 0) e)))
sample terminal.ZeroNumber s = absurd (cc)
sample terminal.Stray s = absurd (cc)

pub some-fill : (c : Class) → Fill c
some-fill c = sample (wanted c) (never-stray c)
