-- Which text has exactly the tokens of entries, where it is followed by another.
use Rattle.std.proofs.Common.{◌≡◌, ◌≢◌, ℕ, ◌<◌, ◌≤◌, IsTrue, List, [], ◌∷◌, ◌++◌, codes, length, refl, sym, ap, ap₂, ◌∙◌, subst, inl, inr, arith, true≢false, append-nil, le_trans}
use Rattle.std.specs.List.{AllByRecursion}
use Rattle.mcs_base.specs.Words.{is_word, most_name_bytes}
use Rattle.mcs_base.proofs.Each.{all_append}
use Rattle.mcs_base.proofs.WordLemmas.{EndsWord, longer_word, past_word, word_begins}
use Rattle.mcs_tokens.specs.Spelling.{sign_bytes}
use Rattle.mcs_tokens.specs.Tokens.{is_separator, is_number, BeginsWith, IsToken}
use Rattle.mcs_tokens.proofs.Numbers.{number_begins, digit_is_word_byte}
use Rattle.mcs_tokens.specs.declared.sign.Sign.{Sign}
use Rattle.mcs_tokens.specs.declared.sign.Sign.TheVariants as signs
use Rattle.mcs_grammar.specs.Entries.{Token, Use, Entry, entry, tokens_of, with_first, with_last}
use Rattle.mcs_grammar.proofs.Pieces.{Piece, Part, Blank, spelled, tokens_in, AreApart, spelled-append, tokens-append, apart-append, HasTokens, tokens-of-pieces}

-- no longer than a name may be
abbrev pub AreShort : List Token → Type 0
AreShort ts = AllByRecursion (λ (t : Token). length t ≤ most_name_bytes) ts

pub record IsSpelled (text : List ℕ) (entries : List Entry) (next : List ℕ) : Type 0 where
  pub pieces : List Piece
  pub text_is : spelled pieces ≡ text
  pub tokens_are : tokens_in pieces ≡ tokens_of entries
  pub apart : AreApart pieces next
  pub short : AreShort (tokens_of entries)

-- ---- texts beside each other
pub tokens-both : (ms ns : List Entry) → tokens_of (ms ++ ns) ≡ tokens_of ms ++ tokens_of ns
tokens-both [] ns = refl
tokens-both (m ∷ ms) ns = ap (λ l. m.token ∷ l) (tokens-both ms ns)

-- one after the other
pub beside : (a b : List ℕ) (ms ns : List Entry) (next : List ℕ) → IsSpelled a ms (b ++ next) → IsSpelled b ns next → IsSpelled (a ++ b) (ms ++ ns) next
beside a b ms ns next h k = record {
  pieces = h.pieces ++ k.pieces;
  text_is = spelled-append h.pieces k.pieces ∙ ap₂ (λ x y. x ++ y) h.text_is k.text_is;
  tokens_are = tokens-append h.pieces k.pieces ∙ ap₂ (λ x y. x ++ y) h.tokens_are k.tokens_are ∙ sym (tokens-both ms ns);
  apart = apart-append h.pieces k.pieces next (subst (λ l. AreApart h.pieces (l ++ next)) (sym k.text_is) h.apart) k.apart;
  short = subst AreShort (sym (tokens-both ms ns)) (all_append (λ (t : Token). length t ≤ most_name_bytes) (tokens_of ms) (tokens_of ns) h.short k.short);
}

pub text-as : (a b : List ℕ) (ms : List Entry) (next : List ℕ) → a ≡ b → IsSpelled a ms next → IsSpelled b ms next
text-as a b ms next e h = subst (λ t. IsSpelled t ms next) e h

-- only the tokens matter
pub entries-as : (a : List ℕ) (ms ns : List Entry) (next : List ℕ) → tokens_of ms ≡ tokens_of ns → IsSpelled a ms next → IsSpelled a ns next
entries-as a ms ns next e h = record { pieces = h.pieces; text_is = h.text_is; tokens_are = h.tokens_are ∙ e; apart = h.apart; short = subst AreShort e h.short }

pub first-tokens : (uses : List Use) (ms : List Entry) → tokens_of ms ≡ tokens_of (with_first uses ms)
first-tokens uses [] = refl
first-tokens uses (m ∷ ms) = refl

pub last-tokens : (uses : List Use) (ms : List Entry) → tokens_of ms ≡ tokens_of (with_last uses ms)
last-tokens uses [] = refl
last-tokens uses (m ∷ []) = refl
last-tokens uses (m ∷ n ∷ ms) = ap (λ l. m.token ∷ l) (last-tokens uses (n ∷ ms))

pub nothing : (next : List ℕ) → IsSpelled [] [] next
nothing next = record { pieces = []; text_is = refl; tokens_are = refl; apart = tt; short = tt }

-- the tokens of the bytes are those of the entries
pub tokens-of-text : (bytes : List ℕ) (ms : List Entry) → IsSpelled bytes ms [] → HasTokens bytes 0 (tokens_of ms)
tokens-of-text bytes ms h = subst (λ ts. HasTokens bytes 0 ts) h.tokens_are (subst (λ t. HasTokens t 0 (tokens_in h.pieces)) h.text_is (tokens-of-pieces h.pieces h.apart))

-- ---- words
pub word-token : (t : Token) (next : List ℕ) → IsTrue (is_word t) → EndsWord next → IsToken t next
word-token t next word ends = inl (record {
  word = word;
  whole = λ b bs e k. true≢false (sym (longer_word t b word k) ∙ past_word b bs next e ends);
})

pub one-word : (t : Token) (uses : List Use) (next : List ℕ) → IsTrue (is_word t) → length t ≤ most_name_bytes → EndsWord next → IsSpelled t (entry t uses ∷ []) next
one-word t uses next word short ends = record {
  pieces = Part t ∷ [];
  text_is = append-nil t;
  tokens_are = refl;
  apart = ((word_begins t word).0, word-token t next word ends, tt);
  short = (short, tt);
}

-- ---- numbers
number-token : (t : Token) (next : List ℕ) → IsTrue (is_number t) → EndsWord next → IsToken t next
number-token t next number ends = inr (inr (inl (record {
  number = number;
  whole = λ b bs e digit. true≢false (sym (digit_is_word_byte b digit) ∙ past_word b bs next e ends);
})))

pub one-number : (t : Token) (uses : List Use) (next : List ℕ) → IsTrue (is_number t) → length t ≤ most_name_bytes → EndsWord next → IsSpelled t (entry t uses ∷ []) next
one-number t uses next number short ends = record {
  pieces = Part t ∷ [];
  text_is = append-nil t;
  tokens_are = refl;
  apart = ((number_begins t number).0, number-token t next number ends, tt);
  short = (short, tt);
}

-- ---- signs
-- the text begins with another byte
pub no-hyphen : (b : ℕ) (bs : List ℕ) → b ≢ 45 → ¬ BeginsWith (b ∷ bs) (codes "-")
no-hyphen b bs other k = other (let e : b ∷ bs ≡ 45 ∷ k.0 = k.1 in cc)

-- a sign of one byte, with which no longer one begins
longest-one : (b : ℕ) (next : List ℕ) → b ≢ 45 → b ≢ 60 → (b ≡ 58 → ¬ BeginsWith next (codes "-")) → (s : Sign) → BeginsWith (b ∷ next) (sign_bytes s) → length (sign_bytes s) ≤ 1
longest-one b next hyphen angle colon signs.If h = let e : b ∷ next ≡ 58 ∷ 45 ∷ h.0 = h.1 in absurd (colon (cc) (h.0, cc))
longest-one b next hyphen angle colon signs.Arrow h = absurd (hyphen (let e : b ∷ next ≡ 45 ∷ 62 ∷ h.0 = h.1 in cc))
longest-one b next hyphen angle colon signs.DoubleArrow h = absurd (angle (let e : b ∷ next ≡ 60 ∷ 45 ∷ 62 ∷ h.0 = h.1 in cc))
longest-one b next hyphen angle colon s h = omega arith

-- a sign of two bytes, with which the longest one does not begin
longest-two : (b c : ℕ) (next : List ℕ) → b ≢ 60 → (s : Sign) → BeginsWith (b ∷ c ∷ next) (sign_bytes s) → length (sign_bytes s) ≤ 2
longest-two b c next angle signs.DoubleArrow h = absurd (angle (let e : b ∷ c ∷ next ≡ 60 ∷ 45 ∷ 62 ∷ h.0 = h.1 in cc))
longest-two b c next angle s h = omega arith

at-most-three : (s : Sign) → length (sign_bytes s) ≤ 3
at-most-three signs.DoubleArrow = omega arith
at-most-three s = omega arith

-- after a colon that is no part of a longer sign
abbrev pub MayFollow : Sign → List ℕ → Type 0
MayFollow signs.Colon next = ¬ BeginsWith next (codes "-")
MayFollow s next = Unit {0}

one-byte : (b : ℕ) (next : List ℕ) (s : Sign) → b ∷ [] ≡ sign_bytes s → b ≢ 45 → b ≢ 60 → (b ≡ 58 → ¬ BeginsWith next (codes "-")) → IsToken (b ∷ []) next
one-byte b next s e hyphen angle colon = inr (inl (record { sign = s; spelled = e; longest = longest-one b next hyphen angle colon }))

pub sign-token : (s : Sign) (next : List ℕ) → MayFollow s next → IsToken (sign_bytes s) next
sign-token signs.OpenBrace next h = one-byte 123 next signs.OpenBrace refl (λ e. omega arith) (λ e. omega arith) (λ e. absurd (omega arith))
sign-token signs.CloseBrace next h = one-byte 125 next signs.CloseBrace refl (λ e. omega arith) (λ e. omega arith) (λ e. absurd (omega arith))
sign-token signs.Period next h = one-byte 46 next signs.Period refl (λ e. omega arith) (λ e. omega arith) (λ e. absurd (omega arith))
sign-token signs.Comma next h = one-byte 44 next signs.Comma refl (λ e. omega arith) (λ e. omega arith) (λ e. absurd (omega arith))
sign-token signs.Colon next h = one-byte 58 next signs.Colon refl (λ e. omega arith) (λ e. omega arith) (λ e. h)
sign-token signs.If next h = inr (inl (record { sign = signs.If; spelled = refl; longest = longest-two 58 45 next (λ e. omega arith) }))
sign-token signs.Slash next h = one-byte 47 next signs.Slash refl (λ e. omega arith) (λ e. omega arith) (λ e. absurd (omega arith))
sign-token signs.Bar next h = one-byte 124 next signs.Bar refl (λ e. omega arith) (λ e. omega arith) (λ e. absurd (omega arith))
sign-token signs.Ampersand next h = one-byte 38 next signs.Ampersand refl (λ e. omega arith) (λ e. omega arith) (λ e. absurd (omega arith))
sign-token signs.Tilde next h = one-byte 126 next signs.Tilde refl (λ e. omega arith) (λ e. omega arith) (λ e. absurd (omega arith))
sign-token signs.Arrow next h = inr (inl (record { sign = signs.Arrow; spelled = refl; longest = longest-two 45 62 next (λ e. omega arith) }))
sign-token signs.DoubleArrow next h = inr (inl (record { sign = signs.DoubleArrow; spelled = refl; longest = λ s begins. at-most-three s }))
sign-token signs.OpenParenthesis next h = one-byte 40 next signs.OpenParenthesis refl (λ e. omega arith) (λ e. omega arith) (λ e. absurd (omega arith))
sign-token signs.CloseParenthesis next h = one-byte 41 next signs.CloseParenthesis refl (λ e. omega arith) (λ e. omega arith) (λ e. absurd (omega arith))

some-sign : (s : Sign) → 0 < length (sign_bytes s)
some-sign signs.DoubleArrow = omega arith
some-sign s = omega arith

-- ---- signs and words with what stands around them
abbrev pub a_sign : Sign → List Use → Entry
a_sign s uses = entry (sign_bytes s) uses

pub one-sign : (s : Sign) (uses : List Use) (next : List ℕ) → MayFollow s next → IsSpelled (sign_bytes s) (a_sign s uses ∷ []) next
one-sign s uses next h = record { pieces = Part (sign_bytes s) ∷ []; text_is = append-nil (sign_bytes s); tokens_are = refl; apart = (some-sign s, sign-token s next h, tt); short = (le_trans (at-most-three s) (omega arith), tt) }

pub blank : (b : ℕ) (next : List ℕ) → IsTrue (is_separator b) → IsSpelled (b ∷ []) [] next
blank b next h = record { pieces = Blank b ∷ []; text_is = refl; tokens_are = refl; apart = (h, tt); short = tt }

-- a sign and a blank, and a sign between blanks
pub sign-blank : (s : Sign) (uses : List Use) (b : ℕ) (next : List ℕ) → IsTrue (is_separator b) → MayFollow s (b ∷ next) → IsSpelled (sign_bytes s ++ b ∷ []) (a_sign s uses ∷ []) next
sign-blank s uses b next separator h = beside (sign_bytes s) (b ∷ []) (a_sign s uses ∷ []) [] next (one-sign s uses (b ∷ next) h) (blank b next separator)

pub blank-sign-blank : (s : Sign) (uses : List Use) (b : ℕ) (next : List ℕ) → IsTrue (is_separator b) → MayFollow s (b ∷ next) → IsSpelled (32 ∷ (sign_bytes s ++ b ∷ [])) (a_sign s uses ∷ []) next
blank-sign-blank s uses b next separator h = beside (32 ∷ []) (sign_bytes s ++ b ∷ []) [] (a_sign s uses ∷ []) next (blank 32 ((sign_bytes s ++ b ∷ []) ++ next) refl) (sign-blank s uses b next separator h)

-- a word and a space
pub word-space : (t : Token) (uses : List Use) (next : List ℕ) → IsTrue (is_word t) → length t ≤ most_name_bytes → IsSpelled (t ++ 32 ∷ []) (entry t uses ∷ []) next
word-space t uses next word short = beside t (32 ∷ []) (entry t uses ∷ []) [] next (one-word t uses (32 ∷ next) word short refl) (blank 32 next refl)
