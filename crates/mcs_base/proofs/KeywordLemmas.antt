-- The table of reserved words is whole, and no two are spelled alike.
use Rattle.std.proofs.Common.{◌≡◌, ◌<◌, ℕ, Bool, true, false, cond, IsTrue, Option, Some, None, List, [], ◌∷◌, map, length, get_or, refl, sym, ap, ◌∙◌, true≢false, ◌||◌, lit<}
use Rattle.std.specs.List.{list_any}
use Rattle.std.specs.Str.{bytes_eq}
use Rattle.std.proofs.lemmas.Slice.Eq.{bytes_eq-Decides}
use Rattle.mcs_base.specs.Words.{keyword_bytes, is_reserved, reserved_words}
use Rattle.mcs_base.specs.declared.keyword.Keyword.{Keyword}
use Rattle.mcs_base.specs.declared.keyword.Keyword.TheVariants as words
use Rattle.mcs_base.specs.declared.keyword.TheConstants.{KEYWORDS}

-- where the word stands in the table
abbrev pub keyword_place : Keyword → ℕ
keyword_place words.Context = 0
keyword_place words.Bridge = 1
keyword_place words.Classical = 2
keyword_place words.Default = 3
keyword_place words.Program = 4
keyword_place words.Not = 5
keyword_place words.If = 6
keyword_place words.True = 7
keyword_place words.False = 8
keyword_place words.Version = 9
keyword_place words.Keep = 10
keyword_place words.Closed = 11
keyword_place words.Weight = 12
keyword_place words.Autoepistemic = 13
keyword_place words.Know = 14

pub keyword_listed : (k : Keyword) → (keyword_place k < length KEYWORDS) × (get_or KEYWORDS (keyword_place k) k ≡ k)
keyword_listed words.Context = (lit< tt, refl)
keyword_listed words.Bridge = (lit< tt, refl)
keyword_listed words.Classical = (lit< tt, refl)
keyword_listed words.Default = (lit< tt, refl)
keyword_listed words.Program = (lit< tt, refl)
keyword_listed words.Not = (lit< tt, refl)
keyword_listed words.If = (lit< tt, refl)
keyword_listed words.True = (lit< tt, refl)
keyword_listed words.False = (lit< tt, refl)
keyword_listed words.Version = (lit< tt, refl)
keyword_listed words.Keep = (lit< tt, refl)
keyword_listed words.Closed = (lit< tt, refl)
keyword_listed words.Weight = (lit< tt, refl)
keyword_listed words.Autoepistemic = (lit< tt, refl)
keyword_listed words.Know = (lit< tt, refl)

listed_words : reserved_words ≡ map keyword_bytes KEYWORDS
unfolding reserved_words
listed_words = refl

any_keyword : (ks : List Keyword) (word : List ℕ) → IsTrue (list_any (bytes_eq word) (map keyword_bytes ks)) → (k : Keyword) × (word ≡ keyword_bytes k)
any_keyword [] word h = absurd (true≢false (sym h))
any_keyword (k ∷ ks) word h = at (bytes_eq word (keyword_bytes k)) refl (λ h'. any_keyword ks word h') h
  where
    at : (b : Bool) → b ≡ bytes_eq word (keyword_bytes k) → (IsTrue (list_any (bytes_eq word) (map keyword_bytes ks)) → (j : Keyword) × (word ≡ keyword_bytes j)) → IsTrue (b || list_any (bytes_eq word) (map keyword_bytes ks)) → (j : Keyword) × (word ≡ keyword_bytes j)
    at true e rest h' = (k, (bytes_eq-Decides word (keyword_bytes k)).0 (sym e))
    at false e rest h' = rest h'

-- a reserved word is one of the keywords
pub reserved_is : (word : List ℕ) → IsTrue (is_reserved word) → (k : Keyword) × (word ≡ keyword_bytes k)
reserved_is word h = any_keyword KEYWORDS word (ap (list_any (bytes_eq word)) (sym listed_words) ∙ h)

keyword_found : List ℕ → List Keyword → Option Keyword
keyword_found word [] = None
keyword_found word (k ∷ ks) = cond (bytes_eq word (keyword_bytes k)) (Some k) (keyword_found word ks)

keyword_again : (k : Keyword) → keyword_found (keyword_bytes k) KEYWORDS ≡ Some k
unfolding keyword_found
keyword_again words.Context = refl
keyword_again words.Bridge = refl
keyword_again words.Classical = refl
keyword_again words.Default = refl
keyword_again words.Program = refl
keyword_again words.Not = refl
keyword_again words.If = refl
keyword_again words.True = refl
keyword_again words.False = refl
keyword_again words.Version = refl
keyword_again words.Keep = refl
keyword_again words.Closed = refl
keyword_again words.Weight = refl
keyword_again words.Autoepistemic = refl
keyword_again words.Know = refl

pub keyword_one : (j k : Keyword) → keyword_bytes j ≡ keyword_bytes k → j ≡ k
keyword_one j k e = let same : Some j ≡ Some k = sym (keyword_again j) ∙ ap (λ w. keyword_found w KEYWORDS) e ∙ keyword_again k in cc
