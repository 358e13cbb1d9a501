-- Words and names, as a system text spells them.
use Rattle.std.specs.Prelude.{ℕ, Bool, false, not, nat_le, nat_eq, ◌&&◌, ◌||◌, List, [], ◌∷◌, map, length, codes}
use Rattle.std.specs.List.{list_any, list_all}
use Rattle.std.specs.Str.{bytes_eq}
use Rattle.mcs_base.specs.declared.keyword.Keyword.{Keyword}
use Rattle.mcs_base.specs.declared.keyword.Keyword.TheVariants as words

abbrev pub is_between : ℕ → ℕ → ℕ → Bool
is_between low high b = nat_le low b && nat_le b high

-- a to z, A to Z, or _
abbrev pub is_letter : ℕ → Bool
is_letter b = is_between 97 122 b || (is_between 65 90 b || nat_eq b 95)

-- a letter or a digit
abbrev pub is_word_byte : ℕ → Bool
is_word_byte b = is_letter b || is_between 48 57 b

-- a letter, and letters and digits after it
abbrev pub is_word : List ℕ → Bool
is_word [] = false
is_word (b ∷ bs) = is_letter b && list_all is_word_byte bs

-- how each reserved word is spelled
abbrev pub keyword_bytes : Keyword → List ℕ
keyword_bytes words.Context = codes "context"
keyword_bytes words.Bridge = codes "bridge"
keyword_bytes words.Classical = codes "classical"
keyword_bytes words.Default = codes "default"
keyword_bytes words.Program = codes "program"
keyword_bytes words.Not = codes "not"
keyword_bytes words.If = codes "if"
keyword_bytes words.True = codes "true"
keyword_bytes words.False = codes "false"
keyword_bytes words.Version = codes "version"
keyword_bytes words.Keep = codes "keep"
keyword_bytes words.Closed = codes "closed"
keyword_bytes words.Weight = codes "weight"
keyword_bytes words.Autoepistemic = codes "autoepistemic"
keyword_bytes words.Know = codes "know"

-- the words that are no names
unfoldable pub reserved_words : List (List ℕ)
reserved_words = map keyword_bytes
    (words.Context ∷ words.Bridge ∷ words.Classical ∷ words.Default ∷ words.Program ∷ words.Not ∷ words.If ∷ words.True
    ∷ words.False ∷ words.Version ∷ words.Keep ∷ words.Closed ∷ words.Weight ∷ words.Autoepistemic ∷ words.Know ∷ [])

abbrev pub is_reserved : List ℕ → Bool
is_reserved word = list_any (bytes_eq word) reserved_words

-- the most bytes of a name
abbrev pub most_name_bytes : ℕ
most_name_bytes = 64

-- a word that is not reserved and is not too long
abbrev pub is_name : List ℕ → Bool
is_name bytes = is_word bytes && (not (is_reserved bytes) && nat_le (length bytes) most_name_bytes)
