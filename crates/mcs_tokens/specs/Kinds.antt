-- What a token is, by its bytes.
use Rattle.std.specs.Prelude.{◌≡◌, ◌≢◌, ◌<◌, IsTrue, List, [], ◌∷◌, ℕ, nat_eq, length, codes, slice_index}
use Rattle.std.specs.List.{filter}
use Rattle.mcs_base.specs.declared.keyword.Keyword as words
use Rattle.mcs_base.specs.declared.keyword.Keyword.TheVariants as word
use Rattle.mcs_base.specs.Words.{keyword_bytes, is_word, is_reserved, is_name, most_name_bytes}
use Rattle.mcs_tokens.specs.Spelling.{sign_bytes}
use Rattle.mcs_tokens.specs.Tokens.{is_number}
use Rattle.mcs_tokens.specs.declared.sign.Sign as code_sign
use Rattle.mcs_tokens.specs.declared.kind.TokenKind.{TokenKind}
use Rattle.mcs_tokens.specs.declared.kind.TokenKind.TheVariants.{Keyword, Name, LongName, Sign, Two, Number, ZeroNumber, Stray}

-- `0`
abbrev pub zero_digit : ℕ
zero_digit = 48

abbrev pub IsKind : TokenKind → List ℕ → Type 0
IsKind (Keyword k) token = token ≡ keyword_bytes k
IsKind Name token = IsTrue (is_name token)
IsKind LongName token = IsTrue (is_word token) × (¬ IsTrue (is_reserved token)) × (most_name_bytes < length token)
IsKind (Sign s) token = token ≡ sign_bytes s
IsKind Two token = token ≡ codes "2"
IsKind Number token = IsTrue (is_number token) × (slice_index token 0 ≢ zero_digit) × (token ≢ codes "2")
IsKind ZeroNumber token = IsTrue (is_number token) × (slice_index token 0 ≡ zero_digit)
IsKind Stray token = (¬ IsTrue (is_word token)) × (¬ IsTrue (is_number token)) × ((s : code_sign.Sign) → token ≢ sign_bytes s)

abbrev keywords : List words.Keyword
keywords = word.Context ∷ word.Bridge ∷ word.Classical ∷ word.Default ∷ word.Program ∷ word.Not ∷ word.If ∷ word.True ∷ word.False
    ∷ word.Version ∷ word.Keep ∷ word.Closed ∷ word.Weight ∷ word.Autoepistemic ∷ word.Know ∷ []

-- the reserved words of that many bytes
abbrev pub keywords_of : ℕ → List words.Keyword
keywords_of bytes = filter (λ k. nat_eq (length (keyword_bytes k)) bytes) keywords
