-- The bytes of names and of printed beliefs: no comma, no brace and no line feed.
use Rattle.std.proofs.Common.{◌≡◌, ℕ, true, false, nat_eq, IsTrue, List, [], ◌∷◌, ◌++◌, length, filter, codes, slice_get, Option, Some, None, refl, sym, ap, ◌∙◌, true≢false}
use Rattle.std.proofs.lemmas.Bool.{and_parts}
use Rattle.std.specs.List.{AllByRecursion, list_all, range_with_len}
use Rattle.mcs_base.specs.Listings.{IsAmong}
use Rattle.mcs_base.specs.Words.{is_letter, is_word_byte, is_word}
use Rattle.mcs_base.proofs.Each.{all_append, all_among, all_get}
use Rattle.mcs_base.proofs.Among.{flat_map_among, filter_among}
use Rattle.mcs_base.proofs.WordLemmas.{name_is_word, letter_is_word_byte}
use Rattle.mcs_system.specs.Plain.{Name, Formula, Truth, Falsity, Atom, Not, Joined, Connective, Conjunction, Disjunction, Implication, Equivalence, Context, Read, Bridge, System}
use Rattle.mcs_system.specs.Naming.{IsName, IsNamedFormula, IsNamedContext, IsNamedBridge, IsSystemNamed}
use Rattle.mcs_system.specs.Systems.{occurrences, context_variables, variables}
use Rattle.mcs_system.specs.Texts.{connective_sign, primary, name_of_context, belief_text}
use Rattle.mcs_system.proofs.VariableLemmas.{firsts_among}

abbrev pub Plain : ℕ → Type 0
Plain b = ((¬ (b ≡ 44)) × (¬ (b ≡ 125))) × (¬ (b ≡ 10))

-- ---- words
pub all_word : (v : List ℕ) → IsTrue (is_word v) → IsTrue (list_all is_word_byte v)
all_word [] is = absurd (true≢false (sym is))
all_word (b ∷ bs) is = let (letter, rest) = and_parts (is_letter b) (list_all is_word_byte bs) is in rw (letter_is_word_byte b letter, rest) refl

word_plain : (b : ℕ) → is_word_byte b ≡ true → Plain b
word_plain b word = (((λ e. true≢false (sym word ∙ ap is_word_byte e)), (λ e. true≢false (sym word ∙ ap is_word_byte e))), (λ e. true≢false (sym word ∙ ap is_word_byte e)))

word_bytes_plain : (v : List ℕ) → IsTrue (list_all is_word_byte v) → AllByRecursion Plain v
word_bytes_plain [] all = tt
word_bytes_plain (b ∷ v) all = let (first, rest) = and_parts (is_word_byte b) (list_all is_word_byte v) all in (word_plain b first, word_bytes_plain v rest)

pub name_plain : (n : Name) → IsName n → AllByRecursion Plain n
name_plain n named = word_bytes_plain n (all_word n (name_is_word n named))

-- ---- beliefs
other_plain : (b : ℕ) → nat_eq b 44 ≡ false → nat_eq b 125 ≡ false → nat_eq b 10 ≡ false → Plain b
other_plain b comma brace feed = (((λ e. true≢false (sym (ap (λ (x : ℕ). nat_eq x 44) e) ∙ comma)), (λ e. true≢false (sym (ap (λ (x : ℕ). nat_eq x 125) e) ∙ brace))), (λ e. true≢false (sym (ap (λ (x : ℕ). nat_eq x 10) e) ∙ feed)))

parens_plain : (p s q : List ℕ) → AllByRecursion Plain p → AllByRecursion Plain s → AllByRecursion Plain q → AllByRecursion Plain (codes "(" ++ (p ++ (s ++ (q ++ codes ")"))))
parens_plain p s q ap' as' aq = (other_plain 40 refl refl refl, all_append Plain p (s ++ (q ++ codes ")")) ap' (all_append Plain s (q ++ codes ")") as' (all_append Plain q (codes ")") aq (other_plain 41 refl refl refl, tt))))

sign_plain : (c : Connective) → AllByRecursion Plain (connective_sign c)
sign_plain Conjunction = (other_plain 32 refl refl refl, (other_plain 38 refl refl refl, (other_plain 32 refl refl refl, tt)))
sign_plain Disjunction = (other_plain 32 refl refl refl, (other_plain 124 refl refl refl, (other_plain 32 refl refl refl, tt)))
sign_plain Implication = (other_plain 32 refl refl refl, (other_plain 45 refl refl refl, (other_plain 62 refl refl refl, (other_plain 32 refl refl refl, tt))))
sign_plain Equivalence = (other_plain 32 refl refl refl, (other_plain 60 refl refl refl, (other_plain 45 refl refl refl, (other_plain 62 refl refl refl, (other_plain 32 refl refl refl, tt)))))

primary_plain : (f : Formula) → IsNamedFormula f → AllByRecursion Plain (primary f)
primary_plain Truth named = word_bytes_plain (codes "true") refl
primary_plain Falsity named = word_bytes_plain (codes "false") refl
primary_plain (Atom n) named = name_plain n named
primary_plain (Not f) named = (other_plain 126 refl refl refl, primary_plain f named)
primary_plain (Joined c f g) named = parens_plain (primary f) (connective_sign c) (primary g) (primary_plain f named.0) (sign_plain c) (primary_plain g named.1)

-- ---- of a system
module _ (m : System) (named : IsSystemNamed m) where
  pub context_named : (i : ℕ) (c : Context) → slice_get m.contexts i ≡ Some c → IsName c.name
  context_named i c is = (all_get IsNamedContext m.contexts i c named.contexts is).name

  context_plain : (i : ℕ) (o : Option Context) → slice_get m.contexts i ≡ o → AllByRecursion Plain (name_of_context o)
  context_plain i None is = tt
  context_plain i (Some c) is = name_plain c.name (context_named i c is)

  -- what a variable reads
  pub variable_named : (r : Read) → IsAmong r (variables m) → IsNamedFormula r.belief
  unfolding variables
  variable_named r among =
      let (i, in_range, here) = flat_map_among (context_variables m) r (range_with_len 0 (length m.contexts)) among in
      let read : IsAmong r (occurrences m) = (filter_among (λ (q : Read). nat_eq q.context i) r (occurrences m) (firsts_among r (filter (λ (q : Read). nat_eq q.context i) (occurrences m)) here)).0 in
      let (b, of_rule, of_read) = flat_map_among (λ (b : Bridge). b.pos ++ b.neg) r m.bridges read in
      let bridge = all_among IsNamedBridge m.bridges b named.bridges of_rule in
      all_among (λ (q : Read). IsNamedFormula q.belief) (b.pos ++ b.neg) r (all_append (λ (q : Read). IsNamedFormula q.belief) b.pos b.neg bridge.pos bridge.neg) of_read

  pub belief_plain : (r : Read) → IsAmong r (variables m) → AllByRecursion Plain (belief_text m r)
  belief_plain r among =
      all_append Plain (name_of_context (slice_get m.contexts r.context)) (codes ":" ++ primary r.belief) (context_plain r.context (slice_get m.contexts r.context) refl)
      (other_plain 58 refl refl refl, primary_plain r.belief (variable_named r among))
