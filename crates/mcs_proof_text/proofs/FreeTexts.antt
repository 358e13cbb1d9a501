-- Texts that have no line feed: words, numbers, names, and sets of rules and of variables.
use Rattle.std.proofs.Common.{◌≡◌, ℕ, ◌+◌, ◌/◌, ◌%◌, zero, suc, Bool, true, false, cond, not, nat_eq, ltb, List, [], ◌∷◌, ◌++◌, map, codes, slice_get, Option, Some, None, refl, sym, ap, ◌∙◌, arith, true≢false}
use Rattle.std.proofs.lemmas.Bool.{and_parts}
use Rattle.std.specs.Fmt.{digit_glyph, digits_onto, digits, decimal}
use Rattle.std.specs.List.{AllByRecursion}
use Rattle.mcs_sets.specs.Sets.{members}
use Rattle.mcs_base.proofs.Among.{among_get}
use Rattle.mcs_base.proofs.Each.{all_append, all_weaker, all_get}
use Rattle.mcs_system.specs.Plain.{Name, Read, Bridge, Context, System}
use Rattle.mcs_system.specs.Naming.{IsName, IsNamedBridge, IsSystemNamed}
use Rattle.mcs_system.specs.Systems.{variables}
use Rattle.mcs_system.specs.Texts.{name_of_context}
use Rattle.mcs_text.specs.Separated.{further, separated, braced}
use Rattle.mcs_report.specs.Members.{text_of_variable, name_of_rule, member_text, state_text, rules_text}
use Rattle.mcs_report.specs.declared.members.Member.TheVariants as kinds
use Rattle.mcs_proof_text.specs.Reports.{IsLineFeedFree, feedless}
use Rattle.mcs_proof_text.proofs.PlainTexts.{Plain, name_plain, context_named, belief_plain}

abbrev pub NoFeed : ℕ → Type 0
NoFeed b = ¬ (b ≡ 10)

pub append_free : (v w : List ℕ) → IsLineFeedFree v → IsLineFeedFree w → IsLineFeedFree (v ++ w)
append_free = all_append NoFeed

-- ---- words and numbers
plain_free : (v : List ℕ) → AllByRecursion Plain v → IsLineFeedFree v
plain_free = all_weaker Plain NoFeed (λ b p. p.1)

pub told_free : (v : List ℕ) → feedless v ≡ true → IsLineFeedFree v
told_free [] e = tt
told_free (b ∷ v) e = let (first, rest) = and_parts (not (nat_eq b 10)) (feedless v) e in ((λ is. true≢false (sym first ∙ ap (λ (x : ℕ). not (nat_eq x 10)) is)), told_free v rest)

pub name_free : (n : Name) → IsName n → IsLineFeedFree n
name_free n named = plain_free n (name_plain n named)

glyph_free : (d : ℕ) → NoFeed (digit_glyph false d)
glyph_free d = by (ltb d 10)
  where
    by : (small : Bool) → NoFeed (cond small (48 + d) (87 + d))
    by true = λ e. omega (arith, e)
    by false = λ e. omega (arith, e)

digits_free : (k n : ℕ) (after : List ℕ) → IsLineFeedFree after → IsLineFeedFree (digits_onto k 10 false n after)
digits_free zero n after free = free
digits_free (suc k) n after free = by (nat_eq (n / 10) 0) _ _ (glyph_free (n % 10), free) (digits_free k (n / 10) _ (glyph_free (n % 10), free))
  where
    by : (last : Bool) (v w : List ℕ) → IsLineFeedFree v → IsLineFeedFree w → IsLineFeedFree (cond last v w)
    by true v w fv fw = fv
    by false v w fv fw = fw

pub decimal_free : (n : ℕ) → IsLineFeedFree (decimal n)
unfolding digits
decimal_free n = digits_free 64 n [] tt

-- ---- texts with something between them
further_free : (ts : List (List ℕ)) → AllByRecursion IsLineFeedFree ts → IsLineFeedFree (further ts)
further_free [] all = tt
further_free (t ∷ ts) all = append_free (codes ", " ++ t) (further ts) (append_free (codes ", ") t (told_free (codes ", ") refl) all.0) (further_free ts all.1)

separated_free : (ts : List (List ℕ)) → AllByRecursion IsLineFeedFree ts → IsLineFeedFree (separated ts)
separated_free [] all = tt
separated_free (t ∷ ts) all = append_free t (further ts) all.0 (further_free ts all.1)

braced_free : (ts : List (List ℕ)) → AllByRecursion IsLineFeedFree ts → IsLineFeedFree (braced ts)
braced_free ts all = append_free (codes "{") (separated ts ++ codes "}") (told_free (codes "{") refl) (append_free (separated ts) (codes "}") (separated_free ts all) (told_free (codes "}") refl))

-- the texts of each of these
pub each_free : {A : Type 0} (f : A → List ℕ) → ((a : A) → IsLineFeedFree (f a)) → (as' : List A) → AllByRecursion IsLineFeedFree (map f as')
each_free f free [] = tt
each_free f free (a ∷ as') = (free a, each_free f free as')

-- and in braces
pub all_braced : (f : ℕ → List ℕ) → ((k : ℕ) → IsLineFeedFree (f k)) → (ks : List ℕ) → IsLineFeedFree (braced (map f ks))
all_braced f free ks = braced_free (map f ks) (each_free f free ks)

-- ---- of a system
module _ (m : System) (named : IsSystemNamed m) where
  pub context_free : (i : ℕ) (o : Option Context) → slice_get m.contexts i ≡ o → IsLineFeedFree (name_of_context o)
  context_free i None e = tt
  context_free i (Some c) e = name_free c.name (context_named m named i c e)

  pub rule_free : (k : ℕ) → IsLineFeedFree (name_of_rule (slice_get m.bridges k))
  rule_free k = by (slice_get m.bridges k) refl
    where
      by : (o : Option Bridge) → slice_get m.bridges k ≡ o → IsLineFeedFree (name_of_rule o)
      by None e = tt
      by (Some b) e = name_free b.name (all_get IsNamedBridge m.bridges k b named.bridges e).name

  variable_free : (k : ℕ) → IsLineFeedFree (text_of_variable m (slice_get (variables m) k))
  variable_free k = by (slice_get (variables m) k) refl
    where
      by : (o : Option Read) → slice_get (variables m) k ≡ o → IsLineFeedFree (text_of_variable m o)
      by None e = tt
      by (Some r) e = plain_free _ (belief_plain m named r (among_get r (variables m) k e))

  pub rules_free : (x : ℕ) → IsLineFeedFree (rules_text m x)
  rules_free x = all_braced (member_text kinds.Rule m) rule_free (members x)

  pub state_free : (σ : ℕ) → IsLineFeedFree (state_text m σ)
  state_free σ = all_braced (member_text kinds.Variable m) variable_free (members σ)
