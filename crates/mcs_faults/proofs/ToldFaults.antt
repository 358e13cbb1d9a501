-- Which of the faults that are told of what is read by itself a token has.
use Rattle.std.proofs.Common.{◌≡◌, ℕ, ◌<◌, ◌≤◌, List, [], ◌∷◌, map, length, refl, sym, subst, inl, inr, ◌⊎◌, ◌↔◌, arith}
use Rattle.std.specs.Prelude.{IsTrue}
use Rattle.mcs_base.specs.Listings.{IsAmong}
use Rattle.mcs_base.specs.Numbers.{value_of_digits}
use Rattle.mcs_system.specs.Plain.{Name}
use Rattle.mcs_system.specs.declared.limit.Limit.TheVariants.{Weight, OpenParentheses, NameBytes}
use Rattle.mcs_account.specs.declared.place.Role.TheVariants as roles
use Rattle.mcs_account.specs.declared.place.Uses as code_uses
use Rattle.mcs_grammar.specs.Written.{IsNameWord}
use Rattle.mcs_grammar.specs.Entries.{Token, NamesContext, Weighs, NamesTarget, NamesSource, OpensWithin, Entry}
use Rattle.mcs_grammar.specs.Faults.{TextFault, NoGrammar, NoContext, Exceeds, rank, Has}
use Rattle.mcs_grammar.specs.Alone.{is_told, contexts_said}
use Rattle.mcs_account.specs.Images.{About, capped, uses_in}
use Rattle.mcs_account.proofs.UseLemmas.{entry-in, in-entry}

-- the names are those that were said
pub said-there : (names : List Name) (n : Name) → IsAmong (NamesContext n) (contexts_said names) ↔ IsAmong n names
said-there [] n = (λ h. h, λ h. h)
said-there (m ∷ names) n = let more = said-there names n in (
  λ h. elim h [ inl e ↦ inl (let same : n ≡ m = cc in same) | inr k ↦ inr (more.0 k) ],
  λ h. elim h [ inl e ↦ inl (subst (λ (x : Name). NamesContext n ≡ NamesContext x) e refl) | inr k ↦ inr (more.1 k) ],
)

module _ (names : List Name) (m : Entry) (a : About) (t : Token) (uses : code_uses.Uses) (token : m.token ≡ t) (are : map capped m.uses ≡ uses_in a t uses) where
  pub unknown-is : Has NoContext (contexts_said names) m ↔ (((uses.role ≡ roles.NamesTarget) ⊎ (uses.role ≡ roles.NamesSource)) × (¬ IsAmong t names))
  unknown-is = (
    λ (c, named, none). elim named [
      | inl among ↦ let h = entry-in a t uses m.uses are (NamesTarget c) refl among in (inl h.0, λ there. none ((said-there names c).1 (subst (λ (x : Name). IsAmong x names) (sym h.1) there)))
      | inr among ↦ let h = entry-in a t uses m.uses are (NamesSource c) refl among in (inr h.0, λ there. none ((said-there names c).1 (subst (λ (x : Name). IsAmong x names) (sym h.1) there)))
    ],
    λ h. (
      t,
      elim h.0 [ inl e ↦ inl (in-entry a t uses m.uses are (NamesTarget t) refl (e, refl)) | inr e ↦ inr (in-entry a t uses m.uses are (NamesSource t) refl (e, refl)) ],
      λ there. h.1 ((said-there names t).0 there),
    ),
  )

  pub heavy-is : Has (Exceeds Weight) (contexts_said names) m ↔ ((uses.role ≡ roles.Weighs) × (1000000 < value_of_digits t))
  heavy-is = (
    λ (n, among, heavy). let h = entry-in a t uses m.uses are (Weighs n) refl among in (h.0, subst (λ (k : ℕ). 1000000 < k) h.1 heavy),
    λ h. (value_of_digits t, in-entry a t uses m.uses are (Weighs (value_of_digits t)) refl (h.0, refl), h.1),
  )

  pub deep-is : Has (Exceeds OpenParentheses) (contexts_said names) m ↔ (uses.role ≡ roles.Opens 512)
  deep-is = (λ h. entry-in a t uses m.uses are (OpensWithin 512) refl h, λ h. in-entry a t uses m.uses are (OpensWithin 512) refl h)

  pub long-is : Has (Exceeds NameBytes) (contexts_said names) m ↔ (IsNameWord t × (64 < length t))
  long-is = (λ h. (subst IsNameWord token h.0, subst (λ (x : Token). 64 < length x) token h.1), λ h. (subst IsNameWord (sym token) h.0, subst (λ (x : Token). 64 < length x) (sym token) h.1))

-- ---- the order in which they are told
module _ (names : List Name) (m : Entry) where
  abbrev HasOne : TextFault → Type 0
  HasOne f = Has f (contexts_said names) m

  pub lowest-unknown : (f : TextFault) → IsTrue (is_told f) → HasOne f → rank NoContext ≤ rank f
  lowest-unknown NoGrammar y h = absurd h
  lowest-unknown f y h = omega arith

  pub lowest-heavy : ¬ HasOne NoContext → (f : TextFault) → IsTrue (is_told f) → HasOne f → rank (Exceeds Weight) ≤ rank f
  lowest-heavy none NoGrammar y h = absurd h
  lowest-heavy none NoContext y h = absurd (none h)
  lowest-heavy none (Exceeds Weight) y h = omega arith
  lowest-heavy none (Exceeds OpenParentheses) y h = omega arith
  lowest-heavy none (Exceeds NameBytes) y h = omega arith
  lowest-heavy none f y h = absurd (cc)

  pub lowest-deep : ¬ HasOne NoContext → ¬ HasOne (Exceeds Weight) → (f : TextFault) → IsTrue (is_told f) → HasOne f → rank (Exceeds OpenParentheses) ≤ rank f
  lowest-deep none light NoGrammar y h = absurd h
  lowest-deep none light NoContext y h = absurd (none h)
  lowest-deep none light (Exceeds Weight) y h = absurd (light h)
  lowest-deep none light (Exceeds OpenParentheses) y h = omega arith
  lowest-deep none light (Exceeds NameBytes) y h = omega arith
  lowest-deep none light f y h = absurd (cc)

  pub lowest-long : ¬ HasOne NoContext → ¬ HasOne (Exceeds Weight) → ¬ HasOne (Exceeds OpenParentheses) → (f : TextFault) → IsTrue (is_told f) → HasOne f → rank (Exceeds NameBytes) ≤ rank f
  lowest-long none light flat NoGrammar y h = absurd h
  lowest-long none light flat NoContext y h = absurd (none h)
  lowest-long none light flat (Exceeds Weight) y h = absurd (light h)
  lowest-long none light flat (Exceeds OpenParentheses) y h = absurd (flat h)
  lowest-long none light flat (Exceeds NameBytes) y h = omega arith
  lowest-long none light flat f y h = absurd (cc)

  pub none-told : ¬ HasOne NoContext → ¬ HasOne (Exceeds Weight) → ¬ HasOne (Exceeds OpenParentheses) → ¬ HasOne (Exceeds NameBytes) → (f : TextFault) → IsTrue (is_told f) → ¬ HasOne f
  none-told none light flat short NoGrammar y h = h
  none-told none light flat short NoContext y h = none h
  none-told none light flat short (Exceeds Weight) y h = light h
  none-told none light flat short (Exceeds OpenParentheses) y h = flat h
  none-told none light flat short (Exceeds NameBytes) y h = short h
  none-told none light flat short f y h = absurd (cc)
