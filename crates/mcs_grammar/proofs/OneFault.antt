-- A text has one fault at most, and none where it spells a system.
use Rattle.std.proofs.Common.{◌≡◌, ℕ, List, ◌∷◌, map, get_or, refl, sym, ap, ◌∙◌, subst, inl, inr, arith}
use Rattle.std.proofs.lemmas.Bool.{cases_lt}
use Rattle.mcs_system.specs.declared.limit.Limit.TheVariants.{Contexts, Bridges, RulesPerContext, Variables, InputsPerContext, AtomsPerContext, DefaultsPerContext, ItemsPerContext, Weight, FormulaSize, OpenParentheses, NameBytes}
use Rattle.mcs_tokens.specs.declared.scan.Span.{Span}
use Rattle.mcs_tokens.proofs.Unique.{lists_are_unique}
use Rattle.mcs_grammar.specs.Entries.{Token}
use Rattle.mcs_grammar.specs.Faults.{TextFault, NoGrammar, NoContext, Twin, NoAtom, Exceeds, fault_number, limit_of, rank, IsFaultAt, IsFirstTextFault}
use Rattle.mcs_grammar.specs.Texts.{token_texts, offset_of, TextsHaveOneFault, SpelledTextsHaveNoFault}
use Rattle.mcs_grammar.proofs.RankLemmas.{in_order}

-- ---- a rank is that of one fault
abbrev with_rank : ℕ → TextFault
with_rank k = get_or (NoGrammar ∷ NoGrammar ∷ NoContext ∷ Twin ∷ NoAtom ∷ map Exceeds in_order) k NoGrammar

of-rank : (f : TextFault) → with_rank (rank f) ≡ f
of-rank NoGrammar = refl
of-rank NoContext = refl
of-rank Twin = refl
of-rank NoAtom = refl
of-rank (Exceeds Contexts) = refl
of-rank (Exceeds Bridges) = refl
of-rank (Exceeds RulesPerContext) = refl
of-rank (Exceeds Variables) = refl
of-rank (Exceeds InputsPerContext) = refl
of-rank (Exceeds AtomsPerContext) = refl
of-rank (Exceeds DefaultsPerContext) = refl
of-rank (Exceeds ItemsPerContext) = refl
of-rank (Exceeds Weight) = refl
of-rank (Exceeds FormulaSize) = refl
of-rank (Exceeds OpenParentheses) = refl
of-rank (Exceeds NameBytes) = refl

rank-one : (f g : TextFault) → rank f ≡ rank g → f ≡ g
rank-one f g same = sym (of-rank f) ∙ ap with_rank same ∙ of-rank g

-- ---- the first fault is one
module _ (ts : List Token) (j k : ℕ) (f g : TextFault) (a : IsFirstTextFault ts j f) (b : IsFirstTextFault ts k g) where
  same-token : j ≡ k
  same-token = elim (cases_lt j k) [
    | inl less ↦ absurd (b.first j f less a.holds)
    | inr past ↦ elim (cases_lt k j) [ inl less ↦ absurd (a.first k g less b.holds) | inr also ↦ omega arith ]
  ]

  same-fault : f ≡ g
  same-fault =
      let lower = a.lowest g (subst (λ (i : ℕ). IsFaultAt ts i g) (sym same-token) b.holds) in
      let higher = b.lowest f (subst (λ (i : ℕ). IsFaultAt ts i f) same-token a.holds) in
      rank-one f g (omega arith)

pub one-fault : TextsHaveOneFault
one-fault bytes number number' limit limit' offset offset' h k =
    let spans : h.spans ≡ k.spans = lists_are_unique bytes 0 h.spans k.spans h.tokens k.tokens in
    let ts : List Token = token_texts bytes k.spans in
    let first : IsFirstTextFault ts h.token h.fault = subst (λ (ss : List Span). IsFirstTextFault (token_texts bytes ss) h.token h.fault) spans h.first in
    let token : h.token ≡ k.token = same-token ts h.token k.token h.fault k.fault first k.first in
    let fault : h.fault ≡ k.fault = same-fault ts h.token k.token h.fault k.fault first k.first in (
      h.number_is ∙ ap fault_number fault ∙ sym k.number_is,
      h.limit_is ∙ ap limit_of fault ∙ sym k.limit_is,
      h.offset_is ∙ ap (λ (ss : List Span). offset_of bytes ss h.token) spans ∙ ap (offset_of bytes k.spans) token ∙ sym k.offset_is,
    )

pub no-fault : SpelledTextsHaveNoFault
no-fault bytes m number limit offset spelled h =
    let spans : h.spans ≡ spelled.spans = lists_are_unique bytes 0 h.spans spelled.spans h.tokens spelled.tokens in
    spelled.no_fault h.token h.fault (subst (λ (ss : List Span). IsFaultAt (token_texts bytes ss) h.token h.fault) spans (h.first).holds)
