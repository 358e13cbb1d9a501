-- What is read by itself has one fault at most, and none where it is spelled.
use Rattle.std.proofs.Common.{◌≡◌, ℕ, ◌<◌, ◌≤◌, List, [], ◌∷◌, ◌++◌, map, take, drop, length, get_or, Option, Some, None, slice_get, refl, sym, ap, ◌∙◌, subst, inl, inr, arith}
use Rattle.std.specs.Prelude.{slice_range}
use Rattle.std.proofs.lemmas.Bool.{cases_lt}
use Rattle.std.proofs.lemmas.List.{append-nil, append_assoc, length-append, length-map, map-append, nil_from_length, take-append-drop}
use Rattle.std.proofs.Math.Seq.{take-append_seam}
use Rattle.mcs_base.proofs.Lists.{slice_get_seam}
use Rattle.mcs_system.specs.Plain.{Name}
use Rattle.mcs_system.specs.declared.limit.Limit.{Limit}
use Rattle.mcs_system.specs.declared.limit.Limit.TheVariants.{Contexts, Bridges, RulesPerContext, Variables, InputsPerContext, AtomsPerContext, DefaultsPerContext, ItemsPerContext, Weight, FormulaSize, OpenParentheses, NameBytes}
use Rattle.mcs_tokens.specs.declared.scan.Span.{Span}
use Rattle.mcs_tokens.proofs.Unique.{next_is_unique}
use Rattle.mcs_grammar.specs.Entries.{Token, Entry, tokens_of}
use Rattle.mcs_grammar.specs.Faults.{TextFault, NoGrammar, NoContext, Twin, NoAtom, Exceeds, rank, fault_number, limit_of}
use Rattle.mcs_grammar.specs.Texts.{token_texts}
use Rattle.mcs_grammar.specs.Alone.{AreFirstTokens, IsNextAt, Begins, IsFaultNext, AreFree, SpellsOne, HasFirstFault}
use Rattle.mcs_grammar.proofs.RankLemmas.{in_order}

-- ---- a rank is that of one fault
abbrev with_rank : ℕ → TextFault
with_rank k = get_or (NoGrammar ∷ NoGrammar ∷ NoContext ∷ Twin ∷ NoAtom ∷ map Exceeds in_order) k NoGrammar

of-rank : (f : TextFault) → with_rank (rank f) ≡ f
of-rank NoGrammar = refl
of-rank NoContext = refl
of-rank Twin = refl
of-rank NoAtom = refl
of-rank (Exceeds Contexts) = refl
of-rank (Exceeds Bridges) = refl
of-rank (Exceeds RulesPerContext) = refl
of-rank (Exceeds Variables) = refl
of-rank (Exceeds InputsPerContext) = refl
of-rank (Exceeds AtomsPerContext) = refl
of-rank (Exceeds DefaultsPerContext) = refl
of-rank (Exceeds ItemsPerContext) = refl
of-rank (Exceeds Weight) = refl
of-rank (Exceeds FormulaSize) = refl
of-rank (Exceeds OpenParentheses) = refl
of-rank (Exceeds NameBytes) = refl

rank-one : (f g : TextFault) → rank f ≡ rank g → f ≡ g
rank-one f g same = sym (of-rank f) ∙ ap with_rank same ∙ of-rank g

-- ---- the first tokens
module _ (bytes : List ℕ) where
  abbrev text_of : Span → Token
  text_of s = slice_range bytes s.from s.to

  -- the longer list goes on after the shorter one
  pub first-parts : (at : ℕ) (xs ys : List Span) (end end' : ℕ) → AreFirstTokens bytes at xs end → AreFirstTokens bytes at ys end' → length xs ≤ length ys → (rest : List Span) × (ys ≡ xs ++ rest) × AreFirstTokens bytes end rest end'
  first-parts at [] ys end end' h k few = (ys, refl, subst (λ (i : ℕ). AreFirstTokens bytes i ys end') (sym h) k)
  first-parts at (x ∷ xs) [] end end' h k few = absurd (omega (arith, few))
  first-parts at (x ∷ xs) (y ∷ ys) end end' (nx, lx, hx) (ny, ly, hy) few =
      let one = next_is_unique bytes at x.from x.to y.from y.to nx ny in
      let same : y ≡ x = span-is y x (sym one.0) (sym one.1) in
      let more = first-parts x.to xs ys end end' hx (subst (λ (i : ℕ). AreFirstTokens bytes i ys end') (sym one.1) hy) (omega (arith, few)) in
      (more.0, ap (λ (s : Span). s ∷ ys) same ∙ ap (λ (l : List Span). x ∷ l) more.1, more.2)
    where
      the_span : ℕ → ℕ → Span
      the_span a b = record { from = a; to = b }

      span-is : (s t : Span) → s.from ≡ t.from → s.to ≡ t.to → s ≡ t
      span-is s t a b = ap (λ (k : ℕ). the_span k s.to) a ∙ ap (the_span t.from) b

  same-lists : (at : ℕ) (xs ys : List Span) (end end' : ℕ) → AreFirstTokens bytes at xs end → AreFirstTokens bytes at ys end' → length xs ≡ length ys → xs ≡ ys
  same-lists at xs ys end end' h k long =
      let parts = first-parts at xs ys end end' h k (omega (arith, long)) in
      let none : length parts.0 ≡ 0 = omega (arith, long, ap (λ (l : List Span). length l) parts.1, length-append xs parts.0) in
      sym (parts.1 ∙ ap (λ (l : List Span). xs ++ l) (nil_from_length parts.0 none) ∙ append-nil xs)

  one-end : (at : ℕ) (xs : List Span) (end end' : ℕ) → AreFirstTokens bytes at xs end → AreFirstTokens bytes at xs end' → end ≡ end'
  one-end at [] end end' h k = h ∙ sym k
  one-end at (x ∷ xs) end end' h k = one-end x.to xs end end' h.2 k.2

  -- the next token is one
  pub next-at-one : (end : ℕ) (next next' : Option Token) (offset offset' : ℕ) → IsNextAt bytes end next offset → IsNextAt bytes end next' offset' → (next ≡ next') × (offset ≡ offset')
  next-at-one end None None o o' (n, e) (n', e') = (refl, e ∙ sym e')
  next-at-one end None (Some t) o o' (n, e) (to, n', less, is) = absurd (omega (arith, e, less, (next_is_unique bytes end o o o' to n n').0))
  next-at-one end (Some t) None o o' (to, n, less, is) (n', e) = absurd (omega (arith, e, less, (next_is_unique bytes end o to o' o' n n').0))
  next-at-one end (Some t) (Some t') o o' (to, n, less, is) (to', n', less', is') =
      let one = next_is_unique bytes end o to o' to' n n' in
      (ap (λ (x : Token). Some x) (is ∙ ap (λ (k : ℕ). slice_range bytes k to) one.0 ∙ ap (slice_range bytes o') one.1 ∙ sym is'), one.0)

  next-there : (end end' : ℕ) (s : Span) (rest : List Span) → AreFirstTokens bytes end (s ∷ rest) end' → IsNextAt bytes end (Some (text_of s)) s.from
  next-there end end' s rest (n, less, h) = (s.to, n, less, refl)

  module _ {W : Type 0} (IsOne : W → Type 0) (entries : W → List Entry) (names : List Name) where
    abbrev Fault : List Token → Option Token → TextFault → Type 0
    Fault ts next f = IsFaultNext IsOne entries names ts next f

    abbrev Free : List Token → Type 0
    Free ts = AreFree IsOne entries names ts

    -- where no token has a fault, none is told before the last one
    pub no-fault-before : (at : ℕ) (xs ys : List Span) (end end' : ℕ) → AreFirstTokens bytes at xs end → AreFirstTokens bytes at ys end' → length xs < length ys → Free (token_texts bytes ys)
        → (next : Option Token) (offset : ℕ) → IsNextAt bytes end next offset → (f : TextFault) → ¬ Fault (token_texts bytes xs) next f
    no-fault-before at xs ys end end' h k less free next offset is f holds =
        let parts = first-parts at xs ys end end' h k (omega (arith, less)) in
        on parts.0 parts.1 parts.2
      where
        on : (rest : List Span) → ys ≡ xs ++ rest → AreFirstTokens bytes end rest end' → ⊥
        on [] e r = omega (arith, less, ap (λ (l : List Span). length l) (e ∙ append-nil xs))
        on (s ∷ rest) e r =
            let ts : List Token = token_texts bytes xs in
            let us : List Token = token_texts bytes ys in
            let all : us ≡ ts ++ text_of s ∷ token_texts bytes rest = ap (token_texts bytes) e ∙ map-append text_of xs (s ∷ rest) in
            let front : take (length ts) us ≡ ts = ap (take (length ts)) all ∙ take-append_seam ts (text_of s ∷ token_texts bytes rest) in
            let here : slice_get us (length ts) ≡ Some (text_of s) = ap (λ (l : List Token). slice_get l (length ts)) all ∙ slice_get_seam ts (text_of s) (token_texts bytes rest) (length ts) refl in
            let same = (next-at-one end next (Some (text_of s)) offset s.from is (next-there end end' s rest r)).0 in
            free (length ts) f (omega (arith, length-map xs text_of, length-map ys text_of, less))
            (subst (λ (l : List Token). Fault l (slice_get us (length ts)) f) (sym front) (subst (λ (o : Option Token). Fault ts o f) (same ∙ sym here) holds))

    module _ (at number number' : ℕ) (limit limit' : Option Limit) (offset offset' : ℕ) (h : HasFirstFault IsOne entries names bytes at number limit offset) (k : HasFirstFault IsOne entries names bytes at number' limit' offset') where
      same-spans : h.spans ≡ k.spans
      same-spans = elim (cases_lt (length h.spans) (length k.spans)) [
        | inl less ↦ absurd (no-fault-before at h.spans k.spans h.end k.end h.tokens k.tokens less k.no_fault h.next offset h.is_next h.fault h.holds)
        | inr past ↦ elim (cases_lt (length k.spans) (length h.spans)) [
          | inl less ↦ absurd (no-fault-before at k.spans h.spans k.end h.end k.tokens h.tokens less h.no_fault k.next offset' k.is_next k.fault k.holds)
          | inr also ↦ same-lists at h.spans k.spans h.end k.end h.tokens k.tokens (omega (arith, past, also))
        ]
      ]

      same-end : h.end ≡ k.end
      same-end = one-end at h.spans h.end k.end h.tokens (subst (λ (l : List Span). AreFirstTokens bytes at l k.end) (sym same-spans) k.tokens)

      same-next : (h.next ≡ k.next) × (offset ≡ offset')
      same-next = next-at-one k.end h.next k.next offset offset' (subst (λ (i : ℕ). IsNextAt bytes i h.next offset) same-end h.is_next) k.is_next

      moved : (f : TextFault) → Fault (token_texts bytes h.spans) h.next f → Fault (token_texts bytes k.spans) k.next f
      moved f holds = subst (λ (l : List Span). Fault (token_texts bytes l) k.next f) same-spans (subst (λ (o : Option Token). Fault (token_texts bytes h.spans) o f) same-next.0 holds)

      back : (f : TextFault) → Fault (token_texts bytes k.spans) k.next f → Fault (token_texts bytes h.spans) h.next f
      back f holds = subst (λ (l : List Span). Fault (token_texts bytes l) h.next f) (sym same-spans) (subst (λ (o : Option Token). Fault (token_texts bytes k.spans) o f) (sym same-next.0) holds)

      same-fault : h.fault ≡ k.fault
      same-fault = rank-one h.fault k.fault (omega (arith, h.lowest k.fault (back k.fault k.holds), k.lowest h.fault (moved h.fault h.holds)))

      pub one-first-fault : (number ≡ number') × (limit ≡ limit') × (offset ≡ offset')
      one-first-fault = (h.number_is ∙ ap fault_number same-fault ∙ sym k.number_is, h.limit_is ∙ ap limit_of same-fault ∙ sym k.limit_is, same-next.1)

    -- ---- where nothing whole goes on
    module _ (alone : (v w : W) → IsOne v → IsOne w → (us : List Token) → tokens_of (entries w) ≡ tokens_of (entries v) ++ us → us ≡ []) where
      -- what goes on after a whole one has a fault at once
      goes-on-never : (at : ℕ) (xs ys : List Span) (end end' : ℕ) (v : W) → IsOne v → AreFirstTokens bytes at xs end → AreFirstTokens bytes at ys end' → length xs < length ys → token_texts bytes xs ≡ tokens_of (entries v) → ¬ Free (token_texts bytes ys)
      goes-on-never at xs ys end end' v one h k less whole free =
          let parts = first-parts at xs ys end end' h k (omega (arith, less)) in
          on parts.0 parts.1 parts.2
        where
          on : (rest : List Span) → ys ≡ xs ++ rest → AreFirstTokens bytes end rest end' → ⊥
          on [] e r = omega (arith, less, ap (λ (l : List Span). length l) (e ∙ append-nil xs))
          on (s ∷ rest) e r = no-fault-before at xs ys end end' h k less free (Some (text_of s)) s.from (next-there end end' s rest r) NoGrammar (λ begun. begins-not s begun)
            where
              begins-not : (s : Span) → ¬ Begins IsOne entries (token_texts bytes xs ++ text_of s ∷ [])
              begins-not s (w, one', first) =
                  let ts : List Token = token_texts bytes xs in
                  let all : List Token = tokens_of (entries w) in
                  let n : ℕ = length (ts ++ text_of s ∷ []) in
                  let split : all ≡ tokens_of (entries v) ++ (text_of s ∷ drop n all) = sym (take-append-drop n all) ∙ ap (λ (l : List Token). l ++ drop n all) first ∙ append_assoc ts (text_of s ∷ []) (drop n all) ∙ ap (λ (l : List Token). l ++ (text_of s ∷ drop n all)) whole in
                  let none : text_of s ∷ drop n all ≡ [] = alone v w one one' (text_of s ∷ drop n all) split in absurd (cc none)

      pub spelled-no-fault : (at end number : ℕ) (limit : Option Limit) (offset : ℕ) (v : W) → SpellsOne IsOne entries names bytes at v end → ¬ HasFirstFault IsOne entries names bytes at number limit offset
      spelled-no-fault at end number limit offset v one h = elim (cases_lt (length h.spans) (length one.spans)) [
        | inl less ↦ no-fault-before at h.spans one.spans h.end end h.tokens one.tokens less one.no_fault h.next offset h.is_next h.fault h.holds
        | inr past ↦ elim (cases_lt (length one.spans) (length h.spans)) [
          | inl less ↦ goes-on-never at one.spans h.spans end h.end v one.grammar one.tokens h.tokens less one.written h.no_fault
          | inr also ↦ let same = same-lists at one.spans h.spans end h.end one.tokens h.tokens (omega (arith, past, also)) in
              h.unfinished (v, one.grammar, sym one.written ∙ ap (token_texts bytes) same)
        ]
      ]

      pub one-spelled : (at end end' : ℕ) (v w : W) → SpellsOne IsOne entries names bytes at v end → SpellsOne IsOne entries names bytes at w end' → (end ≡ end') × (tokens_of (entries v) ≡ tokens_of (entries w))
      one-spelled at end end' v w h k = elim (cases_lt (length h.spans) (length k.spans)) [
        | inl less ↦ absurd (goes-on-never at h.spans k.spans end end' v h.grammar h.tokens k.tokens less h.written k.no_fault)
        | inr past ↦ elim (cases_lt (length k.spans) (length h.spans)) [
          | inl less ↦ absurd (goes-on-never at k.spans h.spans end' end w k.grammar k.tokens h.tokens less k.written h.no_fault)
          | inr also ↦ let same = same-lists at h.spans k.spans end end' h.tokens k.tokens (omega (arith, past, also)) in (
            one-end at k.spans end end' (subst (λ (l : List Span). AreFirstTokens bytes at l end) same h.tokens) k.tokens,
            sym h.written ∙ ap (token_texts bytes) same ∙ k.written,
          )
        ]
      ]
