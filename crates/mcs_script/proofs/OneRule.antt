-- Rules and edits with the same tokens say the same.
use Rattle.std.proofs.Common.{◌≡◌, ℕ, ◌+◌, ◌<◌, ◌≤◌, List, [], ◌∷◌, ◌++◌, codes, map, take, length, Option, Some, None, slice_get, refl, sym, ap, ◌∙◌, subst, inl, inr, arith, append-nil, length-append}
use Rattle.std.specs.Prelude.{slice_index}
use Rattle.std.proofs.lemmas.Bool.{eqb-false}
use Rattle.std.proofs.lemmas.List.{length-map, length-take-le, nil_from_length}
use Rattle.std.proofs.lemmas.Option.{slice_get_within}
use Rattle.mcs_base.specs.Listings.{IsAmong}
use Rattle.mcs_base.specs.Numbers.{value_of_digits}
use Rattle.mcs_base.proofs.Among.{among_left, among_right, get_among}
use Rattle.mcs_base.proofs.Lists.{slice_get-map_some}
use Rattle.mcs_base.proofs.Written.{take_next}
use Rattle.mcs_syntax.specs.Grammar.{tokens}
use Rattle.mcs_syntax.proofs.Unique.{one-way}
use Rattle.mcs_system.specs.Plain as plain
use Rattle.mcs_system.specs.Plain.{Name}
use Rattle.mcs_system.specs.declared.limit.Limit.TheVariants.{Weight}
use Rattle.mcs_productions.specs.Productions.{grammar}
use Rattle.mcs_productions.specs.Readable.{reads}
use Rattle.mcs_productions.specs.declared.production.Production.TheVariants as name
use Rattle.mcs_grammar.specs.Written.{WrittenBridge, IsWrittenBridge}
use Rattle.mcs_grammar.specs.Entries.{Token, Entry, entry, Weighs, optional, weight_entries, mark_entries, bridge_entries, tokens_of}
use Rattle.mcs_grammar.specs.Saying.{weight_said, SaysBridge}
use Rattle.mcs_grammar.specs.Faults.{Exceeds, Has}
use Rattle.mcs_grammar.specs.Texts.{token_texts}
use Rattle.mcs_grammar.specs.Alone.{contexts_said, IsFaultNext, SpellsOne}
use Rattle.mcs_account.specs.Mark.{events_of, tokens_in}
use Rattle.mcs_account.specs.Marks.{Marked, bridge_marks}
use Rattle.mcs_account.specs.Account.{Account, no_account, bare_context, accounted}
use Rattle.mcs_account.proofs.Accounts.{bridge_said, bridge-accounts, idle}
use Rattle.mcs_account.proofs.Forward.{marked-of}
use Rattle.mcs_account.proofs.Fronts.{same-kinds, same-marks}
use Rattle.mcs_account.proofs.RuleFronts.{rule-tokens, bare-names}
use Rattle.mcs_account.proofs.Tokens.{bridge-filled}
use Rattle.mcs_account.proofs.WholeTexts.{bridges-said}
use Rattle.mcs_script.specs.Edits.{Edit, Added, Dropped, Listed, WrittenEdit, Adds, Drops, Lists, IsWrittenEdit, edit_entries, SaysEdit}

-- ---- the marks of a rule
two-more : (a b x y : List ℕ) → b ≡ a ++ x → a ≡ b ++ y → a ≡ b
two-more a b x y e h =
    let none : length y ≡ 0 = omega (arith, ap (λ (l : List ℕ). length l) e, ap (λ (l : List ℕ). length l) h, length-append a x, length-append b y) in
    h ∙ ap (λ (l : List ℕ). b ++ l) (nil_from_length y none) ∙ append-nil b

first-is : {A : Type 0} (x y : A) → x ∷ [] ≡ y ∷ [] → x ≡ y
first-is x y e = cc

module _ (v w : WrittenBridge) (g : IsWrittenBridge v) (h : IsWrittenBridge w) (same : tokens_of (bridge_entries v) ≡ tokens_of (bridge_entries w)) where
  same-tokens : tokens_in (bridge_marks v) ≡ tokens_in (bridge_marks w)
  same-tokens = sym (rule-tokens v) ∙ same ∙ rule-tokens w

  kinds-same : tokens grammar (events_of (bridge_marks v)) ≡ tokens grammar (events_of (bridge_marks w))
  kinds-same =
      let one = same-kinds (bridge_marks v) (bridge_marks w) [] (bridge-filled v g) (bridge-filled w h) (sym same-tokens ∙ sym (append-nil (tokens_in (bridge_marks v)))) in
      let two = same-kinds (bridge_marks w) (bridge_marks v) [] (bridge-filled w h) (bridge-filled v g) (same-tokens ∙ sym (append-nil (tokens_in (bridge_marks w)))) in
      two-more _ _ one.0 two.0 one.1 two.1

  one-marks : bridge_marks v ≡ bridge_marks w
  one-marks =
      let events = one-way grammar reads name.MarkedBridge (tokens grammar (events_of (bridge_marks w))) (events_of (bridge_marks v)) (events_of (bridge_marks w)) (marked-of v g, kinds-same) (marked-of w h, refl) in
      same-marks (bridge_marks v) (bridge_marks w) [] [] events (ap (λ (l : List Token). l ++ []) same-tokens)

  one-said : (cs : List plain.Context) → bridge_said cs v ≡ bridge_said cs w
  one-said cs =
      let a : Account = record no_account { contexts = cs } in
      first-is (bridge_said cs v) (bridge_said cs w) (sym (ap (λ (b : Account). b.bridges) (bridge-accounts a 0 v).1) ∙ ap (λ (ms : Marked). (accounted (idle a 0) ms).bridges) one-marks ∙ ap (λ (b : Account). b.bridges) (bridge-accounts a 0 w).1)

-- ---- what is said
module _ (names : List Name) (few : length names ≤ 64) where
  abbrev contexts : List plain.Context
  contexts = map bare_context names

  said-is : (w : WrittenBridge) (b : plain.Bridge) → weight_said w.marks.weight ≤ 1000000 → SaysBridge names w b → b ≡ bridge_said contexts w
  said-is w b light h =
      let short : length contexts ≤ 64 = omega (arith, length-map names bare_context) in
      let weight : b.weight ≤ 1000000 = omega (arith, h.weight) in
      first-is b (bridge_said contexts w) (bridges-said contexts short (w ∷ []) (b ∷ []) (weight, tt) (subst (λ (ns : List Name). SaysBridge ns w b) (sym (bare-names names)) h, tt))

  pub rule-same : (v w : WrittenBridge) (b c : plain.Bridge) → IsWrittenBridge v → IsWrittenBridge w → weight_said v.marks.weight ≤ 1000000 → weight_said w.marks.weight ≤ 1000000 → tokens_of (bridge_entries v) ≡ tokens_of (bridge_entries w) → SaysBridge names v b → SaysBridge names w c → b ≡ c
  rule-same v w b c g h light light' same says says' = said-is v b light says ∙ one-said v w g h same contexts ∙ sym (said-is w c light' says')

-- ---- a rule that is spelled is not too heavy
module _ {W : Type 0} (IsOne : W → Type 0) (entries : W → List Entry) (names : List Name) (bytes : List ℕ) (at end : ℕ) (w : W) (one : SpellsOne IsOne entries names bytes at w end) where
  pub none-heavy : (m : Entry) → IsAmong m (entries w) → ¬ Has (Exceeds Weight) (contexts_said names) m
  none-heavy m h has =
      let (k, here) = get_among m (entries w) h in
      let ts : List Token = token_texts bytes one.spans in
      let there : slice_get ts k ≡ Some m.token = ap (λ (l : List Token). slice_get l k) one.written ∙ slice_get-map_some (λ (e : Entry). e.token) (entries w) k m here in
      let less = slice_get_within ts k m.token there in
      let long : length (take k ts) ≡ k = length-take-le k ts (omega (arith, less)) in
      one.no_fault k (Exceeds Weight) less (subst (λ (o : Option Token). IsFaultNext IsOne entries names (take k ts) o (Exceeds Weight)) (sym there) (
        refl,
        record {
          written = w;
          grammar = one.grammar;
          first = ap (λ (n : ℕ). take (n + 1) (tokens_of (entries w))) long ∙ ap (take (k + 1)) (sym one.written) ∙ take_next ts k m.token there;
          here = m;
          is_here = ap (slice_get (entries w)) long ∙ here;
          has = has;
        },
      ))

weight-entry : (b : WrittenBridge) (digits : Token) → b.marks.weight ≡ Some digits → IsAmong (entry digits (Weighs (value_of_digits digits) ∷ [])) (bridge_entries b)
weight-entry b digits is =
    let m : Entry = entry digits (Weighs (value_of_digits digits) ∷ []) in
    let here : IsAmong m (weight_entries b.marks.weight) = subst (λ (o : Option Token). IsAmong m (weight_entries o)) (sym is) (inr (inl refl)) in
    let marks : IsAmong m (mark_entries b.marks) = among_right m (optional b.marks.keep (codes "keep")) _ (among_right m (optional b.marks.closed (codes "closed")) _ here) in
    inr (inr (among_left m (mark_entries b.marks) _ marks))

pub light : (names : List Name) (b : WrittenBridge) → ((m : Entry) → IsAmong m (bridge_entries b) → ¬ Has (Exceeds Weight) (contexts_said names) m) → weight_said b.marks.weight ≤ 1000000
light names b none = go b.marks.weight refl
  where
    go : (w : Option Token) → b.marks.weight ≡ w → weight_said w ≤ 1000000
    go None is = omega arith
    go (Some digits) is =
        let no : ¬ (1000000 < value_of_digits digits) = λ heavy. none _ (weight-entry b digits is) (value_of_digits digits, inl refl, heavy) in
        omega (arith, no)

-- ---- edits
abbrev IsLight : WrittenEdit → Type 0
IsLight (Adds b) = weight_said b.marks.weight ≤ 1000000
IsLight (Drops n) = Unit {0}
IsLight Lists = Unit {0}

pub light-edit : (names : List Name) (bytes : List ℕ) (at end : ℕ) (w : WrittenEdit) → SpellsOne IsWrittenEdit edit_entries names bytes at w end → IsLight w
light-edit names bytes at end (Adds b) one = light names b (λ m h. none-heavy IsWrittenEdit edit_entries names bytes at end (Adds b) one m (inr h))
light-edit names bytes at end (Drops n) one = tt
light-edit names bytes at end Lists one = tt

abbrev byte_of : List Token → ℕ
byte_of [] = 0
byte_of (t ∷ ts) = slice_index t 0

module _ (names : List Name) (few : length names ≤ 64) where
  -- what an edit says
  one-edit : (w : WrittenEdit) (e d : Edit) → IsWrittenEdit w → IsLight w → SaysEdit names w e → SaysEdit names w d → e ≡ d
  one-edit (Adds w) (Added b) (Added c) g light h k = ap Added (rule-same names few w w b c g g light light refl h k)
  one-edit (Adds w) (Added b) (Dropped n) g light h k = absurd k
  one-edit (Adds w) (Added b) Listed g light h k = absurd k
  one-edit (Adds w) (Dropped n) d g light h k = absurd h
  one-edit (Adds w) Listed d g light h k = absurd h
  one-edit (Drops n) (Dropped i) (Dropped j) g light h k = ap Dropped (h ∙ sym k)
  one-edit (Drops n) (Dropped i) (Added c) g light h k = absurd k
  one-edit (Drops n) (Dropped i) Listed g light h k = absurd k
  one-edit (Drops n) (Added b) d g light h k = absurd h
  one-edit (Drops n) Listed d g light h k = absurd h
  one-edit Lists Listed Listed g light h k = refl
  one-edit Lists Listed (Added c) g light h k = absurd k
  one-edit Lists Listed (Dropped n) g light h k = absurd k
  one-edit Lists (Added b) d g light h k = absurd h
  one-edit Lists (Dropped n) d g light h k = absurd h

  -- edits with the same tokens
  moved : (v w : WrittenEdit) (d : Edit) → IsWrittenEdit v → IsWrittenEdit w → IsLight v → IsLight w → tokens_of (edit_entries v) ≡ tokens_of (edit_entries w) → SaysEdit names w d → (e : Edit) → SaysEdit names v e → e ≡ d
  moved (Adds v) (Adds w) (Added c) g h light light' same says' (Added b) says = let tails : tokens_of (bridge_entries v) ≡ tokens_of (bridge_entries w) = cc in ap Added (rule-same names few v w b c g h light light' tails says says')
  moved (Adds v) (Adds w) (Added c) g h light light' same says' (Dropped n) says = absurd says
  moved (Adds v) (Adds w) (Added c) g h light light' same says' Listed says = absurd says
  moved (Adds v) (Adds w) (Dropped n) g h light light' same says' e says = absurd says'
  moved (Adds v) (Adds w) Listed g h light light' same says' e says = absurd says'
  moved (Adds v) (Drops n) d g h light light' same says' e says = absurd (eqb-false 97 100 refl (ap byte_of same))
  moved (Adds v) Lists d g h light light' same says' e says = absurd (eqb-false 97 108 refl (ap byte_of same))
  moved (Drops n) (Adds w) d g h light light' same says' e says = absurd (eqb-false 100 97 refl (ap byte_of same))
  moved (Drops n) (Drops k) d g h light light' same says' e says = let names-same : n ≡ k = cc in one-edit (Drops k) e d h tt (subst (λ (i : Name). SaysEdit names (Drops i) e) names-same says) says'
  moved (Drops n) Lists d g h light light' same says' e says = absurd (eqb-false 100 108 refl (ap byte_of same))
  moved Lists (Adds w) d g h light light' same says' e says = absurd (eqb-false 108 97 refl (ap byte_of same))
  moved Lists (Drops n) d g h light light' same says' e says = absurd (eqb-false 108 100 refl (ap byte_of same))
  moved Lists Lists d g h light light' same says' e says = one-edit Lists e d g tt says says'

  pub edit-same : (v w : WrittenEdit) (e d : Edit) → IsWrittenEdit v → IsWrittenEdit w → IsLight v → IsLight w → tokens_of (edit_entries v) ≡ tokens_of (edit_entries w) → SaysEdit names v e → SaysEdit names w d → e ≡ d
  edit-same v w e d g h light light' same says says' = moved v w d g h light light' same says' e says
