-- The letters of one context, which are delivered one after the other.
use Rattle.std.proofs.Common.{◌≡◌, ℕ, ◌<◌, List, [], ◌∷◌, ◌++◌, map, length, length-append, get_or, slice_get, slice_set, Option, Some, None, append_assoc, append-nil, refl, sym, ap, ◌∙◌, subst, inl, inr, ◌⊎◌, arith}
use Rattle.std.proofs.lemmas.Bool.{cases_eq}
use Rattle.std.proofs.lemmas.List.{map-append}
use Rattle.std.proofs.lemmas.Option.{get_or_from_slice_get, slice_get_within}
use Rattle.mcs_base.specs.Listings.{IsAmong, AreApart}
use Rattle.mcs_base.proofs.Among.{among_left, among_map, among_push, among_right}
use Rattle.mcs_base.proofs.Distinct.{distinct_parts}
use Rattle.mcs_base.proofs.Lists.{slice_get_below}
use Rattle.mcs_base.proofs.Written.{slice_get-slice_set, length-slice_set, image_kept, set_there, set_other}
use Rattle.mcs_base.proofs.Results.{some_same}
use Rattle.mcs_node.specs.Letters.{LetterData}
use Rattle.mcs_node.specs.Nodes.{HandsOut, HasTaken, NodeData, with_had}
use Rattle.mcs_mesh.specs.Players.{AreDelivered, AreExpected, AreSomeDelivered, IsAmidDelivery, IsDelivered, IsExpected, IsTakenIn, addressees, as_new, has_had, has_taken, is_sending, sends, stays, waits_on}
use Rattle.mcs_mesh.proofs.TurnLemmas.{content_kept}

-- what has become of the node of context j, which has had its letter if that was handed out
abbrev pub HasHad : List LetterData → ℕ → NodeData → NodeData → Type 0
HasHad handed j d e = ((l : LetterData) × IsAmong l handed × (l.to ≡ j) × (e ≡ with_had l d)) ⊎ ((¬ IsAmong j (addressees handed)) × (e ≡ d))

-- some of the letters of context i were handed out, and their addressees have had them
pub record IsHandingOut (i : ℕ) (before nodes : List NodeData) : Type 0 where
  pub sender : NodeData
  pub is_its : slice_get before i ≡ Some sender
  pub left : List LetterData
  pub handed : List LetterData
  pub parts : sender.outbox ≡ left ++ handed
  pub now : slice_get nodes i ≡ Some (record sender { outbox = left })
  pub one_each : length nodes ≡ length before
  pub each : (j : ℕ) (d e : NodeData) → ¬ (j ≡ i) → slice_get before j ≡ Some d → slice_get nodes j ≡ Some e → HasHad handed j d e

pub handing_begun : (i : ℕ) (nodes : List NodeData) → AreExpected i nodes → IsHandingOut i nodes nodes
handing_begun i nodes x = record {
  sender = x.sender;
  is_its = x.is_its;
  left = x.sender.outbox;
  handed = [];
  parts = sym (append-nil x.sender.outbox);
  now = x.is_its;
  one_each = refl;
  each = λ j d e differ at at'. inr (λ h. h, some_same (slice_get nodes j) e d at' at);
}

-- the context has a node
pub sender_there : (i : ℕ) (before nodes : List NodeData) → IsHandingOut i before nodes → i < length nodes
sender_there i before nodes s = slice_get_within nodes i (record s.sender { outbox = s.left }) s.now

pub sender_read : (i : ℕ) (before nodes : List NodeData) → IsHandingOut i before nodes → (d : NodeData) → slice_get nodes i ≡ Some (get_or nodes i d)
sender_read i before nodes s d = let n = record s.sender { outbox = s.left } in s.now ∙ ap (λ z. Some z) (sym (get_or_from_slice_get nodes i n d s.now))

-- the letters that the node has left
abbrev pub letters_of : Option NodeData → List LetterData
letters_of None = []
letters_of (Some d) = d.outbox

module _ (i : ℕ) (before nodes : List NodeData) (x : AreExpected i before) (s : IsHandingOut i before nodes) (d : NodeData) (at : slice_get nodes i ≡ Some d) where
  d_is : d ≡ record s.sender { outbox = s.left }
  d_is = some_same (slice_get nodes i) d (record s.sender { outbox = s.left }) at s.now

  sender_is : s.sender ≡ x.sender
  sender_is = some_same (slice_get before i) s.sender x.sender s.is_its x.is_its

  -- ---- the next letter is handed out
  module _ (e : NodeData) (l : LetterData) (out : HandsOut d e l) where
    left_is : s.left ≡ e.outbox ++ l ∷ []
    left_is = sym (ap (λ (z : NodeData). z.outbox) d_is) ∙ out.last

    in_left : IsAmong l s.left
    in_left = subst (λ ls. IsAmong l ls) (sym left_is) ((among_push l e.outbox l).1 (inr refl))

    in_outbox : IsAmong l x.sender.outbox
    in_outbox = subst (λ (z : NodeData). IsAmong l z.outbox) sender_is (subst (λ ls. IsAmong l ls) (sym s.parts) (among_left l s.left s.handed in_left))

    not_sender : ¬ (l.to ≡ i)
    not_sender same = x.others (subst (λ c. IsAmong c (addressees x.sender.outbox)) same (among_map (λ (y : LetterData). y.to) l x.sender.outbox in_outbox))

    apart_parts : AreApart (addressees s.left ++ addressees s.handed)
    apart_parts = subst (λ js. AreApart js) (ap (λ (z : NodeData). addressees z.outbox) (sym sender_is) ∙ ap addressees s.parts ∙ map-append (λ (y : LetterData). y.to) s.left s.handed) x.apart

    not_handed : ¬ IsAmong l.to (addressees s.handed)
    not_handed = distinct_parts (addressees s.left) (addressees s.handed) l.to apart_parts (among_map (λ (y : LetterData). y.to) l s.left in_left)

    expected_before : IsExpected l before
    expected_before = x.each l in_outbox

    -- its addressee is as it was
    addressee_there : slice_get (slice_set nodes i e) l.to ≡ Some expected_before.node
    addressee_there =
        let (z, there) = slice_get_below nodes l.to (let b = slice_get_within before l.to expected_before.node expected_before.is_its in let long = s.one_each in omega (arith, b, long)) in
        let same : z ≡ expected_before.node = elim (s.each l.to expected_before.node z not_sender expected_before.is_its there) [
          | inl had ↦ let (y, among, to, is) = had in absurd (not_handed (subst (λ c. IsAmong c (addressees s.handed)) to (among_map (λ (y : LetterData). y.to) y s.handed among)))
          | inr none ↦ none.1
        ] in
        set_other nodes i l.to expected_before.node e not_sender (there ∙ ap (λ z. Some z) same)

    pub next_expected : IsExpected l (slice_set nodes i e)
    next_expected = record { node = expected_before.node; is_its = addressee_there; awaited = expected_before.awaited; going = expected_before.going; supply = expected_before.supply }

    -- of the sender only its letters have changed
    pub handed_same : map as_new (slice_set nodes i e) ≡ map as_new nodes
    handed_same = image_kept as_new nodes i d e at (ap as_new out.rest)

    e_is : e ≡ record s.sender { outbox = e.outbox }
    e_is = out.rest ∙ ap (λ (z : NodeData). record z { outbox = e.outbox }) d_is

    -- ---- and taken, whatever comes of it
    module _ (after : List NodeData) (sent : IsTakenIn l (slice_set nodes i e) after) where
      taken_by : (d' z : NodeData) → slice_get before l.to ≡ Some d' → z ≡ sent.now → HasTaken l d' z
      taken_by d' z was is =
          let node_is : sent.node ≡ d' =
          some_same (slice_get (slice_set nodes i e) l.to) sent.node expected_before.node sent.is_its addressee_there ∙ some_same (slice_get before l.to) expected_before.node d' expected_before.is_its was in
          subst (λ (n : NodeData). HasTaken l n z) node_is (subst (λ (n : NodeData). HasTaken l sent.node n) (sym is) sent.taken)

      -- one that has had its letter before
      had_before : (j : ℕ) (d' z : NodeData) → ¬ (j ≡ i) → HasHad s.handed j d' z → IsAmidDelivery i s.sender.outbox j d' z
      had_before j d' z differ (inl (y, among, to, is)) =
          let listed : IsAmong y s.sender.outbox = subst (λ ls. IsAmong y ls) (sym s.parts) (among_right y s.left s.handed among) in
          let supply = (x.each y (subst (λ (n : NodeData). IsAmong y n.outbox) sender_is listed)).supply in
          has_taken y differ listed to (inl (is ∙ sym (content_kept y y.content d'.state.halt d' supply)))
      had_before j d' z differ (inr none) = waits_on differ none.1

      amid : (j : ℕ) (d' z : NodeData) → slice_get before j ≡ Some d' → slice_get after j ≡ Some z → IsAmidDelivery i s.sender.outbox j d' z
      amid j d' z was there = elim (slice_get-slice_set (slice_set nodes i e) l.to j sent.now z (subst (λ (ns : List NodeData). slice_get ns j ≡ Some z) sent.after_is there)) [
        | inl here ↦ has_taken l (λ same. not_sender (sym here.0 ∙ same)) (subst (λ (n : NodeData). IsAmong l n.outbox) (sym sender_is) in_outbox) (sym here.0)
            (taken_by d' z (subst (λ c. slice_get before c ≡ Some d') here.0 was) here.1)
        | inr other ↦ elim (slice_get-slice_set nodes i j e z other.1) [
          | inl here ↦
              let first : s.sender ≡ d' = some_same (slice_get before i) s.sender d' s.is_its (subst (λ c. slice_get before c ≡ Some d') here.0 was) in
              is_sending here.0 (here.1 ∙ e_is ∙ ap (λ ls. record s.sender { outbox = ls }) (sym (ap (λ (n : NodeData). n.outbox) here.1)) ∙ ap (λ (n : NodeData). record n { outbox = z.outbox }) first)
          | inr other' ↦ had_before j d' z other'.0 (s.each j d' z other'.0 was other'.1)
        ]
      ]

      pub some_delivered : AreSomeDelivered i before after
      some_delivered = record {
        sender = s.sender;
        is_its = s.is_its;
        one_each = ap length sent.after_is ∙ length-slice_set (slice_set nodes i e) l.to sent.now ∙ length-slice_set nodes i e ∙ s.one_each;
        each = amid;
      }

    -- ---- and delivered
    module _ (after : List NodeData) (sent : IsDelivered l (slice_set nodes i e) after) where
      node_is : sent.node ≡ expected_before.node
      node_is = some_same (slice_get (slice_set nodes i e) l.to) sent.node expected_before.node sent.is_its addressee_there

      sender_now : slice_get after i ≡ Some e
      sender_now = subst (λ (ns : List NodeData). slice_get ns i ≡ Some e) (sym sent.after_is)
          (set_other (slice_set nodes i e) l.to i e (with_had l sent.node) (λ same. not_sender (sym same)) (set_there nodes i d e at))

      pub fewer_left : length (letters_of (slice_get after i)) < length (letters_of (slice_get nodes i))
      fewer_left = subst (λ o. length (letters_of o) < length (letters_of (slice_get nodes i))) (sym sender_now)
          (subst (λ o. length e.outbox < length (letters_of o)) (sym at) (let more = ap length out.last in omega (arith, more, length-append e.outbox (l ∷ []))))

      each_now : (j : ℕ) (d' z : NodeData) → ¬ (j ≡ i) → slice_get before j ≡ Some d' → slice_get after j ≡ Some z → HasHad (l ∷ s.handed) j d' z
      each_now j d' z differ was there = elim (slice_get-slice_set (slice_set nodes i e) l.to j (with_had l sent.node) z (subst (λ (ns : List NodeData). slice_get ns j ≡ Some z) sent.after_is there)) [
        | inl here ↦
            let same : expected_before.node ≡ d' = some_same (slice_get before j) expected_before.node d' (subst (λ c. slice_get before c ≡ Some expected_before.node) (sym here.0) expected_before.is_its) was in
            inl (l, inl refl, sym here.0, here.1 ∙ ap (λ n. with_had l n) (node_is ∙ same))
        | inr other ↦ elim (slice_get-slice_set nodes i j e z other.1) [
          | inl here ↦ absurd (differ here.0)
          | inr other' ↦ elim (s.each j d' z differ was other'.1) [
            | inl had ↦ let (y, among, to, is) = had in inl (y, inr among, to, is)
            | inr none ↦ inr (λ h. elim h [ inl to ↦ other.0 to | inr later ↦ none.0 later ], none.1)
          ]
        ]
      ]

      pub handing_more : IsHandingOut i before after
      handing_more = record {
        sender = s.sender;
        is_its = s.is_its;
        left = e.outbox;
        handed = l ∷ s.handed;
        parts = s.parts ∙ ap (λ ls. ls ++ s.handed) left_is ∙ append_assoc e.outbox (l ∷ []) s.handed;
        now = sender_now ∙ ap (λ z. Some z) e_is;
        one_each = ap length sent.after_is ∙ length-slice_set (slice_set nodes i e) l.to (with_had l sent.node) ∙ length-slice_set nodes i e ∙ s.one_each;
        each = each_now;
      }

  -- ---- none is left
  module _ (none : d.outbox ≡ []) where
    all_handed : s.sender.outbox ≡ s.handed
    all_handed = s.parts ∙ ap (λ ls. ls ++ s.handed) (sym (ap (λ (z : NodeData). z.outbox) d_is) ∙ none)

    pub all_delivered : AreDelivered i before nodes
    all_delivered = record {
      sender = s.sender;
      is_its = s.is_its;
      one_each = s.one_each;
      each = λ j d' z was there. elim (cases_eq j i) [
        | inl same ↦
            let first : s.sender ≡ d' = some_same (slice_get before i) s.sender d' s.is_its (subst (λ c. slice_get before c ≡ Some d') same was) in
            let last : z ≡ d = some_same (slice_get nodes i) z d (subst (λ c. slice_get nodes c ≡ Some z) same there) at in
            sends same (last ∙ d_is ∙ ap (λ ls. record s.sender { outbox = ls }) (sym (ap (λ (y : NodeData). y.outbox) d_is) ∙ none) ∙ ap (λ (y : NodeData). record y { outbox = [] }) first)
        | inr differ ↦ elim (s.each j d' z differ was there) [
          | inl had ↦ let (y, among, to, is) = had in has_had y differ (subst (λ ls. IsAmong y ls) (sym all_handed) among) to is
          | inr not ↦ stays differ (λ h. not.0 (subst (λ ls. IsAmong j (addressees ls)) all_handed h)) not.1
        ]
      ];
    }
