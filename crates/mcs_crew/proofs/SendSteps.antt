-- The letters of one node, which are sent one after the other.
use Rattle.std.proofs.Common.{◌≡◌, ℕ, ◌+◌, ◌-◌, ◌^◌, ◌<◌, List, [], ◌∷◌, ◌++◌, map, length, length-append, append_assoc, append-nil, Some, slice_get, slice_set, refl, sym, ap, ◌∙◌, subst, inr, arith}
use Rattle.std.proofs.lemmas.List.Sums.{sum_by-append, sum_by-cons}
use Rattle.std.specs.List.{sum_by}
use Rattle.mcs_base.specs.Listings.{IsAmong}
use Rattle.mcs_base.proofs.Among.{among_get, among_left, among_push}
use Rattle.mcs_base.proofs.Sums.{sum_by-ones}
use Rattle.mcs_node.specs.Letters.{LetterData}
use Rattle.mcs_node.specs.Nodes.{HandsOut, NodeData}
use Rattle.mcs_wire.specs.Ends.{AddressData, with_sent}
use Rattle.mcs_crew.specs.Teams.{AreNamed, HaveSent, unsent}
use Rattle.mcs_crew.specs.Weights.{sent_weight}
use Rattle.mcs_base.proofs.Placed.{same_at, sum_among, sum_set}
use Rattle.mcs_base.proofs.Written.{image_kept}

-- some of the letters were handed out and sent
pub record IsSending (first node : NodeData) (before now : List AddressData) : Type 0 where
  pub handed : List LetterData
  pub parts : first.outbox ≡ node.outbox ++ handed
  pub rest : node ≡ record first { outbox = node.outbox }
  pub same : map unsent now ≡ map unsent before
  pub sent : (weight : LetterData → ℕ) → sent_weight weight now ≡ sent_weight weight before + sum_by weight handed

pub sending_begun : (first : NodeData) (before : List AddressData) → IsSending first first before before
sending_begun first before = record { handed = []; parts = sym (append-nil first.outbox); rest = refl; same = refl; sent = λ weight. omega arith }

module _ (first node next : NodeData) (before now : List AddressData) (s : IsSending first node before now) (l : LetterData) (out : HandsOut node next l) where
  -- the letter is one of those that were put out
  was_out : IsAmong l first.outbox
  was_out = subst (λ (ls : List LetterData). IsAmong l ls) (sym s.parts) (among_left l node.outbox s.handed (subst (λ (ls : List LetterData). IsAmong l ls) (sym out.last) ((among_push l next.outbox l).1 (inr refl))))

  pub fewer : length next.outbox < length node.outbox
  fewer = let long = ap (λ (ls : List LetterData). length ls) out.last in omega (arith, long, length-append next.outbox (l ∷ []))

  module _ (g : ℕ) (a : AddressData) (at : slice_get now g ≡ Some a) where
    pub may_name : AreNamed first.outbox before → l.plan ≡ a.wire.plan
    may_name named =
        let (b, there, same) = same_at unsent now before s.same g a at in
        named g b there l was_out ∙ ap (λ (z : AddressData). z.wire.plan) same

    pub may_send : sent_weight (λ _. 1) before + length first.outbox < 2 ^ 62 → length a.sent < 2 ^ 63 - 1
    may_send few =
        let ones = s.sent (λ _. 1) in
        let handed = sum_by-ones s.handed in
        let long = ap (λ (ls : List LetterData). length ls) s.parts in
        let more = length-append node.outbox s.handed in
        let one = sum_among (λ (b : AddressData). sum_by (λ _. 1) b.sent) now a (among_get a now g at) in
        let mine = sum_by-ones a.sent in
        omega (arith, few, ones, handed, long, more, one, mine)

    pub sending_more : (b : AddressData) → b ≡ with_sent l a → IsSending first next before (slice_set now g b)
    sending_more b is = record {
      handed = l ∷ s.handed;
      parts = s.parts ∙ ap (λ (ls : List LetterData). ls ++ s.handed) out.last ∙ append_assoc next.outbox (l ∷ []) s.handed;
      rest = out.rest ∙ ap (λ (z : NodeData). record z { outbox = next.outbox }) s.rest;
      same = image_kept unsent now g a b at (ap unsent is) ∙ s.same;
      sent = λ weight. (
          let changed = sum_set (λ (x : AddressData). sum_by weight x.sent) now g a b at in
          let mine = ap (λ (x : AddressData). sum_by weight x.sent) is in
          let longer = sum_by-append weight a.sent (l ∷ []) in
          let one = sum_by-cons weight l [] in
          let was = s.sent weight in
          let all = sum_by-cons weight l s.handed in
          omega (arith, changed, mine, longer, one, was, all));
    }

-- all were sent
module _ (first node next : NodeData) (before now : List AddressData) (s : IsSending first node before now) (none : node.outbox ≡ []) (same : next ≡ node) where
  pub sent_out : next ≡ record first { outbox = [] }
  sent_out = same ∙ s.rest ∙ ap (λ (ls : List LetterData). record first { outbox = ls }) none

  pub have_sent : HaveSent first.outbox before now
  have_sent = record {
    same = s.same;
    sent = λ weight. (let was = s.sent weight in let all = ap (sum_by weight) (s.parts ∙ ap (λ (ls : List LetterData). ls ++ s.handed) none) in omega (arith, was, all));
  }
