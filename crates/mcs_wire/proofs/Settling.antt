-- What a wire comes to that is settled.
use Rattle.std.proofs.Common.{◌≡◌, ℕ, ◌+◌, ◌-◌, ◌≤◌, List, [], ◌++◌, length, take, sym, ap, ◌∙◌, subst, arith, append-nil, length-append}
use Rattle.mcs_node.specs.Letters.{LetterData}
use Rattle.mcs_wire.specs.declared.view.View.{View}
use Rattle.mcs_wire.specs.Bags.{AreTogether}
use Rattle.mcs_wire.specs.Wires.{after_join}
use Rattle.mcs_wire.specs.Ends.{IsSettled}
use Rattle.mcs_wire.proofs.Weights.{lengths_together, parts_together}
use Rattle.mcs_base.proofs.Lists.{take_but_last}

-- what the last end knows: what the address has sent, and what was taken from the inbox, with so many letters left
pub record IsEnd (a i z : View) (left : List LetterData) (sent count : ℕ) : Type 0 where
  pub few : count ≤ sent
  pub plan_is : z.plan ≡ a.plan
  pub sent_is : z.sent ≡ a.sent
  pub got_is : take (sent - count) z.taken ≡ i.taken
  pub settled : IsSettled z sent (sent - count) left

-- an address with all parts and the inbox were joined, and then the letters left were taken
pub ends : (a i v z : View) (left : List LetterData) (sent count : ℕ) → a.taken ≡ [] → i.sent ≡ [] → sent ≡ length a.sent → v ≡ after_join i a
    → (z.plan ≡ v.plan) × (z.sent ≡ v.sent) → z.taken ≡ v.taken ++ left → AreTogether z.taken [] z.sent → count ≡ length left → IsEnd a i z left sent count
ends a i v z left sent count none_taken none_sent sent_count joined kept taken_is t left_count =
    let all_sent : z.sent ≡ a.sent = kept.1 ∙ ap (λ (w : View). w.sent) joined ∙ ap (λ l. a.sent ++ l) none_sent ∙ append-nil a.sent in
    let all_taken : z.taken ≡ i.taken ++ left = taken_is ∙ ap (λ (w : View). w.taken ++ left) joined ∙ ap (λ l. (l ++ i.taken) ++ left) none_taken in
    let here : sent ≡ length z.sent = sent_count ∙ ap length (sym all_sent) in
    let long : sent ≡ length z.taken = omega (arith, here, lengths_together z.taken [] z.sent t) in
    let first : take (sent - count) z.taken ≡ i.taken = take_but_last i.taken left z.taken sent count all_taken long left_count in
    let lengths : length z.taken ≡ length i.taken + length left = ap length all_taken ∙ length-append i.taken left in
    record {
      few = omega (arith, long, lengths, left_count);
      plan_is = kept.0 ∙ ap (λ (w : View). w.plan) joined;
      sent_is = all_sent;
      got_is = first;
      settled = record {
        sent_is = here;
        got_is = omega (arith, long, lengths, left_count, ap length first);
        together = subst (λ l. AreTogether l left z.sent) (sym first) (parts_together i.taken left z.taken z.sent all_taken t);
      };
    }
