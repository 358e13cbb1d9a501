-- Ends of one wire, and what a step makes of what the code keeps of them.
use Rattle.std.proofs.Common.{◌≡◌, ℕ, ◌+◌, ◌-◌, ◌<◌, List, [], ◌∷◌, ◌++◌, length, refl, sym, ap, ◌∙◌, subst, arith, length-append}
use mathlib.Core.Option.{some}
use Rattle.atomic_table.specs.declared.badge.Badge.{Badge}
use Rattle.crossbeam_channel.specs.declared.flavors.array.Key.{Key}
use Rattle.crossbeam_channel.specs.declared.flavors.array.Doing.{Doing}
use Rattle.crossbeam_channel.specs.declared.flavors.array.Rows.{Rows}
use Rattle.crossbeam_channel.specs.Claims.{Pass, view, IsSeatAt}
use Rattle.crossbeam_channel.specs.Fifo.{Held}
use Rattle.mcs_system.specs.Plain.{System}
use Rattle.mcs_node.specs.Letters.{LetterData}
use Rattle.mcs_wire.specs.declared.view.View.{View}
use Rattle.mcs_wire.specs.Wires.{WireRule, inbox_view, after_join, after_send, after_split, after_take, split_off}
use Rattle.mcs_wire.specs.Ends.{HasBeenEmpty, IsAddress, IsInbox, inbox_of, wire_of}
use Rattle.mcs_wire.specs.Steps.{IsPossible}

module _ {Q M L A : Type 0} (c : Rows (Badge (Key LetterData)) (Doing LetterData View) Q M (Key LetterData) L A) where
  -- a pass of an end of the same wire is one of this channel
  pub at_channel : (d : Rows (Badge (Key LetterData)) (Doing LetterData View) Q M (Key LetterData) L A) (v w : View) (p q : Pass LetterData View) → wire_of d w ≡ wire_of c v → IsSeatAt c p → IsSeatAt d q → IsSeatAt c q
  at_channel d v w p q same here (table, key, empty, keyed) = (table ∙ ap (λ x. x.channel.turns) same, key ∙ ap (λ x. x.channel.letters) same, empty, here.3)

  pub address_sends : (p q : Pass LetterData View) (x : LetterData) (parts sent : ℕ) → IsAddress c p parts sent → IsSeatAt c q → view q ≡ after_send x (view p) → IsAddress c q parts (sent + 1)
  address_sends p q x parts sent is at e = record {
    at = at;
    reads = ap (λ v. v.reads) e ∙ is.reads;
    taken = ap (λ v. v.taken) e ∙ is.taken;
    parts_is = omega (arith, is.parts_is, ap (λ v. v.parts) e);
    some_part = is.some_part;
    sent_is = omega (arith, is.sent_is, ap (λ v. length v.sent) e, length-append (view p).sent (x ∷ []));
  }

  pub address_splits : (p q : Pass LetterData View) (parts sent : ℕ) → IsAddress c p parts sent → IsSeatAt c q → view q ≡ after_split (view p) → 1 < parts → IsAddress c q (parts - 1) sent
  address_splits p q parts sent is at e two = record {
    at = at;
    reads = ap (λ v. v.reads) e ∙ is.reads;
    taken = ap (λ v. v.taken) e ∙ is.taken;
    parts_is = omega (arith, is.parts_is, ap (λ v. v.parts) e);
    some_part = omega (arith, two);
    sent_is = is.sent_is ∙ ap (λ v. length v.sent) (sym e);
  }

  pub address_is_new : (p q : Pass LetterData View) → IsSeatAt c q → view q ≡ split_off (view p) → IsAddress c q 1 0
  address_is_new p q at e = record {
    at = at;
    reads = ap (λ v. v.reads) e;
    taken = ap (λ v. v.taken) e;
    parts_is = omega (arith, ap (λ v. v.parts) e);
    some_part = omega arith;
    sent_is = omega (arith, ap (λ v. length v.sent) e);
  }

  pub address_joins : (d : Rows (Badge (Key LetterData)) (Doing LetterData View) Q M (Key LetterData) L A) (p q r : Pass LetterData View) (parts sent others sent_there : ℕ) → IsAddress c p parts sent → IsAddress d q others sent_there → IsSeatAt c r
      → view r ≡ after_join (view q) (view p) → IsAddress c r (parts + others) (sent + sent_there)
  address_joins d p q r parts sent others sent_there is its at e = record {
    at = at;
    reads = omega (arith, ap (λ v. v.reads) e, is.reads, its.reads);
    taken = ap (λ v. v.taken) e ∙ ap (λ l. l ++ (view q).taken) is.taken ∙ its.taken;
    parts_is = omega (arith, ap (λ v. v.parts) e, is.parts_is, its.parts_is);
    some_part = omega (arith, is.some_part);
    sent_is = omega (arith, ap (λ v. length v.sent) e, is.sent_is, its.sent_is, length-append (view p).sent (view q).sent);
  }

  pub inbox_takes : (p q : Pass LetterData View) (x : LetterData) → IsInbox c p → IsSeatAt c q → view q ≡ after_take x (view p) → IsInbox c q
  inbox_takes p q x is at e = record { at = at; reads = ap (λ v. v.reads) e ∙ is.reads; parts = ap (λ v. v.parts) e ∙ is.parts; sent = ap (λ v. v.sent) e ∙ is.sent }

  -- a look that found nothing
  pub was_empty : (p : Pass LetterData View) → IsInbox c p → Held 0 (IsPossible (view p)) → HasBeenEmpty (inbox_of c (view p))
  was_empty p is (queue, none, possible) =
      let v = view p in
      let kept = possible.kept in
      let own = (kept.rule.each possible.port v possible.at).names (omega (arith, is.reads)) in
      let seen : v ≡ inbox_view v.plan v.addresses v.taken = λ i. record { reads = is.reads i; plan = v.plan; addresses = v.addresses; parts = is.parts i; sent = is.sent i; taken = v.taken } in
      record {
        views = possible.views;
        port = possible.port;
        at = possible.at ∙ ap some seen;
        rule = subst (λ (l : List LetterData). WireRule v.plan v.addresses l possible.views) (nothing queue none)
            (subst (λ (n : ℕ). WireRule v.plan n queue possible.views) (sym own.1) (subst (λ (m : System). WireRule m kept.addresses queue possible.views) (sym own.0) kept.rule));
      }
    where
      nothing : (xs : List LetterData) → length xs ≡ 0 → xs ≡ []
      nothing [] e = refl
      nothing (x ∷ xs) e = absurd (omega (arith, e))
