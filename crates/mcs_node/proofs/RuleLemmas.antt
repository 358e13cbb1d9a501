-- What the rule of a node says of its letters.
use Rattle.std.proofs.Common.{◌≡◌, ℕ, ◌<◌, Bool, true, false, true≢false, List, sym, ap, ◌∙◌, subst}
use Rattle.mcs_base.specs.Listings.{IsAmong, AreApart, IsInventory, IsListing}
use Rattle.mcs_base.proofs.Among.{among_map, map_among}
use Rattle.mcs_base.proofs.Distinct.{ascending_distinct, distinct_map}
use Rattle.mcs_node.specs.Rounds.{Supplies, Stamp, stamp, Round, NodeState, IsSentBy, Finishes, ObeysRule, waits, finishes, is_stopped, stops}
use Rattle.mcs_node.specs.Configurations.{Configuration, HasNode, IsFromSender, IsPutOut, IsSound}
use Rattle.mcs_node.specs.Nodes.{stamps_to}

-- a stamp to each context that it supplies
pub sent_to : (r : Round) (i : ℕ) (stop : Bool) (js : List ℕ) → IsListing (Supplies r.system i) (λ a b. a < b) js → IsInventory (IsSentBy r i stop) (stamps_to r.level i stop js)
sent_to r i stop js listed = record {
  exactly = λ x. (
    λ h. let (j, among, is) = map_among (λ j. stamp r.level i j stop) x js h in (j, (listed.exactly j).0 among, is),
    λ (j, supplies, is). subst (λ y. IsAmong y (stamps_to r.level i stop js)) (sym is) (among_map (λ j. stamp r.level i j stop) j js ((listed.exactly j).1 supplies)),
  );
  apart = distinct_map (λ j. stamp r.level i j stop) js (λ x y a b same. ap (λ (z : Stamp). z.to) same) (ascending_distinct js listed.ascending);
}

-- what a node puts out goes from it to one that it supplies
pub put_out_sent : (r : Round) (i : ℕ) (s : NodeState) (x : Stamp) → ObeysRule r i s → IsAmong x s.put_out → (stop : Bool) × IsSentBy r i stop x
put_out_sent r i s x (waits w) h = absurd (subst (λ (l : List Stamp). IsAmong x l) w.put_out h)
put_out_sent r i s x (finishes f) h = (false, (f.put_out.exactly x).0 h)
put_out_sent r i s x (is_stopped w) h = (true, (w.put_out.exactly x).0 h)
put_out_sent r i s x (stops w) h = (true, (w.put_out.exactly x).0 h)

pub put_out_from : (r : Round) (i : ℕ) (s : NodeState) (x : Stamp) → ObeysRule r i s → IsAmong x s.put_out → x.from ≡ i
put_out_from r i s x rule h = let p = put_out_sent r i s x rule h in ap (λ (y : Stamp). y.from) p.1.2

-- each stamp once
pub put_out_apart : (r : Round) (i : ℕ) (s : NodeState) → ObeysRule r i s → AreApart s.put_out
put_out_apart r i s (waits w) = subst (λ (l : List Stamp). AreApart l) (sym w.put_out) tt
put_out_apart r i s (finishes f) = f.put_out.apart
put_out_apart r i s (is_stopped w) = w.put_out.apart
put_out_apart r i s (stops w) = w.put_out.apart

-- a done node has finished
pub done_finishes : (r : Round) (i : ℕ) (s : NodeState) → ObeysRule r i s → s.done ≡ true → Finishes r i s
done_finishes r i s (waits w) done = absurd (true≢false (sym done ∙ w.done))
done_finishes r i s (finishes f) done = f
done_finishes r i s (is_stopped w) done = absurd (true≢false (sym done ∙ w.done))
done_finishes r i s (stops w) done = absurd (true≢false (sym done ∙ w.done))

-- in a sound configuration the node that a letter comes from has put it out
pub letter_from_sender : (r : Round) (c : Configuration) → IsSound r c → (x : Stamp) → IsPutOut c x → IsFromSender c x
letter_from_sender r c sound x (i, s, at, h) =
    let from : x.from ≡ i = put_out_from r i s x (sound.nodes i s at).rule h in
    (s, subst (λ (k : ℕ). HasNode c k s) (sym from) at, h)

-- and it goes to a context that this one supplies
pub letter_supplies : (r : Round) (c : Configuration) → IsSound r c → (x : Stamp) → IsFromSender c x → Supplies r.system x.from x.to
letter_supplies r c sound x (s, at, h) =
    let p = put_out_sent r x.from s x (sound.nodes x.from s at).rule h in
    subst (λ (k : ℕ). Supplies r.system x.from k) (sym (ap (λ (y : Stamp). y.to) p.1.2)) p.1.1
