-- A node keeps the rule.
use Rattle.std.proofs.Common.{◌≡◌, ℕ, ◌<◌, Bool, true, false, List, [], ◌∷◌, map, Option, Some, None, refl, sym, ap, ◌∙◌, subst}
use Rattle.std.proofs.lemmas.Option.{none-some}
use Rattle.mcs_base.specs.Listings.{IsAmong, AreApart, IsInventory, IsListing}
use Rattle.mcs_base.proofs.Among.{among_map, map_among}
use Rattle.mcs_base.proofs.Distinct.{distinct_map}
use Rattle.mcs_system.specs.Plain.{System}
use Rattle.mcs_states.specs.Oracles.{OracleState}
use Rattle.mcs_node.specs.Rounds.{IsSentBy, IsSupplyTo, NodeState, ObeysRule, Round, Stamp, Supplies, finishes, is_stopped, stamp, stops, waits}
use Rattle.mcs_node.specs.Known.{Knowledge}
use Rattle.mcs_node.specs.Nodes.{IsNodeData, stamps_to}
use Rattle.mcs_node.specs.Keeping.{AreTold, HasEach, IsAtStage, IsInRound, IsNode, by_itself_in, done_in, granted_in, halt_in, put_out_in, stamps_had, state_in}
use Rattle.mcs_node.specs.declared.round.Had as had_code
use Rattle.mcs_node.specs.declared.round.Stage as stage_code
use Rattle.mcs_node.specs.declared.round.Stage.TheVariants.{Waits, Done, Stopped}
use Rattle.mcs_node.specs.declared.round.InRound as code
use Rattle.mcs_node.proofs.RuleLemmas.{sent_to}
use Rattle.mcs_node.proofs.BeginLemmas.{asked_so_far, known_so_far, node_in}
use Rattle.mcs_node.proofs.HandlingLemmas.{heard}

apart_back : {A B : Type 0} (f : A → B) (xs : List A) → AreApart (map f xs) → AreApart xs
apart_back f [] h = tt
apart_back f (x ∷ xs) h = (λ among. h.0 (among_map f x xs among), apart_back f xs h.1)

module _ (m : System) (i budget : ℕ) (o : OracleState) (receivers : List ℕ) (k : Knowledge) (before : Option ℕ) (listed : IsListing (Supplies m i) (λ a b. a < b) receivers) (r : code.InRound) (was : IsInRound m i budget o receivers k before r) where
  abbrev round : Round
  round = record { system = m; level = r.level; budget = budget; before = before }

  sent : (stop : Bool) → IsInventory (IsSentBy round i stop) (stamps_to r.level i stop receivers)
  sent stop = sent_to round i stop receivers listed

  abbrev stamp_had : had_code.Had → Stamp
  stamp_had h = stamp r.level h.from i h.stop

  had_each : AreTold m i r → HasEach r → IsInventory (IsSupplyTo round i) (stamps_had r.level i r.had.items)
  had_each told each = record {
    exactly = λ x. (
      λ h. let (had, among, is) = map_among stamp_had x r.had.items h in
          (had.from, was.had.each_supplies had.from (among_map (λ (h : had_code.Had). h.from) had r.had.items among), is ∙ ap (λ b. stamp r.level had.from i b) (told.no_stop had among)),
      λ (j, supplies, is). let (had, among, its) = map_among (λ (h : had_code.Had). h.from) j r.had.items (heard m i r was.had each j supplies) in
          let same : stamp_had had ≡ x = ap (λ b. stamp r.level had.from i b) (told.no_stop had among) ∙ ap (λ n. stamp r.level n i false) (sym its) ∙ sym is in
          subst (λ y. IsAmong y (stamps_had r.level i r.had.items)) same (among_map stamp_had had r.had.items among),
    );
    apart = distinct_map stamp_had r.had.items (λ x y a b same. ap (λ (z : Stamp). record { from = z.from; stop = z.stop }) same) (apart_back (λ (h : had_code.Had). h.from) r.had.items was.had.apart);
  }

  abbrev state_at : stage_code.Stage → NodeState
  state_at st = record { begun = true; had = stamps_had r.level i r.had.items; granted = granted_in st; put_out = put_out_in r.level i receivers st; done = done_in st; halt = halt_in st; by_itself = by_itself_in st }

  obeys_at : (st : stage_code.Stage) → IsAtStage m i budget o receivers k before r st → ObeysRule round i (state_at st)
  obeys_at Waits w = waits (record {
    granted = refl;
    no_stop = λ x h. let (had, among, is) = map_among stamp_had x r.had.items h in ap (λ (z : Stamp). z.stop) is ∙ w.told.no_stop had among;
    put_out = refl;
    done = refl;
    halt = refl;
    by_itself = refl;
  })
  obeys_at (Done total) w = finishes (record { granted = (total, refl, w.within); had = had_each w.told w.each; put_out = sent false; done = refl; halt = refl; by_itself = refl })
  obeys_at (Stopped granted halt true) w = stops (record { put_out = sent true; done = refl; cause = halt; own = w.cause; halt = refl; by_itself = refl })
  obeys_at (Stopped granted halt false) w = let (none, h, among, stop) = w.cause in is_stopped (record {
    letter = stamp_had h;
    had = among_map stamp_had h r.had.items among;
    stop = stop;
    granted = none;
    put_out = sent true;
    done = refl;
    cause = halt;
    halt = refl;
    by_itself = refl;
  })

  pub obeys : ObeysRule round i (state_in i receivers (Some r))
  obeys = obeys_at r.stage was.stage

-- ---- what holds of every node
pub node_data : (m : System) (i budget : ℕ) (o : OracleState) (receivers : List ℕ) (k : Knowledge) (before : Option ℕ) (there : Bool) (round : Option code.InRound) → IsNode m i budget o there receivers k before round → IsNodeData (node_in m i budget o receivers k before round)
node_data m i budget o receivers k before there None n = record {
  in_range = n.in_range;
  receivers = n.supplies;
  own = n.own;
  unbegun = λ _. refl;
  rule = λ level e. absurd (none-some level e);
  known = λ going. known_so_far m i budget o receivers k before None n.playing going;
  asked = λ going. asked_so_far m i budget o receivers k before None n.playing going;
}
node_data m i budget o receivers k before there (Some r) n = record {
  in_range = n.in_range;
  receivers = n.supplies;
  own = n.own;
  unbegun = λ e. absurd (none-some r.level (sym e));
  rule = λ level e. let same : r.level ≡ level = cc in subst (λ l. ObeysRule (record { system = m; level = l; budget = budget; before = before }) i (state_in i receivers (Some r))) same (obeys m i budget o receivers k before n.supplies r n.playing);
  known = λ going. known_so_far m i budget o receivers k before (Some r) n.playing going;
  asked = λ going. asked_so_far m i budget o receivers k before (Some r) n.playing going;
}
