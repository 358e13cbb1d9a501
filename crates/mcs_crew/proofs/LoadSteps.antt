-- What the calls of a load make of it, and that none of its letters was ignored once its nodes have finished.
use Rattle.std.proofs.Common.{◌≡◌, ℕ, ◌+◌, ◌<◌, ◌∙◌, suc, false, List, [], ◌∷◌, ◌++◌, map, length, length-append, Some, slice_get, refl, ap, subst, sym, inl, inr, ◌⊎◌, arith}
use Rattle.std.proofs.lemmas.List.{length-map}
use Rattle.std.proofs.lemmas.List.Sums.{sum_by-append, sum_by-cons}
use Rattle.std.specs.List.{sum_by}
use Rattle.mcs_base.specs.Listings.{IsAmong, AreApart}
use Rattle.mcs_base.proofs.Among.{among_map, map_among}
use Rattle.mcs_base.proofs.Distinct.{distinct_fits, distinct_map}
use Rattle.mcs_base.proofs.Placed.{sum_images}
use Rattle.mcs_base.proofs.Sums.{sum_by-ones}
use Rattle.mcs_system.specs.Plain.{System}
use Rattle.mcs_system.specs.Imports.{IsImportOrder, supplied}
use Rattle.mcs_system.proofs.ContextSets.{supplied_apart}
use Rattle.mcs_import.proofs.OrderLemmas.{import_order_exists}
use Rattle.mcs_node.specs.Rounds.{Finishes, IsSupplyTo, Round, Stamp, stamp}
use Rattle.mcs_node.specs.Letters.{LetterData, stamp_of}
use Rattle.mcs_node.specs.Nodes.{NodeData}
use Rattle.mcs_node.proofs.SupplyLemmas.{supplied_by}
use Rattle.mcs_mesh.specs.Players.{as_new}
use Rattle.mcs_wire.specs.Ends.{InboxData, with_taken}
use Rattle.mcs_crew.specs.Laws.{NoneIsIgnored}
use Rattle.mcs_crew.specs.Loads.{IsAtWork, LoadData, Worked, all_awaited}
use Rattle.mcs_crew.specs.Teams.{GoesOn, HasHadNone, HasHadOne}
use Rattle.mcs_crew.specs.Weights.{by_stamp, had_weight, stamps_weight}
use Rattle.mcs_crew.proofs.TeamSteps.{goes_on_more, goes_on_none}

-- the nodes await as many letters, whatever a round changes
awaited_same : (m : System) (order : List ℕ) (xs ys : List NodeData) → map as_new xs ≡ map as_new ys → all_awaited m order xs ≡ all_awaited m order ys
awaited_same m order xs ys same = sum_images (λ (d : NodeData). length (supplied m order d.context)) as_new xs ys same

-- ---- the begin
pub worked_begun : (was load : LoadData) → GoesOn was.team load.team → HasHadNone was.team load.team → load.inbox ≡ was.inbox → load.left ≡ was.left → Worked was load
worked_begun was load team none inbox left = record {
  team = team;
  wire = ap (λ (i : InboxData). i.wire) inbox;
  at_work = λ r asked w. record {
    team = team.team r asked w.team;
    plan = ap (λ (i : InboxData). i.wire.plan) inbox ∙ w.plan;
    ignored = w.ignored;
    balance = λ weight. (
        let taken = ap (λ (i : InboxData). stamps_weight weight i.taken) inbox in
        let same = none weight in
        let balance = w.balance weight in
        omega (arith, taken, same, balance));
    counted = λ order ordered. (
        let taken = ap (λ (i : InboxData). length i.taken) inbox in
        let same = awaited_same r.system order load.team.nodes was.team.nodes team.same in
        let counted = w.counted order ordered in
        omega (arith, taken, left, same, counted));
  };
}

-- ---- a letter more
module _ (was load : LoadData) (l : LetterData) (team : GoesOn was.team load.team) (inbox : load.inbox ≡ with_taken l was.inbox) (left : load.left + 1 ≡ was.left) where
  taken_more : (weight : Stamp → ℕ) → stamps_weight weight load.inbox.taken ≡ stamps_weight weight was.inbox.taken + weight (stamp_of l)
  taken_more weight =
      let is = ap (λ (i : InboxData). stamps_weight weight i.taken) inbox in
      let parts = sum_by-append (by_stamp weight) was.inbox.taken (l ∷ []) in
      let one = sum_by-cons (by_stamp weight) l [] in
      omega (arith, is, parts, one)

  ignored_more : (weight : Stamp → ℕ) (ignored : List LetterData) → stamps_weight weight (ignored ++ l ∷ []) ≡ stamps_weight weight ignored + weight (stamp_of l)
  ignored_more weight ignored =
      let parts = sum_by-append (by_stamp weight) ignored (l ∷ []) in
      let one = sum_by-cons (by_stamp weight) l [] in
      omega (arith, parts, one)

  counted_more : (r : Round) (asked : ℕ) → IsAtWork r asked was → (order : List ℕ) → IsImportOrder r.system order → length load.inbox.taken + load.left ≡ all_awaited r.system order load.team.nodes
  counted_more r asked w order ordered =
      let taken = ap (λ (i : InboxData). length i.taken) inbox in
      let longer = length-append was.inbox.taken (l ∷ []) in
      let same = awaited_same r.system order load.team.nodes was.team.nodes team.same in
      let counted = w.counted order ordered in
      omega (arith, taken, longer, left, same, counted)

  at_work_more : (r : Round) (asked : ℕ) → HasHadOne l was.team load.team ⊎ HasHadNone was.team load.team → IsAtWork r asked was → IsAtWork r asked load
  at_work_more r asked (inl one) w = record {
    team = team.team r asked w.team;
    plan = ap (λ (i : InboxData). i.wire.plan) inbox ∙ w.plan;
    ignored = w.ignored;
    balance = λ weight. (let more = taken_more weight in let had = one weight in let balance = w.balance weight in omega (arith, more, had, balance));
    counted = counted_more r asked w;
  }
  at_work_more r asked (inr none) w = record {
    team = team.team r asked w.team;
    plan = ap (λ (i : InboxData). i.wire.plan) inbox ∙ w.plan;
    ignored = w.ignored ++ l ∷ [];
    balance = λ weight. (
        let more = taken_more weight in let had = none weight in let balance = w.balance weight in let ignored = ignored_more weight w.ignored in
        omega (arith, more, had, balance, ignored));
    counted = counted_more r asked w;
  }

  pub worked_more : HasHadOne l was.team load.team ⊎ HasHadNone was.team load.team → Worked was load
  worked_more had = record {
    team = team;
    wire = ap (λ (i : InboxData). i.wire) inbox;
    at_work = λ r asked w. at_work_more r asked had w;
  }

-- ---- one after the other
pub worked_none : (load : LoadData) → Worked load load
worked_none load = record { team = goes_on_none load.team; wire = refl; at_work = λ r asked w. w }

pub worked_on : (a b c : LoadData) → Worked a b → Worked b c → Worked a c
worked_on a b c h k = record {
  team = goes_on_more a.team b.team c.team h.team k.team;
  wire = k.wire ∙ h.wire;
  at_work = λ r asked w. k.at_work r asked (h.at_work r asked w);
}

-- ---- none is ignored
-- a node that has finished has had as many letters as there are contexts that supply it
had_count : (r : Round) (i : ℕ) (had : List Stamp) (order : List ℕ) → IsImportOrder r.system order → i < length r.system.contexts → ((x : Stamp) → IsAmong x had → IsSupplyTo r i x) → ((x : Stamp) → IsSupplyTo r i x → IsAmong x had) → AreApart had
    → length had ≡ length (supplied r.system order i)
had_count r i had order ordered low from to apart =
    let stamp_from : ℕ → Stamp = λ j. stamp r.level j i false in
    let stamps : List Stamp = map stamp_from (supplied r.system order i) in
    let long : length stamps ≡ length (supplied r.system order i) = length-map (supplied r.system order i) stamp_from in
    let less = distinct_fits had stamps apart (λ x among. (let (j, supplies, is) = from x among in
    subst (λ (y : Stamp). IsAmong y stamps) (sym is) (among_map stamp_from j (supplied r.system order i) (supplied_by r.system order i j ordered supplies)))) in
    let more = distinct_fits stamps had (distinct_map stamp_from (supplied r.system order i) (λ a b x y same. ap (λ (z : Stamp). z.from) same) (supplied_apart r.system order i ordered))
    (λ x among. (let (j, there, is) = map_among stamp_from x (supplied r.system order i) among in to x (j, (order, ordered, low, there), is))) in
    omega (arith, long, less, more)

had_all : (r : Round) (order : List ℕ) → IsImportOrder r.system order → (nodes : List NodeData) → ((p : ℕ) (d : NodeData) → slice_get nodes p ≡ Some d → (d.context < length r.system.contexts) × Finishes r d.context d.state)
    → had_weight (λ (s : Stamp). 1) nodes ≡ all_awaited r.system order nodes
had_all r order ordered [] all = refl
had_all r order ordered (d ∷ nodes) all =
    let (low, f) = all 0 d refl in
    let here = had_count r d.context d.state.had order ordered low (λ x h. (f.had.exactly x).0 h) (λ x h. (f.had.exactly x).1 h) f.had.apart in
    let rest = had_all r order ordered nodes (λ p e at. all (suc p) e at) in
    omega (arith, here, rest, sum_by-ones d.state.had, sum_by-cons (λ (x : NodeData). sum_by (λ (s : Stamp). 1) x.state.had) d nodes, sum_by-cons (λ (x : NodeData). length (supplied r.system order x.context)) d nodes)

weight_none : (weight : Stamp → ℕ) (letters : List LetterData) → length letters ≡ 0 → stamps_weight weight letters ≡ 0
weight_none weight [] none = refl
weight_none weight (l ∷ letters) none = absurd (omega (arith, none))

pub none_is_ignored : NoneIsIgnored
none_is_ignored r asked load w finished =
    let (order, ordered) = import_order_exists r.system in
    let had = had_all r order ordered load.team.nodes (λ p d at. ((w.team.nodes p d at).in_range, finished p d at)) in
    let counted = w.counted order ordered in
    let ones = w.balance (λ (s : Stamp). 1) in
    let taken = sum_by-ones load.inbox.taken in
    let ignored = sum_by-ones w.ignored in
    let none : length w.ignored ≡ 0 = omega (arith, had, counted, ones, taken, ignored) in (
      omega (arith, had, counted, ones, taken, ignored),
      λ weight. (let balance = w.balance weight in let nothing = weight_none weight w.ignored none in omega (arith, balance, nothing)),
    )
