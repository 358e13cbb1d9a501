-- A round by groups, from its equipment to what is told of it.
use Rattle.std.proofs.Common.{◌≡◌, ℕ, zero, suc, Result, ◌+◌, ◌*◌, ◌%◌, ◌<◌, ◌≤◌, List, [], ◌∷◌, ◌++◌, map, take, drop, length, length-append, replicate, Some, slice_get, slice_set, refl, sym, ap, ◌∙◌, subst, arith}
use Rattle.std.proofs.lemmas.List.{append_assoc, length-map}
use Rattle.std.proofs.lemmas.Simd.{map-map}
use Rattle.std.proofs.lemmas.Option.{slice_get_within}
use Rattle.std.specs.List.{AllByRecursion, AllZip}
use Rattle.mcs_base.proofs.Lists.{length_same_images, length_zip, map_slice_get, slice_get-map_some, slice_get_below}
use Rattle.mcs_base.proofs.Among.{get_among}
use Rattle.mcs_base.proofs.Each.{all_from_among}
use Rattle.mcs_base.proofs.Written.{map-slice_set, written_back}
use Rattle.mcs_system.specs.Plain.{System}
use Rattle.mcs_system.specs.Faults.{IsValid}
use Rattle.mcs_node.specs.Nodes.{NodeData, begun_at}
use Rattle.mcs_states.specs.declared.halt.Halt.{Halt}
use Rattle.mcs_mesh.specs.Players.{IsReadyRound, as_new}
use Rattle.mcs_draw.specs.Seats.{ClosedData, DrawData, SeatData}
use Rattle.mcs_wire.specs.Ends.{AddressData, InboxData, SettledData, WireData}
use Rattle.mcs_crew.specs.declared.load.Load.{Load}
use Rattle.mcs_crew.specs.Calls.{load_of, nodes_in, without_nodes}
use Rattle.mcs_crew.specs.Children.{HasWorked, IsGiven}
use Rattle.mcs_base.specs.Groups.{AreShapedAs, grouped}
use Rattle.mcs_crew.specs.Hubs.{Brings, CanEnd, HaveEnded, IsEquipment, IsNewLoad, with_parts}
use Rattle.mcs_crew.specs.Loads.{IsAtWork, LoadData, Worked, emptied}
use Rattle.mcs_mesh.specs.Rounds.{round_of}
use Rattle.mcs_crew.specs.Rounds.{HaveBeenPlayed, IsTold}
use Rattle.mcs_crew.specs.Teams.{seat_room, unsent}
use Rattle.mcs_crew.specs.Trails.{IsShown, IsTrail, TrailData, group_count, shared}
use Rattle.mcs_base.proofs.GroupLemmas.{IsCollecting, collecting_begun, collecting_ends, collecting_more, collecting_some, dealt_more, grouped_short}
use Rattle.mcs_base.proofs.Placed.{same_at, zip_back}
use Rattle.mcs_crew.proofs.RoundLemmas.{have_been_played, same_back, work_begun}
use Rattle.mcs_crew.proofs.TeamSteps.{few_each}

-- ---- loads without nodes
pub made_empty : {O : Type 0} (loads : List (Load O)) → ((k : ℕ) (l : Load O) → slice_get loads k ≡ Some l → l.team.nodes.items ≡ []) → nodes_in loads ≡ replicate (length loads) []
made_empty [] none = refl
made_empty (l ∷ loads) none = ap (λ (ns : List NodeData). ns ∷ nodes_in loads) (none 0 l refl) ∙ ap (λ (nss : List (List NodeData)). [] ∷ nss) (made_empty loads (λ k x at. none (suc k) x at))

-- those of new equipment are
pub equipment_empty : {O : Type 0} (m : System) (w asked : ℕ) (draw : DrawData) (hub : List AddressData) (seat : SeatData) (made : List (Load O)) → IsEquipment m w asked draw hub seat (map load_of made) → nodes_in made ≡ replicate (length made) []
equipment_empty m w asked draw hub seat made equipment = made_empty made (λ k l at. (
    let (i, inbox) = slice_get_below equipment.inboxes k (let within = slice_get_within made k l at in let many = length-map made load_of in let each = equipment.new.one_each in let long = equipment.long in omega (arith, within, many, each, long)) in
    (equipment.new.each k i (load_of l) inbox (slice_get-map_some load_of made k l at)).nodes))

-- what holds of all holds after a change at one place
pub all_set : {A : Type 0} (P : A → Type 0) (xs : List A) (i : ℕ) (y : A) → AllByRecursion P xs → P y → AllByRecursion P (slice_set xs i y)
all_set P [] i y all here = all
all_set P (x ∷ xs) zero y all here = (here, all.1)
all_set P (x ∷ xs) (suc i) y all here = (all.0, all_set P xs i y all.1 here)

-- ---- nodes that are dealt
-- so many nodes are left, and the others were dealt
abbrev pub AreDealt : {O : Type 0} → ℕ → List NodeData → List NodeData → List (Load O) → Type 0
AreDealt w first now loads = (part : List NodeData) × (first ≡ now ++ part) × (nodes_in loads ≡ grouped w (length now) part)

module _ {O : Type 0} (w k g : ℕ) (x : NodeData) (first before now : List NodeData) (loads : List (Load O)) (d e : Load O) (at : slice_get loads g ≡ Some d) (group : g ≡ k % w)
    (last : before ≡ now ++ x ∷ []) (place : k ≡ length now) (dealt : AreDealt w first before loads) where
  there : slice_get (nodes_in loads) (k % w) ≡ Some d.team.nodes.items
  there = subst (λ (n : ℕ). slice_get (nodes_in loads) n ≡ Some d.team.nodes.items) group (slice_get-map_some (λ (l : Load O). l.team.nodes.items) loads g d at)

  pub dealt_on : e.team.nodes.items ≡ d.team.nodes.items ++ x ∷ [] → AreDealt w first now (slice_set loads g e)
  dealt_on more =
      let (part, all, groups) = dealt in (
        x ∷ part,
        all ∙ ap (λ (ns : List NodeData). ns ++ part) last ∙ append_assoc now (x ∷ []) part,
        map-slice_set (λ (l : Load O). l.team.nodes.items) loads g e
            ∙ ap (slice_set (nodes_in loads) g) more
            ∙ ap (λ (n : ℕ). slice_set (nodes_in loads) n (d.team.nodes.items ++ x ∷ [])) group
            ∙ dealt_more w k x part before now (nodes_in loads) d.team.nodes.items last place groups there,
      )

  -- the group has fewer nodes than there are
  pub dealt_room : length d.team.nodes.items < length first
  dealt_room =
      let (part, all, groups) = dealt in
      let short = grouped_short w (length before) part (k % w) d.team.nodes.items (subst (λ (nss : List (List NodeData)). slice_get nss (k % w) ≡ Some d.team.nodes.items) groups there) in
      let long = ap (λ (ns : List NodeData). length ns) all in
      let more = length-append before part in
      let one = ap (λ (ns : List NodeData). length ns) last in
      let pushed = length-append now (x ∷ []) in
      omega (arith, short, long, more, one, pushed)

pub dealt_none : {O : Type 0} (w : ℕ) (first : List NodeData) (loads : List (Load O)) → nodes_in loads ≡ replicate w [] → AreDealt w first first loads
dealt_none w first loads empty = ([], none first, empty)
  where
    none : (ns : List NodeData) → ns ≡ ns ++ []
    none [] = refl
    none (n ∷ ns) = ap (λ (l : List NodeData). n ∷ l) (none ns)

pub dealt_all : {O : Type 0} (w : ℕ) (first now : List NodeData) (loads : List (Load O)) → now ≡ [] → AreDealt w first now loads → nodes_in loads ≡ grouped w 0 first
dealt_all w first now loads none (part, all, groups) =
    groups
    ∙ ap (λ (ns : List NodeData). grouped w (length ns) part) none
    ∙ ap (grouped w 0) (sym (all ∙ ap (λ (ns : List NodeData). ns ++ part) none))

-- ---- nodes that are collected
-- so many were collected of groups that have the shape of these nodes
abbrev pub AreCollected : {O : Type 0} → ℕ → ℕ → List (Load O) → List (Load O) → List NodeData → ℕ → Type 0
AreCollected w contexts first loads collected i = (was : List NodeData) → length was ≡ contexts → AreShapedAs (grouped w 0 was) (nodes_in first) → IsCollecting w was (nodes_in first) (nodes_in loads) collected i

module _ {O : Type 0} (w contexts g : ℕ) (some : 0 < w) (first loads : List (Load O)) (collected : List NodeData) (i : ℕ) (d e : Load O) (at : slice_get loads g ≡ Some d) (group : g ≡ i % w) (less : i < contexts)
    (all : AreCollected w contexts first loads collected i) where
  its_nodes : slice_get (nodes_in loads) (i % w) ≡ Some d.team.nodes.items
  its_nodes = subst (λ (n : ℕ). slice_get (nodes_in loads) n ≡ Some d.team.nodes.items) group (slice_get-map_some (λ (l : Load O). l.team.nodes.items) loads g d at)

  pub collected_some : (was : List NodeData) → length was ≡ contexts → AreShapedAs (grouped w 0 was) (nodes_in first) → 0 < length d.team.nodes.items
  collected_some was long shape = collecting_some w some was (nodes_in first) (nodes_in loads) collected i (all was long shape) (omega (arith, less, long)) d.team.nodes.items its_nodes

  pub collected_on : (x : NodeData) → d.team.nodes.items ≡ e.team.nodes.items ++ x ∷ [] → AreCollected w contexts first (slice_set loads g e) (collected ++ x ∷ []) (i + 1)
  collected_on x last was long shape =
      subst (λ (nss : List (List NodeData)). IsCollecting w was (nodes_in first) nss (collected ++ x ∷ []) (i + 1))
      (sym (map-slice_set (λ (l : Load O). l.team.nodes.items) loads g e ∙ ap (λ (n : ℕ). slice_set (nodes_in loads) n e.team.nodes.items) group))
      (collecting_more w some was (nodes_in first) (nodes_in loads) collected i (all was long shape) (omega (arith, less, long)) e.team.nodes.items x
      (its_nodes ∙ ap (λ (ns : List NodeData). Some ns) last))

pub collected_none : {O : Type 0} (w contexts : ℕ) (loads : List (Load O)) → AreCollected w contexts loads loads [] 0
collected_none w contexts loads was long shape = collecting_begun w was (nodes_in loads) shape

pub collected_all : {O : Type 0} (w contexts : ℕ) (some : 0 < w) (first loads : List (Load O)) (collected : List NodeData) (i : ℕ) → contexts ≤ i → AreCollected w contexts first loads collected i
    → (was : List NodeData) → length was ≡ contexts → AreShapedAs (grouped w 0 was) (nodes_in first) → nodes_in first ≡ grouped w 0 collected
collected_all w contexts some first loads collected i end all was long shape = collecting_ends w some was (nodes_in first) (nodes_in loads) collected i (all was long shape) (omega (arith, end, long))

-- those that were worked have as many nodes
pub worked_shape : {O : Type 0} (xs ys : List (Load O)) → AllZip HasWorked xs ys → AreShapedAs (nodes_in xs) (nodes_in ys)
worked_shape [] [] all = refl
worked_shape [] (y ∷ ys) all = absurd all
worked_shape (x ∷ xs) [] all = absurd all
worked_shape (x ∷ xs) (y ∷ ys) all =
    ap (λ (n : ℕ). n ∷ map (λ (group : List NodeData). length group) (nodes_in xs)) (sym (length_same_images as_new as_new y.team.nodes.items x.team.nodes.items all.0.team.same))
    ∙ ap (λ (ns : List ℕ). length y.team.nodes.items ∷ ns) (worked_shape xs ys all.1)

-- ---- a round that goes out and comes back
-- the loads of the equipment went out, with the nodes that have begun the round
pub record HasGoneOut {O : Type 0} (m : System) (level asked w : ℕ) (first : List NodeData) (draw : DrawData) (hub : List AddressData) (seat : SeatData) (made dealt : List (Load O)) : Type 0 where
  pub equipment : IsEquipment m w asked draw hub seat (map load_of made)
  pub nodes : nodes_in dealt ≡ grouped w 0 (map (begun_at level) first)
  pub rest : map without_nodes dealt ≡ map without_nodes made

-- what is written back over all nodes, and over all loads
pub begun_back : (level : ℕ) (first seen begun : List NodeData) (n : ℕ) → seen ≡ first → begun ≡ map (begun_at level) seen → n ≡ length first → take n (begun ++ drop (length begun) first) ≡ map (begun_at level) first
begun_back level first seen begun n same is all =
    let begins = is ∙ ap (map (begun_at level)) same in
    written_back first begun n (ap (λ (ns : List NodeData). length ns) begins ∙ length-map first (begun_at level)) all ∙ begins

pub loads_back : {O : Type 0} (made seen now : List (Load O)) (n : ℕ) → seen ≡ made → map without_nodes now ≡ map without_nodes seen → n ≡ length made → take n (now ++ drop (length now) made) ≡ now
loads_back made seen now n same rest all = written_back made now n (length_same_images without_nodes without_nodes now made (rest ∙ ap (map without_nodes) same)) all

-- by what the calls say that make it go out
pub gone_out : {O : Type 0} (m : System) (level asked w : ℕ) (first seen begun : List NodeData) (n : ℕ) (draw : DrawData) (hub : List AddressData) (seat : SeatData) (made shown dealt : List (Load O)) → seen ≡ first → begun ≡ map (begun_at level) seen → n ≡ length first
    → IsEquipment m w asked draw hub seat (map load_of made) → shown ≡ made → nodes_in dealt ≡ grouped (length shown) 0 (take n (begun ++ drop (length begun) first)) → map without_nodes dealt ≡ map without_nodes shown → HasGoneOut m level asked w first draw hub seat made dealt
gone_out m level asked w first seen begun n draw hub seat made shown dealt same is all equipment same_loads groups rest = record {
  equipment = equipment;
  nodes = groups
      ∙ ap (λ (ns : List NodeData). grouped (length shown) 0 ns) (begun_back level first seen begun n same is all)
      ∙ ap (λ (k : ℕ). grouped k 0 (map (begun_at level) first)) (ap (λ (ls : List (Load _)). length ls) same_loads ∙ sym (length-map made load_of) ∙ equipment.new.one_each);
  rest = rest ∙ ap (map without_nodes) same_loads;
}

module _ {O : Type 0} (m : System) (level budget asked w : ℕ) (first : List NodeData) (ready : IsReadyRound m level budget asked first) (valid : IsValid m) (some : 0 < w) (few : w ≤ 64)
    (draw : DrawData) (hub : List AddressData) (seat : SeatData) (made dealt : List (Load O)) (out : HasGoneOut m level asked w first draw hub seat made dealt) where
  many_made : length made ≡ w
  many_made = sym (length-map made load_of) ∙ out.equipment.new.one_each

  many_dealt : length dealt ≡ w
  many_dealt = length_same_images without_nodes without_nodes dealt made out.rest ∙ many_made

  -- the load as it was made
  new_at : (g : ℕ) (l : Load O) → slice_get dealt g ≡ Some l → (n : Load O) × (i : InboxData) × IsNewLoad m w g asked draw.word hub i (load_of n) × (without_nodes n ≡ without_nodes l) × (i.taken ≡ []) × ((a : AddressData) → slice_get hub g ≡ Some a → i.wire ≡ a.wire)
  new_at g l at =
      let (n, there, same) = same_at without_nodes dealt made out.rest g l at in
      let within = slice_get_within dealt g l at in
      let (i, inbox) = slice_get_below out.equipment.inboxes g (let long = out.equipment.long in let many = many_dealt in omega (arith, within, long, many)) in
      let (a, address) = slice_get_below hub g (let long = out.equipment.one_each in let many = many_dealt in omega (arith, within, long, many)) in
      (n, i, out.equipment.new.each g i (load_of n) inbox (slice_get-map_some load_of made g n there), same, (out.equipment.inboxes_are g a i address inbox).1, λ b at'. (out.equipment.inboxes_are g b i at' inbox).0)

  -- the address of its inbox
  address_at : (g : ℕ) (l : Load O) → slice_get dealt g ≡ Some l → (a : AddressData) × (slice_get hub g ≡ Some a)
  address_at g l at =
      let within = slice_get_within dealt g l at in
      slice_get_below hub g (let long = out.equipment.one_each in let many = many_dealt in omega (arith, within, long, many))

  -- the loads go out as they should
  pub given_at : (g : ℕ) (l : Load O) → slice_get dealt g ≡ Some l → IsAtWork (round_of m level budget ready.before) asked (load_of l) × (l.team.seat.word ≡ draw.word)
  given_at g l at =
      let (n, i, new, same, taken, wire) = new_at g l at in
      let (b, address) = address_at g l at in
      let there : slice_get (grouped w 0 (map (begun_at level) first)) g ≡ Some l.team.nodes.items = subst (λ (groups : List (List NodeData)). slice_get groups g ≡ Some l.team.nodes.items) out.nodes (slice_get-map_some (λ (x : Load O). x.team.nodes.items) dealt g l at) in (
        work_begun m level budget asked w first ready valid some g l.team.nodes.items there (load_of l) hub refl
            (sym (ap (λ (x : LoadData). x.team.addresses) same) ∙ new.addresses_are)
            (λ h a at'. (out.equipment.kept h a at').0)
            out.equipment.one_each
            (sym (ap (λ (x : LoadData). x.team.seat.account) same) ∙ new.account)
            (sym (ap (λ (x : LoadData). x.inbox.wire.plan) same) ∙ ap (λ (x : InboxData). x.wire.plan) new.inbox_is ∙ ap (λ (x : WireData). x.plan) (wire b address) ∙ (out.equipment.kept g b address).0)
            (sym (ap (λ (x : LoadData). x.inbox.taken) same) ∙ ap (λ (x : InboxData). x.taken) new.inbox_is ∙ taken)
            (λ order ordered. sym (ap (λ (x : LoadData). x.left) same) ∙ new.left order ordered),
        sym (ap (λ (x : LoadData). x.team.seat.word) same) ∙ new.word_is,
      )

  pub given_all : AllByRecursion (IsGiven draw.word) dealt
  given_all = all_from_among (IsGiven draw.word) dealt (λ l among. (let (g, at) = get_among l dealt among in let given = given_at g l at in ((round_of m level budget ready.before, asked, given.0), given.1)))

  -- ---- they are back
  module _ (back : List (Load O)) (worked : AllZip HasWorked dealt back) where
    pub many_back : length back ≡ w
    many_back = sym (length_zip HasWorked dealt back worked) ∙ many_dealt

    -- they have the shape of the groups
    pub shape_back : AreShapedAs (grouped (length back) 0 (map (begun_at level) first)) (nodes_in back)
    shape_back =
        subst (λ (k : ℕ). AreShapedAs (grouped k 0 (map (begun_at level) first)) (nodes_in back)) (sym many_back)
        (subst (λ (nss : List (List NodeData)). AreShapedAs nss (nodes_in back)) out.nodes (worked_shape dealt back worked))

    brings_at : (g : ℕ) (b : Load O) → slice_get back g ≡ Some b → Brings draw.word hub (without_nodes b)
    brings_at g b at =
        let (l, there, worked') = zip_back HasWorked dealt back worked g b at in
        let given = given_at g l there in
        let (n, i, new, same, taken, wire) = new_at g l there in
        let work = worked'.at_work (round_of m level budget ready.before) asked given.0 in record {
          wires_are = worked'.team.wires ∙ ap (map unsent) (sym (ap (λ (x : LoadData). x.team.addresses) same) ∙ new.addresses_are) ∙ unsent_same hub;
          short = λ h a at'. few_each (round_of m level budget ready.before) asked (load_of b).team work.team h a at';
          word_is = worked'.team.word ∙ given.1;
          share = work.team.room;
        }
      where
        unsent_same : (ps : List AddressData) → map unsent (map (with_parts 1) ps) ≡ map (with_parts 1) ps
        unsent_same [] = refl
        unsent_same (a ∷ ps) = ap (λ zs. with_parts 1 a ∷ zs) (unsent_same ps)

    wire_at : (g : ℕ) (b : Load O) → slice_get back g ≡ Some b → (a : AddressData) → slice_get hub g ≡ Some a → b.inbox.wire ≡ a.wire
    wire_at g b at a at' =
        let (l, there, worked') = zip_back HasWorked dealt back worked g b at in
        let (n, i, new, same, taken, wire) = new_at g l there in
        worked'.wire ∙ sym (ap (λ (x : LoadData). x.inbox.wire) same) ∙ ap (λ (x : InboxData). x.wire) new.inbox_is ∙ wire a at'

    pub can_end : CanEnd asked draw hub seat (map without_nodes back)
    can_end =
        let long = length-map back without_nodes in
        let many = many_back in record {
          back = record {
            kept = λ g a at. (let k = out.equipment.kept g a at in (k.2, k.3));
            word_is = out.equipment.word;
            account = out.equipment.account;
            few = omega (arith, long, many, few);
            each = λ k l at. (let (b, there, is) = map_slice_get without_nodes back k l at in subst (λ (x : LoadData). Brings draw.word hub x) is (brings_at k b there));
          };
          base = out.equipment.base;
          room = out.equipment.room ∙ ap (λ (n : ℕ). 1 + seat_room * n) (sym (long ∙ many));
          many = out.equipment.one_each ∙ sym (long ∙ many);
          parts = λ g a at. (let k = out.equipment.kept g a at in k.1 ∙ ap (λ (n : ℕ). n + 1) (sym (long ∙ many)));
          inboxes = λ g a l at at'. (let (b, there, is) = map_slice_get without_nodes back g l at' in subst (λ (x : LoadData). x.inbox.wire ≡ a.wire) is (wire_at g b there a at));
        }

    images_worked : AllZip Worked (map load_of dealt) (map load_of back)
    images_worked = image dealt back worked
      where
        image : (xs ys : List (Load O)) → AllZip HasWorked xs ys → AllZip Worked (map load_of xs) (map load_of ys)
        image [] [] all = tt
        image [] (y ∷ ys) all = absurd all
        image (x ∷ xs) [] all = absurd all
        image (x ∷ xs) (y ∷ ys) all = (all.0, image xs ys all.1)

    -- ---- and their nodes are collected
    module _ (after : List NodeData) (collected : nodes_in back ≡ grouped w 0 after) (all : length after ≡ length first) where
      dealt_image : map (λ (l : LoadData). l.team.nodes) (map load_of dealt) ≡ grouped w 0 (map (begun_at level) first)
      dealt_image = map-map (λ (l : LoadData). l.team.nodes) load_of dealt ∙ out.nodes

      back_image : map (λ (l : LoadData). l.team.nodes) (map load_of back) ≡ grouped w 0 after
      back_image = map-map (λ (l : LoadData). l.team.nodes) load_of back ∙ collected

      pub played_same : map as_new after ≡ map as_new first
      played_same = same_back level w some first after (map load_of dealt) (map load_of back) dealt_image images_worked back_image all

      given_image : (g : ℕ) (l : LoadData) → slice_get (map load_of dealt) g ≡ Some l → IsAtWork (round_of m level budget ready.before) asked l
      given_image g l at = let (x, there, is) = map_slice_get load_of dealt g l at in subst (λ (z : LoadData). IsAtWork (round_of m level budget ready.before) asked z) is (given_at g x there).0

      pub played_all : (wires : List SettledData) (word : ClosedData) → HaveEnded asked hub (map without_nodes back) wires word → HaveBeenPlayed m level budget asked ready.before w after wires word
      played_all wires word ended = have_been_played m level budget asked w first ready some (map load_of dealt) (map load_of back) after hub wires word given_image dealt_image images_worked back_image all
          (λ g a at. (out.equipment.kept g a at).0) out.equipment.one_each (subst (λ (ls : List LoadData). HaveEnded asked hub ls wires word) (sym (map-map emptied load_of back)) ended)

-- ---- by what its calls say, one after the other
module _ {O : Type 0} (m : System) (level budget asked w : ℕ) (first seen begun : List NodeData) (n : ℕ) (draw : DrawData) (hub : List AddressData) (seat : SeatData) (made shown dealt : List (Load O)) (k : ℕ)
    (ready : IsReadyRound m level budget asked first) (valid : IsValid m) (groups : (2 ≤ w) × (w ≤ 64))
    (sees : seen ≡ first) (begins : begun ≡ map (begun_at level) seen) (all : n ≡ length first)
    (equipment : IsEquipment m w asked draw hub seat (map load_of made)) (shows : shown ≡ made) (deals : nodes_in dealt ≡ grouped (length shown) 0 (take n (begun ++ drop (length begun) first))) (rest : map without_nodes dealt ≡ map without_nodes shown) (full : k ≡ length made) where
  out : HasGoneOut m level asked w first draw hub seat made dealt
  out = gone_out m level asked w first seen begun n draw hub seat made shown dealt sees begins all equipment shows deals rest

  some : 0 < w
  some = let two = groups.0 in omega (arith, two)

  sent : take k (dealt ++ drop (length dealt) made) ≡ dealt
  sent = loads_back made shown dealt k shows rest full

  pub round_given : AllByRecursion (IsGiven draw.word) (take k (dealt ++ drop (length dealt) made))
  round_given = subst (λ (ls : List (Load O)). AllByRecursion (IsGiven draw.word) ls) (sym sent) (given_all m level budget asked w first ready valid some groups.1 draw hub seat made dealt out)

  module _ (back third : List (Load O)) (works : AllZip HasWorked (take k (dealt ++ drop (length dealt) made)) back) (thirds : third ≡ back) where
    worked : AllZip HasWorked dealt back
    worked = subst (λ (ls : List (Load O)). AllZip HasWorked ls back) sent works

    pub round_some : 0 < length third
    round_some = let many = many_back m level budget asked w first ready valid some groups.1 draw hub seat made dealt out back worked in let same = ap (λ (ls : List (Load O)). length ls) thirds in let more = some in omega (arith, many, same, more)

    pub round_shape : (contexts : ℕ) → contexts ≡ n → (was : List NodeData) × (length was ≡ contexts) × AreShapedAs (grouped (length third) 0 was) (nodes_in third)
    round_shape contexts count = (
      map (begun_at level) first,
      length-map first (begun_at level) ∙ sym (count ∙ all),
      subst (λ (ls : List (Load O)). AreShapedAs (grouped (length ls) 0 (map (begun_at level) first)) (nodes_in ls)) (sym thirds) (shape_back m level budget asked w first ready valid some groups.1 draw hub seat made dealt out back worked),
    )

    module _ (last : List (Load O)) (kept : map without_nodes last ≡ map without_nodes third) (j : ℕ) (every : j ≡ length back) where
      ends : map without_nodes (take j (last ++ drop (length last) back)) ≡ map without_nodes back
      ends = ap (map without_nodes) (loads_back back third last j thirds kept every) ∙ kept ∙ ap (map without_nodes) thirds

      pub round_can_end : CanEnd asked draw hub seat (map without_nodes (take j (last ++ drop (length last) back)))
      round_can_end = subst (λ (ls : List LoadData). CanEnd asked draw hub seat ls) (sym ends) (can_end m level budget asked w first ready valid some groups.1 draw hub seat made dealt out back worked)

      module _ (after : List NodeData) (collects : nodes_in third ≡ grouped (length third) 0 after) (contexts : ℕ) (count : contexts ≡ n) (whole : length after ≡ contexts) where
        collected : nodes_in back ≡ grouped w 0 after
        collected =
            ap nodes_in (sym thirds)
            ∙ collects
            ∙ ap (λ (i : ℕ). grouped i 0 after) (ap (λ (ls : List (Load O)). length ls) thirds ∙ many_back m level budget asked w first ready valid some groups.1 draw hub seat made dealt out back worked)

        pub round_same : map as_new after ≡ map as_new first
        round_same = played_same m level budget asked w first ready valid some groups.1 draw hub seat made dealt out back worked after collected (whole ∙ count ∙ all)

        pub round_played : (wires : List SettledData) (word : ClosedData) → ((asked : ℕ) → CanEnd asked draw hub seat (map without_nodes (take j (last ++ drop (length last) back))) → HaveEnded asked hub (map without_nodes (take j (last ++ drop (length last) back))) wires word)
            → HaveBeenPlayed m level budget asked ready.before w after wires word
        round_played wires word end =
            played_all m level budget asked w first ready valid some groups.1 draw hub seat made dealt out back worked after collected (whole ∙ count ∙ all) wires word
            (subst (λ (ls : List LoadData). HaveEnded asked hub ls wires word) ends (end asked round_can_end))

-- ---- what is told in the end
-- where there are so many groups
pub told_trail : (m : System) (level budget asked workers groups : ℕ) (first nodes : List NodeData) (total : Result ℕ Halt) (trail : TrailData) → IsReadyRound m level budget asked first → groups ≡ group_count workers (length m.contexts) → 2 ≤ groups
    → IsTold m level budget groups first nodes total trail → IsTrail m level workers nodes total trail
told_trail m level budget asked workers groups first nodes total trail ready is some told =
    let many : groups ≡ group_count workers (length nodes) = is ∙ ap (group_count workers) (sym (length_same_images as_new as_new nodes first told.played.same ∙ ready.own.one_each)) in
    shared (subst (λ (n : ℕ). 2 ≤ n) many some) (subst (λ (n : ℕ). IsShown m level n nodes total trail) many told.shown)
