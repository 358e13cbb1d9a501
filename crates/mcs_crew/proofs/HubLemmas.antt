-- Ends of wires and seats: how they are made, and how they come back.
use Rattle.std.proofs.Common.{◌≡◌, ℕ, zero, suc, ◌+◌, ◌*◌, ◌^◌, ◌%◌, ◌<◌, ◌≤◌, nat_eq, Bool, true, false, cond, List, [], ◌∷◌, ◌++◌, map, take, drop, length, length-append, Some, slice_get, slice_set, refl, sym, ap, ◌∙◌, subst, inl, inr, arith}
use Rattle.std.proofs.lemmas.List.{length-map, map-id, map_push}
use Rattle.std.proofs.lemmas.List.FromFn.{length-range_with_len, sum_by-map-range_with_len_more}
use Rattle.std.proofs.lemmas.List.Sums.{sum_by-append, sum_by-cons}
use Rattle.std.proofs.lemmas.Option.{none-some, same_Some, slice_get_within}
use Rattle.std.specs.List.{range_with_len, sum_by}
use Rattle.mcs_base.specs.Listings.{IsAmong}
use Rattle.mcs_base.proofs.Among.{among_either, among_range}
use Rattle.mcs_base.proofs.Distinct.{distinct_fits}
use Rattle.mcs_base.proofs.Mapped.{mapped_in_place}
use Rattle.mcs_base.proofs.Each.{all_among}
use Rattle.mcs_base.proofs.Written.{take_next}
use Rattle.mcs_base.proofs.Lists.{length_same_images, map_slice_get, slice_get-map_some, slice_get_below, slice_get_kept, slice_get_push_at, slice_get_seam}
use Rattle.atomic_table.specs.Seated.{TableId}
use Rattle.mcs_draw.specs.declared.account.Account.{Account}
use Rattle.mcs_draw.specs.Budget.{after_join, after_split, split_off}
use Rattle.mcs_draw.specs.Seats.{ClosedData, DrawData, SeatData}
use Rattle.mcs_system.specs.Plain.{System}
use Rattle.mcs_system.specs.Imports.{IsImportOrder, supplied}
use Rattle.mcs_system.proofs.ContextSets.{supplied_apart}
use Rattle.mcs_import.proofs.OrderLemmas.{import_order_exists, supplied_in_range}
use Rattle.mcs_node.specs.Letters.{LetterData}
use Rattle.mcs_wire.specs.Ends.{AddressData, InboxData, SettledData, less_one, one_part, with_joined}
use Rattle.mcs_crew.specs.Hubs.{AreEnds, AreJoinable, AreNewLoads, AreSettled, AreSplitOff, AreWires, Brings, CanComeBack, CanEnd, HaveComeBack, HaveEnded, IsEquipment, IsNewLoad, WasSentBy, awaited_by, joined_each, with_parts}
use Rattle.mcs_crew.specs.Loads.{LoadData}
use Rattle.mcs_crew.specs.Teams.{seat_room, unsent}
use Rattle.mcs_base.proofs.Placed.{eq_differs, eq_same, same_at, both_more}

-- ---- letters that are awaited
-- one context more
pub awaited_more : (m : System) (order : List ℕ) (w g n : ℕ) → awaited_by m order w g (n + 1) ≡ awaited_by m order w g n + cond (nat_eq (n % w) g) (length (supplied m order n)) 0
awaited_more m order w g n =
    let counted : ℕ → ℕ = λ i. cond (nat_eq (i % w) g) (length (supplied m order i)) 0 in
    sym (ap (sum_by counted) (map-id (range_with_len 0 (n + 1))))
    ∙ sum_by-map-range_with_len_more counted (λ (k : ℕ). k) 0 n n (omega arith)
    ∙ ap (λ (xs : List ℕ). sum_by counted xs + counted n) (map-id (range_with_len 0 n))

module _ (m : System) (order : List ℕ) (w g n count : ℕ) (is : count ≡ awaited_by m order w g n) where
  -- it is of the group
  pub awaited_here : (js : List ℕ) → n % w ≡ g → js ≡ supplied m order n → count + length js ≡ awaited_by m order w g (n + 1)
  awaited_here js here its =
      let test : nat_eq (n % w) g ≡ true = subst (λ (k : ℕ). nat_eq (n % w) k ≡ true) here (eq_same (n % w)) in
      let more = subst (λ (b : Bool). awaited_by m order w g (n + 1) ≡ awaited_by m order w g n + cond b (length (supplied m order n)) 0) test (awaited_more m order w g n) in
      let long = ap (λ (l : List ℕ). length l) its in
      omega (arith, is, more, long)

  -- it is of another one
  pub awaited_there : ¬ (n % w ≡ g) → count ≡ awaited_by m order w g (n + 1)
  awaited_there differ =
      let test : nat_eq (n % w) g ≡ false = eq_differs (n % w) g (λ e. differ (sym e)) in
      let more = subst (λ (b : Bool). awaited_by m order w g (n + 1) ≡ awaited_by m order w g n + cond b (length (supplied m order n)) 0) test (awaited_more m order w g n) in
      omega (arith, is, more)

-- no more contexts supply one than there are
pub supplied_short : (m : System) (i : ℕ) (js : List ℕ) → length m.contexts ≤ 64 → ((order : List ℕ) → IsImportOrder m order → js ≡ supplied m order i) → length js ≤ 64
supplied_short m i js few is =
    let (order, ordered) = import_order_exists m in
    let all = distinct_fits (supplied m order i) (range_with_len 0 (length m.contexts)) (supplied_apart m order i ordered) (λ j among.
    among_range j 0 (length m.contexts) (omega arith) (let low = all_among (λ (k : ℕ). k < length m.contexts) (supplied m order i) j (supplied_in_range m order i ordered) among in omega (arith, low))) in
    let same = ap (λ (l : List ℕ). length l) (is order ordered) in
    omega (arith, all, same, few, length-range_with_len 0 (length m.contexts))

-- ---- one item more
pub wires_none : (m : System) (groups : ℕ) → AreWires m groups 0 [] []
wires_none m groups = record { addresses_are = refl; inboxes_are = refl; each = λ g a i at at'. absurd (none-some a at) }

pub wires_more : (m : System) (groups many : ℕ) (ps : List AddressData) (is : List InboxData) (a : AddressData) (i : InboxData) → AreWires m groups many ps is → AreEnds m groups a i → AreWires m groups (many + 1) (ps ++ a ∷ []) (is ++ i ∷ [])
wires_more m groups many ps is a i wires ends = record {
  addresses_are = (let long = wires.addresses_are in let more = length-append ps (a ∷ []) in omega (arith, long, more));
  inboxes_are = (let long = wires.inboxes_are in let more = length-append is (i ∷ []) in omega (arith, long, more));
  each = both_more (λ g b j. AreEnds m groups b j) ps is a i (wires.addresses_are ∙ sym wires.inboxes_are) wires.each ends;
}

-- ---- addresses that are split
-- what stood at the first place that is not split yet
pub unsplit_at : (first now : List AddressData) (k : ℕ) (a : AddressData) → now ≡ map less_one (take k first) ++ drop k first → slice_get now k ≡ Some a → slice_get first k ≡ Some a
unsplit_at first now k a is at = (mapped_in_place less_one first now k a (less_one a) is at refl).1

-- and the new addresses
pub new_more : (first new now : List AddressData) (k : ℕ) (a x : AddressData) → slice_get first k ≡ Some a → new ≡ map one_part (take k first) → x ≡ one_part a → now ≡ new ++ x ∷ [] → now ≡ map one_part (take (k + 1) first)
new_more first new now k a x at is one pushed =
    pushed
    ∙ ap (λ (l : List AddressData). l ++ x ∷ []) is
    ∙ ap (λ (z : AddressData). map one_part (take k first) ++ z ∷ []) one
    ∙ sym (map_push one_part (take k first) a)
    ∙ ap (map one_part) (sym (take_next first k a at))

module _ (ps bs : List AddressData) (s t : SeatData) where
  -- an address was split off each, and a share off the seat
  pub split_off_one : bs ≡ map less_one ps → t.word ≡ s.word → t.account ≡ after_split seat_room s.account → seat_room < s.account.left → ((g : ℕ) (a : AddressData) → slice_get ps g ≡ Some a → (2 ≤ a.parts) × (a.sent ≡ []))
      → AreSplitOff 1 ps s bs t
  split_off_one split word account room parts = record {
    same = ap (map (with_parts 1)) split ∙ lessened ps;
    parts = λ g a b at at'. (
        let (c, there, is) = map_slice_get less_one ps g b (subst (λ (l : List AddressData). slice_get l g ≡ Some b) split at') in
        let two = (parts g c there).0 in
        let same : c ≡ a = same_Some c a (sym there ∙ at) in
        let was = ap (λ (z : AddressData). z.parts) same in
        let e = ap (λ (z : AddressData). z.parts) is in
        omega (arith, two, was, e));
    sent = λ g b at. (
        let (c, there, is) = map_slice_get less_one ps g b (subst (λ (l : List AddressData). slice_get l g ≡ Some b) split at) in
        sym (ap (λ (z : AddressData). z.sent) is) ∙ (parts g c there).1);
    word = word;
    left = (let e = ap (λ (a : Account). a.left) account in omega (arith, e, room));
    drawn = ap (λ (a : Account). a.drawn) account;
    top = ap (λ (a : Account). a.top) account;
  }
    where
      lessened : (xs : List AddressData) → map (with_parts 1) (map less_one xs) ≡ map (with_parts 1) xs
      lessened [] = refl
      lessened (x ∷ xs) = ap (λ zs. with_parts 1 x ∷ zs) (lessened xs)

  -- once more, of those that are left
  pub split_off_again : (many : ℕ) (first : List AddressData) (s0 : SeatData) → AreSplitOff many first s0 ps s → AreSplitOff 1 ps s bs t → AreSplitOff (many + 1) first s0 bs t
  split_off_again many first s0 off one = record {
    same = one.same ∙ off.same;
    parts = λ g a b at at'. (
        let (c, there, same) = same_at (with_parts 1) bs ps one.same g b at' in
        let was = off.parts g a c at there in
        let less = one.parts g c b there at' in
        omega (arith, was, less));
    sent = one.sent;
    word = one.word ∙ off.word;
    left = (let was = off.left in let less = one.left in omega (arith, was, less));
    drawn = one.drawn ∙ off.drawn;
    top = one.top ∙ off.top;
  }

pub split_off_none : (ps : List AddressData) (s : SeatData) → ((g : ℕ) (a : AddressData) → slice_get ps g ≡ Some a → a.sent ≡ []) → AreSplitOff 0 ps s ps s
split_off_none ps s none = record {
  same = refl;
  parts = λ g a b at at'. (let e : b ≡ a = same_Some b a (sym at' ∙ at) in let parts = ap (λ (z : AddressData). z.parts) e in omega (arith, parts));
  sent = λ g b at. none g b at;
  word = refl;
  left = omega arith;
  drawn = refl;
  top = refl;
}

-- the first addresses of wires, of which each has an inbox
module _ (m : System) (groups : ℕ) (ps : List AddressData) (is : List InboxData) (wires : AreWires m groups groups ps is) where
  pub end_at : (g : ℕ) (a : AddressData) → slice_get ps g ≡ Some a → (i : InboxData) × (slice_get is g ≡ Some i) × AreEnds m groups a i
  end_at g a at =
      let (i, there) = slice_get_below is g (let within = slice_get_within ps g a at in let long = wires.addresses_are in let long' = wires.inboxes_are in omega (arith, within, long, long')) in
      (i, there, wires.each g a i at there)

  pub none_sent : (g : ℕ) (a : AddressData) → slice_get ps g ≡ Some a → a.sent ≡ []
  none_sent g a at = let (i, there, ends) = end_at g a at in ends.sent

  -- enough is left for one load more
  module _ (many : ℕ) (less : many < groups) (s0 s : SeatData) (now : List AddressData) (off : AreSplitOff many ps s0 now s) where
    pub room_left : s0.account.left ≡ 1 + seat_room * groups → seat_room < s.account.left
    room_left all = let left = off.left in omega (arith, all, left, less)

    pub parts_left : (g : ℕ) (a : AddressData) → slice_get now g ≡ Some a → (2 ≤ a.parts) × (a.sent ≡ [])
    parts_left g a at =
        let (b, there, same) = same_at (with_parts 1) now ps off.same g a at in
        let (i, inbox, ends) = end_at g b there in
        let was = off.parts g b a there at in
        let all = ends.parts in
        (omega (arith, was, all, less), off.sent g a at)

-- ---- new loads
pub loads_none : (m : System) (groups top : ℕ) (word : TableId) (ps : List AddressData) (is : List InboxData) → AreNewLoads m groups 0 top word ps is []
loads_none m groups top word ps is = record { one_each = refl; each = λ g i l at at'. absurd (none-some l at') }

loads_more : (m : System) (groups many top : ℕ) (word : TableId) (ps : List AddressData) (is : List InboxData) (ls : List LoadData) (l : LoadData) (i : InboxData)
    → AreNewLoads m groups many top word ps is ls → slice_get is many ≡ Some i → IsNewLoad m groups many top word ps i l → AreNewLoads m groups (many + 1) top word ps is (ls ++ l ∷ [])
loads_more m groups many top word ps is ls l i new at one = record {
  one_each = (let long = new.one_each in let more = length-append ls (l ∷ []) in omega (arith, long, more));
  each = λ g j k at_j at_k. elim (slice_get_push_at ls l g k at_k) [
    | inl old ↦ new.each g j k at_j old
    | inr last ↦
        let place : g ≡ many = last.0 ∙ new.one_each in
        let same : i ≡ j = same_Some i j (sym at ∙ subst (λ (n : ℕ). slice_get is n ≡ Some j) place at_j) in
        subst (λ (n : ℕ). IsNewLoad m groups n top word ps j k) (sym place) (subst (λ (z : LoadData). IsNewLoad m groups many top word ps j z) (sym last.1) (subst (λ (z : InboxData). IsNewLoad m groups many top word ps z l) same one))
  ];
}

-- a load whose addresses were split off lessened ones is as new
new_load_over : (m : System) (groups g top : ℕ) (word : TableId) (ps bs : List AddressData) (i : InboxData) (l : LoadData) → map (with_parts 1) bs ≡ map (with_parts 1) ps → IsNewLoad m groups g top word bs i l → IsNewLoad m groups g top word ps i l
new_load_over m groups g top word ps bs i l same new = record { nodes = new.nodes; addresses_are = new.addresses_are ∙ same; word_is = new.word_is; account = new.account; inbox_is = new.inbox_is; left = new.left }

new_load_first : (m : System) (groups g many : ℕ) (word : TableId) (ps bs : List AddressData) (s0 s : SeatData) (i : InboxData) (l : LoadData) → AreSplitOff many ps s0 bs s → IsNewLoad m groups g s.account.top word bs i l → IsNewLoad m groups g s0.account.top word ps i l
new_load_first m groups g many word ps bs s0 s i l off new =
    subst (λ (top : ℕ). IsNewLoad m groups g top word ps i l) off.top (new_load_over m groups g s.account.top word ps bs i l off.same new)

-- the load of the next group is new
pub loads_next : (m : System) (groups many place : ℕ) (word : TableId) (ps bs : List AddressData) (is : List InboxData) (s0 s : SeatData) (ls : List LoadData) (l : LoadData) (i : InboxData)
    → AreNewLoads m groups many s0.account.top word ps is ls → AreSplitOff many ps s0 bs s → slice_get is many ≡ Some i → place ≡ many → IsNewLoad m groups place s.account.top word bs i l → AreNewLoads m groups (many + 1) s0.account.top word ps is (ls ++ l ∷ [])
loads_next m groups many place word ps bs is s0 s ls l i loads off next at new =
    loads_more m groups many s0.account.top word ps is ls l i loads next (new_load_first m groups many many word ps bs s0 s i l off (subst (λ (n : ℕ). IsNewLoad m groups n s.account.top word bs i l) at new))

-- the first load of those with these parts
pub is_new_load : (m : System) (groups g : ℕ) (word : TableId) (ps new : List AddressData) (s : SeatData) (i : InboxData) (l : LoadData) → l.team.nodes ≡ [] → l.team.addresses ≡ new → new ≡ map one_part ps → l.team.seat.word ≡ word → l.team.seat.account ≡ split_off seat_room s.account
    → l.inbox ≡ i → ((order : List ℕ) → IsImportOrder m order → l.left ≡ awaited_by m order groups g (length m.contexts)) → IsNewLoad m groups g s.account.top word ps i l
is_new_load m groups g word ps new s i l nodes addresses moved word_is account inbox left = record { nodes = nodes; addresses_are = addresses ∙ moved; word_is = word_is; account = account; inbox_is = inbox; left = left }

-- ---- addresses that are joined
pub joined_long : (ps bs : List AddressData) → length (joined_each ps bs) ≡ length ps
joined_long [] bs = refl
joined_long (a ∷ ps) [] = refl
joined_long (a ∷ ps) (b ∷ bs) = ap suc (joined_long ps bs)

pub joined_none : (ps : List AddressData) → joined_each ps [] ≡ ps
joined_none [] = refl
joined_none (a ∷ ps) = refl

pub joined_at : (ps bs : List AddressData) → length bs ≡ length ps → (g : ℕ) (c : AddressData) → slice_get (joined_each ps bs) g ≡ Some c
    → (a : AddressData) × (b : AddressData) × (slice_get ps g ≡ Some a) × (slice_get bs g ≡ Some b) × (c ≡ with_joined b a)
joined_at [] bs long g c at = absurd (none-some c at)
joined_at (a ∷ ps) [] long g c at = absurd (omega (arith, long))
joined_at (a ∷ ps) (b ∷ bs) long zero c at = (a, b, refl, refl, sym (same_Some (with_joined b a) c at))
joined_at (a ∷ ps) (b ∷ bs) long (suc g) c at = joined_at ps bs (omega (arith, long)) g c at

-- one more is joined, at the first place that was not
pub joined_more : (ps bs : List AddressData) (a b : AddressData) → slice_get ps (length bs) ≡ Some a → (slice_get (joined_each ps bs) (length bs) ≡ Some a) × (slice_set (joined_each ps bs) (length bs) (with_joined b a) ≡ joined_each ps (bs ++ b ∷ []))
joined_more [] bs a b at = absurd (none-some a at)
joined_more (x ∷ ps) [] a b at = let e : x ≡ a = same_Some x a at in (at, ap (λ (z : AddressData). with_joined b z ∷ ps) (sym e) ∙ ap (λ zs. with_joined b x ∷ zs) (sym (joined_none ps)))
joined_more (x ∷ ps) (y ∷ bs) a b at = let (there, set) = joined_more ps bs a b at in (there, ap (λ zs. with_joined y x ∷ zs) set)

-- the first that is not joined yet, and the one that is to be joined with it
module _ (ps bs all : List AddressData) (b d : AddressData) (can : AreJoinable ps all) (next : slice_get all (length bs) ≡ Some b) where
  pub join_within : length bs < length ps
  join_within = let within = slice_get_within all (length bs) b next in let many = can.many in omega (arith, within, many)

  pub join_there : slice_get (joined_each ps bs) (length bs) ≡ Some d → slice_get ps (length bs) ≡ Some d
  join_there at =
      let (a, there) = slice_get_below ps (length bs) join_within in
      let same : a ≡ d = same_Some a d (sym (joined_more ps bs a b there).0 ∙ at) in
      there ∙ ap (λ (z : AddressData). Some z) same

  pub join_wire : slice_get (joined_each ps bs) (length bs) ≡ Some d → b.wire ≡ d.wire
  join_wire at = can.wires (length bs) d b (join_there at) next

  pub join_fits : slice_get (joined_each ps bs) (length bs) ≡ Some d → length d.sent + length b.sent < 2 ^ 63
  join_fits at = can.fits (length bs) d b (join_there at) next

  pub join_set : slice_get (joined_each ps bs) (length bs) ≡ Some d → slice_set (joined_each ps bs) (length bs) (with_joined b d) ≡ joined_each ps (bs ++ b ∷ [])
  join_set at = (joined_more ps bs d b (join_there at)).1

-- what is read there
pub joining_at : (ps bs now : List AddressData) (group : ℕ) (d : AddressData) → now ≡ joined_each ps bs → group ≡ length bs → slice_get now group ≡ Some d → slice_get (joined_each ps bs) (length bs) ≡ Some d
joining_at ps bs now group d joined place at = subst (λ (k : ℕ). slice_get (joined_each ps bs) k ≡ Some d) place (subst (λ (xs : List AddressData). slice_get xs group ≡ Some d) joined at)

pub joining_set : (ps bs now : List AddressData) (group : ℕ) (d : AddressData) → now ≡ joined_each ps bs → group ≡ length bs → slice_set now group d ≡ slice_set (joined_each ps bs) (length bs) d
joining_set ps bs now group d joined place = ap (λ (xs : List AddressData). slice_set xs group d) joined ∙ ap (λ (k : ℕ). slice_set (joined_each ps bs) k d) place

-- ---- what has come back
pub come_back_none : (asked : ℕ) (word : TableId) (ps : List AddressData) (s : SeatData) (all : List LoadData) → CanComeBack asked word ps s all → HaveComeBack asked ps [] ps s
come_back_none asked word ps s all can = record {
  wires_are = refl;
  parts = λ g a at. (can.kept g a at).0;
  sent = λ g a letter at among. absurd (subst (λ (ls : List LetterData). IsAmong letter ls) (can.kept g a at).1 among);
  few = λ g a at. (let none = ap (λ (ls : List LetterData). length ls) (can.kept g a at).1 in omega (arith, none));
  drawn = ap (λ (a : Account). a.drawn) can.account;
  whole = (let left = ap (λ (a : Account). a.left) can.account in let drawn = ap (λ (a : Account). a.drawn) can.account in omega (arith, left, drawn));
  tops = λ k l at. absurd (none-some l at);
  top = λ bound low all. (let top = ap (λ (a : Account). a.top) can.account in omega (arith, top, low));
}

-- the next of all loads comes back
module _ (asked : ℕ) (word : TableId) (wires ps : List AddressData) (first s : SeatData) (all ls : List LoadData) (l : LoadData) (can : CanComeBack asked word wires first all) (next : slice_get all (length ls) ≡ Some l) (back : HaveComeBack asked wires ls ps s) where
  brings : Brings word wires l
  brings = can.each (length ls) l next

  few : length ls < 64
  few = let within = slice_get_within all (length ls) l next in let most = can.few in omega (arith, within, most)

  pub next_word : l.team.seat.word ≡ word
  next_word = brings.word_is

  -- the wires that both are of
  wire_at : (g : ℕ) (a b : AddressData) → slice_get ps g ≡ Some a → slice_get l.team.addresses g ≡ Some b → (b.wire ≡ a.wire) × (b.parts ≡ 1)
  wire_at g a b at at' =
      let (v, there, is) = same_at (with_parts 1) ps wires back.wires_are g a at in
      let (z, there', is') = map_slice_get (with_parts 1) wires g (unsent b) (subst (λ (l : List AddressData). slice_get l g ≡ Some (unsent b)) brings.wires_are (slice_get-map_some unsent l.team.addresses g b at')) in
      let same : z ≡ v = same_Some z v (sym there' ∙ there) in
      let whole : unsent b ≡ with_parts 1 a = sym is' ∙ ap (with_parts 1) same ∙ is in
      (ap (λ (x : AddressData). x.wire) whole, ap (λ (x : AddressData). x.parts) whole)

  long : length l.team.addresses ≡ length ps
  long =
      sym (length-map l.team.addresses unsent) ∙ ap (λ (xs : List AddressData). length xs) brings.wires_are ∙ length-map wires (with_parts 1)
      ∙ sym (sym (length-map ps (with_parts 1)) ∙ ap (λ (xs : List AddressData). length xs) back.wires_are ∙ length-map wires (with_parts 1))

  pub joinable : AreJoinable ps l.team.addresses
  joinable = record {
    many = long;
    wires = λ g a b at at'. (wire_at g a b at at').0;
    fits = λ g a b at at'. (let less = back.few g a at in let short = brings.short g b at' in let most = few in omega (arith, less, short, most));
  }

  joined_wires : (xs ys : List AddressData) → length ys ≡ length xs → map (with_parts 1) (joined_each xs ys) ≡ map (with_parts 1) xs
  joined_wires [] ys e = refl
  joined_wires (x ∷ xs) [] e = absurd (omega (arith, e))
  joined_wires (x ∷ xs) (y ∷ ys) e = ap (λ zs. with_parts 1 x ∷ zs) (joined_wires xs ys (omega (arith, e)))

  sent_later : (g : ℕ) (letter : LetterData) → WasSentBy ls g letter → WasSentBy (ls ++ l ∷ []) g letter
  sent_later g letter (k, load, a, there, here, among) = (k, load, a, slice_get_kept ls (l ∷ []) k load there, here, among)

  pub come_back_more : (t : SeatData) → t.account ≡ after_join s.account l.team.seat.account → HaveComeBack asked wires (ls ++ l ∷ []) (joined_each ps l.team.addresses) t
  come_back_more t account = record {
    wires_are = joined_wires ps l.team.addresses long ∙ back.wires_are;
    parts = λ g c at. (
        let (a, b, there, there', is) = joined_at ps l.team.addresses long g c at in
        let parts = ap (λ (z : AddressData). z.parts) is in
        let was = back.parts g a there in
        let one = (wire_at g a b there there').1 in
        let more = length-append ls (l ∷ []) in
        omega (arith, parts, was, one, more));
    sent = λ g c letter at among. (
        let (a, b, there, there', is) = joined_at ps l.team.addresses long g c at in
        elim (among_either letter a.sent b.sent (subst (λ (z : AddressData). IsAmong letter z.sent) is among)) [
          | inl old ↦ sent_later g letter (back.sent g a letter there old)
          | inr new ↦ (length ls, l, b, slice_get_seam ls l [] (length ls) refl, there', new)
        ]);
    few = λ g c at. (
        let (a, b, there, there', is) = joined_at ps l.team.addresses long g c at in
        let sent = ap (λ (z : AddressData). length z.sent) is in
        let more = length-append a.sent b.sent in
        let was = back.few g a there in
        let short = brings.short g b there' in
        let loads = length-append ls (l ∷ []) in
        omega (arith, sent, more, was, short, loads));
    drawn = (
        let joined = ap (λ (a : Account). a.drawn) account in
        let was = back.drawn in
        let parts = sum_by-append (λ (x : LoadData). x.team.seat.account.drawn) ls (l ∷ []) in
        let one = sum_by-cons (λ (x : LoadData). x.team.seat.account.drawn) l [] in
        omega (arith, joined, was, parts, one));
    whole = (
        let left = ap (λ (a : Account). a.left) account in
        let drawn = ap (λ (a : Account). a.drawn) account in
        let was = back.whole in
        let share = brings.share in
        let more = length-append ls (l ∷ []) in
        omega (arith, left, drawn, was, share, more));
    tops = λ k x at. (
        let top = ap (λ (a : Account). a.top) account in
        elim (slice_get_push_at ls l k x at) [
          | inl old ↦ let low = back.tops k x old in omega (arith, top, low)
          | inr last ↦ let e = ap (λ (z : LoadData). z.team.seat.account.top) last.1 in omega (arith, top, e)
        ]);
    top = λ bound low all. (
        let top = ap (λ (a : Account). a.top) account in
        let first = back.top bound low (λ k x at. all k x (slice_get_kept ls (l ∷ []) k x at)) in
        let second = all (length ls) l (slice_get_seam ls l [] (length ls) refl) in
        omega (arith, top, first, second));
  }

-- ---- the end
module _ (asked : ℕ) (draw : DrawData) (ps : List AddressData) (s : SeatData) (ls : List LoadData) (can : CanEnd asked draw ps s ls) (now : List AddressData) (t : SeatData) (back : HaveComeBack asked ps ls now t) where
  pub whole_seat : t.account.left + t.account.drawn ≡ draw.room
  whole_seat = back.whole ∙ sym can.room

  was_at : (g : ℕ) (a : AddressData) → slice_get now g ≡ Some a → (b : AddressData) × (slice_get ps g ≡ Some b) × (b.wire ≡ a.wire)
  was_at g a at = let (b, there, is) = same_at (with_parts 1) now ps back.wires_are g a at in (b, there, ap (λ (z : AddressData). z.wire) is)

  pub whole_wires : (inboxes : List InboxData) → inboxes ≡ map (λ (l : LoadData). l.inbox) ls → (g : ℕ) (a : AddressData) (i : InboxData) → slice_get now g ≡ Some a → slice_get inboxes g ≡ Some i → (i.wire ≡ a.wire) × (a.parts ≡ a.wire.addresses)
  whole_wires inboxes is g a i at at' =
      let (b, there, same) = was_at g a at in
      let (l, there', inbox) = map_slice_get (λ (l : LoadData). l.inbox) ls g i (subst (λ (xs : List InboxData). slice_get xs g ≡ Some i) is at') in (
        sym (ap (λ (z : InboxData). z.wire) inbox) ∙ can.inboxes g b l there there' ∙ same,
        (let parts = back.parts g a at in let all = can.parts g b there in let e = ap (λ w. w.addresses) same in omega (arith, parts, all, e)),
      )

  pub many_inboxes : (inboxes : List InboxData) → inboxes ≡ map (λ (l : LoadData). l.inbox) ls → length inboxes ≡ length now
  many_inboxes inboxes is =
      ap (λ (xs : List InboxData). length xs) is ∙ length-map ls (λ (l : LoadData). l.inbox) ∙ sym can.many
      ∙ sym (sym (length-map now (with_parts 1)) ∙ ap (λ (xs : List AddressData). length xs) back.wires_are ∙ length-map ps (with_parts 1))

  pub have_ended : (inboxes : List InboxData) (wires : List SettledData) (word : ClosedData) → inboxes ≡ map (λ (l : LoadData). l.inbox) ls → AreSettled now inboxes wires → word.total ≡ draw.base + word.draws → word.draws ≡ t.account.drawn → word.total ≡ t.account.top
      → HaveEnded asked ps ls wires word
  have_ended inboxes wires word is settled total draws top = record {
    one_each = settled.many ∙ sym (many_inboxes inboxes is) ∙ ap (λ (xs : List InboxData). length xs) is ∙ length-map ls (λ (l : LoadData). l.inbox);
    plan = λ g a x at at'. (
        let (b, there) = slice_get_below now g (let within = slice_get_within ps g a at in let long = length_same_images (with_parts 1) (with_parts 1) now ps back.wires_are in omega (arith, within, long)) in
        let (c, there', same) = was_at g b there in
        let e : c ≡ a = same_Some c a (sym there' ∙ at) in
        settled.plan g b x there at' ∙ sym (ap (λ w. w.plan) same) ∙ ap (λ (z : AddressData). z.wire.plan) e);
    got = λ g l x at at'. settled.got g l.inbox x (subst (λ (xs : List InboxData). slice_get xs g ≡ Some l.inbox) (sym is) (slice_get-map_some (λ (z : LoadData). z.inbox) ls g l at)) at';
    sent = λ g x letter at among. (
        let (b, there) = slice_get_below now g (let within = slice_get_within wires g x at in let many = settled.many in omega (arith, within, many)) in
        back.sent g b letter there (subst (λ (xs : List LetterData). IsAmong letter xs) (settled.sent g b x there at) among));
    total = (let base = can.base in let drawn = back.drawn in omega (arith, total, draws, base, drawn));
    tops = λ k l at. (let low = back.tops k l at in omega (arith, low, top));
    top = λ bound low all. (let less = back.top bound low all in omega (arith, less, top));
  }

-- ---- wires that are settled
pub settled_none : (ps : List AddressData) (is : List InboxData) → AreSettled [] is []
settled_none ps is = record { many = refl; plan = λ g a s at at'. absurd (none-some a at); sent = λ g a s at at'. absurd (none-some a at); got = λ g i s at at'. absurd (none-some s at') }

pub settled_more : (ps : List AddressData) (is : List InboxData) (ws : List SettledData) (a : AddressData) (i : InboxData) (w : SettledData) → AreSettled ps is ws → slice_get is (length ps) ≡ Some i → w.plan ≡ a.wire.plan → w.sent ≡ a.sent → w.got ≡ i.taken → AreSettled (ps ++ a ∷ []) is (ws ++ w ∷ [])
settled_more ps is ws a i w settled at plan sent got = record {
  many = (let many = settled.many in let more = length-append ps (a ∷ []) in let more' = length-append ws (w ∷ []) in omega (arith, many, more, more'));
  plan = both_more (λ g b s. s.plan ≡ b.wire.plan) ps ws a w (sym settled.many) settled.plan plan;
  sent = both_more (λ g b s. s.sent ≡ b.sent) ps ws a w (sym settled.many) settled.sent sent;
  got = λ g j s at_j at_s. elim (slice_get_push_at ws w g s at_s) [
    | inl old ↦ settled.got g j s at_j old
    | inr last ↦
        let place : g ≡ length ps = last.0 ∙ settled.many in
        let same : i ≡ j = same_Some i j (sym at ∙ subst (λ (n : ℕ). slice_get is n ≡ Some j) place at_j) in
        ap (λ (z : SettledData). z.got) last.1 ∙ got ∙ ap (λ (z : InboxData). z.taken) same
  ];
}

-- ---- the equipment of a round
module _ (m : System) (groups asked : ℕ) (draw : DrawData) (ps bs : List AddressData) (is : List InboxData) (s t : SeatData) (ls : List LoadData)
    (wires : AreWires m groups groups ps is) (off : AreSplitOff groups ps s bs t) (loads : AreNewLoads m groups groups asked draw.word ps is ls) where
  many_kept : length bs ≡ groups
  many_kept = length_same_images (with_parts 1) (with_parts 1) bs ps off.same ∙ wires.addresses_are

  first_at : (g : ℕ) (b : AddressData) → slice_get bs g ≡ Some b → (a : AddressData) × (i : InboxData) × (slice_get ps g ≡ Some a) × (slice_get is g ≡ Some i) × (a.wire ≡ b.wire)
  first_at g b at =
      let (a, there, same) = same_at (with_parts 1) bs ps off.same g b at in
      let (i, inbox) = slice_get_below is g (let within = slice_get_within ps g a there in let long = wires.addresses_are in let long' = wires.inboxes_are in omega (arith, within, long, long')) in
      (a, i, there, inbox, ap (λ (z : AddressData). z.wire) same)

  pub equipment_is : draw.base ≡ asked → draw.room ≡ 1 + seat_room * groups → t.word ≡ draw.word → s.account ≡ record { left = 1 + seat_room * groups; drawn = 0; top = asked } → IsEquipment m groups asked draw bs t ls
  equipment_is base room word account = record {
    base = base;
    room = room;
    word = word;
    account = (
        let left : t.account.left ≡ 1 = (let was = off.left in let e = ap (λ (a : Account). a.left) account in omega (arith, was, e)) in
        let drawn : t.account.drawn ≡ 0 = off.drawn ∙ ap (λ (a : Account). a.drawn) account in
        let top : t.account.top ≡ asked = off.top ∙ ap (λ (a : Account). a.top) account in
        λ i. record { left = left i; drawn = drawn i; top = top i });
    one_each = many_kept;
    kept = λ g b at. (
        let (a, i, there, inbox, same) = first_at g b at in
        let ends = wires.each g a i there inbox in
        let parts = off.parts g a b there at in
        let was = ends.parts in (
          sym (ap (λ w. w.plan) same) ∙ ends.plan,
          sym (ap (λ w. w.addresses) same) ∙ ends.addresses,
          omega (arith, parts, was),
          off.sent g b at,
        ));
    inboxes = is;
    inboxes_are = λ g b i at at'. (
        let (a, j, there, inbox, same) = first_at g b at in
        let e : j ≡ i = same_Some j i (sym inbox ∙ at') in
        let ends = wires.each g a j there inbox in
        (ap (λ (z : InboxData). z.wire) (sym e) ∙ ends.wire ∙ same, ap (λ (z : InboxData). z.taken) (sym e) ∙ ends.taken));
    long = wires.inboxes_are;
    new = record { one_each = loads.one_each; each = λ g i l at at'. new_load_over m groups g asked draw.word bs ps i l (sym off.same) (loads.each g i l at at') };
  }
