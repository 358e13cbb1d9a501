-- What a letter and a grant at one node make of its team.
use Rattle.std.proofs.Common.{◌≡◌, ℕ, ◌+◌, ◌^◌, ◌<◌, ◌≤◌, zero, suc, Bool, true, false, cond, List, [], ◌∷◌, map, length, Option, Some, is_some, slice_get, slice_set, get_or, refl, sym, ap, ◌∙◌, subst, inl, inr, ◌⊎◌, ◌↔◌, arith}
use Rattle.std.proofs.lemmas.Bool.{cases_eq}
use Rattle.std.proofs.lemmas.List.{length-map}
use Rattle.std.proofs.lemmas.List.Sums.{sum_by-append, sum_by-cons}
use Rattle.std.proofs.lemmas.Option.{get_or_from_slice_get, none-some, slice_get-get_or}
use Rattle.std.specs.List.{sum_by}
use Rattle.mcs_base.proofs.Among.{among_get, get_among}
use Rattle.mcs_base.proofs.Lists.{length_same_images, slice_get_below}
use Rattle.mcs_base.proofs.Sums.{sum_by-ones}
use Rattle.mcs_base.proofs.Written.{length-slice_set, slice_get-slice_set, image_kept, set_there, set_other}
use Rattle.mcs_system.specs.Plain.{Context}
use Rattle.mcs_node.specs.Rounds.{NodeState, Round, Stamp}
use Rattle.mcs_node.specs.Configurations.{new_node}
use Rattle.mcs_node.specs.Steps.{IsNeedOf}
use Rattle.mcs_node.specs.Letters.{LetterData, stamp_of}
use Rattle.mcs_node.specs.Nodes.{HasTaken, IsAwaited, IsNeed, NodeData}
use Rattle.mcs_node.proofs.ExistenceLemmas.{totals_exist}
use Rattle.mcs_node.specs.declared.handled.Handled.{Handled}
use Rattle.mcs_node.specs.declared.handled.Handled.TheVariants.{Ignored, Took}
use Rattle.atomic_table.specs.Seated.{TableId}
use Rattle.mcs_draw.specs.declared.account.Account.{Account}
use Rattle.mcs_mesh.specs.Players.{as_new}
use Rattle.mcs_wire.specs.Ends.{AddressData}
use Rattle.mcs_crew.specs.Teams.{AreNamed, CameOf, GoesOn, HasDrawn, HasGrant, HasHadNone, HasHadOne, HaveSent, IsAtPlay, IsServed, IsTeam, TeamData, is_granted, unsent, waits_not}
use Rattle.mcs_crew.specs.Weights.{by_stamp, granted_need, had_weight, sent_weight}
use Rattle.mcs_base.proofs.Placed.{same_at, sum_among, sum_but, sum_set, sum_short}
use Rattle.mcs_base.proofs.Results.{some_same}
use Rattle.mcs_crew.proofs.NodeSteps.{came_same, drawn_none, drawn_one, granted_came, need_of, taken_came, ungranted}

-- ---- needs
-- each context has a need, whether it is granted or not
abbrev granted_all : NodeState
granted_all = record new_node { granted = Some 0 }

states_at : (cs : List Context) (i : ℕ) (c : Context) → slice_get cs i ≡ Some c → slice_get (map (λ (x : Context). granted_all) cs) i ≡ Some granted_all
states_at [] i c at = absurd (none-some c at)
states_at (x ∷ cs) zero c at = refl
states_at (x ∷ cs) (suc i) c at = states_at cs i c at

pub needs_chosen : (r : Round) → (need : ℕ → ℕ) × ((i : ℕ) → i < length r.system.contexts → IsNeedOf r i (need i))
needs_chosen r =
    let long : length (map (λ (x : Context). granted_all) r.system.contexts) ≡ length r.system.contexts = length-map r.system.contexts (λ (x : Context). granted_all) in
    let (total, t) = totals_exist r (map (λ (x : Context). granted_all) r.system.contexts) long in (
      λ i. get_or t.needs i 0,
      λ i less. (
          let (c, there) = slice_get_below r.system.contexts i less in
          let (n, at) = slice_get_below t.needs i (let e = t.one_each in omega (arith, less, e, long)) in
          subst (λ (k : ℕ). IsNeedOf r i k) (sym (get_or_from_slice_get t.needs i n 0 at)) (t.added i granted_all n (states_at r.system.contexts i c there) at)),
    )

-- ---- letters that fit
module _ (r : Round) (asked : ℕ) (t : TeamData) (team : IsTeam r asked t) where
  -- few letters were sent
  pub few_sent : sent_weight (λ (l : LetterData). 1) t.addresses ≤ 4096
  few_sent =
      let same = team.sent (λ (s : Stamp). 1) in
      let out = sum_short (λ (d : NodeData). sum_by (λ (s : Stamp). 1) d.state.put_out) t.nodes (λ d among.
      let (q, at) = get_among d t.nodes among in let short = (team.nodes q d at).short in omega (arith, short, sum_by-ones d.state.put_out)) in
      let few = team.few in
      omega (arith, same, out, few)

  -- so few by each address
  pub few_each : (g : ℕ) (a : AddressData) → slice_get t.addresses g ≡ Some a → length a.sent ≤ 4096
  few_each g a at =
      let one = sum_among (λ (b : AddressData). sum_by (λ (l : LetterData). 1) b.sent) t.addresses a (among_get a t.addresses g at) in
      let all = few_sent in omega (arith, one, all, sum_by-ones a.sent)

  -- a node that waits for its grant may draw its need
  pub need_fits : (p : ℕ) (d : NodeData) → slice_get t.nodes p ≡ Some d → (need : ℕ) → IsNeed d need → need ≤ t.seat.account.left
  need_fits p d at need is_need =
      let play = team.nodes p d at in
      let (needs, all) = needs_chosen r in
      let none : granted_need needs d ≡ 0 = ap (λ (o : Option ℕ). cond (is_some o) (needs d.context) 0) (ungranted r d d play need 0 is_need) in
      let least = sum_but (granted_need needs) t.nodes p d at none (λ e among.
      let (q, there) = get_among e t.nodes among in
      few_need (is_some e.state.granted) (needs e.context) (team.small e.context (needs e.context) (team.nodes q e there).in_range (all e.context (team.nodes q e there).in_range))) in
      let drawn = team.drawn needs all in
      let room = team.room in
      let few = team.few in
      let small = team.small d.context need play.in_range (need_of r d d play need 0 is_need) in
      omega (arith, least, drawn, room, few, small)
    where
      few_need : (b : Bool) (n : ℕ) → n ≤ 4096 → cond b n 0 ≤ 4096
      few_need true n few = few
      few_need false n few = omega arith

-- ---- a team with one node more at work
module _ (r : Round) (asked : ℕ) (t : TeamData) (team : IsTeam r asked t) (p : ℕ) (d e : NodeData) (at : slice_get t.nodes p ≡ Some d) (came : CameOf r d e) (b : Account) (draws : HasDrawn r d e t.seat.account b) (addresses : List AddressData) (sent : HaveSent e.outbox t.addresses addresses) where
  abbrev now : NodeData
  now = record e { outbox = [] }

  abbrev pub team_then : TeamData
  team_then = record { nodes = slice_set t.nodes p now; addresses = addresses; seat = record { word = t.seat.word; account = b } }

  play_then : (q : ℕ) (x : NodeData) → slice_get (slice_set t.nodes p now) q ≡ Some x → IsAtPlay r x
  play_then q x there = elim (slice_get-slice_set t.nodes p q now x there) [
    | inl here ↦ subst (λ (z : NodeData). IsAtPlay r z) (sym here.1) came.at_play
    | inr other ↦ team.nodes q x other.1
  ]

  -- what was granted before is granted still
  grant_kept : (total : ℕ) → HasGrant t.nodes total → HasGrant (slice_set t.nodes p now) total
  grant_kept total (q, x, there, is) = elim (cases_eq q p) [
    | inl same ↦
        let x_is : x ≡ d = some_same (slice_get t.nodes p) x d (subst (λ (k : ℕ). slice_get t.nodes k ≡ Some x) same there) at in
        (p, now, set_there t.nodes p d now at, draws.kept total (sym (ap (λ (z : NodeData). z.state.granted) x_is) ∙ is))
    | inr differ ↦ (q, x, set_other t.nodes p q x now differ there, is)
  ]

  grant_then : (total : ℕ) → HasGrant (slice_set t.nodes p now) total → total ≤ b.top
  grant_then total (q, x, there, is) = elim (slice_get-slice_set t.nodes p q now x there) [
    | inl here ↦ elim (draws.below total (sym (ap (λ (z : NodeData). z.state.granted) here.1) ∙ is)) [
      | inl low ↦ low
      | inr old ↦ let low = team.granted total (p, d, at, old) in let more = draws.rises in omega (arith, low, more)
    ]
    | inr other ↦ let low = team.granted total (q, x, other.1, is) in let more = draws.rises in omega (arith, low, more)
  ]

  pub team_is : IsTeam r asked team_then
  team_is = record {
    nodes = play_then;
    few = (let long = length-slice_set t.nodes p now in let few = team.few in omega (arith, long, few));
    small = team.small;
    some_wire = (let long = length_same_images unsent unsent addresses t.addresses sent.same in let some = team.some_wire in omega (arith, long, some));
    wires = λ g a there. (let (a', there', is) = same_at unsent addresses t.addresses sent.same g a there in sym (ap (λ (z : AddressData). z.wire.plan) is) ∙ team.wires g a' there');
    sent = λ weight. (
        let more = sent.sent (by_stamp weight) in
        let was = team.sent weight in
        let changed = sum_set (λ (x : NodeData). sum_by weight x.state.put_out) t.nodes p d now at in
        let out = came.put_out weight in
        omega (arith, more, was, changed, out));
    drawn = λ need all. (
        let was = team.drawn need all in
        let more = draws.needs need all in
        let changed = sum_set (granted_need need) t.nodes p d now at in
        omega (arith, was, more, changed));
    room = draws.whole ∙ team.room;
    granted = grant_then;
    top = λ bound low all. draws.top bound
        (team.top bound low (λ total grant. all total (grant_kept total grant)))
        (λ total is. all total (p, now, set_there t.nodes p d now at, is));
  }

-- ---- what is left to be known of the nodes
-- the stamps had change only at the one node
had_set : (weight : Stamp → ℕ) (nodes : List NodeData) (p : ℕ) (d e : NodeData) → slice_get nodes p ≡ Some d → had_weight weight (slice_set nodes p e) + sum_by weight d.state.had ≡ had_weight weight nodes + sum_by weight e.state.had
had_set weight nodes p d e at = sum_set (λ (x : NodeData). sum_by weight x.state.had) nodes p d e at

-- ---- a node that is served
module _ (t : TeamData) (p : ℕ) (d e : NodeData) (at : slice_get t.nodes p ≡ Some d) (b : Account) where
  pub served_team : (r : Round) (asked : ℕ) → IsServed d e t.seat.account b → IsTeam r asked t → CameOf r d e × HasDrawn r d e t.seat.account b × (e.state.had ≡ d.state.had)
  served_team r asked (waits_not same account) team =
      let play = team.nodes p d at in (
        subst (λ (z : NodeData). CameOf r d z) (sym same) (came_same r d play),
        subst (λ (z : Account). HasDrawn r d e t.seat.account z) (sym account) (drawn_none r d e t.seat.account (ap (λ (z : NodeData). z.state.granted) same) (ap (λ (z : NodeData). z.context) same)),
        ap (λ (z : NodeData). z.state.had) same,
      )
  served_team r asked (is_granted need total is_need grant account rises) team =
      let play = team.nodes p d at in
      let came = granted_came r d e play need total is_need grant in (
        came.0,
        subst (λ (z : Account). HasDrawn r d e t.seat.account z) (sym account)
            (drawn_one r d e t.seat.account play need total is_need grant (ap (λ (z : NodeData). z.context) came.0.same) (need_fits r asked t team p d at need is_need) rises),
        came.1,
      )

  module _ (addresses : List AddressData) (sent : HaveSent e.outbox t.addresses addresses) where
    abbrev pub when_served : TeamData
    when_served = record { nodes = slice_set t.nodes p (record e { outbox = [] }); addresses = addresses; seat = record { word = t.seat.word; account = b } }

    pub served_goes_on : (r : Round) (asked : ℕ) → IsTeam r asked t → IsServed d e t.seat.account b → GoesOn t when_served
    served_goes_on r asked team served = record {
      same = image_kept as_new t.nodes p d (record e { outbox = [] }) at (served_team r asked served team).0.same;
      wires = sent.same;
      word = refl;
      team = λ r' asked' team'. (let s = served_team r' asked' served team' in team_is r' asked' t team' p d e at s.0 b s.1 addresses sent);
    }

    pub served_had : (r : Round) (asked : ℕ) → IsTeam r asked t → IsServed d e t.seat.account b → HasHadNone t when_served
    served_had r asked team served = λ weight. (
        let changed = had_set weight t.nodes p d (record e { outbox = [] }) at in
        let same = ap (sum_by weight) (served_team r asked served team).2 in
        omega (arith, changed, same))

-- ---- what the code makes of a team
-- what is read at a place stands there
pub stands_at : (nodes : List NodeData) (p : ℕ) (d x : NodeData) → p < length nodes → d ≡ get_or nodes p x → slice_get nodes p ≡ Some d
stands_at nodes p d x less is = slice_get-get_or nodes p x less ∙ ap (λ (z : NodeData). Some z) (sym is)

-- one node was written, and of the seat only the account has changed
pub team_made : (t u : TeamData) (p : ℕ) (n e : NodeData) (addresses : List AddressData) → u.nodes ≡ slice_set t.nodes p n → n ≡ record e { outbox = [] } → u.addresses ≡ addresses → u.seat.word ≡ t.seat.word
    → record { nodes = slice_set t.nodes p (record e { outbox = [] }); addresses = addresses; seat = record { word = t.seat.word; account = u.seat.account } } ≡ u
team_made t u p n e addresses nodes is sent word = sym (
    ap (λ (ns : List NodeData). record { nodes = ns; addresses = u.addresses; seat = u.seat }) (nodes ∙ ap (slice_set t.nodes p) is)
    ∙ ap (λ (ps : List AddressData). record { nodes = slice_set t.nodes p (record e { outbox = [] }); addresses = ps; seat = u.seat }) sent
    ∙ ap (λ (w : TableId). record { nodes = slice_set t.nodes p (record e { outbox = [] }); addresses = addresses; seat = record { word = w; account = u.seat.account } }) word)

-- ---- a node that is handed a letter
-- it took the letter, or nothing happened
abbrev pub IsHanded : LetterData → NodeData → NodeData → Type 0
IsHanded l d e = (IsAwaited l d × HasTaken l d e) ⊎ (e ≡ d)

module _ (l : LetterData) (t : TeamData) (p : ℕ) (d e : NodeData) (at : slice_get t.nodes p ≡ Some d) where
  pub handed_team : (r : Round) (asked : ℕ) → IsHanded l d e → IsTeam r asked t → CameOf r d e × HasDrawn r d e t.seat.account t.seat.account
  handed_team r asked (inl (awaited, taken)) team =
      let came = taken_came r l d e (team.nodes p d at) awaited taken in
      (came.0, drawn_none r d e t.seat.account came.2 (ap (λ (z : NodeData). z.context) came.0.same))
  handed_team r asked (inr same) team = (
    subst (λ (z : NodeData). CameOf r d z) (sym same) (came_same r d (team.nodes p d at)),
    drawn_none r d e t.seat.account (ap (λ (z : NodeData). z.state.granted) same) (ap (λ (z : NodeData). z.context) same),
  )

  module _ (addresses : List AddressData) (sent : HaveSent e.outbox t.addresses addresses) where
    abbrev pub when_handed : TeamData
    when_handed = record { nodes = slice_set t.nodes p (record e { outbox = [] }); addresses = addresses; seat = t.seat }

    pub handed_goes_on : (r : Round) (asked : ℕ) → IsTeam r asked t → IsHanded l d e → GoesOn t when_handed
    handed_goes_on r asked team handed = record {
      same = image_kept as_new t.nodes p d (record e { outbox = [] }) at (handed_team r asked handed team).0.same;
      wires = sent.same;
      word = refl;
      team = λ r' asked' team'. (let s = handed_team r' asked' handed team' in team_is r' asked' t team' p d e at s.0 t.seat.account s.1 addresses sent);
    }

    pub handed_had : (r : Round) (asked : ℕ) → IsTeam r asked t → IsHanded l d e → HasHadOne l t when_handed ⊎ HasHadNone t when_handed
    handed_had r asked team (inl (awaited, taken)) = inl (λ weight. (
        let changed = had_set weight t.nodes p d (record e { outbox = [] }) at in
        let more = ap (sum_by weight) (taken_came r l d e (team.nodes p d at) awaited taken).1 in
        let parts = sum_by-append weight d.state.had (stamp_of l ∷ []) in
        let one = sum_by-cons weight (stamp_of l) [] in
        omega (arith, changed, more, parts, one)))
    handed_had r asked team (inr same) = inr (λ weight. (
        let changed = had_set weight t.nodes p d (record e { outbox = [] }) at in
        let kept = ap (λ (z : NodeData). sum_by weight z.state.had) same in
        omega (arith, changed, kept)))

pub is_handed : (l : LetterData) (d e : NodeData) (h : Handled) → ((h ≡ Took) ↔ IsAwaited l d) → (h ≡ Ignored → e ≡ d) → (h ≡ Took → HasTaken l d e) → IsHanded l d e
is_handed l d e Took took nothing taken = inl (took.0 refl, taken refl)
is_handed l d e Ignored took nothing taken = inr (nothing refl)

-- ---- what it has put out may be sent
module _ (r : Round) (asked : ℕ) (t : TeamData) (team : IsTeam r asked t) (d e : NodeData) (came : CameOf r d e) where
  pub few_to_send : sent_weight (λ (l : LetterData). 1) t.addresses + length e.outbox < 2 ^ 62
  few_to_send = let few = few_sent r asked t team in let more = came.few in omega (arith, few, more)

  pub named_to_send : AreNamed e.outbox t.addresses
  named_to_send g a there l among = came.named l among ∙ sym (team.wires g a there)

-- ---- one after the other
pub goes_on_none : (t : TeamData) → GoesOn t t
goes_on_none t = record { same = refl; wires = refl; word = refl; team = λ r asked team. team }

pub goes_on_more : (s t u : TeamData) → GoesOn s t → GoesOn t u → GoesOn s u
goes_on_more s t u h k = record { same = k.same ∙ h.same; wires = k.wires ∙ h.wires; word = k.word ∙ h.word; team = λ r asked team. k.team r asked (h.team r asked team) }

pub had_none_more : (s t u : TeamData) → HasHadNone s t → HasHadNone t u → HasHadNone s u
had_none_more s t u h k = λ weight. k weight ∙ h weight

pub had_then_none : (l : LetterData) (s t u : TeamData) → HasHadOne l s t ⊎ HasHadNone s t → HasHadNone t u → HasHadOne l s u ⊎ HasHadNone s u
had_then_none l s t u (inl one) k = inl (λ weight. k weight ∙ one weight)
had_then_none l s t u (inr none) k = inr (λ weight. k weight ∙ none weight)
