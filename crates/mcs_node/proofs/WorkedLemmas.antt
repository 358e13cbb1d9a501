-- Worked rounds of two contexts, of which the first supplies the second.
use Rattle.std.proofs.Common.{◌≡◌, ℕ, ◌+◌, ◌<◌, ◌≤◌, zero, suc, Bool, true, false, true≢false, List, [], ◌∷◌, ◌++◌, map, length, Option, Some, None, slice_get, slice_set, refl, sym, ap, ap₂, ◌∙◌, subst, inl, inr, arith}
use Rattle.std.specs.List.{sum_by}
use Rattle.mcs_base.specs.Listings.{IsAmong, IsInventory}
use Rattle.mcs_base.proofs.ListingLemmas.{same_listing}
use Rattle.mcs_base.proofs.Results.{some_same, no_none}
use Rattle.mcs_base.proofs.Lists.{two_of}
use Rattle.mcs_base.proofs.Sums.{sum_of_two}
use Rattle.mcs_base.proofs.Bags.{inventory_one, inventory_none}
use Rattle.mcs_base.proofs.Written.{set_there}
use Rattle.mcs_system.specs.Plain.{Context, System}
use Rattle.mcs_import.proofs.CountLemmas.{count_is_one}
use Rattle.mcs_states.specs.declared.halt.Halt.{Halt}
use Rattle.mcs_states.specs.declared.halt.Halt.TheVariants.{Spent, Missing, Memory}
use Rattle.mcs_node.specs.declared.event.Event.{Event}
use Rattle.mcs_node.specs.declared.event.Event.TheVariants.{Begin, Grant, Deliver}
use Rattle.mcs_node.specs.Rounds.{Stamp, stamp, Round, NodeState, HasNoStop, IsSupplyTo, IsSentBy, IsNewQuestion}
use Rattle.mcs_node.specs.Configurations.{Configuration, HasNode, new_node, first_configuration, IsHaltOfSender, IsSound, AwaitsGrant}
use Rattle.mcs_node.specs.Steps.{WereAsked, IsNeedOf, Adds, IsTotal, Takes, IsPossible, Changes, Reacts, TakesPlace, Outcome, Skipped, Ignored, Taken, Runs}
use Rattle.mcs_node.specs.Worked.{AreTwo, letter, both, IsCalm, AreCalm, LeadTo, begun_node, finished, overdrawn, stopped_by, halted_at, TurnsAreTaken, ImpossibleIsSkipped, StopsAreCarried, MemoryMayRunOut, AnswersMayBeMissing}
use Rattle.mcs_node.proofs.StepLemmas.{first_is_sound}
use Rattle.mcs_node.proofs.EventLemmas.{IsCertain, certain_skipped, certain_ignored, certain_taken, lead_nil, lead_cons, IsOpen, may_wait, may_finish, may_stop, may_be_stopped, does_wait, does_finish, does_stop, is_halted, granted_open}

-- ---- what takes place, node by node
-- the event made t of the node of context i, which then did something of its own
record Became (r : Round) (c : Configuration) (i : ℕ) (t : NodeState) (d : Configuration) : Type 0 where
  new : List Stamp
  after : NodeState
  reacts : Reacts r c i t new after
  is : d ≡ record { nodes = slice_set c.nodes i after; letters = c.letters ++ new }

abbrev pub left_by : Configuration → ℕ → List Stamp → NodeState → Configuration
left_by c i new u = record { nodes = slice_set c.nodes i u; letters = c.letters ++ new }

became : (r : Round) (c : Configuration) (e : Event) (d : Configuration) (step : TakesPlace r c e d) (i : ℕ) (t : NodeState) → step.context ≡ i → step.changed ≡ t → Became r c i t d
became r c e d step i t here is = record {
  new = step.new;
  after = step.after;
  reacts = subst (λ (j : ℕ). Reacts r c j t step.new step.after) here (subst (λ (s : NodeState). Reacts r c step.context s step.new step.after) is step.reacts);
  is = ap₂ (λ (ns : List NodeState) (ls : List Stamp). record { nodes = ns; letters = ls }) (step.nodes ∙ ap (λ (j : ℕ). slice_set c.nodes j step.after) here) step.letters;
}

old_is : (r : Round) (c : Configuration) (e : Event) (d : Configuration) (step : TakesPlace r c e d) (i : ℕ) (s : NodeState) → HasNode c i s → step.context ≡ i → step.old ≡ s
old_is r c e d step i s at here = some_same (slice_get c.nodes i) step.old s (subst (λ (j : ℕ). HasNode c j step.old) here step.node) at

begin_became : (r : Round) (c d : Configuration) (i : ℕ) (s : NodeState) → HasNode c i s → TakesPlace r c (Begin i) d → Became r c i (record s { begun = true }) d
begin_became r c d i s at step =
    let (here, unbegun, is) = step.changes in
    became r c (Begin i) d step i (record s { begun = true }) (sym here) (is ∙ ap (λ (p : NodeState). record p { begun = true }) (old_is r c (Begin i) d step i s at (sym here)))

grant_became : (r : Round) (c d : Configuration) (i : ℕ) (s : NodeState) → HasNode c i s → TakesPlace r c (Grant i) d
    → (total : ℕ) × IsTotal r (slice_set c.nodes i (record s { granted = Some total })) total × Became r c i (record s { granted = Some total }) d
grant_became r c d i s at step =
    let (here, awaits, total, counted, is) = step.changes in
    let made : step.changed ≡ record s { granted = Some total } = is ∙ ap (λ (p : NodeState). record p { granted = Some total }) (old_is r c (Grant i) d step i s at (sym here)) in (
      total,
      subst (λ (p : NodeState). IsTotal r (slice_set c.nodes i p) total) made (subst (λ (j : ℕ). IsTotal r (slice_set c.nodes j step.changed) total) (sym here) counted),
      became r c (Grant i) d step i (record s { granted = Some total }) (sym here) made,
    )

deliver_became : (r : Round) (c d : Configuration) (n : ℕ) (x : Stamp) (s : NodeState) → slice_get c.letters n ≡ Some x → HasNode c x.to s → TakesPlace r c (Deliver n) d → Became r c x.to (record s { had = s.had ++ x ∷ [] }) d
deliver_became r c d n x s there at step =
    let (y, there', takes, is) = step.changes in
    let same : y ≡ x = some_same (slice_get c.letters n) y x there' there in
    let here : step.context ≡ x.to = sym takes.addressed ∙ ap (λ (z : Stamp). z.to) same in
    became r c (Deliver n) d step x.to (record s { had = s.had ++ x ∷ [] }) here
    (is ∙ ap₂ (λ (p : NodeState) (z : Stamp). record p { had = p.had ++ z ∷ [] }) (old_is r c (Deliver n) d step x.to s at here) same)

pub takes_place : (r : Round) (c : Configuration) (e : Event) (i : ℕ) (s t u : NodeState) (new : List Stamp) → HasNode c i s → Changes r c e i s t → Reacts r c i t new u → TakesPlace r c e (left_by c i new u)
takes_place r c e i s t u new at changes reacts = record { context = i; old = s; changed = t; after = u; new = new; node = at; changes = changes; reacts = reacts; nodes = refl; letters = refl }

-- what is left where the node did the one thing that it could
left_as : (r : Round) (c : Configuration) (i : ℕ) (t : NodeState) (d : Configuration) (b : Became r c i t d) (new : List Stamp) (u : NodeState) → b.new ≡ new → b.after ≡ u → d ≡ left_by c i new u
left_as r c i t d b new u same is = b.is ∙ ap₂ (λ (l : List Stamp) (p : NodeState). left_by c i l p) same is

-- the node that changed is calm where all are
calm_after : (r : Round) (c : Configuration) (i : ℕ) (s t : NodeState) (d : Configuration) → HasNode c i s → (b : Became r c i t d) → AreCalm d → IsCalm b.after.halt
calm_after r c i s t d at b calm = calm i b.after (subst (λ (e : Configuration). HasNode e i b.after) (sym b.is) (set_there c.nodes i s b.after at))

-- ---- certain events
pub certain_begin : (r : Round) (c : Configuration) (i : ℕ) → HasNode c i new_node → IsCertain r c (Begin i) Taken (left_by c i [] begun_node)
certain_begin r c i at = certain_taken r c (Begin i) (left_by c i [] begun_node)
    (takes_place r c (Begin i) i new_node begun_node begun_node [] at (refl, refl, refl) (may_wait r c i begun_node opened refl (λ x h. absurd h)))
    (λ d step calm. let b = begin_became r c d i new_node at step in
    let (same, is) = does_wait r c i begun_node opened b.new b.after b.reacts (calm_after r c i new_node begun_node d at b calm) refl (λ x h. absurd h) in
    left_as r c i begun_node d b [] begun_node same is)
  where
    opened : IsOpen begun_node
    opened = record { put_out = refl; done = refl; halt = refl; by_itself = refl }

module _ (r : Round) (c : Configuration) (i : ℕ) (s : NodeState) (at : HasNode c i s) (is_open : IsOpen s) (awaits : AwaitsGrant r i s) (total : ℕ)
    (counted : IsTotal r (slice_set c.nodes i (record s { granted = Some total })) total) (alone : (n : ℕ) → IsTotal r (slice_set c.nodes i (record s { granted = Some n })) n → n ≡ total) (new : List Stamp) where
  -- each grant is of the one total
  to_total : (d : Configuration) → TakesPlace r c (Grant i) d → Became r c i (record s { granted = Some total }) d
  to_total d step = let (n, counted', b) = grant_became r c d i s at step in subst (λ (k : ℕ). Became r c i (record s { granted = Some k }) d) (alone n counted') b

  certain_grant : total ≤ r.budget → IsInventory (IsSupplyTo r i) s.had → IsInventory (IsSentBy r i false) new → ((xs : List Stamp) → IsInventory (IsSentBy r i false) xs → xs ≡ new)
      → IsCertain r c (Grant i) Taken (left_by c i new (record s { granted = Some total; put_out = new; done = true }))
  certain_grant within had sent one = certain_taken r c (Grant i) (left_by c i new (record s { granted = Some total; put_out = new; done = true }))
      (takes_place r c (Grant i) i s (record s { granted = Some total }) (record s { granted = Some total; put_out = new; done = true }) new at (refl, awaits, total, counted, refl)
      (may_finish r c i (record s { granted = Some total }) (granted_open s is_open total) new (total, refl, within) had sent))
      (λ d step calm. let b = to_total d step in
      let (sent', is) = does_finish r c i (record s { granted = Some total }) (granted_open s is_open total) b.new b.after b.reacts (calm_after r c i s (record s { granted = Some total }) d at b calm) total refl within in
      let same : b.new ≡ new = one b.new sent' in
      left_as r c i (record s { granted = Some total }) d b new (record s { granted = Some total; put_out = new; done = true }) same
      (is ∙ ap (λ (l : List Stamp). record s { granted = Some total; put_out = l; done = true }) same))

  pub certain_over : r.budget < total → IsInventory (IsSentBy r i true) new → ((xs : List Stamp) → IsInventory (IsSentBy r i true) xs → xs ≡ new)
      → IsCertain r c (Grant i) Taken (left_by c i new (record s { granted = Some total; put_out = new; halt = Some (Spent r.level total); by_itself = true }))
  certain_over over sent one = certain_taken r c (Grant i) (left_by c i new (record s { granted = Some total; put_out = new; halt = Some (Spent r.level total); by_itself = true }))
      (takes_place r c (Grant i) i s (record s { granted = Some total }) (record s { granted = Some total; put_out = new; halt = Some (Spent r.level total); by_itself = true }) new at (refl, awaits, total, counted, refl)
      (may_stop r c i (record s { granted = Some total }) (granted_open s is_open total) new (Spent r.level total) (refl, refl, over) sent))
      (λ d step calm. let b = to_total d step in
      let (sent', is) = does_stop r c i (record s { granted = Some total }) (granted_open s is_open total) b.new b.after b.reacts (calm_after r c i s (record s { granted = Some total }) d at b calm) total refl over in
      let same : b.new ≡ new = one b.new sent' in
      left_as r c i (record s { granted = Some total }) d b new (record s { granted = Some total; put_out = new; halt = Some (Spent r.level total); by_itself = true }) same
      (is ∙ ap (λ (l : List Stamp). record s { granted = Some total; put_out = l; halt = Some (Spent r.level total); by_itself = true }) same))

-- a letter to a node that has begun and has had nothing
module _ (r : Round) (c : Configuration) (n : ℕ) (x : Stamp) (there : slice_get c.letters n ≡ Some x) (at : HasNode c x.to begun_node) where
  told_open : IsOpen (record begun_node { had = x ∷ [] })
  told_open = record { put_out = refl; done = refl; halt = refl; by_itself = refl }

  takes : Takes x.to begun_node x
  takes = record { addressed = refl; begun = refl; first = (λ y h. absurd h) }

  pub certain_supply : x.stop ≡ false → IsCertain r c (Deliver n) Taken (left_by c x.to [] (record begun_node { had = x ∷ [] }))
  certain_supply supply = certain_taken r c (Deliver n) (left_by c x.to [] (record begun_node { had = x ∷ [] }))
      (takes_place r c (Deliver n) x.to begun_node (record begun_node { had = x ∷ [] }) (record begun_node { had = x ∷ [] }) [] at (x, there, takes, refl)
      (may_wait r c x.to (record begun_node { had = x ∷ [] }) told_open refl no_stop))
      (λ d step calm. let b = deliver_became r c d n x begun_node there at step in
      let (same, is) = does_wait r c x.to (record begun_node { had = x ∷ [] }) told_open b.new b.after b.reacts (calm_after r c x.to begun_node (record begun_node { had = x ∷ [] }) d at b calm) refl no_stop in
      left_as r c x.to (record begun_node { had = x ∷ [] }) d b [] (record begun_node { had = x ∷ [] }) same is)
    where
      no_stop : HasNoStop (x ∷ [])
      no_stop y (inl e) = ap (λ (z : Stamp). z.stop) e ∙ supply
      no_stop y (inr none) = absurd none

  certain_stop : x.stop ≡ true → (s : NodeState) (halt : Halt) (new : List Stamp) → HasNode c x.from s → s.halt ≡ Some halt → IsInventory (IsSentBy r x.to true) new
      → ((xs : List Stamp) → IsInventory (IsSentBy r x.to true) xs → xs ≡ new) → IsCertain r c (Deliver n) Taken (left_by c x.to new (record begun_node { had = x ∷ []; put_out = new; halt = Some halt }))
  certain_stop stop s halt new from is sent one = certain_taken r c (Deliver n) (left_by c x.to new (record begun_node { had = x ∷ []; put_out = new; halt = Some halt }))
      (takes_place r c (Deliver n) x.to begun_node (record begun_node { had = x ∷ [] }) (record begun_node { had = x ∷ []; put_out = new; halt = Some halt }) new at (x, there, takes, refl)
      (may_be_stopped r c x.to (record begun_node { had = x ∷ [] }) told_open new halt x s (inl refl) stop from is refl sent))
      (λ d step calm. let b = deliver_became r c d n x begun_node there at step in
      let (sent', made) = is_halted r c x.to (record begun_node { had = x ∷ [] }) told_open b.new b.after b.reacts (calm_after r c x.to begun_node (record begun_node { had = x ∷ [] }) d at b calm) halt x refl (inl refl) stop only in
      let same : b.new ≡ new = one b.new sent' in
      left_as r c x.to (record begun_node { had = x ∷ [] }) d b new (record begun_node { had = x ∷ []; put_out = new; halt = Some halt }) same
      (made ∙ ap (λ (l : List Stamp). record begun_node { had = x ∷ []; put_out = l; halt = Some halt }) same))
    where
      only : (other : Halt) → IsHaltOfSender c (x ∷ []) other → other ≡ halt
      only other (y, t, inl e, stop', at', is') =
          some_same s.halt other halt (ap (λ (p : NodeState). p.halt) (some_same (slice_get c.nodes x.from) s t from (subst (λ (z : Stamp). HasNode c z.from t) e at')) ∙ is') is
      only other (y, t, inr none, stop', at', is') = absurd none

-- ---- the two contexts
inventory_of_one : {A : Type 0} (P : A → Type 0) (a : A) → P a → ((x : A) → P x → x ≡ a) → IsInventory P (a ∷ [])
inventory_of_one P a has only = record {
  exactly = (λ x. (to x, λ p. inl (only x p)));
  apart = ((λ h. h), tt);
}
  where
    to : (x : _) → IsAmong x (a ∷ []) → P x
    to x (inl e) = subst P (sym e) has
    to x (inr none) = absurd none

inventory_of_none : {A : Type 0} (P : A → Type 0) → ((x : A) → ¬ P x) → IsInventory P []
inventory_of_none P none = record { exactly = (λ x. ((λ h. absurd h), (λ p. absurd (none x p)))); apart = tt }

pub need_one : (r : Round) (i n k : ℕ) → IsNeedOf r i n → IsNeedOf r i k → n ≡ k
need_one r i n k (xs, listing, is) (ys, listing', is') = is ∙ ap (λ (l : List ℕ). length l) same ∙ sym is'
  where
    same : xs ≡ ys
    same = same_listing (λ (a b : ℕ). a < b) (λ x y h k. omega (arith, h, k)) (IsNewQuestion r i) xs ys listing listing'

pub asked_one : (m : System) (before : Option ℕ) (n k : ℕ) → WereAsked m before n → WereAsked m before k → n ≡ k
asked_one m None n k a b = a ∙ sym b
asked_one m (Some done) n k a b = count_is_one m done n k a b

node_is : (a s : NodeState) → Some a ≡ Some s → s ≡ a
node_is a s at = some_same (Some a) s a at refl

module _ (r : Round) (base first second : ℕ) (two : AreTwo r base first second) where
  supply_is : (x : Stamp) → IsSupplyTo r 1 x → x ≡ letter r false
  supply_is x (j, s, e) = e ∙ ap (λ (k : ℕ). stamp r.level k 1 false) (two.alone j 1 s).0

  no_supply : (x : Stamp) → ¬ IsSupplyTo r 0 x
  no_supply x (j, s, e) = let no = (two.alone j 0 s).1 in omega (arith, no)

  sent_is : (stop : Bool) (x : Stamp) → IsSentBy r 0 stop x → x ≡ letter r stop
  sent_is stop x (j, s, e) = e ∙ ap (λ (k : ℕ). stamp r.level 0 k stop) (two.alone 0 j s).1

  none_sent : (stop : Bool) (x : Stamp) → ¬ IsSentBy r 1 stop x
  none_sent stop x (j, s, e) = let no = (two.alone 1 j s).0 in omega (arith, no)

  first_sends : (stop : Bool) → IsInventory (IsSentBy r 0 stop) (letter r stop ∷ [])
  first_sends stop = inventory_of_one (IsSentBy r 0 stop) (letter r stop) (1, two.supplies, refl) (sent_is stop)

  first_sent : (stop : Bool) (xs : List Stamp) → IsInventory (IsSentBy r 0 stop) xs → xs ≡ letter r stop ∷ []
  first_sent stop xs list = inventory_one (IsSentBy r 0 stop) (letter r stop) xs (1, two.supplies, refl) (sent_is stop) list

  pub second_sends : (stop : Bool) → IsInventory (IsSentBy r 1 stop) []
  second_sends stop = inventory_of_none (IsSentBy r 1 stop) (none_sent stop)

  pub second_sent : (stop : Bool) (xs : List Stamp) → IsInventory (IsSentBy r 1 stop) xs → xs ≡ []
  second_sent stop xs list = inventory_none (IsSentBy r 1 stop) xs (none_sent stop) list

  -- ---- totals
  pub made_total : (a b : NodeState) (x y n : ℕ) → Adds r 0 a.granted x → Adds r 1 b.granted y → n ≡ base + x + y → IsTotal r (a ∷ b ∷ []) n
  made_total a b x y n first_adds second_adds is = record {
    base = base;
    asked = two.asked;
    needs = x ∷ y ∷ [];
    one_each = refl;
    added = added;
    whole = omega (arith, is, sum_of_two (λ (n : ℕ). n) x y);
  }
    where
      added : (i : ℕ) (s : NodeState) (k : ℕ) → slice_get (a ∷ b ∷ []) i ≡ Some s → slice_get (x ∷ y ∷ []) i ≡ Some k → Adds r i s.granted k
      added zero s k at at' = subst (λ (p : NodeState). Adds r 0 p.granted k) (some_same (Some a) a s refl at) (subst (λ (m : ℕ). Adds r 0 a.granted m) (some_same (Some x) x k refl at') first_adds)
      added (suc zero) s k at at' = subst (λ (p : NodeState). Adds r 1 p.granted k) (some_same (Some b) b s refl at) (subst (λ (m : ℕ). Adds r 1 b.granted m) (some_same (Some y) y k refl at') second_adds)
      added (suc (suc i)) s k at at' = absurd (no_none None s refl at)

  pub one_total : (a b : NodeState) (x y n : ℕ) → ((k : ℕ) → Adds r 0 a.granted k → k ≡ x) → ((k : ℕ) → Adds r 1 b.granted k → k ≡ y) → IsTotal r (a ∷ b ∷ []) n → n ≡ base + x + y
  one_total a b x y n first_adds second_adds t =
      let (j, k, is) = two_of t.needs t.one_each in
      let e = first_adds j (t.added 0 a j refl (ap (λ (l : List ℕ). slice_get l 0) is)) in
      let e' = second_adds k (t.added 1 b k refl (ap (λ (l : List ℕ). slice_get l 1) is)) in
      let e'' = asked_one r.system r.before t.base base t.asked two.asked in
      omega (arith, t.whole, ap (λ (l : List ℕ). sum_by (λ (m : ℕ). m) l) is, sum_of_two (λ (n : ℕ). n) j k, e, e', e'')

  -- ---- the first node alone was granted its need
  first_total : (b : NodeState) → b.granted ≡ None → IsTotal r (record begun_node { granted = Some (base + first) } ∷ b ∷ []) (base + first)
  first_total b none = made_total (record begun_node { granted = Some (base + first) }) b first 0 (base + first) two.first_need (subst (λ (g : Option ℕ). Adds r 1 g 0) (sym none) refl) (omega arith)

  first_alone : (b : NodeState) → b.granted ≡ None → (n : ℕ) → IsTotal r (record begun_node { granted = Some n } ∷ b ∷ []) n → n ≡ base + first
  first_alone b none n t =
      let e = one_total (record begun_node { granted = Some n }) b first 0 n (λ k need. need_one r 0 k first need two.first_need) (λ k adds. subst (λ (g : Option ℕ). Adds r 1 g k) none adds) t in
      omega (arith, e)

  first_awaits : AwaitsGrant r 0 begun_node
  first_awaits = record { begun = refl; had = (λ j s. let no = (two.alone j 0 s).1 in absurd (omega (arith, no))); halt = refl; granted = refl }

  begun_open : IsOpen begun_node
  begun_open = record { put_out = refl; done = refl; halt = refl; by_itself = refl }

  pub grant_first : (b : NodeState) → b.granted ≡ None → base + first ≤ r.budget
      → IsCertain r (both begun_node b []) (Grant 0) Taken (both (finished [] (base + first) (letter r false ∷ [])) b (letter r false ∷ []))
  grant_first b none within = certain_grant r (both begun_node b []) 0 begun_node refl begun_open first_awaits (base + first) (first_total b none) (first_alone b none) (letter r false ∷ [])
      within (inventory_of_none (IsSupplyTo r 0) no_supply) (first_sends false) (first_sent false)

  over_first : (b : NodeState) → b.granted ≡ None → r.budget < base + first
      → IsCertain r (both begun_node b []) (Grant 0) Taken (both (overdrawn r (base + first) (letter r true ∷ [])) b (letter r true ∷ []))
  over_first b none over = certain_over r (both begun_node b []) 0 begun_node refl begun_open first_awaits (base + first) (first_total b none) (first_alone b none) (letter r true ∷ [])
      over (first_sends true) (first_sent true)

  -- ---- the second node, which has had the supply, is granted its need on top
  abbrev done_first : NodeState
  done_first = finished [] (base + first) (letter r false ∷ [])

  abbrev done_second : NodeState
  done_second = finished (letter r false ∷ []) (base + first + second) []

  abbrev told : NodeState
  told = record begun_node { had = letter r false ∷ [] }

  pub second_awaits : AwaitsGrant r 1 told
  second_awaits = record { begun = refl; had = (λ j s. inl (ap (λ (k : ℕ). stamp r.level k 1 false) (two.alone j 1 s).0)); halt = refl; granted = refl }

  pub second_open : IsOpen told
  second_open = record { put_out = refl; done = refl; halt = refl; by_itself = refl }

  pub grant_second : base + first + second ≤ r.budget
      → IsCertain r (both done_first told (letter r false ∷ [])) (Grant 1) Taken (both done_first done_second (letter r false ∷ []))
  grant_second within = certain_grant r (both done_first told (letter r false ∷ [])) 1 told refl second_open second_awaits (base + first + second)
      (made_total done_first (record told { granted = Some (base + first + second) }) first second (base + first + second) two.first_need two.second_need refl)
      (λ n t. one_total done_first (record told { granted = Some n }) first second n (λ k need. need_one r 0 k first need two.first_need) (λ k need. need_one r 1 k second need two.second_need) t)
      [] within (inventory_of_one (IsSupplyTo r 1) (letter r false) (0, two.supplies, refl) supply_is) (second_sends false) (second_sent false)

  -- ---- the first configuration
  two_new : (contexts : List Context) → length contexts ≡ 2 → map (λ (context : Context). new_node) contexts ≡ new_node ∷ new_node ∷ []
  two_new contexts long = let (x, y, is) = two_of contexts long in ap (λ (l : List Context). map (λ (context : Context). new_node) l) is

  begins : first_configuration r.system ≡ both new_node new_node []
  begins = ap (λ (ns : List NodeState). record { nodes = ns; letters = [] }) (two_new r.system.contexts two.two)

  first_sound : IsSound r (both new_node new_node [])
  first_sound = subst (λ (c : Configuration). IsSound r c) begins (first_is_sound r)

  pub from_first : (es : List Event) (os : List Outcome) (d : Configuration) → (IsSound r (both new_node new_node []) → LeadTo r (both new_node new_node []) es os d) → LeadTo r (first_configuration r.system) es os d
  from_first es os d lead = subst (λ (c : Configuration). LeadTo r c es os d) (sym begins) (lead first_sound)

  -- ---- runs
  abbrev none_begun : Configuration
  none_begun = both new_node new_node []

  abbrev one_begun : Configuration
  one_begun = both begun_node new_node []

  abbrev both_begun : Configuration
  both_begun = both begun_node begun_node []

  abbrev one_done : Configuration
  one_done = both done_first begun_node (letter r false ∷ [])

  abbrev one_told : Configuration
  one_told = both done_first told (letter r false ∷ [])

  abbrev both_done : Configuration
  both_done = both done_first done_second (letter r false ∷ [])

  pub has_had : (s : NodeState) → HasNode one_told 1 s → ¬ Takes 1 s (letter r false)
  has_had s at takes = takes.first (letter r false) (subst (λ (p : NodeState). IsAmong (letter r false) p.had) (sym (node_is told s at)) (inl refl)) refl

  was_granted : ¬ IsPossible r both_done (Grant 0)
  was_granted (s, at, awaits) = no_none s.granted (base + first) awaits.granted (ap (λ (p : NodeState). p.granted) (node_is done_first s at))

  turns : base + first + second ≤ r.budget → IsSound r none_begun → LeadTo r none_begun
      (Begin 0 ∷ Begin 1 ∷ Grant 0 ∷ Deliver 0 ∷ Deliver 0 ∷ Grant 1 ∷ Grant 0 ∷ [])
      (Taken ∷ Taken ∷ Taken ∷ Taken ∷ Ignored ∷ Taken ∷ Skipped ∷ []) both_done
  turns within sound =
      lead_cons r none_begun one_begun both_done (Begin 0) Taken _ _ sound (certain_begin r none_begun 0 refl) (λ sound.
      lead_cons r one_begun both_begun both_done (Begin 1) Taken _ _ sound (certain_begin r one_begun 1 refl) (λ sound.
      lead_cons r both_begun one_done both_done (Grant 0) Taken _ _ sound (grant_first begun_node refl (omega (arith, within))) (λ sound.
      lead_cons r one_done one_told both_done (Deliver 0) Taken _ _ sound (certain_supply r one_done 0 (letter r false) refl refl refl) (λ sound.
      lead_cons r one_told one_told both_done (Deliver 0) Ignored _ _ sound (certain_ignored r one_told (Deliver 0) (letter r false, refl, has_had)) (λ sound.
      lead_cons r one_told both_done both_done (Grant 1) Taken _ _ sound (grant_second within) (λ sound.
      lead_cons r both_done both_done both_done (Grant 0) Skipped _ _ sound (certain_skipped r both_done (Grant 0) was_granted) (λ sound. lead_nil r both_done)))))))

  -- ---- what is not possible
  pub not_begun : (i : ℕ) (c : Configuration) → HasNode c i new_node → ¬ IsPossible r c (Grant i)
  not_begun i c here (s, at, awaits) = true≢false (sym awaits.begun ∙ ap (λ (p : NodeState). p.begun) (some_same (slice_get c.nodes i) s new_node at here))

  pub has_begun : (i : ℕ) (c : Configuration) → HasNode c i begun_node → ¬ IsPossible r c (Begin i)
  has_begun i c here (s, at, unbegun) = true≢false (sym (ap (λ (p : NodeState). p.begun) (some_same (slice_get c.nodes i) s begun_node at here)) ∙ unbegun)

  no_third : ¬ IsPossible r one_begun (Begin 2)
  no_third (s, at, unbegun) = no_none None s refl at

  pub no_letter : ¬ IsPossible r one_begun (Deliver 0)
  no_letter less = omega (arith, less)

  lacks_supply : ¬ IsPossible r both_begun (Grant 1)
  lacks_supply (s, at, awaits) = subst (λ (p : NodeState). IsAmong (letter r false) p.had) (node_is begun_node s at) (awaits.had 0 two.supplies)

  no_third_grant : ¬ IsPossible r both_begun (Grant 2)
  no_third_grant (s, at, awaits) = no_none None s refl at

  skips : IsSound r none_begun → LeadTo r none_begun
      (Grant 0 ∷ Begin 0 ∷ Begin 0 ∷ Begin 2 ∷ Deliver 0 ∷ Begin 1 ∷ Grant 1 ∷ Grant 2 ∷ [])
      (Skipped ∷ Taken ∷ Skipped ∷ Skipped ∷ Skipped ∷ Taken ∷ Skipped ∷ Skipped ∷ []) both_begun
  skips sound =
      lead_cons r none_begun none_begun both_begun (Grant 0) Skipped _ _ sound (certain_skipped r none_begun (Grant 0) (not_begun 0 none_begun refl)) (λ sound.
      lead_cons r none_begun one_begun both_begun (Begin 0) Taken _ _ sound (certain_begin r none_begun 0 refl) (λ sound.
      lead_cons r one_begun one_begun both_begun (Begin 0) Skipped _ _ sound (certain_skipped r one_begun (Begin 0) (has_begun 0 one_begun refl)) (λ sound.
      lead_cons r one_begun one_begun both_begun (Begin 2) Skipped _ _ sound (certain_skipped r one_begun (Begin 2) no_third) (λ sound.
      lead_cons r one_begun one_begun both_begun (Deliver 0) Skipped _ _ sound (certain_skipped r one_begun (Deliver 0) no_letter) (λ sound.
      lead_cons r one_begun both_begun both_begun (Begin 1) Taken _ _ sound (certain_begin r one_begun 1 refl) (λ sound.
      lead_cons r both_begun both_begun both_begun (Grant 1) Skipped _ _ sound (certain_skipped r both_begun (Grant 1) lacks_supply) (λ sound.
      lead_cons r both_begun both_begun both_begun (Grant 2) Skipped _ _ sound (certain_skipped r both_begun (Grant 2) no_third_grant) (λ sound. lead_nil r both_begun))))))))

  -- ---- above the budget
  abbrev over_budget : NodeState
  over_budget = overdrawn r (base + first) (letter r true ∷ [])

  abbrev carried : NodeState
  carried = stopped_by (letter r true ∷ []) (Spent r.level (base + first))

  abbrev one_over : Configuration
  one_over = both over_budget new_node (letter r true ∷ [])

  abbrev over_begun : Configuration
  over_begun = both over_budget begun_node (letter r true ∷ [])

  abbrev both_stopped : Configuration
  both_stopped = both over_budget carried (letter r true ∷ [])

  unbegun_ignores : (s : NodeState) → HasNode one_over 1 s → ¬ Takes 1 s (letter r true)
  unbegun_ignores s at takes = true≢false (sym takes.begun ∙ ap (λ (p : NodeState). p.begun) (node_is new_node s at))

  halted_skips : (i : ℕ) (s : NodeState) (halt : Halt) (c : Configuration) → HasNode c i s → s.halt ≡ Some halt → ¬ IsPossible r c (Grant i)
  halted_skips i s halt c here is (t, at, awaits) = no_none t.halt halt awaits.halt (ap (λ (p : NodeState). p.halt) (some_same (slice_get c.nodes i) t s at here) ∙ is)

  stops : r.budget < base + first → IsSound r none_begun → LeadTo r none_begun
      (Begin 0 ∷ Grant 0 ∷ Deliver 0 ∷ Begin 1 ∷ Deliver 0 ∷ Grant 0 ∷ Grant 1 ∷ [])
      (Taken ∷ Taken ∷ Ignored ∷ Taken ∷ Taken ∷ Skipped ∷ Skipped ∷ []) both_stopped
  stops over sound =
      lead_cons r none_begun one_begun both_stopped (Begin 0) Taken _ _ sound (certain_begin r none_begun 0 refl) (λ sound.
      lead_cons r one_begun one_over both_stopped (Grant 0) Taken _ _ sound (over_first new_node refl over) (λ sound.
      lead_cons r one_over one_over both_stopped (Deliver 0) Ignored _ _ sound (certain_ignored r one_over (Deliver 0) (letter r true, refl, unbegun_ignores)) (λ sound.
      lead_cons r one_over over_begun both_stopped (Begin 1) Taken _ _ sound (certain_begin r one_over 1 refl) (λ sound.
      lead_cons r over_begun both_stopped both_stopped (Deliver 0) Taken _ _ sound
      (certain_stop r over_begun 0 (letter r true) refl refl refl over_budget (Spent r.level (base + first)) [] refl refl (second_sends true) (second_sent true)) (λ sound.
      lead_cons r both_stopped both_stopped both_stopped (Grant 0) Skipped _ _ sound (certain_skipped r both_stopped (Grant 0) (halted_skips 0 over_budget (Spent r.level (base + first)) both_stopped refl refl)) (λ sound.
      lead_cons r both_stopped both_stopped both_stopped (Grant 1) Skipped _ _ sound (certain_skipped r both_stopped (Grant 1) (halted_skips 1 carried (Spent r.level (base + first)) both_stopped refl refl)) (λ sound.
      lead_nil r both_stopped)))))))

  -- ---- want of memory, and missing answers
  abbrev out_of_memory : NodeState
  out_of_memory = halted_at None (letter r true ∷ []) Memory

  runs_out : TakesPlace r none_begun (Begin 0) (both out_of_memory new_node (letter r true ∷ []))
  runs_out = takes_place r none_begun (Begin 0) 0 new_node begun_node out_of_memory (letter r true ∷ []) refl (refl, refl, refl)
      (may_stop r none_begun 0 begun_node begun_open (letter r true ∷ []) Memory tt (first_sends true))

  memory : Runs r none_begun (Begin 0 ∷ Grant 0 ∷ []) (Taken ∷ Skipped ∷ []) (both out_of_memory new_node (letter r true ∷ []))
  memory = (
    both out_of_memory new_node (letter r true ∷ []),
    runs_out,
    (both out_of_memory new_node (letter r true ∷ []), (halted_skips 0 out_of_memory Memory (both out_of_memory new_node (letter r true ∷ [])) refl refl, refl), refl),
  )

  abbrev unanswered : ℕ → NodeState
  unanswered x = halted_at (Some (base + first)) (letter r true ∷ []) (Missing 0 x)

  lacks_answer : (x : ℕ) → base + first ≤ r.budget → IsNewQuestion r 0 x → TakesPlace r one_begun (Grant 0) (both (unanswered x) new_node (letter r true ∷ []))
  lacks_answer x within new = takes_place r one_begun (Grant 0) 0 begun_node (record begun_node { granted = Some (base + first) }) (unanswered x) (letter r true ∷ []) refl
      (refl, first_awaits, base + first, first_total new_node refl, refl)
      (may_stop r one_begun 0 (record begun_node { granted = Some (base + first) }) (record { put_out = refl; done = refl; halt = refl; by_itself = refl }) (letter r true ∷ []) (Missing 0 x)
      (refl, (base + first, refl, within), new) (first_sends true))

  missing : (x : ℕ) → base + first ≤ r.budget → IsNewQuestion r 0 x
      → Runs r none_begun (Begin 0 ∷ Grant 0 ∷ []) (Taken ∷ Taken ∷ []) (both (unanswered x) new_node (letter r true ∷ []))
  missing x within new = (one_begun, (certain_begin r none_begun 0 refl).may, (both (unanswered x) new_node (letter r true ∷ []), lacks_answer x within new, refl))

pub turns_are_taken : TurnsAreTaken
turns_are_taken r base first second two within = from_first r base first second two _ _ _ (turns r base first second two within)

pub impossible_is_skipped : ImpossibleIsSkipped
impossible_is_skipped r base first second two = from_first r base first second two _ _ _ (skips r base first second two)

pub stops_are_carried : StopsAreCarried
stops_are_carried r base first second two over = from_first r base first second two _ _ _ (stops r base first second two over)

pub memory_may_run_out : MemoryMayRunOut
memory_may_run_out r base first second two =
    subst (λ (c : Configuration). Runs r c (Begin 0 ∷ Grant 0 ∷ []) (Taken ∷ Skipped ∷ []) (both (halted_at None (letter r true ∷ []) Memory) new_node (letter r true ∷ []))) (sym (begins r base first second two)) (memory r base first second two)

pub answers_may_be_missing : AnswersMayBeMissing
answers_may_be_missing r base first second x two within new =
    subst (λ (c : Configuration). Runs r c (Begin 0 ∷ Grant 0 ∷ []) (Taken ∷ Taken ∷ []) (both (halted_at (Some (base + first)) (letter r true ∷ []) (Missing 0 x)) new_node (letter r true ∷ [])))
    (sym (begins r base first second two)) (missing r base first second two x within new)
