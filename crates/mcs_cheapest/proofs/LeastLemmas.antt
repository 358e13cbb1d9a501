-- The search by an evaluator that tells the cheapest diagnoses alone takes the same levels.
use Rattle.std.proofs.Common.{◌≡◌, ℕ, suc, ◌+◌, ◌*◌, ◌/◌, ◌<◌, ◌≤◌, max, min, List, [], ◌∷◌, map, take, length, get_or, Some, None, sym, ap, ◌∙◌, subst, inl, inr, arith}
use Rattle.std.proofs.lemmas.Bool.{cases_lt}
use Rattle.std.proofs.lemmas.List.{length-map}
use Rattle.std.proofs.lemmas.Nat.{mul-le}
use Rattle.std.specs.List.{AllByRecursion}
use Rattle.mcs_sets.specs.Orders.{PairBefore}
use Rattle.mcs_sets.specs.Sets.{size}
use Rattle.mcs_sets.proofs.Lattice.{size-none}
use Rattle.mcs_base.specs.Least.{IsLeastOf}
use Rattle.mcs_base.specs.Listings.{IsAmong}
use Rattle.mcs_base.proofs.Each.{all_among, all_from_among, all_left, all_right, all_take_more, all_weaker}
use Rattle.mcs_base.proofs.ListingLemmas.{IsListing-nil, none_listed}
use Rattle.mcs_base.proofs.NumberCases.{not_less}
use Rattle.mcs_base.proofs.Written.{take_read}
use Rattle.mcs_system.specs.Faults.{IsValid}
use Rattle.mcs_system.specs.Plain.{Bridge, System}
use Rattle.mcs_system.specs.Repairs.{IsDiagnosis}
use Rattle.mcs_system.specs.Seen.{bridge_of}
use Rattle.mcs_system.specs.Systems.{IsConsistent}
use Rattle.mcs_laws.proofs.Choices.{consistent_needs_nothing}
use Rattle.mcs_states.specs.Calls.{CanBegin}
use Rattle.mcs_states.specs.Evaluators.{EvaluatorState, KeepsRest, HasDone, HasHalted}
use Rattle.mcs_states.specs.declared.halt.Halt.{Halt}
use Rattle.mcs_states.proofs.Causes.{cause_before, rest_kept, rest_same, told}
use Rattle.mcs_diagnosis.specs.declared.diagnosis.Diagnosis as shown
use Rattle.mcs_diagnosis.specs.Diagnoses.{ShowsFirstState}
use Rattle.mcs_costs.specs.Settling.{AreDiagnosesUpTo}
use Rattle.mcs_costs.specs.Costs.{cost, weights, AreCheapest, IsCheapest, IsLeastWeight, SettlesCost, SettlesNone, IsStopLevel, IsUpToStop}
use Rattle.mcs_costs.proofs.CostLemmas.{cost-none, least_weight_some}
use Rattle.mcs_costs.proofs.ExistLemmas.{cheapest_exists, least_exists, stop_exists}
use Rattle.mcs_costs.proofs.StopLemmas.{cheapest_few, settles_none_below, stop_is_one, stop_is_quotient, stop_without}
use Rattle.mcs_system.specs.declared.bridge.Bridge as code
use Rattle.mcs_cheapest.specs.Found.{HasBrokenOff, IsLeastCost}
use Rattle.mcs_cheapest.specs.Least.{CanShow, HasReached, HasTold, IsAsking, IsLooking, IsMostMarks}
use Rattle.mcs_cheapest.specs.Searching.{HasStopped, IsDoneBefore, IsTaken}
use Rattle.mcs_cheapest.proofs.CountLemmas.{beyond_after, unanswered_after}
use Rattle.mcs_cheapest.proofs.FoundLemmas.{done_still}
use Rattle.mcs_cheapest.proofs.SearchLemmas.{done_next, raised_next}

-- ---- how far the search goes
module _ (m : System) (valid : IsValid m) where
  -- the empty pair, which costs nothing, settles the least cost of a consistent system that has rules
  consistent_settles : IsConsistent m → (level : ℕ) → level < length m.bridges → SettlesCost m level
  consistent_settles c level low = elim (least_exists (weights m)) [
    | inl none ↦ absurd (let many = length-map m.bridges (λ (b : Bridge). b.weight) in let no = ap length none in omega (arith, many, no, low))
    | inr (w, least) ↦ record {
      pair = 0;
      diagnosis = consistent_needs_nothing m c.equilibrium c.balanced;
      few = omega (arith, size-none);
      weight = w;
      least = least;
      cheap = (
          let some = least_weight_some m valid w least in
          let once : 1 * w ≤ (level + 1) * w = mul-le 1 w (level + 1) w (omega arith) (omega arith) in
          omega (arith, cost-none m, some, once)
          );
    }
  ]

  -- what settles the least cost settles it of a diagnosis
  settles_some : (level : ℕ) → SettlesCost m level → ¬ SettlesNone m level
  settles_some level s none = none s.pair s.diagnosis (inl (s.weight, s.least, s.cheap))

  -- the stop level does, where it is not that of all rules: of a consistent system by the empty pair, which costs nothing
  stop_settles : (stop : ℕ) → stop < length m.bridges → IsStopLevel m stop → ¬ SettlesNone m stop
  stop_settles stop low (inl (c, first)) = settles_some stop (consistent_settles c stop low)
  stop_settles stop low (inr (none, inl f)) = settles_some stop f.settles
  stop_settles stop low (inr (none, inr n)) = absurd (omega (arith, low, n.all))

  -- so a level below which none does is not above the stop level
  looks_up_to : (level : ℕ) → level ≤ length m.bridges → ((k : ℕ) → k < level → SettlesNone m k) → IsUpToStop m level
  looks_up_to level low not_yet stop is = not_less stop level (λ above. stop_settles stop (omega (arith, above, low)) is (not_yet stop above))

-- no stop level is above the number of rules
pub stop_low : (m : System) (stop : ℕ) → IsStopLevel m stop → stop ≤ length m.bridges
stop_low m stop (inl (c, first)) = omega (arith, first)
stop_low m stop (inr (none, inl f)) = f.within
stop_low m stop (inr (none, inr n)) = omega (arith, n.all)

-- the level of all rules settles it of each diagnosis
none_cheapest : (m : System) (level : ℕ) → length m.bridges ≤ level → SettlesNone m level → AreCheapest m []
none_cheapest m level all none = IsListing-nil PairBefore (IsCheapest m) (λ p c. none p c.one (inr all))

-- ---- the cost
module _ (m : System) (pairs : List ℕ) (listed : AreCheapest m pairs) where
  pub none_costs : length pairs ≡ 0 → IsLeastCost m None
  none_costs none d is = let (best, c) = cheapest_exists m d is in none_listed (IsCheapest m) PairBefore pairs none listed best c

  pub one_costs : (p price : ℕ) → IsAmong p pairs → price ≡ cost m p → IsLeastCost m (Some price)
  one_costs p price among is = (p, (listed.exactly p).0 among, sym is)

-- ---- the stop level of the cheapest diagnoses
-- where there is none
pub stops_last : (m : System) (last : ℕ) → last ≡ length m.bridges → IsLeastCost m None → IsStopLevel m last
stops_last m last all none = (stop_without m last none).1 all

-- where there are no rules
pub stops_first : (m : System) → IsValid m → (last : ℕ) → last ≡ length m.bridges → IsLeastOf (weights m) None → IsStopLevel m last
stops_first m valid last all none =
    let (stop, is) = stop_exists m valid in
    let low = stop_low m stop is in
    let many = length-map m.bridges (λ (b : Bridge). b.weight) in
    let no = ap length none in
    let same : stop ≡ last = omega (arith, low, many, no, all) in
    subst (IsStopLevel m) same is

-- elsewhere
pub stops_at : (m : System) → IsValid m → (price weight last stop : ℕ) → last ≡ length m.bridges → IsLeastCost m (Some price) → IsLeastWeight m weight → stop ≡ min (price / weight) last → IsStopLevel m stop
stops_at m valid price weight last stop all (p, cheapest, is) least same =
    (stop_is_quotient m p weight stop valid cheapest least).1 (same ∙ ap (λ (n : ℕ). min (n / weight) last) (sym is) ∙ ap (λ (n : ℕ). min (cost m p / weight) n) all)

-- ---- a level is taken
-- before level 0
asking_begins : (m : System) (e : EvaluatorState) → CanBegin m e → IsAsking e e 0
asking_begins m e can = record { going = can.going; rest = rest_same e; done = can.fresh; taken = λ k less. absurd (omega (arith, less)) }

module _ (first e e' : EvaluatorState) (level : ℕ) (a : IsAsking first e level) (up : IsUpToStop first.system level) (kept : KeepsRest e e') where
  -- the call of the level halted
  pub asking_breaks_off : (halt : Halt) → HasHalted e e' level halt → HasBrokenOff first e' halt
  asking_breaks_off halt h = record {
    level = level;
    up_to_stop = up;
    cause = cause_before first e a.rest level halt h.cause;
    told = told e e' level halt h;
    within = λ k less. (a.taken k less).within;
    answered = λ k i x less. (a.taken k less).answered i x;
  }

  -- it was done
  pub asks_on : HasDone e e' level → IsAsking first e' (level + 1)
  asks_on h = record {
    going = h.settled.going;
    rest = rest_kept first e e' a.rest kept;
    done = done_next e' level (raised_next e e' level a.done h.level_done) h.settled;
    taken = λ k low. elim (cases_lt k level) [
      | inl less ↦ a.taken k less
      | inr past ↦ subst (IsTaken first) (let same : level ≡ k = omega (arith, past, low) in same) here
    ];
  }
    where
      here : IsTaken first level
      here = record { up_to_stop = up; within = λ beyond. h.within (beyond_after first e a.rest level beyond); answered = λ i x u. h.answered i x (unanswered_after first e a.rest level i x u) }

-- ---- the levels at which nothing is told yet
-- the last level is that of all rules
pub last_counted : (m n : System) (rules : List code.Bridge) → m ≡ n → map bridge_of rules ≡ n.bridges → length rules ≡ length m.bridges
last_counted m n rules same seen = sym (length-map rules bridge_of) ∙ ap length (seen ∙ ap (λ (s : System). s.bridges) (sym same))

pub look_begins : (m : System) (e : EvaluatorState) → CanBegin m e → IsLooking e e 0 0
look_begins m e can = record { asking = asking_begins m e can; ahead = omega arith; not_yet = λ k less. absurd (omega (arith, less)) }

-- what a level does not settle, no level below it does
pub none_before : (m : System) (bound candidate : ℕ) → candidate ≤ bound + 1 → SettlesNone m bound → (k : ℕ) → k < candidate → SettlesNone m k
none_before m bound candidate next none k less = settles_none_below m k bound (omega (arith, next, less)) none

module _ (first e e' : EvaluatorState) (level candidate : ℕ) (valid : IsValid first.system) (low : level ≤ length first.system.bridges) (l : IsLooking first e level candidate) (kept : KeepsRest e e') where
  up_to_stop : IsUpToStop first.system level
  up_to_stop = looks_up_to first.system valid level low (λ k less. l.not_yet k (let ahead = l.ahead in omega (arith, less, ahead)))

  pub look_breaks_off : (halt : Halt) → HasHalted e e' level halt → HasBrokenOff first e' halt
  look_breaks_off halt h = asking_breaks_off first e e' level l.asking up_to_stop kept halt h

  module _ (h : HasDone e e' level) where
    asked : IsAsking first e' (level + 1)
    asked = asks_on first e e' level l.asking up_to_stop kept h

    pub looks_on : (next : ℕ) → level < next → ((k : ℕ) → k < next → SettlesNone first.system k) → IsLooking first e' (level + 1) next
    looks_on next above none = record { asking = asked; ahead = omega (arith, above); not_yet = none }

    pub look_ends : (pairs : List ℕ) → AreCheapest first.system pairs → HasTold first e' level pairs
    look_ends pairs listed = record { valid = valid; listed = listed; asking = asked }

-- where the level of all rules was taken too, there is no diagnosis
pub all_looked : (first e : EvaluatorState) (level candidate last : ℕ) (pairs : List ℕ) → IsValid first.system → last ≡ length first.system.bridges → level ≡ last + 1 → pairs ≡ [] → IsLooking first e level candidate → HasTold first e last pairs
all_looked first e level candidate last pairs valid all past empty l = record {
  valid = valid;
  listed = subst (AreCheapest first.system) (sym empty) (none_cheapest first.system last (omega (arith, all)) (l.not_yet last (let ahead = l.ahead in omega (arith, ahead, past))));
  asking = subst (IsAsking first e) past l.asking;
}

-- ---- what was told
module _ (first e : EvaluatorState) (level : ℕ) (pairs : List ℕ) (t : HasTold first e level pairs) where
  pub told_up_to : IsUpToStop first.system level
  told_up_to = (t.asking.taken level (omega arith)).up_to_stop

  pub told_to : (n : System) → first.system ≡ n → AreCheapest n pairs
  told_to n same = subst (λ (m : System). AreCheapest m pairs) same t.listed

  -- all levels up to the stop level were asked too
  pub asked_all : (now : EvaluatorState) → (stop : ℕ) → IsStopLevel first.system stop → IsAsking first now (stop + 1) → HasStopped first now pairs
  asked_all now stop is a =
      let done = subst (IsDoneBefore now) (let next : stop + 1 ≡ suc stop = omega arith in next) a.done in
      record { valid = t.valid; listed = t.listed; stop = stop; is_stop = is; level_done = done.0; settled = done.1; taken = λ k few. a.taken k (omega (arith, few)) }

-- the stop level is not above itself
pub stop_up_to : (m : System) (stop : ℕ) → IsStopLevel m stop → IsUpToStop m stop
stop_up_to m stop is other other_is = let same = stop_is_one m stop other is other_is in omega (arith, same)

-- ---- the greatest number of marks
pub most_of_none : IsMostMarks [] 0
most_of_none = record { all = tt; least = λ n all. omega arith }

pub most_more : (xs : List ℕ) (i x n most top : ℕ) → i < length xs → x ≡ get_or xs i x → n ≡ size x → top ≡ max most n → IsMostMarks (take i xs) most → IsMostMarks (take (i + 1) xs) top
most_more xs i x n most top less is number greatest are = record {
  all = all_take_more (λ p. size p ≤ top) xs i x less is (all_weaker (λ p. size p ≤ most) (λ p. size p ≤ top) (λ p few. omega (arith, few, greatest)) (take i xs) are.all) (omega (arith, number, greatest));
  least = λ k all.
      let both = subst (AllByRecursion (λ p. size p ≤ k)) (take_read xs i x less is) all in
      let before = are.least k (all_left (λ p. size p ≤ k) (take i xs) (x ∷ []) both) in
      let here = (all_right (λ p. size p ≤ k) (take i xs) (x ∷ []) both).0 in
      omega (arith, before, here, number, greatest);
}

-- no cheapest diagnosis has more marks than the stop level says
module _ (first e : EvaluatorState) (level : ℕ) (pairs : List ℕ) (t : HasTold first e level pairs) (most : ℕ) (are : IsMostMarks pairs most) where
  pub most_up_to : IsUpToStop first.system most
  most_up_to stop is = are.least stop (all_from_among (λ p. size p ≤ stop) pairs (λ p among. cheapest_few first.system p stop t.valid ((t.listed.exactly p).0 among) is))

  pub has_reached : (now : EvaluatorState) → IsAsking first now (max level most + 1) → HasReached first now (max level most) pairs
  has_reached now asking = record {
    told = record { valid = t.valid; listed = t.listed; asking = asking };
    few = all_weaker (λ p. size p ≤ most) (λ p. size p ≤ max level most) (λ p few. omega (arith, few)) pairs are.all;
  }

-- ---- one is shown, by a call of a level that was taken
module _ (first a e' : EvaluatorState) (level p : ℕ) (few : size p ≤ level) (asking : IsAsking first a (level + 1)) (kept : KeepsRest a e') where
  -- the call halted
  pub showing_breaks_off : (halt : Halt) → HasHalted a e' (size p) halt → HasBrokenOff first e' halt
  showing_breaks_off halt h = record {
    level = size p;
    up_to_stop = λ stop is. (let up = (asking.taken level (omega arith)).up_to_stop stop is in omega (arith, few, up));
    cause = cause_before first a asking.rest (size p) halt h.cause;
    told = told a e' (size p) halt h;
    within = λ k less. (asking.taken k (omega (arith, less, few))).within;
    answered = λ k i x less. (asking.taken k (omega (arith, less, few))).answered i x;
  }

  -- it was done, and the level is still the greatest one done
  pub asking_still : HasDone a e' (size p) → IsAsking first e' (level + 1)
  asking_still h =
      let before = subst (IsDoneBefore a) (let next : level + 1 ≡ suc level = omega arith in next) asking.done in
      record {
        going = h.settled.going;
        rest = rest_kept first a e' asking.rest kept;
        done = done_next e' level (done_still a e' level (size p) before.0 few h.level_done) h.settled;
        taken = asking.taken;
      }

-- ---- the diagnoses that can be shown
-- the cheapest ones
pub cheapest_shown : (first e : EvaluatorState) (level : ℕ) (pairs : List ℕ) (before : List shown.Diagnosis) (n : System) → first.system ≡ n → HasReached first e level pairs → AllByRecursion (ShowsFirstState n) before → CanShow n e pairs before
cheapest_shown first e level pairs before n same r shown = record {
  can = record { same = r.told.asking.rest.system ∙ same; going = r.told.asking.going };
  diagnoses = all_from_among (IsDiagnosis n) pairs (λ p among. subst (λ (m : System). IsDiagnosis m p) same ((r.told.listed.exactly p).0 among).one);
  known = shown;
}

pub cheapest_few_marks : (first e : EvaluatorState) (level : ℕ) (pairs : List ℕ) (n : System) → first.system ≡ n → HasReached first e level pairs → AreDiagnosesUpTo n level pairs
cheapest_few_marks first e level pairs n same r = all_from_among (λ p. IsDiagnosis n p × (size p ≤ level)) pairs (λ p among. (subst (λ (m : System). IsDiagnosis m p) same ((r.told.listed.exactly p).0 among).one, all_among (λ q. size q ≤ level) pairs p r.few among))

-- those that a level tells
pub known_shown : (first e : EvaluatorState) (level next : ℕ) (pairs : List ℕ) (before : List shown.Diagnosis) (n : System) → first.system ≡ n → IsAsking first e next → AreDiagnosesUpTo n level pairs → AllByRecursion (ShowsFirstState n) before → CanShow n e pairs before
known_shown first e level next pairs before n same asking known shown = record {
  can = record { same = asking.rest.system ∙ same; going = asking.going };
  diagnoses = all_weaker (λ p. IsDiagnosis n p × (size p ≤ level)) (IsDiagnosis n) (λ p d. d.0) pairs known;
  known = shown;
}
