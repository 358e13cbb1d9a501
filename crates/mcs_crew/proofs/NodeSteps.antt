-- What a letter and a grant make of one node.
use Rattle.std.proofs.Common.{◌≡◌, ℕ, ◌+◌, ◌<◌, ◌≤◌, Bool, true, false, true≢false, cond, List, [], ◌∷◌, ◌++◌, length, Option, Some, None, is_some, refl, sym, ap, ◌∙◌, subst, inl, inr, ◌⊎◌, arith}
use Rattle.std.proofs.lemmas.List.{length-map}
use Rattle.std.proofs.lemmas.List.Sums.{sum_by-cons}
use Rattle.std.proofs.lemmas.Option.{none-some, same_Some}
use Rattle.std.specs.List.{sum_by}
use Rattle.mcs_base.specs.Listings.{IsAmong, IsListing}
use Rattle.mcs_base.proofs.Among.{among_left, map_among}
use Rattle.mcs_base.proofs.Results.{option_cases}
use Rattle.mcs_system.specs.Plain.{System}
use Rattle.mcs_states.specs.Oracles.{IsLacking, Lacks, OracleState, with_journal}
use Rattle.mcs_states.specs.declared.halt.Halt.{Halt}
use Rattle.mcs_states.specs.declared.halt.Halt.TheVariants.{Spent, Missing, Memory}
use Rattle.mcs_node.specs.Rounds.{IsNewQuestion, Round, Stamp, Supplies, stamp}
use Rattle.mcs_node.specs.Steps.{IsNeedOf}
use Rattle.mcs_node.specs.Letters.{ContentData, LetterData, Stop, Supply, is_stop, stamp_of}
use Rattle.mcs_node.specs.Known.{Knowledge}
use Rattle.mcs_node.specs.Nodes.{HasTaken, IsAwaited, IsGranted, IsGrantHalt, IsNeed, NodeData, letters_to, round_at, stamps_to, stopped_with, with_content, with_had}
use Rattle.mcs_node.proofs.WorkedLemmas.{need_one}
use Rattle.mcs_draw.specs.declared.account.Account.{Account}
use Rattle.mcs_draw.specs.Budget.{after_draw}
use Rattle.mcs_mesh.specs.Players.{as_new}
use Rattle.mcs_crew.specs.Teams.{CameOf, HasDrawn, IsAtPlay}
use Rattle.mcs_crew.specs.Weights.{by_stamp, granted_need, stamps_weight}

-- ---- letters that are put out
-- the letters weigh what the stamps do
letters_weigh : (weight : Stamp → ℕ) (m : System) (level i : ℕ) (content : ContentData) (js : List ℕ) → stamps_weight weight (letters_to m level i content js) ≡ sum_by weight (stamps_to level i (is_stop content) js)
letters_weigh weight m level i content [] = refl
letters_weigh weight m level i content (j ∷ js) =
    let here : LetterData = record { plan = m; level = level; from = i; to = j; content = content } in
    omega (arith, sum_by-cons (by_stamp weight) here (letters_to m level i content js), sum_by-cons weight (stamp level i j (is_stop content)) (stamps_to level i (is_stop content) js), letters_weigh weight m level i content js)

letters_named : (m : System) (level i : ℕ) (content : ContentData) (js : List ℕ) (l : LetterData) → IsAmong l (letters_to m level i content js) → l.plan ≡ m
letters_named m level i content js l among =
    let (j, there, is) = map_among (λ (j : ℕ). record { plan = m; level = level; from = i; to = j; content = content }) l js among in ap (λ (x : LetterData). x.plan) is

-- ---- a node that stays as it is
module _ (r : Round) (d : NodeData) (p : IsAtPlay r d) where
  plan_is : d.plan ≡ r.system
  plan_is = ap (λ (x : Round). x.system) p.round_is

  none_out : (weight : Stamp → ℕ) → stamps_weight weight d.outbox ≡ 0
  none_out weight = ap (stamps_weight weight) p.handed_out

  pub came_same : CameOf r d d
  came_same = record {
    at_play = record { round_is = p.round_is; level_is = p.level_is; in_range = p.in_range; handed_out = refl; few = p.few; short = p.short; quiet = p.quiet; full = p.full; lacks = p.lacks };
    same = refl;
    put_out = λ weight. (let none = none_out weight in omega (arith, none));
    named = λ l among. absurd (subst (λ (ls : List LetterData). IsAmong l ls) p.handed_out among);
    few = let none : length d.outbox ≡ 0 = ap (λ (ls : List LetterData). length ls) p.handed_out in omega (arith, none);
  }

  -- ---- one that has had a letter, and puts out nothing
  pub came_had : (l : LetterData) → CameOf r d (with_had l d)
  came_had l = record {
    at_play = record {
      round_is = p.round_is;
      level_is = p.level_is;
      in_range = p.in_range;
      handed_out = refl;
      few = p.few;
      short = p.short;
      quiet = p.quiet;
      full = λ granted j supplies. (let (x, among, from) = p.full granted j supplies in (x, among_left x d.state.had (stamp_of l ∷ []) among, from));
      lacks = p.lacks;
    };
    same = refl;
    put_out = λ weight. (let none = none_out weight in omega (arith, none));
    named = λ x among. absurd (subst (λ (ls : List LetterData). IsAmong x ls) p.handed_out among);
    few = let none : length d.outbox ≡ 0 = ap (λ (ls : List LetterData). length ls) p.handed_out in omega (arith, none);
  }

  -- ---- one that puts out letters to all that it supplies
  module _ (had : List Stamp) (granted : Option ℕ) (level : ℕ) (content : ContentData) (done : Bool) (halt : Option Halt) (by_itself : Bool) (o : OracleState) (k : Knowledge)
      (none : d.state.put_out ≡ [])
      (rest : with_journal [] o ≡ with_journal [] d.oracle)
      (full : is_some granted ≡ true → (j : ℕ) → Supplies r.system j d.context → (x : Stamp) × IsAmong x had × (x.from ≡ j))
      (quiet : granted ≡ None → halt ≡ None → ⊥)
      (lacks : (context x : ℕ) → halt ≡ Some (Missing context x) → by_itself ≡ true → Lacks o x) where
    abbrev pub putting_out : NodeData
    putting_out = record d {
      oracle = o;
      state = record { begun = d.state.begun; had = had; granted = granted; put_out = stamps_to level d.context (is_stop content) d.receivers; done = done; halt = halt; by_itself = by_itself };
      outbox = letters_to d.plan level d.context content d.receivers;
      known = k;
    }

    pub came_out : CameOf r d putting_out
    came_out = record {
      at_play = record {
        round_is = p.round_is;
        level_is = p.level_is;
        in_range = p.in_range;
        handed_out = refl;
        few = p.few;
        short = let e = length-map d.receivers (λ j. stamp level d.context j (is_stop content)) in let few = p.few in omega (arith, e, few);
        quiet = λ a b. absurd (quiet a b);
        full = full;
        lacks = lacks;
      };
      same = ap (λ (z : OracleState). record (as_new d) { oracle = z }) rest;
      put_out = λ weight. (
          let none_before : sum_by weight d.state.put_out ≡ 0 = ap (sum_by weight) none in
          let letters = letters_weigh weight d.plan level d.context content d.receivers in
          omega (arith, none_before, letters));
      named = λ l among. letters_named d.plan level d.context content d.receivers l among ∙ plan_is;
      few = let e = length-map {B = LetterData} d.receivers (λ (j : ℕ). record { plan = d.plan; level = level; from = d.context; to = j; content = content }) in let few = p.few in omega (arith, e, few);
    }

-- ---- a letter
abbrev is_memory : Halt → Bool
is_memory (Spent level drawn) = false
is_memory (Missing context x) = false
is_memory Memory = true

not_memory : (context x : ℕ) → Memory ≡ Missing context x → ⊥
not_memory context x e = true≢false (ap is_memory e)

abbrev is_spent : Halt → Bool
is_spent (Spent level drawn) = true
is_spent (Missing context x) = false
is_spent Memory = false

not_spent : (level total context x : ℕ) → Spent level total ≡ Missing context x → ⊥
not_spent level total context x e = true≢false (ap is_spent e)

content_cases : (l : LetterData) (content : ContentData) (halt : Option Halt) (d : NodeData)
    → (with_content l content halt d ≡ with_had l d) ⊎ ((h : Halt) × (halt ≡ None) × (with_content l content halt d ≡ stopped_with l.level h false (with_had l d)))
content_cases l (Supply states) halt d = inl refl
content_cases l (Stop h) None d = inr (h, refl, refl)
content_cases l (Stop h) (Some g) d = inl refl

module _ (r : Round) (l : LetterData) (d e : NodeData) (p : IsAtPlay r d) (awaited : IsAwaited l d) where
  -- one that was granted a total awaits nothing any more
  not_granted : d.state.granted ≡ None
  not_granted = elim (option_cases d.state.granted) [
    | inl none ↦ none
    | inr (total, some) ↦ absurd (let (x, among, from) = p.full (ap (λ (o : Option ℕ). is_some o) some) l.from (subst (λ (m : System). Supplies m l.from d.context) (plan_is r d p) awaited.supplies) in awaited.first x among from)
  ]

  -- it stops, whatever the cause
  came_stopped : (h : Halt) (own : Bool) → (own ≡ true → h ≡ Memory) → d.state.halt ≡ None → CameOf r d (stopped_with l.level h own (with_had l d))
  came_stopped h own memory going = came_out r d p (d.state.had ++ stamp_of l ∷ []) d.state.granted l.level (Stop h) false (Some h) own d.oracle d.known
      (p.quiet not_granted going) refl
      (λ granted j supplies. (let (x, among, from) = p.full granted j supplies in (x, among_left x d.state.had (stamp_of l ∷ []) among, from)))
      (λ none is. none-some h (sym is))
      (λ context x is itself. absurd (not_memory context x (sym (memory itself) ∙ same_Some h (Missing context x) is)))

  pub taken_came : HasTaken l d e → CameOf r d e × (e.state.had ≡ d.state.had ++ stamp_of l ∷ []) × (e.state.granted ≡ d.state.granted)
  taken_came (inl is) = elim (content_cases l l.content d.state.halt d) [
    | inl had ↦ let e_is = is ∙ had in (
      subst (λ (z : NodeData). CameOf r d z) (sym e_is) (came_had r d p l),
      ap (λ (z : NodeData). z.state.had) e_is,
      ap (λ (z : NodeData). z.state.granted) e_is,
    )
    | inr (h, going, stopped) ↦ let e_is = is ∙ stopped in (
      subst (λ (z : NodeData). CameOf r d z) (sym e_is) (came_stopped h false (λ itself. absurd (true≢false (sym itself))) going),
      ap (λ (z : NodeData). z.state.had) e_is,
      ap (λ (z : NodeData). z.state.granted) e_is,
    )
  ]
  taken_came (inr (states, content, going, is)) = (
    subst (λ (z : NodeData). CameOf r d z) (sym is) (came_stopped Memory true (λ itself. refl) going),
    ap (λ (z : NodeData). z.state.had) is,
    ap (λ (z : NodeData). z.state.granted) is,
  )

-- ---- a grant
lacks_same : (o o' : OracleState) (x : ℕ) → with_journal [] o' ≡ with_journal [] o → Lacks o x → Lacks o' x
lacks_same o o' x same lacks = subst (λ (h : Option (List ℕ)). IsLacking h x) (sym (ap (λ (z : OracleState). z.holds) same)) lacks

module _ (r : Round) (d e : NodeData) (p : IsAtPlay r d) (need total : ℕ) (is_need : IsNeed d need) where
  going : d.state.halt ≡ None
  going = is_need.waits.2.halt

  pub ungranted : d.state.granted ≡ None
  ungranted = is_need.waits.2.granted

  none_put_out : d.state.put_out ≡ []
  none_put_out = p.quiet ungranted going

  -- it has had every supply
  had_each : (j : ℕ) → Supplies r.system j d.context → (x : Stamp) × IsAmong x d.state.had × (x.from ≡ j)
  had_each j supplies = (
    stamp is_need.waits.0 j d.context false,
    is_need.waits.2.had j (subst (λ (m : System). Supplies m j d.context) (sym (plan_is r d p)) supplies),
    refl,
  )

  grant_lacks : (level : ℕ) (halt : Halt) (o : OracleState) → with_journal [] o ≡ with_journal [] d.oracle → IsGrantHalt d level halt → (context x : ℕ) → halt ≡ Missing context x → Lacks o x
  grant_lacks level halt o rest cause context x is = let told : IsGrantHalt d level (Missing context x) = subst (λ (h : Halt). IsGrantHalt d level h) is cause in lacks_same d.oracle o x rest told.1

  pub granted_came : IsGranted total d e → CameOf r d e × (e.state.had ≡ d.state.had) × (e.state.granted ≡ Some total)
  granted_came (level, at, inl (over, is)) = (
    subst (λ (z : NodeData). CameOf r d z) (sym is)
        (came_out r d p d.state.had (Some total) level (Stop (Spent level total)) false (Some (Spent level total)) true d.oracle d.known none_put_out refl (λ _ j s. had_each j s) (λ none _. none-some total (sym none))
        (λ context x told itself. absurd (not_spent level total context x (same_Some (Spent level total) (Missing context x) told)))),
    ap (λ (z : NodeData). z.state.had) is,
    ap (λ (z : NodeData). z.state.granted) is,
  )
  granted_came (level, at, inr (inl f)) = (
    subst (λ (z : NodeData). CameOf r d z) (sym f.rest)
        (came_out r d p d.state.had (Some total) level (Supply e.known.supplies) true d.state.halt d.state.by_itself e.oracle e.known none_put_out (ap (with_journal []) f.journal) (λ _ j s. had_each j s) (λ none _. none-some total (sym none))
        (λ context x told itself. absurd (none-some (Missing context x) (sym going ∙ told)))),
    ap (λ (z : NodeData). z.state.had) f.rest,
    ap (λ (z : NodeData). z.state.granted) f.rest,
  )
  granted_came (level, at, inr (inr f)) = (
    subst (λ (z : NodeData). CameOf r d z) (sym f.rest)
        (came_out r d p d.state.had (Some total) level (Stop f.halt) false (Some f.halt) true e.oracle e.known none_put_out f.oracle (λ _ j s. had_each j s) (λ none _. none-some total (sym none))
        (λ context x told itself. grant_lacks level f.halt e.oracle f.oracle f.cause context x (same_Some f.halt (Missing context x) told))),
    ap (λ (z : NodeData). z.state.had) f.rest,
    ap (λ (z : NodeData). z.state.granted) f.rest,
  )

  -- the need as one of the round
  level_same : is_need.waits.0 ≡ r.level
  level_same = same_Some is_need.waits.0 r.level (sym is_need.waits.1 ∙ p.level_is)

  round_same : round_at d is_need.waits.0 ≡ r
  round_same = ap (λ (n : ℕ). round_at d n) level_same ∙ p.round_is

  pub need_of : IsNeedOf r d.context need
  need_of = (is_need.new, subst (λ (q : Round). IsListing (IsNewQuestion q d.context) (λ a b. a < b) is_need.new) round_same is_need.listed, is_need.count)

-- ---- the account
module _ (r : Round) (d e : NodeData) (a : Account) where
  need_kept : (need : ℕ → ℕ) → e.state.granted ≡ d.state.granted → e.context ≡ d.context → granted_need need e ≡ granted_need need d
  need_kept need granted context = ap (λ (o : Option ℕ). cond (is_some o) (need e.context) 0) granted ∙ ap (λ (i : ℕ). cond (is_some d.state.granted) (need i) 0) context

  pub drawn_none : e.state.granted ≡ d.state.granted → e.context ≡ d.context → HasDrawn r d e a a
  drawn_none granted context = record {
    needs = λ need all. (let kept = need_kept need granted context in omega (arith, kept));
    whole = refl;
    rises = omega arith;
    kept = λ total is. granted ∙ is;
    below = λ total is. inr (sym granted ∙ is);
    top = λ bound low all. low;
  }

  pub drawn_one : (p : IsAtPlay r d) (need total : ℕ) → IsNeed d need → IsGranted total d e → e.context ≡ d.context → need ≤ a.left → a.top + need ≤ total → HasDrawn r d e a (after_draw need total a)
  drawn_one p need total is_need grant context room rises =
      let none : d.state.granted ≡ None = ungranted r d e p need total is_need in
      let some : e.state.granted ≡ Some total = (granted_came r d e p need total is_need grant).2 in record {
        needs = λ needs all. (
            let here : need ≡ needs d.context = need_one r d.context need (needs d.context) (need_of r d e p need total is_need) (all d.context p.in_range) in
            let before : granted_need needs d ≡ 0 = ap (λ (o : Option ℕ). cond (is_some o) (needs d.context) 0) none in
            let after : granted_need needs e ≡ needs d.context = ap (λ (o : Option ℕ). cond (is_some o) (needs e.context) 0) some ∙ ap needs context in
            omega (arith, here, before, after));
        whole = omega (arith, room);
        rises = omega (arith, rises);
        kept = λ t is. absurd (none-some t (sym none ∙ is));
        below = λ t is. inl (let same : total ≡ t = same_Some total t (sym some ∙ is) in omega (arith, same));
        top = λ bound low all. all total some;
      }
