-- What rounds leave of an evaluation, and what its calls tell of it.
use Rattle.std.proofs.Common.{◌≡◌, ℕ, ◌+◌, ◌<◌, ◌≤◌, max, suc, Bool, true, false, true≢false, ◌||◌, List, [], ◌∷◌, map, length, slice_get, Option, Some, None, Result, Ok, Err, is_some, refl, sym, ap, ◌∙◌, subst, inl, inr, arith}
use Rattle.std.proofs.lemmas.Bool.{cases_lt}
use Rattle.std.proofs.lemmas.List.{length-map}
use Rattle.std.proofs.lemmas.List.Sums.{sum_by-cons}
use Rattle.std.proofs.lemmas.Option.{none-some, same_Some, slice_get_within}
use Rattle.std.specs.List.{sum_by}
use Rattle.mcs_base.specs.Listings.{IsAmong, IsInventory}
use Rattle.mcs_base.proofs.Among.{nil_from_none}
use Rattle.mcs_base.proofs.Lists.{map_slice_get, slice_get-map_some, slice_get_below}
use Rattle.mcs_system.specs.Plain.{System}
use Rattle.mcs_system.specs.Levels.{IsQuestionAt, HasQuestions, IsCount}
use Rattle.mcs_import.proofs.CountLemmas.{count_is_one, counts_agree, journals_counted, questions_grow}
use Rattle.mcs_states.specs.Oracles.{OracleState, IsLacking}
use Rattle.mcs_states.specs.Evaluators.{EvaluatorState, HasDone, HasHalted, HasHaltCause, IsEvaluatorSettled, IsUnanswered, KeepsRest, unasked, raised, asked_of}
use Rattle.mcs_states.specs.declared.halt.Halt.{Halt}
use Rattle.mcs_states.specs.declared.halt.Halt.TheVariants.{Spent, Missing, Memory}
use Rattle.mcs_states.proofs.Causes.{same_oracle}
use Rattle.mcs_node.specs.Known.{HasAsked, IsKnown, Knowledge, questions_in}
use Rattle.mcs_node.specs.Rounds.{Finishes, NodeState, Round}
use Rattle.mcs_node.specs.Configurations.{IsDone, IsQuiet}
use Rattle.mcs_node.specs.Laws.{AreFinished, listed_by_node}
use Rattle.mcs_node.specs.Nodes.{IsAbove, NodeData, done_level, round_at}
use Rattle.mcs_node.specs.Playing.{HasState, has_begun, has_not}
use Rattle.mcs_node.proofs.DoneLemmas.{done_rounds_are_quiet}
use Rattle.mcs_mesh.specs.Players.{AreNodesOf, HasRoundCause, HaveFinished, HaveReached, IsPlayed, IsReadyRound, as_new, known_to, oracles_of}
use Rattle.mcs_mesh.specs.Rounds.{AreFresh, AreKnown, AreNew, CanGoOn, EvaluationData, HasFewRules, HaveFinishedLast, IsEvaluation, HasEndedBy, HasLastRound, HasShown, IsHaltOfRound, IsLastRound, IsLastRoundOf, IsSoundRound, evaluation_of, evaluator_state_of, round_of}
use Rattle.mcs_mesh.proofs.LastingLemmas.{count_higher, known_higher}
use Rattle.mcs_mesh.proofs.NodeLemmas.{oracles_rest, still_nodes}
use Rattle.mcs_laws.proofs.Questions.{question_higher}

-- ---- levels that differ in nothing
module _ (m : System) (last level : ℕ) (low : last ≤ level) (alike : last < level → HasFewRules m last) where
  pub known_alike : (i : ℕ) (k : Knowledge) → i < length m.contexts → IsKnown m last i k → IsKnown m level i k
  known_alike i k in_range one = elim (cases_lt last level) [
    | inl less ↦ known_higher m last level (alike less) low i k in_range one
    | inr no_less ↦ let e : last ≡ level = omega (arith, low, no_less) in subst (λ n. IsKnown m n i k) e one
  ]

  pub count_alike : (n : ℕ) → IsCount m last n → IsCount m level n
  count_alike n one = elim (cases_lt last level) [
    | inl less ↦ count_higher m last level (alike less) low n one
    | inr no_less ↦ let e : last ≡ level = omega (arith, low, no_less) in subst (λ l. IsCount m l n) e one
  ]

-- ---- what an evaluator stands for
abbrev state_with : ℕ → System → ℕ → Option ℕ → Option Halt → Bool → List OracleState → EvaluatorState
state_with w m budget done halt halted oracles = record { system = m; budget = budget; workers = w; done = done; halt = halt; halted = halted; oracles = oracles }

neither : (halt : Option Halt) (replayed : Bool) → is_some halt || replayed ≡ false → (halt ≡ None) × (replayed ≡ false)
neither None false going = (refl, refl)
neither None true going = absurd (true≢false going)
neither (Some h) replayed going = absurd (true≢false going)

-- ---- the journals
sum_of_journals : (os : List OracleState) → sum_by (λ (xs : List ℕ). length xs) (map (λ (o : OracleState). o.journal) os) ≡ sum_by (λ (o : OracleState). length o.journal) os
sum_of_journals [] = refl
sum_of_journals (o ∷ os) =
    let rest = sum_of_journals os in
    omega (arith, rest, sum_by-cons (λ (xs : List ℕ). length xs) o.journal (map (λ (o : OracleState). o.journal) os), sum_by-cons (λ (z : OracleState). length z.journal) o os)

no_journals : (os : List OracleState) → ((i : ℕ) (o : OracleState) → slice_get os i ≡ Some o → o.journal ≡ []) → sum_by (λ (o : OracleState). length o.journal) os ≡ 0
no_journals [] none = refl
no_journals (o ∷ os) none =
    let here = ap length (none 0 o refl) in
    let rest = no_journals os (λ i z at. none (suc i) z at) in
    omega (arith, here, rest, sum_by-cons (λ (z : OracleState). length z.journal) o os)

module _ (m : System) (budget : ℕ) (nodes : List NodeData) (own : AreNodesOf m budget nodes) where
  oracles_each : length (oracles_of nodes) ≡ length m.contexts
  oracles_each = length-map nodes (λ (d : NodeData). d.oracle) ∙ own.one_each

  in_range : (i : ℕ) (d : NodeData) → slice_get nodes i ≡ Some d → i < length m.contexts
  in_range i d at = let b = slice_get_within nodes i d at in let e = own.one_each in omega (arith, b, e)

  -- ---- once a level was done
  module _ (asked last : ℕ) (r : HaveReached m budget (Some last) asked nodes) (level : ℕ) (low : last ≤ level) (alike : last < level → HasFewRules m last) where
    context_at : (i : ℕ) (o : OracleState) → slice_get (oracles_of nodes) i ≡ Some o → (k : Knowledge) × HasAsked m i o k.answers × IsKnown m level i k
    context_at i o at =
        let (d, there, e) = map_slice_get (λ (d : NodeData). d.oracle) nodes i o at in
        let one = r.each i d there in
        (d.known, subst (λ (z : OracleState). HasAsked m i z d.known.answers) e one.asked, known_alike m last level low alike i d.known (in_range i d there) one.known)

    journal_at : (i : ℕ) (o : OracleState) → slice_get (oracles_of nodes) i ≡ Some o → IsInventory (IsQuestionAt m level i) o.journal
    journal_at i o at = let (k, has, one) = context_at i o at in record {
      exactly = λ x. (
        λ h. (one.answered.questions.exactly x).0 ((has.journal.exactly x).0 h),
        λ q. (has.journal.exactly x).1 ((one.answered.questions.exactly x).1 q),
      );
      apart = has.journal.apart;
    }

    all_known : AreKnown m level (known_to nodes)
    all_known i k at =
        let (d, there, e) = map_slice_get (λ (d : NodeData). d.known) nodes i k at in
        subst (λ (z : Knowledge). IsKnown m level i z) e (known_alike m last level low alike i d.known (in_range i d there) (r.each i d there).known)

    is_count : IsCount m level asked
    is_count = count_alike m last level low alike asked r.count

    asked_in_journals : asked ≡ sum_by (λ (o : OracleState). length o.journal) (oracles_of nodes)
    asked_in_journals = count_is_one m level asked _ is_count (journals_counted m level (map (λ (o : OracleState). o.journal) (oracles_of nodes))
        (length-map (oracles_of nodes) (λ (o : OracleState). o.journal) ∙ oracles_each)
        (λ i xs at. let (o, there, e) = map_slice_get (λ (o : OracleState). o.journal) (oracles_of nodes) i xs at in subst (λ ys. IsInventory (IsQuestionAt m level i) ys) e (journal_at i o there)))
        ∙ sum_of_journals (oracles_of nodes)

    settled : (w : ℕ) → IsEvaluatorSettled (evaluator_state_of w m budget (Some level) None (oracles_of nodes))
    settled w = record {
      going = refl;
      no_halt = refl;
      one_each = oracles_each;
      own = λ i o at. let (k, has, one) = context_at i o at in (has.system, has.context);
      asked = journal_at;
    }

    -- a call of this level, or of a lower one, came to its end
    module _ (w : ℕ) (reached : Option ℕ) (halt : Option Halt) (halted : Bool) (first : List OracleState) (same : unasked (oracles_of nodes) ≡ unasked first) (lower : ℕ) (less : lower ≤ level) where
      not_beyond : ¬ HasQuestions m lower (budget + 1)
      not_beyond h =
          let most : budget + 1 ≤ asked = (counts_agree m level asked (budget + 1) is_count).0 (questions_grow m lower level (budget + 1) less h) in
          let few = r.within in omega (arith, most, few)

      none_unanswered : (i x : ℕ) → ¬ IsUnanswered (state_with w m budget reached halt halted first) lower i x
      none_unanswered i x u =
          let (o, at, holds) = same_oracle first (oracles_of nodes) (sym same) i u.oracle u.is_its in
          let (k, has, one) = context_at i o at in
          has.held x ((one.answered.questions.exactly x).1 (question_higher m lower level i x less u.question)) (subst (λ (h : Option (List ℕ)). IsLacking h x) holds u.lacks)

      has_done : Some level ≡ raised reached lower → HasDone (state_with w m budget reached halt halted first) (evaluator_state_of w m budget (Some level) None (oracles_of nodes)) lower
      has_done is = record { level_done = is; settled = settled w; within = not_beyond; answered = none_unanswered }

  -- before any level was done
  none_in_journals : (asked : ℕ) → HaveReached m budget None asked nodes → asked ≡ sum_by (λ (o : OracleState). length o.journal) (oracles_of nodes)
  none_in_journals asked r = r.count ∙ sym (no_journals (oracles_of nodes) (λ i o at.
      let (d, there, e) = map_slice_get (λ (d : NodeData). d.oracle) nodes i o at in
      let one = r.each i d there in
      sym (ap (λ (z : OracleState). z.journal) e) ∙ nil_from_none d.oracle.journal (λ x h. none_there d.known x one.known ((one.asked.journal.exactly x).0 h))))
    where
      none_there : (k : Knowledge) (x : ℕ) → k.answers ≡ [] → ¬ IsAmong x (questions_in k.answers)
      none_there k x none h = subst (λ xs. IsAmong x (questions_in xs)) none h

-- ---- the beginning
pub fresh : (w : ℕ) (m : System) (budget : ℕ) (os : List OracleState) (nodes : List NodeData) → AreFresh m os → AreNew m budget os nodes → IsEvaluation (evaluation_of w m budget None None false None nodes) 0
fresh w m budget os nodes own new = record {
  own = record {
    one_each = new.one_each;
    each = λ i d at. let one = new.each i d at in record {
      plan = ap (λ (z : NodeData). z.plan) one.rest;
      context = ap (λ (z : NodeData). z.context) one.rest;
      budget_is = ap (λ (z : NodeData). z.budget) one.rest;
      receivers = one.receivers;
    };
  };
  new = λ _ _. record { one_each = new.one_each; oracles_are = refl; each = new.each };
  ready = λ _. record {
    last = tt;
    reached = record {
      each = λ i d at.
          let one = new.each i d at in
          let nothing : d.known.answers ≡ [] = ap (λ (z : NodeData). z.known.answers) one.rest in
          let (system, context, journal) = own i d.oracle (subst (λ zs. slice_get zs i ≡ Some d.oracle) new.oracles_are (slice_get-map_some (λ (z : NodeData). z.oracle) nodes i d at)) in
          record {
            level = ap (λ (z : NodeData). z.level) one.rest;
            reached = ap done_level one.rest;
            going = ap (λ (z : NodeData). z.state.halt) one.rest;
            known = nothing;
            asked = rw nothing (record {
              system = system;
              context = context;
              journal = rw journal (record { exactly = λ x. ((λ h. h), (λ h. h)); apart = tt });
              held = λ x h. absurd h;
            });
          };
      count = refl;
      within = omega arith;
    };
    finished = tt;
  };
}

-- ---- levels
raised_reaches : (before : Option ℕ) (level : ℕ) → (k : ℕ) × (raised before level ≡ Some k) × (level ≤ k)
raised_reaches None level = (level, refl, omega arith)
raised_reaches (Some d) level = (max d level, refl, omega arith)

raised_to : (reached : Option ℕ) (level : ℕ) → ((d : ℕ) → reached ≡ Some d → d ≤ level) → Some level ≡ raised reached level
raised_to None level low = refl
raised_to (Some d) level low = let l = low d refl in let e : level ≡ max d level = omega (arith, l) in ap (λ n. Some n) e

-- the level of the last round, where one was played
last_of : (m : System) (last : Option ℕ) (d : ℕ) → IsLastRound m last (Some d) → (l : ℕ) × (last ≡ Some l) × (l ≤ d) × (l < d → HasFewRules m l)
last_of m None d none = absurd none
last_of m (Some l) d is = (l, refl, is.0, is.1)

last_before : (m : System) (last done : Option ℕ) (level : ℕ) → IsLastRound m last done → ((d : ℕ) → done ≡ Some d → d < level) → IsAbove last level
last_before m None reached level is low = tt
last_before m (Some l) None level none low = absurd none
last_before m (Some l) (Some d) level is low = let less = low d refl in let few = is.0 in omega (arith, less, few)

-- the round that was played, told otherwise
pub as_played : (m m' : System) (level budget : ℕ) (nodes nodes' after : List NodeData) (total total' : Result ℕ Halt) → m' ≡ m → nodes' ≡ nodes → total ≡ total' → IsPlayed m' level budget nodes' after total → IsPlayed m level budget nodes after total'
as_played m m' level budget nodes nodes' after total total' same same' told p =
    subst (λ x. IsPlayed x level budget nodes after total') same (subst (λ ns. IsPlayed m' level budget ns after total') same' (subst (λ t. IsPlayed m' level budget nodes' after t) told p))

-- ---- a round that is done
-- the state of a node that has begun it
state_begun : (m : System) (level budget : ℕ) (before : Option ℕ) (i : ℕ) (d : NodeData) (s : NodeState) → d.level ≡ Some level → HasState (round_of m level budget before) i d s
    → (round_at d level ≡ round_of m level budget before) × (s ≡ d.state) × (d.state.begun ≡ true)
state_begun m level budget before i d s at (has_begun same is begun state) = (same, state, begun)
state_begun m level budget before i d s at (has_not plan budget_is done above going new) = absurd (let less : level < level = subst (λ (o : Option ℕ). IsAbove o level) at above in omega (arith, less))

module _ (m : System) (level budget asked : ℕ) (nodes : List NodeData) (r : HaveReached m budget (Some level) asked nodes) (f : HaveFinished level nodes) (s : IsSoundRound m level budget nodes) where
  -- the node of a state
  finished_state : (i : ℕ) (st : NodeState) → slice_get s.configuration.nodes i ≡ Some st → (st.begun ≡ true) × Finishes (round_of m level budget s.before) i st
  finished_state i st at =
      let (d, there) = slice_get_below nodes i (let b = slice_get_within s.configuration.nodes i st at in omega (arith, b, s.states.states_each)) in
      let (same, is, begun) = state_begun m level budget s.before i d st (r.each i d there).level (s.states.each i d st there at) in (
        subst (λ (z : NodeState). z.begun ≡ true) (sym is) begun,
        subst (λ (z : NodeState). Finishes (round_of m level budget s.before) i z) (sym is) (subst (λ (o : Round). Finishes o i d.state) same (f i d there)),
      )

  are_finished : AreFinished (round_of m level budget s.before) s.configuration.nodes
  are_finished = record { one_each = s.sound.one_each; begun = λ i st at. (finished_state i st at).0; finish = λ i st at. (finished_state i st at).1 }

  abbrev done_round : IsSoundRound m level budget nodes
  done_round = record { before = s.before; configuration = listed_by_node s.configuration.nodes; states = s.states; sound = (done_rounds_are_quiet (round_of m level budget s.before) s.configuration.nodes are_finished).0 }

  done_ended : IsQuiet (round_of m level budget s.before) (listed_by_node s.configuration.nodes) × IsDone (listed_by_node s.configuration.nodes)
  done_ended = ((done_rounds_are_quiet (round_of m level budget s.before) s.configuration.nodes are_finished).1, λ i st at. (finished_state i st at).1.done)

-- what is left of the last round
pub shown_at : {T : Type 0} (m : System) (level : ℕ) (leaves : System → ℕ → Result ℕ Halt → T → Type 0) (m' : System) → m' ≡ m → (trail : T) (total : Result ℕ Halt) → leaves m' level total trail → (halt : Option Halt) → HasEndedBy halt total
    → (n : ℕ) → Some level ≡ Some n → HasShown (leaves m n) halt (Some trail)
shown_at m level leaves m' same trail total left halt ended n is =
    (trail, refl, total, subst (λ (k : ℕ). leaves m k total trail) (same_Some level n is) (subst (λ (k : System). leaves k level total trail) same left), ended)

-- and stays so after want of memory
pub shown_on : {T : Type 0} (leaves : Result ℕ Halt → T → Type 0) (shown : Option T) (halt halt' : Option Halt) → halt ≡ None → halt' ≡ Some Memory → HasShown leaves halt shown → HasShown leaves halt' shown
shown_on leaves shown halt halt' none memory (trail, is, total, left, ended) = (trail, is, total, left, subst (λ (h : Option Halt). HasEndedBy h total) (sym memory) (on total (subst (λ (h : Option Halt). HasEndedBy h total) none ended)))
  where
    on : (total : Result ℕ Halt) → HasEndedBy None total → HasEndedBy (Some Memory) total
    on (Ok n) ended = refl
    on (Err h) ended = absurd ended

-- ---- the last round, and the halt
-- a level that is not the last one was done without a round
pub other_level : (m m' : System) (level : ℕ) (last : Option ℕ) → m' ≡ m → ¬ (level ≡ length m'.bridges) → HasLastRound m (Some level) last
other_level m m' level last same other is = absurd (other (same_Some level (length m.bridges) is ∙ ap (λ (z : System). length z.bridges) (sym same)))

-- where there is a halt nothing is said of the last round
pub halted_anyhow : (kept : Option Halt) (h : Halt) (m : System) (greatest last : Option ℕ) → kept ≡ Some h → kept ≡ None → HasLastRound m greatest last
halted_anyhow kept h m greatest last is none = absurd (none-some h (sym none ∙ is))

round_halt : (m : System) (level budget : ℕ) (os : List OracleState) (h : Halt) → HasRoundCause m level budget os h → IsHaltOfRound budget (Some level) (Some h)
round_halt m level budget os (Spent at drawn) (is, more, some) = (is, more)
round_halt m level budget os (Missing i x) cause = tt
round_halt m level budget os Memory cause = tt

pub halt_of_round : (m : System) (level budget : ℕ) (nodes after : List NodeData) (kept : Option Halt) (h : Halt) → kept ≡ Some h → IsPlayed m level budget nodes after (Err h) → IsHaltOfRound budget (Some level) kept
halt_of_round m level budget nodes after kept h is p = subst (λ (o : Option Halt). IsHaltOfRound budget (Some level) o) (sym is) (round_halt m level budget (oracles_of nodes) h p.ends)

pub ended_err : (kept : Option Halt) (h : Halt) (total : Result ℕ Halt) → kept ≡ Some h → total ≡ Err h → HasEndedBy kept total
ended_err kept h total is ends = rw (is, ends) refl

-- ---- an evaluation, seen as `now`
module _ (w : ℕ) (m : System) (budget : ℕ) (reached : Option ℕ) (halt : Option Halt) (replayed : Bool) (last : Option ℕ) (nodes : List NodeData) (asked : ℕ)
    (l : IsEvaluation (evaluation_of w m budget reached halt replayed last nodes) asked) (now : EvaluationData) (view : evaluation_of w m budget reached halt replayed last nodes ≡ now) where
  no_halt : now.state.halted ≡ false → (halt ≡ None) × (replayed ≡ false)
  no_halt going = neither halt replayed (ap (λ (e : EvaluationData). e.state.halted) view ∙ going)

  pub ended_ok : now.state.halted ≡ false → (total : Result ℕ Halt) (n : ℕ) → total ≡ Ok n → HasEndedBy halt total
  ended_ok going total n ends = rw ((no_halt going).0, ends) tt

  pub memory_shown : {T : Type 0} (leaves : Result ℕ Halt → T → Type 0) (shown : Option T) (kept : Option Halt) → now.state.halted ≡ false → kept ≡ Some Memory → HasShown leaves halt shown → HasShown leaves kept shown
  memory_shown leaves shown kept going is one = shown_on leaves shown halt kept (no_halt going).0 is one

  -- it has had no halt of any round
  pub no_halt_yet : now.state.halted ≡ false → (any : Option ℕ) → IsHaltOfRound budget any halt
  no_halt_yet going any = subst (λ (o : Option Halt). IsHaltOfRound budget any o) (sym (no_halt going).0) tt

  can_go_on : now.state.halted ≡ false → CanGoOn (evaluation_of w m budget reached halt replayed last nodes) asked
  can_go_on going = l.ready (ap (λ (e : EvaluationData). e.state.halted) view ∙ going)

  -- the last round, where a level was done
  last_at : (d : ℕ) → now.state.halted ≡ false → reached ≡ Some d → (n : ℕ) × (n ≤ d) × (n < d → HasFewRules m n) × HaveReached m budget (Some n) asked nodes
  last_at d going is =
      let g = can_go_on going in
      let (n, last_is, low, alike) = last_of m last d (subst (λ o. IsLastRound m last o) is g.last) in
      (n, low, alike, subst (λ o. HaveReached m budget o asked nodes) last_is g.reached)

  pub again_done : (d level : ℕ) → now.state.halted ≡ false → reached ≡ Some d → level ≤ d → HasDone now.state (evaluation_of w m budget reached halt replayed last nodes).state level
  again_done d level going is less =
      let (none, not) = no_halt going in
      let (n, low, alike, r) = last_at d going is in
      let top : Some d ≡ raised (Some d) level = let e : d ≡ max d level = omega (arith, less) in ap (λ n. Some n) e in
      subst (λ (x : EvaluationData). HasDone x.state (evaluation_of w m budget reached halt replayed last nodes).state level) view
      (rw (is, none, not) (has_done m budget nodes l.own asked n r d low alike w (Some d) None false (oracles_of nodes) refl level less top))

  -- its level has no questions and rows that the one before has not
  module _ (level : ℕ) (going : now.state.halted ≡ false) (low : (d : ℕ) → reached ≡ Some d → d < level) (m' : System) (same_m : m' ≡ m) (done : (d : ℕ) × (reached ≡ Some d) × HasFewRules m' d) where
    lasting : (n : ℕ) × (last ≡ Some n) × (n ≤ level) × (n < level → HasFewRules m n)
    lasting =
        let (d, is, few) = done in
        let (n, last_is, below, alike) = last_of m last d (subst (λ o. IsLastRound m last o) is (can_go_on going).last) in
        let up = low d is in (
          n,
          last_is,
          omega (arith, below, up),
          λ less. elim (cases_lt n d) [
            | inl before ↦ alike before
            | inr no_less ↦ let e : d ≡ n = omega (arith, below, no_less) in subst (λ n. HasFewRules m n) e (subst (λ z. HasFewRules z d) same_m few)
          ],
        )

    lasting_round : IsLastRound m last (Some level)
    lasting_round = let (n, last_is, below, alike) = lasting in subst (λ (o : Option ℕ). IsLastRound m o (Some level)) (sym last_is) (below, alike)

    pub lasting_kept : IsEvaluation (evaluation_of w m budget (Some level) halt replayed last nodes) asked
    lasting_kept = record { own = l.own; new = l.new; ready = λ _. record { last = lasting_round; reached = (can_go_on going).reached; finished = (can_go_on going).finished } }

    pub lasting_done : HasDone now.state (evaluation_of w m budget (Some level) halt replayed last nodes).state level
    lasting_done =
        let (n, last_is, below, alike) = lasting in
        let (none, not) = no_halt going in
        let r = subst (λ (o : Option ℕ). HaveReached m budget o asked nodes) last_is (can_go_on going).reached in
        subst (λ (x : EvaluationData). HasDone x.state (evaluation_of w m budget (Some level) halt replayed last nodes).state level) view
        (rw (none, not) (has_done m budget nodes l.own asked n r level below alike w reached None false (oracles_of nodes) refl level (omega arith) (raised_to reached level (λ d is. let less = low d is in omega (arith, less)))))

  -- what is known at the level done
  pub known_at : (before : EvaluatorState) (level : ℕ) → HasDone before now.state level → (k : ℕ) × (reached ≡ Some k) × (level ≤ k) × (length nodes ≡ length m.contexts) × AreKnown m k (known_to nodes)
  known_at before level h =
      let (k, is, less) = raised_reaches before.done level in
      let done = ap (λ (e : EvaluationData). e.state.done) view ∙ h.level_done ∙ is in
      let (n, low, alike, r) = last_at k h.settled.going done in
      (k, done, less, l.own.one_each, all_known m budget nodes l.own asked n r k low alike)

  pub asked_is : now.state.halted ≡ false → asked ≡ asked_of now.state
  asked_is going = from last (can_go_on going).reached ∙ ap (λ (e : EvaluationData). asked_of e.state) view
    where
      from : (o : Option ℕ) → HaveReached m budget o asked nodes → asked ≡ sum_by (λ (o : OracleState). length o.journal) (oracles_of nodes)
      from None r = none_in_journals m budget nodes l.own asked r
      from (Some n) r = asked_in_journals m budget nodes l.own asked n r n (omega arith) (λ less. absurd (omega (arith, less)))

  -- ---- its nodes
  round_by : (level : ℕ) → last ≡ Some level → IsSoundRound m level budget nodes → (halted : Bool) → ((halted ≡ false) → CanGoOn (evaluation_of w m budget reached halt replayed last nodes) asked)
      → (s : IsSoundRound m level budget nodes) × (halted ≡ false → IsQuiet (round_of m level budget s.before) s.configuration × IsDone s.configuration)
  round_by level is s true ready = (s, λ going. absurd (true≢false going))
  round_by level is s false ready =
      let g = ready refl in
      let r = subst (λ (o : Option ℕ). HaveReached m budget o asked nodes) is g.reached in
      let f = subst (λ (o : Option ℕ). HaveFinishedLast o nodes) is g.finished in
      (done_round m level budget asked nodes r f s, λ _. done_ended m level budget asked nodes r f s)

  pub last_round : ((level : ℕ) → last ≡ Some level → IsSoundRound m level budget nodes) → (level : ℕ) → now.last ≡ Some level → IsLastRoundOf now level
  last_round left level is =
      let at = ap (λ (e : EvaluationData). e.last) view ∙ is in
      let (s, ended) = round_by level at (left level at) (is_some halt || replayed) l.ready in
      subst (λ (e : EvaluationData). IsLastRoundOf e level) view (record { round = s; ended = ended })

  -- ---- what it leaves
  pub left_oracles : now.state.oracles ≡ oracles_of nodes
  left_oracles = ap (λ (e : EvaluationData). e.state.oracles) (sym view)

  pub left_nodes : AreNodesOf now.state.system now.state.budget nodes
  left_nodes = subst (λ (e : EvaluationData). AreNodesOf e.state.system e.state.budget nodes) view l.own

  pub left_last : now.state.halted ≡ false → IsLastRound now.state.system now.last now.state.done
  left_last going = subst (λ (e : EvaluationData). IsLastRound e.state.system e.last e.state.done) view (can_go_on going).last

  pub left_reaches : (halt ≡ None → HasLastRound m reached last) → now.state.halted ≡ false → HasLastRound now.state.system now.state.done now.last
  left_reaches reaches going = subst (λ (e : EvaluationData). HasLastRound e.state.system e.state.done e.last) view (reaches (no_halt going).0)

  pub left_each : (halt ≡ None → last ≡ reached) → now.state.halted ≡ false → now.last ≡ now.state.done
  left_each each going = subst (λ (e : EvaluationData). e.last ≡ e.state.done) view (each (no_halt going).0)

  pub left_halt : IsHaltOfRound budget last halt → IsHaltOfRound now.state.budget now.last now.state.halt
  left_halt is = subst (λ (e : EvaluationData). IsHaltOfRound e.state.budget e.last e.state.halt) view is

  pub left_shown : {T : Type 0} (leaves : ℕ → System → ℕ → ℕ → List NodeData → Result ℕ Halt → T → Type 0) (shown told : Option T) → told ≡ shown → ((level : ℕ) → last ≡ Some level → HasShown (leaves w m level budget nodes) halt shown)
      → (level : ℕ) → now.last ≡ Some level → HasShown (leaves now.state.workers now.state.system level now.state.budget now.nodes) now.state.halt told
  left_shown {T} leaves shown told same one level at = subst (λ (e : EvaluationData). HasShown (leaves e.state.workers e.state.system level e.state.budget e.nodes) e.state.halt told) view
      (subst (λ (o : Option T). HasShown (leaves w m level budget nodes) halt o) (sym same) (one level (ap (λ (e : EvaluationData). e.last) view ∙ at)))

  pub left_unshown : {T : Type 0} (shown told : Option T) → told ≡ shown → (last ≡ None → shown ≡ None) → now.last ≡ None → told ≡ None
  left_unshown shown told same none at = same ∙ none (ap (λ (e : EvaluationData). e.last) view ∙ at)

  -- ---- a round above it
  module _ (level : ℕ) (going : now.state.halted ≡ false) (low : (d : ℕ) → now.state.done ≡ Some d → d < level) where
    below : (d : ℕ) → reached ≡ Some d → d < level
    below d is = low d (sym (ap (λ (e : EvaluationData). e.state.done) view) ∙ is)

    pub play_ready : (m' : System) (nodes' : List NodeData) → m' ≡ m → nodes' ≡ nodes → IsReadyRound m' level budget asked nodes'
    play_ready m' nodes' same same' = let g = can_go_on going in rw (same, same') (record { own = l.own; before = last; above = last_before m last reached level g.last below; reached = g.reached })

    module _ (after : List NodeData) where
      -- it was done
      pub played_kept : (total : ℕ) → IsPlayed m level budget nodes after (Ok total) → IsEvaluation (evaluation_of w m budget (Some level) halt replayed (Some level) after) total
      played_kept total p = record {
        own = still_nodes after nodes p.same m budget l.own;
        new = λ _ none. absurd (none-some level (sym none));
        ready = λ _. record { last = (omega arith, λ less. absurd (omega (arith, less))); reached = p.ends.0; finished = p.ends.1 };
      }

      pub played_done : (total : ℕ) → IsPlayed m level budget nodes after (Ok total) → HasDone now.state (evaluation_of w m budget (Some level) halt replayed (Some level) after).state level
      played_done total p =
          let (none, not) = no_halt going in
          subst (λ (x : EvaluationData). HasDone x.state (evaluation_of w m budget (Some level) halt replayed (Some level) after).state level) view
          (rw (none, not) (has_done m budget after (still_nodes after nodes p.same m budget l.own) total level p.ends.0 level (omega arith) (λ less. absurd (omega (arith, less)))
          w reached None false (oracles_of nodes) (oracles_rest after nodes p.same) level (omega arith) (raised_to reached level (λ d is. let less = below d is in omega (arith, less)))))

      -- it stopped
      pub stopped_kept : (h : Halt) (n : ℕ) → map as_new after ≡ map as_new nodes → IsEvaluation (evaluation_of w m budget reached (Some h) replayed (Some level) after) n
      stopped_kept h n same = record { own = still_nodes after nodes same m budget l.own; new = λ _ none. absurd (none-some level (sym none)); ready = λ on. absurd (true≢false on) }

      pub played_halted : (h : Halt) → IsPlayed m level budget nodes after (Err h) → HasHalted now.state (evaluation_of w m budget reached (Some h) replayed (Some level) after).state level h
      played_halted h p = record { cause = subst (λ (x : EvaluationData). HasHaltCause x.state level h) view (halt_cause h p.ends); told = refl; over = refl }
        where
          halt_cause : (h : Halt) → HasRoundCause m level budget (oracles_of nodes) h → HasHaltCause (evaluation_of w m budget reached halt replayed last nodes).state level h
          halt_cause (Spent at drawn) c = c
          halt_cause (Missing i x) (o, at, lacks, question) = record { oracle = o; is_its = at; lacks = lacks; question = question }
          halt_cause Memory c = tt

      -- nothing else of it changed
      pub played_rest : (done' : Option ℕ) (halt' : Option Halt) → map as_new after ≡ map as_new nodes → KeepsRest now.state (evaluation_of w m budget done' halt' replayed (Some level) after).state
      played_rest done' halt' same = record {
        system = ap (λ (e : EvaluationData). e.state.system) view;
        budget = ap (λ (e : EvaluationData). e.state.budget) view;
        workers = ap (λ (e : EvaluationData). e.state.workers) view;
        oracles = oracles_rest after nodes same ∙ ap (λ (e : EvaluationData). unasked e.state.oracles) view;
      }

  -- memory ran out before it
  pub memory_halted : (level : ℕ) → HasHalted now.state (evaluation_of w m budget reached (Some Memory) replayed last nodes).state level Memory
  memory_halted level = record { cause = tt; told = refl; over = refl }

  pub memory_kept : IsEvaluation (evaluation_of w m budget reached (Some Memory) replayed last nodes) asked
  memory_kept = record { own = l.own; new = λ on. absurd (true≢false on); ready = λ on. absurd (true≢false on) }
