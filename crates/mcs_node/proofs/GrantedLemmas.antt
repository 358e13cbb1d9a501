-- A node that was granted its total.
use Rattle.std.proofs.Common.{Vec, Global, ◌≡◌, ℕ, ◌<◌, ◌≤◌, ◌++◌, ◌⊎◌, Bool, true, false, List, [], take, length, Option, Some, None, is_some, Result, Ok, Err, IfOk, IfErr, refl, sym, ap, ◌∙◌, subst, inl, inr, arith}
use Rattle.std.proofs.lemmas.List.{take_all}
use Rattle.std.specs.List.{AllByRecursion}
use Rattle.std.specs.declared.sync.Arc.{Arc}
use Rattle.mcs_base.specs.Listings.{IsListing}
use Rattle.mcs_base.proofs.Mapped.{copied_each}
use Rattle.mcs_sets.specs.Sets.{Within}
use Rattle.mcs_system.specs.Plain.{System}
use Rattle.mcs_system.specs.Imports.{rules_into}
use Rattle.mcs_system.specs.Levels.{IsQuestionAt}
use Rattle.mcs_states.specs.Oracles.{OracleState, with_journal}
use Rattle.mcs_states.specs.declared.halt.Halt.{Halt}
use Rattle.mcs_states.specs.declared.halt.Halt.TheVariants.{Spent, Missing, Memory}
use Rattle.mcs_node.specs.Rounds.{IsNewQuestion, IsOwnHalt, Round, Stamp}
use Rattle.mcs_node.specs.Letters.{IsTrueHalt, Stop, Supply, shared_states}
use Rattle.mcs_node.specs.Known.{AreRight, HasAsked, HasAskingCause, IsAmongAsked, IsKnown, Knowledge, knowledge_of, new_of, questions_in}
use Rattle.mcs_node.specs.Nodes.{IsGranted, IsGrantHalt, NodeData, WaitsForGrant, letters_to, stamps_to, stopped_with, with_grant}
use Rattle.mcs_node.specs.Keeping.{AreHad, AreTold, IsAtStage, IsInRound, IsNode, IsReady, IsWaiting, oracle_in, stamps_had}
use Rattle.mcs_node.specs.declared.known.Known as known_code
use Rattle.mcs_node.specs.declared.round.Stage as stage_code
use Rattle.mcs_node.specs.declared.round.Stage.TheVariants.{Waits, Done, Stopped}
use Rattle.mcs_node.specs.declared.round.InRound as code
use Rattle.mcs_node.proofs.BeginLemmas.{node_in}
use Rattle.mcs_node.proofs.GrantLemmas.{all_among_asked, all_right, asked_rules, new_listed, waits_ready}
use Rattle.mcs_node.proofs.HandlingLemmas.{node_at}

-- ---- a halt that was told, or want of memory
pub cause_of_halt : {A : Type 0} (P : Halt → Type 0) (known : Result A Halt) (halt : Halt) → IfErr known P → P Memory → (halt ≡ Memory) ⊎ (known ≡ Err halt) → P halt
cause_of_halt P known halt told memory (inl e) = subst P (sym e) memory
cause_of_halt P known halt told memory (inr e) = subst (λ r. IfErr r P) e told

-- ---- the node is ready for its grant
module _ (m : System) (i budget : ℕ) (o : OracleState) (there : Bool) (receivers : List ℕ) (k : Knowledge) (before : Option ℕ) (r : code.InRound) (n : IsNode m i budget o there receivers k before (Some r)) (ready : IsReady r) where
  was : IsInRound m i budget o receivers k before r
  was = n.playing

  waiting : IsWaiting m i o receivers k before r
  waiting = subst (λ z. IsAtStage m i budget o receivers k before r z) ready.0 was.stage

  questions_listed : IsListing (IsQuestionAt m r.level i) (λ a b. a < b) r.questions.items
  questions_listed = waiting.questions ready.1

  -- its oracle may be asked
  pub rules_asked : AllByRecursion (λ x. Within x (rules_into o.system i)) r.questions.items
  rules_asked = subst (λ (s : System). AllByRecursion (λ x. Within x (rules_into s i)) r.questions.items) (sym n.own.0) (asked_rules m r.level i r.questions.items questions_listed)

  pub asked_before : HasAsked o.system i o k.answers
  asked_before = subst (λ (s : System). HasAsked s i o k.answers) (sym n.own.0) waiting.asked

  pub right_before : AreRight o.system i k.answers
  right_before = subst (λ (s : System). AreRight s i k.answers) (sym n.own.0) (all_right m i before k waiting.known)

  pub among_asked : IsAmongAsked (questions_in k.answers) r.questions.items
  among_asked = all_among_asked m r.level i r.questions.items questions_listed before k waiting.known was.higher

  abbrev new : List ℕ
  new = new_of (questions_in k.answers) r.questions.items

  abbrev round : Round
  round = record { system = m; level = r.level; budget = budget; before = before }

  listed : IsListing (IsNewQuestion round i) (λ a b. a < b) new
  listed = new_listed m r.level i r.questions.items questions_listed before budget k waiting.known was.higher

  -- ---- what changes of what it keeps
  abbrev round_with : Vec (Arc (Vec ℕ Global) Global) Global → stage_code.Stage → code.InRound
  round_with copies st = record r { copies = copies; stage = st }

  still_had : (copies : Vec (Arc (Vec ℕ Global) Global) Global) (st : stage_code.Stage) → AreHad m i (round_with copies st)
  still_had copies st = let h = was.had in record { apart = h.apart; each_supplies = h.each_supplies; places = h.places; room = h.room }

  still_told : (copies : Vec (Arc (Vec ℕ Global) Global) Global) (st : stage_code.Stage) → AreTold m i (round_with copies st)
  still_told copies st = let t = waiting.told in record { no_stop = t.no_stop; told = t.told }

  still_own : (p : OracleState) → with_journal [] p ≡ with_journal [] o → (p.system ≡ m) × (p.context ≡ i)
  still_own p rest = (ap (λ (q : OracleState). q.system) rest ∙ n.own.0, ap (λ (q : OracleState). q.context) rest ∙ n.own.1)

  node_with : (p : OracleState) (l : Knowledge) (copies : Vec (Arc (Vec ℕ Global) Global) Global) (st : stage_code.Stage) → with_journal [] p ≡ with_journal [] o → IsAtStage m i budget p receivers l before (round_with copies st) st
      → IsNode m i budget p true receivers l before (Some (round_with copies st))
  node_with p l copies st rest at = record {
    in_range = n.in_range;
    supplies = n.supplies;
    present = refl;
    own = still_own p rest;
    playing = record { higher = was.higher; had = still_had copies st; envelopes = was.envelopes; few = was.few; stage = at };
  }

  -- ---- what is seen of it
  abbrev old : NodeData
  old = node_in m i budget o receivers k before (Some r)

  abbrev stamps : List Stamp
  stamps = stamps_had r.level i r.had.items

  same_waiting : old ≡ node_at m i budget o receivers k before r.level stamps Waits (length r.envelopes.items)
  same_waiting = ap (λ z. node_at m i budget o receivers k before r.level stamps z (length r.envelopes.items)) ready.0

  all_receivers : take (length r.envelopes.items) receivers ≡ receivers
  all_receivers = take_all (length r.envelopes.items) receivers (let e = waiting.whole in omega (arith, e))

  -- ---- it stops
  abbrev stopped : ℕ → Halt → code.InRound
  stopped total halt = record r { stage = Stopped (Some total) halt true }

  seen_stopped : (total : ℕ) (p : OracleState) (l : Knowledge) (halt : Halt) → node_in m i budget p receivers l before (Some (stopped total halt)) ≡ record (stopped_with r.level halt true (with_grant total old)) { oracle = p; known = l }
  seen_stopped total p l halt =
      let seen : List ℕ → NodeData = λ js. record {
        plan = m;
        context = i;
        budget = budget;
        oracle = p;
        before = before;
        level = Some r.level;
        state = record { begun = true; had = stamps; granted = Some total; put_out = stamps_to r.level i true receivers; done = false; halt = Some halt; by_itself = true };
        receivers = receivers;
        outbox = letters_to m r.level i (Stop halt) js;
        known = l;
      } in ap seen all_receivers

  node_stopped : (total : ℕ) (p : OracleState) (l : Knowledge) (halt : Halt) (s : code.InRound) → s ≡ stopped total halt → with_journal [] p ≡ with_journal [] o → IsTrueHalt m r.level halt → IsOwnHalt round i (Some total) halt → IsNode m i budget p true receivers l before (Some s)
  node_stopped total p l halt s is rest truth own =
      subst (λ (z : code.InRound). IsNode m i budget p true receivers l before (Some z)) (sym is) (node_with p l r.copies (Stopped (Some total) halt true) rest (record { true_halt = truth; cause = own }))

  -- the total is above the budget
  module _ (total : ℕ) (s : code.InRound) (is : s ≡ stopped total (Spent r.level total)) (above : budget < total) where
    pub spent_granted : IsGranted total old (node_in m i budget o receivers k before (Some s))
    spent_granted = (r.level, refl, inl (above, ap (λ (z : code.InRound). node_in m i budget o receivers k before (Some z)) is ∙ seen_stopped total o k (Spent r.level total)))

  -- it has a halt of its own
  grant_halt : (halt : Halt) → HasAskingCause i o new halt → IsGrantHalt old r.level halt
  grant_halt (Spent at drawn) none = absurd none
  grant_halt (Missing context x) (same, among, lacks) = (same, lacks, (listed.exactly x).0 among)
  grant_halt Memory h = tt

  halt_true : (halt : Halt) → HasAskingCause i o new halt → IsTrueHalt m r.level halt
  halt_true (Spent at drawn) none = absurd none
  halt_true (Missing context x) (same, among, lacks) = let q = (listed.exactly x).0 among in subst (λ (j : ℕ). IsQuestionAt m r.level j x) (sym same) q.0
  halt_true Memory h = tt

  halt_own : (total : ℕ) → total ≤ budget → (halt : Halt) → HasAskingCause i o new halt → IsOwnHalt round i (Some total) halt
  halt_own total within (Spent at drawn) none = absurd none
  halt_own total within (Missing context x) (same, among, lacks) = (same, (total, refl, within), (listed.exactly x).0 among)
  halt_own total within Memory h = tt

  module _ (total : ℕ) (p : OracleState) (l : Knowledge) (halt : Halt) (s : code.InRound) (is : s ≡ stopped total halt) (within : total ≤ budget) (cause : HasAskingCause i o new halt) (rest : with_journal [] p ≡ with_journal [] o) where
    pub failed_node : IsNode m i budget p true receivers l before (Some s)
    failed_node = node_stopped total p l halt s is rest (halt_true halt cause) (halt_own total within halt cause)

    pub failed_granted : IsGranted total old (node_in m i budget p receivers l before (Some s))
    failed_granted = (
      r.level,
      refl,
      inr (inr (record {
        within = within;
        halt = halt;
        cause = grant_halt halt cause;
        oracle = rest;
        rest = ap (λ (z : code.InRound). node_in m i budget p receivers l before (Some z)) is ∙ seen_stopped total p l halt;
      })),
    )

  -- ---- it is done
  known_now : (l : Knowledge) → ((level : ℕ) → IsListing (IsQuestionAt o.system level i) (λ a b. a < b) r.questions.items → IsKnown o.system level i l) → IsKnown m r.level i l
  known_now l told = subst (λ (s : System). IsKnown s r.level i l) n.own.0 (told r.level (subst (λ (s : System). IsListing (IsQuestionAt s r.level i) (λ a b. a < b) r.questions.items) (sym n.own.0) questions_listed))

  seen_done : (total : ℕ) (p : OracleState) (l : Knowledge) (copies : Vec (Arc (Vec ℕ Global) Global) Global) → node_in m i budget p receivers l before (Some (round_with copies (Done total)))
      ≡ record old {
        oracle = p;
        state = record old.state { granted = Some total; put_out = stamps_to r.level i false receivers; done = true };
        outbox = letters_to m r.level i (Supply l.supplies) receivers;
        known = l;
      }
  seen_done total p l copies =
      let seen : List ℕ → NodeData = λ js. record {
        plan = m;
        context = i;
        budget = budget;
        oracle = p;
        before = before;
        level = Some r.level;
        state = record { begun = true; had = stamps; granted = Some total; put_out = stamps_to r.level i false receivers; done = true; halt = None; by_itself = false };
        receivers = receivers;
        outbox = letters_to m r.level i (Supply l.supplies) js;
        known = l;
      } in
      ap seen all_receivers ∙ ap (λ (d : NodeData). record d {
        oracle = p;
        state = record d.state { granted = Some total; put_out = stamps_to r.level i false receivers; done = true };
        outbox = letters_to m r.level i (Supply l.supplies) receivers;
        known = l;
      }) (sym same_waiting)

  module _ (total : ℕ) (p : OracleState) (l : Knowledge) (copies : Vec (Arc (Vec ℕ Global) Global) Global) (s : code.InRound) (is : s ≡ round_with copies (Done total)) (within : total ≤ budget)
      (told : (level : ℕ) → IsListing (IsQuestionAt o.system level i) (λ a b. a < b) r.questions.items → IsKnown o.system level i l) (now : HasAsked o.system i p l.answers) where
    asked_now : HasAsked m i p l.answers
    asked_now = subst (λ (s : System). HasAsked s i p l.answers) n.own.0 now

    pub finished_node : with_journal [] p ≡ with_journal [] o → length copies.items ≡ length r.envelopes.items → AllByRecursion (λ copy. shared_states copy ≡ l.supplies) copies.items → IsNode m i budget p true receivers l before (Some s)
    finished_node rest count each = subst (λ (z : code.InRound). IsNode m i budget p true receivers l before (Some z)) (sym is) (node_with p l copies (Done total) rest (record {
      told = still_told copies (Done total);
      each = ready.1;
      within = within;
      known = known_now l told;
      asked = asked_now;
      copies = copied_each shared_states l.supplies copies.items r.envelopes.items count each;
    }))

    pub finished_granted : p ≡ with_journal (o.journal ++ new) o → IsGranted total old (node_in m i budget p receivers l before (Some s))
    finished_granted journal = (
      r.level,
      refl,
      inr (inl (record {
        within = within;
        known = known_now l told;
        asked = asked_now;
        new = new;
        listed = listed;
        journal = journal;
        rest = ap (λ (z : code.InRound). node_in m i budget p receivers l before (Some z)) is ∙ seen_done total p l copies;
      })),
    )

-- ---- the round and the oracle are taken out of the node
module _ {O : Type 0} (stands : O → OracleState) (m : System) (i budget : ℕ) (receivers : List ℕ) (known : known_code.Known) (before : Option ℕ) (oracle : Option O) (round : Option code.InRound)
    (n : IsNode m i budget (oracle_in stands oracle) (is_some oracle) receivers (knowledge_of known) before round) (d : NodeData) (seen : node_in m i budget (oracle_in stands oracle) receivers (knowledge_of known) before round ≡ d) (waits : WaitsForGrant d)
    (r : code.InRound) (in_round : Some r ≡ round) where
  with_round : IsNode m i budget (oracle_in stands oracle) (is_some oracle) receivers (knowledge_of known) before (Some r)
  with_round = subst (λ (z : Option code.InRound). IsNode m i budget (oracle_in stands oracle) (is_some oracle) receivers (knowledge_of known) before z) (sym in_round) n

  seen_round : node_in m i budget (oracle_in stands oracle) receivers (knowledge_of known) before (Some r) ≡ d
  seen_round = ap (λ (z : Option code.InRound). node_in m i budget (oracle_in stands oracle) receivers (knowledge_of known) before z) in_round ∙ seen

  is_ready : IsReady r
  is_ready = waits_ready m i budget (oracle_in stands oracle) receivers (knowledge_of known) before r with_round.in_range with_round.playing (subst WaitsForGrant (sym seen_round) waits)

  pub granted_above : (total : ℕ) (s : code.InRound) → s ≡ record r { stage = Stopped (Some total) (Spent r.level total) true } → budget < total → IsGranted total d (node_in m i budget (oracle_in stands oracle) receivers (knowledge_of known) before (Some s))
  granted_above total s is above = subst (λ (z : NodeData). IsGranted total z (node_in m i budget (oracle_in stands oracle) receivers (knowledge_of known) before (Some s))) seen_round
      (spent_granted m i budget (oracle_in stands oracle) (is_some oracle) receivers (knowledge_of known) before r with_round is_ready total s is above)

  module _ (o : O) (its : Some o ≡ oracle) where
    with_oracle : IsNode m i budget (stands o) true receivers (knowledge_of known) before (Some r)
    with_oracle = subst (λ (z : Option O). IsNode m i budget (oracle_in stands z) (is_some z) receivers (knowledge_of known) before (Some r)) (sym its) with_round

    seen_oracle : node_in m i budget (stands o) receivers (knowledge_of known) before (Some r) ≡ d
    seen_oracle = ap (λ (z : Option O). node_in m i budget (oracle_in stands z) receivers (knowledge_of known) before (Some r)) its ∙ seen_round

    -- what is asked of it
    module _ (asked : List ℕ) (is_asked : asked ≡ r.questions.items) where
      pub of_rules : AllByRecursion (λ x. Within x (rules_into (stands o).system i)) asked
      of_rules = subst (λ (xs : List ℕ). AllByRecursion (λ x. Within x (rules_into (stands o).system i)) xs) (sym is_asked) (rules_asked m i budget (stands o) true receivers (knowledge_of known) before r with_oracle is_ready)

      module _ (given : known_code.Known) (is_given : given ≡ known) where
        pub among_them : IsAmongAsked (questions_in (knowledge_of given).answers) asked
        among_them = subst (λ (z : known_code.Known). IsAmongAsked (questions_in (knowledge_of z).answers) asked) (sym is_given)
            (subst (λ (xs : List ℕ). IsAmongAsked (questions_in (knowledge_of known).answers) xs) (sym is_asked) (among_asked m i budget (stands o) true receivers (knowledge_of known) before r with_oracle is_ready))

        abbrev asked_anew : List ℕ
        asked_anew = new_of (questions_in (knowledge_of given).answers) asked

        same_new : asked_anew ≡ new_of (questions_in (knowledge_of known).answers) r.questions.items
        same_new = ap (λ (z : known_code.Known). new_of (questions_in (knowledge_of z).answers) asked) is_given ∙ ap (new_of (questions_in (knowledge_of known).answers)) is_asked

        -- and what comes of it
        module _ (p : O) (told : Result known_code.Known Halt) (rest : with_journal [] (stands p) ≡ with_journal [] (stands o)) (total : ℕ) (within : total ≤ budget) (s : code.InRound) where
          module _ (all : known_code.Known) (ok : told ≡ Ok all) (copies : Vec (Arc (Vec ℕ Global) Global) Global) (is : s ≡ record r { copies = copies; stage = Done total })
              (is_known : IfOk told (λ l. (level : ℕ) → IsListing (IsQuestionAt (stands o).system level i) (λ a b. a < b) asked → IsKnown (stands o).system level i (knowledge_of l)))
              (now : IfOk told (λ l. HasAsked (stands o).system i (stands p) (knowledge_of l).answers)) where
            known_then : (level : ℕ) → IsListing (IsQuestionAt (stands o).system level i) (λ a b. a < b) r.questions.items → IsKnown (stands o).system level i (knowledge_of all)
            known_then level listed =
                let known_all : (level : ℕ) → IsListing (IsQuestionAt (stands o).system level i) (λ a b. a < b) asked → IsKnown (stands o).system level i (knowledge_of all) = rw ok at is_known in
                known_all level (subst (λ (xs : List ℕ). IsListing (IsQuestionAt (stands o).system level i) (λ a b. a < b) xs) (sym is_asked) listed)

            asked_then : HasAsked (stands o).system i (stands p) (knowledge_of all).answers
            asked_then = rw ok at now

            pub finished_kept : length copies.items ≡ length r.envelopes.items → AllByRecursion (λ copy. shared_states copy ≡ all.supplies.items) copies.items → IsNode m i budget (stands p) true receivers (knowledge_of all) before (Some s)
            finished_kept count each = finished_node m i budget (stands o) true receivers (knowledge_of known) before r with_oracle is_ready total (stands p) (knowledge_of all) copies s is within known_then asked_then rest count each

            pub finished_seen : IfOk told (λ _. stands p ≡ with_journal ((stands o).journal ++ asked_anew) (stands o)) → IsGranted total d (node_in m i budget (stands p) receivers (knowledge_of all) before (Some s))
            finished_seen journal =
                let grown : stands p ≡ with_journal ((stands o).journal ++ asked_anew) (stands o) = rw ok at journal in
                subst (λ (z : NodeData). IsGranted total z (node_in m i budget (stands p) receivers (knowledge_of all) before (Some s))) seen_oracle
                (finished_granted m i budget (stands o) true receivers (knowledge_of known) before r with_oracle is_ready total (stands p) (knowledge_of all) copies s is within known_then asked_then
                (grown ∙ ap (λ (xs : List ℕ). with_journal ((stands o).journal ++ xs) (stands o)) same_new))

          module _ (left : known_code.Known) (halt : Halt) (is : s ≡ record r { stage = Stopped (Some total) halt true }) (causes : IfErr told (HasAskingCause i (stands o) asked_anew)) (cause : (halt ≡ Memory) ⊎ (told ≡ Err halt)) where
            cause_then : HasAskingCause i (stands o) (new_of (questions_in (knowledge_of known).answers) r.questions.items) halt
            cause_then = subst (λ (xs : List ℕ). HasAskingCause i (stands o) xs halt) same_new (cause_of_halt (HasAskingCause i (stands o) asked_anew) told halt causes tt cause)

            pub failed_kept : IsNode m i budget (stands p) true receivers (knowledge_of left) before (Some s)
            failed_kept = failed_node m i budget (stands o) true receivers (knowledge_of known) before r with_oracle is_ready total (stands p) (knowledge_of left) halt s is within cause_then rest

            pub failed_seen : IsGranted total d (node_in m i budget (stands p) receivers (knowledge_of left) before (Some s))
            failed_seen = subst (λ (z : NodeData). IsGranted total z (node_in m i budget (stands p) receivers (knowledge_of left) before (Some s))) seen_oracle
                (failed_granted m i budget (stands o) true receivers (knowledge_of known) before r with_oracle is_ready total (stands p) (knowledge_of left) halt s is within cause_then rest)
