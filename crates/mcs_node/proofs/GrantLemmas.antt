-- A node that waits for its grant, and what it is asked.
use Rattle.std.proofs.Common.{◌≡◌, ℕ, ◌-◌, ◌<◌, ◌≤◌, false, List, length, Option, Some, None, refl, sym, ap, ◌∙◌, subst, arith}
use Rattle.std.proofs.lemmas.List.{length-map}
use Rattle.std.specs.List.{AllByRecursion}
use Rattle.mcs_base.specs.Listings.{IsAmong, IsListing}
use Rattle.mcs_base.proofs.Among.{among_map, map_among}
use Rattle.mcs_base.proofs.Distinct.{distinct_fits}
use Rattle.mcs_base.proofs.Each.{all_from_among}
use Rattle.mcs_sets.specs.Sets.{Within}
use Rattle.mcs_system.specs.Plain.{System}
use Rattle.mcs_system.specs.Imports.{rules_into, supplied}
use Rattle.mcs_system.specs.Levels.{IsQuestionAt}
use Rattle.mcs_system.proofs.ContextSets.{supplied_apart}
use Rattle.mcs_laws.proofs.Questions.{question_higher}
use Rattle.mcs_import.proofs.OrderLemmas.{import_order_exists}
use Rattle.mcs_states.specs.Oracles.{OracleState}
use Rattle.mcs_states.specs.Evaluators.{IsJournalQuestion}
use Rattle.mcs_rows.specs.Local.{Answered}
use Rattle.mcs_node.specs.Rounds.{IsNewQuestion, Stamp, stamp}
use Rattle.mcs_node.specs.Known.{AreRight, IsAmongAsked, IsKnownAt, Knowledge, new_of, questions_in}
use Rattle.mcs_node.specs.Nodes.{IsAbove, IsNeed, WaitsForGrant}
use Rattle.mcs_node.specs.Keeping.{IsAtStage, IsInRound, IsReady, froms, granted_in, halt_in, stamps_had}
use Rattle.mcs_node.specs.declared.round.Had as had_code
use Rattle.mcs_node.specs.declared.round.Stage as stage_code
use Rattle.mcs_node.specs.declared.round.Stage.TheVariants.{Waits, Done, Stopped}
use Rattle.mcs_node.specs.declared.round.InRound as code
use Rattle.mcs_node.proofs.AnswerLemmas.{new_count, new_is_new}
use Rattle.mcs_node.proofs.HandlingLemmas.{heard, in_order}
use Rattle.mcs_node.proofs.BeginLemmas.{node_in}

-- ---- the new questions
module _ (m : System) (level i : ℕ) (asked : List ℕ) (listed : IsListing (IsQuestionAt m level i) (λ a b. a < b) asked) where
  pub asked_rules : AllByRecursion (λ x. Within x (rules_into m i)) asked
  asked_rules = all_from_among (λ x. Within x (rules_into m i)) asked (λ x h. let (other, also, q) = (listed.exactly x).0 h in q.of_rules)

  pub all_among_asked : (before : Option ℕ) (k : Knowledge) → IsKnownAt m before i k → IsAbove before level → IsAmongAsked (questions_in k.answers) asked
  all_among_asked None k known higher = subst (λ (xs : List Answered). IsAmongAsked (questions_in xs) asked) (sym known) (record { before_ascending = tt; ascending = listed.ascending; among = λ x none. absurd none })
  all_among_asked (Some g) k known higher = record {
    before_ascending = known.answered.questions.ascending;
    ascending = listed.ascending;
    among = λ x h. (listed.exactly x).1 (question_higher m g level i x (omega (arith, higher)) ((known.answered.questions.exactly x).0 h));
  }

  was_asked : (before : Option ℕ) (k : Knowledge) → IsKnownAt m before i k → (x : ℕ) → (IsAmong x (questions_in k.answers) → IsJournalQuestion m before i x) × (IsJournalQuestion m before i x → IsAmong x (questions_in k.answers))
  was_asked None k known x = (λ h. subst (λ (xs : List Answered). IsAmong x (questions_in xs)) known h, λ none. absurd none)
  was_asked (Some g) k known x = known.answered.questions.exactly x

  pub new_listed : (before : Option ℕ) (budget : ℕ) (k : Knowledge) → IsKnownAt m before i k → IsAbove before level
      → IsListing (IsNewQuestion (record { system = m; level = level; budget = budget; before = before }) i) (λ a b. a < b) (new_of (questions_in k.answers) asked)
  new_listed before budget k known higher =
      let new = new_is_new asked (questions_in k.answers) (all_among_asked before k known higher) in record {
        exactly = λ x. (
          λ h. let (there, other) = (new.exactly x).0 h in ((listed.exactly x).0 there, λ was. other ((was_asked before k known x).1 was)),
          λ q. (new.exactly x).1 ((listed.exactly x).1 q.0, λ h. q.1 ((was_asked before k known x).0 h)),
        );
        ascending = new.ascending;
      }

pub all_right : (m : System) (i : ℕ) (before : Option ℕ) (k : Knowledge) → IsKnownAt m before i k → AreRight m i k.answers
all_right m i None k known = subst (λ (xs : List Answered). AreRight m i xs) (sym known) tt
all_right m i (Some g) k known = known.answered.parts

-- ---- it waits for its grant
module _ (m : System) (i budget : ℕ) (o : OracleState) (receivers : List ℕ) (k : Knowledge) (before : Option ℕ) (r : code.InRound) (low : i < length m.contexts) (was : IsInRound m i budget o receivers k before r) where
  stage_from : (st : stage_code.Stage) → granted_in st ≡ None → halt_in st ≡ None → st ≡ Waits
  stage_from Waits granted going = refl
  stage_from (Done total) granted going = absurd (cc)
  stage_from (Stopped granted halt by_itself) none going = absurd (cc)

  pub waits_ready : WaitsForGrant (node_in m i budget o receivers k before (Some r)) → IsReady r
  waits_ready (level, at_level, waits) =
      let (order, ordered) = import_order_exists m in
      let same : r.level ≡ level = cc in
      let all : length (supplied m order i) ≤ length (froms r.had.items) = distinct_fits (supplied m order i) (froms r.had.items) (supplied_apart m order i ordered)
      (λ j h. let (had, among, is) = map_among (λ (h : had_code.Had). stamp r.level h.from i h.stop) (stamp level j i false) r.had.items (waits.had j (order, ordered, low, h)) in
      let its : j ≡ had.from = ap (λ (y : Stamp). y.from) is in subst (λ x. IsAmong x (froms r.had.items)) (sym its) (among_map (λ (h : had_code.Had). h.from) had r.had.items among)) in
      let few : length (froms r.had.items) ≤ length (supplied m order i) = distinct_fits (froms r.had.items) (supplied m order i) was.had.apart (λ j h. in_order m i order ordered j (was.had.each_supplies j h)) in
      let long = was.had.places order ordered in
      let count = length-map r.had.items (λ (h : had_code.Had). h.from) in
      (stage_from r.stage waits.granted waits.halt, omega (arith, all, few, long, count))

  pub ready_waits : IsReady r → WaitsForGrant (node_in m i budget o receivers k before (Some r))
  ready_waits (waits, each) = (
    r.level,
    refl,
    record {
      begun = refl;
      had = λ j fits. let (h, among, is) = map_among (λ (h : had_code.Had). h.from) j r.had.items (heard m i r was.had each j fits) in
          let w = subst (λ z. IsAtStage m i budget o receivers k before r z) waits was.stage in
          let stamped : stamp r.level h.from i h.stop ≡ stamp r.level j i false = ap (λ x. stamp r.level x i h.stop) (sym is) ∙ ap (λ b. stamp r.level j i b) (w.told.no_stop h among) in
          subst (λ x. IsAmong x (stamps_had r.level i r.had.items)) stamped (among_map (λ (h : had_code.Had). stamp r.level h.from i h.stop) h r.had.items among);
      halt = ap halt_in waits;
      granted = ap granted_in waits;
    },
  )

  -- its need, once it is ready
  pub need_ready : (n : ℕ) → IsReady r → n ≡ length r.questions.items - length k.answers → IsNeed (node_in m i budget o receivers k before (Some r)) n
  unfolding ready_waits
  need_ready n (waits, each) is =
      let w = subst (λ z. IsAtStage m i budget o receivers k before r z) waits was.stage in
      let listed = w.questions each in
      let new = new_of (questions_in k.answers) r.questions.items in
      let count = new_count r.questions.items (questions_in k.answers) (all_among_asked m r.level i r.questions.items listed before k w.known was.higher) in
      let same = length-map k.answers (λ (a : Answered). a.question) in record {
        waits = ready_waits (waits, each);
        new = new;
        listed = new_listed m r.level i r.questions.items listed before budget k w.known was.higher;
        count = is ∙ (let e : length r.questions.items - length k.answers ≡ length new = omega (arith, count, same) in e);
      }

  -- there are no fewer questions than answers
  pub no_fewer : IsReady r → length k.answers ≤ length r.questions.items
  no_fewer (waits, each) =
      let w = subst (λ z. IsAtStage m i budget o receivers k before r z) waits was.stage in
      let count = new_count r.questions.items (questions_in k.answers) (all_among_asked m r.level i r.questions.items (w.questions each) before k w.known was.higher) in
      let same = length-map k.answers (λ (a : Answered). a.question) in omega (arith, count, same)
