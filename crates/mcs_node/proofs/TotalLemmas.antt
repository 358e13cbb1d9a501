-- Totals are numbers of questions, and halts tell the truth.
use Rattle.std.proofs.Common.{◌≡◌, ℕ, ◌+◌, ◌<◌, ◌≤◌, true, true≢false, List, [], ◌∷◌, ◌++◌, map, length, Option, Some, None, slice_get, slice_set, is_some, length-append, refl, sym, ap, ◌∙◌, subst, inl, inr, arith}
use Rattle.std.proofs.lemmas.List.{length-map}
use Rattle.std.proofs.lemmas.List.Sums.{sum_by-cons}
use Rattle.std.proofs.lemmas.Option.{slice_get_within}
use Rattle.std.specs.List.{sum_by}
use Rattle.mcs_base.specs.Listings.{IsAmong, IsInventory}
use Rattle.mcs_base.proofs.Among.{among_left, among_right, among_either, cases_among}
use Rattle.mcs_base.proofs.Distinct.{distinct_append, ascending_distinct}
use Rattle.mcs_base.proofs.Lists.{slice_get_below, map_slice_get, choose_below}
use Rattle.mcs_base.proofs.Written.{slice_get-slice_set, length-slice_set}
use Rattle.mcs_base.proofs.Results.{some_same, no_none}
use Rattle.mcs_base.proofs.Sums.{sum_both}
use Rattle.mcs_base.proofs.Placed.{sum_map}
use Rattle.mcs_system.specs.Plain.{Context, System}
use Rattle.mcs_system.specs.Levels.{IsQuestionAt, AreSomeQuestions, HasQuestions, IsCount}
use Rattle.mcs_laws.proofs.Questions.{question_higher}
use Rattle.mcs_import.proofs.CountLemmas.{journals_counted}
use Rattle.mcs_states.specs.Evaluators.{IsJournalQuestion}
use Rattle.mcs_states.specs.declared.halt.Halt.{Halt}
use Rattle.mcs_states.specs.declared.halt.Halt.TheVariants.{Spent, Missing, Memory}
use Rattle.mcs_node.specs.declared.event.Event.{Event}
use Rattle.mcs_node.specs.declared.event.Event.TheVariants.{Begin, Grant, Deliver}
use Rattle.mcs_node.specs.Rounds.{Round, NodeState, IsOwnHalt, ObeysRule, waits, finishes, is_stopped, stops}
use Rattle.mcs_node.specs.Configurations.{Configuration, HasNode, first_configuration, IsSound}
use Rattle.mcs_node.specs.Steps.{WereAsked, Adds, IsTotal, Changes, Outcome, Skipped, Ignored, Taken, Step, Runs}
use Rattle.mcs_node.specs.Laws.{IsOnward, TotalsCountQuestions, IsTrueHalt, HaltsAreTrue}
use Rattle.mcs_node.proofs.StepLemmas.{new_at, first_is_sound, steps_keep_soundness, runs_are_sound}
use Rattle.mcs_node.proofs.QuietLemmas.{halts_have_a_source}

-- ---- levels grow
asked_before : (m : System) (before : Option ℕ) (level : ℕ) → ((done : ℕ) → before ≡ Some done → done ≤ level) → (i x : ℕ) → IsJournalQuestion m before i x → IsQuestionAt m level i x
asked_before m None level below i x none = absurd none
asked_before m (Some done) level below i x q = question_higher m done level i x (below done refl) q

-- ---- sums
pub no_sum : (cs : List Context) → sum_by (λ n. n) (map (λ (c : Context). 0) cs) ≡ 0
no_sum [] = refl
no_sum (c ∷ cs) = omega (arith, sum_by-cons (λ (n : ℕ). n) 0 (map (λ (c : Context). 0) cs), no_sum cs)

-- ---- what was asked before, context by context
record AreBases (m : System) (before : Option ℕ) (base : ℕ) (bases : List ℕ) : Type 0 where
  long : length bases ≡ length m.contexts
  whole : base ≡ sum_by (λ n. n) bases
  asked : (i a : ℕ) → slice_get bases i ≡ Some a → (ys : List ℕ) × IsInventory (IsJournalQuestion m before i) ys × (a ≡ length ys)

bases_of : (m : System) (before : Option ℕ) (base : ℕ) → WereAsked m before base → (bases : List ℕ) × AreBases m before base bases
bases_of m None base is = (
  map (λ (c : Context). 0) m.contexts,
  record {
    long = length-map m.contexts (λ (c : Context). 0);
    whole = is ∙ sym (no_sum m.contexts);
    asked = (λ i a at. let (c, there, same) = map_slice_get (λ (c : Context). 0) m.contexts i a at in ([], record { exactly = (λ x. ((λ h. absurd h), (λ h. absurd h))); apart = tt }, sym same));
  },
)
bases_of m (Some done) base (lists, listings, is) = (
  map (λ (l : List ℕ). length l) lists,
  record {
    long = length-map lists (λ (l : List ℕ). length l) ∙ listings.one_each;
    whole = is ∙ sym (sum_map (λ (n : ℕ). n) (λ (l : List ℕ). length l) lists);
    asked = (λ i a at. let (ys, there, same) = map_slice_get (λ (l : List ℕ). length l) lists i a at in
        (ys, record { exactly = (listings.listed i ys there).exactly; apart = ascending_distinct ys (listings.listed i ys there).ascending }, sym same));
  },
)

-- ---- what a total depends on
-- what a node adds depends on whether it was granted a total, and not on which
adds_by : (r : Round) (i : ℕ) (granted other : Option ℕ) (n : ℕ) → is_some granted ≡ is_some other → Adds r i granted n → Adds r i other n
adds_by r i None None n same adds = adds
adds_by r i None (Some b) n same adds = absurd (true≢false (sym same))
adds_by r i (Some a) None n same adds = absurd (true≢false same)
adds_by r i (Some a) (Some b) n same adds = adds

pub total_alike : (r : Round) (nodes others : List NodeState) (n : ℕ) → length others ≡ length nodes
    → ((k : ℕ) (q : NodeState) → slice_get others k ≡ Some q → (p : NodeState) × (slice_get nodes k ≡ Some p) × (is_some p.granted ≡ is_some q.granted))
    → IsTotal r nodes n → IsTotal r others n
total_alike r nodes others n long alike t = record {
  base = t.base;
  asked = t.asked;
  needs = t.needs;
  one_each = t.one_each ∙ sym long;
  added = (λ k q v there need. let (p, at, same) = alike k q there in adds_by r k p.granted q.granted v same (t.added k p v at need));
  whole = t.whole;
}

-- ---- all of a total, context by context
record IsPart (r : Round) (i : ℕ) (granted : Option ℕ) (asked needed : ℕ) (xs : List ℕ) : Type 0 where
  some : AreSomeQuestions r.system r.level i xs
  long : length xs ≡ asked + needed
  all : is_some granted ≡ true → (x : ℕ) → IsQuestionAt r.system r.level i x → IsAmong x xs

part_by : (r : Round) → IsOnward r → (i : ℕ) (granted : Option ℕ) (n : ℕ) → Adds r i granted n → (ys : List ℕ) → IsInventory (IsJournalQuestion r.system r.before i) ys → (xs : List ℕ) × IsPart r i granted (length ys) n xs
part_by r onward i None n is ys asked = (
  ys,
  record {
    some = record { questions = (λ x h. asked_before r.system r.before r.level onward i x ((asked.exactly x).0 h)); apart = asked.apart };
    long = omega (arith, is);
    all = (λ e. absurd (true≢false (sym e)));
  },
)
part_by r onward i (Some total) n (zs, listing, is) ys asked = (
  ys ++ zs,
  record {
    some = record {
      questions = (λ x h. elim (among_either x ys zs h) [ inl old ↦ asked_before r.system r.before r.level onward i x ((asked.exactly x).0 old) | inr new ↦ ((listing.exactly x).0 new).0 ]);
      apart = distinct_append ys zs asked.apart (ascending_distinct zs listing.ascending) (λ x old new. ((listing.exactly x).0 new).1 ((asked.exactly x).0 old));
    };
    long = omega (arith, is, length-append ys zs);
    all = (λ e x q. elim (cases_among x ys) [
      | inl old ↦ among_left x ys zs old
      | inr new ↦ among_right x ys zs ((listing.exactly x).1 (q, λ asked'. new ((asked.exactly x).1 asked')))
    ]);
  },
)

module _ (r : Round) (nodes : List NodeState) (total : ℕ) (onward : IsOnward r) (one_each : length nodes ≡ length r.system.contexts) (t : IsTotal r nodes total) where
  bases : List ℕ
  bases = (bases_of r.system r.before t.base t.asked).0

  are_bases : AreBases r.system r.before t.base bases
  unfolding bases
  are_bases = (bases_of r.system r.before t.base t.asked).1

  -- what the total has of context i
  record HasPart (i : ℕ) (xs : List ℕ) : Type 0 where
    some : AreSomeQuestions r.system r.level i xs
    long : (a b : ℕ) → slice_get bases i ≡ Some a → slice_get t.needs i ≡ Some b → length xs ≡ a + b
    all : (s : NodeState) → slice_get nodes i ≡ Some s → is_some s.granted ≡ true → (x : ℕ) → IsQuestionAt r.system r.level i x → IsAmong x xs

  part_at : (i : ℕ) → i < length r.system.contexts → (xs : List ℕ) × HasPart i xs
  part_at i less =
      let (s, at) = slice_get_below nodes i (omega (arith, less, one_each)) in
      let (a, base_at) = slice_get_below bases i (omega (arith, less, are_bases.long)) in
      let (b, need_at) = slice_get_below t.needs i (omega (arith, less, one_each, t.one_each)) in
      let (ys, asked, is) = are_bases.asked i a base_at in
      let (xs, part) = part_by r onward i s.granted b (t.added i s b at need_at) ys asked in (
        xs,
        record {
          some = part.some;
          long = (λ a' b' at' at''. let e = some_same (slice_get bases i) a a' base_at at' in let e' = some_same (slice_get t.needs i) b b' need_at at'' in omega (arith, part.long, is, e, e'));
          all = (λ s' at' granted. part.all (subst (λ (p : NodeState). is_some p.granted ≡ true) (some_same (slice_get nodes i) s' s at' at) granted));
        },
      )

  counts : HasQuestions r.system r.level total × (((i : ℕ) (s : NodeState) → slice_get nodes i ≡ Some s → is_some s.granted ≡ true) → IsCount r.system r.level total)
  counts =
      let (lists, long, parts) = choose_below HasPart (length r.system.contexts) part_at in
      let sum : sum_by (λ (c : List ℕ). length c) lists ≡ sum_by (λ n. n) bases + sum_by (λ n. n) t.needs =
      sum_both bases t.needs lists (are_bases.long ∙ sym long) (t.one_each ∙ one_each ∙ sym long) (λ i a b c at at' at''. (parts i c at'').long a b at at') in
      let is : total ≡ sum_by (λ (c : List ℕ). length c) lists = omega (arith, sum, t.whole, are_bases.whole) in (
        record { lists = lists; one_each = long; some = (λ i xs at. (parts i xs at).some); many = omega (arith, is) },
        λ granted. subst (λ (n : ℕ). IsCount r.system r.level n) (sym is) (journals_counted r.system r.level lists long (λ i xs at.
            let p = parts i xs at in
            let (s, there) = slice_get_below nodes i (omega (arith, slice_get_within lists i xs at, long, one_each)) in
            record { exactly = (λ x. (p.some.questions x, p.all s there (granted i s there) x)); apart = p.some.apart })),
      )

pub totals_count_questions : TotalsCountQuestions
totals_count_questions r nodes total onward one_each t = counts r nodes total onward one_each t

-- ---- grants in runs
abbrev pub AreGranted : Round → Configuration → Type 0
AreGranted r c = (i : ℕ) (s : NodeState) (total : ℕ) → HasNode c i s → s.granted ≡ Some total → HasQuestions r.system r.level total

granted_next : (r : Round) → IsOnward r → (c : Configuration) → IsSound r c → AreGranted r c → (e : Event) (i : ℕ) (s t : NodeState) → HasNode c i s → Changes r c e i s t
    → (total : ℕ) → t.granted ≡ Some total → HasQuestions r.system r.level total
granted_next r onward c sound granted (Begin context) i s t at (here, unbegun, is) total got = granted i s total at (sym (ap (λ (p : NodeState). p.granted) is) ∙ got)
granted_next r onward c sound granted (Deliver n) i s t at (x, there, takes, is) total got = granted i s total at (sym (ap (λ (p : NodeState). p.granted) is) ∙ got)
granted_next r onward c sound granted (Grant context) i s t at (here, awaits, of_all, counted, is) total got =
    let same : of_all ≡ total = some_same t.granted of_all total (ap (λ (p : NodeState). p.granted) is) got in
    subst (λ (n : ℕ). HasQuestions r.system r.level n) same (totals_count_questions r (slice_set c.nodes i t) of_all onward (length-slice_set c.nodes i t ∙ sound.one_each) counted).0

step_grants : (r : Round) → IsOnward r → (c d : Configuration) (e : Event) (o : Outcome) → IsSound r c → Step r c e o d → AreGranted r c → AreGranted r d
step_grants r onward c d e Skipped sound (impossible, is) granted = subst (λ (b : Configuration). AreGranted r b) (sym is) granted
step_grants r onward c d e Ignored sound (ignored, is) granted = subst (λ (b : Configuration). AreGranted r b) (sym is) granted
step_grants r onward c d e Taken sound step granted = λ i s total at got.
    elim (slice_get-slice_set c.nodes step.context i step.after s (subst (λ (l : List NodeState). slice_get l i ≡ Some s) step.nodes at)) [
      | inl (here, is) ↦ granted_next r onward c sound granted e step.context step.old step.changed step.node step.changes total (sym step.reacts.granted ∙ sym (ap (λ (p : NodeState). p.granted) is) ∙ got)
      | inr (differ, was) ↦ granted i s total was got
    ]

pub runs_grant : (r : Round) → IsOnward r → (es : List Event) (os : List Outcome) (c d : Configuration) → IsSound r c → AreGranted r c → Runs r c es os d → AreGranted r d
runs_grant r onward [] [] c d sound granted is = subst (λ (b : Configuration). AreGranted r b) (sym is) granted
runs_grant r onward [] (o ∷ os) c d sound granted none = absurd none
runs_grant r onward (e ∷ es) [] c d sound granted none = absurd none
runs_grant r onward (e ∷ es) (o ∷ os) c d sound granted (next, step, rest) =
    runs_grant r onward es os next d (steps_keep_soundness r c next e o sound step) (step_grants r onward c next e o sound step granted) rest

-- ---- halts
own_is_true : (r : Round) (i : ℕ) (granted : Option ℕ) → ((total : ℕ) → granted ≡ Some total → HasQuestions r.system r.level total) → (halt : Halt) → IsOwnHalt r i granted halt → IsTrueHalt r halt
own_is_true r i granted questions (Spent level total) (same, got, more) = (same, more, questions total got)
own_is_true r i granted questions (Missing context x) (same, within, new) = subst (λ (j : ℕ). IsQuestionAt r.system r.level j x) (sym same) new.0
own_is_true r i granted questions Memory own = tt

by_rule : (r : Round) (i : ℕ) (s : NodeState) → ((total : ℕ) → s.granted ≡ Some total → HasQuestions r.system r.level total) → (halt : Halt) → s.halt ≡ Some halt → s.by_itself ≡ true → ObeysRule r i s → IsTrueHalt r halt
by_rule r i s questions halt is own (waits w) = absurd (no_none s.halt halt w.halt is)
by_rule r i s questions halt is own (finishes f) = absurd (no_none s.halt halt f.halt is)
by_rule r i s questions halt is own (is_stopped w) = absurd (true≢false (sym own ∙ w.by_itself))
by_rule r i s questions halt is own (stops w) = subst (λ (h : Halt). IsTrueHalt r h) (some_same s.halt w.cause halt w.halt is) (own_is_true r i s.granted questions w.cause w.own)

pub halts_are_true : HaltsAreTrue
halts_are_true r es os d i s halt onward run at is =
    let sound = runs_are_sound r es os d run in
    let none : AreGranted r (first_configuration r.system) = (λ j t total there got. absurd (no_none t.granted total (ap (λ (p : NodeState). p.granted) (new_at r j t there)) got)) in
    let granted = runs_grant r onward es os (first_configuration r.system) d (first_is_sound r) none run in
    let (j, t, there, is', own) = halts_have_a_source r d i s halt sound at is in
    by_rule r j t (λ total got. granted j t total there got) halt is' own (sound.nodes j t there).rule
