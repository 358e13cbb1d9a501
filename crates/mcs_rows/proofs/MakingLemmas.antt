-- The rows that the code makes are the local rows, and the parts that it gathers are what may be supplied.
use Rattle.std.proofs.Common.{◌≡◌, ℕ, ◌+◌, ◌*◌, ◌/◌, ◌%◌, ◌<◌, ◌≤◌, Bool, true, false, not, ◌&&◌, cond, eqb, leb, ltb, true≢false, List, [], ◌∷◌, map, filter, ◌++◌, take, length, get_or, refl, sym, ap, ◌∙◌, subst, ◌↔◌, arith}
use Rattle.std.proofs.lemmas.Bool.{leb-true, le-leb, and_parts, and_from, eq-eqb, eqb-true}
use Rattle.std.proofs.lemmas.Simd.{map-map}
use Rattle.std.proofs.Math.Bool.{and-false}
use Rattle.mcs_sets.proofs.SetLemmas.{within_where_common, common_where_within, same_set, has-minus, has-empty, has-common, has-union}
use Rattle.std.proofs.lemmas.Bool.Decides.{nat_tests}
use Rattle.std.proofs.lemmas.Grind.{flat_map-append}
use Rattle.std.proofs.lemmas.List.{take_all, append-nil}
use Rattle.std.specs.List.{AllByRecursion, AllZip, flat_map}
use Rattle.mcs_sets.specs.Sets.{has, size, common, union, minus, members, Within}
use Rattle.mcs_sets.specs.Orders.{StateBefore}
use Rattle.mcs_sets.proofs.Lattice.{minus_within, common_within_right, size_within}
use Rattle.mcs_base.specs.Antichains.{HasOneWithin, lies_within}
use Rattle.mcs_base.specs.Listings.{IsAmong, IsAscending, IsListing}
use Rattle.mcs_base.proofs.AntichainLemmas.{lies_within-is, one_within-none}
use Rattle.mcs_base.proofs.Among.{any_get, among_any, among_get, among_map, map_among, among_filter, filter_among, among_flat_map, flat_map_among}
use Rattle.mcs_base.proofs.Each.{all_among, all_from_among}
use Rattle.mcs_base.proofs.ListingLemmas.{IsListing-same}
use Rattle.mcs_base.proofs.Written.{take_read}
use Rattle.mcs_system.specs.Plain.{System}
use Rattle.mcs_system.specs.Systems.{variables_of, all_rules, applicable, IsAcceptedPart}
use Rattle.mcs_system.specs.Repairs.{marks_of, allowed_marks}
use Rattle.mcs_system.specs.Rows.{inputs_of, local_of, IsRow}
use Rattle.mcs_system.specs.Imports.{supplied, rules_into, marks_at, IsImportOrder}
use Rattle.mcs_system.specs.Levels.{IsQuestionAt, IsLocalRow, MaySupply}
use Rattle.mcs_system.proofs.ContextSets.{rules_into_known}
use Rattle.mcs_system.proofs.MarkLemmas.{has-marks_of}
use Rattle.mcs_table.specs.declared.row.Row.{Row}
use Rattle.mcs_table.specs.RowOrder.{RowBefore, same_row}
use Rattle.mcs_table.specs.Tables.{TableData, Covers, IsTable, IsMinimalRow}
use Rattle.mcs_table.proofs.CoverLemmas.{listing_covers}
use Rattle.mcs_table.proofs.FittingLemmas.{fits_each_on}
use Rattle.mcs_table.specs.Fitting.{AreFittingStates, FitsEach}
use Rattle.mcs_rows.specs.Fitting.{HasFittingParts}
use Rattle.mcs_rows.proofs.FittingLemmas.{answer_before, answer_after}
use Rattle.mcs_table.proofs.ExistLemmas.{listed_in_order}
use Rattle.mcs_import.specs.Plans.{guessed, AreSupplies}
use Rattle.mcs_import.specs.States.{SomeJoins, SomeGrows}
use Rattle.mcs_import.proofs.OrderLemmas.{import_order_is_one}
use Rattle.mcs_import.proofs.QuestionLemmas.{question_in, applying, count-marks_at}
use Rattle.mcs_import.proofs.StateLemmas.{states_found}
use Rattle.mcs_rows.specs.Local.{Answered, AreAnswered, IsRowOf, IsLocalTable, IsFittingTable}
use Rattle.mcs_rows.specs.Changed.{HasMarksOf, IsChangedAt}
use Rattle.mcs_rows.specs.Finding.{AreAscendingQuestions}
use Rattle.mcs_rows.specs.Answers.{answered_of}
use Rattle.mcs_rows.specs.Making.{agrees, holds_some, row_with, is_in_reach, rows_with, rows_of, IsChangedRow}
use Rattle.mcs_rows.specs.declared.answer.Answer.{Answer}
use Rattle.mcs_rows.proofs.LocalLemmas.{IsMade, rows_are_made}
use Rattle.mcs_rows.proofs.ChangedLemmas.{marks_inside, marks_tell, seen_inputs}

-- ---- a question that is in reach, or not
pub some_held : (sets : List ℕ) (marks : ℕ) → (holds_some sets marks ≡ true) ↔ HasOneWithin sets marks
some_held sets marks = (
  λ e. let (k, s, at, within) = any_get (λ s. lies_within s marks) sets e in record { inner = s; among = among_get s sets k at; within = (lies_within-is s marks).0 within },
  λ h. among_any (λ s. lies_within s marks) sets h.inner h.among ((lies_within-is h.inner marks).1 h.within),
)

none_held : (sets : List ℕ) (marks : ℕ) → (not (holds_some sets marks) ≡ true) ↔ (¬ HasOneWithin sets marks)
none_held sets marks = at (holds_some sets marks) (some_held sets marks)
  where
    at : (v : Bool) → (v ≡ true) ↔ HasOneWithin sets marks → (not v ≡ true) ↔ (¬ HasOneWithin sets marks)
    at true tells = (λ h. absurd (true≢false (sym h)), λ none. absurd (none (tells.0 refl)))
    at false tells = (λ h held. true≢false (sym (tells.1 held)), λ none. refl)

pub in_reach : (m : System) (i level : ℕ) (sets : List ℕ) (state x : ℕ)
    → (is_in_reach m i level sets state x ≡ true) ↔ ((size (marks_at m i state x) ≤ level) × Within (marks_at m i state x) (allowed_marks m) × (¬ HasOneWithin sets (marks_at m i state x)))
in_reach m i level sets state x = (
  λ e. (
      let (near, none) = and_parts (leb (size marks) level && eqb (common marks (allowed_marks m)) marks) (not (holds_some sets marks)) e in
      let (few, same) = and_parts (leb (size marks) level) (eqb (common marks (allowed_marks m)) marks) near in
      (leb-true (size marks) level few, within_where_common marks (allowed_marks m) (eqb-true (common marks (allowed_marks m)) marks same), (none_held sets marks).0 none)),
  λ (few, within, none). and_from (leb (size marks) level && eqb (common marks (allowed_marks m)) marks) (not (holds_some sets marks))
      (and_from (leb (size marks) level) (eqb (common marks (allowed_marks m)) marks) (le-leb (size marks) level few) (eq-eqb (common marks (allowed_marks m)) marks (common_where_within marks (allowed_marks m) within)))
      ((none_held sets marks).1 none),
)
  where
    marks : ℕ
    marks = marks_at m i state x

pub rows_in_reach : (m : System) (i level : ℕ) (sets : List ℕ) (state : ℕ) (a : Answer) → size (marks_at m i state a.active) ≤ level → Within (marks_at m i state a.active) (allowed_marks m) → ¬ HasOneWithin sets (marks_at m i state a.active)
    → rows_with m i level sets state a ≡ map (row_with m i state (marks_at m i state a.active)) (filter (agrees m i state) a.parts.items)
rows_in_reach m i level sets state a few within none = rw ((in_reach m i level sets state a.active).1 (few, within, none)) refl

pub marks_counted : (m : System) (i state x applies removed forced : ℕ) → applies ≡ common (applicable m state) (rules_into m i) → Within x (rules_into m i) → removed ≡ minus applies x → forced ≡ minus x applies → size removed + size forced ≡ size (marks_at m i state x)
marks_counted m i state x applies removed forced is of_rules removed_is forced_is =
    ap (λ (s : ℕ). size s + size forced) (removed_is ∙ ap (λ s. minus s x) is) ∙ ap (λ (s : ℕ). size (minus (applying m i state) x) + size s) (forced_is ∙ ap (minus x) is) ∙ sym (count-marks_at m i state x of_rules)

-- the rules that are removed and forced are rules of the system
module _ (m : System) (i state x applying changed : ℕ) (applies : applying ≡ common (applicable m state) (rules_into m i)) (of_rules : Within x (rules_into m i)) where
  pub removed_known : changed ≡ minus applying x → Within changed (all_rules m)
  removed_known is k e = rules_into_known m i k (common_within_right (applicable m state) (rules_into m i) k (subst (λ (s : ℕ). has s k ≡ true) applies (minus_within applying x k (subst (λ (s : ℕ). has s k ≡ true) is e))))

  pub forced_known : changed ≡ minus x applying → Within changed (all_rules m)
  forced_known is k e = rules_into_known m i k (of_rules k (minus_within x applying k (subst (λ (s : ℕ). has s k ≡ true) is e)))

-- the marks of the rules that are removed and forced are those of the question
pub marks_are_at : (m : System) (i state x applying removed forced marks : ℕ) → applying ≡ common (applicable m state) (rules_into m i) → Within x (rules_into m i) → removed ≡ minus applying x → forced ≡ minus x applying
    → (Within removed (all_rules m) → Within forced (all_rules m) → marks ≡ marks_of m removed forced) → marks ≡ marks_at m i state x
marks_are_at m i state x applying removed forced marks applies of_rules is is' told =
    told (removed_known m i state x applying removed applies of_rules is) (forced_known m i state x applying forced applies of_rules is')
    ∙ ap (λ s. marks_of m s forced) is ∙ ap (marks_of m (minus applying x)) is' ∙ ap (λ s. marks_of m (minus s x) (minus x s)) applies

-- ---- the rows of a state
module _ (m : System) (level i : ℕ) (sets : List ℕ) where
  -- what is among the rows of a state with an answer
  pub with_answer : (s : ℕ) (a : Answer) (r : Row) → IsAmong r (rows_with m i level sets s a)
      → (size (marks_at m i s a.active) ≤ level) × Within (marks_at m i s a.active) (allowed_marks m) × (¬ HasOneWithin sets (marks_at m i s a.active)) × ((τ : ℕ) × IsAmong τ a.parts.items × (common τ (inputs_of m i) ≡ common s (variables_of m i)) × (r ≡ row_with m i s (marks_at m i s a.active) τ))
  with_answer s a r = at (is_in_reach m i level sets s a.active) refl
    where
      at : (v : Bool) → is_in_reach m i level sets s a.active ≡ v → IsAmong r (cond v (map (row_with m i s (marks_at m i s a.active)) (filter (agrees m i s) a.parts.items)) [])
          → (size (marks_at m i s a.active) ≤ level) × Within (marks_at m i s a.active) (allowed_marks m) × (¬ HasOneWithin sets (marks_at m i s a.active)) × ((τ : ℕ) × IsAmong τ a.parts.items × (common τ (inputs_of m i) ≡ common s (variables_of m i)) × (r ≡ row_with m i s (marks_at m i s a.active) τ))
      at true near among =
          let (τ, there, e) = map_among (row_with m i s (marks_at m i s a.active)) r (filter (agrees m i s) a.parts.items) among in
          let (here, test) = filter_among (agrees m i s) τ a.parts.items there in
          let (few, within, none) = (in_reach m i level sets s a.active).0 near in
          (few, within, none, (τ, here, (let same : common τ (inputs_of m i) ≡ common s (variables_of m i) = grind (arith, nat_tests) in same), e))
      at false far among = absurd among

  pub answer_with : (s : ℕ) (a : Answer) (τ : ℕ) → size (marks_at m i s a.active) ≤ level → Within (marks_at m i s a.active) (allowed_marks m) → ¬ HasOneWithin sets (marks_at m i s a.active) → IsAmong τ a.parts.items → common τ (inputs_of m i) ≡ common s (variables_of m i) → IsAmong (row_with m i s (marks_at m i s a.active) τ) (rows_with m i level sets s a)
  answer_with s a τ few within none here same =
      subst (IsAmong (row_with m i s (marks_at m i s a.active) τ)) (sym (rows_in_reach m i level sets s a few within none))
      (among_map (row_with m i s (marks_at m i s a.active)) τ (filter (agrees m i s) a.parts.items) (among_filter (agrees m i s) τ a.parts.items here (grind (arith, nat_tests))))

-- ---- what a row says of the inputs is what the state says, and of the own variables what the part says
own_inputs : (m : System) (i s τ : ℕ) → common τ (inputs_of m i) ≡ common s (variables_of m i) → (k : ℕ) → has (inputs_of m i) k ≡ true → (has (local_of m i) k ≡ true) × (has (common (union τ s) (local_of m i)) k ≡ has s k)
own_inputs m i s τ same k in_inputs =
    let e = ap (λ (z : ℕ). has z k) same in
    (grind (arith, has-common, has-union), grind (arith, has-common, has-union))

own_variables : (m : System) (i s τ : ℕ) → common τ (inputs_of m i) ≡ common s (variables_of m i) → (k : ℕ) → has (variables_of m i) k ≡ true → (has (local_of m i) k ≡ true) × (has (common (union τ s) (local_of m i)) k ≡ has τ k)
own_variables m i s τ same k in_variables =
    let e = ap (λ (z : ℕ). has z k) same in
    (grind (arith, has-common, has-union), grind (arith, has-common, has-union))

-- ---- the answers
-- the parts of all of them, listed
pub parts_listed : (answers : List Answer) (states next : List ℕ) (n : ℕ) → states ≡ flat_map (λ (a : Answer). a.parts.items) (take n answers) → length answers ≤ n → IsListing (λ s. IsAmong s states) StateBefore next → IsListing (λ τ. IsAmong τ (flat_map (λ (a : Answer). a.parts.items) answers)) StateBefore next
parts_listed answers states next n is past listing =
    let whole : states ≡ flat_map (λ (a : Answer). a.parts.items) answers = is ∙ ap (flat_map (λ (a : Answer). a.parts.items)) (take_all n answers past) in
    subst (λ (xs : List ℕ). IsListing (λ τ. IsAmong τ xs) StateBefore next) whole listing

module _ (m : System) (level i : ℕ) (answers : List Answer) (answered : AreAnswered m level i (map answered_of answers)) where
  pub asked_of : (a : Answer) → IsAmong a answers → IsQuestionAt m level i a.active
  asked_of a here = (answered.questions.exactly a.active).0 (among_map (λ (b : Answered). b.question) (answered_of a) (map answered_of answers) (among_map answered_of a answers here))

  pub parts_of_answer : (a : Answer) → IsAmong a answers → IsListing (IsAcceptedPart m i a.active) StateBefore a.parts.items
  parts_of_answer a here = all_among (λ (b : Answered). IsListing (IsAcceptedPart m i b.question) StateBefore b.parts) (map answered_of answers) (answered_of a) answered.parts (among_map answered_of a answers here)

  pub answer_to : (x : ℕ) → IsQuestionAt m level i x → (a : Answer) × IsAmong a answers × (x ≡ a.active)
  answer_to x question =
      let (b, there, e) = map_among (λ (b : Answered). b.question) x (map answered_of answers) ((answered.questions.exactly x).1 question) in
      let (a, here, e') = map_among answered_of b answers there in (a, here, e ∙ ap (λ (c : Answered). c.question) e')

  pub questions_of_rules : AllByRecursion (λ (a : Answer). Within a.active (rules_into m i)) answers
  questions_of_rules = all_from_among (λ (a : Answer). Within a.active (rules_into m i)) answers (λ a here. let (order, ordered, question) = asked_of a here in question.of_rules)

  supplied_by : (τ : ℕ) → IsAmong τ (flat_map (λ (a : Answer). a.parts.items) answers) ↔ MaySupply m level i τ
  supplied_by τ = (to, from)
    where
      to : IsAmong τ (flat_map (λ (a : Answer). a.parts.items) answers) → MaySupply m level i τ
      to among =
          let (a, here, there) = flat_map_among (λ (a : Answer). a.parts.items) τ answers among in
          let (order, ordered, question) = asked_of a here in
          (order, ordered, (a.active, question, ((parts_of_answer a here).exactly τ).0 there))

      from : MaySupply m level i τ → IsAmong τ (flat_map (λ (a : Answer). a.parts.items) answers)
      from (order, ordered, (x, question, part)) =
          let (a, here, e) = answer_to x (order, ordered, question) in
          among_flat_map (λ (a : Answer). a.parts.items) a τ answers here (((parts_of_answer a here).exactly τ).1 (subst (λ (z : ℕ). IsAcceptedPart m i z τ) e part))

  pub supplies_listed : (states next : List ℕ) (n : ℕ) → states ≡ flat_map (λ (a : Answer). a.parts.items) (take n answers) → length answers ≤ n → IsListing (λ s. IsAmong s states) StateBefore next → IsListing (MaySupply m level i) StateBefore next
  supplies_listed states next n is past listing =
      let whole : states ≡ flat_map (λ (a : Answer). a.parts.items) answers = is ∙ ap (flat_map (λ (a : Answer). a.parts.items)) (take_all n answers past) in
      IsListing-same StateBefore (λ s. IsAmong s states) (MaySupply m level i) next
      (λ τ. (λ h. (supplied_by τ).0 (subst (IsAmong τ) whole h), λ h. subst (IsAmong τ) (sym whole) ((supplied_by τ).1 h))) listing

  -- ---- the rows
  module _ (order : List ℕ) (ordered : IsImportOrder m order) (xss : List (List ℕ)) (supplies : AreSupplies m level (supplied m order i) xss) (joined states : List ℕ)
      (of_joins : (ρ : ℕ) → IsAmong ρ joined ↔ SomeJoins (inputs_of m i) xss (0 ∷ []) ρ) (of_grows : (ρ : ℕ) → IsAmong ρ states ↔ SomeGrows (members (guessed m order i)) joined ρ) where
    module _ (sets : List ℕ) where
      abbrev made : List Row
      made = flat_map (λ s. flat_map (rows_with m i level sets s) answers) states

      made_are_local : (r : Row) → IsAmong r made → IsRowOf m level i r × (¬ HasOneWithin sets r.marks)
      made_are_local r among =
          let (s, state, there) = flat_map_among (λ s. flat_map (rows_with m i level sets s) answers) r states among in
          let (a, here, there') = flat_map_among (rows_with m i level sets s) r answers there in
          let (few, allowed, none, (τ, part, same, e)) = with_answer m level i sets s a r there' in
          let (p, g, joins, within, is) = (states_found (inputs_of m i) xss (guessed m order i) joined states of_joins of_grows s).0 state in (
            record {
              mask = ap (λ (q : Row). q.state.mask) e;
              local = (
                order,
                ordered,
                (rows_are_made m order ordered level i xss supplies r.state.values r.marks).0 (record {
                  joined = p;
                  is_joined = joins;
                  guess = g;
                  of_guesses = within;
                  question = a.active;
                  asked = (question_in m order ordered level i a.active).1 (asked_of a here);
                  allowed = subst (λ (z : ℕ). Within (marks_at m i z a.active) (allowed_marks m)) is allowed;
                  near = subst (λ (z : ℕ). size (marks_at m i z a.active) ≤ level) is few;
                  part = τ;
                  accepted = ((parts_of_answer a here).exactly τ).0 part;
                  agree = same ∙ ap (λ z. common z (variables_of m i)) is;
                  state_is = ap (λ z. common (union τ z) (local_of m i)) (sym is) ∙ ap (λ (q : Row). q.state.values) (sym e);
                  marks_is = ap (λ z. marks_at m i z a.active) (sym is) ∙ ap (λ (q : Row). q.marks) (sym e);
                }),
              );
            },
            subst (λ (z : ℕ). ¬ HasOneWithin sets z) (sym (ap (λ (q : Row). q.marks) e)) none,
          )

      local_are_made : (r : Row) → IsRowOf m level i r → ¬ HasOneWithin sets r.marks → IsAmong r made
      local_are_made r of_i none = from ((rows_are_made m order ordered level i xss supplies r.state.values r.marks).1 (in_order of_i.local))
        where
          in_order : IsLocalRow m level i r.state.values r.marks → IsRow m order level i r.state.values r.marks
          in_order (other, ordered', row) = subst (λ (o : List ℕ). IsRow m o level i r.state.values r.marks) (import_order_is_one m other order ordered' ordered) row

          from : IsMade m order level i xss r.state.values r.marks → IsAmong r made
          from h =
              let s : ℕ = union h.joined h.guess in
              let state : IsAmong s states = (states_found (inputs_of m i) xss (guessed m order i) joined states of_joins of_grows s).1 (h.joined, h.guess, h.is_joined, h.of_guesses, refl) in
              let (a, here, e) = answer_to h.question ((question_in m order ordered level i h.question).0 h.asked) in
              let part : IsAmong h.part a.parts.items = ((parts_of_answer a here).exactly h.part).1 (subst (λ (z : ℕ). IsAcceptedPart m i z h.part) e h.accepted) in
              let row : Row = row_with m i s (marks_at m i s a.active) h.part in
              let is : row ≡ r = same_row row r (sym of_i.mask) h.state_is (ap (marks_at m i s) (sym e) ∙ h.marks_is) in
              subst (λ (q : Row). IsAmong q made) is
              (among_flat_map (λ s. flat_map (rows_with m i level sets s) answers) s row states state
              (among_flat_map (rows_with m i level sets s) a row answers here (answer_with m level i sets s a h.part (subst (λ (z : ℕ). size (marks_at m i s z) ≤ level) e h.near) (subst (λ (z : ℕ). Within (marks_at m i s z) (allowed_marks m)) e h.allowed) (subst (λ (z : ℕ). ¬ HasOneWithin sets z) (sym h.marks_is ∙ ap (marks_at m i s) e) none) part h.agree)))

    -- there is a table of all of them
    local_table : (t : TableData) × IsLocalTable m level i t
    local_table = let (ys, l) = listed_in_order (local_of m i) (IsRowOf m level i) (λ r h. h.mask) (made [], λ r. (λ h. (made_are_local [] r h).0, λ h. local_are_made [] r h (one_within-none r.marks))) in
        (record { scope = local_of m i; rows = ys }, record { scope = refl; rows = l })

    -- a table of just those that are made is one
    pub made_local : (t : TableData) (rows : List Row) → rows ≡ made [] → t.scope ≡ local_of m i → IsListing (λ r. IsAmong r rows) RowBefore t.rows → IsLocalTable m level i t
    made_local t rows are scope listing = record {
      scope = scope;
      rows = IsListing-same RowBefore (λ r. IsAmong r rows) (IsRowOf m level i) t.rows (λ r. (
        λ h. (made_are_local [] r (subst (IsAmong r) are h)).0,
        λ h. subst (IsAmong r) (sym are) (local_are_made [] r h (one_within-none r.marks)),
      )) listing;
    }

    -- where some of those that hold none of the known sets cover, of these, the ones that fit rows of the others, so do their minimal ones
    module _ (known : List ℕ) (others : List TableData) (fewer : List ℕ) (fit : AreFittingStates (inputs_of m i) others states fewer) (some : List Answer) (fits : AllZip (HasFittingParts (variables_of m i) others) answers some) where
      abbrev left_made : List Row
      left_made = flat_map (rows_of m i level known some) fewer

      some_made : (r : Row) → IsAmong r left_made → IsAmong r (made known)
      some_made r among =
          let (s, state, there) = flat_map_among (rows_of m i level known some) r fewer among in
          let (b, here, there') = flat_map_among (rows_with m i level known s) r some there in
          let (a, before, h) = answer_before (variables_of m i) others answers some fits b here in
          let (few, allowed, none, (τ, part, same, e)) = with_answer m level i known s b r there' in
          let row = answer_with m level i known s a τ (subst (λ (x : ℕ). size (marks_at m i s x) ≤ level) h.active few) (subst (λ (x : ℕ). Within (marks_at m i s x) (allowed_marks m)) h.active allowed) (subst (λ (x : ℕ). ¬ HasOneWithin known (marks_at m i s x)) h.active none) (h.parts.from τ part) same in
          let is : row_with m i s (marks_at m i s a.active) τ ≡ r = ap (λ (x : ℕ). row_with m i s (marks_at m i s x) τ) (sym h.active) ∙ sym e in
          among_flat_map (λ s'. flat_map (rows_with m i level known s') answers) s r states (fit.from s state) (among_flat_map (rows_with m i level known s) a r answers before (subst (λ (q : Row). IsAmong q (rows_with m i level known s a)) is row))

      fitting_made : (r : Row) → IsAmong r (made known) → FitsEach r.state others → IsAmong r left_made
      fitting_made r among each =
          let (s, state, there) = flat_map_among (λ s'. flat_map (rows_with m i level known s') answers) r states among in
          let (a, here, there') = flat_map_among (rows_with m i level known s) r answers there in
          let (few, allowed, none, (τ, part, same, e)) = with_answer m level i known s a r there' in
          let (b, after, h) = answer_after (variables_of m i) others answers some fits a here in
          let whole : FitsEach (row_with m i s (marks_at m i s a.active) τ).state others = subst (λ (q : Row). FitsEach q.state others) e each in
          let kept = fit.fitting s state (fits_each_on (row_with m i s (marks_at m i s a.active) τ) (inputs_of m i) s (λ k h'. own_inputs m i s τ same k h') others whole) in
          let kept' = h.parts.fitting τ part (fits_each_on (row_with m i s (marks_at m i s a.active) τ) (variables_of m i) τ (λ k h'. own_variables m i s τ same k h') others whole) in
          let row = answer_with m level i known s b τ (subst (λ (x : ℕ). size (marks_at m i s x) ≤ level) (sym h.active) few) (subst (λ (x : ℕ). Within (marks_at m i s x) (allowed_marks m)) (sym h.active) allowed) (subst (λ (x : ℕ). ¬ HasOneWithin known (marks_at m i s x)) (sym h.active) none) kept' same in
          let is : row_with m i s (marks_at m i s b.active) τ ≡ r = ap (λ (x : ℕ). row_with m i s (marks_at m i s x) τ) h.active ∙ sym e in
          among_flat_map (rows_of m i level known some) s r fewer kept (among_flat_map (rows_with m i level known s) b r some after (subst (λ (q : Row). IsAmong q (rows_with m i level known s b)) is row))

      pub made_fitting : (u : TableData) (rows : List Row) → Covers (λ r. IsAmong r rows) (λ r. IsAmong r left_made) → u.scope ≡ local_of m i → IsTable u → IsListing (IsMinimalRow (λ r. IsAmong r rows)) RowBefore u.rows → IsFittingTable m level i known others u
      made_fitting u rows covers scope is_table listing =
          let (t, local) = local_table in
          let (ys, l) = listed_in_order (local_of m i) (λ r. IsRowOf m level i r × (¬ HasOneWithin known r.marks)) (λ r h. h.0.mask) (made known, λ r. (made_are_local known r, λ h. local_are_made known r h.0 h.1)) in
          let left : TableData = record { scope = local_of m i; rows = ys } in
          let minimal = listing_covers rows u.rows listing in record {
            all = t;
            local = local;
            left = left;
            without = record {
              scope = sym local.scope;
              rows = IsListing-same RowBefore (λ r. IsRowOf m level i r × (¬ HasOneWithin known r.marks)) (λ r. IsAmong r t.rows × (¬ HasOneWithin known r.marks)) ys
                  (λ r. (λ h. ((local.rows.exactly r).1 h.0, h.1), λ h. ((local.rows.exactly r).0 h.0, h.1))) l;
            };
            fitting = record {
              scope = scope;
              table = is_table;
              from = λ r h. (l.exactly r).1 (made_are_local known r (some_made r (covers.from r (minimal.from r h))));
              below = λ r h each.
                  let (one, none) = (l.exactly r).0 h in
                  let (p, among, state, within) = covers.below r (fitting_made r (local_are_made known r one none) each) in
                  let (q, among', state', within') = minimal.below p among in
                  record { by = q; among = among'; state = state' ∙ state; within = λ k e. within k (within' k e) };
              least = λ r s h h' state within. ((listing.exactly r).0 h).least s ((listing.exactly s).0 h').one state within;
            };
          }

    -- those of the answers to what a pair makes of the rules that apply are those with its marks
    module _ (pair : ℕ) (known : Within pair (allowed_marks m)) (few : size pair ≤ level) where
      changed_of : (r : Row) → ((s : ℕ) × IsAmong s states × IsChangedRow m i pair answers s r) ↔ (IsAmong r (made []) × HasMarksOf m i pair r)
      changed_of r = (to, from)
        where
          to : (s : ℕ) × IsAmong s states × IsChangedRow m i pair answers s r → IsAmong r (made []) × HasMarksOf m i pair r
          to (s, state, c) =
              let a : Answer = c.answer in
              let (order', ordered', question) = asked_of a c.among in
              let (τ, there, e) = map_among (row_with m i s (marks_at m i s a.active)) r (filter (agrees m i s) a.parts.items) c.row in
              let (part, test) = filter_among (agrees m i s) τ a.parts.items there in
              let same : common τ (inputs_of m i) ≡ common s (variables_of m i) = grind (arith, nat_tests) in
              let marks : r.marks ≡ marks_at m i s a.active = ap (λ (q : Row). q.marks) e in
              let has = (marks_tell m i pair s a.active question.of_rules r (ap (λ (q : Row). common q.state.values (inputs_of m i)) e ∙ seen_inputs m i s τ same) marks).1 c.active in
              let inside : Within (marks_at m i s a.active) pair = subst (λ (z : ℕ). Within z pair) marks (marks_inside m i pair r has) in
              let less = size_within (marks_at m i s a.active) pair inside in (
                subst (λ (q : Row). IsAmong q (made [])) (sym e) (among_flat_map (λ s. flat_map (rows_with m i level [] s) answers) s _ states state (among_flat_map (rows_with m i level [] s) a _ answers c.among (answer_with m level i [] s a τ (omega arith) (λ k h. known k (inside k h)) (one_within-none (marks_at m i s a.active)) part same))),
                has,
              )

          from : IsAmong r (made []) × HasMarksOf m i pair r → (s : ℕ) × IsAmong s states × IsChangedRow m i pair answers s r
          from (among, has) =
              let (s, state, there) = flat_map_among (λ s. flat_map (rows_with m i level [] s) answers) r states among in
              let (a, here, there') = flat_map_among (rows_with m i level [] s) r answers there in
              let (near, allowed, none, (τ, part, same, e)) = with_answer m level i [] s a r there' in
              let (order', ordered', question) = asked_of a here in
              let marks : r.marks ≡ marks_at m i s a.active = ap (λ (q : Row). q.marks) e in
              let acting = (marks_tell m i pair s a.active question.of_rules r (ap (λ (q : Row). common q.state.values (inputs_of m i)) e ∙ seen_inputs m i s τ same) marks).0 has in (
                s,
                state,
                record {
                  answer = a;
                  among = here;
                  active = acting;
                  row = subst (λ (q : Row). IsAmong q (map (row_with m i s (marks_at m i s a.active)) (filter (agrees m i s) a.parts.items))) (sym e) (among_map (row_with m i s (marks_at m i s a.active)) τ (filter (agrees m i s) a.parts.items) (among_filter (agrees m i s) τ a.parts.items part (grind (arith, nat_tests))));
                },
              )

      pub made_changed : (u : TableData) (rows : List Row) → ((r : Row) → IsAmong r rows ↔ ((s : ℕ) × IsAmong s states × IsChangedRow m i pair answers s r)) → IsTable u → IsListing (λ r. IsAmong r rows) RowBefore u.rows → IsChangedAt m level i pair u
      made_changed u rows are table listing =
          let (t, local) = local_table in record {
            all = t;
            local = local;
            changed = record {
              table = table;
              rows = IsListing-same RowBefore (λ r. IsAmong r rows) (λ r. IsAmong r t.rows × HasMarksOf m i pair r) u.rows (λ r. (
                λ h. let (among, has) = (changed_of r).0 ((are r).0 h) in ((local.rows.exactly r).1 (made_are_local [] r among).0, has),
                λ h. (are r).1 ((changed_of r).1 (local_are_made [] r ((local.rows.exactly r).0 h.0) (one_within-none r.marks), h.1)),
              )) listing;
            };
          }

-- ---- rows of a state that cover all of its rows
-- the rows that apply are told by no marks
pub no_marks : (m : System) (i s : ℕ) → marks_at m i s (common (applicable m s) (rules_into m i)) ≡ 0
no_marks m i s = ap (λ z. marks_of m z z) (same_set (minus a a) 0 (λ k. let e = has-minus a a k in let e' = has-empty k in grind (arith, nat_tests))) ∙ same_set (marks_of m 0 0) 0 (λ k. has-marks_of m 0 0 k ∙ at k (eqb (k % 2) 0) (ltb k (2 * length m.bridges)) ∙ sym (has-empty k))
  where
    a : ℕ
    a = common (applicable m s) (rules_into m i)

    at : (k : ℕ) (v u : Bool) → (u && cond v (has 0 (k / 2)) (has 0 (k / 2))) ≡ false
    at k true u = rw (has-empty (k / 2)) (and-false u)
    at k false u = rw (has-empty (k / 2)) (and-false u)

-- ---- each row is on the local variables
state_on : (m : System) (i level : ℕ) (known : List ℕ) (s : ℕ) (answers : List Answer) (r : Row) → IsAmong r (rows_of m i level known answers s) → r.state.mask ≡ local_of m i
state_on m i level known s answers r among =
    let (a, here, there) = flat_map_among (rows_with m i level known s) r answers among in
    let (few, allowed, none, (τ, part, same, e)) = with_answer m level i known s a r there in
    ap (λ (q : Row). q.state.mask) e

pub all_on : (m : System) (i level : ℕ) (known : List ℕ) (answers : List Answer) (states : List ℕ) (scope : ℕ) (rows : List Row) → scope ≡ local_of m i → rows ≡ flat_map (rows_of m i level known answers) states → AllByRecursion (λ (r : Row). r.state.mask ≡ scope) rows
all_on m i level known answers states scope rows is rows_are = all_from_among (λ (r : Row). r.state.mask ≡ scope) rows (λ r among.
    let (s, state, there) = flat_map_among (rows_of m i level known answers) r states (subst (IsAmong r) rows_are among) in
    state_on m i level known s answers r there ∙ sym is)

pub covering_on : (m : System) (i level : ℕ) (known : List ℕ) (answers : List Answer) (states : List ℕ) (scope : ℕ) (rows : List Row) → scope ≡ local_of m i → Covers (λ r. IsAmong r rows) (λ r. IsAmong r (flat_map (rows_of m i level known answers) states)) → AllByRecursion (λ (r : Row). r.state.mask ≡ scope) rows
covering_on m i level known answers states scope rows is covers = all_from_among (λ (r : Row). r.state.mask ≡ scope) rows (λ r among.
    let (s, state, there) = flat_map_among (rows_of m i level known answers) r states (covers.from r among) in
    state_on m i level known s answers r there ∙ sym is)

pub changed_on : (m : System) (i pair : ℕ) (answers : List Answer) (states : List ℕ) (scope : ℕ) (rows : List Row) → scope ≡ local_of m i → ((r : Row) → IsAmong r rows ↔ ((s : ℕ) × IsAmong s states × IsChangedRow m i pair answers s r)) → AllByRecursion (λ (r : Row). r.state.mask ≡ scope) rows
changed_on m i pair answers states scope rows is are = all_from_among (λ (r : Row). r.state.mask ≡ scope) rows (λ r among.
    let (s, state, c) = (are r).0 among in
    let (τ, there, e) = map_among (row_with m i s (marks_at m i s c.answer.active)) r (filter (agrees m i s) c.answer.parts.items) c.row in
    ap (λ (q : Row). q.state.mask) e ∙ sym is)

-- ---- the questions that were asked ascend
pub answered_in_order : (m : System) (level i : ℕ) (answers : List Answer) → AreAnswered m level i (map answered_of answers) → AreAscendingQuestions answers
answered_in_order m level i answers answered = subst (IsAscending (λ (a b : ℕ). a < b)) (map-map (λ (b : Answered). b.question) answered_of answers) answered.questions.ascending

-- ---- state after state
pub rows_more : (m : System) (i level : ℕ) (known : List ℕ) (answers : List Answer) (states : List ℕ) (k s : ℕ) → k < length states → s ≡ get_or states k s
    → flat_map (rows_of m i level known answers) (take (k + 1) states) ≡ flat_map (rows_of m i level known answers) (take k states) ++ rows_of m i level known answers s
rows_more m i level known answers states k s less here =
    let F = rows_of m i level known answers in
    ap (flat_map F) (take_read states k s less here) ∙ (flat_map-append F (take k states) (s ∷ []) ∙ ap (λ (rows : List Row). flat_map F (take k states) ++ rows) (append-nil (F s)))
