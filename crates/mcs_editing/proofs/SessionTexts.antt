-- The text of a session is one, there is one, and its stages are fronts of it.
use Rattle.std.proofs.Common.{◌≡◌, ℕ, zero, suc, ◌<◌, ◌≤◌, List, [], ◌++◌, length, refl, sym, ap, ap₂, ◌∙◌, subst, inl, inr, append_assoc, arith}
use Rattle.std.proofs.lemmas.Bool.{cases_eq}
use Rattle.std.proofs.lemmas.List.{append-nil}
use Rattle.std.proofs.lemmas.Option.{slice_get_within, same_Some}
use Rattle.mcs_base.proofs.Lists.{slice_get_below}
use Rattle.mcs_system.specs.Plain.{System}
use Rattle.mcs_report.proofs.SolutionLaws.{whole_is_one, whole_exists, stages_of_whole}
use Rattle.mcs_work.specs.Tasks.{IsTaskText, IsTaskStage}
use Rattle.mcs_work.specs.declared.task.Task.TheVariants.{Solve}
use Rattle.mcs_report.specs.Sessions.{list_line, answers_line, session_end_line}
use Rattle.mcs_editing.specs.Listed.{IsKeyOfFirst, IsNewKeyAt, IsKeptKeyAt}
use Rattle.mcs_editing.specs.Texts.{IsAnswersLine, IsListed, AreListed, IsEndLine, begun, ended}
use Rattle.mcs_editing.specs.Laws.{SessionTextsAreOne, SessionTextsExist, SessionStagesAreFronts}
use Rattle.mcs_editing.proofs.KeyLemmas.{inventories_fit, first_keys, keys_divided}

-- ---- they are one
one_answers_line : (systems : List System) (many : ℕ) (m : System) (line other : List ℕ) → IsAnswersLine systems many m line → IsAnswersLine systems many m other → line ≡ other
one_answers_line systems many m line other a b =
    let news = inventories_fit (IsNewKeyAt systems many m) a.new b.new a.new_are b.new_are in
    let kepts = inventories_fit (IsKeptKeyAt systems many m) a.kept b.kept a.kept_are b.kept_are in
    a.line_is ∙ ap₂ answers_line news kepts ∙ sym b.line_is

pub one_listed : (systems : List System) (many : ℕ) (text other : List ℕ) → IsListed systems many text → IsListed systems many other → text ≡ other
one_listed systems many text other a b =
    let same : a.system ≡ b.system = same_Some _ _ (sym a.is_there ∙ b.is_there) in
    let listings : a.listing ≡ b.listing = whole_is_one b.system a.listing b.listing (subst (λ (m : System). IsTaskText Solve m a.listing) same a.whole) b.whole in
    let lines : a.line ≡ b.line = one_answers_line systems many b.system a.line b.line (subst (λ (m : System). IsAnswersLine systems many m a.line) same a.answers) b.answers in
    a.text_is ∙ ap₂ (λ (m : System) (t : List ℕ). list_line m (suc many) ++ t) same (ap₂ (λ (t l : List ℕ). t ++ l) listings lines) ∙ sym b.text_is

pub one_front : (systems : List System) (many : ℕ) (text other : List ℕ) → AreListed systems many text → AreListed systems many other → text ≡ other
one_front systems zero text other a b = a ∙ sym b
one_front systems (suc many) text other (before, part, listed, own, is) (before', part', listed', own', is') =
    is ∙ ap₂ (λ (t u : List ℕ). t ++ u) (one_front systems many before before' listed listed') (one_listed systems many part part' own own') ∙ sym is'

pub one_end_line : (systems : List System) (line other : List ℕ) → IsEndLine systems line → IsEndLine systems other → line ≡ other
one_end_line systems line other a b =
    a.line_is ∙ ap (λ (n : ℕ). session_end_line (length systems) n) (inventories_fit (IsKeyOfFirst systems (length systems)) a.keys b.keys a.keys_are b.keys_are) ∙ sym b.line_is

pub one_text : SessionTextsAreOne
one_text systems text other a b =
    a.text_is ∙ ap₂ (λ (t u : List ℕ). t ++ u) (one_front systems (length systems) a.before b.before a.listed b.listed) (one_end_line systems a.line b.line a.ends b.ends) ∙ sym b.text_is

-- ---- there is one
listed_exists : (systems : List System) (many : ℕ) → many < length systems → (text : List ℕ) × IsListed systems many text
listed_exists systems many inside =
    let (m, there) = slice_get_below systems many inside in
    let (listing, whole) = whole_exists m in
    let (old, olds) = first_keys systems many in
    let (new, kept, news, kepts) = keys_divided systems many m old olds in (
      list_line m (suc many) ++ (listing ++ answers_line (length new) (length kept)),
      record {
        system = m;
        is_there = there;
        listing = listing;
        whole = whole;
        line = answers_line (length new) (length kept);
        answers = record { new = new; new_are = news; kept = kept; kept_are = kepts; line_is = refl };
        text_is = refl;
      },
    )

fronts_exist : (systems : List System) (many : ℕ) → many ≤ length systems → (text : List ℕ) × AreListed systems many text
fronts_exist systems zero fits = ([], refl)
fronts_exist systems (suc many) fits =
    let (before, listed) = fronts_exist systems many (omega (arith, fits)) in
    let (part, own) = listed_exists systems many (omega (arith, fits)) in
    (before ++ part, (before, part, listed, own, refl))

pub texts_exist : SessionTextsExist
texts_exist systems =
    let (before, listed) = fronts_exist systems (length systems) (omega arith) in
    let (keys, keys_are) = first_keys systems (length systems) in
    let line : List ℕ = session_end_line (length systems) (length keys) in
    (before ++ line, record { before = before; listed = listed; line = line; ends = record { keys = keys; keys_are = keys_are; line_is = refl }; text_is = refl })

-- ---- stages
-- a place of the whole text where one of the listings stands
record StandsIn (systems : List System) (many : ℕ) (text : List ℕ) : Type 0 where
  before : List ℕ
  listed : AreListed systems many before
  part : List ℕ
  own : IsListed systems many part
  rest : List ℕ
  parts : before ++ (part ++ rest) ≡ text

stands_in : (systems : List System) (many total : ℕ) (text : List ℕ) → many < total → AreListed systems total text → StandsIn systems many text
stands_in systems many zero text less listed = absurd (omega (arith, less))
stands_in systems many (suc total) text less (before, part, listed, own, is) = elim (cases_eq many total) [
  | inl e ↦ record {
    before = before;
    listed = subst (λ (n : ℕ). AreListed systems n before) (sym e) listed;
    part = part;
    own = subst (λ (n : ℕ). IsListed systems n part) (sym e) own;
    rest = [];
    parts = ap (λ (t : List ℕ). before ++ t) (append-nil part) ∙ sym is;
  }
  | inr other ↦ (let s = stands_in systems many total before (omega (arith, less, other)) listed in record {
    before = s.before;
    listed = s.listed;
    part = s.part;
    own = s.own;
    rest = s.rest ++ part;
    parts = ap (λ (t : List ℕ). s.before ++ t) (sym (append_assoc s.part s.rest part)) ∙ sym (append_assoc s.before (s.part ++ s.rest) part) ∙ ap (λ (t : List ℕ). t ++ part) s.parts ∙ sym is;
  })
]

pub stages_are_fronts : SessionStagesAreFronts
stages_are_fronts systems stage text (ended same) w = ([], append-nil stage ∙ one_text systems stage text same w)
stages_are_fronts systems stage text (begun many b) w =
    let s = stands_in systems many (length systems) w.before (slice_get_within systems many b.system b.is_there) w.listed in
    let same : s.own.system ≡ b.system = same_Some _ _ (sym s.own.is_there ∙ b.is_there) in
    let stage_is : IsTaskStage Solve s.own.system b.listing = subst (λ (m : System). IsTaskStage Solve m b.listing) (sym same) b.holds in
    let (more, goes) = stages_of_whole s.own.system b.listing s.own.listing stage_is s.own.whole in
    let front : b.before ≡ s.before = one_front systems many b.before s.before b.listed s.listed in
    let line : list_line b.system (suc many) ≡ list_line s.own.system (suc many) = ap (λ (m : System). list_line m (suc many)) (sym same) in
    let after : List ℕ = s.own.line ++ (s.rest ++ w.line) in (
      more ++ after,
      went stage text b.before s.before (list_line b.system (suc many)) (list_line s.own.system (suc many)) b.listing s.own.listing more s.own.line s.part s.rest w.before w.line
          b.text_is front line goes s.own.text_is s.parts w.text_is,
    )
  where
    in_one : (before line listing more ends rest last : List ℕ) → (before ++ (line ++ listing)) ++ (more ++ (ends ++ (rest ++ last))) ≡ (before ++ ((line ++ ((listing ++ more) ++ ends)) ++ rest)) ++ last
    in_one before line listing more ends rest last = simp append_assoc

    went : (stage text before before' line line' listing listing' more ends part rest all last : List ℕ) → stage ≡ before ++ (line ++ listing) → before ≡ before' → line ≡ line' → listing ++ more ≡ listing'
        → part ≡ line' ++ (listing' ++ ends) → before' ++ (part ++ rest) ≡ all → text ≡ all ++ last → stage ++ (more ++ (ends ++ (rest ++ last))) ≡ text
    went stage text before before' line line' listing listing' more ends part rest all last stage_is before_is lines_are goes part_is all_is text_is =
        ap (λ (t : List ℕ). t ++ (more ++ (ends ++ (rest ++ last)))) (stage_is ∙ ap₂ (λ (b l : List ℕ). b ++ (l ++ listing)) before_is lines_are)
        ∙ in_one before' line' listing more ends rest last
        ∙ ap (λ (t : List ℕ). (before' ++ ((line' ++ (t ++ ends)) ++ rest)) ++ last) goes
        ∙ ap (λ (t : List ℕ). (before' ++ (t ++ rest)) ++ last) (sym part_is)
        ∙ ap (λ (t : List ℕ). t ++ last) all_is
        ∙ sym text_is
