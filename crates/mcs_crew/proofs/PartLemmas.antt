-- Questions to a context that an oracle and its fork are asked at the same time.
use Rattle.std.proofs.Common.{◌≡◌, ℕ, List, [], ◌++◌, map, take, drop, Result, Ok, Err, IfErr, IfOk, OnOk, Vec, refl, sym, ap, ◌∙◌, subst, inl, inr}
use Rattle.std.proofs.lemmas.List.{append-nil, append_assoc, map-append, take-append-drop}
use Rattle.std.specs.declared.alloc.Global.{Global}
use Rattle.mcs_base.proofs.Among.{among_either, among_left, among_right}
use Rattle.mcs_base.proofs.Each.{all_append, all_left, all_right}
use Rattle.mcs_sets.specs.Sets.{Within}
use Rattle.mcs_system.specs.Imports.{rules_into}
use Rattle.mcs_states.specs.Oracles.{IsLacking, OracleState, with_journal}
use Rattle.mcs_states.specs.declared.halt.Halt.{Halt}
use Rattle.mcs_states.specs.declared.halt.Halt.TheVariants.{Memory, Missing, Spent}
use Rattle.mcs_rows.specs.Answers.{answered_of}
use Rattle.mcs_rows.specs.Local.{Answered}
use Rattle.mcs_rows.specs.declared.answer.Answer.{Answer}
use Rattle.mcs_node.specs.Known.{AreRight, HasAskedAll, HasAskingCause, IsRight, questions_in}
use Rattle.mcs_crew.specs.Parts.{AreJoined, IsAsked, IsErrand, IsHaltOfEither}

-- ---- what is to be asked
-- of the questions that an oracle can be asked, it can be asked the first ones
pub errand_front : (context : ℕ) (o : OracleState) (questions front back : List ℕ) → front ++ back ≡ questions → IsErrand context o questions → IsErrand context o front
errand_front context o questions front back whole errand = record {
  context_is = errand.context_is;
  rules = all_left (λ x. Within x (rules_into o.system context)) front back (rw whole errand.rules);
}

-- and its fork the others
pub errand_back : (context : ℕ) (o fork : OracleState) (questions front back : List ℕ) → fork ≡ with_journal [] o → front ++ back ≡ questions → IsErrand context o questions → IsErrand context fork back
errand_back context o fork questions front back is whole errand =
    let rules = all_right (λ x. Within x (rules_into o.system context)) front back (rw whole errand.rules) in
    subst (λ (p : OracleState). IsErrand context p back) (sym is) (record { context_is = errand.context_is; rules = rules })

-- the first ones of the questions, and the others
pub split_whole : (n : ℕ) (whole front back : List ℕ) → front ≡ take n whole → back ≡ drop n whole → front ++ back ≡ whole
split_whole n whole front back first rest = rw (first, rest) (take-append-drop n whole)

-- once it was asked some, it can be asked those that are left, and the first ones of these
pub errand_left : (context : ℕ) (before o : OracleState) (questions front left : List ℕ) → with_journal [] o ≡ with_journal [] before → front ++ left ≡ questions
    → IsErrand context before questions → IsErrand context o left
errand_left context before o questions front left same whole errand =
    let of_bare : IsErrand context (with_journal [] before) left = errand_back context before (with_journal [] before) questions front left refl whole errand in
    let bare : IsErrand context (with_journal [] o) left = subst (λ (p : OracleState). IsErrand context p left) (sym same) of_bare in
    record { context_is = bare.context_is; rules = bare.rules }

-- ---- what was asked
-- nothing was asked yet
pub none_asked : (context : ℕ) (o : OracleState) (answers : Vec Answer Global) → answers.items ≡ [] → IsAsked context o o [] (Ok answers)
none_asked context o answers none = record {
  answers_are = subst (λ (xs : List Answer). HasAskedAll o o [] (map answered_of xs)) (sym none) (record {
    questions = refl;
    right = tt;
    held = λ x among. absurd among;
    journal = ap (λ (xs : List ℕ). with_journal xs o) (sym (append-nil o.journal));
  });
  cause = tt;
  rest = refl;
}

-- what an oracle was asked in turn
module _ (before then after : OracleState) (front back : List ℕ) (given more : List Answered) where
  then_right : then ≡ with_journal (before.journal ++ front) before → AreRight before.system before.context given → AreRight then.system then.context more → AreRight before.system before.context (given ++ more)
  then_right is a b = all_append (IsRight before.system before.context) given more a (subst (λ (o : OracleState). AreRight o.system o.context more) is b)

  then_held : then ≡ with_journal (before.journal ++ front) before → (x : ℕ) → ¬ IsLacking then.holds x → ¬ IsLacking before.holds x
  then_held is x held = subst (λ (o : OracleState). ¬ IsLacking o.holds x) is held

  then_journal : then ≡ with_journal (before.journal ++ front) before → after ≡ with_journal (then.journal ++ back) then → after ≡ with_journal (before.journal ++ (front ++ back)) before
  then_journal is b = b ∙ ap (λ (o : OracleState). with_journal (o.journal ++ back) o) is ∙ ap (λ (xs : List ℕ). with_journal xs before) (append_assoc before.journal front back)

  pub asked_then : HasAskedAll before then front given → HasAskedAll then after back more → HasAskedAll before after (front ++ back) (given ++ more)
  asked_then a b = record {
    questions = map-append (λ (x : Answered). x.question) given more ∙ ap (λ (xs : List ℕ). xs ++ questions_in more) a.questions ∙ ap (λ (xs : List ℕ). front ++ xs) b.questions;
    right = then_right a.journal a.right b.right;
    held = λ x among. elim (among_either x front back among) [
      | inl early ↦ a.held x early
      | inr late ↦ then_held a.journal x (b.held x late)
    ];
    journal = then_journal a.journal b.journal;
  }

module _ (before fork first second after : OracleState) (front back : List ℕ) (given more : List Answered) (is : fork ≡ with_journal [] before) where
  -- the fork answers as its oracle does
  both_right : AreRight before.system before.context given → AreRight fork.system fork.context more → AreRight before.system before.context (given ++ more)
  both_right a b = all_append (IsRight before.system before.context) given more a (subst (λ (o : OracleState). AreRight o.system o.context more) is b)

  -- it was asked behind the oracle
  both_journals : first ≡ with_journal (before.journal ++ front) before → second ≡ with_journal (fork.journal ++ back) fork → after ≡ with_journal (first.journal ++ second.journal) first
      → after ≡ with_journal (before.journal ++ (front ++ back)) before
  both_journals a b c =
      let there : second.journal ≡ back = ap (λ (o : OracleState). o.journal) b ∙ ap (λ (o : OracleState). o.journal ++ back) is in
      c
      ∙ ap (λ (o : OracleState). with_journal (o.journal ++ second.journal) o) a
      ∙ ap (λ (xs : List ℕ). with_journal xs before) (ap (λ (xs : List ℕ). (before.journal ++ front) ++ xs) there ∙ append_assoc before.journal front back)

  -- both together are what the oracle would have been asked in turn
  pub asked_both : HasAskedAll before first front given → HasAskedAll fork second back more → after ≡ with_journal (first.journal ++ second.journal) first
      → HasAskedAll before after (front ++ back) (given ++ more)
  asked_both a b c = record {
    questions = map-append (λ (x : Answered). x.question) given more ∙ ap (λ (xs : List ℕ). xs ++ questions_in more) a.questions ∙ ap (λ (xs : List ℕ). front ++ xs) b.questions;
    right = both_right a.right b.right;
    held = λ x among. elim (among_either x front back among) [
      | inl early ↦ a.held x early
      | inr late ↦ subst (λ (o : OracleState). ¬ IsLacking o.holds x) is (b.held x late)
    ];
    journal = both_journals a.journal b.journal c;
  }

-- what holds anyway holds of an answer
pub told_anyway : {T E : Type 0} {X : Type 0} (r : Result T E) → X → OnOk r X
told_anyway (Ok t) x = x
told_anyway (Err e) x = tt

-- ---- why it stopped
cause_front : (context : ℕ) (o : OracleState) (front back : List ℕ) (halt : Halt) → HasAskingCause context o front halt → HasAskingCause context o (front ++ back) halt
cause_front context o front back (Spent level drawn) none = none
cause_front context o front back (Missing i x) (same, among, lacks) = (same, among_left x front back among, lacks)
cause_front context o front back Memory h = tt

cause_back : (context : ℕ) (o : OracleState) (front back : List ℕ) (halt : Halt) → HasAskingCause context (with_journal [] o) back halt → HasAskingCause context o (front ++ back) halt
cause_back context o front back (Spent level drawn) none = none
cause_back context o front back (Missing i x) (same, among, lacks) = (same, among_right x front back among, lacks)
cause_back context o front back Memory h = tt

cause_bare : (context : ℕ) (o : OracleState) (questions : List ℕ) (halt : Halt) → HasAskingCause context o questions halt → HasAskingCause context (with_journal [] o) questions halt
cause_bare context o questions (Spent level drawn) none = none
cause_bare context o questions (Missing i x) h = h
cause_bare context o questions Memory h = tt

-- ---- one after the other
module _ (context : ℕ) (before then after : OracleState) (front back : List ℕ) where
  -- of what was asked first, why it stopped
  pub stopped : (halt : Halt) → IsAsked context before then front (Err halt) → IsAsked context before then (front ++ back) (Err halt)
  stopped halt a = record { answers_are = tt; cause = cause_front context before front back halt a.cause; rest = a.rest }

  more_answers : (answers : Vec Answer Global) (ys all : Result (Vec Answer Global) Halt) → IsAsked context before then front (Ok answers) → IsAsked context then after back ys
      → IfOk all (AreJoined (Ok answers) ys) → IfOk all (λ given. HasAskedAll before after (front ++ back) (map answered_of given.items))
  more_answers answers (Ok ys) (Ok all) a b whole =
      subst (λ (given : List Answered). HasAskedAll before after (front ++ back) given) (sym (ap (λ (zs : List Answer). map answered_of zs) whole ∙ map-append answered_of answers.items ys.items))
      (asked_then before then after front back (map answered_of answers.items) (map answered_of ys.items) a.answers_are b.answers_are)
  more_answers answers (Err halt) (Ok all) a b whole = absurd whole
  more_answers answers ys (Err halt) a b whole = tt

  more_cause : (answers : Vec Answer Global) (ys all : Result (Vec Answer Global) Halt) → IsAsked context before then front (Ok answers) → IsAsked context then after back ys
      → IfErr all (IsHaltOfEither (Ok answers) ys) → IfErr all (HasAskingCause context before (front ++ back))
  more_cause answers ys (Ok all) a b halt = tt
  more_cause answers ys (Err halt) a b (inl early) =
      cause_front context before front back halt (subst (λ (r : Result (Vec Answer Global) Halt). IfErr r (HasAskingCause context before front)) early a.cause)
  more_cause answers ys (Err halt) a b (inr (inl late)) =
      cause_back context before front back halt (subst (λ (o : OracleState). HasAskingCause context o back halt) a.rest (cause_bare context then back halt
      (subst (λ (r : Result (Vec Answer Global) Halt). IfErr r (HasAskingCause context then back)) late b.cause)))
  more_cause answers ys (Err halt) a b (inr (inr memory)) = rw memory tt

  pub more_asked : (answers : Vec Answer Global) (ys all : Result (Vec Answer Global) Halt) → IsAsked context before then front (Ok answers) → IsAsked context then after back ys
      → IfOk all (AreJoined (Ok answers) ys) → IfErr all (IsHaltOfEither (Ok answers) ys) → IsAsked context before after (front ++ back) all
  more_asked answers ys all a b whole halt = record {
    answers_are = more_answers answers ys all a b whole;
    cause = more_cause answers ys all a b halt;
    rest = b.rest ∙ a.rest;
  }

-- ---- both together
module _ (context : ℕ) (before fork first second after : OracleState) (front back : List ℕ) (is : fork ≡ with_journal [] before) where
  joined_answers : (xs ys all : Result (Vec Answer Global) Halt) → IsAsked context before first front xs → IsAsked context fork second back ys → IfOk all (AreJoined xs ys)
      → OnOk all (after ≡ with_journal (first.journal ++ second.journal) first) → IfOk all (λ given. HasAskedAll before after (front ++ back) (map answered_of given.items))
  joined_answers (Ok xs) (Ok ys) (Ok all) a b whole journal =
      subst (λ (given : List Answered). HasAskedAll before after (front ++ back) given) (sym (ap (λ (zs : List Answer). map answered_of zs) whole ∙ map-append answered_of xs.items ys.items))
      (asked_both before fork first second after front back (map answered_of xs.items) (map answered_of ys.items) is a.answers_are b.answers_are journal)
  joined_answers (Ok xs) (Err halt) (Ok all) a b whole journal = absurd whole
  joined_answers (Err halt) ys (Ok all) a b whole journal = absurd whole
  joined_answers xs ys (Err halt) a b whole journal = tt

  joined_cause : (xs ys all : Result (Vec Answer Global) Halt) → IsAsked context before first front xs → IsAsked context fork second back ys → IfErr all (IsHaltOfEither xs ys)
      → IfErr all (HasAskingCause context before (front ++ back))
  joined_cause xs ys (Ok all) a b halt = tt
  joined_cause xs ys (Err halt) a b (inl early) =
      cause_front context before front back halt (subst (λ (r : Result (Vec Answer Global) Halt). IfErr r (HasAskingCause context before front)) early a.cause)
  joined_cause xs ys (Err halt) a b (inr (inl late)) =
      cause_back context before front back halt (subst (λ (o : OracleState). HasAskingCause context o back halt) is (subst (λ (r : Result (Vec Answer Global) Halt). IfErr r (HasAskingCause context fork back)) late b.cause))
  joined_cause xs ys (Err halt) a b (inr (inr memory)) = rw memory tt

  pub joined : (xs ys all : Result (Vec Answer Global) Halt) → IsAsked context before first front xs → IsAsked context fork second back ys
      → IfOk all (AreJoined xs ys) → IfErr all (IsHaltOfEither xs ys) → OnOk all (after ≡ with_journal (first.journal ++ second.journal) first) → with_journal [] after ≡ with_journal [] first
      → IsAsked context before after (front ++ back) all
  joined xs ys all a b whole halt journal rest = record {
    answers_are = joined_answers xs ys all a b whole journal;
    cause = joined_cause xs ys all a b halt;
    rest = rest ∙ a.rest;
  }
