-- The lines that name questions and states, read.
use Rattle.std.proofs.Common.{◌≡◌, ℕ, ◌+◌, ◌<◌, ◌≤◌, zero, suc, Bool, true, false, cond, nat_eq, IsTrue, List, [], ◌∷◌, ◌++◌, map, length, take, drop, codes, slice_get, Option, Some, None, refl, sym, ap, ◌∙◌, subst, arith, true≢false}
use Rattle.std.proofs.Math.Seq.{take-append_seam, drop-append_seam}
use Rattle.std.proofs.lemmas.Bool.{and_parts, or_parts}
use Rattle.std.proofs.lemmas.Bool.Decides.{nat_tests}
use Rattle.std.proofs.lemmas.List.{length-map}
use Rattle.std.proofs.lemmas.Option.{cond_some, same_Some, slice_get-map, slice_get_within}
use Rattle.std.proofs.lemmas.Slice.Eq.{bytes_eq-Decides}
use Rattle.std.specs.List.{AllByRecursion, list_all}
use Rattle.std.specs.Option.{option_and_then, option_map}
use Rattle.std.specs.Str.{bytes_eq}
use Rattle.mcs_sets.specs.Sets.{has, minus, Within}
use Rattle.mcs_sets.proofs.SetLemmas.{same_set, members-width, members_below, has-empty, has-minus}
use Rattle.mcs_sets.proofs.Lattice.{below_from_members, in_minus}
use Rattle.mcs_base.specs.Words.{is_word_byte}
use Rattle.mcs_system.specs.Plain.{Name, Context, Read, Bridge, System}
use Rattle.mcs_system.specs.Naming.{IsSystemNamed}
use Rattle.mcs_system.specs.Faults.{has_twins, IsValid}
use Rattle.mcs_system.specs.Imports.{rules_into}
use Rattle.mcs_system.specs.Systems.{variables, variables_of}
use Rattle.mcs_system.specs.Texts.{belief_text, name_of_context}
use Rattle.mcs_base.proofs.WordLemmas.{name_is_word}
use Rattle.mcs_system.proofs.ValidLemmas.{few_bridges, few_variables, twins_are_one}
use Rattle.mcs_system.proofs.ContextSets.{rule_there, variables_of-lt}
use Rattle.mcs_text.specs.Separated.{braced}
use Rattle.mcs_report.specs.Members.{member_text, name_of_rule, text_of_variable, rules_text, state_text}
use Rattle.mcs_report.specs.declared.members.Member.TheVariants as kinds
use Rattle.mcs_spelling.specs.Parts.{set_text}
use Rattle.mcs_spelling.specs.Words.{after_prefix, place_of_byte, set_of, guarded}
use Rattle.mcs_spelling.proofs.NumberTexts.{bound}
use Rattle.mcs_spelling.proofs.SetTexts.{set_spelled, set_read}
use Rattle.mcs_proof_text.specs.Lines.{question_text, output_text}
use Rattle.mcs_proof_lines.specs.Walks.{everything}
use Rattle.mcs_proof_lines.specs.Readings.{ReadsLine, IsPassing}
use Rattle.mcs_proof_lines.proofs.WordReadings.{after_line}
use Rattle.mcs_proof_lines.proofs.NumberReadings.{guarded_line}
use Rattle.mcs_proof_reader.specs.Questions.{rule_names, variable_texts, context_from, rules_of_text, question_of, comes_after, next_question, state_after, state_in_words}
use Rattle.mcs_proof_reader.proofs.EvidenceReadings.{chosen_are, in_everything}
use Rattle.mcs_proof_text.proofs.PlainTexts.{all_word, context_named}
use Rattle.mcs_proof_reader.proofs.SystemTexts.{contexts_apart, rules_tell, variables_tell}
use Rattle.mcs_spelling.proofs.PlaceTexts.{place_is, split_at}
use Rattle.mcs_base.proofs.Lists.{drop_past}

-- ---- contexts by their names
pub record IsContextAt (name : List ℕ) (cs : List Context) (place : ℕ) : Type 0 where
  pub context : Context
  pub is_it : slice_get cs place ≡ Some context
  pub named : context.name ≡ name

context_is : (name : List ℕ) (k i : ℕ) (cs : List Context) → context_from name k cs ≡ Some i → (j : ℕ) × (i ≡ k + j) × IsContextAt name cs j
context_is name k i [] e = absurd (cc)
context_is name k i (c ∷ cs) e = at (bytes_eq c.name name) refl e (λ e'. context_is name (k + 1) i cs e')
  where
    at : (b : Bool) → bytes_eq c.name name ≡ b → cond b (Some k) (context_from name (k + 1) cs) ≡ Some i → (context_from name (k + 1) cs ≡ Some i → (j : ℕ) × (i ≡ k + 1 + j) × IsContextAt name cs j)
        → (j : ℕ) × (i ≡ k + j) × IsContextAt name (c ∷ cs) j
    at true same e again = (0, (let is = same_Some k i e in omega arith), record { context = c; is_it = refl; named = (bytes_eq-Decides c.name name).0 same })
    at false same e again = let (j, is, h) = again e in (suc j, omega (arith, is), record { context = h.context; is_it = h.is_it; named = h.named })

context_found : (k i : ℕ) (cs : List Context) (c : Context) → has_twins (map (λ (d : Context). d.name) cs) ≡ false → slice_get cs i ≡ Some c → context_from c.name k cs ≡ Some (k + i)
context_found k i [] c apart is = absurd (cc)
context_found k zero (d ∷ cs) c apart is =
    let same : d ≡ c = same_Some d c is in
    let test : bytes_eq d.name c.name ≡ true = (bytes_eq-Decides d.name c.name).1 (ap (λ (x : Context). x.name) same) in
    let here : k ≡ k + 0 = omega arith in
    ap (λ (b : Bool). cond b (Some k) (context_from c.name (k + 1) cs)) test ∙ ap (λ (n : ℕ). Some n) here
context_found k (suc i) (d ∷ cs) c apart is = at (bytes_eq d.name c.name) refl (context_found (k + 1) i cs c (or_parts _ (has_twins (map (λ (d : Context). d.name) cs)) apart).1 is)
  where
    at : (b : Bool) → bytes_eq d.name c.name ≡ b → context_from c.name (k + 1) cs ≡ Some (k + 1 + i) → cond b (Some k) (context_from c.name (k + 1) cs) ≡ Some (k + suc i)
    at true same again =
        let names : d.name ≡ c.name = (bytes_eq-Decides d.name c.name).0 same in
        let later : slice_get (map (λ (d : Context). d.name) (d ∷ cs)) (suc i) ≡ Some c.name = slice_get-map (λ (d : Context). d.name) cs i ∙ ap (option_map (λ (d : Context). d.name)) is in
        let first : slice_get (map (λ (d : Context). d.name) (d ∷ cs)) 0 ≡ Some c.name = ap (λ (n : Name). Some n) names in
        absurd (let one : 0 ≡ suc i = twins_are_one (map (λ (d : Context). d.name) (d ∷ cs)) apart 0 (suc i) c.name first later in omega (arith, one))
    at false same again = again ∙ (let next : k + 1 + i ≡ k + suc i = omega arith in ap (λ (n : ℕ). Some n) next)

no_space : (v : List ℕ) → IsTrue (list_all is_word_byte v) → AllByRecursion (λ b. nat_eq b 32 ≡ false) v
no_space [] all = tt
no_space (b ∷ v) all = let (first, rest) = and_parts (is_word_byte b) (list_all is_word_byte v) all in (plain (nat_eq b 32) refl first, no_space v rest)
  where
    plain : (x : Bool) → nat_eq b 32 ≡ x → is_word_byte b ≡ true → nat_eq b 32 ≡ false
    plain true e word = (let same : b ≡ 32 = grind (arith, nat_tests) in absurd (true≢false (sym word ∙ ap is_word_byte same)))
    plain false e word = e

-- ---- questions
abbrev pub IsQuestion : System → ℕ × ℕ → Type 0
IsQuestion m q = ((c : Context) × (slice_get m.contexts q.0 ≡ Some c)) × Within q.1 (rules_into m q.0)

abbrev pub text_of_question : System → ℕ × ℕ → List ℕ
text_of_question m q = question_text m q.0 q.1

-- a context's name, and a set of rules into it
abbrev context_then : System → List ℕ → Option (ℕ × ℕ)
context_then m rest = option_and_then (λ space. option_and_then (rules_of_text m (drop (space + 1) rest)) (context_from (take space rest) 0 m.contexts)) (place_of_byte 32 rest)

module _ (m : System) (valid : IsValid m) (named : IsSystemNamed m) where
  rule_below : (i x : ℕ) → Within x (rules_into m i) → (k : ℕ) → IsTrue (has x k) → k < length (rule_names m)
  rule_below i x within k member =
      let (b, is, into) = rule_there m i k (within k member) in
      let less = slice_get_within m.bridges k b is in
      let long = length-map m.bridges (λ (b : Bridge). b.name) in
      omega (arith, less, long)

  few_names : length (rule_names m) ≤ 64
  few_names = let few = few_bridges m valid in let long = length-map m.bridges (λ (b : Bridge). b.name) in omega (arith, few, long)

  rules_told : (x : ℕ) → ((k : ℕ) → IsTrue (has x k) → k < length (rule_names m)) → set_text (rule_names m) x ≡ rules_text m x
  rules_told x below =
      let small = below_from_members (length (rule_names m)) x below in
      ap braced (chosen_are x (member_text kinds.Rule m) 0 (rule_names m) (λ j t e. (let here : 0 + j ≡ j = omega arith in ap (member_text kinds.Rule m) here ∙ named_rule j t e)) ∙ ap (map (member_text kinds.Rule m)) (sym (members-width x (length (rule_names m)) small)))
    where
      by : (o : Option Bridge) (t : List ℕ) → option_map (λ (b : Bridge). b.name) o ≡ Some t → name_of_rule o ≡ t
      by None t e = absurd (cc)
      by (Some b) t e = same_Some b.name t e

      named_rule : (j : ℕ) (t : List ℕ) → slice_get (rule_names m) j ≡ Some t → member_text kinds.Rule m j ≡ t
      named_rule j t e = by (slice_get m.bridges j) t (sym (slice_get-map (λ (b : Bridge). b.name) m.bridges j) ∙ e)

  -- rules into the context
  rules_line : (i : ℕ) → ReadsLine (λ q. (q.0 ≡ i) × Within q.1 (rules_into m i)) (λ q. rules_text m q.1) (λ text. rules_of_text m text i)
  rules_line i = record {
    sound = λ text q e. (
        let (x, was, e1) = bound (λ x. guarded (nat_eq (minus x (rules_into m i)) 0) (i, x)) (set_of (rule_names m) everything text) q e in
        let (test, same) = cond_some (nat_eq (minus x (rules_into m i)) 0) (i, x) q e1 in
        let (allowed, spelled) = set_spelled (rule_names m) everything text x was in
        let within : Within x (rules_into m i) = λ k member. missing x k member test in
        let told : text ≡ rules_text m x = spelled ∙ rules_told x (λ k member. (allowed k member).0) in
        ((ap (λ (r : ℕ × ℕ). r.0) (sym same), subst (λ (y : ℕ). Within y (rules_into m i)) (ap (λ (r : ℕ × ℕ). r.1) same) within), told ∙ ap (λ (r : ℕ × ℕ). rules_text m r.1) same));
    complete = λ q is. (
        let below = rule_below i q.1 is.1 in
        let read : set_of (rule_names m) everything (rules_text m q.1) ≡ Some q.1 =
        ap (set_of (rule_names m) everything) (sym (rules_told q.1 below)) ∙ set_read (rule_names m) everything q.1 (rules_tell m valid named) (λ k member. (let b = below k member in (b, in_everything k (omega (arith, b, few_names))))) in
        let none : minus q.1 (rules_into m i) ≡ 0 = nothing_left q.1 is.1 in
        let test : nat_eq (minus q.1 (rules_into m i)) 0 ≡ true = ap (λ (n : ℕ). nat_eq n 0) none in
        ap (option_and_then (λ x. guarded (nat_eq (minus x (rules_into m i)) 0) (i, x))) read ∙ (ap (λ (b : Bool). guarded b (i, q.1)) test ∙ ap (λ (j : ℕ). Some (j, q.1)) (sym is.0)));
  }
    where
      missing : (x k : ℕ) → IsTrue (has x k) → nat_eq (minus x (rules_into m i)) 0 ≡ true → IsTrue (has (rules_into m i) k)
      missing x k member test = by (has (rules_into m i) k) refl
        where
          by : (b : Bool) → has (rules_into m i) k ≡ b → IsTrue (has (rules_into m i) k)
          by true e = e
          by false e =
              let none : minus x (rules_into m i) ≡ 0 = grind (arith, nat_tests) in
              let left : has (minus x (rules_into m i)) k ≡ true = has-minus x (rules_into m i) k ∙ rw (member, e) refl in
              absurd (true≢false (sym left ∙ (ap (λ (s : ℕ). has s k) none ∙ has-empty k)))

      nothing_left : (x : ℕ) → Within x (rules_into m i) → minus x (rules_into m i) ≡ 0
      nothing_left x within = same_set (minus x (rules_into m i)) 0 (λ k. by k (has (minus x (rules_into m i)) k) refl)
        where
          by : (k : ℕ) (b : Bool) → has (minus x (rules_into m i)) k ≡ b → has (minus x (rules_into m i)) k ≡ has 0 k
          by k true e = let (inside, outside) = in_minus x (rules_into m i) k e in absurd (true≢false (sym (within k inside) ∙ outside))
          by k false e = e ∙ sym (has-empty k)

  context_line : ReadsLine (IsQuestion m) (λ q. name_of_context (slice_get m.contexts q.0) ++ (codes " " ++ rules_text m q.1)) (context_then m)
  context_line = record {
    sound = λ rest q e. (
        let (space, a, e1) = bound (λ space. option_and_then (rules_of_text m (drop (space + 1) rest)) (context_from (take space rest) 0 m.contexts)) (place_of_byte 32 rest) q e in
        let (i, b, e2) = bound (rules_of_text m (drop (space + 1) rest)) (context_from (take space rest) 0 m.contexts) q e1 in
        let (j, place, h) = context_is (take space rest) 0 i m.contexts b in
        let (is, spelled) = (rules_line i).sound (drop (space + 1) rest) q e2 in
        let at : j ≡ q.0 = omega (arith, place, is.0) in
        let there : slice_get m.contexts q.0 ≡ Some h.context = ap (slice_get m.contexts) (sym at) ∙ h.is_it in
        let within : Within q.1 (rules_into m q.0) = subst (λ (k : ℕ). Within q.1 (rules_into m k)) (sym is.0) is.1 in
        let text : rest ≡ h.context.name ++ (codes " " ++ rules_text m q.1) = split_at 32 rest space a ∙ (ap (λ (t : List ℕ). t ++ 32 ∷ drop (space + 1) rest) (sym h.named) ∙ ap (λ (t : List ℕ). h.context.name ++ 32 ∷ t) spelled) in
        (((h.context, there), within), text ∙ ap (λ (o : Option Context). name_of_context o ++ (codes " " ++ rules_text m q.1)) (sym there)));
    complete = λ q is. (
        let c = is.0.0 in
        let there = is.0.1 in
        let name = c.name in
        let rest = name ++ (codes " " ++ rules_text m q.1) in
        let text : name_of_context (slice_get m.contexts q.0) ++ (codes " " ++ rules_text m q.1) ≡ rest = ap (λ (o : Option Context). name_of_context o ++ (codes " " ++ rules_text m q.1)) there in
        let place : place_of_byte 32 rest ≡ Some (length name) = place_is 32 name (rules_text m q.1) (no_space name (all_word name (name_is_word name (context_named m named q.0 c there)))) in
        let front : take (length name) rest ≡ name = take-append_seam name (codes " " ++ rules_text m q.1) in
        let back : drop (length name + 1) rest ≡ rules_text m q.1 = drop_past (length name) rest (32 ∷ []) (rules_text m q.1) (drop-append_seam name (codes " " ++ rules_text m q.1)) in
        let found : context_from name 0 m.contexts ≡ Some q.0 = context_found 0 q.0 m.contexts c (contexts_apart m valid named) there ∙ (let here : 0 + q.0 ≡ q.0 = omega arith in ap (λ (n : ℕ). Some n) here) in
        ap (context_then m) text
        ∙ (ap (option_and_then (λ space. option_and_then (rules_of_text m (drop (space + 1) rest)) (context_from (take space rest) 0 m.contexts))) place
        ∙ (ap (λ (t : List ℕ). option_and_then (rules_of_text m (drop (length name + 1) rest)) (context_from t 0 m.contexts)) front
        ∙ (ap (option_and_then (rules_of_text m (drop (length name + 1) rest))) found
        ∙ (ap (λ (t : List ℕ). rules_of_text m t q.0) back ∙ (rules_line q.0).complete q (refl, is.1))))));
  }

  question_line : ReadsLine (IsQuestion m) (text_of_question m) (question_of m)
  unfolding question_of question_text
  question_line = after_line (codes "answer ") (IsQuestion m) (λ q. name_of_context (slice_get m.contexts q.0) ++ (codes " " ++ rules_text m q.1)) (context_then m) context_line

  -- one that comes after the last
  pub next_line : (last : Option (ℕ × ℕ)) → ReadsLine (IsPassing (IsQuestion m) (comes_after last)) (text_of_question m) (next_question m last)
  unfolding next_question
  next_line last = guarded_line (IsQuestion m) (text_of_question m) (question_of m) question_line (comes_after last)

  -- ---- states
  few_texts : length (variable_texts m) ≤ 64
  few_texts = let few = few_variables m valid in let long = length-map (variables m) (belief_text m) in omega (arith, few, long)

  state_told : (σ : ℕ) → ((k : ℕ) → IsTrue (has σ k) → k < length (variable_texts m)) → set_text (variable_texts m) σ ≡ state_text m σ
  state_told σ below =
      let small = below_from_members (length (variable_texts m)) σ below in
      ap braced (chosen_are σ (member_text kinds.Variable m) 0 (variable_texts m) (λ j t e. (let here : 0 + j ≡ j = omega arith in ap (member_text kinds.Variable m) here ∙ named_variable j t e)) ∙ ap (map (member_text kinds.Variable m)) (sym (members-width σ (length (variable_texts m)) small)))
    where
      by : (o : Option Read) (t : List ℕ) → option_map (belief_text m) o ≡ Some t → text_of_variable m o ≡ t
      by None t e = absurd (cc)
      by (Some r) t e = same_Some (belief_text m r) t e

      named_variable : (j : ℕ) (t : List ℕ) → slice_get (variable_texts m) j ≡ Some t → member_text kinds.Variable m j ≡ t
      named_variable j t e = by (slice_get (variables m) j) t (sym (slice_get-map (belief_text m) (variables m) j) ∙ e)

  module _ (i : ℕ) where
    own_below : (σ : ℕ) → Within σ (variables_of m i) → (k : ℕ) → IsTrue (has σ k) → k < length (variable_texts m)
    own_below σ within k member =
        let less = members_below (variables_of m i) (length (variables m)) k (variables_of-lt m i) (within k member) in
        let long = length-map (variables m) (belief_text m) in
        omega (arith, less, long)

    set_line : ReadsLine (λ σ. Within σ (variables_of m i)) (state_text m) (set_of (variable_texts m) (variables_of m i))
    set_line = record {
      sound = λ line σ e. (
          let (allowed, spelled) = set_spelled (variable_texts m) (variables_of m i) line σ e in
          ((λ k member. (allowed k member).1), spelled ∙ state_told σ (λ k member. (allowed k member).0)));
      complete = λ σ within. ap (set_of (variable_texts m) (variables_of m i)) (sym (state_told σ (own_below σ within)))
          ∙ set_read (variable_texts m) (variables_of m i) σ (variables_tell m valid named) (λ k member. (own_below σ within k member, within k member));
    }

    pub state_line : (last : Option ℕ) → ReadsLine (IsPassing (λ σ. Within σ (variables_of m i)) (state_after last)) (output_text m) (state_in_words m (variables_of m i) last)
    unfolding state_in_words output_text
    state_line last = guarded_line (λ σ. Within σ (variables_of m i)) (λ σ. codes "state " ++ state_text m σ) (λ line. option_and_then (set_of (variable_texts m) (variables_of m i)) (after_prefix (codes "state ") line))
        (after_line (codes "state ") (λ σ. Within σ (variables_of m i)) (state_text m) (set_of (variable_texts m) (variables_of m i)) set_line) (state_after last)
