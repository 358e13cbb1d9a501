-- States, lines of a listing, and answers, taken one after the other as the code collects them.
use Rattle.std.proofs.Common.{◌≡◌, ℕ, ◌+◌, ◌-◌, ◌<◌, ◌≤◌, zero, suc, Bool, true, false, cond, List, [], ◌∷◌, ◌++◌, map, length, codes, Option, Some, None, Ok, Err, refl, sym, ap, ◌∙◌, arith, append_assoc, append-nil, length-append}
use Rattle.std.proofs.lemmas.List.{map-append}
use Rattle.std.proofs.lemmas.Option.{same_Some}
use Rattle.std.specs.Option.{option_and_then}
use Rattle.mcs_system.specs.Plain.{System}
use Rattle.mcs_proof_text.specs.Answers.{Answer}
use Rattle.mcs_proof_lines.specs.declared.fault.ReportFault.{ReportFault}
use Rattle.mcs_proof_lines.specs.declared.fault.ReportFault.TheVariants as faults
use Rattle.mcs_proof_lines.specs.Walks.{At, Reading, ◌>>=◌, ReturnsReading, head_line, next_line, advanced, advanced_by, line_at, fault_at, is_next, after_front}
use Rattle.mcs_proof_lines.proofs.WalkLemmas.{pushed_front, front_none}
use Rattle.mcs_proof_reader.specs.Questions.{with_state, states_from, states_at, state_in_words}
use Rattle.mcs_proof_reader.specs.Answers.{answer_at, answers_at, question_in}
use Rattle.mcs_proof_reader.specs.Listings.{ends_listing, listing_from, listing_at}

-- ---- states
module _ (m : System) (allowed : ℕ) where
  some_from : (last : Option ℕ) (n : ℕ) (rest : List (List ℕ)) (tail : List ℕ) (s : ℕ) → option_and_then (state_in_words m allowed last) (head_line rest) ≡ Some s
      → let next = advanced_by n rest tail in let later = states_from m allowed (Some s) next.taken next.rest next.tail in states_from m allowed last n rest tail ≡ (s ∷ later.0, later.1)
  some_from last n [] tail s e = absurd (cc)
  some_from last n (line ∷ lines) tail s e = ap (λ (o : Option ℕ). with_state o (λ σ. states_from m allowed (Some σ) (n + 1) lines tail) (record { taken = n; rest = line ∷ lines; tail = tail })) e

  some_state : (last : Option ℕ) (at : At) (s : ℕ) → line_at (state_in_words m allowed last) at ≡ Some s → states_at m allowed last at ≡ (s ∷ (states_at m allowed (Some s) (advanced at)).0, (states_at m allowed (Some s) (advanced at)).1)
  unfolding states_at advanced
  some_state last at s e = some_from last at.taken at.rest at.tail s e

  none_from : (last : Option ℕ) (n : ℕ) (rest : List (List ℕ)) (tail : List ℕ) → option_and_then (state_in_words m allowed last) (head_line rest) ≡ None → states_from m allowed last n rest tail ≡ ([], record { taken = n; rest = rest; tail = tail })
  none_from last n [] tail e = refl
  none_from last n (line ∷ lines) tail e = ap (λ (o : Option ℕ). with_state o (λ σ. states_from m allowed (Some σ) (n + 1) lines tail) (record { taken = n; rest = line ∷ lines; tail = tail })) e

  pub no_state : (last : Option ℕ) (at : At) → line_at (state_in_words m allowed last) at ≡ None → states_at m allowed last at ≡ ([], at)
  unfolding states_at
  no_state last at e = none_from last at.taken at.rest at.tail e

  pub states_pushed : (last : Option ℕ) (old new : List ℕ) (s : ℕ) (at now : At) (goal : List ℕ × At) → new ≡ old ++ s ∷ [] → now ≡ advanced at → line_at (state_in_words m allowed last) at ≡ Some s
      → ◌≡◌ {A = List ℕ × At} (old ++ (states_at m allowed last at).0, (states_at m allowed last at).1) goal → ◌≡◌ {A = List ℕ × At} (new ++ (states_at m allowed (Some s) now).0, (states_at m allowed (Some s) now).1) goal
  states_pushed last old new s at now goal items moved e known =
      ap (λ (xs : List ℕ). (xs ++ (states_at m allowed (Some s) now).0, (states_at m allowed (Some s) now).1)) items
      ∙ (ap (λ (a : At). ((old ++ s ∷ []) ++ (states_at m allowed (Some s) a).0, (states_at m allowed (Some s) a).1)) moved
      ∙ (ap (λ (xs : List ℕ). (xs, (states_at m allowed (Some s) (advanced at)).1)) (append_assoc old (s ∷ []) (states_at m allowed (Some s) (advanced at)).0)
      ∙ (ap (λ (r : List ℕ × At). (old ++ r.0, r.1)) (sym (some_state last at s e)) ∙ known)))

  pub states_end : (last : Option ℕ) (front : List ℕ) (at : At) (goal : List ℕ × At) → line_at (state_in_words m allowed last) at ≡ None
      → ◌≡◌ {A = List ℕ × At} (front ++ (states_at m allowed last at).0, (states_at m allowed last at).1) goal → goal ≡ (front, at)
  states_end last front at goal e known = sym known ∙ (ap (λ (r : List ℕ × At). (front ++ r.0, r.1)) (no_state last at e) ∙ ap (λ (xs : List ℕ). (xs, at)) (append-nil front))

-- ---- lines of a listing
line_from : (n : ℕ) (rest : List (List ℕ)) (tail line : List ℕ) → head_line rest ≡ Some line
    → let next = advanced_by n rest tail in listing_from n rest tail ≡ cond (ends_listing line) (Ok (line ∷ [], next)) (listing_from next.taken next.rest next.tail >>= λ others. Ok (line ∷ others.0, others.1))
line_from n [] tail line e = absurd (cc)
line_from n (first ∷ rest) tail line e =
    ap (λ (l : List ℕ). (let r : Reading (List (List ℕ)) = cond (ends_listing l) (Ok (l ∷ [], record { taken = n + 1; rest = rest; tail = tail })) (listing_from (n + 1) rest tail >>= λ others. Ok (l ∷ others.0, others.1)) in r)) (same_Some first line e)

line_of : (at : At) (line : List ℕ) → next_line at ≡ Some line → listing_at at ≡ cond (ends_listing line) (Ok (line ∷ [], advanced at)) (listing_at (advanced at) >>= λ others. Ok (line ∷ others.0, others.1))
unfolding listing_at advanced
line_of at line e = line_from at.taken at.rest at.tail line e

module _ (front : List (List ℕ)) (line : List ℕ) (at now : At) (goal : Reading (List (List ℕ))) (moved : now ≡ advanced at) (next : next_line at ≡ Some line) (known : after_front front (listing_at at) ≡ goal) where
  abbrev by : Bool → Reading (List (List ℕ))
  by b = after_front front (cond b (Ok (line ∷ [], advanced at)) (listing_at (advanced at) >>= λ others. Ok (line ∷ others.0, others.1)))

  told : (b : Bool) → ends_listing line ≡ b → goal ≡ by b
  told b e = sym known ∙ (ap (after_front front) (line_of at line next) ∙ ap by e)

  pub listing_pushed : ends_listing line ≡ false → after_front (front ++ line ∷ []) (listing_at now) ≡ goal
  listing_pushed e =
      ap (λ (a : At). after_front (front ++ line ∷ []) (listing_at a)) moved ∙ (pushed_front front line (listing_at (advanced at)) ∙ sym (told false e))

  pub listing_ended : ends_listing line ≡ true → goal ≡ Ok (front ++ line ∷ [], now)
  listing_ended e = told true e ∙ ap (λ (a : At). (let r : Reading (List (List ℕ)) = Ok (front ++ line ∷ [], a) in r)) (sym moved)

-- ---- lines that are copied
taken_from : (n : ℕ) (rest : List (List ℕ)) (tail line : List ℕ) → head_line rest ≡ Some line → rest ≡ line ∷ (advanced_by n rest tail).rest
taken_from n [] tail line e = absurd (cc)
taken_from n (first ∷ rest) tail line e = ap (λ (l : List ℕ). l ∷ rest) (same_Some first line e)

line_taken : (at : At) (line : List ℕ) → next_line at ≡ Some line → at.rest ≡ line ∷ (advanced at).rest
unfolding advanced
line_taken at line e = taken_from at.taken at.rest at.tail line e

pub line_copied : {X : Type 0} (f : X → List ℕ) (old new : List X) (y : X) (line : List ℕ) (at now : At) (goal : List (List ℕ)) → new ≡ old ++ y ∷ [] → f y ≡ line → now ≡ advanced at → next_line at ≡ Some line
    → map f old ++ at.rest ≡ goal → map f new ++ now.rest ≡ goal
line_copied f old new y line at now goal items it moved next known =
    ap (λ ys. map f ys ++ now.rest) items ∙ ap (λ (ls : List (List ℕ)). ls ++ now.rest) (map-append f old (y ∷ []))
    ∙ append_assoc (map f old) (f y ∷ []) now.rest ∙ ap (λ (l : List ℕ). map f old ++ (l ∷ now.rest)) it ∙ ap (λ (a : At). map f old ++ (line ∷ a.rest)) moved
    ∙ ap (λ (ls : List (List ℕ)). map f old ++ ls) (sym (line_taken at line next)) ∙ known

no_line_from : (n : ℕ) (rest : List (List ℕ)) (tail : List ℕ) → head_line rest ≡ None → listing_from n rest tail ≡ Err (n + 1)
no_line_from n [] tail e = refl
no_line_from n (line ∷ rest) tail e = absurd (cc)

pub listing_missing : (front : List (List ℕ)) (at : At) (goal : Reading (List (List ℕ))) → next_line at ≡ None → after_front front (listing_at at) ≡ goal → goal ≡ Err (at.taken + 1)
unfolding listing_at
listing_missing front at goal e known = sym known ∙ ap (after_front front) (no_line_from at.taken at.rest at.tail e)

-- ---- answers
module _ (m : System) where
  abbrev end_word : List ℕ
  end_word = codes "end of proof"

  abbrev one_then : ℕ → Reading Answer → Reading (List Answer)
  one_then n r = r >>= λ first. answers_at m n (Some (question_in first.0)) first.1 >>= λ others. Ok (first.0 ∷ others.0, others.1)

  goes_on : (n : ℕ) (last : Option (ℕ × ℕ)) (at : At) → is_next end_word at ≡ false → answers_at m (suc n) last at ≡ one_then n (answer_at m last at)
  goes_on n last at e = ap (λ (b : Bool). cond b (Ok ([], at)) (one_then n (answer_at m last at))) e

  stops : (n : ℕ) (last : Option (ℕ × ℕ)) (at : At) → is_next end_word at ≡ true → answers_at m n last at ≡ Ok ([], at)
  stops zero last at e = ap (λ (b : Bool). cond b (Ok ([], at)) (fault_at at)) e
  stops (suc n) last at e = ap (λ (b : Bool). cond b (Ok ([], at)) (one_then n (answer_at m last at))) e

  none_left : (last : Option (ℕ × ℕ)) (n : ℕ) (rest : List (List ℕ)) (tail : List ℕ) → length rest ≤ 0 → let at : At = record { taken = n; rest = rest; tail = tail } in ◌≡◌ {A = Reading Answer} (answer_at m last at) (fault_at at)
  unfolding answer_at
  none_left last n [] tail few = refl
  none_left last n (line ∷ rest) tail few = absurd (omega (arith, few))

  pub answers_end : (old : List Answer) (n : ℕ) (last : Option (ℕ × ℕ)) (at : At) (goal : Reading (List Answer)) → is_next end_word at ≡ true → after_front old (answers_at m n last at) ≡ goal → goal ≡ Ok (old, at)
  answers_end old n last at goal e known = sym known ∙ (ap (after_front old) (stops n last at e) ∙ ap (λ (xs : List Answer). Ok (xs, at)) (append-nil old))

  pub answers_pushed : (old new : List Answer) (y : Answer) (n : ℕ) (last : Option (ℕ × ℕ)) (at now : At) (goal : Reading (List Answer)) → is_next end_word at ≡ false
      → new ≡ old ++ y ∷ [] → answer_at m last at ≡ Ok (y, now) → after_front old (answers_at m (suc n) last at) ≡ goal
      → after_front new (answers_at m n (Some (question_in y)) now) ≡ goal
  answers_pushed old new y n last at now goal test items e known =
      ap (λ (xs : List Answer). after_front xs (answers_at m n (Some (question_in y)) now)) items
      ∙ (pushed_front old y (answers_at m n (Some (question_in y)) now)
      ∙ (ap (λ (r : Reading Answer). after_front old (one_then n r)) (sym e) ∙ (ap (after_front old) (sym (goes_on n last at test)) ∙ known)))

  failed : (old : List Answer) (n k : ℕ) (last : Option (ℕ × ℕ)) (at : At) (goal : Reading (List Answer)) → is_next end_word at ≡ false → length at.rest ≤ n
      → answer_at m last at ≡ Err k → after_front old (answers_at m n last at) ≡ goal → goal ≡ Err k
  failed old zero k last at goal test few e known =
      let same : ◌≡◌ {A = Reading Answer} (fault_at at) (Err k) = sym (none_left last at.taken at.rest at.tail few) ∙ e in
      let number : at.taken + 1 ≡ k = cc in
      sym known ∙ (ap (λ (b : Bool). after_front old (cond b (Ok ([], at)) (fault_at at))) test ∙ ap (λ (j : ℕ). (let r : Reading (List Answer) = Err j in r)) number)
  failed old (suc n) k last at goal test few e known = sym known ∙ (ap (after_front old) (goes_on n last at test) ∙ ap (λ (r : Reading Answer). after_front old (one_then n r)) e)

  pub answers_failed : (old : List Answer) (n : ℕ) (last : Option (ℕ × ℕ)) (at : At) (fault : ReportFault) (goal : Reading (List Answer)) → is_next end_word at ≡ false → length at.rest ≤ n
      → ReturnsReading fault (answer_at m last at) → after_front old (answers_at m n last at) ≡ goal → ReturnsReading fault goal
  answers_failed old n last at faults.Memory goal test few e known = tt
  answers_failed old n last at (faults.Grammar k) goal test few e known = failed old n k last at goal test few e known

  -- none so far
  pub answers_begin : (n : ℕ) (at : At) → after_front [] (answers_at m (n - 0) None at) ≡ answers_at m n None at
  answers_begin n at =
      let same : n - 0 ≡ n = omega arith in
      ap (λ (k : ℕ). after_front [] (answers_at m k None at)) same ∙ front_none (answers_at m n None at)

  -- one more
  pub answers_go_on : (old new : List Answer) (y : Answer) (n : ℕ) (last : Option (ℕ × ℕ)) (at now : At) (goal : Reading (List Answer)) → is_next end_word at ≡ false
      → new ≡ old ++ y ∷ [] → length old < n → answer_at m last at ≡ Ok (y, now) → after_front old (answers_at m (n - length old) last at) ≡ goal
      → after_front new (answers_at m (n - length new) (Some (question_in y)) now) ≡ goal
  answers_go_on old new y n last at now goal test items less e known =
      let long : length new ≡ length old + 1 = ap length items ∙ length-append old (y ∷ []) in
      let more : n - length old ≡ suc (n - length new) = omega (arith, long, less) in
      answers_pushed old new y (n - length new) last at now goal test items e (ap (λ (k : ℕ). after_front old (answers_at m k last at)) (sym more) ∙ known)
