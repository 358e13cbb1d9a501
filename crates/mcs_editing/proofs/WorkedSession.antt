-- The worked session, by the definitions.
use Rattle.std.proofs.Common.{◌≡◌, ℕ, List, [], ◌∷◌, ◌++◌, codes, refl, sym, ap, ap₂, ◌∙◌, subst, inl, inr, ◌↔◌, ◌+◌, ◌<◌, append_assoc, arith}
use Rattle.std.specs.Fmt.{decimal}
use Rattle.std.proofs.lemmas.Fmt.{decimal_digit}
use Rattle.mcs_base.specs.Listings.{IsAmong, IsInventory}
use Rattle.mcs_base.proofs.Bags.{inventory_same}
use Rattle.mcs_system.specs.Plain.{Formula, Atom, System}
use Rattle.mcs_work.specs.Tasks.{IsTaskText}
use Rattle.mcs_work.specs.declared.task.Task.TheVariants.{Solve}
use Rattle.mcs_session.specs.Keys.{Key}
use Rattle.mcs_session.specs.Worked.{the_key, with_rule, without_rule}
use Rattle.mcs_report.specs.Sessions.{list_line, answers_line, session_end_line}
use Rattle.mcs_editing.specs.Listed.{IsKeyOfListing, IsKeyOfFirst, IsNewKeyAt, IsKeptKeyAt}
use Rattle.mcs_editing.specs.Texts.{IsAnswersLine, IsSessionText}
use Rattle.mcs_editing.specs.Worked.{SystemsAreListed, LinesAreSpelled, SessionIsPrinted}
use Rattle.mcs_editing.proofs.KeyLemmas.{no_keys, more_keys}
use Rattle.mcs_editing.proofs.WorkedKeys.{worked_keys}

pub systems_listed : SystemsAreListed
systems_listed = record { three = refl; none = refl }

-- with numbers of one digit
digit : ℕ → List ℕ
digit n = (48 + n) ∷ []

list_spelled : (k r : ℕ) → k < 10 → r < 10 → codes "list " ++ (decimal k ++ (codes ": " ++ (decimal r ++ codes " rules\n"))) ≡ codes "list " ++ (digit k ++ (codes ": " ++ (digit r ++ codes " rules\n")))
unfolding digit
list_spelled k r few less = ap₂ (λ (a b : List ℕ). codes "list " ++ (a ++ (codes ": " ++ (b ++ codes " rules\n")))) (decimal_digit k few) (decimal_digit r less)

answers_spelled : (a b : ℕ) → a < 10 → b < 10 → codes "answers: " ++ (decimal a ++ (codes " new, " ++ (decimal b ++ codes " kept\n"))) ≡ codes "answers: " ++ (digit a ++ (codes " new, " ++ (digit b ++ codes " kept\n")))
unfolding digit
answers_spelled a b few less = ap₂ (λ (x y : List ℕ). codes "answers: " ++ (x ++ (codes " new, " ++ (y ++ codes " kept\n")))) (decimal_digit a few) (decimal_digit b less)

end_spelled : (a b : ℕ) → a < 10 → b < 10 → codes "end of session: " ++ (decimal a ++ (codes " lists, " ++ (decimal b ++ codes " answers\n"))) ≡ codes "end of session: " ++ (digit a ++ (codes " lists, " ++ (digit b ++ codes " answers\n")))
unfolding digit
end_spelled a b few less = ap₂ (λ (x y : List ℕ). codes "end of session: " ++ (x ++ (codes " lists, " ++ (y ++ codes " answers\n")))) (decimal_digit a few) (decimal_digit b less)

pub lines_spelled : LinesAreSpelled
unfolding list_line answers_line session_end_line digit
lines_spelled = record { first = list_spelled 1 0 (omega arith) (omega arith); second = list_spelled 2 1 (omega arith) (omega arith); answers = answers_spelled 2 1 (omega arith) (omega arith); ends = end_spelled 3 4 (omega arith) (omega arith) }

-- ---- keys of a listing by a list of them
module _ (systems : List System) (many : ℕ) (m : System) (own old : List Key) (own_are : (k : Key) → IsKeyOfListing m k ↔ IsAmong k own) (old_are : IsInventory (IsKeyOfFirst systems many) old) where
  new_by : (new : List Key) → IsInventory (λ k. IsAmong k own × (¬ IsAmong k old)) new → IsInventory (IsNewKeyAt systems many m) new
  new_by new listed = inventory_same _ _ new (λ k. (
    λ p. record { of_listing = (own_are k).1 p.0; new = λ first. p.1 ((old_are.exactly k).1 first) },
    λ n. ((own_are k).0 n.of_listing, λ known. n.new ((old_are.exactly k).0 known)),
  )) listed

  kept_by : (kept : List Key) → IsInventory (λ k. IsAmong k own × IsAmong k old) kept → IsInventory (IsKeptKeyAt systems many m) kept
  kept_by kept listed = inventory_same _ _ kept (λ k. (
    λ p. record { of_listing = (own_are k).1 p.0; kept = (old_are.exactly k).0 p.1 },
    λ n. ((own_are k).0 n.of_listing, (old_are.exactly k).1 n.kept),
  )) listed

-- ---- four keys: a and b without the rule; c, b and d with it
module _ (a b c d : Key) (ab : ¬ (a ≡ b)) (ca : ¬ (c ≡ a)) (cb : ¬ (c ≡ b)) (cd : ¬ (c ≡ d)) (da : ¬ (d ≡ a)) (db : ¬ (d ≡ b)) where
  abbrev first_ones : List Key
  first_ones = a ∷ b ∷ []

  abbrev second_ones : List Key
  second_ones = c ∷ b ∷ d ∷ []

  abbrev all_ones : List Key
  all_ones = a ∷ b ∷ c ∷ d ∷ []

  all_new : IsInventory (λ k. IsAmong k first_ones × (¬ IsAmong k [])) first_ones
  all_new = record { exactly = λ k. (λ h. (h, λ none. none), λ p. p.0); apart = (λ h. elim h [ inl e ↦ ab e | inr none ↦ none ], (λ none. none, tt)) }

  none_kept : IsInventory (λ k. IsAmong k first_ones × IsAmong k []) []
  none_kept = record { exactly = λ k. (λ none. absurd none, λ p. p.1); apart = tt }

  two_new : IsInventory (λ k. IsAmong k second_ones × (¬ IsAmong k first_ones)) (c ∷ d ∷ [])
  two_new = record {
    exactly = λ k. (
      λ h. elim h [
        | inl e ↦ (inl e, λ old. elim old [ inl f ↦ ca (sym e ∙ f) | inr more ↦ elim more [ inl f ↦ cb (sym e ∙ f) | inr none ↦ none ] ])
        | inr more ↦ elim more [
          | inl e ↦ (inr (inr (inl e)), λ old. elim old [ inl f ↦ da (sym e ∙ f) | inr later ↦ elim later [ inl f ↦ db (sym e ∙ f) | inr none ↦ none ] ])
          | inr none ↦ absurd none
        ]
      ],
      λ p. elim p.0 [ inl e ↦ inl e | inr more ↦ elim more [ inl e ↦ absurd (p.1 (inr (inl e))) | inr later ↦ inr later ] ],
    );
    apart = (λ h. elim h [ inl e ↦ cd e | inr none ↦ none ], (λ none. none, tt));
  }

  one_kept : IsInventory (λ k. IsAmong k second_ones × IsAmong k first_ones) (b ∷ [])
  one_kept = record {
    exactly = λ k. (
      λ h. elim h [ inl e ↦ (inr (inl e), inr (inl e)) | inr none ↦ absurd none ],
      λ p. elim p.1 [
        | inl e ↦ elim p.0 [ inl f ↦ absurd (ca (sym f ∙ e)) | inr more ↦ elim more [ inl f ↦ absurd (ab (sym e ∙ f)) | inr later ↦ elim later [ inl f ↦ absurd (da (sym f ∙ e)) | inr none ↦ absurd none ] ] ]
        | inr later ↦ later
      ],
    );
    apart = (λ none. none, tt);
  }

  none_new : IsInventory (λ k. IsAmong k first_ones × (¬ IsAmong k all_ones)) []
  none_new = record {
    exactly = λ k. (λ none. absurd none, λ p. p.1 (elim p.0 [ inl e ↦ inl e | inr more ↦ elim more [ inl e ↦ inr (inl e) | inr none ↦ absurd none ] ]));
    apart = tt;
  }

  all_kept : IsInventory (λ k. IsAmong k first_ones × IsAmong k all_ones) first_ones
  all_kept = record {
    exactly = λ k. (
      λ h. (h, elim h [ inl e ↦ inl e | inr more ↦ elim more [ inl e ↦ inr (inl e) | inr none ↦ absurd none ] ]),
      λ p. p.0,
    );
    apart = (λ h. elim h [ inl e ↦ ab e | inr none ↦ none ], (λ none. none, tt));
  }

  -- ---- three listings of two systems
  module _ (m n : System) (m_keys : (k : Key) → IsKeyOfListing m k ↔ IsAmong k first_ones) (n_keys : (k : Key) → IsKeyOfListing n k ↔ IsAmong k second_ones) where
    abbrev three : List System
    three = m ∷ n ∷ m ∷ []

    after_one : IsInventory (IsKeyOfFirst three 1) first_ones
    after_one = more_keys three 0 m refl [] first_ones (no_keys three) (new_by three 0 m first_ones [] m_keys (no_keys three) first_ones all_new)

    after_two : IsInventory (IsKeyOfFirst three 2) all_ones
    after_two = more_keys three 1 n refl first_ones (c ∷ d ∷ []) after_one (new_by three 1 n second_ones first_ones n_keys after_one (c ∷ d ∷ []) two_new)

    after_three : IsInventory (IsKeyOfFirst three 3) all_ones
    after_three = more_keys three 2 m refl all_ones [] after_two (new_by three 2 m first_ones all_ones m_keys after_two [] none_new)

    first_answers : IsAnswersLine three 0 m (answers_line 2 0)
    first_answers = record { new = first_ones; new_are = new_by three 0 m first_ones [] m_keys (no_keys three) first_ones all_new; kept = []; kept_are = kept_by three 0 m first_ones [] m_keys (no_keys three) [] none_kept; line_is = refl }

    second_answers : IsAnswersLine three 1 n (answers_line 2 1)
    second_answers = record { new = c ∷ d ∷ []; new_are = new_by three 1 n second_ones first_ones n_keys after_one (c ∷ d ∷ []) two_new; kept = b ∷ []; kept_are = kept_by three 1 n second_ones first_ones n_keys after_one (b ∷ []) one_kept; line_is = refl }

    third_answers : IsAnswersLine three 2 m (answers_line 0 2)
    third_answers = record { new = []; new_are = new_by three 2 m first_ones all_ones m_keys after_two [] none_new; kept = first_ones; kept_are = kept_by three 2 m first_ones all_ones m_keys after_two first_ones all_kept; line_is = refl }

    pub three_text : (t u : List ℕ) → IsTaskText Solve m t → IsTaskText Solve n u
        → IsSessionText three ((([] ++ (list_line m 1 ++ (t ++ answers_line 2 0))) ++ (list_line n 2 ++ (u ++ answers_line 2 1))) ++ (list_line m 3 ++ (t ++ answers_line 0 2)) ++ session_end_line 3 4)
    three_text t u t_is u_is = record {
      before = (([] ++ (list_line m 1 ++ (t ++ answers_line 2 0))) ++ (list_line n 2 ++ (u ++ answers_line 2 1))) ++ (list_line m 3 ++ (t ++ answers_line 0 2));
      listed = (
        ([] ++ (list_line m 1 ++ (t ++ answers_line 2 0))) ++ (list_line n 2 ++ (u ++ answers_line 2 1)),
        list_line m 3 ++ (t ++ answers_line 0 2),
        (
          [] ++ (list_line m 1 ++ (t ++ answers_line 2 0)),
          list_line n 2 ++ (u ++ answers_line 2 1),
          (
            [],
            list_line m 1 ++ (t ++ answers_line 2 0),
            refl,
            record { system = m; is_there = refl; listing = t; whole = t_is; line = answers_line 2 0; answers = first_answers; text_is = refl },
            refl,
          ),
          record { system = n; is_there = refl; listing = u; whole = u_is; line = answers_line 2 1; answers = second_answers; text_is = refl },
          refl,
        ),
        record { system = m; is_there = refl; listing = t; whole = t_is; line = answers_line 0 2; answers = third_answers; text_is = refl },
        refl,
      );
      line = session_end_line 3 4;
      ends = record { keys = all_ones; keys_are = after_three; line_is = refl };
      text_is = refl;
    }

-- ---- the worked one
other_beliefs : (i : ℕ) (f : Formula) (j : ℕ) → ¬ (the_key i [] (f ∷ []) ≡ the_key j [] [])
other_beliefs i f j same = let no : f ∷ [] ≡ [] = ap (λ (k : Key). k.beliefs) same in absurd (cc)

other_heads : (i : ℕ) (f : Formula) (j : ℕ) → ¬ (the_key i (f ∷ []) [] ≡ the_key j [] [])
other_heads i f j same = let no : f ∷ [] ≡ [] = ap (λ (k : Key). k.heads) same in absurd (cc)

other_contexts : ¬ (the_key 0 [] [] ≡ the_key 1 [] [])
other_contexts same = absurd (let no : 0 ≡ 1 = ap (λ (k : Key). k.context) same in omega (arith, no))

other_kinds : ¬ (the_key 0 [] (Atom (codes "a") ∷ []) ≡ the_key 1 (Atom (codes "p") ∷ []) [])
other_kinds same = let no : [] ≡ Atom (codes "p") ∷ [] = ap (λ (k : Key). k.heads) same in absurd (cc)

joined : (t u a b c d e f g : List ℕ) → (([] ++ (a ++ (t ++ b))) ++ (c ++ (u ++ d))) ++ (e ++ (t ++ f)) ++ g ≡ a ++ (t ++ (b ++ (c ++ (u ++ (d ++ (e ++ (t ++ (f ++ g))))))))
joined t u a b c d e f g = simp append_assoc

in_lines : (t u a b c d e f g a' b' c' d' e' f' g' : List ℕ) → a ≡ a' → b ≡ b' → c ≡ c' → d ≡ d' → e ≡ e' → f ≡ f' → g ≡ g'
    → a ++ (t ++ (b ++ (c ++ (u ++ (d ++ (e ++ (t ++ (f ++ g)))))))) ≡ a' ++ (t ++ (b' ++ (c' ++ (u ++ (d' ++ (e' ++ (t ++ (f' ++ g'))))))))
in_lines t u a b c d e f g a' b' c' d' e' f' g' ea eb ec ed ee ef eg =
    ap₂ (λ (x y : List ℕ). x ++ (t ++ y)) ea (ap₂ (λ (x y : List ℕ). x ++ y) eb (ap₂ (λ (x y : List ℕ). x ++ (u ++ y)) ec (ap₂ (λ (x y : List ℕ). x ++ y) ed (ap₂ (λ (x y : List ℕ). x ++ (t ++ y)) ee (ap₂ (λ (x y : List ℕ). x ++ y) ef eg)))))

pub session_printed : SessionIsPrinted
unfolding list_line answers_line session_end_line digit
session_printed t u t_is u_is =
    subst (λ (x : List ℕ). IsSessionText (without_rule ∷ with_rule ∷ without_rule ∷ []) x)
    (joined t u (list_line without_rule 1) (answers_line 2 0) (list_line with_rule 2) (answers_line 2 1) (list_line without_rule 3) (answers_line 0 2) (session_end_line 3 4)
    ∙ in_lines t u _ _ _ _ _ _ _ (codes "list 1: 0 rules\n") (codes "answers: 2 new, 0 kept\n") (codes "list 2: 1 rules\n") (codes "answers: 2 new, 1 kept\n") (codes "list 3: 0 rules\n") (codes "answers: 0 new, 2 kept\n") (codes "end of session: 3 lists, 4 answers\n")
    (list_spelled 1 0 (omega arith) (omega arith)) (answers_spelled 2 0 (omega arith) (omega arith)) (list_spelled 2 1 (omega arith) (omega arith)) (answers_spelled 2 1 (omega arith) (omega arith))
    (list_spelled 3 0 (omega arith) (omega arith)) (answers_spelled 0 2 (omega arith) (omega arith)) (end_spelled 3 4 (omega arith) (omega arith)))
    (three_text (the_key 0 [] []) (the_key 1 [] []) (the_key 0 [] (Atom (codes "a") ∷ [])) (the_key 1 (Atom (codes "p") ∷ []) [])
    other_contexts (other_beliefs 0 (Atom (codes "a")) 0) (other_beliefs 0 (Atom (codes "a")) 1) other_kinds (other_heads 1 (Atom (codes "p")) 0) (other_heads 1 (Atom (codes "p")) 1)
    without_rule with_rule worked_keys.without_it worked_keys.with_it t u t_is u_is)
