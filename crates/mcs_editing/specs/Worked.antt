-- A worked session: a rule is added and dropped, and the system is listed before, between and after.
use Rattle.std.specs.Prelude.{◌≡◌, ◌↔◌, ℕ, List, [], ◌∷◌, ◌++◌, codes}
use Rattle.mcs_base.specs.Listings.{IsAmong}
use Rattle.mcs_system.specs.Plain.{Atom}
use Rattle.mcs_work.specs.Tasks.{IsTaskText}
use Rattle.mcs_work.specs.declared.task.Task.TheVariants.{Solve}
use Rattle.mcs_session.specs.Keys.{Key}
use Rattle.mcs_session.specs.Worked.{one_rule, the_key, with_rule, without_rule}
use Rattle.mcs_script.specs.Edits.{Edit, Added, Dropped, Listed}
use Rattle.mcs_report.specs.Sessions.{list_line, answers_line, session_end_line}
use Rattle.mcs_editing.specs.Listed.{listed_systems, IsKeyOfListing}
use Rattle.mcs_editing.specs.Texts.{IsSessionText}

-- list. add bridge r1: c2:p if c1:a. list. drop r1. list.
abbrev pub three_listings : List Edit
three_listings = Listed ∷ Added one_rule ∷ Listed ∷ Dropped (codes "r1") ∷ Listed ∷ []

pub record SystemsAreListed : Type 0 where
  pub three : listed_systems without_rule three_listings ≡ without_rule ∷ with_rule ∷ without_rule ∷ []
  pub none : listed_systems without_rule (Added one_rule ∷ []) ≡ []

pub record LinesAreSpelled : Type 0 where
  pub first : list_line without_rule 1 ≡ codes "list 1: 0 rules\n"
  pub second : list_line with_rule 2 ≡ codes "list 2: 1 rules\n"
  pub answers : answers_line 2 1 ≡ codes "answers: 2 new, 1 kept\n"
  pub ends : session_end_line 3 4 ≡ codes "end of session: 3 lists, 4 answers\n"

-- ---- the keys
-- Without the rule the system is consistent, so only level 0 is evaluated: each context is asked once, with no heads and no beliefs.
abbrev pub keys_without : List Key
keys_without = the_key 0 [] [] ∷ the_key 1 [] [] ∷ []

-- With the rule it is not, so level 1 is evaluated too: c1 has a belief, and c2 is asked without and with the head.
abbrev pub keys_with : List Key
keys_with = the_key 0 [] (Atom (codes "a") ∷ []) ∷ the_key 1 [] [] ∷ the_key 1 (Atom (codes "p") ∷ []) [] ∷ []

-- these are the keys of the two listings
pub record AreWorkedKeys : Type 0 where
  pub without_it : (k : Key) → IsKeyOfListing without_rule k ↔ IsAmong k keys_without
  pub with_it : (k : Key) → IsKeyOfListing with_rule k ↔ IsAmong k keys_with

-- ---- the text, around the listings of the two systems
abbrev pub worked_text : List ℕ → List ℕ → List ℕ
worked_text listing_without listing_with =
    codes "list 1: 0 rules\n" ++ (listing_without ++ (codes "answers: 2 new, 0 kept\n"
    ++ (codes "list 2: 1 rules\n" ++ (listing_with ++ (codes "answers: 2 new, 1 kept\n"
    ++ (codes "list 3: 0 rules\n" ++ (listing_without ++ (codes "answers: 0 new, 2 kept\n"
    ++ codes "end of session: 3 lists, 4 answers\n"))))))))

abbrev pub SessionIsPrinted : Type 0
SessionIsPrinted = (listing_without listing_with : List ℕ) → IsTaskText Solve without_rule listing_without → IsTaskText Solve with_rule listing_with
    → IsSessionText (listed_systems without_rule three_listings) (worked_text listing_without listing_with)
