-- Words ask for one job at most, and what is given tells which.
use Rattle.std.proofs.Common.{◌≤◌, Option, option_map, subst, ◌≡◌, ℕ, nat_eq, Bool, cond, List, [], ◌∷◌, Some, None, Ok, Err, Result, MatchResult, get_or, slice_get, length, arith, codes, refl, sym, ap, ◌∙◌}
use Rattle.std.specs.Str.{bytes_eq}
use Rattle.mcs_base.specs.Numbers.{value_of_digits}
use Rattle.mcs_words.specs.Commands.{Word, Command, Request, equilibria, solve, check, make, grounded, cheapest, session, default_number, IsChosen, HasSettings, AsksFor, IsJobOf}
use Rattle.mcs_words.specs.declared.setting.Setting.{Setting}
use Rattle.mcs_words.specs.declared.setting.Setting.TheVariants.{Budget, Workers}
use Rattle.mcs_words.specs.declared.task.Task.{Task}
use Rattle.mcs_words.specs.declared.task.Task.TheVariants as task
use Rattle.mcs_words.specs.Reading.{read, request_of, task_name, tally_of, IsWholeTally, IsWholeReading}
use Rattle.mcs_words.specs.declared.tally.Tally.{Tally}
use Rattle.mcs_words.specs.declared.job.Job.{Job}
use Rattle.mcs_words.specs.declared.job.WordsFault.{WordsFault}
use Rattle.mcs_words.specs.declared.job.WordsFault.TheVariants.{Usage}
use Rattle.mcs_words.specs.declared.reading.Place.TheVariants.{Open}
use Rattle.mcs_words.proofs.ReadingLemmas.{reads_read, job_read, job_asked}

-- the number that an option has with these values
abbrev chosen_of : Setting → List Word → ℕ
chosen_of s [] = default_number s
chosen_of s (value ∷ values) = value_of_digits value

chosen_is : (s : Setting) (values : List Word) (n : ℕ) → IsChosen s values n → n ≡ chosen_of s values
chosen_is s [] n h = h
chosen_is s (value ∷ []) n h = sym h.2
chosen_is s (value ∷ (second ∷ values)) n h = absurd h

-- the job that a word names; any for another word
abbrev task_at : Word → Task
task_at word = cond (bytes_eq word (codes "equilibria")) task.Equilibria
    (cond (bytes_eq word (codes "solve")) task.Solve (cond (bytes_eq word (codes "check")) task.Check
    (cond (bytes_eq word (codes "make")) task.Make (cond (bytes_eq word (codes "grounded")) task.Grounded
    (cond (bytes_eq word (codes "cheapest")) task.Cheapest task.Session)))))

task_named : (t : Task) → task_at (task_name t) ≡ t
task_named task.Equilibria = refl
task_named task.Solve = refl
task_named task.Check = refl
task_named task.Make = refl
task_named task.Grounded = refl
task_named task.Cheapest = refl
task_named task.Session = refl

abbrev word_of : Option Word → Word
word_of None = []
word_of (Some word) = word

abbrev request_at : Task → Word → Option Word → ℕ → ℕ → Bool → Request
request_at task.Equilibria file report budget workers proof = equilibria file budget workers
request_at task.Solve file report budget workers proof = solve file budget workers proof
request_at task.Check file report budget workers proof = check file (word_of report)
request_at task.Make file report budget workers proof = make (value_of_digits file) budget workers
request_at task.Grounded file report budget workers proof = grounded file budget workers
request_at task.Cheapest file report budget workers proof = cheapest file report budget workers
request_at task.Session file report budget workers proof = session file (word_of report) budget

-- what a command asks for, where it asks for anything
abbrev request_by : List Word → ℕ → ℕ → Bool → Request
request_by words = request_at (task_at (get_or words 0 [])) (get_or words 1 []) (slice_get words 2)

settings_are : (c : Command) (budget workers : ℕ) (proof : Bool) → HasSettings c budget workers proof
    → request_by c.plain (chosen_of Budget c.budgets) (chosen_of Workers c.workers) (nat_eq c.proofs 1) ≡ request_by c.plain budget workers proof
settings_are c budget workers proof h = rw (chosen_is Budget c.budgets budget h.budget_is, chosen_is Workers c.workers workers h.workers_are, h.proof_is.1) refl

asks_for : (c : Command) (request : Request) → AsksFor c request → request_by c.plain (chosen_of Budget c.budgets) (chosen_of Workers c.workers) (nat_eq c.proofs 1) ≡ request
asks_for c (equilibria file budget workers) h = settings_are c budget workers h.0 h.3 ∙ ap (λ (words : List Word). request_by words budget workers h.0) h.1
asks_for c (solve file budget workers proof) h = settings_are c budget workers proof h.2 ∙ ap (λ (words : List Word). request_by words budget workers proof) h.0
asks_for c (check file report) h = settings_are c h.0 h.1 h.2 h.6 ∙ ap (λ (words : List Word). request_by words h.0 h.1 h.2) h.3
asks_for c (make number budget workers) h = settings_are c budget workers h.0 h.4
    ∙ (ap (λ (words : List Word). request_by words budget workers h.0) h.2 ∙ ap (λ n. make n budget workers) h.3.2)
asks_for c (grounded file budget workers) h = settings_are c budget workers h.0 h.3 ∙ ap (λ (words : List Word). request_by words budget workers h.0) h.1
asks_for c (cheapest file None budget workers) h = settings_are c budget workers h.0 h.4 ∙ ap (λ (words : List Word). request_by words budget workers h.0) h.1
asks_for c (cheapest file (Some report) budget workers) h = settings_are c budget workers h.0 h.4 ∙ ap (λ (words : List Word). request_by words budget workers h.0) h.1
asks_for c (session file script budget) h = settings_are c budget h.0 h.1 h.5 ∙ ap (λ (words : List Word). request_by words budget h.0 h.1) h.2

pub asks_once : (c : Command) (a b : Request) → AsksFor c a → AsksFor c b → a ≡ b
asks_once c a b h k = sym (asks_for c a h) ∙ asks_for c b k

pub asked_once : (words : List Word) (a b : Request) → IsJobOf words a → IsJobOf words b → a ≡ b
asked_once words a b h k = let e = reads_read h.1 in asks_once h.0 a b h.2 (job_asked words h.0 b e k)

-- what is asked for by what the words give, the words ask for
pub told : (words : List Word) (c : Command) (r : Result Job WordsFault) → read words Open ≡ Some c
    → MatchResult r (λ job. AsksFor c (request_of job)) (λ fault. fault ≡ Usage → (request : Request) → ¬ AsksFor c request)
    → MatchResult r (λ job. IsJobOf words (request_of job)) (λ fault. fault ≡ Usage → (request : Request) → ¬ IsJobOf words request)
told words c (Ok job) e h = job_read words c (request_of job) e h
told words c (Err fault) e h = λ usage request job. h usage request (job_asked words c request e job)

one_value : (s : Setting) (values : List Word) (n : ℕ) → IsChosen s values n → length values ≤ 1
one_value s [] n h = omega arith
one_value s (value ∷ []) n h = omega arith
one_value s (value ∷ (second ∷ values)) n h = absurd h

settings_whole : (c : Command) (budget workers : ℕ) (proof : Bool) → HasSettings c budget workers proof → 2 ≤ length c.plain → length c.plain ≤ 3 → IsWholeTally (tally_of c)
settings_whole c budget workers proof h least most = record {
  least = least;
  most = most;
  budgets = one_value Budget c.budgets budget h.budget_is;
  workers = one_value Workers c.workers workers h.workers_are;
  proofs = h.proof_is.0;
}

asks_whole : (c : Command) (request : Request) → AsksFor c request → IsWholeTally (tally_of c)
asks_whole c (equilibria file budget workers) h = let words = ap length h.1 in settings_whole c budget workers h.0 h.3 (omega (arith, words)) (omega (arith, words))
asks_whole c (solve file budget workers proof) h = let words = ap length h.0 in settings_whole c budget workers proof h.2 (omega (arith, words)) (omega (arith, words))
asks_whole c (check file report) h = let words = ap length h.3 in settings_whole c h.0 h.1 h.2 h.6 (omega (arith, words)) (omega (arith, words))
asks_whole c (make number budget workers) h = let words = ap length h.2 in settings_whole c budget workers h.0 h.4 (omega (arith, words)) (omega (arith, words))
asks_whole c (grounded file budget workers) h = let words = ap length h.1 in settings_whole c budget workers h.0 h.3 (omega (arith, words)) (omega (arith, words))
asks_whole c (cheapest file None budget workers) h = let words = ap length h.1 in settings_whole c budget workers h.0 h.4 (omega (arith, words)) (omega (arith, words))
asks_whole c (cheapest file (Some report) budget workers) h = let words = ap length h.1 in settings_whole c budget workers h.0 h.4 (omega (arith, words)) (omega (arith, words))
asks_whole c (session file script budget) h = let words = ap length h.2 in settings_whole c budget h.0 h.1 h.5 (omega (arith, words)) (omega (arith, words))

pub not_whole : (words : List Word) (t : Tally) (request : Request) → Some t ≡ option_map tally_of (read words Open) → ¬ IsWholeTally t → ¬ IsJobOf words request
not_whole words t request e never job =
    let same : Some t ≡ Some (tally_of job.0) = e ∙ ap (option_map tally_of) (reads_read job.1) in
    let t_is : t ≡ tally_of job.0 = cc in
    never (subst IsWholeTally (sym t_is) (asks_whole job.0 request job.2))

pub none_read : (words : List Word) (request : Request) → None ≡ option_map tally_of (read words Open) → ¬ IsJobOf words request
none_read words request e job = let never : None ≡ Some (tally_of job.0) = e ∙ ap (option_map tally_of) (reads_read job.1) in cc

pub whole_reading : (words : List Word) (t : Tally) → Some t ≡ option_map tally_of (read words Open) → IsWholeTally t → IsWholeReading words
whole_reading words t e whole = at (read words Open) refl e
  where
    at : (o : Option Command) → read words Open ≡ o → Some t ≡ option_map tally_of o → IsWholeReading words
    at None is e' = let never : Some t ≡ None = e' in cc
    at (Some c) is e' = let same : Some t ≡ Some (tally_of c) = e' in let t_is : t ≡ tally_of c = cc in (c, is, subst IsWholeTally t_is whole)

-- ---- the job of what is given

-- a job that is asked for is named by the first plain word
pub named_first : (c : Command) (first : Word) (words : List Word) (request : Request) → c.plain ≡ first ∷ words → AsksFor c request → (t : Task) × (first ≡ task_name t)
named_first c first words (equilibria file budget workers) e h = (task.Equilibria, cc (e, h.1))
named_first c first words (solve file budget workers proof) e h = (task.Solve, cc (e, h.0))
named_first c first words (check file report) e h = (task.Check, cc (e, h.3))
named_first c first words (make number budget workers) e h = (task.Make, cc (e, h.2))
named_first c first words (grounded file budget workers) e h = (task.Grounded, cc (e, h.1))
named_first c first words (cheapest file report budget workers) e h = (task.Cheapest, cc (e, h.1))
named_first c first words (session file script budget) e h = (task.Session, cc (e, h.2))
