-- What is written goes the course of its entries: after it stands what its tokens are there for.
use Rattle.std.proofs.Common.{◌≡◌, ℕ, ◌+◌, ◌-◌, Bool, true, false, cond, codes, Option, Some, None, List, [], ◌∷◌, ◌++◌, refl, sym, ap, ◌∙◌, arith, append_assoc, append-nil}
use Rattle.std.specs.List.{flat_map, AllByRecursion}
use Rattle.std.specs.Str.{bytes_eq}
use Rattle.mcs_base.specs.Numbers.{value_of_digits}
use Rattle.mcs_system.specs.Plain.{Name, Connective, Conjunction, Disjunction, Implication, Equivalence}
use Rattle.mcs_system.specs.Plain as plain
use Rattle.mcs_grammar.specs.Written.{Written, Prefix, True', False', Named, Prefixed, Grouped, Joins, WrittenPlace, WrittenRead, WrittenMarks, WrittenBridge}
use Rattle.mcs_grammar.specs.Entries.{Token, joint_sign, Use, BeginsBridge, NamesBridge, Weighs, NamesTarget, NamesSource, BeginsBelief, EndsRead, IsNumber, Entry, entry, with_first, with_last, size_of, formula_entries, whole_entries, formula_in, place_entries, optional, read_entries, further_read, reads_entries, weight_entries, mark_entries, bridge_entries}
use Rattle.mcs_productions.specs.declared.class.Class.{Class}
use Rattle.mcs_productions.specs.declared.class.Class.TheVariants as class
use Rattle.mcs_productions.specs.declared.production.Action.{Action}
use Rattle.mcs_productions.specs.declared.production.Action.TheVariants as action
use Rattle.mcs_account.specs.Mark.{Seen, Said}
use Rattle.mcs_account.specs.Marks.{Marked, joint_class, joint_action, formula_marks, belief_marks, denial_marks, read_marks, further_marks, reads_marks, tail_marks, word_marks, weight_marks, own_marks, bridge_marks}
use Rattle.mcs_account.specs.Reading.{HasSome}
use Rattle.mcs_account.specs.Account.{Place, Course, course_step, followed}
use Rattle.mcs_account.proofs.EntryLists.{formula-some}
pub use Rattle.mcs_account.proofs.Signs.{course_at}
use Rattle.mcs_account.proofs.Signs.{after_sign, prefix-steps, prefix-tells, joint-steps, joint-tells}

-- ---- lists
pub all-of : {W : Type 0} (ws : List W) → AllByRecursion (λ (w : W). Unit {0}) ws
all-of [] = tt
all-of (w ∷ ws) = (tt, all-of ws)

pub first-append : (us : List Use) (xs ys : List Entry) → HasSome xs → with_first us (xs ++ ys) ≡ with_first us xs ++ ys
first-append us [] ys h = absurd h
first-append us (x ∷ xs) ys h = refl

pub first-none : (xs : List Entry) → with_first [] xs ≡ xs
first-none [] = refl
first-none (x ∷ xs) = refl

some-first : (us : List Use) (xs : List Entry) → HasSome xs → HasSome (with_first us xs)
some-first us [] h = absurd h
some-first us (x ∷ xs) h = tt

pub last-append : (us : List Use) (xs ys : List Entry) → HasSome ys → with_last us (xs ++ ys) ≡ xs ++ with_last us ys
last-append us [] ys h = refl
last-append us (x ∷ xs) [] h = absurd h
last-append us (x ∷ []) (y ∷ ys) h = refl
last-append us (x ∷ z ∷ xs) (y ∷ ys) h = ap (λ (l : List Entry). x ∷ l) (last-append us (z ∷ xs) (y ∷ ys) h)

-- ---- one part after another
pub followed-append : (s : Course) (ms ns : Marked) → followed s (ms ++ ns) ≡ followed (followed s ms) ns
followed-append s [] ns = refl
followed-append s (m ∷ ms) ns = followed-append (course_step s m) ms ns

pub zero-add : (n : ℕ) → 0 + n ≡ n
zero-add n = omega arith

-- ---- formulas
abbrev pub counting : Place → ℕ → Place
counting p k = record p { counted = k; begins = [] }

abbrev formula_part : Place → Written → List Entry
formula_part p f = with_first p.begins (formula_entries p.context p.counted p.opened f)

-- after the formula
abbrev pub after_formula : Course → Written → Course
after_formula s f = course_at (counting s.place (s.place.counted + size_of f)) (formula_in f ∷ s.operands) (s.entries ++ formula_part s.place f)

abbrev Follows : Written → Type 0
Follows f = (s : Course) → followed s (formula_marks f) ≡ after_formula s f

same-course : (p : Place) (fs : List plain.Formula) (j k : ℕ) (es fs' : List Entry) → j ≡ k → es ≡ fs' → course_at (counting p j) fs es ≡ course_at (counting p k) fs fs'
same-course p fs j k es es' e h = ap (λ (n : ℕ). course_at (counting p n) fs es) e ∙ ap (course_at (counting p k) fs) h

prefix-follows : (p : Prefix) (f : Written) → Follows f → Follows (Prefixed p f)
prefix-follows p f ih s = let e : s.place.counted + 1 + size_of f ≡ s.place.counted + (size_of f + 1) = omega arith in
    simp (prefix-steps, followed-append, ih, prefix-tells, first-none, append_assoc, e)

grouped-follows : (f : Written) → Follows f → Follows (Grouped f)
grouped-follows f ih s = let e : s.place.opened + 1 - 1 ≡ s.place.opened = omega arith in simp (followed-append, ih, first-none, append_assoc, e)

-- two formulas with a sign between them
joins-follow : (j : Connective) (f g : Written) → Follows f → Follows g → Follows (Joins j f g)
joins-follow j f g hf hg s =
    let c : Class = joint_class j in
    let sign : Token = joint_sign j in
    let a : Action = joint_action j in
    let p : Place = s.place in
    let n : ℕ = p.counted in
    let one : Course = after_formula s f in
    let two : Course = after_sign one sign in
    let e : Entry = entry sign (IsNumber (n + size_of f + 1) ∷ []) in
    let es : List Entry = formula_entries p.context n p.opened f in
    let ds : List Entry = formula_entries p.context (n + size_of f + 1) p.opened g in
    let back : Marked = formula_marks g ++ Said a ∷ [] in
    followed-append s (formula_marks f) (Seen c sign ∷ back)
    ∙ ap (λ (r : Course). followed r (Seen c sign ∷ back)) (hf s)
    ∙ ap (λ (r : Course). followed r back) (joint-steps j one)
    ∙ followed-append two (formula_marks g) (Said a ∷ [])
    ∙ ap (λ (r : Course). followed r (Said a ∷ [])) (hg two)
    ∙ joint-tells j (counting p (n + size_of f + 1 + size_of g)) (formula_in f) (formula_in g) s.operands _
    ∙ same-course p (plain.Joined j (formula_in f) (formula_in g) ∷ s.operands) (n + size_of f + 1 + size_of g) (n + (size_of f + size_of g + 1)) (((s.entries ++ with_first p.begins es) ++ e ∷ []) ++ with_first [] ds) (s.entries ++ with_first p.begins (es ++ e ∷ ds)) (omega arith)
    (ap (λ (l : List Entry). ((s.entries ++ with_first p.begins es) ++ e ∷ []) ++ l) (first-none ds) ∙ append_assoc (s.entries ++ with_first p.begins es) (e ∷ []) ds ∙ append_assoc s.entries (with_first p.begins es) (e ∷ ds)
    ∙ ap (λ (l : List Entry). s.entries ++ l) (sym (first-append p.begins es (e ∷ ds) (formula-some p.context n p.opened f))))

pub formula-follows : (f : Written) → Follows f
formula-follows True' s = refl
formula-follows False' s = refl
formula-follows (Named n) s = refl
formula-follows (Prefixed p f) s = prefix-follows p f (formula-follows f) s
formula-follows (Grouped f) s = grouped-follows f (formula-follows f) s
formula-follows (Joins j f g) s = joins-follow j f g (formula-follows f) (formula-follows g) s

-- ---- bridge rules
-- where no parenthesis is open and nothing begins
abbrev pub free_place : (context target : Name) → ℕ → Place
free_place c t n = record { context = c; target = t; counted = n; opened = 0; begins = [] }

source_entries : Name → Name → Written → List Entry
source_entries t c f = with_last (EndsRead t c (formula_in f) ∷ []) (place_entries (NamesSource c) (record { context = c; belief = f }))

-- from the name of the context on
source-follows : (c d t : Name) (n : ℕ) (fs : List plain.Formula) (es : List Entry) (f : Written)
    → followed (course_at (free_place d t n) fs es) (Seen class.NamesSource c ∷ (belief_marks f ++ Said action.EndsRead ∷ [])) ≡ course_at (free_place c t (size_of f)) fs (es ++ source_entries t c f)
unfolding source_entries
source-follows c d t n fs es f =
    let us : List Use = EndsRead t c (formula_in f) ∷ [] in
    let ws : List Entry = with_first (BeginsBelief c ∷ []) (whole_entries c f) in
    let some : HasSome ws = some-first (BeginsBelief c ∷ []) (whole_entries c f) (formula-some c 0 0 f) in
    let long = last-append us (es ++ entry c (NamesSource c ∷ []) ∷ entry (codes ":") [] ∷ []) ws some in
    let short = last-append us (entry c (NamesSource c ∷ []) ∷ entry (codes ":") [] ∷ []) ws some in
    simp (followed-append, formula-follows, zero-add, append_assoc, simp append_assoc at long, short)

read-follows : (d t : Name) (n : ℕ) (fs : List plain.Formula) (es : List Entry) (r : WrittenRead)
    → followed (course_at (free_place d t n) fs es) (read_marks r) ≡ course_at (free_place r.place.context t (size_of r.place.belief)) fs (es ++ read_entries t r)
unfolding source_entries
read-follows d t n fs es r = at r.denied
  where
    at : (b : Bool) → followed (course_at (free_place d t n) fs es) (denial_marks b ++ Seen class.NamesSource r.place.context ∷ (belief_marks r.place.belief ++ Said action.EndsRead ∷ []))
        ≡ course_at (free_place r.place.context t (size_of r.place.belief)) fs (es ++ (optional b (codes "not") ++ with_last (EndsRead t r.place.context (formula_in r.place.belief) ∷ []) (place_entries (NamesSource r.place.context) r.place)))
    at true = source-follows r.place.context d t n fs (es ++ entry (codes "not") [] ∷ []) r.place.belief ∙ ap (course_at (free_place r.place.context t (size_of r.place.belief)) fs) (append_assoc es (entry (codes "not") [] ∷ []) (source_entries t r.place.context r.place.belief))
    at false = source-follows r.place.context d t n fs es r.place.belief

-- the place after reads is one within the rule
pub record FollowsReads (t : Name) (fs : List plain.Formula) (es : List Entry) (s : Course) : Type 0 where
  pub context : Name
  pub counted : ℕ
  pub course : s ≡ course_at (free_place context t counted) fs es

further-follow : (d t : Name) (n : ℕ) (fs : List plain.Formula) (es : List Entry) (rs : List WrittenRead) → FollowsReads t fs (es ++ flat_map (further_read t) rs) (followed (course_at (free_place d t n) fs es) (flat_map further_marks rs))
further-follow d t n fs es [] = record { context = d; counted = n; course = ap (course_at (free_place d t n) fs) (sym (append-nil es)) }
further-follow d t n fs es (r ∷ rs) =
    let e : Entry = entry (codes ",") [] in
    let one : Course = course_at (free_place d t n) fs (es ++ e ∷ []) in
    let more = further-follow r.place.context t (size_of r.place.belief) fs ((es ++ e ∷ []) ++ read_entries t r) rs in
    record {
      context = more.context;
      counted = more.counted;
      course = followed-append one (read_marks r) (flat_map further_marks rs) ∙ ap (λ (s : Course). followed s (flat_map further_marks rs)) (read-follows d t n fs (es ++ e ∷ []) r) ∙ more.course
          ∙ ap (course_at (free_place more.context t more.counted) fs) (append_assoc (es ++ e ∷ []) (read_entries t r) (flat_map (further_read t) rs) ∙ append_assoc es (e ∷ []) (read_entries t r ++ flat_map (further_read t) rs));
    }

reads-follow : (d t : Name) (n : ℕ) (fs : List plain.Formula) (es : List Entry) (rs : List WrittenRead) → FollowsReads t fs (es ++ reads_entries t rs) (followed (course_at (free_place d t n) fs es) (reads_marks rs))
reads-follow d t n fs es [] = record { context = d; counted = n; course = ap (course_at (free_place d t n) fs) (sym (append-nil es)) }
reads-follow d t n fs es (r ∷ rs) =
    let e : Entry = entry (codes "if") [] in
    let one : Course = course_at (free_place d t n) fs (es ++ e ∷ []) in
    let more = further-follow r.place.context t (size_of r.place.belief) fs ((es ++ e ∷ []) ++ read_entries t r) rs in
    record {
      context = more.context;
      counted = more.counted;
      course = followed-append one (read_marks r) (flat_map further_marks rs) ∙ ap (λ (s : Course). followed s (flat_map further_marks rs)) (read-follows d t n fs (es ++ e ∷ []) r) ∙ more.course
          ∙ ap (course_at (free_place more.context t more.counted) fs) (append_assoc (es ++ e ∷ []) (read_entries t r) (flat_map (further_read t) rs) ∙ append_assoc es (e ∷ []) (read_entries t r ++ flat_map (further_read t) rs));
    }

-- after what the rule says of itself
tail_entries : WrittenPlace → List WrittenRead → List Entry
tail_entries head reads = entry (codes ":") [] ∷ (place_entries (NamesTarget head.context) head ++ (reads_entries head.context reads ++ entry (codes ".") [] ∷ []))

tail-follows : (d t : Name) (n : ℕ) (es : List Entry) (head : WrittenPlace) (reads : List WrittenRead) → FollowsReads head.context [] (es ++ tail_entries head reads) (followed (course_at (free_place d t n) [] es) (tail_marks head reads))
unfolding tail_entries
tail-follows d t n es head reads =
    let c : Name = head.context in
    let f : Written = head.belief in
    let more = reads-follow c c (size_of f) (formula_in f ∷ []) (es ++ entry (codes ":") [] ∷ entry c (NamesTarget c ∷ []) ∷ entry (codes ":") [] ∷ with_first (BeginsBelief c ∷ []) (whole_entries c f)) reads in
    record { context = more.context; counted = more.counted; course = simp (followed-append, formula-follows, zero-add, append_assoc, simp append_assoc at more.course) }

-- ---- what a rule says of itself
module _ (d t : Name) (n : ℕ) where
  abbrev in_rule : List Entry → Course
  in_rule es = course_at (free_place d t n) [] es

  word-follows : (c : Class) (word : Token) → ((es : List Entry) → course_step (in_rule es) (Seen c word) ≡ in_rule (es ++ entry word [] ∷ [])) → (es : List Entry) (b : Bool) (ms : Marked)
      → followed (in_rule es) (word_marks c word b ++ ms) ≡ followed (in_rule (es ++ optional b word)) ms
  word-follows c word steps es true ms = ap (λ (s : Course). followed s ms) (steps es)
  word-follows c word steps es false ms = ap (λ (l : List Entry). followed (in_rule l) ms) (sym (append-nil es))

  weight-follows : (es : List Entry) (w : Option Token) (ms : Marked) → followed (in_rule es) (weight_marks w ++ ms) ≡ followed (in_rule (es ++ weight_entries w)) ms
  weight-follows es None ms = ap (λ (l : List Entry). followed (in_rule l) ms) (sym (append-nil es))
  weight-follows es (Some digits) ms =
      ap (λ (s : Course). followed s ms) (at (bytes_eq digits (codes "2")))
      ∙ ap (λ (l : List Entry). followed (in_rule l) ms) (append_assoc es (entry (codes "weight") [] ∷ []) (entry digits (Weighs (value_of_digits digits) ∷ []) ∷ []))
    where
      at : (b : Bool) → course_step (in_rule (es ++ entry (codes "weight") [] ∷ [])) (Seen (cond b class.WeighsTwo class.Weighs) digits) ≡ in_rule ((es ++ entry (codes "weight") [] ∷ []) ++ entry digits (Weighs (value_of_digits digits) ∷ []) ∷ [])
      at true = refl
      at false = refl

  own-follows : (es : List Entry) (m : WrittenMarks) (ms : Marked) → followed (in_rule es) (own_marks m ms) ≡ followed (in_rule (es ++ mark_entries m)) ms
  own-follows es m ms =
      let ks : List Entry = optional m.keep (codes "keep") in
      let cs : List Entry = optional m.closed (codes "closed") in
      let ws : List Entry = weight_entries m.weight in
      word-follows class.Keeps (codes "keep") (λ l. refl) es m.keep (word_marks class.Closes (codes "closed") m.closed ++ (weight_marks m.weight ++ ms))
      ∙ word-follows class.Closes (codes "closed") (λ l. refl) (es ++ ks) m.closed (weight_marks m.weight ++ ms)
      ∙ weight-follows ((es ++ ks) ++ cs) m.weight ms
      ∙ ap (λ (l : List Entry). followed (in_rule l) ms) (append_assoc (es ++ ks) cs ws ∙ append_assoc es ks (cs ++ ws))

pub bridge-follows : (d t : Name) (n : ℕ) (es : List Entry) (b : WrittenBridge) → FollowsReads b.head.context [] (es ++ bridge_entries b) (followed (course_at (free_place d t n) [] es) (bridge_marks b))
unfolding tail_entries
bridge-follows d t n es b =
    let x : Entry = entry (codes "bridge") (BeginsBridge ∷ []) in
    let y : Entry = entry b.name (NamesBridge b.name ∷ []) in
    let before : List Entry = (es ++ x ∷ []) ++ y ∷ [] in
    let ms : List Entry = mark_entries b.marks in
    let after : List Entry = tail_entries b.head b.reads in
    let more = tail-follows d t n (before ++ ms) b.head b.reads in
    record {
      context = more.context;
      counted = more.counted;
      course = own-follows d t n before b.marks (tail_marks b.head b.reads) ∙ more.course
          ∙ ap (course_at (free_place more.context b.head.context more.counted) []) (append_assoc before ms after ∙ append_assoc (es ++ x ∷ []) (y ∷ []) (ms ++ after) ∙ append_assoc es (x ∷ []) (y ∷ (ms ++ after)));
    }
