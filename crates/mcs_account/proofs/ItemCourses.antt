-- What is written of the items of contexts goes the course of its entries.
use Rattle.std.proofs.Common.{◌≡◌, ℕ, ◌+◌, suc, Bool, true, false, codes, List, [], ◌∷◌, ◌++◌, length, refl, sym, ap, ◌∙◌, arith, append_assoc, append-nil}
use Rattle.std.specs.List.{flat_map}
use Rattle.mcs_system.specs.Plain.{Name}
use Rattle.mcs_system.specs.Plain as plain
use Rattle.mcs_grammar.specs.Written.{Written, WrittenDefault, WrittenItem, Fact, WrittenLiteral, WrittenRule, IsRule}
use Rattle.mcs_grammar.specs.Written as written
use Rattle.mcs_grammar.specs.Entries.{Use, BeginsItem, BeginsDefault, AtomOf, IsNumber, Entry, entry, with_first, size_of, formula_in, whole_entries, after_sign, item_entries, default_entries, atom_entry, further_heads, head_entries, optional, literal_entries, further_literals, body_entries, rule_entries, ended}
use Rattle.mcs_productions.specs.declared.class.Class.TheVariants as class
use Rattle.mcs_account.specs.Mark.{Seen}
use Rattle.mcs_account.specs.Marks.{Marked, formula_marks, after_marks, default_marks, item_marks, head_marks, further_head_marks, literal_denial, literal_marks, further_literal_marks, literals_marks, sign_marks, rule_marks, ended_marks}
use Rattle.mcs_account.specs.Account.{Place, Course, followed}
use Rattle.mcs_account.proofs.Courses.{course_at, free_place, zero-add, first-append, first-none, followed-append, formula-follows}
use Rattle.mcs_account.proofs.EntryLists.{formula-some}

-- before an item of the context
abbrev pub fresh : Name → Name → Place
fresh c t = record { context = c; target = t; counted = 0; opened = 0; begins = BeginsItem c ∷ [] }

-- ---- formulas
-- a formula after a sign, where no parenthesis is open
after-follows : (c t : Name) (k : ℕ) (fs : List plain.Formula) (es : List Entry) (f : Written) (ms : Marked)
    → followed (course_at (free_place c t 0) fs es) (formula_marks f ++ ms) ≡ followed (course_at (free_place c t (size_of f)) (formula_in f ∷ fs) (es ++ whole_entries c f)) ms
after-follows c t k fs es f ms = simp (followed-append, formula-follows, zero-add, first-none)

-- ---- items
abbrev pub ItemFollows : Name → Marked → List Entry → Type 0
ItemFollows c ms entries = (t : Name) (es : List Entry) → followed (course_at (fresh c t) [] es) (ended_marks ms) ≡ course_at (fresh c t) [] (es ++ ended c entries)

pub fact-follows : (c : Name) (f : Written) → ItemFollows c (formula_marks f) (whole_entries c f)
fact-follows c f t es = simp (followed-append, formula-follows, append_assoc)

-- the justifications after the first
record FollowsMore (c t : Name) (es : List Entry) (s : Course) : Type 0 where
  counted : ℕ
  operands : List plain.Formula
  course : s ≡ course_at (free_place c t counted) operands es

justs-follow : (c t : Name) (n : ℕ) (fs : List plain.Formula) (es : List Entry) (js : List Written)
    → FollowsMore c t (es ++ flat_map (after_sign (codes ",") c) js) (followed (course_at (free_place c t n) fs es) (flat_map (after_marks class.SeparatesJustifications (codes ",")) js))
justs-follow c t n fs es [] = record { counted = n; operands = fs; course = ap (course_at (free_place c t n) fs) (sym (append-nil es)) }
justs-follow c t n fs es (j ∷ js) =
    let e : Entry = entry (codes ",") [] in
    let more = justs-follow c t (size_of j) (formula_in j ∷ fs) ((es ++ e ∷ []) ++ whole_entries c j) js in
    record {
      counted = more.counted;
      operands = more.operands;
      course = after-follows c t n fs (es ++ e ∷ []) j (flat_map (after_marks class.SeparatesJustifications (codes ",")) js) ∙ more.course
          ∙ ap (course_at (free_place c t more.counted) more.operands) (append_assoc (es ++ e ∷ []) (whole_entries c j) (flat_map (after_sign (codes ",") c) js) ∙ append_assoc es (e ∷ []) (whole_entries c j ++ flat_map (after_sign (codes ",") c) js));
    }

default-follows : (c : Name) (d : WrittenDefault) → ItemFollows c (default_marks d) (default_entries c d)
default-follows c d t es =
    let us : List Use = BeginsItem c ∷ [] in
    let W : Written → List Entry = whole_entries c in
    let colon : Entry = entry (codes ":") (BeginsDefault c ∷ []) in
    let more = justs-follow c t (size_of d.first_just) (formula_in d.first_just ∷ formula_in d.pre ∷ []) (((es ++ with_first us (W d.pre)) ++ colon ∷ []) ++ W d.first_just) d.justs in
    let first = first-append us (W d.pre) (colon ∷ (W d.first_just ++ (flat_map (after_sign (codes ",") c) d.justs ++ entry (codes "/") [] ∷ W d.conclusion))) (formula-some c 0 0 d.pre) in
    simp (append_assoc, followed-append, formula-follows, zero-add, first-none, first, simp append_assoc at more.course)

pub item-follows : (c : Name) (i : WrittenItem) → ItemFollows c (item_marks i) (item_entries c i)
item-follows c (Fact f) = fact-follows c f
item-follows c (written.Rule d) = default-follows c d

-- ---- program rules
heads-follow : (c t : Name) (n : ℕ) (es : List Entry) (names : List Name)
    → followed (course_at (free_place c t n) [] es) (flat_map further_head_marks names) ≡ course_at (free_place c t (n + length names)) [] (es ++ further_heads c n names)
heads-follow c t n es [] = ap (λ (k : ℕ). course_at (free_place c t k) [] es) (let e : n ≡ n + 0 = omega arith in e) ∙ ap (course_at (free_place c t (n + 0)) []) (sym (append-nil es))
heads-follow c t n es (a ∷ names) =
    let bar : Entry = entry (codes "|") [] in
    let e : Entry = atom_entry c (n + 1) a in
    let same : n + 1 + length names ≡ n + suc (length names) = omega arith in
    heads-follow c t (n + 1) ((es ++ bar ∷ []) ++ e ∷ []) names
    ∙ ap (λ (k : ℕ). course_at (free_place c t k) [] (((es ++ bar ∷ []) ++ e ∷ []) ++ further_heads c (n + 1) names)) same
    ∙ ap (course_at (free_place c t (n + suc (length names))) []) (append_assoc (es ++ bar ∷ []) (e ∷ []) (further_heads c (n + 1) names) ∙ append_assoc es (bar ∷ []) (e ∷ further_heads c (n + 1) names))

literal-follows : (c t : Name) (n : ℕ) (es : List Entry) (l : WrittenLiteral) → followed (course_at (free_place c t n) [] es) (literal_marks l) ≡ course_at (free_place c t (n + 1)) [] (es ++ literal_entries c n l)
literal-follows c t n es l = at l.denied
  where
    at : (b : Bool) → followed (course_at (free_place c t n) [] es) (literal_denial b ++ Seen class.IsBodyAtom l.atom ∷ []) ≡ course_at (free_place c t (n + 1)) [] (es ++ (optional b (codes "not") ++ atom_entry c (n + 1) l.atom ∷ []))
    at true = ap (course_at (free_place c t (n + 1)) []) (append_assoc es (entry (codes "not") [] ∷ []) (atom_entry c (n + 1) l.atom ∷ []))
    at false = refl

literals-follow : (c t : Name) (n : ℕ) (es : List Entry) (ls : List WrittenLiteral) → FollowsMore c t (es ++ further_literals c n ls) (followed (course_at (free_place c t n) [] es) (flat_map further_literal_marks ls))
literals-follow c t n es [] = record { counted = n; operands = []; course = ap (course_at (free_place c t n) []) (sym (append-nil es)) }
literals-follow c t n es (l ∷ ls) =
    let e : Entry = entry (codes ",") [] in
    let one : Course = course_at (free_place c t n) [] (es ++ e ∷ []) in
    let more = literals-follow c t (n + 1) ((es ++ e ∷ []) ++ literal_entries c n l) ls in
    record {
      counted = more.counted;
      operands = more.operands;
      course = followed-append one (literal_marks l) (flat_map further_literal_marks ls) ∙ ap (λ (r : Course). followed r (flat_map further_literal_marks ls)) (literal-follows c t n (es ++ e ∷ []) l) ∙ more.course
          ∙ ap (course_at (free_place c t more.counted) more.operands) (append_assoc (es ++ e ∷ []) (literal_entries c n l) (further_literals c (n + 1) ls) ∙ append_assoc es (e ∷ []) (literal_entries c n l ++ further_literals c (n + 1) ls));
    }

body-follows : (c t : Name) (n : ℕ) (es : List Entry) (ls : List WrittenLiteral) → FollowsMore c t (es ++ body_entries c n ls) (followed (course_at (free_place c t n) [] es) (literals_marks ls))
body-follows c t n es [] = record { counted = n; operands = []; course = ap (course_at (free_place c t n) []) (sym (append-nil es)) }
body-follows c t n es (l ∷ ls) =
    let one : Course = course_at (free_place c t n) [] es in
    let more = literals-follow c t (n + 1) (es ++ literal_entries c n l) ls in
    record {
      counted = more.counted;
      operands = more.operands;
      course = followed-append one (literal_marks l) (flat_map further_literal_marks ls) ∙ ap (λ (r : Course). followed r (flat_map further_literal_marks ls)) (literal-follows c t n es l) ∙ more.course
          ∙ ap (course_at (free_place c t more.counted) more.operands) (append_assoc es (literal_entries c n l) (further_literals c (n + 1) ls));
    }

sign-follows : (c t : Name) (n : ℕ) (es : List Entry) (sign : Bool) (ls : List WrittenLiteral) → (sign ≡ false → ls ≡ []) → FollowsMore c t (es ++ (optional sign (codes ":-") ++ body_entries c n ls)) (followed (course_at (free_place c t n) [] es) (sign_marks sign ls))
sign-follows c t n es true ls h =
    let e : Entry = entry (codes ":-") [] in
    let more = body-follows c t n (es ++ e ∷ []) ls in
    record { counted = more.counted; operands = more.operands; course = more.course ∙ ap (course_at (free_place c t more.counted) more.operands) (append_assoc es (e ∷ []) (body_entries c n ls)) }
sign-follows c t n es false ls h = record { counted = n; operands = []; course = ap (course_at (free_place c t n) []) (sym (ap (λ (l : List WrittenLiteral). es ++ body_entries c n l) (h refl) ∙ append-nil es)) }

-- the rule without its period
rule-course : (c t : Name) (es : List Entry) (names : List Name) (sign : Bool) (ls : List WrittenLiteral) → (names ≡ [] → sign ≡ true) → (sign ≡ false → ls ≡ [])
    → FollowsMore c t (es ++ with_first (BeginsItem c ∷ []) (head_entries c names ++ (optional sign (codes ":-") ++ body_entries c (length names) ls))) (followed (course_at (fresh c t) [] es) (head_marks names ++ sign_marks sign ls))
rule-course c t es [] true ls h k =
    let e : Entry = entry (codes ":-") (BeginsItem c ∷ []) in
    let more = body-follows c t 0 (es ++ e ∷ []) ls in
    record { counted = more.counted; operands = more.operands; course = more.course ∙ ap (course_at (free_place c t more.counted) more.operands) (append_assoc es (e ∷ []) (body_entries c 0 ls)) }
rule-course c t es [] false ls h k = absurd (false-is-true (h refl))
  where
    false-is-true : false ≡ true → ⊥
    false-is-true e = cc
rule-course c t es (a ∷ names) sign ls h k =
    let e : Entry = entry a (BeginsItem c ∷ AtomOf c a ∷ IsNumber 1 ∷ []) in
    let hs : List Entry = further_heads c 1 names in
    let same : 1 + length names ≡ suc (length names) = omega arith in
    let one : Course = course_at (free_place c t 1) [] (es ++ e ∷ []) in
    let bs : List Entry = optional sign (codes ":-") ++ body_entries c (length (a ∷ names)) ls in
    let more = sign-follows c t (suc (length names)) ((es ++ e ∷ []) ++ hs) sign ls k in
    record {
      counted = more.counted;
      operands = more.operands;
      course = followed-append one (flat_map further_head_marks names) (sign_marks sign ls) ∙ ap (λ (r : Course). followed r (sign_marks sign ls)) (heads-follow c t 1 (es ++ e ∷ []) names ∙ ap (λ (n : ℕ). course_at (free_place c t n) [] ((es ++ e ∷ []) ++ hs)) same)
          ∙ more.course ∙ ap (course_at (free_place c t more.counted) more.operands) (append_assoc (es ++ e ∷ []) hs bs ∙ append_assoc es (e ∷ []) (hs ++ bs));
    }

pub rule-follows : (c : Name) (r : WrittenRule) → IsRule r → ItemFollows c (rule_marks r) (rule_entries c r)
rule-follows c r h t es =
    let more = rule-course c t es r.head r.has_sign r.body h.head_or_sign h.body_after_sign in
    let dot : Marked = Seen class.EndsItem (codes ".") ∷ [] in
    followed-append (course_at (fresh c t) [] es) (rule_marks r) dot ∙ ap (λ (s : Course). followed s dot) more.course ∙ ap (course_at (fresh c t) []) (append_assoc es (with_first (BeginsItem c ∷ []) (rule_entries c r)) (entry (codes ".") [] ∷ []))
