-- The tokens of what is written, and that each may be there for what it is there for.
use Rattle.std.proofs.Common.{◌≡◌, Bool, true, false, cond, codes, Option, Some, None, List, [], ◌∷◌, ◌++◌, refl, sym, ap, ◌∙◌, append_assoc, append-nil, true≢false}
use Rattle.std.specs.Str.{bytes_eq}
use Rattle.std.proofs.lemmas.Slice.Eq.{bytes_eq-Decides}
use Rattle.std.proofs.lemmas.List.{map-append}
use Rattle.std.specs.List.{flat_map, AllByRecursion}
use Rattle.mcs_system.specs.Plain as plain
use Rattle.mcs_grammar.specs.Written.{WrittenKb, OfKind, IsWrittenIn, IsKb, WrittenContext, IsContext, WrittenRead, IsPlace, WrittenBridge, IsWrittenBridge, IsWeight, WrittenText, IsText}
use Rattle.mcs_grammar.specs.Entries.{Token, Use, EndsRead, Entry, with_last, text_entries, tokens_of}
use Rattle.mcs_system.specs.Plain.{Name}
use Rattle.mcs_productions.specs.declared.class.Class.{Class}
use Rattle.mcs_productions.specs.declared.class.Class.TheVariants as class
use Rattle.mcs_productions.specs.declared.production.Action.{Action}
use Rattle.mcs_productions.specs.declared.production.Action.TheVariants as action
use Rattle.mcs_account.specs.Mark.{Seen, Said, tokens_in}
use Rattle.mcs_account.specs.Marks.{Marked, Filled, formula_marks, ended_marks, marks_in, kb_marks, context_marks, denial_marks, read_marks, further_marks, reads_marks, tail_marks, word_marks, weight_marks, bridge_marks, version_marks, text_marks}
use Rattle.mcs_account.specs.Account.{Course, course_step, course_told, read_ends, followed}
use Rattle.mcs_account.proofs.Courses.{course_at, free_place}
use Rattle.mcs_account.proofs.ContextCourses.{text-follows}
pub use Rattle.mcs_account.proofs.ItemMarks.{join-filled}
use Rattle.mcs_account.proofs.ItemMarks.{IsOne, all-filled, formula-filled, ended-filled}
use Rattle.mcs_account.proofs.KindItems.{word-filled, filled-in}

-- ---- tokens
last-tokens : (us : List Use) (ms : List Entry) → tokens_of (with_last us ms) ≡ tokens_of ms
last-tokens us [] = refl
last-tokens us (m ∷ []) = refl
last-tokens us (m ∷ n ∷ ms) = ap (λ (l : List Token). m.token ∷ l) (last-tokens us (n ∷ ms))

ends-tokens : (s : Course) (fs : List plain.Formula) → tokens_of (read_ends s fs).entries ≡ tokens_of s.entries
ends-tokens s [] = refl
ends-tokens s (f ∷ fs) = last-tokens (EndsRead s.place.target s.place.context f ∷ []) s.entries

told-tokens : (s : Course) (a : Action) → tokens_of (course_told s a).entries ≡ tokens_of s.entries
told-tokens s action.EndsRead = ends-tokens s s.operands
told-tokens s a = refl

pub followed-tokens : (s : Course) (ms : Marked) → tokens_of (followed s ms).entries ≡ tokens_of s.entries ++ tokens_in ms
followed-tokens s [] = sym (append-nil (tokens_of s.entries))
followed-tokens s (Seen c t ∷ ms) =
    followed-tokens (course_step s (Seen c t)) ms ∙ ap (λ (l : List Token). l ++ tokens_in ms) (map-append (λ (m : Entry). m.token) s.entries _) ∙ append_assoc (tokens_of s.entries) (t ∷ []) (tokens_in ms)
followed-tokens s (Said a ∷ ms) = followed-tokens (course_told s a) ms ∙ ap (λ (l : List Token). l ++ tokens_in ms) (told-tokens s a)

pub text-tokens : (t : WrittenText) → IsText t → tokens_of (text_entries t) ≡ tokens_in (text_marks t)
text-tokens t h = let f = text-follows t h in sym (ap (λ (s : Course). tokens_of s.entries) f.course) ∙ followed-tokens (course_at (free_place [] [] 0) [] []) (text_marks t)

-- ---- what each is there for
kb-filled : (kb : WrittenKb) → IsKb kb → Filled (kb_marks kb)
kb-filled (OfKind k items) h = (word-filled k, ((tt, refl), join-filled _ _ (all-filled (IsWrittenIn k) (λ i. ended_marks (marks_in k i)) (λ i g. ended-filled (marks_in k i) (filled-in k i g)) items h) ((tt, refl), tt)))

context-filled : (c : WrittenContext) → IsContext c → Filled (context_marks c)
context-filled c h = ((tt, refl), (((c.name, h.0), refl), kb-filled c.kb h.1))

read-filled : (r : WrittenRead) → IsPlace r.place → Filled (read_marks r)
read-filled r h = at r.denied
  where
    rest : Filled (Seen class.NamesSource r.place.context ∷ Seen class.BeginsBelief (codes ":") ∷ (formula_marks r.place.belief ++ Said action.EndsRead ∷ []))
    rest = (((r.place.context, h.0), refl), ((tt, refl), join-filled (formula_marks r.place.belief) _ (formula-filled r.place.belief h.1.1) (tt, tt)))

    at : (b : Bool) → Filled (denial_marks b ++ Seen class.NamesSource r.place.context ∷ Seen class.BeginsBelief (codes ":") ∷ (formula_marks r.place.belief ++ Said action.EndsRead ∷ []))
    at true = ((tt, refl), rest)
    at false = rest

reads-filled : (rs : List WrittenRead) → AllByRecursion (λ (r : WrittenRead). IsPlace r.place) rs → Filled (reads_marks rs)
reads-filled [] h = tt
reads-filled (r ∷ rs) h = ((tt, refl), join-filled (read_marks r) _ (read-filled r h.0) (all-filled (λ (q : WrittenRead). IsPlace q.place) further_marks (λ q p. ((tt, refl), read-filled q p)) rs h.1))

optional-filled : (c : Class) (word : Token) → IsOne (Seen c word) → (b : Bool) → Filled (word_marks c word b)
optional-filled c word one true = (one, tt)
optional-filled c word one false = tt

weight-filled : (w : Option Token) → IsWeight w → Filled (weight_marks w)
weight-filled None h = tt
weight-filled (Some digits) h = ((tt, refl), (at (bytes_eq digits (codes "2")) refl, tt))
  where
    at : (b : Bool) → bytes_eq digits (codes "2") ≡ b → IsOne (Seen (cond b class.WeighsTwo class.Weighs) digits)
    at true e = (tt, sym ((bytes_eq-Decides digits (codes "2")).0 e))
    at false e = ((digits, h.0, h.1, λ two. true≢false (sym ((bytes_eq-Decides digits (codes "2")).1 two) ∙ e)), refl)

tail-filled : (b : WrittenBridge) → IsWrittenBridge b → Filled (tail_marks b.head b.reads)
tail-filled b h = (
  (tt, refl),
  (
    ((b.head.context, h.1.0), refl),
    (
      (tt, refl),
      join-filled (formula_marks b.head.belief) _ (formula-filled b.head.belief h.1.1.1)
          (join-filled (reads_marks b.reads) _ (reads-filled b.reads h.2) ((tt, refl), tt)),
    ),
  ),
)

pub bridge-filled : (b : WrittenBridge) → IsWrittenBridge b → Filled (bridge_marks b)
bridge-filled b h = (
  (tt, refl),
  (
    ((b.name, h.0), refl),
    join-filled (word_marks class.Keeps (codes "keep") b.marks.keep) _ (optional-filled class.Keeps (codes "keep") (tt, refl) b.marks.keep)
        (join-filled (word_marks class.Closes (codes "closed") b.marks.closed) _ (optional-filled class.Closes (codes "closed") (tt, refl) b.marks.closed)
        (join-filled (weight_marks b.marks.weight) _ (weight-filled b.marks.weight h.3) (tail-filled b h))),
  ),
)

version-filled : (v : Bool) → Filled (version_marks v)
version-filled true = ((tt, refl), ((tt, refl), ((tt, refl), tt)))
version-filled false = tt

pub text-filled : (t : WrittenText) → IsText t → Filled (text_marks t)
text-filled t h =
    join-filled (version_marks t.has_version) _ (version-filled t.has_version)
    (join-filled (flat_map context_marks t.contexts) _ (all-filled IsContext context_marks context-filled t.contexts h.0) (all-filled IsWrittenBridge bridge_marks bridge-filled t.bridges h.1))
