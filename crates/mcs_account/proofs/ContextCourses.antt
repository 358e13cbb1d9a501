-- What is written of contexts, and of a whole text, goes the course of its entries.
use Rattle.std.proofs.Common.{◌≡◌, ℕ, Bool, true, false, codes, List, [], ◌∷◌, ◌++◌, refl, sym, ap, ◌∙◌, append_assoc, append-nil}
use Rattle.std.specs.List.{flat_map, AllByRecursion}
use Rattle.mcs_system.specs.Plain.{Name}
use Rattle.mcs_grammar.specs.Written.{WrittenKb, OfKind, IsWrittenIn, IsKb, WrittenContext, IsContext, WrittenBridge, WrittenText, IsText}
use Rattle.mcs_grammar.specs.Entries.{BeginsContext, NamesContext, Entry, entry, ended, kind_word, kind_uses, entries_in, kb_entries, context_entries, bridge_entries, text_entries, version_entries}
use Rattle.mcs_productions.specs.declared.class.Class.TheVariants as class
use Rattle.mcs_account.specs.Mark.{Seen}
use Rattle.mcs_account.specs.Marks.{Marked, ended_marks, marks_in, kb_marks, context_marks, bridge_marks, version_marks, text_marks}
use Rattle.mcs_account.specs.Account.{Course, followed}
use Rattle.mcs_account.proofs.Courses.{course_at, free_place, followed-append, bridge-follows}
use Rattle.mcs_account.proofs.ItemCourses.{fresh, ItemFollows}
use Rattle.mcs_account.proofs.KindItems.{word-follows, follows-in}

-- ---- contexts
items-follow : {W : Type 0} (c : Name) (P : W → Type 0) (f : W → Marked) (g : W → List Entry) → ((w : W) → P w → ItemFollows c (f w) (g w)) → (t : Name) (ws : List W) → AllByRecursion P ws → (es : List Entry)
    → followed (course_at (fresh c t) [] es) (flat_map (λ w. ended_marks (f w)) ws) ≡ course_at (fresh c t) [] (es ++ flat_map (λ w. ended c (g w)) ws)
items-follow c P f g one t [] h es = ap (course_at (fresh c t) []) (sym (append-nil es))
items-follow c P f g one t (w ∷ ws) h es =
    followed-append (course_at (fresh c t) [] es) (ended_marks (f w)) (flat_map (λ x. ended_marks (f x)) ws) ∙ ap (λ (s : Course). followed s (flat_map (λ x. ended_marks (f x)) ws)) (one w h.0 t es)
    ∙ items-follow c P f g one t ws h.1 (es ++ ended c (g w)) ∙ ap (course_at (fresh c t) []) (append_assoc es (ended c (g w)) (flat_map (λ x. ended c (g x)) ws))

-- from the first item on to the brace
closed-follows : (c t : Name) (es : List Entry) (word : Entry) (ms : Marked) (xs : List Entry) → ((ds : List Entry) → followed (course_at (fresh c t) [] ds) ms ≡ course_at (fresh c t) [] (ds ++ xs))
    → followed (course_at (fresh c t) [] ((es ++ word ∷ []) ++ entry (codes "{") [] ∷ [])) (ms ++ Seen class.ClosesItems (codes "}") ∷ []) ≡ course_at (free_place c t 0) [] (es ++ word ∷ entry (codes "{") [] ∷ (xs ++ entry (codes "}") [] ∷ []))
closed-follows c t es word ms xs h = simp (followed-append, h, append_assoc)

kb-follows : (c t : Name) (n : ℕ) (es : List Entry) (kb : WrittenKb) → IsKb kb → followed (course_at (free_place c t n) [] es) (kb_marks kb) ≡ course_at (free_place c t 0) [] (es ++ kb_entries c kb)
kb-follows c t n es (OfKind k items) h =
    let word : Entry = entry (kind_word k) (kind_uses k c) in
    let ms : Marked = flat_map (λ i. ended_marks (marks_in k i)) items in
    ap (λ (s : Course). followed s (Seen class.OpensItems (codes "{") ∷ (ms ++ Seen class.ClosesItems (codes "}") ∷ []))) (word-follows k c t n es)
    ∙ closed-follows c t es word ms (flat_map (λ i. ended c (entries_in k c i)) items) (items-follow c (IsWrittenIn k) (marks_in k) (entries_in k c) (λ i g. follows-in k c i g) t items h)

context-follows : (d t : Name) (n : ℕ) (es : List Entry) (c : WrittenContext) → IsContext c → followed (course_at (free_place d t n) [] es) (context_marks c) ≡ course_at (free_place c.name c.name 0) [] (es ++ context_entries c)
context-follows d t n es c h =
    let word : Entry = entry (codes "context") (BeginsContext ∷ []) in
    let name : Entry = entry c.name (NamesContext c.name ∷ []) in
    kb-follows c.name c.name n ((es ++ word ∷ []) ++ name ∷ []) c.kb h.1 ∙ ap (course_at (free_place c.name c.name 0) []) (append_assoc (es ++ word ∷ []) (name ∷ []) (kb_entries c.name c.kb) ∙ append_assoc es (word ∷ []) (name ∷ kb_entries c.name c.kb))

-- ---- the whole text
-- between the parts of a text
pub record FollowsText (es : List Entry) (s : Course) : Type 0 where
  pub context : Name
  pub target : Name
  pub counted : ℕ
  pub course : s ≡ course_at (free_place context target counted) [] es

contexts-follow : (d t : Name) (n : ℕ) (es : List Entry) (cs : List WrittenContext) → AllByRecursion IsContext cs → FollowsText (es ++ flat_map context_entries cs) (followed (course_at (free_place d t n) [] es) (flat_map context_marks cs))
contexts-follow d t n es [] h = record { context = d; target = t; counted = n; course = ap (course_at (free_place d t n) []) (sym (append-nil es)) }
contexts-follow d t n es (c ∷ cs) h =
    let more = contexts-follow c.name c.name 0 (es ++ context_entries c) cs h.1 in
    record {
      context = more.context;
      target = more.target;
      counted = more.counted;
      course = followed-append (course_at (free_place d t n) [] es) (context_marks c) (flat_map context_marks cs) ∙ ap (λ (s : Course). followed s (flat_map context_marks cs)) (context-follows d t n es c h.0) ∙ more.course
          ∙ ap (course_at (free_place more.context more.target more.counted) []) (append_assoc es (context_entries c) (flat_map context_entries cs));
    }

bridges-follow : (d t : Name) (n : ℕ) (es : List Entry) (bs : List WrittenBridge) → FollowsText (es ++ flat_map bridge_entries bs) (followed (course_at (free_place d t n) [] es) (flat_map bridge_marks bs))
bridges-follow d t n es [] = record { context = d; target = t; counted = n; course = ap (course_at (free_place d t n) []) (sym (append-nil es)) }
bridges-follow d t n es (b ∷ bs) =
    let one = bridge-follows d t n es b in
    let more = bridges-follow one.context b.head.context one.counted (es ++ bridge_entries b) bs in
    record {
      context = more.context;
      target = more.target;
      counted = more.counted;
      course = followed-append (course_at (free_place d t n) [] es) (bridge_marks b) (flat_map bridge_marks bs) ∙ ap (λ (s : Course). followed s (flat_map bridge_marks bs)) one.course ∙ more.course
          ∙ ap (course_at (free_place more.context more.target more.counted) []) (append_assoc es (bridge_entries b) (flat_map bridge_entries bs));
    }

version-follows : (v : Bool) (ms : Marked) → followed (course_at (free_place [] [] 0) [] []) (version_marks v ++ ms) ≡ followed (course_at (free_place [] [] 0) [] (version_entries v)) ms
version-follows true ms = refl
version-follows false ms = refl

-- the entries of a whole text are what its tokens are there for
pub text-follows : (t : WrittenText) → IsText t → FollowsText (text_entries t) (followed (course_at (free_place [] [] 0) [] []) (text_marks t))
text-follows t h =
    let es : List Entry = version_entries t.has_version in
    let cs : Marked = flat_map context_marks t.contexts in
    let bs : Marked = flat_map bridge_marks t.bridges in
    let one = contexts-follow [] [] 0 es t.contexts h.0 in
    let more = bridges-follow one.context one.target one.counted (es ++ flat_map context_entries t.contexts) t.bridges in
    record {
      context = more.context;
      target = more.target;
      counted = more.counted;
      course = version-follows t.has_version (cs ++ bs) ∙ followed-append (course_at (free_place [] [] 0) [] es) cs bs ∙ ap (λ (s : Course). followed s bs) one.course ∙ more.course
          ∙ ap (course_at (free_place more.context more.target more.counted) []) (append_assoc es (flat_map context_entries t.contexts) (flat_map bridge_entries t.bridges));
    }
