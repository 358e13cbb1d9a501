-- A read ends right after the last token of its belief, where a formula is whole, and nothing is said between its end and
-- the next token. What is said of a context comes after a name of one.
use Rattle.std.proofs.Common.{◌≡◌, Bool, true, false, cond, codes, Option, Some, None, List, [], ◌∷◌, ◌++◌, refl, sym, ap, ◌∙◌}
use Rattle.std.specs.List.{flat_map, AllByRecursion}
use Rattle.std.specs.Str.{bytes_eq}
use Rattle.mcs_syntax.specs.declared.part.Event.TheVariants.{Took, Told}
use Rattle.mcs_system.specs.Plain.{Kind}
use Rattle.mcs_grammar.specs.Entries.{Token, kind_word}
use Rattle.mcs_grammar.specs.Written.{Written, True', False', Named, Prefixed, Grouped, Joins, level, WrittenKb, OfKind, WrittenOf, WrittenContext, WrittenRead, WrittenBridge, IsPlace, IsGrouped, IsWrittenBridge, WrittenText, IsText, IsContext}
use Rattle.mcs_productions.specs.declared.class.Class.{Class}
use Rattle.mcs_productions.specs.declared.class.Class.TheVariants as class
use Rattle.mcs_productions.specs.declared.production.Action.{Action}
use Rattle.mcs_productions.specs.declared.production.Action.TheVariants as action
use Rattle.mcs_account.specs.Mark.{Seen, Said}
use Rattle.mcs_account.specs.Reading.{Events}
use Rattle.mcs_account.specs.Turns.{Depth, Phase, Turn, turn, calm, between, first_turn, ends, comes, phase_if, phase_after, ended, joined, phase_told, turn_took, turn_told, passed, Top, In, Free, Due, Over, Broken}
use Rattle.mcs_account.specs.Marks.{Marked, formula_marks, ended_marks, marks_in, kind_class, prefix_action, items_marks, kb_marks, context_marks, belief_marks, denial_marks, read_marks, further_marks, reads_marks, tail_marks, word_marks, weight_marks, bridge_marks, version_marks, text_marks}
pub use Rattle.mcs_account.proofs.ItemTurns.{passed-append}
use Rattle.mcs_account.proofs.ItemTurns.{after, then-after, Leads', Stays, inside, both-lead, any-stay}
use Rattle.mcs_account.proofs.Signs.{prefix-comes, prefix-due, joined-high}
use Rattle.mcs_account.proofs.KindItems.{word-comes, calm-in}

-- the belief of a read
read-belief : (f : Written) (b : Bool) → IsGrouped f → level f ≡ 0 → Leads' (turn true Top b true Free) (turn true Top true true Due) (formula_marks f)
read-belief True' b g h = refl
read-belief False' b g h = refl
read-belief (Named n) b g h = refl
read-belief (Prefixed p f) b g h =
    let end : Marked = Said (prefix_action p) ∷ [] in
    ap (λ (s : Turn). after s (formula_marks f ++ end)) (prefix-comes p true b Top) ∙ then-after (turn true Top b true Free) (turn true Top true true Due) (formula_marks f) end (read-belief f b g.0 g.1) ∙ prefix-due p true true Top
read-belief (Grouped f) b g h = then-after (turn true (In Top) b true Free) (turn true (In Top) true true Free) (formula_marks f) (Seen class.ClosesParenthesis (codes ")") ∷ []) (inside f true (In Top) b refl)
read-belief (Joins j f g) b h low = absurd (joined-high j low)

-- ---- bridge rules
abbrev over : Turn
over = turn true Top false true Over

read-over : (r b : Bool) (x : WrittenRead) → IsPlace x.place → Leads' (turn r Top b true Free) over (read_marks x)
read-over r b x h = at x.denied
  where
    rest : Leads' (turn true Top b true Free) over (formula_marks x.place.belief ++ Said action.EndsRead ∷ [])
    rest = then-after (turn true Top b true Free) (turn true Top true true Due) (formula_marks x.place.belief) (Said action.EndsRead ∷ []) (read-belief x.place.belief b h.1.0 h.2)

    at : (d : Bool) → Leads' (turn r Top b true Free) over (denial_marks d ++ Seen class.NamesSource x.place.context ∷ (belief_marks x.place.belief ++ Said action.EndsRead ∷ []))
    at true = rest
    at false = rest

further-over : (xs : List WrittenRead) → AllByRecursion (λ (x : WrittenRead). IsPlace x.place) xs → Stays over (flat_map further_marks xs)
further-over [] h = refl
further-over (x ∷ xs) h = then-after over over (further_marks x) (flat_map further_marks xs) (read-over true false x h.0) ∙ further-over xs h.1

abbrev period : Marked
period = Seen class.EndsBridge (codes ".") ∷ []

reads-over : (xs : List WrittenRead) → AllByRecursion (λ (x : WrittenRead). IsPlace x.place) xs → Leads' (calm true) (between true) (reads_marks xs ++ period)
reads-over [] h = refl
reads-over (x ∷ xs) h =
    then-after (calm true) over (reads_marks (x ∷ xs)) period (then-after (calm true) over (read_marks x) (flat_map further_marks xs) (read-over false true x h.0) ∙ further-over xs h.1)

pub bridge-passed : (n : Bool) (b : WrittenBridge) → IsWrittenBridge b → Leads' (between n) (between true) (bridge_marks b)
bridge-passed n b h =
    both-lead (between n) (between n) (between true) (word_marks class.Keeps (codes "keep") b.marks.keep) _ (word-stays class.Keeps (codes "keep") refl b.marks.keep)
    (both-lead (between n) (between n) (between true) (word_marks class.Closes (codes "closed") b.marks.closed) _ (word-stays class.Closes (codes "closed") refl b.marks.closed)
    (both-lead (between n) (between n) (between true) (weight_marks b.marks.weight) (tail_marks b.head b.reads) (weight-stays b.marks.weight)
    (then-after (between true) (calm true) (formula_marks b.head.belief) (reads_marks b.reads ++ period) (inside b.head.belief false Top false refl) ∙ reads-over b.reads h.2)))
  where
    word-stays : (c : Class) (word : Token) → Stays (between n) (Seen c word ∷ []) → (b : Bool) → Stays (between n) (word_marks c word b)
    word-stays c word one true = one
    word-stays c word one false = refl

    weight-stays : (w : Option Token) → Stays (between n) (weight_marks w)
    weight-stays None = refl
    weight-stays (Some digits) = at (bytes_eq digits (codes "2"))
      where
        at : (b : Bool) → Stays (between n) (Seen class.BeginsWeight (codes "weight") ∷ Seen (cond b class.WeighsTwo class.Weighs) digits ∷ [])
        at true = refl
        at false = refl

-- ---- contexts

-- parts of a text
each-between : {W : Type 0} (P : W → Type 0) (f : W → Marked) → ((n : Bool) (w : W) → P w → Leads' (between n) (between true) (f w)) → (n : Bool) (ws : List W) → AllByRecursion P ws → (m : Bool) × Leads' (between n) (between m) (flat_map f ws)
each-between P f one n [] h = (n, refl)
each-between P f one n (w ∷ ws) h = let more = each-between P f one true ws h.1 in (more.0, both-lead (between n) (between true) (between more.0) (f w) (flat_map f ws) (one n w h.0) more.1)

items-stay : (k : Kind) (ws : List (WrittenOf k)) → Stays (calm false) (items_marks (kind_class k) (kind_word k) (flat_map (λ w. ended_marks (marks_in k w)) ws))
items-stay k ws =
    let items : Marked = flat_map (λ w. ended_marks (marks_in k w)) ws in
    ap (λ (s : Turn). after s (Seen class.OpensItems (codes "{") ∷ (items ++ Seen class.ClosesItems (codes "}") ∷ []))) (word-comes k)
    ∙ both-lead (calm false) (calm false) (calm false) items (Seen class.ClosesItems (codes "}") ∷ [])
    (any-stay (calm false) (λ w. ended_marks (marks_in k w)) (λ w. let (b, leads) = calm-in k w in both-lead (calm false) (calm b) (calm false) (marks_in k w) (Seen class.EndsItem (codes ".") ∷ []) leads refl) ws) refl

kb-stays : (kb : WrittenKb) → Stays (calm false) (kb_marks kb)
kb-stays (OfKind k items) = items-stay k items

-- ---- a whole text
context-passed : (n : Bool) (c : WrittenContext) → IsContext c → Leads' (between n) (between true) (context_marks c)
context-passed n c h = kb-stays c.kb

pub text-passed : (t : WrittenText) → IsText t → (after first_turn (text_marks t)).phase ≡ Free
text-passed t h =
    let one = each-between IsContext context_marks context-passed false t.contexts h.0 in
    let more = each-between IsWrittenBridge bridge_marks bridge-passed one.0 t.bridges h.1 in
    ap (λ (s : Turn). s.phase) (both-lead first_turn first_turn (between more.0) (version_marks t.has_version) _ (version-stays t.has_version)
    (both-lead first_turn (between one.0) (between more.0) (flat_map context_marks t.contexts) (flat_map bridge_marks t.bridges) one.1 more.1))
  where
    version-stays : (v : Bool) → Stays first_turn (version_marks v)
    version-stays true = refl
    version-stays false = refl

-- the class is that of the last token of a belief
abbrev pub EndsBelief : Class → Type 0
EndsBelief c = (r : Bool) × (d : Depth) × (ends c r d ≡ true)

-- ---- so no read ends late
-- a read ends before the next token
abbrev pub ends_late : Events → Bool
ends_late [] = false
ends_late (Took c ∷ xs) = false
ends_late (Told action.EndsRead ∷ xs) = true
ends_late (Told a ∷ xs) = ends_late xs

if-broken : (b : Bool) (p : Phase) → p ≡ Broken → phase_if b p ≡ Broken
if-broken true p e = e
if-broken false p e = refl

pub stays-broken : (s : Turn) (xs : Events) → s.phase ≡ Broken → (passed s xs).phase ≡ Broken
stays-broken s [] h = h
stays-broken s (Took c ∷ xs) h = stays-broken (turn_took s c) xs (if-broken (comes c s.named) (phase_after s.phase (ends c s.reads s.depth)) (ap (λ (p : Phase). phase_after p (ends c s.reads s.depth)) h))
stays-broken s (Told a ∷ xs) h = stays-broken (turn_told s a) xs (ap (λ (p : Phase). phase_told a p s.formed) h ∙ broken a)
  where
    broken : (a : Action) → phase_told a Broken s.formed ≡ Broken
    broken action.EndsRead = refl
    broken a = refl

-- where no belief of a read has ended, the end of a read breaks it
late-broken : (s : Turn) (xs : Events) → ¬ (s.phase ≡ Due) → ends_late xs ≡ true → (passed s xs).phase ≡ Broken
late-broken s [] h e = absurd (cc)
late-broken s (Took c ∷ xs) h e = absurd (cc)
late-broken s (Told action.EndsRead ∷ xs) h e = stays-broken (turn_told s action.EndsRead) xs (at s.phase h)
  where
    at : (p : Phase) → ¬ (p ≡ Due) → ended p s.formed ≡ Broken
    at Free h = refl
    at Due h = absurd (h refl)
    at Over h = refl
    at Broken h = refl
late-broken s (Told a ∷ xs) h e = late-broken (turn s.reads s.depth s.formed s.named (joined s.phase)) xs (at s.phase h) e
  where
    at : (p : Phase) → ¬ (p ≡ Due) → ¬ (joined p ≡ Due)
    at Free h k = absurd (cc)
    at Due h k = h k
    at Over h k = absurd (cc)
    at Broken h k = absurd (cc)

pub late-or-token : (s : Turn) (xs ys : Events) (c : Class) → (passed s xs).phase ≡ Free → (passed s (Took c ∷ ys)).phase ≡ Free → ends_late xs ≡ false
late-or-token s xs ys c h k = at (ends_late xs) refl
  where
    free : ¬ (s.phase ≡ Due)
    free due =
        let broken : (passed s (Took c ∷ ys)).phase ≡ Broken = stays-broken (turn_took s c) ys (if-broken (comes c s.named) (phase_after s.phase (ends c s.reads s.depth)) (ap (λ (p : Phase). phase_after p (ends c s.reads s.depth)) due)) in
        let same : Free ≡ Broken = sym k ∙ broken in absurd (cc)

    at : (b : Bool) → ends_late xs ≡ b → b ≡ false
    at false e = refl
    at true e = let same : Free ≡ Broken = sym h ∙ late-broken s xs free e in absurd (cc)
