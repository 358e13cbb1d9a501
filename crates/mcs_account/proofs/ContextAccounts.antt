-- What is written of contexts, and of a whole text, is accounted for.
use Rattle.std.proofs.Common.{◌≡◌, ℕ, Bool, true, false, codes, List, [], ◌∷◌, ◌++◌, map, refl, sym, ap, ◌∙◌, append_assoc, append-nil}
use Rattle.std.specs.List.{flat_map, AllByRecursion}
use Rattle.mcs_system.specs.Plain.{Name}
use Rattle.mcs_system.specs.Plain as plain
use Rattle.mcs_grammar.specs.Written.{WrittenKb, OfKind, WrittenOf, IsWrittenIn, IsKb, WrittenContext, IsContext, WrittenBridge, WrittenText, IsText}
use Rattle.mcs_grammar.specs.Entries.{kind_word}
use Rattle.mcs_grammar.specs.Saying.{said_in, kb_in, context_in}
use Rattle.mcs_productions.specs.declared.class.Class.TheVariants as class
use Rattle.mcs_account.specs.Mark.{Seen}
use Rattle.mcs_account.specs.Marks.{Marked, ended_marks, marks_in, kind_class, kb_marks, context_marks, bridge_marks, version_marks, text_marks}
use Rattle.mcs_account.specs.Account.{Account, took, no_account, no_rule, with_kb, accounted}
use Rattle.mcs_account.proofs.Accounts.{accounted-append, last-changed, bridge_said, idle, bridge-accounts}
use Rattle.mcs_account.proofs.ItemAccounts.{filling}
use Rattle.mcs_account.proofs.KindItems.{word-accounts, accounts-in}

-- ---- contexts
items-account : (k : plain.Kind) (a : Account) (n : Name) (ws : List (WrittenOf k)) → AllByRecursion (IsWrittenIn k) ws → (xs : List (plain.ItemOf k))
    → accounted (filling a n (plain.OfKind k xs)) (flat_map (λ w. ended_marks (marks_in k w)) ws) ≡ filling a n (plain.OfKind k (xs ++ map (said_in k) ws))
items-account k a n [] h xs = ap (λ l. filling a n (plain.OfKind k l)) (sym (append-nil xs))
items-account k a n (w ∷ ws) h xs =
    accounted-append (filling a n (plain.OfKind k xs)) (ended_marks (marks_in k w)) (flat_map (λ x. ended_marks (marks_in k x)) ws) ∙ ap (λ (x : Account). accounted x (flat_map (λ x. ended_marks (marks_in k x)) ws)) (accounts-in k w h.0 a n xs)
    ∙ items-account k a n ws h.1 (xs ++ said_in k w ∷ []) ∙ ap (λ l. filling a n (plain.OfKind k l)) (append_assoc xs (said_in k w ∷ []) (map (said_in k) ws))

-- between the parts of a text, where no rule is begun
abbrev pub resting : Account → ℕ → Account
resting a k = record (idle a k) { rule = no_rule }

-- the word that says the kind
kind-accounts : (k : plain.Kind) (a : Account) (n : Name) → took (filling a n (plain.Classical [])) (kind_class k) (kind_word k) ≡ filling a n (plain.OfKind k [])
kind-accounts k a n = word-accounts k (filling a n (plain.Classical [])) ∙ ap (λ l. record (filling a n (plain.Classical [])) { contexts = l }) (last-changed (with_kb (plain.OfKind k [])) a.contexts (record { name = n; kb = plain.Classical [] }))

context-accounts : (a : Account) (k : ℕ) (c : WrittenContext) → IsContext c → accounted (resting a k) (context_marks c) ≡ record (resting a k) { contexts = a.contexts ++ context_in c ∷ [] }
context-accounts a k c h = at c.kb h.1
  where
    at : (kb : WrittenKb) → IsKb kb → accounted (filling (resting a k) c.name (plain.Classical [])) (kb_marks kb) ≡ filling (resting a k) c.name (kb_in kb)
    at (OfKind kind items) g =
        let ms : Marked = flat_map (λ i. ended_marks (marks_in kind i)) items in
        let end : Marked = Seen class.ClosesItems (codes "}") ∷ [] in
        ap (λ (x : Account). accounted x (Seen class.OpensItems (codes "{") ∷ (ms ++ end))) (kind-accounts kind (resting a k) c.name)
        ∙ accounted-append (filling (resting a k) c.name (plain.OfKind kind [])) ms end
        ∙ ap (λ (x : Account). accounted x end) (items-account kind (resting a k) c.name items g [])

contexts-account : (a : Account) (k : ℕ) (cs : List WrittenContext) → AllByRecursion IsContext cs → accounted (resting a k) (flat_map context_marks cs) ≡ record (resting a k) { contexts = a.contexts ++ map context_in cs }
contexts-account a k [] h = ap (λ l. record (resting a k) { contexts = l }) (sym (append-nil a.contexts))
contexts-account a k (c ∷ cs) h =
    accounted-append (resting a k) (context_marks c) (flat_map context_marks cs) ∙ ap (λ (x : Account). accounted x (flat_map context_marks cs)) (context-accounts a k c h.0)
    ∙ contexts-account (record a { contexts = a.contexts ++ context_in c ∷ [] }) k cs h.1 ∙ ap (λ l. record (resting a k) { contexts = l }) (append_assoc a.contexts (context_in c ∷ []) (map context_in cs))

bridges-account : (a : Account) (k : ℕ) (bs : List WrittenBridge) → (source : ℕ) × (accounted (resting a k) (flat_map bridge_marks bs) ≡ record (resting a source) { bridges = a.bridges ++ map (bridge_said a.contexts) bs })
bridges-account a k [] = (k, ap (λ l. record (resting a k) { bridges = l }) (sym (append-nil a.bridges)))
bridges-account a k (b ∷ bs) =
    let one = bridge-accounts (record a { rule = no_rule }) k b in
    let more = bridges-account (record a { bridges = a.bridges ++ bridge_said a.contexts b ∷ [] }) one.0 bs in (
      more.0,
      accounted-append (resting a k) (bridge_marks b) (flat_map bridge_marks bs) ∙ ap (λ (x : Account). accounted x (flat_map bridge_marks bs)) one.1 ∙ more.1
          ∙ ap (λ l. record (resting a more.0) { bridges = l }) (append_assoc a.bridges (bridge_said a.contexts b ∷ []) (map (bridge_said a.contexts) bs)),
    )

version-account : (v : Bool) (ms : Marked) → accounted no_account (version_marks v ++ ms) ≡ accounted no_account ms
version-account true ms = refl
version-account false ms = refl

-- what a whole text says
pub text-accounts : (t : WrittenText) → IsText t
    → (source : ℕ) × (accounted no_account (text_marks t) ≡ record no_account { contexts = map context_in t.contexts; bridges = map (bridge_said (map context_in t.contexts)) t.bridges; source = source })
text-accounts t h =
    let cs : List plain.Context = map context_in t.contexts in
    let more = bridges-account (record no_account { contexts = cs }) 0 t.bridges in
    (more.0, version-account t.has_version (flat_map context_marks t.contexts ++ flat_map bridge_marks t.bridges) ∙ accounted-append no_account (flat_map context_marks t.contexts) (flat_map bridge_marks t.bridges) ∙ ap (λ (x : Account). accounted x (flat_map bridge_marks t.bridges)) (contexts-account no_account 0 t.contexts h.0) ∙ more.1)
