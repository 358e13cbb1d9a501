-- How often a text's tokens are there for something, told by its parts.
use Rattle.std.proofs.Common.{◌≡◌, ℕ, ◌+◌, Bool, true, false, cond, Option, Some, None, List, [], ◌∷◌, ◌++◌, map, length, refl, sym, ap, ◌∙◌, arith, append-nil, true≢false}
use Rattle.std.specs.Prelude.{count_by}
use Rattle.std.specs.List.{flat_map, sum_by}
use Rattle.std.proofs.lemmas.List.Concat.{flat_map_single}
use Rattle.std.proofs.lemmas.Grind.{flat_map-append}
use Rattle.mcs_base.specs.Listings.{IsAmong}
use Rattle.mcs_base.specs.Numbers.{value_of_digits}
use Rattle.mcs_base.proofs.Sums.{count_by-cons, count_by-append, count_none, sum_by_same, sum_by_none, sum_by-ones, count_by-flat_map}
use Rattle.mcs_base.proofs.Among.{flat_map_none}
use Rattle.mcs_base.proofs.Lists.{flat_map_same, flat_map-flat_map}
use Rattle.mcs_system.specs.Plain.{Name}
use Rattle.mcs_grammar.specs.Written.{WrittenKb, WrittenContext, WrittenBridge, WrittenText}
use Rattle.mcs_grammar.specs.Entries.{Token, Use, BeginsContext, BeginsBridge, NamesContext, NamesBridge, Weighs, NamesTarget, kb_entries, context_entries, bridge_entries, uses_of}
use Rattle.mcs_grammar.specs.Saying.{names_of}
use Rattle.mcs_grammar.specs.Faults.{begins_context, begins_bridge, names_target}
use Rattle.mcs_account.specs.Known.{context_named, contexts_named}
use Rattle.mcs_faults.specs.Watching.{bridge_named, bridges_named}
use Rattle.mcs_account.proofs.UsesParts.{text_uses, goes_into}
use Rattle.mcs_account.proofs.TextUses.{version-uses}
use Rattle.mcs_account.proofs.EntryLists.{uses-append, uses-flat_map}
use Rattle.mcs_account.proofs.ContextUses.{in_kb, kb-in}
use Rattle.mcs_account.proofs.BridgeUses.{weight_uses, later_uses, bridge-front, later-in, in_read}

-- ---- over the parts of a text
module _ (p : Use → Bool) where
  pub text-count : (w : WrittenContext → ℕ) (v : WrittenBridge → ℕ) (t : WrittenText) → ((x : WrittenContext) → IsAmong x t.contexts → count_by p (uses_of (context_entries x)) ≡ w x) → ((b : WrittenBridge) → count_by p (uses_of (bridge_entries b)) ≡ v b) → count_by p (text_uses t) ≡ sum_by w t.contexts + sum_by v t.bridges
  text-count w v t of_context of_bridge =
      let cut = ap (count_by p) (version-uses t.has_version (flat_map context_entries t.contexts ++ flat_map bridge_entries t.bridges) ∙ uses-append (flat_map context_entries t.contexts) (flat_map bridge_entries t.bridges)) in
      let sides = count_by-append p (uses_of (flat_map context_entries t.contexts)) (uses_of (flat_map bridge_entries t.bridges)) in
      let left = ap (count_by p) (uses-flat_map context_entries t.contexts) ∙ count_by-flat_map p (λ (x : WrittenContext). uses_of (context_entries x)) t.contexts ∙ sum_by_same (λ (x : WrittenContext). count_by p (uses_of (context_entries x))) w t.contexts of_context in
      let right = ap (count_by p) (uses-flat_map bridge_entries t.bridges) ∙ count_by-flat_map p (λ (b : WrittenBridge). uses_of (bridge_entries b)) t.bridges ∙ sum_by_same (λ (b : WrittenBridge). count_by p (uses_of (bridge_entries b))) v t.bridges (λ b here. of_bridge b) in
      omega arith

  -- of a context: its first two tokens, and its knowledge base
  pub context-parts : (x : WrittenContext) → count_by p (uses_of (context_entries x)) ≡ cond (p BeginsContext) 1 0 + (cond (p (NamesContext x.name)) 1 0 + count_by p (uses_of (kb_entries x.name x.kb)))
  context-parts x =
      let one = count_by-cons p BeginsContext (NamesContext x.name ∷ uses_of (kb_entries x.name x.kb)) in
      let two = count_by-cons p (NamesContext x.name) (uses_of (kb_entries x.name x.kb)) in
      omega arith

  kb-none : (c : Name) (kb : WrittenKb) → ((u : Use) → in_kb u ≡ true → p u ≡ false) → count_by p (uses_of (kb_entries c kb)) ≡ 0
  kb-none c kb none = count_none p (uses_of (kb_entries c kb)) (λ u here. none u (kb-in c kb u here))

  weight-none : (w : Option Token) → ((n : ℕ) → p (Weighs n) ≡ false) → (us : List Use) → count_by p (weight_uses w ++ us) ≡ count_by p us
  weight-none None none us = refl
  weight-none (Some digits) none us =
      let cut : count_by p (Weighs (value_of_digits digits) ∷ us) ≡ 0 + count_by p us = count_by-cons p (Weighs (value_of_digits digits)) us ∙ ap (λ (b : Bool). cond b 1 0 + count_by p us) (none (value_of_digits digits)) in
      omega (arith, cut)

  -- of a bridge rule: its first tokens, and those after the name of the head's context
  pub bridge-parts : (b : WrittenBridge) → ((n : ℕ) → p (Weighs n) ≡ false) → ((u : Use) → in_read u ≡ true → p u ≡ false) → count_by p (uses_of (bridge_entries b)) ≡ cond (p BeginsBridge) 1 0 + (cond (p (NamesBridge b.name)) 1 0 + cond (p (NamesTarget (b.head).context)) 1 0)
  bridge-parts b light none =
      let whole = ap (count_by p) (bridge-front b) in
      let one = count_by-cons p BeginsBridge (NamesBridge b.name ∷ (weight_uses b.marks.weight ++ NamesTarget (b.head).context ∷ later_uses b)) in
      let two = count_by-cons p (NamesBridge b.name) (weight_uses b.marks.weight ++ NamesTarget (b.head).context ∷ later_uses b) in
      let weight = weight-none b.marks.weight light (NamesTarget (b.head).context ∷ later_uses b) in
      let three = count_by-cons p (NamesTarget (b.head).context) (later_uses b) in
      let later = count_none p (later_uses b) (λ u here. none u (later-in b u here)) in
      omega arith

-- ---- what they are not
context-no-kb : (u : Use) → in_kb u ≡ true → begins_context u ≡ false
context-no-kb BeginsContext e = absurd (true≢false (sym e))
context-no-kb u e = refl

context-no-read : (u : Use) → in_read u ≡ true → begins_context u ≡ false
context-no-read BeginsContext e = absurd (true≢false (sym e))
context-no-read u e = refl

bridge-no-kb : (u : Use) → in_kb u ≡ true → begins_bridge u ≡ false
bridge-no-kb BeginsBridge e = absurd (true≢false (sym e))
bridge-no-kb u e = refl

bridge-no-read : (u : Use) → in_read u ≡ true → begins_bridge u ≡ false
bridge-no-read BeginsBridge e = absurd (true≢false (sym e))
bridge-no-read u e = refl

target-no-kb : (c : Name) (u : Use) → in_kb u ≡ true → names_target c u ≡ false
target-no-kb c (NamesTarget d) e = absurd (true≢false (sym e))
target-no-kb c u e = refl

target-no-read : (c : Name) (u : Use) → in_read u ≡ true → names_target c u ≡ false
target-no-read c (NamesTarget d) e = absurd (true≢false (sym e))
target-no-read c u e = refl

-- ---- contexts, bridge rules and heads
pub context-count : (t : WrittenText) → count_by begins_context (text_uses t) ≡ length t.contexts
context-count t =
    let sum = text-count begins_context (λ (x : WrittenContext). 1) (λ (b : WrittenBridge). 0) t (λ x here. let none = kb-none begins_context x.name x.kb context-no-kb in let all = context-parts begins_context x in omega arith) (λ b. bridge-parts begins_context b (λ n. refl) context-no-read) in
    let long = sum_by-ones t.contexts in
    let none = sum_by_none (λ (b : WrittenBridge). 0) t.bridges (λ b here. refl) in
    omega arith

pub bridge-count : (t : WrittenText) → count_by begins_bridge (text_uses t) ≡ length t.bridges
bridge-count t =
    let sum = text-count begins_bridge (λ (x : WrittenContext). 0) (λ (b : WrittenBridge). 1) t (λ x here. let none = kb-none begins_bridge x.name x.kb bridge-no-kb in let all = context-parts begins_bridge x in omega arith) (λ b. bridge-parts begins_bridge b (λ n. refl) bridge-no-read) in
    let none = sum_by_none (λ (x : WrittenContext). 0) t.contexts (λ x here. refl) in
    let long = sum_by-ones t.bridges in
    omega arith

pub target-count : (t : WrittenText) (c : Name) → count_by (names_target c) (text_uses t) ≡ count_by (goes_into c) t.bridges
target-count t c =
    let sum = text-count (names_target c) (λ (x : WrittenContext). 0) (λ (b : WrittenBridge). cond (goes_into c b) 1 0) t (λ x here. let none = kb-none (names_target c) x.name x.kb (target-no-kb c) in let all = context-parts (names_target c) x in omega arith) (λ b. let all = bridge-parts (names_target c) b (λ n. refl) (target-no-read c) in omega arith) in
    let none = sum_by_none (λ (x : WrittenContext). 0) t.contexts (λ x here. refl) in
    omega arith

-- ---- names, in their order
-- what a list of uses gives, by the parts of a text
text-names : (g : Use → List Name) (v : WrittenContext → List Name) (w : WrittenBridge → List Name) (t : WrittenText) → ((x : WrittenContext) → flat_map g (uses_of (context_entries x)) ≡ v x) → ((b : WrittenBridge) → flat_map g (uses_of (bridge_entries b)) ≡ w b) → flat_map g (text_uses t) ≡ flat_map v t.contexts ++ flat_map w t.bridges
text-names g v w t of_context of_bridge =
    ap (flat_map g) (version-uses t.has_version (flat_map context_entries t.contexts ++ flat_map bridge_entries t.bridges) ∙ uses-append (flat_map context_entries t.contexts) (flat_map bridge_entries t.bridges) ∙ ap (λ (us : List Use). us ++ uses_of (flat_map bridge_entries t.bridges)) (uses-flat_map context_entries t.contexts) ∙ ap (λ (us : List Use). flat_map (λ x. uses_of (context_entries x)) t.contexts ++ us) (uses-flat_map bridge_entries t.bridges))
    ∙ flat_map-append g (flat_map (λ x. uses_of (context_entries x)) t.contexts) (flat_map (λ b. uses_of (bridge_entries b)) t.bridges)
    ∙ ap (λ (ns : List Name). ns ++ flat_map g (flat_map (λ b. uses_of (bridge_entries b)) t.bridges)) (flat_map-flat_map g (λ x. uses_of (context_entries x)) t.contexts ∙ flat_map_same (λ x. flat_map g (uses_of (context_entries x))) v t.contexts of_context)
    ∙ ap (λ (ns : List Name). flat_map v t.contexts ++ ns) (flat_map-flat_map g (λ b. uses_of (bridge_entries b)) t.bridges ∙ flat_map_same (λ b. flat_map g (uses_of (bridge_entries b))) w t.bridges of_bridge)

-- a weight gives none
weight-names : (g : Use → List Name) → ((n : ℕ) → g (Weighs n) ≡ []) → (w : Option Token) (us : List Use) → flat_map g (weight_uses w ++ us) ≡ flat_map g us
weight-names g none None us = refl
weight-names g none (Some digits) us = ap (λ (ns : List Name). ns ++ flat_map g us) (none (value_of_digits digits))

no-context-kb : (u : Use) → in_kb u ≡ true → context_named u ≡ []
no-context-kb (NamesContext c) e = absurd (true≢false (sym e))
no-context-kb u e = refl

no-context-read : (u : Use) → in_read u ≡ true → context_named u ≡ []
no-context-read (NamesContext c) e = absurd (true≢false (sym e))
no-context-read u e = refl

no-rule-kb : (u : Use) → in_kb u ≡ true → bridge_named u ≡ []
no-rule-kb (NamesBridge c) e = absurd (true≢false (sym e))
no-rule-kb u e = refl

no-rule-read : (u : Use) → in_read u ≡ true → bridge_named u ≡ []
no-rule-read (NamesBridge c) e = absurd (true≢false (sym e))
no-rule-read u e = refl

pub names-there : (t : WrittenText) → contexts_named (text_uses t) ≡ names_of t.contexts
names-there t =
    text-names context_named (λ (x : WrittenContext). x.name ∷ []) (λ (b : WrittenBridge). []) t
    (λ x. ap (λ (ns : List Name). x.name ∷ ns) (flat_map_none context_named (uses_of (kb_entries x.name x.kb)) (λ u here. no-context-kb u (kb-in x.name x.kb u here))))
    (λ b. ap (flat_map context_named) (bridge-front b) ∙ weight-names context_named (λ n. refl) b.marks.weight (NamesTarget (b.head).context ∷ later_uses b) ∙ flat_map_none context_named (later_uses b) (λ u here. no-context-read u (later-in b u here)))
    ∙ ap (λ (ns : List Name). flat_map (λ (x : WrittenContext). x.name ∷ []) t.contexts ++ ns) (flat_map_none (λ (b : WrittenBridge). []) t.bridges (λ b here. refl))
    ∙ append-nil (flat_map (λ (x : WrittenContext). x.name ∷ []) t.contexts)
    ∙ flat_map_single (λ (x : WrittenContext). x.name) t.contexts

pub rule-names-there : (t : WrittenText) → bridges_named (text_uses t) ≡ map (λ (b : WrittenBridge). b.name) t.bridges
rule-names-there t =
    text-names bridge_named (λ (x : WrittenContext). []) (λ (b : WrittenBridge). b.name ∷ []) t
    (λ x. flat_map_none bridge_named (uses_of (kb_entries x.name x.kb)) (λ u here. no-rule-kb u (kb-in x.name x.kb u here)))
    (λ b. ap (flat_map bridge_named) (bridge-front b) ∙ ap (λ (ns : List Name). b.name ∷ ns) (weight-names bridge_named (λ n. refl) b.marks.weight (NamesTarget (b.head).context ∷ later_uses b) ∙ flat_map_none bridge_named (later_uses b) (λ u here. no-rule-read u (later-in b u here))))
    ∙ ap (λ (ns : List Name). ns ++ flat_map (λ (b : WrittenBridge). b.name ∷ []) t.bridges) (flat_map_none (λ (x : WrittenContext). []) t.contexts (λ x here. refl))
    ∙ flat_map_single (λ (b : WrittenBridge). b.name) t.bridges
