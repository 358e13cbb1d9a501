-- A text without faults names no context that is not there, and no two contexts or rules alike.
use Rattle.std.proofs.Common.{◌≡◌, ℕ, ◌<◌, false, not, nat_lt, map, length, sym, ap, ◌∙◌, subst, arith}
use Rattle.std.specs.List.{list_any}
use Rattle.std.proofs.lemmas.Bool.{or_from, not_from_true, lt-ltb}
use Rattle.std.proofs.lemmas.Simd.{map-map}
use Rattle.mcs_base.specs.Listings.{IsAmong}
use Rattle.mcs_base.proofs.Among.{any_none}
use Rattle.mcs_base.proofs.Lists.{zip_map_same}
use Rattle.mcs_system.specs.Plain.{Context, Read, Bridge, System}
use Rattle.mcs_system.specs.Faults.{reads_of, points_outside, has_unknown_context, has_twins, has_twin_names}
use Rattle.mcs_system.proofs.NameLemmas.{no_twins, position-below}
use Rattle.mcs_grammar.specs.Written.{WrittenBridge, WrittenText}
use Rattle.mcs_grammar.specs.Saying.{context_in, SaysBridge, SaysSystem, names_of}
use Rattle.mcs_grammar.specs.Faults.{AreDifferent}
use Rattle.mcs_faults.proofs.UsesLemmas.{text_uses, names-there, rule-names-there}
use Rattle.mcs_faults.proofs.Within.{IsWithin}
use Rattle.mcs_grammar.proofs.SaidSystem.{read-written, as-many-contexts, as-many-names, bridge-written}

-- ---- unknown contexts
pub no-unknown : (t : WrittenText) (m : System) → SaysSystem t m → has_unknown_context m ≡ false
no-unknown t m says = any_none (points_outside (length m.contexts)) m.bridges known
  where
    below : (w : WrittenBridge) (b : Bridge) → SaysBridge (names_of t.contexts) w b → (k : ℕ) → k < length (names_of t.contexts) → k < length m.contexts
    below w b s k less = let many = as-many-contexts t m says in let named = as-many-names t m says in omega arith

    known : (b : Bridge) → IsAmong b m.bridges → points_outside (length m.contexts) b ≡ false
    known b h =
        let (w, there, s) = bridge-written t m says b h in
        or_from (not (nat_lt b.target (length m.contexts))) (list_any (λ (r : Read). not (nat_lt r.context (length m.contexts))) (reads_of b))
        (not_from_true _ (lt-ltb b.target (length m.contexts) (below w b s b.target (position-below (w.head).context (names_of t.contexts) b.target (s.head).number))))
        (any_none (λ (r : Read). not (nat_lt r.context (length m.contexts))) (reads_of b) (λ r here.
        let (q, in_reads, place) = read-written (names_of t.contexts) w b r s here in
        not_from_true _ (lt-ltb r.context (length m.contexts) (below w b s r.context (position-below (q.place).context (names_of t.contexts) r.context place.number)))))

-- ---- twins
pub no-twins : (t : WrittenText) (m : System) → SaysSystem t m → IsWithin (text_uses t) → has_twin_names m ≡ false
no-twins t m says within = or_from (has_twins (map (λ (c : Context). c.name) m.contexts)) (has_twins (map (λ (b : Bridge). b.name) m.bridges))
    (ap has_twins (ap (map (λ (c : Context). c.name)) says.contexts ∙ map-map (λ (c : Context). c.name) context_in t.contexts) ∙ (no_twins (names_of t.contexts)).1 (subst AreDifferent (names-there t) within.different_contexts))
    (ap has_twins (sym (zip_map_same (SaysBridge (names_of t.contexts)) (λ w. w.name) (λ b. b.name) (λ w b s. sym s.named) t.bridges m.bridges says.bridges)) ∙ (no_twins (map (λ (w : WrittenBridge). w.name) t.bridges)).1 (subst AreDifferent (rule-names-there t) within.different_bridges))
