-- What contexts may supply, where it is known of each.
use Rattle.std.proofs.Common.{Vec, Global, ◌≡◌, ℕ, ◌+◌, ◌<◌, List, [], ◌∷◌, ◌++◌, map, take, length, get_or, slice_get, Option, Some, refl, sym, ap, ◌∙◌, subst, inl, inr, arith}
use Rattle.std.proofs.lemmas.List.{take_more}
use Rattle.std.proofs.lemmas.Option.{slice_get_read}
use Rattle.mcs_sets.specs.Orders.{StateBefore}
use Rattle.mcs_base.specs.Listings.{IsAmong, IsListing}
use Rattle.mcs_base.proofs.Each.{all_among}
use Rattle.mcs_base.proofs.Lists.{slice_get_below, slice_get-map_some}
use Rattle.mcs_base.proofs.Mapped.{map_push_as}
use Rattle.mcs_system.specs.Plain.{System}
use Rattle.mcs_system.specs.Imports.{IsImportOrder, supplied}
use Rattle.mcs_system.specs.Levels.{MaySupply}
use Rattle.mcs_import.specs.Plans.{AreSupplies}
use Rattle.mcs_import.proofs.OrderLemmas.{supplied_in_range}
use Rattle.mcs_rows.specs.Local.{Answered, AreAnswered}
use Rattle.mcs_node.specs.Known.{IsKnown, Knowledge}
use Rattle.mcs_node.specs.Nodes.{NodeData}
use Rattle.mcs_mesh.specs.Players.{known_to}
use Rattle.mcs_mesh.specs.Rounds.{AreKnown, supplies_at, supplies_in}

-- ---- of some contexts
supplies_known : (m : System) (level : ℕ) (known : List Knowledge) (js : List ℕ) → ((j : ℕ) → IsAmong j js → (k : Knowledge) × (slice_get known j ≡ Some k) × IsKnown m level j k) → AreSupplies m level js (supplies_at known js)
supplies_known m level known [] each = tt
supplies_known m level known (j ∷ js) each = let (k, is, one) = each j (inl refl) in
    (subst (λ (o : Option Knowledge). IsListing (MaySupply m level j) StateBefore (supplies_in o)) (sym is) one.supplies, supplies_known m level known js (λ l h. each l (inr h)))

-- ---- what is told
pub supplies_more : (known : List Knowledge) (js : List ℕ) (k j : ℕ) (one : Knowledge) (told now : List (Vec ℕ Global)) (supply : Vec ℕ Global) → k < length js → j ≡ get_or js k 0 → slice_get known j ≡ Some one
    → supply.items ≡ one.supplies → now ≡ told ++ supply ∷ [] → map (λ (v : Vec ℕ Global). v.items) told ≡ supplies_at known (take k js) → map (λ (v : Vec ℕ Global). v.items) now ≡ supplies_at known (take (k + 1) js)
supplies_more known js k j one told now supply more is_j there same is so_far =
    let here : supply.items ≡ supplies_in (slice_get known j) = same ∙ sym (ap supplies_in there) in
    map_push_as (λ (v : Vec ℕ Global). v.items) told now supply is ∙ ap (λ xss. xss ++ supply.items ∷ []) so_far ∙ ap (λ xs. supplies_at known (take k js) ++ xs ∷ []) (here ∙ ap (λ n. supplies_in (slice_get known n)) is_j)
    ∙ sym (map_push_as (λ n. supplies_in (slice_get known n)) (take k js) (take (k + 1) js) (get_or js k 0) (take_more js k 0 more))

-- where each context is known, so is what those that supply one may supply
pub told_all : (m : System) (level i : ℕ) (known : List Knowledge) → length known ≡ length m.contexts → AreKnown m level known → (told : List (List ℕ)) → ((order : List ℕ) → IsImportOrder m order → told ≡ supplies_at known (supplied m order i)) → (order : List ℕ) → IsImportOrder m order
    → AreSupplies m level (supplied m order i) told
told_all m level i known each all told is_told order ordered = subst (λ xss. AreSupplies m level (supplied m order i) xss) (sym (is_told order ordered)) (supplies_known m level known (supplied m order i) (λ j h.
    let low = all_among (λ c. c < length m.contexts) (supplied m order i) j (supplied_in_range m order i ordered) h in
    let (l, at) = slice_get_below known j (omega (arith, low, each)) in (l, at, all j l at)))

-- the answers of the node that was read
pub answered_at : (m : System) (level i : ℕ) (nodes : List NodeData) (d : NodeData) → AreKnown m level (known_to nodes) → i < length nodes → d ≡ get_or nodes i d → (answers : List Answered) → answers ≡ d.known.answers → AreAnswered m level i answers
answered_at m level i nodes d known less here answers is =
    subst (λ (xs : List Answered). AreAnswered m level i xs) (sym is)
    (known i d.known (slice_get-map_some (λ (z : NodeData). z.known) nodes i d (slice_get_read nodes (length nodes) i d refl less here))).answered
