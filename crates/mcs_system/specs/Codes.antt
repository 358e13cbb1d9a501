-- By what a proof tells plain data apart.
use Rattle.std.specs.Prelude.{◌≡◌, ℕ, Bool, List, refl}
use Rattle.std.specs.Coded.{Coded, code_by, coded×, coded_ℕ, coded_bool, coded_list}
use base.Stored.{Gv, coded_via}
use Rattle.std.proofs.Common.{ap, subst}
use Rattle.mcs_system.specs.Plain.{Name, Formula, Kind, ItemOf, Kb, OfKind, Context, Read, Bridge, System}
pub use Rattle.mcs_system.specs.ItemCodes.{coded_name, coded_formula}
use Rattle.mcs_system.specs.Kinds.{kind_number, kinds_apart, coded_in}

abbrev pub coded_read : Coded Read
coded_read = code_by (ℕ × Formula) (coded× coded_ℕ coded_formula) (λ r. (r.context, r.belief)) (λ t. record { context = t.0; belief = t.1 }) (λ _. refl)

-- the number of its kind, and its items as the kind has them
pub kb_parts : Kb → ℕ × Gv
kb_parts (OfKind k items) = (kind_number k, (coded_list (coded_in k)).code items)

same_kb : (k l : Kind) → k ≡ l → (xs : List (ItemOf k)) (ys : List (ItemOf l)) → (coded_list (coded_in k)).code xs ≡ (coded_list (coded_in l)).code ys → OfKind k xs ≡ OfKind l ys
same_kb k l same xs =
    subst (λ (l : Kind). (ys : List (ItemOf l)) → (coded_list (coded_in k)).code xs ≡ (coded_list (coded_in l)).code ys → OfKind k xs ≡ OfKind l ys) same
    (λ ys e. ap (λ items. OfKind k items) ((coded_list (coded_in k)).inj xs ys e))

pub kbs_apart : (a b : Kb) → kb_parts a ≡ kb_parts b → a ≡ b
unfolding kb_parts
kbs_apart (OfKind k xs) (OfKind l ys) e = same_kb k l (kinds_apart k l (ap (λ p. p.0) e)) xs ys (ap (λ p. p.1) e)

abbrev pub coded_gv : Coded Gv
coded_gv = record { code = λ g. g; inj = λ g h e. e }

abbrev pub coded_kb : Coded Kb
coded_kb = coded_via (coded× coded_ℕ coded_gv) kb_parts kbs_apart

-- equal knowledge bases of one kind have equal items
pub same_items : (k : Kind) (xs ys : List (ItemOf k)) → OfKind k xs ≡ OfKind k ys → xs ≡ ys
unfolding kb_parts
same_items k xs ys e = (coded_list (coded_in k)).inj xs ys (ap (λ b. (kb_parts b).1) e)

abbrev pub coded_context : Coded Context
coded_context = code_by (Name × Kb) (coded× coded_name coded_kb) (λ c. (c.name, c.kb)) (λ t. record { name = t.0; kb = t.1 }) (λ _. refl)

abbrev pub BridgeParts : Type 0
BridgeParts = (Name × (ℕ × (Formula × (List Read × List Read)))) × (Bool × (Bool × ℕ))

abbrev pub bridge_parts : Bridge → BridgeParts
bridge_parts b = ((b.name, (b.target, (b.head, (b.pos, b.neg)))), (b.keep, (b.closed, b.weight)))

abbrev pub bridge_from : BridgeParts → Bridge
bridge_from t = record { name = t.0.0; target = t.0.1.0; head = t.0.1.1.0; pos = t.0.1.1.1.0; neg = t.0.1.1.1.1; keep = t.1.0; closed = t.1.1.0; weight = t.1.1.1 }

abbrev pub coded_bridge : Coded Bridge
coded_bridge = code_by BridgeParts
    (coded× (coded× coded_name (coded× coded_ℕ (coded× coded_formula (coded× (coded_list coded_read) (coded_list coded_read))))) (coded× coded_bool (coded× coded_bool coded_ℕ)))
    bridge_parts bridge_from (λ _. refl)

abbrev pub coded_system : Coded System
coded_system = code_by (List Context × List Bridge) (coded× (coded_list coded_context) (coded_list coded_bridge)) (λ s. (s.contexts, s.bridges)) (λ t. record { contexts = t.0; bridges = t.1 }) (λ _. refl)
