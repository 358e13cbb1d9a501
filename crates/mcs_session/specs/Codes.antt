-- By what a proof tells what sessions stand for apart.
use Rattle.std.specs.Prelude.{ℕ, Bool, List, refl}
use Rattle.std.specs.Coded.{Coded, code_by, coded×, coded_ℕ, coded_bool, coded_list}
use Rattle.mcs_system.specs.Plain.{Formula, System}
use Rattle.mcs_system.specs.Codes.{coded_formula, coded_system}
use Rattle.mcs_session.specs.Keys.{Key}
use Rattle.mcs_session.specs.Sessions.{SessionState}

abbrev pub coded_key : Coded Key
coded_key = code_by (ℕ × (List Formula × List Formula)) (coded× coded_ℕ (coded× (coded_list coded_formula) (coded_list coded_formula)))
    (λ k. (k.context, (k.heads, k.beliefs))) (λ t. record { context = t.0; heads = t.1.0; beliefs = t.1.1 }) (λ _. refl)

abbrev pub coded_session : Coded SessionState
coded_session = code_by (System × (List (List Key) × Bool)) (coded× coded_system (coded× (coded_list (coded_list coded_key)) coded_bool))
    (λ s. (s.system, (s.journals, s.lent))) (λ t. record { system = t.0; journals = t.1.0; lent = t.1.1 }) (λ _. refl)
