-- By what a proof tells nodes apart.
use Rattle.std.specs.Prelude.{ℕ, Bool, List, Option, refl}
use Rattle.std.specs.Coded.{Coded, code_by, coded×, coded_ℕ, coded_bool, coded_list, coded_option}
use Rattle.mcs_system.specs.Plain.{System}
use Rattle.mcs_system.specs.Codes.{coded_system}
use Rattle.mcs_rows.specs.Local.{Answered}
use Rattle.mcs_states.specs.Codes.{coded_halt, coded_oracle}
use Rattle.mcs_states.specs.Oracles.{OracleState}
use Rattle.mcs_states.specs.declared.halt.Halt.{Halt}
use Rattle.mcs_node.specs.Rounds.{NodeState, Stamp}
use Rattle.mcs_node.specs.Letters.{LetterData, coded_letter}
use Rattle.mcs_node.specs.Known.{Knowledge}
use Rattle.mcs_node.specs.Nodes.{NodeData}

abbrev pub coded_answered : Coded Answered
coded_answered = code_by (ℕ × List ℕ) (coded× coded_ℕ (coded_list coded_ℕ)) (λ a. (a.question, a.parts)) (λ t. record { question = t.0; parts = t.1 }) (λ _. refl)

abbrev pub coded_knowledge : Coded Knowledge
coded_knowledge = code_by (List Answered × List ℕ) (coded× (coded_list coded_answered) (coded_list coded_ℕ)) (λ k. (k.answers, k.supplies)) (λ t. record { answers = t.0; supplies = t.1 }) (λ _. refl)

abbrev pub coded_stamp : Coded Stamp
coded_stamp = code_by (ℕ × (ℕ × (ℕ × Bool))) (coded× coded_ℕ (coded× coded_ℕ (coded× coded_ℕ coded_bool))) (λ s. (s.level, (s.from, (s.to, s.stop)))) (λ t. record { level = t.0; from = t.1.0; to = t.1.1.0; stop = t.1.1.1 }) (λ _. refl)

abbrev pub coded_state : Coded NodeState
coded_state = code_by (Bool × (List Stamp × (Option ℕ × (List Stamp × (Bool × (Option Halt × Bool))))))
    (coded× coded_bool (coded× (coded_list coded_stamp) (coded× (coded_option coded_ℕ) (coded× (coded_list coded_stamp) (coded× coded_bool (coded× (coded_option coded_halt) coded_bool))))))
    (λ s. (s.begun, (s.had, (s.granted, (s.put_out, (s.done, (s.halt, s.by_itself)))))))
    (λ t. record { begun = t.0; had = t.1.0; granted = t.1.1.0; put_out = t.1.1.1.0; done = t.1.1.1.1.0; halt = t.1.1.1.1.1.0; by_itself = t.1.1.1.1.1.1 }) (λ _. refl)

abbrev pub NodeParts : Type 0
NodeParts = (System × (ℕ × (ℕ × OracleState))) × ((Option ℕ × (Option ℕ × NodeState)) × (List ℕ × (List LetterData × Knowledge)))

abbrev pub coded_node : Coded NodeData
coded_node = code_by NodeParts
    (coded× (coded× coded_system (coded× coded_ℕ (coded× coded_ℕ coded_oracle))) (coded× (coded× (coded_option coded_ℕ) (coded× (coded_option coded_ℕ) coded_state)) (coded× (coded_list coded_ℕ) (coded× (coded_list coded_letter) coded_knowledge))))
    (λ d. ((d.plan, (d.context, (d.budget, d.oracle))), ((d.before, (d.level, d.state)), (d.receivers, (d.outbox, d.known)))))
    (λ t. record { plan = t.0.0; context = t.0.1.0; budget = t.0.1.1.0; oracle = t.0.1.1.1; before = t.1.0.0; level = t.1.0.1.0; state = t.1.0.1.1; receivers = t.1.1.0; outbox = t.1.1.1.0; known = t.1.1.1.1 }) (λ _. refl)
