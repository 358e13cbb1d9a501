-- How many questions and needs there are at most.
use Rattle.std.proofs.Common.{ℕ, ◌^◌, ◌<◌, ◌≤◌, length, Option, Some, None, arith}
use Rattle.std.proofs.Math.Pow.{pow_mono}
use Rattle.mcs_sets.specs.Sets.{size}
use Rattle.mcs_base.proofs.Distinct.{ascending_distinct}
use Rattle.mcs_import.proofs.CountLemmas.{counts_agree, few_within, questions_bounded}
use Rattle.mcs_import.proofs.RuleCounts.{few_into, few_sets}
use Rattle.mcs_system.specs.Faults.{IsValid}
use Rattle.mcs_system.specs.Imports.{rules_into}
use Rattle.mcs_system.specs.Plain.{System}
use Rattle.mcs_node.specs.Rounds.{Round}
use Rattle.mcs_node.specs.Steps.{IsNeedOf, WereAsked}
use Rattle.mcs_crew.specs.Teams.{seat_room}

-- ---- needs
-- no context has more than 4,096 new questions
pub few_needs : (r : Round) → IsValid r.system → (i need : ℕ) → i < length r.system.contexts → IsNeedOf r i need → need ≤ 4096
few_needs r valid i need less (xs, listing, is) =
    let few = few_within (rules_into r.system i) xs (ascending_distinct xs listing.ascending) (λ x among. (let (question, new) = (listing.exactly x).0 among in question.2.of_rules)) in
    let most : 2 ^ size (rules_into r.system i) ≤ 4096 = pow_mono (few_into r.system valid i less) in
    omega (arith, few, most, is)

pub few_asked : (m : System) → IsValid m → (before : Option ℕ) (n : ℕ) → WereAsked m before n → n ≤ seat_room
few_asked m valid None n none = omega (arith, none)
few_asked m valid (Some level) n count =
    let bound = questions_bounded m level n ((counts_agree m level n n count).1 (omega arith)) in
    let few = few_sets m valid in
    omega (arith, bound, few)
