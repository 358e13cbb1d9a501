-- A wire, on which several addresses send letters to one inbox: what its ends know, what each kind of step does to that, and the rule that always holds.
use Rattle.std.specs.Prelude.{◌≡◌, ℕ, ◌+◌, ◌-◌, ◌^◌, ◌<◌, List, [], ◌∷◌, ◌++◌, All}
use Rattle.std.specs.List.{sum_by}
use mathlib.Core.Option.{some}
use lib.ListN.{get_elem?}
use Rattle.mcs_system.specs.Plain.{System}
use Rattle.mcs_node.specs.Letters.{LetterData}
use Rattle.mcs_wire.specs.declared.view.View.{View}

-- the system of nothing
abbrev pub no_system : System
no_system = record { contexts = []; bridges = [] }

-- an address with so many parts, by which these letters were sent
abbrev pub address_view : System → ℕ → ℕ → List LetterData → View
address_view plan addresses parts sent = record { reads = 0; plan = plan; addresses = addresses; parts = parts; sent = sent; taken = [] }

-- an inbox from which these letters were taken
abbrev pub inbox_view : System → ℕ → List LetterData → View
inbox_view plan addresses taken = record { reads = 1; plan = plan; addresses = addresses; parts = 0; sent = []; taken = taken }

-- an end that was joined to another one
abbrev pub joined_away : View
joined_away = record { reads = 0; plan = no_system; addresses = 0; parts = 0; sent = []; taken = [] }

abbrev pub after_send : LetterData → View → View
after_send letter v = record { reads = v.reads; plan = v.plan; addresses = v.addresses; parts = v.parts; sent = v.sent ++ letter ∷ []; taken = v.taken }

abbrev pub after_take : LetterData → View → View
after_take letter v = record { reads = v.reads; plan = v.plan; addresses = v.addresses; parts = v.parts; sent = v.sent; taken = v.taken ++ letter ∷ [] }

-- after a split, by which one part moved to a new address
abbrev pub after_split : View → View
after_split v = record { reads = v.reads; plan = v.plan; addresses = v.addresses; parts = v.parts - 1; sent = v.sent; taken = v.taken }

-- the new address
abbrev pub split_off : View → View
split_off v = address_view v.plan v.addresses 1 []

-- after a join with the end w
abbrev pub after_join : View → View → View
after_join w v = record { reads = v.reads + w.reads; plan = v.plan; addresses = v.addresses; parts = v.parts + w.parts; sent = v.sent ++ w.sent; taken = v.taken ++ w.taken }

-- how many ends take letters
abbrev pub all_reads : List View → ℕ
all_reads views = sum_by (λ v. v.reads) views

-- the parts of all ends
abbrev pub all_parts : List View → ℕ
all_parts views = sum_by (λ v. v.parts) views

-- what the letters that all ends have sent weigh
abbrev pub weight_sent : (LetterData → ℕ) → List View → ℕ
weight_sent weight views = sum_by (λ v. sum_by weight v.sent) views

-- what the letters that all ends have taken weigh
abbrev pub weight_taken : (LetterData → ℕ) → List View → ℕ
weight_taken weight views = sum_by (λ v. sum_by weight v.taken) views

-- each of the letters names the plan
abbrev pub AllName : System → List LetterData → Type 0
AllName plan letters = All (λ (letter : LetterData). letter.plan ≡ plan) letters

-- what the rule says of each end: if it does not take letters, it has taken none; if it has no part, it has sent none; if it takes letters or has a part, it names the plan and the number of addresses; its letters name the plan
pub record IsEndOf (plan : System) (addresses : ℕ) (v : View) : Type 0 where
  pub taken : v.reads ≡ 0 → v.taken ≡ []
  pub sent : v.parts ≡ 0 → v.sent ≡ []
  pub names : 0 < v.reads + v.parts → (v.plan ≡ plan) × (v.addresses ≡ addresses)
  pub letters : AllName plan v.sent × AllName plan v.taken

-- the rule of a wire, over the letters that are queued and all ends that it ever had: exactly one end takes letters; the parts of all ends add up to the number of addresses; whatever letters weigh, those sent weigh what those taken and those queued weigh together
pub record WireRule (plan : System) (addresses : ℕ) (queue : List LetterData) (views : List View) : Type 0 where
  pub small : addresses < 2 ^ 32
  pub reads : all_reads views ≡ 1
  pub parts : all_parts views ≡ addresses
  pub balance : (weight : LetterData → ℕ) → weight_sent weight views ≡ weight_taken weight views + sum_by weight queue
  pub queued : AllName plan queue
  pub each : (port : ℕ) (v : View) → get_elem? views port ≡ some v → IsEndOf plan addresses v
