-- By what a proof tells ends of wires apart.
use Rattle.std.specs.Prelude.{◌≡◌, ℕ, zero, suc, List, Option, refl}
use Rattle.std.specs.Coded.{Coded, code_by, coded×, coded_ℕ, coded_list, coded_option}
use Rattle.atomic_table.specs.Seated.{TableId, table_id_coded}
use Rattle.atomic_table.specs.declared.badge.Badge.{Badge}
use Rattle.crossbeam_channel.specs.declared.flavors.array.Fill.{Fill}
use Rattle.crossbeam_channel.specs.declared.flavors.array.Fill.TheVariants.{Dealer, Vacant, Filled, Open}
use Rattle.crossbeam_channel.specs.declared.flavors.array.Key.{Key}
use Rattle.mcs_system.specs.Plain.{System}
use Rattle.mcs_system.specs.Codes.{coded_system}
use Rattle.mcs_node.specs.Letters.{LetterData, coded_letter}
use Rattle.mcs_wire.specs.Ends.{Channel, WireData, AddressData, InboxData, SettledData}

abbrev pub number_of_fill : Fill → ℕ
number_of_fill Dealer = 0
number_of_fill Vacant = 1
number_of_fill Filled = 2
number_of_fill Open = 3

abbrev pub fill_of_number : ℕ → Fill
fill_of_number zero = Dealer
fill_of_number (suc zero) = Vacant
fill_of_number (suc (suc zero)) = Filled
fill_of_number (suc (suc (suc n))) = Open

pub fill_again : (fill : Fill) → fill_of_number (number_of_fill fill) ≡ fill
fill_again Dealer = refl
fill_again Vacant = refl
fill_again Filled = refl
fill_again Open = refl

abbrev pub coded_fill : Coded Fill
coded_fill = code_by ℕ coded_ℕ number_of_fill fill_of_number fill_again

abbrev pub coded_key : Coded (Key LetterData)
coded_key = code_by (ℕ × (Fill × Option LetterData)) (coded× coded_ℕ (coded× coded_fill (coded_option coded_letter))) (λ k. (k.slot, (k.fill, k.item))) (λ t. record { slot = t.0; fill = t.1.0; item = t.1.1 }) (λ _. refl)

abbrev pub coded_badge : Coded (Badge (Key LetterData))
coded_badge = code_by (TableId × (ℕ × List (Key LetterData))) (coded× table_id_coded (coded× coded_ℕ (coded_list coded_key))) (λ b. (b.table_id, (b.id, b.views)))
    (λ t. record { marker = record {}; table_id = t.0; id = t.1.0; views = t.1.1 }) (λ _. refl)

abbrev pub coded_channel : Coded Channel
coded_channel = code_by (TableId × Badge (Key LetterData)) (coded× table_id_coded coded_badge) (λ c. (c.turns, c.letters)) (λ t. record { turns = t.0; letters = t.1 }) (λ _. refl)

abbrev pub coded_wire : Coded WireData
coded_wire = code_by (Channel × (System × ℕ)) (coded× coded_channel (coded× coded_system coded_ℕ)) (λ w. (w.channel, (w.plan, w.addresses))) (λ t. record { channel = t.0; plan = t.1.0; addresses = t.1.1 }) (λ _. refl)

abbrev pub coded_address : Coded AddressData
coded_address = code_by (WireData × (ℕ × List LetterData)) (coded× coded_wire (coded× coded_ℕ (coded_list coded_letter))) (λ a. (a.wire, (a.parts, a.sent))) (λ t. record { wire = t.0; parts = t.1.0; sent = t.1.1 }) (λ _. refl)

abbrev pub coded_inbox : Coded InboxData
coded_inbox = code_by (WireData × List LetterData) (coded× coded_wire (coded_list coded_letter)) (λ i. (i.wire, i.taken)) (λ t. record { wire = t.0; taken = t.1 }) (λ _. refl)

abbrev pub coded_settled : Coded SettledData
coded_settled = code_by (System × (List LetterData × (List LetterData × List LetterData))) (coded× coded_system (coded× (coded_list coded_letter) (coded× (coded_list coded_letter) (coded_list coded_letter))))
    (λ s. (s.plan, (s.sent, (s.got, s.left)))) (λ t. record { plan = t.0; sent = t.1.0; got = t.1.1.0; left = t.1.1.1 }) (λ _. refl)
