-- The steps of the channel keep the rule, by the laws of the rule, and tell what they should.
use Rattle.std.proofs.Common.{◌≡◌, ℕ, ◌+◌, ◌^◌, ◌<◌, List, [], ◌∷◌, refl, sym, subst, ⊎_elim, arith}
use mathlib.Core.Option.{some}
use lib.ListN.{get_elem?}
use Rattle.atomic_table.proofs.Lists.{at_set}
use Rattle.crossbeam_channel.specs.Fifo.{Forks, Learns, Merges, Pops, Pushes}
use Rattle.mcs_system.specs.Plain.{System}
use Rattle.mcs_node.specs.Letters.{LetterData}
use Rattle.mcs_wire.specs.declared.view.View.{View}
use Rattle.mcs_wire.specs.Wires.{WireRule, address_view, after_join, after_send, after_split, after_take, inbox_view, joined_away, no_system, split_off}
use Rattle.mcs_wire.specs.Steps.{KeepsWireRule, SendTells, TakeTells, IsPossible, KnowsAll, PartsFit, unnamed}
use Rattle.mcs_wire.proofs.Rule.{begins, names, sends, takes, splits, joins, fits, knows}

pub channel_begins : KeepsWireRule [] (unnamed ∷ [])
channel_begins = record { plan = no_system; addresses = 0; rule = begins }

-- a wire whose inbox names the system of nothing and no addresses is one
is_unnamed : (plan : System) (addresses port : ℕ) (queue : List LetterData) (views : List View) → WireRule plan addresses queue views → get_elem? views port ≡ some unnamed → WireRule no_system 0 queue views
is_unnamed plan addresses port queue views r at = let own = (r.each port unnamed at).names (omega arith) in
    subst (λ (n : ℕ). WireRule no_system n queue views) (sym own.1) (subst (λ (m : System). WireRule m addresses queue views) (sym own.0) r)

pub name_allowed : (port : ℕ) (plan : System) (addresses : ℕ) → addresses < 2 ^ 32 → Forks KeepsWireRule port unnamed (inbox_view plan addresses []) (address_view plan addresses addresses [])
name_allowed port plan addresses small queue views kept at =
    record { plan = plan; addresses = addresses; rule = names plan addresses port queue views (record { rule = is_unnamed kept.plan kept.addresses port queue views kept.rule at; at = at }) small }

pub send_allowed : (n port : ℕ) (v : View) (x : LetterData) → 0 < v.parts → x.plan ≡ v.plan → Pushes KeepsWireRule n port v x (SendTells v x)
send_allowed n port v x some_part named queue views room kept at = (
  after_send x v,
  record { plan = kept.plan; addresses = kept.addresses; rule = sends kept.plan kept.addresses port queue views v x (record { rule = kept.rule; at = at }) some_part named },
  refl,
)

pub take_allowed : (port : ℕ) (v : View) → 0 < v.reads → Pops KeepsWireRule port v (TakeTells v)
take_allowed port v some_reads x queue views kept at =
    let (rule, plan) = takes kept.plan kept.addresses port queue views v x (record { rule = kept.rule; at = at }) some_reads in
    (after_take x v, record { plan = kept.plan; addresses = kept.addresses; rule = rule }, record { view = refl; plan = plan })

pub split_allowed : (port : ℕ) (v : View) → 1 < v.parts → Forks KeepsWireRule port v (after_split v) (split_off v)
split_allowed port v two queue views kept at = record { plan = kept.plan; addresses = kept.addresses; rule = splits kept.plan kept.addresses port queue views v (record { rule = kept.rule; at = at }) two }

pub join_allowed : (port : ℕ) (v : View) (other : ℕ) (w : View) → 0 < v.reads + v.parts → Merges KeepsWireRule port v other w (after_join w v) joined_away
join_allowed port v other w begun queue views kept at apart at' =
    let u = after_join w v in
    let was : get_elem? views other ≡ some w = ⊎_elim (λ x. absurd (apart x.0)) (λ x. x.1) (at_set views port other u w at') in
    record { plan = kept.plan; addresses = kept.addresses; rule = joins kept.plan kept.addresses port other queue views v w (record { rule = kept.rule; at = at }) begun apart was }

pub possible : (port : ℕ) (v : View) → Learns KeepsWireRule port v (IsPossible v)
possible port v queue views kept at = record { views = views; port = port; at = at; kept = kept }

pub look_allowed : (port : ℕ) (v : View) → Learns KeepsWireRule port v (PartsFit v)
look_allowed port v queue views kept at = fits kept.plan kept.addresses port queue views v (record { rule = kept.rule; at = at })

pub knows_all : (port : ℕ) (v : View) → Learns KeepsWireRule port v (KnowsAll v)
knows_all port v queue views kept at reads_is parts_is = knows kept.plan kept.addresses port queue views v (record { rule = kept.rule; at = at }) reads_is parts_is
