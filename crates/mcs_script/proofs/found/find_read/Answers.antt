use Rattle.std.proofs.Common.{map, sym, ap, ◌∙◌}
use Rattle.std.specs.List.{list_any}
use Rattle.mcs_system.specs.Seen.{read_of}
use Rattle.mcs_system.specs.Systems.{same_read}
use Rattle.mcs_script.proofs.FoundLemmas.{read_found, read_new}
use Rattle.mcs_script.proofs.found.find_read.Goals as goal

pub returns-then-is_read_found : goal.returns-then-is_read_found
returns-then-is_read_found c = read_found (map read_of c.args.found.now.items) (read_of c.args.read.now)
    (ap (λ xs. list_any (same_read (read_of c.args.read.now)) (map read_of xs)) (sym c.deref.ensures.value) ∙ sym c.is_read_found.ensures ∙ c.if-is_read_found.true)

pub returns : goal.returns
returns c = read_new c.args.found.now.items c.push.new.self.items c.in_ok-copy.field-0 (read_of c.args.read.now) c.in_ok-push.ensures.items c.in_ok-copy.ensures
