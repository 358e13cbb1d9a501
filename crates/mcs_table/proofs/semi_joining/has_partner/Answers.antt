use Rattle.std.proofs.Common.{◌≡◌, ◌≤◌, ◌+◌, ◌↔◌, arith}
use Rattle.mcs_sets.specs.Sets.{common, size}
use Rattle.mcs_base.specs.Listings.{IsAmong}
use Rattle.mcs_table.specs.declared.row.Row.{Row}
use Rattle.mcs_base.proofs.Deciding.{some_where}
use Rattle.mcs_table.proofs.semi_joining.has_partner.Goals as goal

pub returns-in-Some : goal.returns-in-Some
returns-in-Some c =
    let found = c.partners.result.now in
    let P = λ (r : Row). IsAmong r c.args.sorted.now × (common r.state.values c.args.scope ≡ c.args.shared) × (size r.marks + c.args.count ≤ c.args.level) in
    let room = c.in-Some.ensures in
    let same : (r : Row) → IsAmong r found ↔ P r = λ r. (
      λ h. let f = (c.partners.ensures r).0 h in (f.0, f.1, let few = f.2 in omega arith),
      λ p. (c.partners.ensures r).1 (p.0, p.1, let few = p.2 in omega arith),
    ) in
    let some = some_where P found same in
    rw c.is_empty.ensures (λ h. let (r, p) = some.0 h in (r, p.0, p.1, p.2), λ (r, among, says, few). some.1 (r, (among, says, few)))
