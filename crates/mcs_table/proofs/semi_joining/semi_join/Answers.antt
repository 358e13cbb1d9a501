use Rattle.std.proofs.Common.{◌≡◌, ◌<◌, ◌≤◌, ◌∙◌, ap, sym, subst, true≢false, length, get_or, List}
use Rattle.std.proofs.lemmas.List.{take_all}
use Rattle.mcs_sets.specs.Sets.{common}
use Rattle.mcs_base.specs.Listings.{IsAmong, IsListing}
use Rattle.mcs_base.proofs.Among.{among_at}
use Rattle.mcs_base.proofs.ListingLemmas.{kept_more, left_out}
use Rattle.mcs_table.specs.declared.row.Row.{Row}
use Rattle.mcs_table.specs.RowOrder.{RowBefore}
use Rattle.mcs_table.specs.Tables.{HasPartner}
use Rattle.mcs_table.proofs.SemiLemmas.{partner_known, known_partner, part_is_table}
use Rattle.mcs_table.proofs.semi_joining.semi_join.Goals.{then-has_partner+in_ok-push, else-has_partner}
use Rattle.mcs_table.proofs.semi_joining.semi_join.Goals as goal

pub loop-row-preserved : goal.loop-row-preserved
loop-row-preserved c =
    let a = c.args.a.now in
    let b = c.args.b.now in
    let x = c.row-item.result in
    let i = c.loop-row.row-index in
    let Q = HasPartner b.rows c.args.level in
    let items = c.rows-row-items.ensures.value in
    let less : i < length a.rows = subst (λ (xs : List Row). i < length xs) items c.loop-row-test.true in
    let here : x ≡ get_or a.rows i x = c.row-item.is ∙ ap (λ (xs : List Row). get_or xs i x) items in
    let in_a : IsAmong x a.rows = subst (λ (r : Row). IsAmong r a.rows) (sym here) (among_at a.rows i x less) in
    let shared : c.common-shared.result ≡ common x.state.values b.scope = c.common-shared.ensures ∙ (ap (λ v. common v c.scope-right.result) c.values.ensures.value ∙ ap (common x.state.values) c.scope-right.ensures.value) in
    let moved = rw c.rows.ensures.value at c.in_ok-sorted.ensures.moved in
    let tells = rw (c.deref.ensures.value, c.scope-left.ensures.value, shared, c.count.ensures.number) at c.has_partner.ensures in
    let known = partner_known a b c.scope-left.ensures.kept c.scope-right.ensures.kept c.requires c.args.level x in_a c.in_ok-sorted.sorted.items moved in
    let back = known_partner a b c.scope-left.ensures.kept c.scope-right.ensures.kept c.requires c.args.level x in_a c.in_ok-sorted.sorted.items moved in
    elim c.if-has_partner.branch [
      | then-has_partner+in_ok-push w ↦ rw w.rows-is (rw w.in_ok-push.ensures.items (kept_more RowBefore Q a.rows i x less here c.rows-row-items.ensures.kept.ascending _ (back (tells.0 w.if-has_partner.true)) c.loop-row.invariant))
      | else-has_partner w ↦ rw w.rows-is (left_out RowBefore Q a.rows i x less here _ (λ h. true≢false (sym (tells.1 (known h)) ∙ w.if-has_partner.false)) c.loop-row.invariant)
    ]

pub in_order-requires : goal.in_order-requires
in_order-requires c =
    let a = c.args.a.now in
    let past : length a.rows ≤ c.loop-row.row-index = subst (λ (xs : List Row). length xs ≤ c.loop-row.row-index) c.rows-row-items.ensures.value c.loop-row-test.false in
    let all = subst (λ (xs : List Row). IsListing (λ r. IsAmong r xs × HasPartner c.args.b.now.rows c.args.level r) RowBefore c.loop-row.rows.items) (take_all c.loop-row.row-index a.rows past) c.loop-row.invariant in
    rw c.scope-left.ensures.value (part_is_table a (HasPartner c.args.b.now.rows c.args.level) c.loop-row.rows.items c.scope-left.ensures.kept all)

pub returns : goal.returns
returns c =
    let a = c.args.a.now in
    let past : length a.rows ≤ c.loop-row.row-index = subst (λ (xs : List Row). length xs ≤ c.loop-row.row-index) c.rows-row-items.ensures.value c.loop-row-test.false in
    let all = subst (λ (xs : List Row). IsListing (λ r. IsAmong r xs × HasPartner c.args.b.now.rows c.args.level r) RowBefore c.loop-row.rows.items) (take_all c.loop-row.row-index a.rows past) c.loop-row.invariant in
    rw c.in_order.ensures (record { scope = c.scope-left.ensures.value; rows = all })
