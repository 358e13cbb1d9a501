use Rattle.std.proofs.Common.{◌≡◌, ◌-◌, ◌<◌, ◌≤◌, ◌∷◌, ℕ, List, sym, ap, ◌∙◌, arith, length, take, drop, get_or, slice_get, Some}
use Rattle.std.proofs.lemmas.List.{get_or_read}
use Rattle.mcs_base.proofs.RowLemmas.{row-bounds, rows-at, row-within}
use Rattle.mcs_base.proofs.rows.Rows.row.Given as given
use Rattle.mcs_base.proofs.rows.Rows.row.Goals.{After-deref-2}
use Rattle.mcs_base.proofs.rows.Rows.row.Goals as goal

pub start_of-start-requires : goal.start_of-start-requires
start_of-start-requires g c = let here = row-within c.args.index c.self.inside.items.items c.self.inside.ends.items c.args.self.now c.self.view_is c.requires in omega (arith, ap length c.deref.ensures.value)

pub index-end-requires : goal.index-end-requires
index-end-requires g c = let here = row-within c.args.index c.self.inside.items.items c.self.inside.ends.items c.args.self.now c.self.view_is c.requires in let ok = c.self.inside.ends.ok.0 in omega arith

start : (g : given.Over) (c : After-deref-2 g) → c.start_of-start.result ≡ get_or (0 ∷ c.self.inside.ends.items) c.args.index 0
start g c = c.start_of-start.ensures ∙ ap (λ (xs : List ℕ). get_or (0 ∷ xs) c.args.index 0) c.deref.ensures.value

end : (g : given.Over) (c : After-deref-2 g) → c.args.index < length c.self.inside.ends.items → c.index-end.result.now ≡ get_or c.self.inside.ends.items c.args.index 0
end g c less = get_or_read c.self.inside.ends.items c.args.index c.index-end.result.now less c.index-end.ensures 0

-- the row begins at or before its end, which is within the items
bounds : (g : given.Over) (c : After-deref-2 g) → (c.start_of-start.result ≤ c.index-end.result.now) × (c.index-end.result.now ≤ length c.deref-2.result.now)
bounds g c =
    let here = row-within c.args.index c.self.inside.items.items c.self.inside.ends.items c.args.self.now c.self.view_is c.requires in
    let (low, order, high) = row-bounds 0 (length c.self.inside.items.items) c.args.index 0 c.self.inside.ends.items c.self.invariant here in
    let begin = start g c in
    let end' = end g c here in
    (omega arith, omega (arith, ap length c.deref-2.ensures.value))

pub offset_bounds-deref-start : goal.offset_bounds-deref-start
offset_bounds-deref-start g c = let (low, high) = bounds g c in omega arith

pub slice_bounds-result-count : goal.slice_bounds-result-count
slice_bounds-result-count g c = (bounds g c).0

pub slice_bounds-result-start : goal.slice_bounds-result-start
slice_bounds-result-start g c = (bounds g c).0

pub slice_bounds-result-end : goal.slice_bounds-result-end
slice_bounds-result-end g c = (bounds g c).1

pub returns : goal.returns
returns g c =
    let at' = (goal.at.returns g c).After-deref-2 in
    let items = c.self.inside.items.items in
    let ends : List ℕ = c.self.inside.ends.items in
    let i : ℕ = c.args.index in
    ap (λ rs. slice_get rs i) (sym c.self.view_is)
    ∙ rows-at i items ends c.self.invariant (row-within c.args.index c.self.inside.items.items c.self.inside.ends.items c.args.self.now c.self.view_is c.requires)
    ∙ ap (λ (e : ℕ). Some (take (e - get_or (0 ∷ ends) i 0) (drop (get_or (0 ∷ ends) i 0) items))) (sym (end g at' (row-within c.args.index c.self.inside.items.items c.self.inside.ends.items c.args.self.now c.self.view_is c.requires)))
    ∙ ap (λ (b : ℕ). Some (take (c.index-end.result.now - b) (drop b items))) (sym (start g at'))
    ∙ ap (λ xs. Some (take (c.index-end.result.now - c.start_of-start.result) (drop c.start_of-start.result xs))) (sym c.deref-2.ensures.value)
