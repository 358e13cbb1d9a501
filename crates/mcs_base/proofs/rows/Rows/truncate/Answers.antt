use Rattle.std.proofs.Common.{◌≡◌, ◌∷◌, ℕ, List, sym, ap, ◌∙◌, subst, arith, length, take, get_or}
use Rattle.std.proofs.lemmas.List.{length-take-le}
use Rattle.mcs_base.specs.Rows.{AreEnds, rows_from}
use Rattle.mcs_base.proofs.RowLemmas.{end_of, end_of-read, ends-take, rows-cut}
use Rattle.mcs_base.proofs.rows.Rows.truncate.Given as given
use Rattle.mcs_base.proofs.rows.Rows.truncate.Goals.{After-truncate-2}
use Rattle.mcs_base.proofs.rows.Rows.truncate.Goals as goal

-- where the last row that stays ends
last : (g : given.Over) (c : After-truncate-2 g) → c.start_of-end.result ≡ end_of 0 (take c.args.count c.self.inside.ends.items)
last g c =
    let ends : List ℕ = c.truncate.new.self.items in
    let size : c.len.result ≡ length ends = (let ok = c.truncate.new.self.ok.0 in omega (arith, c.len.ensures)) in
    c.start_of-end.ensures ∙ ap (λ (xs : List ℕ). get_or (0 ∷ xs) c.len.result 0) c.deref.ensures.value ∙ ap (λ (n : ℕ). get_or (0 ∷ ends) n 0) size ∙ end_of-read 0 ends 0 ∙ ap (end_of 0) c.truncate.ensures.items

pub invariant_of-self : goal.invariant_of-self
invariant_of-self g c =
    let items = c.self.inside.items.items in
    let (kept, bound) = ends-take c.args.count 0 (length items) c.self.inside.ends.items c.self.invariant in
    let size : length c.truncate-2.new.self.items ≡ end_of 0 (take c.args.count c.self.inside.ends.items) =
    ap length c.truncate-2.ensures.items ∙ ap (λ (n : ℕ). length (take n items)) (last g c) ∙ length-take-le (end_of 0 (take c.args.count c.self.inside.ends.items)) items bound in
    subst (AreEnds 0 (length c.truncate-2.new.self.items)) (sym c.truncate.ensures.items) (subst (λ (t : ℕ). AreEnds 0 t (take c.args.count c.self.inside.ends.items)) (sym size) kept)

pub returns : goal.returns
returns g c =
    let items = c.self.inside.items.items in
    let ends : List ℕ = c.self.inside.ends.items in
    let n : ℕ = c.args.count in
    ap (λ xs. rows_from 0 xs c.truncate.new.self.items) c.truncate-2.ensures.items
    ∙ ap (rows_from 0 (take c.start_of-end.result items)) c.truncate.ensures.items
    ∙ ap (λ (k : ℕ). rows_from 0 (take k items) (take n ends)) (last g c)
    ∙ rows-cut n (length items) items ends c.self.invariant
    ∙ ap (take n) c.self.view_is
