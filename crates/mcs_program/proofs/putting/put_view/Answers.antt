use Rattle.std.proofs.Common.{◌≤◌, ◌<◌, ℕ, List, sym, subst, take, get_or, length}
use Rattle.std.specs.List.{AllByRecursion}
use Rattle.mcs_sets.specs.Orders.{StateBefore}
use Rattle.mcs_base.specs.Listings.{IsAscending}
use Rattle.mcs_system.specs.Logic.{true_names, Atoms}
use Rattle.mcs_system.specs.Views.{Shows}
use Rattle.mcs_program.specs.Asked.{program_names, program_beliefs, belief_names}
use Rattle.mcs_program.proofs.PlaceLemmas.{view_shows}
use Rattle.mcs_program.proofs.putting.put_view.Goals as goal

pub place_of-place-requires : goal.place_of-place-requires
place_of-place-requires c = subst (IsAscending StateBefore) (sym c.deref.ensures.value) c.requires.ascending

pub returns : goal.returns
returns c =
    let value = c.deref.ensures.value in
    let place = c.place_of-place.result in
    let view = c.view_of-view.result in
    let p = c.args.placed.now.program.now in
    let shown = view_shows (program_names p) (belief_names p) c.args.placed.now.placing.beliefs.items c.args.model c.args.placed.now.right.placed_beliefs in
    record {
      view = view;
      shows = subst (Shows (Atoms (true_names 0 (program_names p) c.args.model)) (program_beliefs p)) (sym c.view_of-view.ensures) shown;
      within = subst (λ (xs : List ℕ). place ≤ length xs) value c.place_of-place.ensures.bound;
      before = subst (λ (xs : List ℕ). AllByRecursion (λ v. StateBefore v view) (take place xs)) value c.place_of-place.ensures.before;
      after = subst (λ (xs : List ℕ). place < length xs → ¬ StateBefore (get_or xs place 0) view) value c.place_of-place.ensures.after;
      adds = c.in_ok-push_other.ensures;
      placed = c.in_ok-insert.ensures.items;
    }
