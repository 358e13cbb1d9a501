use Rattle.std.proofs.Common.{ℕ, List, Vec, Global, map, sym, ap, subst}
use Rattle.mcs_base.proofs.Results.{none_where_never}
use Rattle.mcs_system.specs.Plain.{Name, Formula, Atom}
use Rattle.mcs_meant.specs.Meanings.{AreMeantBy}
use Rattle.mcs_program.specs.Splitting.{AreModelViewsAdded, IsModelView, IsViewFoundFor}
use Rattle.mcs_program.proofs.SearchLemmas.{atoms_of_names}
use Rattle.mcs_program.proofs.SplitLemmas.{none_decided, none_added, all_views}
use Rattle.mcs_program.proofs.splitting.list_views.Goals.{in-Some+in_ok-add_views, in_default}
use Rattle.mcs_program.proofs.splitting.list_views.Goals as goal

pub returns : goal.returns
returns c = λ fs meant.
    let names = c.args.placed.now.program.now.atoms.now in
    let ns : List Name = map (λ b. b.now) c.args.placed.now.program.now.beliefs.now in
    let beliefs : List Formula = map Atom ns in
    let atoms = atoms_of_names names ns c.args.placed.now.program.now.beliefs_over in
    let found : IsViewFoundFor names beliefs fs c.in_ok-view.field-0 = c.in_ok-view.ensures.found fs meant in
    let added : AreModelViewsAdded names beliefs fs c.new-views.result.items c.match-branch-2.views.items = elim c.match-branch-2.branch [
      | in-Some+in_ok-add_views w ↦
          let v : IsModelView names beliefs fs w.in-Some.view = subst (IsViewFoundFor names beliefs fs) w.in-Some.is found in
          subst (AreModelViewsAdded names beliefs fs c.new-views.result.items) (sym (ap (λ (u : Vec ℕ Global). u.items) w.views-is))
          (w.in_ok-add_views.ensures.added fs (subst (AreMeantBy names fs) (sym c.in_ok-view.ensures.same) meant) v (none_decided beliefs fs w.in-Some.view))
      | in_default w ↦
          subst (AreModelViewsAdded names beliefs fs c.new-views.result.items) (sym (ap (λ (u : Vec ℕ Global). u.items) w.views-is))
          (none_added names beliefs atoms fs c.new-views.result.items (subst (IsViewFoundFor names beliefs fs) (none_where_never c.in_ok-view.field-0 w.in_default.not-Some) found))
    ] in
    all_views names beliefs atoms fs c.match-branch-2.views.items c.list_states.new.states.items
    (subst (λ (xs : List ℕ). AreModelViewsAdded names beliefs fs xs c.match-branch-2.views.items) c.new-views.ensures.items added) c.list_states.ensures
