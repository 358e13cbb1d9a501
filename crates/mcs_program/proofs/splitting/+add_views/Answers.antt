use Rattle.std.proofs.Common.{◌≡◌, ◌++◌, ◌∷◌, [], ◌∙◌, ◌<◌, ℕ, ℤ, Bool, true, not, List, Vec, Global, Some, slice_get, length, map, sym, ap, subst, arith}
use Rattle.std.proofs.lemmas.List.{length-map}
use Rattle.mcs_base.proofs.Each.{all_get}
use Rattle.mcs_base.proofs.Lists.{slice_get-map_some}
use Rattle.mcs_base.proofs.Mapped.{slice_get-map_read}
use Rattle.mcs_base.proofs.Results.{none_where_never}
use Rattle.mcs_system.specs.Plain.{Name, Formula, Atom}
use Rattle.mcs_system.specs.Logic.{is_in}
use Rattle.mcs_trace.specs.Clauses.{ClauseList}
use Rattle.mcs_cnf.specs.ClauseLists.{atom_number}
use Rattle.mcs_meant.specs.Meanings.{AreMeantBy}
use Rattle.mcs_program.specs.Clauses.{literal_of}
use Rattle.mcs_program.specs.Splitting.{value_formula, AreModelViewsAdded, IsModelView, IsViewFoundFor}
use Rattle.mcs_program.proofs.SearchLemmas.{atoms_of_names}
use Rattle.mcs_program.proofs.SplitLemmas.{view_kept, agree_more, one_added, none_added, both_added, value_within, value_back}
use Rattle.mcs_program.proofs.splitting.+add_views.Goals.{in-Some+in_ok-add_views-2, in_default}
use Rattle.mcs_program.proofs.splitting.+add_views.Goals as goal

pub returns-then-decided-beliefs-clause-added : goal.returns-then-decided-beliefs-clause-added
returns-then-decided-beliefs-clause-added t c = λ fs meant v agree.
    let ns : List Name = map (λ b. b.now) c.args.placed.now.program.now.beliefs.now in
    let end : c.args.decided ≡ length (map Atom ns) = omega (arith, length-map ns Atom, length-map c.args.placed.now.program.now.beliefs.now (λ b. b.now)) in
    one_added c.args.placed.now.program.now.atoms.now (map Atom ns) (atoms_of_names c.args.placed.now.program.now.atoms.now ns c.args.placed.now.program.now.beliefs_over) fs c.args.view c.args.decided c.args.views.now.items c.push.new.self.items end c.in_ok-push.ensures.items v agree

pub push_value-requires-clause-over : goal.push_value-requires-clause-over
push_value-requires-clause-over t c =
    let atoms = c.args.placed.now.program.now.atoms.now in
    let less : c.args.decided < length c.args.placed.now.program.now.beliefs.now = omega arith in
    all_get (λ (n : Name). is_in n atoms ≡ true) (map (λ b. b.now) c.args.placed.now.program.now.beliefs.now) c.args.decided c.index-beliefs-decided.result.now c.args.placed.now.program.now.beliefs_over
    (slice_get-map_read (λ b. b.now) c.args.placed.now.program.now.beliefs.now c.args.decided c.index-beliefs-decided.result less c.index-beliefs-decided.is)

pub cut-requires-clause-within : goal.cut-requires-clause-within
cut-requires-clause-within t c =
    let known : ClauseList = c.args.known.now in
    let literals : List ℤ = literal_of c.has-value.result (atom_number c.args.placed.now.program.now.atoms.now c.index-beliefs-decided.result.now) ∷ [] in
    value_within known c.add_views.new.known literals (c.in_ok-add_views.ensures.same ∙ c.in_ok-push_value.ensures.clause) c.vars-vars.result c.count-count.result c.vars-vars.ensures.value c.count-count.ensures c.vars-vars.ensures.kept

pub push_value-requires-2-clause-over : goal.push_value-requires-2-clause-over
push_value-requires-2-clause-over t c =
    let atoms = c.args.placed.now.program.now.atoms.now in
    let less : c.args.decided < length c.args.placed.now.program.now.beliefs.now = omega arith in
    all_get (λ (n : Name). is_in n atoms ≡ true) (map (λ b. b.now) c.args.placed.now.program.now.beliefs.now) c.args.decided c.index-beliefs-decided.result.now c.args.placed.now.program.now.beliefs_over
    (slice_get-map_read (λ b. b.now) c.args.placed.now.program.now.beliefs.now c.args.decided c.index-beliefs-decided.result less c.index-beliefs-decided.is)

pub cut-requires-2-clause-within : goal.cut-requires-2-clause-within
cut-requires-2-clause-within t c =
    let known : ClauseList = c.args.known.now in
    let n = c.index-beliefs-decided.result.now in
    let literals : List ℤ = literal_of c.has-value.result (atom_number c.args.placed.now.program.now.atoms.now n) ∷ [] in
    let others : List ℤ = literal_of (not c.has-value.result) (atom_number c.args.placed.now.program.now.atoms.now n) ∷ [] in
    let back : c.cut.new.self ≡ known = value_back known c.add_views.new.known literals (c.in_ok-add_views.ensures.same ∙ c.in_ok-push_value.ensures.clause) c.vars-vars.result c.count-count.result c.vars-vars.ensures.value c.count-count.ensures c.cut.new.self c.cut.ensures in
    let same : c.match-branch-6.known ≡ c.push_value-2.new.known = elim c.match-branch-6.branch [
      | in-Some+in_ok-add_views-2 w ↦ w.known-is ∙ w.in_ok-add_views-2.ensures.same ∙ c.in_ok-other.ensures.same
      | in_default w ↦ w.known-is ∙ c.in_ok-other.ensures.same
    ] in
    value_within known c.match-branch-6.known others
    (same ∙ c.in_ok-push_value-2.ensures.clause ∙ ap (λ (k : ClauseList). (let f : ClauseList = record k { clauses = k.clauses ++ others ∷ [] } in f)) back)
    c.vars-vars.result c.count-count.result c.vars-vars.ensures.value c.count-count.ensures c.vars-vars.ensures.kept

pub returns-clause-added : goal.returns-clause-added
returns-clause-added t c = λ fs meant v agree.
    let names = c.args.placed.now.program.now.atoms.now in
    let ns : List Name = map (λ b. b.now) c.args.placed.now.program.now.beliefs.now in
    let beliefs : List Formula = map Atom ns in
    let atoms = atoms_of_names names ns c.args.placed.now.program.now.beliefs_over in
    let k = c.args.decided in
    let view = c.args.view in
    let n = c.index-beliefs-decided.result.now in
    let value : Bool = c.has-value.result in
    let less : k < length c.args.placed.now.program.now.beliefs.now = omega arith in
    let at : slice_get beliefs k ≡ Some (Atom n) = slice_get-map_some Atom ns k n (slice_get-map_read (λ b. b.now) c.args.placed.now.program.now.beliefs.now k c.index-beliefs-decided.result less c.index-beliefs-decided.is) in
    let known : ClauseList = c.args.known.now in
    let literals : List ℤ = literal_of value (atom_number names n) ∷ [] in
    let back : c.cut.new.self ≡ known = value_back known c.add_views.new.known literals (c.in_ok-add_views.ensures.same ∙ c.in_ok-push_value.ensures.clause) c.vars-vars.result c.count-count.result c.vars-vars.ensures.value c.count-count.ensures c.cut.new.self c.cut.ensures in
    let ones : List Formula = fs ++ value_formula (Atom n) value ∷ [] in
    let others : List Formula = fs ++ value_formula (Atom n) (not value) ∷ [] in
    let kept : IsModelView names beliefs ones view = subst (λ (b : Bool). IsModelView names beliefs (fs ++ value_formula (Atom n) b ∷ []) view) (sym c.has-value.ensures.value) (view_kept names beliefs atoms fs (Atom n) view k at v) in
    let first : AreModelViewsAdded names beliefs ones c.args.views.now.items c.add_views.new.views.items =
    c.in_ok-add_views.ensures.added ones (c.in_ok-push_value.ensures.adds fs meant) kept (agree_more names beliefs atoms fs (Atom n) value view view k at agree kept) in
    let meant' : AreMeantBy names others c.push_value-2.new.known = c.in_ok-push_value-2.ensures.adds fs (subst (AreMeantBy names fs) (sym back) meant) in
    let found : IsViewFoundFor names beliefs others c.in_ok-other.field-0 = c.in_ok-other.ensures.found others meant' in
    let second : AreModelViewsAdded names beliefs others c.add_views.new.views.items c.match-branch-6.views.items = elim c.match-branch-6.branch [
      | in-Some+in_ok-add_views-2 w ↦
          let v' : IsModelView names beliefs others w.in-Some.other = subst (IsViewFoundFor names beliefs others) w.in-Some.is found in
          subst (AreModelViewsAdded names beliefs others c.add_views.new.views.items) (sym (ap (λ (u : Vec ℕ Global). u.items) w.views-is))
          (w.in_ok-add_views-2.ensures.added others (subst (AreMeantBy names others) (sym c.in_ok-other.ensures.same) meant') v' (agree_more names beliefs atoms fs (Atom n) (not value) view w.in-Some.other k at agree v'))
      | in_default w ↦
          subst (AreModelViewsAdded names beliefs others c.add_views.new.views.items) (sym (ap (λ (u : Vec ℕ Global). u.items) w.views-is))
          (none_added names beliefs atoms others c.add_views.new.views.items (subst (IsViewFoundFor names beliefs others) (none_where_never c.in_ok-other.field-0 w.in_default.not-Some) found))
    ] in
    both_added names beliefs atoms fs (Atom n) value c.args.views.now.items c.add_views.new.views.items c.match-branch-6.views.items first second
