use Rattle.std.proofs.Common.{refl, subst, Some, None}
use Rattle.std.proofs.lemmas.Result.{IfOk-weaker}
use Rattle.mcs_system.specs.Logic.{true_names}
use Rattle.mcs_program.specs.Asked.{program_names, program_rules, program_beliefs, belief_names}
use Rattle.mcs_program.specs.declared.listing.Listing.{Listing}
use Rattle.mcs_program.specs.Listings.{IsUnfounded}
use Rattle.mcs_program.proofs.SearchLemmas.{atoms_of_names}
use Rattle.mcs_program.proofs.ListingLemmas.{first_parts, left_parts, set_listed, set_less, view_listed, view_less}
use Rattle.mcs_program.proofs.listing.Listing.take_up.Goals as goal

pub unfounded_in-requires : goal.unfounded_in-requires
unfounded_in-requires c =
    let p = c.args.placed.now.program.now in
    let s = c.args.self.now in
    let a = true_names 0 (program_names p) c.args.model in
    record {
      in_range = c.requires.model.in_range;
      formulas = (first_parts a (program_names p) (program_rules p) (left_parts a (program_names p) (program_rules p) (program_beliefs p) s.supported.items s.views.items c.requires.model.formulas).0).0;
    }

pub support-requires : goal.support-requires
support-requires c = c.requires.listed.known.room

pub put_view-requires-clause-room : goal.put_view-requires-clause-room
put_view-requires-clause-room c = c.requires.listed.known.room

pub put_view-requires-clause-ascending : goal.put_view-requires-clause-ascending
put_view-requires-clause-ascending c = c.requires.listed.ascending

pub returns-in-Some-clause-listed : goal.returns-in-Some-clause-listed
returns-in-Some-clause-listed c =
    let p = c.args.placed.now.program.now in
    IfOk-weaker c.support.result _ _ (λ _ e. set_listed (program_names p) (program_rules p) (program_beliefs p) c.args.self.now c.support.new.self c.in-Some.set e c.requires.listed) c.support.ensures

pub returns-in-Some-clause-less : goal.returns-in-Some-clause-less
returns-in-Some-clause-less c =
    let p = c.args.placed.now.program.now in
    let found : IsUnfounded (program_names p) (program_rules p) c.args.model (Some c.in-Some.set) = subst (IsUnfounded (program_names p) (program_rules p) c.args.model) c.in-Some.is c.in_ok-set.ensures in
    IfOk-weaker c.support.result _ _ (λ _ e. set_less (program_names p) (program_rules p) (program_beliefs p) c.args.self.now c.support.new.self c.in-Some.set e c.args.model c.requires.model found) c.support.ensures

pub returns-in_ok-put_view-in-None-clause-listed : goal.returns-in_ok-put_view-in-None-clause-listed
returns-in_ok-put_view-in-None-clause-listed c =
    let p = c.args.placed.now.program.now in
    let old : Listing = c.args.self.now in
    let new : Listing = record { known = c.put_view.new.known; supported = old.supported; views = c.put_view.new.views } in
    let found : IsUnfounded (program_names p) (program_rules p) c.args.model None = subst (IsUnfounded (program_names p) (program_rules p) c.args.model) c.in-None.is c.in_ok-set.ensures in
    view_listed (program_names p) (program_rules p) (program_beliefs p) old new c.args.model c.in_ok-put_view-in-None.field-0 c.in_ok-put_view-in-None.ensures refl
    (atoms_of_names (program_names p) (belief_names p) p.beliefs_over) c.requires.model found c.requires.listed

pub returns-in_ok-put_view-in-None-clause-less : goal.returns-in_ok-put_view-in-None-clause-less
returns-in_ok-put_view-in-None-clause-less c =
    let p = c.args.placed.now.program.now in
    let old : Listing = c.args.self.now in
    let new : Listing = record { known = c.put_view.new.known; supported = old.supported; views = c.put_view.new.views } in
    view_less (program_names p) (program_rules p) (program_beliefs p) old new c.args.model c.in_ok-put_view-in-None.field-0 c.in_ok-put_view-in-None.ensures refl (atoms_of_names (program_names p) (belief_names p) p.beliefs_over) c.requires.model
