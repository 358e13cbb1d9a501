use Rattle.std.proofs.Common.{◌∙◌, ℕ, List, [], map, ap, subst, sym, append-nil}
use Rattle.std.specs.List.{AllByRecursion}
use Rattle.mcs_sets.specs.Orders.{StateBefore}
use Rattle.mcs_base.specs.Listings.{IsAscending}
use Rattle.mcs_system.specs.Plain.{Program}
use Rattle.mcs_system.specs.Seen.{rule_of}
use Rattle.mcs_system.specs.Logic.{holds_all}
use Rattle.mcs_system.specs.Views.{IsAcceptedView}
use Rattle.mcs_program.specs.Listings.{first_formulas, left_formulas}
use Rattle.mcs_meant.proofs.MeaningLemmas.{meant_same}
use Rattle.mcs_program.proofs.listing.Listing.new.Goals as goal

pub returns : goal.returns
returns c = λ beliefs.
    let names = c.args.program.now.atoms.now in
    let rules = map rule_of c.args.program.now.rules.now in
    record {
      known = meant_same names (first_formulas names rules) (left_formulas names rules c.new.result.items beliefs c.new-2.result.items) c.in_ok-known.known
          (λ a. sym (ap (λ (xs : List ℕ). holds_all a (left_formulas names rules xs beliefs c.new-2.result.items)) c.new.ensures.items ∙ ap (λ (xs : List ℕ). holds_all a (left_formulas names rules [] beliefs xs)) c.new-2.ensures.items
          ∙ ap (holds_all a) (append-nil (first_formulas names rules)))) c.in_ok-known.ensures;
      ascending = subst (IsAscending StateBefore) (sym c.new-2.ensures.items) tt;
      accepted = subst (AllByRecursion (IsAcceptedView (Program rules) beliefs)) (sym c.new-2.ensures.items) tt;
    }
