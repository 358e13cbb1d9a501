use Rattle.std.proofs.lemmas.Result.{IfOk-weaker}
use Rattle.mcs_program.specs.Asked.{program_names, program_rules, program_beliefs}
use Rattle.mcs_program.specs.Listings.{first_formulas}
use Rattle.mcs_program.proofs.SplitLemmas.{tight_views}
use Rattle.mcs_program.proofs.listing.list_by_beliefs.Goals as goal

pub list_views-views-requires : goal.list_views-views-requires
list_views-views-requires c = c.in_ok-known.ensures.room

pub returns : goal.returns
returns c =
    let p = c.args.placed.now.program.now in
    IfOk-weaker c.list_views-views.result _ _ (λ views h. tight_views (program_names p) (program_rules p) (program_beliefs p) views.items c.requires (h (first_formulas (program_names p) (program_rules p)) c.in_ok-known.ensures)) c.list_views-views.ensures
