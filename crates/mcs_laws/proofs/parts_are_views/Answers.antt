use Rattle.mcs_laws.proofs.Views.{parts_are_views, view_listings}
use Rattle.mcs_laws.proofs.parts_are_views.Goals as goal

pub returns : goal.returns
returns c = record { each = parts_are_views; listings = view_listings }
