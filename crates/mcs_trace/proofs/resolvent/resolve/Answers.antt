use Rattle.std.proofs.Common.{ℤ, sym, subst, to_z-of_z}
use Rattle.mcs_base.specs.Listings.{IsListing}
use Rattle.mcs_base.proofs.ListingLemmas.{all_among}
use Rattle.mcs_trace.specs.Clauses.{IsLiteral, LiteralBefore}
use Rattle.mcs_trace.specs.Resolution.{IsLeft}
use Rattle.mcs_trace.proofs.OrderLemmas.{fits_literal}
use Rattle.mcs_trace.proofs.ResolventLemmas.{IsResolvent-clause}
use Rattle.mcs_trace.proofs.resolvent.resolve.Goals as goal

pub returns-in_default-clause-resolvent : goal.returns-in_default-clause-resolvent
returns-in_default-clause-resolvent c = λ clause r. c.in_default.ensures r.literal r.clash

pub join-requires-clause-literal : goal.join-requires-clause-literal
join-requires-clause-literal c =
    let l : ℤ = c.in-Some.literal in
    let is : IsLiteral l = all_among IsLiteral c.args.first.now l c.requires.first.0 c.in-Some.ensures.in_first in
    subst IsLiteral (sym (to_z-of_z (fits_literal l is))) is

pub returns-clause-clause : goal.returns-clause-clause
returns-clause-clause c = λ e.
    let l : ℤ = c.in-Some.literal in
    let is : IsLiteral l = all_among IsLiteral c.args.first.now l c.requires.first.0 c.in-Some.ensures.in_first in
    let left : IsListing (IsLeft c.args.first.now c.args.second.now l) LiteralBefore c.join.new.out.items =
    subst (λ (k : ℤ). IsListing (IsLeft c.args.first.now c.args.second.now k) LiteralBefore c.join.new.out.items) (to_z-of_z (fits_literal l is)) c.in_ok-join.ensures in
    IsResolvent-clause c.args.first.now c.args.second.now c.join.new.out.items c.requires.first c.requires.second (record { literal = l; clash = c.in-Some.ensures; left = left })

pub returns-in_default-clause-clash : goal.returns-in_default-clause-clash
returns-in_default-clause-clash c = λ l clash. absurd (c.in_default.ensures l clash)
