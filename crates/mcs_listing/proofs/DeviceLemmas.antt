-- What a part of a run does to a device.
use Rattle.std.proofs.Common.{◌≡◌, ℕ, List, Result, Ok, Err, refl, ap, ◌∙◌, arith}
use Rattle.std.specs.Result.{IsErrAnd}
use Rattle.mcs_ports.specs.Pieces.{Device}
use Rattle.mcs_text.specs.Writes.{Writes}
use Rattle.mcs_text.specs.declared.unwritten.Unwritten.{Unwritten}
use Rattle.mcs_listing.specs.Endings.{stop_for_unwritten}
use Rattle.mcs_listing.specs.Listings.{UsesSink}
use Rattle.mcs_listing.specs.declared.ending.Stop.{Stop}
use Rattle.mcs_listing.specs.declared.ending.Stop.TheVariants as stops
use Rattle.mcs_listing.proofs.LineLemmas.{line_unfailed}

-- it was not used
pub still : {T : Type 0} (d : Device) (r : Result T Stop) → UsesSink d d r
still d r = record { later = omega arith; unfailed = λ other. refl; notes = refl }

module _ {T U : Type 0} (before now : Device) where
  -- what comes of a part that stopped so
  pub sink_err : (stop : Stop) (r : Result U Stop) → IsErrAnd r (λ s. s ≡ stop) → UsesSink {T = T} before now (Err stop) → UsesSink before now r
  sink_err stop (Ok y) is u = absurd is
  sink_err stop (Err s) is u = record { later = u.later; unfailed = λ other. u.unfailed (λ e. let same : stop ≡ stops.WriteFault = cc in other (ap (λ (x : Stop). Err x) (is ∙ same))); notes = u.notes }

  -- of one that did not
  pub sink_ok : (x : T) (y : U) → UsesSink before now (Ok x) → UsesSink before now (Ok y)
  sink_ok x y u = record { later = u.later; unfailed = λ other. u.unfailed (λ e. cc); notes = u.notes }

  -- one part after another
  pub sink_then : (mid : Device) (x : T) (r : Result U Stop) → UsesSink before mid (Ok x) → UsesSink mid now r → UsesSink before now r
  sink_then mid x r u v = record { later = omega (arith, u.later, v.later); unfailed = λ other. v.unfailed other ∙ u.unfailed (λ e. cc); notes = v.notes ∙ u.notes }

  -- a text was written, or cut off
  pub sink_wrote : (text : List ℕ) (x : T) (y : U) → Writes text before now (Ok x) → UsesSink before now (Ok y)
  sink_wrote text x y w = record { later = w.later; unfailed = λ other. w.quiet; notes = w.notes }

  pub sink_cut : (text : List ℕ) (why : Unwritten) (r : Result U Stop) → IsErrAnd r (λ s. s ≡ stop_for_unwritten why) → Writes {T = T} text before now (Err why) → UsesSink before now r
  sink_cut text why r is w = record { later = w.later; unfailed = line_unfailed why before.faults now.faults r is w.due; notes = w.notes }
