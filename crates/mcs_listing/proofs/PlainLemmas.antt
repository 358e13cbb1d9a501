-- What stops the reading of a system that has to be plain.
use Rattle.std.proofs.Common.{◌≡◌, ◌⊎◌, ℕ, List, Option, Result, Ok, Err, IfSome, IfOk, inl, inr, sym, subst}
use Rattle.mcs_system.specs.Plain.{System}
use Rattle.mcs_work.specs.declared.task.Task.{Task}
use Rattle.mcs_work.specs.declared.task.Task.TheVariants.{Equilibria, Solve, Cheapest, Make}
use Rattle.mcs_listing.specs.Jobs.{File, OfOneFile}
use Rattle.mcs_listing.specs.Texts.{IsTextOf, IsRefusedFor, IsRefusedPlain, StopsReading}
use Rattle.mcs_listing.specs.declared.ending.Refusal.{Refusal}
use Rattle.mcs_listing.specs.declared.ending.Refusal.TheVariants as refusals
use Rattle.mcs_listing.specs.declared.ending.Stop.{Stop}
use Rattle.mcs_listing.specs.declared.ending.Stop.TheVariants as stops
use Rattle.mcs_listing.proofs.JobLemmas.{told_also, of_file}

-- what is wrong with the text of any system is wrong with that of a plain one
refused_plain : (why : Refusal) (bytes : List ℕ) → IsRefusedFor why bytes → IsRefusedPlain why bytes
refused_plain refusals.TooLong bytes h = h
refused_plain refusals.ReportTooLong bytes h = h
refused_plain refusals.ScriptTooLong bytes h = h
refused_plain (refusals.Text number offset limit) bytes h = h
refused_plain (refusals.Script number offset limit) bytes h = h
refused_plain (refusals.NotPlain name) bytes h = absurd h

pub reading_plain : (stop : Stop) (rose failed : Type 0) (files : Option (List File)) → StopsReading IsRefusedFor stop rose failed files → StopsReading IsRefusedPlain stop rose failed files
reading_plain stops.Usage rose failed files h = h
reading_plain (stops.Refused why) rose failed files h = told_also files (OfOneFile (IsRefusedFor why)) (OfOneFile (IsRefusedPlain why)) (of_file (IsRefusedFor why) (IsRefusedPlain why) (refused_plain why)) h
reading_plain (stops.Unfinished level budget) rose failed files h = h
reading_plain stops.ReadFault rose failed files h = h
reading_plain stops.WriteFault rose failed files h = h
reading_plain stops.Memory rose failed files h = h

-- what holds of each text of the system holds of the one that was read
pub told_text : (m : System) (P : List ℕ → Type 0) → ((bytes : List ℕ) → IsTextOf m bytes → P bytes) → (files : Option (List File)) → IfSome files (OfOneFile (IsTextOf m)) → IfSome files (OfOneFile P)
told_text m P each files read = told_also files (OfOneFile (IsTextOf m)) (OfOneFile P) (of_file (IsTextOf m) P each) read

-- what holds of each task for which any system is taken
pub for_others : (task : Task) → (task ≡ Equilibria) ⊎ ((task ≡ Solve) ⊎ ((task ≡ Cheapest) ⊎ (task ≡ Make))) → (P : Task → Type 0) → P Equilibria → P Solve → P Cheapest → P Make → P task
for_others task (inl is) P e s c m = subst P (sym is) e
for_others task (inr (inl is)) P e s c m = subst P (sym is) s
for_others task (inr (inr (inl is))) P e s c m = subst P (sym is) c
for_others task (inr (inr (inr is))) P e s c m = subst P (sym is) m

pub always_ok : {T E : Type 0} (r : Result T E) → IfOk r (λ x. Unit {0})
always_ok (Ok x) = tt
always_ok (Err e) = tt
