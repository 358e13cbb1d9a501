-- A listing with its lines, and how a session goes on from it.
use Rattle.std.proofs.Common.{◌≡◌, ℕ, zero, suc, ◌+◌, ◌≤◌, List, [], ◌∷◌, ◌++◌, map, length, Some, slice_get, Option, Result, Ok, Err, false, true, refl, sym, ap, ◌∙◌, subst, inl, inr, append_assoc, add-one, arith}
use Rattle.std.proofs.lemmas.Option.{slice_get_within, same_Some}
use Rattle.mcs_base.proofs.Lists.{slice_get_below}
use Rattle.mcs_ports.specs.Causes.{Rose}
use Rattle.mcs_ports.specs.Pieces.{Device, appended}
use Rattle.mcs_text.specs.Writes.{Writes, WritesFront}
use Rattle.mcs_text.specs.declared.unwritten.Unwritten.{Unwritten}
use Rattle.mcs_text.specs.declared.unwritten.Unwritten.TheVariants as unwritten
use Rattle.mcs_text.proofs.WriteLaws.{appended-append}
use Rattle.mcs_system.specs.Plain.{System}
use Rattle.mcs_states.specs.Oracles.{OracleState, with_journal}
use Rattle.mcs_states.specs.Evaluators.{unasked}
use Rattle.mcs_mesh.specs.Rounds.{AreFresh}
use Rattle.mcs_report.specs.Listing.{heading}
use Rattle.mcs_report.specs.Solutions.{first}
use Rattle.mcs_work.specs.Tasks.{IsTaskStage}
use Rattle.mcs_work.specs.declared.task.Task.TheVariants.{Solve}
use Rattle.mcs_listing.specs.Endings.{stop_for_unwritten}
use Rattle.mcs_listing.proofs.WorkLemmas.{nothing_left}
use Rattle.mcs_listing.specs.Listings.{AreSure, IsListingText, IsListedBefore, Prints, PrintsFront, StopsWork}
use Rattle.mcs_listing.specs.declared.ending.Stop.{Stop}
use Rattle.mcs_listing.specs.declared.ending.Stop.TheVariants as stops
use Rattle.mcs_session.specs.Keys.{Key}
use Rattle.mcs_session.specs.Sessions.{SessionState, AreLent, HasBack, MayComeBack, kept_oracle, session_of}
use Rattle.mcs_report.specs.Sessions.{answers_line, list_line}
use Rattle.mcs_editing.specs.Texts.{IsAnswersLine, IsListed}
use Rattle.mcs_editing.specs.Course.{AreAskedWhole, HasListedNext, HasPrinted, IsBegunPart, IsPartStage, IsReady, StopsNext, most_new}
use Rattle.mcs_editing.proofs.CountLemmas.{answers_are, known_after, total_after}

-- ---- the parts of a listing
-- the line of this number and of this system
pub own_line : {T : Type 0} (n many : ℕ) (k m : System) (before mid : Device) (r : Result T Unwritten) → n ≡ suc many → k ≡ m → Writes (list_line k n) before mid r → Writes (list_line m (suc many)) before mid r
own_line n many k m before mid r number system w = subst (λ (x : System). Writes (list_line x (suc many)) before mid r) system (subst (λ (x : ℕ). Writes (list_line k x) before mid r) number w)

module _ (budget : ℕ) (systems : List System) (many : ℕ) (m : System) (before mid : Device) where
  abbrev line : List ℕ
  line = list_line m (suc many)

  -- the line was cut off
  line_front : WritesFront line before.written mid.written → PrintsFront (IsPartStage systems many m) before.written mid.written
  line_front f = record {
    text = line ++ heading m;
    holds = inl (heading m, first refl, refl);
    front = record { front = f.front; rest = f.rest ++ heading m; parts = sym (append_assoc f.front f.rest (heading m)) ∙ ap (λ (t : List ℕ). t ++ heading m) f.parts; written = f.written };
  }

  pub line_cut : {T : Type 0} (why : Unwritten) → Writes {T = T} line before mid (Err why) → StopsNext (stop_for_unwritten why) budget systems many m (Rose before.faults mid.faults) before.written mid.written
  line_cut unwritten.Fault w = (w.due, line_front w.front)
  line_cut unwritten.Memory w = line_front w.front

  module _ (wrote : mid.written ≡ appended before.written line) where
    later : (now : Option (List ℕ)) (part : List ℕ) → now ≡ appended mid.written part → now ≡ appended before.written (line ++ part)
    later now part is = is ∙ ap (λ (w : Option (List ℕ)). appended w part) wrote ∙ appended-append before.written line part

    part_front : (now : Option (List ℕ)) → PrintsFront (IsTaskStage Solve m) mid.written now → PrintsFront (IsPartStage systems many m) before.written now
    part_front now p = record {
      text = line ++ p.text;
      holds = inl (p.text, p.holds, refl);
      front = record {
        front = line ++ p.front.front;
        rest = p.front.rest;
        parts = append_assoc line p.front.front p.front.rest ∙ ap (λ (t : List ℕ). line ++ t) p.front.parts;
        written = later now p.front.front p.front.written;
      };
    }

    part_before : (level : ℕ) (now : Option (List ℕ)) → Prints (λ text. IsListedBefore Solve budget level text m) mid.written now → Prints (IsBegunPart (λ listing. IsListedBefore Solve budget level listing m) many m) before.written now
    part_before level now p = record { text = line ++ p.text; holds = (p.text, p.holds, refl); written = later now p.text p.written }

    pub work_cut : (stop : Stop) (now : Device) → before.faults ≤ mid.faults → StopsWork stop Solve budget m (Rose mid.faults now.faults) mid.written now.written → StopsNext stop budget systems many m (Rose before.faults now.faults) before.written now.written
    work_cut stops.Usage now up h = h
    work_cut (stops.Refused why) now up h = h
    work_cut (stops.Unfinished level limit) now up h = (h.0, part_before level now.written h.1)
    work_cut stops.ReadFault now up h = h
    work_cut stops.WriteFault now up h = (omega (arith, up, h.0), part_front now.written h.1)
    work_cut stops.Memory now up h = part_front now.written h

    -- the listing was printed whole, and the line with the answers comes
    module _ (there : slice_get systems many ≡ Some m) (done : Device) (p : Prints (λ text. IsListingText Solve budget text m) mid.written done.written) (ends : List ℕ) (answers : IsAnswersLine systems many m ends) where
      whole_part : IsListed systems many (line ++ (p.text ++ ends))
      whole_part = record { system = m; is_there = there; listing = p.text; whole = p.holds.1; line = ends; answers = answers; text_is = refl }

      ends_front : (now : Option (List ℕ)) → WritesFront ends done.written now → PrintsFront (IsPartStage systems many m) before.written now
      ends_front now f = record {
        text = line ++ (p.text ++ ends);
        holds = inr whole_part;
        front = record {
          front = line ++ (p.text ++ f.front);
          rest = f.rest;
          parts = append_assoc line (p.text ++ f.front) f.rest ∙ ap (λ (t : List ℕ). line ++ t) (append_assoc p.text f.front f.rest ∙ ap (λ (t : List ℕ). p.text ++ t) f.parts);
          written = later now (p.text ++ f.front) (f.written ∙ ap (λ (w : Option (List ℕ)). appended w f.front) p.written ∙ appended-append mid.written p.text f.front);
        };
      }

      pub ends_cut : {T : Type 0} (why : Unwritten) (now : Device) → before.faults ≤ done.faults → Writes {T = T} ends done now (Err why) → StopsNext (stop_for_unwritten why) budget systems many m (Rose before.faults now.faults) before.written now.written
      ends_cut unwritten.Fault now up w = (let rose = w.due in omega (arith, up, rose), ends_front now.written w.front)
      ends_cut unwritten.Memory now up w = ends_front now.written w.front

      pub part_written : {T : Type 0} (x : T) (now : Device) → Writes ends done now (Ok x) → Prints (IsListed systems many) before.written now.written
      part_written x now w = record {
        text = line ++ (p.text ++ ends);
        holds = whole_part;
        written = later now.written (p.text ++ ends) (w.whole ∙ ap (λ (t : Option (List ℕ)). appended t ends) p.written ∙ appended-append mid.written p.text ends);
      }

-- ---- the oracles of a session
pub as_they_are : (oracles : List OracleState) → map (λ (o : OracleState). o) oracles ≡ oracles
as_they_are [] = refl
as_they_are (o ∷ os) = ap (λ (l : List OracleState). o ∷ l) (as_they_are os)

module _ (s : SessionState) (oracles : List OracleState) (lent : AreLent s oracles) where
  lent_at : (i : ℕ) (o : OracleState) → slice_get oracles i ≡ Some o → (keys : List Key) × (slice_get s.journals i ≡ Some keys) × (o ≡ kept_oracle s.system i keys [])
  lent_at i o is =
      let (keys, at) = slice_get_below s.journals i (let inside = slice_get_within oracles i o is in let one = lent.one_each in let known = lent.known in omega (arith, inside, one, known)) in
      (keys, at, same_Some _ _ (sym is ∙ lent.fresh i keys at))

  pub lent_fresh : AreFresh s.system oracles
  lent_fresh i o is = let (keys, at, own) = lent_at i o is in (ap (λ (x : OracleState). x.system) own, ap (λ (x : OracleState). x.context) own, ap (λ (x : OracleState). x.journal) own)

  pub lent_sure : AreSure oracles
  lent_sure i o is = let (keys, at, own) = lent_at i o is in ap (λ (x : OracleState). x.holds) own

  -- they come back with what they were asked
  origin_kept : (first back : List OracleState) → unasked back ≡ unasked first → (i : ℕ) (o : OracleState) → slice_get back i ≡ Some o → (p : OracleState) → slice_get first i ≡ Some p → o.origin ≡ p.origin
  origin_kept [] [] same i o is p at = absurd (cc)
  origin_kept [] (b ∷ bs) same i o is p at = absurd (cc)
  origin_kept (f ∷ fs) [] same i o is p at = absurd (cc)
  origin_kept (f ∷ fs) (b ∷ bs) same zero o is p at = let one : with_journal [] b ≡ with_journal [] f = cc in ap (λ (x : OracleState). x.origin) (sym (same_Some _ _ is)) ∙ ap (λ (x : OracleState). x.origin) one ∙ ap (λ (x : OracleState). x.origin) (same_Some _ _ at)
  origin_kept (f ∷ fs) (b ∷ bs) same (suc i) o is p at = origin_kept fs bs (cc) i o is p at

  pub come_back : (t : SessionState) → t ≡ session_of s.system s.journals true → (back : List OracleState) → AreAskedWhole s.system oracles back → MayComeBack t back
  come_back t is back whole = subst (λ (u : SessionState). MayComeBack u back) (sym is) (record {
    one_each = whole.one_each;
    own = whole.own;
    origins = λ i o keys there at. origin_kept oracles back whole.rest i o there (kept_oracle s.system i keys []) (lent.fresh i keys at);
  })

-- what was done to a session whose oracles were lent is what was done to the session
pub back_home : (s t : SessionState) → t ≡ session_of s.system s.journals true → (oracles : List OracleState) (s' : SessionState) (new kept : ℕ) → HasBack t oracles s' new kept → HasBack s oracles s' new kept
back_home s t is oracles s' new kept back = at (subst (λ (u : SessionState). HasBack u oracles s' new kept) is back)
  where
    at : HasBack (session_of s.system s.journals true) oracles s' new kept → HasBack s oracles s' new kept
    at b = record {
      new_lists = b.new_lists;
      kept_lists = b.kept_lists;
      many_new = b.many_new;
      many_kept = b.many_kept;
      same_many = b.same_many;
      each = b.each;
      new_is = b.new_is;
      kept_is = b.kept_is;
    }

-- what a listing by the oracles of a session leaves, by the oracles as they are
pub printed_as : (budget : ℕ) (n m : System) → n ≡ m → (lent back : List OracleState) (before now : Option (List ℕ)) → HasPrinted budget n (map (λ (o : OracleState). o) lent) (map (λ (o : OracleState). o) back) before now → HasPrinted budget m lent back before now
printed_as budget n m is lent back before now h = subst (λ (os : List OracleState). HasPrinted budget m lent os before now) (as_they_are back)
    (subst (λ (os : List OracleState). HasPrinted budget m os (map (λ (o : OracleState). o) back) before now) (as_they_are lent)
    (subst (λ (k : System). HasPrinted budget k (map (λ (o : OracleState). o) lent) (map (λ (o : OracleState). o) back) before now) is h))

-- ---- a listing with its lines, step by step
module _ (budget many : ℕ) (s : SessionState) (d : Device) where
  -- it stops so
  abbrev pub StopsSo : Stop → Device → Type 0
  StopsSo stop now = (systems : List System) → IsReady systems many s → slice_get systems many ≡ Some s.system → StopsNext stop budget systems many s.system (Rose d.faults now.faults) d.written now.written

  module _ (m : System) (n : ℕ) (system : m ≡ s.system) (number : n ≡ many + 1) where
    own : {T : Type 0} (now : Device) (r : Result T Unwritten) → Writes (list_line m n) d now r → Writes (list_line s.system (suc many)) d now r
    own now r w = own_line n many m s.system d now r (number ∙ add-one many) system w

    pub cut_in_line : {T : Type 0} (why : Unwritten) (now : Device) → Writes {T = T} (list_line m n) d now (Err why) → StopsSo (stop_for_unwritten why) now
    cut_in_line why now w systems ready there = line_cut budget systems many s.system d now why (own now (Err why) w)

    -- the line was written
    module _ {T : Type 0} (mid : Device) (x : T) (w : Writes (list_line m n) d mid (Ok x)) where
      wrote : mid.written ≡ appended d.written (list_line s.system (suc many))
      wrote = (own mid (Ok x) w).whole

      pub cut_before_work : StopsSo stops.Memory mid
      cut_before_work systems ready there = part_front budget systems many s.system d mid wrote mid.written (nothing_left Solve s.system mid.written)

      pub cut_in_work : (k : System) → k ≡ s.system → (stop : Stop) (now : Device) → StopsWork stop Solve budget k (Rose mid.faults now.faults) mid.written now.written → StopsSo stop now
      cut_in_work k same stop now h systems ready there = work_cut budget systems many s.system d mid wrote stop now w.later (subst (λ (l : System). StopsWork stop Solve budget l (Rose mid.faults now.faults) mid.written now.written) same h)

      -- the system was listed, and the oracles are back
      module _ (fresh oracles : List OracleState) (after : Device) (up : mid.faults ≤ after.faults) (printed : HasPrinted budget s.system fresh oracles mid.written after.written)
          (s' : SessionState) (new kept : ℕ) (back : HasBack s oracles s' new kept) where
        pub cut_in_answers : {U : Type 0} (why : Unwritten) (now : Device) → Writes {T = U} (answers_line new kept) after now (Err why) → StopsSo (stop_for_unwritten why) now
        cut_in_answers why now e systems ready there =
            ends_cut budget systems many s.system d mid wrote there after printed.text (answers_line new kept) (answers_are systems many s ready there fresh oracles printed.asked s' new kept back)
            why now (let before = w.later in omega (arith, before, up)) e

        pub listed_next : {U : Type 0} (y : U) (now : Device) → Writes (answers_line new kept) after now (Ok y) → s'.system ≡ s.system → s'.lent ≡ false → new ≤ most_new
            → (systems : List System) → IsReady systems many s → slice_get systems many ≡ Some s.system → HasListedNext budget systems many s s' new d.written now.written
        listed_next y now e same home few systems ready there = record {
          ready = record {
            home = home;
            one_each = back.same_many ∙ ready.one_each ∙ sym (ap (λ (k : System). length k.contexts) same);
            keys = known_after systems many s ready there fresh oracles printed.asked s' new kept back;
          };
          same = same;
          count = total_after systems many s ready there fresh oracles printed.asked s' new kept back;
          few = few;
          within = printed.text.holds.0;
          text = part_written budget systems many s.system d mid wrote there after printed.text (answers_line new kept) (answers_are systems many s ready there fresh oracles printed.asked s' new kept back) y now e;
        }
