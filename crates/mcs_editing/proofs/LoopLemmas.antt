-- A session goes on from edit to edit, and it stops in its text.
use Rattle.std.proofs.Common.{◌≡◌, ℕ, zero, suc, ◌+◌, ◌-◌, ◌<◌, ◌≤◌, Bool, List, [], ◌∷◌, ◌++◌, map, length, take, drop, get_or, Some, slice_get, slice_range, Option, Result, Ok, Err, true, false, true≢false, refl, sym, ap, ◌∙◌, subst, inl, inr, ◌⊎◌, append_assoc, length-drop, add-one, arith}
use Rattle.std.proofs.lemmas.Bool.{cases_eq}
use Rattle.std.proofs.lemmas.List.{get_or-drop, length-map}
use Rattle.std.proofs.lemmas.Option.{slice_get_within, same_Some}
use Rattle.std.proofs.lemmas.List.Concat.{length-flat_map}
use Rattle.std.proofs.lemmas.List.Sums.{sum_by-cons}
use Rattle.std.specs.List.{flat_map}
use Rattle.std.specs.Result.{IsErrAnd}
use Rattle.mcs_base.specs.Listings.{IsInventory}
use Rattle.mcs_base.proofs.Bags.{inventory_same}
use Rattle.mcs_base.proofs.Lists.{next_dropped, place_cases}
use Rattle.mcs_base.proofs.Mapped.{map-drop_more, map-take_read}
use Rattle.mcs_ports.specs.Causes.{Rose}
use Rattle.mcs_ports.specs.Pieces.{Device, appended}
use Rattle.mcs_text.specs.Writes.{Writes, WritesFront}
use Rattle.mcs_text.specs.declared.unwritten.Unwritten.{Unwritten}
use Rattle.mcs_text.specs.declared.unwritten.Unwritten.TheVariants as unwritten
use Rattle.mcs_text.proofs.WriteLaws.{appended-append, appended-none}
use Rattle.mcs_system.specs.Plain.{Context, System}
use Rattle.mcs_report.specs.Listing.{heading}
use Rattle.mcs_report.specs.Solutions.{first}
use Rattle.mcs_work.specs.declared.task.Task.TheVariants.{Solve}
use Rattle.mcs_listing.specs.Endings.{stop_for_unwritten}
use Rattle.mcs_listing.specs.Listings.{Suffices, IsListedBefore, Prints, PrintsFront, UsesSink}
use Rattle.mcs_listing.proofs.DeviceLemmas.{sink_err}
use Rattle.mcs_listing.proofs.LineLemmas.{line_unfailed}
use Rattle.mcs_listing.specs.declared.ending.Stop.{Stop}
use Rattle.mcs_listing.specs.declared.ending.Stop.TheVariants as stops
use Rattle.mcs_session.specs.Keys.{Key}
use Rattle.mcs_session.specs.Sessions.{SessionState, session_of}
use Rattle.mcs_script.specs.Edits.{Edit, Added, Dropped, Listed, AreAllowed, edited}
use Rattle.mcs_script.specs.Seen.{edit_of}
use Rattle.mcs_script.specs.declared.edit.Edit as code_edit
use Rattle.mcs_script.proofs.EditLemmas.{allowed_more}
use Rattle.mcs_script.proofs.ScriptLemmas.{after_more, edited_contexts}
use Rattle.mcs_report.specs.Sessions.{list_line, session_end_line}
use Rattle.mcs_editing.specs.Listed.{listed_systems, IsKeyOfFirst}
use Rattle.mcs_editing.specs.Texts.{AreListed, IsEndLine, IsSessionText, IsSessionStage, begun, ended}
use Rattle.mcs_editing.specs.Sessions.{SufficesForEach, IsSessionBefore, IsSessionWithin, ListsSystems, StopsSession}
use Rattle.mcs_editing.specs.Course.{HasListedNext, IsBegunPart, IsPartStage, IsUnderWay, IsWaiting, StopsNext, after_all, is_listed, total_of}
use Rattle.mcs_editing.proofs.KeyLemmas.{first_keys}
use Rattle.mcs_editing.proofs.CountLemmas.{joined_all}

-- ---- stages
listed_fits : (systems : List System) (many : ℕ) (text : List ℕ) → AreListed systems many text → many ≤ length systems
listed_fits systems zero text listed = omega arith
listed_fits systems (suc many) text (before, part, listed, own, is) = let inside = slice_get_within systems many own.system own.is_there in omega (arith, inside)

-- after some listings there is a stage that goes on
some_stage : (systems : List System) (many : ℕ) (text : List ℕ) → AreListed systems many text → (rest : List ℕ) × IsSessionStage systems (text ++ rest)
some_stage systems many text listed = at (place_cases systems many)
  where
    at : ((m : System) × (slice_get systems many ≡ Some m)) ⊎ (length systems ≤ many) → (rest : List ℕ) × IsSessionStage systems (text ++ rest)
    at (inl (m, there)) = (list_line m (suc many) ++ heading m, begun many (record { before = text; listed = listed; system = m; is_there = there; listing = heading m; holds = first refl; text_is = refl }))
    at (inr past) =
        let all : many ≡ length systems = (let fits = listed_fits systems many text listed in omega (arith, fits, past)) in
        let (keys, keys_are) = first_keys systems (length systems) in (
          session_end_line (length systems) (length keys),
          ended (record {
            before = text;
            listed = subst (λ (n : ℕ). AreListed systems n text) all listed;
            line = session_end_line (length systems) (length keys);
            ends = record { keys = keys; keys_are = keys_are; line_is = refl };
            text_is = refl;
          }),
        )

-- ---- edits
pub is_listing : (e : Edit) → is_listed e ≡ true → e ≡ Listed
is_listing (Added b) is = absurd (true≢false (sym is))
is_listing (Dropped n) is = absurd (true≢false (sym is))
is_listing Listed is = refl

listed_after : (m : System) (e : Edit) (es : List Edit) → is_listed e ≡ false → listed_systems m (e ∷ es) ≡ listed_systems (edited m e) es
listed_after m (Added b) es is = refl
listed_after m (Dropped n) es is = refl
listed_after m Listed es is = absurd (true≢false is)

module _ (budget : ℕ) (systems : List System) (s : SessionState) (lists answers : ℕ) (before mid : Option (List ℕ)) where
  -- where the session stops between two listings, for want of memory
  pub stops_between : (left : List Edit) → IsUnderWay budget systems left s lists answers before mid → PrintsFront (IsSessionStage systems) before mid
  stops_between left u =
      let (rest, stage) = some_stage systems lists u.text u.listed in
      record { text = u.text ++ rest; holds = stage; front = record { front = u.text; rest = rest; parts = refl; written = u.written } }

  pub after_edit : (e : Edit) (left : List Edit) → is_listed e ≡ false → IsUnderWay budget systems (e ∷ left) s lists answers before mid → IsUnderWay budget systems left (session_of (edited s.system e) s.journals false) lists answers before mid
  after_edit e left change u = record {
    ready = record { home = refl; one_each = u.ready.one_each ∙ sym (ap (λ (cs : List Context). length cs) (edited_contexts s.system e)); keys = u.ready.keys };
    next = u.next ∙ listed_after s.system e left change;
    allowed = u.allowed.2;
    count = u.count;
    text = u.text;
    listed = u.listed;
    within = u.within;
    written = u.written;
  }

  -- ---- a listing
  module _ (left : List Edit) (u : IsUnderWay budget systems (Listed ∷ left) s lists answers before mid) where
    pub next_there : slice_get systems lists ≡ Some s.system
    next_there = (next_dropped lists systems s.system (listed_systems s.system left) u.next).0

    pub after_listing : (s' : SessionState) (new : ℕ) (now : Option (List ℕ)) → HasListedNext budget systems lists s s' new mid now → IsUnderWay budget systems left s' (suc lists) (answers + new) before now
    after_listing s' new now h = record {
      ready = h.ready;
      next = subst (λ (n : ℕ). drop n systems ≡ listed_systems s.system left) (add-one lists) (sym (next_dropped lists systems s.system (listed_systems s.system left) u.next).1) ∙ ap (λ (m : System). listed_systems m left) (sym h.same);
      allowed = subst (λ (m : System). AreAllowed m left) (sym h.same) u.allowed.2;
      count = (let a = u.count in let b = h.count in omega (arith, a, b));
      text = u.text ++ h.text.text;
      listed = (u.text, h.text.text, u.listed, h.text.holds, refl);
      within = λ place m less is. elim (cases_eq place lists) [
        | inl e ↦ subst (λ (n : System). Suffices Solve budget n) (same_Some _ _ (sym next_there ∙ ap (λ (i : ℕ). slice_get systems i) (sym e) ∙ is)) h.within
        | inr other ↦ u.within place m (omega (arith, less, other)) is
      ];
      written = h.text.written ∙ ap (λ (w : Option (List ℕ)). appended w h.text.text) u.written ∙ appended-append before u.text h.text.text;
    }

    written_on : (now : Option (List ℕ)) (part : List ℕ) → now ≡ appended mid part → now ≡ appended before (u.text ++ part)
    written_on now part is = is ∙ ap (λ (w : Option (List ℕ)). appended w part) u.written ∙ appended-append before u.text part

    stage_on : (now : Option (List ℕ)) → PrintsFront (IsPartStage systems lists s.system) mid now → PrintsFront (IsSessionStage systems) before now
    stage_on now p = at p.text p.holds p.front
      where
        at : (text : List ℕ) → IsPartStage systems lists s.system text → WritesFront text mid now → PrintsFront (IsSessionStage systems) before now
        at text (inl (listing, stage, is)) f = record {
          text = u.text ++ text;
          holds = begun lists (record { before = u.text; listed = u.listed; system = s.system; is_there = next_there; listing = listing; holds = stage; text_is = ap (λ (t : List ℕ). u.text ++ t) is });
          front = record { front = u.text ++ f.front; rest = f.rest; parts = append_assoc u.text f.front f.rest ∙ ap (λ (t : List ℕ). u.text ++ t) f.parts; written = written_on now f.front f.written };
        }
        at text (inr part) f =
            let (rest, stage) = some_stage systems (suc lists) (u.text ++ text) (u.text, text, u.listed, part, refl) in
            record {
              text = (u.text ++ text) ++ rest;
              holds = stage;
              front = record {
                front = u.text ++ f.front;
                rest = f.rest ++ rest;
                parts = sym (append_assoc (u.text ++ f.front) f.rest rest) ∙ ap (λ (t : List ℕ). t ++ rest) (append_assoc u.text f.front f.rest ∙ ap (λ (t : List ℕ). u.text ++ t) f.parts);
                written = written_on now f.front f.written;
              };
            }

    before_on : (level : ℕ) (now : Option (List ℕ)) → Prints (IsBegunPart (λ listing. IsListedBefore Solve budget level listing s.system) lists s.system) mid now → Prints (IsSessionBefore budget level systems) before now
    before_on level now p = record {
      text = u.text ++ p.text;
      holds = (let (listing, holds, is) = p.holds in record {
        many = lists;
        within = u.within;
        next = record { before = u.text; listed = u.listed; system = s.system; is_there = next_there; listing = listing; holds = holds; text_is = ap (λ (t : List ℕ). u.text ++ t) is };
      });
      written = written_on now p.text p.written;
    }

    pub stops_in_listing : (stop : Stop) (faults faults' faults'' : ℕ) (now : Option (List ℕ)) → faults ≤ faults' → StopsNext stop budget systems lists s.system (Rose faults' faults'') mid now → StopsSession stop budget systems (Rose faults faults'') before now
    stops_in_listing stops.Usage faults faults' faults'' now up h = h
    stops_in_listing (stops.Refused why) faults faults' faults'' now up h = h
    stops_in_listing (stops.Unfinished level limit) faults faults' faults'' now up h = (h.0, before_on level now h.1)
    stops_in_listing stops.ReadFault faults faults' faults'' now up h = h
    stops_in_listing stops.WriteFault faults faults' faults'' now up h = (let rose = h.0 in omega (arith, up, rose), stage_on now h.1)
    stops_in_listing stops.Memory faults faults' faults'' now up h = stage_on now h

  -- ---- the end
  module _ (u : IsUnderWay budget systems [] s lists answers before mid) where
    all_listed : lists ≡ length systems
    all_listed = let fits = listed_fits systems lists u.text u.listed in let none : length (drop lists systems) ≡ 0 = ap length u.next in let long = length-drop lists systems in omega (arith, fits, none, long)

    all_keys : IsInventory (IsKeyOfFirst systems (length systems)) (flat_map (λ (ks : List Key). ks) s.journals)
    all_keys = subst (λ (n : ℕ). IsInventory (IsKeyOfFirst systems n) (flat_map (λ (ks : List Key). ks) s.journals)) all_listed (inventory_same _ _ _ (λ k. (
      λ q. (let (i, from, below, is) = q in is.0),
      λ f. (k.context, omega arith, u.ready.keys.of_contexts k f, (f, refl)),
    )) (joined_all (λ i k. IsKeyOfFirst systems lists k × (k.context ≡ i)) (λ k. k.context) (λ i k p. p.1) s.journals u.ready.keys.each))

    end_line : IsEndLine systems (session_end_line lists answers)
    end_line = record {
      keys = flat_map (λ (ks : List Key). ks) s.journals;
      keys_are = all_keys;
      line_is = ap (λ (n : ℕ). session_end_line n answers) all_listed ∙ ap (λ (n : ℕ). session_end_line (length systems) n) (u.count ∙ sym (length-flat_map (λ (ks : List Key). ks) s.journals));
    }

    session_text : IsSessionText systems (u.text ++ session_end_line lists answers)
    session_text = record { before = u.text; listed = subst (λ (n : ℕ). AreListed systems n u.text) all_listed u.listed; line = session_end_line lists answers; ends = end_line; text_is = refl }

    enough : SufficesForEach budget systems
    enough place m is = u.within place m (let inside = slice_get_within systems place m is in let all = all_listed in omega (arith, inside, all)) is

    pub ended_well : (now : Option (List ℕ)) → now ≡ appended mid (session_end_line lists answers) → Prints (IsSessionWithin budget systems) before now
    ended_well now is = record {
      text = u.text ++ session_end_line lists answers;
      holds = (enough, session_text);
      written = is ∙ ap (λ (w : Option (List ℕ)). appended w (session_end_line lists answers)) u.written ∙ appended-append before u.text (session_end_line lists answers);
    }

    end_front : (now : Option (List ℕ)) → WritesFront (session_end_line lists answers) mid now → PrintsFront (IsSessionStage systems) before now
    end_front now f = record {
      text = u.text ++ session_end_line lists answers;
      holds = ended session_text;
      front = record {
        front = u.text ++ f.front;
        rest = f.rest;
        parts = append_assoc u.text f.front f.rest ∙ ap (λ (t : List ℕ). u.text ++ t) f.parts;
        written = f.written ∙ ap (λ (w : Option (List ℕ)). appended w f.front) u.written ∙ appended-append before u.text f.front;
      };
    }

    pub end_cut : {T : Type 0} (why : Unwritten) (faults : ℕ) (from now : Device) → from.written ≡ mid → faults ≤ from.faults → Writes {T = T} (session_end_line lists answers) from now (Err why)
        → StopsSession (stop_for_unwritten why) budget systems (Rose faults now.faults) before now.written
    end_cut unwritten.Fault faults from now is up w = (let rose = w.due in omega (arith, up, rose), end_front now.written (subst (λ (t : Option (List ℕ)). WritesFront (session_end_line lists answers) t now.written) is w.front))
    end_cut unwritten.Memory faults from now is up w = end_front now.written (subst (λ (t : Option (List ℕ)). WritesFront (session_end_line lists answers) t now.written) is w.front)

-- ---- edits that wait
after_none : (s : SessionState) → s.lent ≡ false → s ≡ after_all s []
after_none s home = ap (λ (lent : Bool). session_of s.system s.journals lent) home

module _ (budget : ℕ) (systems : List System) (s : SessionState) (lists answers : ℕ) (before mid : Option (List ℕ)) where
  pub none_waits : (left : List Edit) → IsUnderWay budget systems left s lists answers before mid → IsWaiting budget systems [] left s lists answers before mid
  none_waits left u = record {
    home = u.ready.home;
    waiting_allowed = tt;
    under_way = subst (λ (t : SessionState). IsUnderWay budget systems left t lists answers before mid) (after_none s u.ready.home) u;
  }

  -- one edit more waits
  pub one_waits : (waiting : List Edit) (e : Edit) (left : List Edit) → is_listed e ≡ false → IsWaiting budget systems waiting (e ∷ left) s lists answers before mid → IsWaiting budget systems (waiting ++ e ∷ []) left s lists answers before mid
  one_waits waiting e left change w = record {
    home = w.home;
    waiting_allowed = allowed_more s.system waiting e w.waiting_allowed w.under_way.allowed.0 w.under_way.allowed.1;
    under_way = subst (λ (m : System). IsUnderWay budget systems left (session_of m s.journals false) lists answers before mid) (sym (after_more s.system waiting e))
        (after_edit budget systems (after_all s waiting) lists answers before mid e left change w.under_way);
  }

-- ---- the beginning
none_of : {A B : Type 0} (xs : List A) (i : ℕ) (ys : List B) → slice_get (map (λ (x : A). []) xs) i ≡ Some ys → ys ≡ []
none_of [] i ys is = absurd (cc)
none_of (x ∷ xs) zero ys is = sym (same_Some _ _ is)
none_of (x ∷ xs) (suc i) ys is = none_of xs i ys is

total_none : (xs : List Context) → total_of (map (λ (x : Context). []) xs) ≡ 0
total_none [] = refl
total_none (x ∷ xs) = let one = sum_by-cons (λ (ks : List Key). length ks) [] (map (λ (x : Context). []) xs) in let rest = total_none xs in omega (arith, one, rest)

pub nothing_listed : (budget : ℕ) (m : System) (edits : List Edit) (now : Option (List ℕ)) → AreAllowed m edits
    → IsUnderWay budget (listed_systems m edits) edits (session_of m (map (λ (c : Context). []) m.contexts) false) 0 0 now now
nothing_listed budget m edits now allowed = record {
  ready = record {
    home = refl;
    one_each = length-map m.contexts (λ (c : Context). []);
    keys = record {
      of_contexts = λ k f. absurd (let less = f.earlier in omega (arith, less));
      each = λ i keys is. subst (IsInventory (λ k. IsKeyOfFirst (listed_systems m edits) 0 k × (k.context ≡ i))) (sym (none_of m.contexts i keys is)) (record { exactly = λ k. (λ h. absurd h, λ p. absurd (let less = p.0.earlier in omega (arith, less))); apart = tt });
    };
  };
  next = refl;
  allowed = allowed;
  count = sym (total_none m.contexts);
  text = [];
  listed = refl;
  within = λ place n less is. absurd (omega (arith, less));
  written = appended-none now;
}

-- ---- the outcome
-- no edits are left
pub none_left : (edits : List code_edit.Edit) (i : ℕ) → length edits ≤ i → map edit_of (drop i edits) ≡ []
none_left [] zero past = refl
none_left [] (suc i) past = refl
none_left (e ∷ es) zero past = absurd (omega (arith, past))
none_left (e ∷ es) (suc i) past = none_left es i (omega (arith, past))

-- the edits of a script from one on, before another one
abbrev pub edits_in : List code_edit.Edit → ℕ → ℕ → List Edit
edits_in edits from to = map edit_of (slice_range edits from to)

abbrev pub edits_from : List code_edit.Edit → ℕ → List Edit
edits_from edits from = map edit_of (drop from edits)

pub no_edits : (edits : List code_edit.Edit) (from to : ℕ) → to ≤ from → edits_in edits from to ≡ []
no_edits edits from to none = ap (λ (n : ℕ). map edit_of (take n (drop from edits))) (let zero_is : to - from ≡ 0 = omega (arith, none) in zero_is)

one_more : (edits : List code_edit.Edit) (from i : ℕ) (e : code_edit.Edit) → from ≤ i → i < length edits → e ≡ get_or edits i e → edits_in edits from (i + 1) ≡ edits_in edits from i ++ edit_of e ∷ []
one_more edits from i e past less at =
    let long = length-drop from edits in
    let next : i + 1 - from ≡ (i - from) + 1 = omega (arith, past) in
    let same : from + (i - from) ≡ i = omega (arith, past) in
    ap (λ (n : ℕ). map edit_of (take n (drop from edits))) next
    ∙ map-take_read edit_of (drop from edits) (i - from) e (omega (arith, long, past, less)) (at ∙ sym (get_or-drop from edits (i - from) e ∙ ap (λ (n : ℕ). get_or edits n e) same))

-- those of a script wait from one on
abbrev pub WaitsAt : ℕ → List System → List code_edit.Edit → ℕ → ℕ → SessionState → ℕ → ℕ → Option (List ℕ) → Option (List ℕ) → Type 0
WaitsAt budget systems edits from i s lists answers before mid = IsWaiting budget systems (edits_in edits from i) (edits_from edits i) s lists answers before mid

-- an edit is next
module _ (budget : ℕ) (systems : List System) (edits : List code_edit.Edit) (from i : ℕ) (s : SessionState) (lists answers : ℕ) (before mid : Option (List ℕ)) (w : WaitsAt budget systems edits from i s lists answers before mid)
    (e : code_edit.Edit) (less : i < length edits) (at : e ≡ get_or edits i e) where
  edit_next : IsUnderWay budget systems (edit_of e ∷ edits_from edits (i + 1)) (after_all s (edits_in edits from i)) lists answers before mid
  edit_next = subst (λ (es : List Edit). IsUnderWay budget systems es (after_all s (edits_in edits from i)) lists answers before mid) (map-drop_more edit_of edits i e less at) w.under_way

  -- it asks for a listing, for which those that waited were made
  pub at_listing : (t : SessionState) → t ≡ after_all s (edits_in edits from i) → is_listed (edit_of e) ≡ true → IsUnderWay budget systems (Listed ∷ edits_from edits (i + 1)) t lists answers before mid
  at_listing t made is = subst (λ (d : Edit). IsUnderWay budget systems (d ∷ edits_from edits (i + 1)) t lists answers before mid) (is_listing (edit_of e) is)
      (subst (λ (k : SessionState). IsUnderWay budget systems (edit_of e ∷ edits_from edits (i + 1)) k lists answers before mid) (sym made) edit_next)

  pub waits_on : from ≤ i → is_listed (edit_of e) ≡ false → WaitsAt budget systems edits from (i + 1) s lists answers before mid
  waits_on past change = subst (λ (es : List Edit). IsWaiting budget systems es (edits_from edits (i + 1)) s lists answers before mid) (sym (one_more edits from i e past less at))
      (one_waits budget systems s lists answers before mid (edits_in edits from i) (edit_of e) (edits_from edits (i + 1)) change (record { home = w.home; waiting_allowed = w.waiting_allowed; under_way = edit_next }))

-- after a listing none waits
pub waits_for_none : (budget : ℕ) (systems : List System) (edits : List code_edit.Edit) (i : ℕ) (s : SessionState) (lists answers : ℕ) (before mid : Option (List ℕ)) → IsUnderWay budget systems (edits_from edits i) s lists answers before mid → WaitsAt budget systems edits i i s lists answers before mid
waits_for_none budget systems edits i s lists answers before mid u = subst (λ (es : List Edit). IsWaiting budget systems es (edits_from edits i) s lists answers before mid) (sym (no_edits edits i i (omega arith))) (none_waits budget systems s lists answers before mid (edits_from edits i) u)

module _ (budget : ℕ) (systems : List System) (before mid : Device) (faults : mid.faults ≡ before.faults) (notes : mid.notes ≡ before.notes) (s : SessionState) (lists answers : ℕ) where
  -- want of memory between two listings
  pub lists_between : (left : List Edit) → IsUnderWay budget systems left s lists answers before.written mid.written → (r : Result (Unit {0}) Stop) → IsErrAnd r (λ stop. stop ≡ stops.Memory) → ListsSystems budget systems before mid r
  lists_between left u (Ok x) is = absurd is
  lists_between left u (Err stop) is = record {
    later = omega (arith, faults);
    unfailed = λ other. faults;
    notes = notes;
    done = tt;
    stop = subst (λ (e : Stop). StopsSession e budget systems (Rose before.faults mid.faults) before.written mid.written) (sym is) (stops_between budget systems s lists answers before.written mid.written left u);
  }

  -- a listing that stopped
  pub lists_in_listing : {T : Type 0} (left : List Edit) → IsUnderWay budget systems (Listed ∷ left) s lists answers before.written mid.written → (why : Stop) (now : Device) → UsesSink {T = T} mid now (Err why)
      → StopsNext why budget systems lists s.system (Rose mid.faults now.faults) mid.written now.written → (r : Result (Unit {0}) Stop) → IsErrAnd r (λ stop. stop ≡ why) → ListsSystems budget systems before now r
  lists_in_listing left u why now uses h (Ok x) is = absurd is
  lists_in_listing left u why now uses h (Err stop) is = record {
    later = (let up = uses.later in omega (arith, faults, up));
    unfailed = λ other. (let told : Result (Unit {0}) Stop = Err stop in (sink_err mid now why told is uses).unfailed other ∙ faults);
    notes = uses.notes ∙ notes;
    done = tt;
    stop = subst (λ (e : Stop). StopsSession e budget systems (Rose before.faults now.faults) before.written now.written) (sym is)
        (stops_in_listing budget systems s lists answers before.written mid.written left u why before.faults mid.faults now.faults now.written (omega (arith, faults)) h);
  }

  -- the last line
  module _ (u : IsUnderWay budget systems [] s lists answers before.written mid.written) where
    pub lists_ended : {T : Type 0} (x : T) (now : Device) → Writes (session_end_line lists answers) mid now (Ok x) → (y : Unit {0}) → ListsSystems budget systems before now (Ok y)
    lists_ended x now w y = record {
      later = (let up = w.later in omega (arith, faults, up));
      unfailed = λ other. w.quiet ∙ faults;
      notes = w.notes ∙ notes;
      done = ended_well budget systems s lists answers before.written mid.written u now.written w.whole;
      stop = tt;
    }

    pub lists_cut : {T : Type 0} (why : Unwritten) (now : Device) → Writes {T = T} (session_end_line lists answers) mid now (Err why) → (r : Result (Unit {0}) Stop) → IsErrAnd r (λ stop. stop ≡ stop_for_unwritten why) → ListsSystems budget systems before now r
    lists_cut why now w (Ok x) is = absurd is
    lists_cut why now w (Err stop) is = record {
      later = (let up = w.later in omega (arith, faults, up));
      unfailed = λ other. (let told : Result (Unit {0}) Stop = Err stop in line_unfailed why mid.faults now.faults told is w.due other ∙ faults);
      notes = w.notes ∙ notes;
      done = tt;
      stop = subst (λ (e : Stop). StopsSession e budget systems (Rose before.faults now.faults) before.written now.written) (sym is)
          (end_cut budget systems s lists answers before.written mid.written u why before.faults mid now refl (omega (arith, faults)) w);
    }
