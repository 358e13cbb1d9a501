-- Rows of tables of which later ones have no rows that fit none of an earlier one.
use Rattle.std.proofs.Common.{◌≡◌, List, [], ◌∷◌, ◌++◌, refl, sym, subst, inl, inr}
use Rattle.std.proofs.lemmas.List.{append-nil, append_assoc}
use Rattle.std.specs.List.{AllByRecursion, AllZip}
use Rattle.mcs_sets.specs.Sets.{Within}
use Rattle.mcs_base.specs.Listings.{IsAmong}
use Rattle.mcs_base.specs.Partials.{PartialState, Fits}
use Rattle.mcs_base.proofs.Each.{all_weaker, all_push}
use Rattle.mcs_table.specs.declared.row.Row.{Row}
use Rattle.mcs_table.specs.Tables.{TableData, IsTable}
use Rattle.mcs_table.specs.Joins.{FitTogether}
use Rattle.mcs_table.specs.Fitting.{FitsSome, FitsEach, IsFitting, AreFittingAfter}

-- the same state, and no more marks
abbrev pub IsWithin : Row → Row → Type 0
IsWithin q p = (q.state ≡ p.state) × Within q.marks p.marks

-- one of the rows has this state
abbrev HasState : List Row → PartialState → Type 0
HasState rows s = (p : Row) × IsAmong p rows × (s ≡ p.state)

-- the table has a row of the state of one of them
abbrev pub HasOneOf : List Row → TableData → Type 0
HasOneOf rows t = (r : Row) × IsAmong r t.rows × HasState rows r.state

-- a row that fits all of some rows fits each table that has a row of the state of one of them
fits_each : (all : List Row) → FitTogether all → (p : Row) → IsAmong p all → (before : List TableData) → AllByRecursion (HasOneOf all) before → FitsEach p.state before
fits_each all fit p in_p before have =
    all_weaker (HasOneOf all) (λ (t : TableData). FitsSome p.state t.rows)
    (λ t (r, in_r, (q, in_q, same)). (r, in_r, subst (λ (s : PartialState). Fits p.state s) (sym same) (fit p q in_p in_q))) before have

-- of rows of the first tables, which fit together, there are rows of the others of the same states and with no more marks
pub fitting_below : (all : List Row) → FitTogether all → (before ts us : List TableData) → AreFittingAfter before ts us → AllByRecursion (HasOneOf all) before → (ps : List Row) → ((p : Row) → IsAmong p ps → IsAmong p all)
    → AllZip (λ (p : Row) (t : TableData). IsAmong p t.rows) ps ts → (qs : List Row) × AllZip (λ (q : Row) (u : TableData). IsAmong q u.rows) qs us × AllZip IsWithin qs ps
fitting_below all fit before [] [] made have [] inside zip = ([], tt, tt)
fitting_below all fit before [] [] made have (p ∷ ps) inside zip = absurd zip
fitting_below all fit before [] (u ∷ us) made have ps inside zip = absurd made
fitting_below all fit before (t ∷ ts) [] made have ps inside zip = absurd made
fitting_below all fit before (t ∷ ts) (u ∷ us) made have [] inside zip = absurd zip
fitting_below all fit before (t ∷ ts) (u ∷ us) made have (p ∷ ps) inside zip =
    let in_p = inside p (inl refl) in
    let q = made.0.below p zip.0 (fits_each all fit p in_p before have) in
    let more = all_push (HasOneOf all) before u have (q.by, q.among, (p, in_p, q.state)) in
    let (qs, zips, within) = fitting_below all fit (before ++ u ∷ []) ts us made.1 more ps (λ x among. inside x (inr among)) zip.1 in
    (q.by ∷ qs, (q.among, zips), ((q.state, q.within), within))

-- what they have of the first ones
pub fitting_rows : (before ts us : List TableData) → AreFittingAfter before ts us → AllZip (λ (t u : TableData). (p : Row) → IsAmong p u.rows → IsAmong p t.rows) ts us
fitting_rows before [] [] made = tt
fitting_rows before [] (u ∷ us) made = absurd made
fitting_rows before (t ∷ ts) [] made = absurd made
fitting_rows before (t ∷ ts) (u ∷ us) made = (made.0.from, fitting_rows (before ++ u ∷ []) ts us made.1)

pub fitting_parts : (before ts us : List TableData) → AreFittingAfter before ts us → (ps : List Row) → AllZip (λ (p : Row) (u : TableData). IsAmong p u.rows) ps us → AllZip (λ (p : Row) (t : TableData). IsAmong p t.rows) ps ts
fitting_parts before [] [] made ps zip = zip
fitting_parts before [] (u ∷ us) made ps zip = absurd made
fitting_parts before (t ∷ ts) [] made ps zip = absurd made
fitting_parts before (t ∷ ts) (u ∷ us) made [] zip = absurd zip
fitting_parts before (t ∷ ts) (u ∷ us) made (p ∷ ps) zip = (made.0.from p zip.0, fitting_parts (before ++ u ∷ []) ts us made.1 ps zip.1)

pub fitting_are_tables : (before ts us : List TableData) → AreFittingAfter before ts us → AllByRecursion IsTable us
fitting_are_tables before [] [] made = tt
fitting_are_tables before [] (u ∷ us) made = absurd made
fitting_are_tables before (t ∷ ts) [] made = absurd made
fitting_are_tables before (t ∷ ts) (u ∷ us) made = (made.0.table, fitting_are_tables (before ++ u ∷ []) ts us made.1)

-- one more
pub fitting_push : (before ts us : List TableData) (t u : TableData) → AreFittingAfter before ts us → IsFitting (before ++ us) t u → AreFittingAfter before (ts ++ t ∷ []) (us ++ u ∷ [])
fitting_push before [] [] t u made one = (subst (λ (others : List TableData). IsFitting others t u) (append-nil before) one, tt)
fitting_push before [] (v ∷ us) t u made one = absurd made
fitting_push before (s ∷ ts) [] t u made one = absurd made
fitting_push before (s ∷ ts) (v ∷ us) t u made one =
    (made.0, fitting_push (before ++ v ∷ []) ts us t u made.1 (subst (λ (others : List TableData). IsFitting others t u) (sym (append_assoc before (v ∷ []) us)) one))
