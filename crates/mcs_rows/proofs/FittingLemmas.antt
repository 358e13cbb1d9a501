-- Answers and rows where states that fit no row of some tables go.
use Rattle.std.proofs.Common.{◌≡◌, ◌∙◌, ◌+◌, ◌<◌, ℕ, List, [], ◌∷◌, length, get_or, take, refl, sym, subst, inl, inr, ◌↔◌}
use Rattle.std.specs.List.{AllByRecursion, AllZip}
use Rattle.mcs_sets.specs.Orders.{StateBefore}
use Rattle.mcs_sets.specs.Sets.{common}
use Rattle.mcs_base.specs.Listings.{IsAmong, IsListing}
use Rattle.mcs_base.proofs.Each.{all_among, all_from_among}
use Rattle.mcs_table.specs.Fitting.{IsRowProjection, AreFittingStates}
use Rattle.mcs_table.specs.Tables.{TableData, IsTable}
use Rattle.mcs_table.proofs.FittingLemmas.{fitting_same, fitting_more, projection_step}
use Rattle.mcs_rows.specs.Fitting.{HasSameParts, HasProjectedParts, HasFittingParts}
use Rattle.mcs_rows.specs.declared.answer.Answer.{Answer}

-- ---- answers with some of their parts
pub copies_fit : (set : ℕ) (answers all : List Answer) → AllZip HasSameParts answers all → AllZip (HasFittingParts set []) answers all
copies_fit set [] [] zip = tt
copies_fit set [] (b ∷ bs) zip = absurd zip
copies_fit set (a ∷ later) [] zip = absurd zip
copies_fit set (a ∷ later) (b ∷ bs) zip = (record { active = zip.0.active; parts = subst (λ (xs : List ℕ). AreFittingStates set [] a.parts.items xs) (sym zip.0.parts) (fitting_same set [] a.parts.items) }, copies_fit set later bs zip.1)

module _ (set : ℕ) (tables : List TableData) (k : ℕ) (t : TableData) (less : k < length tables) (here : t ≡ get_or tables k t) where
  -- a table that tells nothing
  pub parts_same : (answers kept : List Answer) → AllZip (HasFittingParts set (take k tables)) answers kept → AllZip (HasFittingParts set (take (k + 1) tables)) answers kept
  parts_same [] [] zip = tt
  parts_same [] (b ∷ bs) zip = absurd zip
  parts_same (a ∷ later) [] zip = absurd zip
  parts_same (a ∷ later) (b ∷ bs) zip = (record { active = zip.0.active; parts = fitting_more set tables k t less here a.parts.items b.parts.items b.parts.items zip.0.parts (fitting_same set (t ∷ []) b.parts.items) }, parts_same later bs zip.1)

  -- one that tells which
  module _ (is : IsTable t) (projections : List ℕ) (listing : IsListing (IsRowProjection t.rows set) StateBefore projections) where
    pub parts_more : (answers kept next : List Answer) → AllZip (HasFittingParts set (take k tables)) answers kept → AllZip (HasProjectedParts projections (common set t.scope)) kept next → AllZip (HasFittingParts set (take (k + 1) tables)) answers next
    parts_more [] [] [] zip zip' = tt
    parts_more [] [] (c ∷ cs) zip zip' = absurd zip'
    parts_more [] (b ∷ bs) cs zip zip' = absurd zip
    parts_more (a ∷ later) [] cs zip zip' = absurd zip
    parts_more (a ∷ later) (b ∷ bs) [] zip zip' = absurd zip'
    parts_more (a ∷ later) (b ∷ bs) (c ∷ cs) zip zip' = (
      record {
        active = zip'.0.active ∙ zip.0.active;
        parts = fitting_more set tables k t less here a.parts.items b.parts.items c.parts.items zip.0.parts (projection_step t is set projections b.parts.items c.parts.items listing zip'.0.parts);
      },
      parts_more later bs cs zip.1 zip'.1,
    )

-- each answer that is left comes of one, and each one has one that is left
pub answer_before : (set : ℕ) (tables : List TableData) (answers kept : List Answer) → AllZip (HasFittingParts set tables) answers kept → (b : Answer) → IsAmong b kept → (a : Answer) × IsAmong a answers × HasFittingParts set tables a b
answer_before set tables [] [] zip b among = absurd among
answer_before set tables [] (c ∷ cs) zip b among = absurd zip
answer_before set tables (a ∷ later) [] zip b among = absurd zip
answer_before set tables (a ∷ later) (c ∷ cs) zip b (inl e) = (a, inl refl, subst (λ (d : Answer). HasFittingParts set tables a d) (sym e) zip.0)
answer_before set tables (a ∷ later) (c ∷ cs) zip b (inr among) = let (a', there, h) = answer_before set tables later cs zip.1 b among in (a', inr there, h)

pub answer_after : (set : ℕ) (tables : List TableData) (answers kept : List Answer) → AllZip (HasFittingParts set tables) answers kept → (a : Answer) → IsAmong a answers → (b : Answer) × IsAmong b kept × HasFittingParts set tables a b
answer_after set tables [] [] zip a among = absurd among
answer_after set tables [] (c ∷ cs) zip a among = absurd among
answer_after set tables (d ∷ later) [] zip a among = absurd zip
answer_after set tables (d ∷ later) (c ∷ cs) zip a (inl e) = (c, inl refl, subst (λ (d' : Answer). HasFittingParts set tables d' c) (sym e) zip.0)
answer_after set tables (d ∷ later) (c ∷ cs) zip a (inr among) = let (b, there, h) = answer_after set tables later cs zip.1 a among in (b, inr there, h)

-- ---- one answer after the other
pub projected_as : (old lent projections told : List ℕ) (set on : ℕ) (new : List ℕ) → lent ≡ old → told ≡ projections → on ≡ set → ((s : ℕ) → IsAmong s new ↔ (IsAmong s lent × IsAmong (common s on) told)) → (s : ℕ) → IsAmong s new ↔ (IsAmong s old × IsAmong (common s set) projections)
projected_as old lent projections told set on new e e' e'' kept =
    subst (λ (xs : List ℕ). (s : ℕ) → IsAmong s new ↔ (IsAmong s xs × IsAmong (common s set) projections)) e
    (subst (λ (ys : List ℕ). (s : ℕ) → IsAmong s new ↔ (IsAmong s lent × IsAmong (common s set) ys)) e' (subst (λ (z : ℕ). (s : ℕ) → IsAmong s new ↔ (IsAmong s lent × IsAmong (common s z) told)) e'' kept))

pub rules_same : (set : ℕ) (tables : List TableData) (answers kept : List Answer) (P : ℕ → Type 0) → AllZip (HasFittingParts set tables) answers kept → AllByRecursion (λ (a : Answer). P a.active) answers → AllByRecursion (λ (a : Answer). P a.active) kept
rules_same set tables answers kept P zip all = all_from_among (λ (a : Answer). P a.active) kept (λ b among.
    let (a, before, h) = answer_before set tables answers kept zip b among in
    subst P (sym h.active) (all_among (λ (d : Answer). P d.active) answers a all before))
