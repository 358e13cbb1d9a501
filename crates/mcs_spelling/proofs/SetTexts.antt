-- Sets are read as they are spelled, and nothing else is.
use Rattle.std.proofs.Common.{◌≡◌, ℕ, ◌+◌, ◌<◌, ◌≤◌, Bool, true, false, cond, ◌||◌, nat_eq, List, [], ◌∷◌, ◌++◌, length, codes, Option, Some, None, refl, sym, ap, ◌∙◌, subst, arith, append_assoc, inl, inr, true≢false}
use Rattle.std.proofs.lemmas.Bool.{cases_Bool, cases_lt, eqb-true, ne_eqb}
use Rattle.std.proofs.lemmas.Bool.Decides.{nat_tests}
use Rattle.std.proofs.lemmas.List.{append_cancel_left}
use Rattle.std.proofs.lemmas.Option.{cond_some, none-some}
use Rattle.std.proofs.lemmas.Slice.Eq.{bytes_eq-Decides}
use Rattle.std.specs.List.{AllByRecursion}
use Rattle.std.specs.Option.{option_and_then, option_map_or}
use Rattle.std.specs.Str.{bytes_eq}
use Rattle.mcs_sets.specs.Sets.{has, single, union}
use Rattle.mcs_sets.proofs.Lattice.{in_with, no_member_of_none}
use Rattle.mcs_sets.proofs.SetLemmas.{same_set, has-union, has-single, has-empty}
use Rattle.mcs_base.specs.Listings.{IsAmong, AreApart}
use Rattle.mcs_text.proofs.Members.{left, left-none}
use Rattle.mcs_text.specs.Separated.{further, separated}
use Rattle.mcs_spelling.specs.Parts.{chosen, set_text, AreMembersAllowed, IsTellable, AreTellable, SpellsSet}
use Rattle.mcs_spelling.specs.Words.{after_prefix, ends_member, guarded, after_member, set_from, set_of}
use Rattle.mcs_spelling.proofs.NumberTexts.{bound}
use Rattle.mcs_spelling.proofs.LiteralTexts.{after_front, after_is}
use Rattle.mcs_spelling.specs.Spelled.{sep}

abbrev close : List ℕ
close = codes "}"

-- ---- members, and what follows
left_more : (b : Bool) (t : List ℕ) (ts : List (List ℕ)) → left b (t ∷ ts) ++ close ≡ sep b ++ (t ++ (further ts ++ close))
left_more true t ts = append_assoc t (further ts) close
left_more false t ts = ap (λ (x : List ℕ). codes ", " ++ x) (append_assoc t (further ts) close)

follows : (ts : List (List ℕ)) → ends_member (further ts ++ close) ≡ true
follows [] = refl
follows (t ∷ ts) = refl

split_off : (b : Bool) (bytes t rest : List ℕ) → after_member bytes b t ≡ Some rest → (bytes ≡ sep b ++ (t ++ rest)) × (ends_member rest ≡ true)
unfolding after_member
split_off true bytes t rest e =
    let (start, a, e1) = bound (λ r. guarded (ends_member r) r) (after_prefix t bytes) rest e in
    let h = cond_some (ends_member start) start rest e1 in
    (after_is t bytes start a ∙ ap (λ (r : List ℕ). t ++ r) h.1, subst (λ (r : List ℕ). ends_member r ≡ true) h.1 h.0)
split_off false bytes t rest e =
    let (start, a, e1) = bound (λ s. option_and_then (λ r. guarded (ends_member r) r) (after_prefix t s)) (after_prefix (codes ", ") bytes) rest e in
    let (other, c, e2) = bound (λ r. guarded (ends_member r) r) (after_prefix t start) rest e1 in
    let h = cond_some (ends_member other) other rest e2 in
    (after_is (codes ", ") bytes start a ∙ ap (λ (r : List ℕ). codes ", " ++ r) (after_is t start other c ∙ ap (λ (r : List ℕ). t ++ r) h.1), subst (λ (r : List ℕ). ends_member r ≡ true) h.1 h.0)

taken_off : (b : Bool) (t rest : List ℕ) → ends_member rest ≡ true → after_member (sep b ++ (t ++ rest)) b t ≡ Some rest
unfolding after_member
taken_off true t rest e = rw (after_front t rest, e) refl
taken_off false t rest e = rw (after_front (codes ", ") (t ++ rest), after_front t rest, e) refl

-- ---- texts that end at a comma or a brace
no_end : (b : ℕ) (x : List ℕ) → ¬ (b ≡ 44) → ¬ (b ≡ 125) → ends_member (b ∷ x) ≡ true → ⊥
no_end b x no_comma no_brace e = at (nat_eq b 44) (nat_eq b 125) refl refl e
  where
    at : (u v : Bool) → nat_eq b 44 ≡ u → nat_eq b 125 ≡ v → (u || v) ≡ true → ⊥
    at true v u' v' e = no_comma (eqb-true b 44 u')
    at false true u' v' e = no_brace (eqb-true b 125 v')
    at false false u' v' e = true≢false (sym e)

same_text : (t u x y : List ℕ) → AllByRecursion (λ b. (¬ (b ≡ 44)) × (¬ (b ≡ 125))) t → AllByRecursion (λ b. (¬ (b ≡ 44)) × (¬ (b ≡ 125))) u → ends_member x ≡ true → ends_member y ≡ true → t ++ x ≡ u ++ y → t ≡ u
same_text [] [] x y pt pu ex ey e = refl
same_text [] (c ∷ u) x y pt pu ex ey e = absurd (no_end c (u ++ y) pu.0.0 pu.0.1 (subst (λ (r : List ℕ). ends_member r ≡ true) e ex))
same_text (b ∷ t) [] x y pt pu ex ey e = absurd (no_end b (t ++ x) pt.0.0 pt.0.1 (subst (λ (r : List ℕ). ends_member r ≡ true) (sym e) ey))
same_text (b ∷ t) (c ∷ u) x y pt pu ex ey e =
    let parts : b ∷ (t ++ x) ≡ c ∷ (u ++ y) = e in
    let first : b ≡ c = cc in
    let rest : t ++ x ≡ u ++ y = cc in
    ap (λ n. n ∷ t) first ∙ ap (λ (r : List ℕ). c ∷ r) (same_text t u x y pt.1 pu.1 ex ey rest)

not_empty : (t x y : List ℕ) → IsTellable t → 125 ∷ y ≡ t ++ x → ⊥
not_empty [] x y tell e = tell.0 refl
not_empty (b ∷ t) x y tell e = let parts : 125 ∷ y ≡ b ∷ (t ++ x) = e in let first : b ≡ 125 = cc in tell.1.0.1 first

-- what is not the next member is not found there
none_fits : (b : Bool) (t : List ℕ) (cs : List (List ℕ)) → IsTellable t → AllByRecursion IsTellable cs → ¬ IsAmong t cs → (o : Option (List ℕ)) → after_member (left b cs ++ close) b t ≡ o → o ≡ None
none_fits b t cs tell tells out None e = refl
none_fits b t [] tell tells out (Some rest) e = absurd (nothing b (split_off b (left b [] ++ close) t rest e).0)
  where
    nothing : (v : Bool) → left v [] ++ close ≡ sep v ++ (t ++ rest) → ⊥
    nothing true is = not_empty t rest [] tell is
    nothing false is = cc
none_fits b t (u ∷ us) tell tells out (Some rest) e =
    let h = split_off b (left b (u ∷ us) ++ close) t rest e in
    let tails : u ++ (further us ++ close) ≡ t ++ rest = append_cancel_left (sep b) (u ++ (further us ++ close)) (t ++ rest) (sym (left_more b u us) ∙ h.0) in
    absurd (out (inl (same_text t u rest (further us ++ close) tell.1 tells.0.1 h.1 (follows us) (sym tails))))

-- ---- one more member
more_is : (found k : ℕ) → nat_eq (union found (single k)) 0 ≡ false
more_is found k = ne_eqb (union found (single k)) 0 (λ none. no_member_of_none (union found (single k)) none k ((in_with found k k).1 (inr refl)))

-- ---- what is read is spelled
record IsRead (allowed k : ℕ) (ts : List (List ℕ)) (found : ℕ) (bytes : List ℕ) (r : ℕ) : Type 0 where
  text : bytes ≡ left (nat_eq found 0) (chosen r k ts) ++ close
  below : (j : ℕ) → j < k → has r j ≡ has found j
  above : (j : ℕ) → k ≤ j → has r j ≡ true → (j < k + length ts) × (has allowed j ≡ true)

at_end : (allowed k found : ℕ) (bytes : List ℕ) (r : ℕ) → ((j : ℕ) → k ≤ j → has found j ≡ false) → guarded (bytes_eq bytes close) found ≡ Some r → IsRead allowed k [] found bytes r
at_end allowed k found bytes r none e =
    let h = cond_some (bytes_eq bytes close) found r e in
    let is : bytes ≡ close = (bytes_eq-Decides bytes close).0 h.0 in
    record {
      text = is ∙ sym (ap (λ (t : List ℕ). t ++ close) (left-none (nat_eq found 0)));
      below = (λ j less. ap (λ s. has s j) (sym h.1));
      above = (λ j more e'. absurd (true≢false (sym e' ∙ (ap (λ s. has s j) (sym h.1) ∙ none j more))));
    }

skipped : (allowed k : ℕ) (t : List ℕ) (ts : List (List ℕ)) (found : ℕ) (bytes : List ℕ) (r : ℕ) → has found k ≡ false → IsRead allowed (k + 1) ts found bytes r → IsRead allowed k (t ∷ ts) found bytes r
skipped allowed k t ts found bytes r out h =
    let not_in : has r k ≡ false = h.below k (omega arith) ∙ out in
    record {
      text = h.text ∙ ap (λ (v : Bool). left (nat_eq found 0) (cond v (t ∷ chosen r (k + 1) ts) (chosen r (k + 1) ts)) ++ close) (sym not_in);
      below = (λ j less. h.below j (omega arith));
      above = (λ j more e. elim (cases_lt k j) [
        | inl after_prefix ↦ let a = h.above j (omega arith) e in (let b = a.0 in omega (arith, b), a.1)
        | inr past ↦ let same : j ≡ k = omega arith in absurd (true≢false (sym e ∙ (ap (has r) same ∙ not_in)))
      ]);
    }

taken_in : (allowed k : ℕ) (t : List ℕ) (ts : List (List ℕ)) (found : ℕ) (bytes rest : List ℕ) (r : ℕ) → has allowed k ≡ true → bytes ≡ sep (nat_eq found 0) ++ (t ++ rest)
    → IsRead allowed (k + 1) ts (union found (single k)) rest r → IsRead allowed k (t ∷ ts) found bytes r
taken_in allowed k t ts found bytes rest r ok is h =
    let inside : has r k ≡ true = h.below k (omega arith) ∙ grind (arith, nat_tests, has-union, has-single) in
    let others : rest ≡ further (chosen r (k + 1) ts) ++ close = h.text ∙ ap (λ (v : Bool). left v (chosen r (k + 1) ts) ++ close) (more_is found k) in
    record {
      text = is ∙ (ap (λ (x : List ℕ). sep (nat_eq found 0) ++ (t ++ x)) others ∙ (sym (left_more (nat_eq found 0) t (chosen r (k + 1) ts))
          ∙ ap (λ (v : Bool). left (nat_eq found 0) (cond v (t ∷ chosen r (k + 1) ts) (chosen r (k + 1) ts)) ++ close) (sym inside)));
      below = (λ j less. h.below j (omega arith) ∙ unlike j less);
      above = (λ j more e. elim (cases_lt k j) [
        | inl after_prefix ↦ let a = h.above j (omega arith) e in (let b = a.0 in omega (arith, b), a.1)
        | inr past ↦ let same : j ≡ k = omega arith in (omega arith, ap (has allowed) same ∙ ok)
      ]);
    }
  where
    unlike : (j : ℕ) → j < k → has (union found (single k)) j ≡ has found j
    unlike j less = grind (arith, nat_tests, has-union, has-single)

step : (allowed k : ℕ) (t : List ℕ) (ts : List (List ℕ)) (found : ℕ) (bytes : List ℕ) (r : ℕ) → ((j : ℕ) → k ≤ j → has found j ≡ false)
    → ((found' : ℕ) (bytes' : List ℕ) → ((j : ℕ) → k + 1 ≤ j → has found' j ≡ false) → set_from allowed (k + 1) ts found' bytes' ≡ Some r → IsRead allowed (k + 1) ts found' bytes' r)
    → (v : Bool) → has allowed k ≡ v → (o : Option (List ℕ)) → cond v (after_member bytes (nat_eq found 0) t) None ≡ o
    → option_map_or (λ rest. set_from allowed (k + 1) ts (union found (single k)) rest) o (set_from allowed (k + 1) ts found bytes) ≡ Some r → IsRead allowed k (t ∷ ts) found bytes r
step allowed k t ts found bytes r none again v ok None o e = skipped allowed k t ts found bytes r (none k (omega arith)) (again found bytes (λ j more. none j (omega arith)) e)
step allowed k t ts found bytes r none again true ok (Some rest) o e =
    let h = split_off (nat_eq found 0) bytes t rest o in
    taken_in allowed k t ts found bytes rest r ok h.0 (again (union found (single k)) rest (λ j more. let n = none j (omega arith) in grind (arith, nat_tests, has-union, has-single)) e)
step allowed k t ts found bytes r none again false ok (Some rest) o e = absurd (cc)

sound : (allowed k : ℕ) (ts : List (List ℕ)) (found : ℕ) (bytes : List ℕ) (r : ℕ) → ((j : ℕ) → k ≤ j → has found j ≡ false) → set_from allowed k ts found bytes ≡ Some r → IsRead allowed k ts found bytes r
sound allowed k [] found bytes r none e = at_end allowed k found bytes r none e
sound allowed k (t ∷ ts) found bytes r none e =
    step allowed k t ts found bytes r none (λ found' bytes' none' e'. sound allowed (k + 1) ts found' bytes' r none' e') (has allowed k) refl (cond (has allowed k) (after_member bytes (nat_eq found 0) t) None) refl e

pub set_spelled : (texts : List (List ℕ)) (allowed : ℕ) (bytes : List ℕ) (r : ℕ) → set_of texts allowed bytes ≡ Some r → AreMembersAllowed allowed (length texts) r × (bytes ≡ set_text texts r)
unfolding set_of
set_spelled texts allowed bytes r e =
    let (rest, a, e1) = bound (λ x. set_from allowed 0 texts 0 x) (after_prefix (codes "{") bytes) r e in
    let h = sound allowed 0 texts 0 rest r (λ j more. has-empty j) e1 in
    (λ k inside. let g = h.above k (omega arith) inside in (let b = g.0 in omega (arith, b), g.1), after_is (codes "{") bytes rest a ∙ ap (λ (x : List ℕ). codes "{" ++ x) h.text)

-- ---- what is spelled is read
out_of_chosen : (t : List ℕ) (r k : ℕ) (ts : List (List ℕ)) → ¬ IsAmong t ts → ¬ IsAmong t (chosen r k ts)
out_of_chosen t r k [] out h = h
out_of_chosen t r k (u ∷ us) out h = at (has r k) (λ among. out_of_chosen t r (k + 1) us (λ g. out (inr g)) among) h
  where
    at : (v : Bool) → ¬ IsAmong t (chosen r (k + 1) us) → IsAmong t (cond v (u ∷ chosen r (k + 1) us) (chosen r (k + 1) us)) → ⊥
    at true rest (inl e) = out (inl e)
    at true rest (inr g) = rest g
    at false rest g = rest g

tell_chosen : (r k : ℕ) (ts : List (List ℕ)) → AllByRecursion IsTellable ts → AllByRecursion IsTellable (chosen r k ts)
tell_chosen r k [] tells = tt
tell_chosen r k (u ∷ us) tells = at (has r k) (tell_chosen r (k + 1) us tells.1)
  where
    at : (v : Bool) → AllByRecursion IsTellable (chosen r (k + 1) us) → AllByRecursion IsTellable (cond v (u ∷ chosen r (k + 1) us) (chosen r (k + 1) us))
    at true rest = (tells.0, rest)
    at false rest = rest

complete : (allowed k : ℕ) (ts : List (List ℕ)) (found r : ℕ) → AllByRecursion IsTellable ts → AreApart ts → ((j : ℕ) → k ≤ j → has found j ≡ false) → ((j : ℕ) → j < k → has found j ≡ has r j)
    → ((j : ℕ) → k ≤ j → has r j ≡ true → (j < k + length ts) × (has allowed j ≡ true)) → set_from allowed k ts found (left (nat_eq found 0) (chosen r k ts) ++ close) ≡ Some r
complete allowed k [] found r tells apart none below above =
    let is : found ≡ r = same_set found r (λ j. elim (cases_lt j k) [
      | inl less ↦ below j less
      | inr more ↦ none j more ∙ elim (cases_Bool (has r j)) [ inl e ↦ absurd (let b = (above j more e).0 in omega (arith, b)) | inr e ↦ sym e ]
    ]) in
    rw (left-none (nat_eq found 0)) (ap Some is)
complete allowed k (t ∷ ts) found r tells apart none below above = at (has r k) refl
    (complete allowed (k + 1) ts (union found (single k)) r tells.1 apart.1 (λ j more. let n = none j (omega arith) in grind (arith, nat_tests, has-union, has-single)))
    (complete allowed (k + 1) ts found r tells.1 apart.1 (λ j more. none j (omega arith)))
  where
    upto_taken : has r k ≡ true → (j : ℕ) → j < k + 1 → has (union found (single k)) j ≡ has r j
    upto_taken inside j less = elim (cases_lt j k) [
      | inl before ↦ let b = below j before in grind (arith, nat_tests, has-union, has-single)
      | inr past ↦ let same : j ≡ k = omega arith in rw same (grind (arith, nat_tests, has-union, has-single))
    ]

    upto_skipped : has r k ≡ false → (j : ℕ) → j < k + 1 → has found j ≡ has r j
    upto_skipped inside j less = elim (cases_lt j k) [ inl before ↦ below j before | inr past ↦ let same : j ≡ k = omega arith in rw same (none k (omega arith) ∙ sym inside) ]

    later : (j : ℕ) → k + 1 ≤ j → has r j ≡ true → (j < k + 1 + length ts) × (has allowed j ≡ true)
    later j more e = let a = above j (omega arith) e in (let b = a.0 in omega (arith, b), a.1)

    at : (v : Bool) → has r k ≡ v
        → (((j : ℕ) → j < k + 1 → has (union found (single k)) j ≡ has r j) → ((j : ℕ) → k + 1 ≤ j → has r j ≡ true → (j < k + 1 + length ts) × (has allowed j ≡ true)) → set_from allowed (k + 1) ts (union found (single k)) (left (nat_eq (union found (single k)) 0) (chosen r (k + 1) ts) ++ close) ≡ Some r)
        → (((j : ℕ) → j < k + 1 → has found j ≡ has r j) → ((j : ℕ) → k + 1 ≤ j → has r j ≡ true → (j < k + 1 + length ts) × (has allowed j ≡ true)) → set_from allowed (k + 1) ts found (left (nat_eq found 0) (chosen r (k + 1) ts) ++ close) ≡ Some r)
        → set_from allowed k (t ∷ ts) found (left (nat_eq found 0) (cond v (t ∷ chosen r (k + 1) ts) (chosen r (k + 1) ts)) ++ close) ≡ Some r
    at true inside one other =
        let ok : has allowed k ≡ true = (above k (omega arith) inside).1 in
        let bytes : left (nat_eq found 0) (t ∷ chosen r (k + 1) ts) ++ close ≡ sep (nat_eq found 0) ++ (t ++ (further (chosen r (k + 1) ts) ++ close)) = left_more (nat_eq found 0) t (chosen r (k + 1) ts) in
        let off : after_member (left (nat_eq found 0) (t ∷ chosen r (k + 1) ts) ++ close) (nat_eq found 0) t ≡ Some (further (chosen r (k + 1) ts) ++ close) =
        ap (λ (x : List ℕ). after_member x (nat_eq found 0) t) bytes ∙ taken_off (nat_eq found 0) t (further (chosen r (k + 1) ts) ++ close) (follows (chosen r (k + 1) ts)) in
        let rest = one (upto_taken inside) later in
        rw (ok, off) (ap (λ (v : Bool). set_from allowed (k + 1) ts (union found (single k)) (left v (chosen r (k + 1) ts) ++ close)) (sym (more_is found k)) ∙ rest)
    at false inside one other =
        let fits : (o : Option (List ℕ)) → after_member (left (nat_eq found 0) (chosen r (k + 1) ts) ++ close) (nat_eq found 0) t ≡ o → o ≡ None =
        none_fits (nat_eq found 0) t (chosen r (k + 1) ts) tells.0 (tell_chosen r (k + 1) ts tells.1) (out_of_chosen t r (k + 1) ts apart.0) in
        let gone : after_member (left (nat_eq found 0) (chosen r (k + 1) ts) ++ close) (nat_eq found 0) t ≡ None = fits _ refl in
        let no_member : cond (has allowed k) (after_member (left (nat_eq found 0) (chosen r (k + 1) ts) ++ close) (nat_eq found 0) t) None ≡ None =
        elim (cases_Bool (has allowed k)) [ inl e ↦ rw e gone | inr e ↦ rw e refl ] in
        rw no_member (other (upto_skipped inside) later)

pub set_read : (texts : List (List ℕ)) (allowed r : ℕ) → AreTellable texts → AreMembersAllowed allowed (length texts) r → set_of texts allowed (set_text texts r) ≡ Some r
unfolding set_of
set_read texts allowed r tells within =
    ap (λ (o : Option (List ℕ)). option_and_then (λ rest. set_from allowed 0 texts 0 rest) o) (after_front (codes "{") (separated (chosen r 0 texts) ++ close))
    ∙ complete allowed 0 texts 0 r tells.each tells.apart (λ j more. has-empty j) (λ j less. absurd (omega arith)) (λ j more e. let w = within j e in (let b = w.0 in omega (arith, b), w.1))

pub set_told : (texts : List (List ℕ)) (allowed : ℕ) (bytes : List ℕ) (o : Option ℕ) → AreTellable texts → o ≡ set_of texts allowed bytes → SpellsSet texts allowed bytes o
set_told texts allowed bytes None tells e = λ s within is. none-some s (e ∙ (ap (set_of texts allowed) is ∙ set_read texts allowed s tells within))
set_told texts allowed bytes (Some s) tells e = set_spelled texts allowed bytes s (sym e)
