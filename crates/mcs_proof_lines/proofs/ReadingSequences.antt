-- One reading after the other, readings of which one is chosen by the next line, and several of one kind.
use Rattle.std.proofs.Common.{◌≡◌, ℕ, ◌+◌, ◌<◌, zero, suc, ◌⊎◌, inl, inr, Bool, true, false, cond, List, ◌++◌, length, take, drop, Option, Ok, Err, refl, sym, ap, ◌∙◌, subst, arith, append_assoc, length-append}
use Rattle.std.proofs.Math.Seq.{take-append-add}
use Rattle.mcs_proof_lines.specs.Walks.{At, Reading, ◌>>=◌, head_line, mapped_reading}
use Rattle.mcs_proof_lines.specs.Readings.{here, Stops, AreLinesRead, BeginsLines, IsStuckAt, ReadsLines, Image, AreBoth, both_lines, AllStop, IsEitherOf}
use Rattle.mcs_proof_lines.proofs.Readings.{same_reading, same_head, head_after}
use Rattle.mcs_base.proofs.Lists.{split_front}

-- ---- made into something else
pub made_ok : {A C : Type 0} (f : A → C) (r : Reading A) (c : C) (now : At) → mapped_reading f r ≡ Ok (c, now) → (x : A) × (c ≡ f x) × (r ≡ Ok (x, now))
made_ok {A = A} f (Ok x) c now e = let parts = same_reading (f x.0) c x.1 now e in (x.0, sym parts.0, ap (λ (a : At). (let r : Reading A = Ok (x.0, a) in r)) parts.1)
made_ok f (Err n) c now e = absurd (cc)

pub made_err : {A C : Type 0} (f : A → C) (r : Reading A) (n : ℕ) → mapped_reading f r ≡ Err n → r ≡ Err n
made_err f (Ok x) n e = absurd (cc)
made_err f (Err m) n e = cc

module _ {A C : Type 0} (Is : A → Type 0) (lines : A → List (List ℕ)) (End : List (List ℕ) → Type 0) (p : At → Reading A) (f : A → C) (lines' : C → List (List ℕ))
    (h : ReadsLines Is lines End p) (eq : (x : A) → Is x → lines x ≡ lines' (f x)) where
  made_sound : (at now : At) (c : C) → mapped_reading f (p at) ≡ Ok (c, now) → AreLinesRead (Image f Is) lines' at now c
  made_sound at now c e =
      let (x, is, was) = made_ok f (p at) c now e in
      let r = h.sound at now x was in
      let same : lines x ≡ lines' c = eq x r.is ∙ ap lines' (sym is) in
      record {
        is = (x, is, r.is);
        rest = r.rest ∙ ap (λ (ls : List (List ℕ)). ls ++ now.rest) same;
        taken = r.taken ∙ ap (λ (ls : List (List ℕ)). at.taken + length ls) same;
        tail = r.tail;
      }

  made_complete : (c : C) (n : ℕ) (more : List (List ℕ)) (tail : List ℕ) → Image f Is c → End more → mapped_reading f (p (here n (lines' c ++ more) tail)) ≡ Ok (c, here (n + length (lines' c)) more tail)
  made_complete c n more tail (x, is, known) end =
      let same : lines x ≡ lines' c = eq x known ∙ ap lines' (sym is) in
      let P : List (List ℕ) → Type 0 = λ ls. mapped_reading f (p (here n (ls ++ more) tail)) ≡ Ok (c, here (n + length ls) more tail) in
      subst P same (ap (mapped_reading f) (h.complete x n more tail known end) ∙ ap (λ (d : C). Ok (d, here (n + length (lines x)) more tail)) (sym is))

  made_stable : (at now : At) (c : C) (rest : List (List ℕ)) (tail : List ℕ) → mapped_reading f (p at) ≡ Ok (c, now) → head_line rest ≡ head_line now.rest → mapped_reading f (p (here at.taken (lines' c ++ rest) tail)) ≡ Ok (c, here now.taken rest tail)
  made_stable at now c rest tail e next =
      let (x, is, was) = made_ok f (p at) c now e in
      let same : lines x ≡ lines' c = eq x (h.sound at now x was).is ∙ ap lines' (sym is) in
      let P : List (List ℕ) → Type 0 = λ ls. mapped_reading f (p (here at.taken (ls ++ rest) tail)) ≡ Ok (c, here now.taken rest tail) in
      subst P same (ap (mapped_reading f) (h.stable at now x rest tail was next) ∙ ap (λ (d : C). Ok (d, here now.taken rest tail)) (sym is))

  made_begun : (front : List (List ℕ)) → BeginsLines Is lines front → BeginsLines (Image f Is) lines' front
  made_begun front b = record { value = f b.value; is = (b.value, refl, b.is); more = b.more; lines_are = sym (eq b.value b.is) ∙ b.lines_are }

  pub reads_made : ReadsLines (Image f Is) lines' End (λ at. mapped_reading f (p at))
  reads_made = record {
    sound = made_sound;
    complete = made_complete;
    fault = λ at n e. (let (k, s) = h.fault at n (made_err f (p at) n e) in (k, record { number = s.number; within = s.within; begun = λ less. made_begun (take k at.rest) (s.begun less) }));
    local = λ at k rest tail e less front. ap (mapped_reading f) (h.local at k rest tail (made_err f (p at) (at.taken + k + 1) e) less front);
    stable = made_stable;
  }

-- ---- one after the other
abbrev pub paired : {A B : Type 0} → A → Reading B → Reading (A × B)
paired x s = s >>= λ second. Ok ((x, second.0), second.1)

abbrev pub both : {A B : Type 0} → (A → At → Reading B) → Reading A → Reading (A × B)
both q r = r >>= λ first. paired first.0 (q first.0 first.1)

module _ {A B : Type 0} (q : A → At → Reading B) where
  paired_ok : (x : A) (s : Reading B) (xy : A × B) (now : At) → paired x s ≡ Ok (xy, now) → (x ≡ xy.0) × (s ≡ Ok (xy.1, now))
  paired_ok x (Ok s) xy now e = let parts = same_reading (x, s.0) xy s.1 now e in (ap (λ (r : A × B). r.0) parts.0, ap (λ (y : B). (let r : Reading B = Ok (y, s.1) in r)) (ap (λ (r : A × B). r.1) parts.0) ∙ ap (λ (a : At). (let r : Reading B = Ok (xy.1, a) in r)) parts.1)
  paired_ok x (Err n) xy now e = absurd (cc)

  paired_err : (x : A) (s : Reading B) (n : ℕ) → paired x s ≡ Err n → s ≡ Err n
  paired_err x (Ok s) n e = absurd (cc)
  paired_err x (Err m) n e = cc

  both_ok : (r : Reading A) (xy : A × B) (now : At) → both q r ≡ Ok (xy, now) → (mid : At) × (r ≡ Ok (xy.0, mid)) × (q xy.0 mid ≡ Ok (xy.1, now))
  both_ok (Ok r) xy now e =
      let (first, second) = paired_ok r.0 (q r.0 r.1) xy now e in
      (r.1, ap (λ (x : A). Ok (x, r.1)) first, ap (λ (x : A). q x r.1) (sym first) ∙ second)
  both_ok (Err n) xy now e = absurd (cc)

  both_err : (r : Reading A) (n : ℕ) → both q r ≡ Err n → (r ≡ Err n) ⊎ ((x : A) × (mid : At) × (r ≡ Ok (x, mid)) × (q x mid ≡ Err n))
  both_err (Ok r) n e = inr (r.0, r.1, refl, paired_err r.0 (q r.0 r.1) n e)
  both_err (Err m) n e = inl cc

  both_join : (r : Reading A) (x : A) (y : B) (mid now : At) → r ≡ Ok (x, mid) → q x mid ≡ Ok (y, now) → both q r ≡ Ok ((x, y), now)
  both_join r x y mid now e1 e2 = ap (both q) e1 ∙ ap (λ (s : Reading B). paired x s) e2

  both_first : (r : Reading A) (n : ℕ) → r ≡ Err n → both q r ≡ Err n
  both_first r n e = ap (both q) e

  both_second : (r : Reading A) (x : A) (mid : At) (n : ℕ) → r ≡ Ok (x, mid) → q x mid ≡ Err n → both q r ≡ Err n
  both_second r x mid n e1 e2 = ap (both q) e1 ∙ ap (λ (s : Reading B). paired x s) e2

module _ {A B : Type 0} (IsA : A → Type 0) (linesA : A → List (List ℕ)) (EndA : List (List ℕ) → Type 0) (p : At → Reading A)
    (IsB : A → B → Type 0) (linesB : A → B → List (List ℕ)) (EndB : List (List ℕ) → Type 0) (q : A → At → Reading B)
    (hp : ReadsLines IsA linesA EndA p) (hq : (x : A) → IsA x → ReadsLines (IsB x) (linesB x) EndB (q x))
    (some : (x : A) → IsA x → (y : B) × IsB x y) (next : (x : A) (y : B) (more : List (List ℕ)) → IsA x → IsB x y → EndB more → EndA (linesB x y ++ more)) where
  both_sound : (at now : At) (xy : A × B) → both q (p at) ≡ Ok (xy, now) → AreLinesRead (AreBoth IsA IsB) (both_lines linesA linesB) at now xy
  both_sound at now xy e =
      let (mid, e1, e2) = both_ok q (p at) xy now e in
      let r = hp.sound at mid xy.0 e1 in
      let s = (hq xy.0 r.is).sound mid now xy.1 e2 in
      record {
        is = (r.is, s.is);
        rest = r.rest ∙ ap (λ (ls : List (List ℕ)). linesA xy.0 ++ ls) s.rest ∙ sym (append_assoc (linesA xy.0) (linesB xy.0 xy.1) now.rest);
        taken = omega (arith, r.taken, s.taken, length-append (linesA xy.0) (linesB xy.0 xy.1));
        tail = s.tail ∙ r.tail;
      }

  both_complete : (xy : A × B) (n : ℕ) (more : List (List ℕ)) (tail : List ℕ) → AreBoth IsA IsB xy → EndB more → both q (p (here n (both_lines linesA linesB xy ++ more) tail)) ≡ Ok (xy, here (n + length (both_lines linesA linesB xy)) more tail)
  both_complete (x, y) n more tail is end =
      let la = linesA x in
      let lb = linesB x y in
      let e1 : p (here n ((la ++ lb) ++ more) tail) ≡ Ok (x, here (n + length la) (lb ++ more) tail) =
      ap (λ (ls : List (List ℕ)). p (here n ls tail)) (append_assoc la lb more) ∙ hp.complete x n (lb ++ more) tail is.0 (next x y more is.0 is.1 end) in
      let e2 = (hq x is.0).complete y (n + length la) more tail is.1 end in
      let count : n + length la + length lb ≡ n + length (la ++ lb) = omega (arith, length-append la lb) in
      both_join q (p (here n ((la ++ lb) ++ more) tail)) x y (here (n + length la) (lb ++ more) tail) (here (n + length la + length lb) more tail) e1 e2
      ∙ ap (λ (m : ℕ). Ok ((x, y), here m more tail)) count

  begun_first : (front : List (List ℕ)) → BeginsLines IsA linesA front → BeginsLines (AreBoth IsA IsB) (both_lines linesA linesB) front
  begun_first front b =
      let (y, is) = some b.value b.is in
      record {
        value = (b.value, y);
        is = (b.is, is);
        more = b.more ++ linesB b.value y;
        lines_are = ap (λ (ls : List (List ℕ)). ls ++ linesB b.value y) b.lines_are ∙ append_assoc front b.more (linesB b.value y);
      }

  stuck_first : (at : At) (n k : ℕ) → IsStuckAt IsA linesA at n k → IsStuckAt (AreBoth IsA IsB) (both_lines linesA linesB) at n k
  stuck_first at n k s = record { number = s.number; within = s.within; begun = λ less. begun_first (take k at.rest) (s.begun less) }

  -- where the second is stuck at its first line, any value of it will do
  begun_at : (mid : At) (x : A) (n k : ℕ) → IsA x → IsStuckAt (IsB x) (linesB x) mid n k → BeginsLines (IsB x) (linesB x) (take k mid.rest)
  begun_at mid x n zero is s = let (y, known) = some x is in record { value = y; is = known; more = linesB x y; lines_are = refl }
  begun_at mid x n (suc k) is s = s.begun (omega arith)

  stuck_second : (at mid : At) (x : A) (n k : ℕ) → AreLinesRead IsA linesA at mid x → IsStuckAt (IsB x) (linesB x) mid n k → IsStuckAt (AreBoth IsA IsB) (both_lines linesA linesB) at n (length (linesA x) + k)
  stuck_second at mid x n k r s =
      let la = linesA x in
      let front : take (length la + k) at.rest ≡ la ++ take k mid.rest = ap (λ (ls : List (List ℕ)). take (length la + k) ls) r.rest ∙ take-append-add la mid.rest k in
      let long : length at.rest ≡ length la + length mid.rest = ap length r.rest ∙ length-append la mid.rest in
      let b = begun_at mid x n k r.is s in
      record {
        number = omega (arith, s.number, r.taken);
        within = omega (arith, long, s.within);
        begun = λ less. record {
          value = (x, b.value);
          is = (r.is, b.is);
          more = b.more;
          lines_are = ap (λ (ls : List (List ℕ)). la ++ ls) b.lines_are ∙ sym (append_assoc la (take k mid.rest) b.more) ∙ ap (λ (ls : List (List ℕ)). ls ++ b.more) (sym front);
        };
      }

  both_fault : (at : At) (n : ℕ) → both q (p at) ≡ Err n → (k : ℕ) × IsStuckAt (AreBoth IsA IsB) (both_lines linesA linesB) at n k
  both_fault at n e = cases (both_err q (p at) n e)
    where
      cases : (p at ≡ Err n) ⊎ ((x : A) × (mid : At) × (p at ≡ Ok (x, mid)) × (q x mid ≡ Err n)) → (k : ℕ) × IsStuckAt (AreBoth IsA IsB) (both_lines linesA linesB) at n k
      cases (inl first) = let (k, s) = hp.fault at n first in (k, stuck_first at n k s)
      cases (inr (x, mid, e1, e2)) =
          let r = hp.sound at mid x e1 in
          let (k, s) = (hq x r.is).fault mid n e2 in
          (length (linesA x) + k, stuck_second at mid x n k r s)

  both_local : (at : At) (k : ℕ) (rest : List (List ℕ)) (tail : List ℕ) → both q (p at) ≡ Err (at.taken + k + 1) → k < length at.rest → take (k + 1) rest ≡ take (k + 1) at.rest → both q (p (here at.taken rest tail)) ≡ Err (at.taken + k + 1)
  both_local at k rest tail e less front = cases (both_err q (p at) (at.taken + k + 1) e)
    where
      second : (x : A) (mid : At) → p at ≡ Ok (x, mid) → q x mid ≡ Err (at.taken + k + 1) → both q (p (here at.taken rest tail)) ≡ Err (at.taken + k + 1)
      second x mid e1 e2 =
          let la = linesA x in
          let r = hp.sound at mid x e1 in
          let (j, s) = (hq x r.is).fault mid (at.taken + k + 1) e2 in
          let long : length at.rest ≡ length la + length mid.rest = ap length r.rest ∙ length-append la mid.rest in
          let place : k ≡ length la + j = omega (arith, s.number, r.taken) in
          let place' : k + 1 ≡ length la + (j + 1) = omega (arith, place) in
          let front' : take (k + 1) rest ≡ la ++ take (j + 1) mid.rest =
          front ∙ ap (λ (m : ℕ). take m at.rest) place' ∙ ap (λ (ls : List (List ℕ)). take (length la + (j + 1)) ls) r.rest ∙ take-append-add la mid.rest (j + 1) in
          let (whole, part) = split_front la rest (take (j + 1) mid.rest) (j + 1) (k + 1) place' front' in
          let later = drop (length la) rest in
          let first : p (here at.taken rest tail) ≡ Ok (x, here mid.taken later tail) =
          ap (λ (ls : List (List ℕ)). p (here at.taken ls tail)) whole ∙ hp.stable at mid x later tail e1 (same_head j later mid.rest part) in
          let number : at.taken + k + 1 ≡ mid.taken + j + 1 = omega (arith, place, r.taken) in
          let less' : j < length mid.rest = omega (arith, place, long, less) in
          let stuck = (hq x r.is).local mid j later tail (e2 ∙ ap (λ (m : ℕ). Err m) number) less' part in
          both_second q (p (here at.taken rest tail)) x (here mid.taken later tail) (at.taken + k + 1) first (stuck ∙ ap (λ (m : ℕ). Err m) (sym number))

      cases : (p at ≡ Err (at.taken + k + 1)) ⊎ ((x : A) × (mid : At) × (p at ≡ Ok (x, mid)) × (q x mid ≡ Err (at.taken + k + 1))) → both q (p (here at.taken rest tail)) ≡ Err (at.taken + k + 1)
      cases (inl first) = both_first q (p (here at.taken rest tail)) (at.taken + k + 1) (hp.local at k rest tail first less front)
      cases (inr (x, mid, e1, e2)) = second x mid e1 e2

  both_stable : (at now : At) (xy : A × B) (rest : List (List ℕ)) (tail : List ℕ) → both q (p at) ≡ Ok (xy, now) → head_line rest ≡ head_line now.rest → both q (p (here at.taken (both_lines linesA linesB xy ++ rest) tail)) ≡ Ok (xy, here now.taken rest tail)
  both_stable at now (x, y) rest tail e same =
      let (mid, e1, e2) = both_ok q (p at) (x, y) now e in
      let la = linesA x in
      let lb = linesB x y in
      let r = hp.sound at mid x e1 in
      let s = (hq x r.is).sound mid now y e2 in
      let heads : head_line (lb ++ rest) ≡ head_line mid.rest = head_after lb rest now.rest same ∙ ap head_line (sym s.rest) in
      let first : p (here at.taken ((la ++ lb) ++ rest) tail) ≡ Ok (x, here mid.taken (lb ++ rest) tail) =
      ap (λ (ls : List (List ℕ)). p (here at.taken ls tail)) (append_assoc la lb rest) ∙ hp.stable at mid x (lb ++ rest) tail e1 heads in
      both_join q (p (here at.taken ((la ++ lb) ++ rest) tail)) x y (here mid.taken (lb ++ rest) tail) (here now.taken rest tail) first ((hq x r.is).stable mid now y rest tail e2 same)

  pub reads_both : ReadsLines (AreBoth IsA IsB) (both_lines linesA linesB) EndB (λ at. both q (p at))
  reads_both = record {
    sound = both_sound;
    complete = both_complete;
    fault = both_fault;
    local = both_local;
    stable = both_stable;
  }

-- ---- what comes before something else
pub both_stop : {A B : Type 0} (IsA : A → Type 0) (IsB : A → B → Type 0) (linesA : A → List (List ℕ)) (linesB : A → B → List (List ℕ)) → AllStop IsA linesA → ((x : A) → AllStop (IsB x) (linesB x)) → AllStop (AreBoth IsA IsB) (both_lines linesA linesB)
both_stop IsA IsB linesA linesB stopA stopB xy more is end = subst Stops (sym (append_assoc (linesA xy.0) (linesB xy.0 xy.1) more)) (stopA xy.0 (linesB xy.0 xy.1 ++ more) is.0 (stopB xy.0 xy.1 more is.1 end))

-- ---- of two readings the one that the next line asks for
abbrev pub chosen_at : {A : Type 0} → (Option (List ℕ) → Bool) → (At → Reading A) → (At → Reading A) → At → Reading A
chosen_at test p1 p2 at = cond (test (head_line at.rest)) (p1 at) (p2 at)

module _ {A : Type 0} (Is1 Is2 : A → Type 0) (lines : A → List (List ℕ)) (End : List (List ℕ) → Type 0) (p1 p2 : At → Reading A) (test : Option (List ℕ) → Bool)
    (h1 : ReadsLines Is1 lines End p1) (h2 : ReadsLines Is2 lines End p2)
    (yes : (x : A) (rest : List (List ℕ)) → Is1 x → test (head_line (lines x ++ rest)) ≡ true) (no : (x : A) (rest : List (List ℕ)) → Is2 x → test (head_line (lines x ++ rest)) ≡ false) where
  abbrev choice_at : At → Reading A
  choice_at = chosen_at test p1 p2

  as_first : (at : At) → test (head_line at.rest) ≡ true → choice_at at ≡ p1 at
  as_first at e = ap (λ (b : Bool). cond b (p1 at) (p2 at)) e

  as_second : (at : At) → test (head_line at.rest) ≡ false → choice_at at ≡ p2 at
  as_second at e = ap (λ (b : Bool). cond b (p1 at) (p2 at)) e

  widen1 : (at now : At) (x : A) → AreLinesRead Is1 lines at now x → AreLinesRead (IsEitherOf Is1 Is2) lines at now x
  widen1 at now x r = record { is = inl r.is; rest = r.rest; taken = r.taken; tail = r.tail }

  widen2 : (at now : At) (x : A) → AreLinesRead Is2 lines at now x → AreLinesRead (IsEitherOf Is1 Is2) lines at now x
  widen2 at now x r = record { is = inr r.is; rest = r.rest; taken = r.taken; tail = r.tail }

  chosen_sound : (at now : At) (x : A) → choice_at at ≡ Ok (x, now) → AreLinesRead (IsEitherOf Is1 Is2) lines at now x
  chosen_sound at now x e = by (test (head_line at.rest)) refl
    where
      by : (b : Bool) → test (head_line at.rest) ≡ b → AreLinesRead (IsEitherOf Is1 Is2) lines at now x
      by true t = widen1 at now x (h1.sound at now x (sym (as_first at t) ∙ e))
      by false t = widen2 at now x (h2.sound at now x (sym (as_second at t) ∙ e))

  chosen_complete : (x : A) (n : ℕ) (more : List (List ℕ)) (tail : List ℕ) → IsEitherOf Is1 Is2 x → End more → choice_at (here n (lines x ++ more) tail) ≡ Ok (x, here (n + length (lines x)) more tail)
  chosen_complete x n more tail (inl is) end = as_first (here n (lines x ++ more) tail) (yes x more is) ∙ h1.complete x n more tail is end
  chosen_complete x n more tail (inr is) end = as_second (here n (lines x ++ more) tail) (no x more is) ∙ h2.complete x n more tail is end

  begun1 : (front : List (List ℕ)) → BeginsLines Is1 lines front → BeginsLines (IsEitherOf Is1 Is2) lines front
  begun1 front b = record { value = b.value; is = inl b.is; more = b.more; lines_are = b.lines_are }

  begun2 : (front : List (List ℕ)) → BeginsLines Is2 lines front → BeginsLines (IsEitherOf Is1 Is2) lines front
  begun2 front b = record { value = b.value; is = inr b.is; more = b.more; lines_are = b.lines_are }

  chosen_fault : (at : At) (n : ℕ) → choice_at at ≡ Err n → (k : ℕ) × IsStuckAt (IsEitherOf Is1 Is2) lines at n k
  chosen_fault at n e = by (test (head_line at.rest)) refl
    where
      by : (b : Bool) → test (head_line at.rest) ≡ b → (k : ℕ) × IsStuckAt (IsEitherOf Is1 Is2) lines at n k
      by true t = let (k, s) = h1.fault at n (sym (as_first at t) ∙ e) in (k, record { number = s.number; within = s.within; begun = λ less. begun1 (take k at.rest) (s.begun less) })
      by false t = let (k, s) = h2.fault at n (sym (as_second at t) ∙ e) in (k, record { number = s.number; within = s.within; begun = λ less. begun2 (take k at.rest) (s.begun less) })

  chosen_local : (at : At) (k : ℕ) (rest : List (List ℕ)) (tail : List ℕ) → choice_at at ≡ Err (at.taken + k + 1) → k < length at.rest → take (k + 1) rest ≡ take (k + 1) at.rest → choice_at (here at.taken rest tail) ≡ Err (at.taken + k + 1)
  chosen_local at k rest tail e less front = by (test (head_line at.rest)) refl
    where
      heads : head_line rest ≡ head_line at.rest
      heads = same_head k rest at.rest front

      by : (b : Bool) → test (head_line at.rest) ≡ b → choice_at (here at.taken rest tail) ≡ Err (at.taken + k + 1)
      by true t = as_first (here at.taken rest tail) (ap test heads ∙ t) ∙ h1.local at k rest tail (sym (as_first at t) ∙ e) less front
      by false t = as_second (here at.taken rest tail) (ap test heads ∙ t) ∙ h2.local at k rest tail (sym (as_second at t) ∙ e) less front

  chosen_stable : (at now : At) (x : A) (rest : List (List ℕ)) (tail : List ℕ) → choice_at at ≡ Ok (x, now) → head_line rest ≡ head_line now.rest → choice_at (here at.taken (lines x ++ rest) tail) ≡ Ok (x, here now.taken rest tail)
  chosen_stable at now x rest tail e next = by (test (head_line at.rest)) refl
    where
      by : (b : Bool) → test (head_line at.rest) ≡ b → choice_at (here at.taken (lines x ++ rest) tail) ≡ Ok (x, here now.taken rest tail)
      by true t =
          let was = sym (as_first at t) ∙ e in
          as_first (here at.taken (lines x ++ rest) tail) (yes x rest ((h1.sound at now x was).is)) ∙ h1.stable at now x rest tail was next
      by false t =
          let was = sym (as_second at t) ∙ e in
          as_second (here at.taken (lines x ++ rest) tail) (no x rest ((h2.sound at now x was).is)) ∙ h2.stable at now x rest tail was next

  pub reads_chosen : ReadsLines (IsEitherOf Is1 Is2) lines End (chosen_at test p1 p2)
  reads_chosen = record {
    sound = chosen_sound;
    complete = chosen_complete;
    fault = chosen_fault;
    local = chosen_local;
    stable = chosen_stable;
  }
