-- One step over the places of a stack.
use Rattle.std.proofs.Common.{arith, ◌≡◌, ℕ, ◌+◌, ◌-◌, ◌<◌, ◌≤◌, Bool, true, false, not, cond, ◌&&◌, ◌||◌, List, [], ◌∷◌, ◌++◌, length, take, get_or, Option, Some, None, is_some, IfOk, Result, Ok, Err, refl, sym, ap, subst, ◌∙◌, true≢false, append_assoc, append-nil}
use Rattle.std.proofs.lemmas.Bool.{ltb-true}
use Rattle.std.proofs.lemmas.Option.{none-some, same_Some}
use Rattle.std.proofs.lemmas.List.{take_all, take_more}
use Rattle.mcs_sets.specs.Sets.{has}
use Rattle.mcs_sets.proofs.SetLemmas.{has-empty, has-union}
use Rattle.mcs_syntax.specs.declared.part.Event.{Event}
use Rattle.mcs_syntax.specs.declared.part.Event.TheVariants.{Took, Told}
use Rattle.mcs_syntax.specs.declared.part.Part.{Part}
use Rattle.mcs_syntax.specs.declared.part.Part.TheVariants as part
use Rattle.mcs_syntax.specs.declared.front.Front.{Front}
use Rattle.mcs_syntax.specs.declared.step.Onward.{Onward}
use Rattle.mcs_syntax.specs.declared.step.Onward.TheVariants.{Stop, To, Down}
use Rattle.mcs_syntax.specs.Grammar.{Expr, Take, Say, Rule, Nothing, Then, Or, Maybe, Many, Means, by_rule, nothing, both, Grammar, IsReadable, tokens, silent, given, before, apart, in_turn, front, fits, cost}
use Rattle.mcs_syntax.specs.Reads.{Goes, HasRead, Turns, Leads, begun, chooses, head_of, starts, is_done, says_next}
use Rattle.mcs_syntax.specs.Parts.{expr_at, made_of, state, tops, coming, above, IsStack, IsTop, due, is_plain, with_next, moves, left_by, IsTakenApart, IsSettled, IsTurned, IsGone}
use Rattle.mcs_syntax.proofs.Options.{and-parts}
use Rattle.mcs_syntax.proofs.KindSets.{left-union, has-given}
use Rattle.mcs_syntax.proofs.Fronts.{Of}
use Rattle.mcs_syntax.proofs.Steps.{say-read, nothing-read, then-read, rule-read, take-read, take-inv, rule-inv, then-inv, from-read, maybe-in, maybe-out, many-in, many-out, nothing-inv, turns-none, turns-more, turns-read, turns-end, leads-on}
use Rattle.mcs_syntax.proofs.Choices.{top-fits, then-fits, or-fits, maybe-fits, many-fits, rule-fits, start-fits, left-chosen, right-chosen, never-after, not-in, maybe-apart, many-apart}
use Rattle.mcs_syntax.proofs.Texts.{read-start, read-more}
use Rattle.mcs_syntax.proofs.Places.{tops-push, inside-push, inside-front, inside-last}

-- ---- how much is due
due-then : (na nb : Bool) (ca cb d : ℕ) → ca + cond na (cb + cond nb d 0) 0 < 1 + ca + cond na cb 0 + cond (na && nb) d 0
due-then true true ca cb d = omega arith
due-then true false ca cb d = omega arith
due-then false nb ca cb d = omega arith

due-left : (na nb : Bool) (ca cb d : ℕ) → ca + cond na d 0 < 1 + ca + cb + cond (na || nb) d 0
due-left true nb ca cb d = omega arith
due-left false true ca cb d = omega arith
due-left false false ca cb d = omega arith

due-right : (na nb : Bool) (ca cb d : ℕ) → cb + cond nb d 0 < 1 + ca + cb + cond (na || nb) d 0
due-right true true ca cb d = omega arith
due-right true false ca cb d = omega arith
due-right false true ca cb d = omega arith
due-right false false ca cb d = omega arith

due-one : (na : Bool) (ca d m : ℕ) → not na ≡ true → ca + cond na m 0 < 1 + ca + d
due-one true ca d m e = absurd (true≢false (sym e))
due-one false ca d m e = omega arith

-- where it stops, nothing stands above the stack
pub stopped : (o : Onward) (places : List ℕ) → moves o ≡ false → left_by o places ≡ places
stopped Stop places off = refl
stopped (To k) places off = absurd (true≢false off)
stopped Down places off = refl

-- what is not plain is no action, and not empty
abbrev Stands : {C A N : Type 0} → Expr C A N → Type 0
Stands e = (is_plain e ≡ false) × (is_done e ≡ false) × (says_next e ≡ false)

-- the form of a part tells whether it is plain
not-plain : {C A N : Type 0} (at : ℕ → Expr C A N) (p : Part C A N) → ((a : A) → ¬ (p ≡ part.Say a)) → ¬ (p ≡ part.Nothing) → ((i j : ℕ) → ¬ (p ≡ part.Then i j)) → Stands (made_of at (Some p))
not-plain at (part.Take c) s n t = (refl, refl, refl)
not-plain at (part.Say a) s n t = absurd (s a refl)
not-plain at (part.Rule m) s n t = (refl, refl, refl)
not-plain at part.Nothing s n t = absurd (n refl)
not-plain at (part.Then i j) s n t = absurd (t i j refl)
not-plain at (part.Or i j) s n t = (refl, refl, refl)
not-plain at (part.Maybe i) s n t = (refl, refl, refl)
not-plain at (part.Many i) s n t = (refl, refl, refl)

pub is-plain : {C A N : Type 0} (at : ℕ → Expr C A N) (p : Part C A N) → ((c : C) → ¬ (p ≡ part.Take c)) → ((n : N) → ¬ (p ≡ part.Rule n)) → ((i j : ℕ) → ¬ (p ≡ part.Or i j)) → ((i : ℕ) → ¬ (p ≡ part.Maybe i)) → ((i : ℕ) → ¬ (p ≡ part.Many i)) → is_plain (made_of at (Some p)) ≡ true
is-plain at (part.Take c) t r o m n = absurd (t c refl)
is-plain at (part.Say a) t r o m n = refl
is-plain at (part.Rule q) t r o m n = absurd (r q refl)
is-plain at part.Nothing t r o m n = refl
is-plain at (part.Then i j) t r o m n = refl
is-plain at (part.Or i j) t r o m n = absurd (o i j refl)
is-plain at (part.Maybe i) t r o m n = absurd (m i refl)
is-plain at (part.Many i) t r o m n = absurd (n i refl)

says-above : {C A N : Type 0} (e r : Expr C A N) → is_done e ≡ false → says_next e ≡ false → says_next (Then e r) ≡ false
says-above e r d s = ap (λ x. x || (is_done e && says_next r)) s ∙ ap (λ x. x && says_next r) d

rule-alone : {C A N : Type 0} (g : Grammar C A N) (n : N) → HasRead g (Rule n) [] [] (Then (g.rules n) Nothing)
rule-alone {C = C} {A = A} g n = record {
  tokens_are = refl;
  goes_on = λ ys m. let i = then-inv g (g.rules n) Nothing ys m in by_rule n ys (subst (Of g (g.rules n)) (sym (i.2 ∙ ap (λ l. i.0 ++ l) (nothing-inv g i.1 i.4) ∙ append-nil i.0)) i.3);
  holds_all = λ zs more r. (zs, refl, subst (Of g (Then (g.rules n) Nothing)) (append-nil zs) (both (g.rules n) Nothing zs [] (rule-inv g n zs r.0) nothing));
}

-- ---- the first token of two in turn
turn-begun : (kind : Option ℕ) (p u : Front) → begun kind p ≡ true → starts kind (in_turn p u) ≡ true
turn-begun None p u b = absurd (true≢false (sym b))
turn-begun (Some d) p u b = left-union p.first _ d b

turn-passed : (kind : Option ℕ) (p u : Front) → begun kind p ≡ false → p.is_null ≡ true → starts kind (in_turn p u) ≡ starts kind u
turn-passed None p u b n = ap (λ x. x && u.is_null) n
turn-passed (Some d) p u b n = has-union p.first (given p.is_null u.first) d ∙ ap (λ x. x || has (given p.is_null u.first) d) b ∙ has-given p.is_null u.first d ∙ ap (λ x. x && has u.first d) n

turn-stuck : (kind : Option ℕ) (p u : Front) → begun kind p ≡ false → p.is_null ≡ false → starts kind (in_turn p u) ≡ false
turn-stuck None p u b n = ap (λ x. x && u.is_null) n
turn-stuck (Some d) p u b n = has-union p.first (given p.is_null u.first) d ∙ ap (λ x. x || has (given p.is_null u.first) d) b ∙ has-given p.is_null u.first d ∙ ap (λ x. x && has u.first d) n

module _ {C A N : Type 0} (g : Grammar C A N) (parts : List (Part C A N)) where
  -- ---- the last place
  pub popped : (l : List ℕ) (k : ℕ) (now : List ℕ) → now ≡ l ++ k ∷ [] → coming parts now ≡ above parts k l
  popped l k now is = ap (coming parts) is ∙ ap state (tops-push parts l k)

  pub popped-top : (l : List ℕ) (k : ℕ) (now : List ℕ) → now ≡ l ++ k ∷ [] → IsStack g parts now → IsTop g parts k l
  popped-top l k now is s =
      let t = subst (IsStack g parts) is s in
      (inside-last (length parts) l k t.0, inside-front (length parts) l (k ∷ []) t.0, sym (ap (fits g 0) (popped l k (l ++ k ∷ []) refl)) ∙ t.1)

  stack-of : (l : List ℕ) (k : ℕ) → IsTop g parts k l → IsStack g parts (l ++ k ∷ [])
  stack-of l k t = (inside-push (length parts) l k t.1 t.0, ap (fits g 0) (popped l k (l ++ k ∷ []) refl) ∙ t.2)

  module _ (k : ℕ) (l : List ℕ) (top : IsTop g parts k l) where
    -- what stands next, by its form
    above-is : (e : Expr C A N) → expr_at parts k ≡ e → above parts k l ≡ Then e (coming parts l)
    above-is e at = ap (λ x. Then x (coming parts l)) at

    fit-as : (e : Expr C A N) → expr_at parts k ≡ e → fits g 0 (Then e (coming parts l)) ≡ true
    fit-as e at = sym (ap (fits g 0) (above-is e at)) ∙ top.2

    below : (e : Expr C A N) → expr_at parts k ≡ e → IsStack g parts l
    below e at = (top.1, (top-fits g e (coming parts l) (fit-as e at)).1)

    due-as : (e : Expr C A N) → expr_at parts k ≡ e → (n : ℕ) → n < due g (e ∷ tops parts l) → n < due g (expr_at parts k ∷ tops parts l)
    due-as e at n i = subst (λ x. n < due g (x ∷ tops parts l)) (sym at) i

    -- ---- what is plain is taken apart
    module _ (said : List (Event C A)) where
      apart-by : (e : Expr C A N) (xs : List (Event C A)) (last new : List ℕ) (all : List (Event C A)) → expr_at parts k ≡ e → new ≡ last → all ≡ said ++ xs → HasRead g (Then e (coming parts l)) [] xs (coming parts last) → IsStack g parts last
          → due g (tops parts last) < due g (e ∷ tops parts l) → IsTakenApart g parts k true l new said all
      apart-by e xs last new all at here is r s less = subst (λ new. IsTakenApart g parts k true l new said all) (sym here) (
        λ _. (xs, is, subst (λ s. HasRead g s [] xs (coming parts last)) (sym (above-is e at)) r, s, due-as e at (due g (tops parts last)) less),
        λ e. absurd (true≢false e),
      )

      pub apart-say : (a : A) (new : List ℕ) (all : List (Event C A)) → expr_at parts k ≡ Say a → new ≡ l → all ≡ said ++ Told a ∷ [] → IsTakenApart g parts k true l new said all
      apart-say a new all at here is = apart-by (Say a) (Told a ∷ []) l new all at here is (say-read g a (coming parts l)) (below (Say a) at) (omega arith)

      pub apart-nothing : (new : List ℕ) (all : List (Event C A)) → expr_at parts k ≡ Nothing → new ≡ l → all ≡ said → IsTakenApart g parts k true l new said all
      apart-nothing new all at here is = apart-by Nothing [] l new all at here (is ∙ sym (append-nil said)) (nothing-read g (coming parts l)) (below Nothing at) (omega arith)

      pub apart-then : (a b : ℕ) (mid new : List ℕ) (all : List (Event C A)) → a < length parts → b < length parts → expr_at parts k ≡ Then (expr_at parts a) (expr_at parts b) → mid ≡ l ++ b ∷ [] → new ≡ mid ++ a ∷ [] → all ≡ said → IsTakenApart g parts k true l new said all
      apart-then a b mid new all p q at one two is =
          let e = expr_at parts a in
          let f = expr_at parts b in
          let last : List ℕ = (l ++ b ∷ []) ++ a ∷ [] in
          let grown : tops parts last ≡ e ∷ f ∷ tops parts l = tops-push parts (l ++ b ∷ []) a ∙ ap (λ es. e ∷ es) (tops-push parts l b) in
          apart-by (Then e f) [] last new all at (two ∙ ap (λ m. m ++ a ∷ []) one) (is ∙ sym (append-nil said))
          (subst (λ es. HasRead g (Then (Then e f) (coming parts l)) [] [] (state es)) (sym grown) (then-read g e f (coming parts l)))
          (inside-push (length parts) (l ++ b ∷ []) a (inside-push (length parts) l b top.1 q) p, ap (λ es. fits g 0 (state es)) grown ∙ then-fits g e f (coming parts l) (fit-as (Then e f) at))
          (subst (λ es. due g es < due g (Then e f ∷ tops parts l)) (sym grown) (due-then (front g e).is_null (front g f).is_null (cost g e) (cost g f) (due g (tops parts l))))

      pub apart-not : (p : Part C A N) (new : List ℕ) (all : List (Event C A)) → expr_at parts k ≡ made_of (expr_at parts) (Some p) → ((a : A) → ¬ (p ≡ part.Say a)) → ¬ (p ≡ part.Nothing) → ((i j : ℕ) → ¬ (p ≡ part.Then i j)) → new ≡ l → all ≡ said
          → IsTakenApart g parts k false l new said all
      apart-not p new all at s n t here is =
          let w = subst Stands (sym at) (not-plain (expr_at parts) p s n t) in
          (λ e. absurd (true≢false (sym e)), λ _. (w.0, w.1, w.2, here, is))

    -- ---- as the token tells
    module _ (kind : Option ℕ) (said : List (Event C A)) where
      turned-by : (e : Expr C A N) (last new : List ℕ) (all : List (Event C A)) → expr_at parts k ≡ e → new ≡ last → all ≡ said → IsStack g parts last → Turns g kind (Then e (coming parts l)) [] (coming parts last) → due g (tops parts last) < due g (e ∷ tops parts l)
          → IsTurned g parts kind k true l new said all
      turned-by e last new all at here is s t less = subst (λ new. IsTurned g parts kind k true l new said all) (sym here) (
        [],
        is ∙ sym (append-nil said),
        s,
        λ _. (subst (λ s. Turns g kind s [] (coming parts last)) (sym (above-is e at)) t, due-as e at (due g (tops parts last)) less),
        λ e. absurd (true≢false e),
      )

      -- to the place of one part
      turned : (e : Expr C A N) (a : ℕ) (new : List ℕ) (all : List (Event C A)) → expr_at parts k ≡ e → new ≡ l ++ a ∷ [] → all ≡ said → a < length parts → fits g 0 (above parts a l) ≡ true → Turns g kind (Then e (coming parts l)) [] (above parts a l)
          → due g (expr_at parts a ∷ tops parts l) < due g (e ∷ tops parts l) → IsTurned g parts kind k true l new said all
      turned e a new all at here is i f t less =
          turned-by e (l ++ a ∷ []) new all at here is (stack-of l a (i, top.1, f))
          (subst (Turns g kind (Then e (coming parts l)) []) (sym (popped l a (l ++ a ∷ []) refl)) t)
          (subst (λ es. due g es < due g (e ∷ tops parts l)) (sym (tops-push parts l a)) less)

      module _ (h : IsReadable g) where
        pub turned-take : (c : C) (new : List ℕ) (all : List (Event C A)) → expr_at parts k ≡ Take c → Leads g (above parts k l) kind → new ≡ l → all ≡ said ++ Took c ∷ [] → IsTurned g parts kind k false l new said all
        turned-take c new all at lead here is = subst (λ new. IsTurned g parts kind k false l new said all) (sym here) (
          Took c ∷ [],
          is,
          below (Take c) at,
          λ e. absurd (true≢false (sym e)),
          λ _. (g.wants c, sym lead.2 ∙ wanted lead.0 (subst (λ s. Means C A N g.rules s lead.0) (above-is (Take c) at) lead.1), subst (λ s. HasRead g s (g.wants c ∷ []) (Took c ∷ []) (coming parts l)) (sym (above-is (Take c) at)) (take-read g c (coming parts l))),
        )
          where
            wanted : (zs : List (Event C A)) → Means C A N g.rules (Then (Take c) (coming parts l)) zs → head_of (tokens g zs) ≡ Some (g.wants c)
            wanted zs m = let i = then-inv g (Take c) (coming parts l) zs m in ap (λ z. head_of (tokens g z)) (i.2 ∙ ap (λ x. x ++ i.1) (take-inv g c i.0 i.3))

        pub turned-rule : (n : N) (a : ℕ) (new : List ℕ) (all : List (Event C A)) → expr_at parts k ≡ Rule n → expr_at parts a ≡ g.rules n → a < length parts → new ≡ l ++ a ∷ [] → all ≡ said → IsTurned g parts kind k true l new said all
        turned-rule n a new all at root i here is =
            let r = coming parts l in
            turned (Rule n) a new all at here is i
            (ap (λ e. fits g 0 (Then e r)) root ∙ rule-fits g h n r (fit-as (Rule n) at))
            (subst (λ e. Turns g kind (Then (Rule n) r) [] (Then e r)) (sym root) (from-read g kind (Then (Rule n) r) (Then (g.rules n) r) [] (rule-read g n r)))
            (subst (λ e. due g (e ∷ tops parts l) < due g (Rule n ∷ tops parts l)) (sym root) less)
          where
            cheaper : cost g (g.rules n) < cost g (Rule n)
            cheaper = ltb-true (cost g (g.rules n)) (cost g (Rule n)) (and-parts _ _ (and-parts (fits g (g.after n) (g.rules n)) _ (h.tested n)).1).0

            less : due g (g.rules n ∷ tops parts l) < due g (Rule n ∷ tops parts l)
            less = let same = ap (λ (p : Front). cond p.is_null (due g (tops parts l)) 0) (h.steady n) in omega (arith, cheaper, same)

        module _ (a b : ℕ) (at : expr_at parts k ≡ Or (expr_at parts a) (expr_at parts b)) (new : List ℕ) (all : List (Event C A)) (is : all ≡ said) where
          fit : fits g 0 (Then (Or (expr_at parts a) (expr_at parts b)) (coming parts l)) ≡ true
          fit = fit-as (Or (expr_at parts a) (expr_at parts b)) at

          pub turned-left : chooses kind (front g (expr_at parts a)) (front g (expr_at parts b)) ≡ true → a < length parts → new ≡ l ++ a ∷ [] → IsTurned g parts kind k true l new said all
          turned-left c i here =
              turned (Or (expr_at parts a) (expr_at parts b)) a new all at here is i (or-fits g (expr_at parts a) (expr_at parts b) (coming parts l) fit).0 (left-chosen g h kind (expr_at parts a) (expr_at parts b) (coming parts l) fit c)
              (due-left (front g (expr_at parts a)).is_null (front g (expr_at parts b)).is_null (cost g (expr_at parts a)) (cost g (expr_at parts b)) (due g (tops parts l)))

          pub turned-right : chooses kind (front g (expr_at parts a)) (front g (expr_at parts b)) ≡ false → b < length parts → new ≡ l ++ b ∷ [] → IsTurned g parts kind k true l new said all
          turned-right c i here =
              turned (Or (expr_at parts a) (expr_at parts b)) b new all at here is i (or-fits g (expr_at parts a) (expr_at parts b) (coming parts l) fit).1 (right-chosen g h kind (expr_at parts a) (expr_at parts b) (coming parts l) fit c)
              (due-right (front g (expr_at parts a)).is_null (front g (expr_at parts b)).is_null (cost g (expr_at parts a)) (cost g (expr_at parts b)) (due g (tops parts l)))

        module _ (a : ℕ) (new : List ℕ) (all : List (Event C A)) (is : all ≡ said) where
          module _ (at : expr_at parts k ≡ Maybe (expr_at parts a)) where
            may : (apart (front g (expr_at parts a)).first (before (front g (coming parts l)) 0) && not (front g (expr_at parts a)).is_null) ≡ true
            may = maybe-apart g h kind (expr_at parts a) (coming parts l) (fit-as (Maybe (expr_at parts a)) at)

            pub turned-into : begun kind (front g (expr_at parts a)) ≡ true → a < length parts → new ≡ l ++ a ∷ [] → IsTurned g parts kind k true l new said all
            turned-into b i here =
                turned (Maybe (expr_at parts a)) a new all at here is i (maybe-fits g (expr_at parts a) (coming parts l) (fit-as (Maybe (expr_at parts a)) at)) (maybe-in g kind (expr_at parts a) (coming parts l) (never-after g h kind (expr_at parts a) (coming parts l) may b))
                (due-one (front g (expr_at parts a)).is_null (cost g (expr_at parts a)) (due g (tops parts l)) (due g (tops parts l)) (and-parts _ _ may).1)

            pub passed-by : begun kind (front g (expr_at parts a)) ≡ false → new ≡ l → IsTurned g parts kind k true l new said all
            passed-by b here = turned-by (Maybe (expr_at parts a)) l new all at here is (below (Maybe (expr_at parts a)) at) (maybe-out g kind (expr_at parts a) (coming parts l) (not-in g h kind (expr_at parts a) (coming parts l) may b)) (omega arith)

          module _ (at : expr_at parts k ≡ Many (expr_at parts a)) where
            many : (apart (front g (expr_at parts a)).first (before (front g (coming parts l)) 0) && not (front g (expr_at parts a)).is_null) ≡ true
            many = many-apart g h kind (expr_at parts a) (coming parts l) (fit-as (Many (expr_at parts a)) at)

            pub passed-all : begun kind (front g (expr_at parts a)) ≡ false → new ≡ l → IsTurned g parts kind k true l new said all
            passed-all b here = turned-by (Many (expr_at parts a)) l new all at here is (below (Many (expr_at parts a)) at) (many-out g kind (expr_at parts a) (coming parts l) (not-in g h kind (expr_at parts a) (coming parts l) many b)) (omega arith)

            pub turned-again : (mid : List ℕ) → begun kind (front g (expr_at parts a)) ≡ true → a < length parts → mid ≡ l ++ k ∷ [] → new ≡ mid ++ a ∷ [] → IsTurned g parts kind k true l new said all
            turned-again mid b i one two =
                let r = coming parts l in
                let e = expr_at parts a in
                let last : List ℕ = (l ++ k ∷ []) ++ a ∷ [] in
                let grown : tops parts last ≡ e ∷ Many e ∷ tops parts l = tops-push parts (l ++ k ∷ []) a ∙ ap (λ es. e ∷ es) (tops-push parts l k) ∙ ap (λ x. e ∷ x ∷ tops parts l) at in
                turned-by (Many e) last new all at (two ∙ ap (λ m. m ++ a ∷ []) one) is
                (inside-push (length parts) (l ++ k ∷ []) a (inside-push (length parts) l k top.1 top.0) i, ap (λ es. fits g 0 (state es)) grown ∙ many-fits g e r (fit-as (Many e) at))
                (subst (λ es. Turns g kind (Then (Many e) r) [] (state es)) (sym grown) (many-in g kind e r (never-after g h kind e r many b)))
                (subst (λ es. due g es < due g (Many e ∷ tops parts l)) (sym grown) (due-one (front g e).is_null (cost g e) (due g (tops parts l)) (due g (Many e ∷ tops parts l)) (and-parts _ _ many).1))

      pub turned-plain : (new : List ℕ) (all : List (Event C A)) (taken : Bool) → IsTakenApart g parts k taken l new said all → is_plain (expr_at parts k) ≡ true → IsTurned g parts kind k taken l new said all
      turned-plain new all true p e = let w = p.0 refl in (w.0, w.1, w.3, λ _. (from-read g kind (above parts k l) (coming parts new) w.0 w.2, w.4), λ e. absurd (true≢false e))
      turned-plain new all false p e = absurd (true≢false (sym e ∙ (p.1 refl).0))

  -- ---- until the token is taken or the text has ended
  pub record IsGoing (kind : Option ℕ) (old now : List ℕ) (said all : List (Event C A)) : Type 0 where
    pub told : List (Event C A)
    pub added : all ≡ said ++ told
    pub turns : Turns g kind (coming parts old) told (coming parts now)
    pub ready : IsStack g parts now
    pub leads : Leads g (coming parts now) kind

  -- with the place that stands next above the stack
  abbrev pub IsGoingOn : Option ℕ → (old : List ℕ) → Option ℕ → (now : List ℕ) → (said all : List (Event C A)) → Type 0
  IsGoingOn kind old next now said all = IsGoing kind old (with_next next now) said all × (next ≡ None → now ≡ [])

  module _ (kind : Option ℕ) (old : List ℕ) (said : List (Event C A)) where
    pub going-none : IsStack g parts old → Leads g (coming parts old) kind → IsGoing kind old old said said
    going-none s lead = record { told = []; added = sym (append-nil said); turns = turns-none g kind (coming parts old); ready = s; leads = lead }

    module _ (now l : List ℕ) (k : ℕ) (mid : List (Event C A)) (top : now ≡ l ++ k ∷ []) (h : IsGoing kind old now said mid) where
      going-on : Turns g kind (coming parts old) h.told (above parts k l)
      going-on = subst (Turns g kind (coming parts old) h.told) (popped l k now top) h.turns

      pub going-leads : Leads g (above parts k l) kind
      going-leads = subst (λ s. Leads g s kind) (popped l k now top) h.leads

      pub going-more : (new : List ℕ) (all : List (Event C A)) (more : Bool) → IsTurned g parts kind k more l new mid all → more ≡ true → IsGoing kind old new said all
      going-more new all more p on =
          let w = p.3 on in
          record {
            told = h.told ++ p.0;
            added = p.1 ∙ ap (λ x. x ++ p.0) h.added ∙ append_assoc said h.told p.0;
            turns = turns-more g kind (coming parts old) (above parts k l) h.told going-on (coming parts new) p.0 w.0;
            ready = p.2;
            leads = leads-on g kind (above parts k l) (coming parts new) p.0 w.0 going-leads;
          }

      pub going-falls : (new : List ℕ) (all : List (Event C A)) (more : Bool) → IsTurned g parts kind k more l new mid all → more ≡ true → due g (tops parts new) < due g (tops parts now)
      going-falls new all more p on = subst (λ es. due g (tops parts new) < due g es) (sym (ap (tops parts) top ∙ tops-push parts l k)) (p.3 on).1

      pub gone-taken : (new : List ℕ) (all : List (Event C A)) (more : Bool) → IsTurned g parts kind k more l new mid all → more ≡ false → IsGone g parts kind old new said all
      gone-taken new all more p off =
          let w = p.4 off in (
            h.told ++ p.0,
            p.1 ∙ ap (λ x. x ++ p.0) h.added ∙ append_assoc said h.told p.0,
            p.2,
            λ none. absurd (none-some w.0 (sym none ∙ w.1)),
            λ d is. let same : w.0 ≡ d = same_Some w.0 d (sym w.1 ∙ is) in turns-read g kind (coming parts old) (above parts k l) h.told going-on d (coming parts new) p.0 is (subst (λ d. HasRead g (above parts k l) (d ∷ []) p.0 (coming parts new)) same w.2),
          )

    pub gone-ended : (now new : List ℕ) (all : List (Event C A)) → now ≡ [] → new ≡ [] → IsGoing kind old now said all → IsGone g parts kind old new said all
    gone-ended now new all is here h =
        let turns : Turns g kind (coming parts old) h.told Nothing = subst (Turns g kind (coming parts old) h.told) (ap (coming parts) is) h.turns in
        let none : None ≡ kind = ends (h.leads).0 (subst (λ ks. Means C A N g.rules (coming parts ks) (h.leads).0) is (h.leads).1) (h.leads).2 in (
          h.told,
          h.added,
          subst (IsStack g parts) (is ∙ sym here) h.ready,
          λ _. turns-end g kind (coming parts old) h.told turns,
          λ d some. absurd (none-some d (none ∙ some)),
        )
      where
        ends : (zs : List (Event C A)) → Means C A N g.rules Nothing zs → head_of (tokens g zs) ≡ kind → None ≡ kind
        ends zs m e = ap (λ z. head_of (tokens g z)) (sym (nothing-inv g zs m)) ∙ e

  -- ---- until what is plain no more stands next
  pub record IsSettling (old now : List ℕ) (said all : List (Event C A)) : Type 0 where
    pub told : List (Event C A)
    pub added : all ≡ said ++ told
    pub read : HasRead g (coming parts old) [] told (coming parts now)
    pub ready : IsStack g parts now

  abbrev pub IsSettlingOn : (old : List ℕ) → Option ℕ → (now : List ℕ) → (said all : List (Event C A)) → Type 0
  IsSettlingOn old next now said all = IsSettling old (with_next next now) said all × (next ≡ None → now ≡ [])

  module _ (old : List ℕ) (said : List (Event C A)) where
    pub settling-none : IsStack g parts old → IsSettling old old said said
    settling-none s = record { told = []; added = sym (append-nil said); read = read-start g (coming parts old); ready = s }

    module _ (now l : List ℕ) (k : ℕ) (mid : List (Event C A)) (top : now ≡ l ++ k ∷ []) (h : IsSettling old now said mid) (new : List ℕ) (all : List (Event C A)) (taken : Bool) (p : IsTakenApart g parts k taken l new mid all) where
      pub settling-more : taken ≡ true → IsSettling old new said all
      settling-more on =
          let w = p.0 on in
          record {
            told = h.told ++ w.0;
            added = w.1 ∙ ap (λ x. x ++ w.0) h.added ∙ append_assoc said h.told w.0;
            read = read-more g (coming parts old) (above parts k l) (coming parts new) [] [] h.told w.0 (subst (HasRead g (coming parts old) [] h.told) (popped l k now top) h.read) w.2;
            ready = w.3;
          }

      pub settling-falls : taken ≡ true → due g (tops parts new) < due g (tops parts now)
      settling-falls on = subst (λ es. due g (tops parts new) < due g es) (sym (ap (tops parts) top ∙ tops-push parts l k)) (p.0 on).4

      pub settled-here : (last : List ℕ) → taken ≡ false → last ≡ new ++ k ∷ [] → IsSettled g parts old last said all
      settled-here last off is =
          let w = p.1 off in
          let same : now ≡ last = top ∙ ap (λ ks. ks ++ k ∷ []) (sym w.3) ∙ sym is in (
            h.told,
            w.4 ∙ h.added,
            subst (λ ks. HasRead g (coming parts old) [] h.told (coming parts ks)) same h.read,
            ap (λ ks. says_next (coming parts ks)) (sym same) ∙ ap says_next (popped l k now top) ∙ says-above (expr_at parts k) (coming parts l) w.1 w.2,
            subst (IsStack g parts) same h.ready,
          )

    pub settled-empty : (now new : List ℕ) (all : List (Event C A)) → now ≡ [] → new ≡ [] → IsSettling old now said all → IsSettled g parts old new said all
    settled-empty now new all is here h =
        let same : now ≡ new = is ∙ sym here in
        (h.told, h.added, subst (λ ks. HasRead g (coming parts old) [] h.told (coming parts ks)) same h.read, ap (λ ks. says_next (coming parts ks)) here, subst (IsStack g parts) same h.ready)

  -- ---- a token, and what is told at once
  pub stepped : {T F : Type 0} (r : Result T F) (d : ℕ) (old mid new : List ℕ) (said some all : List (Event C A)) → IsGone g parts (Some d) old mid said some → IfOk r (λ _. IsSettled g parts mid new some all)
      → IfOk r (λ _. Goes g (coming parts old) (d ∷ []) (coming parts new) said all × IsStack g parts new)
  stepped (Err x) d old mid new said some all p q = q
  stepped (Ok x) d old mid new said some all p q = (
    (p.0 ++ q.0, q.1 ∙ ap (λ l. l ++ q.0) p.1 ∙ append_assoc said p.0 q.0, read-more g (coming parts old) (coming parts mid) (coming parts new) (d ∷ []) [] p.0 q.0 (p.4 d refl) q.2, q.3),
    q.4,
  )

  -- ---- the rule at the beginning
  pub begun-ready : IsReadable g → (n : N) (k : ℕ) (now none : List ℕ) → none ≡ [] → now ≡ none ++ k ∷ [] → k < length parts → expr_at parts k ≡ g.rules n → IsStack g parts now
  begun-ready h n k now none off is i at = subst (IsStack g parts) (sym (is ∙ ap (λ ks. ks ++ k ∷ []) off)) ((i, tt), ap (λ e. fits g 0 (Then e Nothing)) at ∙ start-fits g h n)

  pub begun-rule : {T F : Type 0} (r : Result T F) (n : N) (k : ℕ) (now none new : List ℕ) (said all : List (Event C A)) → none ≡ [] → now ≡ none ++ k ∷ [] → expr_at parts k ≡ g.rules n → IfOk r (λ _. IsSettled g parts now new said all)
      → IfOk r (λ _. Goes g (Rule n) [] (coming parts new) said all × IsStack g parts new)
  begun-rule (Err x) n k now none new said all off is at q = q
  begun-rule (Ok x) n k now none new said all off is at q =
      let one : coming parts now ≡ Then (g.rules n) Nothing = ap (coming parts) (is ∙ ap (λ ks. ks ++ k ∷ []) off) ∙ ap (λ e. Then e Nothing) at in (
        (q.0, q.1, read-more g (Rule n) (coming parts now) (coming parts new) [] [] [] q.0 (subst (HasRead g (Rule n) [] []) (sym one) (rule-alone g n)) q.2, q.3),
        q.4,
      )

  -- ---- looking down a stack, of which a test tells the same as of the whole
  last-one : (ks : List ℕ) (m : ℕ) → 0 < m → m ≤ length ks → coming parts (take m ks) ≡ above parts (get_or ks (m - 1) 0) (take (m - 1) ks)
  last-one ks m h i = let e : m ≡ m - 1 + 1 = omega (arith, h) in popped (take (m - 1) ks) (get_or ks (m - 1) 0) (take m ks) (ap (λ j. take j ks) e ∙ take_more ks (m - 1) 0 (omega (arith, h, i)))

  module _ (kind : Option ℕ) (ks : List ℕ) where
    abbrev pub IsSame : ℕ → Type 0
    IsSame m = (m ≤ length ks) × (starts kind (front g (coming parts (take m ks))) ≡ starts kind (front g (coming parts ks)))

    pub same-all : (m : ℕ) → m ≡ length ks → IsSame m
    same-all m e = (omega (arith, e), ap (λ l. starts kind (front g (coming parts l))) (take_all m ks (omega (arith, e))))

    module _ (m : ℕ) (h : 0 < m) (i : IsSame m) where
      down : starts kind (in_turn (front g (expr_at parts (get_or ks (m - 1) 0))) (front g (coming parts (take (m - 1) ks)))) ≡ starts kind (front g (coming parts ks))
      down = ap (λ s. starts kind (front g s)) (sym (last-one ks m h i.0)) ∙ i.1

      pub told-begun : begun kind (front g (expr_at parts (get_or ks (m - 1) 0))) ≡ true → true ≡ starts kind (front g (coming parts ks))
      told-begun b = sym (turn-begun kind _ _ b) ∙ down

      pub told-stuck : begun kind (front g (expr_at parts (get_or ks (m - 1) 0))) ≡ false → (front g (expr_at parts (get_or ks (m - 1) 0))).is_null ≡ false → false ≡ starts kind (front g (coming parts ks))
      told-stuck b n = sym (turn-stuck kind _ _ b n) ∙ down

      pub same-below : begun kind (front g (expr_at parts (get_or ks (m - 1) 0))) ≡ false → (front g (expr_at parts (get_or ks (m - 1) 0))).is_null ≡ true → IsSame (m - 1)
      same-below b n = (omega (arith, i.0), sym (turn-passed kind _ _ b n) ∙ down)

    pub told-last : (m : ℕ) → m ≤ 0 → IsSame m → starts kind (front g Nothing) ≡ starts kind (front g (coming parts ks))
    told-last m h i = let e : 0 ≡ m = omega (arith, h) in ap (λ j. starts kind (front g (coming parts (take j ks)))) e ∙ i.1

-- at the bottom only the end goes on
pub none-told : (kind : Option ℕ) (b : Bool) → is_some kind ≡ not b → b ≡ starts kind silent
none-told None true e = refl
none-told None false e = absurd (true≢false (sym e))
none-told (Some d) true e = absurd (true≢false e)
none-told (Some d) false e = sym (has-empty d)
