-- The steps of `atomic_table` keep the rule, by the laws of the rule, and tell what they should.
use Rattle.std.proofs.Common.{◌≡◌, ℕ, mod-eq_of_lt, ◌+◌, ◌^◌, ◌%◌, ◌<◌, ◌≤◌, List, [], ◌∷◌, set, false, refl, sym, ap, ◌∙◌, subst, ⊎_elim, arith}
use Rattle.std.specs.Prelude.{slice_index}
use mathlib.Core.Option.{some, some-injective, none}
use lib.ListN.{get_elem?}
use Rattle.atomic_table.specs.Table.{Allows, Splits, Joins, opening, step, keeps, Final, Seen}
use Rattle.atomic_table.proofs.Lists.{at_set, set_again}
use Rattle.mcs_draw.proofs.Rule.{begins, draws, splits, joins, wholes}
use Rattle.mcs_draw.proofs.Totals.{sum_at}
use Rattle.mcs_draw.specs.declared.account.View.{View}
use Rattle.mcs_draw.specs.declared.account.Terms.{Terms}
use Rattle.mcs_draw.specs.Budget.{BudgetRule, after_draw, after_split, split_off, after_join, seated, joined_away}
use Rattle.mcs_draw.specs.Steps.{KeepsWordRule, DrawTells, LookTells, first_view}

pub table_begins : (base room : ℕ) → base + room < 2 ^ 63 → KeepsWordRule (record { base = base; room = room }) (opening (base ∷ []) [] (first_view (record { base = base; room = room })))
table_begins base room small = record { word = base; is = refl; rule = begins base room small }

pub draw_allowed : (k : Terms) (slots id amount : ℕ) (v : View) (held : List (ℕ × Unit {0})) → v.away ≡ false → amount ≤ v.account.left
    → Allows (KeepsWordRule k) slots id (v, held) 0 (λ n. (n + amount) % 2 ^ 64) (DrawTells (step slots 0 amount 0 none) (v, held))
draw_allowed k slots id amount v held present le s kept homes at small =
    let n = kept.word in
    let b = kept.rule in
    let found = ap (λ (ws : List ℕ). slice_index ws 0) kept.is in
    let fits : n + amount < 2 ^ 63 = omega (arith, b.left, b.small, sum_at (λ u. u.account.left) s.views id v at) in
    let below : n + amount < 2 ^ 64 = omega (arith, fits) in
    let total : (slice_index s.words 0 + amount) % 2 ^ 64 ≡ n + amount = ap (λ x. (x + amount) % 2 ^ 64) found ∙ mod-eq_of_lt below in (
      seated (after_draw amount (n + amount) v.account),
      keeps,
      tt,
      record {
        word = n + amount;
        is = ap (λ ws. set ws 0 ((slice_index s.words 0 + amount) % 2 ^ 64)) kept.is ∙ ap (λ x. x ∷ []) total;
        rule = draws k.base k.room n id amount s.views v b (record { at = at; present = present }) le;
      },
      record {
        fits = omega (arith, found);
        view = ap (λ x. seated (after_draw amount (x + amount) v.account)) (sym found);
        slots = refl;
        top = (let f = (b.each id v at).below in omega (arith, found));
        drawn = omega (arith, found, b.drawn, sum_at (λ u. u.account.drawn) s.views id v at);
      },
    )

pub split_allowed : (k : Terms) (id part : ℕ) (v : View) → v.away ≡ false → 0 < part → part < v.account.left
    → Splits (KeepsWordRule k) id v (seated (after_split part v.account)) (seated (split_off part v.account))
split_allowed k id part v present some_part le s kept at =
    record { word = kept.word; is = kept.is; rule = splits k.base k.room kept.word id part s.views v kept.rule (record { at = at; present = present }) some_part le }

pub join_allowed : (k : Terms) (id other : ℕ) (v w : View) → v.away ≡ false → Joins (KeepsWordRule k) id v other w (seated (after_join v.account w.account)) joined_away
join_allowed k id other v w present s kept at apart at' =
    let u = seated (after_join v.account w.account) in
    let was : get_elem? s.views other ≡ some w = ⊎_elim (λ x. absurd (apart x.0)) (λ x. x.1) (at_set s.views id other u w at') in
    record { word = kept.word; is = kept.is; rule = joins k.base k.room kept.word id other s.views v w kept.rule (record { at = at; present = present }) apart was }

pub look_allowed : (k : Terms) (slots id : ℕ) (v : View) (held : List (ℕ × Unit {0})) → Allows (KeepsWordRule k) slots id (v, held) 0 (λ n. n) (LookTells (step slots 0 0 0 none) (v, held))
look_allowed k slots id v held s kept homes at small =
    let b = kept.rule in (
      v,
      keeps,
      tt,
      record {
        word = kept.word;
        is = ap (λ ws. set ws 0 (slice_index s.words 0)) kept.is ∙ ap (λ ws. slice_index ws 0 ∷ []) kept.is;
        rule = subst (BudgetRule k.base k.room kept.word) (sym (set_again s.views id v at)) b;
      },
      record {
        same = refl;
        fits = omega (arith, b.left, b.small, b.drawn, sum_at (λ u. u.account.left) s.views id v at, sum_at (λ u. u.account.drawn) s.views id v at);
      },
    )

-- at the end the word is the base with what the seat has drawn, and the seat's top
pub table_ends : (k : Terms) (id word : ℕ) (v : View) (ws : List ℕ) (xs : List (Unit {0})) → v.away ≡ false → v.account.left + v.account.drawn ≡ k.room → Final (Seen (KeepsWordRule k) id v) ws xs → get_elem? ws 0 ≡ some word
    → (word ≡ k.base + v.account.drawn) × (word ≡ v.account.top)
table_ends k id word v ws xs present whole (s, (kept, at), words, count, homes) found =
    let same : kept.word ≡ word = some-injective kept.word word (ap (λ (l : List ℕ). get_elem? l 0) (sym kept.is ∙ words) ∙ found) in
    let r = wholes k.base k.room kept.word id s.views v kept.rule (record { at = at; present = present }) whole in
    (sym same ∙ r.total, sym same ∙ r.top)
