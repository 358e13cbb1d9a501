use Rattle.std.proofs.Common.{◌≡◌, false, codes, sym, ◌∙◌, true≢false}
use Rattle.std.specs.Str.{bytes_eq}
use Rattle.std.proofs.lemmas.Slice.Eq.{bytes_eq-Decides}
use Rattle.mcs_words.specs.Commands.{Word}
use Rattle.mcs_words.specs.Reading.{task_name}
use Rattle.mcs_words.specs.declared.task.Task.{Task}
use Rattle.mcs_words.specs.declared.task.Task.TheVariants.{Equilibria, Solve, Check, Make, Grounded, Cheapest, Session}
use Rattle.mcs_words.proofs.task.task_of.Goals as goal

differs : (word name : Word) → bytes_eq word name ≡ false → ¬ (word ≡ name)
differs word name other same = true≢false (sym ((bytes_eq-Decides word name).1 same) ∙ other)

-- the word is the name of no job
unnamed : (word : Word) → bytes_eq word (codes "equilibria") ≡ false → bytes_eq word (codes "solve") ≡ false
    → bytes_eq word (codes "check") ≡ false → bytes_eq word (codes "make") ≡ false → bytes_eq word (codes "grounded") ≡ false
    → bytes_eq word (codes "cheapest") ≡ false → bytes_eq word (codes "session") ≡ false → (t : Task) → ¬ (word ≡ task_name t)
unnamed word e s c m g p d Equilibria = differs word (codes "equilibria") e
unnamed word e s c m g p d Solve = differs word (codes "solve") s
unnamed word e s c m g p d Check = differs word (codes "check") c
unnamed word e s c m g p d Make = differs word (codes "make") m
unnamed word e s c m g p d Grounded = differs word (codes "grounded") g
unnamed word e s c m g p d Cheapest = differs word (codes "cheapest") p
unnamed word e s c m g p d Session = differs word (codes "session") d

pub returns-then-eq : goal.returns-then-eq
returns-then-eq c = (bytes_eq-Decides c.args.word.now (codes "equilibria")).0 (sym c.eq.ensures ∙ c.if-eq.true)

pub returns-then-eq-2 : goal.returns-then-eq-2
returns-then-eq-2 c = (bytes_eq-Decides c.args.word.now (codes "solve")).0 (sym c.eq-else-eq.ensures ∙ c.if-eq-2.true)

pub returns-then-eq-3 : goal.returns-then-eq-3
returns-then-eq-3 c = (bytes_eq-Decides c.args.word.now (codes "check")).0 (sym c.eq-else-eq-2.ensures ∙ c.if-eq-3.true)

pub returns-then-eq-4 : goal.returns-then-eq-4
returns-then-eq-4 c = (bytes_eq-Decides c.args.word.now (codes "make")).0 (sym c.eq-else-eq-3.ensures ∙ c.if-eq-4.true)

pub returns-then-eq-5 : goal.returns-then-eq-5
returns-then-eq-5 c = (bytes_eq-Decides c.args.word.now (codes "grounded")).0 (sym c.eq-else-eq-4.ensures ∙ c.if-eq-5.true)

pub returns-then-eq-6 : goal.returns-then-eq-6
returns-then-eq-6 c = (bytes_eq-Decides c.args.word.now (codes "cheapest")).0 (sym c.eq-else-eq-5.ensures ∙ c.if-eq-6.true)

pub returns-then-eq-7 : goal.returns-then-eq-7
returns-then-eq-7 c = (bytes_eq-Decides c.args.word.now (codes "session")).0 (sym c.eq-else-eq-6.ensures ∙ c.if-eq-7.true)

pub returns-else-eq-7 : goal.returns-else-eq-7
returns-else-eq-7 c = unnamed c.args.word.now (sym c.eq.ensures ∙ c.if-eq.false) (sym c.eq-else-eq.ensures ∙ c.if-eq-2.false)
    (sym c.eq-else-eq-2.ensures ∙ c.if-eq-3.false) (sym c.eq-else-eq-3.ensures ∙ c.if-eq-4.false)
    (sym c.eq-else-eq-4.ensures ∙ c.if-eq-5.false) (sym c.eq-else-eq-5.ensures ∙ c.if-eq-6.false)
    (sym c.eq-else-eq-6.ensures ∙ c.if-eq-7.false)
