-- Pieces of a line, and lines as bytes.
use Rattle.std.proofs.Common.{◌≡◌, ℕ, ◌≤◌, List, [], ◌∷◌, ◌++◌, map, length, codes, refl, sym, ap, ◌∙◌, append_assoc, arith, length-append}
use Rattle.std.proofs.lemmas.List.Concat.{flat_map-append}
use Rattle.mcs_system.specs.Plain.{Name}
use Rattle.mcs_proof_text.specs.Lines.{Line, line_text, with_feed, text_of_lines, written_lines}

pub written_is : (names : List Name) (ls : List Line) → text_of_lines (map (line_text names) ls) ≡ written_lines names ls
written_is names [] = refl
written_is names (l ∷ ls) = ap (λ (x : List ℕ). with_feed (line_text names l) ++ x) (written_is names ls)

-- the lines of an answer, part by part
pub answer_parts : (t q : List ℕ) (outs : List (List ℕ)) (names : List Name) (ls : List Line)
    → (((t ++ with_feed q) ++ text_of_lines outs) ++ written_lines names ls) ++ codes "done\n" ≡ t ++ text_of_lines (q ∷ (outs ++ (map (line_text names) ls ++ codes "done" ∷ [])))
answer_parts t q outs names ls =
    let last : text_of_lines (map (line_text names) ls ++ codes "done" ∷ []) ≡ written_lines names ls ++ codes "done\n" =
    flat_map-append with_feed (map (line_text names) ls) (codes "done" ∷ []) ∙ ap (λ (x : List ℕ). x ++ codes "done\n") (written_is names ls) in
    let all : text_of_lines (outs ++ (map (line_text names) ls ++ codes "done" ∷ [])) ≡ text_of_lines outs ++ (written_lines names ls ++ codes "done\n") =
    flat_map-append with_feed outs (map (line_text names) ls ++ codes "done" ∷ []) ∙ ap (λ (x : List ℕ). text_of_lines outs ++ x) last in
    grouped t (with_feed q) (text_of_lines outs) (written_lines names ls) (codes "done\n") ∙ ap (λ (x : List ℕ). t ++ (with_feed q ++ x)) (sym all)
  where
    grouped : (t a b c d : List ℕ) → (((t ++ a) ++ b) ++ c) ++ d ≡ t ++ (a ++ (b ++ (c ++ d)))
    grouped t a b c d = simp append_assoc

-- no more lines than bytes
pub lines_few : (lines : List (List ℕ)) → length lines ≤ length (text_of_lines lines)
lines_few [] = omega arith
lines_few (line ∷ lines) = omega (arith, length-append (with_feed line) (text_of_lines lines), length-append line (codes "\n"), lines_few lines)
