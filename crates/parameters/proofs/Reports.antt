-- The report, with a line more at its end.
use Rattle.std.proofs.Common.{◌≡◌, ℕ, ◌+◌, ◌<◌, ◌≤◌, ◌^◌, cond, eqb, List, [], ◌∷◌, ◌++◌, length, sym, refl, ap, ◌∙◌, append_assoc, append-nil, arith, codes, decimal, length-append}
use Rattle.std.specs.List.{count_by}
use Rattle.std.proofs.lemmas.Grind.{common_steps}
use Rattle.std.proofs.lemmas.List.Recursion.{is_count_by}
use Rattle.std.proofs.lemmas.List.Sums.{count_by-le-length}
use Rattle.datatypes.specs.Meaning.{Bytes}
use Rattle.parameters.specs.declared.tally.Tally.{Tally}
use Rattle.parameters.specs.Report.{found, line_text, lines_text, summary, tallied}
use Rattle.parameters.specs.Rows.{row_of, outcome_of}
use Rattle.parameters.specs.Tally.{Counts, HasRoom, tally_text}
use Rattle.parameters.specs.Lines.{fields_of}

pub lines_text-append : (n : ℕ) (ls : List Bytes) (l : Bytes) → lines_text n (ls ++ l ∷ []) ≡ lines_text n ls ++ line_text (n + length ls) l
lines_text-append n [] l = append-nil (line_text n l) ∙ ap (λ m. line_text m l) (omega arith)
lines_text-append n (k ∷ ls) l =
    ap (λ t. line_text n k ++ t) (lines_text-append (n + 1) ls l) ∙ sym (append_assoc (line_text n k) (lines_text (n + 1) ls) (line_text (n + 1 + length ls) l))
    ∙ ap (λ m. line_text n k ++ lines_text (n + 1) ls ++ line_text m l) (omega arith)

tallied-count_by : (k : ℕ) (ls : List Bytes) → tallied k ls ≡ count_by (λ l. eqb (outcome_of l) k) ls
tallied-count_by k ls = is_count_by (tallied k) (λ l. eqb (outcome_of l) k) refl (λ l ls. ap (λ n. cond (eqb (outcome_of l) k) n (tallied k ls)) (omega arith)) ls

tallied-append : (k : ℕ) (ls : List Bytes) (l : Bytes) → tallied k (ls ++ l ∷ []) ≡ tallied k ls + cond (eqb (outcome_of l) k) 1 0
tallied-append k ls l = simp tallied-count_by (grind (arith, common_steps))

tallied-le : (k : ℕ) (ls : List Bytes) → tallied k ls ≤ length ls
tallied-le k ls = rw (tallied-count_by k ls) (count_by-le-length _ ls)

pub HasRoom-from_Counts : (t : Tally) (ls : List Bytes) → Counts t ls → length ls + 1 < 2 ^ 64 → HasRoom t
HasRoom-from_Counts t ls h few = grind (arith, tallied-le 1 ls, tallied-le 2 ls, tallied-le 0 ls)

-- a line more, whose outcome is k
pub Counts-append : (t u : Tally) (ls : List Bytes) (l : Bytes) (k : ℕ) → Counts t ls → k ≡ outcome_of l → u.lines ≡ t.lines + 1 → u.same ≡ t.same + cond (eqb k 1) 1 0 → u.different ≡ t.different + cond (eqb k 2) 1 0 → u.not_compared ≡ t.not_compared + cond (eqb k 0) 1 0 → Counts u (ls ++ l ∷ [])
Counts-append t u ls l k h e a b c d = record {
  lines = omega (arith, h.lines, length-append ls (l ∷ []));
  same = b ∙ rw (e, h.same) (sym (tallied-append 1 ls l));
  different = c ∙ rw (e, h.different) (sym (tallied-append 2 ls l));
  not_compared = d ∙ rw (e, h.not_compared) (sym (tallied-append 0 ls l));
}

-- the start s of a line, and then what is found of it
pub line_joined : (t s f line : Bytes) (n : ℕ) → s ≡ codes "line " ++ (decimal n ++ codes ": ") → f ≡ found (row_of (fields_of line)) → t ++ s ++ f ++ codes "\n" ≡ t ++ line_text n line
line_joined t s f line n e g = rw (e, g) (simp append_assoc)

pub summary-Counts : (t : Tally) (ls : List Bytes) → Counts t ls → tally_text t ++ codes "\n" ≡ summary ls
summary-Counts t ls h = rw (h.lines, h.same, h.different, h.not_compared) (simp append_assoc)
