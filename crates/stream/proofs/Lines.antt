-- The lines of a sheet one by one: the first, and those behind it; lines written with their newlines are a sheet of just those.
use mathlib.Core.Path.{◌≡◌, refl, ◌∙◌}
use mathlib.Core.List.{List, [], ◌∷◌, ◌++◌, append-nil, append_assoc}
use Prim.Native.Nat.{ℕ, suc, ◌+◌, ◌<◌}
use native.Mathlib.Omega.{arith}
use lib.Dec.{eqb}
use lib.ListN.{length, take, drop, length-append}
use borrow.Author.Tests.{ne_eqb, eqb-false}
use Rattle.algebra.proofs.Test.{either}
use Rattle.scan.specs.Find.{before}
use Rattle.scan.proofs.Find.{Without}
use Rattle.stream.specs.Machine.{last_line, lines_from, lines}

pub no_line : (s : List ℕ) → length s ≡ 0 → lines s ≡ []
unfolding lines_from last_line
no_line [] e = refl
no_line (c ∷ cs) e = absurd (none e)
  where
    none : suc (length cs) ≡ 0 → ⊥
    none e = omega arith

begun_line : (s p : List ℕ) → 0 < length p + length s → lines_from p s ≡ (p ++ take (before 10 s) s) ∷ lines (drop (suc (before 10 s)) s)
unfolding lines_from last_line before
begun_line [] [] h = absurd (none h)
  where
    none : 0 < 0 → ⊥
    none h = omega arith
begun_line [] (x ∷ p) h = rw append-nil
begun_line (c ∷ cs) p h =
    either (eqb c 10) (λ e. rw (e, append-nil))
    (λ e. rw e (begun_line cs (p ++ c ∷ []) (rw length-append (omega arith)) ∙ rw append_assoc))

pub some_line : (s : List ℕ) → (length s ≡ 0 → ⊥) → lines s ≡ take (before 10 s) s ∷ lines (drop (suc (before 10 s)) s)
some_line s n = begun_line s [] (omega arith)

-- ---- lines have no newline inside
abbrev pub Plain : List (List ℕ) → Type 0
Plain [] = Unit {0}
Plain (l ∷ ls) = Without 10 l × Plain ls

one_more : (p : List ℕ) (c : ℕ) → Without 10 p → (c ≡ 10 → ⊥) → Without 10 (p ++ c ∷ [])
one_more [] c w n = (n, tt)
one_more (x ∷ p) c w n = (w.0, one_more p c w.1 n)

from_plain : (s p : List ℕ) → Without 10 p → Plain (lines_from p s)
unfolding lines_from last_line
from_plain [] [] w = tt
from_plain [] (x ∷ p) w = (w, tt)
from_plain (c ∷ cs) p w =
    either (eqb c 10) (λ e. rw e (w, from_plain cs [] tt)) (λ e. rw e (from_plain cs (p ++ c ∷ []) (one_more p c w (eqb-false c 10 e))))

pub lines_plain : (s : List ℕ) → Plain (lines s)
lines_plain s = from_plain s [] tt

-- a line with its newline in front of a sheet is its first line
written_line : (l rest p : List ℕ) → Without 10 l → lines_from p (l ++ 10 ∷ rest) ≡ (p ++ l) ∷ lines rest
unfolding lines_from
written_line [] rest p w = rw append-nil
written_line (c ∷ l) rest p w = rw (ne_eqb c 10 w.0) (written_line l rest (p ++ c ∷ []) w.1 ∙ rw append_assoc)

pub first_written : (l rest : List ℕ) → Without 10 l → lines (l ++ 10 ∷ rest) ≡ l ∷ lines rest
first_written l rest w = written_line l rest [] w
