-- Every P case of 01 holds: one test, which the checker computes over the table by the definitions alone.
use mathlib.Core.Path.{◌≡◌, refl, ap₂}
use mathlib.Core.Bool.{Bool, true, false, cond, ◌&&◌}
use mathlib.Core.List.{List, [], ◌∷◌}
use native.Mathlib.Omega.{arith}
use Prim.Native.Nat.{ℕ, suc}
use lib.Dec.{T}
use lib.IntN.{ℤ}
use lib.Signed.{le_z}
use Rattle.algebra.specs.Gauss.{𝔾, ιᵍ, negᵍ, ◌+ᵍ◌, ◌*ᵍ◌}
use Rattle.algebra.specs.Order.{◌⩽◌}
use Rattle.algebra.specs.Rounding.{nearest, floorᵍ}
use Rattle.algebra.proofs.Gauss.{gi_path}
use Rattle.algebra.proofs.Order.{⩽_antisym}
use Rattle.algebra.proofs.Test.{and_left, and_right}
use Rattle.word.specs.Compare.{between}
use Rattle.point.specs.Step.{quotient, step}
use Rattle.point.specs.Limits.{in_steps, in_box, in_parts}
use Rattle.answer.specs.Record.{record_of}
use Rattle.table_numbers.specs.Cell.{is_cell, cell_of}
use Rattle.table_numbers.specs.Numbers48.{step_logs, reciprocal_logs, constants48}
use Rattle.table_numbers.specs.Reciprocal.{reciprocal}
use Rattle.table_numbers.specs.Rows.{reciprocal_at}
use Rattle.table_numbers.specs.Table.{step_table, reciprocal_table}
use Rattle.iteration.specs.Select.{exp_select, cut_back, log_select}
use Rattle.iteration.specs.Run.{select, next, run, digits}
use Rattle.exponential.specs.Reduction.{in_rectangle, in_reach, factor, eighths, turned_re, doublings, left_over, reduction}
use Rattle.exponential.specs.Answer.{answer, exp_answer}
use Rattle.logarithm.specs.Reduction.{turn_back, turns_back, quarters, turned, spelling, quadrant, bits_from, bits, bit_length, binary_exponent_of, scaled, column, row, reduced}
use Rattle.logarithm.specs.Answer.{is_zero, answer as log-answer, log_answer}
use Rattle.edges.specs.Cases.{Case, hands_out, exp_opens, log_opens, has_reciprocal, cases, Holds, All}

-- ---- a statement with a test that shows it
record Tested (P : Type 0) : Type 0 where
  test : Bool
  shows : T test → P

unfoldable both : {P Q : Type 0} → Tested P → Tested Q → Tested (P × Q)
both a b = record {
  test = a.test && b.test;
  shows = λ t. (a.shows (and_left a.test b.test t), b.shows (and_right a.test b.test t));
}

unfoldable by : {P Q : Type 0} → (P → Q) → Tested P → Tested Q
by f a = record { test = a.test; shows = λ t. f (a.shows t) }

unfoldable at_most : (a b : ℤ) → Tested (a ⩽ b)
at_most a b = record { test = le_z a b; shows = λ t. record { le = t } }

unfoldable equal : (a b : ℤ) → Tested (a ≡ b)
equal a b = by (λ p. ⩽_antisym p.0 p.1) (both (at_most a b) (at_most b a))

unfoldable equalᵍ : (z w : 𝔾) → Tested (z ≡ w)
equalᵍ z w = by (λ p. gi_path p.0 p.1) (both (equal z.re w.re) (equal z.im w.im))

unfoldable equals : {A : Type 0} → ((x y : A) → Tested (x ≡ y)) → (xs ys : List A) → Tested (xs ≡ ys)
equals f [] [] = record { test = true; shows = λ _. refl }
equals f [] (y ∷ ys) = record { test = false; shows = λ t. absurd t }
equals f (x ∷ xs) [] = record { test = false; shows = λ t. absurd t }
equals f (x ∷ xs) (y ∷ ys) = by (λ p. ap₂ (λ z zs. z ∷ zs) p.0 p.1) (both (f x y) (equals f xs ys))

-- ---- the table's
unfoldable tested : (c : Case) → Tested (Holds c)
tested (hands_out c fs) = equals equal _ _
tested (exp_opens e ds) = both (equals equalᵍ _ _) (both (equals equalᵍ _ _) (equals equalᵍ _ _))
tested (log_opens p ds) = both (equals equalᵍ _ _) (both (equals equalᵍ _ _) (equals equalᵍ _ _))
tested (has_reciprocal X Y c) = both (equalᵍ _ _) (equalᵍ _ _)

-- the places of the cases whose test fails, the first case's being n
unfoldable failing : ℕ → List Case → List ℕ
failing n [] = []
failing n (c ∷ cs) = cond (tested c).test (failing (suc n) cs) (n ∷ failing (suc n) cs)

passes : {P : Type 0} (n : ℕ) (ns : List ℕ) (t : Bool) → (T t → P) → cond t ns (n ∷ ns) ≡ [] → P × (ns ≡ [])
passes n ns true p e = (p tt, e)
passes n ns false p e = let z : ◌≡◌ {A = ℕ} 0 1 = cc in absurd (omega arith)

none_failing : (n : ℕ) (cs : List Case) → failing n cs ≡ [] → All cs
unfolding failing
none_failing n [] e = tt
none_failing n (c ∷ cs) e =
    let p = passes n (failing (suc n) cs) (tested c).test (tested c).shows e in
    (p.0, none_failing (suc n) cs p.1)

-- THE STATEMENT: every case of the table holds
pub cases_hold : All cases
unfolding failing tested equals equalᵍ equal at_most both by record_of exp_answer answer in_steps in_reach in_rectangle
    reduction left_over doublings turned_re eighths factor constants48 in_parts in_box between log_answer
    log-answer is_zero digits run next select exp_select log_select cut_back step_table step_logs reciprocal_table reciprocal_logs cell_of is_cell step
    quotient quadrant spelling quarters turned turns_back turn_back binary_exponent_of bit_length bits bits_from scaled reduced column row
    reciprocal_at reciprocal nearest floorᵍ ιᵍ negᵍ ◌+ᵍ◌ ◌*ᵍ◌
cases_hold = none_failing 1 cases refl
