-- `step_array::array_row` meets its contract.
use mathlib.Core.Path.{◌≡◌, sym, ◌∙◌}
use mathlib.Core.Bool.{false}
use mathlib.Core.Logic.{inl, inr}
use native.Mathlib.Omega.{arith}
use lib.IntN.{pos, negsuc}
use borrow.Author.Rules.{rules}
use Rattle.word.specs.Compare.{between}
use Rattle.word.proofs.Fits.{back}
use Rattle.point.specs.Digit.{Trit}
use Rattle.table_numbers.proofs.RowLaws.{no_step}
use Rattle.table_numbers.proofs.DigitPlaces.{place_lt, next_fits, place_word, trit_of}
use Rattle.table_numbers.proofs.Promised.{row_kept, no_digit}
use Rattle.step_array.proofs.Matrices.{array_kept}
use Rattle.step_array.proofs.array_row.Goals as goal
use Rattle.step_array.proofs.array_row.Goals.{Else-not-is_between, then-n-lt1-via-then-n-lt1, then-n-lt1-via-else-n-lt1+then-n-gt40}

digit : (c : Else-not-is_between) → Trit c.args.dx
digit c = trit_of c.args.dx (simp (back, c.ranges.dx) at (sym c.is_between.ensures ∙ c.if-not-is_between.false))

pub returns-then-n-lt1 : goal.returns-then-n-lt1
returns-then-n-lt1 c =
    let a = c.args in
    let both = row_kept a.n a.dx (no_step a.n a.dx (elim c.then-n-lt1.branch [
      | then-n-lt1-via-then-n-lt1 w ↦ inl (search rules)
      | then-n-lt1-via-else-n-lt1+then-n-gt40 w ↦ inr (search rules)
    ])) in
    record { value = both.0; promise = both.1 }

pub returns-then-not-is_between : goal.returns-then-not-is_between
returns-then-not-is_between c =
    let a = c.args in
    let t : between (negsuc 0) (pos 1) a.dx ≡ false = simp (back, c.ranges.dx) at (sym c.is_between.ensures ∙ c.if-not-is_between.true) in
    let both = row_kept a.n a.dx (no_digit a.n a.dx t) in
    record { value = both.0; promise = both.1 }

pub overflow_add-dx : goal.overflow_add-dx
overflow_add-dx c = next_fits (digit c)

pub overflow_cast-dx : goal.overflow_cast-dx
overflow_cast-dx c = rw (place_word (digit c)) (tt, record { fits = omega (arith, place_lt (digit c)) })

pub row-requires : goal.row-requires
row-requires c = let d = digit c in rw (place_word d) (omega arith, place_lt d)

pub returns : goal.returns
returns c =
    let d = digit c.before in
    let both = array_kept c.args.n (search rules) d (simp (place_word d) at c.row.ensures) in
    record { value = both.0; promise = both.1 }
