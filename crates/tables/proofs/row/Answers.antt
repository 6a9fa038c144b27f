-- `tables::row` meets its contract: the look-up's, at the row's number.
use mathlib.Core.Path.{◌≡◌, sym, ◌∙◌}
use mathlib.Core.Bool.{false}
use mathlib.Core.Logic.{inr}
use native.Mathlib.Omega.{arith}
use lib.IntN.{pos, negsuc}
use borrow.Author.Rules.{rules}
use Rattle.word.specs.Compare.{between}
use Rattle.word.proofs.Fits.{back}
use Rattle.point.specs.Digit.{Trit}
use Rattle.table_numbers.proofs.RowLaws.{no_step}
use Rattle.table_numbers.proofs.DigitPlaces.{place_lt, next_fits, place_word, trit_of}
use Rattle.table_numbers.proofs.Promised.{row_kept, no_digit, row_at_lem}
use Rattle.tables.proofs.row.Goals as goal
use Rattle.tables.proofs.row.Goals.{Else-not-is_between}

digit : (c : Else-not-is_between) → Trit c.before.before.before.args.dx
digit c = let s = c.before.before.before in
    trit_of s.args.dx (simp (back, s.ranges.dx) at (sym c.before.is_between.ensures ∙ c.if-not-is_between.false))

pub returns-then-n-gt40 : goal.returns-then-n-gt40
returns-then-n-gt40 c =
    let both = row_kept c.args.n c.args.dx (no_step c.args.n c.args.dx (inr (search rules))) in
    record { value = both.0; promise = both.1 }

pub returns-then-not-is_between : goal.returns-then-not-is_between
returns-then-not-is_between c =
    let s = c.before.before.before in
    let t : between (negsuc 0) (pos 1) s.args.dx ≡ false = simp (back, s.ranges.dx) at
    (sym c.before.is_between.ensures ∙ c.if-not-is_between.true) in
    let both = row_kept s.args.n s.args.dx (no_digit s.args.n s.args.dx t) in
    record { value = both.0; promise = both.1 }

pub overflow_add-dx : goal.overflow_add-dx
overflow_add-dx c = next_fits (digit c)

pub overflow_cast-dx : goal.overflow_cast-dx
overflow_cast-dx c = rw (place_word (digit c)) (tt, record { fits = omega (arith, place_lt (digit c)) })

pub returns : goal.returns
returns c =
    let both = (let d = digit c.before in
    let s = c.before.before.before.before in
    row_kept s.args.n s.args.dx (simp (place_word d) at c.row_at.ensures ∙ row_at_lem s.args.n d)) in
    record { value = both.0; promise = both.1 }
