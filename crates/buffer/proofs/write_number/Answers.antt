-- `buffer::write_number` meets its contract.
use mathlib.Core.Path.{ap}
use native.Mathlib.Omega.{arith}
use lib.ListN.{length, length-set}
use Rattle.word.proofs.Fits.{back}
use Rattle.buffer.proofs.Written.{show_minus, show_plus}
use Rattle.buffer.proofs.Put.{then, one}
use Rattle.buffer.proofs.write_number.Goals as goal

pub write_natural-requires : goal.write_natural-requires
write_natural-requires c =
    let e = ap length (show_minus c.args.z (simp (back, c.ranges.z) at c.if-z-lt0.true)) in
    rw (simp (back, c.ranges.z) at c.unsigned_abs-v.ensures.value) (simp length-set (omega (arith, e)))

pub returns-then-z-lt0 : goal.returns-then-z-lt0
returns-then-z-lt0 c =
    rw (show_minus c.args.z (simp (back, c.ranges.z) at c.if-z-lt0.true))
    (then (one _ _ _) (rw (simp (back, c.ranges.z) at c.unsigned_abs-v.ensures.value) at c.write_natural.ensures))

pub returns : goal.returns
returns c =
    rw (show_plus c.args.z (simp (back, c.ranges.z) at c.if-z-lt0.false))
    (rw (simp (back, c.ranges.z) at c.unsigned_abs-v.ensures.value) at c.write_natural-2.ensures)
