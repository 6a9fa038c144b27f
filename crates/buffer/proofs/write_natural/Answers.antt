-- `buffer::write_natural` meets its contract: one digit is a byte, and more of them end where their count says.
use mathlib.Core.Path.{ap}
use native.Mathlib.Omega.{arith}
use lib.ListN.{length}
use Rattle.buffer.proofs.Written.{digits_one, natural_is}
use Rattle.buffer.proofs.Put.{one, placed}
use Rattle.buffer.proofs.write_natural.Goals as goal

pub bounds-out-at : goal.bounds-out-at
bounds-out-at c = let e = ap length (digits_one c.args.v c.if-v-lt10.true) in omega (arith, e)

pub returns-then-v-lt10 : goal.returns-then-v-lt10
returns-then-v-lt10 c = rw (digits_one c.args.v c.if-v-lt10.true) (one _ _ _)

pub overflow_add-end : goal.overflow_add-end
overflow_add-end c = omega arith

pub write_digits-requires : goal.write_digits-requires
write_digits-requires c = let e = ap length (natural_is c.args.v c.ranges.v.fits) in (omega arith, omega arith)

pub returns : goal.returns
returns c =
    let e = natural_is c.args.v c.ranges.v.fits in
    placed c.write_digits.result (omega arith) (omega (arith, ap length e)) (omega arith) (rw e c.write_digits.ensures.written) c.write_digits.ensures.before
