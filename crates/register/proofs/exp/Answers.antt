-- `register::exp` meets its contract.
use mathlib.Core.Path.{sym, ◌∙◌, ap}
use native.Mathlib.Omega.{arith}
use Rattle.std.specs.Prelude.{Ok}
use Rattle.std.proofs.lemmas.Result.{err_from_is_err_and}
use Rattle.word.proofs.Fits.{back}
use Rattle.point.proofs.InLimits.{steps_cast}
use Rattle.exponential.proofs.Begun.{begun_accepted}
use Rattle.register.proofs.Whole.{begun_fits_48, begun_gives_48, refused_gives_48, meets}
use Rattle.register.proofs.exp.Goals as goal

pub returns : goal.returns
returns c =
    let a = c.args in
    let begins = sym (rw (back c.ranges.n) at c.in_ok-f.ensures) in
    let all = meets a.n a.exponent.x a.exponent.y a.start.x a.start.y
    (ap Ok (rw (back c.ranges.n) at c.take.ensures)
    ∙ begun_gives_48 a.n a.exponent.x a.exponent.y a.start.x a.start.y begins) in
    record { register = all.0; answer = all.1.0; close = all.1.1.0; remainder = all.1.1.1 }

pub returns-in_err-f : goal.returns-in_err-f
returns-in_err-f c =
    let a = c.args in
    let p = err_from_is_err_and c.from_residual.result c.from_residual.ensures.1 in
    let begins = sym (rw (back c.ranges.n) at c.in_err-f.ensures) in
    let all = meets a.n a.exponent.x a.exponent.y a.start.x a.start.y
    (refused_gives_48 a.n a.exponent.x a.exponent.y a.start.x a.start.y begins) in
    rw (p.1, p.2) (record { register = all.0; answer = all.1.0; close = all.1.1.0; remainder = all.1.1.1 })

pub overflow_cast-n : goal.overflow_cast-n
overflow_cast-n c =
    let a = c.args in
    let begins = sym (rw (back c.ranges.n) at c.in_ok-f.ensures) in
    rw (back c.ranges.n) (steps_cast 48 1 a.n (omega arith) (begun_accepted a.n a.exponent.x a.exponent.y a.start.x a.start.y begins).steps)

pub take-requires : goal.take-requires
take-requires c =
    let a = c.args in
    let begins = sym (rw (back c.ranges.n) at c.in_ok-f.ensures) in
    rw (back c.ranges.n) (begun_fits_48 a.n a.exponent.x a.exponent.y a.start.x a.start.y begins)
