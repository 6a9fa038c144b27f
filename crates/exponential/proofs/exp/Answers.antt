-- `exponential::exp` meets its contract.
use mathlib.Core.Path.{◌≡◌, sym, ◌∙◌, subst}
use native.Mathlib.Omega.{arith}
use Rattle.std.specs.Prelude.{Ok}
use Rattle.std.proofs.lemmas.Result.{err_from_is_err_and}
use Rattle.word.proofs.Fits.{back}
use Rattle.point.proofs.InLimits.{steps_cast}
use Rattle.answer.specs.Remainder.{RemainderBelow}
use Rattle.exponential.specs.Answer.{exp_beginning, Close}
use Rattle.exponential.proofs.Begun.{BegunFits, ending, begun_accepted, begun_fits, begun_ends, begun_refused}
use Rattle.exponential.proofs.Close.{settled}
use Rattle.exponential.proofs.exp.Goals as goal
use Rattle.exponential.proofs.exp.Goals.{In_ok-f}

-- what was begun is figures
begins : (c : In_ok-f) → exp_beginning c.args.n c.args.exponent.x c.args.exponent.y c.args.start.x c.args.start.y ≡ Ok c.in_ok-f.f
begins c = sym (rw (back c.ranges.n) at c.in_ok-f.ensures)

pub returns-in_err-f : goal.returns-in_err-f
returns-in_err-f c =
    let a = c.args in
    let p = err_from_is_err_and c.from_residual.result c.from_residual.ensures.1 in
    let b = sym (rw (back c.ranges.n) at c.in_err-f.ensures) in
    let all = settled a.n a.exponent.x a.exponent.y a.start.x a.start.y
    (begun_refused a.n a.exponent.x a.exponent.y a.start.x a.start.y b) in
    rw (p.1, p.2) (record { answer = all.0; close = all.1.0; remainder = all.1.1 })

pub overflow_cast-n : goal.overflow_cast-n
overflow_cast-n c =
    let a = c.args in
    let b = begins (goal.at.overflow_cast-n c).In_ok-f in
    rw (back c.ranges.n) (steps_cast 48 1 a.n (omega arith) (begun_accepted a.n a.exponent.x a.exponent.y a.start.x a.start.y b).steps)

pub run-end-requires : goal.run-end-requires
run-end-requires c =
    let a = c.args in
    let b = begins (goal.at.run-end-requires c).In_ok-f in
    simp (back, c.ranges.n) (begun_fits a.n a.exponent.x a.exponent.y a.start.x a.start.y b).steps

pub returns : goal.returns
returns c =
    let a = c.args in
    let b = begins (goal.at.returns c).In_ok-f in
    let f : BegunFits a.n c.in_ok-f.f = begun_fits a.n a.exponent.x a.exponent.y a.start.x a.start.y b in
    let x = c.run-end.result in
    let all = settled a.n a.exponent.x a.exponent.y a.start.x a.start.y
    (begun_ends a.n a.exponent.x a.exponent.y a.start.x a.start.y b (simp (back, c.ranges.n) at c.run-end.ensures)) in
    let made : _ ≡ Ok (ending c.in_ok-f.f x) = λ i. Ok (record {
      value = x.point;
      binary_exponent = back f.exponent i;
      quadrant = back f.quadrant i;
      error_bound = back f.bound i;
      remainder = x.sum;
    }) in
    record {
      answer = made ∙ all.0;
      close = subst (Close a.n a.exponent.x a.exponent.y a.start.x a.start.y) (sym made) all.1.0;
      remainder = subst (RemainderBelow 48 a.n) (sym made) all.1.1;
    }
