-- `exponential::begin` meets its contract.
use mathlib.Core.Path.{◌≡◌, sym, ◌∙◌, ap}
use native.Mathlib.Omega.{arith}
use lib.IntN.{pos, nat_abs}
use Rattle.std.specs.Prelude.{Ok}
use Rattle.std.proofs.lemmas.Result.{err_from_is_err_and}
use Rattle.word.proofs.Fits.{back, sfits_mag}
use Rattle.point.specs.Point.{gauss}
use Rattle.point.proofs.InLimits.{steps_cast, parts_say}
use Rattle.exponential.specs.declared.reduction.Reduced.{Reduced}
use Rattle.exponential.specs.Answer.{begun, figures_at, beginning, exp_beginning}
use Rattle.exponential.specs.Code.{Accepted}
use Rattle.exponential.proofs.Given.{reach_says}
use Rattle.exponential.proofs.Fits.{fits_48}
use Rattle.exponential.proofs.Close.{not_refused}
use Rattle.exponential.proofs.begin.Goals as goal
use Rattle.exponential.proofs.begin.Goals.{In_ok-test}

-- no test failed
accepted : (c : In_ok-test) → Accepted 48 c.args.n (gauss c.args.exponent) (gauss c.args.start)
accepted c = rw (back c.ranges.n) at c.in_ok-test.ensures

-- ---- the contract, first, so that a wrong body is refused for its answer
pub returns-in_err-test : goal.returns-in_err-test
unfolding exp_beginning beginning
returns-in_err-test c =
    let p = err_from_is_err_and c.from_residual.result c.from_residual.ensures.1 in
    rw (p.1, p.2) (sym ((rw (back c.ranges.n) at c.in_err-test.ensures) _))

pub returns : goal.returns
unfolding exp_beginning beginning
returns c =
    let a = c.args in
    let n = nat_abs a.n in
    let p = accepted (goal.at.returns c).In_ok-test in
    let f = fits_48 p c.reduce-given.ensures in
    let bound = back (sfits_mag c.error_bound-bound.result c.error_bound-bound.type_inv) ∙ (simp (back, c.ranges.n) at c.error_bound-bound.ensures) in
    let made : _ ≡ Ok (figures_at n c.reduce-given.result (begun c.reduce-given.result)) = λ i. Ok (record {
      value = c.reduce-given.result.start;
      binary_exponent = back f.doublings i;
      quadrant = pos 0;
      error_bound = bound i;
      remainder = c.reduce-given.result.exponent;
    }) in
    made ∙ (ap (λ (g : Reduced). Ok (figures_at n g (begun g))) c.reduce-given.ensures
    ∙ sym (not_refused 48 a.n (gauss a.exponent) (gauss a.start) p _))

-- ---- the needs
pub reduce-given-requires : goal.reduce-given-requires
reduce-given-requires c =
    let p = accepted (goal.at.reduce-given-requires c).In_ok-test in
    record { exponent_parts = reach_says 48 (gauss c.args.exponent) p.reach; start_parts = parts_say 48 (gauss c.args.start) p.start }

pub overflow_cast-n : goal.overflow_cast-n
overflow_cast-n c =
    let p = accepted (goal.at.overflow_cast-n c).In_ok-test in
    rw (back c.ranges.n) (steps_cast 48 1 c.args.n (omega arith) p.steps)

pub error_bound-bound-requires : goal.error_bound-bound-requires
error_bound-bound-requires c =
    let p = accepted (goal.at.error_bound-bound-requires c).In_ok-test in
    let f = fits_48 p c.reduce-given.ensures in
    simp (back, c.ranges.n) (record { n_bound = f.few; parts = f.start })
