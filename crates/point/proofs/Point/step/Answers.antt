-- `point::Point::step` meets its contract.
use borrow.Author.Rules.{rules}
use Rattle.word.proofs.Fits.{back}
use Rattle.point.specs.Step.{step}
use Rattle.point.proofs.Fits.{step_fits}
use Rattle.point.proofs.Point.step.Goals as goal

pub returns : goal.returns
unfolding step
returns c =
    let f = step_fits c.args.n c.requires.digit c.requires.parts in
    simp (
      back,
      c.rounded.ensures,
      c.rounded-2.ensures,
      f.x,
      f.y,
      f.dx,
      f.dy,
      f.dx_x,
      f.dy_y,
      f.dx_y,
      f.dy_x,
      f.re,
      f.im,
      f.quotient_re,
      f.quotient_im,
      f.new_x,
      f.new_y,
    )

-- ---- what the operations ask
pub overflow_sub-re : goal.overflow_sub-re
overflow_sub-re c = let f = step_fits c.args.n c.requires.digit c.requires.parts in search rules

pub rounded-requires-clause-size : goal.rounded-requires-clause-size
rounded-requires-clause-size c = let f = step_fits c.args.n c.requires.digit c.requires.parts in
    simp (back, f.x, f.y, f.dx, f.dy, f.dx_x, f.dy_y, f.re) f.size_re

pub overflow_add-new_x : goal.overflow_add-new_x
overflow_add-new_x c = let f = step_fits c.args.n c.requires.digit c.requires.parts in
    simp (back, c.rounded.ensures, f.x, f.y, f.dx, f.dy, f.dx_x, f.dy_y, f.re, f.quotient_re) f.new_x

pub overflow_mul-im : goal.overflow_mul-im
overflow_mul-im c = let f = step_fits c.args.n c.requires.digit c.requires.parts in search rules

pub overflow_mul-im-2 : goal.overflow_mul-im-2
overflow_mul-im-2 c = let f = step_fits c.args.n c.requires.digit c.requires.parts in search rules

pub overflow_add-im : goal.overflow_add-im
overflow_add-im c = let f = step_fits c.args.n c.requires.digit c.requires.parts in search rules

pub rounded-requires-2-clause-size : goal.rounded-requires-2-clause-size
rounded-requires-2-clause-size c = let f = step_fits c.args.n c.requires.digit c.requires.parts in
    simp (back, f.x, f.y, f.dx, f.dy, f.dx_y, f.dy_x, f.im) f.size_im

pub overflow_add-new_y : goal.overflow_add-new_y
overflow_add-new_y c = let f = step_fits c.args.n c.requires.digit c.requires.parts in
    simp (back, c.rounded-2.ensures, f.x, f.y, f.dx, f.dy, f.dx_y, f.dy_x, f.im, f.quotient_im) f.new_y
