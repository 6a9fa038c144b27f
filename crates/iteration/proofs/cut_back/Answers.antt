-- `iteration::cut_back` meets its contract.
use mathlib.Core.Path.{◌≡◌, refl, sym, ◌∙◌}
use mathlib.Core.Bool.{true, false}
use lib.IntN.{neg_ℤ, ◌-ℤ◌}
use lib.Signed.{le_z}
use Rattle.word.proofs.Fits.{back}
use Rattle.iteration.specs.Select.{cut_back}
use Rattle.iteration.proofs.Fits.{back_fits}
use Rattle.iteration.proofs.Digits.{above_one, below_one}
use Rattle.iteration.proofs.cut_back.Goals as goal

pub returns-then-x-one : goal.returns-then-x-one
unfolding cut_back
returns-then-x-one c =
    let a = c.args in
    let below : le_z (a.x -ℤ a.one) (neg_ℤ a.t) ≡ true = sym (below_one a.t a.one a.x)
    ∙ simp (back, c.ranges.t, c.ranges.one, c.ranges.x, (back_fits c.requires).below) at c.if-x-one.true in
    rw below refl

pub returns-else-x-one : goal.returns-else-x-one
unfolding cut_back
returns-else-x-one c =
    let a = c.args in
    let below : le_z (a.x -ℤ a.one) (neg_ℤ a.t) ≡ false = sym (below_one a.t a.one a.x)
    ∙ simp (back, c.ranges.t, c.ranges.one, c.ranges.x, (back_fits c.requires).below) at c.if-x-one.false in
    let above : le_z a.t (a.x -ℤ a.one) ≡ false = sym (above_one a.t a.one a.x)
    ∙ simp (back, c.ranges.t, c.ranges.one, c.ranges.x, (back_fits c.requires).above) at c.if-one-t.false in
    rw (below, above) refl
