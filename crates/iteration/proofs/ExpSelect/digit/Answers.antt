-- The digit of EXP meets its contract.
use mathlib.Core.Path.{◌≡◌, refl, ◌∙◌, ap}
use Prim.Native.Nat.{ℕ, ◌-◌, ◌/◌, ◌^◌, ◌≤◌}
use native.Mathlib.Omega.{arith}
use lib.Dec.{T}
use lib.IntN.{ℤ, pos, negsuc, ◌*ℤ◌}
use lib.Signed.{le_z}
use mir.Syntax.{w64}
use mir.Val.{SFits, to_z, of_z}
use Rattle.algebra.specs.Gauss.{two}
use borrow.Author.Rules.{rules}
use Rattle.word.proofs.Fits.{back}
use Rattle.iteration.specs.Select.{exp_select}
use Rattle.iteration.specs.Run.{select}
use Rattle.iteration.proofs.Fits.{sixteenth_word, times_fits, low_x_is, high_x_is, low_y_is}
use Rattle.iteration.proofs.ExpSelect.digit.Goals as goal

-- a 16th of 1/2^n in units, and so many of them, as the machine holds them
module _ (n : ℕ) (h : n ≤ 40) where
  abbrev unit : ℤ
  unit = to_z w64 (17592186044416 / 2 ^ n)

  unit_is : unit ≡ two (48 - 4 - n)
  unit_is = sixteenth_word 48 n (omega arith) (omega arith)

  module _ (c : ℤ) (least : T (le_z (negsuc 12) c)) (most : T (le_z c (pos 13))) where
    fits : SFits w64 (c *ℤ unit)
    fits = rw unit_is (times_fits 48 n (omega arith) (omega arith) c (48 - 4 - n)
        (record { lo = record { le = least }; hi = record { le = most } }) (omega arith))

    held : {z : ℤ} → c *ℤ two (48 - 4 - n) ≡ z → to_z w64 (of_z w64 (c *ℤ unit)) ≡ z
    held e = back fits ∙ (ap (λ u. c *ℤ u) unit_is ∙ e)

pub returns : goal.returns
unfolding select exp_select
returns c =
    let n = c.args.n in
    let e = c.args.s.sum in
    let x : SFits w64 e.x = search rules in
    let y : SFits w64 e.y = search rules in
    let dx : SFits w64 c.cut.result = search rules in
    let dy : SFits w64 c.cut-2.result = search rules in
    let low_x = held n c.requires (negsuc 7) tt tt (low_x_is 48 n (omega arith) (omega arith)) in
    let high_x = held n c.requires (pos 6) tt tt (high_x_is 48 n (omega arith) (omega arith)) in
    let low_y = held n c.requires (negsuc 11) tt tt (low_y_is 48 n (omega arith) (omega arith)) in
    let high_y = held n c.requires (pos 13) tt tt refl in
    let re = simp (back, x, low_x, high_x) at c.cut.ensures in
    let im = simp (back, y, low_y, high_y) at c.cut-2.ensures in
    λ i. record { dx = (back dx ∙ re) i; dy = (back dy ∙ im) i }
