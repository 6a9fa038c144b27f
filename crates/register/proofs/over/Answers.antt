-- `register::over` meets its contract.
use Prim.Native.Nat.{◌^◌}
use mir.Syntax.{w64}
use mir.Val.{SFits}
use borrow.Author.Rules.{rules}
use Rattle.algebra.specs.Rounding.{floorᵍ}
use Rattle.word.proofs.Fits.{back}
use Rattle.word.proofs.Shift.{sfits_shift}
use Rattle.register.proofs.over.Goals as goal

pub returns : goal.returns
unfolding floorᵍ
returns c =
    let x : SFits w64 c.args.r.x = search rules in
    let y : SFits w64 c.args.r.y = search rules in
    simp (back, x, y, sfits_shift (2 ^ c.args.m) x, sfits_shift (2 ^ c.args.m) y)
