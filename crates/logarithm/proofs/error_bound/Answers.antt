-- `logarithm::error_bound` meets its contract.
use mathlib.Core.Path.{◌∙◌, sym, subst}
use Prim.Native.Nat.{ℕ, ◌^◌}
use lib.Dec.{lit≤}
use lib.IntN.{ℤ, pos, negsuc, ◌-ℤ◌, ◌*ℤ◌}
use lib.Signed.{shr_z}
use mir.Syntax.{w64}
use mir.Val.{SFits}
use Rattle.algebra.proofs.Parts.{size_neg}
use Rattle.word.proofs.Fits.{back, zero_sub, sfits_size}
use Rattle.logarithm.specs.Code.{BoundPre}
use Rattle.logarithm.proofs.Fits.{bound_fits}
use Rattle.logarithm.proofs.error_bound.Goals as goal

pub overflow_mul-down : goal.overflow_mul-down
overflow_mul-down c = let f = bound_fits (lit≤ tt) c.requires in simp (back, f.given) f.product

-- 0 less the floor
whole : {n : ℕ} {m : ℤ} → BoundPre 48 n m → SFits w64 (pos 0 -ℤ shr_z (negsuc 2 *ℤ m) (2 ^ n))
whole {n} {m} p = subst (SFits w64) (sym (zero_sub (shr_z (negsuc 2 *ℤ m) (2 ^ n))))
    (sfits_size (size_neg (bound_fits (lit≤ tt) p).size) tt)

pub overflow_sub-result : goal.overflow_sub-result
overflow_sub-result c = let f = bound_fits (lit≤ tt) c.requires in simp (back, f.given, f.product, f.down) (whole c.requires)

pub returns : goal.returns
returns c =
    let f = bound_fits (lit≤ tt) c.requires in
    simp (back, f.given, f.product, f.down, whole c.requires) (zero_sub (shr_z (negsuc 2 *ℤ c.args.m) (2 ^ c.args.n)) ∙ f.made)
