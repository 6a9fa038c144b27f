-- `exponential::error_bound` meets its contract.
use mathlib.Core.Path.{◌≡◌, sym, ◌∙◌, ap, subst}
use Prim.Native.Nat.{ℕ, ◌^◌, ◌≤◌}
use native.Mathlib.Omega.{arith}
use lib.IntN.{ℤ, pos, negsuc, ◌-ℤ◌, ◌*ℤ◌}
use lib.Signed.{shr_z}
use mir.Syntax.{w64}
use mir.Val.{to_z, of_z}
use Rattle.word.proofs.Fits.{back, word_pos}
use Rattle.point.specs.Point.{gauss}
use Rattle.exponential.specs.Answer.{rounding_share}
use Rattle.exponential.proofs.Fits.{BoundFits, bound_fits, bound_is}
use Rattle.exponential.proofs.error_bound.Goals as goal
use Rattle.exponential.proofs.error_bound.Goals.{After-larger_part-m}

fits : (c : After-larger_part-m) → BoundFits c.before.args.n c.larger_part-m.result
fits c = subst (λ m. BoundFits c.before.args.n m) (sym c.larger_part-m.ensures)
    (bound_fits 48 c.before.args.n (omega arith) c.before.requires.n_bound c.before.requires.parts)

-- ---- the contract
-- the code's words, read back
abbrev made : ℕ → ℤ → ℤ
made n m = to_z w64 (of_z w64 (to_z w64 (of_z w64 (rounding_share *ℤ to_z w64 n))
    -ℤ to_z w64 (of_z w64 (shr_z (to_z w64 (of_z w64 (negsuc 7 *ℤ to_z w64 (of_z w64 m)))) (2 ^ n)))))

made_is : (n : ℕ) (m : ℤ) → n ≤ 40 → BoundFits n m → made n m ≡ rounding_share *ℤ pos n -ℤ shr_z (negsuc 7 *ℤ m) (2 ^ n)
made_is n m h f = simp (back, word_pos n (omega arith), f.up.given, f.up.product, f.up.down, f.share, f.bound)

pub returns : goal.returns
returns c =
    let s = c.before in
    let n = s.args.n in
    made_is n c.larger_part-m.result s.requires.n_bound (fits c)
    ∙ (ap (λ m. rounding_share *ℤ pos n -ℤ shr_z (negsuc 7 *ℤ m) (2 ^ n)) c.larger_part-m.ensures
    ∙ bound_is n (gauss s.args.s) (bound_fits 48 n (omega arith) s.requires.n_bound s.requires.parts))

-- ---- what the operations ask

pub overflow_mul-down : goal.overflow_mul-down
overflow_mul-down c = let f = fits c in simp (back, f.up.given) f.up.product

pub overflow_mul-share : goal.overflow_mul-share
overflow_mul-share c = rw (word_pos c.before.args.n (omega arith)) (fits c).share

pub overflow_sub-result : goal.overflow_sub-result
overflow_sub-result c = let f = fits c in
    simp (back, word_pos c.before.args.n (omega arith), f.up.given, f.up.product, f.up.down, f.share) f.bound
