-- What each limit says once its test holds.
use mathlib.Core.Path.{◌≡◌, refl}
use mathlib.Core.Bool.{true}
use Prim.Native.Nat.{ℕ, ◌+◌, ◌-◌, ◌≤◌}
use native.Mathlib.Omega.{arith}
use lib.Dec.{T}
use lib.IntN.{ℤ, pos, negsuc, nat_abs}
use lib.Signed.{non_neg}
use mir.Syntax.{w64}
use mir.Val.{Fits}
use Rattle.algebra.specs.Gauss.{𝔾, two}
use Rattle.algebra.specs.Order.{◌⩽◌}
use Rattle.algebra.specs.Size.{Parts}
use Rattle.algebra.proofs.Test.{both_true}
use Rattle.algebra.proofs.Order.{pos_inj_le}
use Rattle.word.proofs.Compare.{between_true, size_between}
use Rattle.point.specs.Limits.{in_steps, in_box, in_parts}

pub record Counts (F least : ℕ) (n : ℤ) : Type 0 where
  pub whole : n ≡ pos (nat_abs n)
  pub at_least : least ≤ nat_abs n
  pub at_most : nat_abs n ≤ F - 8

pub steps_say : (F least : ℕ) (n : ℤ) → in_steps F least n ≡ true → Counts F least n
unfolding in_steps
steps_say F least (pos n) e = let h = between_true e in record { whole = refl; at_least = pos_inj_le h.0; at_most = pos_inj_le h.1 }
steps_say F least (negsuc n) e = absurd (between_true e).0.le

-- so the code may cast it
pub steps_cast : (F least : ℕ) (n : ℤ) → F ≤ 48 → in_steps F least n ≡ true → T (non_neg n) × Fits w64 (nat_abs n)
unfolding in_steps
steps_cast F least (pos n) h e = (tt, record { fits = omega (arith, pos_inj_le (between_true e).1) })
steps_cast F least (negsuc n) h e = absurd (between_true e).0.le

pub record Inside (left right bottom top : ℤ) (z : 𝔾) : Type 0 where
  pub re_lo : left ⩽ z.re
  pub re_hi : z.re ⩽ right
  pub im_lo : bottom ⩽ z.im
  pub im_hi : z.im ⩽ top

pub box_says : {left right bottom top : ℤ} {z : 𝔾} → in_box left right bottom top z ≡ true → Inside left right bottom top z
unfolding in_box
box_says t = let p = both_true t in let x = between_true p.0 in let y = between_true p.1 in
    record { re_lo = x.0; re_hi = x.1; im_lo = y.0; im_hi = y.1 }

pub parts_say : (F : ℕ) (z : 𝔾) → in_parts F z ≡ true → Parts z (two (F + 10))
unfolding in_parts in_box
parts_say F z t = let p = both_true t in record { re = size_between p.0; im = size_between p.1 }
