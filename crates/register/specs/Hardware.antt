-- What the register's maker may rely on (02, E9). No contract has it: the law `in_hardware` states it of the register of every exponent, the
-- law `entry_bits` of every entry.
use Rattle.std.specs.Prelude.{◌≡◌, ℕ, ◌+◌, ◌-◌, ◌^◌, ℤ, pos, negsuc, neg_ℤ}
use Rattle.std.specs.Int.Signed.{shr_z}
use Rattle.algebra.specs.Gauss.{𝔾, gi, two}
use Rattle.algebra.specs.Order.{◌⩽◌, ◌⋖◌}
use Rattle.iteration.specs.Select.{cut}
use Rattle.register.specs.Register.{register_select}

-- ---- the cut digits of 000, "cutting by floor" (01, EXP)
-- 2^n·E_n, its real part cut "after its 3rd fractional digit" and its imaginary part "after its 4th": whole eighths and sixteenths
abbrev pub leading : ℕ → 𝔾 → 𝔾
leading F r = gi (shr_z r.re (2 ^ (F - 3))) (shr_z r.im (2 ^ (F - 4)))

-- dx is −1 to −5/8, 0 from −1/2 to 1/4, 1 from 3/8 on; dy is −1 to −13/16, 0 from −3/4 to 3/4, 1 from 13/16 on
unfoldable pub cut_select : 𝔾 → 𝔾
cut_select c = gi (cut (negsuc 3) (pos 3) c.re) (cut (negsuc 11) (pos 13) c.im)

-- ---- a number of b bits, the sign counted
pub record Bits (b : ℕ) (x : ℤ) : Type 0 where
  pub least : neg_ℤ (two (b - 1)) ⩽ x
  pub most : x ⋖ two (b - 1)

-- ---- before each step and after the last, the register being r
pub record InHardware (F : ℕ) (r : 𝔾) : Type 0 where
  pub digit : cut_select (leading F r) ≡ register_select F r
  pub leading_re : Bits 5 (leading F r).re
  pub leading_im : Bits 6 (leading F r).im
  pub register_re : Bits (F + 2) r.re
  pub register_im : Bits (F + 2) r.im

-- ---- a scaled entry z
pub record EntryBits (F : ℕ) (z : 𝔾) : Type 0 where
  pub re : Bits (F + 3) z.re
  pub im : Bits (F + 3) z.im
