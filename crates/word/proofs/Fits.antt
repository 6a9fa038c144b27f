-- Which whole numbers a signed 64-bit word holds, and that such a number is read back as it is.
use mathlib.Core.Path.{◌≡◌}
use mathlib.Core.List.{[], ◌∷◌}
use Prim.Native.Nat.{ℕ, zero, suc, ◌≤◌, ◌<◌, ◌^◌}
use native.Mathlib.Omega.{arith}
use lib.Dec.{T, lit<, leb→le, ltb→lt}
use lib.IntN.{ℤ, pos, negsuc, neg_ℤ, ◌-ℤ◌, +ℤ_idl}
use lib.Signed.{mag, lt_z, lt_z_yes}
use mir.Syntax.{w64}
use mir.Val.{SFits, to_z, of_z}
use mir.ValLaws.{to_z-of_z, to_z_pos}
use Rattle.algebra.specs.Order.{◌⩽◌, ◌⋖◌}
use Rattle.algebra.specs.Gauss.{two}
use Rattle.algebra.specs.Size.{Size}
use Rattle.algebra.proofs.Reify.{reify}
use Rattle.algebra.proofs.Linear.{lin, lin<, ◌&◌, ◌&<◌, none}

-- ---- the word of a number, read back
pub back : {x : ℤ} → SFits w64 x → to_z w64 (of_z w64 x) ≡ x
back {x} h = to_z-of_z w64 x h

-- an unsigned number cast to a signed one
pub word_pos : (n : ℕ) → n < 2 ^ 63 → to_z w64 n ≡ pos n
word_pos n h = to_z_pos w64 n h

-- a negation in code is 0 − x
pub zero_sub : (x : ℤ) → pos 0 -ℤ x ≡ neg_ℤ x
zero_sub x = +ℤ_idl (neg_ℤ x)

-- ---- a number fits exactly where −2^63 ≤ x < 2^63
pub sfits_range : {x : ℤ} → neg_ℤ (two 63) ⩽ x → x ⋖ two 63 → SFits w64 x
sfits_range {x = pos n} lo hi = record { sfits = ltb→lt n (2 ^ 63) hi.lt }
sfits_range {x = negsuc n} lo hi = record { sfits = omega (arith, leb→le n 9223372036854775807 lo.le) }

-- THE WAY from a bound of sizes to a need: at a bound that computes, as two 61 +ℤ two 61, the test is `tt`
pub sfits_size : {x b : ℤ} → Size x b → T (lt_z b (two 63)) → SFits w64 x
sfits_size {x} {b} h t = sfits_range
    (lin (x ∷ b ∷ two 63 ∷ []) (h.lo & lt_z_yes {a = b} {b = two 63} t &< none) (search reify depth 20) tt)
    (lin< (x ∷ b ∷ two 63 ∷ []) (h.hi & lt_z_yes {a = b} {b = two 63} t &< none) (search reify depth 20) tt)

-- ---- as a number is given
pub sfits_mag : (x : ℤ) → mag x < 2 ^ 63 → SFits w64 x
sfits_mag x h = record { sfits = h }

pub sfits_pos : {n : ℕ} → n < 2 ^ 63 → SFits w64 (pos n)
sfits_pos h = record { sfits = h }

pub sfits_neg : (n : ℕ) → n ≤ 2 ^ 63 → SFits w64 (neg_ℤ (pos n))
sfits_neg zero h = record { sfits = lit< tt }
sfits_neg (suc n) h = record { sfits = h }
