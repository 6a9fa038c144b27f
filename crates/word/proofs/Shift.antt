-- Shifts: `>>` is the floor of the quotient and grows nothing, a constant shifted right is a smaller constant, a ceiling is a floor below
-- zero, and `<<` multiplies.
use mathlib.Core.Path.{◌≡◌, refl, ◌∙◌, ap, subst}
use mathlib.Core.List.{[], ◌∷◌}
use Prim.Native.Nat.{ℕ, zero, suc, ◌+◌, ◌*◌, ◌-◌, ◌%◌, ◌^◌, ◌≤◌, ◌<◌, zero-le, suc-le-suc}
use native.Mathlib.Omega.{arith}
use native.Mathlib.Nat.{div-le_self, mod-eq_of_lt, mul-pos, le-mul_of_pos_right, mul-add-mod_self_left}
use lib.Dec.{T}
use lib.Pow.{suc_ones}
use lib.IntN.{ℤ, pos, negsuc, neg_ℤ, nat_abs, ◌*ℤ◌}
use lib.Signed.{shr_z, mag_shr, lt_z}
use mir.Syntax.{w64}
use mir.Val.{SFits, to_z, of_z}
use mir.ValLaws.{to_z_pos, to_z-neg}
use Rattle.algebra.specs.Gauss.{two}
use Rattle.algebra.specs.Rounding.{ceiling}
use Rattle.algebra.specs.Size.{abs, Size}
use Rattle.algebra.proofs.Integer.{ℤR}
use Rattle.algebra.proofs.Reify.{ring!, reify}
use Rattle.algebra.proofs.Order.{⩽_trans, pos_mono}
use Rattle.algebra.proofs.Linear.{lin, ◌&◌, ◌&≡◌, none}
use Rattle.algebra.proofs.Power.{two≥1, two_pos, two_whole}
use Rattle.algebra.proofs.Floor.{floor_unique}
use Rattle.algebra.proofs.Parts.{size_abs, abs_size, size_mul}
use Rattle.word.proofs.Fits.{back, sfits_size}

-- ---- right
nat_abs_shift : (x : ℤ) (m : ℕ) → nat_abs (shr_z x m) ≤ nat_abs x
nat_abs_shift (pos a) m = div-le_self a m
nat_abs_shift (negsuc a) m = omega (arith, div-le_self a m)

pub size_shift : {x b : ℤ} (m : ℕ) → Size x b → Size (shr_z x m) b
unfolding abs
size_shift {x} m h = abs_size (⩽_trans (pos_mono (nat_abs_shift x m)) (size_abs h))

pub sfits_shift : {x : ℤ} (m : ℕ) → SFits w64 x → SFits w64 (shr_z x m)
sfits_shift {x} m h = record { sfits = omega (arith, mag_shr x m, h.sfits) }

-- c·2^m shifted right by n is c·2^(m−n), also below zero
pub shift_constant : (c : ℤ) (m n : ℕ) → n ≤ m → shr_z (c *ℤ two m) (2 ^ n) ≡ c *ℤ two (m - n)
shift_constant c m n h = floor_unique (2 ^ n) (two_pos n) (c *ℤ two m) (c *ℤ two (m - n))
    (lin (c ∷ two n ∷ two m ∷ two (m - n) ∷ []) (whole &≡ none) (search reify depth 20) tt)
    (lin (c ∷ two n ∷ two m ∷ two (m - n) ∷ []) (whole &≡ two≥1 n & none) (search reify depth 20) tt)
  where
    whole : c *ℤ (two n *ℤ two (m - n)) ≡ c *ℤ two m
    whole = ap (λ u. c *ℤ u) (two_whole n m h)

-- the same as the machine reads it back
pub shift_constant_word : (c : ℤ) (m n : ℕ) → n ≤ m → SFits w64 (c *ℤ two m) →
    to_z w64 (of_z w64 (shr_z (c *ℤ two m) (2 ^ n))) ≡ c *ℤ two (m - n)
shift_constant_word c m n h f = back (sfits_shift (2 ^ n) f) ∙ shift_constant c m n h

-- a quotient rounded up is `-((c * m) >> n)` with c below zero
pub record CeilingFits (c m b : ℤ) (n : ℕ) : Type 0 where
  pub given : SFits w64 m
  pub product : SFits w64 (c *ℤ m)
  pub down : SFits w64 (shr_z (c *ℤ m) (2 ^ n))
  pub size : Size (shr_z (c *ℤ m) (2 ^ n)) b
  pub made : neg_ℤ (shr_z (c *ℤ m) (2 ^ n)) ≡ ceiling (neg_ℤ c *ℤ m) (2 ^ n)

pub ceiling_fits : {c m a b : ℤ} (n : ℕ) → Size c a → Size m b → T (lt_z b (two 63)) → T (lt_z (a *ℤ b) (two 63)) → CeilingFits c m (a *ℤ b) n
unfolding ceiling
ceiling_fits {c} {m} n p q s t = record {
  given = sfits_size q s;
  product = sfits_size (size_mul p q) t;
  down = sfits_size (size_shift (2 ^ n) (size_mul p q)) t;
  size = size_shift (2 ^ n) (size_mul p q);
  made = ap (λ u. neg_ℤ (shr_z u (2 ^ n))) twice;
}
  where
    twice : c *ℤ m ≡ neg_ℤ (neg_ℤ c *ℤ m)
    twice = ring! ℤR (c ∷ m ∷ []) (search reify depth 20) tt

-- ---- left: the code's `x << k` wraps, so it asks nothing; where the product fits, it is the product
-- (M − a − 1)·(p + 1) = M·p + (M − j − 1), where (a + 1)·(p + 1) = j + 1
wrap : (M d a p j : ℕ) → d + suc a ≡ M → suc a * suc p ≡ suc j → suc j ≤ M → d * suc p ≡ M * p + (M - suc j)
wrap M d a p j h e l = omega (arith, ap (λ n. n * suc p) h)

pub shift_left : (x : ℤ) (k : ℕ) → SFits w64 (x *ℤ two k) → to_z w64 ((of_z w64 x * 2 ^ k) % 2 ^ 64) ≡ x *ℤ two k
shift_left (pos a) k f = ap (to_z w64) cut ∙ to_z_pos w64 (a * 2 ^ k) f.sfits
  where
    cut : (a * 2 ^ k) % 2 ^ 64 ≡ a * 2 ^ k
    cut = mod-eq_of_lt {m = 2 ^ 64} (omega (arith, f.sfits))
shift_left (negsuc a) k f = go (suc a * 2 ^ k) refl f
  where
    go : (p : ℕ) → suc a * 2 ^ k ≡ p → SFits w64 (neg_ℤ (pos p)) → to_z w64 (((2 ^ 64 - suc a) * 2 ^ k) % 2 ^ 64) ≡ neg_ℤ (pos p)
    go zero e g = absurd (none (mul-pos (suc-le-suc zero-le) (two_pos k)))
      where
        none : 0 < suc a * 2 ^ k → ⊥
        none h = omega arith
    go (suc j) e g = ap (to_z w64) cut ∙ to_z-neg w64 j g.sfits
      where
        least : suc a ≤ suc j
        least = subst (λ n. suc a ≤ n) e (le-mul_of_pos_right (suc a) (two_pos k))

        parts : (2 ^ 64 - suc a) * 2 ^ k ≡ 2 ^ 64 * (2 ^ k - 1) + (2 ^ 64 - suc j)
        parts = subst (λ P. (2 ^ 64 - suc a) * P ≡ 2 ^ 64 * (2 ^ k - 1) + (2 ^ 64 - suc j)) (suc_ones k)
            (wrap (2 ^ 64) (2 ^ 64 - suc a) a (2 ^ k - 1) j (omega (arith, g.sfits, least)) (ap (λ P. suc a * P) (suc_ones k) ∙ e)
            (omega (arith, g.sfits)))

        cut : ((2 ^ 64 - suc a) * 2 ^ k) % 2 ^ 64 ≡ 2 ^ 64 - suc j
        cut = ap (λ n. n % 2 ^ 64) parts
            ∙ (mul-add-mod_self_left (2 ^ 64) (2 ^ k - 1) (2 ^ 64 - suc j) ∙ mod-eq_of_lt {m = 2 ^ 64} (omega arith))
