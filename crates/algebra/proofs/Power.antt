-- Powers of naturals, and powers of two among the integers.
use mathlib.Core.Path.{◌≡◌, sym, ◌∙◌, ap, subst}
use mathlib.Core.Logic.{◌⊎◌, inl, inr, ⊎_elim}
use Prim.Native.Nat.{ℕ, zero, suc, ◌+◌, ◌*◌, ◌-◌, ◌^◌, ◌≤◌, ◌<◌, zero-le, suc-le-suc}
use native.Mathlib.Nat.{mul-pos, pow-zero, pow-suc, pow-succ', pow-le-pow_right}
use native.Mathlib.Omega.{arith}
use lib.Dec.{lit<}
use lib.Pow.{pow-add}
use lib.IntN.{pos, ◌*ℤ◌}
use Rattle.algebra.specs.Order.{◌⩽◌}
use Rattle.algebra.specs.Gauss.{two}
use Rattle.algebra.proofs.Order.{pos_mono}

pub le_or_lt : (a b : ℕ) → (a ≤ b) ⊎ (b < a)
le_or_lt zero b = inl zero-le
le_or_lt (suc a) zero = inr (suc-le-suc zero-le)
le_or_lt (suc a) (suc b) = ⊎_elim (λ p. inl (suc-le-suc p)) (λ q. inr (suc-le-suc q)) (le_or_lt a b)

pub pow_pos : (m : ℕ) → 0 < m → (n : ℕ) → 0 < m ^ n
pow_pos m h zero = omega (arith, pow-zero m)
pow_pos m h (suc n) = subst (λ t. 0 < t) (sym (pow-suc m n)) (mul-pos (pow_pos m h n) h)

-- ---- 2^n in ℕ
pub two_pos : (n : ℕ) → 0 < 2 ^ n
two_pos = pow_pos 2 (lit< tt)

pub below_two : (n : ℕ) → n < 2 ^ n
below_two zero = omega (arith, pow-zero 2)
below_two (suc n) = omega (arith, pow-suc 2 n, below_two n)

-- 2^m < 2^(n+1) gives m ≤ n
pub two_reflects : (m n : ℕ) → 2 ^ m < 2 ^ suc n → m ≤ n
two_reflects m n h = ⊎_elim (λ p. p) (λ q. absurd (over q)) (le_or_lt m n)
  where
    over : n < m → ⊥
    over q = omega (arith, pow-le-pow_right {n = 2} (lit< tt) {i = suc n} {j = m} q)

-- 2^n = 2^k · 2^(n−k)
pub two_split : (k n : ℕ) → k ≤ n → 2 ^ n ≡ 2 ^ k * 2 ^ (n - k)
two_split k n h = ap (λ i. 2 ^ i) whole ∙ pow-add 2 k (n - k)
  where
    whole : n ≡ k + (n - k)
    whole = omega arith

-- ---- 2^n in ℤ and in 𝔾
pub two≥1 : (n : ℕ) → pos 1 ⩽ two n
two≥1 n = pos_mono (two_pos n)

pub two_suc : (n : ℕ) → two (suc n) ≡ pos 2 *ℤ two n
two_suc n = ap pos (pow-succ' 2 n)

pub two_mul : (k n : ℕ) → two k *ℤ two n ≡ two (k + n)
two_mul k n = ap pos (sym (pow-add 2 k n))

pub two_mono : (k n : ℕ) → k ≤ n → two k ⩽ two n
two_mono k n h = pos_mono (pow-le-pow_right {n = 2} (lit< tt) {i = k} {j = n} h)

pub two_mul_le : (k n m : ℕ) → k + n ≤ m → two k *ℤ two n ⩽ two m
two_mul_le k n m h = subst (λ v. v ⩽ two m) (sym (two_mul k n)) (two_mono (k + n) m h)

-- 2^k · 2^(n−k) = 2^n
pub two_whole : (k n : ℕ) → k ≤ n → two k *ℤ two (n - k) ≡ two n
two_whole k n h = ap pos (sym (two_split k n h))

-- 2^k · 2^(n−k−m) = 2^(n−m)
pub two_part : (k n m : ℕ) → k + m ≤ n → two k *ℤ two (n - k - m) ≡ two (n - m)
two_part k n m h = two_mul k (n - k - m) ∙ ap two same
  where
    same : k + (n - k - m) ≡ n - m
    same = omega arith

-- 2^(n−k) = 2 · 2^(n−k−1)
pub two_halve : (n k : ℕ) → k < n → two (n - k) ≡ pos 2 *ℤ two (n - suc k)
two_halve n k h = ap two same ∙ two_suc (n - suc k)
  where
    same : n - k ≡ suc (n - suc k)
    same = omega arith
