-- Inequalities that are used again and again: with negation, with products, with a positive factor left out, and of positive numbers.
use mathlib.Core.List.{[], ◌∷◌}
use mathlib.Core.Logic.{⊎_elim}
use lib.IntN.{ℤ, pos, neg_ℤ, ◌+ℤ◌, ◌*ℤ◌}
use Rattle.algebra.specs.Order.{◌⩽◌}
use Rattle.algebra.proofs.Reify.{reify}
use Rattle.algebra.proofs.Order.{nonneg_mul, sub_nonneg, le_or_gt}
use Rattle.algebra.proofs.Linear.{lin, lin_false, ◌&◌, none}

pub neg_mono : {a b : ℤ} → a ⩽ b → neg_ℤ b ⩽ neg_ℤ a
neg_mono {a} {b} h = lin (a ∷ b ∷ []) (h & none) (search reify depth 20) tt

-- a² ≤ b² gives a ≤ b, b not negative
pub sq_le : {a b : ℤ} → pos 0 ⩽ b → a *ℤ a ⩽ b *ℤ b → a ⩽ b
sq_le {a} {b} h k = ⊎_elim (λ p. p)
    (λ p. absurd (lin_false (a ∷ b ∷ []) (h & k & p & nonneg_mul (sub_nonneg p) (sub_nonneg p) & nonneg_mul (sub_nonneg p) h & none)
    (search reify depth 20) tt))
    (le_or_gt a b)

-- a positive factor may be left out
pub le_cancel : {a b : ℤ} (c : ℤ) → pos 1 ⩽ c → c *ℤ a ⩽ c *ℤ b → a ⩽ b
le_cancel {a} {b} c h k = ⊎_elim (λ p. p)
    (λ p. absurd (lin_false (c ∷ a ∷ b ∷ []) (h & k & nonneg_mul (sub_nonneg h) (sub_nonneg p) & p & none) (search reify depth 20) tt))
    (le_or_gt a b)

-- c a < c (b + 1) gives a ≤ b
pub below_next : {a b : ℤ} (c : ℤ) → pos 1 ⩽ c → c *ℤ a +ℤ pos 1 ⩽ c *ℤ b +ℤ c → a ⩽ b
below_next {a} {b} c h k = ⊎_elim (λ p. p)
    (λ p. absurd (lin_false (c ∷ a ∷ b ∷ []) (k & nonneg_mul (sub_nonneg h) (sub_nonneg p) & p & none) (search reify depth 20) tt))
    (le_or_gt a b)

-- ---- positive numbers
pub nonneg : {a : ℤ} → pos 1 ⩽ a → pos 0 ⩽ a
nonneg {a} h = lin (a ∷ []) (h & none) (search reify depth 20) tt

pub one_mul : {a b : ℤ} → pos 1 ⩽ a → pos 1 ⩽ b → pos 1 ⩽ a *ℤ b
one_mul {a} {b} h g = lin (a ∷ b ∷ []) (nonneg_mul (sub_nonneg h) (sub_nonneg g) & h & g & none) (search reify depth 20) tt
