-- One factor c/m of the iteration, as algebra of plain numbers. o is the point that the iteration began with and S₀ the exponential of its
-- sum; p is the point and S the exponential of the sum after the factors whose product is Q/δ, and p', S' are those after one factor more.
-- The point is o·Q/δ but for the rounding, and S·Q/δ is S₀ but for the table. (P is the divisor of the exponentials, U units are one.)
use mathlib.Core.Path.{sym, ◌∙◌, ap, subst}
use mathlib.Core.List.{[], ◌∷◌}
use lib.IntN.{ℤ, pos, ◌+ℤ◌, ◌-ℤ◌, ◌*ℤ◌}
use Rattle.algebra.specs.Gauss.{𝔾, ιᵍ, negᵍ, ◌+ᵍ◌, ◌-ᵍ◌, ◌*ᵍ◌, N}
use Rattle.algebra.specs.Order.{◌⩽◌}
use Rattle.algebra.specs.Size.{Within, Parts}
use Rattle.algebra.proofs.Gauss.{𝔾R, N-mul, N-scale}
use Rattle.algebra.proofs.Reify.{ring!, reify, reifyᵍ}
use Rattle.algebra.proofs.Order.{⩽_trans, nonneg_mul, nonneg_pos, nonneg_sq, sub_nonneg}
use Rattle.algebra.proofs.Linear.{lin, ◌&◌, none}
use Rattle.algebra.proofs.Inequality.{nonneg, one_mul}
use Rattle.algebra.proofs.Within.{N-nonneg, within_add, within_sub, within_mul, within_weaken, within_scale, within_cancel}
use Rattle.algebra.proofs.Parts.{parts_within}

-- what |2·m·c| is at most, for c = m + d and a digit d; and |4·q²·Q/δ|, q = 2^n, for the product of the first n of these factors over m
abbrev pub factor_most : ℤ → ℤ
factor_most m = pos 2 *ℤ (m *ℤ m) +ℤ pos 2 *ℤ m +ℤ pos 1

abbrev pub product_most : ℤ → ℤ
product_most q = pos 11 *ℤ (q *ℤ q) -ℤ pos 11 *ℤ q +ℤ pos 4

-- ---- the rounding: h/2 units a step in each part, and k·n units in length after n steps. The room is for the growth of the old error
module _ (h k n m δ : ℤ) (c Q o p p' : 𝔾) (m≥1 : pos 1 ⩽ m) (δ≥0 : pos 0 ⩽ δ)
    (room : pos 198 *ℤ h *ℤ (m *ℤ m) +ℤ pos 140 *ℤ k *ℤ n *ℤ (pos 2 *ℤ m +ℤ pos 1) ⩽ pos 280 *ℤ k *ℤ (m *ℤ m))
    (size : Within (ιᵍ (pos 2 *ℤ m) *ᵍ c) (factor_most m))
    (step : Parts (ιᵍ (pos 2) *ᵍ (ιᵍ m *ᵍ p' -ᵍ c *ᵍ p)) (h *ℤ m))
    (old : Within (ιᵍ δ *ᵍ p -ᵍ Q *ᵍ o) (k *ℤ n *ℤ δ)) where
  pub rounding : Within (ιᵍ (m *ℤ δ) *ᵍ p' -ᵍ c *ᵍ Q *ᵍ o) (k *ℤ (n +ℤ pos 1) *ℤ (m *ℤ δ))
  rounding = within_cancel (pos 280 *ℤ m) (one_mul {a = pos 280} (record { le = tt }) m≥1)
      (subst (λ z. Within z (pos 280 *ℤ m *ℤ (k *ℤ (n +ℤ pos 1) *ℤ (m *ℤ δ))))
      (ring! 𝔾R (ιᵍ m ∷ ιᵍ δ ∷ c ∷ Q ∷ o ∷ p ∷ p' ∷ []) (search reifyᵍ depth 20) tt)
      (within_weaken (within_add (within_scale (pos 2 *ℤ m *ℤ δ) (nonneg_mul (nonneg_mul (nonneg_pos 2) (nonneg m≥1)) δ≥0)
      (parts_within step))
      (within_scale (pos 140) (nonneg_pos 140) (within_mul size old)))
      (lin (h ∷ k ∷ n ∷ m ∷ δ ∷ []) (nonneg_mul δ≥0 (sub_nonneg room) & none) (search reify depth 20) tt)))

-- ---- the length of the product: m = 2 q
module _ (q δ : ℤ) (c Q : 𝔾) (q≥1 : pos 1 ⩽ q) (δ≥0 : pos 0 ⩽ δ) where
  abbrev m : ℤ
  m = pos 2 *ℤ q

  pub longer : Within (ιᵍ (pos 2 *ℤ (pos 2 *ℤ q)) *ᵍ c) (factor_most (pos 2 *ℤ q)) →
      Within (ιᵍ (pos 4 *ℤ (q *ℤ q)) *ᵍ Q) (product_most q *ℤ δ) →
      Within (ιᵍ (pos 4 *ℤ (pos 2 *ℤ q *ℤ (pos 2 *ℤ q))) *ᵍ (c *ᵍ Q)) (product_most (pos 2 *ℤ q) *ℤ (pos 2 *ℤ q *ℤ δ))
  longer size old = within_cancel q q≥1 (subst (λ z. Within z (q *ℤ (product_most m *ℤ (m *ℤ δ))))
      (ring! 𝔾R (ιᵍ q ∷ c ∷ Q ∷ []) (search reifyᵍ depth 20) tt)
      (within_weaken (within_mul size old)
      (lin (q ∷ δ ∷ []) (nonneg_mul δ≥0 (nonneg_mul (sub_nonneg q≥1) (sub_nonneg q≥1)) & nonneg_mul δ≥0 (sub_nonneg q≥1) & none)
      (search reify depth 20) tt)))

-- ---- the table: 1/H of B a step, where |S₀| ≤ B and P ≤ B
-- a rule of one unit relative to c·P is one of 8/7 of a unit relative to x
ninths : (P : ℤ) (x c : 𝔾) → pos 8 *ℤ (N c *ℤ (P *ℤ P)) ⩽ pos 9 *ℤ N x +ℤ pos 72 *ℤ N (x -ᵍ c *ᵍ ιᵍ P)
unfolding ◌+ᵍ◌ ◌*ᵍ◌ negᵍ ιᵍ
ninths P x c = lin (x.re ∷ x.im ∷ c.re ∷ c.im ∷ P ∷ [])
    (nonneg_sq (pos 9 *ℤ x.re -ℤ pos 8 *ℤ (c.re *ℤ P)) & nonneg_sq (pos 9 *ℤ x.im -ℤ pos 8 *ℤ (c.im *ℤ P)) & none)
    (search reify depth 20) tt

relative : (U P : ℤ) (x c : 𝔾) → pos 9 ⩽ U → N (x -ᵍ c *ᵍ ιᵍ P) *ℤ (U *ℤ U) ⩽ N c *ℤ (P *ℤ P) →
    N (x -ᵍ c *ᵍ ιᵍ P) *ℤ (pos 7 *ℤ U *ℤ (pos 7 *ℤ U)) ⩽ pos 64 *ℤ N x
relative U P x c U≥9 rule = lin (U ∷ N x ∷ N (x -ᵍ c *ᵍ ιᵍ P) ∷ (N c *ℤ (P *ℤ P)) ∷ [])
    (rule & ninths P x c & nonneg_mul (N-nonneg (x -ᵍ c *ᵍ ιᵍ P)) (nonneg_mul (sub_nonneg U≥9) (sub_nonneg U≥9))
    & nonneg_mul (N-nonneg (x -ᵍ c *ᵍ ιᵍ P)) (sub_nonneg U≥9)
    & N-nonneg (x -ᵍ c *ᵍ ιᵍ P) & none) (search reify depth 20) tt

module _ (U W P B H m δ n : ℤ) (Q S S' S₀ c X : 𝔾) (U≥9 : pos 9 ⩽ U) (W≥1 : pos 1 ⩽ W) (P≥1 : pos 1 ⩽ P) (P≤B : P ⩽ B) (H≥0 : pos 0 ⩽ H)
    (m≥0 : pos 0 ⩽ m) (δ≥0 : pos 0 ⩽ δ)
    (room : pos 77 *ℤ U *ℤ H +ℤ pos 32 *ℤ W *ℤ (n +ℤ H) +ℤ pos 88 *ℤ H ⩽ pos 28 *ℤ U *ℤ W)
    (origin : Within S₀ B)
    (Q-size : Within (ιᵍ (pos 4) *ᵍ Q) (pos 11 *ℤ δ))
    (product : Within (ιᵍ W *ᵍ (S' *ᵍ X -ᵍ ιᵍ P *ᵍ S)) (P *ℤ P))
    (rule : N (ιᵍ m *ᵍ X -ᵍ c *ᵍ ιᵍ P) *ℤ (U *ℤ U) ⩽ N c *ℤ (P *ℤ P))
    (old : Within (ιᵍ H *ᵍ (Q *ᵍ S -ᵍ ιᵍ δ *ᵍ S₀)) (n *ℤ (δ *ℤ B))) where
  U≥1 : pos 1 ⩽ U
  U≥1 = lin (U ∷ []) (U≥9 & none) (search reify depth 20) tt

  P≥0 : pos 0 ⩽ P
  P≥0 = nonneg P≥1

  WP≥1 : pos 1 ⩽ W *ℤ P
  WP≥1 = one_mul W≥1 P≥1

  -- what the product law is off by
  off : Within (ιᵍ (pos 4) *ᵍ Q *ᵍ (ιᵍ W *ᵍ (S' *ᵍ X -ᵍ ιᵍ P *ᵍ S))) (pos 11 *ℤ δ *ℤ (P *ℤ B))
  off = within_weaken (within_mul Q-size product) (lin (δ ∷ P ∷ B ∷ []) (nonneg_mul (nonneg_mul δ≥0 P≥0) (sub_nonneg P≤B) & none)
      (search reify depth 20) tt)

  -- so 4 H W times S' X Q m is known, and by the rule 28 U H W times S' Q R, R being what the rule is off by
  Y : 𝔾
  Y = ιᵍ (pos 4 *ℤ (H *ℤ W)) *ᵍ (Q *ᵍ S')

  y : ℤ
  y = pos 4 *ℤ (W *ℤ P) *ℤ (n *ℤ (δ *ℤ B)) +ℤ pos 4 *ℤ (H *ℤ (δ *ℤ (W *ℤ P))) *ℤ B +ℤ H *ℤ (pos 11 *ℤ δ *ℤ (P *ℤ B))

  whole : Within (Y *ᵍ (ιᵍ m *ᵍ X)) (m *ℤ y)
  unfolding Y y
  whole = subst (λ z. Within z (m *ℤ y)) (ring! 𝔾R (ιᵍ H ∷ ιᵍ W ∷ ιᵍ P ∷ ιᵍ m ∷ ιᵍ δ ∷ Q ∷ S ∷ S' ∷ S₀ ∷ X ∷ [])
      (search reifyᵍ depth 20 fits 4000) tt)
      (within_scale m m≥0 (within_add (within_add
      (within_scale (pos 4 *ℤ (W *ℤ P)) (nonneg_mul (nonneg_pos 4) (nonneg WP≥1)) old)
      (within_scale (pos 4 *ℤ (H *ℤ (δ *ℤ (W *ℤ P)))) (nonneg_mul (nonneg_pos 4) (nonneg_mul H≥0 (nonneg_mul δ≥0 (nonneg WP≥1)))) origin))
      (within_scale H H≥0 off)))

  R : 𝔾
  R = ιᵍ m *ᵍ X -ᵍ c *ᵍ ιᵍ P

  share : Within (ιᵍ (pos 7 *ℤ U) *ᵍ (Y *ᵍ R)) (pos 8 *ℤ (m *ℤ y))
  unfolding R
  share = record {
    sign = nonneg_mul (nonneg_pos 8) whole.sign;
    size = subst (λ z. z ⩽ pos 8 *ℤ (m *ℤ y) *ℤ (pos 8 *ℤ (m *ℤ y)))
        (sym (N-scale (pos 7 *ℤ U) (Y *ᵍ R) ∙ ap (λ z. pos 7 *ℤ U *ℤ (pos 7 *ℤ U) *ℤ z) (N-mul Y R)))
        (lin (U ∷ N Y ∷ N R ∷ N (ιᵍ m *ᵍ X) ∷ (m *ℤ y) ∷ [])
        (nonneg_mul (N-nonneg Y) (sub_nonneg (relative U P (ιᵍ m *ᵍ X) c U≥9 rule)) & subst (λ z. z ⩽ m *ℤ y *ℤ (m *ℤ y))
        (N-mul Y (ιᵍ m *ᵍ X)) whole.size & none)
        (search reify depth 20) tt);
  }

  pub tables : Within (ιᵍ H *ᵍ (c *ᵍ Q *ᵍ S' -ᵍ ιᵍ (m *ℤ δ) *ᵍ S₀)) ((n +ℤ pos 1) *ℤ (m *ℤ δ *ℤ B))
  unfolding Y R y
  tables = within_cancel (pos 28 *ℤ (U *ℤ (W *ℤ P))) (one_mul {a = pos 28} (record { le = tt }) (one_mul U≥1 WP≥1))
      (subst (λ z. Within z (pos 28 *ℤ (U *ℤ (W *ℤ P)) *ℤ ((n +ℤ pos 1) *ℤ (m *ℤ δ *ℤ B))))
      (ring! 𝔾R (ιᵍ U ∷ ιᵍ W ∷ ιᵍ P ∷ ιᵍ H ∷ ιᵍ m ∷ ιᵍ δ ∷ Q ∷ S ∷ S' ∷ S₀ ∷ c ∷ X ∷ []) (search reifyᵍ depth 20 fits 4000) tt)
      (within_weaken (within_sub (within_add (within_scale (pos 28 *ℤ (U *ℤ (W *ℤ P)) *ℤ m)
      (nonneg_mul (nonneg_mul (nonneg_pos 28) (nonneg (one_mul U≥1 WP≥1))) m≥0) old)
      (within_scale (pos 7 *ℤ (U *ℤ H) *ℤ m) (nonneg_mul (nonneg_mul (nonneg_pos 7) (nonneg_mul (nonneg U≥1) H≥0)) m≥0) off)) share)
      (lin (U ∷ W ∷ P ∷ B ∷ H ∷ m ∷ δ ∷ n ∷ [])
      (nonneg_mul (nonneg_mul (nonneg_mul m≥0 δ≥0) (nonneg_mul P≥0 (⩽_trans P≥0 P≤B))) (sub_nonneg room) & none)
      (search reify depth 20 fits 4000) tt)))
