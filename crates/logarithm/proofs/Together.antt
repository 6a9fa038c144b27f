-- Remainder, rounding and tables together, as algebra. With w/2^k − G = y, w/2^k · Q = 1 + ω and G-as-Q = 1 + η: y (1 + ω) = (w/2^k) (ω − η),
-- so no division is needed; ω is the remainder u of the last point, the rounding of the steps and that of the scale.
use mathlib.Core.Path.{◌≡◌, sym, ◌∙◌, ap, subst}
use mathlib.Core.List.{[], ◌∷◌}
use lib.IntN.{ℤ, pos, ◌+ℤ◌, ◌-ℤ◌, ◌*ℤ◌}
use Rattle.algebra.specs.Gauss.{𝔾, ιᵍ, ◌+ᵍ◌, ◌-ᵍ◌, ◌*ᵍ◌}
use Rattle.algebra.specs.Order.{◌⩽◌}
use Rattle.algebra.specs.Size.{Within, Parts}
use Rattle.algebra.proofs.Gauss.{𝔾R, g_ι_mul}
use Rattle.algebra.proofs.Reify.{ring!, reify, reifyᵍ}
use Rattle.algebra.proofs.Order.{nonneg_mul, nonneg_pos, sub_nonneg}
use Rattle.algebra.proofs.Linear.{lin, ◌&◌, ◌&≡◌, none}
use Rattle.algebra.proofs.Within.{within_add, within_sub, within_mul, within_weaken, within_scale, within_cancel}
use Rattle.algebra.proofs.Parts.{parts_within, within_far}
use Rattle.algebra.proofs.Inequality.{nonneg, one_mul}
use Rattle.iteration.proofs.Drift.{drift_a_step}

-- ---- U units to one, Z = 2^N, n = N, t a quarter of U/2^N; up and down scale by 2^−k, B = U · 2^k; x is M
module _ (U Z t n up down B δ P x : ℤ) (w w' v Q g : 𝔾)
    (U-is : U ≡ pos 4 *ℤ t *ℤ Z) (same : up *ℤ B ≡ down *ℤ U) (t≥64 : pos 64 ⩽ t) (Z≥8 : pos 8 ⩽ Z) (n≥0 : pos 0 ⩽ n) (n≤40 : n ⩽ pos 40)
    (n≤Z : n ⩽ Z)
    (down≥1 : pos 1 ⩽ down) (δ≥1 : pos 1 ⩽ δ) (P≥0 : pos 0 ⩽ P) (x≥0 : pos 0 ⩽ x)
    (w_size : Parts w x)
    (scale : Parts (ιᵍ up *ᵍ w -ᵍ ιᵍ down *ᵍ w') down)
    (rest : Parts (v -ᵍ ιᵍ U) (pos 3 *ℤ t))
    (Q-size : Within (ιᵍ (pos 4) *ᵍ Q) (pos 11 *ℤ δ))
    (rounded : Within (ιᵍ δ *ᵍ v -ᵍ Q *ᵍ w') (drift_a_step *ℤ n *ℤ δ))
    (tabled : Within (ιᵍ (pos 128 *ℤ Z) *ᵍ (Q *ᵍ g -ᵍ ιᵍ δ *ᵍ ιᵍ P)) (n *ℤ (δ *ℤ P))) where
  t≥0 : pos 0 ⩽ t
  t≥0 = lin (t ∷ []) (t≥64 & none) (search reify depth 20) tt

  Z≥0 : pos 0 ⩽ Z
  Z≥0 = lin (Z ∷ []) (Z≥8 & none) (search reify depth 20) tt

  c : ℤ
  c = down *ℤ δ

  c≥1 : pos 1 ⩽ c
  unfolding c
  c≥1 = one_mul down≥1 δ≥1

  -- ---- Ω = 280 · down · δ · U · ω
  Ω : 𝔾
  Ω = ιᵍ (pos 280) *ᵍ (ιᵍ up *ᵍ w *ᵍ Q -ᵍ ιᵍ down *ᵍ ιᵍ δ *ᵍ ιᵍ U)

  r : ℤ
  r = pos 1089 +ℤ pos 280 *ℤ drift_a_step *ℤ n +ℤ pos 1188 *ℤ t

  Ω-size : Within Ω (c *ℤ r)
  unfolding Ω r c
  Ω-size = subst (λ z. Within z (down *ℤ δ *ℤ r)) (ring! 𝔾R (ιᵍ up ∷ ιᵍ down ∷ ιᵍ δ ∷ ιᵍ U ∷ w ∷ w' ∷ v ∷ Q ∷ [])
      (search reifyᵍ depth 20 fits 4000) tt)
      (within_weaken (within_add (within_sub (within_mul (parts_within scale) Q-size)
      (within_scale (pos 280 *ℤ down) (nonneg_mul (nonneg_pos 280) (nonneg down≥1)) rounded))
      (within_scale (pos 4 *ℤ (down *ℤ δ)) (nonneg_mul (nonneg_pos 4) (nonneg c≥1)) (parts_within rest)))
      (lin (down ∷ δ ∷ n ∷ t ∷ []) none (search reify depth 20) tt))

  -- ---- y, times 2^N within 3 M
  y : 𝔾
  y = w *ᵍ ιᵍ P -ᵍ ιᵍ B *ᵍ g

  ρ : ℤ
  ρ = pos 99 *ℤ x *ℤ (pos 4 *ℤ P *ℤ (c *ℤ r) +ℤ pos 35 *ℤ t *ℤ down *ℤ (n *ℤ (δ *ℤ P)))

  A : ℤ
  A = pos 280 *ℤ (c *ℤ U)

  right : Within (ιᵍ (pos 70) *ᵍ w *ᵍ (ιᵍ (pos 4 *ℤ P) *ᵍ Ω -ᵍ ιᵍ (pos 35 *ℤ t *ℤ down) *ᵍ
      (ιᵍ (pos 128 *ℤ Z) *ᵍ (Q *ᵍ g -ᵍ ιᵍ δ *ᵍ ιᵍ P)))) ρ
  unfolding ρ
  right = within_mul (parts_within w_size) (within_sub (within_scale (pos 4 *ℤ P) (nonneg_mul (nonneg_pos 4) P≥0) Ω-size)
      (within_scale (pos 35 *ℤ t *ℤ down) (nonneg_mul (nonneg_mul (nonneg_pos 35) t≥0) (nonneg down≥1)) tabled))

  -- the one identity, by U = 4 t Z and up · B = down · U
  product : ιᵍ down *ᵍ ιᵍ (pos 4 *ℤ t *ℤ Z) ≡ ιᵍ up *ᵍ ιᵍ B
  product = sym (g_ι_mul down (pos 4 *ℤ t *ℤ Z)) ∙ ap (λ u. ιᵍ (down *ℤ u)) (sym U-is) ∙ ap ιᵍ (sym same) ∙ g_ι_mul up B

  left : Within (ιᵍ (pos 280) *ᵍ y *ᵍ (ιᵍ A +ᵍ Ω)) ρ
  unfolding y A Ω c
  left = subst (λ z. Within z ρ)
      (ap (λ u. ιᵍ (pos 70) *ᵍ w *ᵍ (ιᵍ (pos 4 *ℤ P) *ᵍ (ιᵍ (pos 280) *ᵍ (ιᵍ up *ᵍ w *ᵍ Q -ᵍ ιᵍ down *ᵍ ιᵍ δ *ᵍ ιᵍ u)) -ᵍ K)) U-is
      ∙ ring! 𝔾R (ιᵍ up ∷ ιᵍ down ∷ ιᵍ δ ∷ ιᵍ P ∷ ιᵍ t ∷ ιᵍ Z ∷ w ∷ Q ∷ g ∷ []) (search reifyᵍ depth 20 fits 4000) tt
      ∙ ap (λ m. ιᵍ (pos 78400) *ᵍ (w *ᵍ Q) *ᵍ (ιᵍ up *ᵍ w *ᵍ ιᵍ P -ᵍ m *ᵍ g)) product
      ∙ ring! 𝔾R (ιᵍ up ∷ ιᵍ B ∷ ιᵍ P ∷ ιᵍ down ∷ ιᵍ δ ∷ ιᵍ U ∷ w ∷ Q ∷ g ∷ []) (search reifyᵍ depth 20 fits 4000) tt) right
    where
      K : 𝔾
      K = ιᵍ (pos 35 *ℤ t *ℤ down) *ᵍ (ιᵍ (pos 128 *ℤ Z) *ᵍ (Q *ᵍ g -ᵍ ιᵍ δ *ᵍ ιᵍ P))

  r≤A : pos 1 ⩽ A -ℤ c *ℤ r
  unfolding A r
  r≤A = lin (U ∷ Z ∷ t ∷ n ∷ c ∷ [])
      (ap (λ u. c *ℤ u) U-is &≡ nonneg_mul (nonneg c≥1) (nonneg_mul t≥0 (sub_nonneg Z≥8)) & nonneg_mul (nonneg c≥1) (sub_nonneg n≤40)
      & nonneg_mul (nonneg c≥1) (sub_nonneg t≥64) & c≥1 & none) (search reify depth 20) tt

  numbers : pos 99 *ℤ Z *ℤ (pos 4 *ℤ r +ℤ pos 35 *ℤ t *ℤ n) +ℤ pos 840 *ℤ r ⩽ pos 235200 *ℤ U
  unfolding r
  numbers = lin (U ∷ Z ∷ t ∷ n ∷ []) (U-is &≡ nonneg_mul (nonneg_mul Z≥0 n≥0) (sub_nonneg t≥64) & nonneg_mul Z≥0 (sub_nonneg t≥64)
      & nonneg_mul n≥0 (sub_nonneg t≥64) & nonneg_mul t≥0 (nonneg_mul (sub_nonneg n≤40) (sub_nonneg Z≥8))
      & nonneg_mul t≥0 (sub_nonneg n≤Z) & nonneg_mul t≥0 (sub_nonneg Z≥8) & t≥64 & none) (search reify depth 20) tt

  enough : Z *ℤ ρ ⩽ (A -ℤ c *ℤ r) *ℤ (pos 280 *ℤ (pos 3 *ℤ x *ℤ P))
  unfolding A ρ c
  enough = lin (U ∷ Z ∷ t ∷ n ∷ r ∷ down ∷ δ ∷ P ∷ x ∷ []) (nonneg_mul (nonneg_mul (nonneg_mul (nonneg c≥1) P≥0) x≥0) (sub_nonneg numbers)
      & none)
      (search reify depth 20 fits 4000) tt

  pub together : Within (ιᵍ Z *ᵍ (w *ᵍ ιᵍ P -ᵍ ιᵍ B *ᵍ g)) (pos 3 *ℤ x *ℤ P)
  unfolding y
  together = within_cancel (pos 280) (record { le = tt }) (within_cancel (A -ℤ c *ℤ r) r≤A
      (subst (λ z. Within z ((A -ℤ c *ℤ r) *ℤ (pos 280 *ℤ (pos 3 *ℤ x *ℤ P))))
      (ring! 𝔾R (ιᵍ Z ∷ ιᵍ (A -ℤ c *ℤ r) ∷ y ∷ []) (search reifyᵍ depth 20) tt)
      (within_weaken (within_scale Z Z≥0 (within_far A (c *ℤ r) Ω (ιᵍ (pos 280) *ᵍ y) ρ
      (lin (A ∷ (c *ℤ r) ∷ []) (r≤A & none) (search reify depth 20) tt) Ω-size left))
      enough)))
