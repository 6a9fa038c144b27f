-- Moves of the reduction (02, E5), from the reduced exponent r outward. At z the exponential of z is near p/(M·s) times that of r, p being
-- the start s times the factors of the moves made and M their divisors: what M·s·exp(z) is off p·exp(r) by, THE GAP, grows by 2 units of
-- the length of p in a move.
use mathlib.Core.Path.{◌≡◌, refl, sym, ◌∙◌, ap, subst, subst₂}
use mathlib.Core.List.{[], ◌∷◌}
use Prim.Native.Nat.{ℕ, zero, suc, ◌^◌, ◌-◌, ◌≤◌}
use native.Mathlib.Omega.{arith}
use lib.IntN.{ℤ, pos, ◌+ℤ◌, ◌*ℤ◌}
use Rattle.algebra.specs.Gauss.{𝔾, ◌+ᵍ◌, ◌-ᵍ◌, ◌*ᵍ◌, ◌^ᵍ◌, ιᵍ, N, two, twoᵍ}
use Rattle.algebra.specs.Order.{◌⩽◌}
use Rattle.algebra.specs.Size.{Within, Parts}
use Rattle.algebra.proofs.Ring.{pw}
use Rattle.algebra.proofs.Integer.{ℤR}
use Rattle.algebra.proofs.Gauss.{𝔾R, N-mul, N-scale, g_mul_one, g_mul_assoc}
use Rattle.algebra.proofs.Reify.{ring!, reify, reifyᵍ}
use Rattle.algebra.proofs.Order.{⩽_trans, nonneg_mul, nonneg_pos, nonneg_sq, sub_nonneg, pos_mono}
use Rattle.algebra.proofs.Linear.{lin, ◌&◌, ◌&≡◌, none}
use Rattle.algebra.proofs.Power.{two_pos, two_mono, two_whole}
use Rattle.algebra.proofs.Within.{N-nonneg, pw_nonneg, within_add, within_sub, within_mul, within_scale, within_cancel, within_weaken, within_ι}
use Rattle.algebra.proofs.Parts.{parts_length}
use Rattle.series.specs.Series.{Sᵍ, Dᶻ}
use Rattle.series.proofs.Series.{D-pos}
use Rattle.series.proofs.Laws.{laws_far}
use Rattle.table_numbers.proofs.Promises.{Move, Tied}

-- ---- algebra: U = 2^F, W = 2^74, D is the series' divisor
-- the rule, times p: |p·off| ≤ |p·c|/U
rule_size : (a b f U D μ : ℤ) → pos 0 ⩽ a → b *ℤ (U *ℤ U) ⩽ f *ℤ (D *ℤ D) → a *ℤ f ⩽ μ *ℤ μ →
    U *ℤ U *ℤ (a *ℤ b) ⩽ μ *ℤ D *ℤ (μ *ℤ D)
rule_size a b f U D μ g h k = lin (a ∷ b ∷ f ∷ U ∷ D ∷ μ ∷ [])
    (nonneg_mul g (sub_nonneg h) & nonneg_mul (sub_nonneg k) (nonneg_sq D) & none) (search reify depth 20) tt

rule_within : (U D μ : ℤ) (p off c : 𝔾) → pos 0 ⩽ D → N off *ℤ (U *ℤ U) ⩽ N c *ℤ (D *ℤ D) → Within (p *ᵍ c) μ →
    Within (ιᵍ U *ᵍ (p *ᵍ off)) (μ *ℤ D)
rule_within U D μ p off c h_d h k = record {
  sign = nonneg_mul k.sign h_d;
  size = subst (λ v. v ⩽ μ *ℤ D *ℤ (μ *ℤ D)) (sym (N-scale U (p *ᵍ off) ∙ ap (λ v. U *ℤ U *ℤ v) (N-mul p off)))
      (rule_size (N p) (N off) (N c) U D μ (N-nonneg p) h (subst (λ v. v ⩽ μ *ℤ μ) (N-mul p c) k.size));
}

-- the gap G takes on what the constant is off by, po, times x, and what the product law is off by, prod, times t
module _ (U W D ν μ μ' κ : ℤ) (h_u : pos 320 ⩽ U) (h_w : pos 32768 *ℤ U ⩽ W) (h_d : pos 1 ⩽ D) (hν : pos 0 ⩽ ν) (hν' : ν ⩽ pos 40)
    (hμ' : pos 0 ⩽ μ') (grow : ν *ℤ (κ *ℤ μ) ⩽ ν *ℤ μ') where
  D≥0 : pos 0 ⩽ D
  D≥0 = ⩽_trans (nonneg_pos 1) h_d

  U≥0 : pos 0 ⩽ U
  U≥0 = ⩽_trans (nonneg_pos 320) h_u

  W≥0 : pos 0 ⩽ W
  W≥0 = lin (U ∷ W ∷ []) (h_w & h_u & none) (search reify depth 20) tt

  -- ν·(1 + 1/U) + 7/4 + 4096·U/W ≤ ν + 2
  shares : pos 4 *ℤ W *ℤ (ν *ℤ (κ *ℤ μ)) *ℤ (U +ℤ pos 1) +ℤ pos 7 *ℤ U *ℤ W *ℤ μ' +ℤ pos 16384 *ℤ (U *ℤ U) *ℤ μ'
      ⩽ pos 4 *ℤ U *ℤ W *ℤ ((ν +ℤ pos 2) *ℤ μ')
  shares = ⩽_trans
      (lin (U ∷ W ∷ ν ∷ κ ∷ μ ∷ μ' ∷ []) (nonneg_mul (nonneg_mul W≥0 u1) (sub_nonneg grow) & none) (search reify depth 20 fits 4000) tt)
      later
    where
      u1 : pos 0 ⩽ U +ℤ pos 1
      u1 = lin (U ∷ []) (U≥0 & none) (search reify depth 20) tt

      later : pos 4 *ℤ W *ℤ (ν *ℤ μ') *ℤ (U +ℤ pos 1) +ℤ pos 7 *ℤ U *ℤ W *ℤ μ' +ℤ pos 16384 *ℤ (U *ℤ U) *ℤ μ'
          ⩽ pos 4 *ℤ U *ℤ W *ℤ ((ν +ℤ pos 2) *ℤ μ')
      later = lin (U ∷ W ∷ ν ∷ μ' ∷ [])
          (nonneg_mul (nonneg_mul W≥0 hμ') (sub_nonneg hν') & nonneg_mul (nonneg_mul W≥0 hμ') (sub_nonneg h_u)
          & nonneg_mul (nonneg_mul U≥0 hμ') (sub_nonneg h_w) & none)
          (search reify depth 20 fits 4000) tt

  module _ (G G' q po x t prod : 𝔾) (law : ιᵍ D *ᵍ G' ≡ G *ᵍ q +ᵍ po *ᵍ x -ᵍ t *ᵍ prod) where
    abbrev old : 𝔾
    old = ιᵍ (pos 4 *ℤ W) *ᵍ ((ιᵍ U *ᵍ G) *ᵍ (ιᵍ U *ᵍ q))

    abbrev tie : 𝔾
    tie = ιᵍ (U *ℤ W) *ᵍ ((ιᵍ U *ᵍ po) *ᵍ (ιᵍ (pos 4) *ᵍ x))

    abbrev product : 𝔾
    product = ιᵍ (pos 4 *ℤ U *ℤ U) *ᵍ (t *ᵍ (ιᵍ W *ᵍ prod))

    whole : old +ᵍ tie -ᵍ product ≡ ιᵍ (pos 4 *ℤ U *ℤ W *ℤ D) *ᵍ (ιᵍ U *ᵍ G')
    whole = ring! 𝔾R (ιᵍ U ∷ ιᵍ W ∷ G ∷ q ∷ po ∷ x ∷ t ∷ prod ∷ []) (search reifyᵍ depth 20 fits 4000) tt
        ∙ ap (λ u. ιᵍ (pos 4) *ᵍ ιᵍ U *ᵍ ιᵍ U *ᵍ ιᵍ W *ᵍ u) (sym law)
        ∙ ring! 𝔾R (ιᵍ U ∷ ιᵍ W ∷ ιᵍ D ∷ G' ∷ []) (search reifyᵍ depth 20) tt

    gap_move : Within (ιᵍ U *ᵍ G) (ν *ℤ μ *ℤ D) → Within (ιᵍ U *ᵍ q) (κ *ℤ ((U +ℤ pos 1) *ℤ D)) → Within (ιᵍ U *ᵍ po) (μ' *ℤ D) →
        Within (ιᵍ (pos 4) *ᵍ x) (pos 7 *ℤ D) → Within t (pos 4096 *ℤ μ') → Within (ιᵍ W *ᵍ prod) (D *ℤ D) →
        Within (ιᵍ U *ᵍ G') ((ν +ℤ pos 2) *ℤ μ' *ℤ D)
    gap_move hG hq hpo hx ht hprod = within_cancel (pos 4 *ℤ U *ℤ W *ℤ D)
        (lin (U ∷ W ∷ D ∷ [])
        (nonneg_mul (nonneg_mul (sub_nonneg h_u) W≥0) D≥0 & nonneg_mul (sub_nonneg h_w) D≥0 & nonneg_mul (sub_nonneg h_u) D≥0 & h_d & none)
        (search reify depth 20) tt)
        (subst (λ w. Within w (pos 4 *ℤ U *ℤ W *ℤ D *ℤ ((ν +ℤ pos 2) *ℤ μ' *ℤ D))) whole (within_weaken
        (within_sub
        (within_add (within_scale (pos 4 *ℤ W) (nonneg_mul (nonneg_pos 4) W≥0) (within_mul hG hq))
        (within_scale (U *ℤ W) (nonneg_mul U≥0 W≥0) (within_mul hpo hx)))
        (within_scale (pos 4 *ℤ U *ℤ U) (nonneg_mul (nonneg_mul (nonneg_pos 4) U≥0) U≥0) (within_mul ht hprod)))
        (lin (U ∷ W ∷ D ∷ ν ∷ μ ∷ μ' ∷ κ ∷ []) (nonneg_mul (sub_nonneg shares) (nonneg_sq D) & none) (search reify depth 20 fits 4000) tt)))

-- ---- over the width F and T terms, from the reduced exponent r, whose exponential is at most 7/4 long, for a start s at most σ long
module _ (F : ℕ) (wide : 10 ≤ F) (narrow : F ≤ 48) (T : ℕ) (long : 80 ≤ T) (r s : 𝔾) (σ : ℤ) (given : Within s σ)
    (near : Within (ιᵍ (pos 4) *ᵍ Sᵍ (2 ^ F) T r) (pos 7 *ℤ Dᶻ (2 ^ F) T)) where
  abbrev X : 𝔾 → 𝔾
  X z = Sᵍ (2 ^ F) T z

  abbrev D : ℤ
  D = Dᶻ (2 ^ F) T

  D≥1 : pos 1 ⩽ D
  D≥1 = pos_mono (D-pos (2 ^ F) (two_pos F) T)

  D≥0' : pos 0 ⩽ D
  D≥0' = ⩽_trans (nonneg_pos 1) D≥1

  -- THE GAP
  abbrev pub gap : (z p : 𝔾) (M : ℤ) → 𝔾
  gap z p M = ιᵍ M *ᵍ s *ᵍ X z -ᵍ p *ᵍ X r

  -- the moves have led to z: the gap is at most ν units of μ, which bounds the length of p and of s
  pub record Led (z p : 𝔾) (M μ ν : ℤ) : Type 0 where
    pub off : Within (twoᵍ F *ᵍ gap z p M) (ν *ℤ μ *ℤ D)
    pub length : Within p μ
    pub start : σ ⩽ μ
    pub divisor : pos 0 ⩽ M

  pub led_start : (μ : ℤ) → σ ⩽ μ → Led r s (pos 1) μ (pos 0)
  led_start μ h = record {
    off = subst₂ Within (ring! 𝔾R (twoᵍ F ∷ s ∷ X r ∷ []) (search reifyᵍ depth 20) tt) (ring! ℤR (μ ∷ D ∷ []) (search reify depth 20) tt)
        (within_ι (pos 0) (nonneg_pos 0));
    length = within_weaken given h;
    start = h;
    divisor = nonneg_pos 1;
  }

  pub led_weaken : {z p : 𝔾} {M μ ν ν' : ℤ} → ν ⩽ ν' → Led z p M μ ν → Led z p M μ ν'
  led_weaken {μ = μ} {ν} {ν'} h l = record {
    off = within_weaken l.off
        (lin (ν ∷ ν' ∷ μ ∷ D ∷ []) (nonneg_mul (nonneg_mul l.length.sign D≥0') (sub_nonneg h) & none) (search reify depth 20) tt);
    length = l.length;
    start = l.start;
    divisor = l.divisor;
  }

  pub led_path : {z z' p p' : 𝔾} {M M' μ μ' ν ν' : ℤ} → z ≡ z' → p ≡ p' → M ≡ M' → μ ≡ μ' → ν ≡ ν' → Led z p M μ ν → Led z' p' M' μ' ν'
  led_path {z} {z'} {p} {p'} {M} {M'} {μ} {μ'} {ν} {ν'} a b c d e l =
      subst (λ ν. Led z' p' M' μ' ν) e (subst₂ (λ M μ. Led z' p' M μ ν) c d (subst₂ (λ z p. Led z p M μ ν) a b l))

  -- a move whose factor is at most κ long
  module _ (v : Move) (tied : Tied F v) (κ β : ℤ) (c_length : Within v.c κ) (w_length : Within v.w β)
      (w_short : pos 5 *ℤ β ⩽ pos 8 *ℤ two F) where
    -- what the constant is off by, and what the product law is off by
    abbrev off_rule : 𝔾
    off_rule = ιᵍ (pos v.m) *ᵍ X v.w -ᵍ v.c *ᵍ ιᵍ D

    abbrev off_product : 𝔾 → 𝔾
    off_product z = X z *ᵍ X v.w -ᵍ ιᵍ D *ᵍ X (z +ᵍ v.w)

    rule : N off_rule *ℤ (two F *ℤ two F) ⩽ N v.c *ℤ (D *ℤ D)
    rule = tied T (omega arith)

    grown : Within (twoᵍ F *ᵍ (ιᵍ (pos v.m) *ᵍ X v.w)) (κ *ℤ ((two F +ℤ pos 1) *ℤ D))
    grown = subst₂ Within
        (ring! 𝔾R (twoᵍ F ∷ ιᵍ (pos v.m) ∷ X v.w ∷ v.c ∷ ιᵍ D ∷ []) (search reifyᵍ depth 20) tt)
        (ring! ℤR (two F ∷ κ ∷ D ∷ []) (search reify depth 20) tt)
        (within_add (rule_within (two F) D κ (ιᵍ (pos 1)) off_rule v.c D≥0' rule one)
        (within_scale (two F) (nonneg_pos (2 ^ F)) (within_mul c_length (within_ι D D≥0'))))
      where
        one : Within (ιᵍ (pos 1) *ᵍ v.c) κ
        one = subst (λ c. Within c κ) (ring! 𝔾R (v.c ∷ []) (search reifyᵍ depth 20) tt) c_length

    products : {z : 𝔾} → Parts z (pos 10 *ℤ two F) → Within (twoᵍ 74 *ᵍ off_product z) (D *ℤ D)
    products {z} small = (laws_far F).product
        (parts_length (pos 10 *ℤ u) (nonneg_mul (nonneg_pos 10) (nonneg_pos (2 ^ (F - 6)))) (subst (λ b. Parts z b) ten small)) w_length
        (lin (u ∷ two F ∷ β ∷ []) (w_short & unit &≡ nonneg_pos (2 ^ (F - 6)) & none) (search reify depth 20) tt) T long
      where
        u : ℤ
        u = two (F - 6)

        unit : pos 64 *ℤ u ≡ two F
        unit = two_whole 6 F (omega arith)

        ten : pos 10 *ℤ two F ≡ pos 64 *ℤ (pos 10 *ℤ u)
        ten = ap (λ b. pos 10 *ℤ b) (sym unit) ∙ ring! ℤR (u ∷ []) (search reify depth 20) tt

    -- ONE MOVE; μ' need not be κ·μ where there is no gap yet
    pub move : {z p : 𝔾} {M μ ν : ℤ} (μ' : ℤ) → Led z p M μ ν → Parts z (pos 10 *ℤ two F) → M *ℤ pos v.m ⩽ pos 4096 →
        pos 0 ⩽ ν → ν ⩽ pos 40 → ν *ℤ (κ *ℤ μ) ⩽ ν *ℤ μ' → σ ⩽ μ' → Within (p *ᵍ v.c) μ' →
        Led (z +ᵍ v.w) (p *ᵍ v.c) (M *ℤ pos v.m) μ' (ν +ℤ pos 2)
    move {z} {p} {M} {μ} {ν} μ' l far low hν hν' grow hσ hp = record {
      off = gap_move (two F) (two 74) D ν μ μ' κ
          (lin (two F ∷ []) (two_mono 10 F wide & none) (search reify depth 20) tt)
          (lin (two F ∷ []) (two_mono F 48 narrow & none) (search reify depth 20) tt)
          D≥1 hν hν' hp.sign grow
          (gap z p M) (gap (z +ᵍ v.w) (p *ᵍ v.c) (M *ℤ pos v.m)) (ιᵍ (pos v.m) *ᵍ X v.w) (p *ᵍ off_rule) (X r)
          (ιᵍ (M *ℤ pos v.m) *ᵍ s) (off_product z) law
          l.off grown (rule_within (two F) D μ' p off_rule v.c D≥0' rule hp) near
          (within_weaken (within_scale (M *ℤ pos v.m) positive given) enough)
          (products far);
      length = hp;
      start = hσ;
      divisor = positive;
    }
      where
        positive : pos 0 ⩽ M *ℤ pos v.m
        positive = nonneg_mul l.divisor (nonneg_pos v.m)

        law : ιᵍ D *ᵍ gap (z +ᵍ v.w) (p *ᵍ v.c) (M *ℤ pos v.m)
            ≡ gap z p M *ᵍ (ιᵍ (pos v.m) *ᵍ X v.w) +ᵍ p *ᵍ off_rule *ᵍ X r -ᵍ ιᵍ (M *ℤ pos v.m) *ᵍ s *ᵍ off_product z
        law = ring! 𝔾R (ιᵍ D ∷ ιᵍ M ∷ ιᵍ (pos v.m) ∷ s ∷ p ∷ v.c ∷ X z ∷ X r ∷ X v.w ∷ X (z +ᵍ v.w) ∷ [])
            (search reifyᵍ depth 20 fits 4000) tt

        enough : M *ℤ pos v.m *ℤ σ ⩽ pos 4096 *ℤ μ'
        enough = lin (M ∷ pos v.m ∷ σ ∷ μ' ∷ []) (nonneg_mul (sub_nonneg low) given.sign & hσ & none) (search reify depth 20) tt

    -- THE SAME MOVE n TIMES
    module _ {z p : 𝔾} {M μ ν : ℤ} (m≥1 : 1 ≤ v.m) (κ≥1 : pos 1 ⩽ κ) (hν : pos 0 ⩽ ν) (l : Led z p M μ ν) where
      abbrev there : ℕ → 𝔾
      there n = z +ᵍ ιᵍ (pos n) *ᵍ v.w

      abbrev LedBy : ℕ → Type 0
      LedBy n = Led (there n) (p *ᵍ v.c ^ᵍ n) (M *ℤ pw ℤR (pos v.m) n) (μ *ℤ pw ℤR κ n) (ν +ℤ pos 2 *ℤ pos n)

      -- once more
      again : (n : ℕ) → M *ℤ pw ℤR (pos v.m) (suc n) ⩽ pos 4096 → ν +ℤ pos 2 *ℤ pos (suc n) ⩽ pos 42 → Parts (there n) (pos 10 *ℤ two F) →
          LedBy n → LedBy (suc n)
      unfolding ◌^ᵍ◌
      again n low few far h = led_path next (g_mul_assoc p (v.c ^ᵍ n) v.c) divisors refl more
          (move (μ *ℤ pw ℤR κ (suc n)) h far (subst (λ m. m ⩽ pos 4096) (sym divisors) low)
          (lin (ν ∷ pos n ∷ []) (hν & nonneg_pos n & none) (search reify depth 20) tt)
          (lin (ν ∷ pos n ∷ []) (few & none) (search reify depth 20) tt)
          (lin (ν ∷ pos n ∷ κ ∷ μ ∷ pw ℤR κ n ∷ []) none (search reify depth 20) tt)
          (⩽_trans h.start (lin (μ ∷ κ ∷ pw ℤR κ n ∷ []) (nonneg_mul h.length.sign (sub_nonneg κ≥1) & none)
          (search reify depth 20) tt))
          (subst (λ b. Within (p *ᵍ v.c ^ᵍ n *ᵍ v.c) b) lengths (within_mul h.length c_length)))
        where
          next : there n +ᵍ v.w ≡ there (suc n)
          next = step ∙ ap (λ i. z +ᵍ ιᵍ i *ᵍ v.w) one_more
            where
              step : z +ᵍ ιᵍ (pos n) *ᵍ v.w +ᵍ v.w ≡ z +ᵍ ιᵍ (pos n +ℤ pos 1) *ᵍ v.w
              step = ring! 𝔾R (z ∷ v.w ∷ ιᵍ (pos n) ∷ []) (search reifyᵍ depth 20) tt

              one_more : pos n +ℤ pos 1 ≡ pos (suc n)
              one_more = ring! ℤR (pos n ∷ []) (search reify depth 20) tt

          divisors : M *ℤ pw ℤR (pos v.m) n *ℤ pos v.m ≡ M *ℤ pw ℤR (pos v.m) (suc n)
          divisors = ring! ℤR (M ∷ pw ℤR (pos v.m) n ∷ pos v.m ∷ []) (search reify depth 20) tt

          lengths : μ *ℤ pw ℤR κ n *ℤ κ ≡ μ *ℤ pw ℤR κ (suc n)
          lengths = ring! ℤR (μ ∷ pw ℤR κ n ∷ κ ∷ []) (search reify depth 20) tt

          more : ν +ℤ pos 2 *ℤ pos n +ℤ pos 2 ≡ ν +ℤ pos 2 *ℤ pos (suc n)
          more = ring! ℤR (ν ∷ pos n ∷ []) (search reify depth 20) tt

      pub moves : (n : ℕ) → M *ℤ pw ℤR (pos v.m) n ⩽ pos 4096 → ν +ℤ pos 2 *ℤ pos n ⩽ pos 42 →
          ((i : ℕ) → i ≤ n → Parts (there i) (pos 10 *ℤ two F)) → LedBy n
      unfolding ◌^ᵍ◌
      moves zero low few far = led_path (ring! 𝔾R (z ∷ v.w ∷ []) (search reifyᵍ depth 20) tt) (sym (g_mul_one p))
          (ring! ℤR (M ∷ []) (search reify depth 20) tt) (ring! ℤR (μ ∷ []) (search reify depth 20) tt)
          (ring! ℤR (ν ∷ []) (search reify depth 20) tt) l
      moves (suc n) low few far = again n low few (far n (omega arith))
          (moves n (⩽_trans fewer low) (lin (ν ∷ pos n ∷ []) (few & none) (search reify depth 20) tt) (λ i h. far i (omega arith)))
        where
          fewer : M *ℤ pw ℤR (pos v.m) n ⩽ M *ℤ pw ℤR (pos v.m) (suc n)
          fewer = lin (M ∷ pos v.m ∷ pw ℤR (pos v.m) n ∷ [])
              (nonneg_mul (nonneg_mul l.divisor (pw_nonneg (nonneg_pos v.m) n)) (sub_nonneg (pos_mono m≥1)) & none)
              (search reify depth 20) tt
