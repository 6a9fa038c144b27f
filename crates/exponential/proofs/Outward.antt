-- From the reduced exponent outward (02, E5): at most 1 + 5 + 12 moves lead from it to the given exponent e, so the exponential of e is near
-- factor·2^k times that of the reduced one, but for 36 units of that length.
use mathlib.Core.Path.{◌≡◌, refl, sym, ◌∙◌, ap, subst}
use mathlib.Core.List.{[], ◌∷◌}
use mathlib.Core.Logic.{◌⊎◌, inl, inr}
use Prim.Native.Nat.{ℕ, suc, ◌^◌, ◌≤◌}
use native.Mathlib.Omega.{arith}
use lib.IntN.{ℤ, pos, negsuc, neg_ℤ, ◌+ℤ◌, ◌-ℤ◌, ◌*ℤ◌}
use Rattle.algebra.specs.Gauss.{𝔾, gi, ιᵍ, iᵍ, negᵍ, ◌+ᵍ◌, ◌-ᵍ◌, ◌*ᵍ◌, ◌^ᵍ◌, N, two, twoᵍ}
use Rattle.algebra.specs.Order.{◌⩽◌}
use Rattle.algebra.specs.Size.{Within, Size, Parts}
use Rattle.algebra.proofs.Ring.{pw}
use Rattle.algebra.proofs.Integer.{ℤR}
use Rattle.algebra.proofs.Gauss.{𝔾R, gi_path, N-mul, g_mul_one, g_mul_assoc, ι_power}
use Rattle.algebra.proofs.Reify.{ring!, reify, reifyᵍ}
use Rattle.algebra.proofs.Order.{⩽_refl, ⩽_trans, nonneg_pos, nonneg_mul, sub_nonneg, pos_mono, pos_inj_le}
use Rattle.algebra.proofs.Linear.{lin, ◌&◌, ◌&ℕ◌, none}
use Rattle.algebra.proofs.Inequality.{le_cancel}
use Rattle.algebra.proofs.Power.{two≥1, two_mono}
use Rattle.algebra.proofs.Parts.{size_sign, parts_weaken, moved_re, moved_im, parts_convex}
use Rattle.algebra.proofs.Within.{pw_pos, pw_one, within_neg, within_ι}
use Rattle.series.specs.Series.{Sᵍ, Dᶻ}
use Rattle.table_numbers.specs.Promise.{Constants}
use Rattle.table_numbers.proofs.Promises.{Move, Tied, eighth, quarter, quarter_back, doubling, halving, ConstantsPromise}
use Rattle.exponential.specs.Reduction.{factor, eighths, turned_re, doublings, left_over}
use Rattle.exponential.specs.Answer.{up, down}
use Rattle.exponential.proofs.Reduced.{halved, odd, quarter_turns, split, odd_lo, odd_hi, odd_is, halved_size, left_re, left_im, left_exp, eighths_size, doublings_size}
use Rattle.exponential.proofs.Moves.{Led, led_start, led_weaken, led_path, move, moves}

size_half : (x a u : ℤ) → Size (pos 2 *ℤ x) a → a ⩽ u → Size x (pos 1 *ℤ u)
size_half x a u h k = record {
  lo = lin (x ∷ a ∷ u ∷ []) (h.lo & k & size_sign h & none) (search reify depth 20) tt;
  hi = lin (x ∷ a ∷ u ∷ []) (h.hi & k & size_sign h & none) (search reify depth 20) tt;
}

-- half of a at most, and b·d, b being from 0 to 1
size_moved : (x b d a u : ℤ) → Size (pos 2 *ℤ x) a → pos 0 ⩽ b → b ⩽ pos 1 → pos 0 ⩽ d → a ⩽ u → d ⩽ u → Size (x +ℤ b *ℤ d) (pos 2 *ℤ u)
size_moved x b d a u h b≥0 b≤1 d≥0 a≤u d≤u = record {
  lo = lin (x ∷ b ∷ d ∷ a ∷ u ∷ []) (h.lo & nonneg_mul b≥0 d≥0 & a≤u & size_sign h & none) (search reify depth 20) tt;
  hi = lin (x ∷ b ∷ d ∷ a ∷ u ∷ []) (h.hi & nonneg_mul (sub_nonneg b≤1) d≥0 & a≤u & d≤u & size_sign h & none) (search reify depth 20) tt;
}

still : (x a : ℤ) → x +ℤ a *ℤ pos 0 ≡ x
still x a = ring! ℤR (x ∷ a ∷ []) (search reify depth 20) tt

-- n moves back are −n moves
backwards : (z w : 𝔾) (n : ℕ) → z +ᵍ ιᵍ (pos (suc n)) *ᵍ negᵍ w ≡ z +ᵍ ιᵍ (negsuc n) *ᵍ w
backwards z w n = ap (λ i. z +ᵍ ιᵍ i *ᵍ negᵍ w) more ∙ turned ∙ ap (λ i. z +ᵍ ιᵍ i *ᵍ w) less
  where
    more : pos (suc n) ≡ pos n +ℤ pos 1
    more = ring! ℤR (pos n ∷ []) (search reify depth 20) tt

    turned : z +ᵍ ιᵍ (pos n +ℤ pos 1) *ᵍ negᵍ w ≡ z +ᵍ ιᵍ (neg_ℤ (pos n +ℤ pos 1)) *ᵍ w
    turned = ring! 𝔾R (z ∷ w ∷ ιᵍ (pos n) ∷ []) (search reifyᵍ depth 20) tt

    less : neg_ℤ (pos n +ℤ pos 1) ≡ negsuc n
    less = ring! ℤR (pos n ∷ []) (search reify depth 20) tt

-- at most b moves back
count_back : {n b : ℕ} → Size (negsuc n) (pos b) → suc n ≤ b
count_back {n} {b} h = pos_inj_le (lin (pos n ∷ pos b ∷ []) (h.lo & none) (search reify depth 20) tt)

one : gi (pos 1) (pos 0) ≡ ιᵍ (pos 1)
unfolding ιᵍ
one = refl

module _ (F : ℕ) (wide : 10 ≤ F) (narrow : F ≤ 48) (c : Constants) (promise : ConstantsPromise F c) (e : 𝔾)
    (far : Parts e (pos 8 *ℤ two F)) (T : ℕ) (long : 80 ≤ T) (s : 𝔾) (μ : ℤ) (given : Within s μ) where
  abbrev U : ℤ
  U = two F

  abbrev Q : ℤ
  Q = pos c.quarter_pi

  abbrev H : ℤ
  H = pos c.ln_2

  abbrev R : ℤ
  R = pos c.half_ln_2

  abbrev r : 𝔾
  r = left_over c e

  near : Within (ιᵍ (pos 4) *ᵍ Sᵍ (2 ^ F) T r) (pos 7 *ℤ Dᶻ (2 ^ F) T)
  near = left_exp F (omega arith) c promise e T (omega arith)

  abbrev At : (z p : 𝔾) (M μ' ν : ℤ) → Type 0
  At = Led F wide narrow T long r s μ given near

  at_start : At r s (pos 1) μ (pos 0)
  at_start = led_start F wide narrow T long r s μ given near μ (⩽_refl μ)

  at_weaken : {z p : 𝔾} {M μ' ν ν' : ℤ} → ν ⩽ ν' → At z p M μ' ν → At z p M μ' ν'
  at_weaken = led_weaken F wide narrow T long r s μ given near

  at_path : {z z' p p' : 𝔾} {M M' μ₁ μ₂ ν : ℤ} → z ≡ z' → p ≡ p' → M ≡ M' → μ₁ ≡ μ₂ → At z p M μ₁ ν → At z' p' M' μ₂ ν
  at_path a b m l = led_path F wide narrow T long r s μ given near a b m l refl

  abbrev Near : 𝔾 → Type 0
  Near z = Parts z (pos 10 *ℤ U)

  -- ---- an eighth of a turn, or none
  abbrev w₁ : 𝔾
  w₁ = gi R Q

  w₁_length : Within w₁ (R +ℤ Q)
  w₁_length = record {
    sign = lin (R ∷ Q ∷ []) (nonneg_pos c.half_ln_2 & nonneg_pos c.quarter_pi & none) (search reify depth 20) tt;
    size = lin (R ∷ Q ∷ []) (nonneg_mul (nonneg_pos c.half_ln_2) (nonneg_pos c.quarter_pi) & none) (search reify depth 20) tt;
  }

  by_eighths : (b : ℤ) → (b ≡ pos 0) ⊎ (b ≡ pos 1) → Near r → Within (s *ᵍ gi (pos 1) b) μ →
      At (r +ᵍ ιᵍ b *ᵍ w₁) (s *ᵍ gi (pos 1) b) (pos 1) μ (pos 2)
  by_eighths b (inl q) h l = subst (λ b. At (r +ᵍ ιᵍ b *ᵍ w₁) (s *ᵍ gi (pos 1) b) (pos 1) μ (pos 2)) (sym q)
      (at_path (ring! 𝔾R (r ∷ w₁ ∷ []) (search reifyᵍ depth 20) tt) (sym (ap (λ d. s *ᵍ d) one ∙ g_mul_one s)) refl refl
      (at_weaken (nonneg_pos 2) at_start))
  by_eighths b (inr q) h l = subst (λ b. At (r +ᵍ ιᵍ b *ᵍ w₁) (s *ᵍ gi (pos 1) b) (pos 1) μ (pos 2)) (sym q)
      (at_path (ring! 𝔾R (r ∷ w₁ ∷ []) (search reifyᵍ depth 20) tt) refl refl refl
      (move F wide narrow T long r s μ given near (eighth c) promise.eighths (pos 2) (R +ℤ Q)
      (record { sign = nonneg_pos 2; size = record { le = tt } }) w₁_length
      (lin (R ∷ Q ∷ U ∷ []) (promise.half_ln_2_high & promise.quarter_pi_high & two≥1 F & none) (search reify depth 20) tt)
      μ at_start h (record { le = tt }) (nonneg_pos 0) (nonneg_pos 40) (lin (μ ∷ []) none (search reify depth 20) tt) (⩽_refl μ)
      (subst (λ b. Within (s *ᵍ gi (pos 1) b) μ) q l)))

  -- ---- quarters of a turn: a of them, from z on
  abbrev w₂ : 𝔾
  w₂ = gi (pos 0) (pos 2 *ℤ Q)

  w₂_length : Within w₂ (pos 2 *ℤ Q)
  w₂_length = record { sign = nonneg_mul (nonneg_pos 2) (nonneg_pos c.quarter_pi); size = lin (Q ∷ []) none (search reify depth 20) tt }

  unit_i : Within iᵍ (pos 1)
  unit_i = record { sign = nonneg_pos 1; size = record { le = tt } }

  module _ {z p : 𝔾} (h : Near z) (g : At z p (pos 1) μ (pos 2)) where
    -- n of one move of length one, either way
    turns : (v : Move) → v.m ≡ 1 → Tied F v → Within v.c (pos 1) → Within v.w (pos 2 *ℤ Q) → (n : ℕ) → n ≤ 5 →
        Near (z +ᵍ ιᵍ (pos n) *ᵍ v.w) → At (z +ᵍ ιᵍ (pos n) *ᵍ v.w) (p *ᵍ v.c ^ᵍ n) (pos 1) μ (pos 12)
    turns v m-is tied c_length w_length n few k = at_path refl refl undivided (once ∙ unscaled)
        (at_weaken (lin (pos n ∷ []) (few &ℕ none) (search reify depth 20) tt)
        (moves F wide narrow T long r s μ given near v tied (pos 1) (pos 2 *ℤ Q) c_length w_length
        (lin (Q ∷ U ∷ []) (promise.quarter_pi_high & two≥1 F & none) (search reify depth 20) tt)
        (subst (λ m. 1 ≤ m) (sym m-is) (omega arith)) (⩽_refl (pos 1)) (nonneg_pos 2) g n
        (subst (λ m. m ⩽ pos 4096) (sym undivided) (record { le = tt })) (lin (pos n ∷ []) (few &ℕ none) (search reify depth 20) tt)
        (parts_convex z v.w n h k)))
      where
        undivided : pos 1 *ℤ pw ℤR (pos v.m) n ≡ pos 1
        undivided = ap (λ m. pos 1 *ℤ pw ℤR (pos m) n) m-is ∙ ap (λ t. pos 1 *ℤ t) (pw_one n)

        once : μ *ℤ pw ℤR (pos 1) n ≡ μ *ℤ pos 1
        once = ap (λ t. μ *ℤ t) (pw_one n)

        unscaled : μ *ℤ pos 1 ≡ μ
        unscaled = ring! ℤR (μ ∷ []) (search reify depth 20) tt

    by_quarters : (a : ℤ) → Size a (pos 5) → Near (z +ᵍ ιᵍ a *ᵍ w₂) → At (z +ᵍ ιᵍ a *ᵍ w₂) (p *ᵍ quarter_turns a) (pos 1) μ (pos 12)
    unfolding quarter_turns
    by_quarters (pos n) l k = turns (quarter c) refl promise.quarters unit_i w₂_length n (pos_inj_le l.hi) k
    by_quarters (negsuc n) l k = at_path (backwards z w₂ n) refl refl refl
        (turns (quarter_back c) refl promise.quarters_back (within_neg unit_i) (within_neg w₂_length) (suc n) (count_back l)
        (subst (λ y. Near y) (sym (backwards z w₂ n)) k))

  -- ---- doublings or halvings: i of them, from z on
  abbrev w₃ : 𝔾
  w₃ = gi H (pos 0)

  w₃_length : Within w₃ H
  w₃_length = record { sign = nonneg_pos c.ln_2; size = lin (H ∷ []) none (search reify depth 20) tt }

  w₃_short : pos 5 *ℤ H ⩽ pos 8 *ℤ U
  w₃_short = lin (H ∷ U ∷ []) (promise.ln_2_high & two≥1 F & none) (search reify depth 20) tt

  module _ {z p : 𝔾} (h : Near z) (g : At z p (pos 1) μ (pos 12)) where
    few : {n : ℕ} → n ≤ 12 → pos 12 +ℤ pos 2 *ℤ pos n ⩽ pos 36
    few {n} l = lin (pos n ∷ []) (l &ℕ none) (search reify depth 20) tt

    doubled : (n : ℕ) → n ≤ 12 → Near (z +ᵍ ιᵍ (pos n) *ᵍ w₃) → At (z +ᵍ ιᵍ (pos n) *ᵍ w₃) (p *ᵍ twoᵍ n) (pos 1) (μ *ℤ two n) (pos 36)
    doubled n l k = at_path refl (ap (λ t. p *ᵍ t) (ι_power (pos 2) n ∙ ap ιᵍ (pw_pos 2 n))) undivided (ap (λ t. μ *ℤ t) (pw_pos 2 n))
        (at_weaken (few l)
        (moves F wide narrow T long r s μ given near (doubling c) promise.doubles (pos 2) H (within_ι (pos 2) (nonneg_pos 2)) w₃_length
        w₃_short (omega arith) (record { le = tt }) (nonneg_pos 12) g n
        (subst (λ m. m ⩽ pos 4096) (sym undivided) (record { le = tt })) (⩽_trans (few l) (record { le = tt })) (parts_convex z w₃ n h k)))
      where
        undivided : pos 1 *ℤ pw ℤR (pos 1) n ≡ pos 1
        undivided = ap (λ t. pos 1 *ℤ t) (pw_one n)

    halved_times : (n : ℕ) → n ≤ 12 → Near (z +ᵍ ιᵍ (pos n) *ᵍ negᵍ w₃) →
        At (z +ᵍ ιᵍ (pos n) *ᵍ negᵍ w₃) (p *ᵍ ιᵍ (pos 1)) (two n) (μ *ℤ pos 1) (pos 36)
    halved_times n l k = at_path refl (ap (λ t. p *ᵍ t) (ι_power (pos 1) n ∙ ap ιᵍ (pw_one n))) (single ∙ pw_pos 2 n)
        (ap (λ t. μ *ℤ t) (pw_one n))
        (at_weaken (few l)
        (moves F wide narrow T long r s μ given near (halving c) promise.halves (pos 1) H (within_ι (pos 1) (nonneg_pos 1))
        (within_neg w₃_length) w₃_short (omega arith) (⩽_refl (pos 1)) (nonneg_pos 12) g n
        (subst (λ m. m ⩽ pos 4096) (sym (single ∙ pw_pos 2 n)) (two_mono n 12 l)) (⩽_trans (few l) (record { le = tt }))
        (parts_convex z (negᵍ w₃) n h k)))
      where
        single : pos 1 *ℤ pw ℤR (pos 2) n ≡ pw ℤR (pos 2) n
        single = ring! ℤR (pw ℤR (pos 2) n ∷ []) (search reify depth 20) tt

    by_doublings : (i : ℤ) → Size i (pos 12) → Near (z +ᵍ ιᵍ i *ᵍ w₃) →
        At (z +ᵍ ιᵍ i *ᵍ w₃) (p *ᵍ twoᵍ (up i)) (two (down i)) (μ *ℤ two (up i)) (pos 36)
    by_doublings (pos n) l k = doubled n (pos_inj_le l.hi) k
    by_doublings (negsuc n) l k = at_path (backwards z w₃ n) refl refl refl
        (halved_times (suc n) (count_back l) (subst (λ y. Near y) (sym (backwards z w₃ n)) k))

  -- ---- all of them
  abbrev p : ℤ
  p = eighths c e

  abbrev i : ℤ
  i = doublings c e

  abbrev z₁ : 𝔾
  z₁ = r +ᵍ ιᵍ (odd p) *ᵍ w₁

  abbrev z₂ : 𝔾
  z₂ = z₁ +ᵍ ιᵍ (halved p) *ᵍ w₂

  there_re : (x b a j R H : ℤ) → x -ℤ b *ℤ R -ℤ j *ℤ H +ℤ b *ℤ R +ℤ a *ℤ pos 0 +ℤ j *ℤ H ≡ x
  there_re x b a j R H = ring! ℤR (x ∷ b ∷ a ∷ j ∷ R ∷ H ∷ []) (search reify depth 20) tt

  there_im : (y p a j Q : ℤ) → y -ℤ p *ℤ Q +ℤ (p -ℤ pos 2 *ℤ a) *ℤ Q +ℤ a *ℤ (pos 2 *ℤ Q) +ℤ j *ℤ pos 0 ≡ y
  there_im y p a j Q = ring! ℤR (y ∷ p ∷ a ∷ j ∷ Q ∷ []) (search reify depth 20) tt

  there : z₂ +ᵍ ιᵍ i *ᵍ w₃ ≡ e
  unfolding left_over turned_re
  there = gi_path
      (moved_re z₂ w₃ i ∙ ap (λ t. t +ℤ i *ℤ H) (moved_re z₁ w₂ (halved p) ∙ ap (λ t. t +ℤ halved p *ℤ pos 0) (moved_re r w₁ (odd p)))
      ∙ there_re e.re (odd p) (halved p) i R H)
      (moved_im z₂ w₃ i
      ∙ ap (λ t. t +ℤ i *ℤ pos 0) (moved_im z₁ w₂ (halved p) ∙ ap (λ t. t +ℤ halved p *ℤ (pos 2 *ℤ Q)) (moved_im r w₁ (odd p)))
      ∙ there_im e.im p (halved p) i Q)

  -- ---- none of the points is far: r and z₁ are small, z₂ has the real part of z₁ and the imaginary one of e
  below : {a : ℕ} {n : ℤ} → n ⩽ pos 100 → pos 100 *ℤ pos a ⩽ n *ℤ U → pos a ⩽ U
  below {a} {n} h k = le_cancel (pos 100) (record { le = tt }) (lin (pos a ∷ n ∷ U ∷ [])
      (k & nonneg_mul (sub_nonneg h) (nonneg_pos (2 ^ F)) & none) (search reify depth 20) tt)

  Q≤U : Q ⩽ U
  Q≤U = below {n = pos 79} (record { le = tt }) promise.quarter_pi_high

  small : Size z₁.re (pos 2 *ℤ U) × Size z₁.im (pos 2 *ℤ U)
  small = (
    subst (λ t. Size t (pos 2 *ℤ U)) (sym (moved_re r w₁ (odd p)))
        (size_moved r.re (odd p) R H U (left_re F (omega arith) c promise e) (odd_lo p) (odd_hi p) (nonneg_pos c.half_ln_2)
        (below {n = pos 70} (record { le = tt }) promise.ln_2_high) (below {n = pos 35} (record { le = tt }) promise.half_ln_2_high)),
    subst (λ t. Size t (pos 2 *ℤ U)) (sym (moved_im r w₁ (odd p)))
        (size_moved r.im (odd p) Q Q U (left_im F (omega arith) c promise e) (odd_lo p) (odd_hi p) (nonneg_pos c.quarter_pi) Q≤U Q≤U),
  )

  ten : {n : ℕ} {z : 𝔾} → n ≤ 10 → Parts z (pos n *ℤ U) → Near z
  ten {n} h k = parts_weaken k (lin (pos n ∷ U ∷ []) (nonneg_mul (sub_nonneg (pos_mono h)) (nonneg_pos (2 ^ F)) & none)
      (search reify depth 20) tt)

  near_r : Near r
  near_r = ten {n = 1} (omega arith) (record {
    re = size_half r.re H U (left_re F (omega arith) c promise e) (below {n = pos 70} (record { le = tt }) promise.ln_2_high);
    im = size_half r.im Q U (left_im F (omega arith) c promise e) Q≤U;
  })

  near_z₁ : Near z₁
  near_z₁ = ten {n = 2} (omega arith) (record { re = small.0; im = small.1 })

  near_e : Near e
  near_e = ten {n = 8} (omega arith) far

  near_z₂ : Near z₂
  near_z₂ = record {
    re = subst (λ t. Size t (pos 10 *ℤ U)) (sym (moved_re z₁ w₂ (halved p) ∙ still z₁.re (halved p))) near_z₁.re;
    im = subst (λ t. Size t (pos 10 *ℤ U)) (sym (ap (λ z. z.im) there) ∙ (moved_im z₂ w₃ i ∙ still z₂.im i)) near_e.im;
  }

  -- THE EXPONENTIAL OF e: s·exp(e)·2^down is s·factor·2^up·exp(r), but for 36 units of μ·2^up
  pub outward : Within (s *ᵍ factor p) μ →
      Within (twoᵍ F *ᵍ (twoᵍ (down i) *ᵍ s *ᵍ Sᵍ (2 ^ F) T e -ᵍ s *ᵍ factor p *ᵍ twoᵍ (up i) *ᵍ Sᵍ (2 ^ F) T r))
      (pos 36 *ℤ (μ *ℤ two (up i)) *ℤ Dᶻ (2 ^ F) T)
  outward length = (at_path there (ap (λ q. q *ᵍ twoᵍ (up i)) turned) refl refl
      (by_doublings near_z₂
      (by_quarters near_z₁ (by_eighths (odd p) (odd_is p) near_r length₁) (halved p) (halved_size p p_size) near_z₂)
      i (doublings_size F (omega arith) c promise e far) (subst (λ z. Near z) (sym there) near_e))).off
    where
      p_size : Size p (pos 10)
      p_size = eighths_size F (omega arith) c promise e far

      turned : s *ᵍ gi (pos 1) (odd p) *ᵍ quarter_turns (halved p) ≡ s *ᵍ factor p
      turned = g_mul_assoc s (gi (pos 1) (odd p)) (quarter_turns (halved p)) ∙ ap (λ q. s *ᵍ q) (sym (split p p_size).is)

      length₁ : Within (s *ᵍ gi (pos 1) (odd p)) μ
      length₁ = record {
        sign = given.sign;
        size = subst (λ t. t ⩽ μ *ℤ μ)
            (N-mul s (factor p) ∙ ap (λ t. N s *ℤ t) (split p p_size).length ∙ sym (N-mul s (gi (pos 1) (odd p)))) length.size;
      }
