-- What the digits of a mode say: of the number that each part was read off, and how LOG's brings the point nearer to one.
use mathlib.Core.Bool.{Bool, true, false, not, cond}
use mathlib.Core.List.{List, [], ◌∷◌}
use mathlib.Core.Path.{◌≡◌, sym, ap₂}
use Prim.Native.Nat.{ℕ, ◌<◌}
use lib.Dec.{T}
use lib.IntN.{ℤ, pos, negsuc, neg_ℤ, ◌+ℤ◌, ◌-ℤ◌, ◌*ℤ◌}
use lib.Signed.{shr_z, lt_z, le_z, lt_z_yes, lt_z_no}
use Rattle.algebra.specs.Gauss.{𝔾, ιᵍ, negᵍ, ◌+ᵍ◌, ◌-ᵍ◌, ◌*ᵍ◌, two, twoᵍ}
use Rattle.algebra.specs.Order.{◌⩽◌, ◌⋖◌}
use Rattle.algebra.specs.Size.{Size, Parts}
use Rattle.algebra.proofs.Reify.{reify}
use Rattle.algebra.proofs.Order.{tested, tested<, nonneg_mul, nonneg_pos, sub_nonneg}
use Rattle.algebra.proofs.Inequality.{below_next, le_cancel}
use Rattle.algebra.proofs.Linear.{lin, lin<, ◌&◌, ◌&<◌, none}
use Rattle.algebra.proofs.Floor.{floor_lo, floor_hi}
use Rattle.word.proofs.Compare.{le_le_z, lt_le_z, lt_lt_z, le_lt_z}
use Rattle.point.specs.Digit.{Trit, t-, t0, t+, IsDigit}
use Rattle.point.specs.Point.{gauss}
use Rattle.iteration.specs.declared.State.{State}
use Rattle.iteration.specs.Select.{Mode, Exp, Log, exp_select, log_select, low_x, high_x, low_y, high_y, cut, half, cut_back}
use Rattle.iteration.specs.Run.{select}

-- ---- what a part of EXP's digit says of the number that it was read off
pub data Cut (lo hi x : ℤ) : ℤ → Type 0 where
  minus : x ⋖ lo → Cut lo hi x (negsuc 0)
  nought : lo ⩽ x → x ⋖ hi → Cut lo hi x (pos 0)
  plus : hi ⩽ x → Cut lo hi x (pos 1)

abbrev chosen : Bool → Bool → ℤ
chosen below-lo below-hi = cond below-lo (negsuc 0) (cond below-hi (pos 0) (pos 1))

pub cut_says : (lo hi x : ℤ) → Cut lo hi x (cut lo hi x)
cut_says lo hi x = go (lt_z x lo) (lt_z x hi) (λ p. lt_z_yes p) (λ p. lt_z_no p) (λ p. lt_z_yes p) (λ p. lt_z_no p)
  where
    go : (b c : Bool) → (T b → x ⋖ lo) → (T (not b) → lo ⩽ x) → (T c → x ⋖ hi) → (T (not c) → hi ⩽ x) → Cut lo hi x (chosen b c)
    go true c f g k l = minus (f tt)
    go false true f g k l = nought (g tt) (k tt)
    go false false f g k l = plus (l tt)

pub cut_trit : (lo hi x : ℤ) → Trit (cut lo hi x)
cut_trit lo hi x = go (lt_z x lo) (lt_z x hi)
  where
    go : (b c : Bool) → Trit (chosen b c)
    go true c = t-
    go false true = t0
    go false false = t+

pub exp_digit : (F n : ℕ) (e : 𝔾) → IsDigit (exp_select F n e)
unfolding exp_select
exp_digit F n e = record { x = cut_trit (low_x F n) (high_x F n) e.re; y = cut_trit (low_y F n) (high_y F n) e.im }

-- ---- a cut of a scaled number, and of a floored one
less_scaled : (c : ℤ) → pos 1 ⩽ c → (x a : ℤ) → lt_z (c *ℤ x) (c *ℤ a) ≡ lt_z x a
less_scaled c h x a = tested< (λ b. b ≡ lt_z x a) (c *ℤ x) (c *ℤ a)
    (λ l. sym (lt_lt_z {x = x} {y = a} (lin< (x ∷ a ∷ []) (below_next {a = x} {b = a -ℤ pos 1} c h
    (lin (c ∷ x ∷ a ∷ []) (l &< none) (search reify depth 20) tt) & none) (search reify depth 20) tt)))
    (λ l. sym (le_lt_z {x = x} {y = a} (le_cancel c h l)))

pub cut_scaled : (c : ℤ) → pos 1 ⩽ c → (lo hi x : ℤ) → cut (c *ℤ lo) (c *ℤ hi) (c *ℤ x) ≡ cut lo hi x
cut_scaled c h lo hi x = ap₂ chosen (less_scaled c h x lo) (less_scaled c h x hi)

-- floor(z/m) < a exactly where z < m·a
less_floor : (m : ℕ) → 0 < m → (z a : ℤ) → lt_z (shr_z z m) a ≡ lt_z z (pos m *ℤ a)
less_floor m h z a = tested< (λ b. b ≡ lt_z z (pos m *ℤ a)) (shr_z z m) a
    (λ l. sym (lt_lt_z {x = z} {y = pos m *ℤ a} (lin< ρ
    (floor_hi m h z & nonneg_mul (nonneg_pos m) (next l) & none) (search reify depth 20) tt)))
    (λ l. sym (le_lt_z {x = z} {y = pos m *ℤ a} (lin ρ
    (floor_lo m h z & nonneg_mul (nonneg_pos m) (sub_nonneg l) & none) (search reify depth 20) tt)))
  where
    ρ : List ℤ
    ρ = pos m ∷ z ∷ a ∷ shr_z z m ∷ []

    next : shr_z z m ⋖ a → pos 0 ⩽ a -ℤ pos 1 -ℤ shr_z z m
    next l = lin (a ∷ shr_z z m ∷ []) (l &< none) (search reify depth 20) tt

pub cut_floor : (m : ℕ) → 0 < m → (lo hi z : ℤ) → cut lo hi (shr_z z m) ≡ cut (pos m *ℤ lo) (pos m *ℤ hi) z
cut_floor m h lo hi z = ap₂ chosen (less_floor m h z lo) (less_floor m h z hi)

-- ---- a part of LOG's digit: the tests with the thresholds around one
module _ (t one x : ℤ) where
  abbrev u : ℤ
  u = x -ℤ one

  pub above_one : le_z (one +ℤ t) x ≡ le_z t u
  above_one = tested (λ b. b ≡ le_z t u) (one +ℤ t) x
      (λ h. sym (le_le_z {x = t} {y = u} (lin (t ∷ one ∷ x ∷ []) (h & none) (search reify depth 20) tt)))
      (λ h. sym (lt_le_z {x = t} {y = u} (lin< (t ∷ one ∷ x ∷ []) (h & none) (search reify depth 20) tt)))

  pub below_one : le_z x (one -ℤ t) ≡ le_z u (neg_ℤ t)
  below_one = tested (λ b. b ≡ le_z u (neg_ℤ t)) x (one -ℤ t)
      (λ h. sym (le_le_z {x = u} {y = neg_ℤ t} (lin (t ∷ one ∷ x ∷ []) (h & none) (search reify depth 20) tt)))
      (λ h. sym (lt_le_z {x = u} {y = neg_ℤ t} (lin< (t ∷ one ∷ x ∷ []) (h & none) (search reify depth 20) tt)))

by_back : (P : ℤ → Type 0) (t u : ℤ) → (u ⩽ neg_ℤ t → P (pos 1)) → (t ⩽ u → P (negsuc 0)) →
    (neg_ℤ t +ℤ pos 1 ⩽ u → u +ℤ pos 1 ⩽ t → P (pos 0)) →
    P (cut_back t u)
unfolding cut_back
by_back P t u low high mid = tested (λ b. P (cond b (pos 1) (cond (le_z t u) (negsuc 0) (pos 0)))) u (neg_ℤ t) low
    (λ h. tested (λ b. P (cond b (negsuc 0) (pos 0))) t u high (λ g. mid h g))

back_trit : (t u : ℤ) → Trit (cut_back t u)
back_trit t u = by_back Trit t u (λ _. t+) (λ _. t-) (λ _ _. t0)

pub log_digit : (F n : ℕ) (v : 𝔾) → IsDigit (log_select F n v)
unfolding log_select
log_digit F n v = record { x = back_trit (half F n) (v.re -ℤ two F); y = back_trit (half F n) v.im }

-- ---- it brings u from 3/2 of 1/2^n down to 1/2 of it: |2^n·u + d| ≤ 1/2
back_near : (t u : ℤ) → Size u (pos 3 *ℤ t) → Size (u +ℤ pos 2 *ℤ t *ℤ cut_back t u) t
back_near t u s = by_back (λ d. Size (u +ℤ pos 2 *ℤ t *ℤ d) t) t u
    (λ h. record {
      lo = lin (t ∷ u ∷ []) (h & s.lo & none) (search reify depth 20) tt;
      hi = lin (t ∷ u ∷ []) (h & none) (search reify depth 20) tt;
    })
    (λ h. record {
      lo = lin (t ∷ u ∷ []) (h & none) (search reify depth 20) tt;
      hi = lin (t ∷ u ∷ []) (h & s.hi & none) (search reify depth 20) tt;
    })
    (λ h g. record {
      lo = lin (t ∷ u ∷ []) (h & none) (search reify depth 20) tt;
      hi = lin (t ∷ u ∷ []) (g & none) (search reify depth 20) tt;
    })

pub log_near : (F n : ℕ) (v : 𝔾) → Parts (v -ᵍ twoᵍ F) (pos 3 *ℤ half F n) →
    Parts (v -ᵍ twoᵍ F +ᵍ ιᵍ (pos 2) *ᵍ ιᵍ (half F n) *ᵍ log_select F n v) (half F n)
unfolding log_select ιᵍ negᵍ ◌+ᵍ◌ ◌*ᵍ◌
log_near F n v s = record {
  re = record {
    lo = lin (v.re ∷ U ∷ t ∷ dx ∷ dy ∷ []) ((back_near t (v.re -ℤ U) s.re).lo & none) (search reify depth 20) tt;
    hi = lin (v.re ∷ U ∷ t ∷ dx ∷ dy ∷ []) ((back_near t (v.re -ℤ U) s.re).hi & none) (search reify depth 20) tt;
  };
  im = record {
    lo = lin (v.im ∷ t ∷ dx ∷ dy ∷ []) ((back_near t v.im sy).lo & none) (search reify depth 20) tt;
    hi = lin (v.im ∷ t ∷ dx ∷ dy ∷ []) ((back_near t v.im sy).hi & none) (search reify depth 20) tt;
  };
}
  where
    U : ℤ
    U = two F

    t : ℤ
    t = half F n

    dx : ℤ
    dx = cut_back t (v.re -ℤ U)

    dy : ℤ
    dy = cut_back t v.im

    sy : Size v.im (pos 3 *ℤ t)
    sy = record {
      lo = lin (v.im ∷ t ∷ []) (s.im.lo & none) (search reify depth 20) tt;
      hi = lin (v.im ∷ t ∷ []) (s.im.hi & none) (search reify depth 20) tt;
    }

pub select_digit : (F : ℕ) (mode : Mode) (n : ℕ) (x : State) → IsDigit (select F mode n x)
unfolding select
select_digit F Exp n x = exp_digit F n (gauss x.sum)
select_digit F Log n x = log_digit F n (gauss x.point)
