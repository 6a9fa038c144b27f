-- THE LAW of the step: within half-units/2 units of the exact product in each part, from what the quotient rounds.
use mathlib.Core.Path.{◌≡◌, ◌∙◌, ap}
use mathlib.Core.List.{List, [], ◌∷◌}
use Prim.Native.Nat.{ℕ, suc, ◌*◌, ◌^◌}
use native.Mathlib.Omega.{arith}
use lib.IntN.{ℤ, pos, ◌+ℤ◌, ◌-ℤ◌, ◌*ℤ◌}
use Rattle.algebra.specs.Gauss.{𝔾, ◌+ᵍ◌, ◌-ᵍ◌, ◌*ᵍ◌, negᵍ, ιᵍ, two, twoᵍ}
use Rattle.algebra.specs.Rounding.{nearest}
use Rattle.algebra.specs.Size.{Size, Parts}
use Rattle.algebra.proofs.Integer.{ℤR}
use Rattle.algebra.proofs.Gauss.{gi_path}
use Rattle.algebra.proofs.Reify.{ring!, reify}
use Rattle.algebra.proofs.Order.{⩽_antisym, nonneg_pos}
use Rattle.algebra.proofs.Linear.{lin, ◌&◌, ◌&≡◌, none}
use Rattle.algebra.proofs.Power.{two_pos, two≥1, two_suc}
use Rattle.algebra.proofs.Floor.{floor_unique}
use Rattle.algebra.proofs.Parts.{size_weaken, size_off, size_nearest, parts_cancel, parts_weaken}
use Rattle.point.specs.Point.{nought}
use Rattle.point.specs.Step.{quotient, step}

-- a quotient, 2^n times, is off by at most this many half units
abbrev pub half_units : ℤ
half_units = pos 1

pub quotient_off : (v : ℤ) (n : ℕ) → Size (pos 2 *ℤ (two n *ℤ quotient v n -ℤ v)) (half_units *ℤ two n)
unfolding quotient
quotient_off v n = size_weaken (size_off (2 ^ n) (two_pos n) v) (lin (two n ∷ []) none (search reify depth 20) tt)

-- a half goes up, below zero too: (2k + 1)·2^n over 2^(n + 1) is k + 1/2
pub quotient_tie : (k : ℤ) (n : ℕ) → quotient ((pos 2 *ℤ k +ℤ pos 1) *ℤ two n) (suc n) ≡ k +ℤ pos 1
unfolding quotient nearest
quotient_tie k n = floor_unique (2 * 2 ^ suc n) (omega (arith, two_pos (suc n))) (pos 2 *ℤ ((pos 2 *ℤ k +ℤ pos 1) *ℤ two n) +ℤ two (suc n))
    (k +ℤ pos 1)
    (lin (k ∷ two n ∷ two (suc n) ∷ []) (two_suc n &≡ twice &≡ none) (search reify depth 20) tt)
    (lin (k ∷ two n ∷ two (suc n) ∷ []) (two_suc n &≡ twice &≡ two≥1 (suc n) & none) (search reify depth 20) tt)
  where
    twice : k *ℤ two (suc n) ≡ k *ℤ (pos 2 *ℤ two n)
    twice = ap (λ u. k *ℤ u) (two_suc n)

-- and no larger than v in size
pub quotient_size : {v b : ℤ} (n : ℕ) → Size v b → Size (quotient v n) b
unfolding quotient
quotient_size n h = size_nearest (2 ^ n) (two_pos n) h

-- 2^n·w less (2^n + d)·z: what w is off the exact product by, in 1/2^n of a unit
abbrev pub off : ℕ → 𝔾 → 𝔾 → 𝔾 → 𝔾
off n d z w = twoᵍ n *ᵍ w -ᵍ (twoᵍ n +ᵍ d) *ᵍ z

-- THE LAW of the step, whatever the digit is: in each part it is within half-units/2 units of the exact product
pub step_off : (n : ℕ) (d z : 𝔾) → Parts (ιᵍ (pos 2) *ᵍ off n d z (step n d z)) (half_units *ℤ two n)
unfolding step ◌+ᵍ◌ ◌*ᵍ◌ negᵍ ιᵍ
step_off n d z = record {
  re = record {
    lo = lin ρ ((quotient_off u n).lo & none) (search reify depth 20) tt;
    hi = lin ρ ((quotient_off u n).hi & none) (search reify depth 20) tt;
  };
  im = record {
    lo = lin ρ ((quotient_off v n).lo & none) (search reify depth 20) tt;
    hi = lin ρ ((quotient_off v n).hi & none) (search reify depth 20) tt;
  };
}
  where
    u : ℤ
    u = d.re *ℤ z.re -ℤ d.im *ℤ z.im

    v : ℤ
    v = d.re *ℤ z.im +ℤ d.im *ℤ z.re

    ρ : List ℤ
    ρ = two n ∷ d.re ∷ d.im ∷ z.re ∷ z.im ∷ quotient u n ∷ quotient v n ∷ []

-- nought stays nought
pub step_nought : (n : ℕ) (d : 𝔾) → step n d nought ≡ nought
unfolding step
step_nought n d = gi_path (part (d.re *ℤ pos 0 -ℤ d.im *ℤ pos 0) (ring! ℤR (d.re ∷ d.im ∷ []) (search reify depth 20) tt))
    (part (d.re *ℤ pos 0 +ℤ d.im *ℤ pos 0) (ring! ℤR (d.re ∷ d.im ∷ []) (search reify depth 20) tt))
  where
    no_size : Size (quotient (pos 0) n) (pos 0)
    no_size = quotient_size n (record { lo = record { le = tt }; hi = record { le = tt } })

    part : (v : ℤ) → v ≡ pos 0 → pos 0 +ℤ quotient v n ≡ pos 0
    part v e = ap (λ u. pos 0 +ℤ quotient u n) e ∙ ap (λ q. pos 0 +ℤ q) (⩽_antisym no_size.hi no_size.lo)

-- within one unit, then, and that under any rounding
pub step_error : (n : ℕ) (d z : 𝔾) → Parts (off n d z (step n d z)) (two n)
step_error n d z = parts_cancel (pos 2) (record { le = tt })
    (parts_weaken (step_off n d z) (lin (two n ∷ []) (nonneg_pos (2 ^ n) & none) (search reify depth 20) tt))
