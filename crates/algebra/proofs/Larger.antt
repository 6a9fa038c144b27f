-- The larger part of a complex number in size, M in the error bounds of 01.
use mathlib.Core.Path.{◌≡◌, refl}
use mathlib.Core.Bool.{cond}
use mathlib.Core.List.{[], ◌∷◌}
use lib.IntN.{ℤ}
use lib.Signed.{clash_ℤ}
use Rattle.algebra.specs.Gauss.{𝔾}
use Rattle.algebra.specs.Order.{◌⩽◌, ◌⋖◌}
use Rattle.algebra.specs.Size.{Parts, abs, larger}
use Rattle.algebra.proofs.Reify.{reify}
use Rattle.algebra.proofs.Order.{⩽_refl, lt_of_suc_le, tested}
use Rattle.algebra.proofs.Linear.{lin, ◌&◌, none}
use Rattle.algebra.proofs.Parts.{size_abs, abs_size}

-- each part is at most M in size
pub larger_parts : (z : 𝔾) → Parts z (larger z)
unfolding larger
larger_parts z = tested (λ t. Parts z (cond t (abs z.im) (abs z.re))) (abs z.re) (abs z.im)
    (λ h. record { re = abs_size h; im = abs_size (⩽_refl (abs z.im)) })
    (λ h. record {
      re = abs_size (⩽_refl (abs z.re));
      im = abs_size
          (lin (abs z.re ∷ abs z.im ∷ []) (h & none) (search reify depth 20) tt);
    })

-- and M is the least number with that
pub larger_le : {z : 𝔾} {b : ℤ} → Parts z b → larger z ⩽ b
unfolding larger
larger_le {z} {b} h = tested (λ t. cond t (abs z.im) (abs z.re) ⩽ b) (abs z.re) (abs z.im) (λ _. size_abs h.im)
    (λ _. size_abs h.re)

-- which part it is
pub larger_re : (z : 𝔾) → abs z.im ⋖ abs z.re → larger z ≡ abs z.re
unfolding larger
larger_re z h = tested (λ t. cond t (abs z.im) (abs z.re) ≡ abs z.re) (abs z.re) (abs z.im) (λ k. clash_ℤ h k) (λ _. refl)

pub larger_im : (z : 𝔾) → abs z.re ⩽ abs z.im → larger z ≡ abs z.im
unfolding larger
larger_im z h = tested (λ t. cond t (abs z.im) (abs z.re) ≡ abs z.im) (abs z.re) (abs z.im) (λ _. refl)
    (λ k. clash_ℤ (lt_of_suc_le k) h)
