-- Tests of signed numbers as facts of the order, and back.
use mathlib.Core.Path.{◌≡◌, refl, sym, subst}
use mathlib.Core.Bool.{Bool, true, false, not}
use lib.Dec.{T}
use lib.IntN.{ℤ, neg_ℤ}
use lib.Signed.{lt_z, le_z, lt_z_no, clash_ℤ}
use Rattle.algebra.specs.Order.{◌⩽◌, ◌⋖◌}
use Rattle.algebra.specs.Size.{Size}
use Rattle.algebra.proofs.Test.{and_left, and_right}
use Rattle.word.specs.Compare.{between}

-- ---- a test that came out true or false, as the code's branches tell it
pub holds : {t : Bool} → t ≡ true → T t
holds e = subst T (sym e) tt

pub fails : {t : Bool} → t ≡ false → T (not t)
fails e = subst (λ t. T (not t)) (sym e) tt

is_true : {t : Bool} → T t → t ≡ true
is_true {t = true} h = refl
is_true {t = false} h = absurd h

is_false : {t : Bool} → (T t → ⊥) → t ≡ false
is_false {t = true} h = absurd (h tt)
is_false {t = false} h = refl

-- ---- from a test

pub lt_z_false : {x y : ℤ} → lt_z x y ≡ false → y ⩽ x
lt_z_false e = lt_z_no (fails e)

-- ---- to a test
pub le_le_z : {x y : ℤ} → x ⩽ y → le_z x y ≡ true
le_le_z h = is_true h.le

pub lt_le_z : {x y : ℤ} → y ⋖ x → le_z x y ≡ false
lt_le_z {x} {y} h = is_false (λ t. clash_ℤ {a = y} {b = x} h (record { le = t }))

pub lt_lt_z : {x y : ℤ} → x ⋖ y → lt_z x y ≡ true
lt_lt_z h = is_true h.lt

pub le_lt_z : {x y : ℤ} → y ⩽ x → lt_z x y ≡ false
le_lt_z {x} {y} h = is_false (λ t. clash_ℤ {a = x} {b = y} (record { lt = t }) h)

pub between_true : {lo hi x : ℤ} → between lo hi x ≡ true → (lo ⩽ x) × (x ⩽ hi)
unfolding between
between_true {lo} {hi} {x} e = (
  record { le = and_left (le_z lo x) (le_z x hi) (holds e) },
  record { le = and_right (le_z lo x) (le_z x hi) (holds e) },
)

pub is_between : {lo hi x : ℤ} → lo ⩽ x → x ⩽ hi → between lo hi x ≡ true
unfolding between
is_between h k = rw (le_le_z h, le_le_z k)

-- a size is compared without negating, since −2^63 has none
pub size_between : {x b : ℤ} → between (neg_ℤ b) b x ≡ true → Size x b
size_between e = let h = between_true e in record { lo = h.0; hi = h.1 }
