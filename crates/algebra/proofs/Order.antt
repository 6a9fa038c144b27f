-- The order of ℤ: its laws with the sum, the product and the naturals, and tests of it.
use mathlib.Core.Path.{◌≡◌, refl, sym, ap, subst, subst₂}
use mathlib.Core.Bool.{Bool, true, false, not}
use mathlib.Core.Logic.{◌⊎◌, inl, inr, ⊎_elim}
use Prim.Native.Nat.{ℕ, zero, suc, ◌+◌, ◌*◌, ◌≤◌, zero-le, suc-le-suc}
use native.Mathlib.Nat.{le_of_suc-le-suc, le_trans, le_antisymm, not-suc-le-zero}
use lib.Dec.{T, leb, leb→le, le→leb, ltb→lt, lt→ltb}
use lib.IntN.{ℤ, pos, negsuc, suc_ℤ, pred_ℤ, neg_ℤ, ◌+ℤ◌, ◌-ℤ◌, ◌*ℤ◌, +ℤ_idr, +ℤ-suc_ℤ, +ℤ-pred_ℤ, +ℤ_invr, +ℤ_one}
use lib.Signed.{◌<ℤ◌, le_z, lt_z, lt_z_yes, lt_z_no, ≤ℤ_refl}
use Rattle.algebra.specs.Order.{◌⩽◌, ◌⋖◌}
use Rattle.algebra.proofs.Integer.{ind}

-- ---- laws of ≤ℤ
trans' : (a b c : ℤ) → T (le_z a b) → T (le_z b c) → T (le_z a c)
trans' (pos a) (pos b) (pos c) h k = le→leb a c (le_trans (leb→le a b h) (leb→le b c k))
trans' (pos a) (pos b) (negsuc c) h k = k
trans' (pos a) (negsuc b) c h k = absurd h
trans' (negsuc a) (pos b) (pos c) h k = tt
trans' (negsuc a) (pos b) (negsuc c) h k = absurd k
trans' (negsuc a) (negsuc b) (pos c) h k = tt
trans' (negsuc a) (negsuc b) (negsuc c) h k = le→leb c a (le_trans (leb→le c b k) (leb→le b a h))

pub ⩽_trans : {a b c : ℤ} → a ⩽ b → b ⩽ c → a ⩽ c
⩽_trans {a} {b} {c} h k = record { le = trans' a b c h.le k.le }

pub ⩽_refl : (a : ℤ) → a ⩽ a
⩽_refl a = ≤ℤ_refl a

pub ⩽_of_eq : {a b : ℤ} → a ≡ b → a ⩽ b
⩽_of_eq {a} p = subst (λ t. a ⩽ t) p (≤ℤ_refl a)

suc_mono : (a b : ℤ) → T (le_z a b) → T (le_z (suc_ℤ a) (suc_ℤ b))
suc_mono (pos a) (pos b) h = le→leb (suc a) (suc b) (suc-le-suc (leb→le a b h))
suc_mono (pos a) (negsuc b) h = absurd h
suc_mono (negsuc zero) (pos b) h = le→leb zero (suc b) zero-le
suc_mono (negsuc (suc a)) (pos b) h = tt
suc_mono (negsuc zero) (negsuc zero) h = h
suc_mono (negsuc zero) (negsuc (suc b)) h = absurd (not-suc-le-zero (leb→le (suc b) zero h))
suc_mono (negsuc (suc a)) (negsuc zero) h = tt
suc_mono (negsuc (suc a)) (negsuc (suc b)) h = le→leb b a (le_of_suc-le-suc (leb→le (suc b) (suc a) h))

pred_mono : (a b : ℤ) → T (le_z a b) → T (le_z (pred_ℤ a) (pred_ℤ b))
pred_mono (pos zero) (pos zero) h = h
pred_mono (pos zero) (pos (suc b)) h = tt
pred_mono (pos (suc a)) (pos zero) h = absurd (not-suc-le-zero (leb→le (suc a) zero h))
pred_mono (pos (suc a)) (pos (suc b)) h = le→leb a b (le_of_suc-le-suc (leb→le (suc a) (suc b) h))
pred_mono (pos a) (negsuc b) h = absurd h
pred_mono (negsuc a) (pos zero) h = le→leb zero (suc a) zero-le
pred_mono (negsuc a) (pos (suc b)) h = tt
pred_mono (negsuc a) (negsuc b) h = le→leb (suc b) (suc a) (suc-le-suc (leb→le b a h))

pub +ℤ_mono_r : {a b : ℤ} (c : ℤ) → a ⩽ b → a +ℤ c ⩽ b +ℤ c
+ℤ_mono_r {a} {b} c h = ind (λ x. a +ℤ x ⩽ b +ℤ x)
    (subst₂ ◌⩽◌ (sym (+ℤ_idr a)) (sym (+ℤ_idr b)) h)
    (λ x p. subst₂ ◌⩽◌ (sym (+ℤ-suc_ℤ a x)) (sym (+ℤ-suc_ℤ b x)) (record { le = suc_mono (a +ℤ x) (b +ℤ x) p.le }))
    (λ x p. subst₂ ◌⩽◌ (sym (+ℤ-pred_ℤ a x)) (sym (+ℤ-pred_ℤ b x)) (record { le = pred_mono (a +ℤ x) (b +ℤ x) p.le }))
    c

-- a ≤ b exactly where b − a is not negative
pub sub_nonneg : {a b : ℤ} → a ⩽ b → pos 0 ⩽ b -ℤ a
sub_nonneg {a} {b} h = subst (λ t. t ⩽ b -ℤ a) (+ℤ_invr a) (+ℤ_mono_r (neg_ℤ a) h)

pub nonneg_pos : (n : ℕ) → pos 0 ⩽ pos n
nonneg_pos n = record { le = le→leb 0 n zero-le }

pub nonneg_add : {a b : ℤ} → pos 0 ⩽ a → pos 0 ⩽ b → pos 0 ⩽ a +ℤ b
nonneg_add {a = pos m} {b = pos n} h k = nonneg_pos (m + n)
nonneg_add {a = pos m} {b = negsuc n} h k = absurd k.le
nonneg_add {a = negsuc m} {b} h k = absurd h.le

pub nonneg_mul : {a b : ℤ} → pos 0 ⩽ a → pos 0 ⩽ b → pos 0 ⩽ a *ℤ b
nonneg_mul {a = pos m} {b = pos n} h k = nonneg_pos (m * n)
nonneg_mul {a = pos m} {b = negsuc n} h k = absurd k.le
nonneg_mul {a = negsuc m} {b} h k = absurd h.le

pub nonneg_sq : (a : ℤ) → pos 0 ⩽ a *ℤ a
nonneg_sq (pos n) = nonneg_pos (n * n)
nonneg_sq (negsuc n) = nonneg_pos (suc n * suc n)

anti' : (a b : ℤ) → T (le_z a b) → T (le_z b a) → a ≡ b
anti' (pos a) (pos b) h g = ap pos (le_antisymm (leb→le a b h) (leb→le b a g))
anti' (pos a) (negsuc b) h g = absurd h
anti' (negsuc a) (pos b) h g = absurd g
anti' (negsuc a) (negsuc b) h g = ap negsuc (le_antisymm (leb→le a b g) (leb→le b a h))

pub ⩽_antisym : {a b : ℤ} → a ⩽ b → b ⩽ a → a ≡ b
⩽_antisym {a} {b} h g = anti' a b h.le g.le

-- ---- the strict order, and ℕ's
pub pos_mono : {m n : ℕ} → m ≤ n → pos m ⩽ pos n
pos_mono {m} {n} h = record { le = le→leb m n h }

pub pos_inj_le : {m n : ℕ} → pos m ⩽ pos n → m ≤ n
pos_inj_le {m} {n} h = leb→le m n h.le

lt' : (a b : ℤ) → T (lt_z a b) → T (le_z (suc_ℤ a) b)
lt' (pos a) (pos b) h = le→leb (suc a) b (ltb→lt a b h)
lt' (pos a) (negsuc b) h = absurd h
lt' (negsuc zero) (pos b) h = le→leb 0 b zero-le
lt' (negsuc (suc a)) (pos b) h = tt
lt' (negsuc zero) (negsuc b) h = absurd (not-suc-le-zero (ltb→lt b 0 h))
lt' (negsuc (suc a)) (negsuc b) h = le→leb b a (le_of_suc-le-suc (ltb→lt b (suc a) h))

pub suc_le_of_lt : {a b : ℤ} → a <ℤ b → a +ℤ pos 1 ⩽ b
suc_le_of_lt {a} {b} h = subst (λ t. t ⩽ b) (sym (+ℤ_one a)) (record { le = lt' a b h.lt })

gt' : (a b : ℤ) → T (le_z (suc_ℤ a) b) → T (lt_z a b)
gt' (pos a) (pos b) h = lt→ltb a b (leb→le (suc a) b h)
gt' (pos a) (negsuc b) h = h
gt' (negsuc a) (pos b) h = tt
gt' (negsuc zero) (negsuc b) h = absurd h
gt' (negsuc (suc a)) (negsuc b) h = lt→ltb b (suc a) (suc-le-suc (leb→le b a h))

pub lt_of_suc_le : {a b : ℤ} → a +ℤ pos 1 ⩽ b → a <ℤ b
lt_of_suc_le {a} {b} h = record { lt = gt' a b (subst (λ t. t ⩽ b) (+ℤ_one a) h).le }

-- a ≤ b, or b + 1 ≤ a
le_or' : (a b : ℕ) → T (leb a b) ⊎ (suc b ≤ a)
le_or' zero b = inl (le→leb zero b zero-le)
le_or' (suc a) zero = inr (suc-le-suc zero-le)
le_or' (suc a) (suc b) = ⊎_elim (λ p. inl (le→leb (suc a) (suc b) (suc-le-suc (leb→le a b p)))) (λ q. inr (suc-le-suc q)) (le_or' a b)

suc_le : (a b : ℤ) → (a ⩽ b) ⊎ (suc_ℤ b ⩽ a)
suc_le (pos a) (pos b) = ⊎_elim (λ p. inl (record { le = p })) (λ q. inr (record { le = le→leb (suc b) a q })) (le_or' a b)
suc_le (pos a) (negsuc zero) = inr (nonneg_pos a)
suc_le (pos a) (negsuc (suc b)) = inr (record { le = tt })
suc_le (negsuc a) (pos b) = inl (record { le = tt })
suc_le (negsuc a) (negsuc zero) = inl (record { le = le→leb zero a zero-le })
suc_le (negsuc a) (negsuc (suc b)) = ⊎_elim (λ p. inl (record { le = p })) (λ q. inr (record { le = le→leb a b (le_of_suc-le-suc q) }))
    (le_or' (suc b) a)

pub le_or_gt : (a b : ℤ) → (a ⩽ b) ⊎ (b +ℤ pos 1 ⩽ a)
le_or_gt a b = ⊎_elim (λ p. inl p) (λ q. inr (subst (λ t. t ⩽ a) (sym (+ℤ_one b)) q)) (suc_le a b)

-- ---- what is shown where a ≤ b (a < b), and where that fails, is shown of the test
pub tested : (P : Bool → Type 0) (a b : ℤ) → (a ⩽ b → P true) → (b +ℤ pos 1 ⩽ a → P false) → P (le_z a b)
tested P a b passed failed = go (le_z a b) refl
  where
    over : le_z a b ≡ false → b +ℤ pos 1 ⩽ a
    over e = ⊎_elim (λ h. absurd (subst T e h.le)) (λ h. h) (le_or_gt a b)

    go : (t : Bool) → le_z a b ≡ t → P t
    go true e = passed (record { le = subst T (sym e) tt })
    go false e = failed (over e)

pub tested< : (P : Bool → Type 0) (a b : ℤ) → (a ⋖ b → P true) → (b ⩽ a → P false) → P (lt_z a b)
tested< P a b passed failed = go (lt_z a b) (λ t. lt_z_yes t) (λ t. lt_z_no t)
  where
    go : (t : Bool) → (T t → a ⋖ b) → (T (not t) → b ⩽ a) → P t
    go true below above = passed (below tt)
    go false below above = failed (above tt)
