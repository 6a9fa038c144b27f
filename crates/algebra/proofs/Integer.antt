-- ℤ is a commutative ring.
use mathlib.Core.Path.{◌≡◌, refl, sym, ◌∙◌, ap}
use Prim.Native.Nat.{zero, suc}
use lib.IntN.{ℤ, pos, negsuc, suc_ℤ, pred_ℤ, neg_ℤ, ◌+ℤ◌, ◌-ℤ◌, ◌*ℤ◌, one, neg_ℤ-neg_ℤ, +ℤ_idl, +ℤ_idr, +ℤ_assoc, +ℤ_comm, +ℤ_invr, suc_ℤ-+ℤ, pred_ℤ-+ℤ, suc_ℤ-*ℤ, pred_ℤ-*ℤ, neg_ℤ-+ℤ, neg_ℤ-suc_ℤ, neg_ℤ-pred_ℤ, *ℤ_comm, *ℤ-one, zero-*ℤ}
use Rattle.algebra.proofs.Ring.{Ring}

-- induction by successor and predecessor
pub ind : (P : ℤ → Type 0) → P (pos zero) → ((k : ℤ) → P k → P (suc_ℤ k)) → ((k : ℤ) → P k → P (pred_ℤ k)) → (k : ℤ) → P k
ind P z s p (pos zero) = z
ind P z s p (pos (suc n)) = s (pos n) (ind P z s p (pos n))
ind P z s p (negsuc zero) = p (pos zero) z
ind P z s p (negsuc (suc n)) = p (negsuc n) (ind P z s p (negsuc n))

-- (x + y) + z = (x + z) + y
swap : (x y z : ℤ) → x +ℤ y +ℤ z ≡ x +ℤ z +ℤ y
swap x y z = +ℤ_assoc x y z ∙ ap (λ t. x +ℤ t) (+ℤ_comm y z) ∙ sym (+ℤ_assoc x z y)

pub +ℤ-*ℤ : (a b c : ℤ) → (a +ℤ b) *ℤ c ≡ a *ℤ c +ℤ b *ℤ c
+ℤ-*ℤ a b c = ind (λ x. (x +ℤ b) *ℤ c ≡ x *ℤ c +ℤ b *ℤ c)
    (ap (λ t. t *ℤ c) (+ℤ_idl b) ∙ sym (+ℤ_idl (b *ℤ c)) ∙ ap (λ t. t +ℤ b *ℤ c) (sym (zero-*ℤ c)))
    (λ k h. ap (λ t. t *ℤ c) (suc_ℤ-+ℤ k b) ∙ suc_ℤ-*ℤ (k +ℤ b) c ∙ ap (λ t. t +ℤ c) h ∙ swap (k *ℤ c) (b *ℤ c) c
    ∙ ap (λ t. t +ℤ b *ℤ c) (sym (suc_ℤ-*ℤ k c)))
    (λ k h. ap (λ t. t *ℤ c) (pred_ℤ-+ℤ k b) ∙ pred_ℤ-*ℤ (k +ℤ b) c ∙ ap (λ t. t -ℤ c) h ∙ swap (k *ℤ c) (b *ℤ c) (neg_ℤ c)
    ∙ ap (λ t. t +ℤ b *ℤ c) (sym (pred_ℤ-*ℤ k c)))
    a

pub neg_ℤ-*ℤ : (a c : ℤ) → neg_ℤ a *ℤ c ≡ neg_ℤ (a *ℤ c)
neg_ℤ-*ℤ a c = ind (λ x. neg_ℤ x *ℤ c ≡ neg_ℤ (x *ℤ c))
    (zero-*ℤ c ∙ ap neg_ℤ (sym (zero-*ℤ c)))
    (λ k h. ap (λ t. t *ℤ c) (neg_ℤ-suc_ℤ k) ∙ pred_ℤ-*ℤ (neg_ℤ k) c ∙ ap (λ t. t -ℤ c) h ∙ sym (neg_ℤ-+ℤ (k *ℤ c) c)
    ∙ ap neg_ℤ (sym (suc_ℤ-*ℤ k c)))
    (λ k h. ap (λ t. t *ℤ c) (neg_ℤ-pred_ℤ k) ∙ suc_ℤ-*ℤ (neg_ℤ k) c ∙ ap (λ t. t +ℤ c) h ∙ ap (λ t. neg_ℤ (k *ℤ c) +ℤ t) (sym (neg_ℤ-neg_ℤ c))
    ∙ sym (neg_ℤ-+ℤ (k *ℤ c) (neg_ℤ c)) ∙ ap neg_ℤ (sym (pred_ℤ-*ℤ k c)))
    a

pub *ℤ_assoc : (a b c : ℤ) → (a *ℤ b) *ℤ c ≡ a *ℤ (b *ℤ c)
*ℤ_assoc a b c = ind (λ x. (x *ℤ b) *ℤ c ≡ x *ℤ (b *ℤ c))
    (ap (λ t. t *ℤ c) (zero-*ℤ b) ∙ zero-*ℤ c ∙ sym (zero-*ℤ (b *ℤ c)))
    (λ k h. ap (λ t. t *ℤ c) (suc_ℤ-*ℤ k b) ∙ +ℤ-*ℤ (k *ℤ b) b c ∙ ap (λ t. t +ℤ b *ℤ c) h ∙ sym (suc_ℤ-*ℤ k (b *ℤ c)))
    (λ k h. ap (λ t. t *ℤ c) (pred_ℤ-*ℤ k b) ∙ +ℤ-*ℤ (k *ℤ b) (neg_ℤ b) c ∙ ap (λ t. t +ℤ neg_ℤ b *ℤ c) h
    ∙ ap (λ t. k *ℤ (b *ℤ c) +ℤ t) (neg_ℤ-*ℤ b c) ∙ sym (pred_ℤ-*ℤ k (b *ℤ c)))
    a

pub mul_one : (a : ℤ) → a *ℤ pos 1 ≡ a
unfolding one
mul_one a = *ℤ-one a

abbrev pub ℤR : Ring
ℤR = record {
  A = ℤ;
  add = ◌+ℤ◌;
  mul = ◌*ℤ◌;
  neg = neg_ℤ;
  ι = λ z. z;
  add_assoc = +ℤ_assoc;
  add_comm = +ℤ_comm;
  add_zero = +ℤ_idr;
  add_neg = +ℤ_invr;
  mul_assoc = *ℤ_assoc;
  mul_comm = *ℤ_comm;
  mul_one = mul_one;
  add_mul = +ℤ-*ℤ;
  ι_add = λ m n. refl;
  ι_mul = λ m n. refl;
  ι_neg = λ m. refl;
}
