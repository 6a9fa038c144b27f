-- A commutative ring with a map from ℤ, as one record: what the solver, the sums and the series are stated over. ℤ and the complex whole
-- numbers are two.
use mathlib.Core.Path.{◌≡◌, sym, ◌∙◌, ap, ap₂}
use Prim.Native.Nat.{ℕ, zero, suc}
use lib.IntN.{ℤ, pos, negsuc, ◌+ℤ◌, ◌*ℤ◌, neg_ℤ}

pub record Ring : Type 1 where
  pub A : Type 0
  pub add : A → A → A
  pub mul : A → A → A
  pub neg : A → A
  pub ι : ℤ → A
  pub add_assoc : (a b c : A) → add (add a b) c ≡ add a (add b c)
  pub add_comm : (a b : A) → add a b ≡ add b a
  pub add_zero : (a : A) → add a (ι (pos 0)) ≡ a
  pub add_neg : (a : A) → add a (neg a) ≡ ι (pos 0)
  pub mul_assoc : (a b c : A) → mul (mul a b) c ≡ mul a (mul b c)
  pub mul_comm : (a b : A) → mul a b ≡ mul b a
  pub mul_one : (a : A) → mul a (ι (pos 1)) ≡ a
  pub add_mul : (a b c : A) → mul (add a b) c ≡ add (mul a c) (mul b c)
  pub ι_add : (m n : ℤ) → ι (m +ℤ n) ≡ add (ι m) (ι n)
  pub ι_mul : (m n : ℤ) → ι (m *ℤ n) ≡ mul (ι m) (ι n)
  pub ι_neg : (m : ℤ) → ι (neg_ℤ m) ≡ neg (ι m)

module _ (R : Ring) where
  open R use {A, add, mul, neg, ι, add_assoc, add_comm, add_zero, add_neg, mul_assoc, mul_comm, mul_one, add_mul, ι_neg}

  -- a^n
  abbrev pub pw : A → ℕ → A
  pw a zero = ι (pos 1)
  pw a (suc n) = mul (pw a n) a

  pub zero_add : (a : A) → add (ι (pos 0)) a ≡ a
  zero_add a = add_comm (ι (pos 0)) a ∙ add_zero a

  pub inv_unique : (x y : A) → add x y ≡ ι (pos 0) → x ≡ neg y
  inv_unique x y h = sym (add_zero x) ∙ ap (λ t. add x t) (sym (add_neg y)) ∙ sym (add_assoc x y (neg y)) ∙ ap (λ t. add t (neg y)) h
      ∙ zero_add (neg y)

  pub neg_neg : (x : A) → neg (neg x) ≡ x
  neg_neg x = sym (inv_unique x (neg x) (add_neg x))

  pub sub_zero : (x y : A) → add x (neg y) ≡ ι (pos 0) → x ≡ y
  sub_zero x y h = inv_unique x (neg y) h ∙ neg_neg y

  pub zero_mul : (a : A) → mul (ι (pos 0)) a ≡ ι (pos 0)
  zero_mul a = sym (add_zero z) ∙ ap (λ t. add z t) (sym (add_neg z)) ∙ sym (add_assoc z z (neg z))
      ∙ ap (λ t. add t (neg z)) (sym (add_mul (ι (pos 0)) (ι (pos 0)) a) ∙ ap (λ t. mul t a) (add_zero (ι (pos 0)))) ∙ add_neg z
    where
      z : A
      z = mul (ι (pos 0)) a

  pub mul_zero : (a : A) → mul a (ι (pos 0)) ≡ ι (pos 0)
  mul_zero a = mul_comm a (ι (pos 0)) ∙ zero_mul a

  pub one_mul : (a : A) → mul (ι (pos 1)) a ≡ a
  one_mul a = mul_comm (ι (pos 1)) a ∙ mul_one a

  pub mul_add : (a b c : A) → mul a (add b c) ≡ add (mul a b) (mul a c)
  mul_add a b c = mul_comm a (add b c) ∙ add_mul b c a ∙ ap₂ add (mul_comm b a) (mul_comm c a)

  pub neg_mul : (a b : A) → mul (neg a) b ≡ neg (mul a b)
  neg_mul a b = inv_unique (mul (neg a) b) (mul a b)
      (sym (add_mul (neg a) a b) ∙ ap (λ t. mul t b) (add_comm (neg a) a ∙ add_neg a) ∙ zero_mul b)

  pub mul_left_comm : (a b c : A) → mul a (mul b c) ≡ mul b (mul a c)
  mul_left_comm a b c = sym (mul_assoc a b c) ∙ ap (λ t. mul t c) (mul_comm a b) ∙ mul_assoc b a c

  pub swap4 : (a b c d : A) → add (add a b) (add c d) ≡ add (add a c) (add b d)
  swap4 a b c d = add_assoc a b (add c d) ∙ ap (λ t. add a t) (sym (add_assoc b c d) ∙ ap (λ t. add t d) (add_comm b c) ∙ add_assoc c b d)
      ∙ sym (add_assoc a c (add b d))

  pub minus_one : (a : A) → mul (ι (negsuc 0)) a ≡ neg a
  minus_one a = ap (λ t. mul t a) (ι_neg (pos 1)) ∙ neg_mul (ι (pos 1)) a ∙ ap neg (one_mul a)
