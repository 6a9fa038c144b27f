-- Finite sums in a commutative ring: linear, split, exchanged, multiplied, and taken by diagonals.
use mathlib.Core.Path.{◌≡◌, refl, sym, ◌∙◌, ap, ap₂}
use Prim.Native.Nat.{ℕ, zero, suc, ◌+◌, ◌-◌, ◌<◌}
use native.Mathlib.Nat as NatL
use native.Mathlib.Omega.{arith}
use lib.IntN.{pos}
use Rattle.algebra.proofs.Ring.{Ring, swap4, mul_add, mul_zero}

module _ (R : Ring) where
  open R use {A, add, mul, ι, add_assoc, add_comm, add_zero, mul_comm}

  -- f 0 + … + f (n − 1)
  abbrev pub sum : ℕ → (ℕ → A) → A
  sum zero f = ι (pos 0)
  sum (suc n) f = add (sum n f) (f n)

  pub sum_cong : (n : ℕ) (f g : ℕ → A) → ((j : ℕ) → j < n → f j ≡ g j) → sum n f ≡ sum n g
  sum_cong zero f g h = refl
  sum_cong (suc n) f g h = ap₂ add (sum_cong n f g (λ j p. h j (omega arith))) (h n (omega arith))

  pub sum_add : (n : ℕ) (f g : ℕ → A) → sum n (λ j. add (f j) (g j)) ≡ add (sum n f) (sum n g)
  sum_add zero f g = sym (add_zero (ι (pos 0)))
  sum_add (suc n) f g = ap (λ t. add t (add (f n) (g n))) (sum_add n f g) ∙ swap4 R (sum n f) (sum n g) (f n) (g n)

  pub sum_mul : (n : ℕ) (c : A) (f : ℕ → A) → sum n (λ j. mul c (f j)) ≡ mul c (sum n f)
  sum_mul zero c f = sym (mul_zero R c)
  sum_mul (suc n) c f = ap (λ t. add t (mul c (f n))) (sum_mul n c f) ∙ sym (mul_add R c (sum n f) (f n))

  pub sum_mul_r : (n : ℕ) (c : A) (f : ℕ → A) → sum n (λ j. mul (f j) c) ≡ mul (sum n f) c
  sum_mul_r n c f = sum_cong n (λ j. mul (f j) c) (λ j. mul c (f j)) (λ j p. mul_comm (f j) c) ∙ sum_mul n c f ∙ mul_comm c (sum n f)

  pub sum_head : (n : ℕ) (f : ℕ → A) → sum (suc n) f ≡ add (f 0) (sum n (λ j. f (suc j)))
  sum_head zero f = add_comm (ι (pos 0)) (f 0)
  sum_head (suc n) f = ap (λ t. add t (f (suc n))) (sum_head n f) ∙ add_assoc (f 0) (sum n (λ j. f (suc j))) (f (suc n))

  pub sum_split : (m n : ℕ) (f : ℕ → A) → sum (m + n) f ≡ add (sum m f) (sum n (λ j. f (m + j)))
  sum_split m zero f = ap (λ k. sum k f) (NatL.add-zero m) ∙ sym (add_zero (sum m f))
  sum_split m (suc n) f = ap (λ k. sum k f) (NatL.add-suc m n) ∙ ap (λ t. add t (f (m + n))) (sum_split m n f)
      ∙ add_assoc (sum m f) (sum n (λ j. f (m + j))) (f (m + n))

  pub sum_times_sum : (m n : ℕ) (f g : ℕ → A) → mul (sum m f) (sum n g) ≡ sum m (λ i. sum n (λ j. mul (f i) (g j)))
  sum_times_sum m n f g = sym (sum_mul_r m (sum n g) f)
      ∙ sum_cong m (λ i. mul (f i) (sum n g)) (λ i. sum n (λ j. mul (f i) (g j))) (λ i p. sym (sum_mul n (f i) g))

  -- ---- by diagonals
  pub sum_triangle : (n : ℕ) (g : ℕ → ℕ → A) → sum n (λ k. sum (suc k) (λ i. g i (k - i))) ≡ sum n (λ i. sum (n - i) (g i))
  sum_triangle zero g = refl
  sum_triangle (suc n) g = ap (λ t. add t (sum (suc n) (λ i. g i (n - i))))
      (sum_triangle n g ∙ sym (ap (λ t. add (sum n (λ i. sum (n - i) (g i))) t) last ∙ add_zero (sum n (λ i. sum (n - i) (g i)))))
      ∙ sym (sum_cong (suc n) (λ i. sum (suc n - i) (g i)) (λ i. add (sum (n - i) (g i)) (g i (n - i))) row
      ∙ sum_add (suc n) (λ i. sum (n - i) (g i)) (λ i. g i (n - i)))
    where
      last : sum (n - n) (g n) ≡ ι (pos 0)
      last = ap (λ k. sum k (g n)) (NatL.sub_self n)

      row : (i : ℕ) → i < suc n → sum (suc n - i) (g i) ≡ add (sum (n - i) (g i)) (g i (n - i))
      row i h = ap (λ k. sum k (g i)) (one_more i h)
        where
          one_more : (i : ℕ) → i < suc n → suc n - i ≡ suc (n - i)
          one_more i h = omega arith

  -- the product of two truncated series: the truncated product, and what lies beyond
  pub cauchy : (n : ℕ) (f g : ℕ → A) →
      mul (sum n f) (sum n g) ≡ add (sum n (λ k. sum (suc k) (λ i. mul (f i) (g (k - i)))))
      (sum n (λ i. sum i (λ j. mul (f i) (g (n - i + j)))))
  cauchy n f g = sum_times_sum n n f g
      ∙ sum_cong n (λ i. sum n (λ j. mul (f i) (g j)))
      (λ i. add (sum (n - i) (λ j. mul (f i) (g j))) (sum i (λ j. mul (f i) (g (n - i + j))))) cut
      ∙ sum_add n (λ i. sum (n - i) (λ j. mul (f i) (g j))) (λ i. sum i (λ j. mul (f i) (g (n - i + j))))
      ∙ ap (λ t. add t (sum n (λ i. sum i (λ j. mul (f i) (g (n - i + j)))))) (sym (sum_triangle n (λ i j. mul (f i) (g j))))
    where
      cut : (i : ℕ) → i < n → sum n (λ j. mul (f i) (g j)) ≡ add (sum (n - i) (λ j. mul (f i) (g j)))
          (sum i (λ j. mul (f i) (g (n - i + j))))
      cut i h = ap (λ k. sum k (λ j. mul (f i) (g j))) whole ∙ sum_split (n - i) i (λ j. mul (f i) (g j))
        where
          whole : n ≡ n - i + i
          whole = omega arith
