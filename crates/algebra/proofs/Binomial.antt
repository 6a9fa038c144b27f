-- Powers in a commutative ring, and the binomial theorem.
use mathlib.Core.Path.{◌≡◌, refl, sym, ◌∙◌, ap, ap₂}
use mathlib.Core.List.{[], ◌∷◌}
use Prim.Native.Nat.{ℕ, zero, suc, ◌+◌, ◌-◌, ◌<◌}
use native.Mathlib.Nat as NatL
use native.Mathlib.Omega.{arith}
use lib.IntN.{pos}
use Rattle.algebra.proofs.Ring.{Ring, pw, mul_add, zero_mul}
use Rattle.algebra.proofs.Reify.{ring!, reifyᴿ}
use Rattle.algebra.proofs.Sum.{sum, sum_cong, sum_add, sum_mul_r, sum_head}
use Rattle.algebra.proofs.Choose.{choose}

pub choose_over : (m : ℕ) (j : ℕ) → m < j → choose m j ≡ 0
unfolding choose
choose_over m zero h = absurd (NatL.not-suc-le-zero h)
choose_over zero (suc j) h = refl
choose_over (suc m) (suc j) h = ap₂ ◌+◌ (choose_over m j (omega arith)) (choose_over m (suc j) (omega arith))

module _ (R : Ring) where
  open R use {A, add, mul, ι, add_zero, mul_assoc, mul_one, add_mul, ι_add}

  -- ---- powers
  pub pw_mul : (a b : A) (n : ℕ) → pw R (mul a b) n ≡ mul (pw R a n) (pw R b n)
  pw_mul a b zero = sym (mul_one (ι (pos 1)))
  pw_mul a b (suc n) = ap (λ t. mul t (mul a b)) (pw_mul a b n) ∙ ring! R (pw R a n ∷ pw R b n ∷ a ∷ b ∷ []) (search reifyᴿ depth 20) tt

  -- ---- the binomial theorem
  unfoldable pub term : A → A → ℕ → ℕ → A
  term a b m j = mul (ι (pos (choose m j))) (mul (pw R a j) (pw R b (m - j)))

  module _ (a b : A) (m : ℕ) where
    -- the terms of the next power, by the way they come about
    lo : ℕ → A
    lo j = mul (ι (pos (choose m j))) (mul (pw R a (suc j)) (pw R b (suc m - suc j)))

    up : ℕ → A
    up j = mul (ι (pos (choose m j))) (mul (pw R a j) (pw R b (suc m - j)))

    times_a : (j : ℕ) → mul (term a b m j) a ≡ lo j
    unfolding term lo
    times_a j = ring! R (ι (pos (choose m j)) ∷ pw R a j ∷ pw R b (m - j) ∷ a ∷ []) (search reifyᴿ depth 20) tt
        ∙ ap (λ k. mul (ι (pos (choose m j))) (mul (pw R a (suc j)) (pw R b k))) (sym (NatL.suc-sub-suc m j))

    times_b : (j : ℕ) → j < suc m → mul (term a b m j) b ≡ up j
    unfolding term up
    times_b j h = ring! R (ι (pos (choose m j)) ∷ pw R a j ∷ pw R b (m - j) ∷ b ∷ []) (search reifyᴿ depth 20) tt
        ∙ ap (λ k. mul (ι (pos (choose m j))) (mul (pw R a j) (pw R b k))) e
      where
        e : suc (m - j) ≡ suc m - j
        e = omega arith

    up_last : up (suc m) ≡ ι (pos 0)
    unfolding up
    up_last = ap (λ c. mul (ι (pos c)) (mul (pw R a (suc m)) (pw R b (suc m - suc m)))) (choose_over m (suc m) (omega arith))
        ∙ zero_mul R (mul (pw R a (suc m)) (pw R b (suc m - suc m)))

    next : (j : ℕ) → term a b (suc m) (suc j) ≡ add (lo j) (up (suc j))
    unfolding term lo up choose
    next j = ap (λ t. mul t (mul (pw R a (suc j)) (pw R b (suc m - suc j)))) (ι_add (pos (choose m j)) (pos (choose m (suc j))))
        ∙ add_mul (ι (pos (choose m j))) (ι (pos (choose m (suc j)))) (mul (pw R a (suc j)) (pw R b (suc m - suc j)))

    first : term a b (suc m) 0 ≡ up 0
    unfolding term up choose
    first = refl

    step : mul (sum R (suc m) (term a b m)) (add a b) ≡ sum R (suc (suc m)) (term a b (suc m))
    step =
        mul_add R (sum R (suc m) (term a b m)) a b
        ∙ ap₂ add (sym (sum_mul_r R (suc m) a (term a b m)) ∙ sum_cong R (suc m) (λ j. mul (term a b m j) a) lo (λ j p. times_a j))
        (sym (sum_mul_r R (suc m) b (term a b m)) ∙ sum_cong R (suc m) (λ j. mul (term a b m j) b) up times_b
        ∙ sym (ap (λ t. add (sum R (suc m) up) t) up_last ∙ add_zero (sum R (suc m) up)) ∙ sum_head R (suc m) up)
        ∙ swap3 (sum R (suc m) lo) (up 0) (sum R (suc m) (λ j. up (suc j)))
        ∙ ap₂ add (sym first) (sym (sum_cong R (suc m) (λ j. term a b (suc m) (suc j)) (λ j. add (lo j) (up (suc j))) (λ j p. next j)
        ∙ sum_add R (suc m) lo (λ j. up (suc j))))
        ∙ sym (sum_head R (suc m) (term a b (suc m)))
      where
        swap3 : (x y z : A) → add x (add y z) ≡ add y (add x z)
        swap3 x y z = ring! R (x ∷ y ∷ z ∷ []) (search reifyᴿ depth 20) tt

  -- (a + b)^m = Σ_{j ≤ m} C(m, j) a^j b^(m−j)
  pub binomial : (a b : A) (m : ℕ) → pw R (add a b) m ≡ sum R (suc m) (term a b m)
  unfolding term choose
  binomial a b zero = ring! R [] (search reifyᴿ depth 20) tt
  binomial a b (suc m) = ap (λ t. mul t (add a b)) (binomial a b m) ∙ step a b m
