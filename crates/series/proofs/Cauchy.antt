-- The product of two series, exactly and over any ring: the square of its terms is a triangle, the series at the sum of the arguments, and
-- a corner.
use mathlib.Core.Path.{◌≡◌, sym, ◌∙◌, ap, ap₂}
use mathlib.Core.List.{[], ◌∷◌}
use Prim.Native.Nat.{ℕ, zero, suc, ◌+◌, ◌*◌, ◌-◌, ◌<◌, ◌≤◌}
use native.Mathlib.Omega.{arith}
use lib.IntN.{pos}
use Rattle.algebra.proofs.Ring.{Ring, pw}
use Rattle.algebra.proofs.Reify.{ring!, reifyᴿ}
use Rattle.algebra.proofs.Sum.{sum, sum_cong, sum_mul, cauchy}
use Rattle.algebra.proofs.Choose.{choose}
use Rattle.algebra.proofs.Binomial.{term, binomial}
use Rattle.series.specs.Series.{D}
use Rattle.series.proofs.Series.{Dᴿ, Dᴿ-suc, S}
use Rattle.series.proofs.Coefficient.{co, co_D, co_co}

module _ (R : Ring) (U n : ℕ) where
  open R use {A, add, mul, neg, ι, ι_mul}

  -- ---- over the divisor D n: the k-th term, the sum of the first m, and the terms of a product of two such sums that have degree m or
  -- more
  unfoldable pub mono : A → ℕ → A
  mono z k = mul (ι (pos (co U n k))) (pw R z k)

  abbrev pub part : ℕ → A → A
  part m z = sum R m (mono z)

  abbrev pub corner : ℕ → A → A → A
  corner m a b = sum R m (λ i. sum R i (λ j. mul (mono a i) (mono b (m - i + j))))

  -- D n · S m z / D m
  pub part_S : (m : ℕ) (z : A) → m ≤ n → mul (Dᴿ R U m) (part m z) ≡ mul (Dᴿ R U n) (S R U m z)
  unfolding S D mono
  part_S zero z h = ring! R (Dᴿ R U n ∷ []) (search reifyᴿ depth 20) tt
  part_S (suc m) z h =
      ap (λ t. mul t (add (part m z) (mono z m))) (Dᴿ-suc R U m)
      ∙ ring! R (ι (pos (U * suc m)) ∷ Dᴿ R U m ∷ part m z ∷ ι (pos (co U n m)) ∷ pw R z m ∷ []) (search reifyᴿ depth 20) tt
      ∙ ap₂ (λ s t. mul (ι (pos (U * suc m))) (add s (mul t (pw R z m)))) (part_S m z (omega arith))
      (sym (ι_mul (pos (co U n m)) (pos (D U m))) ∙ ap (λ t. ι (pos t)) (co_D U n m (omega arith)))
      ∙ ring! R (ι (pos (U * suc m)) ∷ Dᴿ R U n ∷ S R U m z ∷ pw R z m ∷ []) (search reifyᴿ depth 20) tt

  module _ (U>0 : 0 < U) (a b : A) where
    -- ---- the terms of degree k make the k-th term at a + b, by the binomial theorem
    one : (k i : ℕ) → k ≤ n → i < suc k → mul (mono a i) (mono b (k - i)) ≡ mul (mul (Dᴿ R U n) (ι (pos (co U n k)))) (term R a b k i)
    unfolding mono term
    one k i h g =
        ring! R (ι (pos (co U n i)) ∷ ι (pos (co U n (k - i))) ∷ pw R a i ∷ pw R b (k - i) ∷ []) (search reifyᴿ depth 20) tt
        ∙ ap (λ t. mul t (mul (pw R a i) (pw R b (k - i))))
        (sym (ι_mul (pos (co U n i)) (pos (co U n (k - i)))) ∙ ap (λ t. ι (pos t)) (co_co U U>0 n k i (k - i) h (omega arith))
        ∙ ι_mul (pos (D U n)) (pos (co U n k * choose k i)) ∙ ap (λ t. mul (Dᴿ R U n) t) (ι_mul (pos (co U n k)) (pos (choose k i))))
        ∙ ring! R (Dᴿ R U n ∷ ι (pos (co U n k)) ∷ ι (pos (choose k i)) ∷ pw R a i ∷ pw R b (k - i) ∷ []) (search reifyᴿ depth 20) tt

    diagonal : (k : ℕ) → k ≤ n → sum R (suc k) (λ i. mul (mono a i) (mono b (k - i))) ≡ mul (Dᴿ R U n) (mono (add a b) k)
    unfolding mono
    diagonal k h =
        sum_cong R (suc k) _ _ (λ i g. one k i h g)
        ∙ sum_mul R (suc k) (mul (Dᴿ R U n) (ι (pos (co U n k)))) (term R a b k)
        ∙ ap (λ t. mul (mul (Dᴿ R U n) (ι (pos (co U n k)))) t) (sym (binomial R a b k))
        ∙ ring! R (Dᴿ R U n ∷ ι (pos (co U n k)) ∷ pw R (add a b) k ∷ []) (search reifyᴿ depth 20) tt

    pub triangle : (m : ℕ) → m ≤ n → sum R m (λ k. sum R (suc k) (λ i. mul (mono a i) (mono b (k - i)))) ≡ mul (Dᴿ R U n) (part m (add a b))
    triangle m h = sum_cong R m _ _ (λ k g. diagonal k (omega arith)) ∙ sum_mul R m (Dᴿ R U n) (mono (add a b))

    -- ---- the identity, of the parts and of the sums S
    pub square : (m : ℕ) → m ≤ n → mul (part m a) (part m b) ≡ add (mul (Dᴿ R U n) (part m (add a b))) (corner m a b)
    square m h = cauchy R m (mono a) (mono b) ∙ ap (λ t. add t (corner m a b)) (triangle m h)

    pub corner_S : (m : ℕ) → m ≤ n →
        mul (mul (Dᴿ R U m) (Dᴿ R U m)) (corner m a b) ≡ mul (mul (Dᴿ R U n) (Dᴿ R U n))
        (add (mul (S R U m a) (S R U m b)) (neg (mul (Dᴿ R U m) (S R U m (add a b)))))
    corner_S m h =
        ring! R (d ∷ e ∷ corner m a b ∷ part m (add a b) ∷ []) (search reifyᴿ depth 20) tt
        ∙ ap (λ t. add (mul (mul d d) t) (neg (mul (mul d e) (mul d (part m (add a b)))))) (sym (square m h))
        ∙ ring! R (d ∷ e ∷ part m a ∷ part m b ∷ part m (add a b) ∷ []) (search reifyᴿ depth 20) tt
        ∙ ap₂ (λ s t. add s (neg (mul (mul d e) t))) (ap₂ mul (part_S m a h) (part_S m b h)) (part_S m (add a b) h)
        ∙ ring! R (d ∷ e ∷ S R U m a ∷ S R U m b ∷ S R U m (add a b) ∷ []) (search reifyᴿ depth 20) tt
      where
        d : A
        d = Dᴿ R U m

        e : A
        e = Dᴿ R U n
