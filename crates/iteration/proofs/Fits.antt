-- For the code, over a width F up to 48: nothing that its parts make overflows.
use mathlib.Core.Path.{◌≡◌, refl, ◌∙◌, ap}
use mathlib.Core.List.{[], ◌∷◌}
use Prim.Native.Nat.{ℕ, suc, ◌+◌, ◌-◌, ◌^◌, ◌≤◌}
use native.Mathlib.Omega.{arith}
use lib.IntN.{ℤ, pos, negsuc, neg_ℤ, ◌+ℤ◌, ◌-ℤ◌, ◌*ℤ◌}
use lib.Signed.{shr_z}
use mir.Syntax.{w64}
use mir.Val.{SFits, to_z, of_z}
use Rattle.algebra.specs.Gauss.{𝔾, negᵍ, ◌+ᵍ◌, two}
use Rattle.algebra.specs.Size.{Size}
use Rattle.algebra.proofs.Integer.{ℤR}
use Rattle.algebra.proofs.Reify.{ring!, reify}
use Rattle.algebra.proofs.Linear.{lin, ◌&◌, none}
use Rattle.algebra.proofs.Power.{two≥1, two_mono, two_part}
use Rattle.algebra.proofs.Parts.{size_add, size_neg, size_mul}
use Rattle.word.proofs.Fits.{sfits_size}
use Rattle.word.proofs.Shift.{shift_constant_word}
use Rattle.iteration.specs.Select.{low_x, high_x, low_y, half}
use Rattle.iteration.specs.Code.{BackPre, LessPre}

-- ---- the thresholds of step n: EXP's in 16ths of 1/2^n, LOG's half of it
module _ (F n : ℕ) (narrow : F ≤ 48) (h : n + 8 ≤ F) where
  abbrev sixteenth : ℤ
  sixteenth = two (F - 4 - n)

  -- so many powers of two up to 2^F make a word
  pub times_fits : (c : ℤ) (m : ℕ) → Size c (pos 13) → m ≤ F → SFits w64 (c *ℤ two m)
  times_fits c m s g = sfits_size (size_mul s (record {
    lo = lin (two m ∷ two 48 ∷ []) (two_mono m 48 (omega arith) & two≥1 m & none) (search reify depth 20) tt;
    hi = two_mono m 48 (omega arith);
  })) tt

  shifted : (m : ℕ) → n ≤ m → m ≤ F → to_z w64 (of_z w64 (shr_z (pos 1 *ℤ two m) (2 ^ n))) ≡ two (m - n)
  shifted m l g = shift_constant_word (pos 1) m n l (times_fits (pos 1) m (record { lo = record { le = tt }; hi = record { le = tt } }) g)
      ∙ ring! ℤR (two (m - n) ∷ []) (search reify depth 20) tt

  pub sixteenth_word : to_z w64 (of_z w64 (shr_z (pos 1 *ℤ two (F - 4)) (2 ^ n))) ≡ sixteenth
  sixteenth_word = shifted (F - 4) (omega arith) (omega arith)

  pub half_word : to_z w64 (of_z w64 (shr_z (pos 1 *ℤ two (F - 1)) (2 ^ n))) ≡ half F n
  half_word = shifted (F - 1) (omega arith) (omega arith) ∙ ap two same
    where
      same : F - 1 - n ≡ F - suc n
      same = omega arith

  in_sixteenths : (k j : ℕ) → k + j ≡ 4 → two k *ℤ sixteenth ≡ two (F - j - n)
  in_sixteenths k j e = ap (λ i. two k *ℤ two i) same ∙ two_part k (F - j) n (omega (arith, e))
    where
      same : F - 4 - n ≡ F - j - k - n
      same = omega (arith, e)

  pub low_x_is : negsuc 7 *ℤ sixteenth ≡ low_x F n
  low_x_is = ring! ℤR (sixteenth ∷ []) (search reify depth 20) tt ∙ ap neg_ℤ (in_sixteenths 3 1 refl)

  pub high_x_is : pos 6 *ℤ sixteenth ≡ high_x F n
  high_x_is = ring! ℤR (sixteenth ∷ []) (search reify depth 20) tt ∙ ap (λ u. pos 3 *ℤ u) (in_sixteenths 1 3 refl)

  pub low_y_is : negsuc 11 *ℤ sixteenth ≡ low_y F n
  low_y_is = ring! ℤR (sixteenth ∷ []) (search reify depth 20) tt ∙ ap (λ u. neg_ℤ (pos 3 *ℤ u)) (in_sixteenths 2 2 refl)

-- ---- the thresholds around a part of one
pub record BackFits (t one : ℤ) : Type 0 where
  pub above : SFits w64 (one +ℤ t)
  pub below : SFits w64 (one -ℤ t)

pub back_fits : {t one : ℤ} → BackPre t one → BackFits t one
back_fits h = record {
  above = sfits_size (size_add h.centre h.most) tt;
  below = sfits_size (size_add h.centre (size_neg h.most)) tt;
}

-- half of 1/2^n around one and around nought
pub around : (F n : ℕ) → F ≤ 48 → {one : ℤ} → Size one (two 48) → BackPre (half F n) one
around F n narrow o = record {
  least = two≥1 _;
  most = record {
    lo = lin (half F n ∷ two 48 ∷ []) (two_mono (F - suc n) 48 (omega arith) & two≥1 (F - suc n) & none) (search reify depth 20) tt;
    hi = two_mono (F - suc n) 48 (omega arith);
  };
  centre = o;
}

-- ---- a sum less an entry
pub record LessFits (e z : 𝔾) : Type 0 where
  pub x : SFits w64 e.re
  pub y : SFits w64 e.im
  pub re : SFits w64 z.re
  pub im : SFits w64 z.im
  pub new_x : SFits w64 (e.re -ℤ z.re)
  pub new_y : SFits w64 (e.im -ℤ z.im)

pub less_fits : {e z : 𝔾} → LessPre e z → LessFits e z
unfolding ◌+ᵍ◌ negᵍ
less_fits {e} {z} h = record {
  x = sfits_size h.sum.re tt;
  y = sfits_size h.sum.im tt;
  re = sfits_size (taken h.sum.re h.left.re) tt;
  im = sfits_size (taken h.sum.im h.left.im) tt;
  new_x = sfits_size h.left.re tt;
  new_y = sfits_size h.left.im tt;
}
  where
    taken : {x y : ℤ} → Size x (two 61) → Size (x -ℤ y) (two 61) → Size y (two 61 *ℤ pos 2)
    taken {x} {y} a b = record {
      lo = lin (x ∷ y ∷ []) (a.lo & b.hi & none) (search reify depth 20) tt;
      hi = lin (x ∷ y ∷ []) (a.hi & b.lo & none) (search reify depth 20) tt;
    }
