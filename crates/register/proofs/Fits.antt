-- For the code: nothing that its parts make overflows.
use mathlib.Core.Path.{◌≡◌, sym, subst}
use mathlib.Core.List.{[], ◌∷◌}
use Prim.Native.Nat.{ℕ, suc, ◌+◌}
use native.Mathlib.Numerals.{add-one}
use lib.IntN.{ℤ, pos, ◌-ℤ◌, ◌*ℤ◌}
use mir.Syntax.{w64}
use mir.Val.{SFits}
use Rattle.algebra.specs.Gauss.{𝔾, gi, ιᵍ, ◌+ᵍ◌, negᵍ, ◌*ᵍ◌, two}
use Rattle.algebra.specs.Size.{Size, Parts}
use Rattle.algebra.proofs.Gauss.{gi_path}
use Rattle.algebra.proofs.Integer.{ℤR}
use Rattle.algebra.proofs.Reify.{ring!, reify}
use Rattle.algebra.proofs.Linear.{lin, ◌&◌, none}
use Rattle.algebra.proofs.Parts.{scaled_re, scaled_im}
use Rattle.word.proofs.Fits.{sfits_size}
use Rattle.register.specs.Code.{doubled_less, LessPre}

-- ---- a step of the register: 2x and 2^(n+1)·re = 2x − x' are at most 3·2^61 in size; m is n + 1
pub record LessFits (r z : 𝔾) (n m : ℕ) : Type 0 where
  pub x : SFits w64 r.re
  pub y : SFits w64 r.im
  pub twice_x : SFits w64 (pos 2 *ℤ r.re)
  pub twice_y : SFits w64 (pos 2 *ℤ r.im)
  pub up_re : SFits w64 (z.re *ℤ two m)
  pub up_im : SFits w64 (z.im *ℤ two m)
  pub new_x : SFits w64 (pos 2 *ℤ r.re -ℤ z.re *ℤ two m)
  pub new_y : SFits w64 (pos 2 *ℤ r.im -ℤ z.im *ℤ two m)
  pub made : gi (pos 2 *ℤ r.re -ℤ z.re *ℤ two m) (pos 2 *ℤ r.im -ℤ z.im *ℤ two m) ≡ doubled_less r z n

less_made : (r z : 𝔾) (n : ℕ) →
    gi (pos 2 *ℤ r.re -ℤ z.re *ℤ two (suc n)) (pos 2 *ℤ r.im -ℤ z.im *ℤ two (suc n)) ≡ doubled_less r z n
unfolding ◌+ᵍ◌ negᵍ ◌*ᵍ◌ ιᵍ
less_made r z n = gi_path (ring! ℤR (r.re ∷ r.im ∷ z.re ∷ z.im ∷ two (suc n) ∷ []) (search reify depth 20) tt)
    (ring! ℤR (r.re ∷ r.im ∷ z.re ∷ z.im ∷ two (suc n) ∷ []) (search reify depth 20) tt)

twice_size : {x : ℤ} → Size x (two 61) → Size (pos 2 *ℤ x) (two 61 *ℤ pos 2)
twice_size {x} s = record {
  lo = lin (x ∷ []) (s.lo & none) (search reify depth 20) tt;
  hi = lin (x ∷ []) (s.hi & none) (search reify depth 20) tt;
}

scaled_size : {x y : ℤ} → Size x (two 61) → Size (pos 2 *ℤ x -ℤ y) (two 61) → Size y (two 61 *ℤ pos 3)
scaled_size {x} {y} a b = record {
  lo = lin (x ∷ y ∷ []) (a.lo & b.hi & none) (search reify depth 20) tt;
  hi = lin (x ∷ y ∷ []) (a.hi & b.lo & none) (search reify depth 20) tt;
}

pub less_fits : {r z : 𝔾} {n : ℕ} → LessPre r z n → LessFits r z n (n + 1)
less_fits {r} {z} {n} h = subst (LessFits r z n) (sym (add-one n)) (record {
  x = sfits_size h.before.re tt;
  y = sfits_size h.before.im tt;
  twice_x = sfits_size (twice_size h.before.re) tt;
  twice_y = sfits_size (twice_size h.before.im) tt;
  up_re = sfits_size (scaled_size h.before.re new.re) tt;
  up_im = sfits_size (scaled_size h.before.im new.im) tt;
  new_x = sfits_size new.re tt;
  new_y = sfits_size new.im tt;
  made = less_made r z n;
})
  where
    new : Parts (gi (pos 2 *ℤ r.re -ℤ z.re *ℤ two (suc n)) (pos 2 *ℤ r.im -ℤ z.im *ℤ two (suc n))) (two 61)
    new = subst (λ w. Parts w (two 61)) (sym (less_made r z n)) h.after

-- ---- what the register holds first
pub record DoubleFits (e : 𝔾) : Type 0 where
  pub x : SFits w64 e.re
  pub y : SFits w64 e.im
  pub twice_x : SFits w64 (pos 2 *ℤ e.re)
  pub twice_y : SFits w64 (pos 2 *ℤ e.im)
  pub made : gi (pos 2 *ℤ e.re) (pos 2 *ℤ e.im) ≡ ιᵍ (pos 2) *ᵍ e

pub double_fits : {e : 𝔾} → Parts e (two 61) → DoubleFits e
double_fits {e} h = record {
  x = sfits_size h.re tt;
  y = sfits_size h.im tt;
  twice_x = sfits_size (twice_size h.re) tt;
  twice_y = sfits_size (twice_size h.im) tt;
  made = gi_path (sym (scaled_re (pos 2) e)) (sym (scaled_im (pos 2) e));
}
