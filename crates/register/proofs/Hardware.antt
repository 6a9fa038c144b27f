-- WHAT THE REGISTER'S MAKER MAY RELY ON (02, E9), over a width F from 16 to 48 and any table that keeps the promise: the digits are those of
-- the register cut after three and four fraction bits, the register's parts are below two in size, and those of the scaled entries below four.
use mathlib.Core.Path.{◌≡◌, sym, ◌∙◌, ap, subst}
use mathlib.Core.List.{List, [], ◌∷◌}
use Prim.Native.Nat.{ℕ, suc, ◌+◌, ◌-◌, ◌^◌, ◌≤◌, ◌<◌}
use native.Mathlib.Omega.{arith}
use lib.IntN.{ℤ, pos, negsuc, neg_ℤ, ◌-ℤ◌, ◌*ℤ◌}
use lib.Signed.{shr_z}
use Rattle.algebra.specs.Gauss.{𝔾, ◌*ᵍ◌, two, twoᵍ}
use Rattle.algebra.specs.Order.{◌⩽◌, ◌⋖◌}
use Rattle.algebra.specs.Size.{abs, Size, Parts}
use Rattle.algebra.proofs.Gauss.{gi_path}
use Rattle.algebra.proofs.Integer.{ℤR}
use Rattle.algebra.proofs.Reify.{ring!, reify}
use Rattle.algebra.proofs.Order.{nonneg_pos}
use Rattle.algebra.proofs.Inequality.{below_next}
use Rattle.algebra.proofs.Linear.{lin, lin<, ◌&◌, ◌&<◌, ◌&≡◌, none}
use Rattle.algebra.proofs.Power.{two_pos, two≥1, two_mono, two_mul, two_whole}
use Rattle.algebra.proofs.Floor.{floor_lo, floor_hi}
use Rattle.algebra.proofs.Parts.{abs_size, size_scale, size_cancel, size_weaken, scaled_re, scaled_im}
use Rattle.point.specs.Digit.{IsDigit}
use Rattle.point.specs.Point.{gauss}
use Rattle.table_numbers.specs.Promise.{StepTable, Constants, look}
use Rattle.table_numbers.proofs.Promises.{StepPromise, ConstantsPromise}
use Rattle.table_numbers.proofs.EntrySize.{entry_size}
use Rattle.table_numbers.proofs.Promise48.{constants_promise}
use Rattle.table_numbers.specs.Numbers48.{constants48}
use Rattle.table_numbers.specs.Table.{step_table}
use Rattle.tables.proofs.Promises.{step_promise}
use Rattle.iteration.specs.Select.{cut, exp_select}
use Rattle.iteration.proofs.Digits.{cut_floor}
use Rattle.exponential.specs.Reduction.{reduction}
use Rattle.exponential.specs.Answer.{ended}
use Rattle.exponential.proofs.Convergence.{Below}
use Rattle.exponential.proofs.Close.{exponent_below}
use Rattle.register.specs.Register.{register_select, scaled_entry}
use Rattle.register.specs.Answer.{register_ended}
use Rattle.register.specs.Hardware.{leading, cut_select, Bits, InHardware, EntryBits}
use Rattle.register.proofs.Simulation.{same_digit, same_ended}

-- ---- the digits off the leading bits
-- "These are the cut digits of 000, cutting by floor"
pub digits_cut : (F : ℕ) → 4 ≤ F → (r : 𝔾) → cut_select (leading F r) ≡ register_select F r
unfolding cut_select register_select
digits_cut F wide r = gi_path
    (cut_floor (2 ^ (F - 3)) (two_pos (F - 3)) (negsuc 3) (pos 3) r.re
    ∙ (λ i. cut (low_x i) (high_x i) r.re))
    (cut_floor (2 ^ (F - 4)) (two_pos (F - 4)) (negsuc 11) (pos 13) r.im
    ∙ (λ i. cut (low_y i) (high_y i) r.im))
  where
    whole : (k j : ℕ) → k + j ≤ 4 → two k *ℤ two (F - j - k) ≡ two (F - j)
    whole k j h = two_whole k (F - j) (omega arith)

    low_x : two (F - 3) *ℤ negsuc 3 ≡ neg_ℤ (two (F - 1))
    low_x = let e : F - 3 ≡ F - 1 - 2 = omega arith in
        ap (λ m. two m *ℤ negsuc 3) e ∙ ring! ℤR (two (F - 1 - 2) ∷ []) (search reify depth 20) tt ∙ ap neg_ℤ (whole 2 1 (omega arith))

    high_x : two (F - 3) *ℤ pos 3 ≡ pos 3 *ℤ two (F - 3)
    high_x = ring! ℤR (two (F - 3) ∷ []) (search reify depth 20) tt

    low_y : two (F - 4) *ℤ negsuc 11 ≡ neg_ℤ (pos 3 *ℤ two (F - 2))
    low_y = let e : F - 4 ≡ F - 2 - 2 = omega arith in
        ap (λ m. two m *ℤ negsuc 11) e ∙ ring! ℤR (two (F - 2 - 2) ∷ []) (search reify depth 20) tt
        ∙ ap (λ u. neg_ℤ (pos 3 *ℤ u)) (whole 2 2 (omega arith))

    high_y : two (F - 4) *ℤ pos 13 ≡ pos 13 *ℤ two (F - 4)
    high_y = ring! ℤR (two (F - 4) ∷ []) (search reify depth 20) tt

-- so 01's digits are those of 2^n times the exponent, cut
pub exp_cut : (F n : ℕ) → suc n + 4 ≤ F → (e : 𝔾) → exp_select F (suc n) e ≡ cut_select (leading F (twoᵍ (suc n) *ᵍ e))
exp_cut F n h e = sym (same_digit F n h e) ∙ sym (digits_cut F (omega arith) (twoᵍ (suc n) *ᵍ e))

-- ---- how many bits
-- below 2^b in size
abbrev Narrow : ℕ → ℤ → Type 0
Narrow b x = Size x (two b -ℤ pos 1)

in_bits : {b w : ℕ} {x : ℤ} → w - 1 ≡ b → neg_ℤ (two b) ⩽ x → x ⋖ two b → Bits w x
in_bits {x = x} e l h = record { least = subst (λ c. neg_ℤ (two c) ⩽ x) (sym e) l; most = subst (λ c. x ⋖ two c) (sym e) h }

bits : (b : ℕ) {w : ℕ} {x : ℤ} → w - 1 ≡ b → Narrow b x → Bits w x
bits b {w} {x} e s = in_bits e (lin (two b ∷ x ∷ []) (s.lo & none) (search reify depth 20) tt)
    (lin< (two b ∷ x ∷ []) (s.hi & none) (search reify depth 20) tt)

-- a number below 2^(c+m) in size, floored by 2^m
floor_bits : (m b c w : ℕ) (x : ℤ) → c + m ≡ b → w - 1 ≡ c → Narrow b x → Bits w (shr_z x (2 ^ m))
floor_bits m b c w x e e' s = in_bits e'
    (below_next (two m) (two≥1 m) (lin ρ (floor_hi (2 ^ m) (two_pos m) x & whole &≡ s.lo & none) (search reify depth 20) tt))
    (lin< (two c ∷ shr_z x (2 ^ m) ∷ []) (most & none) (search reify depth 20) tt)
  where
    ρ : List ℤ
    ρ = two m ∷ two c ∷ two b ∷ x ∷ shr_z x (2 ^ m) ∷ []

    whole : two c *ℤ two m ≡ two b
    whole = two_mul c m ∙ ap two e

    most : shr_z x (2 ^ m) ⩽ two c -ℤ pos 1
    most = below_next (two m) (two≥1 m) (lin ρ (floor_lo (2 ^ m) (two_pos m) x & whole &≡ s.hi & none) (search reify depth 20) tt)

-- ---- how wide the register is: |E| < 2^(F−n) after n steps, so 2^(n+1)·|E| < 2^(F+1)
part_narrow : (F n : ℕ) → n ≤ F → (x : ℤ) → abs x ⋖ two (F - n) → Narrow (F + 1) (two (suc n) *ℤ x)
part_narrow F n h x b = size_weaken (size_scale {x = x} {b = two (F - n) -ℤ pos 1} (two (suc n)) (nonneg_pos (2 ^ suc n))
    (abs_size (lin (abs x ∷ two (F - n) ∷ []) (b &< none) (search reify depth 20) tt)))
    (lin (two (suc n) ∷ two (F - n) ∷ two (F + 1) ∷ []) (whole &≡ two≥1 (suc n) & none) (search reify depth 20) tt)
  where
    whole : two (suc n) *ℤ two (F - n) ≡ two (F + 1)
    whole = let e : suc n + (F - n) ≡ F + 1 = omega arith in two_mul (suc n) (F - n) ∙ ap two e

module _ (F : ℕ) (wide : 16 ≤ F) (narrow : F ≤ 48) (t : StepTable) (table : StepPromise F (F - 8) t)
    (c : Constants) (promise : ConstantsPromise F c) where
  -- before every step, and after the last
  pub register_narrow : (e s : 𝔾) (n : ℕ) → n ≤ F - 8 → Parts (gauss (register_ended F t n (reduction F c e s)).sum) (two (F + 1) -ℤ pos 1)
  register_narrow e s n h = subst (λ x. Parts (gauss x.sum) (two (F + 1) -ℤ pos 1))
      (sym (same_ended F t n (reduction F c e s) (omega arith)))
      (record {
        re = subst (Narrow (F + 1)) (sym (scaled_re (two (suc n)) E)) (part_narrow F n (omega arith) E.re b.re);
        im = subst (Narrow (F + 1)) (sym (scaled_im (two (suc n)) E)) (part_narrow F n (omega arith) E.im b.im);
      })
    where
      E : 𝔾
      E = gauss (ended F t n (reduction F c e s)).sum

      b : Below E (two (F - n))
      b = exponent_below F wide narrow t table c promise e s n h

  -- ---- and its table: 2048 times an entry of step n is at most 12932 times 2^(F−2−n), so 2^(n+1) times it at most 3.16 of 2^F
  module _ (n : ℕ) (d : 𝔾) (k : IsDigit d) (h : suc n ≤ F - 8) where
    abbrev S : ℤ
    S = two (suc (suc n))

    abbrev u : ℤ
    u = two (F - 2 - suc n)

    scaled_narrow : (x : ℤ) → Size (pos 2048 *ℤ x) (pos 12932 *ℤ u) → Narrow (F + 2) (S *ℤ x)
    scaled_narrow x s = size_cancel (pos 2048) (record { le = tt }) (record {
      lo = lin ρ (g.lo & whole &≡ four &≡ two_mono 4 F (omega arith) & none) (search reify depth 20) tt;
      hi = lin ρ (g.hi & whole &≡ four &≡ two_mono 4 F (omega arith) & none) (search reify depth 20) tt;
    })
      where
        ρ : List ℤ
        ρ = S ∷ u ∷ x ∷ two F ∷ two (F + 2) ∷ []

        g : Size (S *ℤ (pos 2048 *ℤ x)) (S *ℤ (pos 12932 *ℤ u))
        g = size_scale S (nonneg_pos (2 ^ suc (suc n))) s

        whole : pos 2 *ℤ (S *ℤ u) ≡ two F
        whole = let e : suc (suc n) + (F - 2 - suc n) ≡ F - 1 = omega arith in
            ap (λ v. pos 2 *ℤ v) (two_mul (suc (suc n)) (F - 2 - suc n) ∙ ap two e) ∙ two_whole 1 F (omega arith)

        four : pos 4 *ℤ two F ≡ two (F + 2)
        four = let e : 2 + F ≡ F + 2 = omega arith in two_mul 2 F ∙ ap two e

    pub entry_bits : EntryBits F (scaled_entry t (suc n) d)
    entry_bits = let p = entry_size F n (omega arith) k (table (suc n) (omega arith) h d k) in record {
      re = bits (F + 2) (omega arith)
          (subst (Narrow (F + 2)) (sym (scaled_re S (look t (suc n) d))) (scaled_narrow (look t (suc n) d).re p.0));
      im = bits (F + 2) (omega arith)
          (subst (Narrow (F + 2)) (sym (scaled_im S (look t (suc n) d))) (scaled_narrow (look t (suc n) d).im p.1));
    }

  -- ---- THE LAW, of every exponent: the reduction brings it into the rectangle
  pub in_hardware : (e s : 𝔾) (n : ℕ) → n ≤ F - 8 → InHardware F (gauss (register_ended F t n (reduction F c e s)).sum)
  in_hardware e s n h = record {
    digit = digits_cut F (omega arith) r;
    leading_re = floor_bits (F - 3) (F + 1) 4 5 r.re (omega arith) (omega arith) below.re;
    leading_im = floor_bits (F - 4) (F + 1) 5 6 r.im (omega arith) (omega arith) below.im;
    register_re = bits (F + 1) (omega arith) below.re;
    register_im = bits (F + 1) (omega arith) below.im;
  }
    where
      r : 𝔾
      r = gauss (register_ended F t n (reduction F c e s)).sum

      below : Parts r (two (F + 1) -ℤ pos 1)
      below = register_narrow e s n h

-- ---- at the width 48, with no hypothesis left: the register has 50 bits, the scaled entries 51
pub in_hardware_48 : (e s : 𝔾) (n : ℕ) → n ≤ 40 → InHardware 48 (gauss (register_ended 48 step_table n (reduction 48 constants48 e s)).sum)
in_hardware_48 e s n h = in_hardware 48 (omega arith) (omega arith) step_table step_promise constants48 constants_promise e s n (omega arith)

pub entry_bits_48 : (n : ℕ) (d : 𝔾) → IsDigit d → n < 40 → EntryBits 48 (scaled_entry step_table (suc n) d)
entry_bits_48 n d k h = entry_bits 48 (omega arith) (omega arith) step_table step_promise constants48 constants_promise n d k (omega arith)
