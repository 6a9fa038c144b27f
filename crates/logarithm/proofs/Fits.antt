-- For the code, over a width F up to 48: nothing that its parts make overflows, and an accepted point meets what they ask.
use mathlib.Core.Path.{◌≡◌, refl, sym, ◌∙◌, ap, ap₂, subst}
use mathlib.Core.List.{[], ◌∷◌}
use Prim.Native.Nat.{ℕ, ◌+◌, ◌-◌, ◌^◌, ◌≤◌, ◌<◌}
use native.Mathlib.Nat.{pow-zero}
use native.Mathlib.Omega.{arith}
use lib.IntN.{ℤ, pos, negsuc, nat_abs, ◌+ℤ◌, ◌-ℤ◌, ◌*ℤ◌, *ℤ_comm}
use lib.Signed.{shr_z}
use mir.Syntax.{w64}
use mir.Val.{SFits}
use Rattle.algebra.specs.Gauss.{𝔾, iᵍ, conj, ◌*ᵍ◌, ιᵍ, two}
use Rattle.algebra.specs.Order.{◌⩽◌}
use Rattle.algebra.specs.Size.{Size, Parts}
use Rattle.algebra.specs.Rounding.{floorᵍ}
use Rattle.algebra.proofs.Gauss.{gi_path, i_mul, g_mul_comm, g_mul_one}
use Rattle.algebra.proofs.Reify.{reify}
use Rattle.algebra.proofs.Order.{nonneg_pos, pos_mono, pos_inj_le}
use Rattle.algebra.proofs.Linear.{lin, lin<, ◌&◌, none}
use Rattle.algebra.proofs.Power.{two_whole, two_mono}
use Rattle.algebra.proofs.Larger.{larger_le}
use Rattle.algebra.proofs.Parts.{parts_weaken, size_nat, size_weaken, size_add, size_neg, size_mul, scaled_re, scaled_im, within_parts}
use Rattle.word.proofs.Fits.{sfits_range, sfits_size}
use Rattle.word.proofs.Shift.{size_shift, CeilingFits, ceiling_fits}
use Rattle.point.specs.declared.Point.{Point}
use Rattle.point.specs.Point.{gauss, point}
use Rattle.point.proofs.InLimits.{Counts, steps_say, parts_say}
use Rattle.table_numbers.specs.declared.Entry.{Entry}
use Rattle.table_numbers.specs.Reciprocal.{InTable}
use Rattle.table_numbers.specs.Promise.{StepTable, ReciprocalTable}
use Rattle.table_numbers.specs.Rows.{number}
use Rattle.table_numbers.proofs.Promises.{StepPromise, ReciprocalPromise}
use Rattle.iteration.specs.Select.{Log}
use Rattle.iteration.specs.Run.{Fits}
use Rattle.logarithm.specs.Reduction.{turned, turns_back, quarters, spelling, bits, bit_length, scaled, up, down, column, row, cell_x, cell_y, reciprocal_of}
use Rattle.logarithm.specs.Answer.{begun, error_bound_of}
use Rattle.logarithm.specs.Code.{turn_of, ScalePre, ReducePre, BoundPre, bound_at, Accepted}
use Rattle.logarithm.proofs.Quadrant.{turn_is, cone_pos, cone_parts}
use Rattle.logarithm.proofs.Scale.{length_law, length_le, scaled_exact, Scaled, scaled_ranges, scaled_parts}
use Rattle.logarithm.proofs.Cell.{reciprocal_parts, in_table}
use Rattle.logarithm.proofs.Convergence.{converging_run, point_size, log_short, sum_size, begun_converging, begun_entry}
use Rattle.logarithm.proofs.Close.{cone, M-is, begun_short}

-- ---- the turn
-- w after m quarter turns back, with q spelled so
pub turn_made : (p w : Point) (m : ℕ) (q : ℤ) → quarters (gauss p) ≡ m → w ≡ point (turns_back m (gauss p)) →
    q ≡ spelling m (turns_back m (gauss p)) →
    record { point = w; quadrant = q } ≡ turn_of p
turn_made p w m q e f g = let t = turn_is (gauss p) m e in λ i. record {
  point = (f ∙ ap point (sym t.1)) i;
  quadrant = (g ∙ sym t.0) i;
}

-- a conjugate and a quarter turn keep the sizes
pub parts_conj : {z : 𝔾} {b : ℤ} → Parts z b → Parts (conj z) b
unfolding conj
parts_conj h = record { re = h.re; im = size_neg h.im }

pub parts_i : {z : 𝔾} {b : ℤ} → Parts z b → Parts (iᵍ *ᵍ z) b
parts_i {z} {b} h = subst (λ w. Parts w b) (sym (i_mul z)) (record { re = size_neg h.im; im = h.re })

-- ---- the length in bits
pub nat_abs_pos : (x : ℤ) → pos 1 ⩽ x → 1 ≤ nat_abs x
nat_abs_pos (pos n) h = pos_inj_le h
nat_abs_pos (negsuc n) h = absurd h.le

-- ---- the scale
pub record Up (F : ℕ) (w : Point) (b : ℕ) : Type 0 where
  pub x : SFits w64 (w.x *ℤ two (F - b))
  pub y : SFits w64 (w.y *ℤ two (F - b))
  pub made : record { x = w.x *ℤ two (F - b); y = w.y *ℤ two (F - b) } ≡ point (scaled F (gauss w))

pub record Down (F : ℕ) (w : Point) (b : ℕ) : Type 0 where
  pub x : SFits w64 w.x
  pub y : SFits w64 w.y
  pub over_x : SFits w64 (shr_z w.x (2 ^ (b - F)))
  pub over_y : SFits w64 (shr_z w.y (2 ^ (b - F)))
  pub made : record { x = shr_z w.x (2 ^ (b - F)); y = shr_z w.y (2 ^ (b - F)) } ≡ point (scaled F (gauss w))

module _ {F : ℕ} {w : Point} {b : ℕ} (s : ScalePre F w b) where
  -- the parts are at most 2^b in size
  scale_parts : Parts (gauss w) (two b)
  scale_parts = subst (λ b. Parts (gauss w) (two b)) (sym s.bits_are)
      (parts_weaken (cone_parts s.cone) (lin (w.x ∷ two (bit_length (gauss w)) ∷ []) ((length_law (gauss w) (cone_pos s.cone)).above
      & none)
      (search reify depth 20) tt))

  pub scale_length : b ≤ F + 11
  scale_length = subst (λ b. b ≤ F + 11) (sym s.bits_are) (omega (arith, length_le (gauss w) (F + 10) (cone_pos s.cone) s.small))

  fits : F ≤ 48 → {x : ℤ} (m : ℕ) → m ≤ F + 11 → Size x (two m) → SFits w64 x
  fits narrow m h l = sfits_size (size_weaken l (two_mono m 59 (omega arith))) tt

  -- up, for k ≤ 0
  pub scale_up : F ≤ 48 → b ≤ F → Up F w b
  scale_up narrow h = record {
    x = fits narrow F (omega arith) (grown scale_parts.re);
    y = fits narrow F (omega arith) (grown scale_parts.im);
    made = ap point (gi_path (*ℤ_comm w.x k ∙ sym (scaled_re k (gauss w))) (*ℤ_comm w.y k ∙ sym (scaled_im k (gauss w)))
        ∙ ap (λ b. ιᵍ (two (F - b)) *ᵍ gauss w) s.bits_are ∙ sym (scaled_exact F (gauss w) (subst (λ b. b ≤ F) s.bits_are h)));
  }
    where
      k : ℤ
      k = two (F - b)

      grown : {x : ℤ} → Size x (two b) → Size (x *ℤ two (F - b)) (two F)
      grown {x} l = subst (λ v. Size (x *ℤ two (F - b)) v) (two_whole b F h) (size_mul l (size_nat (omega arith)))

  -- down, for k > 0
  pub scale_down : F ≤ 48 → F < b → Down F w b
  unfolding scaled floorᵍ
  scale_down narrow h = record {
    x = fits narrow b scale_length scale_parts.re;
    y = fits narrow b scale_length scale_parts.im;
    over_x = fits narrow b scale_length (size_shift (2 ^ (b - F)) scale_parts.re);
    over_y = fits narrow b scale_length (size_shift (2 ^ (b - F)) scale_parts.im);
    made = ap₂ (λ z b. point (floorᵍ z (down F b)))
        (sym (ap (λ u. ιᵍ (pos u) *ᵍ gauss w) one ∙ (g_mul_comm (ιᵍ (pos 1)) (gauss w) ∙ g_mul_one (gauss w)))) s.bits_are;
  }
    where
      nothing : F - bit_length (gauss w) ≡ 0
      nothing = omega (arith, subst (λ b. F < b) s.bits_are h)

      one : up F (bit_length (gauss w)) ≡ 1
      one = ap (λ t. 2 ^ t) nothing ∙ pow-zero 2

  -- k, from the length
  pub exponent_fits : F ≤ 48 → SFits w64 (pos b -ℤ pos F)
  exponent_fits narrow = sfits_range (lin (pos b ∷ pos F ∷ []) (nonneg_pos b & pos_mono narrow & none) (search reify depth 20) tt)
      (lin< (pos b ∷ pos F ∷ []) (pos_mono scale_length & none) (search reify depth 20) tt)

-- ---- the reciprocal
pub record ReduceFits (p : Point) (c : Entry) : Type 0 where
  pub x : SFits w64 p.x
  pub y : SFits w64 p.y
  pub a : SFits w64 c.re
  pub b : SFits w64 c.im
  pub ax : SFits w64 (c.re *ℤ p.x)
  pub b_y : SFits w64 (c.im *ℤ p.y)
  pub a_y : SFits w64 (c.re *ℤ p.y)
  pub bx : SFits w64 (c.im *ℤ p.x)
  pub re : SFits w64 (c.re *ℤ p.x -ℤ c.im *ℤ p.y)
  pub im : SFits w64 (c.re *ℤ p.y +ℤ c.im *ℤ p.x)
  pub over_re : SFits w64 (shr_z (c.re *ℤ p.x -ℤ c.im *ℤ p.y) 64)
  pub over_im : SFits w64 (shr_z (c.re *ℤ p.y +ℤ c.im *ℤ p.x) 64)

pub reduce_fits : {F : ℕ} → F ≤ 48 → {p : Point} {c : Entry} → ReducePre F p c → ReduceFits p c
reduce_fits {F} narrow {p} {c} h = record {
  x = sfits_size z.re tt;
  y = sfits_size z.im tt;
  a = sfits_size h.factor.re tt;
  b = sfits_size h.factor.im tt;
  ax = sfits_size ax tt;
  b_y = sfits_size b_y tt;
  a_y = sfits_size a_y tt;
  bx = sfits_size bx tt;
  re = sfits_size (size_add ax (size_neg b_y)) tt;
  im = sfits_size (size_add a_y bx) tt;
  over_re = sfits_size (size_shift 64 (size_add ax (size_neg b_y))) tt;
  over_im = sfits_size (size_shift 64 (size_add a_y bx)) tt;
}
  where
    z : Parts (gauss p) (two 48)
    z = parts_weaken h.point (two_mono F 48 narrow)

    ax : Size (c.re *ℤ p.x) (pos 124 *ℤ two 48)
    ax = size_mul h.factor.re z.re

    b_y : Size (c.im *ℤ p.y) (pos 124 *ℤ two 48)
    b_y = size_mul h.factor.im z.im

    a_y : Size (c.re *ℤ p.y) (pos 124 *ℤ two 48)
    a_y = size_mul h.factor.re z.im

    bx : Size (c.im *ℤ p.x) (pos 124 *ℤ two 48)
    bx = size_mul h.factor.im z.re

-- ---- the error bound
pub bound_fits : {F : ℕ} → F ≤ 48 → {n : ℕ} {m : ℤ} → BoundPre F n m → CeilingFits (negsuc 2) m (pos 3 *ℤ two 58) n
bound_fits {F} narrow {n} p = ceiling_fits {c = negsuc 2} {a = pos 3} {b = two 58} n
    (record { lo = record { le = tt }; hi = record { le = tt } })
    (size_weaken p.size (two_mono (F + 10) 58 (omega arith))) tt tt

-- ---- the point less one
pub record LessOne (p : Point) : Type 0 where
  pub x : SFits w64 p.x
  pub y : SFits w64 p.y
  pub less_x : SFits w64 (p.x -ℤ two 48)
  pub less_y : SFits w64 (p.y -ℤ pos 0)

pub less_one_fits : {p : Point} → Parts (gauss p) (two 61) → LessOne p
less_one_fits h = record {
  x = sfits_size h.re tt;
  y = sfits_size h.im tt;
  less_x = sfits_size (size_add h.re (size_neg one)) tt;
  less_y = sfits_size (size_add h.im (size_neg none_of_it)) tt;
}
  where
    one : Size (two 48) (two 48)
    one = record { lo = record { le = tt }; hi = record { le = tt } }

    none_of_it : Size (pos 0) (pos 0)
    none_of_it = record { lo = record { le = tt }; hi = record { le = tt } }

-- ---- what the reduction hands on
module _ {F : ℕ} (wide : 10 ≤ F) {w : Point} {b : ℕ} (s : ScalePre F w b) where
  abbrev z : 𝔾
  z = scaled F (gauss w)

  ranges : Scaled (two F) z
  ranges = scaled_ranges F (omega arith) (gauss w) s.cone

  pub in_cell : InTable (column F (scaled F (gauss w))) (row F (scaled F (gauss w)))
  in_cell = in_table F wide z ranges

  pub reduce_ok : (c : Entry) → number c ≡ reciprocal_of F (scaled F (gauss w)) → ReducePre F (point (scaled F (gauss w))) c
  reduce_ok c e = record {
    point = scaled_parts ranges;
    factor = subst (λ z. Parts z (pos 124)) (sym e) (reciprocal_parts F wide z ranges);
  }

  pub log_parts : F ≤ 48 → (logs : ReciprocalTable) → ReciprocalPromise F logs →
      Parts (logs (cell_x F (scaled F (gauss w))) (cell_y F (scaled F (gauss w)))) (two 61)
  log_parts narrow logs promise = parts_weaken
      (within_parts (log_short F (omega arith) (begun_entry F wide logs (gauss w) s.cone promise)))
      (lin (two (F - 4) ∷ two (F - 2 - 2) ∷ []) (two_mono (F - 4) 44 (omega arith) & nonneg_pos (2 ^ (F - 2 - 2)) & none)
      (search reify depth 20) tt)

-- ---- an accepted point
module _ {F : ℕ} (wide : 11 ≤ F) {n : ℕ} {p : Point} (a : Accepted F (pos n) (gauss p)) where
  abbrev v : 𝔾
  v = turned (gauss p)

  count : Counts F 3 (pos n)
  count = steps_say F 3 (pos n) a.steps

  small : (turned (gauss p)).re ⩽ two (F + 10)
  small = subst (λ x. x ⩽ two (F + 10)) (sym (M-is F wide a)) (larger_le (parts_say F (gauss p) a.parts))

  pub turn_ok : F ≤ 48 → Parts (gauss p) (two 61)
  turn_ok narrow = parts_weaken (parts_say F (gauss p) a.parts) (two_mono (F + 10) 61 (omega arith))

  pub turned_pos : pos 1 ⩽ (turned (gauss p)).re
  turned_pos = cone_pos (cone F wide a)

  pub scale_ok : ScalePre F (point (turned (gauss p))) (bits (nat_abs (turned (gauss p)).re))
  unfolding bit_length
  scale_ok = record { cone = cone F wide a; small = small; bits_are = refl }

  pub bound_ok : BoundPre F n (turned (gauss p)).re
  bound_ok = record {
    most = omega (arith, count.at_most);
    size = record {
      lo = lin (v.re ∷ two (F + 10) ∷ []) (turned_pos & nonneg_pos (2 ^ (F + 10)) & none) (search reify depth 20) tt;
      hi = small;
    };
  }

  -- the steps
  pub run_ok : F ≤ 48 → (steps : StepTable) (logs : ReciprocalTable) → StepPromise F (F - 8) steps → ReciprocalPromise F logs →
      Fits F steps Log 2 n (begun F logs (turned (gauss p)))
  run_ok narrow steps logs entries reciprocals = record {
    least = omega (arith, count.at_least);
    most = omega (arith, count.at_most);
    small = λ j h. record {
      point = parts_weaken (point_size F (2 + j) _ (converging_run F steps _ (begun_converging F (omega arith) logs v (cone F wide a))
          (2 + j) j (omega arith) (omega (arith, count.at_most, count.at_least))))
          (lin (two F ∷ []) (two_mono F 48 narrow & none) (search reify depth 20) tt);
      sum = parts_weaken (within_parts (sum_size F (F - 8) (omega arith) steps entries _ (begun_short F wide a steps logs reciprocals)
          (2 + j) j (omega arith) (omega (arith, count.at_most, count.at_least))))
          (lin (two (F - 4) ∷ []) (two_mono (F - 4) 44 (omega arith) & none) (search reify depth 20) tt);
    };
  }

  pub bound_made : bound_at n (turned (gauss p)).re ≡ error_bound_of n (gauss p)
  unfolding error_bound_of
  bound_made = ap (bound_at n) (M-is F wide a)
