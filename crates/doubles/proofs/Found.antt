-- What the code finds: its constants, which it names by their bits, one double with them, and two.
use Rattle.std.proofs.Common.{◌≡◌, ℕ, suc, ◌^◌, ◌<◌, ◌≤◌, Bool, true, false, cond, not, ◌&&◌, T, ℤ, nat_abs, sym, refl, ap, ◌∙◌, subst, arith}
use lib.Ieee.{Float, binary64, fits, to_bits, of_bits, is_nan, neg, mul, lt, to_signed}
use Rattle.doubles.specs.declared.Doubles.{Doubles}
use Rattle.std.specs.Prelude.{Some, None}
use Rattle.doubles.specs.Units.{is_negative, double_of, is_units, units_of}
use Rattle.doubles.specs.Record.{units_in}
use Rattle.doubles.specs.Code.{part_in}
use Rattle.doubles.proofs.Value.{power, double_value}
use Rattle.doubles.proofs.Tests.{minus_power, Below, Cut, cut_says, value_number, accepts, refuses, outside}

-- ---- the constants
pub two_48 : of_bits binary64 4823355200913801216 ≡ power 48
unfolding of_bits
two_48 = refl

pub two_49 : of_bits binary64 4827858800541171712 ≡ power 49
unfolding of_bits
two_49 = refl

neg_power : (k : ℕ) → neg (power k) ≡ minus_power k
unfolding neg
neg_power k = refl

-- ---- one double
pub written_number : (F : ℕ) (z : ℤ) → T (not (is_nan (double_of F z)))
written_number F z = value_number (double_of F z) (is_negative z) (nat_abs z) (2 ^ F) (double_value F z)

-- the same of what was written, so that the check finds it by itself wherever such a double's bits are read
pub written_is_number : {d : Float} (F : ℕ) (z : ℤ) → d ≡ double_of F z → T (not (is_nan d))
written_is_number F z e = rw e (written_number F z)

-- x with the code's 2^F and 2^(F+1): the product and its two tests
module _ (F : ℕ) {p q : Float} (narrow : F ≤ 52) (P : p ≡ power F) (Q : q ≡ power (suc F)) (x : Float) where
  pub outside_low : lt (neg q) (mul binary64 x p) ≡ false → is_units F x ≡ false
  outside_low a = outside F x narrow (λ h. subst T (rw (Q, P, neg_power (suc F)) at a) h.low)

  pub outside_high : lt (mul binary64 x p) q ≡ false → is_units F x ≡ false
  outside_high b = outside F x narrow (λ h. subst T (rw (Q, P) at b) h.high)

  module _ (a : lt (neg q) (mul binary64 x p) ≡ true) (b : lt (mul binary64 x p) q ≡ true) where
    tests : Below (suc F) (mul binary64 x (power F))
    tests = record {
      low = subst T (sym (rw (Q, P, neg_power (suc F)) at a)) tt;
      high = subst T (sym (rw (Q, P) at b)) tt;
    }

    pub passed : Cut (suc F) (mul binary64 x p)
    passed = rw P (cut_says (suc F) (mul binary64 x (power F)) few tests)
      where
        few : suc F ≤ 63
        few = omega arith

    -- the cut z
    module _ {z : ℤ} (e : z ≡ to_signed 63 (mul binary64 x p)) where
      pub cut_small : nat_abs z < 2 ^ suc F
      cut_small = rw e passed.small

      -- written again as w, whose bits are compared
      module _ {w : Float} (f : fits binary64 x ≡ true) (v : w ≡ double_of F z) where
        pub read_whole : to_bits binary64 w ≡ to_bits binary64 x → part_in F x ≡ Some z
        unfolding part_in
        read_whole s = let k = accepts F x z narrow (subst T (sym f) tt) cut_small (ap (to_bits binary64) (sym v) ∙ s) in rw (k.0, k.1)

        pub read_other : (to_bits binary64 w ≡ to_bits binary64 x → ⊥) → part_in F x ≡ None
        unfolding part_in
        read_other n = rw (refuses F x z narrow (subst T (sym f) tt) (rw P at e) (λ s. n (ap (to_bits binary64) v ∙ s)))

-- ---- two doubles, from what each is
and_false : (a b : Bool) → b ≡ false → a && b ≡ false
and_false true b e = e
and_false false b e = refl

some_says : (b : Bool) (u : ℤ) {a : ℤ} → cond b (Some u) None ≡ Some a → (b ≡ true) × (u ≡ a)
some_says true u e = (refl, cc)
some_says false u e = let z : ◌≡◌ {A = ℕ} 0 1 = cc in absurd (omega arith)

none_says : (b : Bool) (u : ℤ) → cond b (Some u) None ≡ None → b ≡ false
none_says true u e = let z : ◌≡◌ {A = ℕ} 0 1 = cc in absurd (omega arith)
none_says false u e = refl

module _ (F : ℕ) (d : Doubles) where
  pub both_some : {a b : ℤ} → part_in F d.x ≡ Some a → part_in F d.y ≡ Some b → units_in F d ≡ Some (record { x = a; y = b })
  unfolding units_in part_in
  both_some p q =
      let k = some_says (is_units F d.x) (units_of F d.x) p in
      let l = some_says (is_units F d.y) (units_of F d.y) q in
      rw (k.0, l.0, k.1, l.1)

  pub first_none : part_in F d.x ≡ None → units_in F d ≡ None
  unfolding units_in part_in
  first_none p = rw (none_says (is_units F d.x) (units_of F d.x) p)

  pub second_none : part_in F d.y ≡ None → units_in F d ≡ None
  unfolding units_in part_in
  second_none p = rw (and_false (is_units F d.x) (is_units F d.y) (none_says (is_units F d.y) (units_of F d.y) p))
