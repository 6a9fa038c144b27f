-- Reading as the code does it: the product, two tests, the cut, the count written again, and a comparison of bits.
use Rattle.std.proofs.Common.{◌≡◌, ℕ, zero, suc, ◌+◌, ◌-◌, ◌*◌, ◌/◌, ◌^◌, ◌<◌, ◌≤◌, min, Bool, true, false, not, ◌||◌, T, ℤ, pos, neg_ℤ, nat_abs, sym, refl, ap, ◌∙◌, subst, lt_of_lt_of_le, le-add_right, mul-le-mul_right, div-lt_iff_lt-mul, mul-lt-mul_of_pos_right, mul-pos, one-mul, mul-one, le-add_left, arith, ltb→lt, lt→ltb, pow_pos, pow_mono}
use lib.Dec.{not_T}
use lib.Ieee.{Float, nan, inf, fin, binary64, up, down, fits, to_bits, of_bits, is_nan, mul, to_signed, lt, le, eq}
use lib.Ieee.Exact.{HasValue}
use lib.Ieee.Fits.{down_pos}
use lib.Ieee.Bits.{of_bits-to_bits, is_false}
use Rattle.doubles.specs.Units.{is_negative, double_of, is_units, units_of}
use Rattle.doubles.proofs.Value.{power, short, double_fits, product_value, whole_back}
use Rattle.doubles.proofs.Reading.{units_say, read_written, written_read, product_units}

-- ---- the two tests before the cut
abbrev pub minus_power : ℕ → Float
minus_power k = fin true 1 (pos k)

pub record Below (k : ℕ) (y : Float) : Type 0 where
  pub low : T (lt (minus_power k) y)
  pub high : T (lt y (power k))

-- both hold exactly where the size is below 2^k
sized_below : (k : ℕ) (t : Bool) (m : ℕ) (e : ℤ) → m * up e < 2 ^ k * down e → Below k (fin t m e)
unfolding lt
sized_below k t m e h = go t
  where
    a : ℕ
    a = m * up e * 1

    b : ℕ
    b = 1 * 2 ^ k * down e

    less : a < b
    less = rw (mul-one (m * up e), one-mul (2 ^ k)) h

    some : 0 < b
    some = rw (one-mul (2 ^ k)) (mul-pos (pow_pos k) (down_pos e))

    go : (t : Bool) → Below k (fin t m e)
    go true = record { low = lt→ltb a b less; high = lt→ltb 0 (a + b) (lt_of_lt_of_le some (le-add_left b a)) }
    go false = record { low = lt→ltb 0 (b + a) (lt_of_lt_of_le some (le-add_right b a)); high = lt→ltb a b less }

below_sized : (k : ℕ) (t : Bool) (m : ℕ) (e : ℤ) → Below k (fin t m e) → m * up e < 2 ^ k * down e
unfolding lt
below_sized k true m e h = rw (mul-one (m * up e), one-mul (2 ^ k)) at (ltb→lt (m * up e * 1) (1 * 2 ^ k * down e) h.low)
below_sized k false m e h = rw (mul-one (m * up e), one-mul (2 ^ k)) at (ltb→lt (m * up e * 1) (1 * 2 ^ k * down e) h.high)

-- so they hold of a whole number below 2^k in size
whole_below : (k : ℕ) (y : Float) (s : Bool) (n : ℕ) → n < 2 ^ k → HasValue y s n 1 → Below k y
whole_below k nan s n h v = absurd v
whole_below k (inf t) s n h v = absurd v
whole_below k (fin t m e) s n h v = sized_below k t m e
    (subst (λ (x : ℕ). x < 2 ^ k * down e) (sym v.1 ∙ mul-one (m * up e)) (mul-lt-mul_of_pos_right h (down_pos e)))

-- ---- what the kit's cut asks, and how large what it gives is
pub record Cut (k : ℕ) (y : Float) : Type 0 where
  pub low : T (le (minus_power 63) y)
  pub high : T (lt y (power 63))
  pub small : nat_abs (to_signed 63 y) < 2 ^ k

or_left : (a b : Bool) → T a → T (a || b)
or_left true b t = tt
or_left false b t = absurd t

negated_size : (n : ℕ) → nat_abs (neg_ℤ (pos n)) ≡ n
negated_size zero = refl
negated_size (suc n) = refl

pub cut_says : (k : ℕ) (y : Float) → k ≤ 63 → Below k y → Cut k y
unfolding lt le to_signed
cut_says k nan w h = absurd h.low
cut_says k (inf true) w h = absurd h.low
cut_says k (inf false) w h = absurd h.high
cut_says k (fin t m e) w h = record {
  low = or_left (lt (minus_power 63) (fin t m e)) (eq (minus_power 63) (fin t m e)) far.low;
  high = far.high;
  small = small t;
}
  where
    few : m * up e < 2 ^ k * down e
    few = below_sized k t m e h

    far : Below 63 (fin t m e)
    far = sized_below 63 t m e (lt_of_lt_of_le few (mul-le-mul_right (down e) (pow_mono w)))

    least : (c : ℕ) → min (m * up e / down e) c < 2 ^ k
    least c = lower ((div-lt_iff_lt-mul (down_pos e)).1 few)
      where
        lower : {a b : ℕ} → a < b → min a c < b
        lower l = omega arith

    small : (t : Bool) → nat_abs (to_signed 63 (fin t m e)) < 2 ^ k
    small true = rw (negated_size (min (m * up e / down e) (2 ^ 63))) (least (2 ^ 63))
    small false = least (2 ^ 63 - 1)

-- ---- what is not a number passes no test, and has no value
pub product_number : (x y b : Float) → T (lt b (mul binary64 x y)) → T (not (is_nan x))
unfolding lt mul is_nan
product_number nan y nan p = absurd p
product_number nan y (inf t) p = absurd p
product_number nan y (fin t n d) p = absurd p
product_number (inf s) y b p = tt
product_number (fin s m e) y b p = tt

pub value_number : (x : Float) (s : Bool) (a c : ℕ) → HasValue x s a c → T (not (is_nan x))
unfolding is_nan
value_number nan s a c v = absurd v
value_number (inf t) s a c v = absurd v
value_number (fin t m e) s a c v = tt

-- ---- READING AS THE CODE DOES IT
-- a double is accepted where its bits are those of a count, written
pub accepts : (F : ℕ) (x : Float) (z : ℤ) → F ≤ 52 → T (fits binary64 x) → nat_abs z < 2 ^ suc F →
    to_bits binary64 (double_of F z) ≡ to_bits binary64 x → (is_units F x ≡ true) × (units_of F x ≡ z)
accepts F x z narrow f h e =
    let own = of_bits-to_bits binary64 (double_of F z) (double_fits F z narrow h) in
    let same : double_of F z ≡ x = sym own ∙ ap (of_bits binary64) e ∙ of_bits-to_bits binary64 x f in
    subst (λ (y : Float). (is_units F y ≡ true) × (units_of F y ≡ z)) same (read_written F z h)

no_units : (F : ℕ) (x : Float) → (T (is_units F x) → ⊥) → is_units F x ≡ false
no_units F x none = is_false (is_units F x) (not_T (is_units F x) none)

-- it is no whole number of units where they are not those of what the product is cut to
pub refuses : (F : ℕ) (x : Float) (z : ℤ) → F ≤ 52 → T (fits binary64 x) → z ≡ to_signed 63 (mul binary64 x (power F)) →
    (to_bits binary64 (double_of F z) ≡ to_bits binary64 x → ⊥) → is_units F x ≡ false
refuses F x z narrow f cut differ = no_units F x (λ yes.
    let u = units_of F x in
    let counted : z ≡ u = cut ∙ ap (to_signed 63) (product_units F x narrow yes) ∙ whole_back u (short narrow (units_say F x yes).small) in
    differ (ap (to_bits binary64) (ap (double_of F) counted ∙ written_read F x narrow f yes)))

-- nor where the product fails a test
pub outside : (F : ℕ) (x : Float) → F ≤ 52 → (Below (suc F) (mul binary64 x (power F)) → ⊥) → is_units F x ≡ false
outside F x narrow fails = no_units F x (λ yes.
    let z = units_of F x in
    let u = units_say F x yes in
    let exact = product_value F x (is_negative z) (nat_abs z) (short narrow u.small) u.value in
    fails (whole_below (suc F) (mul binary64 x (power F)) (is_negative z) (nat_abs z) u.small exact))
