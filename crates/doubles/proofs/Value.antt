-- Exact doubles: a value has one double; the double of z units has the value z/2^F; the code's division makes it, and its multiplication
-- undoes it.
use Rattle.std.proofs.Common.{◌≡◌, ℕ, zero, suc, ◌+◌, ◌-◌, ◌*◌, ◌/◌, ◌^◌, ◌<◌, ◌≤◌, Bool, true, false, cond, not, T, leb, ℤ, pos, negsuc, nat_abs, sym, refl, ap, ◌∙◌, subst, le_trans, lt_of_lt_of_le, le_of_lt, add_assoc, zero-lt-suc, mul_comm, mul-pos, one-mul, mul-one, mul_right_comm, arith, lit≤, le→leb, lt→ltb, leb→le, pow_pos, pow_mono, pow-add, shl_lt}
use native.Mathlib.Nat.{eq_of_mul-eq-mul_right}
use lib.Dec.{nleb→lt}
use lib.Count.{count_trailing_zeros}
use lib.Ieee.{Float, nan, inf, fin, Format, binary64, low, prec, top, hid, up, down, minus, size, odd, fits, to_bits, of_bits}
use lib.Ieee.{round, of_int, div, mul, unlike, in_float, to_signed}
use lib.Ieee.Exact.{HasValue, odd_sign, round_exact}
use lib.Ieee.Fits.{odd-fits, div-fits, mul-fits, of_int-fits, down_pos}
use lib.Ieee.Bits.{of_bits-to_bits}
use lib.Ieee.Nearest.{div_same}
use lib.Ieee.Back.{round_whole, positive_back, negative_back}
use Rattle.doubles.specs.Units.{is_negative, HasUnits, double_of}

-- the double 2^k
abbrev pub power : ℕ → Float
power k = fin false 1 (pos k)

-- below 2^(F+1) a number has no more digits than a double
pub short : {F n : ℕ} → F ≤ 52 → n < 2 ^ suc F → n < 2 ^ 53
short {F} narrow h = lt_of_lt_of_le h (pow_mono few)
  where
    few : suc F ≤ 53
    few = omega arith

-- ---- A VALUE HAS ONE DOUBLE: the bits are made of the sign and the value alone
cross : (a b c d n t : ℕ) → 0 < t → a * t ≡ n * b → c * t ≡ n * d → a * d ≡ c * b
cross a b c d n t p h k = eq_of_mul-eq-mul_right t p (a * d) (c * b) (left ∙ sym right)
  where
    left : a * d * t ≡ n * b * d
    left = mul_right_comm a d t ∙ ap (λ (x : ℕ). x * d) h

    right : c * b * t ≡ n * b * d
    right = mul_right_comm c b t ∙ ap (λ (x : ℕ). x * b) k ∙ mul_right_comm n d b

same_bits : (f : Format) (s : Bool) (m n : ℕ) (e g : ℤ) → m * up e * down g ≡ n * up g * down e → to_bits f (fin s m e) ≡ to_bits f (fin s n g)
unfolding to_bits
same_bits f s m n e g h =
    let l = 2 ^ low f in
    ap (λ (x : ℕ). cond s (top f) 0 + (size x - prec f) * hid f + x / 2 ^ (size x - prec f))
    (div_same (m * up e * l) (down e) (n * up g * l) (down g) (down_pos e) (down_pos g)
    (mul_right_comm (m * up e) l (down g) ∙ ap (λ (x : ℕ). x * l) h ∙ mul_right_comm (n * up g) (down e) l))

pub unique : (f : Format) (x y : Float) (s : Bool) (a c : ℕ) → 0 < c → T (fits f x) → T (fits f y) →
    HasValue x s a c → HasValue y s a c → x ≡ y
unique f nan y s a c C p q v w = absurd v
unique f (inf t) y s a c C p q v w = absurd v
unique f (fin t m e) nan s a c C p q v w = absurd w
unique f (fin t m e) (inf u) s a c C p q v w = absurd w
unique f (fin t m e) (fin u n g) s a c C p q v w =
    let sign = v.0 ∙ sym w.0 in
    let value = cross (m * up e) (down e) (n * up g) (down g) a c C v.1 w.1 in
    sym (of_bits-to_bits f (fin t m e) p)
    ∙ ap (of_bits f) (ap (λ (b : Bool). to_bits f (fin b m e)) sign ∙ same_bits f u m n e g value)
    ∙ of_bits-to_bits f (fin u n g) q

pub unique_units : (F : ℕ) (z : ℤ) {x y : Float} → T (fits binary64 x) → T (fits binary64 y) → HasUnits F x z → HasUnits F y z → x ≡ y
unique_units F z {x} {y} p q v w = unique binary64 x y (is_negative z) (nat_abs z) (2 ^ F) (pow_pos F) p q v w

-- ---- THE VALUE OF A WRITTEN DOUBLE IS z/2^F, for every z
pub double_value : (F : ℕ) (z : ℤ) → HasUnits F (double_of F z) z
unfolding double_of
double_value F z =
    let s = is_negative z in
    let n = nat_abs z in
    subst (λ (k : ℕ). HasValue (odd (suc F) s n 0 F) s k (2 ^ F)) (mul-one n) (odd_sign (suc F) s n 0 F)

-- ---- A WRITTEN DOUBLE IS A DOUBLE: below 2^(F+1) units nothing is too long for it
minus_shift : (j a b : ℕ) → minus (j + a) (j + b) ≡ minus a b
minus_shift j a b = go (leb (j + b) (j + a)) (leb b a) (leb→le (j + b) (j + a)) (nleb→lt (j + b) (j + a)) (leb→le b a) (nleb→lt b a)
  where
    over : b ≤ a → j + a - (j + b) ≡ a - b
    over h = omega arith

    under : a < b → j + b - suc (j + a) ≡ b - suc a
    under h = omega arith

    not_under : j + b ≤ j + a → a < b → ⊥
    not_under h k = omega arith

    not_over : j + a < j + b → b ≤ a → ⊥
    not_over h k = omega arith

    go : (p q : Bool) → (T p → j + b ≤ j + a) → (T (not p) → j + a < j + b) → (T q → b ≤ a) → (T (not q) → a < b)
        → cond p (pos (j + a - (j + b))) (negsuc (j + b - suc (j + a))) ≡ cond q (pos (a - b)) (negsuc (b - suc a))
    go true true h h' k k' = ap pos (over (k tt))
    go true false h h' k k' = absurd (not_under (h tt) (k' tt))
    go false true h h' k k' = absurd (not_over (h' tt) (k tt))
    go false false h h' k k' = ap negsuc (under (k' tt))

odd_shift : (d : ℕ) (s : Bool) (q j k l : ℕ) → odd d s q (j + k) (j + l) ≡ odd d s q k l
unfolding odd
odd_shift d s zero j k l = refl
odd_shift d s (suc q) j k l =
    let t = count_trailing_zeros d (suc q) in
    ap (λ (e : ℤ). fin s (suc q / 2 ^ t) e) (ap (λ (a : ℕ). minus a (j + l)) (add_assoc j k t) ∙ minus_shift j (k + t) l)

pub double_fits : (F : ℕ) (z : ℤ) → F ≤ 52 → nat_abs z < 2 ^ suc F → T (fits binary64 (double_of F z))
unfolding double_of
double_fits F z narrow h =
    let s = is_negative z in
    let n = nat_abs z in
    let j = 1074 - F + 0 in
    subst (λ (x : Float). T (fits binary64 x)) (odd_shift (suc F) s n (1074 - F) 0 F)
    (subst (λ (l : ℕ). T (fits binary64 (odd (suc F) s n j l))) (sym whole)
    (odd-fits binary64 (suc F) s n j h (le_of_lt (short narrow h)) (lt_of_lt_of_le (shl_lt (suc F) j h) (pow_mono far))))
  where
    whole : 1074 - F + F ≡ 1074
    whole = omega arith

    far : suc F + (1074 - F + 0) ≤ 1074 + 1024
    far = omega arith

-- ---- WHAT THE CODE DIVIDES IS EXACT: z as a double, over 2^F
rescale : (x : Float) (s : Bool) (n c d : ℕ) → 0 < d → HasValue x s (n * d) (c * d) → HasValue x s n c
rescale nan s n c d p v = v
rescale (inf t) s n c d p v = v
rescale (fin t m e) s n c d p v = (v.0, eq_of_mul-eq-mul_right d p (m * up e * c) (n * down e) (go (m * up e) (down e) v.1))
  where
    go : (a b : ℕ) → a * (c * d) ≡ n * d * b → a * c * d ≡ n * b * d
    go a b h = omega (arith, h)

sign_kept : (t : Bool) → unlike t false ≡ t
sign_kept true = refl
sign_kept false = refl

pub whole_value : (z : ℤ) → nat_abs z ≤ 2 ^ 53 → HasValue (of_int binary64 z) (is_negative z) (nat_abs z) 1
unfolding of_int
whole_value (pos n) h = round_whole binary64 false n h
whole_value (negsuc n) h = round_whole binary64 true (suc n) h

pub in_double : (z : ℤ) → nat_abs z ≤ 2 ^ 53 → T (in_float binary64 z)
unfolding in_float
in_double (pos n) h = le→leb n (2 ^ 53) h
in_double (negsuc n) h = lt→ltb n (2 ^ 53) h

quotient_value : (F : ℕ) (x : Float) (s : Bool) (n : ℕ) → F ≤ 52 → n < 2 ^ 53 → HasValue x s n 1 →
    HasValue (div binary64 x (power F)) s n (2 ^ F)
unfolding div
quotient_value F nan s n narrow h v = absurd v
quotient_value F (inf t) s n narrow h v = absurd v
quotient_value F (fin t m e) s n narrow h v =
    let num : m * up e * 1 ≡ n * down e = v.1 in
    rw (sign_kept t, v.0, num, one-mul (2 ^ F))
    (rescale (round binary64 s (n * down e) (2 ^ F * down e)) s n (2 ^ F) (down e) (down_pos e)
    (round_exact binary64 s (n * down e) (2 ^ F * down e) n (1074 - F) (mul-pos (pow_pos F) (down_pos e)) h
    (lt_of_lt_of_le (shl_lt 53 (1074 - F) h) (pow_mono far))
    (ap (λ (p : ℕ). n * down e * p) split ∙ swap (down e) (2 ^ (1074 - F)) (2 ^ F))))
  where
    far : 53 + (1074 - F) ≤ 1074 + 1024
    far = omega arith

    whole : 1074 ≡ 1074 - F + F
    whole = omega arith

    split : 2 ^ 1074 ≡ 2 ^ (1074 - F) * 2 ^ F
    split = ap (λ (k : ℕ). 2 ^ k) whole ∙ pow-add 2 (1074 - F) F

    swap : (d a b : ℕ) → n * d * (a * b) ≡ n * a * (b * d)
    swap d a b = omega arith

-- p is the code's 2^F
pub written_is : (F : ℕ) (z : ℤ) {p : Float} → F ≤ 52 → nat_abs z < 2 ^ suc F → p ≡ power F → div binary64 (of_int binary64 z) p ≡ double_of F z
written_is F z narrow h e =
    let whole = of_int binary64 z in
    let exact = quotient_value F whole (is_negative z) (nat_abs z) narrow (short narrow h) (whole_value z (le_of_lt (short narrow h))) in
    ap (div binary64 whole) e ∙ unique_units F z (div-fits binary64 whole (power F)) (double_fits F z narrow h) exact (double_value F z)

-- ---- AND SO IS WHAT IT MULTIPLIES: a whole number of units times 2^F is that number
pub product_value : (F : ℕ) (x : Float) (s : Bool) (n : ℕ) → n < 2 ^ 53 → HasValue x s n (2 ^ F) → HasValue (mul binary64 x (power F)) s n 1
unfolding mul
product_value F nan s n h v = absurd v
product_value F (inf t) s n h v = absurd v
product_value F (fin t m e) s n h v =
    let num : m * up e * 2 ^ F ≡ n * down e = v.1 in
    rw (sign_kept t, v.0, one-mul (2 ^ F), num)
    (rescale (round binary64 s (n * down e) (down e * 1)) s n 1 (down e) (down_pos e)
    (subst (λ (d : ℕ). HasValue (round binary64 s (n * down e) (down e * 1)) s (n * down e) d) (mul_comm (down e) 1)
    (round_exact binary64 s (n * down e) (down e * 1) n 1074 (mul-pos (down_pos e) (zero-lt-suc 0)) h
    (lt_of_lt_of_le (shl_lt 53 1074 h) (lit≤ tt)) (swap (down e) (2 ^ 1074)))))
  where
    swap : (d a : ℕ) → n * d * a ≡ n * a * (d * 1)
    swap d a = omega arith

pub product_is : (F : ℕ) (x : Float) (z : ℤ) → nat_abs z < 2 ^ 53 → HasUnits F x z → mul binary64 x (power F) ≡ of_int binary64 z
product_is F x z h v = unique binary64 (mul binary64 x (power F)) (of_int binary64 z) (is_negative z) (nat_abs z) 1 (zero-lt-suc 0)
    (mul-fits binary64 x (power F)) (of_int-fits binary64 z)
    (product_value F x (is_negative z) (nat_abs z) h v) (whole_value z (le_of_lt h))

pub whole_back : (z : ℤ) → nat_abs z < 2 ^ 53 → to_signed 63 (of_int binary64 z) ≡ z
whole_back (pos n) h = (positive_back binary64 63 n (in_double (pos n) (le_of_lt h)) (lt_of_lt_of_le h (lit≤ tt))).1
whole_back (negsuc n) h = (negative_back binary64 63 n (in_double (negsuc n) (le_of_lt h)) (le_trans (le_of_lt h) (lit≤ tt))).1
