-- What reading accepts, and that writing and reading undo each other.
use Rattle.std.proofs.Common.{◌≡◌, ℕ, zero, suc, ◌+◌, ◌*◌, ◌/◌, ◌%◌, ◌^◌, ◌<◌, ◌≤◌, Bool, true, false, cond, not, ◌&&◌, T, eqb, ltb, ℤ, pos, negsuc, neg_ℤ, nat_abs, sym, refl, ap, ◌∙◌, subst, add-zero, lt_irrefl, zero-lt-suc, mul-pos, div-add-mod', zero-mul, mul-div_cancel, eqb→eq, ltb→lt, lt→ltb, pow_pos}
use native.Mathlib.Nat.{mul-mod_left}
use lib.Dec.{not_T}
use lib.Ieee.{Float, nan, inf, fin, binary64, up, down, fits, of_int, mul}
use lib.Ieee.Fits.{down_pos, up_pos, and_i, and_l, and_r}
use lib.Ieee.Bits.{is_true}
use Rattle.doubles.specs.Units.{HasUnits, double_of, is_units, units_of}
use Rattle.doubles.proofs.Value.{power, short, unique_units, double_value, double_fits, product_is}

-- ---- WHAT READING ACCEPTS: the doubles of a whole number of units below 2^(F+1) in size, and no other
-- with the sign, the numerator, the size in units and what is cut off as variables
abbrev units_at : (top : ℕ) (s : Bool) (m c r : ℕ) → Bool
units_at top s m c r = eqb r 0 && ltb c top && not (s && eqb m 0)

pub is_units_lem : (F : ℕ) (x : Float) (z : ℤ) → nat_abs z < 2 ^ suc F → HasUnits F x z → (is_units F x ≡ true) × (units_of F x ≡ z)
unfolding is_units units_of
is_units_lem F nan z h v = absurd v
is_units_lem F (inf t) z h v = absurd v
is_units_lem F (fin t m e) z h v = go z h v
  where
    a : ℕ
    a = m * up e * 2 ^ F

    size_is : (n : ℕ) → a ≡ n * down e → a / down e ≡ n
    size_is n q = ap (λ (x : ℕ). x / down e) q ∙ mul-div_cancel n (down_pos e)

    cut_is : (n : ℕ) → a ≡ n * down e → a % down e ≡ 0
    cut_is n q = ap (λ (x : ℕ). x % down e) q ∙ mul-mod_left n (down e)

    test : (n : ℕ) → n < 2 ^ suc F → T (not (t && eqb m 0)) → T (units_at (2 ^ suc F) t m n 0)
    test n l k = and_i (eqb 0 0 && ltb n (2 ^ suc F)) (not (t && eqb m 0)) (lt→ltb n (2 ^ suc F) l) k

    passes : (n : ℕ) → n < 2 ^ suc F → a ≡ n * down e → T (not (t && eqb m 0)) → units_at (2 ^ suc F) t m (a / down e) (a % down e) ≡ true
    passes n l q k = rw (size_is n q, cut_is n q) (is_true (units_at (2 ^ suc F) t m n 0) (test n l k))

    signed : {b : Bool} → t ≡ b → T (not (b && eqb m 0)) → T (not (t && eqb m 0))
    signed s k = subst (λ (b : Bool). T (not (b && eqb m 0))) (sym s) k

    none : m ≡ 0 → a ≡ 0
    none z = ap (λ (y : ℕ). y * up e * 2 ^ F) z ∙ ap (λ (y : ℕ). y * 2 ^ F) (zero-mul (up e)) ∙ zero-mul (2 ^ F)

    some : (k : ℕ) → a ≡ suc k * down e → T (not (eqb m 0))
    some k q = not_T (eqb m 0) (λ (z : T (eqb m 0)). lt_irrefl 0
        (subst (λ (x : ℕ). 0 < x) (sym q ∙ none (eqb→eq m 0 z)) (mul-pos (zero-lt-suc k) (down_pos e))))

    go : (z : ℤ) → nat_abs z < 2 ^ suc F → HasUnits F (fin t m e) z → (is_units F (fin t m e) ≡ true) × (units_of F (fin t m e) ≡ z)
    go (pos n) l w = (passes n l w.1 (signed w.0 tt), rw (w.0, size_is n w.1) refl)
    go (negsuc n) l w = (passes (suc n) l w.1 (signed w.0 (some n w.1)), rw (w.0, size_is (suc n) w.1) refl)

pub record Counted (F : ℕ) (x : Float) (z : ℤ) : Type 0 where
  pub small : nat_abs z < 2 ^ suc F
  pub value : HasUnits F x z

pub units_say : (F : ℕ) (x : Float) → T (is_units F x) → Counted F x (units_of F x)
unfolding is_units units_of
units_say F nan p = absurd p
units_say F (inf t) p = absurd p
units_say F (fin t m e) p =
    let a = m * up e * 2 ^ F in
    let n = a / down e in
    let r = a % down e in
    let sized = eqb r 0 && ltb n (2 ^ suc F) in
    let c = and_l sized (not (t && eqb m 0)) p in
    let cut = eqb→eq r 0 (and_l (eqb r 0) (ltb n (2 ^ suc F)) c) in
    let whole : a ≡ n * down e = sym (div-add-mod' a (down e)) ∙ ap (λ (x : ℕ). n * down e + x) cut ∙ add-zero (n * down e) in
    go t n whole (ltb→lt n (2 ^ suc F) (and_r (eqb r 0) (ltb n (2 ^ suc F)) c)) (and_r sized (not (t && eqb m 0)) p)
  where
    minus_zero : (k : ℕ) → k * up e * 2 ^ F ≡ 0 * down e → T (not (eqb k 0)) → ⊥
    minus_zero zero q u = u
    minus_zero (suc k) q u =
        lt_irrefl 0 (subst (λ (x : ℕ). 0 < x) (q ∙ zero-mul (down e)) (mul-pos (mul-pos (zero-lt-suc k) (up_pos e)) (pow_pos F)))

    go : (s : Bool) (n : ℕ) → m * up e * 2 ^ F ≡ n * down e → n < 2 ^ suc F → T (not (s && eqb m 0)) →
        Counted F (fin s m e) (cond s (neg_ℤ (pos n)) (pos n))
    go false n q l u = record { small = l; value = (refl, q) }
    go true zero q l u = absurd (minus_zero m q u)
    go true (suc n) q l u = record { small = l; value = (refl, q) }

-- ---- READING WHAT WAS WRITTEN gives the same whole number
pub read_written : (F : ℕ) (z : ℤ) → nat_abs z < 2 ^ suc F → (is_units F (double_of F z) ≡ true) × (units_of F (double_of F z) ≡ z)
read_written F z h = is_units_lem F (double_of F z) z h (double_value F z)

-- ---- WRITING WHAT WAS READ gives the same double
pub written_read : (F : ℕ) (x : Float) → F ≤ 52 → T (fits binary64 x) → T (is_units F x) → double_of F (units_of F x) ≡ x
written_read F x narrow f p =
    let z = units_of F x in
    let u = units_say F x p in
    unique_units F z (double_fits F z narrow u.small) f (double_value F z) u.value

-- ---- the code's product is exact where the double is a whole number of units
pub product_units : (F : ℕ) (x : Float) → F ≤ 52 → T (is_units F x) → mul binary64 x (power F) ≡ of_int binary64 (units_of F x)
product_units F x narrow p = let u = units_say F x p in product_is F x (units_of F x) (short narrow u.small) u.value
