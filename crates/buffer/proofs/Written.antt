-- What is known of a written number: its digits one by one, and how many bytes it takes.
use mathlib.Core.Path.{◌≡◌, refl, sym, ap, subst}
use mathlib.Core.Bool.{true, false}
use mathlib.Core.List.{List, [], ◌∷◌, ◌++◌}
use mathlib.Core.Logic.{◌⊎◌, inl, inr, ⊎_elim}
use Prim.Native.Nat.{ℕ, zero, suc, ◌+◌, ◌*◌, ◌/◌, ◌%◌, ◌^◌, ◌≤◌, ◌<◌, max}
use native.Mathlib.Omega.{arith}
use native.Mathlib.Nat.{pow-suc, one-le-pow, div-lt_iff_lt-mul}
use lib.Dec.{T, ltb, lit<, leb→le}
use lib.IntN.{ℤ, pos, negsuc, nat_abs}
use lib.ListN.{length, length-append}
use lib.Signed.{lt_z, nat_abs-le}
use mir.Syntax.{w64}
use mir.Val.{SFits}
use borrow.Author.Tests.{lt-ltb, le-ltb, ltb-true, ltb-false}
use Rattle.std.specs.Fmt.{decimal}
use Rattle.std.proofs.lemmas.Fmt.{AppendsLastDigit, decimal_from_appends, length-decimal-le_succ}
use Rattle.algebra.specs.Order.{◌⩽◌}
use Rattle.algebra.proofs.Test.{either}
use Rattle.word.proofs.Fits.{back}
use Rattle.word.specs.Compare.{between}
use Rattle.word.proofs.Compare.{between_true}
use Rattle.buffer.specs.Decimal.{digits, show_natural, show_number}

pub small_or : (v : ℕ) → (v < 10) ⊎ (10 ≤ v)
small_or v = either (ltb v 10) (λ e. inl (ltb-true v 10 e)) (λ e. inr (ltb-false v 10 e))

-- ---- any f above v serves
fuel : (f g v : ℕ) → v < f → v < g → digits f v ≡ digits g v
unfolding digits
fuel zero g v h k = absurd (omega arith)
fuel (suc f) zero v h k = absurd (omega arith)
fuel (suc f) (suc g) v h k =
    ⊎_elim (λ w. rw (lt-ltb v 10 w))
    (λ w. rw (le-ltb v 10 w) (ap (λ (l : List ℕ). l ++ (48 + v % 10) ∷ []) (fuel f g (v / 10) (omega arith) (omega arith))))
    (small_or v)

-- ---- the digits one by one
pub digits_one : (v : ℕ) → v < 10 → show_natural v ≡ (48 + v) ∷ []
unfolding digits show_natural
digits_one v h = rw (lt-ltb v 10 h)

pub digits_more : (v : ℕ) → 10 ≤ v → show_natural v ≡ show_natural (v / 10) ++ (48 + v % 10) ∷ []
unfolding digits show_natural
digits_more v h = rw (le-ltb v 10 h)
    (ap (λ (l : List ℕ). l ++ (48 + v % 10) ∷ []) (fuel v (suc (v / 10)) (v / 10) (omega arith) (omega arith)))

-- what holds of one digit, and of a digit more, holds of every written number
pub digits_ind : (P : ℕ → List ℕ → Type 0) →
    ((v : ℕ) → v < 10 → P v ((48 + v) ∷ [])) →
    ((v : ℕ) (l : List ℕ) → 10 ≤ v → P (v / 10) l → P v (l ++ (48 + v % 10) ∷ [])) →
    (v : ℕ) → P v (show_natural v)
digits_ind P one more v = below (suc v) v (omega arith)
  where
    below : (f v : ℕ) → v < f → P v (show_natural v)
    below zero v h = absurd (omega arith)
    below (suc f) v h =
        ⊎_elim (λ w. rw (digits_one v w) (one v w))
        (λ w. rw (digits_more v w) (more v (show_natural (v / 10)) w (below f (v / 10) (omega arith))))
        (small_or v)

-- ---- std's digits are these
appends : AppendsLastDigit digits
unfolding digits
appends = record { one = λ k n h. rw (lt-ltb n 10 h); more = λ k n h. rw (le-ltb n 10 h) }

pub natural_is : (n : ℕ) → n < 2 ^ 64 → show_natural n ≡ decimal n
unfolding show_natural
natural_is n h = decimal_from_appends digits appends (suc n) n h (omega (arith, length-decimal-le_succ n h))

div_small : (k v : ℕ) → v < 10 ^ suc k → v / 10 < 10 ^ k
div_small k v h = (div-lt_iff_lt-mul (lit< tt)).1 (rw pow-suc at h)

-- ---- how many there are
pub short : (k v : ℕ) → v < 10 ^ suc k → length (show_natural v) ≤ suc k
short k v h = digits_ind P one more v k h
  where
    P : ℕ → List ℕ → Type 0
    P v l = (k : ℕ) → v < 10 ^ suc k → length l ≤ suc k

    one : (v : ℕ) → v < 10 → P v ((48 + v) ∷ [])
    one v h k g = omega arith

    more : (v : ℕ) (l : List ℕ) → 10 ≤ v → P (v / 10) l → P v (l ++ (48 + v % 10) ∷ [])
    more v l h r zero g = absurd (omega arith)
    more v l h r (suc k) g = simp length-append (omega (arith, r k (div_small (suc k) v g)))

long : (k v : ℕ) → 10 ^ k ≤ v → suc k ≤ length (show_natural v)
long k v h = digits_ind P one more v k h
  where
    P : ℕ → List ℕ → Type 0
    P v l = (k : ℕ) → 10 ^ k ≤ v → suc k ≤ length l

    one : (v : ℕ) → v < 10 → P v ((48 + v) ∷ [])
    one v h zero g = omega arith
    one v h (suc k) g = let q = rw pow-suc at g in absurd (omega (arith, one-le-pow k 10 (lit< tt)))

    more : (v : ℕ) (l : List ℕ) → 10 ≤ v → P (v / 10) l → P v (l ++ (48 + v % 10) ∷ [])
    more v l h r zero g = simp length-append (omega arith)
    more v l h r (suc k) g = let q = rw pow-suc at g in simp length-append (omega (arith, r k (omega arith)))

-- as the logarithm tells it
pub length_is : (v k : ℕ) → 10 ^ k ≤ max v 1 → max v 1 < 10 * 10 ^ k → k + 1 ≡ length (show_natural v)
length_is zero zero h g = sym (ap length (digits_one 0 (lit< tt)))
length_is zero (suc k) h g = let q = rw pow-suc at h in absurd (omega (arith, one-le-pow k 10 (lit< tt)))
length_is (suc v) k h g = omega (arith, long k (suc v) (omega arith), short k (suc v) (rw pow-suc (omega arith)))

-- ---- a number by its sign and size
pub show_minus : (z : ℤ) → lt_z z (pos 0) ≡ true → show_number z ≡ 45 ∷ show_natural (nat_abs z)
unfolding show_number
show_minus (pos n) e = let h = ltb-true n 0 e in absurd (omega arith)
show_minus (negsuc n) e = refl

pub show_plus : (z : ℤ) → lt_z z (pos 0) ≡ false → show_number z ≡ show_natural (nat_abs z)
unfolding show_number
show_plus (pos n) e = refl
show_plus (negsuc n) e = absurd (subst T e tt)

-- what the check is given of them
pub ruleset by_sign = (show_minus, show_plus, back)

-- 19 digits and a sign at most
pub short_size : (z : ℤ) → SFits w64 z → length (show_natural (nat_abs z)) ≤ 19
short_size z f = short 18 (nat_abs z) (omega (arith, nat_abs-le z f.sfits))

pub short_number : (z : ℤ) → SFits w64 z → length (show_number z) ≤ 20
unfolding show_number
short_number (pos n) f = omega (arith, short_size (pos n) f)
short_number (negsuc n) f = omega (arith, short_size (negsuc n) f)

-- a number from lo to hi, which has no more than k + 1 digits
pub short_range : (lo k : ℕ) {hi : ℕ} (z : ℤ) → hi < 10 ^ suc k → between (pos lo) (pos hi) z ≡ true → length (show_number z) ≤ suc k
unfolding show_number
short_range lo k {hi} z h b = go z (between_true b)
  where
    go : (z : ℤ) → (pos lo ⩽ z) × (z ⩽ pos hi) → length (show_number z) ≤ suc k
    go (pos n) g = short k n (omega (arith, leb→le n hi g.1.le))
    go (negsuc n) g = absurd g.0.le
