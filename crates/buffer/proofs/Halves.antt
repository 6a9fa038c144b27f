-- Digits by halves: the last 2^k digits of a number stand behind the digits of what is above them.
use mathlib.Core.Path.{◌≡◌, refl, sym, ap, subst, ◌∙◌}
use mathlib.Core.List.{List, [], ◌∷◌, ◌++◌, append_assoc}
use Prim.Native.Nat.{ℕ, zero, suc, ◌+◌, ◌*◌, ◌/◌, ◌%◌, ◌^◌, ◌≤◌, ◌<◌}
use native.Mathlib.Omega.{arith}
use native.Mathlib.Nat.{pow-suc, mul_assoc, mul-pos, le_trans, le-mul_of_pos_right, mod-lt, mod-eq_of_lt, div-add-mod, mul-add-div, mul-add-mod_self_left, div-div-eq-div-mul, div-lt_iff_lt-mul, le-div_iff_mul-le}
use lib.Pow.{pow-add}
use lib.Dec.{lit<}
use Rattle.buffer.specs.Decimal.{show_natural}
use Rattle.buffer.proofs.Written.{digits_one, digits_more}

-- v, which has at most 2^k digits, in so many, zeros in front: one half behind the other
unfoldable pub halves : ℕ → ℕ → List ℕ
halves zero v = (48 + v) ∷ []
halves (suc k) v = halves k (v / 10 ^ (2 ^ k)) ++ halves k (v % 10 ^ (2 ^ k))

pub by_halves : (k v : ℕ) → halves (suc k) v ≡ halves k (v / 10 ^ (2 ^ k)) ++ halves k (v % 10 ^ (2 ^ k))
unfolding halves
by_halves k v = refl

-- ---- a number above b · b, in steps of b
module _ (b : ℕ) (p : 0 < b) (v : ℕ) where
  above : v ≡ b * (b * (v / (b * b))) + v % (b * b)
  above = sym (div-add-mod v (b * b)) ∙ ap (λ (n : ℕ). n + v % (b * b)) (mul_assoc b b (v / (b * b)))

  middle : v / b % b ≡ v % (b * b) / b
  middle =
      let r = v % (b * b) in
      let less : r / b < b = (div-lt_iff_lt-mul p).1 (mod-lt v (mul-pos p p)) in
      ap (λ (n : ℕ). n / b % b) above
      ∙ (ap (λ (n : ℕ). n % b) (mul-add-div p (b * (v / (b * b))) r) ∙ (mul-add-mod_self_left b (v / (b * b)) (r / b) ∙ mod-eq_of_lt less))

  lowest : v % b ≡ v % (b * b) % b
  lowest = ap (λ (n : ℕ). n % b) above ∙ mul-add-mod_self_left b (b * (v / (b * b))) (v % (b * b))

module _ (b : ℕ) (p : 0 < b) (last : ℕ → List ℕ) (law : (v : ℕ) → b ≤ v → show_natural v ≡ show_natural (v / b) ++ last (v % b)) where
  twice : (v : ℕ) → b * b ≤ v → show_natural v ≡ show_natural (v / (b * b)) ++ (last (v % (b * b) / b) ++ last (v % (b * b) % b))
  twice v h =
      let more : b ≤ v / b = (le-div_iff_mul-le p).1 h in
      law v (le_trans (le-mul_of_pos_right b p) h)
      ∙ rw (law (v / b) more, div-div-eq-div-mul, middle b p v, lowest b p v)
      (append_assoc (show_natural (v / (b * b))) (last (v % (b * b) / b)) (last (v % (b * b) % b)))

ten_pos : (n : ℕ) → 0 < 10 ^ n
ten_pos zero = lit< tt
ten_pos (suc n) = rw pow-suc (mul-pos (ten_pos n) (lit< tt))

-- the square of a base is the next base
base_square : (k : ℕ) → 10 ^ (2 ^ k) * 10 ^ (2 ^ k) ≡ 10 ^ (2 ^ suc k)
base_square k =
    let e : 2 ^ k * 2 ≡ 2 ^ k + 2 ^ k = omega arith in
    sym (ap (λ (n : ℕ). 10 ^ n) (pow-suc 2 k ∙ e) ∙ pow-add 10 (2 ^ k) (2 ^ k))

-- THE LAW
pub show_halves : (k v : ℕ) → 10 ^ (2 ^ k) ≤ v → show_natural v ≡ show_natural (v / 10 ^ (2 ^ k)) ++ halves k (v % 10 ^ (2 ^ k))
unfolding halves
show_halves zero v h = digits_more v h
show_halves (suc k) v h =
    subst (λ (n : ℕ). n ≤ v → show_natural v ≡ show_natural (v / n) ++ (halves k (v % n / 10 ^ (2 ^ k)) ++ halves k (v % n % 10 ^ (2 ^ k))))
    (base_square k) (twice (10 ^ (2 ^ k)) (ten_pos (2 ^ k)) (halves k) (show_halves k) v) h

pub show_digit : (v : ℕ) → v < 10 → show_natural v ≡ halves 0 v
unfolding halves
show_digit v h = digits_one v h

pub show_two : (v : ℕ) → 10 ≤ v → v < 100 → show_natural v ≡ halves 1 v
show_two v h k = show_halves 0 v h ∙ rw (show_digit (v / 10) (omega arith)) (sym (by_halves 0 v))
