-- The reader's ways through a part of a line: a byte more of a number, and the number as a whole.
use Rattle.std.proofs.Common.{◌≡◌, ℕ, suc, ◌+◌, ◌-◌, ◌*◌, ◌^◌, ◌<◌, ◌≤◌, cond, ltb, List, ◌∷◌, length, get_or, ◌∙◌, lt_of_lt_of_le, pow-suc, add-one, arith, lit<, ltb-false, le-ltb, lt-ltb, eq-eqb, ne_eqb, Option, Some, None}
use native.Mathlib.Nat.{pow-le-pow_right}
use lib.Seq.{slice, slice-cons, slice_empty, length-slice}
use Rattle.algebra.proofs.Test.{either}
use Rattle.scan.specs.Decimal.{value, up_to, read_natural, read_number, plus, minus}

-- ---- digit by digit
-- a byte more
abbrev pub one_more : List ℕ → ℕ → ℕ → ℕ → Option ℕ
one_more s i to acc = cond (ltb (get_or s i 0) 48) None
    (cond (ltb 57 (get_or s i 0)) None (value (acc * 10 + (get_or s i 0 - 48)) (slice (suc i) to s)))

pub value_more : (s : List ℕ) (i to acc : ℕ) → i < to → to ≤ length s → value acc (slice i to s) ≡ one_more s i to acc
unfolding value
value_more s i to acc h k = rw (slice-cons i to s 0 h k)

pub value_end : (s : List ℕ) (i to acc : ℕ) → i ≡ to → value acc (slice i to s) ≡ Some acc
unfolding value
value_end s i to acc e = rw (e, slice_empty to s)

-- a byte that is a digit, and one that is none
module _ (s : List ℕ) (i to acc : ℕ) (h : i < to) (k : to ≤ length s) where
  pub value_digit : (d : ℕ) → d ≤ 9 → get_or s i 0 ≡ d + 48 → value acc (slice i to s) ≡ value (acc * 10 + d) (slice (i + 1) to s)
  value_digit d l e =
      let lo : 48 ≤ get_or s i 0 = omega arith in
      let hi : get_or s i 0 ≤ 57 = omega arith in
      let n : get_or s i 0 - 48 ≡ d = omega arith in
      value_more s i to acc h k ∙ rw (add-one, le-ltb _ _ lo, le-ltb _ _ hi, n)

  pub value_other : (48 ≤ get_or s i 0 → get_or s i 0 ≤ 57 → ⊥) → value acc (slice i to s) ≡ None
  value_other n =
      value_more s i to acc h k
      ∙ either (ltb (get_or s i 0) 48) (λ e. rw e)
      (λ e. rw e (either (ltb 57 (get_or s i 0)) (λ f. rw f) (λ f. absurd (n (ltb-false _ _ e) (ltb-false _ _ f)))))

-- ---- so many digits are worth less than the power of ten
pub digit_more : (k n d : ℕ) → n < 10 ^ k → d ≤ 9 → n * 10 + d < 10 ^ suc k
digit_more k n d h l = rw pow-suc (omega arith)

pub digits_most : (k n : ℕ) → n < 10 ^ k → k ≤ 18 → n < 10 ^ 18
digits_most k n h l = lt_of_lt_of_le h (pow-le-pow_right (lit< tt) l)

-- ---- no digit, a zero in front, and the digits otherwise
module _ (s : List ℕ) (from to : ℕ) where
  pub read_none : from ≡ to → read_natural (slice from to s) ≡ None
  unfolding read_natural
  read_none e = rw (e, slice_empty to s)

  pub number_none : from ≡ to → read_number (slice from to s) ≡ None
  unfolding read_number
  number_none e = rw (e, slice_empty to s)

  module _ (h : from < to) (k : to ≤ length s) where
    start : slice from to s ≡ get_or s from 0 ∷ slice (suc from) to s
    start = slice-cons from to s 0 h k

    left : length (slice (suc from) to s) ≡ to - suc from
    left = length-slice (suc from) to s k

    pub read_lead : get_or s from 0 ≡ 48 → from + 1 < to → read_natural (slice from to s) ≡ None
    unfolding read_natural
    read_lead e g =
        let p : 0 < length (slice (suc from) to s) = omega (arith, left) in
        rw (start, eq-eqb _ _ e, lt-ltb _ _ p)

    pub read_zero : get_or s from 0 ≡ 48 → to ≤ from + 1 → read_natural (slice from to s) ≡ Some 0
    unfolding read_natural
    read_zero e g =
        let p : length (slice (suc from) to s) ≤ 0 = omega (arith, left) in
        rw (start, eq-eqb _ _ e, le-ltb _ _ p)

    pub read_digits : (get_or s from 0 ≡ 48 → ⊥) → read_natural (slice from to s) ≡ up_to (2 ^ 63) (value 0 (slice from to s))
    unfolding read_natural
    read_digits n = rw (start, ne_eqb _ _ n)

    pub number_minus : get_or s from 0 ≡ 45 → read_number (slice from to s) ≡ minus (read_natural (slice (from + 1) to s))
    unfolding read_number
    number_minus e = rw (add-one, start, eq-eqb _ _ e)

    pub number_plus : (get_or s from 0 ≡ 45 → ⊥) → read_number (slice from to s) ≡ plus (read_natural (slice from to s))
    unfolding read_number
    number_plus n = rw (start, ne_eqb _ _ n)
