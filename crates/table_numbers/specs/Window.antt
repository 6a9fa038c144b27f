-- Windows: where the parts of a step table's entry lie, by the digit's part. Up to n = 4 the numbers are those of the true logarithms, rounded
-- outward; from 5 on one row of wider ones holds for every n. So any table of nearest units keeps them. A bound is a multiple of h/2048,
-- h = 2^(F−n) being 1/2^n in units.
use Rattle.std.specs.Prelude.{ℕ, zero, suc, ℤ, pos, negsuc, neg_ℤ, ◌+ℤ◌, ◌-ℤ◌, ◌*ℤ◌}
use Rattle.algebra.specs.Order.{◌⩽◌}

pub record Span : Type 0 where
  pub lo : ℤ
  pub hi : ℤ

-- from −a to b; from a to b; from −b to −a
abbrev pub about : ℕ → ℕ → Span
about a b = record { lo = neg_ℤ (pos a); hi = pos b }

abbrev pub above : ℕ → ℕ → Span
above a b = record { lo = pos a; hi = pos b }

abbrev pub below : ℕ → ℕ → Span
below b a = record { lo = neg_ℤ (pos b); hi = neg_ℤ (pos a) }

-- w lies in the span, in 1/2048 of h, but for k units
pub record Lies (k : ℤ) (s : Span) (h w : ℤ) : Type 0 where
  pub low : s.lo *ℤ h ⩽ pos 2048 *ℤ (w +ℤ k)
  pub high : pos 2048 *ℤ (w -ℤ k) ⩽ s.hi *ℤ h

-- a span for each value of a digit's part
pub record Spans : Type 0 where
  pub minus : Span
  pub nought : Span
  pub plus : Span

abbrev pub pick : Spans → ℤ → Span
pick s (negsuc n) = s.minus
pick s (pos zero) = s.nought
pick s (pos (suc n)) = s.plus

-- the real parts at n, by dx (there is no step 0; from 5 on one row serves all)
abbrev pub real : ℕ → Spans
real zero = record { minus = about 0 0; nought = about 0 0; plus = about 0 0 }
real (suc zero) = record { minus = below 2840 1419; nought = above 0 457; plus = above 1660 1877 }
real (suc (suc zero)) = record { minus = below 2357 1925; nought = above 0 249; plus = above 1827 1989 }
real (suc (suc (suc zero))) = record { minus = below 2188 2022; nought = above 0 128; plus = above 1929 2031 }
real (suc (suc (suc (suc zero)))) = record { minus = below 2115 2042; nought = above 0 64; plus = above 1986 2044 }
real (suc (suc (suc (suc (suc n))))) = record { minus = below 2112 2046; nought = above 0 32; plus = above 2016 2048 }

-- the imaginary parts at n, by dy
abbrev pub turn : ℕ → ℕ → Spans
turn a b = record { minus = below b a; nought = above 0 0; plus = above a b }

abbrev pub imag : ℕ → Spans
imag zero = turn 0 0
imag (suc zero) = turn 1317 3217
imag (suc (suc zero)) = turn 1617 2636
imag (suc (suc (suc zero))) = turn 1813 2325
imag (suc (suc (suc (suc zero)))) = turn 1925 2182
imag (suc (suc (suc (suc (suc n))))) = turn 1984 2176
