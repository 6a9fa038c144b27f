-- Lists of numbers as tables: how a number is written in them, and how a digit's part reads them.
use Rattle.std.specs.Prelude.{List, ℕ, zero, suc, ℤ, pos, negsuc, neg_ℤ, get_or}
use Rattle.algebra.specs.Gauss.{𝔾, gi}

abbrev pub neg : ℕ → ℤ
neg n = neg_ℤ (pos n)

-- what stands outside
abbrev pub nought : 𝔾
nought = gi (pos 0) (pos 0)

-- −1, 0 and 1 read the first three of a list; any other number finds what stands outside
abbrev pub by_digit : {A : Type 0} → List A → A → ℤ → A
by_digit l o (negsuc zero) = get_or l 0 o
by_digit l o (negsuc (suc n)) = o
by_digit l o (pos zero) = get_or l 1 o
by_digit l o (pos (suc zero)) = get_or l 2 o
by_digit l o (pos (suc (suc n))) = o
