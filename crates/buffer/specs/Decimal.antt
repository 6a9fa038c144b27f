-- A number in decimal digits: how it is written (01, A sheet line).
use Rattle.std.specs.Prelude.{cond, List, [], ◌∷◌, ◌++◌, ℕ, zero, suc, ◌+◌, ◌/◌, ◌%◌, ltb, ℤ, pos, negsuc}

-- the digits of v, the highest first; any f above v serves
unfoldable pub digits : ℕ → ℕ → List ℕ
digits zero v = []
digits (suc f) v = cond (ltb v 10) ((48 + v) ∷ []) (digits f (v / 10) ++ (48 + v % 10) ∷ [])

unfoldable pub show_natural : ℕ → List ℕ
show_natural v = digits (suc v) v

-- a minus is byte 45
unfoldable pub show_number : ℤ → List ℕ
show_number (pos n) = show_natural n
show_number (negsuc n) = 45 ∷ show_natural (suc n)
