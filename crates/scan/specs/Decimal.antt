-- A number in decimal digits: which bytes are one (01, A sheet line).
use Rattle.std.specs.Prelude.{ℕ, ◌+◌, ◌-◌, ◌*◌, ◌^◌, cond, List, [], ◌∷◌, length, pos, negsuc, ◌==◌, nat_le, nat_lt, Option, Some, None, ℤ}

-- the number that digits make behind acc, if each byte is one
unfoldable pub value : ℕ → List ℕ → Option ℕ
value acc [] = Some acc
value acc (d ∷ ds) = cond (nat_lt d 48) None (cond (nat_lt 57 d) None (value (acc * 10 + (d - 48)) ds))

abbrev pub up_to : ℕ → Option ℕ → Option ℕ
up_to m None = None
up_to m (Some v) = cond (nat_le v m) (Some v) None

-- digits, one at least, no leading zero but for 0 itself; no size is over 2^63
unfoldable pub read_natural : List ℕ → Option ℕ
read_natural [] = None
read_natural (d ∷ ds) = cond (d == 48) (cond (nat_lt 0 (length ds)) None (Some 0)) (up_to (2 ^ 63) (value 0 (d ∷ ds)))

-- at most 2^63 − 1
abbrev pub plus : Option ℕ → Option ℤ
plus None = None
plus (Some v) = cond (nat_le v (2 ^ 63 - 1)) (Some (pos v)) None

-- no −0
abbrev pub minus : Option ℕ → Option ℤ
minus None = None
minus (Some v) = cond (v == 0) None (Some (negsuc (v - 1)))

-- an optional minus and digits
unfoldable pub read_number : List ℕ → Option ℤ
read_number [] = None
read_number (c ∷ cs) = cond (c == 45) (minus (read_natural cs)) (plus (read_natural (c ∷ cs)))
