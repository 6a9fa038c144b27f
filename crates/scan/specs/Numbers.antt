-- So many numbers from fields (01, A sheet line: "then exponent and start (4 numbers) for EXP, the point (2 numbers) for LOG").
use Rattle.std.specs.Prelude.{ℕ, zero, suc, List, [], ◌∷◌, ℤ, Option, Some, None}
use Rattle.scan.specs.Decimal.{read_number}

-- a number in front
abbrev pub in_front : Option ℤ → Option (List ℤ) → Option (List ℤ)
in_front None zs = None
in_front (Some z) None = None
in_front (Some z) (Some zs) = Some (z ∷ zs)

-- the fields are n numbers and no more
unfoldable pub numbers : ℕ → List (List ℕ) → Option (List ℤ)
numbers zero [] = Some []
numbers zero (f ∷ fs) = None
numbers (suc n) [] = None
numbers (suc n) (f ∷ fs) = in_front (read_number f) (numbers n fs)

-- a list as it was, or with a number first
abbrev pub put_first : Option ℤ → (old rest : List ℤ) → List ℤ
put_first None old rest = old
put_first (Some z) old rest = z ∷ rest

-- fields read into a list: each number at its place, up to the first field that is none or to the list's end; the rest as it was
unfoldable pub stored : List ℤ → List (List ℕ) → List ℤ
stored [] fs = []
stored (x ∷ xs) [] = x ∷ xs
stored (x ∷ xs) (f ∷ fs) = put_first (read_number f) (x ∷ xs) (stored xs fs)
