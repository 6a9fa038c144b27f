-- Bytes parted by a mark: the fields of a line, the lines of a sheet; and bytes compared with a word.
use Rattle.std.specs.Prelude.{ℕ, Bool, true, false, cond, List, [], ◌∷◌, ◌++◌, length, drop, ◌==◌, nat_lt}

-- the parts that a mark parts, the first one behind what was already read of it
unfoldable pub split : ℕ → List ℕ → List ℕ → List (List ℕ)
split m part [] = part ∷ []
split m part (c ∷ cs) = cond (c == m) (part ∷ split m [] cs) (split m (part ++ c ∷ []) cs)

-- the fields of a line, parted by one tab
abbrev pub fields : List ℕ → List (List ℕ)
fields l = split 9 [] l

-- the fields from a place on: none from behind the end
abbrev pub fields_at : List ℕ → ℕ → List (List ℕ)
fields_at l at = cond (nat_lt (length l) at) [] (fields (drop at l))

unfoldable pub same_bytes : List ℕ → List ℕ → Bool
same_bytes [] [] = true
same_bytes [] (y ∷ ys) = false
same_bytes (x ∷ xs) [] = false
same_bytes (x ∷ xs) (y ∷ ys) = cond (x == y) (same_bytes xs ys) false
