-- Small sheets merged, computed from the definitions.
use mathlib.Core.Path.{◌≡◌, refl}
use mathlib.Core.List.{List, [], ◌∷◌, ◌++◌}
use Prim.Native.Nat.{ℕ, ◌+◌}
use Rattle.word.specs.Compare.{between}
use Rattle.scan.specs.Decimal.{value, read_natural, read_number}
use Rattle.scan.specs.Fields.{split, same_bytes}
use Rattle.scan.specs.Numbers.{numbers}
use Rattle.text.specs.Line.{kind_line, line_of, read_line}
use Rattle.stream.specs.Machine.{last_line, lines_from}
use Rattle.merge.specs.Merge.{Merge, front_line, choice, follow, merge_from, merge}
use Rattle.merge.specs.Call.{text}

-- n|LOG|3|x|0, each of n and x a digit; other lines with the same serial have another x
abbrev log : ℕ → ℕ → List ℕ
log n x = (48 + n) ∷ 9 ∷ 76 ∷ 79 ∷ 71 ∷ 9 ∷ 51 ∷ 9 ∷ (48 + x) ∷ 9 ∷ 48 ∷ []

pub record Case : Type 0 where
  pub first : List (List ℕ)
  pub second : List (List ℕ)
  pub gives : Merge

abbrev case : List (List ℕ) → List (List ℕ) → ℕ → List (List ℕ) → Case
case xs ys r ls = record { first = xs; second = ys; gives = record { refusal = r; copied = ls } }

-- with the lines copied until the merge stops
abbrev pub cases : List Case
cases =
    -- of equal lines one is copied
    case (log 1 0 ∷ log 4 0 ∷ []) (log 2 0 ∷ log 4 0 ∷ []) 0 (log 1 0 ∷ log 2 0 ∷ log 4 0 ∷ [])
    -- one serial with two lines
    ∷ case (log 1 0 ∷ log 4 0 ∷ []) (log 2 0 ∷ log 4 1 ∷ []) 8 (log 1 0 ∷ log 2 0 ∷ [])
    -- a line passed by counts: 7 comes before 8
    ∷ case (log 2 0 ∷ log 2 1 ∷ []) (log 2 0 ∷ []) 7 []
    -- the pair met first decides: 2 falls beside 4; an empty line stands beside 3
    ∷ case (log 3 0 ∷ log 2 0 ∷ []) (log 4 0 ∷ [] ∷ []) 7 (log 3 0 ∷ [])
    ∷ case (log 3 0 ∷ log 2 0 ∷ []) (log 1 0 ∷ [] ∷ []) 5 (log 1 0 ∷ [])
    -- what one sheet has left is checked
    ∷ case (log 1 0 ∷ []) (log 2 0 ∷ log 3 0 ∷ [] ∷ []) 5 (log 1 0 ∷ log 2 0 ∷ log 3 0 ∷ [])
    ∷ case (log 1 0 ∷ log 2 0 ∷ log 2 0 ∷ []) [] 7 (log 1 0 ∷ log 2 0 ∷ [])
    ∷ []

abbrev pub Hold : List Case → Type 0
Hold [] = Unit {0}
Hold (c ∷ cs) = (merge (text c.first) (text c.second) ≡ c.gives) × Hold cs

pub small_merges : Hold cases
unfolding merge merge_from follow choice front_line lines_from last_line split read_line line_of kind_line numbers read_number read_natural value same_bytes between text
small_merges = (refl, (refl, (refl, (refl, (refl, (refl, (refl, tt)))))))

-- a last line without its newline is a line
pub last_bare : merge (log 1 0 ++ 10 ∷ log 2 0) [] ≡ record { refusal = 0; copied = log 1 0 ∷ log 2 0 ∷ [] }
unfolding merge merge_from follow choice front_line lines_from last_line split read_line line_of kind_line numbers read_number read_natural value same_bytes between
last_bare = refl
