-- Two balances and their opening (02, E10).
use Rattle.std.specs.Prelude.{Bool, cond, ◌&&◌, ℤ, pos, ◌-ℤ◌, Option, Some, None}
use Rattle.word.specs.Compare.{between}
use Rattle.book.specs.declared.Book.{Book}
use Rattle.book.specs.declared.Opening.{Opening}
use Rattle.book.specs.declared.Institute.{Institute}
use Rattle.book.specs.declared.Institute.TheVariants.{First, Second}

-- ---- the balances
abbrev pub balances : ℤ → ℤ → Book
balances first second = record { first = first; second = second }

-- what an institute has left
abbrev pub balance : Institute → Book → ℤ
balance First b = b.first
balance Second b = b.second

-- the book after one of the two has paid
abbrev pub charged : Institute → ℤ → Book → Book
charged First cost b = balances (b.first -ℤ cost) b.second
charged Second cost b = balances b.first (b.second -ℤ cost)

-- ---- the opening
-- "Refused: 10"
abbrev pub denial_number : ℤ
denial_number = pos 10

-- "an allowance of 0 to 1,000,000 steps"
abbrev pub is_allowance : ℤ → Bool
is_allowance a = between (pos 0) (pos 1000000) a

-- a book with two allowances, where both are in range
unfoldable pub opened_book : ℤ → ℤ → Option Book
opened_book first second = cond (is_allowance first && is_allowance second) (Some (balances first second)) None

-- what C is handed of it: "10, for an allowance out of range at opening"; "a book refused at opening has two zero balances"
abbrev pub opening_record : Option Book → Opening
opening_record (Some b) = record { refusal = pos 0; book = b }
opening_record None = record { refusal = denial_number; book = balances (pos 0) (pos 0) }

unfoldable pub opened : ℤ → ℤ → Opening
opened first second = opening_record (opened_book first second)
