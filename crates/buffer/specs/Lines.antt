-- The bytes of a line (01, A sheet line: "Fields parted by one tab (byte 9)", "Each answer line ends with byte 10").
use Rattle.std.specs.Prelude.{List, [], ◌∷◌, ◌++◌, ℕ, ℤ}
use Rattle.buffer.specs.Decimal.{show_number}

-- each number behind a tab
unfoldable pub field_bytes : List ℤ → List ℕ
field_bytes [] = []
field_bytes (z ∷ zs) = 9 ∷ show_number z ++ field_bytes zs

-- a serial, a word, numbers, and byte 10
unfoldable pub line_bytes : ℤ → List ℕ → List ℤ → List ℕ
line_bytes serial word zs = show_number serial ++ (9 ∷ word) ++ field_bytes zs ++ 10 ∷ []
