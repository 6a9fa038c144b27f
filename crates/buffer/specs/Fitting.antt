-- What a write leaves that must fit whole: all of its bytes, or none.
use Rattle.std.specs.Prelude.{cond, List, [], ℕ, ◌+◌, leb, length}

-- xs, where b has room for all of them from `at` on
unfoldable pub fitting : List ℕ → ℕ → List ℕ → List ℕ
fitting b at xs = cond (leb (at + length xs) (length b)) xs []
