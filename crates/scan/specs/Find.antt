-- Where a byte stands first: a mark ends a field, a newline a line.
use Rattle.std.specs.Prelude.{ℕ, suc, ◌+◌, cond, List, [], ◌∷◌, drop, ◌==◌}

-- how many bytes stand before the first m: all of them, where there is none
unfoldable pub before : ℕ → List ℕ → ℕ
before m [] = 0
before m (c ∷ cs) = cond (c == m) 0 (suc (before m cs))

-- the place of the first m from `from` on, or the end; behind the end, `from`
abbrev pub find_byte : ℕ → List ℕ → ℕ → ℕ
find_byte m s from = from + before m (drop from s)
