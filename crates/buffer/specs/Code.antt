-- Only private contracts cite this: what a run of bytes leaves in a buffer with room for it.
use Rattle.std.specs.Prelude.{◌≡◌, List, ◌++◌, ℕ, ◌+◌, length, drop}
use Rattle.std.proofs.lemmas.List.Edits.{sets}

-- xs written into b from `at` on makes it b', and end is the place behind them
pub record Put (b : List ℕ) (at : ℕ) (xs b' : List ℕ) (end : ℕ) : Type 0 where
  pub bytes : b' ≡ sets b at xs
  pub after : end ≡ at + length xs

-- from the front: the bytes, and then what stood behind them
pub record Front (xs b b' : List ℕ) (end : ℕ) : Type 0 where
  pub bytes : b' ≡ xs ++ drop (length xs) b
  pub count : end ≡ length xs
