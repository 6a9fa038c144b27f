-- A range, all ends included.
use Rattle.std.specs.Prelude.{Bool, ◌&&◌, ℤ}
use Rattle.std.specs.Int.Signed.{le_z}

unfoldable pub between : ℤ → ℤ → ℤ → Bool
between lo hi x = le_z lo x && le_z x hi
