-- One double read, which the contract of a private function cites.
use Rattle.std.specs.Prelude.{ℕ, cond, ℤ, Float, Option, Some, None}
use Rattle.doubles.specs.Units.{is_units, units_of}

unfoldable pub part_in : ℕ → Float → Option ℤ
part_in F x = cond (is_units F x) (Some (units_of F x)) None
