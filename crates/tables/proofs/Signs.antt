-- An entry of a row is picked by the sign of dy. No branch is made on it, which a digit would mispredict.
use mathlib.Core.Path.{◌≡◌, refl}
use mathlib.Core.List.{List}
use lib.IntN.{ℤ}
use lib.ListN.{get_or}
use Rattle.point.specs.Digit.{Trit, t-, t0, t+}
use Rattle.table_numbers.specs.declared.Entry.{Entry}
use Rattle.table_numbers.specs.Listed.{by_digit}
use Rattle.tables.specs.Code.{by_sign}

pub by_sign_lem : (l : List Entry) (o : Entry) {d : ℤ} → Trit d →
    record {
      re = by_sign d (get_or l 0 o).re (get_or l 1 o).re (get_or l 2 o).re;
      im = by_sign d (get_or l 0 o).im (get_or l 1 o).im
          (get_or l 2 o).im;
    } ≡ by_digit l o d
by_sign_lem l o t- = refl
by_sign_lem l o t0 = refl
by_sign_lem l o t+ = refl
