-- The small sheets of `merge`, and the lines that stop their merges, computed from the definitions.
use mathlib.Core.Path.{◌≡◌, refl}
use mathlib.Core.List.{List, [], ◌∷◌}
use Prim.Native.Nat.{ℕ}
use lib.IntN.{pos}
use Rattle.word.specs.Compare.{between}
use Rattle.scan.specs.Decimal.{value, read_natural, read_number}
use Rattle.scan.specs.Fields.{split, same_bytes}
use Rattle.scan.specs.Numbers.{numbers}
use Rattle.text.specs.Line.{kind_line, line_of, read_line}
use Rattle.stream.specs.Machine.{last_line, lines_from}
use Rattle.merge.specs.Merge.{front_line, choice}
use Rattle.merge.specs.Call.{text}
use Rattle.merge.proofs.Example.{Case, cases}
use Rattle.merge_stop.specs.Stop.{named, stop_from, stop}
use Rattle.merge_stop.specs.declared.Stop.{Stop}

abbrev pub stops : List Case → List Stop
stops [] = []
stops (c ∷ cs) = stop (text c.first) (text c.second) ∷ stops cs

abbrev at : ℕ → ℕ → ℕ → Stop
at r h i = record { refusal = pos r; first = h; second = i }

pub small_stops : stops cases ≡ at 0 0 0 ∷ at 8 2 2 ∷ at 7 2 0 ∷ at 7 2 0 ∷ at 5 0 2 ∷ at 5 0 3 ∷ at 7 3 0 ∷ []
unfolding stop stop_from named choice front_line lines_from last_line split read_line line_of kind_line numbers read_number read_natural value same_bytes between text
small_stops = refl
