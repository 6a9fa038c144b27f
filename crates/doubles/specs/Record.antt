-- What the two calls give, for every input. One is 2^F units, and 01 has F = 48.
use Rattle.std.specs.Prelude.{◌≡◌, Option, Some, None, Result, ℕ, false, cond, ◌&&◌, ℤ, pos, Ok, Err}
use Rattle.std.specs.Float.{fin}
use Rattle.point.specs.declared.Point.{Point}
use Rattle.answer.specs.Answer.{Answer}
use Rattle.answer.specs.declared.Refusal.{Refusal}
use Rattle.answer.specs.Refusal.{refusal_number}
use Rattle.doubles.specs.declared.Doubles.{Doubles}
use Rattle.doubles.specs.declared.DoublesAnswer.{DoublesAnswer}
use Rattle.doubles.specs.declared.UnitsAnswer.{UnitsAnswer}
use Rattle.doubles.specs.Units.{HasUnits, double_of, is_units, units_of}

-- ---- writing
-- "a record of two doubles, each part divided by 2^48"
abbrev pub doubles : ℕ → ℤ → ℤ → Doubles
doubles F x y = record { x = double_of F x; y = double_of F y }

-- "two zeros": plus zero twice
abbrev pub zeros : Doubles
zeros = record { x = fin false 0 (pos 0); y = fin false 0 (pos 0) }

-- an answer with its two parts as doubles
abbrev pub in_doubles : ℕ → Answer → Result Doubles Refusal
in_doubles F (Ok f) = Ok (doubles F f.value.x f.value.y)
in_doubles F (Err r) = Err r

-- what C is handed of it: "A LOG answer is given as a record of two doubles"; "A refused LOG gives its number and two zeros"
abbrev pub doubles_record : Result Doubles Refusal → DoublesAnswer
doubles_record (Ok d) = record { refusal = pos 0; parts = d }
doubles_record (Err r) = record { refusal = refusal_number r; parts = zeros }

unfoldable pub doubles_answer : ℕ → Answer → DoublesAnswer
doubles_answer F a = doubles_record (in_doubles F a)

-- ---- reading: two doubles in units, where both are a number of them
unfoldable pub units_in : ℕ → Doubles → Option Point
units_in F d = cond (is_units F d.x && is_units F d.y) (Some (record { x = units_of F d.x; y = units_of F d.y })) None

-- what C is handed of it: "Refused: 9, a double of any other kind, with zeros; reading has no other refusal"
abbrev pub accepted : ℤ → ℤ → UnitsAnswer
accepted x y = record { refusal = pos 0; x = x; y = y }

abbrev pub units_record : Option Point → UnitsAnswer
units_record (Some p) = accepted p.x p.y
units_record None = record { refusal = pos 9; x = pos 0; y = pos 0 }

unfoldable pub units_answer : ℕ → Doubles → UnitsAnswer
units_answer F d = units_record (units_in F d)

-- ---- nothing is lost
-- each double has the value of its part, and "such a record is read back to the same two whole numbers"
pub record Kept (F : ℕ) (p : Point) (d : Doubles) : Type 0 where
  pub x : HasUnits F d.x p.x
  pub y : HasUnits F d.y p.y
  pub back : units_answer F d ≡ accepted p.x p.y

-- of an answer, where there is one
abbrev pub AnswerKept : ℕ → Answer → DoublesAnswer → Type 0
AnswerKept F (Ok f) r = Kept F f.value r.parts
AnswerKept F (Err e) r = Unit {0}

-- and the other way: what is read is written as the same two doubles, bit for bit
abbrev pub WrittenBack : ℕ → Doubles → UnitsAnswer → Type 0
WrittenBack F d r = r.refusal ≡ pos 0 → doubles F r.x r.y ≡ d
