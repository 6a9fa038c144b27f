-- A line of a sheet: which bytes are one, and what it asks (01, A sheet line).
use Rattle.std.specs.Prelude.{Bool, cond, List, [], ◌∷◌, ℕ, ℤ, pos, get_or, Option, Some, None}
use Rattle.word.specs.Compare.{between}
use Rattle.scan.specs.Decimal.{read_number}
use Rattle.scan.specs.Fields.{fields, same_bytes}
use Rattle.scan.specs.Numbers.{numbers}
use Rattle.point.specs.declared.Point.{Point}
use Rattle.text.specs.declared.Line.{Line}
use Rattle.text.specs.declared.Line.TheVariants.{Exp, Log, Malformed}

-- ---- the words of the format
abbrev pub EXP : List ℕ
EXP = 69 ∷ 88 ∷ 80 ∷ []

abbrev pub LOG : List ℕ
LOG = 76 ∷ 79 ∷ 71 ∷ []

abbrev pub REF : List ℕ
REF = 82 ∷ 69 ∷ 70 ∷ []

-- ---- the fields from the third on, by the kind
-- the line that numbers make, if they are there
abbrev pub formed : Option (List ℤ) → (List ℤ → Line) → Line
formed None k = Malformed
formed (Some zs) k = k zs

abbrev pub nth : List ℤ → ℕ → ℤ
nth zs i = get_or zs i (pos 0)

abbrev pub point_at : List ℤ → ℕ → ℕ → Point
point_at zs i j = record { x = nth zs i; y = nth zs j }

-- N, the exponent and the start
abbrev pub exp_of : ℤ → List ℤ → Line
exp_of serial zs = Exp serial (nth zs 0) (point_at zs 1 2) (point_at zs 3 4)

-- N and the point
abbrev pub log_of : ℤ → List ℤ → Line
log_of serial zs = Log serial (nth zs 0) (point_at zs 1 2)

unfoldable pub kind_line : ℤ → List (List ℕ) → Line
kind_line serial [] = Malformed
kind_line serial (f ∷ fs) =
    cond (same_bytes f EXP) (formed (numbers 5 fs) (exp_of serial))
    (cond (same_bytes f LOG) (formed (numbers 3 fs) (log_of serial))
    Malformed)

-- ---- the serial, 01's kernel number, 1 to 9999999, and the rest of the line
abbrev pub is_serial : ℤ → Bool
is_serial z = between (pos 1) (pos 9999999) z

abbrev pub serial_line : Option ℤ → List (List ℕ) → Line
serial_line None fs = Malformed
serial_line (Some serial) fs = cond (is_serial serial) (kind_line serial fs) Malformed

unfoldable pub line_of : List (List ℕ) → Line
line_of [] = Malformed
line_of (f ∷ fs) = serial_line (read_number f) fs

-- "The line comes to the call without its newline"
unfoldable pub read_line : List ℕ → Line
read_line l = line_of (fields l)

-- ---- the serial of a line that has the form
abbrev pub serial_of : Line → Option ℤ
serial_of Malformed = None
serial_of (Exp serial n exponent start) = Some serial
serial_of (Log serial n point) = Some serial

-- the most bytes that a line of the form has
abbrev pub longest_line : ℕ
longest_line = 116
