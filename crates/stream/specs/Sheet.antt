-- The machine of 01 (A sheet line) with the rising numbers of 02 (E3), and what the program answers to a whole sheet.
use Rattle.std.specs.Prelude.{cond, List, [], ◌∷◌, ◌++◌, ℕ, ltb, ℤ, pos, length, take, Option, Some, None}
use Rattle.std.specs.Int.Signed.{le_z}
use Rattle.text.specs.declared.Line.{Line}
use Rattle.text.specs.Line.{serial_of, read_line}
use Rattle.text.specs.Answer.{Reply, refused_reply, reply_of, answer_room}
use Rattle.stream.specs.declared.State.{State}
use Rattle.stream.specs.declared.Place.{Place as Stored}
use Rattle.stream.specs.Machine.{lines, Outcome, Machine, Place, answers}

-- ---- THE MACHINE: its state is the largest serial before a line, "zero at the top of a sheet"
abbrev pub initial : State
initial = record { largest = pos 0 }

-- a line that has the form counts, "whether or not that earlier line was refused"; a malformed one does not
abbrev pub largest_with : Option ℤ → ℤ → ℤ
largest_with None largest = largest
largest_with (Some serial) largest = cond (le_z serial largest) largest serial

-- "7, number not above the largest before it, after 5 and ahead of the calculation's own"
abbrev pub if_risen : Option ℤ → ℤ → Reply → Reply
if_risen None largest own = own
if_risen (Some serial) largest own = cond (le_z serial largest) (refused_reply serial (pos 7)) own

unfoldable pub reply_after : ℤ → Line → Reply
reply_after largest l = if_risen (serial_of l) largest (reply_of l)

unfoldable pub answer_line : State → List ℕ → Outcome State
answer_line s l =
    record {
      bytes = (reply_after s.largest (read_line l)).bytes;
      state = record { largest = largest_with (serial_of (read_line l)) s.largest };
    }

abbrev pub machine : Machine State
machine = record { next = answer_line; end = λ s. [] }

-- "its first line is BKM, tab, 48"
abbrev pub heading : List ℕ
heading = 66 ∷ 75 ∷ 77 ∷ 9 ∷ 52 ∷ 56 ∷ 10 ∷ []

-- ---- THE WHOLE SHEET
unfoldable pub sheet : List ℕ → List ℕ
sheet s = heading ++ answers machine initial (lines s)

-- ---- the place that the code's struct stands for
abbrev pub place_of : Stored → Place State
place_of p = record { state = p.state; begun = take p.len p.bytes }

-- what is written into a lent buffer: nothing, where it is shorter than 128 bytes
abbrev pub unless_short : List ℕ → List ℕ → List ℕ
unless_short out xs = cond (ltb (length out) answer_room) [] xs
