-- What a C call hands back and writes (01, Points and units).
use Rattle.std.specs.Prelude.{cond, List, ◌++◌, ℕ, zero, suc, ltb, ℤ, pos, negsuc, length, drop}
use Rattle.algebra.specs.Gauss.{𝔾}
use Rattle.buffer.specs.Words.{encode}
use Rattle.answer.specs.Record.{refusal_in}

-- "Each such call writes 48 bytes", which 02, E7 made 64: eight numbers
abbrev pub record_room : ℕ
record_room = 64

-- "A buffer under 48 bytes is refused with 6 before all else"; "a buffer under 64 is now the one refused with 6" (02, E7); else the record's
-- first number
abbrev pub handed : List ℕ → List ℤ → ℤ
handed out numbers = cond (ltb (length out) record_room) (pos 6) (refusal_in numbers)

-- "nothing written; bytes past the 48 keep their values", and so those past the 64
abbrev pub written : List ℕ → List ℤ → List ℕ
written out numbers = cond (ltb (length out) record_room) out (encode numbers ++ drop record_room out)

-- how many bytes a merge wrote, or minus its refusal number
abbrev pub count_or_refusal : ℕ → List ℕ → ℤ
count_or_refusal zero bytes = pos (length bytes)
count_or_refusal (suc r) bytes = negsuc r

-- the real part of a number for 0, the imaginary one for any other
abbrev pub part_of : ℕ → 𝔾 → ℤ
part_of zero z = z.re
part_of (suc k) z = z.im
