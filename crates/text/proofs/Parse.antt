-- The reader's way through a line, field by field: the serial, the kind, and the numbers into an array.
use mathlib.Core.Path.{◌≡◌}
use mathlib.Core.Bool.{cond}
use mathlib.Core.List.{List}
use Prim.Native.Nat.{ℕ, ◌+◌, ◌≤◌, ◌<◌}
use lib.IntN.{ℤ}
use lib.ListN.{length}
use lib.Seq.{slice}
use Rattle.scan.specs.Decimal.{read_number}
use Rattle.scan.specs.Fields.{same_bytes, fields_at}
use Rattle.scan.specs.Numbers.{numbers}
use Rattle.scan.proofs.Find.{Ended}
use Rattle.scan.proofs.Fields.{field_parts, no_field, first_field}
use Rattle.text.specs.declared.Line.{Line}
use Rattle.text.specs.declared.Line.TheVariants.{Malformed}
use Rattle.text.specs.Line.{EXP, LOG, formed, exp_of, log_of, kind_line, serial_line, line_of, read_line}

-- ---- the first two fields
pub serial_field : {l : List ℕ} {e : ℕ} → Ended 9 l 0 e → read_line l ≡ serial_line (read_number (slice 0 e l)) (fields_at l (e + 1))
unfolding read_line line_of
serial_field f = rw (field_parts f)

pub kind_missing : (serial : ℤ) (l : List ℕ) (at : ℕ) → length l < at → kind_line serial (fields_at l at) ≡ Malformed
unfolding kind_line
kind_missing serial l at h = rw (no_field l at h)

-- what the kind says of the fields behind it
abbrev pub by_kind : ℤ → List ℕ → List (List ℕ) → Line
by_kind serial f fs = cond (same_bytes f EXP) (formed (numbers 5 fs) (exp_of serial))
    (cond (same_bytes f LOG) (formed (numbers 3 fs) (log_of serial)) Malformed)

pub kind_field : (serial : ℤ) {l : List ℕ} {at e : ℕ} → at ≤ length l → Ended 9 l at e →
    kind_line serial (fields_at l at) ≡ by_kind serial (slice at e l) (fields_at l (e + 1))
unfolding kind_line
kind_field serial h f = rw (first_field h f)
