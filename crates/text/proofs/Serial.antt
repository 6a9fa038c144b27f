-- A line that is read has a serial in its range, and it is the number in front of the first tab.
use Rattle.std.specs.Prelude.{Option, Some, None}
use mathlib.Core.Path.{◌≡◌, refl, sym, ◌∙◌}
use mathlib.Core.Bool.{true}
use mathlib.Core.List.{List, [], ◌∷◌}
use Prim.Native.Nat.{ℕ, suc, ◌+◌, ◌<◌}
use native.Mathlib.Omega.{arith}
use lib.Dec.{ltb}
use lib.IntN.{ℤ}
use lib.ListN.{length}
use lib.Seq.{slice}
use borrow.Author.Tests.{ltb-true, ltb-false}
use Rattle.algebra.proofs.Test.{either}
use Rattle.scan.specs.Decimal.{read_number}
use Rattle.scan.specs.Fields.{fields, fields_at, same_bytes}
use Rattle.scan.proofs.Find.{Ended}
use Rattle.scan.proofs.Read.{no_value}
use Rattle.scan.proofs.Fields.{no_field, field_parts}
use Rattle.scan.specs.Numbers.{numbers}
use Rattle.text.specs.declared.Line.{Line}
use Rattle.text.specs.Line.{is_serial, EXP, LOG, formed, exp_of, log_of, kind_line, serial_line, line_of, read_line, serial_of}

abbrev pub IsSerial : ℤ → Type 0
IsSerial z = is_serial z ≡ true

abbrev pub Ranged : Option ℤ → Type 0
Ranged None = Unit {0}
Ranged (Some serial) = IsSerial serial

kind_serial : (serial : ℤ) (fs : List (List ℕ)) → IsSerial serial → Ranged (serial_of (kind_line serial fs))
unfolding kind_line
kind_serial serial [] h = tt
kind_serial serial (f ∷ fs) h =
    either (same_bytes f EXP) (λ e. rw e (exp (numbers 5 fs)))
    (λ e. rw e (either (same_bytes f LOG) (λ g. rw g (log (numbers 3 fs))) (λ g. rw g tt)))
  where
    exp : (r : Option (List ℤ)) → Ranged (serial_of (formed r (exp_of serial)))
    exp (Some zs) = h
    exp None = tt

    log : (r : Option (List ℤ)) → Ranged (serial_of (formed r (log_of serial)))
    log (Some zs) = h
    log None = tt

pub line_serial : (l : List ℕ) → Ranged (serial_of (read_line l))
unfolding read_line line_of
line_serial l = go (fields l)
  where
    number : (r : Option ℤ) (fs : List (List ℕ)) → Ranged (serial_of (serial_line r fs))
    number None fs = tt
    number (Some z) fs = either (is_serial z) (λ e. rw e (kind_serial z fs e)) (λ e. rw e tt)

    go : (fs : List (List ℕ)) → Ranged (serial_of (line_of fs))
    go [] = tt
    go (f ∷ fs) = number (read_number f) fs

-- ---- the serial is the first field, and others follow it
-- what serial_of reads is z
record Read (z : ℤ) (r : Option ℤ) (fs : List (List ℕ)) : Type 0 where
  number : r ≡ Some z
  others : 0 < length fs

kind_read : (serial z : ℤ) (fs : List (List ℕ)) → serial_of (kind_line serial fs) ≡ Some z → Read z (Some serial) fs
unfolding kind_line
kind_read serial z [] e = no_value e
kind_read serial z (f ∷ fs) e =
    either (same_bytes f EXP) (λ g. kind (numbers 5 fs) (exp_of serial) (λ zs. refl) (rw g at e))
    (λ g. either (same_bytes f LOG) (λ h. kind (numbers 3 fs) (log_of serial) (λ zs. refl) (rw (g, h) at e))
    (λ h. no_value (rw (g, h) at e)))
  where
    more : 0 < suc (length fs)
    more = omega arith

    kind : (r : Option (List ℤ)) (k : List ℤ → Line) → ((zs : List ℤ) → serial_of (k zs) ≡ Some serial) → serial_of (formed r k) ≡ Some z →
        Read z (Some serial) (f ∷ fs)
    kind (Some zs) k is e = record { number = sym (is zs) ∙ e; others = more }
    kind None k is e = no_value e

line_read : (z : ℤ) (r : Option ℤ) (fs : List (List ℕ)) → serial_of (serial_line r fs) ≡ Some z → Read z r fs
line_read z None fs e = no_value e
line_read z (Some y) fs e =
    either (is_serial y) (λ h. kind_read y z fs (rw h at e)) (λ h. no_value (rw h at e))

-- e is the place of the first tab
pub first_number : (l : List ℕ) (z : ℤ) {e : ℕ} → Ended 9 l 0 e → serial_of (read_line l) ≡ Some z → (read_number (slice 0 e l) ≡ Some z) × (e < length l)
unfolding read_line line_of
first_number l z {e} f h =
    let r = line_read z (read_number (slice 0 e l)) (fields_at l (e + 1)) (rw (field_parts f) at h) in (
      r.number,
      either (ltb (length l) (e + 1)) (λ t. absurd (none (rw (no_field l (e + 1) (ltb-true (length l) (e + 1) t)) at r.others)))
          (λ t. omega (arith, ltb-false (length l) (e + 1) t)),
    )
  where
    none : 0 < 0 → ⊥
    none h = omega arith
