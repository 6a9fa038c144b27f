-- No line over 116 bytes has the form: 7 for the serial, 3 for the kind, 20 for each of five numbers, and six tabs.
use Rattle.std.specs.Prelude.{Option, Some, None}
use mathlib.Core.Path.{◌≡◌, refl, ap}
use mathlib.Core.List.{List, [], ◌∷◌, ◌++◌}
use Prim.Native.Nat.{ℕ, zero, suc, ◌+◌, ◌*◌, ◌≤◌, ◌<◌}
use native.Mathlib.Omega.{arith}
use lib.Dec.{eqb, lit<}
use lib.IntN.{ℤ}
use lib.ListN.{length, length-append}
use Rattle.algebra.proofs.Test.{either}
use Rattle.buffer.proofs.Written.{short_range}
use Rattle.scan.specs.Decimal.{read_number}
use Rattle.scan.specs.Fields.{split, fields, same_bytes}
use Rattle.scan.specs.Numbers.{in_front, numbers}
use Rattle.scan.proofs.Fields.{same_list}
use Rattle.scan.proofs.Read.{number_is, number_length}
use Rattle.text.specs.declared.Line.{Line}
use Rattle.text.specs.Line.{longest_line, is_serial, EXP, LOG, formed, exp_of, log_of, kind_line, serial_line, line_of, read_line}
use Rattle.text.proofs.Serial.{IsSerial}
use Rattle.text.specs.declared.Line.TheVariants as line

-- the bytes of some fields, a mark behind each
total : List (List ℕ) → ℕ
total [] = 0
total (f ∷ fs) = length f + 1 + total fs

total_split : (m : ℕ) (l p : List ℕ) → total (split m p l) ≡ length p + length l + 1
unfolding split total
total_split m [] p = omega arith
total_split m (c ∷ cs) p =
    either (eqb c m) (λ e. rw e (omega (arith, total_split m cs [])))
    (λ e. rw e (omega (arith, total_split m cs (p ++ c ∷ []), length-append p (c ∷ []))))

-- ---- a line that has the form
abbrev WellFormed : Line → Type 0
WellFormed line.Malformed = ⊥
WellFormed (line.Exp serial n exponent start) = Unit
WellFormed (line.Log serial n point) = Unit

abbrev AreThere : Option (List ℤ) → Type 0
AreThere None = ⊥
AreThere (Some zs) = Unit

numbers_total : (n : ℕ) (fs : List (List ℕ)) → AreThere (numbers n fs) → total fs ≤ 21 * n
unfolding numbers total
numbers_total zero [] g = omega arith
numbers_total zero (f ∷ fs) g = absurd g
numbers_total (suc n) [] g = absurd g
numbers_total (suc n) (f ∷ fs) g = go (read_number f) (numbers n fs) refl g (numbers_total n fs)
  where
    go : (r : Option ℤ) (zs : Option (List ℤ)) → read_number f ≡ r → AreThere (in_front r zs) → (AreThere zs → total fs ≤ 21 * n) →
        length f + 1 + total fs ≤ 21 * suc n
    go None zs e g h = absurd g
    go (Some z) None e g h = absurd g
    go (Some z) (Some zs) e g h = omega (arith, number_length f z e, h tt)

some : (zs : Option (List ℤ)) (k : List ℤ → Line) → WellFormed (formed zs k) → AreThere zs
some None k g = absurd g
some (Some zs) k g = tt

kind_total : (serial : ℤ) (fs : List (List ℕ)) → WellFormed (kind_line serial fs) → total fs ≤ 109
unfolding kind_line total
kind_total serial [] g = absurd g
kind_total serial (f ∷ fs) g =
    either (same_bytes f EXP) (λ e. omega (arith, ap length (same_list f EXP e), five (rw e at g)))
    (λ e. either (same_bytes f LOG) (λ h. omega (arith, ap length (same_list f LOG h), three (rw (e, h) at g))) (λ h. absurd (rw (e, h) at g)))
  where
    five : WellFormed (formed (numbers 5 fs) (exp_of serial)) → total fs ≤ 105
    five g = numbers_total 5 fs (some (numbers 5 fs) (exp_of serial) g)

    three : WellFormed (formed (numbers 3 fs) (log_of serial)) → total fs ≤ 63
    three g = numbers_total 3 fs (some (numbers 3 fs) (log_of serial) g)

serial_length : (f : List ℕ) (z : ℤ) → read_number f ≡ Some z → IsSerial z → length f ≤ 7
serial_length f z e b = rw (number_is f z e).written (short_range 1 6 z (lit< tt) b)

line_total : (fs : List (List ℕ)) → WellFormed (line_of fs) → total fs ≤ 117
unfolding line_of total
line_total [] g = absurd g
line_total (f ∷ fs) g = go (read_number f) refl g
  where
    go : (n : Option ℤ) → read_number f ≡ n → WellFormed (serial_line n fs) → length f + 1 + total fs ≤ 117
    go None e g = absurd g
    go (Some z) e g =
        either (is_serial z) (λ h. omega (arith, serial_length f z e h, kind_total z fs (rw h at g))) (λ h. absurd (rw h at g))

pub too_long : (l : List ℕ) → longest_line < length l → read_line l ≡ line.Malformed
unfolding read_line
too_long l h = go (line_of (fields l)) (λ w. over (line_total (fields l) w) (total_split 9 l []))
  where
    over : total (fields l) ≤ 117 → total (split 9 [] l) ≡ 0 + length l + 1 → ⊥
    over p q = omega arith

    go : (r : Line) → (WellFormed r → ⊥) → r ≡ line.Malformed
    go line.Malformed n = refl
    go (line.Exp serial m exponent start) n = absurd (n tt)
    go (line.Log serial m point) n = absurd (n tt)
