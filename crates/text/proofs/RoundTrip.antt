-- What is written is read back: an input line as itself, and the fields of every line that begins with a serial and a word.
use Rattle.std.specs.Prelude.{Some}
use mathlib.Core.Path.{◌≡◌, refl, ap, ◌∙◌}
use mathlib.Core.List.{List, [], ◌∷◌, ◌++◌, map, append_assoc}
use Prim.Native.Nat.{ℕ}
use native.Mathlib.Omega.{arith}
use lib.Dec.{lit<}
use lib.IntN.{ℤ}
use lib.ListN.{length}
use Rattle.buffer.specs.Decimal.{show_number}
use Rattle.buffer.specs.Lines.{field_bytes, line_bytes}
use Rattle.buffer.proofs.Lines.{AllFit}
use Rattle.scan.specs.Decimal.{read_number}
use Rattle.scan.specs.Fields.{split, fields, same_bytes}
use Rattle.scan.specs.Numbers.{numbers}
use Rattle.scan.proofs.Find.{Without}
use Rattle.scan.proofs.Read.{read_show}
use Rattle.scan.proofs.Joined.{marked, split_joined, without_append, without_marked, lacks_says, number_without, numbers_without}
use Rattle.point.specs.declared.Point.{Point}
use Rattle.text.specs.declared.Line.{Line}
use Rattle.text.specs.Line.{EXP, LOG, kind_line, line_of, read_line}
use Rattle.text.proofs.Serial.{IsSerial}
use Rattle.text.proofs.Room.{serial_fits}
use Rattle.text.specs.declared.Line.TheVariants as line

-- ---- a line without its newline: the serial, a word, and numbers
abbrev pub body_bytes : ℤ → List ℕ → List ℤ → List ℕ
body_bytes serial word zs = show_number serial ++ (9 ∷ word) ++ field_bytes zs

-- an answer line is that and its newline
pub line_body : (serial : ℤ) (word : List ℕ) (zs : List ℤ) → line_bytes serial word zs ≡ body_bytes serial word zs ++ 10 ∷ []
unfolding line_bytes
line_body serial word zs = refl

fields_marked : (zs : List ℤ) → field_bytes zs ≡ marked 9 (map show_number zs)
unfolding field_bytes marked
fields_marked [] = refl
fields_marked (z ∷ zs) = ap (λ (l : List ℕ). 9 ∷ show_number z ++ l) (fields_marked zs)

-- its fields
pub body_fields : (serial : ℤ) (word : List ℕ) (zs : List ℤ) → Without 9 word →
    fields (body_bytes serial word zs) ≡ show_number serial ∷ word ∷ map show_number zs
unfolding marked
body_fields serial word zs w = ap fields (append_assoc (show_number serial) (9 ∷ word) (field_bytes zs) ∙ rw fields_marked)
    ∙ split_joined 9 (show_number serial) (word ∷ map show_number zs) (number_without 9 serial (lit< tt)) (w, numbers_without 9 zs (lit< tt))

-- it has no newline, so an answer line is one line
pub body_plain : (serial : ℤ) (word : List ℕ) (zs : List ℤ) → Without 10 word → Without 10 (body_bytes serial word zs)
body_plain serial word zs w = without_append 10 (show_number serial ++ 9 ∷ word) (field_bytes zs)
    (without_append 10 (show_number serial) (9 ∷ word) (number_without 10 serial (lit< tt)) (tab, w))
    (rw fields_marked (without_marked 10 9 (map show_number zs) tab (numbers_without 10 zs (lit< tt))))
  where
    tab : ◌≡◌ {A = ℕ} 9 10 → ⊥
    tab e = omega arith

pub line_split : (serial : ℤ) (word : List ℕ) (zs : List ℤ) → Without 10 word →
    split 10 [] (line_bytes serial word zs) ≡ body_bytes serial word zs ∷ [] ∷ []
unfolding line_bytes marked
line_split serial word zs w = split_joined 10 (body_bytes serial word zs) ([] ∷ []) (body_plain serial word zs w) (tt, tt)

-- ---- the fields read
pub numbers_shown : (zs : List ℤ) → AllFit zs → numbers (length zs) (map show_number zs) ≡ Some zs
unfolding numbers
numbers_shown [] f = refl
numbers_shown (z ∷ zs) f = rw (read_show z f.0, numbers_shown zs f.1)

-- ---- an input line
-- the numbers of a line, from N on
abbrev pub exp_numbers : ℤ → Point → Point → List ℤ
exp_numbers n exponent start = n ∷ exponent.x ∷ exponent.y ∷ start.x ∷ start.y ∷ []

abbrev pub log_numbers : ℤ → Point → List ℤ
log_numbers n point = n ∷ point.x ∷ point.y ∷ []

-- a malformed line has no bytes
unfoldable pub input_bytes : Line → List ℕ
input_bytes line.Malformed = []
input_bytes (line.Exp serial n exponent start) = body_bytes serial EXP (exp_numbers n exponent start)
input_bytes (line.Log serial n point) = body_bytes serial LOG (log_numbers n point)

-- the serial lies in its range, and the numbers fit 64 bits
abbrev pub Writable : Line → Type 0
Writable line.Malformed = Unit {0}
Writable (line.Exp serial n exponent start) = IsSerial serial × AllFit (exp_numbers n exponent start)
Writable (line.Log serial n point) = IsSerial serial × AllFit (log_numbers n point)

read_kind : (serial : ℤ) (word : List ℕ) (zs : List ℤ) → IsSerial serial → Without 9 word →
    read_line (body_bytes serial word zs) ≡ kind_line serial (word ∷ map show_number zs)
unfolding read_line line_of
read_kind serial word zs s w = rw (body_fields serial word zs w, read_show serial (serial_fits serial s), s)

-- THE LAW: an input line that is written is read back
pub read_written : (l : Line) → Writable l → read_line (input_bytes l) ≡ l
unfolding input_bytes read_line line_of split read_number kind_line same_bytes
read_written line.Malformed f = refl
read_written (line.Exp serial n exponent start) f =
    read_kind serial EXP (exp_numbers n exponent start) f.0 (lacks_says 9 EXP tt)
    ∙ rw (numbers_shown (exp_numbers n exponent start) f.1)
read_written (line.Log serial n point) f =
    read_kind serial LOG (log_numbers n point) f.0 (lacks_says 9 LOG tt) ∙ rw (numbers_shown (log_numbers n point) f.1)
