-- THE ROOM of an answer line: a width for each figure, and their sum. Every answer line fits 128 bytes; to a line that is read, whose serial
-- has at most 7 digits, it has at most 115 bytes for EXP and 107 for LOG.
use Rattle.std.specs.Prelude.{Option, Some, None, Ok, Err}
use mathlib.Core.Path.{◌≡◌, refl}
use mathlib.Core.List.{List, [], ◌∷◌}
use Prim.Native.Nat.{ℕ, suc, ◌+◌, ◌^◌, ◌≤◌}
use native.Mathlib.Omega.{arith}
use lib.Dec.{T, lit<, ltb→lt}
use lib.IntN.{ℤ, pos, negsuc, neg_ℤ}
use lib.ListN.{length, length-append}
use lib.Signed.{lt_z, lt_z_yes}
use mir.Syntax.{w64}
use mir.Val.{SFits}
use Rattle.algebra.specs.Gauss.{𝔾, gi}
use Rattle.algebra.specs.Order.{◌⩽◌, ◌⋖◌}
use Rattle.algebra.proofs.Reify.{reify}
use Rattle.algebra.proofs.Linear.{lin, lin<, ◌&◌, ◌&<◌, none}
use Rattle.word.proofs.Fits.{sfits_range, sfits_pos}
use Rattle.word.proofs.Compare.{between_true}
use Rattle.buffer.specs.Decimal.{show_number}
use Rattle.buffer.specs.Lines.{field_bytes, line_bytes}
use Rattle.buffer.proofs.Written.{short, short_number, short_range}
use Rattle.buffer.proofs.Lines.{line_length}
use Rattle.point.specs.declared.Point.{Point}
use Rattle.answer.specs.declared.Refusal.TheVariants.{Steps, Exponent, Part, Zero}
use Rattle.answer.specs.Answer.{Answer}
use Rattle.answer.specs.Record.{record_of}
use Rattle.exponential.specs.Answer.{exp_answer}
use Rattle.exponential.proofs.Ranges.{Ranged as ExpRanged, exp_ranges}
use Rattle.logarithm.specs.Answer.{log_answer}
use Rattle.logarithm.proofs.Ranges.{Ranged as LogRanged, log_ranges}
use Rattle.text.specs.declared.Kind.{Kind}
use Rattle.text.specs.declared.Line.{Line}
use Rattle.text.specs.Line.{read_line, serial_of}
use Rattle.text.specs.Answer.{answer_room, fields_of, refused_reply, answer_reply, reply_of, reply}
use Rattle.text.proofs.Serial.{IsSerial, Ranged, line_serial}
use Rattle.text.specs.declared.Kind.TheVariants as kind
use Rattle.text.specs.declared.Line.TheVariants as line

-- ---- widths
-- each number takes at most its width
infixr 4 ◌and◌
pub data Widths : List ℕ → List ℤ → Type 0 where
  end : Widths [] []
  ◌and◌ : {w : ℕ} {ws : List ℕ} {z : ℤ} {zs : List ℤ} → length (show_number z) ≤ w → Widths ws zs → Widths (w ∷ ws) (z ∷ zs)

-- and a tab in front of it
unfoldable pub room : List ℕ → ℕ
room [] = 0
room (w ∷ ws) = 1 + w + room ws

pub fields_room : {ws : List ℕ} {zs : List ℤ} → Widths ws zs → length (field_bytes zs) ≤ room ws
unfolding field_bytes room
fields_room end = omega arith
fields_room (h and hs) = simp length-append (omega (arith, fields_room hs))

-- a serial of at most w bytes, a word of three, the fields, and the newline
abbrev pub line_most : ℕ → List ℕ → ℕ
line_most w ws = 5 + w + room ws

pub line_fits : {ws : List ℕ} {zs : List ℤ} {w : ℕ} (serial : ℤ) (word : List ℕ) → length word ≡ 3 → length (show_number serial) ≤ w →
    Widths ws zs → length (line_bytes serial word zs) ≤ line_most w ws
line_fits serial word e f h = rw line_length (omega (arith, e, f, fields_room h))

-- the width of a number from lo to hi: below zero it has a digit less, for its sign
pub short_span : (k : ℕ) (z : ℤ) {lo hi : ℤ} → lo ⩽ z → z ⩽ hi → T (lt_z (neg_ℤ (pos (10 ^ suc k))) lo) →
    T (lt_z hi (pos (10 ^ suc (suc k)))) →
    length (show_number z) ≤ suc (suc k)
unfolding show_number
short_span k (pos n) {hi} l h s t = short (suc k) n (ltb→lt n (10 ^ suc (suc k)) below.lt)
  where
    below : pos n ⋖ pos (10 ^ suc (suc k))
    below = lin< (pos n ∷ hi ∷ pos (10 ^ suc (suc k)) ∷ []) (h & lt_z_yes {a = hi} {b = pos (10 ^ suc (suc k))} t &< none)
        (search reify depth 20) tt
short_span k (negsuc n) {lo} l h s t = omega (arith, short k (suc n) (ltb→lt (suc n) (10 ^ suc k) below.lt))
  where
    below : pos (suc n) ⋖ pos (10 ^ suc k)
    below = lin< (pos n ∷ lo ∷ pos (10 ^ suc k) ∷ []) (l & lt_z_yes {a = neg_ℤ (pos (10 ^ suc k))} {b = lo} s &< none)
        (search reify depth 20) tt

-- ---- the figures of each kind, from N on
-- N, two parts, the remainder, k, the error bound
abbrev pub exp_widths : List ℕ
exp_widths = 2 ∷ 20 ∷ 20 ∷ 16 ∷ 16 ∷ 3 ∷ 19 ∷ []

-- N, two parts, the remainder, k, q, the error bound
abbrev pub log_widths : List ℕ
log_widths = 2 ∷ 16 ∷ 16 ∷ 15 ∷ 15 ∷ 3 ∷ 2 ∷ 18 ∷ []

abbrev pub widths_of : Kind → List ℕ
widths_of kind.Exp = exp_widths
widths_of kind.Log = log_widths

-- the fields of an answer, if there is one, take at most their widths
abbrev pub Fitting : Kind → ℤ → Answer → Type 0
Fitting k n (Ok f) = Widths (widths_of k) (fields_of k n (record_of (Ok f)))
Fitting k n (Err r) = Unit {0}

exp_widths_lem : (n : ℤ) (a : Answer) → ExpRanged 48 n a → Fitting kind.Exp n a
unfolding record_of
exp_widths_lem n (Ok f) r =
    short_span 0 n r.steps_low r.steps_high tt tt
    and short_span 18 f.value.x r.value.re.lo r.value.re.hi tt tt
    and short_span 18 f.value.y r.value.im.lo r.value.im.hi tt tt
    and short_span 14 f.remainder.x r.remainder.re.lo r.remainder.re.hi tt tt
    and short_span 14 f.remainder.y r.remainder.im.lo r.remainder.im.hi tt tt
    and short_span 1 f.binary_exponent r.exponent.lo r.exponent.hi tt tt
    and short_span 17 f.error_bound r.bound_low r.bound_high tt tt
    and end
exp_widths_lem n (Err r) h = tt

log_widths_lem : (n : ℤ) (p : 𝔾) (a : Answer) → LogRanged 48 n p a → Fitting kind.Log n a
unfolding record_of
log_widths_lem n p (Ok f) r =
    short_span 0 n r.steps_low r.steps_high tt tt
    and short_span 14 f.value.x r.value.re.lo r.value.re.hi tt tt
    and short_span 14 f.value.y r.value.im.lo r.value.im.hi tt tt
    and short_span 13 f.remainder.x r.remainder.re.lo r.remainder.re.hi tt tt
    and short_span 13 f.remainder.y r.remainder.im.lo r.remainder.im.hi tt tt
    and short_span 1 f.binary_exponent r.exponent_low r.exponent_high tt tt
    and short_span 0 f.quadrant r.quadrant_low r.quadrant_high tt tt
    and short_span 16 f.error_bound r.bound_low r.bound_high tt tt
    and end
log_widths_lem n p (Err r) h = tt

pub exp_fitting : (n ex ey sx sy : ℤ) → Fitting kind.Exp n (exp_answer n ex ey sx sy)
exp_fitting n ex ey sx sy = exp_widths_lem n (exp_answer n ex ey sx sy) (exp_ranges n ex ey sx sy)

pub log_fitting : (n x y : ℤ) → Fitting kind.Log n (log_answer n x y)
log_fitting n x y = log_widths_lem n (gi x y) (log_answer n x y) (log_ranges n x y)

-- ---- the line, with a serial of at most w bytes
-- that of a refusal, whose number has at most 20
refused_bytes : (serial : ℤ) {refusal : ℤ} {w : ℕ} → length (show_number serial) ≤ w → SFits w64 refusal →
    length (refused_reply serial refusal).bytes ≤ line_most w (20 ∷ [])
refused_bytes serial {refusal} f g = line_fits serial _ refl f (short_number refusal g and end)

pub refused_room : {serial refusal : ℤ} → SFits w64 serial → SFits w64 refusal → length (refused_reply serial refusal).bytes ≤ answer_room
unfolding room
refused_room {serial} f g = omega (arith, refused_bytes serial (short_number serial f) g)

-- that of an answer, which is no shorter
abbrev pub answer_most : ℕ → Kind → ℕ
answer_most w k = line_most w (widths_of k)

refused_fits : (k : Kind) (serial : ℤ) {refusal : ℤ} {w : ℕ} → length (show_number serial) ≤ w → SFits w64 refusal →
    length (refused_reply serial refusal).bytes ≤ answer_most w k
unfolding room
refused_fits kind.Exp serial f g = omega (arith, refused_bytes serial f g)
refused_fits kind.Log serial f g = omega (arith, refused_bytes serial f g)

answer_bytes : (k : Kind) (serial n : ℤ) (a : Answer) {w : ℕ} → length (show_number serial) ≤ w → Fitting k n a →
    length (answer_reply k serial n (record_of a)).bytes ≤ answer_most w k
unfolding record_of
answer_bytes kind.Exp serial n (Ok f) s h = line_fits serial _ refl s h
answer_bytes kind.Log serial n (Ok f) s h = line_fits serial _ refl s h
answer_bytes k serial n (Err Steps) s h = refused_fits k serial s (sfits_pos (lit< tt))
answer_bytes k serial n (Err Exponent) s h = refused_fits k serial s (sfits_pos (lit< tt))
answer_bytes k serial n (Err Part) s h = refused_fits k serial s (sfits_pos (lit< tt))
answer_bytes k serial n (Err Zero) s h = refused_fits k serial s (sfits_pos (lit< tt))

exp_bytes : (serial n : ℤ) (exponent start : Point) {w : ℕ} → length (show_number serial) ≤ w →
    length (reply_of (line.Exp serial n exponent start)).bytes ≤ answer_most w kind.Exp
unfolding reply_of
exp_bytes serial n exponent start s = answer_bytes kind.Exp serial n _ s
    (exp_fitting n exponent.x exponent.y start.x start.y)

log_bytes : (serial n : ℤ) (point : Point) {w : ℕ} → length (show_number serial) ≤ w →
    length (reply_of (line.Log serial n point)).bytes ≤ answer_most w kind.Log
unfolding reply_of
log_bytes serial n point s = answer_bytes kind.Log serial n _ s (log_fitting n point.x point.y)

-- the serial is a number of the machine, and need not lie in 01's range
abbrev pub SerialFits : Option ℤ → Type 0
SerialFits None = Unit {0}
SerialFits (Some serial) = SFits w64 serial

pub reply_room : (l : Line) → SerialFits (serial_of l) → length (reply_of l).bytes ≤ answer_room
unfolding reply_of room
reply_room line.Malformed f = refused_room (sfits_pos (lit< tt)) (sfits_pos (lit< tt))
reply_room (line.Exp serial n exponent start) f = exp_bytes serial n exponent start (short_number serial f)
reply_room (line.Log serial n point) f = omega (arith, log_bytes serial n point (short_number serial f))

-- in 01's range it has at most 7 digits
pub exp_longest : (serial n : ℤ) (exponent start : Point) → IsSerial serial → length (reply_of (line.Exp serial n exponent start)).bytes ≤ 115
unfolding room
exp_longest serial n exponent start h = exp_bytes serial n exponent start (short_range 1 6 serial (lit< tt) h)

pub log_longest : (serial n : ℤ) (point : Point) → IsSerial serial → length (reply_of (line.Log serial n point)).bytes ≤ 107
unfolding room
log_longest serial n point h = log_bytes serial n point (short_range 1 6 serial (lit< tt) h)

-- ---- a line that is read
pub serial_fits : (z : ℤ) → IsSerial z → SFits w64 z
serial_fits z h = let b = between_true h in
    sfits_range (lin (z ∷ []) (b.0 & none) (search reify depth 20) tt) (lin< (z ∷ []) (b.1 & none) (search reify depth 20) tt)

read_fits : (n : Option ℤ) → Ranged n → SerialFits n
read_fits None h = tt
read_fits (Some serial) h = serial_fits serial h

pub read_reply_room : (l : List ℕ) → length (reply l).bytes ≤ answer_room
unfolding reply
read_reply_room l = reply_room (read_line l) (read_fits (serial_of (read_line l)) (line_serial l))
