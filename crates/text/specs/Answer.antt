-- What a line is answered (01, A sheet line, and Turned away, by operation).
use Rattle.std.specs.Prelude.{cond, List, [], ◌∷◌, ◌++◌, ℕ, zero, suc, ltb, ℤ, pos, negsuc, length, drop}
use Rattle.buffer.specs.Lines.{line_bytes}
use Rattle.answer.specs.Record.{record_of, refusal_in, re_in, im_in, binary_exponent_in, quadrant_in, error_bound_in, remainder_re_in, remainder_im_in}
use Rattle.exponential.specs.Answer.{exp_answer}
use Rattle.logarithm.specs.Answer.{log_answer}
use Rattle.text.specs.declared.Kind.{Kind}
use Rattle.text.specs.declared.Line.{Line}
use Rattle.text.specs.declared.LineError.{LineError}
use Rattle.text.specs.Line.{EXP, LOG, REF, read_line}
use Rattle.text.specs.declared.Kind.TheVariants as kind
use Rattle.text.specs.declared.Line.TheVariants as line
use Rattle.text.specs.declared.LineError.TheVariants as error

-- ---- the refusals of a line that come before EXP's and LOG's: "first 6, buffer shorter than 128 bytes .. then 5"; 02, E3: 7
abbrev pub line_refusal : LineError → ℤ
line_refusal error.Malformed = pos 5
line_refusal error.NoRoom = pos 6
line_refusal error.Fallen = pos 7

-- ---- an answer of either kind, out of its record: "kernel number, kind, N, the two parts, for LOG k and q, then the column"; 02, E5: "k
-- stands before the column on every EXP line"; 02, E7: the remainder's "Two fields follow the parts"
abbrev pub word_of : Kind → List ℕ
word_of kind.Exp = EXP
word_of kind.Log = LOG

-- THE FIELDS from N on
abbrev pub fields_of : Kind → ℤ → List ℤ → List ℤ
fields_of kind.Exp n r = n ∷ re_in r ∷ im_in r ∷ remainder_re_in r ∷ remainder_im_in r
    ∷ binary_exponent_in r ∷ error_bound_in r ∷ []
fields_of kind.Log n r = n ∷ re_in r ∷ im_in r ∷ remainder_re_in r ∷ remainder_im_in r
    ∷ binary_exponent_in r ∷ quadrant_in r ∷ error_bound_in r ∷ []

-- ---- what a line is answered: the refusal number or 0, and the bytes
pub record Reply : Type 0 where
  pub refusal : ℤ
  pub bytes : List ℕ

abbrev pub refused_reply : ℤ → ℤ → Reply
refused_reply serial refusal = record { refusal = refusal; bytes = line_bytes serial REF (refusal ∷ []) }

-- by the refusal number or 0
abbrev pub reply_by : ℤ → ℤ → List ℕ → List ℤ → Reply
reply_by (pos zero) serial kind zs = record { refusal = pos 0; bytes = line_bytes serial kind zs }
reply_by (pos (suc k)) serial kind zs = refused_reply serial (pos (suc k))
reply_by (negsuc k) serial kind zs = refused_reply serial (negsuc k)

abbrev pub answer_reply : Kind → ℤ → ℤ → List ℤ → Reply
answer_reply k serial n r = reply_by (refusal_in r) serial (word_of k) (fields_of k n r)

-- a malformed line is answered 0, REF, 5
unfoldable pub reply_of : Line → Reply
reply_of line.Malformed = refused_reply (pos 0) (pos 5)
reply_of (line.Exp serial n exponent start) = answer_reply kind.Exp serial n
    (record_of (exp_answer n exponent.x exponent.y start.x start.y))
reply_of (line.Log serial n point) = answer_reply kind.Log serial n (record_of (log_answer n point.x point.y))

unfoldable pub reply : List ℕ → Reply
reply l = reply_of (read_line l)

-- ---- A CALL: "first 6, buffer shorter than 128 bytes, nothing written"; "Bytes after the answer keep their values"
abbrev pub answer_room : ℕ
answer_room = 128

abbrev pub refusal_for : Reply → List ℕ → ℤ
refusal_for a out = cond (ltb (length out) answer_room) (pos 6) a.refusal

-- "the number of bytes written, the answer's newline counted, 0 for refusal 6"
abbrev pub count_for : Reply → List ℕ → ℕ
count_for a out = cond (ltb (length out) answer_room) 0 (length a.bytes)

abbrev pub out_for : Reply → List ℕ → List ℕ
out_for a out = cond (ltb (length out) answer_room) out (a.bytes ++ drop (length a.bytes) out)
