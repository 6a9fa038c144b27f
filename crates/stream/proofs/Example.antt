-- The whole run that 01 quotes (A sheet line), computed from the definitions.
use mathlib.Core.Path.{◌≡◌, refl, ap, ◌∙◌}
use mathlib.Core.List.{List, [], ◌∷◌, ◌++◌}
use Prim.Native.Nat.{ℕ, ◌^◌}
use lib.IntN.{ℤ, pos}
use lib.Signed.{lt_z_yes}
use Rattle.word.specs.Compare.{between}
use Rattle.buffer.specs.Lines.{line_bytes}
use Rattle.scan.specs.Decimal.{value, read_natural, read_number}
use Rattle.scan.specs.Fields.{split, same_bytes}
use Rattle.scan.specs.Numbers.{numbers}
use Rattle.point.specs.declared.Point.{Point}
use Rattle.point.specs.Limits.{in_steps, in_box, in_parts}
use Rattle.answer.specs.Record.{record_of}
use Rattle.exponential.specs.Answer.{answer, exp_answer}
use Rattle.logarithm.specs.Answer.{is_zero, answer as log-answer, log_answer}
use Rattle.edges.proofs.Quoted.{quoted_line}
use Rattle.text.specs.declared.Line.TheVariants.{Exp, Log}
use Rattle.text.specs.Line.{EXP, REF, kind_line, line_of, read_line}
use Rattle.text.specs.Answer.{reply_of, reply}
use Rattle.stream.specs.Machine.{last_line, lines_from, lines, answers}
use Rattle.stream.specs.Sheet.{heading, sheet}
use Rattle.stream.proofs.Rising.{serials, Rises, looks_not, rising_as_before}

-- ---- the sheet, byte by byte
-- 1|EXP|40|0|0|281474976710656|0
unfoldable pub line₁ : List ℕ
line₁ = 49 ∷ 9 ∷ 69 ∷ 88 ∷ 80 ∷ 9 ∷ 52 ∷ 48 ∷ 9 ∷ 48 ∷ 9 ∷ 48 ∷ 9 ∷ 50 ∷ 56 ∷ 49 ∷ 52 ∷ 55 ∷ 52 ∷ 57 ∷ 55 ∷ 54 ∷ 55 ∷ 49 ∷ 48 ∷ 54 ∷ 53 ∷
    54 ∷ 9 ∷ 48 ∷ []

-- 2|LOG|40|0|0
unfoldable pub line₂ : List ℕ
line₂ = 50 ∷ 9 ∷ 76 ∷ 79 ∷ 71 ∷ 9 ∷ 52 ∷ 48 ∷ 9 ∷ 48 ∷ 9 ∷ 48 ∷ []

-- 3|EXP|0|0|0|0|0
unfoldable pub line₃ : List ℕ
line₃ = 51 ∷ 9 ∷ 69 ∷ 88 ∷ 80 ∷ 9 ∷ 48 ∷ 9 ∷ 48 ∷ 9 ∷ 48 ∷ 9 ∷ 48 ∷ 9 ∷ 48 ∷ []

unfoldable pub given : List ℕ
given = line₁ ++ (10 ∷ line₂) ++ (10 ∷ line₃) ++ 10 ∷ []

parted : lines given ≡ line₁ ∷ line₂ ∷ line₃ ∷ []
unfolding lines_from last_line given line₁ line₂ line₃
parted = refl

-- ---- what each line asks, and what it is answered
abbrev at : ℤ → ℤ → Point
at x y = record { x = x; y = y }

exp₁ : read_line line₁ ≡ Exp (pos 1) (pos 40) (at (pos 0) (pos 0)) (at (pos (2 ^ 48)) (pos 0))
unfolding read_line line_of kind_line numbers read_number read_natural value same_bytes between split line₁
exp₁ = refl

log₂ : read_line line₂ ≡ Log (pos 2) (pos 40) (at (pos 0) (pos 0))
unfolding read_line line_of kind_line numbers read_number read_natural value same_bytes between split line₂
log₂ = refl

exp₃ : read_line line₃ ≡ Exp (pos 3) (pos 0) (at (pos 0) (pos 0)) (at (pos 0) (pos 0))
unfolding read_line line_of kind_line numbers read_number read_natural value same_bytes between split line₃
exp₃ = refl

-- the record of a refusal
abbrev refused : ℤ → List ℤ
refused r = r ∷ pos 0 ∷ pos 0 ∷ pos 0 ∷ pos 0 ∷ pos 0 ∷ pos 0 ∷ pos 0 ∷ []

no_logarithm : record_of (log_answer (pos 40) (pos 0) (pos 0)) ≡ refused (pos 4)
unfolding record_of log_answer log-answer in_steps in_parts in_box is_zero between
no_logarithm = refl

no_steps : record_of (exp_answer (pos 0) (pos 0) (pos 0) (pos 0) (pos 0)) ≡ refused (pos 1)
unfolding record_of exp_answer answer in_steps between
no_steps = refl

answer₁ : (reply line₁).bytes ≡ line_bytes (pos 1) EXP (pos 40 ∷ pos (2 ^ 48) ∷ pos 0 ∷ pos 0 ∷ pos 0 ∷ pos 0 ∷ pos 2128 ∷ [])
unfolding reply reply_of
answer₁ = ap (λ l. (reply_of l).bytes) exp₁ ∙ rw quoted_line

answer₂ : (reply line₂).bytes ≡ line_bytes (pos 2) REF (pos 4 ∷ [])
unfolding reply reply_of
answer₂ = ap (λ l. (reply_of l).bytes) log₂ ∙ rw no_logarithm

answer₃ : (reply line₃).bytes ≡ line_bytes (pos 3) REF (pos 1 ∷ [])
unfolding reply reply_of
answer₃ = ap (λ l. (reply_of l).bytes) exp₃ ∙ rw no_steps

-- the numbers rise, so each line is answered by itself
rises : Rises (pos 0) (serials (lines given))
unfolding serials
rises = rw (parted, exp₁, log₂, exp₃) (lt_z_yes tt, (lt_z_yes tt, (lt_z_yes tt, tt)))

-- THE RUN: BKM|48, 1|EXP|40|281474976710656|0|0|0|0|2128, 2|REF|4, 3|REF|1
pub whole_run : sheet given ≡
    heading
    ++ (line_bytes (pos 1) EXP (pos 40 ∷ pos (2 ^ 48) ∷ pos 0 ∷ pos 0 ∷ pos 0 ∷ pos 0 ∷ pos 2128 ∷ [])
    ++ (line_bytes (pos 2) REF (pos 4 ∷ [])
    ++ (line_bytes (pos 3) REF (pos 1 ∷ []) ++ [])))
unfolding answers
whole_run = rising_as_before given rises ∙ (ap (λ ls. heading ++ answers looks_not tt ls) parted ∙ λ i. heading ++ (answer₁ i ++ (answer₂ i ++ (answer₃ i ++ []))))
