-- The P cases of 01 as one table ("Edges, proved ones marked P"), and what it is for a case to hold: what stands in the records that the
-- calls hand out.
use Rattle.std.specs.Prelude.{◌≡◌, List, [], ◌∷◌, map, ℕ, zero, suc, ◌+◌, ◌^◌, ℤ, pos, neg_ℤ, length}
use Rattle.algebra.specs.Gauss.{𝔾, gi, ◌-ᵍ◌}
use Rattle.point.specs.Point.{gauss, nought, one}
use Rattle.answer.specs.Answer.{Answer}
use Rattle.answer.specs.Record.{record_of, refusal_in, re_in, im_in, binary_exponent_in, quadrant_in, remainder_re_in, remainder_im_in}
use Rattle.table_numbers.specs.declared.Entry.{Entry}
use Rattle.table_numbers.specs.Rows.{number, reciprocal_at}
use Rattle.table_numbers.specs.Table.{step_table, reciprocal_table}
use Rattle.iteration.specs.declared.State.{State}
use Rattle.iteration.specs.Select.{Exp, Log}
use Rattle.iteration.specs.Run.{state, next, digits}
use Rattle.exponential.specs.Answer.{exp_answer}
use Rattle.logarithm.specs.Reduction.{turned, column, row, cell_x, cell_y}
use Rattle.logarithm.specs.Answer.{begun, log_answer}

-- ---- a call, what it answers and the record of that
pub data Call : Type 0 where
  EXP : (n : ℤ) (exponent start : 𝔾) → Call
  LOG : (n : ℤ) (point : 𝔾) → Call

abbrev pub answer_to : Call → Answer
answer_to (EXP n e s) = exp_answer n e.re e.im s.re s.im
answer_to (LOG n p) = log_answer n p.re p.im

abbrev pub handed : Call → List ℤ
handed c = record_of (answer_to c)

-- the two parts, and the two of the remainder
abbrev pub value_of : Call → 𝔾
value_of c = let r = handed c in gi (re_in r) (im_in r)

abbrev pub remainder_of : Call → 𝔾
remainder_of c = let r = handed c in gi (remainder_re_in r) (remainder_im_in r)

-- the reciprocal ("seat") that `tables::reciprocal` hands out for the cell with (X + iY)/32 in it, whose unit is 1/2^5
abbrev pub cell_reciprocal : ℤ → ℤ → Entry
cell_reciprocal X Y = reciprocal_at (column 5 (gi X Y)) (row 5 (gi X Y))

-- ---- what a case says
-- a number at a place of a record
abbrev pub Field : Type 0
Field = (List ℤ → ℤ) × ℤ

pub data Case : Type 0 where
  -- these numbers stand in the record that a call hands out
  hands_out : Call → List Field → Case
  -- these digits open EXP of an exponent from step 1 on, LOG of a point from step 3 on
  exp_opens : (exponent : 𝔾) (digits : List 𝔾) → Case
  log_opens : (point : 𝔾) (digits : List 𝔾) → Case
  -- this number is handed out as the reciprocal of the cell with centre (X + iY)/32
  has_reciprocal : (X Y : ℤ) (number : 𝔾) → Case

-- ---- the table: "What a case leaves unsaid: N is 40, the exponent nought, the start or the point one, the other part 0"
abbrev minus : ℕ → ℤ
minus n = neg_ℤ (pos n)

abbrev real : ℤ → 𝔾
real x = gi x (pos 0)

abbrev imaginary : ℤ → 𝔾
imaginary y = gi (pos 0) y

abbrev pub unity : 𝔾
unity = one 48

-- digits
abbrev d1 : 𝔾
d1 = gi (pos 1) (pos 0)

abbrev d1+i : 𝔾
d1+i = gi (pos 1) (pos 1)

abbrev di : 𝔾
di = gi (pos 0) (pos 1)

abbrev d0 : 𝔾
d0 = gi (pos 0) (pos 0)

abbrev d_1 : 𝔾
d_1 = gi (minus 1) (pos 0)

abbrev d-1+i : 𝔾
d-1+i = gi (minus 1) (pos 1)

-- numbers in a record
abbrev accepted : Field
accepted = (refusal_in, pos 0)

abbrev refused : ℕ → Field
refused r = (refusal_in, pos r)

abbrev k= : ℤ → Field
k= k = (binary_exponent_in, k)

abbrev q= : ℤ → Field
q= q = (quadrant_in, q)

-- "(143552238122434, 81627743246090), which is 0.51 + 0.29i cut"
abbrev figure : 𝔾
figure = gi (pos 143552238122434) (pos 81627743246090)

abbrev pub cases : List Case
cases =
    -- "EXP ex 241892558110720 accepted; one more: 2"; since request E5 "the edge of 01 just past 55/64 is now accepted and the edge that is
    -- refused moves to 2^51 + 1", and k is "0 within the rectangle"
    hands_out (EXP (pos 40) (real (pos 241892558110720)) unity) (accepted ∷ k= (pos 0) ∷ [])
    ∷ hands_out (EXP (pos 40) (real (pos 241892558110721)) unity) (accepted ∷ k= (pos 1) ∷ [])
    ∷ hands_out (EXP (pos 40) (real (pos (2 ^ 51))) unity) (accepted ∷ k= (pos 12) ∷ [])
    ∷ hands_out (EXP (pos 40) (real (pos (2 ^ 51 + 1))) unity) (refused 2 ∷ [])
    -- "start part 2^58 and −2^58 accepted; 2^58 + 1 and −2^63: 3", in either part
    ∷ hands_out (EXP (pos 40) nought (real (pos (2 ^ 58)))) (accepted ∷ [])
    ∷ hands_out (EXP (pos 40) nought (real (minus (2 ^ 58)))) (accepted ∷ [])
    ∷ hands_out (EXP (pos 40) nought (real (pos (2 ^ 58 + 1)))) (refused 3 ∷ [])
    ∷ hands_out (EXP (pos 40) nought (real (minus (2 ^ 63)))) (refused 3 ∷ [])
    ∷ hands_out (EXP (pos 40) nought (imaginary (pos (2 ^ 58)))) (accepted ∷ [])
    ∷ hands_out (EXP (pos 40) nought (imaginary (minus (2 ^ 58)))) (accepted ∷ [])
    ∷ hands_out (EXP (pos 40) nought (imaginary (pos (2 ^ 58 + 1)))) (refused 3 ∷ [])
    ∷ hands_out (EXP (pos 40) nought (imaginary (minus (2 ^ 63)))) (refused 3 ∷ [])
    -- "N = 0 with a bad exponent: 1. LOG N = 2: 1; N = 3 accepted"; the exponent is over 8, which request E5 left bad
    ∷ hands_out (EXP (pos 0) (real (pos (2 ^ 51 + 1))) unity) (refused 1 ∷ [])
    ∷ hands_out (LOG (pos 2) unity) (refused 1 ∷ [])
    ∷ hands_out (LOG (pos 3) unity) (accepted ∷ [])
    -- "digits 1, 1+i, −1, i, i, 0, −1, 0 open it (figure 1 of 001)"
    ∷ exp_opens figure (d1 ∷ d1+i ∷ d_1 ∷ di ∷ di ∷ d0 ∷ d_1 ∷ d0 ∷ [])
    -- "one as its start after three of these steps: 1.640625 + 0.328125i", which is (105 + 21i)/64
    ∷ hands_out (EXP (pos 3) figure unity) (accepted ∷ (re_in, pos 461794883665920) ∷ (im_in, pos 92358976733184) ∷ [])
    -- "LOG of (0, 5): q = 1; (5, 5): 0; (5, −5): 3; (−1, 0): 2 and k = −47"; since request E2 "q = 3 is written −1, as for (5, −5)", and "a
    -- point straight to the left keeps q = 2"
    ∷ hands_out (LOG (pos 40) (gi (pos 0) (pos 5))) (accepted ∷ q= (pos 1) ∷ [])
    ∷ hands_out (LOG (pos 40) (gi (pos 5) (pos 5))) (accepted ∷ q= (pos 0) ∷ [])
    ∷ hands_out (LOG (pos 40) (gi (pos 5) (minus 5))) (accepted ∷ q= (minus 1) ∷ [])
    ∷ hands_out (LOG (pos 40) (gi (minus 1) (pos 0))) (accepted ∷ q= (pos 2) ∷ k= (minus 47) ∷ [])
    -- "cell X = 17, Y = 1: seat (120 − 7i)/64"
    ∷ has_reciprocal (pos 17) (pos 1) (gi (pos 120) (minus 7))
    -- "LOG of one: k = 1, q = 0, digits 1, −1+i, 0 for n = 3, 4, 5"
    ∷ hands_out (LOG (pos 40) unity) (accepted ∷ k= (pos 1) ∷ q= (pos 0) ∷ [])
    ∷ log_opens unity (d1 ∷ d-1+i ∷ d0 ∷ [])
    ∷ []

-- ---- what it is for a case to hold
-- what is read off the calls at N = n + 1, .., n + k
abbrev pub reads : (Call → 𝔾) → (ℕ → Call) → ℕ → ℕ → List 𝔾
reads part call n zero = []
reads part call n (suc k) = part (call (suc n)) ∷ reads part call (suc n) k

-- the states after the steps n + 1, n + 2, .. by given digits
abbrev pub states : ℕ → State → List 𝔾 → List State
states n x [] = []
states n x (d ∷ ds) = let y = next step_table (suc n) d x in y ∷ states (suc n) y ds

-- "Digits belong to the definition; no call hands them back": they are the definition's, and the calls from N = 1 or 3 on hand out what the
-- steps by them make and what they leave over, one being the start
abbrev pub Holds : Case → Type 0
Holds (hands_out c fs) = map (λ f. f.0 (handed c)) fs ≡ map (λ f. f.1) fs
Holds (exp_opens e ds) = let x = state unity e in
    (digits 48 step_table Exp 0 (length ds) x ≡ ds)
    × ((reads value_of (λ n. EXP (pos n) e unity) 0 (length ds) ≡ map (λ y. gauss y.point) (states 0 x ds))
    × (reads remainder_of (λ n. EXP (pos n) e unity) 0 (length ds) ≡ map (λ y. gauss y.sum) (states 0 x ds)))
Holds (log_opens p ds) = let x = begun 48 reciprocal_table (turned p) in
    (digits 48 step_table Log 2 (length ds) x ≡ ds)
    × ((reads value_of (λ n. LOG (pos n) p) 2 (length ds) ≡ map (λ y. gauss y.sum) (states 2 x ds))
    × (reads remainder_of (λ n. LOG (pos n) p) 2 (length ds) ≡ map (λ y. gauss y.point -ᵍ unity) (states 2 x ds)))
Holds (has_reciprocal X Y c) = (gi (cell_x 5 (gi X Y)) (cell_y 5 (gi X Y)) ≡ gi X Y) × (number (cell_reciprocal X Y) ≡ c)

abbrev pub All : List Case → Type 0
All [] = Unit {0}
All (c ∷ cs) = Holds c × All cs
