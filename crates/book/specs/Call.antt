-- One call (02, E10): "A call is EXP or LOG in plain numbers, with the caller's number and the book, and gives the answer record and the new
-- book."
use Rattle.std.specs.Prelude.{cond, List, eqb, ℤ, pos, negsuc, ◌-ℤ◌, Option, Some, None, Result, Ok, Err}
use Rattle.std.specs.Int.Signed.{lt_z}
use Rattle.answer.specs.declared.Figures.{Figures}
use Rattle.answer.specs.Answer.{Answer}
use Rattle.answer.specs.Refusal.{refusal_number}
use Rattle.answer.specs.Record.{numbers, no_figures}
use Rattle.exponential.specs.Answer.{exp_answer}
use Rattle.logarithm.specs.Answer.{log_answer}
use Rattle.book.specs.declared.Book.{Book}
use Rattle.book.specs.declared.Institute.{Institute}
use Rattle.book.specs.declared.Institute.TheVariants.{First, Second}
use Rattle.book.specs.declared.Rejection.{Rejection}
use Rattle.book.specs.declared.Rejection.TheVariants.{Refused, Denied}
use Rattle.book.specs.declared.Settled.{Settled}
use Rattle.book.specs.Book.{balance, charged, denial_number}

-- ---- a call
pub data Operation : Type 0 where
  Exp : (n ex ey sx sy : ℤ) → Operation
  Log : (n x y : ℤ) → Operation

pub record Call : Type 0 where
  pub caller : ℤ
  pub operation : Operation

abbrev pub exp_by : ℤ → ℤ → ℤ → ℤ → ℤ → ℤ → Call
exp_by caller n ex ey sx sy = record { caller = caller; operation = Exp n ex ey sx sy }

abbrev pub log_by : ℤ → ℤ → ℤ → ℤ → Call
log_by caller n x y = record { caller = caller; operation = Log n x y }

-- "number 1 for ours and 2 for the sister's"
unfoldable pub caller_of : ℤ → Option Institute
caller_of (pos n) = cond (eqb n 1) (Some First) (cond (eqb n 2) (Some Second) None)
caller_of (negsuc n) = None

-- "with the same tables": what EXP and LOG answer to anyone
abbrev pub answer_to : Operation → Answer
answer_to (Exp n ex ey sx sy) = exp_answer n ex ey sx sy
answer_to (Log n x y) = log_answer n x y

-- "An answered EXP costs N, an answered LOG N − 2"
abbrev pub cost : Operation → ℤ
cost (Exp n ex ey sx sy) = n
cost (Log n x y) = n -ℤ pos 2

-- "Refused: 10"; a refusal of EXP or LOG keeps its number
abbrev pub rejection_number : Rejection → ℤ
rejection_number (Refused r) = refusal_number r
rejection_number Denied = denial_number

-- ---- what it gives
-- figures, or why there are none
abbrev pub Reply : Type 0
Reply = Result Figures Rejection

-- what EXP or LOG answered
abbrev pub given : Answer → Reply
given (Ok f) = Ok f
given (Err r) = Err (Refused r)

abbrev pub settled : Reply → Book → Settled
settled r b = record { reply = r; book = b }

-- figures for their cost, but "10 .. for a cost above the caller's balance (after every other refusal of the call)"
unfoldable pub paid : Institute → ℤ → Figures → Book → Settled
paid who cost f b = cond (lt_z (balance who b) cost) (settled (Err Denied) b) (settled (Ok f) (charged who cost b))

-- "a refused call is free", and "leaves the book as it found it"
abbrev pub charge : Institute → ℤ → Answer → Book → Settled
charge who cost (Ok f) b = paid who cost f b
charge who cost (Err r) b = settled (given (Err r)) b

-- "10 .. for a caller that is neither institute (before all else in a call)"
abbrev pub outcome_for : Option Institute → Operation → Book → Settled
outcome_for (Some who) o b = charge who (cost o) (answer_to o) b
outcome_for None o b = settled (Err Denied) b

unfoldable pub outcome : Call → Book → Settled
outcome c b = outcome_for (caller_of c.caller) c.operation b

-- "the answer record": that of EXP or LOG, or 10 and zeros
unfoldable pub reply_record : Reply → List ℤ
reply_record (Ok f) = numbers (pos 0) f
reply_record (Err e) = numbers (rejection_number e) no_figures

-- what is said of an answer, of a reply that gives one
abbrev pub OfAnswer : (Answer → Type 0) → Reply → Type 0
OfAnswer P (Ok f) = P (Ok f)
OfAnswer P (Err (Refused r)) = P (Err r)
OfAnswer P (Err Denied) = Unit {0}
