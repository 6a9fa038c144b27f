-- Runs (02, E10): "each call is handed the book .. that the one before gave back, the first that of the opening", and what is proved of
-- every run for either institute. A run may begin with any book, and has calls by anyone.
use Rattle.std.specs.Prelude.{◌≡◌, Bool, true, false, cond, List, [], ◌∷◌, ℤ, pos, ◌+ℤ◌, Option, Some, None, Ok, Err}
use Rattle.algebra.specs.Order.{◌⩽◌}
use Rattle.book.specs.declared.Book.{Book}
use Rattle.book.specs.declared.Institute.{Institute}
use Rattle.book.specs.declared.Institute.TheVariants.{First, Second}
use Rattle.book.specs.declared.Rejection.TheVariants.{Refused, Denied}
use Rattle.book.specs.Book.{balance, opened}
use Rattle.book.specs.Call.{Reply, Operation, Call, caller_of, cost, outcome}

-- ---- a run of calls from a book on: each call with what it was replied
pub record Entry : Type 0 where
  pub call : Call
  pub reply : Reply

unfoldable pub run : List Call → Book → List Entry
run [] b = []
run (c ∷ cs) b = record { call = c; reply = (outcome c b).reply } ∷ run cs (outcome c b).book

-- the book that the last call gave back
unfoldable pub book_after : List Call → Book → Book
book_after [] b = b
book_after (c ∷ cs) b = book_after cs (outcome c b).book

-- ---- what of it is an institute's own, in order
abbrev pub same : Institute → Institute → Bool
same First First = true
same First Second = false
same Second First = false
same Second Second = true

abbrev pub is_by : Institute → Option Institute → Bool
is_by p (Some q) = same p q
is_by p None = false

abbrev pub own : Institute → Call → Bool
own p c = is_by p (caller_of c.caller)

unfoldable pub calls_of : Institute → List Call → List Call
calls_of p [] = []
calls_of p (c ∷ cs) = cond (own p c) (c ∷ calls_of p cs) (calls_of p cs)

unfoldable pub entries_of : Institute → List Entry → List Entry
entries_of p [] = []
entries_of p (e ∷ es) = cond (own p e.call) (e ∷ entries_of p es) (entries_of p es)

-- ---- "the costs of its answered calls"
abbrev pub is_answered : Reply → Bool
is_answered (Ok f) = true
is_answered (Err (Refused r)) = false
is_answered (Err Denied) = false

abbrev pub cost_in : Reply → Operation → ℤ
cost_in r o = cond (is_answered r) (cost o) (pos 0)

unfoldable pub total : List Entry → ℤ
total [] = pos 0
total (e ∷ es) = cost_in e.reply e.call.operation +ℤ total es

-- ---- "For each party, what it started with equals what it has left plus the costs of its answered calls in the run"
abbrev pub Conserved : Institute → List Call → Book → Type 0
Conserved p cs b = balance p b ≡ balance p (book_after cs b) +ℤ total (entries_of p (run cs b))

-- from the opening on no balance goes below 0 or above what the book was opened with
pub record InAllowance (p : Institute) (first second : ℤ) (cs : List Call) : Type 0 where
  pub low : pos 0 ⩽ balance p (book_after cs (opened first second).book)
  pub high : balance p (book_after cs (opened first second).book) ⩽ balance p (opened first second).book

-- ---- "A refused call leaves the book as it found it"
abbrev pub LeftAlone : Call → Book → Type 0
LeftAlone c b = is_answered (outcome c b).reply ≡ false → (outcome c b).book ≡ b

-- ---- "Change one institute's calls in any manner, the opening and the order of the other's own calls kept": p is the other, and cs and ds
-- are two runs with the same calls by p in the same order; of the opening only p's balance need be kept
-- "the other's answers, refusals and balance stay equal"
pub record Alike (p : Institute) (cs : List Call) (b : Book) (ds : List Call) (d : Book) : Type 0 where
  pub replies : entries_of p (run cs b) ≡ entries_of p (run ds d)
  pub balances : balance p (book_after cs b) ≡ balance p (book_after ds d)

abbrev pub Undisturbed : Institute → Type 0
Undisturbed p = (cs ds : List Call) (b d : Book) → calls_of p cs ≡ calls_of p ds → balance p b ≡ balance p d → Alike p cs b ds d
