-- What a step hands back, and what the call of the merge gives and writes (02, E4).
use Rattle.std.specs.Prelude.{Result, Ok, Err, Bool, cond, List, [], ◌∷◌, ◌++◌, ℕ, suc, ◌+◌, ltb, eqb, length, take, drop}
use Rattle.scan.specs.Find.{before}
use Rattle.merge.specs.declared.Choice.{Choice}
use Rattle.merge.specs.declared.MergeError.{MergeError}
use Rattle.merge.specs.Merge.{merge_refusal, merge}
use Rattle.merge.specs.declared.Choice.TheVariants.{Done, First, Passed, Second, Refused}

-- ---- A STEP: the bytes of the first line of a sheet, and those behind it
unfoldable pub first_line : List ℕ → List ℕ
first_line s = take (before 10 s) s

unfoldable pub behind : List ℕ → List ℕ
behind s = drop (suc (before 10 s)) s

-- "A merge step hands back the unread rest of whichever sheet it read from"; where it reads no line, all of the first
abbrev pub unread : {E : Type 0} → Choice E → List ℕ → List ℕ → List ℕ
unread Done a b = a
unread (Refused e) a b = a
unread (First n) a b = behind a
unread (Passed n) a b = behind a
unread (Second n) a b = behind b

-- ---- THE CALL
-- "The lent output must hold both sheets and two newlines, else 6 before any line is looked at"
abbrev pub is_short : List ℕ → List ℕ → List ℕ → Bool
is_short a b out = ltb (length out) (length a + length b + 2)

abbrev pub refusal_for : List ℕ → List ℕ → List ℕ → ℕ
refusal_for a b out = cond (is_short a b out) 6 (merge a b).refusal

-- each line with its newline: "a last line without its newline gets one"
unfoldable pub text : List (List ℕ) → List ℕ
text [] = []
text (l ∷ ls) = l ++ 10 ∷ text ls

-- what is written: nothing "with a refusal, which leaves the output unchanged"
abbrev pub bytes_for : List ℕ → List ℕ → List ℕ → List ℕ
bytes_for a b out = cond (eqb (refusal_for a b out) 0) (text (merge a b).copied) []

-- the two figures of what the call gives: the refusal's number, or 0, and the count of bytes, 0 with a refusal
abbrev pub refusal_of : {A : Type 0} → Result A MergeError → ℕ
refusal_of (Ok n) = 0
refusal_of (Err e) = merge_refusal e

abbrev pub count_of : Result ℕ MergeError → ℕ
count_of (Ok n) = n
count_of (Err e) = 0
