-- The merge of two sheets by their lines, which come without their newlines (02, E4).
use Rattle.std.specs.Prelude.{Bool, cond, List, [], ◌∷◌, ℕ, ℤ, pos, Option, Some, None}
use Rattle.std.specs.Int.Signed.{le_z, lt_z}
use Rattle.scan.specs.Fields.{same_bytes}
use Rattle.text.specs.Line.{read_line, serial_of}
use Rattle.stream.specs.Machine.{lines}
use Rattle.merge.specs.declared.Front.{Front}
use Rattle.merge.specs.declared.Choice.{Choice}
use Rattle.merge.specs.declared.MergeError.{MergeError}
use Rattle.merge.specs.declared.Front.TheVariants.{End, Malformed, Fallen, Risen}
use Rattle.merge.specs.declared.Choice.TheVariants.{Done, First, Passed, Second, Refused}
use Rattle.merge.specs.declared.MergeError.TheVariants as err

-- ---- THE REFUSALS: "a malformed line", too little room, "a falling or repeated number", "one number with two differing lines"
abbrev pub merge_refusal : MergeError → ℕ
merge_refusal err.Malformed = 5
merge_refusal err.NoRoom = 6
merge_refusal err.Fallen = 7
merge_refusal err.Differing = 8

-- ---- THE LINE IN FRONT of what is left of a sheet, behind a line with the serial `last`: malformed, of "a falling or repeated number", or neither
abbrev pub by_number : ℤ → Option ℤ → Front
by_number last None = Malformed
by_number last (Some serial) = cond (le_z serial last) Fallen (Risen serial)

unfoldable pub front_line : ℤ → List ℕ → Front
front_line last l = by_number last (serial_of (read_line l))

unfoldable pub front : ℤ → List (List ℕ) → Front
front last [] = End
front last (l ∷ ls) = front_line last l

-- ---- THE CHOICE at the lines in front of two sheets, which are the same, byte by byte, or not
-- two serials: "where both sheets have equal lines under one number, the step passes the first sheet's by"; "8, one number with two differing lines"
abbrev pub by_serial : ℤ → ℤ → Bool → Choice MergeError
by_serial m n same = cond (lt_z m n) (First m) (cond (lt_z n m) (Second n) (cond same (Passed m) (Refused err.Differing)))

-- "a malformed line stops the merge with 5", on either side; then a fallen one "with 7", on either; 8 comes "after 5 and 7 at the same pair of lines"
unfoldable pub choice : Front → Front → Bool → Choice MergeError
choice Malformed g same = Refused err.Malformed
choice Fallen Malformed same = Refused err.Malformed
choice Fallen Fallen same = Refused err.Fallen
choice Fallen End same = Refused err.Fallen
choice Fallen (Risen n) same = Refused err.Fallen
choice End Malformed same = Refused err.Malformed
choice End Fallen same = Refused err.Fallen
choice End End same = Done
choice End (Risen n) same = Second n
choice (Risen m) Malformed same = Refused err.Malformed
choice (Risen m) Fallen same = Refused err.Fallen
choice (Risen m) End same = First m
choice (Risen m) (Risen n) same = by_serial m n same

-- ---- THE MERGE: the refusal that stops it, or 0, and the lines copied until then
pub record Merge : Type 0 where
  pub refusal : ℕ
  pub copied : List (List ℕ)

abbrev pub stopped : ℕ → Merge
stopped r = record { refusal = r; copied = [] }

-- "each line copied unchanged"
infixr 30 ◌then◌
abbrev pub ◌then◌ : List ℕ → Merge → Merge
◌then◌ l m = record { refusal = m.refusal; copied = l ∷ m.copied }

-- what a choice leads to: the merge goes on behind the first sheet's line, written or passed by, or behind the second's, written
abbrev pub act : Choice MergeError → (ℤ → Merge) → (ℤ → Merge) → (ℤ → Merge) → Merge
act Done first passed second = stopped 0
act (Refused e) first passed second = stopped (merge_refusal e)
act (First n) first passed second = first n
act (Passed n) first passed second = passed n
act (Second n) first passed second = second n

-- "When only one sheet has lines left, that rest follows as a whole"; it "is checked line by line like the others"
abbrev pub alone : Front → (ℤ → Merge) → Merge
alone End behind = stopped 0
alone Malformed behind = stopped 5
alone Fallen behind = stopped 7
alone (Risen n) behind = behind n

unfoldable pub follow : ℤ → List (List ℕ) → Merge
follow last [] = stopped 0
follow last (l ∷ ls) = alone (front_line last l) (λ n. l then follow n ls)

-- "The pair of lines met first in the merge decides which refusal is given"
unfoldable pub merge_from : ℤ → ℤ → List (List ℕ) → List (List ℕ) → Merge
merge_from j k [] ys = follow k ys
merge_from j k (a ∷ xs) [] = follow j (a ∷ xs)
merge_from j k (a ∷ xs) (b ∷ ys) =
    act (choice (front_line j a) (front_line k b) (same_bytes a b))
    (λ n. a then merge_from n k xs (b ∷ ys))
    (λ n. merge_from n k xs (b ∷ ys))
    (λ n. b then merge_from j n (a ∷ xs) ys)

-- of two sheets: serials begin above 0
unfoldable pub merge : List ℕ → List ℕ → Merge
merge a b = merge_from (pos 0) (pos 0) (lines a) (lines b)
