-- Which line of which sheet stops a merge (02, E4).
use Rattle.std.specs.Prelude.{Bool, false, cond, List, [], ◌∷◌, ℕ, suc, eqb, ℤ, pos}
use Rattle.scan.specs.Fields.{same_bytes}
use Rattle.stream.specs.Machine.{lines}
use Rattle.merge.specs.declared.Front.{Front}
use Rattle.merge.specs.declared.Choice.{Choice}
use Rattle.merge.specs.declared.MergeError.{MergeError}
use Rattle.merge_stop.specs.declared.Stop.{Stop}
use Rattle.merge.specs.Merge.{merge_refusal, front_line, choice}
use Rattle.merge.specs.declared.Front.TheVariants.{End, Malformed, Fallen, Risen}
use Rattle.merge.specs.declared.Choice.TheVariants.{Done, First, Passed, Second, Refused}

-- ---- THE LINE that the refusal r names of a sheet whose i-th line is in front: that line, where r is due to it, else 0
-- 5 is due to "a malformed line", 7 to "a falling or repeated number within one sheet", 8 to both of "two differing lines"
unfoldable pub named : ℕ → Front → ℕ → ℕ
named r End i = 0
named r Malformed i = cond (eqb r 5) i 0
named r Fallen i = cond (eqb r 7) i 0
named r (Risen n) i = cond (eqb r 8) i 0

-- a merge that nothing stops
abbrev pub none : Stop
none = record { refusal = pos 0; first = 0; second = 0 }

-- ---- A PAIR OF LINES that is met, f the h-th of the first sheet and g the i-th of the second: what the choice there leads to
abbrev pub chosen : ℕ → ℕ → Front → Front → Choice MergeError → (ℤ → Stop) → (ℤ → Stop) → Stop
chosen h i f g Done first second = none
chosen h i f g (Refused e) first second =
    let r = merge_refusal e in record { refusal = pos r; first = named r f h; second = named r g i }
chosen h i f g (First n) first second = first n
chosen h i f g (Passed n) first second = first n
chosen h i f g (Second n) first second = second n

abbrev pub met : ℕ → ℕ → Front → Front → Bool → (ℤ → Stop) → (ℤ → Stop) → Stop
met h i f g same first second = chosen h i f g (choice f g same) first second

-- ---- THE MERGE from such a pair on, behind lines of the serials j and k: "The pair of lines met first in the merge decides which refusal is given"
-- no choice falls on a sheet that has no line left
unfoldable pub stop_from : ℕ → ℕ → ℤ → ℤ → List (List ℕ) → List (List ℕ) → Stop
stop_from h i j k [] [] = none
stop_from h i j k [] (b ∷ ys) = met h i End (front_line k b) false (λ n. none) (λ n. stop_from h (suc i) j n [] ys)
stop_from h i j k (a ∷ xs) [] = met h i (front_line j a) End false (λ n. stop_from (suc h) i n k xs []) (λ n. none)
stop_from h i j k (a ∷ xs) (b ∷ ys) =
    met h i (front_line j a) (front_line k b) (same_bytes a b)
    (λ n. stop_from (suc h) i n k xs (b ∷ ys))
    (λ n. stop_from h (suc i) j n (a ∷ xs) ys)

-- of two sheets: lines are counted from 1, and serials begin above 0
unfoldable pub stop : List ℕ → List ℕ → Stop
stop a b = stop_from 1 1 (pos 0) (pos 0) (lines a) (lines b)
