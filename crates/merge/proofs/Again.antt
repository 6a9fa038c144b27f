-- THE MERGED SHEET, read again: its lines are those that were merged, and the program never answers one of them with 7.
use mathlib.Core.Path.{◌≡◌, refl, ◌∙◌}
use mathlib.Core.List.{List, [], ◌∷◌, ◌++◌}
use Prim.Native.Nat.{ℕ}
use lib.IntN.{ℤ, pos}
use lib.Signed.{clash_ℤ}
use Rattle.word.proofs.Compare.{lt_le_z}
use Rattle.text.specs.Line.{read_line}
use Rattle.stream.specs.declared.State.{State}
use Rattle.stream.specs.Machine.{last_line, lines_from, lines}
use Rattle.stream.specs.Sheet.{initial, reply_after, answer_line, heading, sheet}
use Rattle.stream.proofs.Lines.{Plain, lines_plain, first_written}
use Rattle.stream.proofs.Rising.{Entry, entries, answers_of, numbers_rise, seven_only}
use Rattle.merge.specs.Merge.{Merge, merge_from, merge}
use Rattle.merge.specs.Call.{text}
use Rattle.merge.proofs.Rules.{one_number, Merges, none, stop, first, second, passed, merges}
use Rattle.merge.proofs.Laws.{Rising, end, more, merged_rises}

copied_plain : {j k : ℤ} {xs ys : List (List ℕ)} {m : Merge} → Merges j k xs ys m → Plain xs → Plain ys → Plain m.copied
copied_plain none p q = tt
copied_plain (stop n) p q = tt
copied_plain (first s h u r) p q = (p.0, copied_plain r p.1 q)
copied_plain (second s h u r) p q = (q.0, copied_plain r p q.1)
copied_plain (passed s h t r) p q = copied_plain r p.1 q

again : (ls : List (List ℕ)) → Plain ls → lines (text ls) ≡ ls
unfolding lines_from last_line text
again [] p = refl
again (l ∷ ls) p = first_written l (text ls) p.0 ∙ rw (again ls p.1)

pub read_again : (a b : List ℕ) → lines (text (merge a b).copied) ≡ (merge a b).copied
unfolding merge
read_again a b =
    again (merge_from (pos 0) (pos 0) (lines a) (lines b)).copied (copied_plain (merges (pos 0) (pos 0) (lines a) (lines b)) (lines_plain a) (lines_plain b))

-- ---- answered by the program
abbrev pub NoSeven : List Entry → Type 0
NoSeven [] = Unit {0}
NoSeven (e ∷ es) = (e.answer.refusal ≡ pos 7 → ⊥) × NoSeven es

no_seven : {ls : List (List ℕ)} (s : State) → Rising s.largest ls → NoSeven (entries s ls)
unfolding entries answer_line
no_seven s end = tt
no_seven s (more {n = n} {l = l} {ls = ls} e h r) = (above, rw (e.is, lt_le_z h) (no_seven (record { largest = n }) r))
  where
    above : (reply_after s.largest (read_line l)).refusal ≡ pos 7 → ⊥
    above k =
        let f = seven_only (read_line l) s.largest k in
        clash_ℤ h (rw (one_number e (record { is = f.1 })) f.2)

-- THE LAW
pub never_seven : (a b : List ℕ) → let s = text (merge a b).copied in let es = entries initial (lines s) in
    (sheet s ≡ heading ++ answers_of es) × NoSeven es
never_seven a b = ((numbers_rise (text (merge a b).copied)).0, rw (read_again a b) (no_seven initial (merged_rises a b)))
