-- `merge::write` meets its contract: what is still to come, behind what is written, makes the whole.
use mathlib.Core.Path.{◌≡◌, refl}
use mathlib.Core.List.{List, ◌++◌}
use mathlib.Core.Logic.{◌⊎◌}
use Prim.Native.Nat.{ℕ, ◌+◌, ◌≤◌}
use native.Mathlib.Omega.{arith}
use borrow.Author.Rules.{rules}
use lib.IntN.{ℤ, pos}
use lib.ListN.{length}
use Rattle.buffer.specs.Code.{Put}
use Rattle.stream.specs.Machine.{lines}
use Rattle.merge.specs.declared.Front.{Front}
use Rattle.merge.specs.Merge.{merge}
use Rattle.merge.specs.Call.{text}
use Rattle.merge.specs.Code.{InFrontIfPassing}
use Rattle.merge.proofs.Turn.{merge_rest, Left, rest, whole, behind_first, behind_second, ended, first, passed, second, first_less, passed_less, second_less}
use Rattle.merge.proofs.Written.{Reached, Writing, start as begun, all_written, nothing_written, line_written, line_fits, first_fits, first_written, rest_fits, rest_written}
use Rattle.merge.proofs.Follows.{one_left}
use Rattle.merge.proofs.Sure.{both_pass}
use Rattle.merge.proofs.write.Goals as goal

pub lines-init : goal.lines-init
unfolding merge merge_rest
lines-init c =
    let s = c.args in
    let p = both_pass (pos 0) (pos 0) s.a.now s.b.now c.requires.b_value in (
      whole (c.sure_front-f.ensures (pos 0) p.0) (c.sure_front-g.ensures (pos 0) p.1),
      begun (merge s.a.now s.b.now) s.out.now c.requires.b_value,
    )

pub returns-in-Done : goal.returns-in-Done
returns-in-Done c = let i = c.lines.invariant in all_written i.1 (ended i.0 c.choose-c.ensures c.in-Done.is).1

-- behind a line that was read, of the first sheet or the second, with the line in front that does not stop the merge
module _ {s t : List ℕ} {f g : Front} (l : Left s t f g) {whole b b' : List ℕ} {w : ℕ} (n : ℤ) (r : List ℕ) where
  go_first : {f' : Front} → InFrontIfPassing r f' → Writing whole b b' (merge_rest n l.k r t) w → (k : Left r t f' g) × Writing whole b b' (rest k) w
  go_first h m = (behind_first l n r (h n (both_pass n l.k r t m.free).0), m)

  go_second : {g' : Front} → InFrontIfPassing r g' → Writing whole b b' (merge_rest l.j n s r) w → (k : Left s r f g') × Writing whole b b' (rest k) w
  go_second h m = (behind_second l n r (h n (both_pass l.j n s r m.free).1), m)

pub put_first-w-requires : goal.put_first-w-requires
put_first-w-requires c =
    let i = c.lines.invariant in
    line_fits i.1 _ _ (first i.0 c.choose-c.ensures c.in-First.is refl) c.requires.b_in_bounds

pub lines-smaller-in-First : goal.lines-smaller-in-First
lines-smaller-in-First c = omega (arith, first_less c.lines.invariant.0 c.choose-c.ensures c.in-First.is c.step-p.ensures)

pub lines-preserved-in-First : goal.lines-preserved-in-First
lines-preserved-in-First c =
    let i = c.lines.invariant in
    go_first i.0 c.in-First.field-0 c.step-p.result.now c.sure_front-f-in-First.ensures
    (line_written i.1 _ _ (first i.0 c.choose-c.ensures c.in-First.is c.step-p.ensures) c.put_first-w.ensures)

pub lines-smaller-in-Passed : goal.lines-smaller-in-Passed
lines-smaller-in-Passed c = omega (arith, passed_less c.lines.invariant.0 c.choose-c.ensures c.in-Passed.is c.step-p-in-Passed.ensures)

pub lines-preserved-in-Passed : goal.lines-preserved-in-Passed
lines-preserved-in-Passed c =
    let i = c.lines.invariant in
    go_first i.0 c.in-Passed.field-0 c.step-p-in-Passed.result.now c.sure_front-f-in-Passed.ensures
    (nothing_written i.1 (passed i.0 c.choose-c.ensures c.in-Passed.is c.step-p-in-Passed.ensures))

pub put_first-w-requires-in-Second : goal.put_first-w-requires-in-Second
put_first-w-requires-in-Second c =
    let i = c.lines.invariant in
    line_fits i.1 _ _ (second i.0 c.choose-c.ensures c.in-Second.is refl) c.requires.b_in_bounds

pub lines-smaller : goal.lines-smaller
lines-smaller c = omega (arith, second_less c.lines.invariant.0 c.choose-c.ensures c.in-Second.is c.step-q.ensures)

pub lines-preserved : goal.lines-preserved
lines-preserved c =
    let i = c.lines.invariant in
    go_second i.0 c.in-Second.field-0 c.step-q.result.now c.sure_front-g-in-Second.ensures
    (line_written i.1 _ _ (second i.0 c.choose-c.ensures c.in-Second.is c.step-q.ensures) c.put_first-w-in-Second.ensures)

-- where the loop ends one sheet has no more lines
module _ {s t : List ℕ} {f g : Front} {whole b b' : List ℕ} {w : ℕ} (i : (k : Left s t f g) × Writing whole b b' (rest k) w)
    (one : (length s ≡ 0) ⊎ (length t ≡ 0)) where
  left : text (rest i.0).copied ≡ text (lines s) ++ text (lines t)
  left = one_left i.0.j i.0.k s t i.1.free one

  fits : length whole ≤ length b → w + length (text (lines s)) ≤ length b'
  fits = first_fits i.1 (text (lines s)) (text (lines t)) left

  -- the first sheet's rest is written
  first_out : {b'' : List ℕ} {w' : ℕ} → Put b' w (text (lines s)) b'' w' → Reached whole b b'' (text (lines t)) w'
  first_out = first_written i.1 (text (lines s)) (text (lines t)) left

pub put_all-w-requires : goal.put_all-w-requires
put_all-w-requires c = fits c.lines.invariant (search rules) c.requires.b_in_bounds

pub put_all-requires : goal.put_all-requires
put_all-requires c = rest_fits (first_out c.lines.invariant (search rules) c.put_all-w.ensures) c.requires.b_in_bounds

pub returns : goal.returns
returns c = rest_written (first_out c.lines.invariant (search rules) c.put_all-w.ensures) c.put_all.ensures
