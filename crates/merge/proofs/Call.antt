-- The call where there is room: what is written fits, and makes the bytes.
use mathlib.Core.Path.{◌≡◌}
use mathlib.Core.Bool.{false}
use mathlib.Core.List.{List, ◌++◌}
use Prim.Native.Nat.{ℕ, ◌+◌, ◌≤◌}
use native.Mathlib.Omega.{arith}
use lib.ListN.{length, drop}
use lib.Dec.{ltb}
use borrow.Author.Tests.{ltb-false}
use Rattle.buffer.specs.Code.{Put}
use Rattle.buffer.proofs.Put.{to_front}
use Rattle.merge.specs.Merge.{merge}
use Rattle.merge.specs.Call.{text, bytes_for}
use Rattle.merge.proofs.Laws.{merged_fits}

module _ (a b out : List ℕ) (room : ltb (length out) (length a + length b + 2) ≡ false) where
  pub enough : length (text (merge a b).copied) ≤ length out
  enough = omega (arith, merged_fits a b, ltb-false (length out) (length a + length b + 2) room)

  pub all_done : 0 ≡ (merge a b).refusal → {out' : List ℕ} {n : ℕ} → Put out 0 (text (merge a b).copied) out' n →
      out' ≡ bytes_for a b out ++ drop n out
  all_done e p = let f = to_front p enough in rw (room, ← e, f.count) f.bytes
