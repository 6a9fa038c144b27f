-- A line that does not stop a merge: its serial stands before the first tab of the sheet.
use Rattle.std.specs.Prelude.{Option, Some}
use mathlib.Core.Path.{◌≡◌, refl}
use mathlib.Core.List.{List}
use Prim.Native.Nat.{ℕ, ◌≤◌}
use native.Mathlib.Omega.{arith}
use lib.IntN.{ℤ}
use lib.ListN.{length}
use lib.Seq.{slice, take-take}
use Rattle.scan.specs.Decimal.{read_number}
use Rattle.scan.specs.Find.{before, find_byte}
use Rattle.scan.proofs.Find.{ended, before_take}
use Rattle.text.proofs.Serial.{first_number}
use Rattle.stream.specs.Machine.{lines}
use Rattle.merge.specs.declared.Front.{Front}
use Rattle.merge.specs.Merge.{front}
use Rattle.merge.specs.Call.{first_line}
use Rattle.merge.specs.Code.{Passes}
use Rattle.merge.proofs.Rules.{Numbered, InFront, malformed, fallen, risen, in_front_lem, front_risen, merges}
use Rattle.merge.proofs.Laws.{Rising, end, more, both_rose}
use Rattle.merge.proofs.Turn.{merge_rest}
use Rattle.merge.proofs.Found.{front_is, length_first}
use Rattle.merge.specs.declared.Front.TheVariants.{Risen}

-- ---- where nothing stops the merge, neither line in front does
rising_passes : {j : ℤ} {ls : List (List ℕ)} → Rising j ls → Passes (front j ls)
unfolding front
rising_passes end = tt
rising_passes (more e h r) = rw (front_risen e h) tt

pub both_pass : (j k : ℤ) (s t : List ℕ) → (merge_rest j k s t).refusal ≡ 0 → Passes (front j (lines s)) × Passes (front k (lines t))
unfolding merge_rest
both_pass j k s t e = let r = both_rose (merges j k (lines s) (lines t)) e in (rising_passes r.0, rising_passes r.1)

-- ---- such a line's serial
pub record Sure (last : ℤ) (s : List ℕ) (r : Option ℤ) : Type 0 where
  pub serial : ℤ
  pub is : front last (lines s) ≡ Risen serial
  pub «read» : r ≡ Some serial

module _ (s : List ℕ) (last : ℤ) (n : length s ≡ 0 → ⊥) where
  tab : {z : ℤ} → Numbered (first_line s) z → (read_number (slice 0 (find_byte 9 s 0) s) ≡ Some z)
  unfolding first_line
  tab {z} e =
      let f = first_number (first_line s) z (ended (omega arith) refl) e.is in
      let same : before 9 s ≡ before 9 (first_line s) = before_take 9 (before 10 s) s (omega (arith, f.1)) in
      let short : find_byte 9 (first_line s) 0 ≤ before 10 s = omega (arith, f.1, length_first s) in
      let at : find_byte 9 s 0 ≡ find_byte 9 (first_line s) 0 = omega (arith, same) in
      rw (at, ← take-take (find_byte 9 (first_line s) 0) (before 10 s) s short) f.0

  pub sure : Passes (front last (lines s)) → Sure last s (read_number (slice 0 (find_byte 9 s 0) s))
  sure p = go (in_front_lem last (first_line s)) (front_is s last n) p
    where
      go : {f : Front} → InFront last (first_line s) f → front last (lines s) ≡ f → Passes (front last (lines s)) → Sure last s (read_number (slice 0 (find_byte 9 s 0) s))
      go (malformed e) is p = absurd (rw is at p)
      go (fallen e h) is p = absurd (rw is at p)
      go (risen {n = z} e h) is p = record { serial = z; is = is; «read» = tab e }
