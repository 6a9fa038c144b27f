-- The first line of a sheet and what is behind it, as the search for a newline finds them.
use mathlib.Core.Path.{◌≡◌, refl, ap, ◌∙◌}
use mathlib.Core.List.{List}
use Prim.Native.Nat.{ℕ, ◌+◌, ◌-◌, ◌≤◌, min}
use native.Mathlib.Omega.{arith}
use native.Mathlib.Numerals.{add-one}
use native.Mathlib.Nat.{le_refl}
use lib.IntN.{ℤ}
use lib.ListN.{length, take, drop, length-drop}
use lib.Seq.{take_all, length-take-le}
use Rattle.std.proofs.lemmas.List.{drop_min}
use Rattle.scan.specs.Find.{before, find_byte}
use Rattle.scan.proofs.Find.{ended}
use Rattle.stream.specs.Machine.{lines}
use Rattle.stream.proofs.Lines.{no_line, some_line}
use Rattle.merge.specs.Merge.{front_line, front}
use Rattle.merge.specs.Call.{first_line, behind}
use Rattle.merge.specs.declared.Front.TheVariants.{End}

pub front_none : (last : ℤ) (s : List ℕ) → length s ≡ 0 → front last (lines s) ≡ End
unfolding front
front_none last s e = rw (no_line s e)

module _ (s : List ℕ) where
  -- the newline that is searched for, or the end
  module _ {e : ℕ} (found : e ≡ find_byte 10 s 0) where
    pub within : e ≤ length s
    within = (ended (omega arith) found).high

    pub first_is : take e s ≡ first_line s
    unfolding first_line
    first_is = ap (λ n. take n s) (omega (arith, found))

    pub first_length : length (take e s) ≡ e
    first_length = length-take-le e s within

  pub length_first : length (first_line s) ≡ before 10 s
  unfolding first_line
  length_first = length-take-le (before 10 s) s (omega (arith, within {e = find_byte 10 s 0} refl))

  pub front_is : (last : ℤ) → (length s ≡ 0 → ⊥) → front last (lines s) ≡ front_line last (first_line s)
  unfolding front first_line
  front_is last n = rw (some_line s n)

  part : (k : ℕ) → take (length s - k) (drop k s) ≡ drop k s
  part k = take_all (length s - k) (drop k s) (simp length-drop (le_refl (length s - k)))

  pub behind_from : {n : ℕ} → n ≡ min (length (first_line s) + 1) (length s) → take (length s - n) (drop n s) ≡ behind s
  unfolding behind
  behind_from {n} h = part n ∙ rw (h, drop_min, add-one, length_first)
