-- Only private contracts cite this: a field read in one pass.
use Rattle.std.specs.Prelude.{◌≡◌, ℕ, ◌<◌, ◌≤◌, Bool, true, cond, List, length, ◌==◌, nat_lt, slice_index, Option, option_map}
use Rattle.std.proofs.Math.Seq.{slice}
use Rattle.scan.specs.declared.Field.{Field}
use Rattle.scan.specs.Decimal.{value}
use Rattle.scan.specs.Find.{find_byte}

-- a field ends at i: at a tab, or at the end of s
abbrev pub ends_at : List ℕ → ℕ → Bool
ends_at s i = cond (nat_lt i (length s)) (slice_index s i == 9) true

-- the digits of a field from `from` up to end are worth v; there comes `to`, or a byte that is no digit
pub record Worth (s : List ℕ) (from to v end : ℕ) : Type 0 where
  pub low : from ≤ end
  pub high : end ≤ to
  pub tab : find_byte 9 s end ≡ find_byte 9 s from
  pub same : value v (slice end (find_byte 9 s from) s) ≡ value 0 (slice from (find_byte 9 s from) s)
  pub other : end < to → 48 ≤ slice_index s end → slice_index s end ≤ 57 → ⊥

-- what a field reads as that begins at `from`, with its end; none, where it reads as none
unfoldable pub field_at : {A : Type 0} → (List ℕ → Option A) → List ℕ → ℕ → Option (Field A)
field_at read s from =
    option_map (λ v. record { value = v; end = find_byte 9 s from }) (read (slice from (find_byte 9 s from) s))
