-- A line's bytes: field by field, and how many there are.
use mathlib.Core.Path.{◌≡◌, refl, sym, ap, ◌∙◌}
use mathlib.Core.List.{List, [], ◌∷◌, ◌++◌, append_assoc, append-nil}
use Prim.Native.Nat.{ℕ, ◌+◌, ◌≤◌, ◌<◌}
use native.Mathlib.Omega.{arith}
use lib.IntN.{ℤ, pos}
use lib.ListN.{length, get_or, take, drop, length-append}
use mir.Syntax.{w64}
use mir.Val.{SFits}
use Rattle.std.proofs.lemmas.List.{take_more, take-append-drop}
use Rattle.buffer.specs.Decimal.{show_number}
use Rattle.buffer.specs.Lines.{field_bytes, line_bytes}

-- ---- field by field
joined : (xs ys : List ℤ) → field_bytes (xs ++ ys) ≡ field_bytes xs ++ field_bytes ys
unfolding field_bytes
joined [] ys = refl
joined (z ∷ zs) ys = ap (λ (l : List ℕ). 9 ∷ l) (ap (λ (l : List ℕ). show_number z ++ l) (joined zs ys) ∙ sym (append_assoc (show_number z) (field_bytes zs) (field_bytes ys)))

single : (z : ℤ) → field_bytes (z ∷ []) ≡ 9 ∷ show_number z
unfolding field_bytes
single z = append-nil (9 ∷ show_number z)

module _ (zs : List ℤ) (i : ℕ) (h : i < length zs) where
  abbrev field : List ℕ
  field = 9 ∷ show_number (get_or zs i (pos 0))

  pub fields_more : field_bytes (take (i + 1) zs) ≡ field_bytes (take i zs) ++ field
  fields_more = rw (take_more zs i (pos 0) h, joined (take i zs)) (ap (λ (l : List ℕ). field_bytes (take i zs) ++ l) (single (get_or zs i (pos 0))))

  pub fields_room : length (field_bytes (take i zs)) + (1 + length (show_number (get_or zs i (pos 0)))) ≤ length (field_bytes zs)
  fields_room =
      let whole = ap (λ (l : List ℤ). length (field_bytes l)) (take-append-drop (i + 1) zs) in
      let parts = ap length (joined (take (i + 1) zs) (drop (i + 1) zs)) in
      omega (arith, whole, parts, ap length fields_more, length-append (field_bytes (take i zs)) field, length-append (field_bytes (take (i + 1) zs)) (field_bytes (drop (i + 1) zs)))

-- ---- how many there are
pub line_length : (serial : ℤ) (word : List ℕ) (zs : List ℤ) → length (line_bytes serial word zs)
    ≡ length (show_number serial) + (1 + length word) + length (field_bytes zs) + 1
unfolding line_bytes
line_length serial word zs = simp length-append (omega arith)

-- ---- every number is one of 64 bits
abbrev pub AllFit : List ℤ → Type 0
AllFit [] = Unit {0}
AllFit (z ∷ zs) = SFits w64 z × AllFit zs
