-- The size of an entry of the step table, from its windows alone: at most 9/4 of 1/2^n. Where the windows of n reach no further than
-- r/2048 of h, h = 2^(F−n), each part is at most r/2048 of h and two units.
use mathlib.Core.Bool.{Bool}
use mathlib.Core.List.{List, [], ◌∷◌}
use Prim.Native.Nat.{ℕ, zero, suc, ◌+◌, ◌*◌, ◌-◌, ◌^◌, ◌≤◌}
use native.Mathlib.Omega.{arith}
use lib.Dec.{T}
use lib.IntN.{ℤ, pos, neg_ℤ, ◌+ℤ◌, ◌*ℤ◌}
use Rattle.algebra.specs.Order.{◌⩽◌}
use Rattle.algebra.specs.Gauss.{𝔾, two}
use Rattle.algebra.specs.Size.{Size, Within}
use Rattle.algebra.proofs.Range.{les, Les, les_say}
use Rattle.algebra.proofs.Reify.{reify}
use Rattle.algebra.proofs.Order.{nonneg_mul, nonneg_pos, nonneg_sq, sub_nonneg}
use Rattle.algebra.proofs.Linear.{lin, ◌&◌, ◌&≡◌, none}
use Rattle.algebra.proofs.Power.{two_mono, two_part}
use Rattle.algebra.proofs.Parts.{size_sq, size_weaken}
use Rattle.point.specs.Digit.{Trit, IsDigit}
use Rattle.point.proofs.Digits.{trits, trits_at}
use Rattle.table_numbers.specs.Window.{Span, Spans, Lies, pick, real, imag}
use Rattle.table_numbers.specs.Promise.{StepEntry}

-- ---- how far the windows of n reach: one computed test
abbrev ends : ℤ → Span → List (ℤ × ℤ)
ends r s = (neg_ℤ r, s.lo) ∷ (s.hi, r) ∷ []

abbrev short : ℤ → Spans → Bool
short r s = trits (λ d. les (ends r (pick s d)))

abbrev Reach : ℤ → ℕ → Type 0
Reach r n = T (short r (real n)) × T (short r (imag n))

ends_at : (r : ℤ) (s : Spans) → T (short r s) → {x : ℤ} → Trit x → Les (ends r (pick s x))
ends_at r s p {x} t = les_say (ends r (pick s x)) (trits_at (λ d. les (ends r (pick s d))) p t)

-- ---- THE LAW
part_size : {r : ℤ} {s : Span} {h w : ℤ} → Les (ends r s) → Lies (pos 2) s h w → pos 0 ⩽ h → Size (pos 2048 *ℤ w) (r *ℤ h +ℤ pos 4096)
part_size {r} {s} {h} {w} (low, (high, _)) l g = record {
  lo = lin (r ∷ s.lo ∷ h ∷ w ∷ []) (nonneg_mul (sub_nonneg low) g & l.low & none) (search reify depth 20) tt;
  hi = lin (r ∷ s.hi ∷ h ∷ w ∷ []) (nonneg_mul (sub_nonneg high) g & l.high & none) (search reify depth 20) tt;
}

-- 2048 times each part; the bound b is the caller's
entry_parts : (F n : ℕ) (r b : ℤ) → Reach r n → r *ℤ two (F - n) +ℤ pos 4096 ⩽ b → {d z : 𝔾} → IsDigit d → StepEntry F n d z →
    Size (pos 2048 *ℤ z.re) b × Size (pos 2048 *ℤ z.im) b
entry_parts F n r b (x, y) l k e = (
  size_weaken (part_size (ends_at r (real n) x k.x) e.re (nonneg_pos (2 ^ (F - n)))) l,
  size_weaken (part_size (ends_at r (imag n) y k.y) e.im (nonneg_pos (2 ^ (F - n)))) l,
)

-- ---- the reach is 3217 at most, and two units are at most h/128: an entry is at most 9/4 of 1/2^n long
windows : (n : ℕ) → Reach (pos 3217) (suc n)
windows zero = (tt, tt)
windows (suc zero) = (tt, tt)
windows (suc (suc zero)) = (tt, tt)
windows (suc (suc (suc zero))) = (tt, tt)
windows (suc (suc (suc (suc n)))) = (tt, tt)

-- 2048 times each part, in quarters of h
pub entry_size : (F n : ℕ) → suc n + 8 ≤ F → {d z : 𝔾} → IsDigit d → StepEntry F (suc n) d z →
    Size (pos 2048 *ℤ z.re) (pos 12932 *ℤ two (F - 2 - suc n)) × Size (pos 2048 *ℤ z.im) (pos 12932 *ℤ two (F - 2 - suc n))
entry_size F n fits = entry_parts F (suc n) (pos 3217) (pos 12932 *ℤ u) (windows n)
    (lin (two (F - suc n) ∷ u ∷ []) (two_part 2 F (suc n) (omega arith) &≡ two_mono 8 (F - suc n) (omega arith) & none)
    (search reify depth 20) tt)
  where
    u : ℤ
    u = two (F - 2 - suc n)

pub entry_short : (F n : ℕ) → suc n + 8 ≤ F → {d z : 𝔾} → IsDigit d → StepEntry F (suc n) d z → Within z (pos 9 *ℤ two (F - 2 - suc n))
entry_short F n fits {z} t e = let p = entry_size F n fits t e in record {
  sign = nonneg_pos (9 * 2 ^ (F - 2 - suc n));
  size = lin (z.re ∷ z.im ∷ two (F - 2 - suc n) ∷ []) (size_sq p.0 & size_sq p.1 & nonneg_sq (two (F - 2 - suc n)) & none)
      (search reify depth 20) tt;
}
