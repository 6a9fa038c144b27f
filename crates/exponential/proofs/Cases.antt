-- The limits, and what the reduction leaves, by 01's and 02's numbers (crate edges has the P cases).
use mathlib.Core.Path.{◌≡◌, refl}
use mathlib.Core.List.{[], ◌∷◌}
use Prim.Native.Nat.{ℕ, ◌+◌, ◌*◌}
use native.Mathlib.Omega.{arith}
use lib.IntN.{ℤ, pos, negsuc, ◌*ℤ◌}
use Rattle.algebra.specs.Gauss.{𝔾}
use Rattle.algebra.specs.Size.{Size}
use Rattle.algebra.proofs.Reify.{reify}
use Rattle.algebra.proofs.Linear.{lin, ◌&◌, none}
use Rattle.algebra.proofs.Inequality.{below_next}
use Rattle.word.specs.Compare.{between}
use Rattle.point.specs.Limits.{in_steps, in_box, in_parts}
use Rattle.table_numbers.specs.Numbers48.{constants48}
use Rattle.table_numbers.proofs.Promise48.{constants_promise}
use Rattle.exponential.specs.Reduction.{in_rectangle, in_reach, left_over}
use Rattle.exponential.proofs.Reduced.{left_re, left_im}

by_numbers : (n : ℤ) (e s : 𝔾) →
    (in_steps 48 1 n ≡ between (pos 1) (pos 40) n)
    × (in_rectangle 48 e ≡ in_box (negsuc 233096465088511) (pos 241892558110720) (negsuc 206708186021887) (pos 206708186021888) e)
    × (in_reach 48 e ≡ in_box (negsuc 2251799813685247) (pos 2251799813685248) (negsuc 2251799813685247) (pos 2251799813685248) e)
    × (in_parts 48 s ≡ in_box (negsuc 288230376151711743) (pos 288230376151711744) (negsuc 288230376151711743) (pos 288230376151711744) s)
unfolding in_steps in_rectangle in_reach in_parts
by_numbers n e s = (refl, refl, refl, refl)

-- 2·x is at most 2·b + 1, so x is at most b
half : (x : ℤ) (b : ℕ) → Size (pos 2 *ℤ x) (pos (2 * b + 1)) → Size x (pos b)
half x b h = record {
  lo = below_next (pos 2) (record { le = tt }) (lin (x ∷ pos b ∷ []) (h.lo & none) (search reify depth 20) tt);
  hi = below_next (pos 2) (record { le = tt }) (lin (x ∷ pos b ∷ []) (h.hi & none) (search reify depth 20) tt);
}

-- what is left of an exponent: half of ln 2 and an eighth of pi at most
left_by_numbers : (e : 𝔾) → Size (left_over constants48 e).re (pos 97551793252583) × Size (left_over constants48 e).im (pos 110534964875444)
unfolding constants48
left_by_numbers e = let r = left_over constants48 e in (
  half r.re 97551793252583 (left_re 48 (omega arith) constants48 constants_promise e),
  half r.im 110534964875444 (left_im 48 (omega arith) constants48 constants_promise e),
)
