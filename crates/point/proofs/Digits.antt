-- The parts of a digit: their size, and a test at each value.
use mathlib.Core.Bool.{Bool, ◌&&◌}
use lib.Dec.{T}
use lib.IntN.{ℤ, pos, negsuc}
use Rattle.algebra.specs.Gauss.{𝔾}
use Rattle.algebra.specs.Size.{Size, Parts}
use Rattle.algebra.proofs.Test.{and_left, and_right}
use Rattle.point.specs.Digit.{Trit, t-, t0, t+, IsDigit}

-- ---- at most one in size
pub trit_size : {d : ℤ} → Trit d → Size d (pos 1)
trit_size t- = record { lo = record { le = tt }; hi = record { le = tt } }
trit_size t0 = record { lo = record { le = tt }; hi = record { le = tt } }
trit_size t+ = record { lo = record { le = tt }; hi = record { le = tt } }

pub digit_parts : {d : 𝔾} → IsDigit d → Parts d (pos 1)
digit_parts t = record { re = trit_size t.x; im = trit_size t.y }

-- ---- a test at each value of a digit's part, and at each of the nine digits
abbrev pub trits : (ℤ → Bool) → Bool
trits f = f (negsuc 0) && (f (pos 0) && f (pos 1))

pub trits_at : (f : ℤ → Bool) → T (trits f) → {d : ℤ} → Trit d → T (f d)
trits_at f p t- = and_left (f (negsuc 0)) (f (pos 0) && f (pos 1)) p
trits_at f p t0 = and_left (f (pos 0)) (f (pos 1)) (and_right (f (negsuc 0)) (f (pos 0) && f (pos 1)) p)
trits_at f p t+ = and_right (f (pos 0)) (f (pos 1)) (and_right (f (negsuc 0)) (f (pos 0) && f (pos 1)) p)

abbrev pub nine : (ℤ → ℤ → Bool) → Bool
nine f = trits (λ dx. trits (λ dy. f dx dy))

pub nine_at : (f : ℤ → ℤ → Bool) → T (nine f) → {d : 𝔾} → IsDigit d → T (f d.re d.im)
nine_at f p {d} k = trits_at (λ dy. f d.re dy) (trits_at (λ dx. trits (λ dy. f dx dy)) p k.x) k.y
