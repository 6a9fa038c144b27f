-- Only the contracts of private functions cite this: what the tests of an input say, and what the reduction's division asks.
use Rattle.std.specs.Prelude.{◌≡◌, true, ℕ, ℤ, pos, ◌*ℤ◌, Result, Err, MatchResult}
use Rattle.algebra.specs.Gauss.{𝔾, two}
use Rattle.algebra.specs.Order.{◌⩽◌}
use Rattle.algebra.specs.Size.{Size}
use Rattle.point.specs.Limits.{in_steps, in_parts}
use Rattle.answer.specs.declared.Refusal.{Refusal}
use Rattle.answer.specs.Answer.{Answer}
use Rattle.exponential.specs.Reduction.{in_reach}
use Rattle.exponential.specs.Answer.{unless_refused}

-- an input that meets no refusal
pub record Accepted (F : ℕ) (n : ℤ) (e s : 𝔾) : Type 0 where
  pub steps : in_steps F 1 n ≡ true
  pub reach : in_reach F e ≡ true
  pub start : in_parts F s ≡ true

-- tests that are right: what fails them is refused, whatever else would be answered
abbrev pub Right : ℕ → ℤ → 𝔾 → 𝔾 → Result (Unit {0}) Refusal → Type 0
Right F n e s r = MatchResult r (λ _. Accepted F n e s) (λ x. (a : Answer) → unless_refused F n e s a ≡ Err x)

-- x is at most 16 m in size
pub record NearestPre (x m : ℤ) : Type 0 where
  pub least : pos 1 ⩽ m
  pub most : m ⩽ two 48
  pub few : Size x (pos 16 *ℤ m)
