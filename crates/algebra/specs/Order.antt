-- The order of ℤ, in symbols that bind looser than the sum.
use Rattle.std.specs.Prelude.{ℤ, ◌≤ℤ◌, ◌<ℤ◌}

infix 4 ◌⩽◌
abbrev pub ◌⩽◌ : ℤ → ℤ → Type 0
a ⩽ b = ◌≤ℤ◌ a b

infix 4 ◌⋖◌
abbrev pub ◌⋖◌ : ℤ → ℤ → Type 0
a ⋖ b = ◌<ℤ◌ a b
