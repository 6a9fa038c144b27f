-- Some patterns of bits and what they are read as, computed.
use Rattle.std.proofs.Common.{◌≡◌, ℕ, List, [], ◌∷◌, map, pos, negsuc, refl}
use lib.Ieee.{binary64, of_bits}
use Rattle.std.specs.Prelude.{ℤ, Option, Some, None}
use Rattle.doubles.specs.Units.{is_units, units_of}
use Rattle.doubles.specs.Code.{part_in}

pub record Case : Type 0 where
  pub pattern : ℕ
  pub read : Option ℤ

abbrev case : ℕ → Option ℤ → Case
case b p = record { pattern = b; read = p }

abbrev pub cases : List Case
cases =
    case 0x0000000000000000 (Some (pos 0))
    ∷ case 0x3ff0000000000000 (Some (pos 281474976710656))  -- one
    ∷ case 0xbcf0000000000000 (Some (negsuc 0))  -- minus one unit
    ∷ case 0x3ffffffffffffff0 (Some (pos 562949953421311))  -- 2^49 − 1 units
    ∷ case 0x4000000000000000 None  -- 2^49 units
    ∷ case 0xc000000000000000 None  -- minus 2^49 units
    ∷ case 0x3ce0000000000000 None  -- half a unit
    ∷ case 0x8000000000000000 None  -- minus zero
    ∷ case 0x7ff0000000000000 None  -- infinity
    ∷ case 0xfff0000000000000 None
    ∷ case 0x7ff8000000000000 None  -- not a number
    ∷ case 0x0000000000000001 None  -- the smallest double
    ∷ []

pub patterns_hold : map (λ (c : Case). part_in 48 (of_bits binary64 c.pattern)) cases ≡ map (λ (c : Case). c.read) cases
unfolding part_in is_units units_of of_bits
patterns_hold = refl
