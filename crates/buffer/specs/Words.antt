-- Numbers as bytes (01, Points and units: "signed 8-byte numbers, two's complement, low byte first").
use Rattle.std.specs.Prelude.{List, [], ◌∷◌, ◌++◌, ℕ, zero, suc, ◌/◌, ◌%◌, ℤ}
use Rattle.std.specs.Int.{w64, cast_unsigned}

-- the n low bytes of u, the lowest first
unfoldable pub bytes : ℕ → ℕ → List ℕ
bytes zero u = []
bytes (suc n) u = u % 256 ∷ bytes n (u / 256)

-- a signed number: the eight bytes of its two's complement
abbrev pub signed_bytes : ℤ → List ℕ
signed_bytes z = bytes 8 (cast_unsigned w64 z)

-- several in a row
unfoldable pub encode : List ℤ → List ℕ
encode [] = []
encode (z ∷ zs) = signed_bytes z ++ encode zs
