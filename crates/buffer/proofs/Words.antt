-- Numbers of eight bytes: how many bytes they are, one number after the other, and that they are read back.
use mathlib.Core.Path.{◌≡◌, refl, sym, ap, ◌∙◌}
use mathlib.Core.List.{List, [], ◌∷◌, ◌++◌, append_assoc, append-nil}
use Prim.Native.Nat.{ℕ, zero, suc, ◌+◌, ◌*◌, ◌/◌, ◌%◌, ◌^◌, ◌<◌}
use native.Mathlib.Omega.{arith}
use native.Mathlib.Nat.{pow-suc, pow-zero, div-add-mod, div-lt_iff_lt-mul, div-div-eq-div-mul}
use lib.Dec.{lit<}
use lib.ListN.{length, get_or, take, length-append}
use lib.IntN.{ℤ, pos, negsuc}
use mir.Syntax.{w64}
use mir.Val.{SFits, to_z, of_z}
use mir.ValLaws.{of_z_fits}
use Rattle.std.specs.Int.{bytes_low_first, to_le_bytes}
use Rattle.std.proofs.lemmas.List.{take_more}
use Rattle.word.proofs.Fits.{back}
use Rattle.buffer.specs.Words.{bytes, signed_bytes, encode}

pub length_bytes : (n u : ℕ) → length (bytes n u) ≡ n
unfolding bytes
length_bytes zero u = refl
length_bytes (suc n) u = ap suc (length_bytes n (u / 256))

-- ---- the number of some bytes, the lowest first
unfoldable pub bytes_value : List ℕ → ℕ
bytes_value [] = 0
bytes_value (b ∷ bs) = b + 256 * bytes_value bs

pub value_bytes : (n u : ℕ) → u < 256 ^ n → bytes_value (bytes n u) ≡ u
unfolding bytes bytes_value
value_bytes zero u h = omega (arith, pow-zero 256)
value_bytes (suc n) u h = rw (value_bytes n (u / 256) ((div-lt_iff_lt-mul (lit< tt)).1 (rw pow-suc at h))) (omega (arith, div-add-mod u 256))

-- THE LAW: eight bytes of a signed number are read back
pub read_bytes : {z : ℤ} → SFits w64 z → to_z w64 (bytes_value (signed_bytes z)) ≡ z
read_bytes {z} f = ap (to_z w64) (value_bytes 8 (of_z w64 z) (of_z_fits w64 z f).fits) ∙ back f

-- ---- number by number
pub length_encode : (zs : List ℤ) → length (encode zs) ≡ 8 * length zs
unfolding encode
length_encode [] = refl
length_encode (z ∷ zs) = simp (length-append, length_bytes, length_encode zs) (omega arith)

joined : (xs ys : List ℤ) → encode (xs ++ ys) ≡ encode xs ++ encode ys
unfolding encode
joined [] ys = refl
joined (z ∷ zs) ys = ap (λ (l : List ℕ). signed_bytes z ++ l) (joined zs ys) ∙ sym (append_assoc (signed_bytes z) (encode zs) (encode ys))

single : (z : ℤ) → encode (z ∷ []) ≡ signed_bytes z
unfolding encode
single z = append-nil (signed_bytes z)

pub encode_more : (zs : List ℤ) (i : ℕ) → i < length zs → encode (take (i + 1) zs) ≡ encode (take i zs) ++ signed_bytes (get_or zs i (pos 0))
encode_more zs i h = rw (take_more zs i (pos 0) h, joined (take i zs)) (ap (λ (l : List ℕ). encode (take i zs) ++ l) (single (get_or zs i (pos 0))))

-- ---- std's eight bytes are these
next : (i u v : ℕ) → v ≡ u / 256 ^ i → v / 256 ≡ u / 256 ^ suc i
next i u v e = rw (e, div-div-eq-div-mul, pow-suc)

bytes_from : (k i u v : ℕ) → v ≡ u / 256 ^ i → bytes k v ≡ bytes_low_first i k u
unfolding bytes
bytes_from zero i u v e = refl
bytes_from (suc k) zero u v e = let d : v % 256 ≡ u % 256 = omega arith in cc (d, bytes_from k 1 u (v / 256) (next 0 u v e))
bytes_from (suc k) (suc i) u v e = cc (ap (λ (n : ℕ). n % 256) e, bytes_from k (suc (suc i)) u (v / 256) (next (suc i) u v e))

-- as a call of std's tells it
pub word_is : (z : ℤ) (bs : List ℕ) → SFits w64 z → bs ≡ to_le_bytes w64 (of_z w64 (to_z w64 (of_z w64 z))) → bs ≡ signed_bytes z
word_is z bs f e = e ∙ rw (back f) (sym (bytes_from 8 0 (of_z w64 z) (of_z w64 z) (omega arith)))

-- "two's complement, low byte first": 258 and −2
low_byte_first : encode (pos 258 ∷ negsuc 1 ∷ [])
    ≡ 2 ∷ 1 ∷ 0 ∷ 0 ∷ 0 ∷ 0 ∷ 0 ∷ 0 ∷ 254 ∷ 255 ∷ 255 ∷ 255 ∷ 255 ∷ 255 ∷ 255 ∷ 255 ∷ []
unfolding encode bytes
low_byte_first = refl
