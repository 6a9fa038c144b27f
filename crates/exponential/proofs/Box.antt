-- One step of a part of the exponent, by spans: the part lies in a box, two cuts divide it, the digit's window is taken off, and what is
-- left lies in the box of the next step. All spans are in 1/2048 of h, so that a step is a test of whole numbers.
use mathlib.Core.Path.{◌≡◌, ap}
use mathlib.Core.List.{List, [], ◌∷◌}
use lib.Dec.{T}
use lib.IntN.{ℤ, pos, negsuc, ◌+ℤ◌, ◌-ℤ◌, ◌*ℤ◌}
use lib.Signed.{le_z, le_z_yes}
use Rattle.algebra.specs.Order.{◌⩽◌, ◌⋖◌}
use Rattle.algebra.specs.Size.{abs}
use Rattle.algebra.proofs.Reify.{reify}
use Rattle.algebra.proofs.Order.{nonneg_mul, sub_nonneg}
use Rattle.algebra.proofs.Linear.{lin, lin<, ◌&◌, ◌&<◌, ◌&≡◌, none}
use Rattle.algebra.proofs.Parts.{abs_below}
use Rattle.table_numbers.specs.Window.{Span, Lies, Spans, pick}
use Rattle.iteration.proofs.Digits.{Cut, minus, nought, plus}

-- ---- the tests
-- one digit: what is in s, less what is in v, is in b; k is what two units come to
abbrev pub Fit : Span → Span → ℤ → Span → Type 0
Fit s v k b = T (le_z b.lo (pos 2 *ℤ (s.lo -ℤ v.hi -ℤ k))) × T (le_z (pos 2 *ℤ (s.hi -ℤ v.lo +ℤ k)) b.hi)

-- the box a below and above the cuts c
abbrev pub low : Span → Span → Span
low a c = record { lo = a.lo; hi = c.lo }

abbrev pub high : Span → Span → Span
high a c = record { lo = c.hi; hi = a.hi }

-- all three digits
abbrev pub Fits : Span → Span → Spans → ℤ → Span → Type 0
Fits a c v k b = Fit (low a c) v.minus k b × Fit c v.nought k b × Fit (high a c) v.plus k b

-- the span ends before 2·h
abbrev pub Inside : Span → Type 0
Inside s = T (le_z (negsuc 4094) s.lo) × T (le_z s.hi (pos 4095))

-- ---- what they show
-- h' is the h of the next step; k/2048 of h is two units or more
module _ (h h' k : ℤ) (half : h ≡ pos 2 *ℤ h') (sign : pos 0 ⩽ h) (two_units : pos 4096 ⩽ k *ℤ h) where
  -- one digit
  one : (s v b : Span) (e w : ℤ) → Fit s v k b → Lies (pos 0) s h e → Lies (pos 2) v h w → Lies (pos 0) b h' (e -ℤ w)
  one s v b e w t p q = record {
    low = lin ρ (nonneg_mul (sub_nonneg low') sign & p.low & q.high & two_units & ap (λ u. b.lo *ℤ u) half &≡ none)
        (search reify depth 20) tt;
    high = lin ρ (nonneg_mul (sub_nonneg high') sign & p.high & q.low & two_units & ap (λ u. b.hi *ℤ u) half &≡ none)
        (search reify depth 20) tt;
  }
    where
      ρ : List ℤ
      ρ = s.lo ∷ s.hi ∷ v.lo ∷ v.hi ∷ k ∷ b.lo ∷ b.hi ∷ h ∷ h' ∷ e ∷ w ∷ []

      low' : b.lo ⩽ pos 2 *ℤ (s.lo -ℤ v.hi -ℤ k)
      low' = le_z_yes t.0

      high' : pos 2 *ℤ (s.hi -ℤ v.lo +ℤ k) ⩽ b.hi
      high' = le_z_yes t.1

  -- any digit
  pub part : (a c : Span) (v : Spans) (b : Span) (lo hi e w d : ℤ) → Fits a c v k b → pos 2048 *ℤ lo ≡ c.lo *ℤ h →
      pos 2048 *ℤ hi ≡ c.hi *ℤ h → Cut lo hi e d →
      Lies (pos 0) a h e → Lies (pos 2) (pick v d) h w → Lies (pos 0) b h' (e -ℤ w)
  part a c v b lo hi e w d t cl ch (minus less) p q = one (low a c) v.minus b e w t.0
      (record { low = p.low; high = lin (c.lo ∷ h ∷ e ∷ lo ∷ []) (cl &≡ less &< none) (search reify depth 20) tt }) q
  part a c v b lo hi e w d t cl ch (nought from less) p q = one c v.nought b e w t.1
      (record {
        low = lin (c.lo ∷ h ∷ e ∷ lo ∷ []) (cl &≡ from & none) (search reify depth 20) tt;
        high = lin (c.hi ∷ h ∷ e ∷ hi ∷ []) (ch &≡ less &< none) (search reify depth 20) tt;
      }) q
  part a c v b lo hi e w d t cl ch (plus from) p q = one (high a c) v.plus b e w t.2
      (record { low = lin (c.hi ∷ h ∷ e ∷ hi ∷ []) (ch &≡ from & none) (search reify depth 20) tt; high = p.high }) q

-- below 2·h in size
pub ends : (s : Span) (h e : ℤ) → pos 1 ⩽ h → Inside s → Lies (pos 0) s h e → abs e ⋖ pos 2 *ℤ h
ends s h e g t p = abs_below
    (lin< (s.lo ∷ h ∷ e ∷ []) (nonneg_mul (sub_nonneg low') (sub_nonneg g) & low' & g & p.low & none) (search reify depth 20) tt)
    (lin< (s.hi ∷ h ∷ e ∷ []) (nonneg_mul (sub_nonneg high') (sub_nonneg g) & high' & g & p.high & none) (search reify depth 20) tt)
  where
    low' : negsuc 4094 ⩽ s.lo
    low' = le_z_yes t.0

    high' : s.hi ⩽ pos 4095
    high' = le_z_yes t.1
