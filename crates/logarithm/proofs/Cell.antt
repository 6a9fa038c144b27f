-- The reciprocal of the cell (the "seat" of 01, LOG): every scaled point has its cell, and multiplied by the cell's reciprocal "it then
-- lies within 7/64 of one in each part": one computed test over the 256 cells.
use mathlib.Core.Path.{◌≡◌, sym, ◌∙◌}
use mathlib.Core.List.{List, [], ◌∷◌}
use mathlib.Core.Bool.{Bool}
use Prim.Native.Nat.{ℕ, ◌-◌, ◌≤◌}
use native.Mathlib.Omega.{arith}
use lib.Dec.{T, lit<}
use lib.IntN.{ℤ, pos, negsuc, neg_ℤ, ◌+ℤ◌, ◌-ℤ◌, ◌*ℤ◌}
use lib.Signed.{shr_z}
use Rattle.algebra.specs.Gauss.{𝔾, ιᵍ, negᵍ, ◌+ᵍ◌, ◌-ᵍ◌, ◌*ᵍ◌, N, two, twoᵍ}
use Rattle.algebra.specs.Order.{◌⩽◌}
use Rattle.algebra.specs.Rounding.{nearest, floorᵍ}
use Rattle.algebra.specs.Size.{Parts}
use Rattle.algebra.proofs.Integer.{ℤR}
use Rattle.algebra.proofs.Reify.{ring!, reify}
use Rattle.algebra.proofs.Order.{nonneg_mul, nonneg_pos, sub_nonneg}
use Rattle.algebra.proofs.Linear.{lin, ◌&◌, ◌&≡◌, none}
use Rattle.algebra.proofs.Inequality.{below_next}
use Rattle.algebra.proofs.Test.{all}
use Rattle.algebra.proofs.Range.{les, Les, les_say, all_from}
use Rattle.algebra.proofs.Power.{two_pos, two_whole, two_mono}
use Rattle.algebra.proofs.Floor.{floor_lo, floor_hi, floor_unique}
use Rattle.algebra.proofs.Parts.{parts_floor, within_parts}
use Rattle.table_numbers.specs.Reciprocal.{reciprocal, centre, InTable}
use Rattle.logarithm.specs.Reduction.{side, column, row, reciprocal_of, reduced}
use Rattle.logarithm.proofs.Scale.{Scaled}

-- "a cell owns its lower edges": no other cell holds the point
module _ (F : ℕ) (p : 𝔾) (m : ℤ) where
  pub column_unique : pos (side F) *ℤ m ⩽ p.re → p.re +ℤ pos 1 ⩽ pos (side F) *ℤ m +ℤ pos (side F) → column F p ≡ m
  unfolding column
  column_unique lo hi = floor_unique (side F) (two_pos (F - 4)) p.re m lo hi

  pub row_unique : pos (side F) *ℤ m ⩽ p.im → p.im +ℤ pos 1 ⩽ pos (side F) *ℤ m +ℤ pos (side F) → row F p ≡ m
  unfolding row
  row_unique lo hi = floor_unique (side F) (two_pos (F - 4)) p.im m lo hi

-- the floor's error, times 64
pub reduced_error : (F : ℕ) (p : 𝔾) → Parts (reciprocal_of F p *ᵍ p -ᵍ ιᵍ (pos 64) *ᵍ reduced F p) (pos 64)
unfolding reduced
reduced_error F p = parts_floor 64 (lit< tt) (reciprocal_of F p *ᵍ p)

-- ---- the test
-- the least and the greatest of r + p s + q t on the square 0 ≤ s, t ≤ 1, at two of its corners
abbrev over : ℤ → ℤ
over (pos n) = pos n
over (negsuc n) = pos 0

abbrev under : ℤ → ℤ
under (pos n) = pos 0
under (negsuc n) = negsuc n

abbrev least : ℤ → ℤ → ℤ → ℤ
least r p q = r +ℤ under p +ℤ under q

abbrev greatest : ℤ → ℤ → ℤ → ℤ
greatest r p q = r +ℤ over p +ℤ over q

-- 64 times the product with a + ib, in sides of a cell, at the lower corner of the cell in column m and row n; a side on adds (a, b), one
-- up (−b, a)
abbrev corner_x : ℤ → ℤ → 𝔾 → ℤ
corner_x m n c = c.re *ℤ m -ℤ c.im *ℤ n

abbrev corner_y : ℤ → ℤ → 𝔾 → ℤ
corner_y m n c = c.re *ℤ n +ℤ c.im *ℤ m

-- one is 64 · 16 such sides, and 7/64 of one are 7 · 16: from 57 · 16 + 1 to 71 · 16, and at most 7 · 16 − 1 in size (less by one where the
-- floor pulls down); and the length of the reciprocal
record Cell (m n : ℤ) (c : 𝔾) : Type 0 where
  left : pos 913 ⩽ least (corner_x m n c) c.re (neg_ℤ c.im)
  right : greatest (corner_x m n c) c.re (neg_ℤ c.im) ⩽ pos 1136
  low : negsuc 110 ⩽ least (corner_y m n c) c.im c.re
  high : greatest (corner_y m n c) c.im c.re ⩽ pos 111
  size : N c ⩽ pos 15200

abbrev facts : ℤ → ℤ → 𝔾 → List (ℤ × ℤ)
facts m n c = (pos 913, least (corner_x m n c) c.re (neg_ℤ c.im)) ∷ (greatest (corner_x m n c) c.re (neg_ℤ c.im), pos 1136)
    ∷ (negsuc 110, least (corner_y m n c) c.im c.re) ∷ (greatest (corner_y m n c) c.im c.re, pos 111) ∷ (N c, pos 15200) ∷ []

abbrev cell_ok : ℤ → ℤ → Bool
unfolding reciprocal nearest
cell_ok m n = les (facts m n (reciprocal (centre m) (centre n)))

-- all 256 cells
cells_ok : T (all 8 (λ i. all 32 (λ j. cell_ok (pos 8 +ℤ pos i) (negsuc 15 +ℤ pos j))))
unfolding cell_ok reciprocal nearest
cells_ok = tt

cell_law : (m n : ℤ) → InTable m n → Cell m n (reciprocal (centre m) (centre n))
unfolding cell_ok
cell_law m n i = record { left = f.0; right = f.1.0; low = f.1.1.0; high = f.1.1.1.0; size = f.1.1.1.1.0 }
  where
    f : Les (facts m n (reciprocal (centre m) (centre n)))
    f = les_say (facts m n (reciprocal (centre m) (centre n)))
        (all_from (negsuc 15) 32 (λ n. cell_ok m n) (all_from (pos 8) 8 (λ m. all 32 (λ j. cell_ok m (negsuc 15 +ℤ pos j))) cells_ok m
        i.left i.right) n
        i.low i.high)

-- ---- inside a cell: k r + p s + q t, 0 ≤ s, t ≤ k
over_times : (p s k : ℤ) → pos 0 ⩽ s → s ⩽ k → p *ℤ s ⩽ over p *ℤ k
over_times (pos n) s k s≥0 s≤k = lin (pos n ∷ s ∷ k ∷ []) (nonneg_mul (nonneg_pos n) (sub_nonneg s≤k) & none) (search reify depth 20) tt
over_times (negsuc n) s k s≥0 s≤k = lin (pos n ∷ s ∷ k ∷ []) (nonneg_mul (nonneg_pos n) s≥0 & s≥0 & none) (search reify depth 20) tt

under_times : (p s k : ℤ) → pos 0 ⩽ s → s ⩽ k → under p *ℤ k ⩽ p *ℤ s
under_times (pos n) s k s≥0 s≤k = lin (pos n ∷ s ∷ k ∷ []) (nonneg_mul (nonneg_pos n) s≥0 & none) (search reify depth 20) tt
under_times (negsuc n) s k s≥0 s≤k = lin (pos n ∷ s ∷ k ∷ []) (nonneg_mul (nonneg_pos n) (sub_nonneg s≤k) & s≤k & none)
    (search reify depth 20) tt

module _ (r p q k s t : ℤ) (k≥0 : pos 0 ⩽ k) (s≥0 : pos 0 ⩽ s) (s≤k : s ⩽ k) (t≥0 : pos 0 ⩽ t) (t≤k : t ⩽ k) where
  inside_lo : (lo : ℤ) → lo ⩽ least r p q → k *ℤ lo ⩽ k *ℤ r +ℤ p *ℤ s +ℤ q *ℤ t
  inside_lo lo h = lin (lo ∷ r ∷ p ∷ q ∷ k ∷ s ∷ t ∷ under p ∷ under q ∷ [])
      (nonneg_mul k≥0 (sub_nonneg h) & under_times p s k s≥0 s≤k & under_times q t k t≥0 t≤k & none) (search reify depth 20) tt

  inside_hi : (hi : ℤ) → greatest r p q ⩽ hi → k *ℤ r +ℤ p *ℤ s +ℤ q *ℤ t ⩽ k *ℤ hi
  inside_hi hi h = lin (hi ∷ r ∷ p ∷ q ∷ k ∷ s ∷ t ∷ over p ∷ over q ∷ [])
      (nonneg_mul k≥0 (sub_nonneg h) & over_times p s k s≥0 s≤k & over_times q t k t≥0 t≤k & none) (search reify depth 20) tt

-- ---- a scaled point: its cell, and where it is brought
module _ (F : ℕ) (wide : 10 ≤ F) (p : 𝔾) (h : Scaled (two F) p) where
  k : ℤ
  k = pos (side F)

  one_is : two F ≡ k *ℤ pos 16
  unfolding k
  one_is = whole ∙ ring! ℤR (pos (side F) ∷ []) (search reify depth 20) tt
    where
      whole : two F ≡ pos 16 *ℤ pos (side F)
      whole = sym (two_whole 4 F (omega arith))

  k≥64 : pos 64 ⩽ k
  unfolding k
  k≥64 = two_mono 6 (F - 4) (omega arith)

  k≥1 : pos 1 ⩽ k
  k≥1 = lin (k ∷ []) (k≥64 & none) (search reify depth 20) tt

  k≥0 : pos 0 ⩽ k
  k≥0 = lin (k ∷ []) (k≥64 & none) (search reify depth 20) tt

  m : ℤ
  m = column F p

  n : ℤ
  n = row F p

  m_lo : k *ℤ m ⩽ p.re
  unfolding k m column
  m_lo = floor_lo (side F) (two_pos (F - 4)) p.re

  m_hi : p.re +ℤ pos 1 ⩽ k *ℤ m +ℤ k
  unfolding k m column
  m_hi = floor_hi (side F) (two_pos (F - 4)) p.re

  n_lo : k *ℤ n ⩽ p.im
  unfolding k n row
  n_lo = floor_lo (side F) (two_pos (F - 4)) p.im

  n_hi : p.im +ℤ pos 1 ⩽ k *ℤ n +ℤ k
  unfolding k n row
  n_hi = floor_hi (side F) (two_pos (F - 4)) p.im

  -- every scaled point has its cell, one of the 256
  pub in_table : InTable (column F p) (row F p)
  unfolding m n
  in_table = record {
    left = below_next {a = pos 8} {b = m} k k≥1 (lin (k ∷ m ∷ p.re ∷ two F ∷ []) (m_hi & h.half & one_is &≡ none)
        (search reify depth 20) tt);
    right = lin (m ∷ []) (below_next {a = m} {b = pos 15} k k≥1 (lin (k ∷ m ∷ p.re ∷ two F ∷ []) (m_lo & h.below & one_is &≡ none)
        (search reify depth 20) tt)
        & none) (search reify depth 20) tt;
    low = below_next {a = negsuc 15} {b = n} k k≥1 (lin (k ∷ n ∷ p.re ∷ p.im ∷ two F ∷ []) (n_hi & h.below & h.lo & one_is &≡ none)
        (search reify depth 20) tt);
    high = lin (n ∷ []) (below_next {a = n} {b = pos 15} k k≥1
        (lin (k ∷ n ∷ p.re ∷ p.im ∷ two F ∷ []) (n_lo & h.below & h.hi & one_is &≡ none) (search reify depth 20) tt) & none)
        (search reify depth 20) tt;
  }

  here : Cell m n (reciprocal_of F p)
  unfolding m n
  here = cell_law (column F p) (row F p) in_table

  -- a² + b²
  pub reciprocal_size : N (reciprocal_of F p) ⩽ pos 15200
  reciprocal_size = here.size

  pub reciprocal_parts : Parts (reciprocal_of F p) (pos 124)
  reciprocal_parts = within_parts (record {
    sign = record { le = tt };
    size = lin (N (reciprocal_of F p) ∷ []) (here.size & none) (search reify depth 20) tt;
  })

  -- the product before the floor, for a + ib as the cell has it
  module _ (c : 𝔾) (e : Cell m n c) where
    s : ℤ
    s = p.re -ℤ k *ℤ m

    t : ℤ
    t = p.im -ℤ k *ℤ n

    s≥0 : pos 0 ⩽ s
    unfolding s
    s≥0 = sub_nonneg m_lo

    t≥0 : pos 0 ⩽ t
    unfolding t
    t≥0 = sub_nonneg n_lo

    s≤k : s ⩽ k
    unfolding s
    s≤k = lin (p.re ∷ k ∷ m ∷ []) (m_hi & none) (search reify depth 20) tt

    t≤k : t ⩽ k
    unfolding t
    t≤k = lin (p.im ∷ k ∷ n ∷ []) (n_hi & none) (search reify depth 20) tt

    z : 𝔾
    z = c *ᵍ p

    re_lo : k *ℤ pos 913 ⩽ z.re
    unfolding s t z ◌*ᵍ◌
    re_lo = lin (k ∷ m ∷ n ∷ p.re ∷ p.im ∷ c.re ∷ c.im ∷ [])
        (inside_lo (corner_x m n c) c.re (neg_ℤ c.im) k s t k≥0 s≥0 s≤k t≥0 t≤k (pos 913) e.left & none) (search reify depth 20) tt

    re_hi : z.re ⩽ k *ℤ pos 1136
    unfolding s t z ◌*ᵍ◌
    re_hi = lin (k ∷ m ∷ n ∷ p.re ∷ p.im ∷ c.re ∷ c.im ∷ [])
        (inside_hi (corner_x m n c) c.re (neg_ℤ c.im) k s t k≥0 s≥0 s≤k t≥0 t≤k (pos 1136) e.right & none) (search reify depth 20) tt

    im_lo : k *ℤ negsuc 110 ⩽ z.im
    unfolding s t z ◌*ᵍ◌
    im_lo = lin (k ∷ m ∷ n ∷ p.re ∷ p.im ∷ c.re ∷ c.im ∷ [])
        (inside_lo (corner_y m n c) c.im c.re k s t k≥0 s≥0 s≤k t≥0 t≤k (negsuc 110) e.low & none) (search reify depth 20) tt

    im_hi : z.im ⩽ k *ℤ pos 111
    unfolding s t z ◌*ᵍ◌
    im_hi = lin (k ∷ m ∷ n ∷ p.re ∷ p.im ∷ c.re ∷ c.im ∷ [])
        (inside_hi (corner_y m n c) c.im c.re k s t k≥0 s≥0 s≤k t≥0 t≤k (pos 111) e.high & none) (search reify depth 20) tt

    near : Parts (ιᵍ (pos 64) *ᵍ (floorᵍ z 64 -ᵍ twoᵍ F)) (pos 7 *ℤ two F)
    unfolding floorᵍ ιᵍ negᵍ ◌+ᵍ◌ ◌*ᵍ◌
    near = record {
      re = record {
        lo = lin (x ∷ y ∷ z.re ∷ k ∷ two F ∷ []) (floor_hi 64 (lit< tt) z.re & re_lo & one_is &≡ k≥64 & none)
            (search reify depth 20) tt;
        hi = lin (x ∷ y ∷ z.re ∷ k ∷ two F ∷ []) (floor_lo 64 (lit< tt) z.re & re_hi & one_is &≡ none) (search reify depth 20) tt;
      };
      im = record {
        lo = lin (x ∷ y ∷ z.im ∷ k ∷ two F ∷ []) (floor_hi 64 (lit< tt) z.im & im_lo & one_is &≡ k≥64 & none)
            (search reify depth 20) tt;
        hi = lin (x ∷ y ∷ z.im ∷ k ∷ two F ∷ []) (floor_lo 64 (lit< tt) z.im & im_hi & one_is &≡ k≥64 & none)
            (search reify depth 20) tt;
      };
    }
      where
        x : ℤ
        x = shr_z z.re 64

        y : ℤ
        y = shr_z z.im 64

  -- within 7/64 of one in each part
  pub reduced_near : Parts (ιᵍ (pos 64) *ᵍ (reduced F p -ᵍ twoᵍ F)) (pos 7 *ℤ two F)
  unfolding reduced z
  reduced_near = near (reciprocal_of F p) here
