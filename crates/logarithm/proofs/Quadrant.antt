-- The turn (01, LOG): "the one q .. and the one point w with point = i^q·w and −wx < wy ≤ wx", q as request E2 writes it. They exist and are
-- the only ones, the angle lies above −π and at most at π, and wx is the point's larger part in size.
use mathlib.Core.Path.{◌≡◌, refl, sym, ◌∙◌, ap, ap₂, subst}
use mathlib.Core.List.{[], ◌∷◌}
use mathlib.Core.Bool.{Bool, true, false, cond, ◌&&◌}
use mathlib.Core.Logic.{⊎_elim}
use Prim.Native.Nat.{ℕ, zero, suc, ◌<◌}
use native.Mathlib.Omega.{arith}
use lib.Dec.{lit<}
use borrow.Author.Tests.{ne_eqb}
use lib.IntN.{ℤ, pos, negsuc, neg_ℤ, ◌+ℤ◌, ◌-ℤ◌, ◌*ℤ◌}
use lib.Signed.{le_z}
use Rattle.algebra.specs.Gauss.{◌^ᵍ◌, 𝔾, gi, negᵍ, ◌*ᵍ◌, ιᵍ, iᵍ, conj}
use Rattle.algebra.specs.Order.{◌⩽◌, ◌⋖◌}
use Rattle.algebra.specs.Size.{Within, Size, Parts, larger}
use Rattle.algebra.proofs.Ring.{pw}
use Rattle.algebra.proofs.Integer.{ℤR}
use Rattle.algebra.proofs.Gauss.{gi_path, g_mul_assoc, g_mul_comm, g_mul_one}
use Rattle.algebra.proofs.Reify.{ring!, reify}
use Rattle.algebra.proofs.Order.{⩽_antisym, pos_inj_le, le_or_gt, tested, tested<}
use Rattle.algebra.proofs.Inequality.{neg_mono}
use Rattle.algebra.proofs.Linear.{lin, lin<, lin_false, ◌&◌, ◌&<◌, ◌&≡◌, none}
use Rattle.algebra.proofs.Within.{within_power}
use Rattle.algebra.proofs.Parts.{size_neg}
use Rattle.algebra.proofs.Larger.{larger_parts, larger_le}
use Rattle.logarithm.specs.Answer.{i^}
use Rattle.logarithm.specs.Reduction.{turn_back, turns_back, in_cone, quarters, turned, spelling, quadrant}
use Rattle.logarithm.specs.Code.{Cone}

-- ---- point = i^q · w
turn_i : (z : 𝔾) → iᵍ *ᵍ turn_back z ≡ z
unfolding ◌*ᵍ◌ turn_back
turn_i z = gi_path (ring! ℤR (z.re ∷ z.im ∷ []) (search reify depth 20) tt) (ring! ℤR (z.re ∷ z.im ∷ []) (search reify depth 20) tt)

i_turns_back : (m : ℕ) (z : 𝔾) → iᵍ ^ᵍ m *ᵍ turns_back m z ≡ z
unfolding turns_back ◌^ᵍ◌
i_turns_back zero z = g_mul_comm (ιᵍ (pos 1)) z ∙ g_mul_one z
i_turns_back (suc m) z = g_mul_assoc (iᵍ ^ᵍ m) iᵍ (turn_back (turns_back m z)) ∙ ap (λ t. iᵍ ^ᵍ m *ᵍ t) (turn_i (turns_back m z))
    ∙ i_turns_back m z

-- half a turn is written −2 where wy is above zero, else 2
half_spelled : (w : 𝔾) (P : ℤ → Type 0) → (pos 0 ⋖ w.im → P (neg_ℤ (pos 2))) → (w.im ⩽ pos 0 → P (pos 2)) → P (spelling 2 w)
unfolding spelling
half_spelled w P over under = tested< (λ t. P (cond t (neg_ℤ (pos 2)) (pos 2))) (pos 0) w.im over under

-- however it is spelled, q says as many quarter turns
pub spelling_law : (m : ℕ) (w : 𝔾) → i^ (spelling m w) ≡ iᵍ ^ᵍ m
unfolding spelling i^ ◌^ᵍ◌ ◌*ᵍ◌ negᵍ ιᵍ
spelling_law zero w = refl
spelling_law (suc zero) w = refl
spelling_law (suc (suc zero)) w = half_spelled w (λ q. i^ q ≡ iᵍ ^ᵍ 2) (λ _. refl) (λ _. refl)
spelling_law (suc (suc (suc zero))) w = refl
spelling_law (suc (suc (suc (suc m)))) w = rw (
  ne_eqb (suc (suc (suc (suc m)))) 3 (λ e. omega (arith, e)),
  ne_eqb (suc (suc (suc (suc m)))) 2 (λ e. omega (arith, e)),
)

pub point_is : (p : 𝔾) → i^ (quadrant p) *ᵍ turned p ≡ p
unfolding quadrant turned
point_is p = ap (λ t. t *ᵍ turned p) (spelling_law (quarters p) (turned p)) ∙ i_turns_back (quarters p) p

one_pw : (m : ℕ) → pw ℤR (pos 1) m ≡ pos 1
one_pw zero = refl
one_pw (suc m) = ap (λ t. t *ℤ pos 1) (one_pw m)

-- |i^q| ≤ 1
pub within_i : (p : 𝔾) → Within (i^ (quadrant p)) (pos 1)
unfolding quadrant
within_i p = subst (λ t. Within t (pos 1)) (sym (spelling_law (quarters p) (turned p)))
    (subst (λ t. Within (iᵍ ^ᵍ quarters p) t) (one_pw (quarters p))
    (within_power (record { sign = record { le = tt }; size = record { le = tt } }) (quarters p)))

-- ---- the cone
pub cone_pos : {w : 𝔾} → Cone w → pos 1 ⩽ w.re
cone_pos {w} h = lin (w.re ∷ w.im ∷ []) (h.lo &< h.hi & none) (search reify depth 20) tt

-- wy is at most wx in size
pub cone_parts : {w : 𝔾} → Cone w → Parts w w.re
cone_parts {w} h = record {
  re = record {
    lo = lin (w.re ∷ []) (cone_pos h & none) (search reify depth 20) tt;
    hi = lin (w.re ∷ []) none (search reify depth 20) tt;
  };
  im = record { lo = lin (w.re ∷ w.im ∷ []) (h.lo &< none) (search reify depth 20) tt; hi = h.hi };
}

cone_tested : (P : Bool → Type 0) (w : 𝔾) → (Cone w → P true) → ((Cone w → ⊥) → P false) → P (in_cone w)
cone_tested P w passed failed = tested< (λ t. P (t && le_z w.im w.re)) (neg_ℤ w.re) w.im
    (λ lo. tested P w.im w.re (λ hi. passed (record { lo = lo; hi = hi }))
    (λ g. failed (λ h. lin_false (w.re ∷ w.im ∷ []) (g & h.hi & none) (search reify depth 20) tt)))
    (λ g. failed (λ h. lin_false (w.re ∷ w.im ∷ []) (g & h.lo &< none) (search reify depth 20) tt))

passes : (w : 𝔾) (m n : ℕ) → Cone w → cond (in_cone w) m n ≡ m
passes w m n h = cone_tested (λ t. cond t m n ≡ m) w (λ _. refl) (λ o. absurd (o h))

fails : (w : 𝔾) (m n : ℕ) → (Cone w → ⊥) → cond (in_cone w) m n ≡ n
fails w m n h = cone_tested (λ t. cond t m n ≡ n) w (λ g. absurd (h g)) (λ _. refl)

-- the four cones have no point in common
apart : (x y : ℤ) → Cone (gi x y) → (Cone (gi y (neg_ℤ x)) → ⊥) × (Cone (gi (neg_ℤ x) (neg_ℤ y)) → ⊥)
    × (Cone (gi (neg_ℤ y) (neg_ℤ (neg_ℤ x))) → ⊥)
apart x y h = (
  λ g. lin_false (x ∷ y ∷ []) (h.lo &< h.hi & g.lo &< g.hi & none) (search reify depth 20) tt,
  λ g. lin_false (x ∷ y ∷ []) (h.lo &< h.hi & g.lo &< g.hi & none) (search reify depth 20) tt,
  λ g. lin_false (x ∷ y ∷ []) (h.lo &< h.hi & g.lo &< g.hi & none) (search reify depth 20) tt,
)

-- ---- the tests, one after the other
pub quarters_by : (p : 𝔾) {a b c : Bool} → in_cone p ≡ a → in_cone (turn_back p) ≡ b → in_cone (turn_back (turn_back p)) ≡ c →
    quarters p ≡ cond a 0 (cond b 1 (cond c 2 3))
unfolding quarters turns_back
quarters_by p f g h = λ i. cond (f i) 0 (cond (g i) 1 (cond (h i) 2 3))

pub turn_is : (p : 𝔾) (m : ℕ) → quarters p ≡ m → (quadrant p ≡ spelling m (turns_back m p)) × (turned p ≡ turns_back m p)
unfolding quadrant turned
turn_is p m e = (ap (λ k. spelling k (turns_back k p)) e, ap (λ k. turns_back k p) e)

-- a quarter turn back by the two methods of a point
pub turn_back_is : (z : 𝔾) → conj (iᵍ *ᵍ conj z) ≡ turn_back z
unfolding conj turn_back ◌*ᵍ◌
turn_back_is z = gi_path (ring! ℤR (z.re ∷ z.im ∷ []) (search reify depth 20) tt)
    (ring! ℤR (z.re ∷ z.im ∷ []) (search reify depth 20) tt)

-- ---- uniqueness: of 0 to 3 it is the one number of turns whose w lies in the cone
pub quarters_unique : (p : 𝔾) (m : ℕ) → m < 4 → Cone (turns_back m p) → quarters p ≡ m
unfolding quarters turns_back turn_back
quarters_unique p zero l h = passes p 0 _ h
quarters_unique p (suc zero) l h = fails p 0 _ (λ g. (apart p.re p.im g).0 h) ∙ passes (turns_back 1 p) 1 _ h
quarters_unique p (suc (suc zero)) l h = fails p 0 _ (λ g. (apart p.re p.im g).1 h)
    ∙ fails (turns_back 1 p) 1 _ (λ g. (apart p.im (neg_ℤ p.re) g).0 h)
    ∙ passes (turns_back 2 p) 2 3 h
quarters_unique p (suc (suc (suc zero))) l h = fails p 0 _ (λ g. (apart p.re p.im g).2 h)
    ∙ fails (turns_back 1 p) 1 _ (λ g. (apart p.im (neg_ℤ p.re) g).1 h)
    ∙ fails (turns_back 2 p) 2 3 (λ g. (apart (neg_ℤ p.re) (neg_ℤ p.im) g).0 h)
quarters_unique p (suc (suc (suc (suc m)))) l h = absurd (omega arith)

turn_back_i : (z : 𝔾) → turn_back (iᵍ *ᵍ z) ≡ z
unfolding ◌*ᵍ◌ turn_back
turn_back_i z = gi_path (ring! ℤR (z.re ∷ z.im ∷ []) (search reify depth 20) tt)
    (ring! ℤR (z.re ∷ z.im ∷ []) (search reify depth 20) tt)

turns_back_i : (m : ℕ) (z : 𝔾) → turns_back m (iᵍ ^ᵍ m *ᵍ z) ≡ z
unfolding turns_back ◌^ᵍ◌
turns_back_i zero z = g_mul_comm (ιᵍ (pos 1)) z ∙ g_mul_one z
turns_back_i (suc m) z = ap (λ t. turn_back (turns_back m t)) (g_mul_assoc (iᵍ ^ᵍ m) iᵍ z) ∙ ap turn_back (turns_back_i m (iᵍ *ᵍ z))
    ∙ turn_back_i z

-- ---- the spelling (request E2): q is one of −2 to 2, 2 only with wy ≤ 0 and −2 only with wy > 0. The angle of w lies above −π/4, at most
-- at π/4, and has wy's sign, so q·π/2 and that angle together lie above −π and at most at π
pub record Spelled (q : ℤ) (w : 𝔾) : Type 0 where
  pub low : neg_ℤ (pos 2) ⩽ q
  pub high : q ⩽ pos 2
  pub at_most : q ≡ pos 2 → w.im ⩽ pos 0
  pub above : q ≡ neg_ℤ (pos 2) → pos 0 ⋖ w.im

-- less than half a turn has one spelling
less_spelled : (q : ℤ) (w : 𝔾) → neg_ℤ (pos 1) ⩽ q → q ⩽ pos 1 → Spelled q w
less_spelled q w lo hi = record {
  low = lin (q ∷ []) (lo & none) (search reify depth 20) tt;
  high = lin (q ∷ []) (hi & none) (search reify depth 20) tt;
  at_most = λ e. absurd (lin_false (q ∷ []) (hi & e &≡ none) (search reify depth 20) tt);
  above = λ e. absurd (lin_false (q ∷ []) (lo & e &≡ none) (search reify depth 20) tt);
}

-- half a turn has two
half_back : (w : 𝔾) → pos 0 ⋖ w.im → Spelled (neg_ℤ (pos 2)) w
half_back w over = record {
  low = record { le = tt };
  high = record { le = tt };
  at_most = λ e. absurd (lin_false [] (e &≡ none) (search reify depth 20) tt);
  above = λ _. over;
}

half_on : (w : 𝔾) → w.im ⩽ pos 0 → Spelled (pos 2) w
half_on w under = record {
  low = record { le = tt };
  high = record { le = tt };
  at_most = λ _. under;
  above = λ e. absurd (lin_false [] (e &≡ none) (search reify depth 20) tt);
}

-- every number of quarter turns is spelled so
spelled : (m : ℕ) (w : 𝔾) → m < 4 → Spelled (spelling m w) w
unfolding spelling
spelled zero w l = less_spelled (pos 0) w (record { le = tt }) (record { le = tt })
spelled (suc zero) w l = less_spelled (pos 1) w (record { le = tt }) (record { le = tt })
spelled (suc (suc zero)) w l = half_spelled w (λ q. Spelled q w) (half_back w) (half_on w)
spelled (suc (suc (suc zero))) w l = less_spelled (neg_ℤ (pos 1)) w (record { le = tt }) (record { le = tt })
spelled (suc (suc (suc (suc m)))) w l = absurd (omega arith)

-- and every q spelled so is that of a number of quarter turns
turns_of : (q : ℤ) (w : 𝔾) → Spelled q w → (m : ℕ) × (m < 4) × (spelling m w ≡ q)
unfolding spelling
turns_of (pos zero) w h = (0, lit< tt, refl)
turns_of (pos (suc zero)) w h = (1, lit< tt, refl)
turns_of (pos (suc (suc zero))) w h = (
  2,
  lit< tt,
  half_spelled w (λ q. q ≡ pos 2)
      (λ over. absurd (lin_false (w.im ∷ []) (over &< h.at_most refl & none) (search reify depth 20) tt)) (λ _. refl),
)
turns_of (pos (suc (suc (suc n)))) w h = let l = pos_inj_le h.high in absurd (omega (arith, l))
turns_of (negsuc zero) w h = (3, lit< tt, refl)
turns_of (negsuc (suc zero)) w h = (
  2,
  lit< tt,
  half_spelled w (λ q. q ≡ negsuc 1) (λ _. refl)
      (λ under. absurd (lin_false (w.im ∷ []) (under & h.above refl &< none) (search reify depth 20) tt)),
)
turns_of (negsuc (suc (suc n))) w h = let l = pos_inj_le (neg_mono h.low) in absurd (omega (arith, l))

-- so the q and the w with point = i^q·w, w in the cone and q spelled by w are those of the definition
pub turn_unique : (p : 𝔾) (q : ℤ) (w : 𝔾) → Spelled q w → Cone w → p ≡ i^ q *ᵍ w → (quadrant p ≡ q) × (turned p ≡ w)
unfolding turned quadrant
turn_unique p q w s h e = (ap₂ spelling same found ∙ spells, found)
  where
    m : ℕ
    m = (turns_of q w s).0

    spells : spelling m w ≡ q
    spells = (turns_of q w s).2

    brought : turns_back m p ≡ w
    brought = ap (turns_back m) (e ∙ ap (λ t. t *ᵍ w) (ap i^ (sym spells) ∙ spelling_law m w)) ∙ turns_back_i m w

    same : quarters p ≡ m
    same = quarters_unique p m (turns_of q w s).1 (subst Cone (sym brought) h)

    found : turned p ≡ w
    found = ap (λ k. turns_back k p) same ∙ brought

-- "A point straight to the left keeps q = 2"
pub straight_left : (x : ℤ) → x ⋖ pos 0 → quadrant (gi x (pos 0)) ≡ pos 2
unfolding i^ ◌^ᵍ◌ ◌*ᵍ◌ ιᵍ
straight_left x h = (turn_unique (gi x (pos 0)) (pos 2) (gi (neg_ℤ x) (pos 0)) (half_on (gi (neg_ℤ x) (pos 0)) (record { le = tt }))
    (record {
      lo = lin< (x ∷ []) (h &< none) (search reify depth 20) tt;
      hi = lin (x ∷ []) (h &< none) (search reify depth 20) tt;
    })
    (gi_path (ring! ℤR (x ∷ []) (search reify depth 20) tt) (ring! ℤR (x ∷ []) (search reify depth 20) tt))
    ).0

-- ---- existence: a point but nought has its w in the cone, and q is spelled by it
pub turned_cone : (p : 𝔾) → pos 1 ⩽ larger p → Cone (turned p)
unfolding turned turns_back turn_back
turned_cone p nonzero = ⊎_elim
    (λ a. ⊎_elim (λ b. by 0 (lit< tt) (record { lo = lin< (x ∷ y ∷ []) (b & none) (search reify depth 20) tt; hi = a }))
    (λ b. ⊎_elim (λ c. by 3 (lit< tt) (record {
      lo = lin< (x ∷ y ∷ []) (c & none) (search reify depth 20) tt;
      hi = lin (x ∷ y ∷ []) (b & none)
          (search reify depth 20) tt;
    }))
    (λ c. by 2 (lit< tt) (record { lo = diagonal a b c; hi = lin (x ∷ y ∷ []) (c & none) (search reify depth 20) tt }))
    (le_or_gt (y +ℤ pos 1) x))
    (le_or_gt (pos 1 -ℤ x) y))
    (λ a. ⊎_elim (λ b. by 1 (lit< tt) (record { lo = lin< (x ∷ y ∷ []) (a & none) (search reify depth 20) tt; hi = b }))
    (λ b. by 2 (lit< tt) (record {
      lo = lin< (x ∷ y ∷ []) (b & none) (search reify depth 20) tt;
      hi = lin (x ∷ y ∷ []) (a & none) (search reify depth 20) tt;
    }))
    (le_or_gt (neg_ℤ x) y))
    (le_or_gt y x)
  where
    x : ℤ
    x = p.re

    y : ℤ
    y = p.im

    by : (m : ℕ) → m < 4 → Cone (turns_back m p) → Cone (turns_back (quarters p) p)
    by m l h = subst (λ k. Cone (turns_back k p)) (sym (quarters_unique p m l h)) h

    -- x = y ≤ 0, and nought has no logarithm
    diagonal : y ⩽ x → y +ℤ pos 1 ⩽ pos 1 -ℤ x → x +ℤ pos 1 ⩽ y +ℤ pos 1 → neg_ℤ (neg_ℤ x) ⋖ neg_ℤ y
    diagonal a b c = ⊎_elim (λ h. lin< (x ∷ y ∷ []) (h & none) (search reify depth 20) tt) (λ h. absurd (nought (zero h).0 (zero h).1))
        (le_or_gt (pos 1 +ℤ x) (neg_ℤ y))
      where
        nought : Size x (pos 0) → Size y (pos 0) → ⊥
        nought h g = lin_false (larger p ∷ []) (nonzero & larger_le {z = p} {b = pos 0} (record { re = h; im = g }) & none)
            (search reify depth 20) tt

        zero : neg_ℤ y +ℤ pos 1 ⩽ pos 1 +ℤ x → Size x (pos 0) × Size y (pos 0)
        zero h = (
          record {
            lo = lin (x ∷ y ∷ []) (a & b & c & h & none) (search reify depth 20) tt;
            hi = lin (x ∷ y ∷ []) (a & b & c & none) (search reify depth 20) tt;
          },
          record {
            lo = lin (x ∷ y ∷ []) (a & b & c & h & none) (search reify depth 20) tt;
            hi = lin (x ∷ y ∷ []) (a & b & c & none) (search reify depth 20) tt;
          },
        )

pub quarters_below : (p : 𝔾) → quarters p < 4
unfolding quarters
quarters_below p = go (in_cone (turns_back 0 p)) (in_cone (turns_back 1 p)) (in_cone (turns_back 2 p))
  where
    go : (a b c : Bool) → cond a 0 (cond b 1 (cond c 2 3)) < 4
    go true b c = lit< tt
    go false true c = lit< tt
    go false false true = lit< tt
    go false false false = lit< tt

pub turn_spelled : (p : 𝔾) → Spelled (quadrant p) (turned p)
unfolding quadrant
turn_spelled p = spelled (quarters p) (turned p) (quarters_below p)

-- ---- what the spelling is for: the angle is that of 000's logarithm. q·π/2 and the angle of w are not below nought where the point is on
-- the axis or above it, so they are at most π there, and a point straight to the left has π; below the axis they are below nought, above −π
pub record HalfTurn (p : 𝔾) (q : ℤ) : Type 0 where
  pub upper : pos 0 ⩽ p.im → pos 0 ⩽ q
  pub lower : p.im ⋖ pos 0 → q ⩽ pos 0

pub half_turn : (p : 𝔾) → pos 1 ⩽ larger p → HalfTurn p (quadrant p)
unfolding quadrant turned spelling turns_back turn_back
half_turn p nonzero = go (quarters p) (quarters_below p) (turned_cone p nonzero)
  where
    y : ℤ
    y = p.im

    go : (m : ℕ) → m < 4 → Cone (turns_back m p) → HalfTurn p (spelling m (turns_back m p))
    go zero l h = record { upper = λ _. record { le = tt }; lower = λ _. record { le = tt } }
    go (suc zero) l h = record {
      upper = λ _. record { le = tt };
      lower = λ g. absurd (lin_false (y ∷ []) (cone_pos h & g &< none) (search reify depth 20) tt);
    }
    go (suc (suc zero)) l h = record {
      upper = λ g. half_spelled (turns_back 2 p) (λ q. pos 0 ⩽ q)
          (λ over. absurd (lin_false (y ∷ []) (over &< g & none) (search reify depth 20) tt)) (λ _. record { le = tt });
      lower = λ g. half_spelled (turns_back 2 p) (λ q. q ⩽ pos 0) (λ _. record { le = tt })
          (λ under. absurd (lin_false (y ∷ []) (under & g &< none) (search reify depth 20) tt));
    }
    go (suc (suc (suc zero))) l h = record {
      upper = λ g. absurd (lin_false (y ∷ []) (cone_pos h & g & none) (search reify depth 20) tt);
      lower = λ _. record { le = tt };
    }
    go (suc (suc (suc (suc m)))) l h = absurd (omega arith)

-- ---- wx is M, the point's larger part in size
pub parts_turn_back : {z : 𝔾} {b : ℤ} → Parts z b → Parts (turn_back z) b
unfolding turn_back
parts_turn_back h = record { re = h.im; im = size_neg h.re }

parts_turns_back : (m : ℕ) {z : 𝔾} {b : ℤ} → Parts z b → Parts (turns_back m z) b
unfolding turns_back
parts_turns_back zero h = h
parts_turns_back (suc m) h = parts_turn_back (parts_turns_back m h)

parts_turned_back : {z : 𝔾} {b : ℤ} → Parts (turn_back z) b → Parts z b
unfolding turn_back
parts_turned_back {z} {b} h = record {
  re = record {
    lo = lin (z.re ∷ b ∷ []) (h.im.hi & none) (search reify depth 20) tt;
    hi = lin (z.re ∷ b ∷ []) (h.im.lo & none) (search reify depth 20) tt;
  };
  im = h.re;
}

parts_turned_backs : (m : ℕ) {z : 𝔾} {b : ℤ} → Parts (turns_back m z) b → Parts z b
unfolding turns_back
parts_turned_backs zero h = h
parts_turned_backs (suc m) h = parts_turned_backs m (parts_turned_back h)

pub turned_re : (p : 𝔾) → Cone (turned p) → (turned p).re ≡ larger p
unfolding turned
turned_re p h = ⩽_antisym (parts_turns_back (quarters p) (larger_parts p)).re.hi
    (larger_le (parts_turned_backs (quarters p) (cone_parts h)))
