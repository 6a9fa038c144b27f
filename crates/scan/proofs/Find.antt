-- Where a byte stands first: a mark ends a field, a newline a line.
use Rattle.std.proofs.Common.{take_all, ◌≡◌, Some, None, ℕ, zero, suc, ◌+◌, ◌-◌, ◌<◌, ◌≤◌, min, eqb, List, [], ◌∷◌, ◌++◌, length, get_or, take, drop, sym, refl, ap, ◌∙◌, add-one, arith, length-drop, take-append-drop, drop_of_length-le, length-take, length-take-le, get_or-drop, drop-cons, eq-eqb, ne_eqb, eqb-true}
use native.Mathlib.Nat.{zero-min, min-zero, suc-min-suc}
use Rattle.memchr.specs.Find.{IsFirstByte, is_byte}
use lib.Seq.{slice, take-nil, drop-append-le}
use borrow.Author.Tests.{eqb-false}
use Rattle.algebra.proofs.Test.{either}
use Rattle.scan.specs.Find.{before, find_byte}

-- ---- byte by byte
module _ (m : ℕ) (s : List ℕ) (i : ℕ) where
  pub found_here : i < length s → get_or s i 0 ≡ m → find_byte m s i ≡ i
  unfolding before
  found_here h e = rw (drop-cons s i 0 h, eq-eqb _ _ e) (omega arith)

  pub found_later : i < length s → (get_or s i 0 ≡ m → ⊥) → find_byte m s i ≡ find_byte m s (i + 1)
  unfolding before
  found_later h n = rw (add-one, drop-cons s i 0 h, ne_eqb _ _ n) (omega arith)

  pub found_none : length s ≤ i → find_byte m s i ≡ i
  unfolding before
  found_none h = rw (drop_of_length-le s h) (omega arith)

  pub passed : i < length s → (get_or s i 0 ≡ m → ⊥) → i < find_byte m s i
  passed h n = omega (arith, found_later h n)

-- ---- the library's search in the rest of a list
before_most : (m : ℕ) (l : List ℕ) → before m l ≤ length l
unfolding before
before_most m [] = omega arith
before_most m (c ∷ cs) = either (eqb c m) (λ e. rw e (omega arith)) (λ e. rw e (omega (arith, before_most m cs)))

module _ (m : ℕ) where
  -- no byte before i is m, and the one at i is, or there is none
  before_first : (l : List ℕ) (i : ℕ) → i ≤ length l → ((k : ℕ) → k < i → get_or l k 0 ≡ m → ⊥) → (i < length l → get_or l i 0 ≡ m) →
      before m l ≡ i
  unfolding before
  before_first [] i h n e = omega arith
  before_first (c ∷ cs) zero h n e = rw (eq-eqb c m (e (omega arith)))
  before_first (c ∷ cs) (suc i) h n e =
      let more = before_first cs i (omega arith) (λ k g. n (suc k) (omega arith)) (λ g. e (omega arith)) in
      rw (ne_eqb c m (n 0 (omega arith))) (ap suc more)

  module _ (s : List ℕ) (from : ℕ) (h : from ≤ length s) where
    all : take (length s - from) (drop from s) ≡ drop from s
    all = take_all (length s - from) (drop from s) (omega (arith, length-drop from s))

    pub place_found : {i : ℕ} → IsFirstByte (is_byte m) (take (length s - from) (drop from s)) (Some i) → from + i ≡ find_byte m s from
    place_found {i} f =
        let g = rw all at f in
        let here : before m (drop from s) ≡ i = before_first (drop from s) i (omega (arith, g.0.high))
        (λ k l e. g.0.before k (omega arith) l (eq-eqb _ _ e)) (λ l. eqb-true _ _ g.1) in
        omega arith

    pub place_none : IsFirstByte (is_byte m) (take (length s - from) (drop from s)) None → length s ≡ find_byte m s from
    place_none f =
        let g = rw all at f in
        let none : before m (drop from s) ≡ length (drop from s) = before_first (drop from s) (length (drop from s)) (omega arith)
        (λ k l e. g k (omega arith) l (eq-eqb _ _ e)) (λ l. absurd (omega (arith, l))) in
        omega (arith, length-drop from s)

-- ---- what lies up to it: bytes that are not m
abbrev pub Without : ℕ → List ℕ → Type 0
Without m [] = Unit {0}
Without m (c ∷ cs) = (c ≡ m → ⊥) × Without m cs

pub record Ended (m : ℕ) (s : List ℕ) (from r : ℕ) : Type 0 where
  pub low : from ≤ r
  pub high : r ≤ length s
  pub plain : Without m (slice from r s)
  pub mark : r < length s → get_or s r 0 ≡ m

before_plain : (m : ℕ) (l : List ℕ) → Without m (take (before m l) l)
unfolding before
before_plain m [] = tt
before_plain m (c ∷ cs) = either (eqb c m) (λ e. rw e tt) (λ e. rw e (eqb-false c m e, before_plain m cs))

before_mark : (m : ℕ) (l : List ℕ) → before m l < length l → get_or l (before m l) 0 ≡ m
unfolding before
before_mark m [] h = absurd (none h)
  where
    none : 0 < 0 → ⊥
    none h = omega arith
before_mark m (c ∷ cs) h =
    either (eqb c m) (λ e. rw e (eqb-true c m e)) (λ e. rw e (before_mark m cs (let k = rw e at h in omega arith)))

-- a mark that stands in the front of a list stands first in the list
pub before_take : (m n : ℕ) (l : List ℕ) → before m (take n l) < length (take n l) → before m l ≡ before m (take n l)
unfolding before
before_take m zero l h = absurd (none h)
  where
    none : 0 < 0 → ⊥
    none h = omega arith
before_take m (suc n) [] h = refl
before_take m (suc n) (c ∷ cs) h = either (eqb c m) (λ e. rw e) (λ e. rw e (ap suc (before_take m n cs (let k = rw e at h in omega arith))))

-- a part of a list, as the machine takes it
pub part_slice : (from to : ℕ) (s : List ℕ) → from ≤ to → take (to - from) (drop from s) ≡ slice from to s
part_slice zero to s h = let e : to - 0 ≡ to = omega arith in rw e
part_slice (suc from) zero s h = absurd (none h)
  where
    none : suc from ≤ 0 → ⊥
    none h = omega arith
part_slice (suc from) (suc to) [] h = take-nil (suc to - suc from)
part_slice (suc from) (suc to) (x ∷ s) h =
    let e : suc to - suc from ≡ to - from = omega arith in
    rw e (part_slice from to s (omega arith))

pub ended : {m : ℕ} {s : List ℕ} {from r : ℕ} → from ≤ length s → r ≡ find_byte m s from → Ended m s from r
ended {m} {s} {from} {r} h e =
    let l = drop from s in
    let low : from ≤ r = omega arith in
    let n : r - from ≡ before m l = omega arith in
    let most : before m l ≤ length s - from = rw length-drop at (before_most m l) in
    record {
      low = low;
      high = omega arith;
      plain = rw (← part_slice from r s low, n) (before_plain m l);
      mark = λ k. ap (λ (i : ℕ). get_or s i 0) e ∙ (sym (get_or-drop from s (before m l) 0) ∙ before_mark m l (rw length-drop (omega arith)));
    }

-- the list from `from` on, parted there
pub parted : {m : ℕ} {s : List ℕ} {from r : ℕ} → Ended m s from r → drop from s ≡ slice from r s ++ drop r s
parted {s = s} {from} {r} f =
    let n : from ≤ length (take r s) = rw (length-take-le r s f.high) f.low in
    ap (drop from) (sym (take-append-drop r s)) ∙ drop-append-le from (take r s) (drop r s) n

-- ---- a part that is cut to the list
take_cut : (n : ℕ) (l : List ℕ) → take (min n (length l)) l ≡ take n l
take_cut zero l = rw zero-min
take_cut (suc n) [] = rw min-zero
take_cut (suc n) (x ∷ l) = rw suc-min-suc (ap (◌∷◌ x) (take_cut n l))

drop_cut : (n : ℕ) (l : List ℕ) → drop (min n (length l)) l ≡ drop n l
drop_cut zero l = rw zero-min
drop_cut (suc n) [] = rw min-zero
drop_cut (suc n) (x ∷ l) = rw suc-min-suc (drop_cut n l)

-- from start up to end, which are from and to cut
pub record Cut (from to : ℕ) (s : List ℕ) (start end : ℕ) : Type 0 where
  pub same : slice start end s ≡ slice from to s
  pub low : start ≤ end
  pub high : end ≤ length s

pub cut : {from to : ℕ} {s : List ℕ} {start end : ℕ} → end ≡ min to (length s) → start ≡ min from end → Cut from to s start end
cut {from} {to} {s} {start} {end} e f = record {
  same = rw (f, e, take_cut to s, ← length-take to s) (drop_cut from (take to s));
  low = omega arith;
  high = omega arith;
}
