-- A field read in one pass: where its tab is, what its digits are worth, and its sign.
use Rattle.std.proofs.Common.{◌≡◌, ℕ, zero, suc, ◌+◌, ◌-◌, ◌^◌, ◌<◌, ◌≤◌, min, true, false, T, eqb, ltb, List, [], ◌∷◌, length, get_or, ℤ, pos, ◌-ℤ◌, ne_eqb, leb, leb-true, le-leb, Result, Ok, Err, OkIff, w64, SFits, sym, refl, ap, ◌∙◌, subst, arith, take_all, ltb-false, ltb-true, eqb-true, Option, Some, None, option_map}
use lib.Seq.{slice, length-slice}
use Rattle.std.specs.Result.{result_ok}
use Rattle.std.specs.declared.num.TryFromIntError.{TryFromIntError}
use borrow.Author.Tests.{eqb-false}
use Rattle.algebra.proofs.Test.{either}
use Rattle.word.proofs.Fits.{zero_sub, sfits_pos}
use Rattle.scan.specs.Decimal.{up_to, read_natural, read_number, plus, minus, value}
use Rattle.scan.specs.Find.{find_byte}
use Rattle.scan.specs.declared.Field.{Field}
use Rattle.scan.specs.Code.{ends_at, field_at, Worth}
use Rattle.scan.proofs.Find.{Without, Ended, ended, found_here, found_later, found_none, passed}
use Rattle.scan.proofs.Read.{natural_long, number_is}
use Rattle.scan.proofs.Joined.{number_without}
use Rattle.scan.proofs.Scan.{value_end, value_other, read_none, read_lead, read_zero, read_digits, number_none, number_minus, number_plus}

-- ---- where a field ends, and where it goes on
module _ (s : List ℕ) (i : ℕ) where
  pub ends_here : ends_at s i ≡ true → find_byte 9 s i ≡ i
  ends_here h =
      either (ltb i (length s)) (λ e. found_here 9 s i (ltb-true _ _ e) (eqb-true _ _ (rw e at h)))
      (λ e. found_none 9 s i (ltb-false _ _ e))

  pub goes_on : ends_at s i ≡ false → (i < length s) × (get_or s i 0 ≡ 9 → ⊥)
  goes_on h =
      either (ltb i (length s)) (λ e. (ltb-true _ _ e, eqb-false _ _ (rw e at h))) (λ e. absurd (none (rw e at h)))
    where
      none : true ≡ false → ⊥
      none e = subst T e tt

field : (s : List ℕ) (from : ℕ) → from ≤ length s → Ended 9 s from (find_byte 9 s from)
field s from h = ended h refl

-- ---- what is read at a place is what the part up to the tab reads as
abbrev pub part : List ℕ → ℕ → List ℕ
part s from = slice from (find_byte 9 s from) s

-- a value, and where it ends
abbrev with_end : {A : Type 0} → ℕ → Option A → Option (Field A)
with_end end o = option_map (λ v. record { value = v; end = end }) o

module _ {A : Type 0} (read : List ℕ → Option A) (s : List ℕ) (from : ℕ) where
  pub none_at : read (part s from) ≡ None → None ≡ field_at read s from
  unfolding field_at
  none_at e = rw e

  pub some_at : {v : A} {end : ℕ} → read (part s from) ≡ Some v → end ≡ find_byte 9 s from →
      Some (record { value = v; end = end }) ≡ field_at read s from
  unfolding field_at
  some_at e k = rw (e, k)

  pub at_none : None ≡ field_at read s from → read (part s from) ≡ None
  unfolding field_at
  at_none h = go (read (part s from)) (sym h)
    where
      go : (r : Option A) → with_end (find_byte 9 s from) r ≡ None → r ≡ None
      go None e = refl
      go (Some v) e = cc

  pub at_some : {f : Field A} → Some f ≡ field_at read s from → (read (part s from) ≡ Some f.value) × (f.end ≡ find_byte 9 s from)
  unfolding field_at
  at_some {f} h = go (read (part s from)) (sym h)
    where
      go : (r : Option A) → with_end (find_byte 9 s from) r ≡ Some f → (r ≡ Some f.value) × (f.end ≡ find_byte 9 s from)
      go None e = cc
      go (Some v) e =
          let k : ◌≡◌ {A = Field A} (record { value = v; end = find_byte 9 s from }) f = cc in
          (ap (λ (f : Field A). Some f.value) k, sym (ap (λ (f : Field A). f.end) k))

-- ---- a size
module _ (s : List ℕ) (from : ℕ) where
  pub size_none : find_byte 9 s from ≡ from → read_natural (part s from) ≡ None
  size_none e = read_none s from (find_byte 9 s from) (sym e)

  module _ (h : from < length s) (z : get_or s from 0 ≡ 48) where
    later : find_byte 9 s from ≡ find_byte 9 s (from + 1)
    later = found_later 9 s from h (λ e. omega arith)

    pub size_zero : ends_at s (from + 1) ≡ true → (read_natural (part s from) ≡ Some 0) × (from + 1 ≡ find_byte 9 s from)
    size_zero t =
        let e = later ∙ ends_here s (from + 1) t in (
          read_zero s from (find_byte 9 s from) (omega arith) (field s from (omega arith)).high z (omega arith),
          sym e,
        )

    pub size_lead : ends_at s (from + 1) ≡ false → read_natural (part s from) ≡ None
    size_lead t =
        let g = goes_on s (from + 1) t in
        let p = passed 9 s (from + 1) g.0 g.1 in
        let e = later in
        read_lead s from (find_byte 9 s from) (omega arith) (field s from (omega arith)).high z (omega arith)

-- ---- digits that are worth v, and do not begin with 0
module _ {s : List ℕ} {from to v end : ℕ} (h : from < length s) (n : get_or s from 0 ≡ 48 → ⊥) (w : Worth s from to v end) where
  abbrev tab : ℕ
  tab = find_byte 9 s from

  high : tab ≤ length s
  high = (field s from (omega arith)).high

  read : from < tab → read_natural (slice from tab s) ≡ up_to (2 ^ 63) (value v (slice end tab s))
  read k = read_digits s from tab k high n ∙ ap (up_to (2 ^ 63)) (sym w.same)

  pub worth_ended : ends_at s end ≡ true → (end ≡ from → ⊥) → (tab ≡ end) × (read_natural (slice from tab s) ≡ up_to (2 ^ 63) (Some v))
  worth_ended t k =
      let e : tab ≡ end = sym w.tab ∙ ends_here s end t in
      let low = w.low in
      (e, read (omega arith) ∙ ap (up_to (2 ^ 63)) (value_end s end tab v (sym e)))

  pub worth_broken : to ≡ from + min (length s - from) 19 → ends_at s end ≡ false → read_natural (slice from tab s) ≡ None
  worth_broken e t =
      let g = goes_on s end t in
      let p : end < tab = omega (arith, passed 9 s end g.0 g.1, w.tab) in
      let low = w.low in
      either (ltb end to) (λ l. read (omega arith) ∙ ap (up_to (2 ^ 63)) (value_other s end tab v p high (w.other (ltb-true _ _ l))))
      (λ l. natural_long (slice from tab s) (omega (arith, length-slice from tab s high, ltb-false end to l, g.0)))

-- ---- a number, by its sign
module _ (s : List ℕ) (from : ℕ) (h : from < length s) where
  pub minus_tab : get_or s from 0 ≡ 45 → find_byte 9 s from ≡ find_byte 9 s (from + 1)
  minus_tab m = found_later 9 s from h (λ e. omega arith)

  pub field_minus : get_or s from 0 ≡ 45 → read_number (part s from) ≡ minus (read_natural (part s (from + 1)))
  field_minus m =
      let e = minus_tab m in
      number_minus s from (find_byte 9 s from) (omega arith) (field s from (omega arith)).high m
      ∙ ap (λ (t : ℕ). minus (read_natural (slice (from + 1) t s))) e

  pub field_plus : (get_or s from 0 ≡ 45 → ⊥) → read_number (part s from) ≡ plus (read_natural (part s from))
  field_plus m =
      let t = find_byte 9 s from in
      either (eqb (get_or s from 0) 9)
      (λ e. let z = sym (found_here 9 s from h (eqb-true _ _ e)) in number_none s from t z ∙ sym (ap plus (read_none s from t z)))
      (λ e. number_plus s from t (passed 9 s from h (eqb-false _ _ e)) (field s from (omega arith)).high m)

pub minus_value : (v : ℕ) → (v ≡ 0 → ⊥) → minus (Some v) ≡ Some (pos 0 -ℤ pos v)
minus_value zero n = absurd (n refl)
minus_value (suc k) n = let e : suc k - 1 ≡ k = omega arith in rw (zero_sub, ne_eqb (suc k) 0 n, e)

-- a size that is converted
pub plus_ok : (r : Result ℤ TryFromIntError) (v : ℕ) {z : ℤ} → OkIff r (SFits w64 (pos v)) (pos v) → Some z ≡ result_ok r → plus (Some v) ≡ Some z
plus_ok (Ok x) v {z} h e =
    let k : z ≡ x = cc in
    rw (le-leb v (2 ^ 63 - 1) (omega (arith, h.0.sfits))) (ap Some (sym h.1 ∙ sym k))
plus_ok (Err x) v h e = cc

pub plus_err : (r : Result ℤ TryFromIntError) (v : ℕ) → OkIff r (SFits w64 (pos v)) (pos v) → None ≡ result_ok r → plus (Some v) ≡ None
plus_err (Ok x) v h e = cc
plus_err (Err x) v h e = either (leb v (2 ^ 63 - 1))
    (λ t. absurd (h (sfits_pos (omega (arith, leb-true v (2 ^ 63 - 1) t))))) (λ t. rw t)

pub field_none : (s : List ℕ) (from : ℕ) → length s ≤ from → read_number (part s from) ≡ None
field_none s from h = number_none s from (find_byte 9 s from) (sym (found_none 9 s from h))

-- ---- a whole list read as a field: with a tab in it, it is no number
without_at : (m : ℕ) (l : List ℕ) (k : ℕ) → Without m l → k < length l → get_or l k 0 ≡ m → ⊥
without_at m [] k w h e = omega arith
without_at m (c ∷ l) zero w h e = w.0 e
without_at m (c ∷ l) (suc k) w h e = without_at m l k w.1 (omega arith) e

number_tab : (l : List ℕ) (k : ℕ) → k < length l → get_or l k 0 ≡ 9 → read_number l ≡ None
number_tab l k h e = go (read_number l) refl
  where
    go : (n : Option ℤ) → read_number l ≡ n → n ≡ None
    go None r = refl
    go (Some z) r =
        let w : Without 9 l = rw (number_is l z r).written (number_without 9 z (omega arith)) in
        absurd (without_at 9 l k w h e)

-- a number that ends before the list does is followed by a tab
module _ (l : List ℕ) where
  whole : length l ≤ find_byte 9 l 0 → part l 0 ≡ l
  whole k = take_all (find_byte 9 l 0) l k

  parted : find_byte 9 l 0 < length l → read_number l ≡ None
  parted k = number_tab l (find_byte 9 l 0) k ((field l 0 (omega arith)).mark k)

  pub read_none_to_end : None ≡ field_at read_number l 0 → None ≡ read_number l
  read_none_to_end h =
      either (ltb (find_byte 9 l 0) (length l)) (λ t. sym (parted (ltb-true _ _ t)))
      (λ t. sym (ap read_number (sym (whole (ltb-false _ _ t))) ∙ at_none read_number l 0 h))

  module _ {f : Field ℤ} (h : Some f ≡ field_at read_number l 0) where
    pub read_to_end : length l ≤ f.end → Some f.value ≡ read_number l
    read_to_end k = let r = at_some read_number l 0 h in sym (ap read_number (sym (whole (omega (arith, r.1)))) ∙ r.0)

    pub read_not_to_end : f.end < length l → None ≡ read_number l
    read_not_to_end k = let r = at_some read_number l 0 h in sym (parted (omega (arith, r.1)))
