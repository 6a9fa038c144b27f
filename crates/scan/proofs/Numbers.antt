-- The reader's way through fields that are numbers: those that are read, behind them those to read.
use Rattle.std.proofs.Common.{SFits, w64, get_or, lit<, zero, ◌≡◌, ℕ, suc, ◌+◌, ◌<◌, ◌≤◌, ltb, ltb-true, ltb-false, Bool, false, cond, List, [], ◌∷◌, ◌++◌, length, take, drop, set, ℤ, pos, sym, refl, ap, ◌∙◌, append-nil, add-one, arith, drop_of_length-le, take_all, drop-cons, take-suc-set, drop-set-lt, Option, Some, None, is_some}
use lib.Seq.{slice, split_at, append_snoc}
use Rattle.algebra.proofs.Test.{either}
use Rattle.scan.specs.Decimal.{read_number}
use Rattle.scan.specs.Fields.{fields_at}
use Rattle.scan.specs.Numbers.{in_front, numbers, put_first, stored}
use Rattle.word.proofs.Fits.{sfits_pos}
use Rattle.scan.proofs.Find.{Ended}
use Rattle.scan.proofs.Read.{number_is}
use Rattle.scan.proofs.Fields.{no_field, first_field, some_field}

-- ---- numbers that are there stand where they are stored
one_more : (n : Option ℤ) (old rest : List ℤ) (ns : Option (List ℤ)) → ns ≡ cond (is_some ns) (Some rest) None →
    in_front n ns ≡ cond (is_some (in_front n ns)) (Some (put_first n old rest)) None
one_more None old rest ns e = refl
one_more (Some z) old rest None e = refl
one_more (Some z) old rest (Some zs) e = cc

numbers_stored : (into : List ℤ) (fs : List (List ℕ)) →
    numbers (length into) fs ≡ cond (is_some (numbers (length into) fs)) (Some (stored into fs)) None
unfolding numbers stored
numbers_stored [] [] = refl
numbers_stored [] (f ∷ fs) = refl
numbers_stored (x ∷ xs) [] = refl
numbers_stored (x ∷ xs) (f ∷ fs) = one_more (read_number f) (x ∷ xs) (stored xs fs) (numbers (length xs) fs) (numbers_stored xs fs)

-- for the caller
pub numbers_read : (into : List ℤ) (fs : List (List ℕ)) {r : Bool} {new : List ℤ} →
    (r ≡ is_some (numbers (length into) fs)) × (new ≡ stored into fs) → numbers (length into) fs ≡ cond r (Some new) None
numbers_read into fs p = rw (p.0, p.1) (numbers_stored into fs)

-- and each of them fits
pub numbers_fit : (n : ℕ) (fs : List (List ℕ)) (zs : List ℤ) → numbers n fs ≡ Some zs → (i : ℕ) → SFits w64 (get_or zs i (pos 0))
unfolding numbers
numbers_fit zero [] zs e i = let k : zs ≡ [] = cc in rw k (sfits_pos (lit< tt))
numbers_fit zero (f ∷ fs) zs e i = cc
numbers_fit (suc n) [] zs e i = cc
numbers_fit (suc n) (f ∷ fs) zs e i = go (read_number f) (numbers n fs) refl (λ ys k. numbers_fit n fs ys k) e i
  where
    go : (r : Option ℤ) (ns : Option (List ℤ)) → read_number f ≡ r → ((ys : List ℤ) → ns ≡ Some ys → (i : ℕ) → SFits w64 (get_or ys i (pos 0))) →
        in_front r ns ≡ Some zs → (i : ℕ) → SFits w64 (get_or zs i (pos 0))
    go None ns r h e i = cc
    go (Some z) None r h e i = cc
    go (Some z) (Some ys) r h e zero = let k : zs ≡ z ∷ ys = cc in rw k (number_is f z r).fits
    go (Some z) (Some ys) r h e (suc i) = let k : zs ≡ z ∷ ys = cc in rw k (h ys refl i)

-- ---- what comes of a list with i numbers read, by the fields that are left
unfoldable pub outcome : List ℤ → ℕ → List (List ℕ) → Bool × List ℤ
outcome into i fs = (is_some (numbers (length (drop i into)) fs), take i into ++ stored (drop i into) fs)

-- as the contract says it
pub comes : (into : List ℤ) (fs : List (List ℕ)) {o : Bool × List ℤ} {r : Bool} {new : List ℤ} → o ≡ outcome into 0 fs → o ≡ (r, new) →
    (r ≡ is_some (numbers (length into) fs)) × (new ≡ stored into fs)
unfolding outcome
comes into fs h e = let p = sym e ∙ h in (ap (λ p. p.0) p, ap (λ p. p.1) p)

there_front : (z : ℤ) (ns : Option (List ℤ)) → is_some (in_front (Some z) ns) ≡ is_some ns
there_front z None = refl
there_front z (Some zs) = refl

module _ (l : List ℕ) (into : List ℤ) (i next : ℕ) where
  -- ---- with i numbers read
  module _ (h : i < length into) where
    pub field_missing : length l < next → outcome into i (fields_at l next) ≡ (false, into)
    unfolding outcome numbers stored
    field_missing k = rw (no_field l next k, drop-cons into i (pos 0) h) (ap (λ t. (false, t)) (sym (split_at into i (pos 0) h)))

    module _ (k : next ≤ length l) (e : ℕ) (f : Ended 9 l next e) where
      pub not_number : read_number (slice next e l) ≡ None → outcome into i (fields_at l next) ≡ (false, into)
      unfolding outcome numbers stored
      not_number n = rw (first_field k f, drop-cons into i (pos 0) h, n) (ap (λ t. (false, t)) (sym (split_at into i (pos 0) h)))

      -- the number goes to its place
      pub number_stored : (z : ℤ) → read_number (slice next e l) ≡ Some z →
          outcome into i (fields_at l next) ≡ outcome (set into i z) (i + 1) (fields_at l (e + 1))
      unfolding outcome numbers stored
      number_stored z n =
          let j : i < suc i = omega arith in
          rw (
            add-one i,
            take-suc-set into i z h,
            drop-set-lt (suc i) into i z j,
            first_field k f,
            drop-cons into i (pos 0) h,
            n,
            there_front,
            append_snoc,
          )

  -- ---- all read: no field more
  pub all_read : length into ≤ i → outcome into i (fields_at l next) ≡ (ltb (length l) next, into)
  unfolding outcome numbers stored
  all_read h = either (ltb (length l) next)
      (λ e. rw (no_field l next (ltb-true _ _ e), e, drop_of_length-le into h, take_all i into h, append-nil into))
      (λ e. let f = some_field l next (ltb-false _ _ e) in rw (f.is, e, drop_of_length-le into h, take_all i into h, append-nil into))
