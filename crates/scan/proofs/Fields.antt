-- Bytes parted by a mark: the fields of a line, the lines of a sheet; and bytes compared with a word.
use Rattle.std.proofs.Common.{◌≡◌, nat_eq, ℕ, suc, ◌+◌, ◌<◌, ◌≤◌, true, T, eqb, ltb, List, [], ◌∷◌, ◌++◌, length, drop, take, min, ◌-◌, sym, refl, ap, ◌∙◌, subst, append_assoc, append-nil, add-one, arith, drop_of_length-le, drop-cons, ltb-false, ltb-true, le-ltb, lt-ltb, eq-eqb, ne_eqb, eqb-true}
use Rattle.std.specs.Cmp.Lexicographic.{pointwise}
use lib.Seq.{slice}
use Rattle.algebra.proofs.Test.{either}
use Rattle.scan.specs.Fields.{split, fields, fields_at, same_bytes}
use Rattle.scan.proofs.Find.{Without, Ended, parted, cut, part_slice}

-- ---- a field ends at the first tab, and the other fields begin behind it
split_plain : (m : ℕ) (xs ys p : List ℕ) → Without m xs → split m p (xs ++ ys) ≡ split m (p ++ xs) ys
unfolding split
split_plain m [] ys p w = rw append-nil
split_plain m (c ∷ xs) ys p w = rw (ne_eqb c m w.0) (split_plain m xs ys (p ++ c ∷ []) w.1 ∙ rw append_assoc)

pub field_parts : {l : List ℕ} {from r : ℕ} → Ended 9 l from r → fields (drop from l) ≡ slice from r l ∷ fields_at l (r + 1)
unfolding split
field_parts {l} {from} {r} f =
    ap fields (parted f) ∙ (split_plain 9 (slice from r l) (drop r l) [] f.plain
    ∙ either (ltb r (length l)) (λ e. at_mark (ltb-true r (length l) e)) (λ e. at_end (ltb-false r (length l) e)))
  where
    at_mark : r < length l → split 9 (slice from r l) (drop r l) ≡ slice from r l ∷ fields_at l (r + 1)
    at_mark h =
        let b : suc r ≤ length l = omega arith in
        rw (add-one, drop-cons l r 0 h, eq-eqb _ _ (f.mark h), le-ltb _ _ b)

    at_end : length l ≤ r → split 9 (slice from r l) (drop r l) ≡ slice from r l ∷ fields_at l (r + 1)
    at_end h =
        let b : length l < suc r = omega arith in
        rw (add-one, drop_of_length-le l h, lt-ltb _ _ b)

-- ---- the fields from a place on: none from behind the end, else one and the others
pub no_field : (l : List ℕ) (at : ℕ) → length l < at → fields_at l at ≡ []
no_field l at h = rw (lt-ltb _ _ h)

pub first_field : {l : List ℕ} {at e : ℕ} → at ≤ length l → Ended 9 l at e → fields_at l at ≡ slice at e l ∷ fields_at l (e + 1)
first_field {l} {at} h f = rw (le-ltb (length l) at h) (field_parts f)

pub record Field (fs : List (List ℕ)) : Type 0 where
  pub first : List ℕ
  pub others : List (List ℕ)
  pub is : fs ≡ first ∷ others

pub split_some : (m : ℕ) (p l : List ℕ) → Field (split m p l)
unfolding split
split_some m p [] = record { first = p; others = []; is = refl }
split_some m p (c ∷ cs) =
    either (eqb c m) (λ e. rw e (record { first = p; others = split m [] cs; is = refl })) (λ e. rw e (split_some m (p ++ c ∷ []) cs))

pub some_field : (l : List ℕ) (at : ℕ) → at ≤ length l → Field (fields_at l at)
some_field l at h = rw (le-ltb (length l) at h) (split_some 9 [] (drop at l))

-- ---- bytes compared one by one: the same ones are one list
pub same_self : (xs : List ℕ) → same_bytes xs xs ≡ true
unfolding same_bytes
same_self [] = refl
same_self (x ∷ xs) = rw (eq-eqb x x refl) (same_self xs)

pub same_list : (xs ys : List ℕ) → same_bytes xs ys ≡ true → xs ≡ ys
unfolding same_bytes
same_list [] [] e = refl
same_list [] (y ∷ ys) e = absurd (subst T (sym e) tt)
same_list (x ∷ xs) [] e = absurd (subst T (sym e) tt)
same_list (x ∷ xs) (y ∷ ys) e =
    either (eqb x y) (λ h. rw (eqb-true x y h, same_list xs ys (rw h at e))) (λ h. absurd (subst T (sym (rw h at e)) tt))

pub same_is : (xs ys : List ℕ) → pointwise nat_eq xs ys ≡ same_bytes xs ys
unfolding same_bytes
same_is [] [] = refl
same_is [] (y ∷ ys) = refl
same_is (x ∷ xs) [] = refl
same_is (x ∷ xs) (y ∷ ys) = either (eqb x y) (λ e. rw e (same_is xs ys)) (λ e. rw e)

-- the part of s from `from` up to `to`, cut to s
pub same_cut : (s word : List ℕ) (from to : ℕ) → let end = min to (length s) in let start = min from end in
    pointwise nat_eq (take (end - start) (drop start s)) word ≡ same_bytes (slice from to s) word
same_cut s word from to =
    let p = cut {from = from} {to = to} {s = s} refl refl in
    same_is _ word ∙ ap (λ f. same_bytes f word) (part_slice _ _ s p.low ∙ p.same)
