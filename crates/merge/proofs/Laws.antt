-- THE LAWS of the merge: the serials of the merged lines rise; every line of either sheet is there, and nothing else is; which sheets are
-- merged at all.
use mathlib.Core.Path.{◌≡◌, refl, sym, subst, ◌∙◌}
use mathlib.Core.List.{List, [], ◌∷◌, ◌++◌}
use mathlib.Core.Logic.{◌⊎◌, inl, inr}
use Prim.Native.Nat.{ℕ, ◌+◌, ◌≤◌}
use native.Mathlib.Omega.{arith}
use lib.Dec.{T, eqb}
use lib.IntN.{ℤ, pos}
use lib.ListN.{length, length-append}
use lib.Signed.{clash_ℤ}
use Rattle.algebra.specs.Order.{◌⩽◌, ◌⋖◌}
use Rattle.algebra.proofs.Test.{either}
use Rattle.algebra.proofs.Order.{⩽_refl, ⩽_of_eq}
use Rattle.algebra.proofs.Reify.{reify}
use Rattle.algebra.proofs.Linear.{lin, lin<, ◌&◌, ◌&<◌, none as no_more}
use Rattle.scan.specs.Fields.{same_bytes}
use Rattle.scan.proofs.Fields.{same_self}
use Rattle.stream.specs.Machine.{last_line, lines_from, lines}
use Rattle.merge.specs.declared.Choice.{Choice}
use Rattle.merge.specs.declared.MergeError.{MergeError}
use Rattle.merge.specs.Merge.{choice, Merge, ◌then◌, act, follow, merge_from, merge}
use Rattle.merge.specs.Call.{text}
use Rattle.merge.proofs.Rules.{Numbered, one_number, front_risen, BySerial, below, above, twins, differ, by_serial_lem, Stops, no_stop, Under, Merges, none, stop, first, second, passed, merges}

-- ---- the serials rise from one on, and each line has one
pub data Rising : ℤ → List (List ℕ) → Type 0 where
  end : {lo : ℤ} → Rising lo []
  more : {lo n : ℤ} {l : List ℕ} {ls : List (List ℕ)} → Numbered l n → lo ⋖ n → Rising n ls → Rising lo (l ∷ ls)

-- a first line above j is above n
abbrev Low : ℤ → ℤ → List (List ℕ) → Type 0
Low n j [] = Unit {0}
Low n j (l ∷ ls) = (z : ℤ) → Numbered l z → j ⋖ z → n ⋖ z

low_up : (n j : ℤ) (ls : List (List ℕ)) → n ⩽ j → Low n j ls
low_up n j [] h = tt
low_up n j (l ∷ ls) h = λ z e k. lin< (n ∷ j ∷ z ∷ []) (h & k &< no_more) (search reify depth 20) tt

low_under : (n j : ℤ) (ls : List (List ℕ)) → Under n ls → Low n j ls
low_under n j [] u = tt
low_under n j (l ∷ ls) u = λ z e k. rw (one_number e u.is) u.above

pub strictly : {m n : ℤ} → m ⋖ n → m ⩽ n
strictly {m} {n} h = lin (m ∷ n ∷ []) (h &< no_more) (search reify depth 20) tt

rises : {j k : ℤ} {xs ys : List (List ℕ)} {m : Merge} → Merges j k xs ys m → (n : ℤ) → Low n j xs → Low n k ys → Rising n m.copied
rises none n p q = end
rises (stop e) n p q = end
rises (first {k = k} {n = i} {xs = xs} {ys = ys} e h u r) n p q =
    more e (p i e h) (rises r i (low_up i i xs (⩽_refl i)) (low_under i k ys u))
rises (second {j = j} {n = i} {xs = xs} {ys = ys} e h u r) n p q =
    more e (q i e h) (rises r i (low_under i j xs u) (low_up i i ys (⩽_refl i)))
rises (passed {n = i} {xs = xs} e h s r) n p q = rises r n (low_up n i xs (strictly (p i e h))) q

-- a merge that nothing stops has met rising serials in either sheet
pub both_rose : {j k : ℤ} {xs ys : List (List ℕ)} {m : Merge} → Merges j k xs ys m → m.refusal ≡ 0 → Rising j xs × Rising k ys
both_rose none e = (end, end)
both_rose (stop n) e = no_stop n e
both_rose (first s h u r) e = let i = both_rose r e in (more s h i.0, i.1)
both_rose (second s h u r) e = let i = both_rose r e in (i.0, more s h i.1)
both_rose (passed s h t r) e = let i = both_rose r e in (more s h i.0, i.1)

-- ---- the lines are those of the two sheets
infixl 20 ◌among◌
abbrev pub ◌among◌ : List ℕ → List (List ℕ) → Type 0
◌among◌ l [] = ⊥
◌among◌ l (x ∷ xs) = (l ≡ x) ⊎ (l among xs)

all_there : {j k : ℤ} {xs ys : List (List ℕ)} {m : Merge} → Merges j k xs ys m → m.refusal ≡ 0 → (l : List ℕ) → (l among xs) ⊎ (l among ys) →
    l among m.copied
all_there none e l (inl i) = i
all_there none e l (inr i) = i
all_there (stop n) e l i = no_stop n e
all_there (first s h u r) e l (inl (inl t)) = inl t
all_there (first s h u r) e l (inl (inr i)) = inr (all_there r e l (inl i))
all_there (first s h u r) e l (inr i) = inr (all_there r e l (inr i))
all_there (second s h u r) e l (inl i) = inr (all_there r e l (inl i))
all_there (second s h u r) e l (inr (inl t)) = inl t
all_there (second s h u r) e l (inr (inr i)) = inr (all_there r e l (inr i))
all_there (passed s h t r) e l (inl (inl u)) = all_there r e l (inr (inl (u ∙ t)))
all_there (passed s h t r) e l (inl (inr i)) = all_there r e l (inl i)
all_there (passed s h t r) e l (inr i) = all_there r e l (inr i)

behind_first : {A B : Type 0} {l a : List ℕ} → A ⊎ B → ((l ≡ a) ⊎ A) ⊎ B
behind_first (inl i) = inl (inr i)
behind_first (inr i) = inr i

behind_second : {A B : Type 0} {l b : List ℕ} → A ⊎ B → A ⊎ ((l ≡ b) ⊎ B)
behind_second (inl i) = inl i
behind_second (inr i) = inr (inr i)

nothing_else : {j k : ℤ} {xs ys : List (List ℕ)} {m : Merge} → Merges j k xs ys m → (l : List ℕ) → l among m.copied → (l among xs) ⊎ (l among ys)
nothing_else none l i = absurd i
nothing_else (stop n) l i = absurd i
nothing_else (first s h u r) l (inl t) = inl (inl t)
nothing_else (first s h u r) l (inr i) = behind_first (nothing_else r l i)
nothing_else (second s h u r) l (inl t) = inr (inl t)
nothing_else (second s h u r) l (inr i) = behind_second (nothing_else r l i)
nothing_else (passed s h t r) l i = behind_first (nothing_else r l i)

-- ---- what is copied is no longer than the two
text_most : {j k : ℤ} {xs ys : List (List ℕ)} {m : Merge} → Merges j k xs ys m → length (text m.copied) ≤ length (text xs) + length (text ys)
unfolding text
text_most none = omega arith
text_most (stop n) = omega arith
text_most (first {a = a} {xs = xs} {m = m} s h u r) = simp length-append (omega (arith, text_most r))
text_most (second {b = b} {ys = ys} {m = m} s h u r) = simp length-append (omega (arith, text_most r))
text_most (passed {a = a} {xs = xs} s h t r) = simp length-append (omega (arith, simp length-append at (text_most r)))

lines_most : (s p : List ℕ) → length (text (lines_from p s)) ≤ length p + length s + 1
unfolding text lines_from last_line
lines_most [] [] = omega arith
lines_most [] (x ∷ p) = simp length-append (omega arith)
lines_most (c ∷ cs) p =
    either (eqb c 10) (λ e. rw e (simp length-append (omega (arith, lines_most cs []))))
    (λ e. rw e (omega (arith, lines_most cs (p ++ c ∷ []), length-append p (c ∷ []))))

-- ---- sheets whose serials rise, and that have the same line under the same serial, are merged
abbrev pub Agree : List (List ℕ) → List (List ℕ) → Type 0
Agree xs ys = (l m : List ℕ) → l among xs → m among ys → (n : ℤ) → Numbered l n → Numbered m n → l ≡ m

follow_free : {k : ℤ} {ls : List (List ℕ)} → Rising k ls → (follow k ls).refusal ≡ 0
unfolding follow
follow_free end = refl
follow_free (more e h r) = rw (front_risen e h) (follow_free r)

free : {j k : ℤ} {xs ys : List (List ℕ)} → Rising j xs → Rising k ys → Agree xs ys → (merge_from j k xs ys).refusal ≡ 0
unfolding merge_from choice
free end q g = follow_free q
free (more e h r) end g = follow_free (more e h r)
free {j} {k} (more {n = m} {l = a} {ls = xs} e h r) (more {n = n} {l = b} {ls = ys} f i s) g =
    rw (front_risen e h, front_risen f i)
    (go (by_serial_lem m n (same_bytes a b)) (free r (more f i s) (λ x y p. g x y (inr p))) (free (more e h r) s (λ x y p q. g x y p (inr q))))
  where
    go : {c : Choice MergeError} → BySerial m n (same_bytes a b) c → (merge_from m k xs (b ∷ ys)).refusal ≡ 0 → (merge_from j n (a ∷ xs) ys).refusal ≡ 0 →
        (act c (λ n. a then merge_from n k xs (b ∷ ys)) (λ n. merge_from n k xs (b ∷ ys)) (λ n. b then merge_from j n (a ∷ xs) ys)).refusal ≡ 0
    go (below l) p q = p
    go (above l) p q = q
    go (twins t u) p q = p
    go (differ t u) p q =
        let same : a ≡ b = g a b (inl refl) (inl refl) n (rw t at e) f in
        absurd (subst T (sym (same_self a) ∙ (rw (← same) at u)) tt)

-- ---- and no others are: in lines that rise a serial stands once
over : {n z : ℤ} {ls : List (List ℕ)} {l : List ℕ} → Rising n ls → l among ls → Numbered l z → n ⋖ z
over end i f = absurd i
over (more {n = m} e h r) (inl t) f = rw (one_number {n = m} f (rw t e)) h
over {n} {z} (more {n = m} e h r) (inr i) f = lin< (n ∷ m ∷ z ∷ []) (h &< over r i f &< no_more) (search reify depth 20) tt

once : {n : ℤ} {ls : List (List ℕ)} → Rising n ls → Agree ls ls
once end l m i j z e f = absurd i
once (more s h r) l m (inl t) (inl u) z e f = t ∙ sym u
once (more s h r) l m (inl t) (inr u) z e f = absurd (clash_ℤ (over r u f) (⩽_of_eq (one_number e (rw t s))))
once (more s h r) l m (inr t) (inl u) z e f = absurd (clash_ℤ (over r t e) (⩽_of_eq (one_number f (rw u s))))
once (more s h r) l m (inr t) (inr u) z e f = once r l m t u z e f

-- ---- a merge ends, or is stopped with 5, 7 or 8
stopped_by : {j k : ℤ} {xs ys : List (List ℕ)} {m : Merge} → Merges j k xs ys m → (m.refusal ≡ 0) ⊎ Stops m.refusal
stopped_by none = inl refl
stopped_by (stop n) = inr n
stopped_by (first s h u r) = stopped_by r
stopped_by (second s h u r) = stopped_by r
stopped_by (passed s h t r) = stopped_by r

-- ---- THE LAWS of two sheets
module _ (a b : List ℕ) where
  by_rules : Merges (pos 0) (pos 0) (lines a) (lines b) (merge a b)
  unfolding merge
  by_rules = merges (pos 0) (pos 0) (lines a) (lines b)

  -- "merged into one whose numbers rise"
  pub merged_rises : Rising (pos 0) (merge a b).copied
  merged_rises = rises by_rules (pos 0) (low_up (pos 0) (pos 0) (lines a) (⩽_refl (pos 0))) (low_up (pos 0) (pos 0) (lines b) (⩽_refl (pos 0)))

  -- "each line copied unchanged": every line of either sheet is there, or its equal twin, which is the same bytes
  pub every_line : (merge a b).refusal ≡ 0 → (l : List ℕ) → (l among lines a) ⊎ (l among lines b) → l among (merge a b).copied
  every_line = all_there by_rules

  -- and nothing else is
  pub no_other_line : (l : List ℕ) → l among (merge a b).copied → (l among lines a) ⊎ (l among lines b)
  no_other_line = nothing_else by_rules

  -- "The lent output must hold both sheets and two newlines": so much is enough
  pub merged_fits : length (text (merge a b).copied) ≤ length a + length b + 2
  merged_fits = omega (arith, text_most by_rules, lines_most a [], lines_most b [])

  pub which_refusal : ((merge a b).refusal ≡ 0) ⊎ Stops (merge a b).refusal
  which_refusal = stopped_by by_rules

  -- what is merged, both ways
  pub accepted : Rising (pos 0) (lines a) → Rising (pos 0) (lines b) → Agree (lines a) (lines b) → (merge a b).refusal ≡ 0
  unfolding merge
  accepted = free

  pub only_accepted : (merge a b).refusal ≡ 0 → Rising (pos 0) (lines a) × (Rising (pos 0) (lines b) × Agree (lines a) (lines b))
  only_accepted e =
      let r = both_rose by_rules e in
      (r.0, (r.1, λ l m i n. once merged_rises l m (every_line e l (inl i)) (every_line e m (inr n))))
