-- What the code keeps of a line that has begun, and a line answered in a part of a buffer.
use mathlib.Core.Path.{◌≡◌, refl, sym, ap, ◌∙◌}
use mathlib.Core.List.{List, [], ◌∷◌, ◌++◌, append-nil, append_assoc}
use Prim.Native.Nat.{ℕ, zero, suc, ◌+◌, ◌-◌, ◌≤◌, ◌<◌}
use native.Mathlib.Omega.{arith}
use native.Mathlib.Nat.{le_refl}
use Prim.Native.Nat.{min}
use Rattle.std.proofs.lemmas.List.{take_min}
use lib.ListN.{length, take, drop, length-append, length-drop}
use lib.Seq.{take-append-add, take-append_seam, take_all, length-take-le, drop-length, drop-drop, sets-eq}
use borrow.Rule.Slice.PartMut.{mid_of, put_mid, Post-is}
use Rattle.buffer.specs.Code.{Put, Front}
use Rattle.stream.specs.Machine.{last_line, Place, kept_bytes}

pub same_begun : {σ : Type 0} (s : σ) {k l : List ℕ} → k ≡ l →
    ◌≡◌ {A = Place σ} (record { state = s; begun = k }) (record { state = s; begun = l })
same_begun s e = rw e

-- ---- bytes more, as many as there is room for, behind those that are kept
module _ (n : ℕ) (bytes more : List ℕ) (e : length bytes ≡ kept_bytes) where
  abbrev kept : ℕ
  kept = min n kept_bytes

  abbrev fit : ℕ
  fit = min (length more) (kept_bytes - kept)

  front : List ℕ
  front = take kept bytes

  front_length : length front ≡ kept
  unfolding front
  front_length = length-take-le kept bytes (omega arith)

  begun : take n bytes ≡ front
  unfolding front
  begun = sym (rw e at (take_min n bytes))

  fit_length : length (take fit more) ≡ fit
  fit_length = length-take-le fit more (omega arith)

  in_room : take kept_bytes (front ++ more) ≡ front ++ take fit more
  in_room =
      let k : kept_bytes ≡ length front + (kept_bytes - kept) = omega (arith, front_length) in
      let m : fit ≡ min (kept_bytes - kept) (length more) = omega arith in
      ap (λ (i : ℕ). take i (front ++ more)) k ∙ (take-append-add front more (kept_bytes - kept)
      ∙ ap (λ (t : List ℕ). front ++ t) (sym (ap (λ (i : ℕ). take i more) m ∙ take_min (kept_bytes - kept) more)))

  with_rest : (rest : List ℕ) → take (kept + fit) (front ++ (take fit more ++ rest)) ≡ front ++ take fit more
  with_rest rest =
      let k : kept + fit ≡ length front + fit = omega (arith, front_length) in
      let s : take fit (take fit more ++ rest) ≡ take fit more
      = ap (λ (i : ℕ). take i (take fit more ++ rest)) (sym fit_length) ∙ take-append_seam (take fit more) rest in
      ap (λ (i : ℕ). take i (front ++ (take fit more ++ rest))) k
      ∙ (take-append-add front (take fit more ++ rest) fit ∙ ap (λ (t : List ℕ). front ++ t) s)

  pub kept_more : {a m : ℕ} {part : List ℕ} → a ≡ kept → m ≡ min (length more) (kept_bytes - a) → part ≡ take (a + m - a) more →
      take (a + m) (put_mid a (a + m - a) bytes part) ≡ take kept_bytes (take n bytes ++ more)
  unfolding front
  kept_more {a} {m} g q p =
      let s : m ≡ fit = omega arith in
      let h : a + m - a ≡ fit = omega arith in
      rw (p, h, g, s) (with_rest _ ∙ sym (ap (λ (t : List ℕ). take kept_bytes (t ++ more)) begun ∙ in_room))

-- ---- a line that has begun is a last line
pub last_some : (n : ℕ) (bytes : List ℕ) → 0 < length bytes → (n ≡ 0 → ⊥) → last_line (take n bytes) ≡ take n bytes ∷ []
unfolding last_line
last_some n [] h k = absurd (none h)
  where
    none : 0 < 0 → ⊥
    none h = omega arith
last_some zero (x ∷ bytes) h k = absurd (k refl)
last_some (suc n) (x ∷ bytes) h k = refl

-- ---- a run of bytes from the front of the rest of a buffer is one in the whole
module _ (b : List ℕ) (at : ℕ) (h : at ≤ length b) where
  rest : mid_of at (length b - at) b ≡ drop at b
  rest = take_all (length b - at) (drop at b) (simp length-drop (le_refl (length b - at)))

  module _ {xs part : List ℕ} {n : ℕ} (f : Front xs (mid_of at (length b - at) b) part n)
      (same : length part ≡ length (mid_of at (length b - at) b)) where
    pub rest_within : at + n ≤ length b
    rest_within =
        let e = rw (rest, length-drop at b) at same in
        let g = rw rest at (ap length f.bytes) in
        omega (arith, f.count, simp (length-append, length-drop) at g)

    pub rest_put : Put b at xs (put_mid at (length b - at) b part) (at + n)
    rest_put =
        record {
          bytes = rw (f.bytes, rest, Post-is at (length b) b h, drop-length b, append-nil, drop-drop)
              (sym (append_assoc (take at b) xs (drop (at + length xs) b)) ∙ sym (sets-eq xs b at (omega (arith, rest_within, f.count))));
          after = ap (λ (k : ℕ). at + k) f.count;
        }
