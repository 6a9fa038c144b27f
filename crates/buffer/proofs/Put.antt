-- Bytes written over a buffer, one run after the other.
use mathlib.Core.Path.{◌≡◌, refl, sym, ap, ◌∙◌}
use mathlib.Core.List.{List, [], ◌∷◌, ◌++◌, append_assoc}
use Prim.Native.Nat.{ℕ, suc, ◌+◌, ◌-◌, ◌≤◌}
use native.Mathlib.Nat.{add-suc, suc-add, add-zero, zero-add, add_assoc}
use native.Mathlib.Omega.{arith}
use lib.ListN.{length, set, take, drop, length-append, take-append-drop}
use lib.Seq.{sets, length-sets, sets-eq}
use borrow.Rule.Slice.PartMut.{put_mid, Post-is}
use Rattle.buffer.specs.Code.{Put, Front}

sets_append : (xs ys b : List ℕ) (k : ℕ) → sets (sets b k xs) (k + length xs) ys ≡ sets b k (xs ++ ys)
sets_append [] ys b k = rw add-zero
sets_append (x ∷ xs) ys b k = rw (add-suc, ← suc-add) (sets_append xs ys (set b k x) (suc k))

pub nothing : (b : List ℕ) (at : ℕ) → Put b at [] b at
nothing b at = record { bytes = refl; after = sym (add-zero at) }

pub one : (b : List ℕ) (at x : ℕ) → Put b at (x ∷ []) (set b at x) (at + 1)
one b at x = record { bytes = refl; after = refl }

-- one run, and another behind it
pub then : {b : List ℕ} {at : ℕ} {xs b' : List ℕ} {end : ℕ} {ys b'' : List ℕ} {end' : ℕ} → Put b at xs b' end → Put b' end ys b'' end' →
    Put b at (xs ++ ys) b'' end'
then {b} {at} {xs} {b'} {end} {ys} p q =
    record {
      bytes = q.bytes ∙ (ap (λ (l : List ℕ). sets l end ys) p.bytes
          ∙ (ap (λ (k : ℕ). sets (sets b at xs) k ys) p.after ∙ sets_append xs ys b at));
      after = q.after
          ∙ (ap (λ (k : ℕ). k + length ys) p.after
          ∙ (add_assoc at (length xs) (length ys) ∙ ap (λ (k : ℕ). at + k) (sym (length-append xs ys))));
    }

-- a run that is still to come: behind the one that is written it is part of a longer one
pub go_on : {b : List ℕ} {at : ℕ} {xs b' : List ℕ} {end : ℕ} (ys : List ℕ) → Put b at xs b' end → sets b' end ys ≡ sets b at (xs ++ ys)
go_on {b} {at} {xs} ys p = rw (p.bytes, p.after) (sets_append xs ys b at)

-- the buffer keeps its length
pub kept : {b : List ℕ} {at : ℕ} {xs b' : List ℕ} {end : ℕ} → Put b at xs b' end → length b' ≡ length b
kept {b} {at} {xs} p = ap length p.bytes ∙ length-sets b at xs

-- a run from the front
pub to_front : {b xs b' : List ℕ} {end : ℕ} → Put b 0 xs b' end → length xs ≤ length b → Front xs b b' end
to_front {b} {xs} p h = record { bytes = p.bytes ∙ (sets-eq xs b 0 (rw zero-add h) ∙ rw zero-add); count = omega (arith, p.after) }

-- a run whose front and back are told apart
pub placed : {b : List ℕ} {at : ℕ} {xs b' : List ℕ} {end : ℕ} (start : ℕ) → end ≤ length b → start + length xs ≡ end → at + length xs ≡ end →
    drop start b' ≡ xs ++ drop end b → take start b' ≡ take start b → Put b at xs b' end
placed {b} {at} {xs} {b'} {end} start room e h back front =
    let same : start ≡ at = omega arith in
    let before = rw same at front in
    let behind = rw (same, ← h) at back in
    record {
      bytes = sym (take-append-drop at b') ∙ (rw (before, behind) (sym (append_assoc (take at b) xs (drop (at + length xs) b)) ∙ sym (sets-eq xs b at (omega arith))));
      after = sym h;
    }

-- bytes copied into the part of a buffer that they fill
pub copied : (b : List ℕ) (at : ℕ) (xs : List ℕ) {part : List ℕ} → at + length xs ≤ length b → part ≡ xs →
    Put b at xs (put_mid at (at + length xs - at) b part) (at + length xs)
copied b at xs {part} h e = record {
  bytes = rw (e, Post-is at (at + length xs) b (omega arith))
      (sym (append_assoc (take at b) xs (drop (at + length xs) b)) ∙ sym (sets-eq xs b at h));
  after = refl;
}
