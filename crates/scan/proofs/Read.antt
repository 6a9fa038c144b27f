-- The reader and the writer are laws of each other: what is written is read as the same number, and what is read as a number is that
-- number written.
use Rattle.std.proofs.Common.{◌≡◌, ℕ, zero, suc, ◌+◌, ◌-◌, ◌*◌, ◌/◌, ◌%◌, ◌^◌, ◌<◌, ◌≤◌, cond, eqb, ltb, leb, ◌⊎◌, List, [], ◌∷◌, ◌++◌, length, ℤ, pos, negsuc, sym, refl, ap, ◌∙◌, inl, inr, append_assoc, append-nil, mod-lt, div-add-mod', arith, lit<, w64, SFits, ltb-false, le-ltb, lt-ltb, ne_eqb, eqb-true, le-leb, leb-true, Option, Some, None}
use borrow.Author.Tests.{eqb-false}
use Rattle.algebra.proofs.Test.{either}
use Rattle.buffer.specs.Decimal.{show_natural, show_number}
use Rattle.buffer.proofs.Written.{digits_ind, digits_one, digits_more, small_or, short, short_number}
use Rattle.scan.specs.Decimal.{value, up_to, read_natural, read_number, plus, minus}

-- ---- what is written is read
behind : Option ℕ → List ℕ → Option ℕ
behind None l = None
behind (Some a) l = value a l

value_append : (xs ys : List ℕ) (a : ℕ) → value a (xs ++ ys) ≡ behind (value a xs) ys
unfolding value behind
value_append [] ys a = refl
value_append (d ∷ xs) ys a =
    let more = value_append xs ys (a * 10 + (d - 48)) in
    either (ltb d 48) (λ e. rw e) (λ e. rw e (either (ltb 57 d) (λ f. rw f) (λ f. rw f more)))

value_one : (a x : ℕ) → x < 10 → value a ((48 + x) ∷ []) ≡ Some (a * 10 + x)
unfolding value
value_one a x h =
    let e : 48 + x - 48 ≡ x = omega arith in
    let lo : 48 ≤ 48 + x = omega arith in
    let hi : 48 + x ≤ 57 = omega arith in
    rw (le-ltb (48 + x) 48 lo, le-ltb 57 (48 + x) hi, e)

-- of the digits of v: the first is 0 only for 0, and they are worth v
record Shown (v : ℕ) (l : List ℕ) : Type 0 where
  first : ℕ
  others : List ℕ
  is : l ≡ first ∷ others
  digit : 48 ≤ first
  lead : first ≡ 48 → v ≡ 0
  worth : value 0 l ≡ Some v

shown : (v : ℕ) → Shown v (show_natural v)
unfolding value behind
shown v = digits_ind Shown one more v
  where
    one : (v : ℕ) → v < 10 → Shown v ((48 + v) ∷ [])
    one v h = record {
      first = 48 + v;
      others = [];
      is = refl;
      digit = omega arith;
      lead = λ e. omega arith;
      worth = value_one 0 v h
          ∙ ap Some (omega arith);
    }

    more : (v : ℕ) (l : List ℕ) → 10 ≤ v → Shown (v / 10) l → Shown v (l ++ (48 + v % 10) ∷ [])
    more v l h r =
        record {
          first = r.first;
          others = r.others ++ (48 + v % 10) ∷ [];
          is = ap (λ (m : List ℕ). m ++ (48 + v % 10) ∷ []) r.is;
          digit = r.digit;
          lead = λ e. omega (arith, r.lead e);
          worth = value_append l ((48 + v % 10) ∷ []) 0
              ∙ rw r.worth (value_one (v / 10) (v % 10) (mod-lt v (lit< tt)) ∙ ap Some (div-add-mod' v 10));
        }

natural_show : (v : ℕ) → v ≤ 2 ^ 63 → read_natural (show_natural v) ≡ Some v
unfolding read_natural
natural_show v h = go (shown v) (small_or v)
  where
    nonzero : (r : Shown v (show_natural v)) → (r.first ≡ 48 → ⊥) → read_natural (r.first ∷ r.others) ≡ Some v
    nonzero r n = rw (ne_eqb r.first 48 n, ← r.is, r.worth, le-leb v (2 ^ 63) h)

    go : Shown v (show_natural v) → (v < 10) ⊎ (10 ≤ v) → read_natural (show_natural v) ≡ Some v
    go r (inl w) = rw (digits_one v w) (zero_or v w)
      where
        zero_or : (v : ℕ) → v < 10 → read_natural ((48 + v) ∷ []) ≡ Some v
        zero_or zero w = refl
        zero_or (suc k) w =
            let n : 48 + suc k ≡ 48 → ⊥ = λ e. omega arith in
            let b : 0 * 10 + suc k ≤ 2 ^ 63 = omega arith in
            rw (ne_eqb (48 + suc k) 48 n, value_one 0 (suc k) w, le-leb _ _ b) (ap Some (omega arith))
    go r (inr w) = rw r.is (nonzero r (λ e. omega (arith, r.lead e)))

-- THE LAW: a number of 64 bits that is written is read back
pub read_show : (z : ℤ) → SFits w64 z → read_number (show_number z) ≡ Some z
unfolding read_number show_number
read_show (pos n) f = go (shown n)
  where
    go : Shown n (show_natural n) → read_number (show_natural n) ≡ Some (pos n)
    go r =
        let b : n ≤ 2 ^ 63 = omega (arith, f.sfits) in
        let d : r.first ≡ 45 → ⊥ = λ e. omega (arith, r.digit) in
        let e : read_number (r.first ∷ r.others) ≡ plus (read_natural (r.first ∷ r.others)) = rw (ne_eqb r.first 45 d) in
        rw (← r.is, natural_show n b, le-leb n (2 ^ 63 - 1) (omega (arith, f.sfits))) at (ap read_number r.is ∙ e)
read_show (negsuc n) f =
    rw (natural_show (suc n) (omega (arith, f.sfits)), ne_eqb (suc n) 0 (λ e. omega arith))
    (ap (λ (k : ℕ). Some (negsuc k)) (omega arith))

-- ---- what is read as a number is that number written
pub no_value : {T A : Type 0} {x : T} → None ≡ Some x → A
no_value e = cc

record Digit (a d : ℕ) (ds : List ℕ) (v : ℕ) : Type 0 where
  low : 48 ≤ d
  high : d ≤ 57
  then : value (a * 10 + (d - 48)) ds ≡ Some v

digit : (a d : ℕ) (ds : List ℕ) (v : ℕ) → value a (d ∷ ds) ≡ Some v → Digit a d ds v
unfolding value
digit a d ds v e =
    either (ltb d 48) (λ p. no_value (rw p at e))
    (λ p. either (ltb 57 d) (λ q. no_value (rw (p, q) at e))
    (λ q. record { low = ltb-false d 48 p; high = ltb-false 57 d q; then = rw (p, q) at e }))

-- the digits behind a number that is not 0
more_digits : (ds : List ℕ) (a v : ℕ) → 1 ≤ a → value a ds ≡ Some v → show_natural a ++ ds ≡ show_natural v
unfolding value
more_digits [] a v h e = append-nil (show_natural a) ∙ ap show_natural (let h : a ≡ v = cc in h)
more_digits (d ∷ ds) a v h e =
    let r = digit a d ds v e in
    let m = a * 10 + (d - 48) in
    let q : m / 10 ≡ a = omega (arith, r.low, r.high) in
    let x : 48 + m % 10 ≡ d = omega (arith, r.low, r.high) in
    let last = rw (q, x) at (ap (λ (l : List ℕ). l ++ ds) (sym (digits_more m (omega (arith, r.low))))) in
    sym (append_assoc (show_natural a) (d ∷ []) ds) ∙ (last ∙ more_digits ds m v (omega arith) r.then)

record IsNatural (f : List ℕ) (v : ℕ) : Type 0 where
  written : f ≡ show_natural v
  small : v ≤ 2 ^ 63

up_to_lem : (m v : ℕ) (n : Option ℕ) → up_to m n ≡ Some v → (n ≡ Some v) × (v ≤ m)
up_to_lem m v None e = no_value e
up_to_lem m v (Some w) e =
    either (leb w m) (λ h. let f = rw h at e in let s : w ≡ v = cc in (f, omega (arith, leb-true w m h))) (λ h. no_value (rw h at e))

natural_is : (f : List ℕ) (v : ℕ) → read_natural f ≡ Some v → IsNatural f v
unfolding read_natural
natural_is [] v e = no_value e
natural_is (d ∷ ds) v e =
    either (eqb d 48) (λ h. zero_case ds (eqb-true d 48 h) (rw h at e))
    (λ h. digits_case (eqb-false d 48 h) (up_to_lem (2 ^ 63) v (value 0 (d ∷ ds)) (rw h at e)))
  where
    zero_case : (l : List ℕ) → d ≡ 48 → cond (ltb 0 (length l)) None (Some 0) ≡ Some v → IsNatural (d ∷ l) v
    zero_case [] h e =
        let z : 0 ≡ v = cc in
        record { written = rw (h, ← z) (sym (digits_one 0 (omega arith))); small = omega arith }
    zero_case (x ∷ l) h e =
        let p : 0 < suc (length l) = omega arith in
        no_value (rw (lt-ltb 0 (suc (length l)) p) at e)

    above : (d : ℕ) → (d ≡ 48 → ⊥) → 48 ≤ d → 1 ≤ d - 48
    above d n h = omega arith

    digits_case : (d ≡ 48 → ⊥) → (value 0 (d ∷ ds) ≡ Some v) × (v ≤ 2 ^ 63) → IsNatural (d ∷ ds) v
    digits_case n p =
        let r = digit 0 d ds v p.0 in
        let a : 0 * 10 + (d - 48) ≡ d - 48 = omega arith in
        let x : 48 + (d - 48) ≡ d = omega (arith, r.low) in
        let start = digits_one (d - 48) (omega (arith, r.high)) in
        let all = more_digits ds (d - 48) v (above d n r.low) (rw a at r.then) in
        record { written = rw (start, x) at all; small = p.1 }

-- the reader's size fits, and has no more than 19 digits
pub natural_small : (f : List ℕ) (v : ℕ) → read_natural f ≡ Some v → v ≤ 2 ^ 63
natural_small f v e = (natural_is f v e).small

pub natural_long : (f : List ℕ) → 19 < length f → read_natural f ≡ None
natural_long f h = go (read_natural f) refl
  where
    bad : (v : ℕ) → IsNatural f v → ⊥
    bad v i = omega (arith, ap length i.written, short 18 v (omega (arith, i.small)))

    go : (n : Option ℕ) → read_natural f ≡ n → n ≡ None
    go None e = refl
    go (Some v) e = absurd (bad v (natural_is f v e))

pub record IsNumber (f : List ℕ) (z : ℤ) : Type 0 where
  pub written : f ≡ show_number z
  pub fits : SFits w64 z

plus_is : (f : List ℕ) (n : Option ℕ) (z : ℤ) → read_natural f ≡ n → plus n ≡ Some z → IsNumber f z
unfolding show_number
plus_is f None z r e = no_value e
plus_is f (Some v) z r e =
    either (leb v (2 ^ 63 - 1)) (λ h. let f = rw h at e in is (cc) (leb-true v (2 ^ 63 - 1) h)) (λ h. no_value (rw h at e))
  where
    is : z ≡ pos v → v ≤ 2 ^ 63 - 1 → IsNumber f z
    is h l = rw h (record { written = (natural_is f v r).written; fits = record { sfits = omega arith } })

minus_is : (f : List ℕ) (n : Option ℕ) (z : ℤ) → read_natural f ≡ n → minus n ≡ Some z → IsNumber (45 ∷ f) z
unfolding show_number
minus_is f None z r e = no_value e
minus_is f (Some v) z r e = go v r e
  where
    go : (v : ℕ) → read_natural f ≡ Some v → cond (eqb v 0) None (Some (negsuc (v - 1))) ≡ Some z → IsNumber (45 ∷ f) z
    go zero r e = no_value e
    go (suc v) r e =
        let i = natural_is f (suc v) r in
        let k : suc v - 1 ≡ v = omega arith in
        let e' = rw (ne_eqb (suc v) 0 (λ e. omega arith), k) at e in
        let h : z ≡ negsuc v = cc in
        rw h (record { written = ap (λ (l : List ℕ). 45 ∷ l) i.written; fits = record { sfits = omega (arith, i.small) } })

-- THE LAW, the other way
pub number_is : (f : List ℕ) (z : ℤ) → read_number f ≡ Some z → IsNumber f z
unfolding read_number
number_is [] z e = no_value e
number_is (c ∷ cs) z e =
    either (eqb c 45) (λ h. rw (eqb-true c 45 h) (minus_is cs (read_natural cs) z refl (rw h at e)))
    (λ h. plus_is (c ∷ cs) (read_natural (c ∷ cs)) z refl (rw h at e))

pub number_length : (f : List ℕ) (z : ℤ) → read_number f ≡ Some z → length f ≤ 20
number_length f z e = let r = number_is f z e in rw r.written (short_number z r.fits)
