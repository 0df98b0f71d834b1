-- Degrees in unary, and back. A run of ones and its zero spell one degree, so the degrees of a sequence are read off from the front;
-- and the sequence of degrees ds is the unary sequence of 1 and ds, so what holds of `unary` holds of it.
--
--     sequence-unary         the sequence is in unary, with a degree 1 before the others
--     unary-one              the ones of the first degree
--     unary-past             what stands behind them: a zero and the others in unary
--     unary-small            every element is at most 1
--     sequence-small         the same of the sequence
--     length-unary           a one for each child and a zero for each node
--     length-sequence        and two elements more
--     degrees_from-unary     the degrees are read back
--     degrees_from-sequence  the same, with the 1 that comes before them all
--     unary-degrees_from     bits that end in a zero are in unary what they spell
--     total-take             the sum of the first j degrees
--
-- Assumes nothing.
use mathlib.Core.Path.{◌≡◌, refl, sym, ap, ap₂, ◌∙◌, subst}
use mathlib.Core.List.{List, [], ◌∷◌, ◌++◌}
use Prim.Native.Nat.{ℕ, zero, suc, ◌+◌, ◌-◌, ◌≤◌, ◌<◌, zero-le}
use native.Mathlib.Nat.{le_trans, le_of_eq, le_of_suc-le-suc, not-suc-le-zero, add-zero}
use native.Mathlib.Decide.{dec_lt}
use native.Mathlib.Omega.{arith}
use lib.ListN.{length, get_or, take, replicate, length-append, length-replicate, get_or-replicate, get_or-append}
use lib.Seq.{get_or-append-add}
use Rattle.keymap.specs.Bits.{sum_below}
use Rattle.keymap.specs.Degrees.{unary, total, sequence, degrees_from}
use Rattle.keymap.proofs.Laws.Sums.{sum_below-zero, sum_below-first, sum_below-none}

pub sequence-unary : (ds : List ℕ) → sequence ds ≡ unary (1 ∷ ds)
unfolding sequence unary
sequence-unary ds = refl

-- ---- element by element

pub unary-one : (d : ℕ) (ds : List ℕ) (i : ℕ) → i < d → get_or (unary (d ∷ ds)) i 0 ≡ 1
unfolding unary
unary-one d ds i h =
    get_or-append (replicate d 1) (0 ∷ unary ds) 0 i (subst (λ (x : ℕ). i < x) (sym (length-replicate d 1)) h) ∙ get_or-replicate d i 1 0 h

pub unary-past : (d : ℕ) (ds : List ℕ) (i : ℕ) → get_or (unary (d ∷ ds)) (d + i) 0 ≡ get_or (0 ∷ unary ds) i 0
unfolding unary
unary-past d ds i =
    ap (λ (x : ℕ). get_or (replicate d 1 ++ (0 ∷ unary ds)) (x + i) 0) (sym (length-replicate d 1))
    ∙ get_or-append-add (replicate d 1) (0 ∷ unary ds) i 0

pub unary-small : (ds : List ℕ) (i : ℕ) → get_or (unary ds) i 0 ≤ 1
unfolding unary
unary-small [] i = zero-le
unary-small (d ∷ ds) i = go (dec_lt i d) (unary-small ds)
  where
    rest : (r : ℕ) → ((k : ℕ) → get_or (unary ds) k 0 ≤ 1) → get_or (0 ∷ unary ds) r 0 ≤ 1
    rest zero ih = zero-le
    rest (suc r) ih = ih r

    go : Dec (i < d) → ((k : ℕ) → get_or (unary ds) k 0 ≤ 1) → get_or (unary (d ∷ ds)) i 0 ≤ 1
    go (yes h) ih = le_of_eq (unary-one d ds i h)
    go (no h) ih =
        let r : ℕ = i - d in
        let e : i ≡ d + r = omega arith in
        le_trans (le_of_eq (ap (λ (x : ℕ). get_or (unary (d ∷ ds)) x 0) e ∙ unary-past d ds r)) (rest r ih)

pub sequence-small : (ds : List ℕ) (i : ℕ) → get_or (sequence ds) i 0 ≤ 1
sequence-small ds = rw (sequence-unary ds) (unary-small (1 ∷ ds))

-- ---- lengths

pub length-unary : (ds : List ℕ) → length (unary ds) ≡ total ds + length ds
unfolding unary total
length-unary [] = refl
length-unary (d ∷ ds) = omega (arith, length-append (replicate d 1) (0 ∷ unary ds), length-replicate {A = ℕ} d 1, length-unary ds)

pub length-sequence : (ds : List ℕ) → length (sequence ds) ≡ total ds + length ds + 2
unfolding sequence
length-sequence ds = omega (arith, length-unary ds)

pub total-take : (ds : List ℕ) (j : ℕ) → sum_below (λ i. get_or ds i 0) j ≡ total (take j ds)
unfolding total
total-take ds zero = sum_below-zero (λ i. get_or ds i 0)
total-take [] (suc j) = sum_below-none (λ i. get_or [] i 0) (suc j) (λ i l. refl)
total-take (d ∷ ds) (suc j) = sum_below-first (λ i. get_or (d ∷ ds) i 0) j ∙ ap (λ (x : ℕ). d + x) (total-take ds j)

-- ---- and back

-- c ones seen and d to come spell one degree
degrees_from-run : (c d : ℕ) (xs : List ℕ) → degrees_from c (replicate d 1 ++ (0 ∷ xs)) ≡ (c + d) ∷ degrees_from 0 xs
unfolding degrees_from
degrees_from-run c zero xs = ap (λ (x : ℕ). x ∷ degrees_from 0 xs) (sym (add-zero c))
degrees_from-run c (suc d) xs = degrees_from-run (suc c) d xs ∙ ap (λ (x : ℕ). x ∷ degrees_from 0 xs) (omega arith)

pub degrees_from-unary : (ds : List ℕ) → degrees_from 0 (unary ds) ≡ ds
unfolding unary degrees_from
degrees_from-unary [] = refl
degrees_from-unary (d ∷ ds) = degrees_from-run 0 d (unary ds) ∙ ap₂ (λ (x : ℕ) (xs : List ℕ). x ∷ xs) (omega arith) (degrees_from-unary ds)

pub degrees_from-sequence : (ds : List ℕ) → degrees_from 0 (sequence ds) ≡ 1 ∷ ds
degrees_from-sequence ds = ap (degrees_from 0) (sequence-unary ds) ∙ degrees_from-unary (1 ∷ ds)

one_more : (c : ℕ) (xs : List ℕ) → replicate (suc c) 1 ++ xs ≡ replicate c 1 ++ (1 ∷ xs)
one_more zero xs = refl
one_more (suc c) xs = ap (λ (l : List ℕ). 1 ∷ l) (one_more c xs)

-- the same with c ones before the bits
unary-spelled : (xs : List ℕ) (c n : ℕ) → length xs ≡ n + 1 → ((i : ℕ) → get_or xs i 0 ≤ 1) → get_or xs n 0 ≡ 0 → unary (degrees_from c xs) ≡ replicate c 1 ++ xs
unfolding unary degrees_from
unary-spelled [] c n l small ends = absurd (omega arith)
unary-spelled (zero ∷ []) c n l small ends = refl
unary-spelled (zero ∷ y ∷ xs) c zero l small ends = absurd (omega arith)
unary-spelled (zero ∷ y ∷ xs) c (suc n) l small ends =
    ap (λ (ys : List ℕ). replicate c 1 ++ (0 ∷ ys)) (unary-spelled (y ∷ xs) 0 n (omega arith) (λ i. small (suc i)) ends)
unary-spelled (suc zero ∷ xs) c zero l small ends = absurd (omega arith)
unary-spelled (suc zero ∷ xs) c (suc n) l small ends = unary-spelled xs (suc c) n (omega arith) (λ i. small (suc i)) ends ∙ one_more c xs
unary-spelled (suc (suc v) ∷ xs) c n l small ends = absurd (not-suc-le-zero (le_of_suc-le-suc (small 0)))

pub unary-degrees_from : (xs : List ℕ) (n : ℕ) → length xs ≡ n + 1 → ((i : ℕ) → get_or xs i 0 ≤ 1) → get_or xs n 0 ≡ 0 → unary (degrees_from 0 xs) ≡ xs
unary-degrees_from xs n l small ends = unary-spelled xs 0 n l small ends
