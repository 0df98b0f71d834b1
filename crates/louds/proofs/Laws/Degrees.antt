-- The nodes of a degree sequence: its j-th zero, counted from 0, closes the degrees of the first j nodes, so it stands behind their sum in ones and j zeros;
-- and between it and the next stand as many ones as node j + 1 has children.
--
--     zero_at-sequence    where the zeros of a sequence stand
--     children-sequence   node j + 1 has as many children as its degree, numbered on from those of the nodes before it
--     children-pack       the same of the words of a sequence
--
-- Assumes nothing.
use Rattle.std.specs.Prelude.{Some}
use Rattle.std.proofs.Common.{◌≡◌, ℕ, zero, suc, ◌+◌, ◌<◌, ◌≤◌, List, [], ◌∷◌, length, get_or, take, sym, refl, ap, ◌∙◌, ap₂, le_of_suc-le-suc, not-suc-le-zero, le_of_lt, add-one, arith}
use Rattle.keymap.specs.Bits.{bit, pack}
use Rattle.keymap.specs.Degrees.{unary, total, sequence}
use Rattle.keymap.proofs.Laws.Sums.{sum_below-zero, sum_below-suc, sum_below-first, sum_below-add, sum_below-ext, sum_below-none, in_list}
use Rattle.keymap.proofs.Laws.Bits.{bit-pack}
use Rattle.keymap.proofs.Laws.Degrees.{sequence-unary, unary-one, unary-past, sequence-small, length-unary, total-take}
use Rattle.louds.specs.Rank.{gap, zeros_before}
use Rattle.louds.specs.Select.{zero_at}
use Rattle.louds.specs.Nodes.{Run, children_of}
use Rattle.louds.proofs.Laws.Rank.{gap-one, gap-zero, gap-ext, gap-small}
use Rattle.louds.proofs.Laws.Select.{kth-rank}
use Rattle.louds.proofs.Laws.Nodes.{children-to-zero, children-agree}

-- ---- the zeros before a place

zeros-tail : (x : ℕ) (xs : List ℕ) (i : ℕ) → zeros_before (in_list (x ∷ xs)) (suc i) ≡ gap (in_list (x ∷ xs)) 0 + zeros_before (in_list xs) i
zeros-tail x xs i =
    let b = in_list (x ∷ xs) in
    sum_below-first (gap b) i
    ∙ ap (λ (y : ℕ). gap b 0 + y) (sum_below-ext (λ j. gap b (suc j)) (gap (in_list xs)) i (λ j l. gap-ext b (in_list xs) (suc j) j refl))

-- those before d + i are those before i of what follows the ones of the first node
zeros-past : (d : ℕ) (ds : List ℕ) (i : ℕ) → zeros_before (in_list (unary (d ∷ ds))) (d + i) ≡ zeros_before (in_list (0 ∷ unary ds)) i
zeros-past d ds i =
    let b = in_list (unary (d ∷ ds)) in
    let c = in_list (0 ∷ unary ds) in
    let ones = sum_below-none (gap b) d (λ j l. gap-one b j (unary-one d ds j l)) in
    let rest = sum_below-ext (λ j. gap b (d + j)) (gap c) i (λ j l. gap-ext b c (d + j) j (unary-past d ds j)) in
    omega (arith, sum_below-add (gap b) d i, ones, rest)

-- ---- where the zeros stand

record ZeroIn (ds : List ℕ) (j : ℕ) : Type 0 where
  rank : zeros_before (in_list (unary ds)) (total (take (suc j) ds) + j) ≡ j
  zero-there : in_list (unary ds) (total (take (suc j) ds) + j) ≡ 0
  inside : total (take (suc j) ds) + j < length (unary ds)

zero_in : (ds : List ℕ) (j : ℕ) → j < length ds → ZeroIn ds j
unfolding total
zero_in [] j h = absurd (not-suc-le-zero h)
zero_in (d ∷ ds) zero h =
    let b = in_list (unary (d ∷ ds)) in
    let q : total (take (suc 0) (d ∷ ds)) + 0 ≡ d + 0 = omega arith in
    record {
      rank = ap (zeros_before b) q ∙ zeros-past d ds 0 ∙ sum_below-zero (gap (in_list (0 ∷ unary ds)));
      zero-there = ap b q ∙ unary-past d ds 0;
      inside = omega (arith, q, length-unary (d ∷ ds));
    }
zero_in (d ∷ ds) (suc j) h =
    let b = in_list (unary (d ∷ ds)) in
    let p : ℕ = total (take (suc j) ds) + j in
    let q : total (take (suc (suc j)) (d ∷ ds)) + suc j ≡ d + suc p = omega arith in
    let r = zero_in ds j (le_of_suc-le-suc h) in
    record {
      rank = ap (zeros_before b) q ∙ zeros-past d ds (suc p) ∙ omega (arith, zeros-tail 0 (unary ds) p, gap-zero (in_list (0 ∷ unary ds)) 0 refl, r.rank);
      zero-there = ap b q ∙ unary-past d ds (suc p) ∙ r.zero-there;
      inside = omega (arith, q, r.inside, length-unary (d ∷ ds), length-unary ds);
    }

zero_at-unary : (ds : List ℕ) (j : ℕ) → j < length ds → zero_at (in_list (unary ds)) (length (unary ds)) (j + 1) ≡ Some (total (take (suc j) ds) + j)
zero_at-unary ds j h =
    let b = in_list (unary ds) in
    let q : ℕ = total (take (suc j) ds) + j in
    let z = zero_in ds j h in
    ap (λ (x : ℕ). zero_at b (length (unary ds)) (x + 1)) (sym z.rank)
    ∙ kth-rank (gap b) (gap-small b) (length (unary ds)) q z.inside (gap-zero b q z.zero-there)

pub zero_at-sequence : (ds : List ℕ) (j : ℕ) → j ≤ length ds → zero_at (λ i. get_or (sequence ds) i 0) (length (sequence ds)) (j + 1) ≡ Some (total (take j ds) + j + 1)
unfolding total
zero_at-sequence ds j h = rw (sequence-unary ds) (zero_at-unary (1 ∷ ds) j (omega arith) ∙ ap Some (omega arith))

-- ---- the children

pub children-sequence : (ds : List ℕ) (j : ℕ) → j < length ds
    → children_of (λ i. get_or (sequence ds) i 0) (length (sequence ds)) (j + 1) ≡ Run (total (take j ds) + 2) (get_or ds j 0)
children-sequence ds j h =
    let b = in_list (sequence ds) in
    let len : ℕ = length (sequence ds) in
    let p : ℕ = total (take j ds) + j + 1 in
    let q : ℕ = total (take (suc j) ds) + suc j + 1 in
    let next : zero_at b len (j + 1 + 1) ≡ Some q = ap (λ (x : ℕ). zero_at b len (x + 1)) (add-one j) ∙ zero_at-sequence ds (suc j) h in
    let more : total (take (suc j) ds) ≡ total (take j ds) + get_or ds j 0 = sym (total-take ds (suc j)) ∙ sum_below-suc (in_list ds) j ∙ ap (λ (x : ℕ). x + get_or ds j 0) (total-take ds j) in
    (children-to-zero b (sequence-small ds) len (j + 1) p q (zero_at-sequence ds j (le_of_lt h)) next).1
    ∙ ap₂ Run (omega arith) (omega (arith, more))

pub children-pack : (ds : List ℕ) (j : ℕ) → j < length ds
    → children_of (bit (pack (sequence ds))) (length (sequence ds)) (j + 1) ≡ Run (total (take j ds) + 2) (get_or ds j 0)
children-pack ds j h =
    let xs = sequence ds in
    children-agree (bit (pack xs)) (in_list xs) (length xs) (λ i l. bit-pack xs (sequence-small ds) i) (j + 1)
    ∙ children-sequence ds j h
