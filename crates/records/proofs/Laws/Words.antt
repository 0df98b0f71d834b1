-- Laws of the words of a pool: two words of a pool are one place only if they are one word of one record, so a word that is put changes no other.
--
--     word_at                   each word of the slice is some record's
--     word-put-same, word-put-other  what a put leaves of the words
--     length-put                it leaves the length
--     last-put-other            what it leaves of the last record
--     count-last                the records in use are those up to the last
--     node-within, within-node  the root and the records in use are those up to the last
--     parent-node               a parent with a lower number is the root or in use
--     next_last, next-unused    the record that is taken next is not in use
--     next_fits                 where there is room for one more it lies within capacity
--     count_none                a pool with no last record counts none
--     length_taken, word-taken, in-use-taken, count-taken  what taking a record leaves
-- Assumes nothing.
use Prim.Native.Nat.{ℕ, ◌+◌, ◌*◌, ◌/◌, ◌%◌, ◌≤◌, ◌<◌}
use mathlib.Core.Path.{◌≡◌, refl, sym, ◌∙◌, ap}
use mathlib.Core.Logic.{◌⊎◌, inl, inr, ⊎_elim}
use lib.ListN.{length, get_or, length-set}
use lib.Seq.{get_or-set_same, get_or-set_other}
use native.Mathlib.Omega.{arith}
use Rattle.records.specs.Words.{Pool, record_words, word, put, entry, parent, last_record, used_count, InUse, Node, next_record, taken, capacity}
use Rattle.records.proofs.Laws.Distinct.{equal_or_not}

apart : (c d k l : ℕ) → k < record_words → l < record_words → (c ≡ d → k ≡ l → ⊥) → record_words * d + l ≡ record_words * c + k → ⊥
apart c d k l a b ne e = ⊎_elim (λ (q : c ≡ d). ne q (omega arith)) (λ nq. omega (arith, nq)) (equal_or_not c d)

pub word_at : (p : Pool) (j : ℕ) → get_or p j 0 ≡ word p (j / record_words) (j % record_words)
unfolding word
word_at p j = ap (λ (i : ℕ). get_or p i 0) (omega arith)

pub length-put : (p : Pool) (c k v : ℕ) → length (put p c k v) ≡ length p
unfolding put
length-put p c k v = length-set p (record_words * c + k) v

pub word-put-same : (p : Pool) (c k v : ℕ) → record_words * c + k < length p → word (put p c k v) c k ≡ v
unfolding word put
word-put-same p c k v h = get_or-set_same p (record_words * c + k) v 0 h

pub word-put-other : (p : Pool) (c k v d l : ℕ) → k < record_words → l < record_words → (c ≡ d → k ≡ l → ⊥) → word (put p c k v) d l ≡ word p d l
unfolding word put
word-put-other p c k v d l a b ne = get_or-set_other p (record_words * c + k) (record_words * d + l) v 0 (apart c d k l a b ne)

pub last-put-other : (p : Pool) (c k v : ℕ) → k < record_words → (c ≡ 0 → k ≡ 0 → ⊥) → last_record (put p c k v) ≡ last_record p
unfolding last_record
last-put-other p c k v h ne = word-put-other p c k v 0 0 h (omega arith) ne

-- of the root word 0 is the last record
pub last_entry : (p : Pool) → last_record p ≡ entry p 0
unfolding last_record
last_entry p = refl

pub count-last : (p : Pool) → used_count p ≡ last_record p
unfolding used_count
count-last p = refl

pub node-within : (p : Pool) (c : ℕ) → Node p c → c ≤ last_record p
node-within p c (inl e) = omega arith
node-within p c (inr u) = u.1

pub within-node : (p : Pool) (c : ℕ) → c ≤ last_record p → Node p c
within-node p c h = ⊎_elim (λ e. inl e) (λ (ne : c ≡ 0 → ⊥). inr (omega (arith, ne), h)) (equal_or_not c 0)

pub parent-node : (p : Pool) (c : ℕ) → InUse p c → parent p c < c → Node p (parent p c)
parent-node p c u h = within-node p (parent p c) (omega arith)

pub next_last : (p : Pool) → next_record p ≡ last_record p + 1
unfolding next_record
next_last p = refl

pub next-unused : (p : Pool) → Node p (next_record p) → ⊥
next-unused p h = omega (arith, node-within p (next_record p) h, next_last p)

pub next_fits : (p : Pool) → last_record p ≤ capacity p → used_count p + 1 ≤ capacity p → next_record p ≤ capacity p
next_fits p h r = omega (arith, next_last p, count-last p)

pub count_none : (p : Pool) → last_record p ≡ 0 → used_count p ≡ 0
count_none p e = count-last p ∙ e

pub length_taken : (p : Pool) (m : ℕ) → length (taken p m) ≡ length p
unfolding taken
length_taken p m = length-put p 0 0 m

pub word-taken : (p : Pool) (m c k : ℕ) → k < record_words → (c ≡ 0 → k ≡ 0 → ⊥) → word (taken p m) c k ≡ word p c k
unfolding taken
word-taken p m c k h ne = word-put-other p 0 0 m c k (omega arith) h (λ u v. ne (sym u) (sym v))

pub last_taken : (p : Pool) (m : ℕ) → record_words ≤ length p → last_record (taken p m) ≡ m
unfolding last_record taken
last_taken p m h = word-put-same p 0 0 m (omega arith)

-- q is p with its next record taken
module _ (p q : Pool) (h : last_record q ≡ next_record p) where
  pub in-use-taken : (c : ℕ) → InUse q c → InUse p c ⊎ (c ≡ next_record p)
  in-use-taken c u =
      ⊎_elim (λ e. inr e) (λ (ne : c ≡ next_record p → ⊥). inl (u.0, omega (arith, ne, next_last p))) (equal_or_not c (next_record p))

  pub in-use-stays : (c : ℕ) → InUse p c → InUse q c
  in-use-stays c u = (u.0, omega (arith, next_last p))

  pub next-in-use : InUse q (next_record p)
  next-in-use = (omega (arith, next_last p), omega arith)

  pub count-taken : used_count q ≡ used_count p + 1
  count-taken = omega (arith, count-last p, count-last q, next_last p)
