-- Laws of words that are written: each put changes one word, so a record's words after several of them are read off the last put of each.
--
--     filled-..           the five words of a filled record, and the others
--     linked-..           the link that hooks a record in, and the other words
--     marked-..           the marked record's entry, value and label, and the other words
--     length-..           the length stays
-- Assumes nothing.
use Prim.Native.Nat.{ℕ, ◌+◌, ◌<◌}
use mathlib.Core.Path.{◌≡◌, sym, ◌∙◌, ap}
use mathlib.Core.Logic.{⊎_elim}
use native.Mathlib.Omega.{arith}
use lib.ListN.{length}
use borrow.Author.Tests.{eq-eqb, ne_eqb}
use Rattle.keymap.specs.Label.{mark, label_in}
use Rattle.records.specs.Words.{Pool, record_words, word, put, entry, label, value, first_child, next_sibling, parent, last_record}
use Rattle.records.proofs.Laws.Distinct.{equal_or_not}
use Rattle.records.proofs.Laws.Words.{word-put-same, word-put-other, length-put, last-put-other}
use Rattle.pool.specs.Writing.{Inside, filled, linked, marked}

-- ---- a record filled
module _ (p : Pool) (c b x i : ℕ) where
  abbrev entry_put : Pool
  entry_put = put p c 0 b

  abbrev value_put : Pool
  value_put = put entry_put c 1 0

  abbrev child_put : Pool
  child_put = put value_put c 2 0

  abbrev sibling_put : Pool
  sibling_put = put child_put c 3 x

  -- the steps that fill a record
  pub filled-steps : (q₁ q₂ q₃ q₄ q₅ : Pool) → q₁ ≡ put p c 0 b → q₂ ≡ put q₁ c 1 0 → q₃ ≡ put q₂ c 2 0 → q₄ ≡ put q₃ c 3 x → q₅ ≡ put q₄ c 4 i → q₅ ≡ filled p c b x i
  unfolding filled
  filled-steps q₁ q₂ q₃ q₄ q₅ e₁ e₂ e₃ e₄ e₅ = rw (e₅, e₄, e₃, e₂, e₁)

  pub length-filled : length (filled p c b x i) ≡ length p
  unfolding filled
  length-filled = simp length-put

  -- a put that leaves word l of record d
  past : (q : Pool) (k v d l : ℕ) → k < record_words → l < record_words → (c ≡ d → k ≡ l → ⊥) → (r : Pool) → word q d l ≡ word r d l → word (put q c k v) d l ≡ word r d l
  past q k v d l hk hl ne r e = word-put-other q c k v d l hk hl ne ∙ e

  pub filled-other : (d l : ℕ) → l < record_words → (d ≡ c → ⊥) → word (filled p c b x i) d l ≡ word p d l
  unfolding filled
  filled-other d l h ne =
      let off : (k : ℕ) → c ≡ d → k ≡ l → ⊥ = λ k u _. ne (sym u) in
      past sibling_put 4 i d l (omega arith) h (off 4) p (past child_put 3 x d l (omega arith) h (off 3) p (past value_put 2 0 d l (omega arith) h (off 2) p
      (past entry_put 1 0 d l (omega arith) h (off 1) p (word-put-other p c 0 b d l (omega arith) h (off 0)))))

  module _ (inside : Inside p c) where
    pub filled-parent : parent (filled p c b x i) c ≡ i
    unfolding filled
    filled-parent = word-put-same sibling_put c 4 i (simp length-put (omega arith))

    pub filled-sibling : next_sibling (filled p c b x i) c ≡ x
    unfolding filled
    filled-sibling = word-put-other sibling_put c 4 i c 3 (omega arith) (omega arith) (λ _ e. omega arith) ∙ word-put-same child_put c 3 x (simp length-put (omega arith))

    pub filled-child : first_child (filled p c b x i) c ≡ 0
    unfolding filled
    filled-child =
        word-put-other sibling_put c 4 i c 2 (omega arith) (omega arith) (λ _ e. omega arith) ∙ word-put-other child_put c 3 x c 2 (omega arith) (omega arith) (λ _ e. omega arith)
        ∙ word-put-same value_put c 2 0 (simp length-put (omega arith))

    pub filled-value : value (filled p c b x i) c ≡ 0
    unfolding filled
    filled-value =
        word-put-other sibling_put c 4 i c 1 (omega arith) (omega arith) (λ _ e. omega arith) ∙ word-put-other child_put c 3 x c 1 (omega arith) (omega arith) (λ _ e. omega arith)
        ∙ word-put-other value_put c 2 0 c 1 (omega arith) (omega arith) (λ _ e. omega arith) ∙ word-put-same entry_put c 1 0 (simp length-put (omega arith))

    pub filled-entry : entry (filled p c b x i) c ≡ b
    unfolding filled
    filled-entry =
        word-put-other sibling_put c 4 i c 0 (omega arith) (omega arith) (λ _ e. omega arith) ∙ word-put-other child_put c 3 x c 0 (omega arith) (omega arith) (λ _ e. omega arith)
        ∙ word-put-other value_put c 2 0 c 0 (omega arith) (omega arith) (λ _ e. omega arith) ∙ word-put-other entry_put c 1 0 c 0 (omega arith) (omega arith) (λ _ e. omega arith)
        ∙ word-put-same p c 0 b (omega arith)

-- ---- a record hooked in
module _ (p : Pool) (i a m : ℕ) where
  pub linked-first : a ≡ 0 → linked p i a m ≡ put p i 2 m
  unfolding linked
  linked-first e = simp (eq-eqb _ _ e)

  pub linked-next : (a ≡ 0 → ⊥) → linked p i a m ≡ put p a 3 m
  unfolding linked
  linked-next e = simp (ne_eqb _ _ e)

  pub length-linked : length (linked p i a m) ≡ length p
  length-linked = ⊎_elim (λ e. ap length (linked-first e) ∙ simp length-put) (λ ne. ap length (linked-next ne) ∙ simp length-put) (equal_or_not a 0)

  pub linked-other : (d l : ℕ) → l < record_words → (d ≡ i → l ≡ 2 → a ≡ 0 → ⊥) → (d ≡ a → l ≡ 3 → (a ≡ 0 → ⊥) → ⊥) → word (linked p i a m) d l ≡ word p d l
  linked-other d l h off next =
      ⊎_elim (λ e. ap (λ (r : Pool). word r d l) (linked-first e) ∙ word-put-other p i 2 m d l (omega arith) h (λ u v. off (sym u) (sym v) e))
      (λ ne. ap (λ (r : Pool). word r d l) (linked-next ne) ∙ word-put-other p a 3 m d l (omega arith) h (λ u v. next (sym u) (sym v) ne)) (equal_or_not a 0)

-- ---- a record marked
module _ (p : Pool) (t v : ℕ) where
  abbrev entry_marked : Pool
  entry_marked = put p t 0 (label p t + mark)

  pub length_marked : length (marked p t v) ≡ length p
  unfolding marked
  length_marked = simp length-put

  pub marked_other : (c l : ℕ) → l < record_words → (t ≡ c → 1 < l) → word (marked p t v) c l ≡ word p c l
  unfolding marked
  marked_other c l h ne =
      word-put-other entry_marked t 1 v c l (omega arith) h (λ u w. omega (arith, ne u)) ∙ word-put-other p t 0 (label p t + mark) c l (omega arith) h (λ u w. omega (arith, ne u))

  pub marked-last : 0 < t → last_record (marked p t v) ≡ last_record p
  unfolding marked
  marked-last z = last-put-other entry_marked t 1 v (omega arith) (λ u w. omega arith) ∙ last-put-other p t 0 (label p t + mark) (omega arith) (λ u w. omega arith)

  module _ (inside : Inside p t) where
    pub marked-entry : entry (marked p t v) t ≡ label p t + mark
    unfolding marked
    marked-entry = word-put-other entry_marked t 1 v t 0 (omega arith) (omega arith) (λ u w. omega arith) ∙ word-put-same p t 0 (label p t + mark) (omega arith)

    pub marked-value : value (marked p t v) t ≡ v
    unfolding marked
    marked-value = word-put-same entry_marked t 1 v (simp length-put (omega arith))

    pub marked-label : (c : ℕ) → label (marked p t v) c ≡ label p c
    marked-label c =
        ⊎_elim (λ (u : c ≡ t). rw u (omega (arith, marked-entry))) (λ nu. ap label_in (marked_other c 0 (omega arith) (λ u. absurd (nu (sym u))))) (equal_or_not c t)
