-- The search among the children of a record, whose labels rise along the chain.
--
--     slot_of        where a label stands among them, or would stand
--     child_at       the child with a label
-- Assumes nothing.
use Rattle.std.specs.Prelude.{ℕ, zero, suc, cond, ltb, eqb, Option, None, Some}
use Rattle.records.specs.Words.{Pool, label, first_child, next_sibling, last_record}
use Rattle.pool.specs.declared.siblings.Slot.{Slot}

abbrev pub slot : ℕ → ℕ → Slot
slot a x = record { prev = a; next = x }

-- from sibling x, which follows a, on: the first whose label is not below b, and the one that it follows, within f
-- steps
unfoldable pub slot_from : Pool → (f a x b : ℕ) → Slot
slot_from p zero a x b = slot a x
slot_from p (suc f) a x b =
    cond (eqb x 0) (slot a x) (cond (ltb (label p x) b) (slot_from p f x (next_sibling p x) b) (slot a x))

unfoldable pub slot_of : Pool → (i b : ℕ) → Slot
slot_of p i b = slot_from p (last_record p) 0 (first_child p i) b

-- what stands at its slot, if that is a child with the label
unfoldable pub child_at : Pool → (i b : ℕ) → Option ℕ
child_at p i b =
    cond (eqb (slot_of p i b).next 0) None
    (cond (eqb (label p (slot_of p i b).next) b) (Some (slot_of p i b).next) None)
