-- The labels on the way up from a node, in a buffer, on any bits; and the bytes of a path in one.
--
--     has_entry      a node has an entry
--     spelled_by     the buffer with the labels on the way up written to its front, from the last to the first
--     last_bytes     the last bytes of a path
--     spelled_to     the buffer with those written to its front
--     said_spelled   the answer of a call that writes a path, in 01's numbers
-- Assumes nothing.
use Rattle.std.specs.Prelude.{ℕ, zero, suc, ◌+◌, ◌-◌, Bool, cond, ◌&&◌, List, ◌++◌, length, get_or, drop, set, leb, Option, None, Some, Result}
use Rattle.keymap.specs.Key.{Key}
use Rattle.keymap.specs.Label.{label_in}
use Rattle.keymap.specs.Answers.{said, told_count}
use Rattle.keymap.specs.declared.refusals.Refusal.{Refusal}
use Rattle.climbs.specs.Perches.{parent_by}

-- of n entries; node m of 2 or more has entry m-2
unfoldable pub has_entry : ℕ → ℕ → Bool
has_entry n m = leb 2 m && leb m (n + 1)

-- from where a climb is, with so many places left at the front of the buffer; it ends at a node that has no entry, and
-- where there is no parent
unfoldable pub spelled_from : List ℕ → (ℕ → ℕ) → ℕ → ℕ → Option ℕ → List ℕ → List ℕ
spelled_from ls b len zero at out = out
spelled_from ls b len (suc left) None out = out
spelled_from ls b len (suc left) (Some k) out =
    cond (has_entry (length ls) k)
    (spelled_from ls b len left (parent_by b len k) (set out left (label_in (get_or ls (k - 2) 0)))) out

-- a buffer shorter than what is to be written stays as it is
unfoldable pub spelled_by : List ℕ → (ℕ → ℕ) → ℕ → ℕ → ℕ → List ℕ → List ℕ
spelled_by ls b len k count out = cond (leb count (length out)) (spelled_from ls b len count (Some k) out) out

-- the last n bytes of a path
unfoldable pub last_bytes : ℕ → Key → Key
last_bytes n p = drop (length p - n) p

-- the buffer with those written to its front
abbrev pub spelled_to : ℕ → Key → List ℕ → List ℕ
spelled_to n p out = last_bytes n p ++ drop n out

-- a refusal is its number alone; else 0, and how many bytes were written
abbrev pub said_spelled : Result ℕ Refusal → List ℕ
said_spelled = said told_count
