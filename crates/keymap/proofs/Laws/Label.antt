-- A label and whether there is a value, read back from their one number: a label is below the mark, so the mark tells, and the value does not.
--
--     label_in-label_entry    the label
--     value_in-label_entry    the value, 0 too
--     label_entry-small       the number is below twice the mark
--     label_entry-back        and a number below twice the mark is that of its label and its value
-- Assumes nothing.
use mathlib.Core.Path.{◌≡◌, refl, sym}
use Prim.Native.Nat.{ℕ, ◌*◌, ◌<◌, ◌≤◌}
use native.Mathlib.Omega.{arith}
use mathlib.Core.Bool.{Bool, true, false}
use Rattle.std.specs.Prelude.{Option, None, Some}
use lib.Dec.{leb}
use borrow.Author.Tests.{le-leb, lt-leb, leb-true, leb-false}
use Rattle.keymap.specs.Limits.{byte_limit}
use Rattle.keymap.specs.Label.{mark, label_entry, value_word, label_in, value_in}

pub label_in-label_entry : (a : ℕ) (w : Option ℕ) → a < byte_limit → label_in (label_entry a w) ≡ a
label_in-label_entry a None h = omega arith
label_in-label_entry a (Some v) h = omega arith

pub value_in-label_entry : (a : ℕ) (w : Option ℕ) → a < byte_limit → value_in (label_entry a w) (value_word w) ≡ w
value_in-label_entry a None h = rw (lt-leb mark a h)
value_in-label_entry a (Some v) h =
    let marked : mark ≤ label_entry a (Some v) = omega arith in
    rw (le-leb mark (label_entry a (Some v)) marked)

pub label_entry-small : (a : ℕ) (w : Option ℕ) → a < byte_limit → label_entry a w < 2 * mark
label_entry-small a None h = omega arith
label_entry-small a (Some v) h = omega arith

-- what a number below twice the mark is made of
pub label_entry-back : (e v : ℕ) → e < 2 * mark → label_entry (label_in e) (value_in e v) ≡ e
label_entry-back e v h = go (leb mark e) refl
  where
    go : (b : Bool) → leb mark e ≡ b → label_entry (label_in e) (value_in e v) ≡ e
    go true p = let l : mark ≤ e = leb-true mark e p in rw p (omega arith)
    go false p = let l : e < mark = leb-false mark e p in rw p (omega arith)

pub value_word-back : (e v : ℕ) → (e < mark → v ≡ 0) → value_word (value_in e v) ≡ v
value_word-back e v h = go (leb mark e) refl
  where
    go : (b : Bool) → leb mark e ≡ b → value_word (value_in e v) ≡ v
    go true p = rw p
    go false p = rw p (sym (h (leb-false mark e p)))
