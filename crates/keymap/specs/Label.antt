-- A label and whether there is a value, in one number: word 0 of a record and an entry of an image (01: "label, plus
-- 256 if ..").
--
--     label_entry    the number of a label with or without a value
--     value_word     what stands for the value beside it: 0 if there is none, so 0 alone does not tell
--     label_in       the label of such a number
--     value_in       the value, if it is marked as having one
-- Assumes nothing.
use Rattle.std.specs.Prelude.{ℕ, ◌+◌, ◌%◌, cond, leb, Option, None, Some}
use Rattle.keymap.specs.Limits.{byte_limit}

-- what a value adds to the label: the first number that is no label
abbrev pub mark : ℕ
mark = byte_limit

abbrev pub label_entry : ℕ → Option ℕ → ℕ
label_entry a None = a
label_entry a (Some v) = a + mark

abbrev pub value_word : Option ℕ → ℕ
value_word None = 0
value_word (Some v) = v

abbrev pub label_in : ℕ → ℕ
label_in e = e % byte_limit

abbrev pub value_in : ℕ → ℕ → Option ℕ
value_in e v = cond (leb mark e) (Some v) None
