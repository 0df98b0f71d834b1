-- What the program writes (01, module 8), by what was read: the bytes of the file, or none where it could not be read.
--
--     program_text   "A file that can't be read gives only `no file` and LF"; more than 65,536 bytes only "`too long`
--                    and LF"; "The first refusal stops it, and then it writes only `refused`, space, number, ` line `,
--                    line number from 1, LF"; else "the listing in the same form, each line with LF"
--     answer_text    the same of a text that was read, by what it is answered
-- Assumes nothing.
use Rattle.std.specs.Prelude.{ℕ, List, [], ◌∷◌, ◌++◌, Option, None, Some}
use Rattle.keymap.specs.Map.{Map}
use Rattle.lines.specs.Bytes.{line_feed}
use Rattle.lines.specs.Decimal.{decimal}
use Rattle.lines.specs.Writing.{map_text}
use Rattle.catalogue.specs.Limits.{program_capacity}
use Rattle.catalogue.specs.TextAnswers.{text_says, text_map}

-- `no file` and LF
abbrev pub no_file_text : List ℕ
no_file_text = 110 ∷ 111 ∷ 32 ∷ 102 ∷ 105 ∷ 108 ∷ 101 ∷ line_feed ∷ []

-- `too long` and LF
abbrev pub too_long_text : List ℕ
too_long_text = 116 ∷ 111 ∷ 111 ∷ 32 ∷ 108 ∷ 111 ∷ 110 ∷ 103 ∷ line_feed ∷ []

-- `refused` and a space
abbrev pub refused_word : List ℕ
refused_word = 114 ∷ 101 ∷ 102 ∷ 117 ∷ 115 ∷ 101 ∷ 100 ∷ 32 ∷ []

-- `line` between spaces
abbrev pub line_word : List ℕ
line_word = 32 ∷ 108 ∷ 105 ∷ 110 ∷ 101 ∷ 32 ∷ []

unfoldable pub refused_text : (number line : ℕ) → List ℕ
refused_text number line = refused_word ++ (decimal number ++ (line_word ++ (decimal line ++ (line_feed ∷ []))))

-- by what `text_says` says: nothing of a text that is too long, the number and the line of a refusal, 0 where every
-- line is pushed
abbrev pub answer_text : Map → List ℕ → List ℕ
answer_text m [] = too_long_text
answer_text m (n ∷ []) = map_text m
answer_text m (n ∷ l ∷ ns) = refused_text n l

unfoldable pub program_text : Option (List ℕ) → List ℕ
program_text None = no_file_text
program_text (Some text) = answer_text (text_map text) (text_says program_capacity text)
