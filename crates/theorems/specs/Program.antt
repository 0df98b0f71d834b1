-- The program (01, module 8): what it writes, whatever was read. What is said of a text is said by the text and the
-- capacity alone; the pool does not come in.
-- Assumes nothing.
use Rattle.std.specs.Prelude.{ℕ, ◌+◌, ◌≤◌, ◌<◌, ◌≡◌, ◌⊎◌, List, length, None, Some}
use Rattle.lines.specs.Writing.{map_text}
use Rattle.catalogue.specs.Limits.{file_limit, program_capacity}
use Rattle.catalogue.specs.TextAnswers.{text_map}
use Rattle.catalogue.specs.TextCases.{Whole, FirstRefusal}
use Rattle.catalogue.specs.Program.{no_file_text, too_long_text, refused_text, program_text}

pub record ProgramWrites : Type 0 where
  -- "A file that can't be read gives only `no file` and LF"
  pub unread : program_text None ≡ no_file_text
  -- "at most 65,536 bytes (else it writes only `too long` and LF)"
  pub long : (text : List ℕ) → file_limit < length text → program_text (Some text) ≡ too_long_text
  -- "The first refusal stops it, and then it writes only `refused`, space, number, ` line `, line number from 1, LF"
  pub refused : (text : List ℕ) (r : FirstRefusal program_capacity text)
      → program_text (Some text) ≡ refused_text r.number (1 + length r.before)
  -- else it "writes the listing in the same form, each line with LF"
  pub listed : (text : List ℕ) → Whole program_capacity text → program_text (Some text) ≡ map_text (text_map text)
  -- and there is no other file
  pub cases : (text : List ℕ)
      → (file_limit < length text) ⊎ (Whole program_capacity text ⊎ FirstRefusal program_capacity text)
  -- a listing is at most a byte longer than its file, whose last LF may be absent
  pub fits : (text : List ℕ) → length (map_text (text_map text)) ≤ length text + 1
