-- What is left of the rooms that the program works in, by what was read.
--
--     program_pool   the pool: a file that is too long or could not be read leaves it as it was
--     built_pool     the pool that is built: that of a text whose lines are all pushed; else no words, of which no
--                    build writes anything; `built_from`: by what a contract names
--     RoomsLeft      what a call leaves: the bytes written, and each room
-- Assumes nothing.
use Rattle.std.specs.Prelude.{◌≡◌, cond, List, [], ℕ, length, ltb, Option, None, Some}
use Rattle.std.specs.Borrow.{Bor, MutBor}
use denote.Triple.Both.{Both}
use Rattle.keymap.specs.Buffers.{over}
use Rattle.records.specs.Words.{Pool}
use Rattle.pool.specs.Answers.{accepted}
use Rattle.image.specs.Build.{build_labels, build_values, build_words, build_scratch}
use Rattle.catalogue.specs.declared.reading.Reading.{Reading}
use Rattle.catalogue.specs.Limits.{file_limit, program_capacity}
use Rattle.catalogue.specs.Reading.{what_read}
use Rattle.catalogue.specs.Filling.{fill_pool}
use Rattle.catalogue.specs.TextAnswers.{text_says}
use Rattle.catalogue.specs.Program.{program_text}

unfoldable pub program_pool : Option (List ℕ) → Pool → Pool
program_pool None p = p
program_pool (Some text) p = cond (ltb file_limit (length text)) p (fill_pool p text)

unfoldable pub built_pool : Option (List ℕ) → Pool → Pool
built_pool None p = []
built_pool (Some text) p = cond (accepted (text_says program_capacity text)) (fill_pool p text) []

-- the same, of a file's bytes and a pool as they were lent to a call
abbrev pub built_from : {X Y : Type 0} → Reading → Both (Bor (List ℕ)) X → Both (MutBor (List ℕ)) Y → Pool
built_from reading text pool = built_pool (what_read reading text.entry.now) pool.entry.now

-- the number of bytes, the buffer they are put into, the pool and the buffers of the build
abbrev pub RoomsLeft : Option (List ℕ) → (p ls vs ws qs out₀ : List ℕ) → ℕ → (out q ls₁ vs₁ ws₁ qs₁ : List ℕ) → Type 0
RoomsLeft w p ls vs ws qs out₀ r out q ls₁ vs₁ ws₁ qs₁ =
    (r ≡ length (program_text w)) ×
    ((out ≡ over (program_text w) out₀) ×
    ((q ≡ program_pool w p) ×
    ((ls₁ ≡ build_labels (built_pool w p) ls vs ws qs) ×
    ((vs₁ ≡ build_values (built_pool w p) ls vs ws qs) ×
    ((ws₁ ≡ build_words (built_pool w p) ls vs ws qs) ×
    (qs₁ ≡ build_scratch (built_pool w p) ls vs ws qs))))))
