-- A file read piece by piece (01, module 8): "at most 65,536 bytes (else it writes only `too long`)"; "A file that
-- can't be read gives only `no file`".
--
--     nothing_read   before the first read
--     take_read      after a read: none where it failed, a count of 0 at the file's end
--     next_at        where the next read goes, and `Finished`: none is wanted
--     what_read      the bytes of the file, as far as the room goes; none where it could not be read
-- Assumes nothing.
use Rattle.std.specs.Prelude.{ℕ, zero, suc, ◌+◌, ◌≤◌, cond, List, take, ltb, Option, None, Some}
use Rattle.catalogue.specs.declared.reading.Reading.{Reading}
use Rattle.catalogue.specs.declared.reading.Stage.{Stage}
use Rattle.catalogue.specs.Limits.{file_limit}

-- one byte more than is taken, so that a longer file is seen
abbrev pub file_room : ℕ
file_room = file_limit + 1

abbrev pub nothing_read : Reading
nothing_read = record { done = 0; stage = Stage.Open }

-- what a read tells behind so many bytes
abbrev pub after_read : ℕ → Option ℕ → Reading
after_read done None = record { done = done; stage = Stage.Failed }
after_read done (Some zero) = record { done = done; stage = Stage.Whole }
after_read done (Some (suc k)) =
    cond (ltb (done + suc k) file_room) (record { done = done + suc k; stage = Stage.Open })
    (record { done = file_room; stage = Stage.Whole })

-- the first while a read is wanted, the second of a file that was read, the third of one that could not be
abbrev pub by_stage : {A : Type 0} → Stage → A → A → A → A
by_stage Stage.Open x y z = x
by_stage Stage.Whole x y z = y
by_stage Stage.Failed x y z = z

abbrev pub take_read : Reading → Option ℕ → Reading
take_read r read = by_stage r.stage (after_read r.done read) r r

abbrev pub next_at : Reading → ℕ
next_at r = by_stage r.stage r.done file_room file_room

abbrev pub Finished : Reading → Type 0
Finished r = file_room ≤ next_at r

-- a file that was not read to its end was not read
abbrev pub what_read : Reading → List ℕ → Option (List ℕ)
what_read r room = by_stage r.stage None (Some (take r.done room)) None
