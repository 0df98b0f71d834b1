-- The program's two limits (01, module 8): it reads "at most 65,536 bytes" and "pushes into a pool of capacity 2,048".
-- Assumes nothing.
use Rattle.std.specs.Prelude.{ℕ}

abbrev pub file_limit : ℕ
file_limit = 65536

abbrev pub program_capacity : ℕ
program_capacity = 2048
