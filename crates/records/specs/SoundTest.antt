-- The test of soundness that the code makes. It goes once through the records: each is tested by its own words, then
-- its chain of children is followed,
-- and every record met is counted off, so that chains that loop, cross or leave a record out are found without any
-- memory of them.
--
--     words_fit      five words can be those of a record in use
--     chain_rest     how many records are left to be met after a chain
--     pass_rest      how many are left after the first records and their chains
--     sound_test     the whole test: true exactly of a sound pool
--     check_sound    how a slice that is no sound pool is refused
-- Assumes nothing.
use Rattle.std.specs.Prelude.{ℕ, zero, suc, ◌+◌, Bool, true, false, cond, ◌&&◌, length, leb, ltb, eqb, Option, None, Some, Result, Ok, Err}
use Rattle.keymap.specs.Limits.{byte_limit}
use Rattle.keymap.specs.Label.{mark}
use Rattle.keymap.specs.declared.refusals.Refusal.{Refusal}
use Rattle.records.specs.Words.{Pool, record_words, entry, label, value, first_child, next_sibling, parent}
use Rattle.records.specs.Words.{last_record, used_count, capacity}

-- shut, where `◌&&◌` is not: proofs take a test apart by its laws
unfoldable pub both : Bool → Bool → Bool
both a b = a && b

-- record c with last record n: entry, value, first child, next sibling, parent; nothing is asked of the root
unfoldable pub words_fit : (n c e v f x q : ℕ) → Bool
words_fit n c e v f x q =
    cond (eqb c 0) true
    (both (ltb e (byte_limit + mark))
    (both (leb f n) (both (leb x n) (both (ltb q c) (cond (ltb e mark) (both (eqb v 0) (ltb 0 f)) true)))))

unfoldable pub record_fits : Pool → (n c : ℕ) → Bool
record_fits p n c = words_fit n c (entry p c) (value p c) (first_child p c) (next_sibling p c) (parent p c)

-- x, met in the chain of record c where labels from l on are allowed, is a child of c
unfoldable pub is_child : Pool → (n c x l : ℕ) → Bool
is_child p n c x l = both (leb x n) (both (eqb (parent p x) c) (leb l (label p x)))

-- where so many records are left to be met, and the chain of record c goes on from x with labels from l on
unfoldable pub chain_rest : Pool → (n c left x l : ℕ) → Option ℕ
chain_rest p n c zero x l = cond (eqb x 0) (Some zero) None
chain_rest p n c (suc k) x l =
    cond (eqb x 0) (Some (suc k))
    (cond (is_child p n c x l) (chain_rest p n c k (next_sibling p x) (label p x + 1)) None)

-- after record c and its chain
unfoldable pub record_rest : Pool → (n c : ℕ) → Option ℕ → Option ℕ
record_rest p n c (Some k) = cond (record_fits p n c) (chain_rest p n c k (first_child p c) 0) None
record_rest p n c None = None

-- after records 0 to j - 1 and their chains, where `all` are to be met
unfoldable pub pass_rest : Pool → (n all j : ℕ) → Option ℕ
pass_rest p n all zero = Some all
pass_rest p n all (suc j) = record_rest p n j (pass_rest p n all j)

abbrev pub none_left : Option ℕ → Bool
none_left (Some k) = eqb k 0
none_left None = false

-- the root's words 0, 1, 3 and 4, where there is room for `most` records
unfoldable pub root_fits : (n most v x q : ℕ) → Bool
root_fits n most v x q = both (leb n most) (both (eqb v 0) (both (eqb x 0) (eqb q 0)))

unfoldable pub sound_test : Pool → Bool
sound_test p =
    both (leb record_words (length p))
    (both (root_fits (last_record p) (capacity p) (value p 0) (next_sibling p 0) (parent p 0))
    (none_left (pass_rest p (last_record p) (used_count p) (suc (last_record p)))))

unfoldable pub check_sound : Pool → Result (Unit {0}) Refusal
check_sound p =
    cond (ltb (length p) record_words) (Err Refusal.PoolTooSmall) (cond (sound_test p) (Ok tt) (Err Refusal.NotAPool))
