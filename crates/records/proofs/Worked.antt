-- Soundness on pools of which each breaks one condition of 01's list, one table: the pool that A's pushes ("ab" 7, "b" 3) leave and pools that are sound as it is,
-- then pools of which one thing is changed. The test is computed, and with it soundness is told of each.
--
--     lines                a pool's words, and whether they are sound
--     worked-tests         what the test says of each line
--     worked-soundness     each line's pool is sound exactly if the line says so
--     worked-capacity      a long pool has room for 4,096 records
--     worked-most          more than these are never sound, however long the pool
-- Assumes nothing.
use Prim.Native.Nat.{◌<◌, ◌≤◌}
use mathlib.Core.Path.{◌≡◌, refl, sym, subst}
use mathlib.Core.Bool.{Bool, true, false}
use mathlib.Core.Logic.{◌↔◌}
use mathlib.Core.List.{List, [], ◌∷◌, ◌++◌, map}
use native.Mathlib.Omega.{arith}
use lib.ListN.{length}
use Rattle.keymap.specs.Members.{In, here, there}
use Rattle.records.specs.Words.{Pool, word, last_record, used_count, capacity}
use Rattle.records.specs.Sound.{Sound}
use Rattle.records.specs.SoundTest.{both, words_fit, record_fits, is_child, chain_rest, record_rest, pass_rest, root_fits, sound_test}
use Rattle.records.proofs.Laws.SoundTest.{said-means-sound}

pub record Line : Type 0 where
  pub words : Pool
  pub sound : Bool

abbrev sound : Pool → Line
sound p = record { words = p; sound = true }

abbrev broken : Pool → Line
broken p = record { words = p; sound = false }

-- A's records: the root, "a", "ab" 7, "b" 3
abbrev root : Pool
root = 3 ∷ 0 ∷ 1 ∷ 0 ∷ 0 ∷ []

abbrev a : Pool
a = 97 ∷ 0 ∷ 2 ∷ 3 ∷ 0 ∷ []

abbrev ab : Pool
ab = 354 ∷ 7 ∷ 0 ∷ 0 ∷ 1 ∷ []

abbrev b : Pool
b = 354 ∷ 3 ∷ 0 ∷ 0 ∷ 0 ∷ []

unfoldable pub lines : List Line
lines =
    -- A's pool, with no other word; with surplus words; with a record above n that holds anything
    sound (root ++ a ++ ab ++ b)
    ∷ sound (root ++ a ++ ab ++ b ++ (9 ∷ 512 ∷ 4294967295 ∷ []))
    ∷ sound (root ++ a ++ ab ++ b ++ (999 ∷ 9 ∷ 9 ∷ 9 ∷ 9 ∷ []))
    -- a reset pool; value 0, which is a value; a key and a longer one; a fourth record, "c" 1
    ∷ sound (0 ∷ 0 ∷ 0 ∷ 0 ∷ 0 ∷ [])
    ∷ sound (root ++ a ++ ab ++ (354 ∷ 0 ∷ 0 ∷ 0 ∷ 0 ∷ []))
    ∷ sound (root ++ (353 ∷ 5 ∷ 2 ∷ 3 ∷ 0 ∷ []) ++ ab ++ b)
    ∷ sound ((4 ∷ 0 ∷ 1 ∷ 0 ∷ 0 ∷ []) ++ a ++ ab ++ (354 ∷ 3 ∷ 0 ∷ 4 ∷ 0 ∷ []) ++ (355 ∷ 1 ∷ 0 ∷ 0 ∷ 0 ∷ []))
    -- "n is at most capacity": of the same words the last, which is 0, is left out, so that there is room for three records
    ∷ broken ((4 ∷ 0 ∷ 1 ∷ 0 ∷ 0 ∷ []) ++ a ++ ab ++ (354 ∷ 3 ∷ 0 ∷ 4 ∷ 0 ∷ []) ++ (355 ∷ 1 ∷ 0 ∷ 0 ∷ []))
    -- no whole root
    ∷ broken (0 ∷ 0 ∷ 0 ∷ 0 ∷ [])
    -- "The root has 0 in words 1, 3 and 4"
    ∷ broken ((3 ∷ 1 ∷ 1 ∷ 0 ∷ 0 ∷ []) ++ a ++ ab ++ b)
    ∷ broken ((3 ∷ 0 ∷ 1 ∷ 1 ∷ 0 ∷ []) ++ a ++ ab ++ b)
    ∷ broken ((3 ∷ 0 ∷ 1 ∷ 0 ∷ 1 ∷ []) ++ a ++ ab ++ b)
    -- "word 0 is below 512"
    ∷ broken (root ++ a ++ ab ++ (866 ∷ 3 ∷ 0 ∷ 0 ∷ 0 ∷ []))
    -- "words 2 and 3 are at most n": then the chain names no record either
    ∷ broken (root ++ a ++ (354 ∷ 7 ∷ 4 ∷ 0 ∷ 1 ∷ []) ++ b)
    ∷ broken (root ++ a ++ ab ++ (354 ∷ 3 ∷ 0 ∷ 4 ∷ 0 ∷ []))
    -- "the parent's number is below its own": "ab" before "a"; a record that is its own parent and child
    ∷ broken ((2 ∷ 0 ∷ 2 ∷ 0 ∷ 0 ∷ []) ++ (354 ∷ 7 ∷ 0 ∷ 0 ∷ 2 ∷ []) ++ (97 ∷ 0 ∷ 1 ∷ 0 ∷ 0 ∷ []))
    ∷ broken ((1 ∷ 0 ∷ 0 ∷ 0 ∷ 0 ∷ []) ++ (97 ∷ 0 ∷ 1 ∷ 0 ∷ 1 ∷ []))
    -- "a record without value has value word 0 and a child"
    ∷ broken (root ++ (97 ∷ 5 ∷ 2 ∷ 3 ∷ 0 ∷ []) ++ ab ++ b)
    ∷ broken (root ++ a ++ ab ++ (98 ∷ 0 ∷ 0 ∷ 0 ∷ 0 ∷ []))
    -- "its first child and the sibling chain from it name exactly the records whose parent it is": a chain that loops, one that crosses another,
    -- one that leaves "b" out, a root that has no child, one whose child is none of the records, a child whose parent is another
    ∷ broken (root ++ a ++ ab ++ (354 ∷ 3 ∷ 0 ∷ 1 ∷ 0 ∷ []))
    ∷ broken (root ++ a ++ (354 ∷ 7 ∷ 0 ∷ 3 ∷ 1 ∷ []) ++ b)
    ∷ broken (root ++ (97 ∷ 0 ∷ 2 ∷ 0 ∷ 0 ∷ []) ++ ab ++ b)
    ∷ broken ((3 ∷ 0 ∷ 0 ∷ 0 ∷ 0 ∷ []) ++ a ++ ab ++ b)
    ∷ broken ((3 ∷ 0 ∷ 4 ∷ 0 ∷ 0 ∷ []) ++ a ++ ab ++ b)
    ∷ broken (root ++ a ++ (354 ∷ 7 ∷ 0 ∷ 0 ∷ 0 ∷ []) ++ b)
    -- "labels strictly rising": two of one label, of which one has the mark; labels that fall
    ∷ broken (root ++ (98 ∷ 0 ∷ 2 ∷ 3 ∷ 0 ∷ []) ++ ab ++ b)
    ∷ broken (root ++ (99 ∷ 0 ∷ 2 ∷ 3 ∷ 0 ∷ []) ++ ab ++ b)
    ∷ []

pub worked-tests : map (λ (l : Line). sound_test l.words) lines ≡ map (λ (l : Line). l.sound) lines
unfolding lines sound_test root_fits pass_rest record_rest chain_rest is_child record_fits words_fit both word last_record used_count
worked-tests = refl

-- what is said of each line in a list is said of one
told : (ls : List Line) (l : Line) → In l ls → map (λ (k : Line). sound_test k.words) ls ≡ map (λ (k : Line). k.sound) ls → l.sound ≡ sound_test l.words
told [] l j h = elim j [ ]
told (k ∷ ls) l (here e) h = let first : sound_test k.words ≡ k.sound = cc in subst (λ (x : Line). x.sound ≡ sound_test x.words) (sym e) (sym first)
told (k ∷ ls) l (there j) h = told ls l j cc

pub worked-soundness : (l : Line) → In l lines → (l.sound ≡ true) ↔ Sound l.words
worked-soundness l j = said-means-sound l.words l.sound (told lines l j worked-tests)

-- "the smaller of 4,096 and ..": 4,097 times five words and more have room for 4,096 records
pub worked-capacity : (p : Pool) → 20485 ≤ length p → capacity p ≡ 4096
worked-capacity p h = omega arith

pub worked-most : (p : Pool) → 4096 < last_record p → Sound p → ⊥
worked-most p more s = omega (arith, s.within)
