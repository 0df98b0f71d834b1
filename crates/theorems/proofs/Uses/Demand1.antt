-- Uses of demand 1: the slices whose first bit is 0, a pool of 4 words, one that is not sound and A's, each call on them, and what refused calls leave. Assumes nothing.
use Prim.Native.Nat.{ℕ}
use mathlib.Core.Path.{◌≡◌, refl, ap}
use mathlib.Core.List.{List, [], ◌∷◌, cons-ne-nil}
use native.Mathlib.Omega.{arith}
use lib.ListN.{get_or, replicate}
use Rattle.keymap.specs.Key.{Key, begins_with}
use Rattle.keymap.specs.Queries.{keep, beginning, common_prefix_in}
use Rattle.keymap.specs.Prefixes.{prefixes_of, missing}
use Rattle.keymap.specs.Forest.{list_forest, list_tree}
use Rattle.records.specs.Words.{Pool, word, last_record, used_count}
use Rattle.records.specs.Meaning.{siblings_from, forest_below, pool_forest, pool_map}
use Rattle.pool.specs.Answers.{accepted}
use Rattle.pool.specs.Reset.{reset_says, reset_pool}
use Rattle.pool.specs.UseCount.{use_count_says}
use Rattle.pool.specs.Push.{push_says, push_pool}
use Rattle.image.specs.AcceptAnswer.{accept_says}
use Rattle.image.specs.Build.{buffers_fit, build_says, build_labels, build_values, build_words, build_scratch}
use Rattle.lines.specs.Bytes.{holds, stretch}
use Rattle.lines.specs.Decimal.{are_digits, value_after, leading_zero, is_decimal, number_in, decimal, decimal_from}
use Rattle.lines.specs.TabLine.{key_part, number_part, tab_entry, tab_line_says, tab_line_key}
use Rattle.lines.specs.Writing.{tab_line, tab_text, write_line_says, write_line_out}
use Rattle.listings.specs.declared.answers.Kind.{Kind}
use Rattle.listings.specs.declared.answers.Cursor.{Cursor}
use Rattle.searches.specs.Exact.{exact_says, set_values, is_prefix_says}
use Rattle.searches.specs.Prefix.{longest_says, longest_out}
use Rattle.searches.specs.CommonPrefixes.{common_says, common_part}
use Rattle.listings.specs.Cursors.{start_says, step_says}
use Rattle.listings.specs.GivenKey.{key_says, key_out}
use Rattle.places.specs.Incremental.{query_says, query_moves, follow_says, follow_moves, goto_says, goto_moves}
use Rattle.places.specs.Places.{resume_says, value_says, prefix_len_says, prefix_says, prefix_out}
use Rattle.theorems.specs.Demand1.{Damaged, TooSmall, Unsound, SoundPool}
use Rattle.theorems.proofs.Demand1.{every-damaged, every-pool, refusal-keeps}
use Rattle.theorems.proofs.Uses.Values.{a, ab, abc, b, c, image_a, damaged, damaged-lent, words_a, words_a-sound, four, two}
use Rattle.theorems.proofs.Uses.Acceptance.{tests-map}
use Rattle.theorems.proofs.Uses.Demand2.{on_a, longest-room, fifth}

-- ---- slices that are no map's image

of_damaged : Damaged damaged
of_damaged = every-damaged damaged damaged-lent tests-map.1

-- each call says 6, whatever query, place, cursor and buffer is lent besides
pub damaged-six : (q : Key) (k label seen : ℕ) (kind : Kind) (cursor : Cursor) (out : List ℕ) →
    accept_says damaged
    ∷ exact_says damaged q
    ∷ is_prefix_says damaged q
    ∷ longest_says damaged q out
    ∷ common_says damaged q seen
    ∷ start_says kind damaged q
    ∷ step_says damaged cursor
    ∷ key_says damaged cursor out
    ∷ resume_says damaged k
    ∷ value_says damaged k
    ∷ prefix_len_says damaged k
    ∷ prefix_says damaged k out
    ∷ query_says damaged k label
    ∷ follow_says damaged k q
    ∷ goto_says damaged k
    ∷ []
    ≡ replicate 15 (6 ∷ [])
damaged-six q k label seen kind cursor out =
    λ i. of_damaged.accept i
    ∷ of_damaged.exact-match q i
    ∷ of_damaged.is-prefix q i
    ∷ of_damaged.longest-prefix q out i
    ∷ of_damaged.common-prefix q seen i
    ∷ of_damaged.start kind q i
    ∷ of_damaged.step cursor i
    ∷ of_damaged.cursor-key cursor out i
    ∷ of_damaged.resume k i
    ∷ of_damaged.value k i
    ∷ of_damaged.prefix_len k i
    ∷ of_damaged.prefix k out i
    ∷ of_damaged.query k label i
    ∷ of_damaged.query-until k q i
    ∷ of_damaged.goto k i
    ∷ []

-- ---- pools

abbrev short : Pool
short = replicate 4 0

-- a pool that says it has a record, where there is no room for one
abbrev unsound : Pool
unsound = 1 ∷ 0 ∷ 0 ∷ 0 ∷ 0 ∷ []

of_short : TooSmall short
of_short = (every-pool short).too_small (omega arith)

of_unsound : Unsound unsound
unfolding last_record word
of_unsound = (every-pool unsound).unsound (omega arith) (λ s. omega (arith, s.within))

of_sound : SoundPool words_a
of_sound = (every-pool words_a).sound words_a-sound

-- 4 words: each call says 1, whatever key and buffers are lent besides
pub short-one : (k : Key) (ls vs ws qs : List ℕ) → reset_says short ∷ use_count_says short ∷ push_says short k ∷ build_says short ls vs ws qs ∷ [] ≡ replicate 4 (1 ∷ [])
short-one k ls vs ws qs = λ i. of_short.reset i ∷ of_short.use-count i ∷ of_short.push k i ∷ of_short.build ls vs ws qs i ∷ []

-- not sound: each call but reset says 2
pub unsound-two : (k : Key) (ls vs ws qs : List ℕ) → reset_says unsound ∷ use_count_says unsound ∷ push_says unsound k ∷ build_says unsound ls vs ws qs ∷ [] ≡ (0 ∷ []) ∷ replicate 3 (2 ∷ [])
unsound-two k ls vs ws qs = λ i. of_unsound.reset i ∷ of_unsound.use-count i ∷ of_unsound.push k i ∷ of_unsound.build ls vs ws qs i ∷ []

-- A's pool of capacity 3: three records; the empty key says 3, "c" says 4, "ab" is accepted; a scratch slice of two entries says 5
pub sound-says : reset_says words_a ∷ use_count_says words_a ∷ push_says words_a [] ∷ push_says words_a c ∷ push_says words_a ab ∷ build_says words_a four four two two ∷ build_says words_a four four two four ∷ []
    ≡ (0 ∷ []) ∷ (0 ∷ 3 ∷ []) ∷ (3 ∷ []) ∷ (4 ∷ []) ∷ (0 ∷ []) ∷ (5 ∷ []) ∷ (0 ∷ 3 ∷ []) ∷ []
unfolding pool_map pool_forest forest_below siblings_from list_tree list_forest word last_record used_count missing prefixes_of keep beginning begins_with buffers_fit
sound-says =
    λ i. of_sound.reset i
    ∷ of_sound.use-count i
    ∷ of_sound.push-empty i
    ∷ of_sound.push c (cons-ne-nil 99 []) i
    ∷ of_sound.push ab (cons-ne-nil 97 b) i
    ∷ of_sound.build four four two two i
    ∷ of_sound.build four four two four i
    ∷ []

-- so do two label entries or values, and no word
pub sound-needs : (build_says words_a two four two four ≡ 5 ∷ []) × (build_says words_a four two two four ≡ 5 ∷ []) × (build_says words_a four four [] four ≡ 5 ∷ [])
unfolding last_record word used_count buffers_fit
sound-needs = (of_sound.build two four two four, of_sound.build four two two four, of_sound.build four four [] four)

-- ---- what a refusal leaves

-- reset refused 1, push refused 4: the pool stays
pub reset-keeps : reset_pool short ≡ short
reset-keeps = refusal-keeps.reset short (ap accepted of_short.reset)

pub refused-push : push_says words_a c ≡ 4 ∷ []
refused-push = ap (λ (answers : List (List ℕ)). get_or answers 3 []) sound-says

pub push-keeps : (v : ℕ) → push_pool words_a c v ≡ words_a
push-keeps v = refusal-keeps.push words_a c v (ap accepted refused-push)

-- and so does one that is not sound, whatever is pushed
pub unsound-keeps : (k : Key) (v : ℕ) → push_pool unsound k v ≡ unsound
unsound-keeps k v = refusal-keeps.push unsound k v (ap accepted (of_unsound.push k))

-- build refused 5: the four buffers stay
pub build-keeps : (build_labels words_a four four two two ≡ four) × (build_values words_a four four two two ≡ four) × (build_words words_a four four two two ≡ two) × (build_scratch words_a four four two two ≡ two)
build-keeps = refusal-keeps.build words_a four four two two (ap (λ (answers : List (List ℕ)). accepted (get_or answers 5 [])) sound-says)

-- refused 6: the values, the buffers and the places stay, and no part is handed back
pub set-value-keeps : (q : Key) (v : ℕ) → set_values damaged q v ≡ []
set-value-keeps q v = refusal-keeps.set_value damaged q v (ap accepted (of_damaged.exact-match q))

pub longest-prefix-keeps : (q : Key) (out : List ℕ) → longest_out damaged q out ≡ out
longest-prefix-keeps q out = refusal-keeps.longest-prefix damaged q out (ap accepted (of_damaged.longest-prefix q out))

pub cursor-key-keeps : (cursor : Cursor) (out : List ℕ) → key_out damaged cursor out ≡ out
cursor-key-keeps cursor out = refusal-keeps.cursor-key damaged cursor out (ap accepted (of_damaged.cursor-key cursor out))

pub prefix-keeps : (k : ℕ) (out : List ℕ) → prefix_out damaged k out ≡ out
prefix-keeps k out = refusal-keeps.prefix damaged k out (ap accepted (of_damaged.prefix k out))

pub query-keeps : (k label : ℕ) → query_moves damaged k label ≡ k
query-keeps k label = refusal-keeps.query damaged k label (ap accepted (of_damaged.query k label))

pub query-until-keeps : (k : ℕ) (q : Key) → follow_moves damaged k q ≡ k
query-until-keeps k q = refusal-keeps.query-until damaged k q (ap accepted (of_damaged.query-until k q))

pub goto-keeps : (k : ℕ) → goto_moves damaged k ≡ k
goto-keeps k = refusal-keeps.goto damaged k (ap accepted (of_damaged.goto k))

pub common-prefix-keeps : (q : Key) (seen : ℕ) → common_part damaged q seen ≡ []
common-prefix-keeps q seen = refusal-keeps.common-prefix-part damaged q seen (ap accepted (of_damaged.common-prefix q seen))

-- refused 8 and 7 on A's image: so it is there
pub room-keeps : longest_out image_a a (9 ∷ []) ≡ 9 ∷ []
room-keeps = refusal-keeps.longest-prefix image_a a (9 ∷ []) (ap accepted longest-room.0)

pub fifth-keeps : (label : ℕ) (q : Key) (out : List ℕ) → (prefix_out image_a 5 out ≡ out) × (query_moves image_a 5 label ≡ 5) × (follow_moves image_a 5 q ≡ 5) × (goto_moves image_a 5 ≡ 5)
fifth-keeps label q out = (
  refusal-keeps.prefix image_a 5 out (ap accepted (fifth.prefix out)),
  refusal-keeps.query image_a 5 label (ap accepted (fifth.query label)),
  refusal-keeps.query-until image_a 5 q (ap accepted (fifth.query-until q)),
  refusal-keeps.goto image_a 5 (ap accepted fifth.goto),
)

-- no match: "abc" begins with no key of A's that is longer than "ab"
pub common-prefix-none : common_part image_a abc 2 ≡ []
unfolding common_prefix_in keep begins_with
common-prefix-none = refusal-keeps.common-prefix-none image_a abc 2 (on_a.common-prefix abc 2).0

-- refused 9: the line is "x", TAB, "01"
abbrev bad_line : List ℕ
bad_line = 120 ∷ 9 ∷ 48 ∷ 49 ∷ []

pub tab-line-keeps : tab_line_key bad_line ≡ []
unfolding tab_line_says tab_entry key_part number_part holds stretch number_in is_decimal leading_zero are_digits value_after
tab-line-keeps = refusal-keeps.tab-line-key bad_line refl

-- refused 8: "ab", TAB, "7", LF are five bytes
pub write-line-keeps : write_line_out (ab, 7) four ≡ four
unfolding write_line_says tab_text tab_line decimal decimal_from
write-line-keeps = refusal-keeps.write-line (ab, 7) four refl
