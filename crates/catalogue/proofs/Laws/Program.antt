-- What the program writes, and what it leaves of its rooms.
--
--     fills           a pool of the program's length, after a reset and the lines of a text
--     listing-length  the listing of a text is at most a byte longer than the text
--     unread-written, long-written, refused-written, listed-written  what is written and left, by cases of what was
--                     read
--     listing-fits    a listing has room
-- Assumes nothing.
use mathlib.Core.Path.{◌≡◌, refl, sym, ap, subst, ◌∙◌}
use Prim.Native.Nat.{ℕ, suc, ◌+◌, ◌≤◌, ◌<◌, Ordering}
use native.Mathlib.Omega.{arith}
use mathlib.Core.Bool.{Bool, true, false, cond}
use mathlib.Core.List.{List, [], ◌∷◌, ◌++◌}
use Rattle.std.specs.Prelude.{Option, None, Some, Result}
use lib.ListN.{length, take, length-append, length-take}
use lib.Dec.{eqb}
use borrow.Author.Tests.{lt-ltb, le-ltb, ne_eqb}
use Rattle.keymap.specs.Key.{Key, Bytes, compare_keys}
use Rattle.keymap.specs.Map.{Entry, Map, insert, insert_all}
use Rattle.keymap.specs.Buffers.{over}
use Rattle.records.specs.Words.{Pool, record_words, capacity}
use Rattle.records.specs.Meaning.{pool_map}
use Rattle.pool.specs.Reset.{reset_pool}
use Rattle.image.specs.Build.{build_says, build_labels, build_values, build_words, build_scratch}
use Rattle.lines.specs.Bytes.{line_feed}
use Rattle.lines.specs.TabLine.{tab_entry}
use Rattle.lines.specs.Text.{in_first, lines_of, entry_lines}
use Rattle.lines.specs.Writing.{tab_text, map_text}
use Rattle.lines.proofs.Laws.Writing.{tab_entry-text}
use Rattle.catalogue.specs.declared.filling.Refused.{Refused}
use Rattle.catalogue.specs.declared.reading.Reading.{Reading}
use Rattle.catalogue.specs.declared.reading.Stage.{Stage}
use Rattle.catalogue.specs.Limits.{file_limit, program_capacity}
use Rattle.catalogue.specs.TextAnswers.{text_from, text_says, entries_in, text_map}
use Rattle.catalogue.specs.Filling.{said_filled, fill_from, left_from, fill_pool, HeldIf}
use Rattle.catalogue.specs.Program.{no_file_text, too_long_text, refused_text, program_text}
use Rattle.catalogue.specs.Reading.{by_stage, what_read}
use Rattle.catalogue.specs.Rooms.{program_pool, built_pool, RoomsLeft}
use Rattle.catalogue.proofs.Laws.Filling.{filled-holds}
use Rattle.catalogue.proofs.Laws.TextAnswers.{Told, cause-number, text-told, text-long, text-short, reset-text}

-- ---- a pool of the program's length

pub fills : (p q : Pool) → length p ≡ 10245 → q ≡ reset_pool p → (text : List ℕ) → Bytes text → (r : Result (Unit {0}) Refused) (left : Pool)
    → said_filled r ≡ fill_from 1 q (lines_of text) → left ≡ left_from q (lines_of text)
    → (said_filled r ≡ text_from program_capacity 1 [] (entry_lines text)) × ((left ≡ fill_pool p text) × HeldIf r left text)
unfolding fill_pool entry_lines
fills p q size e text b r left said is =
    let room : capacity p ≡ program_capacity = omega (arith, size) in
    let rooted : record_words ≤ length p = omega (arith, size) in
    let fresh : said_filled r ≡ fill_from 1 (reset_pool p) (lines_of text) = said ∙ ap (λ (x : Pool). fill_from 1 x (lines_of text)) e in
    let kept : left ≡ left_from (reset_pool p) (lines_of text) = is ∙ ap (λ (x : Pool). left_from x (lines_of text)) e in (
      fresh ∙ reset-text p rooted text b ∙ ap (λ (most : ℕ). text_from most 1 [] (lines_of text)) room,
      (kept, subst (λ (x : Pool). HeldIf r x text) (sym kept) (filled-holds p rooted text b r fresh)),
    )

-- ---- the length of a listing

insert-length : (m : Map) (k : Key) (v : ℕ) → length (map_text (insert k v m)) ≤ length (map_text m) + length (tab_text (k, v))
unfolding insert map_text
insert-length [] k v = omega (arith, length-append (tab_text (k, v)) [])
insert-length (e ∷ m) k v = go (compare_keys k e.0) refl (insert-length m k v)
  where
    go : (o : Ordering) → compare_keys k e.0 ≡ o → length (map_text (insert k v m)) ≤ length (map_text m) + length (tab_text (k, v))
        → length (map_text (insert k v (e ∷ m))) ≤ length (map_text (e ∷ m)) + length (tab_text (k, v))
    go Ordering.lt q ih = rw q (omega (arith, length-append (tab_text (k, v)) (tab_text e ++ map_text m)))
    go Ordering.eq q ih = rw q (omega (arith, length-append (tab_text (k, v)) (map_text m), length-append (tab_text e) (map_text m)))
    go Ordering.gt q ih = rw q (omega (arith, ih, length-append (tab_text e) (map_text (insert k v m)), length-append (tab_text e) (map_text m)))

-- the bytes of lines, an LF behind each
unfoldable line_bytes : List (List ℕ) → ℕ
line_bytes [] = 0
line_bytes (l ∷ ls) = suc (length l) + line_bytes ls

lines-length : (text : List ℕ) → line_bytes (lines_of text) ≤ length text + 1
unfolding lines_of line_bytes
lines-length [] = omega arith
lines-length (b ∷ t) = go (eqb b line_feed) refl (lines_of t) (lines-length t)
  where
    longer : (ls : List (List ℕ)) → line_bytes ls ≤ length t + 1 → line_bytes (in_first b ls) ≤ suc (length t) + 1
    longer [] ih = omega arith
    longer (l ∷ ls) ih = omega (arith, ih)

    go : (c : Bool) → eqb b line_feed ≡ c → (ls : List (List ℕ)) → line_bytes ls ≤ length t + 1 → line_bytes (cond (eqb b line_feed) ([] ∷ ls) (in_first b ls)) ≤ suc (length t) + 1
    go true e ls ih = rw e (omega (arith, ih))
    go false e ls ih = rw e (longer ls ih)

entries-length : (ls : List (List ℕ)) (m : Map) → length (map_text (insert_all (entries_in ls) m)) ≤ length (map_text m) + line_bytes ls
unfolding entries_in insert_all line_bytes
entries-length [] m = omega arith
entries-length (l ∷ ls) m = go (tab_entry l) refl (λ n. entries-length ls n)
  where
    go : (o : Option Entry) → tab_entry l ≡ o → ((n : Map) → length (map_text (insert_all (entries_in ls) n)) ≤ length (map_text n) + line_bytes ls)
        → length (map_text (insert_all (entries_in (l ∷ ls)) m)) ≤ length (map_text m) + (suc (length l) + line_bytes ls)
    go None f ih = rw f (omega (arith, ih m))
    go (Some e) f ih =
        let text : length (tab_text e) ≡ length l + 1 = ap length (sym (tab_entry-text l e f)) ∙ length-append l (line_feed ∷ []) in
        rw f (omega (arith, ih (insert e.0 e.1 m), insert-length m e.0 e.1, text))

pub listing-length : (text : List ℕ) → length (map_text (text_map text)) ≤ length text + 1
unfolding entry_lines map_text
listing-length text = omega (arith, entries-length (lines_of text) [], lines-length text)

-- ---- what is written and left

-- a refusal has a number
refused-number : (text : List ℕ) (number line : ℕ) → text_says program_capacity text ≡ number ∷ line ∷ [] → ¬ (number ≡ 0)
refused-number text number line h z = go (text-told program_capacity text)
  where
    go : Told program_capacity text (text_says program_capacity text) → ⊥
    go (Told.too_long l s) = let q : [] ≡ number ∷ line ∷ [] = sym s ∙ h in let x : ◌≡◌ {A = ℕ} 0 1 = cc in omega arith
    go (Told.whole w s) = let q : 0 ∷ [] ≡ number ∷ line ∷ [] = sym s ∙ h in let x : ◌≡◌ {A = ℕ} 0 1 = cc in omega arith
    go (Told.refused l t s) =
        let q : t.number ∷ (1 + length t.before) ∷ [] ≡ number ∷ line ∷ [] = sym s ∙ h in
        let same : t.number ≡ number = cc in
        cause-number program_capacity (insert_all (entries_in t.before) []) t.line t.number t.cause (same ∙ z)

module _ (w : Option (List ℕ)) (p ls vs ws qs out₀ : List ℕ) where
  -- what is put at the start is t, and nothing is built
  unbuilt : (t q : List ℕ) → program_text w ≡ t → program_pool w p ≡ q → built_pool w p ≡ [] → (r : ℕ) (out : List ℕ) → r ≡ length t → out ≡ over t out₀
      → RoomsLeft w p ls vs ws qs out₀ r out q ls vs ws qs
  unfolding build_labels build_values build_words build_scratch build_says
  unbuilt t q text pool none-built r out e o = rw (text, pool, none-built) (e, (o, (refl, (refl, (refl, (refl, refl))))))

  -- t is put, and the pool is built
  built : (t q : List ℕ) → program_text w ≡ t → program_pool w p ≡ q → built_pool w p ≡ q → (r : ℕ) (out ls₁ vs₁ ws₁ qs₁ : List ℕ) → r ≡ length t → out ≡ over t out₀
      → (ls₁ ≡ build_labels q ls vs ws qs) × ((vs₁ ≡ build_values q ls vs ws qs) × ((ws₁ ≡ build_words q ls vs ws qs) × (qs₁ ≡ build_scratch q ls vs ws qs)))
      → RoomsLeft w p ls vs ws qs out₀ r out q ls₁ vs₁ ws₁ qs₁
  built t q text pool same r out ls₁ vs₁ ws₁ qs₁ e o left = rw (text, pool, same) (e, (o, (refl, left)))

unread : (s : Stage) (text : List ℕ) → ¬ (s ≡ Stage.Whole) → by_stage s None (Some text) None ≡ None
unread Stage.Open text n = refl
unread Stage.Whole text n = absurd (n refl)
unread Stage.Failed text n = refl

module _ (rd : Reading) (room p ls vs ws qs out₀ : List ℕ) where
  abbrev what : Option (List ℕ)
  what = what_read rd room

  pub unread-written : ¬ (rd.stage ≡ Stage.Whole) → (r : ℕ) (out : List ℕ) → r ≡ length no_file_text → out ≡ over no_file_text out₀ → RoomsLeft what p ls vs ws qs out₀ r out p ls vs ws qs
  unfolding program_text program_pool built_pool
  unread-written f r out e o = let k = unread rd.stage (take rd.done room) f in unbuilt what p ls vs ws qs out₀ no_file_text p (rw k) (rw k) (rw k) r out e o

  pub long-written : rd.stage ≡ Stage.Whole → file_limit < rd.done → file_limit < length room → (r : ℕ) (out : List ℕ) → r ≡ length too_long_text → out ≡ over too_long_text out₀
      → RoomsLeft what p ls vs ws qs out₀ r out p ls vs ws qs
  unfolding program_text program_pool built_pool
  long-written f h l r out e o =
      let text : List ℕ = take rd.done room in
      let long : file_limit < length text = omega (arith, h, l, length-take rd.done room) in
      let says : text_says program_capacity text ≡ [] = text-long program_capacity text long in
      unbuilt what p ls vs ws qs out₀ too_long_text p (rw (f, says)) (rw (f, lt-ltb file_limit (length text) long)) (rw (f, says)) r out e o

  module _ (f : rd.stage ≡ Stage.Whole) (h : rd.done ≤ file_limit) where
    abbrev text : List ℕ
    text = take rd.done room

    short : length text ≤ file_limit
    short = omega (arith, h, length-take rd.done room)

    pub refused-written : (number line : ℕ) → number ∷ line ∷ [] ≡ text_from program_capacity 1 [] (entry_lines text) → (q : Pool) → q ≡ fill_pool p text → (r : ℕ) (out : List ℕ)
        → r ≡ length (refused_text number line) → out ≡ over (refused_text number line) out₀ → RoomsLeft what p ls vs ws qs out₀ r out q ls vs ws qs
    unfolding program_text program_pool built_pool
    refused-written number line said q left r out e o =
        let says : text_says program_capacity text ≡ number ∷ line ∷ [] = text-short program_capacity text short ∙ sym said in
        let stopped : eqb number 0 ≡ false = ne_eqb number 0 (refused-number text number line says) in
        unbuilt what p ls vs ws qs out₀ (refused_text number line) q (rw (f, says)) (rw (f, le-ltb file_limit (length text) short) (sym left)) (rw (f, says, stopped)) r out e o

    pub listed-written : (q : Pool) → 0 ∷ [] ≡ text_from program_capacity 1 [] (entry_lines text) → q ≡ fill_pool p text → pool_map q ≡ text_map text → (r : ℕ) (out ls₁ vs₁ ws₁ qs₁ : List ℕ)
        → r ≡ length (map_text (pool_map q)) → out ≡ over (map_text (pool_map q)) out₀
        → (ls₁ ≡ build_labels q ls vs ws qs) × ((vs₁ ≡ build_values q ls vs ws qs) × ((ws₁ ≡ build_words q ls vs ws qs) × (qs₁ ≡ build_scratch q ls vs ws qs)))
        → RoomsLeft what p ls vs ws qs out₀ r out q ls₁ vs₁ ws₁ qs₁
    unfolding program_text program_pool built_pool
    listed-written q said left holds r out ls₁ vs₁ ws₁ qs₁ e o buffers =
        let says : text_says program_capacity text ≡ 0 ∷ [] = text-short program_capacity text short ∙ sym said in
        built what p ls vs ws qs out₀ (map_text (text_map text)) q (rw (f, says)) (rw (f, le-ltb file_limit (length text) short) (sym left)) (rw (f, says) (sym left)) r out ls₁ vs₁ ws₁ qs₁
        (e ∙ ap (λ (m : Map). length (map_text m)) holds) (o ∙ ap (λ (m : Map). over (map_text m) out₀) holds) buffers

    pub listing-fits : (q : Pool) → pool_map q ≡ text_map text → length (map_text (pool_map q)) ≤ file_limit + 1
    listing-fits q holds = omega (arith, ap (λ (m : Map). length (map_text m)) holds, listing-length text, short)
