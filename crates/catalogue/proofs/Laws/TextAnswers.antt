-- Laws of what a text is answered. A sound pool's words answer what its map tells of the text, so every answer, 0 among them, is told by the text alone.
--
--     text-goes, text-stops        a line is pushed, and goes on with the map that has its entry; or it is 9, 3 or 4
--                                  with its number, each for its one cause
--     text-behind, text-refuses    lines behind lines that are all pushed go on with their number and their map, and
--                                  the first that has a cause is the answer
--     Stopped, text-answers        there is no other answer: 0, or the first refusal behind lines that are all pushed
--     text-accepts, text-accepted  0 is answered exactly when every line is an entry of a nonempty key, and all
--                                  prefixes are at most the capacity
--     Told, text-told, text-whole  the same of a text of any length, so that 1 and 2 never come; `text-long`,
--                                  `text-short`: a text by its length
--     fill-text, reset-text        what a sound pool answers of lines, and a pool that is reset of a text
-- Assumes nothing.
use mathlib.Core.Path.{◌≡◌, refl, sym, ap, ◌∙◌}
use mathlib.Core.Logic.{◌↔◌, ◌⊎◌, inl, inr}
use Prim.Native.Nat.{ℕ, suc, ◌+◌, ◌≤◌, ◌<◌}
use native.Mathlib.Omega.{arith}
use mathlib.Core.Bool.{Bool, true, false, cond}
use mathlib.Core.List.{List, [], ◌∷◌, ◌++◌}
use Rattle.std.specs.Prelude.{Option, None, Some}
use lib.ListN.{length}
use lib.Dec.{leb, ltb}
use borrow.Author.Tests.{ne_eqb, leb-true, leb-false, lt-leb, ltb-true, ltb-false, lt-ltb, le-ltb}
use Rattle.keymap.specs.Key.{Key, Bytes}
use Rattle.keymap.specs.Map.{Entry, Map, Rising, insert, insert_all}
use Rattle.keymap.specs.Prefixes.{prefixes}
use Rattle.keymap.proofs.Laws.Prefixes.{prefixes-empty}
use Rattle.keymap.specs.Refusals.{refusal_number, refuses}
use Rattle.keymap.specs.declared.refusals.Refusal.{Refusal}
use Rattle.keymap.proofs.Laws.Map.{insert-rising}
use Rattle.records.specs.Words.{Pool, record_words, capacity}
use Rattle.records.specs.Sound.{Sound}
use Rattle.records.specs.Meaning.{pool_map}
use Rattle.pool.specs.Answers.{accepted}
use Rattle.pool.specs.Reset.{reset_pool}
use Rattle.pool.specs.Push.{push_says, push_pool}
use Rattle.pool.specs.History.{PoolCall, map_says}
use Rattle.pool.proofs.Laws.Reset.{reset-sound, length-reset}
use Rattle.pool.proofs.Laws.Push.{push-keeps, length_push}
use Rattle.pool.proofs.Laws.Meaning.{reset-means-empty, push-means-insert}
use Rattle.pool.proofs.Laws.History.{call-says, prefixes-insert_all, fits-says}
use Rattle.lines.specs.TabLine.{tab_entry}
use Rattle.lines.specs.Text.{entry_lines}
use Rattle.catalogue.specs.Limits.{file_limit}
use Rattle.catalogue.specs.Filling.{fill_from}
use Rattle.catalogue.specs.TextCases.{Cause, bad, empty_key, no_room, Whole}
use Rattle.catalogue.specs.TextAnswers.{text_from, text_says, entries_in, AllEntries}
use Rattle.catalogue.proofs.Laws.Filling.{AllBytes, key-bytes, lines-bytes}

-- ---- one line

-- a line is pushed or refused
data Line (most : ℕ) (m : Map) (l : List ℕ) : Type 0 where
  goes : (e : Entry) → tab_entry l ≡ Some e → ¬ (e.0 ≡ []) → length (prefixes (insert e.0 e.1 m)) ≤ most → Line most m l
  stops : (number : ℕ) → Cause most m l number → Line most m l

line_view : (most : ℕ) (m : Map) (l : List ℕ) → Line most m l
line_view most m l = go (tab_entry l) refl
  where
    room : (e : Entry) → tab_entry l ≡ Some e → ¬ (e.0 ≡ []) → (t : Bool) → leb (length (prefixes (insert e.0 e.1 m))) most ≡ t → Line most m l
    room e f d true h = goes e f d (leb-true _ _ h)
    room e f d false h = stops (refusal_number Refusal.NoRoom) (no_room e f d (leb-false _ _ h) refl)

    keyed : (e : Entry) → tab_entry l ≡ Some e → (k : Key) → e.0 ≡ k → Line most m l
    keyed e f [] z = stops (refusal_number Refusal.EmptyKey) (empty_key e f z refl)
    keyed e f (b ∷ k) z = room e f (λ n. let o : b ∷ k ≡ [] = sym z ∙ n in absurd (let q : ◌≡◌ {A = ℕ} 0 1 = cc in omega arith)) (leb (length (prefixes (insert e.0 e.1 m))) most) refl

    go : (o : Option Entry) → tab_entry l ≡ o → Line most m l
    go None f = stops (refusal_number Refusal.BadLine) (bad f refl)
    go (Some e) f = keyed e f e.0 refl

empty-says : (most : ℕ) (m : Map) (v : ℕ) (k : Key) → k ≡ [] → map_says most m (PoolCall.push k v) ≡ refuses Refusal.EmptyKey
empty-says most m v k z = rw z refl

full-says : (most : ℕ) (m : Map) (v : ℕ) (k : Key) → ¬ (k ≡ []) → most < length (prefixes (insert k v m))
    → map_says most m (PoolCall.push k v) ≡ refuses Refusal.NoRoom
full-says most m v [] d many = absurd (d refl)
full-says most m v (b ∷ k) d many = rw (ne_eqb (length (b ∷ k)) 0 (λ e. omega arith), lt-leb _ _ many)

module _ (most n : ℕ) (m : Map) (l : List ℕ) (ls : List (List ℕ)) where
  entry-told : (e : Entry) → tab_entry l ≡ Some e → (a : List ℕ) → map_says most m (PoolCall.push e.0 e.1) ≡ a
      → text_from most n m (l ∷ ls) ≡ cond (accepted a) (text_from most (suc n) (insert e.0 e.1 m) ls) (a ++ (n ∷ []))
  unfolding text_from
  entry-told e f a says = rw f (ap (λ (s : List ℕ). cond (accepted s) (text_from most (suc n) (insert e.0 e.1 m) ls) (s ++ (n ∷ []))) says)

  pub text-goes : (e : Entry) → tab_entry l ≡ Some e → ¬ (e.0 ≡ []) → length (prefixes (insert e.0 e.1 m)) ≤ most
      → text_from most n m (l ∷ ls) ≡ text_from most (suc n) (insert e.0 e.1 m) ls
  text-goes e f d few = entry-told e f (0 ∷ []) (fits-says most m e.0 e.1 d few)

  pub text-stops : (number : ℕ) → Cause most m l number → text_from most n m (l ∷ ls) ≡ number ∷ n ∷ []
  unfolding text_from
  text-stops number (bad f a) = rw (f, a) refl
  text-stops number (empty_key e f z a) = rw a (entry-told e f (refuses Refusal.EmptyKey) (empty-says most m e.1 e.0 z))
  text-stops number (no_room e f d many a) = rw a (entry-told e f (refuses Refusal.NoRoom) (full-says most m e.1 e.0 d many))

pub cause-number : (most : ℕ) (m : Map) (l : List ℕ) (number : ℕ) → Cause most m l number → ¬ (number ≡ 0)
cause-number most m l number (bad f a) z = omega (arith, a, z)
cause-number most m l number (empty_key e f z a) o = omega (arith, a, o)
cause-number most m l number (no_room e f d many a) z = omega (arith, a, z)

-- so an answer of 0 is no refusal's
not_stopped : (most n : ℕ) (m : Map) (l : List ℕ) (ls : List (List ℕ)) (number : ℕ) → Cause most m l number → ¬ (text_from most n m (l ∷ ls) ≡ 0 ∷ [])
not_stopped most n m l ls number c h =
    let told : number ∷ n ∷ [] ≡ 0 ∷ [] = sym (text-stops most n m l ls number c) ∙ h in
    let z : number ≡ 0 = cc in cause-number most m l number c z

-- ---- lines in turn

-- the first refusal, where all lines before it are pushed
pub record Stopped (most n : ℕ) (m : Map) (ls : List (List ℕ)) : Type 0 where
  pub before : List (List ℕ)
  pub line : List ℕ
  pub after : List (List ℕ)
  pub number : ℕ
  pub cut : ls ≡ before ++ (line ∷ after)
  pub pushed : text_from most n m before ≡ 0 ∷ []
  pub cause : Cause most (insert_all (entries_in before) m) line number
  pub says : text_from most n m ls ≡ number ∷ (n + length before) ∷ []

pub text-answers : (ls : List (List ℕ)) (most n : ℕ) (m : Map) → (text_from most n m ls ≡ 0 ∷ []) ⊎ Stopped most n m ls
unfolding text_from entries_in insert_all
text-answers [] most n m = inl refl
text-answers (l ∷ ls) most n m = go (line_view most m l) (λ x. text-answers ls most (suc n) x)
  where
    go : Line most m l → ((x : Map) → (text_from most (suc n) x ls ≡ 0 ∷ []) ⊎ Stopped most (suc n) x ls)
        → (text_from most n m (l ∷ ls) ≡ 0 ∷ []) ⊎ Stopped most n m (l ∷ ls)
    go (stops number c) ih =
        let first : n ≡ n + length {A = List ℕ} [] = omega arith in
        inr
        (record {
          before = [];
          line = l;
          after = ls;
          number = number;
          cut = refl;
          pushed = refl;
          cause = c;
          says = text-stops most n m l ls number c ∙ (λ i. number ∷ first i ∷ []);
        })
    go (goes e f d few) ih = further (ih (insert e.0 e.1 m))
      where
        further : (text_from most (suc n) (insert e.0 e.1 m) ls ≡ 0 ∷ []) ⊎ Stopped most (suc n) (insert e.0 e.1 m) ls
            → (text_from most n m (l ∷ ls) ≡ 0 ∷ []) ⊎ Stopped most n m (l ∷ ls)
        further (inl h) = inl (text-goes most n m l ls e f d few ∙ h)
        further (inr s) =
            let next : suc n + length s.before ≡ n + length (l ∷ s.before) = omega arith in
            inr
            (record {
              before = l ∷ s.before;
              line = s.line;
              after = s.after;
              number = s.number;
              cut = ap (λ (xs : List (List ℕ)). l ∷ xs) s.cut;
              pushed = text-goes most n m l s.before e f d few ∙ s.pushed;
              cause = rw f s.cause;
              says = text-goes most n m l ls e f d few ∙ s.says ∙ (λ i. s.number ∷ next i ∷ []);
            })

-- lines behind lines that are all pushed go on with their number and their map
pub text-behind : (ls rest : List (List ℕ)) (most n : ℕ) (m : Map) → text_from most n m ls ≡ 0 ∷ []
    → text_from most n m (ls ++ rest) ≡ text_from most (n + length ls) (insert_all (entries_in ls) m) rest
unfolding entries_in insert_all
text-behind [] rest most n m h = let first : n ≡ n + length {A = List ℕ} [] = omega arith in λ i. text_from most (first i) m rest
text-behind (l ∷ ls) rest most n m h = go (line_view most m l) (λ x. text-behind ls rest most (suc n) x)
  where
    go : Line most m l
        → ((x : Map) → text_from most (suc n) x ls ≡ 0 ∷ [] → text_from most (suc n) x (ls ++ rest) ≡ text_from most (suc n + length ls) (insert_all (entries_in ls) x) rest)
        → text_from most n m ((l ∷ ls) ++ rest) ≡ text_from most (n + length (l ∷ ls)) (insert_all (entries_in (l ∷ ls)) m) rest
    go (stops number c) ih = absurd (not_stopped most n m l ls number c h)
    go (goes e f d few) ih =
        let next : suc n + length ls ≡ n + length (l ∷ ls) = omega arith in
        let x : Map = insert e.0 e.1 m in
        rw f
        (text-goes most n m l (ls ++ rest) e f d few
        ∙ ih x (sym (text-goes most n m l ls e f d few) ∙ h)
        ∙ (λ i. text_from most (next i) (insert_all (entries_in ls) x) rest))

-- and the first of them that is refused is the answer
pub text-refuses : (ls : List (List ℕ)) (l : List ℕ) (rest : List (List ℕ)) (most n : ℕ) (m : Map) → text_from most n m ls ≡ 0 ∷ []
    → (number : ℕ) → Cause most (insert_all (entries_in ls) m) l number → text_from most n m (ls ++ (l ∷ rest)) ≡ number ∷ (n + length ls) ∷ []
text-refuses ls l rest most n m h number c =
    text-behind ls (l ∷ rest) most n m h ∙ text-stops most (n + length ls) (insert_all (entries_in ls) m) l rest number c

pub text-accepts : (ls : List (List ℕ)) (most n : ℕ) (m : Map) → Rising m → AllEntries ls → length (prefixes (insert_all (entries_in ls) m)) ≤ most
    → text_from most n m ls ≡ 0 ∷ []
unfolding text_from entries_in insert_all
text-accepts [] most n m r a few = refl
text-accepts (l ∷ ls) most n m r ((e, f, d), a) few =
    let x : Map = insert e.0 e.1 m in
    let up : Rising x = insert-rising e.0 e.1 m r in
    let all : length (prefixes (insert_all (entries_in ls) x)) ≤ most = rw f at few in
    let room : length (prefixes x) ≤ most = omega (arith, prefixes-insert_all (entries_in ls) x up) in
    text-goes most n m l ls e f d room ∙ text-accepts ls most (suc n) x up a all

pub text-accepted : (ls : List (List ℕ)) (most n : ℕ) (m : Map) → length (prefixes m) ≤ most → text_from most n m ls ≡ 0 ∷ []
    → AllEntries ls × (length (prefixes (insert_all (entries_in ls) m)) ≤ most)
unfolding entries_in insert_all
text-accepted [] most n m few h = (tt, few)
text-accepted (l ∷ ls) most n m few h = go (line_view most m l) (λ x. text-accepted ls most (suc n) x)
  where
    go : Line most m l
        → ((x : Map) → length (prefixes x) ≤ most → text_from most (suc n) x ls ≡ 0 ∷ [] → AllEntries ls × (length (prefixes (insert_all (entries_in ls) x)) ≤ most))
        → AllEntries (l ∷ ls) × (length (prefixes (insert_all (entries_in (l ∷ ls)) m)) ≤ most)
    go (stops number c) ih = absurd (not_stopped most n m l ls number c h)
    go (goes e f d room) ih =
        let (a, all) = ih (insert e.0 e.1 m) room (sym (text-goes most n m l ls e f d room) ∙ h) in
        (((e, f, d), a), rw f all)

-- ---- a whole text

-- every answer, and when it comes
pub data Told (most : ℕ) (text said : List ℕ) : Type 0 where
  too_long : file_limit < length text → said ≡ [] → Told most text said
  whole : Whole most text → said ≡ 0 ∷ [] → Told most text said
  refused : length text ≤ file_limit → (s : Stopped most 1 [] (entry_lines text)) → said ≡ s.number ∷ (1 + length s.before) ∷ [] → Told most text said

module _ (most : ℕ) (text : List ℕ) where
  pub text-long : file_limit < length text → text_says most text ≡ []
  unfolding text_says
  text-long h = rw (lt-ltb _ _ h)

  pub text-short : length text ≤ file_limit → text_says most text ≡ text_from most 1 [] (entry_lines text)
  unfolding text_says
  text-short h = rw (le-ltb _ _ h)

  pub text-told : Told most text (text_says most text)
  text-told = go (ltb file_limit (length text)) refl
    where
      among : length text ≤ file_limit → (text_from most 1 [] (entry_lines text) ≡ 0 ∷ []) ⊎ Stopped most 1 [] (entry_lines text) → Told most text (text_says most text)
      among h (inl said) = let (a, few) = text-accepted (entry_lines text) most 1 [] (omega (arith, ap length prefixes-empty)) said in whole (record { short = h; entries = a; few = few }) (text-short h ∙ said)
      among h (inr s) = refused h s (text-short h ∙ s.says)

      go : (t : Bool) → ltb file_limit (length text) ≡ t → Told most text (text_says most text)
      go true e = let h : file_limit < length text = ltb-true _ _ e in too_long h (text-long h)
      go false e = among (ltb-false _ _ e) (text-answers (entry_lines text) most 1 [])

  pub text-whole : (text_says most text ≡ 0 ∷ []) ↔ Whole most text
  text-whole = (λ h. go h text-told, λ w. text-short w.short ∙ text-accepts (entry_lines text) most 1 [] tt w.entries w.few)
    where
      go : text_says most text ≡ 0 ∷ [] → Told most text (text_says most text) → Whole most text
      go h (too_long l s) = absurd (let z : [] ≡ 0 ∷ [] = sym s ∙ h in let q : ◌≡◌ {A = ℕ} 0 1 = cc in omega arith)
      go h (whole w s) = w
      go h (refused l t s) =
          let told : t.number ∷ (1 + length t.before) ∷ [] ≡ 0 ∷ [] = sym s ∙ h in
          let z : t.number ≡ 0 = cc in
          absurd (cause-number most (insert_all (entries_in t.before) []) t.line t.number t.cause z)

-- ---- the pool's words answer what its map tells

-- a line's answer by one definition and by the other, where what follows an accepted line is the same
same_step : (a b : List ℕ) → a ≡ b → (n : ℕ) (x y : List ℕ) → (accepted a ≡ true → x ≡ y)
    → cond (accepted a) x (a ++ (n ∷ [])) ≡ cond (accepted b) y (b ++ (n ∷ []))
same_step a b e n x y next = go (accepted a) refl
  where
    go : (t : Bool) → accepted a ≡ t → cond (accepted a) x (a ++ (n ∷ [])) ≡ cond (accepted b) y (b ++ (n ∷ []))
    go true f = let g : accepted b ≡ true = ap accepted (sym e) ∙ f in rw (f, g) (next f)
    go false f = let g : accepted b ≡ false = ap accepted (sym e) ∙ f in rw (f, g) (ap (λ (s : List ℕ). s ++ (n ∷ [])) e)

pub fill-text : (ls : List (List ℕ)) (n : ℕ) (p : Pool) → Sound p → AllBytes ls → fill_from n p ls ≡ text_from (capacity p) n (pool_map p) ls
unfolding fill_from text_from
fill-text [] n p s b = refl
fill-text (l ∷ ls) n p s b = go (tab_entry l) refl (λ q t. fill-text ls (suc n) q t b.1)
  where
    go : (o : Option Entry) → tab_entry l ≡ o → ((q : Pool) → Sound q → fill_from (suc n) q ls ≡ text_from (capacity q) (suc n) (pool_map q) ls)
        → fill_from n p (l ∷ ls) ≡ text_from (capacity p) n (pool_map p) (l ∷ ls)
    go None f ih = rw f refl
    go (Some e) f ih =
        let kb : Bytes e.0 = key-bytes l e f b.0 in
        let q : Pool = push_pool p e.0 e.1 in
        let room : capacity q ≡ capacity p = rw (length_push p e.0 e.1 kb) in
        rw f
        (same_step (push_says p e.0) (map_says (capacity p) (pool_map p) (PoolCall.push e.0 e.1)) (call-says p s (PoolCall.push e.0 e.1)) n
        (fill_from (suc n) q ls) (text_from (capacity p) (suc n) (insert e.0 e.1 (pool_map p)) ls)
        (λ a.
        let m : pool_map q ≡ insert e.0 e.1 (pool_map p) = push-means-insert p e.0 e.1 kb a in
        ih q (push-keeps p e.0 e.1 kb s) ∙ (λ i. text_from (room i) (suc n) (m i) ls)))

pub reset-text : (p : Pool) → record_words ≤ length p → (text : List ℕ) → Bytes text → fill_from 1 (reset_pool p) (entry_lines text) ≡ text_from (capacity p) 1 [] (entry_lines text)
reset-text p h text b =
    let room : capacity (reset_pool p) ≡ capacity p = rw (length-reset p) in
    let m : pool_map (reset_pool p) ≡ [] = reset-means-empty p h in
    fill-text (entry_lines text) 1 (reset_pool p) (reset-sound p h) (lines-bytes text b) ∙ (λ i. text_from (room i) 1 (m i) (entry_lines text))
