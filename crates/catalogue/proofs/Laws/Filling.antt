-- Laws of lines pushed in turn. An accepted line is an insert of its entry, so that lines accepted whole leave the map of their entries.
--
--     not-accepted                     a refusal is told from an answer
--     entry-said, entry-none           the entry of a line, by what `tab_line` answered
--     line_refused                     a refused line leaves the pool as it was
--     fill_end, fill-goes, fill_stops  the equations of `fill_from` and `left_from`, by what one line says;
--                                      `fill-done`, `fill_refused`: by its answer
--     fill-means                       lines accepted whole leave a sound pool that holds the inserts of their entries
--     filled-holds                     a text accepted whole after a reset leaves a sound pool that holds the map of
--                                      its entries
--     lines-bytes, key-bytes           the lines of bytes are of bytes, and so are their keys; `bytes_of`: each element
--                                      below the limit
-- Assumes nothing.
use mathlib.Core.Path.{◌≡◌, refl, sym, ap, ◌∙◌}
use Prim.Native.Nat.{ℕ, suc, ◌≤◌, ◌<◌}
use native.Mathlib.Omega.{arith}
use mathlib.Core.Bool.{Bool, true, false}
use mathlib.Core.List.{List, [], ◌∷◌, ◌++◌}
use Rattle.std.specs.Prelude.{Option, None, Some, Result, Ok, Err}
use lib.ListN.{length, get_or, take}
use lib.Dec.{eqb, lit≤}
use borrow.Author.Tests.{eq-eqb, ne_eqb, eqb-false}
use Rattle.keymap.specs.Limits.{byte_limit}
use Rattle.keymap.specs.Key.{Bytes}
use Rattle.keymap.specs.Map.{Entry, insert_all}
use Rattle.keymap.specs.Refusals.{refusal_number, refuses}
use Rattle.keymap.specs.declared.refusals.Refusal.{Refusal}
use Rattle.keymap.proofs.Laws.Begins.{bytes-prefix, prefix-leading}
use Rattle.records.specs.Words.{Pool, record_words}
use Rattle.records.specs.Sound.{Sound}
use Rattle.records.specs.Meaning.{pool_map}
use Rattle.pool.specs.Answers.{accepted}
use Rattle.pool.specs.Reset.{reset_pool}
use Rattle.pool.specs.Push.{push_says, push_pool}
use Rattle.pool.proofs.Laws.Reset.{reset-sound}
use Rattle.pool.proofs.Laws.Push.{push-keeps}
use Rattle.pool.proofs.Laws.Meaning.{reset-means-empty, push-means-insert}
use Rattle.lines.specs.Bytes.{tab, line_feed, stretch}
use Rattle.lines.specs.TabLine.{key_part, tab_entry, entry_says, entry_key, tab_line_says, tab_line_key}
use Rattle.lines.specs.Text.{in_first, lines_of, entry_lines}
use Rattle.lines.proofs.Laws.TabLine.{tab_entry-some}
use Rattle.catalogue.specs.declared.filling.Refused.{Refused}
use Rattle.catalogue.specs.TextAnswers.{entries_in}
use Rattle.catalogue.specs.Filling.{said_filled, line_says, line_pool, fill_from, left_from, fill_pool, HeldIf}

-- ---- one line

-- the numbers of refusals
number-range : (r : Refusal) → (1 ≤ refusal_number r) × (refusal_number r ≤ 9)
number-range Refusal.PoolTooSmall = (lit≤ tt, lit≤ tt)
number-range Refusal.NotAPool = (lit≤ tt, lit≤ tt)
number-range Refusal.EmptyKey = (lit≤ tt, lit≤ tt)
number-range Refusal.NoRoom = (lit≤ tt, lit≤ tt)
number-range Refusal.OutTooSmall = (lit≤ tt, lit≤ tt)
number-range Refusal.NotAnImage = (lit≤ tt, lit≤ tt)
number-range Refusal.BadPlace = (lit≤ tt, lit≤ tt)
number-range Refusal.KeyRoom = (lit≤ tt, lit≤ tt)
number-range Refusal.BadLine = (lit≤ tt, lit≤ tt)

pub not-accepted : (r : Refusal) → accepted (refuses r) ≡ false
not-accepted r = ne_eqb (refusal_number r) 0 (λ z. omega (arith, z, number-range r))

pub entry-said : (line : List ℕ) (n v : ℕ) → tab_line_says line ≡ 0 ∷ n ∷ v ∷ [] → tab_entry line ≡ Some (tab_line_key line, v)
unfolding tab_line_says tab_line_key
entry-said line n v = go (tab_entry line)
  where
    go : (o : Option Entry) → entry_says o ≡ 0 ∷ n ∷ v ∷ [] → o ≡ Some (entry_key o, v)
    go None h = absurd (let z : ◌≡◌ {A = ℕ} 0 1 = cc in omega arith)
    go (Some e) h = let same : e.1 ≡ v = cc in λ i. Some (e.0, same i)

pub entry-none : (line : List ℕ) (r : Refusal) → tab_line_says line ≡ refuses r → (tab_entry line ≡ None) × (refuses Refusal.BadLine ≡ refuses r)
unfolding tab_line_says
entry-none line r = go (tab_entry line)
  where
    go : (o : Option Entry) → entry_says o ≡ refuses r → (o ≡ None) × (refuses Refusal.BadLine ≡ refuses r)
    go None h = (refl, h)
    go (Some e) h = cc

-- a refused line leaves the pool as it was
pub line_refused : (p : Pool) (o : Option Entry) → accepted (line_says p o) ≡ false → line_pool p o ≡ p
unfolding push_pool
line_refused p None h = refl
line_refused p (Some e) h = rw h

-- ---- lines in turn

pub fill_end : (n : ℕ) (p : Pool) (ls : List (List ℕ)) → ls ≡ [] → (0 ∷ [] ≡ fill_from n p ls) × (p ≡ left_from p ls)
unfolding fill_from left_from
fill_end n p ls e = rw e (refl, refl)

module _ (n : ℕ) (p : Pool) (l : List ℕ) (ls : List (List ℕ)) (a : ℕ) (said : a ∷ [] ≡ line_says p (tab_entry l)) where
  pub fill-goes : a ≡ 0 → (fill_from n p (l ∷ ls) ≡ fill_from (suc n) (line_pool p (tab_entry l)) ls) × (left_from p (l ∷ ls) ≡ left_from (line_pool p (tab_entry l)) ls)
  unfolding fill_from left_from
  fill-goes z = let t : accepted (line_says p (tab_entry l)) ≡ true = ap accepted (sym said) ∙ eq-eqb a 0 z in (rw t, rw t)

  pub fill_stops : ¬ (a ≡ 0) → (a ∷ n ∷ [] ≡ fill_from n p (l ∷ ls)) × (line_pool p (tab_entry l) ≡ left_from p (l ∷ ls))
  unfolding fill_from left_from
  fill_stops d =
      let f : accepted (line_says p (tab_entry l)) ≡ false = ap accepted (sym said) ∙ ne_eqb a 0 d in
      (rw f (ap (λ (s : List ℕ). s ++ (n ∷ [])) said), rw f (line_refused p (tab_entry l) f))

module _ (n : ℕ) (p : Pool) (l : List ℕ) (ls : List (List ℕ)) where
  pub fill-done : 0 ∷ [] ≡ line_says p (tab_entry l)
      → (fill_from n p (l ∷ ls) ≡ fill_from (suc n) (line_pool p (tab_entry l)) ls) × (left_from p (l ∷ ls) ≡ left_from (line_pool p (tab_entry l)) ls)
  fill-done said = fill-goes n p l ls 0 said refl

  pub fill_refused : (r : Refusal) → refuses r ≡ line_says p (tab_entry l) → (refusal_number r ∷ n ∷ [] ≡ fill_from n p (l ∷ ls)) × (line_pool p (tab_entry l) ≡ left_from p (l ∷ ls))
  unfolding fill_from left_from
  fill_refused r said =
      let f : accepted (line_says p (tab_entry l)) ≡ false = ap accepted (sym said) ∙ not-accepted r in
      (rw f (ap (λ (s : List ℕ). s ++ (n ∷ [])) said), rw f (line_refused p (tab_entry l) f))

-- ---- bytes

pub bytes_of : (t : List ℕ) → ((j : ℕ) → get_or t j 0 < byte_limit) → Bytes t
bytes_of [] h = tt
bytes_of (b ∷ t) h = (h 0, bytes_of t (λ j. h (suc j)))

abbrev pub AllBytes : List (List ℕ) → Type 0
AllBytes [] = Unit {0}
AllBytes (l ∷ ls) = Bytes l × AllBytes ls

in_first-bytes : (b : ℕ) (ls : List (List ℕ)) → b < byte_limit → AllBytes ls → AllBytes (in_first b ls)
in_first-bytes b [] h a = ((h, tt), tt)
in_first-bytes b (l ∷ ls) h a = ((h, a.0), a.1)

lines_of-bytes : (t : List ℕ) → Bytes t → AllBytes (lines_of t)
unfolding lines_of
lines_of-bytes [] h = tt
lines_of-bytes (b ∷ t) h = go (eqb b line_feed) refl (lines_of-bytes t h.1)
  where
    go : (c : Bool) → eqb b line_feed ≡ c → AllBytes (lines_of t) → AllBytes (lines_of (b ∷ t))
    go true e ih = rw e (tt, ih)
    go false e ih = rw e (in_first-bytes b (lines_of t) h.0 ih)

pub lines-bytes : (text : List ℕ) → Bytes text → AllBytes (entry_lines text)
unfolding entry_lines
lines-bytes text h = lines_of-bytes text h

pub key-bytes : (l : List ℕ) (e : Entry) → tab_entry l ≡ Some e → Bytes l → Bytes e.0
unfolding key_part
key-bytes l e h b = rw (tab_entry-some l e h).key (bytes-prefix (take (stretch tab l) l) l (prefix-leading (stretch tab l) l) b)

-- ---- what lines accepted whole leave

pub record Filled (p : Pool) (ls : List (List ℕ)) : Type 0 where
  pub sound : Sound (left_from p ls)
  pub holds : pool_map (left_from p ls) ≡ insert_all (entries_in ls) (pool_map p)

-- a refusal is told from "all are pushed": its number is not 0, and lines are numbered from 1
told : (s : List ℕ) (n : ℕ) → accepted s ≡ false → ¬ (s ++ (suc n ∷ []) ≡ 0 ∷ [])
told [] n f h = let z : suc n ≡ 0 = cc in omega arith
told (a ∷ s) n f h = let z : a ≡ 0 = cc in eqb-false a 0 f z

pub fill-means : (ls : List (List ℕ)) (n : ℕ) (p : Pool) → Sound p → AllBytes ls → fill_from (suc n) p ls ≡ 0 ∷ [] → Filled p ls
unfolding fill_from left_from entries_in insert_all
fill-means [] n p s b h = record { sound = s; holds = refl }
fill-means (l ∷ ls) n p s b h = go (tab_entry l) refl (λ q t. fill-means ls (suc n) q t b.1)
  where
    inserted : (e : Entry) → tab_entry l ≡ Some e → accepted (push_says p e.0) ≡ true → Filled (push_pool p e.0 e.1) ls → Filled p (l ∷ ls)
    inserted e f a r =
        let kb : Bytes e.0 = key-bytes l e f b.0 in
        record {
          sound = rw (f, a) r.sound;
          holds = rw (f, a) (r.holds ∙ ap (insert_all (entries_in ls)) (push-means-insert p e.0 e.1 kb a));
        }

    pushed : (e : Entry) → tab_entry l ≡ Some e → ((q : Pool) → Sound q → fill_from (suc (suc n)) q ls ≡ 0 ∷ [] → Filled q ls)
        → (t : Bool) → accepted (push_says p e.0) ≡ t → Filled p (l ∷ ls)
    pushed e f ih true a = inserted e f a (ih (push_pool p e.0 e.1) (push-keeps p e.0 e.1 (key-bytes l e f b.0) s) (rw (f, a) at h))
    pushed e f ih false a = absurd (told (push_says p e.0) n a (rw (f, a) at h))

    go : (o : Option Entry) → tab_entry l ≡ o → ((q : Pool) → Sound q → fill_from (suc (suc n)) q ls ≡ 0 ∷ [] → Filled q ls) → Filled p (l ∷ ls)
    go None f ih = absurd (let k : 9 ∷ suc n ∷ [] ≡ 0 ∷ [] = rw f at h in let z : ◌≡◌ {A = ℕ} 9 0 = cc in omega arith)
    go (Some e) f ih = pushed e f ih (accepted (push_says p e.0)) refl

-- a text accepted whole after a reset
pub filled-holds : (p : Pool) → record_words ≤ length p → (text : List ℕ) → Bytes text → (r : Result (Unit {0}) Refused) → said_filled r ≡ fill_from 1 (reset_pool p) (entry_lines text)
    → HeldIf r (fill_pool p text) text
unfolding fill_pool
filled-holds p h text b (Ok u) said =
    let f = fill-means (entry_lines text) 0 (reset_pool p) (reset-sound p h) (lines-bytes text b) (sym said) in
    (f.sound, f.holds ∙ ap (insert_all (entries_in (entry_lines text))) (reset-means-empty p h))
filled-holds p h text b (Err r) said = tt
