-- Demand 1, by the laws of refusals: each definition tests what was lent before all else, and an answer that is a refusal leaves what was lent.
--
--     every-damaged    what is no map's image is refused by every call
--     every-pool       pools that are too small, unsound and sound
--     refusal-keeps    a refusal changes no lent memory
-- Assumes nothing.
use mathlib.Core.Path.{◌≡◌, refl, sym, ◌∙◌}
use Prim.Native.Nat.{ℕ, ◌-◌}
use native.Mathlib.Omega.{arith}
use mathlib.Core.Bool.{Bool, true, false, cond, true≢false}
use mathlib.Core.List.{List, [], ◌∷◌, ◌++◌}
use Rattle.std.specs.Prelude.{Option, None, Some}
use lib.ListN.{length, take}
use lib.Dec.{leb, ltb}
use borrow.Author.Tests.{ne_eqb}
use Rattle.keymap.specs.Key.{Key}
use Rattle.keymap.specs.Map.{Entry, Map, lookup}
use Rattle.keymap.specs.Queries.{longer, is_prefix_in, longest_prefix_in, common_prefix_in}
use Rattle.keymap.specs.Refusals.{refuses}
use Rattle.keymap.specs.declared.refusals.Refusal.{Refusal}
use Rattle.keymap.specs.Image.{Image}
use Rattle.keymap.specs.Paths.{is_node, path_of, node_of, is_path}
use Rattle.keymap.specs.Decode.{image_map}
use Rattle.records.specs.Words.{Pool}
use Rattle.records.specs.Sound.{Sound}
use Rattle.records.specs.SoundTest.{sound_test}
use Rattle.records.proofs.Laws.SoundTest.{test-sound, sound-test}
use Rattle.pool.specs.Answers.{accepted}
use Rattle.pool.specs.Reset.{reset_pool}
use Rattle.pool.specs.Push.{has_room, tested_says, push_pool}
use Rattle.pool.proofs.Laws.Reset.{reset-small, reset-done}
use Rattle.pool.proofs.Laws.UseCount.{use-count-small, use-count-unsound, use-count-sound}
use Rattle.pool.proofs.Laws.Push.{push-small, push-unsound, push-tested}
use Rattle.pool.proofs.Laws.Meaning.{missing-means-missing}
use Rattle.image.specs.AcceptTest.{image_test}
use Rattle.image.specs.Build.{fit_says, build_labels, build_values, build_words, build_scratch}
use Rattle.image.proofs.Laws.AcceptAnswer.{accept_says-refused}
use Rattle.image.proofs.Laws.Build.{says-small, says-unsound, says-sound}
use Rattle.image.proofs.Laws.Passed.{test-accepted}
use Rattle.image.proofs.Laws.Accept.{accepted-iff}
use Rattle.keymap.specs.Buffers.{over}
use Rattle.lines.specs.TabLine.{entry_says, entry_key, tab_entry, tab_line_says, tab_line_key}
use Rattle.lines.specs.Writing.{tab_text, write_line_says, write_line_out}
use Rattle.listings.specs.declared.answers.Cursor.{Cursor}
use Rattle.image.specs.AcceptAnswer.{on_image}
use Rattle.keymap.specs.Answers.{says_value}
use Rattle.searches.specs.Exact.{exact_says, set_at, set_values}
use Rattle.keymap.specs.Answers.{says_written, written_to, written_key}
use Rattle.searches.specs.Prefix.{says_longest, longest_says, longest_out}
use Rattle.searches.specs.CommonPrefixes.{says_common, part_of, common_says, common_part}
use Rattle.keymap.specs.Answers.{given}
use Rattle.listings.specs.Cursors.{belongs, on_cursor}
use Rattle.listings.specs.GivenKey.{says_key, key_of, key_says, key_out}
use Rattle.places.specs.Incremental.{on_place, says_ok, says_err, path_says, walkable, common_below, distance_says, query_in, goto_in, query_says, query_moves, follow_in, follow_says, follow_moves, goto_says, goto_moves}
use Rattle.places.specs.Places.{resume_says, value_says, prefix_len_says, prefix_says, prefix_out}
use Rattle.searches.proofs.Laws.Exact.{exact_says-refused, is_prefix_says-refused}
use Rattle.searches.proofs.Laws.CommonPrefixes.{common_says-refused}
use Rattle.searches.proofs.Laws.Prefix.{longest-refused}
use Rattle.listings.proofs.Laws.Cursors.{start_says-refused, step_says-refused}
use Rattle.listings.proofs.Laws.GivenKey.{key-refused}
use Rattle.places.proofs.Laws.Places.{prefix-refused}
use Rattle.theorems.specs.Demand1.{EveryDamaged, EveryPool, SoundPool, RefusalKeeps}

-- ---- what is damaged

pub every-damaged : EveryDamaged
unfolding resume_says value_says prefix_len_says query_says follow_says goto_says
every-damaged i l n =
    let refused : image_test i ≡ false = go (image_test i) refl in
    record {
      accept = accept_says-refused i refused;
      exact-match = λ q. exact_says-refused i q refused;
      is-prefix = λ q. is_prefix_says-refused i q refused;
      longest-prefix = λ q out. (longest-refused i q out refused).says_is;
      common-prefix = λ q seen. common_says-refused i q seen refused;
      start = λ kind q. start_says-refused i kind q refused;
      step = λ c. step_says-refused i c refused;
      cursor-key = λ c out. (key-refused i out c refused).says_is;
      resume = λ k. rw refused;
      value = λ k. rw refused;
      prefix_len = λ k. rw refused;
      prefix = λ k out. (prefix-refused i k out refused).says_is;
      query = λ k a. rw refused;
      query-until = λ k q. rw refused;
      goto = λ k. rw refused;
    }
  where
    go : (t : Bool) → image_test i ≡ t → image_test i ≡ false
    go true e = absurd (n ((accepted-iff i l).0 (test-accepted i e)))
    go false e = e

-- ---- pools

unsound-test : (p : Pool) → (Sound p → ⊥) → sound_test p ≡ false
unsound-test p n = go (sound_test p) refl
  where
    go : (t : Bool) → sound_test p ≡ t → sound_test p ≡ false
    go true e = absurd (n (test-sound p e))
    go false e = e

sound-pool : (p : Pool) → Sound p → SoundPool p
unfolding tested_says has_room fit_says
sound-pool p s =
    let t = sound-test p s in
    record {
      reset = sym (reset-done p s.rooted).0;
      use-count = sym (use-count-sound p s.rooted t);
      push-empty = sym (push-tested p [] s.rooted t);
      push = λ k n. sym (push-tested p k s.rooted t) ∙ rw (ne_eqb (length k) 0 (some_key k n), missing-means-missing p k s (some_key k n)) refl;
      build = λ ls vs ws qs. says-sound p ls vs ws qs s;
    }
  where
    some_key : (k : Key) → ¬ (k ≡ []) → length k ≡ 0 → ⊥
    some_key [] n e = n refl
    some_key (b ∷ k) n e = omega arith

pub every-pool : EveryPool
every-pool p = record {
  too_small = λ h. record {
    reset = sym (reset-small p h).0;
    use-count = sym (use-count-small p h);
    push = λ k. sym (push-small p k h);
    build = λ ls vs ws qs. sym (says-small p ls vs ws qs h);
  };
  unsound = λ h n. record {
    reset = sym (reset-done p h).0;
    use-count = sym (use-count-unsound p h (unsound-test p n));
    push = λ k. sym (push-unsound p k h (unsound-test p n));
    build = λ ls vs ws qs. sym (says-unsound p ls vs ws qs h (unsound-test p n));
  };
  sound = sound-pool p;
}

-- ---- a refusal keeps what was lent

-- a test that comes first: where it fails, what was lent is kept
kept : {A : Type 0} (b : Bool) (says other : List ℕ) (written lent : A) → (accepted says ≡ false → written ≡ lent) → accepted (cond b says other) ≡ false → cond b written lent ≡ lent
kept true says other written lent k h = k h
kept false says other written lent k h = refl

never : {A : Type 0} (says : List ℕ) (written lent : A) → accepted says ≡ true → accepted says ≡ false → written ≡ lent
never says written lent t f = absurd (true≢false (sym t ∙ f))

choice-accepted : (b : Bool) (x y : List ℕ) → accepted x ≡ true → accepted y ≡ true → accepted (cond b x y) ≡ true
choice-accepted true x y s t = s
choice-accepted false x y s t = t

written-kept : (k out : List ℕ) → accepted (says_written k out) ≡ false → written_to k out ≡ out
written-kept k out h =
    kept (leb (length k) (length out)) (0 ∷ length k ∷ []) (refuses Refusal.KeyRoom) (over k out) out (never (0 ∷ length k ∷ []) (over k out) out refl) h

-- the tests that come first on an image, on a place and on a cursor
on-image : {A : Type 0} (i : Image) (says : List ℕ) (written lent : A) → (accepted says ≡ false → written ≡ lent) → accepted (on_image i says) ≡ false → cond (image_test i) written lent ≡ lent
on-image i says written lent k h = kept (image_test i) says (refuses Refusal.NotAnImage) written lent k h

on-place : {A : Type 0} (i : Image) (k : ℕ) (says : List ℕ) (written lent : A) → (accepted says ≡ false → written ≡ lent) → accepted (on_place i k says) ≡ false
    → cond (image_test i) (cond (is_node (image_map i) k) written lent) lent ≡ lent
on-place i k says written lent f h =
    let b = is_node (image_map i) k in
    on-image i (cond b says (refuses Refusal.BadPlace)) (cond b written lent) lent (λ g. kept b says (refuses Refusal.BadPlace) written lent f g) h

on-cursor : {A : Type 0} (i : Image) (c : Cursor) (says : List ℕ) (written lent : A) → (accepted says ≡ false → written ≡ lent) → accepted (on_image i (on_cursor (image_map i) c says)) ≡ false
    → cond (image_test i) (cond (belongs (image_map i) c) written lent) lent ≡ lent
on-cursor i c says written lent f h =
    let b = belongs (image_map i) c in
    on-image i (cond b says (refuses Refusal.BadPlace)) (cond b written lent) lent (λ g. kept b says (refuses Refusal.BadPlace) written lent f g) h

value-accepted : (o : Option ℕ) → accepted (says_value o) ≡ true
value-accepted None = refl
value-accepted (Some v) = refl

longest-kept : (o : Option Key) (out : List ℕ) → accepted (says_longest o out) ≡ false → written_key o out ≡ out
longest-kept None out h = refl
longest-kept (Some k) out h = written-kept k out h

key-kept : (o : Option Key) (out : List ℕ) → accepted (says_key o out) ≡ false → written_key o out ≡ out
key-kept None out h = refl
key-kept (Some k) out h = written-kept k out h

common-accepted : (o : Option Entry) → accepted (says_common o) ≡ true
common-accepted None = refl
common-accepted (Some e) = refl

follow-accepted : (m : Map) (p q : Key) → accepted (follow_in m p q) ≡ true
follow-accepted m p [] = refl
follow-accepted m p (a ∷ q) = choice-accepted (is_path m (p ++ (a ∷ q))) (says_ok (path_says m (p ++ (a ∷ q)))) (says_err (walkable m p (a ∷ q))) refl refl

query-accepted : (m : Map) (p : Key) → accepted (query_in m p) ≡ true
query-accepted m p = choice-accepted (is_path m p) (0 ∷ path_says m p ∷ []) (0 ∷ []) refl refl

goto-accepted : (m : Map) (p : Key) → accepted (goto_in m p) ≡ true
goto-accepted m p =
    let q = common_below m p in
    let far = choice-accepted (given (lookup q (longer p m))) (says_ok (length q - length p)) (says_err (length q - length p)) refl refl in
    choice-accepted (is_prefix_in p m) (distance_says m p q) (says_ok 0) far refl

entry_kept : (o : Option Entry) → accepted (entry_says o) ≡ false → entry_key o ≡ []
entry_kept None h = refl
entry_kept (Some e) h = absurd (true≢false h)

no_part : (b : Bool) (o : Option Entry) (other : List ℕ) (q : Key) → cond b (says_common o) other ≡ 0 ∷ [] → cond b (part_of q o) [] ≡ []
no_part true None other q h = refl
no_part true (Some e) other q h = let z : ◌≡◌ {A = List ℕ} (length e.0 ∷ e.1 ∷ []) [] = cc in let w : ◌≡◌ {A = ℕ} 0 1 = cc in absurd (omega arith)
no_part false o other q h = refl

line_kept : (b : Bool) (out line says : List ℕ) → accepted says ≡ true → accepted (cond b (refuses Refusal.KeyRoom) says) ≡ false → cond b out line ≡ out
line_kept true out line says t h = refl
line_kept false out line says t h = never says line out t h

pub refusal-keeps : RefusalKeeps
unfolding reset_pool push_pool build_labels build_values build_words build_scratch exact_says set_values longest_says longest_out key_says key_out prefix_says prefix_out query_says query_moves follow_says follow_moves goto_says goto_moves common_says common_part tab_line_says tab_line_key write_line_says write_line_out
refusal-keeps = record {
  reset = λ p h. rw h;
  push = λ p k v h. rw h;
  build = λ p ls vs ws qs h. (rw h, rw h, rw h, rw h);
  set_value = λ i q v h. let o = lookup q (image_map i) in let after = set_at i.values (node_of (image_map i) q) o v in on-image i (says_value o) after i.values (never (says_value o) after i.values (value-accepted o)) h;
  longest-prefix = λ i q out h. let o = longest_prefix_in q (image_map i) in on-image i (says_longest o out) (written_key o out) out (longest-kept o out) h;
  cursor-key = λ i c out h. let o = key_of (image_map i) c in on-cursor i c (says_key o out) (written_key o out) out (key-kept o out) h;
  prefix = λ i k out h. let p = path_of (image_map i) k in on-place i k (says_written p out) (written_to p out) out (written-kept p out) h;
  query = λ i k a h. let m = image_map i in let q = path_of m k ++ (a ∷ []) in let to = cond (is_path m q) (node_of m q) k in on-place i k (query_in m q) to k (never (query_in m q) to k (query-accepted m q)) h;
  query-until = λ i k q h. let m = image_map i in let p = path_of m k in let to = node_of m (p ++ take (walkable m p q) q) in on-place i k (follow_in m p q) to k (never (follow_in m p q) to k (follow-accepted m p q)) h;
  goto = λ i k h. let m = image_map i in let p = path_of m k in let to = cond (is_prefix_in p m) (node_of m (common_below m p)) k in on-place i k (goto_in m p) to k (never (goto_in m p) to k (goto-accepted m p)) h;
  common-prefix-part = λ i q seen h. let o = common_prefix_in q seen (image_map i) in on-image i (says_common o) (part_of q o) [] (never (says_common o) (part_of q o) [] (common-accepted o)) h;
  common-prefix-none = λ i q seen h. no_part (image_test i) (common_prefix_in q seen (image_map i)) (refuses Refusal.NotAnImage) q h;
  tab-line-key = λ line h. entry_kept (tab_entry line) h;
  write-line = λ e out h. line_kept (ltb (length out) (length (tab_text e))) out (over (tab_text e) out) (0 ∷ length (tab_text e) ∷ []) refl h;
}
