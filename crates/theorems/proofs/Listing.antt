-- A start and any number of steps give the entries of the listing in turn and then the end each time. By induction on the steps: a cursor at an entry's node gives
-- the entry behind it, as `least_above-next` says, and a finished one the end.
-- Assumes nothing.
use mathlib.Core.Path.{◌≡◌, refl, sym, ap, ◌∙◌}
use Prim.Native.Nat.{ℕ, zero, suc, ◌-◌}
use native.Mathlib.Omega.{arith}
use mathlib.Core.Bool.{true}
use mathlib.Core.List.{List, [], ◌∷◌, ◌++◌, map, append_assoc}
use lib.ListN.{length, take, replicate}
use Rattle.keymap.specs.Members.{In, here, there, head_of}
use Rattle.keymap.specs.Key.{Key}
use Rattle.keymap.specs.Map.{Entry, Map, Rising}
use Rattle.keymap.specs.Queries.{least_above}
use Rattle.keymap.specs.Image.{Image}
use Rattle.keymap.specs.Paths.{node_of}
use Rattle.keymap.specs.Decode.{image_map}
use Rattle.keymap.proofs.Laws.Queries.{least_above-next}
use Rattle.keymap.proofs.Laws.Paths.{node_of-node, path_of-node_of}
use Rattle.image.specs.AcceptTest.{image_test}
use Rattle.image.specs.Meaning.{MapImage}
use Rattle.image.proofs.Laws.Meaning.{map_image-tested}
use Rattle.listings.specs.declared.answers.Kind.{Kind}
use Rattle.listings.specs.declared.answers.Kind.TheVariants.{Predictive, Postfix}
use Rattle.listings.specs.declared.answers.Cursor.{Cursor}
use Rattle.listings.specs.declared.answers.Cursor.TheVariants.{Open, Finished}
use Rattle.listings.specs.Answers.{said_cursor}
use Rattle.listings.specs.Cursors.{set_of, start_says, says_end, says_step, step_says}
use Rattle.listings.proofs.Laws.Cursors.{set_of-rising, top-node, belongs-fresh, belongs-at, next_in-at, start_says-accepted, step_says-finished, step_says-open}
use Rattle.theorems.specs.Listing.{heard_cursor, heard_next, steps_say, listing_says, says_entry, given_in, listing_in}

-- a cursor's numbers tell it
heard-cursor : (c : Cursor) → heard_cursor (said_cursor c) ≡ c
heard-cursor (Open Predictive top last) = refl
heard-cursor (Open Postfix top last) = refl
heard-cursor (Finished Predictive) = refl
heard-cursor (Finished Postfix) = refl

next-end : (kind : Kind) (c : Cursor) → heard_next (says_end kind) c ≡ Finished kind
next-end kind c = heard-cursor (Finished kind)

next-entry : (m : Map) (kind : Kind) (q : Key) (e : Entry) (c : Cursor) → heard_next (says_entry m kind q e) c ≡ Open kind (node_of m q) (node_of m e.0)
unfolding node_of
next-entry m kind q e c = heard-cursor (Open kind (node_of m q) (node_of m e.0))

-- steps that begin with a known one
steps_on : (k : ℕ) (i : Image) (c d : Cursor) (says : List ℕ) (rest : List (List ℕ)) → step_says i c ≡ says → heard_next says c ≡ d → steps_say k i d ≡ rest → steps_say (suc k) i c ≡ says ∷ rest
unfolding steps_say
steps_on k i c d says rest s n r =
    let goes = ap (λ (x : List ℕ). steps_say k i (heard_next x c)) s ∙ ap (steps_say k i) n ∙ r in
    λ j. s j ∷ goes j

-- what k steps give of some entries, by cases
module _ (m : Map) (kind : Kind) (q : Key) where
  given-none : (es : Map) → given_in 0 m kind q es ≡ []
  unfolding given_in
  given-none es = let z : 0 - length es ≡ 0 = omega arith in ap (λ (n : ℕ). replicate n (says_end kind)) z

  given-end : (k : ℕ) → given_in k m kind q [] ≡ replicate k (says_end kind)
  unfolding given_in
  given-end zero = refl
  given-end (suc k) = let z : suc k - length {A = Entry} [] ≡ suc k = omega arith in ap (λ (n : ℕ). replicate n (says_end kind)) z

  given-entry : (k : ℕ) (e : Entry) (es : Map) → given_in (suc k) m kind q (e ∷ es) ≡ says_entry m kind q e ∷ given_in k m kind q es
  unfolding given_in
  given-entry k e es =
      let z : suc k - length (e ∷ es) ≡ k - length es = omega arith in
      ap (λ (n : ℕ). says_entry m kind q e ∷ (map (says_entry m kind q) (take k es) ++ replicate n (says_end kind))) z

module _ (i : Image) (image : MapImage i) (kind : Kind) (q : Key) where
  test : image_test i ≡ true
  test = map_image-tested i image

  abbrev m : Map
  m = image_map i

  abbrev top : ℕ
  top = node_of (image_map i) q

  abbrev set : Map
  set = set_of (image_map i) kind q

  rises : Rising (image_map i)
  rises = image.catalogue.rising

  ends : (k : ℕ) → steps_say k i (Finished kind) ≡ replicate k (says_end kind)
  unfolding steps_say
  ends zero = refl
  ends (suc k) = steps_on k i (Finished kind) (Finished kind) (says_end kind) (replicate k (says_end kind)) (step_says-finished i kind test) (next-end kind (Finished kind)) (ends k)

  -- the step behind an entry
  behind : (before : Map) (e : Entry) (rest : Map) → before ++ (e ∷ rest) ≡ set → step_says i (Open kind top (node_of m e.0)) ≡ says_step m kind top (head_of rest)
  behind before e rest w =
      let member : In e set = rw (sym w) (middle before) in
      step_says-open i kind top (node_of m e.0) test (belongs-at m rises kind q e member)
      ∙ ap (says_step m kind top) (next_in-at m rises kind q e member ∙ ap (least_above e.0) (sym w) ∙ least_above-next before e rest (rw w (set_of-rising m rises kind q)))
    where
      middle : (xs : Map) → In e (xs ++ (e ∷ rest))
      middle [] = here refl
      middle (x ∷ xs) = there (middle xs)

  from-entry : (k : ℕ) (before : Map) (e : Entry) (rest : Map) → before ++ (e ∷ rest) ≡ set → steps_say k i (Open kind top (node_of m e.0)) ≡ given_in k m kind q rest
  unfolding steps_say
  from-entry zero before e rest w = sym (given-none m kind q rest)
  from-entry (suc k) before e [] w =
      steps_on k i (Open kind top (node_of m e.0)) (Finished kind) (says_end kind) (replicate k (says_end kind)) (behind before e [] w) (next-end kind (Open kind top (node_of m e.0))) (ends k)
      ∙ sym (given-end m kind q (suc k))
  from-entry (suc k) before e (d ∷ rest) w =
      steps_on k i (Open kind top (node_of m e.0)) (Open kind top (node_of m d.0)) (says_entry m kind q d) (given_in k m kind q rest) (behind before e (d ∷ rest) w) (next-entry m kind q d (Open kind top (node_of m e.0))) (from-entry k (before ++ (e ∷ [])) d rest (append_assoc before (e ∷ []) (d ∷ rest) ∙ w))
      ∙ sym (given-entry m kind q k d rest)

  -- from a fresh cursor
  from_start : (k : ℕ) (e : Entry) (rest : Map) → e ∷ rest ≡ set → steps_say k i (Open kind top 0) ≡ given_in k m kind q (e ∷ rest)
  unfolding steps_say
  from_start zero e rest w = sym (given-none m kind q (e ∷ rest))
  from_start (suc k) e rest w =
      let node = top-node m rises kind q e (rw (sym w) (here refl)) in
      let first : step_says i (Open kind top 0) ≡ says_entry m kind q e =
      step_says-open i kind top 0 test (belongs-fresh m rises kind top (node_of-node m q node))
      ∙ ap (λ (p : Key). says_step m kind top (head_of (set_of m kind p))) (path_of-node_of m q node)
      ∙ ap (λ (t : Map). says_step m kind top (head_of t)) (sym w) in
      steps_on k i (Open kind top 0) (Open kind top (node_of m e.0)) (says_entry m kind q e) (given_in k m kind q rest) first (next-entry m kind q e (Open kind top 0)) (from-entry k [] e rest w)
      ∙ sym (given-entry m kind q k e rest)

  pub listing-is : (k : ℕ) → listing_says k kind i q ≡ listing_in k m kind q
  unfolding listing_says
  listing-is k = go set refl
    where
      go : (es : Map) → set ≡ es → listing_says k kind i q ≡ listing_in k m kind q
      go [] s =
          let said : start_says kind i q ≡ 0 ∷ said_cursor (Finished kind) = rw s at (start_says-accepted i kind q test) in
          rw said (ap (steps_say k i) (heard-cursor (Finished kind)) ∙ ends k ∙ sym (given-end m kind q k) ∙ ap (given_in k m kind q) (sym s))
      go (e ∷ rest) s =
          let said : start_says kind i q ≡ 0 ∷ said_cursor (Open kind top 0) = rw s at (start_says-accepted i kind q test) in
          rw said (ap (steps_say k i) (heard-cursor (Open kind top 0)) ∙ from_start k e rest (sym s) ∙ ap (given_in k m kind q) (sym s))
