-- What `longest_prefix` says and writes, by its cases: refused, no match, written, or no room. The keys that begin with a query are those below the node
-- that the query reaches, and what they have in common is empty exactly if its length is 0.
--
--     longest-none, longest-some  the common prefix, by its length
--     end_of                      where a glide from the query's node ends
--     longest-refused             of an image that no map has
--     longest-missed              no match: the common prefix is empty, or (`common-unreached`) no key begins with the
--                                 query
--     longest-short               it is longer than the buffer
--     longest-written             it is written
-- Assumes nothing.
use mathlib.Core.Path.{◌≡◌, refl, sym, ap, ◌∙◌}
use Prim.Native.Nat.{ℕ, ◌+◌, ◌≤◌, ◌<◌}
use native.Mathlib.Omega.{arith}
use mathlib.Core.Logic.{inr}
use mathlib.Core.Bool.{true, false}
use mathlib.Core.List.{List, [], ◌∷◌, ◌++◌}
use Rattle.std.specs.Prelude.{Option, None, Some}
use Rattle.std.proofs.lemmas.Option.{none-some}
use lib.ListN.{length, drop}
use Rattle.keymap.specs.Members.{In, here}
use Rattle.keymap.specs.Key.{Key}
use Rattle.keymap.specs.Limits.{most_records}
use Rattle.keymap.specs.Refusals.{refuses}
use Rattle.keymap.specs.declared.refusals.Refusal.TheVariants.{NotAnImage, KeyRoom}
use Rattle.keymap.specs.Map.{Map}
use Rattle.keymap.specs.Queries.{beginning, common_of_all, longest_prefix_in}
use Rattle.keymap.specs.Bits.{bit}
use Rattle.keymap.specs.Image.{Image, bits_for}
use Rattle.keymap.specs.Paths.{nodes, IsNode, path_of, node_of}
use Rattle.keymap.specs.Decode.{image_map}
use Rattle.keymap.proofs.Laws.Queries.{beginning-iff}
use Rattle.keymap.proofs.Laws.Paths.{nodes-iff, node_of-node, path_of-node_of}
use Rattle.keymap.proofs.Laws.Answers.{written-fits, written-short}
use Rattle.image.specs.Accept.{entries}
use Rattle.image.specs.AcceptTest.{image_test}
use Rattle.image.specs.Meaning.{MapImage}
use Rattle.walks.specs.declared.stands.Stand.{Stand}
use Rattle.walks.specs.declared.glide.Glided.{Glided}
use Rattle.walks.specs.Rule.{node_by}
use Rattle.walks.specs.Glide.{common_of, glided_from}
use Rattle.walks.proofs.Laws.Stands.{ReachedTold}
use Rattle.walks.proofs.Laws.MapImage.{length-nodes}
use Rattle.walks.proofs.Laws.MapWalk.{PathTold, there, absent, path-told, walk-rule}
use Rattle.walks.proofs.Laws.Glide.{GlidedAt, glided-at}
use Rattle.climbs.proofs.Laws.MapClimb.{path-short}
use Rattle.searches.specs.Prefix.{longest_says, longest_out}

-- ---- the common prefix

module _ (q : Key) (m : Map) where
  pub longest-none : length (common_of m q) ≡ 0 → longest_prefix_in q m ≡ None
  unfolding longest_prefix_in
  longest-none = go (common_of m q) refl
    where
      go : (k : Key) → common_of m q ≡ k → length (common_of m q) ≡ 0 → longest_prefix_in q m ≡ None
      go [] e z = rw e
      go (a ∷ k) e z = absurd (omega (arith, ap length e))

  pub longest-some : 0 < length (common_of m q) → longest_prefix_in q m ≡ Some (common_of m q)
  unfolding longest_prefix_in
  longest-some = go (common_of m q) refl
    where
      go : (k : Key) → common_of m q ≡ k → 0 < length (common_of m q) → longest_prefix_in q m ≡ Some (common_of m q)
      go [] e z = absurd (omega (arith, ap length e))
      go (a ∷ k) e z = rw e

-- a query that leads nowhere is no key's beginning
pub common-unreached : (i : Image) → MapImage i → (q : Key) → node_by i q ≡ None → common_of (image_map i) q ≡ []
unfolding common_of_all
common-unreached i h q e = go (path-told (image_map i) q)
  where
    empty : ¬ In q (nodes (image_map i)) → (ks : Map) → beginning q (image_map i) ≡ ks → common_of (image_map i) q ≡ []
    empty n [] f = ap common_of_all f
    empty n (d ∷ ks) f =
        let (among, begins) = (beginning-iff q (image_map i) d).0 (rw f (here refl)) in
        absurd (n ((nodes-iff (image_map i) q).1 (inr (d, among, begins))))

    go : PathTold (image_map i) q → common_of (image_map i) q ≡ []
    go (there n f) = absurd (none-some (node_of (image_map i) q) (sym e ∙ walk-rule i h q ∙ f))
    go (absent n f) = empty n (beginning q (image_map i)) refl

-- the end of a glide from where a query led
pub record EndOf (i : Image) (q : Key) (g : Glided) : Type 0 where
  pub inside : IsNode (image_map i) g.stand.node
  pub path : path_of (image_map i) g.stand.node ≡ common_of (image_map i) q
  pub far : length q + g.steps ≡ length (common_of (image_map i) q)
  pub short : length (common_of (image_map i) q) ≤ most_records

pub end_of : (i : Image) → MapImage i → (q : Key) (s : Stand) (g : Glided) → ReachedTold (bit i.words) (bits_for (entries i)) (node_by i q) s
    → g ≡ glided_from i.labels i.values (bit i.words) (bits_for (entries i)) s → EndOf i q g
end_of i h q s g r e = go (path-told (image_map i) q)
  where
    m : Map
    m = image_map i

    ended : IsNode m s.node → path_of m s.node ≡ q → EndOf i q g
    ended n path =
        let at : GlidedAt i h s.node g = rw (e ∙ ap (glided_from i.labels i.values (bit i.words) (bits_for (entries i))) r.knows) (glided-at i h s.node n) in
        let same : common_of m (path_of m s.node) ≡ common_of m q = ap (common_of m) path in
        let end : path_of m g.stand.node ≡ common_of m q = at.path ∙ same in
        record {
          inside = at.inside;
          path = end;
          far = omega (arith, at.far, ap length same, ap length path);
          short = omega (arith, path-short m h.catalogue g.stand.node at.inside, ap length end, at.inside, length-nodes i h, h.few);
        }

    go : PathTold m q → EndOf i q g
    go (there n f) =
        let found : ◌≡◌ {A = Option ℕ} (Some (node_of m q)) (Some s.node) = sym (walk-rule i h q ∙ f) ∙ r.node in
        let node : node_of m q ≡ s.node = cc in
        ended (rw node at (node_of-node m q n)) (ap (path_of m) (sym node) ∙ path_of-node_of m q n)
    go (absent n f) = absurd (none-some s.node (sym (walk-rule i h q ∙ f) ∙ r.node))

-- ---- the call

pub record LongestIs (i : Image) (q : Key) (out : List ℕ) (says : List ℕ) (after : List ℕ) : Type 0 where
  pub says_is : longest_says i q out ≡ says
  pub after_is : longest_out i q out ≡ after

module _ (i : Image) (q : Key) (out : List ℕ) where
  pub longest-refused : image_test i ≡ false → LongestIs i q out (refuses NotAnImage) out
  unfolding longest_says longest_out
  longest-refused e = record { says_is = rw e; after_is = rw e }

  module _ (tested : image_test i ≡ true) where
    pub longest-missed : length (common_of (image_map i) q) ≡ 0 → LongestIs i q out (0 ∷ []) out
    unfolding longest_says longest_out
    longest-missed z =
        let e = longest-none q (image_map i) z in
        record { says_is = rw (tested, e); after_is = rw (tested, e) }

    module _ (some-there : 0 < length (common_of (image_map i) q)) where
      pub longest-short : length out < length (common_of (image_map i) q) → LongestIs i q out (refuses KeyRoom) out
      unfolding longest_says longest_out
      longest-short l =
          let e = longest-some q (image_map i) some-there in
          let w = written-short (common_of (image_map i) q) out l in
          record { says_is = rw (tested, e) w.says_is; after_is = rw (tested, e) w.after_is }

      pub longest-written : length (common_of (image_map i) q) ≤ length out
          → LongestIs i q out (0 ∷ length (common_of (image_map i) q) ∷ []) (common_of (image_map i) q ++ drop (length (common_of (image_map i) q)) out)
      unfolding longest_says longest_out
      longest-written l =
          let e = longest-some q (image_map i) some-there in
          let w = written-fits (common_of (image_map i) q) out l in
          record { says_is = rw (tested, e) w.says_is; after_is = rw (tested, e) w.after_is }
