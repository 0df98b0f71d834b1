-- What `cursor_key` says and writes, by its cases. The key of a node below a top is the end of its path: all of it, or what stands behind the top's.
--
--     given_key-within   it is no longer than the path
--     given_key-spelled  and so many last bytes of the path are the key
--     given_key-predictive, given_key-postfix  of an entry that a step gave it is the key, or the key from after the
--                        query
--     key-refused, key-finished, key-fresh, key-strange, key-short, key-written  the cases of the call
-- Assumes nothing.
use mathlib.Core.Path.{◌≡◌, refl, sym, ap, ◌∙◌}
use Prim.Native.Nat.{ℕ, zero, suc, ◌+◌, ◌-◌, ◌≤◌, ◌<◌}
use native.Mathlib.Omega.{arith}
use mathlib.Core.Bool.{Bool, true, false}
use mathlib.Core.List.{List, [], ◌∷◌, ◌++◌}
use lib.ListN.{length, drop, length-drop}
use lib.Seq.{drop_at}
use Rattle.keymap.specs.Members.{In}
use Rattle.keymap.specs.Key.{Key, PrefixOf}
use Rattle.keymap.specs.Refusals.{refuses}
use Rattle.keymap.specs.declared.refusals.Refusal.TheVariants.{NotAnImage, BadPlace, KeyRoom}
use Rattle.keymap.specs.Map.{Entry, Map}
use Rattle.keymap.specs.Image.{Image}
use Rattle.keymap.specs.Paths.{IsNode, path_of, node_of}
use Rattle.keymap.specs.Decode.{image_map}
use Rattle.keymap.proofs.Laws.Answers.{KeyWritten, written-fits, written-short}
use Rattle.keymap.proofs.Laws.Begins.{prefix-iff, prefix-length}
use Rattle.keymap.proofs.Laws.Paths.{path_of-node_of, node_of-node}
use Rattle.image.specs.AcceptTest.{image_test}
use Rattle.listings.specs.declared.answers.Kind.{Kind}
use Rattle.listings.specs.declared.answers.Kind.TheVariants as kinds
use Rattle.listings.specs.declared.answers.Cursor.{Cursor}
use Rattle.listings.specs.declared.answers.Cursor.TheVariants.{Open, Finished}
use Rattle.climbs.specs.Spelling.{spelled_to}
use Rattle.climbs.specs.Order.{UnderTop}
use Rattle.listings.specs.Cursors.{belongs}
use Rattle.listings.specs.GivenKey.{given_key, key_says, key_out}
use Rattle.climbs.proofs.Laws.Spelling.{spelled-all, last_bytes-behind}
use Rattle.listings.proofs.Laws.Cursors.{entry-path}

-- ---- the key of a node

module _ (m : Map) (top node : ℕ) (under : UnderTop m top node) where
  pub given_key-behind : length (given_key m kinds.Postfix top node) + length (path_of m top) ≡ length (path_of m node)
  given_key-behind = omega (arith, length-drop (length (path_of m top)) (path_of m node), prefix-length (path_of m top) (path_of m node) under.begins)

  pub given_key-within : (kind : Kind) → length (given_key m kind top node) ≤ length (path_of m node)
  given_key-within kinds.Predictive = omega arith
  given_key-within kinds.Postfix = omega (arith, given_key-behind)

  given_key-whole : path_of m top ++ given_key m kinds.Postfix top node ≡ path_of m node
  given_key-whole =
      let (r, e) = (prefix-iff (path_of m top) (path_of m node)).0 under.begins in
      ap (λ (k : Key). path_of m top ++ k) (ap (drop (length (path_of m top))) e ∙ drop_at (path_of m top) r (length (path_of m top)) refl) ∙ sym e

  pub given_key-spelled : (kind : Kind) (n : ℕ) (out : List ℕ) → n ≡ length (given_key m kind top node)
      → spelled_to n (path_of m node) out ≡ given_key m kind top node ++ drop (length (given_key m kind top node)) out
  given_key-spelled kinds.Predictive n out e = spelled-all (path_of m node) (path_of m node) n out refl e
  given_key-spelled kinds.Postfix n out e =
      let many : n ≡ length (path_of m node) - length (path_of m top) = omega (arith, e, given_key-behind) in
      ap (λ (k : ℕ). spelled_to k (path_of m node) out) many
      ∙ ap (λ (k : Key). k ++ drop (length (path_of m node) - length (path_of m top)) out) (last_bytes-behind (path_of m top) (path_of m node) under.begins)
      ∙ ap (λ (k : ℕ). given_key m kinds.Postfix top node ++ drop k out) (sym many ∙ e)

-- of an entry that a step gave: the key itself, and behind the query
module _ (m : Map) (top : ℕ) (e : Entry) (there : In e m) where
  pub given_key-predictive : given_key m kinds.Predictive top (node_of m e.0) ≡ e.0
  given_key-predictive = path_of-node_of m e.0 (entry-path m e there)

  pub given_key-postfix : IsNode m top → PrefixOf (path_of m top) e.0 → path_of m top ++ given_key m kinds.Postfix top (node_of m e.0) ≡ e.0
  given_key-postfix n b =
      let path : path_of m (node_of m e.0) ≡ e.0 = path_of-node_of m e.0 (entry-path m e there) in
      given_key-whole m top (node_of m e.0) (record { top-inside = n; inside = node_of-node m e.0 (entry-path m e there); begins = rw path b }) ∙ path

-- ---- the call

pub record KeyIs (i : Image) (c : Cursor) (out : List ℕ) (says : List ℕ) (after : List ℕ) : Type 0 where
  pub says_is : key_says i c out ≡ says
  pub after_is : key_out i c out ≡ after

-- of a cursor that was taken apart
pub key_apart : (i : Image) (c d : Cursor) (out says after : List ℕ) → c ≡ d → KeyIs i d out says after → KeyIs i c out says after
key_apart i c d out says after e is = rw e is

module _ (i : Image) (out : List ℕ) where
  pub key-refused : (c : Cursor) → image_test i ≡ false → KeyIs i c out (refuses NotAnImage) out
  unfolding key_says key_out
  key-refused c e = record { says_is = rw e; after_is = rw e }

  module _ (tested : image_test i ≡ true) where
    pub key-finished : (kind : Kind) → KeyIs i (Finished kind) out (refuses BadPlace) out
    unfolding key_says key_out belongs
    key-finished kind = record { says_is = rw tested; after_is = rw tested }

    module _ (kind : Kind) (top last : ℕ) where
      pub key-strange : belongs (image_map i) (Open kind top last) ≡ false → KeyIs i (Open kind top last) out (refuses BadPlace) out
      unfolding key_says key_out
      key-strange e = record { says_is = rw (tested, e); after_is = rw (tested, e) }

      pub key-fresh : last ≡ 0 → KeyIs i (Open kind top last) out (refuses BadPlace) out
      unfolding key_says key_out
      key-fresh z = go (belongs (image_map i) (Open kind top last)) refl
        where
          go : (t : Bool) → belongs (image_map i) (Open kind top last) ≡ t → KeyIs i (Open kind top last) out (refuses BadPlace) out
          go false e = key-strange e
          go true e = record { says_is = rw (tested, e, z); after_is = rw (tested, e, z) }

      module _ (belonging : belongs (image_map i) (Open kind top last) ≡ true) (later : ¬ (last ≡ 0)) where
        key-kept : (says after : List ℕ) → KeyWritten (given_key (image_map i) kind top last) out says after → KeyIs i (Open kind top last) out says after
        unfolding key_says key_out
        key-kept says after w = go last refl
          where
            go : (k : ℕ) → last ≡ k → KeyIs i (Open kind top last) out says after
            go zero e = absurd (later e)
            go (suc k) e = record { says_is = rw (tested, belonging, e) (rw e at w.says_is); after_is = rw (tested, belonging, e) (rw e at w.after_is) }

        pub key-short : length out < length (given_key (image_map i) kind top last) → KeyIs i (Open kind top last) out (refuses KeyRoom) out
        key-short l = key-kept _ _ (written-short (given_key (image_map i) kind top last) out l)

        pub key-written : length (given_key (image_map i) kind top last) ≤ length out
            → KeyIs i (Open kind top last) out (0 ∷ length (given_key (image_map i) kind top last) ∷ [])
            (given_key (image_map i) kind top last ++ drop (length (given_key (image_map i) kind top last)) out)
        key-written l = key-kept _ _ (written-fits (given_key (image_map i) kind top last) out l)
