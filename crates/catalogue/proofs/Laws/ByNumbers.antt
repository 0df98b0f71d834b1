-- A listing by node numbers: what the calls below a cursor's answer, on a map's image, is what its step and its key say.
--
--     next-gave, next-ended  the next node that has a value, and that there is none, as a step tells it
--     key-node               the node of a cursor that has a key, and its path
--     path-long, path-put    how deep the node is, and its path put
-- Assumes nothing.
use mathlib.Core.Path.{◌≡◌, refl, sym, ap, ◌∙◌}
use Prim.Native.Nat.{ℕ, zero, suc, ◌≤◌}
use native.Mathlib.Nat.{le_refl}
use native.Mathlib.Omega.{arith}
use mathlib.Core.Bool.{true}
use mathlib.Core.List.{List}
use lib.ListN.{length}
use Rattle.std.specs.Prelude.{Option, None, Some, Ok}
use Rattle.keymap.specs.Bits.{bit}
use Rattle.keymap.specs.Buffers.{over}
use Rattle.keymap.specs.Key.{Key}
use Rattle.keymap.specs.Map.{Entry, Map}
use Rattle.keymap.specs.Image.{Image, bits_for}
use Rattle.keymap.specs.Paths.{path_of}
use Rattle.keymap.specs.Decode.{image_map}
use Rattle.image.specs.Accept.{entries}
use Rattle.image.specs.Meaning.{MapImage}
use Rattle.image.proofs.Laws.Meaning.{map_image-tested}
use Rattle.walks.specs.Rule.{value_of_node}
use Rattle.walks.specs.declared.entries.KeyNode.{KeyNode}
use Rattle.climbs.specs.Order.{UnderTop, next_by, given_of, given_by}
use Rattle.climbs.specs.Perches.{depth_by}
use Rattle.climbs.specs.Spelling.{spelled_by}
use Rattle.climbs.proofs.Laws.MapClimb.{depth-path}
use Rattle.climbs.proofs.Laws.Spelling.{spell-path, spelled-all}
use Rattle.listings.specs.declared.answers.Kind.TheVariants as kinds
use Rattle.listings.specs.declared.answers.Cursor.TheVariants.{Open, Finished}
use Rattle.listings.specs.declared.answers.Stepped.TheVariants as steps
use Rattle.listings.specs.Answers.{said_stepped}
use Rattle.listings.specs.Cursors.{set_of, belongs, next_in, says_step, step_says}
use Rattle.listings.specs.GivenKey.{key_of}
use Rattle.listings.specs.Numbers.{first_given_by, next_given_by}
use Rattle.listings.proofs.Laws.Cursors.{belongs-under, step_says-open, says_step-entry, says_step-nothing}
use Rattle.listings.proofs.Laws.Numbers.{given-path}

-- the node of a cursor that has a key
pub key-node : (m : Map) (n : ℕ) (k : Key) → key_of m (Open kinds.Predictive 1 n) ≡ Some k → (¬ (n ≡ 0)) × (path_of m n ≡ k)
key-node m zero k e = let z : ◌≡◌ {A = ℕ} 0 1 = cc in absurd (omega arith)
key-node m (suc n) k e = (λ z. omega (arith, z), cc)

module _ (i : Image) (image : MapImage i) where
  -- a listing begins at the root, which has no value, so its first key is the next below the root
  next-number : (last k : ℕ) → (last ≡ 0 → k ≡ 1) → (¬ (last ≡ 0) → k ≡ last)
      → next_by i.labels i.values (bit i.words) (bits_for (entries i)) 1 k ≡ next_given_by i.labels i.values (bit i.words) (bits_for (entries i)) kinds.Predictive 1 last
  unfolding next_given_by first_given_by value_of_node
  next-number zero k first other = rw (first refl) refl
  next-number (suc l) k first other = rw (other (λ z. omega (arith, z))) refl

  module _ (last k : ℕ) (first : last ≡ 0 → k ≡ 1) (other : ¬ (last ≡ 0) → k ≡ last) (own : belongs (image_map i) (Open kinds.Predictive 1 last) ≡ true) (r : Option KeyNode) (told : r ≡ given_of (next_by i.labels i.values (bit i.words) (bits_for (entries i)) 1 k)) where
    abbrev m : Map
    m = image_map i

    abbrev next : Option Entry
    next = next_in m (set_of m kinds.Predictive (path_of m 1)) last

    given : given_by m next ≡ r
    given = sym (given-path i image kinds.Predictive 1 last own) ∙ sym (ap given_of (next-number last k first other)) ∙ sym told

    says : step_says i (Open kinds.Predictive 1 last) ≡ says_step m kinds.Predictive 1 next
    says = step_says-open i kinds.Predictive 1 last (map_image-tested i image) own

    pub next-gave : (n : KeyNode) → r ≡ Some n → said_stepped (Ok (steps.Gave n.node n.value (Open kinds.Predictive 1 n.node))) ≡ step_says i (Open kinds.Predictive 1 last)
    next-gave n is = sym (says ∙ says_step-entry m kinds.Predictive 1 next n (given ∙ is))

    pub next-ended : r ≡ None → said_stepped (Ok (steps.End (Finished kinds.Predictive))) ≡ step_says i (Open kinds.Predictive 1 last)
    next-ended is = sym (says ∙ says_step-nothing m kinds.Predictive 1 next (given ∙ is))

  module _ (n : ℕ) (some : ¬ (n ≡ 0)) (own : belongs (image_map i) (Open kinds.Predictive 1 n) ≡ true) where
    under : UnderTop (image_map i) 1 n
    under = belongs-under (image_map i) kinds.Predictive 1 n image.catalogue.rising own some

    pub path-long : depth_by (bit i.words) (bits_for (entries i)) n ≡ length (path_of (image_map i) n)
    path-long = depth-path i image n under.inside

    pub path-put : (out : List ℕ) → length (path_of (image_map i) n) ≤ length out
        → spelled_by i.labels (bit i.words) (bits_for (entries i)) n (length (path_of (image_map i) n)) out ≡ over (path_of (image_map i) n) out
    unfolding over
    path-put out room =
        spell-path i image n under.inside (length (path_of (image_map i) n)) (le_refl _) out room
        ∙ spelled-all (path_of (image_map i) n) (path_of (image_map i) n) (length (path_of (image_map i) n)) out refl refl
