-- What the readers of a place say, by the tests that come first: the image, the number, and the buffer where the path is written.
--
--     on_place-kept  what any call on a place says of one that belongs
--     resume-is, value-is, prefix_len-is  the calls that write nothing
--     value-root, prefix_len-root, prefix-root  "at the root no value, empty, 0"
--     prefix-stays, prefix-refused, prefix-short, prefix-written  what `prefix` says, and the buffer afterwards
-- Assumes nothing.
use mathlib.Core.Path.{◌≡◌, refl, ap, ◌∙◌}
use Prim.Native.Nat.{ℕ, ◌≤◌, ◌<◌}
use native.Mathlib.Omega.{arith}
use mathlib.Core.Bool.{true, false}
use mathlib.Core.List.{List, [], ◌∷◌, ◌++◌}
use lib.ListN.{length, drop}
use Rattle.keymap.specs.Key.{Key}
use Rattle.keymap.specs.Refusals.{refuses}
use Rattle.keymap.specs.declared.refusals.Refusal.{Refusal}
use Rattle.keymap.specs.declared.refusals.Refusal.TheVariants.{NotAnImage, KeyRoom}
use Rattle.keymap.specs.Map.{lookup}
use Rattle.keymap.specs.Image.{Image}
use Rattle.keymap.specs.Paths.{is_node, path_of}
use Rattle.keymap.specs.Decode.{image_map}
use Rattle.keymap.proofs.Laws.Answers.{written-fits, written-short}
use Rattle.keymap.proofs.Laws.Map.{lookup-empty}
use Rattle.keymap.proofs.Laws.Paths.{path_of-root, is_node-iff}
use Rattle.keymap.specs.Answers.{says_value}
use Rattle.image.specs.AcceptTest.{image_test}
use Rattle.image.specs.Meaning.{MapImage}
use Rattle.places.specs.Incremental.{on_place}
use Rattle.places.specs.Places.{resume_says, value_says, prefix_len_says, prefix_says, prefix_out}
use Rattle.walks.proofs.Laws.MapImage.{length-nodes}
use Rattle.places.proofs.Laws.Incremental.{Refused, no-image}

module _ (i : Image) (k : ℕ) where
  module _ (says : List ℕ) where
    pub on_place-kept : image_test i ≡ true → is_node (image_map i) k ≡ true → on_place i k says ≡ says
    on_place-kept e f = rw (e, f)

  pub resume-is : resume_says i k ≡ on_place i k (0 ∷ k ∷ [])
  unfolding resume_says
  resume-is = refl

  pub value-is : value_says i k ≡ on_place i k (says_value (lookup (path_of (image_map i) k) (image_map i)))
  unfolding value_says
  value-is = refl

  pub prefix_len-is : prefix_len_says i k ≡ on_place i k (0 ∷ length (path_of (image_map i) k) ∷ [])
  unfolding prefix_len_says
  prefix_len-is = refl

pub record PrefixIs (i : Image) (k : ℕ) (out : List ℕ) (says : List ℕ) (after : List ℕ) : Type 0 where
  pub says_is : prefix_says i k out ≡ says
  pub after_is : prefix_out i k out ≡ after

module _ (i : Image) (k : ℕ) (out : List ℕ) where
  pub prefix-stays : (r : Refusal) → Refused i k r → PrefixIs i k out (refuses r) out
  unfolding prefix_says prefix_out
  prefix-stays r refused = record { says_is = refused.says _; after_is = refused.leaves _ _ }

  pub prefix-refused : image_test i ≡ false → PrefixIs i k out (refuses NotAnImage) out
  prefix-refused e = prefix-stays NotAnImage (no-image i k e)

  module _ (tested : image_test i ≡ true) (node : is_node (image_map i) k ≡ true) where
    pub prefix-short : length out < length (path_of (image_map i) k) → PrefixIs i k out (refuses KeyRoom) out
    unfolding prefix_says prefix_out
    prefix-short l =
        let w = written-short (path_of (image_map i) k) out l in
        record { says_is = rw (tested, node) w.says_is; after_is = rw (tested, node) w.after_is }

    pub prefix-written : length (path_of (image_map i) k) ≤ length out
        → PrefixIs i k out (0 ∷ length (path_of (image_map i) k) ∷ []) (path_of (image_map i) k ++ drop (length (path_of (image_map i) k)) out)
    unfolding prefix_says prefix_out
    prefix-written l =
        let w = written-fits (path_of (image_map i) k) out l in
        record { says_is = rw (tested, node) w.says_is; after_is = rw (tested, node) w.after_is }

-- ---- the root

module _ (i : Image) (h : MapImage i) (tested : image_test i ≡ true) where
  root-node : is_node (image_map i) 1 ≡ true
  root-node = (is_node-iff (image_map i) 1).1 (omega arith, omega (arith, length-nodes i h))

  pub value-root : value_says i 1 ≡ 0 ∷ []
  value-root = value-is i 1 ∙ on_place-kept i 1 _ tested root-node ∙ ap says_value (ap (λ (p : Key). lookup p (image_map i)) (path_of-root (image_map i)) ∙ lookup-empty (image_map i) h.catalogue.proper)

  pub prefix_len-root : prefix_len_says i 1 ≡ 0 ∷ 0 ∷ []
  prefix_len-root = prefix_len-is i 1 ∙ on_place-kept i 1 _ tested root-node ∙ ap (λ (p : Key). 0 ∷ length p ∷ []) (path_of-root (image_map i))

  pub prefix-root : (out : List ℕ) → PrefixIs i 1 out (0 ∷ 0 ∷ []) out
  prefix-root out = rw (path_of-root (image_map i)) at (prefix-written i 1 out tested root-node (rw (path_of-root (image_map i)) (omega arith)))
