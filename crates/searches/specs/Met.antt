-- What two images must share to answer a query alike (02, R-7): "Two images with the same n and bits, agreeing on the
-- entries of the siblings met and on the value found, give the same answer."
--
--     counted       of a run of numbers those that count as children of a node
--     met           the siblings that a walk meets: the counted children of each node from which it goes on
--     looked        of these the ones that it looks at: of each node's up to the one that is taken
--     AgreeOn       the two images agree on n, bits, the value found and the entries of some nodes
--     Alike         02's sentence: on those of the siblings met
-- Assumes nothing.
use Rattle.std.specs.Prelude.{◌≡◌, ℕ, zero, suc, ◌+◌, ◌<◌, cond, List, [], ◌∷◌, ◌++◌, length, Option, None, Some}
use Rattle.keymap.specs.Members.{In}
use Rattle.keymap.specs.Key.{Key}
use Rattle.keymap.specs.Bits.{bit}
use Rattle.keymap.specs.Image.{Image, bits_for}
use Rattle.louds.specs.declared.answers.Children.{Children}
use Rattle.louds.specs.Nodes.{children_of}
use Rattle.image.specs.Accept.{entries, node_entry, node_value}
use Rattle.image.specs.AcceptTest.{lengths_fit}
use Rattle.walks.specs.Rule.{counts, is_child_by, step_by, node_by, found_by}

-- among the `left` numbers from m on
unfoldable pub counted : ℕ → ℕ → ℕ → ℕ → List ℕ
counted n k zero m = []
counted n k (suc left) m = cond (counts n k m) (m ∷ counted n k left (m + 1)) (counted n k left (m + 1))

abbrev pub counted_among : ℕ → ℕ → Option Children → List ℕ
counted_among n k None = []
counted_among n k (Some run) = counted n k run.count run.first

-- the counted children of the node where a walk is
abbrev pub siblings_at : List ℕ → (ℕ → ℕ) → ℕ → Option ℕ → List ℕ
siblings_at ls b len None = []
siblings_at ls b len (Some k) = counted_among (length ls) k (children_of b len k)

unfoldable pub met_from : List ℕ → (ℕ → ℕ) → ℕ → Key → Option ℕ → List ℕ
met_from ls b len [] at = []
met_from ls b len (a ∷ q) at = siblings_at ls b len at ++ met_from ls b len q (step_by ls b len a at)

abbrev pub met : Image → Key → List ℕ
met i q = met_from i.labels (bit i.words) (bits_for (entries i)) q (Some 1)

-- among the `left` numbers from m on, up to the one that is taken
unfoldable pub looked_at : List ℕ → ℕ → ℕ → ℕ → ℕ → List ℕ
looked_at ls k zero m a = []
looked_at ls k (suc left) m a =
    cond (counts (length ls) k m) (m ∷ cond (is_child_by ls k m a) [] (looked_at ls k left (m + 1) a))
    (looked_at ls k left (m + 1) a)

abbrev pub looked_among : List ℕ → ℕ → Option Children → ℕ → List ℕ
looked_among ls k None a = []
looked_among ls k (Some run) a = looked_at ls k run.count run.first a

abbrev pub looked_over : List ℕ → (ℕ → ℕ) → ℕ → ℕ → Option ℕ → List ℕ
looked_over ls b len a None = []
looked_over ls b len a (Some k) = looked_among ls k (children_of b len k) a

unfoldable pub looked_from : List ℕ → (ℕ → ℕ) → ℕ → Key → Option ℕ → List ℕ
looked_from ls b len [] at = []
looked_from ls b len (a ∷ q) at = looked_over ls b len a at ++ looked_from ls b len q (step_by ls b len a at)

abbrev pub looked : Image → Key → List ℕ
looked i q = looked_from i.labels (bit i.words) (bits_for (entries i)) q (Some 1)

pub record AgreeOn (i j : Image) (q : Key) (ms : List ℕ) : Type 0 where
  -- "the same n", and lengths that fit it alike
  pub number : entries i ≡ entries j
  pub lengths : lengths_fit i ≡ lengths_fit j
  -- "and bits"
  pub bits : (p : ℕ) → p < bits_for (entries i) → bit i.words p ≡ bit j.words p
  -- "agreeing on the entries of the siblings met"
  pub siblings : (m : ℕ) → In m ms → node_entry i m ≡ node_entry j m
  -- "and on the value found"
  pub value : (m v : ℕ) → node_by i q ≡ Some m → found_by i q ≡ Some v → node_value j m ≡ v

abbrev pub Alike : Image → Image → Key → Type 0
Alike i j q = AgreeOn i j q (met i q)
