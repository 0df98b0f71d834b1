-- R-7's rule (02, "One lookup without reading the catalogue"): a walk down a query, on any bits and any entries.
-- ls are the label entries, n of them; b the bits, of which the first len are read.
--
--     is_node_of     a number is a node's
--     counts         a child counts, and `counts_to`: by the number of the last node
--     matches        an entry matches a label
--     child_by       the child of a node with a label
--     walked         the node at the end of a query, walked from node 1
--     value_of_node  the value of a node
--     node_by        the node at the end of a query, in the first 2n+3 bits of an image, and `found_by`: its value
-- Assumes nothing.
use Rattle.std.specs.Prelude.{ℕ, zero, suc, ◌+◌, ◌-◌, ◌*◌, Bool, cond, ◌&&◌, List, [], ◌∷◌, length, get_or, eqb, ltb, leb, Option, None, Some}
use Rattle.keymap.specs.Key.{Key}
use Rattle.keymap.specs.Label.{mark, label_in}
use Rattle.keymap.specs.Bits.{bit}
use Rattle.keymap.specs.Image.{Image, bits_for}
use Rattle.louds.specs.declared.answers.Children.{Children}
use Rattle.louds.specs.Nodes.{children_of}
use Rattle.image.specs.Accept.{entries}

-- the nodes are numbered from 1 to n+1
unfoldable pub is_node_of : ℕ → ℕ → Bool
is_node_of n k = leb 1 k && leb k (n + 1)

-- "a child counts only if its number, the count of ones up to it, is above k and at most n+1"
abbrev pub counts_to : ℕ → ℕ → ℕ → Bool
counts_to last k m = ltb k m && leb m last

-- n+1 is the last node's number
abbrev pub counts : ℕ → ℕ → ℕ → Bool
counts n k m = counts_to (n + 1) k m

-- "an entry of 512 or more matches no label"
unfoldable pub matches : ℕ → ℕ → Bool
matches e a = ltb e (2 * mark) && eqb (label_in e) a

-- node m of 2 or more has entry m-2, and node 1 has none
unfoldable pub is_child_by : List ℕ → ℕ → ℕ → ℕ → Bool
is_child_by ls k m a = leb 2 m && (counts (length ls) k m && matches (get_or ls (m - 2) 0) a)

-- "among equal labels the lowest number is taken": among the `left` numbers from m on
unfoldable pub lowest_by : List ℕ → ℕ → ℕ → ℕ → ℕ → Option ℕ
lowest_by ls k zero m a = None
lowest_by ls k (suc left) m a = cond (is_child_by ls k m a) (Some m) (lowest_by ls k left (m + 1) a)

abbrev pub child_among : List ℕ → ℕ → Option Children → ℕ → Option ℕ
child_among ls k None a = None
child_among ls k (Some run) a = lowest_by ls k run.count run.first a

-- "children of k are the ones after the k-th zero up to the next zero or the end, none if that zero is missing"
unfoldable pub child_by : List ℕ → (ℕ → ℕ) → ℕ → ℕ → ℕ → Option ℕ
child_by ls b len k a = child_among ls k (children_of b len k) a

-- from the node where a walk is, if it is anywhere
abbrev pub step_by : List ℕ → (ℕ → ℕ) → ℕ → ℕ → Option ℕ → Option ℕ
step_by ls b len a None = None
step_by ls b len a (Some k) = child_by ls b len k a

unfoldable pub walked_from : List ℕ → (ℕ → ℕ) → ℕ → Key → Option ℕ → Option ℕ
walked_from ls b len [] at = at
walked_from ls b len (a ∷ q) at = walked_from ls b len q (step_by ls b len a at)

abbrev pub walked : List ℕ → (ℕ → ℕ) → ℕ → Key → Option ℕ
walked ls b len q = walked_from ls b len q (Some 1)

-- "an entry from 256 to 511 has a value"
abbrev pub value_by : ℕ → ℕ → Option ℕ
value_by e v = cond (leb mark e && ltb e (2 * mark)) (Some v) None

unfoldable pub value_of_node : List ℕ → List ℕ → ℕ → Option ℕ
value_of_node ls vs m =
    cond (leb 2 m && ltb (m - 2) (length vs)) (value_by (get_or ls (m - 2) 0) (get_or vs (m - 2) 0)) None

abbrev pub value_at_end : List ℕ → List ℕ → Option ℕ → Option ℕ
value_at_end ls vs None = None
value_at_end ls vs (Some m) = value_of_node ls vs m

-- "It reads the first 2n+3 bits by this rule"
abbrev pub node_by : Image → Key → Option ℕ
node_by i q = walked i.labels (bit i.words) (bits_for (entries i)) q

abbrev pub found_by : Image → Key → Option ℕ
found_by i q = value_at_end i.labels i.values (node_by i q)
