-- The shortest key within a query: on any slices what the walk finds, by cases. On an image that some map has a key that is a prefix of the query is one of its leading parts,
-- so the first part longer than what was seen that has a value is the answer, and there is none where all of them have none, as past the end of the walk.
--
--     none_more     one part more without a value
--     common-found  the first with a value is the answer
--     common-none   and where none has one there is no match
--     shortest-end, shortest-next, -lost  what the walk finds on any slices
--     said-rule     on a map's image it is the map's
--     common_says-refused, common_says-accepted  `common_prefix`
--     part-is       the part handed back is as long as the first call says
-- Assumes nothing.
use mathlib.Core.Path.{◌≡◌, refl, sym, ap, ◌∙◌}
use Prim.Native.Nat.{ℕ, zero, suc, ◌+◌, ◌≤◌, ◌<◌}
use native.Mathlib.Decide.{dec_le}
use native.Mathlib.Numerals.{add-one}
use native.Mathlib.Omega.{arith}
use mathlib.Core.Bool.{Bool, true, false}
use mathlib.Core.List.{List, [], ◌∷◌, ◌++◌, head-eq_of_cons-eq}
use Rattle.std.specs.Prelude.{Option, None, Some, Result, Ok, Err}
use Rattle.std.proofs.lemmas.Option.{none-some}
use lib.ListN.{length, get_or, take, drop}
use lib.Dec.{leb}
use lib.Seq.{length-take-le, take-suc, drop-cons, drop-length}
use borrow.Author.Tests.{lt-leb, leb-false}
use Rattle.keymap.specs.Members.{In}
use Rattle.keymap.specs.Key.{Key, PrefixOf}
use Rattle.keymap.specs.Refusals.{refuses}
use Rattle.keymap.specs.declared.refusals.Refusal.{Refusal}
use Rattle.keymap.specs.declared.refusals.Refusal.TheVariants.{NotAnImage as refused-image}
use Rattle.keymap.specs.Map.{Entry, Map, Rising, lookup}
use Rattle.keymap.specs.Queries.{common_prefix_in}
use Rattle.keymap.specs.Bits.{bit}
use Rattle.keymap.specs.Image.{Image, bits_for}
use Rattle.keymap.specs.Decode.{image_map}
use Rattle.keymap.proofs.Laws.Refusals.{no_zero}
use Rattle.keymap.proofs.Laws.Begins.{prefix-leading, prefix-take, prefix-length}
use Rattle.keymap.proofs.Laws.Map.{lookup-iff}
use Rattle.keymap.proofs.Laws.Queries.{common_prefix_in-some, common_prefix_in-none, common_prefix_in-within}
use Rattle.image.specs.Accept.{entries}
use Rattle.image.specs.AcceptTest.{image_test}
use Rattle.image.specs.Meaning.{MapImage}
use Rattle.walks.specs.Rule.{step_by, value_at_end}
use Rattle.walks.specs.MapNodes.{node_at}
use Rattle.walks.proofs.Laws.MapWalk.{step-rule, walk-rule, value-rule, root-rule}
use Rattle.searches.specs.declared.answers.Common.{Common}
use Rattle.searches.specs.Answers.{said_common}
use Rattle.searches.specs.CommonPrefixes.{unless_seen, or_further, shortest_from, match_of, says_common, common_says, part_of, common_part}

-- no leading part of the query that is longer than what was seen and no longer than j has a value
abbrev pub NoneTo : Map → Key → ℕ → ℕ → Type 0
NoneTo m q seen j = (d : ℕ) → seen < d → d ≤ j → lookup (take d q) m ≡ None

pub unless_seen-some : (seen depth v : ℕ) (held : Option ℕ) → unless_seen seen depth held ≡ Some v → (seen < depth) × (held ≡ Some v)
unless_seen-some seen depth v held e = go (leb depth seen) refl
  where
    go : (t : Bool) → leb depth seen ≡ t → (seen < depth) × (held ≡ Some v)
    go true f = absurd (none-some v (rw f at e))
    go false f = (leb-false depth seen f, rw f at e)

module _ (m : Map) (r : Rising m) (q : Key) (seen : ℕ) where
  pub none_more : (j : ℕ) → NoneTo m q seen j → unless_seen seen (j + 1) (lookup (take (j + 1) q) m) ≡ None → NoneTo m q seen (j + 1)
  none_more j n e d l u = go (dec_le d j)
    where
      go : Dec (d ≤ j) → lookup (take d q) m ≡ None
      go (yes b) = n d l b
      go (no b) =
          let same : d ≡ j + 1 = omega arith in
          let past : seen < j + 1 = omega arith in
          rw same (rw (lt-leb (j + 1) seen past) at e)

  -- a key that is a prefix of the query is its leading part
  part-value : (e : Entry) → In e m → PrefixOf e.0 q → lookup (take (length e.0) q) m ≡ Some e.1
  part-value e i w = ap (λ (p : Key). lookup p m) ((prefix-take e.0 q).0 w) ∙ (lookup-iff e.0 e.1 m r).1 i

  pub common-none : NoneTo m q seen (length q) → common_prefix_in q seen m ≡ None
  common-none n =
      (common_prefix_in-none q seen m).1 (λ e i w l. none-some e.1 (sym (n (length e.0) l (prefix-length e.0 q w)) ∙ part-value e i w))

  pub common-found : (j v : ℕ) → NoneTo m q seen j → j < length q → unless_seen seen (j + 1) (lookup (take (j + 1) q) m) ≡ Some v
      → common_prefix_in q seen m ≡ Some (take (j + 1) q, v)
  common-found j v n l e =
      let (past, held) = unless_seen-some seen (j + 1) v (lookup (take (j + 1) q) m) e in
      let size : length (take (j + 1) q) ≡ j + 1 = length-take-le (j + 1) q (omega arith) in
      (common_prefix_in-some q seen m r (take (j + 1) q, v)).1
      (record {
        entry = (lookup-iff (take (j + 1) q) v m r).0 held;
        within = prefix-leading (j + 1) q;
        beyond = omega (arith, size);
        shortest = λ d i w b. go d i w b size (dec_le (length d.0) j);
      })
    where
      go : (d : Entry) → In d m → PrefixOf d.0 q → seen < length d.0 → length (take (j + 1) q) ≡ j + 1 → Dec (length d.0 ≤ j) → length (take (j + 1) q) ≤ length d.0
      go d i w b size (yes u) = absurd (none-some d.1 (sym (n (length d.0) b u) ∙ part-value d i w))
      go d i w b size (no u) = omega arith

-- ---- on any slices

module _ (i : Image) (seen : ℕ) where
  pub shortest-end : (depth : ℕ) (at : Option ℕ) → shortest_from i seen [] depth at ≡ None
  unfolding shortest_from
  shortest-end depth at = refl

  shortest-step : (a : ℕ) (q : Key) (depth : ℕ) (at next : Option ℕ) → step_by i.labels (bit i.words) (bits_for (entries i)) a at ≡ next
      → shortest_from i seen (a ∷ q) depth at ≡ or_further (depth + 1) (unless_seen seen (depth + 1) (value_at_end i.labels i.values next)) (shortest_from i seen q (depth + 1) next)
  unfolding shortest_from
  shortest-step a q depth at next e =
      ap (λ (o : Option ℕ). or_further (depth + 1) (unless_seen seen (depth + 1) (value_at_end i.labels i.values o)) (shortest_from i seen q (depth + 1) o)) e

  unseen-none : (depth : ℕ) → unless_seen seen depth None ≡ None
  unseen-none depth = go (leb depth seen) refl
    where
      go : (t : Bool) → leb depth seen ≡ t → unless_seen seen depth None ≡ None
      go true e = rw e
      go false e = rw e

  shortest-nowhere : (q : Key) (depth : ℕ) → shortest_from i seen q depth None ≡ None
  shortest-nowhere [] depth = shortest-end depth None
  shortest-nowhere (a ∷ q) depth =
      shortest-step a q depth None None refl
      ∙ ap (λ (o : Option ℕ). or_further (depth + 1) o (shortest_from i seen q (depth + 1) None)) (unseen-none (depth + 1))
      ∙ shortest-nowhere q (depth + 1)

  -- along a query, from behind its first `depth` bytes on
  pub shortest-next : (q : Key) (depth : ℕ) (at next : Option ℕ) → depth < length q → step_by i.labels (bit i.words) (bits_for (entries i)) (get_or q depth 0) at ≡ next
      → shortest_from i seen (drop depth q) depth at
      ≡ or_further (depth + 1) (unless_seen seen (depth + 1) (value_at_end i.labels i.values next)) (shortest_from i seen (drop (depth + 1) q) (depth + 1) next)
  shortest-next q depth at next h e =
      ap (λ (r : Key). shortest_from i seen r depth at) (drop-cons q depth 0 h)
      ∙ shortest-step (get_or q depth 0) (drop (suc depth) q) depth at next e
      ∙ ap (λ (n : ℕ). or_further (depth + 1) (unless_seen seen (depth + 1) (value_at_end i.labels i.values next)) (shortest_from i seen (drop n q) (depth + 1) next)) (sym (add-one depth))

  pub shortest-lost : (q : Key) (depth : ℕ) (at : Option ℕ) → depth < length q → step_by i.labels (bit i.words) (bits_for (entries i)) (get_or q depth 0) at ≡ None
      → shortest_from i seen (drop depth q) depth at ≡ None
  shortest-lost q depth at h e =
      shortest-next q depth at None h e
      ∙ ap (λ (o : Option ℕ). or_further (depth + 1) o (shortest_from i seen (drop (depth + 1) q) (depth + 1) None)) (unseen-none (depth + 1))
      ∙ shortest-nowhere (drop (depth + 1) q) (depth + 1)

-- ---- on an image that some map has

pub told : Option Entry → Option (ℕ × ℕ)
told None = None
told (Some e) = Some (length e.0, e.1)

module _ (i : Image) (h : MapImage i) (q : Key) (seen : ℕ) where
  from-rule : (left depth : ℕ) → left + depth ≡ length q → NoneTo (image_map i) q seen depth
      → shortest_from i seen (drop depth q) depth (node_at (image_map i) (take depth q)) ≡ told (common_prefix_in q seen (image_map i))
  unfolding told
  from-rule zero depth e n =
      let all : depth ≡ length q = omega (arith, e) in
      ap (λ (r : Key). shortest_from i seen r depth (node_at (image_map i) (take depth q))) (ap (λ (k : ℕ). drop k q) all ∙ drop-length q)
      ∙ shortest-end i seen depth (node_at (image_map i) (take depth q))
      ∙ sym (ap told (common-none (image_map i) h.catalogue.rising q seen (λ d l u. n d l (omega (arith, all)))))
  from-rule (suc left) depth e n =
      let inside : depth < length q = omega (arith, e) in
      let m : Map = image_map i in
      let part : take depth q ++ (get_or q depth 0 ∷ []) ≡ take (depth + 1) q = sym (take-suc q depth 0 inside) ∙ ap (λ (k : ℕ). take k q) (sym (add-one depth)) in
      let step = step-rule i h (take depth q) (get_or q depth 0) ∙ ap (node_at m) part in
      let value : value_at_end i.labels i.values (node_at m (take (depth + 1) q)) ≡ lookup (take (depth + 1) q) m =
      ap (value_at_end i.labels i.values) (sym (walk-rule i h (take (depth + 1) q))) ∙ value-rule i h (take (depth + 1) q) in
      shortest-next i seen q depth (node_at m (take depth q)) (node_at m (take (depth + 1) q)) inside step
      ∙ ap (λ (o : Option ℕ). or_further (depth + 1) (unless_seen seen (depth + 1) o) (shortest_from i seen (drop (depth + 1) q) (depth + 1) (node_at m (take (depth + 1) q)))) value
      ∙ go inside (unless_seen seen (depth + 1) (lookup (take (depth + 1) q) m)) refl (λ further. from-rule left (depth + 1) (omega (arith, e)) further)
    where
      go : depth < length q → (o : Option ℕ) → unless_seen seen (depth + 1) (lookup (take (depth + 1) q) (image_map i)) ≡ o
          → (NoneTo (image_map i) q seen (depth + 1) → shortest_from i seen (drop (depth + 1) q) (depth + 1) (node_at (image_map i) (take (depth + 1) q)) ≡ told (common_prefix_in q seen (image_map i)))
          → or_further (depth + 1) (unless_seen seen (depth + 1) (lookup (take (depth + 1) q) (image_map i))) (shortest_from i seen (drop (depth + 1) q) (depth + 1) (node_at (image_map i) (take (depth + 1) q)))
          ≡ told (common_prefix_in q seen (image_map i))
      go inside None f ih =
          ap (λ (o : Option ℕ). or_further (depth + 1) o (shortest_from i seen (drop (depth + 1) q) (depth + 1) (node_at (image_map i) (take (depth + 1) q)))) f
          ∙ ih (none_more (image_map i) h.catalogue.rising q seen depth n f)
      go inside (Some v) f ih =
          ap (λ (o : Option ℕ). or_further (depth + 1) o (shortest_from i seen (drop (depth + 1) q) (depth + 1) (node_at (image_map i) (take (depth + 1) q)))) f
          ∙ ap (λ (k : ℕ). Some (k, v)) (sym (length-take-le (depth + 1) q (omega arith)))
          ∙ sym (ap told (common-found (image_map i) h.catalogue.rising q seen depth v n inside f))

  pub shortest-rule : shortest_from i seen q 0 (Some 1) ≡ told (common_prefix_in q seen (image_map i))
  shortest-rule =
      ap (shortest_from i seen q 0) (sym (root-rule i h)) ∙ from-rule (length q) 0 (omega arith) (λ d l u. absurd (omega arith))

  pub said-rule : said_common (Ok (match_of (shortest_from i seen q 0 (Some 1)))) ≡ says_common (common_prefix_in q seen (image_map i))
  unfolding told
  said-rule = ap (λ (o : Option (ℕ × ℕ)). said_common (Ok (match_of o))) shortest-rule ∙ go (common_prefix_in q seen (image_map i))
    where
      go : (o : Option Entry) → said_common (Ok (match_of (told o))) ≡ says_common o
      go None = refl
      go (Some e) = refl

-- ---- what the call says

-- how long the part is that goes with an answer
abbrev pub part_length : Result (Option Common) Refusal → ℕ
part_length (Ok (Some c)) = c.length
part_length (Ok None) = 0
part_length (Err r) = 0

module _ (i : Image) (q : Key) (seen : ℕ) where
  pub common_says-refused : image_test i ≡ false → common_says i q seen ≡ refuses refused-image
  unfolding common_says
  common_says-refused e = rw e

  pub common_says-accepted : image_test i ≡ true → common_says i q seen ≡ says_common (common_prefix_in q seen (image_map i))
  unfolding common_says
  common_says-accepted e = rw e

  pub part-is : (r : Result (Option Common) Refusal) → said_common r ≡ common_says i q seen → (part_length r ≤ length q) × (take (part_length r) q ≡ common_part i q seen)
  unfolding common_says common_part
  part-is r e = go (image_test i) refl
    where
      found : (o : Option Entry) (a : Result (Option Common) Refusal) → common_prefix_in q seen (image_map i) ≡ o → said_common a ≡ says_common o → (part_length a ≤ length q) × (take (part_length a) q ≡ part_of q o)
      found None (Ok (Some c)) f g = let z : ◌≡◌ {A = List ℕ} (c.length ∷ c.value ∷ []) [] = cc in let w : ◌≡◌ {A = ℕ} 0 1 = cc in absurd (omega arith)
      found None (Ok None) f g = (omega arith, refl)
      found None (Err x) f g = (omega arith, refl)
      found (Some d) (Ok (Some c)) f g =
          let size : c.length ≡ length d.0 = cc in
          (omega (arith, size, prefix-length d.0 q (common_prefix_in-within q seen (image_map i) d f)), ap (λ (n : ℕ). take n q) size)
      found (Some d) (Ok None) f g = let z : ◌≡◌ {A = List ℕ} [] (length d.0 ∷ d.1 ∷ []) = cc in let w : ◌≡◌ {A = ℕ} 0 1 = cc in absurd (omega arith)
      found (Some d) (Err x) f g = absurd (no_zero x (sym (head-eq_of_cons-eq g)))

      refused : (a : Result (Option Common) Refusal) → said_common a ≡ refuses refused-image → (part_length a ≤ length q) × (take (part_length a) q ≡ [])
      refused (Ok o) g = let z : ◌≡◌ {A = ℕ} 0 6 = cc in absurd (omega arith)
      refused (Err x) g = (omega arith, refl)

      go : (t : Bool) → image_test i ≡ t → (part_length r ≤ length q) × (take (part_length r) q ≡ common_part i q seen)
      go true f = rw f (found (common_prefix_in q seen (image_map i)) r refl (rw f at e))
      go false f = rw f (refused r (rw f at e))
