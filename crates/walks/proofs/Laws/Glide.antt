-- A glide on any bits, by its cases; and on an image that some map has. There a node with a value, or with two children, ends what the keys below it have in common;
-- with one child and no value they all go on through the child. So the only children of nodes without value lead to the end of the common prefix.
--
--     through-valued, through-parted, through-kid  whether a glide goes on, by the first test that fails
--     Through, through-told      and where it leads if it does
--     onward-to, onward-end      what one step tells
--     glided-starts, glides-end, glides-on  the glide, by the step
--     glide-path                 on a map's image it ends at the node of the common prefix
--     common-node                which is a node's path, and the path begins it
--     GlidedAt, glided-at        so the end, by its path and the number of steps
-- Assumes nothing.
use mathlib.Core.Path.{◌≡◌, refl, sym, ap, ◌∙◌}
use mathlib.Core.Logic.{inr, ⊎_elim}
use Prim.Native.Nat.{ℕ, zero, suc, ◌+◌, ◌-◌, ◌≤◌, ◌<◌}
use native.Mathlib.Omega.{arith}
use mathlib.Core.Bool.{Bool, true, false, true≢false}
use mathlib.Core.List.Memᴰ
use mathlib.Core.List.{List, [], ◌∷◌, ◌++◌}
use Rattle.std.specs.Prelude.{Option, None, Some}
use lib.ListN.{length, get_or, length-append}
use lib.Dec.{eqb, ltb, leb}
use borrow.Author.Tests.{le-leb, eq-eqb, ne_eqb, ltb-true, leb-true, eqb-true, eqb-false}
use Rattle.keymap.specs.Members.{In, here}
use Rattle.keymap.specs.Key.{Key, PrefixOf}
use Rattle.keymap.specs.Map.{Map, lookup}
use Rattle.keymap.specs.Queries.{SomeBegins, beginning, common_of_all}
use Rattle.keymap.specs.Bits.{bit}
use Rattle.keymap.specs.Image.{Image, bits_for, degree}
use Rattle.keymap.specs.Paths.{nodes, IsNode, path_of, node_of}
use Rattle.keymap.specs.Decode.{image_map}
use Rattle.keymap.proofs.Laws.Begins.{prefix_refl, prefix-length}
use Rattle.keymap.proofs.Laws.Queries.{beginning-iff, common_of_all-longest, longest_common-begins}
use Rattle.keymap.proofs.Laws.Paths.{path_of-in, path_of-node_of, node_of-node, node_of-path_of, nodes-iff}
use Rattle.keymap.proofs.Laws.Common.{common-valued, common-parted, beginning-single, Fork, ends, single, parts, fork, ends-valued}
use Rattle.louds.proofs.Laws.MapNodes.{ChildrenOf, children-node}
use Rattle.image.specs.Accept.{entries}
use Rattle.image.specs.Meaning.{MapImage}
use Rattle.walks.specs.declared.stands.Stand.{Stand}
use Rattle.walks.specs.declared.glide.Glided.{Glided}
use Rattle.walks.specs.Rule.{counts, value_of_node}
use Rattle.walks.specs.Stands.{stand_at, kids_from, kid_from}
use Rattle.walks.specs.Glide.{common_of, goes_through, only_kid, onward_from, glides, glided_from}
use Rattle.walks.proofs.Laws.MapImage.{length-nodes}
use Rattle.walks.proofs.Laws.MapWalk.{kid, node-value}
use Rattle.walks.proofs.Laws.MapMoves.{KidsPath, kids-path}
use Rattle.walks.proofs.Laws.Rule.{counts_to-upto}

-- ---- one step, on any bits

module _ (n k m : ℕ) where
  counts-told : counts n k m ≡ true → (k < m) × (m ≤ n + 1)
  counts-told e = go (ltb k m) refl (leb m (n + 1)) refl
    where
      go : (s : Bool) → ltb k m ≡ s → (t : Bool) → leb m (n + 1) ≡ t → (k < m) × (m ≤ n + 1)
      go true f true g = (ltb-true _ _ f, leb-true _ _ g)
      go true f false g = absurd (true≢false (sym e ∙ rw (f, g)))
      go false f t g = absurd (true≢false (sym e ∙ rw f))

module _ (ls vs : List ℕ) (b : ℕ → ℕ) (len : ℕ) (s : Stand) where
  pub through-valued : (v : ℕ) → value_of_node ls vs s.node ≡ Some v → goes_through ls vs b len s ≡ false
  unfolding goes_through
  through-valued v e = rw e

  module _ (bare : value_of_node ls vs s.node ≡ None) where
    pub through-parted : ¬ ((kids_from b len s).count ≡ 1) → goes_through ls vs b len s ≡ false
    unfolding goes_through
    through-parted h = rw (bare, ne_eqb (kids_from b len s).count 1 h)

    pub through-kid : (kids_from b len s).count ≡ 1 → goes_through ls vs b len s ≡ counts (length ls) s.node (kids_from b len s).first
    unfolding goes_through
    through-kid h = rw (bare, eq-eqb (kids_from b len s).count 1 h)

  -- a step leads to a higher number, up to n + 1
  pub record Through : Type 0 where
    pub above : s.node < (only_kid b len s).node
    pub within : (only_kid b len s).node ≤ length ls + 1

  pub through-told : goes_through ls vs b len s ≡ true → Through
  unfolding only_kid kid_from
  through-told e = go (value_of_node ls vs s.node) refl (eqb (kids_from b len s).count 1) refl
    where
      go : (o : Option ℕ) → value_of_node ls vs s.node ≡ o → (t : Bool) → eqb (kids_from b len s).count 1 ≡ t → Through
      go (Some v) f t g = absurd (true≢false (sym e ∙ through-valued v f))
      go None f false g = absurd (true≢false (sym e ∙ through-parted f (eqb-false _ _ g)))
      go None f true g =
          let (above, within) = counts-told (length ls) s.node (kids_from b len s).first (sym (through-kid f (eqb-true _ _ g)) ∙ e) in
          record { above = above; within = within }

  pub onward-to : (t : Stand) → onward_from ls vs b len s ≡ Some t → (goes_through ls vs b len s ≡ true) × (only_kid b len s ≡ t)
  onward-to t e = go (goes_through ls vs b len s) refl
    where
      go : (x : Bool) → goes_through ls vs b len s ≡ x → (goes_through ls vs b len s ≡ true) × (only_kid b len s ≡ t)
      go true f = let same : Some (only_kid b len s) ≡ Some t = rw f at e in (f, cc)
      go false f = let never : None ≡ Some t = rw f at e in let z : ◌≡◌ {A = ℕ} 0 1 = cc in absurd (omega arith)

  pub onward-end : onward_from ls vs b len s ≡ None → goes_through ls vs b len s ≡ false
  onward-end e = go (goes_through ls vs b len s) refl
    where
      go : (x : Bool) → goes_through ls vs b len s ≡ x → goes_through ls vs b len s ≡ false
      go true f = let never : Some (only_kid b len s) ≡ None = rw f at e in let z : ◌≡◌ {A = ℕ} 0 1 = cc in absurd (omega arith)
      go false f = f

-- ---- the glide, on any bits

module _ (ls vs : List ℕ) (b : ℕ → ℕ) (len : ℕ) where
  pub glided-starts : (s : Stand) → glided_from ls vs b len s ≡ glides ls vs b len (length ls + 1 - s.node) s 0
  unfolding glided_from
  glided-starts s = refl

  pub glides-end : (left : ℕ) (s : Stand) (steps : ℕ) → goes_through ls vs b len s ≡ false → glides ls vs b len left s steps ≡ record { stand = s; steps = steps }
  unfolding glides
  glides-end zero s steps e = refl
  glides-end (suc left) s steps e = rw e

  glides-step : (left : ℕ) (s : Stand) (steps : ℕ) → goes_through ls vs b len s ≡ true → glides ls vs b len (suc left) s steps ≡ glides ls vs b len left (only_kid b len s) (steps + 1)
  unfolding glides
  glides-step left s steps e = rw e

  -- more turns than there are numbers left change nothing
  glides-enough : (left more : ℕ) (s : Stand) (steps : ℕ) → length ls + 1 - s.node ≤ left → length ls + 1 - s.node ≤ more → glides ls vs b len left s steps ≡ glides ls vs b len more s steps
  glides-enough zero more s steps h g = go (goes_through ls vs b len s) refl
    where
      go : (x : Bool) → goes_through ls vs b len s ≡ x → glides ls vs b len zero s steps ≡ glides ls vs b len more s steps
      go true e = let t = through-told ls vs b len s e in absurd (omega (arith, h, t.above, t.within))
      go false e = glides-end zero s steps e ∙ sym (glides-end more s steps e)
  glides-enough (suc left) zero s steps h g = go (goes_through ls vs b len s) refl
    where
      go : (x : Bool) → goes_through ls vs b len s ≡ x → glides ls vs b len (suc left) s steps ≡ glides ls vs b len zero s steps
      go true e = let t = through-told ls vs b len s e in absurd (omega (arith, g, t.above, t.within))
      go false e = glides-end (suc left) s steps e ∙ sym (glides-end zero s steps e)
  glides-enough (suc left) (suc more) s steps h g = go (goes_through ls vs b len s) refl (λ t u. glides-enough left more (only_kid b len s) (steps + 1) t u)
    where
      go : (x : Bool) → goes_through ls vs b len s ≡ x
          → (length ls + 1 - (only_kid b len s).node ≤ left → length ls + 1 - (only_kid b len s).node ≤ more → glides ls vs b len left (only_kid b len s) (steps + 1) ≡ glides ls vs b len more (only_kid b len s) (steps + 1))
          → glides ls vs b len (suc left) s steps ≡ glides ls vs b len (suc more) s steps
      go true e ih =
          let t = through-told ls vs b len s e in
          glides-step left s steps e
          ∙ ih (omega (arith, h, t.above, t.within)) (omega (arith, g, t.above, t.within))
          ∙ sym (glides-step more s steps e)
      go false e ih = glides-end (suc left) s steps e ∙ sym (glides-end (suc more) s steps e)

  pub glides-on : (s : Stand) (steps : ℕ) → goes_through ls vs b len s ≡ true
      → glides ls vs b len (length ls + 1 - s.node) s steps ≡ glides ls vs b len (length ls + 1 - (only_kid b len s).node) (only_kid b len s) (steps + 1)
  glides-on s steps e =
      let t = through-told ls vs b len s e in
      let left : ℕ = length ls - s.node in
      let back : suc left ≡ length ls + 1 - s.node = omega (arith, t.above, t.within) in
      ap (λ (n : ℕ). glides ls vs b len n s steps) (sym back)
      ∙ glides-step left s steps e
      ∙ glides-enough left (length ls + 1 - (only_kid b len s).node) (only_kid b len s) (steps + 1) (omega (arith, t.above, t.within)) (omega arith)

-- ---- what the keys below a path have in common

-- a path that ends and has no value is the root's, and the map is empty
common-ends : (m : Map) (p : Key) → In p (nodes m) → (SomeBegins p m → ⊥) → common_of m p ≡ p
unfolding common_of_all
common-ends m p n bare = go (beginning p m) refl
  where
    go : (ks : Map) → beginning p m ≡ ks → common_of m p ≡ p
    go [] e = ap common_of_all e ∙ ⊎_elim (λ r. sym r) (λ b. absurd (bare b)) ((nodes-iff m p).0 n)
    go (d ∷ ks) e = let (among, begins) = (beginning-iff p m d).0 (rw e (here refl)) in absurd (bare (d, among, begins))

-- the common prefix is a node's, and the path begins it
pub common-node : (m : Map) (p : Key) → In p (nodes m) → In (common_of m p) (nodes m) × PrefixOf p (common_of m p)
common-node m p n = go (beginning p m) refl
  where
    go : (ks : Map) → beginning p m ≡ ks → In (common_of m p) (nodes m) × PrefixOf p (common_of m p)
    go [] e =
        let bare : SomeBegins p m → ⊥ = λ b. Memᴰ.not-nil (rw e at ((beginning-iff p m b.0).1 (b.1, b.2))) in
        let same : common_of m p ≡ p = common-ends m p n bare in
        (rw same n, rw same (prefix_refl p))
    go (d ∷ ks) e =
        let among : In d (beginning p m) = rw e (here refl) in
        let whole = common_of_all-longest (beginning p m) d among in (
          (nodes-iff m (common_of m p)).1 (inr (d, ((beginning-iff p m d).0 among).0, whole.common d among)),
          longest_common-begins (beginning p m) (common_of m p) p d among whole (λ e b. ((beginning-iff p m e).0 b).1),
        )

-- ---- on an image that some map has

module _ (i : Image) (h : MapImage i) where
  abbrev stood : ℕ → Stand
  stood k = stand_at (bit i.words) (bits_for (entries i)) k

  abbrev through : ℕ → Bool
  through k = goes_through i.labels i.values (bit i.words) (bits_for (entries i)) (stood k)

  -- the keys part at a node, or all go on through a child
  data Going (k : ℕ) : Type 0 where
    part : through k ≡ false → common_of (image_map i) (path_of (image_map i) k) ≡ path_of (image_map i) k → Going k
    go_on : (c : ℕ) → through k ≡ true → only_kid (bit i.words) (bits_for (entries i)) (stood k) ≡ stood c → IsNode (image_map i) c → k < c
        → length (path_of (image_map i) c) ≡ length (path_of (image_map i) k) + 1 → common_of (image_map i) (path_of (image_map i) c) ≡ common_of (image_map i) (path_of (image_map i) k) → Going k

  going : (k : ℕ) → IsNode (image_map i) k → Going k
  unfolding degree only_kid
  going k n = value (lookup p m) refl
    where
      m : Map
      m = image_map i

      p : Key
      p = path_of m k

      d : ChildrenOf m h.catalogue k
      d = children-node m h.catalogue k n

      run : KidsPath i h k d
      run = kids-path i h k n d

      several : value_of_node i.labels i.values k ≡ None → ¬ (degree m p ≡ 1) → through k ≡ false
      several bare s = through-parted i.labels i.values (bit i.words) (bits_for (entries i)) (stood k) bare (λ e. s (sym run.count-is ∙ e))

      by-kids : lookup p m ≡ None → value_of_node i.labels i.values k ≡ None → Fork m p → Going k
      by-kids absent bare (ends none_below e) =
          part (several bare (λ one. omega (arith, e, one)))
          (common-ends m p (path_of-in m k n) (λ b. let (v, f) = ends-valued m h.catalogue.rising p b none_below in let z : ◌≡◌ {A = ℕ} 0 1 = cc in omega arith))
      by-kids absent bare (single a only e) =
          let c : ℕ = d.first + 0 in
          let own = kid i h k n d 0 (omega (arith, e)) in
          let path : path_of m c ≡ p ++ (a ∷ []) = d.paths 0 (omega (arith, e)) ∙ ap (λ ks. get_or ks 0 []) only in
          let first : (kids_from (bit i.words) (bits_for (entries i)) (stood k)).first ≡ c = omega (arith, run.first-is) in
          go_on c
          (through-kid i.labels i.values (bit i.words) (bits_for (entries i)) (stood k) bare (run.count-is ∙ e)
          ∙ ap (counts (length i.labels) k) first
          ∙ counts_to-upto (length i.labels + 1) k c own.child.above
          ∙ le-leb c (length i.labels + 1) own.child.within)
          (ap (kid_from (bit i.words) (bits_for (entries i)) k (kids_from (bit i.words) (bits_for (entries i)) (stood k)).next) first ∙ run.kids-at 0 (omega (arith, e)))
          own.inside
          own.child.above
          (ap length path ∙ length-append p (a ∷ []))
          (ap (common_of m) path ∙ ap common_of_all (sym (beginning-single m h.catalogue.rising p a only absent)))
      by-kids absent bare (parts two e) = part (several bare (λ one. omega (arith, e, one))) (common-parted m p two).0

      value : (o : Option ℕ) → lookup p m ≡ o → Going k
      value (Some v) e =
          part (through-valued i.labels i.values (bit i.words) (bits_for (entries i)) (stood k) v (node-value i h k n ∙ e))
          (common-valued m h.catalogue.rising p v e)
      value None e = by-kids e (node-value i h k n ∙ e) (fork m h.catalogue.rising p)

  -- where a glide ends that made some steps up to a node
  abbrev ending : ℕ → ℕ → Glided
  ending k steps = record {
    stand = stood (node_of (image_map i) (common_of (image_map i) (path_of (image_map i) k)));
    steps = steps + (length (common_of (image_map i) (path_of (image_map i) k)) - length (path_of (image_map i) k));
  }

  ended : (left k steps : ℕ) → IsNode (image_map i) k → through k ≡ false → common_of (image_map i) (path_of (image_map i) k) ≡ path_of (image_map i) k
      → glides i.labels i.values (bit i.words) (bits_for (entries i)) left (stood k) steps ≡ ending k steps
  ended left k steps n stops same =
      let m : Map = image_map i in
      let at : k ≡ node_of m (common_of m (path_of m k)) = sym (ap (node_of m) same ∙ node_of-path_of m h.catalogue.rising k n) in
      let many : steps ≡ steps + (length (common_of m (path_of m k)) - length (path_of m k)) = omega (arith, ap length same) in
      glides-end i.labels i.values (bit i.words) (bits_for (entries i)) left (stood k) steps stops ∙ (λ x. record { stand = stood (at x); steps = many x })

  glides-path : (left k steps : ℕ) → IsNode (image_map i) k → length i.labels + 1 - k ≤ left
      → glides i.labels i.values (bit i.words) (bits_for (entries i)) left (stood k) steps ≡ ending k steps
  glides-path zero k steps n l = go (going k n)
    where
      go : Going k → glides i.labels i.values (bit i.words) (bits_for (entries i)) zero (stood k) steps ≡ ending k steps
      go (part stops same) = ended zero k steps n stops same
      go (go_on c goes at inside above longer same) = absurd (omega (arith, l, above, inside, length-nodes i h))
  glides-path (suc left) k steps n l = go (going k n) (λ c inside below. glides-path left c (steps + 1) inside below)
    where
      m : Map
      m = image_map i

      go : Going k
          → ((c : ℕ) → IsNode m c → length i.labels + 1 - c ≤ left → glides i.labels i.values (bit i.words) (bits_for (entries i)) left (stood c) (steps + 1) ≡ ending c (steps + 1))
          → glides i.labels i.values (bit i.words) (bits_for (entries i)) (suc left) (stood k) steps ≡ ending k steps
      go (part stops same) ih = ended (suc left) k steps n stops same
      go (go_on c goes at inside above longer same) ih =
          let many : steps + 1 + (length (common_of m (path_of m c)) - length (path_of m c)) ≡ steps + (length (common_of m (path_of m k)) - length (path_of m k)) =
          omega (arith, longer, ap length same, prefix-length (path_of m c) (common_of m (path_of m c)) (common-node m (path_of m c) (path_of-in m c inside)).1) in
          glides-step i.labels i.values (bit i.words) (bits_for (entries i)) left (stood k) steps goes
          ∙ ap (λ (s : Stand). glides i.labels i.values (bit i.words) (bits_for (entries i)) left s (steps + 1)) at
          ∙ ih c inside (omega (arith, l, above))
          ∙ (λ x. record { stand = stood (node_of m (same x)); steps = many x })

  -- it ends at the node of the common prefix, as many labels on as that is longer
  pub glide-path : (k : ℕ) → IsNode (image_map i) k
      → glided_from i.labels i.values (bit i.words) (bits_for (entries i)) (stand_at (bit i.words) (bits_for (entries i)) k)
      ≡ record {
        stand = stand_at (bit i.words) (bits_for (entries i)) (node_of (image_map i) (common_of (image_map i) (path_of (image_map i) k)));
        steps = length (common_of (image_map i) (path_of (image_map i) k)) - length (path_of (image_map i) k);
      }
  glide-path k n =
      let m : Map = image_map i in
      let many : 0 + (length (common_of m (path_of m k)) - length (path_of m k)) ≡ length (common_of m (path_of m k)) - length (path_of m k) = omega arith in
      glided-starts i.labels i.values (bit i.words) (bits_for (entries i)) (stood k)
      ∙ glides-path (length i.labels + 1 - k) k 0 n (omega arith)
      ∙ (λ x. record { stand = stood (node_of m (common_of m (path_of m k))); steps = many x })

  pub record GlidedAt (k : ℕ) (g : Glided) : Type 0 where
    pub inside : IsNode (image_map i) g.stand.node
    pub path : path_of (image_map i) g.stand.node ≡ common_of (image_map i) (path_of (image_map i) k)
    pub far : length (path_of (image_map i) k) + g.steps ≡ length (common_of (image_map i) (path_of (image_map i) k))

  pub glided-at : (k : ℕ) → IsNode (image_map i) k
      → GlidedAt k (glided_from i.labels i.values (bit i.words) (bits_for (entries i)) (stand_at (bit i.words) (bits_for (entries i)) k))
  glided-at k n =
      let m : Map = image_map i in
      let p : Key = path_of m k in
      let (own, begins) = common-node m p (path_of-in m k n) in
      rw (glide-path k n)
      (record {
        inside = node_of-node m (common_of m p) own;
        path = path_of-node_of m (common_of m p) own;
        far = omega (arith, prefix-length p (common_of m p) begins);
      })
