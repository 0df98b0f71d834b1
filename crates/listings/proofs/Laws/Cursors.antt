-- The set of a listing, the cursors that belong, and what the calls say. A cursor's numbers stand for paths, and a key's value in the set is its value in the map
-- if the set's test keeps it. The two kinds differ in the top's own key alone, so that both go on as the predictive one does.
--
--     entry-path                 the key of an entry is the path of a node
--     set_of-rising, set_of-in, set-none  a set rises; its keys; and no set where no key goes; `top-node`: what its
--                                keys begin with is a node
--     given-unvalued, given-predictive, given-postfix  whether a node is that of a key of the set, and `extends-other`:
--                                which keys extend another
--     belongs-fresh, belongs-at  a fresh cursor belongs, and one at the node of a key of the set; back: `belongs-top`,
--                                `belongs-under`
--     next_in-at, next_in-later  what the next step gives, and `head-valued`, `head-unvalued` of a fresh cursor
--     says_step-entry, says_step-nothing  a step's answer, by what was given, and `given_inside`: that is a node
--     keys-longer, keys-some     whether a set has a key
--     start_says-refused, start_says-accepted, step_says-refused, -finished, -bad, -open  what a start and a step say
-- Assumes nothing.
use mathlib.Core.Path.{◌≡◌, refl, ap, subst, ◌∙◌}
use mathlib.Core.Logic.{inr, ⊎_elim}
use Prim.Native.Nat.{ℕ, zero, suc, ◌<◌}
use native.Mathlib.Omega.{arith}
use mathlib.Core.Bool.{Bool, true, false, cond, ◌&&◌, false≢true}
use mathlib.Core.List.{[], ◌∷◌}
use Rattle.std.specs.Prelude.{Option, None, Some}
use lib.ListN.{length, get_or}
use lib.Dec.{ltb}
use borrow.Author.Tests.{ltb-true, lt-ltb}
use Rattle.keymap.specs.Members.{In, here, head_of}
use Rattle.keymap.specs.Answers.{given}
use Rattle.keymap.specs.Refusals.{refuses}
use Rattle.keymap.specs.declared.refusals.Refusal.TheVariants.{NotAnImage, BadPlace}
use Rattle.keymap.specs.Key.{Key, begins_with, PrefixOf, extends}
use Rattle.keymap.specs.Map.{Entry, Map, Rising, Catalogue, lookup}
use Rattle.keymap.specs.Queries.{nonempty, SomeBegins, beginning, longer, is_prefix_in, least_above}
use Rattle.keymap.specs.Prefixes.{prefixes}
use Rattle.keymap.specs.Image.{Image}
use Rattle.keymap.specs.Paths.{nodes, IsNode, is_node, path_of, node_of}
use Rattle.keymap.specs.Decode.{image_map}
use Rattle.keymap.proofs.Laws.Members.{head_in, get_or-in}
use Rattle.keymap.proofs.Laws.Begins.{both_true, prefix-empty, prefix_refl, prefix-proper, extends-iff}
use Rattle.keymap.proofs.Laws.Map.{lookup-iff, proper-in}
use Rattle.keymap.proofs.Laws.Queries.{beginning-iff, beginning-rising, beginning-present, beginning-absent, nonempty-beginning, lookup-beginning, longer-iff, longer-rising, lookup-longer, least_above-some}
use Rattle.keymap.proofs.Laws.Prefixes.{prefixes-iff}
use Rattle.keymap.proofs.Laws.Paths.{is_node-iff, index_of-in, nodes-iff, path_of-in, node_of-node, path_of-node_of, node_of-path_of, tests_same}
use Rattle.keymap.proofs.Laws.Steps.{least_above-longer, head-longer}
use Rattle.image.specs.AcceptTest.{image_test}
use Rattle.image.specs.Meaning.{MapImage}
use Rattle.listings.specs.declared.answers.Kind.{Kind}
use Rattle.listings.specs.declared.answers.Kind.TheVariants as kinds
use Rattle.listings.specs.declared.answers.Cursor.{Cursor}
use Rattle.listings.specs.declared.answers.Cursor.TheVariants.{Open, Finished}
use Rattle.listings.specs.Answers.{said_cursor}
use Rattle.walks.specs.declared.entries.KeyNode.{KeyNode}
use Rattle.climbs.specs.Order.{UnderTop, given_by}
use Rattle.listings.specs.Cursors.{set_of, last_belongs, belongs, start_says, next_in, says_end, says_step, step_says}
use Rattle.walks.proofs.Laws.MapImage.{length-prefixes}

-- the key of an entry is the path of a node
pub entry-path : (m : Map) (e : Entry) → In e m → In e.0 (nodes m)
entry-path m e i = (nodes-iff m e.0).1 (inr (e, i, prefix_refl e.0))

module _ (m : Map) (rises : Rising m) where
  pub set_of-rising : (kind : Kind) (p : Key) → Rising (set_of m kind p)
  set_of-rising kinds.Predictive p = beginning-rising p m rises
  set_of-rising kinds.Postfix p = longer-rising p m rises

  pub set_of-in : (kind : Kind) (p : Key) (e : Entry) → In e (set_of m kind p) → In e m × PrefixOf p e.0
  set_of-in kinds.Predictive p e i = (beginning-iff p m e).0 i
  set_of-in kinds.Postfix p e i = let (j, h, l) = (longer-iff p m e).0 i in (j, h)

  -- and so is what a key of a set begins with
  pub top-node : (kind : Kind) (p : Key) (e : Entry) → In e (set_of m kind p) → In p (nodes m)
  top-node kind p e i = let (j, h) = set_of-in kind p e i in (nodes-iff m p).1 (inr (e, j, h))

  -- where no key goes, no set has a key
  pub set-none : (kind : Kind) (q : Key) → ¬ In q (nodes m) → nonempty (set_of m kind q) ≡ false
  set-none kind q n = go (set_of m kind q) refl
    where
      go : (set : Map) → set_of m kind q ≡ set → nonempty set ≡ false
      go [] s = refl
      go (e ∷ set) s = absurd (n (top-node kind q e (rw s (here refl))))

  pub belongs-fresh : (kind : Kind) (top : ℕ) → IsNode m top → belongs m (Open kind top 0) ≡ true
  unfolding belongs
  belongs-fresh kind top h = (both_true (is_node m top) true).1 ((is_node-iff m top).1 h, refl)

  module _ (kind : Kind) (p : Key) (e : Entry) (i : In e (set_of m kind p)) where
    own-path : path_of m (node_of m e.0) ≡ e.0
    own-path = path_of-node_of m e.0 (entry-path m e (set_of-in kind p e i).0)

    top-path : path_of m (node_of m p) ≡ p
    top-path = path_of-node_of m p (top-node kind p e i)

    pub belongs-at : belongs m (Open kind (node_of m p) (node_of m e.0)) ≡ true
    unfolding belongs node_of
    belongs-at =
        (both_true (is_node m (node_of m p)) (is_node m (node_of m e.0) && given (lookup (path_of m (node_of m e.0)) (set_of m kind (path_of m (node_of m p)))))).1 (
          (is_node-iff m (node_of m p)).1 (node_of-node m p (top-node kind p e i)),
          (both_true (is_node m (node_of m e.0)) (given (lookup (path_of m (node_of m e.0)) (set_of m kind (path_of m (node_of m p)))))).1 (
            (is_node-iff m (node_of m e.0)).1 (node_of-node m e.0 (entry-path m e (set_of-in kind p e i).0)),
            rw (own-path, top-path, (lookup-iff e.0 e.1 (set_of m kind p) (set_of-rising kind p)).1 i),
          ),
        )

    pub next_in-at : next_in m (set_of m kind (path_of m (node_of m p))) (node_of m e.0) ≡ least_above e.0 (set_of m kind p)
    unfolding node_of
    next_in-at = rw (own-path, top-path)

  -- ---- which nodes are keys of the set

  pub given-unvalued : (kind : Kind) (p x : Key) → lookup x m ≡ None → given (lookup x (set_of m kind p)) ≡ false
  given-unvalued kinds.Predictive p x e = go (begins_with p x) (lookup-beginning p m rises x)
    where
      go : (t : Bool) → lookup x (beginning p m) ≡ cond t (lookup x m) None → given (lookup x (beginning p m)) ≡ false
      go true f = ap given (f ∙ e)
      go false f = ap given f
  given-unvalued kinds.Postfix p x e = go (extends p x) (lookup-longer p m rises x)
    where
      go : (t : Bool) → lookup x (longer p m) ≡ cond t (lookup x m) None → given (lookup x (longer p m)) ≡ false
      go true f = ap given (f ∙ e)
      go false f = ap given f

  module _ (p x : Key) (v : ℕ) (e : lookup x m ≡ Some v) where
    pub given-predictive : given (lookup x (set_of m kinds.Predictive p)) ≡ begins_with p x
    given-predictive = go (begins_with p x) (lookup-beginning p m rises x)
      where
        go : (t : Bool) → lookup x (beginning p m) ≡ cond t (lookup x m) None → given (lookup x (beginning p m)) ≡ t
        go true f = ap given (f ∙ e)
        go false f = ap given f

    pub given-postfix : given (lookup x (set_of m kinds.Postfix p)) ≡ extends p x
    given-postfix = go (extends p x) (lookup-longer p m rises x)
      where
        go : (t : Bool) → lookup x (longer p m) ≡ cond t (lookup x m) None → given (lookup x (longer p m)) ≡ t
        go true f = ap given (f ∙ e)
        go false f = ap given f

-- another key extends it if it begins with it
pub extends-other : (p x : Key) → ¬ (x ≡ p) → extends p x ≡ begins_with p x
extends-other p x n =
    tests_same (extends p x) (begins_with p x) (λ h. ((extends-iff p x).0 h).0) (λ h. (extends-iff p x).1 (h, (prefix-proper p x h).1 n))

-- ---- which cursors belong

module _ (m : Map) (kind : Kind) (top last : ℕ) where
  pub belongs-top : belongs m (Open kind top last) ≡ true → IsNode m top
  unfolding belongs
  belongs-top h = (is_node-iff m top).0 ((both_true (is_node m top) (last_belongs m (set_of m kind (path_of m top)) last)).0 h).0

  pub belongs-under : Rising m → belongs m (Open kind top last) ≡ true → ¬ (last ≡ 0) → UnderTop m top last
  unfolding belongs
  belongs-under r h n = go last n ((both_true (is_node m top) (last_belongs m (set_of m kind (path_of m top)) last)).0 h).1
    where
      found : (k : ℕ) → IsNode m k → (o : Option ℕ) → lookup (path_of m k) (set_of m kind (path_of m top)) ≡ o → given o ≡ true → UnderTop m top k
      found k i None e g = absurd (false≢true g)
      found k i (Some v) e g =
          let member = (lookup-iff (path_of m k) v (set_of m kind (path_of m top)) (set_of-rising m r kind (path_of m top))).0 e in
          record { top-inside = belongs-top h; inside = i; begins = (set_of-in m r kind (path_of m top) (path_of m k, v) member).1 }

      go : (k : ℕ) → ¬ (k ≡ 0) → last_belongs m (set_of m kind (path_of m top)) k ≡ true → UnderTop m top k
      go zero d g = absurd (d refl)
      go (suc k) d g =
          let (i, e) = (both_true (is_node m (suc k)) (given (lookup (path_of m (suc k)) (set_of m kind (path_of m top))))).0 g in
          found (suc k) ((is_node-iff m (suc k)).0 i) (lookup (path_of m (suc k)) (set_of m kind (path_of m top))) refl e

-- ---- what the next step gives

module _ (m : Map) (c : Catalogue m) (top : ℕ) (inside : IsNode m top) where
  pub head-valued : (v : ℕ) → lookup (path_of m top) m ≡ Some v → given_by m (head_of (beginning (path_of m top) m)) ≡ Some (record { node = top; value = v })
  head-valued v e =
      ap (λ (n : Map). given_by m (head_of n)) (beginning-present (path_of m top) v m c.rising e)
      ∙ ap (λ (k : ℕ). Some (record { node = k; value = v })) (node_of-path_of m c.rising top inside)

  pub head-unvalued : lookup (path_of m top) m ≡ None → head_of (beginning (path_of m top) m) ≡ least_above (path_of m top) (beginning (path_of m top) m)
  head-unvalued e = ap head_of (beginning-absent (path_of m top) m c.rising e) ∙ head-longer m c.rising (path_of m top)

  pub under_top : UnderTop m top top
  under_top = record { top-inside = inside; inside = inside; begins = prefix_refl (path_of m top) }

  pub next_in-later : (kind : Kind) (last : ℕ) → UnderTop m top last → ¬ (last ≡ 0)
      → next_in m (set_of m kind (path_of m top)) last ≡ least_above (path_of m last) (beginning (path_of m top) m)
  next_in-later kind zero u n = absurd (n refl)
  next_in-later kinds.Predictive (suc k) u n = refl
  next_in-later kinds.Postfix (suc k) u n = least_above-longer m c.rising (path_of m top) (path_of m (suc k)) u.begins

-- the postfix set has a key exactly if some key goes on
pub keys-longer : (m : Map) (p : Key) → is_prefix_in p m ≡ nonempty (set_of m kinds.Postfix p)
unfolding is_prefix_in
keys-longer m p = refl

-- what is given is an entry of the set
next_in-in : (m : Map) → Rising m → (kind : Kind) (p : Key) (last : ℕ) (e : Entry) → next_in m (set_of m kind p) last ≡ Some e → In e (set_of m kind p)
next_in-in m r kind p zero e f = head_in (set_of m kind p) f
next_in-in m r kind p (suc k) e f = ((least_above-some (path_of m (suc k)) (set_of m kind p) (set_of-rising m r kind p) e).0 f).entry

-- a step's answer, by what was given
pub says_step-entry : (m : Map) (kind : Kind) (top : ℕ) (o : Option Entry) (n : KeyNode) → given_by m o ≡ Some n
    → says_step m kind top o ≡ 0 ∷ n.node ∷ n.value ∷ said_cursor (Open kind top n.node)
says_step-entry m kind top None n e = let z : ◌≡◌ {A = ℕ} 0 1 = cc in absurd (omega arith)
says_step-entry m kind top (Some d) n e =
    let f : ◌≡◌ {A = KeyNode} (record { node = node_of m d.0; value = d.1 }) n = cc in
    ap (λ (k : KeyNode). 0 ∷ k.node ∷ k.value ∷ said_cursor (Open kind top k.node)) f

pub says_step-nothing : (m : Map) (kind : Kind) (top : ℕ) (o : Option Entry) → given_by m o ≡ None → says_step m kind top o ≡ says_end kind
says_step-nothing m kind top None e = refl
says_step-nothing m kind top (Some d) e = let z : ◌≡◌ {A = ℕ} 0 1 = cc in absurd (omega arith)

pub given_inside : (m : Map) → Rising m → (kind : Kind) (p : Key) (last : ℕ) (n : KeyNode) → given_by m (next_in m (set_of m kind p) last) ≡ Some n → IsNode m n.node
given_inside m r kind p last n e = go (next_in m (set_of m kind p) last) refl e
  where
    go : (o : Option Entry) → next_in m (set_of m kind p) last ≡ o → given_by m o ≡ Some n → IsNode m n.node
    go None f g = let z : ◌≡◌ {A = ℕ} 0 1 = cc in absurd (omega arith)
    go (Some d) f g =
        let own : In d.0 (nodes m) = entry-path m d (set_of-in m r kind p d (next_in-in m r kind p last d f)).0 in
        let same : ◌≡◌ {A = KeyNode} (record { node = node_of m d.0; value = d.1 }) n = cc in
        subst (λ (k : KeyNode). IsNode m k.node) same (node_of-node m d.0 own)

-- ---- the start

module _ (i : Image) (h : MapImage i) where
  -- where there is a node besides the root, some key begins with any node's path
  pub keys-some : (k : ℕ) → IsNode (image_map i) k → nonempty (beginning (path_of (image_map i) k) (image_map i)) ≡ ltb 0 (length i.labels)
  keys-some k n =
      tests_same (nonempty (beginning p m)) (ltb 0 (length i.labels))
      (λ e. lt-ltb 0 (length i.labels) (omega (arith, positive ((nonempty-beginning p m).0 e), length-prefixes i h)))
      (λ e. (nonempty-beginning p m).1 (⊎_elim (λ f. rw f (any (ltb-true 0 (length i.labels) e))) (λ b. b) ((nodes-iff m p).0 (path_of-in m k n))))
    where
      m : Map
      m = image_map i

      p : Key
      p = path_of (image_map i) k

      positive : SomeBegins p m → 0 < length (prefixes m)
      positive (e, j, f) =
          let own : In e.0 (prefixes m) = (prefixes-iff m e.0).1 ((proper-in m h.catalogue.proper e j).0, (e, j, prefix_refl e.0)) in
          omega (arith, (index_of-in e.0 (prefixes m) own).0)

      any : 0 < length i.labels → SomeBegins [] m
      any l =
          let q : Key = get_or (prefixes m) 0 [] in
          let (e, j, f) = ((prefixes-iff m q).0 (get_or-in [] (prefixes m) 0 (omega (arith, length-prefixes i h)))).1 in
          (e, j, prefix-empty e.0)

-- ---- what the calls say

module _ (i : Image) where
  pub start_says-refused : (kind : Kind) (q : Key) → image_test i ≡ false → start_says kind i q ≡ refuses NotAnImage
  unfolding start_says
  start_says-refused kind q e = rw e

  pub start_says-accepted : (kind : Kind) (q : Key) → image_test i ≡ true
      → start_says kind i q ≡ 0 ∷ said_cursor (cond (nonempty (set_of (image_map i) kind q)) (Open kind (node_of (image_map i) q) 0) (Finished kind))
  unfolding start_says
  start_says-accepted kind q e = rw e

  pub step_says-refused : (c : Cursor) → image_test i ≡ false → step_says i c ≡ refuses NotAnImage
  unfolding step_says
  step_says-refused c e = rw e

  pub step_says-finished : (kind : Kind) → image_test i ≡ true → step_says i (Finished kind) ≡ says_end kind
  unfolding step_says belongs
  step_says-finished kind e = rw e

  pub step_says-bad : (kind : Kind) (top last : ℕ) → image_test i ≡ true → belongs (image_map i) (Open kind top last) ≡ false
      → step_says i (Open kind top last) ≡ refuses BadPlace
  unfolding step_says
  step_says-bad kind top last e f = rw (e, f)

  pub step_says-open : (kind : Kind) (top last : ℕ) → image_test i ≡ true → belongs (image_map i) (Open kind top last) ≡ true
      → step_says i (Open kind top last) ≡ says_step (image_map i) kind top (next_in (image_map i) (set_of (image_map i) kind (path_of (image_map i) top)) last)
  unfolding step_says
  step_says-open kind top last e f = rw (e, f)
