-- On an image that some map has, and from one of its nodes, the moves on numbers say what the map says.
--
--     query-kept, follow-kept, goto-kept    each move keeps its promise
-- Assumes nothing.
use mathlib.Core.Path.{◌≡◌, refl, sym, ap, ◌∙◌}
use Prim.Native.Nat.{ℕ, zero, suc, ◌+◌, ◌-◌, ◌≤◌, ◌<◌}
use native.Mathlib.Omega.{arith}
use mathlib.Core.Bool.{true, false, cond}
use mathlib.Core.List.{List, [], ◌∷◌, ◌++◌, append_assoc, append-nil}
use Rattle.std.specs.Prelude.{Option, None, Some, Result, Ok}
use lib.ListN.{length, get_or, take, length-append}
use lib.Seq.{take_all}
use borrow.Author.Tests.{lt-ltb, le-ltb}
use Rattle.keymap.specs.Members.{In}
use Rattle.keymap.specs.Key.{Key, PrefixOf}
use Rattle.keymap.specs.Map.{Map, lookup}
use Rattle.keymap.specs.Queries.{beginning, longer, is_prefix_in, common_of_all}
use Rattle.keymap.specs.Answers.{given}
use Rattle.keymap.specs.Bits.{bit}
use Rattle.keymap.specs.Image.{Image, bits_for, degree}
use Rattle.keymap.specs.Paths.{nodes, IsNode, is_node, path_of, node_of}
use Rattle.keymap.specs.Decode.{image_map}
use Rattle.keymap.proofs.Laws.Begins.{prefix_trans, prefix-append}
use Rattle.keymap.proofs.Laws.Paths.{is_node-iff, path_of-in, path_of-node_of, is_path-iff, node_of-node, node_of-path_of}
use Rattle.keymap.proofs.Laws.Common.{common-parted, longer-single, Fork, ends, single, parts, fork}
use Rattle.louds.proofs.Laws.MapNodes.{ChildrenOf, children-node}
use Rattle.image.specs.Accept.{entries}
use Rattle.image.specs.AcceptTest.{image_test}
use Rattle.image.specs.Meaning.{MapImage}
use Rattle.walks.specs.declared.stands.Stand.{Stand}
use Rattle.walks.specs.declared.glide.Glided.{Glided}
use Rattle.walks.specs.Stands.{kids_from, kid_from}
use Rattle.walks.specs.Glide.{common_of, only_kid, glided_from}
use Rattle.walks.proofs.Laws.MapImage.{length-nodes}
use Rattle.walks.proofs.Laws.MapWalk.{PathTold, there, absent, path-told, kid, child-rule, node-value}
use Rattle.walks.proofs.Laws.MapMoves.{kids-path, kids-some}
use Rattle.walks.proofs.Laws.Glide.{glided-at, common-node}
use Rattle.places.specs.declared.answers.Answer.{Answer}
use Rattle.places.specs.declared.answers.Moved.{Moved}
use Rattle.places.specs.Incremental.{said_answer, says_ok, says_err, said_queried, said_followed, said_gone, place_at, path_says, walkable, follow_in, common_below, goto_in, QueryPromise, FollowPromise, GotoPromise}
use Rattle.places.specs.Moves.{place_number, stand_in, count_from, answer_by, query_by, follow_stops, follow_ends, follow_from, follow_by, gone_to, goto_ends, goto_by}
use Rattle.places.proofs.Laws.Incremental.{path_says-is, leaf-valued, longer-node, path-not, walkable-is, follow-empty, follow-whole, follow-failed, goto-none, goto-some, lookup-longer-same, lookup-longer-behind, promise-kept, query-promise, follow-promise, goto-promise}
use Rattle.places.proofs.Laws.Moves.{number_small, answer-leaf, answer-inner, query-missed, query-found, follow-end, ends-empty, ends_some, follow-next, goto-leaf, goto-several, goto-through}

module _ (i : Image) (h : MapImage i) where
  -- a node's number is a place's
  number-node : (k : ℕ) → IsNode (image_map i) k → place_number k ≡ k
  number-node k n = number_small k (omega (arith, n, length-nodes i h, h.few))

  -- ---- what a node is

  -- as many children as the map has
  count-node : (k : ℕ) → IsNode (image_map i) k → count_from i (stand_in i k) ≡ degree (image_map i) (path_of (image_map i) k)
  count-node k n = (kids-path i h k n (children-node (image_map i) h.catalogue k n)).count-is

  -- of one but the root
  answer-node : (k : ℕ) → IsNode (image_map i) k → 2 ≤ k → said_answer (answer_by i (stand_in i k)) ≡ path_says (image_map i) (path_of (image_map i) k)
  answer-node k n l = go (count_from i (stand_in i k)) refl
    where
      m : Map
      m = image_map i

      p : Key
      p = path_of m k

      -- with children, by its value
      inner : ¬ (count_from i (stand_in i k) ≡ 0) → is_prefix_in p m ≡ true → (w : Option ℕ) → lookup p m ≡ w → said_answer (answer_by i (stand_in i k)) ≡ path_says m p
      inner some-kids on None e = ap said_answer (answer-inner i (stand_in i k) None some-kids (node-value i h k n ∙ e)) ∙ sym (path_says-is m p true None on e)
      inner some-kids on (Some v) e = ap said_answer (answer-inner i (stand_in i k) (Some v) some-kids (node-value i h k n ∙ e)) ∙ sym (path_says-is m p true (Some v) on e)

      go : (c : ℕ) → count_from i (stand_in i k) ≡ c → said_answer (answer_by i (stand_in i k)) ≡ path_says m p
      go zero e =
          let bare : is_prefix_in p m ≡ false = sym (kids-some i h k n) ∙ le-ltb 0 (count_from i (stand_in i k)) (omega arith) in
          let (v, held) = leaf-valued m h.catalogue.rising k n l bare in
          ap said_answer (answer-leaf i (stand_in i k) e) ∙ sym (path_says-is m p false (Some v) bare held)
      go (suc c) e =
          inner (omega arith) (sym (kids-some i h k n) ∙ lt-ltb 0 (count_from i (stand_in i k)) (omega arith)) (lookup p m) refl

  -- ---- one label

  module _ (tested : image_test i ≡ true) (k : ℕ) (belongs : is_node (image_map i) k ≡ true) where
    own : IsNode (image_map i) k
    own = (is_node-iff (image_map i) k).0 belongs

    pub query-kept : (a : ℕ) → QueryPromise i a (place_at k) (query_by i k a).answer (place_at (query_by i k a).node)
    query-kept a = go (path-told m q)
      where
        m : Map
        m = image_map i

        q : Key
        q = path_of m k ++ (a ∷ [])

        go : PathTold m q → QueryPromise i a (place_at k) (query_by i k a).answer (place_at (query_by i k a).node)
        go (there on e) =
            let c : ℕ = node_of m q in
            let inside = node_of-node m q on in
            let path = path_of-node_of m q on in
            let low : 2 ≤ c = longer-node m c inside (omega (arith, ap length path, length-append (path_of m k) (a ∷ []))) in
            let found = query-found i k a c (child-rule i h k own a ∙ e) in
            let is = (is_path-iff m q).1 on in
            query-promise i k a _ _
            (promise-kept i k _ _ tested belongs _ _
            (ap (λ (r : Moved (Option Answer)). said_queried r.answer) found ∙ rw is (ap (λ (n : ℕ). 0 ∷ n ∷ []) (answer-node c inside low ∙ ap (path_says m) path)))
            (ap (λ (r : Moved (Option Answer)). r.node) found ∙ rw is (number-node c inside)))
        go (absent off e) =
            let missed = query-missed i k a (child-rule i h k own a ∙ e) in
            let is = path-not m q off in
            query-promise i k a _ _
            (promise-kept i k _ _ tested belongs _ _ (ap (λ (r : Moved (Option Answer)). said_queried r.answer) missed ∙ rw is) (ap (λ (r : Moved (Option Answer)). r.node) missed ∙ rw is))

  -- ---- along a query

  -- a walk from node k, j labels on, stops at a label that leads nowhere, or comes to its end
  data FollowTold (k : ℕ) (q : Key) (j : ℕ) : Type 0 where
    stopped : (d : ℕ) → d < length q → In (path_of (image_map i) k ++ take d q) (nodes (image_map i)) → ¬ In (path_of (image_map i) k ++ take (suc d) q) (nodes (image_map i))
        → follow_from i q j k ≡ follow_stops (j + d) (node_of (image_map i) (path_of (image_map i) k ++ take d q)) → FollowTold k q j
    ended : In (path_of (image_map i) k ++ q) (nodes (image_map i)) → follow_from i q j k ≡ follow_ends i (j + length q) (node_of (image_map i) (path_of (image_map i) k ++ q)) → FollowTold k q j

  follow-told : (q : Key) (k j : ℕ) → IsNode (image_map i) k → FollowTold k q j
  follow-told [] k j n =
      let m : Map = image_map i in
      let here : k ≡ node_of m (path_of m k ++ []) = sym (ap (node_of m) (append-nil (path_of m k)) ∙ node_of-path_of m h.catalogue.rising k n) in
      let far : j ≡ j + 0 = omega arith in
      ended (rw (append-nil (path_of m k)) (path_of-in m k n)) (follow-end i j k ∙ ap (λ (x : ℕ). follow_ends i x k) far ∙ ap (follow_ends i (j + 0)) here)
  follow-told (a ∷ q) k j n = go (path-told m (p ++ (a ∷ []))) (λ c inside. follow-told q c (j + 1) inside)
    where
      m : Map
      m = image_map i

      p : Key
      p = path_of m k

      further : (c : ℕ) → path_of m c ≡ p ++ (a ∷ []) → follow_from i (a ∷ q) j k ≡ follow_from i q (j + 1) c → FollowTold c q (j + 1) → FollowTold k (a ∷ q) j
      further c path on (stopped d l leads past e) =
          let join : (r : Key) → path_of m c ++ r ≡ p ++ (a ∷ r) = λ r. ap (λ (x : Key). x ++ r) path ∙ append_assoc p (a ∷ []) r in
          let far : j + 1 + d ≡ j + suc d = omega arith in
          stopped (suc d) (omega arith) (rw (join (take d q)) at leads) (λ more. past (rw (join (take (suc d) q)) more))
          (on ∙ e ∙ ap (λ (x : ℕ). follow_stops x (node_of m (path_of m c ++ take d q))) far ∙ ap (λ (x : Key). follow_stops (j + suc d) (node_of m x)) (join (take d q)))
      further c path on (ended leads e) =
          let join : path_of m c ++ q ≡ p ++ (a ∷ q) = ap (λ (x : Key). x ++ q) path ∙ append_assoc p (a ∷ []) q in
          let far : j + 1 + length q ≡ j + length (a ∷ q) = omega arith in
          ended (rw join at leads)
          (on ∙ e ∙ ap (λ (x : ℕ). follow_ends i x (node_of m (path_of m c ++ q))) far ∙ ap (λ (x : Key). follow_ends i (j + length (a ∷ q)) (node_of m x)) join)

      go : PathTold m (p ++ (a ∷ [])) → ((c : ℕ) → IsNode m c → FollowTold c q (j + 1)) → FollowTold k (a ∷ q) j
      go (there on e) ih =
          let c : ℕ = node_of m (p ++ (a ∷ [])) in
          further c (path_of-node_of m (p ++ (a ∷ [])) on) (follow-next i a q j k (Some c) (child-rule i h k n a ∙ e)) (ih c (node_of-node m (p ++ (a ∷ [])) on))
      go (absent off e) ih =
          let here : k ≡ node_of m (p ++ []) = sym (ap (node_of m) (append-nil p) ∙ node_of-path_of m h.catalogue.rising k n) in
          let far : j ≡ j + 0 = omega arith in
          stopped 0 (omega arith) (rw (append-nil p) (path_of-in m k n)) off
          (follow-next i a q j k None (child-rule i h k n a ∙ e) ∙ ap (λ (x : ℕ). follow_stops x k) far ∙ ap (follow_stops (j + 0)) here)

  module _ (tested : image_test i ≡ true) (k : ℕ) (belongs : is_node (image_map i) k ≡ true) where
    -- so many labels led on
    follow-stands : (q : Key) (d : ℕ) → d ≤ length q → In (path_of (image_map i) k ++ take d q) (nodes (image_map i)) → (d < length q → ¬ In (path_of (image_map i) k ++ take (suc d) q) (nodes (image_map i)))
        → place_number (node_of (image_map i) (path_of (image_map i) k ++ take d q)) ≡ node_of (image_map i) (path_of (image_map i) k ++ take (walkable (image_map i) (path_of (image_map i) k) q) q)
    follow-stands q d l leads past =
        let m : Map = image_map i in
        let p : Key = path_of m k in
        number-node (node_of m (p ++ take d q)) (node_of-node m (p ++ take d q) leads) ∙ sym (ap (λ (n : ℕ). node_of m (p ++ take n q)) (walkable-is m q p d leads l past))

    pub follow-kept : (q : Key) → FollowPromise i q (place_at k) (follow_by i k q).answer (place_at (follow_by i k q).node)
    follow-kept q = go q (follow-told q k 0 ((is_node-iff (image_map i) k).0 belongs))
      where
        m : Map
        m = image_map i

        p : Key
        p = path_of m k

        kept : (q : Key) (r : Moved (Result Answer ℕ)) → follow_by i k q ≡ r → said_followed r.answer ≡ follow_in m p q → r.node ≡ node_of m (p ++ take (walkable m p q) q)
            → FollowPromise i q (place_at k) (follow_by i k q).answer (place_at (follow_by i k q).node)
        kept q r e answers stands =
            follow-promise i k q _ _
            (promise-kept i k _ _ tested belongs _ _ (ap (λ (x : Moved (Result Answer ℕ)). said_followed x.answer) e ∙ answers) (ap (λ (x : Moved (Result Answer ℕ)). x.node) e ∙ stands))

        -- all of it led on
        whole : (q : Key) → In (p ++ q) (nodes m) → place_number (node_of m (p ++ q)) ≡ node_of m (p ++ take (walkable m p q) q)
        whole q leads =
            let all : take (length q) q ≡ q = take_all (length q) q (omega arith) in
            rw all at (follow-stands q (length q) (omega arith) (rw all leads) (λ l. absurd (omega arith)))

        go : (q : Key) → FollowTold k q 0 → FollowPromise i q (place_at k) (follow_by i k q).answer (place_at (follow_by i k q).node)
        go q (stopped d l leads past e) =
            let far : 0 + d ≡ d = omega arith in
            kept q _ (e ∙ ap (λ (x : ℕ). follow_stops x (node_of m (p ++ take d q))) far) (sym (follow-failed m p q d l leads past)) (follow-stands q d (omega arith) leads (λ b. past))
        go [] (ended leads e) = kept [] _ (e ∙ ends-empty i 0 (node_of m (p ++ [])) refl) (sym (follow-empty m p [] refl)) (whole [] leads)
        go (a ∷ q) (ended leads e) =
            let end : Key = p ++ (a ∷ q) in
            let c : ℕ = node_of m end in
            let inside = node_of-node m end leads in
            let path = path_of-node_of m end leads in
            let low : 2 ≤ c = longer-node m c inside (omega (arith, ap length path, length-append p (a ∷ q))) in
            kept (a ∷ q) _ (e ∙ ends_some i (0 + length (a ∷ q)) c (omega arith))
            (ap says_ok (answer-node c inside low ∙ ap (path_says m) path) ∙ sym (follow-whole m p (a ∷ q) (omega arith) leads))
            (whole (a ∷ q) leads)

  -- ---- to where the keys part

  -- the only child of a node
  kid_is_only : (k : ℕ) (n : IsNode (image_map i) k) (d : ChildrenOf (image_map i) h.catalogue k) → degree (image_map i) (path_of (image_map i) k) ≡ 1
      → only_kid (bit i.words) (bits_for (entries i)) (stand_in i k) ≡ stand_in i (d.first + 0)
  unfolding only_kid
  kid_is_only k n d one =
      let b = bit i.words in
      let len = bits_for (entries i) in
      let run = kids-path i h k n d in
      let first : (kids_from b len (stand_in i k)).first ≡ d.first + 0 = omega (arith, run.first-is) in
      ap (kid_from b len k (kids_from b len (stand_in i k)).next) first ∙ run.kids-at 0 (omega (arith, one))

  gone-says : (w : Option ℕ) (d : ℕ) → said_gone (Ok (gone_to w d)) ≡ cond (given w) (says_ok d) (says_err d)
  gone-says None d = refl
  gone-says (Some v) d = refl

  module _ (tested : image_test i ≡ true) (k : ℕ) (belongs : is_node (image_map i) k ≡ true) where
    pub goto-kept : GotoPromise i (place_at k) (goto_by i k).answer (place_at (goto_by i k).node)
    unfolding degree
    goto-kept = go (fork m h.catalogue.rising p)
      where
        m : Map
        m = image_map i

        p : Key
        p = path_of m k

        n : IsNode m k
        n = (is_node-iff m k).0 belongs

        d : ChildrenOf m h.catalogue k
        d = children-node m h.catalogue k n

        count : count_from i (stand_in i k) ≡ degree m p
        count = count-node k n

        on : 0 < degree m p → is_prefix_in p m ≡ true
        on l = sym (kids-some i h k n) ∙ lt-ltb 0 (count_from i (stand_in i k)) (omega (arith, count))

        kept : (r : Moved (Result ℕ ℕ)) → goto_by i k ≡ r → said_gone r.answer ≡ goto_in m p → r.node ≡ cond (is_prefix_in p m) (node_of m (common_below m p)) k
            → GotoPromise i (place_at k) (goto_by i k).answer (place_at (goto_by i k).node)
        kept r e answers stands =
            goto-promise i k _ _
            (promise-kept i k _ _ tested belongs _ _ (ap (λ (x : Moved (Result ℕ ℕ)). said_gone x.answer) e ∙ answers) (ap (λ (x : Moved (Result ℕ ℕ)). x.node) e ∙ stands))

        go : Fork m p → GotoPromise i (place_at k) (goto_by i k).answer (place_at (goto_by i k).node)
        go (ends none_below e) =
            let bare : is_prefix_in p m ≡ false = sym (kids-some i h k n) ∙ le-ltb 0 (count_from i (stand_in i k)) (omega (arith, count, e)) in
            kept _ (goto-leaf i k (count ∙ e)) (sym (goto-none m p bare)) (rw bare)
        go (parts two e) =
            let goes : is_prefix_in p m ≡ true = on (omega (arith, e)) in
            let here_on : common_below m p ≡ p = (common-parted m p two).1 in
            kept _ (goto-several i k (omega (arith, count, e)))
            (ap says_err (omega arith) ∙ sym (goto-some m p p None goes here_on (lookup-longer-same m h.catalogue.rising p)))
            (rw (goes, here_on) (sym (node_of-path_of m h.catalogue.rising k n)))
        go (single a only e) =
            let c : ℕ = d.first + 0 in
            let g : Glided = glided_from i.labels i.values (bit i.words) (bits_for (entries i)) (stand_in i c) in
            let kidded = kid i h k n d 0 (omega (arith, e)) in
            let child : path_of m c ≡ p ++ (a ∷ []) = d.paths 0 (omega (arith, e)) ∙ ap (λ (ks : List Key). get_or ks 0 []) only in
            let glided = glided-at i h c kidded.inside in
            let q : Key = path_of m g.stand.node in
            let all : longer p m ≡ beginning (path_of m c) m = longer-single m h.catalogue.rising p a only ∙ ap (λ (x : Key). beginning x m) (sym child) in
            let path : q ≡ common_below m p = glided.path ∙ ap common_of_all (sym all) in
            let far : length p + (g.steps + 1) ≡ length q = omega (arith, glided.far, ap length glided.path, ap length child, length-append p (a ∷ [])) in
            let begins : PrefixOf p q = rw glided.path (prefix_trans p (path_of m c) (common_of m (path_of m c)) (rw child (prefix-append p (a ∷ []))) (common-node m (path_of m c) (path_of-in m c kidded.inside)).1) in
            let behind : lookup q (longer p m) ≡ lookup q m = lookup-longer-behind m h.catalogue.rising p q begins (omega (arith, far)) in
            let goes : is_prefix_in p m ≡ true = on (omega (arith, e)) in
            let distance : length q - length p ≡ g.steps + 1 = omega (arith, far) in
            kept _
            (goto-through i k (count ∙ e) ∙ ap (λ (s : Stand). goto_ends i (glided_from i.labels i.values (bit i.words) (bits_for (entries i)) s)) (kid_is_only k n d e))
            (ap (λ (w : Option ℕ). said_gone (Ok (gone_to w (g.steps + 1)))) (node-value i h g.stand.node glided.inside)
            ∙ gone-says (lookup q m) (g.steps + 1)
            ∙ sym (goto-some m p q (lookup q m) goes (sym path) behind ∙ ap (λ (x : ℕ). cond (given (lookup q m)) (says_ok x) (says_err x)) distance))
            (number-node g.stand.node glided.inside
            ∙ rw goes (sym (ap (node_of m) (sym path) ∙ node_of-path_of m h.catalogue.rising g.stand.node glided.inside)))
