-- What the calls on a place say, by cases, and what that is on the map. Keys and paths go on by labels, so how far a query leads is told by the last of its leading parts
-- that is a path.
--
--     path_says-is          what a path is, by whether longer keys begin with it and whether it is a key;
--                           `leaf-valued`: a path but the root's is one or the other
--     walkable-is           how many labels lead on: so many that these are a path, and one more is not
--     follow-empty, follow-whole, follow-failed  what `query_until` says of them
--     goto-none, goto-some  what goto says, by whether longer keys begin with the path, and whether their common prefix
--                           is one of them
--     answer-tells          what the two tests of an answer mean
--     query-moves, query-stays; follow-moves; goto-moves, goto-stays  the path of the place afterwards
--     goto-key-single       from a path with a single child goto moves on, be the path a key or not
--     checked-ok, checked-err  the two tests by what they answer; `no-image`, `no-node`: where the first fails, and where
--                           the second; `passed-on`: where a
--                           call passes their refusal on
--     promise-stays, promise-refused, promise-strange, promise-kept  a promise by the tests that come first: of any
--                           refusal that they give, and of each of the two by itself
-- Assumes nothing.
use mathlib.Core.Path.{◌≡◌, refl, sym, ap, ◌∙◌}
use mathlib.Core.Logic.{inr, ⊎_elim}
use Prim.Native.Nat.{ℕ, zero, suc, ◌+◌, ◌-◌, ◌≤◌, ◌<◌}
use native.Mathlib.Omega.{arith}
use mathlib.Core.Bool.{Bool, true, false, cond, true≢false}
use mathlib.Core.List.{List, [], ◌∷◌, ◌++◌, append_assoc, append-nil}
use Rattle.std.specs.Prelude.{Option, None, Some, Result, Ok, Err}
use Rattle.std.specs.Result.{IsErrAnd}
use Rattle.std.proofs.lemmas.Result.{err_from_is_err_and}
use lib.ListN.{length, take}
use Rattle.keymap.specs.Members.{In, here}
use Rattle.keymap.specs.Key.{Key, PrefixOf}
use Rattle.keymap.specs.Refusals.{refuses}
use Rattle.keymap.specs.declared.refusals.Refusal.{Refusal}
use Rattle.keymap.specs.declared.refusals.Refusal.TheVariants.{NotAnImage, BadPlace}
use Rattle.keymap.specs.Map.{Map, Rising, lookup}
use Rattle.keymap.specs.Queries.{nonempty, SomeBegins, beginning, longer, is_prefix_in, LongestCommon, common_of_all}
use Rattle.keymap.specs.Image.{Image, children_in}
use Rattle.keymap.specs.Paths.{nodes, IsNode, is_node, path_of, node_of, is_path}
use Rattle.keymap.specs.Decode.{image_map}
use Rattle.keymap.proofs.Laws.Begins.{prefix-iff, prefix-leading, extends-iff, extends-own}
use Rattle.keymap.proofs.Laws.Queries.{beginning-iff, longer-iff, lookup-longer, is_prefix_in-iff, common_of_all-longest, longest_common-begins}
use Rattle.keymap.proofs.Laws.Paths.{is_node-iff, path_of-root, path_of-in, path_of-node_of, nodes-iff, nodes-prefix, is_path-iff, node_of-root, node_of-path_of, children_in-iff, children_in-some}
use Rattle.keymap.proofs.Laws.Common.{longer-single, ends-valued}
use Rattle.keymap.specs.Answers.{given}
use Rattle.image.specs.Accept.{LentSlices}
use Rattle.image.specs.AcceptTest.{image_test}
use Rattle.image.specs.Meaning.{MapImage}
use Rattle.image.proofs.Laws.Meaning.{tested-map_image}
use Rattle.places.specs.declared.answers.Answer.{Answer}
use Rattle.places.specs.declared.answers.Answer.TheVariants.{Prefix, Match, PrefixAndMatch}
use Rattle.places.specs.Incremental.{said_answer, tells_prefix, tells_match, says_ok, says_err, place_at, checked_place, on_place, from_place, path_says, query_in, query_says, query_moves, walkable, follow_in, follow_says, follow_moves, common_below, goto_in, goto_says, goto_moves, Promise}

-- ---- what a path is

pub path_says-is : (m : Map) (p : Key) (b : Bool) (w : Option ℕ) → is_prefix_in p m ≡ b → lookup p m ≡ w → path_says m p ≡ cond b 1 0 + cond (given w) 2 0
unfolding path_says
path_says-is m p b w e f = rw (e, f)

-- the two tests of an answer
pub answer-tells : (m : Map) (p : Key) (a : Answer) → said_answer a ≡ path_says m p → (tells_prefix a ≡ is_prefix_in p m) × (tells_match a ≡ given (lookup p m))
answer-tells m p a e = go (is_prefix_in p m) refl (lookup p m) refl a e
  where
    go : (b : Bool)
        → is_prefix_in p m ≡ b
        → (w : Option ℕ)
        → lookup p m ≡ w
        → (x : Answer)
        → said_answer x ≡ path_says m p
        → (tells_prefix x ≡ is_prefix_in p m) × (tells_match x ≡ given (lookup p m))
    go b f w g x said = rw (f, g) (told b w x (said ∙ path_says-is m p b w f g))
      where
        told : (b : Bool) (w : Option ℕ) (x : Answer) → said_answer x ≡ cond b 1 0 + cond (given w) 2 0 → (tells_prefix x ≡ b) × (tells_match x ≡ given w)
        told true None Prefix e = (refl, refl)
        told true None Match e = absurd (omega arith)
        told true None PrefixAndMatch e = absurd (omega arith)
        told true (Some v) Prefix e = absurd (omega arith)
        told true (Some v) Match e = absurd (omega arith)
        told true (Some v) PrefixAndMatch e = (refl, refl)
        told false None Prefix e = absurd (omega arith)
        told false None Match e = absurd (omega arith)
        told false None PrefixAndMatch e = absurd (omega arith)
        told false (Some v) Prefix e = absurd (omega arith)
        told false (Some v) Match e = (refl, refl)
        told false (Some v) PrefixAndMatch e = absurd (omega arith)

-- a node but the root has a path that some key begins with
some_begins-node : (m : Map) → Rising m → (k : ℕ) → IsNode m k → 2 ≤ k → SomeBegins (path_of m k) m
some_begins-node m r k n l = ⊎_elim at-root (λ (b : SomeBegins (path_of m k) m). b) ((nodes-iff m (path_of m k)).0 (path_of-in m k n))
  where
    at-root : path_of m k ≡ [] → SomeBegins (path_of m k) m
    at-root e = absurd (omega (arith, sym (node_of-path_of m r k n) ∙ ap (node_of m) e ∙ node_of-root m))

-- and no longer key begins with it only where it is a key
pub leaf-valued : (m : Map) → Rising m → (k : ℕ) → IsNode m k → 2 ≤ k → is_prefix_in (path_of m k) m ≡ false → (v : ℕ) × (lookup (path_of m k) m ≡ Some v)
leaf-valued m r k n l e = ends-valued m r (path_of m k) (some_begins-node m r k n l) (bare (children_in m (path_of m k)) (children_in-some m (path_of m k) ∙ e))
  where
    bare : (ps : List Key) → nonempty ps ≡ false → ps ≡ []
    bare [] f = refl
    bare (p ∷ ps) f = absurd (true≢false f)

-- a path of one label or more is no root's
pub longer-node : (m : Map) (k : ℕ) → IsNode m k → 0 < length (path_of m k) → 2 ≤ k
longer-node m zero n l = absurd (omega (arith, n))
longer-node m (suc zero) n l = absurd (omega (arith, ap length (path_of-root m)))
longer-node m (suc (suc k)) n l = omega arith

-- ---- how far a query leads

module _ (m : Map) where
  pub path-not : (p : Key) → ¬ In p (nodes m) → is_path m p ≡ false
  path-not p n = go (is_path m p) refl
    where
      go : (t : Bool) → is_path m p ≡ t → is_path m p ≡ false
      go true e = absurd (n ((is_path-iff m p).0 e))
      go false e = e

  pub walkable-is : (q p : Key) (j : ℕ) → In (p ++ take j q) (nodes m) → j ≤ length q → (j < length q → ¬ In (p ++ take (suc j) q) (nodes m)) → walkable m p q ≡ j
  unfolding walkable
  walkable-is [] p j on l past = omega arith
  walkable-is (a ∷ q) p zero on l past = rw (path-not (p ++ (a ∷ [])) (past (omega arith)))
  walkable-is (a ∷ q) p (suc j) on l past =
      let join : (r : Key) → (p ++ (a ∷ [])) ++ r ≡ p ++ (a ∷ r) = λ r. append_assoc p (a ∷ []) r in
      let begins : PrefixOf (p ++ (a ∷ [])) (p ++ (a ∷ take j q)) = (prefix-iff (p ++ (a ∷ [])) (p ++ (a ∷ take j q))).1 (take j q, sym (join (take j q))) in
      let there : is_path m (p ++ (a ∷ [])) ≡ true = (is_path-iff m (p ++ (a ∷ []))).1 (nodes-prefix m (p ++ (a ∷ [])) (p ++ (a ∷ take j q)) begins on) in
      let rest : walkable m (p ++ (a ∷ [])) q ≡ j =
      walkable-is q (p ++ (a ∷ [])) j (rw (join (take j q)) on) (omega arith) (λ b n. past (omega arith) (rw (join (take (suc j) q)) at n)) in
      rw there (ap suc rest)

  -- so many labels lead on, and one more does not
  pub record Walked (p q : Key) (j : ℕ) : Type 0 where
    pub short : j ≤ length q
    pub leads : In (p ++ take j q) (nodes m)
    pub ends : j < length q → ¬ In (p ++ take (suc j) q) (nodes m)

  pub walkable-told : (q p : Key) → In p (nodes m) → Walked p q (walkable m p q)
  unfolding walkable
  walkable-told [] p on = record { short = omega arith; leads = rw (append-nil p) on; ends = λ l. absurd (omega arith) }
  walkable-told (a ∷ q) p on = go (is_path m (p ++ (a ∷ []))) refl (walkable-told q (p ++ (a ∷ [])))
    where
      join : (r : Key) → (p ++ (a ∷ [])) ++ r ≡ p ++ (a ∷ r)
      join r = append_assoc p (a ∷ []) r

      go : (t : Bool)
          → is_path m (p ++ (a ∷ [])) ≡ t
          → (In (p ++ (a ∷ [])) (nodes m) → Walked (p ++ (a ∷ [])) q (walkable m (p ++ (a ∷ [])) q))
          → Walked p (a ∷ q) (walkable m p (a ∷ q))
      go true e rest =
          let w = rest ((is_path-iff m (p ++ (a ∷ []))).0 e) in
          rw e (record { short = omega (arith, w.short); leads = rw (join _) at w.leads; ends = λ l n. w.ends (omega arith) (rw (join _) n) })
      go false e rest =
          rw e (record { short = omega arith; leads = rw (append-nil p) on; ends = λ l n. true≢false (sym ((is_path-iff m (p ++ (a ∷ []))).1 n) ∙ e) })

  pub follow-empty : (p q : Key) → length q ≡ 0 → follow_in m p q ≡ says_err 0
  follow-empty p [] e = refl
  follow-empty p (a ∷ q) e = absurd (omega arith)

  pub follow-whole : (p q : Key) → 0 < length q → In (p ++ q) (nodes m) → follow_in m p q ≡ says_ok (path_says m (p ++ q))
  follow-whole p [] l n = absurd (omega arith)
  follow-whole p (a ∷ q) l n = rw ((is_path-iff m (p ++ (a ∷ q))).1 n)

  pub follow-failed : (p q : Key) (j : ℕ) → j < length q → In (p ++ take j q) (nodes m) → ¬ In (p ++ take (suc j) q) (nodes m) → follow_in m p q ≡ says_err j
  follow-failed p [] j l on past = absurd (omega arith)
  follow-failed p (a ∷ q) j l on past = rw (path-not (p ++ (a ∷ q)) (λ n. past (nodes-prefix m (p ++ take (suc j) (a ∷ q)) (p ++ (a ∷ q)) within n))) (ap says_err (walkable-is (a ∷ q) p j on (omega arith) (λ b. past)))
    where
      within : PrefixOf (p ++ take (suc j) (a ∷ q)) (p ++ (a ∷ q))
      within =
          let (r, e) = (prefix-iff (take (suc j) (a ∷ q)) (a ∷ q)).0 (prefix-leading (suc j) (a ∷ q)) in
          (prefix-iff (p ++ take (suc j) (a ∷ q)) (p ++ (a ∷ q))).1 (r, ap (λ (x : Key). p ++ x) e ∙ sym (append_assoc p (take (suc j) (a ∷ q)) r))

-- ---- goto

module _ (m : Map) (p : Key) where
  pub goto-none : is_prefix_in p m ≡ false → goto_in m p ≡ says_ok 0
  goto-none e = rw e

  pub goto-some : (q : Key) (w : Option ℕ) → is_prefix_in p m ≡ true → common_below m p ≡ q → lookup q (longer p m) ≡ w
      → goto_in m p ≡ cond (given w) (says_ok (length q - length p)) (says_err (length q - length p))
  goto-some q w e f g = rw (e, f, g)

-- the longer keys have no value at the path itself
pub lookup-longer-same : (m : Map) → Rising m → (p : Key) → lookup p (longer p m) ≡ None
lookup-longer-same m r p = lookup-longer p m r p ∙ rw (extends-own p)

-- and the values of the map behind it
pub lookup-longer-behind : (m : Map) → Rising m → (p q : Key) → PrefixOf p q → length p < length q → lookup q (longer p m) ≡ lookup q m
lookup-longer-behind m r p q b l = lookup-longer p m r q ∙ rw ((extends-iff p q).1 (b, l))

-- ---- the tests that come first

-- a call refuses: it says so, the place stays, and a lent buffer is left as it was
pub record Refused (i : Image) (k : ℕ) (r : Refusal) : Type 0 where
  pub says : (s : List ℕ) → on_place i k s ≡ refuses r
  pub stays : (to : ℕ) → from_place i k to ≡ k
  pub leaves : (new old : List ℕ) → cond (image_test i) (cond (is_node (image_map i) k) new old) old ≡ old

-- a call goes on: the image is a map's, and the number one of its nodes
pub record Belongs (i : Image) (k : ℕ) : Type 0 where
  pub fits : image_test i ≡ true
  pub inside : is_node (image_map i) k ≡ true
  pub whole : MapImage i

module _ (i : Image) (k : ℕ) where
  pub no-image : image_test i ≡ false → Refused i k NotAnImage
  no-image e = record { says = λ s. rw e; stays = λ to. rw e; leaves = λ new old. rw e }

  pub no-node : image_test i ≡ true → is_node (image_map i) k ≡ false → Refused i k BadPlace
  no-node e f = record { says = λ s. rw (e, f); stays = λ to. rw (e, f); leaves = λ new old. rw (e, f) }

  pub checked-ok : LentSlices i → (u : Unit {0}) → checked_place i k ≡ Ok u → Belongs i k
  checked-ok lent u = go (image_test i) refl (is_node (image_map i) k) refl
    where
      go : (t : Bool) → image_test i ≡ t → (b : Bool) → is_node (image_map i) k ≡ b → ◌≡◌ {A = Result (Unit {0}) Refusal} (cond t (cond b (Ok tt) (Err BadPlace)) (Err NotAnImage)) (Ok u) → Belongs i k
      go true e true f g = record { fits = e; inside = f; whole = tested-map_image i lent e }
      go true e false f g = let z : ◌≡◌ {A = ℕ} 0 1 = cc in absurd (omega arith)
      go false e b f g = let z : ◌≡◌ {A = ℕ} 0 1 = cc in absurd (omega arith)

  pub checked-err : (r : Refusal) → checked_place i k ≡ Err r → Refused i k r
  checked-err r = go (image_test i) refl (is_node (image_map i) k) refl
    where
      go : (t : Bool) → image_test i ≡ t → (b : Bool) → is_node (image_map i) k ≡ b → ◌≡◌ {A = Result (Unit {0}) Refusal} (cond t (cond b (Ok tt) (Err BadPlace)) (Err NotAnImage)) (Err r) → Refused i k r
      go true e true f g = let z : ◌≡◌ {A = ℕ} 0 1 = cc in absurd (omega arith)
      go true e false f g = let z : BadPlace ≡ r = cc in rw z at (no-node e f)
      go false e b f g = let z : NotAnImage ≡ r = cc in rw z at (no-image e)

  pub passed-on : {T : Type 0} (checked : Result (Unit {0}) Refusal) (r : Refusal) (result : Result T Refusal) → checked ≡ checked_place i k → checked ≡ Err r → IsErrAnd result (λ s. s ≡ r)
      → (s : Refusal) × (result ≡ Err s) × Refused i k s
  passed-on checked r result told e passed =
      let (s, is, same) = err_from_is_err_and result passed in
      (s, is, checked-err s (sym told ∙ e ∙ ap Err (sym same)))

-- ---- promises

module _ (i : Image) (k : ℕ) (says : List ℕ) (to : ℕ) where
  pub promise-stays : (r : Refusal) → Refused i k r → Promise (refuses r) (on_place i k says) (place_at k) (from_place i k to)
  promise-stays r refused = record { answers = sym (refused.says says); stands = ap place_at (sym (refused.stays to)) }

  pub promise-refused : image_test i ≡ false → Promise (refuses NotAnImage) (on_place i k says) (place_at k) (from_place i k to)
  promise-refused e = promise-stays NotAnImage (no-image i k e)

  pub promise-strange : image_test i ≡ true → is_node (image_map i) k ≡ false → Promise (refuses BadPlace) (on_place i k says) (place_at k) (from_place i k to)
  promise-strange e f = promise-stays BadPlace (no-node i k e f)

  pub promise-kept : image_test i ≡ true → is_node (image_map i) k ≡ true → (said : List ℕ) (node : ℕ) → said ≡ says → node ≡ to
      → Promise said (on_place i k says) (place_at node) (from_place i k to)
  promise-kept e f said node g h = record { answers = rw (e, f) g; stands = rw (e, f) (ap place_at h) }

pub query-promise : (i : Image) (k a : ℕ) (said : List ℕ) (node : ℕ)
    → Promise said (on_place i k (query_in (image_map i) (path_of (image_map i) k ++ (a ∷ [])))) (place_at node)
    (from_place i k (cond (is_path (image_map i) (path_of (image_map i) k ++ (a ∷ []))) (node_of (image_map i) (path_of (image_map i) k ++ (a ∷ []))) k))
    → Promise said (query_says i k a) (place_at node) (query_moves i k a)
unfolding query_says query_moves
query-promise i k a said node p = p

pub follow-promise : (i : Image) (k : ℕ) (q : Key) (said : List ℕ) (node : ℕ)
    → Promise said (on_place i k (follow_in (image_map i) (path_of (image_map i) k) q)) (place_at node)
    (from_place i k (node_of (image_map i) (path_of (image_map i) k ++ take (walkable (image_map i) (path_of (image_map i) k) q) q)))
    → Promise said (follow_says i k q) (place_at node) (follow_moves i k q)
unfolding follow_says follow_moves
follow-promise i k q said node p = p

pub goto-promise : (i : Image) (k : ℕ) (said : List ℕ) (node : ℕ)
    → Promise said (on_place i k (goto_in (image_map i) (path_of (image_map i) k))) (place_at node)
    (from_place i k (cond (is_prefix_in (path_of (image_map i) k) (image_map i)) (node_of (image_map i) (common_below (image_map i) (path_of (image_map i) k))) k))
    → Promise said (goto_says i k) (place_at node) (goto_moves i k)
unfolding goto_says goto_moves
goto-promise i k said node p = p

-- ---- where the place is left, by paths

module _ (i : Image) (tested : image_test i ≡ true) (k : ℕ) (n : IsNode (image_map i) k) where
  from_place-kept : (to : ℕ) → from_place i k to ≡ to
  from_place-kept to = rw (tested, (is_node-iff (image_map i) k).1 n)

  pub query-moves : (a : ℕ) → In (path_of (image_map i) k ++ (a ∷ [])) (nodes (image_map i)) → path_of (image_map i) (query_moves i k a) ≡ path_of (image_map i) k ++ (a ∷ [])
  unfolding query_moves
  query-moves a on =
      let m : Map = image_map i in
      let q : Key = path_of m k ++ (a ∷ []) in
      ap (path_of m) (from_place-kept _ ∙ rw ((is_path-iff m q).1 on)) ∙ path_of-node_of m q on

  pub query-stays : (a : ℕ) → ¬ In (path_of (image_map i) k ++ (a ∷ [])) (nodes (image_map i)) → query_moves i k a ≡ k
  unfolding query_moves
  query-stays a off = from_place-kept _ ∙ rw (path-not (image_map i) (path_of (image_map i) k ++ (a ∷ [])) off)

  pub follow-moves : (q : Key) → path_of (image_map i) (follow_moves i k q) ≡ path_of (image_map i) k ++ take (walkable (image_map i) (path_of (image_map i) k) q) q
  unfolding follow_moves
  follow-moves q =
      let m : Map = image_map i in
      let p : Key = path_of m k in
      ap (path_of m) (from_place-kept _) ∙ path_of-node_of m (p ++ take (walkable m p q) q) (walkable-told m q p (path_of-in m k n)).leads

  pub goto-stays : is_prefix_in (path_of (image_map i) k) (image_map i) ≡ false → goto_moves i k ≡ k
  unfolding goto_moves
  goto-stays e = from_place-kept _ ∙ rw e

  -- "the place moves to the longest common prefix q of K"
  pub goto-moves : is_prefix_in (path_of (image_map i) k) (image_map i) ≡ true
      → (path_of (image_map i) (goto_moves i k) ≡ common_below (image_map i) (path_of (image_map i) k)) × LongestCommon (longer (path_of (image_map i) k) (image_map i)) (common_below (image_map i) (path_of (image_map i) k))
  unfolding goto_moves
  goto-moves e =
      let m : Map = image_map i in
      let p : Key = path_of m k in
      let (d, own, begins, far) = (is_prefix_in-iff p m).0 e in
      let among : In d (longer p m) = (longer-iff p m d).1 (own, begins, far) in
      let whole = common_of_all-longest (longer p m) d among in
      let on : In (common_below m p) (nodes m) = (nodes-iff m (common_below m p)).1 (inr (d, own, whole.common d among)) in
      (ap (path_of m) (from_place-kept _ ∙ rw e) ∙ path_of-node_of m (common_below m p) on, whole)

-- a path with a single child is left at once: every longer key goes through the child
pub goto-key-single : (m : Map) → Rising m → (p : Key) (a : ℕ) → children_in m p ≡ (p ++ (a ∷ [])) ∷ [] → PrefixOf (p ++ (a ∷ [])) (common_below m p)
goto-key-single m r p a only =
    let (b, path, (d, own, begins)) = (children_in-iff m p (p ++ (a ∷ []))).0 (rw only (here refl)) in
    let all = longer-single m r p a only in
    let among : In d (beginning (p ++ (a ∷ [])) m) = (beginning-iff (p ++ (a ∷ [])) m d).1 (own, begins) in
    rw all (longest_common-begins (beginning (p ++ (a ∷ [])) m) (common_of_all (beginning (p ++ (a ∷ [])) m)) (p ++ (a ∷ [])) d among (common_of_all-longest _ d among) (λ e at. ((beginning-iff (p ++ (a ∷ [])) m e).0 at).1))
