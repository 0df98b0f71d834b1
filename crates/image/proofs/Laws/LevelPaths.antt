-- The level order of a sound pool's records, in paths: "entry j of it ends holding the record number of node j+2" (01). Records and prefixes are both made by one rule, the
-- children of the root and of each in turn, and a rule that is always ahead of what it has used makes one list only.
--
--     level-paths      the paths of the records in level order are the prefixes of the pool's map, in breadth-first
--                      order
--     scratch-node     so what an accepted build leaves at entry j of the scratch slice is the record in use that has
--                      the path of node j + 2
-- Assumes nothing.
use Prim.Native.Nat.{ℕ, zero, suc, ◌+◌, ◌≤◌, ◌<◌}
use mathlib.Core.Path.{◌≡◌, refl, sym, ap, ap₂, ◌∙◌, subst}
use mathlib.Core.Logic.{◌↔◌, inl, inr, ⊎_elim}
use mathlib.Core.Bool.{Bool, true, cond}
use mathlib.Core.List.Memᴰ
use mathlib.Core.List.{List, [], ◌∷◌, ◌++◌, map, flat_map, map-append}
use native.Mathlib.Nat.{le_refl}
use native.Mathlib.Omega.{arith}
use lib.ListN.{length, get_or, take, drop, length-append, length-map, take-append-drop}
use lib.Seq.{take_all, take-append-le}
use Rattle.keymap.specs.Key.{Key, Below}
use Rattle.keymap.specs.Members as members
use Rattle.keymap.specs.Map.{Map}
use Rattle.keymap.specs.Prefixes.{prefixes}
use Rattle.keymap.specs.Image.{children_in}
use Rattle.keymap.specs.Paths as paths
use Rattle.keymap.proofs.Laws.Key.{below-asym}
use Rattle.keymap.proofs.Laws.Members.{in_map, ordered-one}
use Rattle.keymap.proofs.Laws.Prefixes.{prefixes-iff}
use Rattle.keymap.proofs.Laws.Children.{flat_map-append, forest-children}
use Rattle.keymap.proofs.Laws.Paths.{children_in-iff, children_in-ordered, below-label}
use Rattle.records.specs.Words.{Pool, label, parent, used_count, InUse, Node}
use Rattle.records.specs.Sound.{Among, LabelsRise, ChildChain, Sound}
use Rattle.records.specs.Spelling.{Spells, record_path}
use Rattle.records.specs.Meaning.{pool_forest, pool_map}
use Rattle.records.proofs.Laws.Spelling.{spells-child, spells-cut, spells-one-record, path-spells, path-only}
use Rattle.records.proofs.Laws.Sound.{rises-above}
use Rattle.records.proofs.Laws.Meaning.{map-forest, forest-orderly, map-rising, map-prefixes, count-prefixes}
use Rattle.pool.specs.Answers.{accepted}
use Rattle.keymap.specs.Buffers.{over}
use Rattle.image.specs.Build.{build_says, build_scratch}
use Rattle.image.specs.LevelOrder.{child_records, level_records}
use Rattle.keymap.proofs.Laws.Buffers.{get_d_over}
use Rattle.image.proofs.Laws.LevelOrder.{child-records, get_or-in, level-law, level-count, level-used, queued, queued-ahead}

-- ---- one list only

-- what `below` makes of the root and the first k of a list
abbrev made : {A : Type 0} (below : A → List A) (root : A) (k : ℕ) (xs : List A) → List A
made below root k xs = flat_map below (root ∷ take k xs)

module _ {A : Type 0} (below : A → List A) (root : A) where
  made-front : (xs : List A) → xs ≡ flat_map below (root ∷ xs) → (k : ℕ) → suc k ≤ length (made below root k xs) → take (suc k) xs ≡ take (suc k) (made below root k xs)
  made-front xs e k h =
      let rest : List A = flat_map below (drop k xs) in
      let split : flat_map below (root ∷ xs) ≡ made below root k xs ++ rest =
      ap (λ (l : List A). flat_map below (root ∷ l)) (sym (take-append-drop k xs)) ∙ flat_map-append below (root ∷ take k xs) (drop k xs) in
      ap (take (suc k)) (e ∙ split) ∙ take-append-le (suc k) (made below root k xs) rest h

  made_one : (xs ys : List A) → xs ≡ flat_map below (root ∷ xs) → ys ≡ flat_map below (root ∷ ys) → (n : ℕ) → ((k : ℕ) → k < n → k < length (made below root k xs))
      → (k : ℕ) → k ≤ n → take k xs ≡ take k ys
  made_one xs ys e f n ahead zero h = refl
  made_one xs ys e f n ahead (suc k) h =
      let same : made below root k xs ≡ made below root k ys = ap (λ (l : List A). flat_map below (root ∷ l)) (made_one xs ys e f n ahead k (omega arith)) in
      let long : suc k ≤ length (made below root k xs) = ahead k (omega arith) in
      made-front xs e k long ∙ ap (take (suc k)) same ∙ sym (made-front ys f k (subst (λ (l : List A). suc k ≤ length l) same long))

-- ---- the children of a record, in paths

in_members : (c : ℕ) (xs : List ℕ) → Among c xs → members.In c xs
in_members c [] h = absurd h
in_members c (x ∷ xs) (inl e) = members.here e
in_members c (x ∷ xs) (inr h) = members.there (in_members c xs h)

members-in : (c : ℕ) (xs : List ℕ) → members.In c xs → Among c xs
members-in c [] h = absurd (Memᴰ.not-nil h)
members-in c (x ∷ xs) h = ⊎_elim (λ e. inl e) (λ i. inr (members-in c xs i)) (Memᴰ.cases_cons h)

module _ (p : Pool) (s : Sound p) where
  abbrev kept : Map
  kept = pool_map p

  child-path : (c x : ℕ) → Node p c → InUse p x → parent p x ≡ c → record_path p x ≡ record_path p c ++ (label p x ∷ [])
  child-path c x n u e =
      sym (path-only p s x (record_path p c ++ (label p x ∷ [])) (inr u) (spells-child p 0 (record_path p c) c (label p x) x (path-spells p s c n) (u, e, refl)))

  -- siblings in their chain stand as their paths do
  paths-rise : (c : ℕ) → Node p c → (xs : List ℕ) (l : ℕ) → LabelsRise p l xs → ((x : ℕ) → Among x xs → InUse p x × (parent p x ≡ c)) → members.Ordered Below (map (record_path p) xs)
  paths-rise c n [] l r o = tt
  paths-rise c n (x ∷ xs) l r o = (behind, paths-rise c n xs (label p x + 1) r.1 (λ y i. o y (inr i)))
    where
      behind : (q : Key) → members.In q (map (record_path p) xs) → Below (record_path p x) q
      behind q h =
          let (y, i, e) = (in_map (record_path p) q xs).0 h in
          let j = members-in y xs i in
          let higher : label p x + 1 ≤ label p y = rises-above p (label p x + 1) xs r.1 y j in
          let lower = child-path c x n (o x (inl refl)).0 (o x (inl refl)).1 in
          let upper = child-path c y n (o y (inr j)).0 (o y (inr j)).1 in
          subst (λ (t : Key). Below (record_path p x) t) (sym (e ∙ upper))
          (subst (λ (t : Key). Below t (record_path p c ++ (label p y ∷ []))) (sym lower) ((below-label (record_path p c) (label p x) (label p y)).1 (omega arith)))

  child-paths : (c : ℕ) → Node p c → map (record_path p) (child_records p c) ≡ children_in kept (record_path p c)
  child-paths c n =
      ap (map (record_path p)) (child-records p s c k)
      ∙ ordered-one Below below-asym (map (record_path p) k.kids) (children_in kept (record_path p c)) (paths-rise c n k.kids 0 k.rising k.only) (children_in-ordered kept (map-rising p s) (record_path p c)) same
    where
      k : ChildChain p c
      k = s.children c n

      forth : (q : Key) → members.In q (map (record_path p) k.kids) → members.In q (children_in kept (record_path p c))
      forth q h =
          let (x, i, e) = (in_map (record_path p) q k.kids).0 h in
          let (u, up) = k.only x (members-in x k.kids i) in
          let there = (prefixes-iff kept q).0 ((map-prefixes p s q).1 (x, u, e)) in
          (children_in-iff kept (record_path p c) q).1 (label p x, e ∙ child-path c x n u up, there.1)

      back : (q : Key) → members.In q (children_in kept (record_path p c)) → members.In q (map (record_path p) k.kids)
      back q h =
          let (a, e, b) = (children_in-iff kept (record_path p c) q).0 h in
          let long : q ≡ [] → ⊥ = λ z. omega (arith, ap length (sym e ∙ z), length-append (record_path p c) (a ∷ [])) in
          let (x, u, f) = (map-prefixes p s q).0 ((prefixes-iff kept q).1 (long, b)) in
          let (j, above, below) = spells-cut p 0 (record_path p c) (a ∷ []) x (subst (λ (t : Key). Spells p 0 t x) (sym f ∙ e) (path-spells p s x (inr u))) in
          let same = spells-one-record p s.children 0 (record_path p c) j c (inl refl) above (path-spells p s c n) in
          let up : parent p x ≡ c = ap (parent p) (sym below.2) ∙ below.1.1 ∙ same in
          (in_map (record_path p) q k.kids).1 (x, in_members x k.kids (k.all x u up), f)

      same : (q : Key) → members.In q (map (record_path p) k.kids) ↔ members.In q (children_in kept (record_path p c))
      same q = (forth q, back q)

  -- ---- the level order, in paths

  below-paths : (cs : List ℕ) → ((c : ℕ) → Among c cs → Node p c) → map (record_path p) (flat_map (child_records p) cs) ≡ flat_map (children_in kept) (map (record_path p) cs)
  unfolding flat_map
  below-paths [] n = refl
  below-paths (c ∷ cs) n =
      map-append (record_path p) (child_records p c) (flat_map (child_records p) cs)
      ∙ ap₂ (λ (a b : List Key). a ++ b) (child-paths c (n c (inl refl))) (below-paths cs (λ d i. n d (inr i)))

  root-path : record_path p 0 ≡ []
  root-path = sym (path-only p s 0 [] (inl refl) refl)

  abbrev walked : List Key
  walked = map (record_path p) (level_records p)

  used-nodes : (c : ℕ) → Among c (0 ∷ level_records p) → Node p c
  used-nodes c (inl e) = inl e
  used-nodes c (inr h) = inr (level-used p s c h)

  walked-law : walked ≡ flat_map (children_in kept) ([] ∷ walked)
  walked-law =
      ap (map (record_path p)) (level-law p s)
      ∙ below-paths (0 ∷ level_records p) used-nodes
      ∙ ap (λ (k : Key). flat_map (children_in kept) (k ∷ walked)) root-path

  prefixes-law : prefixes kept ≡ flat_map (children_in kept) ([] ∷ prefixes kept)
  prefixes-law = rw (map-forest p) (forest-children (pool_forest p) (forest-orderly p s))

  map-take : (k : ℕ) (cs : List ℕ) → take k (map (record_path p) cs) ≡ map (record_path p) (take k cs)
  map-take zero cs = refl
  map-take (suc k) [] = refl
  map-take (suc k) (c ∷ cs) = ap (λ (l : List Key). record_path p c ∷ l) (map-take k cs)

  take-nodes : (k : ℕ) (cs : List ℕ) → ((c : ℕ) → Among c cs → Node p c) → (c : ℕ) → Among c (take k cs) → Node p c
  take-nodes zero cs n c h = absurd h
  take-nodes (suc k) [] n c h = absurd h
  take-nodes (suc k) (d ∷ cs) n c (inl e) = n c (inl e)
  take-nodes (suc k) (d ∷ cs) n c (inr h) = take-nodes k cs (λ x i. n x (inr i)) c h

  walked-ahead : (k : ℕ) → k < used_count p → k < length (made (children_in kept) [] k walked)
  unfolding queued
  walked-ahead k h =
      let paths : map (record_path p) (queued p (suc k)) ≡ made (children_in kept) [] k walked =
      below-paths (0 ∷ take k (level_records p)) (take-nodes (suc k) (0 ∷ level_records p) used-nodes)
      ∙ ap₂ (λ (t : Key) (l : List Key). flat_map (children_in kept) (t ∷ l)) root-path (sym (map-take k (level_records p))) in
      omega (arith, queued-ahead p s (suc k) h, ap length paths, length-map (queued p (suc k)) (record_path p))

  pub level-paths : map (record_path p) (level_records p) ≡ prefixes (pool_map p)
  level-paths =
      let n : ℕ = used_count p in
      let left : length walked ≤ n = omega (arith, length-map (level_records p) (record_path p), level-count p s) in
      let right : length (prefixes kept) ≤ n = omega (arith, count-prefixes p s) in
      sym (take_all n walked left) ∙ made_one (children_in kept) [] walked (prefixes kept) walked-law prefixes-law n walked-ahead n (le_refl n) ∙ take_all n (prefixes kept) right

  -- "entry j of it ends holding the record number of node j+2"
  pub scratch-node : (ls vs ws qs : List ℕ) → accepted (build_says p ls vs ws qs) ≡ true → (j : ℕ) → j < used_count p
      → InUse p (get_or (build_scratch p ls vs ws qs) j 0) × (record_path p (get_or (build_scratch p ls vs ws qs) j 0) ≡ paths.path_of (pool_map p) (suc (suc j)))
  unfolding build_scratch paths.path_of paths.nodes
  scratch-node ls vs ws qs e j h =
      let inside : j < length (level_records p) = omega (arith, level-count p s) in
      let at : get_or (cond (accepted (build_says p ls vs ws qs)) (over (level_records p) qs) qs) j 0 ≡ get_or (level_records p) j 0 =
      ap (λ (b : Bool). get_or (cond b (over (level_records p) qs) qs) j 0) e ∙ get_d_over (level_records p) qs j inside in (
        subst (InUse p) (sym at) (level-used p s (get_or (level_records p) j 0) (get_or-in (level_records p) j inside)),
        ap (record_path p) at ∙ sym (get_or-mapped (level_records p) j inside) ∙ ap (λ (l : List Key). get_or l j []) level-paths,
      )
    where
      get_or-mapped : (cs : List ℕ) (i : ℕ) → i < length cs → get_or (map (record_path p) cs) i [] ≡ record_path p (get_or cs i 0)
      get_or-mapped [] i l = absurd (omega arith)
      get_or-mapped (c ∷ cs) zero l = refl
      get_or-mapped (c ∷ cs) (suc i) l = get_or-mapped cs i (omega arith)
