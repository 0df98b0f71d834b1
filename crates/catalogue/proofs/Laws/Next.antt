-- Laws of what a listing gives next, and of the rest. The next entry is the first of the rest, and behind it stand the others.
--
--     next_entry, cursor_after  the entry that a cursor gives next, and the cursor behind it; `rest_of`: the entries
--                               still to be given
--     next-head                 the next entry is the first of the rest
--     next-member               it is one of the map
--     next-belongs, next-key    the cursor behind it belongs, and in a predictive listing its key is the entry's
--     rest-step                 a step takes it from the rest
-- Assumes nothing.
use mathlib.Core.Path.{◌≡◌, refl, sym, ap, subst, ◌∙◌}
use Prim.Native.Nat.{ℕ, zero, suc}
use native.Mathlib.Omega.{arith}
use mathlib.Core.Bool.{Bool, true, false}
use mathlib.Core.List.{[], ◌∷◌}
use Rattle.std.specs.Prelude.{Option, None, Some}
use Rattle.keymap.specs.Members.{In, here, head_of}
use Rattle.keymap.specs.Key.{Key, Below, is_below}
use Rattle.keymap.specs.Map.{Entry, Map, Before, Rising}
use Rattle.keymap.specs.Queries.{keep, least_above}
use Rattle.keymap.specs.Paths.{path_of, node_of}
use Rattle.keymap.proofs.Laws.Key.{below_irrefl, below-asym}
use Rattle.keymap.proofs.Laws.Members.{head_in}
use Rattle.keymap.proofs.Laws.Map.{before-weak, before-all}
use Rattle.keymap.proofs.Laws.Queries.{keep-iff, keep_all, above-iff}
use Rattle.keymap.proofs.Laws.Paths.{path_of-node_of, node_of-path_of}
use Rattle.listings.specs.declared.answers.Kind.{Kind}
use Rattle.listings.specs.declared.answers.Kind.TheVariants as kinds
use Rattle.listings.specs.declared.answers.Cursor.{Cursor}
use Rattle.listings.specs.declared.answers.Cursor.TheVariants.{Open, Finished}
use Rattle.listings.specs.Cursors.{set_of, belongs, next_in}
use Rattle.listings.specs.GivenKey.{given_key, key_of}
use Rattle.listings.proofs.Laws.Cursors.{entry-path, set_of-rising, set_of-in, belongs-at, belongs-top}
use Rattle.listings.proofs.Laws.GivenKey.{given_key-predictive}

-- the entry that a cursor gives next
abbrev pub next_entry : Map → Cursor → Option Entry
next_entry m (Open kind top last) = next_in m (set_of m kind (path_of m top)) last
next_entry m (Finished kind) = None

-- and the cursor behind it
abbrev pub cursor_after : Map → Cursor → Entry → Cursor
cursor_after m (Open kind top last) e = Open kind top (node_of m e.0)
cursor_after m (Finished kind) e = Finished kind

abbrev pub kind_of : Cursor → Kind
kind_of (Open kind top last) = kind
kind_of (Finished kind) = kind

-- all of the set before the first step, and what stands above the key given last afterwards
abbrev pub rest_in : Map → Map → ℕ → Map
rest_in m set zero = set
rest_in m set (suc k) = keep (λ (e : Entry). is_below (path_of m (suc k)) e.0) set

-- the entries that a listing has still to give
abbrev pub rest_of : Map → Cursor → Map
rest_of m (Open kind top last) = rest_in m (set_of m kind (path_of m top)) last
rest_of m (Finished kind) = []

-- ---- the entry that is given next

-- it is an entry of the cursor's set
next-in : (m : Map) (set : Map) (last : ℕ) (e : Entry) → next_in m set last ≡ Some e → In e set
unfolding least_above
next-in m set zero e h = head_in set h
next-in m set (suc k) e h = ((keep-iff (λ (d : Entry). is_below (path_of m (suc k)) d.0) e set).0 (head_in (keep (λ (d : Entry). is_below (path_of m (suc k)) d.0) set) h)).0

module _ (m : Map) (r : Rising m) where
  pub next-member : (c : Cursor) (e : Entry) → next_entry m c ≡ Some e → In e m
  next-member (Open kind top last) e h = (set_of-in m r kind (path_of m top) e (next-in m (set_of m kind (path_of m top)) last e h)).0
  next-member (Finished kind) e h = let z : ◌≡◌ {A = ℕ} 0 1 = cc in absurd (omega arith)

  -- the cursor behind it belongs, and the key that it gives is the entry's
  pub next-belongs : (c : Cursor) (e : Entry) → belongs m c ≡ true → next_entry m c ≡ Some e → belongs m (cursor_after m c e) ≡ true
  next-belongs (Open kind top last) e b h =
      let back : node_of m (path_of m top) ≡ top = node_of-path_of m r top (belongs-top m kind top last b) in
      ap (λ (n : ℕ). belongs m (Open kind n (node_of m e.0))) (sym back)
      ∙ belongs-at m r kind (path_of m top) e (next-in m (set_of m kind (path_of m top)) last e h)
  next-belongs (Finished kind) e b h = let z : ◌≡◌ {A = ℕ} 0 1 = cc in absurd (omega arith)

  pub next-key : (c : Cursor) (e : Entry) → kind_of c ≡ kinds.Predictive → next_entry m c ≡ Some e → key_of m (cursor_after m c e) ≡ Some e.0
  unfolding node_of
  next-key (Open kind top last) e k h =
      let i : In e m = next-member (Open kind top last) e h in
      ap (λ (x : Key). Some x) (ap (λ (d : Kind). given_key m d top (node_of m e.0)) k ∙ given_key-predictive m top e i)
  next-key (Finished kind) e k h = let z : ◌≡◌ {A = ℕ} 0 1 = cc in absurd (omega arith)

-- ---- the rest of a listing

abbrev above : Key → Map → Map
above k n = keep (λ (e : Entry). is_below k e.0) n

not-below : (x y : Key) → ¬ Below x y → is_below x y ≡ false
not-below x y n = go (is_below x y) refl
  where
    go : (t : Bool) → is_below x y ≡ t → is_below x y ≡ false
    go true e = absurd (n ((above-iff x y).0 e))
    go false e = e

above-all : (k : Key) (n : Map) → Before k n → Rising n → above k n ≡ n
above-all k n b r = keep_all (λ (e : Entry). is_below k e.0) n (λ e i. (above-iff k e.0).1 (before-all k n b r e i))

-- above the first of a rising map stand all others
above-first : (e : Entry) (n : Map) → Rising (e ∷ n) → above e.0 (e ∷ n) ≡ n
unfolding keep
above-first e n r = rw (not-below e.0 e.0 (below_irrefl e.0)) (above-all e.0 n r.0 r.1)

-- above the least of those above a key stand the others of them
above-next : (n : Map) → Rising n → (k : Key) (e : Entry) (rest : Map) → above k n ≡ e ∷ rest → above e.0 n ≡ rest
unfolding keep
above-next [] r k e rest h = let z : ◌≡◌ {A = ℕ} 0 1 = cc in absurd (omega arith)
above-next (d ∷ n) r k e rest h = go (is_below k d.0) refl (above-next n r.1 k e rest)
  where
    go : (t : Bool) → is_below k d.0 ≡ t → (above k n ≡ e ∷ rest → above e.0 n ≡ rest) → above e.0 (d ∷ n) ≡ rest
    go true f ih =
        let g : d ∷ above k n ≡ e ∷ rest = rw f at h in
        let same : d ≡ e = cc in
        let behind : above k n ≡ rest = cc in
        let all : above k n ≡ n = above-all k n (before-weak k d.0 n ((above-iff k d.0).0 f) r.0) r.1 in
        ap (λ (x : Entry). above x.0 (d ∷ n)) (sym same) ∙ above-first d n r ∙ sym all ∙ behind
    go false f ih =
        let g : above k n ≡ e ∷ rest = rw f at h in
        let member : In e n = ((keep-iff (λ (x : Entry). is_below k x.0) e n).0 (rw g (here refl))).0 in
        rw (not-below e.0 d.0 (below-asym d.0 e.0 (before-all d.0 n r.0 r.1 e member))) (ih g)

head_tail : (n : Map) (e : Entry) → head_of n ≡ Some e → (rest : Map) × (n ≡ e ∷ rest)
head_tail [] e h = let z : ◌≡◌ {A = ℕ} 0 1 = cc in absurd (omega arith)
head_tail (d ∷ n) e h = let same : d ≡ e = cc in (n, λ i. same i ∷ n)

-- the next entry is the first of the rest
pub next-head : (m : Map) (c : Cursor) → next_entry m c ≡ head_of (rest_of m c)
unfolding least_above
next-head m (Open kind top zero) = refl
next-head m (Open kind top (suc k)) = refl
next-head m (Finished kind) = refl

module _ (m : Map) (r : Rising m) where
  rest-next : (kind : Kind) (top last : ℕ) (e : Entry) (rest : Map) → rest_of m (Open kind top last) ≡ e ∷ rest → In e m
      → rest_of m (Open kind top (node_of m e.0)) ≡ rest
  unfolding node_of
  rest-next kind top last e rest h i =
      let set : Map = set_of m kind (path_of m top) in
      ap (λ (k : Key). above k set) (path_of-node_of m e.0 (entry-path m e i)) ∙ go last h
    where
      go : (k : ℕ) → rest_in m (set_of m kind (path_of m top)) k ≡ e ∷ rest → above e.0 (set_of m kind (path_of m top)) ≡ rest
      go zero g = ap (above e.0) g ∙ above-first e rest (subst Rising g (set_of-rising m r kind (path_of m top)))
      go (suc k) g = above-next (set_of m kind (path_of m top)) (set_of-rising m r kind (path_of m top)) (path_of m (suc k)) e rest g

  pub rest-step : (c : Cursor) (e : Entry) → next_entry m c ≡ Some e → rest_of m c ≡ e ∷ rest_of m (cursor_after m c e)
  rest-step (Open kind top last) e h =
      let (rest, f) = head_tail (rest_of m (Open kind top last)) e (sym (next-head m (Open kind top last)) ∙ h) in
      f ∙ ap (λ (n : Map). e ∷ n) (sym (rest-next kind top last e rest f (next-member m r (Open kind top last) e h)))
  rest-step (Finished kind) e h = let z : ◌≡◌ {A = ℕ} 0 1 = cc in absurd (omega arith)
