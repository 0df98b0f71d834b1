-- Where the keys below a path part. A value at the path, or two children, end what they have in common there;
-- with one child and no value at the path itself they all go on through the child.
--
--     child-of-longer     a key longer than a path that it begins with goes through a child
--     common-valued       at a path with a value the common prefix is the path
--     common-parted       and so at a path with two children, also of the longer keys alone
--     longer-single       with one child the longer keys are those that begin with it
--     beginning-single    and without a value at the path all of them are
--     fork                which of the cases it is, by the number of children
-- Assumes nothing.
use mathlib.Core.Path.{◌≡◌, refl, sym, ap, ◌∙◌}
use Prim.Native.Nat.{ℕ, ◌+◌, ◌≤◌, ◌<◌}
use native.Mathlib.Omega.{arith}
use native.Mathlib.Decide.{dec_le}
use mathlib.Core.List.Memᴰ
use mathlib.Core.List.{List, [], ◌∷◌, ◌++◌, append_assoc}
use Rattle.std.specs.Prelude.{None, Some}
use lib.ListN.{length, length-append}
use Rattle.keymap.specs.Members.{In, here, there}
use Rattle.keymap.specs.Key.{Key, Below, PrefixOf, last_byte}
use Rattle.keymap.specs.Map.{Entry, Map, Rising, lookup}
use Rattle.keymap.specs.Queries.{SomeBegins, beginning, longer, LongestCommon, common_of_all}
use Rattle.keymap.specs.Image.{children_in, degree}
use Rattle.keymap.proofs.Laws.Key.{below_irrefl, last_byte-append}
use Rattle.keymap.proofs.Laws.Begins.{prefix-iff, prefix_refl, prefix_trans, prefix-length, prefix-chain, prefix-append, prefix-whole}
use Rattle.keymap.proofs.Laws.Map.{lookup-iff, map-members}
use Rattle.keymap.proofs.Laws.Queries.{beginning-iff, beginning-rising, beginning-absent, longer-iff, longer-rising, common_of_all-longest, longest_common-one}
use Rattle.keymap.proofs.Laws.Paths.{children_in-iff, children_in-ordered}

-- the child of p through which a longer key goes
pub record Through (m : Map) (p : Key) (e : Entry) : Type 0 where
  pub byte : ℕ
  pub begins : PrefixOf (p ++ (byte ∷ [])) e.0
  pub child : In (p ++ (byte ∷ [])) (children_in m p)

pub child-of-longer : (m : Map) (p : Key) (e : Entry) → In e m → PrefixOf p e.0 → length p < length e.0 → Through m p e
child-of-longer m p e i b l = let (r, s) = (prefix-iff p e.0).0 b in go r s
  where
    go : (r : Key) → e.0 ≡ p ++ r → Through m p e
    go [] s = absurd (omega (arith, ap length s, length-append p []))
    go (a ∷ r) s =
        let on : PrefixOf (p ++ (a ∷ [])) e.0 = (prefix-iff (p ++ (a ∷ [])) e.0).1 (r, s ∙ sym (append_assoc p (a ∷ []) r)) in
        record { byte = a; begins = on; child = (children_in-iff m p (p ++ (a ∷ []))).1 (a, refl, (e, i, on)) }

pub common-valued : (m : Map) → Rising m → (p : Key) (v : ℕ) → lookup p m ≡ Some v → common_of_all (beginning p m) ≡ p
common-valued m r p v h =
    let own : In (p, v) (beginning p m) = (beginning-iff p m (p, v)).1 ((lookup-iff p v m r).0 h, prefix_refl p) in
    let here_on : LongestCommon (beginning p m) p = record {
      common = λ e i. ((beginning-iff p m e).0 i).1;
      longest = λ q c. prefix-length q p (c (p, v) own);
    } in
    longest_common-one (beginning p m) (common_of_all (beginning p m)) p (p, v) own (common_of_all-longest (beginning p m) (p, v) own) here_on

-- what two keys that go through different children have in common is no longer than the path
parted : (p q x y : Key) (a b : ℕ) → ¬ (a ≡ b) → PrefixOf (p ++ (a ∷ [])) x → PrefixOf (p ++ (b ∷ [])) y → PrefixOf q x → PrefixOf q y → length q ≤ length p
parted p q x y a b n f g u w = go (dec_le (length q) (length p))
  where
    one : length (p ++ (a ∷ [])) ≡ length p + 1
    one = length-append p (a ∷ [])

    other : length (p ++ (b ∷ [])) ≡ length p + 1
    other = length-append p (b ∷ [])

    go : Dec (length q ≤ length p) → length q ≤ length p
    go (yes l) = l
    go (no l) =
        let on : PrefixOf (p ++ (a ∷ [])) q = prefix-chain (p ++ (a ∷ [])) q x f u (omega (arith, one)) in
        let off : PrefixOf (p ++ (b ∷ [])) q = prefix-chain (p ++ (b ∷ [])) q y g w (omega (arith, other)) in
        let within : PrefixOf (p ++ (a ∷ [])) (p ++ (b ∷ [])) = prefix-chain (p ++ (a ∷ [])) (p ++ (b ∷ [])) q on off (omega (arith, one, other)) in
        let same : p ++ (a ∷ []) ≡ p ++ (b ∷ []) = prefix-whole (p ++ (a ∷ [])) (p ++ (b ∷ [])) within (omega (arith, one, other)) in
        absurd (n (sym (last_byte-append p a) ∙ ap last_byte same ∙ last_byte-append p b))

-- two children of a path, each with a key that goes through it
pub record Parting (m : Map) (p : Key) : Type 0 where
  pub one : ℕ
  pub other : ℕ
  pub differ : ¬ (one ≡ other)
  pub begins-one : SomeBegins (p ++ (one ∷ [])) m
  pub begins-other : SomeBegins (p ++ (other ∷ [])) m

-- a key that goes through a child is longer
through-longer : (m : Map) (p : Key) (a : ℕ) (s : SomeBegins (p ++ (a ∷ [])) m) → In s.0 (longer p m)
through-longer m p a (e, i, b) =
    (longer-iff p m e).1
    (i, prefix_trans p (p ++ (a ∷ [])) e.0 (prefix-append p (a ∷ [])) b, omega (arith, prefix-length (p ++ (a ∷ [])) e.0 b, length-append p (a ∷ [])))

longer-in : (m : Map) (p : Key) (e : Entry) → In e (longer p m) → In e (beginning p m)
longer-in m p e i = let (j, b, l) = (longer-iff p m e).0 i in (beginning-iff p m e).1 (j, b)

-- any of the keys below a path that are all that go through two of its children
parted-of : (m : Map) (p : Key) (S : Map) → Parting m p → ((e : Entry) → In e (longer p m) → In e S) → ((e : Entry) → In e S → PrefixOf p e.0)
    → common_of_all S ≡ p
parted-of m p S two has begins =
    let e = two.begins-one.0 in
    let d = two.begins-other.0 in
    let i : In e S = has e (through-longer m p two.one two.begins-one) in
    let j : In d S = has d (through-longer m p two.other two.begins-other) in
    let here_on : LongestCommon S p = record {
      common = begins;
      longest = λ q c. parted p q e.0 d.0 two.one two.other two.differ two.begins-one.2 two.begins-other.2 (c e i) (c d j);
    } in
    longest_common-one S (common_of_all S) p e i (common_of_all-longest S e i) here_on

pub common-parted : (m : Map) (p : Key) → Parting m p → (common_of_all (beginning p m) ≡ p) × (common_of_all (longer p m) ≡ p)
common-parted m p two = (
  parted-of m p (beginning p m) two (longer-in m p) (λ e i. ((beginning-iff p m e).0 i).1),
  parted-of m p (longer p m) two (λ e i. i) (λ e i. ((longer-iff p m e).0 i).1),
)

pub longer-single : (m : Map) → Rising m → (p : Key) (a : ℕ) → children_in m p ≡ (p ++ (a ∷ [])) ∷ [] → longer p m ≡ beginning (p ++ (a ∷ [])) m
longer-single m r p a only =
    map-members (longer p m) (beginning (p ++ (a ∷ [])) m) (longer-rising p m r) (beginning-rising (p ++ (a ∷ [])) m r) (λ e. (on e, back e))
  where
    on : (e : Entry) → In e (longer p m) → In e (beginning (p ++ (a ∷ [])) m)
    on e i =
        let (j, b, l) = (longer-iff p m e).0 i in
        let t = child-of-longer m p e j b l in
        let same : p ++ (t.byte ∷ []) ≡ p ++ (a ∷ []) = Memᴰ.eq_of_singleton (rw only at t.child) in
        (beginning-iff (p ++ (a ∷ [])) m e).1 (j, rw same at t.begins)

    back : (e : Entry) → In e (beginning (p ++ (a ∷ [])) m) → In e (longer p m)
    back e i = let (j, b) = (beginning-iff (p ++ (a ∷ [])) m e).0 i in through-longer m p a (e, j, b)

pub beginning-single : (m : Map) → Rising m → (p : Key) (a : ℕ) → children_in m p ≡ (p ++ (a ∷ [])) ∷ [] → lookup p m ≡ None
    → beginning p m ≡ beginning (p ++ (a ∷ [])) m
beginning-single m r p a only bare = beginning-absent p m r bare ∙ longer-single m r p a only

-- ---- how a path goes on

-- it ends, it goes on through one child, or it parts
pub data Fork (m : Map) (p : Key) : Type 0 where
  ends : children_in m p ≡ [] → degree m p ≡ 0 → Fork m p
  single : (a : ℕ) → children_in m p ≡ (p ++ (a ∷ [])) ∷ [] → degree m p ≡ 1 → Fork m p
  parts : Parting m p → 2 ≤ degree m p → Fork m p

pub fork : (m : Map) → Rising m → (p : Key) → Fork m p
unfolding degree
fork m r p = go (children_in m p) refl
  where
    go : (cs : List Key) → children_in m p ≡ cs → Fork m p
    go [] e = ends e (ap length e)
    go (c ∷ []) e =
        let (a, s, b) = (children_in-iff m p c).0 (rw e (here refl)) in
        single a (e ∙ ap (λ (k : Key). k ∷ []) s) (ap length e)
    go (c ∷ d ∷ cs) e =
        let (a, s, f) = (children_in-iff m p c).0 (rw e (here refl)) in
        let (b, t, g) = (children_in-iff m p d).0 (rw e (there (here refl))) in
        let under : Below c d = (rw e at (children_in-ordered m r p)).0 d (here refl) in
        let apart : ¬ (a ≡ b) = λ q. below_irrefl d (rw (s ∙ ap (λ (x : ℕ). p ++ (x ∷ [])) q ∙ sym t) at under) in
        parts (record { one = a; other = b; differ = apart; begins-one = rw s at f; begins-other = rw t at g }) (omega (arith, ap length e))

-- a path that ends has a value, unless it is the root of the empty map
pub ends-valued : (m : Map) → Rising m → (p : Key) → SomeBegins p m → children_in m p ≡ [] → (v : ℕ) × (lookup p m ≡ Some v)
ends-valued m r p (e, i, b) none_below = go (dec_le (length e.0) (length p))
  where
    go : Dec (length e.0 ≤ length p) → (v : ℕ) × (lookup p m ≡ Some v)
    go (yes l) =
        let own : p ≡ e.0 = prefix-whole p e.0 b l in
        (e.1, rw own ((lookup-iff e.0 e.1 m r).1 i))
    go (no l) = absurd (Memᴰ.not-nil (rw none_below at (child-of-longer m p e i b (omega arith)).child))
