-- A search among the children of a node: an entry by its bits, and the run of siblings by the ones before them.
--
--     entry-rule               an entry matches a label by its bits but the mark
--     among-start              the run that is looked through: from the first that counts to the last
--     among-here, -past, -end  a search that found, goes on, or is over
--     lowest-bounds            a child found is above its node, and has an entry
-- Assumes nothing.
use mathlib.Core.Path.{◌≡◌, refl, sym, ap, ap₂, ◌∙◌}
use Prim.Native.Nat.{ℕ, zero, suc, ◌+◌, ◌-◌, ◌*◌, ◌/◌, ◌%◌, ◌^◌, ◌≤◌, ◌<◌, max, min}
use native.Mathlib.Nat.{mod-lt, lt_of_not-le}
use native.Mathlib.Decide.{dec_le}
use native.Mathlib.Omega.{arith}
use mathlib.Core.Bool.{Bool, true, false}
use mathlib.Core.List.{List}
use Rattle.std.specs.Prelude.{Option, None, Some}
use lib.Dec.{eqb, lit<}
use lib.ListN.{length, get_or}
use lib.Bits.{bit_and, and_block, and_high, and_mask}
use borrow.Author.Tests.{ne_eqb}
use Rattle.walks.specs.Rule.{matches, is_child_by, lowest_by}
use Rattle.walks.proofs.Laws.Rule.{matches-large, matches-small, is_child_by-root, is_child_by-low, is_child_by-entry, lowest_by-end, lowest_by-here, lowest_by-past, lowest_by-late, is_child_by-told, LowestTold, found, missed, lowest-told}

-- ---- an entry by its bits

unmarked : (e : ℕ) → e < 65536 → bit_and e 65279 ≡ e / 512 * 512 + e % 256
unmarked e h =
    let whole : e ≡ e / 256 * 2 ^ 8 + e % 256 = omega arith in
    let parts : 65279 ≡ 254 * 2 ^ 8 + 255 = omega arith in
    let upper : bit_and (e / 256) 254 ≡ e / 256 / 2 % 128 * 2 = and_high (e / 256) 7 1 in
    let lower : bit_and (e % 256) 255 ≡ e % 256 % 256 = and_mask (e % 256) 8 in
    ap₂ bit_and whole parts ∙ and_block 8 (e / 256) 254 (e % 256) 255 (mod-lt e (lit< tt)) (lit< tt) ∙ omega (arith, upper, lower, h)

pub entry-rule : (e a : ℕ) → e < 65536 → a < 256 → eqb (bit_and e 65279) a ≡ matches e a
entry-rule e a h k = go (dec_le 512 e)
  where
    go : Dec (512 ≤ e) → eqb (bit_and e 65279) a ≡ matches e a
    go (yes l) = ne_eqb (bit_and e 65279) a (λ q. omega (arith, q, unmarked e h, k, l)) ∙ sym (matches-large e a l)
    go (no l) = let same : bit_and e 65279 ≡ e % 256 = omega (arith, unmarked e h, l) in ap (λ (x : ℕ). eqb x a) same ∙ sym (matches-small e a (lt_of_not-le l))

-- ---- a run of siblings by the ones before them

less-less : (x y z : ℕ) → y ≤ z → x - y - (z - y) ≡ x - z
less-less x y z h = omega (arith, h)

back_to : (x y : ℕ) → x ≤ y → x + 1 + (y - x) ≡ y + 1
back_to x y h = omega (arith, h)

module _ (ls : List ℕ) (k a : ℕ) where
  skipped : (d left m : ℕ) → ((c : ℕ) → m ≤ c → c < m + d → is_child_by ls k c a ≡ false) → lowest_by ls k left m a ≡ lowest_by ls k (left - d) (m + d) a
  skipped zero left m other = let e : m + 0 ≡ m = omega arith in let f : left - 0 ≡ left = omega arith in ap₂ (λ (x y : ℕ). lowest_by ls k x y a) (sym f) (sym e)
  skipped (suc d) left m other = go (dec_le 1 left) (skipped d (left - 1) (m + 1) (λ c l u. other c (omega (arith, l)) (omega (arith, u))))
    where
      after : lowest_by ls k (left - 1 - d) (m + 1 + d) a ≡ lowest_by ls k (left - suc d) (m + suc d) a
      after = let e : left - 1 - d ≡ left - suc d = omega arith in let f : m + 1 + d ≡ m + suc d = omega arith in ap₂ (λ (x y : ℕ). lowest_by ls k x y a) e f

      go : Dec (1 ≤ left) → lowest_by ls k (left - 1) (m + 1) a ≡ lowest_by ls k (left - 1 - d) (m + 1 + d) a → lowest_by ls k left m a ≡ lowest_by ls k (left - suc d) (m + suc d) a
      go (yes h) ih = lowest_by-past ls k left m a h (other m (omega arith) (omega arith)) ∙ ih ∙ after
      go (no h) ih =
          let e : left ≡ 0 = omega arith in
          let f : left - suc d ≡ 0 = omega arith in
          ap (λ (x : ℕ). lowest_by ls k x m a) e ∙ lowest_by-end ls k m a ∙ sym (ap (λ (x : ℕ). lowest_by ls k x (m + suc d) a) f ∙ lowest_by-end ls k (m + suc d) a)

  cut : (d left m : ℕ) → d ≤ left → length ls + 1 < m + d → lowest_by ls k left m a ≡ lowest_by ls k d m a
  cut zero left m l h = lowest_by-late left ls k m a (omega (arith, h)) ∙ sym (lowest_by-end ls k m a)
  cut (suc d) left m l h = go (is_child_by ls k m a) refl (cut d (left - 1) (m + 1) (omega (arith, l)) (omega (arith, h)))
    where
      go : (t : Bool) → is_child_by ls k m a ≡ t → lowest_by ls k (left - 1) (m + 1) a ≡ lowest_by ls k d (m + 1) a → lowest_by ls k left m a ≡ lowest_by ls k (suc d) m a
      go true e ih = lowest_by-here ls k left m a (omega (arith, l)) e ∙ sym (lowest_by-here ls k (suc d) m a (omega arith) e)
      go false e ih =
          let f : suc d - 1 ≡ d = omega arith in
          lowest_by-past ls k left m a (omega (arith, l)) e ∙ ih ∙ sym (lowest_by-past ls k (suc d) m a (omega arith) e ∙ ap (λ (x : ℕ). lowest_by ls k x (m + 1) a) f)

  -- those that count have `at` ones or more before them, and fewer than `high`
  pub among-start : (from to at high : ℕ) → from ≤ at → at ≤ max from (max k 1) → high ≡ min to (length ls + 1)
      → lowest_by ls k (to - from) (from + 1) a ≡ lowest_by ls k (high - at) (at + 1) a
  among-start from to at high l u is =
      let d : ℕ = at - from in
      let e : to - from - d ≡ to - at = less-less to from at l in
      let f : from + 1 + d ≡ at + 1 = back_to from at l in
      skipped d (to - from) (from + 1) (λ c lo hi. low c lo hi) ∙ ap₂ (λ (x y : ℕ). lowest_by ls k x y a) e f ∙ short (dec_le to (length ls + 1))
    where
      low : (c : ℕ) → from + 1 ≤ c → c < from + 1 + (at - from) → is_child_by ls k c a ≡ false
      low c lo hi = go (dec_le 2 c)
        where
          go : Dec (2 ≤ c) → is_child_by ls k c a ≡ false
          go (yes h) = is_child_by-low ls k c a h (omega (arith, lo, hi, u, h))
          go (no h) = is_child_by-root ls k c a (lt_of_not-le h)

      short : Dec (to ≤ length ls + 1) → lowest_by ls k (to - at) (at + 1) a ≡ lowest_by ls k (high - at) (at + 1) a
      short (yes h) = let same : to ≡ high = omega (arith, is, h) in ap (λ (x : ℕ). lowest_by ls k (x - at) (at + 1) a) same
      short (no h) = far (dec_le high at)
        where
          own : high ≡ length ls + 1
          own = omega (arith, is, h)

          far : Dec (high ≤ at) → lowest_by ls k (to - at) (at + 1) a ≡ lowest_by ls k (high - at) (at + 1) a
          far (yes g) =
              let none_left : high - at ≡ 0 = omega arith in
              lowest_by-late (to - at) ls k (at + 1) a (omega (arith, own, g)) ∙ sym (ap (λ (x : ℕ). lowest_by ls k x (at + 1) a) none_left ∙ lowest_by-end ls k (at + 1) a)
          far (no g) = cut (high - at) (to - at) (at + 1) (omega (arith, own, h)) (omega (arith, own, g))

  module _ (at high : ℕ) (above : k ≤ at) (one : 1 ≤ at) (more : at < high) (within : high ≤ length ls + 1) where
    entry_of : is_child_by ls k (at + 1) a ≡ matches (get_or ls (at - 1) 0) a
    entry_of =
        let e : at + 1 - 2 ≡ at - 1 = omega arith in
        is_child_by-entry ls k (at + 1) a (omega (arith, one)) (omega (arith, above)) (omega (arith, more, within)) ∙ ap (λ (x : ℕ). matches (get_or ls x 0) a) e

    pub among-here : matches (get_or ls (at - 1) 0) a ≡ true → lowest_by ls k (high - at) (at + 1) a ≡ Some (at + 1)
    among-here e = lowest_by-here ls k (high - at) (at + 1) a (omega (arith, more)) (entry_of ∙ e)

    pub among-past : matches (get_or ls (at - 1) 0) a ≡ false → lowest_by ls k (high - at) (at + 1) a ≡ lowest_by ls k (high - (at + 1)) (at + 1 + 1) a
    among-past e =
        let f : high - at - 1 ≡ high - (at + 1) = omega arith in
        lowest_by-past ls k (high - at) (at + 1) a (omega (arith, more)) (entry_of ∙ e) ∙ ap (λ (x : ℕ). lowest_by ls k x (at + 1 + 1) a) f

  pub among-end : (at high : ℕ) → high ≤ at → lowest_by ls k (high - at) (at + 1) a ≡ None
  among-end at high l = let e : high - at ≡ 0 = omega arith in ap (λ (x : ℕ). lowest_by ls k x (at + 1) a) e ∙ lowest_by-end ls k (at + 1) a

-- a child found is above its node, and has an entry
pub lowest-bounds : (ls : List ℕ) (k left m a c : ℕ) → lowest_by ls k left m a ≡ Some c → (k < c) × (c ≤ length ls + 1)
lowest-bounds ls k left m a c e = go (lowest_by ls k left m a) e (lowest-told left ls k m a)
  where
    go : (o : Option ℕ) → o ≡ Some c → LowestTold ls k left m a o → (k < c) × (c ≤ length ls + 1)
    go _ q (found d l u f) =
        let same : d ≡ c = cc in
        let t = is_child_by-told ls k d a f in
        (omega (arith, same, t.above), omega (arith, same, t.within))
    go _ q (missed f) = let z : ◌≡◌ {A = ℕ} 0 1 = cc in absurd (omega arith)
