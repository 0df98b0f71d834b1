-- The walks over the ones of a word: what the tests ask at a place, and what each walk keeps.
--
--     parent-off, -at     the test of a parent, by the digit
--     sibling-off, -at    the test of a sibling, by the flag
--     leaf-off, -at, ..   the test of a node without child, by the digit
--     or-none             what was gathered is 0 if each is
--     ParentsKept, ..     what a walk keeps: its start, a turn, where it stops, its end
--     parents-all         where no one of a word needs to be looked at
--     LeavesKept, ..      of the zeros
--     SiblingsKept, ..    of the runs of siblings
--     Run, run_of         what a turn finds there
-- Assumes nothing.
use mathlib.Core.Path.{◌≡◌, refl, sym, ap, ap₂, ◌∙◌, subst}
use mathlib.Core.Logic.{⊎_elim}
use mathlib.Core.List.{List}
use mathlib.Core.Bool.{Bool, true, false, cond, ◌&&◌}
use Prim.Native.Nat.{ℕ, suc, ◌+◌, ◌-◌, ◌*◌, ◌/◌, ◌%◌, ◌^◌, ◌≤◌, ◌<◌}
use native.Mathlib.Nat.{zero-div, mod-lt, one-mul, lt_of_le_of_lt, mod-eq_of_lt, zero-mul, zero-add, lt_of_lt_of_le}
use native.Mathlib.Decide.{dec_le, dec_lt}
use native.Mathlib.Omega.{arith}
use lib.Dec.{eqb, leb}
use lib.ListN.{length, get_or}
use lib.Pow.{pow_pos, split, shr_le, pow-lt, pow_mono}
use lib.Bits.{bit_and, bit_or, bit_xor, and_block, and_comm, and_mask, and_zero_l, or_add_and, or_zero_l, and_le_l, and_le_r, or_shifted_r, or_zero_r, or_lt}
use lib.Count.{ones, count_trailing_zeros, trailing_le}
use borrow.Author.Tests.{le-leb, lt-leb, eq-eqb, ne_eqb, eqb-true}
use Rattle.keymap.specs.Limits.{word_bits}
use Rattle.keymap.specs.Label.{mark}
use Rattle.louds.specs.Digits.{digit, complement, above}
use Rattle.louds.proofs.Laws.Words.{masked}
use Rattle.louds.proofs.Laws.Digits.{digit-small, digit-either, digit-first, digit-shr, digit-beyond, complement-digit, and_both, and_one, and_none, and-none-r, above-all, above_same, above-above, above-end, above_wide, above-less, ones-few, ones_step, ones-flat, ones-run, ones-grow, trailing-low, trailing_even, power-and, Turn, turn}
use Rattle.image.specs.AcceptTest.{labels_rise, childless_fits}
use Rattle.image.specs.WordTest.{all_below, parent_at, sibling_at, leaf_at, SiblingsInside, LeavesInside}
use Rattle.image.proofs.Laws.AcceptTest.{childless_fits-root, childless_fits-node}
use Rattle.image.proofs.Laws.BitTests.{both}
use Rattle.image.proofs.Laws.AllBelow.{both_ways, false-by, not-both, and-made, all-zero, all-suc, all_made, all_told, all-stop, all-skip, and-true}

-- ---- the tests, by the digit

module _ (x at before t : ℕ) where
  pub parent-off : digit x t ≡ 0 → parent_at x at before t ≡ true
  unfolding parent_at
  parent-off h = rw (eq-eqb (digit x t) 0 h)

  pub parent-at : digit x t ≡ 1 → parent_at x at before t ≡ leb (at + t) (2 * (before + ones (x % 2 ^ t)))
  unfolding parent_at
  parent-at h = rw (ne_eqb (digit x t) 0 (λ z. omega arith))

module _ (ls : List ℕ) (x prev before t : ℕ) where
  pub sibling-off : digit (bit_and x prev) t ≡ 0 → sibling_at ls x prev before t ≡ true
  unfolding sibling_at
  sibling-off h = rw (eq-eqb (digit (bit_and x prev) t) 0 h)

  pub sibling-at : digit (bit_and x prev) t ≡ 1 → sibling_at ls x prev before t ≡ labels_rise ls (before + ones (x % 2 ^ t) - 2)
  unfolding sibling_at
  sibling-at h = rw (ne_eqb (digit (bit_and x prev) t) 0 (λ z. omega arith))

module _ (ls : List ℕ) (z lone before t : ℕ) where
  pub leaf-flag-off : digit (bit_and z lone) t ≡ 0 → leaf_at ls z lone before t ≡ true
  unfolding leaf_at
  leaf-flag-off h = rw (eq-eqb (digit (bit_and z lone) t) 0 h)

  leaf-off : digit z t ≡ 0 → leaf_at ls z lone before t ≡ true
  leaf-off h = leaf-flag-off (and_none z lone t h)

  pub leaf-at : digit (bit_and z lone) t ≡ 1 → leaf_at ls z lone before t ≡ childless_fits ls (before + ones (z % 2 ^ t))
  unfolding leaf_at
  leaf-at h = rw (ne_eqb (digit (bit_and z lone) t) 0 (λ e. omega arith))

-- ---- the flag of one place

pub or-none : (a b : ℕ) → eqb (bit_or a b) 0 ≡ (eqb a 0 && eqb b 0)
or-none a b = both_ways (eqb (bit_or a b) 0) (eqb a 0 && eqb b 0) to from
  where
    to : eqb (bit_or a b) 0 ≡ true → (eqb a 0 && eqb b 0) ≡ true
    to h =
        let e : bit_or a b ≡ 0 = eqb-true (bit_or a b) 0 h in
        and-made (eqb a 0) (eqb b 0)
        (eq-eqb a 0 (omega (arith, e, or_add_and a b, and_le_l a b, and_le_r a b)))
        (eq-eqb b 0 (omega (arith, e, or_add_and a b, and_le_l a b, and_le_r a b)))

    from : (eqb a 0 && eqb b 0) ≡ true → eqb (bit_or a b) 0 ≡ true
    from h =
        let (k, l) = both (eqb a 0) (eqb b 0) h in
        eq-eqb (bit_or a b) 0 (ap₂ bit_or (eqb-true a 0 k) (eqb-true b 0 l) ∙ or_zero_l 0)

-- flags below a place, and the place's own
and_split : (bad t y : ℕ) → bad < 2 ^ t → bit_and (bit_or bad (2 ^ t)) y ≡ bit_and (2 ^ t) y + bit_and bad y
and_split bad t y h =
    let u : ℕ = y / 2 ^ t in
    let r : ℕ = y % 2 ^ t in
    let less : r < 2 ^ t = mod-lt y (pow_pos t) in
    let own : 2 ^ t ≡ 1 * 2 ^ t = sym (one-mul (2 ^ t)) in
    let both-flags : bit_and (bit_or bad (2 ^ t)) y ≡ bit_and 1 u * 2 ^ t + bit_and bad r =
    ap₂ bit_and (ap (bit_or bad) own ∙ or_shifted_r 1 t bad h) (sym (split y t)) ∙ and_block t 1 u bad r h less in
    let lower : bit_and bad y ≡ 0 * 2 ^ t + bit_and bad r =
    ap₂ bit_and (sym (zero-block bad (2 ^ t))) (sym (split y t)) ∙ and_block t 0 u bad r h less ∙ ap (λ (v : ℕ). v * 2 ^ t + bit_and bad r) (and_zero_l u) in
    let upper : bit_and (2 ^ t) y ≡ bit_and 1 u * 2 ^ t = power-and t y ∙ ap (λ (v : ℕ). v * 2 ^ t) (sym (and_comm 1 u ∙ and_mask u 1)) in
    omega (arith, both-flags, lower ∙ zero-block (bit_and bad r) (2 ^ t), upper)
  where
    zero-block : (v k : ℕ) → 0 * k + v ≡ v
    zero-block v k = ap (λ (w : ℕ). w + v) (zero-mul k) ∙ zero-add v

sum-none : (a b : ℕ) → eqb (a + b) 0 ≡ (eqb b 0 && eqb a 0)
sum-none a b =
    both_ways (eqb (a + b) 0) (eqb b 0 && eqb a 0)
    (λ h. let e : a + b ≡ 0 = eqb-true (a + b) 0 h in and-made (eqb b 0) (eqb a 0) (eq-eqb b 0 (omega arith)) (eq-eqb a 0 (omega arith)))
    (λ h. let (k, l) = both (eqb b 0) (eqb a 0) h in eq-eqb (a + b) 0 (omega (arith, eqb-true b 0 k, eqb-true a 0 l)))

flag-next : (s : Bool) (bad t y : ℕ) → bad < 2 ^ t → eqb (bit_and (bit_or bad (cond s 0 (2 ^ t))) y) 0 ≡ (eqb (bit_and bad y) 0 && eqb (cond s 0 (bit_and (2 ^ t) y)) 0)
flag-next true bad t y h = ap (λ (u : ℕ). eqb (bit_and u y) 0) (or_zero_r bad) ∙ sym (and-true (eqb (bit_and bad y) 0) (eqb 0 0) (eq-eqb 0 0 refl))
flag-next false bad t y h = ap (λ (u : ℕ). eqb u 0) (and_split bad t y h) ∙ sum-none (bit_and (2 ^ t) y) (bit_and bad y)

flag_small : (s : Bool) (bad t : ℕ) → bad < 2 ^ t → bit_or bad (cond s 0 (2 ^ t)) < 2 ^ suc t
flag_small true bad t h = let e : 2 ^ t < 2 ^ suc t = pow-lt (omega arith) in or_lt (suc t) bad 0 (omega (arith, h, e)) (pow_pos (suc t))
flag_small false bad t h = let e : 2 ^ t < 2 ^ suc t = pow-lt (omega arith) in or_lt (suc t) bad (2 ^ t) (omega (arith, h, e)) e

module _ (ls : List ℕ) (z lone before t : ℕ) (one : digit z t ≡ 1) where
  -- what a zero adds to the failures
  leaf-flag : leaf_at ls z lone before t ≡ eqb (cond (childless_fits ls (before + ones (z % 2 ^ t))) 0 (bit_and (2 ^ t) lone)) 0
  leaf-flag = ⊎_elim set unset (digit-either lone t)
    where
      fits : Bool
      fits = childless_fits ls (before + ones (z % 2 ^ t))

      unset : digit lone t ≡ 0 → leaf_at ls z lone before t ≡ eqb (cond fits 0 (bit_and (2 ^ t) lone)) 0
      unset e =
          let v : bit_and (2 ^ t) lone ≡ 0 = power-and t lone ∙ ap (λ (u : ℕ). u * 2 ^ t) e ∙ omega arith in
          leaf-flag-off ls z lone before t (and-none-r z lone t e) ∙ sym (eq-eqb (cond fits 0 (bit_and (2 ^ t) lone)) 0 (ap (cond fits 0) v ∙ same fits))
        where
          same : (s : Bool) → cond {A = ℕ} s 0 0 ≡ 0
          same true = refl
          same false = refl

      set : digit lone t ≡ 1 → leaf_at ls z lone before t ≡ eqb (cond fits 0 (bit_and (2 ^ t) lone)) 0
      set e =
          let v : bit_and (2 ^ t) lone ≡ 2 ^ t = power-and t lone ∙ ap (λ (u : ℕ). u * 2 ^ t) e ∙ one-mul (2 ^ t) in
          leaf-at ls z lone before t (and_both z lone t one e) ∙ by fits (bit_and (2 ^ t) lone) (positive v (pow_pos t))
        where
          positive : bit_and (2 ^ t) lone ≡ 2 ^ t → 0 < 2 ^ t → 0 < bit_and (2 ^ t) lone
          positive v p = omega arith

          by : (s : Bool) (u : ℕ) → 0 < u → s ≡ eqb (cond s 0 u) 0
          by true u p = sym (eq-eqb 0 0 refl)
          by false u p = sym (ne_eqb u 0 (λ w. omega arith))

pub none-bad : (lone : ℕ) → eqb (bit_and 0 lone) 0 ≡ true
none-bad lone = eq-eqb (bit_and 0 lone) 0 (and_zero_l lone)

-- ---- what the walks keep

pub record ParentsKept (x at before rest m : ℕ) : Type 0 where
  pub from : ℕ
  pub low : from ≤ word_bits
  pub is : rest ≡ above x from
  pub count : m ≡ before + ones (x % 2 ^ from)
  pub passed : all_below (parent_at x at before) from ≡ true

module _ (x at before : ℕ) where
  pub parents-start : ParentsKept x at before x before
  parents-start = record {
    from = 0;
    low = omega arith;
    is = above-all x;
    count = let e : ones (x % 1) ≡ 0 = omega (arith, ones-few x 0) in omega (arith, e);
    passed = all-zero (parent_at x at before);
  }

  pub parents-few : (rest m : ℕ) → ParentsKept x at before rest m → m ≤ before + word_bits
  parents-few rest m k = omega (arith, k.count, ones-few x k.from, k.low)

  module _ (rest m : ℕ) (k : ParentsKept x at before rest m) (some : rest ≡ 0 → ⊥) (wide : x < 2 ^ word_bits) where
    found : Turn x k.from rest
    found = turn x k.from rest k.is some (omega (arith, k.is, above_wide x k.from wide))

    same_count : before + ones (x % 2 ^ found.place) ≡ m
    same_count = omega (arith, k.count, ones-flat x found.place k.from found.from found.none)

    pub parents-stop : 2 * m < at + count_trailing_zeros word_bits rest → all_below (parent_at x at before) word_bits ≡ false
    parents-stop h =
        all-stop (parent_at x at before) word_bits found.place found.inside
        (parent-at x at before found.place found.one ∙ lt-leb (at + found.place) (2 * (before + ones (x % 2 ^ found.place))) (omega (arith, h, found.is-lowest, same_count)))

    pub parents-turn : at + count_trailing_zeros word_bits rest ≤ 2 * m → ParentsKept x at before (bit_and rest (rest - 1)) (m + 1)
    parents-turn h = record {
      from = suc found.place;
      low = found.inside;
      is = found.next;
      count = omega (arith, same_count, ones_step x found.place, found.one);
      passed =
          all-suc (parent_at x at before) found.place
          ∙ and-made (all_below (parent_at x at before) found.place) (parent_at x at before found.place)
          (all-skip (parent_at x at before) found.place k.from found.from (λ j lo hi. parent-off x at before j (found.none j lo hi)) ∙ k.passed)
          (parent-at x at before found.place found.one ∙ le-leb (at + found.place) (2 * (before + ones (x % 2 ^ found.place))) (omega (arith, h, found.is-lowest, same_count)));
    }

  pub parents-end : (rest m : ℕ) → ParentsKept x at before rest m → rest ≡ 0 → all_below (parent_at x at before) word_bits ≡ true
  parents-end rest m k none =
      all-skip (parent_at x at before) word_bits k.from k.low (λ j lo hi. parent-off x at before j (above-end x k.from j (sym k.is ∙ none) lo)) ∙ k.passed

  -- where there are enough ones before the word, all its ones pass
  pub parents-all : x < 2 ^ word_bits → at + word_bits ≤ 2 * before + ones x → all_below (parent_at x at before) word_bits ≡ true
  parents-all wide h = all_made (parent_at x at before) word_bits (λ t l. ⊎_elim (λ e. parent-at x at before t e ∙ le-leb (at + t) (2 * (before + ones (x % 2 ^ t))) (enough t l)) (λ e. parent-off x at before t e) (digit-either x t))
    where
      whole : ones (x % 2 ^ word_bits) ≡ ones x
      whole = ap ones (mod-eq_of_lt wide)

      enough : (t : ℕ) → t < word_bits → at + t ≤ 2 * (before + ones (x % 2 ^ t))
      enough t l =
          let e : t + (word_bits - t) ≡ word_bits = omega arith in
          let f : ones (x % 2 ^ (t + (word_bits - t))) ≡ ones (x % 2 ^ word_bits) = ap (λ (n : ℕ). ones (x % 2 ^ n)) e in
          omega (arith, f, whole, ones-grow x t (word_bits - t), h)

pub record LeavesKept (ls : List ℕ) (z lone before rest m bad : ℕ) : Type 0 where
  pub from : ℕ
  pub low : from ≤ word_bits
  pub is : rest ≡ above z from
  pub count : m ≡ before + ones (z % 2 ^ from)
  pub small : bad < 2 ^ from
  pub passed : eqb (bit_and bad lone) 0 ≡ all_below (leaf_at ls z lone before) from

module _ (ls : List ℕ) (z lone before : ℕ) where
  pub leaves-start : LeavesKept ls z lone before z before 0
  leaves-start = record {
    from = 0;
    low = omega arith;
    is = above-all z;
    count = let e : ones (z % 1) ≡ 0 = omega (arith, ones-few z 0) in omega (arith, e);
    small = omega arith;
    passed = none-bad lone ∙ sym (all-zero (leaf_at ls z lone before));
  }

  -- without a flag there is nothing to look at
  pub leaves_none : bit_and z lone ≡ 0 → all_below (leaf_at ls z lone before) word_bits ≡ true
  leaves_none e = all_made (leaf_at ls z lone before) word_bits (λ t l. leaf-flag-off ls z lone before t (ap (λ (u : ℕ). digit u t) e ∙ ap (λ (u : ℕ). u % 2) (zero-div (2 ^ t))))

  module _ (rest m bad : ℕ) (k : LeavesKept ls z lone before rest m bad) (some : rest ≡ 0 → ⊥) (wide : z < 2 ^ word_bits) where
    leaf-found : Turn z k.from rest
    leaf-found = turn z k.from rest k.is some (omega (arith, k.is, above_wide z k.from wide))

    leaf-count : before + ones (z % 2 ^ leaf-found.place) ≡ m
    leaf-count = omega (arith, k.count, ones-flat z leaf-found.place k.from leaf-found.from leaf-found.none)

    pub leaves-high : (n : ℕ) → LeavesInside n z before → m ≤ n + 1
    leaves-high n inside = omega (arith, leaf-count, inside leaf-found.place leaf-found.inside leaf-found.one)

    leaves-turn : (v : ℕ) → v ≡ cond (childless_fits ls m) 0 (bit_xor rest (bit_and rest (rest - 1))) → LeavesKept ls z lone before (bit_and rest (rest - 1)) (m + 1) (bit_or bad v)
    leaves-turn v e = record {
      from = suc t;
      low = leaf-found.inside;
      is = leaf-found.next;
      count = omega (arith, leaf-count, ones_step z t, leaf-found.one);
      small = subst (λ (u : ℕ). bit_or bad u < 2 ^ suc t) (sym is-flag) (flag_small fits bad t below);
      passed =
          ap (λ (u : ℕ). eqb (bit_and (bit_or bad u) lone) 0) is-flag
          ∙ flag-next fits bad t lone below
          ∙ ap₂ (λ (r s : Bool). r && s)
          (k.passed ∙ sym (all-skip f t k.from leaf-found.from (λ j lo hi. leaf-off ls z lone before j (leaf-found.none j lo hi))))
          (sym (leaf-flag ls z lone before t leaf-found.one))
          ∙ sym (all-suc f t);
    }
      where
        t : ℕ
        t = leaf-found.place

        f : ℕ → Bool
        f = leaf_at ls z lone before

        fits : Bool
        fits = childless_fits ls (before + ones (z % 2 ^ t))

        is-flag : v ≡ cond fits 0 (2 ^ t)
        is-flag = e ∙ ap₂ (λ (c u : ℕ). cond (childless_fits ls c) 0 u) (sym leaf-count) leaf-found.flag

        below : bad < 2 ^ t
        below = lt_of_lt_of_le k.small (pow_mono {i = k.from} {j = t} leaf-found.from)

    -- the root, and the zero before it
    pub leaves-root : m < 2 → bad ≡ 0 → LeavesKept ls z lone before (bit_and rest (rest - 1)) (m + 1) 0
    leaves-root h none =
        subst (LeavesKept ls z lone before (bit_and rest (rest - 1)) (m + 1)) (ap (λ (u : ℕ). bit_or u 0) none ∙ or_zero_l 0)
        (leaves-turn 0 (rw (childless_fits-root ls m h)))

    pub leaves-unmarked : 2 ≤ m → get_or ls (m - 2) 0 < mark → LeavesKept ls z lone before (bit_and rest (rest - 1)) (m + 1) (bit_or bad (bit_xor rest (bit_and rest (rest - 1))))
    leaves-unmarked h u = leaves-turn (bit_xor rest (bit_and rest (rest - 1))) (rw (childless_fits-node ls m h ∙ lt-leb mark (get_or ls (m - 2) 0) u))

    pub leaves-marked : 2 ≤ m → mark ≤ get_or ls (m - 2) 0 → LeavesKept ls z lone before (bit_and rest (rest - 1)) (m + 1) bad
    leaves-marked h u =
        subst (LeavesKept ls z lone before (bit_and rest (rest - 1)) (m + 1)) (or_zero_r bad)
        (leaves-turn 0 (rw (childless_fits-node ls m h ∙ le-leb mark (get_or ls (m - 2) 0) u)))

  pub leaves-end : (rest m bad : ℕ) → LeavesKept ls z lone before rest m bad → rest ≡ 0 → eqb (bit_and bad lone) 0 ≡ all_below (leaf_at ls z lone before) word_bits
  leaves-end rest m bad k none =
      k.passed ∙ sym (all-skip (leaf_at ls z lone before) word_bits k.from k.low (λ j lo hi. leaf-off ls z lone before j (above-end z k.from j (sym k.is ∙ none) lo)))

pub record SiblingsKept (ls : List ℕ) (x prev before y : ℕ) : Type 0 where
  pub from : ℕ
  pub low : from ≤ word_bits
  pub is : y ≡ above (bit_and x prev) from
  pub passed : all_below (sibling_at ls x prev before) from ≡ true

-- what a turn finds: a run of flags from `start` on, with `count` ones of the word before it
pub record Run (ls : List ℕ) (x prev before y start run count : ℕ) : Type 0 where
  pub within : start + run ≤ word_bits
  pub low : 2 ≤ before + count
  pub high : before + count - 2 + run < length ls
  pub stop : all_below (λ j. labels_rise ls (before + count - 2 + j)) run ≡ false → all_below (sibling_at ls x prev before) word_bits ≡ false
  pub turn : all_below (λ j. labels_rise ls (before + count - 2 + j)) run ≡ true → SiblingsKept ls x prev before (above y (start + run))
  pub less : above y (start + run) < y

module _ (ls : List ℕ) (x prev before : ℕ) where
  pub siblings-start : SiblingsKept ls x prev before (bit_and x prev)
  siblings-start = record { from = 0; low = omega arith; is = above-all (bit_and x prev); passed = all-zero (sibling_at ls x prev before) }

  pub siblings-end : (y : ℕ) → SiblingsKept ls x prev before y → y ≡ 0 → all_below (sibling_at ls x prev before) word_bits ≡ true
  siblings-end y k none =
      all-skip (sibling_at ls x prev before) word_bits k.from k.low (λ j lo hi. sibling-off ls x prev before j (above-end (bit_and x prev) k.from j (sym k.is ∙ none) lo)) ∙ k.passed

  module _ (y : ℕ) (k : SiblingsKept ls x prev before y) (some : y ≡ 0 → ⊥) (wide : x < 2 ^ word_bits) where
    y-wide : y < 2 ^ word_bits
    y-wide = omega (arith, k.is, above_wide (bit_and x prev) k.from (omega (arith, and_le_l x prev, wide)))

    run-found : Turn (bit_and x prev) k.from y
    run-found = turn (bit_and x prev) k.from y k.is some y-wide

    pub siblings-inside : count_trailing_zeros word_bits y < word_bits
    siblings-inside = omega (arith, run-found.is-lowest, run-found.inside)

    module _ (start run : ℕ) (is-start : start ≡ count_trailing_zeros word_bits y) (is-run : run ≡ count_trailing_zeros word_bits (complement (y / 2 ^ start))) where
      start-inside : start < word_bits
      start-inside = omega (arith, is-start, siblings-inside)

      start-from : k.from ≤ start
      start-from = omega (arith, is-start, run-found.is-lowest, run-found.from)

      shifted-wide : y / 2 ^ start < 2 ^ word_bits
      shifted-wide = lt_of_le_of_lt (shr_le y start) y-wide

      -- the digits of the run
      in-y : (j : ℕ) → j < run → j < word_bits → digit y (start + j) ≡ 1
      in-y j h l =
          let none = trailing-low word_bits (complement (y / 2 ^ start)) j (omega (arith, h, is-run)) in
          let d = complement-digit (y / 2 ^ start) j l shifted-wide in
          sym (digit-shr y start j) ∙ omega (arith, none, d, digit-small (y / 2 ^ start) j)

      run_inside : start + run ≤ word_bits
      run_inside = go (dec_le (start + run) word_bits)
        where
          go : Dec (start + run ≤ word_bits) → start + run ≤ word_bits
          go (yes h) = h
          go (no h) =
              let j : ℕ = word_bits - start in
              let e : start + j ≡ word_bits = omega (arith, start-inside) in
              let positive : 0 < start = omega (arith, is-run, trailing_le word_bits (complement (y / 2 ^ start))) in
              let one = in-y j (omega arith) (omega arith) in
              absurd (omega (arith, one, ap (digit y) e, digit-beyond y word_bits y-wide))

      flag : (j : ℕ) → j < run → digit (bit_and x prev) (start + j) ≡ 1
      flag j h =
          sym (above_same (bit_and x prev) k.from (start + j) (omega (arith, start-from)))
          ∙ ap (λ (u : ℕ). digit u (start + j)) (sym k.is) ∙ in-y j h (omega (arith, run_inside))

      run-some : 1 ≤ run
      run-some =
          let first : digit (y / 2 ^ start) 0 ≡ 1 = digit-shr y start 0 ∙ ap (digit y) (omega (arith, is-start, run-found.is-lowest)) ∙ here in
          omega (
            arith,
            is-run,
            trailing_even word_bits (complement (y / 2 ^ start)) (omega arith)
                (sym (digit-first (complement (y / 2 ^ start))) ∙ complement-digit (y / 2 ^ start) 0 (omega arith) shifted-wide ∙ omega (arith, first)),
          )
        where
          here : digit y run-found.place ≡ 1
          here = ap (λ (u : ℕ). digit u run-found.place) k.is ∙ above_same (bit_and x prev) k.from run-found.place run-found.from ∙ run-found.one

      counted : (j : ℕ) → j ≤ run → ones (x % 2 ^ (start + j)) ≡ ones (x % 2 ^ start) + j
      counted j h = ones-run x start j (λ i l. (and_one x prev (start + i) (flag i (omega arith))).0)

      pub run_of : SiblingsInside (length ls) x prev before → (count : ℕ) → count ≡ ones (bit_and x ((1 * 2 ^ start) % 2 ^ word_bits - 1)) → Run ls x prev before y start run count
      run_of inside count masked-count = record {
        within = run_inside;
        low = low;
        high =
            let j : ℕ = run - 1 in
            let h = (inside (start + j) (omega (arith, run-some, run_inside)) (flag j (omega (arith, run-some)))).1 in
            omega (arith, h, counted j (omega arith), run-some, low, is-count);
        stop = λ h.
            false-by (all_below f word_bits) (λ all.
            not-both _ (all_made rise run (λ j l. sym (sibling-in j l) ∙ all_told f word_bits all (start + j) (omega (arith, run_inside)))) h);
        turn = λ h. record {
          from = start + run;
          low = run_inside;
          is = ap (λ (u : ℕ). above u (start + run)) k.is ∙ above-above (bit_and x prev) k.from (start + run) (omega (arith, start-from));
          passed = all_made f (start + run) (λ j l. each h j l (dec_lt j k.from) (dec_lt j start));
        };
        less =
            let e : start + 0 ≡ start = omega arith in
            above-less y start (start + run) (omega (arith, run-some)) (ap (digit y) (sym e) ∙ in-y 0 (omega (arith, run-some)) (omega arith));
      }
        where
          is-count : count ≡ ones (x % 2 ^ start)
          is-count = masked-count ∙ ap ones (masked x start start-inside)

          low : 2 ≤ before + count
          low =
              let e : start + 0 ≡ start = omega arith in
              omega (arith, is-count, (inside start start-inside (ap (digit (bit_and x prev)) (sym e) ∙ flag 0 (omega (arith, run-some)))).0)

          f : ℕ → Bool
          f = sibling_at ls x prev before

          rise : ℕ → Bool
          rise j = labels_rise ls (before + count - 2 + j)

          sibling-in : (j : ℕ) → j < run → f (start + j) ≡ rise j
          sibling-in j h = sibling-at ls x prev before (start + j) (flag j h) ∙ ap (labels_rise ls) (omega (arith, is-count, counted j (omega arith), low))

          each : all_below rise run ≡ true → (j : ℕ) → j < start + run → Dec (j < k.from) → Dec (j < start) → f j ≡ true
          each h j l (yes a) s = all_told f k.from k.passed j a
          each h j l (no a) (yes s) = sibling-off ls x prev before j (run-found.none j (omega arith) (omega (arith, is-start, run-found.is-lowest)))
          each h j l (no a) (no s) =
              let i : ℕ = j - start in
              let e : j ≡ start + i = omega arith in
              ap f e ∙ sibling-in i (omega arith) ∙ all_told rise run h i (omega arith)
