-- Whole words: their zeros, the zero of a node in one of them, the next zero, and the child of a node by these two; and a walk that keeps such a word.
--
--     word_next, four-next       the zeros before the next word, and before the fourth from one on
--     ZeroAt, zero_in            the zero of a node in its word
--     next-in, next-beyond       and the next zero, in the word or in the first that has one
--     level-rule                 the child of a node by these two places
--     Keeping, Settled           the word that a walk keeps, and that it has the node's zero
--     keeping-stand, gone-rule   from there on the node's stand is found, and the walk ends where the rule does
--     near-beyond                a word behind the end has no zero
-- Assumes nothing.
use mathlib.Core.Path.{◌≡◌, refl, sym, ap, ap₂, ◌∙◌, subst}
use Prim.Native.Nat.{ℕ, suc, ◌+◌, ◌-◌, ◌*◌, ◌/◌, ◌%◌, ◌^◌, ◌≤◌, ◌<◌}
use native.Mathlib.Nat.{mod-eq_of_lt}
use native.Mathlib.Decide.{dec_le}
use native.Mathlib.Omega.{arith}
use mathlib.Core.List.{List}
use Rattle.std.specs.Prelude.{Some, None, unwrap_or, Option}
use lib.Dec.{lit<}
use lib.ListN.{get_or, drop}
use lib.Bits.{bit_and}
use lib.Count.{ones, ones-le, count_trailing_zeros}
use Rattle.keymap.specs.Key.{Key}
use Rattle.keymap.specs.Limits.{word_bits}
use Rattle.keymap.specs.Bits.{bit, sum_below}
use Rattle.keymap.proofs.Laws.Sums.{sum_below-zero, sum_below-lt}
use Rattle.keymap.proofs.Laws.Bits.{bit-small}
use Rattle.louds.specs.Digits.{digit, above}
use Rattle.louds.specs.Rank.{gap, zeros_before}
use Rattle.louds.specs.Select.{onward, zero_at, zero_from}
use Rattle.louds.proofs.Laws.Rank.{gap-small, ones-zeros}
use Rattle.louds.proofs.Laws.Words.{ones_low}
use Rattle.louds.proofs.Laws.Digits.{above-all, above-end, above_wide, ones-few, ones-flat, ones_step, Turn, turn}
use Rattle.louds.proofs.Laws.Fields.{joined-lt, joined-field}
use Rattle.louds.proofs.Laws.ByteRanks.{ranked, byte_ranks}
use Rattle.louds.proofs.Laws.Select.{kth-at, kth-bare, onward-before, marks-zero, marks-one}
use Rattle.louds.proofs.Laws.MarkWords.{mark_word, mark_word-ones, mark_word-digit, below, zeros-marked, ones-marked}
use Rattle.louds.proofs.Laws.Nodes.{children-at}
use Rattle.louds.specs.Taking.{ones_from}
use Rattle.louds.proofs.Laws.Taking.{Taken, taken}
use Rattle.walks.specs.declared.stands.Stand.{Stand}
use Rattle.descents.specs.declared.far.Passed.{Passed}
use Rattle.descents.specs.declared.far.Kept.{Kept}
use Rattle.walks.specs.Rule.{lowest_by, child_by, walked_from, walked}
use Rattle.walks.specs.Stands.{stand_at, down_along, reached_at}
use Rattle.descents.specs.Far.{zeros_up_to, zero_bits, PassedFrom, OwnSums, Found, Ready, HasZero, stand_near, went_on}
use Rattle.walks.proofs.Laws.Stands.{zero-near, along-rule}
use Rattle.walks.proofs.Laws.Rule.{child_by-run}

-- ---- words

no_ones : ones 0 ≡ 0
unfolding ones
no_ones = refl

-- a zero at a place, with k zeros before it
pub record ZeroAt (ws : List ℕ) (k p : ℕ) : Type 0 where
  pub before : zeros_before (bit ws) p ≡ k
  pub there : gap (bit ws) p ≡ 1

module _ (ws : List ℕ) (wide : (i : ℕ) → get_or ws i 0 < 2 ^ word_bits) where
  abbrev b : ℕ → ℕ
  b = bit ws

  zero-marks : (w : ℕ) → zero_bits ws w ≡ mark_word (gap b) w
  zero-marks w = zeros-marked ws w (wide w) ∙ ap (λ (m : ℕ → ℕ). mark_word m w) (marks-zero b)

  pub word_wide : (w : ℕ) → zero_bits ws w < 2 ^ word_bits
  word_wide w = omega (arith, wide w)

  pub word_next : (w : ℕ) → zeros_up_to ws (w + 1) ≡ zeros_up_to ws w + ones (zero_bits ws w)
  word_next w = mark_word-ones (gap b) (gap-small b) w ∙ ap (λ (x : ℕ). zeros_up_to ws w + ones x) (sym (zero-marks w))

  ones-next : (w : ℕ) → sum_below b ((w + 1) * word_bits) ≡ sum_below b (w * word_bits) + ones (get_or ws w 0)
  ones-next w = mark_word-ones b (bit-small ws) w ∙ ap (λ (x : ℕ). sum_below b (w * word_bits) + ones x) (sym (ones-marked ws w (wide w) ∙ ap (λ (m : ℕ → ℕ). mark_word m w) (marks-one b)))

  -- the zeros of a word are what its ones leave
  word-left : (w : ℕ) → zeros_up_to ws (w + 1) + ones (get_or ws w 0) ≡ zeros_up_to ws w + 64
  word-left w = omega (arith, ones-next w, ones-zeros b (bit-small ws) ((w + 1) * word_bits), ones-zeros b (bit-small ws) (w * word_bits))

  pub ones-most : (w : ℕ) → ones (get_or ws w 0) ≤ 64
  ones-most w = ones-le word_bits (get_or ws w 0) (wide w)

  pub four-next : (w : ℕ) → zeros_up_to ws (w + 4) + (ones (get_or ws w 0) + ones (get_or ws (w + 1) 0) + ones (get_or ws (w + 2) 0) + ones (get_or ws (w + 3) 0)) ≡ zeros_up_to ws w + 256
  four-next w =
      let one : zeros_up_to ws (w + 1 + 1) ≡ zeros_up_to ws (w + 2) = ap (zeros_up_to ws) (omega arith) in
      let two : zeros_up_to ws (w + 2 + 1) ≡ zeros_up_to ws (w + 3) = ap (zeros_up_to ws) (omega arith) in
      let three : zeros_up_to ws (w + 3 + 1) ≡ zeros_up_to ws (w + 4) = ap (zeros_up_to ws) (omega arith) in
      omega (arith, one, two, three, word-left w, word-left (w + 1), word-left (w + 2), word-left (w + 3))

  -- a digit of the zeros of a word, and how many stand before a place
  digit-gap : (w t : ℕ) → t < word_bits → digit (zero_bits ws w) t ≡ gap b (w * word_bits + t)
  digit-gap w t l = ap (λ (x : ℕ). digit x t) (zero-marks w) ∙ mark_word-digit (gap b) (gap-small b) w t l

  zeros-below : (w r : ℕ) → r ≤ word_bits → zeros_before b (w * word_bits + r) ≡ zeros_up_to ws w + ones (zero_bits ws w % 2 ^ r)
  zeros-below w r h =
      below (gap b) (gap-small b) w r h
      ∙ ap (λ (x : ℕ). zeros_up_to ws w + x) (ap (λ (x : ℕ). sum_below (digit x) r) (sym (zero-marks w)) ∙ ones_low (zero_bits ws w) r)

  module _ (w j rest : ℕ) (t : Taken (zero_bits ws w) j rest) where
    pub zero_in : (k : ℕ) → zeros_up_to ws w + j ≡ k + 1 → ZeroAt ws k (w * word_bits + t.place)
    zero_in k sum = record {
      before = omega (arith, zeros-below w t.place (omega (arith, t.inside)), t.before, sum);
      there = sym (digit-gap w t.place t.inside) ∙ t.one;
    }

    upto : ones (zero_bits ws w % 2 ^ suc t.place) ≡ j
    upto = omega (arith, ones_step (zero_bits ws w) t.place, t.one, t.before)

    -- the next zero stands in the word
    module _ (more : ℕ) (is : more ≡ bit_and rest (rest - 1)) where
      left_over : more ≡ above (zero_bits ws w) (suc t.place)
      left_over = is ∙ t.next

      next-turn : (more ≡ 0 → ⊥) → Turn (zero_bits ws w) (suc t.place) more
      next-turn much = turn (zero_bits ws w) (suc t.place) more left_over much (omega (arith, left_over, above_wide (zero_bits ws w) (suc t.place) (word_wide w)))

      pub next-in : (k : ℕ) → zeros_up_to ws w + j ≡ k → (more ≡ 0 → ⊥) → ZeroAt ws k (w * word_bits + count_trailing_zeros word_bits more) × (t.place < count_trailing_zeros word_bits more) × (count_trailing_zeros word_bits more < word_bits)
      next-in k sum much =
          let u = next-turn much in
          let at : w * word_bits + u.place ≡ w * word_bits + count_trailing_zeros word_bits more = ap (λ (x : ℕ). w * word_bits + x) (sym u.is-lowest) in (
            record {
              before = ap (zeros_before b) (sym at) ∙ omega (arith, zeros-below w u.place (omega (arith, u.inside)), ones-flat (zero_bits ws w) u.place (suc t.place) u.from u.none, upto, sum);
              there = ap (gap b) (sym at) ∙ sym (digit-gap w u.place u.inside) ∙ u.one;
            },
            omega (arith, u.is-lowest, u.from),
            omega (arith, u.is-lowest, u.inside),
          )

      -- the word has no more
      none_more : more ≡ 0 → zeros_up_to ws (w + 1) ≡ zeros_up_to ws w + j
      none_more gone =
          let flat = ones-flat (zero_bits ws w) word_bits (suc t.place) t.inside (λ i l u. above-end (zero_bits ws w) (suc t.place) i (sym left_over ∙ gone) l) in
          omega (arith, word_next w, flat, ap ones (mod-eq_of_lt (word_wide w)), upto)

      pub next-beyond : (whole k v : ℕ) → zeros_up_to ws w + j ≡ k → more ≡ 0 → HasZero ws whole (w + 1) v → ZeroAt ws k (v * word_bits + count_trailing_zeros word_bits (zero_bits ws v)) × (count_trailing_zeros word_bits (zero_bits ws v) < word_bits)
      next-beyond whole k v sum gone h =
          let x : ℕ = zero_bits ws v in
          let u = turn x 0 x (above-all x) h.some (word_wide v) in
          let at : v * word_bits + u.place ≡ v * word_bits + count_trailing_zeros word_bits x = ap (λ (y : ℕ). v * word_bits + y) (sym u.is-lowest) in (
            record {
              before = ap (zeros_before b) (sym at) ∙ omega (arith, zeros-below v u.place (omega (arith, u.inside)), ones-flat x u.place 0 u.from u.none, ones-few x 0, none_more gone, h.same, sum);
              there = ap (gap b) (sym at) ∙ sym (digit-gap v u.place u.inside) ∙ u.one;
            },
            omega (arith, u.is-lowest, u.inside),
          )

  -- the child of node k + 1 by its zero and the next
  pub level-rule : (ls : List ℕ) (len k p n a : ℕ) → ZeroAt ws k p → ZeroAt ws (k + 1) n → p < n → n < len
      → child_by ls b len (k + 1) a ≡ lowest_by ls (k + 1) (n - (k + 1) - (p + 1 - (k + 1))) (p + 1 - (k + 1) + 1) a
  level-rule ls len k p n a here next ahead inside =
      let own : zero_at b len (k + 1) ≡ Some p = kth-at (gap b) len p (k + 1) (omega (arith, ahead, inside)) (omega (arith, here.before)) (omega (arith, here.before, here.there)) in
      let then : zero_at b len (k + 1 + 1) ≡ Some n = kth-at (gap b) len n (k + 1 + 1) inside (omega (arith, next.before)) (omega (arith, next.before, next.there)) in
      let end : unwrap_or (zero_at b len (k + 1 + 1)) len ≡ n = ap (λ (o : Option ℕ). unwrap_or o len) then in
      let few : k ≤ p = omega (arith, here.before, ones-zeros b (bit-small ws) p) in
      let first : p + 1 - (k + 1 - 1) ≡ p + 1 - (k + 1) + 1 = omega (arith, few) in
      let count : n - (p + 1) ≡ n - (k + 1) - (p + 1 - (k + 1)) = omega (arith, few) in
      child_by-run ls b len (k + 1) a (p + 1 - (k + 1 - 1)) (unwrap_or (zero_at b len (k + 1 + 1)) len - (p + 1)) (children-at b (bit-small ws) len (k + 1) p own)
      ∙ ap₂ (λ (x y : ℕ). lowest_by ls (k + 1) x y a) (ap (λ (x : ℕ). x - (p + 1)) end ∙ count) first

  -- a word of ones has no zero
  pub none-next : (w : ℕ) → zero_bits ws w ≡ 0 → zeros_up_to ws (w + 1) ≡ zeros_up_to ws w
  none-next w gone = word_next w ∙ ap (λ (x : ℕ). zeros_up_to ws w + ones x) gone ∙ omega (arith, no_ones)

  -- the sum up to the end of the last byte is all of them
  pub all-zeros : (w sums : ℕ) → sums ≡ byte_ranks (zero_bits ws w) → sums / 2 ^ 56 ≡ ones (zero_bits ws w)
  all-zeros w sums is =
      let x : ℕ = zero_bits ws w in
      let small : (i : ℕ) → i < 8 → ranked 8 x (i + 1) < 2 ^ 8 = λ i l. omega (arith, ones-few x (8 * (i + 1))) in
      let field : byte_ranks x / 2 ^ 56 % 2 ^ 8 ≡ ranked 8 x 8 = joined-field 8 (λ i. ranked 8 x (i + 1)) 8 7 small (lit< tt) in
      let all : byte_ranks x < 2 ^ word_bits = joined-lt 8 (λ i. ranked 8 x (i + 1)) 8 small in
      let own : ranked 8 x 8 ≡ ones x = ap ones (mod-eq_of_lt (word_wide w)) in
      ap (λ (s : ℕ). s / 2 ^ 56) is ∙ omega (arith, field, all, own)

  -- ---- passing

  pub four-passed : (first k w left ones-there : ℕ) → PassedFrom ws first k (record { words = w; left = left })
      → ones-there ≡ ones (get_or ws w 0) + ones (get_or ws (w + 1) 0) + ones (get_or ws (w + 2) 0) + ones (get_or ws (w + 3) 0) → ones-there ≤ 256 → 256 - ones-there < left
      → PassedFrom ws first k (record { words = w + 4; left = left - (256 - ones-there) })
  four-passed first k w left there p is few l = record {
    sum = omega (arith, p.sum, four-next w, is, few, l);
    some = λ h. omega (arith, l);
  }

  -- a word with fewer zeros than are left is passed, and another has the zero
  module _ (whole first k w left sums zeros : ℕ) (p : PassedFrom ws first k (record { words = w; left = left })) (is : sums ≡ byte_ranks (zero_bits ws w)) (all : zeros ≡ sums / 2 ^ 56) where
    pub one-passed : zeros < left → PassedFrom ws first k (record { words = w + 1; left = left - zeros })
    one-passed l = record { sum = omega (arith, p.sum, all, all-zeros w sums is, word_next w, l); some = λ h. omega (arith, l) }

    pub one-found : w < whole → left ≤ zeros → Ready ws whole first k (Some (record { words = w + 1; left = left; zeros = zeros; sums = sums }))
    one-found inside enough h =
        let same : zero_bits ws w ≡ zero_bits ws (w + 1 - 1) = ap (zero_bits ws) (omega arith) in
        let up : zeros_up_to ws w ≡ zeros_up_to ws (w + 1 - 1) = ap (zeros_up_to ws) (omega arith) in
        record {
          kept = omega arith;
          inside = omega (arith, inside);
          sum = omega (arith, p.sum, up);
          some = p.some h;
          enough = enough;
          own = record { all = all ∙ all-zeros w sums is ∙ ap ones same; by_byte = is ∙ ap byte_ranks same };
        }

pub ready-through : (ws : List ℕ) (whole first k : ℕ) (p : Passed) (r : Option Kept) → PassedFrom ws first k p → Ready ws whole p.words p.left r → Ready ws whole first k r
ready-through ws whole first k p None f g h = tt
ready-through ws whole first k p (Some r) f g h =
    let o = g (f.some h) in
    record { kept = o.kept; inside = o.inside; sum = f.sum ∙ o.sum; some = o.some; enough = o.enough; own = o.own }

-- ---- a walk by whole words

-- the word kept is the last of k.words, or none is: k.left of the zeros from its start on, or from bit 0 on, reach the node's
pub record Keeping (ws : List ℕ) (whole node : ℕ) (k : Kept) : Type 0 where
  pub sum : zeros_up_to ws (k.words - 1) + k.left ≡ node
  pub some : 0 < k.left
  pub start : k.words ≡ 0 → k.zeros ≡ 0
  pub own : 0 < k.words → (k.words ≤ whole) × OwnSums ws (k.words - 1) k.zeros k.sums

-- and it has the node's zero
pub record Settled (ws : List ℕ) (whole node : ℕ) (k : Kept) : Type 0 where
  pub kept : 0 < k.words
  pub inside : k.words ≤ whole
  pub sum : zeros_up_to ws (k.words - 1) + k.left ≡ node
  pub some : 0 < k.left
  pub enough : k.left ≤ k.zeros
  pub own : OwnSums ws (k.words - 1) k.zeros k.sums

pub keeping_start : (ws : List ℕ) (whole : ℕ) → Keeping ws whole 1 (record { words = 0; left = 1; zeros = 0; sums = 0 })
keeping_start ws whole = record { sum = ap (λ (x : ℕ). x + 1) (sum_below-zero (gap (bit ws))); some = omega arith; start = λ e. refl; own = λ h. absurd (omega (arith, h)) }

pub keeping-next : (ws : List ℕ) (whole node m : ℕ) (k : Kept) → Settled ws whole node k → node ≤ m → Keeping ws whole m (record { words = k.words; left = k.left + (m - node); zeros = k.zeros; sums = k.sums })
keeping-next ws whole node m k s l =
    record { sum = omega (arith, s.sum, l); some = omega (arith, s.some); start = λ e. absurd (omega (arith, e, s.kept)); own = λ h. (s.inside, s.own) }

pub settled-keeping : (ws : List ℕ) (whole node : ℕ) (k : Kept) → Settled ws whole node k → Keeping ws whole node k
settled-keeping ws whole node k s = record { sum = s.sum; some = s.some; start = λ e. absurd (omega (arith, e, s.kept)); own = λ h. (s.inside, s.own) }

-- the stand at the node, from there on
pub keeping-stand : (ws : List ℕ) (whole node len : ℕ) (k : Kept) → Keeping ws whole node k → stand_near (bit ws) len node k.words k.left ≡ stand_at (bit ws) len node
keeping-stand ws whole node len k h =
    let z : zero_from (bit ws) len ((k.words - 1) * word_bits) k.left ≡ zero_at (bit ws) len node = zero-near (bit ws) len ((k.words - 1) * word_bits) k.left node h.some h.sum in
    λ x. record { node = node; zero = unwrap_or (z x) len }

module _ (ws : List ℕ) (wide : (i : ℕ) → get_or ws i 0 < 2 ^ word_bits) (whole node : ℕ) (k : Kept) where
  -- the zeros before the next word
  zeros-passed : Keeping ws whole node k → zeros_up_to ws k.words + k.left ≡ node + k.zeros
  zeros-passed h = at (dec_le 1 k.words)
    where
      at : Dec (1 ≤ k.words) → zeros_up_to ws k.words + k.left ≡ node + k.zeros
      at (yes l) =
          let up : zeros_up_to ws (k.words - 1 + 1) ≡ zeros_up_to ws k.words = ap (zeros_up_to ws) (omega (arith, l)) in
          omega (arith, up, word_next ws wide (k.words - 1), h.sum, (h.own l).1.all)
      at (no l) =
          let none_kept : k.words ≡ 0 = omega arith in
          let same : zeros_up_to ws (k.words - 1) ≡ zeros_up_to ws k.words = ap (zeros_up_to ws) (omega arith) in
          omega (arith, same, h.sum, h.start none_kept)

  pub settled-found : (r : Kept) → Keeping ws whole node k → k.zeros < k.left → Found ws whole k.words (k.left - k.zeros) r → Settled ws whole node r
  settled-found r h l o = record { kept = o.kept; inside = o.inside; sum = omega (arith, o.sum, zeros-passed h, l); some = o.some; enough = o.enough; own = o.own }

  pub settled-kept : Keeping ws whole node k → k.left ≤ k.zeros → Settled ws whole node k
  settled-kept h l = at (dec_le 1 k.words)
    where
      at : Dec (1 ≤ k.words) → Settled ws whole node k
      at (yes m) = let o = h.own m in record { kept = m; inside = o.0; sum = h.sum; some = h.some; enough = l; own = o.1 }
      at (no m) = let none_kept : k.words ≡ 0 = omega arith in absurd (omega (arith, h.some, l, h.start none_kept))

  module _ (s : Settled ws whole node k) (rest : ℕ) (is : rest ≡ ones_from (zero_bits ws (k.words - 1)) k.sums k.left) where
    pub own-taken : Taken (zero_bits ws (k.words - 1)) k.left rest
    own-taken =
        subst (Taken (zero_bits ws (k.words - 1)) k.left) (sym is)
        (taken (zero_bits ws (k.words - 1)) k.left k.sums (word_wide ws wide (k.words - 1)) s.some (omega (arith, s.enough, s.own.all)) s.own.by_byte)

    -- where the node's zero is
    abbrev pub zero-place : ℕ
    zero-place = (k.words - 1) * word_bits + own-taken.place

    pub record Stood : Type 0 where
      pub lowest : count_trailing_zeros word_bits rest ≡ own-taken.place
      pub near : own-taken.place < word_bits
      pub some : rest ≡ 0 → ⊥
      pub zero : ZeroAt ws (node - 1) zero-place
      pub one : 1 ≤ node
      pub few : node ≤ zero-place + 1
      pub upto : node ≤ k.words * word_bits

    pub stood : Stood
    stood =
        let z = zero_in ws wide (k.words - 1) k.left rest own-taken (node - 1) (omega (arith, s.sum, s.some)) in
        let few-zeros : zeros_before (bit ws) zero-place ≤ zero-place = omega (arith, ones-zeros (bit ws) (bit-small ws) zero-place) in
        record {
          lowest = own-taken.lowest;
          near = own-taken.inside;
          some = own-taken.some;
          zero = z;
          one = omega (arith, s.sum, s.some);
          few = omega (arith, z.before, few-zeros);
          upto = omega (arith, z.before, few-zeros, own-taken.inside, s.kept);
        }

    -- the next zero, with `to` ones before it
    pub record NextAt (to : ℕ) : Type 0 where
      pub place : ℕ
      pub zero : ZeroAt ws node place
      pub inside : place < whole * word_bits
      pub few : node ≤ place
      pub ones : to ≡ place - node

    at_most : (n : ℕ) → ZeroAt ws node n → node ≤ n
    at_most n z = omega (arith, z.before, ones-zeros (bit ws) (bit-small ws) n)

    module _ (more : ℕ) (left-of : more ≡ bit_and rest (rest - 1)) where
      pub ahead_in : (more ≡ 0 → ⊥) → NextAt (k.words * word_bits - node + count_trailing_zeros word_bits more - 64) × (count_trailing_zeros word_bits more < word_bits) × (node ≤ (k.words - 1) * word_bits + count_trailing_zeros word_bits more)
      ahead_in much =
          let z = next-in ws wide (k.words - 1) k.left rest own-taken more left-of node s.sum much in
          let u : ℕ = count_trailing_zeros word_bits more in
          let least = at_most ((k.words - 1) * word_bits + u) z.0 in (
            record {
              place = (k.words - 1) * word_bits + u;
              zero = z.0;
              inside = omega (arith, z.2, s.inside, s.kept);
              few = least;
              ones = omega (arith, least, s.kept, stood.upto);
            },
            z.2,
            least,
          )

      pub ahead-beyond : (v : ℕ) → more ≡ 0 → HasZero ws whole k.words v → NextAt (v * word_bits + count_trailing_zeros word_bits (zero_bits ws v) - node) × (count_trailing_zeros word_bits (zero_bits ws v) < word_bits) × (node ≤ v * word_bits + count_trailing_zeros word_bits (zero_bits ws v))
      ahead-beyond v gone f =
          let same : k.words - 1 + 1 ≡ k.words = omega (arith, s.kept) in
          let z = next-beyond ws wide (k.words - 1) k.left rest own-taken more left-of whole node v s.sum gone (subst (λ (x : ℕ). HasZero ws whole x v) (sym same) f) in
          let u : ℕ = count_trailing_zeros word_bits (zero_bits ws v) in
          let least = at_most (v * word_bits + u) z.0 in
          (record { place = v * word_bits + u; zero = z.0; inside = omega (arith, z.1, f.inside); few = least; ones = refl }, z.1, least)

    -- the child, by both
    pub child-rule-far : (ls : List ℕ) (len a from to : ℕ) → whole * word_bits ≤ len → from ≡ zero-place + 1 - node → NextAt to
        → child_by ls (bit ws) len node a ≡ lowest_by ls node (to - from) (from + 1) a
    child-rule-far ls len a from to inside begins n =
        let one : node - 1 + 1 ≡ node = omega (arith, stood.one) in
        let next : ZeroAt ws (node - 1 + 1) n.place = subst (λ (x : ℕ). ZeroAt ws x n.place) (sym one) n.zero in
        let behind : zero-place < n.place = sum_below-lt (gap (bit ws)) zero-place n.place (omega (arith, stood.zero.before, n.zero.before, stood.one)) in
        subst (λ (x : ℕ). child_by ls (bit ws) len x a ≡ lowest_by ls x (n.place - x - (zero-place + 1 - x)) (zero-place + 1 - x + 1) a) one
        (level-rule ws wide ls len (node - 1) zero-place n.place a stood.zero next behind (omega (arith, n.inside, inside)))
        ∙ ap₂ (λ (x y : ℕ). lowest_by ls node (x - y) (y + 1) a) (sym n.ones) (sym begins)

pub zeros-most : (ws : List ℕ) (w : ℕ) → ((i : ℕ) → get_or ws i 0 < 2 ^ word_bits) → ones (zero_bits ws w) ≤ 64
zeros-most ws w wide = ones-le word_bits (zero_bits ws w) (word_wide ws wide w)

-- a walk that went so far ends where the rule does
pub gone-rule : (ls ws : List ℕ) (len : ℕ) (q : Key) (node steps kept left : ℕ) → walked ls (bit ws) len q ≡ walked_from ls (bit ws) len (drop steps q) (Some node)
    → stand_near (bit ws) len node kept left ≡ stand_at (bit ws) len node
    → went_on ls (bit ws) len q (Some (record { node = node; steps = steps; kept = kept; left = left })) ≡ reached_at (bit ws) len (walked ls (bit ws) len q)
gone-rule ls ws len q node steps kept left walk stand =
    ap (λ (s : Stand). down_along ls (bit ws) len (drop steps q) (Some s)) stand
    ∙ along-rule (bit ws) (bit-small ws) len ls (drop steps q) (Some node)
    ∙ sym (ap (reached_at (bit ws) len) walk)

-- a word that begins behind the end has no zero of the bits
pub near-beyond : (ws : List ℕ) (len node kept left : ℕ) → len ≤ (kept - 1) * word_bits → stand_near (bit ws) len node kept left ≡ record { node = node; zero = len }
near-beyond ws len node kept left far =
    let from : ℕ = (kept - 1) * word_bits in
    let z : zero_from (bit ws) len from left ≡ None = kth-bare (onward from (gap (bit ws))) len left (λ i l. onward-before (gap (bit ws)) from i (omega (arith, l, far))) in
    let e : unwrap_or (zero_from (bit ws) len from left) len ≡ len = ap (λ (o : Option ℕ). unwrap_or o len) z in
    λ x. record { node = node; zero = e x }
