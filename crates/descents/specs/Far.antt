-- What the passing of whole words finds, on any words and numbers.
--
--     Wide           no word is wider than 64 bits
--     zeros_up_to    the zeros before word w
--     zero_bits      the zeros of word w, as ones of a number
--     PassedFrom     words are passed, with as many zeros as are no longer left
--     Ready          a word that has the k-th zero from a word on, with its sums
--     ZeroWord       the first word from one on that has a zero
--     stand_near     a node with a zero that is counted from the start of a word on
--     went_on        where a walk ends that whole words took so far, and `ended_at`: the stand that its end stands for
-- Assumes nothing.
use Rattle.std.specs.Prelude.{◌≡◌, ℕ, ◌+◌, ◌-◌, ◌*◌, ◌%◌, ◌^◌, ◌≤◌, ◌<◌, List, get_or, drop, IfSome, None, Option, Some, unwrap_or}
use Rattle.std.specs.Int.Count.{ones}
use Rattle.keymap.specs.Key.{Key}
use Rattle.keymap.specs.Limits.{word_bits}
use Rattle.keymap.specs.Bits.{bit, sum_below}
use Rattle.louds.specs.Digits.{complement}
use Rattle.louds.specs.Rank.{zeros_before}
use Rattle.louds.specs.Select.{zero_from}
use Rattle.descents.specs.declared.far.Passed.{Passed}
use Rattle.descents.specs.declared.far.Kept.{Kept}
use Rattle.descents.specs.declared.far.Headway.{Headway}
use Rattle.walks.specs.declared.stands.Stand.{Stand}
use Rattle.descents.specs.declared.queries.Ended.{Ended}
use Rattle.descents.specs.declared.queries.Ended.TheVariants.{Near, At}
use Rattle.walks.specs.Stands.{down_along}

abbrev pub Wide : List ℕ → Type 0
Wide ws = (i : ℕ) → get_or ws i 0 < 2 ^ word_bits

abbrev pub zeros_up_to : List ℕ → ℕ → ℕ
zeros_up_to ws w = zeros_before (bit ws) (w * word_bits)

abbrev pub zero_bits : List ℕ → ℕ → ℕ
zero_bits ws w = complement (get_or ws w 0)

pub record PassedFrom (ws : List ℕ) (first k : ℕ) (r : Passed) : Type 0 where
  pub sum : zeros_up_to ws first + k ≡ zeros_up_to ws r.words + r.left
  pub some : 0 < k → 0 < r.left

-- word w, whose zeros and sums are known
pub record OwnSums (ws : List ℕ) (w count sums : ℕ) : Type 0 where
  pub all : count ≡ ones (zero_bits ws w)
  pub by_byte : sums ≡ sum_below (λ i. ones (zero_bits ws w % 2 ^ (8 * (i + 1))) * 2 ^ (8 * i)) 8

pub record Found (ws : List ℕ) (whole first k : ℕ) (r : Kept) : Type 0 where
  pub kept : 0 < r.words
  pub inside : r.words ≤ whole
  pub sum : zeros_up_to ws first + k ≡ zeros_up_to ws (r.words - 1) + r.left
  pub some : 0 < r.left
  pub enough : r.left ≤ r.zeros
  pub own : OwnSums ws (r.words - 1) r.zeros r.sums

abbrev pub Ready : List ℕ → ℕ → ℕ → ℕ → Option Kept → Type 0
Ready ws whole first k r = 0 < k → IfSome r (Found ws whole first k)

pub record HasZero (ws : List ℕ) (whole first w : ℕ) : Type 0 where
  pub inside : w < whole
  pub behind : first ≤ w
  pub same : zeros_up_to ws w ≡ zeros_up_to ws first
  pub some : zero_bits ws w ≡ 0 → ⊥

abbrev pub ZeroWord : List ℕ → ℕ → ℕ → Option ℕ → Type 0
ZeroWord ws whole first r = IfSome r (HasZero ws whole first)

-- a node, and the place of the zero that is the `left`-th from the start of word kept-1 on, or of word 0 where `kept`
-- is 0
abbrev pub stand_near : (ℕ → ℕ) → ℕ → ℕ → ℕ → ℕ → Stand
stand_near b len node kept left =
    record { node = node; zero = unwrap_or (zero_from b len ((kept - 1) * word_bits) left) len }

abbrev pub went_on : List ℕ → (ℕ → ℕ) → ℕ → Key → Option Headway → Option Stand
went_on ls b len q None = None
went_on ls b len q (Some g) =
    down_along ls b len (drop g.steps q) (Some (stand_near b len g.node g.kept g.left))

abbrev pub ended_at : (ℕ → ℕ) → ℕ → Option Ended → Option Stand
ended_at b len None = None
ended_at b len (Some (Near node kept left)) = Some (stand_near b len node kept left)
ended_at b len (Some (At s)) = Some s
