-- The rule's steps as the code takes them: a stand knows the place of its node's zero, and the next zeros are looked
-- for from there on.
-- Any node number and any place may be handed in; proofs/Laws/Stands has that a stand which knows its zero gives what
-- the rule gives.
--
--     stand_at       a node with the place of its zero, or the end
--     is_stand       a place inside the bits that can be a node's zero
--     kids_from      the children of a stand: the first, how many, and the zero behind them
--     kid_from       the stand at a child
--     down_from      one step down, and `down_along`: all steps of a query
--     reached_at     the stand at the node where a walk ended
-- Assumes nothing.
use Rattle.std.specs.Prelude.{ℕ, ◌+◌, ◌-◌, Bool, cond, ◌&&◌, List, [], ◌∷◌, ltb, leb, Option, None, Some, unwrap_or}
use Rattle.keymap.specs.Key.{Key}
use Rattle.louds.specs.Select.{zero_at, zero_from}
use Rattle.walks.specs.declared.stands.Stand.{Stand}
use Rattle.walks.specs.declared.answers.Kids.{Kids}
use Rattle.walks.specs.Rule.{lowest_by}

abbrev pub stand_at : (ℕ → ℕ) → ℕ → ℕ → Stand
stand_at b len k = record { node = k; zero = unwrap_or (zero_at b len k) len }

-- k zeros can stand up to the place p and with it
unfoldable pub is_stand : ℕ → ℕ → ℕ → Bool
is_stand len k p = ltb p len && (leb 1 k && leb k (p + 1))

-- the first zero behind a place, or the end
abbrev pub next_zero : (ℕ → ℕ) → ℕ → ℕ → ℕ
next_zero b len p = unwrap_or (zero_from b len (p + 1) 1) len

unfoldable pub kids_from : (ℕ → ℕ) → ℕ → Stand → Kids
kids_from b len s =
    cond (is_stand len s.node s.zero)
    (record {
      first = s.zero + 1 - (s.node - 1);
      count = next_zero b len s.zero - (s.zero + 1);
      next = next_zero b len s.zero;
    })
    (record { first = 0; count = 0; next = len })

unfoldable pub kid_from : (ℕ → ℕ) → ℕ → ℕ → ℕ → ℕ → Stand
kid_from b len k next m = record { node = m; zero = unwrap_or (zero_from b len next (m - k)) len }

abbrev pub to_kid : (ℕ → ℕ) → ℕ → ℕ → ℕ → Option ℕ → Option Stand
to_kid b len k next None = None
to_kid b len k next (Some m) = Some (kid_from b len k next m)

unfoldable pub down_from : List ℕ → (ℕ → ℕ) → ℕ → Stand → ℕ → Option Stand
down_from ls b len s a =
    to_kid b len s.node (kids_from b len s).next
    (lowest_by ls s.node (kids_from b len s).count (kids_from b len s).first a)

-- from the stand where a walk is, if it is anywhere
abbrev pub then_down : List ℕ → (ℕ → ℕ) → ℕ → ℕ → Option Stand → Option Stand
then_down ls b len a None = None
then_down ls b len a (Some s) = down_from ls b len s a

unfoldable pub down_along : List ℕ → (ℕ → ℕ) → ℕ → Key → Option Stand → Option Stand
down_along ls b len [] at = at
down_along ls b len (a ∷ q) at = down_along ls b len q (then_down ls b len a at)

abbrev pub reached_at : (ℕ → ℕ) → ℕ → Option ℕ → Option Stand
reached_at b len None = None
reached_at b len (Some k) = Some (stand_at b len k)
