-- What records spell: the labels on the way from one record down to another.
--
--     ChildBy       a record is the child of another with a label
--     Spells        some bytes are the labels on the way from a record down to another
--     Stops         the first of some bytes leads nowhere from a record
--     record_path   the labels on the way from the root down to a record, by climbing
--     Climbs        a record reaches the root through parents in use
-- Assumes nothing.
use Rattle.std.specs.Prelude.{ℕ, zero, suc, ◌≡◌, cond, List, [], ◌∷◌, ◌++◌, eqb}
use Rattle.keymap.specs.Key.{Key}
use Rattle.records.specs.Words.{Pool, label, parent, last_record, InUse}
use Rattle.records.specs.Sound.{Among, Chain}

abbrev pub ChildBy : Pool → (i b x : ℕ) → Type 0
ChildBy p i b x = InUse p x × (parent p x ≡ i) × (label p x ≡ b)

abbrev pub Spells : Pool → ℕ → Key → ℕ → Type 0
Spells p i [] c = i ≡ c
Spells p i (b ∷ bs) c = (x : ℕ) × ChildBy p i b x × Spells p x bs c

abbrev pub Stops : Pool → ℕ → Key → Type 0
Stops p c [] = Unit {0}
Stops p c (b ∷ bs) = (x : ℕ) → ChildBy p c b x → ⊥

-- within f steps up
unfoldable pub path_up : ℕ → Pool → ℕ → Key
path_up zero p c = []
path_up (suc f) p c = cond (eqb c 0) [] (path_up f p (parent p c) ++ (label p c ∷ []))

unfoldable pub record_path : Pool → ℕ → Key
record_path p c = path_up (last_record p) p c

pub record Climbs (p : Pool) (c : ℕ) : Type 0 where
  pub up : List ℕ
  pub chain : Chain (parent p) c up
  pub used : (x : ℕ) → Among x up → InUse p x
