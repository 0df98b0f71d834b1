-- Laws of a file read piece by piece.
--
--     take-failed   a read that failed ends the reading
--     room-shrinks  a read that is wanted goes on or ends the reading, so that reading ends
-- Assumes nothing.
use Prim.Native.Nat.{ℕ, zero, suc, ◌+◌, ◌-◌, ◌<◌}
use mathlib.Core.Path.{◌≡◌, refl, ap}
use native.Mathlib.Omega.{arith}
use mathlib.Core.Bool.{Bool, true, false}
use lib.Dec.{ltb}
use Rattle.std.specs.Prelude.{Option, None, Some}
use Rattle.catalogue.specs.declared.reading.Reading.{Reading}
use Rattle.catalogue.specs.declared.reading.Stage.{Stage}
use Rattle.catalogue.specs.Reading.{file_room, after_read, take_read, next_at}

pub take-failed : (r : Reading) → r.stage ≡ Stage.Open → take_read r None ≡ record { done = r.done; stage = Stage.Failed }
take-failed r o = rw o

next-rises : (r : Reading) (read : Option ℕ) → next_at r < file_room → next_at r < next_at (take_read r read)
next-rises r read h = go r.stage refl
  where
    count : (n : ℕ) → r.done < file_room → (t : Bool) → ltb (r.done + suc n) file_room ≡ t → r.done < next_at (after_read r.done (Some (suc n)))
    count n l true e = rw e (omega arith)
    count n l false e = rw e l

    further : (o : Option ℕ) → r.done < file_room → r.done < next_at (after_read r.done o)
    further None l = l
    further (Some zero) l = l
    further (Some (suc k)) l = count k l (ltb (r.done + suc k) file_room) refl

    go : (s : Stage) → r.stage ≡ s → next_at r < next_at (take_read r read)
    go Stage.Open e = rw e (further read (rw e at h))
    go Stage.Whole e = absurd (let z : file_room < file_room = rw e at h in omega arith)
    go Stage.Failed e = absurd (let z : file_room < file_room = rw e at h in omega arith)

-- so what is left of the room shrinks
pub room-shrinks : (r s : Reading) (read : Option ℕ) (at next : ℕ) → at ≡ next_at r → at < file_room → s ≡ take_read r read → next ≡ next_at s → file_room - next < file_room - at
room-shrinks r s read at next e h t n = omega (arith, h, e, n, ap next_at t, next-rises r read (omega (arith, h, e)))
