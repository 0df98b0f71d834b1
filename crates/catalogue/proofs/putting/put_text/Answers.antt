-- `catalogue::putting::put_text` meets its contract: the text is copied over its part of the buffer. Assumes nothing.
use native.Mathlib.Omega.{arith}
use Rattle.lines.proofs.Laws.Writing.{put_mid-over}
use Rattle.catalogue.proofs.putting.put_text.Goals as goal

pub returns-clause-left : goal.returns-clause-left
returns-clause-left c = put_mid-over _ _ _ _ _ c.copy_from_slice.ensures.after (omega arith)
