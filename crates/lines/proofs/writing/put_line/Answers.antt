-- `lines::writing::put_line` meets its contract: each part is put right behind those before it. Assumes nothing.
use mathlib.Core.Path.{◌≡◌, refl, ap, ◌∙◌, sym}
use mathlib.Core.List.{List, [], ◌∷◌, ◌++◌, append_assoc, append-nil}
use Prim.Native.Nat.{ℕ, ◌+◌, ◌-◌, ◌≤◌}
use native.Mathlib.Omega.{arith}
use lib.ListN.{length, drop, set, length-append, drop_of_length-le}
use borrow.Rule.Slice.PartMut.{put_mid}
use Rattle.keymap.specs.Buffers.{over}
use Rattle.lines.specs.Bytes.{tab, line_feed}
use Rattle.lines.specs.Decimal.{decimal}
use Rattle.lines.specs.Writing.{tab_line, tab_text}
use Rattle.keymap.proofs.Laws.Buffers.{over-set, over-behind}
use Rattle.lines.proofs.Laws.Writing.{put_mid-over}
use Rattle.lines.proofs.writing.put_line.Goals as goal

fronted : (front s out : List ℕ) → front ≡ s → front ++ drop (length s) out ≡ over s out
unfolding over
fronted front s out p = rw p

put : (key keyed digits out : List ℕ) (n k : ℕ) → k ≡ length (decimal n) → length key + k + 2 ≤ length out → keyed ≡ key → digits ≡ decimal n
    → set (put_mid (length key + 1) (length key + 1 + k - (length key + 1)) (set (keyed ++ drop (length key) out) (length key) tab) digits) (length key + 1 + k) line_feed
    ≡ over (tab_text (key, n)) out
unfolding tab_text tab_line
put key keyed digits out n k e h p q =
    let tabbed : set (keyed ++ drop (length key) out) (length key) tab ≡ over (key ++ (tab ∷ [])) out =
    ap (λ (t : List ℕ). set t (length key) tab) (fronted keyed key out p) ∙ over-set key out (length key) tab refl (omega arith) in
    let wide : length (key ++ (tab ∷ [])) ≡ length key + 1 = length-append key (tab ∷ []) in
    let numbered =
    put_mid-over (length key + 1) (length key + 1 + k - (length key + 1)) (set (keyed ++ drop (length key) out) (length key) tab) digits (decimal n) q (omega arith)
    ∙ rw tabbed (over-behind (key ++ (tab ∷ [])) (decimal n) out (length key + 1) wide) in
    let whole : length ((key ++ (tab ∷ [])) ++ decimal n) ≡ length key + 1 + k = length-append (key ++ (tab ∷ [])) (decimal n) ∙ omega arith in
    ap (λ (o : List ℕ). set o (length key + 1 + k) line_feed) numbered
    ∙ over-set ((key ++ (tab ∷ [])) ++ decimal n) out (length key + 1 + k) line_feed (sym whole) (omega arith)
    ∙ ap (λ (t : List ℕ). over (t ++ (line_feed ∷ [])) out) (append_assoc key (tab ∷ []) (decimal n))

-- digits put over as many bytes are all of these
filled : (digits part : List ℕ) → length part ≤ length digits → over digits part ≡ digits
unfolding over
filled digits part h = ap (λ (t : List ℕ). digits ++ t) (drop_of_length-le part {i = length digits} h) ∙ append-nil digits

pub returns : goal.returns
returns c =
    let a = c.args in
    put a.key.now _ _ a.out.now a.number a.digits c.requires.counted c.requires.room c.copy_from_slice.ensures.after
    (c.put_decimal.ensures ∙ filled (decimal a.number) _ (omega (arith, c.requires.counted)))
