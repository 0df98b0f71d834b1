-- Laws of the lines of a text: the first is the stretch before the first LF, and the others are those of what stands behind that LF.
--
--     lines_of-ended         a line with its LF, put before a text, is one line more
--     lines_of-last          a last line needs no LF
--     lines_of-first         the first line of a text and the others
--     lines_of-free          no line has an LF
--     next-none              no line is left exactly where the rest has no lines
--     next-cuts              else the line cut and the lines of the text from the next one on are those of the rest
-- Assumes nothing.
use mathlib.Core.Path.{◌≡◌, refl, sym, ap, ◌∙◌}
use Prim.Native.Nat.{ℕ, suc, ◌+◌, ◌-◌, ◌≤◌, ◌<◌, min}
use mathlib.Core.Bool.{Bool, true, false}
use mathlib.Core.Logic.{◌↔◌, ⊎_elim}
use mathlib.Core.List.Memᴰ
use mathlib.Core.List.{List, [], ◌∷◌, ◌++◌}
use native.Mathlib.Nat.{add-suc}
use native.Mathlib.Omega.{arith}
use lib.ListN.{length, take, drop, length-drop, drop_of_length-le}
use lib.Seq.{drop-drop, drop-length, take_all, length-take-le}
use lib.Dec.{eqb, ltb, leb}
use borrow.Author.Tests.{ltb-true, ltb-false, leb-true, leb-false}
use Rattle.keymap.specs.Members.{In, here, there}
use Rattle.lines.specs.Bytes.{line_feed, holds, stretch}
use Rattle.lines.specs.Text.{in_first, lines_of, first_says, next_line_says}
use Rattle.lines.proofs.Laws.Bytes.{stretch-within, holds-stretch, stretch-split, holds-whole}

pub lines_of-ended : (l t : List ℕ) → holds line_feed l ≡ false → lines_of (l ++ (line_feed ∷ t)) ≡ l ∷ lines_of t
unfolding lines_of holds
lines_of-ended [] t h = refl
lines_of-ended (b ∷ l) t h = go (eqb b line_feed) refl (lines_of-ended l t)
  where
    go : (c : Bool) → eqb b line_feed ≡ c → (holds line_feed l ≡ false → lines_of (l ++ (line_feed ∷ t)) ≡ l ∷ lines_of t) → lines_of ((b ∷ l) ++ (line_feed ∷ t)) ≡ (b ∷ l) ∷ lines_of t
    go true e ih = absurd (let k : true ≡ false = rw e at h in let z : ◌≡◌ {A = ℕ} 0 1 = cc in omega arith)
    go false e ih = rw (e, ih (rw e at h))

pub lines_of-last : (l : List ℕ) → 1 ≤ length l → holds line_feed l ≡ false → lines_of l ≡ l ∷ []
unfolding lines_of holds
lines_of-last [] n h = absurd (omega arith)
lines_of-last (b ∷ []) n h = go (eqb b line_feed) refl
  where
    go : (c : Bool) → eqb b line_feed ≡ c → lines_of (b ∷ []) ≡ (b ∷ []) ∷ []
    go true e = absurd (let k : true ≡ false = rw e at h in let z : ◌≡◌ {A = ℕ} 0 1 = cc in omega arith)
    go false e = rw e
lines_of-last (b ∷ a ∷ l) n h = go (eqb b line_feed) refl (lines_of-last (a ∷ l) (omega arith))
  where
    go : (c : Bool) → eqb b line_feed ≡ c → (holds line_feed (a ∷ l) ≡ false → lines_of (a ∷ l) ≡ (a ∷ l) ∷ []) → lines_of (b ∷ a ∷ l) ≡ (b ∷ a ∷ l) ∷ []
    go true e ih = absurd (let k : true ≡ false = rw e at h in let z : ◌≡◌ {A = ℕ} 0 1 = cc in omega arith)
    go false e ih = rw e (ap (in_first b) (ih (rw e at h)))

pub lines_of-first : (t : List ℕ) → 1 ≤ length t → lines_of t ≡ take (stretch line_feed t) t ∷ lines_of (drop (suc (stretch line_feed t)) t)
unfolding lines_of
lines_of-first t n = go (ltb (stretch line_feed t) (length t)) refl
  where
    go : (c : Bool) → ltb (stretch line_feed t) (length t) ≡ c → lines_of t ≡ take (stretch line_feed t) t ∷ lines_of (drop (suc (stretch line_feed t)) t)
    go true e =
        ap lines_of (stretch-split line_feed t (ltb-true _ _ e)) ∙ lines_of-ended (take (stretch line_feed t) t) (drop (suc (stretch line_feed t)) t) (holds-stretch line_feed t)
    go false e =
        let l : length t ≤ stretch line_feed t = ltb-false _ _ e in
        let past : length t ≤ suc (stretch line_feed t) = omega arith in
        lines_of-last t n (holds-whole line_feed t ∙ e) ∙ rw (take_all (stretch line_feed t) t l, drop_of_length-le t past)

pub lines_of-free : (t l : List ℕ) → In l (lines_of t) → holds line_feed l ≡ false
unfolding lines_of holds
lines_of-free [] l m = absurd (Memᴰ.not-nil m)
lines_of-free (b ∷ t) l m = go (eqb b line_feed) refl (lines_of-free t)
  where
    first : eqb b line_feed ≡ false → (ls : List (List ℕ)) → ((k : List ℕ) → In k ls → holds line_feed k ≡ false) → In l (in_first b ls) → holds line_feed l ≡ false
    first e [] ih m = ⊎_elim (λ q. ap (holds line_feed) q ∙ rw e) (λ k. absurd (Memᴰ.not-nil k)) (Memᴰ.cases_cons m)
    first e (k ∷ ls) ih m = ⊎_elim (λ q. ap (holds line_feed) q ∙ rw e (ih k (here refl))) (λ i. ih l (there i)) (Memᴰ.cases_cons m)

    go : (c : Bool) → eqb b line_feed ≡ c → ((k : List ℕ) → In k (lines_of t) → holds line_feed k ≡ false) → holds line_feed l ≡ false
    go true e ih =
        let n : In l ([] ∷ lines_of t) = rw e at m in
        ⊎_elim (λ q. ap (holds line_feed) q) (λ i. ih l i) (Memᴰ.cases_cons n)
    go false e ih = first e (lines_of t) ih (rw e at m)

pub next_past : (text : List ℕ) (at : ℕ) → length text ≤ at → next_line_says text at ≡ 0 ∷ []
unfolding next_line_says lines_of
next_past text at h = rw (drop_of_length-le text h)

pub next-at : (text : List ℕ) (at : ℕ) → at < length text
    → next_line_says text at ≡ 0 ∷ (at + stretch line_feed (drop at text)) ∷ min (suc (at + stretch line_feed (drop at text))) (length text) ∷ []
unfolding next_line_says
next-at text at h =
    rw (lines_of-first (drop at text) (simp length-drop (omega arith)), length-take-le (stretch line_feed (drop at text)) (drop at text) (stretch-within line_feed (drop at text)))

pub next-none : (text : List ℕ) (at : ℕ) → (next_line_says text at ≡ 0 ∷ []) ↔ (lines_of (drop at text) ≡ [])
unfolding next_line_says
next-none text at = go (lines_of (drop at text))
  where
    go : (ls : List (List ℕ)) → (first_says (length text) at ls ≡ 0 ∷ []) ↔ (ls ≡ [])
    go [] = (λ h. refl, λ h. refl)
    go (l ∷ ls) = (λ h. absurd (let z : ◌≡◌ {A = ℕ} 0 1 = cc in omega arith), λ h. absurd (let z : ◌≡◌ {A = ℕ} 0 1 = cc in omega arith))

pub record Cuts (text : List ℕ) (at end next : ℕ) : Type 0 where
  pub begins : at ≤ end
  pub ends : end ≤ next
  pub moves : at < next
  pub within : next ≤ length text
  pub lines : lines_of (drop at text) ≡ take (end - at) (drop at text) ∷ lines_of (drop next text)

drop_min : (t : List ℕ) (n : ℕ) → drop (min n (length t)) t ≡ drop n t
drop_min t n = go (leb n (length t)) refl
  where
    go : (b : Bool) → leb n (length t) ≡ b → drop (min n (length t)) t ≡ drop n t
    go true e = let l : n ≤ length t = leb-true n (length t) e in let m : min n (length t) ≡ n = omega arith in rw m
    go false e =
        let l : length t < n = leb-false n (length t) e in
        let m : min n (length t) ≡ length t = omega arith in
        let past : length t ≤ n = omega arith in
        rw (m, drop-length, drop_of_length-le t past)

pub next-cuts : (text : List ℕ) (at end next : ℕ) → next_line_says text at ≡ 0 ∷ end ∷ next ∷ [] → Cuts text at end next
next-cuts text at end next h = go (ltb at (length text)) refl
  where
    go : (b : Bool) → ltb at (length text) ≡ b → Cuts text at end next
    go false e = absurd (let k : 0 ∷ end ∷ next ∷ [] ≡ 0 ∷ [] = sym h ∙ next_past text at (ltb-false _ _ e) in let z : ◌≡◌ {A = ℕ} 0 1 = cc in omega arith)
    go true e =
        let l : at < length text = ltb-true _ _ e in
        let s : ℕ = stretch line_feed (drop at text) in
        let told : 0 ∷ end ∷ next ∷ [] ≡ 0 ∷ (at + s) ∷ min (suc (at + s)) (length text) ∷ [] = sym h ∙ next-at text at l in
        let p : end ≡ at + s = cc in
        let q : next ≡ min (suc (at + s)) (length text) = cc in
        let short : s ≤ length text - at = rw length-drop at (stretch-within line_feed (drop at text)) in
        let width : end - at ≡ s = omega arith in
        let behind : drop next text ≡ drop (suc s) (drop at text) = ap (λ (n : ℕ). drop n text) q ∙ drop_min text (suc (at + s)) ∙ rw (drop-drop (suc s) at text, ← add-suc at s) in
        record {
          begins = omega arith;
          ends = omega arith;
          moves = omega arith;
          within = omega arith;
          lines = rw (width, behind) (lines_of-first (drop at text) (simp length-drop (omega arith)));
        }
