-- The turns of the loop along a chain: after d of a record's children, the rest of the chain is the rest of its children, and putting the rest into the queue
-- and its ones into the words gives what was to be.
--
--     Queueing          what holds after d children, when record x comes next
--     queueing-first    it holds at the start
--     queueing-more     where a record comes next, a child is left
--     queueing-next     it holds of one more
--     queueing-last     where none comes next, all are put
-- Assumes nothing.
use Prim.Native.Nat.{ℕ, zero, suc, ◌+◌, ◌-◌, ◌≤◌, ◌<◌}
use mathlib.Core.Path.{◌≡◌, refl, sym, ap, ◌∙◌, subst}
use mathlib.Core.Logic.{⊎_elim}
use mathlib.Core.List.{List, ◌∷◌}
use native.Mathlib.Omega.{arith}
use native.Mathlib.Numerals.{add-one}
use lib.ListN.{length, get_or, drop, set, length-set, drop_of_length-le}
use lib.Seq.{drop-cons, sets}
use Rattle.records.specs.Sound.{Chain}
use Rattle.records.proofs.Laws.Distinct.{below_or_not}
use Rattle.louds.specs.Put.{with_one}
use Rattle.louds.proofs.Laws.Put.{length-with_one}
use Rattle.image.specs.Buffers.{with_run}

with_run-next : (ws : List ℕ) (p m : ℕ) → 0 < m → with_run ws p m ≡ with_run (with_one ws p) (p + 1) (m - 1)
unfolding with_run
with_run-next ws p zero h = absurd (omega arith)
with_run-next ws p (suc m) h =
    let e : m ≡ suc m - 1 = omega arith in
    ap (λ (k : ℕ). with_run (with_one ws p) k m) (sym (add-one p)) ∙ ap (with_run (with_one ws p) (p + 1)) e

with_run-none : (ws : List ℕ) (p m : ℕ) → m ≡ 0 → with_run ws p m ≡ ws
unfolding with_run
with_run-none ws p zero h = refl
with_run-none ws p (suc m) h = absurd (omega arith)

-- kids are the children, f the step along their chain
pub record Queueing (f : ℕ → ℕ) (kids words₀ queue₀ : List ℕ) (at tail : ℕ) (words queue : List ℕ) (d x : ℕ) : Type 0 where
  pub few : d ≤ length kids
  pub chain : Chain f x (drop d kids)
  pub words_long : length words ≡ length words₀
  pub queue_long : length queue ≡ length queue₀
  pub ones : with_run words₀ at (length kids) ≡ with_run words (at + d) (length kids - d)
  pub entries : sets queue₀ tail kids ≡ sets queue (tail + d) (drop d kids)

module _ (f : ℕ → ℕ) (kids words₀ queue₀ : List ℕ) (at tail : ℕ) where
  pub queueing-first : (x : ℕ) → Chain f x kids → Queueing f kids words₀ queue₀ at tail words₀ queue₀ 0 x
  queueing-first x h =
      let a : at ≡ at + 0 = omega arith in
      let t : tail ≡ tail + 0 = omega arith in
      let l : length kids ≡ length kids - 0 = omega arith in
      record {
        few = omega arith;
        chain = h;
        words_long = refl;
        queue_long = refl;
        ones = λ i. with_run words₀ (a i) (l i);
        entries = λ i. sets queue₀ (t i) kids;
      }

  module _ (words queue : List ℕ) (d x : ℕ) (q : Queueing f kids words₀ queue₀ at tail words queue d x) where
    -- nothing is left exactly where the chain is at its end
    pub queueing-more : (x ≡ 0 → ⊥) → d < length kids
    queueing-more ne =
        ⊎_elim (λ l. l) (λ h. absurd (ne (subst (Chain f x) (drop_of_length-le kids h) q.chain))) (below_or_not d (length kids))

    queueing-whole : x ≡ 0 → length kids ≤ d
    queueing-whole e = ⊎_elim (λ l. let h = subst (Chain f x) (drop-cons kids d 0 l) q.chain in absurd (omega (arith, h.0, h.1))) (λ h. h) (below_or_not d (length kids))

    pub queueing-next : (x ≡ 0 → ⊥) → Queueing f kids words₀ queue₀ at tail (with_one words (at + d)) (set queue (tail + d) x) (d + 1) (f x)
    queueing-next ne =
        let l : d < length kids = queueing-more ne in
        let rest : drop d kids ≡ get_or kids d 0 ∷ drop (d + 1) kids = drop-cons kids d 0 l ∙ ap (λ (k : ℕ). get_or kids d 0 ∷ drop k kids) (sym (add-one d)) in
        let h = subst (Chain f x) rest q.chain in
        let e : get_or kids d 0 ≡ x = sym h.0 in
        let a : at + d + 1 ≡ at + (d + 1) = omega arith in
        let t : suc (tail + d) ≡ tail + (d + 1) = omega arith in
        let m : length kids - d - 1 ≡ length kids - (d + 1) = omega arith in
        record {
          few = omega arith;
          chain = subst (λ (y : ℕ). Chain f (f y) (drop (d + 1) kids)) e h.2;
          words_long = length-with_one words (at + d) ∙ q.words_long;
          queue_long = length-set queue (tail + d) x ∙ q.queue_long;
          ones = q.ones ∙ with_run-next words (at + d) (length kids - d) (omega arith) ∙ (λ i. with_run (with_one words (at + d)) (a i) (m i));
          entries = q.entries ∙ ap (sets queue (tail + d)) rest ∙ (λ i. sets (set queue (tail + d) (e i)) (t i) (drop (d + 1) kids));
        }

    pub queueing-last : x ≡ 0 → (d ≡ length kids) × (words ≡ with_run words₀ at (length kids)) × (queue ≡ sets queue₀ tail kids)
    queueing-last e =
        let h : length kids ≤ d = queueing-whole e in
        (omega (arith, q.few), sym (q.ones ∙ with_run-none words (at + d) (length kids - d) (omega arith)), sym (q.entries ∙ ap (sets queue (tail + d)) (drop_of_length-le kids h)))
