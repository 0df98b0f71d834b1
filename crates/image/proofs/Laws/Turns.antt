-- The turns of the loop that takes the nodes: after k of them the queue's front is what they put into it, and the words hold the bits of their degrees.
-- A node's children go behind that front, its ones and its zero behind those bits.
--
--     Turn                              what holds when k are taken
--     turn-first                        it holds at the start
--     turn-room, turn-place, turn-asks  what the next one's children ask for is there
--     turn-next                         it holds of one more
--     turn-queue, turn-words            what it says when all are taken
-- Assumes nothing.
use Prim.Native.Nat.{ℕ, ◌+◌, ◌^◌, ◌≤◌, ◌<◌}
use mathlib.Core.Path.{◌≡◌, refl, sym, ap, ◌∙◌}
use mathlib.Core.List.{List, [], ◌∷◌, ◌++◌, map, map-append, flat_map}
use native.Mathlib.Omega.{arith}
use native.Mathlib.Numerals.{add-one}
use lib.ListN.{length, get_or, take, replicate, length-append, length-map, length-replicate}
use lib.Seq.{sets, take-suc, take_all, length-take-le}
use Rattle.keymap.specs.Bits.{words_for, pack}
use Rattle.keymap.specs.Degrees.{total, unary, sequence}
use Rattle.keymap.specs.Image.{bits_for}
use Rattle.keymap.proofs.Laws.Bits.{length-pack}
use Rattle.keymap.proofs.Laws.Degrees.{length-sequence, sequence-small}
use Rattle.louds.specs.Put.{with_one}
use Rattle.louds.proofs.Laws.Put.{length-with_one}
use Rattle.records.specs.Words.{Pool, used_count}
use Rattle.records.specs.Sound.{Sound}
use Rattle.keymap.specs.Buffers.{over}
use Rattle.image.specs.Buffers.{with_run}
use Rattle.image.specs.LevelOrder.{child_records, level_records, record_degree, pool_words}
use Rattle.image.specs.Build.{CanQueue, Levels}
use Rattle.keymap.proofs.Laws.Buffers.{length_over, over_none, over-over, over-sets}
use Rattle.image.proofs.Laws.Buffers.{with_one-over, with_run-over}
use Rattle.image.proofs.Laws.HeldBits.{HoldsBits, held_none, held_one, held-zero, held-run, held-pack, sequence-more}
use Rattle.image.proofs.Laws.LevelOrder.{queued, child-chain, level-count, node_at, queued-front, queued-next, queued-node, queued-all}

-- ---- the bits of the first k

degrees_to : Pool → ℕ → List ℕ
degrees_to p k = map (record_degree p) (take k (0 ∷ level_records p))

pub bits_to : Pool → ℕ → List ℕ
bits_to p k = sequence (degrees_to p k)

total-children : (p : Pool) (cs : List ℕ) → total (map (record_degree p) cs) ≡ length (flat_map (child_records p) cs)
unfolding total flat_map record_degree
total-children p [] = refl
total-children p (c ∷ cs) = omega (arith, total-children p cs, length-append (child_records p c) (flat_map (child_records p) cs))

module _ (p : Pool) (s : Sound p) where
  abbrev order : List ℕ
  order = level_records p

  -- the k-th that is taken, from 0
  abbrev node_there : ℕ → ℕ
  node_there k = get_or (0 ∷ order) k 0

  length-bits_to : (k : ℕ) → k ≤ used_count p + 1 → length (bits_to p k) ≡ length (queued p k) + k + 2
  unfolding bits_to degrees_to queued
  length-bits_to k h =
      omega (arith, length-sequence (degrees_to p k), total-children p (take k (0 ∷ order)), length-map (take k (0 ∷ order)) (record_degree p), length-take-le k (0 ∷ order) (omega (arith, level-count p s)))

  bits_to-next : (k : ℕ) → k ≤ used_count p → bits_to p (k + 1) ≡ (bits_to p k ++ replicate (length (child_records p (node_there k))) 1) ++ (0 ∷ [])
  unfolding bits_to degrees_to record_degree
  bits_to-next k h =
      let more : take (k + 1) (0 ∷ order) ≡ take k (0 ∷ order) ++ (node_there k ∷ []) =
      ap (λ (i : ℕ). take i (0 ∷ order)) (add-one k) ∙ take-suc (0 ∷ order) k 0 (omega (arith, level-count p s)) in
      ap (λ (cs : List ℕ). sequence (map (record_degree p) cs)) more
      ∙ ap sequence (map-append (record_degree p) (take k (0 ∷ order)) (node_there k ∷ []))
      ∙ sequence-more (map (record_degree p) (take k (0 ∷ order))) (record_degree p (node_there k))

-- when k are taken: the queue has `tail` entries, and the next bit stands at `at`
pub record Turn (p : Pool) (n : ℕ) (words₀ queue₀ : List ℕ) (words queue : List ℕ) (at tail k : ℕ) : Type 0 where
  front : List ℕ
  pub tail-is : tail ≡ length (queued p k)
  pub at-is : at ≡ length (bits_to p k)
  pub queue-is : queue ≡ over (queued p k) queue₀
  pub words-is : words ≡ over front words₀
  pub held : HoldsBits (words_for (bits_for n)) front (bits_to p k)

module _ (p : Pool) (n : ℕ) (words₀ queue₀ : List ℕ) (h : Levels p n words₀ queue₀) where
  -- the words at the start: cleared, and the first bit set
  module _ (entry₀ : List ℕ) (e : words₀ ≡ with_one (over (replicate (words_for (bits_for n)) 0) entry₀) 0) where
    zeros : List ℕ
    zeros = replicate (words_for (bits_for n)) 0

    first-words : words₀ ≡ over (with_one zeros 0) entry₀
    unfolding zeros
    first-words = e ∙ with_one-over (replicate (words_for (bits_for n)) 0) entry₀ 0 (omega (arith, length-replicate {A = ℕ} (words_for (bits_for n)) 0))

    pub turn-first : Turn p n words₀ queue₀ words₀ queue₀ 2 0 0
    unfolding zeros queued bits_to degrees_to sequence unary flat_map
    turn-first =
        let w = words_for (bits_for n) in
        record {
          front = with_one zeros 0;
          tail-is = refl;
          at-is = refl;
          queue-is = sym (over_none queue₀);
          words-is = first-words ∙ sym (ap (over (with_one zeros 0)) first-words ∙ over-over (with_one zeros 0) (with_one zeros 0) entry₀ refl);
          held = held-zero w (with_one zeros 0) (1 ∷ []) (held_one w zeros [] (held_none w) 0 refl (omega arith));
        }

    length-first : length (with_one zeros 0) ≡ words_for (bits_for n)
    unfolding zeros
    length-first = length-with_one zeros 0 ∙ length-replicate {A = ℕ} (words_for (bits_for n)) 0

  module _ (words queue : List ℕ) (at tail k : ℕ) (t : Turn p n words₀ queue₀ words queue at tail k) where
    pub turn-length : length queue ≡ length queue₀
    turn-length = ap length t.queue-is ∙ length_over (queued p k) queue₀ (omega (arith, queued-front p h.sound k, h.count, h.queue-fits))

    -- the next one
    module _ (l : k ≤ n) (c : ℕ) (e : c ≡ get_or (0 ∷ queue) k 0) where
      turn-node : c ≡ node_there p h.sound k
      turn-node = e ∙ ap (λ (xs : List ℕ). get_or (0 ∷ xs) k 0) t.queue-is ∙ queued-node p h.sound queue₀ k (omega (arith, h.count))

      turn-queued : queued p (k + 1) ≡ queued p k ++ child_records p c
      turn-queued = queued-next p h.sound k (omega (arith, h.count)) ∙ ap (λ (x : ℕ). queued p k ++ child_records p x) (sym turn-node)

      pub turn-room : tail + length (child_records p c) ≤ n
      turn-room = omega (arith, t.tail-is, ap length turn-queued, length-append (queued p k) (child_records p c), queued-front p h.sound (k + 1), h.count)

      pub turn-place : at + length (child_records p c) < bits_for n
      turn-place = omega (arith, t.at-is, t.tail-is, length-bits_to p h.sound k (omega (arith, h.count)), turn-room)

      pub turn-asks : n < 2 ^ 32 → CanQueue p c at queue tail
      turn-asks small = record {
        chain = rw turn-node (child-chain p h.sound (node_there p h.sound k) (node_at p h.sound k (omega (arith, h.count))));
        room = omega (arith, turn-room, turn-length, h.queue-fits);
        near = omega (arith, turn-place);
      }

      module _ (d : ℕ) (words₂ queue₂ : List ℕ) (ed : d ≡ length (child_records p c)) (ew : words₂ ≡ with_run words at (length (child_records p c))) (eq : queue₂ ≡ sets queue tail (child_records p c)) where
        pub turn-next : Turn p n words₀ queue₀ words₂ queue₂ (at + (d + 1)) (tail + d) (k + 1)
        turn-next =
            let kids = child_records p c in
            let w = words_for (bits_for n) in
            let bits : bits_to p (k + 1) ≡ (bits_to p k ++ replicate (length kids) 1) ++ (0 ∷ []) =
            bits_to-next p h.sound k (omega (arith, h.count)) ∙ ap (λ (x : ℕ). (bits_to p k ++ replicate (length (child_records p x)) 1) ++ (0 ∷ [])) (sym turn-node) in
            record {
              front = with_run t.front at (length kids);
              tail-is = omega (arith, ed, t.tail-is, ap length turn-queued, length-append (queued p k) kids);
              at-is = omega (arith, ed, t.at-is, ap length bits, length-append (bits_to p k ++ replicate (length kids) 1) (0 ∷ []), length-append (bits_to p k) (replicate (length kids) 1), length-replicate {A = ℕ} (length kids) 1);
              queue-is = eq ∙ ap (λ (xs : List ℕ). sets xs tail kids) t.queue-is ∙ over-sets kids (queued p k) queue₀ tail t.tail-is (omega (arith, turn-room, h.queue-fits)) ∙ ap (λ (xs : List ℕ). over xs queue₀) (sym turn-queued);
              words-is = ew ∙ ap (λ (xs : List ℕ). with_run xs at (length kids)) t.words-is ∙ with_run-over (length kids) t.front words₀ at (omega (arith, t.held.long, turn-place));
              held = rw bits (held-zero w _ _ (held-run (length kids) w t.front (bits_to p k) at t.held t.at-is (omega (arith, turn-place))));
            }

    -- all are taken
    module _ (l : n < k) (m : k ≤ n + 1) where
      pub turn-queue : queue ≡ over (level_records p) queue₀
      turn-queue = t.queue-is ∙ ap (λ (xs : List ℕ). over xs queue₀) (queued-all p h.sound k (omega (arith, h.count)))

      turn-bits : bits_to p k ≡ sequence (map (record_degree p) (0 ∷ level_records p))
      unfolding bits_to degrees_to
      turn-bits = ap (λ (cs : List ℕ). sequence (map (record_degree p) cs)) (take_all k (0 ∷ level_records p) (omega (arith, level-count p h.sound, h.count)))

      turn-long : length (bits_to p k) ≡ bits_for n
      turn-long = omega (arith, length-bits_to p h.sound k (omega (arith, h.count)), ap length (queued-all p h.sound k (omega (arith, h.count))), level-count p h.sound, h.count)

      length-words : length (pool_words p) ≡ words_for (bits_for n)
      unfolding pool_words
      length-words = length-pack (sequence (map (record_degree p) (0 ∷ level_records p))) ∙ ap words_for (ap length (sym turn-bits) ∙ turn-long)

      turn-over : words ≡ over (pool_words p) words₀
      unfolding pool_words
      turn-over =
          t.words-is
          ∙ ap (λ (xs : List ℕ). over xs words₀)
          (held-pack (words_for (bits_for n)) t.front (bits_to p k) t.held (ap words_for (sym turn-long)) (unfold bits_to in sequence-small (degrees_to p k)) ∙ ap pack turn-bits)

      pub turn-words : (entry₀ : List ℕ) → words₀ ≡ with_one (over (replicate (words_for (bits_for n)) 0) entry₀) 0 → words ≡ over (pool_words p) entry₀
      turn-words entry₀ e =
          turn-over ∙ ap (over (pool_words p)) (first-words entry₀ e) ∙ over-over (pool_words p) (with_one (zeros entry₀ e) 0) entry₀ (length-words ∙ sym (length-first entry₀ e))
