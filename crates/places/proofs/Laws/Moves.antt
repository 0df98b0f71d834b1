-- The moves on numbers by their cases, on any slices.
--
--     number-large, number_small  a node's number as a place has it
--     answer-leaf, answer-inner   what a node is, by its children
--     query-missed, query-found   one label, by the child
--     follow-end, follow-next     a query, by its first label; `follow-stops`, `follow-on` from behind its first labels
--                                 on
--     ends-empty, ends_some       at its end, by how many labels it had
--     goto-leaf, goto-several, goto-through  by how many children there are; `goto-key`, `goto-parting` by what is held
--                                 where the glide ends
--     children-lost, children-count, only-run  how many there are, and the stand at an only one, by what louds answers
--                                 of the node
--     glide-few                   a glide has no more steps than there are nodes
-- Assumes nothing.
use mathlib.Core.Path.{◌≡◌, refl, sym, ap, ◌∙◌}
use Prim.Native.Nat.{ℕ, zero, suc, ◌+◌, ◌-◌, ◌≤◌, ◌<◌}
use native.Mathlib.Numerals.{add-one}
use native.Mathlib.Omega.{arith}
use mathlib.Core.Bool.{Bool, true, false}
use mathlib.Core.List.{List, [], ◌∷◌}
use Rattle.std.specs.Prelude.{Option, None, Some, Ok, Err}
use lib.ListN.{length, get_or, drop}
use lib.Seq.{drop-cons}
use borrow.Author.Tests.{lt-ltb, le-ltb, eq-eqb, ne_eqb}
use Rattle.keymap.specs.Key.{Key}
use Rattle.keymap.specs.Bits.{bit}
use Rattle.keymap.specs.Image.{Image, bits_for}
use Rattle.keymap.proofs.Laws.Bits.{bit-small}
use Rattle.louds.specs.Nodes.{Run}
use Rattle.louds.specs.Nodes.{children_of}
use Rattle.image.specs.Accept.{entries}
use Rattle.walks.specs.declared.stands.Stand.{Stand}
use Rattle.walks.specs.declared.answers.Kids.{Kids}
use Rattle.walks.specs.declared.glide.Glided.{Glided}
use Rattle.walks.specs.Rule.{child_by}
use Rattle.walks.specs.Stands.{kid_from}
use Rattle.walks.specs.Glide.{goes_through, only_kid, glides, glided_from}
use Rattle.walks.proofs.Laws.Stands.{RunTold, kids-lost, kids-run}
use Rattle.places.specs.declared.answers.Answer.TheVariants.{Match}
use Rattle.places.specs.Moves.{place_number, stand_in, count_from, held_in, inner_says, answer_by, query_to, query_by, follow_stops, follow_ends, follow_to, follow_from, gone_to, goto_ends, goto_by}

pub number-large : (k : ℕ) → 4294967295 < k → place_number k ≡ 0
unfolding place_number
number-large k h = rw (lt-ltb 4294967295 k h)

pub number_small : (k : ℕ) → k ≤ 4294967295 → place_number k ≡ k
unfolding place_number
number_small k h = rw (le-ltb 4294967295 k h)

-- ---- what a node is

module _ (i : Image) (s : Stand) where
  pub answer-leaf : count_from i s ≡ 0 → answer_by i s ≡ Match
  unfolding answer_by
  answer-leaf e = rw (eq-eqb (count_from i s) 0 e)

  pub answer-inner : (w : Option ℕ) → ¬ (count_from i s ≡ 0) → held_in i s.node ≡ w → answer_by i s ≡ inner_says w
  unfolding answer_by
  answer-inner w e f = rw (ne_eqb (count_from i s) 0 e) (ap inner_says f)

-- ---- one label

module _ (i : Image) (k a : ℕ) where
  pub query-missed : child_by i.labels (bit i.words) (bits_for (entries i)) k a ≡ None → query_by i k a ≡ record { answer = Ok None; node = k }
  unfolding query_by
  query-missed e = ap (query_to i k) e

  pub query-found : (m : ℕ) → child_by i.labels (bit i.words) (bits_for (entries i)) k a ≡ Some m
      → query_by i k a ≡ record { answer = Ok (Some (answer_by i (stand_in i m))); node = place_number m }
  unfolding query_by
  query-found m e = ap (query_to i k) e

-- ---- along a query

module _ (i : Image) where
  pub follow-end : (j k : ℕ) → follow_from i [] j k ≡ follow_ends i j k
  unfolding follow_from
  follow-end j k = refl

  pub ends-empty : (j k : ℕ) → j ≡ 0 → follow_ends i j k ≡ follow_stops 0 k
  ends-empty j k e = rw (eq-eqb j 0 e)

  pub ends_some : (j k : ℕ) → ¬ (j ≡ 0) → follow_ends i j k ≡ record { answer = Ok (Ok (answer_by i (stand_in i k))); node = place_number k }
  ends_some j k e = rw (ne_eqb j 0 e)

  pub follow-next : (a : ℕ) (q : Key) (j k : ℕ) (o : Option ℕ) → child_by i.labels (bit i.words) (bits_for (entries i)) k a ≡ o
      → follow_from i (a ∷ q) j k ≡ follow_to o (follow_stops j k) (λ (m : ℕ). follow_from i q (j + 1) m)
  unfolding follow_from
  follow-next a q j k o e = ap (λ (x : Option ℕ). follow_to x (follow_stops j k) (λ (m : ℕ). follow_from i q (j + 1) m)) e

  module _ (q : Key) (j k : ℕ) (within : j < length q) where
    pub follow-stops : child_by i.labels (bit i.words) (bits_for (entries i)) k (get_or q j 0) ≡ None → follow_from i (drop j q) j k ≡ follow_stops j k
    follow-stops e = ap (λ (r : Key). follow_from i r j k) (drop-cons q j 0 within) ∙ follow-next (get_or q j 0) (drop (suc j) q) j k None e

    pub follow-on : (m : ℕ) → child_by i.labels (bit i.words) (bits_for (entries i)) k (get_or q j 0) ≡ Some m
        → follow_from i (drop j q) j k ≡ follow_from i (drop (j + 1) q) (j + 1) m
    follow-on m e =
        ap (λ (r : Key). follow_from i r j k) (drop-cons q j 0 within)
        ∙ follow-next (get_or q j 0) (drop (suc j) q) j k (Some m) e
        ∙ ap (λ (n : ℕ). follow_from i (drop n q) (j + 1) m) (sym (add-one j))

-- ---- to where the keys part

-- the children of node k, as louds answers them
module _ (i : Image) (k : ℕ) where
  pub children-lost : children_of (bit i.words) (bits_for (entries i)) k ≡ None → count_from i (stand_in i k) ≡ 0
  children-lost e = ap (λ (x : Kids). x.count) (kids-lost (bit i.words) (bit-small i.words) (bits_for (entries i)) k e)

  module _ (f c : ℕ) (run : children_of (bit i.words) (bits_for (entries i)) k ≡ Run f c) where
    told : RunTold (bit i.words) (bit-small i.words) (bits_for (entries i)) k f c
    told = kids-run (bit i.words) (bit-small i.words) (bits_for (entries i)) k f c run

    pub children-count : (count_from i (stand_in i k) ≡ c) × (k + f + c ≤ bits_for (entries i) + 1)
    children-count = (ap (λ (x : Kids). x.count) told.kids, told.within)

    pub only-run : c ≡ 1 → kid_from (bit i.words) (bits_for (entries i)) k (k + f) f ≡ only_kid (bit i.words) (bits_for (entries i)) (stand_in i k)
    unfolding only_kid
    only-run one =
        let kid : ℕ → ℕ → Stand = kid_from (bit i.words) (bits_for (entries i)) k in
        sym (ap (λ (x : Kids). kid x.next x.first) told.kids ∙ ap (λ (n : ℕ). kid n f) (omega (arith, one)))

module _ (i : Image) (k : ℕ) where
  pub goto-leaf : count_from i (stand_in i k) ≡ 0 → goto_by i k ≡ record { answer = Ok (Ok 0); node = k }
  unfolding goto_by
  goto-leaf e = rw (eq-eqb (count_from i (stand_in i k)) 0 e)

  pub goto-several : 1 < count_from i (stand_in i k) → goto_by i k ≡ record { answer = Ok (Err 0); node = k }
  unfolding goto_by
  goto-several l = rw (ne_eqb (count_from i (stand_in i k)) 0 (omega arith), lt-ltb 1 (count_from i (stand_in i k)) l)

  pub goto-through : count_from i (stand_in i k) ≡ 1
      → goto_by i k ≡ goto_ends i (glided_from i.labels i.values (bit i.words) (bits_for (entries i)) (only_kid (bit i.words) (bits_for (entries i)) (stand_in i k)))
  unfolding goto_by
  goto-through e = rw (ne_eqb (count_from i (stand_in i k)) 0 (omega arith), le-ltb 1 (count_from i (stand_in i k)) (omega arith))

  -- through the only child, to where the glide ends
  module _ (one : count_from i (stand_in i k) ≡ 1) (g : Glided) (glided : g ≡ glided_from i.labels i.values (bit i.words) (bits_for (entries i)) (only_kid (bit i.words) (bits_for (entries i)) (stand_in i k))) (n : ℕ) (number : n ≡ place_number g.stand.node) where
    pub goto-key : (v : ℕ) → held_in i g.stand.node ≡ Some v → record { answer = Ok (Ok (g.steps + 1)); node = n } ≡ goto_by i k
    goto-key v held = sym (goto-through one ∙ ap (goto_ends i) (sym glided) ∙ (λ x. record { answer = Ok (gone_to (held x) (g.steps + 1)); node = sym number x }))

    pub goto-parting : held_in i g.stand.node ≡ None → record { answer = Ok (Err (g.steps + 1)); node = n } ≡ goto_by i k
    goto-parting held = sym (goto-through one ∙ ap (goto_ends i) (sym glided) ∙ (λ x. record { answer = Ok (gone_to (held x) (g.steps + 1)); node = sym number x }))

-- every step of a glide takes one of its turns
module _ (ls vs : List ℕ) (b : ℕ → ℕ) (len : ℕ) where
  glides-few : (left : ℕ) (s : Stand) (steps : ℕ) → (glides ls vs b len left s steps).steps ≤ steps + left
  unfolding glides
  glides-few zero s steps = omega arith
  glides-few (suc left) s steps = go (goes_through ls vs b len s) refl (glides-few left (only_kid b len s) (steps + 1))
    where
      go : (t : Bool) → goes_through ls vs b len s ≡ t → (glides ls vs b len left (only_kid b len s) (steps + 1)).steps ≤ steps + 1 + left → (glides ls vs b len (suc left) s steps).steps ≤ steps + suc left
      go true e more = rw e (omega arith)
      go false e more = rw e (omega arith)

  pub glide-few : (s : Stand) → (glided_from ls vs b len s).steps ≤ length ls + 1
  unfolding glided_from
  glide-few s = omega (arith, glides-few (length ls + 1 - s.node) s 0)
