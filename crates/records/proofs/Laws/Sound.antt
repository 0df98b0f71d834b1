-- Laws of chains and of sound pools. A chain that ends is the only one from its start, so it names nothing twice; labels that rise name nothing twice either,
-- and so no chain is longer than the records in use.
--
--     chain-unique, chain-distinct     a chain that ends is determined by its start, and has no number twice
--     chain_same, rises-same           what two pools with the same links, or labels, have in common
--     rises-above, rises-distinct      labels that rise
--     children-most                    a record has no more children than there are records
--     used-within                      the records in use are no more than capacity
--     none-in-use                      where none is counted none is in use
--     parent-in-use                    the parent of a record in use is the root or in use
-- Assumes nothing.
use Prim.Native.Nat.{ℕ, ◌+◌, ◌≤◌, ◌<◌}
use mathlib.Core.Path.{◌≡◌, refl, sym, ◌∙◌, ap, subst}
use mathlib.Core.List.{List, [], ◌∷◌}
use mathlib.Core.Logic.{inl, inr}
use lib.ListN.{length}
use native.Mathlib.Omega.{arith}
use Rattle.records.specs.Words.{Pool, label, parent, last_record, used_count, InUse, Node, capacity}
use Rattle.records.specs.Sound.{Among, Chain, LabelsRise, ChildChain, Sound}
use Rattle.records.proofs.Laws.Distinct.{Once, once-at-most}
use Rattle.records.proofs.Laws.Words.{count-last, parent-node}

module _ (f : ℕ → ℕ) where
  pub chain-unique : (c : ℕ) (xs ys : List ℕ) → Chain f c xs → Chain f c ys → xs ≡ ys
  chain-unique c [] [] a b = refl
  chain-unique c [] (y ∷ ys) a b = absurd (omega (arith, b.0, b.1))
  chain-unique c (x ∷ xs) [] a b = absurd (omega (arith, a.0, a.1))
  chain-unique c (x ∷ xs) (y ∷ ys) a b =
      let z : x ≡ y = sym a.0 ∙ b.0 in
      let r = chain-unique (f x) xs ys a.2 (subst (λ (k : ℕ). Chain f (f k) ys) (sym z) b.2) in
      cc

  -- the chain from one of a chain's numbers on
  record Tail (x n : ℕ) : Type 0 where
    list : List ℕ
    goes : Chain f x list
    short : length list ≤ n

  chain-tail : (c : ℕ) (xs : List ℕ) → Chain f c xs → (x : ℕ) → Among x xs → Tail x (length xs)
  chain-tail c [] h x m = absurd m
  chain-tail c (y ∷ ys) h x (inl e) = record { list = y ∷ ys; goes = (e, h.1, h.2); short = omega arith }
  chain-tail c (y ∷ ys) h x (inr m) = let t = chain-tail (f y) ys h.2 x m in record { list = t.list; goes = t.goes; short = omega (arith, t.short) }

  pub chain-distinct : (c : ℕ) (xs : List ℕ) → Chain f c xs → Once xs
  chain-distinct c [] h = tt
  chain-distinct c (x ∷ xs) h = (
    (λ m.
        let t = chain-tail (f x) xs h.2 x m in
        let e : t.list ≡ x ∷ xs = chain-unique x t.list (x ∷ xs) t.goes (refl, h.1, h.2) in
        omega (arith, t.short, ap length e)),
    chain-distinct (f x) xs h.2,
  )

pub chain_same : (f g : ℕ → ℕ) (c : ℕ) (xs : List ℕ) → Chain f c xs → ((x : ℕ) → Among x xs → g x ≡ f x) → Chain g c xs
chain_same f g c [] h s = h
chain_same f g c (x ∷ xs) h s = (h.0, h.1, rw (s x (inl refl)) (chain_same f g (f x) xs h.2 (λ k m. s k (inr m))))

-- a chain with a member does not start at its end
pub chain-starts : (f : ℕ → ℕ) (c : ℕ) (xs : List ℕ) → Chain f c xs → (x : ℕ) → Among x xs → 0 < c
chain-starts f c [] l x h = absurd h
chain-starts f c (y ∷ ys) l x h = omega (arith, l.0, l.1)

pub rises-same : (p q : Pool) (l : ℕ) (xs : List ℕ) → LabelsRise p l xs → ((x : ℕ) → Among x xs → label q x ≡ label p x) → LabelsRise q l xs
rises-same p q l [] h s = tt
rises-same p q l (x ∷ xs) h s =
    let e : label q x ≡ label p x = s x (inl refl) in
    (omega (arith, h.0), rw e (rises-same p q (label p x + 1) xs h.1 (λ k m. s k (inr m))))

pub rises-above : (p : Pool) (l : ℕ) (xs : List ℕ) → LabelsRise p l xs → (x : ℕ) → Among x xs → l ≤ label p x
rises-above p l [] r c h = absurd h
rises-above p l (x ∷ xs) r c (inl e) = subst (λ (k : ℕ). l ≤ label p k) (sym e) r.0
rises-above p l (x ∷ xs) r c (inr h) =
    let a : label p x + 1 ≤ label p c = rises-above p (label p x + 1) xs r.1 c h in let b : l ≤ label p x = r.0 in omega arith

pub rises-distinct : (p : Pool) (l : ℕ) (xs : List ℕ) → LabelsRise p l xs → Once xs
rises-distinct p l [] r = tt
rises-distinct p l (x ∷ xs) r =
    ((λ h. let a : label p x + 1 ≤ label p x = rises-above p (label p x + 1) xs r.1 x h in omega arith), rises-distinct p (label p x + 1) xs r.1)

pub children-most : (p : Pool) (c : ℕ) (k : ChildChain p c) → length k.kids ≤ last_record p
children-most p c k = once-at-most (last_record p) k.kids (rises-distinct p 0 k.kids k.rising) (λ x m. (k.only x m).0)

module _ (p : Pool) (s : Sound p) where
  pub used-within : used_count p ≤ capacity p
  used-within = omega (arith, count-last p, s.within)

  pub none-in-use : used_count p ≡ 0 → (c : ℕ) → InUse p c → ⊥
  none-in-use e c u = omega (arith, count-last p, u.0, u.1)

  pub parent-in-use : (c : ℕ) → InUse p c → Node p (parent p c)
  parent-in-use c u = parent-node p c u (s.fits c u).parent-below
