-- Uses of `Untested.Untested`: slices of A's image with a value too few are refused, of any query, and A's and any with 4,096 entries and lengths that fit are not; A's image is
-- answered as by `exact_match`, the empty query included. Slices that are no map's image answer "b" as A's does, since they agree on the entries of the nodes 2 and 3, which that
-- query meets, and on the value of 3; and "a", which meets the same two and ends at 2, where A has no value. Slices in which no child counts need agree on no entry, and slices that
-- are refused on none either. Assumes nothing.
use mathlib.Core.Path.{◌≡◌, refl, sym, ap, subst, ◌∙◌}
use mathlib.Core.Logic.{⊎_elim}
use Prim.Native.Nat.{ℕ, zero, suc, ◌<◌}
use native.Mathlib.Omega.{arith}
use mathlib.Core.List.Memᴰ
use mathlib.Core.List.{[], ◌∷◌}
use Rattle.std.specs.Prelude.{None, Some}
use Rattle.std.proofs.lemmas.Option.{none-some, same_Some}
use Rattle.keymap.specs.Members.{In}
use lib.ListN.{length, replicate, length-replicate}
use Rattle.keymap.specs.Bits.{bit, sum_below, words_for}
use Rattle.keymap.specs.Image.{Image, bits_for}
use Rattle.louds.specs.Rank.{gap}
use Rattle.louds.specs.Select.{kth}
use Rattle.louds.specs.Nodes.{run_from, children_of}
use Rattle.image.specs.Accept.{node_entry, node_value}
use Rattle.image.specs.AcceptTest.{lengths_fit}
use Rattle.walks.specs.Rule.{matches, is_child_by, lowest_by, child_by, walked_from, value_of_node, node_by, found_by}
use Rattle.searches.specs.Exact.{exact_says}
use Rattle.searches.specs.Untested.{untested_says}
use Rattle.searches.specs.Met.{counted, met_from, met, Alike}
use Rattle.theorems.proofs.Untested.{untested}
use Rattle.theorems.proofs.Uses.Acceptance.{tests-list}
use Rattle.theorems.proofs.Uses.Values.{a, ab, b, image_a, lent_a}

-- a value too few
abbrev short : Image
short = record { labels = 97 ∷ 354 ∷ 354 ∷ []; values = 0 ∷ 3 ∷ []; words = 45 ∷ [] }

pub refusal : (untested_says short ab ≡ 6 ∷ []) × (untested_says short [] ≡ 6 ∷ []) × (untested_says image_a ab ≡ 6 ∷ [] → ⊥) × (untested_says image_a [] ≡ 6 ∷ [] → ⊥)
refusal = (
  (untested.refusal short ab).1 (λ f. omega (arith, f.1)),
  (untested.refusal short []).1 (λ f. omega (arith, f.1)),
  λ s. (untested.refusal image_a ab).0 s (omega arith, refl, refl),
  λ s. (untested.refusal image_a []).0 s (omega arith, refl, refl),
)

-- so many entries and values, and any words
abbrev many : ℕ → Image
many n = record { labels = replicate n 353; values = replicate n 1; words = replicate 129 0 }

pub refuses-many : (untested_says (many 4096) ab ≡ 6 ∷ [] → ⊥) × (untested_says (many 4097) ab ≡ 6 ∷ [])
refuses-many =
    let labels : (n : ℕ) → length (many n).labels ≡ n = λ n. length-replicate {A = ℕ} n 353 in
    let values : length (many 4096).values ≡ 4096 = length-replicate {A = ℕ} 4096 1 in (
      λ s. (untested.refusal (many 4096) ab).0 s (omega (arith, labels 4096), values ∙ sym (labels 4096), length-replicate {A = ℕ} 129 0 ∙ ap (λ (n : ℕ). words_for (bits_for n)) (sym (labels 4096))),
      (untested.refusal (many 4097) ab).1 (λ f. omega (arith, f.0, labels 4097)),
    )

pub accepted : (untested_says image_a ab ≡ exact_says image_a ab) × (untested_says image_a [] ≡ exact_says image_a [])
accepted = (untested.accepted image_a lent_a tests-list.0 ab, untested.accepted image_a lent_a tests-list.0 [])

-- ---- two images alike

-- node 4's entry is too large, the values of 2 and 4 are others, and a bit behind the sequence is set
abbrev other : Image
other = record { labels = 97 ∷ 354 ∷ 999 ∷ []; values = 9 ∷ 3 ∷ 9 ∷ []; words = 557 ∷ [] }

same_bits : (p : ℕ) → p < 9 → bit image_a.words p ≡ bit other.words p
unfolding bit
same_bits zero l = refl
same_bits (suc zero) l = refl
same_bits (suc (suc zero)) l = refl
same_bits (suc (suc (suc zero))) l = refl
same_bits (suc (suc (suc (suc zero)))) l = refl
same_bits (suc (suc (suc (suc (suc zero))))) l = refl
same_bits (suc (suc (suc (suc (suc (suc zero)))))) l = refl
same_bits (suc (suc (suc (suc (suc (suc (suc zero))))))) l = refl
same_bits (suc (suc (suc (suc (suc (suc (suc (suc zero)))))))) l = refl
same_bits (suc (suc (suc (suc (suc (suc (suc (suc (suc p))))))))) l = absurd (omega (arith, l))

-- what the two queries meet, where they end, and what is found there
met-b : (met image_a b ≡ 2 ∷ 3 ∷ []) × (node_by image_a b ≡ Some 3) × (found_by image_a b ≡ Some 3)
unfolding met_from counted value_of_node walked_from child_by lowest_by is_child_by matches children_of run_from kth gap bit sum_below
met-b = (refl, refl, refl)

met-a : (met image_a a ≡ 2 ∷ 3 ∷ []) × (node_by image_a a ≡ Some 2) × (found_by image_a a ≡ None)
unfolding met_from counted value_of_node walked_from child_by lowest_by is_child_by matches children_of run_from kth gap bit sum_below
met-a = (refl, refl, refl)

entry-met : (m : ℕ) → In m (2 ∷ 3 ∷ []) → node_entry image_a m ≡ node_entry other m
entry-met m n =
    ⊎_elim (λ e. ap (node_entry image_a) e ∙ ap (node_entry other) (sym e))
    (λ r. ⊎_elim (λ e. ap (node_entry image_a) e ∙ ap (node_entry other) (sym e)) (λ z. absurd (Memᴰ.not-nil z)) (Memᴰ.cases_cons r))
    (Memᴰ.cases_cons n)

alike-b : Alike image_a other b
unfolding lengths_fit
alike-b = record {
  number = refl;
  lengths = refl;
  bits = same_bits;
  siblings = λ m n. entry-met m (subst (In m) met-b.0 n);
  value = λ m v f g. ap (node_value other) (sym (same_Some 3 m (sym met-b.1 ∙ f))) ∙ same_Some 3 v (sym met-b.2 ∙ g);
}

alike-a : Alike image_a other a
unfolding lengths_fit
alike-a = record {
  number = refl;
  lengths = refl;
  bits = same_bits;
  siblings = λ m n. entry-met m (subst (In m) met-a.0 n);
  value = λ m v f g. absurd (none-some v (sym met-a.2 ∙ g));
}

-- bits 0 1 0 0 0: the only child of node 1 is numbered 1, and does not count
abbrev lone : ℕ → Image
lone entry = record { labels = entry ∷ []; values = entry ∷ []; words = 2 ∷ [] }

met-lone : (met (lone 353) a ≡ []) × (found_by (lone 353) a ≡ None)
unfolding met_from counted value_of_node walked_from child_by lowest_by is_child_by matches children_of run_from kth gap bit sum_below
met-lone = (refl, refl)

alike-lone : Alike (lone 353) (lone 610) a
unfolding lengths_fit
alike-lone = record {
  number = refl;
  lengths = refl;
  bits = λ p l. refl;
  siblings = λ m n. absurd (Memᴰ.not-nil (subst (In m) met-lone.0 n));
  value = λ m v f g. absurd (none-some v (sym met-lone.1 ∙ g));
}

-- both with a value too few, and of the empty query, which meets nothing
abbrev shorter : Image
shorter = record { labels = 1 ∷ 2 ∷ 3 ∷ []; values = []; words = 45 ∷ [] }

met-nothing : (met short [] ≡ []) × (found_by short [] ≡ None)
unfolding met_from value_of_node walked_from
met-nothing = (refl, refl)

alike-short : Alike short shorter []
unfolding lengths_fit
alike-short = record {
  number = refl;
  lengths = refl;
  bits = λ p l. refl;
  siblings = λ m n. absurd (Memᴰ.not-nil (subst (In m) met-nothing.0 n));
  value = λ m v f g. absurd (none-some v (sym met-nothing.1 ∙ g));
}

pub alike : (untested_says image_a b ≡ untested_says other b) × (untested_says image_a a ≡ untested_says other a) × (untested_says (lone 353) a ≡ untested_says (lone 610) a) × (untested_says short [] ≡ untested_says shorter [])
alike = (
  untested.alike image_a other b alike-b,
  untested.alike image_a other a alike-a,
  untested.alike (lone 353) (lone 610) a alike-lone,
  untested.alike short shorter [] alike-short,
)
