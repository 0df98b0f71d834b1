-- The lookup that does not read the catalogue, by the laws of `searches`. Assumes nothing.
use mathlib.Core.Path.{◌≡◌, refl, sym, ap, ◌∙◌}
use mathlib.Core.Logic.{◌↔◌}
use Prim.Native.Nat.{ℕ}
use native.Mathlib.Omega.{arith}
use mathlib.Core.Bool.{Bool, true, false, true≢false}
use mathlib.Core.List.{List}
use Rattle.std.specs.Prelude.{Option, None, Some}
use lib.ListN.{get_or}
use Rattle.keymap.specs.Key.{Key}
use Rattle.keymap.specs.Refusals.{refuses}
use Rattle.keymap.specs.declared.refusals.Refusal.TheVariants.{NotAnImage}
use Rattle.keymap.specs.Answers.{says_value}
use Rattle.keymap.specs.Image.{Image}
use Rattle.image.specs.AcceptTest.{lengths_fit}
use Rattle.image.proofs.Laws.AcceptTest.{lengths-told, lengths-fit}
use Rattle.image.proofs.Laws.Meaning.{accepted-map_image}
use Rattle.walks.specs.Rule.{found_by}
use Rattle.searches.specs.Untested.{untested_says}
use Rattle.searches.proofs.Laws.Untested.{untested_says-refused, untested_says-found, untested-exact}
use Rattle.searches.proofs.Laws.Met.{untested-alike}
use Rattle.theorems.specs.Untested.{LengthsFit, Untested}

-- what is found begins with 0
found_first : (o : Option ℕ) → says_value o ≡ refuses NotAnImage → ⊥
found_first None e = let z : ◌≡◌ {A = ℕ} 0 6 = ap (λ (l : List ℕ). get_or l 0 0) e in omega (arith, z)
found_first (Some v) e = let z : ◌≡◌ {A = ℕ} 0 6 = ap (λ (l : List ℕ). get_or l 0 0) e in omega (arith, z)

refuses-unfit : (i : Image) (q : Key) → (untested_says i q ≡ refuses NotAnImage) ↔ (LengthsFit i → ⊥)
refuses-unfit i q = go (lengths_fit i) refl
  where
    go : (t : Bool) → lengths_fit i ≡ t → (untested_says i q ≡ refuses NotAnImage) ↔ (LengthsFit i → ⊥)
    go true e =
        let told = lengths-told i e in
        (λ s f. found_first (found_by i q) (sym (untested_says-found i q e) ∙ s), λ n. absurd (n (told.few, told.values-fit, told.words-fit)))
    go false e =
        (λ s f. absurd (true≢false (sym (lengths-fit i (record { few = f.0; values-fit = f.1; words-fit = f.2 })) ∙ e)), λ n. untested_says-refused i q e)

pub untested : Untested
untested = record {
  refusal = refuses-unfit;
  accepted = λ i l a q. untested-exact i (accepted-map_image i l a) q;
  alike = untested-alike;
}
