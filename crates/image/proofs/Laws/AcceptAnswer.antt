-- What `accept` says: refusal 6 exactly if no map has the image, and equal numbers are equal answers.
--
--     accept_says-accepted, accept_says-refused  by the test
--     accept-means-map   0 exactly if some map with nonempty keys has the image
--     accept-means-none  6 exactly if none has
--     said-means-map     an answer that says what the test says is 0 exactly if some map has the image
--     said-checked-one   two answers that say the same are the same
--     accepted-ok, accepted-err  the test by the answer
--     passed-fails, passed-six, passed-says  where `?` passes the refusal on the test failed, and the call says 6
--     past-test          past the `?` the image is a map's
-- Assumes nothing.
use mathlib.Core.Path.{◌≡◌, refl, sym, ap, ◌∙◌}
use mathlib.Core.Logic.{◌↔◌}
use Prim.Native.Nat.{ℕ}
use native.Mathlib.Omega.{arith}
use mathlib.Core.Bool.{Bool, true, false}
use mathlib.Core.List.{List, [], ◌∷◌}
use Rattle.keymap.specs.Refusals.{refuses}
use Rattle.keymap.specs.declared.refusals.Refusal.{Refusal}
use Rattle.keymap.specs.Image.{Image}
use Rattle.std.specs.Prelude.{Result, Ok, Err, IsErrAnd}
use Rattle.std.proofs.lemmas.Result.{err_from_is_err_and}
use Rattle.keymap.specs.Answers.{said}
use Rattle.keymap.specs.Answers.{told_nothing}
use Rattle.keymap.proofs.Laws.Answers.{said-one, nothing-one}
use Rattle.image.specs.Accept.{OfMap, LentSlices}
use Rattle.image.specs.AcceptTest.{image_test}
use Rattle.image.specs.AcceptAnswer.{accepted_if, said_checked, on_image, accept_says}
use Rattle.image.specs.Meaning.{MapImage}
use Rattle.image.proofs.Laws.Meaning.{tested-map_image}
use Rattle.image.proofs.Laws.Accept.{accepted-iff}
use Rattle.image.proofs.Laws.Passed.{image_test-iff}

pub accept_says-accepted : (i : Image) → image_test i ≡ true → accept_says i ≡ 0 ∷ []
unfolding accept_says
accept_says-accepted i h = rw h

pub accept_says-refused : (i : Image) → image_test i ≡ false → accept_says i ≡ refuses Refusal.NotAnImage
unfolding accept_says
accept_says-refused i h = rw h

-- the test by what it says of the image
data Told (i : Image) : Type 0 where
  image-of : image_test i ≡ true → OfMap i → Told i
  no-image : image_test i ≡ false → (OfMap i → ⊥) → Told i

told : (i : Image) → LentSlices i → Told i
told i l = go (image_test i) refl
  where
    go : (t : Bool) → image_test i ≡ t → Told i
    go true e = Told.image-of e ((accepted-iff i l).0 ((image_test-iff i l).0 e))
    go false e = Told.no-image e (λ m. let y = (image_test-iff i l).1 ((accepted-iff i l).1 m) in let z : ◌≡◌ {A = ℕ} 0 1 = cc in omega arith)

pub accept-means-map : (i : Image) → LentSlices i → (accept_says i ≡ 0 ∷ []) ↔ OfMap i
accept-means-map i l = go (told i l)
  where
    go : Told i → (accept_says i ≡ 0 ∷ []) ↔ OfMap i
    go (Told.image-of e m) = (λ h. m, λ n. accept_says-accepted i e)
    go (Told.no-image e n) =
        (λ h. let y = accept_says-refused i e in let z : ◌≡◌ {A = ℕ} 0 6 = cc in absurd (omega arith), λ m. absurd (n m))

pub accept-means-none : (i : Image) → LentSlices i → (accept_says i ≡ refuses Refusal.NotAnImage) ↔ (OfMap i → ⊥)
accept-means-none i l = go (told i l)
  where
    go : Told i → (accept_says i ≡ refuses Refusal.NotAnImage) ↔ (OfMap i → ⊥)
    go (Told.image-of e m) = (λ h. let y = accept_says-accepted i e in let z : ◌≡◌ {A = ℕ} 0 6 = cc in absurd (omega arith), λ n. absurd (n m))
    go (Told.no-image e n) = (λ h. n, λ m. accept_says-refused i e)

pub said-means-map : (i : Image) → LentSlices i → (r : Result (Unit {0}) Refusal) → said_checked r ≡ accept_says i → (said_checked r ≡ 0 ∷ []) ↔ OfMap i
said-means-map i l r e = (λ h. (accept-means-map i l).0 (sym e ∙ h), λ m. e ∙ (accept-means-map i l).1 m)

pub said-checked-one : (r s : Result (Unit {0}) Refusal) → said_checked r ≡ said_checked s → r ≡ s
said-checked-one = said-one told_nothing nothing-one

-- the test by the answer
pub accepted-ok : (t : Bool) (u : Unit {0}) → accepted_if t ≡ Ok u → t ≡ true
accepted-ok true u e = refl
accepted-ok false u e = let z : ◌≡◌ {A = ℕ} 0 1 = cc in absurd (omega arith)

pub accepted-err : (t : Bool) (r : Refusal) → accepted_if t ≡ Err r → (t ≡ false) × (r ≡ Refusal.NotAnImage)
accepted-err false r e = (refl, let z : Refusal.NotAnImage ≡ r = cc in sym z)
accepted-err true r e = let z : ◌≡◌ {A = ℕ} 0 1 = cc in absurd (omega arith)

-- ---- behind `accept(..)?`

module _ {T : Type 0} (i : Image) (a : Result (Unit {0}) Refusal) (e : Refusal) (r : Result T Refusal) (tested : a ≡ accepted_if (image_test i)) (was : a ≡ Err e) where
  pub passed-fails : image_test i ≡ false
  passed-fails = (accepted-err (image_test i) e (sym tested ∙ was)).0

  pub passed-six : IsErrAnd r (λ x. x ≡ e) → r ≡ Err Refusal.NotAnImage
  passed-six passed =
      let (x, is, same) = err_from_is_err_and r passed in
      is ∙ ap Err (same ∙ (accepted-err (image_test i) e (sym tested ∙ was)).1)

  pub passed-says : IsErrAnd r (λ x. x ≡ e) → (tells : T → List ℕ) (says : List ℕ) → said tells r ≡ on_image i says
  passed-says passed tells says = ap (said tells) (passed-six passed) ∙ sym (rw passed-fails)

pub past-test : (i : Image) → LentSlices i → (a : Result (Unit {0}) Refusal) (u : Unit {0}) → a ≡ accepted_if (image_test i) → a ≡ Ok u → (image_test i ≡ true) × MapImage i
past-test i l a u tested was =
    let fits = accepted-ok (image_test i) u (sym tested ∙ was) in
    (fits, tested-map_image i l fits)
