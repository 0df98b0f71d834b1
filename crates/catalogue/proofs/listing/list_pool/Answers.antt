-- `catalogue::listing::list_pool` meets its contract: the build is accepted, and what is lent of the buffers then is the image of the pool's map. Assumes nothing.
use mathlib.Core.Path.{◌≡◌, refl, sym, ap, subst, ◌∙◌}
use mathlib.Core.Bool.{true, false, true≢false}
use Prim.Native.Nat.{ℕ, ◌≤◌}
use lib.ListN.{length}
use lib.Seq.{length-take-le}
use Rattle.keymap.specs.Map.{Map}
use Rattle.keymap.specs.Bits.{words_for}
use Rattle.keymap.specs.Image.{bits_for}
use Rattle.keymap.specs.Buffers.{over}
use Rattle.records.proofs.Laws.Meaning.{map-catalogue}
use Rattle.pool.specs.Answers.{accepted}
use Rattle.std.specs.Prelude.{Result, Ok, Err}
use Rattle.keymap.specs.declared.refusals.Refusal.{Refusal}
use Rattle.image.specs.Build.{said_built}
use Rattle.lines.specs.Writing.{map_text}
use Rattle.catalogue.proofs.Laws.Filling.{not-accepted}
use Rattle.catalogue.proofs.Laws.Building.{LentParts, word-bounded, lent-parts}
use Rattle.catalogue.proofs.listing.list_pool.Goals.{After-words_for, In-Ok}
use Rattle.catalogue.proofs.listing.list_pool.Goals as goal

-- a refused build is not accepted
refused : (r : Result ℕ Refusal) → ((n : ℕ) → r ≡ Ok n → ⊥) → accepted (said_built r) ≡ true → ⊥
refused (Ok n) none a = none n refl
refused (Err r) none a = let z : true ≡ false = sym a ∙ not-accepted r in absurd (true≢false z)

pub shape_of-labels-in_default : goal.shape_of-labels-in_default
shape_of-labels-in_default c = c.build.auto.labels

pub shape_of-values-in_default : goal.shape_of-values-in_default
shape_of-values-in_default c = c.build.auto.values

pub shape_of-words-in_default : goal.shape_of-words-in_default
shape_of-words-in_default c = c.build.auto.words

pub shape_of-scratch-in_default : goal.shape_of-scratch-in_default
shape_of-scratch-in_default c = c.build.auto.scratch

pub returns-in_default : goal.returns-in_default
returns-in_default c =
    let none : ⊥ = refused c.build.result c.in_default.not-Ok (ap accepted c.build.ensures.answer ∙ c.requires.granted) in
    record { answer = absurd none; out = absurd none; labels = absurd none; values = absurd none; words = absurd none; scratch = absurd none }

-- what the build left where its answer is n, if so many words are lent
built : (c : In-Ok) (w : ℕ) → w ≡ words_for (bits_for c.in-Ok.n)
    →
    LentParts c.args.pool.now c.build.new.labels c.build.new.values c.build.new.words c.in-Ok.n w
built c w sized =
    let a = c.args in
    let left = c.build.ensures in
    lent-parts a.pool.now a.labels.now a.values.now a.words.now a.scratch.now _ w _ _ _ sized (λ s₁. map-catalogue _ s₁ (word-bounded _ (λ j. (c.type_inv.pool j).fits)))
    (ap said_built (sym c.in-Ok.is) ∙ left.answer) left.labels left.values left.words

-- as many as are lent
shown : (c : After-words_for)
    →
    LentParts c.args.pool.now c.build.new.labels c.build.new.values c.build.new.words c.in-Ok.n c.words_for.result
shown c = built (goal.at.slice_bounds-list_image-end-5 c).In-Ok c.words_for.result c.words_for.ensures

pub slice_bounds-list_image-end : goal.slice_bounds-list_image-end
slice_bounds-list_image-end c = (built c _ refl).labels_in

pub slice_bounds-list_image-end-2 : goal.slice_bounds-list_image-end-2
slice_bounds-list_image-end-2 c = sym (length-take-le _ _ (built c _ refl).labels_in)

pub slice_bounds-list_image-end-3 : goal.slice_bounds-list_image-end-3
slice_bounds-list_image-end-3 c = (built c _ refl).values-in

pub slice_bounds-list_image-end-4 : goal.slice_bounds-list_image-end-4
slice_bounds-list_image-end-4 c = sym (length-take-le _ _ (built c _ refl).values-in)

pub slice_bounds-list_image-end-5 : goal.slice_bounds-list_image-end-5
slice_bounds-list_image-end-5 c = (shown c).words-in

pub slice_bounds-list_image-end-6 : goal.slice_bounds-list_image-end-6
slice_bounds-list_image-end-6 c = sym (length-take-le _ _ (shown c).words-in)

pub list_image-requires : goal.list_image-requires
list_image-requires c = record { of_map = (shown (goal.at.list_image-requires c).After-words_for).is-map; room = subst (λ (m : Map). length (map_text m) ≤ length c.args.out.now) (sym (shown (goal.at.list_image-requires c).After-words_for).map_is) c.requires.room }

pub shape_of-labels : goal.shape_of-labels
shape_of-labels c = c.build.auto.labels

pub shape_of-values : goal.shape_of-values
shape_of-values c = c.build.auto.values

pub shape_of-words : goal.shape_of-words
shape_of-words c = c.build.auto.words

pub shape_of-scratch : goal.shape_of-scratch
shape_of-scratch c = c.build.auto.scratch

pub shape_of-out : goal.shape_of-out
shape_of-out c = c.list_image.auto.out

pub returns : goal.returns
returns c =
    let listed = c.list_image.ensures in
    let same = (shown (goal.at.returns c).After-words_for).map_is in
    let out = c.args.out.now in
    record {
      answer = listed.answer ∙ ap (λ (m : Map). length (map_text m)) same;
      out = listed.out ∙ ap (λ (m : Map). over (map_text m) out) same;
      labels = c.build.ensures.labels;
      values = c.build.ensures.values;
      words = c.build.ensures.words;
      scratch = c.build.ensures.scratch;
    }
