use mathlib.Core.Path.{◌≡◌, refl, sym, ap, subst, ◌∙◌}
use Prim.Native.Nat.{ℕ, ◌+◌, ◌-◌, ◌≤◌}
use native.Mathlib.Omega.{arith}
use mathlib.Core.List.{List, [], ◌++◌}
use lib.ListN.{length, take, drop, length-drop}
use lib.Seq.{take_all}
use borrow.Rule.Slice.PartMut.{put_mid, same_len_mid}
use Rattle.std.specs.Prelude.{max, Option, None, Result, Ok}
use Rattle.keymap.specs.declared.refusals.Refusal.{Refusal}
use Rattle.keymap.specs.Bits.{bit}
use Rattle.keymap.specs.Buffers.{over}
use Rattle.keymap.specs.Key.{Key}
use Rattle.keymap.specs.Image.{Image, bits_for}
use Rattle.keymap.specs.Paths.{path_of}
use Rattle.keymap.specs.Decode.{image_map}
use Rattle.lines.specs.Writing.{tab_text}
use Rattle.image.specs.Accept.{entries}
use Rattle.image.specs.Meaning.{image_in}
use Rattle.climbs.specs.Order.{next_by, given_of}
use Rattle.climbs.specs.Spelling.{spelled_by}
use Rattle.listings.specs.declared.answers.Kind.TheVariants as kinds
use Rattle.listings.specs.declared.answers.Cursor.{Cursor}
use Rattle.listings.specs.declared.answers.Cursor.TheVariants.{Open, Finished}
use Rattle.listings.specs.declared.answers.Stepped.{Stepped}
use Rattle.listings.specs.declared.answers.Stepped.TheVariants as steps
use Rattle.listings.specs.Answers.{said_started}
use Rattle.listings.specs.Cursors.{start_says}
use Rattle.walks.specs.declared.entries.KeyNode.{KeyNode}
use Rattle.catalogue.proofs.Laws.Listing.{Listed, Turn, start-told, listing-starts, listing-opens, listing-none, listing-belongs, listing-within, listing-ends, listing-turn}
use Rattle.catalogue.proofs.Laws.ByNumbers.{key-node, next-gave, next-ended, path-long, path-put}
use Rattle.catalogue.proofs.listing.list_image.Goals.{In-Open, In-Some, In_default-next_valued, After-depth-length}
use Rattle.catalogue.proofs.listing.list_image.Goals as goal

pub returns-in_default : goal.returns-in_default
returns-in_default c =
    let none : ⊥ = start-told (image_in c.args.labels c.args.values c.args.words) c.requires.of_map _ _ (ap said_started (sym c.in_default.is) ∙ c.predictive_search.ensures.answer) in
    record { answer = absurd none; out = absurd none }

pub returns-in_default-start : goal.returns-in_default-start
returns-in_default-start c =
    let said = listing-none (image_in c.args.labels c.args.values c.args.words) c.requires.of_map c.args.out.now _ (ap (λ (d : Cursor). said_started (Ok d)) (sym c.in_default-start.is) ∙ ap said_started (sym c.in-Ok.is) ∙ c.predictive_search.ensures.answer) in
    record { answer = said.0; out = said.1 }

pub loop-key-init : goal.loop-key-init
loop-key-init c =
    let i = image_in c.args.labels c.args.values c.args.words in
    let told : said_started (Ok (Open c.in-Open.kind c.in-Open.top c.in-Open.last)) ≡ start_says kinds.Predictive i [] = ap (λ (d : Cursor). said_started (Ok d)) (sym c.in-Open.is) ∙ ap said_started (sym c.in-Ok.is) ∙ c.predictive_search.ensures.answer in
    let (root, fresh, is) = listing-opens i c.requires.of_map c.args.out.now _ _ _ told in (
      refl,
      root,
      subst (λ (d : Cursor). Listed i c.args.out.now d 0 c.args.out.now) (is ∙ ap (λ (k : ℕ). Open kinds.Predictive 1 k) (sym fresh)) (listing-starts i c.requires.of_map c.args.out.now _ told),
    )

-- where the next key is looked for: behind the root, or behind the one given last
module _ (last root k : ℕ) (is : root ≡ 1) (most : k ≡ max last root) where
  first : last ≡ 0 → k ≡ 1
  first z = omega (arith, is, most, z)

  other : ¬ (last ≡ 0) → k ≡ last
  other some = omega (arith, is, most, some)

-- what the next key was told of, from the root
from-root : (i : Image) (root k : ℕ) (r : Option KeyNode) → root ≡ 1 → r ≡ given_of (next_by i.labels i.values (bit i.words) (bits_for (entries i)) root k)
    → r ≡ given_of (next_by i.labels i.values (bit i.words) (bits_for (entries i)) 1 k)
from-root i root k r is told = told ∙ ap (λ (t : ℕ). given_of (next_by i.labels i.values (bit i.words) (bits_for (entries i)) t k)) is

-- the key that is next, and what is then put
turn : (c : In-Some)
    → Turn (image_in c.args.labels c.args.values c.args.words) c.args.out.now (Open kinds.Predictive 1 c.loop-key.node) c.loop-key.at c.loop-key.out c.in-Some.key.value (Open kinds.Predictive 1 c.in-Some.key.node)
turn c =
    let i = image_in c.args.labels c.args.values c.args.words in
    let l = c.loop-key in
    let own = listing-belongs i c.requires.of_map c.args.out.now _ _ _ l.invariant.2 in
    let told = from-root i c.in-Open.top c.max.result c.next_valued.result l.invariant.1 c.next_valued.ensures in
    listing-turn i c.requires.of_map c.args.out.now _ _ _ l.invariant.2 c.requires.room _ _ _
    (next-gave i c.requires.of_map l.node c.max.result (first l.node c.in-Open.top c.max.result l.invariant.1 c.max.ensures) (other l.node c.in-Open.top c.max.result l.invariant.1 c.max.ensures) own c.next_valued.result told c.in-Some.key c.in-Some.is)

-- its key is the path of the node, as long as the node is deep
path-is : (c : In-Some) → (¬ (c.in-Some.key.node ≡ 0)) × (path_of (image_map (image_in c.args.labels c.args.values c.args.words)) c.in-Some.key.node ≡ (turn c).key)
path-is c = key-node (image_map (image_in c.args.labels c.args.values c.args.words)) c.in-Some.key.node (turn c).key (turn c).named

deep : (c : After-depth-length) → c.depth-length.result ≡ length (path_of (image_map (image_in c.args.labels c.args.values c.args.words)) c.in-Some.key.node)
deep c =
    let s = (goal.at.slice_bounds-spell-count c).In-Some in
    c.depth-length.ensures ∙ path-long (image_in c.args.labels c.args.values c.args.words) c.requires.of_map c.in-Some.key.node (path-is s).0 (turn s).belonging

long : (c : After-depth-length) → c.depth-length.result ≡ length (turn (goal.at.slice_bounds-spell-count c).In-Some).key
long c = deep c ∙ ap length (path-is (goal.at.slice_bounds-spell-count c).In-Some).1

pub slice_bounds-spell-count : goal.slice_bounds-spell-count
slice_bounds-spell-count c =
    listing-within (image_in c.args.labels c.args.values c.args.words) c.requires.of_map c.args.out.now _ _ _ c.loop-key.invariant.2 c.requires.room

pub slice_bounds-spell-start : goal.slice_bounds-spell-start
slice_bounds-spell-start c =
    listing-within (image_in c.args.labels c.args.values c.args.words) c.requires.of_map c.args.out.now _ _ _ c.loop-key.invariant.2 c.requires.room

pub overflow_add-at : goal.overflow_add-at
overflow_add-at c =
    let d = (goal.at.overflow_add-at c).After-depth-length in
    let t = turn (goal.at.overflow_add-at c).In-Some in
    record { fits = omega (arith, long d, t.room, c.loop-key.invariant.0, c.well_formed.1.1.1.0.0) }

pub put_value-at-requires : goal.put_value-at-requires
put_value-at-requires c =
    let l = c.loop-key in
    let d = (goal.at.put_value-at-requires c).After-depth-length in
    let t = turn (goal.at.put_value-at-requires c).In-Some in
    omega (arith, long d, t.room, same_len_mid l.at (length l.out - l.at) l.out c.spell.new.out c.spell.auto.out)

pub loop-key-smaller : goal.loop-key-smaller
loop-key-smaller c = (turn (goal.at.loop-key-smaller c).In-Some).less

pub loop-key-preserved : goal.loop-key-preserved
loop-key-preserved c =
    let i = image_in c.args.labels c.args.values c.args.words in
    let l = c.loop-key in
    let s = (goal.at.loop-key-preserved c).In-Some in
    let d = (goal.at.loop-key-preserved c).After-depth-length in
    let t = turn s in
    let n = c.in-Some.key.node in
    let p : Key = path_of (image_map i) n in
    let part : List ℕ = take (length l.out - l.at) (drop l.at l.out) in
    let all : part ≡ drop l.at l.out = take_all (length l.out - l.at) (drop l.at l.out) (omega (arith, length-drop l.at l.out)) in
    let fits : length p ≤ length part = omega (arith, ap length all, length-drop l.at l.out, t.room, ap length (path-is s).1) in
    let spelled : c.spell.new.out ≡ over t.key part =
    c.spell.ensures
    ∙ ap (λ (k : ℕ). spelled_by i.labels (bit i.words) (bits_for (entries i)) n k part) (deep d)
    ∙ path-put i c.requires.of_map n (path-is s).0 t.belonging part fits
    ∙ ap (λ (k : Key). over k part) (path-is s).1 in
    let put = c.put_value-at in
    let tail : List ℕ = tab_text ([], c.in-Some.key.value) in
    let spelled_at : l.at + c.depth-length.result ≡ l.at + length t.key = ap (λ (k : ℕ). l.at + k) (long d) in
    let written = ap (λ (ys : List ℕ). put_mid l.at (length l.out - l.at) l.out ys) (spelled ∙ sym t.put_is) ∙ t.left in (
      put.auto.out ∙ same_len_mid l.at (length l.out - l.at) l.out c.spell.new.out c.spell.auto.out ∙ l.invariant.0,
      l.invariant.1,
      t.then _ _ (put.ensures.answer ∙ ap (λ (k : ℕ). k + length tail) spelled_at)
          (put.ensures.left ∙ (λ j. take (spelled_at j) (written j) ++ over tail (drop (spelled_at j) (written j)))),
    )

-- where it ends no key was given
ended-gave : (d : Cursor) (n v : ℕ) (next : Cursor) → ◌≡◌ {A = Result Stepped Refusal} (Ok (steps.End d)) (Ok (steps.Gave n v next)) → ⊥
ended-gave d n v next e = let z : ◌≡◌ {A = ℕ} 0 1 = cc in absurd (omega arith)

pub returns : goal.returns
returns c =
    let i = image_in c.args.labels c.args.values c.args.words in
    let l = c.loop-key in
    let own = listing-belongs i c.requires.of_map c.args.out.now _ _ _ l.invariant.2 in
    let told = from-root i c.in-Open.top c.max.result c.next_valued.result l.invariant.1 c.next_valued.ensures in
    let none : c.next_valued.result ≡ None = c.in_default-next_valued.is in
    let ended = next-ended i c.requires.of_map l.node c.max.result (first l.node c.in-Open.top c.max.result l.invariant.1 c.max.ensures) (other l.node c.in-Open.top c.max.result l.invariant.1 c.max.ensures) own c.next_valued.result told none in
    let said = listing-ends i c.requires.of_map c.args.out.now _ _ _ l.invariant.2 _ ended (ended-gave (Finished kinds.Predictive)) in
    record { answer = said.0; out = said.1 }
