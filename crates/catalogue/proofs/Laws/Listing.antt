-- A listing put into a buffer, entry by entry: what stands before the place to go on from, and the text of the rest, are together the text of the map.
--
--     start-told              no start on a map's image is refused
--     Listed, listing-starts  before the first step; `listing-within`: the place is inside the buffer;
--                             `listing-belongs`: the cursor belongs
--     listing-opens, listing-none  where the listing begins, and that without an entry it does not
--     Turn, listing-turn      a step that gave an entry: its key and what stands behind the key have room, and with
--                             them put the listing stands behind it
--     listing-ends            a step that gave none: the text of the map is put
-- Assumes nothing.
use mathlib.Core.Path.{◌≡◌, refl, sym, ap, subst, ◌∙◌}
use mathlib.Core.Logic.{inl}
use Prim.Native.Nat.{ℕ, ◌+◌, ◌-◌, ◌≤◌, ◌<◌}
use native.Mathlib.Omega.{arith}
use mathlib.Core.Bool.{true, cond, true≢false}
use mathlib.Core.List.{List, [], ◌∷◌, ◌++◌, append_assoc, append-nil}
use Rattle.std.specs.Prelude.{Option, None, Some, Result, Ok, Err}
use Rattle.keymap.specs.declared.refusals.Refusal.{Refusal}
use lib.ListN.{length, take, drop, length-append, length-drop, drop_of_length-le}
use lib.Seq.{take_all}
use lib.Dec.{leb}
use borrow.Author.Tests.{le-leb}
use Rattle.keymap.specs.Members.{In, head_of}
use Rattle.keymap.specs.Key.{Key, begins_with}
use Rattle.keymap.specs.Map.{Entry, Map, Rising}
use Rattle.keymap.specs.Queries.{nonempty, beginning}
use Rattle.keymap.specs.Image.{Image}
use Rattle.keymap.specs.Decode.{image_map}
use Rattle.keymap.specs.Paths.{nodes, path_of, node_of}
use Rattle.keymap.specs.Buffers.{over}
use Rattle.keymap.proofs.Laws.Begins.{prefix-empty}
use Rattle.keymap.proofs.Laws.Queries.{keep_all}
use Rattle.keymap.proofs.Laws.Paths.{path_of-node_of, node_of-node, node_of-root, nodes-iff}
use Rattle.keymap.proofs.Laws.Buffers.{length_over}
use Rattle.image.specs.Meaning.{MapImage}
use Rattle.image.proofs.Laws.Meaning.{map_image-tested}
use Rattle.lines.specs.Bytes.{tab, line_feed}
use Rattle.lines.specs.Decimal.{decimal}
use Rattle.lines.specs.Writing.{tab_line, tab_text, map_text}
use Rattle.listings.specs.declared.answers.Kind.{Kind}
use Rattle.listings.specs.declared.answers.Kind.TheVariants as kinds
use Rattle.listings.specs.declared.answers.Cursor.{Cursor}
use Rattle.listings.specs.declared.answers.Cursor.TheVariants.{Open, Finished}
use Rattle.listings.specs.declared.answers.Stepped.{Stepped}
use Rattle.listings.specs.declared.answers.Stepped.TheVariants as steps
use Rattle.listings.specs.Answers.{said_cursor, said_started, said_stepped}
use Rattle.listings.specs.Cursors.{set_of, belongs, start_says, next_in, says_step, step_in, step_says}
use Rattle.listings.specs.GivenKey.{key_of, key_says, key_out}
use Rattle.listings.proofs.Laws.Answers.{said_cursor-one, said_stepped-one}
use Rattle.listings.proofs.Laws.Cursors.{belongs-fresh, start_says-accepted}
use Rattle.pool.specs.Answers.{accepted}
use Rattle.catalogue.proofs.Laws.Filling.{not-accepted}
use Rattle.catalogue.proofs.Laws.Putting.{Put, put-start, put-behind}
use Rattle.catalogue.proofs.Laws.Next.{next_entry, cursor_after, kind_of, rest_of, next-head, next-belongs, next-key, rest-step}

-- ---- where a cursor stands

-- a cursor of the listing, and the entries that are still to be given
record Stands (i : Image) (c : Cursor) (rest : Map) : Type 0 where
  belonging : belongs (image_map i) c ≡ true
  predictive : kind_of c ≡ kinds.Predictive
  rest-is : rest_of (image_map i) c ≡ rest

next-kind : (m : Map) (c : Cursor) (e : Entry) → kind_of (cursor_after m c e) ≡ kind_of c
next-kind m (Open kind top last) e = refl
next-kind m (Finished kind) e = refl

-- all keys begin with the empty query
beginning-all : (m : Map) → beginning [] m ≡ m
unfolding beginning
beginning-all m = keep_all (λ (e : Entry). begins_with [] e.0) m (λ e i. prefix-empty e.0)

finished-belongs : (m : Map) (kind : Kind) → belongs m (Finished kind) ≡ true
unfolding belongs
finished-belongs m kind = refl

-- the cursor that a start gives, by the entries that there are: at the root of m, or finished
abbrev begun : Map → Map → Cursor
begun m entries = cond (nonempty entries) (Open kinds.Predictive (node_of m []) 0) (Finished kinds.Predictive)

start-is : (i : Image) → MapImage i → (c : Cursor) → said_started (Ok c) ≡ start_says kinds.Predictive i []
    → c ≡ begun (image_map i) (image_map i)
start-is i image c h = at (begun m m) (h ∙ start_says-accepted i kinds.Predictive [] (map_image-tested i image) ∙ ap (λ (x : Map). 0 ∷ said_cursor (begun m x)) (beginning-all m))
  where
    m : Map
    m = image_map i

    at : (d : Cursor) → 0 ∷ said_cursor c ≡ 0 ∷ said_cursor d → c ≡ d
    at d q = let cursors : said_cursor c ≡ said_cursor d = cc in said_cursor-one c d cursors

start-rest : (i : Image) → MapImage i → (c : Cursor) → said_started (Ok c) ≡ start_says kinds.Predictive i [] → Stands i c (image_map i)
start-rest i image c h = go m refl
  where
    m : Map
    m = image_map i

    root : In [] (nodes m)
    root = (nodes-iff m []).1 (inl refl)

    go : (n : Map) → m ≡ n → Stands i c (image_map i)
    go [] e =
        let is : c ≡ Finished kinds.Predictive = start-is i image c h ∙ ap (begun m) e in
        record { belonging = ap (belongs m) is ∙ finished-belongs m kinds.Predictive; predictive = ap kind_of is; rest-is = ap (rest_of m) is ∙ sym e }
    go (d ∷ n) e =
        let is : c ≡ Open kinds.Predictive (node_of m []) 0 = start-is i image c h ∙ ap (begun m) e in
        record {
          belonging = ap (belongs m) is ∙ belongs-fresh m image.catalogue.rising kinds.Predictive (node_of m []) (node_of-node m [] root);
          predictive = ap kind_of is;
          rest-is = ap (rest_of m) is ∙ ap (λ (q : Key). set_of m kinds.Predictive q) (path_of-node_of m [] root) ∙ beginning-all m;
        }

pub start-told : (i : Image) → MapImage i → (q : Key) (r : Refusal) → ¬ (said_started (Err r) ≡ start_says kinds.Predictive i q)
start-told i image q r h =
    let told = h ∙ start_says-accepted i kinds.Predictive q (map_image-tested i image) in
    true≢false (sym (ap accepted told) ∙ not-accepted r)

-- ---- what a step answered

abbrev end_of : Cursor → Cursor
end_of (Open kind top last) = Finished kind
end_of (Finished kind) = Finished kind

abbrev stepped_to : Map → Cursor → Option Entry → Stepped
stepped_to m c None = steps.End (end_of c)
stepped_to m c (Some e) = steps.Gave (node_of m e.0) e.1 (cursor_after m c e)

step_in_lem : (m : Map) (c : Cursor) → step_in m c ≡ said_stepped (Ok (stepped_to m c (next_entry m c)))
step_in_lem m (Open kind top last) = go (next_in m (set_of m kind (path_of m top)) last)
  where
    go : (o : Option Entry) → says_step m kind top o ≡ said_stepped (Ok (stepped_to m (Open kind top last) o))
    go None = refl
    go (Some e) = refl
step_in_lem m (Finished kind) = refl

stands-step : (i : Image) → MapImage i → (c : Cursor) (rest : Map) → Stands i c rest → (r : Result Stepped Refusal) → said_stepped r ≡ step_says i c → r ≡ Ok (stepped_to (image_map i) c (head_of rest))
unfolding step_says
stands-step i image c rest s r h =
    let m : Map = image_map i in
    let next : next_entry m c ≡ head_of rest = next-head m c ∙ ap head_of s.rest-is in
    said_stepped-one r (Ok (stepped_to m c (head_of rest)))
    (h ∙ rw (map_image-tested i image, s.belonging) (step_in_lem m c) ∙ ap (λ (o : Option Entry). said_stepped (Ok (stepped_to m c o))) next)

-- the key of a cursor, in a buffer that holds it
key-put : (i : Image) → MapImage i → (c : Cursor) → belongs (image_map i) c ≡ true → (k : Key) → key_of (image_map i) c ≡ Some k → (out : List ℕ) → length k ≤ length out
    → (key_says i c out ≡ 0 ∷ length k ∷ []) × (key_out i c out ≡ over k out)
unfolding key_says key_out over
key-put i image c b k is out fits =
    let room : leb (length k) (length out) ≡ true = le-leb _ _ fits in
    (rw (map_image-tested i image, b, is, room), rw (map_image-tested i image, b, is, room))

-- ---- the listing

-- a key, and what stands behind it
text-parts : (e : Entry) → tab_text e ≡ e.0 ++ tab_text ([], e.1)
unfolding tab_text tab_line
text-parts e = append_assoc e.0 (tab ∷ decimal e.1) (line_feed ∷ [])

-- so far s is put, and the text of the rest makes it the text of the map
pub record Listed (i : Image) (out₀ : List ℕ) (c : Cursor) (at : ℕ) (out : List ℕ) : Type 0 where
  s : List ℕ
  rest : Map
  stands : Stands i c rest
  put : Put s out₀ at out
  whole : s ++ map_text rest ≡ map_text (image_map i)

-- a step gave an entry with that value, and the cursor behind it
pub record Turn (i : Image) (out₀ : List ℕ) (c : Cursor) (at : ℕ) (out : List ℕ) (v : ℕ) (next : Cursor) : Type 0 where
  pub key : Key
  pub named : key_of (image_map i) next ≡ Some key
  pub belonging : belongs (image_map i) next ≡ true
  pub put_is : key_out i next (take (length out - at) (drop at out)) ≡ over key (take (length out - at) (drop at out))
  pub says : key_says i next (take (length out - at) (drop at out)) ≡ 0 ∷ length key ∷ []
  pub left : take at out ++ (key_out i next (take (length out - at) (drop at out)) ++ drop (length out - at) (drop at out)) ≡ take at out ++ over key (drop at out)
  pub room : at + length key + length (tab_text ([], v)) ≤ length out
  pub less : length (rest_of (image_map i) next) < length (rest_of (image_map i) c)
  pub then : (to : ℕ) (more : List ℕ) → to ≡ at + length key + length (tab_text ([], v))
      → more ≡ take (at + length key) (take at out ++ over key (drop at out)) ++ over (tab_text ([], v)) (drop (at + length key) (take at out ++ over key (drop at out)))
      → Listed i out₀ next to more

module _ (i : Image) (image : MapImage i) (out₀ : List ℕ) where
  abbrev m : Map
  m = image_map i

  -- an open cursor of the start stands at the root, and has given nothing
  pub listing-opens : (kind : Kind) (top last : ℕ) → said_started (Ok (Open kind top last)) ≡ start_says kinds.Predictive i [] → (top ≡ 1) × (last ≡ 0) × (Open kind top last ≡ Open kinds.Predictive 1 0)
  listing-opens kind top last h = go m refl
    where
      go : (n : Map) → m ≡ n → (top ≡ 1) × (last ≡ 0) × (Open kind top last ≡ Open kinds.Predictive 1 0)
      go [] e =
          let is : Open kind top last ≡ Finished kinds.Predictive = start-is i image (Open kind top last) h ∙ ap (begun m) e in
          let z : ◌≡◌ {A = ℕ} 0 1 = cc in absurd (omega arith)
      go (d ∷ n) e =
          let is : Open kind top last ≡ Open kinds.Predictive 1 0 = start-is i image (Open kind top last) h ∙ ap (begun m) e ∙ ap (λ (k : ℕ). Open kinds.Predictive k 0) (node_of-root m) in
          (cc, cc, is)

  -- a start that is finished: there is no entry
  pub listing-none : (kind : Kind) → said_started (Ok (Finished kind)) ≡ start_says kinds.Predictive i [] → Put (map_text m) out₀ 0 out₀
  unfolding map_text
  listing-none kind h = go m refl
    where
      go : (n : Map) → m ≡ n → Put (map_text m) out₀ 0 out₀
      go [] e = subst (λ (n : Map). Put (map_text n) out₀ 0 out₀) (sym e) (put-start out₀)
      go (d ∷ n) e =
          let is : Finished kind ≡ Open kinds.Predictive (node_of m []) 0 = start-is i image (Finished kind) h ∙ ap (begun m) e in
          let z : ◌≡◌ {A = ℕ} 0 1 = cc in absurd (omega arith)

  pub listing-starts : (c : Cursor) → said_started (Ok c) ≡ start_says kinds.Predictive i [] → Listed i out₀ c 0 out₀
  listing-starts c h = record { s = []; rest = m; stands = start-rest i image c h; put = put-start out₀; whole = refl }

  module _ (c : Cursor) (at : ℕ) (out : List ℕ) (l : Listed i out₀ c at out) where
    pub listing-belongs : belongs m c ≡ true
    listing-belongs = l.stands.belonging

    -- the place is inside the buffer
    pub listing-within : length (map_text m) ≤ length out₀ → at ≤ length out
    listing-within fits =
        let (e, o) = l.put in
        let long : length l.s + length (map_text l.rest) ≡ length (map_text m) = sym (length-append l.s (map_text l.rest)) ∙ ap length l.whole in
        omega (arith, e, fits, long, ap length o, length_over l.s out₀ (omega (arith, fits, long)))

    pub listing-ends : (r : Result Stepped Refusal) → said_stepped r ≡ step_says i c → ((n v : ℕ) (d : Cursor) → ¬ (r ≡ Ok (steps.Gave n v d))) → Put (map_text m) out₀ at out
    unfolding map_text
    listing-ends r h none-given = go l.rest refl
      where
        is : r ≡ Ok (stepped_to m c (head_of l.rest))
        is = stands-step i image c l.rest l.stands r h

        go : (n : Map) → l.rest ≡ n → Put (map_text m) out₀ at out
        go [] e =
            let all : l.s ≡ map_text m = sym (append-nil l.s) ∙ ap (λ (n : Map). l.s ++ map_text n) (sym e) ∙ l.whole in
            subst (λ (t : List ℕ). Put t out₀ at out) all l.put
        go (e ∷ n) q = absurd (none-given _ _ _ (is ∙ ap (λ (x : Map). Ok (stepped_to m c (head_of x))) q))

    pub listing-turn : length (map_text m) ≤ length out₀ → (n v : ℕ) (next : Cursor) → said_stepped (Ok (steps.Gave n v next)) ≡ step_says i c → Turn i out₀ c at out v next
    unfolding map_text
    listing-turn fits n v next h = go l.rest refl
      where
        is : ◌≡◌ {A = Result Stepped Refusal} (Ok (steps.Gave n v next)) (Ok (stepped_to m c (head_of l.rest)))
        is = stands-step i image c l.rest l.stands (Ok (steps.Gave n v next)) h

        turn : (e : Entry) (rest : Map) → l.rest ≡ e ∷ rest → v ≡ e.1 → (d : Cursor) → cursor_after m c e ≡ d → Turn i out₀ c at out v d
        turn e rest q value d to =
            let tail : List ℕ = tab_text ([], v) in
            let r : Rising m = image.catalogue.rising in
            let st = l.stands in
            let (pe, po) = l.put in
            let given : next_entry m c ≡ Some e = next-head m c ∙ ap head_of (st.rest-is ∙ q) in
            let belonging : belongs m d ≡ true = ap (belongs m) (sym to) ∙ next-belongs m r c e st.belonging given in
            let key-of : key_of m d ≡ Some e.0 = ap (key_of m) (sym to) ∙ next-key m r c e st.predictive given in
            let rests : e ∷ rest_of m (cursor_after m c e) ≡ e ∷ rest = sym (rest-step m r c e given) ∙ st.rest-is ∙ q in
            let behind : rest_of m (cursor_after m c e) ≡ rest = cc in
            let at_rest : rest_of m d ≡ rest = ap (rest_of m) (sym to) ∙ behind in
            let text : map_text l.rest ≡ tab_text e ++ map_text rest = ap map_text q in
            let long : length l.s + length (map_text l.rest) ≡ length (map_text m) = sym (length-append l.s (map_text l.rest)) ∙ ap length l.whole in
            let long_rest : length (map_text l.rest) ≡ length (tab_text e) + length (map_text rest) = ap length text ∙ length-append (tab_text e) (map_text rest) in
            let same-tail : tab_text ([], e.1) ≡ tail = ap (λ (x : ℕ). tab_text ([], x)) (sym value) in
            let parts : tab_text e ≡ e.0 ++ tail = text-parts e ∙ ap (λ (t : List ℕ). e.0 ++ t) same-tail in
            let long-text : length (tab_text e) ≡ length e.0 + length tail = ap length parts ∙ length-append e.0 tail in
            let size : length out ≡ length out₀ = ap length po ∙ length_over l.s out₀ (omega (arith, fits, long)) in
            let room : at + length e.0 + length tail ≤ length out = omega (arith, fits, long, long_rest, long-text, size, pe) in
            let keyed = key-put i image d belonging e.0 key-of (drop at out) (omega (arith, room, length-drop at out)) in
            let all : take (length out - at) (drop at out) ≡ drop at out = take_all (length out - at) (drop at out) (omega (arith, length-drop at out)) in
            record {
              key = e.0;
              named = key-of;
              belonging = belonging;
              put_is = ap (key_out i d) all ∙ keyed.1 ∙ ap (over e.0) (sym all);
              says = ap (key_says i d) all ∙ keyed.0;
              left =
                  ap (λ (xs : List ℕ). take at out ++ (key_out i d xs ++ drop (length out - at) (drop at out))) all
                  ∙ ap (λ (xs : List ℕ). take at out ++ (key_out i d (drop at out) ++ xs)) (drop_of_length-le (drop at out) {i = length out - at} (omega (arith, length-drop at out)))
                  ∙ ap (λ (xs : List ℕ). take at out ++ xs) (append-nil (key_out i d (drop at out)) ∙ keyed.1);
              room = room;
              less = omega (arith, ap length at_rest, ap length (st.rest-is ∙ q));
              then =
                  λ next-at more a b.
                  record {
                    s = (l.s ++ e.0) ++ tail;
                    rest = rest;
                    stands = record { belonging = belonging; predictive = ap kind_of (sym to) ∙ next-kind m c e ∙ st.predictive; rest-is = at_rest };
                    put =
                        put-behind (l.s ++ e.0) tail out₀ (at + length e.0) (take at out ++ over e.0 (drop at out)) next-at more
                        (put-behind l.s e.0 out₀ at out (at + length e.0) (take at out ++ over e.0 (drop at out)) l.put refl refl) a b;
                    whole =
                        append_assoc (l.s ++ e.0) tail (map_text rest)
                        ∙ append_assoc l.s e.0 (tail ++ map_text rest)
                        ∙ ap (λ (t : List ℕ). l.s ++ t) (sym (append_assoc e.0 tail (map_text rest)) ∙ ap (λ (t : List ℕ). t ++ map_text rest) (sym parts) ∙ sym text)
                        ∙ l.whole;
                  };
            }

        go : (rest : Map) → l.rest ≡ rest → Turn i out₀ c at out v next
        go [] q =
            let none-given : ◌≡◌ {A = Result Stepped Refusal} (Ok (steps.Gave n v next)) (Ok (steps.End (end_of c))) = is ∙ ap (λ (x : Map). Ok (stepped_to m c (head_of x))) q in
            let z : ◌≡◌ {A = ℕ} 0 1 = cc in absurd (omega arith)
        go (e ∷ rest) q =
            let gave : ◌≡◌ {A = Result Stepped Refusal} (Ok (steps.Gave n v next)) (Ok (steps.Gave (node_of m e.0) e.1 (cursor_after m c e))) = is ∙ ap (λ (x : Map). Ok (stepped_to m c (head_of x))) q in
            let value : v ≡ e.1 = cc in
            let to-next : cursor_after m c e ≡ next = cc in
            turn e rest q value next to-next
