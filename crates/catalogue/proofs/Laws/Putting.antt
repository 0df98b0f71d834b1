-- Laws of what is put into a buffer, one text behind the other.
--
--     over-at              a text put at a place, as more of what stands before it
--     fewest-decimal       the fewest digits that hold a number are its decimal
--     Put, put_front       a text at a buffer's start
--     put-behind           texts put one behind the other are one text, and `put-from`: behind what stands before a
--                          place
--     put_refused          the text of a refusal, and `length-parts`, `length-refused`: its length, at most 55 bytes
-- Assumes nothing.
use mathlib.Core.Path.{◌≡◌, refl, sym, ap, subst, ◌∙◌}
use Prim.Native.Nat.{ℕ, zero, suc, ◌+◌, ◌/◌, ◌%◌, ◌^◌, ◌≤◌, ◌<◌}
use native.Mathlib.Omega.{arith}
use mathlib.Core.List.{List, [], ◌∷◌, ◌++◌, append_assoc}
use lib.ListN.{length, take, drop, length-append, take-append-drop}
use lib.Seq.{length-take-le, drop-drop}
use borrow.Author.Tests.{lt-ltb}
use Rattle.io.specs.Digits.{hex_digit_ascii, last_digits, IsDigitCount}
use Rattle.keymap.specs.Buffers.{over}
use Rattle.keymap.proofs.Laws.Buffers.{over_none, over-behind, take-over}
use Rattle.lines.specs.Bytes.{line_feed}
use Rattle.lines.specs.Decimal.{zero_digit, decimal}
use Rattle.lines.proofs.Laws.Decimal.{length-decimal, length-decimal-is, final_digits, final_digits-all}
use Rattle.catalogue.specs.Program.{refused_word, line_word, refused_text}

-- ---- at a place

pub over-at : (at : ℕ) (xs ys : List ℕ) → at ≤ length ys → over (take at ys ++ xs) ys ≡ take at ys ++ over xs (drop at ys)
unfolding over
over-at at xs ys h =
    let front : length (take at ys ++ xs) ≡ at + length xs = length-append (take at ys) xs ∙ ap (λ (k : ℕ). k + length xs) (length-take-le at ys h) in
    append_assoc (take at ys) xs (drop (length (take at ys ++ xs)) ys)
    ∙ ap (λ (zs : List ℕ). take at ys ++ (xs ++ zs)) (ap (λ (k : ℕ). drop k ys) front ∙ sym (drop-drop (length xs) at ys))

-- ---- digits

digits_last : (k n : ℕ) → last_digits 10 k n ≡ final_digits k n
unfolding final_digits
digits_last zero n = refl
digits_last (suc k) n =
    let glyph-ten : hex_digit_ascii (n % 10) ≡ zero_digit + n % 10 = rw (lt-ltb (n % 10) 10 (omega arith)) in
    let tenth = digits_last k (n / 10) in
    λ i. tenth i ++ (glyph-ten i ∷ [])

pub fewest-decimal : (k n : ℕ) → IsDigitCount 10 1 n k → last_digits 10 k n ≡ decimal n
fewest-decimal zero n (some-digit, below, least) = absurd (omega arith)
fewest-decimal (suc k) n (some-digit, below, least) =
    let long : length (decimal n) ≡ suc k = length-decimal-is k n below (λ h. subst (λ (j : ℕ). 10 ^ j ≤ n) (omega arith) (least (omega arith))) in
    digits_last (suc k) n ∙ ap (λ (j : ℕ). final_digits j n) (sym long) ∙ final_digits-all n

-- ---- one text behind the other

-- a text stands at the buffer's start and ends at a place
abbrev pub Put : (text out₀ : List ℕ) → ℕ → List ℕ → Type 0
Put text out₀ at out = (at ≡ length text) × (out ≡ over text out₀)

pub put-start : (out₀ : List ℕ) → Put [] out₀ 0 out₀
put-start out₀ = (refl, sym (over_none out₀))

-- it is then read from the start
pub put_front : (text out₀ : List ℕ) (at : ℕ) (out : List ℕ) → Put text out₀ at out → (at ≤ length out) × (take at out ≡ text)
unfolding over
put_front text out₀ at out (e, o) = (
  omega (arith, e, ap length o, length-append text (drop (length text) out₀)),
  ap (take at) o ∙ ap (λ (k : ℕ). take k (over text out₀)) e ∙ take-over text out₀,
)

pub put-behind : (s t out₀ : List ℕ) (at : ℕ) (out : List ℕ) (next : ℕ) (more : List ℕ) → Put s out₀ at out → next ≡ at + length t
    → more ≡ take at out ++ over t (drop at out) → Put (s ++ t) out₀ next more
put-behind s t out₀ at out next more (e, o) n h = (
  omega (arith, n, e, length-append s t),
  h ∙ ap (λ (x : List ℕ). take at x ++ over t (drop at x)) o ∙ over-behind s t out₀ at (sym e),
)

pub put_refused : (number line : ℕ) (out₀ : List ℕ) (at : ℕ) (out : List ℕ)
    → Put ((((refused_word ++ decimal number) ++ line_word) ++ decimal line) ++ (line_feed ∷ [])) out₀ at out → Put (refused_text number line) out₀ at out
unfolding refused_text
put_refused number line out₀ at out (e, o) =
    let d : List ℕ = decimal number in
    let f : List ℕ = decimal line in
    let same : (((refused_word ++ d) ++ line_word) ++ f) ++ (line_feed ∷ []) ≡ refused_word ++ (d ++ (line_word ++ (f ++ (line_feed ∷ [])))) =
    append_assoc ((refused_word ++ d) ++ line_word) f (line_feed ∷ [])
    ∙ append_assoc (refused_word ++ d) line_word (f ++ (line_feed ∷ []))
    ∙ append_assoc refused_word d (line_word ++ (f ++ (line_feed ∷ []))) in
    (e ∙ ap length same, o ∙ ap (λ (t : List ℕ). over t out₀) same)

pub length-parts : (number line : ℕ) → length (refused_text number line) ≡ 8 + length (decimal number) + 6 + length (decimal line) + 1
unfolding refused_text
length-parts number line =
    let d : List ℕ = decimal number in
    let f : List ℕ = decimal line in
    omega (arith, length-append d (line_word ++ (f ++ (line_feed ∷ []))), length-append f (line_feed ∷ []))

pub length-refused : (number line : ℕ) → number < 2 ^ 64 → line < 2 ^ 64 → length (refused_text number line) ≤ 55
length-refused number line n l = omega (arith, length-parts number line, length-decimal 19 number (omega (arith, n)), length-decimal 19 line (omega (arith, l)))

-- what stands before a place is put already
pub put-from : (at : ℕ) (out : List ℕ) → at ≤ length out → Put (take at out) out at out
unfolding over
put-from at out h = (
  sym (length-take-le at out h),
  sym (ap (λ (k : ℕ). take at out ++ drop k out) (length-take-le at out h) ∙ take-append-drop at out),
)
