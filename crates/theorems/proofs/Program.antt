-- What the program writes: each case by what the text is answered then. Assumes nothing.
use Prim.Native.Nat.{ℕ, ◌+◌, ◌≤◌, ◌<◌}
use mathlib.Core.Path.{◌≡◌, refl, ap, ◌∙◌}
use mathlib.Core.Logic.{◌⊎◌, inl, inr}
use mathlib.Core.List.{List, [], ◌∷◌}
use Rattle.std.specs.Prelude.{Some}
use native.Mathlib.Omega.{arith}
use lib.ListN.{length}
use Rattle.keymap.proofs.Laws.Prefixes.{prefixes-empty}
use Rattle.lines.specs.Text.{entry_lines}
use Rattle.catalogue.specs.Limits.{file_limit, program_capacity}
use Rattle.catalogue.specs.TextAnswers.{text_from, text_says, text_map}
use Rattle.catalogue.specs.TextCases.{Whole, FirstRefusal}
use Rattle.catalogue.specs.Program.{answer_text, program_text}
use Rattle.catalogue.proofs.Laws.TextAnswers.{Stopped, Told, text-refuses, text-accepts, text-accepted, text-long, text-short, text-told, text-whole}
use Rattle.catalogue.proofs.Laws.Program.{listing-length}
use Rattle.theorems.specs.Program.{ProgramWrites}

-- a text that is answered so is written so
told : (text said : List ℕ) → text_says program_capacity text ≡ said → program_text (Some text) ≡ answer_text (text_map text) said
unfolding program_text
told text said h = ap (answer_text (text_map text)) h

refusal-says : (text : List ℕ) (r : FirstRefusal program_capacity text) → text_says program_capacity text ≡ r.number ∷ (1 + length r.before) ∷ []
refusal-says text r =
    text-short program_capacity text r.short
    ∙ ap (text_from program_capacity 1 []) r.cut
    ∙ text-refuses r.before r.line r.after program_capacity 1 [] (text-accepts r.before program_capacity 1 [] tt r.entries r.few) r.number r.cause

first-refusal : (text : List ℕ) → length text ≤ file_limit → Stopped program_capacity 1 [] (entry_lines text) → FirstRefusal program_capacity text
first-refusal text h s =
    let (entries, few) = text-accepted s.before program_capacity 1 [] (omega (arith, ap length prefixes-empty)) s.pushed in
    record {
      short = h;
      before = s.before;
      line = s.line;
      after = s.after;
      cut = s.cut;
      entries = entries;
      few = few;
      number = s.number;
      cause = s.cause;
    }

cases : (text : List ℕ) → (file_limit < length text) ⊎ (Whole program_capacity text ⊎ FirstRefusal program_capacity text)
cases text = go (text-told program_capacity text)
  where
    go : Told program_capacity text (text_says program_capacity text) → (file_limit < length text) ⊎ (Whole program_capacity text ⊎ FirstRefusal program_capacity text)
    go (Told.too_long h said) = inl h
    go (Told.whole w said) = inr (inl w)
    go (Told.refused h s said) = inr (inr (first-refusal text h s))

pub program-writes : ProgramWrites
unfolding program_text
program-writes = record {
  unread = refl;
  long = λ text h. told text [] (text-long program_capacity text h);
  refused = λ text r. told text _ (refusal-says text r);
  listed = λ text w. told text _ ((text-whole program_capacity text).1 w);
  cases = cases;
  fits = listing-length;
}
