-- 01's worked lines on build, one statement over one table: the empty pool, the pools of A ("ab" 7, "b" 3) and of B ("b" 3, "ab" 7), whose image is A's,
-- all with buffers one longer than needed that held other things; A with each buffer one short; and what is no pool. Assumes nothing.
use mathlib.Core.Path.{◌≡◌, refl}
use Prim.Native.Nat.{ℕ}
use mathlib.Core.List.{List, [], ◌∷◌, map}
use lib.ListN.{replicate}
use Rattle.keymap.specs.Bits.{sum_below, number, table, pack}
use Rattle.keymap.specs.Degrees.{unary, sequence}
use Rattle.records.specs.Words.{Pool, word, last_record, used_count}
use Rattle.records.specs.SoundTest.{both, words_fit, record_fits, is_child, chain_rest, record_rest, pass_rest, root_fits, sound_test}
use Rattle.keymap.specs.Buffers.{over}
use Rattle.image.specs.LevelOrder.{sibling_records, child_records, taken_from, level_records, record_degree, pool_labels, pool_values, pool_words}
use Rattle.image.specs.Build.{buffers_fit, fit_says, build_says, build_labels, build_values, build_words, build_scratch}

pub record Buffers : Type 0 where
  pub labels : List ℕ
  pub values : List ℕ
  pub words : List ℕ
  pub scratch : List ℕ

pub record Line : Type 0 where
  pub pool : Pool
  pub before : Buffers
  pub says : List ℕ
  pub after : Buffers

abbrev buffers : List ℕ → List ℕ → List ℕ → List ℕ → Buffers
buffers ls vs ws qs = record { labels = ls; values = vs; words = ws; scratch = qs }

pool_a : Pool
pool_a = 3 ∷ 0 ∷ 1 ∷ 0 ∷ 0 ∷ 97 ∷ 0 ∷ 2 ∷ 3 ∷ 0 ∷ 354 ∷ 7 ∷ 0 ∷ 0 ∷ 1 ∷ 354 ∷ 3 ∷ 0 ∷ 0 ∷ 0 ∷ []

pool_b : Pool
pool_b = 3 ∷ 0 ∷ 2 ∷ 0 ∷ 0 ∷ 354 ∷ 3 ∷ 0 ∷ 0 ∷ 0 ∷ 97 ∷ 0 ∷ 3 ∷ 1 ∷ 0 ∷ 354 ∷ 7 ∷ 0 ∷ 0 ∷ 2 ∷ []

-- so many entries, so many words, so many of scratch
held : ℕ → ℕ → ℕ → ℕ → Buffers
held l v w q = buffers (replicate l 9) (replicate v 9) (replicate w 18446744073709551615) (replicate q 9)

refused : Pool → Buffers → ℕ → Line
refused p b k = record { pool = p; before = b; says = k ∷ []; after = b }

pub lines : List Line
lines =
    record {
      pool = replicate 5 0;
      before = held 1 1 2 1;
      says = 0 ∷ 0 ∷ [];
      after = buffers (9 ∷ []) (9 ∷ []) (1 ∷ 18446744073709551615 ∷ []) (9 ∷ []);
    }
    ∷ record {
      pool = pool_a;
      before = held 4 4 2 4;
      says = 0 ∷ 3 ∷ [];
      after = buffers (97 ∷ 354 ∷ 354 ∷ 9 ∷ []) (0 ∷ 3 ∷ 7 ∷ 9 ∷ []) (45 ∷ 18446744073709551615 ∷ []) (1 ∷ 3 ∷ 2 ∷ 9 ∷ []);
    }
    ∷ record {
      pool = pool_b;
      before = held 4 4 2 4;
      says = 0 ∷ 3 ∷ [];
      after = buffers (97 ∷ 354 ∷ 354 ∷ 9 ∷ []) (0 ∷ 3 ∷ 7 ∷ 9 ∷ []) (45 ∷ 18446744073709551615 ∷ []) (2 ∷ 1 ∷ 3 ∷ 9 ∷ []);
    }
    ∷ refused pool_a (held 2 3 1 3) 5
    ∷ refused pool_a (held 3 2 1 3) 5
    ∷ refused pool_a (held 3 3 0 3) 5
    ∷ refused pool_a (held 3 3 1 2) 5
    ∷ refused (replicate 5 0) (held 0 0 0 0) 5
    ∷ refused (1 ∷ replicate 9 0) (held 0 0 0 0) 2
    ∷ refused (replicate 4 0) (held 0 0 0 0) 1
    ∷ []

pub done : Pool → Buffers → Line
done p b = record {
  pool = p;
  before = b;
  says = build_says p b.labels b.values b.words b.scratch;
  after = buffers (build_labels p b.labels b.values b.words b.scratch) (build_values p b.labels b.values b.words b.scratch) (build_words p b.labels b.values b.words b.scratch) (build_scratch p b.labels b.values b.words b.scratch);
}

pub worked-builds : map (λ (l : Line). done l.pool l.before) lines ≡ lines
unfolding lines done pool_a pool_b held refused over sibling_records child_records taken_from level_records record_degree pool_labels pool_values pool_words buffers_fit fit_says build_says build_labels build_values build_words build_scratch sum_below number table pack unary sequence both words_fit record_fits is_child chain_rest record_rest pass_rest root_fits sound_test word last_record used_count
worked-builds = refl
