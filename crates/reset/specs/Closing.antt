-- The rows while they close up in place. Assumes nothing.
use Rattle.std.specs.Prelude.{ℕ, ◌+◌, ◌≡◌, cond, List, ◌++◌, length, drop, get_or}
use Rattle.block.specs.Content.{Content, WellFormed}
use Rattle.block.specs.Tables.{row_put}
use Rattle.block.specs.declared.tables.Table.TheVariants.{Static as static}
use Rattle.block.specs.Image.{image, content_of}
use Rattle.block.specs.Lookup.{no_static}
use Rattle.block.specs.declared.rows.StaticRow.{StaticRow}
use Rattle.reset.specs.Reset.{goes, stay}

-- those of xs, the first rows of es, that stay, and behind them rows of es as they were
abbrev pub closing : (xs es : List (ℕ × StaticRow)) → List (ℕ × StaticRow)
closing xs es = stay xs ++ drop (length (stay xs)) es

-- octets that are the image of the content that they say
pub record IsImage (b : List ℕ) : Type 0 where
  pub same : image (content_of b) ≡ b
  pub shape : WellFormed (content_of b)

-- a turn: the row at place i is written at place j if it stays; and the next free place
abbrev pub row_at : Content → ℕ → ℕ × StaticRow
row_at c i = get_or c.statics i no_static

abbrev pub moved : Content → (j i : ℕ) → Content
moved c j i = cond (goes (row_at c i).1) c (row_put static c j (row_at c i))

abbrev pub next_free : Content → (j i : ℕ) → ℕ
next_free c j i = cond (goes (row_at c i).1) j (j + 1)
