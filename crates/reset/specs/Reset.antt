-- A reset (paper 02, E14): "static rows of status 4 (deleteOnReset) go, the remaining rows close up in order, .. all other contents stay". Assumes nothing.
use Rattle.std.specs.Prelude.{ℕ, Bool, cond, List, [], ◌∷◌, eqb}
use Rattle.block.specs.Content.{Content, with_statics}
use Rattle.block.specs.Image.{image, content_of}
use Rattle.block.specs.Valid.{legal}
use Rattle.block.specs.declared.rows.StaticRow.{StaticRow}

abbrev pub delete_on_reset : ℕ
delete_on_reset = 4

-- a row that a reset removes
abbrev pub goes : StaticRow → Bool
goes r = eqb r.status delete_on_reset

-- the rows that stay, in their order
unfoldable pub stay : List (ℕ × StaticRow) → List (ℕ × StaticRow)
stay [] = []
stay (e ∷ es) = cond (goes e.1) (stay es) (e ∷ stay es)

-- the content after a reset
abbrev pub after_reset : Content → Content
after_reset c = with_statics c (stay c.statics)

-- "Refusals: only 3": the number of a call, and the block after it
abbrev pub reset_number : List ℕ → ℕ
reset_number b = cond (legal b) 0 3

abbrev pub reset_block : List ℕ → List ℕ
reset_block b = cond (legal b) (image (after_reset (content_of b))) b
