-- What is proved of a reset, for readers; `proofs/Theorems.antt` proves each statement. Assumes nothing.
use Rattle.std.specs.Prelude.{ℕ, ◌≡◌, true, cond, List}
use Rattle.std.proofs.Math.Option.{Option, none, some}
use Rattle.block.specs.Image.{content_of}
use Rattle.block.specs.Lookup.{lookup}
use Rattle.block.specs.Valid.{legal}
use Rattle.block.specs.declared.rows.StaticRow.{StaticRow}
use Rattle.reset.specs.Reset.{goes, after_reset, reset_block}

-- A legal block stays legal, and its content is the content without the rows of status 4.
abbrev pub ResetKeepsLegal : Type 0
ResetKeepsLegal = (b : List ℕ) → legal b ≡ true → (legal (reset_block b) ≡ true) × (content_of (reset_block b) ≡ after_reset (content_of b))

-- "No call but set-up changes a block's edition" (E4), here a reset, of any octets.
abbrev pub ResetKeepsEdition : Type 0
ResetKeepsEdition = (b : List ℕ) → (content_of (reset_block b)).edition ≡ (content_of b).edition

-- No call but set-up changes a block's device ("a second device chosen at set-up", E12), here a reset, of any octets.
abbrev pub ResetKeepsDevice : Type 0
ResetKeepsDevice = (b : List ℕ) → (content_of (reset_block b)).device ≡ (content_of b).device

-- "Resetting twice equals resetting once", of any octets.
abbrev pub ResetTwice : Type 0
ResetTwice = (b : List ℕ) → reset_block (reset_block b) ≡ reset_block b

-- what a reset makes of a row, if it is there
abbrev pub row_after : Option StaticRow → Option StaticRow
row_after none = none
row_after (some r) = cond (goes r) none (some r)

-- Row by row: of a legal block, a row of status 4 is gone, and every other row is there as it was.
abbrev pub ResetRows : Type 0
ResetRows = (b : List ℕ) (k : ℕ) → legal b ≡ true → lookup k (content_of (reset_block b)).statics ≡ row_after (lookup k (content_of b).statics)
