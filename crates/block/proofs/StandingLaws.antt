-- What a block says of a growing table, by where the table stands. Assumes nothing.
use mathlib.Core.Path.{◌≡◌, sym, ap, ◌∙◌}
use mathlib.Core.List.{List, ◌++◌, append_assoc}
use Prim.Native.Nat.{ℕ, ◌+◌, ◌*◌, ◌^◌, ◌≤◌, ◌<◌}
use native.Mathlib.Omega.{arith}
use lib.ListN.{length, get_or, take, drop, take-append-drop, get_or-map}
use lib.Seq.{length-take-le}
use Rattle.octets.specs.Numbers.{be_at}
use Rattle.octets.specs.Parts.{patch}
use Rattle.octets.proofs.NumberLaws.{Octets, be_at-left, be_at-lt}
use Rattle.block.specs.Layout.{block_size}
use Rattle.block.specs.Image.{content_of}
use Rattle.block.specs.Lookup.{Sized, keys_of}
use Rattle.block.specs.Tables.{Table, vlan, static, pair, rows_of, most, standing}
use Rattle.block.proofs.RowLaws.{get_d-rows_at, row_inside}
use Rattle.block.proofs.ReadLaws.{many-in, keys-are}

-- a table's count stands before its rows, and these in the block; a key stands in its row, and has at most eight octets
pub stands : (t : Table) → ((standing t).count + 4 ≤ (standing t).rows) × ((standing t).rows ≤ block_size) × ((standing t).key ≤ (standing t).width) × ((standing t).key ≤ 8) × (most t ≤ 256)
stands vlan = omega arith
stands static = omega arith
stands pair = omega arith

-- as many rows as there is room for are in a block
pub room-inside : (t : Table) (n : ℕ) → n ≤ most t → (standing t).rows + n * (standing t).width ≤ block_size
room-inside vlan n h = omega arith
room-inside static n h = omega arith
room-inside pair n h = omega arith

-- the key of a row is that of its entry
pub key-at : {R : Type 0} (es : List (ℕ × R)) (i : ℕ) (d : R) → get_or (keys_of es) i 0 ≡ (get_or es i (0, d)).0
key-at es i d = get_or-map (λ e. e.0) es i (0, d)

-- a number that stands before what is written stays
pub be_at-before : (b : List ℕ) (p : ℕ) (xs : List ℕ) (q w : ℕ) → q + w ≤ p → p ≤ length b → be_at (patch b p xs) q w ≡ be_at b q w
unfolding patch
be_at-before b p xs q w h l =
    let f : q + w ≤ length (take p b) = omega (arith, length-take-le p b l) in
    ap (λ (x : List ℕ). be_at x q w) (append_assoc (take p b) xs (drop (p + length xs) b))
    ∙ be_at-left (take p b) (xs ++ drop (p + length xs) b) q w f
    ∙ sym (be_at-left (take p b) (drop p b) q w f)
    ∙ ap (λ (x : List ℕ). be_at x q w) (take-append-drop p b)

module _ (b : List ℕ) where
  -- a table has at most as many rows as there is room for
  pub few-rows : (t : Table) → Sized b → be_at b (standing t).count 4 ≤ most t
  few-rows vlan s = s.few_vlans
  few-rows static s = s.few_statics
  few-rows pair s = s.few_pairs

  -- the key of the row at place i, where it stands
  pub key-is : (t : Table) (i : ℕ) → i < length (rows_of t (content_of b)) → get_or (keys_of (rows_of t (content_of b))) i 0 ≡ be_at b ((standing t).rows + i * (standing t).width) (standing t).key
  key-is t i h =
      ap (λ (ks : List ℕ). get_or ks i 0) (keys-are b t)
      ∙ get_d-rows_at (λ x q. be_at x q (standing t).key) (standing t).width b (standing t).rows (be_at b (standing t).count 4) i 0 (omega (arith, many-in b t))

  -- it has as many octets as the table's keys
  pub key-small : (t : Table) (i : ℕ) → Octets b → i < length (rows_of t (content_of b)) → get_or (keys_of (rows_of t (content_of b))) i 0 < 256 ^ (standing t).key
  key-small t i o h = rw (key-is t i h) (be_at-lt b ((standing t).rows + i * (standing t).width) (standing t).key o)

  -- its rows, and the one at place i of them, are in the block
  pub rows_inside : (t : Table) → Sized b → (standing t).rows + be_at b (standing t).count 4 * (standing t).width ≤ length b
  rows_inside t s = omega (arith, s.long, room-inside t (be_at b (standing t).count 4) (few-rows t s))

  pub row-ends-in : (t : Table) (i : ℕ) → Sized b → i < length (rows_of t (content_of b)) → (standing t).rows + i * (standing t).width + (standing t).width ≤ length b
  row-ends-in t i s h = omega (arith, rows_inside t s, row_inside i (be_at b (standing t).count 4) (standing t).width (omega (arith, many-in b t)))
