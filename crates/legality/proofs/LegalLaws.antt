-- What the loops of `src/legal.rt` make of the definitions of `specs/Valid.antt`. Assumes nothing.
use mathlib.Core.Path.{◌≡◌, refl, sym, ap, ◌∙◌}
use mathlib.Core.Bool.{Bool, true, false, cond, ◌&&◌, ◌||◌, and_assoc, and-true, and-false}
use mathlib.Core.List.{List, [], ◌∷◌}
use Prim.Native.Nat.{ℕ, zero, suc, ◌+◌, ◌-◌, ◌*◌, ◌/◌, ◌%◌, ◌^◌, ◌≤◌, ◌<◌}
use native.Mathlib.Nat.{add-zero, zero-add, suc-add}
use native.Mathlib.Numerals.{add-one}
use native.Mathlib.Omega.{arith}
use lib.Dec.{eqb, leb, ltb, eqb-suc-zero}
use lib.ListN.{length, take, drop, get_or, length-take, length-drop, drop_of_length-le}
use lib.Seq.{length-take-le, drop-cons, drop-nil, take-nil, take-take, drop-drop, get_or-take, get_or-drop}
use borrow.Author.Tests.{le-leb, lt-leb, lt-ltb, le-ltb, eq-eqb, ne_eqb, leb-true, ltb-true}
use Rattle.octets.specs.Numbers.{be_at}
use Rattle.octets.specs.Parts.{zero_run, part}
use Rattle.octets.specs.Ports.{only_to, disjoint}
use Rattle.octets.proofs.NumberLaws.{Octets, be_at-one}
use Rattle.octets.proofs.PartLaws.{zero_run-snoc}
use Rattle.names.specs.Index.{can_have, index, weight}
use Rattle.names.specs.Table.{objects, object_at, object_count}
use Rattle.names.specs.Rule.{step_in, in_range, in_steps, in_frames, takes}
use Rattle.names.specs.Devices.{transparent, has}
use Rattle.names.specs.declared.Shape.{Shape}
use Rattle.names.specs.declared.Shape.TheVariants.{Scalar, Port, PortPriority, Vlan, Static, Pair}
use Rattle.names.specs.declared.table.Access.{Access}
use Rattle.names.specs.declared.table.Access.TheVariants.{ReadOnly, ReadWrite}
use Rattle.names.specs.declared.table.ObjectType.{ObjectType}
use Rattle.names.specs.declared.model.Model.{Model}
use Rattle.names.proofs.IndexLaws.{can-static, can-pair}
use Rattle.names.proofs.TableLaws.{object-row, object-end}
use Rattle.block.specs.Rows.{rows_at}
use Rattle.block.specs.Cells.{shape_cells, cells_of, live_cells, live_in, cells_in}
use Rattle.block.specs.Image.{cell_at, vlan_at, content_of}
use Rattle.block.specs.Tables.{deletes_room}
use Rattle.block.specs.Valid.{every, column_ok, cells_ok, port_set, name_ok, vlan_ok, rows_ok}
use Rattle.block.proofs.RowLaws.{take-rows_at, drop-rows_at}
use Rattle.block.proofs.ReadLaws.{cells_are}
use Rattle.block.proofs.RoundLaws.{every-octet}

-- a turn of a test of each of m members from place k on
pub every-turn : (t : ℕ → Bool) (xs : List ℕ) (k m i : ℕ) → k + m ≤ length xs → i < m
    → every t (drop i (take m (drop k xs))) ≡ (t (get_or xs (k + i) 0) && every t (drop (i + 1) (take m (drop k xs))))
unfolding every
every-turn t xs k m i h l =
    let n : length (take m (drop k xs)) ≡ m = length-take-le m (drop k xs) (rw length-drop (omega arith)) in
    rw (add-one, drop-cons (take m (drop k xs)) i 0 (omega arith), get_or-take m (drop k xs) i 0 l, get_or-drop k xs i 0)

-- past the last of them there is nothing to test
pub every-end : (t : ℕ → Bool) (xs : List ℕ) (m i : ℕ) → m ≤ i → every t (drop i (take m xs)) ≡ true
unfolding every
every-end t xs m i h =
    let l : length (take m xs) ≤ i = rw length-take (omega arith) in
    rw (drop_of_length-le (take m xs) l)

sum-zero : (x y : ℕ) → eqb (x * 256 + y) 0 ≡ (eqb x 0 && eqb y 0)
sum-zero zero y = let e : 0 * 256 + y ≡ y = omega arith in rw e
sum-zero (suc x) y = rw (eqb-suc-zero x) (ne_eqb (suc x * 256 + y) 0 (omega arith))

number-zero : (b : List ℕ) (p w : ℕ) → eqb (be_at b p w) 0 ≡ zero_run b p w
unfolding be_at
number-zero b p zero = unfold zero_run in refl
number-zero b p (suc w) =
    sum-zero (be_at b p w) (get_or b (p + w) 0)
    ∙ ap (λ (t : Bool). t && eqb (get_or b (p + w) 0) 0) (number-zero b p w)
    ∙ sym (rw add-one at (zero_run-snoc b p w))

run-append : (b : List ℕ) (p m n : ℕ) → zero_run b p (m + n) ≡ (zero_run b p m && zero_run b (p + m) n)
unfolding zero_run
run-append b p zero n = rw (zero-add, add-zero)
run-append b p (suc m) n =
    let e : p + 1 + m ≡ p + suc m = omega arith in
    rw (suc-add, run-append b (p + 1) m n, e) (sym (and_assoc (eqb (get_or b p 0) 0) (zero_run b (p + 1) m) (zero_run b (p + suc m) n)))

zero-rows : (b : List ℕ) (p m : ℕ) → every (λ v. eqb v 0) (rows_at cell_at 4 b p m) ≡ zero_run b p (m * 4)
unfolding every rows_at cell_at
zero-rows b p zero = unfold zero_run in refl
zero-rows b p (suc m) =
    let e : 4 + m * 4 ≡ suc m * 4 = omega arith in
    rw (number-zero b p 4, zero-rows b (p + 4) m, ← e) (sym (run-append b p 4 (m * 4)))

cells-from : (b : List ℕ) (k m : ℕ) → k + m ≤ 1541 → take m (drop k (content_of b).cells) ≡ rows_at cell_at 4 b (32 + k * 4) m
cells-from b k m h = rw (cells_are b, drop-rows_at cell_at 4 b 32 1541 k (omega arith), take-rows_at cell_at 4 b (32 + k * 4) (1541 - k) m (omega arith))

-- an object that has no cells has none to test
pub column-none : (m : Model) (o : ObjectType) (cs : List ℕ) → cells_of o ≡ 0 → column_ok m o (take (cells_of o) cs) ≡ true
unfolding column_ok every
column-none m o cs e = rw (e, take-nil, drop-nil)

live-shape : (m : Model) (a : Access) (s : Shape) → m.ports ≤ 64 → (shape_cells a s ≡ 0 → ⊥) → live_cells m s ≤ shape_cells a s
live-shape m ReadOnly s h e = absurd (e refl)
live-shape m ReadWrite Scalar h e = omega arith
live-shape m ReadWrite Port h e = h
live-shape m ReadWrite PortPriority h e = omega arith
live-shape m ReadWrite Vlan h e = omega arith
live-shape m ReadWrite Static h e = omega arith
live-shape m ReadWrite Pair h e = omega arith

-- an object that has cells has those of ports 1 to N, where the device has the object
pub live-fits : (m : Model) (o : ObjectType) → m.ports ≤ 64 → (cells_of o ≡ 0 → ⊥) → live_in m o ≤ cells_of o
live-fits m o h e = go (has m.device o)
  where
    go : (own : Bool) → cond own (live_cells m o.shape) 0 ≤ cells_of o
    go true = live-shape m o.access o.shape h e
    go false = omega arith

-- two tests of each are a test of each
every-both : (s t : ℕ → Bool) (xs : List ℕ) → every (λ v. s v && t v) xs ≡ (every s xs && every t xs)
unfolding every
every-both s t [] = refl
every-both s t (x ∷ xs) = rw (every-both s t xs) (mixed (s x) (t x) (every s xs) (every t xs))
  where
    mixed : (a b c d : Bool) → ((a && b) && (c && d)) ≡ ((a && c) && (b && d))
    mixed false b c d = refl
    mixed true true c d = refl
    mixed true false true d = refl
    mixed true false false d = refl

-- an object takes each of some numbers where each is in its range, in its steps and among its frames
pub takes_tests : (e : ℕ) (o : ObjectType) (xs : List ℕ) → every (takes e o) xs ≡ (every (in_range o) xs && (every (in_steps (step_in e o)) xs && every (in_frames o) xs))
takes_tests e o xs =
    every-both (in_range o) (λ v. in_steps (step_in e o) v && in_frames o v) xs
    ∙ ap (λ (t : Bool). every (in_range o) xs && t) (every-both (in_steps (step_in e o)) (in_frames o) xs)

-- an object's cells from cell k on: it takes those that hold values, and zeros stand in the octets of the others
pub column-tests : (b : List ℕ) (model : Model) (o : ObjectType) (k : ℕ) → k + cells_of o ≤ 1541 → live_in model o ≤ cells_of o →
    let l = live_in model o in
    let live = take l (drop k (content_of b).cells) in
    column_ok model o (take (cells_of o) (drop k (content_of b).cells))
    ≡ (every (takes model.edition o) live && zero_run b (32 + (k + l) * 4) ((cells_of o - l) * 4))
unfolding column_ok
column-tests b model o k h f =
    let l : ℕ = live_in model o in
    let m : ℕ = cells_of o in
    let cs : List ℕ = drop k (content_of b).cells in
    let e : 32 + k * 4 + l * 4 ≡ 32 + (k + l) * 4 = omega arith in
    let z : every (λ v. eqb v 0) (drop l (take m cs)) ≡ zero_run b (32 + (k + l) * 4) ((m - l) * 4) =
    rw (cells-from b k m h, drop-rows_at cell_at 4 b (32 + k * 4) m l f, e) (zero-rows b (32 + (k + l) * 4) (m - l)) in
    rw (take-take l m cs f, z)

-- a turn over the object table, with what was found before it: the cells of the object at place i start at cell k
pub cells-turn : (ok : Bool) (m : Model) (cs : List ℕ) (i k : ℕ) → i < object_count
    → (ok && cells_ok m (drop i objects) (drop k cs))
    ≡ ((ok && column_ok m (object_at i) (take (cells_of (object_at i)) (drop k cs))) && cells_ok m (drop (i + 1) objects) (drop (k + cells_of (object_at i)) cs))
unfolding cells_ok
cells-turn ok m cs i k h = rw (object-row i h, drop-drop) (simp and_assoc)

-- past the last object there is nothing to test
pub cells-end : (m : Model) (cs : List ℕ) (i : ℕ) → object_count ≤ i → cells_ok m (drop i objects) cs ≡ true
unfolding cells_ok
cells-end m cs i h = rw (object-end i h)

-- the cells of the objects left
pub cells_left : (i : ℕ) → i < object_count → cells_in (drop i objects) ≡ cells_of (object_at i) + cells_in (drop (i + 1) objects)
unfolding cells_in
cells_left i h = rw (object-row i h)

-- a turn over the rows of a growing table
pub rows-turn : {R : Type 0} (m : Model) (s : Shape) (t : R → Bool) (low : ℕ) (es : List (ℕ × R)) (i : ℕ) (d : ℕ × R) → i < length es
    → rows_ok m s t low (drop i es)
    ≡ (((leb low (get_or es i d).0 && can_have m s (index s (get_or es i d).0)) && t (get_or es i d).1) && rows_ok m s t ((get_or es i d).0 + 1) (drop (i + 1) es))
unfolding rows_ok
rows-turn m s t low es i d h = rw (drop-cons es i d h, add-one i, add-one) (simp and_assoc)

-- past the last row there is nothing to test
pub rows_end : {R : Type 0} (m : Model) (s : Shape) (t : R → Bool) (low : ℕ) (es : List (ℕ × R)) (i : ℕ) → length es ≤ i → rows_ok m s t low (drop i es) ≡ true
unfolding rows_ok
rows_end m s t low es i h = rw (drop_of_length-le es h)

-- a key of seven octets is one that a bridge with N ports can have where its last octet is at most N
pub static-can : (m : Model) (k : ℕ) → k < 256 ^ 7 → can_have m Static (index Static k) ≡ leb (k % 256) m.ports
unfolding weight
static-can m k h = can-static m k h

-- the tests of a key of two ports: the second is a port where it is at most N, as the first is below it
pub pair-can : (m : Model) (k : ℕ) → can_have m Pair (index Pair k) ≡ ((leb 1 (k / 256) && ltb (k / 256) (k % 256)) && leb (k % 256) m.ports)
pair-can m k = can-pair m k ∙ go (ltb (k / 256) (k % 256)) refl (leb (k % 256) m.ports) refl
  where
    l : ℕ
    l = k / 256

    h : ℕ
    h = k % 256

    go : (below : Bool) → ltb l h ≡ below → (last : Bool) → leb h m.ports ≡ last → ((leb 1 l && leb l m.ports) && (leb 1 h && leb h m.ports)) && ltb l h ≡ (leb 1 l && ltb l h) && leb h m.ports
    go false p last q = rw (p, and-false ((leb 1 l && leb l m.ports) && (leb 1 h && leb h m.ports)), and-false (leb 1 l))
    go true p false q = rw (p, q, and-false (leb 1 h), and-false (leb 1 l && leb l m.ports), and-false (leb 1 l && true))
    go true p true q =
        rw (
          p,
          q,
          le-leb l m.ports (omega (arith, ltb-true l h p, leb-true h m.ports q)),
          le-leb 1 h (omega (arith, ltb-true l h p)),
        )
        (simp and-true)

-- VlanNumDeletes, a number of four octets, is below its room where the device has VLANs or it is 0
pub deletes-test : (d x : ℕ) → x < 2 ^ 32 → ltb x (deletes_room d) ≡ (eqb d transparent || eqb x 0)
deletes-test d x h = go (eqb d transparent)
  where
    below_one : (y : ℕ) → ltb y 1 ≡ eqb y 0
    below_one zero = refl
    below_one (suc y) = le-ltb (suc y) 1 (omega arith) ∙ sym (eqb-suc-zero y)

    go : (own : Bool) → ltb x (cond own (2 ^ 32) 1) ≡ (own || eqb x 0)
    go true = lt-ltb x (2 ^ 32) h
    go false = below_one x

-- a number of 64 bits is a set of ports 1 to N where no port above N is in it
pub port-set : (m : Model) (s : ℕ) → s < 2 ^ 64 → port_set m s ≡ only_to 64 m.ports s
unfolding port_set
port-set m s h = rw (lt-ltb s (2 ^ 64) h)

-- 32 octets are a name where they are 0 behind its length
pub name-zeros : (len : ℕ) (xs : List ℕ) → Octets xs → length xs ≡ 32 → len ≤ 32 → name_ok len xs ≡ zero_run xs len (32 - len)
unfolding name_ok
name-zeros len xs o e h = rw (le-leb len 32 h, eq-eqb (length xs) 32 e, every-octet xs o)

-- no name is longer
pub name-long : (len : ℕ) (xs : List ℕ) → 32 < len → name_ok len xs ≡ false
unfolding name_ok
name-long len xs h = rw (lt-leb len 32 h)

-- the tests of the VLAN row whose octets start at index at
pub vlan-tests : (m : Model) (b : List ℕ) (at : ℕ)
    → vlan_ok m (vlan_at b at).1
    ≡ ((eqb (get_or b (at + 2) 0) 1 || eqb (get_or b (at + 2) 0) 2)
    && (name_ok (get_or b (at + 3) 0) (part b (at + 4) 32)
    && ((port_set m (be_at b (at + 36) 8) && (port_set m (be_at b (at + 44) 8) && port_set m (be_at b (at + 52) 8)))
    && disjoint (be_at b (at + 36) 8) (be_at b (at + 44) 8))))
unfolding vlan_ok vlan_at
vlan-tests m b at = rw (be_at-one, be_at-one)
