-- The rows of a growing table in two passes: each row by itself, and the keys, which for the static rows are compared with the status behind them.
-- Assumes nothing.
use mathlib.Core.Path.{◌≡◌, refl}
use mathlib.Core.Bool.{Bool, true, false, ◌&&◌}
use mathlib.Core.List.{List, [], ◌∷◌}
use Prim.Native.Nat.{ℕ, zero, suc, ◌+◌, ◌*◌, ◌/◌, ◌%◌, ◌≤◌, ◌<◌}
use native.Mathlib.Numerals.{add-one}
use mathlib.Core.Logic.{by_cases}
use native.Mathlib.Omega.{arith}
use native.Mathlib.Decide.{dec_lt}
use lib.Dec.{leb}
use lib.Arith.{digits_mod}
use lib.ListN.{length, drop, get_or, drop_of_length-le}
use lib.Seq.{drop-cons}
use borrow.Author.Tests.{le-leb, lt-leb}
use Rattle.octets.specs.Numbers.{be_at}
use Rattle.octets.proofs.NumberLaws.{Octets, be_at-more, be_at-one}
use Rattle.octets.proofs.BoolLaws.{both}
use Rattle.names.specs.Index.{can_have, index}
use Rattle.names.specs.declared.Shape.{Shape}
use Rattle.names.specs.declared.model.Model.{Model}
use Rattle.block.specs.Image.{static_at, content_of}
use Rattle.block.specs.declared.tables.Table.TheVariants.{Static as static}
use Rattle.block.specs.Valid.{every, port_set, static_ok, rows_ok}
use Rattle.block.specs.Tests.{static_status, row_ok, ascends}
use Rattle.block.specs.declared.rows.StaticRow.{StaticRow}
use Rattle.block.proofs.ReadLaws.{row_is}

mixed : (l c t e a : Bool) → ((l && c) && (t && (e && a))) ≡ (((c && t) && e) && (l && a))
mixed true true true true a = refl
mixed true true true false a = refl
mixed true true false e a = refl
mixed true false t e a = refl
mixed false true true true a = refl
mixed false true true false a = refl
mixed false true false e a = refl
mixed false false t e a = refl

-- the two passes
pub rows_passes : {R : Type 0} (m : Model) (s : Shape) (t : R → Bool) (low : ℕ) (es : List (ℕ × R))
    → rows_ok m s t low es ≡ (every (row_ok m s t) es && ascends low es)
unfolding rows_ok every ascends
rows_passes m s t low [] = refl
rows_passes m s t low (e ∷ es) = rw (rows_passes m s t (suc e.0) es) (mixed (leb low e.0) _ (t e.1) (every (row_ok m s t) es) (ascends (suc e.0) es))

-- a turn of the first one
pub each_turn : {A : Type 0} (t : A → Bool) (xs : List A) (i : ℕ) (d : A) → i < length xs
    → every t (drop i xs) ≡ (t (get_or xs i d) && every t (drop (i + 1) xs))
unfolding every
each_turn t xs i d h = rw (add-one, drop-cons xs i d h)

pub each-end : {A : Type 0} (t : A → Bool) (xs : List A) (i : ℕ) → length xs ≤ i → every t (drop i xs) ≡ true
unfolding every
each-end t xs i h = rw (drop_of_length-le xs h)

-- what each passes, one at a place passes
pub each_at : {A : Type 0} (t : A → Bool) (xs : List A) (i : ℕ) (d : A) → i < length xs → every t xs ≡ true → t (get_or xs i d) ≡ true
unfolding every
each_at t [] i d h e = absurd (omega arith)
each_at t (x ∷ xs) zero d h e = (both (t x) (every t xs) e).0
each_at t (x ∷ xs) (suc i) d h e = each_at t xs i d (omega arith) (both (t x) (every t xs) e).1

-- rows that are as they must be have statuses of 3 to 5
pub rows_status : (m : Model) (s : Shape) (es : List (ℕ × StaticRow)) → every (row_ok m s (static_ok m)) es ≡ true → every static_status es ≡ true
unfolding every static_ok
rows_status m s [] h = refl
rows_status m s (e ∷ es) h =
    let r = both (row_ok m s (static_ok m) e) (every (row_ok m s (static_ok m)) es) h in
    let ok = (both (can_have m s (index s e.0)) (static_ok m e.1) r.0).1 in
    rw (both (static_status e) (port_set m e.1.allowed) ok).0 (rows_status m s es r.1)

-- a turn of the second one
pub ascends-turn : {R : Type 0} (low : ℕ) (es : List (ℕ × R)) (i : ℕ) (d : ℕ × R) → i < length es
    → ascends low (drop i es) ≡ (leb low (get_or es i d).0 && ascends ((get_or es i d).0 + 1) (drop (i + 1) es))
unfolding ascends
ascends-turn low es i d h = rw (drop-cons es i d h, add-one i, add-one)

pub ascends-end : {R : Type 0} (low : ℕ) (es : List (ℕ × R)) (i : ℕ) → length es ≤ i → ascends low (drop i es) ≡ true
unfolding ascends
ascends-end low es i h = rw (drop_of_length-le es h)

-- the receive port of the static row at place i, and its key with the status behind it
module _ (b : List ℕ) (i : ℕ) (d : ℕ × StaticRow) (h : i < be_at b 12 4) where
  pub port-is : Octets b → (get_or (content_of b).statics i d).0 % 256 ≡ get_or b (21556 + i * 16 + 6) 0
  unfolding static_at
  port-is o = rw (row_is b static i d h, be_at-more b (21556 + i * 16) 6) (digits_mod (be_at b (21556 + i * 16) 6) {m = 256} (o (21556 + i * 16 + 6)))

  pub word-is : be_at b (21556 + i * 16) 8 ≡ (get_or (content_of b).statics i d).0 * 256 + (get_or (content_of b).statics i d).1.status
  unfolding static_at
  word-is = rw (row_is b static i d h, be_at-more b (21556 + i * 16) 7, be_at-one b (21556 + i * 16 + 7))

-- the least key behind a word: 0 is behind none, and a word with a status of 3 to 5 is below the word of the next key
abbrev pub key_behind : ℕ → ℕ
key_behind w = (w + 253) / 256

pub record Word (w : ℕ) : Type 0 where
  pub last : w % 256 ≤ 5
  pub none : w % 256 < 3 → w ≡ 0

pub word_first : Word 0
word_first = record { last = omega arith; none = λ h. refl }

module _ (w k s : ℕ) (x : Word w) (from : 3 ≤ s) (to : s ≤ 5) where
  pub word_next : Word (k * 256 + s)
  word_next = record { last = omega arith; none = λ h. absurd (omega arith) }

  pub behind-next : key_behind (k * 256 + s) ≡ k + 1
  behind-next = omega arith

  pub word_below : k * 256 + s ≤ w + 2 → leb (key_behind w) k ≡ false
  word_below h =
      by_cases (dec_lt (w % 256) 3)
      (λ z. lt-leb (key_behind w) k (omega (arith, x.none z)))
      (λ z. lt-leb (key_behind w) k (omega (arith, x.last, z)))

  pub word-above : w + 2 < k * 256 + s → leb (key_behind w) k ≡ true
  word-above h = le-leb (key_behind w) k (omega (arith, x.last))
