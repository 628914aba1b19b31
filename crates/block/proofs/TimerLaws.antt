-- The three bridge timers (E6): each is a scalar that has a cell, and the rule goes by these three cells alone. Assumes nothing.
use mathlib.Core.Path.{◌≡◌, refl, sym, ap, subst, ◌∙◌}
use mathlib.Core.Bool.{Bool, true, false, ◌||◌, true≢false}
use mathlib.Core.List.{List}
use Prim.Native.Nat.{ℕ, ◌≤◌, ◌<◌}
use lib.Dec.{eqb, lit≤}
use borrow.Author.Tests.{eqb-true, eqb-false, eq-eqb}
use Rattle.names.specs.Table.{objects, object_count}
use Rattle.names.specs.Places.{bridge_max_age, bridge_hello_time, bridge_forward_delay, is_timer}
use Rattle.names.specs.declared.model.Model.{Model}
use Rattle.names.proofs.IndexLaws.{can-scalar}
use Rattle.block.specs.Layout.{many_cells}
use Rattle.block.specs.Cells.{cells_in, cell_of, timer_in}
use Rattle.block.specs.Valid.{together, timers_ok}
use Rattle.block.proofs.KeepLaws.{HasCell, cell_other}

-- what holds of the three holds of each timer
pub by-timer : (P : ℕ → Type 0) → P bridge_max_age → P bridge_hello_time → P bridge_forward_delay → (t : ℕ) → is_timer t ≡ true → P t
by-timer P a h d t e = first (eqb t bridge_max_age) refl e
  where
    is : (i : ℕ) → P i → eqb t i ≡ true → P t
    is i p q = rw (eqb-true t i q) p

    second : (b : Bool) → eqb t bridge_hello_time ≡ b → (b || eqb t bridge_forward_delay) ≡ true → P t
    second true q r = is bridge_hello_time h q
    second false q r = is bridge_forward_delay d r

    first : (b : Bool) → eqb t bridge_max_age ≡ b → (b || (eqb t bridge_hello_time || eqb t bridge_forward_delay)) ≡ true → P t
    first true q r = is bridge_max_age a q
    first false q r = second (eqb t bridge_hello_time) refl r

-- a timer is one of the object types, and its cell is one of the cells
pub timer-place : (t : ℕ) → is_timer t ≡ true → (t < object_count) × (cell_of t 0 < many_cells)
unfolding objects cells_in
timer-place = by-timer (λ t. (t < object_count) × (cell_of t 0 < many_cells)) (lit≤ tt, lit≤ tt) (lit≤ tt, lit≤ tt) (lit≤ tt, lit≤ tt)

-- its instance with the key 0 has that cell, on every bridge
pub timer-has : (m : Model) (t : ℕ) → is_timer t ≡ true → HasCell m t 0
unfolding objects
timer-has m =
    by-timer (λ t. HasCell m t 0)
    (record { cells = lit≤ tt; possible = can-scalar m 0 })
    (record { cells = lit≤ tt; possible = can-scalar m 0 })
    (record { cells = lit≤ tt; possible = can-scalar m 0 })

-- and no other instance has one
pub timer-key : (m : Model) (t k : ℕ) → is_timer t ≡ true → HasCell m t k → k ≡ 0
unfolding objects
timer-key m t k e =
    by-timer (λ t. HasCell m t k → k ≡ 0)
    (λ h. eqb-true k 0 (sym (can-scalar m k) ∙ h.possible))
    (λ h. eqb-true k 0 (sym (can-scalar m k) ∙ h.possible))
    (λ h. eqb-true k 0 (sym (can-scalar m k) ∙ h.possible)) t e

-- the cell of an instance is a timer's where its object is that timer
abbrev pub TimerByPlace : (i k : ℕ) → Type 0
TimerByPlace i k = (t : ℕ) → is_timer t ≡ true → eqb (cell_of i k) (cell_of t 0) ≡ eqb i t

pub timer-by-place : (m : Model) (i k : ℕ) → m.ports ≤ 64 → HasCell m i k → TimerByPlace i k
timer-by-place m i k few h t e = go (eqb (cell_of i k) (cell_of t 0)) (eqb i t) refl refl
  where
    go : (a b : Bool) → eqb (cell_of i k) (cell_of t 0) ≡ a → eqb i t ≡ b → a ≡ b
    go true true p q = refl
    go false false p q = refl
    go true false p q =
        absurd (eqb-false i t q (cell_other m i t k 0 few h (timer-has m t e) (eqb-true (cell_of i k) (cell_of t 0) p)).0)
    go false true p q =
        let j : i ≡ t = eqb-true i t q in
        let z : k ≡ 0 = timer-key m t k e (subst (λ (x : ℕ). HasCell m x k) j h) in
        absurd (eqb-false (cell_of i k) (cell_of t 0) p (λ x. cell_of (j x) (z x)))

-- so an object that is no timer has no timer's cell
pub other-cell : (i k t : ℕ) → TimerByPlace i k → is_timer t ≡ true → is_timer i ≡ false → cell_of t 0 ≡ cell_of i k → ⊥
other-cell i k t b e f q =
    let j : i ≡ t = eqb-true i t (sym (b t e) ∙ eq-eqb (cell_of i k) (cell_of t 0) (sym q)) in
    true≢false (sym e ∙ ap is_timer (sym j) ∙ f)

-- the rule is the same of cells that have the same timers
pub timers-same : (xs ys : List ℕ) → ((t : ℕ) → is_timer t ≡ true → timer_in xs t ≡ timer_in ys t) → timers_ok xs ≡ timers_ok ys
unfolding timers_ok
timers-same xs ys h =
    λ i. together (h bridge_max_age refl i) (h bridge_hello_time refl i) (h bridge_forward_delay refl i)
