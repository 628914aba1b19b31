-- The timers that result from the kept bindings of a message (E6): one more kept binding at a time. Assumes nothing.
use Prim.Native.Nat.{ℕ, ◌+◌, ◌^◌, ◌<◌}
use native.Mathlib.Numerals.{add-one}
use native.Mathlib.Omega.{arith}
use mathlib.Core.Path.{◌≡◌, refl, sym, ap, ◌∙◌}
use mathlib.Core.Bool.{Bool, true, false, cond, false≢true}
use mathlib.Core.Option.{Option, some}
use mathlib.Core.List.{List, [], ◌∷◌, ◌++◌, map-append}
use lib.Dec.{eqb}
use lib.ListN.{length, get_or, take}
use lib.Seq.{take-suc, get_or-set_same, get_or-set_other}
use borrow.Author.Tests.{eqb-true, eqb-false, ne_eqb}
use Rattle.std.specs.Prelude.{Option as Maybe, Some, None, Result, Ok, Err}
use Rattle.octets.proofs.BoolLaws.{by_bool}
use Rattle.names.specs.Places.{is_timer}
use Rattle.block.specs.Layout.{many_cells}
use Rattle.block.specs.Content.{Content}
use Rattle.block.specs.declared.tables.Table.{Table}
use Rattle.block.specs.Cells.{cell_of, timer_in}
use Rattle.block.proofs.TimerLaws.{by-timer, timer-place}
use Rattle.answer.specs.declared.faults.Fault.{Fault}
use Rattle.answer.specs.Judge.{Judged}
use Rattle.answer.specs.Set.{cell_write, also, gather, set_cells, resulting_cells}
use Rattle.answer.proofs.OnlyWriteLaws.{gather_append, cells-append, cells-length}
use Rattle.verdict.specs.Kept.{column_in, meant_with, meant_by_with, TimerFits}
use Rattle.verdict.specs.declared.judge.Kept.{Kept}

-- a timer is no column of a growing table
timer-no-column : (t : ℕ) → is_timer t ≡ true → column_in t ≡ None
timer-no-column = by-timer (λ t. column_in t ≡ None) refl refl refl

abbrev in_rows : Maybe Table → Bool
in_rows None = false
in_rows (Some t) = true

-- the number that a kept binding makes of the timer at place t
abbrev pub timer_by : {E : Type 0} → (t v : ℕ) → Result Kept E → ℕ
timer_by t v (Ok q) = cond (eqb q.place t) q.value v
timer_by t v (Err f) = v

module _ {E : Type 0} (n : E → ℕ) (s : List ℕ) (t : ℕ) (timer : is_timer t ≡ true) (l : List ℕ) (long : length l ≡ many_cells) where
  -- one kept binding written
  timer-one : (q : Result Kept E) → TimerFits q → get_or (set_cells l (also (cell_write (meant_with n s q)) [])) (cell_of t 0) 0 ≡ timer_by t (get_or l (cell_of t 0) 0) q
  unfolding set_cells
  timer-one (Err f) fits = refl
  timer-one (Ok q) fits = go (column_in q.place) refl
    where
      go : (o : Maybe Table) → column_in q.place ≡ o
          → get_or (set_cells l (also (cell_write (meant_with n s (Ok q))) [])) (cell_of t 0) 0 ≡ timer_by {E = E} t (get_or l (cell_of t 0) 0) (Ok q)
      go (Some u) p =
          let z : eqb q.place t ≡ false = ne_eqb q.place t (λ e. false≢true (ap in_rows (sym (timer-no-column t timer) ∙ ap column_in (sym e) ∙ p))) in
          rw (p, z)
      go None h =
          let own : eqb (cell_of q.place q.key) (cell_of t 0) ≡ eqb q.place t = (fits h).1 t timer in
          let writes : cell_write (meant_with n s (Ok q)) ≡ some (cell_of q.place q.key, q.value) = rw h in
          ap (λ (w : Option (ℕ × ℕ)). get_or (set_cells l (also w [])) (cell_of t 0) 0) writes
          ∙ by_bool (eqb q.place t)
          (λ p. rw (p, eqb-true (cell_of q.place q.key) (cell_of t 0) (own ∙ p))
          (get_or-set_same l (cell_of t 0) q.value 0 (omega (arith, (timer-place t timer).1))))
          (λ p. rw p
          (get_or-set_other l (cell_of q.place q.key) (cell_of t 0) q.value 0 (λ r. eqb-false (cell_of q.place q.key) (cell_of t 0) (own ∙ p) (sym r))))

-- a kept binding that writes a timer has a number of four octets
pub timer-fits : (q : Kept) (t : ℕ) → is_timer t ≡ true → TimerFits {E = Fault} (Ok q) → q.place ≡ t → q.value < 2 ^ 32
timer-fits q t timer fits p = (fits (ap column_in p ∙ timer-no-column t timer)).0

-- the resulting timer after one more kept binding
pub timer-more : {E : Type 0} (n : E → ℕ) (c : Content) (s : List ℕ) (kept : List (Result Kept E)) (i : ℕ) (d : Result Kept E) (t : ℕ) → i < length kept → is_timer t ≡ true
    → length c.cells ≡ many_cells → TimerFits (get_or kept i d)
    → timer_in (resulting_cells c (meant_by_with n s (take (i + 1) kept))) t ≡ timer_by t (timer_in (resulting_cells c (meant_by_with n s (take i kept))) t) (get_or kept i d)
unfolding gather
timer-more n c s kept i d t h timer long fits =
    let before : List Judged = meant_by_with n s (take i kept) in
    let last : List Judged = meant_with n s (get_or kept i d) ∷ [] in
    let more : meant_by_with n s (take (i + 1) kept) ≡ before ++ last = rw (add-one, take-suc kept i d h) (map-append (meant_with n s) (take i kept) (get_or kept i d ∷ [])) in
    ap (λ (m : List Judged). timer_in (resulting_cells c m) t) more
    ∙ ap (λ (ws : List (ℕ × ℕ)). timer_in (set_cells c.cells ws) t) (gather_append cell_write before last)
    ∙ ap (λ (x : List ℕ). timer_in x t) (cells-append c.cells (gather cell_write before) (gather cell_write last))
    ∙ timer-one n s t timer (resulting_cells c before) (cells-length c.cells (gather cell_write before) ∙ long) (get_or kept i d) fits
