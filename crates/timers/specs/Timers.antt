-- Timers in two units (paper 01, "Timers in two units"): a conversion answers a number, 0 or the refusal 10, and a value, 0 when refused. Assumes nothing.
use Rattle.std.specs.Prelude.{◌≡◌, refl, cond, Result, Ok, Err, ℕ, ◌+◌, ◌*◌, ◌/◌, ◌≤◌, ◌<◌, leb}
use Rattle.std.proofs.Common.{sym, ap, ◌∙◌, arith, le-leb}
use Rattle.std.proofs.lemmas.Bool.{lt-leb}
use Rattle.timers.specs.declared.Ticks.{Ticks}
use Rattle.timers.specs.declared.Hundredths.{Hundredths}
use Rattle.timers.specs.declared.OutOfRange.{OutOfRange}

-- the value v of a timer n that may be at most top; beyond it, the refusal
unfoldable pub up_to : ℕ → ℕ → ℕ → ℕ × ℕ
up_to top n v = cond (leb n top) (0, v) (10, 0)

-- "To 256ths: floor(256n/100), n 0..25599"
abbrev pub to256ths : ℕ → ℕ × ℕ
to256ths n = up_to 25599 n (256 * n / 100)

-- "Back: ceiling(100b/256), b 0..65535"
abbrev pub to_hundredths : ℕ → ℕ × ℕ
to_hundredths b = up_to 65535 b ((100 * b + 255) / 256)

-- the number and the value of each case of the answers
abbrev pub ticks_answer : Result Ticks OutOfRange → ℕ × ℕ
ticks_answer (Ok t) = (0, t.0)
ticks_answer (Err e) = (10, 0)

abbrev pub hundredths_answer : Result Hundredths OutOfRange → ℕ × ℕ
hundredths_answer (Ok t) = (0, t.0)
hundredths_answer (Err e) = (10, 0)

-- a timer in range, and one beyond it
pub converted : (top n v : ℕ) → n ≤ top → (0, v) ≡ up_to top n v
unfolding up_to
converted top n v h = rw (le-leb n top h)

pub refused : (top n v : ℕ) → top < n → (10, 0) ≡ up_to top n v
unfolding up_to
refused top n v h = rw (lt-leb n top h)

-- "Going out and back returns n"
pub there_and_back : (n : ℕ) → n ≤ 25599 → ((to256ths n).0 ≡ 0) × (to_hundredths (to256ths n).1 ≡ (0, n))
there_and_back n h =
    let e : (100 * (256 * n / 100) + 255) / 256 ≡ n = omega arith in
    let out : (0, 256 * n / 100) ≡ to256ths n = converted 25599 n (256 * n / 100) h in
    let back : (0, n) ≡ to_hundredths (256 * n / 100) =
    ap (λ (k : ℕ). (0, k)) (sym e) ∙ converted 65535 (256 * n / 100) ((100 * (256 * n / 100) + 255) / 256) (omega arith) in
    rw (← out) (refl, sym back)
