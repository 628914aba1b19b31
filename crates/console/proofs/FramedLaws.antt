-- Messages in frames, heard one after the other. Assumes nothing.
use mathlib.Core.Path.{◌≡◌, refl, sym, ap, ◌∙◌}
use mathlib.Core.List.{List, [], ◌++◌, append-nil}
use Prim.Native.Nat.{ℕ, ◌+◌, ◌*◌, ◌/◌, ◌%◌, ◌≤◌}
use native.Mathlib.Omega.{arith}
use lib.ListN.{length, drop, length-append}
use lib.Seq.{take_at}
use Rattle.octets.specs.Numbers.{be_octets}
use Rattle.octets.proofs.NumberLaws.{length-be_octets}
use Rattle.message.specs.Answer.{most_octets}
use Rattle.console.specs.Frames.{mark, frame, fresh, Step, inside, whole, sized, run}
use Rattle.console.specs.State.{going, saved}
use Rattle.console.specs.Streams.{noted, hears}
use Rattle.console.proofs.RunLaws.{fills-whole}
use Rattle.console.proofs.HeaderLaws.{headed, sized-arrived}
use Rattle.console.proofs.StreamLaws.{hears-call}

-- a whole frame is taken, with its message
pub frame-run : (m rest : List ℕ) → length m ≤ most_octets → run (frame m ++ rest) (inside fresh) ≡ (length m + 5, whole m)
unfolding frame be_octets
frame-run m rest h =
    let n : ℕ = length m in
    let e : n / 256 % 256 * 256 + n % 256 ≡ n = omega arith in
    let r : run (m ++ rest) (sized (n / 256 % 256 * 256 + n % 256)) ≡ (n, whole m) =
    ap (λ (k : ℕ). run (m ++ rest) (sized k)) e ∙ ap (run (m ++ rest)) (sized-arrived n h)
    ∙ fills-whole n n [] (m ++ rest) (omega arith) (omega (arith, length-append m rest))
    ∙ ap (λ (u : List ℕ). (n, whole u)) (take_at m rest n refl) in
    let five : n + 1 + 1 + 1 + 1 + 1 ≡ n + 5 = omega arith in
    headed (n / 256 % 256) (n % 256) (m ++ rest) ∙ ap (λ (u : ℕ × Step). (u.0 + 1 + 1 + 1 + 1 + 1, u.1)) r ∙ ap (λ (k : ℕ). (k, whole m)) five

pub length-frame : (m : List ℕ) → length (frame m) ≡ length m + 5
unfolding frame
length-frame m = length-append mark (be_octets 2 (length m) ++ m) ∙ omega (arith, length-append (be_octets 2 (length m)) m, length-be_octets 2 (length m))

-- what is heard up to the end of a message, and after it
pub after-message : (xs : List ℕ) {t : ℕ} {m : List ℕ} → run xs (inside fresh) ≡ (t, whole m) → hears xs (going fresh) ≡ noted (whole m) (hears (drop t xs) (going fresh))
unfolding saved
after-message xs {t} {m} e =
    ap (λ (u : List ℕ). hears u (going fresh)) (sym (append-nil xs)) ∙ hears-call xs [] fresh
    ∙ ap (λ (r : ℕ × Step). noted r.1 (hears (drop r.0 xs ++ []) (saved r.1))) e
    ∙ ap (λ (u : List ℕ). noted (whole m) (hears u (going fresh))) (append-nil (drop t xs))
