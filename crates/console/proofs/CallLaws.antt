-- Laws of the two calls: what `taking` says at each return. Assumes nothing.
use mathlib.Core.Path.{◌≡◌, refl, sym, ap, ◌∙◌}
use mathlib.Core.Bool.{true, false}
use mathlib.Core.List.{List, [], ◌∷◌, ◌++◌, append-nil}
use Prim.Native.Nat.{ℕ, ◌-◌, ◌≤◌, ◌<◌}
use native.Mathlib.Omega.{arith}
use lib.ListN.{length, drop, get_or, drop_of_length-le}
use lib.Seq.{drop-drop, drop_at}
use borrow.Author.Tests.{lt-ltb, le-ltb, ne_eqb}
use Rattle.octets.specs.Numbers.{be_at, be_octets}
use Rattle.octets.specs.Parts.{patch, zeros, part}
use Rattle.octets.proofs.PartLaws.{length-zeros}
use Rattle.octets.proofs.NumberLaws.{be_at-in}
use Rattle.message.specs.Answer.{most_octets}
use Rattle.console.specs.Frames.{heading, filling, Step, inside, wrong, arrived, run}
use Rattle.console.specs.State.{Saved, going, ended, saved, resumed, state, image, saved_in, saved_of, is_left}
use Rattle.console.specs.Calls.{refused, told, taking}
use Rattle.std.specs.Prelude.{Ok, Err}
use Rattle.console.specs.Refusals.{number_of}
use Rattle.console.specs.Positions.{meant, moved, heading_of, InHeader, HeadOf, Tail}
use Rattle.console.specs.declared.header.Position.{Position}
use Rattle.console.specs.declared.refusals.StreamRefused.{StreamRefused}
use Rattle.console.proofs.RunLaws.{run-wrong, arrived-part}
use Rattle.console.proofs.HeaderLaws.{meant-sized, moved_none}
use Rattle.console.proofs.StateLaws.{patch-first, drop-state, wrong-told, cut-told}
use Rattle.console.proofs.LeftLaws.{left-sound, left-image, left-length, sound-heading, sound-filling}

pub meant-inside : (p : Position) → (p.count ≡ 5 → ⊥) → meant (Ok p) ≡ inside (heading_of p)
meant-inside p h = rw (ne_eqb p.count 5 h)

-- a chunk whose octets the header took: refused, within a message, or used up
module _ (room chunk : List ℕ) (from : Position) (t : ℕ) where
  tells : {r s : Step} → run chunk (inside (heading_of from)) ≡ moved t (run (drop t chunk) r) → r ≡ s
      → told room (moved t (run (drop t chunk) s)) ≡ told room (run chunk (inside (heading_of from)))
  tells w e = sym (ap (told room) (w ∙ ap (λ (u : Step). moved t (run (drop t chunk) u)) e))

  pub head-refused : {r : StreamRefused} {n : ℕ} {st : List ℕ} → HeadOf chunk from (record { taken = t; reached = Err r }) → n ≡ number_of r
      → st ≡ state n 0 0 []
      → record { number = n; taken = t; complete = 0; count = 0; room = room; state = st } ≡ told room (run chunk (inside (heading_of from)))
  head-refused {r} {n} w k e = wrong-told room n t (drop t chunk) e ∙ tells w.means (ap wrong (sym k))

  module _ {p : Position} (w : HeadOf chunk from (record { taken = t; reached = Ok p })) where
    pub head-filled : p.count ≡ 5 → told room (moved t (run (drop t chunk) (arrived p.size []))) ≡ told room (run chunk (inside (heading_of from)))
    head-filled c = tells w.means (meant-sized p c)

    pub head-used : {st : List ℕ} → (p.count ≡ 5 → ⊥) → st ≡ state 0 p.count p.size []
        → record { number = 0; taken = t; complete = 0; count = 0; room = room; state = st } ≡ told room (run chunk (inside (heading_of from)))
    head-used c e = cut-told room p.count p.size t (w.used c) e ∙ tells w.means (meant-inside p c)

-- what a state that a stream leaves is, by its phase
module _ (b : List ℕ) (e : is_left b ≡ true) where
  heading-is : get_or b 0 0 ≡ 0 → saved_of b ≡ going (heading (be_at b 1 2) (be_at b 3 2))
  unfolding saved_of saved_in
  heading-is h = rw h

  filling-is : get_or b 0 0 ≡ 1 → saved_of b ≡ going (filling (be_at b 3 2) (part b 5 (be_at b 1 2)))
  unfolding saved_of saved_in
  filling-is h = rw h

  ended_is : 1 < get_or b 0 0 → saved_of b ≡ ended (get_or b 0 0)
  unfolding saved_of saved_in
  ended_is h = rw (ne_eqb (get_or b 0 0) 0 (λ q. omega arith), ne_eqb (get_or b 0 0) 1 (λ q. omega arith))

  module _ (h : get_or b 0 0 ≡ 0) where
    pub in-heading : InHeader (be_at b 1 2) (be_at b 3 2)
    in-heading = sound-heading (be_at b 1 2) (be_at b 3 2) (rw (heading-is h) at (left-sound b e))

    pub heading-tail : Tail b 0
    unfolding image
    heading-tail =
        record {
          sized = left-length b e;
          fits = omega arith;
          clear =
              ap (drop 5) (sym (left-image b e) ∙ ap image (heading-is h)) ∙ drop-state 0 (be_at b 1 2) (be_at b 3 2) [];
        }

  module _ (h : get_or b 0 0 ≡ 1) where
    -- the image, with its count and its contents by name
    filling-image : b ≡ state 1 (length (part b 5 (be_at b 1 2))) (be_at b 3 2) (part b 5 (be_at b 1 2))
    unfolding image
    filling-image = sym (left-image b e) ∙ ap image (filling-is h)

    filling-sound : (be_at b 3 2 ≤ most_octets) × (length (part b 5 (be_at b 1 2)) < be_at b 3 2)
    filling-sound = sound-filling (be_at b 3 2) (part b 5 (be_at b 1 2)) (rw (filling-is h) at (left-sound b e))

    filling-count : be_at b 1 2 ≡ length (part b 5 (be_at b 1 2))
    unfolding state
    filling-count =
        ap (λ (u : List ℕ). be_at u 1 2) filling-image
        ∙ be_at-in (1 ∷ []) (be_octets 2 (be_at b 3 2) ++ (part b 5 (be_at b 1 2) ++ zeros (most_octets - length (part b 5 (be_at b 1 2))))) 1 2 (length (part b 5 (be_at b 1 2))) refl
        (omega (arith, filling-sound))

    pub in-filling : (be_at b 3 2 ≤ most_octets) × (be_at b 1 2 < be_at b 3 2)
    in-filling = (filling-sound.0, omega (arith, filling-sound, filling-count))

    pub filling-tail : Tail b (be_at b 1 2)
    filling-tail =
        let c : ℕ = be_at b 1 2 in
        let xs : List ℕ = part b 5 c in
        let n : length xs ≡ c = sym filling-count in
        record {
          sized = left-length b e;
          fits = omega (arith, in-filling);
          clear =
              sym (drop-drop c 5 b)
              ∙ ap (drop c) (ap (drop 5) filling-image ∙ drop-state 1 (length xs) (be_at b 3 2) xs)
              ∙ drop_at xs (zeros (most_octets - length xs)) c n
              ∙ ap (λ (k : ℕ). zeros (most_octets - k)) n;
        }

-- refusals 1 and 21, a repeat, and octets, in this order
module _ (b chunk room : List ℕ) where
  pub take_short : length room < most_octets → refused 1 room b ≡ taking b chunk room
  unfolding taking
  take_short h = rw (lt-ltb (length room) most_octets h)

  module _ (r : most_octets ≤ length room) where
    pub take-unfit : is_left b ≡ false → refused 21 room b ≡ taking b chunk room
    unfolding taking
    take-unfit h = rw (le-ltb (length room) most_octets r, h)

    module _ (e : is_left b ≡ true) where
      pub take_on : {s : Saved} → saved_of b ≡ s → told room (run chunk (resumed s)) ≡ taking b chunk room
      unfolding taking
      take_on h = rw (le-ltb (length room) most_octets r, e, h)

      pub take_again : 1 < get_or b 0 0 → refused (get_or b 0 0) room b ≡ taking b chunk room
      unfolding resumed told saved
      take_again h =
          let n : ℕ = get_or b 0 0 in
          let i : image (ended n) ≡ b = ap image (sym (ended_is b e h)) ∙ left-image b e in
          let t : told room (run chunk (wrong n)) ≡ refused n room b = ap (told room) (run-wrong chunk n) ∙ ap (refused n room) i in
          sym t ∙ take_on (ended_is b e h)

      pub take-heading : {c z : ℕ} → get_or b 0 0 ≡ 0 → c ≡ be_at b 1 2 → z ≡ be_at b 3 2 → told room (run chunk (inside (heading c z))) ≡ taking b chunk room
      unfolding resumed
      take-heading h ec ez = rw (ec, ez) (take_on (heading-is b e h))

      pub take-filling : {c z : ℕ} → get_or b 0 0 ≡ 1 → c ≡ be_at b 1 2 → z ≡ be_at b 3 2
          → told room (moved 0 (run (drop 0 chunk) (arrived z (part b 5 c)))) ≡ taking b chunk room
      unfolding resumed
      take-filling {c} {z} h ec ez =
          rw (ec, ez)
          (ap (told room) (sym (moved_none (run chunk (arrived (be_at b 3 2) (part b 5 (be_at b 1 2))))))
          ∙ ap (λ (s : Step). told room (run chunk s)) (arrived-part (be_at b 3 2) (part b 5 (be_at b 1 2)) (omega (arith, filling-sound b e h)))
          ∙ take_on (filling-is b e h))

-- a reset makes all octets 0
pub cleared : (b : List ℕ) {n : ℕ} → length b ≡ n → patch b 0 (zeros n) ≡ zeros n
cleared b {n} h = patch-first b (zeros n) n (length-zeros n) ∙ tail
  where
    tail : zeros n ++ drop n b ≡ zeros n
    tail = ap (λ (u : List ℕ). zeros n ++ u) (drop_of_length-le b {i = n} (omega arith)) ∙ append-nil (zeros n)
