-- What an octet makes of a position in a header, case by case, as the code answers it; and how the octets of a chunk follow. Assumes nothing.
use mathlib.Core.Path.{◌≡◌, refl, sym, ap, subst, ◌∙◌}
use mathlib.Core.List.{List, [], ◌∷◌}
use Prim.Native.Nat.{ℕ, ◌+◌, ◌*◌, ◌≤◌, ◌<◌}
use native.Mathlib.Omega.{arith}
use lib.ListN.{length, drop, get_or, drop_of_length-le}
use borrow.Author.Tests.{lt-ltb, le-ltb, eq-eqb, ne_eqb}
use Rattle.message.specs.Answer.{most_octets}
use Rattle.console.specs.Frames.{mark, fresh, Step, inside, arrived, sized, step, run}
use Rattle.std.specs.Prelude.{Result, Ok, Err}
use Rattle.console.specs.Positions.{meant, moved, heading_of, NextPosition, HeadOf}
use Rattle.console.specs.declared.header.Position.{Position}
use Rattle.console.specs.declared.header.FrameHead.{FrameHead}
use Rattle.console.specs.declared.refusals.StreamRefused.{StreamRefused}
use Rattle.console.specs.declared.refusals.StreamRefused.TheVariants.{HeaderWrong, LengthOver}
use Rattle.console.proofs.RunLaws.{run-turn}

-- what a position means
pub meant-within : (p : Position) → p.count ≤ 4 → meant (Ok p) ≡ inside (heading_of p)
meant-within p h = rw (ne_eqb p.count 5 (λ e. omega arith))

pub meant-sized : (p : Position) → p.count ≡ 5 → meant (Ok p) ≡ arrived p.size []
meant-sized p h = rw h

abbrev position : (count size : ℕ) → Position
position count size = record { count = count; size = size }

module _ (p : Position) (o : ℕ) where
  pub next-mark : p.count < 3 → o ≡ get_or mark p.count 0 → NextPosition p o (Ok (position (p.count + 1) 0))
  unfolding step
  next-mark h e =
      record {
        means =
            rw (lt-ltb p.count 3 h, eq-eqb o (get_or mark p.count 0) e) (sym (meant-within (position (p.count + 1) 0) (omega arith)));
        further = (refl, omega arith);
        fits = λ q. omega arith;
      }

  pub next-other : p.count < 3 → (o ≡ get_or mark p.count 0 → ⊥) → NextPosition p o (Err HeaderWrong)
  unfolding step
  next-other h e =
      record {
        means = rw (lt-ltb p.count 3 h, ne_eqb o (get_or mark p.count 0) e);
        further = tt;
        fits = tt;
      }

  pub next-length : p.count ≡ 3 → o < 256 → NextPosition p o (Ok (position (p.count + 1) (o * 256)))
  unfolding step
  next-length h k =
      record {
        means = rw h;
        further = (refl, omega arith);
        fits = λ q. absurd (omega arith);
      }

  module _ (low : 3 ≤ p.count) (other : p.count ≡ 3 → ⊥) (high : p.count ≤ 4) where
    pub next-long : most_octets < p.size + o → NextPosition p o (Err LengthOver)
    unfolding step sized
    next-long h =
        record {
          means =
              rw (le-ltb p.count 3 low, ne_eqb p.count 3 other, lt-ltb most_octets (p.size + o) h);
          further = tt;
          fits = tt;
        }

    pub next-sized : p.size + o ≤ most_octets → NextPosition p o (Ok (position (p.count + 1) (p.size + o)))
    unfolding step sized
    next-sized h =
        let e : p.count ≡ 4 = omega arith in
        record {
          means =
              rw (le-ltb p.count 3 low, ne_eqb p.count 3 other, le-ltb most_octets (p.size + o) h, e);
          further = (refl, omega arith);
          fits = λ q. h;
        }

pub moved_none : (r : ℕ × Step) → r ≡ moved 0 r
moved_none r =
    let e : r.0 ≡ r.0 + 0 = omega arith in
    ap (λ (k : ℕ). (k, r.1)) e

-- where a header leads, by name
pub head-as : {chunk : List ℕ} {from : Position} {h : FrameHead} {r : Result Position StreamRefused} → h.reached ≡ r → HeadOf chunk from h
    → HeadOf chunk from (record { taken = h.taken; reached = r })
head-as {chunk} {from} {h} e w = subst (λ (u : Result Position StreamRefused). HeadOf chunk from (record { taken = h.taken; reached = u })) e w

-- after i octets of a chunk, which led to a position in the header: what the next octet leads to, and the end of the chunk
module _ (chunk : List ℕ) (from : Position) (i : ℕ) (p : Position) (e : run chunk (inside (heading_of from)) ≡ moved i (run (drop i chunk) (inside (heading_of p)))) (few : i ≤ 4) where
  module _ (h : i < length chunk) where
    turned : {s : Step} → step (heading_of p) (get_or chunk i 0) ≡ s → run chunk (inside (heading_of from)) ≡ moved (i + 1) (run (drop (i + 1) chunk) s)
    turned n = e ∙ run-turn chunk i (heading_of p) h ∙ ap (λ (s : Step). moved (i + 1) (run (drop (i + 1) chunk) s)) n

    pub head-wrong : {r : StreamRefused} → NextPosition p (get_or chunk i 0) (Err r) → HeadOf chunk from (record { taken = i + 1; reached = Err r })
    head-wrong n =
        record {
          means = turned n.means;
          within = omega arith;
          few = omega arith;
          fits = tt;
          used = tt;
        }

    module _ {q : Position} (n : NextPosition p (get_or chunk i 0) (Ok q)) where
      pub head-whole : q.count ≡ 5 → HeadOf chunk from (record { taken = i + 1; reached = Ok q })
      head-whole f =
          record {
            means = turned n.means;
            within = omega arith;
            few = omega arith;
            fits = n.fits;
            used = λ g. absurd (g f);
          }

      pub head-inside : q.count ≤ 4 → run chunk (inside (heading_of from)) ≡ moved (i + 1) (run (drop (i + 1) chunk) (inside (heading_of q)))
      head-inside g = turned (n.means ∙ meant-within q g)

  pub head-cut : i ≡ length chunk → p.count ≤ 4 → HeadOf chunk from (record { taken = length chunk; reached = Ok p })
  head-cut h g =
      record {
        means = rw (← h) (e ∙ ap (λ (s : Step). moved i (run (drop i chunk) s)) (sym (meant-within p g)));
        within = omega arith;
        few = omega arith;
        fits = λ q. absurd (omega arith);
        used = λ q. drop_of_length-le chunk {i = length chunk} (omega arith);
      }

-- five octets of a header
pub headed : (h l : ℕ) (xs : List ℕ) → run (127 ∷ 0 ∷ 2 ∷ h ∷ l ∷ xs) (inside fresh) ≡ ((run xs (sized (h * 256 + l))).0 + 1 + 1 + 1 + 1 + 1, (run xs (sized (h * 256 + l))).1)
unfolding run step
headed h l xs = refl

pub sized-arrived : (n : ℕ) → n ≤ most_octets → sized n ≡ arrived n []
unfolding sized
sized-arrived n h = rw (le-ltb most_octets n h)
