-- What a host hears of a stream: in one call after the other, and octet by octet. Assumes nothing.
use Rattle.std.specs.Prelude.{◌≡◌, cond, ◌&&◌, ◌||◌, List, [], ◌∷◌, ◌++◌, ℕ, ◌≤◌, ◌<◌, eqb, ltb, length, take, drop, get_or}
use Rattle.message.specs.Answer.{most_octets}
use Rattle.console.specs.Frames.{Step, inside, whole, wrong, step}
use Rattle.console.specs.State.{Saved, going, ended, saved, image}
use Rattle.console.specs.Calls.{ConsoleOutcome, taking}

-- the messages in their order, the refusals, and the state that remains
pub record Heard : Type 0 where
  pub messages : List (List ℕ)
  pub refusals : List ℕ
  pub remains : List ℕ

abbrev pub silent : List ℕ → Heard
silent b = record { messages = []; refusals = []; remains = b }

-- the message that a call hands out, if it does
unfoldable pub handed : ConsoleOutcome → List (List ℕ)
handed t = cond (eqb t.complete 1) (take t.count t.room ∷ []) []

-- the call's refusal, "the repeats not counting": a wrong octet is taken, and a repeat takes none
unfoldable pub counted : ConsoleOutcome → List ℕ
counted t = cond (eqb t.number 0 || eqb t.taken 0) [] (t.number ∷ [])

abbrev pub adding : ConsoleOutcome → Heard → Heard
adding t h = record { messages = handed t ++ h.messages; refusals = counted t ++ h.refusals; remains = h.remains }

-- the chunks still to come: "untaken octets offered again", before the others; not after a refusal
unfoldable pub again : ConsoleOutcome → List ℕ → List (List ℕ) → List (List ℕ)
again t c cs = cond (eqb t.number 0 && ltb t.taken (length c)) (drop t.taken c ∷ cs) cs

-- a host that offers chunks, each call with a room that is long enough, and hears h in all
pub data Session : (state : List ℕ) (chunks : List (List ℕ)) → Heard → Type 0 where
  over : {b : List ℕ} {h : Heard} → h ≡ silent b → Session b [] h
  call : {b c : List ℕ} {cs : List (List ℕ)} {h k : Heard} (room : List ℕ) → most_octets ≤ length room
      → Session (taking b c room).state (again (taking b c room) c cs) h
      → k ≡ adding (taking b c room) h
      → Session b (c ∷ cs) k

-- what is heard of a stream, octet by octet: no call and no chunk in it
unfoldable pub noted : Step → Heard → Heard
noted (inside f) h = h
noted (whole m) h = record { messages = m ∷ h.messages; refusals = h.refusals; remains = h.remains }
noted (wrong n) h = record { messages = h.messages; refusals = n ∷ h.refusals; remains = h.remains }

unfoldable pub hears : List ℕ → Saved → Heard
hears [] s = silent (image s)
hears (o ∷ os) (going f) = noted (step f o) (hears os (saved (step f o)))
hears (o ∷ os) (ended n) = silent (image (ended n))

abbrev pub AllOctets : List ℕ → Type 0
AllOctets xs = (i : ℕ) → get_or xs i 0 < 256

-- what is left of the octets xs after a call that was offered the first n
unfoldable pub untaken : ConsoleOutcome → (n : ℕ) (xs : List ℕ) → List ℕ
untaken t n xs = drop (cond (eqb t.number 0) t.taken n) xs

-- any host: at each call it offers as many of the octets left as it likes, none too, those that an earlier call did not take before the others
pub data Offers : (state octets : List ℕ) → Heard → Type 0 where
  done : {b : List ℕ} {h : Heard} → h ≡ silent b → Offers b [] h
  offer : {b xs : List ℕ} {h k : Heard} (n : ℕ) (room : List ℕ) → most_octets ≤ length room
      → Offers (taking b (take n xs) room).state (untaken (taking b (take n xs) room) n xs) h
      → k ≡ adding (taking b (take n xs) room) h
      → Offers b xs k
