-- A batch played in an order, turn by turn, and in two orders. Assumes nothing.
use Prim.Native.Nat.{ℕ, zero, suc, ◌+◌, ◌-◌, ◌*◌, ◌≤◌, ◌<◌}
use native.Mathlib.Omega.{arith}
use native.Mathlib.Numerals.{add-one}
use mathlib.Core.Path.{◌≡◌, refl, sym, ap, subst, ◌∙◌}
use mathlib.Core.List.{List, [], ◌∷◌, ◌++◌, map, append_assoc, Permᴰ}
use lib.Dec.{ltb}
use lib.ListN.{length, take, drop, get_or, set, length-append, length-drop, length-set, take-append-drop, get_or-map}
use lib.Seq.{length-take-le, take-length, take_at, drop_at, take-append-le, drop-append-le, drop-append-add, drop-drop, get_or-append_seam, get_or-set_same, get_or-set_other, get_or-take}
use Rattle.std.proofs.lemmas.List.{length-take}
use borrow.Author.Tests.{ltb-true, ltb-false}
use Rattle.octets.specs.Parts.{part}
use Rattle.octets.proofs.BoolLaws.{by-eq, by_bool}
use Rattle.octets.specs.Ascending.{All as Every}
use Rattle.octets.proofs.AllLaws.{all-at}
use Rattle.message.specs.Answer.{most_octets}
use Rattle.answer.specs.Respond.{Outcome, answer_of}
use Rattle.console.specs.Batch.{most_frames, octets_at, Within, no_span, AllWithin}
use Rattle.console.specs.declared.frames.Span.{Span}
use Rattle.batch.specs.Check.{accepted, check_batch}
use Rattle.batch.specs.Theorems.{numbered, Accepted}
use Rattle.batch.specs.Order.{Call, played, left, Plays, SameAnswer, SameInAll}
use Rattle.batch.proofs.Theorems.{accepts, orders}
use Rattle.refbridge.specs.declared.RbResult.{RbResult}
use Rattle.orders.specs.declared.batches.TwoPlays.{TwoPlays}
use Rattle.refbridge.specs.Calls.{outcome}
use Rattle.orders.specs.Batches.{messages_of, room_at, all_rooms, turns_from, turns_of, no_result, no_call, Turned, PlayedInOrder, numbers_from, IsOrder, Alike, TwoOrders}

-- a part of a list, written over
module _ (xs ys : List ℕ) (a w : ℕ) (fits : a + w ≤ length xs) (long : length ys ≡ w) where
  abbrev written : List ℕ
  written = take a xs ++ (ys ++ drop w (drop a xs))

  front : length (take a xs) ≡ a
  front = length-take-le a xs (omega (arith, fits))

  pub written-here : part written a w ≡ ys
  written-here = ap (take w) (drop_at (take a xs) (ys ++ drop w (drop a xs)) a front) ∙ take_at ys (drop w (drop a xs)) w long

  before-any : (q : ℕ) (r : List ℕ) → q + w ≤ a → part (take a xs ++ r) q w ≡ take w (drop q (take a xs))
  before-any q r h =
      ap (take w) (drop-append-le q (take a xs) r (omega (arith, front)))
      ∙ take-append-le w (drop q (take a xs)) r (omega (arith, length-drop q (take a xs), front))

  pub written-before : (q : ℕ) → q + w ≤ a → part written q w ≡ part xs q w
  written-before q h =
      before-any q (ys ++ drop w (drop a xs)) h ∙ sym (before-any q (drop a xs) h) ∙ ap (λ (l : List ℕ). part l q w) (take-append-drop a xs)

  both : length (take a xs ++ ys) ≡ a + w
  both = length-append (take a xs) ys ∙ omega (arith, front, long)

  pub written_behind : (q : ℕ) → a + w ≤ q → part written q w ≡ part xs q w
  written_behind q h =
      let m : ℕ = q - (a + w) in
      let e : q ≡ length (take a xs ++ ys) + m = omega (arith, both) in
      let f : a + w + m ≡ q = omega arith in
      ap (take w)
      (ap (drop q) (sym (append_assoc (take a xs) ys (drop w (drop a xs)))) ∙ ap (λ (k : ℕ). drop k ((take a xs ++ ys) ++ drop w (drop a xs))) e
      ∙ drop-append-add (take a xs ++ ys) (drop w (drop a xs)) m ∙ ap (drop m) (drop-drop w a xs) ∙ drop-drop m (a + w) xs ∙ ap (λ (k : ℕ). drop k xs) f)

  pub written-long : length written ≡ length xs
  written-long =
      length-append (take a xs) (ys ++ drop w (drop a xs))
      ∙ omega (arith, front, long, fits, length-append ys (drop w (drop a xs)), length-drop w (drop a xs), length-drop a xs)

-- one turn, as the code lends message and room
pub turned : (block batch rooms : List ℕ) (s : Span) (k : ℕ) {m n : ℕ} {r : RbResult} {ys block_after : List ℕ} → k < most_frames → length rooms ≡ all_rooms
    → m ≡ s.len → n ≡ most_octets → length ys ≡ most_octets
    → outcome r ys block_after ≡ answer_of block (take m (drop s.start batch)) (take n (drop (most_octets * k) rooms))
    → Turned block (octets_at batch s) rooms k r (take (most_octets * k) rooms ++ (ys ++ drop n (drop (most_octets * k) rooms))) block_after
turned block batch rooms s k {m} {n} {r} {ys} {block_after} low long em en l e =
    subst (λ (w : ℕ). Turned block (octets_at batch s) rooms k r (take (most_octets * k) rooms ++ (ys ++ drop w (drop (most_octets * k) rooms))) block_after) (sym en)
    (record {
      answer =
          ap (λ (room : List ℕ). outcome r room block_after) (written-here rooms ys (most_octets * k) most_octets fits l) ∙ e
          ∙ (λ i. answer_of block (take (em i) (drop s.start batch)) (take (en i) (drop (most_octets * k) rooms)));
      others =
          λ j h. by_bool (ltb j k)
          (λ q. written-before rooms ys (most_octets * k) most_octets fits l (most_octets * j) (omega (arith, ltb-true j k q)))
          (λ q. let z : k < j = omega (arith, ltb-false j k q, h) in written_behind rooms ys (most_octets * k) most_octets fits l (most_octets * j) (omega (arith, z)));
      long = written-long rooms ys (most_octets * k) most_octets fits l;
    })
  where
    fits : most_octets * k + most_octets ≤ length rooms
    fits = omega (arith, low, long)

-- the message with a number, as the code finds it
pub numbered-octets : (b : List ℕ) (spans : List Span) (count i : ℕ)
    → octets_at b (get_or (no_span ∷ take count spans) i no_span) ≡ numbered (map (octets_at b) (take count spans)) i
numbered-octets b spans count i = sym (get_or-map (octets_at b) (no_span ∷ take count spans) i no_span)

past : (l : List Span) (i : ℕ) → length l ≤ i → get_or l i no_span ≡ no_span
past [] i h = refl
past (x ∷ l) zero h = absurd (omega arith)
past (x ∷ l) (suc i) h = past l i (omega arith)

module _ (spans : List Span) where
  pub number-zero : (i : ℕ) → i ≡ 0 → no_span ≡ get_or (no_span ∷ spans) i no_span
  number-zero i e = ap (λ (j : ℕ). get_or (no_span ∷ spans) j no_span) (sym e)

  pub number_past : (i : ℕ) → length spans < i → no_span ≡ get_or (no_span ∷ spans) i no_span
  number_past zero h = absurd (omega arith)
  number_past (suc i) h = sym (past spans i (omega arith))

  pub number-found : (i : ℕ) → (i ≡ 0 → ⊥) → get_or spans (i - 1) no_span ≡ get_or (no_span ∷ spans) i no_span
  number-found zero z = absurd (z refl)
  number-found (suc i) z =
      let e : suc i - 1 ≡ i = omega arith in
      ap (λ (j : ℕ). get_or spans j no_span) e

pub numbered_within : (b : List ℕ) (spans : List Span) (count i : ℕ) → AllWithin b spans count → Within b (get_or (no_span ∷ take count spans) i no_span)
numbered_within b spans count zero w = (omega arith, omega arith)
numbered_within b spans count (suc i) w =
    by_bool (ltb i count) (λ q. subst (Within b) (sym (get_or-take count spans i no_span (ltb-true i count q))) (w i (ltb-true i count q)))
    (λ q. subst (Within b) (sym (past (take count spans) i (omega (arith, ltb-false i count q, length-take count spans)))) (omega arith, omega arith))

-- the turns of an order
module _ (ms : List (List ℕ)) (rooms : List ℕ) where
  pub many-turns : (k : ℕ) (order : List ℕ) → length (turns_from ms rooms k order) ≡ length order
  unfolding turns_from
  many-turns k [] = refl
  many-turns k (i ∷ order) = ap suc (many-turns (suc k) order)

  pub turn_at : (k : ℕ) (order : List ℕ) (j : ℕ) (d : Call) → j < length order
      → get_or (turns_from ms rooms k order) j d ≡ record { message = numbered ms (get_or order j 0); room = room_at rooms (k + j) }
  unfolding turns_from
  turn_at k [] j d h = absurd (omega arith)
  turn_at k (i ∷ order) zero d h = let e : k ≡ k + 0 = omega arith in ap (λ (n : ℕ). record { message = numbered ms i; room = room_at rooms n }) e
  turn_at k (i ∷ order) (suc j) d h =
      let e : suc k + j ≡ k + suc j = omega arith in
      turn_at (suc k) order j d (omega arith) ∙ ap (λ (n : ℕ). record { message = numbered ms (get_or order j 0); room = room_at rooms n }) e

  messages-are : (k : ℕ) (order : List ℕ) → map (λ (t : Call). t.message) (turns_from ms rooms k order) ≡ map (numbered ms) order
  unfolding turns_from
  messages-are k [] = refl
  messages-are k (i ∷ order) = ap (λ (l : List (List ℕ)). numbered ms i ∷ l) (messages-are (suc k) order)

  rooms-are : (k : ℕ) (order : List ℕ) → length rooms ≡ all_rooms → k + length order ≤ most_frames → Every (λ t. most_octets ≤ length t.room) (turns_from ms rooms k order)
  unfolding turns_from
  rooms-are k [] l h = tt
  rooms-are k (i ∷ order) l h =
      let e : length (room_at rooms k) ≡ most_octets = length-take-le most_octets (drop (most_octets * k) rooms) (omega (arith, length-drop (most_octets * k) rooms, l)) in
      (omega (arith, e), rooms-are (suc k) order l (omega arith))

-- what is played, by its place
abbrev pub empty_call : Call
empty_call = record { message = []; room = [] }

pub many-played : (block : List ℕ) (ts : List Call) → length (played block ts) ≡ length ts
unfolding played
many-played block [] = refl
many-played block (t ∷ ts) = ap suc (many-played (answer_of block t.message t.room).block ts)

pub played-at : (block : List ℕ) (ts : List Call) (k : ℕ) {m room : List ℕ} → k < length ts → get_or ts k empty_call ≡ record { message = m; room = room }
    → get_or (played block ts) k no_call ≡ (m, answer_of (left block (take k ts)) m room)
unfolding played left
played-at block [] k h e = absurd (omega arith)
played-at block (t ∷ ts) zero h e = ap (λ (u : Call). (u.message, answer_of block u.message u.room)) e
played-at block (t ∷ ts) (suc k) h e = played-at (answer_of block t.message t.room).block ts k (omega arith) e

pub left-next : (block : List ℕ) (ts : List Call) (k : ℕ) {m room : List ℕ} → k < length ts → get_or ts k empty_call ≡ record { message = m; room = room }
    → left block (take (suc k) ts) ≡ (answer_of (left block (take k ts)) m room).block
unfolding left
left-next block [] k h e = absurd (omega arith)
left-next block (t ∷ ts) zero h e = ap (λ (u : Call). (answer_of block u.message u.room).block) e
left-next block (t ∷ ts) (suc k) h e = left-next (answer_of block t.message t.room).block ts k (omega arith) e

-- k turns are played
module _ (block batch order rooms : List ℕ) where
  abbrev ts : List Call
  ts = turns_of batch order rooms

  pub record Sofar (k : ℕ) (results : List RbResult) (rooms-now block-now : List ℕ) : Type 0 where
    pub few : k ≤ length order
    pub long : length rooms-now ≡ all_rooms
    pub many : length results ≡ most_frames
    pub block-is : block-now ≡ left block (take k ts)
    pub done : (j : ℕ) → j < k → outcome (get_or results j no_result) (room_at rooms-now j) (left block (take (suc j) ts)) ≡ (get_or (played block ts) j no_call).1
    pub ahead : (j : ℕ) → k ≤ j → room_at rooms-now j ≡ room_at rooms j

  pub sofar-none : (results : List RbResult) → length rooms ≡ all_rooms → length results ≡ most_frames → Sofar 0 results rooms block
  unfolding left
  sofar-none results l m =
      record { few = omega arith; long = l; many = m; block-is = refl; done = λ j h. absurd (omega arith); ahead = λ j h. refl }

  module _ {k : ℕ} {results : List RbResult} {rooms-now block-now : List ℕ} (w : Sofar k results rooms-now block-now) where
    pub sofar-all : length order ≤ k → PlayedInOrder block batch order rooms results rooms-now block-now
    sofar-all h =
        let e : k ≡ length ts = omega (arith, w.few, many-turns (messages_of batch) rooms 0 order) in
        record { each = λ j l. w.done j (omega arith); last = w.block-is ∙ ap (λ (n : ℕ). left block (take n ts)) e ∙ ap (left block) (take-length ts) }

    module _ (h : k < length order) (low : k < most_frames) {m : List ℕ} (em : m ≡ numbered (messages_of batch) (get_or order k 0))
        {r : RbResult} {rooms_after block_after : List ℕ} (t : Turned block-now m rooms-now k r rooms_after block_after)
      where
        turn : get_or ts k empty_call ≡ record { message = numbered (messages_of batch) (get_or order k 0); room = room_at rooms k }
        turn =
            let e : 0 + k ≡ k = omega arith in
            turn_at (messages_of batch) rooms 0 order k empty_call h
            ∙ ap (λ (n : ℕ). record { message = numbered (messages_of batch) (get_or order k 0); room = room_at rooms n }) e

        within : k < length ts
        within = omega (arith, h, many-turns (messages_of batch) rooms 0 order)

        abbrev said : Outcome
        said = answer_of (left block (take k ts)) (numbered (messages_of batch) (get_or order k 0)) (room_at rooms k)

        answer : outcome r (room_at rooms_after k) block_after ≡ said
        answer = t.answer ∙ (λ i. answer_of (w.block-is i) (em i) (w.ahead k (omega arith) i))

        block-next : block_after ≡ left block (take (suc k) ts)
        block-next = ap (λ (o : Outcome). o.block) answer ∙ sym (left-next block ts k within turn)

        pub sofar-more : Sofar (k + 1) (set results k r) rooms_after block_after
        sofar-more =
            record {
              few = omega arith;
              long = t.long ∙ w.long;
              many = length-set results k r ∙ w.many;
              block-is = block-next ∙ ap (λ (n : ℕ). left block (take n ts)) (sym (add-one k));
              done =
                  λ j l. by-eq j k
                  (λ e. subst (λ (i : ℕ). outcome (get_or (set results k r) i no_result) (room_at rooms_after i) (left block (take (suc i) ts)) ≡ (get_or (played block ts) i no_call).1) (sym e)
                  ((λ i. outcome (get_or-set_same results k r no_result (omega (arith, low, w.many)) i) (room_at rooms_after k) (sym block-next i)) ∙ answer
                  ∙ sym (ap (λ (p : List ℕ × Outcome). p.1) (played-at block ts k within turn))))
                  (λ e.
                  (λ i. outcome (get_or-set_other results k j r no_result e i) (t.others j e i) (left block (take (suc j) ts)))
                  ∙ w.done j (omega (arith, l, e)));
              ahead = λ j l. t.others j (λ e. omega (arith, e, l)) ∙ w.ahead j (omega arith);
            }

-- an order of a batch plays each of its messages once
map-order : {A B : Type 0} (f : A → B) {xs ys : List A} → Permᴰ xs ys → Permᴰ (map f xs) (map f ys)
map-order f Permᴰ.nil = Permᴰ.nil
map-order f (Permᴰ.cons e d) = Permᴰ.cons (ap f e) (map-order f d)
map-order f (Permᴰ.swap e g) = Permᴰ.swap (ap f e) (ap f g)
map-order f (Permᴰ.trans d e) = Permᴰ.trans (map-order f d) (map-order f e)

numbers-from : (before ms : List (List ℕ)) → map (λ (i : ℕ). get_or (before ++ ms) i []) (numbers_from (length before) (length ms)) ≡ ms
numbers-from before [] = refl
numbers-from before (m ∷ ms) =
    let e : length (before ++ (m ∷ [])) ≡ suc (length before) = length-append before (m ∷ []) ∙ omega arith in
    let rest : map (λ (i : ℕ). get_or (before ++ m ∷ ms) i []) (numbers_from (suc (length before)) (length ms)) ≡ ms =
    (λ z. map (λ (i : ℕ). get_or (sym (append_assoc before (m ∷ []) ms) z) i []) (numbers_from (sym e z) (length ms))) ∙ numbers-from (before ++ (m ∷ [])) ms in
    λ z. get_or-append_seam before m ms [] z ∷ rest z

pub plays-order : (batch order rooms : List ℕ) → length rooms ≡ all_rooms → length order ≤ most_frames → IsOrder batch order → Plays (messages_of batch) (turns_of batch order rooms)
plays-order batch order rooms l h d =
    let ms : List (List ℕ) = messages_of batch in
    record {
      order =
          subst (λ (xs : List (List ℕ)). Permᴰ xs (map (λ (t : Call). t.message) (turns_of batch order rooms))) (numbers-from ([] ∷ []) ms)
          (subst (Permᴰ (map (numbered ms) (numbers_from 1 (length ms)))) (sym (messages-are ms rooms 0 order)) (map-order (numbered ms) d));
      rooms = rooms-are ms rooms 0 order l (omega arith);
    }

-- two orders of a batch that is accepted
module _ (block batch p q rooms more : List ℕ) {first second : List RbResult} {rooms_after more_after one_after other_after : List ℕ}
    (u : PlayedInOrder block batch p rooms first rooms_after one_after) (v : PlayedInOrder block batch q more second more_after other_after)
    (s : SameInAll block (turns_of batch p rooms) (turns_of batch q more))
  where
    abbrev xs : List Call
    xs = turns_of batch p rooms

    abbrev ys : List Call
    ys = turns_of batch q more

    in-first : (k : ℕ) → k < length p → k < length (played block xs)
    in-first k h = omega (arith, h, many-played block xs, many-turns (messages_of batch) rooms 0 p)

    in-second : (k : ℕ) → k < length q → k < length (played block ys)
    in-second k h = omega (arith, h, many-played block ys, many-turns (messages_of batch) more 0 q)

    -- two turns with one message
    meets : (j k : ℕ) → j < length p → k < length q → get_or p j 0 ≡ get_or q k 0 → SameAnswer (get_or (played block xs) j no_call).1 (get_or (played block ys) k no_call).1
    meets j k hj hk e =
        all-at (λ u. (get_or (played block xs) j no_call).0 ≡ u.0 → SameAnswer (get_or (played block xs) j no_call).1 u.1) no_call (played block ys) k
        (all-at (λ o. Every (λ u. o.0 ≡ u.0 → SameAnswer o.1 u.1) (played block ys)) no_call (played block xs) j s.same (in-first j hj)) (in-second k hk)
        (ap (λ (o : List ℕ × Outcome). o.0) (played-at block xs j (omega (arith, hj, many-turns (messages_of batch) rooms 0 p)) (turn_at (messages_of batch) rooms 0 p j empty_call hj))
        ∙ ap (numbered (messages_of batch)) e
        ∙ sym (ap (λ (o : List ℕ × Outcome). o.0) (played-at block ys k (omega (arith, hk, many-turns (messages_of batch) more 0 q)) (turn_at (messages_of batch) more 0 q k empty_call hk))))

    pub alike : Alike p q first second rooms_after more_after one_after other_after
    alike =
        record {
          first_answered = λ k h. ap (λ (o : Outcome). o.number) (u.each k h) ∙ all-at (λ o. o.1.number ≡ 0) no_call (played block xs) k s.first_answered (in-first k h);
          second_answered = λ k h. ap (λ (o : Outcome). o.number) (v.each k h) ∙ all-at (λ o. o.1.number ≡ 0) no_call (played block ys) k s.second_answered (in-second k h);
          counts =
              λ j k hj hk e. ap (λ (o : Outcome). o.count) (u.each j hj) ∙ (meets j k hj hk e).count ∙ sym (ap (λ (o : Outcome). o.count) (v.each k hk));
          octets =
              λ j k hj hk e.
              ap (λ (o : Outcome). take o.count o.room) (u.each j hj) ∙ (meets j k hj hk e).octets
              ∙ sym (ap (λ (o : Outcome). take o.count o.room) (v.each k hk));
          blocks = u.last ∙ s.blocks ∙ sym v.last;
        }

-- the check and the two plays
pub two-orders : {one other batch p q rooms more rooms_after more_after one_after other_after : List ℕ} (r : TwoPlays) → ((i : ℕ) → get_or batch i 0 < 256)
    → length p ≤ most_frames → length q ≤ most_frames → length rooms ≡ all_rooms → length more ≡ all_rooms
    → r.verdict ≡ check_batch one batch → PlayedInOrder one batch p rooms r.first rooms_after one_after → PlayedInOrder other batch q more r.second more_after other_after
    → TwoOrders one other batch p q rooms more r rooms_after more_after one_after other_after
two-orders {one} {other} {batch} {p} {q} {rooms} {more} {rooms_after} {more_after} {one_after} {other_after} r o hp hq lr lm e u v =
    record { checked = e; first = u; second = v; agree = agree }
  where
    agree : other ≡ one → r.verdict ≡ accepted → IsOrder batch p → IsOrder batch q → Alike p q r.first r.second rooms_after more_after one_after other_after
    agree c t dp dq =
        let a : Accepted one batch = (accepts one batch).0 (sym e ∙ t) in
        let m : messages_of batch ≡ a.messages = ap (λ (f : List (List ℕ) × ℕ). f.0) a.framed in
        alike one batch p q rooms more u (subst (λ (b : List ℕ). PlayedInOrder b batch q more r.second more_after other_after) c v)
        (orders one batch o a (turns_of batch p rooms) (turns_of batch q more)
        (subst (λ (ms : List (List ℕ)). Plays ms (turns_of batch p rooms)) m (plays-order batch p rooms lr hp dp))
        (subst (λ (ms : List (List ℕ)). Plays ms (turns_of batch q more)) m (plays-order batch q more lm hq dq)))
