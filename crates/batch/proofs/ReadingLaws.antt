-- A message as a set, as the code finds it. Assumes nothing.
use Prim.Native.Nat.{ℕ, suc, ◌+◌, ◌≤◌, ◌<◌}
use native.Mathlib.Omega.{arith}
use mathlib.Core.Path.{◌≡◌, sym, ap, subst, ◌∙◌}
use mathlib.Core.List.{List, []}
use lib.ListN.{length, get_or, take, drop}
use borrow.Author.Tests.{ne_eqb, eq-eqb}
use Rattle.message.specs.declared.form.Refusal.{Refusal}
use Rattle.message.specs.declared.form.Role.TheVariants.{Kind}
use Rattle.message.specs.declared.form.Field.{Field}
use Rattle.message.specs.Refusals.{number_of as reason_number}
use Rattle.message.specs.declared.refusals.Reason.{Reason}
use Rattle.message.specs.declared.refusals.Reason.TheVariants.{RoomShort, RequestLong, BlockNotLegal, FieldCut, TagNotAllowed, LengthWrong, HeadWrong, TooManyBindings, SetUpRefused, TimerRange, DatagramBroken, VersionWrong, PduWrong, NoCounterpart, TooLong, NotAscending}
use Rattle.message.specs.declared.request.Binding.{Binding}
use Rattle.message.specs.Form.{checked_at, refusal, at_kind_field, at_kind}
use Rattle.message.specs.Request.{requests, head_of, Reading, refused, message, read_message, read_request}
use Rattle.message.proofs.OffsetLaws.{refused-where}
use Rattle.console.specs.Batch.{most_frames, frames_many, octets_at, Within, Means}
use Rattle.console.specs.declared.frames.Span.{Span}
use Rattle.console.specs.Refusals.{number_of}
use Rattle.console.specs.declared.refusals.StreamRefused.{StreamRefused}
use Rattle.std.specs.Prelude.{Result, Ok, Err, ⊤}
use Rattle.batch.specs.Check.{refused_with, read_set, read_then, unreadable, each_read}
use Rattle.batch.specs.Found.{SetMeans, frames_from, read_from}
use Rattle.batch.proofs.TurnLaws.{from_end, from-full, from-refused, from-whole}

-- a reason has a number
pub has_number : (x : Reason) → reason_number x ≡ 0 → ⊥
has_number RoomShort e = omega arith
has_number RequestLong e = omega arith
has_number BlockNotLegal e = omega arith
has_number FieldCut e = omega arith
has_number TagNotAllowed e = omega arith
has_number LengthWrong e = omega arith
has_number HeadWrong e = omega arith
has_number TooManyBindings e = omega arith
has_number SetUpRefused e = omega arith
has_number TimerRange e = omega arith
has_number DatagramBroken e = omega arith
has_number VersionWrong e = omega arith
has_number PduWrong e = omega arith
has_number NoCounterpart e = omega arith
has_number TooLong e = omega arith
has_number NotAscending e = omega arith

-- what the code finds of a message
module _ (m : List ℕ) where
  pub set-cut : {r : Refusal} → Err r ≡ checked_at Kind m at_kind_field (length m) → SetMeans m (Err r)
  unfolding read_set read_message head_of
  set-cut {r} e =
      let q : checked_at Kind m at_kind_field (length m) ≡ Err r = sym e in
      let x : read_request m ≡ refused r = rw q in
      (rw q, (refused-where requests m r x).most)

  module _ {f : Field} (e : Ok f ≡ checked_at Kind m at_kind_field (length m)) where
    pub set_other : (get_or m at_kind 0 ≡ 3 → ⊥) → SetMeans m (Err (refusal HeadWrong at_kind_field))
    unfolding read_set
    set_other h = (rw (sym e, ne_eqb (get_or m at_kind 0) 3 h), omega arith)

    read-so : get_or m at_kind 0 ≡ 3 → read_set m ≡ read_request m
    unfolding read_set
    read-so h = rw (sym e, eq-eqb (get_or m at_kind 0) 3 h)

    pub set-refused : get_or m at_kind 0 ≡ 3 → {r : Refusal} → read_request m ≡ refused r → SetMeans m (Err r)
    set-refused h q = (read-so h ∙ q, (refused-where requests m _ q).most)

    pub set-taken : get_or m at_kind 0 ≡ 3 → {kind id status index : ℕ} {bs : List Binding} → read_request m ≡ message kind id status index bs → SetMeans m (Ok tt)
    set-taken h {kind} {id} {status} {index} {bs} q i v = ap (λ (x : Reading). read_then i x v) (read-so h ∙ q)

-- the messages one by one
module _ (b : List ℕ) (at i : ℕ) where
  ends_with : (n : ℕ) → frames_from b at i ≡ ([], n) → read_from b at i ≡ refused_with n
  unfolding each_read
  ends_with n e = ap (λ (f : List (List ℕ) × ℕ). each_read i f.0 (refused_with f.1)) e

  pub read-end : length b ≤ at → read_from b at i ≡ refused_with 0
  read-end h = ends_with 0 (from_end b at i h)

  module _ (h : at < length b) where
    pub read-full : most_frames < i → read_from b at i ≡ refused_with frames_many
    read-full k = ends_with frames_many (from-full b at i h k)

    module _ (k : i ≤ most_frames) {f : Result Span StreamRefused} (u : Means b at f) where
      pub read-wrong : {r : StreamRefused} → f ≡ Err r → read_from b at i ≡ refused_with (number_of r)
      read-wrong {r} q = ends_with (number_of r) (from-refused b at i h k r (subst (Means b at) q u))

      module _ {s : Span} (q : f ≡ Ok s) where
        pub found_within : Within b s
        found_within = (subst (Means b at) q u).1

        read-turn : read_from b at i
            ≡ read_then i (read_set (octets_at b s)) (each_read (suc i) (frames_from b (s.start + s.len) (i + 1)).0 (refused_with (frames_from b (s.start + s.len) (i + 1)).1))
        unfolding each_read
        read-turn = ap (λ (f : List (List ℕ) × ℕ). each_read i f.0 (refused_with f.1)) (from-whole b at i h k s (subst (Means b at) q u))

        pub read_taken : SetMeans (octets_at b s) (Ok tt) → read_from b at i ≡ read_from b (s.start + s.len) (i + 1)
        read_taken w =
            let e : suc i ≡ i + 1 = omega arith in
            read-turn ∙ w i (each_read (suc i) (frames_from b (s.start + s.len) (i + 1)).0 (refused_with (frames_from b (s.start + s.len) (i + 1)).1))
            ∙ ap (λ (j : ℕ). each_read j (frames_from b (s.start + s.len) (i + 1)).0 (refused_with (frames_from b (s.start + s.len) (i + 1)).1)) e

        pub read-unread : {r : Refusal} → SetMeans (octets_at b s) (Err r) → read_from b at i ≡ unreadable i r
        read-unread w =
            read-turn
            ∙ ap (λ (x : Reading). read_then i x (each_read (suc i) (frames_from b (s.start + s.len) (i + 1)).0 (refused_with (frames_from b (s.start + s.len) (i + 1)).1))) w.0

-- a message as the code lends it
pub set-lent : (b : List ℕ) (s : Span) (x : Result ⊤ Refusal) {k : ℕ} → k ≡ s.len → SetMeans (take k (drop s.start b)) x → SetMeans (octets_at b s) x
set-lent b s x e w = subst (λ (k : ℕ). SetMeans (take k (drop s.start b)) x) e w
