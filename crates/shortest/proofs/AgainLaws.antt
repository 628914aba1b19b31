-- A response that was read from a datagram is written again (`ShortestIsWritten` of specs/Theorems): writing takes what the message form reads, where the names have a counterpart. Assumes nothing.
use Prim.Native.Nat.{ℕ, zero, suc, ◌+◌, ◌≤◌}
use mathlib.Core.Path.{◌≡◌, refl, sym, ap, subst, ◌∙◌}
use mathlib.Core.Bool.{Bool, true, false, cond}
use mathlib.Core.List.{List, [], ◌∷◌, map}
use native.Mathlib.Omega.{arith}
use borrow.Author.Tests.{le-leb, le-ltb, eqb-true}
use lib.Dec.{leb}
use lib.ListN.{length, get_or, drop, length-take}
use Rattle.octets.specs.Numbers.{be_octets}
use Rattle.message.specs.declared.form.Role.TheVariants.{Bind, Name}
use Rattle.std.specs.Prelude.{Result, Ok, Err}
use Rattle.message.specs.declared.refusals.Reason.TheVariants.{NoCounterpart}
use Rattle.message.specs.declared.form.Refusal.{Refusal}
use Rattle.message.specs.declared.form.Field.{Field}
use Rattle.message.specs.declared.request.Binding.{Binding}
use Rattle.message.specs.declared.request.Head.{Head}
use Rattle.message.specs.declared.request.Bound.{Bound as Read}
use Rattle.message.specs.Form.{checked_at, refusal, at_kind, head_size, most_bindings}
use Rattle.message.specs.Request.{answers_too, kind_allowed, checked_then, head_of, content_in, content_role, binding_in, binding_at, Bindings, ended, all, prepend, binding_then, seventeenth, bindings_from, message, with_bindings, head_then, read_message}
use Rattle.message.specs.Answer.{Bound, head_octets, message_octets, most_octets, bound_at}
use Rattle.message.proofs.FormLaws.{clash, cond_cases}
use Rattle.sending.specs.Writing.{name_written, response_in, response_at, responses_from, response_head, read_response, datagram_octets, sent, sent_by, to_datagram}
use Rattle.sending.proofs.SendLaws.{checked-cases}
use Rattle.sending.proofs.WriteLaws.{written-own}
use Rattle.sending.proofs.ReadBack.{any_octets, any-response, AllCarriedBy}
use Rattle.shortest.specs.Theorems.{ShortestIsWritten}
use Rattle.shortest.proofs.Theorems.{Formed, formed-reads, Canonical, canonical, shortest-is}

module _ (s : List ℕ) where
  -- ## One binding

  abbrev Named : ℕ → Result Read Refusal → Type 0
  Named name (Err r) = Unit {0}
  Named name (Ok d) = d.binding.name ≡ name

  content-named : (end name size : ℕ) → Named name (content_in 2 s end name size)
  unfolding content_in
  content-named end name size =
      checked-cases (Named name) (content_role 2) s (name + size) end (λ r e. tt) (λ tag start len e. cond_cases (Named name) (leb end (start + len)) (λ t. refl) (λ t. tt))

  -- where the form reads a binding whose name has a counterpart, writing reads the same
  abbrev BindingReadSame : (wrote reads : Result Read Refusal) → Type 0
  BindingReadSame wrote (Err r) = Unit {0}
  BindingReadSame wrote (Ok d) = name_written s d.binding.name ≡ true → wrote ≡ Ok d

  judged-same : (name : ℕ) (k stop : Result Read Refusal) → Named name k → BindingReadSame (cond (name_written s name) k stop) k
  judged-same name (Err r) stop e = tt
  judged-same name (Ok d) stop e = λ h. rw (← e, h)

  name-same : (end : ℕ) (c : Result Field Refusal)
      → BindingReadSame (checked_then c Err (λ tag start len. cond (name_written s start) (content_in 2 s end start len) (Err (refusal NoCounterpart 0))))
      (checked_then c Err (λ tag start len. content_in 2 s end start len))
  name-same end (Err r) = tt
  name-same end (Ok f) = judged-same f.start (content_in 2 s end f.start f.len) (Err (refusal NoCounterpart 0)) (content-named end f.start f.len)

  binding-read-same : (at : ℕ) → BindingReadSame (response_at s at) (binding_at 2 s at)
  unfolding response_at binding_at response_in binding_in
  binding-read-same at = go (checked_at Bind s at (length s))
    where
      go : (c : Result Field Refusal) → BindingReadSame (checked_then c Err (λ tag start len. response_in s start (start + len))) (checked_then c Err (λ tag start len. binding_in 2 s start (start + len)))
      go (Err r) = tt
      go (Ok f) = name-same (f.start + f.len) (checked_at Name s f.start (f.start + f.len))

  -- ## All bindings

  abbrev AllWritten : List Binding → Type 0
  AllWritten [] = Unit {0}
  AllWritten (b ∷ bs) = (name_written s b.name ≡ true) × AllWritten bs

  abbrev Same : (wrote reads : Bindings) → Type 0
  Same wrote (ended r) = Unit {0}
  Same wrote (all bs) = AllWritten bs → wrote ≡ all bs

  more_same : (wrote reads : Result Read Refusal) (go other : ℕ → Bindings) → BindingReadSame wrote reads → ((next : ℕ) → Same (go next) (other next)) → Same (binding_then wrote go) (binding_then reads other)
  more_same wrote (Err r) go other w f = tt
  more_same wrote (Ok d) go other w f = prepended (other d.next) (f d.next)
    where
      prepended : (x : Bindings) → Same (go d.next) x → Same (binding_then wrote go) (prepend d.binding x)
      prepended (ended r) v = tt
      prepended (all bs) v = λ h. ap (λ (k : Result Read Refusal). binding_then k go) (w h.0) ∙ ap (prepend d.binding) (v h.1)

  bindings-same : (left at : ℕ) → Same (responses_from s left at) (bindings_from 2 s left at)
  unfolding responses_from bindings_from
  bindings-same zero at = go (leb (length s) at)
    where
      go : (t : Bool) → Same (cond t (all []) (ended (seventeenth s at))) (cond t (all []) (ended (seventeenth s at)))
      go true = λ h. refl
      go false = tt
  bindings-same (suc left) at = go (leb (length s) at) (more_same (response_at s at) (binding_at 2 s at) (responses_from s left) (bindings_from 2 s left) (binding-read-same at) (bindings-same left))
    where
      go : (t : Bool) → Same (binding_then (response_at s at) (responses_from s left)) (binding_then (binding_at 2 s at) (bindings_from 2 s left))
          → Same (cond t (all []) (binding_then (response_at s at) (responses_from s left))) (cond t (all []) (binding_then (binding_at 2 s at) (bindings_from 2 s left)))
      go true q = λ h. refl
      go false q = q

  -- ## The whole

  head-same : get_or s at_kind 0 ≡ 2 → response_head s ≡ head_of answers_too s
  unfolding response_head head_of kind_allowed
  head-same e = rw e

  response-same : (id status index : ℕ) (rs : List Binding) → get_or s at_kind 0 ≡ 2 → read_message answers_too s ≡ message 2 id status index rs → AllWritten rs → read_response s ≡ message 2 id status index rs
  unfolding read_message read_response
  response-same id status index rs two e w =
      ap (λ (h : Result Head Refusal). head_then h (λ kind id status index. with_bindings kind id status index (responses_from s most_bindings head_size))) (head-same two) ∙ go (head_of answers_too s) e
    where
      ends : (k i t x : ℕ) (bs : Bindings) → bindings_from k s 16 16 ≡ bs → with_bindings k i t x bs ≡ message 2 id status index rs → with_bindings k i t x (responses_from s most_bindings head_size) ≡ message 2 id status index rs
      ends k i t x (ended r) f q = clash (cc)
      ends k i t x (all ts) f q =
          let a : k ≡ 2 = cc in
          let r : ts ≡ rs = cc in
          let p : bindings_from 2 s 16 16 ≡ all rs = ap (λ (j : ℕ). bindings_from j s 16 16) (sym a) ∙ f ∙ ap all r in
          let v : responses_from s most_bindings head_size ≡ all rs = subst (Same (responses_from s most_bindings head_size)) p (bindings-same 16 16) w in
          ap (with_bindings k i t x) v ∙ ap (message k i t x) (sym r) ∙ q

      go : (h : Result Head Refusal) → head_then h (λ kind id status index. with_bindings kind id status index (bindings_from kind s 16 16)) ≡ message 2 id status index rs
          → head_then h (λ kind id status index. with_bindings kind id status index (responses_from s most_bindings head_size)) ≡ message 2 id status index rs
      go (Err r) q = clash (cc)
      go (Ok h) q = ends h.kind h.id h.status h.index (bindings_from h.kind s 16 16) refl q

  all-written : (rs : List Binding) → AllCarriedBy 2 (map (bound_at s) rs) → AllWritten rs
  all-written [] w = tt
  all-written (b ∷ bs) w =
      let long : 8 ≤ b.size = omega (arith, w.0.carried.long, length-take b.size (drop b.name s)) in
      (sym (written-own s b.name b.size long) ∙ w.0.written, all-written bs w.1)

kind_at : (m : List ℕ) (kind id status index : ℕ) (bs : List Bound) → m ≡ message_octets kind id status index bs → get_or m at_kind 0 ≡ kind
unfolding message_octets head_octets be_octets
kind_at m kind id status index bs e = ap (λ (u : List ℕ). get_or u at_kind 0) e

-- what writing gives of a response in its parts
response-written : (room x m : List ℕ) (id status index : ℕ) (bs : List Bound) → Formed true m 2 id status index bs → most_octets ≤ length room → length m ≤ most_octets
    → to_datagram room x m ≡ sent room (any_octets 2 x id status index bs)
unfolding to_datagram sent_by
response-written room x m id status index bs f long fits =
    let (rs, p, own) = formed-reads f in
    let r : read_response m ≡ message 2 id status index rs =
    response-same m id status index rs (kind_at m 2 id status index bs f.is) p (all-written m rs (subst (AllCarriedBy 2) (sym own) f.carried)) in
    rw (le-ltb (length room) most_octets long, le-ltb most_octets (length m) fits, r)
    (ap (λ (l : List Bound). sent room (datagram_octets x id status index l)) own ∙ ap (sent room) (sym (any-response x id status index bs)))

pub shortest-is-written : ShortestIsWritten
shortest-is-written room m x d long two w =
    let c : Canonical true m x d = canonical true m x d w.taken in
    let k : c.kind ≡ 2 = sym (kind_at m c.kind c.id c.status c.index c.bs c.formed.is) ∙ eqb-true (get_or m at_kind 0) 2 two in
    written c.kind c.id c.status c.index c.bs k c.formed c.fits (shortest-is true m x d w c)
    ∙ rw (le-leb (length d) most_octets c.short)
  where
    written : (kind id status index : ℕ) (bs : List Bound) → kind ≡ 2 → Formed true m kind id status index bs → length m ≤ most_octets → d ≡ any_octets kind x id status index bs
        → to_datagram room x m ≡ sent room d
    written kind id status index bs k f fits is =
        response-written room x m id status index bs (rw k at f) long fits ∙ ap (sent room) (sym (rw k at is))
