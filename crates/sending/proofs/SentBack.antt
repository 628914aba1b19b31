-- A message that is sent and read back is the same, octet by octet (`SentReadsBack` of specs/Theorems): a response that was read is its own octets. Assumes nothing.
use Prim.Native.Nat.{ℕ, zero, suc, ◌+◌, ◌^◌, ◌≤◌, ◌<◌}
use mathlib.Core.Path.{◌≡◌, refl, sym, ap, subst, ◌∙◌}
use mathlib.Core.Bool.{Bool, true, false, cond}
use mathlib.Core.List.{List, [], ◌∷◌, ◌++◌, map, append_assoc}
use native.Mathlib.Omega.{arith}
use native.Mathlib.Numerals.{add-one}
use borrow.Author.Tests.{leb-true, eqb-true, le-leb, le-ltb}
use lib.Dec.{leb, eqb}
use lib.ListN.{length, get_or, take, drop, length-append, take-append-drop, drop_of_length-le}
use lib.Seq.{drop-cons, drop-drop, take_at}
use Rattle.octets.specs.Numbers.{be_at, be_octets}
use Rattle.octets.specs.Parts.{part}
use Rattle.octets.proofs.NumberLaws.{Octets, be_at-same, be_at-lt, be_octets-be_at}
use Rattle.octets.proofs.OctetLaws.{octets-part}
use Rattle.octets.proofs.PartLaws.{part-one, part_length, part-at}
use Rattle.std.specs.Prelude.{Some, None, Result, Ok, Err}
use Rattle.message.specs.declared.refusals.Reason.TheVariants.{TagNotAllowed, LengthWrong}
use Rattle.message.specs.declared.form.Refusal.{Refusal}
use Rattle.message.specs.declared.form.Field.{Field}
use Rattle.message.specs.declared.form.Role.{Role}
use Rattle.message.specs.declared.form.Role.TheVariants.{Kind, Id, Status, Bind, Name, Answered}
use Rattle.message.specs.declared.request.Head.{Head}
use Rattle.message.specs.declared.request.Bound.{Bound as Read}
use Rattle.message.specs.Form.{field, field_at, tag_allowed, length_right, field_judged, checked_at, refusal, at_kind_field, at_kind, at_id_field, at_id, at_status_field, at_status, at_index, head_size, most_bindings}
use Rattle.message.specs.Request.{status_allowed, status_of, id_of, content_role, content_in, Bindings, ended, all, prepend, binding_then, with_bindings, head_then, Reading, refused, message}
use Rattle.message.specs.Answer.{Bound, field_octets, head_octets, binding_octets, bindings_octets, message_octets, most_octets, bound_at}
use Rattle.message.proofs.FormLaws.{InPlace, told, ok-same, cond_cases, clash}
use Rattle.message.proofs.AnswerLaws.{length-field}
use Rattle.message.proofs.BindingLaws.{name-length}
use Rattle.datagram.specs.Reading.{handed}
use Rattle.sending.specs.Writing.{name_written, response_in, response_at, responses_from, response_head, read_response, datagram_octets, sent_by, to_datagram}
use Rattle.sending.specs.Theorems.{Carried, AllCarried, SentReadsBack}
use Rattle.datagram.proofs.PlaceLaws.{call-read}
use Rattle.sending.proofs.WriteLaws.{written-own}
use Rattle.sending.proofs.SendLaws.{checked-cases}
use Rattle.sending.proofs.ReadBack.{reads-back}

drop-split : (s : List ℕ) (p n : ℕ) → drop p s ≡ part s p n ++ drop (p + n) s
drop-split s p n = sym (take-append-drop n (drop p s)) ∙ ap (λ (u : List ℕ). part s p n ++ u) (drop-drop n p s)

-- a field that was found is what stands there
found-is : (p : Role) (s : List ℕ) (at end tag start len : ℕ) → checked_at p s at end ≡ Ok (field tag start len) → (tag ≡ get_or s at 0) × (len ≡ be_at s (at + 1) 2)
unfolding checked_at field_judged field_at
found-is p s at end tag start len = go (leb (at + 3) end) (leb (at + 3 + be_at s (at + 1) 2) end)
  where
    tests : (c d : Bool)
        → cond c (cond d (Ok (field (get_or s at 0) (at + 3) (be_at s (at + 1) 2))) (Err (refusal LengthWrong at))) (Err (refusal TagNotAllowed at)) ≡ Ok (field tag start len)
        → (tag ≡ get_or s at 0) × (len ≡ be_at s (at + 1) 2)
    tests true true e =
        let q = ok-same e in
        (sym (ap (λ (f : Field). f.tag) q), sym (ap (λ (f : Field). f.len) q))
    tests true false e = clash (cc)
    tests false d e = clash (cc)

    go : (a b : Bool) → field_judged p at (cond a (cond b (Some (field (get_or s at 0) (at + 3) (be_at s (at + 1) 2))) None) None) ≡ Ok (field tag start len) → (tag ≡ get_or s at 0) × (len ≡ be_at s (at + 1) 2)
    go true true e = tests (tag_allowed p (get_or s at 0)) (length_right p (get_or s at 0) (be_at s (at + 1) 2)) e
    go true false e = clash (cc)
    go false b e = clash (cc)

-- the places that allow one tag
module _ (tag : ℕ) where
  kind-tag : tag_allowed Kind tag ≡ true → tag ≡ 0x01
  unfolding tag_allowed
  kind-tag e = eqb-true tag 0x01 e

  id-tag : tag_allowed Id tag ≡ true → tag ≡ 0x02
  unfolding tag_allowed
  id-tag e = eqb-true tag 0x02 e

  status-tag : tag_allowed Status tag ≡ true → tag ≡ 0x03
  unfolding tag_allowed
  status-tag e = eqb-true tag 0x03 e

  bind-tag : tag_allowed Bind tag ≡ true → tag ≡ 0x10
  unfolding tag_allowed
  bind-tag e = eqb-true tag 0x10 e

  name-tag : tag_allowed Name tag ≡ true → tag ≡ 0x11
  unfolding tag_allowed
  name-tag e = eqb-true tag 0x11 e

-- a name in the octets of its own, and where it stands
module _ (s : List ℕ) (o : Octets s) where
  field-own : (p : Role) (at end tag start len : ℕ) → checked_at p s at end ≡ Ok (field tag start len) → end ≤ length s → drop at s ≡ field_octets tag (part s start len) ++ drop (start + len) s
  field-own p at end tag start len e h =
      let w : InPlace p at end tag start len = told s refl e in
      let (t, l) = found-is p s at end tag start len e in
      let z : start ≡ at + 1 + 2 = omega (arith, w.starts) in
      let first : drop at s ≡ get_or s at 0 ∷ drop (at + 1) s = drop-cons s at 0 (omega (arith, w.starts, w.within)) ∙ ap (λ (j : ℕ). get_or s at 0 ∷ drop j s) (sym (add-one at)) in
      let two : be_octets 2 (be_at s (at + 1) 2) ≡ part s (at + 1) 2 = be_octets-be_at s (at + 1) 2 o (omega (arith, w.starts, w.within)) in
      let n : length (part s start len) ≡ len = part_length s start len (omega (arith, w.within)) in
      let header : part s (at + 1) 2 ≡ be_octets 2 (length (part s start len)) = sym two ∙ ap (be_octets 2) (sym (n ∙ l)) in
      first
      ∙ ap (λ (j : ℕ). j ∷ drop (at + 1) s) (sym t)
      ∙ ap (λ (u : List ℕ). tag ∷ u) (drop-split s (at + 1) 2 ∙ ap (λ (j : ℕ). part s (at + 1) 2 ++ drop j s) (sym z) ∙ ap (λ (u : List ℕ). part s (at + 1) 2 ++ u) (drop-split s start len))
      ∙ ap (λ (u : List ℕ). tag ∷ (u ++ (part s start len ++ drop (start + len) s))) header
      ∙ ap (λ (u : List ℕ). tag ∷ u) (sym (append_assoc (be_octets 2 (length (part s start len))) (part s start len) (drop (start + len) s)))

  abbrev BindingReadOwn : ℕ → Result Read Refusal → Type 0
  BindingReadOwn at (Err r) = Unit {0}
  BindingReadOwn at (Ok d) = (drop at s ≡ binding_octets (bound_at s d.binding) ++ drop d.next s) × Carried (bound_at s d.binding)

  -- the two fields of a binding, in its own
  binding-own : (at start len name size content clen tag : ℕ) → drop at s ≡ field_octets 0x10 (part s start len) ++ drop (start + len) s → drop start s ≡ field_octets 0x11 (part s name size) ++ drop (name + size) s
      → drop (name + size) s ≡ field_octets tag (part s content clen) ++ drop (content + clen) s → content + clen ≡ start + len → len ≡ 6 + size + clen → name + size ≤ length s → content + clen ≤ length s
      → drop at s ≡ field_octets 0x10 (field_octets 0x11 (part s name size) ++ field_octets tag (part s content clen)) ++ drop (start + len) s
  binding-own at start len name size content clen tag a b c e n h k =
      let f : List ℕ = field_octets 0x11 (part s name size) in
      let g : List ℕ = field_octets tag (part s content clen) in
      let l : length (f ++ g) ≡ len =
      length-append f g ∙ omega (arith, length-field 0x11 (part s name size), length-field tag (part s content clen), part_length s name size h, part_length s content clen k) in
      let d : drop start s ≡ (f ++ g) ++ drop (start + len) s =
      b ∙ ap (λ (u : List ℕ). f ++ u) (c ∙ ap (λ (j : ℕ). g ++ drop j s) e) ∙ sym (append_assoc f g (drop (start + len) s)) in
      let p : part s start len ≡ f ++ g = ap (take len) d ∙ take_at (f ++ g) (drop (start + len) s) len l in
      a ∙ ap (λ (u : List ℕ). field_octets 0x10 u ++ drop (start + len) s) p

  binding-read-own : (at : ℕ) → BindingReadOwn at (response_at s at)
  unfolding response_at response_in content_in content_role length_right binding_octets
  binding-read-own at =
      checked-cases (BindingReadOwn at) Bind s at (length s) (λ r e. tt)
      (λ tag start len e.
      let w : InPlace Bind at (length s) tag start len = told s refl e in
      checked-cases (BindingReadOwn at) Name s start (start + len) (λ r f. tt)
      (λ ntag name size f.
      let v : InPlace Name start (start + len) ntag name size = told s refl f in
      let (n8, n512, n4) = name-length ntag size v.right in
      cond_cases (BindingReadOwn at) (name_written s name)
      (λ t. checked-cases (BindingReadOwn at) Answered s (name + size) (start + len) (λ r g. tt)
      (λ ctag content clen g.
      let u : InPlace Answered (name + size) (start + len) ctag content clen = told s refl g in
      cond_cases (BindingReadOwn at) (leb (start + len) (content + clen))
      (λ y.
      let z : start + len ≤ content + clen = leb-true (start + len) (content + clen) y in
      let named : name + size ≤ length s = omega (arith, w.within, v.within) in
      let filled : content + clen ≤ length s = omega (arith, w.within, u.within) in
      let ln : length (part s name size) ≡ size = part_length s name size named in
      let lc : length (part s content clen) ≡ clen = part_length s content clen filled in
      let bt : tag ≡ 0x10 = bind-tag tag w.allowed in
      let nt : ntag ≡ 0x11 = name-tag ntag v.allowed in (
        binding-own at start len name size content clen ctag
            (rw bt at (field-own Bind at (length s) tag start len e (omega arith)))
            (rw nt at (field-own Name start (start + len) ntag name size f w.within))
            (field-own Answered (name + size) (start + len) ctag content clen g w.within)
            (omega (arith, u.within)) (omega (arith, v.starts, u.starts, u.within)) named filled,
        record {
          sendable = record {
            long = omega arith;
            short = omega arith;
            fours = rw ln n4;
            tagged = u.allowed;
            sized = rw lc u.right;
            named = octets-part s name size o;
            filled = octets-part s content clen o;
          };
          written = written-own s name size n8 ∙ t;
        },
      ))
      (λ y. tt)))
      (λ t. tt)))

  abbrev BindingsOwn : (left at : ℕ) → Bindings → Type 0
  BindingsOwn left at (ended r) = Unit {0}
  BindingsOwn left at (all bs) = (drop at s ≡ bindings_octets (map (bound_at s) bs)) × AllCarried (map (bound_at s) bs) × (length (map (bound_at s) bs) ≤ left)

  more-own : (left at : ℕ) (k : Result Read Refusal) (go : ℕ → Bindings) → BindingReadOwn at k → ((next : ℕ) → BindingsOwn left next (go next)) → BindingsOwn (suc left) at (binding_then k go)
  unfolding bindings_octets
  more-own left at (Err r) go w h = tt
  more-own left at (Ok d) go w h = prepended (go d.next) (h d.next)
    where
      prepended : (x : Bindings) → BindingsOwn left d.next x → BindingsOwn (suc left) at (prepend d.binding x)
      prepended (ended r) v = tt
      prepended (all bs) v = (w.0 ∙ ap (λ (u : List ℕ). binding_octets (bound_at s d.binding) ++ u) v.0, (w.1, v.1), omega (arith, v.2))

  bindings-own : (left at : ℕ) → BindingsOwn left at (responses_from s left at)
  unfolding responses_from bindings_octets
  bindings-own zero at = cond_cases (BindingsOwn zero at) (leb (length s) at) (λ t. (drop_of_length-le s {i = at} (leb-true (length s) at t), tt, omega arith)) (λ t. tt)
  bindings-own (suc left) at =
      cond_cases (BindingsOwn (suc left) at) (leb (length s) at) (λ t. (drop_of_length-le s {i = at} (leb-true (length s) at t), tt, omega arith))
      (λ t. more-own left at (response_at s at) (responses_from s left) (binding-read-own at) (bindings-own left))

  -- a field whose tag, place and length are known
  field_fixed : (p : Role) (at tag start len t a n : ℕ) → checked_at p s at (length s) ≡ Ok (field tag start len) → tag ≡ t → start ≡ a → len ≡ n → drop at s ≡ field_octets t (part s a n) ++ drop (a + n) s
  field_fixed p at tag start len t a n e x y z = rw (x, y, z) at (field-own p at (length s) tag start len e (omega arith))

  part-two : (p : ℕ) → suc p < length s → part s p 2 ≡ get_or s p 0 ∷ get_or s (suc p) 0 ∷ []
  part-two p h = ap (take 2) (drop-cons s p 0 (omega arith) ∙ ap (λ (u : List ℕ). get_or s p 0 ∷ u) (drop-cons s (suc p) 0 h))

  abbrev HeadOwn : Result Head Refusal → Type 0
  HeadOwn (Err r) = Unit {0}
  HeadOwn (Ok h) = (s ≡ head_octets 2 h.id h.status h.index ++ drop head_size s) × (h.id < 2 ^ 32)

  three : (a b c r₁ r₂ r₃ : List ℕ) → s ≡ a ++ r₁ → r₁ ≡ b ++ r₂ → r₂ ≡ c ++ r₃ → s ≡ (a ++ (b ++ c)) ++ r₃
  three a b c r₁ r₂ r₃ x y z =
      x ∙ ap (λ (u : List ℕ). a ++ u) (y ∙ ap (λ (u : List ℕ). b ++ u) z ∙ sym (append_assoc b c r₃)) ∙ sym (append_assoc a (b ++ c) r₃)

  head-own : HeadOwn (response_head s)
  unfolding response_head id_of status_of status_allowed head_octets length_right
  head-own =
      checked-cases HeadOwn Kind s at_kind_field (length s) (λ r e. tt)
      (λ tag start len e. cond_cases HeadOwn (eqb (get_or s at_kind 0) 2)
      (λ t. checked-cases HeadOwn Id s at_id_field (length s) (λ r f. tt)
      (λ itag istart ilen f. checked-cases HeadOwn Status s at_status_field (length s) (λ r g. tt)
      (λ stag sstart slen g.
      let w : InPlace Kind 0 (length s) tag start len = told s refl e in
      let v : InPlace Id 4 (length s) itag istart ilen = told s refl f in
      let u : InPlace Status 11 (length s) stag sstart slen = told s refl g in
      let l₂ : slen ≡ 2 = eqb-true slen 2 u.right in
      let long : 16 ≤ length s = omega (arith, u.starts, u.within) in
      let a : drop 0 s ≡ field_octets 0x01 (part s at_kind 1) ++ drop at_id_field s = field_fixed Kind at_kind_field tag start len 0x01 at_kind 1 e (kind-tag tag w.allowed) w.starts (eqb-true len 1 w.right) in
      let b : drop at_id_field s ≡ field_octets 0x02 (part s at_id 4) ++ drop at_status_field s = field_fixed Id at_id_field itag istart ilen 0x02 at_id 4 f (id-tag itag v.allowed) v.starts (eqb-true ilen 4 v.right) in
      let c : drop at_status_field s ≡ field_octets 0x03 (part s at_status 2) ++ drop head_size s = field_fixed Status at_status_field stag sstart slen 0x03 at_status 2 g (status-tag stag u.allowed) u.starts l₂ in
      let k : part s at_kind 1 ≡ 2 ∷ [] = part-one s at_kind (omega arith) ∙ ap (λ (j : ℕ). j ∷ []) (eqb-true (get_or s at_kind 0) 2 t) in
      let i : part s at_id 4 ≡ be_octets 4 (be_at s at_id 4) = sym (be_octets-be_at s at_id 4 o (omega arith)) in
      let x : part s at_status 2 ≡ get_or s at_status 0 ∷ get_or s at_index 0 ∷ [] = part-two at_status (omega arith) in (
        three (field_octets 0x01 (2 ∷ [])) (field_octets 0x02 (be_octets 4 (be_at s at_id 4))) (field_octets 0x03 (get_or s at_status 0 ∷ get_or s at_index 0 ∷ [])) (drop at_id_field s) (drop at_status_field s) (drop head_size s)
            (a ∙ ap (λ (l : List ℕ). field_octets 0x01 l ++ drop at_id_field s) k) (b ∙ ap (λ (l : List ℕ). field_octets 0x02 l ++ drop at_status_field s) i) (c ∙ ap (λ (l : List ℕ). field_octets 0x03 l ++ drop head_size s) x),
        be_at-lt s 7 4 o,
      ))))
      (λ t. tt))

  -- a response that was read is its own octets
  abbrev pub ReadingOwn : Reading → Type 0
  ReadingOwn (refused r) = Unit {0}
  ReadingOwn (message kind id status index bs) =
      (message_octets 2 id status index (map (bound_at s) bs) ≡ s) × (id < 2 ^ 32) × AllCarried (map (bound_at s) bs) × (length (map (bound_at s) bs) ≤ 16)

  pub reading-own : ReadingOwn (read_response s)
  unfolding read_response message_octets
  reading-own = go (response_head s) head-own
    where
      go : (x : Result Head Refusal) → HeadOwn x → ReadingOwn (head_then x (λ kind id status index. with_bindings kind id status index (responses_from s most_bindings head_size)))
      go (Err r) w = tt
      go (Ok h) w = ends (responses_from s most_bindings head_size) (bindings-own most_bindings head_size)
        where
          ends : (x : Bindings) → BindingsOwn 16 16 x → ReadingOwn (with_bindings h.kind h.id h.status h.index x)
          ends (ended r) v = tt
          ends (all bs) v = (sym (w.0 ∙ ap (λ (u : List ℕ). head_octets 2 h.id h.status h.index ++ u) v.0), w.1, v.1, v.2)

pub sent-reads-back : SentReadsBack
unfolding to_datagram sent_by
sent-reads-back room fresh community s kind id status index bs oct ls lr lf e m =
    let (own, small, carried, few) = subst (ReadingOwn s oct) e (reading-own s oct) in
    let d : List ℕ = datagram_octets community id status index (map (bound_at s) bs) in
    let (at, rs, r, q, c) = reads-back community id status index (map (bound_at s) bs) small few carried m in (
      d,
      at,
      rw (le-ltb (length room) most_octets lr, le-ltb most_octets (length s) ls, e, le-leb (length d) most_octets m),
      sym (call-read true fresh d lf m r)
          ∙ ap (λ (l : List Bound). handed fresh (record { start = at; len = length community }) (message_octets 2 id status index l)) q
          ∙ ap (λ (l : List ℕ). handed fresh (record { start = at; len = length community }) l) own
          ∙ rw (le-leb (length s) most_octets ls),
      c,
    )
