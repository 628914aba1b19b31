-- A datagram in the shortest form is read back, of whatever kind that the reading takes; of a response it is `ReadsBack` of specs/Theorems. Assumes nothing.
use Prim.Native.Nat.{ℕ, zero, suc, ◌+◌, ◌-◌, ◌^◌, ◌≤◌, ◌<◌}
use mathlib.Core.Path.{◌≡◌, refl, sym, ap, ap₂, ◌∙◌}
use mathlib.Core.Bool.{Bool, true, false, cond, ◌&&◌, ◌||◌}
use mathlib.Core.List.{List, [], ◌∷◌, ◌++◌, map, append_assoc, append-nil}
use native.Mathlib.Omega.{arith}
use borrow.Author.Tests.{le-leb, lt-leb, leb-true, lt-ltb, eq-eqb, eqb-true, ltb-true}
use lib.Dec.{leb, ltb, eqb}
use lib.ListN.{length, get_or, length-append}
use lib.Seq.{get_or_at}
use Rattle.std.specs.Prelude.{Some, Result, Ok, Err, ⊤}
use Rattle.octets.specs.Numbers.{be_at, be_octets}
use Rattle.octets.specs.Parts.{part}
use Rattle.octets.proofs.NumberLaws.{Octets, be_at-in, be_at-one, be_at-be_octets, length-be_octets}
use Rattle.octets.proofs.PartLaws.{part_in, part-at}
use Rattle.names.specs.SubIds.{name_octets}
use Rattle.message.specs.declared.refusals.Reason.{Reason}
use Rattle.message.specs.declared.refusals.Reason.TheVariants.{HeadWrong, NoCounterpart}
use Rattle.message.specs.declared.request.Bound.{Bound as Read}
use Rattle.message.specs.declared.form.Role.TheVariants.{Null, Value, Answered}
use Rattle.message.specs.declared.request.Binding.{Binding}
use Rattle.message.specs.Form.{field, tag_allowed}
use Rattle.message.specs.Request.{read_to, kind_allowed, status_allowed, content_role}
use Rattle.message.specs.Answer.{Bound, bound, most_octets}
use Rattle.message.specs.Theorems as form
use Rattle.message.proofs.FormLaws.{clash}
use Rattle.ber.specs.declared.Part.{Part}
use Rattle.datagram.specs.declared.reading.Opening.{Opening}
use Rattle.datagram.specs.declared.reading.PduHead.{PduHead}
use Rattle.ber.specs.Ber.{length_octets, length_said, field_at, part_at, number_at, fewest, is_number, unsigned8, four, sub_ids, name_whole, name_fits, content_tag, content_judged, content_octets}
use Rattle.datagram.specs.Reading.{takes_of, pdu_taken, pdu_in, community_in, version_in, opening_of, status_judged, status_at, last_at, list_in, index_in, status_in, head_in, tag_taken, content_in, name_in, binding_at, bindings_from, Message, pdu_of, read_datagram, bound_at}
use Rattle.sending.specs.Writing.{name_written, length_form, ber_octets, shortened, name_ber, ber_tag, content_ber, binding_ber, bindings_ber, response_ber, datagram_octets}
use Rattle.sending.specs.Theorems.{AllCarried, message_read, ReadsBack}
use Rattle.sending.proofs.BackLaws.{fewest-shortened, shortened-least, four-integer, integer-fits, octet-fits, octet-last, NameBack, name_back, ContentBack, content-back}

-- records by their fields
abbrev at_part : (start len : ℕ) → Part
at_part start len = record { start = start; len = len }

abbrev opened : ℕ → Part → Part → ℕ → Opening
opened kind community pdu end = record { kind = kind; community = community; pdu = pdu; end = end }

abbrev head_of : (id status index : ℕ) → Part → PduHead
head_of id status index list = record { id = id; status = status; index = index; list = list }

abbrev bound_to : Binding → ℕ → Result Read Reason
bound_to b next = Ok (read_to b next)

-- ## Fields

-- a length in the shortest form, with octets before it and after it
module _ (s x : List ℕ) (n : ℕ) (z : List ℕ) (at end : ℕ) (e : length x ≡ at) where
  length-one : n < 128 → s ≡ x ++ (n ∷ z) → at + 1 ≤ end → (length_octets s at end ≡ Some 1) × (length_said s at 1 ≡ n)
  unfolding length_octets length_said
  length-one k is h =
      let g : get_or s at 0 ≡ n = ap (λ (u : List ℕ). get_or u at 0) is ∙ get_or_at x n z 0 at e in
      (rw (lt-ltb at end (omega arith), g, lt-ltb n 128 k), g)

  length_two : s ≡ x ++ (0x81 ∷ n ∷ z) → at + 2 ≤ end → (length_octets s at end ≡ Some 2) × (length_said s at 2 ≡ n)
  unfolding length_octets length_said
  length_two is h =
      let g : get_or s at 0 ≡ 0x81 = ap (λ (u : List ℕ). get_or u at 0) is ∙ get_or_at x 0x81 (n ∷ z) 0 at e in
      let i : s ≡ (x ++ (0x81 ∷ [])) ++ (n ∷ z) = is ∙ sym (append_assoc x (0x81 ∷ []) (n ∷ z)) in
      let l : length (x ++ (0x81 ∷ [])) ≡ at + 1 = length-append x (0x81 ∷ []) ∙ omega arith in
      let v : get_or s (at + 1) 0 ≡ n = ap (λ (u : List ℕ). get_or u (at + 1) 0) i ∙ get_or_at (x ++ (0x81 ∷ [])) n z 0 (at + 1) l in
      (rw (lt-ltb at end (omega arith), g, le-leb (at + 2) end h), be_at-one s (at + 1) ∙ v)

  length_three : n < 65536 → s ≡ x ++ (0x82 ∷ (be_octets 2 n ++ z)) → at + 3 ≤ end → (length_octets s at end ≡ Some 3) × (length_said s at 3 ≡ n)
  unfolding length_octets length_said
  length_three k is h =
      let g : get_or s at 0 ≡ 0x82 = ap (λ (u : List ℕ). get_or u at 0) is ∙ get_or_at x 0x82 (be_octets 2 n ++ z) 0 at e in
      let i : s ≡ (x ++ (0x82 ∷ [])) ++ (be_octets 2 n ++ z) = is ∙ sym (append_assoc x (0x82 ∷ []) (be_octets 2 n ++ z)) in
      let l : length (x ++ (0x82 ∷ [])) ≡ at + 1 = length-append x (0x82 ∷ []) ∙ omega arith in
      let v : be_at s (at + 1) 2 ≡ n = ap (λ (u : List ℕ). be_at u (at + 1) 2) i ∙ be_at-in (x ++ (0x82 ∷ [])) z (at + 1) 2 n l k in
      (rw (lt-ltb at end (omega arith), g, le-leb (at + 3) end h), v)

  length_back : n < 65536 → s ≡ x ++ (length_form n ++ z) → at + length (length_form n) ≤ end
      → (0 < length (length_form n)) × (length_octets s at end ≡ Some (length (length_form n))) × (length_said s at (length (length_form n)) ≡ n)
  unfolding length_form
  length_back k = go (ltb n 128) (ltb n 256) refl
    where
      go : (a b : Bool) → ltb n 128 ≡ a → s ≡ x ++ (cond a (n ∷ []) (cond b (0x81 ∷ n ∷ []) (0x82 ∷ be_octets 2 n)) ++ z)
          → at + length (cond a (n ∷ []) (cond b (0x81 ∷ n ∷ []) (0x82 ∷ be_octets 2 n))) ≤ end
          → (0 < length (cond a (n ∷ []) (cond b (0x81 ∷ n ∷ []) (0x82 ∷ be_octets 2 n))))
          × (length_octets s at end ≡ Some (length (cond a (n ∷ []) (cond b (0x81 ∷ n ∷ []) (0x82 ∷ be_octets 2 n)))))
          × (length_said s at (length (cond a (n ∷ []) (cond b (0x81 ∷ n ∷ []) (0x82 ∷ be_octets 2 n)))) ≡ n)
      go true b q is h = let (o, v) = length-one (ltb-true n 128 q) is h in (omega arith, o, v)
      go false true q is h = let (o, v) = length_two is h in (omega arith, o, v)
      go false false q is h =
          let l : length (0x82 ∷ be_octets 2 n) ≡ 3 = ap suc (length-be_octets 2 n) in
          let (o, v) = length_three k is (omega arith) in
          rw l (omega arith, o, v)

field_of : (s : List ℕ) (at end k n tag : ℕ) → length_octets s (at + 1) end ≡ Some k → length_said s (at + 1) k ≡ n → get_or s at 0 ≡ tag → at + 1 + k + n ≤ end → field_at s at end ≡ Some (field tag (at + 1 + k) n)
unfolding field_at
field_of s at end k n tag a b t h = rw (a, b, t, le-leb (at + 1 + k + n) end h)

-- a field that was written, where it stands in s: its contents are c, and z follows it
pub record FieldBack (s : List ℕ) (at end tag : ℕ) (c z : List ℕ) : Type 0 where
  pub start : ℕ
  pub here : field_at s at end ≡ Some (field tag start (length c))
  pub contents : part s start (length c) ≡ c
  pub before : List ℕ
  pub stands : s ≡ before ++ (c ++ z)
  pub placed : length before ≡ start
  pub after : List ℕ
  pub goes : s ≡ after ++ z
  pub reached : length after ≡ start + length c
  pub next : start + length c ≡ at + length (ber_octets tag c)

field_back : (s x : List ℕ) (tag : ℕ) (c z : List ℕ) (at end : ℕ) → s ≡ x ++ (ber_octets tag c ++ z) → length x ≡ at → at + length (ber_octets tag c) ≤ end → end < 65536 → FieldBack s at end tag c z
unfolding ber_octets
field_back s x tag c z at end is e h k =
    let n : ℕ = length c in
    let f : List ℕ = length_form n in
    let l : length (ber_octets tag c) ≡ 1 + length f + n = omega (arith, length-append (tag ∷ f) c) in
    let i : s ≡ x ++ (tag ∷ (f ++ (c ++ z))) = is ∙ ap (λ (u : List ℕ). x ++ (tag ∷ u)) (append_assoc f c z) in
    let t : get_or s at 0 ≡ tag = ap (λ (u : List ℕ). get_or u at 0) i ∙ get_or_at x tag (f ++ (c ++ z)) 0 at e in
    let y : List ℕ = x ++ (tag ∷ []) in
    let ly : length y ≡ at + 1 = length-append x (tag ∷ []) ∙ omega arith in
    let j : s ≡ y ++ (f ++ (c ++ z)) = i ∙ sym (append_assoc x (tag ∷ []) (f ++ (c ++ z))) in
    let b : (0 < length f) × (length_octets s (at + 1) end ≡ Some (length f)) × (length_said s (at + 1) (length f) ≡ n) = length_back s y n (c ++ z) (at + 1) end ly (omega arith) j (omega arith) in
    let g : s ≡ (y ++ f) ++ (c ++ z) = j ∙ sym (append_assoc y f (c ++ z)) in
    let lg : length (y ++ f) ≡ at + 1 + length f = length-append y f ∙ omega arith in
    record {
      start = at + 1 + length f;
      here = field_of s at end (length f) n tag b.1 b.2 t (omega arith);
      contents = part_in s (y ++ f) c z (at + 1 + length f) g lg;
      before = y ++ f;
      stands = g;
      placed = lg;
      after = (y ++ f) ++ c;
      goes = g ∙ sym (append_assoc (y ++ f) c z);
      reached = length-append (y ++ f) c ∙ omega arith;
      next = omega arith;
    }

-- in an enclosure that ends with s
field_in : (s x : List ℕ) (tag : ℕ) (c z : List ℕ) (at end : ℕ) → s ≡ x ++ (ber_octets tag c ++ z) → length x ≡ at → end ≡ length s → length s < 65536 → FieldBack s at end tag c z
field_in s x tag c z at end is e n k =
    field_back s x tag c z at end is e (omega (arith, ap length is, length-append x (ber_octets tag c ++ z), length-append (ber_octets tag c) z)) (omega arith)

-- the last field of s ends with it
field-ends : (s : List ℕ) (at end tag : ℕ) (c : List ℕ) (w : FieldBack s at end tag c []) → w.start + length c ≡ length s
field-ends s at end tag c w = sym w.reached ∙ ap length (sym (append-nil w.after)) ∙ ap length (sym w.goes)

-- contents that are the last of s
last-in : {s : List ℕ} (x c : List ℕ) → s ≡ x ++ (c ++ []) → s ≡ x ++ c
last-in x c e = e ∙ ap (λ (u : List ℕ). x ++ u) (append-nil c)

last_out : {s : List ℕ} (x c : List ℕ) → s ≡ x ++ c → s ≡ x ++ (c ++ [])
last_out x c e = e ∙ ap (λ (u : List ℕ). x ++ u) (sym (append-nil c))

part-here : (s : List ℕ) (at end tag start len : ℕ) → field_at s at end ≡ Some (field tag start len) → part_at tag s at end ≡ Ok (record { start = start; len = len })
unfolding part_at
part-here s at end tag start len e = rw (e, eq-eqb tag tag refl)

number-here : (s : List ℕ) (at end start len : ℕ) (c : List ℕ) → field_at s at end ≡ Some (field 0x02 start len) → part s start len ≡ c → fewest c ≡ true → number_at s at end ≡ Ok (record { start = start; len = len })
unfolding number_at
number-here s at end start len c e p f = rw (part-here s at end 0x02 start len e, p, f)

-- ## Bindings

-- the fields of a binding, one in the other
binding-read : (kind : ℕ) (s : List ℕ) (at end from len name size content clen t tag : ℕ) (n c : List ℕ) → field_at s at end ≡ Some (field 0x30 from len) → field_at s from (from + len) ≡ Some (field 0x06 name size)
    → part s name size ≡ n → name_whole n ≡ true → name_fits n ≡ true → field_at s (name + size) (from + len) ≡ Some (field t content clen) → content_tag t ≡ Some tag → tag_allowed (content_role kind) tag ≡ true
    → part s content clen ≡ c → content_judged tag c ≡ Ok tt → from + len ≤ content + clen
    → binding_at kind s at end ≡ Ok (read_to (record { name = name; size = size; tag = tag; content = content; len = clen }) (from + len))
unfolding binding_at name_in content_in tag_taken
binding-read kind s at end from len name size content clen t tag n c o i p w f g k a q j h =
    rw (part-here s at end 0x30 from len o, part-here s from (from + len) 0x06 name size i, p, w, f, g, k, a, q, j, le-leb (from + len) (content + clen) h)

-- what a datagram of a kind may carry: a binding of that kind of message, with a name that has a counterpart
pub record CarriedBy (kind : ℕ) (b : Bound) : Type 0 where
  pub carried : form.Carried kind b
  pub named : Octets b.name
  pub written : name_written b.name 0 ≡ true

abbrev pub AllCarriedBy : ℕ → List Bound → Type 0
AllCarriedBy kind [] = Unit {0}
AllCarriedBy kind (b ∷ bs) = CarriedBy kind b × AllCarriedBy kind bs

-- a response may carry every content
answered : (kind tag : ℕ) → tag_allowed (content_role kind) tag ≡ true → tag_allowed Answered tag ≡ true
unfolding content_role tag_allowed
answered kind tag = go (eqb kind 3) (eqb kind 2)
  where
    value : (a b : Bool) → leb 0x21 tag ≡ a → leb tag 0x24 ≡ b → (a && b) ≡ true → tag_allowed Answered tag ≡ true
    value true true p q e = rw (le-leb 0x20 tag (omega (arith, leb-true 0x21 tag p)), q)
    value true false p q e = clash (cc)
    value false b p q e = clash (cc)

    go : (a b : Bool) → tag_allowed (cond a Value (cond b Answered Null)) tag ≡ true → tag_allowed Answered tag ≡ true
    go true b e = value (leb 0x21 tag) (leb tag 0x24) refl refl e
    go false true e = e
    go false false e = rw (eqb-true tag 0x20 e)

binding-back : (kind : ℕ) (s x : List ℕ) (b : Bound) (z : List ℕ) (at end : ℕ) → s ≡ x ++ (binding_ber b ++ z) → length x ≡ at → at + length (binding_ber b) ≤ end → end < 65536 → CarriedBy kind b
    → (r : Binding) × (binding_at kind s at end ≡ Ok (read_to r (at + length (binding_ber b)))) × (bound_at s r ≡ b)
unfolding binding_ber bound_at
binding-back kind s x b z at end is e h k w =
    let v = w.carried in
    let name : List ℕ = name_ber b.name in
    let content : List ℕ = content_ber b.tag b.content in
    let f : List ℕ = ber_octets 0x06 name in
    let g : List ℕ = ber_octets (ber_tag b.tag) content in
    let nb : NameBack b.name = name_back b.name w.named v.long v.short v.fours w.written in
    let cb : ContentBack b.tag b.content = content-back b.tag b.content (answered kind b.tag v.tagged) v.sized in
    let l : length (f ++ g) ≡ length f + length g = length-append f g in
    let o : FieldBack s at end 0x30 (f ++ g) z = field_back s x 0x30 (f ++ g) z at end is e h k in
    let end₁ : ℕ = o.start + length (f ++ g) in
    let small : end₁ < 65536 = omega (arith, o.next) in
    let i : s ≡ o.before ++ (f ++ (g ++ z)) = o.stands ∙ ap (λ (u : List ℕ). o.before ++ u) (append_assoc f g z) in
    let n : FieldBack s o.start end₁ 0x06 name (g ++ z) = field_back s o.before 0x06 name (g ++ z) o.start end₁ i o.placed (omega arith) small in
    let c : FieldBack s (n.start + length name) end₁ (ber_tag b.tag) content z =
    field_back s n.after (ber_tag b.tag) content z (n.start + length name) end₁ n.goes n.reached (omega (arith, n.next)) small in
    let d : end₁ ≤ c.start + length content = omega (arith, c.next, n.next) in
    let r : Binding = record { name = n.start; size = length name; tag = b.tag; content = c.start; len = length content } in (
      r,
      binding-read kind s at end o.start (length (f ++ g)) n.start (length name) c.start (length content) (ber_tag b.tag) b.tag name content
          o.here n.here n.contents nb.whole nb.fits c.here cb.tagged v.tagged c.contents cb.judged d
          ∙ ap (λ (n : ℕ). bound_to r n) o.next,
      ap₂ (λ (u t : List ℕ). bound u b.tag t)
          (ap (λ (u : List ℕ). name_octets (sub_ids u)) n.contents ∙ nb.octets)
          (ap (content_octets b.tag) c.contents ∙ cb.octets),
    )

none_left : (kind : ℕ) (s : List ℕ) (left at : ℕ) → length s ≡ at → bindings_from kind s (length s) left at ≡ Ok []
unfolding bindings_from
none_left kind s zero at e = rw (le-leb (length s) at (omega arith))
none_left kind s (suc left) at e = rw (le-leb (length s) at (omega arith))

some-ber : (b : Bound) → 1 ≤ length (binding_ber b)
unfolding binding_ber ber_octets
some-ber b = omega arith

-- the bindings to the end
bindings-back : (kind : ℕ) (s : List ℕ) (bs : List Bound) (x : List ℕ) (left at : ℕ) → s ≡ x ++ bindings_ber bs → length x ≡ at → length s < 65536 → length bs ≤ left → AllCarriedBy kind bs
    → (rs : List Binding) × (bindings_from kind s (length s) left at ≡ Ok rs) × (map (bound_at s) rs ≡ bs)
unfolding bindings_ber bindings_from
bindings-back kind s [] x left at is e k h w = ([], none_left kind s left at (ap length (is ∙ append-nil x) ∙ e), refl)
bindings-back kind s (b ∷ bs) x zero at is e k h w = absurd (omega arith)
bindings-back kind s (b ∷ bs) x (suc left) at is e k h w =
    let z : List ℕ = bindings_ber bs in
    let next : ℕ = at + length (binding_ber b) in
    let lx : length (x ++ binding_ber b) ≡ next = length-append x (binding_ber b) ∙ omega arith in
    let ls : length s ≡ next + length z = ap length is ∙ omega (arith, length-append x (binding_ber b ++ z), length-append (binding_ber b) z) in
    let more : leb (length s) at ≡ false = lt-leb (length s) at (omega (arith, some-ber b)) in
    let (r, p, q) = binding-back kind s x b z at (length s) is e (omega arith) k w.0 in
    let (rs, p', q') = bindings-back kind s bs (x ++ binding_ber b) left next (is ∙ sym (append_assoc x (binding_ber b) z)) lx k (omega arith) w.1 in
    (r ∷ rs, rw (more, p, p'), ap₂ ◌∷◌ q q')

-- ## The whole

opening-read : (answers : Bool) (kind : ℕ) (s : List ℕ) (from len version community size pdu plen : ℕ) → kind_allowed (takes_of answers) kind ≡ true → field_at s 0 (length s) ≡ Some (field 0x30 from len) → field_at s from (from + len) ≡ Some (field 0x02 version 1)
    → part s version 1 ≡ 1 ∷ [] → field_at s (version + 1) (from + len) ≡ Some (field 0x04 community size) → field_at s (community + size) (from + len) ≡ Some (field (0xA0 + kind) pdu plen)
    → opening_of answers s ≡ Ok (opened kind (at_part community size) (at_part pdu plen) (from + len))
unfolding opening_of version_in community_in pdu_in pdu_taken is_number fewest
opening-read answers kind s from len version community size pdu plen t o v p c d =
    let i : 0xA0 + kind - 0xA0 ≡ kind = omega arith in
    rw (
      part-here s 0 (length s) 0x30 from len o,
      number-here s from (from + len) version 1 (1 ∷ []) v p refl,
      p,
      part-here s (version + 1) (from + len) 0x04 community size c,
      d,
      le-leb 0xA0 (0xA0 + kind) (omega arith),
      i,
      t,
    )

number-none : (n : ℕ) → n ≡ 0 → is_number 0 (shortened (0 ∷ n ∷ [])) ≡ true
unfolding is_number shortened fewest
number-none n z = rw z

right-status : (kind n : ℕ) → (eqb kind 2 || eqb n 0) ≡ true → status_judged kind (shortened (0 ∷ n ∷ [])) ≡ Ok tt
unfolding status_judged
right-status kind n = go (eqb kind 2) (eqb n 0) refl
  where
    either : (t : Bool) → ◌≡◌ {A = Result ⊤ Reason} (cond t (Ok tt) (Ok tt)) (Ok tt)
    either true = refl
    either false = refl

    go : (a b : Bool) → eqb n 0 ≡ b → (a || b) ≡ true
        → ◌≡◌ {A = Result ⊤ Reason} (cond (is_number 0 (shortened (0 ∷ n ∷ []))) (Ok tt) (cond a (cond (unsigned8 (shortened (0 ∷ n ∷ []))) (Ok tt) (Err NoCounterpart)) (Err HeadWrong))) (Ok tt)
    go true b q e = rw (octet-fits n) (either (is_number 0 (shortened (0 ∷ n ∷ []))))
    go false true q e = rw (number-none n (eqb-true n 0 q))
    go false false q e = clash (cc)

-- a status or an index: 0 in a request
status-here : (kind : ℕ) (s : List ℕ) (at end start n : ℕ) → (eqb kind 2 || eqb n 0) ≡ true → field_at s at end ≡ Some (field 0x02 start (length (shortened (0 ∷ n ∷ [])))) → part s start (length (shortened (0 ∷ n ∷ []))) ≡ shortened (0 ∷ n ∷ [])
    → (status_at kind s at end ≡ Ok (at_part start (length (shortened (0 ∷ n ∷ []))))) × (last_at s (at_part start (length (shortened (0 ∷ n ∷ [])))) ≡ n)
unfolding status_at
status-here kind s at end start n t e p =
    let c : List ℕ = shortened (0 ∷ n ∷ []) in
    let l : 1 ≤ length c = shortened-least (0 ∷ n ∷ []) (omega arith) in
    let i : start + length c - 1 ≡ start + (length c - 1) = omega arith in (
      rw (number-here s at end start (length c) c e p (fewest-shortened (0 ∷ n ∷ []) (omega arith)), p, right-status kind n t),
      ap (λ (j : ℕ). get_or s j 0) i ∙ sym (part-at s start (length c) (length c - 1) (omega arith)) ∙ ap (λ (u : List ℕ). get_or u (length c - 1) 0) p ∙ octet-last n,
    )

head_read : (kind : ℕ) (s : List ℕ) (at end i t x list len id status index tlen xlen : ℕ) → id < 2 ^ 32
    → field_at s at end ≡ Some (field 0x02 i (length (shortened (be_octets 4 id)))) → part s i (length (shortened (be_octets 4 id))) ≡ shortened (be_octets 4 id)
    → status_at kind s (i + length (shortened (be_octets 4 id))) end ≡ Ok (at_part t tlen) → last_at s (at_part t tlen) ≡ status
    → status_at kind s (t + tlen) end ≡ Ok (at_part x xlen) → last_at s (at_part x xlen) ≡ index
    → field_at s (x + xlen) end ≡ Some (field 0x30 list len) → head_in kind s at end ≡ Ok (head_of id status index (at_part list len))
unfolding head_in status_in index_in list_in
head_read kind s at end i t x list len id status index tlen xlen k e p f a g b l =
    let c : List ℕ = be_octets 4 id in
    let n : length c ≡ 4 = length-be_octets 4 id in
    let v : be_at (four (shortened c)) 0 4 ≡ id = ap (λ (u : List ℕ). be_at u 0 4) (four-integer c n) ∙ be_at-be_octets 4 id k in
    rw (
      number-here s at end i (length (shortened c)) (shortened c) e p (fewest-shortened c (omega arith)),
      p,
      integer-fits c n,
      v,
      f,
      a,
      g,
      b,
      part-here s (x + xlen) end 0x30 list len l,
    )

pdu-read : (s : List ℕ) (o : Opening) (h : PduHead) (rs : List Binding) → head_in o.kind s o.pdu.start (o.pdu.start + o.pdu.len) ≡ Ok h
    → bindings_from o.kind s (length s) 16 h.list.start ≡ Ok rs → h.list.start + h.list.len ≡ length s → o.pdu.start + o.pdu.len ≡ length s → o.end ≡ length s
    → pdu_of s o ≡ Ok (record { kind = o.kind; id = h.id; status = h.status; index = h.index; community = o.community; bindings = rs })
unfolding pdu_of
pdu-read s o h rs q b l p e =
    let f : bindings_from o.kind s (h.list.start + h.list.len) 16 h.list.start ≡ Ok rs = ap (λ (n : ℕ). bindings_from o.kind s n 16 h.list.start) l ∙ b in
    rw (q, f, eq-eqb (h.list.start + h.list.len) (o.pdu.start + o.pdu.len) (l ∙ sym p), eq-eqb (o.pdu.start + o.pdu.len) o.end (p ∙ sym e), eq-eqb o.end (length s) e)

whole-read : (answers : Bool) (s : List ℕ) (o : Opening) {x : Result Message Reason} → opening_of answers s ≡ Ok o → pdu_of s o ≡ x → read_datagram answers s ≡ x
unfolding read_datagram
whole-read answers s o e f = rw e f

both-quiet : (kind status index : ℕ) → status_allowed kind status index ≡ true → ((eqb kind 2 || eqb status 0) ≡ true) × ((eqb kind 2 || eqb index 0) ≡ true)
unfolding status_allowed
both-quiet kind status index = go (eqb kind 2) (eqb status 0) (eqb index 0)
  where
    go : (a b c : Bool) → (a || (b && c)) ≡ true → ((a || b) ≡ true) × ((a || c) ≡ true)
    go true b c e = (refl, refl)
    go false true true e = (refl, refl)
    go false true false e = clash (cc)
    go false false c e = clash (cc)

-- what a PDU holds that ends with s
body_back : (kind : ℕ) (s : List ℕ) (id status index : ℕ) (bs : List Bound) (x : List ℕ) (at plen : ℕ)
    → s ≡ x ++ (ber_octets 0x02 (shortened (be_octets 4 id)) ++ (ber_octets 0x02 (shortened (0 ∷ status ∷ [])) ++ (ber_octets 0x02 (shortened (0 ∷ index ∷ [])) ++ ber_octets 0x30 (bindings_ber bs))))
    → length x ≡ at → at + plen ≡ length s → length s < 65536 → status_allowed kind status index ≡ true → id < 2 ^ 32 → length bs ≤ 16 → AllCarriedBy kind bs
    → (rs : List Binding)
    × ((community size end : ℕ) → end ≡ length s → pdu_of s (opened kind (at_part community size) (at_part at plen) end) ≡ Ok (message_read kind id status index community size rs))
    × (map (bound_at s) rs ≡ bs)
body_back kind s id status index bs y at plen is e pend small quiet h few w =
    let pdu : ℕ = at + plen in
    let num : List ℕ = shortened (be_octets 4 id) in
    let sta : List ℕ = shortened (0 ∷ status ∷ []) in
    let ind : List ℕ = shortened (0 ∷ index ∷ []) in
    let lis : List ℕ = ber_octets 0x30 (bindings_ber bs) in
    let i : FieldBack s at pdu 0x02 num (ber_octets 0x02 sta ++ (ber_octets 0x02 ind ++ lis)) = field_in s y 0x02 num (ber_octets 0x02 sta ++ (ber_octets 0x02 ind ++ lis)) at pdu is e pend small in
    let t : FieldBack s (i.start + length num) pdu 0x02 sta (ber_octets 0x02 ind ++ lis) =
    field_in s i.after 0x02 sta (ber_octets 0x02 ind ++ lis) (i.start + length num) pdu i.goes i.reached pend small in
    let x : FieldBack s (t.start + length sta) pdu 0x02 ind lis = field_in s t.after 0x02 ind lis (t.start + length sta) pdu t.goes t.reached pend small in
    let l : FieldBack s (x.start + length ind) pdu 0x30 (bindings_ber bs) [] =
    field_in s x.after 0x30 (bindings_ber bs) [] (x.start + length ind) pdu (last_out x.after lis x.goes) x.reached pend small in
    let lend : l.start + length (bindings_ber bs) ≡ length s = field-ends s (x.start + length ind) pdu 0x30 (bindings_ber bs) l in
    let (qs, qi) = both-quiet kind status index quiet in
    let (ts, tv) = status-here kind s (i.start + length num) pdu t.start status qs t.here t.contents in
    let (xs, xv) = status-here kind s (t.start + length sta) pdu x.start index qi x.here x.contents in
    let (rs, br, q) = bindings-back kind s bs l.before 16 l.start (last-in l.before (bindings_ber bs) l.stands) l.placed small few w in (
      rs,
      (λ community size end oend.
          pdu-read s (opened kind (at_part community size) (at_part at plen) end) (head_of id status index (at_part l.start (length (bindings_ber bs)))) rs
          (head_read kind s at pdu i.start t.start x.start l.start (length (bindings_ber bs)) id status index (length sta) (length ind) h i.here i.contents ts tv xs xv l.here)
          br lend pend oend),
      q,
    )

-- a datagram of any kind in the shortest form; of a response it is `datagram_octets`
unfoldable pub any_octets : (kind : ℕ) (community : List ℕ) → (id status index : ℕ) → List Bound → List ℕ
any_octets kind community id status index bs =
    ber_octets 0x30
    (ber_octets 0x02 (1 ∷ [])
    ++ (ber_octets 0x04 community
    ++ ber_octets (0xA0 + kind)
    (ber_octets 0x02 (shortened (be_octets 4 id))
    ++ (ber_octets 0x02 (shortened (0 ∷ status ∷ [])) ++ (ber_octets 0x02 (shortened (0 ∷ index ∷ [])) ++ ber_octets 0x30 (bindings_ber bs))))))

pub any-response : (community : List ℕ) (id status index : ℕ) (bs : List Bound) → any_octets 2 community id status index bs ≡ datagram_octets community id status index bs
unfolding any_octets datagram_octets response_ber
any-response community id status index bs = refl

-- reading what is in the shortest form gives what it was made of
pub any-back : (answers : Bool) (kind : ℕ) (community : List ℕ) (id status index : ℕ) (bs : List Bound) → kind_allowed (takes_of answers) kind ≡ true → status_allowed kind status index ≡ true
    → id < 2 ^ 32 → length bs ≤ 16 → AllCarriedBy kind bs → length (any_octets kind community id status index bs) ≤ most_octets
    → (at : ℕ) × (rs : List Binding)
    × (read_datagram answers (any_octets kind community id status index bs) ≡ Ok (message_read kind id status index at (length community) rs))
    × (map (bound_at (any_octets kind community id status index bs)) rs ≡ bs)
    × (part (any_octets kind community id status index bs) at (length community) ≡ community)
unfolding any_octets
any-back answers kind community id status index bs taken quiet h few w most =
    let s : List ℕ = any_octets kind community id status index bs in
    let n : ℕ = length s in
    let small : n < 65536 = omega arith in
    let ver : List ℕ = ber_octets 0x02 (1 ∷ []) in
    let comm : List ℕ = ber_octets 0x04 community in
    let num : List ℕ = ber_octets 0x02 (shortened (be_octets 4 id)) in
    let sta : List ℕ = ber_octets 0x02 (shortened (0 ∷ status ∷ [])) in
    let ind : List ℕ = ber_octets 0x02 (shortened (0 ∷ index ∷ [])) in
    let lis : List ℕ = ber_octets 0x30 (bindings_ber bs) in
    let body : List ℕ = num ++ (sta ++ (ind ++ lis)) in
    let pdu : List ℕ = ber_octets (0xA0 + kind) body in
    let inner : List ℕ = ver ++ (comm ++ pdu) in
    let o : FieldBack s 0 n 0x30 inner [] = field_in s [] 0x30 inner [] 0 n (sym (append-nil s)) refl refl small in
    let oend : o.start + length inner ≡ n = field-ends s 0 n 0x30 inner o in
    let v : FieldBack s o.start (o.start + length inner) 0x02 (1 ∷ []) (comm ++ pdu) =
    field_in s o.before 0x02 (1 ∷ []) (comm ++ pdu) o.start (o.start + length inner) (last-in o.before inner o.stands) o.placed oend small in
    let c : FieldBack s (v.start + 1) (o.start + length inner) 0x04 community pdu =
    field_in s v.after 0x04 community pdu (v.start + 1) (o.start + length inner) v.goes v.reached oend small in
    let p : FieldBack s (c.start + length community) (o.start + length inner) (0xA0 + kind) body [] =
    field_in s c.after (0xA0 + kind) body [] (c.start + length community) (o.start + length inner) (last_out c.after pdu c.goes) c.reached oend small in
    let pend : p.start + length body ≡ n = field-ends s (c.start + length community) (o.start + length inner) (0xA0 + kind) body p in
    let (rs, r, q) = body_back kind s id status index bs p.before p.start (length body) (last-in p.before body p.stands) p.placed pend small quiet h few w in (
      c.start,
      rs,
      whole-read answers s (opened kind (at_part c.start (length community)) (at_part p.start (length body)) (o.start + length inner))
          (opening-read answers kind s o.start (length inner) v.start c.start (length community) p.start (length body) taken o.here v.here v.contents c.here p.here)
          (r c.start (length community) (o.start + length inner) oend),
      q,
      c.contents,
    )

pub carried-by : (bs : List Bound) → AllCarried bs → AllCarriedBy 2 bs
unfolding content_role
carried-by [] w = tt
carried-by (b ∷ bs) w =
    let v = w.0.sendable in (
      record {
        carried = record { long = v.long; short = v.short; fours = v.fours; tagged = v.tagged; sized = v.sized };
        named = v.named;
        written = w.0.written;
      },
      carried-by bs w.1,
    )

-- reading what was written gives what was written
pub reads-back : ReadsBack
unfolding kind_allowed status_allowed
reads-back community id status index bs h few w most =
    let e : any_octets 2 community id status index bs ≡ datagram_octets community id status index bs = any-response community id status index bs in
    rw e at (any-back true 2 community id status index bs refl refl h few (carried-by bs w) (rw e most))
