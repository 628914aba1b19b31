-- Laws of sending a response: what reading it tells, and how the parts of the datagram come together. Assumes nothing.
use Prim.Native.Nat.{ℕ, zero, suc, ◌+◌, ◌*◌, ◌-◌, ◌/◌, ◌%◌, ◌≤◌, ◌<◌}
use mathlib.Core.Path.{◌≡◌, refl, sym, ap, subst, ◌∙◌}
use mathlib.Core.Bool.{true, false, ◌&&◌}
use mathlib.Core.List.{List, [], ◌∷◌, ◌++◌, map, append_assoc}
use native.Mathlib.Omega.{arith}
use native.Mathlib.Numerals.{add-one}
use borrow.Author.Tests.{leb-true, leb-false, eqb-true, le-leb, lt-leb, lt-ltb, le-ltb}
use lib.Dec.{leb, eqb}
use lib.ListN.{length, get_or, take, drop, replicate, length-append, length-replicate, drop_of_length-le}
use lib.Seq.{drop-cons, drop_at, take_at, length-take-le}
use Rattle.std.specs.Int.{to_be_bytes}
use mir.Syntax.{w32}
use Rattle.octets.specs.Numbers.{be_octets}
use Rattle.octets.specs.Parts.{part, patch}
use Rattle.octets.proofs.NumberLaws.{length-be_octets}
use Rattle.octets.proofs.PartLaws.{patch-none, patch-patch, part_length}
use Rattle.octets.proofs.BoolLaws.{both}
use Rattle.std.specs.Prelude.{Option, Some, None, Result, Ok, Err, IsErrAnd}
use Rattle.message.specs.Refusals.{number_of}
use Rattle.message.specs.declared.form.Field.{Field}
use Rattle.message.specs.declared.form.Role.{Role}
use Rattle.message.specs.declared.form.Role.TheVariants.{Kind, Id, Status, Bind, Name, Answered}
use Rattle.message.specs.declared.form.Refusal.{Refusal}
use Rattle.message.specs.declared.request.Head.{Head}
use Rattle.message.specs.declared.request.Binding.{Binding}
use Rattle.message.specs.declared.request.Bound.{Bound as Read}
use Rattle.message.specs.Form.{field, field_at, tag_allowed, length_right, field_judged, checked_at, at_kind_field, at_kind, at_id_field, at_status_field, head_size, most_bindings}
use Rattle.message.specs.Request.{checked_then, status_allowed, status_of, id_of, content_role, content_in, binding_tag_at, not_binding, seventeenth, Bindings, ended, all, prepend, binding_then, no_binding, with_bindings}
use Rattle.message.specs.Answer.{Bound, most_octets, bound_at}
use Rattle.message.proofs.FormLaws.{InPlace, told, cond_cases, clash}
use Rattle.message.proofs.BindingLaws.{content-brief}
use Rattle.sending.specs.Writing.{length_form, header_form, ber_octets, shortened, name_ber, ber_tag, content_ber, binding_ber, bindings_ber, response_ber, response_fields, response_front, datagram_fields, datagram_front, datagram_octets, name_written, response_in, response_at, responses_from, response_head, read_response, Writable, Ready, Put, not_sent, sent, sent_by, to_datagram}
use Rattle.sending.proofs.WriteLaws.{field-before, two-before, header-most, name-most, content-most, binding-is}

-- ## What is put

pub put_of : (a : List ℕ) (r p : ℕ) (xs : List ℕ) {b : List ℕ} → (r + length xs ≡ p) × (b ≡ patch a r xs) → Put a b r p xs
put_of a r p xs w = record { starts = w.0; filled = w.1 }

-- a header before its contents
pub put-field : {a b : List ℕ} {q p : ℕ} {xs : List ℕ} → Put a b q p xs → p ≤ length a → (tag r : ℕ) {c : List ℕ}
    → Put b c r q (header_form tag (p - q)) → Put a c r p (ber_octets tag xs)
put-field {a} {b} {q} {p} {xs} w h tag r e = put_of a r p (ber_octets tag xs) (field-before a r q p tag (p - q) xs w.filled w.starts h refl e.starts e.filled)

-- a part before others
pub put_two : {a b c : List ℕ} {r q p : ℕ} {xs ys : List ℕ} → Put a b q p ys → p ≤ length a → Put b c r q xs → Put a c r p (xs ++ ys)
put_two {a} {b} {c} {r} {q} {p} {xs} {ys} w h v = put_of a r p (xs ++ ys) (two-before a r q p xs ys w.filled w.starts h v.starts v.filled)

-- what was put, read again
pub put_back : {a b : List ℕ} {r p : ℕ} {xs : List ℕ} → Put a b r p xs → p ≤ length a → take (p - r) (drop r b) ≡ xs
unfolding patch
put_back {a} {b} {r} {p} {xs} w h =
    let f : b ≡ take r a ++ xs ++ drop (r + length xs) a = w.filled in
    ap (λ (u : List ℕ). take (p - r) (drop r u)) (f ∙ append_assoc (take r a) xs (drop (r + length xs) a))
    ∙ ap (take (p - r)) (drop_at (take r a) (xs ++ drop (r + length xs) a) r (length-take-le r a (omega (arith, w.starts))))
    ∙ take_at xs (drop (r + length xs) a) (p - r) (omega (arith, w.starts))

-- ## Sizes

field-most : (tag : ℕ) (xs : List ℕ) → length (ber_octets tag xs) ≤ 4 + length xs
unfolding ber_octets
field-most tag xs = omega (arith, length-append (header_form tag (length xs)) xs, header-most tag (length xs))

pub field-least : (tag : ℕ) (xs : List ℕ) → length xs ≤ length (ber_octets tag xs)
unfolding ber_octets
field-least tag xs = omega (arith, length-append (header_form tag (length xs)) xs)

pub binding-most : (s : List ℕ) (b : Binding) → Writable s b → length (binding_ber (bound_at s b)) ≤ 908
unfolding binding_ber
binding-most s b w =
    let name : List ℕ = name_ber (part s b.name b.size) in
    let content : List ℕ = content_ber b.tag (part s b.content b.len) in
    let x : List ℕ = ber_octets 0x06 name in
    let y : List ℕ = ber_octets (ber_tag b.tag) content in
    let m : length name ≤ 5 * (length (part s b.name b.size) / 4) = name-most (part s b.name b.size) in
    let l : length content ≤ b.len + 1 = omega (arith, content-most b.tag (part s b.content b.len), part_length s b.content b.len w.filled) in
    omega (arith, w.short, w.brief, part_length s b.name b.size w.named, field-most 0x30 (x ++ y), length-append x y, field-most 0x06 name, field-most (ber_tag b.tag) content)

-- a field, and how long it is at most
pub field_put : (a : List ℕ) (q p k tag r : ℕ) (xs : List ℕ) {b c : List ℕ} → Put a b q p xs → p ≤ length a → length xs ≤ k → Put b c r q (header_form tag (p - q))
    → Put a c r p (ber_octets tag xs) × (p ≤ r + (k + 4))
field_put a q p k tag r xs e h m f =
    let w : Put a _ r p (ber_octets tag xs) = put-field e h tag r f in
    (w, omega (arith, w.starts, field-most tag xs))

pub version-ber : 0x02 ∷ 1 ∷ 1 ∷ [] ≡ ber_octets 0x02 (1 ∷ [])
unfolding ber_octets length_form
version-ber = refl

pub four-bytes : (n : ℕ) → to_be_bytes w32 n ≡ be_octets 4 n
unfolding be_octets
four-bytes n =
    let a : n / 16777216 ≡ n / 256 / 256 / 256 = omega arith in
    let b : n / 65536 ≡ n / 256 / 256 = omega arith in
    rw (a, b)

-- a binding of two fields
pub binding-put : (s : List ℕ) (b : Binding) {a a₀ a₁ a₂ name content : List ℕ} {c n p : ℕ} (r : ℕ) → name ≡ part s b.name b.size → content ≡ part s b.content b.len
    → Put a a₀ c p (ber_octets (ber_tag b.tag) (content_ber b.tag content)) → p ≤ length a → Put a₀ a₁ n c (ber_octets 0x06 (name_ber name))
    → Put a₁ a₂ r n (header_form 0x30 (p - n)) → Put a a₂ r p (binding_ber (bound_at s b))
binding-put s b {a} {a₂ = a₂} {p = p} r e g w h v f = subst (Put a a₂ r p) (binding-is s b e g) (put-field (put_two w h v) h 0x30 r f)

-- ## The bindings, from the first to the last

abbrev pub left : List ℕ → List Binding → (i : ℕ) → List Bound
left s bs i = map (bound_at s) (drop i bs)

module _ (s : List ℕ) (bs : List Binding) (i : ℕ) (h : i < length bs) where
  bers-turn : bindings_ber (left s bs i) ≡ binding_ber (bound_at s (get_or bs i no_binding)) ++ bindings_ber (left s bs (i + 1))
  unfolding bindings_ber
  bers-turn = rw (add-one i, drop-cons bs i no_binding h)

  pub bers-size : length (bindings_ber (left s bs i)) ≡ length (binding_ber (bound_at s (get_or bs i no_binding))) + length (bindings_ber (left s bs (i + 1)))
  bers-size = ap length bers-turn ∙ length-append (binding_ber (bound_at s (get_or bs i no_binding))) (bindings_ber (left s bs (i + 1)))

  pub bers-put : (room : List ℕ) (to : ℕ) {next : ℕ} → next ≡ to + length (binding_ber (bound_at s (get_or bs i no_binding))) → to + length (bindings_ber (left s bs i)) ≤ length room
      → patch (patch room to (binding_ber (bound_at s (get_or bs i no_binding)))) next (bindings_ber (left s bs (i + 1))) ≡ patch room to (bindings_ber (left s bs i))
  bers-put room to {next} e r =
      patch-patch room to (binding_ber (bound_at s (get_or bs i no_binding))) (bindings_ber (left s bs (i + 1))) next (sym e) (omega (arith, bers-size))
      ∙ ap (patch room to) (sym bers-turn)

pub bers-none : (s : List ℕ) (bs : List Binding) (i : ℕ) → length bs ≤ i → length (bindings_ber (left s bs i)) ≡ 0
unfolding bindings_ber
bers-none s bs i h = rw (drop_of_length-le bs h)

pub bers-done : (s : List ℕ) (bs : List Binding) (i : ℕ) (room : List ℕ) (to : ℕ) → length bs ≤ i → room ≡ patch room to (bindings_ber (left s bs i))
unfolding bindings_ber
bers-done s bs i room to h = rw (drop_of_length-le bs h) (patch-none room to)

-- ## What stands before the community, and before the bindings

-- a header whose contents go on after the fields that stand behind it
pub put_front : {a b : List ℕ} {q p : ℕ} {fields : List ℕ} → Put a b q p fields → p ≤ length a → (tag size r : ℕ) {c : List ℕ}
    → Put b c r q (header_form tag (p - q + size)) → Put a c r p (header_form tag (length fields + size) ++ fields)
put_front {a} {b} {q} {p} {fields} w h tag size r {c} v =
    let n : p - q + size ≡ length fields + size = omega (arith, w.starts) in
    subst (λ (m : ℕ). Put a c r p (header_form tag m ++ fields)) n (put_two w h v)

pub response-front-put : {a a₁ a₂ a₃ a₄ a₅ : List ℕ} {l x t i p : ℕ} (r size id status index : ℕ) → p ≤ length a
    → Put a a₁ l p (header_form 0x30 size)
    → Put a₁ a₂ x l (ber_octets 0x02 (shortened (0 ∷ index ∷ [])))
    → Put a₂ a₃ t x (ber_octets 0x02 (shortened (0 ∷ status ∷ [])))
    → Put a₃ a₄ i t (ber_octets 0x02 (shortened (be_octets 4 id)))
    → Put a₄ a₅ r i (header_form 0xA2 (p - i + size))
    → Put a a₅ r p (response_front size id status index)
unfolding response_front response_fields
response-front-put {a} {l = l} {p = p} r size id status index h e v u y f =
    put_front (put_two (put_two (put_two e h v) h u) h y) h 0xA2 size r f

pub datagram-front-put : {a a₁ a₂ a₃ : List ℕ} {c v p : ℕ} (r community rest : ℕ) → p ≤ length a
    → Put a a₁ c p (header_form 0x04 community)
    → Put a₁ a₂ v c (ber_octets 0x02 (1 ∷ []))
    → Put a₂ a₃ r v (header_form 0x30 (p - v + (community + rest)))
    → Put a a₃ r p (datagram_front community rest)
unfolding datagram_front datagram_fields
datagram-front-put {a} {c = c} {p = p} r community rest h e y f =
    put_front (put_two e h y) h 0x30 (community + rest) r f

-- a field whose contents are fields and more
field_is : (tag : ℕ) (fields more : List ℕ) {contents : List ℕ} → contents ≡ fields ++ more → ber_octets tag contents ≡ (header_form tag (length fields + length more) ++ fields) ++ more
unfolding ber_octets
field_is tag fields more e =
    rw (e, length-append fields more) (sym (append_assoc (header_form tag (length fields + length more)) fields more))

ber-is : (tag : ℕ) (xs : List ℕ) → ber_octets tag xs ≡ header_form tag (length xs) ++ xs
unfolding ber_octets
ber-is tag xs = refl

response-is : (id status index : ℕ) (bs : List Bound) → response_ber id status index bs ≡ response_front (length (bindings_ber bs)) id status index ++ bindings_ber bs
unfolding response_ber response_front response_fields
response-is id status index bs =
    let i : List ℕ = ber_octets 0x02 (shortened (be_octets 4 id)) in
    let t : List ℕ = ber_octets 0x02 (shortened (0 ∷ status ∷ [])) in
    let x : List ℕ = ber_octets 0x02 (shortened (0 ∷ index ∷ [])) in
    let h : List ℕ = header_form 0x30 (length (bindings_ber bs)) in
    ap (λ (u : List ℕ). ber_octets 0xA2 (i ++ (t ++ (x ++ u)))) (ber-is 0x30 (bindings_ber bs))
    ∙ field_is 0xA2 (i ++ (t ++ (x ++ h))) (bindings_ber bs) (four-parts i t x h (bindings_ber bs))
  where
    four-parts : (i t x h b : List ℕ) → i ++ (t ++ (x ++ (h ++ b))) ≡ (i ++ (t ++ (x ++ h))) ++ b
    four-parts i t x h b =
        sym (append_assoc i (t ++ (x ++ h)) b ∙ ap (λ (u : List ℕ). i ++ u) (append_assoc t (x ++ h) b ∙ ap (λ (u : List ℕ). t ++ u) (append_assoc x h b)))

three-parts : (v c r : List ℕ) → v ++ (ber_octets 0x04 c ++ r) ≡ (v ++ header_form 0x04 (length c)) ++ (c ++ r)
unfolding ber_octets
three-parts v c r =
    sym (append_assoc v (header_form 0x04 (length c)) (c ++ r) ∙ ap (λ (u : List ℕ). v ++ u) (sym (append_assoc (header_form 0x04 (length c)) c r)))

pub datagram-is : (community : List ℕ) (id status index : ℕ) (bs : List Bound) {rest : ℕ} → rest ≡ length (response_front (length (bindings_ber bs)) id status index) + length (bindings_ber bs)
    → datagram_octets community id status index bs ≡ datagram_front (length community) rest ++ (community ++ (response_front (length (bindings_ber bs)) id status index ++ bindings_ber bs))
unfolding datagram_octets datagram_front datagram_fields
datagram-is community id status index bs {rest} e =
    let f : List ℕ = response_front (length (bindings_ber bs)) id status index in
    let r : List ℕ = response_ber id status index bs in
    let q : r ≡ f ++ bindings_ber bs = response-is id status index bs in
    let n : length r ≡ rest = ap length q ∙ length-append f (bindings_ber bs) ∙ sym e in
    let v : List ℕ = ber_octets 0x02 (1 ∷ []) in
    let h : List ℕ = header_form 0x04 (length community) in
    field_is 0x30 (v ++ h) (community ++ r) (three-parts v community r)
    ∙ ap (λ (m : ℕ). (header_form 0x30 (length (v ++ h) + m) ++ (v ++ h)) ++ (community ++ r)) (length-append community r ∙ ap (λ (m : ℕ). length community + m) n)
    ∙ ap (λ (u : List ℕ). (header_form 0x30 (length (v ++ h) + (length community + rest)) ++ (v ++ h)) ++ (community ++ u)) q

-- ## The datagram

pub sent-long : (room xs : List ℕ) → most_octets < length xs → not_sent 20 0 room ≡ sent room xs
sent-long room xs h = rw (lt-leb (length xs) most_octets h)

community-least : (community : List ℕ) (id status index : ℕ) (bs : List Bound) → length community ≤ length (datagram_octets community id status index bs)
unfolding datagram_octets
community-least community id status index bs =
    let v : List ℕ = ber_octets 0x02 (1 ∷ []) in
    let c : List ℕ = ber_octets 0x04 community in
    let r : List ℕ = response_ber id status index bs in
    omega (arith, field-least 0x30 (v ++ (c ++ r)), length-append v (c ++ r), length-append c r, field-least 0x04 community)

pub sent-community : (room community : List ℕ) (id status index : ℕ) (bs : List Bound) → most_octets < length community → not_sent 20 0 room ≡ sent room (datagram_octets community id status index bs)
sent-community room community id status index bs h = sent-long room (datagram_octets community id status index bs) (omega (arith, community-least community id status index bs))

-- what was measured of a datagram is its length
module _ (community : List ℕ) (id status index : ℕ) (bs : List Bound) {size r f rest : ℕ} (e : size ≡ length (bindings_ber bs))
    {a b : List ℕ} (w : Put a b r 28 (response_front size id status index)) (k : rest ≡ 28 - r + size)
    {c d : List ℕ} (v : Put c d f 11 (datagram_front (length community) rest)) where
  rest-is : rest ≡ length (response_front (length (bindings_ber bs)) id status index) + length (bindings_ber bs)
  rest-is = rw (← e) (omega (arith, w.starts))

  pub measured-is : 11 - f + (length community + rest) ≡ length (datagram_octets community id status index bs)
  measured-is =
      let x : List ℕ = datagram_front (length community) rest in
      let y : List ℕ = response_front (length (bindings_ber bs)) id status index in
      omega (arith, ap length (datagram-is community id status index bs rest-is), length-append x (community ++ (y ++ bindings_ber bs)), length-append community (y ++ bindings_ber bs), length-append y (bindings_ber bs), rest-is, v.starts)

  pub measured-over : (room : List ℕ) → most_octets < 11 - f + (length community + rest) → not_sent 20 0 room ≡ sent room (datagram_octets community id status index bs)
  measured-over room h = sent-long room (datagram_octets community id status index bs) (omega (arith, measured-is))

  pub parts_are : 28 ≤ length a → 11 ≤ length c
      → take (11 - f) (drop f d) ++ (community ++ (take (28 - r) (drop r b) ++ bindings_ber bs)) ≡ datagram_octets community id status index bs
  parts_are h l =
      ap (λ (u : List ℕ). u ++ (community ++ (take (28 - r) (drop r b) ++ bindings_ber bs))) (put_back v l)
      ∙ ap (λ (u : List ℕ). datagram_front (length community) rest ++ (community ++ (u ++ bindings_ber bs))) (put_back w h ∙ ap (λ (n : ℕ). response_front n id status index) e)
      ∙ sym (datagram-is community id status index bs rest-is)

  pub parts-fit : (room : List ℕ) → 28 ≤ length a → 11 ≤ length c → 11 - f + (length community + rest) ≤ most_octets → most_octets ≤ length room
      → length (take (11 - f) (drop f d)) + (length community + (length (take (28 - r) (drop r b)) + length (bindings_ber bs))) ≤ length room
  parts-fit room h l m o =
      let x : List ℕ = take (11 - f) (drop f d) in
      let y : List ℕ = take (28 - r) (drop r b) in
      omega (arith, ap length (parts_are h l), length-append x (community ++ (y ++ bindings_ber bs)), length-append community (y ++ bindings_ber bs), length-append y (bindings_ber bs), measured-is)

pub sent-whole : (room xs : List ℕ) {n : ℕ} {c : List ℕ} → n ≡ length xs → n ≤ most_octets → c ≡ patch room 0 xs → record { number = 0; count = n; offset = 0; room = c } ≡ sent room xs
sent-whole room xs {n} e h f = rw (← e, le-leb n most_octets h, f)

-- four parts, each behind the one before
pub four-put : (room x y z w : List ℕ) {a b c d : List ℕ} → length x + (length y + (length z + length w)) ≤ length room
    → a ≡ patch room 0 x → b ≡ patch a (length x) y → c ≡ patch b (length x + length y) z → d ≡ patch c (length x + length y + length z) w → d ≡ patch room 0 (x ++ (y ++ (z ++ w)))
four-put room x y z w {a} {b} {c} {d} h e f g k =
    let b' : b ≡ patch room 0 (x ++ y) = f ∙ ap (λ (u : List ℕ). patch u (length x) y) e ∙ patch-patch room 0 x y (length x) (omega arith) (omega arith) in
    let c' : c ≡ patch room 0 ((x ++ y) ++ z) = g ∙ ap (λ (u : List ℕ). patch u (length x + length y) z) b' ∙ patch-patch room 0 (x ++ y) z (length x + length y) (omega (arith, length-append x y)) (omega (arith, length-append x y)) in
    k ∙ ap (λ (u : List ℕ). patch u (length x + length y + length z) w) c'
    ∙ patch-patch room 0 ((x ++ y) ++ z) w (length x + length y + length z) (omega (arith, length-append (x ++ y) z, length-append x y)) (omega (arith, length-append (x ++ y) z, length-append x y))
    ∙ ap (patch room 0) (append_assoc (x ++ y) z w ∙ append_assoc x y (z ++ w))

pub long-enough : (n : ℕ) → n ≤ length (replicate {A = ℕ} n 0)
long-enough n = omega (arith, length-replicate {A = ℕ} n 0)

-- ## What reading a response tells

abbrev Placed : ℕ → Result Field Refusal → Type 0
Placed at (Err r) = r.at ≡ at
Placed at (Ok f) = Unit {0}

placed : (p : Role) (s : List ℕ) (at end : ℕ) → Placed at (checked_at p s at end)
unfolding checked_at field_judged
placed p s at end = go (field_at s at end)
  where
    go : (f : Option Field) → Placed at (field_judged p at f)
    go None = refl
    go (Some f) = cond_cases (Placed at) (tag_allowed p f.tag) (λ _. cond_cases (Placed at) (length_right p f.tag f.len) (λ _. tt) (λ _. refl)) (λ _. refl)

pub checked-cases : {A : Type 0} (P : A → Type 0) (p : Role) (s : List ℕ) (at end : ℕ) {stop : Refusal → A} {go : ℕ → ℕ → ℕ → A}
    → ((r : Refusal) → r.at ≡ at → P (stop r)) → ((tag start len : ℕ) → checked_at p s at end ≡ Ok (field tag start len) → P (go tag start len)) → P (checked_then (checked_at p s at end) stop go)
checked-cases P p s at end {stop} {go} refuses finds = cases (checked_at p s at end) refl (placed p s at end)
  where
    cases : (k : Result Field Refusal) → checked_at p s at end ≡ k → Placed at k → P (checked_then k stop go)
    cases (Err r) e w = refuses r w
    cases (Ok f) e w = finds f.tag f.start f.len e

pub name-length : (tag len : ℕ) → length_right Name tag len ≡ true → (8 ≤ len) × (len % 4 ≡ 0) × (len ≤ 512)
unfolding length_right
name-length tag len e =
    let o : ((leb 8 len && leb len 512) ≡ true) × (eqb (len % 4) 0 ≡ true) = both (leb 8 len && leb len 512) (eqb (len % 4) 0) e in
    let l : (leb 8 len ≡ true) × (leb len 512 ≡ true) = both (leb 8 len) (leb len 512) o.0 in
    (leb-true 8 len l.0, eqb-true (len % 4) 0 o.1, leb-true len 512 l.1)

-- the head: a refusal's place, or the kind
abbrev HeadTells : Result Head Refusal → Type 0
HeadTells (Err r) = r.at ≤ 16
HeadTells (Ok h) = h.kind ≡ 2

head-tells : (s : List ℕ) → HeadTells (response_head s)
unfolding response_head id_of status_of status_allowed
head-tells s =
    checked-cases HeadTells Kind s at_kind_field (length s) (λ r e. omega arith)
    (λ tag start len e. cond_cases HeadTells (eqb (get_or s at_kind 0) 2)
    (λ t. checked-cases HeadTells Id s at_id_field (length s) (λ r f. omega arith)
    (λ itag istart ilen f. checked-cases HeadTells Status s at_status_field (length s) (λ r g. omega arith) (λ stag sstart slen g. refl)))
    (λ t. omega arith))

pub head-refused : (s : List ℕ) {d : Result Head Refusal} {r : Refusal} → d ≡ response_head s → d ≡ Err r → r.at ≤ 16
head-refused s e f = subst HeadTells (sym e ∙ f) (head-tells s)

pub head-kind : (s : List ℕ) {d : Result Head Refusal} {h : Head} → d ≡ response_head s → d ≡ Ok h → h.kind ≡ 2
head-kind s e f = subst HeadTells (sym e ∙ f) (head-tells s)

module _ (s : List ℕ) where
  abbrev BerBindingTells : ℕ → Result Read Refusal → Type 0
  BerBindingTells at (Err r) = r.at ≤ length s + 16
  BerBindingTells at (Ok d) = Writable s d.binding × (d.next ≡ at + (9 + d.binding.size + d.binding.len)) × (d.next ≤ length s)

  ber-binding-tells : (at : ℕ) → at ≤ length s → BerBindingTells at (response_at s at)
  unfolding response_at response_in content_in content_role length_right
  ber-binding-tells at h =
      checked-cases (BerBindingTells at) Bind s at (length s) (λ r e. omega arith)
      (λ tag start len e.
      let w : InPlace Bind at (length s) tag start len = told s refl e in
      checked-cases (BerBindingTells at) Name s start (start + len) (λ r f. omega (arith, w.within, w.starts))
      (λ ntag name size f.
      let v : InPlace Name start (start + len) ntag name size = told s refl f in
      let n : (8 ≤ size) × (size % 4 ≡ 0) × (size ≤ 512) = name-length ntag size v.right in
      cond_cases (BerBindingTells at) (name_written s name)
      (λ t. checked-cases (BerBindingTells at) Answered s (name + size) (start + len) (λ r g. omega (arith, w.within, v.within))
      (λ ctag content clen g.
      let u : InPlace Answered (name + size) (start + len) ctag content clen = told s refl g in
      cond_cases (BerBindingTells at) (leb (start + len) (content + clen))
      (λ y.
      let z : start + len ≤ content + clen = leb-true (start + len) (content + clen) y in (
        record {
          long = n.0;
          short = n.2;
          fours = n.1;
          named = omega (arith, w.within, v.within);
          written = t;
          filled = omega (arith, w.within, u.within);
          brief = content-brief ctag clen u.right;
          right = u.right;
        },
        omega (arith, w.starts, v.starts, u.starts, u.within),
        omega (arith, w.within),
      ))
      (λ y. omega (arith, w.within, u.within))))
      (λ t. omega arith)))

  seventeenth-tells : (at : ℕ) → (seventeenth s at).at ≡ at
  unfolding seventeenth
  seventeenth-tells at = cond_cases (λ (r : Refusal). r.at ≡ at) (binding_tag_at s at) (λ _. refl) (λ _. go (field_at s at (length s)))
    where
      go : (f : Option Field) → (not_binding at f).at ≡ at
      go None = refl
      go (Some f) = refl

  abbrev AllWritable : List Binding → Type 0
  AllWritable [] = Unit {0}
  AllWritable (b ∷ bs) = Writable s b × AllWritable bs

  -- a refusal's place, or the bindings: at most `left`, each as the code that writes it asks
  abbrev BindingsTell : (left at : ℕ) → Bindings → Type 0
  BindingsTell left at (ended r) = r.at ≤ length s + 16
  BindingsTell left at (all bs) = (length bs ≤ left) × AllWritable bs

  more-tells : (left at : ℕ) (k : Result Read Refusal) (go : ℕ → Bindings) → BerBindingTells at k → ((next : ℕ) → BindingsTell left next (go next)) → BindingsTell (suc left) at (binding_then k go)
  more-tells left at (Err r) go w h = w
  more-tells left at (Ok d) go w h = prepended (go d.next) (h d.next)
    where
      prepended : (x : Bindings) → BindingsTell left d.next x → BindingsTell (suc left) at (prepend d.binding x)
      prepended (ended r) v = v
      prepended (all bs) v = (omega (arith, v.0), (w.0, v.1))

  bindings-tell : (left at : ℕ) → BindingsTell left at (responses_from s left at)
  unfolding responses_from
  bindings-tell zero at = cond_cases (BindingsTell zero at) (leb (length s) at) (λ _. (omega arith, tt)) (λ t. omega (arith, seventeenth-tells at, leb-false (length s) at t))
  bindings-tell (suc left) at =
      cond_cases (BindingsTell (suc left) at) (leb (length s) at) (λ _. (omega arith, tt))
      (λ t. more-tells left at (response_at s at) (responses_from s left) (ber-binding-tells at (omega (arith, leb-false (length s) at t))) (bindings-tell left))

  all-at : (bs : List Binding) → AllWritable bs → (i : ℕ) → i < length bs → Writable s (get_or bs i no_binding)
  all-at [] w i h = absurd (omega arith)
  all-at (b ∷ bs) w zero h = w.0
  all-at (b ∷ bs) w (suc i) h = all-at bs w.1 i (omega arith)

  -- what the code holds of the bindings
  pub answers-refused : {r : Refusal} → ended r ≡ responses_from s most_bindings head_size → r.at ≤ length s + 16
  answers-refused e = subst (BindingsTell 16 16) (sym e) (bindings-tell 16 16)

  pub answers-whole : {bs : List Binding} → all bs ≡ responses_from s most_bindings head_size → Ready s bs
  answers-whole {bs} e =
      let w : BindingsTell 16 16 (all bs) = subst (BindingsTell 16 16) (sym e) (bindings-tell 16 16) in
      record { few = w.0; each = all-at bs w.1 }

-- ## The call

-- what `?` hands on
pub handed : {T E : Type 0} (r : Result T E) (e : E) → IsErrAnd r (λ x. x ≡ e) → r ≡ Err e
handed (Ok n) e w = absurd w
handed (Err x) e w = ap Err w

module _ (room community s : List ℕ) where
  pub call-short : length room < most_octets → not_sent 1 0 room ≡ to_datagram room community s
  unfolding to_datagram
  call-short h = rw (lt-ltb (length room) most_octets h)

  pub call_long : most_octets ≤ length room → most_octets < length s → not_sent 20 0 room ≡ to_datagram room community s
  unfolding to_datagram
  call_long h k = rw (le-ltb (length room) most_octets h, lt-ltb most_octets (length s) k)

  pub bindings-refused : (id status index : ℕ) {r : Refusal} → responses_from s most_bindings head_size ≡ ended r → not_sent (number_of r.reason) r.at room ≡ sent_by room community s (with_bindings 2 id status index (responses_from s most_bindings head_size))
  unfolding sent_by
  bindings-refused id status index e = rw e

  pub bindings-sent : (id status index : ℕ) {bs : List Binding} → responses_from s most_bindings head_size ≡ all bs
      → sent room (datagram_octets community id status index (map (bound_at s) bs)) ≡ sent_by room community s (with_bindings 2 id status index (responses_from s most_bindings head_size))
  unfolding sent_by
  bindings-sent id status index e = rw e

  module _ (h : most_octets ≤ length room) (k : length s ≤ most_octets) {d : Result Head Refusal} (e : d ≡ response_head s) where
    pub call-refused : {r : Refusal} → d ≡ Err r → not_sent (number_of r.reason) r.at room ≡ to_datagram room community s
    unfolding to_datagram read_response sent_by
    call-refused f = rw (le-ltb (length room) most_octets h, le-ltb most_octets (length s) k, ← e, f)

    pub call-read : {h : Head} → d ≡ Ok h
        → sent_by room community s (with_bindings 2 h.id h.status h.index (responses_from s most_bindings head_size)) ≡ to_datagram room community s
    unfolding to_datagram read_response
    call-read f =
        let z = head-kind s e f in
        rw (le-ltb (length room) most_octets h, le-ltb most_octets (length s) k, ← e, f, z)
