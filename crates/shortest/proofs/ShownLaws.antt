-- A datagram that was read, and the shortest that says the same, stage by stage of the reading. Assumes nothing.
use Prim.Native.Nat.{ℕ, zero, suc, ◌+◌, ◌-◌, ◌≤◌}
use mathlib.Core.Path.{◌≡◌, refl, sym, ap, subst, ◌∙◌}
use mathlib.Core.Bool.{Bool, true, false, cond, ◌&&◌}
use mathlib.Core.List.{List, [], ◌∷◌, ◌++◌, map}
use native.Mathlib.Omega.{arith}
use borrow.Author.Tests.{leb-true, eqb-true}
use lib.Dec.{leb, eqb}
use lib.ListN.{length, get_or}
use lib.Seq.{take_all}
use Rattle.octets.specs.Numbers.{be_at, be_octets}
use Rattle.octets.specs.Parts.{part}
use Rattle.octets.proofs.NumberLaws.{Octets}
use Rattle.octets.proofs.BoolLaws.{both}
use Rattle.octets.proofs.OctetLaws.{octets-part}
use Rattle.octets.proofs.PartLaws.{part-at, part_length}
use Rattle.names.specs.SubIds.{name_octets}
use Rattle.message.specs.declared.form.Field.{Field}
use Rattle.std.specs.Prelude.{Option, Some, None, Result, Ok, Err, ⊤, ok_or}
use Rattle.message.specs.declared.refusals.Reason.{Reason}
use Rattle.message.specs.declared.refusals.Reason.TheVariants.{DatagramBroken}
use Rattle.message.specs.declared.request.Bound.{Bound as Read}
use Rattle.message.specs.declared.request.Binding.{Binding}
use Rattle.message.specs.Form.{field}
use Rattle.message.proofs.FormLaws.{clash, ok-same, cond_cases}
use Rattle.ber.specs.declared.Part.{Part}
use Rattle.datagram.specs.declared.reading.Opening.{Opening}
use Rattle.datagram.specs.declared.reading.PduHead.{PduHead}
use Rattle.ber.specs.Ber.{◌>>=◌, field_at, whole_field, part_at, number_at, is_number, fewest, four, integer32, name_whole, name_fits, sub_ids, content_judged, content_octets}
use Rattle.datagram.specs.Reading.{pdu_taken, pdu_in, community_in, version_in, opening_of, status_judged, status_at, last_at, list_in, index_in, status_in, head_in, tag_taken, content_in, name_in, binding_at, Bindings, prepend, bindings_from, Message, nothing_left, pdu_of, read_datagram, bound_at}
use Rattle.sending.specs.Writing.{shortened, ber_octets, name_ber, ber_tag, content_ber, binding_ber, bindings_ber}
use Rattle.ber.proofs.BerLaws.{field_told, whole-told, part-told, number-told}
use Rattle.datagram.proofs.ReadLaws.{bind-cases, taken-above, head-told}
use Rattle.sending.proofs.ReadBack.{any_octets}
use Rattle.shortest.proofs.InverseLaws.{id-inverse, status-inverse, name-inverse, content-inverse, tag-inverse}
use Rattle.shortest.proofs.LeastLaws.{Least, Shown, shown-part, shown-append, shown-none, shown-field}

-- a field by its parts
abbrev tagged : (tag start len : ℕ) → Option Field
tagged tag start len = Some (field tag start len)

-- ## Fields that were found

part-is : (tag : ℕ) (s : List ℕ) (at end : ℕ) {p : Part} → part_at tag s at end ≡ Ok p → field_at s at end ≡ Some (field tag p.start p.len)
unfolding part_at
part-is tag s at end {p} = go (field_at s at end)
  where
    test : (f : Field) (b : Bool) → eqb f.tag tag ≡ b → ◌≡◌ {A = Result Part Reason} (cond b (Ok (record { start = f.start; len = f.len })) (Err DatagramBroken)) (Ok p) → ◌≡◌ {A = Option Field} (Some f) (Some (field tag p.start p.len))
    test f true q e =
        let i : record { start = f.start; len = f.len } ≡ p = ok-same e in
        ap Some (λ z. record { tag = eqb-true f.tag tag q z; start = (i z).start; len = (i z).len })
    test f false q e = clash (cc)

    go : (k : Option Field) → (ok_or k DatagramBroken >>= λ f. cond (eqb f.tag tag) (Ok (record { start = f.start; len = f.len })) (Err DatagramBroken)) ≡ Ok p → k ≡ Some (field tag p.start p.len)
    go None e = clash (cc)
    go (Some f) e = test f (eqb f.tag tag) refl e

whole-is : (s : List ℕ) (at end : ℕ) {f : Field} → whole_field s at end ≡ Ok f → field_at s at end ≡ Some f
whole-is s at end {f} = go (field_at s at end)
  where
    go : (k : Option Field) → ok_or k DatagramBroken ≡ Ok f → k ≡ Some f
    go None e = clash (cc)
    go (Some d) e = ap Some (ok-same e)

number_is : (s : List ℕ) (at end : ℕ) {p : Part} → number_at s at end ≡ Ok p → (field_at s at end ≡ Some (field 0x02 p.start p.len)) × (fewest (part s p.start p.len) ≡ true)
unfolding number_at
number_is s at end {p} = go (part_at 0x02 s at end) refl
  where
    test : (q : Part) (b : Bool) → part_at 0x02 s at end ≡ Ok q → fewest (part s q.start q.len) ≡ b → ◌≡◌ {A = Result Part Reason} (cond b (Ok q) (Err DatagramBroken)) (Ok p)
        → (field_at s at end ≡ Some (field 0x02 p.start p.len)) × (fewest (part s p.start p.len) ≡ true)
    test q true u v e = (part-is 0x02 s at end (u ∙ e), sym (ap (λ (j : Part). fewest (part s j.start j.len)) (ok-same e)) ∙ v)
    test q false u v e = clash (cc)

    go : (k : Result Part Reason) → part_at 0x02 s at end ≡ k → (k >>= λ q. cond (fewest (part s q.start q.len)) (Ok q) (Err DatagramBroken)) ≡ Ok p
        → (field_at s at end ≡ Some (field 0x02 p.start p.len)) × (fewest (part s p.start p.len) ≡ true)
    go (Err r) u e = clash (cc)
    go (Ok q) u e = test q (fewest (part s q.start q.len)) u refl e

status-is : (kind : ℕ) (s : List ℕ) (at end : ℕ) {p : Part} → status_at kind s at end ≡ Ok p → (number_at s at end ≡ Ok p) × (status_judged kind (part s p.start p.len) ≡ Ok tt)
unfolding status_at
status-is kind s at end {p} = go (number_at s at end)
  where
    test : (q : Part) (k : Result ⊤ Reason) → status_judged kind (part s q.start q.len) ≡ k → (k >>= λ right. Ok q) ≡ Ok p → (◌≡◌ {A = Result Part Reason} (Ok q) (Ok p)) × (status_judged kind (part s p.start p.len) ≡ Ok tt)
    test q (Err r) u e = clash (cc)
    test q (Ok t) u e = (e, sym (ap (λ (j : Part). status_judged kind (part s j.start j.len)) (ok-same e)) ∙ u)

    go : (k : Result Part Reason) → (k >>= λ q. status_judged kind (part s q.start q.len) >>= λ right. Ok q) ≡ Ok p → (k ≡ Ok p) × (status_judged kind (part s p.start p.len) ≡ Ok tt)
    go (Err r) e = clash (cc)
    go (Ok q) e = test q (status_judged kind (part s q.start q.len)) refl e

number-one : (n : ℕ) (xs : List ℕ) → is_number n xs ≡ true → xs ≡ n ∷ []
unfolding is_number
number-one n [] e = clash (cc)
number-one n (x ∷ []) e = ap (λ (j : ℕ). j ∷ []) (eqb-true x n e)
number-one n (x ∷ y ∷ xs) e =
    let (l, w) = both (eqb (length (x ∷ y ∷ xs)) 1) (eqb x n) e in
    absurd (omega (arith, eqb-true (length (x ∷ y ∷ xs)) 1 l))

module _ (s : List ℕ) (o : Octets s) where
  -- a field whose contents are these octets
  whole-field : (at end tag start len : ℕ) (c : List ℕ) → field_at s at end ≡ Some (field tag start len) → end ≤ length s → part s start len ≡ c → Shown s at (start + len) (ber_octets tag c)
  whole-field at end tag start len c e h p =
      let (t, l, w) = field_told s at end refl e in
      shown-field s o at end tag start len c e h (subst (Shown s start (start + len)) p (shown-part s o start len (start + len) refl (omega arith)))

  -- ## Bindings

  abbrev BerBindingShown : (at end : ℕ) → Result Read Reason → Type 0
  BerBindingShown at end (Err r) = Unit {0}
  BerBindingShown at end (Ok d) = (at ≤ d.next) × (d.next ≤ end) × Shown s at d.next (binding_ber (bound_at s d.binding))

  -- the two fields of a binding, in its own
  binding-whole : (kind at end start len name size tag ours content clen : ℕ) → end ≤ length s → start + len ≤ end → field_at s at end ≡ Some (field 0x30 start len) → field_at s start (start + len) ≡ Some (field 0x06 name size)
      → name_whole (part s name size) ≡ true → name_fits (part s name size) ≡ true → field_at s (name + size) (start + len) ≡ Some (field tag content clen)
      → tag_taken kind tag ≡ Ok ours → content_judged ours (part s content clen) ≡ Ok tt → content + clen ≡ start + len
      → Shown s at (start + len)
      (ber_octets 0x30
      (ber_octets 0x06 (name_ber (name_octets (sub_ids (part s name size)))) ++ ber_octets (ber_tag ours) (content_ber ours (content_octets ours (part s content clen)))))
  binding-whole kind at end start len name size tag ours content clen h k e f w x g y z u =
      let n : List ℕ = name_ber (name_octets (sub_ids (part s name size))) in
      let c : List ℕ = content_ber ours (content_octets ours (part s content clen)) in
      let t : ber_tag ours ≡ tag = tag-inverse kind tag y in
      let a : Shown s start (name + size) (ber_octets 0x06 n) =
      whole-field start (start + len) 0x06 name size n f (omega arith) (sym (name-inverse (part s name size) (octets-part s name size o) w x)) in
      let b : Shown s (name + size) (content + clen) (ber_octets (ber_tag ours) c) =
      whole-field (name + size) (start + len) (ber_tag ours) content clen c (g ∙ ap (λ (j : ℕ). tagged j content clen) (sym t)) (omega arith)
      (sym (content-inverse ours (part s content clen) z)) in
      let d : Shown s start (start + len) (ber_octets 0x06 n ++ ber_octets (ber_tag ours) c) =
      subst (λ (j : ℕ). Shown s start j (ber_octets 0x06 n ++ ber_octets (ber_tag ours) c)) u
      (shown-append s o start (name + size) (content + clen) (ber_octets 0x06 n) (ber_octets (ber_tag ours) c) a b) in
      shown-field s o at end 0x30 start len (ber_octets 0x06 n ++ ber_octets (ber_tag ours) c) e h d

  binding-shown : (kind at end : ℕ) → end ≤ length s → BerBindingShown at end (binding_at kind s at end)
  unfolding binding_at name_in content_in binding_ber bound_at
  binding-shown kind at end h =
      bind-cases (BerBindingShown at end) (part_at 0x30 s at end) (λ r. tt)
      (λ p e. let (a, b) = part-told 0x30 s at end refl e in
      bind-cases (BerBindingShown at end) (part_at 0x06 s p.start (p.start + p.len)) (λ r. tt)
      (λ n f. cond_cases (BerBindingShown at end) (name_whole (part s n.start n.len))
      (λ w. cond_cases (BerBindingShown at end) (name_fits (part s n.start n.len))
      (λ x. bind-cases (BerBindingShown at end) (whole_field s (n.start + n.len) (p.start + p.len)) (λ r. tt)
      (λ d g. let (t, c, k) = whole-told s (n.start + n.len) (p.start + p.len) (sym g) in
      bind-cases (BerBindingShown at end) (tag_taken kind d.tag) (λ r. tt)
      (λ ours y. bind-cases (BerBindingShown at end) (content_judged ours (part s d.start d.len)) (λ r. tt)
      (λ right z. cond_cases (BerBindingShown at end) (leb (p.start + p.len) (d.start + d.len))
      (λ u. (
        omega arith,
        b,
        binding-whole kind at end p.start p.len n.start n.len d.tag ours d.start d.len h b (part-is 0x30 s at end e) (part-is 0x06 s p.start (p.start + p.len) f) w x
            (whole-is s (n.start + n.len) (p.start + p.len) g) y z (omega (arith, leb-true (p.start + p.len) (d.start + d.len) u)),
      ))
      (λ u. tt)))))
      (λ x. tt))
      (λ w. tt)))

  abbrev BindingsShown : (at end : ℕ) → Bindings → Type 0
  BindingsShown at end (Err r) = Unit {0}
  BindingsShown at end (Ok bs) = Shown s at end (bindings_ber (map (bound_at s) bs))

  more-shown : (at end : ℕ) (k : Result Read Reason) (go : ℕ → Bindings) → BerBindingShown at end k → ((next : ℕ) → next ≤ end → BindingsShown next end (go next))
      → BindingsShown at end (k >>= λ d. prepend d.binding (go d.next))
  unfolding bindings_ber
  more-shown at end (Err r) go w f = tt
  more-shown at end (Ok d) go w f = prepended (go d.next) (f d.next w.1)
    where
      prepended : (x : Bindings) → BindingsShown d.next end x → BindingsShown at end (prepend d.binding x)
      prepended (Err r) v = tt
      prepended (Ok bs) v = shown-append s o at d.next end (binding_ber (bound_at s d.binding)) (bindings_ber (map (bound_at s) bs)) w.2 v

  bindings-shown : (kind end : ℕ) → end ≤ length s → (left at : ℕ) → at ≤ end → BindingsShown at end (bindings_from kind s end left at)
  unfolding bindings_from bindings_ber
  bindings-shown kind end h zero at l =
      cond_cases (BindingsShown at end) (leb end at) (λ t. shown-none s o at end (omega (arith, leb-true end at t)) h) (λ t. tt)
  bindings-shown kind end h (suc left) at l =
      cond_cases (BindingsShown at end) (leb end at) (λ t. shown-none s o at end (omega (arith, leb-true end at t)) h)
      (λ t. more-shown at end (binding_at kind s at end) (bindings_from kind s end left) (binding-shown kind at end h) (λ next k. bindings-shown kind end h left next k))

  -- ## The head

  -- the head with a list of these contents
  abbrev HeadShown : (at : ℕ) → Result PduHead Reason → Type 0
  HeadShown at (Err r) = Unit {0}
  HeadShown at (Ok h) =
      (h.list.start ≤ h.list.start + h.list.len)
      × ((c : List ℕ) → Shown s h.list.start (h.list.start + h.list.len) c
      → Shown s at (h.list.start + h.list.len) (ber_octets 0x02 (shortened (be_octets 4 h.id)) ++ (ber_octets 0x02 (shortened (0 ∷ h.status ∷ [])) ++ (ber_octets 0x02 (shortened (0 ∷ h.index ∷ [])) ++ ber_octets 0x30 c))))

  last-is : (p : Part) → 1 ≤ p.len → p.start + p.len ≤ length s → get_or (part s p.start p.len) (length (part s p.start p.len) - 1) 0 ≡ last_at s p
  last-is p h k =
      let n : length (part s p.start p.len) ≡ p.len = part_length s p.start p.len k in
      let i : p.start + (p.len - 1) ≡ p.start + p.len - 1 = omega arith in
      ap (λ (j : ℕ). get_or (part s p.start p.len) (j - 1) 0) n ∙ part-at s p.start p.len (p.len - 1) (omega arith) ∙ ap (λ (j : ℕ). get_or s j 0) i

  -- a status or an index
  status-shown : (kind at end : ℕ) (p : Part) → end ≤ length s → status_at kind s at end ≡ Ok p → Shown s at (p.start + p.len) (ber_octets 0x02 (shortened (0 ∷ last_at s p ∷ [])))
  status-shown kind at end p h e =
      let (n, j) = status-is kind s at end e in
      let (f, q) = number_is s at end n in
      let (a, b, c) = number-told s at end refl n in
      whole-field at end 0x02 p.start p.len (shortened (0 ∷ last_at s p ∷ [])) f h
      (sym (status-inverse kind (part s p.start p.len) q j) ∙ ap (λ (i : ℕ). shortened (0 ∷ i ∷ [])) (last-is p c (omega arith)))

  id-shown : (at end : ℕ) (p : Part) → end ≤ length s → number_at s at end ≡ Ok p → integer32 (part s p.start p.len) ≡ true
      → Shown s at (p.start + p.len) (ber_octets 0x02 (shortened (be_octets 4 (be_at (four (part s p.start p.len)) 0 4))))
  id-shown at end p h e t =
      let (f, q) = number_is s at end e in
      whole-field at end 0x02 p.start p.len (shortened (be_octets 4 (be_at (four (part s p.start p.len)) 0 4))) f h (sym (id-inverse (part s p.start p.len) (octets-part s p.start p.len o) q t))

  four-shown : (a b c d e : ℕ) (w x y z : List ℕ) → Shown s a b w → Shown s b c x → Shown s c d y → Shown s d e z → Shown s a e (w ++ (x ++ (y ++ z)))
  four-shown a b c d e w x y z i j k l =
      shown-append s o a b e w (x ++ (y ++ z)) i (shown-append s o b c e x (y ++ z) j (shown-append s o c d e y z k l))

  head-shown : (kind at end : ℕ) → end ≤ length s → HeadShown at (head_in kind s at end)
  unfolding head_in status_in index_in list_in
  head-shown kind at end h =
      bind-cases (HeadShown at) (number_at s at end) (λ r. tt)
      (λ p e. cond_cases (HeadShown at) (integer32 (part s p.start p.len))
      (λ t. bind-cases (HeadShown at) (status_at kind s (p.start + p.len) end) (λ r. tt)
      (λ q f. bind-cases (HeadShown at) (status_at kind s (q.start + q.len) end) (λ r. tt)
      (λ x g. bind-cases (HeadShown at) (part_at 0x30 s (x.start + x.len) end) (λ r. tt)
      (λ l i. (
        omega arith,
        (λ c w.
            four-shown at (p.start + p.len) (q.start + q.len) (x.start + x.len) (l.start + l.len) (ber_octets 0x02 (shortened (be_octets 4 (be_at (four (part s p.start p.len)) 0 4))))
            (ber_octets 0x02 (shortened (0 ∷ last_at s q ∷ []))) (ber_octets 0x02 (shortened (0 ∷ last_at s x ∷ []))) (ber_octets 0x30 c)
            (id-shown at end p h e t) (status-shown kind (p.start + p.len) end q h f) (status-shown kind (q.start + q.len) end x h g)
            (shown-field s o (x.start + x.len) end 0x30 l.start l.len c (part-is 0x30 s (x.start + x.len) end i) h w)),
      )))))
      (λ t. tt))

  -- ## The whole

  -- the datagram with a PDU of these contents
  abbrev OpeningShown : Result Opening Reason → Type 0
  OpeningShown (Err r) = Unit {0}
  OpeningShown (Ok k) =
      (k.end ≤ length s) × (k.pdu.start + k.pdu.len ≤ k.end)
      × ((c : List ℕ) → Shown s k.pdu.start (k.pdu.start + k.pdu.len) c → k.pdu.start + k.pdu.len ≡ k.end → k.end ≡ length s
      → Shown s 0 (length s) (ber_octets 0x30 (ber_octets 0x02 (1 ∷ []) ++ (ber_octets 0x04 (part s k.community.start k.community.len) ++ ber_octets (0xA0 + k.kind) c))))

  opened-shown : (start len a b pdu tag : ℕ) (x c : List ℕ) → field_at s 0 (length s) ≡ Some (field 0x30 start len) → Shown s start a (ber_octets 0x02 (1 ∷ [])) → Shown s a b (ber_octets 0x04 x)
      → Shown s b pdu (ber_octets tag c) → pdu ≡ start + len → start + len ≡ length s → Shown s 0 (length s) (ber_octets 0x30 (ber_octets 0x02 (1 ∷ []) ++ (ber_octets 0x04 x ++ ber_octets tag c)))
  opened-shown start len a b pdu tag x c e u v w l k =
      let ys : List ℕ = ber_octets 0x02 (1 ∷ []) ++ (ber_octets 0x04 x ++ ber_octets tag c) in
      let i : Shown s start pdu ys = shown-append s o start a pdu (ber_octets 0x02 (1 ∷ [])) (ber_octets 0x04 x ++ ber_octets tag c) u (shown-append s o a b pdu (ber_octets 0x04 x) (ber_octets tag c) v w) in
      subst (λ (j : ℕ). Shown s 0 j (ber_octets 0x30 ys)) k (shown-field s o 0 (length s) 0x30 start len ys e (omega arith) (subst (λ (j : ℕ). Shown s start j ys) l i))

  opening-shown : (answers : Bool) → OpeningShown (opening_of answers s)
  unfolding opening_of version_in community_in pdu_in
  opening-shown answers =
      bind-cases OpeningShown (part_at 0x30 s 0 (length s)) (λ r. tt)
      (λ m e. let (a, b) = part-told 0x30 s 0 (length s) refl e in
      bind-cases OpeningShown (number_at s m.start (m.start + m.len)) (λ r. tt)
      (λ v f. cond_cases OpeningShown (is_number 1 (part s v.start v.len))
      (λ t. bind-cases OpeningShown (part_at 0x04 s (v.start + v.len) (m.start + m.len)) (λ r. tt)
      (λ k g. bind-cases OpeningShown (whole_field s (k.start + k.len) (m.start + m.len)) (λ r. tt)
      (λ d i. let (p, q, r) = whole-told s (k.start + k.len) (m.start + m.len) (sym i) in
      cond_cases OpeningShown (pdu_taken answers d.tag)
      (λ y. (
        b,
        r,
        (λ c w l j.
            let kind : 0xA0 + (d.tag - 0xA0) ≡ d.tag = omega (arith, taken-above answers d.tag y) in
            opened-shown m.start m.len (v.start + v.len) (k.start + k.len) (d.start + d.len) (0xA0 + (d.tag - 0xA0)) (part s k.start k.len) c (part-is 0x30 s 0 (length s) e)
            (whole-field m.start (m.start + m.len) 0x02 v.start v.len (1 ∷ []) (number_is s m.start (m.start + m.len) f).0 b (number-one 1 (part s v.start v.len) t))
            (whole-field (v.start + v.len) (m.start + m.len) 0x04 k.start k.len (part s k.start k.len) (part-is 0x04 s (v.start + v.len) (m.start + m.len) g) b refl)
            (shown-field s o (k.start + k.len) (m.start + m.len) (0xA0 + (d.tag - 0xA0)) d.start d.len c (whole-is s (k.start + k.len) (m.start + m.len) i ∙ ap (λ (n : ℕ). tagged n d.start d.len) (sym kind)) b w) l j),
      ))
      (λ y. tt))))
      (λ t. tt)))

  abbrev pub DatagramShown : Result Message Reason → Type 0
  DatagramShown (Err r) = Unit {0}
  DatagramShown (Ok m) = Shown s 0 (length s) (any_octets m.kind (part s m.community.start m.community.len) m.id m.status m.index (map (bound_at s) m.bindings))

  -- nothing is left over after the list, the PDU and the message
  ended-shown : (k : Opening) (h : PduHead) → OpeningShown (Ok k) → HeadShown k.pdu.start (Ok h) → (b : Bool) → nothing_left s k h ≡ b → (bs : List Binding) → BindingsShown h.list.start (h.list.start + h.list.len) (Ok bs)
      → DatagramShown (cond b (Ok (record { kind = k.kind; id = h.id; status = h.status; index = h.index; community = k.community; bindings = bs })) (Err DatagramBroken))
  unfolding any_octets
  ended-shown k h w v false q bs u = tt
  ended-shown k h w v true q bs u =
      let list : ℕ = h.list.start + h.list.len in
      let pdu : ℕ = k.pdu.start + k.pdu.len in
      let (p, r) = both (eqb list pdu && eqb pdu k.end) (eqb k.end (length s)) q in
      let (l, j) = both (eqb list pdu) (eqb pdu k.end) p in
      let c : List ℕ = bindings_ber (map (bound_at s) bs) in
      let body : List ℕ =
      ber_octets 0x02 (shortened (be_octets 4 h.id)) ++ (ber_octets 0x02 (shortened (0 ∷ h.status ∷ [])) ++ (ber_octets 0x02 (shortened (0 ∷ h.index ∷ [])) ++ ber_octets 0x30 c)) in
      w.2 body (subst (λ (n : ℕ). Shown s k.pdu.start n body) (eqb-true list pdu l) (v.1 c u)) (eqb-true pdu k.end j) (eqb-true k.end (length s) r)

  pub datagram-shown : (answers : Bool) → DatagramShown (read_datagram answers s)
  unfolding read_datagram pdu_of
  datagram-shown answers =
      bind-cases DatagramShown (opening_of answers s) (λ r. tt)
      (λ k e. let w : OpeningShown (Ok k) = subst OpeningShown e (opening-shown answers) in
      let pdu : ℕ = k.pdu.start + k.pdu.len in
      bind-cases DatagramShown (head_in k.kind s k.pdu.start pdu) (λ r. tt)
      (λ h f. let v : HeadShown k.pdu.start (Ok h) = subst (HeadShown k.pdu.start) f (head-shown k.kind k.pdu.start pdu (omega (arith, w.0, w.1))) in
      let l : h.list.start + h.list.len ≤ pdu = head-told k.kind s k.pdu.start pdu refl f in
      let list : ℕ = h.list.start + h.list.len in
      bind-cases DatagramShown (bindings_from k.kind s list 16 h.list.start) (λ r. tt)
      (λ bs g. ended-shown k h w v (nothing_left s k h) refl bs (subst (BindingsShown h.list.start list) g (bindings-shown k.kind list (omega (arith, w.0, w.1)) 16 h.list.start v.0)))))

  -- a datagram that was read, and the shortest that says the same
  pub read-least : (answers : Bool) {m : Message} → read_datagram answers s ≡ Ok m
      → Least s (any_octets m.kind (part s m.community.start m.community.len) m.id m.status m.index (map (bound_at s) m.bindings))
  read-least answers {m} e =
      let ys : List ℕ = any_octets m.kind (part s m.community.start m.community.len) m.id m.status m.index (map (bound_at s) m.bindings) in
      let w : Shown s 0 (length s) ys = subst DatagramShown e (datagram-shown answers) in
      subst (λ (u : List ℕ). Least u ys) (take_all (length s - 0) s (omega arith)) w.least
