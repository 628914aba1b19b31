-- What reading a datagram hands over is a message that can be read (`HandsOverReadable` of specs/Theorems). Assumes nothing.
use Prim.Native.Nat.{ℕ, ◌≤◌, ◌<◌}
use mathlib.Core.Path.{◌≡◌, refl, ap, ◌∙◌}
use mathlib.Core.Bool.{Bool, true, false, cond, ◌&&◌}
use mathlib.Core.List.{List, [], ◌∷◌, map}
use native.Mathlib.Omega.{arith}
use borrow.Author.Tests.{leb-true, eq-eqb, ne_eqb}
use lib.Dec.{leb, ltb, eqb}
use lib.ListN.{length, get_or, take, length-drop}
use Rattle.octets.specs.Parts.{part}
use Rattle.octets.proofs.BoolLaws.{left-of}
use Rattle.names.proofs.SubIdLaws.{length-name_octets}
use Rattle.message.specs.declared.request.Binding.{Binding}
use Rattle.message.specs.Form.{tag_allowed, content_length}
use Rattle.message.specs.Request as request
use Rattle.message.specs.Request.{content_role}
use Rattle.message.specs.Answer.{message_octets, most_octets}
use Rattle.message.specs.Theorems.{Carried, AllCarried}
use Rattle.message.proofs.FormLaws.{cond_cases}
use Rattle.message.proofs.ReadBack.{any-reads-back}
use Rattle.ber.specs.Ber.{fewest, five, four, integer32, unsigned32, number_judged, sub_ids, content_judged, content_octets}
use Rattle.std.specs.Prelude.{Result, Ok, Err, ⊤}
use Rattle.message.specs.declared.refusals.Reason.{Reason}
use Rattle.message.specs.declared.refusals.Reason.TheVariants.{DatagramBroken, NoCounterpart}
use Rattle.datagram.specs.Reading.{takes_of, Within, bound_at, Message, read_datagram, Given, given_by, from_datagram}
use Rattle.datagram.specs.Theorems.{HandsOverReadable}
use Rattle.ber.proofs.NameLaws.{two-sub-ids}
use Rattle.datagram.proofs.PlaceLaws.{length-five, name_below, name_back}
use Rattle.ber.proofs.ContentLaws.{pick}
use Rattle.datagram.proofs.ReadLaws.{AllWithin, DatagramTells, datagram-tells}

-- ## A content that was read has a length that its tag allows

pub judged-both : (short fits : Bool) → number_judged short fits ≡ Ok tt → (short ≡ true) × (fits ≡ true)
judged-both true true e = (refl, refl)
judged-both true false e = absurd cc
judged-both false fits e = absurd cc

some-octets : (x : ℕ) (xs : List ℕ) → eqb (length (x ∷ xs)) 0 ≡ false
some-octets x xs = ne_eqb (length (x ∷ xs)) 0 never
  where
    never : length (x ∷ xs) ≡ 0 → ⊥
    never q = omega arith

-- a number is put as four octets
number-four : (xs : List ℕ) → fewest xs ≡ true → length xs ≤ 5 → eqb (length (cond (eqb (length xs) 0) [] (four xs))) 4 ≡ true
unfolding fewest
number-four [] e h = let z : ◌≡◌ {A = ℕ} 0 1 = cc in absurd (omega arith)
number-four (x ∷ xs) e h = rw (some-octets x xs) (eq-eqb (length (four (x ∷ xs))) 4 (length-drop 1 (five (x ∷ xs)) ∙ omega (arith, length-five (x ∷ xs) h)))

fits-only : (t : Bool) (r : Reason) → ◌≡◌ {A = Result ⊤ Reason} (cond t (Ok tt) (Err r)) (Ok tt) → t ≡ true
fits-only true r e = refl
fits-only false r e = absurd cc

outside : (tag : ℕ) → (tag ≡ 0x21 → ⊥) → (tag ≡ 0x22 → ⊥) → (tag ≡ 0x23 → ⊥) → (tag ≡ 0x24 → ⊥) → (leb 0x21 tag && leb tag 0x24) ≡ false
outside tag a b c d = go (leb 0x21 tag) (leb tag 0x24) refl refl
  where
    go : (x y : Bool) → leb 0x21 tag ≡ x → leb tag 0x24 ≡ y → (x && y) ≡ false
    go true true p q = absurd (omega (arith, leb-true 0x21 tag p, leb-true tag 0x24 q))
    go true false p q = refl
    go false y p q = refl

empty-sized : (tag : ℕ) (xs : List ℕ) → eqb tag 0x22 ≡ false → eqb tag 0x21 ≡ false → eqb tag 0x23 ≡ false → eqb tag 0x24 ≡ false → (leb 0x21 tag && leb tag 0x24) ≡ false
    → content_judged tag xs ≡ Ok tt → content_length tag (length (content_octets tag xs)) ≡ true
unfolding content_judged content_length content_octets
empty-sized tag xs a b c d o e =
    let z : eqb (length xs) 0 ≡ true = fits-only (eqb (length xs) 0) DatagramBroken (rw (a, b, c, d) at e) in
    rw (a, o, z)

content-sized : (tag : ℕ) (xs : List ℕ) → content_judged tag xs ≡ Ok tt → content_length tag (length (content_octets tag xs)) ≡ true
unfolding content_judged content_length content_octets integer32 unsigned32
content-sized tag xs =
    let P : ℕ → Type 0 = λ (t : ℕ). content_judged t xs ≡ Ok tt → content_length t (length (content_octets t xs)) ≡ true in
    let number : (fits : Bool) → number_judged (fewest xs) fits ≡ Ok tt → (fits ≡ true → length xs ≤ 5) → eqb (length (cond (eqb (length xs) 0) [] (four xs))) 4 ≡ true =
    λ fits e h. number-four xs (judged-both (fewest xs) fits e).0 (h (judged-both (fewest xs) fits e).1) in
    let most : (leb (length xs) 5 && eqb (get_or (five xs) 0 0) 0) ≡ true → length xs ≤ 5 =
    λ t. leb-true (length xs) 5 (left-of (leb (length xs) 5) (eqb (get_or (five xs) 0 0) 0) t) in
    pick P 0x22 tag (λ e. fits-only (leb (length xs) 255) NoCounterpart e)
    (λ n2. pick P 0x21 tag (λ e. number (leb (length xs) 4) e (λ t. omega (arith, leb-true (length xs) 4 t)))
    (λ n1. pick P 0x23 tag (λ e. number (leb (length xs) 5 && eqb (get_or (five xs) 0 0) 0) e most)
    (λ n3. pick P 0x24 tag (λ e. number (leb (length xs) 5 && eqb (get_or (five xs) 0 0) 0) e most)
    (λ n4. empty-sized tag xs (ne_eqb tag 0x22 n2) (ne_eqb tag 0x21 n1) (ne_eqb tag 0x23 n3) (ne_eqb tag 0x24 n4) (outside tag n1 n2 n3 n4)))))

-- ## So what was read is carried by a message

carried : (kind : ℕ) (s : List ℕ) (b : Binding) → Within s b → tag_allowed (content_role kind) b.tag ≡ true → Carried kind (bound_at s b)
unfolding bound_at
carried kind s b w t =
    let name : List ℕ = part s b.name b.size in
    record {
      long = omega (arith, length-name_octets (sub_ids name), two-sub-ids name w.whole);
      short = omega (arith, length-name_octets (sub_ids name), (name_below name w.fits).1);
      fours = omega (arith, length-name_octets (sub_ids name));
      tagged = t;
      sized = content-sized b.tag (part s b.content b.len) w.right;
    }

pub all-carried : (kind : ℕ) (s : List ℕ) (bs : List Binding) → AllWithin kind s bs → AllCarried kind (map (bound_at s) bs)
all-carried kind s [] w = tt
all-carried kind s (b ∷ bs) w = (carried kind s b w.0.0 w.0.1, all-carried kind s bs w.1)

pub length-bound : (s : List ℕ) (bs : List Binding) → length (map (bound_at s) bs) ≡ length bs
length-bound s [] = refl
length-bound s (b ∷ bs) = omega (arith, length-bound s bs)

-- what is handed over can be read
abbrev Handed : Bool → Given → Type 0
Handed answers g =
    0 < g.count
    → (kind : ℕ) × (id : ℕ) × (status : ℕ) × (index : ℕ) × (bs : List Binding) × (g.count ≤ most_octets)
    × (request.read_message (takes_of answers) (take g.count g.room) ≡ request.message kind id status index bs)

pub nothing : {A : Type 0} → 0 < 0 → A
nothing h = absurd (omega (arith, h))

pub hands-over-readable : HandsOverReadable
unfolding from_datagram given_by
hands-over-readable answers room s o =
    cond_cases (Handed answers) (ltb (length room) most_octets) (λ t h. nothing h)
    (λ t. cond_cases (Handed answers) (ltb most_octets (length s)) (λ u h. nothing h) (λ u. read (read_datagram answers s) (datagram-tells answers s)))
  where
    read : (x : Result Message Reason) → DatagramTells answers s x → Handed answers (given_by room s x)
    read (Err r) w = λ h. nothing h
    read (Ok m) w =
        let octets : List ℕ = message_octets m.kind m.id m.status m.index (map (bound_at s) m.bindings) in
        let r = any-reads-back (takes_of answers) m.kind m.id m.status m.index (map (bound_at s) m.bindings) w.3 w.4 (w.5 o) (omega (arith, length-bound s m.bindings, w.0)) (all-carried m.kind s m.bindings w.1) in
        cond_cases (Handed answers) (leb (length octets) most_octets)
        (λ t h. (m.kind, m.id, m.status, m.index, r.0, leb-true (length octets) most_octets t, ap (request.read_message (takes_of answers)) (name_back room octets (length octets) refl) ∙ r.1))
        (λ t h. nothing h)
