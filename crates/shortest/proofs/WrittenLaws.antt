-- What is written is octets, and a shortest datagram (`WritesShortest` of specs/Theorems). Assumes nothing.
use Prim.Native.Nat.{ℕ, zero, suc, ◌+◌, ◌/◌, ◌%◌, ◌≤◌, ◌<◌}
use mathlib.Core.Path.{◌≡◌, refl, sym, ap, subst, ◌∙◌}
use mathlib.Core.Bool.{Bool, true, false, cond, ◌||◌}
use mathlib.Core.List.{List, [], ◌∷◌, ◌++◌, map}
use native.Mathlib.Omega.{arith}
use borrow.Author.Tests.{leb-true, ltb-false}
use lib.Dec.{leb, ltb, eqb}
use lib.ListN.{length, get_or, take}
use Rattle.octets.specs.Numbers.{be_octets}
use Rattle.octets.specs.Parts.{part, patch}
use Rattle.octets.proofs.NumberLaws.{Octets}
use Rattle.octets.proofs.OctetLaws.{octets-append, octets-none, octets-cons, octets-be}
use Rattle.names.specs.SubIds.{subids}
use Rattle.message.specs.Form.{at_status, at_index}
use Rattle.message.specs.declared.request.Binding.{Binding}
use Rattle.message.specs.Request as request
use Rattle.message.specs.Request.{kind_allowed, status_allowed}
use Rattle.message.specs.Answer.{Bound, head_octets, message_octets, most_octets, bound_at}
use Rattle.message.proofs.FormLaws.{cond_cases}
use Rattle.ber.specs.Ber.{fewest}
use Rattle.datagram.specs.Reading.{from_datagram}
use Rattle.sending.specs.Writing.{length_form, header_form, ber_octets, shortened, going_on, base128, numbers_octets, first_one, name_ber, ber_tag, content_ber, binding_ber, bindings_ber, response_ber, datagram_octets, read_response, Sent, sent_by, to_datagram}
use Rattle.sending.specs.Theorems.{AllCarried}
use Rattle.datagram.proofs.PlaceLaws.{name_back}
use Rattle.sending.proofs.ReadBack.{any-response, carried-by}
use Rattle.sending.proofs.SentBack.{ReadingOwn, reading-own, sent-reads-back}
use Rattle.datagram.proofs.ReadableLaws.{nothing}
use Rattle.shortest.specs.Theorems.{Shortest, WritesShortest}
use Rattle.shortest.proofs.LeastLaws.{octets-form}
use Rattle.shortest.proofs.Theorems.{Formed, same-octets, Canonical, canonical}

-- ## What is written is octets

octets-ber : (tag : ℕ) (c : List ℕ) → tag < 256 → Octets c → Octets (ber_octets tag c)
unfolding ber_octets
octets-ber tag c h o = octets-append (header_form tag (length c)) c (octets-cons tag (length_form (length c)) h (octets-form (length c))) o

octets-shortened : (xs : List ℕ) → Octets xs → Octets (shortened xs)
unfolding shortened
octets-shortened [] o = o
octets-shortened (x ∷ []) o = o
octets-shortened (x ∷ y ∷ ys) o = go (fewest (x ∷ y ∷ ys)) (octets-shortened (y ∷ ys) (λ i. o (suc i)))
  where
    go : (t : Bool) → Octets (shortened (y ∷ ys)) → Octets (cond t (x ∷ y ∷ ys) (shortened (y ∷ ys)))
    go true q = o
    go false q = q

octets-going : (k n : ℕ) → Octets (going_on k n)
unfolding going_on
octets-going zero n = octets-none
octets-going (suc k) n = go (eqb n 0) (octets-going k (n / 128))
  where
    go : (t : Bool) → Octets (going_on k (n / 128)) → Octets (cond t [] (going_on k (n / 128) ++ ((128 + n % 128) ∷ [])))
    go true q = octets-none
    go false q = octets-append (going_on k (n / 128)) ((128 + n % 128) ∷ []) q (octets-cons (128 + n % 128) [] (omega arith) octets-none)

octets-numbers : (ns : List ℕ) → Octets (numbers_octets ns)
unfolding numbers_octets base128
octets-numbers [] = octets-none
octets-numbers (n ∷ ns) =
    octets-append (base128 n) (numbers_octets ns)
    (octets-append (going_on 4 (n / 128)) (n % 128 ∷ []) (octets-going 4 (n / 128)) (octets-cons (n % 128) [] (omega arith) octets-none))
    (octets-numbers ns)

tag_small : (tag : ℕ) → ber_tag tag < 256
unfolding ber_tag
tag_small tag =
    let P : ℕ → Type 0 = λ (t : ℕ). t < 256 in
    cond_cases P (eqb tag 0x20) (λ e. omega arith)
    (λ a. cond_cases P (eqb tag 0x21) (λ e. omega arith)
    (λ b. cond_cases P (eqb tag 0x22) (λ e. omega arith)
    (λ c. cond_cases P (eqb tag 0x23) (λ e. omega arith)
    (λ d. cond_cases P (eqb tag 0x24) (λ e. omega arith)
    (λ f. cond_cases P (eqb tag 0x30) (λ e. omega arith) (λ g. cond_cases P (eqb tag 0x31) (λ e. omega arith) (λ e. omega arith)))))))

octets-content : (tag : ℕ) (xs : List ℕ) → Octets xs → Octets (content_ber tag xs)
unfolding content_ber
octets-content tag xs o =
    cond_cases Octets (eqb tag 0x21) (λ e. octets-shortened xs o)
    (λ e. cond_cases Octets (eqb tag 0x23 || eqb tag 0x24) (λ f. octets-shortened (0 ∷ xs) (octets-cons 0 xs (omega arith) o)) (λ f. o))

octets-bindings : (bs : List Bound) → AllCarried bs → Octets (bindings_ber bs)
unfolding bindings_ber binding_ber name_ber
octets-bindings [] w = octets-none
octets-bindings (b ∷ bs) w =
    let name : List ℕ = ber_octets 0x06 (name_ber b.name) in
    let content : List ℕ = ber_octets (ber_tag b.tag) (content_ber b.tag b.content) in
    octets-append (binding_ber b) (bindings_ber bs)
    (octets-ber 0x30 (name ++ content) (omega arith)
    (octets-append name content (octets-ber 0x06 (name_ber b.name) (omega arith) (octets-numbers (first_one (subids b.name))))
    (octets-ber (ber_tag b.tag) (content_ber b.tag b.content) (tag_small b.tag) (octets-content b.tag b.content w.0.sendable.filled))))
    (octets-bindings bs w.1)

octets-datagram : (x : List ℕ) (id status index : ℕ) (bs : List Bound) → Octets x → status < 256 → index < 256 → AllCarried bs → Octets (datagram_octets x id status index bs)
unfolding datagram_octets response_ber
octets-datagram x id status index bs o h k w =
    let one : (n : ℕ) → n < 256 → Octets (ber_octets 0x02 (shortened (0 ∷ n ∷ []))) =
    λ n l. octets-ber 0x02 (shortened (0 ∷ n ∷ [])) (omega arith) (octets-shortened (0 ∷ n ∷ []) (octets-cons 0 (n ∷ []) (omega arith) (octets-cons n [] l octets-none))) in
    let ver : List ℕ = ber_octets 0x02 (1 ∷ []) in
    let comm : List ℕ = ber_octets 0x04 x in
    let num : List ℕ = ber_octets 0x02 (shortened (be_octets 4 id)) in
    let sta : List ℕ = ber_octets 0x02 (shortened (0 ∷ status ∷ [])) in
    let ind : List ℕ = ber_octets 0x02 (shortened (0 ∷ index ∷ [])) in
    let lis : List ℕ = ber_octets 0x30 (bindings_ber bs) in
    let body : List ℕ = num ++ (sta ++ (ind ++ lis)) in
    octets-ber 0x30 (ver ++ (comm ++ ber_octets 0xA2 body)) (omega arith)
    (octets-append ver (comm ++ ber_octets 0xA2 body) (octets-ber 0x02 (1 ∷ []) (omega arith) (octets-cons 1 [] (omega arith) octets-none))
    (octets-append comm (ber_octets 0xA2 body) (octets-ber 0x04 x (omega arith) o)
    (octets-ber 0xA2 body (omega arith)
    (octets-append num (sta ++ (ind ++ lis)) (octets-ber 0x02 (shortened (be_octets 4 id)) (omega arith) (octets-shortened (be_octets 4 id) (octets-be 4 id)))
    (octets-append sta (ind ++ lis) (one status h) (octets-append ind lis (one index k) (octets-ber 0x30 (bindings_ber bs) (omega arith) (octets-bindings bs w))))))))

-- ## It is a datagram of the response, and a shortest one

-- the status and the index of a message are octets of it
status-octets : (m : List ℕ) (kind id status index : ℕ) (bs : List Bound) → Octets m → m ≡ message_octets kind id status index bs → (status < 256) × (index < 256)
unfolding message_octets head_octets be_octets
status-octets m kind id status index bs o e =
    let a : get_or m at_status 0 ≡ status = ap (λ (u : List ℕ). get_or u at_status 0) e in
    let b : get_or m at_index 0 ≡ index = ap (λ (u : List ℕ). get_or u at_index 0) e in
    (omega (arith, o 14), omega (arith, o 15))

-- what was written is some datagram of a response that was read
abbrev WrittenOf : (room x m : List ℕ) → Sent → Type 0
WrittenOf room x m g =
    0 < g.count
    → (kind : ℕ) × (id : ℕ) × (status : ℕ) × (index : ℕ) × (bs : List Binding)
    × (read_response m ≡ request.message kind id status index bs) × (most_octets ≤ length room) × (length m ≤ most_octets)
    × (length (datagram_octets x id status index (map (bound_at m) bs)) ≤ most_octets)
    × (take g.count g.room ≡ datagram_octets x id status index (map (bound_at m) bs))

written_of : (room x m : List ℕ) → WrittenOf room x m (to_datagram room x m)
unfolding to_datagram sent_by
written_of room x m =
    cond_cases (WrittenOf room x m) (ltb (length room) most_octets) (λ t h. nothing h)
    (λ t. cond_cases (WrittenOf room x m) (ltb most_octets (length m)) (λ u h. nothing h)
    (λ u. read (ltb-false (length room) most_octets t) (ltb-false most_octets (length m) u) (read_response m) refl))
  where
    read : most_octets ≤ length room → length m ≤ most_octets → (k : request.Reading) → read_response m ≡ k → WrittenOf room x m (sent_by room x m k)
    read l s (request.refused r) e = λ h. nothing h
    read l s (request.message kind id status index bs) e =
        let octets : List ℕ = datagram_octets x id status index (map (bound_at m) bs) in
        cond_cases (WrittenOf room x m) (leb (length octets) most_octets)
        (λ t h. (kind, id, status, index, bs, e, l, s, leb-true (length octets) most_octets t, name_back room octets (length octets) refl))
        (λ t h. nothing h)

-- the datagram that was written, read again
read_again : (room x m : List ℕ) (kind id status index : ℕ) (bs : List Binding) → Octets m → most_octets ≤ length room → length m ≤ most_octets → read_response m ≡ request.message kind id status index bs
    → length (datagram_octets x id status index (map (bound_at m) bs)) ≤ most_octets → (d : List ℕ) → take (to_datagram room x m).count (to_datagram room x m).room ≡ d
    → (fresh : List ℕ) → most_octets ≤ length fresh
    → (at : ℕ) × (from_datagram true fresh d ≡ record { number = 0; count = length m; community = at; size = length x; room = patch fresh 0 m }) × (part d at (length x) ≡ x)
read_again room x m kind id status index bs o long short e most d is fresh wide =
    let (c, at, t, f, p) = sent-reads-back room fresh x m kind id status index bs o short long wide e most in
    let same : c ≡ d = sym (name_back room c (length c) refl) ∙ ap (λ (g : Sent). take g.count g.room) (sym t) ∙ is in
    (at, rw same at f, rw same at p)

pub writes-shortest : WritesShortest
unfolding kind_allowed status_allowed
writes-shortest room x m o ox h =
    let (kind, id, status, index, rs, e, long, short, most, is) = written_of room x m h in
    let (own, small, carried, few) = subst (ReadingOwn m o) e (reading-own m o) in
    let bs : List Bound = map (bound_at m) rs in
    let d : List ℕ = datagram_octets x id status index bs in
    let (st, ix) = status-octets m 2 id status index bs o (sym own) in
    let v : Formed true m 2 id status index bs = record { is = sym own; taken = refl; quiet = refl; small = small; few = few; carried = carried-by bs carried } in
    subst (Shortest true m x) (sym is)
    record {
      taken = record {
        octets = octets-datagram x id status index bs ox st ix carried;
        read = read_again room x m kind id status index rs o long short e most d is;
      };
      least = λ c w.
          let k : Canonical true m x c = canonical true m x c w in
          omega (arith, ap length (sym (any-response x id status index bs) ∙ same-octets true m x v k.formed), k.least.shorter);
    }
