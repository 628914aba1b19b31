-- The statements of specs/Theorems. Assumes nothing.
use Prim.Native.Nat.{ℕ, ◌+◌, ◌*◌, ◌-◌, ◌/◌, ◌^◌, ◌≤◌, ◌<◌}
use mathlib.Core.Path.{◌≡◌, refl, sym, ap, subst, ◌∙◌}
use mathlib.Core.Bool.{Bool, true, false, cond, ◌&&◌, ◌||◌}
use mathlib.Core.List.{List, [], ◌∷◌, ◌++◌, map}
use native.Mathlib.Omega.{arith}
use borrow.Author.Tests.{le-leb, leb-true, lt-ltb, ltb-true, ltb-false}
use lib.Dec.{leb, ltb, eqb}
use lib.ListN.{length, take, replicate, length-replicate}
use Rattle.octets.specs.Numbers.{be_at, be_octets}
use Rattle.octets.specs.Parts.{part, patch}
use Rattle.octets.proofs.NumberLaws.{be_at-in, length-be_octets}
use Rattle.names.specs.SubIds.{name_octets, SubIdsFit}
use Rattle.names.proofs.SubIdLaws.{octets-name}
use Rattle.std.specs.Prelude.{Result, Ok, Err}
use Rattle.message.specs.Refusals.{number_of}
use Rattle.message.specs.declared.refusals.Reason.{Reason}
use Rattle.message.specs.declared.request.Binding.{Binding}
use Rattle.message.specs.Request as request
use Rattle.message.specs.Request.{kind_allowed, status_allowed}
use Rattle.message.specs.Answer.{Bound, message_octets, most_octets, bound_at as formBoundAt}
use Rattle.message.specs.Theorems as form
use Rattle.message.proofs.FormLaws.{cond_cases}
use Rattle.message.proofs.ReadBack.{any-reads-back}
use Rattle.ber.specs.Ber.{numbers_from, first_of, first_two, sub_ids}
use Rattle.datagram.specs.Reading.{takes_of, Within, bound_at, Message, read_datagram, Given, given_by, from_datagram, handed}
use Rattle.sending.specs.Writing.{name_written}
use Rattle.sending.specs.Theorems.{message_read}
use Rattle.ber.proofs.NameLaws.{two-sub-ids}
use Rattle.datagram.proofs.PlaceLaws.{name_back, name_below, call-read}
use Rattle.datagram.proofs.ReadLaws.{AllWithin, DatagramTells, datagram-tells}
use Rattle.sending.proofs.ReadBack.{any_octets, AllCarriedBy, any-back}
use Rattle.datagram.proofs.ReadableLaws.{all-carried, length-bound}
use Rattle.shortest.specs.Theorems.{DatagramOf, Shortest, ShortestEqual, ShortestExists}
use Rattle.shortest.proofs.InverseLaws.{below-fits}
use Rattle.shortest.proofs.LeastLaws.{Least}
use Rattle.shortest.proofs.RefusalLaws.{number-sure}
use Rattle.shortest.proofs.ShownLaws.{read-least}

-- ## A message in its parts

-- m is the message of these parts, and the reading may take it
pub record Formed (answers : Bool) (m : List ℕ) (kind id status index : ℕ) (bs : List Bound) : Type 0 where
  pub is : m ≡ message_octets kind id status index bs
  pub taken : kind_allowed (takes_of answers) kind ≡ true
  pub quiet : status_allowed kind status index ≡ true
  pub small : id < 2 ^ 32
  pub few : length bs ≤ 16
  pub carried : AllCarriedBy kind bs

form-carried : (kind : ℕ) (bs : List Bound) → AllCarriedBy kind bs → form.AllCarried kind bs
form-carried kind [] w = tt
form-carried kind (b ∷ bs) w = (w.0.carried, form-carried kind bs w.1)

-- what the message form reads of it
pub formed-reads : {answers : Bool} {m : List ℕ} {kind id status index : ℕ} {bs : List Bound} → Formed answers m kind id status index bs
    → (rs : List Binding) × (request.read_message (takes_of answers) m ≡ request.message kind id status index rs) × (map (formBoundAt m) rs ≡ bs)
formed-reads {answers} {m} {kind} {id} {status} {index} {bs} w =
    let (rs, p, q) = any-reads-back (takes_of answers) kind id status index bs w.taken w.quiet w.small w.few (form-carried kind bs w.carried) in
    (rs, ap (request.read_message (takes_of answers)) w.is ∙ p, ap (λ (u : List ℕ). map (formBoundAt u) rs) w.is ∙ q)

-- the parts of a message are its own, so there is one shortest form of it
pub same-octets : (answers : Bool) (m x : List ℕ) {kind id status index kind' id' status' index' : ℕ} {bs bs' : List Bound} → Formed answers m kind id status index bs
    → Formed answers m kind' id' status' index' bs' → any_octets kind x id status index bs ≡ any_octets kind' x id' status' index' bs'
same-octets answers m x {kind} {id} {status} {index} {kind'} {id'} {status'} {index'} {bs} {bs'} v w =
    let (rs, p, q) = formed-reads v in
    let (rs', p', q') = formed-reads w in
    let e : request.message kind id status index rs ≡ request.message kind' id' status' index' rs' = sym p ∙ p' in
    let a : kind ≡ kind' = cc in
    let b : id ≡ id' = cc in
    let c : status ≡ status' = cc in
    let d : index ≡ index' = cc in
    let r : rs ≡ rs' = cc in
    let l : bs ≡ bs' = sym q ∙ ap (map (formBoundAt m)) r ∙ q' in
    rw (a, b, c, d, l)

-- ## A name that was read may be written

first-written : (n : ℕ) → (eqb (first_of n) 2 || (ltb (first_of n) 2 && ltb (n - 40 * first_of n) 40)) ≡ true
first-written n = go (ltb n 80) refl
  where
    go : (t : Bool) → ltb n 80 ≡ t → (eqb (cond t (n / 40) 2) 2 || (ltb (cond t (n / 40) 2) 2 && ltb (n - 40 * cond t (n / 40) 2) 40)) ≡ true
    go true q =
        let h : n < 80 = ltb-true n 80 q in
        rw (lt-ltb (n / 40) 2 (omega arith), lt-ltb (n - 40 * (n / 40)) 40 (omega arith)) (either (eqb (n / 40) 2))
      where
        either : (b : Bool) → (b || true) ≡ true
        either true = refl
        either false = refl
    go false q = refl

two-written : (ns : List ℕ) → SubIdsFit (first_two ns) → 2 ≤ length (first_two ns) → name_written (name_octets (first_two ns)) 0 ≡ true
unfolding name_written name_octets
two-written [] w h = absurd (omega arith)
two-written (n ∷ ns) w h =
    let a : ℕ = first_of n in
    let b : ℕ = n - 40 * first_of n in
    let p : be_at (be_octets 4 a ++ (be_octets 4 b ++ name_octets ns)) 0 4 ≡ a = be_at-in [] (be_octets 4 b ++ name_octets ns) 0 4 a refl w.0 in
    let q : be_at (be_octets 4 a ++ (be_octets 4 b ++ name_octets ns)) (0 + 4) 4 ≡ b = be_at-in (be_octets 4 a) (name_octets ns) (0 + 4) 4 b (length-be_octets 4 a ∙ omega arith) w.1.0 in
    rw (p, q) (first-written n)

carried-by : (kind : ℕ) (s : List ℕ) (bs : List Binding) → AllWithin kind s bs → AllCarriedBy kind (map (bound_at s) bs)
unfolding bound_at sub_ids
carried-by kind s [] w = tt
carried-by kind s (b ∷ bs) w =
    let v : Within s b = w.0.0 in
    let name : List ℕ = part s b.name b.size in (
      record {
        carried = (all-carried kind s (b ∷ bs) w).0;
        named = octets-name (sub_ids name);
        written = two-written (numbers_from 0 name) (below-fits (sub_ids name) (name_below name v.fits).0) (two-sub-ids name v.whole);
      },
      carried-by kind s bs w.1,
    )

-- ## The shortest form of what was read

-- what a datagram that was read comes to: the message in its parts, and their shortest form, which is a datagram of the same message and community
pub record Canonical (answers : Bool) (m x d : List ℕ) : Type 0 where
  pub kind : ℕ
  pub id : ℕ
  pub status : ℕ
  pub index : ℕ
  pub bs : List Bound
  pub formed : Formed answers m kind id status index bs
  pub short : length d ≤ most_octets
  pub fits : length m ≤ most_octets
  pub least : Least d (any_octets kind x id status index bs)
  pub again : DatagramOf answers m x (any_octets kind x id status index bs)

-- what is handed over was read
abbrev HandedOver : Bool → (room d : List ℕ) → Given → Type 0
HandedOver answers room d g =
    g.number ≡ 0
    → (kind : ℕ) × (id : ℕ) × (status : ℕ) × (index : ℕ) × (bs : List Binding)
    × (read_datagram answers d ≡ Ok (message_read kind id status index g.community g.size bs)) × (length d ≤ most_octets) × (g.count ≤ most_octets)
    × (g.count ≡ length (message_octets kind id status index (map (bound_at d) bs))) × (g.room ≡ patch room 0 (message_octets kind id status index (map (bound_at d) bs)))

nothing : {A : Type 0} (n : ℕ) → 0 < n → n ≡ 0 → A
nothing n h e = absurd (omega (arith, h, e))

handed-over : (answers : Bool) (room d : List ℕ) → HandedOver answers room d (from_datagram answers room d)
unfolding from_datagram given_by
handed-over answers room d =
    cond_cases (HandedOver answers room d) (ltb (length room) most_octets) (λ t h. nothing 1 (omega arith) h)
    (λ t. cond_cases (HandedOver answers room d) (ltb most_octets (length d)) (λ u h. nothing 20 (omega arith) h)
    (λ u. read (ltb-false most_octets (length d) u) (read_datagram answers d) refl))
  where
    read : length d ≤ most_octets → (x : Result Message Reason) → read_datagram answers d ≡ x → HandedOver answers room d (given_by room d x)
    read l (Err r) e = λ h. nothing (number_of r) (number-sure r) h
    read l (Ok k) e =
        let octets : List ℕ = message_octets k.kind k.id k.status k.index (map (bound_at d) k.bindings) in
        cond_cases (HandedOver answers room d) (leb (length octets) most_octets)
        (λ t h. (k.kind, k.id, k.status, k.index, k.bindings, e, l, leb-true (length octets) most_octets t, refl, refl))
        (λ t h. nothing 20 (omega arith) h)

-- octets in a room, read from it
same-put : (room a b : List ℕ) → length a ≡ length b → patch room 0 a ≡ patch room 0 b → a ≡ b
same-put room a b l e = sym (name_back room a (length a) refl) ∙ ap (take (length a)) e ∙ name_back room b (length a) (sym l)

-- octets that are read to the message m hand it over
handed-again : (answers : Bool) (room m x d : List ℕ) (kind id status index at : ℕ) (rs : List Binding) → most_octets ≤ length room → length d ≤ most_octets → length m ≤ most_octets
    → read_datagram answers d ≡ Ok (message_read kind id status index at (length x) rs) → message_octets kind id status index (map (bound_at d) rs) ≡ m
    → from_datagram answers room d ≡ record { number = 0; count = length m; community = at; size = length x; room = patch room 0 m }
handed-again answers room m x d kind id status index at rs long short fits e own =
    sym (call-read answers room d long short e) ∙ ap (handed room (record { start = at; len = length x })) own ∙ rw (le-leb (length m) most_octets fits)

pub canonical : (answers : Bool) (m x d : List ℕ) → DatagramOf answers m x d → Canonical answers m x d
canonical answers m x d w =
    let room : List ℕ = replicate {A = ℕ} most_octets 0 in
    let (at, r, c) = w.read room (omega (arith, length-replicate {A = ℕ} most_octets 0)) in
    let (kind, id, status, index, rs, e, short, fits, n, p) = subst (HandedOver answers room d) r (handed-over answers room d) refl in
    made kind id status index at rs e c short fits (same-put room m (message_octets kind id status index (map (bound_at d) rs)) n p) (subst (DatagramTells answers d) e (datagram-tells answers d))
  where
    made : (kind id status index at : ℕ) (rs : List Binding) → read_datagram answers d ≡ Ok (message_read kind id status index at (length x) rs) → part d at (length x) ≡ x → length d ≤ most_octets → length m ≤ most_octets
        → m ≡ message_octets kind id status index (map (bound_at d) rs) → DatagramTells answers d (Ok (message_read kind id status index at (length x) rs)) → Canonical answers m x d
    made kind id status index at rs e c short fits own t =
        let bs : List Bound = map (bound_at d) rs in
        let ys : List ℕ = any_octets kind x id status index bs in
        let l : Least d ys = subst (λ (u : List ℕ). Least d (any_octets kind u id status index bs)) c (read-least d w.octets answers e) in
        let few : length bs ≤ 16 = omega (arith, length-bound d rs, t.0) in
        let b = any-back answers kind x id status index bs t.3 t.4 (t.5 w.octets) few (carried-by kind d rs t.1) (omega (arith, l.shorter)) in
        record {
          kind = kind;
          id = id;
          status = status;
          index = index;
          bs = bs;
          formed = record { is = own; taken = t.3; quiet = t.4; small = t.5 w.octets; few = few; carried = carried-by kind d rs t.1 };
          short = short;
          fits = fits;
          least = l;
          again = record {
            octets = l.octets;
            read = λ room long. (
              b.0,
              handed-again answers room m x ys kind id status index b.0 b.1 long (omega (arith, l.shorter)) fits b.2 (ap (message_octets kind id status index) b.3 ∙ sym own),
              b.4,
            );
          };
        }

pub shortest-is : (answers : Bool) (m x d : List ℕ) → Shortest answers m x d → (c : Canonical answers m x d) → d ≡ any_octets c.kind x c.id c.status c.index c.bs
shortest-is answers m x d w c = c.least.same (w.least (any_octets c.kind x c.id c.status c.index c.bs) c.again)

pub shortest-equal : ShortestEqual
shortest-equal answers m x d e v w =
    let a : Canonical answers m x d = canonical answers m x d v.taken in
    let b : Canonical answers m x e = canonical answers m x e w.taken in
    shortest-is answers m x d v a ∙ same-octets answers m x a.formed b.formed ∙ sym (shortest-is answers m x e w b)

pub shortest-exists : ShortestExists
shortest-exists answers m x d w =
    let a : Canonical answers m x d = canonical answers m x d w in (
      any_octets a.kind x a.id a.status a.index a.bs,
      record {
        taken = a.again;
        least = λ e v.
            let b : Canonical answers m x e = canonical answers m x e v in
            omega (arith, ap length (same-octets answers m x a.formed b.formed), b.least.shorter);
      },
    )
