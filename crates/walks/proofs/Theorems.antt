-- The statements of `specs/Theorems.antt`, proved. Assumes nothing.
use Prim.Native.Nat.{ℕ, zero, suc, ◌+◌, ◌-◌, ◌*◌, ◌≤◌, ◌<◌}
use mathlib.Core.Logic.{◌⊎◌, inl, inr, ◌↔◌, by_cases}
use mathlib.Core.Path.{◌≡◌, refl, sym, ap, subst, ◌∙◌}
use mathlib.Core.List.{List, [], ◌∷◌, ◌++◌, map}
use mathlib.Core.Bool.{Bool, true, false, cond, ◌&&◌, false≢true}
use mathlib.Core.Option.{Option, none, some}
use native.Mathlib.Decide.{dec_lt}
use native.Mathlib.Omega.{arith}
use borrow.Author.Tests.{eq-eqb, eqb-true, eqb-false, le-leb}
use lib.ListN.{length, get_or, drop, length-drop}
use lib.Seq.{length-take-le, get_or-append-add}
use lib.Dec.{leb, eqb}
use Rattle.std.specs.Prelude.{is_some, Result, Ok, Err}
use Rattle.octets.specs.Parts.{part, same}
use Rattle.octets.specs.Ports.{member, set_of}
use Rattle.octets.proofs.PartLaws.{same_refl, same-eq, eqb_swap, same-swap}
use Rattle.octets.proofs.PortLaws.{members-same, set-lt, set-zeros}
use Rattle.names.specs.Order.{below, is_prefix}
use Rattle.names.specs.Table.{object_count, object_at, type_name, place_of}
use Rattle.names.specs.declared.table.Syntax.{Syntax}
use Rattle.names.proofs.SubIdLaws.{subids-step}
use Rattle.names.proofs.OrderLaws.{below-nil}
use Rattle.names.proofs.TableLaws.{place_is, place-only}
use Rattle.message.specs.Request.{binding_at}
use Rattle.message.specs.Refusals.{number_of}
use Rattle.message.specs.declared.form.Refusal.{Refusal}
use Rattle.message.specs.declared.request.Bound.{Bound}
use Rattle.message.proofs.BindingLaws.{Placed, stands}
use Rattle.message.proofs.FormLaws.{clash}
use Rattle.walks.specs.Walk.{Item, item, name_of, Walk, item_before, item_then, not_ascending, walk_from, walk_of}
use Rattle.walks.specs.Contrast.{is_ports, ports_place, short_string, ports_column, port_sets}
use Rattle.walks.specs.Merge.{Entry, only_reference, only_device, differing, Merged, merged, listed, listed_if, merge, contrast_of, entry_octets, list_octets, kind_of, total}
use Rattle.walks.specs.Compare.{CompareOutcome, refused_with, start_of, outlasts, completed, walk_then, compared, listed_in, tailed}
use Rattle.walks.specs.Theorems.{In, AllAbove, Ascending, names, entry_name, Unnamed, WalksAscend, ReadWhole, FirstAscends, EntriesAscend, TotalsAdd, KindsWritten, OneTail, TailsEnd, OnlyInReference, OnlyInDevice, swap_entry, Exchanged, Swaps, CallExchanged, RefusalKeeps, DifferingInBoth, EqualWalks, UnderPortsColumn, PortsDiffer, OthersDiffer, MissingOctets}
use Rattle.walks.proofs.WalkLaws.{from_end, from_step}
use Rattle.names.proofs.RelationLaws.{related-below, related_same, related-above}
use Rattle.walks.proofs.MergeLaws.{differ_by, differ-is, merge_none, merge-alone, merge-below, merge-same, merge-above, length-entry, totals-add}
use Rattle.walks.proofs.InductLaws.{merge-induct, never-below, above-all, above_in, walk_up}

pub walks-ascend : WalksAscend
unfolding walk_of
walks-ascend s xs e = (walk_up s (length s) [] 0 xs e).1

-- the bound on the number of bindings does not matter
step-more : (s last : List ℕ) (at : ℕ) (f g : List ℕ → ℕ → Walk) (k : Result Bound Refusal) → binding_at 3 s at ≡ k → ((last' : List ℕ) (next : ℕ) → at + 3 ≤ next → f last' next ≡ g last' next)
    → item_then s last at k f ≡ item_then s last at k g
step-more s last at f g (Err r) e h = refl
step-more s last at f g (Ok d) e h =
    ap (λ (w : Walk). cond (below last (name_of s d.binding)) (item_before (item s at d.binding) w) (Err not_ascending)) (h (name_of s d.binding) d.next (stands {k = binding_at 3 s at} refl e).goes)

pub read_whole : ReadWhole
read_whole s last at zero more h k = from_end s zero last at (omega arith) ∙ sym (from_end s more last at (omega arith))
read_whole s last at (suc left) zero h k = from_end s (suc left) last at (omega arith) ∙ sym (from_end s zero last at (omega arith))
read_whole s last at (suc left) (suc more) h k =
    by_cases (dec_lt at (length s))
    (λ l.
    from_step s left last at l
    ∙ step-more s last at (walk_from s left) (walk_from s more) (binding_at 3 s at) refl (λ last' next g. read_whole s last' next left more (omega arith) (omega arith))
    ∙ sym (from_step s more last at l))
    (λ l. from_end s (suc left) last at (omega arith) ∙ sym (from_end s (suc more) last at (omega arith)))

pub first-ascends : FirstAscends
first-ascends s at b next e =
    let w : Placed 3 s at b next = stands {k = binding_at 3 s at} refl e in
    let l : length (part s b.name b.size) ≡ b.size = length-take-le b.size (drop b.name s) (rw length-drop (omega (arith, w.binding.named))) in
    rw (subids-step (part s b.name b.size) 0 (omega (arith, w.binding.long))) (below-nil _ _)

pub totals : TotalsAdd
totals es = totals-add es

-- what is above both walks is above the list
entries-above : (n : List ℕ) (xs ys : List Item) → AllAbove n (names xs) → AllAbove n (names ys) → AllAbove n (map entry_name (merge xs ys).entries)
entries-above n =
    merge-induct (λ xs ys m. AllAbove n (names xs) → AllAbove n (names ys) → AllAbove n (map entry_name m.entries))
    (λ ys a b. tt)
    (λ x xs a b. tt)
    (λ x xs y ys h f a b. (a.0, f a.1 b))
    (λ x xs y ys e k f a b. f a.1 b.1)
    (λ x xs y ys e k f a b. (a.0, f a.1 b.1))
    (λ x xs y ys h f a b. (b.0, f a b.1))

pub entries-ascend : EntriesAscend
entries-ascend =
    merge-induct (λ xs ys m. Ascending (names xs) → Ascending (names ys) → Ascending (map entry_name m.entries))
    (λ ys a b. tt)
    (λ x xs a b. tt)
    (λ x xs y ys h f a b. (entries-above x.name xs (y ∷ ys) a.0 (above-all x.name y.name (names ys) h b), f a.1 b))
    (λ x xs y ys e k f a b. f a.1 b.1)
    (λ x xs y ys e k f a b.
    let b' : AllAbove x.name (names ys) = rw e b.0 in
    (entries-above x.name xs ys a.0 b', f a.1 b.1))
    (λ x xs y ys h f a b. (entries-above y.name (x ∷ xs) ys (above-all y.name x.name (names xs) h a) b.0, f a b.1))

pub one-tail : OneTail
one-tail =
    merge-induct (λ xs ys m. (m.ours ≡ []) ⊎ (m.theirs ≡ []))
    (λ ys. inl refl)
    (λ x xs. inr refl)
    (λ x xs y ys h f. f)
    (λ x xs y ys e k f. f)
    (λ x xs y ys e k f. f)
    (λ x xs y ys h f. f)

pub tails_end : TailsEnd
tails_end =
    merge-induct (λ xs ys m. (cs ds : List Item) × (xs ≡ cs ++ m.ours) × (ys ≡ ds ++ m.theirs))
    (λ ys. ([], [], refl, refl))
    (λ x xs. ([], [], refl, refl))
    (λ x xs y ys h f. (x ∷ f.0, f.1, ap (λ (l : List Item). x ∷ l) f.2, f.3))
    (λ x xs y ys e k f. (x ∷ f.0, y ∷ f.1, ap (λ (l : List Item). x ∷ l) f.2, ap (λ (l : List Item). y ∷ l) f.3))
    (λ x xs y ys e k f. (x ∷ f.0, y ∷ f.1, ap (λ (l : List Item). x ∷ l) f.2, ap (λ (l : List Item). y ∷ l) f.3))
    (λ x xs y ys h f. (f.0, y ∷ f.1, f.2, ap (λ (l : List Item). y ∷ l) f.3))

first-octet : (e : Entry) (more : List ℕ) → get_or (entry_octets e ++ more) 0 0 ≡ kind_of e
unfolding entry_octets
first-octet (only_reference x) more = refl
first-octet (only_device y) more = refl
first-octet (differing x y) more = refl

pub kinds-written : KindsWritten
unfolding list_octets
kinds-written [] i d h = absurd (omega arith)
kinds-written (e ∷ es) zero d h = first-octet e (list_octets es)
kinds-written (e ∷ es) (suc i) d h =
    let p : 20 * suc i ≡ length (entry_octets e) + 20 * i = omega (arith, length-entry e) in
    rw p (get_or-append-add (entry_octets e) (list_octets es) (20 * i) 0 ∙ kinds-written es i d (omega arith))

-- what is left of the reference's walk is of that walk
ours_in : (z : Item) (xs ys : List Item) → In z (merge xs ys).ours → In z xs
ours_in z =
    merge-induct (λ xs ys m. In z m.ours → In z xs)
    (λ ys i. i)
    (λ x xs i. i)
    (λ x xs y ys h f i. inr (f i))
    (λ x xs y ys e k f i. inr (f i))
    (λ x xs y ys e k f i. inr (f i))
    (λ x xs y ys h f i. f i)

-- a name that is below all of a walk is not in it
not-above : (n : List ℕ) (ys : List Item) → AllAbove n (names ys) → Unnamed n ys
not-above n ys w y i e = never-below n (rw e at (above_in n ys w y i))

unnamed-more : (n : List ℕ) (y : Item) (ys : List Item) → (y.name ≡ n → ⊥) → Unnamed n ys → Unnamed n (y ∷ ys)
unnamed-more n y ys h u z (inl e) f = h (sym (ap (λ (w : Item). w.name) e) ∙ f)
unnamed-more n y ys h u z (inr i) f = u z i f

unnamed-less : (n : List ℕ) (y : Item) (ys : List Item) → Unnamed n (y ∷ ys) → Unnamed n ys
unnamed-less n y ys u z i f = u z (inr i) f

same_item : {x z : Item} → only_reference z ≡ only_reference x → z ≡ x
same_item e = cc

module _ (z : Item) where
  abbrev Alone : List Item → List Item → Merged → Type 0
  Alone xs ys m = In z xs × (In z m.ours → ⊥) × Unnamed z.name ys

  abbrev Sole : List Item → List Item → Merged → Type 0
  Sole xs ys m = Ascending (names xs) → Ascending (names ys) → In (only_reference z) m.entries ↔ Alone xs ys m

  sole-lower : (x : Item) (xs : List Item) (y : Item) (ys : List Item) → below x.name y.name ≡ true → Sole xs (y ∷ ys) (merge xs (y ∷ ys))
      → Sole (x ∷ xs) (y ∷ ys) (listed (only_reference x) (merge xs (y ∷ ys)))
  sole-lower x xs y ys h f a b = (to, from)
    where
      to : (only_reference z ≡ only_reference x) ⊎ In (only_reference z) (merge xs (y ∷ ys)).entries → Alone (x ∷ xs) (y ∷ ys) (listed (only_reference x) (merge xs (y ∷ ys)))
      to (inl e) =
          let q : z ≡ x = same_item e in (
            inl q,
            λ i. never-below x.name (rw q at (above_in x.name xs a.0 z (ours_in z xs (y ∷ ys) i))),
            rw q (not-above x.name (y ∷ ys) (above-all x.name y.name (names ys) h b)),
          )
      to (inr i) = let r = (f a.1 b).0 i in (inr r.0, r.1, r.2)

      from : Alone (x ∷ xs) (y ∷ ys) (listed (only_reference x) (merge xs (y ∷ ys))) → (only_reference z ≡ only_reference x) ⊎ In (only_reference z) (merge xs (y ∷ ys)).entries
      from r = place r.0
        where
          place : (z ≡ x) ⊎ In z xs → (only_reference z ≡ only_reference x) ⊎ In (only_reference z) (merge xs (y ∷ ys)).entries
          place (inl e) = inl (ap only_reference e)
          place (inr i) = inr ((f a.1 b).1 (i, r.1, r.2))

  -- an instance of both sides
  both_to : (x : Item) (xs : List Item) (y : Item) (ys : List Item) → x.name ≡ y.name → Ascending (names (x ∷ xs)) → Alone xs ys (merge xs ys) → Alone (x ∷ xs) (y ∷ ys) (merge xs ys)
  both_to x xs y ys e a r =
      (inr r.0, r.1, unnamed-more z.name y ys (λ q. never-below x.name (rw (sym q ∙ sym e) at (above_in x.name xs a.0 z r.0))) r.2)

  both-from : (x : Item) (xs : List Item) (y : Item) (ys : List Item) → x.name ≡ y.name → Alone (x ∷ xs) (y ∷ ys) (merge xs ys) → Alone xs ys (merge xs ys)
  both-from x xs y ys e r = (place r.0, r.1, unnamed-less z.name y ys r.2)
    where
      place : (z ≡ x) ⊎ In z xs → In z xs
      place (inl q) = absurd (r.2 y (inl refl) (sym e ∙ sym (ap (λ (w : Item). w.name) q)))
      place (inr i) = i

  sole-equal : (x : Item) (xs : List Item) (y : Item) (ys : List Item) → x.name ≡ y.name → is_some (contrast_of x y) ≡ false → Sole xs ys (merge xs ys) → Sole (x ∷ xs) (y ∷ ys) (merge xs ys)
  sole-equal x xs y ys e k f a b = (λ i. both_to x xs y ys e a ((f a.1 b.1).0 i), λ r. (f a.1 b.1).1 (both-from x xs y ys e r))

  sole-other : (x : Item) (xs : List Item) (y : Item) (ys : List Item) → x.name ≡ y.name → is_some (contrast_of x y) ≡ true → Sole xs ys (merge xs ys)
      → Sole (x ∷ xs) (y ∷ ys) (listed (differing x y) (merge xs ys))
  sole-other x xs y ys e k f a b = (to, λ r. inr ((f a.1 b.1).1 (both-from x xs y ys e r)))
    where
      to : (only_reference z ≡ differing x y) ⊎ In (only_reference z) (merge xs ys).entries → Alone (x ∷ xs) (y ∷ ys) (merge xs ys)
      to (inl q) = clash (cc)
      to (inr i) = both_to x xs y ys e a ((f a.1 b.1).0 i)

  sole-higher : (x : Item) (xs : List Item) (y : Item) (ys : List Item) → below y.name x.name ≡ true → Sole (x ∷ xs) ys (merge (x ∷ xs) ys)
      → Sole (x ∷ xs) (y ∷ ys) (listed (only_device y) (merge (x ∷ xs) ys))
  sole-higher x xs y ys h f a b = (to, λ r. inr ((f a b.1).1 (r.0, r.1, unnamed-less z.name y ys r.2)))
    where
      to : (only_reference z ≡ only_device y) ⊎ In (only_reference z) (merge (x ∷ xs) ys).entries → Alone (x ∷ xs) (y ∷ ys) (merge (x ∷ xs) ys)
      to (inl q) = clash (cc)
      to (inr i) =
          let r = (f a b.1).0 i in (
            r.0,
            r.1,
            unnamed-more z.name y ys (λ q. never-below y.name (rw (sym q) at (above_in y.name (x ∷ xs) (above-all y.name x.name (names xs) h a) z r.0))) r.2,
          )

  sole : (xs ys : List Item) → Sole xs ys (merge xs ys)
  sole =
      merge-induct Sole
      (λ ys a b. (λ i. absurd i, λ r. absurd r.0))
      (λ x xs a b. (λ i. absurd i, λ r. absurd (r.1 r.0)))
      sole-lower
      sole-equal
      sole-other
      sole-higher

pub only-in-reference : OnlyInReference
only-in-reference xs ys a b z = sole z xs ys a b

-- tests joined in the other order
and-swap : (a b c : Bool) → a && b && c ≡ b && a && c
and-swap true true c = refl
and-swap true false c = refl
and-swap false true c = refl
and-swap false false c = refl

sets-swap : (name : List ℕ) (tag : ℕ) (us : List ℕ) (tag' : ℕ) (vs : List ℕ) → port_sets name tag us tag' vs ≡ port_sets name tag' vs tag us
unfolding port_sets
sets-swap name tag us tag' vs = and-swap (short_string tag (length us)) (short_string tag' (length vs)) (ports_column name)

differ-swap : (x y : Item) → x.name ≡ y.name → is_some (contrast_of y x) ≡ is_some (contrast_of x y)
differ-swap x y e =
    differ-is y.name y.tag y.content x.tag x.content
    ∙ rw (← e, sets-swap x.name y.tag y.content x.tag x.content, eqb_swap (set_of y.content) (set_of x.content), eqb_swap y.tag x.tag, same-swap y.content x.content)
    (sym (differ-is x.name x.tag x.content y.tag y.content))

same_back : (x y : Item) (xs ys : List Item) → x.name ≡ y.name → merge (y ∷ ys) (x ∷ xs) ≡ listed_if y x (merge ys xs)
same_back x y xs ys e = merge-same y ys x xs (rw e (related_same y.name))

abbrev swapped : Merged → Merged
swapped m = merged (map swap_entry m.entries) m.theirs m.ours

pub exchanged : Exchanged
exchanged =
    merge-induct (λ xs ys m. merge ys xs ≡ swapped m)
    (λ ys. merge-alone ys)
    (λ x xs. merge_none (x ∷ xs))
    (λ x xs y ys h f. merge-above y ys x xs (related-above y.name x.name h) ∙ ap (listed (only_device x)) f)
    (λ x xs y ys e k f. let q : is_some (contrast_of y x) ≡ false = differ-swap x y e ∙ k in same_back x y xs ys e ∙ rw q f)
    (λ x xs y ys e k f. let q : is_some (contrast_of y x) ≡ true = differ-swap x y e ∙ k in same_back x y xs ys e ∙ rw q (ap (listed (differing y x)) f))
    (λ x xs y ys h f. merge-below y ys x xs (related-below y.name x.name h) ∙ ap (listed (only_reference y)) f)

-- an exchanged list has as many entries, and the totals of one side only exchanged
length-swapped : (es : List Entry) → length (map swap_entry es) ≡ length es
length-swapped [] = refl
length-swapped (e ∷ es) = ap suc (length-swapped es)

abbrev TotalsSwap : List Entry → Type 0
TotalsSwap es = (total 1 (map swap_entry es) ≡ total 2 es) × (total 2 (map swap_entry es) ≡ total 1 es) × (total 3 (map swap_entry es) ≡ total 3 es)

totals-swap : (es : List Entry) → TotalsSwap es
unfolding total
totals-swap [] = (refl, refl, refl)
totals-swap (only_reference x ∷ es) = let i = totals-swap es in (omega (arith, i.0), omega (arith, i.1), omega (arith, i.2))
totals-swap (only_device y ∷ es) = let i = totals-swap es in (omega (arith, i.0), omega (arith, i.1), omega (arith, i.2))
totals-swap (differing x y ∷ es) = let i = totals-swap es in (omega (arith, i.0), omega (arith, i.1), omega (arith, i.2))

-- the outcomes with a tail, by what is left of the two walks
module _ (s t list : List ℕ) (m m' : Merged) (e : m' ≡ swapped m) where
  totals-of : TotalsSwap m.entries
  totals-of = totals-swap m.entries

  swaps-with : (a b n k l : ℕ) → k ≡ l → (side : ℕ) → Swaps (completed side a l list m) (completed n b k list m')
  swaps-with a b n k l f side =
      let w = totals-of in
      record {
        number = refl;
        tail_len = f;
        reference_only = rw e w.0;
        switch_only = rw e w.1;
        differing = rw e w.2;
      }

  tails-swap : (os ts : List Item) → (os ≡ []) ⊎ (ts ≡ [])
      → Swaps
      (cond (outlasts ts) (completed 2 (start_of t ts) (length t - start_of t ts) list m) (completed 1 (start_of s os) (length s - start_of s os) list m))
      (cond (outlasts os) (completed 2 (start_of s os) (length s - start_of s os) list m') (completed 1 (start_of t ts) (length t - start_of t ts) list m'))
  tails-swap [] [] o = swaps-with (length s) (length t) 1 (length t - length t) (length s - length s) (omega arith) 1
  tails-swap [] (y ∷ ys) o = swaps-with y.at y.at 1 (length t - y.at) (length t - y.at) refl 2
  tails-swap (x ∷ xs) [] o = swaps-with x.at x.at 2 (length s - x.at) (length s - x.at) refl 1
  tails-swap (x ∷ xs) (y ∷ ys) (inl q) = clash (cc)
  tails-swap (x ∷ xs) (y ∷ ys) (inr q) = clash (cc)

swaps-listed : (s t list : List ℕ) (m m' : Merged) → m' ≡ swapped m → (m.ours ≡ []) ⊎ (m.theirs ≡ []) → Swaps (listed_in s t list m) (listed_in t s list m')
unfolding listed_in tailed
swaps-listed s t list m m' e o =
    let l : length m'.entries ≡ length m.entries = ap (λ (n : Merged). length n.entries) e ∙ length-swapped m.entries in
    let p : m'.ours ≡ m.theirs = ap (λ (n : Merged). n.ours) e in
    let q : m'.theirs ≡ m.ours = ap (λ (n : Merged). n.theirs) e in
    rw (l, p, q) (go (leb (20 * length m.entries) (length list)) (tails-swap s t list m m' e m.ours m.theirs o))
  where
    go : (b : Bool) {u v : CompareOutcome} → Swaps u v → Swaps (cond b u (refused_with 25 1 0 list)) (cond b v (refused_with 25 1 0 list))
    go true w = w
    go false w = record { number = refl; tail_len = refl; reference_only = refl; switch_only = refl; differing = refl }

pub call-exchanged : CallExchanged
unfolding compared
call-exchanged s t list xs ys e f = rw (e, f) (swaps-listed s t list (merge xs ys) (merge ys xs) (exchanged xs ys) (one-tail xs ys))

-- a refusal writes nothing
abbrev Keeps : List ℕ → CompareOutcome → Type 0
Keeps list o = (o.number ≡ 0) ⊎ (o.list ≡ list)

listed-keeps : (s t list : List ℕ) (m : Merged) → Keeps list (listed_in s t list m)
unfolding listed_in tailed
listed-keeps s t list m =
    let i : ℕ = start_of t m.theirs in
    let j : ℕ = start_of s m.ours in
    go (leb (20 * length m.entries) (length list)) (outlasts m.theirs) i (length t - i) j (length s - j)
  where
    go : (a b : Bool) (i k j l : ℕ) → Keeps list (cond a (cond b (completed 2 i k list m) (completed 1 j l list m)) (refused_with 25 1 0 list))
    go true true i k j l = inl refl
    go true false i k j l = inl refl
    go false b i k j l = inr refl

pub refusal-keeps : RefusalKeeps
unfolding compared
refusal-keeps s t list = go (walk_of s) (walk_of t)
  where
    go : (u v : Walk)
        → Keeps list
        (walk_then u (λ r. refused_with (number_of r.reason) 1 r.at list)
        (λ xs. walk_then v (λ r. refused_with (number_of r.reason) 2 r.at list) (λ ys. listed_in s t list (merge xs ys))))
    go (Err r) v = inr refl
    go (Ok xs) (Err r) = inr refl
    go (Ok xs) (Ok ys) = listed-keeps s t list (merge xs ys)

swap-in : (z : Item) (es : List Entry) → In (only_device z) es → In (only_reference z) (map swap_entry es)
swap-in z [] i = absurd i
swap-in z (e ∷ es) (inl q) = inl (ap swap_entry q)
swap-in z (e ∷ es) (inr i) = inr (swap-in z es i)

swap-twice : (e : Entry) → swap_entry (swap_entry e) ≡ e
swap-twice (only_reference x) = refl
swap-twice (only_device y) = refl
swap-twice (differing x y) = refl

swap-out : (z : Item) (es : List Entry) → In (only_reference z) (map swap_entry es) → In (only_device z) es
swap-out z [] i = absurd i
swap-out z (e ∷ es) (inl q) = inl (ap swap_entry q ∙ swap-twice e)
swap-out z (e ∷ es) (inr i) = inr (swap-out z es i)

pub only-in-device : OnlyInDevice
only-in-device xs ys a b z =
    let p : merge ys xs ≡ swapped (merge xs ys) = exchanged xs ys in
    let r : In (only_reference z) (map swap_entry (merge xs ys).entries) ↔ (In z ys × (In z (merge xs ys).theirs → ⊥) × Unnamed z.name xs) =
    subst (λ (m : Merged). In (only_reference z) m.entries ↔ (In z ys × (In z m.ours → ⊥) × Unnamed z.name xs)) p (only-in-reference ys xs b a z) in
    (λ i. r.0 (swap-in z (merge xs ys).entries i), λ q. swap-out z (merge xs ys).entries (r.1 q))

-- equal walks
contrast-self : (x : Item) → is_some (contrast_of x x) ≡ false
contrast-self x =
    differ-is x.name x.tag x.content x.tag x.content
    ∙ rw (eq-eqb (set_of x.content) (set_of x.content) refl, eq-eqb x.tag x.tag refl, same_refl x.content) (go (port_sets x.name x.tag x.content x.tag x.content))
  where
    go : (p : Bool) → differ_by p true true ≡ false
    go true = refl
    go false = refl

merge-self : (xs : List Item) → merge xs xs ≡ merged [] [] []
merge-self [] = merge_none []
merge-self (x ∷ xs) = let k : is_some (contrast_of x x) ≡ false = contrast-self x in merge-same x xs x xs (related_same x.name) ∙ rw k (merge-self xs)

pub equal-walks : EqualWalks
unfolding compared listed_in tailed
equal-walks s list xs e =
    let z : length s - length s ≡ 0 = omega arith in
    rw (e, merge-self xs, le-leb (20 * 0) (length list) (omega arith), z)

-- port sets
pub ports-differ : PortsDiffer
ports-differ name tag us tag' vs h o q =
    rw (differ-is name tag us tag' vs, h) (go (eqb (set_of us) (set_of vs)) refl)
  where
    go : (t : Bool) → eqb (set_of us) (set_of vs) ≡ t → (differ_by true t (eqb tag tag' && same us vs) ≡ false) ↔ ((p : ℕ) → member 64 (set_of us) p ≡ member 64 (set_of vs) p)
    go true e = (λ _ p. ap (λ (n : ℕ). member 64 n p) (eqb-true (set_of us) (set_of vs) e), λ _. refl)
    go false e = (λ k. absurd (false≢true (sym k)), λ m. absurd (eqb-false (set_of us) (set_of vs) e (members-same 64 (set_of us) (set_of vs) (set-lt us o) (set-lt vs q) m)))

pub others-differ : OthersDiffer
others-differ name tag us tag' vs h = rw (differ-is name tag us tag' vs, h) (go (eqb tag tag') refl (same us vs) refl)
  where
    go : (t : Bool) → eqb tag tag' ≡ t → (u : Bool) → same us vs ≡ u → (differ_by false (eqb (set_of us) (set_of vs)) (t && u) ≡ false) ↔ ((tag ≡ tag') × (us ≡ vs))
    go true e true f = (λ _. (eqb-true tag tag' e, same-eq us vs f), λ _. refl)
    go true e false f =
        (λ k. absurd (false≢true (sym k)), λ q. absurd (false≢true (sym f ∙ ap (same us) (sym q.1) ∙ same_refl us)))
    go false e u f = (λ k. absurd (false≢true (sym k)), λ q. absurd (eqb-false tag tag' e q.0))

pub missing-octets : MissingOctets
missing-octets us n = set-zeros us n

-- the ports columns
ports-is : (y : Syntax) → is_ports y ≡ true → y ≡ Syntax.Ports
ports-is Syntax.Integer e = absurd (false≢true e)
ports-is Syntax.Text e = absurd (false≢true e)
ports-is Syntax.Unsigned e = absurd (false≢true e)
ports-is Syntax.Counter e = absurd (false≢true e)
ports-is Syntax.Ports e = refl

pub under-ports-column : UnderPortsColumn
unfolding ports_column
under-ports-column name = (to (place_of name) refl, from)
  where
    to : (x : Option ℕ) → place_of name ≡ x → ports_place x ≡ true → (i : ℕ) × (i < object_count) × ((object_at i).syntax ≡ Syntax.Ports) × (is_prefix (type_name (object_at i)) name ≡ true)
    to none p e = absurd (false≢true e)
    to (some i) p e = let q = place_is name i p in (i, q.0, ports-is (object_at i).syntax e, q.1)

    from : (i : ℕ) × (i < object_count) × ((object_at i).syntax ≡ Syntax.Ports) × (is_prefix (type_name (object_at i)) name ≡ true) → ports_place (place_of name) ≡ true
    from r = ap ports_place (place-only name r.0 r.1 r.3) ∙ ap is_ports r.2

-- an instance of both walks
module _ (x y : Item) where
  abbrev Shared : List Item → List Item → Type 0
  Shared xs ys = In x xs × In y ys × (x.name ≡ y.name) × (is_some (contrast_of x y) ≡ true)

  abbrev Met : List Item → List Item → Merged → Type 0
  Met xs ys m = Ascending (names xs) → Ascending (names ys) → In (differing x y) m.entries ↔ Shared xs ys

  met-lower : (u : Item) (us : List Item) (v : Item) (vs : List Item) → below u.name v.name ≡ true → Met us (v ∷ vs) (merge us (v ∷ vs))
      → Met (u ∷ us) (v ∷ vs) (listed (only_reference u) (merge us (v ∷ vs)))
  met-lower u us v vs h f a b = (to, λ r. inr ((f a.1 b).1 (place r r.0, r.1, r.2, r.3)))
    where
      to : (differing x y ≡ only_reference u) ⊎ In (differing x y) (merge us (v ∷ vs)).entries → Shared (u ∷ us) (v ∷ vs)
      to (inl q) = clash (cc)
      to (inr i) = let r = (f a.1 b).0 i in (inr r.0, r.1, r.2, r.3)

      place : Shared (u ∷ us) (v ∷ vs) → (x ≡ u) ⊎ In x us → In x us
      place r (inl q) = absurd (not-above u.name (v ∷ vs) (above-all u.name v.name (names vs) h b) y r.1 (sym r.2 ∙ ap (λ (w : Item). w.name) q))
      place r (inr i) = i

  met-higher : (u : Item) (us : List Item) (v : Item) (vs : List Item) → below v.name u.name ≡ true → Met (u ∷ us) vs (merge (u ∷ us) vs)
      → Met (u ∷ us) (v ∷ vs) (listed (only_device v) (merge (u ∷ us) vs))
  met-higher u us v vs h f a b = (to, λ r. inr ((f a b.1).1 (r.0, place r r.1, r.2, r.3)))
    where
      to : (differing x y ≡ only_device v) ⊎ In (differing x y) (merge (u ∷ us) vs).entries → Shared (u ∷ us) (v ∷ vs)
      to (inl q) = clash (cc)
      to (inr i) = let r = (f a b.1).0 i in (r.0, inr r.1, r.2, r.3)

      place : Shared (u ∷ us) (v ∷ vs) → (y ≡ v) ⊎ In y vs → In y vs
      place r (inl q) = absurd (not-above v.name (u ∷ us) (above-all v.name u.name (names us) h a) x r.0 (r.2 ∙ ap (λ (w : Item). w.name) q))
      place r (inr i) = i

  -- both come first, or both come later
  later : (u : Item) (us : List Item) (v : Item) (vs : List Item) → u.name ≡ v.name → Ascending (names (u ∷ us)) → Ascending (names (v ∷ vs)) → Shared (u ∷ us) (v ∷ vs)
      → ((x ≡ u) × (y ≡ v)) ⊎ Shared us vs
  later u us v vs e a b r = place r.0 r.1
    where
      place : (x ≡ u) ⊎ In x us → (y ≡ v) ⊎ In y vs → ((x ≡ u) × (y ≡ v)) ⊎ Shared us vs
      place (inl p) (inl q) = inl (p, q)
      place (inl p) (inr j) = absurd (not-above v.name vs b.0 y j (sym r.2 ∙ ap (λ (w : Item). w.name) p ∙ e))
      place (inr i) (inl q) = absurd (not-above u.name us a.0 x i (r.2 ∙ ap (λ (w : Item). w.name) q ∙ sym e))
      place (inr i) (inr j) = inr (i, j, r.2, r.3)

  met-equal : (u : Item) (us : List Item) (v : Item) (vs : List Item) → u.name ≡ v.name → is_some (contrast_of u v) ≡ false → Met us vs (merge us vs) → Met (u ∷ us) (v ∷ vs) (merge us vs)
  met-equal u us v vs e k f a b = (λ i. let r = (f a.1 b.1).0 i in (inr r.0, inr r.1, r.2, r.3), λ r. from r (later u us v vs e a b r))
    where
      from : Shared (u ∷ us) (v ∷ vs) → ((x ≡ u) × (y ≡ v)) ⊎ Shared us vs → In (differing x y) (merge us vs).entries
      from r (inl q) =
          let z : is_some (contrast_of u v) ≡ true = subst (λ (w : Item). is_some (contrast_of w v) ≡ true) q.0 (subst (λ (w : Item). is_some (contrast_of x w) ≡ true) q.1 r.3) in
          absurd (false≢true (sym k ∙ z))
      from r (inr t) = (f a.1 b.1).1 t

  met-other : (u : Item) (us : List Item) (v : Item) (vs : List Item) → u.name ≡ v.name → is_some (contrast_of u v) ≡ true → Met us vs (merge us vs)
      → Met (u ∷ us) (v ∷ vs) (listed (differing u v) (merge us vs))
  met-other u us v vs e k f a b = (to, λ r. from (later u us v vs e a b r))
    where
      to : (differing x y ≡ differing u v) ⊎ In (differing x y) (merge us vs).entries → Shared (u ∷ us) (v ∷ vs)
      to (inl q) =
          let p : x ≡ u = cc in
          let o : y ≡ v = cc in
          (inl p, inl o, rw (p, o) e, rw (p, o) k)
      to (inr i) = let r = (f a.1 b.1).0 i in (inr r.0, inr r.1, r.2, r.3)

      from : ((x ≡ u) × (y ≡ v)) ⊎ Shared us vs → (differing x y ≡ differing u v) ⊎ In (differing x y) (merge us vs).entries
      from (inl q) = let p = q.0 in let o = q.1 in inl (cc)
      from (inr t) = inr ((f a.1 b.1).1 t)

  met : (xs ys : List Item) → Met xs ys (merge xs ys)
  met =
      merge-induct Met
      (λ ys a b. (λ i. absurd i, λ r. absurd r.0))
      (λ u us a b. (λ i. absurd i, λ r. absurd r.1))
      met-lower
      met-equal
      met-other
      met-higher

pub differing-in-both : DifferingInBoth
differing-in-both xs ys a b x y = met x y xs ys a b
