-- Where the refusals of a message stand: at a place where a field's tag is or would be, and not past the end; 8 exactly at a 17th binding. Assumes nothing.
use Prim.Native.Nat.{ℕ, zero, suc, ◌+◌, ◌≤◌, ◌<◌}
use native.Mathlib.Omega.{arith}
use mathlib.Core.Path.{◌≡◌, refl, sym, subst}
use mathlib.Core.Bool.{true}
use mathlib.Core.List.{List}
use lib.Dec.{leb, eqb}
use lib.ListN.{length, get_or}
use borrow.Author.Tests.{leb-true, leb-false, lt-leb, eqb-true}
use Rattle.octets.proofs.BoolLaws.{both}
use Rattle.std.specs.Prelude.{Option, Some, None, Result, Ok, Err}
use Rattle.message.specs.Refusals.{number_of}
use Rattle.message.specs.declared.refusals.Reason.TheVariants.{FieldCut, TagNotAllowed, LengthWrong, HeadWrong, TooManyBindings}
use Rattle.message.specs.declared.form.Refusal.{Refusal}
use Rattle.message.specs.declared.form.Field.{Field}
use Rattle.message.specs.declared.form.Role.{Role}
use Rattle.message.specs.declared.form.Role.TheVariants.{Kind, Id, Status, Bind, Name}
use Rattle.message.specs.declared.request.Head.{Head}
use Rattle.message.specs.declared.request.Bound.{Bound}
use Rattle.message.specs.Form.{field, field_at, tag_allowed, length_right, field_judged, checked_at, refusal, at_kind_field, at_kind, at_id_field, at_status_field, at_status, at_index, head_size, most_bindings}
use Rattle.message.specs.Request.{Takes, kind_allowed, status_allowed, status_of, id_of, head, head_of, content_role, content_in, binding_in, binding_at, binding_tag_at, seventeenth, not_binding, Bindings, ended, all, prepend, binding_then, bindings_from, Reading, refused, message, checked_then, head_then, with_bindings, read_message}
use Rattle.message.specs.Theorems.{FieldStart, first, behind, enclosed, Placed, RefusedWhere, BindingsTo, Seventeenth, EightExactly}
use Rattle.message.proofs.FormLaws.{InPlace, told, kind_fits, id_fits, cond_cases}

-- what a field in its place tells: the refusals of a checked field stand at the field and are 4 to 6, and a field that is found is whole
abbrev StandsAt : List ℕ → (at end : ℕ) → Result Field Refusal → Type 0
StandsAt s at end (Err r) = (r.at ≡ at) × (number_of r.reason < 8)
StandsAt s at end (Ok f) = field_at s at end ≡ Some f

stands : (p : Role) (s : List ℕ) (at end : ℕ) → StandsAt s at end (checked_at p s at end)
unfolding checked_at field_judged
stands p s at end = go (field_at s at end) refl
  where
    go : (x : Option Field) → field_at s at end ≡ x → StandsAt s at end (field_judged p at x)
    go None h = (refl, omega arith)
    go (Some f) h =
        cond_cases (StandsAt s at end) (tag_allowed p f.tag) (λ _. cond_cases (StandsAt s at end) (length_right p f.tag f.len) (λ _. h) (λ _. (refl, omega arith))) (λ _. (refl, omega arith))

place-cases : {A : Type 0} (P : A → Type 0) (p : Role) (s : List ℕ) (at end : ℕ) {stop : Refusal → A} {go : ℕ → ℕ → ℕ → A}
    → ((r : Refusal) → (r.at ≡ at) × (number_of r.reason < 8) → P (stop r))
    → ((tag start len : ℕ) → checked_at p s at end ≡ Ok (field tag start len) → field_at s at end ≡ Some (field tag start len) → P (go tag start len))
    → P (checked_then (checked_at p s at end) stop go)
place-cases P p s at end {stop} {go} f g = cases (checked_at p s at end) refl (stands p s at end)
  where
    cases : (k : Result Field Refusal) → checked_at p s at end ≡ k → StandsAt s at end k → P (checked_then k stop go)
    cases (Err r) e w = f r w
    cases (Ok x) e w = g x.tag x.start x.len e w

module _ (s : List ℕ) where
  -- a refusal at the start of a field
  stands_at : {at : ℕ} → FieldStart s at → at ≤ length s → (r : Refusal) → r.at ≡ at → Placed s r
  stands_at f h r e = record { place = subst (FieldStart s) (sym e) f; most = omega (arith, e) }

  starts-at : {at : ℕ} → FieldStart s at → at ≤ length s → (r : Refusal) → (r.at ≡ at) × (number_of r.reason < 8) → Placed s r
  starts-at f h r e = stands_at f h r e.0

  abbrev HeadPlaced : Result Head Refusal → Type 0
  HeadPlaced (Err r) = Placed s r
  HeadPlaced (Ok h) = FieldStart s head_size

  -- the three fields before the bindings stand one behind the other
  module _ {tag start len : ℕ} where
    id-starts : checked_at Kind s at_kind_field (length s) ≡ Ok (field tag start len) → field_at s 0 (length s) ≡ Some (field tag start len) → FieldStart s at_id_field
    unfolding length_right
    id-starts e w =
        let i : InPlace Kind at_kind_field (length s) tag start len = told s refl e in
        behind {end = length s} {next = at_id_field} first (omega arith) w (omega (arith, i.starts, eqb-true len 1 i.right))

    status-starts : FieldStart s at_id_field → checked_at Id s at_id_field (length s) ≡ Ok (field tag start len) → field_at s at_id_field (length s) ≡ Some (field tag start len) → FieldStart s at_status_field
    unfolding length_right
    status-starts f e w =
        let i : InPlace Id at_id_field (length s) tag start len = told s refl e in
        behind {end = length s} {next = at_status_field} f (omega arith) w (omega (arith, i.starts, eqb-true len 4 i.right))

    bindings-start : FieldStart s at_status_field → checked_at Status s at_status_field (length s) ≡ Ok (field tag start len) → field_at s at_status_field (length s) ≡ Some (field tag start len) → FieldStart s head_size
    unfolding length_right
    bindings-start f e w =
        let i : InPlace Status at_status_field (length s) tag start len = told s refl e in
        behind {end = length s} {next = head_size} f (omega arith) w (omega (arith, i.starts, eqb-true len 2 i.right))

  head-placed : (t : Takes) → HeadPlaced (head_of t s)
  unfolding head_of id_of status_of
  head-placed t =
      place-cases HeadPlaced Kind s at_kind_field (length s) (starts-at first (omega arith)) (λ tag start len e w.
      cond_cases HeadPlaced (kind_allowed t (get_or s at_kind 0))
      (λ _.
      let i : FieldStart s at_id_field = id-starts e w in
      place-cases HeadPlaced Id s at_id_field (length s) (starts-at i (omega (arith, kind_fits s at_kind_field refl e))) (λ tag start len f v.
      let j : FieldStart s at_status_field = status-starts i f v in
      place-cases HeadPlaced Status s at_status_field (length s) (starts-at j (omega (arith, id_fits s at_id_field refl f))) (λ tag start len g u.
      cond_cases HeadPlaced (status_allowed (get_or s at_kind 0) (get_or s at_status 0) (get_or s at_index 0)) (λ _. bindings-start j g u)
      (λ _. stands_at j (omega (arith, id_fits s at_id_field refl f)) (refusal HeadWrong at_status_field) refl))))
      (λ _. stands_at first (omega arith) (refusal HeadWrong at_kind_field) refl))

  module _ (kind : ℕ) where
    abbrev StepPlaced : Result Bound Refusal → Type 0
    StepPlaced (Err r) = Placed s r
    StepPlaced (Ok b) = FieldStart s b.next

    content-placed : (end name size : ℕ) → FieldStart s (name + size) → FieldStart s end → name + size ≤ end → end ≤ length s
        → StepPlaced (content_in kind s end name size)
    unfolding content_in
    content-placed end name size f n k h =
        place-cases StepPlaced (content_role kind) s (name + size) end (starts-at f (omega arith)) (λ tag start len e w.
        cond_cases StepPlaced (leb end (start + len)) (λ _. n)
        (λ q. stands_at (behind f h w refl) (omega (arith, leb-false end (start + len) q)) (refusal LengthWrong (start + len)) refl))

    in-placed : (at end : ℕ) → FieldStart s at → FieldStart s end → at ≤ end → end ≤ length s → StepPlaced (binding_in kind s at end)
    unfolding binding_in
    in-placed at end f n k h =
        place-cases StepPlaced Name s at end (starts-at f (omega arith)) (λ tag start len e w.
        let i : InPlace Name at end tag start len = told s refl e in
        content-placed end start len (behind f h w refl) n i.within h)

    binding-placed : (at : ℕ) → FieldStart s at → at ≤ length s → StepPlaced (binding_at kind s at)
    unfolding binding_at
    binding-placed at f h =
        place-cases StepPlaced Bind s at (length s) (starts-at f h) (λ tag start len e w.
        let i : InPlace Bind at (length s) tag start len = told s refl e in
        in-placed start (start + len) (enclosed f w) (behind f (omega arith) w refl) (omega arith) i.within)

    abbrev BindingsPlaced : Bindings → Type 0
    BindingsPlaced (ended r) = Placed s r
    BindingsPlaced (all bs) = Unit {0}

    seventeenth-placed : (at : ℕ) → FieldStart s at → at ≤ length s → Placed s (seventeenth s at)
    unfolding seventeenth
    seventeenth-placed at f h = cond_cases (Placed s) (binding_tag_at s at) (λ _. stands_at f h (refusal TooManyBindings at) refl) (λ _. go (field_at s at (length s)))
      where
        go : (x : Option Field) → Placed s (not_binding at x)
        go None = stands_at f h (refusal FieldCut at) refl
        go (Some x) = stands_at f h (refusal TagNotAllowed at) refl

    more-placed : (k : Result Bound Refusal) (go : ℕ → Bindings) → StepPlaced k → ((next : ℕ) → FieldStart s next → BindingsPlaced (go next)) → BindingsPlaced (binding_then k go)
    more-placed (Err r) go w h = w
    more-placed (Ok b) go w h = prepended (go b.next) (h b.next w)
      where
        prepended : (x : Bindings) → BindingsPlaced x → BindingsPlaced (prepend b.binding x)
        prepended (ended r) v = v
        prepended (all bs) v = tt

    bindings-placed : (left at : ℕ) → FieldStart s at → BindingsPlaced (bindings_from kind s left at)
    unfolding bindings_from
    bindings-placed zero at f =
        cond_cases BindingsPlaced (leb (length s) at) (λ _. tt) (λ q. seventeenth-placed at f (omega (arith, leb-false (length s) at q)))
    bindings-placed (suc left) at f =
        cond_cases BindingsPlaced (leb (length s) at) (λ _. tt) (λ q.
        more-placed (binding_at kind s at) (bindings_from kind s left) (binding-placed at f (omega (arith, leb-false (length s) at q))) (bindings-placed left))

  abbrev ReadingPlaced : Reading → Type 0
  ReadingPlaced (refused r) = Placed s r
  ReadingPlaced (message kind id status index bs) = Unit {0}

  reading-placed : (t : Takes) → ReadingPlaced (read_message t s)
  unfolding read_message
  reading-placed t = go (head_of t s) (head-placed t)
    where
      ends : (kind id status index : ℕ) (x : Bindings) → BindingsPlaced kind x → ReadingPlaced (with_bindings kind id status index x)
      ends kind id status index (ended r) v = v
      ends kind id status index (all bs) v = tt

      go : (h : Result Head Refusal) → HeadPlaced h → ReadingPlaced (head_then h (λ kind id status index. with_bindings kind id status index (bindings_from kind s most_bindings head_size)))
      go (Err r) w = w
      go (Ok h) w = ends h.kind h.id h.status h.index (bindings_from h.kind s most_bindings head_size) (bindings-placed h.kind most_bindings head_size w)

-- the offset of a refusal
pub refused-where : RefusedWhere
refused-where t s r e = subst (ReadingPlaced s) e (reading-placed s t)

-- Refusal 8: no field's own refusal is 8, so it is the 17th binding's
module _ (s : List ℕ) (kind : ℕ) where
  abbrev BelowEight : Result Bound Refusal → Type 0
  BelowEight (Err r) = number_of r.reason < 8
  BelowEight (Ok b) = Unit {0}

  binding-below : (at : ℕ) → BelowEight (binding_at kind s at)
  unfolding binding_at binding_in content_in
  binding-below at =
      place-cases BelowEight Bind s at (length s) (λ r e. e.1) (λ tag start len e w.
      place-cases BelowEight Name s start (start + len) (λ r e. e.1) (λ tag2 start2 len2 e w.
      place-cases BelowEight (content_role kind) s (start2 + len2) (start + len) (λ r e. e.1) (λ tag3 start3 len3 e w.
      cond_cases BelowEight (leb (start + len) (start3 + len3)) (λ _. tt) (λ _. omega arith))))

  abbrev EndsEight : (left at : ℕ) → Bindings → Type 0
  EndsEight left at (ended r) = number_of r.reason ≡ 8 → BindingsTo kind s left at r.at × (binding_tag_at s r.at ≡ true)
  EndsEight left at (all bs) = Unit {0}

  seventeenth-ends : (at : ℕ) → EndsEight 0 at (ended (seventeenth s at))
  unfolding seventeenth
  seventeenth-ends at = cond_cases (λ r. EndsEight 0 at (ended r)) (binding_tag_at s at) (λ q _. (refl, q)) (λ _. go (field_at s at (length s)))
    where
      go : (x : Option Field) → EndsEight 0 at (ended (not_binding at x))
      go None = λ e. absurd (omega arith)
      go (Some x) = λ e. absurd (omega arith)

  more-ends : (left at : ℕ) → at < length s → (k : Result Bound Refusal) → binding_at kind s at ≡ k → BelowEight k
      → ((next : ℕ) → EndsEight left next (bindings_from kind s left next))
      → EndsEight (suc left) at (binding_then k (bindings_from kind s left))
  more-ends left at l (Err r) q w h = λ e. absurd (omega arith)
  more-ends left at l (Ok b) q w h = prepended (bindings_from kind s left b.next) (h b.next)
    where
      prepended : (x : Bindings) → EndsEight left b.next x → EndsEight (suc left) at (prepend b.binding x)
      prepended (ended r) v = λ e. let u = v e in ((b.binding, b.next, l, q, u.0), u.1)
      prepended (all bs) v = tt

  bindings-end : (left at : ℕ) → EndsEight left at (bindings_from kind s left at)
  unfolding bindings_from
  bindings-end zero at = cond_cases (EndsEight 0 at) (leb (length s) at) (λ _. tt) (λ _. seventeenth-ends at)
  bindings-end (suc left) at =
      cond_cases (EndsEight (suc left) at) (leb (length s) at) (λ _. tt) (λ q.
      more-ends left at (leb-false (length s) at q) (binding_at kind s at) refl (binding-below at) (bindings-end left))

  -- and a 17th binding is refused
  tag-inside : (at : ℕ) → binding_tag_at s at ≡ true → at < length s
  unfolding binding_tag_at
  tag-inside at e = omega (arith, leb-true (at + 3) (length s) (both (leb (at + 3) (length s)) (eqb (get_or s at 0) 0x10) e).0)

  pub eight-ends : (n at next : ℕ) → BindingsTo kind s n at next → binding_tag_at s next ≡ true → bindings_from kind s n at ≡ ended (refusal TooManyBindings next)
  unfolding bindings_from seventeenth
  eight-ends zero at next e f = rw (e, lt-leb (length s) next (tag-inside next f), f)
  eight-ends (suc n) at next (b, mid, l, q, w) f =
      rw (lt-leb (length s) at l, q, eight-ends n mid next w f)

module _ (t : Takes) (s : List ℕ) where
  abbrev HeadBelow : Result Head Refusal → Type 0
  HeadBelow (Err r) = number_of r.reason < 8
  HeadBelow (Ok h) = Unit {0}

  head-below : HeadBelow (head_of t s)
  unfolding head_of id_of status_of
  head-below =
      place-cases HeadBelow Kind s at_kind_field (length s) (λ r e. e.1) (λ tag start len e w.
      cond_cases HeadBelow (kind_allowed t (get_or s at_kind 0))
      (λ _.
      place-cases HeadBelow Id s at_id_field (length s) (λ r e. e.1) (λ tag start len e w.
      place-cases HeadBelow Status s at_status_field (length s) (λ r e. e.1) (λ tag start len e w.
      cond_cases HeadBelow (status_allowed (get_or s at_kind 0) (get_or s at_status 0) (get_or s at_index 0)) (λ _. tt) (λ _. omega arith))))
      (λ _. omega arith))

  abbrev ReadingEight : Reading → Type 0
  ReadingEight (refused r) = number_of r.reason ≡ 8 → Seventeenth t s r.at
  ReadingEight (message kind id status index bs) = Unit {0}

  reading-eight : ReadingEight (read_message t s)
  unfolding read_message
  reading-eight = go (head_of t s) refl head-below
    where
      ends : (kind id status index : ℕ) → head_of t s ≡ Ok (head kind id status index) → (x : Bindings) → EndsEight s kind most_bindings head_size x
          → ReadingEight (with_bindings kind id status index x)
      ends kind id status index q (ended r) v =
          λ e. record { kind = kind; id = id; status = status; index = index; head = q; sixteen = (v e).0; fits = (v e).1 }
      ends kind id status index q (all bs) v = tt

      go : (h : Result Head Refusal) → head_of t s ≡ h → HeadBelow h
          → ReadingEight (head_then h (λ kind id status index. with_bindings kind id status index (bindings_from kind s most_bindings head_size)))
      go (Err r) q w = λ e. absurd (omega arith)
      go (Ok h) q w = ends h.kind h.id h.status h.index q (bindings_from h.kind s most_bindings head_size) (bindings-end s h.kind most_bindings head_size)

  eight-read : (at : ℕ) → Seventeenth t s at → read_message t s ≡ refused (refusal TooManyBindings at)
  unfolding read_message
  eight-read at w = rw (w.head, eight-ends s w.kind most_bindings head_size at w.sixteen w.fits)

pub eight-exactly : EightExactly
eight-exactly t s at = (λ e. subst (ReadingEight t s) e (reading-eight t s) refl, eight-read t s at)
