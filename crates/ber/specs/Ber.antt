-- BER as community-based messages use it (RFC 1901, RFC 3416, X.690): a field is a tag octet, a length of a definite form, and contents. Assumes nothing.
use Rattle.std.specs.Prelude.{ℕ, ◌+◌, ◌*◌, ◌-◌, ◌/◌, ◌^◌, Bool, true, false, cond, not, ◌&&◌, ◌||◌, List, [], ◌∷◌, ◌++◌, length, get_or, drop, replicate, leb, ltb, eqb, Option, Some, None, ok_or, Result, Ok, Err, ⊤}
use Rattle.octets.specs.Numbers.{be_at}
use Rattle.octets.specs.Parts.{part}
use Rattle.message.specs.declared.form.Field.{Field}
use Rattle.message.specs.Form.{field}
use Rattle.message.specs.declared.refusals.Reason.{Reason}
use Rattle.message.specs.declared.refusals.Reason.TheVariants.{DatagramBroken, NoCounterpart}
use Rattle.ber.specs.declared.Part.{Part}

-- a reading goes on from what was read; the first refusal ends it
infixl 10 ◌>>=◌
abbrev pub ◌>>=◌ : {A B : Type 0} → Result A Reason → (A → Result B Reason) → Result B Reason
Ok x >>= go = go x
Err r >>= go = Err r

-- ## Fields

-- "any definite length form": 0 to 127 in the first octet, or there 128 and the number of octets that follow, 1 to 126
abbrev pub long_form : ℕ → Bool
long_form x = ltb 128 x && ltb x 255

-- how many octets the length at an offset has; none where it is cut by the enclosure's end, or of no definite form
unfoldable pub length_octets : List ℕ → (at end : ℕ) → Option ℕ
length_octets s at end =
    cond (ltb at end)
    (cond (ltb (get_or s at 0) 128) (Some 1) (cond (long_form (get_or s at 0) && leb (at + (get_or s at 0 - 127)) end) (Some (get_or s at 0 - 127)) None))
    None

-- the length that n octets say: leading zeros are allowed, and it may be as long as it likes
unfoldable pub length_said : List ℕ → (at n : ℕ) → ℕ
length_said s at n = cond (eqb n 1) (get_or s at 0) (be_at s (at + 1) (n - 1))

-- a number that is at most `most`
abbrev pub at_most : (most n : ℕ) → Option ℕ
at_most most n = cond (leb n most) (Some n) None

abbrev pub whole_if : (tag start len end : ℕ) → Option Field
whole_if tag start len end = cond (leb (start + len) end) (Some (field tag start len)) None

-- the field whose length has n octets
abbrev pub field_with : List ℕ → (at end : ℕ) → Option ℕ → Option Field
field_with s at end None = None
field_with s at end (Some n) = whole_if (get_or s at 0) (at + 1 + n) (length_said s (at + 1) n) end

-- the field at an offset of an enclosure that ends at `end`; none where it is cut
unfoldable pub field_at : List ℕ → (at end : ℕ) → Option Field
field_at s at end = field_with s at end (length_octets s (at + 1) end)

-- a field that is cut is refused, "16 broken BER"
abbrev pub whole_field : List ℕ → (at end : ℕ) → Result Field Reason
whole_field s at end = ok_or (field_at s at end) DatagramBroken

-- "per field its length, its tag": a field of one tag, "16 .. a wrong tag other than a PDU's (18) or a content's (19)"
unfoldable pub part_at : (tag : ℕ) → List ℕ → (at end : ℕ) → Result Part Reason
part_at tag s at end = do
  f ← whole_field s at end
  cond (eqb f.tag tag) (Ok (record { start = f.start; len = f.len })) (Err DatagramBroken)

-- ## Numbers: two's complement, most significant octet first

-- "numbers in the fewest octets as BER demands": one octet at least, and of more the first nine bits are not all equal
unfoldable pub fewest : List ℕ → Bool
fewest [] = false
fewest (x ∷ []) = true
fewest (x ∷ y ∷ ys) = not (eqb x 0 && ltb y 128) && not (eqb x 255 && leb 128 y)

-- a number of up to five octets in five: those that are missing repeat the sign
abbrev pub sign : List ℕ → ℕ
sign xs = cond (leb 128 (get_or xs 0 0)) 255 0

unfoldable pub five : List ℕ → List ℕ
five xs = replicate (5 - length xs) (sign xs) ++ xs

-- the last four of these: two's complement of a number from - 2 ^ 31 to 2 ^ 31 - 1, or a number from 0 to 2 ^ 32 - 1
abbrev pub four : List ℕ → List ℕ
four xs = drop 1 (five xs)

-- in the fewest octets, a number from - 2 ^ 31 to 2 ^ 31 - 1 has at most four
unfoldable pub integer32 : List ℕ → Bool
integer32 xs = leb (length xs) 4

-- one from 0 on that so many octets hold without a sign, four at most, has at most one octet more, and in five the octet before them is 0
abbrev pub unsigned : (octets : ℕ) → List ℕ → Bool
unsigned octets xs = leb (length xs) (octets + 1) && eqb (get_or (five xs) (4 - octets) 0) 0

-- one from 0 to 2 ^ 32 - 1
unfoldable pub unsigned32 : List ℕ → Bool
unsigned32 xs = unsigned 4 xs

-- one from 0 to 255
unfoldable pub unsigned8 : List ℕ → Bool
unsigned8 xs = unsigned 1 xs

-- the number n, from 0 to 127, in the fewest octets
unfoldable pub is_number : ℕ → List ℕ → Bool
is_number n xs = eqb (length xs) 1 && eqb (get_or xs 0 0) n

-- the field of a number
unfoldable pub number_at : List ℕ → (at end : ℕ) → Result Part Reason
number_at s at end = do
  p ← part_at 0x02 s at end
  cond (fewest (part s p.start p.len)) (Ok p) (Err DatagramBroken)

-- ## Names: numbers to the base 128, an octet from 128 on has another after it

-- whether each number ends, and has the fewest octets, so that it does not start with 128; `fresh` says that a number starts here
unfoldable pub ends_from : Bool → List ℕ → Bool
ends_from fresh [] = fresh
ends_from fresh (x ∷ xs) = not (fresh && eqb x 128) && ends_from (ltb x 128) xs

-- a name has one number at least
unfoldable pub name_whole : List ℕ → Bool
name_whole xs = ltb 0 (length xs) && ends_from true xs

-- the numbers; acc is what the octets before make of the first
unfoldable pub numbers_from : ℕ → List ℕ → List ℕ
numbers_from acc [] = []
numbers_from acc (x ∷ xs) = cond (ltb x 128) ((acc * 128 + x) ∷ numbers_from 0 xs) (numbers_from (acc * 128 + (x - 128)) xs)

-- "Names need a first sub-id of 0 to 2, the second below 40 unless the first is 2": the first number is 40 times the first sub-id, and the second
abbrev pub first_of : ℕ → ℕ
first_of n = cond (ltb n 80) (n / 40) 2

-- the sub-ids that a number makes: the first one of a name makes two
abbrev pub made : (first : Bool) → ℕ → List ℕ
made true n = first_of n ∷ (n - 40 * first_of n) ∷ []
made false n = n ∷ []

abbrev pub first_two : List ℕ → List ℕ
first_two [] = []
first_two (n ∷ ns) = made true n ++ ns

unfoldable pub sub_ids : List ℕ → List ℕ
sub_ids xs = first_two (numbers_from 0 xs)

-- "19 .. name with no counterpart": our names have 2 to 128 sub-ids below 2 ^ 32
unfoldable pub all_below : ℕ → List ℕ → Bool
all_below k [] = true
all_below k (x ∷ xs) = ltb x k && all_below k xs

-- the least number that makes a sub-id of 2 ^ 32 or more
abbrev pub limit_of : (first : Bool) → ℕ
limit_of true = 0x100000050
limit_of false = 0x100000000

-- how many sub-ids there are, where all are below 2 ^ 32
abbrev pub sub_id_count : List ℕ → Option ℕ
sub_id_count xs = cond (all_below (2 ^ 32) (sub_ids xs)) (Some (length (sub_ids xs))) None

unfoldable pub name_fits : List ℕ → Bool
name_fits xs = all_below (2 ^ 32) (sub_ids xs) && leb (length (sub_ids xs)) 128

-- ## Contents

-- our tag of a content's tag, if there is one: null, INTEGER, OCTET STRING, Gauge32 or Unsigned32, Counter32, noSuchObject, noSuchInstance, endOfMibView
unfoldable pub content_tag : ℕ → Option ℕ
content_tag tag =
    cond (eqb tag 0x05) (Some 0x20)
    (cond (eqb tag 0x02) (Some 0x21)
    (cond (eqb tag 0x04) (Some 0x22)
    (cond (eqb tag 0x42) (Some 0x23)
    (cond (eqb tag 0x41) (Some 0x24)
    (cond (eqb tag 0x80) (Some 0x30) (cond (eqb tag 0x81) (Some 0x31) (cond (eqb tag 0x82) (Some 0x32) None)))))))

-- whether a content by our tag is refused: "other 16" before 19
abbrev pub number_judged : (short fits : Bool) → Result ⊤ Reason
number_judged short fits = cond short (cond fits (Ok tt) (Err NoCounterpart)) (Err DatagramBroken)

unfoldable pub content_judged : (tag : ℕ) → List ℕ → Result ⊤ Reason
content_judged tag xs =
    cond (eqb tag 0x22) (cond (leb (length xs) 255) (Ok tt) (Err NoCounterpart))
    (cond (eqb tag 0x21) (number_judged (fewest xs) (integer32 xs))
    (cond (eqb tag 0x23 || eqb tag 0x24) (number_judged (fewest xs) (unsigned32 xs)) (cond (eqb (length xs) 0) (Ok tt) (Err DatagramBroken))))

-- the octets of a content in our message form
unfoldable pub content_octets : (tag : ℕ) → List ℕ → List ℕ
content_octets tag xs = cond (eqb tag 0x22) xs (cond (eqb (length xs) 0) [] (four xs))
