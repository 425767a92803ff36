-- Where buffers and their words lie, and what entries name.
use Rattle.std.proofs.Common.{◌≡◌, ℕ, zero, suc, ◌+◌, ◌-◌, ◌*◌, ◌/◌, ◌%◌, ◌^◌, ◌<◌, ◌≤◌, ◌==◌, Bool, if◌then◌else◌, Some}
use Rattle.std.proofs.{Common.{length, refl, sym, ap, subst, ◌∙◌, inl, inr, add-one, arith}, Math.Nat.{mul_comm, mul-le-mul}}
use Rattle.std.proofs.lemmas.{Nat.{div-mul-add, mod-mul-add, mul-add-lt, row_fits}, Bool.{cases_lt, lt-ltb, le-ltb, cond_both}, List.{get_or_past}}
use Rattle.std.proofs.lemmas.List.Sums.{sum_by_more, sum_by-take-le}
use Rattle.zr_kinds.specs.declared.place.Place.{Place}
use Rattle.area_layout.specs.{declared.layout.Area.{Area}, Layout.{Shape, IsLayout, IsBufferSize, LiesIn, no_area, area_at, pool_buffers, all_buffers}}
use Rattle.area_layout.specs.Layout.{areas_before, area_of_buffer, size_of, buffers_before, number_in_area, begin_of}
use Rattle.area_layout.specs.{Layout.{begin_in_area, off_of, area_of, place_in, end_of_area, buffer_in, judged}, Laws.{HasBuffersInOrder, HasWordsApart}}
use Rattle.area_layout.proofs.Powers.{eights}
use Rattle.area_layout.proofs.Areas.{IsFound, found, size_among, bytes_upto, among-found, among-behind, upto-none, upto-next, upto-all, least-le, least-fits}

pub whole_words : (size : ℕ) → IsBufferSize size → 8 * (size / 8) ≡ size
whole_words size h = let least = h.least in eights h.power.0 size h.power.1 (omega arith)

-- ---- a buffer's area

-- a pool buffer lies in the area that was found
pub area-pool : (shape : Shape) (buffer : ℕ) → buffer < pool_buffers shape → area_of_buffer shape buffer ≡ areas_before shape.areas buffer
area-pool shape buffer lt = ap (λ (less : Bool). if less then areas_before shape.areas buffer else 0) (lt-ltb buffer (pool_buffers shape) lt)

pub area-reserve : (shape : Shape) (buffer : ℕ) → pool_buffers shape ≤ buffer → area_of_buffer shape buffer ≡ 0
area-reserve shape buffer ge = ap (λ (less : Bool). if less then areas_before shape.areas buffer else 0) (le-ltb buffer (pool_buffers shape) ge)

pub found-in : (shape : Shape) (buffer : ℕ) → buffer < pool_buffers shape → IsFound shape.areas buffer (area_of_buffer shape buffer)
found-in shape buffer lt = let P : ℕ → Type 0 = IsFound shape.areas buffer in subst P (sym (area-pool shape buffer lt)) (found shape.areas buffer lt)

-- the area of a buffer is there
pub some-in : (shape : Shape) (buffer : ℕ) → IsLayout shape → 1 ≤ (area_at shape (area_of_buffer shape buffer)).buffers
some-in shape buffer l =
    elim (cases_lt buffer (pool_buffers shape)) [
      | inl lt ↦ let here = found-in shape buffer lt in let from = here.from in let until = here.until in omega arith
      | inr ge ↦ rw (area-reserve shape buffer ge) l.first
    ]

pub size-fits : (shape : Shape) (buffer : ℕ) → IsLayout shape → IsBufferSize (size_of shape buffer)
size-fits shape buffer l = l.sizes (area_of_buffer shape buffer) (some-in shape buffer l)

-- ---- bytes before a buffer

abbrev pub first_size : Shape → ℕ
first_size shape = (area_at shape 0).size

pub size-among : (shape : Shape) (buffer : ℕ) → size_of shape buffer ≡ size_among (first_size shape) shape.areas buffer
size-among shape buffer =
    elim (cases_lt buffer (pool_buffers shape)) [
      | inl lt ↦ ap (λ (n : ℕ). (area_at shape n).size) (area-pool shape buffer lt) ∙ sym (among-found (first_size shape) shape.areas buffer lt)
      | inr ge ↦ ap (λ (n : ℕ). (area_at shape n).size) (area-reserve shape buffer ge) ∙ sym (among-behind (first_size shape) shape.areas buffer ge)
    ]

pub begin-upto : (shape : Shape) (buffer : ℕ) → begin_of shape buffer ≡ bytes_upto (first_size shape) shape.areas buffer
begin-upto shape zero = sym (upto-none (first_size shape) shape.areas)
begin-upto shape (suc buffer) =
    let before = begin-upto shape buffer in
    let size = size-among shape buffer in
    let next = upto-next (first_size shape) shape.areas buffer in
    omega arith

-- all bytes, reserves included
pub few_bytes : (shape : Shape) → IsLayout shape → begin_of shape (all_buffers shape) ≤ 67633152
few_bytes shape l =
    let upto = begin-upto shape (all_buffers shape) in
    let all = upto-all (first_size shape) shape.areas shape.reserves in
    let bytes = l.bytes in
    let more = mul-le-mul l.reserves.1 (l.sizes 0 l.first).most in
    omega arith

pub next-begin : (shape : Shape) (b : ℕ) → begin_of shape (b + 1) ≡ begin_of shape b + size_of shape b
next-begin shape b = rw (add-one b) refl

pub begins-apart : (shape : Shape) (a b : ℕ) → a < b → begin_of shape a + size_of shape a ≤ begin_of shape b
begins-apart shape a zero lt = absurd (omega arith)
begins-apart shape a (suc b) lt =
    elim (cases_lt a b) [
      | inl less ↦ let before = begins-apart shape a b less in omega arith
      | inr ge ↦ let e : a ≡ b = omega arith in rw e (omega arith)
    ]

begins-whole : (shape : Shape) (b : ℕ) → IsLayout shape → begin_of shape b % 8 ≡ 0
begins-whole shape zero l = refl
begins-whole shape (suc b) l =
    let before = begins-whole shape b l in
    let whole = whole_words (size_of shape b) (size-fits shape b l) in
    omega arith

pub in_order : (shape : Shape) → IsLayout shape → HasBuffersInOrder shape
in_order shape l = record {
  first = refl;
  next = next-begin shape;
  apart = begins-apart shape;
  whole = λ b. begins-whole shape b l;
  least = λ b. least-le (first_size shape) shape.areas (area_of_buffer shape b) (some-in shape b l);
  some = least-fits (first_size shape) shape.areas (l.sizes 0 l.first) l.sizes;
}

-- ---- words

words-before : (shape : Shape) (a b : ℕ) → IsLayout shape → a < b → begin_of shape a / 8 + size_of shape a / 8 ≤ begin_of shape b / 8
words-before shape a b l lt =
    let apart = begins-apart shape a b lt in
    let whole = begins-whole shape a l in
    let words = whole_words (size_of shape a) (size-fits shape a l) in
    omega arith

words-next : (shape : Shape) (b : ℕ) → IsLayout shape → begin_of shape (b + 1) / 8 ≡ begin_of shape b / 8 + size_of shape b / 8
words-next shape b l =
    let next = next-begin shape b in
    let whole = begins-whole shape b l in
    let words = whole_words (size_of shape b) (size-fits shape b l) in
    omega arith

pub words_apart : (shape : Shape) → IsLayout shape → HasWordsApart shape
words_apart shape l = record {
  apart = λ a b lt within. words-before shape a b l lt;
  inside = λ b within. words-before shape b (all_buffers shape) l within;
  next = λ b within. words-next shape b l;
  size = λ b. size-fits shape b l;
  whole = λ b. whole_words (size_of shape b) (size-fits shape b l);
  few = let few = few_bytes shape l in omega arith;
}

-- ---- a buffer's number in its area

number-pool : (shape : Shape) (buffer : ℕ) → buffer < pool_buffers shape
    → number_in_area shape buffer ≡ buffer - buffers_before shape (area_of_buffer shape buffer)
number-pool shape buffer lt =
    ap (λ (less : Bool). if less then buffer - buffers_before shape (area_of_buffer shape buffer) else (area_at shape 0).buffers + (buffer - pool_buffers shape))
    (lt-ltb buffer (pool_buffers shape) lt)

number-reserve : (shape : Shape) (buffer : ℕ) → pool_buffers shape ≤ buffer
    → number_in_area shape buffer ≡ (area_at shape 0).buffers + (buffer - pool_buffers shape)
number-reserve shape buffer ge =
    ap (λ (less : Bool). if less then buffer - buffers_before shape (area_of_buffer shape buffer) else (area_at shape 0).buffers + (buffer - pool_buffers shape))
    (le-ltb buffer (pool_buffers shape) ge)

in-pool : (shape : Shape) (n number : ℕ) → number < (area_at shape n).buffers → buffer_in shape n number ≡ buffers_before shape n + number
in-pool shape n number lt =
    ap (λ (less : Bool). if less then buffers_before shape n + number else pool_buffers shape + (number - (area_at shape n).buffers))
    (lt-ltb number (area_at shape n).buffers lt)

in-reserve : (shape : Shape) (n number : ℕ) → (area_at shape n).buffers ≤ number
    → buffer_in shape n number ≡ pool_buffers shape + (number - (area_at shape n).buffers)
in-reserve shape n number ge =
    ap (λ (less : Bool). if less then buffers_before shape n + number else pool_buffers shape + (number - (area_at shape n).buffers))
    (le-ltb number (area_at shape n).buffers ge)

-- how many buffers lie in an area, reserves included
abbrev lying : Shape → ℕ → ℕ
lying shape n = (area_at shape n).buffers + (if n == 0 then shape.reserves else 0)

pub record IsNumbered (shape : Shape) (buffer n number : ℕ) : Type 0 where
  pub within : number < lying shape n
  pub back : buffer_in shape n number ≡ buffer

numbered : (shape : Shape) (buffer : ℕ) → buffer < all_buffers shape
    → IsNumbered shape buffer (area_of_buffer shape buffer) (number_in_area shape buffer)
numbered shape buffer there =
    elim (cases_lt buffer (pool_buffers shape)) [
      | inl lt ↦
          let here = found-in shape buffer lt in
          let from = here.from in
          let until = here.until in
          let number = number-pool shape buffer lt in
          let inside : number_in_area shape buffer < (area_at shape (area_of_buffer shape buffer)).buffers = omega arith in
          let back = in-pool shape (area_of_buffer shape buffer) (number_in_area shape buffer) inside in
          record { within = omega arith; back = omega arith }
      | inr ge ↦
          let number = number-reserve shape buffer ge in
          let back = in-reserve shape 0 (number_in_area shape buffer) (omega arith) in
          let P : ℕ → Type 0 = λ n. IsNumbered shape buffer n (number_in_area shape buffer) in
          subst P (sym (area-reserve shape buffer ge)) (record { within = omega arith; back = omega arith })
    ]

pub get_or-le-buffers : (shape : Shape) (n : ℕ) → buffers_before shape n + (area_at shape n).buffers ≤ pool_buffers shape
get_or-le-buffers shape n =
    elim (cases_lt n (length shape.areas)) [
      | inl lt ↦
          let more = sum_by_more (λ (a : Area). a.buffers) shape.areas n no_area lt in
          let all = sum_by-take-le (λ (a : Area). a.buffers) shape.areas (n + 1) in
          omega arith
      | inr ge ↦
          let none = ap (λ (a : Area). a.buffers) (get_or_past shape.areas n no_area ge) in
          let all = sum_by-take-le (λ (a : Area). a.buffers) shape.areas n in
          omega arith
    ]

reserves-in : (shape : Shape) (n : ℕ) → (if n == 0 then shape.reserves else 0) ≤ shape.reserves
reserves-in shape n = cond_both (n == 0) shape.reserves 0 (λ x. x ≤ shape.reserves) (λ _. omega arith) (λ _. omega arith)

-- an area has few bytes
pub few-in-area : (shape : Shape) (n : ℕ) → IsLayout shape → end_of_area shape n ≤ 268959744
few-in-area shape n l =
    elim (cases_lt (area_at shape n).buffers 1) [
      | inl none ↦ let gone = ap (λ (a : Area). a.size) (l.missing n (omega arith)).0 in rw gone (omega arith)
      | inr some ↦
          let most = (l.sizes n some).most in
          let many = get_or-le-buffers shape n in
          let few = l.buffers in
          let reserves = reserves-in shape n in
          let kept = l.reserves.1 in
          let all : lying shape n ≤ 4104 = omega arith in
          let bytes = mul-le-mul all most in
          omega arith
    ]

-- a number in an area is that of a buffer
pub buffer-there : (shape : Shape) (n number : ℕ) → IsLayout shape → number < lying shape n → buffer_in shape n number < all_buffers shape
buffer-there shape n number l within =
    elim (cases_lt number (area_at shape n).buffers) [
      | inl lt ↦
          let e = in-pool shape n number lt in
          let all = get_or-le-buffers shape n in
          let kept = l.reserves.0 in
          omega arith
      | inr ge ↦
          let e = in-reserve shape n number ge in
          let reserves = reserves-in shape n in
          omega arith
    ]

-- ---- entries

-- a place lies among the bytes of its area
pub place-within : (shape : Shape) (place : Place) → IsLayout shape → LiesIn shape place
    → begin_in_area shape place.buffer + place.offset ≤ 268959744
place-within shape place l lies =
    let n = area_of_buffer shape place.buffer in
    let number = (numbered shape place.buffer lies.buffer).within in
    let row = row_fits (number_in_area shape place.buffer) (size_of shape place.buffer) (lying shape n) (size_of shape place.buffer) number (omega arith) in
    let few = few-in-area shape n l in
    let inside = lies.bytes in
    omega arith

-- by the order of numbers it lies among all bytes
pub byte-within : (shape : Shape) (place : Place) → IsLayout shape → LiesIn shape place → begin_of shape place.buffer + place.offset ≤ 67633152
byte-within shape place l lies =
    let apart = begins-apart shape place.buffer (all_buffers shape) lies.buffer in
    let few = few_bytes shape l in
    let inside = lies.bytes in
    omega arith

pub begin-few : (shape : Shape) (buffer : ℕ) → IsLayout shape → buffer ≤ all_buffers shape → begin_of shape buffer ≤ 67633152
begin-few shape buffer l within =
    let few = few_bytes shape l in
    elim (cases_lt buffer (all_buffers shape)) [
      | inl lt ↦ let apart = begins-apart shape buffer (all_buffers shape) lt in omega arith
      | inr ge ↦ let e : buffer ≡ all_buffers shape = omega arith in rw e few
    ]

place-small : (shape : Shape) (place : Place) → IsLayout shape → LiesIn shape place → place.offset < size_of shape place.buffer
    → begin_in_area shape place.buffer + place.offset < end_of_area shape (area_of_buffer shape place.buffer)
place-small shape place l lies inside =
    let n = area_of_buffer shape place.buffer in
    let number = numbered shape place.buffer lies.buffer in
    let row = mul-add-lt (number_in_area shape place.buffer) (size_of shape place.buffer) place.offset (lying shape n) number.within inside in
    let turned = mul_comm (size_of shape place.buffer) (lying shape n) in
    omega arith

judged_at : (shape : Shape) (off len n place : ℕ) → area_of off ≡ n → place_in off ≡ place → place < end_of_area shape n
    → judged shape (record { off = off; len = len; pad = 0 }) ≡ Some (buffer_in shape n (place / (area_at shape n).size))
judged_at shape off len n place area in_area within = rw (area, in_area, lt-ltb place (end_of_area shape n) within) refl

pub place_judged : (shape : Shape) (place : Place) (len : ℕ) → IsLayout shape → LiesIn shape place → place.offset < size_of shape place.buffer
    → judged shape (record { off = off_of shape place; len = len; pad = 0 }) ≡ Some place.buffer
place_judged shape place len l lies inside =
    let n = area_of_buffer shape place.buffer in
    let at = begin_in_area shape place.buffer + place.offset in
    let within = place-small shape place l lies inside in
    let few = few-in-area shape n l in
    let number = numbered shape place.buffer lies.buffer in
    let named = div-mul-add (number_in_area shape place.buffer) (size_of shape place.buffer) place.offset inside in
    judged_at shape (off_of shape place) len n at (div-mul-add n (2 ^ 48) at (omega arith)) (mod-mul-add n (2 ^ 48) at (omega arith)) within
    ∙ ap (λ (k : ℕ). Some (buffer_in shape n k)) named ∙ ap (λ (b : ℕ). Some b) number.back

-- ---- of a layout by its fields

pub layout-now : (shape now : Shape) → shape ≡ now → IsLayout shape → IsLayout now
layout-now shape now view l = let P : Shape → Type 0 = IsLayout in subst P view l

pub upto-now : (shape now : Shape) (buffer : ℕ) → shape ≡ now → begin_of now buffer ≡ bytes_upto (first_size shape) shape.areas buffer
upto-now shape now buffer view = ap (λ (s : Shape). begin_of s buffer) (sym view) ∙ begin-upto shape buffer

-- what was counted so far and what is left are few bytes together
pub part-few : (shape now : Shape) (buffer bytes rest : ℕ) → shape ≡ now → IsLayout shape → buffer ≤ all_buffers now
    → bytes_upto (first_size shape) shape.areas buffer ≡ bytes + rest → bytes + rest ≤ 67633152
part-few shape now buffer bytes rest view l within parts =
    let few = begin-few now buffer (layout-now shape now view l) within in
    let upto = upto-now shape now buffer view in
    omega arith
