-- A seat's lines, written or read one after another: the next one is at the head, and behind those to come stand those that are done.
use Rattle.std.proofs.Common.{◌≡◌, ℕ, ◌+◌, ◌-◌, ◌*◌, ◌/◌, ◌<◌, ◌≤◌, List, [], ◌∷◌, ◌++◌, length, map, take, drop, min, get_or, refl, ap, sym, ◌∙◌, subst, arith, length-append}
use Rattle.std.proofs.{Math.Seq.{take-add, take-append-add, drop-append-add}, lemmas.Grind.{flat_map-append}}
use Rattle.std.proofs.lemmas.{List.{append_assoc, append-nil, take_all, take_at, take-append-le, drop-append-le, drop-drop, length-drop, length-take-le}, Slice.{take-put_mid}}
use Rattle.std.proofs.lemmas.List.Elements.{All-head, All-tail, All-nil, All-append, All-cons}
use borrow.Rule.Slice.PartMut.{put_mid}
use Rattle.ref_words.{specs.{Lines.{joined, AreWide, HaveText}, declared.view.View.{View}}, proofs.Laying.{joined-length}}
use Rattle.atomic_table.specs.Table.{Me, rest}
use Rattle.word_board.{specs.Lines.{numbered, held, HasLines}, proofs.Acts.{held-numbered}}

abbrev IsWide : List ℕ → Type 0
IsWide line = length line ≡ 64

-- ---- lines with numbers

numbers : (x y : ℕ) (lines : List (List ℕ)) → x ≡ y → numbered x lines ≡ numbered y lines
numbers x y lines e = ap (λ n. numbered n lines) e

pub numbered-push : (first : ℕ) (lines : List (List ℕ)) (line : List ℕ) → numbered first (lines ++ line ∷ []) ≡ numbered first lines ++ (first + length lines, line) ∷ []
numbered-push first [] line = ap (λ n. (n, line) ∷ []) (let e : first ≡ first + 0 = omega arith in e)
numbered-push first (x ∷ lines) line =
    ap (λ slots. (first, x) ∷ slots) (numbered-push (first + 1) lines line
    ∙ ap (λ n. numbered (first + 1) lines ++ (n, line) ∷ []) (let e : first + 1 + length lines ≡ first + length (x ∷ lines) = omega arith in e))

-- the head, by any number that is its own
head-of : (first n : ℕ) (ahead : List (List ℕ)) (behind slots : List (ℕ × List ℕ)) → slots ≡ numbered first ahead ++ behind → 0 < length ahead → n ≡ first
    → (line : List ℕ) × (slots ≡ (n, line) ∷ rest slots)
head-of first n [] behind slots is some e = absurd (omega (arith, some))
head-of first n (x ∷ ahead) behind slots is some e =
    (x, subst (λ s. s ≡ (n, x) ∷ rest s) (sym is) (ap (λ m. (m, x) ∷ numbered (first + 1) ahead ++ behind) (sym e)))

-- the head goes behind the others, and may have become another
turned-on : (first n : ℕ) (x line : List ℕ) (ahead behind : List (List ℕ)) (slots slots' : List (ℕ × List ℕ))
    → slots ≡ numbered (first + length behind) (x ∷ ahead) ++ numbered first behind → slots' ≡ rest slots ++ (n, line) ∷ [] → n ≡ first + length behind
    → slots' ≡ numbered (first + length (behind ++ line ∷ [])) ahead ++ numbered first (behind ++ line ∷ [])
turned-on first n x line ahead behind slots slots' was is e =
    is ∙ (ap (λ s. rest s ++ (n, line) ∷ []) was
    ∙ (append_assoc (numbered (first + length behind + 1) ahead) (numbered first behind) ((n, line) ∷ [])
    ∙ (ap (λ m. numbered (first + length behind + 1) ahead ++ (numbered first behind ++ (m, line) ∷ [])) e
    ∙ (ap (λ s. numbered (first + length behind + 1) ahead ++ s) (sym (numbered-push first behind line))
    ∙ ap (λ m. numbered m ahead ++ numbered first (behind ++ line ∷ [])) (omega (arith, length-append behind (line ∷ [])))))))

joined-push : (lines : List (List ℕ)) (line : List ℕ) → joined (lines ++ line ∷ []) ≡ joined lines ++ line
joined-push lines line = flat_map-append (λ (l : List ℕ). l) lines (line ∷ []) ∙ ap (λ l. joined lines ++ l) (append-nil line)

parted : (xs ys : List (List ℕ)) → AreWide (xs ++ ys) → AreWide xs × AreWide ys
parted [] ys all = (All-nil IsWide, all)
parted (x ∷ xs) ys all =
    let tail = parted xs ys (All-tail IsWide x (xs ++ ys) all) in (All-cons IsWide x xs (All-head IsWide x (xs ++ ys) all) tail.0, tail.1)

-- ---- writing

-- The first lines have the text as far as it was written, and the others are to come.
pub record HasWritten (first count : ℕ) (bytes : List ℕ) (view : View) (done : ℕ) (me : Me (List ℕ) View) : Type 0 where
  pub behind : List (List ℕ)
  pub ahead : List (List ℕ)
  pub view_is : me.0 ≡ view
  pub slots : me.1 ≡ numbered (first + length behind) ahead ++ numbered first behind
  pub many : length behind + length ahead ≡ count
  pub wide : AreWide behind
  pub others : AreWide ahead
  pub upto : done ≡ min (64 * length behind) (length bytes)
  pub text : take done (joined behind) ≡ take done bytes

module _ (first count : ℕ) (bytes : List ℕ) (all : count ≡ (length bytes + 63) / 64) where
  pub unwritten : (me : Me (List ℕ) View) → HasLines first count me → HasWritten first count bytes me.0 0 me
  unwritten me has = record {
    behind = [];
    ahead = held me;
    view_is = refl;
    slots = has.slots ∙ (numbers first (first + 0) (held me) (omega arith) ∙ sym (append-nil (numbered (first + 0) (held me))));
    many = omega (arith, has.many);
    wide = All-nil IsWide;
    others = has.wide;
    upto = let e : 0 ≡ min (64 * 0) (length bytes) = omega arith in e;
    text = refl;
  }

  pub next-to-write : (view : View) (done : ℕ) (me : Me (List ℕ) View) → HasWritten first count bytes view done me → done < length bytes
      → (line : List ℕ) × (me.1 ≡ (first + done / 64, line) ∷ rest me.1)
  next-to-write view done me was less =
      head-of (first + length was.behind) (first + done / 64) was.ahead (numbered first was.behind) me.1 was.slots
      (omega (arith, was.upto, was.many, all, less)) (omega (arith, was.upto, less))

  pub written-on : (view : View) (done more : ℕ) (me me' : Me (List ℕ) View) (old part line : List ℕ) → HasWritten first count bytes view done me → done < length bytes
      → more ≡ min (length bytes - done) 64 → part ≡ take more (drop done bytes) → line ≡ part ++ drop (length part) old
      → me.1 ≡ (first + done / 64, old) ∷ rest me.1 → me' ≡ (me.0, rest me.1 ++ (first + done / 64, line) ∷ [])
      → HasWritten first count bytes view (done + more) me'
  written-on view done more me me' old part line was less most is_part is_line there then = go was.ahead was.slots was.many was.others
    where
      behind : List (List ℕ)
      behind = was.behind

      size : length part ≡ more
      size = ap length is_part ∙ length-take-le more (drop done bytes) (omega (arith, length-drop done bytes, most, less))

      at : done ≡ length (joined behind)
      at = omega (arith, joined-length 64 behind was.wide, was.upto, less)

      text : take (done + more) (joined (behind ++ line ∷ [])) ≡ take (done + more) bytes
      text =
          ap (take (done + more)) (joined-push behind line)
          ∙ (ap (λ n. take (n + more) (joined behind ++ line)) at
          ∙ (take-append-add (joined behind) line more
          ∙ (ap (λ l. joined behind ++ take more l) is_line
          ∙ (ap (λ l. joined behind ++ l) (take_at part (drop (length part) old) more size)
          ∙ (ap (λ l. joined behind ++ l) is_part
          ∙ (ap (λ l. l ++ take more (drop done bytes)) (sym (take_all done (joined behind) (omega (arith, at))) ∙ was.text)
          ∙ sym (take-add done more bytes)))))))

      go : (ahead : List (List ℕ)) → me.1 ≡ numbered (first + length behind) ahead ++ numbered first behind → length behind + length ahead ≡ count → AreWide ahead
          → HasWritten first count bytes view (done + more) me'
      go [] slots many others = absurd (omega (arith, was.upto, many, all, less))
      go (x ∷ ahead) slots many others =
          let same : x ≡ old = ap (λ (l : List (ℕ × List ℕ)). (get_or l 0 (0, [])).1) (sym slots ∙ there) in
          let wide : length line ≡ 64 =
          omega (
            arith,
            ap length is_line,
            length-append part (drop (length part) old),
            length-drop (length part) old,
            size,
            most,
            ap length same,
            (let w : length x ≡ 64 = All-head IsWide x ahead others in w),
          ) in
          let longer : length (behind ++ line ∷ []) ≡ length behind + 1 = length-append behind (line ∷ []) in
          record {
            behind = behind ++ line ∷ [];
            ahead = ahead;
            view_is = ap (λ (m : Me (List ℕ) View). m.0) then ∙ was.view_is;
            slots = turned-on first (first + done / 64) x line ahead behind me.1 me'.1 slots (ap (λ (m : Me (List ℕ) View). m.1) then)
                (omega (arith, was.upto, less));
            many = omega (arith, longer, many);
            wide = All-append IsWide behind (line ∷ []) was.wide (All-cons IsWide line [] wide (All-nil IsWide));
            others = All-tail IsWide x ahead others;
            upto = omega (arith, longer, was.upto, most, less);
            text = text;
          }

  pub written-all : (view : View) (done : ℕ) (me : Me (List ℕ) View) → HasWritten first count bytes view done me → length bytes ≤ done
      → HasLines first count me × HaveText (held me) bytes
  written-all view done me was full = go was.ahead was.slots was.many
    where
      go : (ahead : List (List ℕ)) → me.1 ≡ numbered (first + length was.behind) ahead ++ numbered first was.behind → length was.behind + length ahead ≡ count
          → HasLines first count me × HaveText (held me) bytes
      go (x ∷ ahead) slots many = absurd (omega (arith, was.upto, many, all, full))
      go [] slots many =
          let are : was.behind ≡ held me = sym (ap (map (λ (slot : ℕ × List ℕ). slot.1)) slots ∙ held-numbered first was.behind) in
          let done_is : done ≡ length bytes = omega (arith, was.upto, full) in (
            record {
              slots = slots ∙ ap (numbered first) are;
              many = omega (arith, ap length are, many);
              wide = subst AreWide are was.wide;
            },
            record {
              many = omega (arith, ap length are, many, all);
              wide = subst AreWide are was.wide;
              text = ap (λ lines. take (length bytes) (joined lines)) (sym are)
                  ∙ (ap (λ n. take n (joined was.behind)) (sym done_is) ∙ (was.text ∙ (ap (λ n. take n bytes) done_is ∙ take_all (length bytes) bytes (omega arith))));
            },
          )

-- ---- reading

-- The bytes of the first lines are read, and the others are to come.
pub record HasReadSo (first skip : ℕ) (lines : List (List ℕ)) (room : ℕ) (view : View) (line from done : ℕ) (into : List ℕ) (me : Me (List ℕ) View) : Type 0 where
  pub behind : List (List ℕ)
  pub ahead : List (List ℕ)
  pub view_is : me.0 ≡ view
  pub slots : me.1 ≡ numbered (first + length behind) ahead ++ numbered first behind
  pub all : behind ++ ahead ≡ lines
  pub line_is : line ≡ first + length behind
  pub within : from < 64
  pub short : done ≤ room
  pub reach : skip + done ≤ 64 * length behind + from
  pub next : done < room → skip + done ≡ 64 * length behind + from
  pub later : 0 < length behind → from ≡ 0
  pub bytes : take done into ≡ take done (drop skip (joined lines))

module _ (first count skip room : ℕ) (lines : List (List ℕ)) (many : length lines ≡ count) (wide : AreWide lines)
    (enough : count ≡ (skip + room + 63) / 64) where
  pub unread : (me : Me (List ℕ) View) (into : List ℕ) → me.1 ≡ numbered first lines → skip < 64 → HasReadSo first skip lines room me.0 first skip 0 into me
  unread me into slots within = record {
    behind = [];
    ahead = lines;
    view_is = refl;
    slots = slots ∙ (numbers first (first + 0) lines (omega arith) ∙ sym (append-nil (numbered (first + 0) lines)));
    all = refl;
    line_is = let e : first ≡ first + 0 = omega arith in e;
    within = within;
    short = omega arith;
    reach = let e : skip + 0 ≤ 64 * 0 + skip = omega arith in e;
    next = λ _. let e : skip + 0 ≡ 64 * 0 + skip = omega arith in e;
    later = λ some. absurd (omega (arith, some));
    bytes = refl;
  }

  module _ (view : View) (line from done : ℕ) (into : List ℕ) (me : Me (List ℕ) View) (was : HasReadSo first skip lines room view line from done into me) where
    ahead-many : length was.behind + length was.ahead ≡ count
    ahead-many = sym (length-append was.behind was.ahead) ∙ (ap length was.all ∙ many)

    pub next-to-read : done < room → (l : List ℕ) × (me.1 ≡ (line, l) ∷ rest me.1)
    next-to-read less =
        head-of (first + length was.behind) line was.ahead (numbered first was.behind) me.1 was.slots
        (omega (arith, was.next less, ahead-many, enough, less)) was.line_is

    pub read-on : (more : ℕ) (me' : Me (List ℕ) View) (here part into' : List ℕ) → done < room → length into ≡ room
        → more ≡ min (64 - from) (room - done) → part ≡ take more (drop from here) → into' ≡ put_mid done more into part
        → me.1 ≡ (line, here) ∷ rest me.1 → me' ≡ (me.0, rest me.1 ++ (line, here) ∷ [])
        → HasReadSo first skip lines room view (line + 1) 0 (done + more) into' me'
    read-on more me' here part into' less long most is_part is_into there then = go was.ahead was.slots was.all
      where
        behind : List (List ℕ)
        behind = was.behind

        go : (ahead : List (List ℕ)) → me.1 ≡ numbered (first + length behind) ahead ++ numbered first behind → behind ++ ahead ≡ lines
            → HasReadSo first skip lines room view (line + 1) 0 (done + more) into' me'
        go [] slots all =
            absurd (omega (arith, was.next less, sym (length-append {A = List ℕ} behind []) ∙ (ap length all ∙ many), enough, less))
        go (x ∷ ahead) slots all =
            let same : x ≡ here = ap (λ (l : List (ℕ × List ℕ)). (get_or l 0 (0, [])).1) (sym slots ∙ there) in
            let longer : length (behind ++ x ∷ []) ≡ length behind + 1 = length-append behind (x ∷ []) in
            let widths = parted behind (x ∷ ahead) (subst AreWide (sym all) wide) in
            let x_wide : length x ≡ 64 = All-head IsWide x ahead widths.1 in
            let at : skip + done ≡ length (joined behind) + from = omega (arith, joined-length 64 behind widths.0, was.next less) in
            let J = joined lines in
            let all_bytes : joined behind ++ (x ++ joined ahead) ≡ J = sym (flat_map-append (λ (l : List ℕ). l) behind (x ∷ ahead)) ∙ ap joined all in
            let left : length (drop from x) ≡ 64 - from = length-drop from x ∙ ap (λ n. n - from) x_wide in
            let read : part ≡ take more (drop done (drop skip J)) =
            is_part
            ∙ (ap (λ l. take more (drop from l)) (sym same)
            ∙ (sym (take-append-le more (drop from x) (joined ahead) (omega (arith, left, most)))
            ∙ (ap (take more) (sym (drop-append-le from x (joined ahead) (omega (arith, x_wide, was.within))))
            ∙ (ap (take more) (sym (drop-append-add (joined behind) (x ++ joined ahead) from))
            ∙ (ap (λ n. take more (drop n (joined behind ++ (x ++ joined ahead)))) (sym at)
            ∙ (ap (λ l. take more (drop (skip + done) l)) all_bytes
            ∙ ap (take more) (sym (drop-drop done skip J)))))))) in
            let size : length part ≡ more = ap length is_part ∙ length-take-le more (drop from here) (omega (arith, left, ap (λ l. length (drop from l)) same, most)) in
            record {
              behind = behind ++ x ∷ [];
              ahead = ahead;
              view_is = ap (λ (m : Me (List ℕ) View). m.0) then ∙ was.view_is;
              slots = turned-on first line x x ahead behind me.1 me'.1 slots
                  (ap (λ (m : Me (List ℕ) View). m.1) then ∙ ap (λ l. rest me.1 ++ (line, l) ∷ []) (sym same)) was.line_is;
              all = append_assoc behind (x ∷ []) ahead ∙ all;
              line_is = omega (arith, longer, was.line_is);
              within = omega arith;
              short = omega (arith, most, less);
              reach = omega (arith, longer, most, was.next less, was.within);
              next = λ less'. omega (arith, longer, most, was.next less, less', was.within);
              later = λ _. refl;
              bytes = ap (take (done + more)) is_into
                  ∙ (take-put_mid done more into part (done + more) (omega (arith, size)) (omega (arith, long, less))
                  ∙ (ap (λ l. l ++ part) was.bytes ∙ (ap (λ l. take done (drop skip J) ++ l) read ∙ sym (take-add done more (drop skip J)))));
            }

    pub read-all : room ≤ done → length into ≡ room → (me.1 ≡ numbered first lines) × (into ≡ take room (drop skip (joined lines)))
    read-all full long = (slots, bytes)
      where
        done_is : done ≡ room
        done_is = omega (arith, was.short, full)

        bytes : into ≡ take room (drop skip (joined lines))
        bytes = sym (take_all done into (omega (arith, done_is, long))) ∙ (was.bytes ∙ ap (λ n. take n (drop skip (joined lines))) done_is)

        go : (behind ahead : List (List ℕ)) → me.1 ≡ numbered (first + length behind) ahead ++ numbered first behind → behind ++ ahead ≡ lines
            → skip + done ≤ 64 * length behind + from → (0 < length behind → from ≡ 0) → me.1 ≡ numbered first lines
        go behind [] slots all reach later = slots ∙ ap (numbered first) (sym (append-nil behind) ∙ all)
        go [] (x ∷ ahead) slots all reach later =
            slots ∙ (append-nil (numbered (first + 0) (x ∷ ahead)) ∙ (numbers (first + 0) first (x ∷ ahead) (omega arith) ∙ ap (numbered first) all))
        go (y ∷ behind) (x ∷ ahead) slots all reach later =
            absurd (omega (arith, length-append (y ∷ behind) (x ∷ ahead), ap length all, many, enough, reach, later (omega arith), done_is))

        slots : me.1 ≡ numbered first lines
        slots = go was.behind was.ahead was.slots was.all was.reach was.later
