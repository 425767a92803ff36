-- The words of a board that was just opened are zeros, the free list, and zeros, and each line is at home.
use Rattle.std.proofs.Common.{◌≡◌, ℕ, zero, suc, ◌+◌, ◌-◌, ◌*◌, ◌≤◌, List, [], ◌∷◌, ◌++◌, length, map, replicate, take, get_or, refl, ap, sym, ◌∙◌, subst, arith, suc-mul, length-append}
use Rattle.std.{specs.List.{flat_map}, proofs.lemmas.List.{append_assoc, append-nil, replicate-append-replicate, length-map, length-replicate, take_all, get_or_default}}
use mathlib.Core.Option.{some}
use Rattle.atomic_table.{specs.Table.{opening}, proofs.Lists.{at_index, at_map}}
use Rattle.area_layout.specs.Layout.{all_buffers, pool_buffers}
use Rattle.board_face.specs.{NicCalls.{apps_of, free_words_of}, Opened.{new_nic, new_apps}, declared.views.{parts.Setting.{Setting}, nic.NicSide.{NicSide}, app.AppSide.{AppSide}}}
use Rattle.ref_words.specs.{Lines.{joined}, Homes.{StandInSlots}, Laws.{IsOpened}, Seated.{no_role}}
use Rattle.ref_words.specs.Words.{table_of, opened_words, begin_at, table_words, free_list, free_word, roles_of}
use Rattle.word_rings.specs.Slots.{note_width, refill_width}
use Rattle.word_board.specs.Board.{IsBoard}

zeros : ℕ → List ℕ
zeros n = replicate n 0

-- zeros before zeros
more-zeros : (n m : ℕ) (xs : List ℕ) → replicate n 0 ++ (replicate m 0 ++ xs) ≡ replicate (n + m) 0 ++ xs
more-zeros n m xs = sym (append_assoc (replicate n 0) (replicate m 0) xs) ∙ ap (λ zs. zs ++ xs) (replicate-append-replicate n m 0)

joined-zeros : (n t : ℕ) → joined (replicate n (replicate t 0)) ≡ replicate (n * t) 0
joined-zeros zero t = ap (λ k. replicate k 0) (let e : 0 ≡ 0 * t = omega arith in e)
joined-zeros (suc n) t =
    ap (λ zs. replicate t 0 ++ zs) (joined-zeros n t)
    ∙ (replicate-append-replicate t (n * t) 0 ∙ ap (λ k. replicate k 0) (omega (arith, suc-mul n t)))

slots-zeros : (n places width : ℕ) → flat_map joined (replicate n (replicate places (replicate width 0))) ≡ replicate (n * (places * width)) 0
slots-zeros zero places width = ap (λ k. replicate k 0) (let e : 0 ≡ 0 * (places * width) = omega arith in e)
slots-zeros (suc n) places width =
    ap (λ zs. joined (replicate places (replicate width 0)) ++ zs) (slots-zeros n places width)
    ∙ (ap (λ zs. zs ++ replicate (n * (places * width)) 0) (joined-zeros places width)
    ∙ (replicate-append-replicate (places * width) (n * (places * width)) 0 ∙ ap (λ k. replicate k 0) (omega (arith, suc-mul n (places * width)))))

length-free : (buffers n : ℕ) → length (free_list buffers n) ≡ n
length-free buffers zero = refl
length-free buffers (suc n) = omega (arith, length-append (free_list buffers n) (free_word buffers n ∷ []), length-free buffers n)

module _ (setting : Setting) where
  abbrev pub front : List ℕ
  front = replicate (begin_at setting 4) 0 ++ free_list (pool_buffers setting.layout) (free_words_of setting)

  pub front-length : length front ≡ begin_at setting 5
  front-length =
      omega (
        arith,
        length-append {A = ℕ} (replicate (begin_at setting 4) 0) (free_list (pool_buffers setting.layout) (free_words_of setting)),
        length-replicate {A = ℕ} (begin_at setting 4) 0,
        length-free (pool_buffers setting.layout) (free_words_of setting),
      )

  pub opened-table : front ++ replicate (table_words setting - begin_at setting 5) 0 ≡ table_of (opened_words setting)
  opened-table =
      let r = roles_of setting in
      let t = all_buffers setting.layout in
      let u = apps_of setting * t in
      let n = apps_of setting * (setting.places * note_width) in
      let x = apps_of setting * (setting.places * refill_width) in
      let frees = free_list (pool_buffers setting.layout) (free_words_of setting) in
      let rest : table_words setting - begin_at setting 5 ≡ n + x = omega arith in
      let back : ◌≡◌ {A = List ℕ} (replicate n 0 ++ (replicate x 0 ++ [])) (replicate (n + x) 0) =
      ap (λ zs. replicate n 0 ++ zs) (append-nil (replicate x 0)) ∙ replicate-append-replicate n x 0 in
      let begin : begin_at setting 4 ≡ r + (r + (t + u)) = omega arith in
      let all = frees ++ replicate (n + x) 0 in
      let before : replicate r 0 ++ (replicate r 0 ++ (replicate t 0 ++ (replicate u 0 ++ all))) ≡ replicate (r + (r + (t + u))) 0 ++ all =
      ap (λ zs. replicate r 0 ++ (replicate r 0 ++ zs)) (more-zeros t u all)
      ∙ (ap (λ zs. replicate r 0 ++ zs) (more-zeros r (t + u) all) ∙ more-zeros r (r + (t + u)) all) in
      rw (joined-zeros (apps_of setting) t, slots-zeros (apps_of setting) setting.places note_width, slots-zeros (apps_of setting) setting.places refill_width)
      (ap (λ k. front ++ replicate k 0) rest
      ∙ (ap (λ k. (replicate k 0 ++ frees) ++ replicate (n + x) 0) begin
      ∙ (append_assoc (replicate (r + (r + (t + u))) 0) frees (replicate (n + x) 0)
      ∙ (sym before ∙ ap (λ zs. replicate r 0 ++ (replicate r 0 ++ (replicate t 0 ++ (replicate u 0 ++ (frees ++ zs))))) (sym back)))))

-- ---- the lines

all-home : (setting : Setting) (area : List (List ℕ)) (nic : NicSide) (apps : List AppSide) → StandInSlots setting area nic apps (map some area)
all-home setting area nic apps = record {
  many = length-map area some;
  stand = λ k less home. let line = get_or area k [] in at_map some area k line (at_index area k line less (get_or_default area k [] line less));
}

pub opened-board : (setting : Setting) (words : List ℕ) (lines : List (List ℕ)) → IsOpened setting → words ≡ table_of (opened_words setting)
    → lines ≡ (opened_words setting).area → IsBoard setting (opening words lines no_role)
opened-board setting words lines opened laid stand =
    let apps = new_apps setting 0 (apps_of setting) in record {
      words = opened_words setting;
      nic = new_nic setting;
      apps = apps;
      laid = laid;
      lines = subst (λ xs. StandInSlots setting (opened_words setting).area (new_nic setting) apps (map some xs)) (sym stand)
          (all-home setting (opened_words setting).area (new_nic setting) apps);
      seated = opened.seated;
      rule = opened.rule;
    }

-- ---- how the table is filled

pub first-zeros : (n m len : ℕ) (ws xs : List ℕ) → ws ≡ take n xs ++ replicate (n - len) 0 → xs ≡ [] → len ≡ 0 → n ≡ m
    → ws ≡ replicate m 0 ++ []
first-zeros n m len ws xs is none empty e =
    is ∙ (ap (λ zs. take n zs ++ replicate (n - len) 0) none
    ∙ (ap (λ zs. zs ++ replicate (n - len) 0) (take-nothing n)
    ∙ (ap (λ k. replicate k 0) (omega (arith, empty, e)) ∙ sym (append-nil (replicate m 0)))))
  where
    take-nothing : (n : ℕ) → take {A = ℕ} n [] ≡ []
    take-nothing zero = refl
    take-nothing (suc n) = refl

pub next-word : (n b word w : ℕ) (ws now : List ℕ) → now ≡ ws ++ w ∷ [] → ws ≡ replicate n 0 ++ free_list b word → w ≡ free_word b word
    → now ≡ replicate n 0 ++ free_list b (word + 1)
next-word n b word w ws now is was e =
    let one : suc word ≡ word + 1 = omega arith in
    is ∙ (ap (λ zs. zs ++ w ∷ []) was
    ∙ (append_assoc (replicate n 0) (free_list b word) (w ∷ [])
    ∙ (ap (λ x. replicate n 0 ++ (free_list b word ++ x ∷ [])) e ∙ ap (λ k. replicate n 0 ++ free_list b k) one)))

pub last-zeros : (setting : Setting) (word n len : ℕ) (ws now : List ℕ) → now ≡ take n ws ++ replicate (n - len) 0 → len ≡ length ws
    → ws ≡ replicate (begin_at setting 4) 0 ++ free_list (pool_buffers setting.layout) word → word ≡ free_words_of setting → n ≡ table_words setting
    → now ≡ table_of (opened_words setting)
last-zeros setting word n len ws now is many was end all =
    let full : ws ≡ front setting = was ∙ ap (λ k. replicate (begin_at setting 4) 0 ++ free_list (pool_buffers setting.layout) k) end in
    let size : len ≡ begin_at setting 5 = many ∙ (ap length full ∙ front-length setting) in
    let inside : length ws ≤ n = omega (arith, many, size, all) in
    is ∙ (ap (λ zs. zs ++ replicate (n - len) 0) (take_all n ws inside)
    ∙ (ap (λ zs. zs ++ replicate (n - len) 0) full
    ∙ (ap (λ k. front setting ++ replicate k 0) (omega (arith, size, all)) ∙ opened-table setting)))
