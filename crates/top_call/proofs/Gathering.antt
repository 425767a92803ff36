-- Texts that are gathered in a block one behind the other, and how far they went out.
use Rattle.std.proofs.Common.{◌≡◌, ℕ, zero, suc, ◌+◌, ◌<◌, List, [], ◌∷◌, ◌++◌, length, map, take, drop, get_or, Bool, Option, Result, Ok, Err, codes}
use Rattle.std.proofs.{Common.{refl, sym, ap, subst, ◌∙◌, append_assoc, append-nil, take-append-drop, add-one, arith}, Math.Seq.{take-append_seam}}
use Rattle.std.{proofs.KnownBytes.{Appends-nil, Appends-trans}, specs.{Io.KnownBytes.{Appends}, List.{flat_map, join_with_byte}}}
use Rattle.zr_io.specs.Moved.{AddsPiece}
use Rattle.zr_kinds.specs.{declared.event.Event.{Event}, Setting.{Setting}, RunText.{last_line, line_of, run_line, run_text_of, text_of_lines}}
use Rattle.top_call.specs.Gathered.{Waits}

-- what waits, put on its way by a step more
pub waits-then : (sent between now : Option (List ℕ)) (text waiting more waiting_now : List ℕ) → Waits sent between text waiting
    → Waits between now (waiting ++ more) waiting_now → Waits sent now (text ++ more) waiting_now
waits-then sent between now text waiting more waiting_now (gone, is, out) (gone_now, is_now, out_now) = (
  gone ++ gone_now,
  append_assoc gone gone_now waiting_now
      ∙ ap (λ l. gone ++ l) is_now ∙ sym (append_assoc gone waiting more) ∙ ap (λ l. l ++ more) is,
  Appends-trans sent between now gone gone_now out out_now,
)

-- what went out is a front of the whole
front_of : (sent now : Option (List ℕ)) (whole went rest : List ℕ) → whole ≡ went ++ rest → Appends sent now went
    → (n : ℕ) × Appends sent now (take n whole)
front_of sent now whole went rest is out =
    (length went, subst (Appends sent now) (sym (ap (take (length went)) is ∙ take-append_seam went rest)) out)

-- of what waits and a text behind it a front went out, whatever would come behind
pub breaks : (sent between now : Option (List ℕ)) (text waiting more rest : List ℕ) (n : ℕ) → Waits sent between text waiting
    → Appends between now (take n (waiting ++ more)) → (m : ℕ) × Appends sent now (take m (text ++ (more ++ rest)))
breaks sent between now text waiting more rest n (gone, is, out) out_now =
    front_of sent now (text ++ (more ++ rest)) (gone ++ take n (waiting ++ more)) (drop n (waiting ++ more) ++ rest)
    (
    ap (λ l. l ++ (more ++ rest)) (sym is)
    ∙ regroup gone waiting more rest
    ∙ ap (λ l. gone ++ (l ++ rest)) (sym (take-append-drop n (waiting ++ more)))
    ∙ ap (λ l. gone ++ l) (append_assoc (take n (waiting ++ more)) (drop n (waiting ++ more)) rest)
    ∙ sym (append_assoc gone (take n (waiting ++ more)) (drop n (waiting ++ more) ++ rest))
    )
    (Appends-trans sent between now gone (take n (waiting ++ more)) out out_now)
  where
    regroup : (a b c d : List ℕ) → (a ++ b) ++ (c ++ d) ≡ a ++ ((b ++ c) ++ d)
    regroup a b c d = simp append_assoc

-- nothing went out yet
pub waits-all : (sent : Option (List ℕ)) (block : List ℕ) → Waits sent sent block block
waits-all sent block = ([], refl, Appends-nil sent)

-- the last piece
pub finishes : {A E : Type 0} (sent between now : Option (List ℕ)) (result : Result A E) (text waiting more whole : List ℕ)
    → Waits sent between text waiting → text ++ more ≡ whole → AddsPiece between now result (waiting ++ more) → AddsPiece sent now result whole
finishes sent between now (Ok done) text waiting more whole (gone, is, out) all piece =
    subst (Appends sent now) (sym (append_assoc gone waiting more) ∙ ap (λ l. l ++ more) is ∙ all)
    (Appends-trans sent between now gone (waiting ++ more) out piece)
finishes sent between now (Err error) text waiting more whole waits all (n, piece) =
    let (m, front) = breaks sent between now text waiting more [] n waits piece in
    (m, subst (λ l. Appends sent now (take m l)) (ap (λ l. text ++ l) (append-nil more) ∙ all) front)

-- ---- the lines of a record

-- some lines, the next and the others
pub lines-parts : (events : List Event) (i : ℕ) (d : Event) → i < length events
    → text_of_lines (map line_of (take i events)) ++ ((line_of (get_or events i d) ++ 10 ∷ []) ++ text_of_lines (map line_of (drop (i + 1) events)))
    ≡ text_of_lines (map line_of events)
lines-parts events i d within = rw (add-one i) (go events i within)
  where
    go : (events : List Event) (i : ℕ) → i < length events
        → text_of_lines (map line_of (take i events)) ++ ((line_of (get_or events i d) ++ 10 ∷ []) ++ text_of_lines (map line_of (drop (suc i) events)))
        ≡ text_of_lines (map line_of events)
    go [] i within = absurd (omega (arith, within))
    go (e ∷ events) zero within = refl
    go (e ∷ events) (suc i) within =
        append_assoc (line_of e ++ 10 ∷ []) _ _ ∙ ap (λ l. (line_of e ++ 10 ∷ []) ++ l) (go events i (omega (arith, within)))

-- the line of one event more
pub lines-more : (events : List Event) (i : ℕ) (d : Event) → i < length events
    → text_of_lines (map line_of (take i events)) ++ (line_of (get_or events i d) ++ 10 ∷ []) ≡ text_of_lines (map line_of (take (i + 1) events))
lines-more events i d within = rw (add-one i) (go events i within)
  where
    go : (events : List Event) (i : ℕ) → i < length events
        → text_of_lines (map line_of (take i events)) ++ (line_of (get_or events i d) ++ 10 ∷ []) ≡ text_of_lines (map line_of (take (suc i) events))
    go [] i within = absurd (omega (arith, within))
    go (e ∷ events) zero within = sym (append-nil (line_of e ++ 10 ∷ []))
    go (e ∷ events) (suc i) within =
        append_assoc (line_of e ++ 10 ∷ []) _ _ ∙ ap (λ l. (line_of e ++ 10 ∷ []) ++ l) (go events i (omega (arith, within)))

-- the whole record
pub text-parts : (setting : Setting) (events : List Event) (whole : Bool)
    → ((run_line setting ++ 10 ∷ []) ++ text_of_lines (map line_of events)) ++ (last_line whole ++ 10 ∷ []) ≡ run_text_of setting events whole
text-parts setting events whole =
    append_assoc (run_line setting ++ 10 ∷ []) _ _ ∙ ap (λ l. (run_line setting ++ 10 ∷ []) ++ l) (go events)
  where
    go : (events : List Event) → text_of_lines (map line_of events) ++ (last_line whole ++ 10 ∷ [])
        ≡ text_of_lines (map line_of events ++ last_line whole ∷ [])
    go [] = sym (append-nil (last_line whole ++ 10 ∷ []))
    go (e ∷ events) = append_assoc (line_of e ++ 10 ∷ []) _ _ ∙ ap (λ l. (line_of e ++ 10 ∷ []) ++ l) (go events)

-- the first line
pub setting-text : (old areas apps : List ℕ)
    → ((((old ++ codes "run ") ++ areas) ++ 32 ∷ []) ++ apps) ++ 10 ∷ [] ≡ old ++ ((codes "run" ++ 32 ∷ (areas ++ 32 ∷ apps)) ++ 10 ∷ [])
setting-text old areas apps = simp append_assoc

-- pieces joined by a byte: the first, and the byte and a piece for each other
pub joined-behind : {A : Type 0} (byte : ℕ) (text : A → List ℕ) (first : List ℕ) (items : List A)
    → join_with_byte byte (first ∷ map text items) ≡ first ++ flat_map (λ x. byte ∷ text x) items
joined-behind byte text first [] = sym (append-nil first)
joined-behind byte text first (x ∷ items) = ap (λ l. first ++ byte ∷ l) (joined-behind byte text (text x) items)

module _ (sent between now : Option (List ℕ)) (block waiting : List ℕ) (events : List Event) (i : ℕ) (d : Event) (within : i < length events)
    (waits : Waits sent between (block ++ text_of_lines (map line_of (take i events))) waiting) where
  -- a line more
  pub event-waits : (waiting_now : List ℕ) → Waits between now (waiting ++ (line_of (get_or events i d) ++ 10 ∷ [])) waiting_now
      → Waits sent now (block ++ text_of_lines (map line_of (take (i + 1) events))) waiting_now
  event-waits waiting_now then =
      subst (λ text. Waits sent now text waiting_now)
      (append_assoc block _ _ ∙ ap (λ l. block ++ l) (lines-more events i d within))
      (waits-then sent between now _ waiting (line_of (get_or events i d) ++ 10 ∷ []) waiting_now waits then)

  -- where the sink failed at it
  pub event-breaks : (n : ℕ) → Appends between now (take n (waiting ++ (line_of (get_or events i d) ++ 10 ∷ [])))
      → (m : ℕ) × Appends sent now (take m (block ++ text_of_lines (map line_of events)))
  event-breaks n out =
      let (m, front) = breaks sent between now _ waiting (line_of (get_or events i d) ++ 10 ∷ []) (text_of_lines (map line_of (drop (i + 1) events))) n
      waits out in (
        m,
        subst (λ text. Appends sent now (take m text)) (append_assoc block _ _ ∙ ap (λ l. block ++ l) (lines-parts events i d within)) front,
      )

-- ---- the whole record

module _ (setting : Setting) (events : List Event) (whole : Bool) (first : List ℕ) (is : first ≡ run_line setting ++ 10 ∷ []) where
  parts : (first ++ text_of_lines (map line_of events)) ++ (last_line whole ++ 10 ∷ []) ≡ run_text_of setting events whole
  parts = ap (λ l. (l ++ text_of_lines (map line_of events)) ++ (last_line whole ++ 10 ∷ [])) is ∙ text-parts setting events whole

  -- where the sink failed at the events
  pub breaks-early : (sent now : Option (List ℕ)) (n : ℕ) → Appends sent now (take n (first ++ text_of_lines (map line_of events)))
      → (m : ℕ) × Appends sent now (take m (run_text_of setting events whole))
  breaks-early sent now n out =
      let (m, front) = breaks sent sent now first first (text_of_lines (map line_of events)) (last_line whole ++ 10 ∷ []) n (waits-all sent first) out in
      (m, subst (λ l. Appends sent now (take m l)) (sym (append_assoc first _ _) ∙ parts) front)

  -- and where it failed behind them
  pub breaks-late : (sent between now : Option (List ℕ)) (waiting : List ℕ) (n : ℕ)
      → Waits sent between (first ++ text_of_lines (map line_of events)) waiting → Appends between now (take n (waiting ++ []))
      → (m : ℕ) × Appends sent now (take m (run_text_of setting events whole))
  breaks-late sent between now waiting n waits out =
      let (m, front) = breaks sent between now _ waiting [] (last_line whole ++ 10 ∷ []) n waits out in
      (m, subst (λ l. Appends sent now (take m l)) parts front)

  -- the last piece
  pub record-out : {A E : Type 0} (sent between then now : Option (List ℕ)) (result : Result A E) (waiting waiting_then piece : List ℕ)
      → Waits sent between (first ++ text_of_lines (map line_of events)) waiting → Waits between then (waiting ++ []) waiting_then
      → piece ≡ waiting_then ++ (last_line whole ++ 10 ∷ []) → AddsPiece then now result piece
      → AddsPiece sent now result (run_text_of setting events whole)
  record-out sent between then now result waiting waiting_then piece waits waits_then piece_is out =
      finishes sent then now result (first ++ text_of_lines (map line_of events)) waiting_then (last_line whole ++ 10 ∷ []) _
      (subst (λ l. Waits sent then l waiting_then) (append-nil _) (waits-then sent between then _ waiting [] waiting_then waits waits_then))
      parts (subst (AddsPiece then now result) piece_is out)
