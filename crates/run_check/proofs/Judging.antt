-- What is said of bytes, by the lines that a legal run may have.
use Rattle.std.proofs.Common.{◌≡◌, ◌∙◌, ℕ, ◌+◌, ◌++◌, List, [], ◌∷◌, length, map, get_or, Bool, refl, sym, ap, subst, arith}
use Rattle.std.{proofs.{Common.{append_assoc, append-nil, length-append, suc}, lemmas.Bool.{eqb-false}}, specs.List.{AllByRecursion}}
use Rattle.zr_kinds.specs.{declared.event.Event.{Event}, Setting.{Setting}, Holders.{Holdings}, LegalRun.{HasSmallNumbers, IsLegalRun}}
use Rattle.zr_kinds.specs.RunText.{RecordText, last_line, line_of, lines_of, run_line, text_of_lines}
use Rattle.run_check.specs.{declared.checking.Checked.TheVariants.{Yes, No}, Judged.{AreOfRun, BeginARun, IsRunText, IsWhy, Judges}, Coming.{IsOneLine}}
use Rattle.run_check.specs.declared.unfit.Unfit.{Unfit}
use Rattle.run_check.specs.declared.unfit.Unfit.TheVariants as unfit
use Rattle.run_check.proofs.{Going.{IsLegalSoFar, MayFollow, followed, goes_on, not_last, nothing_follows}, LineText.{last_line-one, line_of-one}, Parting.{Lacks}}
use Rattle.run_check.proofs.SettingText.{run_line-one}

-- ---- one line after another

one_line : (line : RecordText) → Lacks 10 line → IsOneLine line
one_line line lacks k d lt is = eqb-false (get_or line k d) 10 (lacks k d lt) is

rest_one : (b : ℕ) (line : RecordText) → IsOneLine (b ∷ line) → IsOneLine line
rest_one b line one k d lt = one (suc k) d (omega arith)

-- two texts whose first lines end at the first line feed
pub same_line : (one other : RecordText) (behind others : List ℕ) → IsOneLine one → IsOneLine other → one ++ 10 ∷ behind ≡ other ++ 10 ∷ others
    → (one ≡ other) × (behind ≡ others)
same_line [] [] behind others one_one one_other same = (refl, cc)
same_line [] (b ∷ other) behind others one_one one_other same =
    let feed : b ≡ 10 = cc in absurd (one_other 0 b (omega arith) feed)
same_line (b ∷ one) [] behind others one_one one_other same =
    let feed : b ≡ 10 = cc in absurd (one_one 0 b (omega arith) feed)
same_line (a ∷ one) (b ∷ other) behind others one_one one_other same =
    let first : a ≡ b = cc in
    let rest : one ++ 10 ∷ behind ≡ other ++ 10 ∷ others = cc in
    let found = same_line one other behind others (rest_one a one one_one) (rest_one b other one_other) rest in
    let lines : one ≡ other = found.0 in
    (cc, found.1)

-- a text that begins with lines has these lines first
lines_first : (before lines : List RecordText) (rest : List ℕ) → AllByRecursion IsOneLine before → AllByRecursion IsOneLine lines
    → text_of_lines before ++ rest ≡ text_of_lines lines → (behind : List RecordText) × (lines ≡ before ++ behind) × (rest ≡ text_of_lines behind)
lines_first [] lines rest one one_lines same = (lines, refl, same)
lines_first (line ∷ before) [] rest one one_lines same =
    let sizes = ap length same in
    absurd (omega (
      arith,
      sizes,
      length-append ((line ++ 10 ∷ []) ++ text_of_lines before) rest,
      length-append (line ++ 10 ∷ []) (text_of_lines before),
      length-append line (10 ∷ []),
    ))
lines_first (line ∷ before) (other ∷ lines) rest one one_lines same =
    let left : line ++ 10 ∷ (text_of_lines before ++ rest) ≡ ((line ++ 10 ∷ []) ++ text_of_lines before) ++ rest =
    sym (append_assoc line (10 ∷ []) (text_of_lines before ++ rest)) ∙ sym (append_assoc (line ++ 10 ∷ []) (text_of_lines before) rest) in
    let right : (other ++ 10 ∷ []) ++ text_of_lines lines ≡ other ++ 10 ∷ text_of_lines lines = append_assoc other (10 ∷ []) (text_of_lines lines) in
    let parts = same_line line other (text_of_lines before ++ rest) (text_of_lines lines) one.0 one_lines.0 (left ∙ same ∙ right) in
    let found = lines_first before lines rest one.1 one_lines.1 parts.1 in
    let first : line ≡ other = parts.0 in
    let later : lines ≡ before ++ found.0 = found.1 in
    (found.0, cc, found.2)

text_of_lines-append : (before behind : List RecordText) → text_of_lines (before ++ behind) ≡ text_of_lines before ++ text_of_lines behind
text_of_lines-append [] behind = refl
text_of_lines-append (line ∷ before) behind =
    ap (λ t. (line ++ 10 ∷ []) ++ t) (text_of_lines-append before behind) ∙ sym (append_assoc (line ++ 10 ∷ []) (text_of_lines before) (text_of_lines behind))

-- ---- the lines of a run

events_one : (events : List Event) (last : List RecordText) → AllByRecursion HasSmallNumbers events → AllByRecursion IsOneLine last
    → AllByRecursion IsOneLine (map line_of events ++ last)
events_one [] last small one = one
events_one (e ∷ events) last small one = (one_line (line_of e) (line_of-one e small.0), events_one events last small.1 one)

run_one : (lines : List RecordText) → AreOfRun lines → AllByRecursion IsOneLine lines
run_one lines run =
    subst (AllByRecursion IsOneLine) (sym run.told) (
      one_line (run_line run.setting) (run_line-one run.setting run.legal.sound),
      events_one run.events (last_line run.whole ∷ []) run.legal.small (one_line (last_line run.whole) (last_line-one run.whole), tt),
    )

before_one : (s : Setting) (events : List Event) (h : Holdings) → IsLegalSoFar s events h → AllByRecursion IsOneLine (run_line s ∷ map line_of events)
before_one s events h far =
    (one_line (run_line s) (run_line-one s far.sound), subst (AllByRecursion IsOneLine) (append-nil (map line_of events)) (events_one events [] far.small tt))

-- the lines so far are no whole run
not_yet : (events others : List Event) (whole : Bool) → AllByRecursion HasSmallNumbers events
    → map line_of events ≡ map line_of others ++ last_line whole ∷ [] → ⊥
not_yet [] [] whole small same = cc
not_yet [] (f ∷ others) whole small same = cc
not_yet (e ∷ events) [] whole small same = let first : line_of e ≡ last_line whole = cc in not_last e whole small.0 first
not_yet (e ∷ events) (f ∷ others) whole small same =
    let rest : map line_of events ≡ map line_of others ++ last_line whole ∷ [] = cc in not_yet events others whole small.1 rest

-- where no legal run has these lines and the next, and they are none, the bytes are no run's text
pub no_run : (before : List RecordText) (rest : List ℕ) (bytes : List ℕ) → AllByRecursion IsOneLine before → bytes ≡ text_of_lines before ++ rest
    → ((line : RecordText) (behind : List ℕ) → rest ≡ line ++ 10 ∷ behind → IsOneLine line → BeginARun (before ++ line ∷ []) → ⊥)
    → (rest ≡ [] → AreOfRun before → ⊥) → (count : ℕ) → IsRunText bytes count → ⊥
no_run before rest bytes one parted ends none count run =
    let lines_one = run_one run.lines run.run in
    let found = lines_first before run.lines rest one lines_one (sym parted ∙ run.text) in
    judged found.0 found.1 found.2 lines_one
  where
    judged : (behind : List RecordText) → run.lines ≡ before ++ behind → rest ≡ text_of_lines behind → AllByRecursion IsOneLine run.lines → ⊥
    judged [] same left lines_one = none left (subst AreOfRun (same ∙ append-nil before) run.run)
    judged (line ∷ behind) same left lines_one =
        ends line (text_of_lines behind) (left ∙ append_assoc line (10 ∷ []) (text_of_lines behind))
        (line_one before (subst (AllByRecursion IsOneLine) same lines_one))
        (behind, subst AreOfRun (same ∙ sym (append_assoc before (line ∷ []) behind)) run.run)
      where
        line_one : (others : List RecordText) → AllByRecursion IsOneLine (others ++ line ∷ behind) → IsOneLine line
        line_one [] lines = lines.0
        line_one (other ∷ others) lines = line_one others lines.1

lines_length : (events : List Event) → length (map line_of events) ≡ length events
lines_length [] = refl
lines_length (e ∷ events) = ap suc (lines_length events)

-- ---- the answers

-- the next line isn't one that may follow
pub bad_line : (s : Setting) (events : List Event) (h : Holdings) (bytes rest : List ℕ) → IsLegalSoFar s events h
    → bytes ≡ text_of_lines (run_line s ∷ map line_of events) ++ rest
    → ((line : RecordText) (behind : List ℕ) → rest ≡ line ++ 10 ∷ behind → IsOneLine line → MayFollow s events h line → ⊥)
    → (why : Unfit) → IsWhy (run_line s ∷ map line_of events) rest why → Judges bytes (No (length events + 2) why)
bad_line s events h bytes rest far parted bad why is_why =
    let ends : (line : RecordText) (behind : List ℕ) → rest ≡ line ++ 10 ∷ behind → IsOneLine line
    → BeginARun ((run_line s ∷ map line_of events) ++ line ∷ []) → ⊥ =
    λ line behind same one begun. bad line behind same one (followed s events h line far begun) in (
      record {
        before = run_line s ∷ map line_of events;
        rest = rest;
        parted = parted;
        counted = omega (arith, lines_length events);
        begun = goes_on s events h far;
        ends = ends;
        cause = is_why;
      },
      no_run (run_line s ∷ map line_of events) rest bytes (before_one s events h far) parted ends
          (λ nothing run.
          let told : run_line s ∷ map line_of events ≡ run_line run.setting ∷ (map line_of run.events ++ last_line run.whole ∷ []) = run.told in
          let tails : map line_of events ≡ map line_of run.events ++ last_line run.whole ∷ [] = cc in
          not_yet events run.events run.whole far.small tails),
    )

whole_text : (s : Setting) (events : List Event) (whole : Bool) (bytes rest : List ℕ)
    → bytes ≡ text_of_lines (run_line s ∷ map line_of events) ++ (last_line whole ++ 10 ∷ rest)
    → bytes ≡ text_of_lines (lines_of s events whole) ++ rest
whole_text s events whole bytes rest parted =
    let lines : lines_of s events whole ≡ (run_line s ∷ map line_of events) ++ last_line whole ∷ [] = refl in
    parted ∙ ap (λ t. text_of_lines (run_line s ∷ map line_of events) ++ t) (sym (append_assoc (last_line whole) (10 ∷ []) rest))
    ∙ ap (λ t. text_of_lines (run_line s ∷ map line_of events) ++ (t ++ rest)) (sym (append-nil (last_line whole ++ 10 ∷ [])))
    ∙ sym (append_assoc (text_of_lines (run_line s ∷ map line_of events)) (text_of_lines (last_line whole ∷ [])) rest)
    ∙ ap (λ t. t ++ rest) (sym (text_of_lines-append (run_line s ∷ map line_of events) (last_line whole ∷ [])))

lines_count : (s : Setting) (events : List Event) (whole : Bool) → length (lines_of s events whole) ≡ length events + 2
lines_count s events whole =
    omega (arith, length-append (map line_of events) (last_line whole ∷ []), lines_length events)

-- the last line was read and nothing follows
pub whole_run : (s : Setting) (events : List Event) (whole : Bool) (bytes : List ℕ) → IsLegalRun s events whole
    → bytes ≡ text_of_lines (run_line s ∷ map line_of events) ++ (last_line whole ++ 10 ∷ []) → Judges bytes (Yes (length events + 2))
whole_run s events whole bytes legal parted = record {
  lines = lines_of s events whole;
  run = record { setting = s; events = events; whole = whole; legal = legal; told = refl };
  text = whole_text s events whole bytes [] parted ∙ append-nil (text_of_lines (lines_of s events whole));
  number = sym (lines_count s events whole);
}

-- something follows the last line
pub more_behind : (s : Setting) (events : List Event) (h : Holdings) (whole : Bool) (bytes rest : List ℕ) → IsLegalSoFar s events h
    → IsLegalRun s events whole → bytes ≡ text_of_lines (run_line s ∷ map line_of events) ++ (last_line whole ++ 10 ∷ rest) → (rest ≡ [] → ⊥)
    → Judges bytes (No (length events + 3) unfit.Behind)
more_behind s events h whole bytes rest far legal parted some =
    let run : AreOfRun (lines_of s events whole) = record { setting = s; events = events; whole = whole; legal = legal; told = refl } in
    let ends : (line : RecordText) (behind : List ℕ) → rest ≡ line ++ 10 ∷ behind → IsOneLine line → BeginARun (lines_of s events whole ++ line ∷ []) → ⊥ =
    λ line behind same one begun. nothing_follows s events h whole line far begun in (
      record {
        before = lines_of s events whole;
        rest = rest;
        parted = whole_text s events whole bytes rest parted;
        counted = omega (arith, lines_count s events whole);
        begun = ([], subst AreOfRun (sym (append-nil (lines_of s events whole))) run);
        ends = ends;
        cause = (run, some);
      },
      no_run (lines_of s events whole) rest bytes (run_one (lines_of s events whole) run) (whole_text s events whole bytes rest parted) ends
          (λ nothing other. some nothing),
    )
