-- The same where the source may tell its bytes or not.
use Rattle.std.proofs.Common.{◌≡◌, ◌∙◌, ℕ, ◌+◌, ◌++◌, ◌≤◌, List, [], ◌∷◌, length, Bool, true, false, refl, sym, ap, subst, arith, ◌⊎◌, ⊎_elim, inl, inr, Option, Some, None, Result, Ok, Err, IsTrue, IfSome, IfOk, rules}
use Rattle.std.{specs.{Str.{bytes_eq}, Prelude.{codes}, Io.KnownBytes.{Consumes}}, proofs.{lemmas.Slice.Eq.{bytes_eq-Decides}, Common.{append_assoc, append-nil}}}
use Rattle.std.proofs.lemmas.List.{nil_from_length}
use Rattle.zr_kinds.specs.{declared.event.Event.{Event}, Setting.{most_events, IsSetting, Setting}, Holders.{Holdings, after, no_holdings}}
use Rattle.zr_kinds.specs.RunText.{RecordText, last_line, run_line}
use Rattle.run_check.specs.{declared.checking.Checked.{Checked, TheVariants.{Yes, No}}, Coming.{HasNoLine, IsOneLine, ahead}}
use Rattle.run_check.{specs.{Holding.{EndsRecord, LineChanges, SameHoldings, weight}, Unfit.{IsUnfit}, declared.unfit.Unfit.{Unfit}}, proofs.Alike.{after_some}}
use Rattle.run_check.specs.declared.unfit.Unfit.TheVariants as unfit
use Rattle.run_check.{proofs.{Weighing.{length-same, same-sym, same-trans}, Judging.{same_line}}, specs.{Judged.{Judges}, Reading.{IsSettingOfLine, event_of}}}
use Rattle.run_check.{specs.Reading.{setting_of}, proofs.{SettingText.{run_line-setting_of, setting_of-run_line}, Short.{run_line-short}}}
use Rattle.run_check.proofs.{Ending.{HasCome, behind_first, bad_first, come_first, come_more, no_line, told_more, told_whole, unfit_line}, Lacking.{none_alike, unfit_alike}}

-- so many events were read of what came behind the first line
abbrev pub ComesTo : Setting → Option (List ℕ) → Option (List ℕ) → Holdings → ℕ → Type 0
ComesTo s None now h count = Unit {0}
ComesTo s (Some start) None h count = ⊥
ComesTo s (Some start) (Some rest) h count = HasCome s start rest h count

abbrev pub AnswersFor : Setting → Option (List ℕ) → Checked → Type 0
AnswersFor s start answer = IfSome start (λ rest. Judges (behind_first s rest) answer)

-- the code's holders are the same as those after the events that were read
abbrev pub ComesWith : Setting → Option (List ℕ) → Option (List ℕ) → Holdings → ℕ → Type 0
ComesWith s start now kept count = (h : Holdings) × ComesTo s start now h count × SameHoldings h kept

pub comes_first : (s : Setting) (start : Option (List ℕ)) (kept : Holdings) → IsSetting s → ((b : ℕ) → kept b ≡ []) → ComesWith s start start kept 0
comes_first s None kept sound none = (no_holdings, tt, λ b f. ap (weight f) (sym (none b)))
comes_first s (Some start) kept sound none = (no_holdings, come_first s start sound, λ b f. ap (weight f) (sym (none b)))

answers_no_line_at : (s : Setting) (start now : Option (List ℕ)) (h : Holdings) (count : ℕ) → ComesTo s start now h count → IfSome now HasNoLine
    → AnswersFor s start (No (count + 2) unfit.NoLine)
answers_no_line_at s None now h count come none = tt
answers_no_line_at s (Some start) None h count come none = absurd come
answers_no_line_at s (Some start) (Some rest) h count come none = no_line s start rest h count come none

answers_unfit_at : (s : Setting) (start now later : Option (List ℕ)) (h : Holdings) (count : ℕ) (line : RecordText) (why : Unfit)
    → ComesTo s start now h count → Consumes now later (line ++ 10 ∷ []) → IsOneLine line → IsUnfit s count h line why
    → AnswersFor s start (No (count + 2) why)
answers_unfit_at s None now later h count line why come took one is = tt
answers_unfit_at s (Some start) None later h count line why come took one is = absurd come
answers_unfit_at s (Some start) (Some rest) None h count line why come took one is = absurd took
answers_unfit_at s (Some start) (Some rest) (Some later) h count line why come took one is = unfit_line s start rest later h count line why come took one is

answers_last : (s : Setting) (start now later : Option (List ℕ)) (h : Holdings) (count : ℕ) (line : RecordText) (whole : Bool) (answer : Checked)
    → ComesTo s start now h count → Consumes now later (line ++ 10 ∷ []) → line ≡ last_line whole → (IsTrue whole → (b : ℕ) → h b ≡ [])
    → EndsRecord later (count + 2) answer → AnswersFor s start answer
answers_last s None now later h count line whole answer come took last none ends = tt
answers_last s (Some start) None later h count line whole answer come took last none ends = absurd come
answers_last s (Some start) (Some rest) None h count line whole answer come took last none ends = absurd took
answers_last s (Some start) (Some rest) (Some later) h count line whole (Yes lines) come took last none ends =
    subst (λ n. Judges (behind_first s start) (Yes n)) (sym ends.0)
    (told_whole s start rest h count whole come none (took ∙ ap (λ l. (l ++ 10 ∷ []) ++ later) last ∙ ap (λ r. (last_line whole ++ 10 ∷ []) ++ r) ends.1))
answers_last s (Some start) (Some rest) (Some later) h count line whole (No bad why) come took last none ends =
    subst (λ w. Judges (behind_first s start) (No bad w)) (sym ends.1)
    (subst (λ n. Judges (behind_first s start) (No n unfit.Behind)) (sym (ends.0 ∙ three))
    (told_more s start rest later h count whole come none (took ∙ ap (λ l. (l ++ 10 ∷ []) ++ later) last) ends.2))
  where
    three : count + 2 + 1 ≡ count + 3
    three = omega arith

pub answers_no_line : (s : Setting) (start now : Option (List ℕ)) (kept : Holdings) (count : ℕ) → ComesWith s start now kept count → IfSome now HasNoLine
    → AnswersFor s start (No (count + 2) unfit.NoLine)
answers_no_line s start now kept count (h, come, same) none = answers_no_line_at s start now h count come none

pub answers_unfit : (s : Setting) (start now later : Option (List ℕ)) (kept : Holdings) (count : ℕ) (line : RecordText) (why : Unfit)
    → ComesWith s start now kept count → Consumes now later (line ++ 10 ∷ []) → IsOneLine line → IsUnfit s count kept line why
    → AnswersFor s start (No (count + 2) why)
answers_unfit s start now later kept count line why (h, come, same) took one is =
    answers_unfit_at s start now later h count line why come took one (unfit_alike s count h kept line why same is)

pub comes_more : (s : Setting) (start now later : Option (List ℕ)) (kept new : Holdings) (count : ℕ) (line : RecordText) → ComesWith s start now kept count
    → Consumes now later (line ++ 10 ∷ []) → count + 1 ≤ most_events → LineChanges s kept line new None → ComesWith s start later new (count + 1)
comes_more s start now later kept new count line (h, come, same) took room (e, read, (held, follows, alike)) =
    let found = after_some s h kept held e same follows in (
      found.0,
      come_at start now later come took found.0 found.1,
      λ b. same-trans (found.0 b) (held b) (new b) (found.2 b) (alike b),
    )
  where
    come_at : (start now later : Option (List ℕ)) → ComesTo s start now h count → Consumes now later (line ++ 10 ∷ []) → (then : Holdings)
        → after s h e ≡ Some then → ComesTo s start later then (count + 1)
    come_at None now later come took then is = tt
    come_at (Some start) None later come took then is = absurd come
    come_at (Some start) (Some rest) None come took then is = absurd took
    come_at (Some start) (Some rest) (Some later) come took then is = come_more s start rest later h then count line e come room took read is

-- the same of a check's answer, where it has one
abbrev pub AnswersIfOk : {E : Type 0} → Setting → Option (List ℕ) → Result Checked E → Type 0
AnswersIfOk s start result = IfSome start (λ rest. IfOk result (Judges (behind_first s rest)))

no_answer : (E : Type 0) (s : Setting) (start : Option (List ℕ)) (e : E) → AnswersIfOk {E = E} s start (Err e)
no_answer E s None e = tt
no_answer E s (Some start) e = tt

answer_ok : (E : Type 0) (s : Setting) (start : Option (List ℕ)) (answer : Checked) → AnswersFor s start answer → AnswersIfOk {E = E} s start (Ok answer)
answer_ok E s None answer h = tt
answer_ok E s (Some start) answer h = h

pub answers_ends : (E : Type 0) (s : Setting) (start now later : Option (List ℕ)) (kept : Holdings) (count : ℕ) (line : RecordText) (whole : Bool)
    (result : Result Checked E) → ComesWith s start now kept count → Consumes now later (line ++ 10 ∷ []) → line ≡ last_line whole
    → (IsTrue whole → (b : ℕ) → kept b ≡ []) → IfOk result (EndsRecord later (count + 2)) → AnswersIfOk s start result
answers_ends E s start now later kept count line whole (Err e) come took last none ends = no_answer E s start e
answers_ends E s start now later kept count line whole (Ok answer) (h, come, same) took last none ends =
    answer_ok E s start answer (answers_last s start now later h count line whole answer come took last
    (λ t. none_alike kept h (λ b. same-sym (h b) (kept b) (same b)) (none t)) ends)

pub not_text : (name other : RecordText) → bytes_eq name other ≡ false → name ≡ other → ⊥
not_text name other differ same = search (rules, bytes_eq-Decides)

-- ---- the first line

pub no_first_line : (waiting : List ℕ) (left : Option (List ℕ)) → waiting ≡ [] → IfSome (ahead waiting left) HasNoLine
    → IfSome left (λ bytes. Judges bytes (No 1 unfit.NoLine))
no_first_line waiting None fresh none = tt
no_first_line waiting (Some bytes) fresh none =
    let here : HasNoLine bytes = subst (λ w. HasNoLine (w ++ bytes)) fresh none in
    bad_first bytes (λ line behind same one s sound first.
    let long = here line behind same one in absurd (omega (arith, long, run_line-short s sound, ap length first)))
    unfit.NoLine here

pub no_first_setting : (waiting : List ℕ) (left later : Option (List ℕ)) (line : RecordText) → waiting ≡ []
    → Consumes (ahead waiting left) later (line ++ 10 ∷ []) → IsOneLine line → IsSettingOfLine line None
    → IfSome left (λ bytes. Judges bytes (No 1 unfit.NoSetting))
no_first_setting waiting None later line fresh took one none = tt
no_first_setting waiting (Some bytes) None line fresh took one none = absurd took
no_first_setting waiting (Some bytes) (Some rest) line fresh took one none =
    let here : bytes ≡ (line ++ 10 ∷ []) ++ rest = subst (λ w. w ++ bytes ≡ (line ++ 10 ∷ []) ++ rest) fresh took in
    let next : bytes ≡ line ++ 10 ∷ rest = here ∙ append_assoc line (10 ∷ []) rest in
    let unsaid : (s : Setting) → IsSetting s → line ≡ run_line s → ⊥ = λ s sound first. none s (ap setting_of first ∙ setting_of-run_line s sound) sound in
    bad_first bytes (λ other behind same other_one s sound first.
    let lines = same_line other line behind rest other_one one (sym same ∙ next) in
    unsaid s sound (sym lines.0 ∙ first))
    unfit.NoSetting (refl, record { line = line; behind = rest; next = next; one = one; none = unsaid })

pub first_behind : (E : Type 0) (waiting : List ℕ) (left later : Option (List ℕ)) (line : RecordText) (s : Setting) (result : Result Checked E) → waiting ≡ []
    → Consumes (ahead waiting left) later (line ++ 10 ∷ []) → setting_of line ≡ Some s → AnswersIfOk s later result
    → IfSome left (λ bytes. IfOk result (Judges bytes))
first_behind E waiting None later line s result fresh took read answers = tt
first_behind E waiting (Some bytes) None line s result fresh took read answers = absurd took
first_behind E waiting (Some bytes) (Some rest) line s result fresh took read answers =
    let here : bytes ≡ (line ++ 10 ∷ []) ++ rest = subst (λ w. w ++ bytes ≡ (line ++ 10 ∷ []) ++ rest) fresh took in
    let told : behind_first s rest ≡ bytes =
    ap (λ t. t ++ rest) (append-nil (run_line s ++ 10 ∷ [])) ∙ ap (λ l. (l ++ 10 ∷ []) ++ rest) (sym (run_line-setting_of line s read)) ∙ sym here in
    subst (λ b. IfOk result (Judges b)) told answers
