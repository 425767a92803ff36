-- Judged: whether a refill entry gives a reference back. An entry of an application is a return where it names a buffer
-- whose user count is above 0 at the step that looks. Otherwise it is a stray, and changes no count and no free place.
use Rattle.std.specs.Prelude.{◌≡◌, ℕ, nat_lt, if◌then◌else◌, Option, Some, None}
use Rattle.zr_kinds.specs.declared.ring.Rqe.{Rqe}
use Rattle.area_layout.specs.Layout.{Shape, judged}
use Rattle.board_face.specs.declared.views.nic.{Fate.{Fate, TheVariants.{Honoured, Stray}}, Dealt.{Dealt}}

-- what becomes of an entry, where `owed` has the application's user count of each buffer
abbrev pub fate_of : Shape → (ℕ → ℕ) → Rqe → Fate
fate_of layout owed entry = fate_at (judged layout entry) owed
  where
    fate_at : Option ℕ → (ℕ → ℕ) → Fate
    fate_at None owed = Stray
    fate_at (Some buffer) owed = if nat_lt 0 (owed buffer) then Honoured buffer else Stray

-- the buffer of an entry that was honoured is the one that the entry names
abbrev pub IsHonouredAsNamed : Shape → Dealt → Type 0
IsHonouredAsNamed layout dealt = (buffer : ℕ) → dealt.fate ≡ Honoured buffer → judged layout dealt.entry ≡ Some buffer
