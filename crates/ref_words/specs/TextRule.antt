-- Texts: what the lines of the area say of the roles' sides, between any two steps.
use Rattle.std.specs.Prelude.{◌≡◌, ℕ, ◌+◌, ◌%◌, ◌<◌, ◌≤◌, ◌⊎◌, List, [], All, IfSome}
use Rattle.zr_kinds.specs.declared.place.Place.{Place}
use Rattle.area_layout.specs.Layout.{Shape, LiesIn}
use Rattle.board_face.specs.{AppEvents.{begin_place}, AppCalls.{HasSpare, HasLoan}, Holders.{sent_to}, Shown.{AreShown}, Relay.{IsAsSent}}
use Rattle.board_face.specs.declared.views.{parts.{Setting.{Setting}, Filling.{Filling}, Making.{Making}}, nic.NicSide.{NicSide}, app.AppSide.{AppSide}}
use Rattle.ref_words.specs.{Words.{Words}, Lines.{joined, byte_in_area, lines_at}}

-- A text at hand lies in one buffer, and has bytes.
pub record IsAtHand (layout : Shape) (making : Making) : Type 0 where
  pub lies : LiesIn layout making.place
  pub some : 0 < making.place.len

-- The card's begins with a line.
pub record IsInMaking (layout : Shape) (making : Making) : Type 0 where
  pub hand : IsAtHand layout making
  pub aligned : making.place.offset % 64 ≡ 0

-- It is the text of a spare of which nothing is used, and none of it is known to be there,
pub record IsOfSpare (app : AppSide) (making : Making) : Type 0 where
  pub own : Filling
  pub out : HasSpare app.view own
  pub begin : own.start ≡ 0
  pub place : making.place ≡ begin_place own.buffer making.place.len
  pub unknown : making.bytes ≡ []

-- or it is read from a loan, and these bytes stand in its lines.
pub record IsReadFromLoan (layout : Shape) (area : List (List ℕ)) (app : AppSide) (making : Making) : Type 0 where
  pub loan : Place
  pub out : HasLoan app.view loan
  pub buffer : making.place.buffer ≡ loan.buffer
  pub from : loan.offset ≤ making.place.offset
  pub within : making.place.offset + making.place.len ≤ loan.offset + loan.len
  pub stand : joined (lines_at layout area making.place) ≡ making.bytes

-- What an application has at hand is of its spare or its loan, a spare of which nothing is used has no text, and what was read is what was
-- sent to the application, or what it filled a spare with.
pub record HasTexts (layout : Shape) (area : List (List ℕ)) (nic : NicSide) (app : AppSide) : Type 0 where
  pub making : IfSome app.inside.making (λ making. IsAtHand layout making × (IsOfSpare app making ⊎ IsReadFromLoan layout area app making))
  pub unfilled : All (λ s. s.own.start ≡ 0 → s.bytes ≡ []) app.view.owns
  pub reads : All (IsAsSent (sent_to app.view.app nic)) app.view.reads

pub record AreTexts (layout : Shape) (area : List (List ℕ)) (nic : NicSide) (apps : List AppSide) : Type 0 where
  -- the area has each text at its place
  pub shown : AreShown (byte_in_area layout area) nic apps
  -- and the card has the lines of its piece in the making
  pub making : IfSome nic.inside.making (IsInMaking layout)
  pub others : All (HasTexts layout area nic) apps

abbrev pub TextRule : Setting → Words → NicSide → List AppSide → Type 0
TextRule setting words nic apps = AreTexts setting.layout words.area nic apps
