-- What makes the sides of a board sound, in the words in which a board keeps it.
use Rattle.std.specs.Prelude.{ℕ, List, All}
use Rattle.zr_kinds.specs.declared.ring.Rqe.{Rqe}
use Rattle.area_layout.specs.Layout.{IsLayout}
use Rattle.board_face.specs.{Counts.{EndedWereReturned}, Fillings.{IsFilledByOne, FillingsFit}, Laws.{AllSides}, Places.{ArePlaced}, Relay.{Relayed}}
use Rattle.board_face.specs.{Sides.{AreNumbered, HaveOneSetting, IsApp}, declared.views.app.{AppSide.{AppSide}, TakenNote.{TakenNote}}}
use Rattle.plain_board.specs.IsLogged.{AreSound, NoneReturns}

-- what lies in the slots of the application is what is on its way
pub record IsRelayed (s : AllSides) (app : AppSide) : Type 0 where
  pub notes : List TakenNote
  pub entries : List Rqe
  pub relayed : Relayed s.nic app notes entries

abbrev pub SoundLaw : Type 0
SoundLaw =
    (s : AllSides) → IsLayout s.nic.view.setting.layout → HaveOneSetting s.nic s.apps → AreNumbered 0 s.apps
    → ((a : ℕ) (app : AppSide) → IsApp s.apps a app → IsRelayed s app) → ((b : ℕ) → All (EndedWereReturned b s.nic) s.apps) → NoneReturns s
    → ((b : ℕ) → ArePlaced b s.nic s.apps) → ((b : ℕ) → IsFilledByOne b s.nic s.apps) → FillingsFit s.nic s.apps → AreSound s
