-- What a diary says before its first note. No board shows it: opening a board notes the side of a board just opened.
use Rattle.area_layout.specs.Layout.{shape_of}
use Rattle.board_face.specs.{Opened.{new_nic, new_app}, declared.views.{parts.Setting.{Setting}, nic.NicSide.{NicSide}, app.AppSide.{AppSide}}}

abbrev pub blank_setting : Setting
blank_setting = record { layout = shape_of 0 0 0; places = 0 }

abbrev pub blank_nic : NicSide
blank_nic = new_nic blank_setting

abbrev pub blank_app : AppSide
blank_app = new_app blank_setting 0
