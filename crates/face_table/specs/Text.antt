-- The bytes of a short text.
use Rattle.std.specs.Prelude.{ℕ, List, take}
use Rattle.face_table.specs.declared.answers.Text.{Text}

abbrev pub text_bytes : Text → List ℕ
text_bytes text = take text.len text.bytes
