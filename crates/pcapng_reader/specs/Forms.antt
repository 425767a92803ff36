-- A capture's state, as the code keeps it, for its callers.
use Rattle.pcapng_reader.specs.{Capture.{Reading}, Records.{classic, blocks}, Steps.{told}, declared.any.Form.{Form, TheVariants.{Classic, Blocks}}}

abbrev pub reading_of_form : Form → Reading
reading_of_form (Classic capture) = record { going = classic capture.order; fault = capture.fault }
reading_of_form (Blocks capture) = record { going = blocks (told capture.section); fault = capture.fault }
