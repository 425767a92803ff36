-- How the reading goes on beside the card.
use Rattle.std.specs.Prelude.{◌≡◌, ℕ, true, List, [], ◌++◌, length, Option, None, option_to_list}
use Rattle.rtrb.specs.Ring.{IsPair, received, sent, SameProducer}
use Rattle.card_feed.specs.Coming.{is_over}
use Rattle.card_feed.specs.declared.intake.Stage.TheVariants as stage
use Rattle.replay_threads.specs.{declared.{carried.Carried.{Carried}, reader.Reader.{Reader}, reading.Opened.{Opened}}, Made.{IsMade}}

-- all messages that it made: those that were sent, and the one that is held
abbrev pub messages_of : Reader → List Carried
messages_of reader = sent reader.ring ++ option_to_list reader.held

-- all was read and sent
pub record IsReaderDone (reader : Reader) : Type 0 where
  pub none : reader.held ≡ None
  pub over : is_over reader.stage ≡ true

-- Some turns: it made more messages of what it read, at the same ring. Once it is done, it stays so.
pub record ReaderGoes {S : Type 0} (left : S → Option (List ℕ)) (faults : S → ℕ) (source source_now : S) (was now : Reader) : Type 0 where
  pub more : List Carried
  pub made : messages_of now ≡ messages_of was ++ more
  pub is_made : IsMade left faults (length (messages_of was)) source was.stage more source_now now.stage
  pub ring : SameProducer was.ring now.ring
  pub done : IsReaderDone was → IsReaderDone now

-- Nothing was read or sent.
pub record IsReaderOpened (opened : Opened) : Type 0 where
  pub none : messages_of opened.reader ≡ []
  pub stage_is : opened.reader.stage ≡ stage.Unopened
  pub untaken : received opened.frames ≡ []
  pub pair : IsPair opened.reader.ring opened.frames
