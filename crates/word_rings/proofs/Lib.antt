pub mod Words
pub mod NoteSlots
