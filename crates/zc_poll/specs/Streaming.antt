-- What a contract sees of a stream.
use Rattle.zc_poll.specs.Standing.{Desk}

pub record Streaming (F : Type 0) : Type 0 where
  pub face : F
  pub desk : Desk
