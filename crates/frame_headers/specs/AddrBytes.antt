-- The bytes of an address.
use Rattle.std.specs.Prelude.{ℕ, List}
use Rattle.frame_headers.specs.declared.segment.Addr.{Addr, TheVariants.{V4, V6}}

abbrev pub bytes_of_address : Addr → List ℕ
bytes_of_address (V4 bytes) = bytes
bytes_of_address (V6 bytes) = bytes
