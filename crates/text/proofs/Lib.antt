-- Why the lines of a sheet are read and answered as they are:
--   Longest     no line over 116 bytes has the form
--   Serial      a line that is read has a serial in its range
--   Room        every answer line fits 128 bytes
--   RoundTrip   an input line written is read back as itself
--   Parse, Call for the code: the reader's way through a line, and the equations of a call
pub mod Longest
pub mod Serial
pub mod Room
pub mod RoundTrip
pub mod Parse
pub mod Call
